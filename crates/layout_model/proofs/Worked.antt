-- Worked layouts on small stores of 256 bytes a page: plans, trees that grow and shrink, tails and halves.
use Rattle.std.proofs.Common.{◌≡◌, ℕ, Bool, ◌+◌, ◌*◌, true, false, refl, None, List, [], ◌∷◌, ◌++◌, replicate, take, drop, map}
use Rattle.std.specs.List.{range_with_len}
use Rattle.geometry_model.specs.Numbers.{Numbers}
use Rattle.tree_model.specs.declared.entry.Pair.{Pair}
use Rattle.block_model.specs.Place.{place}
use Rattle.layout_model.specs.Parts.{parts_of}
use Rattle.layout_model.specs.declared.part.Part.TheVariants.{Keep, Make}
use Rattle.layout_model.specs.Pack.{pack}
use Rattle.layout_model.specs.declared.extent.Extent.{Extent}
use Rattle.layout_model.specs.declared.change.Change.{Change}
use Rattle.layout_model.specs.Plan.{planned, ask_of}
use Rattle.layout_model.specs.declared.fit.Fit.TheVariants.{Extend, Follow, Fresh}
use Rattle.layout_model.specs.Levels.{PageNode, spliced, nodes_of_levels, count_made, sizes_of}
use Rattle.layout_model.specs.Grants.Answer.{Got, Refused}
use Rattle.layout_model.specs.Layout.{Tree, granted, laid}

-- one space of 16 pages, from page 3 on
abbrev small : Numbers
small = record { page = 256; order = 4; spaces = 1; catalog = 1; threshold = 2 }

abbrev pair : ℕ → ℕ → Pair
pair bytes page = record { bytes = bytes; page = page }

abbrev node : ℕ → List Pair → PageNode
node page pairs = record { page = page; pairs = pairs }

abbrev run : ℕ → ℕ → Extent
run page pages = record { page = page; pages = pages }

-- two pages of bytes from page 3 on
abbrev one_segment : Tree
one_segment = record { levels = (node 5 (pair 512 3 ∷ []) ∷ []) ∷ []; threshold = 2 }

abbrev insert_at : ℕ → Change
insert_at at = record { at = at; removed = 0; added = 1; appends = false }

abbrev append_of : ℕ → ℕ → Change
append_of at added = record { at = at; removed = 0; added = added; appends = true }

-- a byte that is put before the last byte of a page: it and that byte are made, and what is left and right of them is
-- kept
insert-parts : parts_of 256 4096 (pair 512 3 ∷ []) 255 0 1 ≡ Keep (pair 255 3) ∷ Make 2 ∷ Keep (pair 256 4) ∷ []
insert-parts = refl

-- the two on the left have a page each, and are merged; then they have two, and the last one stays
insert-packed : pack 256 2 (parts_of 256 4096 (pair 512 3 ∷ []) 255 0 1) ≡ Make 257 ∷ Keep (pair 256 4) ∷ []
insert-packed = refl

-- at the border of a page nothing is taken with it: the left page is merged with the new byte
insert-at_border : pack 256 2 (parts_of 256 4096 (pair 512 3 ∷ []) 256 0 1) ≡ Make 257 ∷ Keep (pair 256 4) ∷ []
insert-at_border = refl

-- neighbours that aren't merged are left out of what is replaced
insert-plan : planned small 2 (pair 512 3 ∷ pair 512 8 ∷ pair 512 12 ∷ []) 0 (insert_at 700) ≡ record {
  from = 1;
  count = 1;
  parts = Make 257 ∷ Keep (pair 256 9) ∷ [];
  fit = Fresh;
}
unfolding planned
insert-plan = refl

-- a delete of a whole segment makes nothing
delete-plan : planned small 2 (pair 512 3 ∷ pair 512 8 ∷ pair 512 12
    ∷ []) 0 (record { at = 512; removed = 512; added = 0; appends = false }) ≡ record {
      from = 1;
      count = 1;
      parts = [];
      fit = Fresh;
    }
unfolding planned
delete-plan = refl

-- an insert that makes 257 bytes: two pages, and a node
insert-granted : granted small 0 one_segment None (insert_at 255) ((replicate 3 false ++ replicate 13 true) ∷ []) ≡ Got
    (record { runs = (run 7 2 ∷ []) ∷ []; pages = 6 ∷ [] })
    ((replicate 6 false ++ replicate 10 true) ∷ [])
unfolding granted planned spliced place
insert-granted = refl

insert-laid : laid small one_segment None (insert_at 255) (record { runs = (run 7 2 ∷ []) ∷ []; pages = 6 ∷ [] }) ≡ record {
  tree = record { levels = (node 6 (pair 257 7 ∷ pair 256 4 ∷ []) ∷ []) ∷ []; threshold = 2 };
  spare = None;
}
unfolding laid planned spliced
insert-laid = refl

-- so many segments of two pages
abbrev many : ℕ → List Pair
many count = map (λ i. pair 512 (100 + 2 * i)) (range_with_len 0 count)

-- a full node of 20 entries gets one more: two nodes of 11 and 10 entries under a root
grows : nodes_of_levels (spliced 20 ((node 5 (many 20) ∷ []) ∷ []) 20 0 (pair 512 140 ∷ []) (40 ∷ 41 ∷ 42 ∷ [])) ≡
    (node 40 (take 11 (many 21)) ∷ node 41 (drop 11 (many 21)) ∷ []) ∷
    (node 42 (pair 5632 40 ∷ pair 5120 41 ∷ []) ∷ []) ∷ []
unfolding spliced
grows = refl

-- three nodes are made for it
grows-made : count_made (spliced 20 ((node 5 (many 20) ∷ []) ∷ []) 20 0 (pair 512 140 ∷ []) []) ≡ 3
unfolding spliced
grows-made = refl

-- the last entry goes again: the other node joins, and one node of 20 entries is the root
shrinks : nodes_of_levels (spliced 20
    ((node 40 (take 11 (many 21)) ∷ node 41 (drop 11 (many 21)) ∷ []) ∷ (node 42 (pair 5632 40 ∷ pair 5120 41 ∷ []) ∷ []) ∷ [])
    20 1 [] (50 ∷ [])) ≡ (node 50 (many 20) ∷ []) ∷ []
unfolding spliced
shrinks = refl

-- nothing is left: the object is empty
empties : nodes_of_levels (spliced 20 ((node 5 (many 1) ∷ []) ∷ []) 0 1 [] []) ≡ []
unfolding spliced
empties = refl

-- 41 pairs stand in three nodes
sizes-three : sizes_of 20 41 ≡ 14 ∷ 14 ∷ 13 ∷ []
sizes-three = refl

-- the tail of a segment of one page doubles up to the limit
ask-doubles : ask_of 1 3 16 ≡ 6
ask-doubles = refl

ask-limit : ask_of 1 12 16 ≡ 16
ask-limit = refl

-- A page is put behind a segment of one page that has one spare page and is full: the segment grows, on the spare
-- page.
extends : planned small 2 (pair 256 3 ∷ []) 1 (append_of 256 256) ≡ record {
  from = 0;
  count = 1;
  parts = Keep (pair 512 3) ∷ [];
  fit = Extend;
}
unfolding planned
extends = refl

-- A byte is put behind a last page that isn't full. The large segment stays, and the byte stands on the spare page.
follows : planned small 2 (pair 600 3 ∷ []) 1 (append_of 600 1) ≡ record {
  from = 1;
  count = 0;
  parts = Make 1 ∷ [];
  fit = Follow;
}
unfolding planned
follows = refl

-- Five pages where no five are free: halves of three and two pages.
abbrev gaps : List Bool
gaps = replicate 4 true ++ (replicate 4 false ++ (replicate 2 true ++ (replicate 5 false ++ (true ∷ []))))

halves : granted small 0 (record { levels = []; threshold = 2 }) None (append_of 0 1280) (gaps ∷ []) ≡ Got
    (record { runs = (run 3 3 ∷ run 11 2 ∷ []) ∷ []; pages = 6 ∷ [] })
    ((replicate 15 false ++ (true ∷ [])) ∷ [])
unfolding granted planned spliced place
halves = refl

-- three pages where no two are free: three is less than twice the threshold and isn't cut
refuses : granted small 0 (record { levels = []; threshold = 2 }) None (append_of 0 768)
    ((true ∷ false ∷ true ∷ replicate 13 false) ∷ []) ≡ Refused 3
unfolding granted planned spliced place
refuses = refl
