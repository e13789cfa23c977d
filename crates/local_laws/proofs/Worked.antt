-- Worked exchanges, with nodes of at most four pairs.
use Rattle.std.proofs.Common.{◌≡◌, ℕ, List, [], ◌∷◌, map, refl, arith, inl, inr}
use Rattle.tree_model.specs.declared.entry.Pair.{Pair}
use Rattle.layout_model.specs.Levels.{PageNode, NewLevel, level_after, spliced}
use Rattle.local_laws.specs.Cut.{Cut, whole, widened, IsEnough}
use Rattle.local_laws.specs.Path.{splice_path, shown, widened_path, IsWay}
use Rattle.local_laws.specs.Left.{cut_run, nodes_left}
use Rattle.local_laws.proofs.CutLemmas.{level-local}
use Rattle.local_laws.proofs.PathLemmas.{path-local}

-- a segment of a page of 256 bytes
abbrev seg : ℕ → Pair
seg page = record { bytes = 256; page = page }

abbrev node : ℕ → List Pair → PageNode
node page pairs = record { page = page; pairs = pairs }

-- four nodes of 3, 2, 3 and 2 pairs, of which the two in the middle are known
abbrev middle : Cut
middle = record {
  front = node 30 (seg 1 ∷ seg 2 ∷ seg 3 ∷ []) ∷ [];
  run = node 31 (seg 4 ∷ seg 5 ∷ []) ∷ node 32 (seg 6 ∷ seg 7 ∷ seg 8 ∷ []) ∷ [];
  back = node 33 (seg 9 ∷ seg 10 ∷ []) ∷ [];
}

-- Two pairs of the third node go, numbers 5 and 6 of the level. One pair is left, fewer than half of a node, and the
-- node before it joins, which is in the run.
middle-enough : IsEnough 4 middle 5 2 []
middle-enough = record { starts = omega arith; ends = omega arith; beside = λ some few. inl (omega arith) }

middle-level : level_after 4 (whole middle) 5 2 [] (40 ∷ []) ≡ record {
  nodes = node 30 (seg 1 ∷ seg 2 ∷ seg 3 ∷ []) ∷ node 40 (seg 4 ∷ seg 5 ∷ seg 8 ∷ []) ∷ node 33 (seg 9 ∷ seg 10 ∷ []) ∷ [];
  from = 1;
  count = 2;
  made = node 40 (seg 4 ∷ seg 5 ∷ seg 8 ∷ []) ∷ [];
}
middle-level = refl

-- in the run they are numbers 2 and 3
middle-run : level_after 4 middle.run 2 2 [] (40 ∷ []) ≡ record {
  nodes = node 40 (seg 4 ∷ seg 5 ∷ seg 8 ∷ []) ∷ [];
  from = 0;
  count = 2;
  made = node 40 (seg 4 ∷ seg 5 ∷ seg 8 ∷ []) ∷ [];
}
middle-run = refl

middle-local : level_after 4 (whole middle) 5 2 [] (40 ∷ []) ≡ widened middle (level_after 4 middle.run 2 2 [] (40 ∷ []))
middle-local = level-local 4 middle 5 2 [] (40 ∷ []) middle-enough

-- ---- growth: three entries more in a tree of two levels, whose root is full

abbrev pair : ℕ → ℕ → Pair
pair bytes page = record { bytes = bytes; page = page }

-- of the lowest level only the third node is known
abbrev third : Cut
third = record {
  front = node 30 (seg 1 ∷ seg 2 ∷ seg 3 ∷ []) ∷ node 31 (seg 4 ∷ seg 5 ∷ []) ∷ [];
  run = node 32 (seg 6 ∷ seg 7 ∷ seg 8 ∷ []) ∷ [];
  back = node 33 (seg 9 ∷ seg 10 ∷ []) ∷ [];
}

abbrev full_root : Cut
full_root = record { front = []; run = node 50 (pair 768 30 ∷ pair 512 31 ∷ pair 768 32 ∷ pair 512 33 ∷ []) ∷ []; back = [] }

abbrev three_more : List Pair
three_more = seg 21 ∷ seg 22 ∷ seg 23 ∷ []

abbrev new_pages : List ℕ
new_pages = 40 ∷ 41 ∷ 42 ∷ 43 ∷ 44 ∷ []

-- they stand before entry number 7; six pairs are left in the node, so none joins
growth-way : IsWay 4 third (full_root ∷ []) 7 0 three_more
growth-way = record {
  enough = record { starts = omega arith; ends = omega arith; beside = λ some few. absurd (omega (arith, few)) };
  emptied = λ none. absurd (omega (arith, none));
  leads = (record { starts = omega arith; ends = omega arith; beside = inr (refl, inl refl) }, (refl, refl));
}

-- the runs show two nodes in place of one, a root cut in two, and a new root
growth-path : splice_path 4 (shown (third ∷ full_root ∷ [])) 2 0 three_more new_pages ≡
    record {
      nodes = node 40 (seg 6 ∷ seg 7 ∷ seg 21 ∷ []) ∷ node 41 (seg 22 ∷ seg 23 ∷ seg 8 ∷ []) ∷ [];
      from = 0;
      count = 1;
      made = node 40 (seg 6 ∷ seg 7 ∷ seg 21 ∷ []) ∷ node 41 (seg 22 ∷ seg 23 ∷ seg 8 ∷ []) ∷ [];
    } ∷ record {
      nodes = node 42 (pair 768 30 ∷ pair 512 31 ∷ pair 768 40 ∷ []) ∷ node 43 (pair 768 41 ∷ pair 512 33 ∷ []) ∷ [];
      from = 0;
      count = 1;
      made = node 42 (pair 768 30 ∷ pair 512 31 ∷ pair 768 40 ∷ []) ∷ node 43 (pair 768 41 ∷ pair 512 33 ∷ []) ∷ [];
    } ∷ record {
      nodes = node 44 (pair 2048 42 ∷ pair 1280 43 ∷ []) ∷ [];
      from = 0;
      count = 1;
      made = node 44 (pair 2048 42 ∷ pair 1280 43 ∷ []) ∷ [];
    } ∷ []
unfolding splice_path
growth-path = refl

-- and so do the levels of the tree, with the nodes before and behind the third
growth-levels : map (λ (level : NewLevel). level.nodes) (spliced 4 (map whole (third ∷ full_root ∷ [])) 7 0 three_more new_pages) ≡
    (node 30 (seg 1 ∷ seg 2 ∷ seg 3 ∷ []) ∷ node 31 (seg 4 ∷ seg 5 ∷ []) ∷ node 40 (seg 6 ∷ seg 7 ∷ seg 21 ∷ [])
    ∷ node 41 (seg 22 ∷ seg 23 ∷ seg 8 ∷ []) ∷ node 33 (seg 9 ∷ seg 10 ∷ []) ∷ [])
    ∷ (node 42 (pair 768 30 ∷ pair 512 31 ∷ pair 768 40 ∷ []) ∷ node 43 (pair 768 41 ∷ pair 512 33 ∷ []) ∷ [])
    ∷ (node 44 (pair 2048 42 ∷ pair 1280 43 ∷ []) ∷ []) ∷ []
unfolding spliced
growth-levels = refl

growth-local : spliced 4 (map whole (third ∷ full_root ∷ [])) 7 0 three_more new_pages
    ≡ widened_path (third ∷ full_root ∷ []) (splice_path 4 (shown (third ∷ full_root ∷ [])) 2 0 three_more new_pages)
growth-local = path-local 4 third (full_root ∷ []) 7 0 three_more new_pages (omega arith) growth-way

-- ---- loss: two entries less in a tree of three levels, of which two stay

abbrev two_nodes : Cut
two_nodes = record { front = []; run = node 50 (pair 768 30 ∷ pair 512 31 ∷ []) ∷ node 51 (pair 768 32 ∷ pair 512 33 ∷ []) ∷ []; back = [] }

abbrev root : Cut
root = record { front = []; run = node 60 (pair 1280 50 ∷ pair 1280 51 ∷ []) ∷ []; back = [] }

loss-way : IsWay 4 middle (two_nodes ∷ root ∷ []) 5 2 []
loss-way = record {
  enough = middle-enough;
  emptied = λ none. inl (omega arith);
  leads = (
    record { starts = omega arith; ends = omega arith; beside = inr (refl, inl refl) },
    (record { starts = omega arith; ends = omega arith; beside = inr (refl, inl refl) }, (refl, refl)),
  );
}

-- on the lowest level a node joins, and one is made of the two above: it is the root
loss-path : splice_path 4 (shown (middle ∷ two_nodes ∷ root ∷ [])) 2 2 [] (40 ∷ 41 ∷ []) ≡
    record {
      nodes = node 40 (seg 4 ∷ seg 5 ∷ seg 8 ∷ []) ∷ [];
      from = 0;
      count = 2;
      made = node 40 (seg 4 ∷ seg 5 ∷ seg 8 ∷ []) ∷ [];
    } ∷ record {
      nodes = node 41 (pair 768 30 ∷ pair 768 40 ∷ pair 512 33 ∷ []) ∷ [];
      from = 0;
      count = 2;
      made = node 41 (pair 768 30 ∷ pair 768 40 ∷ pair 512 33 ∷ []) ∷ [];
    } ∷ []
unfolding splice_path
loss-path = refl

loss-local : spliced 4 (map whole (middle ∷ two_nodes ∷ root ∷ [])) 5 2 [] (40 ∷ 41 ∷ [])
    ≡ widened_path (middle ∷ two_nodes ∷ root ∷ []) (splice_path 4 (shown (middle ∷ two_nodes ∷ root ∷ [])) 2 2 [] (40 ∷ 41 ∷ []))
loss-local = path-local 4 middle (two_nodes ∷ root ∷ []) 5 2 [] (40 ∷ 41 ∷ []) (omega arith) loss-way

-- ---- what is left

-- the two nodes of the run, the two above and the old root are left
loss-left : nodes_left (map cut_run (middle ∷ two_nodes ∷ root ∷ []))
    (splice_path 4 (shown (middle ∷ two_nodes ∷ root ∷ [])) 2 2 [] (40 ∷ 41 ∷ [])) ≡
    node 31 (seg 4 ∷ seg 5 ∷ []) ∷ node 32 (seg 6 ∷ seg 7 ∷ seg 8 ∷ [])
    ∷ node 50 (pair 768 30 ∷ pair 512 31 ∷ []) ∷ node 51 (pair 768 32 ∷ pair 512 33 ∷ [])
    ∷ node 60 (pair 1280 50 ∷ pair 1280 51 ∷ []) ∷ []
unfolding splice_path
loss-left = refl
