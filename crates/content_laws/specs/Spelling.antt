-- What is said of parts and the bytes that they stand for.
use Rattle.std.specs.Prelude.{◌≡◌, ℕ, ◌+◌, ◌<◌, ◌≤◌, List, [], ◌∷◌, ◌++◌, length, map, take, drop}
use Rattle.std.specs.List.{AllByRecursion}
use Rattle.tree_model.specs.declared.entry.Pair.{Pair}
use Rattle.tree_model.specs.Tree.{Pages, page_count}
use Rattle.tree_model.specs.Content.{content, segment_bytes}
use Rattle.layout_model.specs.declared.part.Part.{Part}
use Rattle.layout_model.specs.declared.part.Part.TheVariants.{Keep, Make}
use Rattle.layout_model.specs.declared.change.Change.{Change}
use Rattle.layout_model.specs.declared.extent.Extent.{Extent}
use Rattle.layout_model.specs.declared.fit.Fit.{Fit}
use Rattle.layout_model.specs.declared.fit.Fit.TheVariants.{Extend, Follow, Fresh}
use Rattle.layout_model.specs.Plan.{Plan, last_entry}
use Rattle.layout_model.specs.Layout.{segments_on}

-- each entry has a byte
abbrev pub HaveBytes : List Pair → Type 0
HaveBytes entries = AllByRecursion (λ p. 1 ≤ p.bytes) entries

-- each page of a segment is there, with all its bytes
abbrev pub IsThere : Pages → ℕ → Pair → Type 0
IsThere at size p = (k : ℕ) → k < page_count size p.bytes → length (at (p.page + k)) ≡ size

-- parts spell bytes in their order: a kept one has those of its segment, a made one stands for as
-- many as it has
abbrev pub Spells : Pages → ℕ → List Part → List ℕ → Type 0
Spells at size [] bytes = bytes ≡ []
Spells at size (Keep pair ∷ rest) bytes =
    (pair.bytes ≤ length bytes) × (take pair.bytes bytes ≡ segment_bytes at size pair)
    × Spells at size rest (drop pair.bytes bytes)
Spells at size (Make count ∷ rest) bytes = (count ≤ length bytes)
    × Spells at size rest (drop count bytes)

-- all parts of an object in a plan: the entries before those that are replaced, the plan's parts,
-- and the entries behind
abbrev pub all_parts : List Pair → Plan → List Part
all_parts entries plan =
    map Keep (take plan.from entries)
    ++ (plan.parts ++ map Keep (drop (plan.from + plan.count) entries))

-- the content after a change: the bytes before it, those that it brings, and those behind what it
-- removes
abbrev pub edited_content : Pages → ℕ → List Pair → Change → List ℕ → List ℕ
edited_content at size entries change payload =
    take change.at (content at size entries)
    ++ (payload ++ drop (change.at + change.removed) (content at size entries))

-- the change isn't one that grows the last segment
abbrev pub IsPacked : Fit → Type 0
IsPacked Extend = ⊥
IsPacked Follow = Unit {0}
IsPacked Fresh = Unit {0}

-- The pages afterwards: a kept part's hold what they held, and each made part's runs hold its
-- stretch of the bytes.
abbrev pub AreWritten : Pages → Pages → ℕ → List Part → List (List Extent) → List ℕ → Type 0
AreWritten at now size [] runs bytes = Unit {0}
AreWritten at now size (Keep pair ∷ rest) runs bytes =
    (segment_bytes now size pair ≡ segment_bytes at size pair)
    × AreWritten at now size rest runs (drop pair.bytes bytes)
AreWritten at now size (Make count ∷ rest) [] bytes = ⊥
AreWritten at now size (Make count ∷ rest) (run ∷ runs) bytes =
    (content now size (segments_on size count run) ≡ take count bytes)
    × AreWritten at now size rest runs (drop count bytes)

-- the segment of so many bytes on the pages behind the last one
abbrev pub behind_last : ℕ → List Pair → ℕ → Pair
behind_last size entries count =
    record {
      bytes = count;
      page = (last_entry entries).page + page_count size
          (last_entry entries).bytes;
    }

-- the last segment with so many more bytes
abbrev pub grown_last : List Pair → ℕ → Pair
grown_last entries count = record {
  bytes = (last_entry entries).bytes + count;
  page =
      (last_entry entries).page;
}
