-- What a plan of a change says, over every device and over one that tells.
use Rattle.std.specs.Prelude.{◌≡◌, ℕ, ◌+◌, ◌-◌, ◌≤◌, List, [], ◌∷◌, ◌++◌, length, map, take}
use Rattle.std.specs.List.{AllByRecursion}
use Rattle.geometry_model.specs.Numbers.{Numbers, space_pages}
use Rattle.tree_model.specs.declared.entry.Pair.{Pair}
use Rattle.tree_model.specs.Tree.{Pages, IsSegment, bytes_of, page_count}
use Rattle.layout_model.specs.declared.fit.Fit.{Fit}
use Rattle.layout_model.specs.declared.fit.Fit.TheVariants.{Extend, Follow, Fresh}
use Rattle.layout_model.specs.declared.request.Request.{Request}
use Rattle.layout_model.specs.Layout.{tree_entries, plan_of, wanted}
use Rattle.layout_model.specs.Parts.{part_bytes}
use Rattle.layout_model.specs.Plan.{extent_pages, made_part_bytes}
use Rattle.layout_laws.specs.Merging.{parts_bytes}
use Rattle.content_laws.specs.Spelling.{IsPacked, edited_content}
use Rattle.let_go_laws.specs.LetGo.{replaced_entries}
use Rattle.laid_content_laws.specs.Written.{behind_front}
use Rattle.span_store.specs.Held.{Held, HoldsRun}
use Rattle.edit_parts.specs.declared.part.Part.{Part}
use Rattle.edit_parts.specs.declared.part.Part.TheVariants.{Keep}
use Rattle.edit_parts.specs.Parts.{layout_part, parts_content, pieces_of}
use Rattle.part_bytes.specs.Gathering.{CanGather}
use Rattle.part_store.specs.Asking.{IsAskable}
use Rattle.object_plan.specs.declared.working_tree.WorkingTree.{WorkingTree}
use Rattle.object_plan.specs.declared.planned.Planned.{Planned}
use Rattle.object_plan.specs.WorkingTree.{tree_on}

-- each made part is asked for by the pages of its bytes, and may be: a space has as many
pub record AreAskedFor (size limit : ℕ) (parts : List Part) (requests : List Request) : Type 0 where
  pub needs : map (λ request. request.need) requests
      ≡ map (page_count size) (made_part_bytes (map layout_part parts))
  pub asked : AllByRecursion (IsAskable limit) requests

-- the one made part has as many pages as there are spare ones, or fewer
pub record FollowsOn (size spare : ℕ) (parts : List Part) : Type 0 where
  pub bytes : ℕ
  pub one : made_part_bytes (map layout_part parts) ≡ bytes ∷ []
  pub fits : page_count size bytes ≤ spare

-- there is one part, which stays and grows, and the spare pages have room for the new bytes
pub record ExtendsOn (size spare added : ℕ) (parts : List Part) : Type 0 where
  pub pair : Pair
  pub one : parts ≡ Keep pair ∷ []
  pub fits : page_count size added ≤ spare

-- where the new bytes go: the made parts are asked for, or the one made part fits onto the spare
-- pages, or the new bytes do
abbrev pub GoesTo : Fit → Numbers → ℕ → ℕ → List Part → List Request → Type 0
GoesTo Fresh n spare added parts requests = AreAskedFor n.page (space_pages n) parts requests
GoesTo Follow n spare added parts requests = (requests ≡ []) × FollowsOn n.page spare parts
GoesTo Extend n spare added parts requests = (requests ≡ []) × ExtendsOn n.page spare added parts

-- an entry names a segment of the store, on pages that are held
pub record IsHeldEntry (n : Numbers) (held : Held) (p : Pair) : Type 0 where
  pub segment : IsSegment n p
  pub pages : HoldsRun held p.page (page_count n.page p.bytes)

-- What a plan says over every device, so that the change can be made: it replaces bytes within the
-- object, segments of the store that are held, by parts that have as many bytes as they should, whose pieces can
-- be gathered, and which can be asked for or fit onto the spare pages.
pub record CanMake (n : Numbers) (held : Held) (w : WorkingTree) (p : Planned) : Type 0 where
  pub order : p.from ≤ p.to
  pub inside : p.to ≤ w.root.length
  pub replaced : AllByRecursion (IsHeldEntry n held) p.replaced.items
  pub count : p.from + bytes_of p.replaced.items ≡ p.to
  pub bytes : parts_bytes (map layout_part p.parts.items) + p.change.removed ≡ (p.to - p.from) + p.change.added
  pub some : AllByRecursion (λ part. 1 ≤ part_bytes (layout_part part)) p.parts.items
  pub pieces : IsPacked p.fit → AllByRecursion (CanGather held n.page p.change.added)
      (pieces_of p.parts.items)
  pub goes : GoesTo p.fit n (extent_pages w.spare) p.change.added p.parts.items p.requests.items

-- bytes are the first of others
abbrev pub IsFrontOf : List ℕ → List ℕ → Type 0
IsFrontOf front all = (rest : List ℕ) × (front ++ rest ≡ all)

-- The pages are told: it is the plan of the definition, with its entries named by the bytes at which
-- they begin and end, and its parts spell the edited bytes from there on, whatever the payload.
pub record IsPlanOf (n : Numbers) (at : Pages) (w : WorkingTree) (p : Planned) : Type 0 where
  pub few : (plan_of n (tree_on at w) w.spare p.change).from
      + (plan_of n (tree_on at w) w.spare p.change).count ≤ length (tree_entries (tree_on at w))
  pub first : p.from
      ≡ bytes_of (take (plan_of n (tree_on at w) w.spare p.change).from (tree_entries (tree_on at w)))
  pub last : p.to ≡ bytes_of (take ((plan_of n (tree_on at w) w.spare p.change).from
      + (plan_of n (tree_on at w) w.spare p.change).count) (tree_entries (tree_on at w)))
  pub replaced : p.replaced.items
      ≡ replaced_entries (tree_entries (tree_on at w)) (plan_of n (tree_on at w) w.spare p.change)
  pub parts : map layout_part p.parts.items ≡ (plan_of n (tree_on at w) w.spare p.change).parts
  pub fit : p.fit ≡ (plan_of n (tree_on at w) w.spare p.change).fit
  pub requests : p.requests.items
      ≡ wanted n (tree_on at w) p.change (plan_of n (tree_on at w) w.spare p.change)
  pub spells : IsPacked p.fit → (payload : List ℕ) → length payload ≡ p.change.added →
      IsFrontOf (parts_content at n.page payload p.parts.items)
      (behind_front (tree_entries (tree_on at w)) (plan_of n (tree_on at w) w.spare p.change)
      (edited_content at n.page (tree_entries (tree_on at w)) p.change payload))
