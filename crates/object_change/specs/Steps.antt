-- The steps in which a change is made: runs are granted and held, the new bytes are put on them or
-- on the spare, and the entries are exchanged.
use Rattle.std.specs.Prelude.{◌≡◌, ℕ, ◌+◌, ◌^◌, ◌<◌, ◌≤◌, Bool, IsTrue, List, [], ◌∷◌}
use Rattle.std.specs.Prelude.{length, map, Option, None, Some, Result, Ok, Err, IfOk}
use Rattle.std.specs.Prelude.{IfSome, OnOk}
use Rattle.std.specs.List.{AllByRecursion}
use Rattle.geometry_model.specs.Numbers.{Numbers, fan_out}
use Rattle.fault_count.specs.Counts.{HasCause, IsUsed, Meter}
use Rattle.tree_model.specs.Tree.{Pages}
use Rattle.tree_model.specs.declared.entry.Pair.{Pair}
use Rattle.layout_model.specs.declared.extent.Extent.{Extent}
use Rattle.layout_model.specs.declared.fit.Fit.{Fit}
use Rattle.layout_model.specs.declared.fit.Fit.TheVariants.{Extend, Follow, Fresh}
use Rattle.layout_model.specs.Grants.{Got, Refused, node_pages}
use Rattle.layout_model.specs.Layout.{laid_entries, laid_levels, plan_of, spare_after}
use Rattle.layout_model.specs.Plan.{Plan, made_part_bytes}
use Rattle.layout_model.specs.Levels.{count_made}
use Rattle.layout_laws.specs.Merging.{parts_bytes}
use Rattle.content_laws.specs.Spelling.{IsPacked}
use Rattle.let_go_laws.specs.LetGo.{spare_run}
use Rattle.moment_model.specs.Version.{uses, version_uses}
use Rattle.moment_laws.specs.Granting.{page_run}
use Rattle.space_directory.specs.SpaceView.{SpaceView}
use Rattle.superdirectory.specs.Grants.{AreTold, KeepsFrame, free_sets}
use Rattle.superdirectory.specs.Parts.{IsLaid}
use Rattle.superdirectory.specs.Rest.{Frame, Rest, count}
use Rattle.superdirectory.specs.Trace.{Part}
use Rattle.span_store.specs.Held.{AllSized, Held, bytes_on}
use Rattle.node_codec.specs.PairList.{PairList}
use Rattle.edit_parts.specs.declared.part.Part as edit
use Rattle.edit_parts.specs.declared.piece.Piece.{Piece}
use Rattle.edit_parts.specs.Parts.{layout_part, pieces_of}
use Rattle.part_bytes.specs.declared.part.WriteFail.{WriteFail}
use Rattle.part_bytes.specs.declared.part.WriteFail.TheVariants as write
use Rattle.part_bytes.specs.Parts.{IsApart, PartsStand}
use Rattle.part_bytes.specs.Runs.{ChangesRuns, HoldsRuns, StandOn}
use Rattle.part_store.specs.Asking.{rows}
use Rattle.object_body.specs.declared.fails.EditFail.{EditFail}
use Rattle.object_body.specs.declared.fails.EditFail.TheVariants.{Fault, Memory, NoSpace}
use Rattle.object_body.specs.Moves.{IsUntouched}
use Rattle.object_body.specs.Places.{AreHome, IsReady, IsStore}
use Rattle.object_plan.specs.declared.planned.Planned.{Planned}
use Rattle.object_plan.specs.declared.working_tree.WorkingTree.{WorkingTree}
use Rattle.object_plan.specs.Planned.{CanMake, IsPlanOf}
use Rattle.object_plan.specs.WorkingTree.{CanChange, IsToldWorking, tree_on}
use Rattle.tree_read.specs.Search.{KeepsNodes}
use Rattle.tree_splice.specs.declared.failure.SpliceFail.{SpliceFail}
use Rattle.tree_splice.specs.declared.failure.SpliceFail.TheVariants as splice
use Rattle.tree_splice.specs.declared.new_tree.Spliced.{Spliced}
use Rattle.tree_splice.specs.Splice.{ArePagesIn, HoldsNew, IsSpliced, firsts_of, single_run}
use Rattle.object_change.specs.declared.changed.Changed.{Changed}
use Rattle.object_change.specs.Changed.{parts_plan}
use Rattle.object_change.specs.Scene.{HoldsSpare, Scene, filled_pages}
use Rattle.held_parts.specs.Asking.{AreBare, AreRunsFor}
use Rattle.held_parts.specs.Entries.{AreLowRuns, HaveRuns}
use Rattle.held_parts.specs.Holding.{KeepsRight}
use Rattle.held_parts.specs.Spaces.{AreTakenOut, IsLowFor}

-- ---- the new bytes are put on pages

-- the runs on which the new bytes are put: those that were granted, or the spare
abbrev pub put_runs : Fit → Option Extent → List Extent → List Extent
put_runs Fresh spare runs = runs
put_runs Follow spare runs = spare_run spare
put_runs Extend spare runs = spare_run spare

-- the new bytes stand there: the made parts on their runs, the one made part on the spare, or the
-- payload on the spare
abbrev pub StandPut : Fit → ℕ → Pages → Pages → List ℕ → List edit.Part → List ℕ → List Extent →
    Option Extent → Type 0
StandPut Fresh size now at payload parts counts runs spare =
    PartsStand now size at payload parts counts runs
StandPut Follow size now at payload parts counts runs spare =
    PartsStand now size at payload parts (1 ∷ []) (spare_run spare)
StandPut Extend size now at payload parts counts runs spare =
    StandOn now size (spare_run spare) payload

-- the pieces of the first made part
abbrev pub first_made : List edit.Part → Option (List Piece)
first_made [] = None
first_made (edit.TheVariants.Keep pair ∷ parts) = first_made parts
first_made (edit.TheVariants.Make pieces ∷ parts) = Some pieces

-- What putting the new bytes on their runs does, and the entries that stand for them. The runs were
-- granted for the made parts, so many for each.
pub record PutsNewBytes (tells : Bool) (n : Numbers) (spare : Option Extent) (p : Planned)
    (payload counts : List ℕ) (runs : List Extent) (result : Result PairList WriteFail)
    (old new : Held) (before after : Meter) : Type 0 where
  pub entries : IfOk result (λ e. e.items ≡ laid_entries n spare (parts_plan p) (rows counts runs))
  pub stands : OnOk result (IsTrue tells → StandPut p.fit n.page (bytes_on new) (bytes_on old)
      payload p.parts.items counts runs spare)
  pub others : ChangesRuns tells n.page (put_runs p.fit spare runs) old new
  pub used : IsUsed before after
  pub most : after.written ≤ before.written + filled_pages n.page p
  pub cause : HasCause before.faults after.faults (result ≡ Err write.Fault)

-- What it takes to put them there: the runs are held and as long as the parts ask; and where the
-- device tells, no old byte of the parts is on them.
pub record CanPut (tells : Bool) (n : Numbers) (w : WorkingTree) (p : Planned)
    (payload counts : List ℕ) (runs : List Extent) (held : Held) (meter : Meter)
    : Type 0 where
  pub page : meter.page ≡ n.page
  pub sized : AllSized tells n.page held
  pub spare : HoldsSpare held w.spare
  pub plan : CanMake n held w p
  pub small : parts_bytes (map layout_part p.parts.items) < 2 ^ 63
  pub paid : length payload ≡ p.change.added
  pub granted : AreRunsFor n w.threshold p.requests.items counts runs
  pub holds : HoldsRuns held runs
  pub apart : IsTrue tells → IsPacked p.fit →
      AllByRecursion (IsApart n.page runs) (pieces_of p.parts.items)

-- what is asked to find the spare pages that a change leaves
pub record CanSpare (n : Numbers) (spare : Option Extent) (p : Planned) (entries : List Pair)
    (counts : List ℕ) (runs : List Extent) : Type 0 where
  pub entries_are : entries ≡ laid_entries n spare (parts_plan p) (rows counts runs)
  pub entries_few : AllByRecursion (λ q. q.bytes < 2 ^ 63) entries
  pub added_few : p.change.added < 2 ^ 63
  pub spare_low : IfSome spare (λ run. run.page + run.pages < 2 ^ 32)
  pub low : AreLowRuns runs
  pub have : p.fit ≡ Fresh → HaveRuns p.parts.items counts runs
  pub whole : p.fit ≡ Fresh →
      length counts ≡ length (made_part_bytes (map layout_part p.parts.items))

-- ---- the entries are exchanged

-- pages for nodes were taken from the told spaces, as the rule of single pages says
pub record TakesPages (n : Numbers) (start : ℕ) (pages : List ℕ) (views : List SpaceView)
    (frame : Frame) (rest : Rest) : Type 0 where
  pub after : List SpaceView
  pub told : AreTold rest after
  pub answer : IsLaid n frame.firsts →
      node_pages n start (length pages) (free_sets views) ≡ Got pages (free_sets after)
  pub out : IsStore n frame → AreHome frame views →
      AreTakenOut n frame (map page_run pages) views rest

-- What came of the told spaces where nodes were asked for: they are without the pages; or the very
-- same, and the rule refuses one of so many pages as are wanted; or their pages are as they were.
abbrev pub HasExchanged : Numbers → ℕ → (ℕ → Type 0) → List SpaceView → Frame →
    Result (PairList × Spliced) EditFail → Rest → Type 0
HasExchanged n start wants views frame (Ok r) rest =
    TakesPages n start (firsts_of r.1.made) views frame rest
HasExchanged n start wants views frame (Err (NoSpace pages)) rest =
    (want : ℕ) × wants want × AreTold rest views × (IsLaid n frame.firsts →
    node_pages n start want (free_sets views) ≡ Refused 1)
HasExchanged n start wants views frame (Err Fault) rest =
    AreHome frame views → IsUntouched n frame views rest
HasExchanged n start wants views frame (Err Memory) rest =
    AreHome frame views → IsUntouched n frame views rest

-- pages were made on what was held once the new bytes were put there, or nothing came besides
abbrev pub HoldsMade : Held → Held → Result (PairList × Spliced) EditFail → Type 0
HoldsMade put new (Ok r) = HoldsNew r.1.made put new
HoldsMade put new (Err fail) = new.spans ≡ put.spans

-- why the bytes weren't written, or the entries not exchanged, as a refusal of the edit
abbrev pub of_write : WriteFail → EditFail
of_write write.Fault = Fault
of_write write.Memory = Memory

abbrev pub of_splice : SpliceFail → EditFail
of_splice splice.NoSpace = NoSpace 1
of_splice splice.Fault = Fault
of_splice splice.Memory = Memory

-- the object that comes of the runs, the entries and the tree
pub record IsChangedTo (n : Numbers) (spare : Option Extent) (p : Planned) (counts : List ℕ)
    (runs : List Extent) (entries : List Pair) (s : Spliced) (c : Changed) : Type 0 where
  pub root_is : c.root ≡ s.root
  pub spare_is : c.spare ≡ spare_after n spare p.change (parts_plan p) (rows counts runs)
  pub entries_are : c.entries.items ≡ entries
  pub runs_are : c.runs.items ≡ runs
  pub counts_are : c.counts.items ≡ counts
  pub made_are : c.made ≡ s.made
  pub left_are : c.left ≡ s.left

-- What it takes to put the new bytes and exchange the entries, once runs were granted and held: as
-- to make the change, with the runs among what is held.
pub record CanChangeOn (tells : Bool) (n : Numbers) (start : ℕ) (w : WorkingTree) (p : Planned)
    (payload counts : List ℕ) (runs : List Extent) (s : Scene) : Type 0 where
  pub ready : IsReady n s.rest
  pub start_there : start < count s.rest
  pub nodes : KeepsNodes tells n.page (bytes_on s.held) s.nodes
  pub bare : IsTrue tells → AreBare runs s.nodes
  pub put : CanPut tells n w p payload counts runs s.held s.meter
  pub change : CanChange n w p.change
  pub told : IsTrue tells → IsToldWorking n s.held w × IsPlanOf n (bytes_on s.held) w p
  pub off : IsTrue tells → (q : ℕ) → 0 < version_uses n q (Some (tree_on (bytes_on s.held) w)) →
      uses q (put_runs p.fit w.spare runs) ≡ 0

-- the plan of a change of the tree that these pages show
abbrev pub its_plan : Numbers → Pages → WorkingTree → Planned → Plan
its_plan n at w p = plan_of n (tree_on at w) w.spare p.change

-- Once runs were granted and held, the new bytes are put there and the entries exchanged: what is
-- held was put so, and then the nodes were made.
pub record ChangesOn (tells : Bool) (n : Numbers) (start : ℕ) (w : WorkingTree) (p : Planned)
    (payload counts : List ℕ) (runs : List Extent)
    (result : Result (PairList × Spliced) EditFail) (before after : Scene) : Type 0 where
  pub entries : IfOk result
      (λ r. r.0.items ≡ laid_entries n w.spare (parts_plan p) (rows counts runs))
  pub total : IfOk result
      (λ r. r.1.root.length + p.change.removed ≡ w.root.length + p.change.added)
  pub single : IfOk result (λ r. r.1.made ≡ map single_run (firsts_of r.1.made))
  pub home : IfOk result (λ r. ArePagesIn before.rest.frame (firsts_of r.1.made))
  pub put : Held
  pub others : ChangesRuns tells n.page (put_runs p.fit w.spare runs) before.held put
  pub made : HoldsMade put after.held result
  pub right : KeepsRight tells n after.held after.nodes
  pub frame : KeepsFrame before.rest after.rest
  pub low : Part (IsLowFor (count before.rest) result) before.trace after.trace
  pub few : (pages : ℕ) → result ≡ Err (NoSpace pages) → pages ≡ 1
  pub stands : IsTrue tells → IfOk result (λ r. StandPut p.fit n.page (bytes_on after.held)
      (bytes_on before.held) payload p.parts.items counts runs w.spare)
  pub spliced : IsTrue tells → IfOk result (λ r. IsSpliced (fan_out n) (bytes_on before.held)
      (bytes_on after.held) w.root r.1.root (its_plan n (bytes_on before.held) w p).from
      (its_plan n (bytes_on before.held) w p).count r.0.items r.1.made r.1.left)
  pub given : (views : List SpaceView) → AreTold before.rest views →
      length views ≡ count before.rest →
      HasExchanged n start (λ want. IsTrue tells → want ≡ count_made (laid_levels n
      (tree_on (bytes_on before.held) w) w.spare (its_plan n (bytes_on before.held) w p)
      (rows counts runs) [])) views before.rest.frame result after.rest
  pub used : IsUsed before.meter after.meter
  pub most : IsTrue tells → after.meter.written ≤ before.meter.written + filled_pages n.page p
      + count_made (laid_levels n (tree_on (bytes_on before.held) w) w.spare
      (its_plan n (bytes_on before.held) w p) (rows counts runs) [])
  pub cause : HasCause before.meter.faults after.meter.faults (result ≡ Err Fault)
