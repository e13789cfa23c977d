-- Everything is ready for the dropped pages of a change to go: its runs are held, and have numbers of 4 bytes.
use Rattle.std.proofs.Common.{◌≡◌, ℕ, ◌+◌, ◌-◌, ◌^◌, ◌<◌, ◌≤◌, List, [], ◌∷◌, ◌++◌, map, Option, Some, None, IfSome}
use Rattle.std.proofs.Common.{refl, sym, ap, arith, ◌∙◌, inl, inr}
use Rattle.std.specs.List.{AllByRecursion}
use Rattle.base_laws.proofs.ListLaws.{all-append, all-map}
use Rattle.geometry_model.specs.Numbers.{Numbers, IsInRange}
use Rattle.layout_model.specs.declared.extent.Extent.{Extent}
use Rattle.let_go_laws.specs.LetGo.{spare_run}
use Rattle.moment_laws.specs.Granting.{LiesInSpace, page_run}
use Rattle.moment_model.specs.Version.{segment_run}
use Rattle.page_set.specs.declared.page_run.PageRun.{PageRun}
use Rattle.tree_model.specs.declared.entry.Pair.{Pair}
use Rattle.tree_splice.specs.Splice.{extent_of, firsts_of, single_run}
use Rattle.span_store.specs.Held.{Held, IsEnd}
use Rattle.object_plan.specs.declared.planned.Planned.{Planned}
use Rattle.object_plan.specs.declared.working_tree.WorkingTree.{WorkingTree}
use Rattle.object_plan.specs.Planned.{IsHeldEntry}
use Rattle.give_back.proofs.RunsLemmas.{lies-low}
use Rattle.object_change.specs.declared.changed.Changed.{Changed}
use Rattle.object_change.specs.Changed.{HasChanged, IsEndOfOne, granted_in}
use Rattle.object_change.specs.Scene.{HoldsSpare}
use Rattle.object_change.proofs.RowLemmas.{granted-flat}
use Rattle.object_state.specs.Changes.{IsHeldRun, StandsOnHeld}
use Rattle.object_state.specs.Changing.{dropped_by, kept_by}
use Rattle.object_state.specs.Runs.{HoldsExtent, IsNumbered}

-- what holds of what each element is mapped to
all-mapped : {X Y : Type 0} (P : Y → Type 0) (f : X → Y) (xs : List X) → AllByRecursion (λ x. P (f x)) xs → AllByRecursion P (map f xs)
all-mapped P f [] all = tt
all-mapped P f (x ∷ xs) all = (all.0, all-mapped P f xs all.1)

-- the numbers of held pages have 32 bits
held-low : (held : Held) (end : ℕ) (run : Extent) → IsEnd held end → end < 2 ^ 32 → 1 ≤ run.pages → HoldsExtent held run → IsNumbered run
held-low held end run is few some holds =
    let last = is.behind (run.page + (run.pages - 1)) (holds (run.page + (run.pages - 1)) (omega arith) (omega (arith, some))) in
    omega (arith, last, few, some)

spare-run_held : (held : Held) (end : ℕ) (spare : Option Extent) → IsEnd held end → end < 2 ^ 32 → HoldsSpare held spare →
    AllByRecursion (IsHeldRun held) (spare_run spare)
spare-run_held held end None is few there = tt
spare-run_held held end (Some run) is few there =
    (record { low = held-low held end run is few there.0 there.1; pages = there.1 }, tt)

entry-held : (n : Numbers) (held : Held) → IsInRange n → (p : Pair) → IsHeldEntry n held p → IsHeldRun held (segment_run n.page p)
entry-held n held range p here = record { low = lies-low n (segment_run n.page p) range here.segment.together; pages = here.pages }

-- the dropped runs are held
pub dropped-held : (n : Numbers) (p : Planned) (spare : Option Extent) (c : Changed) (held : Held) (end : ℕ) → IsInRange n →
    IsEnd held end → end < 2 ^ 32 → AllByRecursion (IsHeldEntry n held) p.replaced.items → HoldsSpare held spare →
    StandsOnHeld held n.page c → AllByRecursion (IsHeldRun held) (dropped_by n.page p spare c)
dropped-held n p spare c held end range is few replaced there stands =
    all-append (IsHeldRun held) (map (segment_run n.page) p.replaced.items) (map extent_of c.left ++ spare_run spare)
    (all-mapped (IsHeldRun held) (segment_run n.page) p.replaced.items
    (all-map (IsHeldEntry n held) (λ q. IsHeldRun held (segment_run n.page q)) (entry-held n held range) p.replaced.items replaced))
    (all-append (IsHeldRun held) (map extent_of c.left) (spare_run spare) (all-mapped (IsHeldRun held) extent_of c.left stands.left)
    (spare-run_held held end spare is few there))

-- what is granted has numbers of 4 bytes
pub granted-low : (n : Numbers) (w : WorkingTree) (p : Planned) (c : Changed) → IsInRange n → HasChanged n w p c →
    AllByRecursion IsNumbered (granted_in c)
granted-low n w p c range changed =
    all-map (LiesInSpace n) IsNumbered (λ run lies. lies-low n run range lies) (granted_in c) changed.together

-- and so has the end of one of such runs
end-low : (runs : List Extent) (end : Extent) → AllByRecursion IsNumbered runs → IsEndOfOne runs end → IsNumbered end
end-low [] end all one = absurd one
end-low (run ∷ runs) end all (inl is) = let same = is.1 in let low = all.0 in omega (arith, same, low)
end-low (run ∷ runs) end all (inr more) = end-low runs end all.1 more

spare-low : (runs : List Extent) (spare : Option Extent) → AllByRecursion IsNumbered runs →
    IfSome spare (λ end. (1 ≤ end.pages) × IsEndOfOne runs end) → AllByRecursion IsNumbered (spare_run spare)
spare-low runs None all from = tt
spare-low runs (Some end) all from = (end-low runs end all from.1, tt)

pub kept-low : (n : Numbers) (w : WorkingTree) (p : Planned) (c : Changed) (held : Held) (end : ℕ) → IsInRange n →
    IsEnd held end → end < 2 ^ 32 → HoldsSpare held w.spare → HasChanged n w p c → StandsOnHeld held n.page c →
    AllByRecursion IsNumbered (kept_by n.page c)
kept-low n w p c held end range is few there changed stands =
    all-append IsNumbered (map (segment_run n.page) c.entries.items) (spare_run c.spare)
    (all-mapped IsNumbered (segment_run n.page) c.entries.items
    (all-map (λ (q : Pair). IsHeldRun held (segment_run n.page q)) (λ q. IsNumbered (segment_run n.page q)) (λ q here. here.low)
    c.entries.items stands.entries))
    (spare-low (spare_run w.spare ++ granted_in c) c.spare
    (all-append IsNumbered (spare_run w.spare) (granted_in c)
    (all-map (IsHeldRun held) IsNumbered (λ run here. here.low) (spare_run w.spare) (spare-run_held held end w.spare is few there))
    (granted-low n w p c range changed)) changed.spare_from)

-- the granted runs as they are made
singles-are : (made : List PageRun) (firsts : List ℕ) → made ≡ map single_run firsts → map extent_of made ≡ map page_run firsts
singles-are made firsts same = ap (map extent_of) same ∙ go firsts
  where
    go : (firsts : List ℕ) → map extent_of (map single_run firsts) ≡ map page_run firsts
    go [] = refl
    go (q ∷ qs) = ap (λ (rs : List Extent). page_run q ∷ rs) (go qs)

pub granted-are : (n : Numbers) (w : WorkingTree) (p : Planned) (c : Changed) → HasChanged n w p c →
    c.runs.items ++ map extent_of c.made ≡ granted_in c
granted-are n w p c changed =
    ap (λ (rs : List Extent). c.runs.items ++ rs) (singles-are c.made (firsts_of c.made) changed.single)
    ∙ sym (granted-flat c c.runs.items c.made refl refl changed.whole)

-- the pages that are counted by 32 bits
pub replaced-few : (n : Numbers) (held : Held) (entries : List Pair) → IsInRange n → AllByRecursion (IsHeldEntry n held) entries →
    AllByRecursion (λ p. (segment_run n.page p).pages < 2 ^ 32) entries
replaced-few n held entries range all =
    all-map (IsHeldEntry n held) (λ (p : Pair). (segment_run n.page p).pages < 2 ^ 32)
    (λ p here. let low = (entry-held n held range p here).low in omega (arith, low)) entries all

pub entries-few : (held : Held) (size : ℕ) (c : Changed) → StandsOnHeld held size c →
    AllByRecursion (λ p. (segment_run size p).pages < 2 ^ 32) c.entries.items
entries-few held size c stands =
    all-map (λ (p : Pair). IsHeldRun held (segment_run size p)) (λ (p : Pair). (segment_run size p).pages < 2 ^ 32)
    (λ p here. let low = here.low in omega (arith, low)) c.entries.items stands.entries
