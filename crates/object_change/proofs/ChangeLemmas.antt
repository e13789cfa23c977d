-- The new bytes are put, and the entries exchanged.
use Rattle.std.proofs.Common.{zero, ◌≡◌, ℕ, suc, ◌&&◌, nat_eq, ◌+◌, ◌-◌, ◌<◌, ◌≤◌, ◌^◌}
use Rattle.std.proofs.Common.{Bool, true, false, IsTrue, List, [], ◌∷◌, length, map, take, drop}
use Rattle.std.proofs.Common.{Option, Some, None, refl, sym, ap, subst, arith, ◌∙◌, inl, inr}
use Rattle.std.specs.Prelude.{Result, Ok, Err, is_some, slice_get, slice_index_or, slice_set, unwrap_or}
use Rattle.std.specs.List.{AllByRecursion}
use Rattle.std.proofs.lemmas.Bool.{cases_Bool, cases_lt, false≢true}
use Rattle.std.proofs.lemmas.List.{length-map, length-set}
use Rattle.base_laws.proofs.OptionLaws.{some-inner}
use Rattle.base_laws.proofs.BoolLaws.{never-true}
use Rattle.std.proofs.lemmas.List.Sums.{sum_by-take-drop}
use Rattle.fault_count.specs.Counts.{HasCause, IsUsed, Meter}
use Rattle.fault_count.proofs.CountLaws.{IsUsed-then}
use Rattle.geometry_model.specs.Numbers.{Numbers, IsInRange, fan_out, space_pages}
use Rattle.geometry_model.specs.Pages.{IsPlace}
use Rattle.geometry_model.proofs.NumberLaws.{page_size-low}
use Rattle.geometry_model.proofs.PageLaws.{place-of_IsPlace}
use Rattle.block_model.specs.Block.{has_page}
use Rattle.block_model.proofs.Runs.{HasRun-within}
use Rattle.block_model.specs.Place.{least_order}
use Rattle.tree_model.specs.declared.entry.Pair.{Pair}
use Rattle.tree_model.specs.declared.tree.Root.{Root}
use Rattle.tree_model.specs.Node.{room_of}
use Rattle.tree_model.specs.Tree.{Pages, bytes_of, page_count}
use Rattle.layout_model.specs.declared.extent.Extent.{Extent}
use Rattle.layout_model.specs.declared.fit.Fit.{Fit}
use Rattle.layout_model.specs.declared.fit.Fit.TheVariants.{Extend, Follow, Fresh}
use Rattle.layout_model.specs.Grants.{Got, node_pages}
use Rattle.layout_model.specs.Layout.{Tree, laid_entries, laid_levels, tree_entries}
use Rattle.layout_model.specs.Levels.{count_made, nodes_of_levels, spliced}
use Rattle.layout_model.specs.Plan.{Plan, extent_pages, made_part_bytes}
use Rattle.layout_laws.specs.Merging.{parts_bytes}
use Rattle.let_go_laws.specs.LetGo.{spare_run}
use Rattle.moment_model.specs.Version.{covers, uses, version_uses}
use Rattle.moment_model.specs.Moment.{count_true}
use Rattle.moment_laws.specs.Granting.{AreSpaces, is_among, page_run, test_at}
use Rattle.moment_laws.proofs.GrantLemmas.{Takes, covers-cases, node_pages-takes, uses-cons}
use Rattle.node_codec.specs.PairList.{PairList}
use Rattle.page_cache.specs.Kept.{KeptNodes}
use Rattle.page_set.specs.declared.page_run.PageRun.{PageRun}
use Rattle.space_directory.specs.SpaceView.{SpaceView, IsSpace, after_grant}
use Rattle.span_store.specs.Held.{AllSized, Held, HoldsRun, bytes_on, has, page_at}
use Rattle.superdirectory.specs.Grants.{AreTold, KeepsFrame, free_sets}
use Rattle.superdirectory.specs.Parts.{IsLaid, IsTakenAll, extents}
use Rattle.superdirectory.specs.Rest.{Frame, IsOf, Rest, count}
use Rattle.superdirectory.proofs.HomeLaws.{each_changed, granted_stays}
use Rattle.superdirectory.proofs.Spots.{free_at, view_at}
use Rattle.superdirectory.specs.Trace.{SpaceEvent, Part, IsLow}
use Rattle.superdirectory.proofs.Traces.{part_as, part_none}
use Rattle.tree_pages.specs.Levels.{levels_at}
use Rattle.tree_pages.proofs.TreeLemmas.{levels-entries}
use Rattle.tree_read.specs.Search.{KeepsNodes}
use Rattle.edit_parts.specs.declared.part.Part.{Part as EditPart}
use Rattle.edit_parts.specs.declared.part.Part.TheVariants.{Keep, Make}
use Rattle.edit_parts.specs.Parts.{layout_part}
use Rattle.edit_parts.specs.Pieces.{pieces_content}
use Rattle.part_store.specs.Asking.{rows}
use Rattle.part_bytes.specs.declared.part.WriteFail.{WriteFail}
use Rattle.part_bytes.specs.declared.part.WriteFail.TheVariants as write
use Rattle.part_bytes.specs.Parts.{PartsStand}
use Rattle.part_bytes.specs.Runs.{ChangesRuns}
use Rattle.part_bytes.proofs.PartsLemmas.{StandOn-same}
use Rattle.tree_splice.specs.declared.failure.SpliceFail.{SpliceFail}
use Rattle.tree_splice.specs.declared.failure.SpliceFail.TheVariants as splice
use Rattle.tree_splice.specs.declared.new_tree.Spliced.{Spliced}
use Rattle.tree_splice.specs.Fresh.{FreshPage, is_on_pages, page_numbers}
use Rattle.tree_splice.specs.Splice.{ArePagesIn, HaveGiven, HoldsNew}
use Rattle.tree_splice.specs.Splice.{IsBetween, IsSpliced, KeepsSpaces, WritesAtMost, firsts_of}
use Rattle.tree_splice.specs.Splice.{extent_of, nodes_on, single_run, told_without_bytes}
use Rattle.object_body.specs.declared.fails.EditFail.{EditFail}
use Rattle.object_body.specs.declared.fails.EditFail.TheVariants.{Fault, NoSpace}
use Rattle.object_body.specs.Moves.{IsUntouched}
use Rattle.object_body.specs.Places.{AreHome, IsStore, is_free_place, is_locked_place}
use Rattle.object_body.proofs.CallLemmas.{keeps-frame}
use Rattle.object_body.proofs.MoveLemmas.{same-untouched}
use Rattle.object_body.proofs.TurnLemmas.{free-in, locked-in}
use Rattle.object_plan.specs.declared.planned.Planned.{Planned}
use Rattle.object_plan.specs.declared.working_tree.WorkingTree.{WorkingTree}
use Rattle.object_plan.specs.Planned.{CanMake, IsPlanOf}
use Rattle.object_plan.specs.WorkingTree.{CanChange, IsToldWorking, entries_on, tree_on}
use Rattle.object_change.specs.Changed.{parts_plan}
use Rattle.object_change.specs.Scene.{HoldsSpare, Scene}
use Rattle.held_parts.specs.Spaces.{AreTakenOut, IsLowFor}
use Rattle.object_change.specs.Steps.{CanChangeOn, CanPut, ChangesOn, HasExchanged}
use Rattle.object_change.specs.Steps.{StandPut, PutsNewBytes, TakesPages, of_splice, of_write}
use Rattle.object_change.specs.Steps.{its_plan, put_runs}
use Rattle.object_change.proofs.LaidLemmas.{HaveAll, kept-all, laid-all, spare-all}
use Rattle.object_change.proofs.PutLemmas.{follow-there, goes-as}
use Rattle.object_change.proofs.StayLemmas.{SameTree, stays-on, tree-same, working-stays}

-- ---- the entries

-- their bytes are those of the parts, and each has one
pub entries-all : (tells : Bool) (n : Numbers) (w : WorkingTree) (p : Planned) (payload counts : List ℕ) (runs : List Extent) (held : Held)
    (meter : Meter) → IsInRange n → CanChange n w p.change → CanPut tells n w p payload counts runs held meter →
    HaveAll (parts_bytes (map layout_part p.parts.items)) (laid_entries n w.spare (parts_plan p) (rows counts runs))
entries-all tells n w p payload counts runs held meter range change can = go p.fit refl
  where
    plan_by : Fit → Plan
    plan_by fit = record { from = 0; count = 0; parts = map layout_part p.parts.items; fit = fit }

    whole : ℕ
    whole = parts_bytes (map layout_part p.parts.items)

    size-some : 0 < n.page
    size-some = (let low = page_size-low n.page range.page_size in omega (arith, low))

    follow : (s : Option Extent) → w.spare ≡ s → p.fit ≡ Follow → HaveAll whole (laid_entries n s (plan_by Follow) (rows counts runs))
    follow None none is =
        (let there = follow-there n held w p range is can.plan in absurd (there.0 none))
    follow (Some run) some is =
        (let goes = (goes-as n held w p Follow is can.plan).1 in
        spare-all n.page goes.bytes p.parts.items run size-some goes.one
        (subst (λ (s : Option Extent). page_count n.page goes.bytes ≤ extent_pages s) some goes.fits) can.plan.some)

    go : (fit : Fit) → p.fit ≡ fit → HaveAll whole (laid_entries n w.spare (parts_plan p) (rows counts runs))
    go Fresh is = subst (λ (f : Fit). HaveAll whole (laid_entries n w.spare (plan_by f) (rows counts runs))) (sym is)
        (laid-all n.page (space_pages n) w.threshold p.parts.items p.requests.items counts runs size-some change.threshold_low
        (goes-as n held w p Fresh is can.plan).needs (goes-as n held w p Fresh is can.plan).asked can.granted.suited can.plan.some)
    go Follow is = subst (λ (f : Fit). HaveAll whole (laid_entries n w.spare (plan_by f) (rows counts runs))) (sym is)
        (follow w.spare refl is)
    go Extend is = subst (λ (f : Fit). HaveAll whole (laid_entries n w.spare (plan_by f) (rows counts runs))) (sym is)
        (kept-all n.page p.parts.items (rows counts runs) (none-made (goes-as n held w p Extend is can.plan).1.pair
        (goes-as n held w p Extend is can.plan).1.one) can.plan.some)
      where
        none-made : (pair : Pair) → p.parts.items ≡ Keep pair ∷ [] → made_part_bytes (map layout_part p.parts.items) ≡ []
        none-made pair one = ap (λ (ps : List EditPart). made_part_bytes (map layout_part ps)) one

-- so the sum of the tree and the fresh entries can be counted
pub sum-fits : (n : Numbers) (held : Held) (w : WorkingTree) (p : Planned) → CanChange n w p.change → CanMake n held w p →
    parts_bytes (map layout_part p.parts.items) < 2 ^ 63
sum-fits n held w p change can = omega (arith, can.bytes, can.inside, change.fits)

pub entries-fit : (n : Numbers) (held : Held) (w : WorkingTree) (p : Planned) (entries : List Pair) → CanChange n w p.change →
    CanMake n held w p → HaveAll (parts_bytes (map layout_part p.parts.items)) entries → w.root.length + bytes_of entries < 2 ^ 64
entries-fit n held w p entries change can all =
    let few = sum-fits n held w p change can in omega (arith, few, all.count, change.fits)

pub length-after : (n : Numbers) (held : Held) (w : WorkingTree) (p : Planned) (entries : List Pair) (length : ℕ) → CanMake n held w p →
    HaveAll (parts_bytes (map layout_part p.parts.items)) entries → length + p.to ≡ w.root.length + bytes_of entries + p.from →
    length + p.change.removed ≡ w.root.length + p.change.added
length-after n held w p entries length can all sum_is =
    omega (arith, can.bytes, can.order, can.inside, all.count, sum_is)

-- ---- the tree once the bytes are put

-- its pages are none of those that were written
pub put-same : (tells : Bool) (n : Numbers) (start : ℕ) (w : WorkingTree) (p : Planned) (payload counts : List ℕ) (runs : List Extent)
    (s : Scene) (put : Held) → CanChangeOn tells n start w p payload counts runs s → IsTrue tells →
    ChangesRuns tells n.page (put_runs p.fit w.spare runs) s.held put →
    (q : ℕ) → 0 < version_uses n q (Some (tree_on (bytes_on s.held) w)) → page_at put q ≡ page_at s.held q
put-same tells n start w p payload counts runs s put can t changes = λ q used. changes.others q (can.off t q used)

pub put-tree : (tells : Bool) (n : Numbers) (start : ℕ) (w : WorkingTree) (p : Planned) (payload counts : List ℕ) (runs : List Extent)
    (s : Scene) (put : Held) → CanChangeOn tells n start w p payload counts runs s → IsTrue tells →
    ChangesRuns tells n.page (put_runs p.fit w.spare runs) s.held put → SameTree n (bytes_on s.held) (bytes_on put) w
put-tree tells n start w p payload counts runs s put can t changes =
    tree-same n (bytes_on s.held) (bytes_on put) w
    (stays-on n s.held put w (put-same tells n start w p payload counts runs s put can t changes))

pub put-working : (tells : Bool) (n : Numbers) (start : ℕ) (w : WorkingTree) (p : Planned) (payload counts : List ℕ) (runs : List Extent)
    (s : Scene) (put : Held) → CanChangeOn tells n start w p payload counts runs s → IsTrue tells →
    ChangesRuns tells n.page (put_runs p.fit w.spare runs) s.held put → IsToldWorking n put w
put-working tells n start w p payload counts runs s put can t changes =
    working-stays n s.held put w (can.told t).0 (put-same tells n start w p payload counts runs s put can t changes)

-- the plan's entries lie between its bytes
pub plan-between : (n : Numbers) (at now : Pages) (w : WorkingTree) (p : Planned) → IsPlanOf n at w p → SameTree n at now w →
    IsBetween (entries_on now w) p.from p.to (its_plan n at w p).from (its_plan n at w p).count
plan-between n at now w p plan same =
    let listed : tree_entries (tree_on at w) ≡ entries_on now w = levels-entries at w.root.height w.root.page ∙ sym same.entries in
    let plan_is = its_plan n at w p in
    record {
      few = subst (λ (es : List Pair). plan_is.from + plan_is.count ≤ length es) listed plan.few;
      first = subst (λ (es : List Pair). p.from ≡ bytes_of (take plan_is.from es)) listed plan.first;
      last = subst (λ (es : List Pair). p.to ≡ bytes_of (take (plan_is.from + plan_is.count) es)) listed plan.last;
    }

-- ---- the bytes stay where they were put

parts-same : (at other old : Pages) (size : ℕ) (payload : List ℕ) (parts : List EditPart) (counts : List ℕ) (runs : List Extent) →
    0 < size →
    ((q : ℕ) → 0 < uses q runs → at q ≡ other q) → PartsStand other size old payload parts counts runs →
    PartsStand at size old payload parts counts runs
parts-same at other old size payload [] counts runs some same stands = tt
parts-same at other old size payload (Keep pair ∷ parts) counts runs some same stands =
    parts-same at other old size payload parts counts runs some same stands
parts-same at other old size payload (Make pieces ∷ parts) [] runs some same stands = stands
parts-same at other old size payload (Make pieces ∷ parts) (k ∷ counts) runs some same stands =
    let split : (q : ℕ) → uses q (take k runs) + uses q (drop k runs) ≡ uses q runs = λ q. sum_by-take-drop (covers q) runs k in (
      StandOn-same at other size (take k runs) (pieces_content old size payload pieces) some
          (λ q some_q. same q (omega (arith, split q, some_q))) stands.0,
      parts-same at other old size payload parts counts (drop k runs) some (λ q some_q. same q (omega (arith, split q, some_q))) stands.1,
    )

pub put-stays : (fit : Fit) (size : ℕ) (at other old : Pages) (payload : List ℕ) (parts : List EditPart) (counts : List ℕ)
    (runs : List Extent)
    (spare : Option Extent) → 0 < size → ((q : ℕ) → 0 < uses q (put_runs fit spare runs) → at q ≡ other q) →
    StandPut fit size other old payload parts counts runs spare → StandPut fit size at old payload parts counts runs spare
put-stays Fresh size at other old payload parts counts runs spare some same put =
    parts-same at other old size payload parts counts runs some same put
put-stays Follow size at other old payload parts counts runs spare some same put =
    parts-same at other old size payload parts (1 ∷ []) (spare_run spare) some same put
put-stays Extend size at other old payload parts counts runs spare some same put =
    StandOn-same at other size (spare_run spare) payload some same put

-- a page that is held isn't made
pub made-apart : (made : List PageRun) (put new : Held) (q : ℕ) → HoldsNew made put new → IsTrue (has put q) →
    page_at new q ≡ page_at put q
made-apart made put new q news held = elim (cases_Bool (is_on_pages q (firsts_of made))) [
  | inl there ↦ absurd (false≢true (sym (ap is_some (news.fresh q there)) ∙ held))
  | inr not_there ↦ news.others q not_there
]

-- ---- the spaces

without-free : (a b : List SpaceView) → map told_without_bytes a ≡ map told_without_bytes b → (s at : ℕ) →
    (is_free_place a s at ≡ is_free_place b s at) × (is_locked_place a s at ≡ is_locked_place b s at)
without-free a b same s at =
    let get_free : map (λ (v : SpaceView). v.free) a ≡ map (λ (v : SpaceView). v.free) b =
    sym (map-free a) ∙ (ap (map (λ (v : SpaceView). v.free)) same ∙ map-free b) in
    let get_locked : map (λ (v : SpaceView). v.locked) a ≡ map (λ (v : SpaceView). v.locked) b =
    sym (map-locked a) ∙ (ap (map (λ (v : SpaceView). v.locked)) same ∙ map-locked b) in (
      ap (λ (bits : List (List Bool)). has_page (slice_index_or bits s []) at) get_free,
      ap (λ (bits : List (List Bool)). has_page (slice_index_or bits s []) at) get_locked,
    )
  where
    map-free : (vs : List SpaceView) → map (λ (v : SpaceView). v.free) (map told_without_bytes vs) ≡ map (λ (v : SpaceView). v.free) vs
    map-free [] = refl
    map-free (v ∷ vs) = ap (λ (bs : List (List Bool)). v.free ∷ bs) (map-free vs)

    map-locked : (vs : List SpaceView) → map (λ (v : SpaceView). v.locked) (map told_without_bytes vs) ≡
        map (λ (v : SpaceView). v.locked) vs
    map-locked [] = refl
    map-locked (v ∷ vs) = ap (λ (bs : List (List Bool)). v.locked ∷ bs) (map-locked vs)

pub spaces-kept : (n : Numbers) (frame : Frame) (views : List SpaceView) (rest : Rest) → KeepsSpaces frame views rest →
    AreHome frame views → IsUntouched n frame views rest
spaces-kept n frame views rest keeps home =
    let still = keeps.spaces (λ s v here. (home.space s v here, home.home s v here)) in
    let long : length keeps.after ≡ length views =
    sym (length-map keeps.after told_without_bytes) ∙ (ap length keeps.same ∙ length-map views told_without_bytes) in
    record {
      after = keeps.after;
      told = keeps.told;
      home = record {
        number = long ∙ home.number;
        space = λ s v here. (still s v here).0;
        home = λ s v here. (still s v here).1;
      };
      free = λ page s at place. (without-free keeps.after views keeps.same s at).0;
      locked = λ page s at place. (without-free keeps.after views keeps.same s at).1;
    }

-- single pages as runs
pub fresh-runs : (pages : List FreshPage) →
    extents (λ (p : FreshPage). p.page) (λ (p : FreshPage). p.bytes ∷ []) pages ≡ map page_run (page_numbers pages)
fresh-runs [] = refl
fresh-runs (p ∷ pages) = ap (λ (rs : List Extent). page_run p.page ∷ rs) (fresh-runs pages)

-- ---- single pages, by the rule

-- pages that were taken leave the locked ones, and the spaces at home
pub record StaysHome (frame : Frame) (before after : List SpaceView) : Type 0 where
  pub home : AreHome frame after
  pub locked : map (λ (v : SpaceView). v.locked) after ≡ map (λ (v : SpaceView). v.locked) before

home-after : (frame : Frame) (views : List SpaceView) (space at k : ℕ) (v : SpaceView) → AreHome frame views →
    slice_get views space ≡ Some v →
    at + k ≤ length v.free → AreHome frame (slice_set views space (after_grant v at k))
home-after frame views space at k v home here fits =
    let stays = granted_stays frame space at k v fits (home.space space v here) (home.home space v here) in
    record {
      number = length-set views space (after_grant v at k) ∙ home.number;
      space = each_changed (λ s w. IsSpace w) views space (after_grant v at k) home.space stays.0;
      home = each_changed (IsOf frame) views space (after_grant v at k) home.home stays.1;
    }

locked-set : (views : List SpaceView) (space : ℕ) (v w : SpaceView) → slice_get views space ≡ Some v → w.locked ≡ v.locked →
    map (λ (x : SpaceView). x.locked) (slice_set views space w) ≡ map (λ (x : SpaceView). x.locked) views
locked-set [] space v w here same = cc
locked-set (x ∷ views) zero v w here same =
    (let is : x ≡ v = some-inner x v here in
    ap (λ (bits : List Bool). bits ∷ map (λ (y : SpaceView). y.locked) views) (same ∙ sym (ap (λ (y : SpaceView). y.locked) is)))
locked-set (x ∷ views) (suc space) v w here same =
    ap (λ (rest : List (List Bool)). x.locked ∷ rest) (locked-set views space v w here same)

pub taken-home : (frame : Frame) (before : List SpaceView) (pages : List FreshPage) (after : List SpaceView) → AreHome frame before →
    IsTakenAll (λ (p : FreshPage). p.space) (λ (p : FreshPage). p.page) (λ (p : FreshPage). p.bytes ∷ []) before pages after →
    StaysHome frame before after
taken-home frame before [] after home taken = subst (StaysHome frame before) (sym taken) (record { home = home; locked = refl })
taken-home frame before (p ∷ pages) after home (v, here, sound, free, held, rest) =
    let at = p.page - v.first in
    let w = after_grant v at 1 in
    let within : at + 1 ≤ length v.free = (let one = HasRun-within v.free at 1 (omega arith) free in omega (arith, one)) in
    let mid = slice_set before p.space w in
    let more = taken-home frame mid pages after (home-after frame before p.space at 1 v home here within) rest in
    record { home = more.home; locked = more.locked ∙ locked-set before p.space v w here refl }

-- where a page's place is free, by the sets
place-test : (n : Numbers) (views : List SpaceView) (page s at : ℕ) → IsPlace n page s at →
    is_among n (free_sets views) page ≡ is_free_place views s at
place-test n views page s at place =
    ap (test_at (free_sets views)) (place-of_IsPlace n page s at place)

views-spaces : (n : Numbers) (frame : Frame) (views : List SpaceView) → IsStore n frame → AreHome frame views →
    AreSpaces n (free_sets views)
views-spaces n frame views store home = record {
  count = length-map views (λ (v : SpaceView). v.free) ∙ (home.number ∙ store.number);
  each = λ s less.
      let found = view_at views s (omega (arith, less, store.number, home.number)) in
      ap length (free_at views s found.0 found.1) ∙ ((home.home s found.0 found.1).pages ∙ store.pages);
}

left-free : (a b : Bool) (u : ℕ) → count_true a + u ≡ count_true b → a ≡ (nat_eq u 0 && b)
left-free true true u same = (let none : u ≡ 0 = omega (arith, same) in sym (ap (λ (k : ℕ). nat_eq k 0 && true) none))
left-free true false u same = absurd (omega (arith, same))
left-free false true u same = (let one : u ≡ 1 = omega (arith, same) in sym (ap (λ (k : ℕ). nat_eq k 0 && true) one))
left-free false false u same = (let none : u ≡ 0 = omega (arith, same) in sym (ap (λ (k : ℕ). nat_eq k 0 && false) none))

was-free : (a b : Bool) (u : ℕ) → count_true a + u ≡ count_true b → 0 < u → b ≡ true
was-free a true u same some = refl
was-free true false u same some = absurd (omega (arith, same))
was-free false false u same some = absurd (omega (arith, same, some))

-- the pages that the rule gives are out of the spaces
pub pages-out : (n : Numbers) (frame : Frame) (start : ℕ) (views after : List SpaceView) (pages : List ℕ) (rest : Rest) → IsStore n frame →
    AreHome frame views → StaysHome frame views after → AreTold rest after →
    node_pages n start (length pages) (free_sets views) ≡ Got pages (free_sets after) → AreTakenOut n frame (map page_run pages) views rest
pages-out n frame start views after pages rest store home stays told answer =
    let took = subst (Takes n (map page_run) (free_sets views)) answer
    (node_pages-takes n start (length pages) (free_sets views) (views-spaces n frame views store home)) in
    let runs = map page_run pages in
    let counted : (page s at : ℕ) → IsPlace n page s at →
    count_true (is_free_place after s at) + uses page runs ≡ count_true (is_free_place views s at) =
    λ page s at place.
    ap (λ (b : Bool). count_true b + uses page runs) (sym (place-test n after page s at place))
    ∙ (took.once page ∙ ap count_true (place-test n views page s at place)) in
    let locked : (s at : ℕ) → is_locked_place after s at ≡ is_locked_place views s at = λ s at.
    ap (λ (bits : List (List Bool)). has_page (slice_index_or bits s []) at) stays.locked in
    record {
      after = after;
      told = told;
      home = stays.home;
      were = λ page s at place some.
          let free = was-free (is_free_place after s at) (is_free_place views s at) (uses page runs) (counted page s at place) some in
          let found = view_at views s (omega (arith, place.in_store, home.number, store.number)) in
          let in_view = sym (free-in views s at found.0 found.1) ∙ free in (
            free,
            locked-in views s at found.0 found.1
                ∙ never-true (has_page found.0.locked at) ((home.space s found.0 found.1).apart at in_view),
          );
      free = λ page s at place. left-free (is_free_place after s at) (is_free_place views s at) (uses page runs) (counted page s at place);
      locked = λ page s at place. locked s at;
    }

-- the pages of made nodes were taken
pub takes-pages : (n : Numbers) (start : ℕ) (wants : ℕ → Type 0) (views : List SpaceView) (frame : Frame) (s : Spliced) (rest : Rest) →
    HaveGiven wants views start frame (Ok s) rest → TakesPages n start (firsts_of s.made) views frame rest
takes-pages n start wants views frame s rest (want, long, (granted, same, asked)) =
    let count : want ≡ length (firsts_of s.made) = sym long ∙ sym (length-map s.made (λ (r : PageRun). r.first)) in
    let answer : IsLaid n frame.firsts → node_pages n start (length (firsts_of s.made)) (free_sets views)
    ≡ Got (firsts_of s.made) (free_sets asked.after) =
    λ laid.
    ap (λ (k : ℕ). node_pages n start k (free_sets views)) (sym count)
    ∙ (asked.answer n laid ∙ ap (λ (ps : List ℕ). Got ps (free_sets asked.after)) same) in
    record {
      after = asked.after;
      told = asked.told;
      answer = answer;
      out = λ store home.
          pages-out n frame start views asked.after (firsts_of s.made) rest store home (taken-home frame views granted asked.after home
          asked.taken)
          asked.told (answer (λ k less. store.firsts k (omega (arith, less, store.number))));
    }

-- ---- the answers of the whole step

-- the bytes weren't written
pub changes-unwritten : (tells : Bool) (n : Numbers) (start : ℕ) (w : WorkingTree) (p : Planned) (payload counts : List ℕ)
    (runs : List Extent) (fail : WriteFail) (s : Scene) (put : Held) (nodes : KeptNodes) (now : Meter) → s.rest.entered ≡ None →
    PutsNewBytes tells n w.spare p payload counts runs (Err fail) s.held put s.meter now → KeepsNodes tells n.page (bytes_on put) nodes →
    ChangesOn tells n start w p payload counts runs (Err (of_write fail)) s
    (record { held = put; nodes = nodes; meter = now; rest = s.rest; trace = s.trace })
changes-unwritten tells n start w p payload counts runs fail s put nodes now none puts kept = record {
  entries = tt;
  total = tt;
  single = tt;
  home = tt;
  put = put;
  others = puts.others;
  made = refl;
  right = record { sized = puts.others.sized; nodes = kept };
  frame = keeps-frame s.rest none;
  low = part_none (IsLowFor {A = PairList × Spliced} (count s.rest) (Err (of_write fail))) s.trace (low fail);
  few = λ pages same. few fail pages same;
  stands = λ t. tt;
  spliced = λ t. tt;
  given = λ views told long. given fail views told _;
  used = puts.used;
  most = λ t. (let most = puts.most in omega (arith, most));
  cause = record {
    kept = puts.cause.kept;
    raised = λ same. puts.cause.raised (fault fail same);
    still = λ not_so. puts.cause.still (λ same. not_so (again fail same));
  };
} where
  low : (f : WriteFail) → IsLowFor {A = PairList × Spliced} (count s.rest) (Err (of_write f)) []
  low write.Fault = tt
  low write.Memory = tt

  few : (f : WriteFail) (pages : ℕ) → ◌≡◌ {A = Result (PairList × Spliced) EditFail} (Err (of_write f)) (Err (NoSpace pages)) → pages ≡ 1
  few write.Fault pages same = absurd (cc)
  few write.Memory pages same = absurd (cc)

  given : (f : WriteFail) (views : List SpaceView) → AreTold s.rest views → (wants : ℕ → Type 0) →
      HasExchanged n start wants views s.rest.frame (Err (of_write f)) s.rest
  given write.Fault views told wants = λ home. same-untouched n s.rest.frame views s.rest told home
  given write.Memory views told wants = λ home. same-untouched n s.rest.frame views s.rest told home

  fault : (f : WriteFail) → ◌≡◌ {A = Result (PairList × Spliced) EditFail} (Err (of_write f)) (Err Fault) →
      ◌≡◌ {A = Result PairList WriteFail} (Err f) (Err write.Fault)
  fault write.Fault same = refl
  fault write.Memory same = absurd (cc)

  again : (f : WriteFail) → ◌≡◌ {A = Result PairList WriteFail} (Err f) (Err write.Fault) →
      ◌≡◌ {A = Result (PairList × Spliced) EditFail} (Err (of_write f)) (Err Fault)
  again write.Fault same = refl
  again write.Memory same = absurd (cc)

-- what splice says where it went well, by the bytes of a page
pub record ExchangedOk (tells : Bool) (size start : ℕ) (w : WorkingTree) (p : Planned) (entries : List Pair) (s : Spliced)
    (put new : Held) (nodes : KeptNodes) (rest now : Rest) (mid last : Meter) : Type 0 where
  pub told : IsTrue tells → (k many : ℕ) → IsBetween (entries_on (bytes_on put) w) p.from p.to k many →
      IsSpliced (room_of size) (bytes_on put) (bytes_on new) w.root s.root k many entries s.made s.left
  pub total : s.root.length + p.to ≡ w.root.length + bytes_of entries + p.from
  pub news : HoldsNew s.made put new
  pub single : s.made ≡ map single_run (firsts_of s.made)
  pub home : ArePagesIn rest.frame (firsts_of s.made)
  pub sized : AllSized tells size new
  pub kept : KeepsNodes tells size (bytes_on new) nodes
  pub frame : KeepsFrame rest now
  pub granted : (views : List SpaceView) → AreTold rest views → length views ≡ count rest →
      HaveGiven (λ want. IsTrue tells → (k many : ℕ) → IsBetween (entries_on (bytes_on put) w) p.from p.to k many →
      want ≡ count_made (spliced (room_of size) (levels_at (bytes_on put) w.root) k many entries [])) views start rest.frame (Ok s) now
  pub used : IsUsed mid last
  pub writes : IsTrue tells → (k many : ℕ) → IsBetween (entries_on (bytes_on put) w) p.from p.to k many →
      WritesAtMost (count_made (spliced (room_of size) (levels_at (bytes_on put) w.root) k many entries [])) mid last
  pub still : last.faults ≡ mid.faults

-- the entries of the plan are those of its parts and of how they meet the spare
pub entries-plan : (n : Numbers) (at : Pages) (w : WorkingTree) (p : Planned) (runs : List (List Extent)) → IsPlanOf n at w p →
    laid_entries n w.spare (parts_plan p) runs ≡ laid_entries n w.spare (its_plan n at w p) runs
entries-plan n at w p runs plan =
    let whole = its_plan n at w p in
    ap (λ (f : Fit). laid_entries n w.spare (record { from = 0; count = 0; parts = map layout_part p.parts.items; fit = f }) runs) plan.fit
    ∙ ap (λ ps. laid_entries n w.spare (record { from = 0; count = 0; parts = ps; fit = whole.fit }) runs) plan.parts

-- the made nodes, counted on the pages before and behind the writing of the bytes
made-counted : (n : Numbers) (at now : Pages) (w : WorkingTree) (p : Planned) (entries : List Pair) (runs : List (List Extent)) →
    SameTree n at now w → entries ≡ laid_entries n w.spare (parts_plan p) runs → IsPlanOf n at w p →
    count_made (spliced (room_of n.page) (levels_at now w.root) (its_plan n at w p).from (its_plan n at w p).count entries [])
    ≡ count_made (laid_levels n (tree_on at w) w.spare (its_plan n at w p) runs [])
made-counted n at now w p entries runs same are plan =
    let levels : levels_at now w.root ≡ levels_at at w.root = ap (λ (t : Tree). t.levels) same.tree in
    let k = (its_plan n at w p).from in
    let many = (its_plan n at w p).count in
    ap (λ ls. count_made (spliced (fan_out n) ls k many entries [])) levels
    ∙ ap (λ (es : List Pair). count_made (spliced (fan_out n) (levels_at at w.root) k many es [])) (are ∙ entries-plan n at w p runs plan)

-- the tree was exchanged on what it was before the bytes were written
spliced-before : (n : Numbers) (at put new : Pages) (w : WorkingTree) (root : Root) (k many : ℕ) (entries : List Pair)
    (made left : List PageRun) → SameTree n at put w → IsSpliced (fan_out n) put new w.root root k many entries made left →
    IsSpliced (fan_out n) at new w.root root k many entries made left
spliced-before n at put new w root k many entries made left same exchanged =
    let levels : levels_at put w.root ≡ levels_at at w.root = ap (λ (t : Tree). t.levels) same.tree in
    record {
      levels = exchanged.levels
          ∙ ap (λ ls. nodes_of_levels (spliced (fan_out n) ls k many entries (firsts_of made))) levels;
      each = ap (λ ls. count_made (spliced (fan_out n) ls k many entries (firsts_of made))) (sym levels) ∙ exchanged.each;
      tree = exchanged.tree;
      uses_of = λ page. exchanged.uses_of page ∙ ap (λ ls. nodes_on page ls + uses page (map extent_of made)) levels;
    }

-- the runs on which the bytes were put are held
put-held : (tells : Bool) (n : Numbers) (start : ℕ) (w : WorkingTree) (p : Planned) (payload counts : List ℕ) (runs : List Extent)
    (s : Scene) (put : Held) → CanChangeOn tells n start w p payload counts runs s →
    ChangesRuns tells n.page (put_runs p.fit w.spare runs) s.held put → (q : ℕ) → 0 < uses q (put_runs p.fit w.spare runs) →
    IsTrue (has put q)
put-held tells n start w p payload counts runs s put can changes q some = changes.held q ∙ by_fit p.fit some
  where
    in-run : (run : Extent) → 0 < uses q (run ∷ []) → HoldsRun s.held run.page run.pages → IsTrue (has s.held q)
    in-run run there holds = elim (covers-cases q run) [
      | inl one ↦ holds q one.1 one.2
      | inr none ↦ absurd (let all = uses-cons q run [] in omega (arith, all, there, none.0))
    ]

    in-runs : (rs : List Extent) → 0 < uses q rs → AllByRecursion (λ run. HoldsRun s.held run.page run.pages) rs → IsTrue (has s.held q)
    in-runs [] there holds = absurd (omega (arith, there))
    in-runs (run ∷ rs) there holds = elim (cases_lt 0 (covers q run)) [
      | inl here ↦ in-run run (let all = uses-cons q run [] in omega (arith, all, here)) holds.0
      | inr off ↦ in-runs rs (let all = uses-cons q run rs in omega (arith, all, there, off)) holds.1
    ]

    in-spare : (sp : Option Extent) → 0 < uses q (spare_run sp) → HoldsSpare s.held sp → IsTrue (has s.held q)
    in-spare None there spare = absurd (omega (arith, there))
    in-spare (Some run) there spare = in-run run there spare.1

    by_fit : (fit : Fit) → 0 < uses q (put_runs fit w.spare runs) → IsTrue (has s.held q)
    by_fit Fresh there = in-runs runs there can.put.holds.each
    by_fit Follow there = in-spare w.spare there can.put.spare
    by_fit Extend there = in-spare w.spare there can.put.spare

pub changes-ok : (tells : Bool) (n : Numbers) (start : ℕ) (w : WorkingTree) (p : Planned) (payload counts : List ℕ) (runs : List Extent)
    (s : Scene) (entries : PairList) (put : Held) (kept : KeptNodes) (mid : Meter) (sp : Spliced) (new : Held) (nodes : KeptNodes)
    (now : Rest) (after : Option (List SpaceEvent)) (last : Meter) → IsInRange n →
    CanChangeOn tells n start w p payload counts runs s →
    PutsNewBytes tells n w.spare p payload counts runs (Ok entries) s.held put s.meter mid →
    ExchangedOk tells n.page start w p entries.items sp put new nodes s.rest now mid last → Part (λ part. Unit {0}) s.trace after →
    ChangesOn tells n start w p payload counts runs (Ok (entries, sp)) s
    (record { held = new; nodes = nodes; meter = last; rest = now; trace = after })
changes-ok tells n start w p payload counts runs s entries put kept mid sp new nodes now after last range can puts ex low =
    let all = subst (HaveAll (parts_bytes (map layout_part p.parts.items))) (sym puts.entries)
    (entries-all tells n w p payload counts runs s.held s.meter range can.change can.put) in
    let size_some : 0 < n.page = (let big = page_size-low n.page range.page_size in omega (arith, big)) in
    record {
      entries = puts.entries;
      total = length-after n s.held w p entries.items sp.root.length can.put.plan all ex.total;
      single = ex.single;
      home = ex.home;
      put = put;
      others = puts.others;
      made = ex.news;
      right = record { sized = ex.sized; nodes = ex.kept };
      frame = ex.frame;
      low = low;
      few = λ pages same. absurd (cc);
      stands = λ t. put-stays p.fit n.page (bytes_on new) (bytes_on put) (bytes_on s.held) payload p.parts.items counts runs w.spare
          size_some
          (λ q some. ap (λ (o : Option (List ℕ)). unwrap_or o [])
          (made-apart sp.made put new q ex.news (put-held tells n start w p payload counts runs s put can puts.others q some)))
          (puts.stands t);
      spliced = λ t.
          let same = put-tree tells n start w p payload counts runs s put can t puts.others in
          let between = plan-between n (bytes_on s.held) (bytes_on put) w p (can.told t).1 same in
          spliced-before n (bytes_on s.held) (bytes_on put) (bytes_on new) w sp.root (its_plan n (bytes_on s.held) w p).from
          (its_plan n (bytes_on s.held) w p).count entries.items sp.made sp.left same
          (ex.told t (its_plan n (bytes_on s.held) w p).from (its_plan n (bytes_on s.held) w p).count between);
      given = λ views told long. takes-pages n start
          (λ want. IsTrue tells → (k many : ℕ) → IsBetween (entries_on (bytes_on put) w) p.from p.to k many →
          want ≡ count_made (spliced (room_of n.page) (levels_at (bytes_on put) w.root) k many entries.items []))
          views s.rest.frame sp now (ex.granted views told long);
      used = IsUsed-then s.meter mid last puts.used ex.used;
      most = λ t.
          let same = put-tree tells n start w p payload counts runs s put can t puts.others in
          let between = plan-between n (bytes_on s.held) (bytes_on put) w p (can.told t).1 same in
          let writes = ex.writes t (its_plan n (bytes_on s.held) w p).from (its_plan n (bytes_on s.held) w p).count between in
          let count_is = made-counted n (bytes_on s.held) (bytes_on put) w p entries.items (rows counts runs)
          same puts.entries (can.told t).1 in
          let most = puts.most in
          omega (arith, writes, count_is, most);
      cause = record {
        kept = (let quiet = ex.still in let first = puts.cause.kept in omega (arith, quiet, first));
        raised = λ same. absurd (cc);
        still = λ none. ex.still ∙ puts.cause.still (λ same. absurd (cc));
      };
    }

-- what splice says of a refusal, by the bytes of a page
pub record ExchangedErr (tells : Bool) (size start : ℕ) (w : WorkingTree) (p : Planned) (entries : List Pair) (fail : SpliceFail)
    (put new : Held) (nodes : KeptNodes) (rest now : Rest) (before after : Option (List SpaceEvent)) (mid last : Meter) : Type 0 where
  pub same : new.spans ≡ put.spans
  pub sized : AllSized tells size new
  pub kept : KeepsNodes tells size (bytes_on new) nodes
  pub frame : KeepsFrame rest now
  pub granted : (views : List SpaceView) → AreTold rest views → length views ≡ count rest →
      HaveGiven (λ want. IsTrue tells → (k many : ℕ) → IsBetween (entries_on (bytes_on put) w) p.from p.to k many →
      want ≡ count_made (spliced (room_of size) (levels_at (bytes_on put) w.root) k many entries [])) views start rest.frame (Err fail) now
  pub low : Part (λ part. (fail ≡ splice.NoSpace) → (space : ℕ) → space < count rest → IsLow space (least_order 1) part) before after
  pub used : IsUsed mid last
  pub writes : IsTrue tells → (k many : ℕ) → IsBetween (entries_on (bytes_on put) w) p.from p.to k many →
      WritesAtMost (count_made (spliced (room_of size) (levels_at (bytes_on put) w.root) k many entries [])) mid last
  pub cause : HasCause mid.faults last.faults (fail ≡ splice.Fault)

pub changes-refused : (tells : Bool) (n : Numbers) (start : ℕ) (w : WorkingTree) (p : Planned) (payload counts : List ℕ)
    (runs : List Extent) (s : Scene) (entries : PairList) (put : Held) (kept : KeptNodes) (mid : Meter) (fail : SpliceFail) (new : Held)
    (nodes : KeptNodes) (now : Rest) (after : Option (List SpaceEvent)) (last : Meter) → IsInRange n →
    CanChangeOn tells n start w p payload counts runs s →
    PutsNewBytes tells n w.spare p payload counts runs (Ok entries) s.held put s.meter mid →
    ExchangedErr tells n.page start w p entries.items fail put new nodes s.rest now s.trace after mid last →
    ChangesOn tells n start w p payload counts runs (Err (of_splice fail)) s
    (record { held = new; nodes = nodes; meter = last; rest = now; trace = after })
changes-refused tells n start w p payload counts runs s entries put kept mid fail new nodes now after last range can puts ex = record {
  entries = tt;
  total = tt;
  single = tt;
  home = tt;
  put = put;
  others = puts.others;
  made = ex.same;
  right = record { sized = ex.sized; nodes = ex.kept };
  frame = ex.frame;
  low = part_as (λ part. (fail ≡ splice.NoSpace) → (space : ℕ) → space < count s.rest → IsLow space (least_order 1) part)
      (λ part. IsLowFor {A = PairList × Spliced} (count s.rest) (Err (of_splice fail)) part) s.trace after (low fail) ex.low;
  few = λ pages same. few fail pages same;
  stands = λ t. tt;
  spliced = λ t. tt;
  given = λ views told long. given fail views (ex.granted views told long);
  used = IsUsed-then s.meter mid last puts.used ex.used;
  most = λ t.
      let same = put-tree tells n start w p payload counts runs s put can t puts.others in
      let between = plan-between n (bytes_on s.held) (bytes_on put) w p (can.told t).1 same in
      let writes = ex.writes t (its_plan n (bytes_on s.held) w p).from (its_plan n (bytes_on s.held) w p).count between in
      let count_is = made-counted n (bytes_on s.held) (bytes_on put) w p entries.items (rows counts runs)
      same puts.entries (can.told t).1 in
      let most = puts.most in
      omega (arith, writes, count_is, most);
  cause = record {
    kept = (let one = puts.cause.kept in let two = ex.cause.kept in omega (arith, one, two));
    raised = λ same. (let quiet = puts.cause.still (λ never. absurd (cc)) in let rose = ex.cause.raised (fault fail same) in
        omega (arith, quiet, rose));
    still = λ none. ex.cause.still (λ same. none (again fail same)) ∙ puts.cause.still (λ never. absurd (cc));
  };
} where
  low : (f : SpliceFail) (part : List SpaceEvent) →
      ((f ≡ splice.NoSpace) → (space : ℕ) → space < count s.rest → IsLow space (least_order 1) part) →
      IsLowFor {A = PairList × Spliced} (count s.rest) (Err (of_splice f)) part
  low splice.NoSpace part each = each refl
  low splice.Fault part each = tt
  low splice.Memory part each = tt

  few : (f : SpliceFail) (pages : ℕ) → ◌≡◌ {A = Result (PairList × Spliced) EditFail} (Err (of_splice f)) (Err (NoSpace pages)) → pages ≡ 1
  few splice.NoSpace pages same = (let is : NoSpace 1 ≡ NoSpace pages = cc in let one : 1 ≡ pages = cc in sym one)
  few splice.Fault pages same = absurd (cc)
  few splice.Memory pages same = absurd (cc)

  fault : (f : SpliceFail) → ◌≡◌ {A = Result (PairList × Spliced) EditFail} (Err (of_splice f)) (Err Fault) → f ≡ splice.Fault
  fault splice.NoSpace same = absurd (cc)
  fault splice.Fault same = refl
  fault splice.Memory same = absurd (cc)

  again : (f : SpliceFail) → f ≡ splice.Fault → ◌≡◌ {A = Result (PairList × Spliced) EditFail} (Err (of_splice f)) (Err Fault)
  again splice.NoSpace same = absurd (cc)
  again splice.Fault same = refl
  again splice.Memory same = absurd (cc)

  wanted : ℕ → Type 0
  wanted want = IsTrue tells → want ≡ count_made (laid_levels n (tree_on (bytes_on s.held) w) w.spare (its_plan n (bytes_on s.held) w p)
      (rows counts runs) [])

  given : (f : SpliceFail) (views : List SpaceView) →
      HaveGiven (λ want. IsTrue tells → (k many : ℕ) → IsBetween (entries_on (bytes_on put) w) p.from p.to k many →
      want ≡ count_made (spliced (room_of n.page) (levels_at (bytes_on put) w.root) k many entries.items [])) views start s.rest.frame
      (Err f) now → HasExchanged n start wanted views s.rest.frame (Err (of_splice f)) now
  given splice.NoSpace views (want, wants, (told, refused)) = (
    want,
    λ t.
        let same = put-tree tells n start w p payload counts runs s put can t puts.others in
        let between = plan-between n (bytes_on s.held) (bytes_on put) w p (can.told t).1 same in
        wants t (its_plan n (bytes_on s.held) w p).from (its_plan n (bytes_on s.held) w p).count between
        ∙ made-counted n (bytes_on s.held) (bytes_on put) w p entries.items (rows counts runs) same puts.entries (can.told t).1,
    told,
    λ laid. refused n laid,
  )
  given splice.Fault views (want, wants, keeps) = λ home. spaces-kept n s.rest.frame views now keeps home
  given splice.Memory views (want, wants, keeps) = λ home. spaces-kept n s.rest.frame views now keeps home
