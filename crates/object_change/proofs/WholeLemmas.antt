-- A planned change that was made, or refused, from what its steps say.
use Rattle.std.proofs.Common.{◌≡◌, ℕ, ◌+◌, ◌≤◌, Bool}
use Rattle.std.proofs.Common.{IsTrue, List, [], ◌∷◌, ◌++◌, length, map, sum, take, drop}
use Rattle.std.proofs.Common.{Option, Some, None, refl, sym, ap, subst, arith, ◌∙◌, inl, append_assoc}
use Rattle.std.specs.Prelude.{Result, Ok, Err, IfSome}
use Rattle.std.specs.List.{AllByRecursion}
use Rattle.std.proofs.lemmas.Bool.{false≢true}
use Rattle.std.proofs.lemmas.List.{drop-map, length-map, take-map}
use Rattle.std.proofs.lemmas.Simd.{map-map}
use Rattle.base_laws.proofs.ListLaws.{all-append}
use Rattle.fault_count.specs.Counts.{HasCause, IsUsed, Meter}
use Rattle.fault_count.proofs.CountLaws.{IsUsed-none}
use Rattle.geometry_model.specs.Numbers.{Numbers, IsInRange, fan_out}
use Rattle.block_model.specs.Place.{least_order}
use Rattle.layout_model.specs.declared.extent.Extent.{Extent}
use Rattle.layout_model.specs.declared.fit.Fit.{Fit}
use Rattle.layout_model.specs.declared.fit.Fit.TheVariants.{Extend, Follow, Fresh}
use Rattle.layout_model.specs.declared.request.Request.{Request}
use Rattle.layout_model.specs.Grants.{Answer, Got, Refused, Spaces, all_runs, and_then, node_pages}
use Rattle.layout_model.specs.Layout.{Grants, Tree, granted, laid_entries, laid_levels, plan_of, spare_after, wanted}
use Rattle.layout_model.specs.Levels.{count_made, spliced}
use Rattle.change_laws.proofs.NodeCountLemmas.{made-alike}
use Rattle.page_set.specs.declared.page_run.PageRun.{PageRun}
use Rattle.tree_model.specs.declared.tree.Root.{Root}
use Rattle.let_go_laws.specs.LetGo.{spare_run}
use Rattle.moment_model.specs.Version.{spare_uses, uses}
use Rattle.moment_laws.specs.Granting.{LiesInSpace, page_run, runs_of_parts}
use Rattle.moment_laws.proofs.GrantLemmas.{uses-cons}
use Rattle.node_codec.specs.PairList.{PairList}
use Rattle.page_cache.specs.Kept.{KeptNodes}
use Rattle.space_directory.specs.SpaceView.{SpaceView}
use Rattle.span_store.specs.Held.{Held, bytes_on}
use Rattle.superdirectory.specs.Grants.{AreTold, free_sets}
use Rattle.superdirectory.specs.Parts.{IsLaid}
use Rattle.superdirectory.specs.Rest.{Frame, Rest, count}
use Rattle.superdirectory.specs.Trace.{SpaceEvent, AreEnters}
use Rattle.superdirectory.proofs.Traces.{low_left, low_right, part_as, part_then}
use Rattle.part_store.specs.Asking.{AreOfAll, rows}
use Rattle.tree_splice.specs.declared.new_tree.Spliced.{Spliced}
use Rattle.tree_splice.specs.Splice.{extent_of, firsts_of, single_run}
use Rattle.object_body.specs.declared.fails.EditFail.{EditFail}
use Rattle.object_body.specs.declared.fails.EditFail.TheVariants.{Fault, Memory, NoSpace}
use Rattle.object_body.specs.Moves.{IsUntouched}
use Rattle.object_body.specs.Places.{AreHome, IsStore}
use Rattle.object_body.proofs.MoveLemmas.{same-untouched}
use Rattle.object_plan.specs.declared.planned.Planned.{Planned}
use Rattle.object_plan.specs.declared.working_tree.WorkingTree.{WorkingTree}
use Rattle.object_plan.specs.Planned.{IsPlanOf}
use Rattle.object_plan.specs.WorkingTree.{tree_on}
use Rattle.object_change.specs.declared.changed.Changed.{Changed}
use Rattle.held_parts.specs.declared.part_runs.PartRuns.{PartRuns}
use Rattle.object_change.specs.Calls.{CanMakeChange, MakesChange, WritesChange}
use Rattle.object_change.specs.Changed.{HasChanged, IsEndOfOne, IsToldChange, granted_in, grants_in, parts_plan}
use Rattle.give_back.specs.Giving.{AreLetGo, CanGiveRuns, LeavesNodes, LetsGo, gives, is_in_runs}
use Rattle.object_change.specs.Scene.{used_spare}
use Rattle.object_change.specs.Scene.{Scene}
use Rattle.held_parts.specs.Asking.{AreRunsFor, AsksRuns}
use Rattle.held_parts.specs.Holding.{HoldsGranted}
use Rattle.held_parts.specs.Spaces.{AreTakenOut, IsFewRefused, IsGrantAnswer, IsLowFor}
use Rattle.object_change.specs.Steps.{ChangesOn, HasExchanged, IsChangedTo, put_runs}
use Rattle.held_parts.proofs.HeldLemmas.{same-left, same-used}
use Rattle.object_change.proofs.HeldLemmas.{granted-made, granted-same, granted-written}
use Rattle.object_change.proofs.ChangeLemmas.{entries-plan}
use Rattle.object_change.proofs.MakeLemmas.{IsSpareOf, pages-lie, spare-front, spare-lies}
use Rattle.object_change.proofs.RowLemmas.{rows-flat}
use Rattle.held_parts.proofs.AskLemmas.{store-laid}
use Rattle.held_parts.proofs.SpaceLemmas.{taken-then, untouched-then}

-- ---- the rule of grants

abbrev after_runs : Numbers → ℕ → Tree → Option Extent → Planned → Answer (List (List Extent)) → Answer Grants
after_runs n start tree spare p runs =
    and_then runs (λ rs left.
    and_then (node_pages n start (count_made (laid_levels n tree spare (plan_of n tree spare p.change) rs [])) left)
    (λ pages rest. Got (record { runs = rs; pages = pages }) rest))

-- the rule, by the answer for the runs
granted-by : (n : Numbers) (start : ℕ) (tree : Tree) (spare : Option Extent) (p : Planned) (free : Spaces) (requests : List Request) →
    requests ≡ wanted n tree p.change (plan_of n tree spare p.change) →
    granted n start tree spare p.change free ≡ after_runs n start tree spare p (all_runs n start tree.threshold requests free)
unfolding granted
granted-by n start tree spare p free requests are =
    ap (λ (rs : List Request). after_runs n start tree spare p (all_runs n start tree.threshold rs free)) (sym are)

pub granted-refused : (n : Numbers) (start pages : ℕ) (tree : Tree) (spare : Option Extent) (p : Planned) (free : Spaces) →
    p.requests.items ≡ wanted n tree p.change (plan_of n tree spare p.change) →
    all_runs n start tree.threshold p.requests.items free ≡ Refused pages → granted n start tree spare p.change free ≡ Refused pages
granted-refused n start pages tree spare p free are refused =
    granted-by n start tree spare p free p.requests.items are ∙ ap (after_runs n start tree spare p) refused

pub granted-pages : (n : Numbers) (start want : ℕ) (tree : Tree) (spare : Option Extent) (p : Planned) (free left : Spaces)
    (runs : List (List Extent)) (answer : Answer (List ℕ)) → p.requests.items ≡ wanted n tree p.change (plan_of n tree spare p.change) →
    all_runs n start tree.threshold p.requests.items free ≡ Got runs left →
    want ≡ count_made (laid_levels n tree spare (plan_of n tree spare p.change) runs []) → node_pages n start want left ≡ answer →
    granted n start tree spare p.change free ≡ and_then answer (λ pages rest. Got (record { runs = runs; pages = pages }) rest)
granted-pages n start want tree spare p free left runs answer are got want_is pages =
    granted-by n start tree spare p free p.requests.items are
    ∙ (ap (after_runs n start tree spare p) got
    ∙ ap (λ (a : Answer (List ℕ)). and_then a (λ ps rest. Got (record { runs = runs; pages = ps }) rest))
    (ap (λ (k : ℕ). node_pages n start k left) (sym want_is) ∙ pages))

-- ---- runs that suit, where none were granted

-- each part's wish as one run
abbrev wish_runs : List Request → List (List Extent)
wish_runs [] = []
wish_runs (request ∷ requests) = (record { page = 0; pages = request.want } ∷ []) ∷ wish_runs requests

wish-suits : (threshold : ℕ) (requests : List Request) →
    AreOfAll threshold requests (map (map (λ (run : Extent). run.pages)) (wish_runs requests))
wish-suits threshold [] = tt
wish-suits threshold (request ∷ requests) = (inl refl, wish-suits threshold requests)

pub writes-none : (n : Numbers) (tree : Tree) (w : WorkingTree) (p : Planned) (meter : Meter) → WritesChange n tree w p meter meter
writes-none n tree w p meter = record {
  runs = wish_runs p.requests.items;
  suited = wish-suits w.threshold p.requests.items;
  most = omega arith;
}

-- the pages of rows
rows-map : (counts : List ℕ) (runs : List Extent) →
    rows counts (map (λ (run : Extent). run.pages) runs) ≡ map (map (λ (run : Extent). run.pages)) (rows counts runs)
rows-map [] runs = refl
rows-map (k ∷ counts) runs =
    ap (λ (ks : List ℕ). ks ∷ rows counts (drop k (map (λ (run : Extent). run.pages) runs))) (take-map (λ (run : Extent). run.pages) k runs)
    ∙ ap (λ (rs : List (List ℕ)). map (λ (run : Extent). run.pages) (take k runs) ∷ rs)
    (ap (rows counts) (drop-map (λ (run : Extent). run.pages) k runs) ∙ rows-map counts (drop k runs))

-- ---- a refusal keeps its kind

low-as : (A B : Type 0) (many : ℕ) (fail : EditFail) (part : List SpaceEvent) → IsLowFor {A = A} many (Err fail) part →
    IsLowFor {A = B} many (Err fail) part
low-as A B many (NoSpace pages) part low = low
low-as A B many Fault part low = low
low-as A B many Memory part low = low

few-as : (A B : Type 0) (threshold : ℕ) (fail : EditFail) → IsFewRefused {A = A} threshold (Err fail) →
    IsFewRefused {A = B} threshold (Err fail)
few-as A B threshold (NoSpace pages) few = few
few-as A B threshold Fault few = few
few-as A B threshold Memory few = few

-- a refusal stands behind other looks, and before others
low-between : (A B : Type 0) (many : ℕ) (fail : EditFail) (before part after : List SpaceEvent) →
    IsLowFor {A = A} many (Err fail) part → IsLowFor {A = B} many (Err fail) ((before ++ part) ++ after)
low-between A B many (NoSpace pages) before part after low =
    λ space less. low_left space (least_order pages) (before ++ part) after (low_right space (least_order pages)
    before part (low space less))
low-between A B many Fault before part after low = tt
low-between A B many Memory before part after low = tt

-- ---- the runs were refused

pub makes-unasked : (tells : Bool) (n : Numbers) (start : ℕ) (w : WorkingTree) (p : Planned) (payload : List ℕ) (fail : EditFail)
    (s : Scene) (new : Held) (nodes : KeptNodes) (now : Rest) (after : Option (List SpaceEvent)) →
    CanMakeChange tells n start w p payload s →
    AsksRuns tells n start w.threshold p.requests.items (Err fail) s.held new nodes s.rest now s.trace after →
    MakesChange tells n start w p payload (Err fail) s
    (record { held = new; nodes = nodes; meter = s.meter; rest = now; trace = after })
makes-unasked tells n start w p payload fail s new nodes now after can asks = record {
  changed = tt;
  told = λ t. tt;
  held = same-used (used_spare p.fit w.spare) s.held new asks.held;
  right = asks.right;
  rest = asks.frame;
  low = part_as (λ part. IsLowFor {A = PartRuns} (count s.rest) (Err fail) part)
      (λ part. IsLowFor {A = Changed} (count s.rest) (Err fail) part) s.trace after
      (λ part low. low-as PartRuns Changed (count s.rest) fail part low) asks.low;
  few = few-as PartRuns Changed w.threshold fail asks.few;
  answer = λ t views told long. answer fail t views (asks.answer views told long);
  spaces = λ views told home. asks.spaces views told home;
  used = IsUsed-none s.meter;
  writes = λ t. writes-none n (tree_on (bytes_on s.held) w) w p s.meter;
  cause = record {
    kept = omega arith;
    raised = λ same. absurd (asks.no_fault (let is : fail ≡ Fault = cc in ap (λ (f : EditFail). Err f) is));
    still = λ none. refl;
  };
} where
  answer : (f : EditFail) → IsTrue tells → (views : List SpaceView) →
      IsGrantAnswer (λ (r : PartRuns). rows r.counts.items r.runs.items)
      (all_runs n start w.threshold p.requests.items (free_sets views)) now (Err f) →
      IsGrantAnswer {A = Changed} grants_in (granted n start (tree_on (bytes_on s.held) w) w.spare p.change (free_sets views)) now (Err f)
  answer (NoSpace pages) t views due =
      granted-refused n start pages (tree_on (bytes_on s.held) w) w.spare p (free_sets views) (can.told t).1.requests due
  answer Fault t views due = tt
  answer Memory t views due = tt

-- ---- what is held of a spare that is used

spare-only : (fit : Fit) (spare : Option Extent) (runs : List Extent) (q : ℕ) → uses q runs ≡ 0 →
    spare_uses q (used_spare fit spare) ≡ 0 → uses q (put_runs fit spare runs) ≡ 0
spare-only Fresh spare runs q out off = out
spare-only Follow spare runs q out off = only spare off
  where
    only : (s : Option Extent) → spare_uses q s ≡ 0 → uses q (spare_run s) ≡ 0
    only None off = refl
    only (Some run) off = (let all = uses-cons q run [] in omega (arith, all, off))
spare-only Extend spare runs q out off = only spare off
  where
    only : (s : Option Extent) → spare_uses q s ≡ 0 → uses q (spare_run s) ≡ 0
    only None off = refl
    only (Some run) off = (let all = uses-cons q run [] in omega (arith, all, off))

-- ---- the change was refused once its runs were held, and they are given back

-- what the spaces were before they were given back
still-untouched : (n : Numbers) (start : ℕ) (wants : ℕ → Type 0) (views : List SpaceView) (frame : Frame) (fail : EditFail)
    (rest : Rest) → AreHome frame views → HasExchanged n start wants views frame (Err fail) rest → IsUntouched n frame views rest
still-untouched n start wants views frame (NoSpace pages) rest home (want, wants_it, told, refused) =
    same-untouched n frame views rest told home
still-untouched n start wants views frame Fault rest home keeps = keeps home
still-untouched n start wants views frame Memory rest home keeps = keeps home

-- the runs are still held, each in spans of its own
pub refused-can : (tells : Bool) (n : Numbers) (start : ℕ) (w : WorkingTree) (p : Planned) (payload : List ℕ) (r : PartRuns)
    (fail : EditFail) (s mid last : Scene) →
    AsksRuns tells n start w.threshold p.requests.items (Ok r) s.held mid.held mid.nodes s.rest mid.rest s.trace mid.trace →
    ChangesOn tells n start w p payload r.counts.items r.runs.items (Err fail) mid last → CanGiveRuns n last.held r.runs.items
refused-can tells n start w p payload r fail s mid last asks change =
    let runs = r.runs.items in
    let used = used_spare p.fit w.spare in
    let put = granted-written used runs (put_runs p.fit w.spare runs) tells n.page s.held mid.held change.put asks.held change.others
    (λ q out off. spare-only p.fit w.spare runs q out off) in
    let held = granted-same used runs s.held change.put last.held change.made put in
    record { lie = asks.runs.together; own = held.own; once = held.once }

pub makes-refused : (tells : Bool) (n : Numbers) (start : ℕ) (w : WorkingTree) (p : Planned) (payload : List ℕ) (r : PartRuns)
    (fail : EditFail) (s : Scene) (mid : Scene) (last : Scene) (new : Held) (nodes : KeptNodes) (now : Rest)
    (after : Option (List SpaceEvent)) → CanMakeChange tells n start w p payload s → mid.meter ≡ s.meter →
    AsksRuns tells n start w.threshold p.requests.items (Ok r) s.held mid.held mid.nodes s.rest mid.rest s.trace mid.trace →
    ChangesOn tells n start w p payload r.counts.items r.runs.items (Err fail) mid last →
    (IsTrue tells → tree_on (bytes_on mid.held) w ≡ tree_on (bytes_on s.held) w) →
    LeavesNodes tells n.page (is_in_runs r.runs.items) last.held new last.nodes nodes →
    LetsGo n (gives (is_in_runs r.runs.items)) last.rest now last.trace after →
    MakesChange tells n start w p payload (Err fail) s
    (record { held = new; nodes = nodes; meter = last.meter; rest = now; trace = after })
makes-refused tells n start w p payload r fail s mid last new nodes now after can meter asks change same leaves goes =
    let runs = r.runs.items in
    let used = used_spare p.fit w.spare in
    let put = granted-written used runs (put_runs p.fit w.spare runs) tells n.page s.held mid.held change.put asks.held change.others
    (λ q out off. spare-only p.fit w.spare runs q out off) in
    let frame = asks.frame.frame in
    let many : count mid.rest ≡ count s.rest = ap (λ (f : Frame). length f.firsts) frame in
    record {
      changed = tt;
      told = λ t. tt;
      held = same-left used runs s.held last.held new (granted-same used runs s.held change.put last.held change.made put)
          leaves.spans.left;
      right = record { sized = leaves.spans.sized change.right.sized; nodes = leaves.nodes change.right.nodes };
      rest = record {
        frame = goes.rest.frame ∙ (change.frame.frame ∙ frame);
        entered = goes.rest.entered;
      };
      low = part_then (λ part. Between part) AreEnters (λ part. IsLowFor {A = Changed} (count s.rest) (Err fail) part)
          s.trace last.trace after
          (λ a b one enters.
          subst (λ (l : List SpaceEvent). IsLowFor {A = Changed} (count s.rest) (Err fail) (l ++ b)) (sym one.2)
          (low-between (PairList × Spliced) Changed (count s.rest) fail one.0 one.1 b one.3))
          (part_then (λ part. IsLowFor {A = PartRuns} (count s.rest) (Ok r) part)
          (λ part. IsLowFor {A = PairList × Spliced} (count mid.rest) (Err fail) part) (λ part. Between part) s.trace mid.trace last.trace
          (λ a b one two. (a, b, refl, subst (λ (k : ℕ). IsLowFor {A = PairList × Spliced} k (Err fail) b) many two)) asks.low change.low)
          goes.enters;
      few = few fail (λ pages is. change.few pages (ap (λ (f : EditFail). Err f) is));
      answer = λ t views told long.
          let got = asks.answer views told long in
          answer fail refl t views got (change.given got.0 got.1 (asks.long views told long got.0 got.1));
      spaces = λ views told home.
          let out = asks.spaces views told home in
          let home_mid = subst (λ (f : Frame). AreHome f out.after) (sym frame) out.home in
          let still = still-untouched n start _ out.after mid.rest.frame fail last.rest home_mid
          (change.given out.after out.told home_mid.number) in
          let still_s = subst (λ (f : Frame). IsUntouched n f out.after last.rest) frame still in
          untouched-then n s.rest.frame runs views mid.rest last.rest now out still_s
          (subst (λ (f : Frame). AreLetGo n f (gives (is_in_runs runs)) still_s.after now) (change.frame.frame ∙ frame)
          (goes.spaces still_s.after still_s.told
          (subst (λ (f : Frame). AreHome f still_s.after) (sym (change.frame.frame ∙ frame)) still_s.home)));
      used = subst (λ (m : Meter). IsUsed m last.meter) meter change.used;
      writes = λ t. record {
        runs = rows r.counts.items runs;
        suited = subst (AreOfAll w.threshold p.requests.items) (rows-map r.counts.items runs) asks.runs.suited;
        most = (let most = change.most t in let tree = same t in
            let counted = ap (λ (x : Tree). count_made (laid_levels n x w.spare (plan_of n x w.spare p.change) (rows r.counts.items runs)
            [])) tree in
            let written = ap (λ (m : Meter). m.written) meter in omega (arith, most, counted, written));
      };
      cause = subst (λ (m : Meter). HasCause m.faults last.meter.faults (◌≡◌ {A = Result Changed EditFail} (Err fail) (Err Fault))) meter
          (record {
            kept = change.cause.kept;
            raised = λ is. change.cause.raised (again fail is);
            still = λ none. change.cause.still (λ is. none (back fail is));
          });
    }
  where
    Between : List SpaceEvent → Type 0
    Between part = (a : List SpaceEvent) × (b : List SpaceEvent) × (part ≡ a ++ b)
        × IsLowFor {A = PairList × Spliced} (count s.rest) (Err fail) b

    again : (f : EditFail) → ◌≡◌ {A = Result Changed EditFail} (Err f) (Err Fault) →
        ◌≡◌ {A = Result (PairList × Spliced) EditFail} (Err f) (Err Fault)
    again (NoSpace pages) is = absurd (cc)
    again Fault is = refl
    again Memory is = absurd (cc)

    back : (f : EditFail) → ◌≡◌ {A = Result (PairList × Spliced) EditFail} (Err f) (Err Fault) →
        ◌≡◌ {A = Result Changed EditFail} (Err f) (Err Fault)
    back (NoSpace pages) is = absurd (cc)
    back Fault is = refl
    back Memory is = absurd (cc)

    few : (f : EditFail) → ((pages : ℕ) → f ≡ NoSpace pages → pages ≡ 1) → IsFewRefused {A = Changed} w.threshold (Err f)
    few (NoSpace pages) one =
        (let is = one pages refl in let least = can.change.threshold_low in (omega (arith, is), omega (arith, is, least)))
    few Fault one = tt
    few Memory one = tt

    answer : (f : EditFail) → fail ≡ f → IsTrue tells → (views : List SpaceView) (got : (left : List SpaceView) × AreTold mid.rest left
        × (all_runs n start w.threshold p.requests.items (free_sets views) ≡ Got (rows r.counts.items r.runs.items) (free_sets left))) →
        HasExchanged n start (λ want. IsTrue tells → want ≡ count_made (laid_levels n (tree_on (bytes_on mid.held) w) w.spare
        (plan_of n (tree_on (bytes_on mid.held) w) w.spare p.change) (rows r.counts.items r.runs.items) [])) got.0 mid.rest.frame
        (Err f) last.rest →
        IsGrantAnswer {A = Changed} grants_in (granted n start (tree_on (bytes_on s.held) w) w.spare p.change (free_sets views)) now (Err f)
    answer (NoSpace pages) is t views got (want, wants, told, refused) =
        let tree = same t in
        let want_is = subst (λ (x : Tree). want ≡ count_made (laid_levels n x w.spare (plan_of n x w.spare p.change)
        (rows r.counts.items r.runs.items) [])) tree (wants t) in
        let laid = store-laid n s.rest.frame can.ready.store in
        granted-pages n start want (tree_on (bytes_on s.held) w) w.spare p (free_sets views) (free_sets got.0)
        (rows r.counts.items r.runs.items) (Refused 1) (can.told t).1.requests got.2 want_is
        (refused (subst (λ (f : Frame). IsLaid n f.firsts) (sym asks.frame.frame) laid))
        ∙ ap Refused (sym (change.few pages (ap (λ (f : EditFail). Err f) is)))
    answer Fault is t views got given = tt
    answer Memory is t views got given = tt

-- ---- the change was made

-- the pages of what was granted, as rows and nodes
pub granted-are : (c : Changed) (runs : List Extent) (counts : List ℕ) → c.runs.items ≡ runs → c.counts.items ≡ counts →
    sum counts ≡ length runs → granted_in c ≡ runs ++ map page_run (firsts_of c.made)
granted-are c runs counts runs_are counts_are whole =
    let same : rows c.counts.items c.runs.items ≡ rows counts runs =
    ap (λ (ks : List ℕ). rows ks c.runs.items) counts_are ∙ ap (rows counts) runs_are in
    ap (λ (rs : List (List Extent)). runs_of_parts rs ++ map page_run (firsts_of c.made)) same
    ∙ ap (λ (rs : List Extent). rs ++ map page_run (firsts_of c.made)) (rows-flat counts runs whole)

pub changed-is : (tells : Bool) (n : Numbers) (start : ℕ) (w : WorkingTree) (p : Planned) (payload : List ℕ) (r : PartRuns)
    (entries : PairList) (sp : Spliced) (c : Changed) (mid last : Scene) → IsStore n mid.rest.frame →
    AreRunsFor n w.threshold p.requests.items r.counts.items r.runs.items →
    ChangesOn tells n start w p payload r.counts.items r.runs.items (Ok (entries, sp)) mid last →
    IsChangedTo n w.spare p r.counts.items r.runs.items entries.items sp c → HasChanged n w p c
changed-is tells n start w p payload r entries sp c mid last store fit change is =
    let rows_are : rows c.counts.items c.runs.items ≡ rows r.counts.items r.runs.items =
    ap (λ (ks : List ℕ). rows ks c.runs.items) is.counts_are ∙ ap (rows r.counts.items) is.runs_are in
    let all = granted-are c r.runs.items r.counts.items is.runs_are is.counts_are fit.whole in
    let made = is.made_are in
    let spare = is.spare_is ∙ ap (spare_after n w.spare p.change (parts_plan p)) (sym rows_are) in
    record {
      entries = is.entries_are ∙ (change.entries ∙ ap (laid_entries n w.spare (parts_plan p)) (sym rows_are));
      spare = spare;
      spare_from = subst (λ (o : Option Extent). IfSome o (λ end. (1 ≤ end.pages)
          × IsEndOfOne (spare_run w.spare ++ granted_in c) end)) (sym is.spare_is)
          (subst (λ (rs : List Extent). IsSpareOf rs
          (spare_after n w.spare p.change (parts_plan p) (rows r.counts.items r.runs.items)))
          (append_assoc (spare_run w.spare) (runs_of_parts (rows r.counts.items r.runs.items))
          (map page_run (firsts_of c.made))
          ∙ ap (λ (rs : List Extent). spare_run w.spare ++ rs)
          (ap (λ (rs : List (List Extent)). runs_of_parts rs ++ map page_run (firsts_of c.made)) (sym rows_are)))
          (spare-front (spare_run w.spare
          ++ runs_of_parts (rows r.counts.items r.runs.items)) (map page_run (firsts_of c.made)) _
          (spare-lies n w.spare p (rows r.counts.items r.runs.items))));
      total = subst (λ (root : Root). root.length + p.change.removed
          ≡ w.root.length + p.change.added) (sym is.root_is) change.total;
      whole = ap sum is.counts_are ∙ (fit.whole ∙ sym (ap length is.runs_are));
      suited = subst (AreOfAll w.threshold p.requests.items)
          (sym (ap (λ (ks : List ℕ). rows ks (map (λ (run : Extent). run.pages) c.runs.items)) is.counts_are
          ∙ ap (λ (rs : List Extent). rows r.counts.items (map (λ (run : Extent). run.pages) rs)) is.runs_are)) fit.suited;
      together = subst (AllByRecursion (LiesInSpace n)) (sym all)
          (all-append (LiesInSpace n) r.runs.items (map page_run (firsts_of c.made)) fit.together
          (subst (λ (ps : List ℕ). AllByRecursion (LiesInSpace n) (map page_run ps)) (sym (ap firsts_of made))
          (pages-lie n mid.rest.frame (firsts_of sp.made) store change.home)));
      single = subst (λ (rs : List PageRun). rs ≡ map single_run (firsts_of rs))
          (sym made) change.single;
    }

-- what is held afterwards
pub held-made : (tells : Bool) (n : Numbers) (start : ℕ) (w : WorkingTree) (p : Planned) (payload : List ℕ) (r : PartRuns)
    (entries : PairList) (sp : Spliced) (c : Changed) (s mid last : Scene) →
    AreRunsFor n w.threshold p.requests.items r.counts.items r.runs.items → HoldsGranted None r.runs.items s.held mid.held →
    ChangesOn tells n start w p payload r.counts.items r.runs.items (Ok (entries, sp)) mid last →
    IsChangedTo n w.spare p r.counts.items r.runs.items entries.items sp c →
    HoldsGranted (used_spare p.fit w.spare) (granted_in c) s.held last.held
held-made tells n start w p payload r entries sp c s mid last fit granted change is =
    let used = used_spare p.fit w.spare in
    let runs = r.runs.items in
    let put = granted-written used runs (put_runs p.fit w.spare runs) tells n.page s.held mid.held change.put granted change.others
    (λ q out off. spare-only p.fit w.spare runs q out off) in
    let all = granted-are c runs r.counts.items is.runs_are is.counts_are fit.whole
    ∙ ap (λ (rs : List PageRun). runs ++ map page_run (firsts_of rs)) is.made_are in
    subst (λ (rs : List Extent). HoldsGranted used rs s.held last.held) (sym all)
    (granted-made used runs sp.made s.held change.put last.held put change.made (λ q. once q))
  where
    extents-are : (rs : List PageRun) → rs ≡ map single_run (firsts_of rs) →
        map extent_of rs ≡ map page_run (firsts_of rs)
    extents-are rs single = ap (map extent_of) single ∙ map-map extent_of single_run (firsts_of rs)

    once : (q : ℕ) → uses q (map page_run (firsts_of sp.made)) ≤ 1
    once q = subst (λ (es : List Extent). uses q es ≤ 1) (extents-are sp.made change.single) (change.made.once q)

pub makes-ok : (tells : Bool) (n : Numbers) (start : ℕ) (w : WorkingTree) (p : Planned) (payload : List ℕ) (r : PartRuns)
    (entries : PairList) (sp : Spliced) (c : Changed) (s mid last : Scene) → IsInRange n → CanMakeChange tells n start w p payload s →
    mid.meter ≡ s.meter →
    AsksRuns tells n start w.threshold p.requests.items (Ok r) s.held mid.held mid.nodes s.rest mid.rest s.trace mid.trace →
    ChangesOn tells n start w p payload r.counts.items r.runs.items (Ok (entries, sp)) mid last →
    IsChangedTo n w.spare p r.counts.items r.runs.items entries.items sp c →
    (IsTrue tells → tree_on (bytes_on mid.held) w ≡ tree_on (bytes_on s.held) w) →
    (IsTrue tells → IsPlanOf n (bytes_on mid.held) w p) →
    (IsTrue tells → IsToldChange n (bytes_on s.held) (bytes_on last.held) w p.change payload c) →
    MakesChange tells n start w p payload (Ok c) s last
makes-ok tells n start w p payload r entries sp c s mid last range can meter asks change is same mid_plan told =
    let runs = r.runs.items in
    let frame = asks.frame.frame in
    let store = subst (IsStore n) (sym frame) can.ready.store in
    let rows_are : rows c.counts.items c.runs.items ≡ rows r.counts.items runs =
    ap (λ (ks : List ℕ). rows ks c.runs.items) is.counts_are ∙ ap (rows r.counts.items) is.runs_are in
    let all = granted-are c runs r.counts.items is.runs_are is.counts_are asks.runs.whole
    ∙ ap (λ (rs : List PageRun). runs ++ map page_run (firsts_of rs)) is.made_are in
    record {
      changed = changed-is tells n start w p payload r entries sp c mid last store asks.runs change is;
      told = told;
      held = held-made tells n start w p payload r entries sp c s mid last asks.runs asks.held change is;
      right = change.right;
      rest = record { frame = change.frame.frame ∙ frame; entered = change.frame.entered };
      low = part_then (λ part. IsLowFor {A = PartRuns} (count s.rest) (Ok r) part)
          (λ part. IsLowFor {A = PairList × Spliced} (count mid.rest) (Ok (entries, sp)) part)
          (λ part. IsLowFor {A = Changed} (count s.rest) (Ok c) part) s.trace mid.trace last.trace (λ a b one two. tt) asks.low change.low;
      few = tt;
      answer = λ t views views_told long.
          let got = asks.answer views views_told long in
          let pages = change.given got.0 got.1 (asks.long views views_told long got.0 got.1) in
          let laid = store-laid n s.rest.frame can.ready.store in (
            pages.after,
            pages.told,
            granted-pages n start (length (firsts_of sp.made)) (tree_on (bytes_on s.held) w) w.spare p (free_sets views) (free_sets got.0)
                (rows r.counts.items runs) (Got (firsts_of sp.made) (free_sets pages.after)) (can.told t).1.requests got.2
                (made-long t)
                (pages.answer (subst (λ (f : Frame). IsLaid n f.firsts) (sym frame) laid))
                ∙ ap (λ (g : Grants). Got g (free_sets pages.after))
                (ap (λ (rs : List (List Extent)). record { runs = rs; pages = firsts_of sp.made }) (sym rows_are)
                ∙ ap (λ (ps : List ℕ). record { runs = rows c.counts.items c.runs.items; pages = ps }) (sym (ap firsts_of is.made_are))),
          );
      spaces = λ views views_told home.
          let out = asks.spaces views views_told home in
          let home_mid = subst (λ (f : Frame). AreHome f out.after) (sym frame) out.home in
          let pages = (change.given out.after out.told home_mid.number).out store home_mid in
          subst (λ (rs : List Extent). AreTakenOut n s.rest.frame rs views last.rest) (sym all)
          (taken-then n s.rest.frame runs (map page_run (firsts_of sp.made)) views mid.rest last.rest out
          (subst (λ (f : Frame). AreTakenOut n f (map page_run (firsts_of sp.made)) out.after last.rest) frame pages));
      used = subst (λ (m : Meter). IsUsed m last.meter) meter change.used;
      writes = λ t. record {
        runs = rows r.counts.items runs;
        suited = subst (AreOfAll w.threshold p.requests.items) (rows-map r.counts.items runs) asks.runs.suited;
        most = (let most = change.most t in let tree = same t in
            let counted = ap (λ (x : Tree). count_made (laid_levels n x w.spare (plan_of n x w.spare p.change) (rows r.counts.items runs)
            [])) tree in
            let written = ap (λ (m : Meter). m.written) meter in omega (arith, most, counted, written));
      };
      cause = subst (λ (m : Meter). HasCause m.faults last.meter.faults (◌≡◌ {A = Result Changed EditFail} (Ok c) (Err Fault))) meter
          (record {
            kept = change.cause.kept;
            raised = λ bad. absurd (cc);
            still = λ none. change.cause.still (λ bad. absurd (cc));
          });
    }
  where
    -- as many nodes are made as the plan makes
    made-long : IsTrue tells → length (firsts_of sp.made) ≡ count_made (laid_levels n (tree_on (bytes_on s.held) w) w.spare
        (plan_of n (tree_on (bytes_on s.held) w) w.spare p.change) (rows r.counts.items r.runs.items) [])
    made-long t =
        let exchanged = change.spliced t in
        let tree = same t in
        let mid_tree = tree_on (bytes_on mid.held) w in
        let plan = plan_of n mid_tree w.spare p.change in
        length-map sp.made (λ (x : PageRun). x.first)
        ∙ (sym exchanged.each
        ∙ (made-alike (fan_out n) mid_tree.levels plan.from plan.count entries.items (firsts_of sp.made) []
        ∙ (ap (λ es. count_made (spliced (fan_out n) mid_tree.levels plan.from plan.count es []))
        (change.entries ∙ entries-plan n (bytes_on mid.held) w p (rows r.counts.items r.runs.items) (mid_plan t))
        ∙ ap (λ (x : Tree). count_made (laid_levels n x w.spare (plan_of n x w.spare p.change) (rows r.counts.items r.runs.items) []))
        tree)))
