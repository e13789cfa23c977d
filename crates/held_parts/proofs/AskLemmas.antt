-- The runs of parts: asked for and held, or given back.
use Rattle.std.proofs.Common.{◌≡◌, ℕ, Bool, List, [], ◌++◌, length, map, sum, drop, Option, Some, None}
use Rattle.std.proofs.Common.{refl, sym, ap, subst, arith, ◌∙◌}
use Rattle.std.specs.Prelude.{Result, Ok, Err}
use Rattle.std.specs.List.{AllByRecursion}
use Rattle.std.proofs.lemmas.List.{drop_at, length-map, map-append}
use Rattle.std.proofs.lemmas.Simd.{map-map}
use Rattle.change_laws.proofs.PartLemmas.{all-right}
use Rattle.geometry_model.specs.Numbers.{Numbers}
use Rattle.layout_model.specs.declared.extent.Extent.{Extent}
use Rattle.layout_model.specs.declared.request.Request.{Request}
use Rattle.layout_model.specs.Grants.{Got, all_runs}
use Rattle.moment_laws.specs.Granting.{LiesInSpace}
use Rattle.page_cache.specs.Kept.{KeptNodes}
use Rattle.space_directory.specs.SpaceView.{SpaceView}
use Rattle.span_store.specs.Held.{AllSized, Held}
use Rattle.superdirectory.specs.Grants.{AreTold, AreRunsIn, IsGivenAll, KeepsFrame, free_sets}
use Rattle.superdirectory.specs.Parts.{IsLaid, extents}
use Rattle.superdirectory.specs.Rest.{Frame, Rest, count}
use Rattle.superdirectory.specs.Trace.{SpaceEvent, Part, AreEnters}
use Rattle.superdirectory.proofs.Halves.{taken_length}
use Rattle.superdirectory.proofs.Traces.{part_as, part_then}
use Rattle.superdirectory.proofs.HomeLaws.{told-same}
use Rattle.part_store.specs.Asking.{AreOfAll, AreRuns, AreRunsOf, IsLowAt, IsRefusedFor, LeavesTold, rows}
use Rattle.object_body.specs.declared.fails.EditFail.{EditFail}
use Rattle.object_body.specs.declared.fails.EditFail.TheVariants.{Memory, NoSpace}
use Rattle.object_body.specs.Places.{AreHome, IsStore}
use Rattle.object_body.proofs.MoveLemmas.{same-untouched}
use Rattle.held_parts.specs.declared.part_runs.PartRuns.{PartRuns}
use Rattle.give_back.specs.Giving.{AreLetGo, CanGiveRuns, IsLeft, LeavesNodes, LetsGo, gives, is_in_runs}
use Rattle.held_parts.specs.Asking.{AreHeldLast, AsksRuns, HoldsParts}
use Rattle.held_parts.specs.Holding.{HoldsGranted, HoldsSame, KeepsRight}
use Rattle.held_parts.specs.Spaces.{AreTakenOut, IsLowFor}
use Rattle.held_parts.proofs.HeldLemmas.{granted-spans, same-from, same-left, same-none}
use Rattle.held_parts.proofs.NodeLemmas.{granted-bare, granted-nodes}
use Rattle.give_back.proofs.RunsLemmas.{both-go}
use Rattle.held_parts.proofs.SpaceLemmas.{back-all, back-let_go, back-untouched, runs-lie, taken-out}
use Rattle.give_back.proofs.UsesLemmas.{in-append}

-- the runs of two lists
pub extents-append : {A : Type 0} (first : A → ℕ) (pages : A → List (List ℕ)) (xs ys : List A) →
    extents first pages (xs ++ ys) ≡ extents first pages xs ++ extents first pages ys
extents-append {A} first pages xs ys = map-append (λ (x : A). record { page = first x; pages = length (pages x) }) xs ys

-- ---- segments that are given back all at once

pub all-go : {A : Type 0} (n : Numbers) (space first : A → ℕ) (pages : A → List (List ℕ)) (tells : Bool) (runs : List A) (old new : Rest)
    (before after : Option (List SpaceEvent)) → IsStore n old.frame → AreRunsIn space first pages tells old.frame runs →
    KeepsFrame old new → Part AreEnters before after →
    ((views : List SpaceView) → AreTold old views → length views ≡ count old →
    ((last : List SpaceView) × AreTold new last × IsGivenAll space first pages views runs last)) →
    LetsGo n (gives (is_in_runs (extents first pages runs))) old new before after
all-go {A} n space first pages tells runs old new before after store inside keeps enters told = record {
  rest = keeps;
  enters = enters;
  spaces = λ views here home.
      let all = told views here home.number in
      back-let_go n old.frame (extents first pages runs) views all.0 new
      (back-all n old.frame space first pages tells views runs all.0 store home inside all.2) all.1;
}

-- ---- segments that are held

-- all of them
pub holds-all : {A : Type 0} (first : A → ℕ) (pages : A → List (List ℕ)) (had : List A) (old new : Held) →
    AreHeldLast first pages had [] old new → HoldsGranted None (extents first pages had) old new
holds-all {A} first pages had old new last =
    subst (λ (xs : List A). HoldsGranted None (extents first pages xs) old new) (sym last.parts) last.held

-- those behind the ones that are left in the list
pub rest-runs : {A : Type 0} (first : A → ℕ) (pages : A → List (List ℕ)) (had has : List A) (runs taken : List Extent) (old new : Held) →
    (last : AreHeldLast first pages had has old new) → runs ≡ extents first pages had → taken ≡ drop (length has) runs →
    taken ≡ extents first pages last.done
rest-runs {A} first pages had has runs taken old new last are is =
    let split = are ∙ (ap (extents first pages) last.parts ∙ extents-append first pages has last.done) in
    let long : length (extents first pages has) ≡ length has = length-map has (λ (x : A). record {
      page = first x;
      pages = length
          (pages x);
    }) in
    is ∙ (ap (drop (length has)) split ∙ drop_at (extents first pages has) (extents first pages last.done) (length has) long)

pub can-give : (n : Numbers) (runs : List Extent) (old new : Held) → AllByRecursion (LiesInSpace n) runs → HoldsGranted None runs old new →
    CanGiveRuns n new runs
can-give n runs old new lie granted = record { lie = lie; own = granted.own; once = granted.once }

pub rest-can : {A : Type 0} (n : Numbers) (frame : Frame) (space first : A → ℕ) (pages : A → List (List ℕ)) (tells : Bool)
    (had has : List A)
    (runs taken : List Extent) (old new : Held) → IsStore n frame → AreRunsIn space first pages tells frame had →
    AreHeldLast first pages had has old new → runs ≡ extents first pages had → taken ≡ drop (length has) runs → CanGiveRuns n new taken
rest-can {A} n frame space first pages tells had has runs taken old new store inside last are is =
    let same = rest-runs first pages had has runs taken old new last are is in
    let lie = runs-lie n frame space first pages tells had store inside in
    let split = ap (extents first pages) last.parts ∙ extents-append first pages has last.done in
    subst (CanGiveRuns n new) (sym same)
    (can-give n (extents first pages last.done) old new
    (all-right (LiesInSpace n) (extents first pages has) (extents first pages last.done) (subst (AllByRecursion (LiesInSpace n)) split lie))
    last.held)

-- ---- what holding them comes to

pub parts-held : (tells : Bool) (n : Numbers) (r : PartRuns) (runs : List Extent) (old new : Held) (nodes : KeptNodes) (rest : Rest)
    (trace : Option (List SpaceEvent)) → r.runs.items ≡ runs → HoldsGranted None runs old new → KeepsRight tells n old nodes →
    AllSized tells n.page new → HoldsParts tells n r.counts.items runs (Ok r) old new nodes rest rest trace trace
parts-held tells n r runs old new nodes rest trace are granted right sized =
    let own = subst (λ (rs : List Extent). HoldsGranted None rs old new) (sym are) granted in
    record {
      counts_are = refl;
      runs_are = are;
      held = own;
      right = record { sized = sized; nodes = granted-nodes tells n.page r.runs.items old new nodes right.nodes own };
      bare = λ t. granted-bare tells n.page r.runs.items old new nodes t right.nodes own;
      back = (refl, refl);
    }

pub parts-back : (tells : Bool) (n : Numbers) (counts : List ℕ) (runs : List Extent) (old new : Held) (nodes : KeptNodes) (rest now : Rest)
    (before after : Option (List SpaceEvent)) → HoldsSame None old new → KeepsRight tells n new nodes →
    LetsGo n (gives (is_in_runs runs)) rest now before after →
    HoldsParts tells n counts runs (Err Memory) old new nodes rest now before after
parts-back tells n counts runs old new nodes rest now before after same right goes = record {
  counts_are = tt;
  runs_are = tt;
  held = same;
  right = right;
  bare = λ t. tt;
  back = (refl, goes);
}

-- where they were held in other room
pub parts-spans : (tells : Bool) (n : Numbers) (counts : List ℕ) (runs : List Extent) (result : Result PartRuns EditFail)
    (old mid new : Held) (nodes : KeptNodes) (rest now : Rest) (before after : Option (List SpaceEvent)) → mid.spans ≡ old.spans →
    HoldsParts tells n counts runs result mid new nodes rest now before after →
    HoldsParts tells n counts runs result old new nodes rest now before after
parts-spans tells n counts runs (Ok r) old mid new nodes rest now before after same holds = record {
  counts_are = holds.counts_are;
  runs_are = holds.runs_are;
  held = granted-spans None r.runs.items old mid new same holds.held;
  right = holds.right;
  bare = holds.bare;
  back = holds.back;
}
parts-spans tells n counts runs (Err fail) old mid new nodes rest now before after same holds = record {
  counts_are = tt;
  runs_are = tt;
  held = same-from None old mid new same holds.held;
  right = holds.right;
  bare = λ t. tt;
  back = holds.back;
}

-- one of the pages was held: those that were held are taken out again, and all given back
pub parts-refused : {A : Type 0} (tells : Bool) (n : Numbers) (space first : A → ℕ) (pages : A → List (List ℕ)) (counts : List ℕ)
    (had has : List A) (runs taken : List Extent) (old mid new : Held) (nodes cache : KeptNodes) (rest between now : Rest)
    (before middle after : Option (List SpaceEvent)) → AreHeldLast first pages had has old mid → runs ≡ extents first pages had →
    taken ≡ drop (length has) runs → KeepsRight tells n old nodes → AllSized tells n.page mid →
    LetsGo n (gives (is_in_runs (extents first pages has))) rest between before middle →
    LeavesNodes tells n.page (is_in_runs taken) mid new nodes cache →
    LetsGo n (gives (is_in_runs taken)) between now middle after →
    HoldsParts tells n counts (extents first pages had) (Err Memory) old new cache rest now before after
parts-refused {A} tells n space first pages counts had has runs taken old mid new nodes cache rest between now before middle after last are
    is right sized first_go leaves go =
    let same = rest-runs first pages had has runs taken old mid last are is in
    let done = extents first pages last.done in
    let split = ap (extents first pages) last.parts ∙ extents-append first pages has last.done in
    let left = subst (λ (rs : List Extent). IsLeft (is_in_runs rs) mid new) same leaves.spans.left in
    parts-back tells n counts (extents first pages had) old new cache rest now before after
    (same-left None done old mid new last.held left)
    (record {
      sized = leaves.spans.sized sized;
      nodes = leaves.nodes (granted-nodes tells n.page done old mid nodes right.nodes last.held);
    })
    (both-go n (extents first pages has) done (extents first pages had) rest between now before middle after
    (λ q. ap (λ (rs : List Extent). is_in_runs rs q) split ∙ in-append q (extents first pages has) done) first_go
    (subst (λ (rs : List Extent). LetsGo n (gives (is_in_runs rs)) between now middle after) same go))

-- ---- what asking for them comes to

-- the pages of each run
pub extents-pages : {A : Type 0} (first : A → ℕ) (pages : A → List (List ℕ)) (xs : List A) →
    map (λ (run : Extent). run.pages) (extents first pages xs) ≡ map (λ x. length (pages x)) xs
extents-pages {A} first pages xs =
    map-map (λ (run : Extent). run.pages) (λ (x : A). record { page = first x; pages = length (pages x) }) xs

-- a store is laid out as its numbers say
pub store-laid : (n : Numbers) (frame : Frame) → IsStore n frame → IsLaid n frame.firsts
store-laid n frame store = λ s less. store.firsts s (omega (arith, less, store.number))

pub asked-ok : {A : Type 0} (tells : Bool) (n : Numbers) (start threshold : ℕ) (requests : List Request) (space first : A → ℕ)
    (pages : A → List (List ℕ)) (counts : List ℕ) (segments : List A) (r : PartRuns) (old new : Held) (nodes : KeptNodes)
    (rest mid now : Rest) (before middle after : Option (List SpaceEvent)) → IsStore n rest.frame →
    KeepsFrame rest mid → AreRuns space first pages tells rest.frame threshold requests counts segments →
    ((views : List SpaceView) → AreTold rest views → length views ≡ count rest → AreRunsOf space first pages views
    (IsLaid n rest.frame.firsts) (all_runs n start threshold requests (free_sets views)) counts segments mid) →
    Part (λ part. Unit {0}) before middle →
    HoldsParts tells n counts (extents first pages segments) (Ok r) old new nodes mid now middle after →
    AsksRuns tells n start threshold requests (Ok r) old new nodes rest now before after
asked-ok {A} tells n start threshold requests space first pages counts segments r old new nodes rest mid now before middle after store keeps
    runs exact low held =
    let still = held.back.0 in
    record {
      runs = record {
        whole = ap sum held.counts_are ∙ (runs.whole ∙ sym (ap length held.runs_are
            ∙ length-map segments (λ (x : A). record { page = first x; pages = length (pages x) })));
        suited = subst (AreOfAll threshold requests)
            (sym (ap (λ (cs : List ℕ). rows cs (map (λ (run : Extent). run.pages) r.runs.items)) held.counts_are
            ∙ ap (rows counts) (ap (map (λ (run : Extent). run.pages)) held.runs_are ∙ extents-pages first pages segments)))
            runs.parts;
        together = subst (AllByRecursion (LiesInSpace n)) (sym held.runs_are)
            (runs-lie n rest.frame space first pages tells segments store runs.inside);
      };
      held = held.held;
      right = held.right;
      bare = held.bare;
      frame = record {
        frame = ap (λ (s : Rest). s.frame) still ∙ keeps.frame;
        entered = ap (λ (s : Rest). s.entered)
            still ∙ keeps.entered;
      };
      low = subst (Part (λ part. Unit {0}) before) (sym held.back.1) low;
      few = tt;
      answer = λ views told same.
          let all = exact views told same in (
            all.after,
            subst (λ (s : Rest). AreTold s all.after) (sym still) all.told,
            all.same ∙ ap (λ (rs : List (List Extent)). Got rs (free_sets all.after))
                (all.matched (store-laid n rest.frame store)
                ∙ sym (ap (λ (cs : List ℕ). rows cs r.runs.items) held.counts_are ∙ ap (rows counts) held.runs_are)),
          );
      spaces = λ views told home.
          let all = exact views told home.number in
          subst (λ (rs : List Extent). AreTakenOut n rest.frame rs views now) (sym held.runs_are)
          (taken-out n rest.frame space first pages tells views segments all.after now store home runs.inside all.taken
          (subst (λ (s : Rest). AreTold s all.after) (sym still) all.told));
      long = λ views told same left is.
          let all = exact views told same in
          let one = told-same now left all.after is (subst (λ (s : Rest). AreTold s all.after) (sym still) all.told) in
          ap length one ∙ (taken_length space first pages views segments all.after all.taken
          ∙ (same ∙ sym (ap (λ (s : Rest). length s.frame.firsts) still ∙ ap (λ (f : Frame). length f.firsts) keeps.frame)));
      no_fault = λ same. cc;
    }

pub asked-back : {A : Type 0} (tells : Bool) (n : Numbers) (start threshold : ℕ) (requests : List Request) (space first : A → ℕ)
    (pages : A → List (List ℕ)) (counts : List ℕ) (segments : List A) (fail : EditFail) (old new : Held) (nodes : KeptNodes)
    (rest mid now : Rest) (before middle after : Option (List SpaceEvent)) → IsStore n rest.frame →
    KeepsFrame rest mid → AreRuns space first pages tells rest.frame threshold requests counts segments →
    ((views : List SpaceView) → AreTold rest views → length views ≡ count rest → AreRunsOf space first pages views
    (IsLaid n rest.frame.firsts) (all_runs n start threshold requests (free_sets views)) counts segments mid) →
    Part (λ part. Unit {0}) before middle →
    HoldsParts tells n counts (extents first pages segments) (Err fail) old new nodes mid now middle after →
    AsksRuns tells n start threshold requests (Err fail) old new nodes rest now before after
asked-back {A} tells n start threshold requests space first pages counts segments fail old new nodes rest mid now before middle after store
    keeps runs exact low held =
    let goes = held.back.1 in
    subst (λ (f : EditFail). AsksRuns tells n start threshold requests (Err f) old new nodes rest now before after) (sym held.back.0)
    (record {
      runs = tt;
      held = held.held;
      right = held.right;
      bare = λ t. tt;
      frame = record { frame = goes.rest.frame ∙ keeps.frame; entered = goes.rest.entered };
      low = part_then (λ part. Unit {0}) AreEnters (λ part. Unit {0}) before middle after (λ p q a b. tt) low goes.enters;
      few = tt;
      answer = λ views told same. tt;
      spaces = λ views told home.
          let all = exact views told home.number in
          let out = taken-out n rest.frame space first pages tells views segments all.after mid store home runs.inside all.taken all.told in
          back-untouched n rest.frame (extents first pages segments) views mid now out
          (subst (λ (f : Frame). AreLetGo n f (gives (is_in_runs (extents first pages segments))) out.after now) keeps.frame
          (goes.spaces out.after out.told (subst (λ (f : Frame). AreHome f out.after) (sym keeps.frame) out.home)));
      long = λ views told same. tt;
      no_fault = λ same. cc;
    })

-- by the result
pub asked-held : {A : Type 0} (tells : Bool) (n : Numbers) (start threshold : ℕ) (requests : List Request) (space first : A → ℕ)
    (pages : A → List (List ℕ)) (counts : List ℕ) (segments : List A) (result : Result PartRuns EditFail) (old new : Held)
    (nodes : KeptNodes) (rest mid now : Rest) (before middle after : Option (List SpaceEvent)) → IsStore n rest.frame →
    KeepsFrame rest mid → AreRuns space first pages tells rest.frame threshold requests counts segments →
    ((views : List SpaceView) → AreTold rest views → length views ≡ count rest → AreRunsOf space first pages views
    (IsLaid n rest.frame.firsts) (all_runs n start threshold requests (free_sets views)) counts segments mid) →
    Part (λ part. Unit {0}) before middle →
    HoldsParts tells n counts (extents first pages segments) result old new nodes mid now middle after →
    AsksRuns tells n start threshold requests result old new nodes rest now before after
asked-held {A} tells n start threshold requests space first pages counts segments (Ok r) old new nodes rest mid now before middle after
    store
    keeps runs exact low held =
    asked-ok tells n start threshold requests space first pages counts segments r old new nodes rest mid now before middle after store
    keeps runs exact low held
asked-held {A} tells n start threshold requests space first pages counts segments (Err fail) old new nodes rest mid now before middle after
    store keeps runs exact low held =
    asked-back tells n start threshold requests space first pages counts segments fail old new nodes rest mid now before middle after store
    keeps runs exact low held

-- nothing was granted
pub asked-none : (tells : Bool) (n : Numbers) (start threshold : ℕ) (requests : List Request) (held : Held) (nodes : KeptNodes)
    (rest now : Rest) (before after : Option (List SpaceEvent)) → KeepsRight tells n held nodes → KeepsFrame rest now →
    LeavesTold rest now → Part (λ part. Unit {0}) before after →
    AsksRuns tells n start threshold requests (Err Memory) held held nodes rest now before after
asked-none tells n start threshold requests held nodes rest now before after right keeps left low = record {
  runs = tt;
  held = same-none held;
  right = right;
  bare = λ t. tt;
  frame = keeps;
  low = low;
  few = tt;
  answer = λ views told same. tt;
  spaces = λ views told home. same-untouched n rest.frame views now (left views told home.number) home;
  long = λ views told same. tt;
  no_fault = λ same. cc;
}

pub asked-refused : (tells : Bool) (n : Numbers) (start threshold pages : ℕ) (requests : List Request) (held : Held) (nodes : KeptNodes)
    (rest now : Rest) (before after : Option (List SpaceEvent)) → KeepsRight tells n held nodes → KeepsFrame rest now →
    LeavesTold rest now → IsRefusedFor start threshold pages requests rest →
    Part (IsLowAt (count rest) (Some pages)) before after →
    AsksRuns tells n start threshold requests (Err (NoSpace pages)) held held nodes rest now before after
asked-refused tells n start threshold pages requests held nodes rest now before after right keeps left refused low = record {
  runs = tt;
  held = same-none held;
  right = right;
  bare = λ t. tt;
  frame = keeps;
  low = part_as (IsLowAt (count rest) (Some pages)) (λ part. IsLowFor {A = PartRuns} (count rest) (Err (NoSpace pages)) part) before after
      (λ part each. each pages refl) low;
  few = (refused.some, refused.small);
  answer = λ views told same. refused.due n views told same;
  spaces = λ views told home. same-untouched n rest.frame views now (left views told home.number) home;
  long = λ views told same. tt;
  no_fault = λ same. cc;
}
