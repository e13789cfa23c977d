-- Parts asked for one after another: none yet, one more, a refusal, and all.
use Rattle.std.proofs.Common.{◌≡◌, ℕ, ◌+◌, Bool, List, [], ◌∷◌, ◌++◌, length, map, Option}
use Rattle.std.proofs.Common.{refl, sym, ap, ◌∙◌, subst, arith}
use Rattle.std.proofs.lemmas.List.{append-nil, map-append, length-append, length-map}
use Rattle.geometry_model.specs.Numbers.{Numbers}
use Rattle.layout_model.specs.declared.request.Request.{Request}
use Rattle.layout_model.specs.declared.extent.Extent.{Extent}
use Rattle.layout_model.specs.Grants.{Got, all_runs}
use Rattle.space_directory.specs.SpaceView.{SpaceView}
use Rattle.superdirectory.specs.Trace.{SpaceEvent}
use Rattle.superdirectory.specs.Rest.{Frame, Rest, count}
use Rattle.superdirectory.specs.Grants.{AreTold, AreRunsIn, IsGivenAll, free_sets}
use Rattle.superdirectory.specs.Parts.{IsLaid, IsTakenAll, extents}
use Rattle.superdirectory.proofs.Traces.{low_left, low_right}
use Rattle.superdirectory.proofs.Halves.{taken_length, taken_append, runs_append, restored}
use Rattle.part_store.specs.Asking.{rows, AreOfAll, AreAsked, AddsPart, RefusesPart, IsStopped}
use Rattle.part_store.specs.Asking.{AreRuns, AreRunsOf, LeavesTold, IsLowAt}
use Rattle.part_store.proofs.RowLemmas.{rows_more, sum_more, put_none, put_more, put_refused}

-- nothing was asked for yet
pub asked_none : {A : Type 0} (space first : A → ℕ) (pages : A → List (List ℕ)) (tells : Bool) (start t : ℕ)
    (requests : List Request) (old : Rest) → AreAsked space first pages tells start t requests requests old old [] []
asked_none space first pages tells start t requests old = record {
  inside = tt;
  whole = refl;
  parts = λ more all. all;
  told = λ numbers views told same. record {
    after = views;
    taken = refl;
    told = told;
    listed = [];
    same = put_none (all_runs numbers start t requests (free_sets views));
    matched = λ laid. refl;
  };
}

-- one part more was granted
pub asked_more : {A : Type 0} (space first : A → ℕ) (pages : A → List (List ℕ)) (tells : Bool) (start t : ℕ)
    (requests rest left : List Request) (request : Request) (old middle new : Rest) (counts : List ℕ) (runs has : List A)
    (n : ℕ) → rest ≡ request ∷ left → middle.frame ≡ old.frame →
    AreAsked space first pages tells start t requests rest old middle counts runs →
    (adds : AddsPart space first pages tells start t request middle new runs has) → length has ≡ length runs + n →
    AreAsked space first pages tells start t requests left old new (counts ++ (n ∷ [])) has
asked_more {A} space first pages tells start t requests rest left request old middle new counts runs has n e frame before adds many =
    let asked = subst (λ (l : List Request). AreAsked space first pages tells start t requests l old middle counts runs) e before in
    let pieces = adds.pieces in
    let size : A → ℕ = λ run. length (pages run) in
    let long : length pieces ≡ n = omega (arith, many, ap length adds.added, length-append runs pieces) in
    let inside : AreRunsIn space first pages tells old.frame pieces =
    subst (λ (f : Frame). AreRunsIn space first pages tells f pieces) frame adds.inside in
    let row : rows (counts ++ (n ∷ [])) (map size has) ≡ rows counts (map size runs) ++ (map size pieces ∷ []) =
    ap (λ (l : List A). rows (counts ++ (n ∷ [])) (map size l)) adds.added
    ∙ ap (rows (counts ++ (n ∷ []))) (map-append size runs pieces)
    ∙ rows_more counts n (map size runs) (map size pieces) (asked.whole ∙ sym (length-map runs size))
    (length-map pieces size ∙ long) in
    let listed : rows (counts ++ (n ∷ [])) (extents first pages has)
    ≡ rows counts (extents first pages runs) ++ (extents first pages pieces ∷ []) =
    let one : A → Extent = λ run. record { page = first run; pages = length (pages run) } in
    ap (λ (l : List A). rows (counts ++ (n ∷ [])) (map one l)) adds.added
    ∙ ap (rows (counts ++ (n ∷ []))) (map-append one runs pieces)
    ∙ rows_more counts n (map one runs) (map one pieces) (asked.whole ∙ sym (length-map runs one))
    (length-map pieces one ∙ long) in
    record {
      inside = subst (λ (l : List A). AreRunsIn space first pages tells old.frame l) (sym adds.added)
          (runs_append space first pages tells old.frame runs pieces asked.inside inside);
      whole = sum_more counts n ∙ ap (λ (m : ℕ). m + n) asked.whole ∙ sym many;
      parts = λ more all.
          let front : List (List ℕ) = rows counts (map size runs) in
          let shown : (front ++ (map size pieces ∷ [])) ++ more ≡ front ++ (map size pieces ∷ more) =
          append_row front (map size pieces) more in
          subst (λ (l : List (List ℕ)). AreOfAll t requests (l ++ more)) (sym row)
          (subst (AreOfAll t requests) (sym shown) (asked.parts (map size pieces ∷ more) (adds.sizes, all)));
      told = λ numbers views told same.
          let one = asked.told numbers views told same in
          let kept : length one.after ≡ count middle = taken_length space first pages views runs one.after one.taken ∙ same
          ∙ ap (λ (f : Frame). length f.firsts) (sym frame) in
          let two = adds.told numbers one.after one.told kept in
          record {
            after = two.after;
            taken = subst (λ (l : List A). IsTakenAll space first pages views l two.after) (sym adds.added)
                (taken_append space first pages views runs pieces one.after two.after one.taken two.taken);
            told = two.told;
            listed = one.listed ++ (two.listed ∷ []);
            same = one.same ∙ put_more numbers start t request left one.listed two.listed (free_sets one.after)
                (free_sets two.after) two.same;
            matched = λ laid. ap (λ (l : List (List Extent)). l ++ (two.listed ∷ [])) (one.matched laid)
                ∙ ap (λ (l : List Extent). rows counts (extents first pages runs) ++ (l ∷ []))
                (two.matched (subst (λ (f : Frame). IsLaid numbers f.firsts) (sym frame) laid))
                ∙ sym listed;
          };
    }
  where
    append_row : (xs : List (List ℕ)) (y : List ℕ) (more : List (List ℕ)) → (xs ++ (y ∷ [])) ++ more ≡ xs ++ (y ∷ more)
    append_row [] y more = refl
    append_row (x ∷ xs) y more = ap (λ (l : List (List ℕ)). x ∷ l) (append_row xs y more)

-- a part was refused
pub asked_stopped : {A : Type 0} (space first : A → ℕ) (pages : A → List (List ℕ)) (tells : Bool) (start t p : ℕ)
    (requests rest left : List Request) (request : Request) (old middle new : Rest) (counts : List ℕ) (runs has : List A) →
    rest ≡ request ∷ left → middle.frame ≡ old.frame →
    AreAsked space first pages tells start t requests rest old middle counts runs →
    RefusesPart start t p request middle new runs has → IsStopped space first pages tells start t p requests old new has
asked_stopped {A} space first pages tells start t p requests rest left request old middle new counts runs has e frame asks stop = record {
  inside = subst (λ (l : List A). AreRunsIn space first pages tells old.frame l) (sym stop.list) asks.inside;
  refused = record {
    some = stop.some;
    small = stop.small;
    due = λ numbers views told same.
        let one = asked.told numbers views told same in
        one.same ∙ put_refused numbers start t p request left one.listed (free_sets one.after)
        (stop.due numbers one.after one.told (kept views same one.after one.taken));
  };
  told = λ views told same.
      let one = asked.told (record { page = 0; order = 0; spaces = 0; catalog = 0; threshold = 0 }) views told same in (
        one.after,
        subst (λ (l : List A). IsTakenAll space first pages views l one.after) (sym stop.list) one.taken,
        stop.left one.after one.told (kept views same one.after one.taken),
      );
}
  where
    asked : AreAsked space first pages tells start t requests (request ∷ left) old middle counts runs
    asked = subst (λ (l : List Request). AreAsked space first pages tells start t requests l old middle counts runs) e asks

    kept : (views : List SpaceView) → length views ≡ count old → (after : List SpaceView) →
        IsTakenAll space first pages views runs after → length after ≡ count middle
    kept views same after taken = taken_length space first pages views runs after taken ∙ same
        ∙ ap (λ (f : Frame). length f.firsts) (sym frame)

-- all parts were granted
pub asked_runs : {A : Type 0} (space first : A → ℕ) (pages : A → List (List ℕ)) (tells : Bool) (start t : ℕ)
    (requests : List Request) (old new : Rest) (counts : List ℕ) (runs : List A) →
    AreAsked space first pages tells start t requests [] old new counts runs →
    AreRuns space first pages tells old.frame t requests counts runs
asked_runs {A} space first pages tells start t requests old new counts runs asked = record {
  inside = asked.inside;
  whole = asked.whole;
  parts = subst (λ (l : List (List ℕ)). AreOfAll t requests l)
      (append-nil (rows counts (map (λ run. length (pages run)) runs))) (asked.parts [] tt);
}

pub asked_exact : {A : Type 0} (space first : A → ℕ) (pages : A → List (List ℕ)) (tells : Bool) (start t : ℕ)
    (requests : List Request) (old new : Rest) (counts : List ℕ) (runs : List A) →
    AreAsked space first pages tells start t requests [] old new counts runs → (numbers : Numbers) (views : List SpaceView) →
    AreTold old views → length views ≡ count old →
    AreRunsOf space first pages views (IsLaid numbers old.frame.firsts)
    (all_runs numbers start t requests (free_sets views)) counts runs new
asked_exact space first pages tells start t requests old new counts runs asked numbers views told same =
    let all = asked.told numbers views told same in
    record {
      after = all.after;
      taken = all.taken;
      told = all.told;
      listed = all.listed;
      same = all.same ∙ ap (λ (l : List (List Extent)). Got l (free_sets all.after)) (append-nil all.listed);
      matched = all.matched;
    }

-- what was granted before a refusal is given back
pub stopped_left : {A : Type 0} (space first : A → ℕ) (pages : A → List (List ℕ)) (tells : Bool) (start t p : ℕ)
    (requests : List Request) (old middle new : Rest) (runs : List A) → middle.frame ≡ old.frame →
    IsStopped space first pages tells start t p requests old middle runs →
    ((views : List SpaceView) → AreTold middle views → length views ≡ count middle →
    ((after : List SpaceView) × AreTold new after × IsGivenAll space first pages views runs after)) → LeavesTold old new
stopped_left space first pages tells start t p requests old middle new runs frame stopped gives = λ views told same.
    let (after, taken, there) = stopped.told views told same in
    let kept : length after ≡ count middle = taken_length space first pages views runs after taken ∙ same
    ∙ ap (λ (f : Frame). length f.firsts) (sym frame) in
    let (last, told', given) = gives after there kept in
    subst (λ (l : List SpaceView). AreTold new l)
    (restored space first pages tells old.frame views runs after last stopped.inside taken given) told'

-- ---- the looks and enters

-- a refusal behind other parts of a trace
pub low_behind : (many : ℕ) (refusal : Option ℕ) (before part : List SpaceEvent) → IsLowAt many refusal part →
    IsLowAt many refusal (before ++ part)
low_behind many refusal before part low = λ p e space less. low_right space _ before part (low p e space less)

-- a refusal before other parts of a trace
pub low_before : (many : ℕ) (refusal : Option ℕ) (part behind : List SpaceEvent) → IsLowAt many refusal part →
    IsLowAt many refusal (part ++ behind)
low_before many refusal part behind low = λ p e space less. low_left space _ part behind (low p e space less)
