-- The told spaces, page by page, where runs were granted, and where they were given back.
use Rattle.std.proofs.Common.{◌≡◌, ℕ, ◌+◌, ◌-◌, ◌<◌, ◌≤◌, Bool, true, false, not, ◌&&◌, ◌||◌, List, [], ◌∷◌, ◌++◌, length, map}
use Rattle.std.proofs.Common.{nat_eq, nat_lt, Some, None, refl, sym, ap, subst, arith, ◌∙◌, inl, inr}
use Rattle.std.specs.Prelude.{slice_get, slice_set, slice_index}
use Rattle.std.specs.List.{AllByRecursion}
use Rattle.std.proofs.lemmas.Bool.{cases_lt, false≢true, lt-ltb}
use Rattle.std.proofs.lemmas.Bool.Decides.{nat_tests}
use Rattle.base_laws.proofs.BoolLaws.{or-assoc, never-true}
use Rattle.geometry_model.specs.Numbers.{Numbers}
use Rattle.geometry_model.specs.Pages.{IsPlace, first_page}
use Rattle.geometry_model.proofs.PageLaws.{IsPlace-in_run, IsPlace-unique}
use Rattle.block_model.specs.Block.{HasRun}
use Rattle.layout_model.specs.declared.extent.Extent.{Extent}
use Rattle.moment_model.specs.Version.{covers, uses}
use Rattle.moment_laws.specs.Granting.{LiesInSpace}
use Rattle.moment_laws.proofs.GrantLemmas.{uses-append, uses-cons}
use Rattle.page_cache.specs.Kept.{is_on_run}
use Rattle.page_port.specs.Pages.{IsSized}
use Rattle.space_directory.specs.SpaceView.{SpaceView, after_grant, after_give}
use Rattle.space_directory.proofs.PageLaws.{free-granted, in_run-below, in_run-above}
use Rattle.superdirectory.specs.Grants.{AreTold, AreRunsIn, IsGivenAll, IsRunIn}
use Rattle.superdirectory.specs.Parts.{IsTakenAll, extents}
use Rattle.superdirectory.specs.Rest.{Frame, Rest}
use Rattle.superdirectory.proofs.HomeLaws.{granted_stays, run_fits, told-same}
use Rattle.object_body.specs.Moves.{IsUntouched}
use Rattle.object_body.specs.Places.{IsStore, AreHome, is_free_place, is_locked_place}
use Rattle.object_body.proofs.TurnLemmas.{free-in, granted_free}
use Rattle.object_body.proofs.TurnLemmas.{locked-in, run-in_space, same_locked}
use Rattle.object_body.proofs.TurnLemmas.{turned-given, turned-one}
use Rattle.give_back.specs.Giving.{AreLetGo, gives, is_in_runs}
use Rattle.held_parts.specs.Spaces.{AreTakenOut}
use Rattle.give_back.proofs.UsesLemmas.{in-cons, in-some, on-covers}

-- told spaces alone
abbrev told_as : Frame → List SpaceView → Rest
told_as frame views = record { frame = frame; spaces = Some (map Some views); entered = None }

-- ---- runs that were granted

-- the spaces without the runs, which were free and not locked
pub record IsOut (n : Numbers) (frame : Frame) (runs : List Extent) (before after : List SpaceView) : Type 0 where
  pub home : AreHome frame after
  pub were : (page s at : ℕ) → IsPlace n page s at → 0 < uses page runs →
      (is_free_place before s at ≡ true) × (is_locked_place before s at ≡ false)
  pub free : (page s at : ℕ) → IsPlace n page s at →
      is_free_place after s at ≡ (nat_eq (uses page runs) 0 && is_free_place before s at)
  pub locked : (page s at : ℕ) → IsPlace n page s at → is_locked_place after s at ≡ is_locked_place before s at

-- where a page of a run stands in its space
run-place : (n : Numbers) (frame : Frame) (space first k page s at base : ℕ) → IsStore n frame → IsRunIn frame space first k →
    base ≡ slice_index frame.firsts space → IsPlace n page s at → is_on_run first k page ≡ true →
    (s ≡ space) × ((first - base ≤ at) × (at < (first - base) + k))
run-place n frame space first k page s at base store run base_is here is_in = elim (cases_lt page first) [
  | inl below ↦ absurd (false≢true (sym (in_run-below first k page below) ∙ is_in))
  | inr from ↦ elim (cases_lt page (first + k)) [
    | inr past ↦ absurd (false≢true (sym (in_run-above first k page past) ∙ is_in))
    | inl to ↦
        let inside = run-in_space n frame space first k store run in
        let there = IsPlace-in_run n space first k page inside from to in
        let same = IsPlace-unique n page s at space (page - first_page n space) here there in
        let first_is = store.firsts space inside.in_store in
        let low = inside.from in
        (same.0, (omega (arith, same.1, from, base_is, first_is, low), omega (arith, same.1, from, to, base_is, first_is, low)))
  ]
]

-- one run was taken out of its space
pub out-one : (n : Numbers) (frame : Frame) (views : List SpaceView) (space first k : ℕ) (v : SpaceView) → IsStore n frame →
    AreHome frame views → IsRunIn frame space first k → slice_get views space ≡ Some v → HasRun v.free (first - v.first) k →
    IsOut n frame (record { page = first; pages = k } ∷ []) views (slice_set views space (after_grant v (first - v.first) k))
out-one n frame views space first k v store home run here free_run =
    let sound = home.space space v here in
    let of = home.home space v here in
    let at0 = first - v.first in
    let w = after_grant v at0 k in
    let fits = run_fits frame space first k v run of in
    let stays = granted_stays frame space at0 k v fits sound of in
    let next = slice_set views space w in
    let one : Extent = record { page = first; pages = k } in
    let turned = turned-one n frame views space first k v w granted_free same_locked (told_as frame next) store home run here refl stays.0
    stays.1 (λ f l. refl) (λ f l. refl) (λ at. free-granted v at0 k at fits) (λ at. refl) in
    let same = told-same (told_as frame next) turned.after next turned.told refl in
    let place : (page s at : ℕ) → IsPlace n page s at → is_on_run first k page ≡ true → (s ≡ space) × ((at0 ≤ at) × (at < at0 + k)) =
    λ page s at p is_in. run-place n frame space first k page s at v.first store run of.first p is_in in
    let count : (page : ℕ) → uses page (one ∷ []) ≡ covers page one = λ page. (let all = uses-cons page one [] in omega (arith, all)) in
    record {
      home = subst (AreHome frame) same turned.home;
      were = λ page s at p some.
          let is_in : is_on_run first k page ≡ true =
          on-covers page one ∙ (ap (nat_lt 0) (sym (count page)) ∙ in-some page (one ∷ []) some) in
          let spot = place page s at p is_in in
          let there = subst (λ (j : ℕ). slice_get views j ≡ Some v) (sym spot.0) here in
          let was = free_run.each at spot.1.0 spot.1.1 in
          (free-in views s at v there ∙ was, locked-in views s at v there ∙ never-true _ (sound.apart at was));
      free = λ page s at p.
          ap (λ (vs : List SpaceView). is_free_place vs s at) (sym same)
          ∙ (turned.free page s at p ∙ ap (λ (b : Bool). b && is_free_place views s at) (test page));
      locked = λ page s at p. ap (λ (vs : List SpaceView). is_locked_place vs s at) (sym same) ∙ turned.locked page s at p;
    }
  where
    off-test : (k : ℕ) → not (nat_lt 0 k) ≡ nat_eq k 0
    off-test k = grind (arith, nat_tests)

    test : (page : ℕ) → not (is_on_run first k page) ≡ nat_eq (uses page (record { page = first; pages = k } ∷ [])) 0
    test page =
        ap not (on-covers page (record { page = first; pages = k }))
        ∙ (off-test (covers page (record { page = first; pages = k }))
        ∙ ap (λ (i : ℕ). nat_eq i 0) (let all = uses-cons page (record { page = first; pages = k }) [] in omega (arith, all)))

and-split : (a b : ℕ) (f : Bool) → (nat_eq b 0 && (nat_eq a 0 && f)) ≡ (nat_eq (a + b) 0 && f)
and-split a b f = and-assoc (nat_eq b 0) (nat_eq a 0) f ∙ ap (λ (t : Bool). t && f) (both-none a b)
  where
    and-assoc : (x y z : Bool) → (x && (y && z)) ≡ ((x && y) && z)
    and-assoc true y z = refl
    and-assoc false y z = refl

    both-none : (x y : ℕ) → (nat_eq y 0 && nat_eq x 0) ≡ nat_eq (x + y) 0
    both-none x y = grind (arith, nat_tests)

-- one run, and then others
out-then : (n : Numbers) (frame : Frame) (run : Extent) (runs : List Extent) (before mid after : List SpaceView) →
    IsOut n frame (run ∷ []) before mid → IsOut n frame runs mid after → IsOut n frame (run ∷ runs) before after
out-then n frame run runs before mid after one more =
    let single : (page : ℕ) → uses page (run ∷ []) ≡ covers page run = λ page. (let all = uses-cons page run [] in omega (arith, all)) in
    record {
      home = more.home;
      were = λ page s at p some. elim (cases_lt 0 (covers page run)) [
        | inl here ↦ one.were page s at p (omega (arith, single page, here))
        | inr off ↦
            let later = more.were page s at p (omega (arith, uses-cons page run runs, some, off)) in
            let none : uses page (run ∷ []) ≡ 0 = omega (arith, single page, off) in
            let free : is_free_place mid s at ≡ is_free_place before s at =
            one.free page s at p ∙ ap (λ (k : ℕ). nat_eq k 0 && is_free_place before s at) none in
            (sym free ∙ later.0, sym (one.locked page s at p) ∙ later.1)
      ];
      free = λ page s at p.
          more.free page s at p
          ∙ (ap (λ (b : Bool). nat_eq (uses page runs) 0 && b) (one.free page s at p)
          ∙ (and-split (uses page (run ∷ [])) (uses page runs) (is_free_place before s at)
          ∙ ap (λ (k : ℕ). nat_eq k 0 && is_free_place before s at)
          (omega (arith, single page, uses-cons page run runs))));
      locked = λ page s at p. more.locked page s at p ∙ one.locked page s at p;
    }

out-none : (n : Numbers) (frame : Frame) (views : List SpaceView) → AreHome frame views → IsOut n frame [] views views
out-none n frame views home = record {
  home = home;
  were = λ page s at p some. absurd (omega (arith, some));
  free = λ page s at p. refl;
  locked = λ page s at p. refl;
}

-- all runs of a list
pub out-all : {A : Type 0} (n : Numbers) (frame : Frame) (space first : A → ℕ) (pages : A → List (List ℕ)) (tells : Bool)
    (before : List SpaceView) (runs : List A) (after : List SpaceView) → IsStore n frame → AreHome frame before →
    AreRunsIn space first pages tells frame runs → IsTakenAll space first pages before runs after →
    IsOut n frame (extents first pages runs) before after
out-all {A} n frame space first pages tells before [] after store home inside taken =
    subst (IsOut n frame [] before) (sym taken) (out-none n frame before home)
out-all {A} n frame space first pages tells before (x ∷ runs) after store home inside (v, here, sound, free, held, rest) =
    let k = length (pages x) in
    let mid = slice_set before (space x) (after_grant v (first x - v.first) k) in
    let one = out-one n frame before (space x) (first x) k v store home inside.0 here free in
    out-then n frame (record { page = first x; pages = k }) (extents first pages runs) before mid after one
    (out-all n frame space first pages tells mid runs after store one.home inside.2 rest)

pub taken-out : {A : Type 0} (n : Numbers) (frame : Frame) (space first : A → ℕ) (pages : A → List (List ℕ)) (tells : Bool)
    (before : List SpaceView) (runs : List A) (after : List SpaceView) (rest : Rest) → IsStore n frame → AreHome frame before →
    AreRunsIn space first pages tells frame runs → IsTakenAll space first pages before runs after → AreTold rest after →
    AreTakenOut n frame (extents first pages runs) before rest
taken-out {A} n frame space first pages tells before runs after rest store home inside taken told =
    let out = out-all n frame space first pages tells before runs after store home inside taken in
    record { after = after; told = told; home = out.home; were = out.were; free = out.free; locked = out.locked }

pub out-not : (n : Numbers) (frame : Frame) (views : List SpaceView) (rest : Rest) → AreTold rest views → AreHome frame views →
    AreTakenOut n frame [] views rest
out-not n frame views rest told home =
    let out = out-none n frame views home in
    record { after = views; told = told; home = out.home; were = out.were; free = out.free; locked = out.locked }

-- runs, and then others
pub taken-then : (n : Numbers) (frame : Frame) (xs ys : List Extent) (views : List SpaceView) (mid rest : Rest) →
    (one : AreTakenOut n frame xs views mid) → AreTakenOut n frame ys one.after rest → AreTakenOut n frame (xs ++ ys) views rest
taken-then n frame xs ys views mid rest one more =
    let all : (page : ℕ) → uses page (xs ++ ys) ≡ uses page xs + uses page ys =
    λ page. uses-append page xs ys in
    record {
      after = more.after;
      told = more.told;
      home = more.home;
      were = λ page s at p some. elim (cases_lt 0 (uses page xs)) [
        | inl here ↦ one.were page s at p here
        | inr off ↦
            let later = more.were page s at p (omega (arith, all page, some, off)) in
            let none : uses page xs ≡ 0 = omega (arith, off) in
            let free : is_free_place one.after s at ≡ is_free_place views s at =
            one.free page s at p ∙ ap (λ (k : ℕ). nat_eq k 0 && is_free_place views s at) none in
            (sym free ∙ later.0, sym (one.locked page s at p) ∙ later.1)
      ];
      free = λ page s at p.
          more.free page s at p
          ∙ (ap (λ (b : Bool). nat_eq (uses page ys) 0 && b) (one.free page s at p)
          ∙ (and-split (uses page xs) (uses page ys) (is_free_place views s at)
          ∙ ap (λ (k : ℕ). nat_eq k 0 && is_free_place views s at) (sym (all page))));
      locked = λ page s at p. more.locked page s at p ∙ one.locked page s at p;
    }

-- ---- runs that were given back

-- the spaces with the runs, free and not locked
pub record IsBack (n : Numbers) (frame : Frame) (runs : List Extent) (before after : List SpaceView) : Type 0 where
  pub home : AreHome frame after
  pub free : (page s at : ℕ) → IsPlace n page s at → is_free_place after s at ≡ (is_in_runs runs page || is_free_place before s at)
  pub locked : (page s at : ℕ) → IsPlace n page s at →
      is_locked_place after s at ≡ (not (is_in_runs runs page) && is_locked_place before s at)

not-or : (a b d : Bool) → (not a && (not b && d)) ≡ (not (a || b) && d)
not-or true b d = refl
not-or false b d = refl

pub back-all : {A : Type 0} (n : Numbers) (frame : Frame) (space first : A → ℕ) (pages : A → List (List ℕ)) (tells : Bool)
    (before : List SpaceView) (runs : List A) (after : List SpaceView) → IsStore n frame → AreHome frame before →
    AreRunsIn space first pages tells frame runs → IsGivenAll space first pages before runs after →
    IsBack n frame (extents first pages runs) before after
back-all {A} n frame space first pages tells before [] after store home inside given =
    subst (IsBack n frame [] before) (sym given) (record { home = home; free = λ page s at p. refl; locked = λ page s at p. refl })
back-all {A} n frame space first pages tells before (x ∷ runs) after store home inside (between, more, (v, there, now)) =
    let k = length (pages x) in
    let run : Extent = record { page = first x; pages = k } in
    let others = extents first pages runs in
    let was = back-all n frame space first pages tells before runs between store home inside.2 more in
    let last = slice_set between (space x) (after_give v (first x - v.first) (pages x)) in
    let turned = turned-given n frame between (space x) (first x) (pages x) (told_as frame last) store was.home inside.0
    (record { was = v; here = there; now = refl }) in
    let same : turned.after ≡ after = told-same (told_as frame last) turned.after last turned.told refl ∙ sym now in
    record {
      home = subst (AreHome frame) same turned.home;
      free = λ page s at p.
          ap (λ (vs : List SpaceView). is_free_place vs s at) (sym same)
          ∙ (turned.free page s at p
          ∙ (ap (λ (b : Bool). is_on_run (first x) k page || b) (was.free page s at p)
          ∙ (or-assoc (is_on_run (first x) k page) (is_in_runs others page) (is_free_place before s at)
          ∙ ap (λ (b : Bool). b || is_free_place before s at) (sym (in-cons page run others)))));
      locked = λ page s at p.
          ap (λ (vs : List SpaceView). is_locked_place vs s at) (sym same)
          ∙ (turned.locked page s at p
          ∙ (ap (λ (b : Bool). not (is_on_run (first x) k page) && b) (was.locked page s at p)
          ∙ (not-or (is_on_run (first x) k page) (is_in_runs others page) (is_locked_place before s at)
          ∙ ap (λ (b : Bool). not b && is_locked_place before s at) (sym (in-cons page run others)))));
    }

or-none : (b : Bool) → (b || false) ≡ b
or-none true = refl
or-none false = refl

pub back-let_go : (n : Numbers) (frame : Frame) (runs : List Extent) (before after : List SpaceView) (rest : Rest) →
    IsBack n frame runs before after → AreTold rest after → AreLetGo n frame (gives (is_in_runs runs)) before rest
back-let_go n frame runs before after rest back told = record {
  after = after;
  told = told;
  home = back.home;
  free = back.free;
  locked = λ page s at p. back.locked page s at p
      ∙ ap (λ (b : Bool). not b && is_locked_place before s at) (sym (or-none (is_in_runs runs page)));
}

-- what was granted and then given back is as it was
free-again : (k : ℕ) (f : Bool) → (0 < k → f ≡ true) → (nat_lt 0 k || (nat_eq k 0 && f)) ≡ f
free-again k f free = elim (cases_lt 0 k) [
  | inl some ↦ ap (λ (b : Bool). b || (nat_eq k 0 && f)) (lt-ltb 0 k some) ∙ sym (free some)
  | inr few ↦ (let none : k ≡ 0 = omega (arith, few) in ap (λ (i : ℕ). nat_lt 0 i || (nat_eq i 0 && f)) none)
]

locked-again : (k : ℕ) (l : Bool) → (0 < k → l ≡ false) → (not (nat_lt 0 k || false) && l) ≡ l
locked-again k l free = elim (cases_lt 0 k) [
  | inl some ↦ ap (λ (b : Bool). not (b || false) && l) (lt-ltb 0 k some) ∙ sym (free some)
  | inr few ↦ (let none : k ≡ 0 = omega (arith, few) in ap (λ (i : ℕ). not (nat_lt 0 i || false) && l) none)
]

pub back-untouched : (n : Numbers) (frame : Frame) (runs : List Extent) (views : List SpaceView) (mid rest : Rest) →
    (out : AreTakenOut n frame runs views mid) → AreLetGo n frame (gives (is_in_runs runs)) out.after rest →
    IsUntouched n frame views rest
back-untouched n frame runs views mid rest out back = record {
  after = back.after;
  told = back.told;
  home = back.home;
  free = λ page s at p.
      back.free page s at p
      ∙ (ap (λ (b : Bool). is_in_runs runs page || b) (out.free page s at p)
      ∙ free-again (uses page runs) (is_free_place views s at) (λ some. (out.were page s at p some).0));
  locked = λ page s at p.
      back.locked page s at p
      ∙ (ap (λ (b : Bool). not (is_in_runs runs page || false) && b) (out.locked page s at p)
      ∙ locked-again (uses page runs) (is_locked_place views s at) (λ some. (out.were page s at p some).1));
}

-- spaces that weren't touched, and then runs given back
pub untouched-then : (n : Numbers) (frame : Frame) (runs : List Extent) (views : List SpaceView) (mid last rest : Rest) →
    (out : AreTakenOut n frame runs views mid) → (still : IsUntouched n frame out.after last) →
    AreLetGo n frame (gives (is_in_runs runs)) still.after rest → IsUntouched n frame views rest
untouched-then n frame runs views mid last rest out still back = record {
  after = back.after;
  told = back.told;
  home = back.home;
  free = λ page s at p.
      back.free page s at p
      ∙ (ap (λ (b : Bool). is_in_runs runs page || b) (still.free page s at p ∙ out.free page s at p)
      ∙ free-again (uses page runs) (is_free_place views s at) (λ some. (out.were page s at p some).0));
  locked = λ page s at p.
      back.locked page s at p
      ∙ (ap (λ (b : Bool). not (is_in_runs runs page || false) && b) (still.locked page s at p ∙ out.locked page s at p)
      ∙ locked-again (uses page runs) (is_locked_place views s at) (λ some. (out.were page s at p some).1));
}

-- runs in their spaces, each in one space of the store
pub runs-lie : {A : Type 0} (n : Numbers) (frame : Frame) (space first : A → ℕ) (pages : A → List (List ℕ)) (tells : Bool) (runs : List A) →
    IsStore n frame → AreRunsIn space first pages tells frame runs → AllByRecursion (LiesInSpace n) (extents first pages runs)
runs-lie {A} n frame space first pages tells [] store inside = tt
runs-lie {A} n frame space first pages tells (x ∷ runs) store inside = (
  (space x, run-in_space n frame (space x) (first x) (length (pages x)) store inside.0),
  runs-lie n frame space first pages tells runs store inside.2,
)

pub runs-some : {A : Type 0} (frame : Frame) (space first : A → ℕ) (pages : A → List (List ℕ)) (tells : Bool) (runs : List A) →
    AreRunsIn space first pages tells frame runs → AllByRecursion (λ x. 1 ≤ length (pages x)) runs
runs-some {A} frame space first pages tells [] inside = tt
runs-some {A} frame space first pages tells (x ∷ runs) inside = (inside.0.some, runs-some frame space first pages tells runs inside.2)

pub runs-sized : {A : Type 0} (frame : Frame) (space first : A → ℕ) (pages : A → List (List ℕ)) (tells : Bool) (runs : List A) →
    AreRunsIn space first pages tells frame runs → AllByRecursion (λ x. IsSized tells frame.page (pages x)) runs
runs-sized {A} frame space first pages tells [] inside = tt
runs-sized {A} frame space first pages tells (x ∷ runs) inside = (inside.1, runs-sized frame space first pages tells runs inside.2)

-- the first of them
pub runs-front : {A : Type 0} (frame : Frame) (space first : A → ℕ) (pages : A → List (List ℕ)) (tells : Bool) (xs ys : List A) →
    AreRunsIn space first pages tells frame (xs ++ ys) → AreRunsIn space first pages tells frame xs
runs-front {A} frame space first pages tells [] ys inside = tt
runs-front {A} frame space first pages tells (x ∷ xs) ys inside =
    (inside.0, inside.1, runs-front frame space first pages tells xs ys inside.2)
