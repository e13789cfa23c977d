-- How told spaces turn, page by page, where a run of one of them is granted, given, locked or unlocked, and where one
-- such call comes after another.
use Rattle.std.proofs.Common.{◌≡◌, ◌≢◌, ℕ, ◌+◌, ◌-◌, ◌<◌, ◌≤◌, Bool, true, false, not, ◌&&◌, ◌||◌, List, []}
use Rattle.std.proofs.Common.{◌∷◌, length, zero, suc, Some, None, Option, refl, sym, ap, subst, arith, ◌∙◌, inl}
use Rattle.std.proofs.Common.{inr}
use Rattle.std.specs.Prelude.{slice_get, slice_set, slice_index, slice_index_or, map}
use Rattle.std.proofs.lemmas.Bool.{cases_lt, cases_eq, false≢true}
use Rattle.std.proofs.lemmas.List.{length-set}
use Rattle.base_laws.proofs.ListLaws.{slice_get-set_same, slice_get-set_other}
use Rattle.base_laws.proofs.OptionLaws.{some-inner}
use Rattle.base_laws.proofs.BoolLaws.{never-true}
use Rattle.geometry_model.specs.Numbers.{Numbers}
use Rattle.geometry_model.specs.Pages.{IsPlace, IsInSpace, first_page}
use Rattle.geometry_model.proofs.PageLaws.{IsPlace-unique, IsPlace-in_run}
use Rattle.block_model.specs.Block.{has_page}
use Rattle.space_directory.specs.SpaceView.{SpaceView, IsSpace, after_grant, after_give, after_lock, after_unlock}
use Rattle.space_directory.proofs.PageLaws.{in_run, in_run-inside, in_run-below, in_run-above, free-granted}
use Rattle.space_directory.proofs.PageLaws.{free-given, locked-given, free-locked, locked-locked}
use Rattle.space_directory.proofs.PageLaws.{free-unlocked, locked-unlocked}
use Rattle.space_directory.proofs.Spaces.{granted_sound, given_sound, locked_sound, unlocked_sound}
use Rattle.block_model.specs.Block.{HasRun}
use Rattle.block_model.specs.Place.{place}
use Rattle.block_model.proofs.Laws.{place-free}
use Rattle.block_model.proofs.Changes.{length-with_run}
use Rattle.layout_model.specs.Grants.{Spaces, Spot, Got, Refused, run_of, spot_in, around, without}
use Rattle.superdirectory.specs.Grants.{AreTold, IsRunIn, IsChanged, IsExact, IsSegmentIn, free_sets}
use Rattle.superdirectory.specs.Rest.{Frame, Rest, IsOf}
use Rattle.superdirectory.proofs.Spots.{view_at, free_at, exact_none, given_home, locked_home, unlocked_home}
use Rattle.superdirectory.proofs.HomeLaws.{run_fits}
use Rattle.superdirectory.proofs.GrantLaws.{spot_placed, run_some, run_none, around_all}
use Rattle.moment_model.specs.Moment.{ObjectSlot, either_uses}
use Rattle.moment_laws.specs.Change.{free_after, locked_after}
use Rattle.object_body.specs.Places.{IsStore, AreHome, is_free_place, is_locked_place}
use Rattle.object_body.specs.Moves.{MovesTold, IsUntouched, locks}

-- what becomes of a page, by its number and by whether it was free and locked
abbrev pub Turn : Type 0
Turn = ℕ → Bool → Bool → Bool

-- the spaces are told and at home again, and each page is free and locked as the turns say
pub record IsTurned (n : Numbers) (frame : Frame) (before : List SpaceView) (free_by locked_by : Turn) (rest : Rest) : Type 0 where
  pub after : List SpaceView
  pub told : AreTold rest after
  pub home : AreHome frame after
  pub free : (page s at : ℕ) → IsPlace n page s at →
      is_free_place after s at ≡ free_by page (is_free_place before s at) (is_locked_place before s at)
  pub locked : (page s at : ℕ) → IsPlace n page s at →
      is_locked_place after s at ≡ locked_by page (is_free_place before s at) (is_locked_place before s at)

-- ---- one page of one space

field-at : {A : Type 0} (get : SpaceView → List A) (views : List SpaceView) (s : ℕ) (v : SpaceView) →
    slice_get views s ≡ Some v → slice_index_or (map get views) s [] ≡ get v
field-at get [] s v here = cc
field-at get (x ∷ views) zero v here = (let same : x ≡ v = some-inner x v here in ap get same)
field-at get (x ∷ views) (suc s) v here = field-at get views s v here

pub free-in : (views : List SpaceView) (s at : ℕ) (v : SpaceView) → slice_get views s ≡ Some v →
    is_free_place views s at ≡ has_page v.free at
free-in views s at v here = ap (λ (bits : List Bool). has_page bits at) (field-at (λ v. v.free) views s v here)

pub locked-in : (views : List SpaceView) (s at : ℕ) (v : SpaceView) → slice_get views s ≡ Some v →
    is_locked_place views s at ≡ has_page v.locked at
locked-in views s at v here = ap (λ (bits : List Bool). has_page bits at) (field-at (λ v. v.locked) views s v here)

-- a run by pages is one by places
in_run-moved : (base at first k page : ℕ) → page ≡ base + at → base ≤ first → in_run (first - base) k at ≡ in_run first k page
in_run-moved base at first k page is low = elim (cases_lt at (first - base)) [
  | inl below ↦ in_run-below (first - base) k at below ∙ sym (in_run-below first k page (omega (arith, is, low, below)))
  | inr from ↦ elim (cases_lt at ((first - base) + k)) [
    | inl to ↦ in_run-inside (first - base) k at from to
        ∙ sym (in_run-inside first k page (omega (arith, is, low, from)) (omega (arith, is, low, to)))
    | inr past ↦ in_run-above (first - base) k at past ∙ sym (in_run-above first k page (omega (arith, is, low, past)))
  ]
]

-- a run of a space of the store
pub run-in_space : (n : Numbers) (frame : Frame) (s first k : ℕ) → IsStore n frame → IsRunIn frame s first k → IsInSpace n s first k
run-in_space n frame s first k store run =
    let here = store.firsts s (omega (arith, run.named, store.number)) in
    record {
      in_store = omega (arith, run.named, store.number);
      from = omega (arith, run.from, here);
      to = omega (arith, run.to, here, store.pages);
    }

-- a page of another space isn't in it
run-apart : (n : Numbers) (s first k page other at : ℕ) → IsInSpace n s first k → IsPlace n page other at →
    other ≢ s → in_run first k page ≡ false
run-apart n s first k page other at run place apart = elim (cases_lt page first) [
  | inl below ↦ in_run-below first k page below
  | inr from ↦ elim (cases_lt page (first + k)) [
    | inl to ↦
        absurd (apart ((IsPlace-unique n page other at s (page - first_page n s) place
        (IsPlace-in_run n s first k page run from to)).0))
    | inr past ↦ in_run-above first k page past
  ]
]

-- ---- one space changed

-- what a change of one space makes of its pages: `turn` says it by whether the page is in the run
abbrev pub RunTurn : Type 0
RunTurn = Bool → Bool → Bool → Bool

abbrev pub over_run : ℕ → ℕ → RunTurn → Turn
over_run first k turn page f l = turn (in_run first k page) f l

home-set : (frame : Frame) (views : List SpaceView) (s : ℕ) (w : SpaceView) → s < length frame.firsts →
    AreHome frame views → IsSpace w → IsOf frame s w → AreHome frame (slice_set views s w)
home-set frame views s w named home sound of = record {
  number = length-set views s w ∙ home.number;
  space = λ other v here. elim (cases_eq other s) [
    | inl same ↦
        let is : w ≡ v = some-inner w v (sym (slice_get-set_same views s w (omega (arith, named, home.number)))
        ∙ subst (λ k. slice_get (slice_set views s w) k ≡ Some v) same here) in
        subst IsSpace is sound
    | inr apart ↦ home.space other v (sym (slice_get-set_other views s other w apart) ∙ here)
  ];
  home = λ other v here. elim (cases_eq other s) [
    | inl same ↦
        let is : w ≡ v = some-inner w v (sym (slice_get-set_same views s w (omega (arith, named, home.number)))
        ∙ subst (λ k. slice_get (slice_set views s w) k ≡ Some v) same here) in
        subst (λ k. IsOf frame k v) (sym same) (subst (IsOf frame s) is of)
    | inr apart ↦ home.home other v (sym (slice_get-set_other views s other w apart) ∙ here)
  ];
}

-- a view before and after one space was changed, and what the change makes of each page of it
pub turned-one : (n : Numbers) (frame : Frame) (views : List SpaceView) (s first k : ℕ) (v w : SpaceView)
    (free_turn locked_turn : RunTurn) (rest : Rest) →
    IsStore n frame → AreHome frame views → IsRunIn frame s first k → slice_get views s ≡ Some v →
    AreTold rest (slice_set views s w) → IsSpace w → IsOf frame s w →
    ((f l : Bool) → free_turn false f l ≡ f) → ((f l : Bool) → locked_turn false f l ≡ l) →
    ((at : ℕ) → has_page w.free at ≡ free_turn (in_run (first - v.first) k at) (has_page v.free at) (has_page v.locked at)) →
    ((at : ℕ) → has_page w.locked at ≡ locked_turn (in_run (first - v.first) k at) (has_page v.free at) (has_page v.locked at)) →
    IsTurned n frame views (over_run first k free_turn) (over_run first k locked_turn) rest
turned-one n frame views s first k v w free_turn locked_turn rest store home run here told sound of free_out
    locked_out free_bits locked_bits = record {
      after = slice_set views s w;
      told = told;
      home = home-set frame views s w run.named home sound of;
      free = λ page other at place. elim (cases_eq other s) [
        | inl same ↦
            let now = free-in (slice_set views s w) other at w
            (subst (λ j. slice_get (slice_set views s w) j ≡ Some w) (sym same) set_here) in
            let was_free = free-in views other at v (subst (λ j. slice_get views j ≡ Some v) (sym same) here) in
            let was_locked = locked-in views other at v (subst (λ j. slice_get views j ≡ Some v) (sym same) here) in
            now ∙ (free_bits at
            ∙ (ap (λ b. free_turn b (has_page v.free at) (has_page v.locked at)) (moved page other at place same)
            ∙ sym (ap (λ f. over_run first k free_turn page f (is_locked_place views other at)) was_free
            ∙ ap (λ l. over_run first k free_turn page (has_page v.free at) l) was_locked)))
        | inr apart ↦
            let u = view_at views other (omega (arith, place.in_store, home.number, store.number)) in
            let now = free-in (slice_set views s w) other at u.0 (slice_get-set_other views s other w apart ∙ u.1) in
            let was = free-in views other at u.0 u.1 in
            let out = ap (λ b. free_turn b (is_free_place views other at) (is_locked_place views other at))
            (run-apart n s first k page other at in_space place apart) in
            now ∙ (sym was ∙ (sym (free_out (is_free_place views other at) (is_locked_place views other at)) ∙ sym out))
      ];
      locked = λ page other at place. elim (cases_eq other s) [
        | inl same ↦
            let now = locked-in (slice_set views s w) other at w (subst (λ j. slice_get (slice_set views s w) j
            ≡ Some w) (sym same) set_here) in
            let was_free = free-in views other at v (subst (λ j. slice_get views j ≡ Some v) (sym same) here) in
            let was_locked = locked-in views other at v (subst (λ j. slice_get views j ≡ Some v) (sym same) here) in
            now ∙ (locked_bits at
            ∙ (ap (λ b. locked_turn b (has_page v.free at) (has_page v.locked at)) (moved page other at place same)
            ∙ sym (ap (λ f. over_run first k locked_turn page f (is_locked_place views other at)) was_free
            ∙ ap (λ l. over_run first k locked_turn page (has_page v.free at) l) was_locked)))
        | inr apart ↦
            let u = view_at views other (omega (arith, place.in_store, home.number, store.number)) in
            let now = locked-in (slice_set views s w) other at u.0 (slice_get-set_other views s other w apart ∙ u.1) in
            let was = locked-in views other at u.0 u.1 in
            let out = ap (λ b. locked_turn b (is_free_place views other at) (is_locked_place views other at))
            (run-apart n s first k page other at in_space place apart) in
            now ∙ (sym was ∙ (sym (locked_out (is_free_place views other at) (is_locked_place views other at)) ∙ sym out))
      ];
    } where
      in_space : IsInSpace n s first k
      in_space = run-in_space n frame s first k store run

      set_here : slice_get (slice_set views s w) s ≡ Some w
      set_here = slice_get-set_same views s w (omega (arith, run.named, home.number))

      moved : (page other at : ℕ) → IsPlace n page other at → other ≡ s → in_run (first - v.first) k at ≡ in_run first k page
      moved page other at place same =
          let base = (home.home s v here).first in
          let first_is = store.firsts s in_space.in_store in
          let is : page ≡ first_page n s + at = place.is_page ∙ ap (λ j. first_page n j + at) same in
          in_run-moved v.first at first k page (omega (arith, base, first_is, is)) (omega (arith, base, run.from))

-- ---- the four calls

-- given: free, and not locked
abbrev pub given_free : RunTurn
given_free is_in f l = is_in || f

abbrev pub given_locked : RunTurn
given_locked is_in f l = not is_in && l

-- granted: not free
abbrev pub granted_free : RunTurn
granted_free is_in f l = not is_in && f

-- locked: those that aren't free
abbrev pub locked_more : RunTurn
locked_more is_in f l = (is_in && not f) || l

abbrev pub same_free : RunTurn
same_free is_in f l = f

abbrev pub same_locked : RunTurn
same_locked is_in f l = l

pub turned-given : (n : Numbers) (frame : Frame) (views : List SpaceView) (s start : ℕ) (pages : List (List ℕ))
    (rest : Rest) → IsStore n frame → AreHome frame views →
    IsRunIn frame s start (length pages) → IsChanged views s (λ v. after_give v (start - v.first) pages) rest →
    IsTurned n frame views (over_run start (length pages) given_free) (over_run start (length pages) given_locked) rest
turned-given n frame views s start pages rest store home run changed =
    let v = changed.was in
    let of = home.home s v changed.here in
    let sound = home.space s v changed.here in
    let fits = run_fits frame s start (length pages) v run of in
    turned-one n frame views s start (length pages) v (after_give v (start - v.first) pages) given_free given_locked
    rest store home run changed.here changed.now
    (given_sound v (start - v.first) pages sound fits) (given_home frame s start pages v run of) (λ f l. refl) (λ f l. refl)
    (λ at. free-given v (start - v.first) pages at fits) (λ at. locked-given v (start - v.first) pages at sound fits)

pub turned-locked : (n : Numbers) (frame : Frame) (views : List SpaceView) (s first k : ℕ) (rest : Rest) →
    IsStore n frame → AreHome frame views →
    IsRunIn frame s first k → IsChanged views s (λ v. after_lock v (first - v.first) k) rest →
    IsTurned n frame views (over_run first k same_free) (over_run first k locked_more) rest
turned-locked n frame views s first k rest store home run changed =
    let v = changed.was in
    let of = home.home s v changed.here in
    let sound = home.space s v changed.here in
    let fits = run_fits frame s first k v run of in
    turned-one n frame views s first k v (after_lock v (first - v.first) k) same_free locked_more rest store home
    run changed.here changed.now
    (locked_sound v (first - v.first) k sound fits) (locked_home frame s first k v of) (λ f l. refl) (λ f l. refl)
    (λ at. free-locked v (first - v.first) k at) (λ at. locked-locked v (first - v.first) k at sound fits)

pub turned-unlocked : (n : Numbers) (frame : Frame) (views : List SpaceView) (s first k : ℕ) (rest : Rest) →
    IsStore n frame → AreHome frame views →
    IsRunIn frame s first k → IsChanged views s (λ v. after_unlock v (first - v.first) k) rest →
    IsTurned n frame views (over_run first k same_free) (over_run first k given_locked) rest
turned-unlocked n frame views s first k rest store home run changed =
    let v = changed.was in
    let of = home.home s v changed.here in
    let sound = home.space s v changed.here in
    let fits = run_fits frame s first k v run of in
    turned-one n frame views s first k v (after_unlock v (first - v.first) k) same_free given_locked rest store home
    run changed.here changed.now
    (unlocked_sound v (first - v.first) k sound fits) (unlocked_home frame s first k v of) (λ f l. refl) (λ f l. refl)
    (λ at. free-unlocked v (first - v.first) k at) (λ at. locked-unlocked v (first - v.first) k at sound fits)

-- ---- one after another

pub turned-then : (n : Numbers) (frame : Frame) (views : List SpaceView)
    (free_by locked_by free_then locked_then : Turn) (middle rest : Rest) →
    (one : IsTurned n frame views free_by locked_by middle) → IsTurned n frame one.after free_then locked_then rest →
    IsTurned n frame views (λ page f l. free_then page (free_by page f l) (locked_by page f l))
    (λ page f l. locked_then page (free_by page f l) (locked_by page f l)) rest
turned-then n frame views free_by locked_by free_then locked_then middle rest one two = record {
  after = two.after;
  told = two.told;
  home = two.home;
  free = λ page s at place. two.free page s at place
      ∙ (ap (λ f. free_then page f (is_locked_place one.after s at)) (one.free page s at place)
      ∙ ap (λ l. free_then page (free_by page (is_free_place views s at) (is_locked_place views s at)) l)
      (one.locked page s at place));
  locked = λ page s at place. two.locked page s at place
      ∙ (ap (λ f. locked_then page f (is_locked_place one.after s at)) (one.free page s at place)
      ∙ ap (λ l. locked_then page (free_by page (is_free_place views s at) (is_locked_place views s at)) l)
      (one.locked page s at place));
}

-- no call
pub turned-not : (n : Numbers) (frame : Frame) (views : List SpaceView) (rest : Rest) → AreTold rest views →
    AreHome frame views → IsTurned n frame views (λ page f l. f) (λ page f l. l) rest
turned-not n frame views rest told home =
    record {
      after = views;
      told = told;
      home = home;
      free = λ page s at place. refl;
      locked =
          λ page s at place. refl;
    }

-- ---- what it comes to for an object

-- Where what is known of each page, and that the spaces fit the old state, makes the turns those of a change from the
-- old state to the new one, the spaces moved with it.
pub turned-moves : (n : Numbers) (frame : Frame) (views : List SpaceView) (known : ℕ → Bool → Bool → Type 0)
    (free_by locked_by : Turn) (old new : ObjectSlot) (rest : Rest) →
    IsTurned n frame views free_by locked_by rest →
    ((page s at : ℕ) → IsPlace n page s at → known page (is_free_place views s at) (is_locked_place views s at)) →
    ((page : ℕ) (f l : Bool) → known page f l → (0 < either_uses n page old → f ≡ false) →
    (0 < either_uses n page old → l ≡ locks n page old) →
    (free_by page f l ≡ free_after n page f old new) × (locked_by page f l ≡ locked_after n page l old new)) →
    MovesTold n frame views old new rest
turned-moves n frame views known free_by locked_by old new rest turned facts table = record {
  after = turned.after;
  told = turned.told;
  home = turned.home;
  moves = λ fits. record {
    free = λ page s at place. turned.free page s at place
        ∙ (table page (is_free_place views s at) (is_locked_place views s at) (facts page s at place)
        (fits.used page s at place) (fits.locked page s at place)).0;
    locked = λ page s at place. turned.locked page s at place
        ∙ (table page (is_free_place views s at) (is_locked_place views s at) (facts page s at place)
        (fits.used page s at place) (fits.locked page s at place)).1;
  };
}

-- Where the turns leave each page as it was, for what is known of it, the spaces weren't touched.
pub turned-back : (n : Numbers) (frame : Frame) (views : List SpaceView) (known : ℕ → Bool → Bool → Type 0)
    (free_by locked_by : Turn) (rest : Rest) →
    IsTurned n frame views free_by locked_by rest →
    ((page s at : ℕ) → IsPlace n page s at →
    known page (is_free_place views s at) (is_locked_place views s at)) →
    ((page : ℕ) (f l : Bool) → known page f l → (free_by page f l ≡ f) × (locked_by page f l ≡ l)) → IsUntouched n frame views rest
turned-back n frame views known free_by locked_by rest turned facts table = record {
  after = turned.after;
  told = turned.told;
  home = turned.home;
  free = λ page s at place. turned.free page s at place
      ∙ (table page (is_free_place views s at) (is_locked_place views s at) (facts page s at place)).0;
  locked = λ page s at place. turned.locked page s at place
      ∙ (table page (is_free_place views s at) (is_locked_place views s at) (facts page s at place)).1;
}

-- ---- a grant

-- The run was granted: how the spaces turn, that its pages were free and not locked, and that it is the rule's answer.
pub record IsGrantTurn (n : Numbers) (frame : Frame) (views : List SpaceView) (start first k : ℕ) (rest : Rest) : Type 0 where
  pub turned : IsTurned n frame views (over_run first k granted_free) (over_run first k same_locked) rest
  pub was_free : (page s at : ℕ) → IsPlace n page s at → in_run first k page ≡ true → is_free_place views s at ≡ true
  pub was_unlocked : (page s at : ℕ) → IsPlace n page s at → in_run first k page ≡ true → is_locked_place views s at ≡ false
  pub left : Spaces
  pub answer : run_of n start k (free_sets views) ≡ Got (record { page = first; pages = k }) left

granted-home : (frame : Frame) (s at k : ℕ) (v : SpaceView) → at + k ≤ length v.free → IsOf frame s v → IsOf frame s (after_grant v at k)
granted-home frame s at k v fits of = record {
  number = of.number;
  first = of.first;
  page = of.page;
  pages =
      length-with_run v.free at k false fits ∙ of.pages;
}

-- where a page of the run stands in its space
in-spot : (n : Numbers) (frame : Frame) (space first k page s at spot : ℕ) → IsStore n frame →
    IsRunIn frame space first k → IsPlace n page s at →
    first ≡ first_page n space + spot → in_run first k page ≡ true → (s ≡ space) × ((spot ≤ at) × (at < spot + k))
in-spot n frame space first k page s at spot store run here is is_in = elim (cases_lt page first) [
  | inl below ↦ absurd (false≢true (sym (in_run-below first k page below) ∙ is_in))
  | inr from ↦ elim (cases_lt page (first + k)) [
    | inr past ↦ absurd (false≢true (sym (in_run-above first k page past) ∙ is_in))
    | inl to ↦
        let there = IsPlace-in_run n space first k page (run-in_space n frame space first k store run) from to in
        let same = IsPlace-unique n page s at space (page - first_page n space) here there in
        (same.0, (omega (arith, same.1, from, is), omega (arith, same.1, from, to, is)))
  ]
]

grant-spot : (n : Numbers) (frame : Frame) (views : List SpaceView) (start k space first : ℕ)
    (contents : List (List ℕ)) (tells : Bool) (o : Option Spot) (rest : Rest) →
    spot_in (free_sets views) k (around start (length frame.firsts)) ≡ o →
    IsStore n frame → AreHome frame views → 1 ≤ k → IsSegmentIn frame k space first contents tells →
    IsExact views k o frame (Some (space, (first, contents))) rest → IsGrantTurn n frame views start first k rest
grant-spot n frame views start k space first contents tells None rest found store home some segment exact = cc
grant-spot n frame views start k space first contents tells (Some spot) rest found store home some segment exact =
    let pages = exact.0 in
    let result : (space, (first, contents)) ≡ (spot.space, (slice_index frame.firsts spot.space + spot.at, pages)) =
    some-inner (space, (first, contents)) (spot.space, (slice_index frame.firsts spot.space + spot.at, pages)) exact.1 in
    let same_space : space ≡ spot.space = ap (λ r. r.0) result in
    let same_first : first ≡ slice_index frame.firsts spot.space + spot.at = ap (λ r. r.1.0) result in
    let taken = exact.2.1 in
    let was = taken.was in
    let of = taken.home in
    let sound = taken.sound in
    let named : spot.space < length frame.firsts = subst (λ j. j < length frame.firsts) same_space segment.named in
    let run : IsRunIn frame spot.space first k = record {
      named = named;
      some = some;
      from = subst (λ j. slice_index frame.firsts j ≤ first) same_space segment.from;
      to = subst (λ j. first + k ≤ slice_index frame.firsts j + frame.pages) same_space segment.to;
    } in
    let at_is : first - was.first ≡ spot.at = omega (arith, same_first, of.first) in
    let fits : spot.at + k ≤ length was.free = (let whole = run_fits frame spot.space first k was run of in omega (arith, whole, at_is)) in
    let placed = spot_placed (free_sets views) k (around start (length frame.firsts)) spot found in
    let placed_here : place was.free k ≡ Some spot.at =
    subst (λ bits. place bits k ≡ Some spot.at) (free_at views spot.space was taken.here) placed in
    let free_run : HasRun was.free spot.at k = place-free was.free k spot.at placed_here in
    let now : AreTold rest (slice_set views spot.space (after_grant was spot.at k)) = subst (AreTold rest) taken.now exact.2.2 in
    let first_is : slice_index frame.firsts spot.space ≡ first_page n spot.space =
    store.firsts spot.space (omega (arith, named, store.number)) in
    let inside : (page s at : ℕ) → IsPlace n page s at → in_run first k page ≡ true → (s ≡ spot.space)
    × ((spot.at ≤ at) × (at < spot.at + k)) =
    λ page s at here is_in. in-spot n frame spot.space first k page s at spot.at store run here (omega (
      arith,
      same_first,
      first_is,
    )) is_in in
    record {
      turned = turned-one n frame views spot.space first k was (after_grant was spot.at k) granted_free same_locked
          rest store home run taken.here now
          (granted_sound was spot.at k sound fits) (granted-home frame spot.space spot.at k was fits of) (λ f l. refl) (λ f l. refl)
          (λ at. free-granted was spot.at k at fits ∙ ap (λ j. not (in_run j k at) && has_page was.free at) (sym at_is)) (λ at. refl);
      was_free = λ page s at here is_in.
          let where_is = inside page s at here is_in in
          free-in views s at was (subst (λ j. slice_get views j ≡ Some was) (sym where_is.0) taken.here)
          ∙ free_run.each at where_is.1.0 where_is.1.1;
      was_unlocked = λ page s at here is_in.
          let where_is = inside page s at here is_in in
          locked-in views s at was (subst (λ j. slice_get views j ≡ Some was) (sym where_is.0) taken.here)
          ∙ never-true (has_page was.locked at) (sound.apart at (free_run.each at where_is.1.0 where_is.1.1));
      left = without (free_sets views) spot k;
      answer = run_some n start k (free_sets views) spot (around_all views frame start k (Some spot) home.number found)
          ∙ ap (λ j. Got (record { page = j; pages = k }) (without (free_sets views) spot k)) (omega (arith, same_first, first_is));
    }

pub grant-turned : (n : Numbers) (frame : Frame) (views : List SpaceView) (start k space first : ℕ)
    (contents : List (List ℕ)) (tells : Bool) (rest : Rest) →
    IsStore n frame → AreHome frame views → 1 ≤ k → IsSegmentIn frame k space first contents tells →
    IsExact views k (spot_in (free_sets views) k (around start (length frame.firsts))) frame (Some (space, (first, contents))) rest →
    IsGrantTurn n frame views start first k rest
grant-turned n frame views start k space first contents tells rest store home some segment exact =
    grant-spot n frame views start k space first contents tells
    (spot_in (free_sets views) k (around start (length frame.firsts))) rest refl store home some segment exact

-- the rule's answer alone, for which the spaces need not be at home
answer-spot : (n : Numbers) (frame : Frame) (views : List SpaceView) (start k space first : ℕ)
    (contents : List (List ℕ)) (tells : Bool) (o : Option Spot) (rest : Rest) →
    spot_in (free_sets views) k (around start (length frame.firsts)) ≡ o → IsStore n frame →
    length views ≡ length frame.firsts → IsSegmentIn frame k space first contents tells →
    IsExact views k o frame (Some (space, (first, contents))) rest → (left : Spaces)
    × (run_of n start k (free_sets views) ≡ Got (record { page = first; pages = k }) left)
answer-spot n frame views start k space first contents tells None rest found store long segment exact = cc
answer-spot n frame views start k space first contents tells (Some spot) rest found store long segment exact =
    let result : (space, (first, contents)) ≡ (spot.space, (slice_index frame.firsts spot.space + spot.at, exact.0)) =
    some-inner (space, (first, contents)) (spot.space, (slice_index frame.firsts spot.space + spot.at, exact.0)) exact.1 in
    let same_space : space ≡ spot.space = ap (λ r. r.0) result in
    let same_first : first ≡ slice_index frame.firsts spot.space + spot.at = ap (λ r. r.1.0) result in
    let named : spot.space < length frame.firsts = subst (λ j. j < length frame.firsts) same_space segment.named in
    let first_is : slice_index frame.firsts spot.space ≡ first_page n spot.space =
    store.firsts spot.space (omega (arith, named, store.number)) in (
      without (free_sets views) spot k,
      run_some n start k (free_sets views) spot (around_all views frame start k (Some spot) long found)
          ∙ ap (λ j. Got (record { page = j; pages = k }) (without (free_sets views) spot k)) (omega (arith, same_first, first_is)),
    )

pub grant-answer : (n : Numbers) (frame : Frame) (views : List SpaceView) (start k space first : ℕ)
    (contents : List (List ℕ)) (tells : Bool) (rest : Rest) →
    IsStore n frame → length views ≡ length frame.firsts → IsSegmentIn frame k space first contents tells →
    IsExact views k (spot_in (free_sets views) k (around start (length frame.firsts))) frame (Some (space, (first, contents))) rest →
    (left : Spaces) × (run_of n start k (free_sets views) ≡ Got (record { page = first; pages = k }) left)
grant-answer n frame views start k space first contents tells rest store long segment exact =
    answer-spot n frame views start k space first contents tells
    (spot_in (free_sets views) k (around start (length frame.firsts))) rest refl store long segment exact

-- the pages were refused: so the rule refuses them, and the told spaces are the very same
pub grant-refused : (n : Numbers) (frame : Frame) (views : List SpaceView) (start k : ℕ) (rest : Rest) →
    length views ≡ length frame.firsts →
    IsExact views k (spot_in (free_sets views) k (around start (length frame.firsts))) frame None rest →
    (run_of n start k (free_sets views) ≡ Refused k) × AreTold rest views
grant-refused n frame views start k rest long exact =
    let none = exact_none views k (spot_in (free_sets views) k (around start (length frame.firsts))) frame rest exact in
    (run_none n start k (free_sets views) (around_all views frame start k None long none.0), none.1)
