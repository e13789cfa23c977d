-- Where a grant over told spaces falls, and what one tried space makes of them.
use Rattle.std.proofs.Common.{inl, inr, ◌≡◌, ℕ, suc, zero, ◌+◌, ◌-◌, ◌<◌, ◌≤◌, Bool, true, List, [], ◌∷◌, ◌++◌}
use Rattle.std.proofs.Common.{length, map, set, Option, Some, None, refl, sym, ap, ◌∙◌, subst, arith}
use Rattle.std.proofs.Math.Seq.{map-set}
use Rattle.std.proofs.lemmas.List.{length-set, set-set, set-get_or}
use Rattle.std.proofs.lemmas.Option.{slice_get-map, get_or_from_slice_get}
use Rattle.std.proofs.lemmas.Bool.{cases_lt}
use Rattle.std.specs.Prelude.{IsTrue, IsNone, IfSome, IfNone, slice_get, slice_set, slice_index, option_map, is_none, is_some, ◌↔◌}
use Rattle.std.specs.List.{range_with_len}
use Rattle.page_port.specs.Pages.{IsSized, run}
use Rattle.block_model.specs.Block.{IsOrder}
use Rattle.block_model.specs.Place.{place, hint_of}
use Rattle.block_model.proofs.Changes.{length-with_run}
use Rattle.block_model.proofs.Laws.{hint_of-is, HasNoRoom-hint, HasNoRoom-place, place-HasNoRoom, place-within, hint-room}
use Rattle.layout_model.specs.Grants.{Spot, space_at, spot_in}
use Rattle.space_directory.specs.SpaceView.{SpaceView, IsSpace, IsGrant, IsRunOf, IsSegmentOf, after_grant}
use Rattle.space_directory.specs.SpaceView.{after_give, after_lock, after_unlock}
use Rattle.superdirectory.specs.Trace.{SpaceEvent, Part, enter_event, IsNothing}
use Rattle.superdirectory.specs.Rest.{Frame, Rest, count, IsOf, IsSpaceTold, entering, leaving}
use Rattle.superdirectory.specs.Grants.{AreTold, free_sets, IsSegmentIn, IsExact, IsRunIn, IsChanged, UsesSpace, AreRunsIn, IsGivenAll}
use Rattle.superdirectory.proofs.Traces.{part_used}

pub view_at : (views : List SpaceView) (s : ℕ) → s < length views → (v : SpaceView) × (slice_get views s ≡ Some v)
view_at [] s less = absurd (omega arith)
view_at (v ∷ views) zero less = (v, refl)
view_at (v ∷ views) (suc s) less = view_at views s (omega arith)

pub told_at : (rest : Rest) (views : List SpaceView) (s : ℕ) (v : SpaceView) → AreTold rest views →
    slice_get views s ≡ Some v → IsSpaceTold rest s v
told_at rest views s v told here = (map Some views, told, slice_get-map Some views s ∙ ap (option_map Some) here)

pub free_at : (views : List SpaceView) (s : ℕ) (v : SpaceView) → slice_get views s ≡ Some v → space_at (free_sets views) s ≡ v.free
free_at [] s v h = cc
free_at (x ∷ views) zero v h = (let e : x ≡ v = cc in ap (λ (y : SpaceView). y.free) e)
free_at (x ∷ views) (suc s) v h = free_at views s v h

-- the spot in a row of spaces, one space or row after another
spot_by : (o : Option ℕ) (s : ℕ) → Option Spot
spot_by (Some at) s = Some (record { space = s; at = at })
spot_by None s = None

pub spot_one_none : (spaces : List (List Bool)) (n s : ℕ) → place (space_at spaces s) n ≡ None → spot_in spaces n (s ∷ []) ≡ None
spot_one_none spaces n s e = rw (e, spot_in) refl

pub spot_one_some : (spaces : List (List Bool)) (n s at : ℕ) → place (space_at spaces s) n ≡ Some at →
    spot_in spaces n (s ∷ []) ≡ Some (record { space = s; at = at })
spot_one_some spaces n s at e = rw (e, spot_in) refl

spot_step : (spaces : List (List Bool)) (n x : ℕ) (xs ys : List ℕ) (o : Option ℕ) →
    place (space_at spaces x) n ≡ o → spot_in spaces n (x ∷ xs) ≡ None →
    (spot_in spaces n xs ≡ None → spot_in spaces n (xs ++ ys) ≡ spot_in spaces n ys) →
    spot_in spaces n (x ∷ (xs ++ ys)) ≡ spot_in spaces n ys
spot_step spaces n x xs ys (Some at) e none rest =
    let found : spot_in spaces n (x ∷ xs) ≡ Some (record { space = x; at = at }) = rw (e, spot_in) refl in cc
spot_step spaces n x xs ys None e none rest =
    let gone : spot_in spaces n (x ∷ xs) ≡ spot_in spaces n xs = rw (e, spot_in) refl in
    let on : spot_in spaces n (x ∷ (xs ++ ys)) ≡ spot_in spaces n (xs ++ ys) = rw (e, spot_in) refl in
    on ∙ rest (sym gone ∙ none)

pub spot_append : (spaces : List (List Bool)) (n : ℕ) (xs ys : List ℕ) → spot_in spaces n xs ≡ None →
    spot_in spaces n (xs ++ ys) ≡ spot_in spaces n ys
spot_append spaces n [] ys none = refl
spot_append spaces n (x ∷ xs) ys none = spot_step spaces n x xs ys (place (space_at spaces x) n) refl none (spot_append spaces n xs ys)

spot_step_some : (spaces : List (List Bool)) (n x : ℕ) (xs ys : List ℕ) (spot : Spot) (o : Option ℕ) →
    place (space_at spaces x) n ≡ o → spot_in spaces n (x ∷ xs) ≡ Some spot →
    (spot_in spaces n xs ≡ Some spot → spot_in spaces n (xs ++ ys) ≡ Some spot) →
    spot_in spaces n (x ∷ (xs ++ ys)) ≡ Some spot
spot_step_some spaces n x xs ys spot (Some at) e found rest =
    let here : spot_in spaces n (x ∷ xs) ≡ Some (record { space = x; at = at }) = rw (e, spot_in) refl in
    let there : spot_in spaces n (x ∷ (xs ++ ys)) ≡ Some (record { space = x; at = at }) = rw (e, spot_in) refl in there ∙ sym here ∙ found
spot_step_some spaces n x xs ys spot None e found rest =
    let gone : spot_in spaces n (x ∷ xs) ≡ spot_in spaces n xs = rw (e, spot_in) refl in
    let on : spot_in spaces n (x ∷ (xs ++ ys)) ≡ spot_in spaces n (xs ++ ys) = rw (e, spot_in) refl in
    on ∙ rest (sym gone ∙ found)

pub spot_front : (spaces : List (List Bool)) (n : ℕ) (xs ys : List ℕ) (spot : Spot) →
    spot_in spaces n xs ≡ Some spot → spot_in spaces n (xs ++ ys) ≡ Some spot
spot_front spaces n [] ys spot found = cc
spot_front spaces n (x ∷ xs) ys spot found =
    spot_step_some spaces n x xs ys spot (place (space_at spaces x) n) refl found (spot_front spaces n xs ys spot)

pub range_split : (from a b : ℕ) → range_with_len from (a + b) ≡ range_with_len from a ++ range_with_len (from + a) b
range_split from zero b = let e : zero + b ≡ b = omega arith in let f : from ≡ from + zero = omega arith in
    ap (λ (k : ℕ). range_with_len from k) e ∙ ap (λ (k : ℕ). range_with_len k b) f
range_split from (suc a) b =
    let e : suc a + b ≡ suc (a + b) = omega arith in
    let f : from + 1 + a ≡ from + suc a = omega arith in
    ap (λ (k : ℕ). range_with_len from k) e ∙ ap (λ (r : List ℕ). from ∷ r)
    (range_split (from + 1) a b ∙ ap (λ (k : ℕ). range_with_len (from + 1) a ++ range_with_len k b) f)

-- ---- one tried space

pub exact_refused : (views : List SpaceView) (n order s hint : ℕ) (frame : Frame) (v : SpaceView) (new : Rest) →
    slice_get views s ≡ Some v → IsOrder n order → hint ≡ hint_of v.free → (order < hint → ⊥) → AreTold new views →
    IsExact views n (spot_in (free_sets views) n (s ∷ [])) frame None new
exact_refused views n order s hint frame v new here o exact low told =
    let small : hint_of v.free ≤ order = elim (cases_lt order hint) [ inl less ↦ absurd (low less) | inr ge ↦ omega arith ] in
    let none : place v.free n ≡ None = HasNoRoom-place v.free n
    (HasNoRoom-hint v.free n order (hint_of v.free) o (hint_of-is v.free) small) in
    subst (λ (x : Option Spot). IsExact views n x frame None new)
    (sym (spot_one_none (free_sets views) n s (ap (λ (f : List Bool). place f n) (free_at views s v here)
    ∙ none))) (refl, told)

-- what a space that was entered and left is set back to
set_back : (views : List SpaceView) (s : ℕ) (old new : SpaceView) → slice_get views s ≡ Some old →
    set (set (map Some views) s None) s (Some new) ≡ map Some (set views s new)
set_back views s old new here = set-set (map Some views) s None (Some new) ∙ sym (map-set Some views s new)

pub set_same : (views : List SpaceView) (s : ℕ) (v : SpaceView) → slice_get views s ≡ Some v → set views s v ≡ views
set_same views s v here = ap (λ (x : SpaceView). set views s x) (sym (get_or_from_slice_get views s v v here)) ∙ set-get_or views s v

pub exact_entered : {A : Type 0} (at : A → ℕ × (ℕ × List (List ℕ))) (tells : Bool) (o : Option A)
    (old new v : SpaceView) (views : List SpaceView) (n s : ℕ) (frame : Frame) (rest : Rest) →
    old ≡ v → slice_get views s ≡ Some v → IsSpace old → IsOf frame s old →
    IfSome o (λ a. IsGrant old new n (at a).0 (at a).1.0 (at a).1.1 tells) →
    (IsNone o ↔ (place old.free n ≡ None)) → IfNone o (new ≡ old) →
    rest.spaces ≡ Some (slice_set (slice_set (map Some views) s None) s (Some new)) →
    IsExact views n (spot_in (free_sets views) n (s ∷ [])) frame (option_map at o) rest
exact_entered at tells None old new v views n s frame rest same here sound home made refused kept spaces =
    let none : place (space_at (free_sets views) s) n ≡ None =
    ap (λ (f : List Bool). place f n) (free_at views s v here)
    ∙ ap (λ (x : SpaceView). place x.free n) (sym same) ∙ refused.0 refl in
    let back : set (set (map Some views) s None) s (Some new) ≡ map Some views =
    set_back views s v new here ∙ ap (map Some) (ap (λ (x : SpaceView). set views s x) (kept ∙ same) ∙ set_same views s v here) in
    subst (λ (x : Option Spot). IsExact views n x frame None rest) (sym (spot_one_none (free_sets views) n s none))
    (refl, spaces ∙ ap (λ (l : List (Option SpaceView)). Some l) back)
exact_entered at tells (Some a) old new v views n s frame rest same here sound home made refused kept spaces =
    let spot : place (space_at (free_sets views) s) n ≡ Some ((at a).1.0 - old.first) =
    ap (λ (f : List Bool). place f n) (free_at views s v here)
    ∙ ap (λ (x : SpaceView). place x.free n) (sym same) ∙ made.placed in
    let number : (at a).0 ≡ s = made.named ∙ home.number in
    let start : (at a).1.0 ≡ slice_index frame.firsts s + ((at a).1.0 - old.first) = omega (arith, made.from, home.first) in
    let held : (at a).1.1 ≡ run ((at a).1.0 - old.first) n v.held = made.held
    ∙ ap (λ (x : SpaceView). run ((at a).1.0 - old.first) n x.held) same in
    let found : at a ≡ (s, (slice_index frame.firsts s + ((at a).1.0 - old.first), run ((at a).1.0 - old.first) n v.held)) =
    ap (λ (x : ℕ). (x, (at a).1)) number ∙ ap (λ (y : ℕ). (s, (y, (at a).1.1))) start
    ∙ ap (λ (ps : List (List ℕ)). (s, (slice_index frame.firsts s + ((at a).1.0 - old.first), ps))) held in
    let left : new ≡ after_grant v ((at a).1.0 - old.first) n = made.after
    ∙ ap (λ (x : SpaceView). after_grant x ((at a).1.0 - old.first) n) same in
    subst (λ (x : Option Spot). IsExact views n x frame (Some (at a)) rest)
    (sym (spot_one_some (free_sets views) n s ((at a).1.0 - old.first) spot)) (
      run ((at a).1.0 - old.first) n v.held,
      ap (λ (p : ℕ × (ℕ × List (List ℕ))). Some p) found,
      (
        set views s (after_grant v ((at a).1.0 - old.first) n),
        record {
          was = v;
          here = here;
          sound = subst (λ (x : SpaceView). IsSpace x) same sound;
          home =
              subst (λ (x : SpaceView). IsOf frame s x) same home;
          held = refl;
          now = refl;
        },
        spaces ∙ ap (λ (l : List (Option SpaceView)). Some l)
            (set_back views s v new here ∙ ap (λ (x : SpaceView). map Some (set views s x)) left),
      ),
    )

pub segment_in : {A : Type 0} (at : A → ℕ × ℕ) (pages : A → List (List ℕ)) (tells : Bool) (o : Option A)
    (old new : SpaceView) (n s : ℕ) (frame : Frame) → s < length frame.firsts → 1 ≤ n → IsOf frame s old →
    IfSome o (λ a. IsGrant old new n (at a).0 (at a).1 (pages a) tells) →
    IfSome o (λ a. IsSegmentIn frame n (at a).0 (at a).1 (pages a) tells)
segment_in at pages tells None old new n s frame within some home made = made
segment_in at pages tells (Some a) old new n s frame within some home made =
    let number : (at a).0 ≡ s = made.named ∙ home.number in
    let first : slice_index frame.firsts (at a).0 ≡ old.first = ap (λ (k : ℕ). slice_index frame.firsts k) number ∙ sym home.first in
    let inside : (at a).1 - old.first + n ≤ length old.free = place-within old.free n ((at a).1 - old.first) some made.placed in
    record {
      named = omega arith;
      from = omega (arith, made.from);
      to = omega (arith, made.from, home.pages);
      count = made.count;
      sized = subst (λ (p : ℕ). IsSized tells p (pages a)) home.page made.sized;
    }

-- a space that was entered and had no place is low
pub low_where_none : {A : Type 0} (o : Option A) (free : List Bool) (n order : ℕ) →
    (IsNone o ↔ (place free n ≡ None)) → IsOrder n order → IsTrue (is_none o) → hint_of free ≤ order
low_where_none (Some a) free n order refused o none = cc
low_where_none None free n order refused o none = elim (cases_lt order (hint_of free)) [
  | inl less ↦ absurd (hint-room free n order (hint_of free) o (hint_of-is free) less (place-HasNoRoom free n (refused.0 refl)))
  | inr ge ↦ ge
]

-- what no found spot means
pub exact_none : (views : List SpaceView) (n : ℕ) (o : Option Spot) (frame : Frame) (rest : Rest) →
    IsExact views n o frame None rest → (o ≡ None) × AreTold rest views
exact_none views n None frame rest h = (refl, h.1)
exact_none views n (Some spot) frame rest h = cc

pub exact_some : (views : List SpaceView) (n : ℕ) (o : Option Spot) (frame : Frame) (p : ℕ × (ℕ × List (List ℕ)))
    (rest : Rest) → IsExact views n o frame (Some p) rest → is_some o ≡ true
exact_some views n None frame p rest h = cc
exact_some views n (Some spot) frame p rest h = refl

-- the spaces before had none, and this one has what was granted
pub exact_after : (views : List SpaceView) (n : ℕ) (xs ys zs : List ℕ) (frame : Frame) (p : ℕ × (ℕ × List (List ℕ)))
    (rest : Rest) → spot_in (free_sets views) n xs ≡ None →
    IsExact views n (spot_in (free_sets views) n ys) frame (Some p) rest →
    IsExact views n (spot_in (free_sets views) n (xs ++ (ys ++ zs))) frame (Some p) rest
exact_after views n xs ys zs frame p rest none here = by_spot (spot_in (free_sets views) n ys) refl
  where
    by_spot : (o : Option Spot) → spot_in (free_sets views) n ys ≡ o →
        IsExact views n (spot_in (free_sets views) n (xs ++ (ys ++ zs))) frame (Some p) rest
    by_spot None e = (let h : IsExact views n None frame (Some p) rest =
        subst (λ (x : Option Spot). IsExact views n x frame (Some p) rest) e here in let h0 : Some p ≡ None = h.0 in
        cc)
    by_spot (Some spot) e =
        let all : spot_in (free_sets views) n (xs ++ (ys ++ zs)) ≡ spot_in (free_sets views) n ys =
        spot_append (free_sets views) n xs (ys ++ zs) none ∙ spot_front (free_sets views) n ys zs spot e
        ∙ sym e in
        subst (λ (x : Option Spot). IsExact views n x frame (Some p) rest) (sym all) here

-- the row of visited spaces, parted at one of them
pub range_parted : (from s to : ℕ) → from ≤ s → s < to →
    range_with_len from (s - from) ++ ((s ∷ []) ++ range_with_len (s + 1) (to - (s + 1)))
    ≡ range_with_len from (to - from)
range_parted from s to low high =
    let whole : s - from + suc (to - (s + 1)) ≡ to - from = omega arith in
    let here : from + (s - from) ≡ s = omega arith in
    sym (range_split from (s - from) (suc (to - (s + 1)))
    ∙ ap (λ (k : ℕ). range_with_len from (s - from) ++ range_with_len k (suc (to - (s + 1)))) here)
    ∙ ap (λ (k : ℕ). range_with_len from k) whole

pub range_one_more : (from s : ℕ) → from ≤ s → range_with_len from (s - from) ++ (s ∷ []) ≡ range_with_len from (s + 1 - from)
range_one_more from s low =
    let whole : s - from + 1 ≡ s + 1 - from = omega arith in
    let here : from + (s - from) ≡ s = omega arith in
    sym (range_split from (s - from) 1 ∙ ap (λ (k : ℕ). range_with_len from (s - from) ++ range_with_len k 1) here)
    ∙ ap (λ (k : ℕ). range_with_len from k) whole

pub exact_second : (views : List SpaceView) (n : ℕ) (xs ys : List ℕ) (frame : Frame)
    (o : Option (ℕ × (ℕ × List (List ℕ)))) (rest : Rest) → spot_in (free_sets views) n xs ≡ None →
    IsExact views n (spot_in (free_sets views) n ys) frame o rest →
    IsExact views n (spot_in (free_sets views) n (xs ++ ys)) frame o rest
exact_second views n xs ys frame o rest none here =
    subst (λ (x : Option Spot). IsExact views n x frame o rest)
    (sym (spot_append (free_sets views) n xs ys none)) here

pub exact_first : (views : List SpaceView) (n : ℕ) (ys zs : List ℕ) (frame : Frame) (p : ℕ × (ℕ × List (List ℕ)))
    (rest : Rest) → IsExact views n (spot_in (free_sets views) n ys) frame (Some p) rest →
    IsExact views n (spot_in (free_sets views) n (ys ++ zs)) frame (Some p) rest
exact_first views n ys zs frame p rest here = exact_after views n [] ys zs frame p rest refl here

-- the told spaces once one was entered, changed and left
left_changed : (change : SpaceView → SpaceView) (views : List SpaceView) (s : ℕ) (v old new : SpaceView)
    (rest : Rest) → slice_get views s ≡ Some v → old ≡ v → new ≡ change old →
    rest.spaces ≡ Some (slice_set (slice_set (map Some views) s None) s (Some new)) → IsChanged views s change rest
left_changed change views s v old new rest here same made spaces = record {
  was = v;
  here = here;
  now = spaces ∙ ap (λ (l : List (Option SpaceView)). Some l)
      (set_back views s v new here ∙ ap (λ (x : SpaceView). map Some (set views s x)) (made ∙ ap change same));
}

-- one space entered, changed and left
pub used : (change : SpaceView → SpaceView) (s : ℕ) (v w : SpaceView) (old middle new : Rest)
    (a b c : Option (List SpaceEvent)) → s < count old →
    ((u : SpaceView) → IsSpaceTold old s u → v ≡ u) → w ≡ change v → middle ≡ entering old s → new ≡ leaving middle s w →
    Part (λ part. part ≡ enter_event s (hint_of v.free) ∷ []) a b → Part IsNothing b c → UsesSpace s change old new a c
used change s v w old middle new a b c named same made enters leaves entered left = record {
  rest = record {
    frame = ap (λ (r : Rest). r.frame) leaves ∙ ap (λ (r : Rest). r.frame) enters;
    entered =
        ap (λ (r : Rest). r.entered) leaves;
  };
  trace = part_used s (hint_of v.free) a b c entered left;
  told = λ views told long.
      let u = view_at views s (omega (arith, named, long)) in
      let back : new.spaces ≡ Some (slice_set (slice_set (map Some views) s None) s (Some w)) =
      ap (λ (r : Rest). r.spaces) (leaves ∙ ap (λ (r : Rest). leaving r s w) enters)
      ∙ ap (λ (o : Option (List (Option SpaceView))). option_map (λ spaces. slice_set spaces s (Some w))
      (option_map (λ spaces. slice_set spaces s None) o)) told in
      left_changed change views s u.0 v w new u.1 (same u.0 (told_at old views s u.0 told u.1)) made back;
}

pub run_of_space : (frame : Frame) (s first n : ℕ) (v : SpaceView) → IsRunIn frame s first n → IsOf frame s v → IsRunOf v first n
run_of_space frame s first n v run home =
    record {
      some = run.some;
      from = omega (arith, run.from, home.first);
      to =
          omega (arith, run.to, home.first, home.pages);
    }

pub segment_of_space : (frame : Frame) (s start : ℕ) (pages : List (List ℕ)) (tells : Bool) (v : SpaceView) →
    IsRunIn frame s start (length pages) → IsSized tells frame.page pages → IsOf frame s v →
    IsSegmentOf v s start pages tells
segment_of_space frame s start pages tells v run sized home = record {
  named = sym home.number;
  inside = run_of_space frame s start (length pages) v run home;
  sized = subst (λ (p : ℕ). IsSized tells p pages) (sym home.page) sized;
}

-- a changed space is still that of its place
pub given_home : (frame : Frame) (s start : ℕ) (pages : List (List ℕ)) (v : SpaceView) →
    IsRunIn frame s start (length pages) → IsOf frame s v → IsOf frame s (after_give v (start - v.first) pages)
given_home frame s start pages v run home = record {
  number = home.number;
  first = home.first;
  page = home.page;
  pages = length-with_run v.free (start - v.first)
      (length pages) true (omega (arith, run.from, run.to, home.first, home.pages)) ∙ home.pages;
}

pub locked_home : (frame : Frame) (s start n : ℕ) (v : SpaceView) → IsOf frame s v → IsOf frame s (after_lock v (start - v.first) n)
locked_home frame s start n v home = record { number = home.number; first = home.first; page = home.page; pages = home.pages }

pub unlocked_home : (frame : Frame) (s start n : ℕ) (v : SpaceView) → IsOf frame s v → IsOf frame s (after_unlock v (start - v.first) n)
unlocked_home frame s start n v home = record { number = home.number; first = home.first; page = home.page; pages = home.pages }

-- ---- lists of runs

pub runs_front : {A : Type 0} (space first : A → ℕ) (pages : A → List (List ℕ)) (tells : Bool) (frame : Frame)
    (runs : List A) (last : A) → AreRunsIn space first pages tells frame (runs ++ (last ∷ [])) →
    AreRunsIn space first pages tells frame runs
    × (IsRunIn frame (space last) (first last) (length (pages last)) × IsSized tells frame.page (pages last))
runs_front space first pages tells frame [] last h = (tt, (h.0, h.1))
runs_front space first pages tells frame (run ∷ runs) last h = let rest =
    runs_front space first pages tells frame runs last h.2 in ((h.0, h.1, rest.0), rest.1)

-- one run more, in front of those that were given
pub given_more : {A : Type 0} (space first : A → ℕ) (pages : A → List (List ℕ)) (before between : List SpaceView)
    (run : A) (runs : List A) (new : Rest) → IsGivenAll space first pages before runs between →
    IsChanged between (space run) (λ v. after_give v (first run - v.first) (pages run)) new →
    (after : List SpaceView) × AreTold new after × (length after ≡ length between)
    × IsGivenAll space first pages before (run ∷ runs) after
given_more space first pages before between run runs new all changed = (
  set between (space run) (after_give changed.was (first run - changed.was.first) (pages run)),
  changed.now,
  length-set between (space run) (after_give changed.was (first run - changed.was.first) (pages run)),
  (between, all, (changed.was, changed.here, refl)),
)
