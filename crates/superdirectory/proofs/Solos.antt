-- The spaces of one thread stay at home when one of them is entered, and when it is left.
use Rattle.std.proofs.Common.{inl, inr, ◌≡◌, ℕ, ◌+◌, ◌<◌, ◌≤◌, List, [], ◌∷◌, ◌++◌, length, map, set, get_or}
use Rattle.std.proofs.Common.{Option, Some, None, refl, sym, ap, ◌∙◌, subst, arith}
use Rattle.std.proofs.lemmas.List.{length-set, length-map, length_push}
use Rattle.std.proofs.lemmas.Option.{slice_get-map, slice_get_read, get_or_from_slice_get}
use Rattle.std.proofs.lemmas.Bool.{cases_eq}
use Rattle.std.specs.Prelude.{slice_get, option_map, swap, swap_remove}
use Rattle.block_model.specs.Place.{hint_of}
use Rattle.space_directory.specs.SpaceView.{SpaceView, IsSpace}
use Rattle.superdirectory.specs.declared.hint.Hint.{Hint}
use Rattle.superdirectory.specs.Rest.{IsOf, IsSpaceTold}
use Rattle.superdirectory.specs.Solo.{SoloView, frame_of, rest_of, with_gap, spaces_of, AreSoloSpaces, AreAlike, solo_of}
use Rattle.superdirectory.proofs.Gaps.{gap_made, gap_filled}
use Rattle.base_laws.proofs.ListLaws.{slice_get-set_same, slice_get-set_other}

inside_some : {A : Type 0} (o : Option A) (v : A) → option_map Some o ≡ Some (Some v) → o ≡ Some v
inside_some None v e = cc
inside_some (Some w) v e = (let same : w ≡ v = cc in ap (λ x. Some x) same)

never_none : {A : Type 0} (o : Option A) → option_map Some o ≡ Some None → ⊥
never_none None e = cc
never_none (Some w) e = cc

-- one space is entered
pub left_out : (solo : SoloView) (s : ℕ) → AreSoloSpaces solo → solo.entered ≡ None → s < length solo.firsts →
    AreSoloSpaces (record solo { spaces = set solo.spaces s None; entered = Some s })
left_out solo s sound none less = record {
  most = sound.most;
  spaces = length-set solo.spaces s None ∙ sound.spaces;
  hints = sound.hints;
  home = λ k v here. elim (cases_eq k s) [
    | inl same ↦
        let gone : slice_get (set solo.spaces s None) k ≡ Some None = ap (slice_get (set solo.spaces s None)) same
        ∙ slice_get-set_same solo.spaces s None (omega (arith, sound.spaces)) in cc
    | inr other ↦ let h = sound.home k v (sym (slice_get-set_other solo.spaces s k None other) ∙ here) in
        record { space = h.space; home = h.home; hint = h.hint }
  ];
  away = λ k here. elim (cases_eq k s) [
    | inl same ↦ ap (λ (j : ℕ). Some j) (sym same)
    | inr other ↦ let was : solo.entered ≡ Some k = sound.away k (sym (slice_get-set_other solo.spaces s k None other) ∙ here) in cc
  ];
}

-- it is left
pub filled_in : (solo : SoloView) (s : ℕ) (v : SpaceView) → AreSoloSpaces solo → solo.entered ≡ Some s →
    s < length solo.firsts → IsSpace v → IsOf (frame_of solo) s v →
    AreSoloSpaces (record solo { spaces = set solo.spaces s (Some v); hints = set solo.hints s (hint_of v.free); entered = None })
filled_in solo s v sound was less space home = record {
  most = sound.most;
  spaces = length-set solo.spaces s (Some v) ∙ sound.spaces;
  hints = length-set solo.hints s (hint_of v.free) ∙ sound.hints;
  home = λ k w here. elim (cases_eq k s) [
    | inl same ↦
        let there : slice_get (set solo.spaces s (Some v)) s ≡ Some (Some w) =
        sym (ap (slice_get (set solo.spaces s (Some v))) same) ∙ here in
        let put : slice_get (set solo.spaces s (Some v)) s ≡ Some (Some v) =
        slice_get-set_same solo.spaces s (Some v) (omega (arith, sound.spaces)) in
        let one : v ≡ w = cc in
        let hint : slice_get (set solo.hints s (hint_of v.free)) s ≡ Some (hint_of v.free) =
        slice_get-set_same solo.hints s (hint_of v.free) (omega (arith, sound.hints)) in
        record {
          space = subst (λ (x : SpaceView). IsSpace x) one space;
          home = subst (λ (x : SpaceView). IsOf (frame_of solo) k x) one (subst (λ (j : ℕ). IsOf (frame_of solo) j v) (sym same) home);
          hint = ap (slice_get (set solo.hints s (hint_of v.free))) same ∙ hint ∙ ap (λ (x : SpaceView). Some (hint_of x.free)) one;
        }
    | inr other ↦
        let h = sound.home k w (sym (slice_get-set_other solo.spaces s k (Some v) other) ∙ here) in
        record { space = h.space; home = h.home; hint = slice_get-set_other solo.hints s k (hint_of v.free) other ∙ h.hint }
  ];
  away = λ k here. elim (cases_eq k s) [
    | inl same ↦
        let there : slice_get (set solo.spaces s (Some v)) s ≡ Some None = sym (ap (slice_get (set solo.spaces s (Some v))) same) ∙ here in
        let put : slice_get (set solo.spaces s (Some v)) s ≡ Some (Some v) =
        slice_get-set_same solo.spaces s (Some v) (omega (arith, sound.spaces)) in cc
    | inr other ↦
        let entered : solo.entered ≡ Some k = sound.away k (sym (slice_get-set_other solo.spaces s k (Some v) other) ∙ here) in
        let one : s ≡ k = cc in absurd (other (sym one))
  ];
}

-- all of them are at home at first
pub all_home : (page pages : ℕ) (spaces : List SpaceView) → AreAlike page pages spaces →
    ((s : ℕ) (v : SpaceView) → slice_get spaces s ≡ Some v → IsSpace v) → length spaces ≤ 256 →
    AreSoloSpaces (solo_of page pages spaces)
all_home page pages spaces alike sound most = record {
  most = omega (arith, length-map spaces (λ (v : SpaceView). v.first));
  spaces = length-map spaces Some ∙ sym (length-map spaces (λ (v : SpaceView). v.first));
  hints = length-map spaces (λ (v : SpaceView). hint_of v.free) ∙ sym (length-map spaces (λ (v : SpaceView). v.first));
  home = λ s v here.
      let told : slice_get spaces s ≡ Some v = inside_some (slice_get spaces s) v (sym (slice_get-map Some spaces s) ∙ here) in
      let first : slice_get (map (λ (w : SpaceView). w.first) spaces) s ≡ Some v.first =
      slice_get-map (λ (w : SpaceView). w.first) spaces s ∙ ap (option_map (λ (w : SpaceView). w.first)) told in
      record {
        space = sound s v told;
        home = record {
          number = alike.numbered s v told;
          first = sym (get_or_from_slice_get (map (λ (w : SpaceView). w.first) spaces) s v.first 0 first);
          page = alike.sized s v told;
          pages = alike.count s v told;
        };
        hint = slice_get-map (λ (w : SpaceView). hint_of w.free) spaces s ∙ ap (option_map (λ (w : SpaceView). hint_of w.free)) told;
      };
  away = λ s here. absurd (never_none (slice_get spaces s) (sym (slice_get-map Some spaces s) ∙ here));
}

-- ---- the row of the spaces that aren't away

pub count_here : (entered : Option ℕ) (items : List SpaceView) → entered ≡ None → length (spaces_of entered items) ≡ length items
count_here entered items none = ap (λ (o : Option ℕ). length (spaces_of o items)) none ∙ length-map items Some

pub count_but_one : (entered : Option ℕ) (items : List SpaceView) (s : ℕ) → entered ≡ Some s →
    length (spaces_of entered items) ≡ length items + 1
count_but_one entered items s some =
    ap (λ (o : Option ℕ). length (spaces_of o items)) some
    ∙ length-set (map Some items ++ (get_or (map Some items) s None ∷ [])) s None
    ∙ length_push (map Some items) (get_or (map Some items) s None) ∙ ap (λ (n : ℕ). n + 1) (length-map items Some)

-- the space at s goes
pub taken_out : (entered : Option ℕ) (items rest : List SpaceView) (s : ℕ) (v : SpaceView) → entered ≡ None →
    s < length items → rest ≡ swap_remove items s v →
    with_gap (map Some rest) s ≡ set (spaces_of entered items) s None
taken_out entered items rest s v none less left =
    ap (λ (r : List SpaceView). with_gap (map Some r) s) left
    ∙ gap_made items s v less ∙ ap (λ (o : Option ℕ). set (spaces_of o items) s None) (sym none)

-- a space comes back to s
pub put_in : (entered : Option ℕ) (items now : List SpaceView) (s : ℕ) (v : SpaceView) → entered ≡ Some s →
    s ≤ length items → now ≡ swap (items ++ (v ∷ [])) s (length items) →
    map Some now ≡ set (spaces_of entered items) s (Some v)
put_in entered items now s v some most back =
    ap (map Some) back ∙ gap_filled items s v most ∙ ap (λ (o : Option ℕ). set (spaces_of o items) s (Some v)) (sym some)

-- the space that is read at s is the told one
pub read_here : (entered : Option ℕ) (items : List SpaceView) (s : ℕ) (v : SpaceView) → entered ≡ None →
    s < length items → v ≡ get_or items s v → slice_get (spaces_of entered items) s ≡ Some (Some v)
read_here entered items s v none less read =
    ap (λ (o : Option ℕ). slice_get (spaces_of o items) s) none
    ∙ slice_get-map Some items s ∙ ap (option_map Some) (slice_get_read items (length items) s v refl less read)

pub told_there : (solo : SoloView) (s : ℕ) (v : SpaceView) → IsSpaceTold (rest_of solo) s v → slice_get solo.spaces s ≡ Some (Some v)
told_there solo s v (spaces, same, here) =
    (let e : solo.spaces ≡ spaces = cc in ap (λ (l : List (Option SpaceView)). slice_get l s) e ∙ here)

pub read_hint : (hints : List Hint) (s : ℕ) (hint : Hint) → s < length hints → hint ≡ get_or hints s hint →
    slice_get (map (λ (h : Hint). h.0) hints) s ≡ Some hint.0
read_hint hints s hint less read =
    slice_get-map (λ (h : Hint). h.0) hints s
    ∙ ap (option_map (λ (h : Hint). h.0)) (slice_get_read hints (length hints) s hint refl less read)

abbrev pub record_of : ℕ → ℕ → List ℕ → List SpaceView → List ℕ → SoloView
record_of page pages firsts spaces hints =
    record { page = page; pages = pages; firsts = firsts; spaces = map Some spaces; hints = hints; entered = None }

-- what is made of a row of spaces is what the row says
pub made_of : (page pages : ℕ) (spaces : List SpaceView) (size count : ℕ) (firsts : List ℕ) (hints : List Hint)
    (v w : SpaceView) → AreAlike page pages spaces → 0 < length spaces →
    v ≡ get_or spaces 0 v → w ≡ get_or spaces 0 w → size ≡ v.page → count ≡ length w.free →
    firsts ≡ map (λ (u : SpaceView). u.first) spaces → map (λ (h : Hint). h.0) hints ≡ map (λ (u : SpaceView). hint_of u.free) spaces →
    record_of size count firsts spaces (map (λ (h : Hint). h.0) hints) ≡ solo_of page pages spaces
made_of page pages spaces size count firsts hints v w alike some first second sized counted begun known =
    let a : size ≡ page = sized ∙ alike.sized 0 v (slice_get_read spaces (length spaces) 0 v refl some first) in
    let b : count ≡ pages = counted ∙ alike.count 0 w (slice_get_read spaces (length spaces) 0 w refl some second) in
    ap (λ (n : ℕ). record_of n count firsts spaces (map (λ (h : Hint). h.0) hints)) a
    ∙ ap (λ (n : ℕ). record_of page n firsts spaces (map (λ (h : Hint). h.0) hints)) b
    ∙ ap (λ (l : List ℕ). record_of page pages l spaces (map (λ (h : Hint). h.0) hints)) begun
    ∙ ap (λ (l : List ℕ). record_of page pages (map (λ (u : SpaceView). u.first) spaces) spaces l) known
