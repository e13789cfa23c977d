-- What stays true of told spaces when one of them changes: each is a space, on its run.
use Rattle.std.proofs.Common.{inl, inr, ◌≡◌, ℕ, ◌+◌, ◌-◌, ◌<◌, ◌≤◌, false, List, [], ◌∷◌, length, map, set, Some, refl, sym, ap}
use Rattle.std.proofs.Common.{◌∙◌, subst, arith}
use Rattle.std.proofs.lemmas.Bool.{cases_eq}
use Rattle.std.proofs.lemmas.List.{length-set}
use Rattle.std.proofs.lemmas.Option.{slice_get_within}
use Rattle.std.specs.Prelude.{slice_get, slice_set}
use Rattle.base_laws.proofs.ListLaws.{slice_get-set_same, slice_get-set_other}
use Rattle.base_laws.proofs.OptionLaws.{some-inner}
use Rattle.block_model.proofs.Changes.{length-with_run}
use Rattle.space_directory.specs.SpaceView.{SpaceView, IsSpace, after_grant, after_give, after_lock, after_unlock}
use Rattle.space_directory.proofs.Spaces.{granted_sound, given_sound, locked_sound, unlocked_sound}
use Rattle.superdirectory.specs.Rest.{Frame, IsOf, Rest}
use Rattle.superdirectory.specs.Grants.{AreTold, IsRunIn}
use Rattle.superdirectory.proofs.Spots.{given_home, locked_home, unlocked_home}

-- what holds of each told space and of the one that takes a place holds of each afterwards
pub each_changed : (P : ℕ → SpaceView → Type 0) (views : List SpaceView) (s : ℕ) (w : SpaceView) →
    ((k : ℕ) (v : SpaceView) → slice_get views k ≡ Some v → P k v) → P s w →
    (k : ℕ) (v : SpaceView) → slice_get (slice_set views s w) k ≡ Some v → P k v
each_changed P views s w all here k v found = elim (cases_eq k s) [
  | inl same ↦
      let less : k < length views = omega (arith, slice_get_within (set views s w) k v found, length-set views s w) in
      let there : slice_get (set views s w) s ≡ Some w = slice_get-set_same views s w (omega arith) in
      let one : w ≡ v = some-inner w v (sym there ∙ ap (slice_get (set views s w)) (sym same) ∙ found) in
      subst (λ (x : SpaceView). P k x) one (subst (λ (i : ℕ). P i w) (sym same) here)
  | inr other ↦ all k v (sym (slice_get-set_other views s k w other) ∙ found)
]

-- a run of a space's place lies in the space
pub run_fits : (frame : Frame) (s first n : ℕ) (v : SpaceView) → IsRunIn frame s first n → IsOf frame s v →
    (first - v.first) + n ≤ length v.free
run_fits frame s first n v run home = omega (arith, run.from, run.to, home.first, home.pages)

-- a changed space is one, on its run
pub granted_stays : (frame : Frame) (s at n : ℕ) (v : SpaceView) → at + n ≤ length v.free → IsSpace v → IsOf frame s v →
    IsSpace (after_grant v at n) × IsOf frame s (after_grant v at n)
granted_stays frame s at n v fits sound home = (
  granted_sound v at n sound fits,
  record {
    number = home.number;
    first = home.first;
    page = home.page;
    pages = length-with_run v.free at n false fits ∙ home.pages;
  },
)

pub given_stays : (frame : Frame) (s first : ℕ) (pages : List (List ℕ)) (v : SpaceView) → IsRunIn frame s first (length pages) →
    IsSpace v → IsOf frame s v → IsSpace (after_give v (first - v.first) pages) × IsOf frame s (after_give v (first - v.first) pages)
given_stays frame s first pages v run sound home = (
  given_sound v (first - v.first) pages sound (run_fits frame s first (length pages) v run home),
  given_home frame s first pages v run home,
)

pub locked_stays : (frame : Frame) (s first n : ℕ) (v : SpaceView) → IsRunIn frame s first n → IsSpace v → IsOf frame s v →
    IsSpace (after_lock v (first - v.first) n) × IsOf frame s (after_lock v (first - v.first) n)
locked_stays frame s first n v run sound home = (
  locked_sound v (first - v.first) n sound (run_fits frame s first n v run home),
  locked_home frame s first n v home,
)

pub unlocked_stays : (frame : Frame) (s first n : ℕ) (v : SpaceView) → IsRunIn frame s first n → IsSpace v → IsOf frame s v →
    IsSpace (after_unlock v (first - v.first) n) × IsOf frame s (after_unlock v (first - v.first) n)
unlocked_stays frame s first n v run sound home = (
  unlocked_sound v (first - v.first) n sound (run_fits frame s first n v run home),
  unlocked_home frame s first n v home,
)

some-lists : (a b : List SpaceView) → map Some a ≡ map Some b → a ≡ b
some-lists [] [] same = refl
some-lists [] (y ∷ b) same = cc
some-lists (x ∷ a) [] same = cc
some-lists (x ∷ a) (y ∷ b) same =
    (let first : x ≡ y = cc in let rest : map Some a ≡ map Some b = cc in
    ap (λ (v : SpaceView). v ∷ a) first ∙ ap (λ (vs : List SpaceView). y ∷ vs) (some-lists a b rest))

-- the told spaces are one list
pub told-same : (rest : Rest) (a b : List SpaceView) → AreTold rest a → AreTold rest b → a ≡ b
told-same rest a b first second = some-lists a b (some-inner (map Some a) (map Some b) (sym first ∙ second))
