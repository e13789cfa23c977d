-- A row of 16 pages makes one space.
use Rattle.std.proofs.Common.{◌≡◌, ℕ, zero, suc, ◌+◌, List, [], ◌∷◌, length, map, drop, Some, sym, ap, ◌∙◌, subst}
use Rattle.std.proofs.Common.{arith}
use Rattle.std.proofs.lemmas.List.{length-drop, get_or-drop}
use Rattle.std.specs.Prelude.{slice_get}
use Rattle.page_port.specs.Pages.{AreOf}
use Rattle.space_directory.specs.SpaceView.{SpaceView}
use Rattle.superdirectory.specs.Solo.{SoloView, AreAlike}
use Rattle.part_store.proofs.tests.one_space.Goals as goal

sized_drop : (n : ℕ) (xs : List (List ℕ)) → AreOf 256 xs → AreOf 256 (drop n xs)
sized_drop n xs sized = λ k d less. ap length (get_or-drop n xs k d) ∙ sized (n + k) d (omega (arith, length-drop n xs))

one_of : (a v : SpaceView) (s : ℕ) → slice_get (a ∷ []) s ≡ Some v → (P : SpaceView → ℕ → Type 0) → P a 0 → P v s
one_of a v zero here P pa = let same : a ≡ v = cc in subst (λ (x : SpaceView). P x 0) same pa
one_of a v (suc s) here P pa = cc

one_alike : (a : SpaceView) → a.number ≡ 0 → a.page ≡ 256 → length a.free ≡ 16 → AreAlike 256 16 (a ∷ [])
one_alike a number page free = record {
  numbered = λ s v here. one_of a v s here (λ (x : SpaceView) (k : ℕ). x.number ≡ k) number;
  sized = λ s v here. one_of a v s here (λ (x : SpaceView) (k : ℕ). x.page ≡ 256) page;
  count = λ s v here. one_of a v s here (λ (x : SpaceView) (k : ℕ). length x.free ≡ 16) free;
}

pub space_of-requires-clause-sized : goal.space_of-requires-clause-sized
space_of-requires-clause-sized c =
    subst (AreOf 256) (sym c.cut-head.ensures.rest_pages) (sized_drop 3 c.in-Some.rest.pages c.in-Some.ensures.sized)

pub new-requires-clause-alike : goal.new-requires-clause-alike
new-requires-clause-alike c =
    let v = c.in-Some-space_of.ensures in (
      256,
      16,
      subst (AreAlike 256 16) (sym c.in-Ok.ensures.items) (one_alike c.in-Some-space_of.zero v.number v.page v.pages),
    )

pub returns-in-Ok-new-clause-entered : goal.returns-in-Ok-new-clause-entered
returns-in-Ok-new-clause-entered c =
    let v = c.in-Some-space_of.ensures in
    let alike = subst (AreAlike 256 16) (sym c.in-Ok.ensures.items) (one_alike c.in-Some-space_of.zero v.number v.page v.pages) in
    ap (λ (s : SoloView). s.entered) (c.in-Ok-new.ensures.told 256 16 alike)

pub returns-in-Ok-new-clause-pages : goal.returns-in-Ok-new-clause-pages
returns-in-Ok-new-clause-pages c =
    let v = c.in-Some-space_of.ensures in
    let alike = subst (AreAlike 256 16) (sym c.in-Ok.ensures.items) (one_alike c.in-Some-space_of.zero v.number v.page v.pages) in
    ap (λ (s : SoloView). s.pages) (c.in-Ok-new.ensures.told 256 16 alike)

pub returns-in-Ok-new-clause-firsts : goal.returns-in-Ok-new-clause-firsts
returns-in-Ok-new-clause-firsts c =
    let v = c.in-Some-space_of.ensures in
    let alike = subst (AreAlike 256 16) (sym c.in-Ok.ensures.items) (one_alike c.in-Some-space_of.zero v.number v.page v.pages) in
    ap (λ (s : SoloView). length s.firsts) (c.in-Ok-new.ensures.told 256 16 alike)
    ∙ ap (λ (vs : List SpaceView). length (map (λ (v : SpaceView). v.first) vs)) c.in-Ok.ensures.items
