-- One space is a row of spaces that are alike.
use Rattle.std.proofs.Common.{◌≡◌, ℕ, zero, suc, List, [], ◌∷◌, length, map, Some, sym, ap, ◌∙◌, subst}
use Rattle.std.specs.Prelude.{slice_get}
use Rattle.space_directory.specs.SpaceView.{SpaceView}
use Rattle.superdirectory.specs.Solo.{SoloView, AreAlike}
use Rattle.splice_rows.proofs.store.one_space.Goals as goal

one_of : (a v : SpaceView) (s : ℕ) → slice_get (a ∷ []) s ≡ Some v → (P : SpaceView → ℕ → Type 0) → P a 0 → P v s
one_of a v zero here P pa = let same : a ≡ v = cc in subst (λ (x : SpaceView). P x 0) same pa
one_of a v (suc s) here P pa = cc

one_alike : (a : SpaceView) → a.number ≡ 0 → a.page ≡ 256 → length a.free ≡ 1024 → AreAlike 256 1024 (a ∷ [])
one_alike a number page free = record {
  numbered = λ s v here. one_of a v s here (λ (x : SpaceView) (k : ℕ). x.number ≡ k) number;
  sized = λ s v here. one_of a v s here (λ (x : SpaceView) (k : ℕ). x.page ≡ 256) page;
  count = λ s v here. one_of a v s here (λ (x : SpaceView) (k : ℕ). length x.free ≡ 1024) free;
}

pub new-requires-clause-alike : goal.new-requires-clause-alike
new-requires-clause-alike c =
    let v = c.in-Some.ensures in (
      256,
      1024,
      subst (AreAlike 256 1024) (sym c.in-Ok.ensures.items) (one_alike c.in-Some.zero v.number v.page v.pages),
    )

pub returns-in-Ok-new-clause-entered : goal.returns-in-Ok-new-clause-entered
returns-in-Ok-new-clause-entered c =
    let v = c.in-Some.ensures in
    let alike = subst (AreAlike 256 1024) (sym c.in-Ok.ensures.items) (one_alike c.in-Some.zero v.number v.page v.pages) in
    ap (λ (s : SoloView). s.entered) (c.in-Ok-new.ensures.told 256 1024 alike)

pub returns-in-Ok-new-clause-page : goal.returns-in-Ok-new-clause-page
returns-in-Ok-new-clause-page c =
    let v = c.in-Some.ensures in
    let alike = subst (AreAlike 256 1024) (sym c.in-Ok.ensures.items) (one_alike c.in-Some.zero v.number v.page v.pages) in
    ap (λ (s : SoloView). s.page) (c.in-Ok-new.ensures.told 256 1024 alike)

pub returns-in-Ok-new-clause-pages : goal.returns-in-Ok-new-clause-pages
returns-in-Ok-new-clause-pages c =
    let v = c.in-Some.ensures in
    let alike = subst (AreAlike 256 1024) (sym c.in-Ok.ensures.items) (one_alike c.in-Some.zero v.number v.page v.pages) in
    ap (λ (s : SoloView). s.pages) (c.in-Ok-new.ensures.told 256 1024 alike)

pub returns-in-Ok-new-clause-firsts : goal.returns-in-Ok-new-clause-firsts
returns-in-Ok-new-clause-firsts c =
    let v = c.in-Some.ensures in
    let alike = subst (AreAlike 256 1024) (sym c.in-Ok.ensures.items) (one_alike c.in-Some.zero v.number v.page v.pages) in
    ap (λ (s : SoloView). s.firsts) (c.in-Ok-new.ensures.told 256 1024 alike)
    ∙ (ap (λ (vs : List SpaceView). map (λ (v : SpaceView). v.first) vs) c.in-Ok.ensures.items
    ∙ ap (λ (n : ℕ). n ∷ []) v.first)
