-- One space is a row of spaces that are alike.
use Rattle.std.proofs.Common.{◌≡◌, ℕ, zero, suc, List, [], ◌∷◌, length, map, Some, sym, ap, refl, ◌∙◌, subst}
use Rattle.std.specs.Prelude.{slice_get}
use Rattle.space_directory.specs.SpaceView.{SpaceView}
use Rattle.superdirectory.specs.Solo.{SoloView, AreAlike}
use Rattle.bench_splice.proofs.store.one_space.Goals as goal

one_of : (a v : SpaceView) (s : ℕ) → slice_get (a ∷ []) s ≡ Some v → (P : SpaceView → ℕ → Type 0) → P a 0 → P v s
one_of a v zero here P pa = let same : a ≡ v = cc in subst (λ (x : SpaceView). P x 0) same pa
one_of a v (suc s) here P pa = cc

one_alike : (a : SpaceView) → a.number ≡ 0 → AreAlike a.page (length a.free) (a ∷ [])
one_alike a number = record {
  numbered = λ s v here. one_of a v s here (λ (x : SpaceView) (k : ℕ). x.number ≡ k) number;
  sized = λ s v here. one_of a v s here (λ (x : SpaceView) (k : ℕ). x.page ≡ a.page) refl;
  count = λ s v here. one_of a v s here (λ (x : SpaceView) (k : ℕ). length x.free ≡ length a.free) refl;
}

alike : (a : SpaceView) (spaces : List SpaceView) → spaces ≡ a ∷ [] → a.number ≡ 0 → AreAlike a.page (length a.free) spaces
alike a spaces one number = subst (AreAlike a.page (length a.free)) (sym one) (one_alike a number)

pub new-requires-clause-alike : goal.new-requires-clause-alike
new-requires-clause-alike c = (
  c.args.space.page,
  length c.args.space.free,
  alike c.args.space _ c.in-Ok.ensures.items c.requires,
)

pub returns-in-Ok-new-clause-entered : goal.returns-in-Ok-new-clause-entered
returns-in-Ok-new-clause-entered c =
    ap (λ (s : SoloView). s.entered)
    (c.in-Ok-new.ensures.told c.args.space.page (length c.args.space.free) (alike c.args.space _ c.in-Ok.ensures.items c.requires))

pub returns-in-Ok-new-clause-page : goal.returns-in-Ok-new-clause-page
returns-in-Ok-new-clause-page c =
    ap (λ (s : SoloView). s.page)
    (c.in-Ok-new.ensures.told c.args.space.page (length c.args.space.free) (alike c.args.space _ c.in-Ok.ensures.items c.requires))

pub returns-in-Ok-new-clause-pages : goal.returns-in-Ok-new-clause-pages
returns-in-Ok-new-clause-pages c =
    ap (λ (s : SoloView). s.pages)
    (c.in-Ok-new.ensures.told c.args.space.page (length c.args.space.free) (alike c.args.space _ c.in-Ok.ensures.items c.requires))

pub returns-in-Ok-new-clause-firsts : goal.returns-in-Ok-new-clause-firsts
returns-in-Ok-new-clause-firsts c =
    ap (λ (s : SoloView). s.firsts)
    (c.in-Ok-new.ensures.told c.args.space.page (length c.args.space.free) (alike c.args.space _ c.in-Ok.ensures.items c.requires))
    ∙ ap (λ (vs : List SpaceView). map (λ (v : SpaceView). v.first) vs) c.in-Ok.ensures.items
