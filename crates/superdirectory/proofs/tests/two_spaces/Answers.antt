-- Two rows of 16 pages make two spaces of one size.
use Rattle.std.proofs.Common.{◌≡◌, ℕ, zero, suc, ◌+◌, List, [], ◌∷◌, length, map, take, drop, Some, sym, ap, ◌∙◌, subst, arith}
use Rattle.std.proofs.lemmas.List.{length-take, length-drop, get_or-take, get_or-drop}
use Rattle.std.specs.Prelude.{slice_get}
use Rattle.page_port.specs.Pages.{AreOf}
use Rattle.space_directory.specs.SpaceView.{SpaceView}
use Rattle.superdirectory.specs.Solo.{SoloView, AreAlike}
use Rattle.superdirectory.proofs.tests.two_spaces.Goals as goal

sized_take : (n : ℕ) (xs : List (List ℕ)) → AreOf 256 xs → AreOf 256 (take n xs)
sized_take n xs sized = λ k d less. ap length (get_or-take n xs k d (omega (arith, length-take n xs)))
    ∙ sized k d (omega (arith, length-take n xs))

sized_drop : (n : ℕ) (xs : List (List ℕ)) → AreOf 256 xs → AreOf 256 (drop n xs)
sized_drop n xs sized = λ k d less. ap length (get_or-drop n xs k d) ∙ sized (n + k) d (omega (arith, length-drop n xs))

one_of : (a b v : SpaceView) (s : ℕ) → slice_get (a ∷ b ∷ []) s ≡ Some v → (P : SpaceView → ℕ → Type 0) → P a 0 → P b 1 → P v s
one_of a b v zero here P pa pb = let same : a ≡ v = cc in subst (λ (x : SpaceView). P x 0) same pa
one_of a b v (suc zero) here P pa pb = let same : b ≡ v = cc in subst (λ (x : SpaceView). P x 1) same pb
one_of a b v (suc (suc s)) here P pa pb = cc

two_alike : (a b : SpaceView) → a.number ≡ 0 → b.number ≡ 1 → a.page ≡ 256 → b.page ≡ 256 → length a.free ≡ 16 →
    length b.free ≡ 16 → AreAlike 256 16 (a ∷ b ∷ [])
two_alike a b an bn ap' bp af bf = record {
  numbered = λ s v here. one_of a b v s here (λ (x : SpaceView) (k : ℕ). x.number ≡ k) an bn;
  sized = λ s v here. one_of a b v s here (λ (x : SpaceView) (k : ℕ). x.page ≡ 256) ap' bp;
  count = λ s v here. one_of a b v s here (λ (x : SpaceView) (k : ℕ). length x.free ≡ 16) af bf;
}

pub space_of-requires-clause-sized : goal.space_of-requires-clause-sized
space_of-requires-clause-sized c =
    subst (AreOf 256) (sym c.cut-first.ensures.front_pages)
    (sized_take 16 _ (subst (AreOf 256) (sym c.cut-head.ensures.rest_pages)
    (sized_drop 3 c.in-Some.rest.pages c.in-Some.ensures.sized)))

pub space_of-requires-2-clause-sized : goal.space_of-requires-2-clause-sized
space_of-requires-2-clause-sized c =
    subst (AreOf 256) (sym c.cut-directory.ensures.rest_pages)
    (sized_drop 1 _ (subst (AreOf 256) (sym c.cut-first.ensures.rest_pages)
    (sized_drop 16 _ (subst (AreOf 256) (sym c.cut-head.ensures.rest_pages)
    (sized_drop 3 c.in-Some.rest.pages c.in-Some.ensures.sized)))))

pub new-requires-clause-alike : goal.new-requires-clause-alike
new-requires-clause-alike c =
    let zero' = c.in-Some-space_of.ensures in
    let one' = c.in-Some-space_of-2.ensures in (
      256,
      16,
      subst (AreAlike 256 16) (sym c.in-Ok.ensures.items)
          (two_alike c.in-Some-space_of.zero c.in-Some-space_of-2.one zero'.number one'.number zero'.page one'.page
          zero'.pages one'.pages),
    )

pub returns-in-Ok-new-clause-entered : goal.returns-in-Ok-new-clause-entered
returns-in-Ok-new-clause-entered c =
    let zero' = c.in-Some-space_of.ensures in
    let one' = c.in-Some-space_of-2.ensures in
    let alike = subst (AreAlike 256 16) (sym c.in-Ok.ensures.items)
    (two_alike c.in-Some-space_of.zero c.in-Some-space_of-2.one zero'.number one'.number zero'.page one'.page
    zero'.pages one'.pages) in
    ap (λ (s : SoloView). s.entered) (c.in-Ok-new.ensures.told 256 16 alike)

pub returns-in-Ok-new-clause-pages : goal.returns-in-Ok-new-clause-pages
returns-in-Ok-new-clause-pages c =
    let zero' = c.in-Some-space_of.ensures in
    let one' = c.in-Some-space_of-2.ensures in
    let alike = subst (AreAlike 256 16) (sym c.in-Ok.ensures.items)
    (two_alike c.in-Some-space_of.zero c.in-Some-space_of-2.one zero'.number one'.number zero'.page one'.page
    zero'.pages one'.pages) in
    ap (λ (s : SoloView). s.pages) (c.in-Ok-new.ensures.told 256 16 alike)

pub returns-in-Ok-new-clause-firsts : goal.returns-in-Ok-new-clause-firsts
returns-in-Ok-new-clause-firsts c =
    let zero' = c.in-Some-space_of.ensures in
    let one' = c.in-Some-space_of-2.ensures in
    let alike = subst (AreAlike 256 16) (sym c.in-Ok.ensures.items)
    (two_alike c.in-Some-space_of.zero c.in-Some-space_of-2.one zero'.number one'.number zero'.page one'.page
    zero'.pages one'.pages) in
    let a : c.in-Some-space_of.zero.first ≡ 3 =
    omega (arith, zero'.first, c.cut-first.ensures.front, c.cut-head.ensures.rest, c.in-Some.ensures.first) in
    let b : c.in-Some-space_of-2.one.first ≡ 20 =
    omega (
      arith,
      one'.first,
      c.cut-directory.ensures.rest,
      c.cut-first.ensures.rest,
      c.cut-head.ensures.rest,
      c.in-Some.ensures.first,
    ) in
    ap (λ (s : SoloView). s.firsts) (c.in-Ok-new.ensures.told 256 16 alike) ∙ ap (map (λ (v : SpaceView). v.first)) c.in-Ok.ensures.items
    ∙ ap (λ (n : ℕ). n ∷ c.in-Some-space_of-2.one.first ∷ []) a ∙ ap (λ (n : ℕ). 3 ∷ n ∷ []) b
