-- One space more at the end of a row.
use Rattle.std.proofs.Common.{◌≡◌, ℕ, zero, suc, ◌+◌, List, [], ◌∷◌, ◌++◌, length, Some, sym, ap, ◌∙◌, subst, arith}
use Rattle.std.specs.Prelude.{slice_get}
use Rattle.std.proofs.lemmas.List.{length-take, length-drop, length-replicate, length_push}
use Rattle.file_port.specs.Files.{untold}
use Rattle.space_directory.specs.SpaceView.{SpaceView}
use Rattle.superdirectory.specs.Solo.{AreAlike}
use Rattle.full_size.proofs.spaces.all_spaces.Goals as goal

-- what holds of each space of a row, and of one more at its end, holds of each of them all
of_push : (spaces : List SpaceView) (v w : SpaceView) (s : ℕ) → slice_get (spaces ++ v ∷ []) s ≡ Some w → (P : SpaceView → ℕ → Type 0) →
    ((k : ℕ) (u : SpaceView) → slice_get spaces k ≡ Some u → P u k) → P v (length spaces) → P w s
of_push [] v w zero here P each last = let same : v ≡ w = cc in subst (λ (x : SpaceView). P x 0) same last
of_push [] v w (suc s) here P each last = cc
of_push (u ∷ us) v w zero here P each last = each 0 w here
of_push (u ∷ us) v w (suc s) here P each last =
    of_push us v w s here (λ (x : SpaceView) (k : ℕ). P x (suc k)) (λ k x at. each (suc k) x at) last

alike_push : (page pages : ℕ) (spaces : List SpaceView) (v : SpaceView) → AreAlike page pages spaces →
    v.number ≡ length spaces → v.page ≡ page → length v.free ≡ pages → AreAlike page pages (spaces ++ v ∷ [])
alike_push page pages spaces v alike number sized count = record {
  numbered = λ s w here. of_push spaces v w s here (λ (x : SpaceView) (k : ℕ). x.number ≡ k) alike.numbered number;
  sized = λ s w here. of_push spaces v w s here (λ (x : SpaceView) (k : ℕ). x.page ≡ page) alike.sized sized;
  count = λ s w here. of_push spaces v w s here (λ (x : SpaceView) (k : ℕ). length x.free ≡ pages) alike.count count;
}

count_of : (n : ℕ) → length (untold n) ≡ n
count_of n = length-replicate n []

pub full_space-requires : goal.full_space-requires
full_space-requires c =
    let had = c.loop-s.rest.count in
    let cut = c.cut-pages.result.count in
    omega (
      arith,
      ap (length {A = List ℕ}) c.cut-pages.ensures.front_pages,
      length-take 16 (untold had),
      count_of had,
      count_of cut,
      c.loop-s.invariant.left,
      c.loop-s-test.true,
    )

pub loop-s-preserved : goal.loop-s-preserved
loop-s-preserved c =
    let had = c.loop-s.rest.count in
    let left = c.cut-pages.new.self.count in
    let kept = c.loop-s.invariant in
    let items = c.in_ok-push.ensures.items in
    let space = c.in_ok-space.ensures in
    record {
      left = omega (
        arith,
        ap (length {A = List ℕ}) c.cut-pages.ensures.rest_pages,
        length-drop 16 (untold had),
        count_of had,
        count_of left,
        kept.left,
        c.loop-s-test.true,
      );
      count = ap length items ∙ length_push c.loop-s.spaces.items c.in_ok-space.space ∙ ap (λ (n : ℕ). n + 1) kept.count;
      alike = subst (AreAlike 256 16) (sym items)
          (alike_push 256 16 c.loop-s.spaces.items c.in_ok-space.space kept.alike (space.number ∙ sym kept.count) space.page space.pages);
    }
