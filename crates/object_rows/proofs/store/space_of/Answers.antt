-- One space is all of a store with one space.
use Rattle.std.proofs.Common.{◌≡◌, ℕ, zero, suc, ◌^◌, List, [], ◌∷◌, length, Some, refl, sym, subst, arith, ◌∙◌, ap}
use Rattle.std.specs.Prelude.{slice_get, slice_index}
use Rattle.geometry_model.specs.Numbers.{Numbers}
use Rattle.geometry_model.specs.Pages.{first_page}
use Rattle.space_directory.specs.SpaceView.{SpaceView}
use Rattle.space_directory.specs.Opening.{IsRead}
use Rattle.superdirectory.specs.Solo.{SoloView, AreAlike, rest_of, solo_of}
use Rattle.object_body.specs.Places.{IsReady}
use Rattle.object_rows.specs.Store.{numbers_of}
use Rattle.object_rows.proofs.store.space_of.Goals as goal

one_of : (v w : SpaceView) (s : ℕ) → slice_get (v ∷ []) s ≡ Some w → (w ≡ v) × (s ≡ 0)
one_of v w zero here = (cc, refl)
one_of v w (suc s) here = absurd cc

one_alike : (pages : ℕ) (v : SpaceView) → v.number ≡ 0 → v.page ≡ 256 → length v.free ≡ pages → AreAlike 256 pages (v ∷ [])
one_alike pages v number page count = record {
  numbered = λ s w here.
      let one = one_of v w s here in ap (λ (x : SpaceView). x.number) one.0 ∙ number ∙ sym one.1;
  sized = λ s w here. ap (λ (x : SpaceView). x.page) (one_of v w s here).0 ∙ page;
  count = λ s w here. ap (λ (x : SpaceView). length x.free) (one_of v w s here).0 ∙ count;
}

one_ready : (order : ℕ) (v : SpaceView) → v.first ≡ 3 → IsReady (numbers_of order) (rest_of (solo_of 256 (2 ^ order) (v ∷ [])))
one_ready order v first = record {
  store = record {
    page = refl;
    pages = refl;
    number = refl;
    firsts = λ s less.
        let none : s ≡ 0 = omega arith in
        let there : v.first ≡ first_page (numbers_of order) 0 = omega (arith, first) in
        subst (λ (k : ℕ). slice_index (v.first ∷ []) k ≡ first_page (numbers_of order) k) (sym none) there;
  };
  none = refl;
}

-- the space that was read is alike to itself
one_read : (order : ℕ) (page : List ℕ) (n : Numbers) (start : ℕ) (held : List (List ℕ)) (v : SpaceView) → n ≡ numbers_of order →
    IsRead page n.page 0 n.order start held v → AreAlike 256 (2 ^ order) (v ∷ [])
one_read order page n start held v same read = one_alike (2 ^ order) v read.number
    (read.page_size ∙ ap (λ (n : Numbers). n.page) same) (read.count ∙ ap (λ (n : Numbers). 2 ^ n.order) same)

pub new-requires-clause-alike : goal.new-requires-clause-alike
new-requires-clause-alike g c =
    let of = c.requires.numbers in (
      256,
      2 ^ of.0,
      subst (AreAlike 256 (2 ^ of.0)) (sym c.in_ok-spaces.ensures.items) (one_read of.0 _ _ _ _ _ of.1 c.in-Ok.ensures.read),
    )

pub returns-in-Ok-new : goal.returns-in-Ok-new
returns-in-Ok-new g c =
    let v = c.in-Ok.read.space in
    let of = c.requires.numbers in
    let items = c.in_ok-spaces.ensures.items in
    let alike = one_read of.0 _ _ _ _ _ of.1 c.in-Ok.ensures.read in
    let same : c.in-Ok-new.solo ≡ solo_of 256 (2 ^ of.0) (v ∷ []) =
    c.in-Ok-new.ensures.told 256 (2 ^ of.0) (subst (AreAlike 256 (2 ^ of.0)) (sym items) alike) ∙ ap (solo_of 256 (2 ^ of.0)) items in
    let first : v.first ≡ 3 = c.in-Ok.ensures.read.first ∙ c.requires.first in
    subst (λ (n : Numbers). IsReady n (rest_of c.in-Ok-new.solo)) (sym of.1)
    (subst (λ (solo : SoloView). IsReady (numbers_of of.0) (rest_of solo)) (sym same) (one_ready of.0 v first))
