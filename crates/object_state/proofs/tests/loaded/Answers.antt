-- Pages 3 and 4 are data pages, and of a file nothing more is asked.
use Rattle.std.proofs.Common.{◌≡◌, ℕ, ◌*◌, ◌^◌, ◌≤◌, false, Some, IsTrue, refl, sym, subst, arith, inl, inr}
use Rattle.std.proofs.lemmas.Bool.{cases_eq}
use Rattle.geometry_model.specs.Numbers.{Numbers}
use Rattle.geometry_model.specs.Pages.{place, is_data_page}
use Rattle.span_store.specs.Held.{Held, has}
use Rattle.object_body.specs.Stored.{IsLoad}
use Rattle.object_state.specs.Fits.{may_stand}
use Rattle.object_state.proofs.tests.loaded.Goals as goal

abbrev small : Numbers
small = record { page = 256; order = 4; spaces = 1; catalog = 1; threshold = 2 }

three : IsTrue (is_data_page small 3)
unfolding place
three = refl

four : IsTrue (is_data_page small 4)
unfolding place
four = refl

on_data : (page : ℕ) → (3 ≤ page) × (page ≤ 4) → IsTrue (is_data_page small page)
on_data page within = elim (cases_eq page 3) [
  | inl first ↦ subst (λ (q : ℕ). IsTrue (is_data_page small q)) (sym first) three
  | inr apart ↦
      let last : page ≡ 4 = omega (arith, within.0, within.1, apart) in
      subst (λ (q : ℕ). IsTrue (is_data_page small q)) (sym last) four
]

loads : (n : Numbers) (held : Held) → n ≡ small → ((page : ℕ) → IsTrue (has held page) → (3 ≤ page) × (page ≤ 4)) →
    IsLoad false (may_stand n) n (Some (record { root = record { height = 1; page = 3; length = 5 }; threshold = 1 })) held
loads n held same only = record {
  threshold = record { low = omega arith; high = subst (λ (m : Numbers). 2 * 1 ≤ 2 ^ m.order) (sym same) (omega arith) };
  on_data = λ page there. subst (λ (m : Numbers). IsTrue (is_data_page m page)) (sym same) (on_data page (only page there));
  sized = λ tell. absurd cc;
  told = λ tell. absurd cc;
}

pub take_pages-requires-clause-load : goal.take_pages-requires-clause-load
take_pages-requires-clause-load c = loads c.in_ok-geometry.geometry c.args.held c.in_ok-geometry.ensures c.requires
