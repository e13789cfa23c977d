-- Page 3 is a data page, and of a file nothing more is asked.
use Rattle.std.proofs.Common.{◌≡◌, ℕ, ◌*◌, ◌^◌, ◌≤◌, false, Some, IsTrue, refl, sym, subst, arith}
use Rattle.geometry_model.specs.Numbers.{Numbers}
use Rattle.geometry_model.specs.Pages.{place, is_data_page}
use Rattle.span_store.specs.Held.{Held, has}
use Rattle.object_body.specs.Stored.{IsLoad}
use Rattle.body_double.specs.Kept.{fits_all}
use Rattle.body_double.proofs.tests.an_object_is_made_of_a_page_and_gives_it_back.Goals as goal

abbrev small : Numbers
small = record { page = 256; order = 4; spaces = 1; catalog = 1; threshold = 2 }

three : IsTrue (is_data_page small 3)
unfolding place
three = refl

loads : (n : Numbers) (held : Held) → n ≡ small → ((page : ℕ) → IsTrue (has held page) → page ≡ 3) →
    IsLoad false (fits_all n) n (Some (record { root = record { height = 1; page = 3; length = 5 }; threshold = 1 })) held
loads n held same only = record {
  threshold = record { low = omega arith; high = subst (λ (m : Numbers). 2 * 1 ≤ 2 ^ m.order) (sym same) (omega arith) };
  on_data = λ page there. subst (λ (q : ℕ). IsTrue (is_data_page n q)) (sym (only page there))
      (subst (λ (m : Numbers). IsTrue (is_data_page m 3)) (sym same) three);
  sized = λ tell. absurd cc;
  told = λ tell. absurd cc;
}

pub load_and_unload-given-requires : goal.load_and_unload-given-requires
load_and_unload-given-requires g c = record {
  load = loads c.in-Some.geometry c.in_ok-held.held c.in-Some.ensures c.in_ok-held.ensures;
}
