-- The size is 0 just where no page is in the set.
use Rattle.std.proofs.Common.{◌≡◌, ℕ, Bool, false, IsTrue, sym, subst, ◌∙◌}
use Rattle.std.proofs.lemmas.Bool.{eq-eqb, eqb-true}
use Rattle.std.specs.Prelude.{◌↔◌, nat_eq}
use Rattle.page_set.specs.Members.{count_all}
use Rattle.page_set.specs.Words.{PageSetView, in_set, in_words}
use Rattle.page_set.proofs.Counts.{count_all-none, none_at_all}
use Rattle.page_set.proofs.SetLaws.{IsBounded}
use Rattle.page_set.proofs.page_set.PageSet.is_empty.Goals as goal

nothing : (has : ℕ → Bool) (size : ℕ) → size ≡ count_all has → IsBounded has → IsTrue (nat_eq size 0) ↔ ((page : ℕ) → has page ≡ false)
nothing has size counted bound = (
  λ t. none_at_all has bound (sym counted ∙ eqb-true size 0 t),
  λ none. eq-eqb size 0 (counted ∙ count_all-none has none),
)

pub returns : goal.returns
returns c =
    subst (λ (v : PageSetView). IsTrue (nat_eq c.self.inside.size 0) ↔ ((page : ℕ) → in_set v page ≡ false)) c.self.view_is
    (nothing (in_words c.self.inside.words) c.self.inside.size c.self.invariant.0 c.self.invariant.1)
