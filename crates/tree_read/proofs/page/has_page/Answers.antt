-- A run of one page is that page.
use Rattle.std.proofs.Common.{◌≡◌, ℕ, ◌↔◌, Bool, sym, ◌∙◌, inl, inr, arith}
use Rattle.std.specs.Prelude.{IsTrue}
use Rattle.std.proofs.lemmas.Bool.{cases_Bool, false_from_ne_true, true≢false}
use Rattle.span_store.specs.Held.{HoldsRun, Held, has}
use Rattle.span_store.proofs.Runs.{run_of_one}
use Rattle.tree_read.proofs.page.has_page.Goals as goal

same : (held : Held) (page : ℕ) (b : Bool) → (IsTrue b ↔ HoldsRun held page 1) → b ≡ has held page
same held page b run = elim (cases_Bool (has held page)) [
  | inl is ↦ run.1 (run_of_one held page is) ∙ sym is
  | inr none ↦ false_from_ne_true b (λ b_is. true≢false (sym (run.0 b_is page (omega arith) (omega arith)) ∙ none)) ∙ sym none
]

pub returns : goal.returns
returns g c = same c.args.held.now c.args.page c.holds.result c.holds.ensures
