-- The new nodes on their pages, or all pages given back.
use Rattle.std.proofs.Common.{◌≡◌, ℕ, List, Result, ap, refl, sym, ◌∙◌}
use Rattle.std.specs.Prelude.{Err}
use Rattle.superdirectory.specs.Rest.{count}
use Rattle.superdirectory.specs.Trace.{AreEnters}
use Rattle.tree_splice.specs.declared.failure.SpliceFail.{SpliceFail}
use Rattle.tree_splice.specs.declared.failure.SpliceFail.TheVariants.{NoSpace}
use Rattle.tree_splice.proofs.AnswerLemmas.{answered-err}
use Rattle.tree_splice.proofs.AskLemmas.{low-then}
use Rattle.tree_splice.proofs.FreshLemmas.{numbers-same}
use Rattle.tree_splice.proofs.making.make.Goals as goal

pub returns-in-Ok-clause-told : goal.returns-in-Ok-clause-told
returns-in-Ok-clause-told g c = λ views told same.
    let t = c.in-Ok.ensures.told views told same in
    (t.0, sym (numbers-same t.0 c.fill.new.pages.pages t.1), t.3)

pub returns-in-Err-clause-told : goal.returns-in-Err-clause-told
returns-in-Err-clause-told g c = λ views told same.
    let t = c.in-Err.ensures.told views told same in
    answered-err {A = List ℕ} (λ (pages : List ℕ). pages) g.P.S.Span.tells (g.L.Hints.rest c.args.latches.now).frame views c.args.start
    c.args.want t.0 c.fill.new.pages.pages c.in-Err.fail
    (g.L.Hints.rest c.fill.new.latches) (g.L.Hints.rest c.give_back.new.latches) c.fill.ensures.rest.frame same c.fill.ensures.home t.1
    (λ bad. t.2 (ap (λ (e : SpliceFail). Err e) bad)) t.3 c.give_back.ensures.told

refused : {A : Type 0} (x y : SpliceFail) (r : Result A SpliceFail) → r ≡ Err x → r ≡ Err y → x ≡ y
refused x y r one two = let same = sym one ∙ two in cc

pub returns-in-Err-clause-low : goal.returns-in-Err-clause-low
returns-in-Err-clause-low g c =
    low-then (count (g.L.Hints.rest c.args.latches.now)) _ _ AreEnters (g.L.Hints.trace c.args.latches.now)
    (g.L.Hints.trace c.fill.new.latches)
    (g.L.Hints.trace c.give_back.new.latches) (λ bad. ap (λ (e : SpliceFail). Err e) (refused c.in-Err.fail NoSpace _ refl bad))
    c.in-Err.ensures.low
    c.give_back.ensures.trace
