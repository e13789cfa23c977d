-- At first nothing is held, and no page has an owner.
use Rattle.std.proofs.Common.{◌≡◌, ℕ, true, List, [], is_some, length, replicate, sym, ap, subst, ◌∙◌, arith}
use Rattle.std.specs.Prelude.{IfSome, IfOk, Result, Ok}
use Rattle.std.proofs.lemmas.Bool.{false≢true}
use Rattle.geometry_model.specs.Numbers.{Numbers, pages}
use Rattle.span_store.specs.Held.{AllSized, Held, HeldSpan, page_in}
use Rattle.image_check.specs.declared.owner.Owner.TheVariants.{Free}
use Rattle.image_check.specs.Owners.{IsMarked, KeptWalk}
use Rattle.image_check.specs.Shares.{HoldsData}
use Rattle.image_check.proofs.GivenLemmas.{below-free}
use Rattle.image_check.proofs.tests.opened.Goals as goal

none-sized : (size : ℕ) (held : Held) → held.spans ≡ [] → AllSized true size held
none-sized size held none told q =
    subst (λ (spans : List HeldSpan). IfSome (page_in spans q) (λ page. length page ≡ size)) (sym none) tt

none-data : (n : Numbers) (held : Held) → held.spans ≡ [] → HoldsData n held
none-data n held none q some =
    absurd (false≢true (sym (ap (λ (spans : List HeldSpan). is_some (page_in spans q)) none) ∙ some))

-- what holds of a success holds of its value
of-value : {A E : Type 0} (P : A → Type 0) (r : Result A E) (a : A) → r ≡ Ok a → IfOk r P → P a
of-value {A} {E} P r a is fact = subst (λ (x : Result A E). IfOk x P) is fact

pub loop-page-init : goal.loop-page-init
loop-page-init g c =
    let n = c.args.geometry.now in
    let held = c.new-held.result in
    let walk = c.expect-walk.result in
    let none = c.new-held.ensures.nothing in
    let long : length held.spans ≡ 0 = ap (length {A = HeldSpan}) none in
    record {
      rest = c.requires;
      sized = none-sized 256 held none;
      marked = of-value (IsMarked n held) c.new.result walk c.expect-walk.ensures (c.new.ensures.marked held none);
      below = below-free (pages n) walk
          (of-value (λ (w : KeptWalk). w.owners ≡ replicate (pages n) Free) c.new.result walk c.expect-walk.ensures c.new.ensures.owners);
      data_pages = none-data n held none;
      count = omega (arith, long);
    }
