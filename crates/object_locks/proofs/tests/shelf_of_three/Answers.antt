-- A new shelf has all its objects home.
use Rattle.std.proofs.Common.{Some, IsSome, refl, ◌∙◌, sym}
use Rattle.std.proofs.lemmas.List.{length-map}
use Rattle.std.proofs.lemmas.List.Elements.{All-map}
use Rattle.object_locks.proofs.tests.shelf_of_three.Goals as goal

pub returns-in-Ok : goal.returns-in-Ok
returns-in-Ok c =
    let tokens = c.in_ok-tokens.tokens in
    let three = length-map tokens.items Some ∙ sym tokens.ok.0 ∙ c.in_ok-tokens.ensures in
    rw c.in-Ok.ensures.ok (three, All-map IsSome Some tokens.items (λ k d within. refl))
