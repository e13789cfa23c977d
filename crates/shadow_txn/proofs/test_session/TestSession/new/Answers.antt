-- Nothing is held, and no object has an end.
use Rattle.std.proofs.Common.{◌≡◌, [], Some, length, map, refl, sym, ap, ◌∙◌, subst, arith}
use Rattle.std.proofs.lemmas.List.{length-map}
use Rattle.object_locks.specs.Shelving.{Terms}
use Rattle.object_locks.specs.Solo.{AreSuited}
use Rattle.shadow_txn.specs.declared.plain_object.PlainObject.{PlainObject}
use Rattle.shadow_txn.specs.Objects.{IsLegalObject}
use Rattle.shadow_txn.specs.Transaction.{Transaction}
use Rattle.shadow_txn.proofs.TestSessionLemmas.{serves-solo, agree-none, fresh_suited}
use Rattle.shadow_txn.proofs.test_session.TestSession.new.Goals as goal

pub invariant_of-result : goal.invariant_of-result
invariant_of-result g c =
    let objects = c.args.objects.items in
    let txn = c.in_ok-txn.ensures in
    let shelf = c.in-Ok.ensures.ok in
    let terms : Terms = record { frame = []; opened = map (λ (x : PlainObject g.row.H.Denot). x.committed) objects } in
    let slots : length c.in-Ok.shelf ≡ length objects = ap length shelf ∙ length-map objects Some in
    let told : c.in_ok-txn.txn.objects ≡ c.len.result = ap (λ (t : Transaction (PlainObject g.row.H.Denot)). t.objects) txn in
    let none : c.in_ok-txn.txn.held ≡ [] = ap (λ (t : Transaction (PlainObject g.row.H.Denot)). t.held) txn in (
      serves-solo g.H.Annals.told g.H.Annals.last c.in_ok-txn.txn c.in-Ok.shelf none (omega (
        arith,
        slots,
        told,
        c.len.ensures,
        c.args.objects.ok.0,
      )),
      (
        terms,
        subst (λ xs. AreSuited (λ _. []) (IsLegalObject g.H.Annals.told) xs terms) (sym shelf)
            (fresh_suited g.H.Annals.told objects c.requires.new),
        agree-none g.H.Annals.tells g.H.Annals.told terms c.in_ok-txn.txn none refl,
      ),
    )
