-- Nothing is held, and no object has an end.
use Rattle.std.proofs.Common.{◌≡◌, Some, length, ap, ◌∙◌, arith}
use Rattle.std.proofs.lemmas.List.{length-map}
use Rattle.object_body.specs.declared.object.Object.{Object}
use Rattle.shadow_txn.specs.Transaction.{Transaction}
use Rattle.txn_rows.proofs.SessionLemmas.{at-first}
use Rattle.txn_rows.proofs.session.Session.new.Goals as goal

pub invariant_of-result : goal.invariant_of-result
invariant_of-result g c =
    let objects = c.args.objects.items in
    let txn = c.in_ok-txn.ensures in
    let shelf = c.in-Ok.ensures.ok in
    let slots : length c.in-Ok.shelf ≡ length objects = ap length shelf ∙ length-map objects Some in
    let told = ap (λ (t : Transaction (Object g.row.B.Denot g.row.H.Denot)). t.objects) txn in
    at-first _ _ _ _ _ c.args.geometry.now c.in_ok-txn.txn objects c.in-Ok.shelf _ _
    (ap (λ (t : Transaction (Object g.row.B.Denot g.row.H.Denot)). t.held) txn) shelf
    (omega (arith, slots, told, c.len.ensures, c.args.objects.ok.0)) c.requires.fresh c.requires.ready
    (omega (arith, c.page.ensures, c.if-page.false, c.page-2.ensures.exact)) c.page-2.ensures.range.spaces_low
