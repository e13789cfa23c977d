use Rattle.std.proofs.Common.{◌∙◌, refl, sym}
use Rattle.std.proofs.lemmas.Option.{slice_get_read}
use Rattle.shadow_txn.proofs.HeldLemmas.{held_object-more, held_object-place}
use Rattle.shadow_txn.proofs.held.place_of.Goals as goal

pub loop-i-preserved : goal.loop-i-preserved
loop-i-preserved g c =
    held_object-more c.args.held.now c.loop-i.i c.args.o c.index-held-i.result c.loop-i-test.true c.index-held-i.is
    c.loop-i.invariant (λ e. c.if-from-o.false (c.from.ensures ∙ e))

pub returns-then-from-o-clause-variant : goal.returns-then-from-o-clause-variant
returns-then-from-o-clause-variant g c =
    let h = c.index-held-i.result in
    let found = slice_get_read c.args.held.now _ c.loop-i.i h refl c.loop-i-test.true c.index-held-i.is in
    rw (held_object-place c.args.held.now c.args.o c.loop-i.i h found (sym c.from.ensures ∙ c.if-from-o.true) c.loop-i.invariant) refl
