-- One object more.
use Rattle.std.proofs.Common.{◌<◌, ◌^◌, arith, sym, subst}
use Rattle.shadow_txn.specs.declared.held.Held.{Held}
use Rattle.shadow_txn.proofs.EndingLemmas.{greatest_last-more}
use Rattle.body_txn.specs.Fields.{at_annals}
use Rattle.body_txn.proofs.end.next_stamp.Goals as goal

pub loop-one-preserved : goal.loop-one-preserved
loop-one-preserved g c =
    let one = c.one-item.result in
    let more = greatest_last-more (at_annals g.H.Annals.last) c.args.held.now c.loop-one.one-index one c.loop-one-test.true c.one-item.is in
    let below : g.H.Annals.last one.object.annals < 2 ^ 62 =
    subst (λ (h : Held _). g.H.Annals.last h.object.annals < 2 ^ 62) (sym c.one-item.is)
    (c.requires.lasts c.loop-one.one-index one c.loop-one-test.true) in
    record {
      so_far = omega (arith, more, c.max-greatest.ensures, c.last_stamp.ensures.value, c.loop-one.invariant.so_far);
      below = omega (arith, below, c.max-greatest.ensures, c.last_stamp.ensures.value, c.loop-one.invariant.below);
    }
