-- one session more
use Rattle.std.proofs.Common.{zero-add}
use Rattle.std.proofs.lemmas.List.FromFn.{map-range_with_len_more}
use Rattle.world.specs.Start.{first_txn}
use Rattle.world.proofs.start.idle_sessions.Goals as goal

pub loop-place-preserved : goal.loop-place-preserved
loop-place-preserved c =
    let more = map-range_with_len_more (first_txn c.args.objects) 0 c.loop-place.place c.loop-place.place (zero-add c.loop-place.place) in
    cc (c.in_ok-push.ensures.items, c.loop-place.invariant, c.in_ok-new.ensures)
