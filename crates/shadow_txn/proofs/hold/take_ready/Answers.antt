use Rattle.std.proofs.Common.{Err, ap, refl, rules}
use Rattle.shadow_txn.proofs.TakingLemmas.{leaves_returned}
use Rattle.shadow_txn.specs.Taking.{IsReturned}
use Rattle.shadow_txn.proofs.hold.take_ready.Goals as goal

pub returns-in-Err-clause-err : goal.returns-in-Err-clause-err
returns-in-Err-clause-err g c =
    let worn = c.in-Err.ensures.worn in
    let told = g.H.Annals.told in
    let last = g.H.Annals.last in
    let stamp = g.H.Annals.last c.in-Ok.object.annals in
    let before = g.X.Shelf.shelving c.args.shelf.now in
    let after = g.X.Shelf.shelving c.put.new.self in
    let back : IsReturned told last c.args.o stamp before after = record {
      was = c.in-Ok.object;
      back = record { committed = c.in-Ok.object.committed; working = c.in-Ok.object.working; annals = c.make_room.new.annals };
      between = g.X.Shelf.shelving c.take.new.self;
      take = c.in-Ok.ensures.ok;
      put = c.put.ensures.put;
      same = search rules;
      stamp = refl;
    } in
    leaves_returned told last c.in-Err.fail c.args.o stamp before after back c.in-Err.ensures.within
    (λ e. worn.0 (ap Err e), λ e. cc (worn.1 e)) c.in-Err.ensures.err
