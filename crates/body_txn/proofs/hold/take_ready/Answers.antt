use Rattle.std.proofs.Common.{Err, ap, refl, rules}
use Rattle.body_txn.proofs.TakingLemmas.{leaves_returned}
use Rattle.body_txn.specs.Fields.{body_of, at_annals}
use Rattle.body_txn.specs.Taking.{WasReturned}
use Rattle.body_txn.proofs.hold.take_ready.Goals as goal

pub returns-in-Err-clause-err : goal.returns-in-Err-clause-err
returns-in-Err-clause-err g c =
    let worn = c.in-Err.ensures.worn in
    let stamp = g.H.Annals.last c.in-Ok.object.annals in
    let before = g.X.Shelf.shelving c.args.shelf.now in
    let after = g.X.Shelf.shelving c.put.new.self in
    let back : WasReturned body_of (at_annals g.H.Annals.told) (at_annals g.H.Annals.last) c.args.o stamp before after = record {
      was = c.in-Ok.object;
      back = record { body = c.in-Ok.object.body; annals = c.make_room.new.annals };
      between = g.X.Shelf.shelving c.take.new.self;
      take = c.in-Ok.ensures.ok;
      put = c.put.ensures.put;
      same = search rules;
      stamp = refl;
    } in
    leaves_returned body_of (at_annals g.H.Annals.told)
    (at_annals g.H.Annals.last) c.in-Err.fail c.args.o stamp before after back c.in-Err.ensures.within
    (λ e. worn.0 (ap Err e), λ e. cc (worn.1 e)) c.in-Err.ensures.err

pub returns-in-Ok-make_room-clause-ok : goal.returns-in-Ok-make_room-clause-ok
returns-in-Ok-make_room-clause-ok g c =
    rw c.tied.ensures.same (record {
      was = c.in-Ok.object;
      take = c.in-Ok.ensures.ok;
      same = record { versions = refl; ends = c.in-Ok-make_room.ensures.told; stamp = c.in-Ok-make_room.ensures.last };
      at_rest = c.in-Ok.ensures.rests;
      room = c.in-Ok-make_room.ensures.ok.0;
      left = c.in-Ok-make_room.ensures.ok.1;
      ages = c.in-Ok-make_room.ensures.ages;
    })
