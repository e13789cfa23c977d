-- The port fits what is held, and is used.
use Rattle.txn_rows.proofs.SessionLemmas.{still, moved, sized-held}
use Rattle.std.proofs.Common.{true, refl}
use Rattle.shadow_txn.specs.Replies.{bytes_reply}
use Rattle.body_txn.proofs.ActLemmas.{read-port}
use Rattle.txn_rows.proofs.session.Session.read.Goals as goal

pub read-requires-clause-page : goal.read-requires-clause-page
read-requires-clause-page g c = sized-held _ _ _ _ _ _ _ _ _ c.self.invariant c.args.o

pub invariant_of-self : goal.invariant_of-self
invariant_of-self g c =
    let call = c.read.ensures.read in
    let used = read-port true g.B.Body.suits g.B.Body.may_read g.H.Annals.tells c.args.at c.args.len (bytes_reply c.read.result)
    (g.B.Body.form call.was.body) (g.B.Body.form call.now.body) (g.B.Body.told call.was.body) (g.B.Body.told call.now.body)
    c.self.inside.port.meter c.read.new.port.meter call.made.1 in
    moved _ _ _ _ _ c.read.new.self _ _ _ _ _
    (still _ _ _ _ _ c.self.inside.txn c.read.new.self _ _ _ c.self.invariant c.read.ensures.goes_on)
    (record { frame = refl; entered = c.self.invariant.ready.none }) used.page
