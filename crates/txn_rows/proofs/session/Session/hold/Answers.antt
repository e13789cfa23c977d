-- What came from the shelf keeps its terms.
use Rattle.txn_rows.proofs.session.Session.hold.Goals as goal

pub hold-requires-clause-terms : goal.hold-requires-clause-terms
hold-requires-clause-terms g c = (c.self.invariant.terms, c.self.invariant.suited)

pub invariant_of-self : goal.invariant_of-self
invariant_of-self g c =
    let work = c.self.invariant in
    record {
      serves = c.hold.ensures.serves;
      terms = work.terms;
      suited = c.hold.ensures.under work.terms work.suited;
      agree = c.hold.ensures.agree work.terms work.suited work.agree;
      numbers = work.numbers;
      framed = work.framed;
      ready = work.ready;
      sized = work.sized;
      some = work.some;
    }
