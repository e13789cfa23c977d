-- The tests pass exactly where the page holds a node, and then the node that is read is that one.
use Rattle.std.proofs.Common.{length, IsTrue, refl, arith}
use Rattle.node_codec.proofs.NumberLemmas.{AreBytes}
use Rattle.node_codec.proofs.ReadLemmas.{NodeBytes-read, NodeBytes-same, IsHead-NodeBytes, each-IsHead, blank-IsHead}
use Rattle.node_codec.proofs.read.decode.Goals as goal
use Rattle.node_codec.proofs.read.decode.Goals.{then-not-has_bytes_under_each-via-then-not-has_bytes_under_each}
use Rattle.node_codec.proofs.read.decode.Goals.{then-not-has_bytes_under_each-via-else-not-has_bytes_under_each+then-not-is_blank_from}

pub returns-in_default-clause-only : goal.returns-in_default-clause-only
returns-in_default-clause-only c = λ level pairs h.
    absurd (c.in_default.ensures.none (length pairs) (IsHead-NodeBytes c.args.page.now level pairs h))

pub returns-then-not-has_bytes_under_each-clause-only :
    goal.returns-then-not-has_bytes_under_each-clause-only
returns-then-not-has_bytes_under_each-clause-only c = λ level pairs h.
    let head = c.in-Some.ensures.some in
    elim c.then-not-has_bytes_under_each.branch [
      | then-not-has_bytes_under_each-via-then-not-has_bytes_under_each w ↦
          let yes = c.has_bytes_under_each.ensures.1 (each-IsHead c.args.page.now c.in-Some.count level pairs head h) in
          let broken = rw w.if-not-has_bytes_under_each.true at yes in absurd cc
      | then-not-has_bytes_under_each-via-else-not-has_bytes_under_each+then-not-is_blank_from w ↦
          let yes = w.is_blank_from.ensures.1 (blank-IsHead c.args.page.now c.in-Some.count level pairs head h) in
          let broken = rw w.if-not-is_blank_from.true at yes in absurd cc
    ]

pub returns-clause-found : goal.returns-clause-found
returns-clause-found c =
    let each_yes : IsTrue c.has_bytes_under_each.result = c.if-not-has_bytes_under_each.false in
    let blank_yes : IsTrue c.is_blank_from.result = c.if-not-is_blank_from.false in
    let bytes : AreBytes c.args.page.now = λ k. let fits = c.type_inv.page k in omega arith in
    rw c.read_pairs.ensures.items
    (NodeBytes-read c.args.page.now c.in-Some.count bytes c.in-Some.ensures.some
    (c.has_bytes_under_each.ensures.0 each_yes) (c.is_blank_from.ensures.0 blank_yes))

pub returns-clause-only : goal.returns-clause-only
returns-clause-only c = λ level pairs h.
    let same = NodeBytes-same c.args.page.now _ level _ pairs (returns-clause-found c) h in
    (refl, same.0, same.1)
