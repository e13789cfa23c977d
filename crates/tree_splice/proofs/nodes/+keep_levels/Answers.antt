-- The first level is kept, and those above it.
use Rattle.std.proofs.Common.{refl, arith}
use Rattle.tree_model.specs.Node.{room_of}
use Rattle.tree_splice.proofs.NodesLemmas.{first-rest, made-first, stand-first}
use Rattle.tree_splice.proofs.nodes.+keep_levels.Goals as goal

pub returns-then-is_empty-clause-kept : goal.returns-then-is_empty-clause-kept
returns-then-is_empty-clause-kept t c = λ told size at right made stand.
    let split = first-rest c.args.levels.now c.first-item.result (omega (arith, c.in-len1-up.len_at_least)) c.first-item.is in
    c.keep_nodes.ensures.kept told size at right (made-first (room_of size) c.args.levels.now c.first-item.result split made).0
    (λ t'. (stand-first at c.args.level _ c.args.levels.now c.first-item.result split refl (stand t')).0)

pub returns-clause-kept : goal.returns-clause-kept
returns-clause-kept t c = λ told size at right made stand.
    let split = first-rest c.args.levels.now c.first-item.result (omega (arith, c.in-len1-up.len_at_least)) c.first-item.is in
    let parts = made-first (room_of size) c.args.levels.now c.first-item.result split made in
    c.keep_levels.ensures.kept told size at
    (c.keep_nodes.ensures.kept told size at right parts.0
    (λ t'. (stand-first at c.args.level _ c.args.levels.now c.first-item.result split refl (stand t')).0))
    parts.1
    (λ t'. (stand-first at c.args.level _ c.args.levels.now c.first-item.result split refl (stand t')).1)
