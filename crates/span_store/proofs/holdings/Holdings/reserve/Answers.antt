-- So many spare pieces are room for n spans.
use Rattle.std.proofs.Common.{ℕ, ◌+◌, ◌/◌, length, ap, ◌∙◌}
use Rattle.std.specs.Prelude.{min, vec_capacity}
use Rattle.span_store.proofs.Kept.{pieces_kept, wanted_room}
use Rattle.span_store.proofs.holdings.Holdings.reserve.Goals as goal

pub invariant_of-self-2 : goal.invariant_of-self-2
invariant_of-self-2 g c =
    let ok = c.self.inside.pieces.ok.0 in
    pieces_kept c.self.inside.pieces.items c.self.inside.spare.items c.prepare.new.pieces.items c.prepare.new.spare.items
    (vec_capacity c.self.inside.pieces) (vec_capacity c.self.inside.spare) (vec_capacity c.prepare.new.pieces)
    (vec_capacity c.prepare.new.spare) c.self.inside.free c.args.n c.self.invariant c.prepare.ensures.pieces c.prepare.ensures.row
    (wanted_room c.self.inside.pieces.items (length c.prepare.new.spare.items) c.args.n c.min-wanted.result c.self.invariant.row.filled
    (c.min-wanted.ensures ∙ ap (λ (k : ℕ). min c.args.n (c.args.n / 64 + 2 + k)) (c.len.ensures ∙ ok)) c.in_ok-prepare.ensures.spare)
