use Rattle.std.proofs.Common.{◌<◌, ◌-◌, length, get_or, inl, inr, sym, arith, ◌∙◌}
use Rattle.std.proofs.lemmas.Bool.{cases_lt, le-leb, lt-leb}
use Rattle.object_plan.proofs.SideLemmas.{after-none, after-tested}
use Rattle.object_plan.proofs.sides.has_after.Goals as goal
use Rattle.tree_model.proofs.RangeLemmas.{no_segment}

pub returns : goal.returns
returns c =
    let window = c.args.window.now in
    let last = (get_or window (length window - 1) no_segment).pair.bytes in
    let left = c.bytes_of.result - last in
    let some : 0 < length window = omega (arith, c.if-count-eq0.false) in
    elim (cases_lt left c.args.place) [
      | inl past ↦
          lt-leb c.args.place left past
          ∙ sym (after-none window c.args.place some (omega (arith, past, c.bytes_of.ensures)))
      | inr reach ↦
          le-leb c.args.place left reach
          ∙ sym (after-tested window c.args.place some (omega (arith, reach, c.bytes_of.ensures)))
    ]
