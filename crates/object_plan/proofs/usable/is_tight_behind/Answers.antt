use Rattle.std.proofs.Common.{◌≤◌, ◌-◌, length, inl, inr, arith}
use Rattle.std.proofs.lemmas.Bool.{cases_lt, lt-ltb, ltb-true}
use Rattle.object_plan.proofs.SideLemmas.{behind-loose, behind-tight}
use Rattle.std.proofs.Common.{get_or}
use Rattle.object_plan.proofs.usable.is_tight_behind.Goals as goal
use Rattle.tree_model.proofs.RangeLemmas.{no_segment}

pub returns : goal.returns
returns c =
    let window = c.args.window.now in
    let left = c.args.bytes - (get_or window (length window - 1) no_segment).pair.bytes
    - (get_or window (length window - 2) no_segment).pair.bytes in
    let some : 2 ≤ length window = omega (arith, c.if-count-lt2.false) in (
      λ yes. behind-tight window c.args.bytes c.args.place c.requires.bytes some (ltb-true left c.args.place yes),
      λ tight. elim (cases_lt left c.args.place) [
        | inl past ↦ lt-ltb left c.args.place past
        | inr reach ↦ absurd (behind-loose window c.args.bytes c.args.place c.requires.bytes some reach tight)
      ],
    )
