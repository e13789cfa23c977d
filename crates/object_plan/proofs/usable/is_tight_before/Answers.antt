use Rattle.std.proofs.Common.{◌≤◌, refl, arith}
use Rattle.tree_model.specs.Range.{pairs_of}
use Rattle.layout_model.specs.Parts.{count_ended}
use Rattle.object_plan.proofs.SideLemmas.{before-few, before-none}
use Rattle.object_plan.proofs.usable.is_tight_before.Goals as goal
use Rattle.object_plan.proofs.usable.is_tight_before.Goals.{then-window-lt2-via-then-window-lt2, then-window-lt2-via-else-window-lt2+then-window-place}

pub returns-then-window-lt2 : goal.returns-then-window-lt2
returns-then-window-lt2 c =
    let window = c.args.window.now in
    let few : count_ended c.args.place (pairs_of window) ≤ 1 =
    elim c.then-window-lt2.branch [
      | then-window-lt2-via-then-window-lt2 w ↦ before-few window c.args.place w.if-window-lt2.true
      | then-window-lt2-via-else-window-lt2+then-window-place w ↦
          let none = before-none window c.args.place w.if-window-place.true in
          omega (arith, none)
    ] in
    (λ yes. few, λ tight. refl)
