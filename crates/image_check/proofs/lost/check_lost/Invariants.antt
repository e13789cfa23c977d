use Rattle.std.proofs.Common.{◌<◌, ℕ}
use Rattle.image_check.specs.Owners.{HasNoneLostIn}
use Rattle.image_check.proofs.lost.check_lost.Given as goal

abbrev pub invariant-loop-space : goal.invariant-loop-space
invariant-loop-space l = record {
  none : (s : ℕ) → s < l.space → HasNoneLostIn l.geometry s l.walk;
}
