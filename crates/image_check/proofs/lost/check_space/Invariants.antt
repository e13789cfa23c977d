use Rattle.std.proofs.Common.{◌≡◌, ◌<◌, ℕ}
use Rattle.geometry_model.specs.Pages.{data_page}
use Rattle.image_check.specs.declared.owner.Owner.TheVariants.{Nobody}
use Rattle.image_check.specs.Owners.{owner_at}
use Rattle.image_check.proofs.lost.check_space.Given as goal

abbrev pub invariant-loop-at : goal.invariant-loop-at
invariant-loop-at l = record {
  none : (at : ℕ) → at < l.at → owner_at l.walk (data_page l.geometry l.fn.space at) ≡ Nobody → ⊥;
}
