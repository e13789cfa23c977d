-- The parts behind the row were not written.
use Rattle.std.proofs.Common.{inl, inr, ◌≡◌, ℕ, ◌+◌, ◌<◌, ◌≤◌, List, arith}
use Rattle.std.specs.Prelude.{◌⊎◌, slice_index}
use Rattle.buddy_map.proofs.masks.mend_row.Goals as goal

others : (old new : List ℕ) (low high end x : ℕ) → end ≤ high + 1 →
    ((y : ℕ) → (y < low) ⊎ (end ≤ y) → slice_index new y ≡ slice_index old y) →
    (x < low) ⊎ (high < x) → slice_index new x ≡ slice_index old x
others old new low high end x most kept (inl before) = kept x (inl before)
others old new low high end x most kept (inr behind) = kept x (inr (omega arith))

pub returns-clause-beside : goal.returns-clause-beside
returns-clause-beside c = λ x out.
    others c.args.masks.now c.loop-x.masks c.args.low c.args.high c.loop-x.x x (omega arith) c.loop-x.invariant.beside out
