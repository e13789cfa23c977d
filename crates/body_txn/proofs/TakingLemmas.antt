-- What a refusal leaves of the shelf.
use Rattle.std.proofs.Common.{◌≡◌, ◌≢◌, ℕ, ◌≤◌, ◌^◌, List, Option, refl, arith, ⊎_elim, subst}
use Rattle.std.specs.Prelude.{◌↔◌, ◌⊎◌}
use Rattle.eos_ops.specs.declared.end.End.{End}
use Rattle.object_locks.specs.Shelving.{Shelving}
use Rattle.shadow_txn.specs.declared.fails.HoldFail.{HoldFail}
use Rattle.shadow_txn.specs.declared.fails.HoldFail.TheVariants.{NoObject, Full, Busy, Worn, Memory}
use Rattle.body_txn.specs.Taking.{WasReturned, RefusalLeaves}

-- an object that was put back as it was, since its stamp was the last, or for want of memory
pub leaves_returned : {T C : Type 0} (body : T → C) (told : T → Option (List End)) (last : T → ℕ) (fail : HoldFail) (o at : ℕ)
    (old new : Shelving T)
    → WasReturned body told last o at old new → at ≤ 2 ^ 62 → (fail ≡ Worn) ↔ (at ≡ 2 ^ 62) → (fail ≡ Worn) ⊎ (fail ≡ Memory)
    → RefusalLeaves body told last fail o old new
leaves_returned body told last NoObject o at old new back most worn why = ⊎_elim (λ e. absurd cc) (λ e. absurd cc) why
leaves_returned body told last Full o at old new back most worn why = ⊎_elim (λ e. absurd cc) (λ e. absurd cc) why
leaves_returned body told last Busy o at old new back most worn why = ⊎_elim (λ e. absurd cc) (λ e. absurd cc) why
leaves_returned body told last Worn o at old new back most worn why = subst (λ n. WasReturned body told last o n old new) (worn.0 refl) back
leaves_returned body told last Memory o at old new back most worn why =
    let left : at ≢ 2 ^ 62 = λ e. let wrong = worn.1 e in absurd cc in
    (at, omega arith, back)
