-- What a refusal leaves of the shelf.
use Rattle.std.proofs.Common.{◌≡◌, ◌≢◌, ℕ, ◌≤◌, ◌^◌, List, Option, refl, arith, ⊎_elim, subst}
use Rattle.std.specs.Prelude.{◌↔◌, ◌⊎◌}
use Rattle.eos_ops.specs.declared.end.End.{End}
use Rattle.object_locks.specs.Shelving.{Shelving}
use Rattle.shadow_txn.specs.declared.fails.HoldFail.{HoldFail}
use Rattle.shadow_txn.specs.declared.fails.HoldFail.TheVariants.{NoObject, Full, Busy, Worn, Memory}
use Rattle.shadow_txn.specs.declared.plain_object.PlainObject.{PlainObject}
use Rattle.shadow_txn.specs.Taking.{IsReturned, Leaves}

-- an object that was put back as it was, since its stamp was the last, or for want of memory
pub leaves_returned : {H : Type 0} (told : H → Option (List End)) (last : H → ℕ) (fail : HoldFail) (o at : ℕ)
    (old new : Shelving (PlainObject H))
    → IsReturned told last o at old new → at ≤ 2 ^ 62 → (fail ≡ Worn) ↔ (at ≡ 2 ^ 62) → (fail ≡ Worn)
    ⊎ (fail ≡ Memory) → Leaves told last fail o old new
leaves_returned told last NoObject o at old new back most worn why = ⊎_elim (λ e. absurd cc) (λ e. absurd cc) why
leaves_returned told last Full o at old new back most worn why = ⊎_elim (λ e. absurd cc) (λ e. absurd cc) why
leaves_returned told last Busy o at old new back most worn why = ⊎_elim (λ e. absurd cc) (λ e. absurd cc) why
leaves_returned told last Worn o at old new back most worn why = subst (λ n. IsReturned told last o n old new) (worn.0 refl) back
leaves_returned told last Memory o at old new back most worn why =
    let left : at ≢ 2 ^ 62 = λ e. let wrong = worn.1 e in absurd cc in
    (at, omega arith, back)
