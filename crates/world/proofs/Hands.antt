-- The sessions at their places, and the objects in their hands.
use Rattle.std.proofs.Common.{◌≡◌, ◌≢◌, ℕ, zero, suc, ◌<◌, ◌≤◌, List, [], ◌∷◌, length, set, false, Option, Some}
use Rattle.std.proofs.Common.{None, IsSome, is_some, refl, ap, arith}
use Rattle.std.specs.Option.{option_map_or}
use Rattle.std.proofs.lemmas.Bool.{ne_eqb}
use Rattle.std.proofs.lemmas.List.{get_or-set_same, get_or-set_other, get_or_past}
use Rattle.machine.specs.Machine.{no_slot, is_holder}
use Rattle.shadow_txn.specs.Held.{held_object}
use Rattle.world.specs.Session.{Object, Session, held_slot}
use Rattle.world.specs.Ties.{no_txn, txn_at, held_in}

pub txn_at-same : (txns : List Session) (i : ℕ) (txn : Session) → i < length txns → txn_at (set txns i txn) i ≡ txn
txn_at-same txns i txn within = get_or-set_same txns i txn no_txn within

pub txn_at-other : (txns : List Session) (i j : ℕ) (txn : Session) → j ≢ i → txn_at (set txns i txn) j ≡ txn_at txns j
txn_at-other txns i j txn other = get_or-set_other txns i j txn no_txn other

pub txn_at-past : (txns : List Session) (i : ℕ) → length txns ≤ i → txn_at txns i ≡ no_txn
txn_at-past txns i past = get_or_past txns i no_txn past

-- an object that one session holds, and no other, is in its hands
pub held_in-at : (txns : List Session) (i o : ℕ) (x : Object) → held_object o (txn_at txns i).held ≡ Some x →
    ((j : ℕ) → j ≢ i → held_object o (txn_at txns j).held ≡ None) →
    held_in txns o ≡ held_slot (txn_at txns i).session x
held_in-at [] i o x found alone = absurd cc
held_in-at (txn ∷ txns) zero o x found alone = rw found refl
held_in-at (txn ∷ txns) (suc i) o x found alone =
    let first : held_object o txn.held ≡ None = alone 0 (λ e. absurd (omega arith)) in
    let rest : held_in txns o ≡ held_slot (txn_at txns i).session x =
    held_in-at txns i o x found (λ j other. alone (suc j) (λ e. other (omega arith))) in
    rw first rest

-- where nobody holds it there is nothing
pub held_in-none : (txns : List Session) (o : ℕ) → ((j : ℕ) → held_object o (txn_at txns j).held ≡ None) → held_in txns o ≡ no_slot
held_in-none [] o none = refl
held_in-none (txn ∷ txns) o none =
    let first : held_object o txn.held ≡ None = none 0 in
    let rest : held_in txns o ≡ no_slot = held_in-none txns o (λ j. none (suc j)) in
    rw first rest

-- a session that holds it neither before nor after changes nothing
pub held_in-set : (txns : List Session) (i o : ℕ) (txn : Session) → held_object o (txn_at txns i).held ≡ None →
    held_object o txn.held ≡ None → held_in (set txns i txn) o ≡ held_in txns o
held_in-set [] i o txn before after = refl
held_in-set (first ∷ txns) zero o txn before after = rw (before, after) refl
held_in-set (first ∷ txns) (suc i) o txn before after =
    ap (λ rest. option_map_or (held_slot first.session) (held_object o first.held) rest) (held_in-set txns i o txn before after)

-- the holder is one of the sessions that hold it
pub held_in-not : (txns : List Session) (s o : ℕ) →
    ((j : ℕ) → IsSome (held_object o (txn_at txns j).held) → (txn_at txns j).session ≢ s) →
    is_holder s (held_in txns o).holder ≡ false
held_in-not [] s o others = refl
held_in-not (txn ∷ txns) s o others = first (held_object o txn.held) refl (held_in-not txns s o (λ j. others (suc j)))
  where
    first : (found : Option Object) → held_object o txn.held ≡ found → is_holder s (held_in txns o).holder ≡ false →
        is_holder s (option_map_or (held_slot txn.session) (held_object o txn.held) (held_in txns o)).holder ≡ false
    first None is rest = rw is rest
    first (Some x) is rest = let other : txn.session ≢ s = others 0 (ap is_some is) in rw is (ne_eqb txn.session s other)
