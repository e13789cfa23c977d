-- The sessions at their places, and the objects in their hands.
use Rattle.std.proofs.Common.{◌≡◌, ◌≢◌, ℕ, zero, suc, ◌<◌, ◌≤◌, List, [], ◌∷◌, length, set, false, Option, Some}
use Rattle.std.proofs.Common.{None, IsSome, is_some, refl, ap, arith}
use Rattle.std.specs.Option.{option_map_or}
use Rattle.std.proofs.lemmas.Bool.{ne_eqb}
use Rattle.std.proofs.lemmas.List.{get_or-set_same, get_or-set_other, get_or_past}
use Rattle.machine.specs.Machine.{is_holder}
use Rattle.shadow_txn.specs.Held.{held_object}
use Rattle.shadow_txn.specs.Transaction.{Transaction}
use Rattle.body_world.specs.Session.{Shown, Seen, in_hand}
use Rattle.body_world.specs.Ties.{no_txn, txn_at, held_in}

pub txn_at-same : {T : Type 0} (txns : List (Transaction T)) (i : ℕ) (txn : Transaction T) → i < length txns →
    txn_at (set txns i txn) i ≡ txn
txn_at-same txns i txn within = get_or-set_same txns i txn no_txn within

pub txn_at-other : {T : Type 0} (txns : List (Transaction T)) (i j : ℕ) (txn : Transaction T) → j ≢ i
    → txn_at (set txns i txn) j ≡ txn_at txns j
txn_at-other txns i j txn other = get_or-set_other txns i j txn no_txn other

pub txn_at-past : {T : Type 0} (txns : List (Transaction T)) (i : ℕ) → length txns ≤ i → txn_at txns i ≡ no_txn
txn_at-past txns i past = get_or_past txns i no_txn past

-- an object that one session holds, and no other, is in its hands
pub held_in-at : {T : Type 0} (show : T → Shown) (txns : List (Transaction T)) (i o : ℕ) (x : T)
    → held_object o (txn_at txns i).held ≡ Some x
    → ((j : ℕ) → j ≢ i → held_object o (txn_at txns j).held ≡ None)
    → held_in show txns o ≡ Some (in_hand (txn_at txns i).session (show x))
held_in-at show [] i o x found alone = absurd cc
held_in-at show (txn ∷ txns) zero o x found alone = rw found refl
held_in-at show (txn ∷ txns) (suc i) o x found alone =
    let first : held_object o txn.held ≡ None = alone 0 (λ e. absurd (omega arith)) in
    let rest : held_in show txns o ≡ Some (in_hand (txn_at txns i).session (show x)) =
    held_in-at show txns i o x found (λ j other. alone (suc j) (λ e. other (omega arith))) in
    rw first rest

-- a session that holds it neither before nor after changes nothing
pub held_in-set : {T : Type 0} (show : T → Shown) (txns : List (Transaction T)) (i o : ℕ) (txn : Transaction T)
    → held_object o (txn_at txns i).held ≡ None
    → held_object o txn.held ≡ None → held_in show (set txns i txn) o ≡ held_in show txns o
held_in-set show [] i o txn before after = refl
held_in-set show (first ∷ txns) zero o txn before after = rw (before, after) refl
held_in-set show (first ∷ txns) (suc i) o txn before after =
    ap (λ rest. option_map_or (λ x. Some (in_hand first.session (show x))) (held_object o first.held) rest)
    (held_in-set show txns i o txn before after)

-- the session that an object is seen with, if any
abbrev pub holder_seen : Option Seen → Option ℕ
holder_seen None = None
holder_seen (Some seen) = seen.holder

-- the holder is one of the sessions that hold it
pub held_in-not : {T : Type 0} (show : T → Shown) (txns : List (Transaction T)) (s o : ℕ)
    → ((j : ℕ) → IsSome (held_object o (txn_at txns j).held) → (txn_at txns j).session ≢ s)
    → is_holder s (holder_seen (held_in show txns o)) ≡ false
held_in-not show [] s o others = refl
held_in-not {T} show (txn ∷ txns) s o others = first (held_object o txn.held) refl (held_in-not show txns s o (λ j. others (suc j)))
  where
    first : (found : Option T) → held_object o txn.held ≡ found → is_holder s (holder_seen (held_in show txns o)) ≡ false
        → is_holder s (holder_seen (option_map_or (λ x. Some (in_hand txn.session (show x))) (held_object o txn.held)
        (held_in show txns o))) ≡ false
    first None is rest = rw is rest
    first (Some x) is rest = let other : txn.session ≢ s = others 0 (ap is_some is) in rw is (ne_eqb txn.session s other)
