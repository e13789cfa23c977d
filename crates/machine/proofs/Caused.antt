-- The refusals of the machine are those of the history: what the code sees in its slots is what the events before say.
use Rattle.std.proofs.Common.{◌≡◌, ℕ, zero, suc, ◌+◌, ◌<◌, ◌≤◌, List, [], ◌∷◌, Bool, true, false, not, ◌&&◌, ◌||◌}
use Rattle.std.proofs.Common.{cond, eqb, Option, Some, None, length, refl, sym, ap, subst, ◌∙◌, inl, inr, arith}
use Rattle.std.specs.Prelude.{is_some, IsTrue, MatchOption, nat_le}
use Rattle.std.specs.Option.{option_and_then}
use Rattle.std.proofs.lemmas.Bool.{cases_Bool, cases_lt, ne_eqb, cond-true, cond-false, and_from, and_right, or_left, or_from}
use Rattle.eos_ops.specs.declared.command.Command.{Command}
use Rattle.eos_ops.specs.declared.command.Command.TheVariants.{Begin, Create, Destroy, Length, Read, Append, Insert}
use Rattle.eos_ops.specs.declared.command.Command.TheVariants.{Delete, Replace, Commit, Abort, Status}
use Rattle.eos_ops.specs.declared.limits.TheConstants.{MAX_HELD, LAST_STAMP}
use Rattle.eos_ops.specs.declared.plain.Plain.{Plain}
use Rattle.eos_ops.specs.declared.reply.Reply.{Reply}
use Rattle.eos_ops.specs.declared.reply.Reply.TheVariants as reply
use Rattle.eos_ops.specs.Objects.{object_of, is_too_long}
use Rattle.history.specs.Event.{Event}
use Rattle.history.specs.Holding.{holds, some_upto, held_count, is_held_elsewhere}
use Rattle.history.specs.Refusals.{session_refusal, object_refusal, or_else, refusal, is_answer, Causes, AllCaused}
use Rattle.machine.specs.Machine.{Seat, Machine, slot_at, seat_at, is_active, is_holder, held_by, IsSession, AtRest, fresh}
use Rattle.machine.specs.Replies.{object_refused, seat_refused, refused, Owes}
use Rattle.machine.specs.Runs.{state_after, IsRun, IsOwedRun, StampsUpTo}
use Rattle.machine.specs.Sound.{Tracked}
use Rattle.machine.proofs.Counting.{count_below-agree}
use Rattle.machine.proofs.Owing.{IsOwedRun-from, Tracked-run}
use Rattle.machine.proofs.Places.{is_holder-own, active-IsSession}
use Rattle.machine.proofs.Sizes.{slots-run, seats-run, AtRest-fresh, StampsUpTo-fresh, length-fresh_slots, length-fresh_seats}
use Rattle.machine.proofs.Stamping.{StampsUpTo-run}

some_upto-ext : (n : ℕ) (p q : ℕ → Bool) → ((k : ℕ) → p k ≡ q k) → some_upto n p ≡ some_upto n q
some_upto-ext zero p q same = refl
some_upto-ext (suc n) p q same = ap (λ b. b || some_upto n p) (same (suc n)) ∙ ap (λ b. q (suc n) || b) (some_upto-ext n p q same)

some_upto_none : (n : ℕ) (p : ℕ → Bool) → ((k : ℕ) → p k ≡ false) → some_upto n p ≡ false
some_upto_none zero p none = refl
some_upto_none (suc n) p none = or_from (p (suc n)) (some_upto n p) (none (suc n)) (some_upto_none n p none)

or_second : (x y : Bool) → y ≡ true → (x || y) ≡ true
or_second true y h = refl
or_second false y h = h

some_upto_at : (n k : ℕ) (p : ℕ → Bool) → 0 < k → k ≤ n → p k ≡ true → some_upto n p ≡ true
some_upto_at zero k p from within here = absurd (omega arith)
some_upto_at (suc n) k p from within here =
    elim (cases_lt n k) [
      | inl last ↦ let same : k ≡ suc n = omega arith in or_left (p (suc n)) (some_upto n p) (sym (ap p same) ∙ here)
      | inr below ↦ or_second (p (suc n)) (some_upto n p) (some_upto_at n k p from below here)
    ]

-- whoever holds an object is a session
holder_session : (past : List Event) (m : Machine) (t o : ℕ) → Tracked past m → is_holder t (slot_at m o).holder ≡ true → IsSession m t
holder_session past m t o tracked held = active-IsSession m t (acting (is_active m t) refl)
  where
    acting : (active : Bool) → is_active m t ≡ active → active ≡ true
    acting true on = refl
    acting false off = let none : is_holder t (slot_at m o).holder ≡ false = tracked.idle t o off in absurd (cc)

-- an object that s doesn't hold is held elsewhere exactly where it has a holder
elsewhere : (past : List Event) (m : Machine) (s o : ℕ) → Tracked past m →
    is_holder s (slot_at m o).holder ≡ false →
    is_held_elsewhere (length m.seats) s o past ≡ is_some (slot_at m o).holder
unfolding is_held_elsewhere
elsewhere past m s o tracked other =
    some_upto-ext (length m.seats) (λ t. not (eqb t s) && holds t o past)
    (λ t. not (eqb t s) && is_holder t (slot_at m o).holder)
    (λ t. ap (λ b. not (eqb t s) && b) (tracked.held t o))
    ∙ found (slot_at m o).holder refl
  where
    found : (holder : Option ℕ) → (slot_at m o).holder ≡ holder →
        some_upto (length m.seats) (λ t. not (eqb t s) && is_holder t (slot_at m o).holder)
        ≡ is_some (slot_at m o).holder
    found None none = some_upto_none (length m.seats) (λ t. not (eqb t s) && is_holder t (slot_at m o).holder)
        (λ t. and_right (not (eqb t s)) (is_holder t (slot_at m o).holder) (ap (is_holder t) none))
        ∙ sym (ap is_some none)
    found (Some t) some =
        let held : is_holder t (slot_at m o).holder ≡ true = ap (is_holder t) some ∙ is_holder-own t in
        let session = holder_session past m t o tracked held in
        let apart : eqb t s ≡ false = sym (ap (is_holder s) some) ∙ other in
        some_upto_at (length m.seats) t (λ k. not (eqb k s) && is_holder k (slot_at m o).holder) session.from_one
        session.within (and_from (not (eqb t s)) (is_holder t (slot_at m o).holder) (ap not apart) held)
        ∙ sym (ap is_some some)

not_last : (stamp : ℕ) → stamp < LAST_STAMP → eqb stamp LAST_STAMP ≡ false
not_last stamp below = ne_eqb stamp LAST_STAMP (λ same. absurd (omega arith))

-- where s doesn't hold the object, the two meet the same tests
object_refusal_other : (past : List Event) (m : Machine) (s o : ℕ) → Tracked past m →
    (slot_at m o).stamp < LAST_STAMP → is_holder s (slot_at m o).holder ≡ false →
    object_refusal (length m.seats) (length m.slots) past s o ≡ object_refused m s o
unfolding held_count held_by
object_refusal_other past m s o tracked fresh other =
    let rest : Option Reply = cond (nat_le (length m.slots) o) (Some reply.NoObject)
    (cond (nat_le MAX_HELD (held_by m s)) (Some reply.Full)
    (cond (is_some (slot_at m o).holder) (Some reply.Busy)
    (cond (eqb (slot_at m o).stamp LAST_STAMP) (Some reply.Worn) None))) in
    cond-false (holds s o past) None _ (tracked.held s o ∙ other)
    ∙ ap (λ b. cond (nat_le (length m.slots) o) (Some reply.NoObject)
    (cond (nat_le MAX_HELD b) (Some reply.Full)
    (cond (is_held_elsewhere (length m.seats) s o past) (Some reply.Busy) None)))
    (count_below-agree (length m.slots) (λ p. holds s p past) (λ p. is_holder s (slot_at m p).holder)
    (λ p _. tracked.held s p))
    ∙ ap (λ b. cond (nat_le (length m.slots) o) (Some reply.NoObject)
    (cond (nat_le MAX_HELD (held_by m s)) (Some reply.Full) (cond b (Some reply.Busy) None)))
    (elsewhere past m s o tracked other)
    ∙ ap (λ x. cond (nat_le (length m.slots) o) (Some reply.NoObject)
    (cond (nat_le MAX_HELD (held_by m s)) (Some reply.Full)
    (cond (is_some (slot_at m o).holder) (Some reply.Busy) x)))
    (sym (cond-false (eqb (slot_at m o).stamp LAST_STAMP)
    (Some reply.Worn) None (not_last (slot_at m o).stamp fresh)))
    ∙ sym (cond-false (is_holder s (slot_at m o).holder) None rest other)

object_refusal_is : (past : List Event) (m : Machine) (s o : ℕ) → Tracked past m →
    (slot_at m o).stamp < LAST_STAMP → object_refusal (length m.seats) (length m.slots) past s o
    ≡ object_refused m s o
object_refusal_is past m s o tracked fresh =
    elim (cases_Bool (is_holder s (slot_at m o).holder)) [
      | inl held ↦ cond-true (holds s o past) None _ (tracked.held s o ∙ held)
          ∙ sym (cond-true (is_holder s (slot_at m o).holder) None _ held)
      | inr other ↦ object_refusal_other past m s o tracked fresh other
    ]

or_else_nothing : (first : Option Reply) → or_else first None ≡ first
or_else_nothing None = refl
or_else_nothing (Some r) = refl

seat_refusal_is : (seat : Seat) (c : Command) → seat.stamp < LAST_STAMP → session_refusal seat.active c ≡ seat_refused seat c
seat_refusal_is seat Begin fresh = sym (ap (or_else (session_refusal seat.active Begin))
    (cond-false (eqb seat.stamp LAST_STAMP) (Some reply.Worn) None (not_last seat.stamp fresh))
    ∙ or_else_nothing (session_refusal seat.active Begin))
seat_refusal_is seat (Create o t) fresh = refl
seat_refusal_is seat (Destroy o) fresh = refl
seat_refusal_is seat (Length o) fresh = refl
seat_refusal_is seat (Read o at n) fresh = refl
seat_refusal_is seat (Append o p) fresh = refl
seat_refusal_is seat (Insert o at p) fresh = refl
seat_refusal_is seat (Delete o at n) fresh = refl
seat_refusal_is seat (Replace o at p) fresh = refl
seat_refusal_is seat Commit fresh = refl
seat_refusal_is seat Abort fresh = refl
seat_refusal_is seat Status fresh = refl

chain_is : (f g : ℕ → Option Reply) (t : Option ℕ) → ((o : ℕ) → f o ≡ g o) → option_and_then f t ≡ option_and_then g t
chain_is f g None same = refl
chain_is f g (Some o) same = same o

-- no stamp is the last one
pub record IsFresh (m : Machine) : Type 0 where
  pub seats : (s : ℕ) → (seat_at m s).stamp < LAST_STAMP
  pub slots : (o : ℕ) → (slot_at m o).stamp < LAST_STAMP

-- The first refusal by the history is the machine's.
pub refusal_is : (past : List Event) (m : Machine) (s : ℕ) (c : Command) → Tracked past m → IsFresh m →
    refusal (length m.seats) (length m.slots) past s c ≡ refused m s c
unfolding refusal refused
refusal_is past m s c tracked fresh =
    ap (λ x. cond (is_too_long c) (Some reply.TooLong)
    (or_else x (option_and_then (object_refusal (length m.seats) (length m.slots) past s) (object_of c))))
    (ap (λ b. session_refusal b c) (tracked.active s) ∙ seat_refusal_is (seat_at m s) c (fresh.seats s))
    ∙ ap (λ x. cond (is_too_long c) (Some reply.TooLong) (or_else (seat_refused (seat_at m s) c) x))
    (chain_is (object_refusal (length m.seats) (length m.slots) past s) (object_refused m s) (object_of c)
    (λ o. object_refusal_is past m s o tracked (fresh.slots o)))

-- An event with a reply that is owed has its cause in the events before.
pub Causes-event : (past : List Event) (m : Machine) (e : Event) → Tracked past m → IsFresh m →
    Owes m e.session e.command e.reply → Causes (length m.seats) (length m.slots) past e
Causes-event past m e tracked fresh owes =
    elim owes [
      | inl memory ↦ inl memory
      | inr so ↦ inr (subst (λ (t : Option Reply). MatchOption t (IsTrue (is_answer e.command e.reply))
          (λ x. e.reply ≡ x)) (sym (refusal_is past m e.session e.command tracked fresh)) so)
    ]

fresh_from : (m : Machine) (n : ℕ) → StampsUpTo n m → n < LAST_STAMP → IsFresh m
fresh_from m n stamps below = record {
  seats = λ s. let up : (seat_at m s).stamp ≤ n = stamps.seats s in omega arith;
  slots = λ o. let up : (slot_at m o).stamp ≤ n = stamps.slots o in omega arith;
}

-- Each event with an owed reply has its cause, as long as no stamp has come to its last value.
pub AllCaused-owed : (m : Machine) (past : List Event) (n : ℕ) → AtRest m → StampsUpTo n m → IsOwedRun m past →
    n + length past ≤ LAST_STAMP → AllCaused (length m.seats) (length m.slots) past
AllCaused-owed m [] n rest stamps run below = tt
AllCaused-owed m (e ∷ past) n rest stamps run below =
    let before : n + length past < LAST_STAMP = omega arith in
    let within : n + length past ≤ LAST_STAMP = omega arith in
    let mid : Machine = state_after m past in
    let fresh : IsFresh mid = fresh_from mid (n + length past) (StampsUpTo-run m past n stamps) before in
    let here : Causes (length mid.seats) (length mid.slots) past e =
    Causes-event past mid e (Tracked-run m past rest run.0) fresh run.1.reply in (
      AllCaused-owed m past n rest stamps run.0 within,
      subst (λ k. Causes k (length m.slots) past e) (seats-run m past)
          (subst (λ k. Causes (length mid.seats) k past e) (slots-run m past) here),
    )

-- So has each event of a run of the machine.
pub AllCaused-run : (m : Machine) (past : List Event) (n : ℕ) → AtRest m → StampsUpTo n m → IsRun m past →
    n + length past ≤ LAST_STAMP → AllCaused (length m.seats) (length m.slots) past
AllCaused-run m past n rest stamps run below = AllCaused-owed m past n rest stamps (IsOwedRun-from m past run) below

-- And so has each event with an owed reply over new objects, up to `2^62` events.
pub AllCaused-fresh : (n : ℕ) (db : List Plain) (past : List Event) → IsOwedRun (fresh n db) past →
    length past ≤ LAST_STAMP → AllCaused n (length db) past
AllCaused-fresh n db past run short =
    let below : 0 + length past ≤ LAST_STAMP = omega (arith, short) in
    subst (λ (k : ℕ). AllCaused n k past) (length-fresh_slots n db)
    (subst (λ (k : ℕ). AllCaused k (length (fresh n db).slots) past) (length-fresh_seats n db)
    (AllCaused-owed (fresh n db) past 0 (AtRest-fresh n db) (StampsUpTo-fresh n db) run below))
