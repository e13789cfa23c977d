-- What the code reads of a session is what the machine has there, and what it writes is the machine's next state.
use Rattle.std.proofs.Common.{◌≡◌, ◌≢◌, ℕ, zero, suc, ◌+◌, ◌-◌, ◌<◌, ◌≤◌, ◌^◌, ◌==◌, ◌↔◌, Bool, true, false, List}
use Rattle.std.proofs.Common.{length, set, get_or, Option, Some, None, Result, Ok, Err, if◌then◌else◌, refl, ap}
use Rattle.std.proofs.Common.{sym, ◌∙◌, subst, arith, inl, inr}
use Rattle.std.specs.Prelude.{OnOk, OnErr, IsSomeAnd}
use Rattle.std.proofs.lemmas.Bool.{eq-eqb, ne_eqb, false≢true, cases_Bool}
use Rattle.std.proofs.lemmas.List.{get_or_default, set-get_or}
use Rattle.std.proofs.lemmas.Option.{slice_get_within}
use Rattle.eos_ops.specs.declared.command.Command.{Command}
use Rattle.eos_ops.specs.declared.command.Command.TheVariants.{Begin}
use Rattle.eos_ops.specs.declared.limits.TheConstants.{SESSIONS, LAST_STAMP}
use Rattle.eos_ops.specs.declared.reply.Reply.{Reply}
use Rattle.eos_ops.specs.declared.reply.Reply.TheVariants as reply
use Rattle.eos_ops.specs.Memory.{TakesMemory}
use Rattle.eos_ops.specs.Objects.{object_of, is_too_long, reply_in}
use Rattle.history.specs.Event.{Opens, Closes}
use Rattle.machine.specs.Machine.{Slot, Machine, slot_at, seat_at, is_active, with_slot}
use Rattle.machine.specs.Next.{next}
use Rattle.machine.specs.Replies.{IsStep, object_refused}
use Rattle.shadow_txn.specs.declared.fails.BeginFail.{BeginFail}
use Rattle.shadow_txn.specs.declared.fails.BeginFail.TheVariants.{Active, Worn}
use Rattle.shadow_txn.specs.Transaction.{with_begin}
use Rattle.world.specs.Served.{served, KeepsSession, IsAnswer, IsEnded}
use Rattle.world.specs.Session.{Object, Session, begin_reply, seen_by, refused_by, IsSoundSession}
use Rattle.world.specs.Ties.{no_txn, txn_at, seat_of, viewed, ShareObjects}
use Rattle.world.proofs.Deeds.{refusal_at}
use Rattle.world.proofs.Endings.{viewed-ended}
use Rattle.world.proofs.Sights.{seen-some}
use Rattle.world.proofs.Steps.{step-refused, step-memory, step-served, step-active, step-worn, step-begins}
use Rattle.world.proofs.Tied.{tied-set, slot_seen_at-seen}
use Rattle.world.proofs.Viewed.{slot_at-viewed, seat_at-viewed, viewed-begun, viewed-served, object_refused-viewed}

-- the session's number is one more than its place
pub number : (s : ℕ) → 0 < s → suc (s - 1) ≡ s
number zero from_one = absurd (omega arith)
number (suc i) from_one = let at : suc i - 1 ≡ i = omega arith in ap suc at

pub below : (s : ℕ) → 0 < s → s ≤ SESSIONS → s - 1 < SESSIONS
below s from_one upto = omega arith

-- the place that was read is the session's
pub txn-read : (shelf : List (Option Object)) (txns : List Session) (s : ℕ) (txn : Session) → 0 < s → s ≤ SESSIONS →
    ShareObjects shelf txns → txn ≡ get_or txns (s - 1) txn → txn ≡ txn_at txns (s - 1)
txn-read shelf txns s txn from_one upto tied read = read
    ∙ get_or_default txns (s - 1) txn no_txn (omega (arith, from_one, upto, tied.sessions))

pub is_active-read : (shelf : List (Option Object)) (txns : List Session) (m : Machine) (s : ℕ) →
    viewed shelf txns ≡ m → 0 < s → is_active m s ≡ (txn_at txns (s - 1)).is_open
is_active-read shelf txns m s view from_one =
    ap (λ t. is_active m t) (sym (number s from_one)) ∙ ap (λ n. is_active n (suc (s - 1))) (sym view)
    ∙ ap (λ seat. seat.active) (seat_at-viewed shelf txns (s - 1))

stamp-read : (shelf : List (Option Object)) (txns : List Session) (m : Machine) (s : ℕ) → viewed shelf txns ≡ m →
    0 < s → (seat_at m s).stamp ≡ (txn_at txns (s - 1)).stamp
stamp-read shelf txns m s view from_one =
    ap (λ t. (seat_at m t).stamp) (sym (number s from_one)) ∙ ap (λ n. (seat_at n (suc (s - 1))).stamp) (sym view)
    ∙ ap (λ seat. seat.stamp) (seat_at-viewed shelf txns (s - 1))

-- a place where nothing has changed
pub set-as_was : (txns : List Session) (i : ℕ) (txn : Session) → txn ≡ txn_at txns i → set txns i txn ≡ txns
set-as_was txns i txn same = ap (set txns i) same ∙ set-get_or txns i no_txn

-- what a begin said of the session
pub record Begins {U : Type 0} (result : Result U BeginFail) (txn txn' : Session) : Type 0 where
  pub ok : OnOk result (txn' ≡ with_begin txn)
  pub active : (result ≡ Err Active) ↔ (txn.is_open ≡ true)
  pub worn : (result ≡ Err Worn) ↔ ((txn.is_open ≡ false) × (txn.stamp ≡ 2 ^ 62))
  pub err : OnErr result (txn' ≡ txn)

kept-begun : (shelf : List (Option Object)) (txn : Session) → IsSoundSession shelf txn → KeepsSession shelf txn shelf (with_begin txn)
kept-begun shelf txn sound = record {
  session = refl;
  size = refl;
  sides = λ o. refl;
  sound = record {
    objects = sound.objects;
    few = sound.few;
    distinct = sound.distinct;
    idle =
        λ idle. absurd (false≢true (sym idle));
    out = sound.out;
  };
}

-- a begin keeps the ties
pub tied-begun : {U : Type 0} (result : Result U BeginFail) (shelf : List (Option Object)) (txns : List Session)
    (i : ℕ) (txn' : Session) → i < SESSIONS → ShareObjects shelf txns → Begins result (txn_at txns i) txn' →
    ShareObjects shelf (set txns i txn')
tied-begun (Ok done) shelf txns i txn' within tied begins =
    subst (λ t. ShareObjects shelf (set txns i t)) (sym begins.ok)
    (tied-set shelf txns i shelf (with_begin (txn_at txns i)) within tied (kept-begun shelf (txn_at txns i)
    (tied.sound i within)))
tied-begun (Err fail) shelf txns i txn' within tied begins = subst (ShareObjects shelf) (sym (set-as_was txns i txn' begins.err)) tied

-- where it isn't refused, nothing is open and the stamp isn't the last one
not-refused : {U : Type 0} (done : U) (txn txn' : Session) → Begins (Ok done) txn txn' → (txn.is_open ≡ false) × (txn.stamp ≢ 2 ^ 62)
not-refused done txn txn' begins =
    let idle : txn.is_open ≡ false = elim (cases_Bool txn.is_open) [
      | inl active ↦ let fails = begins.active.1 active in absurd cc
      | inr idle ↦ idle
    ] in
    (idle, λ last. let fails = begins.worn.1 (idle, last) in absurd cc)

-- and is a step of the machine
pub step-begun : {U : Type 0} (result : Result U BeginFail) (shelf : List (Option Object)) (txns : List Session)
    (m : Machine) (s : ℕ) (txn' : Session) → viewed shelf txns ≡ m → 0 < s → s ≤ SESSIONS → ShareObjects shelf txns
    → Begins result (txn_at txns (s - 1)) txn' → IsStep m s Begin (begin_reply result) (viewed shelf (set txns (s - 1) txn'))
step-begun (Ok done) shelf txns m s txn' view from_one upto tied begins =
    let within : s - 1 < SESSIONS = below s from_one upto in
    let free = not-refused done (txn_at txns (s - 1)) txn' begins in
    let active : is_active m s ≡ false = is_active-read shelf txns m s view from_one ∙ free.0 in
    let last : ((seat_at m s).stamp == LAST_STAMP) ≡ false =
    ne_eqb (seat_at m s).stamp LAST_STAMP (λ e. free.1 (sym (stamp-read shelf txns m s view from_one) ∙ e)) in
    let state : viewed shelf (set txns (s - 1) txn') ≡ next m s Opens =
    ap (λ t. viewed shelf (set txns (s - 1) t)) begins.ok
    ∙ viewed-begun shelf txns (s - 1) within tied (kept-begun shelf (txn_at txns (s - 1)) (tied.sound (s - 1) within))
    ∙ ap (λ n. next n (suc (s - 1)) Opens) view ∙ ap (λ t. next m t Opens) (number s from_one) in
    subst (λ n. IsStep m s Begin reply.Ok n) (sym state) (step-begins m s active last)
step-begun (Err Active) shelf txns m s txn' view from_one upto tied begins =
    let state : viewed shelf (set txns (s - 1) txn') ≡ m = ap (viewed shelf) (set-as_was txns (s - 1) txn' begins.err) ∙ view in
    subst (λ n. IsStep m s Begin reply.Active n) (sym state)
    (step-active m s (is_active-read shelf txns m s view from_one ∙ begins.active.0 refl))
step-begun (Err Worn) shelf txns m s txn' view from_one upto tied begins =
    let state : viewed shelf (set txns (s - 1) txn') ≡ m = ap (viewed shelf) (set-as_was txns (s - 1) txn' begins.err) ∙ view in
    let why = begins.worn.0 refl in
    subst (λ n. IsStep m s Begin reply.Worn n) (sym state)
    (step-worn m s (is_active-read shelf txns m s view from_one ∙ why.0)
    (eq-eqb (seat_at m s).stamp LAST_STAMP (stamp-read shelf txns m s view from_one ∙ why.1)))

-- a session where no transaction is open
pub step-idle_object : (m : Machine) (s : ℕ) (c : Command) (o : ℕ) → is_too_long c ≡ false → object_of c ≡ Some o →
    is_active m s ≡ false → IsStep m s c reply.Idle m
step-idle_object m s c o short is idle = step-refused m s c o reply.Idle short is
    (ap (λ active. if active then object_refused m s o else Some reply.Idle) idle)

-- an answer keeps the ties
pub tied-answer : (c : Command) (o : ℕ) (r : Reply) (shelf : List (Option Object)) (txns : List Session) (i : ℕ)
    (shelf' : List (Option Object)) (txn' : Session) → i < SESSIONS → ShareObjects shelf txns
    → IsAnswer c o r shelf (txn_at txns i) shelf' txn' → ShareObjects shelf' (set txns i txn')
tied-answer c o r shelf txns i shelf' txn' within tied (inl refused) =
    subst (λ xs. ShareObjects xs (set txns i txn')) (sym refused.1)
    (subst (ShareObjects shelf) (sym (set-as_was txns i txn' refused.2)) tied)
tied-answer c o r shelf txns i shelf' txn' within tied (inr (inl memory)) =
    subst (λ xs. ShareObjects xs (set txns i txn')) (sym memory.2)
    (subst (ShareObjects shelf) (sym (set-as_was txns i txn' memory.3)) tied)
tied-answer c o r shelf txns i shelf' txn' within tied (inr (inr done)) = tied-set shelf txns i shelf' txn' within tied done.1.kept

-- and is a step of the machine
pub step-answer : (c : Command) (o : ℕ) (r : Reply) (shelf : List (Option Object)) (txns : List Session)
    (m : Machine) (s : ℕ) (shelf' : List (Option Object)) (txn' : Session) → viewed shelf txns ≡ m → 0 < s →
    s ≤ SESSIONS
    → is_too_long c ≡ false → object_of c ≡ Some o → is_active m s ≡ true → ShareObjects shelf txns →
    IsAnswer c o r shelf (txn_at txns (s - 1)) shelf' txn' →
    IsStep m s c r (viewed shelf' (set txns (s - 1) txn'))
step-answer c o r shelf txns m s shelf' txn' view from_one upto short is active tied = by_case
  where
    due : refusal_at m s o ≡ refused_by shelf (txn_at txns (s - 1)) o
    due =
        let same : s - 1 + 1 ≡ s = omega (arith, from_one) in
        ap (λ active. if active then object_refused m s o else Some reply.Idle) active
        ∙ ap (λ t. object_refused m t o) (sym same) ∙ ap (λ n. object_refused n (s - 1 + 1) o) (sym view)
        ∙ object_refused-viewed shelf txns (s - 1) o (below s from_one upto) tied

    as_was : shelf' ≡ shelf → txn' ≡ txn_at txns (s - 1) → viewed shelf' (set txns (s - 1) txn') ≡ m
    as_was same_shelf same = ap (λ xs. viewed xs (set txns (s - 1) txn')) same_shelf
        ∙ ap (viewed shelf) (set-as_was txns (s - 1) txn' same) ∙ view

    takes : IsSomeAnd (seen_by shelf (txn_at txns (s - 1)) o) (λ slot. TakesMemory c slot.working) → TakesMemory c (slot_at m o).working
    takes of_seen = seen_slot (seen_by shelf (txn_at txns (s - 1)) o) refl of_seen
      where
        seen_slot : (seen : Option Slot) → seen_by shelf (txn_at txns (s - 1)) o ≡ seen →
            IsSomeAnd seen (λ slot. TakesMemory c slot.working) → TakesMemory c (slot_at m o).working
        seen_slot None is of_seen = absurd of_seen
        seen_slot (Some slot) is of_seen =
            let here : slot_at m o ≡ slot = ap (λ n. slot_at n o) (sym view) ∙ slot_at-viewed shelf txns o
            ∙ slot_seen_at-seen shelf txns (s - 1) o slot (below s from_one upto) tied is in
            subst (λ (x : Slot). TakesMemory c x.working) (sym here) of_seen

    by_case : IsAnswer c o r shelf (txn_at txns (s - 1)) shelf' txn' → IsStep m s c r (viewed shelf' (set txns (s - 1) txn'))
    by_case (inl refused) = subst (λ n. IsStep m s c r n) (sym (as_was refused.1 refused.2))
        (step-refused m s c o r short is (due ∙ refused.0))
    by_case (inr (inl memory)) =
        subst (λ n. IsStep m s c r n) (sym (as_was memory.2 memory.3))
        (subst (λ reply. IsStep m s c reply m) (sym memory.1)
        (step-memory m s c o short is (due ∙ memory.0) (takes memory.4)))
    by_case (inr (inr done)) =
        let within : s - 1 < SESSIONS = below s from_one upto in
        let seen : slot_at m o ≡ done.1.slot = ap (λ n. slot_at n o) (sym view) ∙ slot_at-viewed shelf txns o
        ∙ slot_seen_at-seen shelf txns (s - 1) o done.1.slot within tied done.1.seen in
        let own : (txn_at txns (s - 1)).session ≡ s = tied.numbers (s - 1) within ∙ omega (arith, from_one) in
        let seat : seat_of txn' ≡ seat_of (txn_at txns (s - 1)) =
        ap (λ active. record { active = active; stamp = txn'.stamp }) done.1.is_open
        ∙ ap (λ stamp. record { active = (txn_at txns (s - 1)).is_open; stamp = stamp }) done.1.stamp in
        let state : viewed shelf' (set txns (s - 1) txn') ≡ with_slot m o (served s c (slot_at m o)) =
        viewed-served shelf txns (s - 1) shelf' txn' o (served (txn_at txns (s - 1)).session c done.1.slot) within
        tied done.1.kept seat (there done.1.slot done.1.seen within) done.1.now done.1.others
        ∙ ap (λ n. with_slot n o (served (txn_at txns (s - 1)).session c done.1.slot)) view
        ∙ ap (λ t. with_slot m o (served t c done.1.slot)) own
        ∙ ap (λ slot. with_slot m o (served s c slot)) (sym seen) in
        subst (λ n. IsStep m s c r n) (sym state)
        (subst (λ reply. IsStep m s c reply (with_slot m o (served s c (slot_at m o))))
        (sym (done.1.reply ∙ ap (λ (slot : Slot). reply_in c slot.working) (sym seen)))
        (step-served m s c o short is (due ∙ done.0)))
      where
        there : (slot : Slot) → seen_by shelf (txn_at txns (s - 1)) o ≡ Some slot → s - 1 < SESSIONS → o < length shelf
        there slot seen within = elim (seen-some shelf (txn_at txns (s - 1)) o slot seen) [
          | inl own ↦ slice_get_within shelf o None ((tied.sound (s - 1) within).out o own.0 own.1)
          | inr home ↦ slice_get_within shelf o (Some home.1.0) home.1.1
        ]

-- an end is the machine's
pub state-ended : (shelf : List (Option Object)) (txns : List Session) (m : Machine) (s : ℕ)
    (shelf' : List (Option Object)) (txn' : Session) (committed : Bool) → viewed shelf txns ≡ m → 0 < s →
    s ≤ SESSIONS → ShareObjects shelf txns
    → IsEnded committed shelf (txn_at txns (s - 1)) shelf' txn' → viewed shelf' (set txns (s - 1) txn') ≡ next m s (Closes committed)
state-ended shelf txns m s shelf' txn' committed view from_one upto tied end =
    viewed-ended shelf txns (s - 1) shelf' txn' committed (below s from_one upto) tied end
    ∙ ap (λ n. next n (suc (s - 1)) (Closes committed)) view ∙ ap (λ t. next m t (Closes committed)) (number s from_one)
