-- Sessions that abort what they have open, one after the other, and what is left then.
use Rattle.std.proofs.Common.{◌≡◌, ◌≢◌, ℕ, zero, suc, ◌+◌, ◌-◌, ◌<◌, ◌≤◌, Bool, true, false, List, [], ◌∷◌, get_or, Option}
use Rattle.std.proofs.Common.{Some, None, IsSome, is_some, slice_get, refl, ap, sym, ◌∙◌, arith, inl, inr, if◌then◌else◌}
use Rattle.std.specs.Prelude.{IsTrue, All}
use Rattle.std.proofs.lemmas.Bool.{cases_eq, cases_Bool, false≢true}
use Rattle.std.proofs.lemmas.Option.{slice_get-get_or}
use Rattle.eos_ops.specs.declared.limits.TheConstants.{SESSIONS}
use Rattle.history.specs.Event.{Event, Closes}
use Rattle.history.specs.Holding.{holds}
use Rattle.machine.specs.Machine.{Slot, Machine, bare, is_active, is_holder, slot_at, seat_in}
use Rattle.machine.specs.Next.{next, settled, stamp_of}
use Rattle.machine.proofs.Places.{held-other, settled-other, slot_at-settled}
use Rattle.moment_model.specs.Edit.{undone}
use Rattle.moment_model.specs.Moment.{Moment, ObjectSlot}
use Rattle.moment_model.specs.Run.{changed_where, aborted_by, all_aborted}
use Rattle.shadow_txn.specs.Held.{held_object}
use Rattle.shadow_txn.specs.Transaction.{Transaction}
use Rattle.store_model.specs.Store.{Store, HoldsBy}
use Rattle.world.specs.Ending.{aborted, machine_aborted}
use Rattle.world.proofs.Aborting.{machine_aborted-none, machine_aborted-more}
use Rattle.world.proofs.First.{active-closed}
use Rattle.world.proofs.Readings.{below}
use Rattle.body_world.specs.Ending.{IsBareEnd, IsToldEnd, IsStopped, HaveStopped}
use Rattle.body_world.specs.Session.{Shown}
use Rattle.body_world.specs.Ties.{txn_at, machine_seen, ShareObjects}
use Rattle.body_world.proofs.Endings.{in-hand}
use Rattle.body_world.proofs.Readings.{is_active-read}

-- a session with nothing open holds nothing in the machine
pub holds-nothing : {T : Type 0} (show : T → Shown) (shelf : List (Option T)) (txns : List (Transaction T)) (m : Machine) (s o : ℕ)
    → machine_seen show shelf txns ≡ m → 0 < s → s ≤ SESSIONS → ShareObjects shelf txns → (txn_at txns (s - 1)).is_open ≡ false
    → is_holder s (slot_at m o).holder ≡ false
holds-nothing {T} show shelf txns m s o view from_one upto tied idle =
    let within = below s from_one upto in
    let same : s - 1 + 1 ≡ s = omega (arith, from_one) in
    let empty : (txn_at txns (s - 1)).held ≡ [] = (tied.sound (s - 1) within).idle idle in
    ap (λ k. is_holder k (slot_at m o).holder) (sym same)
    ∙ ap (λ n. is_holder (s - 1 + 1) (slot_at n o).holder) (sym view)
    ∙ in-hand show shelf txns (s - 1) o within tied ∙ ap (λ held. is_some (held_object {T = T} o held)) empty

-- where a test never holds nothing changes
changed-none : (test : ℕ → Bool) (change : ObjectSlot → ObjectSlot) (from : ℕ) (moment : Moment) → ((o : ℕ) → test o ≡ false)
    → changed_where test change from moment ≡ moment
changed-none test change from [] never = refl
changed-none test change from (slot ∷ rest) never =
    ap (λ b. (if b then change slot else slot) ∷ changed_where test change (suc from) rest) (never from)
    ∙ ap (λ xs. slot ∷ xs) (changed-none test change (suc from) rest never)

-- nothing was open
pub stopped-idle : (tells : Bool) (s : ℕ) (w : Store) → is_active w.machine s ≡ false
    → ((o : ℕ) → is_holder s (slot_at w.machine o).holder ≡ false) → IsStopped tells s w w
stopped-idle tells s w idle nothing = record {
  numbers = refl;
  closed = idle;
  others = λ t was. was;
  machine = λ tell. sym (ap (λ b. if b then next w.machine s (Closes false) else w.machine) idle);
  moment = λ tell past by. sym (changed-none (λ o. holds s o past) undone 0 w.moment (λ o. by o ∙ nothing o));
}

-- who is active doesn't depend on contents
bare-active : (m m' : Machine) (t : ℕ) → bare m ≡ bare m' → is_active m t ≡ is_active m' t
bare-active m m' t same = ap (λ (n : Machine). (seat_in n.seats t).active) same

-- what was open is aborted
pub stopped-open : (tells : Bool) (s : ℕ) (w w' : Store) → is_active w.machine s ≡ true → w'.numbers ≡ w.numbers
    → IsBareEnd s false w.machine w'.machine → (IsTrue tells → IsToldEnd s false w w') → IsStopped tells s w w'
stopped-open tells s w w' active numbers bare_end told = record {
  numbers = numbers;
  closed = bare-active w'.machine (next w.machine s (Closes false)) s bare_end
      ∙ active-closed w.machine s s false (λ other. absurd (other refl));
  others = λ t was. bare-active w'.machine (next w.machine s (Closes false)) t bare_end ∙ active-closed w.machine s t false (λ _. was);
  machine = λ tell. (told tell).machine ∙ sym (ap (λ b. if b then next w.machine s (Closes false) else w.machine) active);
  moment = λ tell past by. (told tell).moment past by;
}

-- an abort of one session leaves what another holds
settled-holder : (s t stamp : ℕ) (slot : Slot) → t ≢ s → is_holder t (settled s false stamp slot).holder ≡ is_holder t slot.holder
settled-holder s t stamp slot other = elim (cases_Bool (is_holder s slot.holder)) [
  | inl mine ↦ rw mine (sym (held-other s t slot.holder mine other))
  | inr away ↦ ap (λ (x : Slot). is_holder t x.holder) (settled-other s stamp false slot away)
]

aborted-holder : (m : Machine) (s t o : ℕ) → t ≢ s → is_holder t (slot_at (aborted s m) o).holder ≡ is_holder t (slot_at m o).holder
aborted-holder m s t o other = elim (cases_Bool (is_active m s)) [
  | inl active ↦
      ap (λ b. is_holder t (slot_at (if b then next m s (Closes false) else m) o).holder) active
      ∙ ap (λ (x : Slot). is_holder t x.holder) (slot_at-settled m.slots s (stamp_of m s) false o)
      ∙ settled-holder s t (stamp_of m s) (slot_at m o) other
  | inr idle ↦ ap (λ b. is_holder t (slot_at (if b then next m s (Closes false) else m) o).holder) idle
]

-- nor do those of all sessions before it
pub all-aborted_holder : (n t o : ℕ) (m : Machine) → n < t
    → is_holder t (slot_at (machine_aborted n m) o).holder ≡ is_holder t (slot_at m o).holder
all-aborted_holder zero t o m low = ap (λ k. is_holder t (slot_at k o).holder) (sym (machine_aborted-none 0 m refl))
all-aborted_holder (suc n) t o m low =
    ap (λ k. is_holder t (slot_at k o).holder) (machine_aborted-more n (suc n) m (omega arith))
    ∙ aborted-holder (machine_aborted n m) (suc n) t o (λ e. absurd (omega (arith, low, e)))
    ∙ all-aborted_holder n t o m (omega (arith, low))

pub all_aborted-none : (n : ℕ) (past : List Event) (moment : Moment) → n ≡ 0 → moment ≡ all_aborted n past moment
all_aborted-none zero past moment none = refl
all_aborted-none (suc n) past moment none = absurd (omega (arith, none))

pub all_aborted-more : (n k : ℕ) (past : List Event) (moment : Moment) → k ≡ n + 1
    → all_aborted k past moment ≡ aborted_by k past (all_aborted n past moment)
all_aborted-more n zero past moment is = absurd (omega (arith, is))
all_aborted-more n (suc k) past moment is =
    let same : k ≡ n = omega (arith, is) in ap (λ i. aborted_by (suc k) past (all_aborted i past moment)) same

pub stopped-none : (tells : Bool) (n : ℕ) (w : Store) → n ≡ 0 → HaveStopped tells n w w
stopped-none tells n w none = record {
  numbers = refl;
  idle = λ s upto. let zeroth : s ≡ 0 = omega (arith, upto, none) in ap (is_active w.machine) zeroth;
  machine = λ tell. machine_aborted-none n w.machine none;
  moment = λ tell past by. all_aborted-none n past w.moment none;
}

pub stopped-more : (tells : Bool) (n : ℕ) (w w' w'' : Store) → n < SESSIONS → HaveStopped tells n w w' → IsStopped tells (n + 1) w' w''
    → HaveStopped tells (n + 1) w w''
stopped-more tells n w w' w'' low have stop = record {
  numbers = stop.numbers ∙ have.numbers;
  idle = λ s upto. elim (cases_eq s (n + 1)) [
    | inl this ↦ ap (is_active w''.machine) this ∙ stop.closed
    | inr other ↦ stop.others s (have.idle s (omega (arith, upto, other)))
  ];
  machine = λ tell. stop.machine tell ∙ ap (aborted (n + 1)) (have.machine tell)
      ∙ sym (machine_aborted-more n (n + 1) w.machine (omega arith));
  moment = λ tell past by.
      stop.moment tell past (λ o. by (n + 1) (omega arith) (omega (arith, low)) o
      ∙ sym (all-aborted_holder n (n + 1) o w.machine (omega arith))
      ∙ ap (λ m. is_holder (n + 1) (slot_at m o).holder) (sym (have.machine tell)))
      ∙ ap (aborted_by (n + 1) past) (have.moment tell past by)
      ∙ sym (all_aborted-more n (n + 1) past w.moment (omega arith));
}

-- with nothing open all objects are on the shelf
pub all-home : {T : Type 0} (shelf : List (Option T)) (txns : List (Transaction T)) → ShareObjects shelf txns
    → ((i : ℕ) → i < SESSIONS → (txn_at txns i).is_open ≡ false) → All IsSome shelf
all-home {T} shelf txns tied closed o d within = by (get_or shelf o d) (slice_get-get_or shelf o d within)
  where
    by : (place : Option T) → slice_get shelf o ≡ Some place → IsSome place
    by (Some x) is = refl
    by None is =
        let had = tied.taken o is in
        let empty : (txn_at txns had.0).held ≡ [] = (tied.sound had.0 had.1).idle (closed had.0 had.1) in
        absurd (false≢true (sym (ap (λ held. is_some (held_object {T = T} o held)) empty) ∙ had.2))

-- and with all sessions stopped nothing is open
pub home-stopped : {T : Type 0} (show : T → Shown) (shelf : List (Option T)) (txns : List (Transaction T)) (m : Machine) (n : ℕ)
    → machine_seen show shelf txns ≡ m → SESSIONS ≤ n → ShareObjects shelf txns → ((s : ℕ) → s ≤ n → is_active m s ≡ false)
    → All IsSome shelf
home-stopped show shelf txns m n view many tied idle =
    all-home shelf txns tied (λ i within.
    let place : i ≡ i + 1 - 1 = omega arith in
    ap (λ k. (txn_at txns k).is_open) place
    ∙ sym (is_active-read show shelf txns m (i + 1) view (omega arith))
    ∙ idle (i + 1) (omega (arith, within, many)))
