-- What a command on an object made of a world, whether it was refused or served.
use Rattle.std.proofs.Common.{◌≡◌, ℕ, ◌+◌, ◌-◌, ◌%◌, ◌<◌, ◌≤◌, Bool, true, false, List, set, Option, Some, None, refl, ap, sym}
use Rattle.std.proofs.Common.{◌∙◌, subst, arith, inl, inr, if◌then◌else◌}
use Rattle.std.specs.Prelude.{IsTrue}
use Rattle.eos_ops.specs.declared.command.Command.{Command}
use Rattle.eos_ops.specs.declared.edit.Edit.{Edit}
use Rattle.eos_ops.specs.declared.limits.TheConstants.{SESSIONS}
use Rattle.eos_ops.specs.declared.reply.Reply.{Reply}
use Rattle.eos_ops.specs.declared.reply.Reply.TheVariants as reply
use Rattle.eos_ops.specs.Objects.{object_of, is_too_long}
use Rattle.fault_count.specs.Counts.{Meter}
use Rattle.geometry_model.specs.Numbers.{Numbers}
use Rattle.layout_model.specs.Layout.{Tree}
use Rattle.machine.specs.Machine.{IsSession, is_active}
use Rattle.machine.specs.Replies.{object_refused, refused, IsStep}
use Rattle.moment_model.specs.Moment.{ObjectSlot, Moment}
use Rattle.moment_model.specs.Run.{Lays, is_ok_reply, Agrees}
use Rattle.object_body.specs.Calls.{RefusesTaken}
use Rattle.object_body.specs.Form.{Contents, HaveLengthsBy}
use Rattle.object_body.proofs.CallLemmas.{used-not, cause-none}
use Rattle.shadow_txn.specs.Transaction.{Transaction}
use Rattle.soundness_laws.specs.Keeping.{KeepsSoundness}
use Rattle.store_model.specs.Store.{Store, IsOwedStep, IsToldStep}
use Rattle.superdirectory.specs.Rest.{count}
use Rattle.world.proofs.Deeds.{refusal_at, refused-object}
use Rattle.world.proofs.Steps.{step-refused}
use Rattle.world.proofs.Readings.{below}
use Rattle.body_world.specs.Keeping.{IsWorld}
use Rattle.body_world.specs.Pages.{MovesPages, UsesPort}
use Rattle.body_world.specs.Served.{Works, MakesCommand, IsServed, IsAnswer, NamesThresholdIn}
use Rattle.body_world.specs.Session.{Shown, refused_by}
use Rattle.body_world.specs.Ties.{txn_at, machine_seen, moment_seen, viewed}
use Rattle.body_world.proofs.Costs.{moves-none, moves-made}
use Rattle.body_world.proofs.Readings.{is_active-read, session-read, set-as_was}
use Rattle.body_world.proofs.Refusing.{object_refused-seen, refused-reply}
use Rattle.body_world.proofs.ServedRoles.{world-served}
use Rattle.body_world.proofs.ServedWorlds.{Answered, answered, pages-now, pages-was, numbers-was}
use Rattle.body_world.proofs.WorldSteps.{step-owed, step-told}
use Rattle.body_world.proofs.Stepping.{owed-step, told-still, unmoved}

-- a port that wasn't used
pub port-still : (used now : Meter) (Failed : Type 0) → now ≡ used → (Failed → ⊥) → UsesPort used now Failed
port-still used now Failed same never =
    subst (λ m. UsesPort used m Failed) (sym same) (record { counts = used-not used; cause = cause-none used.faults Failed never })

-- A command on an object of a session with a transaction open, and what was answered to it.
pub record Asks {T : Type 0} (tells : Bool) (suits : Contents → Type 0) (laid : Lays) (may_refuse : Numbers → ObjectSlot → ℕ → Type 0)
    (may_write : Numbers → ObjectSlot → Edit → ObjectSlot → ℕ → Type 0) (may_read : Numbers → ObjectSlot → ℕ → ℕ → Type 0)
    (good : Numbers → Tree → Type 0) (show : T → Shown) (n : Numbers) (shelf : List (Option T)) (txns : List (Transaction T))
    (s : ℕ) (c : Command) (o : ℕ) (r : Reply) (shelf' : List (Option T)) (txn' : Transaction T) (before after : Works) : Type 0 where
  pub from_one : 0 < s
  pub upto : s ≤ SESSIONS
  pub short : is_too_long c ≡ false
  pub on : object_of c ≡ Some o
  pub names : NamesThresholdIn c
  pub active : (txn_at txns (s - 1)).is_open ≡ true
  pub world : IsWorld tells good show n shelf txns before.spaces.rest before.meter.page
  pub answer : IsAnswer tells suits show
      (MakesCommand tells suits laid may_refuse may_write may_read (((txn_at txns (s - 1)).session - 1) % count before.spaces.rest) c r)
      c o r shelf (txn_at txns (s - 1)) before shelf' txn' after

-- the session has its number
numbered : {T : Type 0} (tells : Bool) (suits : Contents → Type 0) (laid : Lays) (may_refuse : Numbers → ObjectSlot → ℕ → Type 0)
    (may_write : Numbers → ObjectSlot → Edit → ObjectSlot → ℕ → Type 0) (may_read : Numbers → ObjectSlot → ℕ → ℕ → Type 0)
    (good : Numbers → Tree → Type 0) (show : T → Shown) (n : Numbers) (shelf : List (Option T)) (txns : List (Transaction T))
    (s : ℕ) (c : Command) (o : ℕ) (r : Reply) (shelf' : List (Option T)) (txn' : Transaction T) (before after : Works)
    → (h : Asks tells suits laid may_refuse may_write may_read good show n shelf txns s c o r shelf' txn' before after)
    → (txn_at txns (s - 1)).session ≡ s
numbered tells suits laid may_refuse may_write may_read good show n shelf txns s c o r shelf' txn' before after h =
    let own : (txn_at txns (s - 1)).session ≡ s - 1 + 1 = h.world.work.shares.numbers (s - 1) (below s h.from_one h.upto) in
    omega (arith, own, h.from_one)

-- what was served
abbrev as-answered : {T : Type 0} (tells : Bool) (suits : Contents → Type 0) (laid : Lays) (may_refuse : Numbers → ObjectSlot → ℕ → Type 0)
    (may_write : Numbers → ObjectSlot → Edit → ObjectSlot → ℕ → Type 0) (may_read : Numbers → ObjectSlot → ℕ → ℕ → Type 0)
    (good : Numbers → Tree → Type 0) (show : T → Shown) (n : Numbers) (shelf : List (Option T)) (txns : List (Transaction T))
    (s : ℕ) (c : Command) (o : ℕ) (r : Reply) (shelf' : List (Option T)) (txn' : Transaction T) (before after : Works)
    → (h : Asks tells suits laid may_refuse may_write may_read good show n shelf txns s c o r shelf' txn' before after)
    → IsServed tells suits show
    (λ x y. MakesCommand tells suits laid may_refuse may_write may_read (((txn_at txns (s - 1)).session - 1) % count before.spaces.rest)
    c r x y before after) c o r shelf (txn_at txns (s - 1)) shelf' txn'
    → Answered tells suits laid good show n shelf txns (s - 1) c o r shelf' txn' before after
as-answered tells suits laid may_refuse may_write may_read good show n shelf txns s c o r shelf' txn' before after h served =
    answered tells suits laid may_refuse may_write may_read good show n shelf txns (s - 1) c o r shelf' txn' before after
    (below s h.from_one h.upto) h.on h.names h.world served

-- the first refusal of the machine is that of the session and the shelf
refusal : {T : Type 0} (tells : Bool) (suits : Contents → Type 0) (laid : Lays) (may_refuse : Numbers → ObjectSlot → ℕ → Type 0)
    (may_write : Numbers → ObjectSlot → Edit → ObjectSlot → ℕ → Type 0) (may_read : Numbers → ObjectSlot → ℕ → ℕ → Type 0)
    (good : Numbers → Tree → Type 0) (show : T → Shown) (n : Numbers) (shelf : List (Option T)) (txns : List (Transaction T))
    (s : ℕ) (c : Command) (o : ℕ) (r : Reply) (shelf' : List (Option T)) (txn' : Transaction T) (before after : Works)
    → (h : Asks tells suits laid may_refuse may_write may_read good show n shelf txns s c o r shelf' txn' before after)
    → refusal_at (machine_seen show shelf txns) s o ≡ refused_by show shelf (txn_at txns (s - 1)) o
refusal tells suits laid may_refuse may_write may_read good show n shelf txns s c o r shelf' txn' before after h =
    let within = below s h.from_one h.upto in
    let active : is_active (machine_seen show shelf txns) s ≡ true =
    is_active-read show shelf txns (machine_seen show shelf txns) s refl h.from_one ∙ h.active in
    let same : s - 1 + 1 ≡ s = omega (arith, h.from_one) in
    ap (λ b. if b then object_refused (machine_seen show shelf txns) s o else Some reply.Idle) active
    ∙ ap (λ k. object_refused (machine_seen show shelf txns) k o) (sym same)
    ∙ object_refused-seen show shelf txns (s - 1) o within h.world.work.shares

session : {T : Type 0} (tells : Bool) (suits : Contents → Type 0) (laid : Lays) (may_refuse : Numbers → ObjectSlot → ℕ → Type 0)
    (may_write : Numbers → ObjectSlot → Edit → ObjectSlot → ℕ → Type 0) (may_read : Numbers → ObjectSlot → ℕ → ℕ → Type 0)
    (good : Numbers → Tree → Type 0) (show : T → Shown) (n : Numbers) (shelf : List (Option T)) (txns : List (Transaction T))
    (s : ℕ) (c : Command) (o : ℕ) (r : Reply) (shelf' : List (Option T)) (txn' : Transaction T) (before after : Works)
    → (h : Asks tells suits laid may_refuse may_write may_read good show n shelf txns s c o r shelf' txn' before after)
    → IsSession (machine_seen show shelf txns) s
session tells suits laid may_refuse may_write may_read good show n shelf txns s c o r shelf' txn' before after h =
    session-read show shelf txns (machine_seen show shelf txns) s refl h.from_one h.upto h.world.work.shares

-- a command that is refused is a step of the machine
step-by_refusal : {T : Type 0} (tells : Bool) (suits : Contents → Type 0) (laid : Lays) (may_refuse : Numbers → ObjectSlot → ℕ → Type 0)
    (may_write : Numbers → ObjectSlot → Edit → ObjectSlot → ℕ → Type 0) (may_read : Numbers → ObjectSlot → ℕ → ℕ → Type 0)
    (good : Numbers → Tree → Type 0) (show : T → Shown) (n : Numbers) (shelf : List (Option T)) (txns : List (Transaction T))
    (s : ℕ) (c : Command) (o : ℕ) (r : Reply) (shelf' : List (Option T)) (txn' : Transaction T) (before after : Works)
    → (h : Asks tells suits laid may_refuse may_write may_read good show n shelf txns s c o r shelf' txn' before after)
    → refused_by show shelf (txn_at txns (s - 1)) o ≡ Some r
    → IsStep (machine_seen show shelf txns) s c r (machine_seen show shelf txns)
step-by_refusal tells suits laid may_refuse may_write may_read good show n shelf txns s c o r shelf' txn' before after h is =
    step-refused (machine_seen show shelf txns) s c o r h.short h.on (refusal tells suits laid may_refuse may_write may_read good show n
    shelf txns s c o r shelf' txn' before after h ∙ is)

free : {T : Type 0} (tells : Bool) (suits : Contents → Type 0) (laid : Lays) (may_refuse : Numbers → ObjectSlot → ℕ → Type 0)
    (may_write : Numbers → ObjectSlot → Edit → ObjectSlot → ℕ → Type 0) (may_read : Numbers → ObjectSlot → ℕ → ℕ → Type 0)
    (good : Numbers → Tree → Type 0) (show : T → Shown) (n : Numbers) (shelf : List (Option T)) (txns : List (Transaction T))
    (s : ℕ) (c : Command) (o : ℕ) (r : Reply) (shelf' : List (Option T)) (txn' : Transaction T) (before after : Works)
    → (h : Asks tells suits laid may_refuse may_write may_read good show n shelf txns s c o r shelf' txn' before after)
    → refused_by show shelf (txn_at txns (s - 1)) o ≡ None
    → refused (machine_seen show shelf txns) (txn_at txns (s - 1)).session c ≡ None
free tells suits laid may_refuse may_write may_read good show n shelf txns s c o r shelf' txn' before after h none =
    ap (λ k. refused (machine_seen show shelf txns) k c) (numbered tells suits laid may_refuse may_write may_read good show n shelf txns s
    c o r shelf' txn' before after h)
    ∙ refused-object (machine_seen show shelf txns) s c o h.short h.on ∙ refusal tells suits laid may_refuse may_write may_read good show n
    shelf txns s c o r shelf' txn' before after h ∙ none

own-session : {T : Type 0} (tells : Bool) (suits : Contents → Type 0) (laid : Lays) (may_refuse : Numbers → ObjectSlot → ℕ → Type 0)
    (may_write : Numbers → ObjectSlot → Edit → ObjectSlot → ℕ → Type 0) (may_read : Numbers → ObjectSlot → ℕ → ℕ → Type 0)
    (good : Numbers → Tree → Type 0) (show : T → Shown) (n : Numbers) (shelf : List (Option T)) (txns : List (Transaction T))
    (s : ℕ) (c : Command) (o : ℕ) (r : Reply) (shelf' : List (Option T)) (txn' : Transaction T) (before after : Works)
    → (h : Asks tells suits laid may_refuse may_write may_read good show n shelf txns s c o r shelf' txn' before after)
    → IsSession (machine_seen show shelf txns) (txn_at txns (s - 1)).session
own-session tells suits laid may_refuse may_write may_read good show n shelf txns s c o r shelf' txn' before after h =
    subst (IsSession (machine_seen show shelf txns)) (sym (numbered tells suits laid may_refuse may_write may_read good show n shelf txns s
    c o r shelf' txn' before after h)) (session tells suits laid may_refuse may_write may_read good show n shelf txns s c o r shelf' txn'
    before after h)

-- the world after it
pub world-asked : {T : Type 0} (tells : Bool) (suits : Contents → Type 0) (laid : Lays) (may_refuse : Numbers → ObjectSlot → ℕ → Type 0)
    (may_write : Numbers → ObjectSlot → Edit → ObjectSlot → ℕ → Type 0) (may_read : Numbers → ObjectSlot → ℕ → ℕ → Type 0)
    (good : Numbers → Tree → Type 0) (show : T → Shown) (n : Numbers) (shelf : List (Option T)) (txns : List (Transaction T))
    (s : ℕ) (c : Command) (o : ℕ) (r : Reply) (shelf' : List (Option T)) (txn' : Transaction T) (before after : Works)
    → (h : Asks tells suits laid may_refuse may_write may_read good show n shelf txns s c o r shelf' txn' before after)
    → KeepsSoundness laid good
    → IsWorld tells good show n shelf' (set txns (s - 1) txn') after.spaces.rest after.meter.page
world-asked tells suits laid may_refuse may_write may_read good show n shelf txns s c o r shelf' txn' before after h keeps =
    elim h.answer [
      | inl refused ↦
          subst (λ xs. IsWorld tells good show n xs (set txns (s - 1) txn') after.spaces.rest after.meter.page) (sym refused.1)
          (subst (λ ts. IsWorld tells good show n shelf ts after.spaces.rest after.meter.page)
          (sym (set-as_was txns (s - 1) txn' refused.2))
          (subst (λ (k : Works). IsWorld tells good show n shelf txns k.spaces.rest k.meter.page) (sym refused.3) h.world))
      | inr served ↦ world-served tells suits laid good show n shelf txns (s - 1) c o r shelf' txn' before after
          (as-answered tells suits laid may_refuse may_write may_read good show n shelf txns s c o r shelf' txn' before after h served.1)
          keeps
    ]

-- a refusal leaves the store
store-same : {T : Type 0} (show : T → Shown) (n : Numbers) (shelf : List (Option T)) (txns : List (Transaction T)) (i : ℕ)
    (shelf' : List (Option T)) (txn' : Transaction T) → shelf' ≡ shelf → txn' ≡ txn_at txns i
    → viewed show n shelf' (set txns i txn') ≡ viewed show n shelf txns
store-same show n shelf txns i shelf' txn' shelves sessions =
    ap (λ xs. viewed show n xs (set txns i txn')) shelves ∙ ap (viewed show n shelf) (set-as_was txns i txn' sessions)

-- the step, over every device
pub owed-asked : {T : Type 0} (tells : Bool) (suits : Contents → Type 0) (laid : Lays) (may_refuse : Numbers → ObjectSlot → ℕ → Type 0)
    (may_write : Numbers → ObjectSlot → Edit → ObjectSlot → ℕ → Type 0) (may_read : Numbers → ObjectSlot → ℕ → ℕ → Type 0)
    (good : Numbers → Tree → Type 0) (show : T → Shown) (n : Numbers) (shelf : List (Option T)) (txns : List (Transaction T))
    (s : ℕ) (c : Command) (o : ℕ) (r : Reply) (shelf' : List (Option T)) (txn' : Transaction T) (before after : Works)
    → (h : Asks tells suits laid may_refuse may_write may_read good show n shelf txns s c o r shelf' txn' before after)
    → IsOwedStep (machine_seen show shelf txns) s c r (machine_seen show shelf' (set txns (s - 1) txn'))
owed-asked tells suits laid may_refuse may_write may_read good show n shelf txns s c o r shelf' txn' before after h =
    elim h.answer [
      | inl refused ↦
          subst (IsOwedStep (machine_seen show shelf txns) s c r)
          (sym (ap (λ (w : Store). w.machine) (store-same show n shelf txns (s - 1) shelf' txn' refused.1 refused.2)))
          (owed-step (machine_seen show shelf txns) (machine_seen show shelf txns) s c r (session tells suits laid may_refuse may_write
          may_read good show n shelf txns s c o r shelf' txn' before after h)
          (step-by_refusal tells suits laid may_refuse may_write may_read good show n shelf txns s c o r shelf' txn' before after h
          refused.0))
      | inr served ↦
          subst (λ k. IsOwedStep (machine_seen show shelf txns) k c r (machine_seen show shelf' (set txns (s - 1) txn')))
          (numbered tells suits laid may_refuse may_write may_read good show n shelf txns s c o r shelf' txn' before after h)
          (step-owed tells suits laid good show n shelf txns (s - 1) c o r shelf' txn' before after
          (as-answered tells suits laid may_refuse may_write may_read good show n shelf txns s c o r shelf' txn' before after h served.1)
          (free tells suits laid may_refuse may_write may_read good show n shelf txns s c o r shelf' txn' before after h served.0)
          (own-session tells suits laid may_refuse may_write may_read good show n shelf txns s c o r shelf' txn' before after h))
    ]

-- and where bytes are told
pub told-asked : {T : Type 0} (tells : Bool) (suits : Contents → Type 0) (laid : Lays) (may_refuse : Numbers → ObjectSlot → ℕ → Type 0)
    (may_write : Numbers → ObjectSlot → Edit → ObjectSlot → ℕ → Type 0) (may_read : Numbers → ObjectSlot → ℕ → ℕ → Type 0)
    (good : Numbers → Tree → Type 0) (show : T → Shown) (n : Numbers) (shelf : List (Option T)) (txns : List (Transaction T))
    (s : ℕ) (c : Command) (o : ℕ) (r : Reply) (shelf' : List (Option T)) (txn' : Transaction T) (before after : Works)
    → (h : Asks tells suits laid may_refuse may_write may_read good show n shelf txns s c o r shelf' txn' before after) → IsTrue tells
    → HaveLengthsBy suits → RefusesTaken laid
    → IsToldStep laid (viewed show n shelf txns) s c r (viewed show n shelf' (set txns (s - 1) txn'))
told-asked tells suits laid may_refuse may_write may_read good show n shelf txns s c o r shelf' txn' before after h tell lengths
    refuses =
    elim h.answer [
      | inl refused ↦
          let moment : Moment = moment_seen show shelf txns in
          let still = refused-reply show shelf (txn_at txns (s - 1)) o r (λ t. (is_ok_reply t ≡ false) × Agrees laid n moment s c t)
          (refl, tt) (refl, tt) (refl, tt) (refl, tt) refused.0 in
          subst (IsToldStep laid (viewed show n shelf txns) s c r)
          (sym (store-same show n shelf txns (s - 1) shelf' txn' refused.1 refused.2))
          (told-still laid n moment (machine_seen show shelf txns) (machine_seen show shelf txns) s c r
          (session tells suits laid may_refuse may_write may_read good show n shelf txns s c o r shelf' txn' before after h)
          (step-by_refusal tells suits laid may_refuse may_write may_read good show n shelf txns s c o r shelf' txn' before after h
          refused.0) (λ past. unmoved laid n s past moment c r still.0) still.1)
      | inr served ↦
          subst (λ k. IsToldStep laid (viewed show n shelf txns) k c r (viewed show n shelf' (set txns (s - 1) txn')))
          (numbered tells suits laid may_refuse may_write may_read good show n shelf txns s c o r shelf' txn' before after h)
          (step-told tells suits laid good show n shelf txns (s - 1) c o r shelf' txn' before after
          (as-answered tells suits laid may_refuse may_write may_read good show n shelf txns s c o r shelf' txn' before after h served.1)
          tell lengths refuses (free tells suits laid may_refuse may_write may_read good show n shelf txns s c o r shelf' txn' before
          after h served.0) (own-session tells suits laid may_refuse may_write may_read good show n shelf txns s c o r shelf' txn' before
          after h))
    ]

-- the port, and why it failed
pub port-asked : {T : Type 0} (tells : Bool) (suits : Contents → Type 0) (laid : Lays) (may_refuse : Numbers → ObjectSlot → ℕ → Type 0)
    (may_write : Numbers → ObjectSlot → Edit → ObjectSlot → ℕ → Type 0) (may_read : Numbers → ObjectSlot → ℕ → ℕ → Type 0)
    (good : Numbers → Tree → Type 0) (show : T → Shown) (n : Numbers) (shelf : List (Option T)) (txns : List (Transaction T))
    (s : ℕ) (c : Command) (o : ℕ) (r : Reply) (shelf' : List (Option T)) (txn' : Transaction T) (before after : Works)
    → (h : Asks tells suits laid may_refuse may_write may_read good show n shelf txns s c o r shelf' txn' before after)
    → UsesPort before.meter after.meter (r ≡ reply.Fault)
port-asked tells suits laid may_refuse may_write may_read good show n shelf txns s c o r shelf' txn' before after h =
    elim h.answer [
      | inl refused ↦ subst (λ (k : Works). UsesPort before.meter k.meter (r ≡ reply.Fault)) (sym refused.3)
          (port-still before.meter before.meter (r ≡ reply.Fault) refl
          (refused-reply show shelf (txn_at txns (s - 1)) o r (λ t. t ≡ reply.Fault → ⊥)
          (λ e. cc) (λ e. cc) (λ e. cc) (λ e. cc) refused.0))
      | inr served ↦
          let a = as-answered tells suits laid may_refuse may_write may_read good show n shelf txns s c o r shelf' txn' before after h
          served.1 in
          record { counts = a.made.used; cause = a.made.cause }
    ]

-- and the pages that were moved
pub pages-asked : {T : Type 0} (tells : Bool) (suits : Contents → Type 0) (laid : Lays) (may_refuse : Numbers → ObjectSlot → ℕ → Type 0)
    (may_write : Numbers → ObjectSlot → Edit → ObjectSlot → ℕ → Type 0) (may_read : Numbers → ObjectSlot → ℕ → ℕ → Type 0)
    (good : Numbers → Tree → Type 0) (show : T → Shown) (n : Numbers) (shelf : List (Option T)) (txns : List (Transaction T))
    (s : ℕ) (c : Command) (o : ℕ) (r : Reply) (shelf' : List (Option T)) (txn' : Transaction T) (before after : Works)
    → (h : Asks tells suits laid may_refuse may_write may_read good show n shelf txns s c o r shelf' txn' before after) → IsTrue tells
    → MovesPages may_write may_read (viewed show n shelf txns) (viewed show n shelf' (set txns (s - 1) txn')) c before.meter after.meter
pages-asked tells suits laid may_refuse may_write may_read good show n shelf txns s c o r shelf' txn' before after h tell =
    elim h.answer [
      | inl refused ↦ moves-none may_write may_read (viewed show n shelf txns) (viewed show n shelf' (set txns (s - 1) txn')) c
          before.meter after.meter (ap (λ (k : Works). k.meter) refused.3)
      | inr served ↦
          let a = as-answered tells suits laid may_refuse may_write may_read good show n shelf txns s c o r shelf' txn' before after h
          served.1 in
          moves-made tells suits laid may_refuse may_write may_read
          (((txn_at txns (s - 1)).session - 1) % count before.spaces.rest) c o r served.1.was.object served.1.now before after
          (viewed show n shelf txns) (viewed show n shelf' (set txns (s - 1) txn')) tell h.on
          (numbers-was tells suits laid good show n shelf txns (s - 1) c o r shelf' txn' before after a) (sym
          (pages-was tells suits laid good show n shelf txns (s - 1) c o r shelf' txn' before after a)) (sym
          (pages-now tells suits laid good show n shelf txns (s - 1) c o r shelf' txn' before after a)) served.1.makes
    ]
