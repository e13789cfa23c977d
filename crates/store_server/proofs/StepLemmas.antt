-- A command that was served, and one that couldn't be read.
use Rattle.std.proofs.Common.{◌≡◌, ℕ, ◌<◌, ◌≤◌, length, refl, sym, ap, subst, ◌∙◌, inl, Some, None, arith}
use Rattle.std.specs.Prelude.{Bool, IsTrue}
use Rattle.eos_ops.specs.declared.command.Command.{Command}
use Rattle.eos_ops.specs.declared.command.Command.TheVariants as command
use Rattle.eos_ops.specs.declared.edit.Edit.{Edit}
use Rattle.eos_ops.specs.declared.limits.TheConstants.{SESSIONS}
use Rattle.eos_ops.specs.declared.reply.Reply.{Reply}
use Rattle.eos_ops.specs.declared.reply.Reply.TheVariants as reply
use Rattle.fault_count.proofs.CountLaws.{IsUsed-none}
use Rattle.geometry_model.specs.Numbers.{Numbers}
use Rattle.history.specs.Event.{deed}
use Rattle.machine.specs.Machine.{Machine, bare}
use Rattle.machine.specs.Next.{next}
use Rattle.machine.proofs.Answering.{deed_memory}
use Rattle.machine.proofs.Sizes.{seats-next}
use Rattle.moment_model.specs.Moment.{ObjectSlot}
use Rattle.moment_model.specs.Run.{Lays}
use Rattle.script_model.specs.Grammar.{CommandFits}
use Rattle.script_text.specs.Failing.{BringsBytes}
use Rattle.script_text.proofs.MemoryLemmas.{brings-memory}
use Rattle.store_model.specs.Store.{IsOwedStep, IsToldStep}
use Rattle.body_world.specs.Keeping.{WorldView}
use Rattle.body_world.specs.Pages.{MovesPages, UsesPort}
use Rattle.body_world.specs.Served.{NamesThresholdIn}
use Rattle.body_world.proofs.Stepping.{session-in, unmoved}
use Rattle.store_server.specs.Step.{IsServerStep}

-- what the grammar lets a command name is a threshold of a store
pub names-threshold : (c : Command) → CommandFits c → NamesThresholdIn c
names-threshold (command.Create o None) fits = tt
names-threshold (command.Create o (Some t)) fits = fits.1
names-threshold (command.Destroy o) fits = tt
names-threshold (command.Append o p) fits = tt
names-threshold (command.Insert o at p) fits = tt
names-threshold (command.Delete o at n) fits = tt
names-threshold (command.Replace o at p) fits = tt
names-threshold (command.Length o) fits = tt
names-threshold (command.Read o at n) fits = tt
names-threshold command.Begin fits = tt
names-threshold command.Commit fits = tt
names-threshold command.Abort fits = tt
names-threshold command.Status fits = tt

-- no command changes how many sessions there are
seats-kept : (m m' : Machine) (s : ℕ) (c : Command) (r : Reply) → length m.seats ≡ SESSIONS → IsOwedStep m s c r m' →
    length m'.seats ≡ SESSIONS
seats-kept m m' s c r seats step =
    ap (λ (x : Machine). length x.seats) step.state ∙ seats-next (deed c r) m s ∙ seats

-- what a step of the world says is a step of its server
pub step-made : (tells on_pages : Bool) (laid : Lays)
    (may_write : Numbers → ObjectSlot → Edit → ObjectSlot → ℕ → Type 0) (may_read : Numbers → ObjectSlot → ℕ → ℕ → Type 0)
    (w v w' : WorldView) (s : ℕ) (c : Command) (r : Reply) → w ≡ v → IsOwedStep v.store.machine s c r w'.store.machine →
    (IsTrue tells → IsTrue on_pages → IsToldStep laid v.store s c r w'.store) → w'.store.numbers ≡ v.store.numbers →
    UsesPort v.meter w'.meter (r ≡ reply.Fault) →
    (IsTrue tells → MovesPages may_write may_read v.store w'.store c v.meter w'.meter) →
    IsServerStep tells on_pages laid may_write may_read w s c r w'
step-made tells on_pages laid may_write may_read w v w' s c r same owed told numbers port pages =
    subst (λ x. IsServerStep tells on_pages laid may_write may_read x s c r w') (sym same)
    (record { owed = owed; told = told; numbers = numbers; port = port; pages = pages })

pub seats-made : (w v w' : WorldView) (s : ℕ) (c : Command) (r : Reply) → w ≡ v → length w.store.machine.seats ≡ SESSIONS →
    IsOwedStep v.store.machine s c r w'.store.machine → length w'.store.machine.seats ≡ SESSIONS
seats-made w v w' s c r same seats step =
    seats-kept v.store.machine w'.store.machine s c r
    (subst (λ (x : WorldView). length x.store.machine.seats ≡ SESSIONS) same seats) step

-- a command for whose bytes there was no memory moves no page
still-pages : (may_write : Numbers → ObjectSlot → Edit → ObjectSlot → ℕ → Type 0) (may_read : Numbers → ObjectSlot → ℕ → ℕ → Type 0)
    (w : WorldView) (c : Command) → BringsBytes c → MovesPages may_write may_read w.store w.store c w.meter w.meter
still-pages may_write may_read w (command.Append o p) brings = inl refl
still-pages may_write may_read w (command.Insert o at p) brings = inl refl
still-pages may_write may_read w (command.Replace o at p) brings = inl refl
still-pages may_write may_read w command.Begin brings = absurd brings
still-pages may_write may_read w (command.Create o t) brings = absurd brings
still-pages may_write may_read w (command.Destroy o) brings = absurd brings
still-pages may_write may_read w (command.Length o) brings = absurd brings
still-pages may_write may_read w (command.Read o at n) brings = absurd brings
still-pages may_write may_read w (command.Delete o at n) brings = absurd brings
still-pages may_write may_read w command.Commit brings = absurd brings
still-pages may_write may_read w command.Abort brings = absurd brings
still-pages may_write may_read w command.Status brings = absurd brings

-- such a command is answered with `memory`, and nothing has changed
pub step-unread : (tells on_pages : Bool) (laid : Lays)
    (may_write : Numbers → ObjectSlot → Edit → ObjectSlot → ℕ → Type 0) (may_read : Numbers → ObjectSlot → ℕ → ℕ → Type 0)
    (w : WorldView) (s : ℕ) (c : Command) → 0 < s → s ≤ SESSIONS → length w.store.machine.seats ≡ SESSIONS → BringsBytes c →
    IsServerStep tells on_pages laid may_write may_read w s c reply.Memory w
step-unread tells on_pages laid may_write may_read w s c low high seats brings =
    let m = w.store.machine in
    let session = session-in m s SESSIONS seats low high in
    let still : m ≡ next m s (deed c reply.Memory) = ap (λ d. next m s d) (sym (deed_memory c)) in
    record {
      owed = record {
        owed = record { session = session; reply = inl (refl, brings-memory c brings) };
        state = ap bare still;
      };
      told = λ tell pages. record {
        numbers = refl;
        event = record { session = session; reply = inl (refl, brings-memory c brings) };
        machine = still;
        moment = λ past by. unmoved laid w.store.numbers s past w.store.moment c reply.Memory refl;
        agrees = tt;
      };
      numbers = refl;
      port = record {
        counts = IsUsed-none w.meter;
        cause = record { kept = omega arith; raised = λ fault. absurd (cc); still = λ none. refl };
      };
      pages = λ tell. still-pages may_write may_read w c brings;
    }
