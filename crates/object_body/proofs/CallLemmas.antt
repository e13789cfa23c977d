-- What calls leave that touch no space, and no page of the device.
use Rattle.std.proofs.Common.{◌≡◌, ℕ, ◌+◌, ◌<◌, ◌≤◌, Bool, IsTrue, List, [], length, take, drop, Option, None, Some, Result, Ok, Err}
use Rattle.std.proofs.Common.{refl, sym, ap, subst, arith, ◌∙◌}
use Rattle.std.specs.Prelude.{IfOk}
use Rattle.std.proofs.lemmas.Bool.{le-leb}
use Rattle.base_laws.proofs.OptionLaws.{some-inner}
use Rattle.eos_ops.specs.declared.edit.Edit.{Edit}
use Rattle.eos_ops.specs.declared.plain.Plain.{Plain}
use Rattle.eos_ops.specs.declared.plain.Plain.TheVariants.{Absent, Present}
use Rattle.eos_ops.specs.declared.reply.Reply.TheVariants as reply
use Rattle.eos_ops.specs.Objects.{read_in}
use Rattle.fault_count.specs.Counts.{HasCause, IsUsed, Meter}
use Rattle.moment_model.specs.Moment.{ObjectSlot}
use Rattle.moment_model.specs.Run.{Lays}
use Rattle.geometry_model.specs.Numbers.{Numbers}
use Rattle.superdirectory.specs.Grants.{KeepsFrame}
use Rattle.superdirectory.specs.Rest.{Rest, count}
use Rattle.superdirectory.proofs.Traces.{part_none}
use Rattle.object_body.specs.declared.fails.EditFail.TheVariants.{Fault, Memory}
use Rattle.object_body.specs.declared.fails.LookFail.{LookFail}
use Rattle.object_body.specs.declared.fails.LookFail.TheVariants as look
use Rattle.object_body.specs.Form.{Form, Contents, AreTied}
use Rattle.object_body.specs.Lengths.{length_of}
use Rattle.object_body.specs.Calls.{Stage, IsEdit, IsBodyRead, IsExplained, IsWithin}
use Rattle.object_body.specs.Memory.{EditMayTakeMemory}
use Rattle.object_body.proofs.MoveLemmas.{same-untouched}

-- no call of the port
pub used-not : (meter : Meter) → IsUsed meter meter
used-not meter = record { page = refl; faults = omega arith; read = omega arith; written = omega arith }

pub cause-none : (faults : ℕ) (Failed : Type 0) → (Failed → ⊥) → HasCause faults faults Failed
cause-none faults Failed never = record { kept = omega arith; raised = λ failed. absurd (never failed); still = λ none. refl }

-- nothing but the frame and the rest of the spaces is known
pub keeps-frame : (rest : Rest) → rest.entered ≡ None → KeepsFrame rest rest
keeps-frame rest none = record { frame = refl; entered = none }

-- want of memory, with nothing touched
pub no-memory : (tells : Bool) (suits : Contents → Type 0) (laid : Lays) (may_refuse : Numbers → ObjectSlot → ℕ → Type 0)
    (may_write : Numbers → ObjectSlot → Edit → ObjectSlot → ℕ → Type 0) (start : ℕ) (edit : Edit) (stage : Stage) (meter : Meter) →
    stage.rest.entered ≡ None → may_write stage.form.numbers stage.told.slot edit stage.told.slot 0 →
    (IsTrue tells → AreTied suits stage.form stage.told) → EditMayTakeMemory edit →
    IsEdit tells suits laid may_refuse may_write start edit (Err Memory) stage stage meter meter
no-memory tells suits laid may_refuse may_write start edit stage meter none allowed tied may = record {
  outcome = tt;
  form = tt;
  unmade = refl;
  rest = keeps-frame stage.rest none;
  low = part_none (IsExplained (count stage.rest) (Err Memory)) stage.trace tt;
  port = used-not meter;
  cause = cause-none meter.faults (Err Memory ≡ Err Fault) (λ same. absurd cc);
  memory = λ wanted. may;
  told = λ tell. record {
    working = tt;
    committed = refl;
    kept = refl;
    unmade = refl;
    granted = λ views told long. tt;
    spaces = λ views told home. same-untouched stage.form.numbers stage.rest.frame views stage.rest told home;
    small = tt;
    writes = record { pages = 0; allowed = allowed; most = omega arith };
  };
  tied = tied;
}

-- what a read within the bytes gives
pub read-of : (at n : ℕ) (x : List ℕ) → at + n ≤ length x → read_in at n (Present x) ≡ reply.Bytes (take n (drop at x))
read-of at n x within = rw (le-leb (at + n) (length x) within) refl

read-nothing : (at n : ℕ) (object : Plain) → n ≡ 0 → IsWithin (length_of object) at n → reply.Bytes [] ≡ read_in at n object
read-nothing at n Absent none within = let never : None ≡ Some within.bytes = within.present in absurd cc
read-nothing at n (Present x) none within =
    let same = some-inner (length x) within.bytes within.present in
    let range = within.range in
    let nothing : reply.Bytes (take n (drop at x)) ≡ reply.Bytes [] =
    subst (λ (k : ℕ). reply.Bytes (take k (drop at x)) ≡ reply.Bytes []) (sym none) refl in
    sym (read-of at n x (omega (arith, same, range)) ∙ nothing)

-- a read that gives no byte where none is asked for, and else wants memory
pub empty-read : (tells : Bool) (suits : Contents → Type 0) (may_read : Numbers → ObjectSlot → ℕ → ℕ → Type 0) (at n : ℕ)
    (result : Result (List ℕ) LookFail) (form : Form) (told : Contents) (meter : Meter) → IsWithin form.working at n →
    may_read form.numbers told.slot n 0 → (IsTrue tells → AreTied suits form told) →
    IfOk result (λ bytes. (bytes ≡ []) × (n ≡ 0)) → (result ≡ Err look.Fault → ⊥) → (result ≡ Err look.Memory → 0 < n) →
    IsBodyRead tells suits may_read at n result form form told told meter meter
empty-read tells suits may_read at n result form told meter within allowed tied gives no_fault some = record {
  same = refl;
  count = counts result gives;
  bytes = λ tell. shows result gives (subst (λ (o : Option ℕ). IsWithin o at n) (tied tell).working within);
  kept = λ tell. refl;
  reads = λ tell. record { pages = 0; allowed = allowed; none = refl; most = omega arith };
  port = used-not meter;
  cause = cause-none meter.faults (result ≡ Err look.Fault) no_fault;
  memory = some;
  tied = tied;
} where
  counts : (result : Result (List ℕ) LookFail) → IfOk result (λ bytes. (bytes ≡ []) × (n ≡ 0)) → IfOk result (λ bytes. length bytes ≡ n)
  counts (Ok bytes) is = ap length is.0 ∙ sym is.1
  counts (Err fail) is = tt

  shows : (result : Result (List ℕ) LookFail) → IfOk result (λ bytes. (bytes ≡ []) × (n ≡ 0)) → IsWithin (length_of told.working) at n →
      IfOk result (λ bytes. reply.Bytes bytes ≡ read_in at n told.working)
  shows (Ok bytes) is within = ap reply.Bytes is.0 ∙ read-nothing at n told.working is.1 within
  shows (Err fail) is within = tt
