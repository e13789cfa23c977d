-- The calls of an object in memory, as those of a body.
use Rattle.std.proofs.Common.{◌≡◌, ℕ, ◌+◌, ◌<◌, ◌≤◌, Bool, List, length, take, drop, Option, Some}
use Rattle.std.proofs.Common.{None, Result, Ok, Err, refl, sym, ap, subst, arith, ◌∙◌, inl, inr}
use Rattle.std.specs.Prelude.{IfOk}
use Rattle.std.proofs.lemmas.List.{length-take-le, length-drop}
use Rattle.base_laws.proofs.OptionLaws.{some-inner}
use Rattle.eos_ops.specs.declared.edit.Edit.{Edit}
use Rattle.eos_ops.specs.declared.outcome.Outcome.{Outcome}
use Rattle.eos_ops.specs.declared.outcome.Outcome.TheVariants.{Done}
use Rattle.eos_ops.specs.declared.plain.Plain.{Plain}
use Rattle.eos_ops.specs.declared.plain.Plain.TheVariants.{Present}
use Rattle.eos_ops.specs.declared.reply.Reply.TheVariants as reply
use Rattle.eos_ops.specs.Edits.{outcome_in, edited}
use Rattle.eos_ops.specs.Objects.{read_in}
use Rattle.eos_ops.proofs.EditLemmas.{edited-refused}
use Rattle.fault_count.specs.Counts.{Meter}
use Rattle.geometry_model.specs.Numbers.{Numbers}
use Rattle.moment_model.specs.Moment.{absent_slot}
use Rattle.superdirectory.specs.Rest.{Rest, count}
use Rattle.superdirectory.specs.Trace.{SpaceEvent}
use Rattle.superdirectory.proofs.Traces.{part_none}
use Rattle.object_body.specs.declared.fails.EditFail.TheVariants as edit_fail
use Rattle.object_body.specs.declared.fails.LookFail.{LookFail}
use Rattle.object_body.specs.declared.fails.LookFail.TheVariants as look
use Rattle.object_body.specs.Form.{AreTied}
use Rattle.object_body.specs.Lengths.{length_of}
use Rattle.object_body.specs.Calls.{Stage, IsEdit, IsBodyRead, IsWithin, IsExplained}
use Rattle.object_body.specs.Memory.{EditMayTakeMemory}
use Rattle.object_body.proofs.LengthLemmas.{outcome-by_length, length-edited, cases_done}
use Rattle.object_body.proofs.MoveLemmas.{same-moves}
use Rattle.object_body.proofs.CallLemmas.{used-not, cause-none, keeps-frame, no-memory, read-of}
use Rattle.plain_body.specs.Kind.{working_plain, plain_form, plain_contents, HasNoPage, lays_nothing}

-- what it shows, with the spaces beside it
abbrev pub plain_stage : Numbers → Plain → Option Plain → Rest → Option (List SpaceEvent) → Stage
plain_stage n committed working rest trace = record {
  form = plain_form n committed working;
  told = plain_contents committed working;
  rest = rest;
  trace = trace;
}

pub plain-tied : (n : Numbers) (committed : Plain) (working : Option Plain) →
    AreTied HasNoPage (plain_form n committed working) (plain_contents committed working)
plain-tied n committed None = record {
  committed = refl;
  working = refl;
  rests =
      λ rests. (record { same = refl; no_spare = refl }, refl);
  kind = refl;
}
plain-tied n committed (Some x) = record { committed = refl; working = refl; rests = λ rests. absurd cc; kind = refl }

-- the working version after an edit, made or not
edited-working : (edit : Edit) (outcome : Outcome) (committed : Plain) (old new : Option Plain) →
    outcome ≡ outcome_in edit (working_plain committed old) →
    (outcome ≡ Done → new ≡ Some (edited edit (working_plain committed old))) → ((outcome ≡ Done → ⊥) → new ≡ old) →
    working_plain committed new ≡ edited edit (working_plain committed old)
edited-working edit outcome committed old new is made unmade = elim (cases_done outcome) [
  | inl done ↦ ap (working_plain committed) (made done)
  | inr other ↦ ap (working_plain committed) (unmade other)
      ∙ sym (edited-refused edit (working_plain committed old) (λ same. other (is ∙ same)))
]

pub plain-edit : (tells : Bool) (start : ℕ) (edit : Edit) (outcome : Outcome) (n : Numbers) (committed : Plain)
    (old new : Option Plain) (rest : Rest)
    (trace : Option (List SpaceEvent)) (meter : Meter) → rest.entered ≡ None → outcome ≡ outcome_in edit (working_plain committed old) →
    (outcome ≡ Done → new ≡ Some (edited edit (working_plain committed old))) → ((outcome ≡ Done → ⊥) → new ≡ old) →
    IsEdit tells HasNoPage lays_nothing (λ n slot pages. ⊥) (λ n old edit new pages. pages ≡ 0) start edit (Ok outcome)
    (plain_stage n committed old rest trace) (plain_stage n committed new rest trace) meter meter
plain-edit tells start edit outcome n committed old new rest trace meter none is made unmade =
    let now = edited-working edit outcome committed old new is made unmade in
    record {
      outcome = is ∙ outcome-by_length edit (working_plain committed old);
      form = record { numbers = refl; committed = refl; working = ap length_of now ∙ length-edited edit (working_plain committed old) };
      unmade = λ other. ap (plain_form n committed) (unmade other);
      rest = keeps-frame rest none;
      low = part_none (IsExplained (count rest) (Ok outcome)) trace tt;
      port = used-not meter;
      cause = cause-none meter.faults (Ok outcome ≡ Err edit_fail.Fault) (λ same. absurd cc);
      memory = λ wanted. absurd cc;
      told = λ tell. record {
        working = now;
        committed = refl;
        kept = refl;
        unmade = λ other. ap (plain_contents committed) (unmade other);
        granted = λ views told long. refl;
        spaces = λ views told home. same-moves n rest.frame views absent_slot rest told home;
        small = tt;
        writes = record { pages = 0; allowed = refl; most = omega arith };
      };
      tied = λ tell. plain-tied n committed new;
    }

-- an edit that no memory was there for
pub plain-no_memory : (tells : Bool) (start : ℕ) (edit : Edit) (n : Numbers) (committed : Plain) (old new : Option Plain) (rest : Rest)
    (trace : Option (List SpaceEvent)) (meter : Meter) → rest.entered ≡ None → new ≡ old → EditMayTakeMemory edit →
    IsEdit tells HasNoPage lays_nothing (λ n slot pages. ⊥) (λ n old edit new pages. pages ≡ 0) start edit (Err edit_fail.Memory)
    (plain_stage n committed old rest trace) (plain_stage n committed new rest trace) meter meter
plain-no_memory tells start edit n committed old new rest trace meter none same may =
    subst (λ working. IsEdit tells HasNoPage lays_nothing (λ n slot pages. ⊥)
    (λ n old edit new pages. pages ≡ 0) start edit (Err edit_fail.Memory)
    (plain_stage n committed old rest trace) (plain_stage n committed working rest trace) meter meter) (sym same)
    (no-memory tells HasNoPage lays_nothing (λ n slot pages. ⊥) (λ n old edit new pages. pages ≡ 0) start edit
    (plain_stage n committed old rest trace) meter none refl (λ tell. plain-tied n committed old) may)

-- the range of a read lies within the bytes
pub within-of : (committed : Plain) (working : Option Plain) (x : List ℕ) (at len : ℕ) → working_plain committed working ≡ Present x →
    IsWithin (length_of (working_plain committed working)) at len → at + len ≤ length x
within-of committed working x at len now within =
    let same = some-inner within.bytes (length x) (sym within.present ∙ ap length_of now) in
    let range = within.range in
    omega (arith, same, range)

pub plain-read : (tells : Bool) (at len : ℕ) (result : Result (List ℕ) LookFail) (n : Numbers) (committed : Plain)
    (working : Option Plain) (x : List ℕ) (meter : Meter) →
    working_plain committed working ≡ Present x → at + len ≤ length x →
    IfOk result (λ bytes. bytes ≡ take len (drop at x)) → (result ≡ Err look.Fault → ⊥) → (result ≡ Err look.Memory → 0 < len) →
    IsBodyRead tells HasNoPage (λ n slot bytes pages. pages ≡ 0) at len result (plain_form n committed working)
    (plain_form n committed working)
    (plain_contents committed working) (plain_contents committed working) meter meter
plain-read tells at len result n committed working x meter now within gives no_fault some = record {
  same = refl;
  count = counts result gives;
  bytes = λ tell. shows result gives;
  kept = λ tell. refl;
  reads = λ tell. record { pages = 0; allowed = refl; none = refl; most = omega arith };
  port = used-not meter;
  cause = cause-none meter.faults (result ≡ Err look.Fault) no_fault;
  memory = some;
  tied = λ tell. plain-tied n committed working;
} where
  counts : (result : Result (List ℕ) LookFail) → IfOk result (λ bytes. bytes ≡ take len (drop at x)) →
      IfOk result (λ bytes. length bytes ≡ len)
  counts (Ok bytes) is =
      let back = length-drop at x in
      ap length is ∙ length-take-le len (drop at x) (omega (arith, back, within))
  counts (Err fail) is = tt

  shows : (result : Result (List ℕ) LookFail) → IfOk result (λ bytes. bytes ≡ take len (drop at x)) →
      IfOk result (λ bytes. reply.Bytes bytes ≡ read_in at len (working_plain committed working))
  shows (Ok bytes) is = ap reply.Bytes is ∙ (sym (read-of at len x within) ∙ ap (read_in at len) (sym now))
  shows (Err fail) is = tt
