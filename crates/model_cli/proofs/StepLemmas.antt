-- Steps of a plain store as a run of the machine and of the moment.
use Rattle.std.proofs.Common.{◌≡◌, ℕ, ◌≤◌, List, [], ◌∷◌, ◌++◌, Option, Some, None, length, reverse, replicate}
use Rattle.std.proofs.Common.{refl, sym, ap, subst, inl, inr}
use Rattle.std.specs.Prelude.{IsTrue, false}
use Rattle.std.specs.List.{AllByRecursion}
use Rattle.std.proofs.lemmas.List.{reverse-append, reverse-reverse}
use Rattle.base_laws.proofs.ListLaws.{all-append}
use Rattle.base_laws.proofs.OptionLaws.{some-inner}
use Rattle.soundness_laws.specs.Keeping.{AsksThreshold}
use Rattle.change_laws.specs.Tail.{HaveTails}
use Rattle.soundness_laws.proofs.EditLemmas.{edited-sound}
use Rattle.eos_ops.specs.declared.command.Command.{Command}
use Rattle.eos_ops.specs.declared.command.Command.TheVariants as command
use Rattle.eos_ops.specs.declared.edit.Edit.{Edit}
use Rattle.eos_ops.specs.declared.edit.Edit.TheVariants as edit
use Rattle.eos_ops.specs.declared.limits.TheConstants.{SESSIONS}
use Rattle.eos_ops.specs.declared.plain.Plain.{Plain}
use Rattle.eos_ops.specs.Objects.{edit_of}
use Rattle.eos_ops.specs.Payloads.{payload_bytes}
use Rattle.geometry_model.specs.Numbers.{Numbers, IsInRange}
use Rattle.history.specs.Event.{Event}
use Rattle.machine.specs.Machine.{Machine, fresh}
use Rattle.machine.specs.Runs.{IsRun}
use Rattle.machine.proofs.Sizes.{AtRest-fresh}
use Rattle.moment_model.specs.Edit.{edited_slot}
use Rattle.moment_model.specs.Moment.{Moment, IsSound}
use Rattle.moment_model.specs.Run.{AllAgree}
use Rattle.moment_model.specs.Version.{IsGood}
use Rattle.plain_moment.specs.Stored.{Stored, IsStoreStep, is_unfailing, store_of}
use Rattle.soundness_laws.proofs.RunLemmas.{run-sound}
use Rattle.script_model.specs.Grammar.{CommandFits}
use Rattle.script_model.specs.Transcript.{Answers}
use Rattle.script_run.specs.Served.{AreSteps}
use Rattle.script_run.proofs.HeadlineLemmas.{Leads, serial_run}
use Rattle.store_model.specs.Store.{Store, AreToldSteps}
use Rattle.store_laws.specs.Runs.{AllAskThresholds}
use Rattle.store_laws.proofs.SoundLemmas.{in_order}
use Rattle.store_laws.proofs.StepLemmas.{told-run}
use Rattle.model_cli.specs.Headline.{AllSound, HasStoreRun, IsSoundAfter, store_at_rest}

-- ---- no line asks for a threshold of 0

abbrev Asks : Event → Type 0
Asks e = (x : Edit) → edit_of e.command ≡ Some x → AsksThreshold x

fits-ask : (c : Command) → CommandFits c → (x : Edit) → edit_of c ≡ Some x → AsksThreshold x
fits-ask (command.Create o None) fits x same = subst AsksThreshold (some-inner (edit.Create None) x same) tt
fits-ask (command.Create o (Some t)) fits x same = subst AsksThreshold (some-inner (edit.Create (Some t)) x same) fits.1.0
fits-ask (command.Destroy o) fits x same = subst AsksThreshold (some-inner edit.Destroy x same) tt
fits-ask (command.Append o p) fits x same = subst AsksThreshold (some-inner (edit.Append (payload_bytes p)) x same) tt
fits-ask (command.Insert o at p) fits x same = subst AsksThreshold (some-inner (edit.Insert at (payload_bytes p)) x same) tt
fits-ask (command.Delete o at n) fits x same = subst AsksThreshold (some-inner (edit.Delete at n) x same) tt
fits-ask (command.Replace o at p) fits x same = subst AsksThreshold (some-inner (edit.Replace at (payload_bytes p)) x same) tt
fits-ask command.Begin fits x same = absurd (cc)
fits-ask (command.Length o) fits x same = absurd (cc)
fits-ask (command.Read o at n) fits x same = absurd (cc)
fits-ask command.Commit fits x same = absurd (cc)
fits-ask command.Abort fits x same = absurd (cc)
fits-ask command.Status fits x same = absurd (cc)

answers-ask : (lines : List (List ℕ)) (output : List ℕ) (events : List Event) → Answers lines output events → AllByRecursion Asks events
answers-ask [] output events (none, empty) = rw empty tt
answers-ask (line ∷ lines) output events (inl (rest, (here, cut, more))) = answers-ask lines rest events more
answers-ask (line ∷ lines) output events (inr (answer, rest, e, later, (cut, same, told, more))) =
    rw same (fits-ask e.command told.line.command, answers-ask lines rest later more)

all-reverse : {X : Type 0} (P : X → Type 0) (xs : List X) → AllByRecursion P xs → AllByRecursion P (reverse xs)
all-reverse P [] all = tt
all-reverse P (x ∷ xs) all =
    subst (AllByRecursion P) (sym (reverse-append (x ∷ []) xs)) (all-append P (reverse xs) (x ∷ []) (all-reverse P xs all.1) (all.0, tt))

all-ask : (past : List Event) → AllByRecursion Asks past → AllAskThresholds past
all-ask [] all = tt
all-ask (e ∷ past) all = (all-ask past all.1, all.0)

asked-thresholds : (lines : List (List ℕ)) (output : List ℕ) (past : List Event) →
    Answers lines output (reverse past) → AllAskThresholds past
asked-thresholds lines output past answers =
    all-ask past (subst (AllByRecursion Asks) (reverse-reverse past)
    (all-reverse Asks (reverse past) (answers-ask lines output (reverse past) answers)))

-- ---- soundness

sound-after : (n : Numbers) (db : List Plain) (first : Moment) (past : List Event) → IsInRange n →
    IsSound IsGood n (λ o. false) first → HaveTails n first → AllAskThresholds past →
    IsRun (fresh SESSIONS db) past → AllAgree edited_slot n first past → IsSoundAfter n first past
sound-after n db first past range sound tails asks run agree =
    (run-sound edited_slot IsGood n SESSIONS first past edited-sound range sound tails
    (in_order (fresh SESSIONS db) past (AtRest-fresh SESSIONS db) run asks) agree).0

all-sound : (n : Numbers) (db : List Plain) (first : Moment) (past : List Event) → IsInRange n →
    IsSound IsGood n (λ o. false) first → HaveTails n first → AllAskThresholds past →
    IsRun (fresh SESSIONS db) past → AllAgree edited_slot n first past → AllSound n first past
all-sound n db first [] range sound tails asks run agree = sound-after n db first [] range sound tails asks run agree
all-sound n db first (e ∷ past) range sound tails asks run agree = (
  all-sound n db first past range sound tails asks.0 run.0 agree.0,
  sound-after n db first (e ∷ past) range sound tails asks run agree,
)

-- ---- steps

abbrev AreUnfailing : List Event → Type 0
AreUnfailing past = AllByRecursion (λ e. IsTrue (is_unfailing e.reply)) past

steps-told : (w w' : Stored) (past : List Event) → AreSteps IsStoreStep w past w' →
    AreToldSteps edited_slot (store_of w) past (store_of w') × AreUnfailing past
steps-told w w' [] same = (ap store_of same, tt)
steps-told w w' (e ∷ past) (v, (steps, step)) =
    let before = steps-told w v past steps in
    ((store_of v, before.0, step.told), (step.unfailing, before.1))

-- a store at rest, by its parts
pub first-store : (w : Stored) (n : Numbers) (db : List Plain) (first : Moment) → w.numbers ≡ n →
    w.machine ≡ fresh SESSIONS db → w.moment ≡ first → store_of w ≡ store_at_rest n db first
first-store w n db first numbers machine moment = rw (numbers, machine, moment) refl

-- lines that were run over a store at rest whose moment is sound
pub steps-lead : (n : Numbers) (db : List Plain) (first : Moment) (w : Stored) →
    store_of w ≡ store_at_rest n db first → IsInRange n → IsSound IsGood n (λ o. false) first → HaveTails n first →
    Leads IsStoreStep w (HasStoreRun n db first)
steps-lead n db first w rest range sound tails lines output w' short ran =
    let told = steps-told w w' ran.past ran.steps in
    let steps : AreToldSteps edited_slot (store_at_rest n db first) ran.past (store_of w') =
    subst (λ (from : Store). AreToldSteps edited_slot from ran.past (store_of w')) rest told.0 in
    let run = told-run edited_slot (store_at_rest n db first) (store_of w') ran.past (AtRest-fresh SESSIONS db) steps in
    record {
      past = ran.past;
      serial = serial_run db lines output ran.past short ran.answers run.run;
      machine = run.run;
      moments = run.agree;
      sound = all-sound n db first ran.past range sound tails (asked-thresholds lines output ran.past ran.answers) run.run run.agree;
      unfailing = told.1;
    }
