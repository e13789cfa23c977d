-- The lines of a run are in order, so its moments are sound.
use Rattle.std.proofs.Common.{◌≡◌, ℕ, ◌≤◌, List, [], ◌∷◌, true, false, Option, Some, None, length, refl, sym, ap, subst, ◌∙◌, inl, inr}
use Rattle.std.specs.Prelude.{MatchOption}
use Rattle.std.proofs.lemmas.Bool.{false≢true}
use Rattle.eos_ops.specs.declared.command.Command.{Command}
use Rattle.eos_ops.specs.declared.command.Command.TheVariants.{Begin, Create, Destroy, Length, Read, Append, Insert}
use Rattle.eos_ops.specs.declared.command.Command.TheVariants.{Delete, Replace, Commit, Abort, Status}
use Rattle.eos_ops.specs.declared.edit.Edit.{Edit}
use Rattle.eos_ops.specs.declared.reply.Reply.{Reply}
use Rattle.eos_ops.specs.declared.reply.Reply.TheVariants as reply
use Rattle.eos_ops.specs.Objects.{object_of, edit_of}
use Rattle.geometry_model.specs.Numbers.{Numbers}
use Rattle.history.specs.Event.{Event}
use Rattle.layout_model.specs.Layout.{Tree}
use Rattle.machine.specs.Machine.{Machine, is_active, AtRest}
use Rattle.machine.specs.Replies.{refused, IsAnswered, Replies}
use Rattle.machine.specs.Runs.{IsEvent, IsRun, state_after}
use Rattle.machine.proofs.Answering.{Refuses, refused_refuses}
use Rattle.machine.proofs.Replying.{can_use, MayRun-from}
use Rattle.machine.proofs.Sizes.{seats-run}
use Rattle.machine.proofs.Soundness.{Sound-run}
use Rattle.moment_model.specs.Moment.{Moment, IsSound}
use Rattle.moment_model.specs.Run.{Lays, Run, all_aborted}
use Rattle.soundness_laws.specs.Keeping.{KeepsSoundness}
use Rattle.soundness_laws.specs.Keeping.{AsksThreshold}
use Rattle.change_laws.specs.Tail.{HaveTails}
use Rattle.soundness_laws.specs.InOrder.{is_held, IsInOrder, AllInOrder}
use Rattle.soundness_laws.proofs.RunLemmas.{run-sound, run-ends}
use Rattle.store_model.specs.Store.{Store, AreToldSteps}
use Rattle.store_laws.specs.Runs.{AllAskThresholds, IsSoundRest}
use Rattle.store_laws.proofs.StepLemmas.{told-run}

-- an edit is on an object
pub edit_on : (c : Command) (edit : Edit) → edit_of c ≡ Some edit → (o : ℕ) × (object_of c ≡ Some o)
edit_on Begin edit is = absurd (cc)
edit_on (Create o t) edit is = (o, refl)
edit_on (Destroy o) edit is = (o, refl)
edit_on (Length o) edit is = absurd (cc)
edit_on (Read o at n) edit is = absurd (cc)
edit_on (Append o p) edit is = (o, refl)
edit_on (Insert o at p) edit is = (o, refl)
edit_on (Delete o at n) edit is = (o, refl)
edit_on (Replace o at p) edit is = (o, refl)
edit_on Commit edit is = absurd (cc)
edit_on Abort edit is = absurd (cc)
edit_on Status edit is = absurd (cc)

-- `ok` to a command on an object comes only where its session is active
ok_active : (m : Machine) (s : ℕ) (c : Command) (o : ℕ) → object_of c ≡ Some o → Replies m s c reply.Ok → is_active m s ≡ true
ok_active m s c o on replies =
    elim replies [
      | inl memory ↦ let other : reply.Ok ≡ reply.Memory = memory.0 in absurd (cc)
      | inr so ↦ by_refusal (refused m s c) refl so
    ]
  where
    by_refusal : (t : Option Reply) → refused m s c ≡ t → MatchOption t (IsAnswered m c reply.Ok) (λ x. reply.Ok ≡ x) → is_active m s ≡ true
    by_refusal None is so = (can_use m s c o on is).active
    by_refusal (Some refusal) is so =
        let refuses : Refuses (Some refusal) = subst Refuses is (refused_refuses m s c) in
        let ok : Refuses (Some reply.Ok) = subst (λ (x : Reply). Refuses (Some x)) (sym so) refuses in
        absurd (false≢true ok)

event_in_order : (m : Machine) (past : List Event) (e : Event) → AtRest m → IsRun m past →
    IsEvent (state_after m past) e → ((edit : Edit) → edit_of e.command ≡ Some edit → AsksThreshold edit) →
    IsInOrder (length m.seats) past e
event_in_order m past e rest run event asks = record {
  low = event.session.from_one;
  high = subst (λ n. e.session ≤ n) (seats-run m past) event.session.within;
  open_for_edits = λ edit is ok.
      let on = edit_on e.command edit is in
      let active : is_active (state_after m past) e.session ≡ true =
      ok_active (state_after m past) e.session e.command on.0 on.1
      (subst (λ r. Replies (state_after m past) e.session e.command r) ok event.reply) in
      (Sound-run m past rest (MayRun-from m past run)).tracks.active e.session ∙ active;
  thresholds = asks;
}

pub in_order : (m : Machine) (past : List Event) → AtRest m → IsRun m past → AllAskThresholds past → AllInOrder (length m.seats) past
in_order m [] rest run asks = tt
in_order m (e ∷ past) rest run asks = (in_order m past rest run.0 asks.0, event_in_order m past e rest run.0 run.1 asks.1)

pub steps-sound : (laid : Lays) (good : Numbers → Tree → Type 0) (first last : Store) (past : List Event) →
    KeepsSoundness laid good → IsSoundRest good first → AllAskThresholds past → AreToldSteps laid first past last →
    IsSound good last.numbers (is_held (length first.machine.seats) past) last.moment × HaveTails last.numbers last.moment
steps-sound laid good first last past keeps rest asks steps =
    let told = told-run laid first last past rest.rest steps in
    let order = in_order first.machine past rest.rest told.run asks in
    let sessions : ℕ = length first.machine.seats in
    let sound = run-sound laid good first.numbers sessions first.moment past keeps rest.range rest.sound rest.tails order told.agree in
    subst (λ (n : Numbers). IsSound good n (is_held sessions past) last.moment × HaveTails n last.moment) (sym told.numbers)
    (subst (λ (w : Moment). IsSound good first.numbers (is_held sessions past) w × HaveTails first.numbers w) (sym told.moment) sound)

pub steps-ended : (laid : Lays) (good : Numbers → Tree → Type 0) (first last : Store) (past : List Event) →
    KeepsSoundness laid good → IsSoundRest good first → AllAskThresholds past → AreToldSteps laid first past last →
    IsSound good last.numbers (λ o. false) (all_aborted (length first.machine.seats) past last.moment)
steps-ended laid good first last past keeps rest asks steps =
    let told = told-run laid first last past rest.rest steps in
    let order = in_order first.machine past rest.rest told.run asks in
    let sessions : ℕ = length first.machine.seats in
    let ended : Moment = all_aborted sessions past last.moment in
    let run : Run laid first.numbers sessions first.moment past ended =
    record { slots = rest.slots; agree = told.agree; ends = ap (all_aborted sessions past) told.moment } in
    subst (λ (n : Numbers). IsSound good n (λ o. false) ended) (sym told.numbers)
    (run-ends laid good first.numbers sessions first.moment ended past keeps rest.range rest.sound rest.tails order run)
