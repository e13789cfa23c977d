-- Steps, one after the other, are a run.
use Rattle.std.proofs.Common.{◌≡◌, ◌≤◌, List, [], ◌∷◌, length, sym, ap, subst, ◌∙◌}
use Rattle.history.specs.Event.{Event, deed_of}
use Rattle.history.specs.Serial.{Serial}
use Rattle.history.specs.Transactions.{ends}
use Rattle.geometry_model.specs.Numbers.{Numbers}
use Rattle.machine.specs.Machine.{Machine, Seat, AtRest, bare, database}
use Rattle.machine.specs.Next.{next}
use Rattle.machine.specs.Replies.{refused}
use Rattle.machine.specs.Runs.{IsEvent, IsOwed, IsOwedRun, state_after}
use Rattle.machine.proofs.Bare.{refused-bare, Owes-refused, next-bare}
use Rattle.machine.proofs.Owing.{Owes-replies}
use Rattle.machine.proofs.Replying.{MayRun-from}
use Rattle.machine.proofs.Soundness.{Sound-run, Sound-serial}
use Rattle.moment_model.specs.Moment.{Moment}
use Rattle.moment_model.specs.Run.{Lays, Agrees, moment_after, moment_of}
use Rattle.store_model.specs.Store.{Store, HoldsBy, AreToldSteps, AreOwedSteps}
use Rattle.store_laws.specs.Runs.{IsToldRun}

pub told-run : (laid : Lays) (first last : Store) (past : List Event) → AtRest first.machine →
    AreToldSteps laid first past last → IsToldRun laid first past last
told-run laid first last [] rest steps = record {
  run = tt;
  numbers = ap (λ (w : Store). w.numbers) steps;
  machine = ap (λ (w : Store). w.machine) steps;
  agree = tt;
  moment = ap (λ (w : Store). w.moment) steps;
}
told-run laid first last (e ∷ past) rest steps =
    let mid : Store = steps.0 in
    let before = told-run laid first mid past rest steps.1 in
    let step = steps.2 in
    let sound = Sound-run first.machine past rest (MayRun-from first.machine past before.run) in
    let holds : HoldsBy e.session past mid.machine = subst (HoldsBy e.session past) (sym before.machine) (sound.tracks.held e.session) in
    record {
      run = (before.run, subst (λ (m : Machine). IsEvent m e) before.machine step.event);
      numbers = step.numbers ∙ before.numbers;
      machine = step.machine ∙ ap (λ (m : Machine). next m e.session (deed_of e)) before.machine;
      agree = (
        before.agree,
        subst (λ (n : Numbers). Agrees laid n (moment_of laid first.numbers first.moment past) e.session e.command e.reply) before.numbers
            (subst (λ (w : Moment). Agrees laid mid.numbers w e.session e.command e.reply) before.moment step.agrees),
      );
      moment = step.moment past holds ∙ ap (λ (n : Numbers). moment_after laid n past mid.moment e) before.numbers
          ∙ ap (λ (w : Moment). moment_after laid first.numbers past w e) before.moment;
    }

pub told-serial : (laid : Lays) (first last : Store) (past : List Event) → AtRest first.machine →
    AreToldSteps laid first past last → Serial (database first.machine) (ends (length first.machine.seats) past)
    (database last.machine)
told-serial laid first last past rest steps =
    let told = told-run laid first last past rest steps in
    subst (λ (m : Machine). Serial (database first.machine) (ends (length first.machine.seats) past) (database m)) (sym told.machine)
    (Sound-serial (database first.machine) past (state_after first.machine past) (length first.machine.seats)
    (Sound-run first.machine past rest (MayRun-from first.machine past told.run)))

pub told-owed : (laid : Lays) (first last : Store) (past : List Event) → AreToldSteps laid first past last →
    AreOwedSteps first.machine past last.machine
told-owed laid first last [] steps = ap (λ (w : Store). bare w.machine) steps
told-owed laid first last (e ∷ past) steps = (
  (steps.0).machine,
  told-owed laid first steps.0 past steps.1,
  record {
    owed = record {
      session = (steps.2).event.session;
      reply =
          Owes-replies (steps.0).machine e.session e.command e.reply (steps.2).event.reply;
    };
    state = ap bare (steps.2).machine;
  },
)

-- what is owed to a machine is owed to each that is the same but for contents
owed-same : (m m' : Machine) (e : Event) → bare m ≡ bare m' → IsOwed m e → IsOwed m' e
owed-same m m' e same owed = record {
  session = record {
    from_one = owed.session.from_one;
    within =
        subst (λ (seats : List Seat). e.session ≤ length seats)
        (ap (λ (x : Machine). x.seats) same) owed.session.within;
  };
  reply = Owes-refused m m' e.session e.command e.reply (sym (refused-bare m e.session e.command)
      ∙ ap (λ (x : Machine). refused x e.session e.command) same ∙ refused-bare m' e.session e.command) owed.reply;
}

pub owed-run : (first last : Machine) (past : List Event) → AreOwedSteps first past last → IsOwedRun first past
    × (bare last ≡ bare (state_after first past))
owed-run first last [] steps = (tt, steps)
owed-run first last (e ∷ past) steps =
    let before = owed-run first steps.0 past steps.1 in
    let mid : Machine = steps.0 in
    let now : Machine = state_after first past in (
      (before.0, owed-same mid now e before.1 (steps.2).owed),
      (steps.2).state ∙ sym (next-bare mid e.session (deed_of e))
          ∙ ap (λ (m : Machine). bare (next m e.session (deed_of e))) before.1
          ∙ next-bare now e.session (deed_of e),
    )
