-- Steps of a store that leave its pages as they are, and what is owed of a told one.
use Rattle.std.proofs.Common.{◌≡◌, ℕ, ◌<◌, ◌≤◌, Bool, true, false, List, length, Result, Ok, Err, refl, sym, ap, ◌∙◌, arith}
use Rattle.std.proofs.Common.{if◌then◌else◌}
use Rattle.eos_ops.specs.declared.command.Command.{Command}
use Rattle.eos_ops.specs.declared.command.Command.TheVariants.{Begin, Commit, Abort}
use Rattle.eos_ops.specs.declared.reply.Reply.{Reply}
use Rattle.eos_ops.specs.declared.reply.Reply.TheVariants as reply
use Rattle.eos_ops.specs.Objects.{is_too_long}
use Rattle.geometry_model.specs.Numbers.{Numbers}
use Rattle.history.specs.Event.{Event, Closes}
use Rattle.machine.specs.Machine.{Machine, IsSession, bare, is_active}
use Rattle.machine.specs.Next.{next}
use Rattle.machine.specs.Replies.{IsStep}
use Rattle.machine.proofs.Owing.{Owes-replies}
use Rattle.machine.proofs.Replying.{Replies-answers}
use Rattle.moment_model.specs.Moment.{Moment}
use Rattle.moment_model.specs.Run.{Lays, is_ok_reply, after_ok, moment_after, Agrees}
use Rattle.shadow_txn.specs.declared.fails.BeginFail.{BeginFail}
use Rattle.shadow_txn.specs.declared.fails.BeginFail.TheVariants.{Active, Worn}
use Rattle.world.specs.Session.{begin_reply}
use Rattle.store_model.specs.Store.{Store, IsToldStep, IsOwedStep, event_of}
use Rattle.world.proofs.Steps.{step-idle, step-closes, step-too_long}
use Rattle.body_world.specs.Ending.{IsToldEnd, ended_by}
use Rattle.base_laws.proofs.OptionLaws.{same_branches}

-- a begin moves nothing, whatever it is answered
pub begun-moves : (laid : Lays) (n : Numbers) (s : ℕ) (past : List Event) (moment : Moment) (r : Reply)
    → moment ≡ moment_after laid n past moment (event_of s Begin r)
unfolding moment_after
begun-moves laid n s past moment r = sym (same_branches (is_ok_reply r) moment)

-- nothing but `ok` moves the moment
pub unmoved : (laid : Lays) (n : Numbers) (s : ℕ) (past : List Event) (moment : Moment) (c : Command) (r : Reply)
    → is_ok_reply r ≡ false → moment ≡ moment_after laid n past moment (event_of s c r)
unfolding moment_after
unmoved laid n s past moment c r other = sym (ap (λ b. if b then after_ok laid n past moment s c else moment) other)

-- a step of the machine alone, which the pages don't move with
pub told-still : (laid : Lays) (n : Numbers) (moment : Moment) (m m' : Machine) (s : ℕ) (c : Command) (r : Reply)
    → IsSession m s → IsStep m s c r m'
    → ((past : List Event) → moment ≡ moment_after laid n past moment (event_of s c r)) → Agrees laid n moment s c r
    → IsToldStep laid (record { numbers = n; machine = m; moment = moment }) s c r
    (record { numbers = n; machine = m'; moment = moment })
told-still laid n moment m m' s c r session step still agrees = record {
  numbers = refl;
  event = record { session = session; reply = Replies-answers m s c r step.reply };
  machine = step.state;
  moment = λ past by. still past;
  agrees = agrees;
}

-- such a step is owed
pub owed-step : (m m' : Machine) (s : ℕ) (c : Command) (r : Reply) → IsSession m s → IsStep m s c r m' → IsOwedStep m s c r m'
owed-step m m' s c r session step = record {
  owed = record { session = session; reply = Owes-replies m s c r (Replies-answers m s c r step.reply) };
  state = ap bare step.state;
}

-- a session of a machine with so many seats
pub session-in : (m : Machine) (s n : ℕ) → length m.seats ≡ n → 0 < s → s ≤ n → IsSession m s
session-in m s n seats from_one upto = record { from_one = from_one; within = omega (arith, seats, upto) }

-- a begin says nothing of the pages
pub agrees-begun : {U : Type 0} (result : Result U BeginFail) (laid : Lays) (n : Numbers) (moment : Moment) (s : ℕ)
    → Agrees laid n moment s Begin (begin_reply result)
agrees-begun (Ok done) laid n moment s = tt
agrees-begun (Err Active) laid n moment s = tt
agrees-begun (Err Worn) laid n moment s = tt

-- a session with nothing open ends nothing
pub owed-idle : (m : Machine) (s : ℕ) (committed : Bool) → IsSession m s → is_active m s ≡ false
    → IsOwedStep m s (if committed then Commit else Abort) reply.Idle m
owed-idle m s committed session idle =
    owed-step m m s (if committed then Commit else Abort) reply.Idle session (step-idle m s committed idle)

pub told-idle : (laid : Lays) (w : Store) (s : ℕ) (committed : Bool) → IsSession w.machine s → is_active w.machine s ≡ false
    → IsToldStep laid w s (if committed then Commit else Abort) reply.Idle w
told-idle laid w s committed session idle =
    told-still laid w.numbers w.moment w.machine w.machine s (if committed then Commit else Abort) reply.Idle session
    (step-idle w.machine s committed idle)
    (λ past. unmoved laid w.numbers s past w.moment (if committed then Commit else Abort) reply.Idle refl) tt

-- an end is owed
pub owed-closed : (m m' : Machine) (s : ℕ) (committed : Bool) → IsSession m s → is_active m s ≡ true
    → bare m' ≡ bare (next m s (Closes committed)) → IsOwedStep m s (if committed then Commit else Abort) reply.Ok m'
owed-closed m m' s committed session active state =
    let step = step-closes m s committed active in
    record {
      owed = record {
        session = session;
        reply = Owes-replies m s (if committed then Commit else Abort) reply.Ok
            (Replies-answers m s (if committed then Commit else Abort) reply.Ok step.reply);
      };
      state = state ∙ ap bare step.state;
    }

closed-moves : (laid : Lays) (n : Numbers) (s : ℕ) (past : List Event) (moment : Moment) (committed : Bool)
    → ended_by s committed past moment ≡ moment_after laid n past moment (event_of s (if committed then Commit else Abort) reply.Ok)
unfolding moment_after
closed-moves laid n s past moment true = refl
closed-moves laid n s past moment false = refl

closed-agrees : (laid : Lays) (n : Numbers) (moment : Moment) (s : ℕ) (committed : Bool)
    → Agrees laid n moment s (if committed then Commit else Abort) reply.Ok
closed-agrees laid n moment s true = tt
closed-agrees laid n moment s false = tt

-- and is told where bytes are
pub told-closed : (laid : Lays) (w w' : Store) (s : ℕ) (committed : Bool) → IsSession w.machine s → is_active w.machine s ≡ true
    → w'.numbers ≡ w.numbers → IsToldEnd s committed w w' → IsToldStep laid w s (if committed then Commit else Abort) reply.Ok w'
told-closed laid w w' s committed session active same end =
    let step = step-closes w.machine s committed active in
    record {
      numbers = same;
      event = record {
        session = session;
        reply = Replies-answers w.machine s (if committed then Commit else Abort) reply.Ok step.reply;
      };
      machine = end.machine ∙ step.state;
      moment = λ past by. end.moment past by ∙ closed-moves laid w.numbers s past w.moment committed;
      agrees = closed-agrees laid w.numbers w.moment s committed;
    }

-- a command that asks for too much is answered at once
pub owed-too_long : (m : Machine) (s : ℕ) (c : Command) → IsSession m s → is_too_long c ≡ true → IsOwedStep m s c reply.TooLong m
owed-too_long m s c session long = owed-step m m s c reply.TooLong session (step-too_long m s c long)

pub told-too_long : (laid : Lays) (w : Store) (s : ℕ) (c : Command) → IsSession w.machine s → is_too_long c ≡ true
    → IsToldStep laid w s c reply.TooLong w
told-too_long laid w s c session long =
    told-still laid w.numbers w.moment w.machine w.machine s c reply.TooLong session (step-too_long w.machine s c long)
    (λ past. unmoved laid w.numbers s past w.moment c reply.TooLong refl) tt
