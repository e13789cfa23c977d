-- A status is a step of the store: it counts the pages, and leaves all as it was.
use Rattle.std.proofs.Common.{◌≡◌, ℕ, List, length, None, refl, sym, subst, inl, inr}
use Rattle.std.specs.Prelude.{IsTrue, MatchOption, Bool, Option}
use Rattle.std.proofs.lemmas.Bool.{cases_Bool}
use Rattle.eos_ops.specs.declared.command.Command.TheVariants.{Status}
use Rattle.eos_ops.specs.declared.reply.Reply.TheVariants as reply
use Rattle.geometry_model.specs.Numbers.{Numbers}
use Rattle.history.specs.Refusals.{is_answer}
use Rattle.layout_model.specs.Layout.{Tree}
use Rattle.machine.specs.Machine.{Machine, IsSession, is_active}
use Rattle.machine.specs.Replies.{refused, IsAnswered}
use Rattle.machine.proofs.Answering.{unrefused}
use Rattle.moment_model.specs.Run.{Lays, AreCounts}
use Rattle.object_body.specs.Places.{IsStore, AreHome}
use Rattle.shadow_txn.specs.Transaction.{Transaction}
use Rattle.space_directory.specs.SpaceView.{SpaceView}
use Rattle.store_model.specs.Store.{Store, IsToldStep, IsOwedStep}
use Rattle.superdirectory.specs.Grants.{AreTold, KeepsFrame}
use Rattle.superdirectory.specs.Rest.{Rest, count}
use Rattle.body_world.specs.Keeping.{IsWorld}
use Rattle.body_world.specs.Session.{Shown}
use Rattle.body_world.proofs.Stepping.{unmoved}

-- spaces that were used and are told as they were
pub world-counted : {T : Type 0} (tells : Bool) (good : Numbers → Tree → Type 0) (show : T → Shown) (n : Numbers) (shelf : List (Option T))
    (txns : List (Transaction T)) (rest now : Rest) (page : ℕ) → IsWorld tells good show n shelf txns rest page → KeepsFrame rest now
    → ((views : List SpaceView) → AreTold rest views → length views ≡ count rest → AreTold now views)
    → IsWorld tells good show n shelf txns now page
world-counted tells good show n shelf txns rest now page world kept same = record {
  work = record {
    range = world.work.range;
    shares = world.work.shares;
    count = world.work.count;
    of_store = world.work.of_store;
    resting = world.work.resting;
    ready = record { store = subst (IsStore n) (sym kept.frame) world.work.ready.store; none = kept.entered };
    sized = world.work.sized;
  };
  roles = λ tell.
      let roles = world.roles tell in
      record {
        views = roles.views;
        told = same roles.views roles.told roles.home.number;
        home = subst (λ frame. AreHome frame roles.views) (sym kept.frame) roles.home;
        sound = roles.sound;
        tails = roles.tails;
        free = roles.free;
        locked = roles.locked;
      };
}

pub owed-status : (m : Machine) (s free locked held : ℕ) → IsSession m s → IsOwedStep m s Status (reply.Status free locked held) m
owed-status m s free locked held session = record {
  owed = record {
    session = session;
    reply = inr (subst (λ first. MatchOption first (IsTrue (is_answer Status (reply.Status free locked held)))
        (λ refusal. reply.Status free locked held ≡ refusal)) (sym (unrefused m s)) refl);
  };
  state = refl;
}

pub told-status : (laid : Lays) (w : Store) (s free locked held : ℕ) → IsSession w.machine s
    → AreCounts w.numbers w.moment free locked held → IsToldStep laid w s Status (reply.Status free locked held) w
told-status laid w s free locked held session counts = record {
  numbers = refl;
  event = record {
    session = session;
    reply = inr (subst (λ first. MatchOption first (IsAnswered w.machine Status (reply.Status free locked held))
        (λ refusal. reply.Status free locked held ≡ refusal)) (sym (unrefused w.machine s)) refl);
  };
  machine = refl;
  moment = λ past by. unmoved laid w.numbers s past w.moment Status (reply.Status free locked held) refl;
  agrees = counts;
}
