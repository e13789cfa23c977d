-- Session by session nothing is open any more.
use Rattle.std.proofs.Common.{◌≡◌, ◌+◌, refl, sym, ◌∙◌, ap, arith, inl, inr}
use Rattle.std.proofs.lemmas.Bool.{cases_eq}
use Rattle.eos_ops.specs.declared.limits.TheConstants.{SESSIONS}
use Rattle.machine.specs.Machine.{is_active}
use Rattle.world.specs.Ending.{aborted, machine_aborted}
use Rattle.world.proofs.Aborting.{machine_aborted-none, machine_aborted-more}
use Rattle.world.proofs.First.{rests-from}
use Rattle.world.proofs.plain_world.PlainWorld.finish.Goals as goal

pub loop-place-init : goal.loop-place-init
loop-place-init c = record {
  state = machine_aborted-none _ _ (omega arith);
  idle = λ s upto. let none : s ≡ 0 = omega arith in ap (is_active c.args.self.now) none;
  database = refl;
}

pub loop-place-preserved : goal.loop-place-preserved
loop-place-preserved c = record {
  state =
      c.stop.ensures.state ∙ ap (aborted (c.loop-place.place + 1)) c.loop-place.invariant.state
      ∙ sym (machine_aborted-more c.loop-place.place (c.loop-place.place + 1) c.args.self.now (omega arith));
  idle = λ s upto. elim (cases_eq s (c.loop-place.place + 1)) [
    | inl this ↦ ap (is_active c.stop.new.self) this ∙ c.stop.ensures.closed
    | inr other ↦ c.stop.ensures.others s (c.loop-place.invariant.idle s (omega arith))
  ];
  database = c.stop.ensures.database ∙ c.loop-place.invariant.database;
}

pub returns-clause-state : goal.returns-clause-state
returns-clause-state c =
    let all : c.loop-place.place ≡ SESSIONS = omega arith in
    c.loop-place.invariant.state ∙ ap (λ n. machine_aborted n c.args.self.now) all

pub returns-clause-rest : goal.returns-clause-rest
returns-clause-rest c = rests-from c.self.inside.objects c.self.inside.sessions.items c.loop-place.self c.self.view_is c.self.invariant
    (λ s upto. c.loop-place.invariant.idle s (omega arith))
