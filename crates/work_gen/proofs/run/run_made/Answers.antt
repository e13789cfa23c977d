-- Each line that was run is one more.
use Rattle.std.proofs.Common.{◌≡◌, ℕ, ◌+◌, suc, ap, ◌∙◌, subst, sym, arith}
use Rattle.work_gen.specs.Summary.{Summary}
use Rattle.work_gen.proofs.RunLemmas.{SoFar, so-far-none, so-far-more, so-far-run}
use Rattle.work_gen.proofs.run.run_made.Goals as goal

pub lines-init : goal.lines-init
lines-init g c =
    let P : Summary → Type 0 = λ summary. SoFar g.W.Server.step c.args.server.now c.args.work.now 0 c.args.work.now
    summary c.args.server.now in
    record {
      so_far = subst P (sym c.new-summary.ensures) (so-far-none g.W.Server.step c.args.server.now c.args.work.now);
      counted = ap (λ (s : Summary). s.lines) c.new-summary.ensures;
      within = omega arith;
      ready = c.requires;
    }

pub lines-preserved : goal.lines-preserved
lines-preserved g c =
    let P : ℕ → Type 0 = λ n. SoFar g.W.Server.step c.args.server.now c.args.work.now n c.next_line-session.new.self
    c.count_reply.new.self c.serve.new.self in
    let next : suc c.lines.index ≡ c.lines.index + 1 = omega arith in
    record {
      so_far = subst P next (so-far-more g.W.Server.step c.args.server.now c.lines.server c.serve.new.self c.args.work.now
          c.lines.index c.lines.work _ c.lines.summary _ _ _ _ c.lines.invariant.so_far c.next_line-session.ensures.line
          c.next_line-session.ensures.after c.next_line-session.ensures.fits c.in_ok-reply.ensures.step
          c.count_reply.ensures);
      counted = ap (λ (s : Summary). s.lines) c.count_reply.ensures ∙ ap suc c.lines.invariant.counted ∙ next;
      within = omega (arith, c.lines-test.true);
      ready = c.in_ok-reply.ensures.ready;
    }

pub returns-clause-ran : goal.returns-clause-ran
returns-clause-ran g c =
    let P : ℕ → Type 0 = λ n. SoFar g.W.Server.step c.args.server.now c.args.work.now n c.lines.work c.lines.summary
    c.lines.server in
    let all : c.lines.index ≡ c.args.lines = omega (arith, c.lines.invariant.within, c.lines-test.false) in
    so-far-run _ _ _ _ _ _ _ (subst P all c.lines.invariant.so_far)
