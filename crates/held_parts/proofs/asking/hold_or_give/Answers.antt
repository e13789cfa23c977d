-- All segments are held; or those that were held are taken out again, and all are given back.
use Rattle.std.proofs.Common.{ℕ, ◌-◌, ◌≤◌, length, drop, ap, subst, arith, ◌∙◌}
use Rattle.std.specs.List.{AllByRecursion}
use Rattle.std.proofs.lemmas.List.{length-drop, take_all}
use Rattle.page_port.specs.Pages.{IsSized}
use Rattle.superdirectory.specs.Grants.{AreRunsIn}
use Rattle.held_parts.specs.Asking.{AreHeldLast}
use Rattle.held_parts.proofs.AskLemmas.{all-go, holds-all, parts-held, parts-refused, rest-can}
use Rattle.held_parts.proofs.SpaceLemmas.{runs-front, runs-sized, runs-some}
use Rattle.held_parts.proofs.asking.hold_or_give.Goals as goal

pub hold_all-requires-clause-some : goal.hold_all-requires-clause-some
hold_all-requires-clause-some g c =
    runs-some (g.L.Hints.rest c.args.latches.now).frame (λ s. s.space) (λ s. g.S.Span.start s.span) (λ s. g.S.Span.contents s.span)
    g.S.Span.tells c.args.segments.items c.requires.inside

pub returns-then-hold_all : goal.returns-then-hold_all
returns-then-hold_all g c =
    let n = c.args.geometry.now in
    let all = subst (λ left. AreHeldLast (λ s. g.S.Span.start s.span) (λ s. g.S.Span.contents s.span)
    c.args.segments.items left c.args.held.now c.hold_all.new.held) (c.hold_all.ensures.all c.if-hold_all.true) c.hold_all.ensures.last in
    let fits = subst (λ (k : ℕ). AllByRecursion (λ s. IsSized g.S.Span.tells k (g.S.Span.contents s.span)) c.args.segments.items)
    c.requires.ready.store.page
    (runs-sized (g.L.Hints.rest c.args.latches.now).frame (λ s. s.space) (λ s. g.S.Span.start s.span) (λ s. g.S.Span.contents s.span)
    g.S.Span.tells c.args.segments.items c.requires.inside) in
    record {
      holds = parts-held g.S.Span.tells n c.args.parts _ c.args.held.now c.hold_all.new.held c.args.cache.now
          (g.L.Hints.rest c.args.latches.now) (g.L.Hints.trace c.args.latches.now) c.requires.runs
          (holds-all (λ s. g.S.Span.start s.span) (λ s. g.S.Span.contents s.span) c.args.segments.items c.args.held.now
          c.hold_all.new.held all) c.requires.right
          (c.hold_all.ensures.sized n.page c.requires.right.sized fits);
    }

pub give_all-requires-clause-runs : goal.give_all-requires-clause-runs
give_all-requires-clause-runs g c =
    let last = c.hold_all.ensures.last in
    runs-front (g.L.Hints.rest c.args.latches.now).frame (λ s. s.space) (λ s. g.S.Span.start s.span) (λ s. g.S.Span.contents s.span)
    g.S.Span.tells c.hold_all.new.segments.items last.done
    (subst (AreRunsIn (λ s. s.space) (λ s. g.S.Span.start s.span) (λ s. g.S.Span.contents s.span) g.S.Span.tells
    (g.L.Hints.rest c.args.latches.now).frame) last.parts c.requires.inside)

pub give_runs-requires-clause-can : goal.give_runs-requires-clause-can
give_runs-requires-clause-can g c =
    let given = c.deref.result.now in
    let left = c.len-left.result in
    let whole : length (drop left given) ≤ length given - left = omega (arith, length-drop left given) in
    let taken = take_all (length given - left) (drop left given) whole
    ∙ (ap (drop left) c.deref.ensures.value ∙ ap (λ (k : ℕ). drop k c.args.parts.runs.items)
    (c.len-left.ensures ∙ c.hold_all.new.segments.ok.0)) in
    rest-can c.args.geometry.now (g.L.Hints.rest c.args.latches.now).frame (λ s. s.space) (λ s. g.S.Span.start s.span)
    (λ s. g.S.Span.contents s.span) g.S.Span.tells c.args.segments.items c.hold_all.new.segments.items c.args.parts.runs.items _
    c.args.held.now c.hold_all.new.held c.requires.ready.store c.requires.inside c.hold_all.ensures.last c.requires.runs taken

pub give_runs-requires-clause-sized : goal.give_runs-requires-clause-sized
give_runs-requires-clause-sized g c =
    let fits = subst (λ (k : ℕ). AllByRecursion (λ s. IsSized g.S.Span.tells k (g.S.Span.contents s.span)) c.args.segments.items)
    c.requires.ready.store.page
    (runs-sized (g.L.Hints.rest c.args.latches.now).frame (λ s. s.space) (λ s. g.S.Span.start s.span) (λ s. g.S.Span.contents s.span)
    g.S.Span.tells c.args.segments.items c.requires.inside) in
    c.hold_all.ensures.sized c.args.geometry.now.page c.requires.right.sized fits

pub returns : goal.returns
returns g c =
    let n = c.args.geometry.now in
    let given = c.deref.result.now in
    let left = c.len-left.result in
    let last = c.hold_all.ensures.last in
    let old = g.L.Hints.rest c.args.latches.now in
    let whole : length (drop left given) ≤ length given - left = omega (arith, length-drop left given) in
    let taken = take_all (length given - left) (drop left given) whole
    ∙ (ap (drop left) c.deref.ensures.value ∙ ap (λ (k : ℕ). drop k c.args.parts.runs.items)
    (c.len-left.ensures ∙ c.hold_all.new.segments.ok.0)) in
    let fits = subst (λ (k : ℕ). AllByRecursion (λ s. IsSized g.S.Span.tells k (g.S.Span.contents s.span)) c.args.segments.items)
    c.requires.ready.store.page
    (runs-sized old.frame (λ s. s.space) (λ s. g.S.Span.start s.span) (λ s. g.S.Span.contents s.span) g.S.Span.tells
    c.args.segments.items c.requires.inside) in
    let front = runs-front old.frame (λ s. s.space) (λ s. g.S.Span.start s.span) (λ s. g.S.Span.contents s.span) g.S.Span.tells
    c.hold_all.new.segments.items last.done
    (subst (AreRunsIn (λ s. s.space) (λ s. g.S.Span.start s.span) (λ s. g.S.Span.contents s.span) g.S.Span.tells old.frame)
    last.parts c.requires.inside) in
    let go = all-go n (λ s. s.space) (λ s. g.S.Span.start s.span) (λ s. g.S.Span.contents s.span) g.S.Span.tells
    c.hold_all.new.segments.items old (g.L.Hints.rest c.give_all.new.latches) (g.L.Hints.trace c.args.latches.now)
    (g.L.Hints.trace c.give_all.new.latches) c.requires.ready.store front c.give_all.ensures.rest c.give_all.ensures.trace
    c.give_all.ensures.told in
    record {
      holds = parts-refused g.S.Span.tells n (λ s. s.space) (λ s. g.S.Span.start s.span) (λ s. g.S.Span.contents s.span)
          c.args.parts.counts.items c.args.segments.items c.hold_all.new.segments.items c.args.parts.runs.items _ c.args.held.now
          c.hold_all.new.held c.give_runs.new.held c.args.cache.now c.give_runs.new.cache old (g.L.Hints.rest c.give_all.new.latches)
          (g.L.Hints.rest c.give_runs.new.latches) (g.L.Hints.trace c.args.latches.now) (g.L.Hints.trace c.give_all.new.latches)
          (g.L.Hints.trace c.give_runs.new.latches) last c.requires.runs taken c.requires.right
          (c.hold_all.ensures.sized n.page c.requires.right.sized fits) go c.give_runs.ensures.left c.give_runs.ensures.given;
    }
