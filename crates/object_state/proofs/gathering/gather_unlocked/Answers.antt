-- A span is gathered after the other.
use Rattle.std.proofs.Common.{◌≡◌, ℕ, ◌+◌, false, not, ◌&&◌, ◌||◌, sym, subst, arith}
use Rattle.page_set.specs.Members.{AllOn}
use Rattle.page_set.specs.Words.{in_set, room_in}
use Rattle.page_cache.specs.Kept.{is_on_run}
use Rattle.span_store.specs.Held.{span_of}
use Rattle.object_state.proofs.GatherLemmas.{IsGathering, gathering-all, gathering-init, gathering-more, span-fits}
use Rattle.object_state.proofs.gathering.gather_unlocked.Goals as goal

pub loop-span-init : goal.loop-span-init
loop-span-init g c =
    gathering-init c.args.geometry.now c.args.held.now c.new-gone.result c.args.locked.now c.requires.on_data c.new-gone.ensures.empty

pub gather_run-requires : goal.gather_run-requires
gather_run-requires g c =
    let s = span_of g.S.Span.start g.S.Span.contents c.in-Some.span.now in
    let fits = span-fits c.args.held.now c.loop-span.at c.pages-pages.result c.end-end.result s c.in-Some.ensures.found
    (sym c.pages-pages.ensures.count) c.end-end.ensures (omega arith) in
    omega (arith, fits, c.first-first.ensures)

pub overflow_add-at : goal.overflow_add-at
overflow_add-at g c =
    let s = span_of g.S.Span.start g.S.Span.contents c.in-Some.span.now in
    let fits = span-fits c.args.held.now c.loop-span.at c.pages-pages.result c.end-end.result s c.in-Some.ensures.found
    (sym c.pages-pages.ensures.count) c.end-end.ensures (omega arith) in
    omega (arith, fits, c.first-first.ensures)

pub loop-span-preserved : goal.loop-span-preserved
loop-span-preserved g c =
    let s = span_of g.S.Span.start g.S.Span.contents c.in-Some.span.now in
    let here = c.first-first.ensures in
    let gathered = c.in_ok-gather_run.ensures in
    let after = c.gather_run.new in
    subst (λ (first : ℕ). IsGathering c.args.held.now (first + c.pages-pages.result) after.gone c.args.locked.now after.locked) (sym here)
    (gathering-more c.args.held.now c.loop-span.at c.pages-pages.result s c.loop-span.gone after.gone c.args.locked.now
    c.loop-span.locked after.locked c.requires.marked c.loop-span.invariant c.in-Some.ensures.found (sym c.pages-pages.ensures.count)
    (subst (λ (first : ℕ). (q : ℕ) → in_set after.gone q
    ≡ (in_set c.loop-span.gone q || (is_on_run first c.pages-pages.result q && not (in_set c.loop-span.locked first)))) here gathered.gone)
    (subst (λ (first : ℕ). in_set c.loop-span.locked first ≡ false → AllOn (room_in after.locked) first c.pages-pages.result) here
    gathered.room) c.gather_run.ensures.keeps c.gather_run.ensures.same c.gather_run.ensures.size)

pub returns-clause-gone : goal.returns-clause-gone
returns-clause-gone g c =
    gathering-all c.args.held.now c.loop-span.at c.loop-span.gone c.args.locked.now c.loop-span.locked c.loop-span.invariant
    c.in_default.ensures.none
