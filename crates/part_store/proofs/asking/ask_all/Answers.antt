-- Each part is granted behind those before it, or refused.
use Rattle.std.proofs.Common.{◌≡◌, ℕ, ◌+◌, ◌-◌, ◌<◌, List, ◌∷◌, ◌++◌, length, drop, Option, Some, None, sym, ap, ◌∙◌, subst, arith}
use Rattle.std.proofs.lemmas.List.{length-append, at_drop_more}
use Rattle.std.proofs.lemmas.Result.{err_from_is_err_and}
use Rattle.std.specs.Prelude.{Result, IfErr, option_map, get_or}
use Rattle.std.specs.Result.{result_err}
use Rattle.std.specs.List.{AllByRecursion}
use Rattle.layout_model.specs.declared.request.Request.{Request}
use Rattle.superdirectory.specs.declared.hint.NoSpace.{NoSpace}
use Rattle.superdirectory.specs.Trace.{Part}
use Rattle.superdirectory.specs.Rest.{Frame, count}
use Rattle.superdirectory.proofs.Traces.{part_then}
use Rattle.part_store.specs.Asking.{IsAskable, AreAsked, IsStopped, IsLowAt, most_pieces}
use Rattle.part_store.proofs.AskingLemmas.{asked_more, asked_stopped, low_behind}
use Rattle.part_store.proofs.PartLemmas.{low_granted}
use Rattle.part_store.proofs.asking.ask_all.Goals as goal

abbrev none : Request
none = record { want = 0; need = 0 }

pub ask_part-requires-clause-from : goal.ask_part-requires-clause-from
ask_part-requires-clause-from g c =
    let kept = c.loop-request.invariant in
    let i = c.loop-request.request-index in
    let requests = c.args.requests.now in
    let left : drop i requests ≡ get_or requests i none ∷ drop (i + 1) requests =
    at_drop_more (λ (l : List Request). l) requests i none c.loop-request-test.true in
    let all = subst (AllByRecursion (IsAskable (g.L.Hints.rest c.args.latches.now).frame.pages)) left kept.each in
    record {
      there = subst (λ (f : Frame). c.args.start < length f.firsts) (sym kept.rest.frame) c.requires.from.there;
      none = kept.rest.entered;
      each = (subst (λ (f : Frame). IsAskable f.pages (get_or requests i none)) (sym kept.rest.frame) all.0, tt);
    }

pub returns-in_err-ask_part-clause-refused : goal.returns-in_err-ask_part-clause-refused
returns-in_err-ask_part-clause-refused g c =
    let kept = c.loop-request.invariant in
    let i = c.loop-request.request-index in
    let requests = c.args.requests.now in
    let p = err_from_is_err_and c.from_residual.result c.from_residual.ensures.1 in
    let Stops : NoSpace → Type 0 = λ e. IsStopped (λ s. s.space) (λ s. g.S.Span.start s.span)
    (λ s. g.S.Span.contents s.span) g.S.Span.tells c.args.start c.args.threshold e.pages requests
    (g.L.Hints.rest c.args.latches.now) (g.L.Hints.rest c.ask_part.new.latches) c.ask_part.new.into.items in
    let stopped : Stops c.in_err-ask_part.field-0.0 = asked_stopped (λ s. s.space) (λ s. g.S.Span.start s.span)
    (λ s. g.S.Span.contents s.span) g.S.Span.tells c.args.start c.args.threshold c.in_err-ask_part.field-0.0.pages requests
    (drop i requests) (drop (i + 1) requests) (get_or requests i none) (g.L.Hints.rest c.args.latches.now)
    (g.L.Hints.rest c.loop-request.latches) (g.L.Hints.rest c.ask_part.new.latches) c.loop-request.granted.counts.items
    c.loop-request.granted.segments.items c.ask_part.new.into.items
    (at_drop_more (λ (l : List Request). l) requests i none c.loop-request-test.true) kept.rest.frame kept.asked
    c.in_err-ask_part.ensures.refused in
    subst (λ (r : Result (Unit {0}) NoSpace). IfErr r Stops) (sym p.1) (subst Stops (sym p.2) stopped)

pub returns-in_err-ask_part-clause-low : goal.returns-in_err-ask_part-clause-low
returns-in_err-ask_part-clause-low g c =
    let kept = c.loop-request.invariant in
    let many : ℕ = count (g.L.Hints.rest c.args.latches.now) in
    let refused = Some c.in_err-ask_part.field-0.0.pages in
    let p = err_from_is_err_and c.from_residual.result c.from_residual.ensures.1 in
    let refusal : option_map (λ (e : NoSpace). e.pages) (result_err c.from_residual.result) ≡ refused =
    ap (λ (r : Result (Unit {0}) NoSpace). option_map (λ (e : NoSpace). e.pages) (result_err r)) p.1
    ∙ ap (λ (e : NoSpace). Some e.pages) p.2 in
    let same : count (g.L.Hints.rest c.loop-request.latches) ≡ many = ap (λ (f : Frame). length f.firsts) kept.rest.frame in
    subst (λ (r : Option ℕ). Part (IsLowAt many r) (g.L.Hints.trace c.args.latches.now) (g.L.Hints.trace c.ask_part.new.latches))
    (sym refusal)
    (part_then (IsLowAt many None) (IsLowAt (count (g.L.Hints.rest c.loop-request.latches)) refused) (IsLowAt many refused)
    (g.L.Hints.trace c.args.latches.now) (g.L.Hints.trace c.loop-request.latches) (g.L.Hints.trace c.ask_part.new.latches)
    (λ p q a b. low_behind many refused p q (subst (λ (k : ℕ). IsLowAt k refused q) same b)) kept.low
    c.in_err-ask_part.ensures.low)

pub loop-request-preserved : goal.loop-request-preserved
loop-request-preserved g c =
    let kept = c.loop-request.invariant in
    let i = c.loop-request.request-index in
    let requests = c.args.requests.now in
    let had = c.loop-request.granted.segments.items in
    let adds = c.in_ok-ask_part.ensures.added in
    let many : ℕ = count (g.L.Hints.rest c.args.latches.now) in
    let left : drop i requests ≡ get_or requests i none ∷ drop (i + 1) requests =
    at_drop_more (λ (l : List Request). l) requests i none c.loop-request-test.true in
    let size = ap length adds.added in
    record {
      rest = record {
        frame = c.in_ok-ask_part.ensures.rest.frame ∙ kept.rest.frame;
        entered = c.in_ok-ask_part.ensures.rest.entered;
      };
      each = (subst (AllByRecursion (IsAskable (g.L.Hints.rest c.args.latches.now).frame.pages)) left kept.each).1;
      asked = subst (λ (l : List ℕ). AreAsked (λ s. s.space) (λ s. g.S.Span.start s.span) (λ s. g.S.Span.contents s.span)
          g.S.Span.tells c.args.start c.args.threshold requests (drop (i + 1) requests) (g.L.Hints.rest c.args.latches.now)
          (g.L.Hints.rest c.ask_part.new.latches) l c.ask_part.new.into.items) (sym c.push_reserved.ensures.items)
          (asked_more (λ s. s.space) (λ s. g.S.Span.start s.span) (λ s. g.S.Span.contents s.span) g.S.Span.tells c.args.start
          c.args.threshold requests (drop i requests) (drop (i + 1) requests) (get_or requests i none)
          (g.L.Hints.rest c.args.latches.now) (g.L.Hints.rest c.loop-request.latches) (g.L.Hints.rest c.ask_part.new.latches)
          c.loop-request.granted.counts.items had c.ask_part.new.into.items (c.len-now.result - c.len-before.result)
          left kept.rest.frame kept.asked adds
          (omega (arith, c.len-now.ensures, c.len-before.ensures, size, length-append had adds.pieces)));
      room = omega (
        arith,
        kept.room,
        ap (most_pieces c.args.threshold) left,
        adds.few,
        size,
        length-append had adds.pieces,
        c.in_ok-ask_part.ensures.kept,
      );
      places = omega (arith, kept.places, ap length left, c.push_reserved.ensures.len, c.push_reserved.ensures.capacity);
      low = part_then (IsLowAt many None) (IsLowAt (count (g.L.Hints.rest c.loop-request.latches)) None) (IsLowAt many None)
          (g.L.Hints.trace c.args.latches.now) (g.L.Hints.trace c.loop-request.latches) (g.L.Hints.trace c.ask_part.new.latches)
          (λ p q a b. low_granted many (p ++ q)) kept.low c.in_ok-ask_part.ensures.low;
    }
