-- The need alone, the wish, or the need after a refused wish.
use Rattle.std.proofs.Common.{◌≡◌, ℕ, length, true, refl, ap, subst, arith}
use Rattle.std.specs.Prelude.{option_map, vec_len, vec_capacity}
use Rattle.std.specs.Result.{result_err}
use Rattle.block_model.specs.Place.{least_order}
use Rattle.superdirectory.specs.declared.hint.NoSpace.{NoSpace}
use Rattle.superdirectory.specs.Trace.{IsSearched}
use Rattle.superdirectory.specs.Rest.{Frame, count}
use Rattle.superdirectory.specs.Parts.{IsAskedAll}
use Rattle.superdirectory.proofs.Traces.{part_as, part_then}
use Rattle.part_store.specs.Asking.{IsLowAt}
use Rattle.part_store.proofs.AskingLemmas.{low_behind}
use Rattle.part_store.proofs.PartLemmas.{part_wish, need_granted, need_refused, rule_need, rule_wish, low_asked}
use Rattle.part_store.proofs.asking.ask_part.Goals as goal

pub returns-then-request-clause-added : goal.returns-then-request-clause-added
returns-then-request-clause-added g c =
    let old = g.L.Hints.rest c.args.latches.now in
    need_granted (λ s. s.space) (λ s. g.S.Span.start s.span) (λ s. g.S.Span.contents s.span) g.S.Span.tells c.args.start
    c.args.threshold (vec_len c.args.into.now) (vec_capacity c.args.into.now) (vec_capacity c.grant_parts.new.into)
    c.args.request old old (g.L.Hints.rest c.grant_parts.new.latches) c.args.into.now.items c.grant_parts.new.into.items
    c.grant_parts.result c.requires.from.each.0.some c.requires.threshold refl
    (λ numbers views told same. rule_need numbers c.args.start c.args.threshold c.args.request old views c.requires.from.each.0.some
    (omega (arith, c.if-request.true)) told) c.grant_parts.ensures.pieces c.grant_parts.ensures.exact

pub returns-then-request-clause-refused : goal.returns-then-request-clause-refused
returns-then-request-clause-refused g c =
    let old = g.L.Hints.rest c.args.latches.now in
    need_refused (λ s. s.space) (λ s. g.S.Span.start s.span) (λ s. g.S.Span.contents s.span) c.args.start
    c.args.threshold (vec_len c.args.into.now) (vec_capacity c.args.into.now) (vec_capacity c.grant_parts.new.into)
    c.args.request old old (g.L.Hints.rest c.grant_parts.new.latches) c.args.into.now.items c.grant_parts.new.into.items
    c.grant_parts.result refl
    (λ numbers views told same. rule_need numbers c.args.start c.args.threshold c.args.request old views c.requires.from.each.0.some
    (omega (arith, c.if-request.true)) told) c.grant_parts.ensures.refused c.grant_parts.ensures.exact

pub returns-then-request-clause-low : goal.returns-then-request-clause-low
returns-then-request-clause-low g c =
    let many = count (g.L.Hints.rest c.args.latches.now) in
    let refusal = option_map (λ (e : NoSpace). e.pages) (result_err c.grant_parts.result) in
    part_as (IsAskedAll c.args.request.need c.args.threshold many refusal) (IsLowAt many refusal)
    (g.L.Hints.trace c.args.latches.now) (g.L.Hints.trace c.grant_parts.new.latches)
    (λ p h. low_asked c.args.request.need c.args.threshold many refusal p h) c.grant_parts.ensures.trace

pub returns-in-Ok-clause-added : goal.returns-in-Ok-clause-added
returns-in-Ok-clause-added g c =
    part_wish (λ s. s.space) (λ s. g.S.Span.start s.span) (λ s. g.S.Span.contents s.span) g.S.Span.tells c.args.start
    c.args.threshold c.args.request (g.L.Hints.rest c.args.latches.now) (g.L.Hints.rest c.grant.new.latches)
    c.args.into.now.items c.push_reserved.new.self.items c.in-Ok.segment
    (omega (arith, c.requires.from.each.0.some, c.requires.from.each.0.wish)) c.in-Ok.ensures.segment c.in-Ok.ensures.exact
    c.push_reserved.ensures.items

pub returns-in-Err-clause-added : goal.returns-in-Err-clause-added
returns-in-Err-clause-added g c =
    let old = g.L.Hints.rest c.args.latches.now in
    let middle = g.L.Hints.rest c.grant.new.latches in
    need_granted (λ s. s.space) (λ s. g.S.Span.start s.span) (λ s. g.S.Span.contents s.span) g.S.Span.tells c.args.start
    c.args.threshold (vec_len c.args.into.now) (vec_capacity c.args.into.now) (vec_capacity c.grant_parts-in-Err.new.into)
    c.args.request old middle (g.L.Hints.rest c.grant_parts-in-Err.new.latches) c.args.into.now.items
    c.grant_parts-in-Err.new.into.items c.grant_parts-in-Err.result c.requires.from.each.0.some c.requires.threshold
    c.in-Err.ensures.rest.frame
    (λ numbers views told same. rule_wish numbers c.args.start c.args.threshold c.args.request old middle views same
    c.in-Err.ensures.exact told) c.grant_parts-in-Err.ensures.pieces c.grant_parts-in-Err.ensures.exact

pub returns-in-Err-clause-refused : goal.returns-in-Err-clause-refused
returns-in-Err-clause-refused g c =
    let old = g.L.Hints.rest c.args.latches.now in
    let middle = g.L.Hints.rest c.grant.new.latches in
    need_refused (λ s. s.space) (λ s. g.S.Span.start s.span) (λ s. g.S.Span.contents s.span) c.args.start
    c.args.threshold (vec_len c.args.into.now) (vec_capacity c.args.into.now) (vec_capacity c.grant_parts-in-Err.new.into)
    c.args.request old middle (g.L.Hints.rest c.grant_parts-in-Err.new.latches) c.args.into.now.items
    c.grant_parts-in-Err.new.into.items c.grant_parts-in-Err.result c.in-Err.ensures.rest.frame
    (λ numbers views told same. rule_wish numbers c.args.start c.args.threshold c.args.request old middle views same
    c.in-Err.ensures.exact told) c.grant_parts-in-Err.ensures.refused c.grant_parts-in-Err.ensures.exact

pub returns-in-Err-clause-low : goal.returns-in-Err-clause-low
returns-in-Err-clause-low g c =
    let many : ℕ = count (g.L.Hints.rest c.args.latches.now) in
    let refusal = option_map (λ (e : NoSpace). e.pages) (result_err c.grant_parts-in-Err.result) in
    let same : count (g.L.Hints.rest c.grant.new.latches) ≡ many = ap (λ (f : Frame). length f.firsts) c.in-Err.ensures.rest.frame in
    part_then (IsSearched (least_order c.args.request.want) 0 many true)
    (IsAskedAll c.args.request.need c.args.threshold (count (g.L.Hints.rest c.grant.new.latches)) refusal)
    (IsLowAt many refusal) (g.L.Hints.trace c.args.latches.now) (g.L.Hints.trace c.grant.new.latches)
    (g.L.Hints.trace c.grant_parts-in-Err.new.latches)
    (λ p q a b. low_behind many refusal p q (low_asked c.args.request.need c.args.threshold many refusal q
    (subst (λ (k : ℕ). IsAskedAll c.args.request.need c.args.threshold k refusal q) same b)))
    c.in-Err.ensures.trace c.grant_parts-in-Err.ensures.trace
