-- The spaces from the start on, and then those before it.
use Rattle.std.proofs.Common.{◌≡◌, ◌-◌, ℕ, ◌++◌, length, Some, None, true, false, sym, ap, ◌∙◌, subst, arith}
use Rattle.std.specs.List.{range_with_len}
use Rattle.block_model.specs.Place.{least_order}
use Rattle.block_model.proofs.Laws.{IsOrder-unique, least_order-is}
use Rattle.layout_model.specs.Grants.{spot_in, around}
use Rattle.superdirectory.specs.Trace.{IsSearched, IsInTurn}
use Rattle.superdirectory.specs.Rest.{Frame, count}
use Rattle.superdirectory.specs.Grants.{free_sets, IsExact}
use Rattle.superdirectory.proofs.Traces.{part_then, part_as, searched_both, searched_found_from, turn_both, turn_stop}
use Rattle.superdirectory.proofs.GrantLaws.{asked_again}
use Rattle.superdirectory.proofs.Spots.{exact_none, exact_first, exact_second}
use Rattle.superdirectory.proofs.granting.grant.Goals as goal

pub grant_between-requires-2-clause-from : goal.grant_between-requires-2-clause-from
grant_between-requires-2-clause-from g c =
    let rest = c.in_default.ensures.rest in
    asked_again (g.L.Hints.rest c.args.latches.now) (g.L.Hints.rest c.grant_between.new.latches) c.args.start 0
    c.args.n c.args.n rest.frame rest.entered (omega (arith, c.requires.from.there)) c.requires.from.some (omega arith)
    c.requires.from

pub grant_between-requires-2-clause-to : goal.grant_between-requires-2-clause-to
grant_between-requires-2-clause-to g c =
    let many : count (g.L.Hints.rest c.grant_between.new.latches) ≡ count (g.L.Hints.rest c.args.latches.now) =
    ap (λ (f : Frame). length f.firsts) c.in_default.ensures.rest.frame in (
      omega arith,
      omega (arith, many, c.requires.from.there),
    )

pub returns-in-Some-clause-trace : goal.returns-in-Some-clause-trace
returns-in-Some-clause-trace g c =
    let least : c.order_of-order.result ≡ least_order c.args.n =
    IsOrder-unique c.args.n c.order_of-order.result (least_order c.args.n) c.order_of-order.ensures
    (least_order-is c.args.n) in
    part_as (IsSearched c.order_of-order.result c.args.start c.spaces-spaces.result false)
    (IsSearched (least_order c.args.n) 0 (count (g.L.Hints.rest c.args.latches.now)) false)
    (g.L.Hints.trace c.args.latches.now) (g.L.Hints.trace c.grant_between.new.latches)
    (λ p h. subst (λ (k : ℕ). IsSearched k 0 (count (g.L.Hints.rest c.args.latches.now)) false p) least
    (searched_found_from c.order_of-order.result c.args.start c.spaces-spaces.result 0
    (count (g.L.Hints.rest c.args.latches.now)) p (omega arith)
    (omega (arith, c.spaces-spaces.ensures)) h)) c.in-Some.ensures.trace

pub returns-in-Some-clause-turn : goal.returns-in-Some-clause-turn
returns-in-Some-clause-turn g c =
    let all = count (g.L.Hints.rest c.args.latches.now) in
    part_as (IsInTurn (range_with_len c.args.start (c.spaces-spaces.result - c.args.start)) false)
    (IsInTurn (around c.args.start all) false)
    (g.L.Hints.trace c.args.latches.now) (g.L.Hints.trace c.grant_between.new.latches)
    (λ p a. turn_stop (range_with_len c.args.start (all - c.args.start)) (range_with_len 0 c.args.start) p
    (subst (λ (k : ℕ). IsInTurn (range_with_len c.args.start (k - c.args.start)) false p) c.spaces-spaces.ensures a)) c.in-Some.ensures.turn

pub returns-in-Some-clause-exact : goal.returns-in-Some-clause-exact
returns-in-Some-clause-exact g c = λ views told same.
    exact_first views c.args.n (range_with_len c.args.start
    (count (g.L.Hints.rest c.args.latches.now) - c.args.start)) (range_with_len 0 c.args.start)
    (g.L.Hints.rest c.args.latches.now).frame (
      c.in-Some.segment.space,
      (g.S.Span.start c.in-Some.segment.span, g.S.Span.contents c.in-Some.segment.span),
    )
    (g.L.Hints.rest c.grant_between.new.latches)
    (subst (λ (k : ℕ). IsExact views c.args.n
    (spot_in (free_sets views) c.args.n (range_with_len c.args.start (k - c.args.start)))
    (g.L.Hints.rest c.args.latches.now).frame (Some (
      c.in-Some.segment.space,
      (g.S.Span.start c.in-Some.segment.span, g.S.Span.contents c.in-Some.segment.span),
    ))
    (g.L.Hints.rest c.grant_between.new.latches)) c.spaces-spaces.ensures
    (c.in-Some.ensures.exact views told same))

pub returns-in-Some-grant_between-clause-trace : goal.returns-in-Some-grant_between-clause-trace
returns-in-Some-grant_between-clause-trace g c =
    let least : c.order_of-order.result ≡ least_order c.args.n =
    IsOrder-unique c.args.n c.order_of-order.result (least_order c.args.n) c.order_of-order.ensures
    (least_order-is c.args.n) in
    part_then (IsSearched c.order_of-order.result c.args.start c.spaces-spaces.result true)
    (IsSearched c.order_of-order.result 0 c.args.start false)
    (IsSearched (least_order c.args.n) 0 (count (g.L.Hints.rest c.args.latches.now)) false)
    (g.L.Hints.trace c.args.latches.now) (g.L.Hints.trace c.grant_between.new.latches) (g.L.Hints.trace c.grant_between-2.new.latches)
    (λ p q a b. subst (λ (k : ℕ). IsSearched k 0 (count (g.L.Hints.rest c.args.latches.now)) false (p ++ q)) least
    (searched_both c.order_of-order.result c.args.start (count (g.L.Hints.rest c.args.latches.now)) false p q
    (omega (arith, c.requires.from.there)) (subst
    (λ (k : ℕ). IsSearched c.order_of-order.result c.args.start k true p) c.spaces-spaces.ensures a) b))
    c.in_default.ensures.trace c.in-Some-grant_between.ensures.trace

pub returns-in-Some-grant_between-clause-turn : goal.returns-in-Some-grant_between-clause-turn
returns-in-Some-grant_between-clause-turn g c =
    let all = count (g.L.Hints.rest c.args.latches.now) in
    let whole : c.args.start - 0 ≡ c.args.start = omega arith in
    part_then (IsInTurn (range_with_len c.args.start (c.spaces-spaces.result - c.args.start)) true)
    (IsInTurn (range_with_len 0 (c.args.start - 0)) false) (IsInTurn (around c.args.start all) false)
    (g.L.Hints.trace c.args.latches.now) (g.L.Hints.trace c.grant_between.new.latches) (g.L.Hints.trace c.grant_between-2.new.latches)
    (λ p q a b. turn_both (range_with_len c.args.start (all - c.args.start)) (range_with_len 0 c.args.start) false p q
    (subst (λ (k : ℕ). IsInTurn (range_with_len c.args.start (k - c.args.start)) true p) c.spaces-spaces.ensures a)
    (subst (λ (k : ℕ). IsInTurn (range_with_len 0 k) false q) whole b))
    c.in_default.ensures.turn c.in-Some-grant_between.ensures.turn

pub returns-in-Some-grant_between-clause-exact : goal.returns-in-Some-grant_between-clause-exact
returns-in-Some-grant_between-clause-exact g c = λ views told same.
    let first = exact_none views c.args.n (spot_in (free_sets views) c.args.n
    (range_with_len c.args.start (c.spaces-spaces.result - c.args.start)))
    (g.L.Hints.rest c.args.latches.now).frame (g.L.Hints.rest c.grant_between.new.latches)
    (c.in_default.ensures.exact views told same) in
    let same' : length views ≡ count (g.L.Hints.rest c.grant_between.new.latches) = same
    ∙ ap (λ (f : Frame). length f.firsts) (sym c.in_default.ensures.rest.frame) in
    let none : spot_in (free_sets views) c.args.n
    (range_with_len c.args.start (count (g.L.Hints.rest c.args.latches.now) - c.args.start)) ≡ None =
    subst (λ (k : ℕ). spot_in (free_sets views) c.args.n (range_with_len c.args.start (k - c.args.start))
    ≡ None) c.spaces-spaces.ensures first.0 in
    let whole : c.args.start - 0 ≡ c.args.start = omega arith in
    exact_second views c.args.n (range_with_len c.args.start
    (count (g.L.Hints.rest c.args.latches.now) - c.args.start)) (range_with_len 0 c.args.start)
    (g.L.Hints.rest c.args.latches.now).frame (Some (
      c.in-Some-grant_between.segment.space,
      (
        g.S.Span.start c.in-Some-grant_between.segment.span,
        g.S.Span.contents c.in-Some-grant_between.segment.span,
      ),
    ))
    (g.L.Hints.rest c.grant_between-2.new.latches) none
    (subst (λ (k : ℕ). IsExact views c.args.n (spot_in (free_sets views) c.args.n (range_with_len 0 k))
    (g.L.Hints.rest c.args.latches.now).frame (Some (
      c.in-Some-grant_between.segment.space,
      (
        g.S.Span.start c.in-Some-grant_between.segment.span,
        g.S.Span.contents c.in-Some-grant_between.segment.span,
      ),
    ))
    (g.L.Hints.rest c.grant_between-2.new.latches)) whole
    (subst (λ (f : Frame). IsExact views c.args.n
    (spot_in (free_sets views) c.args.n (range_with_len 0 (c.args.start - 0))) f
    (Some (
      c.in-Some-grant_between.segment.space,
      (
        g.S.Span.start c.in-Some-grant_between.segment.span,
        g.S.Span.contents c.in-Some-grant_between.segment.span,
      ),
    ))
    (g.L.Hints.rest c.grant_between-2.new.latches)) c.in_default.ensures.rest.frame
    (c.in-Some-grant_between.ensures.exact views first.1 same')))

pub returns-clause-trace : goal.returns-clause-trace
returns-clause-trace g c =
    let least : c.order_of-order.result ≡ least_order c.args.n =
    IsOrder-unique c.args.n c.order_of-order.result (least_order c.args.n) c.order_of-order.ensures
    (least_order-is c.args.n) in
    part_then (IsSearched c.order_of-order.result c.args.start c.spaces-spaces.result true)
    (IsSearched c.order_of-order.result 0 c.args.start true)
    (IsSearched (least_order c.args.n) 0 (count (g.L.Hints.rest c.args.latches.now)) true)
    (g.L.Hints.trace c.args.latches.now) (g.L.Hints.trace c.grant_between.new.latches) (g.L.Hints.trace c.grant_between-2.new.latches)
    (λ p q a b. subst (λ (k : ℕ). IsSearched k 0 (count (g.L.Hints.rest c.args.latches.now)) true (p ++ q)) least
    (searched_both c.order_of-order.result c.args.start (count (g.L.Hints.rest c.args.latches.now)) true p q
    (omega (arith, c.requires.from.there)) (subst
    (λ (k : ℕ). IsSearched c.order_of-order.result c.args.start k true p) c.spaces-spaces.ensures a) b))
    c.in_default.ensures.trace c.in_default-grant_between.ensures.trace

pub returns-clause-turn : goal.returns-clause-turn
returns-clause-turn g c =
    let all = count (g.L.Hints.rest c.args.latches.now) in
    let whole : c.args.start - 0 ≡ c.args.start = omega arith in
    part_then (IsInTurn (range_with_len c.args.start (c.spaces-spaces.result - c.args.start)) true)
    (IsInTurn (range_with_len 0 (c.args.start - 0)) true) (IsInTurn (around c.args.start all) true)
    (g.L.Hints.trace c.args.latches.now) (g.L.Hints.trace c.grant_between.new.latches) (g.L.Hints.trace c.grant_between-2.new.latches)
    (λ p q a b. turn_both (range_with_len c.args.start (all - c.args.start)) (range_with_len 0 c.args.start) true p q
    (subst (λ (k : ℕ). IsInTurn (range_with_len c.args.start (k - c.args.start)) true p) c.spaces-spaces.ensures a)
    (subst (λ (k : ℕ). IsInTurn (range_with_len 0 k) true q) whole b))
    c.in_default.ensures.turn c.in_default-grant_between.ensures.turn

pub returns-clause-exact : goal.returns-clause-exact
returns-clause-exact g c = λ views told same.
    let first = exact_none views c.args.n (spot_in (free_sets views) c.args.n
    (range_with_len c.args.start (c.spaces-spaces.result - c.args.start)))
    (g.L.Hints.rest c.args.latches.now).frame (g.L.Hints.rest c.grant_between.new.latches)
    (c.in_default.ensures.exact views told same) in
    let same' : length views ≡ count (g.L.Hints.rest c.grant_between.new.latches) = same
    ∙ ap (λ (f : Frame). length f.firsts) (sym c.in_default.ensures.rest.frame) in
    let none : spot_in (free_sets views) c.args.n
    (range_with_len c.args.start (count (g.L.Hints.rest c.args.latches.now) - c.args.start)) ≡ None =
    subst (λ (k : ℕ). spot_in (free_sets views) c.args.n (range_with_len c.args.start (k - c.args.start))
    ≡ None) c.spaces-spaces.ensures first.0 in
    let whole : c.args.start - 0 ≡ c.args.start = omega arith in
    exact_second views c.args.n (range_with_len c.args.start
    (count (g.L.Hints.rest c.args.latches.now) - c.args.start)) (range_with_len 0 c.args.start)
    (g.L.Hints.rest c.args.latches.now).frame None (g.L.Hints.rest c.grant_between-2.new.latches) none
    (subst (λ (k : ℕ). IsExact views c.args.n (spot_in (free_sets views) c.args.n (range_with_len 0 k))
    (g.L.Hints.rest c.args.latches.now).frame None (g.L.Hints.rest c.grant_between-2.new.latches)) whole
    (subst (λ (f : Frame). IsExact views c.args.n
    (spot_in (free_sets views) c.args.n (range_with_len 0 (c.args.start - 0))) f None
    (g.L.Hints.rest c.grant_between-2.new.latches)) c.in_default.ensures.rest.frame
    (c.in_default-grant_between.ensures.exact views first.1 same')))
