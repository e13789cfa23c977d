-- One space more was tried, and the first that has a place ends the search.
use Rattle.std.proofs.Common.{◌≡◌, ◌+◌, ◌-◌, ℕ, List, [], ◌∷◌, ◌++◌, length, Some, true, false, refl, sym, ap, ◌∙◌, subst, arith}
use Rattle.std.specs.List.{range_with_len}
use Rattle.layout_model.specs.Grants.{spot_in}
use Rattle.superdirectory.specs.Trace.{IsTried, IsSearched, IsInTurn}
use Rattle.superdirectory.specs.Rest.{Frame, count}
use Rattle.superdirectory.specs.Grants.{free_sets, IsExact}
use Rattle.superdirectory.proofs.Traces.{part_then, searched_more, searched_found, turn_both, turn_stop}
use Rattle.superdirectory.proofs.GrantLaws.{asked_again}
use Rattle.superdirectory.proofs.Spots.{exact_none, exact_after, spot_append, range_parted, range_one_more}
use Rattle.superdirectory.proofs.granting.grant_between.Goals as goal

pub try_space-requires-clause-from : goal.try_space-requires-clause-from
try_space-requires-clause-from g c =
    let rest = c.loop-s.invariant.rest in
    asked_again (g.L.Hints.rest c.args.latches.now) (g.L.Hints.rest c.loop-s.latches) c.args.from c.loop-s.s
    c.args.n c.args.n rest.frame rest.entered (omega (arith, c.requires.to.1)) c.requires.from.some (omega arith)
    c.requires.from

pub returns-in-Some-clause-trace : goal.returns-in-Some-clause-trace
returns-in-Some-clause-trace g c =
    part_then (IsSearched c.args.order c.args.from c.loop-s.s true) (IsTried c.args.order c.loop-s.s false)
    (IsSearched c.args.order c.args.from c.args.to false)
    (g.L.Hints.trace c.args.latches.now) (g.L.Hints.trace c.loop-s.latches) (g.L.Hints.trace c.try_space.new.latches)
    (λ p q a b. searched_found c.args.order c.args.from c.args.to c.loop-s.s p q (omega arith)
    (omega arith) a b) c.loop-s.invariant.trace c.in-Some.ensures.trace

pub returns-in-Some-clause-turn : goal.returns-in-Some-clause-turn
returns-in-Some-clause-turn g c =
    let before = range_with_len c.args.from (c.loop-s.s - c.args.from) in
    let behind = range_with_len (c.loop-s.s + 1) (c.args.to - (c.loop-s.s + 1)) in
    part_then (IsInTurn before true) (IsInTurn (c.loop-s.s ∷ []) false)
    (IsInTurn (range_with_len c.args.from (c.args.to - c.args.from)) false)
    (g.L.Hints.trace c.args.latches.now) (g.L.Hints.trace c.loop-s.latches) (g.L.Hints.trace c.try_space.new.latches)
    (λ p q a b. subst (λ (spaces : List ℕ). IsInTurn spaces false (p ++ q))
    (range_parted c.args.from c.loop-s.s c.args.to (omega arith) (omega arith))
    (turn_both before ((c.loop-s.s ∷ []) ++ behind) false p q a (turn_stop (c.loop-s.s ∷ []) behind q b)))
    c.loop-s.invariant.turn c.in-Some.ensures.turn

pub returns-in-Some-clause-exact : goal.returns-in-Some-clause-exact
returns-in-Some-clause-exact g c = λ views told same.
    let told' = c.loop-s.invariant.told views told same in
    let same' : length views ≡ count (g.L.Hints.rest c.loop-s.latches) = same
    ∙ ap (λ (f : Frame). length f.firsts) (sym c.loop-s.invariant.rest.frame) in
    let here = subst (λ (f : Frame). IsExact views c.args.n (spot_in (free_sets views) c.args.n (c.loop-s.s ∷ [])) f
    (Some (
      c.in-Some.segment.space,
      (
        g.S.Span.start c.in-Some.segment.span,
        g.S.Span.contents c.in-Some.segment.span,
      ),
    ))
    (g.L.Hints.rest c.try_space.new.latches)) c.loop-s.invariant.rest.frame
    (c.in-Some.ensures.exact views told' same') in
    subst (λ (visits : List ℕ). IsExact views c.args.n (spot_in (free_sets views) c.args.n visits)
    (g.L.Hints.rest c.args.latches.now).frame (Some (
      c.in-Some.segment.space,
      (g.S.Span.start c.in-Some.segment.span, g.S.Span.contents c.in-Some.segment.span),
    ))
    (g.L.Hints.rest c.try_space.new.latches))
    (range_parted c.args.from c.loop-s.s c.args.to (omega arith) (omega arith))
    (exact_after views c.args.n (range_with_len c.args.from (c.loop-s.s - c.args.from)) (c.loop-s.s ∷ [])
    (range_with_len (c.loop-s.s + 1) (c.args.to - (c.loop-s.s + 1)))
    (g.L.Hints.rest c.args.latches.now).frame (
      c.in-Some.segment.space,
      (g.S.Span.start c.in-Some.segment.span, g.S.Span.contents c.in-Some.segment.span),
    )
    (g.L.Hints.rest c.try_space.new.latches)
    (c.loop-s.invariant.none views told same) here)

pub loop-s-preserved : goal.loop-s-preserved
loop-s-preserved g c = record {
  rest = record { frame = c.try_space.ensures.rest.frame ∙ c.loop-s.invariant.rest.frame; entered = c.try_space.ensures.rest.entered };
  trace = part_then (IsSearched c.args.order c.args.from c.loop-s.s true) (IsTried c.args.order c.loop-s.s true)
      (IsSearched c.args.order c.args.from (c.loop-s.s + 1) true)
      (g.L.Hints.trace c.args.latches.now) (g.L.Hints.trace c.loop-s.latches) (g.L.Hints.trace c.try_space.new.latches)
      (λ p q a b. searched_more c.args.order c.args.from c.loop-s.s (c.loop-s.s + 1) true p q refl (omega arith) a
      b) c.loop-s.invariant.trace c.in_default.ensures.trace;
  turn = part_then (IsInTurn (range_with_len c.args.from (c.loop-s.s - c.args.from)) true)
      (IsInTurn (c.loop-s.s ∷ []) true) (IsInTurn (range_with_len c.args.from (c.loop-s.s + 1 - c.args.from)) true)
      (g.L.Hints.trace c.args.latches.now) (g.L.Hints.trace c.loop-s.latches) (g.L.Hints.trace c.try_space.new.latches)
      (λ p q a b. subst (λ (spaces : List ℕ). IsInTurn spaces true (p ++ q)) (range_one_more c.args.from c.loop-s.s (omega arith))
      (turn_both (range_with_len c.args.from (c.loop-s.s - c.args.from))
      (c.loop-s.s ∷ []) true p q a b)) c.loop-s.invariant.turn c.in_default.ensures.turn;
  told = λ views told same.
      let same' : length views ≡ count (g.L.Hints.rest c.loop-s.latches) = same
      ∙ ap (λ (f : Frame). length f.firsts) (sym c.loop-s.invariant.rest.frame) in
      (exact_none views c.args.n (spot_in (free_sets views) c.args.n (c.loop-s.s ∷ []))
      (g.L.Hints.rest c.loop-s.latches).frame (g.L.Hints.rest c.try_space.new.latches)
      (c.in_default.ensures.exact views (c.loop-s.invariant.told views told same) same')).1;
  none = λ views told same.
      let same' : length views ≡ count (g.L.Hints.rest c.loop-s.latches) = same
      ∙ ap (λ (f : Frame). length f.firsts) (sym c.loop-s.invariant.rest.frame) in
      let none = (exact_none views c.args.n (spot_in (free_sets views) c.args.n (c.loop-s.s ∷ []))
      (g.L.Hints.rest c.loop-s.latches).frame (g.L.Hints.rest c.try_space.new.latches)
      (c.in_default.ensures.exact views (c.loop-s.invariant.told views told same) same')).0 in
      ap (λ (visits : List ℕ). spot_in (free_sets views) c.args.n visits) (sym (range_one_more c.args.from c.loop-s.s (omega arith)))
      ∙ spot_append (free_sets views) c.args.n (range_with_len c.args.from (c.loop-s.s - c.args.from))
      (c.loop-s.s ∷ []) (c.loop-s.invariant.none views told same) ∙ none;
}
