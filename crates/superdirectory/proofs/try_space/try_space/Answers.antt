-- The look, the enter and the leave, and what the one space's grant says of all.
use Rattle.std.proofs.Common.{◌≡◌, List, [], ◌∷◌, ◌++◌, map, Option, Some, None, true, sym, ap, ◌∙◌, subst, arith}
use Rattle.std.proofs.lemmas.Bool.{false≢true}
use Rattle.std.specs.Prelude.{is_none, option_map, slice_set}
use Rattle.block_model.specs.Place.{hint_of}
use Rattle.space_directory.specs.SpaceView.{SpaceView}
use Rattle.superdirectory.specs.Trace.{SpaceEvent, look_event, enter_event, IsTried, IsInTurn, IsNothing}
use Rattle.superdirectory.specs.Rest.{Rest, leaving}
use Rattle.superdirectory.proofs.Traces.{part_then, part_as, tried_entered, turn_low, turn_entered}
use Rattle.superdirectory.proofs.Spots.{view_at, told_at, exact_refused, exact_entered, segment_in, low_where_none}
use Rattle.superdirectory.proofs.try_space.try_space.Goals as goal

pub returns-then-not-admits-clause-exact : goal.returns-then-not-admits-clause-exact
returns-then-not-admits-clause-exact g c = λ views told same.
    let v = view_at views c.args.s (omega (arith, c.requires.from.there)) in
    exact_refused views c.args.n c.args.order c.args.s c.look-hint.result.0
    (g.L.Hints.rest c.args.latches.now).frame v.0 (g.L.Hints.rest c.look-hint.new.self) v.1 c.requires.order
    (c.look-hint.ensures.exact v.0 (told_at (g.L.Hints.rest c.args.latches.now) views c.args.s v.0 told v.1))
    (λ enough. false≢true (sym c.if-not-admits.true ∙ c.admits.ensures.1 enough))
    (ap (λ (r : Rest). r.spaces) c.look-hint.ensures.rest ∙ told)

pub returns-clause-trace : goal.returns-clause-trace
returns-clause-trace g c =
    part_then (λ part. part ≡ look_event c.args.s c.look-hint.result.0 ∷ [])
    (λ part. part ≡ enter_event c.args.s (hint_of c.enter-space.result.free) ∷ [])
    (IsTried c.args.order c.args.s (is_none c.grant-granted.result))
    (g.L.Hints.trace c.args.latches.now) (g.L.Hints.trace c.look-hint.new.self) (g.L.Hints.trace c.leave.new.self)
    (λ p q first second. subst (λ (l : List SpaceEvent). IsTried c.args.order c.args.s
    (is_none c.grant-granted.result) l) (sym (ap (λ (l : List SpaceEvent). l ++ q) first
    ∙ ap (λ (l : List SpaceEvent). look_event c.args.s c.look-hint.result.0 ∷ l) second))
    (tried_entered c.args.order c.args.s c.look-hint.result.0 (hint_of c.enter-space.result.free)
    (is_none c.grant-granted.result) (c.admits.ensures.0 c.if-not-admits.false)
    (low_where_none c.grant-granted.result c.enter-space.result.free c.args.n c.args.order
    c.grant-granted.ensures.refused c.requires.order)))
    c.look-hint.ensures.trace
    (part_then (λ part. part ≡ enter_event c.args.s (hint_of c.enter-space.result.free)
    ∷ []) IsNothing (λ part. part ≡ enter_event c.args.s (hint_of c.enter-space.result.free) ∷ [])
    (g.L.Hints.trace c.look-hint.new.self) (g.L.Hints.trace c.enter-space.new.self) (g.L.Hints.trace c.leave.new.self)
    (λ p q first second. ap (λ (l : List SpaceEvent). l ++ q) first
    ∙ ap (λ (l : List SpaceEvent). enter_event c.args.s (hint_of c.enter-space.result.free) ∷ l) second)
    c.enter-space.ensures.trace c.leave.ensures.trace)

pub returns-then-not-admits-clause-turn : goal.returns-then-not-admits-clause-turn
returns-then-not-admits-clause-turn g c =
    part_as (λ part. part ≡ look_event c.args.s c.look-hint.result.0 ∷ []) (IsInTurn (c.args.s ∷ []) true)
    (g.L.Hints.trace c.args.latches.now) (g.L.Hints.trace c.look-hint.new.self)
    (λ p e. subst (IsInTurn (c.args.s ∷ []) true) (sym e) (turn_low c.args.s c.look-hint.result.0)) c.look-hint.ensures.trace

pub returns-clause-turn : goal.returns-clause-turn
returns-clause-turn g c =
    part_then (λ part. part ≡ look_event c.args.s c.look-hint.result.0 ∷ [])
    (λ part. part ≡ enter_event c.args.s (hint_of c.enter-space.result.free) ∷ [])
    (IsInTurn (c.args.s ∷ []) (is_none c.grant-granted.result))
    (g.L.Hints.trace c.args.latches.now) (g.L.Hints.trace c.look-hint.new.self) (g.L.Hints.trace c.leave.new.self)
    (λ p q first second. subst (λ (l : List SpaceEvent). IsInTurn (c.args.s ∷ [])
    (is_none c.grant-granted.result) l) (sym (ap (λ (l : List SpaceEvent). l ++ q) first
    ∙ ap (λ (l : List SpaceEvent). look_event c.args.s c.look-hint.result.0 ∷ l) second))
    (turn_entered c.args.s c.look-hint.result.0 (hint_of c.enter-space.result.free) (is_none c.grant-granted.result)))
    c.look-hint.ensures.trace
    (part_then (λ part. part ≡ enter_event c.args.s (hint_of c.enter-space.result.free)
    ∷ []) IsNothing (λ part. part ≡ enter_event c.args.s (hint_of c.enter-space.result.free) ∷ [])
    (g.L.Hints.trace c.look-hint.new.self) (g.L.Hints.trace c.enter-space.new.self) (g.L.Hints.trace c.leave.new.self)
    (λ p q first second. ap (λ (l : List SpaceEvent). l ++ q) first
    ∙ ap (λ (l : List SpaceEvent). enter_event c.args.s (hint_of c.enter-space.result.free) ∷ l) second)
    c.enter-space.ensures.trace c.leave.ensures.trace)

pub returns-clause-segment : goal.returns-clause-segment
returns-clause-segment g c =
    segment_in (λ a. (a.space, g.S.Span.start a.span))
    (λ a. g.S.Span.contents a.span) g.S.Span.tells c.grant-granted.result c.enter-space.result
    c.grant-granted.new.self c.args.n c.args.s (g.L.Hints.rest c.args.latches.now).frame c.requires.from.there
    c.requires.from.some
    (rw (← c.look-hint.ensures.rest) c.enter-space.ensures.home) c.grant-granted.ensures.granted

pub returns-clause-exact : goal.returns-clause-exact
returns-clause-exact g c = λ views told same.
    let v = view_at views c.args.s (omega (arith, c.requires.from.there)) in
    let told' = told_at (g.L.Hints.rest c.args.latches.now) views c.args.s v.0 told v.1 in
    let looked : (g.L.Hints.rest c.look-hint.new.self).spaces ≡ Some (map Some views) =
    ap (λ (r : Rest). r.spaces) c.look-hint.ensures.rest ∙ told in
    let left : (g.L.Hints.rest c.leave.new.self).spaces
    ≡ Some (slice_set (slice_set (map Some views) c.args.s None) c.args.s (Some c.grant-granted.new.self)) =
    ap (λ (r : Rest). r.spaces) (c.leave.ensures.rest
    ∙ ap (λ (r : Rest). leaving r c.args.s c.grant-granted.new.self) c.enter-space.ensures.rest)
    ∙ ap (λ (o : Option (List (Option SpaceView))). option_map
    (λ spaces. slice_set spaces c.args.s (Some c.grant-granted.new.self))
    (option_map (λ spaces. slice_set spaces c.args.s None) o)) looked in
    exact_entered (λ a. (a.space, (g.S.Span.start a.span, g.S.Span.contents a.span))) g.S.Span.tells
    c.grant-granted.result c.enter-space.result c.grant-granted.new.self v.0 views c.args.n c.args.s
    (g.L.Hints.rest c.args.latches.now).frame (g.L.Hints.rest c.leave.new.self)
    (c.enter-space.ensures.told v.0 (rw c.look-hint.ensures.rest told')) v.1 c.enter-space.ensures.space
    (rw (← c.look-hint.ensures.rest) c.enter-space.ensures.home) c.grant-granted.ensures.granted
    c.grant-granted.ensures.refused c.grant-granted.ensures.unchanged left
