-- The whole, or its halves after one another.
use Rattle.std.proofs.Common.{◌≡◌, ℕ, ◌-◌, ◌*◌, ◌/◌, ◌≤◌, min, length, Option, Some, None, true, false, refl}
use Rattle.std.proofs.Common.{sym, ap, ◌∙◌, subst, arith}
use Rattle.std.proofs.lemmas.List.{length-append}
use Rattle.std.proofs.lemmas.Result.{err_from_is_err_and}
use Rattle.std.specs.Prelude.{Result, option_map, vec_len, vec_capacity}
use Rattle.std.specs.Result.{result_err}
use Rattle.block_model.specs.Place.{least_order}
use Rattle.superdirectory.specs.declared.hint.NoSpace.{NoSpace}
use Rattle.superdirectory.specs.Trace.{Part, IsSearched}
use Rattle.superdirectory.specs.Rest.{Frame, count}
use Rattle.superdirectory.specs.Parts.{IsAsked, AddsPieces}
use Rattle.superdirectory.proofs.Traces.{part_as, part_then}
use Rattle.superdirectory.proofs.Asked.{IsHalfway, asked_placed, asked_refused, asked_first, halfway, asked_both}
use Rattle.superdirectory.proofs.GrantLaws.{asked_again}
use Rattle.superdirectory.proofs.Halves.{adds_placed, adds_uncut, adds_first, adds_both, few, room_left}
use Rattle.superdirectory.proofs.parts.+grant_halved.Goals as goal

pub returns-in-Ok-clause-pieces : goal.returns-in-Ok-clause-pieces
returns-in-Ok-clause-pieces g t c =
    adds_placed (λ g'. g'.space) (λ g'. g.S.Span.start g'.span)
    (λ g'. g.S.Span.contents g'.span) g.S.Span.tells (g.L.Hints.rest c.args.latches.now).frame c.args.start
    c.args.n c.args.threshold
    (g.L.Hints.rest c.args.latches.now) (g.L.Hints.rest c.grant.new.latches) c.args.into.now.items
    c.push_reserved.new.self.items c.in-Ok.segment c.requires.from.some c.in-Ok.ensures.segment c.in-Ok.ensures.exact
    c.push_reserved.ensures.items

pub returns-in-Ok-clause-trace : goal.returns-in-Ok-clause-trace
returns-in-Ok-clause-trace g t c =
    part_as (IsSearched (least_order c.args.n) 0 (count (g.L.Hints.rest c.args.latches.now)) false)
    (IsAsked c.args.n c.args.threshold (count (g.L.Hints.rest c.args.latches.now)) None)
    (g.L.Hints.trace c.args.latches.now) (g.L.Hints.trace c.grant.new.latches)
    (λ p h. asked_placed c.args.n c.args.threshold (count (g.L.Hints.rest c.args.latches.now)) p h)
    c.in-Ok.ensures.trace

pub returns-then-half-threshold-clause-pieces : goal.returns-then-half-threshold-clause-pieces
returns-then-half-threshold-clause-pieces g t c =
    subst (λ (p : ℕ). AddsPieces (λ g'. g'.space) (λ g'. g.S.Span.start g'.span)
    (λ g'. g.S.Span.contents g'.span) g.S.Span.tells (g.L.Hints.rest c.args.latches.now).frame c.args.start
    c.args.n c.args.threshold (Some p)
    (g.L.Hints.rest c.args.latches.now) (g.L.Hints.rest c.grant.new.latches) c.args.into.now.items
    c.args.into.now.items) (sym c.in-Err.ensures.pages)
    (adds_uncut (λ g'. g'.space) (λ g'. g.S.Span.start g'.span)
    (λ g'. g.S.Span.contents g'.span) g.S.Span.tells (g.L.Hints.rest c.args.latches.now).frame c.args.start
    c.args.n c.args.threshold
    (g.L.Hints.rest c.args.latches.now) (g.L.Hints.rest c.grant.new.latches) c.args.into.now.items c.requires.from.some
    (omega (arith, c.if-half-threshold.true)) c.in-Err.ensures.exact)

pub returns-then-half-threshold-clause-trace : goal.returns-then-half-threshold-clause-trace
returns-then-half-threshold-clause-trace g t c =
    part_as (IsSearched (least_order c.args.n) 0 (count (g.L.Hints.rest c.args.latches.now)) true)
    (IsAsked c.args.n c.args.threshold (count (g.L.Hints.rest c.args.latches.now))
    (Some c.in-Err.refused.pages))
    (g.L.Hints.trace c.args.latches.now) (g.L.Hints.trace c.grant.new.latches)
    (λ p h. subst (λ (m : ℕ). IsAsked c.args.n c.args.threshold (count (g.L.Hints.rest c.args.latches.now))
    (Some m) p) (sym c.in-Err.ensures.pages)
    (asked_refused c.args.n c.args.threshold (count (g.L.Hints.rest c.args.latches.now)) p
    (omega (arith, c.if-half-threshold.true)) h)) c.in-Err.ensures.trace

pub returns-in_err-grant_halved-clause-pieces : goal.returns-in_err-grant_halved-clause-pieces
returns-in_err-grant_halved-clause-pieces g t c =
    let p = err_from_is_err_and c.from_residual.result c.from_residual.ensures.1 in
    let refusal : option_map (λ (e : NoSpace). e.pages) (result_err c.from_residual.result) ≡ Some c.in_err-grant_halved.field-0.0.pages =
    ap (λ (r : Result (Unit {0}) NoSpace). option_map (λ (e : NoSpace). e.pages) (result_err r)) p.1
    ∙ ap (λ (e : NoSpace). Some e.pages) p.2 in
    subst (λ (r : Option ℕ). AddsPieces (λ g'. g'.space) (λ g'. g.S.Span.start g'.span)
    (λ g'. g.S.Span.contents g'.span) g.S.Span.tells (g.L.Hints.rest c.args.latches.now).frame c.args.start
    c.args.n c.args.threshold r
    (g.L.Hints.rest c.args.latches.now) (g.L.Hints.rest c.grant_halved.new.latches) c.args.into.now.items
    c.grant_halved.new.into.items) (sym refusal)
    (adds_first (λ g'. g'.space) (λ g'. g.S.Span.start g'.span)
    (λ g'. g.S.Span.contents g'.span) g.S.Span.tells (g.L.Hints.rest c.args.latches.now).frame c.args.start
    c.args.n (c.args.n - c.args.n / 2) c.args.threshold c.in_err-grant_halved.field-0.0.pages
    (g.L.Hints.rest c.args.latches.now) (g.L.Hints.rest c.grant.new.latches)
    (g.L.Hints.rest c.grant_halved.new.latches) c.args.into.now.items c.grant_halved.new.into.items
    c.requires.from.some c.requires.threshold (omega (arith, c.if-half-threshold.false)) refl c.in-Err.ensures.exact
    (subst (λ (f : Frame). AddsPieces (λ g'. g'.space) (λ g'. g.S.Span.start g'.span)
    (λ g'. g.S.Span.contents g'.span) g.S.Span.tells f c.args.start (c.args.n - c.args.n / 2) c.args.threshold
    (Some c.in_err-grant_halved.field-0.0.pages)
    (g.L.Hints.rest c.grant.new.latches) (g.L.Hints.rest c.grant_halved.new.latches) c.args.into.now.items
    c.grant_halved.new.into.items) c.in-Err.ensures.rest.frame c.in_err-grant_halved.ensures.pieces))

pub returns-in_err-grant_halved-clause-trace : goal.returns-in_err-grant_halved-clause-trace
returns-in_err-grant_halved-clause-trace g t c =
    let n = c.args.n in
    let many = count (g.L.Hints.rest c.args.latches.now) in
    let p = err_from_is_err_and c.from_residual.result c.from_residual.ensures.1 in
    let refusal : option_map (λ (e : NoSpace). e.pages) (result_err c.from_residual.result) ≡ Some c.in_err-grant_halved.field-0.0.pages =
    ap (λ (r : Result (Unit {0}) NoSpace). option_map (λ (e : NoSpace). e.pages) (result_err r)) p.1
    ∙ ap (λ (e : NoSpace). Some e.pages) p.2 in
    let first : count (g.L.Hints.rest c.grant.new.latches) ≡ many = ap (λ (f : Frame). length f.firsts) c.in-Err.ensures.rest.frame in
    subst (λ (r : Option ℕ). Part (IsAsked n c.args.threshold many r) (g.L.Hints.trace c.args.latches.now)
    (g.L.Hints.trace c.grant_halved.new.latches)) (sym refusal)
    (part_then (IsSearched (least_order n) 0 many true)
    (IsAsked (n - n / 2) c.args.threshold (count (g.L.Hints.rest c.grant.new.latches))
    (Some c.in_err-grant_halved.field-0.0.pages))
    (IsAsked n c.args.threshold many (Some c.in_err-grant_halved.field-0.0.pages))
    (g.L.Hints.trace c.args.latches.now) (g.L.Hints.trace c.grant.new.latches) (g.L.Hints.trace c.grant_halved.new.latches)
    (λ p q a b. asked_first n (n - n / 2) c.args.threshold many c.in_err-grant_halved.field-0.0.pages p q
    (omega (arith, c.if-half-threshold.false)) (omega arith) a
    (subst (λ (k : ℕ). IsAsked (n - n / 2) c.args.threshold k (Some c.in_err-grant_halved.field-0.0.pages) q) first b))
    c.in-Err.ensures.trace c.in_err-grant_halved.ensures.trace)

pub grant_halved-requires-2 : goal.grant_halved-requires-2
grant_halved-requires-2 g t c = λ κs within.
    let n = c.args.n in
    let second : (g.L.Hints.rest c.grant_halved.new.latches).frame ≡ (g.L.Hints.rest c.args.latches.now).frame =
    c.in_ok-grant_halved.ensures.rest.frame ∙ c.in-Err.ensures.rest.frame in
    let a = c.in_ok-grant_halved.ensures.pieces in
    let few' = few (λ g'. length (g.S.Span.contents g'.span)) (min (n - n / 2) c.args.threshold) a.pieces a.least in
    let least : min (n - n / 2) c.args.threshold ≡ c.args.threshold = omega (arith, c.if-half-threshold.false) in
    let took : c.args.threshold * length a.pieces ≤ n - n / 2 =
    omega (arith, few', ap (λ (m : ℕ). m * length a.pieces) least, a.whole refl) in
    let left = room_left n c.args.threshold c.requires.room.0 (length a.pieces) (vec_len c.args.into.now)
    (vec_capacity c.args.into.now) c.requires.threshold c.requires.room.1 c.requires.room.2 took in
    let size = ap length a.added in (
      omega (arith, c.decreases, c.requires.from.some, c.requires.threshold, c.if-half-threshold.false),
      (
        within.0,
        (
          within.1.0,
          (
            within.1.1,
            (
              asked_again (g.L.Hints.rest c.args.latches.now) (g.L.Hints.rest c.grant_halved.new.latches) c.args.start
                  c.args.start n (n / 2) second c.in_ok-grant_halved.ensures.rest.entered
                  c.requires.from.there (omega (arith, c.requires.threshold, c.if-half-threshold.false)) (omega arith)
                  c.requires.from,
              (
                c.requires.threshold,
                (
                  left.0,
                  omega (
                    arith,
                    left.1,
                    size,
                    length-append c.args.into.now.items a.pieces,
                    c.in_ok-grant_halved.ensures.room,
                  ),
                  left.2,
                ),
              ),
            ),
          ),
        ),
      ),
    )

pub returns-clause-pieces : goal.returns-clause-pieces
returns-clause-pieces g t c =
    let first : (g.L.Hints.rest c.grant.new.latches).frame ≡ (g.L.Hints.rest c.args.latches.now).frame = c.in-Err.ensures.rest.frame in
    let second : (g.L.Hints.rest c.grant_halved.new.latches).frame ≡ (g.L.Hints.rest c.args.latches.now).frame =
    c.in_ok-grant_halved.ensures.rest.frame ∙ first in
    adds_both (λ g'. g'.space) (λ g'. g.S.Span.start g'.span)
    (λ g'. g.S.Span.contents g'.span) g.S.Span.tells (g.L.Hints.rest c.args.latches.now).frame c.args.start
    c.args.n (c.args.n - c.args.n / 2) c.args.threshold
    (option_map (λ e. e.pages) (result_err c.grant_halved-2.result)) (g.L.Hints.rest c.args.latches.now)
    (g.L.Hints.rest c.grant.new.latches) (g.L.Hints.rest c.grant_halved.new.latches)
    (g.L.Hints.rest c.grant_halved-2.new.latches)
    c.args.into.now.items c.grant_halved.new.into.items c.grant_halved-2.new.into.items c.requires.from.some
    c.requires.threshold (omega (arith, c.if-half-threshold.false)) refl c.in-Err.ensures.exact
    (subst (λ (f : Frame). AddsPieces (λ g'. g'.space) (λ g'. g.S.Span.start g'.span)
    (λ g'. g.S.Span.contents g'.span) g.S.Span.tells f c.args.start (c.args.n - c.args.n / 2) c.args.threshold
    None
    (g.L.Hints.rest c.grant.new.latches) (g.L.Hints.rest c.grant_halved.new.latches) c.args.into.now.items
    c.grant_halved.new.into.items) first c.in_ok-grant_halved.ensures.pieces)
    (subst (λ (f : Frame). AddsPieces (λ g'. g'.space) (λ g'. g.S.Span.start g'.span)
    (λ g'. g.S.Span.contents g'.span) g.S.Span.tells f c.args.start (c.args.n / 2) c.args.threshold
    (option_map (λ e. e.pages) (result_err c.grant_halved-2.result))
    (g.L.Hints.rest c.grant_halved.new.latches)
    (g.L.Hints.rest c.grant_halved-2.new.latches) c.grant_halved.new.into.items c.grant_halved-2.new.into.items)
    second c.grant_halved-2.ensures.pieces)

pub returns-clause-trace : goal.returns-clause-trace
returns-clause-trace g t c =
    let n = c.args.n in
    let many : ℕ = count (g.L.Hints.rest c.args.latches.now) in
    let refusal = option_map (λ e. e.pages) (result_err c.grant_halved-2.result) in
    let first : count (g.L.Hints.rest c.grant.new.latches) ≡ many = ap (λ (f : Frame). length f.firsts) c.in-Err.ensures.rest.frame in
    let second : count (g.L.Hints.rest c.grant_halved.new.latches) ≡ many =
    ap (λ (f : Frame). length f.firsts) c.in_ok-grant_halved.ensures.rest.frame ∙ first in
    part_then (IsHalfway n c.args.threshold many)
    (IsAsked (n / 2) c.args.threshold (count (g.L.Hints.rest c.grant_halved.new.latches)) refusal)
    (IsAsked n c.args.threshold many refusal)
    (g.L.Hints.trace c.args.latches.now) (g.L.Hints.trace c.grant_halved.new.latches) (g.L.Hints.trace c.grant_halved-2.new.latches)
    (λ p q a b. asked_both n c.args.threshold many refusal p q (omega (arith, c.if-half-threshold.false)) a
    (subst (λ (k : ℕ). IsAsked (n / 2) c.args.threshold k refusal q) second b))
    (part_then (IsSearched (least_order n) 0 many true)
    (IsAsked (n - n / 2) c.args.threshold (count (g.L.Hints.rest c.grant.new.latches)) None)
    (IsHalfway n c.args.threshold many)
    (g.L.Hints.trace c.args.latches.now) (g.L.Hints.trace c.grant.new.latches) (g.L.Hints.trace c.grant_halved.new.latches)
    (λ p q a b. halfway n (n - n / 2) c.args.threshold many p q (omega arith) a
    (subst (λ (k : ℕ). IsAsked (n - n / 2) c.args.threshold k None q) first b))
    c.in-Err.ensures.trace c.in_ok-grant_halved.ensures.trace)
    c.grant_halved-2.ensures.trace
