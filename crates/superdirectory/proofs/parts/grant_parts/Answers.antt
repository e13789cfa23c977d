-- All pieces, or none: those before a refusal are given back.
use Rattle.std.proofs.Common.{◌≡◌, List, [], length, take, drop, Some, None, refl, sym, ap, ◌∙◌, subst, arith}
use Rattle.std.proofs.lemmas.List.{drop_at, drop_all, take_at}
use Rattle.std.specs.Prelude.{vec_len, vec_capacity}
use Rattle.layout_model.specs.Grants.{halved}
use Rattle.superdirectory.specs.Rest.{Frame, count}
use Rattle.superdirectory.specs.Grants.{AreTold, free_sets, AreRunsIn, IsGivenAll}
use Rattle.space_directory.specs.SpaceView.{SpaceView}
use Rattle.superdirectory.specs.Trace.{AreEnters}
use Rattle.superdirectory.specs.Parts.{IsLaid, ArePieces, AnswersHalved, IsAsked, IsAskedAll}
use Rattle.superdirectory.proofs.Traces.{part_then}
use Rattle.superdirectory.proofs.Halves.{room_enough, taken_length, restored, refused_whole}
use Rattle.superdirectory.proofs.parts.grant_parts.Goals as goal

pub grant_halved-requires-clause-room : goal.grant_halved-requires-clause-room
grant_halved-requires-clause-room g c = room_enough c.args.n c.args.threshold (vec_len c.args.into.now)
    (vec_capacity c.args.into.now) c.requires.threshold c.requires.room

pub give_from-requires-clause-runs : goal.give_from-requires-clause-runs
give_from-requires-clause-runs g c =
    let a = c.in-Err.ensures.pieces in
    let all = ap (drop c.len-kept.result) a.added
    ∙ drop_at c.args.into.now.items a.pieces c.len-kept.result (omega (arith, c.len-kept.ensures)) in
    subst (λ (pieces : List _). AreRunsIn (λ g'. g'.space) (λ g'. g.S.Span.start g'.span)
    (λ g'. g.S.Span.contents g'.span) g.S.Span.tells (g.L.Hints.rest c.grant_halved.new.latches).frame pieces)
    (sym all)
    (subst (λ (f : Frame). AreRunsIn (λ g'. g'.space) (λ g'. g.S.Span.start g'.span)
    (λ g'. g.S.Span.contents g'.span) g.S.Span.tells f a.pieces) (sym c.in-Err.ensures.rest.frame) a.runs)

pub returns-in-Ok-clause-pieces : goal.returns-in-Ok-clause-pieces
returns-in-Ok-clause-pieces g c =
    let a = c.in-Ok.ensures.pieces in
    let had = c.args.into.now.items in
    let from = vec_len c.args.into.now in
    let all = ap (drop from) a.added ∙ drop_at had a.pieces from (omega arith) in
    record {
      kept = c.in-Ok.ensures.room;
      front = ap (take from) a.added ∙ take_at had a.pieces from (omega arith);
      pieces = subst (λ (pieces : List _). ArePieces (λ g'. g'.space) (λ g'. g.S.Span.start g'.span)
          (λ g'. g.S.Span.contents g'.span) g.S.Span.tells (g.L.Hints.rest c.args.latches.now).frame c.args.n
          c.args.threshold pieces) (sym all) (record { runs = a.runs; whole = a.whole refl; least = a.least });
    }

pub returns-in-Ok-clause-exact : goal.returns-in-Ok-clause-exact
returns-in-Ok-clause-exact g c = λ numbers views told same.
    let a = c.in-Ok.ensures.pieces in
    let all = ap (drop (vec_len c.args.into.now)) a.added
    ∙ drop_at c.args.into.now.items a.pieces (vec_len c.args.into.now) (omega arith) in
    let answered = a.told numbers c.args.n views (omega arith) told same in
    subst (λ (pieces : List _). AnswersHalved (λ g'. g'.space) (λ g'. g.S.Span.start g'.span) (λ g'. g.S.Span.contents g'.span) views
    (IsLaid numbers (g.L.Hints.rest c.args.latches.now).frame.firsts)
    (halved c.args.n numbers c.args.start c.args.threshold c.args.n (free_sets views)) None pieces
    (g.L.Hints.rest c.grant_halved.new.latches)) (sym all) answered

pub returns-in-Err-clause-trace : goal.returns-in-Err-clause-trace
returns-in-Err-clause-trace g c =
    let many = count (g.L.Hints.rest c.args.latches.now) in
    part_then (IsAsked c.args.n c.args.threshold many (Some c.in-Err.refused.pages)) AreEnters
    (IsAskedAll c.args.n c.args.threshold many (Some c.in-Err.refused.pages))
    (g.L.Hints.trace c.args.latches.now) (g.L.Hints.trace c.grant_halved.new.latches) (g.L.Hints.trace c.give_from.new.latches)
    (λ p q a b. record {
      asked = p;
      given = q;
      both = refl;
      grants = a;
      gives = b;
      none =
          λ e. cc;
    }) c.in-Err.ensures.trace c.give_from.ensures.trace

pub returns-in-Err-clause-exact : goal.returns-in-Err-clause-exact
returns-in-Err-clause-exact g c = λ numbers views told same.
    let a = c.in-Err.ensures.pieces in
    let had = c.args.into.now.items in
    let answered = a.told numbers c.args.n views (omega arith) told same in
    let all = ap (drop c.len-kept.result) a.added ∙ drop_at had a.pieces c.len-kept.result (omega (arith, c.len-kept.ensures)) in
    let left : c.give_from.new.segments.items ≡ had = c.give_from.ensures.left.front ∙ ap (take c.len-kept.result) a.added
    ∙ take_at had a.pieces c.len-kept.result (omega (arith, c.len-kept.ensures)) in
    let none : drop (vec_len c.args.into.now) c.give_from.new.segments.items ≡ [] =
    ap (drop (vec_len c.args.into.now)) left ∙ drop_all (vec_len c.args.into.now) had (omega arith) in
    let size : length answered.after ≡ count (g.L.Hints.rest c.grant_halved.new.latches) =
    taken_length (λ g'. g'.space) (λ g'. g.S.Span.start g'.span)
    (λ g'. g.S.Span.contents g'.span) views a.pieces answered.after answered.taken ∙ same
    ∙ ap (λ (f : Frame). length f.firsts) (sym c.in-Err.ensures.rest.frame) in
    let back = c.give_from.ensures.told answered.after answered.told size in
    refused_whole (λ g'. g'.space) (λ g'. g.S.Span.start g'.span)
    (λ g'. g.S.Span.contents g'.span) g.S.Span.tells (g.L.Hints.rest c.args.latches.now).frame views
    (IsLaid numbers (g.L.Hints.rest c.args.latches.now).frame.firsts)
    (halved c.args.n numbers c.args.start c.args.threshold c.args.n (free_sets views)) c.in-Err.refused.pages
    a.pieces (drop (vec_len c.args.into.now) c.give_from.new.segments.items)
    (g.L.Hints.rest c.grant_halved.new.latches) (g.L.Hints.rest c.give_from.new.latches) a.runs answered (
      back.0,
      back.1,
      subst (λ (pieces : List _). IsGivenAll (λ g'. g'.space) (λ g'. g.S.Span.start g'.span)
          (λ g'. g.S.Span.contents g'.span) answered.after pieces back.0) all back.2,
    ) none

-- whatever the numbers of the store are, the pieces before a refusal go back to where they were taken from
pub returns-in-Err-clause-refused : goal.returns-in-Err-clause-refused
returns-in-Err-clause-refused g c =
    let a = c.in-Err.ensures.pieces in
    let had = c.args.into.now.items in
    record {
      uncut = a.refused c.in-Err.refused.pages refl;
      kept = c.give_from.ensures.left.kept ∙ c.in-Err.ensures.room;
      list = c.give_from.ensures.left.front ∙ ap (take c.len-kept.result) a.added
          ∙ take_at had a.pieces c.len-kept.result (omega (arith, c.len-kept.ensures));
      untouched = λ views told same.
          let answered = a.told (record { page = 0; order = 0; spaces = 0; catalog = 0; threshold = 0 }) c.args.n views
          (omega arith) told same in
          let all = ap (drop c.len-kept.result) a.added
          ∙ drop_at had a.pieces c.len-kept.result (omega (arith, c.len-kept.ensures)) in
          let size : length answered.after ≡ count (g.L.Hints.rest c.grant_halved.new.latches) =
          taken_length (λ g'. g'.space) (λ g'. g.S.Span.start g'.span)
          (λ g'. g.S.Span.contents g'.span) views a.pieces answered.after answered.taken ∙ same
          ∙ ap (λ (f : Frame). length f.firsts) (sym c.in-Err.ensures.rest.frame) in
          let back = c.give_from.ensures.told answered.after answered.told size in
          let again : back.0 ≡ views = restored (λ g'. g'.space) (λ g'. g.S.Span.start g'.span)
          (λ g'. g.S.Span.contents g'.span) g.S.Span.tells (g.L.Hints.rest c.args.latches.now).frame views a.pieces
          answered.after back.0 a.runs answered.taken
          (subst (λ (pieces : List _). IsGivenAll (λ g'. g'.space) (λ g'. g.S.Span.start g'.span)
          (λ g'. g.S.Span.contents g'.span) answered.after pieces back.0) all back.2) in
          subst (λ (after : List SpaceView). AreTold (g.L.Hints.rest c.give_from.new.latches) after) again back.1;
    }
