-- The runs of the parts go back, and then the pages of the nodes.
use Rattle.std.proofs.Common.{◌≡◌, ℕ, ◌||◌, List, map, refl, ap, subst, ◌∙◌}
use Rattle.layout_model.specs.declared.extent.Extent.{Extent}
use Rattle.moment_laws.specs.Granting.{page_run}
use Rattle.tree_splice.specs.Splice.{firsts_of}
use Rattle.give_back.specs.Giving.{CanGiveRuns, is_in_runs}
use Rattle.give_back.proofs.RunsLemmas.{both-go, both-leave, can-behind, can-front}
use Rattle.give_back.proofs.UsesLemmas.{in-append}
use Rattle.object_change.specs.Changed.{granted_in}
use Rattle.object_change.proofs.RowLemmas.{granted-flat}
use Rattle.object_change.proofs.taking_back.take_back.Goals as goal

pub give_runs-requires-clause-can : goal.give_runs-requires-clause-can
give_runs-requires-clause-can g c =
    can-front c.args.geometry.now c.args.held.now c.as_slice.result.now (map page_run (firsts_of c.args.changed.now.made))
    (subst (CanGiveRuns c.args.geometry.now c.args.held.now)
    (granted-flat c.args.changed.now c.as_slice.result.now c.args.changed.now.made c.as_slice.ensures.value refl c.requires.whole)
    c.requires.can)

pub give_pages-requires-clause-can : goal.give_pages-requires-clause-can
give_pages-requires-clause-can g c =
    can-behind c.args.geometry.now c.as_slice.result.now (map page_run (firsts_of c.as_slice-2.result.now)) c.args.held.now
    c.give_runs.new.held
    (subst (CanGiveRuns c.args.geometry.now c.args.held.now)
    (granted-flat c.args.changed.now c.as_slice.result.now c.as_slice-2.result.now c.as_slice.ensures.value c.as_slice-2.ensures
    c.requires.whole) c.requires.can) c.give_runs.ensures.left.spans.left

pub returns : goal.returns
returns g c =
    let n = c.args.geometry.now in
    let xs = c.as_slice.result.now in
    let ys = map page_run (firsts_of c.as_slice-2.result.now) in
    let split = granted-flat c.args.changed.now xs c.as_slice-2.result.now c.as_slice.ensures.value c.as_slice-2.ensures
    c.requires.whole in
    let same : (q : ℕ) → is_in_runs (granted_in c.args.changed.now) q ≡ (is_in_runs xs q || is_in_runs ys q) =
    λ q. ap (λ (rs : List Extent). is_in_runs rs q) split ∙ in-append q xs ys in
    let left = both-leave g.S.Span.tells n.page xs ys (granted_in c.args.changed.now) c.args.held.now c.give_runs.new.held
    c.give_pages.new.held c.args.cache.now c.give_runs.new.cache c.give_pages.new.cache same c.give_runs.ensures.left
    c.give_pages.ensures.left in
    let goes = both-go n xs ys (granted_in c.args.changed.now) (g.L.Hints.rest c.args.latches.now)
    (g.L.Hints.rest c.give_runs.new.latches) (g.L.Hints.rest c.give_pages.new.latches) (g.L.Hints.trace c.args.latches.now)
    (g.L.Hints.trace c.give_runs.new.latches) (g.L.Hints.trace c.give_pages.new.latches) same c.give_runs.ensures.given
    c.give_pages.ensures.given in
    record {
      back = λ meter. record {
        held = left.spans.left;
        right = record { sized = left.spans.sized c.requires.right.sized; nodes = left.nodes c.requires.right.nodes };
        meter = refl;
        given = goes;
      };
    }
