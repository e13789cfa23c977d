-- The runs of the change are held, and have numbers of 4 bytes.
use Rattle.std.proofs.Common.{◌≡◌, ◌||◌, List, sym, ap, subst, ◌∙◌}
use Rattle.std.specs.List.{AllByRecursion}
use Rattle.base_laws.proofs.ListLaws.{all-map}
use Rattle.layout_model.specs.declared.extent.Extent.{Extent}
use Rattle.page_set.specs.Words.{in_set}
use Rattle.give_back.specs.Giving.{is_in_runs}
use Rattle.object_change.specs.Changed.{granted_in}
use Rattle.object_state.specs.Changes.{IsHeldRun}
use Rattle.object_state.specs.Changing.{dropped_by, kept_by}
use Rattle.object_state.specs.Cuts.{HasBorders}
use Rattle.object_state.specs.Runs.{HoldsExtent, IsNumbered, goes}
use Rattle.object_state.proofs.ReadyLemmas.{dropped-held, entries-few, granted-are, granted-low, kept-low, replaced-few}
use Rattle.object_state.proofs.editing.marked.Goals as goal

pub dropped_runs-requires : goal.dropped_runs-requires
dropped_runs-requires g c =
    replaced-few c.args.geometry.now c.args.held.now c.args.planned.now.replaced.items c.page-page.ensures.range c.requires.replaced

pub kept_runs-requires : goal.kept_runs-requires
kept_runs-requires g c = entries-few c.args.held.now c.args.geometry.now.page c.args.changed.now c.requires.stands

pub prepare-requires-clause-dropped : goal.prepare-requires-clause-dropped
prepare-requires-clause-dropped g c =
    let n = c.args.geometry.now in
    subst (AllByRecursion IsNumbered) (sym (c.as_slice.ensures.value ∙ c.in_ok-dropped.ensures))
    (all-map (IsHeldRun c.args.held.now) IsNumbered (λ run here. here.low)
    (dropped_by n.page c.args.planned.now c.args.working.now.spare c.args.changed.now)
    (dropped-held n c.args.planned.now c.args.working.now.spare c.args.changed.now c.args.held.now c.end-end.result
    c.page-page.ensures.range c.end-end.ensures c.end-end.type_inv c.requires.replaced c.requires.spare c.requires.stands))

pub prepare-requires-clause-kept : goal.prepare-requires-clause-kept
prepare-requires-clause-kept g c =
    subst (AllByRecursion IsNumbered) (sym (c.as_slice-2.ensures.value ∙ c.in_ok-kept.ensures))
    (kept-low c.args.geometry.now c.args.working.now c.args.planned.now c.args.changed.now c.args.held.now c.end-end.result
    c.page-page.ensures.range c.end-end.ensures c.end-end.type_inv c.requires.spare c.requires.changed c.requires.stands)

pub prepare-requires-clause-granted : goal.prepare-requires-clause-granted
prepare-requires-clause-granted g c =
    let n = c.args.geometry.now in
    subst (AllByRecursion IsNumbered) (sym (c.as_slice-3.ensures.value ∙ (c.in_ok-granted.ensures
    ∙ granted-are n c.args.working.now c.args.planned.now c.args.changed.now c.requires.changed)))
    (granted-low n c.args.working.now c.args.planned.now c.args.changed.now c.page-page.ensures.range c.requires.changed)

pub prepare-requires-clause-held : goal.prepare-requires-clause-held
prepare-requires-clause-held g c =
    let n = c.args.geometry.now in
    subst (AllByRecursion (HoldsExtent c.args.held.now)) (sym (c.as_slice.ensures.value ∙ c.in_ok-dropped.ensures))
    (all-map (IsHeldRun c.args.held.now) (HoldsExtent c.args.held.now) (λ run here. here.pages)
    (dropped_by n.page c.args.planned.now c.args.working.now.spare c.args.changed.now)
    (dropped-held n c.args.planned.now c.args.working.now.spare c.args.changed.now c.args.held.now c.end-end.result
    c.page-page.ensures.range c.end-end.ensures c.end-end.type_inv c.requires.replaced c.requires.spare c.requires.stands))

pub add_runs-requires : goal.add_runs-requires
add_runs-requires g c =
    let n = c.args.geometry.now in
    subst (AllByRecursion IsNumbered) (sym (c.as_slice-4.ensures.value ∙ (c.in_ok-granted.ensures
    ∙ granted-are n c.args.working.now c.args.planned.now c.args.changed.now c.requires.changed)))
    (granted-low n c.args.working.now c.args.planned.now c.args.changed.now c.page-page.ensures.range c.requires.changed)

pub returns-clause-ready : goal.returns-clause-ready
returns-clause-ready g c =
    let n = c.args.geometry.now in
    let granted : c.as_slice-4.result.now ≡ granted_in c.args.changed.now = c.as_slice-4.ensures.value ∙ (c.in_ok-granted.ensures
    ∙ granted-are n c.args.working.now c.args.planned.now c.args.changed.now c.requires.changed) in
    let kept : c.as_slice-2.result.now ≡ kept_by n.page c.args.changed.now = c.as_slice-2.ensures.value ∙ c.in_ok-kept.ensures in
    let dropped : c.as_slice.result.now ≡ dropped_by n.page c.args.planned.now c.args.working.now.spare c.args.changed.now =
    c.as_slice.ensures.value ∙ c.in_ok-dropped.ensures in
    record {
      gone_is = λ q. c.in_ok-gone.ensures.gone q
          ∙ (ap (λ (ds : List Extent). goes ds c.as_slice-2.result.now q) dropped
          ∙ ap (λ (ks : List Extent). goes (dropped_by n.page c.args.planned.now c.args.working.now.spare c.args.changed.now) ks q) kept);
      marked = c.in_ok-gone.ensures.marked;
      room = c.in_ok-gone.ensures.locked_room;
      borders = subst (AllByRecursion (HasBorders c.prepare.new.held)) kept c.in_ok-gone.ensures.borders;
      fresh_is = λ q. c.in-Ok.ensures.added q
          ∙ (ap (λ (rs : List Extent). in_set c.prepare.new.fresh q || is_in_runs rs q) granted
          ∙ ap (λ b. b || is_in_runs (granted_in c.args.changed.now) q) (c.in_ok-gone.ensures.fresh q));
    }
