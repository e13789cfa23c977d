use Rattle.std.proofs.Common.{◌≡◌, ℕ, List, map, refl, sym, ap, subst, arith, ◌∙◌}
use Rattle.tree_model.specs.Range.{pairs_of}
use Rattle.layout_model.specs.Plan.{extent_pages, fit_made, made_part_bytes}
use Rattle.edit_parts.specs.declared.part.Part.{Part}
use Rattle.edit_parts.specs.Parts.{layout_part, pieces_of}
use Rattle.edit_plan.proofs.SpotLemmas.{pairs-length}
use Rattle.object_plan.specs.declared.sides.Sides.{Sides}
use Rattle.object_plan.specs.Asked.{AreCounted, wanted_by}
use Rattle.edit_parts.specs.Pieces.{pieces_content}
use Rattle.object_plan.specs.Sides.{sides_of}
use Rattle.object_plan.proofs.PackedLemmas.{IsPackedPlan, is-plan-on, left-counted, packed-of}
use Rattle.object_plan.proofs.plan_on.plan_packed.Goals as goal

pub fit_parts-fit-requires-clause-few : goal.fit_parts-fit-requires-clause-few
fit_parts-fit-requires-clause-few c =
    let n = c.args.geometry.now in
    let window = c.args.window.now in
    let change = c.args.change in
    let parts = c.into_vec-parts.result.items in
    let laid = ap (map layout_part) c.into_vec-parts.ensures ∙ c.in_ok-pack.ensures.packed in
    let packed = packed-of n c.args.threshold c.args.spare change window c.in_ok-parts.parts parts c.page-page.result
    c.page-page.ensures.range c.page-page.ensures.exact c.requires.can c.requires.packed c.in_ok-parts.ensures laid in
    subst (λ (xs : List Part). AreCounted (made_part_bytes (map layout_part xs))) (sym c.as_slice-2.ensures.value) packed.counted

pub trim-requires : goal.trim-requires
trim-requires c =
    let n = c.args.geometry.now in
    let window = c.args.window.now in
    let change = c.args.change in
    let parts = c.into_vec-parts.result.items in
    let laid = ap (map layout_part) c.into_vec-parts.ensures ∙ c.in_ok-pack.ensures.packed in
    let packed = packed-of n c.args.threshold c.args.spare change window c.in_ok-parts.parts parts c.page-page.result
    c.page-page.ensures.range c.page-page.ensures.exact c.requires.can c.requires.packed c.in_ok-parts.ensures laid in
    let sides_is : sides_of window change.at change.removed (map layout_part parts) ≡ c.sides_of-sides.result =
    sym (c.sides_of-sides.ensures
    ∙ ap (λ (xs : List Part). sides_of window change.at change.removed (map layout_part xs)) c.as_slice.ensures.value) in
    let here : IsPackedPlan n c.args.threshold c.args.spare change window c.sides_of-sides.result parts =
    subst (λ (s : Sides). IsPackedPlan n c.args.threshold c.args.spare change window s parts) sides_is packed in
    here.few_parts

pub wanted_for-requires-clause-few : goal.wanted_for-requires-clause-few
wanted_for-requires-clause-few c =
    let n = c.args.geometry.now in
    let window = c.args.window.now in
    let change = c.args.change in
    let parts = c.into_vec-parts.result.items in
    let laid = ap (map layout_part) c.into_vec-parts.ensures ∙ c.in_ok-pack.ensures.packed in
    let packed = packed-of n c.args.threshold c.args.spare change window c.in_ok-parts.parts parts c.page-page.result
    c.page-page.ensures.range c.page-page.ensures.exact c.requires.can c.requires.packed c.in_ok-parts.ensures laid in
    let sides_is : sides_of window change.at change.removed (map layout_part parts) ≡ c.sides_of-sides.result =
    sym (c.sides_of-sides.ensures
    ∙ ap (λ (xs : List Part). sides_of window change.at change.removed (map layout_part xs)) c.as_slice.ensures.value) in
    let here : IsPackedPlan n c.args.threshold c.args.spare change window c.sides_of-sides.result parts =
    subst (λ (s : Sides). IsPackedPlan n c.args.threshold c.args.spare change window s parts) sides_is packed in
    (left-counted n c.args.threshold c.args.spare change window c.sides_of-sides.result parts c.as_slice-3.result.now here
    (c.as_slice-3.ensures.value ∙ c.trim.ensures)).0

pub wanted_for-requires-clause-fit : goal.wanted_for-requires-clause-fit
wanted_for-requires-clause-fit c =
    let n = c.args.geometry.now in
    let window = c.args.window.now in
    let change = c.args.change in
    let parts = c.into_vec-parts.result.items in
    let laid = ap (map layout_part) c.into_vec-parts.ensures ∙ c.in_ok-pack.ensures.packed in
    let packed = packed-of n c.args.threshold c.args.spare change window c.in_ok-parts.parts parts c.page-page.result
    c.page-page.ensures.range c.page-page.ensures.exact c.requires.can c.requires.packed c.in_ok-parts.ensures laid in
    let sides_is : sides_of window change.at change.removed (map layout_part parts) ≡ c.sides_of-sides.result =
    sym (c.sides_of-sides.ensures
    ∙ ap (λ (xs : List Part). sides_of window change.at change.removed (map layout_part xs)) c.as_slice.ensures.value) in
    let here : IsPackedPlan n c.args.threshold c.args.spare change window c.sides_of-sides.result parts =
    subst (λ (s : Sides). IsPackedPlan n c.args.threshold c.args.spare change window s parts) sides_is packed in
    (left-counted n c.args.threshold c.args.spare change window c.sides_of-sides.result parts c.as_slice-3.result.now here
    (c.as_slice-3.ensures.value ∙ c.trim.ensures)).1

pub pairs_between-requires : goal.pairs_between-requires
pairs_between-requires c =
    let n = c.args.geometry.now in
    let window = c.args.window.now in
    let change = c.args.change in
    let parts = c.into_vec-parts.result.items in
    let laid = ap (map layout_part) c.into_vec-parts.ensures ∙ c.in_ok-pack.ensures.packed in
    let packed = packed-of n c.args.threshold c.args.spare change window c.in_ok-parts.parts parts c.page-page.result
    c.page-page.ensures.range c.page-page.ensures.exact c.requires.can c.requires.packed c.in_ok-parts.ensures laid in
    let sides_is : sides_of window change.at change.removed (map layout_part parts) ≡ c.sides_of-sides.result =
    sym (c.sides_of-sides.ensures
    ∙ ap (λ (xs : List Part). sides_of window change.at change.removed (map layout_part xs)) c.as_slice.ensures.value) in
    let here : IsPackedPlan n c.args.threshold c.args.spare change window c.sides_of-sides.result parts =
    subst (λ (s : Sides). IsPackedPlan n c.args.threshold c.args.spare change window s parts) sides_is packed in
    let few = here.few in
    let long = pairs-length window in
    omega (arith, few, long)

pub borders-from-requires-clause-few : goal.borders-from-requires-clause-few
borders-from-requires-clause-few c =
    let n = c.args.geometry.now in
    let window = c.args.window.now in
    let change = c.args.change in
    let parts = c.into_vec-parts.result.items in
    let laid = ap (map layout_part) c.into_vec-parts.ensures ∙ c.in_ok-pack.ensures.packed in
    let packed = packed-of n c.args.threshold c.args.spare change window c.in_ok-parts.parts parts c.page-page.result
    c.page-page.ensures.range c.page-page.ensures.exact c.requires.can c.requires.packed c.in_ok-parts.ensures laid in
    let sides_is : sides_of window change.at change.removed (map layout_part parts) ≡ c.sides_of-sides.result =
    sym (c.sides_of-sides.ensures
    ∙ ap (λ (xs : List Part). sides_of window change.at change.removed (map layout_part xs)) c.as_slice.ensures.value) in
    let here : IsPackedPlan n c.args.threshold c.args.spare change window c.sides_of-sides.result parts =
    subst (λ (s : Sides). IsPackedPlan n c.args.threshold c.args.spare change window s parts) sides_is packed in
    let few = here.few in
    let long = pairs-length window in
    omega (arith, few, long)

pub returns : goal.returns
returns c =
    let n = c.args.geometry.now in
    let window = c.args.window.now in
    let change = c.args.change in
    let parts = c.into_vec-parts.result.items in
    let laid = ap (map layout_part) c.into_vec-parts.ensures ∙ c.in_ok-pack.ensures.packed in
    let packed = packed-of n c.args.threshold c.args.spare change window c.in_ok-parts.parts parts c.page-page.result
    c.page-page.ensures.range c.page-page.ensures.exact c.requires.can c.requires.packed c.in_ok-parts.ensures laid in
    let sides_is : sides_of window change.at change.removed (map layout_part parts) ≡ c.sides_of-sides.result =
    sym (c.sides_of-sides.ensures
    ∙ ap (λ (xs : List Part). sides_of window change.at change.removed (map layout_part xs)) c.as_slice.ensures.value) in
    let here : IsPackedPlan n c.args.threshold c.args.spare change window c.sides_of-sides.result parts =
    subst (λ (s : Sides). IsPackedPlan n c.args.threshold c.args.spare change window s parts) sides_is packed in
    let source = c.in_ok-parts.parts in
    let size = c.page-page.result in
    let pages = extent_pages c.args.spare in
    let made : List Part → List ℕ = λ (xs : List Part). made_part_bytes (map layout_part xs) in
    let pieces : pieces_of parts ≡ pieces_of source = ap pieces_of c.into_vec-parts.ensures ∙ c.in_ok-pack.ensures.pieces in
    is-plan-on n c.args.threshold c.args.spare change window c.sides_of-sides.result source parts _ c.page-page.ensures.range
    c.requires.can here c.in_ok-parts.ensures pieces
    (λ at payload. ap (pieces_content at n.page payload) pieces) (record {
      change_is = refl;
      from_is = c.borders-from.ensures.from;
      to_is = c.borders-from.ensures.to;
      replaced_is = c.in_ok-replaced.ensures;
      parts_is = c.trim.ensures;
      fit_is = c.fit_parts-fit.ensures
          ∙ (ap (λ (k : ℕ). fit_made k change.appends c.pages_of.result (made c.as_slice-2.result.now)) c.page-page.ensures.exact
          ∙ (ap (λ (k : ℕ). fit_made n.page change.appends k (made c.as_slice-2.result.now)) c.pages_of.ensures
          ∙ ap (λ (xs : List Part). fit_made n.page change.appends pages (made xs)) c.as_slice-2.ensures.value));
      requests_is = c.in_ok-requests.ensures
          ∙ ap (λ (xs : List Part). wanted_by c.fit_parts-fit.result n (pairs_of window) change.appends (map layout_part xs))
          c.as_slice-3.ensures.value;
    })
