use Rattle.std.proofs.Common.{Bool, map, sym, ap, ◌∙◌}
use Rattle.tree_model.specs.Tree.{page_count}
use Rattle.layout_model.specs.Layout.{requests}
use Rattle.layout_model.specs.Plan.{made_part_bytes}
use Rattle.edit_parts.specs.Parts.{layout_part}
use Rattle.object_plan.specs.Asked.{with_wish}
use Rattle.object_plan.proofs.AskLemmas.{requests-just, requests-wish}
use Rattle.object_plan.proofs.asking.requests_for.Goals as goal
use Rattle.object_plan.proofs.asking.requests_for.Goals.{then-appends, else-appends}

pub returns : goal.returns
returns c =
    let last = c.args.last in
    let limit = c.args.limit in
    let ns = map (page_count c.args.page) (made_part_bytes (map layout_part c.args.parts.now)) in
    elim c.if-appends.branch [
      | then-appends w ↦
          ap (λ v. v.items) w.requests-is
          ∙ (w.wish.ensures
          ∙ (ap (with_wish last limit) c.in_ok-requests.ensures
          ∙ (sym (requests-wish last limit ns) ∙ ap (λ (b : Bool). requests b last limit ns) (sym w.if-appends.true))))
      | else-appends w ↦
          ap (λ v. v.items) w.requests-is
          ∙ (c.in_ok-requests.ensures
          ∙ (sym (requests-just last limit ns) ∙ ap (λ (b : Bool). requests b last limit ns) (sym w.if-appends.false)))
    ]
