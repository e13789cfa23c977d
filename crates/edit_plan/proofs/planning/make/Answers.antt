use Rattle.std.proofs.Common.{◌≡◌, ◌+◌, ◌-◌, min, List, [], ◌∷◌, ◌++◌, map, ap, arith, ◌∙◌}
use Rattle.layout_model.specs.Parts.{pieces}
use Rattle.edit_parts.specs.declared.part.Part.{Part}
use Rattle.edit_parts.specs.declared.part.Part.TheVariants.{Make}
use Rattle.edit_parts.specs.declared.piece.Piece.{Piece}
use Rattle.edit_plan.specs.Cuts.{stretch_of, stretches}
use Rattle.edit_plan.proofs.PlanLemmas.{fresh, make-step}
use Rattle.edit_plan.proofs.planning.make.Goals as goal

pub loop-from-preserved : goal.loop-from-preserved
loop-from-preserved c =
    let l = c.loop-from in
    let page = c.args.page in
    let most = c.args.most in
    let m = c.min.result in
    let total = c.args.given + c.bytes.result in
    let new = fresh c.args.given c.args.head in
    let is : m ≡ min most (total - l.from) = c.min.ensures in
    let put : c.push.new.self ≡ l.parts ++ (Make (stretch_of page l.from (l.from + m) new) ∷ []) =
    c.in_ok-push.ensures.ok ∙ ap (λ (ps : List Piece). l.parts ++ (Make ps ∷ [])) c.in_ok-stretch.ensures in
    record {
      within = omega (arith, l.invariant.within, is);
      made =
          ap (λ (ps : List Part). ps ++ map Make (stretches page (l.from + m) (pieces most (total - (l.from + m))) new)) put
          ∙ (make-step page most l.from m total new l.parts c.requires.most c.loop-from-test.true is ∙ l.invariant.made);
    }
