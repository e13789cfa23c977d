use Rattle.std.proofs.Common.{◌≡◌, ℕ, ◌+◌, ◌≤◌, List, [], ◌∷◌, ◌++◌, map, drop, sym, ap, subst, arith, ◌∙◌, append_assoc}
use Rattle.std.specs.List.{AllByRecursion}
use Rattle.tree_model.specs.Tree.{page_count}
use Rattle.layout_model.specs.declared.request.Request.{Request}
use Rattle.layout_model.specs.Plan.{made_part_bytes}
use Rattle.edit_parts.specs.declared.part.Part.{Part}
use Rattle.edit_parts.specs.declared.part.Part.TheVariants.{Make}
use Rattle.edit_parts.specs.Parts.{layout_part}
use Rattle.edit_parts.specs.Pieces.{pieces_bytes}
use Rattle.object_plan.specs.Asked.{AreCounted, just}
use Rattle.object_plan.proofs.CodeLemmas.{made-default, made-here, part-here}
use Rattle.object_plan.proofs.asking.needs.Goals as goal
use Rattle.object_plan.proofs.asking.needs.Goals.{in-Make+in_ok-push, in_default}

pub loop-part-preserved : goal.loop-part-preserved
loop-part-preserved c =
    let i = c.loop-part.part-index in
    let parts = c.args.parts.now in
    let left = drop i parts in
    let rest = drop (i + 1) parts in
    let pages : ℕ → ℕ = page_count c.args.page in
    let ask : List ℕ → List Request = λ ns. map just (map pages ns) in
    let done = c.loop-part.list.items in
    let here = part-here parts i c.part-item.result c.loop-part-test.true c.part-item.is in
    elim c.match-part.branch [
      | in-Make+in_ok-push w ↦
          let pieces = w.in-Make.pieces in
          let e : left ≡ Make pieces ∷ rest = here ∙ ap (λ (x : Part). x ∷ rest) w.in-Make.is in
          let made = made-here left rest pieces e in
          let few = subst AreCounted made c.loop-part.invariant.few in
          let fit = subst (AllByRecursion (λ (bytes : ℕ). pages bytes ≤ c.args.limit)) made c.loop-part.invariant.fit in
          let small = few.0 in
          let counted : w.bytes.result ≡ pieces_bytes pieces = omega (arith, small, w.bytes.ensures) in
          let need : w.page_count-need.result ≡ pages (pieces_bytes pieces) = w.page_count-need.ensures ∙ ap pages counted in
          record {
            same = ap (λ v. v.items ++ ask (made_part_bytes (map layout_part rest))) w.list-is
                ∙ (ap (λ (xs : List Request). xs ++ ask (made_part_bytes (map layout_part rest))) w.in_ok-push.ensures.items
                ∙ (append_assoc done (just w.page_count-need.result ∷ []) (ask (made_part_bytes (map layout_part rest)))
                ∙ (ap (λ (k : ℕ). done ++ (just k ∷ ask (made_part_bytes (map layout_part rest)))) need
                ∙ (ap (λ (ns : List ℕ). done ++ ask ns) (sym made) ∙ c.loop-part.invariant.same))));
            few = few.1;
            fit = fit.1;
          }
      | in_default w ↦
          let made = made-default left rest c.part-item.result here w.in_default.not-Make in
          record {
            same = ap (λ v. v.items ++ ask (made_part_bytes (map layout_part rest))) w.list-is
                ∙ (ap (λ (ns : List ℕ). done ++ ask ns) (sym made) ∙ c.loop-part.invariant.same);
            few = subst AreCounted made c.loop-part.invariant.few;
            fit = subst (AllByRecursion (λ (bytes : ℕ). pages bytes ≤ c.args.limit)) made c.loop-part.invariant.fit;
          }
    ]
