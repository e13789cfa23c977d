use Rattle.std.proofs.Common.{◌≡◌, ℕ, ◌+◌, ◌-◌, ◌*◌, ◌<◌, ◌^◌, List, ap, sym, subst, arith, ◌∙◌}
use Rattle.std.specs.Prelude.{option_to_list}
use Rattle.geometry_model.specs.Numbers.{space_pages}
use Rattle.geometry_model.proofs.NumberLaws.{page-some}
use Rattle.tree_model.specs.Range.{pairs_of, start_of}
use Rattle.edit_parts.specs.declared.part.Part.{Part}
use Rattle.edit_parts.specs.declared.piece.Piece.{Piece}
use Rattle.edit_parts.specs.Pieces.{piece_bytes}
use Rattle.edit_plan.specs.Cuts.{IsNumbered}
use Rattle.edit_plan.specs.Planned.{IsPlan}
use Rattle.edit_plan.proofs.EntryLemmas.{head-few, head-numbered, space-some}
use Rattle.edit_plan.proofs.PlanLemmas.{all_of, entries-have, plan-is, put-all}
use Rattle.edit_plan.proofs.planning.plan.Goals as goal

pub keep_front-requires : goal.keep_front-requires
keep_front-requires c = entries-have c.args.geometry.now (pairs_of c.args.window.now) c.requires.entries

pub make-requires : goal.make-requires
make-requires c =
    let n = c.args.geometry.now in
    let pairs = pairs_of c.args.window.now in
    let range = c.page.ensures.range in
    let end = c.args.at - c.start_of.result + c.args.cut in
    let back = c.back_of-back in
    let head = sym back.ensures.head_is in
    let some = page-some n range in
    let much : 0 < c.space_pages.result * c.page.result =
    subst (λ (k : ℕ). 0 < k)
    (sym (ap (λ (s : ℕ). s * c.page.result) c.space_pages.ensures.exact ∙ ap (λ (s : ℕ). space_pages n * s) c.page.ensures.exact))
    (space-some n range) in
    let few : piece_bytes back.result.head < 2 ^ 32 =
    subst (λ (p : Piece). piece_bytes p < 2 ^ 32) head (head-few n end pairs range c.requires.entries) in
    record {
      some = omega (arith, c.page-2.ensures.exact, some);
      most = omega (arith, much);
      numbered = subst (λ (k : ℕ). IsNumbered k back.result.head) (sym c.page-2.ensures.exact)
          (subst (IsNumbered n.page) head (head-numbered n end pairs range c.requires.entries));
      fits = omega (arith, few, c.requires.payload);
    }

pub returns : goal.returns
returns c =
    let n = c.args.geometry.now in
    let w = c.args.window.now in
    let at = c.args.at in
    let cut = c.args.cut in
    let given = c.args.given in
    let most = space_pages n * n.page in
    let back = c.back_of-back in
    let place = at - c.start_of.result in
    let place_is : place ≡ at - start_of w = ap (λ (s : ℕ). at - s) c.start_of.ensures in
    let much = c.space_pages.result * c.page.result in
    let much_is : much ≡ most =
    ap (λ (s : ℕ). s * c.page.result) c.space_pages.ensures.exact ∙ ap (λ (s : ℕ). space_pages n * s) c.page.ensures.exact in
    let all = put-all n.page most (pairs_of w) place cut given c.page-2.result much back.result.head
    (option_to_list back.result.right) (option_to_list back.result.after) c.in_ok-parts.parts c.keep_front.new.parts c.make.new.parts
    c.keep.new.parts c.keep-2.new.parts c.page-2.ensures.exact much_is back.ensures.head_is back.ensures.right_is
    back.ensures.after_is c.in_ok-parts.ensures c.in_ok-keep_front.ensures c.in_ok-make.ensures c.in_ok-keep.ensures
    c.in_ok-keep-2.ensures in
    subst (λ (ps : List Part). IsPlan n w at cut given ps)
    (sym (all ∙ ap (λ (a : ℕ). all_of n.page most (pairs_of w) a cut given) place_is))
    (plan-is n w at cut given c.page.ensures.range c.requires.first c.requires.last c.requires.entries)
