use Rattle.std.proofs.Common.{rules, ◌≡◌, ◌∙◌, sym, ap, List, map, map-id}
use Rattle.std.proofs.lemmas.Iterator.Adapters.{YieldsList-from_vec}
use Rattle.std.proofs.lemmas.Iterator.Consumers.{YieldsList-end}
use Rattle.layout_model.specs.Pack.{pack}
use Rattle.edit_parts.specs.declared.part.Part.{Part}
use Rattle.edit_parts.specs.Parts.{layout_part}
use Rattle.threshold_merge.proofs.PassLemmas.{pass-done}
use Rattle.threshold_merge.proofs.merge.pack.Goals as goal

pub returns-clause-packed : goal.returns-clause-packed
returns-clause-packed c =
    let row = YieldsList-from_vec {s = c.into_iter-part-iterator.result} c.into_vec-parts.result.items (search rules) (search rules) in
    let end = YieldsList-end row c.loop-part.yielded c.loop-part.part-iterator c.loop-part.yielded_by
    c.next.result c.next.new.self c.in-None.is c.next.ensures.steps in
    let all : c.loop-part.yielded ≡ c.args.parts = sym (map-id c.loop-part.yielded) ∙ (end.0 ∙ c.into_vec-parts.ensures) in
    pass-done c.args.page c.args.threshold c.loop-part.packed c.loop-part.yielded c.loop-part.invariant.packed
    ∙ ap (λ (ps : List Part). pack c.args.page c.args.threshold (map layout_part ps)) all
