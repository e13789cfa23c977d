use Rattle.std.proofs.Common.{◌≡◌, ◌≤◌, List, [], ◌∷◌, ◌++◌, sym, ap, subst, ◌∙◌}
use Rattle.std.specs.Prelude.{All}
use Rattle.std.proofs.lemmas.List.Elements.{All-from_recursion}
use Rattle.tree_model.specs.declared.entry.Pair.{Pair}
use Rattle.object_plan.proofs.tests.node.Goals as goal

pub encode-requires-clause-bytes : goal.encode-requires-clause-bytes
encode-requires-clause-bytes c =
    let first = c.args.first in
    let second = c.args.second in
    let last = c.args.last in
    let items : c.push-3.new.self.items ≡ first ∷ second ∷ last ∷ [] =
    c.in_ok-push-3.ensures.ok
    ∙ ap (λ (ps : List Pair). ps ++ last ∷ []) (c.in_ok-push-2.ensures.ok
    ∙ ap (λ (ps : List Pair). ps ++ second ∷ []) (c.in_ok-push.ensures.ok
    ∙ ap (λ (ps : List Pair). ps ++ first ∷ []) c.in_ok-pairs.ensures.empty)) in
    subst (λ (ps : List Pair). All (λ (p : Pair). 1 ≤ p.bytes) ps) (sym items)
    (All-from_recursion (λ (p : Pair). 1 ≤ p.bytes) (first ∷ second ∷ last ∷ [])
    (c.requires.first, (c.requires.second, (c.requires.last, tt))))
