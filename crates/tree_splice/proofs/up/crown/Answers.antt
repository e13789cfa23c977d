-- The new level of the old root is the last, or the names of all its nodes are those of the level above.
use Rattle.std.proofs.Common.{◌≡◌, ℕ, ◌-◌, ◌<◌, List, [], ◌∷◌, ◌++◌, length, map, drop, sym, ap, subst, ◌∙◌, arith}
use Rattle.base_laws.proofs.ResultLaws.{on_ok}
use Rattle.tree_model.specs.declared.entry.Pair.{Pair}
use Rattle.layout_model.specs.Levels.{PageNode, pair_of, level_after, raised_levels}
use Rattle.tree_splice.specs.Remade.{AreAllCounted, rebuilt, remade}
use Rattle.tree_splice.specs.declared.remade.Remade.{Remade}
use Rattle.tree_splice.proofs.UpLemmas.{raise-last, raise-step, levels-last, levels-step}
use Rattle.tree_splice.proofs.up.crown.Goals as goal

made : (f : ℕ) (none : List PageNode) (names deref : List Pair) (left : List ℕ) (next : Remade) → none ≡ [] → deref ≡ names →
    rebuilt none next ≡ level_after f none 0 0 deref left → rebuilt [] next ≡ level_after f [] 0 0 names left
made f none names deref left next empty same is =
    subst (λ (ns : List PageNode). rebuilt ns next ≡ level_after f ns 0 0 deref left) empty is ∙ ap
    (λ (ps : List Pair). level_after f [] 0 0 ps left) same

step : (f : ℕ) (nodes none : List PageNode) (below next : Remade) (pages left : List ℕ) (names deref : List Pair) (count : ℕ) →
    1 < below.size → below ≡ remade (rebuilt nodes below) → names ≡ map pair_of (rebuilt nodes below).nodes →
    count ≡ length below.made → left ≡ drop count pages → none ≡ [] → deref ≡ names → rebuilt none next ≡ level_after f none 0 0 deref left
    →
    raised_levels (length (rebuilt nodes below).nodes) f (rebuilt nodes below) pages ≡ rebuilt nodes below ∷ raised_levels (below.size - 1)
    f (rebuilt [] next) left
step f nodes none below next pages left names deref count many kept named counted rest empty same is =
    ap (λ (k : ℕ). raised_levels k f (rebuilt nodes below) pages) (sym (ap (λ (b : Remade). b.size) kept))
    ∙ raise-step below.size f nodes below pages names left (rebuilt [] next) (omega (arith, many)) many kept named
    (rest ∙ ap (λ (n : ℕ). drop n pages) counted) (made f none names deref left next empty same is)

pub returns-then-below-le1-clause-levels : goal.returns-then-below-le1-clause-levels
returns-then-below-le1-clause-levels c =
    let b = c.args.below in
    let level = rebuilt c.args.nodes.now b in
    let all = raised_levels (length level.nodes) c.args.f level c.args.pages.now in
    let one = raise-last (length level.nodes) c.args.f c.args.nodes.now b c.args.pages.now c.if-below-le1.true c.requires.below in
    on_ok c.push_last.result
    (λ (added : c.push_last.new.into.items ≡ c.args.into.now.items ++ b ∷ []). levels-last c.args.into.now.items c.push_last.new.into.items
    b level all one c.requires.below added)
    c.push_last.ensures.level

pub returns-clause-levels : goal.returns-clause-levels
returns-clause-levels c =
    let b = c.args.below in
    let next = c.in_ok-next.next in
    let level = rebuilt c.args.nodes.now b in
    let rest = raised_levels (b.size - 1) c.args.f (rebuilt [] next) c.rest-left.result.now in
    let all = raised_levels (length level.nodes) c.args.f level c.args.pages.now in
    let one = step c.args.f c.args.nodes.now c.new.result b next c.args.pages.now c.rest-left.result.now c.in_ok-names.names.items
    c.deref.result.now c.len.result
    c.if-below-le1.false c.requires.below c.in_ok-names.ensures.named c.len.ensures.count c.rest-left.ensures c.new.ensures
    c.deref.ensures.value c.in_ok-next.ensures.rebuilt in
    on_ok c.raise.result
    (λ (added : c.raise.new.into.items ≡ c.push_level.new.into.items ++ map remade rest).
    levels-step c.args.into.now.items c.push_level.new.into.items c.raise.new.into.items b level all rest one c.requires.below
    c.in_ok-push_level.ensures added)
    c.raise.ensures.levels

pub returns-clause-wide : goal.returns-clause-wide
returns-clause-wide c = λ bad counted.
    let one = step c.args.f c.args.nodes.now c.new.result c.args.below c.in_ok-next.next c.args.pages.now c.rest-left.result.now
    c.in_ok-names.names.items c.deref.result.now c.len.result
    c.if-below-le1.false c.requires.below c.in_ok-names.ensures.named c.len.ensures.count c.rest-left.ensures c.new.ensures
    c.deref.ensures.value c.in_ok-next.ensures.rebuilt in
    c.raise.ensures.wide bad (subst AreAllCounted one counted).1
