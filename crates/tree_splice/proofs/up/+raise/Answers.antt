-- A level is added and those above it, or none above it where it is the last.
use Rattle.std.proofs.Common.{◌≡◌, ℕ, ◌-◌, ◌<◌, List, [], ◌∷◌, ◌++◌, length, map, drop, rules, sym, ap, subst, ◌∙◌}
use Rattle.base_laws.proofs.ResultLaws.{on_ok}
use Rattle.tree_model.specs.declared.entry.Pair.{Pair}
use Rattle.layout_model.specs.Levels.{PageNode, pair_of, level_after, raised_levels}
use Rattle.tree_splice.specs.Remade.{AreAllCounted, rebuilt, remade}
use Rattle.tree_splice.specs.declared.remade.Remade.{Remade}
use Rattle.layout_laws.proofs.LevelLemmas.{raised_levels-head}
use Rattle.tree_splice.proofs.UpLemmas.{counted-made, raise-only, raise-step, rebuilt-none, levels-last, levels-step}
use Rattle.tree_splice.proofs.up.+raise.Goals as goal

-- what is said of the level above
made : (f : ℕ) (none : List PageNode) (names deref : List Pair) (left : List ℕ) (next : Remade) → none ≡ [] → deref ≡ names →
    rebuilt none next ≡ level_after f none 0 0 deref left → rebuilt [] next ≡ level_after f [] 0 0 names left
made f none names deref left next empty same is =
    subst (λ (ns : List PageNode). rebuilt ns next ≡ level_after f ns 0 0 deref left) empty is ∙ ap
    (λ (ps : List Pair). level_after f [] 0 0 ps left) same

-- one level, and those above it
step : (steps f : ℕ) (below next : Remade) (pages left : List ℕ) (names deref : List Pair) (none : List PageNode) (count : ℕ) →
    (0 < steps) × (1 < below.size) → below ≡ remade (rebuilt [] below) → names ≡ map pair_of below.made →
    count ≡ length below.made → left ≡ drop count pages → none ≡ [] → deref ≡ names → rebuilt none next ≡ level_after f none 0 0 deref left
    →
    raised_levels steps f (rebuilt [] below) pages ≡ rebuilt [] below ∷ raised_levels (steps - 1) f (rebuilt [] next) left
step steps f below next pages left names deref none count more kept named counted rest empty same is =
    raise-step steps f [] below pages names left (rebuilt [] next) more.0 more.1 kept
    (named ∙ ap (λ (ns : List PageNode). map pair_of ns) (sym (rebuilt-none below)))
    (rest ∙ ap (λ (n : ℕ). drop n pages) counted) (made f none names deref left next empty same is)

pub returns-then-is_last-clause-levels : goal.returns-then-is_last-clause-levels
returns-then-is_last-clause-levels t c =
    let b = c.args.below in
    let level = rebuilt [] b in
    let all = raised_levels c.args.steps c.args.f level c.args.pages.now in
    let one = raise-only c.args.steps c.args.f [] b c.args.pages.now (c.is_last.ensures.last c.if-is_last.true) c.requires.below in
    on_ok c.push_last.result
    (λ (added : c.push_last.new.into.items ≡ c.args.into.now.items ++ b ∷ []). levels-last c.args.into.now.items c.push_last.new.into.items
    b level all one c.requires.below added)
    c.push_last.ensures.level

pub returns-clause-levels : goal.returns-clause-levels
returns-clause-levels t c =
    let b = c.args.below in
    let next = c.in_ok-next.next in
    let level = rebuilt [] b in
    let rest = raised_levels (c.args.steps - 1) c.args.f (rebuilt [] next) c.rest-left.result.now in
    let all = raised_levels c.args.steps c.args.f level c.args.pages.now in
    let one = step c.args.steps c.args.f b next c.args.pages.now c.rest-left.result.now c.in_ok-names.names.items c.deref.result.now
    c.new.result c.len.result
    (c.is_last.ensures.more c.if-is_last.false) c.requires.below c.in_ok-names.ensures.named c.len.ensures.count c.rest-left.ensures
    c.new.ensures c.deref.ensures.value c.in_ok-next.ensures.rebuilt in
    on_ok c.raise.result
    (λ (added : c.raise.new.into.items ≡ c.push_level.new.into.items ++ map remade rest).
    levels-step c.args.into.now.items c.push_level.new.into.items c.raise.new.into.items b level all rest one c.requires.below
    c.in_ok-push_level.ensures added)
    c.raise.ensures.levels

pub returns-clause-wide : goal.returns-clause-wide
returns-clause-wide t c = λ bad counted.
    let one = step c.args.steps c.args.f c.args.below c.in_ok-next.next c.args.pages.now c.rest-left.result.now c.in_ok-names.names.items
    c.deref.result.now c.new.result c.len.result
    (c.is_last.ensures.more c.if-is_last.false) c.requires.below c.in_ok-names.ensures.named c.len.ensures.count c.rest-left.ensures
    c.new.ensures c.deref.ensures.value c.in_ok-next.ensures.rebuilt in
    c.raise.ensures.wide bad (subst AreAllCounted one counted).1

pub returns-in_err-names-clause-wide : goal.returns-in_err-names-clause-wide
returns-in_err-names-clause-wide t c = λ bad counted.
    let level = rebuilt [] c.args.below in
    let head = raised_levels-head c.args.steps c.args.f level c.args.pages.now in
    c.in_err-names.ensures.wide (search rules) (counted-made [] c.args.below (subst AreAllCounted head.1 counted).0)
