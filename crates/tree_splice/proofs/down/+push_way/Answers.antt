-- One level is read, and those below it.
use Rattle.std.proofs.Common.{◌≡◌, ℕ, ◌+◌, ◌-◌, ◌||◌, Bool, List, ◌∷◌, length, nat_lt, ap, refl, subst, sym, ◌∙◌, arith}
use Rattle.local_laws.specs.Cut.{Cut}
use Rattle.local_laws.specs.Path.{PathLevel}
use Rattle.span_store.specs.Held.{bytes_on}
use Rattle.tree_model.specs.declared.entry.Pair.{Pair}
use Rattle.tree_model.specs.Tree.{AreTrees, bytes_of}
use Rattle.tree_read.proofs.CacheLemmas.{AsksSearch-on}
use Rattle.tree_splice.specs.Down.{AreKnown, below_names, cut_below, entries_before}
use Rattle.tree_splice.specs.Way.{named_on}
use Rattle.tree_splice.proofs.DownLemmas.{trees-below, trees-here, trees-part}
use Rattle.tree_splice.proofs.ShownLemmas.{before-step, level-known, way-end, way-step}
use Rattle.tree_splice.proofs.down.+push_way.Goals as goal

pub returns-then-height-eq0-clause-told : goal.returns-then-height-eq0-clause-told
returns-then-height-eq0-clause-told g t c = λ t' names cuts below known.
    way-end (bytes_on c.args.held.now) c.args.bytes c.args.height names cuts c.args.pairs.now c.args.start c.args.before c.args.behind
    c.args.into.now.items c.if-height-eq0.true below known

pub nodes_named-requires : goal.nodes_named-requires
nodes_named-requires g t c = record {
  pages = c.requires.pages;
  nodes = c.requires.nodes;
  stands = λ t'. trees-here (bytes_on c.args.held.now) c.args.height c.names_in.result.now c.if-height-eq0.false
      (subst (AreTrees (bytes_on c.args.held.now) 0 c.args.height) (sym c.names_in.ensures)
      (trees-part (bytes_on c.args.held.now) c.args.height _ _ c.args.pairs.now (c.requires.stands t')));
}

pub push_way-requires : goal.push_way-requires
push_way-requires g t c = λ κs within.
    let asks = AsksSearch-on _ _ _ _ _ _ c.in_ok-nodes.ensures.reads.uses.used.page c.requires.pages c.in_ok-nodes.ensures.reads.nodes
    (λ t'. trees-below (bytes_on c.args.held.now) c.args.height c.names_in.result.now c.pairs.result.now c.in_ok-nodes.nodes
    c.if-height-eq0.false
    (c.in_ok-nodes.ensures.told t') c.pairs.ensures
    (subst (AreTrees (bytes_on c.args.held.now) 0 c.args.height) (sym c.names_in.ensures)
    (trees-part (bytes_on c.args.held.now) c.args.height _ _ c.args.pairs.now (c.requires.stands t')))) in
    (omega (arith, c.decreases, c.if-height-eq0.false), (within.0, (within.1, asks)))

pub returns-clause-told : goal.returns-clause-told
returns-clause-told g t c = λ t' names cuts below known.
    let at = bytes_on c.args.held.now in
    let section = c.section_of-section.result in
    let before = c.args.before || nat_lt 0 section.first in
    let behind = c.args.behind || nat_lt section.end (length c.args.pairs.now) in
    let level : PathLevel = record { nodes = c.in_ok-nodes.nodes; first = section.first; before = before; behind = behind } in
    let cut = cut_below at c.args.bytes names in
    let begin = c.start_behind-begin.result in
    let under = c.pairs.result.now in
    let here = level-known at c.args.bytes c.args.height names cuts c.args.pairs.now under c.args.start begin
    c.args.before c.args.behind section c.in_ok-nodes.nodes level c.if-height-eq0.false below known
    c.section_of-section.ensures (c.in_ok-nodes.ensures.told t' ∙ ap (named_on at) c.names_in.ensures) refl c.pairs.ensures
    (λ small. c.start_behind-begin.ensures (let same = ap bytes_of c.front.ensures in omega (arith, same, small))
    ∙ ap (λ (ps : List Pair). c.args.start + bytes_of ps) c.front.ensures) in
    let made : c.new.result ≡ level =
    c.new.ensures
    ∙ (ap (λ (n : ℕ). record {
      nodes = c.in_ok-nodes.nodes;
      first = n;
      before = c.either-more_before.result;
      behind = c.either-more_behind.result;
    }) c.in_ok-first.ensures
    ∙ (ap (λ (b : Bool). record {
      nodes = c.in_ok-nodes.nodes;
      first = section.first;
      before = b;
      behind = c.either-more_behind.result;
    }) c.either-more_before.ensures
    ∙ ap (λ (b : Bool). record { nodes = c.in_ok-nodes.nodes; first = section.first; before = before; behind = b })
    c.either-more_behind.ensures)) in
    let next = subst (λ (b : Bool). AreKnown at c.args.bytes (c.args.height - 1) (below_names cut) under begin b
    c.either-more_behind.result) (sym c.either-more_before.ensures)
    (subst (λ (b : Bool). AreKnown at c.args.bytes (c.args.height - 1) (below_names cut) under begin before b)
    (sym c.either-more_behind.ensures) here.known) in
    let lower = c.in_ok-lowest.ensures.told t' (below_names cut) (cut ∷ cuts) refl next in
    record {
      path = way-step at c.args.bytes c.args.height names cuts c.args.into.now.items c.push_way.new.into.items c.push_run.new.into.items
          c.new.result c.if-height-eq0.false (made ∙ here.level_is) c.in_ok-push_run.ensures lower.path;
      start_is = lower.start_is ∙ sym (ap (λ (cs : List Cut). bytes_of (entries_before cs))
          (before-step at c.args.bytes c.args.height names cuts c.if-height-eq0.false));
    }
