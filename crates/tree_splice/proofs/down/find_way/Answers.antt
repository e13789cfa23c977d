-- The root is one name.
use Rattle.std.proofs.Common.{◌/◌, ◌≤◌, false, List, [], ◌∷◌, ◌++◌, ap, refl, subst, sym, ◌∙◌, arith}
use Rattle.std.proofs.lemmas.List.{append-nil}
use Rattle.geometry_model.proofs.NumberLaws.{page_size-low}
use Rattle.tree_model.specs.Node.{room_of}
use Rattle.local_laws.specs.Path.{PathLevel, shown}
use Rattle.span_store.specs.Held.{bytes_on}
use Rattle.tree_model.specs.declared.entry.Pair.{Pair}
use Rattle.tree_splice.specs.Down.{AreKnown, FindsWay, root_names, way_of}
use Rattle.tree_splice.specs.declared.section.Deciding.{Deciding}
use Rattle.tree_splice.proofs.DownLemmas.{trees-top}
use Rattle.tree_splice.proofs.ShownLemmas.{root-known}
use Rattle.tree_splice.proofs.down.find_way.Goals as goal

pub push_way-requires : goal.push_way-requires
push_way-requires g c = record {
  pages = c.requires.asks.pages;
  nodes = c.requires.asks.nodes;
  stands = λ t. trees-top (bytes_on c.args.held.now) _ c.args.root.now.height c.args.root.now.page c.args.root.now.length
      (c.requires.asks.stands t);
}

pub returns-clause-told : goal.returns-clause-told
returns-clause-told g c = λ t.
    let at = bytes_on c.args.held.now in
    let root = c.args.root.now in
    let large = page_size-low (g.P.Port.meter c.args.port.now).page c.requires.asks.pages.size_is in
    let known = root-known at (room_of (g.P.Port.meter c.args.port.now).page / 2) root c.args.from c.args.to (omega (arith, large))
    (c.requires.asks.stands t) c.requires.order c.requires.inside c.requires.small in
    let pairs : List Pair = record { bytes = root.length; page = root.page } ∷ [] in
    let here : AreKnown at c.deciding_bytes.result root.height (root_names root) pairs 0 false false =
    subst (λ (b : Deciding). AreKnown at b root.height (root_names root) pairs 0 false false) (sym c.deciding_bytes.ensures) known in
    let one : 1 ≤ 1 = omega arith in
    let down = c.in_ok-start.ensures.told t (root_names root) [] (refl, one) here in
    subst (λ (b : Deciding). FindsWay at b root c.push_way.new.into.items c.in_ok-start.start) c.deciding_bytes.ensures
    (record {
      path_is = sym (append-nil c.push_way.new.into.items)
          ∙ (down.path ∙ ap (λ (read : List PathLevel). read ++ shown (way_of at c.deciding_bytes.result root)) c.new-path.ensures.items);
      start_is = down.start_is;
    })
