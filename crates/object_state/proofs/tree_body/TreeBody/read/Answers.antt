-- The tree of the working version is read.
use Rattle.std.proofs.Common.{Option, ap, subst}
use Rattle.tree_model.specs.declared.tree.Root.{Root}
use Rattle.tree_pages.specs.Entry.{Present}
use Rattle.object_body.specs.Calls.{IsBodyRead}
use Rattle.object_body.specs.Stored.{entry_of}
use Rattle.object_state.specs.Kind.{tree_may_read}
use Rattle.object_state.specs.Tree.{TreeView, tree_form, tree_contents}
use Rattle.object_body.specs.Form.{HaveLengths}
use Rattle.object_state.proofs.LookLemmas.{cached-keeps, told-read, tree-reads, with_cache, within-here}
use Rattle.object_state.proofs.tree_body.TreeBody.read.Goals as goal
use Rattle.geometry_model.proofs.NumberLaws.{page-some}

pub read_tree-requires-clause-told : goal.read_tree-requires-clause-told
read_tree-requires-clause-told g c =
    let inside = c.self.inside in
    let v : TreeView = record {
      numbers = inside.geometry;
      committed = entry_of inside.committed.root inside.committed.threshold;
      working = entry_of inside.working.root inside.working.threshold;
      spare = inside.spare;
      held = inside.held;
      cache = inside.cache;
      fresh = inside.fresh;
      locked = inside.locked;
    } in
    told-read g.P.S.Span.tells v (record { root = c.in-Some.root; threshold = inside.working.threshold }) c.self.invariant
    (ap (λ (root : Option Root). entry_of root inside.working.threshold) c.in-Some.is)

pub invariant_of-self : goal.invariant_of-self
invariant_of-self g c =
    let inside = c.self.inside in
    let v : TreeView = record {
      numbers = inside.geometry;
      committed = entry_of inside.committed.root inside.committed.threshold;
      working = entry_of inside.working.root inside.working.threshold;
      spare = inside.spare;
      held = inside.held;
      cache = inside.cache;
      fresh = inside.fresh;
      locked = inside.locked;
    } in
    cached-keeps g.P.S.Span.tells v c.read_tree.new.cache c.self.invariant c.read_tree.ensures.read.nodes

pub returns : goal.returns
returns g c =
    let inside = c.self.inside in
    let v : TreeView = record {
      numbers = inside.geometry;
      committed = entry_of inside.committed.root inside.committed.threshold;
      working = entry_of inside.working.root inside.working.threshold;
      spare = inside.spare;
      held = inside.held;
      cache = inside.cache;
      fresh = inside.fresh;
      locked = inside.locked;
    } in
    let present : Present = record { root = c.in-Some.root; threshold = inside.working.threshold } in
    let is = ap (λ (root : Option Root). entry_of root inside.working.threshold) c.in-Some.is in
    let fits = within-here v c.args.self.now present c.args.at c.args.len c.self.view_is is c.requires.within in
    let old = g.P.Port.meter c.args.port.now in
    let new = g.P.Port.meter c.read_tree.new.port in
    record {
      read = subst (λ (w : TreeView). IsBodyRead g.P.S.Span.tells HaveLengths tree_may_read c.args.at c.args.len c.read_tree.result
          (tree_form w) (tree_form (with_cache v c.read_tree.new.cache)) (tree_contents w)
          (tree_contents (with_cache v c.read_tree.new.cache)) old new) c.self.view_is
          (tree-reads g.P.S.Span.tells v present c.read_tree.new.cache c.args.at c.args.len old new c.read_tree.result
          (page-some inside.geometry c.page-page.ensures.range) c.self.invariant
          is fits c.read_tree.ensures.read);
    }
