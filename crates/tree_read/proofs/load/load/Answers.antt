-- Where the device tells, the node that is kept or fetched is the one that the pair names.
use Rattle.std.proofs.Common.{sym, ap, ◌∙◌}
use Rattle.page_cache.specs.Kept.{kept}
use Rattle.tree_model.proofs.NodeLemmas.{node_in-pairs}
use Rattle.tree_read.proofs.CacheLemmas.{kept_node, named_node}
use Rattle.tree_read.specs.Loaded.{pairs_lent}
use Rattle.span_store.specs.Held.{bytes_on}
use Rattle.tree_read.proofs.load.load.Goals as goal

pub check-requires-clause-level : goal.check-requires-clause-level
check-requires-clause-level g c = λ t.
    let at = bytes_on c.args.held.now in
    let page = c.args.pair.page in
    let node = kept_node (at page) (kept c.args.cache.now page) c.in-Some.node.now (c.requires.nodes.right t page) c.in-Some.ensures.node in
    (named_node at page c.args.level c.args.pair.bytes c.in-Some.node.now (c.requires.stands t) node).0

pub check-requires-clause-bytes : goal.check-requires-clause-bytes
check-requires-clause-bytes g c = λ t.
    let at = bytes_on c.args.held.now in
    let page = c.args.pair.page in
    let node = kept_node (at page) (kept c.args.cache.now page) c.in-Some.node.now (c.requires.nodes.right t page) c.in-Some.ensures.node in
    (named_node at page c.args.level c.args.pair.bytes c.in-Some.node.now (c.requires.stands t) node).1

pub returns-in-Some-clause-told : goal.returns-in-Some-clause-told
returns-in-Some-clause-told g c = λ t.
    let at = bytes_on c.args.held.now in
    let page = c.args.pair.page in
    let node = kept_node (at page) (kept c.args.cache.now page) c.in-Some.node.now (c.requires.nodes.right t page) c.in-Some.ensures.node in
    ap pairs_lent (c.promote.ensures.same.each page ∙ sym c.in-Some.ensures.node) ∙ sym (node_in-pairs (at page) _ _ node)

pub fetch-requires-clause-pages : goal.fetch-requires-clause-pages
fetch-requires-clause-pages g c = c.requires.pages

pub check-requires-2-clause-level : goal.check-requires-2-clause-level
check-requires-2-clause-level g c = λ t.
    (named_node (bytes_on c.args.held.now) c.args.pair.page c.args.level c.args.pair.bytes c.in_ok-node.node
    (c.requires.stands t) (c.in_ok-node.ensures.told t)).0

pub check-requires-2-clause-bytes : goal.check-requires-2-clause-bytes
check-requires-2-clause-bytes g c = λ t.
    (named_node (bytes_on c.args.held.now) c.args.pair.page c.args.level c.args.pair.bytes c.in_ok-node.node
    (c.requires.stands t) (c.in_ok-node.ensures.told t)).1

pub returns-clause-told : goal.returns-clause-told
returns-clause-told g c = λ t.
    sym (node_in-pairs (bytes_on c.args.held.now c.args.pair.page) _ _ (c.in_ok-node.ensures.told t))
