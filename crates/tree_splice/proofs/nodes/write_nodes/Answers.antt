-- One node more is written, and the others are left.
use Rattle.std.proofs.Common.{ℕ, ◌+◌, ◌++◌, [], ◌∷◌, List, get_or, refl, ap, sym, subst, ◌∙◌, arith, append_assoc}
use Rattle.std.specs.List.{AllByRecursion}
use Rattle.std.proofs.lemmas.Bool.{false≢true}
use Rattle.std.proofs.lemmas.List.{length-append}
use Rattle.fault_count.proofs.CountLaws.{Writes-none, Writes-then}
use Rattle.layout_model.specs.Levels.{PageNode}
use Rattle.tree_model.specs.Node.{room_of}
use Rattle.tree_splice.specs.Scratch.{IsPrepared}
use Rattle.tree_splice.specs.Fresh.{AreAllOf}
use Rattle.tree_splice.specs.Remade.{counts_of, row_pages}
use Rattle.tree_splice.specs.Way.{IsMade}
use Rattle.tree_splice.proofs.NameLemmas.{left_of}
use Rattle.tree_splice.proofs.NodesLemmas.{before-next, left-all, left-next, same-length, same-next, whole-all, whole-next, written-next}
use Rattle.tree_splice.proofs.nodes.write_nodes.Goals as goal

pub loop-number-init : goal.loop-number-init
loop-number-init g c =
    let all = left-all c.args.nodes.now c.pairs-left.result.now c.pairs-left.ensures in
    record {
      whole = whole-all c.args.nodes.now c.pairs-left.result.now c.pairs-left.ensures;
      fits = subst (AllByRecursion (IsMade (room_of (g.P.Port.meter c.args.port.now).page))) (sym all) c.requires.made;
      done = ([], refl, sym all, λ t. tt);
      before = refl;
      same = refl;
      sized = c.requires.sized;
      prepared = c.requires.prepared;
      writes = Writes-none 0 (g.P.Port.meter c.args.port.now);
      quiet = refl;
    }

pub returns-in_err-write_node-clause-same : goal.returns-in_err-write_node-clause-same
returns-in_err-write_node-clause-same g c =
    same-next (c.args.at + c.loop-number.number) c.args.pages.now.pages c.loop-number.pages.pages c.write_node.new.pages.pages
    c.loop-number.invariant.same c.write_node.ensures.one

pub loop-number-preserved : goal.loop-number-preserved
loop-number-preserved g c =
    let kept = c.loop-number.invariant in
    let nodes = c.args.nodes.now in
    let i = c.loop-number.number in
    let left = c.loop-number.left.now in
    let here = c.split_at.result.0.now in
    let behind = c.split_at.result.1.now in
    let old = c.loop-number.pages.pages in
    let new = c.write_node.new.pages.pages in
    let node : PageNode = record { page = get_or (row_pages nodes) i 0; pairs = here } in
    let inside = c.loop-number-test.true in
    let count = c.len-number-end.ensures.count in
    let next = left-next nodes c.counts.result.now left here behind i (omega (arith, inside, count)) c.counts.ensures.counts
    c.split_at.ensures.front c.split_at.ensures.back in
    let all = subst (AllByRecursion (IsMade (room_of (g.P.Port.meter c.args.port.now).page))) next kept.fits in
    let first = kept.done.0 in
    let both = length-append first (node ∷ []) in
    let long = kept.done.1 in
    let within = c.requires.within in
    let same_long = same-length c.args.pages.now.pages old kept.same in
    let page = kept.writes.used.page in
    record {
      whole = whole-next nodes c.counts.result.now left behind i (omega (arith, inside, count)) c.counts.ensures.counts kept.whole
          c.split_at.ensures.back;
      fits = all.1;
      done = (
        first ++ node ∷ [],
        omega (arith, both, long),
        kept.done.2 ∙ (ap (λ (ns : List PageNode). first ++ ns) next
            ∙ sym (append_assoc first (node ∷ []) (left_of (row_pages nodes) (counts_of nodes) behind (i + 1)))),
        λ t. written-next c.args.level c.args.at i first old new node c.write_node.ensures.one
            (omega (arith, within, inside, count, same_long)) kept.done.1
            (c.in_ok-write_node.ensures.written t) (kept.done.3 t),
      );
      before = before-next c.args.at i old new c.write_node.ensures.one ∙ kept.before;
      same = same-next (c.args.at + i) c.args.pages.now.pages old new kept.same c.write_node.ensures.one;
      sized = subst (λ (n : ℕ). AreAllOf g.P.S.Span.tells n new) page c.write_node.ensures.sized;
      prepared = subst (λ (n : ℕ). IsPrepared n c.write_node.new.scratch) page c.write_node.ensures.prepared;
      writes = Writes-then i 1 (i + 1) (g.P.Port.meter c.args.port.now) (g.P.Port.meter c.loop-number.port)
          (g.P.Port.meter c.write_node.new.port)
          kept.writes c.write_node.ensures.writes (omega arith);
      quiet = c.in_ok-write_node.ensures.cause.still false≢true ∙ kept.quiet;
    }
