use Rattle.std.proofs.Common.{sym, ◌∙◌}
use Rattle.object_body.specs.Stored.{entry_of}
use Rattle.object_state.proofs.LoadLemmas.{taken-keeps}
use Rattle.object_state.proofs.tree_body.TreeBody.take_pages.Goals as goal

pub invariant_of-result : goal.invariant_of-result
invariant_of-result g c =
    taken-keeps g.P.S.Span.tells c.args.geometry.now (entry_of c.args.root c.args.threshold) c.args.held.now c.in_ok-held.held
    c.in-Ok.cache c.new-2.result c.new-3.result (sym c.take.ensures.value ∙ c.in_ok-held.was) c.requires.load c.in-Ok.ensures.empty
    (record { none = c.new-2.ensures.empty; size = c.new-2.ensures.size })
    (record { none = c.new-3.ensures.empty; size = c.new-3.ensures.size })
