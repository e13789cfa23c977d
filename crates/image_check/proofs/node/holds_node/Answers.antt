-- A page that holds a node is read, and no other.
use Rattle.std.proofs.Common.{◌∙◌, length, sym, arith}
use Rattle.geometry_model.proofs.NumberLaws.{page_size-high}
use Rattle.node_codec.proofs.NumberLemmas.{AreBytes}
use Rattle.image_check.proofs.HeadLemmas.{decoded, decoded-is}
use Rattle.image_check.proofs.node.holds_node.Goals as goal

pub returns-clause-exact : goal.returns-clause-exact
returns-clause-exact c =
    let small : AreBytes c.args.page.now = λ k. let fits = c.type_inv.page k in omega arith in
    let high = page_size-high (length c.args.page.now) c.requires.size in
    c.is_ok.ensures.value
    ∙ decoded c.args.page.now c.decode.new.into.level c.decode.new.into.pairs.items c.decode.result small high
    c.decode.ensures.found c.decode.ensures.only

pub returns-clause-node : goal.returns-clause-node
returns-clause-node c = λ good.
    decoded-is c.decode.result _ (sym c.is_ok.ensures.value ∙ good) c.decode.ensures.found
