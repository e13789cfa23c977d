use Rattle.std.proofs.Common.{◌∙◌, ap, sym, take, arith}
use Rattle.std.proofs.lemmas.List.Sums.{sum_by-take-le}
use Rattle.tree_splice.proofs.RunLemmas.{total, front-total}
use Rattle.tree_splice.proofs.exchange.start_of.Goals as goal

pub total-requires : goal.total-requires
total-requires c =
    let counts = c.counts.result.now in
    let less = sum_by-take-le (λ n. n) counts c.args.site.before in
    let same = ap total c.front.ensures in
    let small = c.counts.ensures.small in
    omega (arith, less, same, small)

pub returns : goal.returns
returns c =
    c.total.ensures
    ∙ (ap total c.front.ensures
    ∙ (ap (λ ks. total (take c.args.site.before ks)) c.counts.ensures.counts ∙ sym (front-total c.args.site.before c.args.run.now)))
