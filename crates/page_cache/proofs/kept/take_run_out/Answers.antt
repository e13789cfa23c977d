-- Each turn looks at one entry more, and after the last one those that stay stand as they stood.
use Rattle.std.proofs.Common.{◌≡◌, ℕ, ◌+◌, ◌-◌, Bool, not, [], ◌++◌, length, take, drop, ap, subst, ◌∙◌, append-nil, arith}
use Rattle.std.proofs.lemmas.List.Sums.{length-filter, count_by-le-length}
use Rattle.node_codec.specs.declared.parsed.Node.{Node}
use Rattle.page_cache.specs.Kept.{is_on_run}
use Rattle.page_cache.proofs.RunLemmas.{off, turned-next}
use Rattle.page_cache.proofs.kept.take_run_out.Goals as goal

abbrev none : ℕ × Node
none = (0, record { level = 0; pairs = record { items = []; room = 0 } })

pub loop-turn-preserved : goal.loop-turn-preserved
loop-turn-preserved c =
    let es = c.args.nodes.now.entries in
    let left = length es - (c.loop-turn._turn + 1) in
    let next : length es - c.loop-turn._turn ≡ left + 1 = omega arith in
    let shape = subst (λ (k : ℕ). c.loop-turn.nodes.entries ≡ off c.args.first c.args.pages (drop k es)
    ++ take k es) next c.loop-turn.invariant.shape in
    record {
      shape = turned-next c.args.first c.args.pages left es c.loop-turn.nodes.entries c.turn.new.nodes.entries none
          (omega arith) shape c.turn.ensures.turned;
      capacity = c.turn.ensures.capacity ∙ c.loop-turn.invariant.capacity;
    }

pub returns-clause-order : goal.returns-clause-order
returns-clause-order c =
    let es = c.args.nodes.now.entries in
    let none_left : length es - c.loop-turn._turn ≡ 0 = omega arith in
    c.loop-turn.invariant.shape
    ∙ ap (λ (k : ℕ). off c.args.first c.args.pages (drop k es) ++ take k es) none_left
    ∙ append-nil (off c.args.first c.args.pages es)

pub returns-clause-fewer : goal.returns-clause-fewer
returns-clause-fewer c =
    let es = c.args.nodes.now.entries in
    let stays : ℕ × Node → Bool = λ e. not (is_on_run c.args.first c.args.pages e.0) in
    let same = ap length (returns-clause-order c) ∙ length-filter stays es in
    let fewer = count_by-le-length stays es in
    omega (arith, fewer, same)
