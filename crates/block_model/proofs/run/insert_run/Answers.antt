-- The run's pages that were in the set are counted before all of them are written.
use Rattle.std.proofs.Common.{◌≡◌, ℕ, ◌+◌, ◌-◌, true, take, drop, ap, ◌∙◌, arith}
use borrow.Rule.Slice.PartMut.{put_mid}
use Rattle.std.proofs.lemmas.Grind.{common_steps}
use Rattle.block_model.specs.Block.{count_of, with_run}
use Rattle.block_model.proofs.Changes.{count-with_run, count-take-le, count-replicate_true}
use Rattle.block_model.proofs.run.insert_run.Goals as goal

pub returns-clause-added : goal.returns-clause-added
returns-clause-added c =
    let same : c.args.first + c.args.n - c.args.first ≡ c.args.n = omega arith in
    let written : put_mid c.args.first (c.args.first + c.args.n - c.args.first) c.args.pages.now c.fill.new.self
    ≡ with_run c.args.pages.now c.args.first c.args.n true = grind (arith, common_steps) in
    let before : c.count_pages-present.result ≡ count_of (take c.args.n (drop c.args.first c.args.pages.now)) =
    c.count_pages-present.ensures ∙ ap (λ (k : ℕ). count_of (take k (drop c.args.first c.args.pages.now)))
    same in
    omega (
      arith,
      ap count_of written,
      count-with_run c.args.pages.now c.args.first c.args.n true c.requires,
      count-replicate_true c.args.n,
      count-take-le c.args.n (drop c.args.first c.args.pages.now),
    )
