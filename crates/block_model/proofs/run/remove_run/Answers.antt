-- The run's pages that were in the set are counted before all of them are written.
use Rattle.std.proofs.Common.{◌≡◌, ℕ, ◌+◌, ◌-◌, false, take, drop, ap, ◌∙◌, arith}
use borrow.Rule.Slice.PartMut.{put_mid}
use Rattle.std.proofs.lemmas.Grind.{common_steps}
use Rattle.block_model.specs.Block.{count_of, with_run}
use Rattle.block_model.proofs.Changes.{count-with_run, count-replicate_false}
use Rattle.block_model.proofs.run.remove_run.Goals as goal

pub returns-clause-removed : goal.returns-clause-removed
returns-clause-removed c =
    let same : c.args.first + c.args.n - c.args.first ≡ c.args.n = omega arith in
    let written : put_mid c.args.first (c.args.first + c.args.n - c.args.first) c.args.pages.now c.fill.new.self
    ≡ with_run c.args.pages.now c.args.first c.args.n false = grind (arith, common_steps) in
    let before : c.count_pages-present.result ≡ count_of (take c.args.n (drop c.args.first c.args.pages.now)) =
    c.count_pages-present.ensures ∙ ap (λ (k : ℕ). count_of (take k (drop c.args.first c.args.pages.now)))
    same in
    omega (
      arith,
      ap count_of written,
      count-with_run c.args.pages.now c.args.first c.args.n false c.requires,
      count-replicate_false c.args.n,
    )
