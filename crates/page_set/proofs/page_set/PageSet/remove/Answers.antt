-- The pages that were there are counted off.
use Rattle.std.proofs.Common.{◌≡◌, Bool, ℕ, ◌+◌, ◌/◌, ap, subst, ◌∙◌, arith}
use Rattle.page_set.specs.Members.{IsWithoutRun, count_on, count_all}
use Rattle.page_set.specs.Words.{PageSetView, in_set, in_words, room_in}
use Rattle.page_set.proofs.SetLaws.{IsBounded, bounded_cut, counted_cut}
use Rattle.page_set.proofs.page_set.PageSet.remove.Goals as goal

-- the set after a run was taken out
record IsShrunk (new : ℕ → Bool) (size removed : ℕ) : Type 0 where
  bound : IsBounded new
  counted : count_all new + removed ≡ size

shrunk_at : (c : goal.After-cut_run) →
    IsShrunk (in_words c.cut_run.new.words) c.self.inside.size c.cut_run.result
shrunk_at c =
    let old = in_words c.self.inside.words in
    let new = in_words c.cut_run.new.words in record {
      bound = bounded_cut old new c.args.first c.args.pages c.cut_run.ensures.cut c.self.invariant.1;
      counted = omega (
        arith,
        c.self.invariant.0,
        c.cut_run.ensures.size,
        counted_cut old new c.args.first c.args.pages c.requires c.cut_run.ensures.cut,
      );
    }

pub overflow_sub-self : goal.overflow_sub-self
overflow_sub-self c = omega (arith, (shrunk_at c).counted)

pub invariant_of-self : goal.invariant_of-self
invariant_of-self c = let s = shrunk_at c.before in (omega (arith, s.counted), s.bound)

pub returns-clause-removed : goal.returns-clause-removed
returns-clause-removed c =
    subst (λ (v : PageSetView). IsWithoutRun c.args.first c.args.pages (in_set v)
    (in_words c.cut_run.new.words)) c.self.view_is c.cut_run.ensures.cut

pub returns-clause-size : goal.returns-clause-size
returns-clause-size c =
    omega (
      arith,
      (shrunk_at c.before).counted,
      c.cut_run.ensures.size,
      ap (λ (v : PageSetView). v.size) c.self.view_is,
      ap (λ (v : PageSetView). count_on (in_set v) c.args.first c.args.pages) c.self.view_is,
    )

pub returns-clause-keeps : goal.returns-clause-keeps
returns-clause-keeps c page t = c.cut_run.ensures.room (page / 64) ∙ ap (λ (v : PageSetView). room_in v page) c.self.view_is ∙ t
