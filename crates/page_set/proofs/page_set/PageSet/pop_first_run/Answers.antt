-- The lowest page, and those behind it that stand side by side.
use Rattle.std.proofs.Common.{◌≡◌, ℕ, ◌+◌, ◌-◌, ◌^◌, ◌<◌, ◌≤◌, Bool, sym, ap, ◌∙◌, arith}
use Rattle.page_set.specs.Members.{AllOn, AreSame, IsWithoutRun, count_all}
use Rattle.page_set.specs.Words.{PageSetView, in_words}
use Rattle.page_set.proofs.Counts.{count_on-all}
use Rattle.page_set.proofs.SetLaws.{IsBounded, bounded_cut, bounded_same, counted_cut}
use Rattle.page_set.proofs.page_set.PageSet.pop_first_run.Goals as goal

-- the set of `size` pages after its first n came out
record IsPopped (new : ℕ → Bool) (first n size : ℕ) : Type 0 where
  bound : IsBounded new
  within : first + n < 2 ^ 32
  counted : count_all new + n ≡ size

-- `mid` is the set after the empty words before its first page went
popped : (old mid new : ℕ → Bool) (first n size : ℕ) → AreSame old mid → IsBounded old → size ≡ count_all old → 1 ≤ n →
    AllOn mid first n → IsWithoutRun first n mid new → IsPopped new first n size
popped old mid new first n size same bound sized some all cut =
    let all' : AllOn old first n = λ page low high. sym (same page) ∙ all page low high in
    let cut' : IsWithoutRun first n old new = record { inside = cut.inside; beside = λ page out. cut.beside page out ∙ same page } in
    let fits : first + n < 2 ^ 32 = omega (arith, bound (first + n - 1) (all' (first + n - 1) (omega arith) (omega arith))) in record {
      bound = bounded_cut old new first n cut' bound;
      within = fits;
      counted = omega (arith, sized, count_on-all old first n all', counted_cut old new first n fits cut');
    }

pub cut_first_run-pages-requires : goal.cut_first_run-pages-requires
cut_first_run-pages-requires c = record {
  bound = bounded_same (in_words c.self.inside.words) (in_words c.first_page.new.words) c.first_page.ensures.same c.self.invariant.1;
  some = c.first_page.ensures.same c.in-Some.first ∙ c.in-Some.ensures.found;
}

popped_at : (c : goal.After-cut_first_run-pages) →
    IsPopped (in_words c.cut_first_run-pages.new.words) c.in-Some.first c.cut_first_run-pages.result c.self.inside.size
popped_at c =
    popped (in_words c.self.inside.words) (in_words c.first_page.new.words) (in_words c.cut_first_run-pages.new.words)
    c.in-Some.first c.cut_first_run-pages.result c.self.inside.size c.first_page.ensures.same c.self.invariant.1
    c.self.invariant.0 c.cut_first_run-pages.ensures.some c.cut_first_run-pages.ensures.all c.cut_first_run-pages.ensures.cut

pub overflow_sub-self : goal.overflow_sub-self
overflow_sub-self c = omega (arith, (popped_at c).counted)

pub invariant_of-self-2 : goal.invariant_of-self-2
invariant_of-self-2 c = let p = popped_at c.before in (omega (arith, p.counted), p.bound)

pub returns-clause-size : goal.returns-clause-size
returns-clause-size c = omega (arith, (popped_at c.before).counted, ap (λ (v : PageSetView). v.size) c.self.view_is)

pub returns-clause-within : goal.returns-clause-within
returns-clause-within c = (popped_at c.before).within
