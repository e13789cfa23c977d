-- Room first, and then the pages: those that weren't there are counted.
use Rattle.std.proofs.Common.{◌≡◌, ℕ, ◌+◌, ◌/◌, ◌^◌, ◌<◌, Bool, sym, ap, subst, ◌∙◌, arith}
use Rattle.std.proofs.lemmas.Bool.{false≢true}
use Rattle.page_set.specs.Members.{AllOn, AreSame, IsWithRun, count_on, count_all}
use Rattle.page_set.specs.Words.{PageSetView, has_room, in_set, in_words, room_in}
use Rattle.page_set.proofs.Counts.{count_all-same, count_all-small, count_on-same}
use Rattle.page_set.proofs.SetLaws.{IsBounded, bounded_same, bounded_put, counted_put}
use Rattle.page_set.proofs.page_set.PageSet.add.Goals as goal

-- the set after the run was put in, from the set before room was made
record IsGrown (old new : ℕ → Bool) (first n size added : ℕ) : Type 0 where
  put : IsWithRun first n old new
  bound : IsBounded new
  counted : size + added ≡ count_all new
  sum : size + added + count_on old first n ≡ size + n

grown : (old mid new : ℕ → Bool) (first n size added : ℕ) → first + n < 2 ^ 32 → AreSame old mid → IsBounded old →
    size ≡ count_all old → IsWithRun first n mid new → added + count_on mid first n ≡ n →
    IsGrown old new first n size added
grown old mid new first n size added fits same bound sized put count =
    let put' : IsWithRun first n old new = record { inside = put.inside; beside = λ page out. put.beside page out ∙ same page } in
    let alike : count_on mid first n ≡ count_on old first n = count_on-same old mid first n (λ page _ _. same page) in record {
      put = put';
      bound = bounded_put old new first n fits put' bound;
      counted = omega (arith, sized, count, alike, counted_put old new first n fits put');
      sum = omega (arith, count, alike);
    }

pub invariant_of-self : goal.invariant_of-self
invariant_of-self c =
    let old = in_words c.self.inside.words in
    let new = in_words c.make_room.new.words in (
      c.self.invariant.0 ∙ sym (count_all-same old new c.in_err-make_room.ensures.same),
      bounded_same old new c.in_err-make_room.ensures.same c.self.invariant.1,
    )

pub returns-in_err-make_room-clause-enough : goal.returns-in_err-make_room-clause-enough
returns-in_err-make_room-clause-enough c all =
    let room : AllOn (has_room c.self.inside.words) c.args.first c.args.pages =
    λ page low high. ap (λ (v : PageSetView). room_in v page) c.self.view_is ∙ all page low high in
    absurd (false≢true (c.in_err-make_room.ensures.enough room))

grown_at : (c : goal.After-put_run) →
    IsGrown (in_words c.self.inside.words) (in_words c.put_run.new.words) c.args.first c.args.pages c.self.inside.size c.put_run.result
grown_at c =
    grown (in_words c.self.inside.words) (in_words c.make_room.new.words) (in_words c.put_run.new.words) c.args.first
    c.args.pages c.self.inside.size c.put_run.result c.requires c.in_ok-make_room.ensures.same c.self.invariant.1
    c.self.invariant.0 c.put_run.ensures.put c.put_run.ensures.size

pub overflow_add-self : goal.overflow_add-self
overflow_add-self c =
    let g = grown_at c in
    omega (arith, g.counted, count_all-small (in_words c.put_run.new.words) g.bound)

pub invariant_of-self-2 : goal.invariant_of-self-2
invariant_of-self-2 c = let g = grown_at c.before in (g.counted, g.bound)

pub returns-clause-added : goal.returns-clause-added
returns-clause-added c =
    subst (λ (v : PageSetView). IsWithRun c.args.first c.args.pages (in_set v)
    (in_words c.put_run.new.words)) c.self.view_is (grown_at c.before).put

pub returns-clause-size : goal.returns-clause-size
returns-clause-size c =
    omega (
      arith,
      (grown_at c.before).sum,
      ap (λ (v : PageSetView). v.size) c.self.view_is,
      ap (λ (v : PageSetView). count_on (in_set v) c.args.first c.args.pages) c.self.view_is,
    )

pub returns-clause-keeps : goal.returns-clause-keeps
returns-clause-keeps c page t =
    c.put_run.ensures.room (page / 64) ∙ c.in_ok-make_room.ensures.keeps (page / 64)
    (ap (λ (v : PageSetView). room_in v page) c.self.view_is ∙ t)
