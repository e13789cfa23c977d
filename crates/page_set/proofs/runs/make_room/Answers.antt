-- A word for each 64 pages that the run touches.
use Rattle.std.proofs.Common.{inl, inr, ◌≡◌, ℕ, ◌+◌, ◌-◌, ◌/◌, ◌*◌, ◌<◌, ◌≤◌, max, refl, sym, ap, ◌∙◌, arith}
use Rattle.std.proofs.lemmas.Bool.{false≢true, cases_eq}
use Rattle.page_set.specs.Words.{has_word}
use Rattle.page_set.proofs.runs.make_room.Goals as goal

pub loop-key-init : goal.loop-key-init
loop-key-init c = record { there = λ k low high. absurd (omega arith); same = λ k. refl; keeps = λ k t. t }

pub loop-key-preserved : goal.loop-key-preserved
loop-key-preserved c =
    let kept = c.loop-key.invariant in record {
      there = λ k low high. elim (cases_eq k c.loop-key.key) [
        | inl e ↦ ap (λ (j : ℕ). has_word c.make_word.new.words j) e ∙ c.in_ok-make_word.ensures.there
        | inr ne ↦ c.in_ok-make_word.ensures.keeps k (kept.there k low (omega (arith, ne)))
      ];
      same = λ k. c.in_ok-make_word.ensures.same k ∙ kept.same k;
      keeps = λ k t. c.in_ok-make_word.ensures.keeps k (kept.keeps k t);
    }

-- a page of the run that lies in a word
record LiesIn (first n key page : ℕ) : Type 0 where
  key_of : page / 64 ≡ key
  from : first ≤ page
  to : page < first + n

-- each word that the loop makes has a page of the run
page_of : (first n key : ℕ) → 1 ≤ n → first / 64 ≤ key → key < (first + n - 1) / 64 + 1 → LiesIn first n key (max first (64 * key))
page_of first n key some from to = record { key_of = omega arith; from = omega arith; to = omega arith }

pub returns-in_err-make_word-clause-enough : goal.returns-in_err-make_word-clause-enough
returns-in_err-make_word-clause-enough c all =
    let kept = c.loop-key.invariant in
    let page = max c.args.first (64 * c.loop-key.key) in
    let lies : LiesIn c.args.first c.args.n c.loop-key.key page =
    page_of c.args.first c.args.n c.loop-key.key (omega arith) (omega arith) (omega arith) in
    let there = ap (λ (k : ℕ). has_word c.args.words.now k) (sym lies.key_of) ∙ all page lies.from lies.to in
    absurd (false≢true (c.in_err-make_word.ensures.enough (kept.keeps c.loop-key.key there)))
