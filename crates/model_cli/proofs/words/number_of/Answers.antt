-- What the library reads of digits is the number; all else is no number.
use Rattle.std.proofs.Common.{arith, ℕ, ◌≤◌, List, refl, sym, ap, subst, ◌∙◌, ◌≡◌, length, get_or, true, false, inl, inr}
use Rattle.std.proofs.lemmas.Bool.{cases_lt, eqb-true}
use Rattle.std.specs.Int.{IsInRange}
use Rattle.script_text.specs.Words.{number_of}
use Rattle.script_text.proofs.NumberLemmas.{number_of-empty, number_of-other, number_of-parsed, number_of-zeros}
use Rattle.model_cli.proofs.words.number_of.Goals as goal

pub returns-then-is_empty : goal.returns-then-is_empty
returns-then-is_empty c =
    sym (number_of-empty c.as_bytes-digits.result.now
    (eqb-true (length c.as_bytes-digits.result.now) 0 (sym c.is_empty.ensures ∙ c.if-is_empty.true)))
    ∙ ap number_of c.as_bytes-digits.ensures.value

pub returns-then-not-is_ascii_digit : goal.returns-then-not-is_ascii_digit
returns-then-not-is_ascii_digit c =
    let other = c.if-not-is_ascii_digit.ensures.cases in
    sym (number_of-other c.as_bytes-digits.result.now
    (λ (d : IsInRange 48 57 (get_or c.as_bytes-digits.result.now 0 0)). grind (arith, other)))
    ∙ ap number_of c.as_bytes-digits.ensures.value

pub returns-then-has_leading_zero : goal.returns-then-has_leading_zero
returns-then-has_leading_zero c =
    let zeros = c.if-has_leading_zero.ensures.0 refl in
    sym (number_of-zeros c.as_bytes-digits.result.now zeros.0 zeros.1) ∙ ap number_of c.as_bytes-digits.ensures.value

pub returns : goal.returns
returns c =
    let P : List ℕ → Type 0 = λ word. IsInRange 48 57 (get_or word 0 0) in
    c.ok.ensures.value
    ∙ number_of-parsed c.args.word.now c.parse.result c.parse.ensures.value.0
    (subst P c.as_bytes-digits.ensures.value c.if-not-is_ascii_digit.ensures.cases)
    (subst (λ (word : List ℕ). get_or word 0 0 ≡ 48 → length word ≤ 1) c.as_bytes-digits.ensures.value
    (λ (zero : get_or c.as_bytes-digits.result.now 0 0 ≡ 48). elim (cases_lt 1 (length c.as_bytes-digits.result.now)) [
      | inl long ↦ let never : false ≡ true = c.if-has_leading_zero.ensures.1 (zero, long) in cc
      | inr short ↦ short
    ]))
