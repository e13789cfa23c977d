-- What the library reads of digits is the number; all else is no number.
use Rattle.std.proofs.Common.{arith, refl, sym, ◌∙◌, ◌≡◌, length, get_or, true, false, inl, inr}
use Rattle.std.proofs.lemmas.Bool.{cases_lt, eqb-true}
use Rattle.std.specs.Int.{IsInRange}
use Rattle.script_text.proofs.NumberLemmas.{number_of-bytes, number_of-empty, number_of-other, number_of-parsed, number_of-zeros}
use Rattle.script_text.proofs.number.read_number.Goals as goal

pub returns-then-is_empty : goal.returns-then-is_empty
returns-then-is_empty c = sym (number_of-empty c.args.word.now
    (eqb-true (length c.args.word.now) 0 (sym c.is_empty.ensures ∙ c.if-is_empty.true)))

pub returns-then-not-is_ascii_digit : goal.returns-then-not-is_ascii_digit
returns-then-not-is_ascii_digit c =
    let other = c.if-not-is_ascii_digit.ensures.cases in
    sym (number_of-other c.args.word.now (λ (d : IsInRange 48 57 (get_or c.args.word.now 0 0)). grind (arith, other)))

pub returns-then-has_leading_zero : goal.returns-then-has_leading_zero
returns-then-has_leading_zero c =
    let zeros = c.if-has_leading_zero.ensures.0 refl in
    sym (number_of-zeros c.args.word.now zeros.0 zeros.1)

pub returns-in_default : goal.returns-in_default
returns-in_default c = sym (number_of-bytes c.args.word.now c.in_default.ensures.cases.0)

pub returns : goal.returns
returns c =
    c.ok.ensures.value ∙ number_of-parsed c.args.word.now c.parse.result (rw c.in-Ok.ensures.cases.0 at c.parse.ensures.value.0)
    c.if-not-is_ascii_digit.ensures.cases
    (λ (zero : get_or c.args.word.now 0 0 ≡ 48). elim (cases_lt 1 (length c.args.word.now)) [
      | inl long ↦ let never : false ≡ true = c.if-has_leading_zero.ensures.1 (zero, long) in cc
      | inr short ↦ short
    ])
