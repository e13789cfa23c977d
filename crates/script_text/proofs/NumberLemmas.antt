-- A word is read as the number whose digits it is.
use Rattle.std.proofs.Common.{◌≡◌, ℕ, zero, suc, ◌^◌, ◌<◌, ◌≤◌, ◌&&◌, nat_lt, true, List, length, get_or, Some}
use Rattle.std.proofs.Common.{None, Result, Ok, Err, decimal, refl, sym, ◌∙◌, ap, arith}
use Rattle.std.specs.Int.{IsInRange}
use Rattle.std.specs.Result.{result_ok}
use Rattle.std.specs.Str.{bytes_eq, IsUtf8}
use Rattle.std.specs.Str.Parse.{AllDigits, ParsesUnsigned, digits_value}
use Rattle.std.proofs.lemmas.Bool.{and_parts}
use Rattle.std.proofs.lemmas.Bool.Decides.{Decides-ltb}
use Rattle.std.proofs.lemmas.Fmt.{IsAscii-decimal, decimal-digits_value, decimal_digit, decimal_is_IsNumeral}
use Rattle.std.proofs.lemmas.Fmt.{decimal_nonempty, first_decimal, parse-decimal}
use Rattle.std.proofs.lemmas.Slice.Eq.{bytes_eq-Decides}
use Rattle.std.proofs.lemmas.Str.{IsUtf8-from_ascii}
use Rattle.std.proofs.lemmas.Str.Parse.{IsNumeralModel, digit_at, numerals_by_value, parse_plain, tells_digits}
use Rattle.script_text.specs.Words.{number_of}
use Rattle.base_laws.proofs.OptionLaws.{some-inner}
use Rattle.script_text.proofs.Choices.{if-some, none-from}

own : IsNumeralModel (AllDigits 10) (digits_value 10)
own = numerals_by_value (AllDigits 10) tells_digits

-- the number that a word is read as is one whose digits it is
pub number_of-some : (word : List ℕ) (n : ℕ) → number_of word ≡ Some n → (n < 2 ^ 64) × (word ≡ decimal n)
unfolding number_of
number_of-some word n h =
    let found = if-some (bytes_eq (decimal (digits_value 10 word)) word && nat_lt (digits_value 10 word) (2 ^ 64))
    (Some (digits_value 10 word)) n h in
    let parts = and_parts (bytes_eq (decimal (digits_value 10 word)) word) (nat_lt (digits_value 10 word) (2 ^ 64)) found.0 in
    let same : digits_value 10 word ≡ n = some-inner (digits_value 10 word) n found.1 in
    let small : digits_value 10 word < 2 ^ 64 = (Decides-ltb (digits_value 10 word) (2 ^ 64)).0 parts.1 in
    let text : decimal (digits_value 10 word) ≡ word = (bytes_eq-Decides (decimal (digits_value 10 word)) word).0 parts.0 in
    (rw (← same) small, sym text ∙ ap decimal same)

-- where a word has the digits of its value, it is read as that
pub number_of-value : (word : List ℕ) → digits_value 10 word < 2 ^ 64 → decimal (digits_value 10 word) ≡ word →
    number_of word ≡ Some (digits_value 10 word)
unfolding number_of
number_of-value word small text =
    let a : bytes_eq (decimal (digits_value 10 word)) word ≡ true = (bytes_eq-Decides (decimal (digits_value 10 word)) word).1 text in
    let b : nat_lt (digits_value 10 word) (2 ^ 64) ≡ true = (Decides-ltb (digits_value 10 word) (2 ^ 64)).1 small in
    rw (a, b) refl

-- the digits of a number are read as that number
pub number_of-decimal : (n : ℕ) → n < 2 ^ 64 → number_of (decimal n) ≡ Some n
number_of-decimal n h =
    let value : digits_value 10 (decimal n) ≡ n = (decimal_is_IsNumeral n h).1 in
    let small : digits_value 10 (decimal n) < 2 ^ 64 = rw value h in
    number_of-value (decimal n) small (ap decimal value) ∙ ap Some value

-- a word that is no number's digits is read as none
pub number_of-none : (word : List ℕ) → ((n : ℕ) → n < 2 ^ 64 → word ≡ decimal n → ⊥) → number_of word ≡ None
number_of-none word never =
    none-from (number_of word) (λ (n : ℕ) (h : number_of word ≡ Some n). let found = number_of-some word n h in never n found.0 found.1)

-- no number has no digits
pub number_of-empty : (word : List ℕ) → length word ≡ 0 → number_of word ≡ None
number_of-empty word e = number_of-none word (λ n h same. omega (arith, decimal_nonempty n h, ap length same))

-- the first byte of a number is a digit
pub first-digit : (n : ℕ) → n < 2 ^ 64 → IsInRange 48 57 (get_or (decimal n) 0 0)
first-digit n h = digit_at (decimal n) 0 (decimal_is_IsNumeral n h).0.1 (decimal_nonempty n h)

pub number_of-other : (word : List ℕ) → ¬ (IsInRange 48 57 (get_or word 0 0)) → number_of word ≡ None
number_of-other word never = number_of-none word (λ n h same. never (rw same (first-digit n h)))

-- only `0` begins with a zero
zero-alone : (n : ℕ) → n < 2 ^ 64 → get_or (decimal n) 0 0 ≡ 48 → length (decimal n) ≡ 1
zero-alone zero h e = ap length (decimal_digit 0 (omega arith))
zero-alone (suc n) h e = absurd (omega (arith, first_decimal (suc n) (omega arith) h))

pub number_of-zeros : (word : List ℕ) → get_or word 0 0 ≡ 48 → 1 < length word → number_of word ≡ None
number_of-zeros word e long =
    number_of-none word (λ n h same. let z : get_or (decimal n) 0 0 ≡ 48 = ap (λ (w : List ℕ). get_or w 0 0) (sym same) ∙ e in
    omega (arith, zero-alone n h z, ap length same))

-- a number is text
pub number_of-bytes : (word : List ℕ) → ¬ (IsUtf8 word) → number_of word ≡ None
number_of-bytes word never = number_of-none word (λ n h same. never (rw same (IsUtf8-from_ascii (decimal n) (IsAscii-decimal n h))))

-- what the library reads of a word without a sign and without leading zeros
pub number_of-parsed : {E : Type 0} (word : List ℕ) (r : Result ℕ E) → ParsesUnsigned 64 10 word r → IsInRange 48 57 (get_or word 0 0)
    → (get_or word 0 0 ≡ 48 → length word ≤ 1) → result_ok r ≡ number_of word
number_of-parsed {E} word (Ok v) h first zeros =
    let plain = parse_plain own {E = E} 64 word (Ok v) h (omega arith) in
    let text : decimal (digits_value 10 word) ≡ word =
    decimal-digits_value own word plain.0.0 plain.0.1 (λ z. let short = zeros z in omega (arith, plain.0.1)) plain.0.2 in
    ap Some plain.1 ∙ sym (number_of-value word plain.0.2 text)
number_of-parsed {E} word (Err e) h first zeros =
    sym (number_of-none word (λ n small same. let r = parse-decimal 64 n word (Err e) small small same h in cc r))
