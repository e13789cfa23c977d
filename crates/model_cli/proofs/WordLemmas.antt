-- The words of a store's numbers.
use Rattle.std.proofs.Common.{◌≡◌, ℕ, zero, suc, ◌^◌, ◌<◌, ◌≤◌, List, [], ◌∷◌, Some, None, length, get_or, map}
use Rattle.std.proofs.Common.{decimal, refl, sym, ap, ◌∙◌, inl, inr, arith}
use Rattle.std.proofs.lemmas.Fmt.{decimal_injective}
use Rattle.std.proofs.lemmas.Bool.{cases_lt}
use Rattle.std.proofs.Math.Pow.{pow_mono}
use Rattle.geometry_model.specs.Numbers.{Numbers, IsInRange}
use Rattle.geometry_model.proofs.NumberLaws.{page_size-high, order-high}
use Rattle.script_text.specs.Words.{number_of}
use Rattle.script_text.proofs.NumberLemmas.{number_of-decimal, number_of-some}
use Rattle.model_cli.specs.Words.{number_words}

pub pages-high : (k : ℕ) → k ≤ 16 → 2 ^ k ≤ 65536
pages-high k h = pow_mono h

-- a word that is no number spells none
no-number : (word : List ℕ) (k : ℕ) → number_of word ≡ None → k < 2 ^ 64 → word ≡ decimal k → ⊥
no-number word k none small same = let some : number_of word ≡ Some k = ap number_of same ∙ number_of-decimal k small in cc

-- where a number stands in the words of a store
word-at : (words : List (List ℕ)) (n : Numbers) (k : ℕ) → words ≡ number_words n → get_or words k [] ≡ get_or (number_words n) k []
word-at words n k same = ap (λ (ws : List (List ℕ)). get_or ws k []) same

-- the words of a store are numbers, each below 2^64
pub no-page : (words : List (List ℕ)) → number_of (get_or words 0 []) ≡ None → (n : Numbers) → IsInRange n → words ≡ number_words n → ⊥
no-page words none n h same =
    no-number (get_or words 0 []) n.page none (omega (arith, page_size-high n.page h.page_size)) (word-at words n 0 same)

pub no-order : (words : List (List ℕ)) → number_of (get_or words 1 []) ≡ None → (n : Numbers) → IsInRange n → words ≡ number_words n → ⊥
no-order words none n h same =
    no-number (get_or words 1 []) n.order none (omega (arith, order-high n h)) (word-at words n 1 same)

pub no-spaces : (words : List (List ℕ)) → number_of (get_or words 2 []) ≡ None → (n : Numbers) → IsInRange n → words ≡ number_words n → ⊥
no-spaces words none n h same =
    no-number (get_or words 2 []) n.spaces none (omega (arith, h.spaces_high)) (word-at words n 2 same)

pub no-catalog : (words : List (List ℕ)) → number_of (get_or words 3 []) ≡ None → (n : Numbers) → IsInRange n → words ≡ number_words n → ⊥
no-catalog words none n h same =
    no-number (get_or words 3 []) n.catalog none (omega (arith, h.catalog_high)) (word-at words n 3 same)

threshold-high : (n : Numbers) → IsInRange n → n.threshold < 2 ^ 64
threshold-high n h = omega (arith, h.threshold_high, h.order_high, page_size-high n.page h.page_size)

pub no-threshold : (words : List (List ℕ)) → number_of (get_or words 4 []) ≡ None → (n : Numbers) → IsInRange n → words ≡ number_words n → ⊥
no-threshold words none n h same =
    no-number (get_or words 4 []) n.threshold none (threshold-high n h) (word-at words n 4 same)

-- an order above the greatest one is of no store
pub great-order : (words : List (List ℕ)) (k : ℕ) → number_of (get_or words 1 []) ≡ Some k → 16 < k →
    (n : Numbers) → IsInRange n → words ≡ number_words n → ⊥
great-order words k some great n h same =
    let here : number_of (get_or words 1 []) ≡ Some n.order = ap number_of (word-at words n 1 same)
    ∙ number_of-decimal n.order (omega (arith, order-high n h)) in
    let is : Some k ≡ Some n.order = sym some ∙ here in
    let order : k ≡ n.order = cc in
    omega (arith, great, order, order-high n h)

-- five numbers are spelled by their words
pub five-words : (a b c d e : List ℕ) (n : Numbers) → number_of a ≡ Some n.page → number_of b ≡ Some n.order →
    number_of c ≡ Some n.spaces → number_of d ≡ Some n.catalog → number_of e ≡ Some n.threshold →
    a ∷ b ∷ c ∷ d ∷ e ∷ [] ≡ number_words n
five-words a b c d e n page order spaces catalog threshold =
    rw (
      ← (number_of-some a n.page page).1,
      ← (number_of-some b n.order order).1,
      ← (number_of-some c n.spaces spaces).1,
      ← (number_of-some d n.catalog catalog).1,
      ← (number_of-some e n.threshold threshold).1,
    ) refl

-- ---- words as strings

-- the text of the word at a place
pub text-at : {A : Type 0} (f : A → List ℕ) (words : List A) (k : ℕ) (w : A) (text : List ℕ) → text ≡ f w →
    w ≡ get_or words k w → k < length words → get_or (map f words) k [] ≡ text
text-at f [] k w text is at within = absurd (omega (arith, within))
text-at f (v ∷ words) zero w text is at within = ap f (sym at) ∙ sym is
text-at f (v ∷ words) (suc k) w text is at within = text-at f words k w text is at (omega (arith, within))

-- five words, one by one
pub five-texts : {A : Type 0} (f : A → List ℕ) (words : List A) → 5 ≤ length words → length words < 6 →
    map f words ≡ get_or (map f words) 0 [] ∷ get_or (map f words) 1 [] ∷ get_or (map f words) 2 []
    ∷ get_or (map f words) 3 [] ∷ get_or (map f words) 4 [] ∷ []
five-texts f [] low high = absurd (omega (arith, low))
five-texts f (a ∷ []) low high = absurd (omega (arith, low))
five-texts f (a ∷ b ∷ []) low high = absurd (omega (arith, low))
five-texts f (a ∷ b ∷ c ∷ []) low high = absurd (omega (arith, low))
five-texts f (a ∷ b ∷ c ∷ d ∷ []) low high = absurd (omega (arith, low))
five-texts f (a ∷ b ∷ c ∷ d ∷ e ∷ []) low high = refl
five-texts f (a ∷ b ∷ c ∷ d ∷ e ∷ g ∷ words) low high = absurd (omega (arith, high))

-- numbers that are spelled as those of a store are its numbers
pub same-words : (m n : Numbers) → m.page < 2 ^ 64 → m.order < 2 ^ 64 → m.spaces < 2 ^ 64 → m.catalog < 2 ^ 64 →
    m.threshold < 2 ^ 64 → IsInRange n → number_words m ≡ number_words n → IsInRange m
same-words m n page_fits order_fits spaces_fits catalog_fits threshold_fits h same =
    let page : m.page ≡ n.page = decimal_injective m.page n.page page_fits (omega (
      arith,
      page_size-high n.page h.page_size,
    )) (word-at (number_words m) n 0 same) in
    let order : m.order ≡ n.order = decimal_injective m.order n.order order_fits (omega (arith, order-high n h))
    (word-at (number_words m) n 1 same) in
    let spaces : m.spaces ≡ n.spaces = decimal_injective m.spaces n.spaces spaces_fits (omega (
      arith,
      h.spaces_high,
    )) (word-at (number_words m) n 2 same) in
    let catalog : m.catalog ≡ n.catalog = decimal_injective m.catalog n.catalog catalog_fits (omega (
      arith,
      h.catalog_high,
    )) (word-at (number_words m) n 3 same) in
    let threshold : m.threshold ≡ n.threshold =
    decimal_injective m.threshold n.threshold threshold_fits (threshold-high n h)
    (word-at (number_words m) n 4 same) in
    record {
      page_size = rw page h.page_size;
      order_low = omega (arith, order, h.order_low);
      order_high = rw (order, page) h.order_high;
      spaces_low = omega (arith, spaces, h.spaces_low);
      spaces_high = omega (arith, spaces, h.spaces_high);
      catalog_low = omega (arith, catalog, h.catalog_low);
      catalog_high = omega (arith, catalog, h.catalog_high);
      threshold_low = omega (arith, threshold, h.threshold_low);
      threshold_high = rw (order, threshold) h.threshold_high;
    }
