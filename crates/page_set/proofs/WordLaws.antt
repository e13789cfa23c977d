-- One word of a set: what its change does to the set, and its pages by its bits.
use Rattle.std.proofs.Common.{inl, inr, ◌≡◌, ℕ, ◌+◌, ◌*◌, ◌-◌, ◌/◌, ◌%◌, ◌<◌, ◌≤◌, Bool, true, false}
use Rattle.std.proofs.Common.{Option, Some, None, refl, sym, ap, ◌∙◌, arith}
use Rattle.std.proofs.lemmas.Bool.{false≢true, cases_Bool, cases_eq}
use Rattle.std.specs.Prelude.{IsTrue, ◌⊎◌, is_some, unwrap_or}
use Rattle.std.specs.Ordering.{nat_cmp}
use Rattle.std.specs.BTreeMap.{BTreeMap, get}
use Rattle.page_set.specs.Members.{count_on, AllOn, NoneOn, AreSame, IsWithRun, IsWithoutRun}
use Rattle.page_set.specs.Words.{is_bit, word, has_word, in_words}
use Rattle.page_set.proofs.Counts.{count_on-moved, count_on-none}
use Rattle.page_set.proofs.BitLaws.{no_bit}

some_there : (o : Option ℕ) (w : ℕ) → o ≡ Some w → is_some o ≡ true
some_there o w e = ap (λ (x : Option ℕ). is_some x) e

none_zero : (o : Option ℕ) → is_some o ≡ false → unwrap_or o 0 ≡ 0
none_zero None h = refl
none_zero (Some w) h = absurd (false≢true (sym h))

-- a word that isn't there has no page
pub word_missing : (words : BTreeMap ℕ ℕ) (key : ℕ) → is_some (get nat_cmp words key) ≡ false → word words key ≡ 0
word_missing words key h = none_zero (get nat_cmp words key) h

-- one word was written, and it was there
pub record IsWritten (old new : BTreeMap ℕ ℕ) (key w : ℕ) : Type 0 where
  pub there : IsTrue (has_word old key)
  pub written : get nat_cmp new key ≡ Some w
  pub others : (k : ℕ) → (k ≡ key → ⊥) → get nat_cmp new k ≡ get nat_cmp old k

pub same_room : (old new : BTreeMap ℕ ℕ) (key w : ℕ) → IsWritten old new key w → AreSame (has_word old) (has_word new)
same_room old new key w h k = elim (cases_eq k key) [
  | inl e ↦ some_there (get nat_cmp new k) w (ap (λ (j : ℕ). get nat_cmp new j) e ∙ h.written)
      ∙ sym (ap (λ (j : ℕ). has_word old j) e ∙ h.there)
  | inr ne ↦ ap (λ (o : Option ℕ). is_some o) (h.others k ne)
]

-- a page of the word that was written
here : (old new : BTreeMap ℕ ℕ) (key w page : ℕ) → IsWritten old new key w → page / 64 ≡ key → in_words new page ≡ is_bit w (page % 64)
here old new key w page h e =
    ap (λ (x : ℕ). is_bit x (page % 64)) (ap (λ (k : ℕ). word new k) e ∙ ap (λ (o : Option ℕ). unwrap_or o 0) h.written)

elsewhere : (old new : BTreeMap ℕ ℕ) (key w page : ℕ) → IsWritten old new key w → (page / 64 ≡ key → ⊥) →
    in_words new page ≡ in_words old page
elsewhere old new key w page h ne = ap (λ (o : Option ℕ). is_bit (unwrap_or o 0) (page % 64)) (h.others (page / 64) ne)

-- a page of the same word, by the word's bits
pub in_word : (words : BTreeMap ℕ ℕ) (key page : ℕ) → page / 64 ≡ key → in_words words page ≡ is_bit (word words key) (page % 64)
in_word words key page e = ap (λ (k : ℕ). is_bit (word words k) (page % 64)) e

aside : (first n page : ℕ) → first % 64 + n ≤ 64 → page / 64 ≡ first / 64 → (page < first) ⊎ (first + n ≤ page) →
    (page % 64 < first % 64) ⊎ (first % 64 + n ≤ page % 64)
aside first n page fits e (inl low) = inl (omega arith)
aside first n page fits e (inr high) = inr (omega arith)

beside : (old new : BTreeMap ℕ ℕ) (first n w page : ℕ) → first % 64 + n ≤ 64 → IsWritten old new (first / 64) w →
    ((i : ℕ) → (i < first % 64) ⊎ (first % 64 + n ≤ i) → is_bit w i ≡ is_bit (word old (first / 64)) i) →
    (page < first) ⊎ (first + n ≤ page) → in_words new page ≡ in_words old page
beside old new first n w page fits h same out = elim (cases_eq (page / 64) (first / 64)) [
  | inl e ↦ here old new (first / 64) w page h e ∙ same (page % 64) (aside first n page fits e out)
      ∙ sym (in_word old (first / 64) page e)
  | inr ne ↦ elsewhere old new (first / 64) w page h ne
]

pub put_by : (old new : BTreeMap ℕ ℕ) (first n w : ℕ) → first % 64 + n ≤ 64 → IsWritten old new (first / 64) w →
    IsWithRun (first % 64) n (is_bit (word old (first / 64))) (is_bit w) → IsWithRun first n (in_words old) (in_words new)
put_by old new first n w fits h put = record {
  inside = λ page low high. here old new (first / 64) w page h (omega arith) ∙ put.inside (page % 64) (omega arith) (omega arith);
  beside = λ page out. beside old new first n w page fits h put.beside out;
}

pub cut_by : (old new : BTreeMap ℕ ℕ) (first n w : ℕ) → first % 64 + n ≤ 64 → IsWritten old new (first / 64) w →
    IsWithoutRun (first % 64) n (is_bit (word old (first / 64))) (is_bit w) → IsWithoutRun first n (in_words old) (in_words new)
cut_by old new first n w fits h cut = record {
  inside = λ page low high. here old new (first / 64) w page h (omega arith) ∙ cut.inside (page % 64) (omega arith) (omega arith);
  beside = λ page out. beside old new first n w page fits h cut.beside out;
}

-- the pages of a run within a word, by the word's bits
pub by_bits : (words : BTreeMap ℕ ℕ) (first n page : ℕ) → first % 64 + n ≤ 64 → first ≤ page → page < first + n →
    in_words words page ≡ is_bit (word words (first / 64)) (first % 64 + (page - first))
by_bits words first n page fits low high =
    in_word words (first / 64) page (omega arith)
    ∙ ap (λ (i : ℕ). is_bit (word words (first / 64)) i)
    (let e : page % 64 ≡ first % 64 + (page - first) = omega arith in e)

pub counted_in_word : (words : BTreeMap ℕ ℕ) (first n : ℕ) → first % 64 + n ≤ 64 →
    count_on (is_bit (word words (first / 64))) (first % 64) n ≡ count_on (in_words words) first n
counted_in_word words first n fits =
    count_on-moved (is_bit (word words (first / 64))) (in_words words) (first % 64) first n (λ i less.
    ap (λ (j : ℕ). is_bit (word words (first / 64)) (first % 64 + j)) (let e : i ≡ (first + i) - first = omega arith in e)
    ∙ sym (by_bits words first n (first + i) fits (omega arith) (omega arith)))

pub all_in_word : (words : BTreeMap ℕ ℕ) (first n : ℕ) → first % 64 + n ≤ 64 →
    AllOn (is_bit (word words (first / 64))) (first % 64) n → AllOn (in_words words) first n
all_in_word words first n fits all page low high =
    by_bits words first n page fits low high ∙ all (first % 64 + (page - first)) (omega arith) (omega arith)

-- the page of a bit that is set in a word of the set
pub page_at : (words : BTreeMap ℕ ℕ) (key w bit : ℕ) → get nat_cmp words key ≡ Some w → bit < 64 →
    IsTrue (is_bit w bit) → IsTrue (in_words words (64 * key + bit))
page_at words key w bit found less t =
    let k : (64 * key + bit) / 64 ≡ key = omega arith in
    let i : (64 * key + bit) % 64 ≡ bit = omega arith in
    ap (λ (x : ℕ). is_bit (word words x) ((64 * key + bit) % 64)) k ∙ ap (λ (j : ℕ). is_bit (word words key) j) i
    ∙ ap (λ (o : Option ℕ). is_bit (unwrap_or o 0) bit) found ∙ t

pub nothing_taken : (f : ℕ → Bool) (first n : ℕ) → NoneOn f first n → IsWithoutRun first n f f
nothing_taken f first n none = record { inside = none; beside = λ page out. refl }

-- a word with a page is there
pub there_by_count : (words : BTreeMap ℕ ℕ) (key first n : ℕ) → 1 ≤ count_on (is_bit (word words key)) first n → has_word words key ≡ true
there_by_count words key first n some = elim (cases_Bool (has_word words key)) [
  | inl h ↦ h
  | inr h ↦ absurd (omega (
    arith,
    some,
    count_on-none (is_bit (word words key)) first n
        (λ i low high. ap (λ (w : ℕ). is_bit w i) (word_missing words key h) ∙ no_bit i),
  ))
]
