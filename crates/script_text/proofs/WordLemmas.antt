-- Words cut from a text, and put together again.
use Rattle.std.proofs.Common.{◌≡◌, ℕ, suc, ◌+◌, ◌<◌, ◌≤◌, ◌==◌, nat_lt, Bool, true, false, not, cond, inl, inr}
use Rattle.std.proofs.Common.{List, [], ◌∷◌, ◌++◌, length, take, drop, Option, Some, None, Bor, refl, sym, ◌∙◌, ap}
use Rattle.std.proofs.Common.{arith}
use Rattle.std.specs.Prelude.{is_some, position}
use Rattle.std.specs.List.{join_with_byte, list_all, onto_first, position_or_len, slice_split}
use Rattle.std.specs.Option.{option_copied}
use Rattle.std.proofs.lemmas.Bool.{and_parts, cases_lt, ne_eqb}
use Rattle.std.proofs.lemmas.Bool.Decides.{Decides-ltb}
use Rattle.std.proofs.lemmas.List.{drop-drop}
use Rattle.std.proofs.lemmas.List.Splits.{length-slice_split, slice_split_first}
use Rattle.script_text.specs.Words.{is_space, words, words_left}
use Rattle.base_laws.proofs.OptionLaws.{some-inner}
use Rattle.script_text.proofs.Choices.{if-some}

-- a text has a part
pub parts-some : (p : ℕ → Bool) (text : List ℕ) → length (slice_split p text) ≡ 0 → ⊥
parts-some p text h = omega (arith, length-slice_split p text)

pub words-some : (text : List ℕ) → (length (words text) == 0) ≡ false
words-some text = ne_eqb (length (words text)) 0 (parts-some is_space text)

-- whether words are left
pub words-over : (rest : Option (Bor (List ℕ))) (over : Bool) → is_some rest ≡ not over →
    over ≡ (length (words_left (option_copied rest)) == 0)
words-over None true h = refl
words-over None false h = cc
words-over (Some text) true h = cc
words-over (Some text) false h = sym (words-some text.now)

none-some : (n : ℕ) → Some n ≡ None → ⊥
none-some n h = cc

-- where a test is first passed
pub position-some : (p : ℕ → Bool) (text : List ℕ) (at : ℕ) → position p text ≡ Some at
    → (position_or_len p text ≡ at) × (position_or_len p text < length text)
position-some p text at h =
    let found = if-some (nat_lt (position_or_len p text) (length text)) (Some (position_or_len p text)) at h in
    (some-inner (position_or_len p text) at found.1, (Decides-ltb (position_or_len p text) (length text)).0 found.0)

-- a test that is never passed
pub position-none : (p : ℕ → Bool) (text : List ℕ) → position p text ≡ None → length text ≤ position_or_len p text
position-none p text h = elim (cases_lt (position_or_len p text) (length text)) [
  | inl within ↦ absurd (none-some (position_or_len p text) (rw ((Decides-ltb (position_or_len p text) (length text)).1 within) at h))
  | inr past ↦ past
]

-- a text in which nothing passes is one part
alone-step : (p : ℕ → Bool) (x : ℕ) (xs : List ℕ) (b : Bool) → suc (length xs) ≤ cond (not b) (1 + position_or_len p xs) 0
    → (length xs ≤ position_or_len p xs → slice_split p xs ≡ xs ∷ [])
    → cond b ([] ∷ slice_split p xs) (onto_first x (slice_split p xs)) ≡ (x ∷ xs) ∷ []
alone-step p x xs true h more = absurd (omega arith)
alone-step p x xs false h more = ap (onto_first x) (more (omega arith))

pub part-alone : (p : ℕ → Bool) (text : List ℕ) → length text ≤ position_or_len p text → slice_split p text ≡ text ∷ []
part-alone p [] h = refl
part-alone p (x ∷ xs) h = alone-step p x xs (p x) h (part-alone p xs)

pub words-alone : (text : List ℕ) → position is_space text ≡ None → words text ≡ text ∷ []
words-alone text h = part-alone is_space text (position-none is_space text h)

-- the first word ends at the first space
pub words-at : (text : List ℕ) (at : ℕ) → position is_space text ≡ Some at → words text ≡ take at text ∷ words (drop 1 (drop at text))
words-at text at h =
    let found = position-some is_space text at h in
    let split = slice_split_first is_space text 0 found.1 in
    let moved : drop 1 (drop at text) ≡ drop (at + 1) text = drop-drop 1 at text in
    rw (moved, ← found.0) split

-- a word without a space
abbrev pub is_clean : List ℕ → Bool
is_clean word = list_all (λ b. not (is_space b)) word

-- a word before a space is cut off
split-step : (x : ℕ) (w rest : List ℕ) (b : Bool) → not b ≡ true → slice_split is_space (w ++ 32 ∷ rest) ≡ w ∷ words rest
    → cond b ([] ∷ slice_split is_space (w ++ 32 ∷ rest)) (onto_first x (slice_split is_space (w ++ 32 ∷ rest))) ≡ (x ∷ w) ∷ words rest
split-step x w rest true h more = cc
split-step x w rest false h more = ap (onto_first x) more

pub words-cut : (w rest : List ℕ) → is_clean w ≡ true → words (w ++ 32 ∷ rest) ≡ w ∷ words rest
words-cut [] rest h = refl
words-cut (x ∷ w) rest h =
    let parts = and_parts (not (is_space x)) (is_clean w) h in
    split-step x w rest (is_space x) parts.0 (words-cut w rest parts.1)

-- a word without a space is one word
last-step : (x : ℕ) (w : List ℕ) (b : Bool) → not b ≡ true → slice_split is_space w ≡ w ∷ []
    → cond b ([] ∷ slice_split is_space w) (onto_first x (slice_split is_space w)) ≡ (x ∷ w) ∷ []
last-step x w true h more = cc
last-step x w false h more = ap (onto_first x) more

pub words-last : (w : List ℕ) → is_clean w ≡ true → words w ≡ w ∷ []
words-last [] h = refl
words-last (x ∷ w) h =
    let parts = and_parts (not (is_space x)) (is_clean w) h in
    last-step x w (is_space x) parts.0 (words-last w parts.1)

-- each word of a list is one without a space
abbrev pub AllClean : List (List ℕ) → Type 0
AllClean [] = Unit {0}
AllClean (w ∷ ws) = (is_clean w ≡ true) × AllClean ws

-- words that are joined by spaces are the words of what they make
pub words-joined : (w : List ℕ) (ws : List (List ℕ)) → AllClean (w ∷ ws) → words (join_with_byte 32 (w ∷ ws)) ≡ w ∷ ws
words-joined w [] h = words-last w h.0
words-joined w (v ∷ ws) h = words-cut w (join_with_byte 32 (v ∷ ws)) h.0 ∙ ap (λ (rest : List (List ℕ)). w ∷ rest) (words-joined v ws h.1)
