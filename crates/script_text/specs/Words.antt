-- A line as words, and a word as a number.
use Rattle.std.specs.Prelude.{ℕ, ◌^◌, ◌==◌, ◌&&◌, nat_lt, Bool, List, [], ◌∷◌, Option, Some, None}
use Rattle.std.specs.Prelude.{decimal, if◌then◌else◌}
use Rattle.std.specs.List.{slice_split}
use Rattle.std.specs.Str.{bytes_eq}
use Rattle.std.specs.Str.Parse.{digits_value}

abbrev pub is_space : ℕ → Bool
is_space byte = byte == 32

-- the words of a text: what stands between its spaces, so a text without one is one word
abbrev pub words : List ℕ → List (List ℕ)
words text = slice_split is_space text

-- the words of a text that may be over
abbrev pub words_left : Option (List ℕ) → List (List ℕ)
words_left None = []
words_left (Some text) = words text

-- the number below 2^64 that a word is the decimal digits of, without a leading zero
unfoldable pub number_of : List ℕ → Option ℕ
number_of word =
    if bytes_eq (decimal (digits_value 10 word)) word && nat_lt (digits_value 10 word) (2 ^ 64)
    then Some (digits_value 10 word) else None

-- the number that the first word is
abbrev pub first_number : List (List ℕ) → Option ℕ
first_number [] = None
first_number (word ∷ words) = number_of word

-- a value, where no word is left
abbrev pub if_last : {T : Type 0} → List (List ℕ) → T → Option T
if_last [] x = Some x
if_last (word ∷ words) x = None
