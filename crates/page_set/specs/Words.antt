-- How a set of pages is kept and seen: 64 adjacent pages a word, the first of them its lowest bit,
-- by the words' numbers. A word that isn't there has no page.
use Rattle.std.specs.Prelude.{ℕ, ◌/◌, ◌%◌, Bool, List, Option, nat_eq, unwrap_or, is_some}
use Rattle.std.specs.Int.{bit_at}
use Rattle.std.specs.Map.{lookup}
use Rattle.std.specs.Ordering.{nat_cmp}
use Rattle.std.specs.BTreeMap.{BTreeMap, get, is_at}

-- whether a bit of a word is set
abbrev pub is_bit : ℕ → ℕ → Bool
is_bit word i = nat_eq (bit_at word i) 1

-- the word of a number, 0 where there is none
abbrev pub word : BTreeMap ℕ ℕ → ℕ → ℕ
word words key = unwrap_or (get nat_cmp words key) 0

-- whether there is a word of this number
abbrev pub has_word : BTreeMap ℕ ℕ → ℕ → Bool
has_word words key = is_some (get nat_cmp words key)

-- whether a page is in the set
abbrev pub in_words : BTreeMap ℕ ℕ → ℕ → Bool
in_words words page = is_bit (word words (page / 64)) (page % 64)

-- whether the page has its word
abbrev pub has_room : BTreeMap ℕ ℕ → ℕ → Bool
has_room words page = has_word words (page / 64)

-- how a set is seen: its words by their numbers, and how many pages are in it
pub record PageSetView : Type 0 where
  pub words : List (ℕ × ℕ)
  pub size : ℕ

-- the word of a page, if it is there
abbrev pub word_of_page : PageSetView → ℕ → Option ℕ
word_of_page set page = lookup (is_at (nat_cmp (page / 64))) set.words

-- whether a page is in the set
abbrev pub in_set : PageSetView → ℕ → Bool
in_set set page = is_bit (unwrap_or (word_of_page set page) 0) (page % 64)

-- whether a page can be put in without memory
abbrev pub room_in : PageSetView → ℕ → Bool
room_in set page = is_some (word_of_page set page)
