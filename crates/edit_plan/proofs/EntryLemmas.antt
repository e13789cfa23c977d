-- The numbers of a store's entries fit their types, and so do those of the pieces that are cut from them.
use Rattle.std.proofs.Common.{◌≡◌, ℕ, ◌+◌, ◌-◌, ◌*◌, ◌^◌, ◌<◌, ◌≤◌, min, List, [], ◌∷◌, subst, sym, arith, inl, inr}
use Rattle.std.specs.List.{AllByRecursion}
use Rattle.std.proofs.lemmas.Nat.{mul-le}
use Rattle.base_laws.proofs.ListLaws.{all-map}
use Rattle.geometry_model.specs.Numbers.{Numbers, IsInRange, space_pages}
use Rattle.geometry_model.proofs.NumberLaws.{page_size-high, page_size-low, pages-high, space_pages-high, space_pages-low}
use Rattle.geometry_model.proofs.NumberLaws.{page-some}
use Rattle.tree_model.specs.declared.entry.Pair.{Pair}
use Rattle.tree_model.specs.Tree.{page_count}
use Rattle.tree_model.proofs.PageCountLaws.{count-behind, count-rises}
use Rattle.content_laws.proofs.SideLemmas.{lies}
use Rattle.content_laws.proofs.SideLemmas.Lies.{Behind, Before, Inside}
use Rattle.edit_parts.specs.declared.piece.Piece.{Piece}
use Rattle.edit_parts.specs.declared.piece.Piece.TheVariants.{Old, Given}
use Rattle.edit_parts.specs.Pieces.{IsFrom, LiesIn, LiesInOne, piece_bytes}
use Rattle.edit_plan.specs.Cuts.{IsNumbered}
use Rattle.edit_plan.specs.Planned.{IsEntry}
use Rattle.edit_plan.specs.Spots.{LiesInside, head_piece}
use Rattle.edit_plan.proofs.SpotLemmas.{head-from, head_piece-before, head_piece-behind, head_piece-inside}

-- a space has bytes, and fewer than 2^27
pub space-some : (n : Numbers) → IsInRange n → 0 < space_pages n * n.page
space-some n range =
    let rows : 16 * 256 ≤ space_pages n * n.page =
    mul-le 16 256 (space_pages n) n.page (space_pages-low n range) (page_size-low n.page range.page_size) in
    omega (arith, rows)

pub space-few : (n : Numbers) → IsInRange n → space_pages n * n.page ≤ 67108864
space-few n range =
    let rows : space_pages n * n.page ≤ 16384 * 4096 =
    mul-le (space_pages n) n.page 16384 4096 (space_pages-high n range) (page_size-high n.page range.page_size) in
    omega (arith, rows)

-- an entry has fewer than 2^32 bytes, and its pages have numbers of 32 bits
pub entry-few : (n : Numbers) (p : Pair) → IsInRange n → IsEntry n p → p.bytes < 2 ^ 32
entry-few n p range entry =
    let few = space-few n range in
    let most = entry.most in
    omega (arith, few, most)

pub entry-pages : (n : Numbers) (p : Pair) → IsInRange n → IsEntry n p → p.page + page_count n.page p.bytes ≤ 2 ^ 32
entry-pages n p range entry =
    let high = pages-high n range in
    let within = entry.within in
    omega (arith, high, within)

-- so a place inside it can be cut at
pub entry-inside : (n : Numbers) (p : Pair) (page inside : ℕ) → page ≡ n.page → IsInRange n → IsEntry n p → inside < p.bytes →
    LiesInside page inside p
entry-inside n p page inside same range entry within =
    let some = page-some n range in
    record {
      some = omega (arith, same, some);
      within = within;
      few = entry-few n p range entry;
      numbered = subst (λ (k : ℕ). p.page + page_count k p.bytes ≤ 2 ^ 32) (sym same) (entry-pages n p range entry);
    }

-- ---- pieces of entries

-- a run of bytes in an entry lies on its pages
lies-numbered : (n : Numbers) (p : Pair) (page skip bytes : ℕ) → IsInRange n → IsEntry n p → LiesIn n.page p page skip bytes →
    page + page_count n.page (skip + bytes) ≤ 2 ^ 32
lies-numbered n p page skip bytes range entry lies =
    let some = page-some n range in
    let high = entry-pages n p range entry in
    let first = lies.first in
    let split = count-behind n.page (page - p.page) (skip + bytes) some in
    let rise = count-rises n.page ((page - p.page) * n.page + (skip + bytes)) p.bytes some lies.last in
    omega (arith, high, first, split, rise)

one-numbered : (n : Numbers) (entries : List Pair) (page skip bytes : ℕ) → IsInRange n → AllByRecursion (IsEntry n) entries →
    LiesInOne n.page entries page skip bytes → page + page_count n.page (skip + bytes) ≤ 2 ^ 32
one-numbered n [] page skip bytes range all lies = absurd lies
one-numbered n (p ∷ ps) page skip bytes range all lies =
    elim lies [
      | inl here ↦ lies-numbered n p page skip bytes range all.0 here
      | inr behind ↦ one-numbered n ps page skip bytes range all.1 behind
    ]

piece-numbered : (n : Numbers) (entries : List Pair) (given : ℕ) (piece : Piece) → IsInRange n → AllByRecursion (IsEntry n) entries →
    given < 2 ^ 64 → IsFrom n.page entries given piece → IsNumbered n.page piece
piece-numbered n entries given (Old page skip bytes) range all few from = one-numbered n entries page skip bytes range all from
piece-numbered n entries given (Given place bytes) range all few from =
    let within : place + bytes ≤ given = from in
    omega (arith, within, few)

pub pieces-numbered : (n : Numbers) (entries : List Pair) (given : ℕ) (pieces : List Piece) → IsInRange n →
    AllByRecursion (IsEntry n) entries → given < 2 ^ 64 → AllByRecursion (IsFrom n.page entries given) pieces →
    AllByRecursion (IsNumbered n.page) pieces
pieces-numbered n entries given pieces range all few each =
    all-map (IsFrom n.page entries given) (IsNumbered n.page) (λ piece from. piece-numbered n entries given piece range all few from)
    pieces each

-- the head of what is kept behind a place has fewer than 2^32 bytes
pub head-few : (n : Numbers) (at : ℕ) (entries : List Pair) → IsInRange n → AllByRecursion (IsEntry n) entries →
    piece_bytes (head_piece n.page at entries) < 2 ^ 32
head-few n at [] range all = let none : 0 < 2 ^ 32 = omega arith in none
head-few n at (p ∷ ps) range all =
    let P : Piece → Type 0 = λ piece. piece_bytes piece < 2 ^ 32 in
    elim (lies at p) [
      | Behind h le ↦ subst P (sym (head_piece-behind n.page at p ps h)) (head-few n (at - p.bytes) ps range all.1)
      | Before h k none byte ↦ let none : 0 < 2 ^ 32 = omega arith in subst P (sym (head_piece-before n.page at p ps h k)) none
      | Inside h k byte less ↦
          let few = entry-few n p range all.0 in
          let cut : min (page_count n.page at * n.page) p.bytes - at < 2 ^ 32 = omega (arith, few) in
          subst P (sym (head_piece-inside n.page at p ps h k)) cut
    ]

-- and fits its numbers
pub head-numbered : (n : Numbers) (at : ℕ) (entries : List Pair) → IsInRange n → AllByRecursion (IsEntry n) entries →
    IsNumbered n.page (head_piece n.page at entries)
head-numbered n at entries range all =
    piece-numbered n entries 0 (head_piece n.page at entries) range all (omega arith) (head-from n.page 0 at entries (page-some n range))
