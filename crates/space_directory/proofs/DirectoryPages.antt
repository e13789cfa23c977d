-- Where the bitmap stands in a directory page, and that no other page tells of the same space.
use Rattle.std.proofs.Common.{◌≡◌, ℕ, ◌+◌, ◌-◌, ◌*◌, ◌/◌, ◌%◌, ◌^◌, ◌≤◌, Bool, List, length, take, drop, replicate}
use Rattle.std.proofs.Common.{sym, ap, ◌∙◌, arith, length-append, length-drop}
use Rattle.std.proofs.lemmas.Nat.{pow-add, one_shl}
use Rattle.std.proofs.lemmas.List.{take_at, length-take, length-replicate}
use Rattle.block_model.specs.Bitmap.{packed, unpacked}
use Rattle.block_model.specs.Directory.{directory_page}
use Rattle.block_model.proofs.Bitmaps.{length-packed, length-unpacked, unpacked-packed}
use Rattle.space_directory.specs.Opening.{IsDirectory}
use Rattle.base_laws.proofs.NumberLaws.{eights}

pub shifted : (order : ℕ) → order ≤ 14 → 1 * 2 ^ order % 2 ^ 64 ≡ 2 ^ order
shifted order small = one_shl order 64 (omega arith)

pub length-directory_page : (size space : ℕ) (free : List Bool) → 16 + length free / 8 ≤ size →
    length (directory_page size space free) ≡ size
length-directory_page size space free fits =
    omega (
      arith,
      length-append (packed (length free / 8) free) (replicate (size - (16 + length free / 8)) 0),
      length-packed (length free / 8) free,
      length-replicate {A = ℕ} (size - (16 + length free / 8)) 0,
    )

pub bitmap_of : (size space : ℕ) (free : List Bool) →
    take (length free / 8) (drop 16 (directory_page size space free)) ≡ packed (length free / 8) free
bitmap_of size space free = take_at (packed (length free / 8) free) (replicate (size - (16 + length free / 8)) 0)
    (length free / 8) (length-packed (length free / 8) free)

pub bits_length : (page : List ℕ) (size m : ℕ) → length page ≡ size → 16 + m / 8 ≤ size →
    length (take (16 + m / 8 - 16) (drop 16 page)) ≡ m / 8
bits_length page size m e fits = omega (arith, length-take (16 + m / 8 - 16) (drop 16 page), length-drop 16 page)

pub wrong_size : (page : List ℕ) (size space order : ℕ) → 16 + 2 ^ order / 8 ≤ size → (length page ≡ size → ⊥) →
    IsDirectory page size space order → ⊥
wrong_size page size space order fits other (free, e, p) =
    other (ap length p ∙ length-directory_page size space free (let n : length free / 8 ≡ 2 ^ order / 8 =
    ap (λ (k : ℕ). k / 8) e in omega arith))

pub read_size : (page : List ℕ) (map : List Bool) (size order m : ℕ) → m ≡ 2 ^ order → 4 ≤ order →
    length page ≡ size → 16 + m / 8 ≤ size → map ≡ unpacked (take (16 + m / 8 - 16) (drop 16 page)) →
    length map ≡ 2 ^ order
read_size page map size order m e low sized fits read =
    let bits : length (take (16 + m / 8 - 16) (drop 16 page)) ≡ m / 8 = bits_length page size m sized fits in
    let eighth : m / 8 ≡ 2 ^ order / 8 = ap (λ (k : ℕ). k / 8) e in
    omega (arith, ap length read, length-unpacked (take (16 + m / 8 - 16) (drop 16 page)), eights order low)

-- what was read off a directory page is what it was made of
pub read_free : (page : List ℕ) (map : List Bool) (size space order m : ℕ) → m ≡ 2 ^ order → 4 ≤ order →
    map ≡ unpacked (take (16 + m / 8 - 16) (drop 16 page)) → (free : List Bool) → length free ≡ 2 ^ order →
    page ≡ directory_page size space free → map ≡ free
read_free page map size space order m e low read free n p =
    let count : 16 + m / 8 - 16 ≡ length free / 8 = (let h : m / 8 ≡ length free / 8 = ap (λ (k : ℕ). k / 8) (e ∙ sym n) in omega arith) in
    let eighth : length free / 8 ≡ 2 ^ order / 8 = ap (λ (k : ℕ). k / 8) n in
    read ∙ ap (λ (k : ℕ). unpacked (take k (drop 16 page))) count ∙ ap (λ (ps : List ℕ). unpacked (take (length free / 8) (drop 16 ps))) p
    ∙ ap unpacked (bitmap_of size space free) ∙ unpacked-packed (length free / 8) free (omega (arith, eights order low))

pub not_directory : (page : List ℕ) (map : List Bool) (size space order m : ℕ) → m ≡ 2 ^ order → 4 ≤ order →
    map ≡ unpacked (take (16 + m / 8 - 16) (drop 16 page)) → (page ≡ directory_page size space map → ⊥) →
    IsDirectory page size space order → ⊥
not_directory page map size space order m e low read other (free, n, p) =
    other (p ∙ ap (λ (f : List Bool). directory_page size space f) (sym (read_free page map size space order m e low read free n p)))
