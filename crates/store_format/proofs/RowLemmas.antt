-- Pages in a row, in the bytes that they are together, and on the device that they come back to.
use Rattle.std.proofs.Common.{◌≡◌, ℕ, zero, suc, ◌+◌, ◌-◌, ◌*◌, ◌/◌, ◌%◌, ◌<◌, ◌≤◌, Bool, true, false, IsTrue, List, [], ◌∷◌, ◌++◌}
use Rattle.std.proofs.Common.{length, take, drop, map, replicate, get_or, refl, sym, ap, subst, ◌∙◌, arith, append_assoc, append-nil}
use Rattle.std.proofs.Common.{Option, Some, None, is_some, length-append, mul-le-mul_right}
use Rattle.std.specs.List.{concat, list_all}
use Rattle.std.proofs.Math.Seq.{take-append_seam, drop-append-add, take-add}
use Rattle.std.proofs.lemmas.List.{get_or-take, get_or-drop, drop_all, take_all, length-take-le, length-drop, length-map, length-replicate}
use Rattle.std.proofs.lemmas.List.{drop-drop, take-append-drop}
use Rattle.std.proofs.lemmas.List.Elements.{All-head, All-drop, All-take}
use Rattle.std.proofs.Math.Nat.{div_self, mod_self, mul-mod_left, mul-div_cancel}
use Rattle.page_port.specs.Pages.{AreOf, IsSized, KeepsOthers, FitsPages, run_bytes}
use Rattle.page_port.specs.Device.{after_return, page_bytes, returned_bytes}
use Rattle.image_model.specs.Super.{image_page}
use Rattle.tree_model.specs.Tree.{Pages}
use Rattle.store_format.specs.Rows.{row_page, KeepsShape, KeepsPagesBut}
use Rattle.base_laws.proofs.NumberLaws.{one_page}

sized-tail : (size : ℕ) (page : List ℕ) (pages : List (List ℕ)) → AreOf size (page ∷ pages) → AreOf size pages
sized-tail size page pages sized = All-drop (λ (p : List ℕ). length p ≡ size) 1 (page ∷ pages) sized

sized-head : (size : ℕ) (page : List ℕ) (pages : List (List ℕ)) → AreOf size (page ∷ pages) → length page ≡ size
sized-head size page pages sized = All-head (λ (p : List ℕ). length p ≡ size) page pages sized

-- each page stands in the joined bytes at its number
pub row-image : (size : ℕ) (pages : List (List ℕ)) (rest : List ℕ) → AreOf size pages → (q : ℕ) → q < length pages →
    image_page size (concat pages ++ rest) q ≡ row_page pages q
row-image size [] rest sized q inside = absurd (omega (arith, inside))
row-image size (page ∷ pages) rest sized zero inside =
    let behind : List ℕ = concat pages ++ rest in
    let first : 0 * size ≡ 0 = omega arith in
    let joined : concat (page ∷ pages) ++ rest ≡ page ++ behind = append_assoc page (concat pages) rest in
    ap (λ (k : ℕ). take size (drop k (concat (page ∷ pages) ++ rest))) first
    ∙ (ap (take size) joined ∙ (ap (λ (k : ℕ). take k (page ++ behind)) (sym (sized-head size page pages sized))
    ∙ take-append_seam page behind))
row-image size (page ∷ pages) rest sized (suc q) inside =
    let behind : List ℕ = concat pages ++ rest in
    let long = sized-head size page pages sized in
    let step : suc q * size ≡ length page + q * size = omega (arith, long) in
    let joined : concat (page ∷ pages) ++ rest ≡ page ++ behind = append_assoc page (concat pages) rest in
    let within : suc q < suc (length pages) = inside in
    ap (λ (k : ℕ). take size (drop k (concat (page ∷ pages) ++ rest))) step
    ∙ (ap (λ (xs : List ℕ). take size (drop (length page + q * size) xs)) joined
    ∙ (ap (take size) (drop-append-add page behind (q * size))
    ∙ row-image size pages rest (sized-tail size page pages sized) q (omega (arith, within))))

pub length-concat : (size : ℕ) (pages : List (List ℕ)) → AreOf size pages → length (concat pages) ≡ length pages * size
length-concat size [] sized = sym (let none : 0 * size ≡ 0 = omega arith in none)
length-concat size (page ∷ pages) sized =
    let long = sized-head size page pages sized in
    let rest = length-concat size pages (sized-tail size page pages sized) in
    let step : suc (length pages) * size ≡ size + length pages * size = omega arith in
    length-append page (concat pages) ∙ omega (arith, long, rest, step)

-- pages that were written hold their stretch of the bytes
pub run-row : (size from n : ℕ) (pages : List (List ℕ)) (bytes : List ℕ) → AreOf size pages → from + n ≤ length pages →
    run_bytes from n pages ≡ bytes → (q : ℕ) → q < n → row_page pages (from + q) ≡ image_page size bytes q
run-row size from n pages bytes sized range is q inside =
    let run : List (List ℕ) = take n (drop from pages) in
    let of_size : AreOf size run = All-take (λ (p : List ℕ). length p ≡ size) n (drop from pages)
    (All-drop (λ (p : List ℕ). length p ≡ size) from pages sized) in
    let long : length run ≡ n = length-take-le n (drop from pages) (omega (arith, length-drop from pages)) in
    let here : row_page run q ≡ row_page pages (from + q) = get_or-take n (drop from pages) q [] inside ∙ get_or-drop from pages q [] in
    sym here ∙ sym (row-image size run [] of_size q (omega (arith, long)))
    ∙ ap (λ (xs : List ℕ). image_page size xs q) (append-nil (concat run) ∙ is)

-- pages outside of a run keep what they held
pub kept-row : (from n : ℕ) (old new : List (List ℕ)) → KeepsOthers from n old new →
    KeepsPagesBut from n (row_page old) (row_page new)
kept-row from n old new kept = record {
  before = λ q below. sym (get_or-take from new q [] below) ∙ (ap (λ (ps : List (List ℕ)). get_or ps q []) kept.before
      ∙ get_or-take from old q [] below);
  behind = λ q above.
      let place : from + n + (q - (from + n)) ≡ q = omega (arith, above) in
      ap (row_page new) (sym place) ∙ (sym (get_or-drop (from + n) new (q - (from + n)) [])
      ∙ (ap (λ (ps : List (List ℕ)). get_or ps (q - (from + n)) []) kept.behind
      ∙ (get_or-drop (from + n) old (q - (from + n)) [] ∙ ap (row_page old) place)));
}

-- the first pages of two rows of bytes are the same where each of them is
pub same-pages : (size count : ℕ) (bytes front : List ℕ) → length front ≡ count * size → count * size ≤ length bytes →
    ((q : ℕ) → q < count → image_page size bytes q ≡ image_page size front q) → take (count * size) bytes ≡ front
same-pages size zero bytes [] long fits same = let none : 0 * size ≡ 0 = omega arith in ap (λ (k : ℕ). take k bytes) none
same-pages size zero bytes (b ∷ front) long fits same =
    let none : 0 * size ≡ 0 = omega arith in
    let some : suc (length front) ≡ 0 * size = long in absurd (omega (arith, none, some))
same-pages size (suc count) bytes front long fits same =
    let step : suc count * size ≡ size + count * size = omega arith in
    let none : 0 * size ≡ 0 = omega arith in
    let first : take size bytes ≡ take size front =
    ap (λ (k : ℕ). take size (drop k bytes)) (sym none) ∙ (same 0 (omega arith)
    ∙ ap (λ (k : ℕ). take size (drop k front)) none) in
    let shifted : (xs : List ℕ) (q : ℕ) → image_page size xs (suc q) ≡ image_page size (drop size xs) q =
    λ xs q.
    let row : suc q * size ≡ size + q * size = omega arith in
    ap (λ (k : ℕ). take size (drop k xs)) row ∙ sym (ap (take size) (drop-drop (q * size) size xs)) in
    let rest : take (count * size) (drop size bytes) ≡ drop size front = same-pages size count (drop size bytes) (drop size front)
    (length-drop size front ∙ omega (arith, long, step)) (omega (arith, length-drop size bytes, fits, step))
    (λ q inside. sym (shifted bytes q) ∙ (same (suc q) (omega (arith, inside)) ∙ shifted front q)) in
    ap (λ (k : ℕ). take k bytes) step ∙ (take-add size (count * size) bytes
    ∙ (ap (λ (xs : List ℕ). xs ++ take (count * size) (drop size bytes)) first
    ∙ (ap (λ (xs : List ℕ). take size front ++ xs) rest ∙ take-append-drop size front)))

-- ---- a whole mount that comes back

pub all-back : (pages : List (List ℕ)) (count : ℕ) → length pages ≡ count →
    after_return 0 pages (replicate count None) ≡ map Some pages
all-back pages count long =
    let out : List (Option (List ℕ)) = replicate count None in
    let behind : drop (0 + length pages) out ≡ [] = drop_all (0 + length pages) out
    (omega (arith, long, length-replicate {A = Option (List ℕ)} count None)) in
    ap (λ (rest : List (Option (List ℕ))). map Some pages ++ rest) behind ∙ append-nil (map Some pages)

pub home-back : (pages : List (List ℕ)) → IsTrue (list_all is_some (map Some pages))
home-back [] = refl
home-back (page ∷ pages) = home-back pages

pub bytes-back : (pages : List (List ℕ)) → returned_bytes (map Some pages) ≡ concat pages
bytes-back [] = refl
bytes-back (page ∷ pages) = ap (λ (rest : List ℕ). page ++ rest) (bytes-back pages)

-- where a page is out, the device isn't home
pub out-away : (count : ℕ) (pages : List (Option (List ℕ))) → 1 ≤ count → pages ≡ replicate count None → list_all is_some pages ≡ false
out-away zero pages some is = absurd (omega (arith, some))
out-away (suc count) pages some is = ap (list_all is_some) is

-- ---- one page

pub whole-page : (size : ℕ) (page : List ℕ) → length page ≡ size → image_page size page 0 ≡ page
whole-page size page long =
    let none : 0 * size ≡ 0 = omega arith in
    ap (λ (k : ℕ). take size (drop k page)) none ∙ take_all size page (omega (arith, long))

pub fits-one : (told : Bool) (size at bytes : ℕ) (pages : List (List ℕ)) → 0 < size → bytes ≡ size → at < length pages →
    IsSized told size pages → FitsPages told size at bytes pages
fits-one told size at bytes pages some same inside sized = record {
  whole = record { some = omega (arith, same, some); even = ap (λ (k : ℕ). k % size) same ∙ mod_self size };
  range = omega (arith, one_page bytes size same some, inside);
  sized = sized;
}

-- several pages fill a whole number of pages
pub fits-many : (told : Bool) (size count bytes : ℕ) (pages : List (List ℕ)) → 0 < size → 0 < count → bytes ≡ count * size →
    count ≤ length pages → IsSized told size pages → FitsPages told size 0 bytes pages
fits-many told size count bytes pages some any same inside sized =
    let rows : 1 * size ≤ count * size = mul-le-mul_right size any in
    record {
      whole = record { some = omega (arith, same, some, rows); even = ap (λ (k : ℕ). k % size) same ∙ mul-mod_left count size };
      range = omega (arith, ap (λ (k : ℕ). k / size) same ∙ mul-div_cancel count some, inside);
      sized = sized;
    }
