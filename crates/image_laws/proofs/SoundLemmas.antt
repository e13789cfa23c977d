-- What an image shows: a sound moment at rest whose free pages are those of the directories.
use Rattle.std.proofs.Common.{◌≡◌, ℕ, zero, suc, ◌+◌, ◌*◌, ◌/◌, ◌^◌, ◌<◌, ◌≤◌, Bool, true, false, cond, IsTrue}
use Rattle.std.proofs.Common.{Some, None, List, [], ◌∷◌, length, map, take, drop, get_or, refl, sym, ap, subst}
use Rattle.std.proofs.Common.{arith, ◌∙◌, nat_eq, inl, inr, mul-le-mul_right}
use Rattle.std.specs.Prelude.{if◌then◌else◌, nat_le}
use Rattle.std.specs.List.{AllByRecursion, range_with_len}
use Rattle.std.proofs.lemmas.Bool.{and_parts, leb-true}
use Rattle.std.proofs.lemmas.List.{length-take, length-drop, ext_get_or}
use Rattle.std.proofs.lemmas.List.FromFn.{length-map-range_with_len, get_or-map-range_with_len}
use Rattle.geometry_model.specs.Numbers.{Numbers, objects, space_pages, pages}
use Rattle.geometry_model.specs.Pages.{directory_page, data_page}
use Rattle.geometry_model.proofs.NumberLaws.{page_size-low}
use Rattle.geometry_model.proofs.PageLaws.{directory_page-below}
use Rattle.block_model.specs.Block.{has_page}
use Rattle.block_model.proofs.Bitmaps.{length-unpacked}
use Rattle.tree_model.specs.Tree.{Pages, IsSegment, entries_of}
use Rattle.layout_model.specs.Pack.{Packed}
use Rattle.moment_model.specs.Version.{Version, IsGood, IsGoodVersion}
use Rattle.moment_model.specs.Moment.{all_committed, is_free, is_locked, free_in, IsSound}
use Rattle.change_laws.specs.Tail.{HaveTails}
use Rattle.tree_pages.specs.Entry.{Entry}
use Rattle.tree_pages.specs.Levels.{version_at, slot_at_rest, plain_at, version_plain}
use Rattle.tree_pages.specs.Stored.{AreWithin}
use Rattle.tree_pages.proofs.TreeLemmas.{tree-levels, entry-plain}
use Rattle.image_model.specs.Super.{image_page}
use Rattle.image_model.specs.Directory.{free_bits}
use Rattle.image_model.specs.Catalog.{is_entry, is_root, is_threshold}
use Rattle.image_model.specs.Image.{IsImage, HasTree, image_pages, free_of_space, object_entry, moment_in, database_in}
use Rattle.image_laws.proofs.RestLemmas.{at_rest, AreGood, rest-committed, rest-sound, rest-tails, rest-locked, rest-free}
use Rattle.image_laws.proofs.UsedLemmas.{place-cases, versions-unused}
use Rattle.base_laws.proofs.NumberLaws.{eights}

-- a list made from one that is made
map-twice : {A B C : Type 0} (f : B → C) (g : A → B) (xs : List A) → map f (map g xs) ≡ map (λ x. f (g x)) xs
map-twice f g [] = refl
map-twice f g (x ∷ xs) = ap (λ l. f (g x) ∷ l) (map-twice f g xs)

map-same : {A B : Type 0} (f g : A → B) (xs : List A) → ((x : A) → f x ≡ g x) → map f xs ≡ map g xs
map-same f g [] same = refl
map-same f g (x ∷ xs) same = ap (λ y. y ∷ map f xs) (same x) ∙ ap (λ l. g x ∷ l) (map-same f g xs same)

-- what holds of each of some numbers holds along the list that is made of them
all-range : {X : Type 0} (P : X → Type 0) (f : ℕ → X) (from count : ℕ) →
    ((i : ℕ) → from ≤ i → i < from + count → P (f i)) → AllByRecursion P (map f (range_with_len from count))
all-range P f from zero each = tt
all-range P f from (suc count) each =
    let low : from ≤ from = omega arith in
    let high : from < from + suc count = omega arith in
    (each from low high, all-range P f (from + 1) count (λ i above below. each i (omega (arith, above)) (omega (arith, below))))

-- the versions that an image shows
abbrev pub shown_version : Numbers → ℕ → List ℕ → ℕ → Version
shown_version n version bytes o = version_at (image_pages n bytes) (object_entry n version bytes o)

abbrev pub shown : Numbers → ℕ → List ℕ → List Version
shown n version bytes = map (shown_version n version bytes) (range_with_len 0 (objects n))

pub moment-shown : (n : Numbers) (version : ℕ) (bytes : List ℕ) → moment_in n version bytes ≡ at_rest (shown n version bytes)
unfolding moment_in
moment-shown n version bytes = sym (map-twice slot_at_rest (shown_version n version bytes) (range_with_len 0 (objects n)))

-- no page of an image is longer than a page
pub image-within : (n : Numbers) (bytes : List ℕ) → AreWithin n.page (image_pages n bytes)
image-within n bytes q = let cut = length-take n.page (drop (q * n.page) bytes) in omega (arith, cut)

-- an object that has a tree and an entry in range is a good version
pub good-shown : (n : Numbers) (at : Pages) (entry : Entry) → AreWithin n.page at → HasTree n at entry →
    IsTrue (is_entry n entry) → IsGoodVersion IsGood n (version_at at entry)
good-shown n at None within tree allowed = tt
good-shown n at (Some present) within tree allowed =
    let entries = entries_of at present.root.height present.root.page in
    let levels = tree-levels n at present.root entries within tree.0 in
    let threshold = (and_parts (is_root present.root) (is_threshold n present.threshold) allowed).1 in
    let bounds = and_parts (nat_le 1 present.threshold) (nat_le (2 * present.threshold) (space_pages n)) threshold in
    record {
      shape = levels.shape;
      nodes = levels.nodes;
      segments = subst (AllByRecursion (IsSegment n)) (sym levels.listed) tree.0.segments;
      neighbours = subst (Packed n.page present.threshold) (sym levels.listed) tree.1;
      threshold_low = leb-true 1 present.threshold bounds.0;
      threshold_high = leb-true (2 * present.threshold) (space_pages n) bounds.1;
    }

pub all-good : (bytes : List ℕ) (version : ℕ) (n : Numbers) → IsImage bytes version n → AreGood n (shown n version bytes)
all-good bytes version n image =
    all-range (IsGoodVersion IsGood n) (shown_version n version bytes) 0 (objects n)
    (λ o low high. let inside : o < objects n = omega (arith, high) in
    good-shown n (image_pages n bytes) (object_entry n version bytes o) (image-within n bytes)
    (image.trees o inside) (image.allowed o inside))

-- how often a data page is used
pub data-uses : (bytes : List ℕ) (version : ℕ) (n : Numbers) → IsImage bytes version n → (s at : ℕ) → s < n.spaces → at < space_pages n →
    all_committed n (data_page n s at) (at_rest (shown n version bytes)) ≡ (if has_page (free_of_space n bytes s) at then 0 else 1)
data-uses bytes version n image s at store inside =
    ap (all_committed n (data_page n s at)) (sym (moment-shown n version bytes)) ∙ image.used s at store inside

at-most : (b : Bool) → cond b 0 1 ≤ 1
at-most true = let low : 0 ≤ 1 = omega arith in low
at-most false = let low : 1 ≤ 1 = omega arith in low

-- each page is used at most once
pub once-shown : (bytes : List ℕ) (version : ℕ) (n : Numbers) → IsImage bytes version n → (page : ℕ) →
    all_committed n page (at_rest (shown n version bytes)) ≤ 1
once-shown bytes version n image page =
    elim (place-cases n page) [
      | inl none ↦
          let unused = rest-committed n page (shown n version bytes)
          ∙ versions-unused n page (shown n version bytes) none (all-good bytes version n image) in
          omega (arith, unused)
      | inr spot ↦
          let is = spot.2 in
          let counted = ap (λ (q : ℕ). all_committed n q (at_rest (shown n version bytes))) is.is_page
          ∙ data-uses bytes version n image spot.0 spot.1 is.in_store is.in_space in
          let most = at-most (has_page (free_of_space n bytes spot.0) spot.1) in
          omega (arith, counted, most)
    ]

pub image-sound : (bytes : List ℕ) (version : ℕ) (n : Numbers) → IsImage bytes version n →
    IsSound IsGood n (λ o. false) (moment_in n version bytes)
image-sound bytes version n image =
    subst (IsSound IsGood n (λ o. false)) (sym (moment-shown n version bytes))
    (rest-sound n (shown n version bytes) (all-good bytes version n image) (once-shown bytes version n image))

pub image-slots : (bytes : List ℕ) (version : ℕ) (n : Numbers) → length (moment_in n version bytes) ≡ objects n
unfolding moment_in
image-slots bytes version n = length-map-range_with_len (λ (o : ℕ). slot_at_rest (shown_version n version bytes o)) 0 (objects n)

pub image-tails : (bytes : List ℕ) (version : ℕ) (n : Numbers) → HaveTails n (moment_in n version bytes)
image-tails bytes version n = subst (HaveTails n) (sym (moment-shown n version bytes)) (rest-tails n (shown n version bytes))

pub image-locked : (bytes : List ℕ) (version : ℕ) (n : Numbers) (page : ℕ) → is_locked n page (moment_in n version bytes) ≡ false
image-locked bytes version n page = ap (is_locked n page) (moment-shown n version bytes) ∙ rest-locked n page (shown n version bytes)

-- ---- the free pages

-- a directory has a test of each page of its space
pub free-length : (bytes : List ℕ) (version : ℕ) (n : Numbers) → IsImage bytes version n → (s : ℕ) → s < n.spaces →
    length (free_of_space n bytes s) ≡ space_pages n
unfolding free_bits
free-length bytes version n image s store =
    let range = image.super.in_range in
    let page = image_page n.page bytes (directory_page n s) in
    let bits = length-unpacked (take (space_pages n / 8) (drop 16 page)) in
    let cut = length-take (space_pages n / 8) (drop 16 page) in
    let behind = length-drop 16 page in
    let sized = length-take n.page (drop (directory_page n s * n.page) bytes) in
    let left = length-drop (directory_page n s * n.page) bytes in
    let within = directory_page-below n s store in
    let rows : (directory_page n s + 1) * n.page ≤ pages n * n.page = mul-le-mul_right n.page (omega (arith, within)) in
    let all = image.size in
    let low = page_size-low n.page range.page_size in
    let high = range.order_high in
    let whole = eights n.order range.order_low in
    omega (arith, bits, cut, behind, sized, left, rows, all, low, high, whole)

pub image-free : (bytes : List ℕ) (version : ℕ) (n : Numbers) → IsImage bytes version n → (s : ℕ) → s < n.spaces →
    free_in n (moment_in n version bytes) s ≡ free_of_space n bytes s
image-free bytes version n image s store =
    let moment = moment_in n version bytes in
    let test : ℕ → Bool = λ at. is_free n (data_page n s at) moment in
    let long : length (free_in n moment s) ≡ space_pages n = length-map-range_with_len test 0 (space_pages n) in
    ext_get_or false (free_in n moment s) (free_of_space n bytes s) (long ∙ sym (free-length bytes version n image s store))
    (λ at inside.
    let within : at < space_pages n = omega (arith, long, inside) in
    let start : 0 + at ≡ at = omega arith in
    get_or-map-range_with_len test 0 (space_pages n) at at false within start ∙ free-bit at within)
  where
    bit : (b : Bool) → nat_eq (cond b 0 1) 0 ≡ b
    bit true = refl
    bit false = refl

    free-bit : (at : ℕ) → at < space_pages n →
        is_free n (data_page n s at) (moment_in n version bytes) ≡ get_or (free_of_space n bytes s) at false
    free-bit at within =
        let b = has_page (free_of_space n bytes s) at in
        ap (is_free n (data_page n s at)) (moment-shown n version bytes)
        ∙ (rest-free n (data_page n s at) (cond b 0 1) (shown n version bytes) (data-uses bytes version n image s at store within) ∙ bit b)

-- ---- the database

pub image-database : (bytes : List ℕ) (version : ℕ) (n : Numbers) → database_in n version bytes
    ≡ map (λ slot. version_plain (image_pages n bytes) n.page slot.committed) (moment_in n version bytes)
unfolding moment_in database_in
image-database bytes version n =
    let numbers = range_with_len 0 (objects n) in
    map-same (λ (o : ℕ). plain_at (image_pages n bytes) n.page (object_entry n version bytes o))
    (λ (o : ℕ). version_plain (image_pages n bytes) n.page (shown_version n version bytes o)) numbers
    (λ o. entry-plain (image_pages n bytes) n.page (object_entry n version bytes o))
    ∙ sym (map-twice (λ slot. version_plain (image_pages n bytes) n.page slot.committed)
    (λ (o : ℕ). slot_at_rest (shown_version n version bytes o)) numbers)
