-- Bytes on which no check fails are an image.
use Rattle.std.proofs.Common.{◌≡◌, ℕ, zero, suc, ◌+◌, ◌*◌, ◌<◌, ◌≤◌, Bool, true, false, ◌&&◌, ◌||◌, cond, IsTrue}
use Rattle.std.proofs.Common.{Option, Some, None, List, [], ◌∷◌, ◌++◌, length, map, take, drop, get_or, refl, sym}
use Rattle.std.proofs.Common.{ap, subst, arith, ◌∙◌, ◌⊎◌, inl, inr, nat_eq}
use Rattle.std.specs.Prelude.{nat_le, sum_by, replicate, slice_index, if◌then◌else◌}
use Rattle.std.specs.List.{AllByRecursion, range_with_len, list_any}
use Rattle.std.specs.Int.{w16, w32, to_be_bytes, from_be_bytes}
use Rattle.std.specs.Str.{bytes_eq}
use Rattle.std.proofs.lemmas.Bool.{and_parts, leb-true, eqb-true, false≢true}
use Rattle.std.proofs.lemmas.List.{length-drop, drop-drop}
use Rattle.std.proofs.lemmas.Slice.Eq.{bytes_eq-Decides}
use Rattle.base_laws.proofs.ListLaws.{all-map}
use Rattle.geometry_model.specs.Numbers.{Numbers, IsInRange, is_in_range, pages, objects, space_pages}
use Rattle.geometry_model.specs.Pages.{directory_page, data_page, place}
use Rattle.geometry_model.proofs.NumberLaws.{IsInRange-from_test, page_size-high}
use Rattle.geometry_model.proofs.PageLaws.{place-data_page}
use Rattle.block_model.specs.Block.{has_page}
use Rattle.block_model.specs.Directory.{directory_page as directory_bytes}
use Rattle.moment_model.specs.Version.{version_uses}
use Rattle.moment_model.specs.Moment.{all_committed}
use Rattle.node_codec.proofs.NumberLemmas.{AreBytes, AreBytes-drop, bytes2, bytes4, take-sum}
use Rattle.tree_pages.proofs.CountLemmas.{times, times-cons}
use Rattle.image_model.specs.Super.{image_page, mark, super_bytes, version_in, numbers_in, has_mark, is_version, has_numbers, IsSuper}
use Rattle.image_model.specs.Directory.{is_directory, free_bits}
use Rattle.image_model.specs.Catalog.{entry_at, entry_in, entry_bytes, has_entry, is_entry}
use Rattle.image_model.specs.Image.{IsImage, HasTree, image_pages, free_of_space, object_entry, moment_in}
use Rattle.image_model.specs.Checks.{Refusal, Walk, Checked, then_check, check, each, is_free_at, is_free_page}
use Rattle.image_model.specs.Checks.{is_met, check_tree, check_space, check_store, check_all, refusal_of}
use Rattle.image_model.specs.Checks.{first_refusal}
use Rattle.image_model.specs.Checks.Checked.{Passed, Failed}
use Rattle.image_model.specs.Checks.Refusal.{Short, BadMagic, BadVersion, BadGeometry, BadDirectory, BadCatalog, PageLost}
use Rattle.image_laws.proofs.RestLemmas.{rest-committed}
use Rattle.image_laws.proofs.SoundLemmas.{shown, shown_version, moment-shown}
use Rattle.image_laws.proofs.CheckLemmas.{passed-then, passed-check, passed-each, in-range, test-cases}
use Rattle.image_laws.proofs.WalkLemmas.{IsSober}
use Rattle.image_laws.proofs.NodeLemmas.{AreSized, TreesAre, trees-walk}

-- ---- the superblock

-- some bytes from a place on, in two parts
part : (m n k : ℕ) (bytes : List ℕ) → take (m + n) (drop k bytes) ≡ take m (drop k bytes) ++ take n (drop (k + m) bytes)
part m n k bytes = take-sum m n (drop k bytes) ∙ ap (λ (xs : List ℕ). take m (drop k bytes) ++ take n xs) (drop-drop m k bytes)

-- two bytes at a place
two-items : (i : ℕ) (xs : List ℕ) → suc i < length xs → take 2 (drop i xs) ≡ slice_index xs i ∷ slice_index xs (suc i) ∷ []
two-items i [] long = let none : suc i < 0 = long in absurd (omega (arith, none))
two-items zero (x ∷ []) long = let none : 1 < 1 = long in absurd (omega (arith, none))
two-items zero (x ∷ y ∷ rest) long = refl
two-items (suc i) (x ∷ xs) long = let more : suc (suc i) < suc (length xs) = long in two-items i xs (omega (arith, more))

-- the first 256 bytes in their parts
super-parts : (bytes : List ℕ) → take 256 bytes
    ≡ take 8 bytes ++ (take 4 (drop 8 bytes) ++ (take 4 (drop 12 bytes) ++ (take 2 (drop 16 bytes) ++ (take 2 (drop 18 bytes)
    ++ (take 2 (drop 20 bytes) ++ (take 2 (drop 22 bytes) ++ take 232 (drop 24 bytes)))))))
super-parts bytes =
    let a : take 256 bytes ≡ take 8 bytes ++ take 248 (drop 8 bytes) = take-sum 8 248 bytes in
    let b : take 248 (drop 8 bytes) ≡ take 4 (drop 8 bytes) ++ take 244 (drop 12 bytes) = part 4 244 8 bytes in
    let c : take 244 (drop 12 bytes) ≡ take 4 (drop 12 bytes) ++ take 240 (drop 16 bytes) = part 4 240 12 bytes in
    let d : take 240 (drop 16 bytes) ≡ take 2 (drop 16 bytes) ++ take 238 (drop 18 bytes) = part 2 238 16 bytes in
    let e : take 238 (drop 18 bytes) ≡ take 2 (drop 18 bytes) ++ take 236 (drop 20 bytes) = part 2 236 18 bytes in
    let f : take 236 (drop 20 bytes) ≡ take 2 (drop 20 bytes) ++ take 234 (drop 22 bytes) = part 2 234 20 bytes in
    let g : take 234 (drop 22 bytes) ≡ take 2 (drop 22 bytes) ++ take 232 (drop 24 bytes) = part 2 232 22 bytes in
    a ∙ ap (λ (x : List ℕ). take 8 bytes ++ x)
    (b ∙ ap (λ (x : List ℕ). take 4 (drop 8 bytes) ++ x) (c ∙ ap (λ (x : List ℕ). take 4 (drop 12 bytes) ++ x)
    (d ∙ ap (λ (x : List ℕ). take 2 (drop 16 bytes) ++ x)
    (e ∙ ap (λ (x : List ℕ). take 2 (drop 18 bytes) ++ x)
    (f ∙ ap (λ (x : List ℕ). take 2 (drop 20 bytes) ++ x) g)))))

-- bytes that pass its checks begin with a superblock
pub super-passes : (bytes : List ℕ) → AreBytes bytes → 256 ≤ length bytes → has_mark bytes ≡ true →
    is_version (version_in bytes) ≡ true → has_numbers bytes ≡ true →
    IsSuper bytes (version_in bytes) (numbers_in bytes)
unfolding super_bytes numbers_in
super-passes bytes small long marked known ranged =
    let a = and_parts (is_in_range (numbers_in bytes)) _ ranged in
    let b = and_parts (nat_eq (slice_index bytes 17) 0) (bytes_eq (take 232 (drop 24 bytes)) (replicate 232 0)) a.1 in
    let first : take 8 bytes ≡ mark = (bytes_eq-Decides (take 8 bytes) mark).0 marked in
    let version = bytes4 (drop 8 bytes) (omega (arith, length-drop 8 bytes, long)) (AreBytes-drop 8 bytes small) in
    let page = bytes4 (drop 12 bytes) (omega (arith, length-drop 12 bytes, long)) (AreBytes-drop 12 bytes small) in
    let pair = two-items 16 bytes (omega (arith, long)) in
    let kind : slice_index bytes 17 ≡ 0 = eqb-true (slice_index bytes 17) 0 b.0 in
    let both : take 2 (drop 16 bytes) ≡ slice_index bytes 16 ∷ 0 ∷ [] = pair ∙ ap (λ (x : ℕ). slice_index bytes 16 ∷ x ∷ []) kind in
    let spaces = bytes2 (drop 18 bytes) (omega (arith, length-drop 18 bytes, long)) (AreBytes-drop 18 bytes small) in
    let catalog = bytes2 (drop 20 bytes) (omega (arith, length-drop 20 bytes, long)) (AreBytes-drop 20 bytes small) in
    let threshold = bytes2 (drop 22 bytes) (omega (arith, length-drop 22 bytes, long)) (AreBytes-drop 22 bytes small) in
    let zeros : take 232 (drop 24 bytes) ≡ replicate 232 0 = (bytes_eq-Decides (take 232 (drop 24 bytes)) (replicate 232 0)).0 b.1 in
    record {
      known = known;
      in_range = IsInRange-from_test (numbers_in bytes) a.0;
      begins = super-parts bytes
          ∙ joined8 first (sym version) (sym page) both (sym spaces) (sym catalog) (sym threshold) zeros;
    }
  where
    joined8 : {a b c d e f g h i j k l m n o p : List ℕ} → a ≡ i → b ≡ j → c ≡ k → d ≡ l → e ≡ m → f ≡ n → g ≡ o → h ≡ p →
        a ++ (b ++ (c ++ (d ++ (e ++ (f ++ (g ++ h)))))) ≡ i ++ (j ++ (k ++ (l ++ (m ++ (n ++ (o ++ p))))))
    joined8 a b c d e f g h = cc

-- ---- all checks

refusal-none : (c : Checked) → refusal_of c ≡ None → (w : Walk) × (c ≡ Passed w)
refusal-none (Passed walk) none = (walk, refl)
refusal-none (Failed refusal) none = absurd cc

-- the walk at its start
abbrev start : Walk
start = record { met = []; before = None }

start-sober : (n : Numbers) (bytes : List ℕ) → IsSober n bytes start
start-sober n bytes = record {
  once = λ q. let low : 0 ≤ 1 = omega arith in
      low;
  taken = λ q some. let none : 0 < 0 = some in absurd (omega (arith, none));
}

-- what the checks of a space say
abbrev AllKnown : Numbers → List ℕ → ℕ → Walk → Type 0
AllKnown n bytes s walk = AllByRecursion (λ at.
    (has_page (free_of_space n bytes s) at || is_met walk (data_page n s at)) ≡ true)
    (range_with_len 0 (space_pages n))

space-passes : (n : Numbers) (bytes : List ℕ) (s : ℕ) (walk out : Walk) → check_space n bytes s walk ≡ Passed out →
    AllKnown n bytes s walk × (walk ≡ out)
space-passes n bytes s walk out passed =
    passed-each (λ at w. (has_page (free_of_space n bytes s) at || is_met w (data_page n s at)) ≡ true)
    (λ at w. check (has_page (free_of_space n bytes s) at || is_met w (data_page n s at)) (PageLost (data_page n s at)) w)
    (λ at w o passed. passed-check (has_page (free_of_space n bytes s) at || is_met w (data_page n s at))
    (PageLost (data_page n s at)) w o passed)
    (range_with_len 0 (space_pages n)) walk out passed

-- what the checks on a store say
record StoreIs (n : Numbers) (version : ℕ) (bytes : List ℕ) : Type 0 where
  walk : Walk
  directories : AllByRecursion (λ s. is_directory n s (image_page n.page bytes (directory_page n s)) ≡ true) (range_with_len 0 n.spaces)
  entries : AllByRecursion (λ o. has_entry n version (entry_at n bytes o) ≡ true) (range_with_len 0 (objects n))
  trees : TreesAre n version bytes (range_with_len 0 (objects n)) start walk
  known : AllByRecursion (λ s. AllKnown n bytes s walk) (range_with_len 0 n.spaces)

-- a store whose size passes
store-size : (n : Numbers) (version : ℕ) (bytes : List ℕ) (out : Walk) →
    check_store n version bytes start ≡ Passed out → pages n * n.page ≤ length bytes
store-size n version bytes out passed =
    let a = passed-then (check (nat_le (pages n * n.page) (length bytes)) Short start) _ out passed in
    leb-true (pages n * n.page) (length bytes) (passed-check (nat_le (pages n * n.page) (length bytes)) Short start a.0 a.1).0

store-passes : (n : Numbers) (version : ℕ) (bytes : List ℕ) (out : Walk) → AreSized n bytes →
    check_store n version bytes start ≡ Passed out → StoreIs n version bytes
store-passes n version bytes out sized passed =
    let spaces = range_with_len 0 n.spaces in
    let numbers = range_with_len 0 (objects n) in
    let directory : ℕ → Walk → Checked = λ s walk. check
    (is_directory n s (image_page n.page bytes (directory_page n s))) (BadDirectory s) walk in
    let entry : ℕ → Walk → Checked = λ o walk. check (has_entry n version (entry_at n bytes o)) (BadCatalog o) walk in
    let tree : ℕ → Walk → Checked = λ o walk. check_tree n bytes o (object_entry n version bytes o) walk in
    let fourth : Walk → Checked = λ trees. each (check_space n bytes) spaces trees in
    let third : Walk → Checked = λ entries. then_check (each tree numbers entries) fourth in
    let second : Walk → Checked = λ directories. then_check (each entry numbers directories) third in
    let first : Walk → Checked = λ sized. then_check (each directory spaces sized) second in
    let a = passed-then (check (nat_le (pages n * n.page) (length bytes)) Short start) first out passed in
    let size = passed-check (nat_le (pages n * n.page) (length bytes)) Short start a.0 a.1 in
    let b = passed-then (each directory spaces a.0) second out a.2 in
    let directories = passed-each (λ s w. is_directory n s (image_page n.page bytes (directory_page n s)) ≡ true) directory
    (λ s w o is. passed-check (is_directory n s (image_page n.page bytes (directory_page n s)))
    (BadDirectory s) w o is) spaces a.0 b.0 b.1 in
    let c = passed-then (each entry numbers b.0) third out b.2 in
    let entries = passed-each (λ o w. has_entry n version (entry_at n bytes o) ≡ true) entry
    (λ o w out is. passed-check (has_entry n version (entry_at n bytes o)) (BadCatalog o) w out is) numbers b.0 c.0 c.1 in
    let d = passed-then (each tree numbers c.0) fourth out c.2 in
    let begun : c.0 ≡ start = sym (size.1 ∙ (directories.1 ∙ entries.1)) in
    let allowed = all-map (λ o. has_entry n version (entry_at n bytes o) ≡ true) (λ o. is_entry n (object_entry n version bytes o) ≡ true)
    (λ o is. (and_parts (bytes_eq (entry_at n bytes o) (entry_bytes version (object_entry n version bytes o)))
    (is_entry n (object_entry n version bytes o)) is).1) numbers entries.0 in
    let known = passed-each (λ s w. AllKnown n bytes s w) (check_space n bytes)
    (λ s w o is. space-passes n bytes s w o is) spaces d.0 out d.2 in
    record {
      walk = d.0;
      directories = directories.0;
      entries = entries.0;
      trees = subst (λ (w : Walk). TreesAre n version bytes numbers w d.0) begun
          (trees-walk n version bytes numbers c.0 d.0 sized allowed d.1);
      known = known.0;
    }

-- what is met counts
met-some : (q : ℕ) (pages : List ℕ) → list_any (nat_eq q) pages ≡ true → 0 < times q pages
met-some q [] met = absurd (false≢true met)
met-some q (first ∷ rest) met =
    let whole = times-cons q first rest in
    elim (test-cases (nat_eq q first)) [
      | inl same ↦
          let here = ap (λ (b : Bool). let k : ℕ = cond b 1 0 in k) same in
          omega (arith, whole, here)
      | inr other ↦
          let left : list_any (nat_eq q) rest ≡ true = ap (λ (b : Bool). b || list_any (nat_eq q) rest) (sym other) ∙ met in
          let more = met-some q rest left in
          omega (arith, whole, more)
    ]

-- each data page is free or used just once
used-once : (n : Numbers) (version : ℕ) (bytes : List ℕ) → StoreIs n version bytes → (s at : ℕ) → s < n.spaces → at < space_pages n →
    all_committed n (data_page n s at) (moment_in n version bytes) ≡ (if has_page (free_of_space n bytes s) at then 0 else 1)
used-once n version bytes is s at store inside =
    let q = data_page n s at in
    let walk = is.walk in
    let sober = is.trees.sober (start-sober n bytes) in
    let uses = ap (all_committed n q) (moment-shown n version bytes) ∙ rest-committed n q (shown n version bytes) in
    let met = is.trees.met q in
    let once = sober.once q in
    let found = place-data_page n s at store inside in
    let free : is_free_page n bytes q ≡ has_page (free_of_space n bytes s) at = ap (is_free_at n bytes) found in
    let low : 0 ≤ s = omega arith in
    let low_at : 0 ≤ at = omega arith in
    let known = in-range (λ i. (has_page (free_of_space n bytes s) i || is_met walk (data_page n s i)) ≡ true) 0 (space_pages n)
    (in-range (λ i. AllKnown n bytes i walk) 0 n.spaces is.known s low (omega (arith, store))) at low_at (omega (arith, inside)) in
    elim (test-cases (has_page (free_of_space n bytes s) at)) [
      | inl yes_free ↦
          let none : times q walk.met ≡ 0 = untaken (times q walk.met) (is_free_page n bytes q) (sober.taken q) (free ∙ yes_free) in
          let count = ap (λ (b : Bool). let k : ℕ = cond b 0 1 in k) yes_free in
          omega (arith, uses, met, none, count)
      | inr taken ↦
          let left : is_met walk q ≡ true = ap (λ (b : Bool). b || is_met walk q) (sym taken) ∙ known in
          let some = met-some q walk.met left in
          let count = ap (λ (b : Bool). let k : ℕ = cond b 0 1 in k) taken in
          omega (arith, uses, met, some, once, count)
    ]
  where
    untaken : (count : ℕ) (b : Bool) → (0 < count → b ≡ false) → b ≡ true → count ≡ 0
    untaken zero b taken is = refl
    untaken (suc count) b taken is = absurd (false≢true (sym (taken (omega arith)) ∙ is))

pub passes-image : (bytes : List ℕ) → AreBytes bytes → first_refusal bytes ≡ None → IsImage bytes (version_in bytes) (numbers_in bytes)
unfolding first_refusal
passes-image bytes small none =
    let n = numbers_in bytes in
    let version = version_in bytes in
    let all = refusal-none (check_all bytes) none in
    let fourth : Walk → Checked = λ ranged. check_store n version bytes ranged in
    let third : Walk → Checked = λ known. then_check (check (has_numbers bytes) BadGeometry known) fourth in
    let second : Walk → Checked = λ marked. then_check (check (is_version version) BadVersion marked) third in
    let first : Walk → Checked = λ long. then_check (check (has_mark bytes) BadMagic long) second in
    let a = passed-then (check (nat_le 256 (length bytes)) Short start) first all.0 all.1 in
    let long = passed-check (nat_le 256 (length bytes)) Short start a.0 a.1 in
    let b = passed-then (check (has_mark bytes) BadMagic a.0) second all.0 a.2 in
    let marked = passed-check (has_mark bytes) BadMagic a.0 b.0 b.1 in
    let c = passed-then (check (is_version version) BadVersion b.0) third all.0 b.2 in
    let known = passed-check (is_version version) BadVersion b.0 c.0 c.1 in
    let d = passed-then (check (has_numbers bytes) BadGeometry c.0) fourth all.0 c.2 in
    let ranged = passed-check (has_numbers bytes) BadGeometry c.0 d.0 d.1 in
    let super = super-passes bytes small (leb-true 256 (length bytes) long.0) marked.0 known.0 ranged.0 in
    let begun : d.0 ≡ start = sym (long.1 ∙ (marked.1 ∙ (known.1 ∙ ranged.1))) in
    let checked : check_store n version bytes start ≡ Passed all.0 = ap (check_store n version bytes) (sym begun) ∙ d.2 in
    let size = store-size n version bytes all.0 checked in
    let sized : AreSized n bytes = record { small = small; size = size; page_high = page_size-high n.page super.in_range.page_size } in
    let is = store-passes n version bytes all.0 sized checked in
    let entry : (o : ℕ) → o < objects n → has_entry n version (entry_at n bytes o) ≡ true = λ o inside.
    let low : 0 ≤ o = omega arith in
    in-range (λ i. has_entry n version (entry_at n bytes i) ≡ true) 0 (objects n) is.entries o low (omega (arith, inside)) in
    record {
      super = super;
      size = size;
      directories = λ s inside.
          let low : 0 ≤ s = omega arith in
          let page = image_page n.page bytes (directory_page n s) in
          (bytes_eq-Decides page (directory_bytes n.page s (free_bits n page))).0
          (in-range (λ i. is_directory n i (image_page n.page bytes (directory_page n i))
          ≡ true) 0 n.spaces is.directories s low (omega (arith, inside)));
      entries = λ o inside. (bytes_eq-Decides (entry_at n bytes o) (entry_bytes version (object_entry n version bytes o))).0
          (and_parts (bytes_eq (entry_at n bytes o) (entry_bytes version (object_entry n version bytes o)))
          (is_entry n (object_entry n version bytes o)) (entry o inside)).0;
      allowed = λ o inside. (and_parts (bytes_eq (entry_at n bytes o)
          (entry_bytes version (object_entry n version bytes o))) (is_entry n (object_entry n version bytes o))
          (entry o inside)).1;
      trees = λ o inside.
          let low : 0 ≤ o = omega arith in
          in-range (λ i. HasTree n (image_pages n bytes)
          (object_entry n version bytes i)) 0 (objects n) is.trees.trees o low (omega (arith, inside));
      used = used-once n version bytes is;
    }
