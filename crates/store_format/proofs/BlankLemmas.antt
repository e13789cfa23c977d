-- What formatting writes is an image of the empty store.
use Rattle.std.proofs.Common.{◌≡◌, ℕ, zero, suc, ◌+◌, ◌-◌, ◌*◌, ◌/◌, ◌<◌, ◌≤◌, Bool, true, false, List, [], ◌∷◌, ◌++◌, None}
use Rattle.std.proofs.Common.{length, take, drop, map, replicate, refl, sym, ap, subst, ◌∙◌, arith, length-append, append_assoc}
use Rattle.std.specs.List.{range_with_len}
use Rattle.std.proofs.Math.Seq.{take-append_seam}
use Rattle.std.proofs.lemmas.List.{take-take, drop-take, drop-replicate, take-replicate, drop_at, take-append-le}
use Rattle.std.proofs.lemmas.List.{length-replicate, drop-drop, replicate-append-replicate}
use Rattle.std.proofs.lemmas.List.FromFn.{length-range_with_len}
use Rattle.geometry_model.specs.Numbers.{Numbers, IsInRange, objects, pages, space_pages}
use Rattle.geometry_model.specs.Pages.{directory_page, data_page}
use Rattle.geometry_model.proofs.NumberLaws.{page_size-low, objects-bytes}
use Rattle.block_model.specs.Directory.{directory_page as directory_bytes}
use Rattle.block_model.specs.Bitmap.{packed}
use Rattle.block_model.proofs.Changes.{count-replicate_true}
use Rattle.std.specs.Prelude.{codes}
use Rattle.std.specs.Int.{w32, to_be_bytes}
use Rattle.eos_ops.specs.declared.plain.Plain.{Plain}
use Rattle.eos_ops.specs.declared.plain.Plain.TheVariants.{Absent}
use Rattle.tree_model.specs.Tree.{Pages}
use Rattle.moment_model.specs.Version.{Version, IsGood}
use Rattle.moment_model.specs.Moment.{ObjectSlot, Moment, absent_slot, object_slot, IsSound, IsAllAbsent, is_free, free_in}
use Rattle.store_moment_laws.proofs.FirstLemmas.{fresh-absent, absent-sound, absent-free}
use Rattle.tree_pages.specs.Levels.{version_plain}
use Rattle.image_model.specs.Super.{image_page, super_bytes, version_in, IsSuper}
use Rattle.image_model.specs.Catalog.{entry_at, entry_bytes}
use Rattle.image_model.specs.Image.{Image, image_pages}
use Rattle.image_model.specs.Checks.{first_refusal}
use Rattle.closing_laws.specs.Closed.{IsClosedAt, IsStored, version_entry}
use Rattle.closing_laws.proofs.ClosedLemmas.{closed-image, closed-version, closed-opens}
use Rattle.store_format.specs.Writing.{front_count, IsStoreWritten}
use Rattle.store_format.specs.Blank.{full_directory, blank_directory, blank_front, blank_moment, blank_database}
use Rattle.store_format.specs.Formatting.{IsFormatted, store_bytes}
use Rattle.page_port.specs.Device.{resized}
use Rattle.store_format.proofs.RowLemmas.{same-pages}

-- ---- a directory of free pages

pub packed-free : (n : ℕ) → packed n (replicate (8 * n) true) ≡ replicate n 255
packed-free zero = refl
packed-free (suc n) =
    let long : 8 * suc n ≡ suc (suc (suc (suc (suc (suc (suc (suc (8 * n)))))))) = omega arith in
    ap (λ (k : ℕ). packed (suc n) (replicate k true)) long ∙ ap (λ (rest : List ℕ). 255 ∷ rest) (packed-free n)

-- the directory of free pages, byte for byte
pub free-directory : (size space count : ℕ) → 8 * (count / 8) ≡ count →
    directory_bytes size space (replicate count true) ≡ full_directory size space count
free-directory size space count whole =
    let long : length (replicate count true) ≡ count = length-replicate {A = Bool} count true in
    let eighth : length (replicate count true) / 8 ≡ count / 8 = ap (λ (k : ℕ). k / 8) long in
    let bits : packed (count / 8) (replicate count true) ≡ replicate (count / 8) 255 =
    ap (λ (k : ℕ). packed (count / 8) (replicate k true)) (sym whole) ∙ packed-free (count / 8) in
    ap (λ (k : ℕ). codes "DIR1" ++ (to_be_bytes w32 space ++ (to_be_bytes w32 k ++ (replicate 4 0
    ++ (packed (length (replicate count true) / 8) (replicate count true)
    ++ replicate (size - (16 + length (replicate count true) / 8)) 0))))) (count-replicate_true count)
    ∙ (ap (λ (k : ℕ). codes "DIR1" ++ (to_be_bytes w32 space ++ (to_be_bytes w32 count ++ (replicate 4 0
    ++ (packed k (replicate count true) ++ replicate (size - (16 + k)) 0))))) eighth
    ∙ ap (λ (xs : List ℕ). codes "DIR1" ++ (to_be_bytes w32 space ++ (to_be_bytes w32 count ++ (replicate 4 0
    ++ (xs ++ replicate (size - (16 + count / 8)) 0))))) bits)

-- ---- the superblock and the catalog

pub length-super : (n : Numbers) → length (super_bytes 2 n) ≡ 256
unfolding super_bytes
length-super n = refl

pub length-front : (n : Numbers) → IsInRange n → length (blank_front n) ≡ front_count n * n.page
length-front n range =
    let low = page_size-low n.page range.page_size in
    let some : n.page ≤ front_count n * n.page = (let rows : front_count n * n.page ≡ n.page + n.catalog * n.page = omega arith in omega
    (arith, rows)) in
    omega (
      arith,
      length-append (super_bytes 2 n) (replicate (front_count n * n.page - 256) 0),
      length-super n,
      length-replicate {A = ℕ} (front_count n * n.page - 256) 0,
      low,
      some,
    )

front-super : (n : Numbers) (bytes : List ℕ) → IsInRange n → image_page n.page bytes 0 ≡ image_page n.page (blank_front n) 0 →
    IsSuper (image_page n.page bytes 0) 2 n
front-super n bytes range same =
    let none : 0 * n.page ≡ 0 = omega arith in
    let low = page_size-low n.page range.page_size in
    record {
      known = refl;
      in_range = range;
      begins =
          ap (take 256) (same ∙ ap (λ (k : ℕ). take n.page (drop k (blank_front n))) none)
          ∙ (take-take 256 n.page (blank_front n) low
          ∙ (ap (λ (k : ℕ). take k (blank_front n)) (sym (length-super n))
          ∙ take-append_seam (super_bytes 2 n) (replicate (front_count n * n.page - 256) 0)));
    }

-- the bytes of an entry are zeros
front-entry : (n : Numbers) (bytes : List ℕ) (o : ℕ) → IsInRange n → o < objects n →
    take (front_count n * n.page) bytes ≡ blank_front n → entry_at n bytes o ≡ replicate 16 0
front-entry n bytes o range inside same =
    let low = page_size-low n.page range.page_size in
    let whole = objects-bytes n range in
    let rows : front_count n * n.page ≡ n.page + n.catalog * n.page = omega arith in
    let place : ℕ = n.page + 16 * o in
    let left : ℕ = front_count n * n.page - place in
    let split : place + left ≡ front_count n * n.page = omega (arith, rows, whole, inside) in
    let room : 16 ≤ left = omega (arith, rows, whole, inside) in
    let behind : place ≡ 256 + (place - 256) = omega (arith, low) in
    let zeros : ℕ = front_count n * n.page - 256 in
    let front : drop place (blank_front n) ≡ replicate (zeros - (place - 256)) 0 =
    ap (λ (k : ℕ). drop k (blank_front n)) behind
    ∙ (sym (drop-drop (place - 256) 256 (blank_front n))
    ∙ (ap (drop (place - 256)) (drop_at (super_bytes 2 n) (replicate zeros 0) 256 (length-super n))
    ∙ drop-replicate (place - 256) zeros 0)) in
    sym (take-take 16 left (drop place bytes) room)
    ∙ (ap (take 16) (sym (drop-take place left bytes))
    ∙ (ap (λ (k : ℕ). take 16 (drop place (take k bytes))) split
    ∙ (ap (λ (xs : List ℕ). take 16 (drop place xs)) same
    ∙ (ap (take 16) front
    ∙ take-replicate 16 (zeros - (place - 256)) 0 (omega (arith, rows, whole, inside, low))))))

none-entry : entry_bytes 2 None ≡ replicate 16 0
unfolding entry_bytes
none-entry = refl

-- the superblock on its page, and zeros
pub front-made : (n : Numbers) (before : List ℕ) → IsInRange n → length before ≡ front_count n * n.page →
    take n.page before ≡ super_bytes 2 n ++ replicate (n.page - 256) 0 →
    take n.page before ++ replicate (length before - n.page) 0 ≡ blank_front n
front-made n before range long first =
    let low = page_size-low n.page range.page_size in
    let rows : front_count n * n.page ≡ n.page + n.catalog * n.page = omega arith in
    let zeros : n.page - 256 + (length before - n.page) ≡ front_count n * n.page - 256 = omega (arith, low, rows, long) in
    ap (λ (xs : List ℕ). xs ++ replicate (length before - n.page) 0) first
    ∙ (append_assoc (super_bytes 2 n) (replicate (n.page - 256) 0) (replicate (length before - n.page) 0)
    ∙ ap (λ (xs : List ℕ). super_bytes 2 n ++ xs)
    (replicate-append-replicate (n.page - 256) (length before - n.page) 0 ∙ ap (λ (k : ℕ). replicate k 0) zeros))

-- ---- the image

map-const : {A B : Type 0} (f : A → B) (b : B) (xs : List A) → ((x : A) → f x ≡ b) → map f xs ≡ replicate (length xs) b
map-const f b [] same = refl
map-const f b (x ∷ xs) same = ap (λ y. y ∷ map f xs) (same x) ∙ ap (λ ys. b ∷ ys) (map-const f b xs same)

pub all-free : (n : Numbers) (moment : Moment) (s : ℕ) → IsAllAbsent moment → free_in n moment s ≡ replicate (space_pages n) true
all-free n moment s absent =
    map-const (λ (at : ℕ). is_free n (data_page n s at) moment) true (range_with_len 0 (space_pages n))
    (λ at. absent-free n moment absent (data_page n s at))
    ∙ ap (λ (k : ℕ). replicate k true) (length-range_with_len 0 (space_pages n))

absent-stored : (at : Pages) (version : Version) → version ≡ None → IsStored at version
absent-stored at version none = subst (IsStored at) (sym none) tt

pub blank-closed : (n : Numbers) (old : Pages) (bytes : List ℕ) → IsInRange n → length bytes ≡ store_bytes n →
    IsStoreWritten n (blank_directory n) (blank_front n) old (image_pages n bytes) → IsClosedAt n (blank_moment n) bytes
blank-closed n old bytes range long written =
    let absent : IsAllAbsent (blank_moment n) = fresh-absent (objects n) in
    let rows : front_count n * n.page ≤ store_bytes n = omega arith in
    let front = same-pages n.page (front_count n) bytes (blank_front n) (length-front n range) (omega (arith, long, rows)) written.front in
    record {
      size = omega (arith, long);
      super = front-super n bytes range (written.front 0 (omega arith));
      entries = λ o inside. front-entry n bytes o range inside front
          ∙ (sym none-entry ∙ ap (λ (slot : ObjectSlot). entry_bytes 2 (version_entry slot.committed)) (sym (absent o)));
      directories = λ s store. written.directories s store
          ∙ ap (directory_bytes n.page s) (sym (all-free n (blank_moment n) s absent));
      nodes = λ o inside. absent-stored (image_pages n bytes) (object_slot (blank_moment n) o).committed
          (ap (λ (slot : ObjectSlot). slot.committed) (absent o));
    }

map-replicate : {A B : Type 0} (f : A → B) (x : A) (n : ℕ) → map f (replicate n x) ≡ replicate n (f x)
map-replicate f x zero = refl
map-replicate f x (suc n) = ap (λ ys. f x ∷ ys) (map-replicate f x n)

blank-plain : (n : Numbers) (at : Pages) →
    map (λ (slot : ObjectSlot). version_plain at n.page slot.committed) (blank_moment n) ≡ blank_database n
blank-plain n at = map-replicate (λ (slot : ObjectSlot). version_plain at n.page slot.committed) absent_slot (objects n)

pub blank-formatted : (n : Numbers) (old bytes : List ℕ) → IsInRange n → length bytes ≡ store_bytes n →
    IsStoreWritten n (blank_directory n) (blank_front n) (image_pages n (resized (store_bytes n) old)) (image_pages n bytes) →
    IsFormatted n old bytes
blank-formatted n old bytes range long written =
    let absent : IsAllAbsent (blank_moment n) = fresh-absent (objects n) in
    let sound : IsSound IsGood n (λ o. false) (blank_moment n) = absent-sound IsGood n (λ o. false) (blank_moment n) absent in
    let slots : length (blank_moment n) ≡ objects n = length-replicate (objects n) absent_slot in
    let closed = blank-closed n (image_pages n (resized (store_bytes n) old)) bytes range long written in
    record {
      size = long;
      image = subst (λ (database : List Plain). Image bytes n database (blank_moment n)) (blank-plain n (image_pages n bytes))
          (closed-image bytes n (blank_moment n) sound slots closed);
      version = closed-version bytes n (blank_moment n) closed;
      opens = closed-opens bytes n (blank_moment n) sound slots closed;
      written = written;
    }
