-- Where the superblock and each entry stand in the bytes of the front pages.
use Rattle.std.proofs.Common.{◌≡◌, ℕ, ◌+◌, ◌-◌, ◌*◌, ◌<◌, ◌≤◌, List, [], ◌∷◌, ◌++◌, length, take, drop, get_or, map}
use Rattle.std.proofs.Common.{replicate, refl, sym, ap, ◌∙◌, arith, Option, Some, None, length-append, append-nil, append_assoc}
use Rattle.std.specs.List.{concat, flat_map}
use Rattle.std.proofs.lemmas.List.{take-take, drop-take, drop-drop, drop_at, take_more, length-map, length-replicate, get_or-map}
use Rattle.std.proofs.lemmas.List.{map-append, take_all, length-take-le}
use Rattle.std.proofs.lemmas.Grind.{flat_map-append}
use Rattle.std.proofs.Math.Seq.{take-append_seam}
use Rattle.geometry_model.specs.Numbers.{Numbers, IsInRange, objects}
use Rattle.geometry_model.proofs.NumberLaws.{page_size-low, objects-bytes}
use Rattle.tree_pages.specs.Entry.{Entry}
use Rattle.tree_model.specs.declared.tree.Root.{Root}
use Rattle.object_body.specs.Stored.{entry_of, root_in, threshold_in}
use Rattle.page_port.specs.Pages.{AreOf}
use Rattle.image_model.specs.Super.{image_page, super_bytes, IsSuper}
use Rattle.image_model.specs.Catalog.{entry_at, entry_bytes}
use Rattle.image_format.proofs.SuperLemmas.{super-begins}
use Rattle.store_format.specs.Writing.{front_count}
use Rattle.store_format.proofs.RowLemmas.{row-image, length-concat}
use Rattle.store_format.proofs.BlankLemmas.{length-super}
use Rattle.image_store.specs.Closing.{closed_front}

pub length-entry : (entry : Entry) → length (entry_bytes 2 entry) ≡ 16
unfolding entry_bytes
length-entry None = refl
length-entry (Some present) = refl

concat-mapped : (f : Entry → List ℕ) (entries : List Entry) → concat (map f entries) ≡ flat_map f entries
concat-mapped f [] = refl
concat-mapped f (e ∷ es) = ap (λ (rest : List ℕ). f e ++ rest) (concat-mapped f es)

entries-sized : (entries : List Entry) → AreOf 16 (map (entry_bytes 2) entries)
entries-sized entries = λ k d inside.
    ap length (get_or-map (entry_bytes 2) entries k None d (omega (arith, length-map entries (entry_bytes 2), inside)))
    ∙ length-entry (get_or entries k None)

pub length-entries : (entries : List Entry) → length (flat_map (entry_bytes 2) entries) ≡ 16 * length entries
length-entries entries =
    ap length (sym (concat-mapped (entry_bytes 2) entries))
    ∙ omega (arith, length-concat 16 (map (entry_bytes 2) entries) (entries-sized entries), length-map entries (entry_bytes 2))

-- the entry at a place of all
pub entry-among : (entries : List Entry) (o : ℕ) → o < length entries →
    take 16 (drop (16 * o) (flat_map (entry_bytes 2) entries)) ≡ entry_bytes 2 (get_or entries o None)
entry-among entries o inside =
    let rows = map (entry_bytes 2) entries in
    let place : 16 * o ≡ o * 16 = omega arith in
    ap (λ (k : ℕ). take 16 (drop k (flat_map (entry_bytes 2) entries))) place
    ∙ (ap (λ (xs : List ℕ). take 16 (drop (o * 16) xs)) (sym (concat-mapped (entry_bytes 2) entries) ∙ sym (append-nil (concat rows)))
    ∙ (row-image 16 rows [] (entries-sized entries) o (omega (arith, length-map entries (entry_bytes 2), inside))
    ∙ get_or-map (entry_bytes 2) entries o None [] inside))

-- the page of the superblock
abbrev pub super_page : Numbers → List ℕ
super_page n = super_bytes 2 n ++ replicate (n.page - 256) 0

pub length-super_page : (n : Numbers) → IsInRange n → length (super_page n) ≡ n.page
length-super_page n range =
    omega (
      arith,
      length-append (super_bytes 2 n) (replicate (n.page - 256) 0),
      length-super n,
      length-replicate {A = ℕ} (n.page - 256) 0,
      page_size-low n.page range.page_size,
    )

pub length-closed : (n : Numbers) (entries : List Entry) → IsInRange n → length entries ≡ objects n →
    length (closed_front n entries) ≡ front_count n * n.page
length-closed n entries range many =
    let rows : front_count n * n.page ≡ n.page + n.catalog * n.page = omega arith in
    omega (
      arith,
      length-append (super_page n) (flat_map (entry_bytes 2) entries),
      length-super_page n range,
      length-entries entries,
      objects-bytes n range,
      many,
      rows,
    )

pub closed-super : (n : Numbers) (entries : List Entry) → IsInRange n → IsSuper (image_page n.page (closed_front n entries) 0) 2 n
closed-super n entries range =
    let none : 0 * n.page ≡ 0 = omega arith in
    let first : image_page n.page (closed_front n entries) 0 ≡ super_page n =
    ap (λ (k : ℕ). take n.page (drop k (closed_front n entries))) none
    ∙ (ap (λ (k : ℕ). take k (closed_front n entries)) (sym (length-super_page n range))
    ∙ take-append_seam (super_page n) (flat_map (entry_bytes 2) entries)) in
    super-begins n (image_page n.page (closed_front n entries) 0) (replicate (n.page - 256) 0) range first

pub closed-entry : (n : Numbers) (bytes : List ℕ) (entries : List Entry) (o : ℕ) → IsInRange n → length entries ≡ objects n →
    o < objects n → take (front_count n * n.page) bytes ≡ closed_front n entries →
    entry_at n bytes o ≡ entry_bytes 2 (get_or entries o None)
closed-entry n bytes entries o range many inside same =
    let whole = objects-bytes n range in
    let rows : front_count n * n.page ≡ n.page + n.catalog * n.page = omega arith in
    let place : ℕ = n.page + 16 * o in
    let left : ℕ = front_count n * n.page - place in
    let split : place + left ≡ front_count n * n.page = omega (arith, rows, whole, inside) in
    let room : 16 ≤ left = omega (arith, rows, whole, inside) in
    sym (take-take 16 left (drop place bytes) room)
    ∙ (ap (take 16) (sym (drop-take place left bytes))
    ∙ (ap (λ (k : ℕ). take 16 (drop place (take k bytes))) split
    ∙ (ap (λ (xs : List ℕ). take 16 (drop place xs)) same
    ∙ (ap (take 16) (sym (drop-drop (16 * o) n.page (closed_front n entries))
    ∙ ap (drop (16 * o)) (drop_at (super_page n) (flat_map (entry_bytes 2) entries) n.page (length-super_page n range)))
    ∙ entry-among entries o (omega (arith, many, inside))))))

-- ---- one entry behind the other

-- the entries of the first items, and of one more
pub entries-more : {X : Type 0} (f : X → Entry) (xs : List X) (o : ℕ) (x : X) → o < length xs → x ≡ get_or xs o x →
    flat_map (entry_bytes 2) (map f (take (o + 1) xs)) ≡ flat_map (entry_bytes 2) (map f (take o xs)) ++ entry_bytes 2 (f x)
entries-more {X} f xs o x inside is =
    ap (λ (ys : List X). flat_map (entry_bytes 2) (map f ys)) (take_more xs o x inside)
    ∙ (ap (flat_map (entry_bytes 2)) (map-append f (take o xs) (get_or xs o x ∷ []))
    ∙ (flat_map-append (entry_bytes 2) (map f (take o xs)) (f (get_or xs o x) ∷ [])
    ∙ (ap (λ (y : X). flat_map (entry_bytes 2) (map f (take o xs)) ++ (entry_bytes 2 (f y) ++ [])) (sym is)
    ∙ ap (λ (bytes : List ℕ). flat_map (entry_bytes 2) (map f (take o xs)) ++ bytes) (append-nil (entry_bytes 2 (f x))))))

-- an entry that was copied over its place
pub entry-spliced : (at : ℕ) (old bytes rest : List ℕ) → at ≤ length old → length bytes ≡ 16 →
    take (at + 16) (take at old ++ (bytes ++ rest)) ≡ take at old ++ bytes
entry-spliced at old bytes rest inside long =
    let front : List ℕ = take at old ++ bytes in
    let count : length front ≡ at + 16 =
    length-append (take at old) bytes ∙ omega (arith, length-take-le at old inside, long) in
    ap (take (at + 16)) (sym (append_assoc (take at old) bytes rest))
    ∙ (ap (λ (k : ℕ). take k (front ++ rest)) (sym count) ∙ take-append_seam front rest)

-- an entry is put behind those of the objects before
pub entry-put : {X : Type 0} (f : X → Entry) (xs : List X) (o : ℕ) (x : X) (entry : Entry) (old new : List ℕ) → o < length xs →
    x ≡ get_or xs o x → entry ≡ f x → take (16 * o) old ≡ flat_map (entry_bytes 2) (map f (take o xs)) →
    take (16 * o + 16) new ≡ take (16 * o) old ++ entry_bytes 2 entry →
    take (16 * (o + 1)) new ≡ flat_map (entry_bytes 2) (map f (take (o + 1) xs))
entry-put {X} f xs o x entry old new inside is named before put =
    let place : 16 * (o + 1) ≡ 16 * o + 16 = omega arith in
    ap (λ (k : ℕ). take k new) place
    ∙ (put ∙ (ap (λ (bytes : List ℕ). bytes ++ entry_bytes 2 entry) before
    ∙ (ap (λ (e : Entry). flat_map (entry_bytes 2) (map f (take o xs)) ++ entry_bytes 2 e) named
    ∙ sym (entries-more f xs o x inside is))))

-- all entries stand
pub entries-put : {X : Type 0} (f : X → Entry) (xs : List X) (o : ℕ) (out : List ℕ) → length xs ≤ o → length out ≡ 16 * length xs →
    take (16 * o) out ≡ flat_map (entry_bytes 2) (map f (take o xs)) → out ≡ flat_map (entry_bytes 2) (map f xs)
entries-put {X} f xs o out all long stand =
    sym (take_all (16 * o) out (omega (arith, all, long)))
    ∙ (stand ∙ ap (λ (ys : List X). flat_map (entry_bytes 2) (map f ys)) (take_all o xs all))

-- the superblock is put before them
pub front-put : (n : Numbers) (entries : List Entry) (size : ℕ) (room out rest : List ℕ) → size ≡ n.page →
    take n.page room ≡ super_page n → out ≡ flat_map (entry_bytes 2) entries → rest ≡ [] →
    take size room ++ (out ++ rest) ≡ closed_front n entries
front-put n entries size room out rest same head behind none =
    ap (λ (k : ℕ). take k room ++ (out ++ rest)) same
    ∙ (ap (λ (xs : List ℕ). xs ++ (out ++ rest)) head
    ∙ (ap (λ (xs : List ℕ). super_page n ++ (out ++ xs)) none
    ∙ (ap (λ (xs : List ℕ). super_page n ++ xs) (append-nil out) ∙ ap (λ (xs : List ℕ). super_page n ++ xs) behind)))

-- ---- what the catalog says of an object

-- an entry is its root with its threshold
pub entry-named : (entry : Entry) (root : Option Root) (threshold : ℕ) → root ≡ root_in entry → threshold ≡ threshold_in entry →
    entry_of root threshold ≡ entry
entry-named None root threshold is same = ap (λ (r : Option Root). entry_of r threshold) is
entry-named (Some present) root threshold is same =
    ap (λ (r : Option Root). entry_of r threshold) is ∙ ap (entry_of (Some present.root)) same
