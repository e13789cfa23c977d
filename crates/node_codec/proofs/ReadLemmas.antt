-- A node read place by place: what the tests on a page mean, and what they miss nothing of.
use Rattle.std.proofs.Common.{◌≡◌, ℕ, zero, suc, ◌+◌, ◌-◌, ◌*◌, ◌^◌, ◌<◌, ◌≤◌, List, [], ◌∷◌, ◌++◌, length, take}
use Rattle.std.proofs.Common.{drop, replicate, slice_index, refl, sym, ap, subst, ◌∙◌, length-append, arith}
use Rattle.std.specs.List.{AllByRecursion, flat_map}
use Rattle.std.specs.Int.{w16, w32, w64, to_be_bytes, from_be_bytes}
use Rattle.std.proofs.lemmas.List.{drop-drop, length-drop, take-append-drop}
use Rattle.std.proofs.Math.Seq.{drop-append_seam}
use Rattle.std.proofs.lemmas.Nat.{from_be_bytes-to_be_bytes_2}
use Rattle.byteorder.specs.Endian.{big_from}
use Rattle.tree_model.specs.declared.entry.Pair.{Pair}
use Rattle.tree_model.specs.Node.{IsPair, NodeBytes, pair_bytes, head_bytes, pair_in, pairs_in}
use Rattle.tree_model.proofs.NodeLemmas.{drop-head, length-pair_bytes, node_in-level, node_in-pairs, pairs_in-flat_map}
use Rattle.node_codec.specs.Head.{IsHead}
use Rattle.node_codec.proofs.NumberLemmas.{AreBytes, AreBytes-drop, big4, big8, fits2, fits4, fits8, bytes2, bytes4, bytes8, take-sum}

abbrev pub pair : ℕ → ℕ → Pair
pair bytes page = record { bytes = bytes; page = page }

-- the two numbers of a pair, read one after the other
pub pair-read : (b n at : ℕ) (page : List ℕ) → b ≡ big_from 0 8 (drop at page) → n ≡ big_from 0 4 (drop (at + 8) page)
    → pair b n ≡ pair_in (drop at page)
unfolding pair_in
pair-read b n at page e f =
    let behind = drop-drop 8 at page in
    let count : b ≡ from_be_bytes w64 (drop at page) = e ∙ big8 (drop at page) in
    let named : n ≡ from_be_bytes w32 (drop 8 (drop at page)) = f ∙ big4 (drop (at + 8) page) ∙ ap (from_be_bytes w32) (sym behind) in
    ap (λ (x : ℕ). pair x n) count ∙ ap (λ (x : ℕ). pair (from_be_bytes w64 (drop at page)) x) named

-- there are as many pairs as were read
pub length-pairs_in : (n : ℕ) (bs : List ℕ) → length (pairs_in n bs) ≡ n
length-pairs_in zero bs = refl
length-pairs_in (suc n) bs = let e = length-pairs_in n (drop 12 bs) in omega (arith, e)

-- one pair more
pub pairs_in-more : (n : ℕ) (bs : List ℕ) → pairs_in (n + 1) bs ≡ pairs_in n bs ++ pair_in (drop (12 * n) bs) ∷ []
pairs_in-more zero bs = refl
pairs_in-more (suc n) bs =
    let e : suc n + 1 ≡ suc (n + 1) = omega arith in
    let f : 12 * suc n ≡ 12 + 12 * n = omega arith in
    let behind = drop-drop (12 * n) 12 bs in
    let rest = pairs_in-more n (drop 12 bs) in
    rw (e, f, ← behind, rest) refl

-- the bytes of a pair that was read
pair_bytes-pair_in : (bs : List ℕ) → 12 ≤ length bs → AreBytes bs → pair_bytes (pair_in bs) ≡ take 12 bs
unfolding pair_bytes pair_in
pair_bytes-pair_in bs long h =
    let count = bytes8 bs (omega arith) h in
    let named = bytes4 (drop 8 bs) (omega (arith, length-drop 8 bs)) (AreBytes-drop 8 bs h) in
    ap (λ (x : List ℕ). x ++ to_be_bytes w32 (from_be_bytes w32 (drop 8 bs))) count
    ∙ ap (λ (x : List ℕ). take 8 bs ++ x) named
    ∙ sym (take-sum 8 4 bs)

-- the bytes of pairs that were read
flat_map-pairs_in : (n : ℕ) (bs : List ℕ) → 12 * n ≤ length bs → AreBytes bs → flat_map pair_bytes (pairs_in n bs) ≡ take (12 * n) bs
flat_map-pairs_in zero bs long h = refl
flat_map-pairs_in (suc n) bs long h =
    let e : 12 * suc n ≡ 12 + 12 * n = omega arith in
    let first = pair_bytes-pair_in bs (omega arith) h in
    let rest = flat_map-pairs_in n (drop 12 bs) (omega (arith, length-drop 12 bs)) (AreBytes-drop 12 bs h) in
    rw (e, take-sum 12 (12 * n) bs, first, rest) refl

-- a count in each place is one that a pair may have
pairs_in-IsPair : (n : ℕ) (bs : List ℕ) → AreBytes bs → ((k : ℕ) → k < n → 1 ≤ from_be_bytes w64 (drop (12 * k) bs))
    → AllByRecursion IsPair (pairs_in n bs)
unfolding pair_in
pairs_in-IsPair zero bs h each = tt
pairs_in-IsPair (suc n) bs h each =
    let later : (k : ℕ) → k < n → 1 ≤ from_be_bytes w64 (drop (12 * k) (drop 12 bs)) = λ k l.
    let f : 12 * suc k ≡ 12 + 12 * k = omega arith in
    let P : List ℕ → Type 0 = λ xs. 1 ≤ from_be_bytes w64 xs in
    subst P (ap (λ (i : ℕ). drop i bs) f ∙ sym (drop-drop (12 * k) 12 bs)) (each (suc k) (omega arith)) in (
      record { some = each 0 (omega arith); count_fits = fits8 bs h; page_fits = fits4 (drop 8 bs) (AreBytes-drop 8 bs h) },
      pairs_in-IsPair n (drop 12 bs) (AreBytes-drop 12 bs h) later,
    )

-- the first eight items, one by one and in two parts
split8 : (xs : List ℕ) → 8 ≤ length xs
    → slice_index xs 0 ∷ slice_index xs 1 ∷ take 2 (drop 2 xs) ++ take 4 (drop 4 xs) ≡ take 8 xs
split8 (a ∷ b ∷ c ∷ d ∷ e ∷ f ∷ g ∷ h ∷ xs) long = refl
split8 xs long = absurd (omega arith)

-- the head that was read
head-read : (page : List ℕ) (count : ℕ) → AreBytes page → IsHead page count → head_bytes (slice_index page 1) count ≡ take 8 page
unfolding head_bytes
head-read page count h head =
    let long = head.long in
    let two = ap (to_be_bytes w16) head.counted ∙ bytes2 (drop 2 page) (omega (arith, length-drop 2 page)) (AreBytes-drop 2 page h) in
    let four = ap (to_be_bytes w32) (sym head.zeros) ∙ bytes4 (drop 4 page) (omega (arith, length-drop 4 page)) (AreBytes-drop 4 page h) in
    ap (λ (m : ℕ). m ∷ slice_index page 1 ∷ to_be_bytes w16 count ++ to_be_bytes w32 0) (sym head.mark)
    ∙ ap (λ (x : List ℕ). slice_index page 0 ∷ slice_index page 1 ∷ x ++ to_be_bytes w32 0) two
    ∙ ap (λ (x : List ℕ). slice_index page 0 ∷ slice_index page 1 ∷ take 2 (drop 2 page) ++ x) four
    ∙ split8 page long

-- a page that passes the tests holds the node that is read from it
pub NodeBytes-read : (page : List ℕ) (count : ℕ) → AreBytes page → IsHead page count
    → ((k : ℕ) → k < count → 1 ≤ from_be_bytes w64 (drop (8 + 12 * k) page))
    → drop (8 + 12 * count) page ≡ replicate (length page - (8 + 12 * count)) 0
    → NodeBytes page (slice_index page 1) (pairs_in count (drop 8 page))
NodeBytes-read page count h head each blank =
    let body = drop 8 page in
    let body_bytes = AreBytes-drop 8 page h in
    let number = length-pairs_in count body in
    let later : (k : ℕ) → k < count → 1 ≤ from_be_bytes w64 (drop (12 * k) body) = λ k l.
    let P : List ℕ → Type 0 = λ xs. 1 ≤ from_be_bytes w64 xs in
    subst P (sym (drop-drop (12 * k) 8 page)) (each k l) in
    let room = head.room in
    let some = head.some in
    let fits : count < 2 ^ 16 = subst (λ (n : ℕ). n < 2 ^ 16) (sym head.counted) (fits2 (drop 2 page) (AreBytes-drop 2 page h)) in
    let pairs = flat_map-pairs_in count body (omega (arith, length-drop 8 page)) body_bytes in
    let whole : page ≡ head_bytes (slice_index page 1) count
    ++ (flat_map pair_bytes (pairs_in count body) ++ replicate (length page - (8 + 12 * count)) 0) =
    sym (take-append-drop 8 page)
    ∙ ap (λ (x : List ℕ). x ++ drop 8 page) (sym (head-read page count h head))
    ∙ ap (λ (x : List ℕ). head_bytes (slice_index page 1) count ++ x)
    (sym (take-append-drop (12 * count) body)
    ∙ ap (λ (x : List ℕ). x ++ drop (12 * count) body) (sym pairs)
    ∙ ap (λ (x : List ℕ). flat_map pair_bytes (pairs_in count body) ++ x) (drop-drop (12 * count) 8 page ∙ blank)) in
    record {
      sound = record {
        low = head.level;
        high = h 1;
        some = omega arith;
        room = omega arith;
        count_fits = omega arith;
        each = pairs_in-IsPair count body body_bytes later;
      };
      bytes = whole ∙ ap (λ (n : ℕ). head_bytes (slice_index page 1) n
          ++ (flat_map pair_bytes (pairs_in count body) ++ replicate (length page - (8 + 12 * n)) 0)) (sym number);
    }

-- a page that holds a node has its head
pub IsHead-NodeBytes : (page : List ℕ) (level : ℕ) (pairs : List Pair) → NodeBytes page level pairs → IsHead page (length pairs)
unfolding head_bytes
IsHead-NodeBytes page level pairs h =
    let room = h.sound.room in
    record {
      long = omega arith;
      mark = rw h.bytes refl;
      level = rw h.bytes h.sound.low;
      counted = rw h.bytes (sym (from_be_bytes-to_be_bytes_2 (length pairs) h.sound.count_fits));
      zeros = rw h.bytes refl;
      some = h.sound.some;
      room = room;
    }

-- the head says how many pairs there are
pub IsHead-same : (page : List ℕ) (m n : ℕ) → IsHead page m → IsHead page n → m ≡ n
IsHead-same page m n h k = h.counted ∙ sym k.counted

-- a pair among those that are read
pairs_in-at : (n : ℕ) (bs : List ℕ) (k : ℕ) → k < n → AllByRecursion IsPair (pairs_in n bs) → 1 ≤ from_be_bytes w64 (drop (12 * k) bs)
unfolding pair_in
pairs_in-at zero bs k l each = absurd (omega arith)
pairs_in-at (suc n) bs zero l each = each.0.some
pairs_in-at (suc n) bs (suc k) l each =
    let f : 12 * suc k ≡ 12 + 12 * k = omega arith in
    let P : List ℕ → Type 0 = λ xs. 1 ≤ from_be_bytes w64 xs in
    subst P (drop-drop (12 * k) 12 bs ∙ ap (λ (i : ℕ). drop i bs) (sym f)) (pairs_in-at n (drop 12 bs) k (omega arith) each.1)

-- what follows the head of a node's page
body-NodeBytes : (page : List ℕ) (level : ℕ) (pairs : List Pair) → NodeBytes page level pairs
    → drop 8 page ≡ flat_map pair_bytes pairs ++ replicate (length page - (8 + 12 * length pairs)) 0
body-NodeBytes page level pairs h = ap (drop 8) h.bytes ∙ drop-head level (length pairs) _

-- each pair of a node has a byte under it
pub each-NodeBytes : (page : List ℕ) (level : ℕ) (pairs : List Pair) → NodeBytes page level pairs
    → (k : ℕ) → k < length pairs → 1 ≤ from_be_bytes w64 (drop (8 + 12 * k) page)
each-NodeBytes page level pairs h k l =
    let tail = replicate (length page - (8 + 12 * length pairs)) 0 in
    let same : pairs_in (length pairs) (drop 8 page) ≡ pairs =
    ap (pairs_in (length pairs)) (body-NodeBytes page level pairs h) ∙ pairs_in-flat_map pairs tail h.sound.each in
    let each = subst (AllByRecursion IsPair) (sym same) h.sound.each in
    let P : List ℕ → Type 0 = λ xs. 1 ≤ from_be_bytes w64 xs in
    subst P (drop-drop (12 * k) 8 page) (pairs_in-at (length pairs) (drop 8 page) k l each)

length-flat_map-pair_bytes : (pairs : List Pair) → length (flat_map pair_bytes pairs) ≡ 12 * length pairs
length-flat_map-pair_bytes [] = refl
length-flat_map-pair_bytes (p ∷ ps) =
    let rest = length-flat_map-pair_bytes ps in
    let first = length-pair_bytes p in
    let whole = length-append (pair_bytes p) (flat_map pair_bytes ps) in
    omega (arith, rest, first, whole)

-- behind the pairs a node's page is blank
pub blank-NodeBytes : (page : List ℕ) (level : ℕ) (pairs : List Pair) → NodeBytes page level pairs
    → drop (8 + 12 * length pairs) page ≡ replicate (length page - (8 + 12 * length pairs)) 0
blank-NodeBytes page level pairs h =
    let tail = replicate (length page - (8 + 12 * length pairs)) 0 in
    sym (drop-drop (12 * length pairs) 8 page)
    ∙ ap (drop (12 * length pairs)) (body-NodeBytes page level pairs h)
    ∙ ap (λ (n : ℕ). drop n (flat_map pair_bytes pairs ++ tail)) (sym (length-flat_map-pair_bytes pairs))
    ∙ drop-append_seam (flat_map pair_bytes pairs) tail

-- a page holds one node at most
pub NodeBytes-same : (page : List ℕ) (l m : ℕ) (ps qs : List Pair) → NodeBytes page l ps → NodeBytes page m qs → (l ≡ m) × (ps ≡ qs)
NodeBytes-same page l m ps qs h k =
    (sym (node_in-level page l ps h) ∙ node_in-level page m qs k, sym (node_in-pairs page l ps h) ∙ node_in-pairs page m qs k)

-- where the head is that of the page's node, so are the pairs and what is behind them
pub each-IsHead : (page : List ℕ) (count level : ℕ) (pairs : List Pair) → IsHead page count → NodeBytes page level pairs
    → (k : ℕ) → k < count → 1 ≤ from_be_bytes w64 (drop (8 + 12 * k) page)
each-IsHead page count level pairs head h k l =
    let same = IsHead-same page count (length pairs) head (IsHead-NodeBytes page level pairs h) in
    each-NodeBytes page level pairs h k (omega arith)

pub blank-IsHead : (page : List ℕ) (count level : ℕ) (pairs : List Pair) → IsHead page count → NodeBytes page level pairs
    → drop (8 + 12 * count) page ≡ replicate (length page - (8 + 12 * count)) 0
blank-IsHead page count level pairs head h =
    let same = IsHead-same page count (length pairs) head (IsHead-NodeBytes page level pairs h) in
    rw same (blank-NodeBytes page level pairs h)
