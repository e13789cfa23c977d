-- A read over several segments, one after the other.
use Rattle.std.proofs.Common.{◌≡◌, ℕ, zero, suc, ◌+◌, ◌-◌, ◌<◌, ◌≤◌, Bool, List, [], ◌∷◌, ◌++◌, length, take, drop}
use Rattle.std.proofs.Common.{min, get_or, refl, sym, ap, ◌∙◌, subst, inl, inr, arith, append_assoc, length-drop}
use Rattle.std.proofs.Common.{drop-cons, append-nil}
use Rattle.std.specs.Prelude.{IsTrue}
use Rattle.std.specs.List.{AllByRecursion}
use Rattle.std.proofs.lemmas.Bool.{cases_lt}
use Rattle.std.proofs.lemmas.List.{take_all, take-append-le, drop-append-le, drop_all, length-map, length-take-le}
use Rattle.std.proofs.Math.ListN.{get_or-map}
use Rattle.std.proofs.Math.Seq.{take-append-add, drop-append-add}
use Rattle.std.proofs.lemmas.List.Sums.{sum_by-cons}
use Rattle.fault_count.specs.Counts.{Meter, Reads}
use Rattle.tree_model.specs.declared.entry.Pair.{Pair}
use Rattle.tree_model.specs.declared.entry.Placed.{Placed}
use Rattle.tree_model.specs.Tree.{Pages, bytes_of}
use Rattle.tree_model.specs.Range.{Covers, pairs_of, start_of}
use Rattle.tree_model.specs.Content.{content, segment_bytes}
use Rattle.tree_model.proofs.RangeLemmas.{no_segment, next-pair}
use Rattle.seg_bytes.specs.Segments.{pages_touched, touched}
use Rattle.seg_bytes.proofs.Runs.{take-joined}
use Rattle.fault_count.proofs.CountLaws.{Reads-none, Reads-then, Reads-more}

-- `done` bytes were read from the segments before the j-th, and the others stand from byte `skip` of the rest on
pub record IsReading (told : Bool) (at : Pages) (size first len : ℕ) (pairs : List Pair) (j done skip : ℕ)
    (out : List ℕ) (old now : Meter) : Type 0 where
  pub within : done ≤ len
  pub enough : 0 < len - done → skip + (len - done) ≤ bytes_of (drop j pairs)
  pub bytes : IsTrue told → take done out ++ take (len - done) (drop skip (content at size (drop j pairs)))
      ≡ take len (drop first (content at size pairs))
  pub quiet : now.faults ≡ old.faults
  pub so_far : ℕ
  pub reads : Reads so_far old now
  pub all : so_far + touched size (drop j pairs) skip (len - done) ≡ touched size pairs first len

pub IsReading-none : (told : Bool) (at : Pages) (size place len : ℕ) (placed : List Placed) (out : List ℕ)
    (m : Meter) → Covers placed place (place + len)
    → IsReading told at size (place - start_of placed) len (pairs_of placed) 0 0 (place - start_of placed) out m m
IsReading-none told at size place len placed out m covers =
    let all : len - 0 ≡ len = omega arith in
    record {
      within = omega arith;
      enough = λ more. let from = covers.first (omega arith) in let to = covers.last (omega arith) in omega arith;
      bytes = λ told. ap (λ (k : ℕ). take k (drop (place - start_of placed) (content at size (pairs_of placed)))) all;
      quiet = refl;
      so_far = 0;
      reads = Reads-none 0 m;
      all = let none : 0 + touched size (pairs_of placed) (place - start_of placed) (len - 0)
          ≡ touched size (pairs_of placed) (place - start_of placed) (len - 0) = omega arith in
          none ∙ ap (touched size (pairs_of placed) (place - start_of placed)) all;
    }

-- bytes of two lists joined, from a place on
take-drop-joined : (n k : ℕ) (xs ys : List ℕ) →
    take n (drop k (xs ++ ys)) ≡ take (min n (length xs - k)) (drop k xs) ++ take (n - (length xs - k))
    (drop (k - length xs) ys)
take-drop-joined n k xs ys = elim (cases_lt k (length xs)) [
  | inl inside ↦
      let left : length (drop k xs) ≡ length xs - k = length-drop k xs in
      let none : k - length xs ≡ 0 = omega arith in
      let start : drop k (xs ++ ys) ≡ drop k xs ++ ys = drop-append-le k xs ys (omega arith) in
      ap (take n) start ∙ elim (cases_lt (length xs - k) n) [
        | inl more ↦
            let parts : n ≡ length (drop k xs) + (n - (length xs - k)) = omega arith in
            let least : min n (length xs - k) ≡ length xs - k = omega arith in
            ap (λ (m : ℕ). take m (drop k xs ++ ys)) parts ∙ take-append-add (drop k xs) ys (n - (length xs - k))
            ∙ ap (λ (front : List ℕ). front ++ take (n - (length xs - k)) ys)
            (sym (take_all (min n (length xs - k)) (drop k xs) (omega arith)))
            ∙ sym (ap (λ (m : ℕ). take (min n (length xs - k)) (drop k xs) ++ take (n - (length xs - k)) (drop m ys)) none)
        | inr less ↦
            let least : min n (length xs - k) ≡ n = omega arith in
            let nothing : n - (length xs - k) ≡ 0 = omega arith in
            take-append-le n (drop k xs) ys (omega arith)
            ∙ sym (append-nil (take n (drop k xs)))
            ∙ sym (ap (λ (m : ℕ). take m (drop k xs) ++ take (n - (length xs - k)) (drop (k - length xs) ys)) least
            ∙ ap (λ (m : ℕ). take n (drop k xs) ++ take m (drop (k - length xs) ys)) nothing)
      ]
  | inr behind ↦
      let parts : k ≡ length xs + (k - length xs) = omega arith in
      let least : min n (length xs - k) ≡ 0 = omega arith in
      let all : n - (length xs - k) ≡ n = omega arith in
      ap (λ (m : ℕ). take n (drop m (xs ++ ys))) parts ∙ ap (take n) (drop-append-add xs ys (k - length xs))
      ∙ sym (ap (λ (m : ℕ). take m (drop k xs) ++ take (n - (length xs - k)) (drop (k - length xs) ys)) least
      ∙ ap (λ (m : ℕ). take m (drop (k - length xs) ys)) all)
]

-- one segment more
pub IsReading-more : (told : Bool) (at : Pages) (size first len : ℕ) (pairs rest : List Pair) (p : Pair)
    (j done skip count : ℕ) (out part next : List ℕ) (old mid new : Meter)
    → IsReading told at size first len pairs j done skip out old mid → drop j pairs ≡ p ∷ rest →
    drop (j + 1) pairs ≡ rest → count ≡ min (len - done) (p.bytes - skip)
    → (IsTrue told → length (segment_bytes at size p) ≡ p.bytes) → (IsTrue told → part ≡ take count (drop skip (segment_bytes at size p)))
    → take (done + count) next ≡ take done out ++ part → Reads (pages_touched size skip count) mid new → new.faults ≡ mid.faults
    → IsReading told at size first len pairs (j + 1) (done + count) (skip - p.bytes) next old new
IsReading-more told at size first len pairs rest p j done skip count out part next old mid new so_far here behind e
    long read put more quiet =
    let within = so_far.within in
    let left : len - (done + count) ≡ len - done - (p.bytes - skip) = omega arith in
    record {
      within = omega arith;
      enough = λ some. let enough : skip + (len - done) ≤ bytes_of (drop j pairs) = so_far.enough (omega arith) in
          let sum : bytes_of (drop j pairs) ≡ p.bytes + bytes_of rest = ap bytes_of here ∙ sum_by-cons (λ (q : Pair). q.bytes) p rest in
          subst (λ (ps : List Pair). skip - p.bytes + (len - (done + count)) ≤ bytes_of ps) (sym behind) (omega arith);
      bytes = λ told.
          let split = take-drop-joined (len - done) skip (segment_bytes at size p) (content at size rest) in
          let bytes : length (segment_bytes at size p) ≡ p.bytes = long told in
          ap (λ (front : List ℕ). front ++ take (len - (done + count)) (drop (skip - p.bytes) (content at size (drop (j + 1) pairs)))) put
          ∙ append_assoc (take done out) part (take (len - (done + count)) (drop (skip - p.bytes) (content at size (drop (j + 1) pairs))))
          ∙ ap (λ (bytes : List ℕ). take done out ++ bytes) (
          ap (λ (ps : List Pair). part ++ take (len - (done + count)) (drop (skip - p.bytes) (content at size ps))) behind
          ∙ ap (λ (front : List ℕ). front ++ take (len - (done + count)) (drop (skip - p.bytes) (content at size rest))) (read told)
          ∙ ap (λ (k : ℕ). take k (drop skip (segment_bytes at size p)) ++ take (len - (done + count))
          (drop (skip - p.bytes) (content at size rest))) e
          ∙ ap (λ (k : ℕ). take (min (len - done) (p.bytes - skip)) (drop skip (segment_bytes at size p))
          ++ take k (drop (skip - p.bytes) (content at size rest))) left
          ∙ sym (split ∙ ap (λ (b : ℕ). take (min (len - done) (b - skip)) (drop skip (segment_bytes at size p))
          ++ take (len - done - (b - skip)) (drop (skip - b) (content at size rest))) bytes)
          ∙ sym (ap (λ (ps : List Pair). take (len - done) (drop skip (content at size ps))) here))
          ∙ so_far.bytes told;
      quiet = quiet ∙ so_far.quiet;
      so_far = so_far.so_far + pages_touched size skip count;
      reads = Reads-then _ _ _ _ _ _ so_far.reads more (omega arith);
      all =
          let sum : touched size (drop j pairs) skip (len - done)
          ≡ pages_touched size skip (min (len - done) (p.bytes - skip)) + touched size rest (skip - p.bytes)
          (len - done - (p.bytes - skip)) = ap (λ (ps : List Pair). touched size ps skip (len - done)) here in
          let same : pages_touched size skip count ≡ pages_touched size skip (min (len - done) (p.bytes - skip)) =
          ap (pages_touched size skip) e in
          let others : touched size (drop (j + 1) pairs) (skip - p.bytes) (len - (done + count))
          ≡ touched size rest (skip - p.bytes) (len - done - (p.bytes - skip)) =
          ap (λ (ps : List Pair). touched size ps (skip - p.bytes) (len - (done + count))) behind
          ∙ ap (touched size rest (skip - p.bytes)) left in
          let total = so_far.all in
          omega (arith, sum, same, others, total);
    }

-- all segments were read
pub IsReading-all : (told : Bool) (at : Pages) (size first len : ℕ) (pairs : List Pair) (j done skip : ℕ)
    (out : List ℕ) (old now : Meter) → IsReading told at size first len pairs j done skip out old now
    → length pairs ≤ j → length out ≡ len → (IsTrue told → out ≡ take len (drop first (content at size pairs)))
    × Reads (touched size pairs first len) old now
IsReading-all told at size first len pairs j done skip out old now r end long =
    let none : drop j pairs ≡ [] = drop_all j pairs end in
    let within = r.within in
    let all : done ≡ len = elim (cases_lt 0 (len - done)) [
      | inl more ↦ let enough = r.enough more in let nothing : bytes_of (drop j pairs) ≡ 0 = ap bytes_of none in absurd (omega arith)
      | inr nothing ↦ omega arith
    ] in
    let left : len - done ≡ 0 = omega arith in (
      λ told. sym (sym (r.bytes told)
          ∙ ap (λ (k : ℕ). take done out ++ take k (drop skip (content at size (drop j pairs)))) left
          ∙ append-nil (take done out) ∙ take_all done out (omega arith)),
      let total = r.all in Reads-more r.so_far (touched size pairs first len) old now r.reads (omega arith),
    )

-- the segment that a read stopped in
pub IsReading-stopped : (told : Bool) (at : Pages) (size first len : ℕ) (pairs rest : List Pair) (p : Pair)
    (j done skip count : ℕ) (out : List ℕ) (old mid new : Meter)
    → IsReading told at size first len pairs j done skip out old mid → drop j pairs ≡ p ∷ rest → count ≡ min (len - done) (p.bytes - skip)
    → Reads (pages_touched size skip count) mid new → Reads (touched size pairs first len) old new
IsReading-stopped told at size first len pairs rest p j done skip count out old mid new so_far here e more =
    let sum : touched size (drop j pairs) skip (len - done)
    ≡ pages_touched size skip (min (len - done) (p.bytes - skip)) + touched size rest (skip - p.bytes)
    (len - done - (p.bytes - skip)) = ap (λ (ps : List Pair). touched size ps skip (len - done)) here in
    let same : pages_touched size skip count ≡ pages_touched size skip (min (len - done) (p.bytes - skip)) =
    ap (pages_touched size skip) e in
    let total = so_far.all in
    Reads-then so_far.so_far (pages_touched size skip count)
    (touched size pairs first len) old mid new so_far.reads more (omega (arith, sum, same, total))

-- the call that reads a part of one segment to its place, and maybe what stands behind it
pub record IsTurn (size page done skip count : ℕ) (p : Pair) (out : List ℕ) (mid new : Meter) : Type 0 where
  pub same : page ≡ size
  pub count_is : count ≡ min (length out - done) (p.bytes - skip)
  pub reads : Reads (pages_touched page skip count) mid new

turn_reads : (size page done skip count : ℕ) (p : Pair) (out : List ℕ) (mid new : Meter) →
    IsTurn size page done skip count p out mid new → Reads (pages_touched size skip count) mid new
turn_reads size page done skip count p out mid new t =
    subst (λ (k : ℕ). Reads (pages_touched k skip count) mid new) t.same t.reads

pub IsReading-turn : (told : Bool) (at : Pages) (size page first len : ℕ) (placed : List Placed)
    (j done skip skip2 count : ℕ) (out part rest : List ℕ) (old mid new : Meter)
    → IsReading told at size first len (pairs_of placed) j done skip out old mid → j < length placed → length out ≡ len
    → IsTurn size page done skip count (get_or placed j no_segment).pair out mid new
    → skip2 ≡ skip - (get_or placed j no_segment).pair.bytes
    → (IsTrue told → length (segment_bytes at size (get_or placed j no_segment).pair) ≡ (get_or placed j no_segment).pair.bytes)
    → (IsTrue told → take count part ≡ take count (drop skip (segment_bytes at page (get_or placed j no_segment).pair)))
    → count ≤ length part → new.faults ≡ mid.faults
    → IsReading told at size first len (pairs_of placed) (j + 1) (done + count) skip2 (take done out ++ (part ++ rest)) old new
IsReading-turn told at size page first len placed j done skip skip2 count out part rest old mid new so_far less long t e
    full read room quiet =
    let within = so_far.within in
    let count_is = t.count_is in
    let behind : done + count - done ≡ count = omega arith in
    subst (λ (k : ℕ). IsReading told at size first len (pairs_of placed) (j + 1)
    (done + count) k (take done out ++ (part ++ rest)) old new) (sym e)
    (IsReading-more told at size first len (pairs_of placed) (drop (j + 1) (pairs_of placed))
    (get_or placed j no_segment).pair j done skip count out (take count part) (take done out ++ (part ++ rest))
    old mid new
    so_far (next-pair placed j less) refl (omega arith) full
    (λ is_told. read is_told ∙ ap (λ (k : ℕ). take count (drop skip (segment_bytes at k (get_or placed j no_segment).pair))) t.same)
    (take-joined (done + count) done (take done out) (part ++ rest) (length-take-le done out (omega arith)) (omega arith)
    ∙ ap (λ (k : ℕ). take done out ++ take k (part ++ rest)) behind
    ∙ ap (λ (bytes : List ℕ). take done out ++ bytes) (take-append-le count part rest room))
    (turn_reads size page done skip count (get_or placed j no_segment).pair out mid new t) quiet)

pub IsReading-stop : (told : Bool) (at : Pages) (size page first len : ℕ) (placed : List Placed)
    (j done skip count : ℕ) (out : List ℕ) (old mid new : Meter)
    → IsReading told at size first len (pairs_of placed) j done skip out old mid → j < length placed → length out ≡ len
    → IsTurn size page done skip count (get_or placed j no_segment).pair out mid new →
    Reads (touched size (pairs_of placed) first len) old new
IsReading-stop told at size page first len placed j done skip count out old mid new so_far less long t =
    let within = so_far.within in
    let count_is = t.count_is in
    IsReading-stopped told at size first len (pairs_of placed) (drop (j + 1) (pairs_of placed))
    (get_or placed j no_segment).pair j done skip count out old mid new
    so_far (next-pair placed j less) (omega arith)
    (turn_reads size page done skip count (get_or placed j no_segment).pair out mid new t)

-- what holds of each segment holds of the j-th
pub each_segment : (P : Placed → Type 0) (placed : List Placed) (j : ℕ) → AllByRecursion P placed →
    j < length placed → P (get_or placed j no_segment)
each_segment P [] j all less = absurd (omega arith)
each_segment P (s ∷ ss) zero all less = all.0
each_segment P (s ∷ ss) (suc j) all less = each_segment P ss j all.1 (omega arith)
