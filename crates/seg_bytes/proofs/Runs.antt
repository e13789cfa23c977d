-- The bytes of a run of pages that are held, and parts of them.
use Rattle.std.proofs.Common.{◌≡◌, ℕ, zero, suc, ◌+◌, ◌-◌, ◌*◌, ◌/◌, ◌%◌, ◌<◌, ◌≤◌, Bool, List, [], ◌++◌}
use Rattle.std.proofs.Common.{length, take, drop, min, Option, Some, None, sym, ap, ◌∙◌, subst, inl, inr}
use Rattle.std.proofs.Common.{arith, append-nil, length-drop}
use Rattle.std.specs.Prelude.{◌^◌, IsTrue, IfSome, is_some, unwrap_or}
use Rattle.std.proofs.lemmas.Bool.{cases_lt}
use Rattle.std.proofs.lemmas.Bool.Decides.{nat_tests}
use Rattle.std.proofs.lemmas.List.{length-append, take_all, take-append-le, drop-append-le, length-take-le, drop-take, take-take}
use Rattle.std.proofs.Math.Seq.{take-append-add, drop-append-add}
use Rattle.std.proofs.Math.Nat.{mod-add-div}
use Rattle.std.proofs.lemmas.Nat.{mod_below}
use Rattle.tree_model.specs.Tree.{Pages, page_count}
use Rattle.tree_model.specs.Content.{run_bytes, segment_bytes}
use Rattle.tree_model.specs.declared.entry.Pair.{Pair}
use Rattle.tree_model.proofs.PageCountLaws.{count-holds, count-none, count-rises, run_bytes-add, run_bytes-one}
use Rattle.span_store.specs.Held.{Held, page_at, has, bytes_on, HoldsRun, AllSized}
use Rattle.seg_bytes.specs.Segments.{HoldsBytes, HasBytes, pages_touched}
use Rattle.seg_bytes.proofs.PageCounts.{page_count-from, page_count-parts, page_count-head}

-- each page of the run has `size` bytes
abbrev pub AreFull : Pages → ℕ → ℕ → ℕ → Type 0
AreFull at size first n = (q : ℕ) → first ≤ q → q < first + n → length (at q) ≡ size

full_page : (size : ℕ) (o : Option (List ℕ)) → IfSome o (λ page. length page ≡ size) → IsTrue (is_some o) → length (unwrap_or o []) ≡ size
full_page size None sized held = absurd (cc)
full_page size (Some page) sized held = sized

pub AreFull-held : (told : Bool) (size first n : ℕ) (held : Held) → AllSized told size held → IsTrue told →
    HoldsRun held first n → AreFull (bytes_on held) size first n
AreFull-held told size first n held sized is_told run q from to = full_page size (page_at held q) (sized is_told q) (run q from to)

pub AreFull-less : (at : Pages) (size first n from k : ℕ) → AreFull at size first n → first ≤ from →
    from + k ≤ first + n → AreFull at size from k
AreFull-less at size first n from k full low high q least most = full q (omega arith) (omega arith)

pub length-run_bytes : (at : Pages) (size first n : ℕ) → AreFull at size first n → length (run_bytes at first n) ≡ n * size
length-run_bytes at size first zero full = let none : 0 ≡ 0 * size = omega arith in none
length-run_bytes at size first (suc n) full =
    let rest = length-run_bytes at size (first + 1) n (λ q from to. full q (omega arith) (omega arith)) in
    let page = full first (omega arith) (omega arith) in
    let both = length-append (at first) (run_bytes at (first + 1) n) in
    omega (arith, rest, page, both)

-- the front of two lists joined
pub take-joined : (n k : ℕ) (xs ys : List ℕ) → length xs ≡ k → k ≤ n → take n (xs ++ ys) ≡ xs ++ take (n - k) ys
take-joined n k xs ys long within =
    let parts : n ≡ length xs + (n - k) = omega arith in
    ap (λ (m : ℕ). take m (xs ++ ys)) parts ∙ take-append-add xs ys (n - k)

pub drop-joined : (n k : ℕ) (xs ys : List ℕ) → length xs ≡ k → drop (k + n) (xs ++ ys) ≡ drop n ys
drop-joined n k xs ys long =
    ap (λ (m : ℕ). drop (m + n) (xs ++ ys)) (sym long) ∙ drop-append-add xs ys n

-- bytes from the first one of a run on: whole pages, and a part of the next one
pub front_bytes : (at : Pages) (size first n w : ℕ) (whole rest : List ℕ) → 0 < size → w ≡ n / size →
    AreFull at size first (page_count size n)
    → whole ≡ run_bytes at first w → rest ≡ take (n - w * size) (at (first + w)) →
    whole ++ rest ≡ take n (run_bytes at first (page_count size n))
front_bytes at size first n w whole rest some e full front back =
    let parts = mod-add-div n size in
    let less = mod_below n size some in
    let rows : w * size ≡ n / size * size = ap (λ (k : ℕ). k * size) e in
    let ends : n ≡ n % size + w * size = omega arith in
    let left : n - w * size ≡ n % size = omega arith in
    let count : page_count size n ≡ w + min 1 (n % size) = page_count-parts size n some ∙ ap (λ (k : ℕ). k + min 1 (n % size)) (sym e) in
    let long : length (run_bytes at first w) ≡ w * size =
    length-run_bytes at size first w (AreFull-less at size first (page_count size n) first w full (omega arith)
    (omega arith)) in
    let last : take (n - w * size) (run_bytes at (first + w) (min 1 (n % size))) ≡ rest = elim (cases_lt 0 (n % size)) [
      | inl more ↦
          let one : min 1 (n % size) ≡ 1 = omega arith in
          ap (λ (k : ℕ). take (n - w * size) (run_bytes at (first + w) k)) one
          ∙ ap (take (n - w * size)) (run_bytes-one at (first + w)) ∙ sym back
      | inr none ↦
          let nothing : n - w * size ≡ 0 = omega arith in
          ap (λ (k : ℕ). take k (run_bytes at (first + w) (min 1 (n % size)))) nothing
          ∙ sym (ap (λ (k : ℕ). take k (at (first + w))) nothing) ∙ sym back
    ] in
    sym (ap (λ (k : ℕ). take n (run_bytes at first k)) count
    ∙ ap (take n) (run_bytes-add at first w (min 1 (n % size)))
    ∙ take-joined n (w * size) (run_bytes at first w) (run_bytes at (first + w) (min 1 (n % size))) long (omega arith)
    ∙ ap (λ (bytes : List ℕ). run_bytes at first w ++ bytes) last
    ∙ ap (λ (bytes : List ℕ). bytes ++ rest) (sym front))

-- bytes from byte `skip` of a run on lie in the pages from that of this byte on
pub from_bytes : (at : Pages) (size first skip n : ℕ) → 0 < size → AreFull at size first (page_count size (skip + n))
    → drop skip (run_bytes at first (page_count size (skip + n))) ≡ drop (skip % size)
    (run_bytes at (first + skip / size) (page_count size (skip % size + n)))
from_bytes at size first skip n some full =
    let count = page_count-from size skip n some in
    let parts : skip ≡ skip / size * size + skip % size = omega (arith, mod-add-div skip size) in
    let long : length (run_bytes at first (skip / size)) ≡ skip / size * size =
    length-run_bytes at size first (skip / size)
    (AreFull-less at size first (page_count size (skip + n)) first (skip / size) full (omega arith)
    (omega (arith, count))) in
    ap (λ (k : ℕ). drop skip (run_bytes at first k)) count
    ∙ ap (drop skip) (run_bytes-add at first (skip / size) (page_count size (skip % size + n)))
    ∙ ap (λ (k : ℕ). drop k (run_bytes at first (skip / size) ++ run_bytes at (first + skip / size)
    (page_count size (skip % size + n)))) parts
    ∙ drop-joined (skip % size) (skip / size * size) (run_bytes at first (skip / size))
    (run_bytes at (first + skip / size) (page_count size (skip % size + n))) long

-- bytes from inside a page on: what is left of it, and the bytes of the pages that follow
pub head_bytes : (at : Pages) (size page r n head : ℕ) (front rest : List ℕ) → 0 < r → r < size →
    head ≡ min (size - r) n → AreFull at size page (page_count size (r + n))
    → front ≡ take head (drop r (at page)) → rest ≡ take (n - head) (run_bytes at (page + 1) (page_count size (n - head)))
    → front ++ rest ≡ take n (drop r (run_bytes at page (page_count size (r + n))))
head_bytes at size page r n head front rest begun within e full here behind =
    let m : ℕ = page_count size (n - head) in
    let count : page_count size (r + n) ≡ suc (page_count size (n - head)) =
    page_count-head size r n head begun within e
    ∙ (let one : 1 + page_count size (n - head) ≡ suc (page_count size (n - head)) = omega arith in one) in
    let long : length (at page) ≡ size = full page (omega arith) (omega (arith, count)) in
    let left : length (drop r (at page)) ≡ size - r = omega (arith, length-drop r (at page)) in
    let start : drop r (run_bytes at page (page_count size (r + n))) ≡ drop r (at page) ++ run_bytes at (page + 1)
    (page_count size (n - head)) =
    ap (λ (k : ℕ). drop r (run_bytes at page k)) count
    ∙ drop-append-le r (at page) (run_bytes at (page + 1) (page_count size (n - head))) (omega arith) in
    sym (ap (take n) start ∙ elim (cases_lt (size - r) n) [
      | inl more ↦
          let all : head ≡ size - r = omega arith in
          let whole : take head (drop r (at page)) ≡ drop r (at page) = take_all head (drop r (at page)) (omega arith) in
          take-joined n head (drop r (at page)) (run_bytes at (page + 1) (page_count size (n - head))) (omega arith) (omega arith)
          ∙ ap (λ (bytes : List ℕ). bytes ++ take (n - head) (run_bytes at (page + 1) (page_count size (n - head)))) (sym whole ∙ sym here)
          ∙ ap (λ (bytes : List ℕ). front ++ bytes) (sym behind)
      | inr less ↦
          let all : head ≡ n = omega arith in
          let nothing : n - head ≡ 0 = omega arith in
          let none : rest ≡ [] = behind ∙ ap (λ (k : ℕ). take k (run_bytes at (page + 1) (page_count size (n - head)))) nothing in
          take-append-le n (drop r (at page)) (run_bytes at (page + 1) (page_count size (n - head))) (omega arith)
          ∙ ap (λ (k : ℕ). take k (drop r (at page))) (sym all) ∙ sym here
          ∙ sym (append-nil front) ∙ ap (λ (bytes : List ℕ). front ++ bytes) (sym none)
    ])

-- pages that are held have numbers of 4 bytes where the end of what is held has
pub HasBytes-end : (held : Held) (size first bytes end : ℕ) → first < 2 ^ 32 → HoldsBytes held size first bytes →
    ((q : ℕ) → IsTrue (has held q) → q < end) → end < 2 ^ 32 → HasBytes held size first bytes
HasBytes-end held size first bytes end small run below fits = record {
  run = run;
  fits = elim (cases_lt 0 (page_count size bytes)) [
    | inl some ↦
        let last = below (first + page_count size bytes - 1)
        (run (first + page_count size bytes - 1) (omega (arith, some)) (omega (arith, some))) in
        omega (arith, some, last)
    | inr none ↦ omega (arith, none)
  ];
}

-- the pages of a part of the bytes
pub HasBytes-less : (held : Held) (size first a b : ℕ) → 0 < size → HasBytes held size first b → a ≤ b → HasBytes held size first a
HasBytes-less held size first a b some h less =
    let fewer = count-rises size a b some less in
    let fits = h.fits in
    record { run = λ q from to. h.run q from (omega arith); fits = omega arith }

-- the pages from that of byte `skip` on, where this byte begins a page
pub HasBytes-from : (held : Held) (size first skip n : ℕ) → 0 < size → HasBytes held size first (skip + n) →
    skip % size ≡ 0 → HasBytes held size (first + skip / size) n
HasBytes-from held size first skip n some h even =
    let count : page_count size (skip + n) ≡ skip / size + page_count size n = page_count-from size skip n some
    ∙ ap (λ (k : ℕ). skip / size + page_count size (k + n)) even
    ∙ (let same : skip / size + page_count size (0 + n) ≡ skip / size + page_count size n =
    ap (λ (k : ℕ). skip / size + page_count size k) (let none : 0 + n ≡ n = omega arith in none) in same) in
    let fits = h.fits in
    record { run = λ q from to. h.run q (omega arith) (omega arith); fits = omega arith }

-- the pages behind that of byte `skip`
pub HasBytes-behind : (held : Held) (size first skip n head : ℕ) → 0 < size → HasBytes held size first (skip + n) →
    0 < skip % size → head ≡ min (size - skip % size) n
    → HasBytes held size (first + skip / size + 1) (n - head)
HasBytes-behind held size first skip n head some h begun e =
    let count = page_count-from size skip n some in
    let more = page_count-head size (skip % size) n head begun (mod_below skip size some) e in
    let fits = h.fits in
    record { run = λ q from to. h.run q (omega arith) (omega arith); fits = omega arith }

-- the page of byte `skip`
pub has-skip : (held : Held) (size first skip n : ℕ) → 0 < size → HasBytes held size first (skip + n) →
    0 < skip % size + n → IsTrue (has held (first + skip / size))
has-skip held size first skip n some h more =
    let count = page_count-from size skip n some in
    let room = count-holds size (skip % size + n) some in
    let one : 0 < page_count size (skip % size + n) = elim (cases_lt 0 (page_count size (skip % size + n))) [
      | inl some ↦ some
      | inr none ↦ let zero_count : page_count size (skip % size + n) ≡ 0 = omega arith in
          let nothing : page_count size (skip % size + n) * size ≡ 0 * size = ap (λ (k : ℕ). k * size) zero_count in absurd (omega arith)
    ] in
    h.run (first + skip / size) (omega arith) (omega arith)

-- the pages that some bytes touch
pub pages_touched-some : (size skip n : ℕ) → 0 < n → pages_touched size skip n ≡ page_count size (skip % size + n)
pages_touched-some size skip n more = grind (arith, nat_tests)

-- a read from the first byte of a page on
pub read_even : (at : Pages) (size unit first skip n : ℕ) (out : List ℕ) → 0 < size → unit ≡ size →
    AreFull at size first (page_count size (skip + n)) → skip % unit ≡ 0
    → out ≡ take n (run_bytes at (first + skip / unit) (page_count size n)) →
    out ≡ take n (drop skip (run_bytes at first (page_count size (skip + n))))
read_even at size unit first skip n out some e full even read =
    let even_size : skip % size ≡ 0 = sym (ap (λ (k : ℕ). skip % k) e) ∙ even in
    let all : 0 + n ≡ n = omega arith in
    read ∙ ap (λ (k : ℕ). take n (run_bytes at (first + skip / k) (page_count size n))) e
    ∙ sym (ap (take n) (from_bytes at size first skip n some full
    ∙ ap (λ (r : ℕ). drop r (run_bytes at (first + skip / size) (page_count size (r + n)))) even_size
    ∙ ap (λ (k : ℕ). run_bytes at (first + skip / size) (page_count size k)) all))

read_odd-same : (at : Pages) (size first skip n head : ℕ) (front rest : List ℕ) → 0 < size →
    AreFull at size first (page_count size (skip + n)) → (skip % size ≡ 0 → ⊥)
    → head ≡ min (size - skip % size) n → front ≡ take head (drop (skip % size) (at (first + skip / size)))
    → rest ≡ take (n - head) (run_bytes at (first + skip / size + 1) (page_count size (n - head)))
    → front ++ rest ≡ take n (drop skip (run_bytes at first (page_count size (skip + n))))
read_odd-same at size first skip n head front rest some full odd e here behind =
    let count = page_count-from size skip n some in
    head_bytes at size (first + skip / size) (skip % size) n head front rest (omega arith) (mod_below skip size some) e
    (AreFull-less at size first (page_count size (skip + n)) (first + skip / size)
    (page_count size (skip % size + n)) full (omega arith) (omega (arith, count))) here behind
    ∙ sym (ap (take n) (from_bytes at size first skip n some full))

-- a read from inside a page on
pub read_odd : (at : Pages) (size unit first skip n head : ℕ) (front rest : List ℕ) → 0 < size → unit ≡ size →
    AreFull at size first (page_count size (skip + n)) → (skip % unit ≡ 0 → ⊥)
    → head ≡ min (unit - skip % unit) n → front ≡ take head (drop (skip % unit) (at (first + skip / unit)))
    → rest ≡ take (n - head) (run_bytes at (first + skip / unit + 1) (page_count size (n - head)))
    → front ++ rest ≡ take n (drop skip (run_bytes at first (page_count size (skip + n))))
read_odd at size unit first skip n head front rest some e full =
    let P : ℕ → Type 0 = λ k. (skip % k ≡ 0 → ⊥)
    → head ≡ min (k - skip % k) n → front ≡ take head (drop (skip % k) (at (first + skip / k)))
    → rest ≡ take (n - head) (run_bytes at (first + skip / k + 1) (page_count size (n - head)))
    → front ++ rest ≡ take n (drop skip (run_bytes at first (page_count size (skip + n)))) in
    subst P (sym e) (read_odd-same at size first skip n head front rest some full)

-- the pages behind the first one
pub behind_first : (held : Held) (size unit page first skip n head : ℕ) → 0 < size → unit ≡ size →
    page ≡ size → HasBytes held size first (skip + n) → (skip % unit ≡ 0 → ⊥)
    → head ≡ min (unit - skip % unit) n → HasBytes held page (first + skip / unit + 1) (n - head)
behind_first held size unit page first skip n head some e same h odd shorter =
    let odd_size : skip % size ≡ 0 → ⊥ = λ even. odd (ap (λ (k : ℕ). skip % k) e ∙ even) in
    let head_is : head ≡ min (size - skip % size) n = shorter ∙ ap (λ (k : ℕ). min (k - skip % k) n) e in
    subst (λ (k : ℕ). HasBytes held k (first + skip / unit + 1) (n - head)) (sym same)
    (subst (λ (k : ℕ). HasBytes held size (first + skip / k + 1) (n - head)) (sym e)
    (HasBytes-behind held size first skip n head some h (omega arith) head_is))

-- the pages that such a read touches
pub odd_pages : (size unit skip n head : ℕ) → 0 < size → unit ≡ size → (skip % unit ≡ 0 → ⊥) → head ≡ min (unit - skip % unit) n
    → min 1 head + page_count size (n - head) ≤ pages_touched size skip n
odd_pages size unit skip n head some e odd shorter =
    let odd_size : skip % size ≡ 0 → ⊥ = λ even. odd (ap (λ (k : ℕ). skip % k) e ∙ even) in
    let head_is : head ≡ min (size - skip % size) n = shorter ∙ ap (λ (k : ℕ). min (k - skip % k) n) e in
    let less = mod_below skip size some in
    let count = page_count-head size (skip % size) n head (omega arith) less head_is in
    elim (cases_lt 0 n) [
      | inl more ↦
          let touched : pages_touched size skip n ≡ page_count size (skip % size + n) = pages_touched-some size skip n more in
          omega arith
      | inr none ↦
          let nothing : n - head ≡ 0 = omega arith in
          let no_page : page_count size (n - head) ≡ 0 = ap (page_count size) nothing ∙ count-none size some in
          omega arith
    ]

-- a part of a segment, read from the run of its pages
pub segment_part : (at : Pages) (size first bytes skip n : ℕ) → 0 < size → AreFull at size first (page_count size bytes) → skip + n ≤ bytes
    → take n (drop skip (run_bytes at first (page_count size (skip + n))))
    ≡ take n (drop skip (take bytes (run_bytes at first (page_count size bytes))))
segment_part at size first bytes skip n some full within =
    let fewer = count-rises size (skip + n) bytes some within in
    let more : ℕ = page_count size bytes - page_count size (skip + n) in
    let parts : page_count size bytes ≡ page_count size (skip + n) + (page_count size bytes - page_count size (skip + n)) = omega arith in
    let long : length (run_bytes at first (page_count size (skip + n))) ≡ page_count size (skip + n) * size =
    length-run_bytes at size first (page_count size (skip + n))
    (AreFull-less at size first (page_count size bytes) first (page_count size (skip + n)) full (omega arith)
    (omega arith)) in
    let room = count-holds size (skip + n) some in
    sym (drop-take skip n (run_bytes at first (page_count size (skip + n))))
    ∙ ap (drop skip) (sym (take-append-le (skip + n) (run_bytes at first (page_count size (skip + n)))
    (run_bytes at (first + page_count size (skip + n)) (page_count size bytes - page_count size (skip + n)))
    (omega arith))
    ∙ ap (take (skip + n)) (sym (run_bytes-add at first (page_count size (skip + n)) (page_count size bytes - page_count size (skip + n))))
    ∙ ap (λ (k : ℕ). take (skip + n) (run_bytes at first k)) (sym parts)
    ∙ sym (take-take (skip + n) bytes (run_bytes at first (page_count size bytes)) within))
    ∙ drop-take skip n (take bytes (run_bytes at first (page_count size bytes)))

-- a segment has its bytes
pub length-segment : (at : Pages) (size : ℕ) (p : Pair) → 0 < size →
    AreFull at size p.page (page_count size p.bytes) → length (segment_bytes at size p) ≡ p.bytes
length-segment at size p some full =
    let long = length-run_bytes at size p.page (page_count size p.bytes) full in
    let room = count-holds size p.bytes some in
    length-take-le p.bytes (run_bytes at p.page (page_count size p.bytes)) (omega arith)
