-- The bytes of runs of pages: joined, and those that one span has.
use Rattle.std.proofs.Common.{min, inl, inr, length-drop, ◌≡◌, ℕ, zero, suc, ◌+◌, ◌-◌, ◌*◌, ◌/◌, ◌%◌, ◌<◌, ◌≤◌, true}
use Rattle.std.proofs.Common.{List, [], ◌++◌, length, take, drop, get_or, refl, sym, ap, subst, ◌∙◌}
use Rattle.std.proofs.Common.{arith, drop-cons}
use Rattle.std.specs.Prelude.{unwrap_or}
use Rattle.std.specs.List.{concat}
use Rattle.std.proofs.lemmas.Bool.{cases_lt}
use Rattle.std.proofs.lemmas.List.{length-take-le}
use Rattle.std.proofs.Math.Nat.{mod-zero, mul-zero, mul-div_cancel, mul-mod_left, add-mul, div-mul-le_self}
use Rattle.std.proofs.Common.{mul-le-mul_right}
use Rattle.std.proofs.lemmas.Slice.{take-put_mid}
use borrow.Rule.Slice.PartMut.{put_mid}
use Rattle.tree_model.specs.Tree.{Pages}
use Rattle.tree_model.specs.Content.{run_bytes}
use Rattle.tree_model.proofs.PageCountLaws.{run_bytes-add}
use Rattle.page_port.specs.Pages.{IsWhole}
use Rattle.span_store.specs.Held.{HeldSpan, bytes_in, Held, HoldsRun, has}
use Rattle.span_store.specs.Order.{HaveRun, InOrder, no_span}
use Rattle.span_store.specs.Pieces.{IsAt, IsAtOrEnd, piece_at, rank_of, spans_in}
use Rattle.span_store.proofs.SpanLists.{IsIn, IsNear, end_of, near-held, near-next, page_in-inside, page_of-inside}
use Rattle.span_store.proofs.InPieces.{at_is, at_rank}

-- only the pages of the run count
pub run_bytes-same : (at other : Pages) (first n : ℕ) → ((q : ℕ) → first ≤ q → q < first + n → at q ≡ other q) →
    run_bytes at first n ≡ run_bytes other first n
run_bytes-same at other first zero same = refl
run_bytes-same at other first (suc n) same =
    ap (λ (page : List ℕ). page ++ run_bytes at (first + 1) n) (same first (omega arith) (omega arith))
    ∙ ap (λ (rest : List ℕ). other first ++ rest) (run_bytes-same at other (first + 1) n (λ q from to. same q (omega arith) (omega arith)))

-- pages in a row that a list has
pub run_bytes-list : (at : Pages) (first from n : ℕ) (pages : List (List ℕ)) →
    ((k : ℕ) → k < length pages → at (first + k) ≡ get_or pages k []) → from + n ≤ length pages
    → run_bytes at (first + from) n ≡ concat (take n (drop from pages))
run_bytes-list at first from zero pages each fits = refl
run_bytes-list at first from (suc n) pages each fits =
    let next : (first + from) + 1 ≡ first + suc from = omega arith in
    ap (λ (page : List ℕ). page ++ run_bytes at ((first + from) + 1) n) (each from (omega arith))
    ∙ ap (λ (k : ℕ). get_or pages from [] ++ run_bytes at k n) next
    ∙ ap (λ (rest : List ℕ). get_or pages from [] ++ rest) (run_bytes-list at first (suc from) n pages each (omega arith))
    ∙ sym (ap (λ (rest : List (List ℕ)). concat (take (suc n) rest)) (drop-cons pages from [] (omega arith)))

-- the pages of one span
pub run_bytes-span : (spans : List HeldSpan) (i from n : ℕ) → InOrder 0 spans → i < length spans →
    from + n ≤ length (get_or spans i no_span).pages
    → run_bytes (bytes_in spans) ((get_or spans i no_span).first + from) n ≡ concat (take n (drop from (get_or spans i no_span).pages))
run_bytes-span spans i from n order within fits =
    let r = get_or spans i no_span in
    run_bytes-list (bytes_in spans) r.first from n r.pages
    (λ k less.
    let inside : IsIn spans i (r.first + k) = record { within = within; from = omega arith; to = omega arith } in
    let place : (r.first + k) - r.first ≡ k = omega arith in
    ap (λ o. unwrap_or o []) (page_in-inside spans i (r.first + k) order inside ∙ page_of-inside r (r.first + k) inside.from inside.to)
    ∙ ap (λ (j : ℕ). get_or r.pages j []) place)
    fits

-- so many bytes are so many whole pages
pub whole_pages : (count size bytes : ℕ) → 0 < count → 0 < size → bytes ≡ count * size → IsWhole size bytes × (bytes / size ≡ count)
whole_pages count size bytes some page e = (
  record { some = subst_some; even = ap (λ (b : ℕ). b % size) e ∙ mul-mod_left count size },
  ap (λ (b : ℕ). b / size) e ∙ mul-div_cancel count page,
)
  where
    subst_some : 0 < bytes
    subst_some = let least : 1 * size ≤ count * size = mul-le-mul_right size some in let one : 1 * size ≡ size = omega arith in omega arith

-- the pages done and those of the next part end within the bytes
pub part_fits : (done count pages size bytes : ℕ) → done + count ≤ pages → pages ≡ bytes / size → (done + count) * size ≤ bytes
part_fits done count pages size bytes less e =
    let rows : (done + count) * size ≤ pages * size = mul-le-mul_right size less in
    let all : bytes / size * size ≤ bytes = div-mul-le_self bytes size in
    let same : pages * size ≡ bytes / size * size = ap (λ (k : ℕ). k * size) e in
    omega arith

-- one part more is copied
pub copied_more : (at : Pages) (first done count size k : ℕ) (out part : List ℕ) → take (done * size) out ≡ run_bytes at first done →
    part ≡ run_bytes at (first + done) count
    → length part ≡ count * size → (done + count) * size ≤ length out →
    take ((done + count) * size) (put_mid (done * size) k out part) ≡ run_bytes at first (done + count)
copied_more at first done count size k out part copied more long fits =
    let ends : (done + count) * size ≡ done * size + count * size = add-mul done count size in
    take-put_mid (done * size) k out part ((done + count) * size) (omega arith) (omega arith)
    ∙ ap (λ (front : List ℕ). front ++ part) copied
    ∙ ap (λ (rest : List ℕ). run_bytes at first done ++ rest) more
    ∙ sym (run_bytes-add at first done count)

-- whole pages are some pages
pub whole_some : (size bytes : ℕ) → IsWhole size bytes → (0 < size) × (0 < bytes / size)
whole_some size bytes whole =
    let some = whole.some in
    let even = whole.even in
    let page : 0 < size = elim (cases_lt 0 size) [
      | inl page ↦ page
      | inr none ↦
          let zero_size : size ≡ 0 = omega arith in
          let all : bytes % 0 ≡ 0 = ap (λ (k : ℕ). bytes % k) (sym zero_size) ∙ even in
          let same = mod-zero bytes in
          absurd (omega arith)
    ] in
    let count : 0 < bytes / size = elim (cases_lt 0 (bytes / size)) [
      | inl count ↦ count
      | inr none ↦
          let zero_count : bytes / size ≡ 0 = omega arith in
          let product : size * (bytes / size) ≡ 0 = ap (λ (k : ℕ). size * k) zero_count ∙ mul-zero size in
          absurd (omega arith)
    ] in
    (page, count)

-- the part of a run that one span has
pub record IsPart (first len page done pages count : ℕ) : Type 0 where
  pub some : 0 < count
  pub within : done + count ≤ pages
  pub inside : (page - first) + count ≤ len
  pub next : done + count < pages → page + count ≡ first + len

pub part_is : (first len page done pages count : ℕ) → first ≤ page → page < first + len → done < pages →
    count ≡ min (first + len - page) (pages - done) → IsPart first len page done pages count
part_is first len page done pages count from to more e = record {
  some = omega arith;
  within = omega arith;
  inside = omega arith;
  next = λ less. omega arith;
}

-- the next page of a run is in the span near it
pub next_in : (spans : List HeldSpan) (first n done page i : ℕ) → HaveRun spans first n → page ≡ first + done → done < n →
    IsNear spans i page → IsIn spans i page
next_in spans first n done page i held e more near = near-held spans i page near (held page (omega arith) (omega arith))

-- the bytes of a part
pub part_length : (a b k : ℕ) (bytes : List ℕ) → a + k ≡ b → b ≤ length bytes → length (take (b - a) (drop a bytes)) ≡ k
part_length a b k bytes e fits =
    let same : b - a ≡ k = omega arith in
    ap (λ (j : ℕ). length (take j (drop a bytes))) same ∙ length-take-le k (drop a bytes) (omega (arith, length-drop a bytes))

-- one turn: the span s, at j of the piece at i, has the next page of the run
pub record IsTurn (ps : List (List HeldSpan)) (page i j : ℕ) (s : HeldSpan) : Type 0 where
  pub at : IsAt ps i j
  pub here : IsIn (spans_in ps) (rank_of ps i j) page
  pub same : get_or (spans_in ps) (rank_of ps i j) no_span ≡ s
  pub own : get_or (piece_at ps i) j no_span ≡ s
  pub from : s.first ≤ page
  pub to : page < end_of s

-- its place is there
pub turn_at : (ps : List (List HeldSpan)) (first n pages done page i j : ℕ) → HaveRun (spans_in ps) first n → pages ≡ n →
    page ≡ first + done → done < pages → IsAtOrEnd ps i j → (done < pages → IsNear (spans_in ps) (rank_of ps i j) page) → IsAt ps i j
turn_at ps first n pages done page i j held count e more at near =
    let here = next_in (spans_in ps) first n done page (rank_of ps i j) held e (omega (arith, more, count)) (near more) in
    at_is ps i j at here.within

pub turn_in : (ps : List (List HeldSpan)) (first n pages done page i j : ℕ) (s : HeldSpan) → HaveRun (spans_in ps) first n → pages ≡ n →
    page ≡ first + done → done < pages → IsAtOrEnd ps i j → (done < pages → IsNear (spans_in ps) (rank_of ps i j) page) →
    s ≡ get_or (spans_in ps) (rank_of ps i j) no_span → IsTurn ps page i j s
turn_in ps first n pages done page i j s held count e more at near read =
    let here = next_in (spans_in ps) first n done page (rank_of ps i j) held e (omega (arith, more, count)) (near more) in
    let there = at_is ps i j at here.within in
    let begin = ap (λ (t : HeldSpan). t.first) read in
    let end = ap end_of read in
    let from = here.from in
    let to = here.to in
    record {
      at = there;
      here = here;
      same = sym read;
      own = sym (at_rank ps i j there) ∙ sym read;
      from = omega (arith, from, begin);
      to = omega (arith, to, end);
    }

-- the next span is near the page where this one ends
pub turn_next : (ps : List (List HeldSpan)) (page next i j a b : ℕ) (s : HeldSpan) → IsTurn ps page i j s → InOrder 0 (spans_in ps) →
    rank_of ps a b ≡ rank_of ps i j + 1 → next ≡ end_of s → IsNear (spans_in ps) (rank_of ps a b) next
turn_next ps page next i j a b s turn order after e =
    let end = ap end_of turn.same in
    subst (λ (k : ℕ). IsNear (spans_in ps) k next) (sym after)
    (subst (IsNear (spans_in ps) (rank_of ps i j + 1)) (end ∙ sym e) (near-next (spans_in ps) (rank_of ps i j) order turn.here.within))

-- what the part of a span holds
pub part_bytes : (spans : List HeldSpan) (i page count : ℕ) (s : HeldSpan) → InOrder 0 spans → i < length spans →
    get_or spans i no_span ≡ s → s.first ≤ page → (page - s.first) + count ≤ length s.pages
    → run_bytes (bytes_in spans) page count ≡ concat (take count (drop (page - s.first) s.pages))
part_bytes spans i page count s order within e from fits =
    let r = get_or spans i no_span in
    let first : r.first ≡ s.first = ap (λ (t : HeldSpan). t.first) e in
    let long : length r.pages ≡ length s.pages = ap (λ (t : HeldSpan). length t.pages) e in
    let place : r.first + (page - r.first) ≡ page = omega arith in
    let here : run_bytes (bytes_in spans) page count ≡ concat (take count (drop (page - r.first) r.pages)) =
    sym (ap (λ (k : ℕ). run_bytes (bytes_in spans) k count) place)
    ∙ run_bytes-span spans i (page - r.first) count order within (omega arith) in
    here ∙ ap (λ (t : HeldSpan). concat (take count (drop (page - t.first) t.pages))) e

-- the bytes that one call moves: those of `count` pages behind the first `done`
abbrev pub piece : ℕ → ℕ → ℕ → List ℕ → List ℕ
piece size done count bytes = take ((done + count) * size - done * size) (drop (done * size) bytes)

-- they are whole pages, and within the bytes
pub record IsMoved (size done count : ℕ) (bytes : List ℕ) : Type 0 where
  pub fits : (done + count) * size ≤ length bytes
  pub long : length (piece size done count bytes) ≡ count * size
  pub whole : IsWhole size (length (piece size done count bytes))
  pub count_is : length (piece size done count bytes) / size ≡ count

pub moved_is : (size done count pages : ℕ) (bytes : List ℕ) → 0 < size → 0 < count → done + count ≤ pages → pages ≡ length bytes / size →
    IsMoved size done count bytes
moved_is size done count pages bytes page some within e =
    let fits = part_fits done count pages size (length bytes) within e in
    let ends : done * size + count * size ≡ (done + count) * size = sym (add-mul done count size) in
    let long = part_length (done * size) ((done + count) * size) (count * size) bytes ends fits in
    let whole = whole_pages count size (length (piece size done count bytes)) some page long in
    record { fits = fits; long = long; whole = whole.0; count_is = whole.1 }

-- what one turn moves: the part of the run that one span has, and its bytes, as many pages by the port's size
pub record IsMove (size unit first len page done pages count : ℕ) (bytes : List ℕ) : Type 0 where
  pub part : IsPart first len page done pages count
  pub moved : IsMoved size done count bytes
  pub whole : IsWhole unit (length (piece size done count bytes))
  pub quotient : length (piece size done count bytes) / unit ≡ count

pub move_is : (size unit first len page done pages count : ℕ) (bytes : List ℕ) → IsPart first len page done pages count → 0 < size →
    pages ≡ length bytes / size → size ≡ unit → IsMove size unit first len page done pages count bytes
move_is size unit first len page done pages count bytes part some all same =
    let moved = moved_is size done count pages bytes some part.some part.within all in
    record {
      part = part;
      moved = moved;
      whole = subst (λ (k : ℕ). IsWhole k (length (piece size done count bytes))) same moved.whole;
      quotient = sym (ap (λ (k : ℕ). length (piece size done count bytes) / k) same) ∙ moved.count_is;
    }

-- a page that is held is a run of one
pub run_of_one : (held : Held) (page : ℕ) → has held page ≡ true → HoldsRun held page 1
run_of_one held page is q from to =
    let same : page ≡ q = omega arith in
    subst (λ (k : ℕ). has held k ≡ true) same is
