-- Spans of which some pages were written: they keep their shape and all other pages.
use Rattle.std.proofs.Common.{◌≡◌, ℕ, zero, suc, ◌+◌, ◌-◌, ◌*◌, ◌<◌, ◌≤◌, ◌⊎◌, Bool, ◌||◌, List, [], ◌∷◌, ◌++◌}
use Rattle.std.proofs.Common.{length, take, drop, get_or, set, Option, Some, None, refl, sym, ap, subst, ◌∙◌, inl}
use Rattle.std.proofs.Common.{inr, arith, take-add}
use Rattle.std.specs.Prelude.{is_some, slice_get, ◌==◌, IsTrue, unwrap_or}
use Rattle.std.specs.Option.{option_or}
use Rattle.std.proofs.lemmas.Bool.{cases_lt, le-leb, cases_eq}
use Rattle.std.proofs.lemmas.List.{get_or-set_same, get_or-set_other, length-set}
use Rattle.page_port.specs.Pages.{AreOf, KeepsOthers}
use Rattle.tree_model.specs.Content.{run_bytes}
use Rattle.span_store.specs.Held.{HeldSpan, bytes_in, page_of, page_in, begins_in}
use Rattle.span_store.specs.Order.{EachSized, HaveRun, HaveSameShape, InOrder, IsOver, no_span}
use Rattle.std.proofs.Math.Nat.{add-mul}
use Rattle.span_store.proofs.Runs.{run_bytes-same}
use Rattle.tree_model.proofs.PageCountLaws.{run_bytes-add}
use Rattle.span_store.proofs.SpanLists.{Before, Behind, Inside, end_of, page_of-before, page_of-behind, page_of-inside, where_is}

-- spans of one shape
pub HaveSameShape-refl : (xs : List HeldSpan) → HaveSameShape xs xs
HaveSameShape-refl [] = tt
HaveSameShape-refl (x ∷ xs) = (refl, refl, HaveSameShape-refl xs)

pub HaveSameShape-trans : (xs ys zs : List HeldSpan) → HaveSameShape xs ys → HaveSameShape ys zs → HaveSameShape xs zs
HaveSameShape-trans [] [] [] first second = tt
HaveSameShape-trans [] [] (z ∷ zs) first second = absurd second
HaveSameShape-trans [] (y ∷ ys) zs first second = absurd first
HaveSameShape-trans (x ∷ xs) [] zs first second = absurd first
HaveSameShape-trans (x ∷ xs) (y ∷ ys) [] first second = absurd second
HaveSameShape-trans (x ∷ xs) (y ∷ ys) (z ∷ zs) first second =
    (second.0 ∙ first.0, second.1 ∙ first.1, HaveSameShape-trans xs ys zs first.2 second.2)

pub HaveSameShape-set : (xs : List HeldSpan) (i : ℕ) (t : HeldSpan) → i < length xs → t.first ≡ (get_or xs i no_span).first →
    length t.pages ≡ length (get_or xs i no_span).pages → HaveSameShape xs (set xs i t)
HaveSameShape-set [] i t within first long = absurd (omega arith)
HaveSameShape-set (x ∷ xs) zero t within first long = (first, long, HaveSameShape-refl xs)
HaveSameShape-set (x ∷ xs) (suc i) t within first long = (refl, refl, HaveSameShape-set xs i t (omega arith) first long)

pub length-shape : (xs ys : List HeldSpan) → HaveSameShape xs ys → length ys ≡ length xs
length-shape [] [] same = refl
length-shape [] (y ∷ ys) same = absurd same
length-shape (x ∷ xs) [] same = absurd same
length-shape (x ∷ xs) (y ∷ ys) same = ap suc (length-shape xs ys same.2)

pub InOrder-shape : (low : ℕ) (xs ys : List HeldSpan) → HaveSameShape xs ys → InOrder low xs → InOrder low ys
InOrder-shape low [] [] same order = tt
InOrder-shape low [] (y ∷ ys) same order = absurd same
InOrder-shape low (x ∷ xs) [] same order = absurd same
InOrder-shape low (x ∷ xs) (y ∷ ys) same order =
    let first = same.0 in
    let long = same.1 in
    let from = order.0 in
    let some = order.1 in
    let ends : end_of x ≡ end_of y = omega arith in
    (omega arith, omega arith, subst (λ (k : ℕ). InOrder k ys) ends (InOrder-shape (end_of x) xs ys same.2 order.2))

is_some-or : {X : Type 0} (a b : Option X) → is_some (option_or a b) ≡ (is_some a || is_some b)
is_some-or None b = refl
is_some-or (Some x) b = refl

has-one : (x y : HeldSpan) (q : ℕ) → y.first ≡ x.first → length y.pages ≡ length x.pages → is_some (page_of y q) ≡ is_some (page_of x q)
has-one x y q first long = elim (where_is x q) [
  | Before before ↦ ap is_some (page_of-before y q (omega arith)) ∙ sym (ap is_some (page_of-before x q before))
  | Behind from behind ↦ ap is_some (page_of-behind y q (omega arith)) ∙ sym (ap is_some (page_of-behind x q behind))
  | Inside from to ↦ ap is_some (page_of-inside y q (omega arith) (omega arith)) ∙ sym (ap is_some (page_of-inside x q from to))
]

pub has-shape : (xs ys : List HeldSpan) (q : ℕ) → HaveSameShape xs ys → is_some (page_in ys q) ≡ is_some (page_in xs q)
has-shape [] [] q same = refl
has-shape [] (y ∷ ys) q same = absurd same
has-shape (x ∷ xs) [] q same = absurd same
has-shape (x ∷ xs) (y ∷ ys) q same =
    is_some-or (page_of y q) (page_in ys q)
    ∙ ap (λ (b : Bool). b || is_some (page_in ys q)) (has-one x y q same.0 same.1)
    ∙ ap (λ (b : Bool). is_some (page_of x q) || b) (has-shape xs ys q same.2)
    ∙ sym (is_some-or (page_of x q) (page_in xs q))

pub begins-shape : (xs ys : List HeldSpan) (q : ℕ) → HaveSameShape xs ys → begins_in ys q ≡ begins_in xs q
begins-shape [] [] q same = refl
begins-shape [] (y ∷ ys) q same = absurd same
begins-shape (x ∷ xs) [] q same = absurd same
begins-shape (x ∷ xs) (y ∷ ys) q same =
    ap (λ (k : ℕ). (k == q) || begins_in ys q) same.0
    ∙ ap (λ (b : Bool). (x.first == q) || b) (begins-shape xs ys q same.2)

pub HaveRun-shape : (xs ys : List HeldSpan) (first n : ℕ) → HaveSameShape xs ys → HaveRun xs first n → HaveRun ys first n
HaveRun-shape xs ys first n same held q from to = has-shape xs ys q same ∙ held q from to

-- a page of a part of a list
slice_get-take : (n : ℕ) (xs : List (List ℕ)) (k : ℕ) → k < n → slice_get (take n xs) k ≡ slice_get xs k
slice_get-take zero xs k less = absurd (omega arith)
slice_get-take (suc n) [] k less = refl
slice_get-take (suc n) (x ∷ xs) zero less = refl
slice_get-take (suc n) (x ∷ xs) (suc k) less = slice_get-take n xs k (omega arith)

slice_get-drop : (n : ℕ) (xs : List (List ℕ)) (k : ℕ) → slice_get (drop n xs) k ≡ slice_get xs (n + k)
slice_get-drop zero xs k = let e : k ≡ 0 + k = omega arith in ap (slice_get xs) e
slice_get-drop (suc n) [] k = refl
slice_get-drop (suc n) (x ∷ xs) k =
    let e : suc (n + k) ≡ suc n + k = omega arith in
    slice_get-drop n xs k ∙ ap (slice_get (x ∷ xs)) e

kept_before : (from n : ℕ) (old new : List (List ℕ)) (k : ℕ) → KeepsOthers from n old new → k < from → slice_get new k ≡ slice_get old k
kept_before from n old new k kept less =
    sym (slice_get-take from new k less) ∙ ap (λ (xs : List (List ℕ)). slice_get xs k) kept.before ∙ slice_get-take from old k less

kept_behind : (from n : ℕ) (old new : List (List ℕ)) (k : ℕ) → KeepsOthers from n old new → from + n ≤ k → slice_get new k ≡ slice_get old k
kept_behind from n old new k kept more =
    let e : (from + n) + (k - (from + n)) ≡ k = omega arith in
    sym (ap (slice_get new) e) ∙ sym (slice_get-drop (from + n) new (k - (from + n)))
    ∙ ap (λ (xs : List (List ℕ)). slice_get xs (k - (from + n))) kept.behind
    ∙ slice_get-drop (from + n) old (k - (from + n)) ∙ ap (slice_get old) e

-- a page of a span that wasn't written
kept_page : (s t : HeldSpan) (from n q : ℕ) → t.first ≡ s.first → KeepsOthers from n s.pages t.pages →
    (q < s.first + from) ⊎ (s.first + from + n ≤ q) → page_of t q ≡ page_of s q
kept_page s t from n q first kept out = elim (cases_lt q s.first) [
  | inl before ↦ page_of-before t q (omega arith) ∙ sym (page_of-before s q before)
  | inr behind ↦
      let there : page_of t q ≡ slice_get t.pages (q - t.first) = rw (le-leb t.first q (omega arith)) refl in
      let here : page_of s q ≡ slice_get s.pages (q - s.first) = rw (le-leb s.first q behind) refl in
      let place : q - t.first ≡ q - s.first = ap (λ (k : ℕ). q - k) first in
      there ∙ ap (slice_get t.pages) place
      ∙ elim out [
        | inl less ↦ kept_before from n s.pages t.pages (q - s.first) kept (omega arith)
        | inr more ↦ kept_behind from n s.pages t.pages (q - s.first) kept (omega arith)
      ]
      ∙ sym here
]

-- a span in place of one that holds the same on a page
page_in-set : (xs : List HeldSpan) (i : ℕ) (t : HeldSpan) (q : ℕ) → i < length xs → page_of t q ≡ page_of (get_or xs i no_span) q →
    page_in (set xs i t) q ≡ page_in xs q
page_in-set [] i t q within same = absurd (omega arith)
page_in-set (x ∷ xs) zero t q within same = ap (λ (o : Option (List ℕ)). option_or o (page_in xs q)) same
page_in-set (x ∷ xs) (suc i) t q within same = ap (option_or (page_of x q)) (page_in-set xs i t q (omega arith) same)

-- pages of one span were written
pub IsOver-one : (xs : List HeldSpan) (i from n : ℕ) (t : HeldSpan) → i < length xs → t.first ≡ (get_or xs i no_span).first →
    KeepsOthers from n (get_or xs i no_span).pages t.pages → IsOver ((get_or xs i no_span).first + from) n xs (set xs i t)
IsOver-one xs i from n t within first kept = record {
  shape = HaveSameShape-set xs i t within first kept.count;
  before = λ q less. page_in-set xs i t q within (kept_page (get_or xs i no_span) t from n q first kept (inl less));
  behind = λ q more. page_in-set xs i t q within (kept_page (get_or xs i no_span) t from n q first kept (inr more));
}

pub IsOver-none : (first : ℕ) (xs : List HeldSpan) → IsOver first 0 xs xs
IsOver-none first xs = record { shape = HaveSameShape-refl xs; before = λ q less. refl; behind = λ q more. refl }

-- and then the pages behind them
pub IsOver-more : (first a b : ℕ) (xs ys zs : List HeldSpan) → IsOver first a xs ys → IsOver (first + a) b ys zs →
    IsOver first (a + b) xs zs
IsOver-more first a b xs ys zs so_far more = record {
  shape = HaveSameShape-trans xs ys zs so_far.shape more.shape;
  before = λ q less. more.before q (omega arith) ∙ so_far.before q less;
  behind = λ q over. more.behind q (omega arith) ∙ so_far.behind q (omega arith);
}

pub IsOver-most : (first a n : ℕ) (xs ys : List HeldSpan) → IsOver first a xs ys → a ≤ n → IsOver first n xs ys
IsOver-most first a n xs ys so_far less = record {
  shape = so_far.shape;
  before = so_far.before;
  behind = λ q more. so_far.behind q (omega arith);
}

-- a span of the right page size in place of one
pub EachSized-set : (told : Bool) (size : ℕ) (xs : List HeldSpan) (i : ℕ) (t : HeldSpan) → i < length xs → EachSized told size xs →
    (IsTrue told → AreOf size t.pages) → EachSized told size (set xs i t)
EachSized-set told size xs i t within sized here is_told k d less = elim (cases_eq k i) [
  | inl same ↦
      let there : get_or (set xs i t) k d ≡ t = ap (λ (j : ℕ). get_or (set xs i t) j d) same ∙ get_or-set_same xs i t d within in
      subst (λ (s : HeldSpan). AreOf size s.pages) (sym there) (here is_told)
  | inr other ↦
      subst (λ (s : HeldSpan). AreOf size s.pages) (sym (get_or-set_other xs i k t d other))
      (sized is_told k d (omega (arith, length-set xs i t)))
]

-- one call wrote pages of the span at i, from a page of it on
pub written_part : (xs : List HeldSpan) (i page count from n : ℕ) (s t : HeldSpan) → i < length xs → get_or xs i no_span ≡ s →
    s.first ≤ page → from ≡ page - s.first → n ≡ count → t.first ≡ s.first → KeepsOthers from n s.pages t.pages →
    IsOver page count xs (set xs i t)
written_part xs i page count from n s t within e low place same first kept =
    let r = get_or xs i no_span in
    let here : KeepsOthers from n r.pages t.pages = subst (λ (u : HeldSpan). KeepsOthers from n u.pages t.pages) (sym e) kept in
    let begin : t.first ≡ r.first = first ∙ ap (λ (u : HeldSpan). u.first) (sym e) in
    let at : r.first + from ≡ page = omega arith in
    subst (λ (k : ℕ). IsOver page k xs (set xs i t)) same
    (subst (λ (k : ℕ). IsOver k n xs (set xs i t)) at (IsOver-one xs i from n t within begin here))

-- the bytes written so far, and one part more
pub written_more : (xs ys : List HeldSpan) (first done page count size : ℕ) (bytes : List ℕ) → page ≡ first + done → IsOver page count xs ys
    → run_bytes (bytes_in xs) first done ≡ take (done * size) bytes →
    run_bytes (bytes_in ys) page count ≡ take ((done + count) * size - done * size) (drop (done * size) bytes)
    → run_bytes (bytes_in ys) first (done + count) ≡ take ((done + count) * size) bytes
written_more xs ys first done page count size bytes at over before here =
    let ends : done * size + count * size ≡ (done + count) * size = sym (add-mul done count size) in
    let long : (done + count) * size - done * size ≡ count * size = omega arith in
    run_bytes-add (bytes_in ys) first done count
    ∙ ap (λ (rest : List ℕ). rest ++ run_bytes (bytes_in ys) (first + done) count)
    (run_bytes-same (bytes_in ys) (bytes_in xs) first done
    (λ q from to. ap (λ (o : Option (List ℕ)). unwrap_or o []) (over.before q (omega arith))) ∙ before)
    ∙ ap (λ (k : ℕ). take (done * size) bytes ++ run_bytes (bytes_in ys) k count) (sym at)
    ∙ ap (λ (rest : List ℕ). take (done * size) bytes ++ rest) here
    ∙ ap (λ (k : ℕ). take (done * size) bytes ++ take k (drop (done * size) bytes)) long
    ∙ sym (take-add (done * size) (count * size) bytes)
    ∙ ap (λ (k : ℕ). take k bytes) ends
