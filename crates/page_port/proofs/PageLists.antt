-- Lists of pages: one page more of a run, and the step of an iterator over a list of buffers.
use Rattle.std.proofs.Common.{◌≡◌, ℕ, ◌+◌, ◌-◌, ◌*◌, ◌<◌, ◌≤◌, List, [], ◌∷◌, ◌++◌, length, take, drop, get_or, map}
use Rattle.std.proofs.Common.{refl, ap, sym, ◌∙◌, subst, arith, All, Option, Some, None, Vec, MatchOption}
use Rattle.std.proofs.Common.{append-nil, take-add, add-zero, mul-le-mul_right}
use Rattle.std.specs.List.{concat}
use Rattle.std.specs.declared.alloc.Global.{Global}
use denote.Ref.{Bor}
use borrow.Rule.Slice.PartMut.{put_mid}
use Rattle.std.proofs.lemmas.List.{drop-drop, take_more, get_or-drop, length-drop, drop-map, length-take-le}
use Rattle.std.proofs.lemmas.List.{take-append-le, drop-append-le, length_push}
use Rattle.std.proofs.Math.Nat.{add-sub_cancel_left}
use Rattle.std.proofs.lemmas.List.Folds.{concat-append}
use Rattle.std.proofs.lemmas.List.Elements.{All-drop, All-head, All-push}
use Rattle.std.proofs.lemmas.Slice.{take-put_mid}
use Rattle.page_port.specs.Pages.{AreOf, run_bytes}
use Rattle.page_port.specs.Memory.{page_items}

abbrev pub Buffer : Type 0
Buffer = Vec ℕ Global

-- a call of `next` took the first of s and left t
abbrev pub TakesFirst : List Buffer → Option (Bor Buffer) → List Buffer → Type 0
TakesFirst s r t = MatchOption r ((s ≡ []) × (t ≡ [])) (λ x. s ≡ x.now ∷ t)

-- a list that goes on after its first i items has more than i
longer : {X : Type 0} (xs : List X) (i : ℕ) (x : X) (rest : List X) → drop i xs ≡ x ∷ rest → i < length xs
longer xs i x rest e =
    let same : length (drop i xs) ≡ length (x ∷ rest) = ap length e in
    omega (arith, same, length-drop i xs)

-- one page more of a run
pub run_bytes-more : (all : List (List ℕ)) (from j : ℕ) (page : List ℕ) (rest : List (List ℕ)) →
    drop (from + j) all ≡ page ∷ rest → run_bytes from (j + 1) all ≡ run_bytes from j all ++ page
run_bytes-more all from j page rest e =
    let behind : drop j (drop from all) ≡ page ∷ rest = drop-drop j from all ∙ e in
    let more : j < length (drop from all) = longer (drop from all) j page rest behind in
    let here : get_or (drop from all) j page ≡ page =
    ap (λ k. get_or (drop from all) k page) (sym (add-zero j))
    ∙ sym (get_or-drop j (drop from all) 0 page)
    ∙ ap (λ xs. get_or xs 0 page) behind in
    ap concat (take_more (drop from all) j page more ∙ ap (λ p. take j (drop from all) ++ p ∷ []) here)
    ∙ concat-append (take j (drop from all)) (page ∷ [])
    ∙ ap (λ p. run_bytes from j all ++ p) (append-nil page)

-- the first page of what is left has the size of all
pub sized-first : (size : ℕ) (all : List (List ℕ)) (i : ℕ) (page : List ℕ) (rest : List (List ℕ)) →
    AreOf size all → drop i all ≡ page ∷ rest → length page ≡ size
sized-first size all i page rest sized e =
    let P : List ℕ → Type 0 = λ p. length p ≡ size in
    let left : All P (drop i all) = All-drop P i all sized in
    All-head P page rest (let Q : List (List ℕ) → Type 0 = λ ps. All P ps in subst Q e left)

-- what is left after one call of `next`
takes_rest : (s t : List Buffer) (r : Option (Bor Buffer)) → TakesFirst s r t → t ≡ drop 1 s
takes_rest s t None h = h.1 ∙ sym (ap (drop 1) h.0)
takes_rest s t (Some x) h = sym (ap (drop 1) h)

pub next-rest : (s t : List Buffer) (r : Option (Bor Buffer)) (i : ℕ) (all : List (List ℕ)) → TakesFirst s r t →
    map page_items s ≡ drop i all → map page_items t ≡ drop (i + 1) all
next-rest s t r i all h e =
    ap (map page_items) (takes_rest s t r h)
    ∙ sym (drop-map page_items 1 s)
    ∙ ap (drop 1) e
    ∙ drop-drop 1 i all

-- one page copied behind those that were copied
pub copied-more : (all : List (List ℕ)) (from j size at k : ℕ) (out page : List ℕ) (rest : List (List ℕ)) →
    drop (from + j) all ≡ page ∷ rest → take at out ≡ run_bytes from j all → length page ≡ size → k ≡ size →
    at + size ≤ length out → take (at + size) (put_mid at k out page) ≡ run_bytes from (j + 1) all
copied-more all from j size at k out page rest e copied sized same fits =
    take-put_mid at k out page (at + size) (omega arith) (omega arith)
    ∙ ap (λ front. front ++ page) copied
    ∙ sym (run_bytes-more all from j page rest e)

-- j pages of `count` leave room for one more
pub room-for_page : (j count size at bytes : ℕ) → j < count → at ≡ j * size → count * size ≡ bytes → at + size ≤ bytes
room-for_page j count size at bytes below is_at whole =
    let rows : (j + 1) * size ≤ count * size = mul-le-mul_right size (omega arith) in
    omega (arith, rows)

-- the bytes from `at` on, cut to a page
pub length-page_part : (at size : ℕ) (out : List ℕ) → at + size ≤ length out →
    length (take (at + size - at) (drop at out)) ≡ size
length-page_part at size out fits =
    ap (λ k. length (take k (drop at out))) (add-sub_cancel_left at size)
    ∙ length-take-le size (drop at out) (omega (arith, length-drop at out))

-- where pages are left to take, the list isn't at its end
pub not_at_end : (all : List (List ℕ)) (from j count : ℕ) (s : List Buffer) → map page_items s ≡ drop (from + j) all →
    s ≡ [] → j < count → from + count ≤ length all → ⊥
not_at_end all from j count s e empty below range =
    let none : [] ≡ drop (from + j) all = sym (ap (map page_items) empty) ∙ e in
    let short : 0 ≡ length (drop (from + j) all) = ap length none in
    omega (arith, short, length-drop (from + j) all)

-- the pages that are written so far, and one more: `self` are those before and those written, the page `chunk` comes
-- behind them
pub record IsWritten (all : List (List ℕ)) (from j size at : ℕ) (bytes : List ℕ) (self : List (List ℕ)) : Type 0 where
  pub count : length self ≡ from + j
  pub before : take from self ≡ take from all
  pub written : concat (drop from self) ≡ take at bytes
  pub sized : AreOf size self

pub IsWritten-more : (all : List (List ℕ)) (from j size at : ℕ) (bytes : List ℕ) (self : List (List ℕ)) (chunk : List ℕ) →
    IsWritten all from j size at bytes self → at + size ≤ length bytes → chunk ≡ take (at + size - at) (drop at bytes) →
    IsWritten all from (j + 1) size (at + size) bytes (self ++ chunk ∷ [])
IsWritten-more all from j size at bytes self chunk h fits is_chunk =
    let inside : from ≤ length self = omega (arith, h.count) in
    let long : length chunk ≡ size = ap length is_chunk ∙ length-page_part at size bytes fits in
    record {
      count = omega (arith, length_push self chunk, h.count);
      before = take-append-le from self (chunk ∷ []) inside ∙ h.before;
      written =
          ap concat (drop-append-le from self (chunk ∷ []) inside)
          ∙ concat-append (drop from self) (chunk ∷ [])
          ∙ ap (λ front. front ++ (chunk ++ [])) h.written
          ∙ ap (λ c. take at bytes ++ c) (append-nil chunk ∙ is_chunk ∙ ap (λ k. take k (drop at bytes)) (add-sub_cancel_left at size))
          ∙ sym (take-add at size bytes);
      sized = All-push (λ (page : List ℕ). length page ≡ size) self chunk h.sized long;
    }

-- one page written over gives that page
pub one_page : (pages : List (List ℕ)) → drop 1 (take 1 pages) ≡ []
one_page [] = refl
one_page (page ∷ pages) = refl

-- one page more is copied out of the bytes
pub copies-more : (size i at : ℕ) (bytes page : List ℕ) (list : List (List ℕ)) → at ≡ size * i → at + size ≤ length bytes →
    AreOf size list → concat list ≡ take at bytes → page ≡ take (at + size - at) (drop at bytes) →
    AreOf size (list ++ page ∷ []) × (concat (list ++ page ∷ []) ≡ take (at + size) bytes)
copies-more size i at bytes page list is_at fits sized copied is_page = (
  All-push (λ (p : List ℕ). length p ≡ size) list page sized (ap length is_page ∙ length-page_part at size bytes fits),
  concat-append list (page ∷ [])
      ∙ ap (λ front. front ++ (page ++ [])) copied
      ∙ ap (λ c. take at bytes ++ c) (append-nil page ∙ is_page ∙ ap (λ k. take k (drop at bytes)) (add-sub_cancel_left at size))
      ∙ sym (take-add at size bytes),
)
