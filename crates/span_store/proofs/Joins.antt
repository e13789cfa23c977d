-- Two spans that meet at a page: how they are found, and what is held once they are one.
use Rattle.std.proofs.Common.{◌≡◌, ℕ, zero, suc, ◌+◌, ◌-◌, ◌<◌, ◌≤◌, Bool, true, false, ◌||◌, ◌&&◌, List, ◌∷◌}
use Rattle.std.proofs.Common.{◌++◌, length, take, drop, get_or, refl, sym, ap, subst, ◌∙◌, arith, length-append}
use Rattle.std.proofs.Common.{drop-cons}
use Rattle.std.specs.Prelude.{is_some, ◌==◌, IfSome, nat_lt}
use Rattle.std.proofs.lemmas.Bool.{and_from, eq-eqb, false_from_ne_true, false≢true, lt-ltb, ltb-true, ne_eqb}
use Rattle.std.proofs.Math.Seq.{take-append_seam, drop-append_seam}
use Rattle.span_store.specs.Held.{AllSized, Held, HeldSpan, begins_in, is_border, is_border_in, page_in}
use Rattle.span_store.specs.Order.{InOrder, IsBorder, IsRank, as_one, back_part, first_at, front_part, no_span, with_join}
use Rattle.span_store.specs.Calls.{IsCutAt, IsJoined}
use Rattle.span_store.proofs.SpanLists.{InOrder-append, InOrder-back, InOrder-front, IsIn, back_of}
use Rattle.span_store.proofs.SpanLists.{begins_in-append, begins_in-below, begins_in-beyond, end_of}
use Rattle.span_store.proofs.SpanLists.{near-begins, near-held, near-inside, near-place, page_in-inside}
use Rattle.span_store.proofs.SpanLists.{page_of-inside, place-some, split_at}
use Rattle.span_store.proofs.Holds.{begun_at, cut_between}

-- a test of three facts
both : (a b : Bool) → (a && b) ≡ true → (a ≡ true) × (b ≡ true)
both true b h = (refl, h)
both false b h = absurd (false≢true h)

-- a span has a page, and ends where the next one begins or before
order_at : (rows : List HeldSpan) (i : ℕ) → InOrder 0 rows → i < length rows → 1 ≤ length (get_or rows i no_span).pages
order_at rows i order within = let back = back_of rows i within order in back.1

order_next : (rows : List HeldSpan) (i : ℕ) → InOrder 0 rows → suc i < length rows →
    end_of (get_or rows i no_span) ≤ (get_or rows (suc i) no_span).first
order_next rows i order more =
    let back = back_of rows i (omega arith) order in
    let cut = drop-cons rows (suc i) no_span more in
    let rest = subst (InOrder (end_of (get_or rows i no_span))) cut back.2 in
    rest.0

-- where a page has the k-th place, the two spans before it meet there
pub record IsMet (rows : List HeldSpan) (page k : ℕ) : Type 0 where
  pub some : 2 ≤ k
  pub border : IsBorder rows page (k - 2)

-- a border is found at the page's place
pub border_found : (rows : List HeldSpan) (page k : ℕ) → InOrder 0 rows → IsRank rows page k → is_border_in rows page ≡ true →
    IsMet rows page k
border_found rows page zero order place is =
    let begun =
    begun_at rows page 0 order place
    (both (is_some (page_in rows (page - 1))) (begins_in rows page)
    (both (nat_lt 0 page) (is_some (page_in rows (page - 1)) && begins_in rows page) is).1).1 in
    let some = begun.some in
    absurd (omega arith)
border_found rows page (suc zero) order place is =
    let parts = both (nat_lt 0 page) (is_some (page_in rows (page - 1)) && begins_in rows page) is in
    let held = (both (is_some (page_in rows (page - 1))) (begins_in rows page) parts.1).0 in
    let begun = begun_at rows page 1 order place (both (is_some (page_in rows (page - 1))) (begins_in rows page) parts.1).1 in
    let some : 0 < page = ltb-true 0 page parts.0 in
    let e : 1 - 1 ≡ 0 = omega arith in
    let first : first_at rows 0 ≡ page = subst (λ (j : ℕ). first_at rows j ≡ page) e begun.first in
    let below : IsRank rows (page - 1) 0 = record { within = omega arith; before = λ h. absurd (omega arith); behind = λ h. omega arith } in
    let none = place-some rows (page - 1) 0 order below held in
    absurd (omega arith)
border_found rows page (suc (suc i)) order place is =
    let parts = both (nat_lt 0 page) (is_some (page_in rows (page - 1)) && begins_in rows page) is in
    let held = (both (is_some (page_in rows (page - 1))) (begins_in rows page) parts.1).0 in
    let begun = begun_at rows page (suc (suc i)) order place (both (is_some (page_in rows (page - 1))) (begins_in rows page) parts.1).1 in
    let some : 0 < page = ltb-true 0 page parts.0 in
    let e : suc (suc i) - 1 ≡ suc i = omega arith in
    let two : suc (suc i) - 2 ≡ i = omega arith in
    let one : suc i - 1 ≡ i = omega arith in
    let more : suc i ≡ i + 1 = omega arith in
    let first : first_at rows (suc i) ≡ page = subst (λ (j : ℕ). first_at rows j ≡ page) e begun.first in
    let within : suc i < length rows = subst (λ (j : ℕ). j < length rows) e begun.within in
    let least = order_at rows i order (omega arith) in
    let ends = order_next rows i order within in
    let below : IsRank rows (page - 1) (suc i) = record {
      within = omega arith;
      before = λ h. subst (λ (j : ℕ). first_at rows j ≤ page - 1) (sym one) (omega arith);
      behind = λ h. omega arith;
    } in
    let near = near-place rows (page - 1) (suc i) order below in
    let here : IsIn rows i (page - 1) = subst (λ (j : ℕ). IsIn rows j (page - 1)) one (near-held rows (suc i - 1) (page - 1) near held) in
    let to = here.to in
    record {
      some = omega arith;
      border = subst (IsBorder rows page) (sym two) (record {
        within = omega arith;
        end = omega arith;
        next = subst (λ (j : ℕ). first_at rows j ≡ page) more first;
      });
    }

-- where no two spans meet at the page's place there is no border
pub no_border : (rows : List HeldSpan) (page k : ℕ) → InOrder 0 rows → IsRank rows page k → (IsMet rows page k → ⊥) →
    is_border_in rows page ≡ false
no_border rows page k order place none = false_from_ne_true (is_border_in rows page) (λ h. none (border_found rows page k order place h))

-- where two spans meet there is a border
pub border_is : (rows : List HeldSpan) (page i : ℕ) → InOrder 0 rows → IsBorder rows page i → is_border_in rows page ≡ true
border_is rows page i order met =
    let within = met.within in
    let end = met.end in
    let next = met.next in
    let least = order_at rows i order (omega arith) in
    let least_next = order_at rows (i + 1) order within in
    let last : IsIn rows i (page - 1) = record { within = omega arith; from = omega arith; to = omega arith } in
    let first : IsIn rows (i + 1) page = record { within = within; from = omega arith; to = omega arith } in
    let some : nat_lt 0 page ≡ true = lt-ltb 0 page (omega arith) in
    let held : is_some (page_in rows (page - 1)) ≡ true =
    ap is_some (page_in-inside rows i (page - 1) order last ∙ page_of-inside (get_or rows i no_span) (page - 1) last.from last.to) in
    let begun : begins_in rows page ≡ true =
    near-begins rows (i + 1) page (near-inside rows (i + 1) page order first) within
    ∙ eq-eqb (get_or rows (i + 1) no_span).first page next in
    and_from (nat_lt 0 page) (is_some (page_in rows (page - 1)) && begins_in rows page) some
    (and_from (is_some (page_in rows (page - 1))) (begins_in rows page) held begun)

-- two spans as one, cut where they met, are the two
parts_again : (s t : HeldSpan) → t.first ≡ end_of s →
    (front_part (as_one s t) (length s.pages) ≡ s) × (back_part (as_one s t) (length s.pages) ≡ t)
parts_again s t meets = (
  ap (λ (ps : List (List ℕ)). record { first = s.first; pages = ps }) (take-append_seam s.pages t.pages),
  ap (λ (ps : List (List ℕ)). record { first = s.first + length s.pages; pages = ps }) (drop-append_seam s.pages t.pages)
      ∙ ap (λ (k : ℕ). record { first = k; pages = t.pages }) (sym meets),
)

join_order : (xs ys : List HeldSpan) (s t : HeldSpan) → t.first ≡ end_of s → InOrder 0 (xs ++ (s ∷ t ∷ ys)) →
    InOrder 0 (xs ++ (as_one s t ∷ ys))
join_order xs ys s t meets order =
    let back = InOrder-back 0 xs (s ∷ t ∷ ys) order in
    let some = back.1 in
    let long = length-append s.pages t.pages in
    let ends : end_of t ≡ end_of (as_one s t) = omega arith in
    InOrder-append 0 xs (as_one s t ∷ ys) (InOrder-front 0 xs (s ∷ t ∷ ys) order)
    (back.0, omega arith, subst (λ (k : ℕ). InOrder k ys) ends back.2.2)

-- spans between others, made one
join_between : (xs ys : List HeldSpan) (s t : HeldSpan) (m k : ℕ) → m ≤ k + 1 → t.first ≡ end_of s → InOrder 0 (xs ++ (s ∷ t ∷ ys)) →
    IsJoined (end_of s) (record { spans = xs ++ (s ∷ t ∷ ys); room = m }) (record { spans = xs ++ (as_one s t ∷ ys); room = k })
join_between xs ys s t m k less meets order =
    let r = as_one s t in
    let n = length s.pages in
    let whole = join_order xs ys s t meets order in
    let old = InOrder-back 0 xs (s ∷ t ∷ ys) order in
    let front = InOrder-front 0 xs (r ∷ ys) whole in
    let back = InOrder-back 0 xs (r ∷ ys) whole in
    let low = back.0 in
    let some = old.1 in
    let some_next = old.2.1 in
    let long = length-append s.pages t.pages in
    let again = parts_again s t meets in
    let left = begins_in-beyond 0 xs (end_of s) front (omega arith) in
    let here = ne_eqb s.first (end_of s) (λ e. omega arith) in
    let right = begins_in-below (end_of r) ys (end_of s) back.2 (omega arith) in
    let cut = cut_between xs ys r n k m whole (omega arith) (omega arith) in
    record {
      whole = begins_in-append xs (r ∷ ys) (end_of s) ∙ ap (λ (b : Bool). b || ((s.first == end_of s) || begins_in ys (end_of s))) left
          ∙ ap (λ (b : Bool). b || begins_in ys (end_of s)) here ∙ right;
      cut =
          subst
          (λ (x : HeldSpan). IsCutAt (end_of s) (record { spans = xs ++ (r ∷ ys); room = k })
          (record { spans = xs ++ (x ∷ t ∷ ys); room = m })) again.0
          (subst (λ (x : HeldSpan). IsCutAt (end_of s) (record { spans = xs ++ (r ∷ ys); room = k })
          (record { spans = xs ++ (front_part r n ∷ x ∷ ys); room = m })) again.1 cut);
      room = less;
    }

-- the span at i and the one behind it, made one
pub join_made : (rows now : List HeldSpan) (w : Held) (i m n page : ℕ) → record { spans = rows; room = m } ≡ w → InOrder 0 rows →
    IsBorder rows page i → now ≡ with_join rows i → m ≤ n + 1
    → InOrder 0 now × IsJoined page w (record { spans = now; room = n })
join_made rows now w i m n page view order met is less =
    let s = get_or rows i no_span in
    let t = get_or rows (suc i) no_span in
    let xs = take i rows in
    let ys = drop (suc (suc i)) rows in
    let more : i + 1 ≡ suc i = omega arith in
    let within : suc i < length rows = let inside = met.within in omega arith in
    let end : end_of s ≡ page = met.end in
    let next : t.first ≡ page = subst (λ (j : ℕ). first_at rows j ≡ page) more met.next in
    let meets : t.first ≡ end_of s = next ∙ sym end in
    let split : rows ≡ xs ++ (s ∷ t ∷ ys) =
    split_at rows i (omega arith) ∙ ap (λ (rest : List HeldSpan). xs ++ (s ∷ rest)) (drop-cons rows (suc i) no_span within) in
    let whole : InOrder 0 (xs ++ (s ∷ t ∷ ys)) = subst (InOrder 0) split order in
    let old : record { spans = xs ++ (s ∷ t ∷ ys); room = m } ≡ w =
    ap (λ (zs : List HeldSpan). record { spans = zs; room = m }) (sym split) ∙ view in (
      subst (InOrder 0) (sym is) (join_order xs ys s t meets whole),
      subst (λ (zs : List HeldSpan). IsJoined page w (record { spans = zs; room = n })) (sym is)
          (subst (λ (h : Held). IsJoined page h (record { spans = with_join rows i; room = n })) old
          (subst (λ (p : ℕ). IsJoined p (record { spans = xs ++ (s ∷ t ∷ ys); room = m })
          (record { spans = with_join rows i; room = n })) end
          (join_between xs ys s t m n less meets whole))),
    )

-- the page is a border of what is held
pub border_held : (rows : List HeldSpan) (w : Held) (i m page : ℕ) → record { spans = rows; room = m } ≡ w → InOrder 0 rows →
    IsBorder rows page i → is_border w page ≡ true
border_held rows w i m page view order met = sym (ap (λ (h : Held). is_border h page) view) ∙ border_is rows page i order met

-- told pages of the right size
pub sized_joined : (told : Bool) (size page : ℕ) (old new : Held) → IsJoined page old new → AllSized told size old → AllSized told size new
sized_joined told size page old new joined all is_told q =
    subst (λ o. IfSome o (λ page. length page ≡ size)) (joined.cut.pages q) (all is_told q)
