-- What each call leaves held: one span more, one cut in two, one less, and pages written.
use Rattle.std.proofs.Common.{◌≡◌, ℕ, zero, suc, ◌+◌, ◌-◌, ◌<◌, ◌≤◌, Bool, true, false, ◌||◌, cond, List, [], ◌∷◌}
use Rattle.std.proofs.Common.{◌++◌, length, take, drop, get_or, Option, Some, None, refl, sym, ap, subst, ◌∙◌, inl}
use Rattle.std.proofs.Common.{inr, arith, length-append, length-drop, drop-cons, take-append-drop}
use Rattle.std.specs.Prelude.{is_some, ◌==◌, IsTrue, IfSome}
use Rattle.std.specs.Option.{option_or}
use Rattle.std.proofs.lemmas.Bool.{cases_lt, cases_eq, eq-eqb, ne_eqb, eqb-true, false≢true}
use Rattle.std.proofs.lemmas.List.{drop_all, take_more, length-take-le, get_or-take, get_or-drop, get_or_default}
use Rattle.page_port.specs.Pages.{AreOf, IsSized}
use Rattle.span_store.specs.Held.{AllSized, HeldSpan, Held, LacksRun, page_of, page_in, page_at, begins_in, begins}
use Rattle.span_store.specs.Order.{EachSized, InOrder, IsOver, IsRank, no_span, first_at, front_part, back_part, with_cut}
use Rattle.span_store.specs.Calls.{IsAdded, IsCutAt, IsOverwritten, IsRemoved}
use Rattle.span_store.proofs.SpanLists.{Before, Behind, Inside, InOrder-append, InOrder-back, InOrder-front}
use Rattle.span_store.proofs.SpanLists.{InOrder-low, IsIn, back_of, begins_in-append, begins_in-below}
use Rattle.span_store.proofs.SpanLists.{begins_in-beyond, end_of, has_page, last_end, last_end-append, near-begins}
use Rattle.span_store.proofs.SpanLists.{near-begins_past, near-place, option_or-none, option_or_assoc}
use Rattle.span_store.proofs.SpanLists.{page_in-append, page_in-below, page_in-beyond, page_in-inside}
use Rattle.span_store.proofs.SpanLists.{page_of-before, page_of-behind, page_of-inside, split_at, where_is}
use Rattle.span_store.proofs.Overwrites.{begins-shape, has-shape, length-shape}

-- tests in another order
or_swap : (a b c : Bool) → (a || (b || c)) ≡ (b || (a || c))
or_swap true true c = refl
or_swap true false c = refl
or_swap false b c = refl

or_false : (b : Bool) → (b || false) ≡ b
or_false true = refl
or_false false = refl

or_true : (b : Bool) → (b || true) ≡ true
or_true true = refl
or_true false = refl

-- a span between spans in order, none of whose pages it has
added_between : (xs ys : List HeldSpan) (r : HeldSpan) (m : ℕ) → InOrder 0 xs → last_end 0 xs ≤ r.first →
    IsAdded r (record { spans = xs ++ ys; room = m }) (record { spans = xs ++ (r ∷ ys); room = m })
added_between xs ys r m order after = record {
  pages = λ q. page_in-append xs (r ∷ ys) q ∙ here q ∙ sym (ap (option_or (page_of r q)) (page_in-append xs ys q));
  begun =
      λ q. begins_in-append xs (r ∷ ys) q ∙ or_swap (begins_in xs q) (r.first == q) (begins_in ys q)
      ∙ sym (ap (λ (b : Bool). (r.first == q) || b) (begins_in-append xs ys q));
  count = let a = length-append xs (r ∷ ys) in let b = length-append xs ys in omega arith;
  room = omega arith;
}
  where
    here : (q : ℕ) →
        option_or (page_in xs q) (option_or (page_of r q) (page_in ys q))
        ≡ option_or (page_of r q) (option_or (page_in xs q) (page_in ys q))
    here q = elim (where_is r q) [
      | Before before ↦ let none = page_of-before r q before in rw none refl
      | Behind from behind ↦ let none = page_of-behind r q behind in rw none refl
      | Inside from to ↦ let none = page_in-beyond 0 xs q order (omega arith) in rw none refl
    ]

-- the place of a span that has no page in common with those in order
place_front : (rows : List HeldSpan) (r : HeldSpan) (k : ℕ) → InOrder 0 rows → IsRank rows r.first k → 1 ≤ length r.pages →
    ((q : ℕ) → r.first ≤ q → q < end_of r → page_in rows q ≡ None) → last_end 0 (take k rows) ≤ r.first
place_front rows r zero order place some lacks = omega arith
place_front rows r (suc j) order place some lacks =
    let e : suc j - 1 ≡ j = omega arith in
    let within : j < length rows = let w = place.within in omega arith in
    let from : first_at rows j ≤ r.first = subst (λ (i : ℕ). first_at rows i ≤ r.first) e (place.before (omega arith)) in
    let s = get_or rows j no_span in
    let next : suc j ≡ j + 1 = omega arith in
    let ends : last_end 0 (take (suc j) rows) ≡ end_of s =
    ap (λ (i : ℕ). last_end 0 (take i rows)) next ∙ ap (last_end 0) (take_more rows j no_span within)
    ∙ last_end-append 0 (take j rows) (s ∷ []) in
    elim (cases_lt r.first (end_of s)) [
      | inl over ↦
          let inside : IsIn rows j r.first = record { within = within; from = from; to = over } in
          let held = page_in-inside rows j r.first order inside ∙ page_of-inside s r.first from over in
          absurd (false≢true (ap is_some (sym (lacks r.first (omega arith) (omega arith)) ∙ held)))
      | inr clear ↦ omega arith
    ]

place_back : (rows : List HeldSpan) (r : HeldSpan) (k : ℕ) → InOrder 0 rows → IsRank rows r.first k →
    ((q : ℕ) → r.first ≤ q → q < end_of r → page_in rows q ≡ None) → InOrder (end_of r) (drop k rows)
place_back rows r k order place lacks = elim (cases_lt k (length rows)) [
  | inl within ↦
      let s = get_or rows k no_span in
      let back = back_of rows k within order in
      let some = back.1 in
      let behind = place.behind within in
      let clear : end_of r ≤ s.first = elim (cases_lt s.first (end_of r)) [
        | inl over ↦
            let inside : IsIn rows k s.first = record { within = within; from = omega arith; to = omega arith } in
            let held = page_in-inside rows k s.first order inside ∙ page_of-inside s s.first (omega arith) (omega arith) in
            absurd (false≢true (ap is_some (sym (lacks s.first (omega arith) over) ∙ held)))
        | inr clear ↦ clear
      ] in
      subst (InOrder (end_of r)) (sym (drop-cons rows k no_span within)) (clear, some, back.2)
  | inr past ↦ subst (InOrder (end_of r)) (sym (drop_all k rows past)) tt
]

-- a span put into its place
pub add_made : (rows now : List HeldSpan) (w : Held) (r : HeldSpan) (k m : ℕ) → record { spans = rows; room = m } ≡ w → InOrder 0 rows →
    IsRank rows r.first k → 1 ≤ length r.pages → LacksRun w r.first (length r.pages) → now ≡ take k rows ++ (r ∷ drop k rows)
    → InOrder 0 now × IsAdded r w (record { spans = now; room = m })
add_made rows now w r k m view order place some lacks_view e =
    let lacks : (q : ℕ) → r.first ≤ q → q < end_of r → page_in rows q ≡ None =
    λ q from to. ap (λ (h : Held). page_at h q) view ∙ lacks_view q from to in
    let front = place_front rows r k order place some lacks in
    let whole : take k rows ++ drop k rows ≡ rows = take-append-drop k rows in
    let before : InOrder 0 (take k rows) = InOrder-front 0 (take k rows) (drop k rows) (subst (InOrder 0) (sym whole) order) in
    let made : IsAdded r (record { spans = take k rows ++ drop k rows; room = m })
    (record { spans = take k rows ++ (r ∷ drop k rows); room = m }) = added_between (take k rows) (drop k rows) r m before front in
    let old : record { spans = take k rows ++ drop k rows; room = m } ≡ w =
    ap (λ (xs : List HeldSpan). record { spans = xs; room = m }) whole ∙ view in (
      subst (InOrder 0) (sym e)
          (InOrder-append 0 (take k rows) (r ∷ drop k rows) before (front, some, place_back rows r k order place lacks)),
      subst (λ (xs : List HeldSpan). IsAdded r w (record { spans = xs; room = m })) (sym e)
          (subst (λ (h : Held). IsAdded r h (record { spans = take k rows ++ (r ∷ drop k rows); room = m })) old made),
    )

-- a span taken out from between spans in order
pub removed_between : (xs ys : List HeldSpan) (r : HeldSpan) (m n : ℕ) → m ≤ n + 1 → InOrder 0 (xs ++ (r ∷ ys)) →
    IsRemoved r (record { spans = xs ++ (r ∷ ys); room = m }) (record { spans = xs ++ ys; room = n })
removed_between xs ys r m n less order =
    let front = InOrder-front 0 xs (r ∷ ys) order in
    let back = InOrder-back 0 xs (r ∷ ys) order in
    let low = back.0 in
    let some = back.1 in
    record {
      some = some;
      begun =
          let here = eq-eqb r.first r.first refl in
          begins_in-append xs (r ∷ ys) r.first ∙ ap (λ (b : Bool). begins_in xs r.first || (b || begins_in ys r.first)) here
          ∙ or_true (begins_in xs r.first);
      held = λ q h.
          let inside = has_page r q h in
          let left = page_in-beyond 0 xs q front (omega arith) in
          let right = page_in-below (end_of r) ys q back.2 inside.1 in
          page_in-append xs (r ∷ ys) q ∙ ap (λ (o : Option (List ℕ)). option_or o (option_or (page_of r q) (page_in ys q))) left
          ∙ ap (option_or (page_of r q)) right ∙ option_or-none (page_of r q);
      inner = λ q from to.
          let left = begins_in-beyond 0 xs q front (omega arith) in
          let here = ne_eqb r.first q (λ e. omega arith) in
          let right = begins_in-below (end_of r) ys q back.2 to in
          begins_in-append xs (r ∷ ys) q ∙ ap (λ (b : Bool). b || ((r.first == q) || begins_in ys q)) left
          ∙ ap (λ (b : Bool). b || begins_in ys q) here ∙ right;
      end = λ h.
          let left = page_in-beyond 0 xs (end_of r) front (omega arith) in
          let here = page_of-behind r (end_of r) (omega arith) in
          let rest : page_in (xs ++ (r ∷ ys)) (end_of r) ≡ page_in ys (end_of r) =
          page_in-append xs (r ∷ ys) (end_of r)
          ∙ ap (λ (o : Option (List ℕ)). option_or o (option_or (page_of r (end_of r)) (page_in ys (end_of r)))) left
          ∙ ap (λ (o : Option (List ℕ)). option_or o (page_in ys (end_of r))) here in
          let begun = begun_first (end_of r) ys back.2 (sym (ap is_some rest) ∙ h) in
          begins_in-append xs (r ∷ ys) (end_of r) ∙ ap (λ (b : Bool). begins_in xs (end_of r) || ((r.first == end_of r) || b)) begun
          ∙ ap (λ (b : Bool). begins_in xs (end_of r) || b) (or_true (r.first == end_of r)) ∙ or_true (begins_in xs (end_of r));
      pages = λ q. elim (where_is r q) [
        | Before before ↦
            let none = page_of-before r q before in
            rw none
            (page_in-append xs ys q ∙ sym (page_in-append xs (r ∷ ys) q
            ∙ ap (λ (o : Option (List ℕ)). option_or (page_in xs q) (option_or o (page_in ys q))) none))
        | Behind from behind ↦
            let none = page_of-behind r q behind in
            rw none
            (page_in-append xs ys q ∙ sym (page_in-append xs (r ∷ ys) q
            ∙ ap (λ (o : Option (List ℕ)). option_or (page_in xs q) (option_or o (page_in ys q))) none))
        | Inside from to ↦
            let here = page_of-inside r q from to in
            let left = page_in-beyond 0 xs q front (omega arith) in
            let right = page_in-below (end_of r) ys q back.2 to in
            rw here (page_in-append xs ys q ∙ ap (λ (o : Option (List ℕ)). option_or o (page_in ys q)) left ∙ right)
      ];
      begins_left = λ q. elim (cases_eq r.first q) [
        | inl same ↦
            let here = eq-eqb r.first q same in
            let left = begins_in-beyond 0 xs q front (omega arith) in
            let right = begins_in-below (end_of r) ys q back.2 (omega arith) in
            rw here (begins_in-append xs ys q ∙ ap (λ (b : Bool). b || begins_in ys q) left ∙ right)
        | inr other ↦
            let here = ne_eqb r.first q other in
            rw here
            (begins_in-append xs ys q ∙ sym (begins_in-append xs (r ∷ ys) q
            ∙ ap (λ (b : Bool). begins_in xs q || (b || begins_in ys q)) here))
      ];
      count = let a = length-append xs (r ∷ ys) in let b = length-append xs ys in omega arith;
      room = less;
    }
  where
    begun_first : (low : ℕ) (zs : List HeldSpan) → InOrder low zs → is_some (page_in zs low) ≡ true → begins_in zs low ≡ true
    begun_first low [] h held = absurd (false≢true held)
    begun_first low (z ∷ zs) h held = elim (cases_eq z.first low) [
      | inl same ↦ let here = eq-eqb z.first low same in rw here refl
      | inr other ↦
          let from = h.0 in
          let some = h.1 in
          let here = page_of-before z low (omega arith) in
          let rest = page_in-below (end_of z) zs low h.2 (omega arith) in
          absurd (false≢true (sym (ap is_some (ap (λ (o : Option (List ℕ)). option_or o (page_in zs low)) here ∙ rest)) ∙ held))
    ]

pub removed_order : (xs ys : List HeldSpan) (r : HeldSpan) → InOrder 0 (xs ++ (r ∷ ys)) → InOrder 0 (xs ++ ys)
removed_order xs ys r order =
    let back = InOrder-back 0 xs (r ∷ ys) order in
    let low = back.0 in
    InOrder-append 0 xs ys (InOrder-front 0 xs (r ∷ ys) order) (InOrder-low (last_end 0 xs) (end_of r) ys (omega arith) back.2)

-- the span at i taken out
pub remove_made : (rows now : List HeldSpan) (w : Held) (r : HeldSpan) (i m n : ℕ) →
    record { spans = rows; room = m } ≡ w → InOrder 0 rows →
    i < length rows → get_or rows i no_span ≡ r → now ≡ take i rows ++ drop (suc i) rows → m ≤ n + 1
    → InOrder 0 now × IsRemoved r w (record { spans = now; room = n })
remove_made rows now w r i m n view order within here e less =
    let split : rows ≡ take i rows ++ (r ∷ drop (suc i) rows) =
    split_at rows i within ∙ ap (λ (s : HeldSpan). take i rows ++ (s ∷ drop (suc i) rows)) here in
    let whole : InOrder 0 (take i rows ++ (r ∷ drop (suc i) rows)) = subst (InOrder 0) split order in
    let old : record { spans = take i rows ++ (r ∷ drop (suc i) rows); room = m } ≡ w =
    ap (λ (xs : List HeldSpan). record { spans = xs; room = m }) (sym split) ∙ view in (
      subst (InOrder 0) (sym e) (removed_order (take i rows) (drop (suc i) rows) r whole),
      subst (λ (xs : List HeldSpan). IsRemoved r w (record { spans = xs; room = n })) (sym e)
          (subst (λ (h : Held). IsRemoved r h (record { spans = take i rows ++ drop (suc i) rows; room = n })) old
          (removed_between (take i rows) (drop (suc i) rows) r m n less whole)),
    )

-- the span that begins at a page is the one before the page's place
pub record IsBegun (rows : List HeldSpan) (page k : ℕ) : Type 0 where
  pub some : 0 < k
  pub within : k - 1 < length rows
  pub first : (get_or rows (k - 1) no_span).first ≡ page

pub begun_at : (rows : List HeldSpan) (page k : ℕ) → InOrder 0 rows → IsRank rows page k → begins_in rows page ≡ true → IsBegun rows page k
begun_at rows page k order place begun =
    let near = near-place rows page k order place in
    elim (cases_lt (k - 1) (length rows)) [
      | inl within ↦
          let first : (get_or rows (k - 1) no_span).first ≡ page =
          eqb-true (get_or rows (k - 1) no_span).first page (sym (near-begins rows (k - 1) page near within) ∙ begun) in
          let some : 0 < k = elim (cases_lt 0 k) [
            | inl some ↦ some
            | inr none ↦
                let zero_k : k ≡ 0 = omega arith in
                let front : k - 1 ≡ 0 = omega arith in
                let behind : page < first_at rows k = place.behind (omega arith) in
                let same : first_at rows k ≡ page = ap (first_at rows) zero_k ∙ sym (ap (first_at rows) front) ∙ first in
                absurd (omega arith)
          ] in
          record { some = some; within = within; first = first }
      | inr past ↦ absurd (false≢true (sym (near-begins_past rows (k - 1) page near past) ∙ begun))
    ]

-- a span in two parts holds what it held
pub cut_page : (r : HeldSpan) (n q : ℕ) → n ≤ length r.pages →
    option_or (page_of (front_part r n) q) (page_of (back_part r n) q) ≡ page_of r q
cut_page r n q fits =
    let long : length (take n r.pages) ≡ n = length-take-le n r.pages fits in
    let rest = length-drop n r.pages in
    elim (where_is r q) [
      | Before before ↦
          let front = page_of-before (front_part r n) q before in
          let back = page_of-before (back_part r n) q (omega arith) in
          let none = page_of-before r q before in
          rw (front, back, none) refl
      | Behind from behind ↦
          let front = page_of-behind (front_part r n) q (omega arith) in
          let back = page_of-behind (back_part r n) q (omega arith) in
          let none = page_of-behind r q behind in
          rw (front, back, none) refl
      | Inside from to ↦ elim (cases_lt q (r.first + n)) [
        | inl less ↦
            ap (λ (o : Option (List ℕ)). option_or o (page_of (back_part r n) q)) (page_of-inside (front_part r n) q from (omega arith))
            ∙ ap (λ (page : List ℕ). Some page) (get_or-take n r.pages (q - r.first) [] (omega arith)) ∙ sym (page_of-inside r q from to)
        | inr more ↦
            let place : n + (q - (r.first + n)) ≡ q - r.first = omega arith in
            ap (λ (o : Option (List ℕ)). option_or o (page_of (back_part r n) q)) (page_of-behind (front_part r n) q (omega arith))
            ∙ page_of-inside (back_part r n) q more (omega arith)
            ∙ ap (λ (page : List ℕ). Some page) (get_or-drop n r.pages (q - (r.first + n)) [] ∙ ap (λ (k : ℕ). get_or r.pages k []) place)
            ∙ sym (page_of-inside r q from to)
      ]
    ]

or_third : (a b p c : Bool) → (a || (b || (p || c))) ≡ (p || (a || (b || c)))
or_third true b true c = refl
or_third true b false c = refl
or_third false true true c = refl
or_third false true false c = refl
or_third false false p c = refl

-- a span between spans in order, cut behind its first n pages
pub cut_between : (xs ys : List HeldSpan) (r : HeldSpan) (n m k : ℕ) → InOrder 0 (xs ++ (r ∷ ys)) → 0 < n → n < length r.pages →
    IsCutAt (r.first + n) (record { spans = xs ++ (r ∷ ys); room = m })
    (record { spans = xs ++ (front_part r n ∷ back_part r n ∷ ys); room = k })
cut_between xs ys r n m k order some fewer =
    let front = InOrder-front 0 xs (r ∷ ys) order in
    let back = InOrder-back 0 xs (r ∷ ys) order in
    let low = back.0 in
    record {
      pages = λ q.
          page_in-append xs (front_part r n ∷ back_part r n ∷ ys) q
          ∙ ap (option_or (page_in xs q)) (sym (option_or_assoc (page_of (front_part r n) q) (page_of (back_part r n) q) (page_in ys q))
          ∙ ap (λ (o : Option (List ℕ)). option_or o (page_in ys q)) (cut_page r n q (omega arith)))
          ∙ sym (page_in-append xs (r ∷ ys) q);
      begun = λ q.
          begins_in-append xs (front_part r n ∷ back_part r n ∷ ys) q
          ∙ or_third (begins_in xs q) (r.first == q) ((r.first + n) == q) (begins_in ys q)
          ∙ sym (ap (λ (b : Bool). ((r.first + n) == q) || b) (begins_in-append xs (r ∷ ys) q));
      count =
          let left = begins_in-beyond 0 xs (r.first + n) front (omega arith) in
          let here = ne_eqb r.first (r.first + n) (λ e. omega arith) in
          let right = begins_in-below (end_of r) ys (r.first + n) back.2 (omega arith) in
          let inner : begins_in (xs ++ (r ∷ ys)) (r.first + n) ≡ false =
          begins_in-append xs (r ∷ ys) (r.first + n)
          ∙ ap (λ (b : Bool). b || ((r.first == (r.first + n)) || begins_in ys (r.first + n))) left
          ∙ ap (λ (b : Bool). b || begins_in ys (r.first + n)) here ∙ right in
          let a = length-append xs (r ∷ ys) in
          let b = length-append xs (front_part r n ∷ back_part r n ∷ ys) in
          let more : length (xs ++ (front_part r n ∷ back_part r n ∷ ys)) ≡ length (xs ++ (r ∷ ys)) + 1 = omega arith in
          more ∙ sym (ap (λ (b : Bool). cond b (length (xs ++ (r ∷ ys))) (length (xs ++ (r ∷ ys)) + 1)) inner);
    }

cut_order : (xs ys : List HeldSpan) (r : HeldSpan) (n : ℕ) → InOrder 0 (xs ++ (r ∷ ys)) → 0 < n → n < length r.pages →
    InOrder 0 (xs ++ (front_part r n ∷ back_part r n ∷ ys))
cut_order xs ys r n order some fewer =
    let back = InOrder-back 0 xs (r ∷ ys) order in
    let long : length (take n r.pages) ≡ n = length-take-le n r.pages (omega arith) in
    let rest = length-drop n r.pages in
    let ends : end_of r ≡ end_of (back_part r n) = omega arith in
    InOrder-append 0 xs (front_part r n ∷ back_part r n ∷ ys) (InOrder-front 0 xs (r ∷ ys) order)
    (back.0, omega arith, (omega arith, omega arith, subst (λ (k : ℕ). InOrder k ys) ends back.2))

-- the span that has a page, cut there
pub cut_made : (rows now : List HeldSpan) (w : Held) (i n m k page : ℕ) → record { spans = rows; room = m } ≡ w → InOrder 0 rows →
    IsIn rows i page → n ≡ page - (get_or rows i no_span).first → 0 < n → now ≡ with_cut rows i n
    → InOrder 0 now × IsCutAt page w (record { spans = now; room = k })
cut_made rows now w i n m k page view order here e some is =
    let r = get_or rows i no_span in
    let split = split_at rows i here.within in
    let whole : InOrder 0 (take i rows ++ (r ∷ drop (suc i) rows)) = subst (InOrder 0) split order in
    let old : record { spans = take i rows ++ (r ∷ drop (suc i) rows); room = m } ≡ w =
    ap (λ (xs : List HeldSpan). record { spans = xs; room = m }) (sym split) ∙ view in
    let from = here.from in
    let to = here.to in
    let place : r.first + n ≡ page = omega arith in
    let fewer : n < length r.pages = omega arith in (
      subst (InOrder 0) (sym is) (cut_order (take i rows) (drop (suc i) rows) r n whole some fewer),
      subst (λ (xs : List HeldSpan). IsCutAt page w (record { spans = xs; room = k })) (sym is)
          (subst (λ (h : Held). IsCutAt page h (record { spans = with_cut rows i n; room = k })) old
          (subst (λ (p : ℕ). IsCutAt p (record { spans = take i rows ++ (r ∷ drop (suc i) rows); room = m })
          (record { spans = with_cut rows i n; room = k })) place
          (cut_between (take i rows) (drop (suc i) rows) r n m k whole some fewer))),
    )

-- a page at which a span begins already
pub cut_kept : (w : Held) (page : ℕ) → begins w page ≡ true → IsCutAt page w w
cut_kept w page begun = record {
  pages = λ q. refl;
  begun = λ q. elim (cases_eq page q) [
    | inl same ↦ let here = eq-eqb page q same in rw here (ap (begins w) (sym same) ∙ begun)
    | inr other ↦ let here = ne_eqb page q other in rw here refl
  ];
  count = rw begun refl;
}

-- told pages of the right size
pub sized_added : (told : Bool) (size : ℕ) (s : HeldSpan) (old new : Held) → IsAdded s old new → IsSized told size s.pages →
    AllSized told size old → AllSized told size new
sized_added told size s old new added sized all is_told q =
    subst (λ (o : Option (List ℕ)). IfSome o (λ page. length page ≡ size)) (sym (added.pages q)) (elim (where_is s q) [
      | Before before ↦ let none = page_of-before s q before in rw none (all is_told q)
      | Behind from behind ↦ let none = page_of-behind s q behind in rw none (all is_told q)
      | Inside from to ↦ let here = page_of-inside s q from to in rw here (sized is_told (q - s.first) [] (omega arith))
    ])

pub sized_cut : (told : Bool) (size page : ℕ) (old new : Held) → IsCutAt page old new → AllSized told size old → AllSized told size new
sized_cut told size page old new cut all is_told q =
    subst (λ (o : Option (List ℕ)). IfSome o (λ page. length page ≡ size)) (sym (cut.pages q)) (all is_told q)

pub sized_removed : (told : Bool) (size : ℕ) (s : HeldSpan) (old new : Held) → IsRemoved s old new → AllSized told size old →
    IsSized told size s.pages × AllSized told size new
sized_removed told size s old new removed all = (
  λ is_told k d less.
      let here = page_of-inside s (s.first + k) (omega arith) (omega arith) in
      let held : page_at old (s.first + k) ≡ Some (get_or s.pages ((s.first + k) - s.first) []) =
      removed.held (s.first + k) (ap is_some here) ∙ here in
      let place : (s.first + k) - s.first ≡ k = omega arith in
      let sized : length (get_or s.pages ((s.first + k) - s.first) []) ≡ size =
      subst (λ (o : Option (List ℕ)). IfSome o (λ page. length page ≡ size)) held (all is_told (s.first + k)) in
      ap length (get_or_default s.pages k d [] less ∙ sym (ap (λ (j : ℕ). get_or s.pages j []) place)) ∙ sized,
  λ is_told q.
      subst (λ (o : Option (List ℕ)). IfSome o (λ page. length page ≡ size)) (sym (removed.pages q))
      (kept_or_none (is_some (page_of s q)) (page_at old q) size (all is_told q)),
)
  where
    kept_or_none : (b : Bool) (o : Option (List ℕ)) (size : ℕ) → IfSome o (λ page. length page ≡ size) →
        IfSome (cond b None o) (λ page. length page ≡ size)
    kept_or_none true o size h = tt
    kept_or_none false o size h = h

pub each_sized : (told : Bool) (size : ℕ) (rows : List HeldSpan) → InOrder 0 rows →
    (IsTrue told → (q : ℕ) → IfSome (page_in rows q) (λ page. length page ≡ size)) → EachSized told size rows
each_sized told size rows order all is_told k d less =
    let s = get_or rows k no_span in
    let each : AreOf size s.pages = λ j e inside.
    let here : IsIn rows k (s.first + j) = record { within = less; from = omega arith; to = omega arith } in
    let held = page_in-inside rows k (s.first + j) order here ∙ page_of-inside s (s.first + j) here.from here.to in
    let place : (s.first + j) - s.first ≡ j = omega arith in
    let sized : length (get_or s.pages ((s.first + j) - s.first) []) ≡ size =
    subst (λ (o : Option (List ℕ)). IfSome o (λ page. length page ≡ size)) held (all is_told (s.first + j)) in
    ap length (get_or_default s.pages j e [] inside ∙ sym (ap (λ (i : ℕ). get_or s.pages i []) place)) ∙ sized in
    subst (λ (t : HeldSpan). AreOf size t.pages) (get_or_default rows k no_span d less) each

pub all_sized : (told : Bool) (size : ℕ) (rows : List HeldSpan) → EachSized told size rows → IsTrue told → (q : ℕ) →
    IfSome (page_in rows q) (λ page. length page ≡ size)
all_sized told size [] each is_told q = tt
all_sized told size (s ∷ rows) each is_told q =
    let rest : EachSized told size rows = λ t k d less. each t (suc k) d (omega arith) in
    let below = all_sized told size rows rest is_told q in
    elim (where_is s q) [
      | Before before ↦ let none = page_of-before s q before in rw none below
      | Behind from behind ↦ let none = page_of-behind s q behind in rw none below
      | Inside from to ↦ let here = page_of-inside s q from to in rw here (each is_told 0 s (omega arith) (q - s.first) [] (omega arith))
    ]

-- written pages
pub write_made : (first n m : ℕ) (rows now : List HeldSpan) (w : Held) → record { spans = rows; room = m } ≡ w → IsOver first n rows now →
    IsOverwritten first n w (record { spans = now; room = m })
write_made first n m rows now w view over =
    subst (λ (h : Held). IsOverwritten first n h (record { spans = now; room = m })) view (record {
      before = over.before;
      behind = over.behind;
      held = λ q. has-shape rows now q over.shape;
      begun = λ q. begins-shape rows now q over.shape;
      count = length-shape rows now over.shape;
      room = refl;
    })
