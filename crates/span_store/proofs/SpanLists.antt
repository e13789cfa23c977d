-- Lists of spans in order: what they hold on a page, where they begin, and which one has a page.
use Rattle.std.proofs.Common.{◌≡◌, ℕ, zero, suc, ◌+◌, ◌-◌, ◌<◌, ◌≤◌, Bool, true, false, ◌||◌, List, [], ◌∷◌, ◌++◌}
use Rattle.std.proofs.Common.{length, take, drop, get_or, Option, Some, None, refl, sym, ap, subst, ◌∙◌, inl, inr}
use Rattle.std.proofs.Common.{arith, drop-cons, take-append-drop}
use Rattle.std.specs.Prelude.{is_some, ◌==◌, IsTrue}
use Rattle.std.specs.Option.{option_or}
use Rattle.std.proofs.lemmas.List.{drop-drop, drop_all, take_more, take_all, get_or-map}
use Rattle.std.proofs.lemmas.List.Folds.{list_any-append}
use Rattle.std.proofs.lemmas.Bool.{cases_lt, le-leb, lt-leb, ne_eqb, false≢true}
use Rattle.std.proofs.lemmas.Option.{slice_get-get_or, slice_get_past}
use Rattle.span_store.specs.Held.{HeldSpan, span_of, spans_of, page_of, page_in, begins_in}
use Rattle.span_store.specs.Order.{InOrder, IsRank, no_span, first_at}

-- where a span ends: the page behind its last one
abbrev pub end_of : HeldSpan → ℕ
end_of s = s.first + length s.pages

-- where the last of these spans ends, or `low` where there is none
abbrev pub last_end : ℕ → List HeldSpan → ℕ
last_end low [] = low
last_end low (s ∷ spans) = last_end (end_of s) spans

-- the first of two that there is
pub option_or-none : {X : Type 0} (o : Option X) → option_or o None ≡ o
option_or-none None = refl
option_or-none (Some x) = refl

pub option_or_assoc : {X : Type 0} (a b c : Option X) → option_or (option_or a b) c ≡ option_or a (option_or b c)
option_or_assoc None b c = refl
option_or_assoc (Some x) b c = refl

-- one span
pub page_of-inside : (s : HeldSpan) (q : ℕ) → s.first ≤ q → q < end_of s → page_of s q ≡ Some (get_or s.pages (q - s.first) [])
page_of-inside s q from to =
    let here = slice_get-get_or s.pages (q - s.first) [] (omega arith) in
    rw (le-leb s.first q from) here

pub page_of-before : (s : HeldSpan) (q : ℕ) → q < s.first → page_of s q ≡ None
page_of-before s q before = rw (lt-leb s.first q before) refl

pub page_of-behind : (s : HeldSpan) (q : ℕ) → end_of s ≤ q → page_of s q ≡ None
page_of-behind s q behind =
    let past = slice_get_past s.pages (q - s.first) (omega arith) in
    rw (le-leb s.first q (omega arith)) past

-- a page is before a span, behind it, or one of its
pub data WhereIs (s : HeldSpan) (q : ℕ) : Type 0 where
  Before : q < s.first → WhereIs s q
  Behind : s.first ≤ q → end_of s ≤ q → WhereIs s q
  Inside : s.first ≤ q → q < end_of s → WhereIs s q

pub where_is : (s : HeldSpan) (q : ℕ) → WhereIs s q
where_is s q = elim (cases_lt q s.first) [
  | inl before ↦ Before before
  | inr from ↦ elim (cases_lt q (end_of s)) [ inl to ↦ Inside from to | inr behind ↦ Behind from behind ]
]

pub has_page : (s : HeldSpan) (q : ℕ) → is_some (page_of s q) ≡ true → (s.first ≤ q) × (q < end_of s)
has_page s q h = elim (where_is s q) [
  | Before before ↦ absurd (false≢true (sym (ap is_some (page_of-before s q before)) ∙ h))
  | Behind from behind ↦ absurd (false≢true (sym (ap is_some (page_of-behind s q behind)) ∙ h))
  | Inside from to ↦ (from, to)
]

-- spans in two parts
pub page_in-append : (xs ys : List HeldSpan) (q : ℕ) → page_in (xs ++ ys) q ≡ option_or (page_in xs q) (page_in ys q)
page_in-append [] ys q = refl
page_in-append (x ∷ xs) ys q =
    ap (option_or (page_of x q)) (page_in-append xs ys q) ∙ sym (option_or_assoc (page_of x q) (page_in xs q) (page_in ys q))

pub begins_in-append : (xs ys : List HeldSpan) (q : ℕ) → begins_in (xs ++ ys) q ≡ (begins_in xs q || begins_in ys q)
begins_in-append xs ys q = list_any-append (λ (s : HeldSpan). s.first == q) xs ys

pub last_end-append : (low : ℕ) (xs ys : List HeldSpan) → last_end low (xs ++ ys) ≡ last_end (last_end low xs) ys
last_end-append low [] ys = refl
last_end-append low (x ∷ xs) ys = last_end-append (end_of x) xs ys

-- the order
pub InOrder-low : (a b : ℕ) (xs : List HeldSpan) → a ≤ b → InOrder b xs → InOrder a xs
InOrder-low a b [] less h = tt
InOrder-low a b (x ∷ xs) less h = let low = h.0 in (omega arith, h.1, h.2)

pub InOrder-append : (low : ℕ) (xs ys : List HeldSpan) → InOrder low xs → InOrder (last_end low xs) ys → InOrder low (xs ++ ys)
InOrder-append low [] ys front back = back
InOrder-append low (x ∷ xs) ys front back = (front.0, front.1, InOrder-append (end_of x) xs ys front.2 back)

pub InOrder-front : (low : ℕ) (xs ys : List HeldSpan) → InOrder low (xs ++ ys) → InOrder low xs
InOrder-front low [] ys h = tt
InOrder-front low (x ∷ xs) ys h = (h.0, h.1, InOrder-front (end_of x) xs ys h.2)

pub InOrder-back : (low : ℕ) (xs ys : List HeldSpan) → InOrder low (xs ++ ys) → InOrder (last_end low xs) ys
InOrder-back low [] ys h = h
InOrder-back low (x ∷ xs) ys h = InOrder-back (end_of x) xs ys h.2

pub last_end-least : (low : ℕ) (xs : List HeldSpan) → InOrder low xs → low ≤ last_end low xs
last_end-least low [] h = omega arith
last_end-least low (x ∷ xs) h =
    let least = last_end-least (end_of x) xs h.2 in
    let from = h.0 in
    omega arith

-- before and behind spans in order nothing is held, and none of them begins
pub page_in-below : (low : ℕ) (xs : List HeldSpan) (q : ℕ) → InOrder low xs → q < low → page_in xs q ≡ None
page_in-below low [] q h below = refl
page_in-below low (x ∷ xs) q h below =
    let from = h.0 in
    let some = h.1 in
    let here = page_of-before x q (omega arith) in
    let rest = page_in-below (end_of x) xs q h.2 (omega arith) in
    rw (here, rest) refl

pub page_in-beyond : (low : ℕ) (xs : List HeldSpan) (q : ℕ) → InOrder low xs → last_end low xs ≤ q → page_in xs q ≡ None
page_in-beyond low [] q h beyond = refl
page_in-beyond low (x ∷ xs) q h beyond =
    let least = last_end-least (end_of x) xs h.2 in
    let here = page_of-behind x q (omega arith) in
    let rest = page_in-beyond (end_of x) xs q h.2 beyond in
    rw (here, rest) refl

pub begins_in-below : (low : ℕ) (xs : List HeldSpan) (q : ℕ) → InOrder low xs → q < low → begins_in xs q ≡ false
begins_in-below low [] q h below = refl
begins_in-below low (x ∷ xs) q h below =
    let from = h.0 in
    let some = h.1 in
    let here = ne_eqb x.first q (λ e. omega arith) in
    let rest = begins_in-below (end_of x) xs q h.2 (omega arith) in
    rw (here, rest) refl

pub begins_in-beyond : (low : ℕ) (xs : List HeldSpan) (q : ℕ) → InOrder low xs → last_end low xs ≤ q → begins_in xs q ≡ false
begins_in-beyond low [] q h beyond = refl
begins_in-beyond low (x ∷ xs) q h beyond =
    let some = h.1 in
    let least = last_end-least (end_of x) xs h.2 in
    let here = ne_eqb x.first q (λ e. omega arith) in
    let rest = begins_in-beyond (end_of x) xs q h.2 beyond in
    rw (here, rest) refl

-- the spans around one of them
pub split_at : (xs : List HeldSpan) (i : ℕ) → i < length xs → xs ≡ take i xs ++ (get_or xs i no_span ∷ drop (suc i) xs)
split_at xs i within =
    sym (take-append-drop i xs) ∙ ap (λ (rest : List HeldSpan). take i xs ++ rest) (drop-cons xs i no_span within)

-- the span at i is the only one that can have the page
pub record IsNear (spans : List HeldSpan) (i page : ℕ) : Type 0 where
  pub front : InOrder 0 (take i spans)
  pub before : last_end 0 (take i spans) ≤ page
  pub behind : InOrder (suc page) (drop (suc i) spans)

pub near-page : (spans : List HeldSpan) (i page : ℕ) → IsNear spans i page → i < length spans →
    page_in spans page ≡ page_of (get_or spans i no_span) page
near-page spans i page near within =
    let r = get_or spans i no_span in
    let left = page_in-beyond 0 (take i spans) page near.front near.before in
    let right = page_in-below (suc page) (drop (suc i) spans) page near.behind (omega arith) in
    ap (λ (xs : List HeldSpan). page_in xs page) (split_at spans i within)
    ∙ page_in-append (take i spans) (r ∷ drop (suc i) spans) page
    ∙ ap (λ (o : Option (List ℕ)). option_or o (option_or (page_of r page) (page_in (drop (suc i) spans) page))) left
    ∙ ap (option_or (page_of r page)) right
    ∙ option_or-none (page_of r page)

pub near-past : (spans : List HeldSpan) (i page : ℕ) → IsNear spans i page → length spans ≤ i → page_in spans page ≡ None
near-past spans i page near past =
    ap (λ (xs : List HeldSpan). page_in xs page) (sym (take_all i spans past)) ∙ page_in-beyond 0 (take i spans) page near.front near.before

pub near-begins : (spans : List HeldSpan) (i page : ℕ) → IsNear spans i page → i < length spans →
    begins_in spans page ≡ ((get_or spans i no_span).first == page)
near-begins spans i page near within =
    let r = get_or spans i no_span in
    let left = begins_in-beyond 0 (take i spans) page near.front near.before in
    let right = begins_in-below (suc page) (drop (suc i) spans) page near.behind (omega arith) in
    ap (λ (xs : List HeldSpan). begins_in xs page) (split_at spans i within)
    ∙ begins_in-append (take i spans) (r ∷ drop (suc i) spans) page
    ∙ ap (λ (b : Bool). b || ((r.first == page) || begins_in (drop (suc i) spans) page)) left
    ∙ ap (λ (b : Bool). (r.first == page) || b) right
    ∙ or_false (r.first == page)
  where
    or_false : (b : Bool) → (b || false) ≡ b
    or_false true = refl
    or_false false = refl

pub near-begins_past : (spans : List HeldSpan) (i page : ℕ) → IsNear spans i page → length spans ≤ i → begins_in spans page ≡ false
near-begins_past spans i page near past =
    ap (λ (xs : List HeldSpan). begins_in xs page) (sym (take_all i spans past))
    ∙ begins_in-beyond 0 (take i spans) page near.front near.before

-- a page that is held is one of the span near it
pub record IsIn (spans : List HeldSpan) (i page : ℕ) : Type 0 where
  pub within : i < length spans
  pub from : (get_or spans i no_span).first ≤ page
  pub to : page < end_of (get_or spans i no_span)

pub near-held : (spans : List HeldSpan) (i page : ℕ) → IsNear spans i page → is_some (page_in spans page) ≡ true → IsIn spans i page
near-held spans i page near held = elim (cases_lt i (length spans)) [
  | inl within ↦
      let e = near-page spans i page near within in
      let inside = has_page (get_or spans i no_span) page (sym (ap is_some e) ∙ held) in
      record { within = within; from = inside.0; to = inside.1 }
  | inr past ↦ absurd (false≢true (sym (ap is_some (near-past spans i page near past)) ∙ held))
]

-- what stands before and behind the span at i
pub front_of : (spans : List HeldSpan) (i : ℕ) → i < length spans → InOrder 0 spans → InOrder 0 (take i spans)
front_of spans i within order =
    InOrder-front 0 (take i spans) (drop i spans) (subst (InOrder 0) (sym (take-append-drop i spans)) order)

pub back_of : (spans : List HeldSpan) (i : ℕ) → i < length spans → InOrder 0 spans →
    InOrder (last_end 0 (take i spans)) (get_or spans i no_span ∷ drop (suc i) spans)
back_of spans i within order =
    InOrder-back 0 (take i spans) (get_or spans i no_span ∷ drop (suc i) spans) (subst (InOrder 0) (split_at spans i within) order)

-- a span is near each of its pages
pub near-inside : (spans : List HeldSpan) (i page : ℕ) → InOrder 0 spans → IsIn spans i page → IsNear spans i page
near-inside spans i page order here =
    let back = back_of spans i here.within order in
    let first = back.0 in
    let from = here.from in
    let to = here.to in
    record {
      front = front_of spans i here.within order;
      before = omega arith;
      behind = InOrder-low (suc page) (end_of (get_or spans i no_span)) (drop (suc i) spans) (omega arith) back.2;
    }

pub page_in-inside : (spans : List HeldSpan) (i page : ℕ) → InOrder 0 spans → IsIn spans i page →
    page_in spans page ≡ page_of (get_or spans i no_span) page
page_in-inside spans i page order here = near-page spans i page (near-inside spans i page order here) here.within

-- spans that begin behind an end of which each has a page: the second begins behind the first page too
behind_one : (low : ℕ) (xs : List HeldSpan) → InOrder low xs → InOrder (suc low) (drop 1 xs)
behind_one low [] h = tt
behind_one low (x ∷ xs) h =
    let from = h.0 in
    let some = h.1 in
    InOrder-low (suc low) (end_of x) xs (omega arith) h.2

-- the next span is near the page behind a span
pub near-next : (spans : List HeldSpan) (i : ℕ) → InOrder 0 spans → i < length spans →
    IsNear spans (i + 1) (end_of (get_or spans i no_span))
near-next spans i order within =
    let r = get_or spans i no_span in
    let back = back_of spans i within order in
    let more : take (i + 1) spans ≡ take i spans ++ r ∷ [] = take_more spans i no_span within in
    let ends : last_end 0 (take (i + 1) spans) ≡ end_of r = ap (last_end 0) more ∙ last_end-append 0 (take i spans) (r ∷ []) in
    let rest : drop (suc (i + 1)) spans ≡ drop 1 (drop (suc i) spans) =
    ap (λ (k : ℕ). drop k spans) (let e : suc (i + 1) ≡ suc i + 1 = omega arith in e) ∙ sym (drop-drop 1 (suc i) spans) in
    record {
      front = subst (InOrder 0) (sym more) (InOrder-append 0 (take i spans) (r ∷ []) (front_of spans i within order) (back.0, back.1, tt));
      before = omega arith;
      behind = subst (InOrder (suc (end_of r))) (sym rest) (behind_one (end_of r) (drop (suc i) spans) back.2);
    }

-- the span before a place is near the page
pub near-place : (spans : List HeldSpan) (page k : ℕ) → InOrder 0 spans → IsRank spans page k → IsNear spans (k - 1) page
near-place spans page zero order place = record {
  front = tt;
  before = omega arith;
  behind = elim (cases_lt 0 (length spans)) [
    | inl some ↦
        let back = back_of spans 0 some order in
        let behind = place.behind some in
        InOrder-low (suc page) (end_of (get_or spans 0 no_span)) (drop 1 spans) (omega arith) back.2
    | inr none ↦ subst (InOrder (suc page)) (sym (drop_all 1 spans (omega arith))) tt
  ];
}
near-place spans page (suc j) order place =
    let e : suc j - 1 ≡ j = omega arith in
    let within : j < length spans = let w = place.within in omega arith in
    let first : first_at spans j ≤ page = subst (λ (k : ℕ). first_at spans k ≤ page) e (place.before (omega arith)) in
    let back = back_of spans j within order in
    let low = back.0 in
    let near : IsNear spans j page = record {
      front = front_of spans j within order;
      before = omega arith;
      behind = elim (cases_lt (suc j) (length spans)) [
        | inl more ↦
            let behind = place.behind more in
            let cut = drop-cons spans (suc j) no_span more in
            let rest = subst (InOrder (end_of (get_or spans j no_span))) cut back.2 in
            subst (InOrder (suc page)) (sym cut) (omega arith, rest.1, rest.2)
        | inr none ↦ subst (InOrder (suc page)) (sym (drop_all (suc j) spans none)) tt
      ];
    } in
    subst (λ (k : ℕ). IsNear spans k page) (sym e) near

-- a span in a list of them, as contracts see it
pub span_at : {X : Type 0} (start : X → ℕ) (contents : X → List (List ℕ)) (items : List X) (i : ℕ) (x : X) → i < length items →
    x ≡ get_or items i x → get_or (spans_of start contents items) i no_span ≡ span_of start contents x
span_at start contents items i x within read =
    get_or-map (span_of start contents) items i x no_span within ∙ ap (span_of start contents) (sym read)

-- a run that has a page which isn't held
pub lacks_page : (spans : List HeldSpan) (first n page : ℕ) → first ≤ page → page < first + n → page_in spans page ≡ None
    → ((q : ℕ) → first ≤ q → q < first + n → IsTrue (is_some (page_in spans q))) → IsTrue false
lacks_page spans first n page from to none held =
    subst (λ (o : Option (List ℕ)). IsTrue (is_some o)) none (held page from to)

-- where a page is held some span begins at it or before it
pub place-some : (spans : List HeldSpan) (page k : ℕ) → InOrder 0 spans → IsRank spans page k → is_some (page_in spans page) ≡ true → 0 < k
place-some spans page zero order place held =
    let here = near-held spans 0 page (near-place spans page zero order place) held in
    let behind = place.behind here.within in
    let from = here.from in
    absurd (omega arith)
place-some spans page (suc j) order place held = omega arith
