-- The vector of a piece, and the list of spans that contracts see.
use Rattle.std.proofs.Common.{◌≡◌, ℕ, ◌+◌, ◌-◌, ◌<◌, List, [], ◌∷◌, ◌++◌, length, take, drop}
use Rattle.std.proofs.Common.{get_or, map, set, reverse, refl, sym, ap, subst, ◌∙◌, arith}
use Rattle.std.specs.List.{insert}
use Rattle.std.proofs.lemmas.List.{append_assoc, drop-map, get_or-set_same, length-map, map-append, map-set}
use Rattle.std.proofs.lemmas.List.{reverse-append, take-map}
use Rattle.std.proofs.Math.Seq.{take-append_seam, drop-append_seam}
use Rattle.span_store.specs.Held.{HeldSpan, span_of, spans_of}
use Rattle.page_port.specs.Pages.{KeepsOthers}
use Rattle.span_store.specs.Order.{as_one, no_span}
use Rattle.span_store.specs.Pieces.{IsOverAt}
use Rattle.span_store.proofs.SpanLists.{span_at}

pub count_of : {X : Type 0} (start : X → ℕ) (contents : X → List (List ℕ)) (items : List X) (w : List HeldSpan) →
    spans_of start contents items ≡ w → length items ≡ length w
count_of start contents items w view = sym (length-map items (span_of start contents)) ∙ ap length view

pub seen_at : {X : Type 0} (start : X → ℕ) (contents : X → List (List ℕ)) (items : List X) (w : List HeldSpan) (i : ℕ) (x : X) →
    spans_of start contents items ≡ w → i < length w → x ≡ get_or items i x → span_of start contents x ≡ get_or w i no_span
seen_at start contents items w i x view within read =
    let count = count_of start contents items w view in
    sym (span_at start contents items i x (omega (arith, within, count)) read) ∙ ap (λ (rows : List HeldSpan). get_or rows i no_span) view

pub seen_put : {X : Type 0} (start : X → ℕ) (contents : X → List (List ℕ)) (items now : List X) (w : List HeldSpan) (k : ℕ) (x : X) →
    spans_of start contents items ≡ w → now ≡ insert items k x →
    spans_of start contents now ≡ take k w ++ (span_of start contents x ∷ drop k w)
seen_put start contents items now w k x view e =
    let f = span_of start contents in
    ap (map f) e
    ∙ map-append f (take k items) (x ∷ drop k items)
    ∙ ap (λ (front : List HeldSpan). front ++ (f x ∷ map f (drop k items))) (sym (take-map f k items))
    ∙ ap (λ (back : List HeldSpan). take k (map f items) ++ (f x ∷ back)) (sym (drop-map f k items))
    ∙ ap (λ (rows : List HeldSpan). take k rows ++ (f x ∷ drop k rows)) view

pub seen_removed : {X : Type 0} (start : X → ℕ) (contents : X → List (List ℕ)) (items now : List X) (w : List HeldSpan) (k : ℕ) →
    spans_of start contents items ≡ w → now ≡ take k items ++ drop (k + 1) items →
    spans_of start contents now ≡ take k w ++ drop (k + 1) w
seen_removed start contents items now w k view e =
    let f = span_of start contents in
    ap (map f) e
    ∙ map-append f (take k items) (drop (k + 1) items)
    ∙ ap (λ (front : List HeldSpan). front ++ map f (drop (k + 1) items)) (sym (take-map f k items))
    ∙ ap (λ (back : List HeldSpan). take k (map f items) ++ back) (sym (drop-map f (k + 1) items))
    ∙ ap (λ (rows : List HeldSpan). take k rows ++ drop (k + 1) rows) view

-- another element in place of one
pub seen_set : {X : Type 0} (start : X → ℕ) (contents : X → List (List ℕ)) (items : List X) (w : List HeldSpan) (i : ℕ) (y : X) →
    spans_of start contents items ≡ w → spans_of start contents (set items i y) ≡ set w i (span_of start contents y)
seen_set start contents items w i y view =
    map-set (span_of start contents) items i y ∙ ap (λ (rows : List HeldSpan). set rows i (span_of start contents y)) view

pub seen_there : {X : Type 0} (start : X → ℕ) (contents : X → List (List ℕ)) (items : List X) (w : List HeldSpan) (i : ℕ) (y : X) →
    spans_of start contents items ≡ w → i < length w → get_or (spans_of start contents (set items i y)) i no_span ≡ span_of start contents y
seen_there start contents items w i y view within =
    ap (λ (rows : List HeldSpan). get_or rows i no_span) (seen_set start contents items w i y view)
    ∙ get_or-set_same w i (span_of start contents y) no_span within

pub seen_joined : {X : Type 0} (start : X → ℕ) (contents : X → List (List ℕ)) (items : List X) (w : List HeldSpan) (i : ℕ) (x y next : X) →
    spans_of start contents items ≡ w → i < length w → x ≡ get_or items i x → start y ≡ start x →
    contents y ≡ contents x ++ contents next →
    spans_of start contents (set items i y) ≡ set w i (as_one (get_or w i no_span) (span_of start contents next))
seen_joined start contents items w i x y next view within read first pages =
    let f = span_of start contents in
    let here = seen_at start contents items w i x view within read in
    let whole : f y ≡ as_one (f x) (f next) =
    ap (λ (k : ℕ). record { first = k; pages = contents y }) first
    ∙ ap (λ (ps : List (List ℕ)). record { first = start x; pages = ps }) pages in
    seen_set start contents items w i y view
    ∙ ap (set w i) (whole ∙ ap (λ (s : HeldSpan). as_one s (f next)) here)

pub seen_over : {X : Type 0} (start : X → ℕ) (contents : X → List (List ℕ)) (items : List X) (w : List HeldSpan) (i page from n : ℕ)
    (x y : X) →
    spans_of start contents items ≡ w → i < length w → span_of start contents x ≡ get_or w i no_span → from ≡ page - start x →
    start y ≡ start x → KeepsOthers from n (contents x) (contents y) → IsOverAt i page n w (spans_of start contents (set items i y))
seen_over start contents items w i page from n x y view within here at first others =
    let now = seen_there start contents items w i y view within in
    let old_others : KeepsOthers (page - (get_or w i no_span).first) n (get_or w i no_span).pages (contents y) =
    subst (λ (s : HeldSpan). KeepsOthers (page - s.first) n s.pages (contents y)) here
    (subst (λ (k : ℕ). KeepsOthers k n (contents x) (contents y)) at others) in
    record {
      spans = seen_set start contents items w i y view ∙ ap (set w i) (sym now);
      first = ap (λ (s : HeldSpan). s.first) now ∙ first ∙ ap (λ (s : HeldSpan). s.first) here;
      others = subst (λ (s : HeldSpan). KeepsOthers (page - (get_or w i no_span).first) n (get_or w i no_span).pages s.pages)
          (sym now) old_others;
    }

pub seen_front : {X : Type 0} (start : X → ℕ) (contents : X → List (List ℕ)) (items now : List X) (w : List HeldSpan) (k : ℕ) →
    spans_of start contents items ≡ w → now ≡ take k items → spans_of start contents now ≡ take k w
seen_front start contents items now w k view e =
    ap (map (span_of start contents)) e ∙ sym (take-map (span_of start contents) k items) ∙ ap (take k) view

pub seen_back : {X : Type 0} (start : X → ℕ) (contents : X → List (List ℕ)) (items now : List X) (w : List HeldSpan) (k : ℕ) →
    spans_of start contents items ≡ w → now ≡ drop k items → spans_of start contents now ≡ drop k w
seen_back start contents items now w k view e =
    ap (map (span_of start contents)) e ∙ sym (drop-map (span_of start contents) k items) ∙ ap (drop k) view

-- a vector whose spans are none is empty
pub seen_none : {X : Type 0} (start : X → ℕ) (contents : X → List (List ℕ)) (items : List X) (w : List HeldSpan) →
    spans_of start contents items ≡ w → w ≡ [] → items ≡ []
seen_none start contents [] w view none = refl
seen_none start contents (x ∷ items) w view none = absurd (let n = ap length (view ∙ none) in omega (arith, n))

-- elements moved from the end of a list to the end of another
pub moved_one : {X : Type 0} (all from rest to now : List X) (x : X) → from ++ reverse to ≡ all → from ≡ rest ++ (x ∷ []) →
    now ≡ to ++ (x ∷ []) → rest ++ reverse now ≡ all
moved_one all from rest to now x so_far e put =
    ap (λ (ys : List _). rest ++ reverse ys) put
    ∙ ap (λ (ys : List _). rest ++ ys) (reverse-append to (x ∷ []))
    ∙ sym (append_assoc rest (x ∷ []) (reverse to))
    ∙ ap (λ (ys : List _). ys ++ reverse to) (sym e)
    ∙ so_far

pub moved_front : {X : Type 0} (all from to : List X) (k : ℕ) → from ++ reverse to ≡ all → length from ≡ k → from ≡ take k all
moved_front all from to k e count =
    sym (take-append_seam from (reverse to)) ∙ ap (take (length from)) e ∙ ap (λ (n : ℕ). take n all) count

pub moved_back : {X : Type 0} (all from to : List X) (k : ℕ) → from ++ reverse to ≡ all → length from ≡ k → reverse to ≡ drop k all
moved_back all from to k e count =
    sym (drop-append_seam from (reverse to)) ∙ ap (drop (length from)) e ∙ ap (λ (n : ℕ). drop n all) count
