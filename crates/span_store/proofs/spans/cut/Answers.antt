-- The first pages stand before the others.
use Rattle.std.proofs.Common.{◌≡◌, ℕ, ◌+◌, ◌<◌, ◌++◌, ◌∷◌, List, suc, length, take, drop, get_or, map, set, sym, ap, ◌∙◌, arith}
use Rattle.std.specs.List.{insert}
use Rattle.std.proofs.lemmas.List.{map-append, take-map, drop-map, take-set, drop-set}
use Rattle.span_store.specs.Held.{HeldSpan, span_of, spans_of}
use Rattle.span_store.specs.Order.{no_span, with_cut, front_part, back_part}
use Rattle.span_store.proofs.SpanLists.{span_at}
use Rattle.span_store.proofs.spans.cut.Goals as goal

-- a span x written back as y, and z put before it
pieces : {X : Type 0} (start : X → ℕ) (contents : X → List (List ℕ)) (items : List X) (i n : ℕ) (x y z : X) →
    i < length items → x ≡ get_or items i x
    → start z ≡ start x → contents z ≡ take n (contents x) → start y ≡ start x + n → contents y ≡ drop n (contents x)
    → spans_of start contents (insert (set items i y) i z) ≡ with_cut (spans_of start contents items) i n
pieces start contents items i n x y z within read front front_pages back back_pages =
    let f = span_of start contents in
    let here : get_or (spans_of start contents items) i no_span ≡ f x = span_at start contents items i x within read in
    let next : i + 1 ≡ suc i = omega arith in
    let first : f z ≡ front_part (f x) n = ap (λ (k : ℕ). record { first = k; pages = contents z }) front
    ∙ ap (λ (ps : List (List ℕ)). record { first = start x; pages = ps }) front_pages in
    let second : f y ≡ back_part (f x) n = ap (λ (k : ℕ). record { first = k; pages = contents y }) back
    ∙ ap (λ (ps : List (List ℕ)). record { first = start x + n; pages = ps }) back_pages in
    map-append f (take i (set items i y)) (z ∷ drop i (set items i y))
    ∙ ap (λ (xs : List _). map f xs ++ (f z ∷ map f (drop i (set items i y)))) (take-set items i y)
    ∙ ap (λ (xs : List _). map f (take i items) ++ (f z ∷ map f xs)) (drop-set items i y within)
    ∙ ap (λ (k : ℕ). map f (take i items) ++ (f z ∷ f y ∷ map f (drop k items))) next
    ∙ ap (λ (xs : List HeldSpan). xs ++ (f z ∷ f y ∷ map f (drop (suc i) items))) (sym (take-map f i items))
    ∙ ap (λ (xs : List HeldSpan). take i (map f items) ++ (f z ∷ f y ∷ xs)) (sym (drop-map f (suc i) items))
    ∙ ap (λ (s : HeldSpan). take i (map f items) ++ (s ∷ f y ∷ drop (suc i) (map f items))) first
    ∙ ap (λ (s : HeldSpan). take i (map f items) ++ (front_part (f x) n ∷ s ∷ drop (suc i) (map f items))) second
    ∙ ap (λ (s : HeldSpan). take i (map f items) ++ (front_part s n ∷ back_part s n ∷ drop (suc i) (map f items))) (sym here)

pub cut-front-requires-clause-fewer : goal.cut-front-requires-clause-fewer
cut-front-requires-clause-fewer g c =
    let ok = c.args.spans.now.ok.0 in
    let within : c.args.index < length c.args.spans.now.items = omega (arith, c.requires.within) in
    let here = span_at g.S.Span.start g.S.Span.contents c.args.spans.now.items c.args.index c.index_mut.result.now
    within c.index_mut.ensures.value in
    let long = ap (λ (s : HeldSpan). length s.pages) here in
    omega (arith, long, c.requires.fewer)

pub returns-clause-cut : goal.returns-clause-cut
returns-clause-cut g c =
    let ok = c.args.spans.now.ok.0 in
    let within : c.args.index < length c.args.spans.now.items = omega (arith, c.requires.within) in
    ap (spans_of g.S.Span.start g.S.Span.contents) c.put.ensures.items
    ∙ pieces g.S.Span.start g.S.Span.contents c.args.spans.now.items c.args.index c.args.n c.index_mut.result.now
    c.cut-front.new.self c.cut-front.result within c.index_mut.ensures.value
    c.cut-front.ensures.front c.cut-front.ensures.front_pages c.cut-front.ensures.rest c.cut-front.ensures.rest_pages
