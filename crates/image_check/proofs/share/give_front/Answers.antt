-- The pages of one owner go to it.
use Rattle.std.proofs.Common.{◌≡◌, ◌∙◌, ◌++◌, [], ◌∷◌, ◌+◌, ◌-◌, ◌<◌, ◌≤◌, ℕ, List, length, set, ap, sym}
use Rattle.std.proofs.Common.{subst}
use Rattle.std.proofs.Common.{arith, take, drop, length-take}
use Rattle.std.proofs.lemmas.List.{map-append}
use Rattle.span_store.specs.Held.{Held, HeldSpan, page_in, span_of, spans_of}
use Rattle.span_store.specs.Calls.{IsAdded}
use Rattle.span_store.specs.Order.{back_part, front_part}
use Rattle.image_check.specs.declared.owner.Owner.TheVariants.{Object}
use Rattle.image_check.specs.Owners.{owner_at}
use Rattle.image_check.specs.Shares.{AreShared, AsksShare, holdings_of}
use Rattle.image_check.proofs.ShareLemmas.{element-at, given-asks, given-cut, given-shared, given-whole, object-inner, span-same}
use Rattle.image_check.proofs.ShareLemmas.{top-some}
use Rattle.image_check.proofs.share.give_front.Goals as goal

pub owner-requires : goal.owner-requires
owner-requires g c =
    let start = g.S.Span.start in
    let contents = g.S.Span.contents in
    let kept = c.args.walk.now in
    let xs = spans_of start contents c.args.stack.now.items in
    let s = span_of start contents c.args.span in
    let all : spans_of start contents (c.args.stack.now.items ++ (c.args.span ∷ [])) ≡ xs ++ (s ∷ []) =
    map-append (span_of start contents) c.args.stack.now.items (c.args.span ∷ []) in
    let asks : AsksShare kept (xs ++ (s ∷ [])) c.args.objects.now =
    subst (λ (spans : List HeldSpan). AsksShare kept spans c.args.objects.now) all c.requires.asks in
    let some = c.pages-pages.ensures.some in
    let here = top-some xs s (start c.args.span) (omega arith) (omega (arith, some)) in
    let owner = asks.owner (start c.args.span) here in
    let inside = asks.inside (start c.args.span) here in
    omega (arith, inside, c.first-first.ensures)

pub unreachable-requires : goal.unreachable-requires
unreachable-requires g c =
    let start = g.S.Span.start in
    let contents = g.S.Span.contents in
    let kept = c.args.walk.now in
    let xs = spans_of start contents c.args.stack.now.items in
    let s = span_of start contents c.args.span in
    let all : spans_of start contents (c.args.stack.now.items ++ (c.args.span ∷ [])) ≡ xs ++ (s ∷ []) =
    map-append (span_of start contents) c.args.stack.now.items (c.args.span ∷ []) in
    let asks : AsksShare kept (xs ++ (s ∷ [])) c.args.objects.now =
    subst (λ (spans : List HeldSpan). AsksShare kept spans c.args.objects.now) all c.requires.asks in
    let some = c.pages-pages.ensures.some in
    let here = top-some xs s (start c.args.span) (omega arith) (omega (arith, some)) in
    let owner = asks.owner (start c.args.span) here in
    c.in_default.not-Object owner.0 (c.owner.ensures ∙ ap (owner_at kept) c.first-first.ensures ∙ owner.1)

pub bounds-objects-object : goal.bounds-objects-object
bounds-objects-object g c =
    let start = g.S.Span.start in
    let contents = g.S.Span.contents in
    let kept = c.args.walk.now in
    let xs = spans_of start contents c.args.stack.now.items in
    let s = span_of start contents c.args.span in
    let all : spans_of start contents (c.args.stack.now.items ++ (c.args.span ∷ [])) ≡ xs ++ (s ∷ []) =
    map-append (span_of start contents) c.args.stack.now.items (c.args.span ∷ []) in
    let asks : AsksShare kept (xs ++ (s ∷ [])) c.args.objects.now =
    subst (λ (spans : List HeldSpan). AsksShare kept spans c.args.objects.now) all c.requires.asks in
    let some = c.pages-pages.ensures.some in
    let here = top-some xs s (start c.args.span) (omega arith) (omega (arith, some)) in
    let owner = asks.owner (start c.args.span) here in
    let object : c.in-Object.object ≡ owner.0 =
    object-inner c.in-Object.object owner.0 (c.in-Object.ensures ∙ ap (owner_at kept) c.first-first.ensures ∙ owner.1) in
    let low = owner.2 in
    let inside : c.in-Object.object < length c.args.objects.now = omega (arith, low, object) in
    inside

pub run_of_owner-count-requires-clause-inside : goal.run_of_owner-count-requires-clause-inside
run_of_owner-count-requires-clause-inside g c =
    let start = g.S.Span.start in
    let contents = g.S.Span.contents in
    let kept = c.args.walk.now in
    let xs = spans_of start contents c.args.stack.now.items in
    let s = span_of start contents c.args.span in
    let all : spans_of start contents (c.args.stack.now.items ++ (c.args.span ∷ [])) ≡ xs ++ (s ∷ []) =
    map-append (span_of start contents) c.args.stack.now.items (c.args.span ∷ []) in
    let asks : AsksShare kept (xs ++ (s ∷ [])) c.args.objects.now =
    subst (λ (spans : List HeldSpan). AsksShare kept spans c.args.objects.now) all c.requires.asks in
    let some = c.pages-pages.ensures.some in
    let last = asks.inside (start c.args.span + (length (contents c.args.span) - 1))
    (top-some xs s (start c.args.span + (length (contents c.args.span) - 1)) (omega arith) (omega (arith, some))) in
    omega (arith, last, some, c.first-first.ensures, c.pages-pages.ensures.count)

pub add-requires-clause-apart : goal.add-requires-clause-apart
add-requires-clause-apart g c =
    let start = g.S.Span.start in
    let contents = g.S.Span.contents in
    let kept = c.args.walk.now in
    let xs = spans_of start contents c.args.stack.now.items in
    let s = span_of start contents c.args.span in
    let all : spans_of start contents (c.args.stack.now.items ++ (c.args.span ∷ [])) ≡ xs ++ (s ∷ []) =
    map-append (span_of start contents) c.args.stack.now.items (c.args.span ∷ []) in
    let asks : AsksShare kept (xs ++ (s ∷ [])) c.args.objects.now =
    subst (λ (spans : List HeldSpan). AsksShare kept spans c.args.objects.now) all c.requires.asks in
    let some = c.pages-pages.ensures.some in
    let here = top-some xs s (start c.args.span) (omega arith) (omega (arith, some)) in
    let owner = asks.owner (start c.args.span) here in
    let object : c.in-Object.object ≡ owner.0 =
    object-inner c.in-Object.object owner.0 (c.in-Object.ensures ∙ ap (owner_at kept) c.first-first.ensures ∙ owner.1) in
    let low = owner.2 in
    let inside : c.in-Object.object < length c.args.objects.now = omega (arith, low, object) in
    let same : c.reserve.new.self.spans ≡ (holdings_of c.args.objects.now c.in-Object.object).spans =
    c.reserve.ensures.spans ∙ ap (λ (h : Held). h.spans)
    (sym c.index-objects-object.is ∙ element-at c.args.objects.now c.in-Object.object c.index-objects-object.result inside
    c.index-objects-object.is) in
    let fewer = c.if-count-pages.true in
    let count = c.pages-pages.ensures.count in
    let begin = c.cut-front.ensures.front in
    let long = ap (λ (pages : List (List ℕ)). length pages) c.cut-front.ensures.front_pages in
    let most = length-take c.run_of_owner-count.result (contents c.args.span) in
    λ q from to.
    let there = top-some xs s q (omega (arith, from, begin, long, most, fewer, count)) (omega (arith, to, begin, long, most, fewer, count))
    in
    ap (λ (spans : List HeldSpan). page_in spans q) same ∙ asks.lacks c.in-Object.object q there

pub add-requires-else-count-pages-clause-apart : goal.add-requires-else-count-pages-clause-apart
add-requires-else-count-pages-clause-apart g c =
    let start = g.S.Span.start in
    let contents = g.S.Span.contents in
    let kept = c.args.walk.now in
    let xs = spans_of start contents c.args.stack.now.items in
    let s = span_of start contents c.args.span in
    let all : spans_of start contents (c.args.stack.now.items ++ (c.args.span ∷ [])) ≡ xs ++ (s ∷ []) =
    map-append (span_of start contents) c.args.stack.now.items (c.args.span ∷ []) in
    let asks : AsksShare kept (xs ++ (s ∷ [])) c.args.objects.now =
    subst (λ (spans : List HeldSpan). AsksShare kept spans c.args.objects.now) all c.requires.asks in
    let some = c.pages-pages.ensures.some in
    let here = top-some xs s (start c.args.span) (omega arith) (omega (arith, some)) in
    let owner = asks.owner (start c.args.span) here in
    let object : c.in-Object.object ≡ owner.0 =
    object-inner c.in-Object.object owner.0 (c.in-Object.ensures ∙ ap (owner_at kept) c.first-first.ensures ∙ owner.1) in
    let low = owner.2 in
    let inside : c.in-Object.object < length c.args.objects.now = omega (arith, low, object) in
    let same : c.reserve.new.self.spans ≡ (holdings_of c.args.objects.now c.in-Object.object).spans =
    c.reserve.ensures.spans ∙ ap (λ (h : Held). h.spans)
    (sym c.index-objects-object.is ∙ element-at c.args.objects.now c.in-Object.object c.index-objects-object.result inside
    c.index-objects-object.is) in
    λ q from to.
    let there = top-some xs s q (omega (arith, from)) (omega (arith, to)) in
    ap (λ (spans : List HeldSpan). page_in spans q) same ∙ asks.lacks c.in-Object.object q there

pub returns-then-count-pages-clause-shared : goal.returns-then-count-pages-clause-shared
returns-then-count-pages-clause-shared g c =
    let start = g.S.Span.start in
    let contents = g.S.Span.contents in
    let kept = c.args.walk.now in
    let xs = spans_of start contents c.args.stack.now.items in
    let s = span_of start contents c.args.span in
    let all : spans_of start contents (c.args.stack.now.items ++ (c.args.span ∷ [])) ≡ xs ++ (s ∷ []) =
    map-append (span_of start contents) c.args.stack.now.items (c.args.span ∷ []) in
    let asks : AsksShare kept (xs ++ (s ∷ [])) c.args.objects.now =
    subst (λ (spans : List HeldSpan). AsksShare kept spans c.args.objects.now) all c.requires.asks in
    let some = c.pages-pages.ensures.some in
    let here = top-some xs s (start c.args.span) (omega arith) (omega (arith, some)) in
    let owner = asks.owner (start c.args.span) here in
    let object : c.in-Object.object ≡ owner.0 =
    object-inner c.in-Object.object owner.0 (c.in-Object.ensures ∙ ap (owner_at kept) c.first-first.ensures ∙ owner.1) in
    let low = owner.2 in
    let inside : c.in-Object.object < length c.args.objects.now = omega (arith, low, object) in
    let same : c.reserve.new.self.spans ≡ (holdings_of c.args.objects.now c.in-Object.object).spans =
    c.reserve.ensures.spans ∙ ap (λ (h : Held). h.spans)
    (sym c.index-objects-object.is ∙ element-at c.args.objects.now c.in-Object.object c.index-objects-object.result inside
    c.index-objects-object.is) in
    let fewer = c.if-count-pages.true in
    let count = c.pages-pages.ensures.count in
    let front : span_of start contents c.cut-front.result ≡ front_part s c.run_of_owner-count.result =
    span-same (start c.cut-front.result) (start c.args.span) (contents c.cut-front.result)
    (take c.run_of_owner-count.result (contents c.args.span)) c.cut-front.ensures.front c.cut-front.ensures.front_pages in
    let back : span_of start contents c.cut-front.new.self ≡ back_part s c.run_of_owner-count.result =
    span-same (start c.cut-front.new.self) (start c.args.span + c.run_of_owner-count.result) (contents c.cut-front.new.self)
    (drop c.run_of_owner-count.result (contents c.args.span)) c.cut-front.ensures.rest c.cut-front.ensures.rest_pages in
    let left : spans_of start contents c.push_reserved-then-count-pages.new.self.items ≡ xs ++ (back_part s c.run_of_owner-count.result ∷
    []) =
    ap (spans_of start contents) c.push_reserved-then-count-pages.ensures.items
    ∙ map-append (span_of start contents) c.args.stack.now.items (c.cut-front.new.self ∷ [])
    ∙ ap (λ (b : HeldSpan). xs ++ (b ∷ [])) back in
    let by_run : (q : ℕ) → start c.args.span ≤ q → q < start c.args.span + c.run_of_owner-count.result →
    owner_at kept q ≡ Object c.in-Object.object =
    λ q low_q high_q. c.run_of_owner-count.ensures.same q (omega (arith, low_q, c.first-first.ensures))
    (omega (arith, high_q, c.first-first.ensures)) ∙ sym c.in-Object.ensures in
    let given = given-cut kept xs s c.run_of_owner-count.result c.in-Object.object c.args.objects.now c.reserve.new.self c.add.new.self
    asks inside
    (omega (arith, fewer, count)) by_run same
    (subst (λ (f : HeldSpan). IsAdded f c.reserve.new.self c.add.new.self) front c.add.ensures.added) in
    let new = set c.args.objects.now c.in-Object.object c.add.new.self in
    let rest = xs ++ (back_part s c.run_of_owner-count.result ∷ []) in
    subst (λ (spans : List HeldSpan). AreShared kept spans (spans_of start contents c.push_reserved-then-count-pages.new.self.items)
    c.args.objects.now new) (sym all)
    (subst (λ (spans : List HeldSpan). AreShared kept (xs ++ (s ∷ [])) spans c.args.objects.now new) (sym left)
    (given-shared kept (xs ++ (s ∷ [])) rest (front_part s c.run_of_owner-count.result) c.in-Object.object c.args.objects.now new asks
    given))

pub returns-then-count-pages-clause-asks : goal.returns-then-count-pages-clause-asks
returns-then-count-pages-clause-asks g c =
    let start = g.S.Span.start in
    let contents = g.S.Span.contents in
    let kept = c.args.walk.now in
    let xs = spans_of start contents c.args.stack.now.items in
    let s = span_of start contents c.args.span in
    let all : spans_of start contents (c.args.stack.now.items ++ (c.args.span ∷ [])) ≡ xs ++ (s ∷ []) =
    map-append (span_of start contents) c.args.stack.now.items (c.args.span ∷ []) in
    let asks : AsksShare kept (xs ++ (s ∷ [])) c.args.objects.now =
    subst (λ (spans : List HeldSpan). AsksShare kept spans c.args.objects.now) all c.requires.asks in
    let some = c.pages-pages.ensures.some in
    let here = top-some xs s (start c.args.span) (omega arith) (omega (arith, some)) in
    let owner = asks.owner (start c.args.span) here in
    let object : c.in-Object.object ≡ owner.0 =
    object-inner c.in-Object.object owner.0 (c.in-Object.ensures ∙ ap (owner_at kept) c.first-first.ensures ∙ owner.1) in
    let low = owner.2 in
    let inside : c.in-Object.object < length c.args.objects.now = omega (arith, low, object) in
    let same : c.reserve.new.self.spans ≡ (holdings_of c.args.objects.now c.in-Object.object).spans =
    c.reserve.ensures.spans ∙ ap (λ (h : Held). h.spans)
    (sym c.index-objects-object.is ∙ element-at c.args.objects.now c.in-Object.object c.index-objects-object.result inside
    c.index-objects-object.is) in
    let fewer = c.if-count-pages.true in
    let count = c.pages-pages.ensures.count in
    let front : span_of start contents c.cut-front.result ≡ front_part s c.run_of_owner-count.result =
    span-same (start c.cut-front.result) (start c.args.span) (contents c.cut-front.result)
    (take c.run_of_owner-count.result (contents c.args.span)) c.cut-front.ensures.front c.cut-front.ensures.front_pages in
    let back : span_of start contents c.cut-front.new.self ≡ back_part s c.run_of_owner-count.result =
    span-same (start c.cut-front.new.self) (start c.args.span + c.run_of_owner-count.result) (contents c.cut-front.new.self)
    (drop c.run_of_owner-count.result (contents c.args.span)) c.cut-front.ensures.rest c.cut-front.ensures.rest_pages in
    let left : spans_of start contents c.push_reserved-then-count-pages.new.self.items ≡ xs ++ (back_part s c.run_of_owner-count.result ∷
    []) =
    ap (spans_of start contents) c.push_reserved-then-count-pages.ensures.items
    ∙ map-append (span_of start contents) c.args.stack.now.items (c.cut-front.new.self ∷ [])
    ∙ ap (λ (b : HeldSpan). xs ++ (b ∷ [])) back in
    let by_run : (q : ℕ) → start c.args.span ≤ q → q < start c.args.span + c.run_of_owner-count.result →
    owner_at kept q ≡ Object c.in-Object.object =
    λ q low_q high_q. c.run_of_owner-count.ensures.same q (omega (arith, low_q, c.first-first.ensures))
    (omega (arith, high_q, c.first-first.ensures)) ∙ sym c.in-Object.ensures in
    let given = given-cut kept xs s c.run_of_owner-count.result c.in-Object.object c.args.objects.now c.reserve.new.self c.add.new.self
    asks inside
    (omega (arith, fewer, count)) by_run same
    (subst (λ (f : HeldSpan). IsAdded f c.reserve.new.self c.add.new.self) front c.add.ensures.added) in
    let new = set c.args.objects.now c.in-Object.object c.add.new.self in
    let rest = xs ++ (back_part s c.run_of_owner-count.result ∷ []) in
    subst (λ (spans : List HeldSpan). AsksShare kept spans new) (sym left)
    (given-asks kept (xs ++ (s ∷ [])) rest (front_part s c.run_of_owner-count.result) c.in-Object.object c.args.objects.now new asks given)

pub returns-else-count-pages-clause-shared : goal.returns-else-count-pages-clause-shared
returns-else-count-pages-clause-shared g c =
    let start = g.S.Span.start in
    let contents = g.S.Span.contents in
    let kept = c.args.walk.now in
    let xs = spans_of start contents c.args.stack.now.items in
    let s = span_of start contents c.args.span in
    let all : spans_of start contents (c.args.stack.now.items ++ (c.args.span ∷ [])) ≡ xs ++ (s ∷ []) =
    map-append (span_of start contents) c.args.stack.now.items (c.args.span ∷ []) in
    let asks : AsksShare kept (xs ++ (s ∷ [])) c.args.objects.now =
    subst (λ (spans : List HeldSpan). AsksShare kept spans c.args.objects.now) all c.requires.asks in
    let some = c.pages-pages.ensures.some in
    let here = top-some xs s (start c.args.span) (omega arith) (omega (arith, some)) in
    let owner = asks.owner (start c.args.span) here in
    let object : c.in-Object.object ≡ owner.0 =
    object-inner c.in-Object.object owner.0 (c.in-Object.ensures ∙ ap (owner_at kept) c.first-first.ensures ∙ owner.1) in
    let low = owner.2 in
    let inside : c.in-Object.object < length c.args.objects.now = omega (arith, low, object) in
    let same : c.reserve.new.self.spans ≡ (holdings_of c.args.objects.now c.in-Object.object).spans =
    c.reserve.ensures.spans ∙ ap (λ (h : Held). h.spans)
    (sym c.index-objects-object.is ∙ element-at c.args.objects.now c.in-Object.object c.index-objects-object.result inside
    c.index-objects-object.is) in
    let most = c.run_of_owner-count.ensures.most in
    let all_of = c.if-count-pages.false in
    let count = c.pages-pages.ensures.count in
    let by_run : (q : ℕ) → start c.args.span ≤ q → q < start c.args.span + c.run_of_owner-count.result →
    owner_at kept q ≡ Object c.in-Object.object =
    λ q low_q high_q. c.run_of_owner-count.ensures.same q (omega (arith, low_q, c.first-first.ensures))
    (omega (arith, high_q, c.first-first.ensures)) ∙ sym c.in-Object.ensures in
    let given = given-whole kept xs s c.in-Object.object c.args.objects.now c.reserve.new.self c.add-else-count-pages.new.self asks inside
    (λ q low_q high_q. by_run q low_q (omega (arith, high_q, all_of, count))) same c.add-else-count-pages.ensures.added in
    let new = set c.args.objects.now c.in-Object.object c.add-else-count-pages.new.self in
    subst (λ (spans : List HeldSpan). AreShared kept spans xs c.args.objects.now new) (sym all)
    (given-shared kept (xs ++ (s ∷ [])) xs s c.in-Object.object c.args.objects.now new asks given)

pub returns-else-count-pages-clause-asks : goal.returns-else-count-pages-clause-asks
returns-else-count-pages-clause-asks g c =
    let start = g.S.Span.start in
    let contents = g.S.Span.contents in
    let kept = c.args.walk.now in
    let xs = spans_of start contents c.args.stack.now.items in
    let s = span_of start contents c.args.span in
    let all : spans_of start contents (c.args.stack.now.items ++ (c.args.span ∷ [])) ≡ xs ++ (s ∷ []) =
    map-append (span_of start contents) c.args.stack.now.items (c.args.span ∷ []) in
    let asks : AsksShare kept (xs ++ (s ∷ [])) c.args.objects.now =
    subst (λ (spans : List HeldSpan). AsksShare kept spans c.args.objects.now) all c.requires.asks in
    let some = c.pages-pages.ensures.some in
    let here = top-some xs s (start c.args.span) (omega arith) (omega (arith, some)) in
    let owner = asks.owner (start c.args.span) here in
    let object : c.in-Object.object ≡ owner.0 =
    object-inner c.in-Object.object owner.0 (c.in-Object.ensures ∙ ap (owner_at kept) c.first-first.ensures ∙ owner.1) in
    let low = owner.2 in
    let inside : c.in-Object.object < length c.args.objects.now = omega (arith, low, object) in
    let same : c.reserve.new.self.spans ≡ (holdings_of c.args.objects.now c.in-Object.object).spans =
    c.reserve.ensures.spans ∙ ap (λ (h : Held). h.spans)
    (sym c.index-objects-object.is ∙ element-at c.args.objects.now c.in-Object.object c.index-objects-object.result inside
    c.index-objects-object.is) in
    let most = c.run_of_owner-count.ensures.most in
    let all_of = c.if-count-pages.false in
    let count = c.pages-pages.ensures.count in
    let by_run : (q : ℕ) → start c.args.span ≤ q → q < start c.args.span + c.run_of_owner-count.result →
    owner_at kept q ≡ Object c.in-Object.object =
    λ q low_q high_q. c.run_of_owner-count.ensures.same q (omega (arith, low_q, c.first-first.ensures))
    (omega (arith, high_q, c.first-first.ensures)) ∙ sym c.in-Object.ensures in
    let given = given-whole kept xs s c.in-Object.object c.args.objects.now c.reserve.new.self c.add-else-count-pages.new.self asks inside
    (λ q low_q high_q. by_run q low_q (omega (arith, high_q, all_of, count))) same c.add-else-count-pages.ensures.added in
    let new = set c.args.objects.now c.in-Object.object c.add-else-count-pages.new.self in
    given-asks kept (xs ++ (s ∷ [])) xs s c.in-Object.object c.args.objects.now new asks given
