-- Spans from the top of a stack that go to the owners of their pages.
use Rattle.std.proofs.Common.{◌≡◌, ℕ, zero, suc, ◌+◌, ◌<◌, ◌≤◌, Bool, true, false, ◌&&◌, not, IsTrue, Option, Some, None, is_some}
use Rattle.std.proofs.Common.{List, [], ◌∷◌}
use Rattle.std.proofs.Common.{◌++◌, length, get_or, set, refl, sym, ap, subst, ◌∙◌, ◌⊎◌, inl, inr, ◌≢◌, arith}
use Rattle.std.proofs.Common.{length-take}
use Rattle.std.specs.Prelude.{if◌then◌else◌}
use Rattle.std.specs.Option.{option_or}
use Rattle.std.proofs.lemmas.Bool.{cases_Bool, eq-eqb, false≢true, ne_eqb}
use Rattle.std.proofs.lemmas.List.{get_or-set_same, get_or-set_other, length-set}
use Rattle.base_laws.proofs.OptionLaws.{none-unless}
use Rattle.span_store.specs.Held.{HeldSpan, Held, page_at, page_in, page_of}
use Rattle.span_store.specs.Calls.{IsAdded, IsRemoved}
use Rattle.span_store.specs.Order.{back_part, front_part}
use Rattle.span_store.proofs.Holds.{cut_page}
use Rattle.span_store.proofs.SpanLists.{has_page, option_or-none, page_in-append, page_of-before, page_of-inside}
use Rattle.image_check.specs.declared.owner.Owner.{Owner}
use Rattle.image_check.specs.declared.owner.Owner.TheVariants.{Free, Nobody, Object}
use Rattle.image_check.specs.Owners.{KeptWalk, owner_at}
use Rattle.image_check.specs.Shares.{ShareNoPage, AreShared, AreTaken, AsksShare, holdings_of, is_of, no_pages}
use Rattle.image_check.proofs.OwnerLemmas.{page-cases}

-- ---- the span on top

pub page_in-last : (xs : List HeldSpan) (s : HeldSpan) (q : ℕ) → page_in (xs ++ (s ∷ [])) q ≡ option_or (page_in xs q) (page_of s q)
page_in-last xs s q = page_in-append xs (s ∷ []) q ∙ ap (option_or (page_in xs q)) (option_or-none (page_of s q))

-- what is nowhere in two is in neither
neither : {X : Type 0} (a b : Option X) → option_or a b ≡ None → (a ≡ None) × (b ≡ None)
neither None b none = (refl, none)
neither (Some x) b none = absurd cc

some-none : {X : Type 0} (a : Option X) → is_some a ≡ true → a ≡ None → ⊥
some-none a some none = false≢true (sym (ap is_some none) ∙ some)

-- the pages of these spans are in no other
abbrev pub IsApart : HeldSpan → List HeldSpan → Type 0
IsApart s spans = (q : ℕ) → IsTrue (is_some (page_of s q)) → page_in spans q ≡ None

pub apart-last : (xs : List HeldSpan) (s : HeldSpan) → ShareNoPage (xs ++ (s ∷ [])) → IsApart s xs × ShareNoPage xs
apart-last [] s apart = ((λ q some. refl), tt)
apart-last (x ∷ xs) s apart =
    let more = apart-last xs s apart.1 in
    let first : IsApart x (xs ++ (s ∷ [])) = apart.0 in
    let both : (q : ℕ) → IsTrue (is_some (page_of x q)) → (page_in xs q ≡ None) × (page_of s q ≡ None) =
    λ q some. neither (page_in xs q) (page_of s q) (sym (page_in-last xs s q) ∙ first q some) in (
      (λ q some. elim (cases_Bool (is_some (page_of x q))) [
        | inl here ↦ absurd (some-none (page_of s q) some (both q here).1)
        | inr other ↦ ap (λ (o : Option (List ℕ)). option_or o (page_in xs q)) (none-unless (page_of x q) other) ∙ more.0 q some
      ]),
      ((λ q some. (both q some).0), more.1),
    )

pub apart-more : (xs : List HeldSpan) (s : HeldSpan) → ShareNoPage xs → IsApart s xs → ShareNoPage (xs ++ (s ∷ []))
apart-more [] s apart alone = ((λ q some. refl), tt)
apart-more (x ∷ xs) s apart alone =
    let parts : (q : ℕ) → IsTrue (is_some (page_of s q)) → (page_of x q ≡ None) × (page_in xs q ≡ None) =
    λ q some. neither (page_of x q) (page_in xs q) (alone q some) in (
      (λ q some. elim (cases_Bool (is_some (page_of s q))) [
        | inl here ↦ absurd (some-none (page_of x q) some (parts q here).0)
        | inr other ↦ page_in-last xs s q
            ∙ ap (option_or (page_in xs q)) (none-unless (page_of s q) other) ∙ option_or-none (page_in xs q) ∙ apart.0 q some
      ]),
      apart-more xs s apart.1 (λ q some. (parts q some).1),
    )

-- ---- all spans of holdings

-- what was taken so far, the rest that is held, and all that was held
pub record IsTaking (old now : Held) (spans : List HeldSpan) : Type 0 where
  pub pages : (q : ℕ) → option_or (page_in spans q) (page_at now q) ≡ page_at old q
  pub apart : ShareNoPage spans
  pub other : (q : ℕ) → IsTrue (is_some (page_in spans q)) → page_at now q ≡ None

pub taking-none : (old : Held) → IsTaking old old []
taking-none old = record { pages = λ q. refl; apart = tt; other = λ q some. absurd (false≢true some) }

pub taking-more : (old mid new : Held) (spans : List HeldSpan) (s : HeldSpan) → IsTaking old mid spans → IsRemoved s mid new →
    IsTaking old new (spans ++ (s ∷ []))
taking-more old mid new spans s taking removed =
    let alone : IsApart s spans = λ q some. by-mid q some (page_in spans q) refl in
    record {
      pages = λ q. elim (cases_Bool (is_some (page_of s q))) [
        | inl here ↦
            let gone : page_at new q ≡ None = removed.pages q ∙ ap (λ (b : Bool). if b then None else page_at mid q) here in
            let was : page_at mid q ≡ page_of s q = removed.held q here in
            ap (λ (o : Option (List ℕ)). option_or (page_in (spans ++ (s ∷ [])) q) o) gone
            ∙ option_or-none (page_in (spans ++ (s ∷ [])) q) ∙ page_in-last spans s q
            ∙ ap (option_or (page_in spans q)) (sym was) ∙ taking.pages q
        | inr other ↦
            let kept : page_at new q ≡ page_at mid q = removed.pages q ∙ ap (λ (b : Bool). if b then None else page_at mid q) other in
            ap (option_or (page_in (spans ++ (s ∷ [])) q)) kept
            ∙ ap (λ (o : Option (List ℕ)). option_or o (page_at mid q)) (page_in-last spans s q
            ∙ ap (option_or (page_in spans q)) (none-unless (page_of s q) other) ∙ option_or-none (page_in spans q))
            ∙ taking.pages q
      ];
      apart = apart-more spans s taking.apart alone;
      other = λ q some. elim (cases_Bool (is_some (page_of s q))) [
        | inl here ↦ removed.pages q ∙ ap (λ (b : Bool). if b then None else page_at mid q) here
        | inr none ↦
            let same : page_in (spans ++ (s ∷ [])) q ≡ page_in spans q = page_in-last spans s q
            ∙ ap (option_or (page_in spans q)) (none-unless (page_of s q) none) ∙ option_or-none (page_in spans q) in
            removed.pages q ∙ ap (λ (b : Bool). if b then None else page_at mid q) none
            ∙ taking.other q (sym (ap is_some same) ∙ some)
      ];
    }
  where
    by-mid : (q : ℕ) → is_some (page_of s q) ≡ true → (o : Option (List ℕ)) → page_in spans q ≡ o → o ≡ None
    by-mid q some None is = refl
    by-mid q some (Some p) is =
        absurd (some-none (page_of s q) some (sym (removed.held q some) ∙ taking.other q (ap is_some is)))

pub taken-all : (old now : Held) (spans : List HeldSpan) → IsTaking old now spans → now.spans ≡ [] → AreTaken old now spans
taken-all old now spans taking empty = record {
  pages = λ q. sym (option_or-none (page_in spans q))
      ∙ ap (option_or (page_in spans q)) (sym (ap (λ (ss : List HeldSpan). page_in ss q) empty)) ∙ taking.pages q;
  apart = taking.apart;
  left = empty;
}

-- ---- one run of pages that goes to its owner

-- a page's owner has it once it is in no span any more
abbrev pub picked : Bool → Option (List ℕ) → Option (List ℕ) → Option (List ℕ)
picked own left was = if own && not (is_some left) then was else None

picked-left : (own : Bool) (was : Option (List ℕ)) → picked own was was ≡ None
picked-left true None = refl
picked-left true (Some x) = refl
picked-left false was = refl

-- the first pages of what is on top are taken off, and an object that has none of them holds them
pub record IsGiven (kept : KeptWalk) (spans left : List HeldSpan) (front : HeldSpan) (o : ℕ)
    (old new : List Held) : Type 0 where
  pub inside : o < length old
  pub owner : (q : ℕ) → IsTrue (is_some (page_of front q)) → owner_at kept q ≡ Object o
  pub here : (q : ℕ) → IsTrue (is_some (page_of front q)) → page_in spans q ≡ page_of front q
  pub gone : (q : ℕ) → page_in left q ≡ (if is_some (page_of front q) then None else page_in spans q)
  pub apart : ShareNoPage left
  pub added : (q : ℕ) → page_at (holdings_of new o) q ≡ option_or (page_of front q) (page_at (holdings_of old o) q)
  pub others : (p : ℕ) → p ≢ o → holdings_of new p ≡ holdings_of old p
  pub count : length new ≡ length old

left-gone : (spans left : List HeldSpan) (front : HeldSpan) (q : ℕ) →
    page_in left q ≡ (if is_some (page_of front q) then None else page_in spans q) → is_some (page_of front q) ≡ true →
    page_in left q ≡ None
left-gone spans left front q gone here = gone ∙ ap (λ (b : Bool). if b then None else page_in spans q) here

left-same : (spans left : List HeldSpan) (front : HeldSpan) (q : ℕ) →
    page_in left q ≡ (if is_some (page_of front q) then None else page_in spans q) → is_some (page_of front q) ≡ false →
    page_in left q ≡ page_in spans q
left-same spans left front q gone other = gone ∙ ap (λ (b : Bool). if b then None else page_in spans q) other

pub given-shared : (kept : KeptWalk) (spans left : List HeldSpan) (front : HeldSpan) (o : ℕ) (old new : List Held) →
    AsksShare kept spans old → IsGiven kept spans left front o old new → AreShared kept spans left old new
given-shared kept spans left front o old new asks given = record {
  count = given.count;
  left_pages = λ q. elim (cases_Bool (is_some (page_of front q))) [
    | inl here ↦ inr (left-gone spans left front q (given.gone q) here)
    | inr other ↦ inl (left-same spans left front q (given.gone q) other)
  ];
  objects = λ p q inside. elim (page-cases p o) [
    | inl same ↦ subst (λ (k : ℕ). page_at (holdings_of new k) q ≡ option_or (page_at (holdings_of old k) q)
        (picked (is_of k (owner_at kept q)) (page_in left q) (page_in spans q))) (sym same.0) (at-owner q)
    | inr other ↦ at-other p q other.0
  ];
}
  where
    keeps : (own : Bool) (q p : ℕ) → is_some (page_of front q) ≡ false →
        page_at (holdings_of old p) q ≡ option_or (page_at (holdings_of old p) q) (picked own (page_in left q) (page_in spans q))
    keeps own q p other =
        let none : picked own (page_in left q) (page_in spans q) ≡ None =
        ap (λ (l : Option (List ℕ)). picked own l (page_in spans q)) (left-same spans left front q (given.gone q) other)
        ∙ picked-left own (page_in spans q) in
        sym (ap (option_or (page_at (holdings_of old p) q)) none ∙ option_or-none (page_at (holdings_of old p) q))

    at-owner : (q : ℕ) → page_at (holdings_of new o) q ≡ option_or (page_at (holdings_of old o) q)
        (picked (is_of o (owner_at kept q)) (page_in left q) (page_in spans q))
    at-owner q = elim (cases_Bool (is_some (page_of front q))) [
      | inl here ↦
          let some : is_some (page_in spans q) ≡ true = ap is_some (given.here q here) ∙ here in
          let lacks = asks.lacks o q some in
          let own : is_of o (owner_at kept q) ≡ true = ap (is_of o) (given.owner q here) ∙ eq-eqb o o refl in
          let pick : picked (is_of o (owner_at kept q)) (page_in left q) (page_in spans q) ≡ page_in spans q =
          ap (λ (b : Bool). picked b (page_in left q) (page_in spans q)) own
          ∙ ap (λ (l : Option (List ℕ)). picked true l (page_in spans q)) (left-gone spans left front q (given.gone q) here) in
          given.added q ∙ ap (option_or (page_of front q)) lacks ∙ option_or-none (page_of front q) ∙ sym (given.here q here)
          ∙ sym (ap (λ (a : Option (List ℕ)). option_or a (picked (is_of o (owner_at kept q)) (page_in left q) (page_in spans q))) lacks
          ∙ pick)
      | inr other ↦
          given.added q ∙ ap (λ (a : Option (List ℕ)). option_or a (page_at (holdings_of old o) q)) (none-unless (page_of front q) other)
          ∙ keeps (is_of o (owner_at kept q)) q o other
    ]

    at-other : (p q : ℕ) → p ≢ o → page_at (holdings_of new p) q ≡ option_or (page_at (holdings_of old p) q)
        (picked (is_of p (owner_at kept q)) (page_in left q) (page_in spans q))
    at-other p q apart =
        let same = ap (λ (h : Held). page_at h q) (given.others p apart) in
        elim (cases_Bool (is_some (page_of front q))) [
          | inl here ↦
              let own : is_of p (owner_at kept q) ≡ false = ap (is_of p) (given.owner q here)
              ∙ ne_eqb o p (λ same_page. apart (sym same_page)) in
              let none : picked (is_of p (owner_at kept q)) (page_in left q) (page_in spans q) ≡ None =
              ap (λ (b : Bool). picked b (page_in left q) (page_in spans q)) own in
              same ∙ sym (ap (option_or (page_at (holdings_of old p) q)) none ∙ option_or-none (page_at (holdings_of old p) q))
          | inr other ↦ same ∙ keeps (is_of p (owner_at kept q)) q p other
        ]

pub given-asks : (kept : KeptWalk) (spans left : List HeldSpan) (front : HeldSpan) (o : ℕ) (old new : List Held) →
    AsksShare kept spans old → IsGiven kept spans left front o old new → AsksShare kept left new
given-asks kept spans left front o old new asks given = record {
  apart = given.apart;
  inside = λ q some. asks.inside q (was q some);
  owner = λ q some.
      let owner = asks.owner q (was q some) in
      let low = owner.2 in
      let count = given.count in
      (owner.0, owner.1, omega (arith, low, count));
  lacks = λ p q some.
      let none = not-front q some in
      elim (page-cases p o) [
        | inl same ↦ ap (λ (k : ℕ). page_at (holdings_of new k) q) same.0 ∙ given.added q
            ∙ ap (λ (a : Option (List ℕ)). option_or a (page_at (holdings_of old o) q)) (none-unless (page_of front q) none)
            ∙ asks.lacks o q (was q some)
        | inr other ↦ ap (λ (h : Held). page_at h q) (given.others p other.0) ∙ asks.lacks p q (was q some)
      ];
}
  where
    not-front : (q : ℕ) → is_some (page_in left q) ≡ true → is_some (page_of front q) ≡ false
    not-front q some = elim (cases_Bool (is_some (page_of front q))) [
      | inl here ↦ absurd (some-none (page_in left q) some (left-gone spans left front q (given.gone q) here))
      | inr other ↦ other
    ]

    was : (q : ℕ) → is_some (page_in left q) ≡ true → is_some (page_in spans q) ≡ true
    was q some = sym (ap is_some (left-same spans left front q (given.gone q) (not-front q some))) ∙ some

-- ---- one run after the other

pub shared-none : (kept : KeptWalk) (spans : List HeldSpan) (objects : List Held) → AreShared kept spans spans objects objects
shared-none kept spans objects = record {
  count = refl;
  left_pages = λ q. inl refl;
  objects = λ o q inside. sym (ap (option_or (page_at (holdings_of objects o) q))
      (picked-left (is_of o (owner_at kept q)) (page_in spans q)) ∙ option_or-none (page_at (holdings_of objects o) q));
}

both-picked : (a u l m : Option (List ℕ)) (own : Bool) → (l ≡ u) ⊎ (l ≡ None) → (m ≡ l) ⊎ (m ≡ None) →
    option_or (option_or a (picked own l u)) (picked own m l) ≡ option_or a (picked own m u)
both-picked a u l m false first second = ap (λ (x : Option (List ℕ)). option_or x None) (option_or-none a)
both-picked a u l m true (inl same) (inl still) =
    subst (λ (x : Option (List ℕ)). option_or (option_or a (picked true x u)) (picked true m x) ≡ option_or a (picked true m u)) (sym same)
    (ap (λ (x : Option (List ℕ)). option_or (option_or a x) (picked true m u)) (picked-left true u)
    ∙ ap (λ (x : Option (List ℕ)). option_or x (picked true m u)) (option_or-none a))
both-picked a u l m true (inl same) (inr gone) =
    subst (λ (x : Option (List ℕ)). option_or (option_or a (picked true x u)) (picked true m x) ≡ option_or a (picked true m u)) (sym same)
    (ap (λ (x : Option (List ℕ)). option_or (option_or a x) (picked true m u)) (picked-left true u)
    ∙ ap (λ (x : Option (List ℕ)). option_or x (picked true m u)) (option_or-none a))
both-picked a u l m true (inr none) second =
    let last : m ≡ None = elim second [ inl still ↦ still ∙ none | inr gone ↦ gone ] in
    let pick : picked true m l ≡ None = ap (λ (x : Option (List ℕ)). picked true x l) last ∙ none in
    ap (option_or (option_or a (picked true l u))) pick ∙ option_or-none (option_or a (picked true l u))
    ∙ ap (λ (x : Option (List ℕ)). option_or a (picked true x u)) (none ∙ sym last)

pub shared-then : (kept : KeptWalk) (spans mid left : List HeldSpan) (old now new : List Held) → AreShared kept spans mid old now →
    AreShared kept mid left now new → AreShared kept spans left old new
shared-then kept spans mid left old now new first second = record {
  count = second.count ∙ first.count;
  left_pages = λ q. elim (second.left_pages q) [
    | inl same ↦ elim (first.left_pages q) [ inl was ↦ inl (same ∙ was) | inr none ↦ inr (same ∙ none) ]
    | inr none ↦ inr none
  ];
  objects = λ o q inside.
      let count = first.count in
      second.objects o q (omega (arith, inside, count))
      ∙ ap (λ (a : Option (List ℕ)). option_or a (picked (is_of o (owner_at kept q)) (page_in left q) (page_in mid q)))
      (first.objects o q inside)
      ∙ both-picked (page_at (holdings_of old o) q) (page_in spans q) (page_in mid q) (page_in left q) (is_of o (owner_at kept q))
      (first.left_pages q) (second.left_pages q);
}

-- ---- the run that the code takes off

-- what an object holds after a span came to it
added-at : (old : List Held) (o : ℕ) (s : HeldSpan) (reserved h : Held) → o < length old → reserved.spans ≡ (holdings_of old o).spans →
    IsAdded s reserved h → (q : ℕ) → page_at (holdings_of (set old o h) o) q ≡ option_or (page_of s q) (page_at (holdings_of old o) q)
added-at old o s reserved h inside same added q =
    ap (λ (x : Held). page_at x q) (get_or-set_same old o h no_pages inside) ∙ added.pages q
    ∙ ap (λ (spans : List HeldSpan). option_or (page_of s q) (page_in spans q)) same

-- a page of the span on top is in no other
top-page : (xs : List HeldSpan) (s : HeldSpan) (q : ℕ) → IsApart s xs → is_some (page_of s q) ≡ true →
    page_in (xs ++ (s ∷ [])) q ≡ page_of s q
top-page xs s q alone some =
    page_in-last xs s q ∙ ap (λ (a : Option (List ℕ)). option_or a (page_of s q)) (alone q some)

-- the whole span goes
pub given-whole : (kept : KeptWalk) (xs : List HeldSpan) (s : HeldSpan) (o : ℕ) (old : List Held) (reserved h : Held) →
    AsksShare kept (xs ++ (s ∷ [])) old → o < length old →
    ((q : ℕ) → s.first ≤ q → q < s.first + length s.pages → owner_at kept q ≡ Object o) →
    reserved.spans ≡ (holdings_of old o).spans → IsAdded s reserved h → IsGiven kept (xs ++ (s ∷ [])) xs s o old (set old o h)
given-whole kept xs s o old reserved h asks inside owner same added =
    let parts = apart-last xs s asks.apart in
    record {
      inside = inside;
      owner = λ q some. let at = has_page s q some in owner q at.0 at.1;
      here = λ q some. top-page xs s q parts.0 some;
      gone = λ q. elim (cases_Bool (is_some (page_of s q))) [
        | inl here ↦ parts.0 q here ∙ sym (ap (λ (b : Bool). if b then None else page_in (xs ++ (s ∷ [])) q) here)
        | inr other ↦
            sym (ap (λ (b : Bool). if b then None else page_in (xs ++ (s ∷ [])) q) other ∙ page_in-last xs s q
            ∙ ap (option_or (page_in xs q)) (none-unless (page_of s q) other) ∙ option_or-none (page_in xs q))
      ];
      apart = parts.1;
      added = added-at old o s reserved h inside same added;
      others = λ p other. get_or-set_other old o p h no_pages other;
      count = length-set old o h;
    }

or-front : (a b : Option (List ℕ)) → is_some a ≡ true → option_or a b ≡ a
or-front None b some = absurd (false≢true some)
or-front (Some x) b some = refl

or-back : (a b : Option (List ℕ)) → is_some b ≡ true → is_some (option_or a b) ≡ true
or-back None b some = some
or-back (Some x) b some = refl

-- its first pages go
pub given-cut : (kept : KeptWalk) (xs : List HeldSpan) (s : HeldSpan) (n o : ℕ) (old : List Held) (reserved h : Held) →
    AsksShare kept (xs ++ (s ∷ [])) old → o < length old → n ≤ length s.pages →
    ((q : ℕ) → s.first ≤ q → q < s.first + n → owner_at kept q ≡ Object o) →
    reserved.spans ≡ (holdings_of old o).spans → IsAdded (front_part s n) reserved h →
    IsGiven kept (xs ++ (s ∷ [])) (xs ++ (back_part s n ∷ [])) (front_part s n) o old (set old o h)
given-cut kept xs s n o old reserved h asks inside fits owner same added =
    let parts = apart-last xs s asks.apart in
    let front = front_part s n in
    let back = back_part s n in
    let whole : (q : ℕ) → option_or (page_of front q) (page_of back q) ≡ page_of s q = λ q. cut_page s n q fits in
    let some_front : (q : ℕ) → is_some (page_of front q) ≡ true → page_of s q ≡ page_of front q =
    λ q some. sym (whole q) ∙ or-front (page_of front q) (page_of back q) some in
    let some_back : (q : ℕ) → is_some (page_of back q) ≡ true → is_some (page_of s q) ≡ true =
    λ q some. sym (ap is_some (whole q)) ∙ or-back (page_of front q) (page_of back q) some in
    record {
      inside = inside;
      owner = λ q some. let at = has_page front q some in let most = length-take n s.pages in
          let low = at.0 in
          let high = at.1 in
          owner q low (omega (arith, high, most));
      here = λ q some. top-page xs s q parts.0 (ap is_some (some_front q some) ∙ some) ∙ some_front q some;
      gone = λ q. elim (cases_Bool (is_some (page_of front q))) [
        | inl here ↦
            let alone = parts.0 q (ap is_some (some_front q here) ∙ here) in
            let behind : page_of back q ≡ None = front-only q here in
            page_in-last xs back q ∙ ap (option_or (page_in xs q)) behind ∙ option_or-none (page_in xs q) ∙ alone
            ∙ sym (ap (λ (b : Bool). if b then None else page_in (xs ++ (s ∷ [])) q) here)
        | inr other ↦
            let rest : page_of back q ≡ page_of s q =
            sym (ap (λ (a : Option (List ℕ)). option_or a (page_of back q)) (none-unless (page_of front q) other)) ∙ whole q in
            page_in-last xs back q ∙ ap (option_or (page_in xs q)) rest ∙ sym (page_in-last xs s q)
            ∙ sym (ap (λ (b : Bool). if b then None else page_in (xs ++ (s ∷ [])) q) other)
      ];
      apart = apart-more xs back parts.1 (λ q some. parts.0 q (some_back q some));
      added = added-at old o front reserved h inside same added;
      others = λ p other. get_or-set_other old o p h no_pages other;
      count = length-set old o h;
    }
  where
    front-only : (q : ℕ) → is_some (page_of (front_part s n) q) ≡ true → page_of (back_part s n) q ≡ None
    front-only q here =
        let at = has_page (front_part s n) q here in
        let high = at.1 in
        let most = length-take n s.pages in
        page_of-before (back_part s n) q (omega (arith, high, most))

-- ---- the code's words for it

-- an element that was read is the one at its place
pub element-at : (objects : List Held) (o : ℕ) (x : Held) → o < length objects → x ≡ get_or objects o x → x ≡ holdings_of objects o
element-at [] o x inside is = let none : o < 0 = inside in absurd (omega (arith, none))
element-at (h ∷ rest) zero x inside is = is
element-at (h ∷ rest) (suc o) x inside is = let more : suc o < suc (length rest) = inside in element-at rest o x (omega (arith, more)) is

abbrev number_of : Owner → ℕ
number_of Free = 0
number_of Nobody = 0
number_of (Object o) = o

pub object-inner : (a b : ℕ) → Object a ≡ Object b → a ≡ b
object-inner a b same = ap number_of same

-- a page of the span on top is a page of all
pub top-some : (xs : List HeldSpan) (s : HeldSpan) (q : ℕ) → s.first ≤ q → q < s.first + length s.pages →
    is_some (page_in (xs ++ (s ∷ [])) q) ≡ true
top-some xs s q low high =
    ap is_some (page_in-last xs s q) ∙ or-back (page_in xs q) (page_of s q) (ap is_some (page_of-inside s q low high))

pub span-same : (first first2 : ℕ) (pages pages2 : List (List ℕ)) → first ≡ first2 → pages ≡ pages2 →
    (let s : HeldSpan = record { first = first; pages = pages } in s) ≡ record { first = first2; pages = pages2 }
span-same first first2 pages pages2 one two =
    ap (λ (k : ℕ). let s : HeldSpan = record { first = k; pages = pages } in s) one
    ∙ ap (λ (ps : List (List ℕ)). let s : HeldSpan = record { first = first2; pages = ps } in s) two
