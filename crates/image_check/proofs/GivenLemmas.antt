-- Owners that are objects, and pages that may go to them.
use Rattle.std.proofs.Common.{◌≡◌, ℕ, ◌+◌, ◌<◌, ◌≤◌, true, not, Option, Some, None, is_some, List, length}
use Rattle.std.proofs.Common.{replicate, get_or, refl, sym, ap, subst, ◌∙◌, inl, inr, arith}
use Rattle.std.specs.Option.{option_or}
use Rattle.std.proofs.lemmas.Bool.{cases_lt, false≢true}
use Rattle.std.proofs.lemmas.List.{get_or-replicate, get_or_past, length-replicate}
use Rattle.geometry_model.specs.Numbers.{Numbers}
use Rattle.geometry_model.specs.Pages.{is_data_page}
use Rattle.image_laws.proofs.NodeLemmas.{data-below}
use Rattle.image_laws.proofs.UsedLemmas.{place-cases}
use Rattle.span_store.specs.Held.{Held, HeldSpan, IsEmpty, has, page_at, page_in, page_of}
use Rattle.span_store.specs.Calls.{IsAdded}
use Rattle.span_store.proofs.SpanLists.{has_page}
use Rattle.image_check.specs.declared.owner.Owner.{Owner}
use Rattle.image_check.specs.declared.owner.Owner.TheVariants.{Free, Nobody, Object}
use Rattle.image_check.specs.Owners.{Claims, HasNoneLost, IsClaimed, IsMarked, KeptWalk, is_unused, owner_at, with_used}
use Rattle.image_check.specs.Shares.{AreOwnersBelow, AreTaken, AsksShare, HoldsData, holdings_of, no_pages}
use Rattle.image_check.proofs.UsedLemmas.{used-before, used-inside, used-behind}

-- ---- owners

pub below-free : (count : ℕ) (kept : KeptWalk) → kept.owners ≡ replicate count Free → AreOwnersBelow 0 kept
below-free count kept free q o owner = elim (cases_lt q count) [
  | inl inside ↦
      let is : owner_at kept q ≡ Free =
      ap (λ (xs : List Owner). get_or xs q Nobody) free ∙ get_or-replicate count q Free Nobody inside in
      let broken : Free ≡ Object o = sym is ∙ owner in
      absurd cc
  | inr past ↦
      let long : length kept.owners ≡ count = ap length free ∙ length-replicate {A = Owner} count Free in
      let is : owner_at kept q ≡ Nobody = get_or_past kept.owners q Nobody (omega (arith, long, past)) in
      let broken : Nobody ≡ Object o = sym is ∙ owner in
      absurd cc
]

pub below-used : (count first n : ℕ) (kept : KeptWalk) → first + n ≤ length kept.owners → AreOwnersBelow count kept →
    AreOwnersBelow count (with_used kept first n)
below-used count first n kept inside below q o owner = elim (cases_lt q first) [
  | inl before ↦ below q o (sym (used-before kept first n q inside before) ∙ owner)
  | inr from ↦ elim (cases_lt q (first + n)) [
    | inl to ↦
        let broken : Nobody ≡ Object o = sym (used-inside kept first n q inside from to) ∙ owner in
        absurd cc
    | inr behind ↦ below q o (sym (used-behind kept first n q inside behind) ∙ owner)
  ]
]

pub below-claimed : (count o : ℕ) (old new : KeptWalk) → AreOwnersBelow count old → o < count → Claims o old new →
    AreOwnersBelow count new
below-claimed count o old new below inside claims q p owner = by-claim (claims q)
  where
    by-claim : IsClaimed o (owner_at old q) (owner_at new q) → p < count
    by-claim (inl same) = below q p (sym same ∙ owner)
    by-claim (inr mine) =
        let is : Object o ≡ Object p = sym mine.1 ∙ owner in
        let same : o ≡ p = cc in
        omega (arith, same, inside)

pub below-more : (count most : ℕ) (kept : KeptWalk) → AreOwnersBelow count kept → count ≤ most → AreOwnersBelow most kept
below-more count most kept below within q o owner = let low = below q o owner in omega (arith, low, within)

-- ---- what is held

-- a span of data pages more
pub data-added : (n : Numbers) (s : HeldSpan) (old new : Held) → IsAdded s old new →
    ((q : ℕ) → s.first ≤ q → q < s.first + length s.pages → is_data_page n q ≡ true) → HoldsData n old → HoldsData n new
data-added n s old new added inside before q some = by-span (page_of s q) refl
  where
    by-span : (o : Option (List ℕ)) → page_of s q ≡ o → is_data_page n q ≡ true
    by-span (Some page) is = let at = has_page s q (ap is_some is) in inside q at.0 at.1
    by-span None is =
        before q (sym (ap is_some (added.pages q ∙ ap (λ (o : Option (List ℕ)). option_or o (page_at old q)) is)) ∙ some)

-- a page that is held is an object's
owner-of-held : (n : Numbers) (held : Held) (kept : KeptWalk) (q : ℕ) → IsMarked n held kept → HasNoneLost n kept →
    is_data_page n q ≡ true → has held q ≡ true → (o : ℕ) × (owner_at kept q ≡ Object o)
owner-of-held n held kept q marked none on some = by-owner (owner_at kept q) refl
  where
    placed : owner_at kept q ≡ Nobody → ⊥
    placed nobody = elim (place-cases n q) [
      | inl off ↦ false≢true (sym (ap is_some off) ∙ on)
      | inr spot ↦ none spot.0 spot.2.in_store spot.1 spot.2.in_space (ap (owner_at kept) (sym spot.2.is_page) ∙ nobody)
    ]

    by-owner : (owner : Owner) → owner_at kept q ≡ owner → (o : ℕ) × (owner_at kept q ≡ Object o)
    by-owner Free is =
        absurd (false≢true (sym (marked.used q on ∙ ap (λ (x : Owner). not (is_unused x)) is) ∙ some))
    by-owner Nobody is = absurd (placed is)
    by-owner (Object o) is = (o, is)

pub can-share : (n : Numbers) (held left : Held) (kept : KeptWalk) (spans : List HeldSpan) (objects : List Held) →
    IsMarked n held kept → HasNoneLost n kept → AreOwnersBelow (length objects) kept →
    HoldsData n held → AreTaken held left spans →
    ((o : ℕ) → IsEmpty (holdings_of objects o)) → AsksShare kept spans objects
can-share n held left kept spans objects marked none below on taken empty = record {
  apart = taken.apart;
  inside = λ q some.
      let there = data-below n q (on q (held-too q some)) in
      let long = marked.count in
      omega (arith, there, long);
  owner = λ q some.
      let found = owner-of-held n held kept q marked none (on q (held-too q some)) (held-too q some) in
      (found.0, found.1, below q found.0 found.1);
  lacks = λ o q some. empty o q;
}
  where
    held-too : (q : ℕ) → is_some (page_in spans q) ≡ true → has held q ≡ true
    held-too q some = ap is_some (sym (taken.pages q)) ∙ some

-- objects none of which holds anything
pub all-empty : (objects : List Held) → ((i : ℕ) (d : Held) → i < length objects → IsEmpty (get_or objects i d)) → (o : ℕ) →
    IsEmpty (holdings_of objects o)
all-empty objects each o = elim (cases_lt o (length objects)) [
  | inl inside ↦ each o no_pages inside
  | inr past ↦ subst IsEmpty (sym (get_or_past objects o no_pages past)) (λ q. refl)
]
