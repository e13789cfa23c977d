-- Pages that are put into what is held, the last first.
use Rattle.std.proofs.Common.{◌≡◌, ℕ, ◌+◌, ◌-◌, ◌<◌, ◌≤◌, ◌==◌, ◌||◌, Bool, true, false, cond, List, [], ◌∷◌, ◌++◌, length, map, nat_le}
use Rattle.std.proofs.Common.{Option, Some, None, IsTrue, inl, inr, refl, sym, ap, subst, arith, ◌∙◌, append_assoc}
use Rattle.std.specs.List.{AllByRecursion}
use Rattle.std.specs.Option.{option_or}
use Rattle.std.specs.Prelude.{slice_get}
use Rattle.std.proofs.lemmas.Bool.{cases_eq, cases_lt, eq-eqb, le-leb, ne_eqb}
use Rattle.std.proofs.lemmas.List.{map-append}
use Rattle.change_laws.proofs.PartLemmas.{all-left, all-right}
use Rattle.page_port.specs.Pages.{IsSized, AreOf}
use Rattle.space_directory.proofs.HeldLaws.{one_page}
use Rattle.span_store.specs.Held.{Held, HeldSpan, page_of, page_at, begins, span_of}
use Rattle.span_store.specs.Calls.{IsAdded}
use Rattle.span_store.proofs.SpanLists.{page_of-before, page_of-behind}
use Rattle.tree_splice.specs.Fresh.{FreshPage, AreAllOf, ArePagesApart, fresh_at, fresh_page, is_on_pages, page_numbers}
use Rattle.tree_splice.proofs.FreshLemmas.{one-sized}
use Rattle.base_laws.proofs.BoolLaws.{or-assoc}

apart-mid : (before done : List FreshPage) (p : FreshPage) → ArePagesApart (before ++ p ∷ done) → fresh_at done p.page ≡ None
apart-mid [] done p apart = apart.0
apart-mid (x ∷ before) done p apart = apart-mid before done p apart.1

or-true : (b : Bool) → (b || true) ≡ true
or-true true = refl
or-true false = refl

in-mid : (before done : List FreshPage) (p : FreshPage) → is_on_pages p.page (page_numbers (before ++ p ∷ done)) ≡ true
in-mid [] done p = ap (λ (b : Bool). b || is_on_pages p.page (page_numbers done)) (eq-eqb p.page p.page refl)
in-mid (x ∷ before) done p = ap (λ (b : Bool). (x.page == p.page) || b) (in-mid before done p) ∙ or-true (x.page == p.page)

-- the segments that are left, the one that was popped, and those that are held
pub parts-next : {X : Type 0} (space start : X → ℕ) (contents : X → List (List ℕ)) (pages done : List FreshPage) (segments left : List X)
    (x : X) →
    pages ≡ map (fresh_page space start contents) segments ++ done → segments ≡ left ++ x ∷ [] →
    pages ≡ map (fresh_page space start contents) left ++ fresh_page space start contents x ∷ done
parts-next space start contents pages done segments left x parts popped =
    let φ = fresh_page space start contents in
    parts
    ∙ (ap (λ (xs : List _). map φ xs ++ done) popped
    ∙ (ap (λ (ps : List FreshPage). ps ++ done) (map-append φ left (x ∷ [])) ∙ append_assoc (map φ left) (φ x ∷ []) done))

pub hold-apart : (pages before done : List FreshPage) (p : FreshPage) (old now : Held) (start n q : ℕ) → pages ≡ before ++ p ∷ done →
    ArePagesApart pages →
    ((k : ℕ) → IsTrue (is_on_pages k (page_numbers pages)) → page_at old k ≡ None) →
    ((k : ℕ) → page_at now k ≡ option_or (fresh_at done k) (page_at old k)) → p.page ≡ start → n ≡ 1 → start ≤ q → q < start + n → page_at
    now q ≡ None
hold-apart pages before done p old now start n q parts apart lacks held first one from to =
    let same : q ≡ p.page = omega (arith, first, one, from, to) in
    let none : fresh_at done p.page ≡ None = apart-mid before done p (subst ArePagesApart parts apart) in
    let own : page_at old p.page ≡ None = lacks p.page (ap (λ (ps : List FreshPage). is_on_pages p.page
    (page_numbers ps)) parts ∙ in-mid before
    done p) in
    ap (page_at now) same ∙ (held p.page ∙ (ap (λ (o : Option (List ℕ)). option_or o (page_at old p.page)) none ∙ own))

-- what a span of one page holds
page-one : (p : FreshPage) (q : ℕ) → page_of (record { first = p.page; pages = p.bytes ∷ [] }) q ≡ cond (p.page == q) (Some p.bytes) None
page-one p q =
    let s : HeldSpan = record { first = p.page; pages = p.bytes ∷ [] } in
    elim (cases_eq p.page q) [
      | inl same ↦
          (let here : page_of s p.page ≡ Some p.bytes = first-of (nat_le p.page p.page) (le-leb p.page p.page (omega arith)) in
          let test : (p.page == q) ≡ true = eq-eqb p.page q same in
          ap (page_of s) (sym same) ∙ (here ∙ sym (ap (λ (b : Bool). cond b (Some p.bytes) None) test)))
      | inr other ↦
          (let test : (p.page == q) ≡ false = ne_eqb p.page q other in
          let none : page_of s q ≡ None = elim (cases_lt q p.page) [
            | inl less ↦ page_of-before s q less
            | inr from ↦ page_of-behind s q (omega (arith, from, other))
          ] in
          none ∙ sym (ap (λ (b : Bool). cond b (Some p.bytes) None) test))
    ]
  where
    first-of : (b : Bool) → b ≡ true → cond b (slice_get (p.bytes ∷ []) (p.page - p.page)) None ≡ Some p.bytes
    first-of b is =
        let zero_is : p.page - p.page ≡ 0 = omega arith in
        ap (λ (c : Bool). cond c (slice_get (p.bytes ∷ []) (p.page - p.page)) None) is ∙ ap (slice_get (p.bytes ∷ [])) zero_is

or-cond : (b : Bool) (bytes : List ℕ) (o d : Option (List ℕ)) → option_or (cond b (Some bytes) None) (option_or o d) ≡ option_or
    (cond b (Some bytes) o) d
or-cond true bytes o d = refl
or-cond false bytes o d = refl

pub hold-pages : (done : List FreshPage) (p : FreshPage) (s : HeldSpan) (old mid new : Held) → s ≡ record
    { first = p.page; pages = p.bytes ∷ [] } →
    IsAdded s mid new → ((k : ℕ) → page_at mid k ≡ option_or (fresh_at done k) (page_at old k)) →
    (q : ℕ) → page_at new q ≡ option_or (fresh_at (p ∷ done) q) (page_at old q)
hold-pages done p s old mid new is added held q =
    added.pages q
    ∙ (ap (λ (t : HeldSpan). option_or (page_of t q) (page_at mid q)) is
    ∙ (ap (λ (o : Option (List ℕ)). option_or o (page_at mid q)) (page-one p q)
    ∙ (ap (option_or (cond (p.page == q) (Some p.bytes) None)) (held q)
    ∙ or-cond (p.page == q) p.bytes (fresh_at done q) (page_at old q))))

pub hold-begins : (done : List FreshPage) (p : FreshPage) (s : HeldSpan) (old mid new : Held) → s ≡ record
    { first = p.page; pages = p.bytes ∷ [] } →
    IsAdded s mid new → ((k : ℕ) → begins mid k ≡ (is_on_pages k (page_numbers done) || begins old k)) →
    (q : ℕ) → begins new q ≡ (is_on_pages q (page_numbers (p ∷ done)) || begins old q)
hold-begins done p s old mid new is added begun q =
    added.begun q
    ∙ (ap (λ (t : HeldSpan). (t.first == q) || begins mid q) is
    ∙ (ap (λ (b : Bool). (p.page == q) || b) (begun q) ∙ or-assoc (p.page == q) (is_on_pages q (page_numbers done)) (begins old q)))

-- the span of a segment of one page
pub one-span : {X : Type 0} (space start : X → ℕ) (contents : X → List (List ℕ)) (x : X) → length (contents x) ≡ 1 →
    span_of start contents x ≡ record {
      first = (fresh_page space start contents x).page;
      pages = (fresh_page space start contents x).bytes
          ∷ [];
    }
one-span space start contents x one = ap (λ (ps : List (List ℕ)). record { first = start x; pages = ps }) (one_page (contents x) one)

pub hold-sized : {X : Type 0} (space start : X → ℕ) (contents : X → List (List ℕ)) (tells : Bool) (size : ℕ)
    (pages before done : List FreshPage) (x : X) →
    length (contents x) ≡ 1 → pages ≡ before ++ fresh_page space start contents x ∷ done → AreAllOf tells size pages → IsSized tells size
    (contents x)
hold-sized space start contents tells size pages before done x one parts all = λ t.
    let p = fresh_page space start contents x in
    let here = (all-right (λ (q : FreshPage). length q.bytes ≡ size) before (p ∷ done)
    (subst (AllByRecursion (λ (q : FreshPage). length q.bytes ≡ size)) parts (all t))).0 in
    subst (AreOf size) (sym (one_page (contents x) one)) (one-sized size p.bytes here)

pub single-parts : {X : Type 0} (P : X → Type 0) (segments left : List X) (x : X) → segments ≡ left ++ x ∷ [] → AllByRecursion P segments →
    AllByRecursion P left × P x
single-parts P segments left x popped all =
    let parts = subst (AllByRecursion P) popped all in
    (all-left P left (x ∷ []) parts, (all-right P left (x ∷ []) parts).0)
