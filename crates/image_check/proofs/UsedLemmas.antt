-- Pages that are used and nobody's.
use Rattle.std.proofs.Common.{◌≡◌, ℕ, ◌+◌, ◌-◌, ◌<◌, ◌≤◌, true, not, IsTrue, Option, Some, None, is_some, List, [], ◌++◌}
use Rattle.std.proofs.Common.{length}
use Rattle.std.proofs.Common.{take, drop, replicate, get_or, refl, sym, ap, ◌∙◌, inl, inr, arith, length-append, length-drop}
use Rattle.std.specs.Option.{option_or}
use Rattle.std.proofs.lemmas.Bool.{cases_lt}
use Rattle.std.proofs.lemmas.List.{get_or-drop, get_or-replicate, get_or-take, get_or_append_left, length-replicate, length-take-le}
use Rattle.std.proofs.lemmas.List.{get_or-append_right}
use Rattle.geometry_model.specs.Numbers.{Numbers, pages}
use Rattle.geometry_model.specs.Pages.{is_data_page}
use Rattle.span_store.specs.Held.{HeldSpan, Held, has, page_at, page_in, page_of}
use Rattle.span_store.specs.Calls.{IsAdded}
use Rattle.span_store.proofs.SpanLists.{end_of, page_of-before, page_of-behind, page_of-inside}
use Rattle.image_check.specs.declared.owner.Owner.{Owner}
use Rattle.image_check.specs.declared.owner.Owner.TheVariants.{Free, Nobody}
use Rattle.image_check.specs.Owners.{KeptWalk, IsMarked, is_unused, owner_at, with_used}

length-used : (kept : KeptWalk) (first n : ℕ) → first + n ≤ length kept.owners → length (with_used kept first n).owners ≡ length kept.owners
length-used kept first n inside =
    let a = length-append (take first kept.owners) (replicate n Nobody ++ drop (first + n) kept.owners) in
    let b = length-append (replicate n Nobody) (drop (first + n) kept.owners) in
    let c : length (take first kept.owners) ≡ first = length-take-le first kept.owners (omega (arith, inside)) in
    let d : length (replicate n Nobody) ≡ n = length-replicate {A = Owner} n Nobody in
    let e = length-drop (first + n) kept.owners in
    omega (arith, a, b, c, d, e, inside)

pub used-before : (kept : KeptWalk) (first n q : ℕ) → first + n ≤ length kept.owners → q < first →
    owner_at (with_used kept first n) q ≡ owner_at kept q
used-before kept first n q inside before =
    let c : length (take first kept.owners) ≡ first = length-take-le first kept.owners (omega (arith, inside)) in
    get_or_append_left (take first kept.owners) (replicate n Nobody ++ drop (first + n) kept.owners) Nobody q (omega (arith, before, c))
    ∙ get_or-take first kept.owners q Nobody before

-- past the first pages
past : (kept : KeptWalk) (first n q : ℕ) → first + n ≤ length kept.owners → first ≤ q → owner_at (with_used kept first n) q
    ≡ get_or (replicate n Nobody ++ drop (first + n) kept.owners) (q - first) Nobody
past kept first n q inside from =
    let c : length (take first kept.owners) ≡ first = length-take-le first kept.owners (omega (arith, inside)) in
    get_or-append_right (take first kept.owners) (replicate n Nobody ++ drop (first + n) kept.owners) first q Nobody c from

pub used-inside : (kept : KeptWalk) (first n q : ℕ) → first + n ≤ length kept.owners → first ≤ q → q < first + n →
    owner_at (with_used kept first n) q ≡ Nobody
used-inside kept first n q inside from to =
    let d : length (replicate n Nobody) ≡ n = length-replicate {A = Owner} n Nobody in
    past kept first n q inside from
    ∙ get_or_append_left (replicate n Nobody) (drop (first + n) kept.owners) Nobody (q - first) (omega (arith, from, to, d))
    ∙ get_or-replicate n (q - first) Nobody Nobody (omega (arith, from, to))

pub used-behind : (kept : KeptWalk) (first n q : ℕ) → first + n ≤ length kept.owners → first + n ≤ q →
    owner_at (with_used kept first n) q ≡ owner_at kept q
used-behind kept first n q inside behind =
    let d : length (replicate n Nobody) ≡ n = length-replicate {A = Owner} n Nobody in
    let place : (first + n) + ((q - first) - n) ≡ q = omega (arith, behind) in
    past kept first n q inside (omega (arith, behind))
    ∙ get_or-append_right (replicate n Nobody) (drop (first + n) kept.owners) n (q - first) Nobody d (omega (arith, behind))
    ∙ get_or-drop (first + n) kept.owners ((q - first) - n) Nobody
    ∙ ap (λ (k : ℕ). get_or kept.owners k Nobody) place

-- the marks are still those of what is held
pub used-marked : (n : Numbers) (old new : Held) (kept : KeptWalk) (s : HeldSpan) → s.first + length s.pages ≤ length kept.owners →
    IsAdded s old new → IsMarked n old kept → IsMarked n new (with_used kept s.first (length s.pages))
used-marked n old new kept s inside added marked = record {
  count = length-used kept s.first (length s.pages) inside ∙ marked.count;
  used = λ q data_page. elim (cases_lt q s.first) [
    | inl before ↦ outside q data_page (page_of-before s q before) (used-before kept s.first (length s.pages) q inside before)
    | inr from ↦ elim (cases_lt q (end_of s)) [
      | inl to ↦
          let here : is_some (page_of s q) ≡ true = ap is_some (page_of-inside s q from to) in
          let mine : has new q ≡ true = ap is_some (added.pages q) ∙ some-or (page_of s q) (page_at old q) here in
          mine ∙ sym (ap (λ (x : Owner). not (is_unused x)) (used-inside kept s.first (length s.pages) q inside from to))
      | inr behind ↦ outside q data_page (page_of-behind s q behind) (used-behind kept s.first (length s.pages) q inside behind)
    ]
  ];
}
  where
    some-or : (a b : Option (List ℕ)) → is_some a ≡ true → is_some (option_or a b) ≡ true
    some-or None b some = absurd cc
    some-or (Some x) b some = refl

    outside : (q : ℕ) → IsTrue (is_data_page n q) → page_of s q ≡ None →
        owner_at (with_used kept s.first (length s.pages)) q ≡ owner_at kept q →
        has new q ≡ not (is_unused (owner_at (with_used kept s.first (length s.pages)) q))
    outside q data_page none same =
        ap is_some (added.pages q) ∙ ap (λ (o : Option (List ℕ)). is_some (option_or o (page_at old q))) none
        ∙ marked.used q data_page ∙ ap (λ (x : Owner). not (is_unused x)) (sym same)

-- a walk of free pages, and nothing held
pub free-marked : (n : Numbers) (held : Held) (kept : KeptWalk) → kept.owners ≡ replicate (pages n) Free → held.spans ≡ [] →
    ((q : ℕ) → IsTrue (is_data_page n q) → q < pages n) → IsMarked n held kept
free-marked n held kept free none below = record {
  count = ap length free ∙ length-replicate {A = Owner} (pages n) Free;
  used = λ q data_page.
      ap (λ (spans : List HeldSpan). is_some (page_in spans q)) none
      ∙ sym (ap (λ (owners : List Owner). not (is_unused (get_or owners q Nobody))) free
      ∙ ap (λ (x : Owner). not (is_unused x)) (get_or-replicate (pages n) q Free Nobody (below q data_page)));
}
