-- The held pages that aren't locked, span by span.
use Rattle.std.proofs.Common.{◌≡◌, ℕ, suc, ◌+◌, ◌-◌, ◌^◌, ◌<◌, ◌≤◌, Bool, true, false, not, ◌&&◌, ◌||◌, IsTrue, refl, sym, ap, subst}
use Rattle.std.proofs.Common.{arith, ◌∙◌, inl, inr, length, is_some, nat_lt}
use Rattle.std.proofs.lemmas.Bool.{cases_lt, false≢true, lt-ltb, le-ltb}
use Rattle.std.proofs.Math.Bool.{or-false}
use Rattle.geometry_model.specs.Numbers.{Numbers}
use Rattle.page_set.specs.Members.{AllOn, AreSame, Keeps}
use Rattle.page_set.specs.Words.{PageSetView, in_set, room_in}
use Rattle.space_directory.proofs.PageLaws.{in_run-inside, in_run-below, in_run-above}
use Rattle.span_store.specs.Held.{Held, HeldSpan, IsEnd, begins, has}
use Rattle.span_store.specs.Calls.{IsSpanFrom}
use Rattle.span_store.proofs.Nexts.{gap-empty, held-before}
use Rattle.page_cache.specs.Kept.{is_on_run}
use Rattle.object_state.specs.Keeps.{AreOnData, IsMarked}
use Rattle.object_state.proofs.BorderLemmas.{span-alike}
use Rattle.give_back.proofs.LeftLemmas.{span-has}
use Rattle.object_state.proofs.MarkLemmas.{some-page}

-- all held pages are marks
pub all-marked : (held : Held) → IsMarked held (has held)
all-marked held = record {
  within = λ page there. there;
  borders = λ page there differ. go page (has held page) refl (begins held (suc page)) refl there differ;
} where
  go : (page : ℕ) (b : Bool) → has held page ≡ b → (c : Bool) → begins held (suc page) ≡ c → IsTrue (has held (suc page)) →
      (has held (suc page) ≡ has held page → ⊥) → IsTrue (begins held (suc page))
  go page true is c begun there differ = absurd (differ (there ∙ sym is))
  go page false is true begun there differ = begun
  go page false is false begun there differ = absurd (false≢true (sym is ∙ held-before held.spans page there begun))

-- the pages before `at` that are held and not locked are gathered
pub record IsGathering (held : Held) (at : ℕ) (gone was locked : PageSetView) : Type 0 where
  pub border : IsTrue (has held at) → IsTrue (begins held at)
  pub gathered : (q : ℕ) → in_set gone q ≡ (nat_lt q at && (has held q && not (in_set was q)))
  pub same : AreSame (in_set was) (in_set locked)
  pub size : locked.size ≡ was.size
  pub room : Keeps (in_set gone) (room_in locked)

pub gathering-init : (n : Numbers) (held : Held) (gone was : PageSetView) → AreOnData n held → ((q : ℕ) → in_set gone q ≡ false) →
    IsGathering held 0 gone was was
gathering-init n held gone was on_data none = record {
  border = λ there. let low = some-page n 0 (on_data 0 there) in absurd (omega (arith, low));
  gathered = λ q. none q ∙ sym (ap (λ b. b && (has held q && not (in_set was q))) (le-ltb q 0 (omega arith)));
  same = λ q. refl;
  size = refl;
  room = λ q there. absurd (false≢true (sym (none q) ∙ there));
}

-- a span more
pub gathering-more : (held : Held) (at pages : ℕ) (s : HeldSpan) (gone gone2 was locked locked2 : PageSetView) →
    IsMarked held (in_set was) → IsGathering held at gone was locked → IsSpanFrom at s held → length s.pages ≡ pages →
    ((q : ℕ) → in_set gone2 q ≡ (in_set gone q || (is_on_run s.first pages q && not (in_set locked s.first)))) →
    (in_set locked s.first ≡ false → AllOn (room_in locked2) s.first pages) → Keeps (room_in locked) (room_in locked2) →
    AreSame (in_set locked) (in_set locked2) → locked2.size ≡ locked.size → IsGathering held (s.first + pages) gone2 was locked2
gathering-more held at pages s gone gone2 was locked locked2 marked gathering found long test room keeps same size = record {
  border = λ there.
      let end : s.first + length s.pages ≡ s.first + pages = omega (arith, long) in
      subst (λ q. IsTrue (has held q) → IsTrue (begins held q)) end found.whole.end there;
  gathered = each;
  same = λ q. same q ∙ gathering.same q;
  size = size ∙ gathering.size;
  room = λ q there. fits q (in_set gone q) refl (is_on_run s.first pages q) refl (in_set locked s.first) refl (sym (test q) ∙ there);
} where
  holds : (q : ℕ) → s.first ≤ q → q < s.first + pages → IsTrue (has held q)
  holds q from to =
      let inside = span-has s q ∙ in_run-inside s.first (length s.pages) q from (omega (arith, to, long)) in
      ap is_some (found.whole.held q inside) ∙ inside

  alike : (q : ℕ) → s.first ≤ q → q < s.first + pages → in_set was q ≡ in_set locked s.first
  alike q from to =
      let same_page : s.first + (q - s.first) ≡ q = omega (arith, from) in
      ap (in_set was) (sym same_page)
      ∙ (span-alike held (in_set was) s.first pages marked holds
      (λ q from to. found.whole.inner q from (omega (arith, to, long))) (q - s.first) (omega (arith, from, to))
      ∙ sym (gathering.same s.first))

  each : (q : ℕ) → in_set gone2 q ≡ (nat_lt q (s.first + pages) && (has held q && not (in_set was q)))
  each q = test q ∙ elim (cases_lt q s.first) [
    | inl below ↦
        let out = ap (λ b. in_set gone q || (b && not (in_set locked s.first))) (in_run-below s.first pages q below)
        ∙ or-false (in_set gone q) in
        let now = ap (λ b. b && (has held q && not (in_set was q))) (lt-ltb q (s.first + pages) (omega (arith, below))) in
        out ∙ (gathering.gathered q ∙ (elim (cases_lt q at) [
          | inl before ↦ ap (λ b. b && (has held q && not (in_set was q))) (lt-ltb q at before)
          | inr from ↦
              let same_page : at + (q - at) ≡ q = omega (arith, from) in
              let none : has held q ≡ false = ap (has held) (sym same_page)
              ∙ gap-empty held at s.first gathering.border found.none (q - at) (omega (arith, from, below)) in
              ap (λ b. b && (has held q && not (in_set was q))) (le-ltb q at from)
              ∙ sym (ap (λ b. b && not (in_set was q)) none)
        ] ∙ sym now))
    | inr from ↦ elim (cases_lt q (s.first + pages)) [
      | inl to ↦
          let old = gathering.gathered q ∙ ap (λ b. b && (has held q && not (in_set was q)))
          (le-ltb q at (omega (arith, from, found.from))) in
          let now = ap (λ b. b && (has held q && not (in_set was q))) (lt-ltb q (s.first + pages) to)
          ∙ (ap (λ b. b && not (in_set was q)) (holds q from to) ∙ ap not (alike q from to)) in
          ap (λ b. b || (is_on_run s.first pages q && not (in_set locked s.first))) old
          ∙ (ap (λ b. b && not (in_set locked s.first)) (in_run-inside s.first pages q from to) ∙ sym now)
      | inr past ↦
          let old = gathering.gathered q ∙ ap (λ b. b && (has held q && not (in_set was q)))
          (le-ltb q at (omega (arith, from, found.from))) in
          let now = ap (λ b. b && (has held q && not (in_set was q))) (le-ltb q (s.first + pages) past) in
          ap (λ b. b || (is_on_run s.first pages q && not (in_set locked s.first))) old
          ∙ (ap (λ b. b && not (in_set locked s.first)) (in_run-above s.first pages q past) ∙ sym now)
    ]
  ]

  fits : (q : ℕ) (g : Bool) → in_set gone q ≡ g → (r : Bool) → is_on_run s.first pages q ≡ r → (l : Bool) → in_set locked s.first ≡ l →
      (in_set gone q || (is_on_run s.first pages q && not (in_set locked s.first))) ≡ true → IsTrue (room_in locked2 q)
  fits q true was_in r on l here either = keeps q (gathering.room q was_in)
  fits q false not_in false off l here either = absurd (false≢true
      (sym (ap (λ b. b || (is_on_run s.first pages q && not (in_set locked s.first))) not_in
      ∙ ap (λ b. b && not (in_set locked s.first)) off) ∙ either))
  fits q false not_in true on true here either = absurd (false≢true
      (sym (ap (λ b. b || (is_on_run s.first pages q && not (in_set locked s.first))) not_in
      ∙ (ap (λ b. b && not (in_set locked s.first)) on ∙ ap not here)) ∙ either))
  fits q false not_in true on false here either = elim (cases_lt q s.first) [
    | inl below ↦ absurd (false≢true (sym (in_run-below s.first pages q below) ∙ on))
    | inr from ↦ elim (cases_lt q (s.first + pages)) [
      | inl to ↦ room here q from to
      | inr past ↦ absurd (false≢true (sym (in_run-above s.first pages q past) ∙ on))
    ]
  ]

-- no span is left
pub gathering-all : (held : Held) (at : ℕ) (gone was locked : PageSetView) → IsGathering held at gone was locked →
    ((q : ℕ) → at ≤ q → begins held q ≡ false) → (q : ℕ) → in_set gone q ≡ (has held q && not (in_set was q))
gathering-all held at gone was locked gathering none q = gathering.gathered q ∙ elim (cases_lt q at) [
  | inl before ↦ ap (λ b. b && (has held q && not (in_set was q))) (lt-ltb q at before)
  | inr from ↦
      let same_page : at + (q - at) ≡ q = omega (arith, from) in
      let out : has held q ≡ false = ap (has held) (sym same_page)
      ∙ gap-empty held at (suc q) gathering.border (λ p after before. none p after) (q - at) (omega (arith, from)) in
      ap (λ b. b && (has held q && not (in_set was q))) (le-ltb q at from) ∙ sym (ap (λ b. b && not (in_set was q)) out)
]

-- the end of a span is a number
pub span-fits : (held : Held) (at pages end : ℕ) (s : HeldSpan) → IsSpanFrom at s held → length s.pages ≡ pages → IsEnd held end →
    end < 2 ^ 32 → s.first + pages < 2 ^ 32
span-fits held at pages end s found long is_end below =
    let some = found.whole.some in
    let last = s.first + (pages - 1) in
    let inside = span-has s last ∙ in_run-inside s.first (length s.pages) last (omega arith) (omega (arith, some, long)) in
    let behind = is_end.behind last (ap is_some (found.whole.held last inside) ∙ inside) in
    omega (arith, behind, below, some, long)
