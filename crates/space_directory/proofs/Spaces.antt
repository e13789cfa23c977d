-- A space stays sound, and owns just the spans of its free pages, over each of its changes.
use Rattle.std.proofs.Common.{inl, inr, ◌≡◌, ℕ, zero, suc, ◌+◌, ◌-◌, ◌<◌, ◌≤◌, Bool, true, false, not, List, []}
use Rattle.std.proofs.Common.{length, take, drop, replicate, Option, Some, None, refl, sym, ap, ◌∙◌, subst, arith}
use Rattle.std.proofs.Common.{length-drop}
use Rattle.std.proofs.lemmas.List.{length-take, length-replicate}
use Rattle.std.proofs.lemmas.List.Elements.{All-nil, All-cons, All-take, All-drop}
use Rattle.std.proofs.lemmas.Bool.{cases_lt, false≢true, or_cases}
use Rattle.std.specs.Prelude.{IsTrue}
use Rattle.page_port.specs.Pages.{AreOf, IsSized, run}
use Rattle.block_model.specs.Block.{has_page, HasRun, with_run}
use Rattle.block_model.proofs.Runs.{page_within}
use Rattle.block_model.proofs.Changes.{length-with_run, with_run-below, with_run-inside, with_run-above}
use Rattle.space_directory.specs.Slots.{span_in, IsPage, IsPageOf, IsRow, page_held, pages_held, KeepsSlots, IsEmptied, AreSpread}
use Rattle.space_directory.specs.SpaceView.{SpaceView, IsSpace, with_pages, after_grant, after_give, locked_with, after_lock, after_unlock}
use Rattle.space_directory.specs.Held.{IsSlot, HoldsFree, OwnsFree}
use Rattle.space_directory.proofs.HeldLaws.{run_held-more, length-with_pages, with_pages-below, with_pages-inside}
use Rattle.space_directory.proofs.HeldLaws.{with_pages-above, nothing_at, emptied_held, filled_held}
use Rattle.std.proofs.Math.ListN.{get_or}
use Rattle.space_directory.proofs.LockedRuns.{length-locked_with, locked_with-below, locked_with-inside, locked_with-above}

-- ---- slots

slot_page : {X : Type 0} (start : X → ℕ) (contents : X → List (List ℕ)) (tells : Bool) (size page : ℕ)
    (o : Option X) → IsSlot start contents tells size page true o → IsPage start contents page o
slot_page start contents tells size page None h = absurd h
slot_page start contents tells size page (Some x) h = (h.0, h.1)

slot_sized : {X : Type 0} (start : X → ℕ) (contents : X → List (List ℕ)) (tells : Bool) (size page : ℕ)
    (o : Option X) → IsSlot start contents tells size page true o → IsTrue tells →
    length (page_held contents o) ≡ size
slot_sized start contents tells size page None h told = absurd h
slot_sized start contents tells size page (Some x) h told = h.2 told 0 [] (omega (arith, h.1))

filled_slot : {X : Type 0} (start : X → ℕ) (contents : X → List (List ℕ)) (tells : Bool) (size page : ℕ)
    (held : List (List ℕ)) (o : Option X) → length held ≡ 1 → IsSized tells size held →
    IsPageOf start contents page held o → IsSlot start contents tells size page true o
filled_slot start contents tells size page held None one sized h = absurd h
filled_slot start contents tells size page held (Some x) one sized h =
    (h.0, ap length h.1 ∙ one, λ told. subst (λ (ps : List (List ℕ)). AreOf size ps) (sym h.1) (sized told))

pub slot_moved : {X : Type 0} (start : X → ℕ) (contents : X → List (List ℕ)) (tells : Bool) (size page : ℕ)
    (b c : Bool) (o p : Option X) → c ≡ b → p ≡ o → IsSlot start contents tells size page b o →
    IsSlot start contents tells size page c p
slot_moved start contents tells size page b c o p e f h =
    subst (λ (x : Bool). IsSlot start contents tells size page x p) (sym e)
    (subst (λ (x : Option _). IsSlot start contents tells size page b x) (sym f) h)

free_slot : {X : Type 0} (start : X → ℕ) (contents : X → List (List ℕ)) (tells : Bool) (size first : ℕ)
    (free : List Bool) (slots : List (Option X)) (i : ℕ) → HoldsFree start contents tells size first free slots →
    IsTrue (has_page free i) → IsSlot start contents tells size (first + i) true (span_in slots i)
free_slot start contents tells size first free slots i h t =
    slot_moved start contents tells size (first + i) (has_page free i) true (span_in slots i) (span_in slots i)
    (sym t) refl (h.each i (page_within free i t))

pub row_of : {X : Type 0} (start : X → ℕ) (contents : X → List (List ℕ)) (tells : Bool) (size first : ℕ)
    (free : List Bool) (slots : List (Option X)) (at n : ℕ) → HoldsFree start contents tells size first free slots →
    HasRun free at n → IsRow start contents first slots at n
row_of start contents tells size first free slots at n h run = record {
  each = λ i from to. slot_page start contents tells size (first + i) (span_in slots i)
      (free_slot start contents tells size first free slots i h (run.each i from to));
}

run_sized : {X : Type 0} (start : X → ℕ) (contents : X → List (List ℕ)) (tells : Bool) (size first : ℕ)
    (free : List Bool) (slots : List (Option X)) (n at : ℕ) → HoldsFree start contents tells size first free slots →
    HasRun free at n → IsTrue tells → AreOf size (run at n (pages_held contents slots))
run_sized start contents tells size first free slots zero at h found told = All-nil (λ page. length page ≡ size)
run_sized start contents tells size first free slots (suc n) at h found told =
    let here : IsTrue (has_page free at) = found.each at (omega arith) (omega arith) in
    let within : at < length slots = omega (arith, page_within free at here, h.count) in
    subst (λ (ps : List (List ℕ)). AreOf size ps) (sym (run_held-more contents slots at n within))
    (All-cons (λ page. length page ≡ size) (page_held contents (span_in slots at)) (run (suc at) n (pages_held contents slots))
    (slot_sized start contents tells size (first + at) (span_in slots at)
    (free_slot start contents tells size first free slots at h here) told)
    (run_sized start contents tells size first free slots n (suc at) h
    (record { each = λ p from to. found.each p (omega arith) (omega arith) }) told))

pub sized_of : {X : Type 0} (start : X → ℕ) (contents : X → List (List ℕ)) (tells : Bool) (size first : ℕ)
    (free : List Bool) (slots : List (Option X)) (at n : ℕ) (pages : List (List ℕ)) →
    HoldsFree start contents tells size first free slots → HasRun free at n →
    pages ≡ run at n (pages_held contents slots) → IsSized tells size pages
sized_of start contents tells size first free slots at n pages h found e =
    λ told. subst (λ (ps : List (List ℕ)). AreOf size ps) (sym e)
    (run_sized start contents tells size first free slots n at h found told)

-- ---- soundness

still_in : (pages : List Bool) (at n p : ℕ) → at + n ≤ length pages →
    IsTrue (has_page (with_run pages at n false) p) → IsTrue (has_page pages p)
still_in pages at n p fits h = elim (cases_lt p at) [
  | inl below ↦ sym (with_run-below pages at n false p fits below) ∙ h
  | inr from ↦ elim (cases_lt p (at + n)) [
    | inl inside ↦ absurd (false≢true (sym (with_run-inside pages at n false p fits from inside) ∙ h))
    | inr above ↦ sym (with_run-above pages at n false p fits above) ∙ h
  ]
]

granted_nothing : (v : SpaceView) (at n : ℕ) → IsSpace v → at + n ≤ length v.free → (p : ℕ) →
    has_page (with_run v.free at n false) p ≡ false → get_or (with_pages v.held at (replicate n [])) p [] ≡ []
granted_nothing v at n s fits p used =
    let room : at + length (replicate {A = List ℕ} n []) ≤ length v.held = omega (arith, s.holds, length-replicate {A = List ℕ} n []) in
    elim (cases_lt p at) [
      | inl below ↦ with_pages-below v.held at (replicate n []) p room below
          ∙ s.nothing p (sym (with_run-below v.free at n false p fits below) ∙ used)
      | inr from ↦ elim (cases_lt p (at + n)) [
        | inl inside ↦ with_pages-inside v.held at (replicate n []) p room from (omega (
          arith,
          length-replicate {A = List ℕ} n [],
        )) ∙ nothing_at n (p - at)
        | inr above ↦ with_pages-above v.held at (replicate n []) p room (omega (
          arith,
          length-replicate {A = List ℕ} n [],
        )) ∙ s.nothing p (sym (with_run-above v.free at n false p fits above)
            ∙ used)
      ]
    ]

pub granted_sound : (v : SpaceView) (at n : ℕ) → IsSpace v → at + n ≤ length v.free → IsSpace (after_grant v at n)
granted_sound v at n s fits =
    let size : length (with_run v.free at n false) ≡ length v.free = length-with_run v.free at n false fits in
    record {
      order = s.order;
      order_low = s.order_low;
      order_high = s.order_high;
      size = size ∙ s.size;
      locks = s.locks ∙ sym size;
      holds = length-with_pages v.held at (replicate n [])
          (omega (arith, s.holds, length-replicate {A = List ℕ} n [])) ∙ s.holds ∙ sym size;
      nothing = granted_nothing v at n s fits;
      apart = λ p free locked. s.apart p (still_in v.free at n p fits free) locked;
      range = omega (arith, s.range);
      fits = omega (arith, s.fits);
    }

given_apart : (v : SpaceView) (at n : ℕ) → IsSpace v → at + n ≤ length v.free → (p : ℕ) →
    IsTrue (has_page (with_run v.free at n true) p) → IsTrue (has_page (with_run v.locked at n false) p) → ⊥
given_apart v at n s fits p free locked =
    let short : at + n ≤ length v.locked = omega (arith, s.locks) in
    elim (cases_lt p at) [
      | inl below ↦ s.apart p (sym (with_run-below v.free at n true p fits below) ∙ free)
          (sym (with_run-below v.locked at n false p short below) ∙ locked)
      | inr from ↦ elim (cases_lt p (at + n)) [
        | inl inside ↦ false≢true (sym (with_run-inside v.locked at n false p short from inside) ∙ locked)
        | inr above ↦ s.apart p (sym (with_run-above v.free at n true p fits above) ∙ free)
            (sym (with_run-above v.locked at n false p short above) ∙ locked)
      ]
    ]

given_nothing : (v : SpaceView) (at : ℕ) (pages : List (List ℕ)) → IsSpace v → at + length pages ≤ length v.free →
    (p : ℕ) → has_page (with_run v.free at (length pages) true) p ≡ false →
    get_or (with_pages v.held at pages) p [] ≡ []
given_nothing v at pages s fits p used =
    let room : at + length pages ≤ length v.held = omega (arith, s.holds) in
    elim (cases_lt p at) [
      | inl below ↦ with_pages-below v.held at pages p room below
          ∙ s.nothing p (sym (with_run-below v.free at (length pages) true p fits below) ∙ used)
      | inr from ↦ elim (cases_lt p (at + length pages)) [
        | inl inside ↦ absurd (false≢true (sym used ∙ with_run-inside v.free at (length pages) true p fits from inside))
        | inr above ↦ with_pages-above v.held at pages p room above
            ∙ s.nothing p (sym (with_run-above v.free at (length pages) true p fits above) ∙ used)
      ]
    ]

pub given_sound : (v : SpaceView) (at : ℕ) (pages : List (List ℕ)) → IsSpace v → at + length pages ≤ length v.free →
    IsSpace (after_give v at pages)
given_sound v at pages s fits =
    let size : length (with_run v.free at (length pages) true) ≡ length v.free = length-with_run v.free at (length pages) true fits in
    let locks : length (with_run v.locked at (length pages) false) ≡ length v.locked =
    length-with_run v.locked at (length pages) false (omega (arith, s.locks)) in
    record {
      order = s.order;
      order_low = s.order_low;
      order_high = s.order_high;
      size = size ∙ s.size;
      locks = locks ∙ s.locks ∙ sym size;
      holds = length-with_pages v.held at pages (omega (arith, s.holds)) ∙ s.holds ∙ sym size;
      nothing = given_nothing v at pages s fits;
      apart = given_apart v at (length pages) s fits;
      range = omega (arith, s.range);
      fits = omega (arith, s.fits);
    }

locked_apart : (v : SpaceView) (at n : ℕ) → IsSpace v → at + n ≤ length v.free → (p : ℕ) →
    IsTrue (has_page v.free p) → IsTrue (has_page (locked_with v.free v.locked at n) p) → ⊥
locked_apart v at n s fits p free locked = elim (cases_lt p at) [
  | inl below ↦ s.apart p free (sym (locked_with-below v.free v.locked at n p fits s.locks below) ∙ locked)
  | inr from ↦ elim (cases_lt p (at + n)) [
    | inl inside ↦ elim (or_cases (has_page v.locked p) (not (has_page v.free p))
        (sym (locked_with-inside v.free v.locked at n p fits s.locks from inside) ∙ locked)) [
          | inl l ↦ s.apart p free l
          | inr f ↦ false≢true (sym (ap not free) ∙ f)
        ]
    | inr above ↦ s.apart p free (sym (locked_with-above v.free v.locked at n p fits s.locks above) ∙ locked)
  ]
]

pub locked_sound : (v : SpaceView) (at n : ℕ) → IsSpace v → at + n ≤ length v.free → IsSpace (after_lock v at n)
locked_sound v at n s fits = record {
  order = s.order;
  order_low = s.order_low;
  order_high = s.order_high;
  size = s.size;
  locks = length-locked_with v.free v.locked at n fits s.locks ∙ s.locks;
  holds = s.holds;
  nothing = s.nothing;
  apart = locked_apart v at n s fits;
  range = s.range;
  fits = s.fits;
}

pub unlocked_sound : (v : SpaceView) (at n : ℕ) → IsSpace v → at + n ≤ length v.free → IsSpace (after_unlock v at n)
unlocked_sound v at n s fits =
    let short : at + n ≤ length v.locked = omega (arith, s.locks) in
    record {
      order = s.order;
      order_low = s.order_low;
      order_high = s.order_high;
      size = s.size;
      locks = length-with_run v.locked at n false short ∙ s.locks;
      holds = s.holds;
      nothing = s.nothing;
      apart = λ p free locked. s.apart p free (still_in v.locked at n p short locked);
      range = s.range;
      fits = s.fits;
    }

-- ---- the spans

pub granted_whole : {X : Type 0} (start : X → ℕ) (contents : X → List (List ℕ)) (tells : Bool) (v : SpaceView)
    (old new : List (Option X)) (at n : ℕ) → OwnsFree start contents tells v old → at + n ≤ length v.free →
    IsEmptied new at n → KeepsSlots old new at n → OwnsFree start contents tells (after_grant v at n) new
granted_whole start contents tells v old new at n w fits emptied others = record {
  sound = granted_sound v at n w.sound fits;
  holds = record {
    count = others.size ∙ w.holds.count ∙ sym (length-with_run v.free at n false fits);
    each = λ p less. elim (cases_lt p at) [
      | inl below ↦ slot_moved start contents tells v.page (v.first + p) (has_page v.free p)
          (has_page (with_run v.free at n false) p) (span_in old p) (span_in new p)
          (with_run-below v.free at n false p fits below) (others.before p below) (w.holds.each p (omega arith))
      | inr from ↦ elim (cases_lt p (at + n)) [
        | inl inside ↦ slot_moved start contents tells v.page (v.first + p) false
            (has_page (with_run v.free at n false) p) None (span_in new p)
            (with_run-inside v.free at n false p fits from inside) (emptied.each p from inside) tt
        | inr above ↦ slot_moved start contents tells v.page (v.first + p) (has_page v.free p)
            (has_page (with_run v.free at n false) p) (span_in old p) (span_in new p)
            (with_run-above v.free at n false p fits above) (others.behind p above)
            (w.holds.each p (omega (arith, length-with_run v.free at n false fits)))
      ]
    ];
  };
  told = ap (λ (held : List (List ℕ)). with_pages held at (replicate n [])) w.told
      ∙ emptied_held contents old new at n (omega (arith, w.holds.count)) emptied others;
}

pub filled_at : {X : Type 0} (start : X → ℕ) (contents : X → List (List ℕ)) (tells : Bool) (size first at p : ℕ)
    (pages : List (List ℕ)) (slots : List (Option X)) → at ≤ p → p < at + length pages → IsSized tells size pages →
    AreSpread start contents (first + at) pages slots at (length pages) →
    IsSlot start contents tells size (first + p) true (span_in slots p)
filled_at start contents tells size first at p pages slots from to sized filled =
    let i : ℕ = p - at in
    let here : at + (p - at) ≡ p = omega arith in
    let number : first + at + (p - at) ≡ first + p = omega arith in
    let one : length (take 1 (drop (p - at) pages)) ≡ 1 = omega (arith, length-take 1 (drop (p - at) pages), length-drop (p - at) pages) in
    let slot = filled_slot start contents tells size (first + at + (p - at)) (take 1 (drop (p - at) pages))
    (span_in slots (at + (p - at))) one
    (λ told. All-take (λ page. length page ≡ size) 1 (drop (p - at) pages)
    (All-drop (λ page. length page ≡ size) (p - at) pages (sized told)))
    (filled.each (p - at) (omega arith)) in
    subst (λ (k : ℕ). IsSlot start contents tells size (first + p) true (span_in slots k)) here
    (subst (λ (k : ℕ). IsSlot start contents tells size k true (span_in slots (at + (p - at)))) number slot)

pub given_whole : {X : Type 0} (start : X → ℕ) (contents : X → List (List ℕ)) (tells : Bool) (v : SpaceView)
    (old new : List (Option X)) (at : ℕ) (pages : List (List ℕ)) → OwnsFree start contents tells v old →
    at + length pages ≤ length v.free → IsSized tells v.page pages →
    AreSpread start contents (v.first + at) pages new at (length pages) → KeepsSlots old new at (length pages) →
    OwnsFree start contents tells (after_give v at pages) new
given_whole start contents tells v old new at pages w fits sized filled others = record {
  sound = given_sound v at pages w.sound fits;
  holds = record {
    count = others.size ∙ w.holds.count ∙ sym (length-with_run v.free at (length pages) true fits);
    each = λ p less. elim (cases_lt p at) [
      | inl below ↦ slot_moved start contents tells v.page (v.first + p) (has_page v.free p)
          (has_page (with_run v.free at (length pages) true) p) (span_in old p) (span_in new p)
          (with_run-below v.free at (length pages) true p fits below) (others.before p below)
          (w.holds.each p (omega arith))
      | inr from ↦ elim (cases_lt p (at + length pages)) [
        | inl inside ↦ slot_moved start contents tells v.page (v.first + p) true
            (has_page (with_run v.free at (length pages) true) p) (span_in new p) (span_in new p)
            (with_run-inside v.free at (length pages) true p fits from inside) refl
            (filled_at start contents tells v.page v.first at p pages new from inside sized filled)
        | inr above ↦ slot_moved start contents tells v.page (v.first + p) (has_page v.free p)
            (has_page (with_run v.free at (length pages) true) p) (span_in old p) (span_in new p)
            (with_run-above v.free at (length pages) true p fits above) (others.behind p above)
            (w.holds.each p (omega (arith, length-with_run v.free at (length pages) true fits)))
      ]
    ];
  };
  told = ap (λ (held : List (List ℕ)). with_pages held at pages) w.told
      ∙ filled_held start contents (v.first + at) old new at pages (omega (arith, w.holds.count)) filled others;
}

pub locked_whole : {X : Type 0} (start : X → ℕ) (contents : X → List (List ℕ)) (tells : Bool) (v : SpaceView)
    (slots : List (Option X)) (at n : ℕ) → OwnsFree start contents tells v slots → at + n ≤ length v.free →
    OwnsFree start contents tells (after_lock v at n) slots
locked_whole start contents tells v slots at n w fits = record { sound = locked_sound v at n w.sound fits; holds = w.holds; told = w.told }

pub unlocked_whole : {X : Type 0} (start : X → ℕ) (contents : X → List (List ℕ)) (tells : Bool) (v : SpaceView)
    (slots : List (Option X)) (at n : ℕ) → OwnsFree start contents tells v slots → at + n ≤ length v.free →
    OwnsFree start contents tells (after_unlock v at n) slots
unlocked_whole start contents tells v slots at n w fits =
    record { sound = unlocked_sound v at n w.sound fits; holds = w.holds; told = w.told }
