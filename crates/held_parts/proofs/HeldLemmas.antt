-- What is held: spans that come one after another, what is written on them, and pages for nodes.
use Rattle.std.proofs.Common.{◌≡◌, ℕ, ◌+◌, ◌<◌, ◌≤◌, ◌==◌, ◌||◌, Bool, true, false, IsTrue, List, [], ◌∷◌, ◌++◌, length}
use Rattle.std.proofs.Common.{Option, Some, None, refl, sym, ap, subst, arith, ◌∙◌, inl, inr, ◌⊎◌, ◌-◌, append_assoc}
use Rattle.std.proofs.lemmas.List.{append-nil}
use Rattle.std.specs.Prelude.{is_some, nat_lt, if◌then◌else◌}
use Rattle.std.specs.List.{AllByRecursion}
use Rattle.std.specs.Option.{option_or}
use Rattle.std.proofs.lemmas.Bool.{cases_Bool, cases_lt, eq-eqb, eqb-true, false≢true, lt-ltb}
use Rattle.base_laws.proofs.ListLaws.{all-map}
use Rattle.base_laws.proofs.BoolLaws.{or-assoc}
use Rattle.layout_model.specs.declared.extent.Extent.{Extent}
use Rattle.moment_model.specs.Version.{covers, uses}
use Rattle.page_cache.specs.Kept.{is_on_run}
use Rattle.span_store.specs.Held.{Held, HeldSpan, LacksRun, begins, has, page_at, page_of, span_of}
use Rattle.span_store.specs.Calls.{IsAdded}
use Rattle.span_store.proofs.SpanLists.{page_of-before, page_of-behind}
use Rattle.superdirectory.specs.Parts.{extents}
use Rattle.tree_splice.proofs.FreshLemmas.{gap-begins}
use Rattle.give_back.specs.Giving.{IsLeft, IsOwnRun, is_in_runs}
use Rattle.held_parts.specs.Asking.{AreHeldLast}
use Rattle.held_parts.specs.Holding.{HoldsGranted, HoldsSame, begins_one}
use Rattle.give_back.proofs.LeftLemmas.{left-has, span-has}
use Rattle.give_back.proofs.UsesLemmas.{covers-few, covers-off, in-cons, in-none}
use Rattle.give_back.proofs.UsesLemmas.{none-in, on-covers}
use Rattle.moment_laws.proofs.GrantLemmas.{uses-cons, covers-on}

-- ---- nothing yet

pub granted-none : (held : Held) → HoldsGranted None [] held held
granted-none held = record {
  once = λ q. omega arith;
  lacked = λ q some. absurd (omega (arith, some));
  had = λ q. refl;
  others = λ q out off. refl;
  begun = λ q. refl;
  own = tt;
}

-- what is held was held in other room
pub granted-spans : (spare : Option Extent) (runs : List Extent) (old mid new : Held) → mid.spans ≡ old.spans →
    HoldsGranted spare runs mid new → HoldsGranted spare runs old new
granted-spans spare runs old mid new same granted =
    let page : (q : ℕ) → page_at mid q ≡ page_at old q = λ q. ap (λ (ss : List HeldSpan). page_at (record { spans = ss; room = 0 }) q)
    same in
    let border : (q : ℕ) → begins mid q ≡ begins old q = λ q. ap (λ (ss : List HeldSpan). begins (record { spans = ss; room = 0 }) q)
    same in
    record {
      once = granted.once;
      lacked = λ q some. sym (page q) ∙ granted.lacked q some;
      had = λ q. granted.had q ∙ ap (λ (o : Option (List ℕ)). is_in_runs runs q || is_some o) (page q);
      others = λ q out off. granted.others q out off ∙ page q;
      begun = λ q. granted.begun q ∙ ap (λ (b : Bool). begins_one runs q || b) (border q);
      own = granted.own;
    }

-- ---- one span more

or-none : (a b : Option (List ℕ)) → a ≡ None → option_or a b ≡ b
or-none a b none = ap (λ (o : Option (List ℕ)). option_or o b) none

or-has : (a b : Option (List ℕ)) → is_some (option_or a b) ≡ (is_some a || is_some b)
or-has None b = refl
or-has (Some x) b = refl

pub none-some : (o : Option (List ℕ)) → is_some o ≡ false → o ≡ None
none-some None none = refl
none-some (Some x) none = absurd cc

-- what comes behind a page that nobody had begins a span, where it is held
run-own : (s : HeldSpan) (mid new : Held) → 1 ≤ length s.pages → LacksRun mid s.first (length s.pages) → IsAdded s mid new →
    IsOwnRun new (record { page = s.first; pages = length s.pages })
run-own s mid new some lacks added =
    let k = length s.pages in
    let last = s.first + k in
    record {
      some = some;
      holds = λ q from to.
          ap is_some (added.pages q) ∙ (or-has (page_of s q) (page_at mid q)
          ∙ ap (λ (b : Bool). b || has mid q) (span-has s q ∙ in-run q from to));
      from = added.begun s.first ∙ ap (λ (b : Bool). b || begins mid s.first) (eq-eqb s.first s.first refl);
      to = λ there.
          let out : page_of s last ≡ None = page_of-behind s last (omega arith) in
          let held : IsTrue (has mid last) = sym (ap is_some (added.pages last ∙ or-none (page_of s last) (page_at mid last) out))
          ∙ there in
          let before : s.first + (k - 1) + 1 ≡ last = omega (arith, some) in
          let gap = gap-begins mid.spans (s.first + (k - 1)) (lacks (s.first + (k - 1)) (omega arith) (omega (arith, some)))
          (subst (λ (q : ℕ). IsTrue (has mid q)) (sym before) held) in
          added.begun last
          ∙ (ap (λ (b : Bool). (s.first == last) || b) (subst (λ (q : ℕ). IsTrue (begins mid q)) before gap) ∙ or-true (s.first == last));
    }
  where
    or-true : (b : Bool) → (b || true) ≡ true
    or-true true = refl
    or-true false = refl

    in-run : (q : ℕ) → s.first ≤ q → q < s.first + length s.pages → is_on_run s.first (length s.pages) q ≡ true
    in-run q from to = on-covers q (record { page = s.first; pages = length s.pages })
        ∙ ap (nat_lt 0) (covers-on q (record { page = s.first; pages = length s.pages }) from to)

-- a run of its own stays one where a span comes that shares no page with it
own-added : (s : HeldSpan) (mid new : Held) (run : Extent) → IsAdded s mid new → LacksRun mid s.first (length s.pages) →
    IsOwnRun mid run → IsOwnRun new run
own-added s mid new run added lacks own = record {
  some = own.some;
  holds = λ q from to.
      ap is_some (added.pages q) ∙ (or-has (page_of s q) (page_at mid q)
      ∙ (ap (λ (b : Bool). is_some (page_of s q) || b) (own.holds q from to) ∙ or-true (is_some (page_of s q))));
  from = begun-too run.page own.from;
  to = λ there. go (cases_Bool (has mid (run.page + run.pages))) there;
} where
  or-true : (b : Bool) → (b || true) ≡ true
  or-true true = refl
  or-true false = refl

  begun-too : (q : ℕ) → IsTrue (begins mid q) → IsTrue (begins new q)
  begun-too q begun = added.begun q ∙ (ap (λ (b : Bool). (s.first == q) || b) begun ∙ or-true (s.first == q))

  last : ℕ
  last = run.page + run.pages

  -- where the page behind came with the span, the span begins there: the one before it was held
  go : (has mid last ≡ true) ⊎ (has mid last ≡ false) → IsTrue (has new last) → IsTrue (begins new last)
  go (inl held) there = begun-too last (own.to held)
  go (inr free) there = elim (cases_lt s.first last) [
    | inr from ↦ elim (cases_lt last s.first) [
      | inl before ↦
          let out : page_of s last ≡ None = page_of-before s last before in
          let held = sym (ap is_some (added.pages last ∙ or-none (page_of s last) (page_at mid last) out)) ∙ there in
          absurd (false≢true (sym free ∙ held))
      | inr same ↦
          let is : s.first ≡ last = omega (arith, from, same) in
          added.begun last ∙ ap (λ (b : Bool). b || begins mid last) (eq-eqb s.first last is)
    ]
    | inl inside ↦ elim (cases_lt last (s.first + length s.pages)) [
      | inl to ↦
          let before = run.page + (run.pages - 1) in
          let held = own.holds before (omega arith) (omega (arith, own.some)) in
          let none = lacks before (omega (arith, inside, own.some)) (omega (arith, to, own.some)) in
          absurd (false≢true (sym (ap is_some none) ∙ held))
      | inr past ↦
          let out : page_of s last ≡ None = page_of-behind s last past in
          let held = sym (ap is_some (added.pages last ∙ or-none (page_of s last) (page_at mid last) out)) ∙ there in
          absurd (false≢true (sym free ∙ held))
    ]
  ]

-- the run of a span
abbrev pub run_of : HeldSpan → Extent
run_of s = record { page = s.first; pages = length s.pages }

pub granted-more : (s : HeldSpan) (runs : List Extent) (old mid new : Held) → 1 ≤ length s.pages → HoldsGranted None runs old mid →
    LacksRun mid s.first (length s.pages) → IsAdded s mid new → HoldsGranted None (run_of s ∷ runs) old new
granted-more s runs old mid new some granted lacks added =
    let run = run_of s in
    let none : (q : ℕ) → 0 < covers q run → has mid q ≡ false = λ q there. go-none q there (cases_lt q s.first) in
    record {
      once = λ q. elim (cases_lt 0 (covers q run)) [
        | inl there ↦
            let off = granted.had q in
            let out : is_in_runs runs q ≡ false = or-left (is_in_runs runs q) (has old q) (sym off ∙ none q there) in
            let few = covers-few q run in
            let zero_is = none-in q runs out in
            omega (arith, uses-cons q run runs, few, zero_is)
        | inr off ↦ omega (arith, uses-cons q run runs, off, granted.once q)
      ];
      lacked = λ q there. elim (cases_lt 0 (covers q run)) [
        | inl here ↦ none-some (page_at old q) (or-right (is_in_runs runs q) (has old q) (sym (granted.had q) ∙ none q here))
        | inr off ↦ granted.lacked q (omega (arith, uses-cons q run runs, off, there))
      ];
      had = λ q.
          ap is_some (added.pages q) ∙ (or-has (page_of s q) (page_at mid q)
          ∙ (ap (λ (b : Bool). b || has mid q) (span-has s q)
          ∙ (ap (λ (b : Bool). is_on_run s.first (length s.pages) q || b) (granted.had q)
          ∙ (or-assoc (is_on_run s.first (length s.pages) q) (is_in_runs runs q) (has old q)
          ∙ ap (λ (b : Bool). b || has old q) (sym (in-cons q run runs))))));
      others = λ q out off.
          let parts = uses-cons q run runs in
          let here : covers q run ≡ 0 = omega (arith, out, parts) in
          added.pages q ∙ (or-none (page_of s q) (page_at mid q) (none-some (page_of s q) (span-has s q ∙ covers-off q run here))
          ∙ granted.others q (omega (arith, out, parts)) off);
      begun = λ q.
          added.begun q ∙ (ap (λ (b : Bool). (s.first == q) || b) (granted.begun q)
          ∙ or-assoc (s.first == q) (begins_one runs q) (begins old q));
      own = (
        run-own s mid new some lacks added,
        all-map (IsOwnRun mid) (IsOwnRun new) (λ r own. own-added s mid new r added lacks own) runs granted.own,
      );
    }
  where
    or-left : (a b : Bool) → (a || b) ≡ false → a ≡ false
    or-left true b none = absurd cc
    or-left false b none = refl

    or-right : (a b : Bool) → (a || b) ≡ false → b ≡ false
    or-right true b none = absurd cc
    or-right false b none = none

    go-none : (q : ℕ) → 0 < covers q (run_of s) → (q < s.first) ⊎ (s.first ≤ q) → has mid q ≡ false
    go-none q there (inl before) =
        (let off = on-covers q (run_of s) in
        let test : is_some (page_of s q) ≡ false = ap is_some (page_of-before s q before) in
        let bad = sym (span-has s q ∙ off) ∙ test in
        absurd (false≢true (sym bad ∙ lt-ltb 0 (covers q (run_of s)) there)))
    go-none q there (inr from) = elim (cases_lt q (s.first + length s.pages)) [
      | inl to ↦ ap is_some (lacks q from to)
      | inr past ↦
          (let off = on-covers q (run_of s) in
          let test : is_some (page_of s q) ≡ false = ap is_some (page_of-behind s q past) in
          let bad = sym (span-has s q ∙ off) ∙ test in
          absurd (false≢true (sym bad ∙ lt-ltb 0 (covers q (run_of s)) there)))
    ]

-- ---- spans that are popped and held, the last first

pub held_last-none : {A : Type 0} (first : A → ℕ) (pages : A → List (List ℕ)) (had : List A) (held : Held) →
    AreHeldLast first pages had had held held
held_last-none {A} first pages had held = record { done = []; parts = sym (append-nil had); held = granted-none held }

pub held_last-more : {A : Type 0} (first : A → ℕ) (pages : A → List (List ℕ)) (had has left : List A) (x : A) (old mid new : Held) →
    has ≡ left ++ x ∷ [] → 1 ≤ length (pages x) → AreHeldLast first pages had has old mid →
    LacksRun mid (first x) (length (pages x)) → IsAdded (span_of first pages x) mid new → AreHeldLast first pages had left old new
held_last-more {A} first pages had has left x old mid new popped some last lacks added = record {
  done = x ∷ last.done;
  parts = last.parts ∙ (ap (λ (xs : List A). xs ++ last.done) popped ∙ append_assoc left (x ∷ []) last.done);
  held = granted-more (span_of first pages x) (extents first pages last.done) old mid new some last.held lacks added;
}

-- ---- what was granted is given back

pub same-none : (old : Held) → HoldsSame None old old
same-none old = record { others = λ q off. refl; had = λ q. refl; begun = λ q there. refl }

pub same-spans : (spare : Option Extent) (old new : Held) → new.spans ≡ old.spans → HoldsSame spare old new
same-spans spare old new same =
    let page : (q : ℕ) → page_at new q ≡ page_at old q = λ q. ap (λ (ss : List HeldSpan). page_at (record { spans = ss; room = 0 }) q)
    same in
    record {
      others = λ q off. page q;
      had = λ q. ap is_some (page q);
      begun = λ q there. ap (λ (ss : List HeldSpan). begins (record { spans = ss; room = 0 }) q) same;
    }

-- what is held was held in other room
pub same-from : (spare : Option Extent) (old mid new : Held) → mid.spans ≡ old.spans → HoldsSame spare mid new → HoldsSame spare old new
same-from spare old mid new room same =
    let first = same-spans spare old mid room in
    record {
      others = λ q off. same.others q off ∙ first.others q off;
      had = λ q. same.had q ∙ first.had q;
      begun = λ q there. same.begun q (first.had q ∙ there) ∙ first.begun q there;
    }

-- no run of them begins at a page that was held
not-begun : (runs : List Extent) (now : Held) (q : ℕ) → AllByRecursion (IsOwnRun now) runs → uses q runs ≡ 0 → begins_one runs q ≡ false
not-begun [] now q own none = refl
not-begun (run ∷ runs) now q own none = elim (cases_Bool (run.page == q)) [
  | inr other ↦ ap (λ (b : Bool). b || begins_one runs q) other
      ∙ not-begun runs now q own.1 (omega (arith, uses-cons q run runs, none))
  | inl same ↦
      let is : run.page ≡ q = eqb-true run.page q same in
      let one = covers-on q run (omega (arith, is)) (omega (arith, is, own.0.some)) in
      absurd (omega (arith, uses-cons q run runs, one, none))
]

pub same-left : (used : Option Extent) (granted : List Extent) (old mid new : Held) → HoldsGranted used granted old mid →
    IsLeft (is_in_runs granted) mid new → HoldsSame used old new
same-left used granted old mid new holds left =
    record {
      others = λ q off. elim (cases_Bool (is_in_runs granted q)) [
        | inl there ↦ left.pages q ∙ (ap (λ (b : Bool). if b then None else page_at mid q) there
            ∙ sym (holds.lacked q (some-of q there)))
        | inr out ↦ left.pages q ∙ (ap (λ (b : Bool). if b then None else page_at mid q) out
            ∙ holds.others q (none-in q granted out) off)
      ];
      had = λ q. left-has (is_in_runs granted) mid new q left ∙ (ap (λ (b : Bool). if is_in_runs granted q then false else b) (holds.had q)
          ∙ go q (cases_Bool (is_in_runs granted q)));
      begun = λ q there.
          let out = off-held q there in
          left.begun q out ∙ (holds.begun q
          ∙ ap (λ (b : Bool). b || begins old q) (not-begun granted mid q holds.own (none-in q granted out)));
    }
  where
    some-of : (q : ℕ) → is_in_runs granted q ≡ true → 0 < uses q granted
    some-of q there = elim (cases_lt 0 (uses q granted)) [
      | inl some ↦ some
      | inr few ↦ absurd (false≢true (sym (in-none q granted (omega (arith, few))) ∙ there))
    ]

    -- a page that was held is none of them
    off-held : (q : ℕ) → IsTrue (has old q) → is_in_runs granted q ≡ false
    off-held q there = elim (cases_Bool (is_in_runs granted q)) [
      | inr out ↦ out
      | inl within ↦ absurd (false≢true (sym (ap is_some (holds.lacked q (some-of q within))) ∙ there))
    ]

    go : (q : ℕ) → (is_in_runs granted q ≡ true) ⊎ (is_in_runs granted q ≡ false) →
        (if is_in_runs granted q then false else (is_in_runs granted q || has old q)) ≡ has old q
    go q (inl there) =
        ap (λ (b : Bool). if b then false else (b || has old q)) there ∙ sym (ap is_some (holds.lacked q (some-of q there)))
    go q (inr out) = ap (λ (b : Bool). if b then false else (b || has old q)) out

-- after a refusal that wrote on nothing but the spare
pub same-used : (used : Option Extent) (old new : Held) → HoldsSame None old new → HoldsSame used old new
same-used used old new same = record { others = λ q off. same.others q refl; had = same.had; begun = same.begun }
