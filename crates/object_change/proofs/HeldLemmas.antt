-- What is held: spans that come one after another, what is written on them, and pages for nodes.
use Rattle.std.proofs.Common.{◌≡◌, ℕ, ◌+◌, ◌<◌, ◌≤◌, ◌==◌, ◌||◌, Bool, true, false, IsTrue, List, [], ◌∷◌, ◌++◌, map}
use Rattle.std.proofs.Common.{Option, None, refl, sym, ap, subst, arith, ◌∙◌, inl, inr, ◌-◌}
use Rattle.std.specs.Prelude.{is_some, if◌then◌else◌}
use Rattle.std.specs.List.{AllByRecursion}
use Rattle.std.proofs.lemmas.Bool.{cases_Bool, cases_lt, eq-eqb}
use Rattle.base_laws.proofs.ListLaws.{all-append, all-map}
use Rattle.layout_model.specs.declared.extent.Extent.{Extent}
use Rattle.moment_model.specs.Version.{uses, spare_uses}
use Rattle.moment_laws.specs.Granting.{page_run}
use Rattle.moment_laws.proofs.GrantLemmas.{uses-append}
use Rattle.page_set.specs.declared.page_run.PageRun.{PageRun}
use Rattle.span_store.specs.Held.{Held, HeldSpan, begins, has, page_at}
use Rattle.part_bytes.specs.Runs.{ChangesRuns}
use Rattle.tree_splice.specs.Fresh.{is_on_pages}
use Rattle.tree_splice.specs.Splice.{HoldsNew, firsts_of}
use Rattle.give_back.specs.Giving.{IsOwnRun, is_in_runs}
use Rattle.held_parts.specs.Holding.{HoldsGranted, begins_one}
use Rattle.give_back.proofs.UsesLemmas.{in-append, in-none}
use Rattle.held_parts.proofs.HeldLemmas.{none-some}
use Rattle.object_change.proofs.PageLemmas.{begins-append, begins-pages}
use Rattle.give_back.proofs.UsesLemmas.{in-some, none-in}
use Rattle.give_back.proofs.LetGoLemmas.{free-both}
use Rattle.object_change.proofs.PageLemmas.{in-pages}

-- ---- what is written on runs that are held

pub granted-written : (used : Option Extent) (granted written : List Extent) (told : Bool) (size : ℕ) (old mid new : Held) →
    HoldsGranted None granted old mid → ChangesRuns told size written mid new →
    ((q : ℕ) → uses q granted ≡ 0 → spare_uses q used ≡ 0 → uses q written ≡ 0) → HoldsGranted used granted old new
granted-written used granted written told size old mid new holds changes where_to = record {
  once = holds.once;
  lacked = holds.lacked;
  had = λ q. changes.held q ∙ holds.had q;
  others = λ q out off. changes.others q (where_to q out off) ∙ holds.others q out refl;
  begun = λ q. changes.begun q ∙ holds.begun q;
  own = all-map (IsOwnRun mid) (IsOwnRun new)
      (λ run own. record {
        some = own.some;
        holds = λ q from to. changes.held q ∙ own.holds q from to;
        from = changes.begun run.page ∙ own.from;
        to = λ there. changes.begun (run.page + run.pages) ∙ own.to (sym (changes.held (run.page + run.pages)) ∙ there);
      }) granted holds.own;
}

-- what is held in the same spans
pub granted-same : (used : Option Extent) (granted : List Extent) (old mid new : Held) → new.spans ≡ mid.spans →
    HoldsGranted used granted old mid → HoldsGranted used granted old new
granted-same used granted old mid new same holds =
    let page : (q : ℕ) → page_at new q ≡ page_at mid q = λ q. ap (λ (ss : List HeldSpan). page_at (record { spans = ss; room = 0 }) q)
    same in
    let there : (q : ℕ) → has new q ≡ has mid q = λ q. ap is_some (page q) in
    let border : (q : ℕ) → begins new q ≡ begins mid q = λ q. ap (λ (ss : List HeldSpan). begins (record { spans = ss; room = 0 }) q)
    same in
    record {
      once = holds.once;
      lacked = holds.lacked;
      had = λ q. there q ∙ holds.had q;
      others = λ q out off. page q ∙ holds.others q out off;
      begun = λ q. border q ∙ holds.begun q;
      own = all-map (IsOwnRun mid) (IsOwnRun new)
          (λ run own. record {
            some = own.some;
            holds = λ q from to. there q ∙ own.holds q from to;
            from = border run.page ∙ own.from;
            to = λ held. border (run.page + run.pages) ∙ own.to (sym (there (run.page + run.pages)) ∙ held);
          }) granted holds.own;
    }

-- ---- pages for nodes

-- a page of the made ones is held from then on, all others as before
made-has : (made : List PageRun) (mid new : Held) (q : ℕ) → HoldsNew made mid new →
    has new q ≡ (is_on_pages q (firsts_of made) || has mid q)
made-has made mid new q holds = elim (cases_Bool (is_on_pages q (firsts_of made))) [
  | inl there ↦ holds.held q there ∙ sym (ap (λ (b : Bool). b || has mid q) there)
  | inr not_there ↦ ap is_some (holds.others q not_there) ∙ sym (ap (λ (b : Bool). b || has mid q) not_there)
]

-- a run of its own stays one beside new pages
own-made : (made : List PageRun) (mid new : Held) (run : Extent) → HoldsNew made mid new → IsOwnRun mid run → IsOwnRun new run
own-made made mid new run holds own = record {
  some = own.some;
  holds = λ q from to. kept q (own.holds q from to);
  from = holds.begun run.page ∙ (ap (λ (b : Bool). is_on_pages run.page (firsts_of made) || b) own.from
      ∙ or-true (is_on_pages run.page (firsts_of made)));
  to = λ there. elim (cases_Bool (is_on_pages (run.page + run.pages) (firsts_of made))) [
    | inl made_there ↦ holds.begun (run.page + run.pages)
        ∙ ap (λ (b : Bool). b || begins mid (run.page + run.pages)) made_there
    | inr not_made ↦
        (let held = sym (ap is_some (holds.others (run.page + run.pages) not_made)) ∙ there in
        holds.begun (run.page + run.pages)
        ∙ (ap (λ (b : Bool). is_on_pages (run.page + run.pages) (firsts_of made) || b) (own.to held)
        ∙ or-true (is_on_pages (run.page + run.pages) (firsts_of made))))
  ];
} where
  or-true : (b : Bool) → (b || true) ≡ true
  or-true true = refl
  or-true false = refl

  kept : (q : ℕ) → IsTrue (has mid q) → IsTrue (has new q)
  kept q held = made-has made mid new q holds ∙ (ap (λ (b : Bool). is_on_pages q (firsts_of made) || b) held
      ∙ or-true (is_on_pages q (firsts_of made)))

-- each made page is a run of its own
pages-own : (made : List PageRun) (mid new : Held) → HoldsNew made mid new → (pages : List ℕ) →
    ((q : ℕ) → is_on_pages q pages ≡ true → is_on_pages q (firsts_of made) ≡ true) → AllByRecursion (IsOwnRun new) (map page_run pages)
pages-own made mid new holds [] among = tt
pages-own made mid new holds (page ∷ pages) among =
    let here = among page (ap (λ (b : Bool). b || is_on_pages page pages) (eq-eqb page page refl)) in (
      record {
        some = omega arith;
        holds = λ q from to. (let same : page ≡ q = omega (arith, from, to) in
            subst (λ (k : ℕ). IsTrue (has new k)) same (holds.held page here));
        from = holds.begun page ∙ ap (λ (b : Bool). b || begins mid page) here;
        to = λ there. holds.next page here there;
      },
      pages-own made mid new holds pages
          (λ q there. among q (ap (λ (b : Bool). (page == q) || b) there ∙ or-true (page == q))),
    )
  where
    or-true : (b : Bool) → (b || true) ≡ true
    or-true true = refl
    or-true false = refl

pub granted-made : (used : Option Extent) (granted : List Extent) (made : List PageRun) (old mid new : Held) →
    HoldsGranted used granted old mid → HoldsNew made mid new → ((q : ℕ) → uses q (map page_run (firsts_of made)) ≤ 1) →
    HoldsGranted used (granted ++ map page_run (firsts_of made)) old new
granted-made used granted made old mid new holds news once =
    let pages = firsts_of made in
    let nodes = map page_run pages in
    let free : (q : ℕ) → 0 < uses q nodes → has mid q ≡ false = λ q some.
    ap is_some (news.fresh q (sym (in-pages q pages) ∙ in-some q nodes some)) in
    record {
      once = λ q. elim (cases_lt 0 (uses q nodes)) [
        | inl here ↦
            let out = or-left (is_in_runs granted q) (has old q) (sym (holds.had q) ∙ free q here) in
            omega (arith, uses-append q granted nodes, none-in q granted out, once q)
        | inr none ↦ omega (arith, uses-append q granted nodes, none, holds.once q)
      ];
      lacked = λ q some. elim (cases_lt 0 (uses q nodes)) [
        | inl here ↦ none-some (page_at old q) (or-right (is_in_runs granted q) (has old q) (sym (holds.had q) ∙ free q here))
        | inr none ↦ holds.lacked q (omega (arith, uses-append q granted nodes, none, some))
      ];
      had = λ q.
          made-has made mid new q news
          ∙ (ap (λ (b : Bool). b || has mid q) (sym (in-pages q pages))
          ∙ (ap (λ (b : Bool). is_in_runs nodes q || b) (holds.had q)
          ∙ (free-both (is_in_runs granted q) (is_in_runs nodes q) (has old q)
          ∙ ap (λ (b : Bool). b || has old q) (sym (in-append q granted nodes)))));
      others = λ q out off.
          let parts = uses-append q granted nodes in
          let none : uses q nodes ≡ 0 = omega (arith, parts, out) in
          news.others q (sym (in-pages q pages) ∙ in-none q nodes none) ∙ holds.others q (omega (arith, parts, out)) off;
      begun = λ q.
          news.begun q
          ∙ (ap (λ (b : Bool). b || begins mid q) (sym (begins-pages q pages))
          ∙ (ap (λ (b : Bool). begins_one nodes q || b) (holds.begun q)
          ∙ (free-both (begins_one granted q) (begins_one nodes q) (begins old q)
          ∙ ap (λ (b : Bool). b || begins old q) (sym (begins-append q granted nodes)))));
      own = all-append (IsOwnRun new) granted nodes
          (all-map (IsOwnRun mid) (IsOwnRun new) (λ run own. own-made made mid new run news own) granted holds.own)
          (pages-own made mid new news pages (λ q there. there));
    }
  where
    or-left : (a b : Bool) → (a || b) ≡ false → a ≡ false
    or-left true b none = absurd cc
    or-left false b none = refl

    or-right : (a b : Bool) → (a || b) ≡ false → b ≡ false
    or-right true b none = absurd cc
    or-right false b none = none
