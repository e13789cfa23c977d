-- Runs of pages that are given back one after another.
use Rattle.std.proofs.Common.{◌≡◌, ℕ, ◌+◌, ◌-◌, ◌<◌, ◌≤◌, ◌^◌, ◌||◌, ◌++◌, Bool, false, List, [], ◌∷◌, nat_lt, Option, None}
use Rattle.std.proofs.Common.{sym, ap, subst, arith, ◌∙◌}
use Rattle.std.specs.Prelude.{is_some}
use Rattle.std.specs.List.{AllByRecursion}
use Rattle.std.proofs.lemmas.Bool.Decides.{nat_tests}
use Rattle.geometry_model.specs.Numbers.{Numbers, IsInRange}
use Rattle.geometry_model.specs.Pages.{first_page}
use Rattle.geometry_model.proofs.NumberLaws.{pages-high}
use Rattle.geometry_model.proofs.PageLaws.{IsInSpace-below, IsPlace-in_run, place-of_IsPlace}
use Rattle.layout_model.specs.declared.extent.Extent.{Extent}
use Rattle.moment_model.specs.Version.{covers, uses}
use Rattle.moment_laws.specs.Granting.{LiesInSpace}
use Rattle.moment_laws.proofs.GrantLemmas.{uses-append, uses-cons, covers-on}
use Rattle.change_laws.proofs.PartLemmas.{all-left, all-right}
use Rattle.page_cache.specs.Kept.{KeptNodes, is_on_run}
use Rattle.span_store.specs.Held.{Held, AllSized}
use Rattle.superdirectory.specs.Grants.{KeepsFrame}
use Rattle.superdirectory.specs.Rest.{Rest}
use Rattle.superdirectory.specs.Trace.{SpaceEvent}
use Rattle.object_body.specs.Places.{IsReady, IsStore}
use Rattle.give_back.specs.Giving.{
  AreDataPages,
  CanGiveRuns,
  IsLeft,
  IsOwnRun,
  LeavesNodes,
  LetsGo,
  gives,
  is_in_runs,
  none_marked,
  or_page,
}
use Rattle.give_back.proofs.LeftLemmas.{left-held, left-stays, leaves-as, leaves-not, leaves-then}
use Rattle.give_back.proofs.LetGoLemmas.{gives-apart, gives-both, gives-same, let_go-as, let_go-not, let_go-then, or_ways}
use Rattle.give_back.proofs.UsesLemmas.{covers-off, in-none, on-covers}

-- the pages of a run in a space are data pages, and their numbers small
pub lies-data : (n : Numbers) (run : Extent) → LiesInSpace n run → AreDataPages n run.page run.pages
lies-data n run lies = λ page from to.
    let place = IsPlace-in_run n lies.0 run.page run.pages page lies.1 from to in
    ap is_some (place-of_IsPlace n page lies.0 (page - first_page n lies.0) place)

pub lies-low : (n : Numbers) (run : Extent) → IsInRange n → LiesInSpace n run → run.page + run.pages < 2 ^ 32
lies-low n run range lies =
    let below = IsInSpace-below n lies.0 run.page run.pages lies.1 in
    let high = pages-high n range in
    omega (arith, below, high)

-- the spaces are ready after a call as before it
pub still-ready : (n : Numbers) (old new : Rest) → IsReady n old → KeepsFrame old new → IsReady n new
still-ready n old new ready keeps =
    record { store = subst (IsStore n) (sym keeps.frame) ready.store; none = keeps.entered }

-- ---- one run after another

-- is the page in one of the runs that are no more left?
abbrev pub gone_of : List Extent → List Extent → ℕ → Bool
gone_of runs left q = nat_lt 0 (uses q runs - uses q left)

-- the runs before those that are left were given back
pub record IsGivingRuns (tells : Bool) (n : Numbers) (runs left : List Extent) (had now : Held) (kept cache : KeptNodes) (old rest : Rest)
    (before trace : Option (List SpaceEvent)) : Type 0 where
  pub fewer : (q : ℕ) → uses q left ≤ uses q runs
  pub leaves : LeavesNodes tells n.page (gone_of runs left) had now kept cache
  pub given : LetsGo n (gives (gone_of runs left)) old rest before trace
  pub can : CanGiveRuns n now left
  pub sized : AllSized tells n.page now

none-gone : (k : ℕ) → nat_lt 0 (k - k) ≡ false
none-gone k = (let none : k - k ≡ 0 = omega arith in ap (nat_lt 0) none)

pub giving_runs-init : (tells : Bool) (n : Numbers) (runs : List Extent) (had : Held) (kept : KeptNodes) (old : Rest)
    (before : Option (List SpaceEvent)) → old.entered ≡ None → CanGiveRuns n had runs → AllSized tells n.page had →
    IsGivingRuns tells n runs runs had had kept kept old old before before
giving_runs-init tells n runs had kept old before none can sized = record {
  fewer = λ q. omega arith;
  leaves = leaves-not tells n.page (gone_of runs runs) had kept (λ q. none-gone (uses q runs));
  given = let_go-as n (gives none_marked) (gives (gone_of runs runs)) old old before before
      (gives-same none_marked (gone_of runs runs) (λ q. none-gone (uses q runs))) (let_go-not n old before none);
  can = can;
  sized = sized;
}

-- a run that shares no page with what went is as it was
own-left : (gone : ℕ → Bool) (run : Extent) (now next : Held) → IsLeft gone now next →
    ((q : ℕ) → run.page ≤ q → q < run.page + run.pages → gone q ≡ false) → IsOwnRun now run → IsOwnRun next run
own-left gone run now next left off own =
    let first = off run.page (omega arith) (omega (arith, own.some)) in
    record {
      some = own.some;
      holds = λ q from to. left-stays gone now next q left (off q from to) (own.holds q from to);
      from = left.begun run.page first ∙ own.from;
      to = λ there.
          let was = left-held gone now next (run.page + run.pages) left there in
          left.begun (run.page + run.pages) was.1 ∙ own.to was.0;
    }

still-own : (gone run : Extent) (now next : Held) (tells : Bool) (size : ℕ) (kept cache : KeptNodes) →
    LeavesNodes tells size (is_on_run gone.page gone.pages) now next kept cache →
    ((q : ℕ) → covers q gone + covers q run ≤ 1) → IsOwnRun now run → IsOwnRun next run
still-own gone run now next tells size kept cache leaves once own =
    own-left (is_on_run gone.page gone.pages) run now next leaves.spans.left
    (λ q from to. (let one = covers-on q run from to in let all = once q in covers-off q gone (omega (arith, one, all)))) own

all-own : (gone : Extent) (now next : Held) (tells : Bool) (size : ℕ) (kept cache : KeptNodes) →
    LeavesNodes tells size (is_on_run gone.page gone.pages) now next kept cache → (runs : List Extent) →
    ((q : ℕ) → covers q gone + uses q runs ≤ 1) → AllByRecursion (IsOwnRun now) runs → AllByRecursion (IsOwnRun next) runs
all-own gone now next tells size kept cache leaves [] once own = tt
all-own gone now next tells size kept cache leaves (run ∷ runs) once own = (
  still-own gone run now next tells size kept cache leaves
      (λ q. let all = once q in let both = uses-cons q run runs in omega (arith, all, both)) own.0,
  all-own gone now next tells size kept cache leaves runs
      (λ q. let all = once q in let both = uses-cons q run runs in omega (arith, all, both)) own.1,
)

one-more : (u k r : ℕ) → k + r ≤ u → nat_lt 0 (u - r) ≡ (nat_lt 0 (u - (k + r)) || nat_lt 0 k)
one-more u k r within = grind (arith, nat_tests, within)

pub giving_runs-more : (tells : Bool) (n : Numbers) (runs left rest : List Extent) (run : Extent) (had now next : Held)
    (kept cache cache2 : KeptNodes) (old mid last : Rest) (before trace after : Option (List SpaceEvent)) → left ≡ run ∷ rest →
    IsGivingRuns tells n runs left had now kept cache old mid before trace →
    LeavesNodes tells n.page (is_on_run run.page run.pages) now next cache cache2 →
    LetsGo n (gives (is_on_run run.page run.pages)) mid last trace after →
    IsGivingRuns tells n runs rest had next kept cache2 old last before after
giving_runs-more tells n runs left rest run had now next kept cache cache2 old mid last before trace after e giving leaves goes =
    let one : (q : ℕ) → uses q left ≡ covers q run + uses q rest = λ q. ap (uses q) e ∙ uses-cons q run rest in
    let test : (q : ℕ) → gone_of runs rest q ≡ or_page (gone_of runs left) (is_on_run run.page run.pages) q =
    λ q.
    let few = giving.fewer q in
    let split = one q in
    one-more (uses q runs) (covers q run) (uses q rest) (omega (arith, few, split))
    ∙ (ap (λ (k : ℕ). nat_lt 0 (uses q runs - k) || nat_lt 0 (covers q run)) (sym split)
    ∙ ap (λ (b : Bool). gone_of runs left q || b) (sym (on-covers q run))) in
    let can = subst (CanGiveRuns n now) e giving.can in
    record {
      fewer = λ q. let few = giving.fewer q in let split = one q in omega (arith, few, split);
      leaves = leaves-as tells n.page (or_page (gone_of runs left) (is_on_run run.page run.pages)) (gone_of runs rest) had next kept cache2
          test
          (leaves-then tells n.page (gone_of runs left) (is_on_run run.page run.pages) had now next kept cache cache2 giving.leaves leaves);
      given = let_go-as n (or_ways (gives (gone_of runs left)) (gives (is_on_run run.page run.pages))) (gives (gone_of runs rest)) old last
          before after (gives-both (gone_of runs left) (is_on_run run.page run.pages) (gone_of runs rest) test)
          (let_go-then n (gives (gone_of runs left)) (gives (is_on_run run.page run.pages)) old mid last before trace after
          (gives-apart (gone_of runs left) (is_on_run run.page run.pages)) giving.given goes);
      can = record {
        lie = can.lie.1;
        own = all-own run now next tells n.page cache cache2 leaves rest
            (λ q. let all = can.once q in let both = uses-cons q run rest in omega (arith, all, both)) can.own.1;
        once = λ q. let all = can.once q in let both = uses-cons q run rest in omega (arith, all, both);
      };
      sized = leaves.spans.sized giving.sized;
    }

pub giving_runs-all : (tells : Bool) (n : Numbers) (runs : List Extent) (had now : Held) (kept cache : KeptNodes) (old rest : Rest)
    (before trace : Option (List SpaceEvent)) → IsGivingRuns tells n runs [] had now kept cache old rest before trace →
    LeavesNodes tells n.page (is_in_runs runs) had now kept cache × LetsGo n (gives (is_in_runs runs)) old rest before trace
giving_runs-all tells n runs had now kept cache old rest before trace giving =
    let test : (q : ℕ) → is_in_runs runs q ≡ gone_of runs [] q = λ q. (let all : uses q runs ≡ uses q runs - 0 = omega arith in
    ap (nat_lt 0) all) in (
      leaves-as tells n.page (gone_of runs []) (is_in_runs runs) had now kept cache test giving.leaves,
      let_go-as n (gives (gone_of runs [])) (gives (is_in_runs runs)) old rest before trace
          (gives-same (gone_of runs []) (is_in_runs runs) test) giving.given,
    )

-- ---- one list of runs after another

pub can-front : (n : Numbers) (held : Held) (xs ys : List Extent) → CanGiveRuns n held (xs ++ ys) → CanGiveRuns n held xs
can-front n held xs ys can = record {
  lie = all-left (LiesInSpace n) xs ys can.lie;
  own = all-left (IsOwnRun held) xs ys can.own;
  once = λ q. let both = uses-append q xs ys in let all = can.once q in omega (arith, both, all);
}

rest-own : (gone : List Extent) (now next : Held) → IsLeft (is_in_runs gone) now next → (runs : List Extent) →
    ((q : ℕ) → uses q gone + uses q runs ≤ 1) → AllByRecursion (IsOwnRun now) runs → AllByRecursion (IsOwnRun next) runs
rest-own gone now next left [] once own = tt
rest-own gone now next left (run ∷ runs) once own = (
  own-left (is_in_runs gone) run now next left
      (λ q from to.
      let one = covers-on q run from to in
      let all = once q in
      let both = uses-cons q run runs in
      in-none q gone (omega (arith, one, all, both))) own.0,
  rest-own gone now next left runs (λ q. let all = once q in let both = uses-cons q run runs in omega (arith, all, both)) own.1,
)

pub can-behind : (n : Numbers) (xs ys : List Extent) (now next : Held) → CanGiveRuns n now (xs ++ ys) →
    IsLeft (is_in_runs xs) now next → CanGiveRuns n next ys
can-behind n xs ys now next can left = record {
  lie = all-right (LiesInSpace n) xs ys can.lie;
  own = rest-own xs now next left ys (λ q. let both = uses-append q xs ys in let all = can.once q in omega (arith, both, all))
      (all-right (IsOwnRun now) xs ys can.own);
  once = λ q. let both = uses-append q xs ys in let all = can.once q in omega (arith, both, all);
}

pub both-leave : (tells : Bool) (size : ℕ) (xs ys all : List Extent) (old mid new : Held) (before between after : KeptNodes) →
    ((q : ℕ) → is_in_runs all q ≡ (is_in_runs xs q || is_in_runs ys q)) →
    LeavesNodes tells size (is_in_runs xs) old mid before between → LeavesNodes tells size (is_in_runs ys) mid new between after →
    LeavesNodes tells size (is_in_runs all) old new before after
both-leave tells size xs ys all old mid new before between after same one two =
    leaves-as tells size (or_page (is_in_runs xs) (is_in_runs ys)) (is_in_runs all) old new before after same
    (leaves-then tells size (is_in_runs xs) (is_in_runs ys) old mid new before between after one two)

pub both-go : (n : Numbers) (xs ys all : List Extent) (old mid new : Rest) (before between after : Option (List SpaceEvent)) →
    ((q : ℕ) → is_in_runs all q ≡ (is_in_runs xs q || is_in_runs ys q)) →
    LetsGo n (gives (is_in_runs xs)) old mid before between → LetsGo n (gives (is_in_runs ys)) mid new between after →
    LetsGo n (gives (is_in_runs all)) old new before after
both-go n xs ys all old mid new before between after same one two =
    let_go-as n (or_ways (gives (is_in_runs xs)) (gives (is_in_runs ys))) (gives (is_in_runs all)) old new before after
    (gives-both (is_in_runs xs) (is_in_runs ys) (is_in_runs all) same)
    (let_go-then n (gives (is_in_runs xs)) (gives (is_in_runs ys)) old mid new before between after
    (gives-apart (is_in_runs xs) (is_in_runs ys)) one two)
