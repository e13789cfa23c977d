-- Pages of a run that are given back span by span.
use Rattle.std.proofs.Common.{◌≡◌, ℕ, ◌+◌, ◌-◌, ◌<◌, ◌≤◌, Bool, ◌||◌, IsTrue, List, length, Option, None, sym, ap, subst}
use Rattle.std.proofs.Common.{arith}
use Rattle.std.proofs.Common.{◌∙◌}
use Rattle.geometry_model.specs.Numbers.{Numbers}
use Rattle.geometry_model.specs.Pages.{IsPlace}
use Rattle.page_cache.specs.Kept.{is_on_run}
use Rattle.space_directory.specs.SpaceView.{after_give}
use Rattle.span_store.specs.Held.{HeldSpan, Held, AllSized, begins, has}
use Rattle.span_store.specs.Calls.{IsRemoved}
use Rattle.superdirectory.specs.Grants.{IsRunIn, UsesSpace}
use Rattle.superdirectory.specs.Rest.{Rest}
use Rattle.superdirectory.specs.Trace.{SpaceEvent}
use Rattle.object_body.specs.Places.{IsStore}
use Rattle.give_back.specs.Giving.{AreDataPages, IsLeft, IsWholeRun, LeavesSized, LetsGo, gives, none_marked, or_page}
use Rattle.give_back.proofs.RunLemmas.{data-run, run-in_frame}
use Rattle.give_back.proofs.LeftLemmas.{left-as, left-not, left-then, left-removed, left-held, left-stays, run-more}
use Rattle.give_back.proofs.LeftLemmas.{run-none, run-past, span-inside, next-begins}
use Rattle.give_back.proofs.LetGoLemmas.{given-one, gives-apart, gives-both, gives-same, let_go-as, let_go-not, let_go-then, or_ways}

-- ---- the spans of a run

-- the pages of the run before `at` were given back
pub record IsGiving (tells : Bool) (n : Numbers) (first pages at : ℕ) (had now : Held) (old rest : Rest)
    (before trace : Option (List SpaceEvent)) : Type 0 where
  pub from : first ≤ at
  pub to : at ≤ first + pages
  pub left : IsLeft (is_on_run first (at - first)) had now
  pub sized : AllSized tells n.page now
  pub given : LetsGo n (gives (is_on_run first (at - first))) old rest before trace
  pub begun : at < first + pages → IsTrue (begins now at)

pub giving-init : (tells : Bool) (n : Numbers) (first pages : ℕ) (had : Held) (old : Rest) (before : Option (List SpaceEvent)) →
    old.entered ≡ None → IsWholeRun had first pages → AllSized tells n.page had →
    IsGiving tells n first pages first had had old old before before
giving-init tells n first pages had old before none whole sized = record {
  from = omega arith;
  to = omega arith;
  left = left-not (is_on_run first (first - first)) had (run-none first);
  sized = sized;
  given = let_go-as n (gives none_marked) (gives (is_on_run first (first - first))) old old before before (gives-same none_marked
      (is_on_run first (first - first)) (run-none first))
      (let_go-not n old before none);
  begun = λ some. whole.from;
}

-- the span ends in the run
giving-ends : (tells : Bool) (n : Numbers) (first pages at : ℕ) (had now next : Held) (old rest : Rest)
    (before trace : Option (List SpaceEvent)) (s : HeldSpan) → IsWholeRun had first pages →
    IsGiving tells n first pages at had now old rest before trace → at < first + pages → s.first ≡ at → IsRemoved s now next →
    s.first + length s.pages ≤ first + pages
giving-ends tells n first pages at had now next old rest before trace s whole giving more same removed =
    span-inside s now next first pages removed (omega (arith, same, more))
    (λ there.
    let was = left-held (is_on_run first (at - first)) had now (first + pages) giving.left there in
    giving.left.begun (first + pages) was.1 ∙ whole.to was.0)

-- and lies in the run's space
pub giving-run : (tells : Bool) (n : Numbers) (first pages at space place : ℕ) (had now next : Held) (old rest : Rest)
    (before trace : Option (List SpaceEvent)) (s : HeldSpan) → IsStore n old.frame → AreDataPages n first pages →
    IsWholeRun had first pages →
    IsPlace n first space place →
    IsGiving tells n first pages at had now old rest before trace → at < first + pages → s.first ≡ at → IsRemoved s now next →
    IsRunIn rest.frame space s.first (length s.pages)
giving-run tells n first pages at space place had now next old rest before trace s store on_data whole here giving more same removed =
    let ends = giving-ends tells n first pages at had now next old rest before trace s whole giving more same removed in
    let all = data-run n first pages space place here whole.some on_data in
    run-in_frame n rest.frame space s.first (length s.pages) (subst (IsStore n) (sym giving.given.rest.frame) store) removed.some (record {
      in_store = all.in_store;
      from = omega (arith, all.from, giving.from, same);
      to = omega (arith, all.to, ends);
    })

pub giving-more : (tells : Bool) (n : Numbers) (first pages at space place : ℕ) (had now next : Held) (old rest last : Rest)
    (before trace after : Option (List SpaceEvent)) (s : HeldSpan) → IsStore n old.frame → AreDataPages n first pages →
    IsWholeRun had first pages →
    IsPlace n first space place →
    IsGiving tells n first pages at had now old rest before trace → at < first + pages → s.first ≡ at → IsRemoved s now next →
    AllSized tells n.page next → UsesSpace space (λ v. after_give v (s.first - v.first) s.pages) rest last trace after →
    IsGiving tells n first pages (at + length s.pages) had next old last before after
giving-more tells n first pages at space place had now next old rest last before trace after s store on_data whole here giving more same
    removed sized used =
    let k = length s.pages in
    let ends = giving-ends tells n first pages at had now next old rest before trace s whole giving more same removed in
    let run = giving-run tells n first pages at space place had now next old rest before trace s store on_data whole here giving more
    same removed in
    let store_now = subst (IsStore n) (sym giving.given.rest.frame) store in
    let test : (q : ℕ) → is_on_run first (at + k - first) q ≡ or_page (is_on_run first (at - first)) (is_on_run s.first k) q =
    λ q. run-more first at k q giving.from ∙ ap (λ (j : ℕ). is_on_run first (at - first) q || is_on_run j k q) (sym same) in
    record {
      from = omega (arith, giving.from);
      to = omega (arith, ends, same);
      left = left-as (or_page (is_on_run first (at - first)) (is_on_run s.first k)) (is_on_run first (at + k - first)) had next test
          (left-then (is_on_run first (at - first)) (is_on_run s.first k) had now next giving.left (left-removed s now next removed));
      sized = sized;
      given = let_go-as n (or_ways (gives (is_on_run first (at - first))) (gives (is_on_run s.first k))) (gives (is_on_run first
          (at + k - first)))
          old last before after (gives-both (is_on_run first (at - first)) (is_on_run s.first k) (is_on_run first (at + k - first)) test)
          (let_go-then n (gives (is_on_run first (at - first))) (gives (is_on_run s.first k)) old rest last before trace after
          (gives-apart (is_on_run first (at - first)) (is_on_run s.first k)) giving.given
          (given-one n space s.first s.pages rest last trace after store_now run used));
      begun = λ goes_on.
          let behind : s.first + k ≡ at + k = omega (arith, same) in
          let held = whole.holds (at + k) (omega (arith, giving.from)) goes_on in
          let there = left-stays (is_on_run first (at - first)) had now (at + k) giving.left (run-past first at k) held in
          subst (λ (q : ℕ). IsTrue (begins next q)) behind
          (next-begins s now next removed (subst (λ (q : ℕ). IsTrue (has now q)) (sym behind) there));
    }

pub giving-all : (tells : Bool) (n : Numbers) (first pages at : ℕ) (had now : Held) (old rest : Rest)
    (before trace : Option (List SpaceEvent)) → IsGiving tells n first pages at had now old rest before trace → first + pages ≤ at →
    LeavesSized tells n.page (is_on_run first pages) had now × LetsGo n (gives (is_on_run first pages)) old rest before trace
giving-all tells n first pages at had now old rest before trace giving done =
    let whole : at - first ≡ pages = omega (arith, giving.from, giving.to, done) in (
      record {
        left = subst (λ (k : ℕ). IsLeft (is_on_run first k) had now) whole giving.left;
        sized = λ sized. giving.sized;
      },
      subst (λ (k : ℕ). LetsGo n (gives (is_on_run first k)) old rest before trace) whole giving.given,
    )
