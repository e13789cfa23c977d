-- Pages that are dropped, one span after the other.
use Rattle.std.proofs.Common.{◌≡◌, ℕ, ◌+◌, ◌-◌, ◌<◌, ◌≤◌, Bool, true, false, not, ◌&&◌, ◌||◌, IsTrue, refl, sym, ap, subst, arith, ◌∙◌}
use Rattle.std.proofs.Common.{inl, inr, ◌⊎◌, List, Option, None, length, is_some}
use Rattle.superdirectory.specs.Trace.{SpaceEvent}
use Rattle.std.proofs.lemmas.Bool.{and_parts, cases_lt, false≢true}
use Rattle.std.proofs.lemmas.Bool.Decides.{nat_tests}
use Rattle.std.proofs.Math.Bool.{and-true, and-false, or-false, or-true, or_assoc}
use Rattle.geometry_model.specs.Numbers.{Numbers}
use Rattle.page_set.specs.Members.{AllOn, IsFirstRun, IsWithRun, IsWithoutRun, Keeps}
use Rattle.page_set.specs.Words.{PageSetView, in_set, room_in}
use Rattle.space_directory.proofs.PageLaws.{in_run-inside, in_run-below, in_run-above}
use Rattle.span_store.specs.Held.{Held, begins, has}
use Rattle.span_store.specs.Calls.{IsSpanFrom}
use Rattle.span_store.specs.Held.{HeldSpan}
use Rattle.page_cache.specs.Kept.{KeptNodes, is_on_run}
use Rattle.superdirectory.specs.Rest.{Rest}
use Rattle.object_body.specs.Places.{IsStore}
use Rattle.object_state.specs.Keeps.{IsMarked}
use Rattle.give_back.specs.Giving.{IsWholeRun, LeavesNodes, LetsGo, gives, none_marked, or_page}
use Rattle.object_state.specs.Ends.{drops}
use Rattle.object_state.specs.Drops.{CanDrop, Drops, IsOneSpan, Stock}
use Rattle.object_state.proofs.BorderLemmas.{IsBordered, marked-minus, run-bordered, span-alike}
use Rattle.object_state.proofs.EndLemmas.{marked-beside}
use Rattle.give_back.proofs.LeftLemmas.{left-held, left-stays, leaves-as, leaves-not, leaves-then, run-more, run-none, span-has}
use Rattle.object_state.proofs.LeftLemmas.{left-on_data}
use Rattle.object_state.proofs.MarkLemmas.{gone_from, gone-none, gone-all, gone-more, kept-marks, whole-run}
use Rattle.give_back.proofs.LetGoLemmas.{DoNotMeet, let_go-as, let_go-not, let_go-then, or_ways}

-- ---- a span

-- the first span from a page on, where one begins at the page
pub span-run : (held : Held) (s : HeldSpan) (first pages : ℕ) → IsSpanFrom first s held → IsTrue (begins held first) →
    length s.pages ≡ pages → IsOneSpan held first pages
span-run held s first pages found begun long = go (cases_lt first s.first)
  where
    go : (first < s.first) ⊎ (s.first ≤ first) → IsOneSpan held first pages
    go (inl later) = absurd (false≢true (sym (found.none first (omega arith) later) ∙ begun))
    go (inr here) =
        let same : s.first ≡ first = omega (arith, found.from, here) in
        let end : s.first + length s.pages ≡ first + pages = omega (arith, same, long) in
        record {
          whole = record {
            some = omega (arith, found.whole.some, long);
            holds = λ q from to.
                let inside = span-has s q ∙ in_run-inside s.first (length s.pages) q (omega (arith, same, from)) (omega (arith, end, to)) in
                ap is_some (found.whole.held q inside) ∙ inside;
            from = begun;
            to = subst (λ q. IsTrue (has held q) → IsTrue (begins held q)) end found.whole.end;
          };
          inner = λ q from to. found.whole.inner q (omega (arith, same, from)) (omega (arith, end, to));
        }

-- all its pages are marked as the first
pub alike-on : (held : Held) (marked : ℕ → Bool) (first pages : ℕ) → IsMarked held marked → IsOneSpan held first pages → (q : ℕ) →
    is_on_run first pages q ≡ true → marked q ≡ marked first
alike-on held marked first pages is one q on = elim (cases_lt q first) [
  | inl below ↦ absurd (false≢true (sym (in_run-below first pages q below) ∙ on))
  | inr from ↦ elim (cases_lt q (first + pages)) [
    | inr past ↦ absurd (false≢true (sym (in_run-above first pages q past) ∙ on))
    | inl to ↦
        let same : first + (q - first) ≡ q = omega (arith, from) in
        ap marked (sym same) ∙ span-alike held marked first pages is one.whole.holds one.inner (q - first) (omega (arith, from, to))
  ]
]

-- of a test r and a mark m that every page of r has, or that none has
has-mark : (r m : Bool) → (r ≡ true → m ≡ true) → (r && m) ≡ r
has-mark true m all = all refl
has-mark false m all = refl

has-others : (r m : Bool) → (r ≡ true → m ≡ true) → (r && not m) ≡ false
has-others true m all = ap not (all refl)
has-others false m all = refl

lacks-mark : (r m : Bool) → (r ≡ true → m ≡ false) → (r && m) ≡ false
lacks-mark true m none = none refl
lacks-mark false m none = refl

lacks-others : (r m : Bool) → (r ≡ true → m ≡ false) → (r && not m) ≡ r
lacks-others true m none = ap not (none refl)
lacks-others false m none = refl

minus-none : (m r : Bool) → (r ≡ true → m ≡ false) → m ≡ (m && not r)
minus-none m true none = none refl ∙ sym (and-false m)
minus-none m false none = sym (and-true m)

-- a set without a run, and with one
pub without-test : (old new : ℕ → Bool) (first pages q : ℕ) → IsWithoutRun first pages old new →
    new q ≡ (old q && not (is_on_run first pages q))
without-test old new first pages q without = elim (cases_lt q first) [
  | inl below ↦ without.beside q (inl below)
      ∙ sym (ap (λ b. old q && not b) (in_run-below first pages q below) ∙ and-true (old q))
  | inr from ↦ elim (cases_lt q (first + pages)) [
    | inl to ↦ without.inside q from to
        ∙ sym (ap (λ b. old q && not b) (in_run-inside first pages q from to) ∙ and-false (old q))
    | inr past ↦ without.beside q (inr past)
        ∙ sym (ap (λ b. old q && not b) (in_run-above first pages q past) ∙ and-true (old q))
  ]
]

pub with-test : (old new : ℕ → Bool) (first pages q : ℕ) → IsWithRun first pages old new →
    new q ≡ (old q || is_on_run first pages q)
with-test old new first pages q with_run = elim (cases_lt q first) [
  | inl below ↦ with_run.beside q (inl below) ∙ sym (ap (λ b. old q || b) (in_run-below first pages q below) ∙ or-false (old q))
  | inr from ↦ elim (cases_lt q (first + pages)) [
    | inl to ↦ with_run.inside q from to ∙ sym (ap (λ b. old q || b) (in_run-inside first pages q from to) ∙ or-true (old q))
    | inr past ↦ with_run.beside q (inr past) ∙ sym (ap (λ b. old q || b) (in_run-above first pages q past) ∙ or-false (old q))
  ]
]

-- a fresh span went back
pub drop-given : (tells : Bool) (n : Numbers) (s : Stock) (held : Held) (cache : KeptNodes) (fresh : PageSetView) (rest : Rest)
    (trace : Option (List SpaceEvent)) (first pages : ℕ) → IsMarked s.held (in_set s.fresh) → IsOneSpan s.held first pages →
    in_set s.fresh first ≡ true → LeavesNodes tells n.page (is_on_run first pages) s.held held s.cache cache →
    LetsGo n (gives (is_on_run first pages)) s.rest rest s.trace trace → IsWithoutRun first pages (in_set s.fresh) (in_set fresh) →
    Drops tells n (is_on_run first pages) s
    (record { held = held; cache = cache; fresh = fresh; locked = s.locked; rest = rest; trace = trace })
drop-given tells n s held cache fresh rest trace first pages is one here leaves went without =
    let run = is_on_run first pages in
    let all : (q : ℕ) → run q ≡ true → in_set s.fresh q ≡ true =
    λ q on. alike-on s.held (in_set s.fresh) first pages is one q on ∙ here in
    record {
      left = leaves-as tells n.page run (λ q. run q && in_set s.fresh q) s.held held s.cache cache
          (λ q. has-mark (run q) (in_set s.fresh q) (all q)) leaves;
      fresh = λ q. without-test (in_set s.fresh) (in_set fresh) first pages q without;
      locked = λ q. sym (ap (λ b. in_set s.locked q || b) (has-others (run q) (in_set s.fresh q) (all q)) ∙ or-false (in_set s.locked q));
      room = λ q there. there;
      went = let_go-as n (gives run) (drops run (in_set s.fresh)) s.rest rest s.trace trace (record {
        given = λ q. has-mark (run q) (in_set s.fresh q) (all q);
        unlocked = λ q. refl;
        locked = λ q. has-others (run q) (in_set s.fresh q) (all q);
      }) went;
    }

-- another span was locked
pub drop-locked : (tells : Bool) (n : Numbers) (s : Stock) (locked : PageSetView) (rest : Rest) (trace : Option (List SpaceEvent))
    (first pages : ℕ) → IsMarked s.held (in_set s.fresh) → IsOneSpan s.held first pages → in_set s.fresh first ≡ false →
    LetsGo n (drops (is_on_run first pages) none_marked) s.rest rest s.trace trace →
    IsWithRun first pages (in_set s.locked) (in_set locked) → Keeps (room_in s.locked) (room_in locked) →
    Drops tells n (is_on_run first pages) s
    (record { held = s.held; cache = s.cache; fresh = s.fresh; locked = locked; rest = rest; trace = trace })
drop-locked tells n s locked rest trace first pages is one here went with_run room =
    let run = is_on_run first pages in
    let none : (q : ℕ) → run q ≡ true → in_set s.fresh q ≡ false =
    λ q on. alike-on s.held (in_set s.fresh) first pages is one q on ∙ here in
    record {
      left = leaves-not tells n.page (λ q. run q && in_set s.fresh q) s.held s.cache (λ q. lacks-mark (run q) (in_set s.fresh q) (none q));
      fresh = λ q. minus-none (in_set s.fresh q) (run q) (none q);
      locked = λ q. with-test (in_set s.locked) (in_set locked) first pages q with_run
          ∙ ap (λ b. in_set s.locked q || b) (sym (lacks-others (run q) (in_set s.fresh q) (none q)));
      room = room;
      went = let_go-as n (drops run none_marked) (drops run (in_set s.fresh)) s.rest rest s.trace trace (record {
        given = λ q. lacks-mark (run q) (in_set s.fresh q) (none q) ∙ sym (and-false (run q));
        unlocked = λ q. refl;
        locked = λ q. lacks-others (run q) (in_set s.fresh q) (none q) ∙ sym (and-true (run q));
      }) went;
    }

-- ---- one after the other

-- nothing is dropped
pub drops-not : (tells : Bool) (n : Numbers) (gone : ℕ → Bool) (s : Stock) → s.rest.entered ≡ None → ((q : ℕ) → gone q ≡ false) →
    Drops tells n gone s s
drops-not tells n gone s none out = record {
  left = leaves-not tells n.page (λ q. gone q && in_set s.fresh q) s.held s.cache (λ q. ap (λ b. b && in_set s.fresh q) (out q));
  fresh = λ q. sym (ap (λ b. in_set s.fresh q && not b) (out q) ∙ and-true (in_set s.fresh q));
  locked = λ q. sym (ap (λ b. in_set s.locked q || (b && not (in_set s.fresh q))) (out q) ∙ or-false (in_set s.locked q));
  room = λ q there. there;
  went = let_go-as n (gives none_marked) (drops gone (in_set s.fresh)) s.rest s.rest s.trace s.trace (record {
    given = λ q. ap (λ b. b && in_set s.fresh q) (out q);
    unlocked = λ q. refl;
    locked = λ q. ap (λ b. b && not (in_set s.fresh q)) (out q);
  }) (let_go-not n s.rest s.trace none);
}

-- the same pages by another test
pub drops-as : (tells : Bool) (n : Numbers) (gone other : ℕ → Bool) (s t : Stock) → ((q : ℕ) → other q ≡ gone q) →
    Drops tells n gone s t → Drops tells n other s t
drops-as tells n gone other s t same dropped = record {
  left = leaves-as tells n.page (λ q. gone q && in_set s.fresh q) (λ q. other q && in_set s.fresh q) s.held t.held s.cache t.cache
      (λ q. ap (λ b. b && in_set s.fresh q) (same q)) dropped.left;
  fresh = λ q. dropped.fresh q ∙ ap (λ b. in_set s.fresh q && not b) (sym (same q));
  locked = λ q. dropped.locked q ∙ ap (λ b. in_set s.locked q || (b && not (in_set s.fresh q))) (sym (same q));
  room = dropped.room;
  went = let_go-as n (drops gone (in_set s.fresh)) (drops other (in_set s.fresh)) s.rest t.rest s.trace t.trace (record {
    given = λ q. ap (λ b. b && in_set s.fresh q) (same q);
    unlocked = λ q. refl;
    locked = λ q. ap (λ b. b && not (in_set s.fresh q)) (same q);
  }) dropped.went;
}

-- of one page: a and b are whether the first and the second call drop it, f whether it was fresh, l whether it was locked
given-both : (a b f : Bool) → ((a || b) && f) ≡ ((a && f) || (b && (f && not a)))
given-both true b true = refl
given-both true true false = refl
given-both true false false = refl
given-both false true true = refl
given-both false true false = refl
given-both false false f = refl

fresh-both : (a b f : Bool) → ((f && not a) && not b) ≡ (f && not (a || b))
fresh-both a b false = refl
fresh-both true b true = refl
fresh-both false b true = refl

locks-both : (a b f : Bool) → (a ≡ true → b ≡ false) → ((a || b) && not f) ≡ ((a && not f) || (b && not (f && not a)))
locks-both true true f apart = absurd (false≢true (sym (apart refl)))
locks-both true false f apart = sym (or-false (not f))
locks-both false b true apart = refl
locks-both false b false apart = refl

pub drops-then : (tells : Bool) (n : Numbers) (one two : ℕ → Bool) (s t u : Stock) → ((q : ℕ) → one q ≡ true → two q ≡ false) →
    Drops tells n one s t → Drops tells n two t u → Drops tells n (or_page one two) s u
drops-then tells n one two s t u apart first second =
    let f = in_set s.fresh in
    let first_left = λ (q : ℕ). one q && f q in
    let second_left = λ (q : ℕ). two q && in_set t.fresh q in
    let now : (q : ℕ) → in_set t.fresh q ≡ (f q && not (one q)) = first.fresh in
    record {
      left = leaves-as tells n.page (or_page first_left second_left) (λ q. or_page one two q && f q) s.held u.held s.cache u.cache
          (λ q. given-both (one q) (two q) (f q) ∙ ap (λ b. (one q && f q) || (two q && b)) (sym (now q)))
          (leaves-then tells n.page first_left second_left s.held t.held u.held s.cache t.cache u.cache first.left second.left);
      fresh = λ q. second.fresh q ∙ (ap (λ b. b && not (two q)) (now q) ∙ fresh-both (one q) (two q) (f q));
      locked = λ q. second.locked q ∙ (ap (λ b. b || (two q && not (in_set t.fresh q))) (first.locked q)
          ∙ (or_assoc (in_set s.locked q) (one q && not (f q)) (two q && not (in_set t.fresh q))
          ∙ ap (λ b. in_set s.locked q || b) (ap (λ b. (one q && not (f q)) || (two q && not b)) (now q)
          ∙ sym (locks-both (one q) (two q) (f q) (apart q)))));
      room = λ q there. second.room q (first.room q there);
      went = let_go-as n (or_ways (drops one f) (drops two (in_set t.fresh))) (drops (or_page one two) f) s.rest u.rest s.trace u.trace
          (record {
            given = λ q. given-both (one q) (two q) (f q) ∙ ap (λ b. (one q && f q) || (two q && b)) (sym (now q));
            unlocked = λ q. refl;
            locked = λ q. locks-both (one q) (two q) (f q) (apart q)
                ∙ ap (λ b. (one q && not (f q)) || (two q && not b)) (sym (now q));
          })
          (let_go-then n (drops one f) (drops two (in_set t.fresh)) s.rest t.rest u.rest s.trace t.trace u.trace
          (ways-apart one two f (in_set t.fresh) apart) first.went second.went);
    }
  where
    not-first : (a f b : Bool) → (a ≡ true → b ≡ false) → b ≡ true → (a && f) ≡ false
    not-first true f b apart there = absurd (false≢true (sym (apart refl) ∙ there))
    not-first false f b apart there = refl

    ways-apart : (one two f g : ℕ → Bool) → ((q : ℕ) → one q ≡ true → two q ≡ false) → DoNotMeet (drops one f) (drops two g)
    ways-apart one two f g apart = record {
      given = λ q there. not-first (one q) (f q) (two q) (apart q) (and_parts (two q) (not (g q)) there).0;
      locked = λ q there. ap (λ b. (b && g q) || false) (apart q (and_parts (one q) (not (f q)) there).0);
    }

-- ---- what stays

-- the pages that are dropped have their borders at those of spans
pub can-drop-next : (tells : Bool) (n : Numbers) (gone : ℕ → Bool) (s t : Stock) → IsBordered s.held gone → CanDrop tells n s →
    Drops tells n gone s t → CanDrop tells n t
can-drop-next tells n gone s t bordered can dropped = record {
  ready = record {
    store = subst (IsStore n) (sym dropped.went.rest.frame) can.ready.store;
    none = dropped.went.rest.entered;
  };
  on_data = left-on_data n (λ q. gone q && in_set s.fresh q) s.held t.held dropped.left.spans.left can.on_data;
  sized = dropped.left.spans.sized can.sized;
  marked = marked-beside s.held t.held (in_set t.fresh) (λ q. gone q && in_set s.fresh q)
      (marked-minus s.held (in_set s.fresh) gone (in_set t.fresh) can.marked bordered dropped.fresh) dropped.left.spans.left
      (λ q there. not-both (gone q) (in_set s.fresh q) (sym (dropped.fresh q) ∙ there));
} where
  not-both : (g f : Bool) → (f && not g) ≡ true → (g && f) ≡ false
  not-both true true there = absurd (false≢true there)
  not-both true false there = refl
  not-both false f there = refl

-- marks that have nothing to do with what is dropped stay marks, but for those that left
pub marked-after : (tells : Bool) (n : Numbers) (gone marked : ℕ → Bool) (s t : Stock) → IsMarked s.held marked → Drops tells n gone s t →
    ((q : ℕ) → IsTrue (marked q) → (gone q && in_set s.fresh q) ≡ false) → IsMarked t.held marked
marked-after tells n gone marked s t is dropped apart =
    marked-beside s.held t.held marked (λ q. gone q && in_set s.fresh q) is dropped.left.spans.left apart

-- ---- the spans of a run

-- the pages of the run before `at` were dropped
pub record IsDroppingRun (tells : Bool) (n : Numbers) (first pages at : ℕ) (s t : Stock) : Type 0 where
  pub from : first ≤ at
  pub to : at ≤ first + pages
  pub dropped : Drops tells n (is_on_run first (at - first)) s t
  pub can : CanDrop tells n t
  pub begun : at < first + pages → IsTrue (begins t.held at)

pub dropping-init : (tells : Bool) (n : Numbers) (first pages : ℕ) (s : Stock) → CanDrop tells n s → IsWholeRun s.held first pages →
    IsDroppingRun tells n first pages first s s
dropping-init tells n first pages s can whole = record {
  from = omega arith;
  to = omega arith;
  dropped = drops-not tells n (is_on_run first (first - first)) s can.ready.none (run-none first);
  can = can;
  begun = λ some. whole.from;
}

-- what was dropped of the run so far has none of its pages from `at` on
run-behind : (first at q : ℕ) → at ≤ q → is_on_run first (at - first) q ≡ false
run-behind first at q from = grind (arith, nat_tests, from)

-- the span at `at` ends in the run
pub dropping-ends : (tells : Bool) (n : Numbers) (first pages at k : ℕ) (s t : Stock) → IsWholeRun s.held first pages →
    IsDroppingRun tells n first pages at s t → at < first + pages → IsOneSpan t.held at k → at + k ≤ first + pages
dropping-ends tells n first pages at k s t whole dropping more one = elim (cases_lt (first + pages) (at + k)) [
  | inr within ↦ within
  | inl past ↦
      let there = one.whole.holds (first + pages) (omega (arith, more)) past in
      let gone = λ (q : ℕ). is_on_run first (at - first) q && in_set s.fresh q in
      let was = left-held gone s.held t.held (first + pages) dropping.dropped.left.spans.left there in
      let begun = dropping.dropped.left.spans.left.begun (first + pages) was.1 ∙ whole.to was.0 in
      absurd (false≢true (sym (one.inner (first + pages) more past) ∙ begun))
]

pub dropping-more : (tells : Bool) (n : Numbers) (first pages at k : ℕ) (s t u : Stock) → IsWholeRun s.held first pages →
    IsDroppingRun tells n first pages at s t → at < first + pages → IsOneSpan t.held at k → Drops tells n (is_on_run at k) t u →
    IsDroppingRun tells n first pages (at + k) s u
dropping-more tells n first pages at k s t u whole dropping more one dropped =
    let ends = dropping-ends tells n first pages at k s t whole dropping more one in
    let so_far = is_on_run first (at - first) in
    let test : (q : ℕ) → is_on_run first (at + k - first) q ≡ or_page so_far (is_on_run at k) q =
    λ q. run-more first at k q dropping.from in
    record {
      from = omega (arith, dropping.from);
      to = ends;
      dropped = drops-as tells n (or_page so_far (is_on_run at k)) (is_on_run first (at + k - first)) s u test
          (drops-then tells n so_far (is_on_run at k) s t u (λ q on. elim (cases_lt q at) [
            | inl below ↦ in_run-below at k q below
            | inr from ↦ absurd (false≢true (sym (run-behind first at q from) ∙ on))
          ]) dropping.dropped dropped);
      can = can-drop-next tells n (is_on_run at k) t u (run-bordered t.held at k one.whole) dropping.can dropped;
      begun = λ goes_on.
          let gone = λ (q : ℕ). so_far q && in_set s.fresh q in
          let out : gone (at + k) ≡ false =
          ap (λ b. b && in_set s.fresh (at + k)) (run-behind first at (at + k) (omega arith)) in
          let there = left-stays gone s.held t.held (at + k) dropping.dropped.left.spans.left out
          (whole.holds (at + k) (omega (arith, dropping.from)) goes_on) in
          let past = ap (λ b. b && in_set t.fresh (at + k)) (in_run-above at k (at + k) (omega arith)) in
          dropped.left.spans.left.begun (at + k) past ∙ one.whole.to there;
    }

pub dropping-all : (tells : Bool) (n : Numbers) (first pages at : ℕ) (s t : Stock) → IsDroppingRun tells n first pages at s t →
    first + pages ≤ at → Drops tells n (is_on_run first pages) s t
dropping-all tells n first pages at s t dropping done =
    let whole : at - first ≡ pages = omega (arith, dropping.from, dropping.to, done) in
    subst (λ (k : ℕ). Drops tells n (is_on_run first k) s t) whole dropping.dropped

-- ---- marked runs

-- the marked pages that are no more in the set were dropped
pub record IsDroppingMarks (tells : Bool) (n : Numbers) (was now : ℕ → Bool) (s t : Stock) : Type 0 where
  pub sub : (page : ℕ) → IsTrue (now page) → IsTrue (was page)
  pub marked : IsMarked t.held now
  pub room : Keeps now (room_in t.locked)
  pub dropped : Drops tells n (gone_from was now) s t
  pub can : CanDrop tells n t

pub marks-init : (tells : Bool) (n : Numbers) (was : ℕ → Bool) (s : Stock) → CanDrop tells n s → IsMarked s.held was →
    Keeps was (room_in s.locked) → IsDroppingMarks tells n was was s s
marks-init tells n was s can marked room = record {
  sub = λ page there. there;
  marked = marked;
  room = room;
  dropped = drops-not tells n (gone_from was was) s can.ready.none (gone-none was);
  can = can;
}

-- the run that comes next is in spans of its own, and there is room for it
pub marks-run : (tells : Bool) (n : Numbers) (was now : ℕ → Bool) (first pages : ℕ) (s t : Stock) →
    IsDroppingMarks tells n was now s t → IsFirstRun now first pages → IsWholeRun t.held first pages
marks-run tells n was now first pages s t dropping run = whole-run n t.held now first pages dropping.can.on_data dropping.marked run

pub marks-room : (tells : Bool) (n : Numbers) (was now : ℕ → Bool) (first pages : ℕ) (s t : Stock) →
    IsDroppingMarks tells n was now s t → IsFirstRun now first pages → AllOn (room_in t.locked) first pages
marks-room tells n was now first pages s t dropping run = λ q from to. dropping.room q (run.all q from to)

gone-apart : (was now : ℕ → Bool) (first pages : ℕ) → IsFirstRun now first pages → (q : ℕ) → gone_from was now q ≡ true →
    is_on_run first pages q ≡ false
gone-apart was now first pages run q gone = elim (cases_lt q first) [
  | inl below ↦ in_run-below first pages q below
  | inr from ↦ elim (cases_lt q (first + pages)) [
    | inl to ↦ absurd (false≢true (ap not (sym (run.all q from to)) ∙ (and_parts (was q) (not (now q)) gone).1))
    | inr past ↦ in_run-above first pages q past
  ]
]

not-both : (g f m : Bool) → (m && not g) ≡ true → (g && f) ≡ false
not-both true f true there = absurd (false≢true there)
not-both true f false there = absurd (false≢true there)
not-both false f m there = refl

pub marks-more : (tells : Bool) (n : Numbers) (was now next : ℕ → Bool) (first pages : ℕ) (s t u : Stock) →
    IsDroppingMarks tells n was now s t → IsFirstRun now first pages → IsWithoutRun first pages now next →
    Drops tells n (is_on_run first pages) t u → IsDroppingMarks tells n was next s u
marks-more tells n was now next first pages s t u dropping run without dropped =
    let on = is_on_run first pages in
    let whole = marks-run tells n was now first pages s t dropping run in
    let bordered = run-bordered t.held first pages whole in
    let left : (q : ℕ) → next q ≡ (now q && not (on q)) = λ q. without-test now next first pages q without in
    record {
      sub = kept-marks was now next first pages dropping.sub without;
      marked = marked-after tells n on next t u (marked-minus t.held now on next dropping.marked bordered left) dropped
          (λ q there. not-both (on q) (in_set t.fresh q) (now q) (sym (left q) ∙ there));
      room = λ q there. dropped.room q (dropping.room q (and_parts (now q) (not (on q)) (sym (left q) ∙ there)).0);
      dropped = drops-as tells n (or_page (gone_from was now) on) (gone_from was next) s u
          (gone-more was now next first pages dropping.sub run without)
          (drops-then tells n (gone_from was now) on s t u (gone-apart was now first pages run) dropping.dropped dropped);
      can = can-drop-next tells n on t u bordered dropping.can dropped;
    }

pub marks-all : (tells : Bool) (n : Numbers) (was now : ℕ → Bool) (s t : Stock) → IsDroppingMarks tells n was now s t →
    ((page : ℕ) → now page ≡ false) → Drops tells n was s t
marks-all tells n was now s t dropping none = drops-as tells n (gone_from was now) was s t (gone-all was now none) dropping.dropped
