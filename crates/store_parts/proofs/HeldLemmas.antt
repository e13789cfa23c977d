-- Held pages, given back a span at a time.
use Rattle.std.proofs.Common.{◌≡◌, ℕ, ◌+◌, ◌-◌, ◌<◌, ◌≤◌, Bool, true, false, ◌&&◌, ◌||◌, not, cond, IsTrue, List, []}
use Rattle.std.proofs.Common.{length, refl, sym, ap, ◌∙◌, arith, inl, inr, Option, Some, None, is_some, unwrap_or}
use Rattle.std.proofs.lemmas.Bool.{cases_Bool, false≢true}
use Rattle.tree_model.specs.Tree.{Pages}
use Rattle.page_port.specs.Device.{Device}
use Rattle.span_store.specs.Held.{Held, HeldSpan, AllSized, IsEmpty, page_of, page_at, has, bytes_on}
use Rattle.span_store.specs.Calls.{IsRemoved}
use Rattle.span_store.proofs.SpanLists.{page_of-inside}
use Rattle.store_parts.specs.Returning.{HaveReturned, IsFirstOut, IsOnMount, AreHeldOnMount, is_page_of, ShowsSpan, ShowsHeld}
use Rattle.store_parts.proofs.ReturningLemmas.{returned-none, returned-both, returned-alike, and-not, and-true, gone-more}

-- the pages of `all` that are no longer in `left` came back
pub record IsGivingHeld (tells : Bool) (all left : Held) (old now : Device) : Type 0 where
  pub kept : (q : ℕ) → has left q ≡ true → page_at left q ≡ page_at all q
  pub sized : AllSized tells (unwrap_or old.mounted 0) left
  pub out : IsTrue tells → IsFirstOut now
  pub count : IsTrue tells → length now.pages ≡ length old.pages
  pub mounted : IsTrue tells → now.mounted ≡ old.mounted
  pub back : IsTrue tells → (at : Pages) → ShowsHeld at all → HaveReturned at (λ q. has all q && not (has left q)) old now

pub no-held-given : (tells : Bool) (all : Held) (old : Device) → AllSized tells (unwrap_or old.mounted 0) all →
    (IsTrue tells → IsFirstOut old) → IsGivingHeld tells all all old old
no-held-given tells all old sized out = record {
  kept = λ q is. refl;
  sized = sized;
  out = out;
  count = λ tell. refl;
  mounted = λ tell. refl;
  back = λ tell at shown. returned-alike at (λ q. false) (λ q. has all q && not (has all q)) old old
      (λ q. and-not (has all q)) (returned-none at old (out tell));
}

-- the span that was taken lies on the mount
pub taken-on : (all left next : Held) (s : HeldSpan) (old now : Device) → length now.pages ≡ length old.pages →
    ((q : ℕ) → has left q ≡ true → page_at left q ≡ page_at all q) → AreHeldOnMount old all → IsRemoved s left next →
    IsOnMount now s.first (length s.pages)
taken-on all left next s old now same kept on gone =
    let here : (q : ℕ) → s.first ≤ q → q < s.first + length s.pages → has all q ≡ true = λ q from to.
    let mine : is_some (page_of s q) ≡ true = ap is_some (page_of-inside s q from to) in
    let was : has left q ≡ true = ap is_some (gone.held q mine) ∙ mine in
    sym (ap is_some (kept q was)) ∙ was in
    let first = on s.first (here s.first (omega arith) (omega (arith, gone.some))) in
    let last_page : ℕ = s.first + length s.pages - 1 in
    let last = on last_page (here last_page (omega (arith, gone.some)) (omega (arith, gone.some))) in
    record { some = first.some; range = omega (arith, last.range, gone.some, same) }

-- one span more
pub held-more : (tells : Bool) (all left next : Held) (s : HeldSpan) (old now new : Device) → IsGivingHeld tells all left old now →
    IsRemoved s left next → AllSized tells (unwrap_or old.mounted 0) next →
    (IsTrue tells → (at : Pages) → ShowsSpan at s → HaveReturned at (is_page_of s) now new) → IsGivingHeld tells all next old new
held-more tells all left next s old now new given gone sized step =
    let after : (q : ℕ) → page_at next q ≡ cond (is_some (page_of s q)) None (page_at left q) = gone.pages in
    let inside : (q : ℕ) → is_page_of s q ≡ true → (has next q ≡ false) × (has all q ≡ true) = λ q is.
    let was : has left q ≡ true = ap is_some (gone.held q is) ∙ is in (
      ap is_some (after q ∙ ap (λ (b : Bool). cond b None (page_at left q)) is),
      sym (ap is_some (given.kept q was)) ∙ was,
    ) in
    let outside : (q : ℕ) → is_page_of s q ≡ false → page_at next q ≡ page_at left q = λ q no.
    after q ∙ ap (λ (b : Bool). cond b None (page_at left q)) no in
    let still : (q : ℕ) → has next q ≡ true → page_at next q ≡ page_at left q = λ q is.
    elim (cases_Bool (is_page_of s q)) [
      | inl mine ↦ absurd (false≢true (sym (inside q mine).0 ∙ is))
      | inr away ↦ outside q away
    ] in
    let shown : (at : Pages) → ShowsHeld at all → ShowsSpan at s = λ at shows q page is.
    let mine : is_page_of s q ≡ true = ap is_some is in
    let was : has left q ≡ true = ap is_some (gone.held q mine) ∙ mine in
    let whole : page_at all q ≡ Some page = sym (given.kept q was) ∙ (gone.held q mine ∙ is) in
    ap (λ (o : Option (List ℕ)). unwrap_or o []) (sym whole) ∙ shows q (inside q mine).1 in
    let own : Pages = bytes_on all in
    let own_shows : ShowsHeld own all = λ q is. refl in
    record {
      kept = λ q is. still q is ∙ given.kept q (sym (ap is_some (still q is)) ∙ is);
      sized = sized;
      out = λ tell. (step tell own (shown own own_shows)).first;
      count = λ tell. (step tell own (shown own own_shows)).count ∙ given.count tell;
      mounted = λ tell. (step tell own (shown own own_shows)).mounted ∙ given.mounted tell;
      back = λ tell at shows.
          returned-alike at (λ q. is_page_of s q || (has all q && not (has left q))) (λ q. has all q && not (has next q)) old new
          (λ q. gone-more (has all q) (has left q) (has next q) (is_page_of s q) (inside q) (λ no. ap is_some (outside q no)))
          (returned-both at (λ q. has all q && not (has left q)) (is_page_of s) old now new
          (given.back tell at shows) (step tell at (shown at shows)));
    }

-- nothing is held any more
pub held-done : (tells : Bool) (all left : Held) (old now : Device) → IsGivingHeld tells all left old now → IsEmpty left →
    IsTrue tells → (at : Pages) → ShowsHeld at all → HaveReturned at (has all) old now
held-done tells all left old now given empty tell at shows =
    returned-alike at (λ q. has all q && not (has left q)) (has all) old now
    (λ q. sym (ap (λ (b : Bool). has all q && not b) (ap is_some (empty q)) ∙ and-true (has all q))) (given.back tell at shows)
