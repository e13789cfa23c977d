-- A new working version in the place of the old one, whose pages are dropped: what the object keeps, and how the spaces move.
use Rattle.std.proofs.Common.{◌≡◌, ℕ, ◌+◌, ◌<◌, Bool, true, false, not, ◌&&◌, ◌||◌, IsTrue, List, Option, Some}
use Rattle.std.proofs.Common.{refl, sym, ap, subst, arith, ◌∙◌, nat_eq, nat_lt}
use Rattle.std.specs.Prelude.{if◌then◌else◌}
use Rattle.std.proofs.lemmas.Bool.{and_parts, false≢true, lt-ltb}
use Rattle.geometry_model.specs.Numbers.{Numbers}
use Rattle.geometry_model.specs.Pages.{IsPlace}
use Rattle.layout_model.specs.declared.extent.Extent.{Extent}
use Rattle.moment_model.specs.Version.{IsGood, Version}
use Rattle.moment_model.specs.Moment.{ObjectSlot, committed_uses, working_uses}
use Rattle.moment_laws.specs.ByObject.{IsSoundSlot}
use Rattle.change_laws.specs.Tail.{IsTail}
use Rattle.tree_pages.specs.Entry.{Entry}
use Rattle.tree_pages.specs.Levels.{version_at, plain_at}
use Rattle.tree_pages.specs.Stored.{StaysOn}
use Rattle.tree_pages.proofs.TreeLemmas.{version-stays, plain-stays}
use Rattle.page_set.specs.Words.{in_set}
use Rattle.span_store.specs.Held.{bytes_on, has}
use Rattle.space_directory.specs.SpaceView.{SpaceView}
use Rattle.superdirectory.specs.Rest.{Frame}
use Rattle.object_body.specs.Moves.{MovesTold}
use Rattle.object_body.specs.Places.{AreHome, IsStore, is_free_place, is_locked_place}
use Rattle.object_body.proofs.TurnLemmas.{free-in, locked-in}
use Rattle.block_model.specs.Block.{has_page}
use Rattle.superdirectory.proofs.Spots.{view_at}
use Rattle.std.specs.Prelude.{slice_get}
use Rattle.std.proofs.lemmas.Bool.Decides.{nat_tests}
use Rattle.std.proofs.Math.Bool.{and-false}
use Rattle.object_state.specs.Tree.{TreeView, tree_slot}
use Rattle.object_state.specs.Keeps.{KeepsTreeBody, IsToldTree, in_spare}
use Rattle.give_back.specs.Giving.{AreLetGo}
use Rattle.object_state.specs.Ends.{drops}
use Rattle.object_state.specs.Drops.{Drops, Stock}
use Rattle.object_state.specs.Beside.{AreTaken, IsToldBeside, StandsBeside, slot_beside}
use Rattle.object_state.proofs.BesideTables.{CountsFit, SuitCounts, beside-has, beside-fresh_count, beside-locked_count, beside-free_count}
use Rattle.object_state.proofs.BesideTables.{beside-locks_count, drops_count, fresh_count}
use Rattle.object_state.proofs.BorderLemmas.{marked-minus, marked-plus}
use Rattle.object_state.proofs.DropLemmas.{can-drop-next, marked-after}
use Rattle.object_state.proofs.EndLemmas.{stands-stay}
use Rattle.give_back.proofs.LeftLemmas.{left-bytes, left-has}

-- the object afterwards
abbrev pub changed_view : TreeView → Stock → Entry → Option Extent → TreeView
changed_view v t working spare = record {
  numbers = v.numbers;
  committed = v.committed;
  working = working;
  spare = spare;
  held = t.held;
  cache = t.cache;
  fresh = t.fresh;
  locked = t.locked;
}

-- the pages that leave the object
abbrev pub leaves : Stock → (ℕ → Bool) → ℕ → Bool
leaves s gone page = gone page && in_set s.fresh page

-- no page is fresh and locked, as long as the new ones are there too
pub fresh-apart : (tells : Bool) (v : TreeView) (made : ℕ → Bool) (s : Stock) (working : Entry) (spare : Option Extent) (gone : ℕ → Bool) →
    KeepsTreeBody tells v → StandsBeside tells v made s working spare gone → (q : ℕ) → IsTrue (in_set s.fresh q) → in_set s.locked q ≡ false
fresh-apart tells v made s working spare gone kept beside q fresh =
    beside.locked_is q ∙ from (made q) refl (sym (beside.fresh_is q) ∙ fresh)
  where
    lacked : IsTrue (made q) → (b : Bool) → in_set v.locked q ≡ b → b ≡ false
    lacked there true is = absurd (false≢true (sym (beside.lacked q there) ∙ kept.locked.within q is))
    lacked there false is = refl

    from : (m : Bool) → made q ≡ m → (m || in_set v.fresh q) ≡ true → in_set v.locked q ≡ false
    from true there either = lacked there (in_set v.locked q) refl
    from false not_there either = kept.apart q either

-- ---- what is told

counts-of : (v : TreeView) (made : ℕ → Bool) (s : Stock) (working : Entry) (spare : Option Extent) (gone : ℕ → Bool) →
    IsToldTree v.numbers v → ((q : ℕ) → IsTrue (made q) → has v.held q ≡ false) → IsToldBeside v.numbers v made s working spare gone →
    (q : ℕ) → SuitCounts (committed_uses v.numbers q (tree_slot v)) (working_uses v.numbers q (tree_slot v))
    (working_uses v.numbers q (slot_beside v s working spare)) (made q)
counts-of v made s working spare gone told lacked beside q = record {
  used = beside.used q;
  within = beside.within q;
  new = λ there. none (committed_uses v.numbers q (tree_slot v) + working_uses v.numbers q (tree_slot v))
      (sym (told.just q) ∙ lacked q there);
} where
  none : (k : ℕ) → nat_lt 0 k ≡ false → k ≡ 0
  none k out = grind (arith, nat_tests, out)

-- the pages that leave are used by neither version afterwards
leaves-unused : (v : TreeView) (made : ℕ → Bool) (s : Stock) (working : Entry) (spare : Option Extent) (gone : ℕ → Bool) →
    IsToldTree v.numbers v → ((q : ℕ) → in_set s.fresh q ≡ (made q || in_set v.fresh q)) →
    ((q : ℕ) → IsTrue (made q) → has v.held q ≡ false) → IsToldBeside v.numbers v made s working spare gone → (q : ℕ) →
    0 < committed_uses v.numbers q (tree_slot v) → leaves s gone q ≡ false
leaves-unused v made s working spare gone told fresh lacked beside q used = go (made q) refl
  where
    none : (u c : ℕ) → 0 < c → (nat_lt 0 u && nat_eq c 0) ≡ false
    none u c some = grind (arith, nat_tests, some)

    old : in_set v.fresh q ≡ false
    old = told.fresh q ∙ none (working_uses v.numbers q (tree_slot v)) (committed_uses v.numbers q (tree_slot v)) used

    go : (m : Bool) → made q ≡ m → leaves s gone q ≡ false
    go true there = absurd (false≢true (sym (lacked q there) ∙ (told.just q
        ∙ lt-ltb 0 (committed_uses v.numbers q (tree_slot v) + working_uses v.numbers q (tree_slot v)) (omega (arith, used)))))
    go false not_there = ap (λ b. gone q && b) (fresh q ∙ (ap (λ b. b || in_set v.fresh q) not_there ∙ old)) ∙ and-false (gone q)

-- both versions stay where they stand
pub committed-stays : (tells : Bool) (v : TreeView) (made : ℕ → Bool) (s t : Stock) (working : Entry) (spare : Option Extent)
    (gone : ℕ → Bool) → KeepsTreeBody tells v → StandsBeside tells v made s working spare gone → Drops tells v.numbers gone s t →
    IsTrue tells → StaysOn v.numbers (tree_slot v).committed (bytes_on v.held) (bytes_on t.held)
committed-stays tells v made s t working spare gone kept beside dropped tell = λ q used.
    left-bytes (leaves s gone) s.held t.held q dropped.left.spans.left
    (leaves-unused v made s working spare gone (kept.told tell) beside.fresh_is beside.lacked (beside.told tell) q used)
    ∙ (beside.told tell).stays q used

pub working-stays : (tells : Bool) (v : TreeView) (made : ℕ → Bool) (s t : Stock) (working : Entry) (spare : Option Extent)
    (gone : ℕ → Bool) → StandsBeside tells v made s working spare gone → Drops tells v.numbers gone s t →
    IsTrue tells → StaysOn v.numbers (version_at (bytes_on s.held) working) (bytes_on s.held) (bytes_on t.held)
working-stays tells v made s t working spare gone beside dropped tell = λ q used.
    left-bytes (leaves s gone) s.held t.held q dropped.left.spans.left
    (ap (λ b. b && in_set s.fresh q) ((beside.told tell).gone_is q
    ∙ none (working_uses v.numbers q (tree_slot v)) (working_uses v.numbers q (slot_beside v s working spare)) (omega (arith, used))))
  where
    none : (u w : ℕ) → 0 < w → (nat_lt 0 u && nat_eq w 0) ≡ false
    none u w some = grind (arith, nat_tests, some)

-- so the slot is the one that was laid out
pub changed-slot : (tells : Bool) (v : TreeView) (made : ℕ → Bool) (s t : Stock) (working : Entry) (spare : Option Extent)
    (gone : ℕ → Bool) → KeepsTreeBody tells v → StandsBeside tells v made s working spare gone → Drops tells v.numbers gone s t →
    IsTrue tells → tree_slot (changed_view v t working spare) ≡ slot_beside v s working spare
changed-slot tells v made s t working spare gone kept beside dropped tell =
    ap (λ (c : Version). record { committed = c; working = version_at (bytes_on t.held) working; spare = spare })
    (version-stays v.numbers (bytes_on v.held) (bytes_on t.held) v.committed
    (committed-stays tells v made s t working spare gone kept beside dropped tell))
    ∙ ap (λ (w : Version). record { committed = (tree_slot v).committed; working = w; spare = spare })
    (version-stays v.numbers (bytes_on s.held) (bytes_on t.held) working
    (working-stays tells v made s t working spare gone beside dropped tell))

-- and the bytes of both versions are those that stood there
pub changed-committed : (tells : Bool) (v : TreeView) (made : ℕ → Bool) (s t : Stock) (working : Entry) (spare : Option Extent)
    (gone : ℕ → Bool) → KeepsTreeBody tells v → StandsBeside tells v made s working spare gone → Drops tells v.numbers gone s t →
    IsTrue tells → plain_at (bytes_on t.held) v.numbers.page v.committed ≡ plain_at (bytes_on v.held) v.numbers.page v.committed
changed-committed tells v made s t working spare gone kept beside dropped tell =
    plain-stays v.numbers (bytes_on v.held) (bytes_on t.held) v.committed
    (committed-stays tells v made s t working spare gone kept beside dropped tell)

pub changed-working : (tells : Bool) (v : TreeView) (made : ℕ → Bool) (s t : Stock) (working : Entry) (spare : Option Extent)
    (gone : ℕ → Bool) → StandsBeside tells v made s working spare gone → Drops tells v.numbers gone s t →
    IsTrue tells → plain_at (bytes_on t.held) v.numbers.page working ≡ plain_at (bytes_on s.held) v.numbers.page working
changed-working tells v made s t working spare gone beside dropped tell =
    plain-stays v.numbers (bytes_on s.held) (bytes_on t.held) working
    (working-stays tells v made s t working spare gone beside dropped tell)

-- what is fresh and what goes, by counts
told-fresh : (v : TreeView) (made : ℕ → Bool) (s : Stock) → IsToldTree v.numbers v →
    ((q : ℕ) → in_set s.fresh q ≡ (made q || in_set v.fresh q)) → (q : ℕ) → in_set s.fresh q
    ≡ fresh_count (committed_uses v.numbers q (tree_slot v)) (working_uses v.numbers q (tree_slot v)) (made q)
told-fresh v made s told fresh q = fresh q ∙ ap (λ b. made q || b) (told.fresh q)

changed-told : (tells : Bool) (v : TreeView) (made : ℕ → Bool) (s t : Stock) (working : Entry) (spare : Option Extent)
    (gone : ℕ → Bool) → KeepsTreeBody tells v → StandsBeside tells v made s working spare gone → Drops tells v.numbers gone s t →
    IsTrue tells → IsToldTree v.numbers (changed_view v t working spare)
changed-told tells v made s t working spare gone kept beside dropped tell =
    let told = kept.told tell in
    let here = beside.told tell in
    let slot = slot_beside v s working spare in
    let c = λ (q : ℕ). committed_uses v.numbers q (tree_slot v) in
    let u = λ (q : ℕ). working_uses v.numbers q (tree_slot v) in
    let w = λ (q : ℕ). working_uses v.numbers q slot in
    let same = sym (changed-slot tells v made s t working spare gone kept beside dropped tell) in
    let suits = counts-of v made s working spare gone told beside.lacked here in
    let fresh = told-fresh v made s told beside.fresh_is in
    let leaving : (q : ℕ) → leaves s gone q ≡ (drops_count (u q) (w q) && fresh_count (c q) (u q) (made q)) =
    λ q. ap (λ b. b && in_set s.fresh q) (here.gone_is q) ∙ ap (λ b. drops_count (u q) (w q) && b) (fresh q) in
    record {
      committed = stands-stay v.numbers (bytes_on v.held) (bytes_on t.held) v.committed
          (committed-stays tells v made s t working spare gone kept beside dropped tell) told.committed;
      working = stands-stay v.numbers (bytes_on s.held) (bytes_on t.held) working
          (working-stays tells v made s t working spare gone beside dropped tell) here.stands;
      sound = subst (IsSoundSlot IsGood v.numbers) same here.sound;
      tail = subst (λ (x : ObjectSlot). IsTail v.numbers x.working spare) same here.tail;
      just = λ q. left-has (leaves s gone) s.held t.held q dropped.left.spans.left
          ∙ (ap (λ b. if b then false else has s.held q) (leaving q)
          ∙ (ap (λ b. if (drops_count (u q) (w q) && fresh_count (c q) (u q) (made q)) then false else b)
          (beside.holds q ∙ ap (λ b. made q || b) (told.just q))
          ∙ (beside-has (c q) (u q) (w q) (made q) (suits q)
          ∙ ap (λ (x : ObjectSlot). nat_lt 0 (committed_uses v.numbers q x + working_uses v.numbers q x)) same)));
      fresh = λ q. dropped.fresh q
          ∙ (ap (λ b. b && not (gone q)) (fresh q)
          ∙ (ap (λ b. fresh_count (c q) (u q) (made q) && not b) (here.gone_is q)
          ∙ (beside-fresh_count (c q) (u q) (w q) (made q) (suits q)
          ∙ ap (λ (x : ObjectSlot). nat_lt 0 (working_uses v.numbers q x) && nat_eq (committed_uses v.numbers q x) 0) same)));
      locked = λ q. dropped.locked q
          ∙ (ap (λ b. b || (gone q && not (in_set s.fresh q))) (beside.locked_is q ∙ told.locked q)
          ∙ (ap (λ b. (nat_lt 0 (c q) && nat_eq (u q) 0) || (b && not (in_set s.fresh q))) (here.gone_is q)
          ∙ (ap (λ b. (nat_lt 0 (c q) && nat_eq (u q) 0) || (drops_count (u q) (w q) && not b)) (fresh q)
          ∙ (beside-locked_count (c q) (u q) (w q) (made q) (suits q)
          ∙ ap (λ (x : ObjectSlot). nat_lt 0 (committed_uses v.numbers q x) && nat_eq (working_uses v.numbers q x) 0) same))));
    }

-- ---- what the object keeps

pub changed-keeps : (tells : Bool) (v : TreeView) (made : ℕ → Bool) (s t : Stock) (working : Entry) (spare : Option Extent)
    (gone : ℕ → Bool) → KeepsTreeBody tells v → StandsBeside tells v made s working spare gone → Drops tells v.numbers gone s t →
    KeepsTreeBody tells (changed_view v t working spare)
changed-keeps tells v made s t working spare gone kept beside dropped =
    let bordered = beside.gone_marked.borders in
    let next = can-drop-next tells v.numbers gone s t bordered beside.can_drop dropped in
    let apart = fresh-apart tells v made s working spare gone kept beside in
    let more = λ (q : ℕ). gone q && not (in_set s.fresh q) in
    let more_marked = marked-minus s.held gone (in_set s.fresh) more beside.gone_marked beside.can_drop.marked.borders (λ q. refl) in
    record {
      on_data = next.on_data;
      sized = next.sized;
      nodes = dropped.left.nodes beside.nodes;
      fresh = next.marked;
      locked = marked-after tells v.numbers gone (in_set t.locked) s t
          (marked-plus s.held (in_set s.locked) more (in_set t.locked) beside.locked_marked more_marked.borders more_marked.within
          dropped.locked)
          dropped (λ q there. stays (gone q) (in_set s.fresh q) (in_set s.locked q) (apart q) (sym (dropped.locked q) ∙ there));
      spare = marked-after tells v.numbers gone (in_spare spare) s t beside.spare_marked dropped
          (λ q there. ap (λ b. b && in_set s.fresh q) (beside.spare_fresh q there).1);
      spare_some = beside.spare_some;
      spare_there = beside.spare_there;
      spare_fresh = λ q there.
          let both = beside.spare_fresh q there in
          dropped.fresh q ∙ (ap (λ b. b && not (gone q)) both.0 ∙ ap not both.1);
      apart = λ q there.
          let was = and_parts (in_set s.fresh q) (not (gone q)) (sym (dropped.fresh q) ∙ there) in
          dropped.locked q ∙ (ap (λ b. b || more q) (apart q was.0) ∙ not-gone (gone q) (in_set s.fresh q) was.1);
      committed_threshold = kept.committed_threshold;
      working_threshold = beside.threshold;
      told = changed-told tells v made s t working spare gone kept beside dropped;
    }
  where
    stays : (g f l : Bool) → (f ≡ true → l ≡ false) → (l || (g && not f)) ≡ true → (g && f) ≡ false
    stays true true l apart either = absurd (false≢true (sym (ap (λ b. b || false) (apart refl)) ∙ either))
    stays true false l apart either = refl
    stays false f l apart either = refl

    not-gone : (g f : Bool) → not g ≡ true → (g && not f) ≡ false
    not-gone true f out = absurd (false≢true out)
    not-gone false f out = refl

-- ---- how the spaces move

-- no free page is locked
pub free-apart : (n : Numbers) (frame : Frame) (views : List SpaceView) (page s at : ℕ) → IsStore n frame → AreHome frame views →
    IsPlace n page s at → is_free_place views s at ≡ true → is_locked_place views s at ≡ false
free-apart n frame views page s at store home place free =
    let view = view_at views s (omega (arith, place.in_store, home.number, store.number)) in
    let out : (b : Bool) → has_page view.0.locked at ≡ b → is_locked_place views s at ≡ false =
    λ b is. not-locked views s at view.0 view.1 b is (λ locked. (home.space s view.0 view.1).apart at
    (sym (free-in views s at view.0 view.1) ∙ free) locked) in
    out (has_page view.0.locked at) refl
  where
    not-locked : (views : List SpaceView) (s at : ℕ) (v : SpaceView) → slice_get views s ≡ Some v → (b : Bool) → has_page v.locked at ≡ b →
        (IsTrue (has_page v.locked at) → ⊥) → is_locked_place views s at ≡ false
    not-locked views s at v here true is never = absurd (never is)
    not-locked views s at v here false is never = locked-in views s at v here ∙ is

pub changed-moves : (tells : Bool) (v : TreeView) (made : ℕ → Bool) (s t : Stock) (working : Entry) (spare : Option Extent)
    (gone : ℕ → Bool) (frame : Frame) (views : List SpaceView) → KeepsTreeBody tells v → StandsBeside tells v made s working spare gone →
    Drops tells v.numbers gone s t → IsTrue tells → IsStore v.numbers frame → AreHome frame views →
    (taken : AreTaken v.numbers frame made views s.rest) →
    AreLetGo v.numbers frame (drops gone (in_set s.fresh)) taken.between t.rest →
    MovesTold v.numbers frame views (tree_slot v) (tree_slot (changed_view v t working spare)) t.rest
changed-moves tells v made s t working spare gone frame views kept beside dropped tell store home taken went =
    let told = kept.told tell in
    let here = beside.told tell in
    let slot = slot_beside v s working spare in
    let same = sym (changed-slot tells v made s t working spare gone kept beside dropped tell) in
    let c = λ (q : ℕ). committed_uses v.numbers q (tree_slot v) in
    let u = λ (q : ℕ). working_uses v.numbers q (tree_slot v) in
    let w = λ (q : ℕ). working_uses v.numbers q slot in
    let suits = counts-of v made s working spare gone told beside.lacked here in
    let fresh = told-fresh v made s told beside.fresh_is in
    subst (λ (x : ObjectSlot). MovesTold v.numbers frame views (tree_slot v) x t.rest) same (record {
      after = went.after;
      told = went.told;
      home = went.home;
      moves = λ fits.
          let fit : (page s at : ℕ) → IsPlace v.numbers page s at →
          CountsFit (c page) (u page) (made page) (is_free_place views s at) (is_locked_place views s at) =
          λ page s at place. record {
            used = fits.used page s at place;
            locked = fits.locked page s at place;
            taken = taken.were page s at place;
            apart = free-apart v.numbers frame views page s at store home place;
          } in
          record {
            free = λ page sp at place. went.free page sp at place
                ∙ (ap (λ b. (gone page && in_set s.fresh page) || b) (taken.free page sp at place)
                ∙ (ap (λ b. (b && in_set s.fresh page) || (not (made page) && is_free_place views sp at)) (here.gone_is page)
                ∙ (ap (λ b. (drops_count (u page) (w page) && b) || (not (made page) && is_free_place views sp at)) (fresh page)
                ∙ beside-free_count (c page) (u page) (w page) (made page) (is_free_place views sp at) (is_locked_place views sp at)
                (suits page) (fit page sp at place))));
            locked = λ page sp at place. went.locked page sp at place
                ∙ (ap (λ b. ((gone page && not (in_set s.fresh page)) && not b)
                || (not ((gone page && in_set s.fresh page) || false) && is_locked_place taken.between sp at)) (taken.free page sp at place)
                ∙ (ap (λ b. ((gone page && not (in_set s.fresh page)) && not (not (made page) && is_free_place views sp at))
                || (not ((gone page && in_set s.fresh page) || false) && b)) (taken.locked page sp at place)
                ∙ (ap (λ b. ((b && not (in_set s.fresh page)) && not (not (made page) && is_free_place views sp at))
                || (not ((b && in_set s.fresh page) || false) && is_locked_place views sp at)) (here.gone_is page)
                ∙ (ap (λ b. ((drops_count (u page) (w page) && not b) && not (not (made page) && is_free_place views sp at))
                || (not ((drops_count (u page) (w page) && b) || false) && is_locked_place views sp at)) (fresh page)
                ∙ beside-locks_count (c page) (u page) (w page) (made page) (is_free_place views sp at) (is_locked_place views sp at)
                (suits page) (fit page sp at place)))));
          };
    })
