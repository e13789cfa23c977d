-- The told spaces and the moment: where they are told to have just the free and the locked pages of a moment, an object fits them, and
-- spaces that moved with an object have just those of the moment after.
use Rattle.std.proofs.Common.{◌≡◌, ℕ, ◌+◌, ◌<◌, Bool, false, ◌&&◌, List, [], length, map, get_or, Some, slice_get}
use Rattle.std.proofs.Common.{nat_eq, nat_lt, refl, ap, sym, ◌∙◌, arith}
use Rattle.std.specs.List.{range_with_len}
use Rattle.std.proofs.lemmas.Bool.Decides.{nat_tests}
use Rattle.std.proofs.lemmas.List.{get_or-map, length-map, ext_get_or}
use Rattle.std.proofs.lemmas.List.FromFn.{length-range_with_len, get_or-range_with_len}
use Rattle.std.proofs.lemmas.Option.{slice_get-get_or}
use Rattle.block_model.specs.Block.{has_page}
use Rattle.geometry_model.specs.Numbers.{Numbers, space_pages}
use Rattle.geometry_model.specs.Pages.{IsPlace, data_page}
use Rattle.layout_model.specs.Grants.{Spaces}
use Rattle.layout_model.specs.Layout.{Tree}
use Rattle.moment_model.specs.Moment.{Moment, ObjectSlot, IsSound, object_slot, with_object_slot, is_free, is_locked}
use Rattle.moment_model.specs.Moment.{tests_in, free_of, locked_of}
use Rattle.moment_model.specs.Moment.{committed_uses, working_uses, all_committed, all_working}
use Rattle.moment_laws.specs.Change.{free_after, locked_after}
use Rattle.moment_laws.proofs.ChangeLemmas.{Own, own_sums, is_free-after, is_locked-after}
use Rattle.object_body.specs.Moves.{Fits, Moves}
use Rattle.object_body.specs.Places.{IsStore, AreHome, is_free_place, is_locked_place}
use Rattle.space_directory.specs.SpaceView.{SpaceView}
use Rattle.superdirectory.specs.Grants.{free_sets}
use Rattle.superdirectory.specs.Rest.{Frame}
use Rattle.body_world.specs.Keeping.{locked_sets}

-- the tests of each page, space by space
abbrev tests_of : Numbers → (ℕ → Bool) → Spaces
tests_of n test = map (λ s. tests_in n s test) (range_with_len 0 n.spaces)

tests-space : (n : Numbers) (test : ℕ → Bool) (s : ℕ) → s < n.spaces → get_or (tests_of n test) s [] ≡ tests_in n s test
tests-space n test s within =
    let long : s < length (range_with_len 0 n.spaces) = omega (arith, length-range_with_len 0 n.spaces, within) in
    get_or-map (λ k. tests_in n k test) (range_with_len 0 n.spaces) s 0 [] long
    ∙ ap (λ k. tests_in n k test) (get_or-range_with_len 0 n.spaces s 0 within ∙ omega arith)

tests-page : (n : Numbers) (test : ℕ → Bool) (s at : ℕ) → at < space_pages n → has_page (tests_in n s test) at ≡ test (data_page n s at)
tests-page n test s at within =
    let long : at < length (range_with_len 0 (space_pages n)) = omega (arith, length-range_with_len 0 (space_pages n), within) in
    get_or-map (λ (k : ℕ). test (data_page n s k)) (range_with_len 0 (space_pages n)) at 0 false long
    ∙ ap (λ (k : ℕ). test (data_page n s k)) (get_or-range_with_len 0 (space_pages n) at 0 within ∙ omega arith)

tests-at : (n : Numbers) (test : ℕ → Bool) (page s at : ℕ) → IsPlace n page s at → has_page (get_or (tests_of n test) s []) at ≡ test page
tests-at n test page s at is =
    ap (λ (x : List Bool). has_page x at) (tests-space n test s is.in_store)
    ∙ (tests-page n test s at is.in_space ∙ ap test (sym is.is_page))

length-tests : (n : Numbers) (test : ℕ → Bool) (s : ℕ) → length (tests_in n s test) ≡ space_pages n
length-tests n test s = length-map (range_with_len 0 (space_pages n)) (λ at. test (data_page n s at)) ∙ length-range_with_len 0
    (space_pages n)

-- sets of pages that agree with a test on each page are its sets
sets-same : (n : Numbers) (sets : Spaces) (test : ℕ → Bool) → length sets ≡ n.spaces
    → ((s : ℕ) → s < n.spaces → length (get_or sets s []) ≡ space_pages n)
    → ((page s at : ℕ) → IsPlace n page s at → has_page (get_or sets s []) at ≡ test page)
    → sets ≡ tests_of n test
sets-same n sets test count each agree =
    ext_get_or [] sets (tests_of n test)
    (count ∙ sym (length-map (range_with_len 0 n.spaces) (λ s. tests_in n s test) ∙ length-range_with_len 0 n.spaces))
    (λ s within.
    let there : s < n.spaces = omega (arith, count, within) in
    ext_get_or false (get_or sets s []) (get_or (tests_of n test) s [])
    (each s there ∙ sym (ap length (tests-space n test s there) ∙ length-tests n test s))
    (λ at below.
    let is : IsPlace n (data_page n s at) s at = record {
      in_store = there;
      in_space = omega (arith, each s there, below);
      is_page = refl;
    } in
    agree (data_page n s at) s at is ∙ sym (tests-at n test (data_page n s at) s at is)))

-- the sizes of told spaces at home
record AreSizes (n : Numbers) (views : List SpaceView) : Type 0 where
  pub free_count : length (free_sets views) ≡ n.spaces
  pub locked_count : length (locked_sets views) ≡ n.spaces
  pub free_each : (s : ℕ) → s < n.spaces → length (get_or (free_sets views) s []) ≡ space_pages n
  pub locked_each : (s : ℕ) → s < n.spaces → length (get_or (locked_sets views) s []) ≡ space_pages n

abbrev no_view : SpaceView
no_view = record { number = 0; first = 0; page = 0; free = []; locked = []; held = [] }

home-sizes : (n : Numbers) (frame : Frame) (views : List SpaceView) → IsStore n frame → AreHome frame views → AreSizes n views
home-sizes n frame views store home =
    let count : length views ≡ n.spaces = home.number ∙ store.number in
    record {
      free_count = length-map views (λ v. v.free) ∙ count;
      locked_count = length-map views (λ v. v.locked) ∙ count;
      free_each = λ s within.
          let below : s < length views = omega (arith, count, within) in
          let here : slice_get views s ≡ Some (get_or views s no_view) = slice_get-get_or views s no_view below in
          ap length (get_or-map (λ (v : SpaceView). v.free) views s no_view [] below)
          ∙ (home.home s (get_or views s no_view) here).pages ∙ store.pages;
      locked_each = λ s within.
          let below : s < length views = omega (arith, count, within) in
          let here : slice_get views s ≡ Some (get_or views s no_view) = slice_get-get_or views s no_view below in
          ap length (get_or-map (λ (v : SpaceView). v.locked) views s no_view [] below)
          ∙ (home.space s (get_or views s no_view) here).locks ∙ (home.home s (get_or views s no_view) here).pages ∙ store.pages;
    }

-- the told spaces have just the free and the locked pages of a moment
pub record HavePages (n : Numbers) (views : List SpaceView) (moment : Moment) : Type 0 where
  pub free : free_sets views ≡ free_of n moment
  pub locked : locked_sets views ≡ locked_of n moment

-- so it is on each page
pub free-page : (n : Numbers) (views : List SpaceView) (moment : Moment) → HavePages n views moment → (page s at : ℕ) → IsPlace n page s at
    → is_free_place views s at ≡ is_free n page moment
unfolding free_of
free-page n views moment has page s at is =
    ap (λ (sets : Spaces). has_page (get_or sets s []) at) has.free ∙ tests-at n (λ q. is_free n q moment) page s at is

pub locked-page : (n : Numbers) (views : List SpaceView) (moment : Moment) → HavePages n views moment → (page s at : ℕ)
    → IsPlace n page s at → is_locked_place views s at ≡ is_locked n page moment
unfolding locked_of
locked-page n views moment has page s at is =
    ap (λ (sets : Spaces). has_page (get_or sets s []) at) has.locked ∙ tests-at n (λ q. is_locked n q moment) page s at is

-- and from each page it is so of the sets
pub pages-have : (n : Numbers) (frame : Frame) (views : List SpaceView) (moment : Moment) → IsStore n frame → AreHome frame views
    → ((page s at : ℕ) → IsPlace n page s at → is_free_place views s at ≡ is_free n page moment)
    → ((page s at : ℕ) → IsPlace n page s at → is_locked_place views s at ≡ is_locked n page moment)
    → HavePages n views moment
unfolding free_of locked_of
pages-have n frame views moment store home free locked =
    let sizes = home-sizes n frame views store home in
    record {
      free = sets-same n (free_sets views) (λ q. is_free n q moment) sizes.free_count sizes.free_each free;
      locked = sets-same n (locked_sets views) (λ q. is_locked n q moment) sizes.locked_count sizes.locked_each locked;
    }

free-own : (c w all_c all_w : ℕ) → Own c w all_c all_w → 0 < c + w → (nat_eq all_c 0 && nat_eq all_w 0) ≡ false
free-own c w all_c all_w own some =
    let only_c = own.all_own_committed some in
    let only_w = own.all_own_working some in
    grind (arith, nat_tests, only_c, only_w)

locked-own : (c w all_c all_w : ℕ) → Own c w all_c all_w → 0 < c + w
    → (nat_lt 0 all_c && nat_eq all_w 0) ≡ (nat_lt 0 c && nat_eq w 0)
locked-own c w all_c all_w own some =
    let only_c = own.all_own_committed some in
    let only_w = own.all_own_working some in
    grind (arith, nat_tests, only_c, only_w)

-- an object of a sound moment fits the spaces
pub object-fits : (good : Numbers → Tree → Type 0) (n : Numbers) (held : ℕ → Bool) (moment : Moment) (views : List SpaceView) (o : ℕ)
    → IsSound good n held moment → HavePages n views moment → Fits n views (object_slot moment o)
object-fits good n held moment views o sound has = record {
  used = λ page s at is some.
      free-page n views moment has page s at is
      ∙ free-own (committed_uses n page (object_slot moment o)) (working_uses n page (object_slot moment o)) (all_committed n page moment)
      (all_working n page moment) (own_sums good n held moment o page sound) some;
  locked = λ page s at is some.
      locked-page n views moment has page s at is
      ∙ locked-own (committed_uses n page (object_slot moment o)) (working_uses n page (object_slot moment o)) (all_committed n page moment)
      (all_working n page moment) (own_sums good n held moment o page sound) some;
}

-- spaces that moved with an object have the pages of the moment after
pub moved-pages : (good : Numbers → Tree → Type 0) (n : Numbers) (held still : ℕ → Bool) (frame : Frame) (moment : Moment)
    (views after : List SpaceView) (o : ℕ) (slot : ObjectSlot) → IsStore n frame → AreHome frame after
    → IsSound good n held moment → IsSound good n still (with_object_slot moment o slot) → o < length moment
    → HavePages n views moment → Moves n views (object_slot moment o) slot after
    → HavePages n after (with_object_slot moment o slot)
moved-pages good n held still frame moment views after o slot store home sound sound' within has moves =
    pages-have n frame after (with_object_slot moment o slot) store home
    (λ page s at is. moves.free page s at is
    ∙ ap (λ was. free_now page was) (free-page n views moment has page s at is)
    ∙ sym (is_free-after good n held moment o slot sound within page))
    (λ page s at is. moves.locked page s at is
    ∙ ap (λ was. locked_now page was) (locked-page n views moment has page s at is)
    ∙ sym (is_locked-after good n held still moment o slot sound sound' within page))
  where
    free_now : ℕ → Bool → Bool
    free_now page was = free_after n page was (object_slot moment o) slot

    locked_now : ℕ → Bool → Bool
    locked_now page was = locked_after n page was (object_slot moment o) slot
