-- A store in which nothing is used: its roles agree.
use Rattle.std.proofs.Common.{◌≡◌, ℕ, zero, suc, ◌+◌, ◌^◌, ◌<◌, Bool, true, false, List, [], ◌∷◌, ◌++◌, length, replicate, get_or}
use Rattle.std.proofs.Common.{cond, Some, slice_get, refl, ap, sym, ◌∙◌, subst, arith, inl, inr}
use Rattle.std.specs.Prelude.{All}
use Rattle.std.proofs.lemmas.Bool.{cases_lt}
use Rattle.std.proofs.lemmas.List.{get_or-map, get_or_past, get_or-replicate, length-map, length-replicate}
use Rattle.std.proofs.lemmas.List.Elements.{All-push, All-nil, All-get_or}
use Rattle.std.proofs.lemmas.List.Sums.{sum_by-cons}
use Rattle.std.proofs.lemmas.Option.{slice_get-get_or}
use Rattle.block_model.specs.Block.{count_of, has_page}
use Rattle.block_model.proofs.Changes.{count-le-length}
use Rattle.geometry_model.specs.Numbers.{Numbers, space_pages}
use Rattle.geometry_model.specs.Pages.{IsPlace, first_page}
use Rattle.layout_model.specs.Layout.{Tree}
use Rattle.moment_model.specs.Moment.{Moment, absent_slot, IsAllAbsent}
use Rattle.object_body.specs.Places.{is_free_place, is_locked_place}
use Rattle.space_directory.specs.SpaceView.{SpaceView, IsSpace}
use Rattle.store_moment_laws.proofs.FirstLemmas.{absent-sound, absent-tails, absent-free, absent-locked}
use Rattle.space_directory.specs.Opening.{IsRead}
use Rattle.superdirectory.specs.Solo.{rest_of, solo_of}
use Rattle.txn_rows.specs.Session.{small}
use Rattle.body_world.specs.Session.{Shown}
use Rattle.body_world.specs.Start.{RolesAgree, moment_of_parts}
use Rattle.body_world.proofs.First.{ready-first, home-first}
use Rattle.body_world.proofs.SpaceSets.{HavePages, pages-have}
use Rattle.world_rows.specs.Rows.{AreFreeSpaces, AreAbsent}

-- objects in turn
pub absent-none : {T : Type 0} (show : T → Shown) (n : Numbers) → AreAbsent show n []
absent-none show n = record { of_store = All-nil _; at_rest = All-nil _; absent = All-nil _ }

pub absent-push : {T : Type 0} (show : T → Shown) (n : Numbers) (xs : List T) (x : T) → (show x).form.numbers ≡ n
    → (show x).form.is_resting ≡ true → (show x).told.slot ≡ absent_slot → AreAbsent show n xs → AreAbsent show n (xs ++ x ∷ [])
absent-push show n xs x of rests slot absent = record {
  of_store = All-push (λ y. (show y).form.numbers ≡ n) xs x absent.of_store of;
  at_rest = All-push (λ y. (show y).form.is_resting ≡ true) xs x absent.at_rest rests;
  absent = All-push (λ y. (show y).told.slot ≡ absent_slot) xs x absent.absent slot;
}

-- where as many are in a set as there are, all are
pub all-in : (pages : List Bool) → count_of pages ≡ length pages → pages ≡ replicate (length pages) true
all-in [] same = refl
all-in (true ∷ pages) same =
    let one : count_of (true ∷ pages) ≡ 1 + count_of pages = sum_by-cons (λ (b : Bool). cond b 1 0) true pages in
    let rest : count_of pages ≡ length pages = omega (arith, same, one) in ap (λ bits. true ∷ bits) (all-in pages rest)
all-in (false ∷ pages) same =
    let none : count_of (false ∷ pages) ≡ 0 + count_of pages = sum_by-cons (λ (b : Bool). cond b 1 0) false pages in
    let most = count-le-length pages in absurd (omega (arith, most, none, same))

-- no object is there
all-absent : {T : Type 0} (show : T → Shown) (xs : List T) → All (λ x. (show x).told.slot ≡ absent_slot) xs
    → IsAllAbsent (moment_of_parts show xs)
all-absent {T} show [] all o = refl
all-absent {T} show (x ∷ xs) all o = elim (cases_lt o (length (x ∷ xs))) [
  | inl within ↦
      get_or-map (λ y. (show y).told.slot) (x ∷ xs) o x absent_slot within
      ∙ All-get_or (λ y. (show y).told.slot ≡ absent_slot) (x ∷ xs) o x within all
  | inr past ↦
      let size = length-map (x ∷ xs) (λ y. (show y).told.slot) in
      get_or_past (moment_of_parts show (x ∷ xs)) o absent_slot (omega (arith, past, size))
]

-- a page of a set in which all bits are one
all-same : (bits : List Bool) (b : Bool) (at : ℕ) → bits ≡ replicate (length bits) b → at < length bits → get_or bits at false ≡ b
all-same bits b at same within =
    ap (λ xs. get_or xs at false) same ∙ get_or-replicate (length bits) at b false within

pub roles-absent : {T : Type 0} (good : Numbers → Tree → Type 0) (show : T → Shown) (n : Numbers) (spaces : List SpaceView) (xs : List T)
    → AreFreeSpaces n spaces → AreAbsent show n xs → RolesAgree good show n spaces xs
roles-absent good show n spaces xs free absent =
    let moment : Moment = moment_of_parts show xs in
    let none : IsAllAbsent moment = all-absent show xs absent.absent in
    let has : HavePages n spaces moment =
    pages-have n (rest_of (solo_of n.page (space_pages n) spaces)).frame spaces moment (ready-first n spaces free.of_store).store
    (home-first n spaces free.of_store)
    (λ page s at is. is-free page s at is ∙ sym (absent-free n moment none page))
    (λ page s at is. is-unlocked page s at is ∙ sym (absent-locked n moment none page)) in
    record {
      sound = absent-sound good n (λ o. false) moment none;
      tails = absent-tails n moment none;
      free = has.free;
      locked = has.locked;
    }
  where
    no_view : SpaceView
    no_view = record { number = 0; first = 0; page = 0; free = []; locked = []; held = [] }

    view : ℕ → SpaceView
    view s = get_or spaces s no_view

    here : (s : ℕ) → s < n.spaces → slice_get spaces s ≡ Some (view s)
    here s below = slice_get-get_or spaces s no_view (omega (arith, below, free.of_store.number))

    is-free : (page s at : ℕ) → IsPlace n page s at → is_free_place spaces s at ≡ true
    is-free page s at is =
        let found : slice_get spaces s ≡ Some (view s) = here s is.in_store in
        let long : length (view s).free ≡ space_pages n = free.of_store.alike.count s (view s) found in
        ap (λ bits. has_page bits at) (get_or-map (λ (v : SpaceView). v.free) spaces s no_view []
        (omega (arith, is.in_store, free.of_store.number)))
        ∙ all-same (view s).free true at (free.free s (view s) found) (omega (arith, long, is.in_space))

    is-unlocked : (page s at : ℕ) → IsPlace n page s at → is_locked_place spaces s at ≡ false
    is-unlocked page s at is =
        let found : slice_get spaces s ≡ Some (view s) = here s is.in_store in
        let long : length (view s).free ≡ space_pages n = free.of_store.alike.count s (view s) found in
        let locks : length (view s).locked ≡ length (view s).free = (free.of_store.sound s (view s) found).locks in
        ap (λ bits. has_page bits at) (get_or-map (λ (v : SpaceView). v.locked) spaces s no_view []
        (omega (arith, is.in_store, free.of_store.number)))
        ∙ all-same (view s).locked false at (free.locked s (view s) found) (omega (arith, long, locks, is.in_space))

-- the only place of a list of one
one-of : (v w : SpaceView) (s : ℕ) → slice_get (v ∷ []) s ≡ Some w → (w ≡ v) × (s ≡ 0)
one-of v w zero here = (cc, refl)
one-of v w (suc s) here = absurd cc

-- a space of 16 free pages from page 4 on is all of the store of the rows
pub free-one : (page : List ℕ) (n : Numbers) (start : ℕ) (held : List (List ℕ)) (v : SpaceView) → n ≡ small → start ≡ 4
    → IsRead page n.page 0 n.order start held v → IsSpace v → count_of v.free ≡ 16 → AreFreeSpaces small (v ∷ [])
free-one page n start held v same at read sound full = record {
  of_store = record {
    number = refl;
    sound = λ s w here. subst IsSpace (sym (one-of v w s here).0) sound;
    alike = record {
      numbered = λ s w here.
          let one = one-of v w s here in ap (λ (x : SpaceView). x.number) one.0 ∙ read.number ∙ sym one.1;
      sized = λ s w here.
          ap (λ (x : SpaceView). x.page) (one-of v w s here).0 ∙ read.page_size ∙ ap (λ (k : Numbers). k.page) same;
      count = λ s w here. ap (λ (x : SpaceView). length x.free) (one-of v w s here).0 ∙ long;
    };
    firsts = λ s w here.
        let one = one-of v w s here in
        ap (λ (x : SpaceView). x.first) one.0 ∙ read.first ∙ at ∙ ap (first_page small) (sym one.1);
  };
  free = λ s w here. subst (λ (x : SpaceView). x.free ≡ replicate (length x.free) true) (sym (one-of v w s here).0)
      (all-in v.free (full ∙ sym long));
  locked = λ s w here. subst (λ (x : SpaceView). x.locked ≡ replicate (length x.locked) false) (sym (one-of v w s here).0)
      (read.unlocked ∙ ap (λ k. replicate k false) (sym (ap length read.unlocked ∙ length-replicate (2 ^ n.order) false)));
}
  where
    long : length v.free ≡ 16
    long = read.count ∙ ap (λ (k : Numbers). 2 ^ k.order) same
