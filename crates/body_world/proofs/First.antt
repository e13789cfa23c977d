-- The world before its first command.
use Rattle.std.proofs.Common.{◌≡◌, ℕ, zero, suc, ◌+◌, ◌<◌, ◌≤◌, Bool, true, false, List, [], ◌∷◌, length, map, replicate}
use Rattle.std.proofs.Common.{get_or, Option, Some, None, IsSome, is_some, slice_get, zero-add, refl, ap, ◌∙◌, sym, subst, arith, inl, inr}
use Rattle.std.specs.Prelude.{IsTrue, All, option_map}
use Rattle.std.specs.List.{range_with_len}
use Rattle.std.specs.Option.{option_map_or}
use Rattle.std.proofs.lemmas.Bool.{cases_lt, false≢true}
use Rattle.std.proofs.lemmas.List.{get_or-map, get_or_past, length-map}
use Rattle.std.proofs.lemmas.List.FromFn.{length-map-range_with_len, get_or-map-range_with_len}
use Rattle.std.proofs.lemmas.Option.{slice_get-map, slice_get-get_or, slice_get_within, get_or_from_slice_get}
use Rattle.base_laws.proofs.OptionLaws.{some-inner}
use Rattle.eos_ops.specs.declared.limits.TheConstants.{SESSIONS}
use Rattle.fault_count.specs.Counts.{Meter}
use Rattle.geometry_model.specs.Numbers.{Numbers, IsInRange, objects, space_pages}
use Rattle.layout_model.specs.Layout.{Tree}
use Rattle.machine.specs.Machine.{no_seat}
use Rattle.moment_model.specs.Moment.{absent_slot}
use Rattle.moment_laws.proofs.EndLemmas.{sound-held_more}
use Rattle.object_body.specs.Places.{IsReady, AreHome}
use Rattle.shadow_txn.specs.Held.{held_object}
use Rattle.shadow_txn.specs.Transaction.{Transaction}
use Rattle.space_directory.specs.SpaceView.{SpaceView}
use Rattle.store_model.specs.Store.{Store}
use Rattle.superdirectory.specs.Solo.{SoloView, rest_of, solo_of}
use Rattle.body_world.specs.Keeping.{HaveRoles, IsWorld, WorldView, is_taken}
use Rattle.body_world.specs.Session.{Shown, Seen, at_home, IsSoundSession}
use Rattle.body_world.specs.Start.{AreStoreSpaces, AreParts, RolesAgree, moment_of_parts, store_of_parts, first_txn}
use Rattle.body_world.specs.Ties.{no_txn, txn_at, held_in, place_seen, seen_at, slot_of, pages_of, seat_of, moment_seen}
use Rattle.body_world.specs.Ties.{viewed, ShareObjects}
use Rattle.body_world.proofs.Hands.{txn_at-past}
use Rattle.body_world.proofs.Viewed.{as_slot, each, each-is}

-- all objects are on the shelf, and no session has begun
abbrev pub first_shelf : {T : Type 0} → List T → List (Option T)
first_shelf xs = map Some xs

abbrev pub first_txns : {T : Type 0} → ℕ → List (Transaction T)
first_txns count = map (first_txn count) (range_with_len 0 SESSIONS)

-- where all objects are on the shelf, each is seen there
pub seen-shelf : {T : Type 0} (show : T → Shown) (xs : List T) (txns : List (Transaction T)) (o : ℕ)
    → seen_at show (first_shelf xs) txns o ≡ option_map (λ x. at_home (show x)) (slice_get xs o)
seen-shelf {T} show xs txns o =
    ap (λ place. place_seen show place (held_in show txns o)) (slice_get-map Some xs o) ∙ by (slice_get xs o)
  where
    by : (place : Option T) → place_seen show (option_map Some place) (held_in show txns o) ≡ option_map (λ x. at_home (show x)) place
    by None = refl
    by (Some x) = refl

-- there is something at each place of a list
there : {T : Type 0} (xs : List T) (o : ℕ) → o < length xs → IsSome (slice_get xs o)
there [] o below = absurd (omega (arith, below))
there (x ∷ xs) zero below = refl
there (x ∷ xs) (suc o) below = there xs o (omega (arith, below))

-- and read there
pub reads-shelf : {T A : Type 0} (read : Option Seen → A) (show : T → Shown) (xs : List T) (txns : List (Transaction T))
    → each read show (first_shelf xs) txns ≡ map (λ x. read (Some (at_home (show x)))) xs
reads-shelf {T} {A} read show xs txns =
    each-is read show (first_shelf xs) txns (map (λ x. read (Some (at_home (show x)))) xs)
    (length-map xs (λ x. read (Some (at_home (show x)))) ∙ sym (length-map xs Some))
    (λ o. ap read (seen-shelf show xs txns o) ∙ by o (slice_get xs o) refl)
  where
    past : (o : ℕ) → slice_get xs o ≡ None → length (map (λ x. read (Some (at_home (show x)))) xs) ≤ o
    past o is = elim (cases_lt o (length xs)) [
      | inl below ↦ let wrong : IsSome (slice_get xs o) = there xs o below in absurd (false≢true (sym (ap is_some is) ∙ wrong))
      | inr far ↦ let size = length-map xs (λ x. read (Some (at_home (show x)))) in omega (arith, far, size)
    ]

    by : (o : ℕ) (place : Option T) → slice_get xs o ≡ place → read (option_map (λ x. at_home (show x)) (slice_get xs o))
        ≡ get_or (map (λ x. read (Some (at_home (show x)))) xs) o (read None)
    by o None is = ap (λ place. read (option_map (λ x. at_home (show x)) place)) is
        ∙ sym (get_or_past (map (λ x. read (Some (at_home (show x)))) xs) o (read None) (past o is))
    by o (Some x) is = ap (λ place. read (option_map (λ x. at_home (show x)) place)) is
        ∙ sym (get_or_from_slice_get (map (λ x. read (Some (at_home (show x)))) xs) o (read (Some (at_home (show x)))) (read None)
        (slice_get-map (λ x. read (Some (at_home (show x)))) xs o ∙ ap (option_map (λ x. read (Some (at_home (show x))))) is))

first-seats : (T : Type 0) (count a n : ℕ) → map seat_of (map (first_txn {T = T} count) (range_with_len a n)) ≡ replicate n no_seat
first-seats T count a zero = refl
first-seats T count a (suc n) = ap (λ seats. no_seat ∷ seats) (first-seats T count (a + 1) n)

-- the store is that of the parts
pub viewed-first : {T : Type 0} (show : T → Shown) (n : Numbers) (xs : List T) (count : ℕ)
    → viewed show n (first_shelf xs) (first_txns count) ≡ store_of_parts show n SESSIONS xs
viewed-first {T} show n xs count =
    ap (λ slots. record {
      numbers = n;
      machine = record { slots = slots; seats = map seat_of (first_txns {T = T} count) };
      moment = moment_seen show (first_shelf xs) (first_txns count);
    }) (reads-shelf as_slot show xs (first_txns count))
    ∙ ap (λ seats. record {
      numbers = n;
      machine = record { slots = map (λ x. slot_of (at_home (show x))) xs; seats = seats };
      moment = moment_seen show (first_shelf xs) (first_txns count);
    }) (first-seats T count 0 SESSIONS)
    ∙ ap (λ w. record {
      numbers = n;
      machine = record { slots = map (λ x. slot_of (at_home (show x))) xs; seats = replicate SESSIONS no_seat };
      moment = w;
    }) (reads-shelf (λ seen. option_map_or pages_of seen absent_slot) show xs (first_txns count))

first-at : {T : Type 0} (count i : ℕ) → i < SESSIONS → txn_at (first_txns {T = T} count) i ≡ first_txn count i
first-at count i within = get_or-map-range_with_len (first_txn count) 0 SESSIONS i i no_txn within (zero-add i)

first-empty : {T : Type 0} (count i : ℕ) → (txn_at (first_txns {T = T} count) i).held ≡ []
first-empty {T} count i = elim (cases_lt i SESSIONS) [
  | inl within ↦ ap (λ (t : Transaction T). t.held) (first-at count i within)
  | inr past ↦
      let size : length (first_txns {T = T} count) ≡ SESSIONS = length-map-range_with_len (first_txn {T = T} count) 0 SESSIONS in
      ap (λ (t : Transaction T). t.held) (txn_at-past (first_txns count) i (omega (arith, past, size)))
]

sound-first : {T : Type 0} (xs : List T) (count i : ℕ) → count ≡ length xs → IsSoundSession (first_shelf xs) (first_txn count i)
sound-first {T} xs count i same = record {
  objects = same ∙ sym (length-map xs Some);
  few = omega arith;
  distinct = tt;
  idle = λ idle. refl;
  out = λ o x found. let wrong : held_object {T = T} o [] ≡ Some x = found in absurd cc;
}

-- the shelf and the sessions share the objects
tied-first : {T : Type 0} (xs : List T) (count : ℕ) → count ≡ length xs → ShareObjects (first_shelf xs) (first_txns count)
tied-first {T} xs count same = record {
  sessions = length-map-range_with_len (first_txn {T = T} count) 0 SESSIONS;
  numbers = λ i within. ap (λ (t : Transaction T). t.session) (first-at count i within);
  sound = λ i within. subst (IsSoundSession (first_shelf xs)) (sym (first-at count i within)) (sound-first xs count i same);
  alone = λ i j o apart some. ap (held_object o) (first-empty count j);
  taken = λ o out. absurd (home o (slice_get xs o) (sym (slice_get-map Some xs o) ∙ out));
}
  where
    home : (o : ℕ) (place : Option T) → option_map Some place ≡ Some None → ⊥
    home o None is = absurd cc
    home o (Some x) is = absurd cc

-- the spaces, before the first command
pub ready-first : (n : Numbers) (spaces : List SpaceView) → AreStoreSpaces n spaces
    → IsReady n (rest_of (solo_of n.page (space_pages n) spaces))
ready-first n spaces of = record {
  store = record {
    page = refl;
    pages = refl;
    number = length-map spaces (λ v. v.first) ∙ of.number;
    firsts = λ s below.
        let within : s < length spaces = omega (arith, below, of.number) in
        get_or-map (λ (v : SpaceView). v.first) spaces s no_view 0 within
        ∙ of.firsts s (get_or spaces s no_view) (slice_get-get_or spaces s no_view within);
  };
  none = refl;
}
  where
    no_view : SpaceView
    no_view = record { number = 0; first = 0; page = 0; free = []; locked = []; held = [] }

pub home-first : (n : Numbers) (spaces : List SpaceView) → AreStoreSpaces n spaces
    → AreHome (rest_of (solo_of n.page (space_pages n) spaces)).frame spaces
home-first n spaces of = record {
  number = sym (length-map spaces (λ v. v.first));
  space = of.sound;
  home = λ s v here. record {
    number = of.alike.numbered s v here;
    first = sym (get_or_from_slice_get (map (λ (v : SpaceView). v.first) spaces) s v.first 0
        (slice_get-map (λ (v : SpaceView). v.first) spaces s ∙ ap (option_map (λ (v : SpaceView). v.first)) here));
    page = of.alike.sized s v here;
    pages = of.alike.count s v here;
  };
}

-- what is known of all objects is known of each
all-at : {T : Type 0} (P : T → Type 0) (xs : List T) (o : ℕ) (x : T) → All P xs → slice_get xs o ≡ Some x → P x
all-at P xs o x all is = subst P (get_or_from_slice_get xs o x x is) (all o x (slice_get_within xs o x is))

-- what is seen of it
at-shelf : {T : Type 0} (show : T → Shown) (xs : List T) (txns : List (Transaction T)) (o : ℕ) (seen : Seen) (P : Seen → Type 0)
    → seen_at show (first_shelf xs) txns o ≡ Some seen → ((x : T) → slice_get xs o ≡ Some x → P (at_home (show x))) → P seen
at-shelf {T} show xs txns o seen P is each = by (slice_get xs o) refl
  where
    by : (place : Option T) → slice_get xs o ≡ place → P seen
    by None none =
        let wrong : None ≡ Some seen = sym (seen-shelf show xs txns o ∙ ap (option_map (λ x. at_home (show x))) none) ∙ is in absurd cc
    by (Some x) here =
        let same : Some (at_home (show x)) ≡ Some seen =
        sym (seen-shelf show xs txns o ∙ ap (option_map (λ x. at_home (show x))) here) ∙ is in
        subst P (some-inner (at_home (show x)) seen same) (each x here)

-- the world of parts
pub world-first : {T : Type 0} (tells : Bool) (good : Numbers → Tree → Type 0) (show : T → Shown) (n : Numbers)
    (spaces : List SpaceView) (xs : List T) (page : ℕ) → IsInRange n → AreParts show n spaces xs page
    → (IsTrue tells → RolesAgree good show n spaces xs)
    → IsWorld tells good show n (first_shelf xs) (first_txns (objects n)) (rest_of (solo_of n.page (space_pages n) spaces)) page
world-first {T} tells good show n spaces xs page range parts agree = record {
  work = record {
    range = range;
    shares = tied-first xs (objects n) (sym parts.of_objects.count);
    count = length-map xs Some ∙ parts.of_objects.count;
    of_store = λ o seen is.
        at-shelf show xs (first_txns (objects n)) o seen (λ s. s.object.form.numbers ≡ n) is (λ x here. all-at (λ x.
        (show x).form.numbers ≡ n) xs o x parts.of_objects.of_store here);
    resting = λ o seen is free.
        at-shelf show xs (first_txns (objects n)) o seen (λ s. s.object.form.is_resting ≡ true) is
        (λ x here. all-at (λ x. (show x).form.is_resting ≡ true) xs o x parts.of_objects.at_rest here);
    ready = ready-first n spaces parts.of_spaces;
    sized = parts.sized;
  };
  roles = λ tell.
      let roles = agree tell in
      subst (λ (w : Store). HaveRoles good w (rest_of (solo_of n.page (space_pages n) spaces))) (sym (viewed-first show n xs (objects n)))
      (record {
        views = spaces;
        told = refl;
        home = home-first n spaces parts.of_spaces;
        sound = sound-held_more good n (λ o. false) (is_taken (store_of_parts show n SESSIONS xs).machine) (moment_of_parts show xs)
            (λ o wrong. absurd (false≢true wrong)) roles.sound;
        tails = roles.tails;
        free = roles.free;
        locked = roles.locked;
      });
}

-- the parts as the calls made them
pub world-new : {T : Type 0} (tells : Bool) (good : Numbers → Tree → Type 0) (show : T → Shown) (n : Numbers)
    (spaces : List SpaceView) (xs : List T) (page : ℕ) (shelf : List (Option T)) (txns : List (Transaction T)) (solo : SoloView)
    → IsInRange n → AreParts show n spaces xs page → (IsTrue tells → RolesAgree good show n spaces xs)
    → shelf ≡ first_shelf xs → txns ≡ first_txns (objects n) → solo ≡ solo_of n.page (space_pages n) spaces
    → IsWorld tells good show n shelf txns (rest_of solo) page
world-new tells good show n spaces xs page shelf txns solo range parts agree on_shelf sessions of_spaces =
    subst (λ ys. IsWorld tells good show n ys txns (rest_of solo) page) (sym on_shelf)
    (subst (λ ts. IsWorld tells good show n (first_shelf xs) ts (rest_of solo) page) (sym sessions)
    (subst (λ (s : SoloView). IsWorld tells good show n (first_shelf xs) (first_txns (objects n)) (rest_of s) page) (sym of_spaces)
    (world-first tells good show n spaces xs page range parts agree)))

pub viewed-new : {T : Type 0} (show : T → Shown) (n : Numbers) (xs : List T) (shelf : List (Option T)) (txns : List (Transaction T))
    → shelf ≡ first_shelf xs → txns ≡ first_txns (objects n) → viewed show n shelf txns ≡ store_of_parts show n SESSIONS xs
viewed-new show n xs shelf txns on_shelf sessions =
    ap (λ ys. viewed show n ys txns) on_shelf ∙ ap (viewed show n (first_shelf xs)) sessions ∙ viewed-first show n xs (objects n)

-- what contracts see of a world
abbrev pub sight : Store → Meter → WorldView
sight w meter = record { store = w; meter = meter }

pub seen-new : {T : Type 0} (show : T → Shown) (n : Numbers) (xs : List T) (shelf : List (Option T)) (txns : List (Transaction T))
    (meter : Meter) → shelf ≡ first_shelf xs → txns ≡ first_txns (objects n)
    → sight (viewed show n shelf txns) meter ≡ sight (store_of_parts show n SESSIONS xs) meter
seen-new show n xs shelf txns meter on_shelf sessions = ap (λ w. sight w meter) (viewed-new show n xs shelf txns on_shelf sessions)
