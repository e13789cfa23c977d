-- What closing writes, and what stands where it was cut short.
use Rattle.std.proofs.Common.{◌≡◌, ℕ, zero, suc, ◌+◌, ◌*◌, ◌<◌, ◌≤◌}
use Rattle.std.proofs.Common.{Bool, true, cond, IsTrue, List, [], ◌∷◌, length, get_or}
use Rattle.std.proofs.Common.{map, refl, sym, ap, subst, ◌∙◌, arith, ◌⊎◌, inl, inr, Some, None, is_some, count_by}
use Rattle.std.specs.Prelude.{slice_get, Result, Ok, Err, IsErr, OnErr}
use Rattle.std.proofs.lemmas.Bool.{cases_Bool, cases_lt}
use Rattle.std.proofs.lemmas.Simd.{map-map}
use Rattle.std.proofs.lemmas.List.{length-map, get_or-map}
use Rattle.std.proofs.lemmas.List.Sums.{sum_by-cons}
use Rattle.std.proofs.lemmas.Option.{slice_get_within, get_or_from_slice_get}
use Rattle.std.proofs.lemmas.List.FromFn.{length-map-range_with_len}
use Rattle.base_laws.proofs.OptionLaws.{some-if, none-unless}
use Rattle.geometry_model.specs.Numbers.{Numbers, objects, pages}
use Rattle.geometry_model.specs.Pages.{directory_page, first_page, place, IsPlace}
use Rattle.geometry_model.proofs.PageLaws.{IsPlace-from_place}
use Rattle.block_model.specs.Directory.{directory_page as directory_bytes}
use Rattle.eos_ops.specs.declared.plain.Plain.{Plain}
use Rattle.tree_model.specs.Tree.{Pages}
use Rattle.moment_model.specs.Moment.{ObjectSlot, Moment, absent_slot, object_slot, IsAtRest, free_in}
use Rattle.tree_pages.specs.Entry.{Entry}
use Rattle.tree_pages.specs.Levels.{version_plain}
use Rattle.image_model.specs.Super.{IsSuper}
use Rattle.image_model.specs.Catalog.{entry_bytes}
use Rattle.image_model.specs.Image.{Image, image_pages}
use Rattle.image_laws.proofs.SoundLemmas.{image-within}
use Rattle.closing_laws.specs.Closed.{IsClosedAt, IsStored, version_entry}
use Rattle.closing_laws.proofs.ClosedLemmas.{closed-image, closed-version}
use Rattle.page_port.specs.Device.{Device}
use Rattle.span_store.specs.Held.{has}
use Rattle.space_directory.specs.SpaceView.{SpaceView}
use Rattle.object_body.specs.Places.{is_free_place}
use Rattle.store_format.specs.Writing.{IsStoreWritten, IsCutShort}
use Rattle.store_format.proofs.RowLemmas.{same-pages}
use Rattle.fault_count.specs.Counts.{HasCause, counted}
use Rattle.store_parts.specs.Fixed.{FixedView}
use Rattle.store_parts.specs.Parts.{PartsView, StoredView, AreParts, StandFor, store_frame}
use Rattle.store_parts.specs.Pages.{ArePartsOnce, ShowParts, holders}
use Rattle.store_parts.specs.Opening.{AreBack, IsClosedStore}
use Rattle.store_parts.proofs.PartLemmas.{holds}
use Rattle.store_parts.proofs.AbandonLemmas.{directory-or-data}
use Rattle.image_store.specs.Closing.{closed_directory, closed_front, AreFixedWritten, AreFixedCut}
use Rattle.image_store.proofs.ObjectLemmas.{IsClosedObject, object-closed}
use Rattle.image_store.proofs.CatalogLemmas.{length-closed, closed-super, closed-entry}

-- the parts with other pages of no object
abbrev pub with_fixed : PartsView → FixedView → PartsView
with_fixed parts fixed = record parts { fixed = fixed }

-- what pages show of parts doesn't rest on the port
pub same-shown : (parts : PartsView) (page : ℕ) (at : Pages) → ShowParts (record parts { page = page }) at → ShowParts parts at
same-shown parts page at shown =
    record { front = shown.front; directories = shown.directories; free = shown.free; held = shown.held }

-- what was written of these spaces and objects was written of the parts that they are
pub written-parts : {X : Type 0} (f : X → StoredView) (n : Numbers) (spaces told : List SpaceView) (xs those : List X)
    (fixed : FixedView) → told ≡ spaces → those ≡ xs →
    AreFixedWritten n (closed_directory n told) (closed_front n (map (λ (x : X). (f x).entry) those)) fixed →
    AreFixedWritten n (closed_directory n spaces) (closed_front n (map (λ (y : StoredView). y.entry) (map f xs))) fixed
written-parts {X} f n spaces told xs those fixed same alike written =
    subst (λ (es : List Entry). AreFixedWritten n (closed_directory n spaces) (closed_front n es) fixed)
    (sym (map-map (λ (y : StoredView). y.entry) f xs))
    (subst (λ (vs : List SpaceView). AreFixedWritten n (closed_directory n vs) (closed_front n (map (λ (x : X). (f x).entry) xs)) fixed)
    same (subst (λ (ys : List X). AreFixedWritten n (closed_directory n told) (closed_front n (map (λ (x : X). (f x).entry) ys)) fixed)
    alike written))

-- ---- a data page holds what it held

a-holder : (xs : List StoredView) (q : ℕ) → 1 ≤ count_by (holds q) xs →
    (o : ℕ) × (x : StoredView) × (slice_get xs o ≡ Some x) × (has x.pages q ≡ true)
a-holder [] q some = absurd (omega (arith, some))
a-holder (y ∷ ys) q some =
    elim (cases_Bool (has y.pages q)) [
      | inl mine ↦ (0, y, refl, mine)
      | inr other ↦
          let none : ◌≡◌ {A = ℕ} (cond (has y.pages q) 1 0) 0 = ap (λ (b : Bool). cond {A = ℕ} b 1 0) other in
          let later = a-holder ys q (omega (arith, sum_by-cons (λ (z : StoredView). cond (holds q z) 1 0) y ys, none, some)) in
          (suc later.0, later.1, later.2, later.3)
    ]

data-stays : (parts : PartsView) (fixed : FixedView) (at now : Pages) (q s place : ℕ) → ArePartsOnce parts → ShowParts parts at →
    ShowParts (with_fixed parts fixed) now → IsPlace parts.numbers q s place → now q ≡ at q
data-stays parts fixed at now q s place once before after here =
    elim (cases_Bool (is_free_place parts.spaces s place)) [
      | inl free ↦ after.free q s place here free ∙ sym (before.free q s place here free)
      | inr used ↦
          let one : holders parts q ≡ 1 = once q s place here ∙ ap (λ (b : Bool). cond {A = ℕ} b 0 1) used in
          let found = a-holder parts.objects q (omega (arith, one)) in
          after.held found.0 q found.1 found.2 found.3 ∙ sym (before.held found.0 q found.1 found.2 found.3)
    ]

behind-stays : (parts : PartsView) (fixed : FixedView) (at now : Pages) (q : ℕ) → ArePartsOnce parts → ShowParts parts at →
    ShowParts (with_fixed parts fixed) now → 1 + parts.numbers.catalog ≤ q → q < pages parts.numbers →
    ((s : ℕ) → s < parts.numbers.spaces → q ≡ directory_page parts.numbers s → now q ≡ at q) → now q ≡ at q
behind-stays parts fixed at now q once before after from inside directory =
    let n = parts.numbers in
    elim (cases_Bool (is_some (place n q))) [
      | inl some ↦
          let spot = some-if (place n q) some in
          data-stays parts fixed at now q spot.0.0 spot.0.1 once before after (IsPlace-from_place n q spot.0.0 spot.0.1 spot.1)
      | inr none ↦
          let spot = directory-or-data n q from inside (none-unless (place n q) none) in
          directory spot.0 spot.1 spot.2
    ]

pub fixed-written : (parts : PartsView) (fixed : FixedView) (directories : ℕ → List ℕ) (front : List ℕ) (at now : Pages) →
    ArePartsOnce parts →
    ShowParts parts at → ShowParts (with_fixed parts fixed) now → AreFixedWritten parts.numbers directories front fixed →
    IsStoreWritten parts.numbers directories front at now
fixed-written parts fixed directories front at now once before after written = record {
  directories = λ s store. after.directories s store ∙ written.directories s store;
  front = λ q inside. after.front q inside ∙ written.front q inside;
  others = λ q inside from none. behind-stays parts fixed at now q once before after from inside
      (λ s store is. absurd (none s store is));
}

pub fixed-cut : (parts : PartsView) (fixed : FixedView) (directories : ℕ → List ℕ) (done : ℕ) (at now : Pages) → ArePartsOnce parts →
    ShowParts parts at → ShowParts (with_fixed parts fixed) now → AreFixedCut parts.numbers directories done parts.fixed fixed →
    IsCutShort parts.numbers directories at now
fixed-cut parts fixed directories done at now once before after cut =
    let n = parts.numbers in
    record {
      done = done;
      within = cut.within;
      stand = λ s below. after.directories s (omega (arith, below, cut.within)) ∙ cut.stand s below;
      others = λ q inside none front. elim (cases_lt q (1 + n.catalog)) [
        | inl low ↦ elim (cases_lt done n.spaces) [
          | inl some ↦ after.front q low ∙ (cut.front q some ∙ sym (before.front q low))
          | inr all ↦ let past = front (omega (arith, all, cut.within)) in absurd (omega (arith, past, low))
        ]
        | inr high ↦ behind-stays parts fixed at now q once before after high inside (λ s store is.
            elim (cases_lt done s) [
              | inl behind ↦ ap now is ∙ (after.directories s store
                  ∙ (cut.behind s behind store ∙ (sym (before.directories s store) ∙ ap at (sym is))))
              | inr low ↦ absurd (none s (omega (arith, low)) is)
            ])
      ];
    }

-- ---- a closed store is an image

got : {X : Type 0} (xs : List X) (o : ℕ) → o < length xs → (x : X) × (slice_get xs o ≡ Some x)
got [] o inside = absurd (omega (arith, inside))
got (x ∷ xs) zero inside = (x, refl)
got (x ∷ xs) (suc o) inside = got xs o (omega (arith, inside))

mapped-at : {X Y : Type 0} (f : X → Y) (xs : List X) (o : ℕ) (x : X) (d : Y) → slice_get xs o ≡ Some x → get_or (map f xs) o d ≡ f x
mapped-at f xs o x d at =
    get_or-map f xs o x d (slice_get_within xs o x at) ∙ ap f (get_or_from_slice_get xs o x x at)

space-free : (tells : Bool) (parts : PartsView) (moment : Moment) (database : List Plain) (s : ℕ) → AreParts tells parts →
    StandFor database moment parts → s < parts.numbers.spaces →
    get_or (map (λ (v : SpaceView). v.free) parts.spaces) s [] ≡ free_in parts.numbers moment s
space-free tells parts moment database s sound stands store =
    let n = parts.numbers in
    let firsts : length (store_frame n).firsts ≡ n.spaces = length-map-range_with_len (first_page n) 0 n.spaces in
    let at = got parts.spaces s (omega (arith, sound.spaces.number, firsts, store)) in
    mapped-at (λ (v : SpaceView). v.free) parts.spaces s at.0 [] at.1 ∙ stands.free s at.0 at.1

-- the object of a number
object-at : (tells : Bool) (parts : PartsView) (o : ℕ) → AreParts tells parts → o < objects parts.numbers →
    (x : StoredView) × (slice_get parts.objects o ≡ Some x)
object-at tells parts o sound inside = got parts.objects o (omega (arith, sound.number, inside))

pub store-closed : (tells : Bool) (parts : PartsView) (fixed : FixedView) (database : List Plain) (moment : Moment) (bytes : List ℕ) →
    IsTrue tells → AreParts tells parts → StandFor database moment parts →
    ShowParts (with_fixed parts fixed) (image_pages parts.numbers bytes) →
    AreFixedWritten parts.numbers (closed_directory parts.numbers parts.spaces)
    (closed_front parts.numbers (map (λ (x : StoredView). x.entry) parts.objects)) fixed →
    pages parts.numbers * parts.numbers.page ≤ length bytes → IsClosedAt parts.numbers moment bytes
store-closed tells parts fixed database moment bytes tell sound stands shown written size =
    let n = parts.numbers in
    let entries = map (λ (x : StoredView). x.entry) parts.objects in
    let many : length entries ≡ objects n = length-map parts.objects (λ (x : StoredView). x.entry) ∙ sound.number in
    let rows : (1 + n.catalog) * n.page ≤ pages n * n.page = omega arith in
    let front = same-pages n.page (1 + n.catalog) bytes (closed_front n entries) (length-closed n entries sound.in_range many)
    (omega (arith, size, rows)) (λ q inside. shown.front q inside ∙ written.front q inside) in
    let closed : (o : ℕ) → o < objects n → (x : StoredView) × (slice_get parts.objects o ≡ Some x)
    × (object_slot moment o ≡ x.told.slot) × IsClosedObject n (image_pages n bytes) x = λ o inside.
    let at = object-at tells parts o sound inside in
    let x : StoredView = at.0 in
    let slot : object_slot moment o ≡ x.told.slot =
    ap (λ (m : Moment). object_slot m o) (sym stands.slots)
    ∙ mapped-at (λ (y : StoredView). y.told.slot) parts.objects o x absent_slot at.1 in (
      x,
      at.1,
      slot,
      object-closed tells n (image_pages n bytes) x tell (sound.objects o x at.1)
          (subst IsAtRest slot (stands.sound.rests o refl)) (image-within n bytes) (λ q is. shown.held o q x at.1 is),
    ) in
    record {
      size = size;
      super = subst (λ (page : List ℕ). IsSuper page 2 n) (sym (shown.front 0 (omega arith) ∙ written.front 0 (omega arith)))
          (closed-super n entries sound.in_range);
      entries = λ o inside.
          let c = closed o inside in
          closed-entry n bytes entries o sound.in_range many inside front
          ∙ ap (entry_bytes 2) (mapped-at (λ (y : StoredView). y.entry) parts.objects o c.0 None c.1
          ∙ (c.3.entry ∙ ap (λ (s : ObjectSlot). version_entry s.committed) (sym c.2)));
      directories = λ s store. shown.directories s store ∙ (written.directories s store
          ∙ ap (directory_bytes n.page s) (space-free tells parts moment database s sound stands store));
      nodes = λ o inside. let c = closed o inside in
          subst (λ (s : ObjectSlot). IsStored (image_pages n bytes) s.committed) (sym c.2) c.3.stored;
    }

-- the bytes of the database are those of the moment's versions
plains-closed : (n : Numbers) (at : Pages) (xs : List StoredView) →
    ((o : ℕ) (x : StoredView) → slice_get xs o ≡ Some x → IsClosedObject n at x) →
    map (λ (slot : ObjectSlot). version_plain at n.page slot.committed) (map (λ (x : StoredView). x.told.slot) xs)
    ≡ map (λ (x : StoredView). x.told.working) xs
plains-closed n at [] each = refl
plains-closed n at (x ∷ xs) each =
    ap (λ (p : Plain). p ∷ map (λ (slot : ObjectSlot). version_plain at n.page slot.committed) (map (λ (x : StoredView). x.told.slot) xs))
    (sym (each 0 x refl).plain)
    ∙ ap (λ (ps : List Plain). x.told.working ∷ ps) (plains-closed n at xs (λ o y got. each (suc o) y got))

pub closed-store : (tells : Bool) (parts : PartsView) (fixed : FixedView) (database : List Plain) (moment : Moment)
    (before after : Device) → IsTrue tells → AreParts tells parts → StandFor database moment parts →
    AreBack (with_fixed parts fixed) before after →
    AreFixedWritten parts.numbers (closed_directory parts.numbers parts.spaces)
    (closed_front parts.numbers (map (λ (x : StoredView). x.entry) parts.objects)) fixed →
    IsClosedStore parts.numbers database moment before after
closed-store tells parts fixed database moment before after tell sound stands back written =
    let n = parts.numbers in
    let bytes = after.bytes in
    let at = image_pages n bytes in
    let size : pages n * n.page ≤ length bytes = omega (arith, back.count) in
    let closed = store-closed tells parts fixed database moment bytes tell sound stands back.shows written size in
    let slots : length moment ≡ objects n =
    ap length (sym stands.slots) ∙ (length-map parts.objects (λ (x : StoredView). x.told.slot) ∙ sound.number) in
    let each : (o : ℕ) (x : StoredView) → slice_get parts.objects o ≡ Some x → IsClosedObject n at x = λ o x got.
    let slot : object_slot moment o ≡ x.told.slot =
    ap (λ (m : Moment). object_slot m o) (sym stands.slots)
    ∙ mapped-at (λ (y : StoredView). y.told.slot) parts.objects o x absent_slot got in
    object-closed tells n at x tell (sound.objects o x got)
    (subst IsAtRest slot (stands.sound.rests o refl)) (image-within n bytes) (λ q is. back.shows.held o q x got is) in
    let plains : map (λ (slot : ObjectSlot). version_plain at n.page slot.committed) moment ≡ database =
    ap (map (λ (slot : ObjectSlot). version_plain at n.page slot.committed)) (sym stands.slots)
    ∙ (plains-closed n at parts.objects each ∙ stands.working) in
    record {
      home = back.home;
      image = subst (λ (d : List Plain). Image bytes n d moment) plains (closed-image bytes n moment stands.sound slots closed);
      version = closed-version bytes n moment closed;
      behind = back.behind;
    }

-- ---- faults

-- the port's faults, of which the last may be the closing's own
pub close-counted : (before faults closed now : ℕ) → faults ≤ closed → counted before closed ≤ now → counted before faults ≤ now
close-counted before faults closed now never has = omega (arith, never, has)

pub close-raised : {A E : Type 0} (result : Result A E) (before faults closed now : ℕ) → HasCause faults closed (IsErr result) →
    counted before closed ≤ now → OnErr result (counted before (faults + 1) ≤ now)
close-raised (Ok v) before faults closed now cause has = tt
close-raised (Err e) before faults closed now cause has = let rose = cause.raised refl in omega (arith, rose, has)

pub close-cause : (failure : Type 0) (before faults closed now : ℕ) → HasCause faults closed failure →
    HasCause before now (0 < closed) → HasCause before now ((0 < faults) ⊎ failure)
close-cause failure before faults closed now written taken = record {
  kept = taken.kept;
  raised = λ failed. taken.raised (some failed);
  still = λ fine. taken.still (λ rose. none fine (written.still (λ bad. fine (inr bad))) rose);
}
  where
    some : (0 < faults) ⊎ failure → 0 < closed
    some (inl before) = let kept = written.kept in omega (arith, before, kept)
    some (inr bad) = let rose = written.raised bad in omega (arith, rose)

    none : ((0 < faults) ⊎ failure → ⊥) → closed ≡ faults → 0 < closed → ⊥
    none fine same rose = fine (inl (omega (arith, same, rose)))
