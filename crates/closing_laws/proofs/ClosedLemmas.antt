-- A store that is closed at a moment shows that moment, and is an image.
use Rattle.std.proofs.Common.{◌≡◌, ℕ, zero, suc, ◌+◌, ◌*◌, ◌/◌, ◌<◌, ◌≤◌, Bool, false, cond, Option, None, List, length}
use Rattle.std.proofs.Common.{map, take, drop, refl, sym, ap, subst, arith, ◌∙◌, nat_eq}
use Rattle.std.specs.List.{range_with_len}
use Rattle.std.proofs.lemmas.List.{ext_get_or, take-take}
use Rattle.std.proofs.lemmas.List.FromFn.{length-map-range_with_len, get_or-map-range_with_len}
use Rattle.geometry_model.specs.Numbers.{Numbers, IsInRange, objects, space_pages}
use Rattle.geometry_model.specs.Pages.{data_page}
use Rattle.geometry_model.proofs.NumberLaws.{page_size-low}
use Rattle.block_model.specs.Block.{has_page}
use Rattle.block_model.specs.Directory.{directory_page as directory_bytes}
use Rattle.block_model.proofs.Bitmaps.{unpacked-packed}
use Rattle.block_model.specs.Bitmap.{unpacked}
use Rattle.layout_model.specs.declared.extent.Extent.{Extent}
use Rattle.moment_model.specs.Version.{Version, IsGood, version_uses}
use Rattle.moment_model.specs.Moment.{Moment, ObjectSlot, absent_slot, object_slot, IsAtRest, IsSound, committed_uses}
use Rattle.moment_model.specs.Moment.{all_committed, is_free, free_in}
use Rattle.moment_laws.proofs.SumLemmas.{part_within}
use Rattle.tree_pages.specs.Levels.{version_at, slot_at_rest, version_plain}
use Rattle.space_directory.proofs.DirectoryPages.{bitmap_of}
use Rattle.image_model.specs.Super.{image_page, IsSuper, version_in}
use Rattle.image_model.specs.Directory.{free_bits}
use Rattle.image_model.specs.Catalog.{entry_in, entry_bytes, is_entry}
use Rattle.image_model.specs.Image.{IsImage, Image, HasTree, image_pages, free_of_space, object_entry, moment_in, database_in}
use Rattle.image_model.specs.Checks.{first_refusal}
use Rattle.image_laws.proofs.RestLemmas.{at_rest, rest-free}
use Rattle.image_laws.proofs.SoundLemmas.{shown, moment-shown, image-database}
use Rattle.image_laws.proofs.GoLemmas.{image-passes, image-version}
use Rattle.image_format.proofs.EntryLemmas.{entry_in-entry_bytes}
use Rattle.closing_laws.specs.Closed.{IsClosedAt, version_entry}
use Rattle.closing_laws.proofs.EntryLemmas.{stored-has-tree, stored-shows, stored-allowed, stored-room}
use Rattle.base_laws.proofs.NumberLaws.{eights}

-- the first bytes of page 0 are the first of all
pub front-bytes : (bytes : List ℕ) (n : Numbers) → IsInRange n → take 256 (image_page n.page bytes 0) ≡ take 256 bytes
front-bytes bytes n range =
    let none : 0 * n.page ≡ 0 = omega arith in
    ap (λ (k : ℕ). take 256 (take n.page (drop k bytes))) none ∙ take-take 256 n.page bytes (page_size-low n.page range.page_size)

-- so a superblock on page 0 is one of the bytes
front-super : (bytes : List ℕ) (version : ℕ) (n : Numbers) → IsSuper (image_page n.page bytes 0) version n → IsSuper bytes version n
front-super bytes version n super = record {
  known = super.known;
  in_range = super.in_range;
  begins = sym (front-bytes bytes n super.in_range) ∙ super.begins;
}

-- ---- a slot at rest

rest-is : (slot : ObjectSlot) → IsAtRest slot → slot_at_rest slot.committed ≡ slot
rest-is slot rests =
    ap (λ (v : Version). let s : ObjectSlot = record { committed = slot.committed; working = v; spare = None } in s) (sym rests.same)
    ∙ ap (λ (spare : Option Extent). let s : ObjectSlot = record {
      committed = slot.committed;
      working = slot.working;
      spare = spare;
    } in s) (sym rests.no_spare)

-- a version of a sound moment uses each page at most once
uses-once : (n : Numbers) (moment : Moment) → IsSound IsGood n (λ o. false) moment → (o page : ℕ) →
    version_uses n page (object_slot moment o).committed ≤ 1
uses-once n moment sound o page =
    let part = part_within (committed_uses n page) absent_slot refl moment o in
    let one = sound.committed_once page in
    omega (arith, part, one)

-- ---- what the bytes show

-- the catalog says the entry of each version
closed-entry : (bytes : List ℕ) (n : Numbers) (moment : Moment) → IsSound IsGood n (λ o. false) moment → IsClosedAt n moment bytes →
    (o : ℕ) → o < objects n → object_entry n 2 bytes o ≡ version_entry (object_slot moment o).committed
closed-entry bytes n moment sound closed o inside =
    let version = (object_slot moment o).committed in
    ap (entry_in n 2) (closed.entries o inside) ∙ entry_in-entry_bytes n (version_entry version)
    (stored-room n (image_pages n bytes) version closed.super.in_range (sound.kept o).committed (closed.nodes o inside)
    (uses-once n moment sound o))

closed-slot : (bytes : List ℕ) (n : Numbers) (moment : Moment) → IsSound IsGood n (λ o. false) moment → IsClosedAt n moment bytes →
    (o : ℕ) → o < objects n →
    slot_at_rest (version_at (image_pages n bytes) (object_entry n 2 bytes o)) ≡ object_slot moment o
closed-slot bytes n moment sound closed o inside =
    let at = image_pages n bytes in
    let slot = object_slot moment o in
    ap (λ entry. slot_at_rest (version_at at entry)) (closed-entry bytes n moment sound closed o inside)
    ∙ ap slot_at_rest (stored-shows n at slot.committed (sound.kept o).committed (closed.nodes o inside))
    ∙ rest-is slot (sound.rests o refl)

pub closed-moment : (bytes : List ℕ) (n : Numbers) (moment : Moment) → IsSound IsGood n (λ o. false) moment →
    length moment ≡ objects n → IsClosedAt n moment bytes → moment_in n 2 bytes ≡ moment
unfolding moment_in
closed-moment bytes n moment sound slots closed =
    let slot : ℕ → ObjectSlot = λ o. slot_at_rest (version_at (image_pages n bytes) (object_entry n 2 bytes o)) in
    let long : length (map slot (range_with_len 0 (objects n))) ≡ objects n = length-map-range_with_len slot 0 (objects n) in
    ext_get_or absent_slot (map slot (range_with_len 0 (objects n))) moment (long ∙ sym slots)
    (λ o inside.
    let within : o < objects n = omega (arith, long, inside) in
    let start : 0 + o ≡ o = omega arith in
    get_or-map-range_with_len slot 0 (objects n) o o absent_slot within start ∙ closed-slot bytes n moment sound closed o within)

-- a directory has the free pages that it was made of
directory-back : (n : Numbers) (s : ℕ) (free : List Bool) → 4 ≤ n.order → length free ≡ space_pages n →
    free_bits n (directory_bytes n.page s free) ≡ free
unfolding free_bits
directory-back n s free low long =
    let eighth : space_pages n / 8 ≡ length free / 8 = ap (λ (k : ℕ). k / 8) (sym long) in
    let whole = eights n.order low in
    ap (λ (k : ℕ). unpacked (take k (drop 16 (directory_bytes n.page s free)))) eighth
    ∙ ap unpacked (bitmap_of n.page s free) ∙ unpacked-packed (length free / 8) free (omega (arith, whole, eighth, long))

pub closed-free : (bytes : List ℕ) (n : Numbers) (moment : Moment) → IsClosedAt n moment bytes → (s : ℕ) → s < n.spaces →
    free_of_space n bytes s ≡ free_in n moment s
closed-free bytes n moment closed s store =
    let test : ℕ → Bool = λ at. is_free n (data_page n s at) moment in
    ap (free_bits n) (closed.directories s store)
    ∙ directory-back n s (free_in n moment s) closed.super.in_range.order_low (length-map-range_with_len test 0 (space_pages n))

-- a page is free where nobody uses it, and else it is used once
used-once : (uses : ℕ) → uses ≤ 1 → uses ≡ cond (nat_eq uses 0) 0 1
used-once zero most = refl
used-once (suc zero) most = refl
used-once (suc (suc k)) most = absurd (omega (arith, most))

closed-used : (bytes : List ℕ) (n : Numbers) (moment : Moment) → IsSound IsGood n (λ o. false) moment →
    length moment ≡ objects n → IsClosedAt n moment bytes → (s at : ℕ) → s < n.spaces → at < space_pages n →
    all_committed n (data_page n s at) moment ≡ cond (has_page (free_of_space n bytes s) at) 0 1
closed-used bytes n moment sound slots closed s at store inside =
    let page = data_page n s at in
    let uses = all_committed n page moment in
    let test : ℕ → Bool = λ at. is_free n (data_page n s at) moment in
    let start : 0 + at ≡ at = omega arith in
    let back : at_rest (shown n 2 bytes) ≡ moment = sym (moment-shown n 2 bytes) ∙ closed-moment bytes n moment sound slots closed in
    let free : is_free n page moment ≡ nat_eq uses 0 =
    ap (is_free n page) (sym back) ∙ rest-free n page uses (shown n 2 bytes) (ap (all_committed n page) back) in
    let bit : has_page (free_of_space n bytes s) at ≡ nat_eq uses 0 =
    ap (λ (row : List Bool). has_page row at) (closed-free bytes n moment closed s store)
    ∙ get_or-map-range_with_len test 0 (space_pages n) at at false inside start ∙ free in
    used-once uses (sound.committed_once page) ∙ ap (λ (b : Bool). cond b 0 1) (sym bit)

-- ---- the image

pub closed-is-image : (bytes : List ℕ) (n : Numbers) (moment : Moment) → IsSound IsGood n (λ o. false) moment →
    length moment ≡ objects n → IsClosedAt n moment bytes → IsImage bytes 2 n
closed-is-image bytes n moment sound slots closed =
    let at = image_pages n bytes in
    let entry = closed-entry bytes n moment sound closed in
    let back = closed-moment bytes n moment sound slots closed in
    record {
      super = front-super bytes 2 n closed.super;
      size = closed.size;
      directories = λ s store. closed.directories s store
          ∙ ap (directory_bytes n.page s) (sym (closed-free bytes n moment closed s store));
      entries = λ o inside. closed.entries o inside ∙ ap (entry_bytes 2) (sym (entry o inside));
      allowed = λ o inside. ap (is_entry n) (entry o inside)
          ∙ stored-allowed n at (object_slot moment o).committed (sound.kept o).committed (closed.nodes o inside);
      trees = λ o inside. subst (HasTree n at) (sym (entry o inside))
          (stored-has-tree n at (object_slot moment o).committed (sound.kept o).committed (closed.nodes o inside));
      used = λ s spot store inside. ap (all_committed n (data_page n s spot)) back
          ∙ closed-used bytes n moment sound slots closed s spot store inside;
    }

pub closed-version : (bytes : List ℕ) (n : Numbers) (moment : Moment) → IsClosedAt n moment bytes → version_in bytes ≡ 2
closed-version bytes n moment closed = image-version bytes 2 n (front-super bytes 2 n closed.super)

pub closed-image : (bytes : List ℕ) (n : Numbers) (moment : Moment) → IsSound IsGood n (λ o. false) moment →
    length moment ≡ objects n → IsClosedAt n moment bytes →
    Image bytes n (map (λ slot. version_plain (image_pages n bytes) n.page slot.committed) moment) moment
closed-image bytes n moment sound slots closed =
    let version = closed-version bytes n moment closed in
    let back = closed-moment bytes n moment sound slots closed in
    let plains = map (λ (slot : ObjectSlot). version_plain (image_pages n bytes) n.page slot.committed) in
    record {
      image = subst (λ (v : ℕ). IsImage bytes v n) (sym version) (closed-is-image bytes n moment sound slots closed);
      shows = sym (ap (λ (v : ℕ). database_in n v bytes) version ∙ image-database bytes 2 n ∙ ap plains back);
      stands = sym (ap (λ (v : ℕ). moment_in n v bytes) version ∙ back);
    }

pub closed-opens : (bytes : List ℕ) (n : Numbers) (moment : Moment) → IsSound IsGood n (λ o. false) moment →
    length moment ≡ objects n → IsClosedAt n moment bytes → first_refusal bytes ≡ None
closed-opens bytes n moment sound slots closed = image-passes bytes 2 n (closed-is-image bytes n moment sound slots closed)
