-- An image of version 2 is closed at the moment that it shows.
use Rattle.std.proofs.Common.{◌≡◌, ℕ, ◌+◌, ◌<◌, Some, None, List, refl, sym, ap, subst, arith, ◌∙◌}
use Rattle.std.proofs.lemmas.List.FromFn.{get_or-map-range_with_len}
use Rattle.geometry_model.specs.Numbers.{Numbers, objects}
use Rattle.block_model.specs.Directory.{directory_page as directory_bytes}
use Rattle.tree_model.specs.declared.tree.Root.{Root}
use Rattle.tree_model.specs.Tree.{Pages, entries_of}
use Rattle.moment_model.specs.Moment.{ObjectSlot, absent_slot, object_slot}
use Rattle.tree_pages.specs.Entry.{Entry}
use Rattle.tree_pages.specs.Levels.{version_at, slot_at_rest}
use Rattle.tree_pages.specs.Stored.{AreWithin}
use Rattle.tree_pages.proofs.TreeLemmas.{tree-levels}
use Rattle.image_model.specs.Catalog.{entry_bytes}
use Rattle.image_model.specs.Image.{IsImage, HasTree, image_pages, object_entry, moment_in}
use Rattle.image_laws.proofs.SoundLemmas.{shown_version, image-within, image-free}
use Rattle.closing_laws.specs.Closed.{IsClosedAt, IsStored, version_entry}
use Rattle.closing_laws.proofs.ClosedLemmas.{front-bytes}

shown-entry : (n : Numbers) (at : Pages) (entry : Entry) → AreWithin n.page at → HasTree n at entry →
    version_entry (version_at at entry) ≡ entry
shown-entry n at None within tree = refl
shown-entry n at (Some present) within tree =
    let levels = tree-levels n at present.root (entries_of at present.root.height present.root.page) within tree.0 in
    ap (λ (root : Root). let entry : Entry = Some (record { root = root; threshold = present.threshold }) in entry) levels.back

shown-stored : (n : Numbers) (at : Pages) (entry : Entry) → AreWithin n.page at → HasTree n at entry →
    IsStored at (version_at at entry)
shown-stored n at None within tree = tt
shown-stored n at (Some present) within tree =
    (tree-levels n at present.root (entries_of at present.root.height present.root.page) within tree.0).stored

shown-slot : (bytes : List ℕ) (n : Numbers) (o : ℕ) → o < objects n →
    object_slot (moment_in n 2 bytes) o ≡ slot_at_rest (shown_version n 2 bytes o)
unfolding moment_in
shown-slot bytes n o inside =
    let start : 0 + o ≡ o = omega arith in
    get_or-map-range_with_len (λ (o : ℕ). slot_at_rest (shown_version n 2 bytes o)) 0 (objects n) o o absent_slot inside start

pub image-closed : (bytes : List ℕ) (n : Numbers) → IsImage bytes 2 n → IsClosedAt n (moment_in n 2 bytes) bytes
image-closed bytes n image =
    let at = image_pages n bytes in
    let within = image-within n bytes in
    record {
      size = image.size;
      super = record {
        known = image.super.known;
        in_range = image.super.in_range;
        begins = front-bytes bytes n image.super.in_range ∙ image.super.begins;
      };
      entries = λ o inside. image.entries o inside ∙ ap (entry_bytes 2)
          (sym (ap (λ (slot : ObjectSlot). version_entry slot.committed) (shown-slot bytes n o inside)
          ∙ shown-entry n at (object_entry n 2 bytes o) within (image.trees o inside)));
      directories = λ s store. image.directories s store
          ∙ ap (directory_bytes n.page s) (sym (image-free bytes 2 n image s store));
      nodes = λ o inside. subst (λ (slot : ObjectSlot). IsStored at slot.committed) (sym (shown-slot bytes n o inside))
          (shown-stored n at (object_entry n 2 bytes o) within (image.trees o inside));
    }
