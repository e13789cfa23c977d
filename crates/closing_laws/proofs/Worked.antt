-- A worked store that is closed: 256 bytes a page, one space of 16 pages from page 3 on. Object 1 has threshold 2, 300
-- bytes on pages 3 and 4, 256 on page 5, and its node on page 6. Object 2 is there and has no byte.
use Rattle.std.proofs.Common.{◌≡◌, ℕ, zero, suc, ◌<◌, ◌≤◌, Bool, true, refl, Some, None, List, [], ◌∷◌, ◌++◌, replicate}
use Rattle.std.proofs.Common.{false, length, inl, subst, sym, arith}
use Rattle.std.specs.Str.{bytes_eq}
use Rattle.std.proofs.lemmas.Bool.{agree_below_at}
use Rattle.std.proofs.lemmas.Bool.Decides.{nat_tests}
use Rattle.std.proofs.lemmas.Slice.Eq.{bytes_eq-Decides}
use Rattle.geometry_model.specs.Numbers.{Numbers, is_in_range, objects}
use Rattle.geometry_model.specs.Pages.{place, directory_page}
use Rattle.geometry_model.proofs.NumberLaws.{IsInRange-from_test}
use Rattle.block_model.specs.Directory.{directory_page as directory_bytes}
use Rattle.eos_ops.specs.declared.plain.Plain.TheVariants.{Absent, Present}
use Rattle.tree_model.specs.declared.entry.Pair.{Pair}
use Rattle.tree_model.specs.Node.{pair_bytes, head_bytes}
use Rattle.layout_model.specs.Levels.{PageNode}
use Rattle.layout_model.specs.Layout.{Tree}
use Rattle.moment_model.specs.Version.{Version, IsGood}
use Rattle.moment_model.specs.Moment.{Moment, ObjectSlot, absent_slot, object_slot, all_committed, free_in, IsSound}
use Rattle.image_model.specs.Super.{image_page, super_bytes}
use Rattle.image_model.specs.Catalog.{entry_at, entry_bytes}
use Rattle.image_model.specs.Image.{Image, image_pages}
use Rattle.image_laws.proofs.RestLemmas.{at_rest, AreGood, rest-sound}
use Rattle.closing_laws.specs.Closed.{IsClosedAt, IsStored, version_entry}
use Rattle.closing_laws.proofs.ClosedLemmas.{closed-image}

abbrev numbers : Numbers
numbers = record { page = 256; order = 4; spaces = 1; catalog = 1; threshold = 1 }

-- ---- the moment

abbrev first : Pair
first = record { bytes = 300; page = 3 }

abbrev second : Pair
second = record { bytes = 256; page = 5 }

abbrev leaf : PageNode
leaf = record { page = 6; pairs = first ∷ second ∷ [] }

abbrev tree : Tree
tree = record { levels = (leaf ∷ []) ∷ []; threshold = 2 }

abbrev empty : Tree
empty = record { levels = []; threshold = 1 }

abbrev versions : List Version
versions = None ∷ Some tree ∷ Some empty ∷ replicate 13 None

abbrev moment : Moment
moment = at_rest versions

-- ---- the pages

-- EOSBUDDY, version 2, 256 bytes a page, order 4, kind 0, one space, one catalog page, threshold 1
abbrev super : List ℕ
super = 69 ∷ 79 ∷ 83 ∷ 66 ∷ 85 ∷ 68 ∷ 68 ∷ 89 ∷ 0 ∷ 0 ∷ 0 ∷ 2 ∷ 0 ∷ 0 ∷ 1 ∷ 0 ∷ 4 ∷ 0 ∷ 0 ∷ 1 ∷ 0 ∷ 1 ∷ 0 ∷ 1 ∷ replicate 232 0

-- object 1: present, height 1, threshold 2, root 6, length 556. Object 2: present, height 0, threshold 1
abbrev catalog : List ℕ
catalog =
    replicate 16 0 ++ (1 ∷ 1 ∷ 0 ∷ 2 ∷ 0 ∷ 0 ∷ 0 ∷ 6 ∷ 0 ∷ 0 ∷ 0 ∷ 0 ∷ 0 ∷ 0 ∷ 2 ∷ 44
    ∷ 1 ∷ 0 ∷ 0 ∷ 1 ∷ replicate 220 0)

-- DIR1, space 0, 12 free pages: all but the first four
abbrev directory : List ℕ
directory = 68 ∷ 73 ∷ 82 ∷ 49 ∷ 0 ∷ 0 ∷ 0 ∷ 0 ∷ 0 ∷ 0 ∷ 0 ∷ 12 ∷ 0 ∷ 0 ∷ 0 ∷ 0 ∷ 15 ∷ 255 ∷ replicate 238 0

-- level 1, two pairs: 300 bytes from page 3 on, 256 on page 5
abbrev node : List ℕ
node =
    78 ∷ 1 ∷ 0 ∷ 2 ∷ 0 ∷ 0 ∷ 0 ∷ 0 ∷ 0 ∷ 0 ∷ 0 ∷ 0 ∷ 0 ∷ 0 ∷ 1 ∷ 44 ∷ 0 ∷ 0 ∷ 0 ∷ 3
    ∷ 0 ∷ 0 ∷ 0 ∷ 0 ∷ 0 ∷ 0 ∷ 1 ∷ 0 ∷ 0 ∷ 0 ∷ 0 ∷ 5 ∷ replicate 224 0

abbrev image : List ℕ
image =
    super ++ (catalog ++ (directory ++ (replicate 300 90 ++ (replicate 212 0
    ++ (replicate 256 89 ++ (node ++ replicate 3072 0))))))

-- ---- the moment is sound

tree-good : IsGood numbers tree
unfolding place
tree-good = record {
  shape = ((record { low = omega arith; high = omega arith }, tt), refl);
  nodes = ((refl, tt), tt);
  segments = (
    record {
      some = omega arith;
      most = omega arith;
      together = (0, record { in_store = omega arith; from = omega arith; to = omega arith });
    },
    (
      record {
        some = omega arith;
        most = omega arith;
        together = (0, record { in_store = omega arith; from = omega arith; to = omega arith });
      },
      tt,
    ),
  );
  neighbours = (inl (omega arith), tt);
  threshold_low = omega arith;
  threshold_high = omega arith;
}

empty-good : IsGood numbers empty
empty-good = record {
  shape = tt;
  nodes = tt;
  segments = tt;
  neighbours = tt;
  threshold_low = omega arith;
  threshold_high = omega arith;
}

all-good : AreGood numbers versions
all-good = (tt, (tree-good, (empty-good, absent-good 13)))
  where
    absent-good : (count : ℕ) → AreGood numbers (replicate count None)
    absent-good zero = tt
    absent-good (suc count) = (tt, absent-good count)

is-sound : IsSound IsGood numbers (λ o. false) moment
is-sound = rest-sound numbers versions all-good used-once
  where
    used-once : (page : ℕ) → all_committed numbers page moment ≤ 1
    used-once page = grind (arith, nat_tests)

-- ---- the pages are those of the moment

absent-rest : (count o : ℕ) → object_slot (replicate count absent_slot) o ≡ absent_slot
absent-rest zero o = refl
absent-rest (suc count) zero = refl
absent-rest (suc count) (suc o) = absent-rest count o

leaf-stored : IsStored (image_pages numbers image) (Some tree)
unfolding pair_bytes head_bytes
leaf-stored = (
  (
    record {
      sound = record {
        low = omega arith;
        high = omega arith;
        some = omega arith;
        room = omega arith;
        count_fits = omega arith;
        each = (
          record { some = omega arith; count_fits = omega arith; page_fits = omega arith },
          (record { some = omega arith; count_fits = omega arith; page_fits = omega arith }, tt),
        );
      };
      bytes = refl;
    },
    tt,
  ),
  tt,
)

is-closed : IsClosedAt numbers moment image
unfolding super_bytes entry_bytes is_in_range
is-closed = record {
  size = let long : length image ≡ 4864 = refl in omega (arith, long);
  super = record { known = refl; in_range = IsInRange-from_test numbers refl; begins = refl };
  entries = entries;
  directories = directories;
  nodes = nodes;
}
  where
    entry_test : ℕ → Bool
    entry_test o = bytes_eq (entry_at numbers image o) (entry_bytes 2 (version_entry (object_slot moment o).committed))

    entries : (o : ℕ) → o < objects numbers →
        entry_at numbers image o ≡ entry_bytes 2 (version_entry (object_slot moment o).committed)
    entries o inside = (bytes_eq-Decides _ _).0 (agree_below_at entry_test (λ _. true) 16 o refl inside)

    directories : (s : ℕ) → s < 1 → image_page 256 image (directory_page numbers s)
        ≡ directory_bytes 256 s (free_in numbers moment s)
    directories zero store = refl
    directories (suc s) store = absurd (omega (arith, store))

    nodes : (o : ℕ) → o < objects numbers → IsStored (image_pages numbers image) (object_slot moment o).committed
    nodes zero inside = tt
    nodes (suc zero) inside = leaf-stored
    nodes (suc (suc zero)) inside = tt
    nodes (suc (suc (suc o))) inside =
        subst (λ (slot : ObjectSlot). IsStored (image_pages numbers image) slot.committed) (sym (absent-rest 13 o)) tt

-- so they are an image of its bytes
is-image : Image image numbers (Absent ∷ Present (replicate 300 90 ++ replicate 256 89) ∷ Present [] ∷ replicate 13 Absent) moment
is-image = closed-image image numbers moment is-sound refl is-closed
