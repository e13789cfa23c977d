-- Worked moments of a store of three objects: the first is committed and being edited, the second is made anew.
use Rattle.std.proofs.Common.{◌≡◌, ℕ, zero, suc, Bool, true, false, refl, Option, Some, None, List, [], ◌∷◌}
use Rattle.geometry_model.specs.Numbers.{Numbers}
use Rattle.layout_model.specs.Layout.{Tree}
use Rattle.moment_model.specs.Moment.{ObjectSlot, Moment, absent_slot, count_pages, free_of, locked_of}
use Rattle.moment_model.specs.Edit.{settled, undone}
use Rattle.moment_model.specs.Run.{changed_where}
use Rattle.store_moment_laws.specs.Each.{changed_each}

abbrev small : Numbers
small = record { page = 256; order = 4; spaces = 1; catalog = 1; threshold = 2 }

-- so many bytes in one segment from a page on, under a root
abbrev one_segment : ℕ → ℕ → ℕ → Option Tree
one_segment root page bytes = Some (record {
  levels = (record { page = root; pairs = record { bytes = bytes; page = page } ∷ [] } ∷ []) ∷ [];
  threshold = 2;
})

abbrev three : Moment
three =
    record { committed = one_segment 9 3 512; working = one_segment 10 5 512; spare = None }
    ∷ record { committed = None; working = one_segment 11 7 256; spare = Some (record { page = 8; pages = 1 }) }
    ∷ absent_slot ∷ []

-- the first two are held
abbrev first_two : ℕ → Bool
first_two zero = true
first_two (suc zero) = true
first_two (suc (suc o)) = false

settled_together : changed_where first_two settled 0 three ≡ changed_each settled (1 ∷ 0 ∷ []) three
settled_together = refl

undone_together : changed_where first_two undone 0 three ≡ changed_each undone (0 ∷ 1 ∷ 0 ∷ []) three
undone_together = refl

-- of the sixteen pages three are locked, six in use
counted : (count_pages (free_of small three) ≡ 7) × (count_pages (locked_of small three) ≡ 3)
unfolding free_of locked_of
counted = (refl, refl)
