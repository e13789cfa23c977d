-- The test of a page by two lists of runs: those that committed versions use, and those that
-- working ones use.
use Rattle.std.specs.Prelude.{ℕ, Bool, true, false, not, ◌&&◌, List, nat_eq}
use Rattle.layout_model.specs.declared.extent.Extent.{Extent}
use Rattle.moment_model.specs.Version.{uses}

-- no working run has the page, and a committed one has it where it is asked for locked pages,
-- else none has it
abbrev pub is_in : Bool → List Extent → List Extent → ℕ → Bool
is_in false committed working page = nat_eq (uses page committed) 0 && nat_eq (uses page working) 0
is_in true committed working page =
    not (nat_eq (uses page committed) 0) && nat_eq (uses page working) 0
