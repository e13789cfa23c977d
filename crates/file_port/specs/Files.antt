-- Pages of a file: their numbers alone, since no contract knows what a file holds.
use Rattle.std.specs.Prelude.{ℕ, List, [], Option, replicate}
use Rattle.page_port.specs.Device.{Device}

-- pages in a row
pub record Extent : Type 0 where
  pub first : ℕ
  pub count : ℕ

-- as many pages, of which nothing is told
abbrev pub untold : ℕ → List (List ℕ)
untold count = replicate count []

-- the device of a file, of whose bytes nothing is told
abbrev pub file_device : Option ℕ → ℕ → Device
file_device mounted faults = record { bytes = []; pages = []; mounted = mounted; faults = faults }
