-- A text that goes out in several calls of a sink.
use Rattle.std.specs.Prelude.{◌≡◌, ℕ, List, ◌++◌, Option}
use Rattle.edge_io.specs.Moved.{Appends}

-- of the whole text all but `rest` was appended
abbrev pub Sent : List ℕ → List ℕ → Option (List ℕ) → Option (List ℕ) → Type 0
Sent whole rest before now = (done : List ℕ) × (whole ≡ done ++ rest) × Appends done before now
