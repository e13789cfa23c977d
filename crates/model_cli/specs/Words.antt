-- The words that a run is given.
use Rattle.std.specs.Prelude.{◌≡◌, ℕ, List, [], ◌∷◌}
use Rattle.std.specs.Fmt.{decimal}
use Rattle.geometry_model.specs.Numbers.{Numbers, IsInRange}

-- the five numbers of a store, each as its decimal digits
abbrev pub number_words : Numbers → List (List ℕ)
number_words n = decimal n.page ∷ decimal n.order ∷ decimal n.spaces ∷ decimal n.catalog
    ∷ decimal n.threshold ∷ []

-- The words are the numbers of a store. A number has no leading zeros, and being in range it has
-- 4 digits at most.
pub record AreStore (words : List (List ℕ)) (n : Numbers) : Type 0 where
  pub spelling : words ≡ number_words n
  pub range : IsInRange n
