-- The words that a run is given.
use Rattle.std.specs.Prelude.{ℕ, List, [], ◌∷◌, Bool, false, not, ◌&&◌, ◌==◌, codes}
use Rattle.std.specs.Str.{bytes_eq}

-- a name of an image: some bytes, of which the first is no `-`
abbrev pub is_image : List ℕ → Bool
is_image [] = false
is_image (b ∷ bytes) = not (b == 45)

-- `script` and an image
abbrev pub is_script : List (List ℕ) → Bool
is_script [] = false
is_script (command ∷ []) = false
is_script (command ∷ image ∷ []) = bytes_eq command (codes "script") && is_image image
is_script (command ∷ image ∷ word ∷ words) = false
