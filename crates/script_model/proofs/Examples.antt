-- The lines of scripts, computed on texts worked by hand.
use Rattle.std.proofs.Common.{◌≡◌, refl, [], ◌∷◌, ◌++◌, codes}
use Rattle.script_model.specs.Transcript.{script_lines}

-- an empty line is a line, and a last line needs no line feed
unended : script_lines (codes "ab" ++ 10 ∷ 10 ∷ codes "c") ≡ codes "ab" ∷ [] ∷ codes "c" ∷ []
unended = refl

ended : script_lines (codes "ab" ++ 10 ∷ []) ≡ codes "ab" ∷ []
ended = refl

empty : script_lines [] ≡ []
empty = refl
