-- Lists of bytes.
use Rattle.std.proofs.Common.{◌<◌, ℕ, zero, suc, List, [], ◌∷◌, get_or, lit<}
use Rattle.std.specs.List.{AllByRecursion}

-- each place of a list of bytes has a byte
pub each-byte : (bytes : List ℕ) → AllByRecursion (λ byte. byte < 256) bytes → (i : ℕ) → get_or bytes i 0 < 256
each-byte [] all i = lit< tt
each-byte (b ∷ bs) all zero = all.0
each-byte (b ∷ bs) all (suc i) = each-byte bs all.1 i
