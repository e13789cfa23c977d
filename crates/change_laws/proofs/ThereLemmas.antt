-- Segments whose pages are there.
use Rattle.std.proofs.Common.{◌≡◌, ℕ, ◌+◌, ◌<◌, ◌≤◌, List, [], ◌∷◌, length, map, arith}
use Rattle.std.specs.List.{AllByRecursion}
use Rattle.std.proofs.lemmas.List.Sums.{sum_by-cons}
use Rattle.tree_model.specs.declared.entry.Pair.{Pair}
use Rattle.tree_model.specs.Tree.{Pages}
use Rattle.content_laws.specs.Spelling.{IsThere}
use Rattle.moment_model.specs.Version.{covers, segment_run, uses}
use Rattle.moment_laws.proofs.GrantLemmas.{inside-counts}

-- where each page of these segments has the store's bytes, they are there
pub all-there : (at : Pages) (size : ℕ) (entries : List Pair) →
    ((q : ℕ) → 0 < uses q (map (segment_run size) entries) → length (at q) ≡ size) →
    AllByRecursion (IsThere at size) entries
all-there at size [] whole = tt
all-there at size (p ∷ ps) whole = (
  λ k below. whole (p.page + k)
      (let inside = inside-counts (p.page + k) (segment_run size p) (omega arith) (omega (arith, below)) in
      omega (arith, inside, sum_by-cons (covers (p.page + k)) (segment_run size p) (map (segment_run size) ps))),
  all-there at size ps (λ q some. whole q (omega (arith, some, sum_by-cons (covers q) (segment_run size p) (map (segment_run size) ps)))),
)
