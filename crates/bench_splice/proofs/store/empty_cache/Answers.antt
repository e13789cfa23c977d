-- A cache that keeps no node keeps none of too many pairs.
use Rattle.std.proofs.Common.{◌≡◌, ℕ, ◌≤◌, List, [], length, IfSome, sym, subst}
use Rattle.std.specs.Prelude.{nat_eq}
use Rattle.std.specs.Map.{lookup}
use Rattle.node_codec.specs.declared.parsed.Node.{Node}
use Rattle.page_cache.specs.Kept.{KeptNodes, HaveAtMost}
use Rattle.bench_splice.proofs.store.empty_cache.Goals as goal

none-at-most : (most : ℕ) (c : KeptNodes) → c.entries ≡ [] → HaveAtMost most c
none-at-most most c none =
    λ page. subst (λ (all : List (ℕ × Node)). IfSome (lookup (nat_eq page) all) (λ n. length n.pairs.items ≤ most)) (sym none) tt

pub returns-in-Ok : goal.returns-in-Ok
returns-in-Ok c = record { kept = λ most. none-at-most most c.in-Ok.cache c.in-Ok.ensures.empty }
