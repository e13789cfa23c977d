-- A cache that keeps no node keeps none that is wrong.
use Rattle.std.proofs.Common.{◌≡◌, ℕ, ◌≤◌, List, [], length, IfSome, false, sym, subst}
use Rattle.std.proofs.lemmas.Bool.{false≢true}
use Rattle.std.specs.Prelude.{nat_eq}
use Rattle.std.specs.Map.{lookup}
use Rattle.node_codec.specs.declared.parsed.Node.{Node}
use Rattle.page_cache.specs.Kept.{KeptNodes}
use Rattle.tree_model.specs.Node.{room_of}
use Rattle.tree_model.specs.Tree.{Pages}
use Rattle.tree_read.specs.Search.{KeepsNodes}
use Rattle.splice_rows.proofs.store.empty_cache.Goals as goal

none-is-right : (at : Pages) (c : KeptNodes) → c.entries ≡ [] → KeepsNodes false 256 at c
none-is-right at c none = record {
  small = λ page.
      subst (λ (all : List (ℕ × Node)). IfSome (lookup (nat_eq page) all) (λ n. length n.pairs.items ≤ room_of 256)) (sym none) tt;
  right = λ told. absurd (false≢true told);
}

pub returns : goal.returns
returns g c = λ at. none-is-right at c.in-Ok.cache c.in-Ok.ensures.empty
