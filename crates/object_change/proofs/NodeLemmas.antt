-- The nodes that are kept, where pages come to those that are held, and where pages are written.
use Rattle.std.proofs.Common.{◌≡◌, ℕ, Bool, IsTrue, List, [], Option}
use Rattle.std.proofs.Common.{ap, arith, inl, inr}
use Rattle.std.specs.Prelude.{unwrap_or}
use Rattle.std.proofs.lemmas.Bool.{cases_lt}
use Rattle.layout_model.specs.declared.extent.Extent.{Extent}
use Rattle.moment_model.specs.Version.{uses}
use Rattle.page_cache.specs.Kept.{KeptNodes, HaveAtMost, kept}
use Rattle.span_store.specs.Held.{Held, bytes_on}
use Rattle.tree_read.specs.Search.{KeepsNodes}
use Rattle.part_bytes.specs.Runs.{ChangesRuns}
use Rattle.held_parts.specs.Asking.{AreBare}
use Rattle.held_parts.proofs.NodeLemmas.{nodes-stay}

-- pages are written for which no node is kept
pub written-nodes : (tells : Bool) (size unit : ℕ) (written : List Extent) (old new : Held) (before after : KeptNodes) →
    KeepsNodes tells size (bytes_on old) before → ChangesRuns tells unit written old new →
    ((most : ℕ) → HaveAtMost most before → HaveAtMost most after) → (IsTrue tells → AreBare written after) →
    ((q : ℕ) → uses q written ≡ 0 → kept after q ≡ kept before q) → KeepsNodes tells size (bytes_on new) after
written-nodes tells size unit written old new before after nodes changes small bare others =
    nodes-stay tells size old new before after nodes small
    (λ t q. elim (cases_lt 0 (uses q written)) [
      | inl some ↦ inr (bare t q some)
      | inr few ↦
          let out : uses q written ≡ 0 = omega (arith, few) in
          inl (others q out, ap (λ (o : Option (List ℕ)). unwrap_or o []) (changes.others q out))
    ])
