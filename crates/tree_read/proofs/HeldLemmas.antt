-- A page on which a node stands is held.
use Rattle.std.proofs.Common.{◌≡◌, ℕ, true, List, [], length, ap, refl, subst, arith}
use Rattle.std.specs.Prelude.{Option, None, Some, is_some, unwrap_or}
use Rattle.tree_model.specs.Node.{HoldsNode}
use Rattle.span_store.specs.Held.{HoldsRun, Held, bytes_on, has, page_at}

-- a node's page isn't empty
no-node : (page : List ℕ) → page ≡ [] → HoldsNode page → ⊥
no-node page e h =
    let none = ap length e in
    let room = h.sound.room in
    absurd (omega arith)

-- nothing stands on a page that isn't held, so one that holds a node is held
some-HoldsNode : (o : Option (List ℕ)) → HoldsNode (unwrap_or o []) → is_some o ≡ true
some-HoldsNode None h = absurd (no-node [] refl h)
some-HoldsNode (Some page) h = refl

pub held-HoldsNode : (held : Held) (page : ℕ) → HoldsNode (bytes_on held page) → has held page ≡ true
held-HoldsNode held page h = some-HoldsNode (page_at held page) h
