-- The nodes that are kept, where pages come to those that are held, and where pages are written.
use Rattle.std.proofs.Common.{◌≡◌, ℕ, Bool, IsTrue, List, [], length, Option, Some, None, IfSome}
use Rattle.std.proofs.Common.{refl, sym, ap, subst, arith, inl, inr, ◌⊎◌}
use Rattle.std.specs.Prelude.{unwrap_or}
use Rattle.std.proofs.lemmas.Bool.{cases_lt}
use Rattle.tree_model.specs.Node.{NodeBytes, room_of}
use Rattle.layout_model.specs.declared.extent.Extent.{Extent}
use Rattle.moment_model.specs.Version.{uses}
use Rattle.node_codec.specs.declared.parsed.Node.{Node}
use Rattle.page_cache.specs.Kept.{KeptNodes, HaveAtMost, kept}
use Rattle.span_store.specs.Held.{AllSized, Held, HeldSpan, bytes_on, page_at}
use Rattle.tree_read.specs.Search.{KeepsNodes}
use Rattle.held_parts.specs.Asking.{AreBare}
use Rattle.held_parts.specs.Holding.{HoldsGranted}

-- on no bytes stands no node
no-node : (bytes : List ℕ) (node : Node) → bytes ≡ [] → NodeBytes bytes node.level node.pairs.items → ⊥
no-node bytes node none stands =
    let short : length bytes ≡ 0 = ap length none in
    let room = stands.sound.room in
    omega (arith, room, short)

-- for a page that isn't held no node is kept
pub none-kept : (tells : Bool) (size : ℕ) (held : Held) (c : KeptNodes) (q : ℕ) → IsTrue tells → KeepsNodes tells size (bytes_on held) c →
    page_at held q ≡ None → kept c q ≡ None
none-kept tells size held c q t nodes lacked = go (kept c q) (nodes.right t q)
  where
    none : bytes_on held q ≡ []
    none = ap (λ (o : Option (List ℕ)). unwrap_or o []) lacked

    go : (o : Option Node) → IfSome o (λ n. NodeBytes (bytes_on held q) n.level n.pairs.items) → o ≡ None
    go None stands = refl
    go (Some node) stands = absurd (no-node (bytes_on held q) node none stands)

pub granted-bare : (tells : Bool) (size : ℕ) (runs : List Extent) (old new : Held) (c : KeptNodes) → IsTrue tells →
    KeepsNodes tells size (bytes_on old) c → HoldsGranted None runs old new → AreBare runs c
granted-bare tells size runs old new c t nodes granted = λ q some. none-kept tells size old c q t nodes (granted.lacked q some)

-- the nodes stay right where the pages that they are kept for stay, and no other node is kept
pub nodes-stay : (tells : Bool) (size : ℕ) (old new : Held) (before after : KeptNodes) → KeepsNodes tells size (bytes_on old) before →
    ((most : ℕ) → HaveAtMost most before → HaveAtMost most after) →
    (IsTrue tells → (q : ℕ) → ((kept after q ≡ kept before q) × (bytes_on new q ≡ bytes_on old q)) ⊎ (kept after q ≡ None)) →
    KeepsNodes tells size (bytes_on new) after
nodes-stay tells size old new before after nodes small each = record {
  small = small (room_of size) nodes.small;
  right = λ t q. elim (each t q) [
    | inl same ↦
        subst (λ (o : Option Node). IfSome o (λ n. NodeBytes (bytes_on new q) n.level n.pairs.items)) (sym same.0)
        (subst (λ (bytes : List ℕ). IfSome (kept before q) (λ n. NodeBytes bytes n.level n.pairs.items)) (sym same.1) (nodes.right t q))
    | inr none ↦
        subst (λ (o : Option Node). IfSome o (λ n. NodeBytes (bytes_on new q) n.level n.pairs.items)) (sym none) tt
  ];
}

pub granted-nodes : (tells : Bool) (size : ℕ) (runs : List Extent) (old new : Held) (c : KeptNodes) →
    KeepsNodes tells size (bytes_on old) c → HoldsGranted None runs old new → KeepsNodes tells size (bytes_on new) c
granted-nodes tells size runs old new c nodes granted =
    nodes-stay tells size old new c c nodes (λ most few. few)
    (λ t q. elim (cases_lt 0 (uses q runs)) [
      | inl some ↦ inr (none-kept tells size old c q t nodes (granted.lacked q some))
      | inr few ↦ inl (refl, ap (λ (o : Option (List ℕ)). unwrap_or o []) (granted.others q (omega (arith, few)) refl))
    ])

-- in other room
pub spans-nodes : (tells : Bool) (size : ℕ) (old new : Held) (c : KeptNodes) → new.spans ≡ old.spans →
    KeepsNodes tells size (bytes_on old) c → KeepsNodes tells size (bytes_on new) c
spans-nodes tells size old new c same nodes =
    subst (λ (ss : List HeldSpan). KeepsNodes tells size (bytes_on (record { spans = ss; room = 0 })) c) (sym same) nodes

pub spans-sized : (tells : Bool) (size : ℕ) (old new : Held) → new.spans ≡ old.spans → AllSized tells size old → AllSized tells size new
spans-sized tells size old new same sized = λ t q.
    subst (λ (ss : List HeldSpan). IfSome (page_at (record { spans = ss; room = 0 }) q) (λ page. length page ≡ size)) (sym same)
    (sized t q)
