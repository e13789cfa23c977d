-- What a caller knows of every node that is kept, after a call.
use Rattle.std.proofs.Common.{◌≡◌, ◌≢◌, ℕ, ◌+◌, ◌<◌, ◌≤◌, ◌⊎◌, length, Option, Some, None, IfSome, sym, ap, subst, inl, inr, arith}
use Rattle.std.proofs.lemmas.Bool.{cases_lt}
use Rattle.std.proofs.lemmas.Bool.Decides.{eqb_tells}
use Rattle.node_codec.specs.declared.parsed.Node.{Node}
use Rattle.page_cache.specs.Kept.{KeptNodes, kept, IsNodeOf, KeepsSame, HaveAtMost}

-- a fact on each page's node stays where the same nodes are kept
pub each-same : (P : ℕ → Node → Type 0) (old new : KeptNodes) → KeepsSame old new
    → ((q : ℕ) → IfSome (kept old q) (P q)) → (q : ℕ) → IfSome (kept new q) (P q)
each-same P old new same each q =
    let Q : Option Node → Type 0 = λ o. IfSome o (P q) in
    subst Q (sym (same.each q)) (each q)

-- a node that is kept still was kept
from-old : (P : Node → Type 0) (now before : Option Node) → IfSome now (λ n. before ≡ Some n) → IfSome before P → IfSome now P
from-old P None before h p = tt
from-old P (Some n) before h p = let Q : Option Node → Type 0 = λ o. IfSome o P in subst Q h p

-- one that is the node put in has what that has
from-node : (P : Node → Type 0) (node : Node) (now : Option Node) → IfSome now (IsNodeOf node)
    → ((n : Node) → IsNodeOf node n → P n) → IfSome now P
from-node P node None stored step = tt
from-node P node (Some n) stored step = step n stored

-- a fact on each page's node stays after `keep` where it holds of the node put in
pub each-kept : (P : ℕ → Node → Type 0) (old new : KeptNodes) (page : ℕ) (node : Node)
    → ((q : ℕ) → q ≢ page → IfSome (kept new q) (λ other. kept old q ≡ Some other))
    → IfSome (kept new page) (IsNodeOf node)
    → ((n : Node) → IsNodeOf node n → P page n)
    → ((q : ℕ) → IfSome (kept old q) (P q)) → (q : ℕ) → IfSome (kept new q) (P q)
each-kept P old new page node others put here each q = elim (eqb_tells q page) [
  | inl at ↦
      let Q : ℕ → Type 0 = λ k. IfSome (kept new k) (P k) in
      subst Q (sym at.1) (from-node (P page) node (kept new page) put here)
  | inr away ↦ from-old (P q) (kept new q) (kept old q) (others q away.1) (each q)
]

-- the nodes that are kept are no larger than before
pub HaveAtMost-same : (most : ℕ) (old new : KeptNodes) → KeepsSame old new → HaveAtMost most old → HaveAtMost most new
HaveAtMost-same most old new same each = each-same (λ _ n. length n.pairs.items ≤ most) old new same each

pub HaveAtMost-kept : (most : ℕ) (old new : KeptNodes) (page : ℕ) (node : Node)
    → ((q : ℕ) → q ≢ page → IfSome (kept new q) (λ other. kept old q ≡ Some other))
    → IfSome (kept new page) (IsNodeOf node)
    → length node.pairs.items ≤ most → HaveAtMost most old → HaveAtMost most new
HaveAtMost-kept most old new page node others put fits each =
    each-kept (λ _ n. length n.pairs.items ≤ most) old new page node others put
    (λ n is. let same = ap length is.pairs in omega arith) each

-- none has what any one has
of-none : (P : Node → Type 0) (now : Option Node) → now ≡ None → IfSome now P
of-none P now none = let Q : Option Node → Type 0 = λ o. IfSome o P in subst Q (sym none) tt

-- a fact on each page's node stays after `forget_run`
pub each-left : (P : ℕ → Node → Type 0) (old new : KeptNodes) (first pages : ℕ)
    → ((q : ℕ) → first ≤ q → q < first + pages → kept new q ≡ None)
    → ((q : ℕ) → (q < first) ⊎ (first + pages ≤ q) → kept new q ≡ kept old q)
    → ((q : ℕ) → IfSome (kept old q) (P q)) → (q : ℕ) → IfSome (kept new q) (P q)
each-left P old new first pages gone others each q =
    let Q : Option Node → Type 0 = λ o. IfSome o (P q) in
    let stays : (q < first) ⊎ (first + pages ≤ q) → IfSome (kept new q) (P q) = λ away. subst Q (sym (others q away)) (each q) in
    elim (cases_lt q first) [
      | inl before ↦ stays (inl before)
      | inr from ↦ elim (cases_lt q (first + pages)) [
        | inl on ↦ of-none (P q) (kept new q) (gone q from on)
        | inr behind ↦ stays (inr behind)
      ]
    ]

pub HaveAtMost-left : (most : ℕ) (old new : KeptNodes) (first pages : ℕ)
    → ((q : ℕ) → first ≤ q → q < first + pages → kept new q ≡ None)
    → ((q : ℕ) → (q < first) ⊎ (first + pages ≤ q) → kept new q ≡ kept old q)
    → HaveAtMost most old → HaveAtMost most new
HaveAtMost-left most old new first pages gone others each =
    each-left (λ _ n. length n.pairs.items ≤ most) old new first pages gone others each
