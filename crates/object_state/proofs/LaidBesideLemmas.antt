-- A new working version that was laid out on granted pages, beside the old one: it is sound with the committed one.
use Rattle.std.proofs.Common.{◌≡◌, ℕ, ◌+◌, ◌<◌, ◌≤◌, false, IsTrue, List, [], Option, Some, sym, ap, subst, arith, ◌∙◌}
use Rattle.std.proofs.Common.{inl, inr, ◌⊎◌, nat_lt}
use Rattle.std.specs.Prelude.{unwrap_or}
use Rattle.std.proofs.lemmas.Bool.{cases_lt, ltb-false}
use Rattle.geometry_model.specs.Numbers.{Numbers}
use Rattle.layout_model.specs.declared.extent.Extent.{Extent}
use Rattle.layout_model.specs.Layout.{Laid, Tree}
use Rattle.moment_model.specs.Moment.{committed_uses, working_uses}
use Rattle.moment_model.specs.Version.{IsGood, IsGoodVersion, Version, spare_uses, uses, version_uses}
use Rattle.moment_laws.specs.ByObject.{IsSoundSlot}
use Rattle.change_laws.specs.Laying.{IsLaidOn}
use Rattle.change_laws.specs.Tail.{IsTail}
use Rattle.tree_pages.specs.Entry.{Entry}
use Rattle.tree_pages.specs.Levels.{version_at}
use Rattle.tree_pages.specs.Stored.{StaysOn}
use Rattle.span_store.specs.Held.{bytes_on, has, page_at}
use Rattle.object_state.specs.Tree.{TreeView, tree_slot}
use Rattle.object_state.specs.Keeps.{IsToldTree}
use Rattle.object_state.specs.Drops.{Stock}
use Rattle.object_state.specs.Beside.{slot_beside}
use Rattle.object_state.proofs.EndTables.{some-count}

-- The pages show the version that was laid out on the granted ones, with its spare; and none of these was held.
pub record IsLaidBeside (n : Numbers) (v : TreeView) (granted : List Extent) (s : Stock) (working : Entry) (spare : Option Extent)
    (tree : Tree) (after : Laid) : Type 0 where
  pub was : (tree_slot v).working ≡ Some tree
  pub is : version_at (bytes_on s.held) working ≡ Some after.tree
  pub spare_is : spare ≡ after.spare
  pub good : IsLaidOn n tree v.spare granted after
  pub once : (q : ℕ) → uses q granted ≤ 1
  pub lacked : (q : ℕ) → 0 < uses q granted → has v.held q ≡ false
  pub used : (q : ℕ) → uses q granted ≤ version_uses n q (Some after.tree) + spare_uses q after.spare

-- a page that isn't held is used by neither version
pub unheld-unused : (n : Numbers) (v : TreeView) → IsToldTree n v → (q : ℕ) → has v.held q ≡ false →
    committed_uses n q (tree_slot v) + working_uses n q (tree_slot v) ≡ 0
unheld-unused n v told q out =
    let none = ltb-false 0 (committed_uses n q (tree_slot v) + working_uses n q (tree_slot v)) (sym (told.just q) ∙ out) in
    omega (arith, none)

-- how often the new version and its spare use a page
pub uses-beside : (n : Numbers) (v : TreeView) (granted : List Extent) (s : Stock) (working : Entry) (spare : Option Extent) (tree : Tree)
    (after : Laid) → IsLaidBeside n v granted s working spare tree after → (q : ℕ) →
    working_uses n q (slot_beside v s working spare) ≡ version_uses n q (Some after.tree) + spare_uses q after.spare
uses-beside n v granted s working spare tree after laid q =
    ap (λ (w : Version). version_uses n q w + spare_uses q spare) laid.is
    ∙ ap (λ (o : Option Extent). version_uses n q (Some after.tree) + spare_uses q o) laid.spare_is

pub uses-before : (n : Numbers) (v : TreeView) (granted : List Extent) (s : Stock) (working : Entry) (spare : Option Extent) (tree : Tree)
    (after : Laid) → IsLaidBeside n v granted s working spare tree after → (q : ℕ) →
    working_uses n q (tree_slot v) ≡ version_uses n q (Some tree) + spare_uses q v.spare
uses-before n v granted s working spare tree after laid q =
    ap (λ (w : Version). version_uses n q w + spare_uses q v.spare) laid.was

-- it uses only pages that were granted, or that the old one or its spare used
pub laid-within : (n : Numbers) (v : TreeView) (granted : List Extent) (s : Stock) (working : Entry) (spare : Option Extent) (tree : Tree)
    (after : Laid) → IsLaidBeside n v granted s working spare tree after → (q : ℕ) →
    0 < working_uses n q (slot_beside v s working spare) → nat_lt 0 (uses q granted) ≡ false → 0 < working_uses n q (tree_slot v)
laid-within n v granted s working spare tree after laid q some out =
    let new = uses-beside n v granted s working spare tree after laid q in
    let old = uses-before n v granted s working spare tree after laid q in
    let within = laid.good.within q in
    let none = ltb-false 0 (uses q granted) out in
    omega (arith, new, old, within, none, some)

-- and each granted one
pub laid-used : (n : Numbers) (v : TreeView) (granted : List Extent) (s : Stock) (working : Entry) (spare : Option Extent) (tree : Tree)
    (after : Laid) → IsLaidBeside n v granted s working spare tree after → (q : ℕ) → IsTrue (nat_lt 0 (uses q granted)) →
    0 < working_uses n q (slot_beside v s working spare)
laid-used n v granted s working spare tree after laid q there =
    let new = uses-beside n v granted s working spare tree after laid q in
    let used = laid.used q in
    let some = some-count (uses q granted) there in
    omega (arith, new, used, some)

-- so it is sound with the committed one
pub laid-sound : (n : Numbers) (v : TreeView) (granted : List Extent) (s : Stock) (working : Entry) (spare : Option Extent) (tree : Tree)
    (after : Laid) → IsToldTree n v → IsLaidBeside n v granted s working spare tree after →
    IsSoundSlot IsGood n (slot_beside v s working spare)
laid-sound n v granted s working spare tree after told laid = record {
  committed = told.sound.committed;
  working = subst (IsGoodVersion IsGood n) (sym laid.is) laid.good.good;
  committed_once = told.sound.committed_once;
  working_once = λ q.
      let new = uses-beside n v granted s working spare tree after laid q in
      let old = uses-before n v granted s working spare tree after laid q in
      let within = laid.good.within q in
      let once = told.sound.working_once q in
      let one = laid.once q in
      elim (cases_lt 0 (uses q granted)) [
        | inl some ↦
            let none = unheld-unused n v told q (laid.lacked q some) in
            omega (arith, new, old, within, one, none)
        | inr none ↦ omega (arith, new, old, within, once, none)
      ];
  spare_apart = λ q some.
      let within = laid.good.spare_within q in
      let here : spare_uses q spare ≡ spare_uses q after.spare = ap (spare_uses q) laid.spare_is in
      elim (cases_lt 0 (spare_uses q v.spare)) [
        | inl old ↦ told.sound.spare_apart q old
        | inr none ↦
            let new : 0 < uses q granted = omega (arith, within, here, none, some) in
            let unused = unheld-unused n v told q (laid.lacked q new) in
            omega (arith, unused)
      ];
}

pub laid-tail : (n : Numbers) (v : TreeView) (granted : List Extent) (s : Stock) (working : Entry) (spare : Option Extent) (tree : Tree)
    (after : Laid) → IsLaidBeside n v granted s working spare tree after → IsTail n (version_at (bytes_on s.held) working) spare
laid-tail n v granted s working spare tree after laid =
    subst (λ (o : Option Extent). IsTail n (version_at (bytes_on s.held) working) o) (sym laid.spare_is)
    (subst (λ (w : Version). IsTail n w after.spare) (sym laid.is) laid.good.tail)

-- the committed version stays where it stands: it has none of the pages that were granted, and no spare one
pub granted-stays : (n : Numbers) (v : TreeView) (granted : List Extent) (s : Stock) → IsToldTree n v →
    ((q : ℕ) → 0 < uses q granted → has v.held q ≡ false) →
    ((q : ℕ) → uses q granted ≡ 0 → spare_uses q v.spare ≡ 0 → page_at s.held q ≡ page_at v.held q) →
    StaysOn n (tree_slot v).committed (bytes_on v.held) (bytes_on s.held)
granted-stays n v granted s told lacked others = λ q used.
    ap (λ (o : Option (List ℕ)). unwrap_or o [])
    (others q (not_granted q used (cases_lt 0 (uses q granted))) (not_spare q used (cases_lt 0 (spare_uses q v.spare))))
  where
    not_granted : (q : ℕ) → 0 < committed_uses n q (tree_slot v) → (0 < uses q granted) ⊎ (uses q granted ≤ 0) → uses q granted ≡ 0
    not_granted q used (inl some) = let none = unheld-unused n v told q (lacked q some) in absurd (omega (arith, none, used))
    not_granted q used (inr none) = omega (arith, none)

    not_spare : (q : ℕ) → 0 < committed_uses n q (tree_slot v) → (0 < spare_uses q v.spare) ⊎ (spare_uses q v.spare ≤ 0) →
        spare_uses q v.spare ≡ 0
    not_spare q used (inl some) = let out = told.sound.spare_apart q some in absurd (omega (arith, out, used))
    not_spare q used (inr none) = omega (arith, none)
