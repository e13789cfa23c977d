-- The checks of a node and of all below it, one after the other.
use Rattle.std.proofs.Common.{◌≡◌, ℕ, suc, ◌/◌, Bool, true, false, Option, Some, None, List}
use Rattle.std.proofs.Common.{refl, sym, ap, subst, ◌∙◌, arith, nat_eq}
use Rattle.geometry_model.specs.Numbers.{Numbers, fan_out}
use Rattle.tree_model.specs.declared.entry.Pair.{Pair}
use Rattle.tree_model.specs.Node.{NodeBytes, node_in}
use Rattle.tree_model.specs.Tree.{bytes_of}
use Rattle.tree_model.proofs.NodeLemmas.{node_in-pairs}
use Rattle.span_store.specs.Held.{Held, bytes_on, has}
use Rattle.image_model.specs.Super.{image_page}
use Rattle.std.proofs.lemmas.Bool.{ne_eqb}
use Rattle.image_model.specs.Checks.{Walk, Checked, then_check, check, check_node, check_segment, each}
use Rattle.image_model.specs.Checks.Refusal.{BadTree}
use Rattle.image_check.specs.declared.failure.CheckFail.{CheckFail}
use Rattle.image_check.specs.declared.failure.CheckFail.TheVariants.{BadTree as TreeFails}
use Rattle.image_check.specs.Owners.{KeptWalk, IsMarked}
use Rattle.image_check.specs.Verdicts.{Judged, Shows, check_head, check_named, check_pairs}
use Rattle.image_check.proofs.JudgedLemmas.{Claims-none, Judged-check, Judged-same, Judged-stop, Judged-then, Judged-uncheck}
use Rattle.image_check.proofs.EachLemmas.{node-parts}

-- the pairs that were read are those of the page
pub pairs-same : (n : Numbers) (held : Held) (bytes : List ℕ) (page level : ℕ) (pairs : List Pair) → has held page ≡ true →
    Shows n bytes held → NodeBytes (bytes_on held page) level pairs → pairs ≡ (node_in (image_page n.page bytes page)).pairs
pairs-same n held bytes page level pairs on shows node =
    sym (node_in-pairs (bytes_on held page) level pairs node) ∙ ap (λ (p : List ℕ). (node_in p).pairs) (shows.pages page on)

abbrev NamedIs : Type 0 → Numbers → Held → ℕ → ℕ → ℕ → ℕ → Pair → KeptWalk → KeptWalk → Option CheckFail → Type 0
NamedIs T n held o threshold level least pair old new fail =
    Judged T n held o old new fail (λ bytes. check_named n bytes o threshold level least pair)

-- no node has level 0
pub named-none : (T : Type 0) (n : Numbers) (held : Held) (o threshold least : ℕ) (pair : Pair) (kept : KeptWalk) →
    IsMarked n held kept → NamedIs T n held o threshold 0 least pair kept kept (Some (TreeFails o))
named-none T n held o threshold least pair kept marked =
    record { marked = marked; claims = Claims-none o kept; more = omega arith; judges = λ t bytes walk shows is. refl }

-- the sum of the node, which is checked last
abbrev sum_check : Numbers → List ℕ → ℕ → Pair → Walk → Checked
sum_check n bytes o pair =
    check (nat_eq (bytes_of (node_in (image_page n.page bytes pair.page)).pairs) pair.bytes) (BadTree o)

abbrev pairs_check : Numbers → List ℕ → ℕ → ℕ → ℕ → Pair → Walk → Checked
pairs_check n bytes o threshold below pair =
    check_pairs n bytes o threshold below (node_in (image_page n.page bytes pair.page)).pairs

abbrev HeadIs : Type 0 → Numbers → Held → ℕ → ℕ → ℕ → Pair → KeptWalk → KeptWalk → Option CheckFail → Type 0
HeadIs T n held o level least pair old new fail =
    Judged T n held o old new fail (λ bytes. check_head n bytes o level least pair.page)

-- the node is in its parts
parted : (T : Type 0) (n : Numbers) (held : Held) (o threshold below level least : ℕ) (pair : Pair) (old new : KeptWalk)
    (fail : Option CheckFail) → suc below ≡ level →
    Judged T n held o old new fail (λ bytes walk. then_check (then_check (check_head n bytes o level least pair.page walk)
    (pairs_check n bytes o threshold below pair)) (sum_check n bytes o pair)) →
    NamedIs T n held o threshold level least pair old new fail
parted T n held o threshold below level least pair old new fail up judged =
    Judged-same T n held o old new fail (λ bytes walk. then_check (then_check (check_head n bytes o level least pair.page walk)
    (pairs_check n bytes o threshold below pair)) (sum_check n bytes o pair))
    (λ bytes. check_named n bytes o threshold level least pair)
    (λ t bytes walk shows. ap (λ (c : Checked). then_check c (sum_check n bytes o pair)) (sym (parts bytes walk))) judged
  where
    parts : (bytes : List ℕ) (walk : Walk) → check_node n bytes o threshold level least pair.page walk
        ≡ then_check (check_head n bytes o level least pair.page walk) (pairs_check n bytes o threshold below pair)
    parts bytes walk = subst (λ (k : ℕ). check_node n bytes o threshold k least pair.page walk
        ≡ then_check (check_head n bytes o k least pair.page walk) (pairs_check n bytes o threshold below pair)) up
        (node-parts n bytes o threshold below least pair.page walk)

-- the first checks fail
pub named-unentered : (T : Type 0) (n : Numbers) (held : Held) (o threshold below level least : ℕ) (pair : Pair) (old new : KeptWalk)
    (fail : CheckFail) → suc below ≡ level → HeadIs T n held o level least pair old new (Some fail) →
    NamedIs T n held o threshold level least pair old new (Some fail)
named-unentered T n held o threshold below level least pair old new fail up head =
    parted T n held o threshold below level least pair old new (Some fail) up
    (Judged-stop T n held o old new fail (λ bytes walk. then_check (check_head n bytes o level least pair.page walk)
    (pairs_check n bytes o threshold below pair)) (λ bytes. sum_check n bytes o pair)
    (Judged-stop T n held o old new fail (λ bytes. check_head n bytes o level least pair.page)
    (λ bytes. pairs_check n bytes o threshold below pair) head))

-- what the node's pairs name is checked with the pairs that were read
read-pairs : (T : Type 0) (n : Numbers) (held : Held) (o threshold below level : ℕ) (pair : Pair) (pairs : List Pair)
    (old new : KeptWalk) (fail : Option CheckFail) → has held pair.page ≡ true → (T → NodeBytes (bytes_on held pair.page) level pairs) →
    Judged T n held o old new fail (λ bytes. check_pairs n bytes o threshold below pairs) →
    Judged T n held o old new fail (λ bytes. pairs_check n bytes o threshold below pair)
read-pairs T n held o threshold below level pair pairs old new fail on node judged =
    Judged-same T n held o old new fail (λ bytes. check_pairs n bytes o threshold below pairs)
    (λ bytes. pairs_check n bytes o threshold below pair)
    (λ t bytes walk shows. ap (λ (ps : List Pair). check_pairs n bytes o threshold below ps walk)
    (pairs-same n held bytes pair.page level pairs on shows (node t))) judged

-- it fails
pub named-unpassed : (T : Type 0) (n : Numbers) (held : Held) (o threshold below level least found : ℕ) (pair : Pair) (pairs : List Pair)
    (old mid new : KeptWalk) (fail : CheckFail) → suc below ≡ level → HeadIs T n held o level least pair old mid None →
    has held pair.page ≡ true → (T → NodeBytes (bytes_on held pair.page) found pairs) →
    Judged T n held o mid new (Some fail) (λ bytes. check_pairs n bytes o threshold below pairs) →
    NamedIs T n held o threshold level least pair old new (Some fail)
named-unpassed T n held o threshold below level least found pair pairs old mid new fail up head on node judged =
    parted T n held o threshold below level least pair old new (Some fail) up
    (Judged-stop T n held o old new fail (λ bytes walk. then_check (check_head n bytes o level least pair.page walk)
    (pairs_check n bytes o threshold below pair)) (λ bytes. sum_check n bytes o pair)
    (Judged-then T n held o old mid new (Some fail) (λ bytes. check_head n bytes o level least pair.page)
    (λ bytes. pairs_check n bytes o threshold below pair) head
    (read-pairs T n held o threshold below found pair pairs mid new (Some fail) on node judged)))

-- it passes, and the sum is checked
summed : (T : Type 0) (n : Numbers) (held : Held) (o threshold below level least found : ℕ) (pair : Pair) (pairs : List Pair)
    (old mid new : KeptWalk) (fail : Option CheckFail) → suc below ≡ level → HeadIs T n held o level least pair old mid None →
    has held pair.page ≡ true → (T → NodeBytes (bytes_on held pair.page) found pairs) →
    Judged T n held o mid new None (λ bytes. check_pairs n bytes o threshold below pairs) →
    Judged T n held o new new fail (λ bytes. sum_check n bytes o pair) →
    NamedIs T n held o threshold level least pair old new fail
summed T n held o threshold below level least found pair pairs old mid new fail up head on node judged sum =
    parted T n held o threshold below level least pair old new fail up
    (Judged-then T n held o old new new fail (λ bytes walk. then_check (check_head n bytes o level least pair.page walk)
    (pairs_check n bytes o threshold below pair)) (λ bytes. sum_check n bytes o pair)
    (Judged-then T n held o old mid new None (λ bytes. check_head n bytes o level least pair.page)
    (λ bytes. pairs_check n bytes o threshold below pair) head
    (read-pairs T n held o threshold below found pair pairs mid new None on node judged)) sum)

sum-same : (n : Numbers) (held : Held) (bytes : List ℕ) (level : ℕ) (pair : Pair) (pairs : List Pair) → has held pair.page ≡ true →
    Shows n bytes held → NodeBytes (bytes_on held pair.page) level pairs →
    nat_eq (bytes_of (node_in (image_page n.page bytes pair.page)).pairs) pair.bytes ≡ nat_eq (bytes_of pairs) pair.bytes
sum-same n held bytes level pair pairs on shows node =
    ap (λ (ps : List Pair). nat_eq (bytes_of ps) pair.bytes) (sym (pairs-same n held bytes pair.page level pairs on shows node))

pub named-passes : (T : Type 0) (n : Numbers) (held : Held) (o threshold below level least found : ℕ) (pair : Pair) (pairs : List Pair)
    (old mid new : KeptWalk) → suc below ≡ level → HeadIs T n held o level least pair old mid None →
    has held pair.page ≡ true → (T → NodeBytes (bytes_on held pair.page) found pairs) →
    Judged T n held o mid new None (λ bytes. check_pairs n bytes o threshold below pairs) →
    nat_eq (bytes_of pairs) pair.bytes ≡ true →
    NamedIs T n held o threshold level least pair old new None
named-passes T n held o threshold below level least found pair pairs old mid new up head on node judged sum =
    summed T n held o threshold below level least found pair pairs old mid new None up head on node judged
    (Judged-check T n held o new (BadTree o) (λ bytes. nat_eq (bytes_of (node_in (image_page n.page bytes pair.page)).pairs) pair.bytes)
    judged.marked (λ t bytes shows. sum-same n held bytes found pair pairs on shows (node t) ∙ sum))

pub named-unsummed : (T : Type 0) (n : Numbers) (held : Held) (o threshold below level least found : ℕ) (pair : Pair) (pairs : List Pair)
    (old mid new : KeptWalk) → suc below ≡ level → HeadIs T n held o level least pair old mid None →
    has held pair.page ≡ true → (T → NodeBytes (bytes_on held pair.page) found pairs) →
    Judged T n held o mid new None (λ bytes. check_pairs n bytes o threshold below pairs) →
    nat_eq (bytes_of pairs) pair.bytes ≡ false →
    NamedIs T n held o threshold level least pair old new (Some (TreeFails o))
named-unsummed T n held o threshold below level least found pair pairs old mid new up head on node judged sum =
    summed T n held o threshold below level least found pair pairs old mid new (Some (TreeFails o)) up head on node judged
    (Judged-uncheck T n held o new (BadTree o) (TreeFails o)
    (λ bytes. nat_eq (bytes_of (node_in (image_page n.page bytes pair.page)).pairs) pair.bytes)
    judged.marked refl (λ t bytes shows. sum-same n held bytes found pair pairs on shows (node t) ∙ sum))

-- ---- what the pairs of a node name

-- at the lowest level, segments
pub pairs-lowest : (T : Type 0) (n : Numbers) (held : Held) (o threshold below : ℕ) (pairs : List Pair) (old new : KeptWalk)
    (fail : Option CheckFail) → below ≡ 0 → Judged T n held o old new fail (λ bytes. each (check_segment n bytes o threshold) pairs) →
    Judged T n held o old new fail (λ bytes. check_pairs n bytes o threshold below pairs)
pairs-lowest T n held o threshold below pairs old new fail lowest judged =
    subst (λ (k : ℕ). Judged T n held o old new fail (λ bytes. check_pairs n bytes o threshold k pairs)) (sym lowest) judged

-- above it, nodes
pub pairs-above : (T : Type 0) (n : Numbers) (held : Held) (o threshold below : ℕ) (pairs : List Pair) (old new : KeptWalk)
    (fail : Option CheckFail) → (below ≡ 0 → ⊥) →
    Judged T n held o old new fail (λ bytes. each (check_named n bytes o threshold below (fan_out n / 2)) pairs) →
    Judged T n held o old new fail (λ bytes. check_pairs n bytes o threshold below pairs)
pairs-above T n held o threshold below pairs old new fail above judged =
    Judged-same T n held o old new fail (λ bytes. each (check_named n bytes o threshold below (fan_out n / 2)) pairs)
    (λ bytes. check_pairs n bytes o threshold below pairs)
    (λ t bytes walk shows. sym (ap (λ (b : Bool). elim b [
      | true ↦ each (check_segment n bytes o threshold) pairs walk
      | false ↦ each (check_named n bytes o threshold below (fan_out n / 2)) pairs walk
    ]) (ne_eqb below 0 above))) judged
