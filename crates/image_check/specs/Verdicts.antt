-- What the checks of the code answer, against the checks as definitions.
use Rattle.std.specs.Prelude.{◌≡◌, ℕ, ◌≤◌, ◌/◌, Bool, true, false, ◌&&◌, not, IsTrue, Option, Some}
use Rattle.std.specs.Prelude.{None, IfSome}
use Rattle.std.specs.Prelude.{List, length, nat_eq, nat_le}
use Rattle.geometry_model.specs.Numbers.{Numbers, fan_out}
use Rattle.geometry_model.specs.Pages.{is_data_page}
use Rattle.tree_model.specs.declared.entry.Pair.{Pair}
use Rattle.tree_model.specs.Node.{node_in}
use Rattle.tree_model.specs.Tree.{bytes_of}
use Rattle.span_store.specs.Held.{AllSized, Held, has, bytes_on}
use Rattle.image_model.specs.Super.{image_page}
use Rattle.image_model.specs.Checks.{Refusal, Walk, Checked, then_check, check, each, meet}
use Rattle.image_model.specs.Checks.{is_free_page, is_met, holds_node, check_segment, check_node}
use Rattle.image_model.specs.Checks.Checked.{Passed, Failed}
use Rattle.image_model.specs.Checks.Refusal.{BadTree, BadNode, PageTwice, PageFree, PageLost}
use Rattle.image_check.specs.declared.failure.CheckFail.{CheckFail}
use Rattle.image_check.specs.declared.failure.CheckFail.TheVariants.{Fault, Memory}
use Rattle.image_check.specs.declared.failure.CheckFail.TheVariants.{BadNode as NodeFails}
use Rattle.image_check.specs.declared.failure.CheckFail.TheVariants.{BadTree as TreeFails}
use Rattle.image_check.specs.declared.failure.CheckFail.TheVariants.{PageTwice as TwiceFails}
use Rattle.image_check.specs.declared.failure.CheckFail.TheVariants.{PageFree as FreeFails}
use Rattle.image_check.specs.declared.failure.CheckFail.TheVariants.{PageLost as LostFails}
use Rattle.image_check.specs.Owners.{KeptWalk, Claims, IsMarked, is_owned, owned, owner_at}

-- the pages that are held are just the data pages that aren't free in their directories, and hold
-- what the image has there
pub record Shows (n : Numbers) (bytes : List ℕ) (held : Held) : Type 0 where
  pub used : (q : ℕ) → IsTrue (is_data_page n q) → has held q ≡ not (is_free_page n bytes q)
  pub pages : (q : ℕ) → IsTrue (has held q) → bytes_on held q ≡ image_page n.page bytes q

-- the pages that have an owner are just those that the definition's walk met, and both keep the
-- same segment before
pub record IsWalk (kept : KeptWalk) (walk : Walk) : Type 0 where
  pub met : (q : ℕ) → is_met walk q ≡ is_owned (owner_at kept q)
  pub before : walk.before ≡ kept.before

-- the refusal of the definition that the code names, and none where the device or memory failed
abbrev pub refusal_named : CheckFail → Option Refusal
refusal_named (NodeFails page) = Some (BadNode page)
refusal_named (TreeFails object) = Some (BadTree object)
refusal_named (TwiceFails page) = Some (PageTwice page)
refusal_named (FreeFails page) = Some (PageFree page)
refusal_named (LostFails page) = Some (PageLost page)
refusal_named Fault = None
refusal_named Memory = None

-- where the code passes, the definition passes, and both walks have met the same; where the code
-- refuses, the definition fails with just that refusal
abbrev pub IsVerdict : KeptWalk → Option CheckFail → Checked → Type 0
IsVerdict kept None checked = (walk : Walk) × (checked ≡ Passed walk) × IsWalk kept walk
IsVerdict kept (Some fail) checked = IfSome (refusal_named fail) (λ refusal. checked ≡ Failed
    refusal)

-- so it is on each image that these pages show, from each walk that has met the same
abbrev pub Judges : Numbers → Held → KeptWalk → KeptWalk → Option CheckFail →
    (List ℕ → Walk → Checked) → Type 0
Judges n held old new fail checks =
    (bytes : List ℕ) (walk : Walk) → Shows n bytes held → IsWalk old walk →
    IsVerdict new fail (checks bytes walk)

-- some checks of object o: each page that got an owner is o's, and where the device tells, the
-- answer is that of the definition
pub record Judged (told : Type 0) (n : Numbers) (held : Held) (o : ℕ) (old new : KeptWalk)
    (fail : Option CheckFail) (checks : List ℕ → Walk → Checked) : Type 0 where
  pub marked : IsMarked n held new
  pub claims : Claims o old new
  pub more : owned old ≤ owned new
  pub judges : told → Judges n held old new fail checks

-- as a check asks: told pages of the store's size, and marks for just what is held
pub record AsksCheck (told : Bool) (n : Numbers) (size : ℕ) (held : Held)
    (kept : KeptWalk) : Type 0 where
  pub size_is : size ≡ n.page
  pub sized : AllSized told size held
  pub marked : IsMarked n held kept

-- the first checks of a node: its page, that it is met for the first time and isn't free, that it
-- holds a node, and the node's level and number of pairs
abbrev pub check_head : Numbers → List ℕ → ℕ → ℕ → ℕ → ℕ → Walk → Checked
check_head n bytes o level least page walk =
    let node = node_in (image_page n.page bytes page) in
    then_check (check (is_data_page n page) (BadTree o) walk) (λ placed.
    then_check (meet n bytes page placed) (λ met.
    then_check (check (holds_node n.page (image_page n.page bytes page)) (BadNode page) met)
    (λ held.
    check (nat_eq node.level level && nat_le least (length node.pairs)) (BadTree o) held)))

-- the checks of the node that a pair names and of all below it, and then of its sum
abbrev pub check_named : Numbers → List ℕ → ℕ → ℕ → ℕ → ℕ → Pair → Walk → Checked
check_named n bytes o threshold height least pair walk =
    then_check (check_node n bytes o threshold height least pair.page walk) (λ walked.
    check (nat_eq (bytes_of (node_in (image_page n.page bytes pair.page)).pairs) pair.bytes)
    (BadTree o) walked)

-- the checks of what the pairs of a node of level `below + 1` name
abbrev pub check_pairs : Numbers → List ℕ → ℕ → ℕ → ℕ → List Pair → Walk → Checked
check_pairs n bytes o threshold below pairs walk =
    elim (nat_eq below 0) [
      | true ↦ each (check_segment n bytes o threshold) pairs walk
      | false ↦ each (check_named n bytes o threshold below (fan_out n / 2)) pairs walk
    ]
