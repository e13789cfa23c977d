-- The first checks of a node, one after the other.
use Rattle.std.proofs.Common.{◌≡◌, ℕ, ◌/◌, append-nil, ◌≤◌, Bool, true, false, ◌&&◌, not, Option, Some, None}
use Rattle.std.proofs.Common.{is_some, List, [], length}
use Rattle.std.proofs.Common.{refl, sym, ap, subst, ◌∙◌, nat_eq}
use Rattle.std.specs.Prelude.{nat_le, unwrap_or, IfSome, IsOk, OnOk, Result, Ok, Err, is_ok}
use Rattle.node_codec.specs.declared.parsed.BadNode.{BadNode}
use Rattle.std.proofs.lemmas.Bool.{false≢true}
use Rattle.geometry_model.specs.Numbers.{Numbers}
use Rattle.tree_model.specs.Content.{run_bytes}
use Rattle.geometry_model.specs.Pages.{is_data_page}
use Rattle.tree_model.specs.declared.entry.Pair.{Pair}
use Rattle.tree_model.specs.Node.{NodeBytes, node_in}
use Rattle.tree_model.proofs.NodeLemmas.{node_in-level, node_in-pairs}
use Rattle.node_codec.proofs.NumberLemmas.{AreBytes}
use Rattle.span_store.specs.Held.{Held, bytes_on, has, page_at}
use Rattle.image_model.specs.Super.{image_page}
use Rattle.image_model.specs.Checks.{Walk, Checked, then_check, check, holds_node, meet}
use Rattle.image_model.specs.Checks.Refusal.{BadTree, BadNode as NodeRefused}
use Rattle.image_laws.proofs.GoLemmas.{node-test}
use Rattle.image_laws.proofs.NodeLemmas.{node-holds}
use Rattle.image_check.specs.declared.owner.Owner.{Owner}
use Rattle.image_check.specs.declared.owner.Owner.TheVariants.{Nobody}
use Rattle.image_check.specs.declared.failure.CheckFail.{CheckFail}
use Rattle.image_check.specs.declared.failure.CheckFail.TheVariants.{BadTree as TreeFails, BadNode as NodeFails}
use Rattle.image_check.specs.Owners.{KeptWalk, IsMarked, is_unused, owner_at}
use Rattle.image_check.specs.Verdicts.{Judged, Shows, check_head, refusal_named}
use Rattle.image_check.proofs.JudgedLemmas.{Judged-broken, Judged-check, Judged-stop, Judged-then, Judged-uncheck}
use Rattle.base_laws.proofs.NumberLaws.{one_page}

-- ---- a page that is held

pub nobody-held : (n : Numbers) (held : Held) (kept : KeptWalk) (page : ℕ) → is_data_page n page ≡ true →
    IsMarked n held kept → owner_at kept page ≡ Nobody → has held page ≡ true
nobody-held n held kept page data_page marked nobody = marked.used page data_page ∙ ap (λ (x : Owner). not (is_unused x)) nobody

pub read-one : (held : Held) (page n size : ℕ) → n ≡ size → 1 ≤ size → run_bytes (bytes_on held) page (n / size) ≡ bytes_on held page
read-one held page n size same some =
    ap (run_bytes (bytes_on held) page) (one_page n size same some) ∙ append-nil (bytes_on held page)

-- its bytes are as many as a page has
pub sized-on : (held : Held) (page size : ℕ) → has held page ≡ true → IfSome (page_at held page) (λ p. length p ≡ size) →
    length (bytes_on held page) ≡ size
sized-on held page size is sized = sized-in (page_at held page) is sized
  where
    sized-in : (p : Option (List ℕ)) → is_some p ≡ true → IfSome p (λ x. length x ≡ size) → length (unwrap_or p []) ≡ size
    sized-in None is sized = absurd (false≢true is)
    sized-in (Some x) is sized = sized

-- ---- what it holds

pub holds-found : (size level : ℕ) (page : List ℕ) (pairs : List Pair) → length page ≡ size → NodeBytes page level pairs →
    holds_node size page ≡ true
holds-found size level page pairs long found =
    let first = subst (λ (l : ℕ). NodeBytes page l pairs) (sym (node_in-level page level pairs found)) found in
    let both = subst (λ (ps : List Pair). NodeBytes page (node_in page).level ps) (sym (node_in-pairs page level pairs found)) first in
    node-test size page long both

pub holds-none : (size : ℕ) (page : List ℕ) → AreBytes page → length page ≡ size → size ≤ 4096 →
    ((level : ℕ) (pairs : List Pair) → NodeBytes page level pairs → ⊥) → holds_node size page ≡ false
holds-none size page small long high none = by-test (holds_node size page) refl
  where
    by-test : (b : Bool) → holds_node size page ≡ b → b ≡ false
    by-test true is = absurd (none (node_in page).level (node_in page).pairs (node-holds size page is small long high))
    by-test false is = refl

-- what a decoder answers, by its clauses
pub decoded-is : (r : Result (Unit {0}) BadNode) (P : Type 0) → is_ok r ≡ true → OnOk r P → P
decoded-is (Ok u) P good found = found
decoded-is (Err e) P good found = absurd (false≢true good)

pub decoded : (page : List ℕ) (level : ℕ) (pairs : List Pair) (r : Result (Unit {0}) BadNode) → AreBytes page → length page ≤ 4096 →
    OnOk r (NodeBytes page level pairs) →
    ((l : ℕ) (ps : List Pair) → NodeBytes page l ps → IsOk r × (level ≡ l) × (pairs ≡ ps)) →
    is_ok r ≡ holds_node (length page) page
decoded page level pairs (Ok u) small high found only = sym (holds-found (length page) level page pairs refl found)
decoded page level pairs (Err e) small high found only =
    sym (holds-none (length page) page small refl high (λ l ps is. false≢true (only l ps is).0))

-- ---- the checks

-- what comes behind the first check, and behind the second
abbrev last_check : Numbers → List ℕ → ℕ → ℕ → ℕ → ℕ → Walk → Checked
last_check n bytes o level least page =
    check (nat_eq (node_in (image_page n.page bytes page)).level level
    && nat_le least (length (node_in (image_page n.page bytes page)).pairs)) (BadTree o)

abbrev node_check : Numbers → List ℕ → ℕ → Walk → Checked
node_check n bytes page = check (holds_node n.page (image_page n.page bytes page)) (NodeRefused page)

abbrev behind_meeting : Numbers → List ℕ → ℕ → ℕ → ℕ → ℕ → Walk → Checked
behind_meeting n bytes o level least page met = then_check (node_check n bytes page met) (last_check n bytes o level least page)

abbrev behind_place : Numbers → List ℕ → ℕ → ℕ → ℕ → ℕ → Walk → Checked
behind_place n bytes o level least page placed = then_check (meet n bytes page placed) (behind_meeting n bytes o level least page)

abbrev HeadIs : Type 0 → Numbers → Held → ℕ → ℕ → ℕ → ℕ → KeptWalk → KeptWalk → Option CheckFail → Type 0
HeadIs T n held o level least page old new fail =
    Judged T n held o old new fail (λ bytes. check_head n bytes o level least page)

-- the page is no data page
pub head-unplaced : (T : Type 0) (n : Numbers) (held : Held) (o level least page : ℕ) (kept : KeptWalk) → IsMarked n held kept →
    is_data_page n page ≡ false → HeadIs T n held o level least page kept kept (Some (TreeFails o))
head-unplaced T n held o level least page kept marked off =
    Judged-stop T n held o kept kept (TreeFails o) (λ bytes. check (is_data_page n page) (BadTree o))
    (λ bytes. behind_place n bytes o level least page)
    (Judged-uncheck T n held o kept (BadTree o) (TreeFails o) (λ bytes. is_data_page n page) marked refl (λ t bytes shows. off))

-- it is one, and what follows is judged
placed : (T : Type 0) (n : Numbers) (held : Held) (o level least page : ℕ) (kept new : KeptWalk) (fail : Option CheckFail) →
    IsMarked n held kept → is_data_page n page ≡ true →
    Judged T n held o kept new fail (λ bytes. behind_place n bytes o level least page) →
    HeadIs T n held o level least page kept new fail
placed T n held o level least page kept new fail marked is more =
    Judged-then T n held o kept kept new fail (λ bytes. check (is_data_page n page) (BadTree o))
    (λ bytes. behind_place n bytes o level least page)
    (Judged-check T n held o kept (BadTree o) (λ bytes. is_data_page n page) marked (λ t bytes shows. is)) more

-- the page was met already, or is free
pub head-unmet : (T : Type 0) (n : Numbers) (held : Held) (o level least page : ℕ) (kept new : KeptWalk) (fail : CheckFail) →
    IsMarked n held kept → is_data_page n page ≡ true → Judged T n held o kept new (Some fail) (λ bytes. meet n bytes page) →
    HeadIs T n held o level least page kept new (Some fail)
head-unmet T n held o level least page kept new fail marked is met =
    placed T n held o level least page kept new (Some fail) marked is
    (Judged-stop T n held o kept new fail (λ bytes. meet n bytes page) (λ bytes. behind_meeting n bytes o level least page) met)

-- it is met, and what follows is judged
met-first : (T : Type 0) (n : Numbers) (held : Held) (o level least page : ℕ) (kept mid new : KeptWalk) (fail : Option CheckFail) →
    IsMarked n held kept → is_data_page n page ≡ true → Judged T n held o kept mid None (λ bytes. meet n bytes page) →
    Judged T n held o mid new fail (λ bytes. behind_meeting n bytes o level least page) →
    HeadIs T n held o level least page kept new fail
met-first T n held o level least page kept mid new fail marked is met more =
    placed T n held o level least page kept new fail marked is
    (Judged-then T n held o kept mid new fail (λ bytes. meet n bytes page) (λ bytes. behind_meeting n bytes o level least page) met more)

-- the device failed
pub head-broken : (T : Type 0) (n : Numbers) (held : Held) (o level least page : ℕ) (kept mid : KeptWalk) (fail : CheckFail) →
    IsMarked n held kept → is_data_page n page ≡ true → Judged T n held o kept mid None (λ bytes. meet n bytes page) →
    refusal_named fail ≡ None → HeadIs T n held o level least page kept mid (Some fail)
head-broken T n held o level least page kept mid fail marked is met named =
    met-first T n held o level least page kept mid mid (Some fail) marked is met
    (Judged-broken T n held o mid fail (λ bytes. behind_meeting n bytes o level least page) met.marked named)

-- the page holds no node
pub head-bad : (T : Type 0) (n : Numbers) (held : Held) (o level least page : ℕ) (kept mid : KeptWalk) →
    IsMarked n held kept → is_data_page n page ≡ true → Judged T n held o kept mid None (λ bytes. meet n bytes page) →
    has held page ≡ true → (T → holds_node n.page (bytes_on held page) ≡ false) →
    HeadIs T n held o level least page kept mid (Some (NodeFails page))
head-bad T n held o level least page kept mid marked is met on bad =
    met-first T n held o level least page kept mid mid (Some (NodeFails page)) marked is met
    (Judged-stop T n held o mid mid (NodeFails page) (λ bytes. node_check n bytes page) (λ bytes. last_check n bytes o level least page)
    (Judged-uncheck T n held o mid (NodeRefused page) (NodeFails page) (λ bytes. holds_node n.page (image_page n.page bytes page))
    met.marked refl (λ t bytes shows. ap (holds_node n.page) (sym (shows.pages page on)) ∙ bad t)))

-- it holds one, and its level and pairs are tested
read-first : (T : Type 0) (n : Numbers) (held : Held) (o level least page : ℕ) (kept mid : KeptWalk) (fail : Option CheckFail) →
    IsMarked n held kept → is_data_page n page ≡ true → Judged T n held o kept mid None (λ bytes. meet n bytes page) →
    has held page ≡ true → (T → holds_node n.page (bytes_on held page) ≡ true) →
    Judged T n held o mid mid fail (λ bytes. last_check n bytes o level least page) →
    HeadIs T n held o level least page kept mid fail
read-first T n held o level least page kept mid fail marked is met on good more =
    met-first T n held o level least page kept mid mid fail marked is met
    (Judged-then T n held o mid mid mid fail (λ bytes. node_check n bytes page) (λ bytes. last_check n bytes o level least page)
    (Judged-check T n held o mid (NodeRefused page) (λ bytes. holds_node n.page (image_page n.page bytes page))
    met.marked (λ t bytes shows. ap (holds_node n.page) (sym (shows.pages page on)) ∙ good t)) more)

-- the test of the level and of the pairs is that of the node that was read
filled-same : (n : Numbers) (held : Held) (bytes : List ℕ) (page level least found : ℕ) (pairs : List Pair) → has held page ≡ true →
    Shows n bytes held → NodeBytes (bytes_on held page) found pairs →
    (nat_eq (node_in (image_page n.page bytes page)).level level
    && nat_le least (length (node_in (image_page n.page bytes page)).pairs)) ≡ (nat_eq found level && nat_le least (length pairs))
filled-same n held bytes page level least found pairs on shows node =
    let same = shows.pages page on in
    let first : (node_in (image_page n.page bytes page)).level ≡ found =
    ap (λ (p : List ℕ). (node_in p).level) (sym same) ∙ node_in-level (bytes_on held page) found pairs node in
    let second : (node_in (image_page n.page bytes page)).pairs ≡ pairs =
    ap (λ (p : List ℕ). (node_in p).pairs) (sym same) ∙ node_in-pairs (bytes_on held page) found pairs node in
    ap (λ (l : ℕ). nat_eq l level && nat_le least (length (node_in (image_page n.page bytes page)).pairs)) first
    ∙ ap (λ (ps : List Pair). nat_eq found level && nat_le least (length ps)) second

pub head-filled : (T : Type 0) (n : Numbers) (held : Held) (o level least page found : ℕ) (pairs : List Pair) (kept mid : KeptWalk) →
    IsMarked n held kept → is_data_page n page ≡ true → Judged T n held o kept mid None (λ bytes. meet n bytes page) →
    has held page ≡ true → (T → length (bytes_on held page) ≡ n.page) → (T → NodeBytes (bytes_on held page) found pairs) →
    (nat_eq found level && nat_le least (length pairs)) ≡ true →
    HeadIs T n held o level least page kept mid None
head-filled T n held o level least page found pairs kept mid marked is met on long node filled =
    read-first T n held o level least page kept mid None marked is met on
    (λ t. holds-found n.page found (bytes_on held page) pairs (long t) (node t))
    (Judged-check T n held o mid (BadTree o) (λ bytes. nat_eq (node_in (image_page n.page bytes page)).level level
    && nat_le least (length (node_in (image_page n.page bytes page)).pairs)) met.marked
    (λ t bytes shows. filled-same n held bytes page level least found pairs on shows (node t) ∙ filled))

pub head-unfilled : (T : Type 0) (n : Numbers) (held : Held) (o level least page found : ℕ) (pairs : List Pair) (kept mid : KeptWalk) →
    IsMarked n held kept → is_data_page n page ≡ true → Judged T n held o kept mid None (λ bytes. meet n bytes page) →
    has held page ≡ true → (T → length (bytes_on held page) ≡ n.page) → (T → NodeBytes (bytes_on held page) found pairs) →
    (nat_eq found level && nat_le least (length pairs)) ≡ false →
    HeadIs T n held o level least page kept mid (Some (TreeFails o))
head-unfilled T n held o level least page found pairs kept mid marked is met on long node unfilled =
    read-first T n held o level least page kept mid (Some (TreeFails o)) marked is met on
    (λ t. holds-found n.page found (bytes_on held page) pairs (long t) (node t))
    (Judged-uncheck T n held o mid (BadTree o) (TreeFails o) (λ bytes. nat_eq (node_in (image_page n.page bytes page)).level level
    && nat_le least (length (node_in (image_page n.page bytes page)).pairs)) met.marked refl
    (λ t bytes shows. filled-same n held bytes page level least found pairs on shows (node t) ∙ unfilled))
