-- Checks of one item after another, and the parts of the checks of a node.
use Rattle.std.proofs.Common.{◌≡◌, ℕ, suc, ◌+◌, ◌<◌, ◌≤◌, ◌&&◌, Option, Some, None, List}
use Rattle.std.proofs.Common.{[], ◌∷◌, ◌++◌, length, take, drop, get_or, refl, sym, ap, ◌∙◌, arith, nat_eq}
use Rattle.std.specs.Prelude.{nat_le}
use Rattle.std.proofs.Math.Seq.{take-suc}
use Rattle.std.proofs.lemmas.List.{take-append-drop, take_all}
use Rattle.geometry_model.specs.Numbers.{Numbers}
use Rattle.geometry_model.specs.Pages.{is_data_page}
use Rattle.tree_model.specs.Node.{node_in}
use Rattle.span_store.specs.Held.{Held}
use Rattle.image_model.specs.Super.{image_page}
use Rattle.image_model.specs.Checks.{Walk, Checked, then_check, check, each, meet, holds_node, check_node}
use Rattle.image_model.specs.Checks.Checked.{Passed, Failed}
use Rattle.image_model.specs.Checks.Refusal.{BadTree, BadNode}
use Rattle.image_check.specs.declared.failure.CheckFail.{CheckFail}
use Rattle.image_check.specs.Owners.{KeptWalk}
use Rattle.image_check.specs.Verdicts.{Judged, check_head, check_pairs}
use Rattle.image_check.proofs.JudgedLemmas.{Judged-same, Judged-stop, Judged-then}

-- ---- checks in a chain

pub then-all : (c : Checked) (f g : Walk → Checked) → ((walk : Walk) → f walk ≡ g walk) → then_check c f ≡ then_check c g
then-all (Passed walk) f g same = same walk
then-all (Failed refusal) f g same = refl

pub then-chain : (c : Checked) (k g : Walk → Checked) → then_check c (λ r. then_check (k r) g) ≡ then_check (then_check c k) g
then-chain (Passed walk) k g = refl
then-chain (Failed refusal) k g = refl

chain-three : (c : Checked) (h k g : Walk → Checked) → then_check c (λ q. then_check (h q) (λ r. then_check (k r) g))
    ≡ then_check (then_check c (λ q. then_check (h q) k)) g
chain-three (Passed walk) h k g = then-chain (h walk) k g
chain-three (Failed refusal) h k g = refl

chain-four : (c : Checked) (m h k g : Walk → Checked) →
    then_check c (λ p. then_check (m p) (λ q. then_check (h q) (λ r. then_check (k r) g)))
    ≡ then_check (then_check c (λ p. then_check (m p) (λ q. then_check (h q) k))) g
chain-four (Passed walk) m h k g = chain-three (m walk) h k g
chain-four (Failed refusal) m h k g = refl

-- a node is checked by its first checks and then by those of what its pairs name
pub node-parts : (n : Numbers) (bytes : List ℕ) (o threshold below least page : ℕ) (walk : Walk) →
    check_node n bytes o threshold (suc below) least page walk
    ≡ then_check (check_head n bytes o (suc below) least page walk)
    (check_pairs n bytes o threshold below (node_in (image_page n.page bytes page)).pairs)
node-parts n bytes o threshold below least page walk =
    chain-four (check (is_data_page n page) (BadTree o) walk) (meet n bytes page)
    (check (holds_node n.page (image_page n.page bytes page)) (BadNode page))
    (check (nat_eq (node_in (image_page n.page bytes page)).level (suc below)
    && nat_le least (length (node_in (image_page n.page bytes page)).pairs)) (BadTree o))
    (check_pairs n bytes o threshold below (node_in (image_page n.page bytes page)).pairs)

-- ---- each item of a list

pub each-append : (A : Type 0) (step : A → Walk → Checked) (xs ys : List A) (walk : Walk) →
    each step (xs ++ ys) walk ≡ then_check (each step xs walk) (each step ys)
each-append A step [] ys walk = refl
each-append A step (x ∷ xs) ys walk =
    then-all (step x walk) (each step (xs ++ ys)) (λ met. then_check (each step xs met) (each step ys)) (each-append A step xs ys)
    ∙ then-chain (step x walk) (each step xs) (each step ys)

each-one : (A : Type 0) (step : A → Walk → Checked) (x : A) (walk : Walk) → each step (x ∷ []) walk ≡ step x walk
each-one A step x walk = ends (step x walk)
  where
    ends : (c : Checked) → then_check c (each step []) ≡ c
    ends (Passed out) = refl
    ends (Failed refusal) = refl

-- one item more
pub each-next : (A : Type 0) (step : A → Walk → Checked) (items : List A) (i : ℕ) (d : A) (walk : Walk) → i < length items →
    each step (take (i + 1) items) walk ≡ then_check (each step (take i items) walk) (step (get_or items i d))
each-next A step items i d walk inside =
    let more : i + 1 ≡ suc i = omega arith in
    let here : take (i + 1) items ≡ take i items ++ (get_or items i d ∷ []) = ap (λ (k : ℕ). take k items) more
    ∙ take-suc items i d inside in
    ap (λ (xs : List A). each step xs walk) here
    ∙ each-append A step (take i items) (get_or items i d ∷ []) walk
    ∙ then-all (each step (take i items) walk) (each step (get_or items i d ∷ [])) (step (get_or items i d))
    (each-one A step (get_or items i d))

-- where an item of the list fails, the list fails
each-parts : (A : Type 0) (step : A → Walk → Checked) (items : List A) (i : ℕ) (walk : Walk) →
    each step items walk ≡ then_check (each step (take i items) walk) (each step (drop i items))
each-parts A step items i walk =
    ap (λ (xs : List A). each step xs walk) (sym (take-append-drop i items)) ∙ each-append A step (take i items) (drop i items) walk

pub Judged-next : (A T : Type 0) (n : Numbers) (held : Held) (o : ℕ) (old mid new : KeptWalk) (fail : Option CheckFail)
    (step : List ℕ → A → Walk → Checked) (items : List A) (i : ℕ) (d : A) → i < length items →
    Judged T n held o old mid None (λ bytes. each (step bytes) (take i items)) →
    Judged T n held o mid new fail (λ bytes. step bytes (get_or items i d)) →
    Judged T n held o old new fail (λ bytes. each (step bytes) (take (i + 1) items))
Judged-next A T n held o old mid new fail step items i d inside first second =
    Judged-same T n held o old new fail
    (λ bytes walk. then_check (each (step bytes) (take i items) walk) (step bytes (get_or items i d)))
    (λ bytes. each (step bytes) (take (i + 1) items))
    (λ t bytes walk shows. sym (each-next A (step bytes) items i d walk inside))
    (Judged-then T n held o old mid new fail (λ bytes. each (step bytes) (take i items))
    (λ bytes. step bytes (get_or items i d)) first second)

pub Judged-ends : (A T : Type 0) (n : Numbers) (held : Held) (o : ℕ) (old new : KeptWalk) (fail : CheckFail)
    (step : List ℕ → A → Walk → Checked) (items : List A) (i : ℕ) →
    Judged T n held o old new (Some fail) (λ bytes. each (step bytes) (take i items)) →
    Judged T n held o old new (Some fail) (λ bytes. each (step bytes) items)
Judged-ends A T n held o old new fail step items i first =
    Judged-same T n held o old new (Some fail)
    (λ bytes walk. then_check (each (step bytes) (take i items) walk) (each (step bytes) (drop i items)))
    (λ bytes. each (step bytes) items) (λ t bytes walk shows. sym (each-parts A (step bytes) items i walk))
    (Judged-stop T n held o old new fail (λ bytes. each (step bytes) (take i items)) (λ bytes. each (step bytes) (drop i items)) first)

-- all items passed
pub Judged-all : (A T : Type 0) (n : Numbers) (held : Held) (o : ℕ) (old new : KeptWalk)
    (step : List ℕ → A → Walk → Checked) (items : List A) (i : ℕ) → length items ≤ i →
    Judged T n held o old new None (λ bytes. each (step bytes) (take i items)) →
    Judged T n held o old new None (λ bytes. each (step bytes) items)
Judged-all A T n held o old new step items i all judged =
    Judged-same T n held o old new None (λ bytes. each (step bytes) (take i items)) (λ bytes. each (step bytes) items)
    (λ t bytes walk shows. ap (λ (xs : List A). each (step bytes) xs walk) (take_all i items all)) judged
