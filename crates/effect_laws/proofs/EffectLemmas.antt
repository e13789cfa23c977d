-- What an edit is to a version, to a plain object, and to a length.
use Rattle.std.proofs.Common.{◌≡◌, ℕ, ◌+◌, ◌-◌, ◌≤◌, Bool, true, false, Option, Some, None, List, ◌++◌, length}
use Rattle.std.proofs.Common.{take, drop, nat_le, if◌then◌else◌, refl, sym, ap, arith, ◌∙◌, inl, inr}
use Rattle.std.specs.Prelude.{◌↔◌, nat_eq}
use Rattle.std.proofs.lemmas.Bool.{cases_Bool, false≢true, le-leb, leb-true}
use Rattle.std.proofs.lemmas.List.{length-append, length-drop, length-take-le}
use Rattle.geometry_model.specs.Numbers.{Numbers}
use Rattle.eos_ops.specs.declared.edit.Edit.{Edit}
use Rattle.eos_ops.specs.declared.edit.Edit.TheVariants.{Create, Destroy, Append, Insert, Delete, Replace}
use Rattle.eos_ops.specs.declared.outcome.Outcome.{Outcome}
use Rattle.eos_ops.specs.declared.outcome.Outcome.TheVariants.{Done, Exists, Missing, Range}
use Rattle.eos_ops.specs.declared.plain.Plain.{Plain}
use Rattle.eos_ops.specs.declared.plain.Plain.TheVariants.{Absent, Present}
use Rattle.eos_ops.specs.Edits.{outcome_in, edited}
use Rattle.eos_ops.specs.Splice.{inserted, deleted, replaced}
use Rattle.layout_model.specs.declared.change.Change.{Change}
use Rattle.layout_model.specs.Layout.{Tree}
use Rattle.moment_model.specs.Edit.{Effect, Refuses, Stays, Changes, accepts, edited_length, change_within}
use Rattle.moment_model.specs.Edit.{change_at, effect_on, is_effective}
use Rattle.moment_model.specs.Version.{Version, tree_bytes, version_bytes}
use Rattle.effect_laws.specs.Lengths.{plain_length}

-- a change is refused where it isn't within the bytes
pub change-effective : (tree : Tree) (change : Change) →
    is_effective (change_within tree change) ≡ nat_le (change.at + change.removed) (tree_bytes tree)
change-effective tree change = go (nat_le (change.at + change.removed) (tree_bytes tree)) (nat_eq (change.removed + change.added) 0)
  where
    go : (within none : Bool) → is_effective (if within then (if none then Stays else Changes tree change) else Refuses) ≡ within
    go true true = refl
    go true false = refl
    go false none = refl

-- an edit has an effect just where the length accepts it
pub effect-accepted : (n : Numbers) (edit : Edit) (version : Version) →
    is_effective (effect_on n edit version) ≡ accepts (version_bytes version) edit
effect-accepted n (Create threshold) None = refl
effect-accepted n (Create threshold) (Some tree) = refl
effect-accepted n Destroy None = refl
effect-accepted n Destroy (Some tree) = refl
effect-accepted n (Append bytes) None = refl
effect-accepted n (Append bytes) (Some tree) =
    change-effective tree (change_at (tree_bytes tree) 0 (length bytes) true) ∙ le-leb (tree_bytes tree + 0) (tree_bytes tree) (omega arith)
effect-accepted n (Insert at bytes) None = refl
effect-accepted n (Insert at bytes) (Some tree) =
    let same : at + 0 ≡ at = omega arith in
    change-effective tree (change_at at 0 (length bytes) false) ∙ ap (λ k. nat_le k (tree_bytes tree)) same
effect-accepted n (Delete at count) None = refl
effect-accepted n (Delete at count) (Some tree) = change-effective tree (change_at at count 0 false)
effect-accepted n (Replace at bytes) None = refl
effect-accepted n (Replace at bytes) (Some tree) = change-effective tree (change_at at (length bytes) (length bytes) false)

-- a test of the place is one of the outcome
done_test : (b : Bool) (size : ℕ) → (b ≡ true) ↔ ((if b then Done else Range size) ≡ Done)
done_test true size = (λ _. refl, λ _. refl)
done_test false size = (λ bad. absurd (false≢true bad), λ bad. absurd (cc))

pub accepted-done : (edit : Edit) (object : Plain) → (accepts (plain_length object) edit ≡ true) ↔ (outcome_in edit object ≡ Done)
accepted-done (Create threshold) Absent = (λ _. refl, λ _. refl)
accepted-done Destroy Absent = (λ bad. absurd (false≢true bad), λ bad. absurd (cc))
accepted-done (Append bytes) Absent = (λ bad. absurd (false≢true bad), λ bad. absurd (cc))
accepted-done (Insert at bytes) Absent = (λ bad. absurd (false≢true bad), λ bad. absurd (cc))
accepted-done (Delete at count) Absent = (λ bad. absurd (false≢true bad), λ bad. absurd (cc))
accepted-done (Replace at bytes) Absent = (λ bad. absurd (false≢true bad), λ bad. absurd (cc))
accepted-done (Create threshold) (Present x) = (λ bad. absurd (false≢true bad), λ bad. absurd (cc))
accepted-done Destroy (Present x) = (λ _. refl, λ _. refl)
accepted-done (Append bytes) (Present x) = (λ _. refl, λ _. refl)
accepted-done (Insert at bytes) (Present x) = done_test (nat_le at (length x)) (length x)
accepted-done (Delete at count) (Present x) = done_test (nat_le (at + count) (length x)) (length x)
accepted-done (Replace at bytes) (Present x) = done_test (nat_le (at + length bytes) (length x)) (length x)

pub effect-done : (n : Numbers) (edit : Edit) (version : Version) (object : Plain) → version_bytes version ≡ plain_length object →
    (is_effective (effect_on n edit version) ≡ true) ↔ (outcome_in edit object ≡ Done)
effect-done n edit version object same =
    let tests : is_effective (effect_on n edit version) ≡ accepts (plain_length object) edit =
    effect-accepted n edit version ∙ ap (λ size. accepts size edit) same in
    let both = accepted-done edit object in
    (λ effective. both.0 (sym tests ∙ effective), λ done. tests ∙ both.1 done)

-- ---- the length after an edit

inserted-length : (x p : List ℕ) (at : ℕ) → at ≤ length x → length (inserted x at p) ≡ length x + length p
inserted-length x p at within =
    let front = length-take-le at x within in
    let back = length-drop at x in
    let outer = length-append (take at x ++ p) (drop at x) in
    let inner = length-append (take at x) p in
    omega (arith, front, back, outer, inner)

deleted-length : (x : List ℕ) (at count : ℕ) → at + count ≤ length x → length (deleted x at count) ≡ length x - count
deleted-length x at count within =
    let front = length-take-le at x (omega (arith, within)) in
    let back = length-drop (at + count) x in
    let outer = length-append (take at x) (drop (at + count) x) in
    omega (arith, front, back, outer)

replaced-length : (x p : List ℕ) (at : ℕ) → at + length p ≤ length x → length (replaced x at p) ≡ length x
replaced-length x p at within =
    let front = length-take-le at x (omega (arith, within)) in
    let back = length-drop (at + length p) x in
    let outer = length-append (take at x ++ p) (drop (at + length p) x) in
    let inner = length-append (take at x) p in
    omega (arith, front, back, outer, inner)

-- a choice of lists has the chosen length
chosen-length : (b : Bool) (x y : List ℕ) (k : ℕ) → (b ≡ true → length y ≡ k) → length (if b then y else x) ≡ (if b then k else length x)
chosen-length true x y k is = is refl
chosen-length false x y k is = refl

pub edited-length : (edit : Edit) (object : Plain) → plain_length (edited edit object) ≡ edited_length edit (plain_length object)
edited-length (Create threshold) Absent = refl
edited-length Destroy Absent = refl
edited-length (Append bytes) Absent = refl
edited-length (Insert at bytes) Absent = refl
edited-length (Delete at count) Absent = refl
edited-length (Replace at bytes) Absent = refl
edited-length (Create threshold) (Present x) = refl
edited-length Destroy (Present x) = refl
edited-length (Append bytes) (Present x) = ap (λ (k : ℕ). Some k) (length-append x bytes)
edited-length (Insert at bytes) (Present x) =
    ap (λ (k : ℕ). Some k) (chosen-length (nat_le at (length x)) x (inserted x at bytes) (length x + length bytes)
    (λ within. inserted-length x bytes at (leb-true at (length x) within)))
edited-length (Delete at count) (Present x) =
    ap (λ (k : ℕ). Some k) (chosen-length (nat_le (at + count) (length x)) x (deleted x at count) (length x - count)
    (λ within. deleted-length x at count (leb-true (at + count) (length x) within)))
edited-length (Replace at bytes) (Present x) =
    ap (λ (k : ℕ). Some k) (chosen-length (nat_le (at + length bytes) (length x)) x (replaced x at bytes) (length x)
    (λ within. replaced-length x bytes at (leb-true (at + length bytes) (length x) within)) ∙ same (nat_le (at + length bytes) (length x)))
  where
    same : (b : Bool) → (if b then length x else length x) ≡ length x
    same true = refl
    same false = refl
