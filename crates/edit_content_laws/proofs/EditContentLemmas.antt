-- An edit whose effect is a change, and the bytes that it leaves.
use Rattle.std.proofs.Common.{◌≡◌, ℕ, ◌+◌, ◌≤◌, Bool, true, false, Some, List, [], ◌++◌, length, take, drop, nat_le, nat_eq, refl, sym}
use Rattle.std.proofs.Common.{ap, subst, arith, ◌∙◌, if◌then◌else◌}
use Rattle.std.proofs.lemmas.Bool.{le-leb, leb-true}
use Rattle.std.proofs.lemmas.List.{take_all, append-nil, append_assoc}
use Rattle.std.proofs.Math.ListN.{drop_of_length-le}
use Rattle.geometry_model.specs.Numbers.{Numbers}
use Rattle.eos_ops.specs.declared.edit.Edit.{Edit}
use Rattle.eos_ops.specs.declared.edit.Edit.TheVariants.{Create, Destroy, Append, Insert, Delete, Replace}
use Rattle.eos_ops.specs.declared.plain.Plain.TheVariants.{Present}
use Rattle.eos_ops.specs.Edits.{edited}
use Rattle.eos_ops.specs.Splice.{inserted, deleted, replaced}
use Rattle.layout_model.specs.declared.change.Change.{Change}
use Rattle.layout_model.specs.Layout.{Tree}
use Rattle.moment_model.specs.Edit.{Effect, Refuses, Stays, Becomes, Changes, change_within, change_at, effect_on}
use Rattle.moment_model.specs.Version.{tree_bytes}
use Rattle.edit_content_laws.specs.Brought.{brought}

-- the tree and the change of an effect, and these ones where it has none
abbrev tree_of : Tree → Effect → Tree
tree_of tree Refuses = tree
tree_of tree Stays = tree
tree_of tree (Becomes version) = tree
tree_of tree (Changes other change) = other

abbrev change_of : Change → Effect → Change
change_of change Refuses = change
change_of change Stays = change
change_of change (Becomes version) = change
change_of change (Changes tree other) = other

-- an effect that is a change within some bytes
pub record IsEffect (tree changed : Tree) (change found : Change) : Type 0 where
  pub tree_is : changed ≡ tree
  pub change_is : found ≡ change
  pub within : found.at + found.removed ≤ tree_bytes tree

within-effect : (tree changed : Tree) (change found : Change) → change_within tree change ≡ Changes changed found →
    IsEffect tree changed change found
within-effect tree changed change found same =
    go (nat_le (change.at + change.removed) (tree_bytes tree)) (nat_eq (change.removed + change.added) 0) refl same
  where
    go : (within none : Bool) → nat_le (change.at + change.removed) (tree_bytes tree) ≡ within →
        (if within then (if none then Stays else Changes tree change) else Refuses) ≡ Changes changed found →
        IsEffect tree changed change found
    go true true is same = absurd cc
    go false none is same = absurd cc
    go true false is same =
        let change_is : found ≡ change = sym (ap (change_of change) same) in
        record {
          tree_is = sym (ap (tree_of tree) same);
          change_is = change_is;
          within = subst (λ (c : Change). c.at + c.removed ≤ tree_bytes tree) (sym change_is)
              (leb-true (change.at + change.removed) (tree_bytes tree) is);
        }

-- the change that an edit is to a tree, where it is one
abbrev pub change_by : Edit → Tree → Change
change_by (Create threshold) tree = change_at 0 0 0 false
change_by Destroy tree = change_at 0 0 0 false
change_by (Append bytes) tree = change_at (tree_bytes tree) 0 (length bytes) true
change_by (Insert at bytes) tree = change_at at 0 (length bytes) false
change_by (Delete at count) tree = change_at at count 0 false
change_by (Replace at bytes) tree = change_at at (length bytes) (length bytes) false

pub edit-effect : (n : Numbers) (edit : Edit) (tree changed : Tree) (change : Change) →
    effect_on n edit (Some tree) ≡ Changes changed change → IsEffect tree changed (change_by edit tree) change
edit-effect n (Create threshold) tree changed change same = absurd cc
edit-effect n Destroy tree changed change same = absurd cc
edit-effect n (Append bytes) tree changed change same =
    within-effect tree changed (change_at (tree_bytes tree) 0 (length bytes) true) change same
edit-effect n (Insert at bytes) tree changed change same =
    within-effect tree changed (change_at at 0 (length bytes) false) change same
edit-effect n (Delete at count) tree changed change same = within-effect tree changed (change_at at count 0 false) change same
edit-effect n (Replace at bytes) tree changed change same =
    within-effect tree changed (change_at at (length bytes) (length bytes) false) change same

-- what an edit brings is as long as its change says
brought-by : (n : Numbers) (edit : Edit) (tree changed : Tree) (change : Change) → effect_on n edit (Some tree) ≡ Changes changed change →
    length (brought edit) ≡ (change_by edit tree).added
brought-by n (Create threshold) tree changed change same = absurd cc
brought-by n Destroy tree changed change same = absurd cc
brought-by n (Append bytes) tree changed change same = refl
brought-by n (Insert at bytes) tree changed change same = refl
brought-by n (Delete at count) tree changed change same = refl
brought-by n (Replace at bytes) tree changed change same = refl

pub brought-length : (n : Numbers) (edit : Edit) (tree changed : Tree) (change : Change) →
    effect_on n edit (Some tree) ≡ Changes changed change → length (brought edit) ≡ change.added
brought-length n edit tree changed change same =
    brought-by n edit tree changed change same
    ∙ ap (λ (c : Change). c.added) (sym (edit-effect n edit tree changed change same).change_is)

-- the bytes that a change leaves
abbrev left_bytes : List ℕ → Change → List ℕ → List ℕ
left_bytes x change payload = take change.at x ++ (payload ++ drop (change.at + change.removed) x)

-- a choice that is made
chosen : (a b : List ℕ) (test : Bool) → test ≡ true → (if test then a else b) ≡ a
chosen a b true is = refl
chosen a b false is = absurd cc

bytes-by : (n : Numbers) (edit : Edit) (tree changed : Tree) (change : Change) (x : List ℕ) →
    effect_on n edit (Some tree) ≡ Changes changed change → length x ≡ tree_bytes tree →
    (change_by edit tree).at + (change_by edit tree).removed ≤ length x →
    edited edit (Present x) ≡ Present (left_bytes x (change_by edit tree) (brought edit))
bytes-by n (Create threshold) tree changed change x same long within = absurd cc
bytes-by n Destroy tree changed change x same long within = absurd cc
bytes-by n (Append bytes) tree changed change x same long within =
    ap Present (sym (ap (λ front. front ++ (bytes ++ drop (tree_bytes tree + 0) x)) (take_all (tree_bytes tree) x (omega (arith, long)))
    ∙ (ap (λ back. x ++ (bytes ++ back)) (drop_of_length-le x (omega (arith, long))) ∙ ap (λ back. x ++ back) (append-nil bytes))))
bytes-by n (Insert at bytes) tree changed change x same long within =
    let place : at ≡ at + 0 = omega arith in
    let moved : inserted x at bytes ≡ take at x ++ (bytes ++ drop (at + 0) x) =
    append_assoc (take at x) bytes (drop at x) ∙ ap (λ (k : ℕ). take at x ++ (bytes ++ drop k x)) place in
    let made : (if nat_le at (length x) then inserted x at bytes else x) ≡ take at x ++ (bytes ++ drop (at + 0) x) =
    chosen (inserted x at bytes) x (nat_le at (length x)) (le-leb at (length x) (omega (arith, within))) ∙ moved in
    ap Present made
bytes-by n (Delete at count) tree changed change x same long within =
    ap Present (chosen (deleted x at count) x (nat_le (at + count) (length x)) (le-leb (at + count) (length x) (omega (arith, within))))
bytes-by n (Replace at bytes) tree changed change x same long within =
    let made : (if nat_le (at + length bytes) (length x) then replaced x at bytes else x)
    ≡ take at x ++ (bytes ++ drop (at + length bytes) x) =
    chosen (replaced x at bytes) x (nat_le (at + length bytes) (length x)) (le-leb (at + length bytes) (length x) (omega (arith, within)))
    ∙ append_assoc (take at x) bytes (drop (at + length bytes) x) in
    ap Present made

-- the edited object has the bytes that the change leaves
pub edited-bytes : (n : Numbers) (edit : Edit) (tree changed : Tree) (change : Change) (x : List ℕ) →
    effect_on n edit (Some tree) ≡ Changes changed change → length x ≡ tree_bytes tree →
    edited edit (Present x) ≡ Present (left_bytes x change (brought edit))
edited-bytes n edit tree changed change x same long =
    let effect = edit-effect n edit tree changed change same in
    let within : (change_by edit tree).at + (change_by edit tree).removed ≤ length x =
    omega (
      arith,
      long,
      subst (λ (c : Change). c.at + c.removed ≤ tree_bytes tree) effect.change_is effect.within,
    ) in
    bytes-by n edit tree changed change x same long within
    ∙ ap (λ (c : Change). Present (left_bytes x c (brought edit))) (sym effect.change_is)
