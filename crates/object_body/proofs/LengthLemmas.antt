-- An edit of an object of bytes, seen by its length alone.
use Rattle.std.proofs.Common.{◌≡◌, ℕ, ◌+◌, ◌-◌, Bool, true, false, List, ◌++◌, length, take, drop, Some, refl, ap}
use Rattle.std.proofs.Common.{arith, ◌∙◌, ◌⊎◌, inl, inr}
use Rattle.std.specs.Prelude.{nat_le, if◌then◌else◌}
use Rattle.std.proofs.lemmas.Bool.{leb-true}
use Rattle.std.proofs.lemmas.List.{length-append, length-take, length-drop}
use Rattle.eos_ops.specs.declared.edit.Edit.{Edit}
use Rattle.eos_ops.specs.declared.edit.Edit.TheVariants.{Create, Destroy, Append, Insert, Delete, Replace}
use Rattle.eos_ops.specs.declared.outcome.Outcome.{Outcome}
use Rattle.eos_ops.specs.declared.outcome.Outcome.TheVariants.{Done, Exists, Missing, Range}
use Rattle.eos_ops.specs.declared.plain.Plain.{Plain}
use Rattle.eos_ops.specs.declared.plain.Plain.TheVariants.{Absent, Present}
use Rattle.eos_ops.specs.Edits.{outcome_in, edited}
use Rattle.eos_ops.specs.Splice.{inserted, deleted, replaced}
use Rattle.object_body.specs.Lengths.{length_of, outcome_of}
use Rattle.moment_model.specs.Edit.{edited_length}

-- its outcome
pub outcome-by_length : (edit : Edit) (object : Plain) → outcome_in edit object ≡ outcome_of edit (length_of object)
outcome-by_length (Create t) Absent = refl
outcome-by_length Destroy Absent = refl
outcome-by_length (Append p) Absent = refl
outcome-by_length (Insert at p) Absent = refl
outcome-by_length (Delete at n) Absent = refl
outcome-by_length (Replace at p) Absent = refl
outcome-by_length (Create t) (Present x) = refl
outcome-by_length Destroy (Present x) = refl
outcome-by_length (Append p) (Present x) = refl
outcome-by_length (Insert at p) (Present x) = refl
outcome-by_length (Delete at n) (Present x) = refl
outcome-by_length (Replace at p) (Present x) = refl

-- the length of a choice
length-if : (test : Bool) (x y : List ℕ) (a b : ℕ) → (test ≡ true → length x ≡ a) → length y ≡ b →
    length (if test then x else y) ≡ (if test then a else b)
length-if true x y a b fits other = fits refl
length-if false x y a b fits other = other

length-inserted : (x p : List ℕ) (at : ℕ) → nat_le at (length x) ≡ true → length (inserted x at p) ≡ length x + length p
length-inserted x p at fits =
    let within = leb-true at (length x) fits in
    let whole : length (inserted x at p) ≡ length (take at x ++ p) + length (drop at x) = length-append (take at x ++ p) (drop at x) in
    let rest = length-append (take at x) p in
    let front = length-take at x in
    let back = length-drop at x in
    omega (arith, within, whole, rest, front, back)

length-deleted : (x : List ℕ) (at n : ℕ) → nat_le (at + n) (length x) ≡ true → length (deleted x at n) ≡ length x - n
length-deleted x at n fits =
    let within = leb-true (at + n) (length x) fits in
    let whole : length (deleted x at n) ≡ length (take at x) + length (drop (at + n) x) = length-append (take at x) (drop (at + n) x) in
    let front = length-take at x in
    let back = length-drop (at + n) x in
    omega (arith, within, whole, front, back)

length-replaced : (x p : List ℕ) (at : ℕ) → nat_le (at + length p) (length x) ≡ true → length (replaced x at p) ≡ length x
length-replaced x p at fits =
    let within = leb-true (at + length p) (length x) fits in
    let whole : length (replaced x at p) ≡ length (take at x ++ p) + length (drop (at + length p) x) =
    length-append (take at x ++ p) (drop (at + length p) x) in
    let rest = length-append (take at x) p in
    let front = length-take at x in
    let back = length-drop (at + length p) x in
    omega (arith, within, whole, rest, front, back)

same-if : (test : Bool) (a : ℕ) → (if test then a else a) ≡ a
same-if true a = refl
same-if false a = refl

-- and its length after it
pub length-edited : (edit : Edit) (object : Plain) → length_of (edited edit object) ≡ edited_length edit (length_of object)
length-edited (Create t) Absent = refl
length-edited Destroy Absent = refl
length-edited (Append p) Absent = refl
length-edited (Insert at p) Absent = refl
length-edited (Delete at n) Absent = refl
length-edited (Replace at p) Absent = refl
length-edited (Create t) (Present x) = refl
length-edited Destroy (Present x) = refl
length-edited (Append p) (Present x) = ap Some (length-append x p)
length-edited (Insert at p) (Present x) =
    ap Some (length-if (nat_le at (length x)) (inserted x at p) x (length x + length p) (length x) (length-inserted x p at) refl)
length-edited (Delete at n) (Present x) =
    ap Some (length-if (nat_le (at + n) (length x)) (deleted x at n) x (length x - n) (length x) (length-deleted x at n) refl)
length-edited (Replace at p) (Present x) =
    let test = nat_le (at + length p) (length x) in
    ap Some (length-if test (replaced x at p) x (length x) (length x) (length-replaced x p at) refl ∙ same-if test (length x))

-- an outcome is `Done` or not
pub cases_done : (outcome : Outcome) → (outcome ≡ Done) ⊎ (outcome ≡ Done → ⊥)
cases_done Done = inl refl
cases_done Exists = inr (λ same. absurd cc)
cases_done Missing = inr (λ same. absurd cc)
cases_done (Range len) = inr (λ same. absurd cc)
