-- What an object shows through its body and through its annals.
use Rattle.std.specs.Prelude.{◌≡◌, ℕ, List, Bool, true, Option}
use Rattle.eos_ops.specs.declared.end.End.{End}
use Rattle.eos_ops.specs.declared.plain.Plain.{Plain}
use Rattle.object_body.specs.declared.object.Object.{Object}
use Rattle.object_body.specs.Form.{Form, Contents, listed}
use Rattle.object_body.specs.Object.{IsLegalBody}

-- what the annals of an object show
abbrev pub at_annals : {B H A : Type 0} → (H → A) → Object B H → A
at_annals shows = λ x. shows x.annals

-- its body
abbrev pub body_of : {B H : Type 0} → Object B H → B
body_of = λ x. x.body

-- what its body shows
abbrev pub at_body : {B H A : Type 0} → (B → A) → Object B H → A
at_body shows = λ x. shows x.body

-- the numbers of its store, as a list
abbrev pub frame_by : {B H : Type 0} → (B → Form) → Object B H → List ℕ
frame_by form = λ x. listed (form x.body).numbers

-- it is at rest
abbrev pub RestsBy : {B H : Type 0} → (B → Form) → Object B H → Type 0
RestsBy form = λ x. (form x.body).is_resting ≡ true

-- where ends and bytes are told, its ends lead from these contents to the committed ones
abbrev pub LegalBy : {B H : Type 0} → Bool → (H → Option (List End)) → (B → Contents) → Plain
    → Object B H → Type 0
LegalBy tells told contents = λ first x. IsLegalBody tells (told x.annals) first (contents x.body)
