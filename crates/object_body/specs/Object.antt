-- What an object's ends say of its committed bytes.
use Rattle.std.specs.Prelude.{Bool, IsTrue, List, Option, IfSome}
use Rattle.eos_ops.specs.declared.end.End.{End}
use Rattle.eos_ops.specs.declared.plain.Plain.{Plain}
use Rattle.history.specs.Annals.{IsLegal}
use Rattle.object_body.specs.Form.{Contents}

-- where the ends and the bytes are told, the ends lead from these contents to the committed ones
abbrev pub IsLegalBody : Bool → Option (List End) → Plain → Contents → Type 0
IsLegalBody tells ends first told = IsTrue tells →
    IfSome ends (λ ends. IsLegal first ends told.committed)
