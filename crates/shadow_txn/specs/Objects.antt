-- The two versions of an object in memory.
use Rattle.std.specs.Prelude.{List, Option, Some, IfSome, unwrap_or}
use Rattle.eos_ops.specs.declared.edit.Edit.{Edit}
use Rattle.eos_ops.specs.declared.end.End.{End}
use Rattle.eos_ops.specs.declared.plain.Plain.{Plain}
use Rattle.eos_ops.specs.Edits.{edited}
use Rattle.history.specs.Annals.{IsLegal}
use Rattle.shadow_txn.specs.declared.plain_object.PlainObject.{PlainObject}

-- the working version, which is the committed one where there is no other
abbrev pub working_of : {H : Type 0} → PlainObject H → Plain
working_of x = unwrap_or x.working x.committed

-- an edit changes the working version alone
abbrev pub edited_object : {H : Type 0} → Edit → PlainObject H → PlainObject H
edited_object e x = record {
  committed = x.committed;
  working = Some (edited e (working_of x));
  annals = x.annals;
}

-- where the ends are told, they lead from these contents to the committed version
abbrev pub IsLegalObject : {H : Type 0} → (H → Option (List End)) → Plain → PlainObject H → Type 0
IsLegalObject told first x = IfSome (told x.annals) (λ ends. IsLegal first ends x.committed)
