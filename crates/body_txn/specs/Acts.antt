-- What a transaction did to an object that it holds.
use Rattle.std.specs.Prelude.{◌≡◌, ℕ, List, Bool, Option, IfSome, IsTrue}
use Rattle.eos_ops.specs.declared.act.Act.{Act}
use Rattle.eos_ops.specs.declared.end.End.{End}
use Rattle.eos_ops.specs.Ends.{last_stamp_of}
use Rattle.object_body.specs.Form.{Form, Contents, AreTied}
use Rattle.shadow_txn.specs.Acts.{Lead}

-- A held object with the acts on it. Where bytes are told, its lengths are those of its bytes and
-- the acts lead to its working version; its last stamp is that of its last end.
pub record IsLedBy {T : Type 0} (tells : Bool) (suits : Contents → Type 0) (form : T → Form)
    (contents : T → Contents) (keeps : Bool) (told : T → Option (List End)) (last : T → ℕ) (x : T)
    (acts : List Act) : Type 0 where
  pub tied : IsTrue tells → AreTied suits (form x) (contents x)
  pub lead : IsTrue tells → Lead keeps (contents x).committed acts (contents x).working
  pub ages : IfSome (told x) (λ ends. last x ≡ last_stamp_of ends)
