-- A session at work over a shelf and spaces of its own.
use Rattle.std.specs.Prelude.{◌≡◌, ℕ, ◌<◌, Bool, true, List, [], Option, All, IfSome}
use Rattle.eos_ops.specs.declared.end.End.{End}
use Rattle.geometry_model.specs.Numbers.{Numbers}
use Rattle.object_body.specs.declared.object.Object.{Object}
use Rattle.object_body.specs.Form.{Form, Contents, listed}
use Rattle.object_body.specs.Places.{IsReady}
use Rattle.object_locks.specs.Shelving.{Terms}
use Rattle.object_locks.specs.Solo.{solo_shelving, AreSuited}
use Rattle.shadow_txn.specs.Transaction.{Transaction}
use Rattle.superdirectory.specs.Rest.{Rest}
use Rattle.body_txn.specs.Fields.{at_annals, frame_by, LegalBy}
use Rattle.body_txn.specs.Serving.{ServesTxn, KeepTerms}

-- The shelf serves the transaction; what is home and what is held keeps one store's terms; and the
-- spaces and the pages
-- of the port are those of that store.
pub record IsAtWork {B H : Type 0} (tells : Bool) (form : B → Form) (contents : B → Contents)
    (told : H → Option (List End)) (last : H → ℕ)
    (txn : Transaction (Object B H)) (slots : List (Option (Object B H))) (rest : Rest)
    (page : ℕ) : Type 0 where
  pub serves : ServesTxn (at_annals told) (at_annals last) txn (solo_shelving slots)
  pub terms : Terms
  pub suited : AreSuited (frame_by form) (LegalBy tells told contents) slots terms
  pub agree : KeepTerms (frame_by form) (LegalBy tells told contents) terms txn.held
  pub numbers : Numbers
  pub framed : terms.frame ≡ listed numbers
  pub ready : IsReady numbers rest
  pub sized : page ≡ numbers.page
  pub some : 0 < numbers.spaces

-- the store of the rows: pages of 256 bytes, one space of 16 pages, 32 objects
abbrev pub small : Numbers
small = record { page = 256; order = 4; spaces = 1; catalog = 2; threshold = 2 }

-- objects that a session begins with: of one store, at rest, and without ends
pub record AreFresh {B H : Type 0} (form : B → Form) (told : H → Option (List End)) (n : Numbers)
    (objects : List (Object B H)) : Type 0 where
  pub of_store : All (λ x. (form x.body).numbers ≡ n) objects
  pub at_rest : All (λ x. (form x.body).is_resting ≡ true) objects
  pub new : All (λ x. IfSome (told x.annals) (λ ends. ends ≡ [])) objects
