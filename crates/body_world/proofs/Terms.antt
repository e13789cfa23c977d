-- What a session and its shelf ask of the calls of a transaction: the objects are of one store, and so the spaces and the port are theirs.
use Rattle.std.proofs.Common.{◌≡◌, ℕ, Bool, List, [], Option, Some, None, slice_get, refl, ap, sym, subst}
use Rattle.geometry_model.specs.Numbers.{Numbers}
use Rattle.eos_ops.specs.declared.end.End.{End}
use Rattle.object_body.specs.declared.object.Object.{Object}
use Rattle.object_body.specs.Form.{Form, Contents, listed}
use Rattle.object_body.specs.Places.{IsReady}
use Rattle.object_locks.specs.Shelving.{Terms}
use Rattle.object_locks.specs.Solo.{AreSuited}
use Rattle.shadow_txn.specs.Held.{held_object}
use Rattle.shadow_txn.specs.Transaction.{Transaction}
use Rattle.body_txn.specs.Ending.{AreReady}
use Rattle.body_txn.specs.Fields.{at_body, frame_by, LegalBy}
use Rattle.body_txn.specs.Serving.{KeepTerms}
use Rattle.body_world.specs.Served.{Works, IsOfStore}
use Rattle.body_world.specs.Session.{Shown, IsSoundSession, shown_by, at_home, in_hand}
use Rattle.body_world.proofs.Sights.{seen-held, seen-home}

-- annals that keep the last stamp alone tell no ends
abbrev pub untold : ℕ → Option (List End)
untold n = None

-- what stands on the shelf isn't held
home-unheld : {T : Type 0} (shelf : List (Option T)) (txn : Transaction T) (o : ℕ) (x : T) → IsSoundSession shelf txn
    → slice_get shelf o ≡ Some (Some x) → held_object o txn.held ≡ None
home-unheld {T} shelf txn o x sound home = by (held_object o txn.held) refl
  where
    by : (own : Option T) → held_object o txn.held ≡ own → held_object o txn.held ≡ None
    by None is = is
    by (Some y) is = let out : slice_get shelf o ≡ Some None = sound.out o y is in absurd cc

pub home-numbers : {T : Type 0} (show : T → Shown) (n : Numbers) (shelf : List (Option T)) (txn : Transaction T) (works : Works)
    → IsSoundSession shelf txn → IsOfStore show n shelf txn works → (o : ℕ) (x : T) → slice_get shelf o ≡ Some (Some x)
    → (show x).form.numbers ≡ n
home-numbers show n shelf txn works sound store o x home =
    store.objects o (at_home (show x)) (seen-home show shelf txn o x (home-unheld shelf txn o x sound home) home)

pub held-numbers : {T : Type 0} (show : T → Shown) (n : Numbers) (shelf : List (Option T)) (txn : Transaction T) (works : Works)
    → IsOfStore show n shelf txn works → (o : ℕ) (x : T) → held_object o txn.held ≡ Some x → (show x).form.numbers ≡ n
held-numbers show n shelf txn works store o x found =
    store.objects o (in_hand txn.session (show x)) (seen-held show shelf txn o x found)

-- the terms that all objects keep
pub session-terms : {B : Type 0} (tells : Bool) (form : B → Form) (contents : B → Contents) (n : Numbers)
    (shelf : List (Option (Object B ℕ))) (txn : Transaction (Object B ℕ)) (works : Works) → IsSoundSession shelf txn
    → IsOfStore (shown_by form contents) n shelf txn works
    → (t : Terms) × AreSuited (frame_by form) (LegalBy tells untold contents) shelf t
    × KeepTerms (frame_by form) (LegalBy tells untold contents) t txn.held
session-terms tells form contents n shelf txn works sound store = (
  record { frame = listed n; opened = [] },
  λ o x home. record {
    framed = ap listed (home-numbers (shown_by form contents) n shelf txn works sound store o x home);
    history = λ tell. tt;
  },
  λ o x found. record {
    framed = ap listed (held-numbers (shown_by form contents) n shelf txn works store o x found);
    history = λ tell. tt;
  },
)

-- the spaces are ready for each held object
pub session-ready : {B : Type 0} (form : B → Form) (contents : B → Contents) (n : Numbers)
    (shelf : List (Option (Object B ℕ))) (txn : Transaction (Object B ℕ)) (works : Works)
    → IsOfStore (shown_by form contents) n shelf txn works → AreReady (at_body form) txn.held works.spaces.rest
session-ready form contents n shelf txn works store o x found =
    subst (λ m. IsReady m works.spaces.rest) (sym (held-numbers (shown_by form contents) n shelf txn works store o x found)) store.ready
