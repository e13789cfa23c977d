-- One session and the shelf: what it sees of an object, and why it can't have one.
use Rattle.std.specs.Prelude.{◌≡◌, ℕ, ◌≤◌, ◌==◌, nat_le, List, [], length, false, Option, Some}
use Rattle.std.specs.Prelude.{None, is_some, slice_get, if◌then◌else◌}
use Rattle.eos_ops.specs.declared.limits.TheConstants.{MAX_HELD, LAST_STAMP}
use Rattle.eos_ops.specs.declared.reply.Reply.{Reply}
use Rattle.eos_ops.specs.declared.reply.Reply.TheVariants.{NoObject, Full, Busy, Worn}
use Rattle.object_body.specs.declared.object.Object.{Object}
use Rattle.object_body.specs.Form.{Form, Contents}
use Rattle.shadow_txn.specs.Held.{held_object, AreDistinct}
use Rattle.shadow_txn.specs.Transaction.{Transaction}

-- What an object shows: over every device, over one that tells its bytes, and the stamp of its
-- last end.
pub record Shown : Type 0 where
  pub form : Form
  pub told : Contents
  pub stamp : ℕ

-- an object whose annals keep the last stamp alone
abbrev pub shown_by : {B : Type 0} → (B → Form) → (B → Contents) → Object B ℕ → Shown
shown_by form told x = record { form = form x.body; told = told x.body; stamp = x.annals }

-- the stamp of its last end
abbrev pub stamp_of_object : {B : Type 0} → Object B ℕ → ℕ
stamp_of_object x = x.annals

-- an object where it is: with the session that holds it, or with none, on the shelf
pub record Seen : Type 0 where
  pub holder : Option ℕ
  pub object : Shown

abbrev pub at_home : Shown → Seen
at_home x = record { holder = None; object = x }

abbrev pub in_hand : ℕ → Shown → Seen
in_hand s x = record { holder = Some s; object = x }

-- what stands at a place of the shelf, if anything
abbrev pub home_seen : {T : Type 0} → (T → Shown) → Option (Option T) → Option Seen
home_seen show None = None
home_seen show (Some None) = None
home_seen show (Some (Some x)) = Some (at_home (show x))

abbrev pub own_seen : {T : Type 0} → (T → Shown) → ℕ → Option T → Option Seen → Option Seen
own_seen show s None home = home
own_seen show s (Some x) home = Some (in_hand s (show x))

-- Object o as a session sees it: in its own hands, or on the shelf. An object that another
-- session holds it doesn't see.
abbrev pub seen_by : {T : Type 0} → (T → Shown) → List (Option T) → Transaction T → ℕ → Option Seen
seen_by show shelf txn o =
    own_seen show txn.session (held_object o txn.held) (home_seen show (slice_get shelf o))

-- The session's transaction is over the objects of the shelf, and holds few, each once, and none
-- of those at home. It holds nothing where no transaction is open.
pub record IsSoundSession {T : Type 0} (shelf : List (Option T))
    (txn : Transaction T) : Type 0 where
  pub objects : txn.objects ≡ length shelf
  pub few : length txn.held ≤ MAX_HELD
  pub distinct : AreDistinct txn.held
  pub idle : txn.is_open ≡ false → txn.held ≡ []
  pub out : (o : ℕ) (x : T) → held_object o txn.held ≡ Some x → slice_get shelf o ≡ Some None

-- why an object can't be taken from its place on the shelf
abbrev pub place_refused : {T : Type 0} → (T → Shown) → Option (Option T) → Option Reply
place_refused show None = Some NoObject
place_refused show (Some None) = Some Busy
place_refused show (Some (Some x)) = if (show x).stamp == LAST_STAMP then Some Worn else None

-- why a session with a transaction open can't have object o; one that it holds meets none of these
abbrev pub refused_by : {T : Type 0} → (T → Shown) → List (Option T) → Transaction T → ℕ
    → Option Reply
refused_by show shelf txn o =
    if is_some (held_object o txn.held) then None
    else if nat_le (length shelf) o then Some NoObject
    else if nat_le MAX_HELD (length txn.held) then Some Full
    else place_refused show (slice_get shelf o)
