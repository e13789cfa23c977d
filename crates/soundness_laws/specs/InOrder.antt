-- What the lines of a run are to be, and which objects are held after them.
use Rattle.std.specs.Prelude.{◌≡◌, ℕ, ◌≤◌, Bool, true, Some, List, [], ◌∷◌}
use Rattle.eos_ops.specs.declared.edit.Edit.{Edit}
use Rattle.eos_ops.specs.Objects.{edit_of}
use Rattle.history.specs.Event.{Event}
use Rattle.history.specs.Holding.{holds, some_upto}
use Rattle.history.specs.Transactions.{is_open}
use Rattle.soundness_laws.specs.Keeping.{AsksThreshold}
use Rattle.eos_ops.specs.declared.reply.Reply.TheVariants as reply

-- is the object held by one of these sessions?
abbrev pub is_held : ℕ → List Event → ℕ → Bool
is_held sessions past o = some_upto sessions (λ s. holds s o past)

-- An answered line of one of the sessions. An edit that is answered `ok` comes in a transaction
-- that its session has open, and no edit asks for a threshold of 0.
pub record IsInOrder (sessions : ℕ) (past : List Event) (e : Event) : Type 0 where
  pub low : 1 ≤ e.session
  pub high : e.session ≤ sessions
  pub open_for_edits : (edit : Edit) → edit_of e.command ≡ Some edit → e.reply ≡ reply.Ok →
      is_open e.session past ≡ true
  pub thresholds : (edit : Edit) → edit_of e.command ≡ Some edit → AsksThreshold edit

abbrev pub AllInOrder : ℕ → List Event → Type 0
AllInOrder sessions [] = Unit {0}
AllInOrder sessions (e ∷ past) = AllInOrder sessions past × IsInOrder sessions past e
