-- The transactions of a history: which are open, and the ends of those that aren't any more.
use Rattle.std.specs.Prelude.{ℕ, zero, suc, ◌+◌, List, [], ◌∷◌, ◌++◌, Bool, true, false, ◌&&◌}
use Rattle.std.specs.Prelude.{◌==◌, Option, Some, None, is_some, is_none, if◌then◌else◌}
use Rattle.std.specs.Option.{option_map, option_map_or}
use Rattle.eos_ops.specs.declared.act.Act.{Act}
use Rattle.eos_ops.specs.declared.end.End.{End}
use Rattle.history.specs.Event.{Event, Deed, Opens, Does, Takes, Closes, Nothing, deed_of}

-- The acts of a transaction after a deed of its session; none where no transaction is open.
-- A `begin` inside a transaction opens nothing.
abbrev pub acts_after : Deed → Option (List Act) → Option (List Act)
acts_after Opens None = Some []
acts_after Opens (Some acts) = Some acts
acts_after (Does o act) acts = option_map (λ so_far. so_far ++ act ∷ []) acts
acts_after (Takes o) acts = acts
acts_after (Closes committed) acts = None
acts_after Nothing acts = acts

-- the acts of the transaction that session s has open, in order, or none
abbrev pub opened : ℕ → List Event → Option (List Act)
opened s [] = None
opened s (e ∷ past) = if e.session == s then acts_after (deed_of e)
    (opened s past) else opened s past

-- whether session s has a transaction open
abbrev pub is_open : ℕ → List Event → Bool
is_open s past = is_some (opened s past)

abbrev pub is_opening : Deed → Bool
is_opening Opens = true
is_opening d = false

-- how many transactions session s has begun, which is the number of its last one
abbrev pub begun : ℕ → List Event → ℕ
begun s [] = 0
begun s (e ∷ past) = if (e.session == s) && is_opening (deed_of e) && is_none (opened s past) then
    begun s past + 1 else begun s past

-- A transaction that is over: whose it was, which one of that session, what it did, and whether
-- it was committed.
pub record Ended : Type 0 where
  pub session : ℕ
  pub number : ℕ
  pub acts : List Act
  pub committed : Bool

-- the end of the transaction that session s has open, if it has one
abbrev pub ending : ℕ → List Event → Bool → List Ended
ending s past committed = option_map_or (λ acts. record {
  session = s;
  number = begun s past;
  acts = acts;
  committed = committed;
} ∷ []) (opened s past) []

-- the end that a deed of session s makes
abbrev pub closed_by : Deed → ℕ → List Event → List Ended
closed_by (Closes committed) s past = ending s past committed
closed_by d s past = []

-- the ends, in the order of their closing
abbrev pub closed : List Event → List Ended
closed [] = []
closed (e ∷ past) = closed past ++ closed_by (deed_of e) e.session past

-- what sessions 1 to n have open counts as aborted, in the order of sessions
abbrev pub left_open : ℕ → List Event → List Ended
left_open zero past = []
left_open (suc n) past = left_open n past ++ ending (suc n) past false

-- All ends of a history of sessions 1 to n: those that were closed, and last those that are open
-- at its end.
unfoldable pub ends : ℕ → List Event → List Ended
ends n past = closed past ++ left_open n past

-- an end without its stamp
abbrev pub unstamped : End → Ended
unstamped e = record {
  session = e.session;
  number = e.number;
  acts = e.acts;
  committed =
      e.committed;
}
