-- What a shelf shows of itself, and what a take and a put change of it.
use Rattle.std.specs.Prelude.{◌≡◌, ◌≢◌, ℕ, ◌+◌, ◌-◌, ◌≤◌, max, List, [], ◌∷◌, ◌++◌, length, drop}
use Rattle.std.specs.Prelude.{All, Option, Some, None, IsSome, IsSomeAnd, IfSome, OnSome}
use Rattle.std.specs.Prelude.{slice_get, slice_set, slice_index_or}
use Rattle.std.specs.Option.{option_map, option_map_or, option_flatten}
use Rattle.atomic_table.specs.Seated.{TableId}
use Rattle.eos_ops.specs.declared.end.End.{End}
use Rattle.eos_ops.specs.declared.plain.Plain.{Plain}
use Rattle.eos_ops.specs.declared.plain.Plain.TheVariants.{Absent}
use Rattle.eos_ops.specs.Ends.{last_stamp_of}

-- what the objects of a shelf agree on: one frame, and for each object its contents at opening
pub record Terms : Type 0 where
  pub frame : List ℕ
  pub opened : List Plain

-- a value, as object o, keeps the terms: it has the frame, and its history is one from the
-- contents at opening
pub record Suits {T : Type 0} (frame : T → List ℕ) (legal : Plain → T → Type 0) (t : Terms)
    (o : ℕ) (value : T) : Type 0 where
  pub framed : frame value ≡ t.frame
  pub history : legal (slice_index_or t.opened o Absent) value

-- What a shelf tells of its past: the ends that it has put, each with its object, and the objects
-- of its successful and of its refused takes, all in order. The reach is the greatest stamp that
-- it has seen in an object or put, the count the number of the last transaction that it has put
-- an end of.
pub record Log : Type 0 where
  pub made : List (ℕ × End)
  pub taken : List ℕ
  pub refused : List ℕ
  pub reach : ℕ
  pub count : ℕ

-- What a shelf shows: how many objects there are; the one session that it serves, or none; the
-- table that it is a seat of, or none; for each object that is out with it the ends that the
-- value had when it was taken, where the shelf knows them; the values that are home, where they
-- are told; its past, where it is told.
pub record Shelving (T : Type 0) : Type 0 where
  pub objects : ℕ
  pub session : Option ℕ
  pub table : Option TableId
  pub out : ℕ → Option (Option (List End))
  pub home : Option (List (Option T))
  pub log : Option Log

-- what no call changes
pub record IsSameShelf {T : Type 0} (old new : Shelving T) : Type 0 where
  pub objects : new.objects ≡ old.objects
  pub session : new.session ≡ old.session
  pub table : new.table ≡ old.table

-- the stamp of the last end, 0 where there is none or none is told
abbrev pub last_told : Option (List End) → ℕ
last_told ends = option_map_or last_stamp_of ends 0

abbrev pub with_take : ℕ → Option (List End) → Log → Log
with_take o ends g = record g { taken = g.taken ++ o ∷ []; reach = max g.reach (last_told ends) }

abbrev pub with_refusal : ℕ → Log → Log
with_refusal o g = record g { refused = g.refused ++ o ∷ [] }

-- a put adds the ends that the value has got since it was taken, at most one
abbrev pub with_put : ℕ → List End → Log → Log
with_put o [] g = g
with_put o (e ∷ more) g = record g {
  made = g.made ++ (o, e) ∷ [];
  reach = max g.reach e.stamp;
  count = e.number;
}

-- the ends that a list has more than it had, where both are told
abbrev pub added_ends : Option (List End) → Option (List End) → List End
added_ends None now = []
added_ends (Some was) None = []
added_ends (Some was) (Some now) = drop (length was) now

-- A take of object o that succeeded: a value with these ends came out. A shelf that tells its
-- past has objects that tell their ends.
pub record IsTake {T : Type 0} (ends : Option (List End)) (o : ℕ) (value : T)
    (old new : Shelving T) : Type 0 where
  pub same : IsSameShelf old new
  pub free : old.out o ≡ None
  pub out : IsSomeAnd (new.out o) (λ known. IfSome known (λ taken. ends ≡ Some taken))
  pub others : (q : ℕ) → q ≢ o → new.out q ≡ old.out q
  pub was_home : IfSome old.home (λ xs. slice_get xs o ≡ Some (Some value))
  pub told : OnSome old.log (IsSome ends)
  pub home : new.home ≡ option_map (λ xs. slice_set xs o None) old.home
  pub log : new.log ≡ option_map (with_take o ends) old.log

-- a take of object o that was refused: it is written down, where the past is told
abbrev pub refused_take : {T : Type 0} → ℕ → Shelving T → Shelving T
refused_take o s = record s { log = option_map (with_refusal o) s.log }

-- a put of object o: its value is home
pub record IsPut {T : Type 0} (ends : Option (List End)) (o : ℕ) (value : T)
    (old new : Shelving T) : Type 0 where
  pub same : IsSameShelf old new
  pub gone : new.out o ≡ None
  pub others : (q : ℕ) → q ≢ o → new.out q ≡ old.out q
  pub home : new.home ≡ option_map (λ xs. slice_set xs o (Some value)) old.home
  pub log : new.log ≡ option_map (with_put o (added_ends (option_flatten (old.out o)) ends)) old.log

-- an end that a shelf may put: of its own session, and within what its past allows
pub record MayAdd {T : Type 0} (shelf : Shelving T) (e : End) : Type 0 where
  pub own : IfSome shelf.session (λ s. e.session ≡ s)
  pub number : IfSome shelf.log (λ g. g.count ≤ e.number)
  pub stamp : IfSome shelf.log (λ g. e.stamp ≤ g.reach + (e.number - g.count))

-- what the ends may be that a value comes back with: those that it was taken with, and at most
-- one more
pub record MayGrow {T : Type 0} (shelf : Shelving T) (was : List End)
    (ends : Option (List End)) : Type 0 where
  pub added : List End
  pub grown : ends ≡ Some (was ++ added)
  pub one : length added ≤ 1
  pub each : All (MayAdd shelf) added

-- nothing is asked where the shelf doesn't know the ends that the value was taken with
abbrev pub MayReturn : {T : Type 0} → Option (List End) → Shelving T → Option (List End) → Type 0
MayReturn ends shelf known = IfSome known (λ was. MayGrow shelf was ends)
