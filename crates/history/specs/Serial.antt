-- Ends that run one after the other, over whole databases and at one object. No locks, no
-- versions, no pages.
use Rattle.std.specs.Prelude.{◌≡◌, ℕ, ◌<◌, List, [], ◌∷◌, Bool, false, ◌==◌, Option, Some, None}
use Rattle.std.specs.Prelude.{length, slice_index_or, slice_set, IsSomeAnd, if◌then◌else◌}
use Rattle.std.specs.List.{filter}
use Rattle.std.specs.Option.{option_map_or}
use Rattle.eos_ops.specs.declared.act.Act.{Act}
use Rattle.eos_ops.specs.declared.plain.Plain.{Plain}
use Rattle.eos_ops.specs.declared.plain.Plain.TheVariants.{Absent}
use Rattle.eos_ops.specs.Objects.{object_of, reply_in, after_in}
use Rattle.history.specs.Transactions.{Ended}

-- the object of a number in a database
abbrev pub object_at : List Plain → ℕ → Plain
object_at db o = slice_index_or db o Absent

-- the act is on an object of the database, and has just the reply of that object
abbrev pub IsRight : List Plain → Act → Type 0
IsRight db a = IsSomeAnd (object_of a.command)
    (λ o. (o < length db) × (reply_in a.command (object_at db o) ≡ a.reply))

-- the database after an act
abbrev pub after_act : List Plain → Act → List Plain
after_act db a = option_map_or (λ o. slice_set db o (after_in a.command (object_at db o)))
    (object_of a.command) db

-- the acts, one after the other, each have the reply that they get there
abbrev pub RightActs : List Plain → List Act → Type 0
RightActs db [] = Unit {0}
RightActs db (a ∷ acts) = IsRight db a × RightActs (after_act db a) acts

abbrev pub after_acts : List Plain → List Act → List Plain
after_acts db [] = db
after_acts db (a ∷ acts) = after_acts (after_act db a) acts

-- A committed end leaves what its acts made, an aborted one the database as it was.
abbrev pub after_end : List Plain → Ended → List Plain
after_end db e = if e.committed then after_acts db e.acts else db

-- The ends run one after the other from db, each act gives just the reply that it has, and the
-- last database is db2.
abbrev pub Serial : List Plain → List Ended → List Plain → Type 0
Serial db [] db2 = db2 ≡ db
Serial db (e ∷ ends) db2 = RightActs db e.acts × Serial (after_end db e) ends db2

-- whether a command's object is o
abbrev pub is_target : ℕ → Option ℕ → Bool
is_target o None = false
is_target o (Some p) = p == o

abbrev pub is_on : ℕ → Act → Bool
is_on o a = is_target o (object_of a.command)

-- the acts on one object
abbrev pub acts_on : ℕ → List Act → List Act
acts_on o acts = filter (is_on o) acts

-- Acts on one object, one after the other, each have the reply that it gives.
abbrev pub RightAt : Plain → List Act → Type 0
RightAt x [] = Unit {0}
RightAt x (a ∷ acts) = (reply_in a.command x ≡ a.reply) × RightAt (after_in a.command x) acts

-- the object after them
abbrev pub replayed : Plain → List Act → Plain
replayed x [] = x
replayed x (a ∷ acts) = replayed (after_in a.command x) acts

-- an act on an object below n
abbrev pub IsInside : ℕ → Act → Type 0
IsInside n a = IsSomeAnd (object_of a.command) (λ o. o < n)

-- all of them
abbrev pub AreInside : ℕ → List Act → Type 0
AreInside n [] = Unit {0}
AreInside n (a ∷ acts) = IsInside n a × AreInside n acts
