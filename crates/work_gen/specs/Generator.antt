-- The lines that a start value makes. A number is kept, and which sessions have begun; a line is
-- made by draws, each of which moves the number on.
use Rattle.std.specs.Prelude.{ℕ, zero, suc, ◌+◌, ◌*◌, ◌/◌, ◌%◌, ◌^◌, Bool, true, false, ◌==◌, ◌||◌}
use Rattle.std.specs.Prelude.{List, [], ◌∷◌, None, if◌then◌else◌, get_or, slice_set}
use Rattle.eos_ops.specs.declared.command.Command.{Command}
use Rattle.eos_ops.specs.declared.command.Command.TheVariants.{Begin, Create, Destroy, Length}
use Rattle.eos_ops.specs.declared.command.Command.TheVariants.{Read, Append, Insert, Delete}
use Rattle.eos_ops.specs.declared.command.Command.TheVariants.{Replace, Commit, Abort, Status}
use Rattle.eos_ops.specs.declared.payload.Payload.{Payload}
use Rattle.eos_ops.specs.declared.payload.Payload.TheVariants.{Made}
use Rattle.script_model.specs.declared.line.Line.{Line}

-- the number that was drawn last, and which of the four sessions are in a transaction
pub record Generator : Type 0 where
  pub number : ℕ
  pub begun : List Bool

-- at first the number is the start value, and no session has begun
abbrev pub started : ℕ → Generator
started start = record { number = start; begun = false ∷ false ∷ false ∷ false ∷ [] }

-- the number after x
abbrev pub next_number : ℕ → ℕ
next_number x = (1664525 * x + 1013904223) % 2 ^ 32

-- the k-th number after x
abbrev pub number_after : ℕ → ℕ → ℕ
number_after zero x = x
number_after (suc k) x = number_after k (next_number x)

-- what the k-th draw after x gives, the first being draw 1: its upper half
abbrev pub drawn : ℕ → ℕ → ℕ
drawn k x = number_after k x / 65536

-- a payload of 1 to 2000 bytes, made by draws k and k + 1
abbrev pub payload_at : ℕ → ℕ → Payload
payload_at k x = Made (1 + drawn k x % 2000) (drawn (suc k) x)

-- a number of 1 to 2000 bytes, and a place below 4096
abbrev pub length_at : ℕ → ℕ → ℕ
length_at k x = 1 + drawn k x % 2000

abbrev pub place_at : ℕ → ℕ → ℕ
place_at k x = drawn k x % 4096

-- The command of kind z on an object, which draw 1 after x names; the draws after it are its
-- place, then its length, then the first byte of its payload, those of them that it has.
abbrev pub command_on : ℕ → ℕ → Command
command_on z x =
    let object = drawn 1 x % 16 in
    if z == 2 then Create object None
    else if z == 3 || z == 4 || z == 5 || z == 18 || z == 19 then Append object (payload_at 2 x)
    else if z == 6 || z == 7 || z == 8 then Insert object (place_at 2 x) (payload_at 3 x)
    else if z == 9 || z == 10 then Delete object (place_at 2 x) (length_at 3 x)
    else if z == 11 || z == 12 then Replace object (place_at 2 x) (payload_at 3 x)
    else if z == 13 || z == 14 then Read object (place_at 2 x) (length_at 3 x)
    else if z == 15 then Length object
    else Destroy object

-- the command of a session that has begun: draw 1 after x says of which of twenty kinds it is
abbrev pub command_after : ℕ → Command
command_after x =
    let z = drawn 1 x % 20 in
    if z == 0 then Commit
    else if z == 1 then Abort
    else if z == 17 then Status
    else command_on z (next_number x)

-- how many draws such a command is made by, beside the two for the session and the kind
abbrev pub further_draws : Command → ℕ
further_draws Begin = 0
further_draws Commit = 0
further_draws Abort = 0
further_draws Status = 0
further_draws (Create o t) = 1
further_draws (Destroy o) = 1
further_draws (Length o) = 1
further_draws (Append o p) = 3
further_draws (Delete o at n) = 3
further_draws (Read o at n) = 3
further_draws (Insert o at p) = 4
further_draws (Replace o at p) = 4

-- whether a session has begun after it gave this command
abbrev pub has_begun : Command → Bool
has_begun Commit = false
has_begun Abort = false
has_begun c = true

-- which session is next, counted from 0
abbrev pub turn_of : Generator → ℕ
turn_of g = drawn 1 g.number % 4

-- whether it has begun
abbrev pub goes_on : Generator → Bool
goes_on g = get_or g.begun (turn_of g) false

-- its command: it begins, or goes on where it has begun
abbrev pub drawn_command : Bool → ℕ → Command
drawn_command goes_on x = if goes_on then command_after x else Begin

abbrev pub next_command : Generator → Command
next_command g = drawn_command (goes_on g) (next_number g.number)

-- how many draws this command is made by, beside the one for the session
abbrev pub draws_of : Bool → Command → ℕ
draws_of goes_on c = if goes_on then suc (further_draws c) else 0

-- the next line
abbrev pub next_line : Generator → Line
next_line g = record { session = turn_of g + 1; command = next_command g }

-- the generator after that line
abbrev pub after_line : Generator → Generator
after_line g = record {
  number = number_after (suc (draws_of (goes_on g) (next_command g))) g.number;
  begun = slice_set g.begun (turn_of g) (has_begun (next_command g));
}

-- the next n lines
abbrev pub made_lines : ℕ → Generator → List Line
made_lines zero g = []
made_lines (suc n) g = next_line g ∷ made_lines n (after_line g)

-- the generator after n lines
abbrev pub after_lines : ℕ → Generator → Generator
after_lines zero g = g
after_lines (suc n) g = after_lines n (after_line g)
