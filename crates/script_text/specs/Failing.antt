-- Why a line wasn't read.
use Rattle.std.specs.Prelude.{ℕ, List}
use Rattle.eos_ops.specs.declared.command.Command.{Command}
use Rattle.eos_ops.specs.declared.command.Command.TheVariants.{Begin, Create, Destroy, Length}
use Rattle.eos_ops.specs.declared.command.Command.TheVariants.{Read, Append, Insert, Delete}
use Rattle.eos_ops.specs.declared.command.Command.TheVariants.{Replace, Commit, Abort, Status}
use Rattle.eos_ops.specs.declared.payload.Payload.{Payload}
use Rattle.eos_ops.specs.declared.payload.Payload.TheVariants.{Given, Made}
use Rattle.script_model.specs.Grammar.{IsLine, IsNoLine}
use Rattle.script_text.specs.declared.line.LineFail.{LineFail}
use Rattle.script_text.specs.declared.line.LineFail.TheVariants.{Bad, Memory}

-- the payload is given bytes
abbrev pub IsGiven : Payload → Type 0
IsGiven (Given bytes) = Unit {0}
IsGiven (Made len start) = ⊥

-- the command brings given bytes to an object
abbrev pub BringsBytes : Command → Type 0
BringsBytes (Append o p) = IsGiven p
BringsBytes (Insert o at p) = IsGiven p
BringsBytes (Replace o at p) = IsGiven p
BringsBytes Begin = ⊥
BringsBytes (Create o threshold) = ⊥
BringsBytes (Destroy o) = ⊥
BringsBytes (Length o) = ⊥
BringsBytes (Read o at n) = ⊥
BringsBytes (Delete o at n) = ⊥
BringsBytes Commit = ⊥
BringsBytes Abort = ⊥
BringsBytes Status = ⊥

-- `Bad` says that the text is in no form of the grammar, and `Memory` comes only where it is in
-- one, with its session, and brings bytes
abbrev pub Explains : List ℕ → LineFail → Type 0
Explains text Bad = IsNoLine text
Explains text (Memory session) = (c : Command)
    × IsLine text (record { session = session; command = c }) × BringsBytes c
