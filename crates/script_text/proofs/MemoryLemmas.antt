-- What a command that couldn't be read may say.
use Rattle.eos_ops.specs.declared.command.Command.{Command}
use Rattle.eos_ops.specs.declared.command.Command.TheVariants as command
use Rattle.eos_ops.specs.Memory.{MayTakeMemory}
use Rattle.script_text.specs.Failing.{BringsBytes}

-- a command that brings bytes may want memory for them
pub brings-memory : (c : Command) → BringsBytes c → MayTakeMemory c
brings-memory (command.Append o p) h = tt
brings-memory (command.Insert o at p) h = tt
brings-memory (command.Replace o at p) h = tt
brings-memory command.Begin h = absurd h
brings-memory (command.Create o t) h = absurd h
brings-memory (command.Destroy o) h = absurd h
brings-memory (command.Length o) h = absurd h
brings-memory (command.Read o at n) h = absurd h
brings-memory (command.Delete o at n) h = absurd h
brings-memory command.Commit h = absurd h
brings-memory command.Abort h = absurd h
brings-memory command.Status h = absurd h
