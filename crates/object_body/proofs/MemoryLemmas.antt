-- Which commands may take memory, by the edits that they make.
use Rattle.std.proofs.Common.{◌≡◌, Some, sym, subst}
use Rattle.eos_ops.specs.declared.command.Command.{Command}
use Rattle.eos_ops.specs.declared.command.Command.TheVariants.{Begin, Create, Destroy, Length, Read, Append, Insert}
use Rattle.eos_ops.specs.declared.command.Command.TheVariants.{Delete, Replace, Commit, Abort, Status}
use Rattle.eos_ops.specs.declared.edit.Edit.{Edit}
use Rattle.eos_ops.specs.declared.edit.Edit.TheVariants as edit
use Rattle.eos_ops.specs.Memory.{MayTakeMemory}
use Rattle.eos_ops.specs.Objects.{edit_of}
use Rattle.base_laws.proofs.OptionLaws.{some-inner}
use Rattle.object_body.specs.Memory.{EditMayTakeMemory}

pub command-may_take : (c : Command) (e : Edit) → edit_of c ≡ Some e → EditMayTakeMemory e → MayTakeMemory c
command-may_take (Create o t) e is may = subst EditMayTakeMemory (sym (some-inner (edit.Create t) e is)) may
command-may_take (Destroy o) e is may = tt
command-may_take (Append o p) e is may = tt
command-may_take (Insert o at p) e is may = tt
command-may_take (Delete o at n) e is may = tt
command-may_take (Replace o at p) e is may = tt
command-may_take (Read o at n) e is may = absurd cc
command-may_take (Length o) e is may = absurd cc
command-may_take Begin e is may = absurd cc
command-may_take Commit e is may = absurd cc
command-may_take Abort e is may = absurd cc
command-may_take Status e is may = absurd cc

pub edit-may_take : (c : Command) (e : Edit) → edit_of c ≡ Some e → MayTakeMemory c → EditMayTakeMemory e
edit-may_take c (edit.Create t) is may = created c is may
  where
    created : (c : Command) → edit_of c ≡ Some (edit.Create t) → MayTakeMemory c → ⊥
    created (Create o threshold) is may = may
    created (Destroy o) is may = absurd cc
    created (Append o p) is may = absurd cc
    created (Insert o at p) is may = absurd cc
    created (Delete o at n) is may = absurd cc
    created (Replace o at p) is may = absurd cc
    created (Read o at n) is may = absurd cc
    created (Length o) is may = may
    created Begin is may = may
    created Commit is may = may
    created Abort is may = may
    created Status is may = may
edit-may_take c edit.Destroy is may = tt
edit-may_take c (edit.Append p) is may = tt
edit-may_take c (edit.Insert at p) is may = tt
edit-may_take c (edit.Delete at n) is may = tt
edit-may_take c (edit.Replace at p) is may = tt
