use Rattle.std.proofs.Common.{drop}
use Rattle.held_parts.proofs.EntryLemmas.{IsSparing}
use Rattle.held_parts.proofs.spare.spare_behind.Given as goal

-- what is spare behind the parts before this one
abbrev pub invariant-loop-part : goal.invariant-loop-part
invariant-loop-part l =
    IsSparing l.page l.parts (drop l.part-index l.parts) l.fn.counts l.counts l.fn.runs l.runs l.spare
