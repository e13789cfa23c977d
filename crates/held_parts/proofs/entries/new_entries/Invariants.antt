use Rattle.std.proofs.Common.{drop}
use Rattle.held_parts.proofs.EntryLemmas.{IsLaying}
use Rattle.held_parts.proofs.entries.new_entries.Given as goal

-- the entries of the parts before this one are there
abbrev pub invariant-loop-part : goal.invariant-loop-part
invariant-loop-part l =
    IsLaying l.page l.parts (drop l.part-index l.parts) l.fn.counts l.counts l.fn.runs l.runs l.entries.items
