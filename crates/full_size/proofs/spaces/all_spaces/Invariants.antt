use Rattle.std.proofs.Common.{◌≡◌, ◌+◌, ◌*◌, length}
use Rattle.superdirectory.specs.Solo.{AreAlike}
use Rattle.full_size.proofs.spaces.all_spaces.Given as goal

-- the spaces so far, and the pages that are left
abbrev pub invariant-loop-s : goal.invariant-loop-s
invariant-loop-s l = record {
  left : l.rest.count + 16 * l.s ≡ 4097;
  count : length l.spaces.items ≡ l.s;
  alike : AreAlike 256 16 l.spaces.items;
}
