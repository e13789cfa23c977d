-- i pages are copied.
use Rattle.std.proofs.Common.{◌≡◌, ◌*◌, take, length}
use Rattle.std.specs.List.{concat}
use Rattle.page_port.specs.Pages.{AreOf}
use Rattle.page_port.proofs.page_list.PageList.from_bytes.Given as goal

abbrev pub invariant-loop-i : goal.invariant-loop-i
invariant-loop-i l = record {
  at : l.at ≡ l.size * l.i;
  count : length l.list ≡ l.i;
  sized : AreOf l.size l.list;
  bytes : concat l.list ≡ take l.at l.bytes;
}
