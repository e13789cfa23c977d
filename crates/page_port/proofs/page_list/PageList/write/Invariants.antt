-- j pages are written: they stand behind the pages before `from`, and the rest is as it was.
use Rattle.std.proofs.Common.{◌≡◌, ◌+◌, ◌*◌, take, drop, length}
use Rattle.std.specs.List.{concat}
use Rattle.page_port.specs.Pages.{AreOf}
use Rattle.page_port.proofs.page_list.PageList.write.Given as goal

abbrev pub invariant-loop-j : goal.invariant-loop-j
invariant-loop-j l = record {
  rest : l.rest ≡ drop (l.from + l.j) l.fn.self;
  at : l.at ≡ l.j * l.size;
  count : length l.self ≡ l.from + l.j;
  before : take l.from l.self ≡ take l.from l.fn.self;
  written : concat (drop l.from l.self) ≡ take l.at l.bytes;
  sized : AreOf l.size l.self;
}
