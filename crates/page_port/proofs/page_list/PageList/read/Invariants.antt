-- The first loop walks to page `from`; the second has copied j pages.
use Rattle.std.proofs.Common.{◌≡◌, ◌+◌, ◌*◌, take, drop, map}
use Rattle.page_port.specs.Memory.{page_items}
use Rattle.page_port.specs.Pages.{run_bytes}
use Rattle.page_port.proofs.page_list.PageList.read.Given as goal

abbrev pub invariant-loop-i : goal.invariant-loop-i
invariant-loop-i l = map page_items l.rest ≡ drop l.i l.self

abbrev pub invariant-loop-j : goal.invariant-loop-j
invariant-loop-j l = record {
  rest : map page_items l.rest ≡ drop (l.from + l.j) l.self;
  at : l.at ≡ l.j * l.size;
  copied : take l.at l.out ≡ run_bytes l.from l.j l.self;
}
