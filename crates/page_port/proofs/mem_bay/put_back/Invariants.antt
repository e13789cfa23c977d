-- What is left to put back gives, from here, what the whole run gives from the start.
use Rattle.std.proofs.Common.{◌≡◌, ◌+◌, ◌*◌, length, vec_len, drop, IsTrue}
use Rattle.page_port.specs.Pages.{AreOf}
use Rattle.page_port.specs.Device.{after_return}
use Rattle.page_port.specs.MemoryBay.{slots, all_back}
use Rattle.page_port.proofs.mem_bay.put_back.Given as goal

abbrev pub invariant-loop-page : goal.invariant-loop-page
invariant-loop-page l = record {
  left : after_return l.number l.pages (slots l.size l.back.items l.whole.items)
      ≡ after_return l.fn.first l.fn.pages (slots l.size l.fn.back.items l.fn.whole.items);
  range : l.number + length l.pages ≡ l.fn.first + length l.fn.pages;
  sized : AreOf l.size l.pages;
  behind : drop (l.size * vec_len l.fn.back) l.whole.items ≡ drop (l.size * vec_len l.fn.back) l.fn.whole.items;
  bytes : vec_len l.whole ≡ vec_len l.fn.whole;
  count : vec_len l.back ≡ vec_len l.fn.back;
  marks : IsTrue (all_back l.fn.back.items) → IsTrue (all_back l.back.items);
}

abbrev pub decreases-loop-page : goal.decreases-loop-page
decreases-loop-page l = length l.pages
