-- While no page is out, the bay has all bytes.
use Rattle.std.proofs.Common.{length, ap, sym, ◌∙◌}
use Rattle.page_port.specs.MemoryBay.{MemDevice}
use Rattle.page_port.proofs.Slots.{home_bytes}
use Rattle.page_port.proofs.mem_bay.MemBayBay.size.Goals as goal

pub returns-clause-bytes : goal.returns-clause-bytes
returns-clause-bytes c =
    let shown = c.self.view_is ∙ c.next_fails.ensures.counted in
    λ home. ap length (c.as_slice.ensures.value ∙ sym (home_bytes _ _ c.self.inside.whole.items c.args.self.now.device
    (ap (λ (b : MemDevice). b.device.pages) shown) (ap (λ (b : MemDevice). b.device.bytes) shown) home))
