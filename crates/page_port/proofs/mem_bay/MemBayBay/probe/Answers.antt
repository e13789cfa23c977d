-- While no page is out, the first bytes of the bay are those of the device.
use Rattle.std.proofs.Common.{take, ap, sym, ◌∙◌}
use Rattle.page_port.specs.MemoryBay.{MemDevice}
use Rattle.page_port.proofs.Slots.{home_bytes}
use Rattle.page_port.proofs.mem_bay.MemBayBay.probe.Goals as goal

pub returns-clause-bytes : goal.returns-clause-bytes
returns-clause-bytes c =
    let shown = c.self.view_is ∙ c.next_fails.ensures.counted in
    λ home. c.copy_from_slice.ensures.after
    ∙ ap (take 256) (c.as_slice-whole.ensures.value ∙ sym (home_bytes _ _ c.self.inside.whole.items c.args.self.now.device
    (ap (λ (b : MemDevice). b.device.pages) shown) (ap (λ (b : MemDevice). b.device.bytes) shown) home))
