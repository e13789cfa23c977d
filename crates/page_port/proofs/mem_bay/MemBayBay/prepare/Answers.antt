-- While no page is out, the bytes that are cut or filled up are those of the device.
use Rattle.std.proofs.Common.{◌≡◌, ◌++◌, ◌-◌, take, replicate, ap, ◌∙◌, unwrap_or}
use Rattle.page_port.specs.Device.{Device, resized}
use Rattle.page_port.specs.MemoryBay.{MemDevice, after_call, slots, told_bytes}
use Rattle.page_port.proofs.Slots.{device_of, home_bytes, shown-prepared}
use Rattle.page_port.proofs.mem_bay.MemBayBay.prepare.Goals as goal

pub returns-clause-ok : goal.returns-clause-ok
returns-clause-ok c =
    let shown = c.self.view_is ∙ c.next_fails.ensures.counted in
    let home = home_bytes _ _ c.self.inside.whole.items c.args.self.now.device
    (ap (λ (b : MemDevice). b.device.pages) shown) (ap (λ (b : MemDevice). b.device.bytes) shown) (c.requires) in
    let cut : c.resize.new.self.items ≡ resized c.args.bytes c.self.inside.whole.items =
    c.in-Ok.ensures.items
    ∙ ap (λ k. take c.args.bytes c.self.inside.whole.items ++ replicate (c.args.bytes - k) 0) c.self.inside.whole.ok.0 in
    let size = unwrap_or c.self.inside.mounted 0 in
    let now : Device = device_of (told_bytes size c.clear.new.self.items c.resize.new.self.items)
    (slots size c.clear.new.self.items c.resize.new.self.items) c.self.inside.mounted c.self.inside.faults in
    ap (λ (b : MemDevice). record b { device = now }) shown
    ∙ ap (after_call c.args.self.now) (shown-prepared size c.args.bytes c.self.inside.faults c.clear.new.self.items
    c.self.inside.whole.items c.resize.new.self.items c.self.inside.mounted c.args.self.now.device
    c.clear.ensures.items cut home (ap (λ (b : MemDevice). b.device.mounted) shown))
