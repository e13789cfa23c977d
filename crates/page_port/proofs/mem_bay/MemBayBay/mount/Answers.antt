-- What is handed out are the first bytes, and what stays are those behind them.
use Rattle.std.proofs.Common.{◌≡◌, ◌*◌, Some, take, length, replicate, ap, sym, subst, ◌∙◌, false}
use Rattle.std.proofs.Common.{arith}
use Rattle.std.proofs.lemmas.Grind.{common_steps}
use Rattle.std.specs.List.{concat}
use Rattle.page_port.specs.Device.{Device}
use Rattle.page_port.specs.Memory.{Row}
use Rattle.page_port.specs.Pages.{AreOf}
use Rattle.page_port.specs.MemoryBay.{MemDevice, after_call, slots, told_bytes}
use Rattle.page_port.proofs.Slots.{device_of, home_bytes, shown-mounted}
use Rattle.page_port.proofs.mem_bay.MemBayBay.mount.Goals as goal

pub returns-clause-ok : goal.returns-clause-ok
returns-clause-ok c =
    let shown = c.self.view_is ∙ c.next_fails.ensures.counted in
    let home = home_bytes _ _ c.self.inside.whole.items c.args.self.now.device
    (ap (λ (b : MemDevice). b.device.pages) shown) (ap (λ (b : MemDevice). b.device.bytes) shown) (c.requires.home) in
    let marks : c.resize.new.self.items ≡ replicate c.args.pages false =
    grind (arith, common_steps, c.in-Ok-resize.ensures.items, c.new-back.ensures.items, c.new-back.ensures.len) in
    let now : Device = device_of (told_bytes c.args.page c.resize.new.self.items c.self.inside.whole.items)
    (slots c.args.page c.resize.new.self.items c.self.inside.whole.items) (Some c.args.page) c.self.inside.faults in
    ap (λ (b : MemDevice). record b { device = now }) shown
    ∙ ap (after_call c.args.self.now) (shown-mounted c.args.page c.args.pages c.self.inside.faults c.resize.new.self.items
    c.self.inside.whole.items c.args.self.now.device c.requires.some marks home)

pub returns-clause-front : goal.returns-clause-front
returns-clause-front c =
    let shown = c.self.view_is ∙ c.next_fails.ensures.counted in
    let home = home_bytes _ _ c.self.inside.whole.items c.args.self.now.device
    (ap (λ (b : MemDevice). b.device.pages) shown) (ap (λ (b : MemDevice). b.device.bytes) shown) (c.requires.home) in
    let row = c.new.ensures in
    record {
      first = ap (λ (row : Row). row.first) row;
      count = ap (λ (row : Row). length row.pages) row ∙ c.in-Ok.ensures.count;
      sized = λ told. subst (AreOf c.args.page) (sym (ap (λ (row : Row). row.pages) row)) c.in-Ok.ensures.sized;
      bytes = λ told. ap (λ (row : Row). concat row.pages) row ∙ c.in-Ok.ensures.bytes
          ∙ ap (take (c.args.page * c.args.pages)) (c.as_slice-whole.ensures.value ∙ sym home);
    }
