-- The pages that come back stand in their places again.
use Rattle.std.proofs.Common.{◌≡◌, ℕ, ◌*◌, List, All, length, drop, ap, sym, ◌∙◌, arith, subst, unwrap_or, vec_len}
use Rattle.std.proofs.lemmas.List.Elements.{All-same}
use Rattle.page_port.specs.MemoryBay.{MemDevice, slots}
use Rattle.page_port.proofs.Slots.{CameBack, CameBack-home, CameBack-away, length-slots}
use Rattle.page_port.proofs.mem_bay.MemBayBay.restore.Goals as goal

pub put_back-requires-clause-range : goal.put_back-requires-clause-range
put_back-requires-clause-range c =
    let pages : length (slots (unwrap_or c.self.inside.mounted 0) c.self.inside.back.items
    c.self.inside.whole.items) ≡ length c.args.self.now.device.pages =
    ap (λ (b : MemDevice). length b.device.pages) c.self.view_is in
    let marks = length-slots (unwrap_or c.self.inside.mounted 0) c.self.inside.back.items c.self.inside.whole.items in
    let came : length c.into_pages.result ≡ length c.args.span.pages = ap length c.into_pages.ensures in
    omega (arith, pages, marks, came, c.first-first.ensures, c.self.inside.back.ok.0, c.requires.range)

pub put_back-requires-clause-sized : goal.put_back-requires-clause-sized
put_back-requires-clause-sized c =
    let size : c.unwrap_or-size.result ≡ unwrap_or c.args.self.now.device.mounted 0 =
    c.unwrap_or-size.ensures ∙ ap (λ (b : MemDevice). unwrap_or b.device.mounted 0) c.self.view_is in
    let P : List ℕ → Type 0 = λ page. length page ≡ unwrap_or c.args.self.now.device.mounted 0 in
    let sized : All P c.into_pages.result = All-same P _ _ c.into_pages.ensures c.requires.sized in
    λ k d below. sized k d below ∙ sym size

pub returns-clause-home : goal.returns-clause-home
returns-clause-home c =
    let behind : (size count : ℕ) → c.unwrap_or-size.result ≡ size → vec_len c.self.inside.back ≡ count →
    drop (size * count) c.put_back.new.whole.items ≡ drop (size * count) c.self.inside.whole.items =
    λ size count s k. subst (λ (n : ℕ). drop n c.put_back.new.whole.items ≡ drop n c.self.inside.whole.items)
    (ap (λ n. n * vec_len c.self.inside.back) s ∙ ap (λ n. size * n) k) c.put_back.ensures.behind in
    let h : CameBack (unwrap_or c.self.inside.mounted 0) c.self.inside.back.items c.put_back.new.back.items
    c.self.inside.whole.items c.put_back.new.whole.items c.args.self.now.device = record {
      pages = ap (λ (b : MemDevice). b.device.pages) c.self.view_is;
      bytes = ap (λ (b : MemDevice). b.device.bytes) c.self.view_is;
      behind = behind _ _ c.unwrap_or-size.ensures c.self.inside.back.ok.0;
      count = sym c.put_back.new.back.ok.0 ∙ c.put_back.ensures.count ∙ c.self.inside.back.ok.0;
      marks = c.put_back.ensures.marks;
    } in
    λ away home. CameBack-home _ _ _ _ _ _ h away home

pub returns-clause-away : goal.returns-clause-away
returns-clause-away c =
    let behind : (size count : ℕ) → c.unwrap_or-size.result ≡ size → vec_len c.self.inside.back ≡ count →
    drop (size * count) c.put_back.new.whole.items ≡ drop (size * count) c.self.inside.whole.items =
    λ size count s k. subst (λ (n : ℕ). drop n c.put_back.new.whole.items ≡ drop n c.self.inside.whole.items)
    (ap (λ n. n * vec_len c.self.inside.back) s ∙ ap (λ n. size * n) k) c.put_back.ensures.behind in
    let h : CameBack (unwrap_or c.self.inside.mounted 0) c.self.inside.back.items c.put_back.new.back.items
    c.self.inside.whole.items c.put_back.new.whole.items c.args.self.now.device = record {
      pages = ap (λ (b : MemDevice). b.device.pages) c.self.view_is;
      bytes = ap (λ (b : MemDevice). b.device.bytes) c.self.view_is;
      behind = behind _ _ c.unwrap_or-size.ensures c.self.inside.back.ok.0;
      count = sym c.put_back.new.back.ok.0 ∙ c.put_back.ensures.count ∙ c.self.inside.back.ok.0;
      marks = c.put_back.ensures.marks;
    } in
    λ away. CameBack-away _ _ _ _ _ _ h away
