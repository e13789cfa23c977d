-- The first bytes, and zeros behind them, are the superblock and zeros.
use Rattle.std.proofs.Common.{◌≡◌, ℕ, ◌-◌, length, replicate, take, ◌∙◌, sym, ap}
use Rattle.image_format.proofs.SuperLemmas.{length-head, super-written, super-begins}
use Rattle.image_format.proofs.superblock.write_super.Goals as goal

pub returns-clause-bytes : goal.returns-clause-bytes
returns-clause-bytes c =
    let head = c.head_of-head.ensures.bytes in
    let long : length c.head_of-head.result ≡ 24 = ap length head ∙ length-head c.args.geometry.now in
    let front = ap (λ (k : ℕ). take k c.put_first.new.page) (sym long) ∙ c.put_first.ensures ∙ head in
    super-written c.args.geometry.now c.put_first.new.page c.clear_from.new.page c.head_of-head.ensures.range
    (c.put_first.auto.page ∙ c.requires.size) front c.clear_from.ensures

pub returns-clause-found : goal.returns-clause-found
returns-clause-found c =
    super-begins c.args.geometry.now c.clear_from.new.page (replicate (c.args.geometry.now.page - 256) 0)
    c.head_of-head.ensures.range (returns-clause-bytes c)
