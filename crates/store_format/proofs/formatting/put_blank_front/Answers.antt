-- The superblock on its page, and zeros behind it.
use Rattle.std.proofs.Common.{ℕ, ◌-◌, ◌++◌, length, take, replicate, ◌∙◌, ap}
use Rattle.store_format.proofs.BlankLemmas.{front-made}
use Rattle.store_format.proofs.formatting.put_blank_front.Goals as goal

pub returns : goal.returns
returns c =
    let room = c.put_super.new.room in
    c.put_zeros.ensures
    ∙ (ap (λ (k : ℕ). take k room ++ replicate (length room - k) 0) c.page-size.ensures.exact
    ∙ front-made c.args.geometry.now room c.page-size.ensures.range (c.put_super.auto.room ∙ c.requires) c.put_super.ensures)
