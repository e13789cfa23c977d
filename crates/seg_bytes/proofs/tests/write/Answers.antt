-- The port of the tests has pages of 256 bytes.
use Rattle.std.proofs.Common.{ℕ, true, subst}
use Rattle.span_store.specs.Held.{AllSized}
use Rattle.seg_bytes.proofs.tests.write.Goals as goal

pub returns-clause-sized : goal.returns-clause-sized
returns-clause-sized g c =
    subst (λ (size : ℕ). AllSized true size c.write_bytes.new.held) c.requires.page c.write_bytes.ensures.others.sized
