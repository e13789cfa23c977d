-- The entry is read place by place.
use Rattle.std.proofs.Common.{refl, sym}
use Rattle.image_format.proofs.EntryLemmas.{entry_in-absent, entry_in-present}
use Rattle.image_format.proofs.entry.entry_said.Goals as goal

pub returns-then-bytes-eq0 : goal.returns-then-bytes-eq0
returns-then-bytes-eq0 c = sym (entry_in-absent c.args.geometry.now c.args.version c.args.bytes.now c.if-bytes-eq0.true)

pub returns : goal.returns
returns c =
    let said = entry_in-present c.args.geometry.now c.args.version c.args.bytes.now c.if-bytes-eq0.false in
    rw (said, c.u32_at.ensures, c.u64_at.ensures, c.threshold_said.ensures) refl
