-- A made payload has as many bytes as it says.
use Rattle.std.proofs.lemmas.Bool.{le-ltb}
use Rattle.std.proofs.lemmas.List.FromFn.{length-map-range_with_len}
use Rattle.eos_ops.specs.declared.limits.TheConstants.{MAX_TRANSFER}
use Rattle.script_text.proofs.made.payload.Goals as goal

pub into_bytes-requires : goal.into_bytes-requires
into_bytes-requires c =
    let short = rw (c.in-Made.is, length-map-range_with_len) at c.requires in
    le-ltb MAX_TRANSFER c.in-Made.len short
