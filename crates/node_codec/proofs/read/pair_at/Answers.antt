-- The two numbers that are read are those of the pair in the bytes.
use Rattle.std.proofs.Common.{◌+◌, ap, ◌∙◌}
use Rattle.std.proofs.lemmas.List.{take_rest}
use Rattle.byteorder.specs.Endian.{big_from}
use Rattle.node_codec.proofs.ReadLemmas.{pair-read}
use Rattle.node_codec.proofs.read.pair_at.Goals as goal

pub returns : goal.returns
returns c =
    pair-read _ _ c.args.at c.args.page.now
    (c.read_u64.ensures ∙ ap (big_from 0 8) (take_rest c.args.page.now c.args.at))
    (c.read_u32.ensures ∙ ap (big_from 0 4) (take_rest c.args.page.now (c.args.at + 8)))
