use Rattle.std.proofs.Common.{◌≡◌, take}
use Rattle.block_model.specs.Bitmap.{unpacked}
use Rattle.buddy_map.proofs.bits.unpack.Given as goal

-- the pages so far are those of the bytes so far
abbrev pub invariant-loop-byte : goal.invariant-loop-byte
invariant-loop-byte l = l.pages.items ≡ unpacked (take l.byte-index l.bits)
