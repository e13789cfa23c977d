use Rattle.std.proofs.Common.{◌≡◌, take}
use Rattle.block_model.specs.Bitmap.{packed}
use Rattle.buddy_map.proofs.bits.pack.Given as goal

-- the bytes so far are those of the bitmap
abbrev pub invariant-loop-i : goal.invariant-loop-i
invariant-loop-i l = take l.i l.out ≡ packed l.i l.pages
