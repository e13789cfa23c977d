-- The kind and the zeros are looked at first, and then the numbers alone count.
use Rattle.std.proofs.Common.{◌≡◌, ℕ, ◌∙◌, ◌-◌, drop, take, replicate, sym, ap, arith}
use Rattle.std.proofs.lemmas.Bool.{false≢true}
use Rattle.std.proofs.lemmas.List.{take_all, length-drop}
use Rattle.image_format.proofs.SuperLemmas.{numbers-kind, numbers-zeros}
use Rattle.image_format.proofs.superblock.geometry_in.Goals as goal
use Rattle.image_format.proofs.superblock.geometry_in.Goals.{else-bytes-eq0-via-then-bytes-eq0+else-is_blank_from}
use Rattle.image_format.proofs.superblock.geometry_in.Goals.{else-bytes-eq0-via-else-bytes-eq0}

pub returns-else-bytes-eq0 : goal.returns-else-bytes-eq0
returns-else-bytes-eq0 c =
    elim c.else-bytes-eq0.branch [
      | else-bytes-eq0-via-then-bytes-eq0+else-is_blank_from w ↦
          numbers-zeros c.args.bytes.now (λ zeros.
          let rest = drop 24 c.args.bytes.now in
          let whole : take 232 rest ≡ rest = take_all 232 rest (omega (arith, length-drop 24 c.args.bytes.now, c.told-bytes)) in
          let behind = ap (λ (n : ℕ). replicate (n - 24) 0) (sym c.told-bytes) in
          false≢true (w.if-is_blank_from.ensures.1 (sym whole ∙ zeros ∙ behind)))
      | else-bytes-eq0-via-else-bytes-eq0 w ↦ numbers-kind c.args.bytes.now w.if-bytes-eq0.false
    ]
