-- One byte more is that of the next eight pages.
use Rattle.std.proofs.Common.{◌≡◌, ◌*◌, ◌<◌, ℕ, List, ◌++◌, [], ◌∷◌, drop, length, ap, sym, ◌∙◌, arith}
use Rattle.std.proofs.lemmas.List.{take_rest, take_more_set}
use Rattle.block_model.specs.Bitmap.{byte_of, packed}
use Rattle.block_model.proofs.Bitmaps.{packed-more}
use Rattle.buddy_map.proofs.bits.pack.Goals as goal

pub loop-i-preserved : goal.loop-i-preserved
loop-i-preserved c =
    let within : c.loop-i.i < length c.loop-i.out = omega arith in
    let rest = take_rest c.args.pages.now (8 * c.loop-i.i) in
    let byte : c.byte_at.result ≡ byte_of (drop (8 * c.loop-i.i) c.args.pages.now) = c.byte_at.ensures ∙ ap byte_of rest in
    take_more_set c.loop-i.out c.loop-i.i c.byte_at.result within
    ∙ ap (λ (front : List ℕ). front ++ (c.byte_at.result ∷ [])) c.loop-i.invariant
    ∙ ap (λ (b : ℕ). packed c.loop-i.i c.args.pages.now ++ (b ∷ [])) byte
    ∙ sym (packed-more c.loop-i.i c.args.pages.now)
