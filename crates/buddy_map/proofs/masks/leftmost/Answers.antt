-- Down to the block.
use Rattle.std.proofs.Common.{inl, inr, ◌≡◌, ℕ, ◌+◌, ◌*◌, ◌-◌, ◌%◌, ◌^◌, ◌<◌, ◌≤◌, sym, ap, ◌∙◌, arith}
use Rattle.std.proofs.lemmas.Bool.{cases_eq}
use Rattle.std.proofs.lemmas.Nat.{one_shl}
use Rattle.std.proofs.lemmas.Nat.Bits.{bit_at-lt}
use Rattle.std.specs.Int.{bit_at}
use Rattle.std.specs.Prelude.{slice_index}
use Rattle.buddy_map.proofs.Meaning.{twice_pow}
use Rattle.buddy_map.proofs.Descent.{part_down, halves_within, way_begins, way_found}
use Rattle.buddy_map.proofs.masks.leftmost.Goals as goal

pub loop-depth-init : goal.loop-depth-init
loop-depth-init c = record {
  from = omega arith;
  to = omega arith;
  way = λ free tree bit. way_begins free c.args.masks.now c.args.whole c.args.order tree c.requires.order bit;
}

pub half_with-part-requires-clause-within : goal.half_with-part-requires-clause-within
half_with-part-requires-clause-within c =
    let both = halves_within c.args.whole c.loop-depth._depth c.loop-depth.part (omega arith) c.loop-depth.invariant.to in
    omega (arith, both, c.requires.size)

record IsHalf (left half : ℕ) : Type 0 where
  from : left ≤ half
  to : half ≤ left + 1

half_of : (bit left half : ℕ) → bit < 2 → (bit ≡ 1 → half ≡ left) → (bit ≡ 0 → half ≡ left + 1) → IsHalf left half
half_of bit left half small has lacks = elim (cases_eq bit 1) [
  | inl one ↦ record { from = omega (arith, has one); to = omega (arith, has one) }
  | inr other ↦
      let e : half ≡ left + 1 = lacks (omega arith) in record { from = omega arith; to = omega arith }
]

pub loop-depth-preserved : goal.loop-depth-preserved
loop-depth-preserved c =
    let depth = c.loop-depth._depth in
    let part = c.loop-depth.part in
    let left = c.half_with-part.ensures.left in
    let right = c.half_with-part.ensures.right in
    let bit = bit_at (slice_index c.args.masks.now (2 * part)) c.args.order in
    let small = bit_at-lt (slice_index c.args.masks.now (2 * part)) c.args.order in
    let half = half_of bit (2 * part) c.half_with-part.result small left right in
    record {
      from = omega (arith, half.from, twice_pow depth, c.loop-depth.invariant.from);
      to = omega (arith, half.to, twice_pow depth, c.loop-depth.invariant.to);
      way = λ free tree has. part_down free c.args.masks.now c.args.whole c.args.order depth part c.half_with-part.result tree
          c.requires.order (omega arith) c.loop-depth.invariant.from c.loop-depth.invariant.to (c.loop-depth.invariant.way free tree has)
          left right;
    }

pub returns-clause-few : goal.returns-clause-few
returns-clause-few c =
    let levels = c.args.whole - c.args.order in
    let size : 1 * 2 ^ levels % 4294967296 ≡ 2 ^ levels = one_shl levels 32 (omega arith) in
    let at : 2 ^ c.loop-depth._depth ≡ 2 ^ levels = ap (λ (k : ℕ). 2 ^ k) (omega arith) in
    omega (arith, size, at, c.loop-depth.invariant.to, c.loop-depth.invariant.from)

pub returns-clause-leftmost : goal.returns-clause-leftmost
returns-clause-leftmost c = λ free tree has.
    let levels = c.args.whole - c.args.order in
    let at : c.loop-depth._depth ≡ levels = omega arith in
    let size : 1 * 2 ^ levels % 4294967296 ≡ 2 ^ c.loop-depth._depth =
    one_shl levels 32 (omega arith) ∙ ap (λ (k : ℕ). 2 ^ k) (sym at) in
    way_found free c.args.whole c.args.order c.loop-depth._depth c.loop-depth.part (1 * 2 ^ levels % 4294967296) c.requires.order at size
    (c.loop-depth.invariant.way free tree has)
