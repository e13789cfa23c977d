-- The exact hint of a space, read off the greatest order of its free blocks.
use Rattle.std.proofs.Common.{inl, inr, ◌≡◌, ℕ, suc, zero, ◌+◌, ◌^◌, ◌≤◌, Bool, List, length, Some, None, refl, sym, ap, ◌∙◌, arith}
use Rattle.std.proofs.Math.Pow.{pow_mono}
use Rattle.std.proofs.lemmas.Bool.{cases_lt}
use Rattle.block_model.specs.Place.{hint_of, largest, order_before}
use Rattle.block_model.proofs.Runs.{IsBlock-within}
use Rattle.block_model.proofs.Laws.{hint_of-is, hint_of-largest}
use Rattle.space_directory.specs.SpaceView.{SpaceView, IsSpace}

before_some : (o hint : ℕ) → Some o ≡ order_before hint → hint ≡ suc o
before_some o zero e = cc
before_some o (suc h) e = let same : o ≡ h = cc in ap suc (sym same)

before_none : (hint : ℕ) → None ≡ order_before hint → hint ≡ 0
before_none zero e = refl
before_none (suc h) e = cc

pub hint_some : (free : List Bool) (o : ℕ) → Some o ≡ largest free → o + 1 ≡ hint_of free
hint_some free o e = let h : hint_of free ≡ suc o = before_some o (hint_of free) (e ∙ hint_of-largest free) in omega arith

pub hint_none : (free : List Bool) → None ≡ largest free → 0 ≡ hint_of free
hint_none free e = sym (before_none (hint_of free) (e ∙ hint_of-largest free))

-- a free block is no longer than the space
pub largest_small : (free : List Bool) (o : ℕ) → length free ≤ 2 ^ 14 → Some o ≡ largest free → o ≤ 14
largest_small free o short e =
    let block = (hint_of-is free).reached o (before_some o (hint_of free) (e ∙ hint_of-largest free)) in
    let size : 2 ^ o ≤ length free = omega (arith, IsBlock-within free o block.0 block.1) in
    elim (cases_lt 14 o) [
      | inl more ↦ let large : 2 ^ 15 ≤ 2 ^ o = pow_mono {i = 15} {j = o} (omega arith) in absurd (omega arith)
      | inr ok ↦ ok
    ]

pub space_short : (v : SpaceView) → IsSpace v → length v.free ≤ 2 ^ 14
space_short v s = let most : 2 ^ s.order ≤ 2 ^ 14 = pow_mono {i = s.order} {j = 14} s.order_high in omega (arith, s.size)
