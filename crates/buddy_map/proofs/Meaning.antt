-- What a mask says: which orders the maximal blocks inside a part of the space have.
use Rattle.std.proofs.Common.{inl, inr, ◌≡◌, ℕ, zero, suc, ◌+◌, ◌*◌, ◌/◌, ◌%◌, ◌^◌, ◌<◌, ◌≤◌, max, Bool, true, false, List, refl, sym, ap}
use Rattle.std.proofs.Common.{◌∙◌, subst, arith, eq-eqb, eqb-true}
use Rattle.std.proofs.Math.Nat.{pow-succ', mul-le-mul_right}
use Rattle.std.proofs.lemmas.Bool.{false≢true, cases_Bool, cases_eq, and_parts, false_from_ne_true}
use Rattle.std.proofs.lemmas.Nat.{pow_pos, pow-add, shr-shr, shr_split, mod_below, or_lt}
use Rattle.std.proofs.lemmas.Nat.Bits.{bit_at-lt, bit_at_or, bit_at-pow_same, bit_at-pow_other, bit_at_above}
use Rattle.std.specs.Prelude.{if◌then◌else◌, ◌&&◌, nat_eq, bit_or}
use Rattle.std.specs.Int.{bit_at}
use Rattle.block_model.specs.Block.{has_page, IsBlock, IsMaximal}
use Rattle.block_model.proofs.Runs.{doubled, IsBlock-left, IsBlock-right, IsBlock-join}
use Rattle.block_model.proofs.Levels.{blocks, blocks-block, block-blocks, maximal_by_parent}
use Rattle.buddy_map.specs.Tree.{joined_mask, mask_of}

-- ---- powers of two

pub twice_pow : (k : ℕ) → 2 ^ (k + 1) ≡ 2 * 2 ^ k
twice_pow k = let e : k + 1 ≡ suc k = omega arith in ap (λ (x : ℕ). 2 ^ x) e ∙ pow-succ' 2 k

pub halved : (n d : ℕ) → n / 2 ^ d / 2 ≡ n / 2 ^ suc d
halved n d = let e : d + 1 ≡ suc d = omega arith in shr-shr n d 1 ∙ ap (λ (x : ℕ). n / 2 ^ x) e

-- ---- a mask by those of the halves

pub mask_of-page : (free : List Bool) (page : ℕ) → mask_of free 0 page ≡ (if has_page free page then 1 else 0)
unfolding mask_of
mask_of-page free page = refl

pub mask_of-halves : (free : List Bool) (j q : ℕ) →
    mask_of free (suc j) q ≡ joined_mask (2 ^ j) (mask_of free j (2 * q)) (mask_of free j (2 * q + 1))
unfolding mask_of
mask_of-halves free j q = refl

-- a mask depends on the part's own pages
pub mask_of-same : (f g : List Bool) (j q : ℕ) →
    ((page : ℕ) → q * 2 ^ j ≤ page → page < q * 2 ^ j + 2 ^ j → has_page g page ≡ has_page f page) → mask_of g j q ≡ mask_of f j q
mask_of-same f g zero q h =
    mask_of-page g q ∙ ap (λ (b : Bool). if b then 1 else 0) (h q (omega arith) (omega arith)) ∙ sym (mask_of-page f q)
mask_of-same f g (suc j) q h =
    let left = mask_of-same f g j (2 * q)
    (λ page low high. h page (omega (arith, doubled q j)) (omega (arith, doubled q j, pow-succ' 2 j))) in
    let right = mask_of-same f g j (2 * q + 1)
    (λ page low high. h page (omega (arith, doubled q j)) (omega (arith, doubled q j, pow-succ' 2 j))) in
    mask_of-halves g j q ∙ ap (λ (m : ℕ). joined_mask (2 ^ j) m (mask_of g j (2 * q + 1))) left
    ∙ ap (λ (m : ℕ). joined_mask (2 ^ j) (mask_of f j (2 * q)) m) right ∙ sym (mask_of-halves f j q)

joined-both : (half left right : ℕ) → left ≡ half → right ≡ half → joined_mask half left right ≡ 2 * half
joined-both half left right a b =
    let both : (nat_eq left half && nat_eq right half) ≡ true =
    ap (λ (x : Bool). x && nat_eq right half) (eq-eqb left half a) ∙ eq-eqb right half b in
    ap (λ (x : Bool). if x then 2 * half else bit_or left right) both

joined-apart : (half left right : ℕ) → (left ≡ half → right ≡ half → ⊥) → joined_mask half left right ≡ bit_or left right
joined-apart half left right h =
    let differ : (nat_eq left half && nat_eq right half) ≡ false =
    false_from_ne_true (nat_eq left half && nat_eq right half) (λ t.
    let parts = and_parts (nat_eq left half) (nat_eq right half) t in h (eqb-true left half parts.0) (eqb-true right half parts.1)) in
    ap (λ (x : Bool). if x then 2 * half else bit_or left right) differ

-- ---- a part that is a block, and one that isn't

pub mask-block : (free : List Bool) (j q : ℕ) → IsBlock free j q → mask_of free j q ≡ 2 ^ j
mask-block free zero q b = mask_of-page free q ∙ ap (λ (x : Bool). if x then 1 else 0) (block-blocks 0 free q b)
mask-block free (suc j) q b =
    mask_of-halves free j q
    ∙ joined-both (2 ^ j) (mask_of free j (2 * q)) (mask_of free j (2 * q + 1))
    (mask-block free j (2 * q) (IsBlock-left free j q b)) (mask-block free j (2 * q + 1) (IsBlock-right free j q b))
    ∙ sym (pow-succ' 2 j)

-- the mask of a part that is no block is below that of one that is
pub mask-apart : (free : List Bool) (j q : ℕ) → (IsBlock free j q → ⊥) → mask_of free j q < 2 ^ j
mask-apart free zero q apart =
    let f : has_page free q ≡ false = false_from_ne_true (has_page free q) (λ t. apart (blocks-block 0 free q t)) in
    let e : mask_of free 0 q ≡ 0 = mask_of-page free q ∙ ap (λ (x : Bool). if x then 1 else 0) f in omega (arith, e)
mask-apart free (suc j) q apart =
    let left : mask_of free j (2 * q) ≤ 2 ^ j = most_by free j (2 * q) (λ b. mask-apart free j (2 * q) b) in
    let right : mask_of free j (2 * q + 1) ≤ 2 ^ j = most_by free j (2 * q + 1) (λ b. mask-apart free j (2 * q + 1) b) in
    let e : mask_of free (suc j) q ≡ bit_or (mask_of free j (2 * q)) (mask_of free j (2 * q + 1)) = halves_by free j q apart
    (λ b. mask-apart free j (2 * q) b) (λ b. mask-apart free j (2 * q + 1) b) in
    let twice : 2 ^ suc j ≡ 2 * 2 ^ j = pow-succ' 2 j in
    let either : bit_or (mask_of free j (2 * q)) (mask_of free j (2 * q + 1)) < 2 ^ suc j =
    or_lt (suc j) (mask_of free j (2 * q)) (mask_of free j (2 * q + 1)) (omega (arith, pow_pos j)) (omega (arith, pow_pos j)) in
    omega arith
  where
    most_by : (free : List Bool) (j q : ℕ) → ((IsBlock free j q → ⊥) → mask_of free j q < 2 ^ j) → mask_of free j q ≤ 2 ^ j
    most_by free j q below = elim (cases_Bool (has_page (blocks j free) q)) [
      | inl t ↦ omega (arith, mask-block free j q (blocks-block j free q t))
      | inr f ↦ omega (arith, below (λ b. false≢true (sym f ∙ block-blocks j free q b)))
    ]

    block_by : (free : List Bool) (j q : ℕ) → ((IsBlock free j q → ⊥) → mask_of free j q < 2 ^ j) → mask_of free j q ≡ 2 ^ j →
        IsBlock free j q
    block_by free j q below e = elim (cases_Bool (has_page (blocks j free) q)) [
      | inl t ↦ blocks-block j free q t
      | inr f ↦ absurd (omega (arith, e, below (λ b. false≢true (sym f ∙ block-blocks j free q b))))
    ]

    halves_by : (free : List Bool) (j q : ℕ) → (IsBlock free (suc j) q → ⊥) →
        ((IsBlock free j (2 * q) → ⊥) → mask_of free j (2 * q) < 2 ^ j) →
        ((IsBlock free j (2 * q + 1) → ⊥) → mask_of free j (2 * q + 1) < 2 ^ j) →
        mask_of free (suc j) q ≡ bit_or (mask_of free j (2 * q)) (mask_of free j (2 * q + 1))
    halves_by free j q apart left right =
        mask_of-halves free j q ∙ joined-apart (2 ^ j) (mask_of free j (2 * q)) (mask_of free j (2 * q + 1))
        (λ a b. apart (IsBlock-join free j q (block_by free j (2 * q) left a) (block_by free j (2 * q + 1) right b)))

pub block-mask : (free : List Bool) (j q : ℕ) → bit_at (mask_of free j q) j ≡ 1 → IsBlock free j q
block-mask free j q e = elim (cases_Bool (has_page (blocks j free) q)) [
  | inl t ↦ blocks-block j free q t
  | inr f ↦
      let small = mask-apart free j q (λ b. false≢true (sym f ∙ block-blocks j free q b)) in
      absurd (omega (arith, e, bit_at_above (mask_of free j q) j j small (omega arith)))
]

pub mask-most : (free : List Bool) (j q : ℕ) → mask_of free j q ≤ 2 ^ j
mask-most free j q = elim (cases_Bool (has_page (blocks j free) q)) [
  | inl t ↦ omega (arith, mask-block free j q (blocks-block j free q t))
  | inr f ↦ omega (arith, mask-apart free j q (λ b. false≢true (sym f ∙ block-blocks j free q b)))
]

-- the mask of a part that is no block has the orders of its halves' masks
pub mask-halves : (free : List Bool) (j q : ℕ) → (IsBlock free (suc j) q → ⊥) →
    mask_of free (suc j) q ≡ bit_or (mask_of free j (2 * q)) (mask_of free j (2 * q + 1))
mask-halves free j q apart =
    mask_of-halves free j q ∙ joined-apart (2 ^ j) (mask_of free j (2 * q)) (mask_of free j (2 * q + 1))
    (λ a b. apart (IsBlock-join free j q
    (block-mask free j (2 * q) (ap (λ (m : ℕ). bit_at m j) a ∙ bit_at-pow_same j))
    (block-mask free j (2 * q + 1) (ap (λ (m : ℕ). bit_at m j) b ∙ bit_at-pow_same j))))

-- ---- the orders of a mask are those of the maximal blocks inside the part

-- a part whose mask has a smaller order is no block
pub no_block : (free : List Bool) (j q i : ℕ) → i < j → bit_at (mask_of free j q) i ≡ 1 → IsBlock free j q → ⊥
no_block free j q i less e b =
    omega (arith, sym e ∙ ap (λ (m : ℕ). bit_at m i) (mask-block free j q b) ∙ bit_at-pow_other j i (λ same. omega arith))

half_of : (r d q : ℕ) → r / 2 ^ suc d ≡ q → (r / 2 ^ d ≡ 2 * q → ⊥) → r / 2 ^ d ≡ 2 * q + 1
half_of r d q e other = omega (arith, e, other, halved r d)

-- a maximal block lies in no part that is a larger block
lies_in : (free : List Bool) (i d r q : ℕ) → IsMaximal free i r → r / 2 ^ suc d ≡ q → IsBlock free (i + suc d) q → ⊥
lies_in free i d r q m e b =
    let pow : 2 ^ (i + suc d) ≡ 2 ^ i * 2 ^ suc d = pow-add 2 i (suc d) in
    let split : r / 2 ^ suc d * 2 ^ suc d + r % 2 ^ suc d ≡ r = shr_split r (suc d) in
    let rest : r % 2 ^ suc d < 2 ^ suc d = mod_below r (2 ^ suc d) (pow_pos (suc d)) in
    let same : r / 2 ^ suc d * 2 ^ suc d ≡ q * 2 ^ suc d = ap (λ (x : ℕ). x * 2 ^ suc d) e in
    let low : q * 2 ^ suc d * 2 ^ i ≤ r * 2 ^ i = mul-le-mul_right (2 ^ i) (omega (arith, split, same)) in
    let high : (r + 1) * 2 ^ i ≤ (q * 2 ^ suc d + 2 ^ suc d) * 2 ^ i = mul-le-mul_right (2 ^ i) (omega (arith, split, same, rest)) in
    let whole : q * 2 ^ (i + suc d) ≡ q * 2 ^ suc d * 2 ^ i = ap (λ (x : ℕ). q * x) pow ∙ omega arith in
    m.alone (i + suc d) q (omega arith) b (omega (arith, low, whole)) (omega (arith, high, whole, pow))

-- the mask of a part has the order of each maximal block inside it
pub mask-maximal : (free : List Bool) (d i r q j : ℕ) → j ≡ i + d → IsMaximal free i r → r / 2 ^ d ≡ q → bit_at (mask_of free j q) i ≡ 1
mask-maximal free zero i r q j level m e =
    let own : r ≡ r / 2 ^ 0 = omega arith in
    let here : r ≡ q = own ∙ e in
    let same : i ≡ j = omega arith in
    let block : IsBlock free j q = subst (λ (k : ℕ). IsBlock free k q) same (subst (λ (x : ℕ). IsBlock free i x) here m.block) in
    ap (λ (x : ℕ). bit_at x i) (mask-block free j q block) ∙ ap (λ (k : ℕ). bit_at (2 ^ j) k) same ∙ bit_at-pow_same j
mask-maximal free (suc d) i r q zero level m e = absurd (omega arith)
mask-maximal free (suc d) i r q (suc j) level m e =
    let child : bit_at (mask_of free j (r / 2 ^ d)) i ≡ 1 = mask-maximal free d i r (r / 2 ^ d) j (omega arith) m refl in
    let apart : IsBlock free (suc j) q → ⊥ = λ b. lies_in free i d r q m e (subst (λ (k : ℕ). IsBlock free k q) level b) in
    let split : bit_at (mask_of free (suc j) q) i ≡ max (bit_at (mask_of free j (2 * q)) i) (bit_at (mask_of free j (2 * q + 1)) i) =
    ap (λ (x : ℕ). bit_at x i) (mask-halves free j q apart) ∙ bit_at_or (mask_of free j (2 * q)) (mask_of free j (2 * q + 1)) i in
    let one = bit_at-lt (mask_of free j (2 * q)) i in
    let two = bit_at-lt (mask_of free j (2 * q + 1)) i in
    elim (cases_eq (r / 2 ^ d) (2 * q)) [
      | inl left ↦ omega (arith, split, one, two, sym (ap (λ (c : ℕ). bit_at (mask_of free j c) i) left) ∙ child)
      | inr right ↦ omega (arith, split, one, two, sym (ap (λ (c : ℕ). bit_at (mask_of free j c) i) (half_of r d q e right)) ∙ child)
    ]

-- a maximal block of order i inside part q of those with 2 ^ d blocks of that order
pub record HasMaximal (free : List Bool) (i d q : ℕ) : Type 0 where
  pub number : ℕ
  pub maximal : IsMaximal free i number
  pub inside : number / 2 ^ d ≡ q

-- from a half to the part
within : (free : List Bool) (d i q j c : ℕ) → j ≡ i + d → c / 2 ≡ q → (IsBlock free (suc j) q → ⊥) →
    ((less : ℕ) → j ≡ i + suc less → HasMaximal free i (suc less) c) → bit_at (mask_of free j c) i ≡ 1 → HasMaximal free i (suc d) q
within free zero i q j c level half apart further e =
    let same : j ≡ i = omega arith in
    let block : IsBlock free j c = block-mask free j c (ap (λ (k : ℕ). bit_at (mask_of free j c) k) same ∙ e) in
    let maximal : IsMaximal free j c =
    maximal_by_parent free j c block (λ b. apart (subst (λ (x : ℕ). IsBlock free (suc j) x) half b)) in
    let own : c / 2 ^ 1 ≡ c / 2 = omega arith in
    record { number = c; maximal = subst (λ (k : ℕ). IsMaximal free k c) same maximal; inside = own ∙ half }
within free (suc d) i q j c level half apart further e =
    let found = further d level in
    record {
      number = found.number;
      maximal = found.maximal;
      inside = sym (halved found.number (suc d)) ∙ ap (λ (x : ℕ). x / 2) found.inside ∙ half;
    }

-- each smaller order of a mask is that of a maximal block inside the part
pub maximal-mask : (free : List Bool) (d i q j : ℕ) → j ≡ i + suc d → bit_at (mask_of free j q) i ≡ 1 → HasMaximal free i (suc d) q
maximal-mask free d i q zero level e = absurd (omega arith)
maximal-mask free d i q (suc j) level e =
    let apart : IsBlock free (suc j) q → ⊥ = no_block free (suc j) q i (omega arith) e in
    let split : bit_at (mask_of free (suc j) q) i ≡ max (bit_at (mask_of free j (2 * q)) i) (bit_at (mask_of free j (2 * q + 1)) i) =
    ap (λ (x : ℕ). bit_at x i) (mask-halves free j q apart) ∙ bit_at_or (mask_of free j (2 * q)) (mask_of free j (2 * q + 1)) i in
    let one = bit_at-lt (mask_of free j (2 * q)) i in
    let two = bit_at-lt (mask_of free j (2 * q + 1)) i in
    elim (cases_eq (bit_at (mask_of free j (2 * q)) i) 1) [
      | inl left ↦
          within free d i q j (2 * q) (omega arith) (omega arith) apart (λ less at. maximal-mask free less i (2 * q) j at left) left
      | inr none ↦
          let right : bit_at (mask_of free j (2 * q + 1)) i ≡ 1 = omega (arith, e, split, none, one, two) in
          within free d i q j (2 * q + 1) (omega arith) (omega arith) apart
          (λ less at. maximal-mask free less i (2 * q + 1) j at right) right
    ]
