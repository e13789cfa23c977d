-- The blocks of one order as a list of tests, made by joining neighbours order by order.
use Rattle.std.proofs.Common.{◌≡◌, ℕ, suc, zero, ◌+◌, ◌*◌, ◌/◌, ◌^◌, ◌≤◌, ◌-◌, Bool, true, false, not, ◌&&◌, List}
use Rattle.std.proofs.Common.{[], ◌∷◌, Option, Some, None, refl, sym, ◌∙◌, subst, arith}
use Rattle.std.proofs.Math.Nat.{pow-succ', mul-le-mul_right}
use Rattle.std.proofs.lemmas.Bool.{false≢true, and_parts, and_from, and_right, not-true, not_from_false, false_from_ne_true}
use Rattle.std.specs.Prelude.{IsTrue}
use Rattle.block_model.specs.Block.{has_page, IsBlock, IsMaximal}
use Rattle.block_model.specs.Place.{halves, unmerged, next, first_true, is_any}
use Rattle.block_model.proofs.Runs.{HasRun-part, IsBlock-left, IsBlock-right, IsBlock-join, doubled, parent_between}

pub halves-page : (bits : List Bool) (q : ℕ) → has_page (halves bits) q ≡ (has_page bits (2 * q) && has_page bits (2 * q + 1))
halves-page [] q = refl
halves-page (a ∷ []) zero = sym (and_right a false refl)
halves-page (a ∷ []) (suc q) =
    let e2 : 2 * suc q + 1 ≡ suc (suc (2 * q + 1)) = omega arith in
    let e : 2 * suc q ≡ suc (suc (2 * q)) = omega arith in rw (e2, e) refl
halves-page (a ∷ b ∷ rest) zero = refl
halves-page (a ∷ b ∷ rest) (suc q) =
    let e2 : 2 * suc q + 1 ≡ suc (suc (2 * q + 1)) = omega arith in
    let e : 2 * suc q ≡ suc (suc (2 * q)) = omega arith in rw (e2, e) (halves-page rest q)

pub unmerged-page : (bits : List Bool) (q : ℕ) → has_page (unmerged bits) q ≡ (has_page bits q && not (has_page (halves bits) (q / 2)))
unmerged-page [] q = refl
unmerged-page (true ∷ []) zero = refl
unmerged-page (false ∷ []) zero = refl
unmerged-page (a ∷ []) (suc q) = refl
unmerged-page (true ∷ b ∷ rest) zero = refl
unmerged-page (false ∷ b ∷ rest) zero = refl
unmerged-page (true ∷ true ∷ rest) (suc zero) = refl
unmerged-page (true ∷ false ∷ rest) (suc zero) = refl
unmerged-page (false ∷ true ∷ rest) (suc zero) = refl
unmerged-page (false ∷ false ∷ rest) (suc zero) = refl
unmerged-page (a ∷ b ∷ rest) (suc (suc q)) =
    let e : suc (suc q) / 2 ≡ suc (q / 2) = omega arith in rw e (unmerged-page rest q)

-- what `first_true` finds
abbrev pub FirstTrue : List Bool → Option ℕ → Type 0
FirstTrue bits (Some q) = IsTrue (has_page bits q) × ((r : ℕ) → IsTrue (has_page bits r) → q ≤ r)
FirstTrue bits None = (r : ℕ) → IsTrue (has_page bits r) → ⊥

none_behind : (bits : List Bool) → ((r : ℕ) → IsTrue (has_page bits r) → ⊥) → (r : ℕ) → IsTrue (has_page (false ∷ bits) r) → ⊥
none_behind bits h zero t = false≢true t
none_behind bits h (suc r) t = h r t

first_behind : (bits : List Bool) (q : ℕ) → ((r : ℕ) → IsTrue (has_page bits r) → q ≤ r) → (r : ℕ) →
    IsTrue (has_page (false ∷ bits) r) → suc q ≤ r
first_behind bits q h zero t = absurd (false≢true t)
first_behind bits q h (suc r) t = omega (arith, h r t)

FirstTrue-behind : (bits : List Bool) (o : Option ℕ) → FirstTrue bits o → FirstTrue (false ∷ bits) (next o)
FirstTrue-behind bits None h = none_behind bits h
FirstTrue-behind bits (Some q) h = (h.0, first_behind bits q h.1)

pub first_true-is : (bits : List Bool) → FirstTrue bits (first_true bits)
first_true-is [] = λ r t. false≢true t
first_true-is (true ∷ bits) = (refl, λ r t. omega arith)
first_true-is (false ∷ bits) = FirstTrue-behind bits (first_true bits) (first_true-is bits)

pub some_page : (bits : List Bool) → is_any bits ≡ true → (r : ℕ) × IsTrue (has_page bits r)
some_page [] h = absurd (false≢true h)
some_page (true ∷ bits) h = (0, refl)
some_page (false ∷ bits) h = let rest = some_page bits h in (suc rest.0, rest.1)

pub no_page : (bits : List Bool) → is_any bits ≡ false → (r : ℕ) → IsTrue (has_page bits r) → ⊥
no_page [] h r t = false≢true t
no_page (true ∷ bits) h r t = false≢true (sym h)
no_page (false ∷ bits) h zero t = false≢true t
no_page (false ∷ bits) h (suc r) t = no_page bits h r t

-- the blocks of an order, one test each
abbrev pub blocks : ℕ → List Bool → List Bool
blocks zero free = free
blocks (suc j) free = halves (blocks j free)

pub blocks-block : (j : ℕ) (free : List Bool) (q : ℕ) → IsTrue (has_page (blocks j free) q) → IsBlock free j q
blocks-block zero free q h = record {
  each = λ page from to. let e : q ≡ page = omega arith in subst (λ (p : ℕ). IsTrue (has_page free p)) e h;
}
blocks-block (suc j) free q h =
    let both = and_parts (has_page (blocks j free) (2 * q)) (has_page (blocks j free) (2 * q + 1))
    (sym (halves-page (blocks j free) q) ∙ h) in
    IsBlock-join free j q (blocks-block j free (2 * q) both.0) (blocks-block j free (2 * q + 1) both.1)

pub block-blocks : (j : ℕ) (free : List Bool) (q : ℕ) → IsBlock free j q → IsTrue (has_page (blocks j free) q)
block-blocks zero free q b = b.each q (omega arith) (omega arith)
block-blocks (suc j) free q b =
    halves-page (blocks j free) q ∙ and_from (has_page (blocks j free) (2 * q))
    (has_page (blocks j free) (2 * q + 1)) (block-blocks j free (2 * q) (IsBlock-left free j q b))
    (block-blocks j free (2 * q + 1) (IsBlock-right free j q b))

-- a block whose parent is not free lies in no larger block
pub maximal_by_parent : (free : List Bool) (j q : ℕ) → IsBlock free j q → (IsBlock free (suc j) (q / 2) → ⊥) → IsMaximal free j q
maximal_by_parent free j q block no_parent = record {
  block = block;
  alone = λ i r more larger low high. no_parent (parent_free free j (i - suc j) q r i (omega arith) larger low high);
}
  where
    parent_free : (free : List Bool) (j d q r i : ℕ) → i ≡ suc j + d → IsBlock free i r → r * 2 ^ i ≤ q * 2 ^ j →
        q * 2 ^ j + 2 ^ j ≤ r * 2 ^ i + 2 ^ i → IsBlock free (suc j) (q / 2)
    parent_free free j d q r i e larger low high =
        let larger' : IsBlock free (suc j + d) r = subst (λ (k : ℕ). IsBlock free k r) e larger in
        let low' : r * 2 ^ (suc j + d) ≤ q * 2 ^ j = subst (λ (k : ℕ). r * 2 ^ k ≤ q * 2 ^ j) e low in
        let high' : q * 2 ^ j + 2 ^ j ≤ r * 2 ^ (suc j + d) + 2 ^ (suc j + d) =
        subst (λ (k : ℕ). q * 2 ^ j + 2 ^ j ≤ r * 2 ^ k + 2 ^ k) e high in
        let between = parent_between j d q r low' high' in
        HasRun-part free (r * 2 ^ (suc j + d)) (2 ^ (suc j + d)) (q / 2 * 2 ^ suc j) (2 ^ suc j) larger' between.0 between.1

-- the parent of a maximal block is not free
pub parent_of_maximal : (free : List Bool) (j q : ℕ) → IsMaximal free j q → IsBlock free (suc j) (q / 2) → ⊥
parent_of_maximal free j q m parent =
    let e : q / 2 * 2 ^ suc j ≡ 2 * (q / 2 * 2 ^ j) = doubled (q / 2) j in
    let half : 2 ^ suc j ≡ 2 * 2 ^ j = pow-succ' 2 j in
    let low : 2 * (q / 2) * 2 ^ j ≤ q * 2 ^ j = mul-le-mul_right (2 ^ j) (omega arith) in
    let high : (q + 1) * 2 ^ j ≤ (2 * (q / 2) + 2) * 2 ^ j = mul-le-mul_right (2 ^ j) (omega arith) in
    m.alone (suc j) (q / 2) (omega arith) parent (omega arith) (omega arith)

pub unmerged-maximal : (free : List Bool) (j q : ℕ) → IsTrue (has_page (unmerged (blocks j free)) q) → IsMaximal free j q
unmerged-maximal free j q h =
    let both = and_parts (has_page (blocks j free) q) (not (has_page (halves (blocks j free)) (q / 2)))
    (sym (unmerged-page (blocks j free) q) ∙ h) in
    maximal_by_parent free j q (blocks-block j free q both.0)
    (λ parent. false≢true (sym (not-true (has_page (halves (blocks j free)) (q / 2)) both.1)
    ∙ block-blocks (suc j) free (q / 2) parent))

pub maximal-unmerged : (free : List Bool) (j q : ℕ) → IsMaximal free j q → IsTrue (has_page (unmerged (blocks j free)) q)
maximal-unmerged free j q m =
    unmerged-page (blocks j free) q ∙ and_from (has_page (blocks j free) q)
    (not (has_page (halves (blocks j free)) (q / 2))) (block-blocks j free q m.block)
    (not_from_false (has_page (halves (blocks j free)) (q / 2))
    (false_from_ne_true (has_page (halves (blocks j free)) (q / 2))
    (λ t. parent_of_maximal free j q m (blocks-block (suc j) free (q / 2) t))))
