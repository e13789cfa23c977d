-- The computed place, largest block and order are those of the definitions, and the only ones.
use Rattle.std.proofs.Common.{inl, inr, ◌≡◌, ℕ, suc, zero, ◌+◌, ◌*◌, ◌/◌, ◌^◌, ◌<◌, ◌≤◌, ◌-◌, Bool, true, false}
use Rattle.std.proofs.Common.{List, length, Option, Some, None, refl, sym, ap, ◌∙◌, subst, arith}
use Rattle.std.proofs.Math.Nat.{pow-succ', le_antisymm, zero-add}
use Rattle.std.proofs.lemmas.Nat.{pow_pos}
use Rattle.std.proofs.Math.Pow.{pow_mono}
use Rattle.std.proofs.lemmas.Bool.{false≢true, cases_Bool, cases_eq, cases_lt, leb-true, leb-false}
use Rattle.std.specs.Prelude.{nat_le, if◌then◌else◌}
use Rattle.block_model.specs.Block.{has_page, HasRun, IsBlock, IsMaximal, IsOrder, HasNoRoom, IsPlace, IsLargest, IsHint}
use Rattle.block_model.specs.Place.{halves, unmerged, first_true, is_any, found_at, place_from, place, orders_from}
use Rattle.block_model.specs.Place.{hint_of, largest, order_before, order_from, least_order}
use Rattle.block_model.proofs.Runs.{HasRun-part, HasRun-within, IsBlock-lower, order_below, below_power}
use Rattle.block_model.proofs.Levels.{blocks, blocks-block, block-blocks, maximal_by_parent, unmerged-maximal}
use Rattle.block_model.proofs.Levels.{maximal-unmerged, FirstTrue, first_true-is, some_page, no_page}

-- ---- each block lies in a maximal one

pub record MaximalOver (free : List Bool) (i : ℕ) : Type 0 where
  pub order : ℕ
  pub number : ℕ
  pub above : i ≤ order
  pub maximal : IsMaximal free order number

maximal_over : (d : ℕ) (free : List Bool) (i r : ℕ) → length free ≤ d + i → IsBlock free i r → MaximalOver free i
maximal_over zero free i r short b = absurd (omega (arith, order_below free i r b))
maximal_over (suc d) free i r short b =
    elim (cases_Bool (has_page (blocks (suc i) free) (r / 2))) [
      | inl t ↦ let up = maximal_over d free (suc i) (r / 2) (omega arith) (blocks-block (suc i) free (r / 2) t) in
          record { order = up.order; number = up.number; above = omega (arith, up.above); maximal = up.maximal }
      | inr f ↦ record {
        order = i;
        number = r;
        above = omega arith;
        maximal =
            maximal_by_parent free i r b (λ parent. false≢true (sym f ∙ block-blocks (suc i) free (r / 2) parent));
      }
    ]

pub maximal_round : (free : List Bool) (i r : ℕ) → IsBlock free i r → MaximalOver free i
maximal_round free i r b = maximal_over (length free) free i r (omega arith) b

-- where no maximal block is large enough, none is
pub HasNoRoom-by_maximal : (free : List Bool) (n : ℕ) → ((i r : ℕ) → n ≤ 2 ^ i → IsMaximal free i r → ⊥) → HasNoRoom free n
HasNoRoom-by_maximal free n none = record {
  none = λ i r large b. let up = maximal_round free i r b in
      let more : 2 ^ i ≤ 2 ^ up.order = pow_mono up.above in none up.order up.number (omega arith) up.maximal;
}

-- ---- the place

-- what is found among the blocks of one order
Found : List Bool → ℕ → ℕ → Option ℕ → Type 0
Found free j n (Some q) = (n ≤ 2 ^ j) × IsMaximal free j q × ((r : ℕ) → IsMaximal free j r → q ≤ r)
Found free j n None = (r : ℕ) → n ≤ 2 ^ j → IsMaximal free j r → ⊥

found_first : (free : List Bool) (j n : ℕ) (o : Option ℕ) → n ≤ 2 ^ j → FirstTrue (unmerged (blocks j free)) o → Found free j n o
unfolding Found
found_first free j n (Some q) fits h = (fits, unmerged-maximal free j q h.0, λ r m. h.1 r (maximal-unmerged free j r m))
found_first free j n None fits h = λ r _ m. h r (maximal-unmerged free j r m)

found_by : (free : List Bool) (j n : ℕ) (b : Bool) → nat_le n (2 ^ j) ≡ b →
    Found free j n (if b then first_true (unmerged (blocks j free)) else None)
unfolding Found
found_by free j n true e = found_first free j n (first_true (unmerged (blocks j free))) (leb-true n (2 ^ j) e)
    (first_true-is (unmerged (blocks j free)))
found_by free j n false e = λ r fits m. absurd (omega (arith, leb-false n (2 ^ j) e))

found-is : (free : List Bool) (j n : ℕ) → Found free j n (found_at (blocks j free) (2 ^ j) n)
found-is free j n = found_by free j n (nat_le n (2 ^ j)) refl

-- no maximal block below order j has n pages or more
abbrev NoneBelow : List Bool → ℕ → ℕ → Type 0
NoneBelow free j n = (i r : ℕ) → i < j → n ≤ 2 ^ i → IsMaximal free i r → ⊥

none_more : (free : List Bool) (j n : ℕ) → NoneBelow free j n → ((r : ℕ) → n ≤ 2 ^ j → IsMaximal free j r → ⊥) → NoneBelow free (suc j) n
none_more free j n below here i r less fits m =
    elim (cases_eq i j) [
      | inl e ↦ here r (subst (λ (k : ℕ). n ≤ 2 ^ k) e fits) (subst (λ (k : ℕ). IsMaximal free k r) e m)
      | inr ne ↦ below i r (omega arith) fits m
    ]

least_by : (free : List Bool) (j n : ℕ) → NoneBelow free j n → (i r : ℕ) → IsMaximal free i r → n ≤ 2 ^ i → j ≤ i
least_by free j n below i r m fits = elim (cases_lt i j) [ inl less ↦ absurd (below i r less fits m) | inr ge ↦ ge ]

place_by : (free : List Bool) (j n : ℕ) (o : Option ℕ) (rest : Option ℕ) → NoneBelow free j n → Found free j n o →
    (NoneBelow free (suc j) n → IsPlace free n rest) →
    IsPlace free n (elim o [ Some q ↦ Some (q * 2 ^ j) | None ↦ rest ])
unfolding Found
place_by free j n (Some q) rest below found further = (
  j,
  q,
  refl,
  record {
    fits = found.0;
    maximal = found.1;
    least = λ i r m fits. least_by free j n below i r m fits;
    lowest = found.2;
  },
)
place_by free j n None rest below found further = further (none_more free j n below found)

place_from-is : (levels : ℕ) (free : List Bool) (j n : ℕ) → length free ≤ levels + j → NoneBelow free j n →
    IsPlace free n (place_from levels (blocks j free) (2 ^ j) n)
place_from-is zero free j n short below =
    HasNoRoom-by_maximal free n (λ i r fits m. below i r (omega (arith, order_below free i r m.block)) fits m)
place_from-is (suc levels) free j n short below =
    place_by free j n (found_at (blocks j free) (2 ^ j) n)
    (place_from levels (halves (blocks j free)) (2 * 2 ^ j) n) below (found-is free j n)
    (λ more. subst (λ (size : ℕ). IsPlace free n (place_from levels (halves (blocks j free)) size n))
    (pow-succ' 2 j) (place_from-is levels free (suc j) n (omega arith) more))

-- the place is where a grant of n pages lies
pub place-is : (free : List Bool) (n : ℕ) → IsPlace free n (place free n)
unfolding place
place-is free n = place_from-is (length free) free 0 n (omega arith) (λ i r less fits m. absurd (omega arith))

-- two places for n pages are one
pub IsPlace-unique : (free : List Bool) (n : ℕ) (a b : Option ℕ) → IsPlace free n a → IsPlace free n b → a ≡ b
IsPlace-unique free n None None p q = refl
IsPlace-unique free n None (Some b) p (j, k, e, best) = absurd (p.none j k best.fits best.maximal.block)
IsPlace-unique free n (Some a) None (j, k, e, best) q = absurd (q.none j k best.fits best.maximal.block)
IsPlace-unique free n (Some a) (Some b) (i, q, d, left) (j, r, e, right) =
    let same : i ≡ j = le_antisymm (left.least j r right.maximal right.fits) (right.least i q left.maximal left.fits) in
    let low : q ≤ r = left.lowest r (subst (λ (k : ℕ). IsMaximal free k r) (sym same) right.maximal) in
    let high : r ≤ q = right.lowest q (subst (λ (k : ℕ). IsMaximal free k q) same left.maximal) in
    ap (λ (x : ℕ). Some x) (d ∙ ap (λ (x : ℕ). x * 2 ^ i) (le_antisymm low high) ∙ ap (λ (k : ℕ). r * 2 ^ k) same ∙ sym e)

pub place-unique : (free : List Bool) (n : ℕ) (o : Option ℕ) → IsPlace free n o → o ≡ place free n
place-unique free n o p = IsPlace-unique free n o (place free n) p (place-is free n)

-- the n pages of a place are free
pub IsPlace-free : (free : List Bool) (n page : ℕ) → IsPlace free n (Some page) → HasRun free page n
IsPlace-free free n page (j, q, e, best) =
    HasRun-part free (q * 2 ^ j) (2 ^ j) page n best.maximal.block (omega arith) (omega (arith, best.fits))

pub IsPlace-within : (free : List Bool) (n page : ℕ) → 0 < n → IsPlace free n (Some page) → page + n ≤ length free
IsPlace-within free n page some p = HasRun-within free page n some (IsPlace-free free n page p)

pub place-free : (free : List Bool) (n page : ℕ) → place free n ≡ Some page → HasRun free page n
place-free free n page e = IsPlace-free free n page (subst (λ (o : Option ℕ). IsPlace free n o) e (place-is free n))

pub place-within : (free : List Bool) (n page : ℕ) → 0 < n → place free n ≡ Some page → page + n ≤ length free
place-within free n page some e = HasRun-within free page n some (place-free free n page e)

-- ---- the largest block

record IsTop (free : List Bool) (j count : ℕ) : Type 0 where
  above : (i r : ℕ) → j ≤ i → IsBlock free i r → i < j + count
  reached : (m : ℕ) → count ≡ suc m → (r : ℕ) × IsBlock free (j + m) r

top_more : (free : List Bool) (j count : ℕ) → (r : ℕ) → IsBlock free j r → IsTop free (suc j) count → IsTop free j (suc count)
top_more free j count r b top = record {
  above = λ i s from block. elim (cases_eq i j) [ inl e ↦ omega arith | inr ne ↦ omega (arith, top.above i s (omega arith) block) ];
  reached = reached_more free j count r b top.reached;
}
  where
    reached_more : (free : List Bool) (j count r : ℕ) → IsBlock free j r →
        ((m : ℕ) → count ≡ suc m → (s : ℕ) × IsBlock free (suc j + m) s) → (m : ℕ) → suc count ≡ suc m → (s : ℕ)
        × IsBlock free (j + m) s
    reached_more free j count r b top zero e = (r, let same : j ≡ j + 0 = omega arith in subst (λ (k : ℕ). IsBlock free k r) same b)
    reached_more free j count r b top (suc m) e =
        let up = top m (omega arith) in
        let same : suc j + m ≡ j + suc m = omega arith in (up.0, subst (λ (k : ℕ). IsBlock free k up.0) same up.1)

top_none : (free : List Bool) (j : ℕ) → is_any (blocks j free) ≡ false → IsTop free j 0
top_none free j none = record {
  above = λ i r from b. absurd (no_page (blocks j free) none (r * 2 ^ (i - j))
      (block-blocks j free (r * 2 ^ (i - j)) (lower free j (i - j) i r (omega arith) b)));
  reached = λ m e. absurd (omega arith);
}
  where
    lower : (free : List Bool) (j d i r : ℕ) → i ≡ j + d → IsBlock free i r → IsBlock free j (r * 2 ^ d)
    lower free j d i r e b = IsBlock-lower free j d r (subst (λ (k : ℕ). IsBlock free k r) e b)

top_by : (free : List Bool) (j : ℕ) (b : Bool) (rest : ℕ) → is_any (blocks j free) ≡ b → IsTop free (suc j) rest →
    IsTop free j (elim b [ true ↦ suc rest | false ↦ 0 ])
top_by free j true rest e top = let page = some_page (blocks j free) e in
    top_more free j rest page.0 (blocks-block j free page.0 page.1) top
top_by free j false rest e top = top_none free j e

orders_from-is : (levels : ℕ) (free : List Bool) (j : ℕ) → length free ≤ levels + j → IsTop free j (orders_from levels (blocks j free))
orders_from-is zero free j short = record {
  above = λ i r from b. absurd (omega (arith, order_below free i r b));
  reached = λ m e. absurd (omega arith);
}
orders_from-is (suc levels) free j short =
    top_by free j (is_any (blocks j free)) (orders_from levels (halves (blocks j free))) refl
    (orders_from-is levels free (suc j) (omega arith))

pub hint_of-is : (free : List Bool) → IsHint free (hint_of free)
unfolding hint_of
hint_of-is free = let top = orders_from-is (length free) free 0 (omega arith) in record {
  above = λ i r b. omega (arith, top.above i r (omega arith) b);
  reached = λ order e. let at = top.reached order e in (at.0, subst (λ (k : ℕ). IsBlock free k at.0) (zero-add order) at.1);
}

pub IsHint-unique : (free : List Bool) (a b : ℕ) → IsHint free a → IsHint free b → a ≡ b
IsHint-unique free zero zero p q = refl
IsHint-unique free zero (suc b) p q = let page = q.reached b refl in absurd (omega (arith, p.above b page.0 page.1))
IsHint-unique free (suc a) zero p q = let page = p.reached a refl in absurd (omega (arith, q.above a page.0 page.1))
IsHint-unique free (suc a) (suc b) p q =
    let left = p.reached a refl in let right = q.reached b refl in omega (arith, p.above b right.0 right.1, q.above a left.0 left.1)

IsLargest-before : (free : List Bool) (hint : ℕ) → IsHint free hint → IsLargest free (order_before hint)
IsLargest-before free zero h = record { none = λ i r _ b. absurd (omega (arith, h.above i r b)) }
IsLargest-before free (suc order) h = (h.reached order refl, λ i r b. omega (arith, h.above i r b))

pub largest-is : (free : List Bool) → IsLargest free (largest free)
unfolding largest hint_of
largest-is free = IsLargest-before free (hint_of free) (hint_of-is free)

-- the hint is one more than the largest order, and 0 where there is none
pub hint_of-largest : (free : List Bool) → largest free ≡ order_before (hint_of free)
unfolding largest hint_of
hint_of-largest free = refl

pub IsLargest-unique : (free : List Bool) (a b : Option ℕ) → IsLargest free a → IsLargest free b → a ≡ b
IsLargest-unique free None None p q = refl
IsLargest-unique free None (Some b) p q = absurd (p.none b q.0.0 (pow_pos b) q.0.1)
IsLargest-unique free (Some a) None p q = absurd (q.none a p.0.0 (pow_pos a) p.0.1)
IsLargest-unique free (Some a) (Some b) p q =
    ap (λ (x : ℕ). Some x) (le_antisymm (q.1 a p.0.0 p.0.1) (p.1 b q.0.0 q.0.1))

pub largest-unique : (free : List Bool) (o : Option ℕ) → IsLargest free o → o ≡ largest free
largest-unique free o p = IsLargest-unique free o (largest free) p (largest-is free)

-- ---- the order

order_by : (b : Bool) (steps order n : ℕ) (rest : ℕ) → nat_le n (2 ^ order) ≡ b →
    ((i : ℕ) → n ≤ 2 ^ i → order ≤ i) → (((i : ℕ) → n ≤ 2 ^ i → suc order ≤ i) → IsOrder n rest) →
    IsOrder n (elim b [ true ↦ order | false ↦ rest ])
order_by true steps order n rest e least further = record { holds = leb-true n (2 ^ order) e; least = least }
order_by false steps order n rest e least further =
    further (λ i fits. elim (cases_eq i order) [
      | inl same ↦ absurd (omega (arith, leb-false n (2 ^ order) e, subst (λ (k : ℕ). n ≤ 2 ^ k) same fits))
      | inr ne ↦ omega (arith, least i fits)
    ])

order_from-is : (steps order n : ℕ) → n ≤ 2 ^ (steps + order) → ((i : ℕ) → n ≤ 2 ^ i → order ≤ i) →
    IsOrder n (order_from steps (2 ^ order) order n)
order_from-is zero order n fits least = record { holds = subst (λ (k : ℕ). n ≤ 2 ^ k) (zero-add order) fits; least = least }
order_from-is (suc steps) order n fits least =
    let move : suc steps + order ≡ steps + suc order = omega arith in
    order_by (nat_le n (2 ^ order)) steps order n (order_from steps (2 * 2 ^ order) (suc order) n) refl least
    (λ more. subst (λ (size : ℕ). IsOrder n (order_from steps size (suc order) n)) (pow-succ' 2 order)
    (order_from-is steps (suc order) n (subst (λ (k : ℕ). n ≤ 2 ^ k) move fits) more))

pub least_order-is : (n : ℕ) → IsOrder n (least_order n)
unfolding least_order
least_order-is n = order_from-is n 0 n (let same : n ≡ n + 0 = omega arith in
    subst (λ (k : ℕ). n ≤ 2 ^ k) same (omega (arith, below_power n))) (λ i fits. omega arith)

pub IsOrder-unique : (n a b : ℕ) → IsOrder n a → IsOrder n b → a ≡ b
IsOrder-unique n a b p q = le_antisymm (p.least b q.holds) (q.least a p.holds)

-- ---- the hint tells where there is room

-- there is no place for n pages where the hint is at most the order of n
pub HasNoRoom-hint : (free : List Bool) (n order hint : ℕ) → IsOrder n order → IsHint free hint → hint ≤ order → HasNoRoom free n
HasNoRoom-hint free n order hint o h low = record {
  none = λ i r fits b. omega (arith, o.least i fits, h.above i r b);
}

-- and there is one where it is above
pub hint-room : (free : List Bool) (n order hint : ℕ) → IsOrder n order → IsHint free hint → order < hint → HasNoRoom free n → ⊥
hint-room free n order zero o h high none = omega arith
hint-room free n order (suc top) o h high none =
    let b = h.reached top refl in let more : 2 ^ order ≤ 2 ^ top = pow_mono (omega arith) in none.none top b.0 (omega (arith, o.holds)) b.1

pub HasNoRoom-place : (free : List Bool) (n : ℕ) → HasNoRoom free n → place free n ≡ None
HasNoRoom-place free n none = sym (place-unique free n None none)

pub place-HasNoRoom : (free : List Bool) (n : ℕ) → place free n ≡ None → HasNoRoom free n
place-HasNoRoom free n e = subst (λ (o : Option ℕ). IsPlace free n o) e (place-is free n)
