-- What is counted of entries at a place, and what is left of the one that it lies in, where entries in front are
-- dropped or those far behind are cut off.
use Rattle.std.proofs.Common.{◌≡◌, ℕ, zero, suc, ◌+◌, ◌-◌, ◌<◌, ◌≤◌, true, false, List, [], ◌∷◌, length, take, drop}
use Rattle.std.proofs.Common.{refl, sym, ap, arith, ◌∙◌, inl, inr, nat_eq}
use Rattle.std.specs.Prelude.{nat_le}
use Rattle.std.proofs.lemmas.Bool.{cases_Bool, leb-true, le-leb, ne_eqb}
use Rattle.std.proofs.lemmas.List.Sums.{sum_by-cons}
use Rattle.tree_model.specs.declared.entry.Pair.{Pair}
use Rattle.tree_model.specs.Tree.{bytes_of}
use Rattle.layout_model.specs.Parts.{count_ended, count_begun, left_of, head_of, right_of}
use Rattle.content_laws.specs.Spelling.{HaveBytes}
use Rattle.content_laws.proofs.SideLemmas.{lies, count_ended-behind, count_ended-within, count_begun-before}
use Rattle.content_laws.proofs.SideLemmas.{count_begun-more, left-behind, left-before, left-inside, head-behind}
use Rattle.content_laws.proofs.SideLemmas.{head-within, right-behind, right-before, right-inside}
use Rattle.content_laws.proofs.SideLemmas.Lies.{Behind, Before, Inside}

-- what a place meets in the entries is what it meets, counted from a later byte, in those behind the first k
pub record IsBehind (size at k : ℕ) (entries : List Pair) : Type 0 where
  pub ended : count_ended at entries ≡ k + count_ended (at - bytes_of (take k entries)) (drop k entries)
  pub begun : count_begun at entries ≡ k + count_begun (at - bytes_of (take k entries)) (drop k entries)
  pub left : left_of at entries ≡ left_of (at - bytes_of (take k entries)) (drop k entries)
  pub head : head_of size at entries ≡ head_of size (at - bytes_of (take k entries)) (drop k entries)
  pub right : right_of size at entries ≡ right_of size (at - bytes_of (take k entries)) (drop k entries)

-- so it is where the first k end at the place or before it
pub is_behind : (size at k : ℕ) (entries : List Pair) → HaveBytes entries → k ≤ length entries →
    bytes_of (take k entries) ≤ at → IsBehind size at k entries
is_behind size at zero entries have fits within =
    let same : at ≡ at - 0 = omega arith in
    let one = ap (λ (j : ℕ). count_ended j entries) same in
    let two = ap (λ (j : ℕ). count_begun j entries) same in
    record {
      ended = omega (arith, one);
      begun = omega (arith, two);
      left = ap (λ (j : ℕ). left_of j entries) same;
      head = ap (λ (j : ℕ). head_of size j entries) same;
      right = ap (λ (j : ℕ). right_of size j entries) same;
    }
is_behind size at (suc k) [] have fits within = let none : suc k ≤ 0 = fits in absurd (omega (arith, none))
is_behind size at (suc k) (p ∷ ps) have fits within =
    let long : suc k ≤ suc (length ps) = fits in
    let sum = sum_by-cons (λ (q : Pair). q.bytes) p (take k ps) in
    let le : p.bytes ≤ at = omega (arith, sum, within) in
    let byte = have.0 in
    let h : nat_le p.bytes at ≡ true = le-leb p.bytes at le in
    let some : nat_eq at 0 ≡ false = ne_eqb at 0 (λ none. omega (arith, none, le, byte)) in
    let more = is_behind size (at - p.bytes) k ps have.1 (omega (arith, long)) (omega (arith, sum, within)) in
    let far : at - p.bytes - bytes_of (take k ps) ≡ at - bytes_of (p ∷ take k ps) = omega (arith, sum) in
    let ended_step = count_ended-behind at p ps h in
    let ended_far = ap (λ (j : ℕ). count_ended j (drop k ps)) far in
    let ended_more = more.ended in
    let begun_step = count_begun-more at p ps some in
    let begun_far = ap (λ (j : ℕ). count_begun j (drop k ps)) far in
    let begun_more = more.begun in
    record {
      ended = omega (arith, ended_step, ended_far, ended_more);
      begun = omega (arith, begun_step, begun_far, begun_more);
      left = left-behind at p ps h ∙ (more.left ∙ ap (λ (j : ℕ). left_of j (drop k ps)) far);
      head = head-behind size at p ps h ∙ (more.head ∙ ap (λ (j : ℕ). head_of size j (drop k ps)) far);
      right = right-behind size at p ps h ∙ (more.right ∙ ap (λ (j : ℕ). right_of size j (drop k ps)) far);
    }

-- the first entries, of which no more are taken than end at a place, end there or before it
pub ended-bytes : (at k : ℕ) (entries : List Pair) → k ≤ count_ended at entries → bytes_of (take k entries) ≤ at
ended-bytes at zero entries few = let none : 0 ≤ at = omega arith in none
ended-bytes at (suc k) [] few = let none : suc k ≤ 0 = few in absurd (omega (arith, none))
ended-bytes at (suc k) (p ∷ ps) few =
    let sum = sum_by-cons (λ (q : Pair). q.bytes) p (take k ps) in
    elim (cases_Bool (nat_le p.bytes at)) [
      | inr h ↦ let none = count_ended-within at p ps h in absurd (omega (arith, none, few))
      | inl h ↦
          let behind = leb-true p.bytes at h in
          let step = count_ended-behind at p ps h in
          let more = ended-bytes (at - p.bytes) k ps (omega (arith, step, few)) in
          omega (arith, sum, more, behind)
    ]

-- no entry begins before the start
pub count_begun-start : (entries : List Pair) → count_begun 0 entries ≡ 0
count_begun-start [] = refl
count_begun-start (p ∷ ps) = refl

-- and where entries have bytes, none ends there
pub count_ended-start : (entries : List Pair) → HaveBytes entries → count_ended 0 entries ≡ 0
count_ended-start [] have = refl
count_ended-start (p ∷ ps) have =
    let byte = have.0 in
    elim (cases_Bool (nat_le p.bytes 0)) [
      | inl h ↦ let none = leb-true p.bytes 0 h in absurd (omega (arith, none, byte))
      | inr h ↦ count_ended-within 0 p ps h
    ]

-- the entries behind the first k have bytes too, and so have the first k
pub have-drop : (k : ℕ) (entries : List Pair) → HaveBytes entries → HaveBytes (drop k entries)
have-drop zero entries have = have
have-drop (suc k) [] have = have
have-drop (suc k) (p ∷ ps) have = have-drop k ps have.1

pub have-take : (k : ℕ) (entries : List Pair) → HaveBytes entries → HaveBytes (take k entries)
have-take zero entries have = tt
have-take (suc k) [] have = have
have-take (suc k) (p ∷ ps) have = (have.0, have-take k ps have.1)

-- as many entries end, and begin, before the place at which the k-th begins as stand before it
pub border-number : (k : ℕ) (entries : List Pair) → HaveBytes entries → k ≤ length entries →
    (count_ended (bytes_of (take k entries)) entries ≡ k) × (count_begun (bytes_of (take k entries)) entries ≡ k)
border-number k entries have fits =
    let at = bytes_of (take k entries) in
    let reach : at ≤ at = omega arith in
    let past = is_behind 1 at k entries have fits reach in
    let start : at - at ≡ 0 = omega arith in
    let none = ap (λ (j : ℕ). count_ended j (drop k entries)) start ∙ count_ended-start (drop k entries) (have-drop k entries have) in
    let none2 = ap (λ (j : ℕ). count_begun j (drop k entries)) start ∙ count_begun-start (drop k entries) in
    let one = past.ended in
    let two = past.begun in
    (omega (arith, one, none), omega (arith, two, none2))

-- what a place meets in the entries is what it meets in the first m of them
pub record IsWithin (size at m : ℕ) (entries : List Pair) : Type 0 where
  pub ended : count_ended at (take m entries) ≡ count_ended at entries
  pub begun : count_begun at (take m entries) ≡ count_begun at entries
  pub left : left_of at (take m entries) ≡ left_of at entries
  pub head : head_of size at (take m entries) ≡ head_of size at entries
  pub right : right_of size at (take m entries) ≡ right_of size at entries

-- so it is where fewer than m of them end at the place or before it
pub is_within : (size at m : ℕ) (entries : List Pair) → HaveBytes entries → count_ended at entries < m → IsWithin size at m entries
is_within size at zero entries have few = absurd (omega (arith, few))
is_within size at (suc m) [] have few = record { ended = refl; begun = refl; left = refl; head = refl; right = refl }
is_within size at (suc m) (p ∷ ps) have few =
    elim (lies at p) [
      | Behind h le ↦
          let byte = have.0 in
          let k : nat_eq at 0 ≡ false = ne_eqb at 0 (λ none. omega (arith, none, le, byte)) in
          let step = count_ended-behind at p ps h in
          let more = is_within size (at - p.bytes) m ps have.1 (omega (arith, step, few)) in
          record {
            ended = count_ended-behind at p (take m ps) h ∙ (ap suc more.ended ∙ sym step);
            begun = count_begun-more at p (take m ps) k ∙ (ap suc more.begun ∙ sym (count_begun-more at p ps k));
            left = left-behind at p (take m ps) h ∙ (more.left ∙ sym (left-behind at p ps h));
            head = head-behind size at p (take m ps) h ∙ (more.head ∙ sym (head-behind size at p ps h));
            right = right-behind size at p (take m ps) h ∙ (more.right ∙ sym (right-behind size at p ps h));
          }
      | Before h k none some ↦ record {
        ended = count_ended-within at p (take m ps) h ∙ sym (count_ended-within at p ps h);
        begun = count_begun-before at p (take m ps) k ∙ sym (count_begun-before at p ps k);
        left = left-before at p (take m ps) h k ∙ sym (left-before at p ps h k);
        head = head-within size at p (take m ps) h ∙ sym (head-within size at p ps h);
        right = right-before size at p (take m ps) h k ∙ sym (right-before size at p ps h k);
      }
      | Inside h k some less ↦
          let spent : at - p.bytes ≡ 0 = omega (arith, less) in
          let none : (qs : List Pair) → count_begun (at - p.bytes) qs ≡ 0 =
          λ qs. ap (λ (j : ℕ). count_begun j qs) spent ∙ count_begun-start qs in
          record {
            ended = count_ended-within at p (take m ps) h ∙ sym (count_ended-within at p ps h);
            begun = count_begun-more at p (take m ps) k ∙ (ap suc (none (take m ps) ∙ sym (none ps)) ∙ sym (count_begun-more at p ps k));
            left = left-inside at p (take m ps) h k ∙ sym (left-inside at p ps h k);
            head = head-within size at p (take m ps) h ∙ sym (head-within size at p ps h);
            right = right-inside size at p (take m ps) h k ∙ sym (right-inside size at p ps h k);
          }
    ]
