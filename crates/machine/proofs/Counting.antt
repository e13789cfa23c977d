-- How many objects a session holds, after a slot or an end.
use Rattle.std.proofs.Common.{◌≡◌, ℕ, zero, suc, ◌+◌, ◌<◌, Bool, true, false, cond, length, refl, sym, ap, subst, ◌∙◌, inl, inr, arith}
use Rattle.std.proofs.lemmas.Bool.{cases_eq, cases_Bool}
use Rattle.std.proofs.lemmas.List.{length-set, length-map}
use Rattle.history.specs.Event.{Closes}
use Rattle.history.specs.Holding.{count_below}
use Rattle.machine.specs.Machine.{Slot, Machine, slot_at, is_holder, held_by, with_slot}
use Rattle.machine.specs.Next.{next, settled, stamp_of}
use Rattle.machine.proofs.Closing.{settled_free, settled_held}
use Rattle.machine.proofs.Places.{slot_at-same, slot_at-other, slot_at-settled}

-- two tests that agree below n count alike
pub count_below-agree : (n : ℕ) (p q : ℕ → Bool) → ((k : ℕ) → k < n → p k ≡ q k) → count_below n p ≡ count_below n q
count_below-agree zero p q same = refl
count_below-agree (suc n) p q same =
    ap (λ b. cond b 1 0 + count_below n p) (same n (omega arith))
    ∙ ap (λ k. cond (q n) 1 0 + k) (count_below-agree n p q (λ k below. let up : k < suc n = omega arith in same k up))

count_on : (n : ℕ) (p : ℕ → Bool) → p n ≡ true → count_below (suc n) p ≡ count_below n p + 1
count_on n p on = let swap : 1 + count_below n p ≡ count_below n p + 1 = omega arith in
    ap (λ (b : Bool). cond b 1 0 + count_below n p) on ∙ swap

count_off : (n : ℕ) (p : ℕ → Bool) → p n ≡ false → count_below (suc n) p ≡ count_below n p
count_off n p off = let same : 0 + count_below n p ≡ count_below n p = omega arith in
    ap (λ (b : Bool). cond b 1 0 + count_below n p) off ∙ same

-- a test that is true at one more place counts one more
count_below-more : (n o : ℕ) (p q : ℕ → Bool) → o < n → p o ≡ false → q o ≡ true →
    ((k : ℕ) → (k ≡ o → ⊥) → p k ≡ q k) → count_below n q ≡ count_below n p + 1
count_below-more zero o p q below off on same = absurd (omega arith)
count_below-more (suc n) o p q below off on same =
    elim (cases_eq n o) [
      | inl here ↦
          let rest : count_below n p ≡ count_below n q = count_below-agree n p q (λ k low. same k (λ at. absurd (omega arith))) in
          count_on n q (ap q here ∙ on) ∙ ap (λ (k : ℕ). k + 1) (sym rest ∙ sym (count_off n p (ap p here ∙ off)))
      | inr apart ↦
          let low : o < n = omega arith in
          let rest : count_below n q ≡ count_below n p + 1 = count_below-more n o p q low off on same in
          elim (cases_Bool (q n)) [
            | inl yes_test ↦ count_on n q yes_test ∙ ap (λ (k : ℕ). k + 1) (rest ∙ sym (count_on n p (same n apart ∙ yes_test)))
            | inr no_test ↦ count_off n q no_test ∙ rest ∙ ap (λ (k : ℕ). k + 1) (sym (count_off n p (same n apart ∙ no_test)))
          ]
    ]

count_below-none : (n : ℕ) (p : ℕ → Bool) → ((k : ℕ) → p k ≡ false) → count_below n p ≡ 0
count_below-none zero p none = refl
count_below-none (suc n) p none = count_off n p (none n) ∙ count_below-none n p none

-- session s takes an object that it didn't hold
pub held_by-takes : (m : Machine) (s o : ℕ) (slot : Slot) → o < length m.slots →
    is_holder s (slot_at m o).holder ≡ false → is_holder s slot.holder ≡ true →
    held_by (with_slot m o slot) s ≡ held_by m s + 1
unfolding held_by
held_by-takes m s o slot below off on =
    ap (λ n. count_below n (λ p. is_holder s (slot_at (with_slot m o slot) p).holder)) (length-set m.slots o slot)
    ∙ count_below-more (length m.slots) o (λ p. is_holder s (slot_at m p).holder)
    (λ p. is_holder s (slot_at (with_slot m o slot) p).holder) below off
    (ap (λ (x : Slot). is_holder s x.holder) (slot_at-same m o slot below) ∙ on)
    (λ p apart. sym (ap (λ (x : Slot). is_holder s x.holder) (slot_at-other m o p slot apart)))

-- a slot that changes nothing of what t holds
pub held_by-stays : (m : Machine) (t o : ℕ) (slot : Slot) → o < length m.slots →
    is_holder t slot.holder ≡ is_holder t (slot_at m o).holder → held_by (with_slot m o slot) t ≡ held_by m t
unfolding held_by
held_by-stays m t o slot below same =
    ap (λ n. count_below n (λ p. is_holder t (slot_at (with_slot m o slot) p).holder)) (length-set m.slots o slot)
    ∙ count_below-agree (length m.slots) (λ p. is_holder t (slot_at (with_slot m o slot) p).holder)
    (λ p. is_holder t (slot_at m p).holder) (λ p low. elim (cases_eq p o) [
      | inl here ↦ subst (λ n. is_holder t (slot_at (with_slot m o slot) n).holder
          ≡ is_holder t (slot_at m n).holder) (sym here)
          (ap (λ (x : Slot). is_holder t x.holder) (slot_at-same m o slot below) ∙ same)
      | inr apart ↦ ap (λ (x : Slot). is_holder t x.holder) (slot_at-other m o p slot apart)
    ])

-- after its end a session holds nothing
pub held_by-closed : (m : Machine) (s : ℕ) (committed : Bool) → held_by (next m s (Closes committed)) s ≡ 0
unfolding held_by
held_by-closed m s committed =
    count_below-none (length (next m s (Closes committed)).slots)
    (λ o. is_holder s (slot_at (next m s (Closes committed)) o).holder)
    (λ o. ap (λ (x : Slot). is_holder s x.holder) (slot_at-settled m.slots s (stamp_of m s) committed o)
    ∙ settled_free s (stamp_of m s) committed (slot_at m o))

-- and each other session what it held
pub held_by-others : (m : Machine) (s t : ℕ) (committed : Bool) → (t ≡ s → ⊥) → held_by (next m s (Closes committed)) t ≡ held_by m t
unfolding held_by
held_by-others m s t committed apart =
    ap (λ n. count_below n (λ o. is_holder t (slot_at (next m s (Closes committed)) o).holder))
    (length-map m.slots (settled s committed (stamp_of m s)))
    ∙ count_below-agree (length m.slots) (λ o. is_holder t (slot_at (next m s (Closes committed)) o).holder)
    (λ o. is_holder t (slot_at m o).holder)
    (λ o low. ap (λ (x : Slot). is_holder t x.holder) (slot_at-settled m.slots s (stamp_of m s) committed o)
    ∙ sym (settled_held s t (stamp_of m s) committed (slot_at m o) apart))
