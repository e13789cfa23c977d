-- Runs over several words: one more word's pages put in or taken out.
use Rattle.std.proofs.Common.{inl, inr, ◌≡◌, ℕ, ◌+◌, ◌-◌, ◌≤◌, Bool, refl, sym, ap, ◌∙◌, arith}
use Rattle.std.proofs.lemmas.Bool.{cases_lt}
use Rattle.page_set.specs.Members.{count_on, AllOn, AreSameBeside, IsWithRun, IsWithoutRun}
use Rattle.page_set.proofs.Counts.{count_on-same, count_on-split}

beside_more : (f g h : ℕ → Bool) (first at m : ℕ) → first ≤ at → AreSameBeside first (at - first) f g →
    AreSameBeside at m g h → AreSameBeside first (at + m - first) f h
beside_more f g h first at m from a b page (inl low) = b page (inl (omega arith)) ∙ a page (inl low)
beside_more f g h first at m from a b page (inr high) = b page (inr (omega arith)) ∙ a page (inr (omega arith))

pub put_more : (f g h : ℕ → Bool) (first at m : ℕ) → first ≤ at → IsWithRun first (at - first) f g →
    IsWithRun at m g h → IsWithRun first (at + m - first) f h
put_more f g h first at m from a b = record {
  inside = λ page low high. elim (cases_lt page at) [
    | inl early ↦ b.beside page (inl early) ∙ a.inside page low (omega arith)
    | inr late ↦ b.inside page late (omega arith)
  ];
  beside = beside_more f g h first at m from a.beside b.beside;
}

pub cut_more : (f g h : ℕ → Bool) (first at m : ℕ) → first ≤ at → IsWithoutRun first (at - first) f g →
    IsWithoutRun at m g h → IsWithoutRun first (at + m - first) f h
cut_more f g h first at m from a b = record {
  inside = λ page low high. elim (cases_lt page at) [
    | inl early ↦ b.beside page (inl early) ∙ a.inside page low (omega arith)
    | inr late ↦ b.inside page late (omega arith)
  ];
  beside = beside_more f g h first at m from a.beside b.beside;
}

-- the pages before `at` and those of the next m are counted together
pub count_more : (f g : ℕ → Bool) (first at m : ℕ) → first ≤ at → AreSameBeside first (at - first) f g →
    count_on f first (at + m - first) ≡ count_on f first (at - first) + count_on g at m
count_more f g first at m from same =
    let parts : (at - first) + m ≡ at + m - first = omega arith in
    let place : first + (at - first) ≡ at = omega arith in
    let split : count_on f first (at + m - first) ≡ count_on f first ((at - first) + m) =
    ap (λ (n : ℕ). count_on f first n) (sym parts) in
    let move : count_on f (first + (at - first)) m ≡ count_on f at m = ap (λ (k : ℕ). count_on f k m) place in
    let rest : count_on g at m ≡ count_on f at m = count_on-same f g at m (λ page low high. same page (inr (omega arith))) in
    omega (arith, split, move, rest, count_on-split f first (at - first) m)

pub all_more : (f g : ℕ → Bool) (first at m : ℕ) → first ≤ at → AreSameBeside first (at - first) f g →
    AllOn f first (at - first) → AllOn g at m → AllOn f first (at + m - first)
all_more f g first at m from same all more page low high = elim (cases_lt page at) [
  | inl early ↦ all page low (omega arith)
  | inr late ↦ sym (same page (inr (omega arith))) ∙ more page late (omega arith)
]

pub none_put : (f : ℕ → Bool) (first n : ℕ) → n ≡ 0 → IsWithRun first n f f
none_put f first n e = record { inside = λ page low high. absurd (omega arith); beside = λ page out. refl }

pub none_cut : (f : ℕ → Bool) (first n : ℕ) → n ≡ 0 → IsWithoutRun first n f f
none_cut f first n e = record { inside = λ page low high. absurd (omega arith); beside = λ page out. refl }
