-- What a set keeps, at the words as they are and after a change.
use Rattle.std.proofs.Common.{inl, inr, ◌≡◌, ℕ, ◌+◌, ◌^◌, ◌<◌, Bool, sym, ◌∙◌, arith}
use Rattle.std.proofs.lemmas.Bool.{cases_lt, false≢true}
use Rattle.std.specs.Prelude.{IsTrue}
use Rattle.page_set.specs.Members.{count_on, count_all, AreSame, IsWithRun, IsWithoutRun}
use Rattle.page_set.proofs.Counts.{count_all-changed, count_on-all, count_on-none}

-- each page of the set, and the one behind it, is a number of 32 bits
abbrev pub IsBounded : (ℕ → Bool) → Type 0
IsBounded has = (page : ℕ) → IsTrue (has page) → page + 1 < 2 ^ 32

pub bounded_same : (old new : ℕ → Bool) → AreSame old new → IsBounded old → IsBounded new
bounded_same old new same bound page t = bound page (sym (same page) ∙ t)

pub bounded_put : (old new : ℕ → Bool) (first n : ℕ) → first + n < 2 ^ 32 → IsWithRun first n old new → IsBounded old → IsBounded new
bounded_put old new first n fits put bound page t = elim (cases_lt page first) [
  | inl before ↦ bound page (sym (put.beside page (inl before)) ∙ t)
  | inr from ↦ elim (cases_lt page (first + n)) [
    | inl to ↦ omega arith
    | inr behind ↦ bound page (sym (put.beside page (inr behind)) ∙ t)
  ]
]

out_before : (old new : ℕ → Bool) (first n : ℕ) → IsWithoutRun first n old new → (page : ℕ) → IsTrue (new page) → IsTrue (old page)
out_before old new first n cut page t = elim (cases_lt page first) [
  | inl before ↦ sym (cut.beside page (inl before)) ∙ t
  | inr from ↦ elim (cases_lt page (first + n)) [
    | inl to ↦ absurd (false≢true (sym (cut.inside page from to) ∙ t))
    | inr behind ↦ sym (cut.beside page (inr behind)) ∙ t
  ]
]

pub bounded_cut : (old new : ℕ → Bool) (first n : ℕ) → IsWithoutRun first n old new → IsBounded old → IsBounded new
bounded_cut old new first n cut bound page t = bound page (out_before old new first n cut page t)

pub counted_put : (old new : ℕ → Bool) (first n : ℕ) → first + n < 2 ^ 32 → IsWithRun first n old new →
    count_all new + count_on old first n ≡ count_all old + n
counted_put old new first n fits put =
    omega (arith, count_all-changed old new first n (omega arith) put.beside, count_on-all new first n put.inside)

pub counted_cut : (old new : ℕ → Bool) (first n : ℕ) → first + n < 2 ^ 32 → IsWithoutRun first n old new →
    count_all new + count_on old first n ≡ count_all old
counted_cut old new first n fits cut =
    omega (arith, count_all-changed old new first n (omega arith) cut.beside, count_on-none new first n cut.inside)
