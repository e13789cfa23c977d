-- Lines of words and numbers, one after the other.
use Rattle.std.proofs.Common.{◌≡◌, ℕ, zero, suc, ◌<◌, List, [], ◌∷◌, ◌++◌, length, drop, get_or, refl, ap, sym, ◌∙◌, append_assoc, arith}
use Rattle.work_gen.specs.Summary.{summary_line, summary_lines}

-- the first of the lines that are left
front : (words : List (List ℕ)) (numbers : List ℕ) (i : ℕ) → i < length words → i < length numbers →
    summary_lines (drop i words) (drop i numbers) ≡ summary_line (get_or words i []) (get_or numbers i 0)
    ++ summary_lines (drop (suc i) words) (drop (suc i) numbers)
front [] numbers i within in' = absurd (omega (arith, within))
front (w ∷ words) [] i within in' = absurd (omega (arith, in'))
front (w ∷ words) (n ∷ numbers) zero within in' = refl
front (w ∷ words) (n ∷ numbers) (suc i) within in' = front words numbers i (omega (arith, within)) (omega (arith, in'))

-- One line more was written, where what was written and the lines that were left are all of them.
pub written-more : (words : List (List ℕ)) (numbers all text now : List ℕ) (i j : ℕ) → i < length words → i < length numbers →
    j ≡ suc i → now ≡ text ++ summary_line (get_or words i []) (get_or numbers i 0) →
    text ++ summary_lines (drop i words) (drop i numbers) ≡ all →
    now ++ summary_lines (drop j words) (drop j numbers) ≡ all
written-more words numbers all text now i j within in' next one so =
    ap (λ k. now ++ summary_lines (drop k words) (drop k numbers)) next
    ∙ ap (λ t. t ++ summary_lines (drop (suc i) words) (drop (suc i) numbers)) one
    ∙ append_assoc text _ _
    ∙ ap (λ lines. text ++ lines) (sym (front words numbers i within in')) ∙ so
