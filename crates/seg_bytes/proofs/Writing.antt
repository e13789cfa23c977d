-- The bytes of a run of pages after whole pages and the last one were written.
use Rattle.std.proofs.Common.{◌≡◌, ℕ, ◌+◌, ◌-◌, ◌*◌, ◌/◌, ◌%◌, ◌<◌, List, [], ◌∷◌, ◌++◌, length, replicate, min}
use Rattle.std.proofs.Common.{Option, refl, sym, ap, ◌∙◌, inl, inr, arith, append_assoc, append-nil}
use Rattle.std.specs.Prelude.{unwrap_or}
use Rattle.std.proofs.lemmas.Bool.{cases_lt}
use Rattle.std.proofs.lemmas.Nat.{mod_below}
use Rattle.std.proofs.lemmas.List.{length-append}
use Rattle.std.proofs.Math.Nat.{mod-add-div}
use Rattle.tree_model.specs.Tree.{page_count}
use Rattle.tree_model.specs.Content.{run_bytes}
use Rattle.span_store.specs.Held.{Held, page_at, bytes_on}
use Rattle.span_store.proofs.Runs.{run_bytes-same}
use Rattle.seg_bytes.proofs.PageCounts.{page_count-parts}
use Rattle.tree_model.proofs.PageCountLaws.{run_bytes-add, run_bytes-one}

-- bytes that there are none of
no_bytes : (bytes : List ℕ) → length bytes ≡ 0 → bytes ≡ []
no_bytes [] none = refl
no_bytes (b ∷ bytes) none = absurd (omega arith)

pub written : (mid new : Held) (size first w : ℕ) (whole rest bytes : List ℕ) → 0 < size → w ≡ length bytes / size →
    bytes ≡ whole ++ rest → length whole ≡ w * size
    → run_bytes (bytes_on mid) first w ≡ whole → ((q : ℕ) → q < first + w → page_at new q ≡ page_at mid q)
    → (0 < length rest → bytes_on new (first + w) ≡ rest ++ replicate (size - length rest) 0)
    → run_bytes (bytes_on new) first (page_count size (length bytes)) ≡ bytes
    ++ replicate (page_count size (length bytes) * size - length bytes) 0
written mid new size first w whole rest bytes some e parts long front kept last =
    let n : ℕ = length bytes in
    let less = mod_below (length bytes) size some in
    let rows : w * size ≡ length bytes / size * size = ap (λ (k : ℕ). k * size) e in
    let sum : length bytes ≡ length whole + length rest = ap length parts ∙ length-append whole rest in
    let left : length rest ≡ length bytes % size = omega (arith, mod-add-div (length bytes) size) in
    let count : page_count size (length bytes) ≡ w + min 1 (length rest) = page_count-parts size (length bytes) some
    ∙ ap (λ (k : ℕ). k + min 1 (length bytes % size)) (sym e) ∙ ap (λ (k : ℕ). w + min 1 k) (sym left) in
    let pages : run_bytes (bytes_on new) first w ≡ whole =
    run_bytes-same (bytes_on new) (bytes_on mid) first w
    (λ q from to. ap (λ (o : Option (List ℕ)). unwrap_or o []) (kept q to)) ∙ front in
    let room : page_count size (length bytes) * size ≡ (w + min 1 (length rest)) * size = ap (λ (k : ℕ). k * size) count in
    ap (run_bytes (bytes_on new) first) count
    ∙ run_bytes-add (bytes_on new) first w (min 1 (length rest))
    ∙ ap (λ (page : List ℕ). page ++ run_bytes (bytes_on new) (first + w) (min 1 (length rest))) pages
    ∙ elim (cases_lt 0 (length rest)) [
      | inl more ↦
          let one : min 1 (length rest) ≡ 1 = omega arith in
          let one_page : (w + min 1 (length rest)) * size ≡ (w + 1) * size = ap (λ (k : ℕ). (w + k) * size) one in
          let zeros : page_count size (length bytes) * size - length bytes ≡ size - length rest = omega arith in
          ap (λ (k : ℕ). whole ++ run_bytes (bytes_on new) (first + w) k) one
          ∙ ap (λ (page : List ℕ). whole ++ page) (run_bytes-one (bytes_on new) (first + w) ∙ last more)
          ∙ sym (append_assoc whole rest (replicate (size - length rest) 0))
          ∙ sym (ap (λ (front : List ℕ). front ++ replicate (page_count size (length bytes) * size - length bytes) 0) parts
          ∙ ap (λ (k : ℕ). (whole ++ rest) ++ replicate k 0) zeros)
      | inr none ↦
          let no_page : min 1 (length rest) ≡ 0 = omega arith in
          let no_more : (w + min 1 (length rest)) * size ≡ (w + 0) * size = ap (λ (k : ℕ). (w + k) * size) no_page in
          let zeros : page_count size (length bytes) * size - length bytes ≡ 0 = omega arith in
          let nothing : rest ≡ [] = no_bytes rest (omega arith) in
          ap (λ (k : ℕ). whole ++ run_bytes (bytes_on new) (first + w) k) no_page
          ∙ sym (ap (λ (k : ℕ). bytes ++ replicate k 0) zeros ∙ append-nil bytes ∙ parts ∙ ap (λ (tail : List ℕ). whole ++ tail) nothing)
    ]
