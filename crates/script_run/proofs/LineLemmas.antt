-- The lines of a script, by the place of its first line feed.
use Rattle.std.proofs.Common.{◌≡◌, ℕ, zero, suc, ◌+◌, ◌-◌, ◌<◌, true, false, ◌==◌, List, [], ◌∷◌, length, take}
use Rattle.std.proofs.Common.{drop, slice_index, refl, ap, ◌∙◌, arith}
use Rattle.std.proofs.lemmas.Bool.{false_from_ne_true}
use Rattle.std.proofs.lemmas.List.{take_rest, drop-drop}
use Rattle.std.proofs.Math.Seq.{take-length, drop-length}
use Rattle.memchr.specs.Find.{is_byte, Nowhere, NoneBefore, Passes}
use Rattle.script_model.specs.Transcript.{script_lines, onto_line}

onto : (b : ℕ) (bytes : List ℕ) → (b == 10) ≡ false → script_lines (b ∷ bytes) ≡ onto_line b (script_lines bytes)
onto b bytes h = rw h refl

feed : (b : ℕ) (bytes : List ℕ) → (b == 10) ≡ true → script_lines (b ∷ bytes) ≡ [] ∷ script_lines bytes
feed b bytes h = rw h refl

-- no line feed among these bytes: they are the one line
pub script_lines-one : (b : ℕ) (bytes : List ℕ) →
    ((k : ℕ) → k < length (b ∷ bytes) → is_byte 10 (slice_index (b ∷ bytes) k) ≡ false) →
    script_lines (b ∷ bytes) ≡ (b ∷ bytes) ∷ []
script_lines-one b [] none = onto b [] (none 0 (omega arith))
script_lines-one b (c ∷ bytes) none =
    onto b (c ∷ bytes) (none 0 (omega arith))
    ∙ ap (onto_line b) (script_lines-one c bytes (λ k within. none (suc k) (omega (arith, within))))

-- the first line feed at place i
pub script_lines-cut : (bytes : List ℕ) (i : ℕ) → i < length bytes →
    ((k : ℕ) → k < i → is_byte 10 (slice_index bytes k) ≡ false) → is_byte 10 (slice_index bytes i) ≡ true →
    script_lines bytes ≡ take i bytes ∷ script_lines (drop (i + 1) bytes)
script_lines-cut [] i within before here = absurd (omega (arith, within))
script_lines-cut (b ∷ bytes) zero within before here = feed b bytes here
script_lines-cut (b ∷ bytes) (suc i) within before here =
    let e : suc i + 1 ≡ suc (i + 1) = omega arith in
    rw e (onto b bytes (before 0 (omega arith))
    ∙ ap (onto_line b) (script_lines-cut bytes i (omega (arith, within)) (λ k below. before (suc k) (omega (arith, below))) here))

-- the same as a search tells it, the rest without its line feed
pub script_lines-found : (script line rest : List ℕ) (at : ℕ) →
    NoneBefore (Passes (is_byte 10) script) 0 (length script) at → Passes (is_byte 10) script at →
    line ≡ take at script → rest ≡ drop at script →
    script_lines script ≡ line ∷ script_lines (take (length rest - 1) (drop 1 rest))
script_lines-found script line rest at found here front back =
    rw (front, take_rest rest 1, back, drop-drop 1 at script)
    (script_lines-cut script at found.high (λ k below. false_from_ne_true _ (found.before k (omega arith) below)) here)

-- a search that found no line feed: all is one line
pub script_lines-none : (script line rest : List ℕ) → 0 < length script →
    Nowhere (Passes (is_byte 10) script) 0 (length script) → line ≡ take (length script) script →
    rest ≡ drop (length script) script → script_lines script ≡ line ∷ script_lines rest
script_lines-none [] line rest some none front back = absurd (omega (arith, some))
script_lines-none (b ∷ bytes) line rest some none front back =
    rw (front, back, take-length (b ∷ bytes), drop-length (b ∷ bytes))
    (script_lines-one b bytes (λ k within. false_from_ne_true _ (none k (omega arith) within)))
