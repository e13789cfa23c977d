-- A script has no more lines than bytes, and no more events than lines.
use Rattle.std.proofs.Common.{ℕ, suc, ◌≤◌, inl, inr, Bool, true, false, cond, ◌==◌, List, [], ◌∷◌, length, arith}
use Rattle.history.specs.Event.{Event}
use Rattle.script_model.specs.Transcript.{script_lines, onto_line, Answers}

length-onto_line : (b : ℕ) (lines : List (List ℕ)) (n : ℕ) → length lines ≤ n → length (onto_line b lines) ≤ suc n
length-onto_line b [] n h = omega arith
length-onto_line b (line ∷ lines) n h = omega (arith, h)

length-cond : (b : Bool) (x y : List (List ℕ)) (n : ℕ) → length x ≤ n → length y ≤ n → length (cond b x y) ≤ n
length-cond true x y n p q = p
length-cond false x y n p q = q

pub length-script_lines : (bytes : List ℕ) → length (script_lines bytes) ≤ length bytes
length-script_lines [] = omega arith
length-script_lines (b ∷ bytes) =
    let more = length-script_lines bytes in
    length-cond (b == 10) ([] ∷ script_lines bytes) (onto_line b (script_lines bytes)) (suc (length bytes))
    (omega (arith, more)) (length-onto_line b (script_lines bytes) (length bytes) more)

pub length-events : (lines : List (List ℕ)) (output : List ℕ) (events : List Event) → Answers lines output events →
    length events ≤ length lines
length-events [] output events (none, empty) = rw empty (omega arith)
length-events (line ∷ lines) output events (inl (rest, (here, cut, more))) =
    let fewer = length-events lines rest events more in omega (arith, fewer)
length-events (line ∷ lines) output events (inr (answer, rest, e, later, (cut, told, here, more))) =
    let fewer = length-events lines rest later more in rw told (omega (arith, fewer))
