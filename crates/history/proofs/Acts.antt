-- Acts at one object, one after another.
use Rattle.std.proofs.Common.{◌≡◌, ℕ, List, [], ◌∷◌, ◌++◌, true, false, cond, Some, refl, ap, ◌∙◌}
use Rattle.std.proofs.lemmas.Bool.{eq-eqb, ne_eqb, cond-true, cond-false}
use Rattle.std.proofs.lemmas.List.Elements.{filter-append}
use Rattle.eos_ops.specs.declared.act.Act.{Act}
use Rattle.eos_ops.specs.declared.plain.Plain.{Plain}
use Rattle.eos_ops.specs.Objects.{object_of, reply_in, after_in}
use Rattle.history.specs.Serial.{is_target, is_on, acts_on, RightAt, replayed}

pub is_on-same : (o : ℕ) (a : Act) → object_of a.command ≡ Some o → is_on o a ≡ true
is_on-same o a on = ap (is_target o) on ∙ eq-eqb o o refl

pub is_on-other : (o p : ℕ) (a : Act) → object_of a.command ≡ Some p → (p ≡ o → ⊥) → is_on o a ≡ false
is_on-other o p a on other = ap (is_target o) on ∙ ne_eqb p o other

pub acts_on-same : (o : ℕ) (a : Act) (acts : List Act) → is_on o a ≡ true → acts_on o (a ∷ acts) ≡ a ∷ acts_on o acts
acts_on-same o a acts on = cond-true (is_on o a) (a ∷ acts_on o acts) (acts_on o acts) on

pub acts_on-other : (o : ℕ) (a : Act) (acts : List Act) → is_on o a ≡ false → acts_on o (a ∷ acts) ≡ acts_on o acts
acts_on-other o a acts off = cond-false (is_on o a) (a ∷ acts_on o acts) (acts_on o acts) off

-- an act on o at the end
pub acts_on-push : (o : ℕ) (acts : List Act) (a : Act) → is_on o a ≡ true → acts_on o (acts ++ a ∷ []) ≡ acts_on o acts ++ a ∷ []
acts_on-push o acts a on = filter-append (is_on o) acts (a ∷ []) ∙ ap (λ (l : List Act). acts_on o acts ++ l) (acts_on-same o a [] on)

-- an act on another object at the end
pub acts_on-skip : (o : ℕ) (acts : List Act) (a : Act) → is_on o a ≡ false → acts_on o (acts ++ a ∷ []) ≡ acts_on o acts
acts_on-skip o [] a off = acts_on-other o a [] off
acts_on-skip o (b ∷ acts) a off = ap (λ (l : List Act). cond (is_on o b) (b ∷ l) l) (acts_on-skip o acts a off)

pub replayed-push : (acts : List Act) (a : Act) (x : Plain) → replayed x (acts ++ a ∷ []) ≡ after_in a.command (replayed x acts)
replayed-push [] a x = refl
replayed-push (b ∷ acts) a x = replayed-push acts a (after_in b.command x)

pub RightAt-push : (acts : List Act) (a : Act) (x : Plain) → RightAt x acts →
    reply_in a.command (replayed x acts) ≡ a.reply → RightAt x (acts ++ a ∷ [])
RightAt-push [] a x right reply = (reply, tt)
RightAt-push (b ∷ acts) a x right reply = (right.0, RightAt-push acts a (after_in b.command x) right.1 reply)
