-- Serial ends: the last database is fixed, and two runs of ends make one.
use Rattle.std.proofs.Common.{◌≡◌, List, [], ◌∷◌, ◌++◌, refl, sym, subst, ◌∙◌}
use Rattle.eos_ops.specs.declared.plain.Plain.{Plain}
use Rattle.history.specs.Serial.{Serial, RightActs, after_end}
use Rattle.history.specs.Transactions.{Ended}

pub Serial-unique : (ends : List Ended) (db left right : List Plain) → Serial db ends left → Serial db ends right → left ≡ right
Serial-unique [] db left right p q = p ∙ sym q
Serial-unique (e ∷ ends) db left right p q = Serial-unique ends (after_end db e) left right p.1 q.1

pub Serial-append : (xs ys : List Ended) (db mid last : List Plain) → Serial db xs mid → Serial mid ys last → Serial db (xs ++ ys) last
Serial-append [] ys db mid last p q = subst (λ (d : List Plain). Serial d ys last) p q
Serial-append (e ∷ xs) ys db mid last p q = (p.0, Serial-append xs ys (after_end db e) mid last p.1 q)

-- one end more
pub Serial-push : (ends : List Ended) (e : Ended) (db mid : List Plain) → Serial db ends mid →
    RightActs mid e.acts → Serial db (ends ++ e ∷ []) (after_end mid e)
Serial-push ends e db mid p right = Serial-append ends (e ∷ []) db mid (after_end mid e) p (right, refl)
