-- What one deed of session s changes of the ends, the open acts and the held objects; and what holds where nothing
-- does.
use Rattle.std.proofs.Common.{◌≡◌, ℕ, List, [], ◌∷◌, ◌++◌, Bool, Option, length, refl, sym, ap, subst, ◌∙◌, inl, inr}
use Rattle.std.specs.Prelude.{is_some}
use Rattle.std.specs.Option.{option_map_or}
use Rattle.std.proofs.lemmas.Bool.{cases_eq, eq-eqb, ne_eqb}
use Rattle.std.proofs.lemmas.List.{append-nil}
use Rattle.eos_ops.specs.declared.act.Act.{Act}
use Rattle.eos_ops.specs.declared.plain.Plain.{Plain}
use Rattle.history.specs.Event.{Event, Deed, Opens, Does, Takes, Closes, Nothing, deed_of}
use Rattle.history.specs.Holding.{holds, holds_after}
use Rattle.history.specs.Serial.{Serial}
use Rattle.history.specs.Transactions.{Ended, acts_after, opened, begun, closed, closed_by}
use Rattle.history.proofs.EventLaws.{opened-own, opened-other, holds-own, holds-other}
use Rattle.machine.specs.Machine.{Machine, slot_at, database}
use Rattle.machine.specs.Sound.{Tracks, Reflects, Stands, AreInsideOf}

-- the end that a deed makes of the acts that were open
abbrev pub closing : Deed → ℕ → ℕ → Option (List Act) → List Ended
closing (Closes committed) s number acts =
    option_map_or (λ done. record { session = s; number = number; acts = done; committed = committed } ∷ []) acts []
closing d s number acts = []

-- after a deed of session s
pub record Changes (d : Deed) (s number : ℕ) (ends ends' : List Ended) (acts acts' : ℕ → Option (List Act))
    (holding holding' : ℕ → ℕ → Bool) : Type 0 where
  pub closes : ends' ≡ ends ++ closing d s number (acts s)
  pub own : acts' s ≡ acts_after d (acts s)
  pub others : (t : ℕ) → (t ≡ s → ⊥) → acts' t ≡ acts t
  pub held_own : (o : ℕ) → holding' s o ≡ holds_after d o (is_some (acts s)) (holding s o)
  pub held_others : (t o : ℕ) → (t ≡ s → ⊥) → holding' t o ≡ holding t o

closed_by-closing : (d : Deed) (s : ℕ) (past : List Event) → closed_by d s past ≡ closing d s (begun s past) (opened s past)
closed_by-closing Opens s past = refl
closed_by-closing (Does o act) s past = refl
closed_by-closing (Takes o) s past = refl
closed_by-closing (Closes committed) s past = refl
closed_by-closing Nothing s past = refl

-- what an event changes is what its deed does
pub event_changes : (e : Event) (past : List Event) →
    Changes (deed_of e) e.session (begun e.session past) (closed past) (closed (e ∷ past)) (λ s. opened s past)
    (λ s. opened s (e ∷ past)) (λ s o. holds s o past) (λ s o. holds s o (e ∷ past))
event_changes e past = record {
  closes = ap (λ (l : List Ended). closed past ++ l) (closed_by-closing (deed_of e) e.session past);
  own = opened-own e.session e past (eq-eqb e.session e.session refl);
  others = λ t apart. opened-other t e past (ne_eqb e.session t (λ same. apart (sym same)));
  held_own = λ o. holds-own e.session o e past (eq-eqb e.session e.session refl);
  held_others = λ t o apart. holds-other t o e past (ne_eqb e.session t (λ same. apart (sym same)));
}

pub Reflects-nothing : (db : List Plain) (s number : ℕ) (ends ends' : List Ended)
    (acts acts' : ℕ → Option (List Act)) (holding holding' : ℕ → ℕ → Bool) (m : Machine) →
    Changes Nothing s number ends ends' acts acts' holding holding' → Tracks acts' holding' m →
    Reflects db ends acts holding m → Reflects db ends' acts' holding' m
Reflects-nothing db s number ends ends' acts acts' holding holding' m ch tracks v = record {
  tracks = tracks;
  serial = subst (λ (e : List Ended). Serial db e (database m)) (sym (ch.closes ∙ append-nil ends)) v.serial;
  stands = λ t o. subst (λ (a : Option (List Act)). Stands t o a (slot_at m o)) (sym (same t)) (v.stands t o);
  rests = v.rests;
  inside = λ t. subst (λ (a : Option (List Act)). AreInsideOf (length m.slots) a) (sym (same t)) (v.inside t);
}
  where
    same : (t : ℕ) → acts' t ≡ acts t
    same t = elim (cases_eq t s) [ inl own ↦ ap acts' own ∙ ch.own ∙ ap acts (sym own) | inr other ↦ ch.others t other ]
