-- A transaction begins.
use Rattle.std.proofs.Common.{◌≡◌, ℕ, List, [], Bool, true, false, Option, Some, None, length, refl, sym, ap, subst, ◌∙◌, inl, inr}
use Rattle.std.specs.Prelude.{is_some}
use Rattle.std.proofs.lemmas.Bool.{cases_eq}
use Rattle.std.proofs.lemmas.List.{append-nil}
use Rattle.eos_ops.specs.declared.act.Act.{Act}
use Rattle.eos_ops.specs.declared.plain.Plain.{Plain}
use Rattle.history.specs.Event.{Opens}
use Rattle.history.specs.Serial.{Serial}
use Rattle.history.specs.Transactions.{Ended, acts_after}
use Rattle.machine.specs.Machine.{Slot, Machine, slot_at, is_holder, database}
use Rattle.machine.specs.Next.{next, CanBegin}
use Rattle.machine.specs.Sound.{Tracks, Reflects, Stands, StandsBy, AreInsideOf}
use Rattle.machine.proofs.Changes.{Changes}

pub none_from : (acts : Option (List Act)) → is_some acts ≡ false → acts ≡ None
none_from None h = refl
none_from (Some acts) h = cc

pub some_from : (acts : Option (List Act)) → is_some acts ≡ true → (done : List Act) × (acts ≡ Some done)
some_from None h = absurd (cc)
some_from (Some done) h = (done, refl)

-- where no transaction is open there's nothing that is held
stands_idle : (s o : ℕ) (acts : Option (List Act)) (slot : Slot) → acts ≡ None → Stands s o acts slot → is_holder s slot.holder ≡ false
stands_idle s o acts slot none stands = subst (λ (a : Option (List Act)). Stands s o a slot) none stands

-- a transaction with no acts holds nothing
stands_new : (s o : ℕ) (slot : Slot) → is_holder s slot.holder ≡ false → Stands s o (Some []) slot
stands_new s o slot idle = subst (λ (b : Bool). StandsBy o (Some []) b slot.committed slot.working) (sym idle) no_acts
  where
    no_acts : ◌≡◌ {A = List Act} [] []
    no_acts = refl

pub Reflects-begin : (db : List Plain) (s number : ℕ) (ends ends' : List Ended) (acts acts' : ℕ → Option (List Act))
    (holding holding' : ℕ → ℕ → Bool) (m : Machine) → CanBegin m s →
    Changes Opens s number ends ends' acts acts' holding holding' → Tracks acts' holding' (next m s Opens) →
    Reflects db ends acts holding m → Reflects db ends' acts' holding' (next m s Opens)
Reflects-begin db s number ends ends' acts acts' holding holding' m can ch tracks v =
    let none : acts s ≡ None = none_from (acts s) (v.tracks.active s ∙ can.idle) in
    let new : acts' s ≡ Some [] = ch.own ∙ ap (acts_after Opens) none in
    record {
      tracks = tracks;
      serial = subst (λ (e : List Ended). Serial db e (database m)) (sym (ch.closes ∙ append-nil ends)) v.serial;
      stands = λ t o. elim (cases_eq t s) [
        | inl same ↦ subst (λ n. Stands n o (acts' n) (slot_at m o)) (sym same)
            (subst (λ (a : Option (List Act)). Stands s o a (slot_at m o)) (sym new)
            (stands_new s o (slot_at m o) (stands_idle s o (acts s) (slot_at m o) none (v.stands s o))))
        | inr other ↦ subst (λ (a : Option (List Act)). Stands t o a (slot_at m o)) (sym (ch.others t other)) (v.stands t o)
      ];
      rests = v.rests;
      inside = λ t. elim (cases_eq t s) [
        | inl same ↦ subst (λ n. AreInsideOf (length m.slots) (acts' n)) (sym same) (subst (AreInsideOf (length m.slots)) (sym new) tt)
        | inr other ↦ subst (AreInsideOf (length m.slots)) (sym (ch.others t other)) (v.inside t)
      ];
    }
