-- Checks after one another: what is known of each is known of both.
use Rattle.std.proofs.Common.{◌≡◌, ℕ, ◌+◌, ◌-◌, ◌≤◌, Bool, true, false, Option, Some, None, List, refl, sym, ap, subst}
use Rattle.std.proofs.Common.{◌∙◌, inl, inr, arith}
use Rattle.std.specs.Prelude.{IfSome, IsErrAnd, Result}
use Rattle.std.specs.Result.{result_err}
use Rattle.std.proofs.lemmas.Result.{err_from_is_err_and}
use Rattle.fault_count.specs.Counts.{Meter, Reads}
use Rattle.fault_count.proofs.CountLaws.{Reads-more, Reads-then}
use Rattle.geometry_model.specs.Numbers.{Numbers}
use Rattle.span_store.specs.Held.{Held}
use Rattle.image_model.specs.Checks.{Refusal, Walk, Checked, then_check, check}
use Rattle.image_model.specs.Checks.Checked.{Passed, Failed}
use Rattle.image_check.specs.declared.owner.Owner.{Owner}
use Rattle.image_check.specs.declared.owner.Owner.TheVariants.{Nobody, Object}
use Rattle.image_check.specs.declared.failure.CheckFail.{CheckFail}
use Rattle.image_check.specs.Owners.{KeptWalk, Claims, IsClaimed, IsMarked, owner_at}
use Rattle.image_check.specs.Verdicts.{IsVerdict, IsWalk, Judged, Shows, refusal_named}

-- ---- answers

pub answers-then : (kept new : KeptWalk) (fail : Option CheckFail) (c : Checked) (next : Walk → Checked) →
    IsVerdict kept None c → ((walk : Walk) → IsWalk kept walk → IsVerdict new fail (next walk)) → IsVerdict new fail (then_check c next)
answers-then kept new fail c next first more =
    subst (λ (x : Checked). IsVerdict new fail (then_check x next)) (sym first.1) (more first.0 first.2)

pub answers-stop : (new : KeptWalk) (fail : CheckFail) (c : Checked) (next : Walk → Checked) → IsVerdict new (Some fail) c →
    IsVerdict new (Some fail) (then_check c next)
answers-stop new fail c next failed = stops (refusal_named fail) failed
  where
    stops : (r : Option Refusal) → IfSome r (λ refusal. c ≡ Failed refusal) → IfSome r (λ refusal. then_check c next ≡ Failed refusal)
    stops None failed = tt
    stops (Some r) failed = ap (λ (x : Checked). then_check x next) failed

-- ---- owners

pub Claims-none : (o : ℕ) (kept : KeptWalk) → Claims o kept kept
Claims-none o kept q = inl refl

IsClaimed-then : (o : ℕ) (old mid new : Owner) → IsClaimed o old mid → IsClaimed o mid new → IsClaimed o old new
IsClaimed-then o old mid new (inl same) second = subst (λ (x : Owner). IsClaimed o x new) same second
IsClaimed-then o old mid new (inr first) (inl same) = inr (first.0, same ∙ first.1)
IsClaimed-then o old mid new (inr first) (inr second) =
    let broken : Object o ≡ Nobody = sym first.1 ∙ second.0 in
    absurd cc

pub Claims-then : (o : ℕ) (old mid new : KeptWalk) → Claims o old mid → Claims o mid new → Claims o old new
Claims-then o old mid new first second q =
    IsClaimed-then o (owner_at old q) (owner_at mid q) (owner_at new q) (first q) (second q)

-- ---- checks of an object

-- the same checks by another name
pub Judged-same : (T : Type 0) (n : Numbers) (held : Held) (o : ℕ) (old new : KeptWalk) (fail : Option CheckFail)
    (c d : List ℕ → Walk → Checked) → (T → (bytes : List ℕ) (walk : Walk) → Shows n bytes held → c bytes walk ≡ d bytes walk) →
    Judged T n held o old new fail c → Judged T n held o old new fail d
Judged-same T n held o old new fail c d same judged = record {
  marked = judged.marked;
  claims = judged.claims;
  more = judged.more;
  judges = λ t bytes walk shows is. subst (IsVerdict new fail) (same t bytes walk shows) (judged.judges t bytes walk shows is);
}

-- where the device needn't tell, it may
pub Judged-told : (T : Type 0) (n : Numbers) (held : Held) (o : ℕ) (old new : KeptWalk) (fail : Option CheckFail)
    (c : List ℕ → Walk → Checked) → Judged (Unit {0}) n held o old new fail c → Judged T n held o old new fail c
Judged-told T n held o old new fail c judged =
    record { marked = judged.marked; claims = judged.claims; more = judged.more; judges = λ t. judged.judges tt }

-- the first passes
pub Judged-then : (T : Type 0) (n : Numbers) (held : Held) (o : ℕ) (old mid new : KeptWalk) (fail : Option CheckFail)
    (c d : List ℕ → Walk → Checked) → Judged T n held o old mid None c → Judged T n held o mid new fail d →
    Judged T n held o old new fail (λ bytes walk. then_check (c bytes walk) (d bytes))
Judged-then T n held o old mid new fail c d first second =
    let more = first.more in
    let more_next = second.more in
    record {
      marked = second.marked;
      claims = Claims-then o old mid new first.claims second.claims;
      more = omega (arith, more, more_next);
      judges = λ t bytes walk shows is. answers-then mid new fail (c bytes walk) (d bytes)
          (first.judges t bytes walk shows is) (λ met is_met. second.judges t bytes met shows is_met);
    }

-- the first fails
pub Judged-stop : (T : Type 0) (n : Numbers) (held : Held) (o : ℕ) (old new : KeptWalk) (fail : CheckFail)
    (c d : List ℕ → Walk → Checked) → Judged T n held o old new (Some fail) c →
    Judged T n held o old new (Some fail) (λ bytes walk. then_check (c bytes walk) (d bytes))
Judged-stop T n held o old new fail c d first = record {
  marked = first.marked;
  claims = first.claims;
  more = first.more;
  judges = λ t bytes walk shows is. answers-stop new fail (c bytes walk) (d bytes) (first.judges t bytes walk shows is);
}

-- nothing is checked
pub Judged-none : (T : Type 0) (n : Numbers) (held : Held) (o : ℕ) (kept : KeptWalk) → IsMarked n held kept →
    Judged T n held o kept kept None (λ bytes walk. Passed walk)
Judged-none T n held o kept marked = record {
  marked = marked;
  claims = Claims-none o kept;
  more = omega arith;
  judges = λ t bytes walk shows is. (walk, refl, is);
}

-- a test that holds, and one that doesn't
pub Judged-check : (T : Type 0) (n : Numbers) (held : Held) (o : ℕ) (kept : KeptWalk) (r : Refusal) (b : List ℕ → Bool) →
    IsMarked n held kept → (T → (bytes : List ℕ) → Shows n bytes held → b bytes ≡ true) →
    Judged T n held o kept kept None (λ bytes. check (b bytes) r)
Judged-check T n held o kept r b marked holds = record {
  marked = marked;
  claims = Claims-none o kept;
  more = omega arith;
  judges = λ t bytes walk shows is. (walk, ap (λ (x : Bool). check x r walk) (holds t bytes shows), is);
}

pub Judged-uncheck : (T : Type 0) (n : Numbers) (held : Held) (o : ℕ) (kept : KeptWalk) (r : Refusal) (fail : CheckFail)
    (b : List ℕ → Bool) →
    IsMarked n held kept → refusal_named fail ≡ Some r → (T → (bytes : List ℕ) → Shows n bytes held → b bytes ≡ false) →
    Judged T n held o kept kept (Some fail) (λ bytes. check (b bytes) r)
Judged-uncheck T n held o kept r fail b marked named fails = record {
  marked = marked;
  claims = Claims-none o kept;
  more = omega arith;
  judges = λ t bytes walk shows is.
      subst (λ (x : Option Refusal). IfSome x (λ refusal. check (b bytes) r walk ≡ Failed refusal)) (sym named)
      (ap (λ (x : Bool). check x r walk) (fails t bytes shows));
}

-- the device or memory failed: of the definition nothing is said
pub Judged-broken : (T : Type 0) (n : Numbers) (held : Held) (o : ℕ) (kept : KeptWalk) (fail : CheckFail)
    (c : List ℕ → Walk → Checked) → IsMarked n held kept → refusal_named fail ≡ None →
    Judged T n held o kept kept (Some fail) c
Judged-broken T n held o kept fail c marked named = record {
  marked = marked;
  claims = Claims-none o kept;
  more = omega arith;
  judges = λ t bytes walk shows is.
      subst (λ (x : Option Refusal). IfSome x (λ refusal. c bytes walk ≡ Failed refusal)) (sym named) tt;
}

-- a refusal that is handed on
pub err-passed : (r : Result (Unit {0}) CheckFail) (fail : CheckFail) → IsErrAnd r (λ y. y ≡ fail) → result_err r ≡ Some fail
err-passed r fail is = let p = err_from_is_err_and r is in ap (λ (x : Result (Unit {0}) CheckFail). result_err x) p.1
    ∙ ap (λ (y : CheckFail). Some y) p.2

pub Judged-err : (T : Type 0) (n : Numbers) (held : Held) (o : ℕ) (old new : KeptWalk) (r : Result (Unit {0}) CheckFail) (fail : CheckFail)
    (c : List ℕ → Walk → Checked) → IsErrAnd r (λ y. y ≡ fail) → Judged T n held o old new (Some fail) c →
    Judged T n held o old new (result_err r) c
Judged-err T n held o old new r fail c is judged =
    subst (λ (x : Option CheckFail). Judged T n held o old new x c) (sym (err-passed r fail is)) judged

-- ---- pages read

-- one page is read for one that came to have an owner
pub Reads-one : (old new : ℕ) (was is : Meter) → new ≡ old + 1 → Reads 1 was is → Reads (new - old) was is
Reads-one old new was is one reads = Reads-more 1 (new - old) was is reads (omega (arith, one))

-- so many pages are read as come to have an owner
pub Reads-owned : (old mid new : ℕ) (was now is : Meter) → Reads (mid - old) was now → Reads (new - mid) now is → old ≤ mid →
    mid ≤ new → Reads (new - old) was is
Reads-owned old mid new was now is first second low high =
    Reads-then (mid - old) (new - mid) (new - old) was now is first second (omega arith)
