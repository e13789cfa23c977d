-- Every run is serial: a step keeps what is sound, and what is sound is serial.
use Rattle.std.proofs.Common.{ℕ, zero, suc, List, [], ◌∷◌, Bool, false, Option, Some, None, length, refl, ap}
use Rattle.std.specs.Option.{option_map_or}
use Rattle.eos_ops.specs.declared.act.Act.{Act}
use Rattle.eos_ops.specs.declared.plain.Plain.{Plain}
use Rattle.history.specs.Event.{Event, Deed, Opens, Does, Takes, Closes, Nothing, deed_of}
use Rattle.history.specs.Holding.{holds}
use Rattle.history.specs.Serial.{Serial}
use Rattle.history.specs.Transactions.{Ended, opened, begun, closed, ending, left_open, ends}
use Rattle.history.proofs.Ends.{Serial-append}
use Rattle.machine.specs.Machine.{Machine, slot_at, is_holder, database, AtRest}
use Rattle.machine.specs.Next.{next, May}
use Rattle.machine.specs.Runs.{state_after, MayRun}
use Rattle.machine.specs.Sound.{Tracks, Reflects, Stands, AreInsideOf, Sound}
use Rattle.machine.proofs.Begins.{Reflects-begin}
use Rattle.machine.proofs.Changes.{Changes, event_changes, Reflects-nothing}
use Rattle.machine.proofs.Closing.{Reflects-closes, open_acts_right}
use Rattle.machine.proofs.Touches.{Reflects-does, Reflects-takes}
use Rattle.machine.proofs.Tracking.{MayTouch-from, Tracked-step, Tracked-start}

pub Reflects-step : (d : Deed) (db : List Plain) (s number : ℕ) (ends ends' : List Ended)
    (acts acts' : ℕ → Option (List Act)) (holding holding' : ℕ → ℕ → Bool) (m : Machine) → May m s d →
    Changes d s number ends ends' acts acts' holding holding' → Tracks acts' holding' (next m s d) →
    Reflects db ends acts holding m → Reflects db ends' acts' holding' (next m s d)
Reflects-step Opens db s number ends ends' acts acts' holding holding' m may ch tracks v =
    Reflects-begin db s number ends ends' acts acts' holding holding' m may ch tracks v
Reflects-step (Does o act) db s number ends ends' acts acts' holding holding' m may ch tracks v =
    Reflects-does db s number o act ends ends' acts acts' holding holding' m may ch tracks v
Reflects-step (Takes o) db s number ends ends' acts acts' holding holding' m may ch tracks v =
    Reflects-takes db s number o ends ends' acts acts' holding holding' m may ch tracks v
Reflects-step (Closes committed) db s number ends ends' acts acts' holding holding' m may ch tracks v =
    Reflects-closes db s number committed ends ends' acts acts' holding holding' m may ch tracks v
Reflects-step Nothing db s number ends ends' acts acts' holding holding' m may ch tracks v =
    Reflects-nothing db s number ends ends' acts acts' holding holding' m ch tracks v

-- A step of the machine keeps what is sound.
pub Sound-step : (db : List Plain) (past : List Event) (m : Machine) (e : Event) → May m e.session (deed_of e) →
    Sound db past m → Sound db (e ∷ past) (next m e.session (deed_of e))
Sound-step db past m e may sound =
    Reflects-step (deed_of e) db e.session (begun e.session past) (closed past) (closed (e ∷ past))
    (λ s. opened s past) (λ s. opened s (e ∷ past)) (λ s o. holds s o past)
    (λ s o. holds s o (e ∷ past)) m may (event_changes e past)
    (Tracked-step past m e (MayTouch-from (deed_of e) m e.session may) sound.tracks) sound

-- With nothing open it is sound before the first event.
pub Sound-start : (m : Machine) → AtRest m → Sound (database m) [] m
Sound-start m rest = record {
  tracks = Tracked-start m rest;
  serial = refl;
  stands = λ s o. ap (is_holder s) (rest.free o);
  rests = λ o none. rest.equal o;
  inside = λ s. tt;
}

pub Sound-run : (m : Machine) (past : List Event) → AtRest m → MayRun m past → Sound (database m) past (state_after m past)
Sound-run m [] rest may = Sound-start m rest
Sound-run m (e ∷ past) rest may = Sound-step (database m) past (state_after m past) e may.1 (Sound-run m past rest may.0)

-- one session's open transaction, aborted
aborted_serial : (m : Machine) (s number : ℕ) (acts : Option (List Act)) → AreInsideOf (length m.slots) acts →
    ((o : ℕ) → Stands s o acts (slot_at m o)) →
    Serial (database m) (option_map_or (λ done. record {
      session = s;
      number = number;
      acts = done;
      committed =
          false;
    } ∷ []) acts []) (database m)
aborted_serial m s number None inside stands = refl
aborted_serial m s number (Some done) inside stands = (open_acts_right m s done inside stands, refl)

left_open_serial : (db : List Plain) (past : List Event) (m : Machine) (n : ℕ) → Sound db past m →
    Serial (database m) (left_open n past) (database m)
left_open_serial db past m zero sound = refl
left_open_serial db past m (suc n) sound =
    Serial-append (left_open n past) (ending (suc n) past false) (database m) (database m) (database m) (left_open_serial db past m n sound)
    (aborted_serial m (suc n) (begun (suc n) past) (opened (suc n) past) (sound.inside (suc n)) (sound.stands (suc n)))

-- What is sound is serial, with what is open counted as aborted.
pub Sound-serial : (db : List Plain) (past : List Event) (m : Machine) (n : ℕ) → Sound db past m → Serial db (ends n past) (database m)
unfolding ends
Sound-serial db past m n sound = Serial-append (closed past) (left_open n past) db (database m)
    (database m) sound.serial (left_open_serial db past m n sound)
