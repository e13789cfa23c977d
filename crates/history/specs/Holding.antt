-- Which objects the open transactions hold.
use Rattle.std.specs.Prelude.{ℕ, zero, suc, ◌+◌, List, [], ◌∷◌, Bool, false, not, ◌&&◌, ◌||◌}
use Rattle.std.specs.Prelude.{◌==◌, if◌then◌else◌}
use Rattle.history.specs.Event.{Event, Deed, Opens, Does, Takes, Closes, Nothing, deed_of}
use Rattle.history.specs.Transactions.{is_open}

-- whether o is held after a deed of the session, which has a transaction open or not, and held o
-- before or not
abbrev pub holds_after : Deed → ℕ → Bool → Bool → Bool
holds_after Opens o active held = held
holds_after (Does p act) o active held = ((p == o) && active) || held
holds_after (Takes p) o active held = ((p == o) && active) || held
holds_after (Closes committed) o active held = false
holds_after Nothing o active held = held

-- Session s has o in its open transaction: the object answered one of its commands there, or had
-- no space or no device to do so. A command that is answered `memory`, or refused, takes nothing.
abbrev pub holds : ℕ → ℕ → List Event → Bool
holds s o [] = false
holds s o (e ∷ past) = if e.session == s then holds_after (deed_of e) o (is_open s past)
    (holds s o past) else holds s o past

-- at how many numbers below n the test is true
abbrev pub count_below : ℕ → (ℕ → Bool) → ℕ
count_below zero p = 0
count_below (suc n) p = (if p n then 1 else 0) + count_below n p

-- whether the test is true at a number from 1 to n
abbrev pub some_upto : ℕ → (ℕ → Bool) → Bool
some_upto zero p = false
some_upto (suc n) p = p (suc n) || some_upto n p

-- how many of the objects below n session s holds
unfoldable pub held_count : ℕ → ℕ → List Event → ℕ
held_count n s past = count_below n (λ o. holds s o past)

-- whether a session of 1 to n, other than s, holds o
unfoldable pub is_held_elsewhere : ℕ → ℕ → ℕ → List Event → Bool
is_held_elsewhere n s o past = some_upto n (λ t. not (t == s) && holds t o past)
