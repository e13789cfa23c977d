-- A session's place for a transaction, as contracts see it.
use Rattle.std.specs.Prelude.{◌≡◌, ℕ, ◌+◌, ◌-◌, ◌<◌, ◌≤◌, ◌^◌, max, List, [], ◌∷◌, length, All}
use Rattle.std.specs.Prelude.{Bool, true, false, if◌then◌else◌}
use Rattle.eos_ops.specs.declared.act.Act.{Act}
use Rattle.eos_ops.specs.declared.limits.TheConstants.{MAX_HELD}
use Rattle.shadow_txn.specs.declared.held.Held.{Held}
use Rattle.shadow_txn.specs.Held.{with_acts, AreDistinct}

-- Whose it is, over how many objects, whether a transaction is open, the number of the session's
-- last transaction (the open one counts), its last stamp, and the objects that it holds, in the
-- order in which they were taken.
pub record Transaction (T : Type 0) : Type 0 where
  pub session : ℕ
  pub objects : ℕ
  pub is_open : Bool
  pub number : ℕ
  pub stamp : ℕ
  pub held : List (Held T)

-- nothing was begun yet
abbrev pub unbegun : {T : Type 0} → ℕ → ℕ → Transaction T
unbegun session objects = record {
  session = session;
  objects = objects;
  is_open = false;
  number =
      0;
  stamp = 0;
  held = [];
}

-- the next transaction is open
abbrev pub with_begin : {T : Type 0} → Transaction T → Transaction T
with_begin t = record {
  session = t.session;
  objects = t.objects;
  is_open = true;
  number =
      t.number + 1;
  stamp = t.stamp;
  held = t.held;
}

-- it holds these objects
abbrev pub holding : {T : Type 0} → Transaction T → List (Held T) → Transaction T
holding t held = record {
  session = t.session;
  objects = t.objects;
  is_open = t.is_open;
  number =
      t.number;
  stamp = t.stamp;
  held = held;
}

-- these acts are noted on object o
abbrev pub noting : {T : Type 0} → ℕ → List Act → Transaction T → Transaction T
noting o [] t = t
noting o (a ∷ acts) t = holding t (with_acts o (a ∷ acts) t.held)

-- the transaction is over, with this stamp
abbrev pub with_end : {T : Type 0} → Transaction T → ℕ → Transaction T
with_end t stamp = record {
  session = t.session;
  objects = t.objects;
  is_open = false;
  number =
      t.number;
  stamp = stamp;
  held = [];
}

-- the number of the session's last transaction that is over, 0 where there is none
abbrev pub last_ended : {T : Type 0} → Transaction T → ℕ
last_ended t = if t.is_open then t.number - 1 else t.number

-- the greatest last stamp of held objects
abbrev pub greatest_last : {T : Type 0} → (T → ℕ) → List (Held T) → ℕ
greatest_last last [] = 0
greatest_last last (h ∷ held) = max (last h.object) (greatest_last last held)

-- the stamp of an end: one more than the last stamps of the session and of all objects that it
-- holds
abbrev pub end_stamp : {T : Type 0} → (T → ℕ) → Transaction T → ℕ
end_stamp last t = max t.stamp (greatest_last last t.held) + 1

-- What every place keeps: room for as many objects as may be held, room for one end in the annals
-- of each that is, a stamp left for the end of an open transaction, and for each object the acts
-- that made what it is now.
pub record IsSoundTxn {T : Type 0} (spare last : T → ℕ) (Made : T → List Act → Type 0)
    (capacity : ℕ) (t : Transaction T) : Type 0 where
  pub session : 1 ≤ t.session
  pub places : MAX_HELD ≤ capacity
  pub few : length t.held ≤ MAX_HELD
  pub idle : t.is_open ≡ false → t.held ≡ []
  pub begun : t.is_open ≡ true → 1 ≤ t.number
  pub number : t.number ≤ t.stamp + (if t.is_open then 1 else 0)
  pub stamp : t.stamp ≤ 2 ^ 62
  pub left : t.is_open ≡ true → t.stamp < 2 ^ 62
  pub room : All (λ h. 1 ≤ spare h.object) t.held
  pub lasts : All (λ h. last h.object < 2 ^ 62) t.held
  pub present : All (λ h. h.number < t.objects) t.held
  pub distinct : AreDistinct t.held
  pub made : All (λ h. Made h.object h.acts) t.held
