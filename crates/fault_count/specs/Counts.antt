-- Counts that show what a call did outside: how a fault is shown by them, and how many pages a
-- port moved.
use Rattle.std.specs.Prelude.{◌≡◌, ℕ, ◌+◌, ◌-◌, ◌^◌, ◌≤◌, max, min}

-- the last value of a count that is kept in 64 bits: there it stays
abbrev pub last_count : ℕ
last_count = 2 ^ 64 - 1

-- a count after n more
abbrev pub counted : ℕ → ℕ → ℕ
counted count n = min (count + n) last_count

-- the count rose, or stands at its last value
abbrev pub Rose : ℕ → ℕ → Type 0
Rose before now = counted before 1 ≤ now

-- the count never falls; there was a failure only where it rose or stands at its last value; and
-- without a failure it is as before
pub record HasCause (before now : ℕ) (failure : Type 0) : Type 0 where
  pub kept : before ≤ now
  pub raised : failure → Rose before now
  pub still : (failure → ⊥) → now ≡ before

-- a port's page size, and its counts of failed calls, of pages read and of pages written
pub record Meter : Type 0 where
  pub page : ℕ
  pub faults : ℕ
  pub read : ℕ
  pub written : ℕ

-- a port was used: its page size stays, and no count falls
pub record IsUsed (old new : Meter) : Type 0 where
  pub page : new.page ≡ old.page
  pub faults : old.faults ≤ new.faults
  pub read : old.read ≤ new.read
  pub written : old.written ≤ new.written

-- a port was used: at most n pages were read, and none was written. The larger of the two counts
-- stands here for a call of no page, which leaves the count as it is: a count that fits in 64 bits,
-- as each port's does, is never above its value after n more
pub record Reads (n : ℕ) (old new : Meter) : Type 0 where
  pub used : IsUsed old new
  pub written : new.written ≡ old.written
  pub most : new.read ≤ max old.read (counted old.read n)

-- a port was used: at most n pages were written, and none was read
pub record Writes (n : ℕ) (old new : Meter) : Type 0 where
  pub used : IsUsed old new
  pub read : new.read ≡ old.read
  pub most : new.written ≤ max old.written (counted old.written n)

-- a new port of a page size
abbrev pub new_meter : ℕ → Meter
new_meter page = record { page = page; faults = 0; read = 0; written = 0 }

-- after a call that reads n pages, with this many faults
abbrev pub after_read : Meter → ℕ → ℕ → Meter
after_read old n faults = record old { faults = faults; read = counted old.read n }

-- after a call that writes n pages
abbrev pub after_write : Meter → ℕ → ℕ → Meter
after_write old n faults = record old { faults = faults; written = counted old.written n }
