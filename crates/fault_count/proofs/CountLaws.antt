-- Counts after no call, after several calls, and under a larger bound.
use Rattle.std.proofs.Common.{◌≡◌, ℕ, ◌+◌, ◌≤◌, refl, ap, subst, ◌∙◌, arith}
use Rattle.fault_count.specs.Counts.{HasCause, IsUsed, Meter, Reads, Rose, Writes}

-- ---- causes

-- a call after others that left the count
pub HasCause-then : (G : Type 0) (old mid new : ℕ) → mid ≡ old → HasCause mid new G → HasCause old new G
HasCause-then G old mid new quiet last = subst (λ (n : ℕ). HasCause n new G) quiet last

-- the same failure by another name
pub HasCause-same : (F G : Type 0) (old new : ℕ) → HasCause old new F → (G → F) → (F → G) → HasCause old new G
HasCause-same F G old new cause back on =
    record { kept = cause.kept; raised = λ g. cause.raised (back g); still = λ none. cause.still (λ f. none (on f)) }

-- a failure that was found after calls that left the count
pub HasCause-found : (G : Type 0) (old mid new : ℕ) → mid ≡ old → mid ≤ new → Rose mid new → G → HasCause old new G
HasCause-found G old mid new quiet kept rose failed =
    record { kept = omega arith; raised = λ _. omega arith; still = λ none. absurd (none failed) }

-- ---- a port that is used

-- no call
pub IsUsed-none : (m : Meter) → IsUsed m m
IsUsed-none m = record { page = refl; faults = omega arith; read = omega arith; written = omega arith }

-- one after the other
pub IsUsed-then : (old mid new : Meter) → IsUsed old mid → IsUsed mid new → IsUsed old new
IsUsed-then old mid new first second =
    let faults = first.faults in
    let read = first.read in
    let written = first.written in
    let faults_next = second.faults in
    let read_next = second.read in
    let written_next = second.written in
    record { page = second.page ∙ first.page; faults = omega arith; read = omega arith; written = omega arith }

-- ---- pages read

pub Reads-none : (n : ℕ) (m : Meter) → Reads n m m
Reads-none n m = record { used = IsUsed-none m; written = refl; most = omega arith }

pub Reads-then : (a b n : ℕ) (old mid new : Meter) → Reads a old mid → Reads b mid new → a + b ≤ n → Reads n old new
Reads-then a b n old mid new first second within =
    let kept = first.used.read in
    let most = first.most in
    let most_next = second.most in
    record { used = IsUsed-then old mid new first.used second.used; written = second.written ∙ first.written; most = omega arith }

-- a larger bound holds too
pub Reads-more : (a n : ℕ) (old new : Meter) → Reads a old new → a ≤ n → Reads n old new
Reads-more a n old new reads within =
    let most = reads.most in
    record { used = reads.used; written = reads.written; most = omega arith }

-- where no page may be read, the count stays
pub Reads-nothing : (old new : Meter) → Reads 0 old new → new.read ≡ old.read
Reads-nothing old new reads =
    let most = reads.most in
    let least = reads.used.read in
    omega arith

-- a fault that is counted reads nothing
pub Reads-blame : (faults : ℕ) (old new : Meter) → new ≡ record old { faults = faults } → old.faults ≤ new.faults → Reads 0 old new
Reads-blame faults old new e kept =
    let page : new.page ≡ old.page = ap (λ (m : Meter). m.page) e in
    let written : new.written ≡ old.written = ap (λ (m : Meter). m.written) e in
    let read : new.read ≡ old.read = ap (λ (m : Meter). m.read) e in
    record {
      used = record { page = page; faults = kept; read = omega arith; written = omega arith };
      written = written;
      most = omega arith;
    }

-- ---- pages written

pub Writes-none : (n : ℕ) (m : Meter) → Writes n m m
Writes-none n m = record { used = IsUsed-none m; read = refl; most = omega arith }

pub Writes-then : (a b n : ℕ) (old mid new : Meter) → Writes a old mid → Writes b mid new → a + b ≤ n → Writes n old new
Writes-then a b n old mid new first second within =
    let kept = first.used.written in
    let most = first.most in
    let most_next = second.most in
    record { used = IsUsed-then old mid new first.used second.used; read = second.read ∙ first.read; most = omega arith }

pub Writes-more : (a n : ℕ) (old new : Meter) → Writes a old new → a ≤ n → Writes n old new
Writes-more a n old new writes within =
    let most = writes.most in
    record { used = writes.used; read = writes.read; most = omega arith }
