-- The counts of a port after several calls that read, or that write.
use Rattle.std.proofs.Common.{◌≡◌, ℕ, ◌+◌, ◌<◌, ◌≤◌, refl, ap, ◌∙◌, inl, inr, arith}
use Rattle.std.proofs.lemmas.Bool.{cases_lt}
use Rattle.fault_count.specs.Counts.{Meter, Reads, Writes, counted, after_read, after_write}

-- so many pages were read so far
pub record HasRead (n : ℕ) (old now : Meter) : Type 0 where
  pub page : now.page ≡ old.page
  pub none : n ≡ 0 → now ≡ old
  pub some : 0 < n → now ≡ after_read old n now.faults
  pub faults : old.faults ≤ now.faults
  pub read : old.read ≤ now.read

pub HasRead-none : (m : Meter) → HasRead 0 m m
HasRead-none m = record { page = refl; none = λ e. refl; some = λ h. absurd (omega arith); faults = omega arith; read = omega arith }

-- one call more
pub HasRead-more : (a b : ℕ) (old mid new : Meter) → HasRead a old mid → 0 < b → new ≡ after_read mid b new.faults → mid.read ≤ new.read →
    mid.faults ≤ new.faults → HasRead (a + b) old new
HasRead-more a b old mid new so_far more e read faults =
    let page : new.page ≡ mid.page = ap (λ (m : Meter). m.page) e in
    let faults_before = so_far.faults in
    let read_before = so_far.read in
    record {
      page = page ∙ so_far.page;
      none = λ n. absurd (omega arith);
      some = λ h. e ∙ elim (cases_lt 0 a) [
        | inl some ↦ ap (λ (m : Meter). after_read m b new.faults) (so_far.some some)
            ∙ ap (λ (k : ℕ). record old { faults = new.faults; read = k })
            (let s : counted (counted old.read a) b ≡ counted old.read (a + b) = omega arith in s)
        | inr none ↦ ap (λ (m : Meter). after_read m b new.faults) (so_far.none (omega arith))
            ∙ ap (λ (k : ℕ). after_read old k new.faults) (let s : b ≡ a + b = omega arith in s)
      ];
      faults = omega arith;
      read = omega arith;
    }

pub HasRead-most : (a n : ℕ) (old new : Meter) → HasRead a old new → 0 < a → a ≤ n → Reads n old new
HasRead-most a n old new so_far some less =
    let e = so_far.some some in
    let read : new.read ≡ counted old.read a = ap (λ (m : Meter). m.read) e in
    let written : new.written ≡ old.written = ap (λ (m : Meter). m.written) e in
    record {
      used = record { page = so_far.page; faults = so_far.faults; read = so_far.read; written = omega (arith, written) };
      written = written;
      most = omega arith;
    }

-- so many pages were written so far
pub record HasWritten (n : ℕ) (old now : Meter) : Type 0 where
  pub page : now.page ≡ old.page
  pub none : n ≡ 0 → now ≡ old
  pub some : 0 < n → now ≡ after_write old n now.faults
  pub faults : old.faults ≤ now.faults
  pub written : old.written ≤ now.written

pub HasWritten-none : (m : Meter) → HasWritten 0 m m
HasWritten-none m = record { page = refl; none = λ e. refl; some = λ h. absurd (omega arith); faults = omega arith; written = omega arith }

pub HasWritten-more : (a b : ℕ) (old mid new : Meter) → HasWritten a old mid → 0 < b → new ≡ after_write mid b new.faults →
    mid.written ≤ new.written → mid.faults ≤ new.faults → HasWritten (a + b) old new
HasWritten-more a b old mid new so_far more e written faults =
    let page : new.page ≡ mid.page = ap (λ (m : Meter). m.page) e in
    let faults_before = so_far.faults in
    let written_before = so_far.written in
    record {
      page = page ∙ so_far.page;
      none = λ n. absurd (omega arith);
      some = λ h. e ∙ elim (cases_lt 0 a) [
        | inl some ↦ ap (λ (m : Meter). after_write m b new.faults) (so_far.some some)
            ∙ ap (λ (k : ℕ). record old { faults = new.faults; written = k })
            (let s : counted (counted old.written a) b ≡ counted old.written (a + b) = omega arith in s)
        | inr none ↦ ap (λ (m : Meter). after_write m b new.faults) (so_far.none (omega arith))
            ∙ ap (λ (k : ℕ). after_write old k new.faults) (let s : b ≡ a + b = omega arith in s)
      ];
      faults = omega arith;
      written = omega arith;
    }

pub HasWritten-most : (a n : ℕ) (old new : Meter) → HasWritten a old new → 0 < a → a ≤ n → Writes n old new
HasWritten-most a n old new so_far some less =
    let e = so_far.some some in
    let written : new.written ≡ counted old.written a = ap (λ (m : Meter). m.written) e in
    let read : new.read ≡ old.read = ap (λ (m : Meter). m.read) e in
    record {
      used = record { page = so_far.page; faults = so_far.faults; read = omega (arith, read); written = so_far.written };
      read = read;
      most = omega arith;
    }
