-- Tests of pages, as whether a page is in a set: what holds on a run, what is put in or taken out,
-- and how many pages pass.
use Rattle.std.specs.Prelude.{◌≡◌, ℕ, zero, suc, ◌+◌, ◌^◌, ◌<◌, ◌≤◌, ◌⊎◌, Bool, false, IsTrue}
use Rattle.std.specs.Prelude.{if◌then◌else◌}

-- how many of the n pages from `first` on pass the test
unfoldable pub count_on : (ℕ → Bool) → ℕ → ℕ → ℕ
count_on test first zero = 0
count_on test first (suc n) = (if test first then 1 else 0) + count_on test (suc first) n

-- how many pages pass the test, of those that a page number can name
abbrev pub count_all : (ℕ → Bool) → ℕ
count_all test = count_on test 0 (2 ^ 32)

-- each of the n pages from `first` on passes the test
abbrev pub AllOn : (ℕ → Bool) → ℕ → ℕ → Type 0
AllOn test first n = (page : ℕ) → first ≤ page → page < first + n → IsTrue (test page)

-- none of the n pages from `first` on passes the test
abbrev pub NoneOn : (ℕ → Bool) → ℕ → ℕ → Type 0
NoneOn test first n = (page : ℕ) → first ≤ page → page < first + n → test page ≡ false

-- both tests say the same of each page
abbrev pub AreSame : (ℕ → Bool) → (ℕ → Bool) → Type 0
AreSame old new = (page : ℕ) → new page ≡ old page

-- both tests say the same of each page outside the n from `first` on
abbrev pub AreSameBeside : ℕ → ℕ → (ℕ → Bool) → (ℕ → Bool) → Type 0
AreSameBeside first n old new =
    (page : ℕ) → (page < first) ⊎ (first + n ≤ page) → new page ≡ old page

-- what passes the old test passes the new one
abbrev pub Keeps : (ℕ → Bool) → (ℕ → Bool) → Type 0
Keeps old new = (page : ℕ) → IsTrue (old page) → IsTrue (new page)

-- the set has the n pages from `first` on, and else what it had
pub record IsWithRun (first n : ℕ) (old new : ℕ → Bool) : Type 0 where
  pub inside : AllOn new first n
  pub beside : AreSameBeside first n old new

-- the set has none of the n pages from `first` on, and else what it had
pub record IsWithoutRun (first n : ℕ) (old new : ℕ → Bool) : Type 0 where
  pub inside : NoneOn new first n
  pub beside : AreSameBeside first n old new

-- the lowest pages of the set, as far as they stand side by side: the n pages from `first` on are
-- in it, and neither a lower page nor the one behind them is
pub record IsFirstRun (has : ℕ → Bool) (first n : ℕ) : Type 0 where
  pub some : 1 ≤ n
  pub all : AllOn has first n
  pub lowest : (page : ℕ) → page < first → has page ≡ false
  pub ends : has (first + n) ≡ false
