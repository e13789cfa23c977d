-- What the device over memory is: pages in rows, and calls that are made to fail.
use Rattle.std.specs.Prelude.{ℕ, ◌==◌, Bool, List, Vec}
use Rattle.std.specs.List.{list_any}
use Rattle.std.specs.declared.alloc.Global.{Global}
use Rattle.fault_count.specs.Counts.{Meter, counted}

-- the bytes of one page
abbrev pub page_items : Vec ℕ Global → List ℕ
page_items page = page.items

-- pages in a row: the number of the first, and what each holds
pub record Row : Type 0 where
  pub first : ℕ
  pub pages : List (List ℕ)

-- how many calls were made, and the numbers, from 1, of those that fail
pub record Calls : Type 0 where
  pub made : ℕ
  pub failing : List ℕ

-- does the next call fail?
abbrev pub next_fails : Calls → Bool
next_fails calls = list_any (λ number. number == counted calls.made 1) calls.failing

-- a port over memory: its counts, and its calls
pub record Channel : Type 0 where
  pub meter : Meter
  pub reads : Calls
  pub writes : Calls
