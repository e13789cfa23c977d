-- What the source and the sink over memory are: bytes, and the numbers of the calls that fail.
use Rattle.std.specs.Prelude.{◌≡◌, ℕ, ◌==◌, List, Bool, true, false, Result, Ok, Err}
use Rattle.std.specs.List.{list_any}
use Rattle.fault_count.specs.Counts.{counted}
use Rattle.edge_io.specs.declared.sink.SinkFail.{SinkFail}
use Rattle.edge_io.specs.declared.sink.SinkFail.TheVariants.{Fault, Memory}

-- the bytes left, the most that one call gives, and which of its calls fail
pub record Supply : Type 0 where
  pub left : List ℕ
  pub piece : ℕ
  pub failing : List ℕ
  pub calls : ℕ
  pub faults : ℕ

-- the bytes taken, and which of its calls fail
pub record Collected : Type 0 where
  pub taken : List ℕ
  pub failing : List ℕ
  pub calls : ℕ
  pub faults : ℕ

-- the call after `calls` others is one of those that fail
abbrev pub call_fails : List ℕ → ℕ → Bool
call_fails failing calls = list_any (λ number. number == counted calls 1) failing

-- one call: it failed just where its number is one of those that fail; it was counted, and these
-- numbers are as before
pub record IsCall (failed : Bool) (failing failing_now : List ℕ)
    (calls calls_now : ℕ) : Type 0 where
  pub fails : failed ≡ call_fails failing calls
  pub counts : calls_now ≡ counted calls 1
  pub same : failing_now ≡ failing

-- a sink's answer is that its call failed
abbrev pub is_fault : Result ℕ SinkFail → Bool
is_fault (Ok n) = false
is_fault (Err Fault) = true
is_fault (Err Memory) = false
