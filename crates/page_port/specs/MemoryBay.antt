-- What a bay over memory keeps: the bytes of the whole device, and which pages of the mount are
-- back.
use Rattle.std.specs.Prelude.{ℕ, ◌+◌, ◌-◌, ◌*◌, ◌^◌, ◌==◌, ◌&&◌, not, Bool, List, [], ◌∷◌, length}
use Rattle.std.specs.Prelude.{take, drop, map, min, Option, Some, None, if◌then◌else◌}
use Rattle.std.specs.List.{filter, list_any, list_all}
use Rattle.page_port.specs.declared.fail_at.FailAt.{FailAt}
use Rattle.fault_count.specs.Counts.{counted, new_meter}
use Rattle.page_port.specs.Device.{Device}
use Rattle.page_port.specs.Memory.{Channel}

-- the pages of a mount as a bay over memory keeps them: each in its place in `whole`, and a mark
-- where the page is back
abbrev pub slots : ℕ → List Bool → List ℕ → List (Option (List ℕ))
slots size [] whole = []
slots size (is_back ∷ back) whole =
    (if is_back then Some (take size whole) else None) ∷ slots size back (drop size whole)

-- every page is back
abbrev pub all_back : List Bool → Bool
all_back back = list_all (λ is_back. is_back) back

-- the bytes that the bay tells: all, or those behind the pages while one of them is out
abbrev pub told_bytes : ℕ → List Bool → List ℕ → List ℕ
told_bytes size back whole = if all_back back then whole else drop (size * length back) whole

-- a bay over memory: the device, its own calls, those that fail, and how many ports it made
pub record MemDevice : Type 0 where
  pub device : Device
  pub calls : ℕ
  pub ports : ℕ
  pub failing : List FailAt

-- the number of the next port: they are counted from 1 in the order made, up to the last value of
-- a u32
abbrev pub next_port : MemDevice → ℕ
next_port bay = min (bay.ports + 1) (2 ^ 32 - 1)

-- this entry names a read of a port, or a write
abbrev pub names_read : ℕ → FailAt → Bool
names_read port at = at.port == port && not at.write

abbrev pub names_write : ℕ → FailAt → Bool
names_write port at = at.port == port && at.write

-- the numbers of the calls that these entries name
abbrev pub calls_of : (FailAt → Bool) → List FailAt → List ℕ
calls_of names failing = map (λ at. at.call) (filter names failing)

-- a new port: its reads and its writes that fail are those that the bay's entries name by its
-- number
abbrev pub new_channel : ℕ → ℕ → List FailAt → Channel
new_channel page number failing = record {
  meter = new_meter page;
  reads = record { made = 0; failing = calls_of (names_read number) failing };
  writes = record { made = 0; failing = calls_of (names_write number) failing };
}

-- this entry names the bay's own call after `calls` others
abbrev pub names_call : ℕ → FailAt → Bool
names_call calls at = at.port == 0 && (not at.write && at.call == counted calls 1)

-- does the bay's next call fail?
abbrev pub next_bay_fails : MemDevice → Bool
next_bay_fails bay = list_any (names_call bay.calls) bay.failing

-- the bay made one of its own calls that can fail: besides the device, that call is counted
abbrev pub after_call : MemDevice → Device → MemDevice
after_call bay device = record bay { device = device; calls = counted bay.calls 1 }
