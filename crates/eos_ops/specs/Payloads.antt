-- The bytes of a payload.
use Rattle.std.specs.Prelude.{ℕ, ◌+◌, ◌*◌, ◌/◌, ◌%◌, List, map, Bool, false, nat_lt}
use Rattle.std.specs.List.{range_with_len}
use Rattle.eos_ops.specs.declared.limits.TheConstants.{MAX_TRANSFER}
use Rattle.eos_ops.specs.declared.payload.Payload.{Payload}
use Rattle.eos_ops.specs.declared.payload.Payload.TheVariants.{Given, Made}

-- byte i of a made payload
abbrev pub made_byte : ℕ → ℕ → ℕ
made_byte start i = (start + 7 * i + i / 251) % 256

-- n made bytes
abbrev pub made_bytes : ℕ → ℕ → List ℕ
made_bytes start n = map (made_byte start) (range_with_len 0 n)

-- the bytes that a payload stands for
abbrev pub payload_bytes : Payload → List ℕ
payload_bytes (Given bytes) = bytes
payload_bytes (Made n start) = made_bytes start n

-- only a made payload can be too long: the limit on a line bounds a given one
abbrev pub is_long_payload : Payload → Bool
is_long_payload (Given bytes) = false
is_long_payload (Made n start) = nat_lt MAX_TRANSFER n
