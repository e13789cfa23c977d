-- How the words of a line are read. That this reads just what the grammar spells is proved, so a
-- reader of the contracts needs the grammar alone.
use Rattle.std.specs.Prelude.{ℕ, ◌^◌, ◌%◌, ◌==◌, ◌&&◌, nat_lt, nat_le, Bool, false, List, [], ◌∷◌}
use Rattle.std.specs.Prelude.{drop, take, length, codes, position, Option, Some, None}
use Rattle.std.specs.Prelude.{if◌then◌else◌}
use Rattle.std.specs.List.{list_all}
use Rattle.std.specs.Option.{option_and_then, option_map, option_map_or}
use Rattle.std.specs.Prelude.{slice_index}
use Rattle.std.specs.Result.{result_ok}
use Rattle.std.specs.Str.{bytes_eq}
use Rattle.hex.specs.Hex.{decode_of, hex_digit_value, lower_digits}
use Rattle.eos_ops.specs.declared.command.Command.{Command}
use Rattle.eos_ops.specs.declared.command.Command.TheVariants as command
use Rattle.eos_ops.specs.declared.payload.Payload.{Payload}
use Rattle.eos_ops.specs.declared.payload.Payload.TheVariants.{Given, Made}
use Rattle.script_model.specs.declared.limits.TheConstants.{MAX_THRESHOLD}
use Rattle.script_text.specs.declared.verb.Verb.{Verb}
use Rattle.script_text.specs.declared.verb.Verb.TheVariants.{Begin, Create, Destroy, Length, Read}
use Rattle.script_text.specs.declared.verb.Verb.TheVariants.{Append, Insert, Delete, Replace}
use Rattle.script_text.specs.declared.verb.Verb.TheVariants.{Commit, Abort, Status}
use Rattle.script_text.specs.Words.{first_number, if_last, number_of}

-- the one number that is left
abbrev pub one_number : List (List ℕ) → Option ℕ
one_number ws = option_and_then (if_last (drop 1 ws)) (first_number ws)

-- the three numbers that are left
abbrev pub three_numbers : List (List ℕ) → Option (ℕ × ℕ × ℕ)
three_numbers ws =
    option_and_then (λ o. option_and_then (λ at. option_map (λ n. (o, at, n))
    (one_number (drop 1 (drop 1 ws))))
    (first_number (drop 1 ws))) (first_number ws)

-- a digit that stands for its value in lower-case text
abbrev pub is_lower_digit : ℕ → Bool
is_lower_digit c = option_map_or (λ value. slice_index lower_digits value == c)
    (hex_digit_value c) false

-- the bytes that a text of lower-case digits, two a byte, spells
abbrev pub given_of : List ℕ → Option (List ℕ)
given_of digits = if (length digits % 2 == 0) && list_all is_lower_digit digits then result_ok
    (decode_of digits) else None

abbrev pub is_dot : ℕ → Bool
is_dot byte = byte == 46

-- a made payload: so many bytes, a dot, and a start below 2^32
abbrev pub made_of : List ℕ → Option Payload
made_of text =
    option_and_then (λ at. option_and_then
    (λ n. option_and_then (λ start. if nat_lt start (2 ^ 32) then Some (Made n start) else
    None)
    (number_of (drop 1 (drop at text)))) (number_of (take at text))) (position is_dot text)

-- the payload that a word is
abbrev pub payload_of : List ℕ → Option Payload
payload_of [] = None
payload_of (mark ∷ rest) =
    if mark == 120 then option_map Given (given_of rest)
    else if mark == 114 then made_of rest
    else None

-- the payload that the one word left is
abbrev pub one_payload : List (List ℕ) → Option Payload
one_payload (word ∷ []) = payload_of word
one_payload ws = None

-- the verb that a word is
unfoldable pub verb_of : List ℕ → Option Verb
verb_of word =
    if bytes_eq word (codes "begin") then Some Begin
    else if bytes_eq word (codes "create") then Some Create
    else if bytes_eq word (codes "destroy") then Some Destroy
    else if bytes_eq word (codes "length") then Some Length
    else if bytes_eq word (codes "read") then Some Read
    else if bytes_eq word (codes "append") then Some Append
    else if bytes_eq word (codes "insert") then Some Insert
    else if bytes_eq word (codes "delete") then Some Delete
    else if bytes_eq word (codes "replace") then Some Replace
    else if bytes_eq word (codes "commit") then Some Commit
    else if bytes_eq word (codes "abort") then Some Abort
    else if bytes_eq word (codes "status") then Some Status
    else None

-- an object that is made, with the words after it
abbrev pub created : ℕ → List (List ℕ) → Option Command
created o [] = Some (command.Create o None)
created o (w ∷ ws) =
    option_and_then (λ t. if nat_le 1 t && nat_le t MAX_THRESHOLD then Some
    (command.Create o (Some t)) else None) (one_number (w ∷ ws))

-- an object, a place and a payload
abbrev pub placed_payload : List (List ℕ) → Option (ℕ × ℕ × Payload)
placed_payload ws =
    option_and_then (λ o. option_and_then (λ at. option_map (λ p. (o, at, p))
    (one_payload (drop 1 (drop 1 ws))))
    (first_number (drop 1 ws))) (first_number ws)

-- the command of a verb and the words after it
unfoldable pub command_in : Verb → List (List ℕ) → Option Command
command_in Begin ws = if_last ws command.Begin
command_in Create ws = option_and_then (λ o. created o (drop 1 ws)) (first_number ws)
command_in Destroy ws = option_map command.Destroy (one_number ws)
command_in Length ws = option_map command.Length (one_number ws)
command_in Read ws = option_map (λ p. command.Read p.0 p.1 p.2) (three_numbers ws)
command_in Append ws = option_and_then (λ o. option_map (command.Append o)
    (one_payload (drop 1 ws))) (first_number ws)
command_in Insert ws = option_map (λ p. command.Insert p.0 p.1 p.2) (placed_payload ws)
command_in Delete ws = option_map (λ p. command.Delete p.0 p.1 p.2) (three_numbers ws)
command_in Replace ws = option_map (λ p. command.Replace p.0 p.1 p.2) (placed_payload ws)
command_in Commit ws = if_last ws command.Commit
command_in Abort ws = if_last ws command.Abort
command_in Status ws = if_last ws command.Status

-- the command that words are
unfoldable pub command_of : List (List ℕ) → Option Command
command_of [] = None
command_of (verb ∷ ws) = option_and_then (λ v. command_in v ws) (verb_of verb)
