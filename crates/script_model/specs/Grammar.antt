-- The language of scripts, by what each line of it looks like.
use Rattle.std.specs.Prelude.{◌≡◌, ℕ, ◌<◌, ◌≤◌, ◌^◌, List, [], ◌∷◌, ◌++◌, codes, Option, Some, None}
use Rattle.std.specs.Fmt.{decimal}
use Rattle.std.specs.List.{join_with_byte}
use Rattle.hex.specs.Hex.{IsBytes, encode_lower}
use Rattle.eos_ops.specs.declared.command.Command.{Command}
use Rattle.eos_ops.specs.declared.command.Command.TheVariants.{Begin, Create, Destroy, Length}
use Rattle.eos_ops.specs.declared.command.Command.TheVariants.{Read, Append, Insert, Delete}
use Rattle.eos_ops.specs.declared.command.Command.TheVariants.{Replace, Commit, Abort, Status}
use Rattle.eos_ops.specs.declared.limits.TheConstants.{SESSIONS}
use Rattle.eos_ops.specs.declared.payload.Payload.{Payload}
use Rattle.eos_ops.specs.declared.payload.Payload.TheVariants.{Given, Made}
use Rattle.script_model.specs.declared.limits.TheConstants.{MAX_THRESHOLD}
use Rattle.script_model.specs.declared.line.Line.{Line}

-- a given payload is `x` and two lower-case digits a byte; a made one is `r`, its length, a dot
-- and its start
abbrev pub payload_word : Payload → List ℕ
payload_word (Given bytes) = codes "x" ++ encode_lower bytes
payload_word (Made n start) = codes "r" ++ (decimal n ++ (codes "." ++ decimal start))

-- `create` names a threshold or none
abbrev pub threshold_words : Option ℕ → List (List ℕ)
threshold_words None = []
threshold_words (Some t) = decimal t ∷ []

-- the words of a command; numbers are decimal without leading zeros
abbrev pub words_of : Command → List (List ℕ)
words_of Begin = codes "begin" ∷ []
words_of (Create o t) = codes "create" ∷ decimal o ∷ threshold_words t
words_of (Destroy o) = codes "destroy" ∷ decimal o ∷ []
words_of (Length o) = codes "length" ∷ decimal o ∷ []
words_of (Read o at n) = codes "read" ∷ decimal o ∷ decimal at ∷ decimal n ∷ []
words_of (Append o p) = codes "append" ∷ decimal o ∷ payload_word p ∷ []
words_of (Insert o at p) = codes "insert" ∷ decimal o ∷ decimal at ∷ payload_word p ∷ []
words_of (Delete o at n) = codes "delete" ∷ decimal o ∷ decimal at ∷ decimal n ∷ []
words_of (Replace o at p) = codes "replace" ∷ decimal o ∷ decimal at ∷ payload_word p ∷ []
words_of Commit = codes "commit" ∷ []
words_of Abort = codes "abort" ∷ []
words_of Status = codes "status" ∷ []

-- the line, without its line feed: the session and the words of the command, with one blank
-- between each two
abbrev pub spelled : Line → List ℕ
spelled l = join_with_byte 32 (decimal l.session ∷ words_of l.command)

-- a given payload has bytes, and a made one's length and start are numbers of 64 and of 32 bits
abbrev pub PayloadFits : Payload → Type 0
PayloadFits (Given bytes) = IsBytes bytes
PayloadFits (Made n start) = (n < 2 ^ 64) × (start < 2 ^ 32)

-- a threshold that a `create` may name
abbrev pub ThresholdFits : Option ℕ → Type 0
ThresholdFits None = Unit {0}
ThresholdFits (Some t) = (1 ≤ t) × (t ≤ MAX_THRESHOLD)

-- the numbers of a command are in their ranges
abbrev pub CommandFits : Command → Type 0
CommandFits Begin = Unit {0}
CommandFits (Create o t) = (o < 2 ^ 64) × ThresholdFits t
CommandFits (Destroy o) = o < 2 ^ 64
CommandFits (Length o) = o < 2 ^ 64
CommandFits (Read o at n) = (o < 2 ^ 64) × (at < 2 ^ 64) × (n < 2 ^ 64)
CommandFits (Append o p) = (o < 2 ^ 64) × PayloadFits p
CommandFits (Insert o at p) = (o < 2 ^ 64) × (at < 2 ^ 64) × PayloadFits p
CommandFits (Delete o at n) = (o < 2 ^ 64) × (at < 2 ^ 64) × (n < 2 ^ 64)
CommandFits (Replace o at p) = (o < 2 ^ 64) × (at < 2 ^ 64) × PayloadFits p
CommandFits Commit = Unit {0}
CommandFits Abort = Unit {0}
CommandFits Status = Unit {0}

-- the text is this line: a session from 1 to 64, numbers in their ranges, spelled in the one way
pub record IsLine (text : List ℕ) (l : Line) : Type 0 where
  pub session_low : 1 ≤ l.session
  pub session_high : l.session ≤ SESSIONS
  pub command : CommandFits l.command
  pub spelling : text ≡ spelled l

-- the text is no line
abbrev pub IsNoLine : List ℕ → Type 0
IsNoLine text = (l : Line) → IsLine text l → ⊥
