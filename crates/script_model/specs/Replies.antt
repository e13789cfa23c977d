-- The lines that replies are written as.
use Rattle.std.specs.Prelude.{ℕ, List, [], ◌∷◌, ◌++◌, codes}
use Rattle.std.specs.Fmt.{decimal}
use Rattle.hex.specs.Hex.{encode_lower}
use Rattle.eos_ops.specs.declared.reply.Reply.{Reply}
use Rattle.eos_ops.specs.declared.reply.Reply.TheVariants as reply

-- the words of a reply
abbrev pub reply_words : Reply → List ℕ
reply_words reply.Ok = codes "ok"
reply_words (reply.Length n) = codes "length " ++ decimal n
reply_words (reply.Bytes bytes) = codes "bytes x" ++ encode_lower bytes
reply_words (reply.Range n) = codes "range " ++ decimal n
reply_words reply.Exists = codes "exists"
reply_words reply.Missing = codes "missing"
reply_words reply.Busy = codes "busy"
reply_words reply.Full = codes "full"
reply_words reply.NoObject = codes "noobject"
reply_words (reply.NoSpace n) = codes "nospace " ++ decimal n
reply_words reply.Fault = codes "fault"
reply_words reply.Memory = codes "memory"
reply_words reply.Idle = codes "idle"
reply_words reply.Active = codes "active"
reply_words reply.TooLong = codes "toolong"
reply_words reply.Worn = codes "worn"
reply_words (reply.Status free locked held) =
    codes "status " ++ (decimal free ++ (codes " "
    ++ (decimal locked ++ (codes " " ++ decimal held))))
reply_words reply.Again = codes "again"

-- the line of a reply to a session: its number, a blank, the words, and a line feed
abbrev pub reply_line : ℕ → Reply → List ℕ
reply_line session r = decimal session ++ (codes " " ++ (reply_words r ++ 10 ∷ []))

-- the answer to a line that is none
abbrev pub no_line_reply : List ℕ
no_line_reply = 63 ∷ 10 ∷ []
