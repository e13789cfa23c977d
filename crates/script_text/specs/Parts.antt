-- The words of a reply in three parts: a fixed text, numbers, and bytes.
use Rattle.std.specs.Prelude.{ℕ, List, [], ◌++◌, codes, decimal}
use Rattle.eos_ops.specs.declared.reply.Reply.{Reply}
use Rattle.eos_ops.specs.declared.reply.Reply.TheVariants as reply

abbrev pub fixed_text : Reply → List ℕ
fixed_text reply.Ok = codes "ok"
fixed_text (reply.Length n) = codes "length "
fixed_text (reply.Bytes bytes) = codes "bytes x"
fixed_text (reply.Range n) = codes "range "
fixed_text reply.Exists = codes "exists"
fixed_text reply.Missing = codes "missing"
fixed_text reply.Busy = codes "busy"
fixed_text reply.Full = codes "full"
fixed_text reply.NoObject = codes "noobject"
fixed_text (reply.NoSpace n) = codes "nospace "
fixed_text reply.Fault = codes "fault"
fixed_text reply.Memory = codes "memory"
fixed_text reply.Idle = codes "idle"
fixed_text reply.Active = codes "active"
fixed_text reply.TooLong = codes "toolong"
fixed_text reply.Worn = codes "worn"
fixed_text (reply.Status free locked held) = codes "status "
fixed_text reply.Again = codes "again"

abbrev pub number_text : Reply → List ℕ
number_text (reply.Length n) = decimal n
number_text (reply.Range n) = decimal n
number_text (reply.NoSpace n) = decimal n
number_text (reply.Status free locked held) =
    decimal free ++ (codes " " ++ (decimal locked ++ (codes " " ++ decimal held)))
number_text r = []

abbrev pub reply_bytes : Reply → List ℕ
reply_bytes (reply.Bytes bytes) = bytes
reply_bytes r = []
