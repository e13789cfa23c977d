-- What a transaction answers on a held object, as a reply.
use Rattle.std.specs.Prelude.{ℕ, List, Ok, Err, Result}
use Rattle.std.specs.Option.{option_map_or}
use Rattle.eos_ops.specs.declared.plain.Plain.{Plain}
use Rattle.eos_ops.specs.declared.plain.Plain.TheVariants.{Absent}
use Rattle.eos_ops.specs.declared.reply.Reply.{Reply}
use Rattle.eos_ops.specs.declared.reply.Reply.TheVariants as reply
use Rattle.shadow_txn.specs.declared.fails.TxnFail.{TxnFail}
use Rattle.shadow_txn.specs.declared.fails.TxnFail.TheVariants.{Exists, Missing, Range, Fault}
use Rattle.shadow_txn.specs.declared.fails.TxnFail.TheVariants.{NoSpace, Memory}
use Rattle.shadow_txn.specs.declared.held.Held.{Held}
use Rattle.shadow_txn.specs.declared.plain_object.PlainObject.{PlainObject}
use Rattle.shadow_txn.specs.Held.{held_object}
use Rattle.shadow_txn.specs.Objects.{working_of}

-- the working version of a held object
abbrev pub working_in : {H : Type 0} → ℕ → List (Held (PlainObject H)) → Plain
working_in o held = option_map_or working_of (held_object o held) Absent

abbrev pub fail_reply : TxnFail → Reply
fail_reply Exists = reply.Exists
fail_reply Missing = reply.Missing
fail_reply (Range n) = reply.Range n
fail_reply Fault = reply.Fault
fail_reply (NoSpace n) = reply.NoSpace n
fail_reply Memory = reply.Memory

abbrev pub bytes_reply : Result (List ℕ) TxnFail → Reply
bytes_reply (Ok bytes) = reply.Bytes bytes
bytes_reply (Err fail) = fail_reply fail

abbrev pub length_reply : Result ℕ TxnFail → Reply
length_reply (Ok n) = reply.Length n
length_reply (Err fail) = fail_reply fail

abbrev pub edit_reply : {U : Type 0} → Result U TxnFail → Reply
edit_reply (Ok done) = reply.Ok
edit_reply (Err fail) = fail_reply fail
