-- A reply by its test.
use Rattle.std.proofs.Common.{◌≡◌, true, refl}
use Rattle.eos_ops.specs.declared.reply.Reply.{Reply}
use Rattle.eos_ops.specs.declared.reply.Reply.TheVariants as reply
use Rattle.moment_model.specs.Run.{is_ok_reply}

-- no reply but `ok` is an ok
pub ok_is : (r : Reply) → is_ok_reply r ≡ true → r ≡ reply.Ok
ok_is reply.Ok ok = refl
ok_is (reply.Length n) ok = cc
ok_is (reply.Bytes x) ok = cc
ok_is (reply.Range n) ok = cc
ok_is reply.Exists ok = cc
ok_is reply.Missing ok = cc
ok_is (reply.NoSpace n) ok = cc
ok_is reply.Fault ok = cc
ok_is reply.Busy ok = cc
ok_is reply.Full ok = cc
ok_is reply.NoObject ok = cc
ok_is reply.Memory ok = cc
ok_is reply.Idle ok = cc
ok_is reply.Active ok = cc
ok_is reply.TooLong ok = cc
ok_is reply.Worn ok = cc
ok_is (reply.Status f l h) ok = cc
ok_is reply.Again ok = cc
