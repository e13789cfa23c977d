-- The parts of the line, put together.
use Rattle.std.proofs.Common.{◌≡◌, [], ◌∷◌, ◌++◌}
use Rattle.hex.specs.Hex.{encode_lower}
use Rattle.script_model.specs.Replies.{reply_line}
use Rattle.script_text.proofs.SentLemmas.{line-parts}
use Rattle.script_text.proofs.reply.write_reply_with.Goals as goal

pub returns-clause-all : goal.returns-clause-all
returns-clause-all g c =
    let line : c.push_numbers.new.draft ++ (encode_lower c.bytes_of.result.now ++ 10 ∷ []) ≡ reply_line c.args.session c.args.reply.now =
    rw (
      c.push_numbers.ensures,
      c.push-2.ensures.text,
      c.text_of.ensures.text,
      c.push.ensures.text,
      c.push_number.ensures.text,
      c.clear.ensures,
      c.from.ensures,
      c.bytes_of.ensures,
    )
    (line-parts c.args.session c.args.reply.now) in
    rw (← line) c.write_hex_line.ensures.all

pub returns-clause-part : goal.returns-clause-part
returns-clause-part g c =
    let line : c.push_numbers.new.draft ++ (encode_lower c.bytes_of.result.now ++ 10 ∷ []) ≡ reply_line c.args.session c.args.reply.now =
    rw (
      c.push_numbers.ensures,
      c.push-2.ensures.text,
      c.text_of.ensures.text,
      c.push.ensures.text,
      c.push_number.ensures.text,
      c.clear.ensures,
      c.from.ensures,
      c.bytes_of.ensures,
    )
    (line-parts c.args.session c.args.reply.now) in
    rw (← line) c.write_hex_line.ensures.part
