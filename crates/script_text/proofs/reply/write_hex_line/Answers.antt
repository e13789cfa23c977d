-- Each call of the sink takes the front of what isn't sent yet.
use Rattle.std.proofs.Common.{◌∙◌, [], ◌∷◌, ◌++◌}
use Rattle.std.proofs.lemmas.List.{append-nil}
use Rattle.base_laws.proofs.ResultLaws.{always_on_err, on_err, on_ok}
use Rattle.edge_io.specs.Moved.{Appends, AppendsPart}
use Rattle.hex.specs.Hex.{encode_lower}
use Rattle.script_text.specs.Sent.{Sent}
use Rattle.script_text.proofs.SentLemmas.{Sent-all, Sent-encoded, Sent-encoded_nil, Sent-more, Sent-part, is_empty-nil}
use Rattle.script_text.proofs.reply.write_hex_line.Goals as goal

pub returns-in_err-make_room-clause-part : goal.returns-in_err-make_room-clause-part
returns-in_err-make_room-clause-part g c =
    always_on_err _ (Sent-part _ c.loop-rest.draft (encode_lower c.loop-rest.rest.now ++ 10
    ∷ []) _ _ _ c.loop-rest.invariant.sent c.in_err-make_room.ensures.part)

pub loop-rest-preserved : goal.loop-rest-preserved
loop-rest-preserved g c = record {
  sent =
      rw (c.push_hex.ensures.text, c.split_at.ensures.front, c.split_at.ensures.back)
      (Sent-encoded _ c.make_room.new.draft c.loop-rest.rest.now c.min-count.result _ _
      (Sent-more _ c.loop-rest.draft c.make_room.new.draft (encode_lower c.loop-rest.rest.now ++ 10
      ∷ []) _ _ _ c.loop-rest.invariant.sent c.in_ok-make_room.ensures.sent));
  still = c.in_ok-make_room.ensures.cause.still (λ same. cc same) ∙ c.loop-rest.invariant.still;
}

pub returns-in_err-make_room-2-clause-part : goal.returns-in_err-make_room-2-clause-part
returns-in_err-make_room-2-clause-part g c =
    always_on_err _ (Sent-part _ c.loop-rest.draft (encode_lower c.loop-rest.rest.now ++ 10
    ∷ []) _ _ _ c.loop-rest.invariant.sent c.in_err-make_room-2.ensures.part)

pub returns-clause-all : goal.returns-clause-all
returns-clause-all g c =
    let nil = is_empty-nil c.loop-rest.rest.now c.is_empty.result c.is_empty.ensures c.loop-rest-test.false in
    let left = Sent-encoded_nil (c.args.draft.now
    ++ (encode_lower c.args.bytes.now ++ 10
    ∷ [])) c.loop-rest.draft c.loop-rest.rest.now (g.O.Sink.written c.args.sink.now)
    (g.O.Sink.written c.loop-rest.sink) nil c.loop-rest.invariant.sent in
    let last = Sent-more (c.args.draft.now ++ (encode_lower c.args.bytes.now ++ 10
    ∷ [])) c.loop-rest.draft c.make_room-2.new.draft (10 ∷ []) (g.O.Sink.written c.args.sink.now)
    (g.O.Sink.written c.loop-rest.sink) (g.O.Sink.written c.make_room-2.new.sink) left
    c.in_ok-make_room-2.ensures.sent in
    let whole : Sent (c.args.draft.now ++ (encode_lower c.args.bytes.now ++ 10
    ∷ [])) c.as_slice.result.now (g.O.Sink.written c.args.sink.now) (g.O.Sink.written c.make_room-2.new.sink) =
    rw (c.as_slice.ensures, c.push.ensures.text) last in
    on_ok c.write_all.result (λ (a : Appends c.as_slice.result.now (g.O.Sink.written c.make_room-2.new.sink)
    (g.O.Sink.written c.write_all.new.sink)).
    Sent-all _ c.as_slice.result.now _ _ _ whole a) c.write_all.ensures.all

pub returns-clause-part : goal.returns-clause-part
returns-clause-part g c =
    let nil = is_empty-nil c.loop-rest.rest.now c.is_empty.result c.is_empty.ensures c.loop-rest-test.false in
    let left = Sent-encoded_nil (c.args.draft.now
    ++ (encode_lower c.args.bytes.now ++ 10
    ∷ [])) c.loop-rest.draft c.loop-rest.rest.now (g.O.Sink.written c.args.sink.now)
    (g.O.Sink.written c.loop-rest.sink) nil c.loop-rest.invariant.sent in
    let last = Sent-more (c.args.draft.now ++ (encode_lower c.args.bytes.now ++ 10
    ∷ [])) c.loop-rest.draft c.make_room-2.new.draft (10 ∷ []) (g.O.Sink.written c.args.sink.now)
    (g.O.Sink.written c.loop-rest.sink) (g.O.Sink.written c.make_room-2.new.sink) left
    c.in_ok-make_room-2.ensures.sent in
    let whole : Sent (c.args.draft.now ++ (encode_lower c.args.bytes.now ++ 10 ∷ [])) (c.as_slice.result.now ++ [])
    (g.O.Sink.written c.args.sink.now) (g.O.Sink.written c.make_room-2.new.sink) =
    rw (append-nil c.as_slice.result.now, c.as_slice.ensures, c.push.ensures.text) last in
    on_err c.write_all.result (λ (a : AppendsPart c.as_slice.result.now (g.O.Sink.written c.make_room-2.new.sink)
    (g.O.Sink.written c.write_all.new.sink)).
    Sent-part _ c.as_slice.result.now [] _ _ _ whole a) c.write_all.ensures.part
