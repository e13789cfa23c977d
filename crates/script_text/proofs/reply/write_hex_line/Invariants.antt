-- What isn't sent of the line is the draft, the bytes that are left, and the line feed.
use Rattle.std.proofs.Common.{◌≡◌, [], ◌∷◌, ◌++◌, length}
use Rattle.hex.specs.Hex.{encode_lower}
use Rattle.script_text.specs.Sent.{Sent}
use Rattle.script_text.proofs.reply.write_hex_line.Given as goal

abbrev pub invariant-loop-rest : goal.invariant-loop-rest
invariant-loop-rest g l = record {
  sent : Sent (l.initial.draft ++ (encode_lower l.bytes ++ 10 ∷ [])) (l.draft ++ (encode_lower l.rest ++ 10 ∷ []))
      (g.O.Sink.written l.initial.sink) (g.O.Sink.written l.sink);
  still : g.O.Sink.faults l.sink ≡ g.O.Sink.faults l.initial.sink;
}

abbrev pub decreases-loop-rest : goal.decreases-loop-rest
decreases-loop-rest g l = length l.rest
