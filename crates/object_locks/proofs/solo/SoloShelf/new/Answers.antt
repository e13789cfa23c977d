-- Nothing is left to move, so the slots hold all objects.
use Rattle.std.specs.Prelude.{IfSome}
use Rattle.std.proofs.Common.{◌≡◌, [], ◌++◌, Some, ap, map, reverse, length, arith, sym, ◌∙◌, append-nil}
use Rattle.std.proofs.lemmas.List.Elements.{All-map}
use Rattle.std.proofs.lemmas.List.{nil_from_length, length-map}
use Rattle.object_locks.proofs.solo.SoloShelf.new.Goals as goal

pub invariant_of-result : goal.invariant_of-result
invariant_of-result g c =
    let empty = c.in_default-pop.ensures.cases in
    let left : c.moves.room.items ≡ [] = nil_from_length c.moves.room.items (sym c.moves.room.ok.0 ∙ empty.0) in
    let back : c.pop.new.self.items ≡ [] = nil_from_length c.pop.new.self.items (sym c.pop.new.self.ok.0 ∙ empty.1) in
    let whole : c.moves.slots.items ≡ map Some c.args.objects.items =
    sym (append-nil c.moves.slots.items) ∙ ap (λ xs. c.moves.slots.items ++ map Some (reverse xs)) (sym left) ∙ c.moves.invariant.whole in
    let count : length c.moves.slots.items ≡ length c.args.objects.items = ap length whole ∙ length-map c.args.objects.items Some in
    let wide = c.args.objects.ok.0 in
    record {
      count = omega arith;
      at_rest = rw whole (All-map (λ slot. IfSome slot g.T.Aged.rests) Some c.args.objects.items c.requires.rests);
      emptied = back;
      room = omega (arith, c.pop.ensures.capacity);
    }
