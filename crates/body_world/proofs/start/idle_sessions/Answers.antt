-- one session more
use Rattle.std.proofs.Common.{zero-add, ap, sym, ◌∙◌, map, ◌++◌, ◌∷◌, []}
use Rattle.std.specs.List.{range_with_len}
use Rattle.std.proofs.lemmas.List.FromFn.{map-range_with_len_more}
use Rattle.geometry_model.specs.Numbers.{objects}
use Rattle.body_world.specs.Start.{first_txn}
use Rattle.body_world.proofs.start.idle_sessions.Goals as goal

pub loop-place-preserved : goal.loop-place-preserved
loop-place-preserved g c =
    c.in_ok-push.ensures.items
    ∙ (ap (λ xs. xs ++ c.in_ok-new.field-0 ∷ []) c.loop-place.invariant
    ∙ (ap (λ t. map (first_txn (objects c.args.geometry.now)) (range_with_len 0 c.loop-place.place) ++ t ∷ []) c.in_ok-new.ensures
    ∙ sym (map-range_with_len_more (first_txn (objects c.args.geometry.now)) 0 c.loop-place.place c.loop-place.place
    (zero-add c.loop-place.place))))
