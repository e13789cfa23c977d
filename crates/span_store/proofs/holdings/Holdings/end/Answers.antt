-- The pages that are held end where the last piece does.
use Rattle.std.proofs.Common.{◌≡◌, ◌+◌, ◌-◌, Some, List, length, sym, ap, ◌∙◌, arith}
use Rattle.std.specs.Prelude.{slice_get}
use Rattle.std.proofs.lemmas.Option.{slice_get_within}
use Rattle.span_store.specs.Held.{HeldSpan}
use Rattle.span_store.specs.Pieces.{spans_in}
use Rattle.span_store.proofs.Kept.{some_held}
use Rattle.span_store.proofs.Ends.{end_made, last_piece}
use Rattle.span_store.proofs.holdings.Holdings.end.Goals as goal

pub end-requires : goal.end-requires
end-requires g c =
    let ps = c.self.inside.pieces.items in
    let here : slice_get ps (length ps - 1) ≡ Some c.in-Some.piece.now =
    sym (c.in-Some.ensures.value ∙ ap (λ (xs : List (List HeldSpan)). slice_get xs (length xs - 1)) c.deref.ensures.value) in
    (last_piece ps c.in-Some.piece.now c.self.invariant.row.filled here).0

pub returns-in-Some : goal.returns-in-Some
returns-in-Some g c =
    let ps = c.self.inside.pieces.items in
    let here : slice_get ps (length ps - 1) ≡ Some c.in-Some.piece.now =
    sym (c.in-Some.ensures.value ∙ ap (λ (xs : List (List HeldSpan)). slice_get xs (length xs - 1)) c.deref.ensures.value) in
    let within = slice_get_within ps (length ps - 1) c.in-Some.piece.now here in
    let it = last_piece ps c.in-Some.piece.now c.self.invariant.row.filled here in
    end_made (spans_in ps) c.args.self.now (length (spans_in ps) + c.self.inside.free) c.end.result c.self.view_is
    c.self.invariant.order (some_held ps c.self.invariant.row.filled (omega (arith, within))) (c.end.ensures ∙ it.1)
