-- Where the pages that are held in pieces end.
use Rattle.std.proofs.Common.{◌≡◌, ℕ, suc, ◌-◌, ◌<◌, ◌≤◌, List, [], ◌∷◌, ◌++◌, length, take}
use Rattle.std.proofs.Common.{drop, get_or, Some, refl, sym, ap, subst, ◌∙◌, inl, inr, arith}
use Rattle.std.specs.Prelude.{is_some, slice_get}
use Rattle.std.proofs.lemmas.Bool.{cases_lt, false≢true}
use Rattle.std.proofs.lemmas.List.{append-nil, drop_all, take_all}
use Rattle.std.proofs.lemmas.Option.{get_or_from_slice_get, slice_get_within}
use Rattle.span_store.specs.Held.{Held, HeldSpan, IsEnd}
use Rattle.span_store.specs.Order.{InOrder, no_span}
use Rattle.span_store.specs.Pieces.{AreWithinLimit, end_in, piece_at, spans_in}
use Rattle.span_store.proofs.SpanLists.{IsIn, back_of, end_of, last_end, last_end-append, page_in-beyond, page_in-inside, page_of-inside}
use Rattle.span_store.proofs.Lacks.{last_end-rank}
use Rattle.span_store.proofs.InPieces.{filled_at, spans_in-split}

-- where spans end, of which there are some
last_end-some : (a b : ℕ) (xs : List HeldSpan) → 1 ≤ length xs → last_end a xs ≡ last_end b xs
last_end-some a b [] some = absurd (omega arith)
last_end-some a b (x ∷ xs) some = refl

end_is : (p : List HeldSpan) → 1 ≤ length p → last_end 0 p ≡ end_in p
end_is p some =
    ap (last_end 0) (sym (take_all (length p) p (omega arith))) ∙ last_end-rank p (length p) (omega (arith, some)) (omega arith)

-- the pages end where the last span does
pub end_made : (rows : List HeldSpan) (w : Held) (n e : ℕ) → record { spans = rows; room = n } ≡ w → InOrder 0 rows → 1 ≤ length rows →
    e ≡ last_end 0 rows → IsEnd w e
end_made rows w n e view order some is =
    let last = length rows - 1 in
    let within : last < length rows = omega (arith, some) in
    let end : e ≡ end_of (get_or rows last no_span) = is ∙ end_is rows some in
    let pages = (back_of rows last within order).1 in
    let inside : IsIn rows last (e - 1) = record {
      within = within;
      from = omega (arith, end, pages);
      to = omega (arith, end, pages);
    } in
    subst (λ (h : Held). IsEnd h e) view (record {
      behind = λ q held. elim (cases_lt q e) [
        | inl less ↦ less
        | inr beyond ↦ absurd (false≢true (sym (ap is_some (page_in-beyond 0 rows q order (omega (arith, is, beyond)))) ∙ held))
      ];
      last = λ _. ap is_some
          (page_in-inside rows last (e - 1) order inside ∙ page_of-inside (get_or rows last no_span) (e - 1) inside.from inside.to);
    })

pub last_piece : (ps : List (List HeldSpan)) (p : List HeldSpan) → AreWithinLimit ps → slice_get ps (length ps - 1) ≡ Some p →
    (1 ≤ length p) × (end_in p ≡ last_end 0 (spans_in ps))
last_piece ps p filled last =
    let i = length ps - 1 in
    let within = slice_get_within ps i p last in
    let here : piece_at ps i ≡ p = get_or_from_slice_get ps i p [] last in
    let some = (filled_at ps i filled within).0 in
    let left = spans_in (take i ps) in
    let nothing : spans_in (drop (suc i) ps) ≡ [] = ap spans_in (drop_all (suc i) ps (omega (arith, within))) in
    let all : spans_in ps ≡ left ++ piece_at ps i =
    spans_in-split ps i within ∙ ap (λ (r : List HeldSpan). left ++ (piece_at ps i ++ r)) nothing
    ∙ ap (λ (r : List HeldSpan). left ++ r) (append-nil (piece_at ps i)) in
    let end : last_end 0 (spans_in ps) ≡ end_in p =
    ap (last_end 0) all ∙ last_end-append 0 left (piece_at ps i) ∙ last_end-some (last_end 0 left) 0 (piece_at ps i) some
    ∙ end_is (piece_at ps i) some ∙ ap end_in here in
    (subst (λ (r : List HeldSpan). 1 ≤ length r) here some, sym end)
