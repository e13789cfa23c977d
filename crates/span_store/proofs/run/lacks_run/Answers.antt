-- The last span that begins before the end of the run decides.
use Rattle.std.proofs.Common.{◌≡◌, ℕ, ◌+◌, ◌-◌, ◌<◌, get_or, refl, sym, ap, ◌∙◌, inl, inr, arith}
use Rattle.std.proofs.lemmas.Bool.{cases_lt, le-leb, lt-leb, false≢true}
use Rattle.span_store.specs.Order.{no_span}
use Rattle.span_store.specs.Pieces.{rank_of, spans_in}
use Rattle.span_store.proofs.SpanLists.{end_of}
use Rattle.span_store.proofs.Lacks.{lacks_behind, lacks_none, lacks_over}
use Rattle.span_store.proofs.run.lacks_run.Goals as goal

pub returns-in_default : goal.returns-in_default
returns-in_default g c =
    let none = lacks_none (spans_in c.args.pieces.now) c.args.first c.args.pages 0 c.requires.order (omega arith)
    c.in_default.ensures.none refl in
    (λ _. none, λ _. refl)

pub returns : goal.returns
returns g c =
    let rows = spans_in c.args.pieces.now in
    let k = rank_of c.args.pieces.now c.in-Some.begun.piece c.in-Some.begun.index + 1 in
    let some : 0 < c.args.pages = omega arith in
    let more : 0 < k = omega arith in
    let here : k - 1 ≡ rank_of c.args.pieces.now c.in-Some.begun.piece c.in-Some.begun.index = omega arith in
    let end : end_of (get_or rows (k - 1) no_span) ≡ c.first.result + c.pages.result =
    ap (λ (i : ℕ). end_of (get_or rows i no_span)) here ∙ sym (ap end_of c.span_at-last.ensures)
    ∙ omega (arith, c.first.ensures, c.pages.ensures.count) in
    elim (cases_lt c.args.first (c.first.result + c.pages.result)) [
      | inl over ↦ (
        λ clear. absurd (false≢true (sym (lt-leb (c.first.result + c.pages.result) c.args.first over) ∙ clear)),
        λ lacks. absurd (lacks_over rows c.args.first c.args.pages k c.requires.order some c.in-Some.ensures.found.rank more
            (omega (arith, end, over)) lacks),
      )
      | inr clear ↦ (
        λ _. lacks_behind rows c.args.first c.args.pages k c.requires.order some c.in-Some.ensures.found.rank more
            (omega (arith, end, clear)),
        λ _. le-leb (c.first.result + c.pages.result) c.args.first clear,
      )
    ]
