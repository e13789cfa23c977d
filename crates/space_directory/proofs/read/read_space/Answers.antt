-- Nothing is locked in a space that was just read, and its slots have the spans of its free pages.
use Rattle.std.proofs.Common.{◌≡◌, ◌^◌, ℕ, List, [], false, replicate, refl, sym, ap, ◌∙◌, subst, arith}
use Rattle.std.proofs.lemmas.List.{length-map}
use Rattle.space_directory.specs.Slots.{page_held, pages_held}
use Rattle.space_directory.specs.Held.{HoldsFree}
use Rattle.std.proofs.Math.ListN.{get_or}
use Rattle.space_directory.proofs.HeldLaws.{held_where-used}
use Rattle.space_directory.proofs.Opened.{opened_space}
use Rattle.space_directory.proofs.read.read_space.Goals as goal

pub invariant_of-space : goal.invariant_of-space
invariant_of-space g c =
    let pages : c.pages-pages.result ≡ 2 ^ c.args.order = c.pages-pages.ensures.count ∙ c.requires.count in
    let spans : HoldsFree g.S.Span.start g.S.Span.contents g.S.Span.tells c.args.size (g.S.Span.start c.args.span)
    c.in-Ok.map c.cut_apart.new.slots.items = c.cut_apart.ensures.slots c.args.size c.requires.sized in (
      record {
        sound = opened_space c.args.number c.first-first.result c.args.size c.args.order c.in-Ok.map
            c.in-Ok-make_room.room.locks (pages_held g.S.Span.contents c.cut_apart.new.slots.items) c.requires.numbers.low
            c.requires.numbers.high c.in-Ok.ensures.size
            (omega (
              arith,
              c.first-first.ensures,
              c.pages-pages.ensures.fits,
              c.requires.count,
            )) c.requires.numbers.fits (c.in-Ok-make_room.ensures.locks
            ∙ ap (λ (k : ℕ). replicate k false) pages)
            (length-map c.cut_apart.new.slots.items (page_held g.S.Span.contents) ∙ spans.count)
            (λ p used. ap (λ (held : List (List ℕ)). get_or held p []) c.cut_apart.ensures.held
            ∙ held_where-used c.in-Ok.map (g.S.Span.contents c.args.span) p (c.in-Ok.ensures.size
            ∙ sym c.requires.count) used);
        holds = subst (λ (first : ℕ). HoldsFree g.S.Span.start g.S.Span.contents g.S.Span.tells c.args.size first
            c.in-Ok.map c.cut_apart.new.slots.items) (sym c.first-first.ensures) spans;
        told = refl;
      },
      λ page less. absurd (omega arith),
    )

pub returns-clause-space : goal.returns-clause-space
returns-clause-space g c =
    let pages : c.pages-pages.result ≡ 2 ^ c.args.order = c.pages-pages.ensures.count ∙ c.requires.count in
    let spans : HoldsFree g.S.Span.start g.S.Span.contents g.S.Span.tells c.args.size (g.S.Span.start c.args.span)
    c.in-Ok.map c.cut_apart.new.slots.items = c.cut_apart.ensures.slots c.args.size c.requires.sized in
    opened_space c.args.number c.first-first.result c.args.size c.args.order c.in-Ok.map
    c.in-Ok-make_room.room.locks (pages_held g.S.Span.contents c.cut_apart.new.slots.items) c.requires.numbers.low
    c.requires.numbers.high c.in-Ok.ensures.size
    (omega (
      arith,
      c.first-first.ensures,
      c.pages-pages.ensures.fits,
      c.requires.count,
    )) c.requires.numbers.fits (c.in-Ok-make_room.ensures.locks
    ∙ ap (λ (k : ℕ). replicate k false) pages)
    (length-map c.cut_apart.new.slots.items (page_held g.S.Span.contents) ∙ spans.count)
    (λ p used. ap (λ (held : List (List ℕ)). get_or held p []) c.cut_apart.ensures.held
    ∙ held_where-used c.in-Ok.map (g.S.Span.contents c.args.span) p (c.in-Ok.ensures.size
    ∙ sym c.requires.count) used)
