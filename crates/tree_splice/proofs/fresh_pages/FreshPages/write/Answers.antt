-- One page of one segment is written, and the others stay.
use Rattle.std.proofs.Common.{◌≡◌, ℕ, ◌/◌, ◌%◌, length, ap, refl, sym, ◌∙◌, arith}
use Rattle.std.proofs.Math.Nat.{mod_self}
use Rattle.base_laws.proofs.ResultLaws.{on_ok}
use Rattle.base_laws.proofs.NumberLaws.{one_page}
use Rattle.tree_splice.specs.Fresh.{FreshList}
use Rattle.tree_splice.proofs.SegmentLemmas.{
  all-set,
  inside-view,
  single-at,
  sized-at,
  starts-set,
  written-bytes,
  written-sized,
  written-view,
}
use Rattle.tree_splice.proofs.fresh_pages.FreshPages.write.Goals as goal

pub write-requires : goal.write-requires
write-requires g c =
    let size = (g.P.Port.meter c.args.port.now).page in
    let one = one_page (length c.args.bytes.now) size c.requires.whole c.requires.some in
    let whole = c.requires.whole in
    let some = c.requires.some in
    let long = single-at (λ s. g.S.Span.contents s.span) c.self.inside.segments.items c.args.index c.index_mut-segment.result.now
    (inside-view (λ s. s.space) (λ s. g.S.Span.start s.span) (λ s. g.S.Span.contents s.span) c.self.inside.segments.items
    c.args.self.now.pages
    c.args.index (ap (λ (l : FreshList). l.pages) c.self.view_is) c.requires.within) c.index_mut-segment.ensures.value c.self.invariant.2 in
    record {
      whole = record { some = omega (arith, whole, some); even = ap (λ (n : ℕ). n % size) c.requires.whole ∙ mod_self size };
      range = omega (arith, one, long);
      sized = sized-at (λ s. s.space) (λ s. g.S.Span.start s.span) (λ s. g.S.Span.contents s.span) g.S.Span.tells size
          c.self.inside.segments.items c.args.index c.index_mut-segment.result.now c.args.self.now.pages
          (ap (λ (l : FreshList). l.pages) c.self.view_is) c.requires.sized
          (inside-view (λ s. s.space) (λ s. g.S.Span.start s.span) (λ s. g.S.Span.contents s.span) c.self.inside.segments.items
          c.args.self.now.pages
          c.args.index (ap (λ (l : FreshList). l.pages) c.self.view_is) c.requires.within) c.index_mut-segment.ensures.value
          (single-at (λ s. g.S.Span.contents s.span) c.self.inside.segments.items c.args.index c.index_mut-segment.result.now
          (inside-view (λ s. s.space) (λ s. g.S.Span.start s.span) (λ s. g.S.Span.contents s.span) c.self.inside.segments.items
          c.args.self.now.pages
          c.args.index (ap (λ (l : FreshList). l.pages) c.self.view_is) c.requires.within) c.index_mut-segment.ensures.value
          c.self.invariant.2);
    }

pub invariant_of-self : goal.invariant_of-self
invariant_of-self g c =
    let one = single-at (λ s. g.S.Span.contents s.span) c.self.inside.segments.items c.args.index c.index_mut-segment.result.now
    (inside-view (λ s. s.space) (λ s. g.S.Span.start s.span) (λ s. g.S.Span.contents s.span) c.self.inside.segments.items
    c.args.self.now.pages
    c.args.index (ap (λ (l : FreshList). l.pages) c.self.view_is) c.requires.within) c.index_mut-segment.ensures.value c.self.invariant.2 in
    let count = c.write.ensures.others.count in (
      c.self.invariant.0 ∙ sym (starts-set (λ s. g.S.Span.start s.span) c.self.inside.segments.items c.args.index
          c.index_mut-segment.result.now
          (record { space = c.index_mut-segment.result.now.space; span = c.write.new.s }) c.index_mut-segment.ensures.value
          c.write.ensures.place),
      c.self.invariant.1,
      all-set (λ s. length (g.S.Span.contents s.span) ≡ 1) c.self.inside.segments.items c.args.index
          (record { space = c.index_mut-segment.result.now.space; span = c.write.new.s }) c.self.invariant.2 (count ∙ one),
    )

pub returns-clause-written : goal.returns-clause-written
returns-clause-written g c =
    written-view (λ s. s.space) (λ s. g.S.Span.start s.span) (λ s. g.S.Span.contents s.span) c.self.inside.segments.items c.args.index
    c.index_mut-segment.result.now (record { space = c.index_mut-segment.result.now.space; span = c.write.new.s }) c.args.self.now.pages
    (ap (λ (l : FreshList). l.pages) c.self.view_is) (inside-view (λ s. s.space) (λ s. g.S.Span.start s.span)
    (λ s. g.S.Span.contents s.span) c.self.inside.segments.items c.args.self.now.pages
    c.args.index (ap (λ (l : FreshList). l.pages) c.self.view_is) c.requires.within) c.index_mut-segment.ensures.value refl
    c.write.ensures.place

pub returns-clause-bytes : goal.returns-clause-bytes
returns-clause-bytes g c =
    let size = (g.P.Port.meter c.args.port.now).page in
    let one = one_page (length c.args.bytes.now) size c.requires.whole c.requires.some in
    on_ok c.write.result
    (λ bytes t. written-bytes (λ s. s.space) (λ s. g.S.Span.start s.span) (λ s. g.S.Span.contents s.span) c.self.inside.segments.items
    c.args.index
    (length c.args.bytes.now / size) (record { space = c.index_mut-segment.result.now.space; span = c.write.new.s }) c.args.bytes.now
    (inside-view (λ s. s.space) (λ s. g.S.Span.start s.span) (λ s. g.S.Span.contents s.span) c.self.inside.segments.items
    c.args.self.now.pages
    c.args.index (ap (λ (l : FreshList). l.pages) c.self.view_is) c.requires.within)
    (c.write.ensures.others.count ∙ (single-at (λ s. g.S.Span.contents s.span) c.self.inside.segments.items c.args.index
    c.index_mut-segment.result.now
    (inside-view (λ s. s.space) (λ s. g.S.Span.start s.span) (λ s. g.S.Span.contents s.span) c.self.inside.segments.items
    c.args.self.now.pages
    c.args.index (ap (λ (l : FreshList). l.pages) c.self.view_is) c.requires.within) c.index_mut-segment.ensures.value c.self.invariant.2))
    one (bytes t))
    c.write.ensures.bytes

pub returns-clause-sized : goal.returns-clause-sized
returns-clause-sized g c =
    written-sized (λ s. s.space) (λ s. g.S.Span.start s.span) (λ s. g.S.Span.contents s.span) g.S.Span.tells
    (g.P.Port.meter c.args.port.now).page c.self.inside.segments.items c.args.index
    (record { space = c.index_mut-segment.result.now.space; span = c.write.new.s }) c.args.self.now.pages
    (ap (λ (l : FreshList). l.pages) c.self.view_is) c.requires.sized (c.write.ensures.others.count ∙
    (single-at (λ s. g.S.Span.contents s.span) c.self.inside.segments.items c.args.index c.index_mut-segment.result.now
    (inside-view (λ s. s.space) (λ s. g.S.Span.start s.span) (λ s. g.S.Span.contents s.span) c.self.inside.segments.items
    c.args.self.now.pages
    c.args.index (ap (λ (l : FreshList). l.pages) c.self.view_is) c.requires.within) c.index_mut-segment.ensures.value c.self.invariant.2))
    c.write.ensures.sized
