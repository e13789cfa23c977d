-- One directory more at each step.
use Rattle.std.proofs.Common.{◌≡◌, ℕ, ◌<◌, length, get_or, set, refl, sym, subst, ◌∙◌, arith}
use Rattle.std.proofs.lemmas.Bool.{false≢true}
use Rattle.std.proofs.lemmas.List.{get_or-map, length-map}
use Rattle.base_laws.proofs.ResultLaws.{always_on_err}
use Rattle.fault_count.proofs.CountLaws.{IsUsed-then}
use Rattle.page_port.specs.Pages.{IsSized}
use Rattle.span_store.specs.Held.{HeldSpan, span_of, spans_of}
use Rattle.span_store.specs.Order.{no_span}
use Rattle.store_format.specs.Rows.{KeepsShape}
use Rattle.store_parts.specs.Fixed.{IsRunAt}
use Rattle.image_store.specs.Closing.{directory_of}
use Rattle.image_store.proofs.FixedLemmas.{directory-there, kept-run, one-still, spans-runs, spans-set}
use Rattle.image_store.proofs.SpanLemmas.{none-span-written, one-span-more, one-span-failed, span_at}
use Rattle.image_store.proofs.fixed.write_directories.Goals as goal

pub loop-s-init : goal.loop-s-init
loop-s-init g c = record {
  stand = none-span-written g.P.S.Span.tells (g.P.Port.meter c.args.port.now).page (directory_of c.args.spaces.now)
      (spans_of g.P.S.Span.start g.P.S.Span.contents c.args.directories.now)
      (spans-runs g.P.S.Span.start g.P.S.Span.contents g.P.S.Span.tells (g.P.Port.meter c.args.port.now).page c.args.directories.now
      (λ k d inside. (c.requires.each k d inside).1));
  used = record { page = refl; faults = omega arith; read = omega arith; written = omega arith };
  still = refl;
}

pub loop-s-preserved : goal.loop-s-preserved
loop-s-preserved g c =
    let start = g.P.S.Span.start in
    let contents = g.P.S.Span.contents in
    let size : ℕ = (g.P.Port.meter c.args.port.now).page in
    let unit : (g.P.Port.meter c.loop-s.port).page ≡ size = c.loop-s.invariant.used.page in
    let old : HeldSpan = span_of start contents (get_or c.loop-s.directories c.loop-s.s c.index-directories-s.result) in
    let now : HeldSpan = span_of start contents c.write_directory.new.span in
    let step = c.in_ok-write_directory.ensures in
    let many : c.loop-s.s < length c.args.directories.now = omega (arith, c.loop-s-test.true, c.requires.count) in
    let spans : length (spans_of start contents c.args.directories.now) ≡ length c.args.directories.now =
    length-map c.args.directories.now (span_of start contents) in
    let among : span_at (spans_of start contents c.loop-s.directories) c.loop-s.s ≡ old =
    get_or-map (span_of start contents) c.loop-s.directories c.loop-s.s c.index-directories-s.result no_span
    (omega (arith, many, c.loop-s.auto.directories)) in
    let run = kept-run g.P.S.Span.tells size old now step.place
    (subst (λ (k : ℕ). KeepsShape g.P.S.Span.tells k old.pages now.pages) unit step.shape) in
    record {
      stand = one-span-more g.P.S.Span.tells size (directory_of c.args.spaces.now) c.loop-s.s
          (spans_of start contents c.args.directories.now) (spans_of start contents c.loop-s.directories)
          (spans_of start contents (set c.loop-s.directories c.loop-s.s c.write_directory.new.span)) now c.loop-s.invariant.stand
          (omega (arith, many, spans)) (spans-set start contents c.loop-s.directories c.loop-s.s c.write_directory.new.span)
          (subst (λ (h : HeldSpan). IsRunAt g.P.S.Span.tells size h.first (length h.pages) now) (sym among) run)
          (λ tell. step.bytes tell
          ∙ directory-there c.args.spaces.now c.loop-s.s c.index-spaces-s.result c.loop-s-test.true c.index-spaces-s.is);
      used = IsUsed-then (g.P.Port.meter c.args.port.now) (g.P.Port.meter c.loop-s.port) (g.P.Port.meter c.write_directory.new.port)
          c.loop-s.invariant.used step.port;
      still = step.cause.still false≢true ∙ c.loop-s.invariant.still;
    }

pub returns-in_err-write_directory-clause-failed : goal.returns-in_err-write_directory-clause-failed
returns-in_err-write_directory-clause-failed g c =
    let start = g.P.S.Span.start in
    let contents = g.P.S.Span.contents in
    let size : ℕ = (g.P.Port.meter c.args.port.now).page in
    let unit : (g.P.Port.meter c.loop-s.port).page ≡ size = c.loop-s.invariant.used.page in
    let old : HeldSpan = span_of start contents (get_or c.loop-s.directories c.loop-s.s c.index-directories-s.result) in
    let now : HeldSpan = span_of start contents c.write_directory.new.span in
    let step = c.in_err-write_directory.ensures in
    let many : c.loop-s.s < length c.args.directories.now = omega (arith, c.loop-s-test.true, c.requires.count) in
    let spans : length (spans_of start contents c.args.directories.now) ≡ length c.args.directories.now =
    length-map c.args.directories.now (span_of start contents) in
    let among : span_at (spans_of start contents c.loop-s.directories) c.loop-s.s ≡ old =
    get_or-map (span_of start contents) c.loop-s.directories c.loop-s.s c.index-directories-s.result no_span
    (omega (arith, many, c.loop-s.auto.directories)) in
    let run = kept-run g.P.S.Span.tells size old now step.place
    (subst (λ (k : ℕ). KeepsShape g.P.S.Span.tells k old.pages now.pages) unit step.shape) in
    always_on_err c.from_residual.result (
      c.loop-s.s,
      c.loop-s-test.true,
      one-span-failed g.P.S.Span.tells size (directory_of c.args.spaces.now) c.loop-s.s
          (spans_of start contents c.args.directories.now) (spans_of start contents c.loop-s.directories)
          (spans_of start contents (set c.loop-s.directories c.loop-s.s c.write_directory.new.span)) now c.loop-s.invariant.stand
          (omega (arith, many, spans)) (spans-set start contents c.loop-s.directories c.loop-s.s c.write_directory.new.span)
          (subst (λ (h : HeldSpan). IsRunAt g.P.S.Span.tells size h.first (length h.pages) now) (sym among) run),
    )

pub write_directory-requires-clause-one : goal.write_directory-requires-clause-one
write_directory-requires-clause-one g c =
    (one-still g.P.S.Span.start g.P.S.Span.contents g.P.S.Span.tells (g.P.Port.meter c.args.port.now).page (directory_of c.args.spaces.now)
    c.loop-s.s c.loop-s.s c.args.directories.now c.loop-s.directories c.index-directories-s.result
    (omega (arith, c.loop-s-test.true, c.requires.count)) c.loop-s.invariant.stand c.requires.each).0

pub write_directory-requires-clause-sized : goal.write_directory-requires-clause-sized
write_directory-requires-clause-sized g c =
    subst (λ (k : ℕ). IsSized g.P.S.Span.tells k (g.P.S.Span.contents (get_or c.loop-s.directories c.loop-s.s
    c.index-directories-s.result))) (sym c.loop-s.invariant.used.page)
    (one-still g.P.S.Span.start g.P.S.Span.contents g.P.S.Span.tells (g.P.Port.meter c.args.port.now).page (directory_of c.args.spaces.now)
    c.loop-s.s c.loop-s.s c.args.directories.now c.loop-s.directories c.index-directories-s.result
    (omega (arith, c.loop-s-test.true, c.requires.count)) c.loop-s.invariant.stand c.requires.each).1
