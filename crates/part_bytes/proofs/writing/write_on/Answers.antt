-- Each run gets its stretch of the bytes.
use Rattle.std.proofs.Common.{◌≡◌, ℕ, ◌+◌, ◌-◌, ◌*◌, min, List, [], length, take, drop, get_or, refl, sym, ap, ◌∙◌, subst, arith}
use Rattle.std.proofs.lemmas.Bool.{false≢true}
use Rattle.std.proofs.lemmas.List.{at_drop_more, drop_all}
use Rattle.tree_model.specs.Tree.{page_count}
use Rattle.layout_model.specs.declared.extent.Extent.{Extent}
use Rattle.span_store.specs.Held.{HoldsRun, bytes_on}
use Rattle.part_bytes.specs.Runs.{StandOn}
use Rattle.part_bytes.proofs.RunLemmas.{StandOn-content}
use Rattle.part_bytes.proofs.WriteLemmas.{turn_held, stretch_is, stretch_long, writing_more, writing_failed}
use Rattle.part_bytes.proofs.writing.write_on.Goals as goal

abbrev none : Extent
none = record { page = 0; pages = 0 }

pub write_bytes-requires-clause-held : goal.write_bytes-requires-clause-held
write_bytes-requires-clause-held g c =
    let size : ℕ = (g.P.Port.meter c.args.port.now).page in
    let i = c.loop-run.run-index in
    let runs = c.args.runs.now in
    let bytes = c.args.bytes.now in
    let run = get_or runs i none in
    let is : c.min-count.result ≡ min (length bytes - c.loop-run.from) (run.pages * size) =
    c.min-count.ensures ∙ ap (λ (k : ℕ). min (length bytes - c.loop-run.from) (run.pages * k)) c.page-size.ensures in
    let long = stretch_long c.loop-run.from c.min-count.result (run.pages * size) bytes is in
    subst (λ (k : ℕ). HoldsRun c.loop-run.held run.page (page_count (g.P.Port.meter c.loop-run.port).page k)) (sym long)
    (turn_held g.P.S.Span.tells size runs (drop i runs) (drop (i + 1) runs) run bytes c.loop-run.from c.min-count.result
    c.args.held.now c.loop-run.held (g.P.Port.meter c.args.port.now) (g.P.Port.meter c.loop-run.port) c.requires.can.some
    (at_drop_more (λ (l : List Extent). l) runs i none c.loop-run-test.true) is c.loop-run.invariant)

pub returns-in_err-write_bytes-clause-others : goal.returns-in_err-write_bytes-clause-others
returns-in_err-write_bytes-clause-others g c =
    let size : ℕ = (g.P.Port.meter c.args.port.now).page in
    let i = c.loop-run.run-index in
    let runs = c.args.runs.now in
    let bytes = c.args.bytes.now in
    let run = get_or runs i none in
    let from = c.loop-run.from in
    let count = c.min-count.result in
    let is : count ≡ min (length bytes - from) (run.pages * size) =
    c.min-count.ensures ∙ ap (λ (k : ℕ). min (length bytes - from) (run.pages * k)) c.page-size.ensures in
    (writing_failed g.P.S.Span.tells size runs (drop i runs) (drop (i + 1) runs) run bytes
    (take (from + count - from) (drop from bytes)) from count
    c.args.held.now c.loop-run.held c.write_bytes.new.held (g.P.Port.meter c.args.port.now) (g.P.Port.meter c.loop-run.port)
    (g.P.Port.meter c.write_bytes.new.port) c.requires.can.some
    (at_drop_more (λ (l : List Extent). l) runs i none c.loop-run-test.true) is (stretch_is from count bytes) c.loop-run.invariant
    (record { alone = c.in_err-write_bytes.ensures.others; writes = c.in_err-write_bytes.ensures.writes })).0

pub loop-run-preserved : goal.loop-run-preserved
loop-run-preserved g c =
    let size : ℕ = (g.P.Port.meter c.args.port.now).page in
    let i = c.loop-run.run-index in
    let runs = c.args.runs.now in
    let bytes = c.args.bytes.now in
    let run = get_or runs i none in
    let from = c.loop-run.from in
    let count = c.min-count.result in
    let is : count ≡ min (length bytes - from) (run.pages * size) =
    c.min-count.ensures ∙ ap (λ (k : ℕ). min (length bytes - from) (run.pages * k)) c.page-size.ensures in
    writing_more g.P.S.Span.tells size runs (drop i runs) (drop (i + 1) runs) run bytes
    (take (from + count - from) (drop from bytes)) from count
    c.args.held.now c.loop-run.held c.write_bytes.new.held (g.P.Port.meter c.args.port.now) (g.P.Port.meter c.loop-run.port)
    (g.P.Port.meter c.write_bytes.new.port) c.requires.can.some
    (at_drop_more (λ (l : List Extent). l) runs i none c.loop-run-test.true) is (stretch_is from count bytes) c.loop-run.invariant
    c.in_ok-write_bytes.ensures.bytes
    (record { alone = c.in_ok-write_bytes.ensures.others; writes = c.in_ok-write_bytes.ensures.writes })
    (c.in_ok-write_bytes.ensures.cause.still false≢true)

pub returns-clause-content : goal.returns-clause-content
returns-clause-content g c = λ told.
    let size : ℕ = (g.P.Port.meter c.args.port.now).page in
    let runs = c.args.runs.now in
    let w = c.loop-run.invariant in
    let none_left : drop c.loop-run.run-index runs ≡ [] = drop_all c.loop-run.run-index runs (omega arith) in
    StandOn-content (bytes_on c.loop-run.held) size runs c.args.bytes.now c.requires.can.some c.requires.can.enough
    (w.stands told (bytes_on c.loop-run.held) (λ q off. refl)
    (subst (λ (l : List Extent). StandOn (bytes_on c.loop-run.held) size l (drop c.loop-run.from c.args.bytes.now)) (sym none_left) tt))
