-- The new levels on the pages that were asked for, and what they say once they are written.
use Rattle.std.proofs.Common.{ℕ, List, map, arith, ap, subst, sym, ◌∙◌}
use Rattle.local_laws.specs.Path.{splice_path}
use Rattle.span_store.specs.Held.{page_at}
use Rattle.tree_model.specs.Node.{room_of}
use Rattle.tree_splice.specs.Fresh.{page_numbers}
use Rattle.tree_splice.specs.Remade.{remade}
use Rattle.tree_splice.specs.Splice.{single_run}
use Rattle.tree_splice.specs.Way.{AreAllMade, made_count}
use Rattle.tree_splice.specs.declared.remade.Remade.{Remade}
use Rattle.tree_splice.proofs.FreshLemmas.{apart-same, homely-same, numbers-same}
use Rattle.tree_splice.proofs.MakeLemmas.{all-made, count-wanted, homely-sized, lacked-same, reads-writes}
use Rattle.tree_splice.proofs.making.fill.Goals as goal

pub returns-in_err-ask_all-clause-sized : goal.returns-in_err-ask_all-clause-sized
returns-in_err-ask_all-clause-sized g c =
    homely-sized g.P.S.Span.tells (g.L.Hints.rest c.args.latches.now).frame (g.P.Port.meter c.args.port.now).page c.ask_all.new.pages.pages
    c.requires.frame
    c.ask_all.ensures.home

pub returns-in_err-levels-clause-sized : goal.returns-in_err-levels-clause-sized
returns-in_err-levels-clause-sized g c =
    homely-sized g.P.S.Span.tells (g.L.Hints.rest c.args.latches.now).frame (g.P.Port.meter c.args.port.now).page c.ask_all.new.pages.pages
    c.requires.frame
    c.ask_all.ensures.home

pub returns-in_err-made-clause-sized : goal.returns-in_err-made-clause-sized
returns-in_err-made-clause-sized g c =
    homely-sized g.P.S.Span.tells (g.L.Hints.rest c.args.latches.now).frame (g.P.Port.meter c.args.port.now).page c.ask_all.new.pages.pages
    c.requires.frame
    c.ask_all.ensures.home

pub returns-in_err-left_pages-clause-sized : goal.returns-in_err-left_pages-clause-sized
returns-in_err-left_pages-clause-sized g c =
    homely-sized g.P.S.Span.tells (g.L.Hints.rest c.args.latches.now).frame (g.P.Port.meter c.args.port.now).page c.ask_all.new.pages.pages
    c.requires.frame
    c.ask_all.ensures.home

pub returns-in_err-left-clause-sized : goal.returns-in_err-left-clause-sized
returns-in_err-left-clause-sized g c =
    homely-sized g.P.S.Span.tells (g.L.Hints.rest c.args.latches.now).frame (g.P.Port.meter c.args.port.now).page c.ask_all.new.pages.pages
    c.requires.frame
    c.ask_all.ensures.home

pub write_levels-requires-clause-made : goal.write_levels-requires-clause-made
write_levels-requires-clause-made g c =
    let made = all-made (g.P.Port.meter c.args.port.now).page c.args.path.now c.args.place.from c.args.place.count c.args.fresh.now
    c.numbers.result.now
    c.in_ok-levels.levels.items c.requires.size c.requires.sound c.requires.some c.in_ok-levels.ensures.levels in
    subst (λ (levels : List Remade). AreAllMade (room_of (g.P.Port.meter c.new_levels.new.port).page) levels) (sym c.deref-3.ensures.value)
    (subst (λ (n : ℕ). AreAllMade (room_of n) c.in_ok-levels.levels.items) (sym c.in_ok-levels.ensures.reads.used.page) made)

pub write_levels-requires-clause-within : goal.write_levels-requires-clause-within
write_levels-requires-clause-within g c =
    let count = count-wanted (room_of (g.P.Port.meter c.args.port.now).page) c.args.path.now c.args.place.from
    c.args.place.count c.args.want
    c.args.fresh.now c.numbers.result.now c.deref-3.result.now c.requires.want (c.deref-3.ensures.value ∙ c.in_ok-levels.ensures.levels) in
    let all = c.in_ok-ask_all.ensures.all in
    omega (arith, count, all)

pub write_levels-requires-clause-sized : goal.write_levels-requires-clause-sized
write_levels-requires-clause-sized g c =
    homely-sized g.P.S.Span.tells (g.L.Hints.rest c.args.latches.now).frame (g.P.Port.meter c.new_levels.new.port).page
    c.ask_all.new.pages.pages
    (c.requires.frame ∙ sym c.in_ok-levels.ensures.reads.used.page) c.ask_all.ensures.home

pub returns-in_err-write_levels-clause-lacked : goal.returns-in_err-write_levels-clause-lacked
returns-in_err-write_levels-clause-lacked g c =
    lacked-same (page_at c.args.held.now) c.ask_all.new.pages.pages c.write_levels.new.pages.pages c.write_levels.ensures.same
    c.ask_all.ensures.lacked

pub returns-in_err-write_levels-clause-apart : goal.returns-in_err-write_levels-clause-apart
returns-in_err-write_levels-clause-apart g c =
    apart-same c.ask_all.new.pages.pages c.write_levels.new.pages.pages
    (numbers-same c.ask_all.new.pages.pages c.write_levels.new.pages.pages c.write_levels.ensures.same) c.ask_all.ensures.apart

pub returns-in_err-write_levels-clause-home : goal.returns-in_err-write_levels-clause-home
returns-in_err-write_levels-clause-home g c =
    homely-same g.P.S.Span.tells (g.L.Hints.rest c.args.latches.now).frame (g.P.Port.meter c.new_levels.new.port).page
    c.ask_all.new.pages.pages c.write_levels.new.pages.pages
    (c.requires.frame ∙ sym c.in_ok-levels.ensures.reads.used.page) c.write_levels.ensures.same c.write_levels.ensures.sized
    c.ask_all.ensures.home

pub returns-in_err-write_levels-clause-writes : goal.returns-in_err-write_levels-clause-writes
returns-in_err-write_levels-clause-writes g c =
    let count = count-wanted (room_of (g.P.Port.meter c.args.port.now).page) c.args.path.now c.args.place.from
    c.args.place.count c.args.want
    c.args.fresh.now c.numbers.result.now c.deref-3.result.now c.requires.want (c.deref-3.ensures.value ∙ c.in_ok-levels.ensures.levels) in
    reads-writes (made_count c.deref-3.result.now) c.args.want (g.P.Port.meter c.args.port.now) (g.P.Port.meter c.new_levels.new.port)
    (g.P.Port.meter c.write_levels.new.port) count c.in_ok-levels.ensures.reads c.write_levels.ensures.writes

pub returns-clause-lacked : goal.returns-clause-lacked
returns-clause-lacked g c =
    lacked-same (page_at c.args.held.now) c.ask_all.new.pages.pages c.write_levels.new.pages.pages c.write_levels.ensures.same
    c.ask_all.ensures.lacked

pub returns-clause-apart : goal.returns-clause-apart
returns-clause-apart g c =
    apart-same c.ask_all.new.pages.pages c.write_levels.new.pages.pages
    (numbers-same c.ask_all.new.pages.pages c.write_levels.new.pages.pages c.write_levels.ensures.same) c.ask_all.ensures.apart

pub returns-clause-home : goal.returns-clause-home
returns-clause-home g c =
    homely-same g.P.S.Span.tells (g.L.Hints.rest c.args.latches.now).frame (g.P.Port.meter c.new_levels.new.port).page
    c.ask_all.new.pages.pages c.write_levels.new.pages.pages
    (c.requires.frame ∙ sym c.in_ok-levels.ensures.reads.used.page) c.write_levels.ensures.same c.write_levels.ensures.sized
    c.ask_all.ensures.home

pub returns-clause-writes : goal.returns-clause-writes
returns-clause-writes g c =
    let count = count-wanted (room_of (g.P.Port.meter c.args.port.now).page) c.args.path.now c.args.place.from
    c.args.place.count c.args.want
    c.args.fresh.now c.numbers.result.now c.deref-3.result.now c.requires.want (c.deref-3.ensures.value ∙ c.in_ok-levels.ensures.levels) in
    reads-writes (made_count c.deref-3.result.now) c.args.want (g.P.Port.meter c.args.port.now) (g.P.Port.meter c.new_levels.new.port)
    (g.P.Port.meter c.write_levels.new.port) count c.in_ok-levels.ensures.reads c.write_levels.ensures.writes

pub returns-clause-levels : goal.returns-clause-levels
returns-clause-levels g c =
    c.in_ok-levels.ensures.levels
    ∙ ap (λ (ps : List ℕ). map remade (splice_path (room_of (g.P.Port.meter c.args.port.now).page) c.args.path.now c.args.place.from
    c.args.place.count c.args.fresh.now ps))
    (c.numbers.ensures ∙ sym (numbers-same c.ask_all.new.pages.pages c.write_levels.new.pages.pages c.write_levels.ensures.same))

pub returns-clause-sound : goal.returns-clause-sound
returns-clause-sound g c =
    all-made (g.P.Port.meter c.args.port.now).page c.args.path.now c.args.place.from c.args.place.count c.args.fresh.now
    c.numbers.result.now
    c.in_ok-levels.levels.items c.requires.size c.requires.sound c.requires.some c.in_ok-levels.ensures.levels

pub returns-clause-made : goal.returns-clause-made
returns-clause-made g c =
    c.in_ok-made.ensures
    ∙ ap (λ (ps : List ℕ). map single_run ps) (c.numbers-2.ensures ∙ sym
    (numbers-same c.ask_all.new.pages.pages c.write_levels.new.pages.pages c.write_levels.ensures.same))

pub returns-clause-left : goal.returns-clause-left
returns-clause-left g c =
    let numbers = page_numbers c.write_levels.new.pages.pages in
    let levels_are = c.deref.ensures.value ∙ (c.in_ok-levels.ensures.levels
    ∙ ap (λ (ps : List ℕ). map remade (splice_path (room_of (g.P.Port.meter c.args.port.now).page) c.args.path.now c.args.place.from
    c.args.place.count c.args.fresh.now ps))
    (c.numbers.ensures ∙ sym (numbers-same c.ask_all.new.pages.pages c.write_levels.new.pages.pages c.write_levels.ensures.same))) in
    c.in_ok-left.ensures
    ∙ ap (λ (ps : List ℕ). map single_run ps) (c.deref-2.ensures.value
    ∙ c.in_ok-left_pages.ensures (splice_path (room_of (g.P.Port.meter c.args.port.now).page) c.args.path.now c.args.place.from
    c.args.place.count c.args.fresh.now numbers) levels_are)
