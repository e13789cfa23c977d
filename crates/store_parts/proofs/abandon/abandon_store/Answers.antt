-- The parts come back one after the other, the front pages last.
use Rattle.std.proofs.Common.{◌≡◌, ℕ, ◌≤◌, ◌||◌, true, Option, refl, sym, ap, subst, ◌∙◌, arith, unwrap_or}
use Rattle.fault_count.specs.Counts.{counted}
use Rattle.page_port.specs.Device.{Device, after_return}
use Rattle.page_port.specs.Pages.{AreOf}
use Rattle.span_store.specs.Held.{has, span_of}
use Rattle.space_directory.specs.SpaceView.{IsSpace}
use Rattle.store_parts.specs.Parts.{PartsView, StoredView, parts_view, stored_view}
use Rattle.store_parts.specs.Returning.{is_page_of, is_free_of, any_has}
use Rattle.store_parts.proofs.ReturningLemmas.{returned-both}
use Rattle.store_parts.proofs.PartLemmas.{part_page, parts-shown}
use Rattle.store_parts.proofs.AbandonLemmas.{first-out, many-out, all-mapped, all-got}
use Rattle.store_parts.proofs.AbandonLemmas.{objects-ready, objects-show, spaces-ready, spaces-show}
use Rattle.store_parts.proofs.AbandonLemmas.{
  directories-ready,
  directories-show,
  all-covered,
  all-came-back,
  back-counted,
  absorbed-cause,
}
use Rattle.store_parts.proofs.abandon.abandon_store.Goals as goal

pub give_objects-requires-clause-out : goal.give_objects-requires-clause-out
give_objects-requires-clause-out g c =
    let parts : PartsView = parts_view g.Y.S.Span.start g.Y.S.Span.contents g.B.Body.form g.B.Body.told g.B.Stored.entry g.B.Stored.pages
    c.args.parts.geometry c.args.parts.fixed c.args.parts.spaces.items c.args.parts.objects.items
    (g.Y.P.Port.meter c.args.parts.port).page in
    let tells = g.Y.S.Span.tells in
    let d0 = g.Y.Bay.device c.args.bay.now in
    let sound = c.requires.parts in
    λ _ _ tell. first-out d0 parts (c.requires.all tell)

pub give_objects-requires-clause-rest : goal.give_objects-requires-clause-rest
give_objects-requires-clause-rest g c = λ _ _.
    let parts : PartsView = parts_view g.Y.S.Span.start g.Y.S.Span.contents g.B.Body.form g.B.Body.told g.B.Stored.entry g.B.Stored.pages
    c.args.parts.geometry c.args.parts.fixed c.args.parts.spaces.items c.args.parts.objects.items
    (g.Y.P.Port.meter c.args.parts.port).page in
    let f = stored_view g.B.Body.form g.B.Body.told g.B.Stored.entry g.B.Stored.pages in
    let tells = g.Y.S.Span.tells in
    let d0 = g.Y.Bay.device c.args.bay.now in
    let sound = c.requires.parts in
    all-mapped (λ (y : StoredView). y.form.is_resting ≡ true) f c.args.parts.objects.items (λ o y got. (sound.objects o y got).rests)

pub give_objects-requires-clause-on : goal.give_objects-requires-clause-on
give_objects-requires-clause-on g c =
    let parts : PartsView = parts_view g.Y.S.Span.start g.Y.S.Span.contents g.B.Body.form g.B.Body.told g.B.Stored.entry g.B.Stored.pages
    c.args.parts.geometry c.args.parts.fixed c.args.parts.spaces.items c.args.parts.objects.items
    (g.Y.P.Port.meter c.args.parts.port).page in
    let f = stored_view g.B.Body.form g.B.Body.told g.B.Stored.entry g.B.Stored.pages in
    let tells = g.Y.S.Span.tells in
    let d0 = g.Y.Bay.device c.args.bay.now in
    let sound = c.requires.parts in
    λ _ _ tell. objects-ready f c.args.parts.objects.items tells d0 parts refl sound (c.requires.all tell)

pub give_spaces-requires-clause-spaces : goal.give_spaces-requires-clause-spaces
give_spaces-requires-clause-spaces g c = λ _ _.
    let parts : PartsView = parts_view g.Y.S.Span.start g.Y.S.Span.contents g.B.Body.form g.B.Body.told g.B.Stored.entry g.B.Stored.pages
    c.args.parts.geometry c.args.parts.fixed c.args.parts.spaces.items c.args.parts.objects.items
    (g.Y.P.Port.meter c.args.parts.port).page in
    let tells = g.Y.S.Span.tells in
    let d0 = g.Y.Bay.device c.args.bay.now in
    let sound = c.requires.parts in
    all-got IsSpace parts.spaces sound.spaces.space

pub give_spaces-requires-clause-out : goal.give_spaces-requires-clause-out
give_spaces-requires-clause-out g c =
    let parts : PartsView = parts_view g.Y.S.Span.start g.Y.S.Span.contents g.B.Body.form g.B.Body.told g.B.Stored.entry g.B.Stored.pages
    c.args.parts.geometry c.args.parts.fixed c.args.parts.spaces.items c.args.parts.objects.items
    (g.Y.P.Port.meter c.args.parts.port).page in
    let f = stored_view g.B.Body.form g.B.Body.told g.B.Stored.entry g.B.Stored.pages in
    let tells = g.Y.S.Span.tells in
    let d0 = g.Y.Bay.device c.args.bay.now in
    let sound = c.requires.parts in
    λ _ _ tell.
    let at = part_page parts in
    let all = c.requires.all tell in
    let shown = parts-shown tells parts sound all.once in
    let d1 = g.Y.Bay.device c.give_objects.new.bay in
    let back1 = c.give_objects.ensures.back tell at (objects-show f c.args.parts.objects.items at parts refl shown) in
    back1.first

pub give_spaces-requires-clause-on : goal.give_spaces-requires-clause-on
give_spaces-requires-clause-on g c =
    let parts : PartsView = parts_view g.Y.S.Span.start g.Y.S.Span.contents g.B.Body.form g.B.Body.told g.B.Stored.entry g.B.Stored.pages
    c.args.parts.geometry c.args.parts.fixed c.args.parts.spaces.items c.args.parts.objects.items
    (g.Y.P.Port.meter c.args.parts.port).page in
    let f = stored_view g.B.Body.form g.B.Body.told g.B.Stored.entry g.B.Stored.pages in
    let tells = g.Y.S.Span.tells in
    let d0 = g.Y.Bay.device c.args.bay.now in
    let sound = c.requires.parts in
    λ _ _ tell.
    let at = part_page parts in
    let all = c.requires.all tell in
    let shown = parts-shown tells parts sound all.once in
    let d1 = g.Y.Bay.device c.give_objects.new.bay in
    let back1 = c.give_objects.ensures.back tell at (objects-show f c.args.parts.objects.items at parts refl shown) in
    spaces-ready tells d0 d1 parts sound all back1.count back1.mounted

pub give_spans-requires-clause-out : goal.give_spans-requires-clause-out
give_spans-requires-clause-out g c =
    let parts : PartsView = parts_view g.Y.S.Span.start g.Y.S.Span.contents g.B.Body.form g.B.Body.told g.B.Stored.entry g.B.Stored.pages
    c.args.parts.geometry c.args.parts.fixed c.args.parts.spaces.items c.args.parts.objects.items
    (g.Y.P.Port.meter c.args.parts.port).page in
    let f = stored_view g.B.Body.form g.B.Body.told g.B.Stored.entry g.B.Stored.pages in
    let tells = g.Y.S.Span.tells in
    let d0 = g.Y.Bay.device c.args.bay.now in
    let sound = c.requires.parts in
    λ _ _ tell.
    let at = part_page parts in
    let all = c.requires.all tell in
    let shown = parts-shown tells parts sound all.once in
    let d1 = g.Y.Bay.device c.give_objects.new.bay in
    let back1 = c.give_objects.ensures.back tell at (objects-show f c.args.parts.objects.items at parts refl shown) in
    let d2 = g.Y.Bay.device c.give_spaces.new.bay in
    let back2 = returned-both at (any_has (λ x. has (g.B.Stored.pages x.body)) c.args.parts.objects.items) (any_has is_free_of
    parts.spaces)
    d0 d1 d2 back1 (c.give_spaces.ensures.back tell at (spaces-show tells at parts sound shown)) in
    back2.first

pub give_spans-requires-clause-on : goal.give_spans-requires-clause-on
give_spans-requires-clause-on g c =
    let parts : PartsView = parts_view g.Y.S.Span.start g.Y.S.Span.contents g.B.Body.form g.B.Body.told g.B.Stored.entry g.B.Stored.pages
    c.args.parts.geometry c.args.parts.fixed c.args.parts.spaces.items c.args.parts.objects.items
    (g.Y.P.Port.meter c.args.parts.port).page in
    let f = stored_view g.B.Body.form g.B.Body.told g.B.Stored.entry g.B.Stored.pages in
    let tells = g.Y.S.Span.tells in
    let d0 = g.Y.Bay.device c.args.bay.now in
    let sound = c.requires.parts in
    λ _ _ tell.
    let at = part_page parts in
    let all = c.requires.all tell in
    let shown = parts-shown tells parts sound all.once in
    let d1 = g.Y.Bay.device c.give_objects.new.bay in
    let back1 = c.give_objects.ensures.back tell at (objects-show f c.args.parts.objects.items at parts refl shown) in
    let d2 = g.Y.Bay.device c.give_spaces.new.bay in
    let back2 = returned-both at (any_has (λ x. has (g.B.Stored.pages x.body)) c.args.parts.objects.items) (any_has is_free_of
    parts.spaces)
    d0 d1 d2 back1 (c.give_spaces.ensures.back tell at (spaces-show tells at parts sound shown)) in
    directories-ready (span_of g.Y.S.Span.start g.Y.S.Span.contents) c.args.parts.fixed.directories.items tells d0 d2 parts refl tell
    sound all
    back2.count back2.mounted

pub restore-requires : goal.restore-requires
restore-requires g c =
    let parts : PartsView = parts_view g.Y.S.Span.start g.Y.S.Span.contents g.B.Body.form g.B.Body.told g.B.Stored.entry g.B.Stored.pages
    c.args.parts.geometry c.args.parts.fixed c.args.parts.spaces.items c.args.parts.objects.items
    (g.Y.P.Port.meter c.args.parts.port).page in
    let f = stored_view g.B.Body.form g.B.Body.told g.B.Stored.entry g.B.Stored.pages in
    let tells = g.Y.S.Span.tells in
    let d0 = g.Y.Bay.device c.args.bay.now in
    let sound = c.requires.parts in
    λ tell.
    let at = part_page parts in
    let all = c.requires.all tell in
    let shown = parts-shown tells parts sound all.once in
    let d1 = g.Y.Bay.device c.give_objects.new.bay in
    let back1 = c.give_objects.ensures.back tell at (objects-show f c.args.parts.objects.items at parts refl shown) in
    let d2 = g.Y.Bay.device c.give_spaces.new.bay in
    let back2 = returned-both at (any_has (λ x. has (g.B.Stored.pages x.body)) c.args.parts.objects.items) (any_has is_free_of
    parts.spaces)
    d0 d1 d2 back1 (c.give_spaces.ensures.back tell at (spaces-show tells at parts sound shown)) in
    let spans = c.args.parts.fixed.directories.items in
    let h = span_of g.Y.S.Span.start g.Y.S.Span.contents in
    let d3 = g.Y.Bay.device c.give_spans.new.bay in
    let back3 = returned-both at
    (λ q. any_has is_free_of parts.spaces q || any_has (λ x. has (g.B.Stored.pages x.body)) c.args.parts.objects.items q)
    (any_has (λ span. is_page_of (h span)) spans) d0 d2 d3 back2
    (c.give_spans.ensures.back tell at (directories-show h spans tells at parts refl sound shown)) in
    let front = sound.fixed.front in
    record {
      range = omega (arith, front.first, front.count, back3.count, many-out d0 parts all);
      sized = subst (λ (k : ℕ). AreOf k (g.Y.S.Span.contents c.args.parts.fixed.front))
          (sym (ap (λ (m : Option ℕ). unwrap_or m 0) (back3.mounted ∙ all.mounted))) (front.sized tell);
    }

pub returns-clause-back : goal.returns-clause-back
returns-clause-back g c =
    let parts : PartsView = parts_view g.Y.S.Span.start g.Y.S.Span.contents g.B.Body.form g.B.Body.told g.B.Stored.entry g.B.Stored.pages
    c.args.parts.geometry c.args.parts.fixed c.args.parts.spaces.items c.args.parts.objects.items
    (g.Y.P.Port.meter c.args.parts.port).page in
    let f = stored_view g.B.Body.form g.B.Body.told g.B.Stored.entry g.B.Stored.pages in
    let tells = g.Y.S.Span.tells in
    let d0 = g.Y.Bay.device c.args.bay.now in
    let sound = c.requires.parts in
    λ tell.
    let at = part_page parts in
    let all = c.requires.all tell in
    let shown = parts-shown tells parts sound all.once in
    let d1 = g.Y.Bay.device c.give_objects.new.bay in
    let back1 = c.give_objects.ensures.back tell at (objects-show f c.args.parts.objects.items at parts refl shown) in
    let d2 = g.Y.Bay.device c.give_spaces.new.bay in
    let back2 = returned-both at (any_has (λ x. has (g.B.Stored.pages x.body)) c.args.parts.objects.items) (any_has is_free_of
    parts.spaces)
    d0 d1 d2 back1 (c.give_spaces.ensures.back tell at (spaces-show tells at parts sound shown)) in
    let spans = c.args.parts.fixed.directories.items in
    let h = span_of g.Y.S.Span.start g.Y.S.Span.contents in
    let d3 = g.Y.Bay.device c.give_spans.new.bay in
    let back3 = returned-both at
    (λ q. any_has is_free_of parts.spaces q || any_has (λ x. has (g.B.Stored.pages x.body)) c.args.parts.objects.items q)
    (any_has (λ span. is_page_of (h span)) spans) d0 d2 d3 back2
    (c.give_spans.ensures.back tell at (directories-show h spans tells at parts refl sound shown)) in
    let d4 = g.Y.Bay.device c.restore.new.self in
    let contents = g.Y.S.Span.contents c.args.parts.fixed.front in
    let moved : d4.pages ≡ after_return 0 contents d3.pages =
    c.restore.ensures.pages tell ∙ ap (λ (k : ℕ). after_return k contents d3.pages) sound.fixed.front.first in
    back-counted parts d0 d4 (g.Y.Bay.device c.absorb.new.self) (g.Y.Bay.device c.absorb.new.self).faults c.absorb.ensures.stays
    (all-came-back tells parts
    (λ q. any_has (λ span. is_page_of (h span)) spans q
    || (any_has is_free_of parts.spaces q || any_has (λ x. has (g.B.Stored.pages x.body)) c.args.parts.objects.items q))
    d0 d3 d4 sound tell all back3
    (all-covered h spans f c.args.parts.objects.items tells parts refl refl sound all.once) moved (c.restore.ensures.home tell))

pub returns-clause-faults : goal.returns-clause-faults
returns-clause-faults g c =
    let same : (g.Y.Bay.device c.restore.new.self).faults ≡ (g.Y.Bay.device c.args.bay.now).faults =
    ap (λ (x : Device). x.faults) c.restore.ensures.others ∙ (c.give_spans.ensures.faults ∙ (c.give_spaces.ensures.faults ∙
    c.give_objects.ensures.faults)) in
    subst (λ (k : ℕ). counted k (g.Y.P.Port.meter c.args.parts.port).faults ≤ (g.Y.Bay.device c.absorb.new.self).faults) same
    c.absorb.ensures.faults

pub returns-clause-cause : goal.returns-clause-cause
returns-clause-cause g c =
    absorbed-cause (g.Y.Bay.device c.args.bay.now).faults (g.Y.Bay.device c.restore.new.self).faults
    (g.Y.P.Port.meter c.args.parts.port).faults (g.Y.Bay.device c.absorb.new.self).faults
    (ap (λ (x : Device). x.faults) c.restore.ensures.others ∙ (c.give_spans.ensures.faults ∙ (c.give_spaces.ensures.faults ∙
    c.give_objects.ensures.faults)))
    c.absorb.ensures.kept c.absorb.ensures.faults c.absorb.ensures.none
