-- A store whose pages of no object were written goes back whole.
use Rattle.std.proofs.Common.{◌∙◌, ℕ, List, subst}
use Rattle.base_laws.proofs.ResultLaws.{on_ok, on_err}
use Rattle.store_parts.specs.Parts.{PartsView, parts_view, stored_view}
use Rattle.store_parts.specs.Fixed.{FixedView, fixed_view}
use Rattle.space_directory.specs.SpaceView.{SpaceView}
use Rattle.image_store.specs.Closing.{AreFixedCut, closed_directory}
use Rattle.image_store.proofs.ClosingLemmas.{closed-store, fixed-cut, same-shown, with_fixed, written-parts}
use Rattle.image_store.proofs.ClosingLemmas.{close-counted, close-raised, close-cause}
use Rattle.image_store.proofs.closing.close_store.Goals as goal

pub abandon_store-requires-clause-parts : goal.abandon_store-requires-clause-parts
abandon_store-requires-clause-parts g c = λ _ _.
    let sound = c.requires.parts in
    record {
      in_range = sound.in_range;
      fixed = c.write_fixed-written.ensures.fixed;
      spaces = sound.spaces;
      number = sound.number;
      objects = sound.objects;
      port = c.write_fixed-written.ensures.port.page ∙ sound.port;
    }

pub abandon_store-requires-clause-all : goal.abandon_store-requires-clause-all
abandon_store-requires-clause-all g c = λ _ _ tell.
    let all = c.requires.all tell in
    record { mounted = all.mounted; out = all.out; once = all.once }

pub returns-clause-home : goal.returns-clause-home
returns-clause-home g c = λ tell. (c.abandon_store.ensures.back tell).home

pub returns-clause-closed : goal.returns-clause-closed
returns-clause-closed g c =
    let parts : PartsView = parts_view g.Y.S.Span.start g.Y.S.Span.contents g.B.Body.form g.B.Body.told g.B.Stored.entry g.B.Stored.pages
    c.args.parts.geometry c.args.parts.fixed c.args.parts.spaces.items c.args.parts.objects.items
    (g.Y.P.Port.meter c.args.parts.port).page in
    let fixed : FixedView = fixed_view g.Y.S.Span.start g.Y.S.Span.contents c.write_fixed-written.new.fixed in
    let f = stored_view g.B.Body.form g.B.Body.told g.B.Stored.entry g.B.Stored.pages in
    let page : ℕ = (g.Y.P.Port.meter c.write_fixed-written.new.port).page in
    on_ok c.write_fixed-written.result
    (λ written tell database moment stands.
    let back = c.abandon_store.ensures.back tell in
    closed-store g.Y.S.Span.tells parts fixed database moment (g.Y.Bay.device c.args.bay.now)
    (g.Y.Bay.device c.abandon_store.new.bay) tell c.requires.parts stands
    (record {
      home = back.home;
      count = back.count;
      behind = back.behind;
      shows = same-shown (with_fixed parts fixed) page _ back.shows;
    })
    (written-parts f parts.numbers parts.spaces c.deref.result.now c.args.parts.objects.items c.deref-2.result.now fixed
    c.deref.ensures.value c.deref-2.ensures.value (written tell)))
    c.write_fixed-written.ensures.written

pub returns-clause-failed : goal.returns-clause-failed
returns-clause-failed g c =
    let parts : PartsView = parts_view g.Y.S.Span.start g.Y.S.Span.contents g.B.Body.form g.B.Body.told g.B.Stored.entry g.B.Stored.pages
    c.args.parts.geometry c.args.parts.fixed c.args.parts.spaces.items c.args.parts.objects.items
    (g.Y.P.Port.meter c.args.parts.port).page in
    let fixed : FixedView = fixed_view g.Y.S.Span.start g.Y.S.Span.contents c.write_fixed-written.new.fixed in
    on_err c.write_fixed-written.result
    (λ failed tell at shown.
    let cut = failed tell in
    fixed-cut parts fixed (closed_directory parts.numbers parts.spaces) cut.0 at _ (c.requires.all tell).once shown
    (same-shown (with_fixed parts fixed) (g.Y.P.Port.meter c.write_fixed-written.new.port).page _ (c.abandon_store.ensures.back tell).shows)
    (subst (λ (spaces : List SpaceView). AreFixedCut parts.numbers (closed_directory parts.numbers spaces) cut.0 parts.fixed fixed)
    c.deref.ensures.value cut.1))
    c.write_fixed-written.ensures.failed

pub returns-clause-faults : goal.returns-clause-faults
returns-clause-faults g c =
    close-counted (g.Y.Bay.device c.args.bay.now).faults (g.Y.P.Port.meter c.args.parts.port).faults
    (g.Y.P.Port.meter c.write_fixed-written.new.port).faults (g.Y.Bay.device c.abandon_store.new.bay).faults
    c.write_fixed-written.ensures.cause.kept
    c.abandon_store.ensures.faults

pub returns-clause-raised : goal.returns-clause-raised
returns-clause-raised g c =
    close-raised c.write_fixed-written.result (g.Y.Bay.device c.args.bay.now).faults (g.Y.P.Port.meter c.args.parts.port).faults
    (g.Y.P.Port.meter c.write_fixed-written.new.port).faults (g.Y.Bay.device c.abandon_store.new.bay).faults
    c.write_fixed-written.ensures.cause
    c.abandon_store.ensures.faults

pub returns-clause-cause : goal.returns-clause-cause
returns-clause-cause g c =
    close-cause _ (g.Y.Bay.device c.args.bay.now).faults (g.Y.P.Port.meter c.args.parts.port).faults
    (g.Y.P.Port.meter c.write_fixed-written.new.port).faults (g.Y.Bay.device c.abandon_store.new.bay).faults
    c.write_fixed-written.ensures.cause
    c.abandon_store.ensures.cause
