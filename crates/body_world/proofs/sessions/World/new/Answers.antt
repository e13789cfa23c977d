-- The parts make a world, in which nothing is open.
use Rattle.std.proofs.Common.{ap, ◌∙◌, arith, refl}
use Rattle.geometry_model.specs.Numbers.{space_pages}
use Rattle.geometry_model.proofs.NumberLaws.{objects-high}
use Rattle.superdirectory.specs.Solo.{SoloView}
use Rattle.body_world.specs.Session.{shown_by}
use Rattle.body_world.proofs.First.{world-new, seen-new}
use Rattle.body_world.proofs.Last.{same-somes}
use Rattle.body_world.proofs.sessions.World.new.Goals as goal

pub new-requires-clause-some : goal.new-requires-clause-some
new-requires-clause-some g c =
    let number = c.requires.parts.of_spaces.number in
    let least = c.page-page.ensures.range.spaces_low in
    omega (arith, number, least)

pub new-requires-clause-most : goal.new-requires-clause-most
new-requires-clause-most g c =
    let number = c.requires.parts.of_spaces.number in
    let most = c.page-page.ensures.range.spaces_high in
    omega (arith, number, most)

pub new-requires-clause-alike : goal.new-requires-clause-alike
new-requires-clause-alike g c = (c.args.geometry.now.page, space_pages c.args.geometry.now, c.requires.parts.of_spaces.alike)

pub new-requires-2-clause-fits : goal.new-requires-2-clause-fits
new-requires-2-clause-fits g c =
    let count = c.requires.parts.of_objects.count in
    let most = objects-high c.args.geometry.now c.page-page.ensures.range in
    let size = c.args.objects.ok.0 in
    omega (arith, count, most, size)

pub new-requires-2-clause-rests : goal.new-requires-2-clause-rests
new-requires-2-clause-rests g c = c.requires.parts.of_objects.at_rest

pub finish-requires : goal.finish-requires
finish-requires g c =
    ap (λ (s : SoloView). s.entered)
    (c.in-Ok-new.ensures.told c.args.geometry.now.page (space_pages c.args.geometry.now) c.requires.parts.of_spaces.alike)

pub invariant_of-result : goal.invariant_of-result
invariant_of-result g c =
    world-new g.P.S.Span.tells g.B.Body.good (shown_by g.B.Body.form g.B.Body.told) c.args.geometry.now c.args.spaces.items
    c.args.objects.items (g.P.Port.meter c.args.port).page c.in-Ok-new-2.objects c.in-Ok.sessions.items c.in-Ok-new.spaces
    c.page-page.ensures.range c.requires.parts c.requires.roles c.in-Ok-new-2.ensures.ok c.in-Ok.ensures
    (c.in-Ok-new.ensures.told c.args.geometry.now.page (space_pages c.args.geometry.now) c.requires.parts.of_spaces.alike)

pub returns-in-Ok-new-2-clause-ok : goal.returns-in-Ok-new-2-clause-ok
returns-in-Ok-new-2-clause-ok g c =
    seen-new (shown_by g.B.Body.form g.B.Body.told) c.args.geometry.now c.args.objects.items c.in-Ok-new-2.objects
    c.in-Ok.sessions.items (g.P.Port.meter c.args.port) c.in-Ok-new-2.ensures.ok c.in-Ok.ensures

pub returns-in-Err-new-clause-err : goal.returns-in-Err-new-clause-err
returns-in-Err-new-clause-err g c =
    let told = c.in-Ok-new.ensures.told c.args.geometry.now.page (space_pages c.args.geometry.now) c.requires.parts.of_spaces.alike in (
      same-somes c.finish.result.items c.args.spaces.items (c.finish.ensures ∙ ap (λ (s : SoloView). s.spaces) told),
      c.in-Err-new.ensures.err,
      refl,
    )
