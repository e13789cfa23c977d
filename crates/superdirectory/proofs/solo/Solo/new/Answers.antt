-- All spaces are at home.
use Rattle.std.proofs.Common.{List, map, sym, ap, ◌∙◌, subst, arith}
use Rattle.std.specs.Prelude.{slice_get}
use Rattle.block_model.specs.Place.{hint_of}
use Rattle.space_directory.specs.SpaceView.{SpaceView}
use Rattle.superdirectory.specs.Solo.{AreSoloSpaces}
use Rattle.superdirectory.proofs.Solos.{all_home, made_of}
use Rattle.superdirectory.proofs.solo.Solo.new.Goals as goal

pub returns-clause-told : goal.returns-clause-told
returns-clause-told g c = λ page pages alike.
    let items = c.args.spaces.items in
    made_of page pages items c.page_size.result c.pages.result c.in-Ok.firsts.items c.in-Ok-hints_of.hints.items
    c.index.result.now c.index-2.result.now alike
    (omega (arith, c.requires.some)) c.index.ensures c.index-2.ensures c.page_size.ensures.page
    c.pages.ensures.pages (c.in-Ok.ensures ∙ ap (map (λ (v : SpaceView). v.first)) c.deref.ensures.value)
    (c.in-Ok-hints_of.ensures.hints ∙ ap (map (λ (v : SpaceView). hint_of v.free)) c.deref-2.ensures.value)

pub invariant_of-result : goal.invariant_of-result
invariant_of-result g c =
    let items = c.args.spaces.items in
    let alike = c.requires.alike.2 in
    let same = made_of c.requires.alike.0 c.requires.alike.1 items c.page_size.result c.pages.result
    c.in-Ok.firsts.items c.in-Ok-hints_of.hints.items c.index.result.now c.index-2.result.now alike
    (omega (arith, c.requires.some)) c.index.ensures c.index-2.ensures c.page_size.ensures.page
    c.pages.ensures.pages (c.in-Ok.ensures ∙ ap (map (λ (v : SpaceView). v.first)) c.deref.ensures.value)
    (c.in-Ok-hints_of.ensures.hints ∙ ap (map (λ (v : SpaceView). hint_of v.free)) c.deref-2.ensures.value) in (
      subst AreSoloSpaces (sym same) (all_home c.requires.alike.0 c.requires.alike.1 items alike
          (λ s v here. c.in-Ok-hints_of.ensures.spaces s v
          (ap (λ (l : List SpaceView). slice_get l s) c.deref-2.ensures.value ∙ here)) c.requires.most),
      λ at none. cc,
    )
