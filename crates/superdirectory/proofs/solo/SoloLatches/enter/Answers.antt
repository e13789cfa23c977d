-- The space that goes is the told one, and all others stay at home.
use Rattle.std.proofs.Common.{◌≡◌, ◌<◌, List, length, map, Option, Some, None, sym, ap, ◌∙◌, subst, arith}
use Rattle.std.specs.Prelude.{slice_get}
use Rattle.space_directory.specs.SpaceView.{SpaceView}
use Rattle.superdirectory.specs.declared.hint.Hint.{Hint}
use Rattle.superdirectory.specs.Rest.{Rest, IsOf, entering}
use Rattle.superdirectory.specs.Solo.{SoloView, AreSoloSpaces, frame_of, rest_of}
use Rattle.superdirectory.proofs.Solos.{count_here, taken_out, read_here, told_there, left_out}
use Rattle.superdirectory.proofs.solo.SoloLatches.enter.Goals as goal

pub invariant_of-self : goal.invariant_of-self
invariant_of-self g c =
    let i = c.self.inside in
    let sound = c.self.invariant.0 in
    let none : i.entered ≡ None = ap (λ (solo : SoloView). solo.entered) c.self.view_is ∙ c.requires.none in
    let firsts = ap (λ (solo : SoloView). length solo.firsts) c.self.view_is in
    let number : c.args.s < length i.firsts.items = omega (arith, c.requires.number, firsts) in
    let less : c.args.s < length i.spaces.items = omega (arith, count_here i.entered i.spaces.items none, sound.spaces) in
    let gone = taken_out i.entered i.spaces.items c.swap_remove.new.self.items c.args.s c.swap_remove.result none
    less c.swap_remove.ensures.items in (
      subst (λ (spaces : List (Option SpaceView)). AreSoloSpaces (record {
        page = i.page;
        pages = i.pages;
        firsts = i.firsts.items;
        spaces = spaces;
        hints = map (λ (h : Hint). h.0) i.hints.items;
        entered = Some c.args.s;
      })) (sym gone) (left_out _ c.args.s sound none number),
      λ at same. omega (arith, c.swap_remove.ensures.len, c.swap_remove.ensures.capacity, i.spaces.ok),
    )

pub returns-clause-home : goal.returns-clause-home
returns-clause-home g c =
    let i = c.self.inside in
    let sound = c.self.invariant.0 in
    let none : i.entered ≡ None = ap (λ (solo : SoloView). solo.entered) c.self.view_is ∙ c.requires.none in
    let firsts = ap (λ (solo : SoloView). length solo.firsts) c.self.view_is in
    let less : c.args.s < length i.spaces.items =
    omega (arith, c.requires.number, firsts, count_here i.entered i.spaces.items none, sound.spaces) in
    let here = read_here i.entered i.spaces.items c.args.s c.swap_remove.result none less c.swap_remove.ensures.value in
    subst (λ (solo : SoloView). IsOf (frame_of solo) c.args.s c.swap_remove.result) c.self.view_is
    (sound.home c.args.s c.swap_remove.result here).home

pub returns-clause-told : goal.returns-clause-told
returns-clause-told g c = λ v told.
    let i = c.self.inside in
    let sound = c.self.invariant.0 in
    let none : i.entered ≡ None = ap (λ (solo : SoloView). solo.entered) c.self.view_is ∙ c.requires.none in
    let firsts = ap (λ (solo : SoloView). length solo.firsts) c.self.view_is in
    let less : c.args.s < length i.spaces.items =
    omega (arith, c.requires.number, firsts, count_here i.entered i.spaces.items none, sound.spaces) in
    let here = read_here i.entered i.spaces.items c.args.s c.swap_remove.result none less c.swap_remove.ensures.value in
    let there = ap (λ (solo : SoloView). slice_get solo.spaces c.args.s) c.self.view_is ∙ told_there c.args.self.now c.args.s v told in
    let same : Some (Some c.swap_remove.result) ≡ Some (Some v) = sym here ∙ there in cc

pub returns-clause-rest : goal.returns-clause-rest
returns-clause-rest g c =
    let i = c.self.inside in
    let sound = c.self.invariant.0 in
    let none : i.entered ≡ None = ap (λ (solo : SoloView). solo.entered) c.self.view_is ∙ c.requires.none in
    let firsts = ap (λ (solo : SoloView). length solo.firsts) c.self.view_is in
    let less : c.args.s < length i.spaces.items =
    omega (arith, c.requires.number, firsts, count_here i.entered i.spaces.items none, sound.spaces) in
    let gone = taken_out i.entered i.spaces.items c.swap_remove.new.self.items c.args.s c.swap_remove.result none
    less c.swap_remove.ensures.items in
    let with_spaces : List (Option SpaceView) → Rest = λ spaces. record {
      frame = record { table = None; page = i.page; pages = i.pages; firsts = i.firsts.items };
      spaces = Some spaces;
      entered = Some c.args.s;
    } in
    ap with_spaces gone ∙ ap (λ (solo : SoloView). entering (rest_of solo) c.args.s) c.self.view_is
