-- The space that comes back is at home with its exact hint.
use Rattle.std.proofs.Common.{◌≡◌, ◌<◌, ◌≤◌, ℕ, List, length, map, set, Option, Some, None, sym, ap, ◌∙◌, subst, arith}
use Rattle.std.proofs.Math.Seq.{map-set}
use Rattle.std.specs.Prelude.{IfSome, slice_set}
use Rattle.block_model.specs.Place.{hint_of}
use Rattle.space_directory.specs.SpaceView.{SpaceView, IsSpace}
use Rattle.superdirectory.specs.declared.hint.Hint.{Hint}
use Rattle.superdirectory.specs.Rest.{Rest, IsOf, hints_after, leaving}
use Rattle.superdirectory.specs.Solo.{SoloView, AreSoloSpaces, frame_of, rest_of}
use Rattle.superdirectory.proofs.Solos.{count_but_one, put_in, filled_in}
use Rattle.superdirectory.proofs.solo.SoloLatches.take_back.Goals as goal

pub invariant_of-self : goal.invariant_of-self
invariant_of-self g c =
    let i = c.self.inside in
    let sound = c.self.invariant.0 in
    let was : i.entered ≡ Some c.args.s = ap (λ (solo : SoloView). solo.entered) c.self.view_is ∙ c.requires.away.entered in
    let firsts = ap (λ (solo : SoloView). length solo.firsts) c.self.view_is in
    let number : c.args.s < length i.firsts.items = omega (arith, c.requires.away.there, firsts) in
    let most : c.args.s ≤ length i.spaces.items = omega (arith, count_but_one i.entered i.spaces.items c.args.s was, sound.spaces) in
    let back = put_in i.entered i.spaces.items c.put_back.new.items.items c.args.s c.unwrap-space.result was most c.put_back.ensures in
    let hint : c.of.result.0 ≡ hint_of c.unwrap-space.result.free = c.of.ensures ∙ ap hint_of c.as_ref.ensures.free in
    let hints : map (λ (h : Hint). h.0) (slice_set i.hints.items c.args.s c.of.result)
    ≡ set (map (λ (h : Hint). h.0) i.hints.items) c.args.s (hint_of c.unwrap-space.result.free) =
    map-set (λ (h : Hint). h.0) i.hints.items c.args.s c.of.result ∙ ap (set (map (λ (h : Hint). h.0) i.hints.items) c.args.s) hint in
    let held : c.args.space.now ≡ Some c.unwrap-space.result = sym c.take.ensures.value ∙ c.unwrap-space.ensures in
    let space = subst (λ (o : Option SpaceView). IfSome o IsSpace) held c.requires.space in
    let home = subst (λ (solo : SoloView). IsOf (frame_of solo) c.args.s c.unwrap-space.result) (sym c.self.view_is)
    (subst (λ (o : Option SpaceView). IfSome o (IsOf (frame_of c.args.self.now) c.args.s)) held
    c.requires.home) in
    let with_row : List (Option SpaceView) → List ℕ → SoloView = λ spaces row. record {
      page = i.page;
      pages = i.pages;
      firsts = i.firsts.items;
      spaces = spaces;
      hints = row;
      entered = None;
    } in (
      subst (λ (row : List ℕ). AreSoloSpaces (with_row (map Some c.put_back.new.items.items) row)) (sym hints) (
          subst (λ (spaces : List (Option SpaceView)). AreSoloSpaces
          (with_row spaces (set (map (λ (h : Hint). h.0) i.hints.items) c.args.s
          (hint_of c.unwrap-space.result.free)))) (sym back)
          (filled_in _ c.args.s c.unwrap-space.result sound was number space home)
          ),
      λ at same. cc,
    )

pub returns-clause-hints : goal.returns-clause-hints
returns-clause-hints g c =
    let i = c.self.inside in
    let hint : c.of.result.0 ≡ hint_of c.unwrap-space.result.free = c.of.ensures ∙ ap hint_of c.as_ref.ensures.free in
    let held : c.args.space.now ≡ Some c.unwrap-space.result = sym c.take.ensures.value ∙ c.unwrap-space.ensures in
    let now : Some (map (λ (h : Hint). h.0) (slice_set i.hints.items c.args.s c.of.result))
    ≡ hints_after (Some c.args.self.now.hints) c.args.s c.unwrap-space.result =
    ap (λ (row : List ℕ). Some row) (map-set (λ (h : Hint). h.0) i.hints.items c.args.s c.of.result
    ∙ ap (set (map (λ (h : Hint). h.0) i.hints.items) c.args.s) hint)
    ∙ ap (λ (solo : SoloView). Some (slice_set solo.hints c.args.s (hint_of c.unwrap-space.result.free))) c.self.view_is in
    subst (λ (o : Option SpaceView). IfSome o
    (λ v. Some (map (λ (h : Hint). h.0) (slice_set i.hints.items c.args.s c.of.result))
    ≡ hints_after (Some c.args.self.now.hints) c.args.s v)) (sym held) now

pub returns-clause-rest : goal.returns-clause-rest
returns-clause-rest g c =
    let i = c.self.inside in
    let sound = c.self.invariant.0 in
    let was : i.entered ≡ Some c.args.s = ap (λ (solo : SoloView). solo.entered) c.self.view_is ∙ c.requires.away.entered in
    let firsts = ap (λ (solo : SoloView). length solo.firsts) c.self.view_is in
    let most : c.args.s ≤ length i.spaces.items =
    omega (
      arith,
      c.requires.away.there,
      firsts,
      count_but_one i.entered i.spaces.items c.args.s was,
      sound.spaces,
    ) in
    let back = put_in i.entered i.spaces.items c.put_back.new.items.items c.args.s c.unwrap-space.result was most c.put_back.ensures in
    let with_spaces : List (Option SpaceView) → Rest = λ spaces. record {
      frame = record { table = None; page = i.page; pages = i.pages; firsts = i.firsts.items };
      spaces = Some spaces;
      entered = None;
    } in
    let held : c.args.space.now ≡ Some c.unwrap-space.result = sym c.take.ensures.value ∙ c.unwrap-space.ensures in
    let now : with_spaces (map Some c.put_back.new.items.items) ≡ leaving (rest_of c.args.self.now) c.args.s c.unwrap-space.result =
    ap with_spaces back ∙ ap (λ (solo : SoloView). leaving (rest_of solo) c.args.s c.unwrap-space.result) c.self.view_is in
    subst (λ (o : Option SpaceView). IfSome o (λ v. with_spaces (map Some c.put_back.new.items.items)
    ≡ leaving (rest_of c.args.self.now) c.args.s v)) (sym held) now
