-- The hint that is kept is the told space's.
use Rattle.std.proofs.Common.{◌≡◌, ◌<◌, length, Some, sym, ap, ◌∙◌, arith}
use Rattle.std.proofs.lemmas.List.{length-map}
use Rattle.std.specs.Prelude.{slice_get}
use Rattle.block_model.specs.Place.{hint_of}
use Rattle.superdirectory.specs.declared.hint.Hint.{Hint}
use Rattle.superdirectory.specs.Solo.{SoloView}
use Rattle.superdirectory.proofs.Solos.{told_there, read_hint}
use Rattle.superdirectory.proofs.solo.SoloHints.look.Goals as goal

pub returns-clause-exact : goal.returns-clause-exact
returns-clause-exact g c = λ v told.
    let sound = c.self.invariant.0 in
    let home = sound.home c.args.s v (ap (λ (solo : SoloView). slice_get solo.spaces c.args.s) c.self.view_is
    ∙ told_there c.args.self.now c.args.s v told) in
    let firsts = ap (λ (solo : SoloView). length solo.firsts) c.self.view_is in
    let less : c.args.s < length c.self.inside.hints.items =
    omega (arith, c.requires, firsts, sound.hints, length-map c.self.inside.hints.items (λ (h : Hint). h.0)) in
    let here = read_hint c.self.inside.hints.items c.args.s c.index.result.now less c.index.ensures in
    let same : Some c.index.result.now.0 ≡ Some (hint_of v.free) = sym here ∙ home.hint in cc
