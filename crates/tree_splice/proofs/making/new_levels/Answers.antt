-- Where the device tells, the new levels are ones that a tree may have.
use Rattle.std.proofs.Common.{ℕ, length, map, ap, refl, sym, subst, ◌∙◌, arith}
use Rattle.std.proofs.lemmas.List.{length-map}
use Rattle.std.specs.Prelude.{IsTrue, Err}
use Rattle.fault_count.proofs.CountLaws.{HasCause-found}
use Rattle.local_laws.specs.Path.{splice_path}
use Rattle.tree_model.specs.Node.{room_of}
use Rattle.tree_splice.specs.Remade.{AreAllCounted, remade}
use Rattle.tree_splice.proofs.making.new_levels.Goals as goal

pub returns-then-len-lt256-clause-levels : goal.returns-then-len-lt256-clause-levels
returns-then-len-lt256-clause-levels g c =
    c.in-Ok.ensures.levels
    ∙ ap (λ (f : ℕ). map remade (splice_path f c.args.path.now c.args.place.from c.args.place.count c.args.fresh.now c.args.pages.now))
    (c.fan_out-f.ensures.room ∙ ap room_of c.page.ensures)

pub returns-else-len-lt256-clause-cause : goal.returns-else-len-lt256-clause-cause
returns-else-len-lt256-clause-cause g c =
    let f = room_of (g.P.Port.meter c.args.port.now).page in
    let after = splice_path f c.args.path.now c.args.place.from c.args.place.count c.args.fresh.now c.args.pages.now in
    let untold : IsTrue g.P.S.Span.tells → ⊥ = λ t.
    let low = (c.requires.can t).low c.args.pages.now in
    let many = c.if-len-lt256.false in
    let same = ap length (c.in-Ok.ensures.levels
    ∙ ap (λ (n : ℕ). map remade (splice_path n c.args.path.now c.args.place.from c.args.place.count c.args.fresh.now c.args.pages.now))
    (c.fan_out-f.ensures.room ∙ ap room_of c.page.ensures)) in
    let long = length-map after remade in
    let count = c.len.ensures ∙ c.in-Ok.levels.ok.0 in
    absurd (omega (arith, low, many, same, long, count)) in
    HasCause-found _ _ _ _ refl c.blame.ensures.kept (c.blame.ensures.faults untold) refl

pub returns-in-Err-Wide-clause-cause : goal.returns-in-Err-Wide-clause-cause
returns-in-Err-Wide-clause-cause g c =
    let untold : IsTrue g.P.S.Span.tells → ⊥ = λ t.
    c.in-Err-Wide.ensures.wide (ap (λ e. Err e) c.in-Err-Wide.field-0-is)
    (subst (λ (n : ℕ). AreAllCounted (splice_path n c.args.path.now c.args.place.from c.args.place.count c.args.fresh.now
    c.args.pages.now)) (sym (c.fan_out-f.ensures.room ∙ ap room_of c.page.ensures)) ((c.requires.can t).counted c.args.pages.now)) in
    HasCause-found _ _ _ _ refl c.blame-in-Err-Wide.ensures.kept (c.blame-in-Err-Wide.ensures.faults untold) refl
