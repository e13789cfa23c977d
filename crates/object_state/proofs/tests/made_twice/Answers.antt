-- The object is still one of the store with one space.
use Rattle.std.proofs.Common.{None, sym, subst, ◌∙◌}
use Rattle.fault_count.specs.Counts.{new_meter}
use Rattle.geometry_model.specs.Numbers.{Numbers}
use Rattle.superdirectory.specs.Solo.{rest_of}
use Rattle.object_body.specs.Places.{IsReady}
use Rattle.object_state.proofs.tests.made_twice.Goals as goal

pub settle-requires : goal.settle-requires
settle-requires c =
    let rest = rest_of c.in_ok-latches.latches in
    let ready = c.in_ok-latches.ensures in
    let first = (c.create-first.ensures rest None ready.none 0 (new_meter 256)).form.numbers in
    let second = (c.create-second.ensures rest None ready.none 0 (new_meter 256)).form.numbers in
    let small = second ∙ (first ∙ (c.in-Some.ensures.loaded.numbers ∙ c.in_ok-geometry.ensures)) in
    record { ready = subst (λ (n : Numbers). IsReady n rest) (sym small) ready }

pub undo-requires : goal.undo-requires
undo-requires c =
    let rest = rest_of c.in_ok-latches.latches in
    let ready = c.in_ok-latches.ensures in
    let first = (c.create-first.ensures rest None ready.none 0 (new_meter 256)).form.numbers in
    let second = (c.create-second.ensures rest None ready.none 0 (new_meter 256)).form.numbers in
    let small = second ∙ (first ∙ (c.in-Some.ensures.loaded.numbers ∙ c.in_ok-geometry.ensures)) in
    record { ready = subst (λ (n : Numbers). IsReady n rest) (sym small) ready }
