-- The port and the spaces fit what is held, and are used.
use Rattle.std.proofs.Common.{◌≡◌, refl, ap, sym, subst, inl, inr}
use Rattle.superdirectory.specs.Grants.{KeepsFrame}
use Rattle.superdirectory.specs.Solo.{rest_of}
use Rattle.txn_rows.proofs.SessionLemmas.{still, moved, sized-held, ready-one, some-space}
use Rattle.txn_rows.proofs.session.Session.edit.Goals as goal

pub edit-requires-clause-page : goal.edit-requires-clause-page
edit-requires-clause-page g c = sized-held _ _ _ _ _ _ _ _ _ c.self.invariant c.args.o

pub edit-requires-clause-ready : goal.edit-requires-clause-ready
edit-requires-clause-ready g c = ready-one _ _ _ _ _ _ _ _ _ c.self.invariant c.args.o

pub edit-requires-clause-some : goal.edit-requires-clause-some
edit-requires-clause-some g c = some-space _ _ _ _ _ _ _ _ _ c.self.invariant

-- no space is entered, and the page size stays
kept : (g : _) (c : goal.After-edit g) → KeepsFrame (rest_of c.self.inside.spaces) (rest_of c.edit.new.latches)
    × (c.edit.new.port.meter.page ≡ c.self.inside.port.meter.page)
kept g c =
    elim c.edit.ensures.edit [
      | inl none ↦ (
        subst (λ s. KeepsFrame (rest_of c.self.inside.spaces) (rest_of s)) (sym none.1.2)
            (record { frame = refl; entered = c.self.invariant.ready.none }),
        ap (λ p. p.meter.page) none.1.3,
      )
      | inr made ↦ (made.made.1.body.rest, made.made.1.body.port.page)
    ]

pub invariant_of-self : goal.invariant_of-self
invariant_of-self g c =
    moved _ _ _ _ _ c.edit.new.self _ _ _ _ _
    (still _ _ _ _ _ c.self.inside.txn c.edit.new.self _ _ _ c.self.invariant c.edit.ensures.goes_on) (kept g c).0 (kept g c).1
