-- The object goes back with one end more, and what was legal stays so.
use Rattle.std.proofs.Common.{◌≡◌, ◌∷◌, [], refl, sym}
use Rattle.std.specs.Option.{option_map_or, option_flatten}
use Rattle.object_locks.specs.Shelving.{added_ends}
use Rattle.shadow_txn.specs.Ending.{end_with}
use Rattle.eos_ops.specs.declared.end.End.{End}
use Rattle.eos_ops.specs.declared.plain.Plain.{Plain}
use Rattle.shadow_txn.specs.Objects.{IsLegalObject}
use Rattle.shadow_txn.proofs.EndingLemmas.{one_added, may_return-one, may_next, legal_ended}
use Rattle.shadow_txn.proofs.end.put_one.Goals as goal

-- the end of this object
abbrev end : (g : _) (c : goal.After-put-arg-1 g) → End
end g c = end_with c.args.closing.stamp c.args.closing.session c.args.closing.number c.args.closing.committed c.args.one.acts

legal : (g : _) (c : goal.After-put-arg-1 g) (first : Plain) →
    IsLegalObject g.H.Annals.told first c.args.one.object →
    IsLegalObject g.H.Annals.told first c.end_object.new.object
legal g c first was =
    legal_ended g.H.Annals.tells g.H.Annals.told g.H.Annals.last first c.args.one.object c.end_object.new.object (end g c) _ refl
    (g.met.H.Annals.tells_all c.args.one.object.annals) was c.requires.can.led c.requires.can.above c.end_object.ensures

added : (g : _) (c : goal.After-put-arg-1 g)
    → added_ends (option_flatten ((g.X.Shelf.shelving c.args.shelf.now).out c.args.one.number))
    (g.H.Annals.told c.end_object.new.object.annals)
    ≡ option_map_or (λ _. end g c ∷ []) (option_flatten ((g.X.Shelf.shelving c.args.shelf.now).out c.args.one.number)) []
added g c = one_added _ (g.H.Annals.told c.args.one.object.annals) _ (end g c) c.requires.can.came c.end_object.ensures.ends

pub put-requires-clause-out : goal.put-requires-clause-out
put-requires-clause-out g c =
    may_return-one _ (g.H.Annals.told c.args.one.object.annals) _ (end g c) _ c.requires.can.came c.end_object.ensures.ends c.requires.may

pub put-requires-clause-terms : goal.put-requires-clause-terms
put-requires-clause-terms g c =
    let terms = c.requires.terms in
    (terms.0, terms.1, record { framed = sym terms.2; history = legal g c _ terms.3 })

pub returns-clause-home : goal.returns-clause-home
returns-clause-home g c = record { home = c.end_object.new.object; put = c.put.ensures.put; got = c.end_object.ensures }

pub returns-clause-may : goal.returns-clause-may
returns-clause-may g c = may_next _ c.args.one.number c.end_object.new.object (end g c.before) _ _ c.put.ensures.put
    (added g c.before) c.requires.may

pub returns-clause-under : goal.returns-clause-under
returns-clause-under g c = λ t frame was under. c.put.ensures.under t under (record {
  framed = sym frame;
  history =
      legal g c.before _ was;
})
