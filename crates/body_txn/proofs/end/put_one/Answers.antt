-- The object goes back with one end more, and what was legal stays so.
use Rattle.std.proofs.Common.{◌≡◌, ◌∷◌, [], refl, ap, ◌∙◌}
use Rattle.std.specs.Option.{option_map_or, option_flatten}
use Rattle.eos_ops.specs.declared.end.End.{End}
use Rattle.object_body.specs.Form.{listed}
use Rattle.object_locks.specs.Shelving.{Terms, Suits, added_ends}
use Rattle.shadow_txn.specs.Ending.{end_with}
use Rattle.shadow_txn.proofs.EndingLemmas.{one_added, may_return-one, may_next}
use Rattle.body_txn.specs.Fields.{at_annals, at_body, frame_by, LegalBy}
use Rattle.body_txn.proofs.EndingLemmas.{legal_ended, numbers_ended, rests_ended}
use Rattle.body_txn.proofs.end.put_one.Goals as goal

-- the end of this object
abbrev end : (g : _) (c : goal.After-put-arg-1 g) → End
end g c = end_with c.args.closing.stamp c.args.closing.session c.args.closing.number c.args.closing.committed c.args.one.acts

suits : (g : _) (c : goal.After-put-arg-1 g) (t : Terms)
    → Suits (frame_by g.B.Body.form) (LegalBy g.B.P.S.Span.tells g.H.Annals.told g.B.Body.told) t c.args.one.number c.args.one.object
    → Suits (frame_by g.B.Body.form) (LegalBy g.B.P.S.Span.tells g.H.Annals.told g.B.Body.told) t c.args.one.number c.end_object.new.object
suits g c t was = record {
  framed = ap listed (numbers_ended c.args.closing.committed _ _ c.end_object.ensures.got.lengths) ∙ was.framed;
  history =
      legal_ended g.B.P.S.Span.tells g.B.Body.suits (at_body g.B.Body.form)
      (at_body g.B.Body.told) g.H.Annals.tells (at_annals g.H.Annals.told) (at_annals g.H.Annals.last)
      _ c.args.one.object c.end_object.new.object (end g c) _ refl
      (g.met.H.Annals.tells_all c.args.one.object.annals) was.history c.requires.can.led c.requires.can.above c.end_object.ensures.got;
}

added : (g : _) (c : goal.After-put-arg-1 g)
    → added_ends (option_flatten ((g.X.Shelf.shelving c.args.shelf.now).out c.args.one.number))
    (g.H.Annals.told c.end_object.new.object.annals)
    ≡ option_map_or (λ _. end g c ∷ []) (option_flatten ((g.X.Shelf.shelving c.args.shelf.now).out c.args.one.number)) []
added g c = one_added _ (g.H.Annals.told c.args.one.object.annals) _ (end g c) c.requires.can.came c.end_object.ensures.got.ends

pub put-requires-clause-out : goal.put-requires-clause-out
put-requires-clause-out g c =
    may_return-one _ (g.H.Annals.told c.args.one.object.annals) _ (end g c) _ c.requires.can.came
    c.end_object.ensures.got.ends c.requires.may

pub put-requires-clause-rests : goal.put-requires-clause-rests
put-requires-clause-rests g c = rests_ended c.args.closing.committed _ _ c.end_object.ensures.got.lengths

pub put-requires-clause-terms : goal.put-requires-clause-terms
put-requires-clause-terms g c = let terms = c.requires.terms in (terms.0, terms.1, suits g c terms.0 terms.2)

pub returns-clause-home : goal.returns-clause-home
returns-clause-home g c = record { home = c.end_object.new.object; put = c.put.ensures.put; got = c.end_object.ensures.got }

pub returns-clause-may : goal.returns-clause-may
returns-clause-may g c = may_next _ c.args.one.number c.end_object.new.object (end g c.before) _ _ c.put.ensures.put
    (added g c.before) c.requires.may

pub returns-clause-under : goal.returns-clause-under
returns-clause-under g c = λ t was under. c.put.ensures.under t under (suits g c.before t was)
