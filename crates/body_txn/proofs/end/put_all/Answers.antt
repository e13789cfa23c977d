-- The last object goes home, and the others wait.
use Rattle.std.proofs.Common.{◌≡◌, ◌++◌, ◌∷◌, [], refl, sym, ◌∙◌, subst}
use Rattle.eos_ops.specs.declared.act.Act.{Act}
use Rattle.eos_ops.specs.declared.end.End.{End}
use Rattle.std.specs.Prelude.{List}
use Rattle.std.proofs.lemmas.List.{nil_from_length}
use Rattle.shadow_txn.specs.Ending.{end_with}
use Rattle.shadow_txn.specs.Held.{AreDistinct, acts_in}
use Rattle.shadow_txn.proofs.EndingLemmas.{popped, one_added}
use Rattle.shadow_txn.proofs.HalfwayLemmas.{IsHalfway, halfway-start, halfway-end, halfway-put, halfway-found}
use Rattle.shadow_txn.proofs.HalfwayLemmas.{halfway-acts, halfway-log}
use Rattle.shadow_txn.proofs.HeldLemmas.{AreDistinct-pop, none-All}
use Rattle.body_txn.specs.Acts.{IsLedBy}
use Rattle.body_txn.specs.Ending.{GotEnd, IsReadyToEnd, IsEndStep}
use Rattle.body_txn.specs.Fields.{at_annals, at_body}
use Rattle.body_txn.proofs.EndingLemmas.{has_ended, have_ends, can_wait, HaveGone, gone-none, gone-more, gone-all}
use Rattle.body_txn.proofs.end.put_all.Goals as goal

pub puts-init : goal.puts-init
puts-init g c = record {
  each = c.requires.each;
  may = c.requires.may;
  distinct = c.requires.distinct;
  capacity = refl;
  halfway = halfway-start _ _ _ _;
  gone = gone-none _ _ _;
  under = λ t agree was. was;
}

pub puts-preserved : goal.puts-preserved
puts-preserved g c =
    let inv = c.puts.invariant in
    let rest = c.pop.new.self.items in
    let h = c.in-Some.one in
    let all = c.args.held.now.items in
    let items : c.puts.held.items ≡ rest ++ h ∷ [] = c.in-Some.ensures.items in
    let end : List Act → End = end_with c.args.closing.stamp c.args.closing.session c.args.closing.number c.args.closing.committed in
    let before = g.X.Shelf.shelving c.puts.shelf in
    let after = g.X.Shelf.shelving c.put_one.new.shelf in
    let apart : AreDistinct (rest ++ h ∷ []) = subst AreDistinct items inv.distinct in
    let parted = AreDistinct-pop rest h apart in
    let each = popped (IsReadyToEnd (IsLedBy g.B.P.S.Span.tells g.B.Body.suits (at_body g.B.Body.form)
    (at_body g.B.Body.told) g.H.Annals.tells (at_annals g.H.Annals.told) (at_annals g.H.Annals.last))
    (at_body g.B.Body.form) (at_annals g.H.Annals.told) (at_annals g.H.Annals.last)
    (at_annals g.H.Annals.spare) c.args.closing.stamp before (g.L.Hints.rest c.puts.latches))
    c.puts.held.items rest h items inv.each in
    let half = subst (λ hs. IsHalfway (λ o. GotEnd g.B.P.S.Span.tells (at_body g.B.Body.form)
    (at_body g.B.Body.told) (at_annals g.H.Annals.told) (at_annals g.H.Annals.last)
    (end (acts_in o all))) end all hs (g.X.Shelf.shelving c.args.shelf.now) before) items inv.halfway in
    let gone = subst (λ hs. HaveGone (λ x. IsEndStep g.B.P.S.Span.tells g.B.Body.suits c.args.closing.committed
    (g.B.Body.form x.body) (g.B.Body.told x.body)) all hs
    (record { rest = g.L.Hints.rest c.args.latches.now; trace = g.L.Hints.trace c.args.latches.now })
    (record { rest = g.L.Hints.rest c.puts.latches; trace = g.L.Hints.trace c.puts.latches })) items inv.gone in
    let home = c.put_one.ensures.home in
    let found = halfway-found _ end all rest h _ _ half apart in
    let acts : acts_in h.number all ≡ h.acts = halfway-acts _ end all rest h _ _ half apart in
    record {
      each = λ k d within. can_wait _ _ _ _ _ _ c.args.closing.stamp h.number home.home _ before after _ _ home.put
          c.put_one.ensures.turn.body.rest (none-All h.number rest parted.1 k d within) (each.0 k d within);
      may = c.put_one.ensures.may;
      distinct = parted.0;
      capacity = c.in-Some.ensures.capacity ∙ inv.capacity;
      halfway = halfway-put (λ o. GotEnd g.B.P.S.Span.tells (at_body g.B.Body.form) (at_body g.B.Body.told)
          (at_annals g.H.Annals.told) (at_annals g.H.Annals.last)
          (end (acts_in o all))) end _ all rest h home.home _ before after half apart home.put
          (one_added _ (g.H.Annals.told h.object.annals) _ (end h.acts) each.1.came home.got.ends)
          (subst (λ acts. GotEnd g.B.P.S.Span.tells (at_body g.B.Body.form) (at_body g.B.Body.told)
          (at_annals g.H.Annals.told) (at_annals g.H.Annals.last) (end acts) h.object home.home)
          (sym acts) home.got);
      gone = gone-more _ all rest h _ _ _ gone c.put_one.ensures.turn;
      under = λ t agree was. c.put_one.ensures.under t (agree h.number h.object found) (inv.under t agree was);
    }

pub put_one-requires-clause-terms : goal.put_one-requires-clause-terms
put_one-requires-clause-terms g c =
    let rest = c.pop.new.self.items in
    let h = c.in-Some.one in
    let all = c.args.held.now.items in
    let items : c.puts.held.items ≡ rest ++ h ∷ [] = c.in-Some.ensures.items in
    let end : List Act → End = end_with c.args.closing.stamp c.args.closing.session c.args.closing.number c.args.closing.committed in
    let apart : AreDistinct (rest ++ h ∷ []) = subst AreDistinct items c.puts.invariant.distinct in
    let half = subst (λ hs. IsHalfway (λ o. GotEnd g.B.P.S.Span.tells (at_body g.B.Body.form)
    (at_body g.B.Body.told) (at_annals g.H.Annals.told) (at_annals g.H.Annals.last)
    (end (acts_in o all))) end all hs (g.X.Shelf.shelving c.args.shelf.now)
    (g.X.Shelf.shelving c.puts.shelf)) items c.puts.invariant.halfway in
    let terms = c.requires.terms in
    (terms.0, c.puts.invariant.under terms.0 terms.2 terms.1, terms.2 h.number h.object (halfway-found _ end all rest h _ _ half apart))

pub returns-clause-ended : goal.returns-clause-ended
returns-clause-ended g c =
    let all = c.args.held.now.items in
    let end : List Act → End = end_with c.args.closing.stamp c.args.closing.session c.args.closing.number c.args.closing.committed in
    let left : c.puts.held.items ≡ [] = nil_from_length c.puts.held.items (sym c.puts.held.ok.0 ∙ c.in_default.ensures.cases.0) in
    let half = subst (λ hs. IsHalfway (λ o. GotEnd g.B.P.S.Span.tells (at_body g.B.Body.form)
    (at_body g.B.Body.told) (at_annals g.H.Annals.told) (at_annals g.H.Annals.last)
    (end (acts_in o all))) end all hs (g.X.Shelf.shelving c.args.shelf.now)
    (g.X.Shelf.shelving c.puts.shelf)) left c.puts.invariant.halfway in
    record {
      shelf = halfway-end (λ o. GotEnd g.B.P.S.Span.tells (at_body g.B.Body.form) (at_body g.B.Body.told)
          (at_annals g.H.Annals.told) (at_annals g.H.Annals.last) (end (acts_in o all))) _ end all _ _
          (λ q x y got. has_ended g.B.P.S.Span.tells (at_body g.B.Body.form) (at_body g.B.Body.told)
          (at_annals g.H.Annals.told) (at_annals g.H.Annals.last) (end (acts_in q all)) x y got) half;
      ends = have_ends g.B.P.S.Span.tells (at_body g.B.Body.form) (at_body g.B.Body.told)
          (at_annals g.H.Annals.told) (at_annals g.H.Annals.last) end all _ _ half;
      log = halfway-log _ end all _ _ half;
    }

pub returns-clause-turns : goal.returns-clause-turns
returns-clause-turns g c =
    let left : c.puts.held.items ≡ [] = nil_from_length c.puts.held.items (sym c.puts.held.ok.0 ∙ c.in_default.ensures.cases.0) in
    gone-all _ c.args.held.now.items _ _
    (subst (λ hs. HaveGone (λ x. IsEndStep g.B.P.S.Span.tells g.B.Body.suits c.args.closing.committed
    (g.B.Body.form x.body) (g.B.Body.told x.body)) c.args.held.now.items hs
    (record { rest = g.L.Hints.rest c.args.latches.now; trace = g.L.Hints.trace c.args.latches.now })
    (record {
      rest = g.L.Hints.rest c.puts.latches;
      trace = g.L.Hints.trace c.puts.latches;
    })) left c.puts.invariant.gone)
