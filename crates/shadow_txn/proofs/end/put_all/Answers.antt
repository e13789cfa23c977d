-- The last object goes home, and the others wait.
use Rattle.std.proofs.Common.{◌≡◌, ◌++◌, ◌∷◌, [], sym, ◌∙◌, subst}
use Rattle.eos_ops.specs.declared.act.Act.{Act}
use Rattle.eos_ops.specs.declared.end.End.{End}
use Rattle.std.specs.Prelude.{List}
use Rattle.std.proofs.lemmas.List.{nil_from_length}
use Rattle.shadow_txn.specs.Ending.{HasGot, CanEnd, end_with}
use Rattle.shadow_txn.specs.Held.{AreDistinct, acts_in}
use Rattle.shadow_txn.proofs.EndingLemmas.{popped, has_ended, one_added, can_wait}
use Rattle.shadow_txn.proofs.HalfwayLemmas.{IsHalfway, halfway-end, halfway-put, halfway-found, halfway-acts}
use Rattle.shadow_txn.proofs.HeldLemmas.{AreDistinct-pop, none-All}
use Rattle.shadow_txn.proofs.end.put_all.Goals as goal

pub puts-preserved : goal.puts-preserved
puts-preserved g c =
    let told = g.H.Annals.told in
    let last = g.H.Annals.last in
    let inv = c.puts.invariant in
    let rest = c.pop.new.self.items in
    let h = c.in-Some.one in
    let all = c.args.held.now.items in
    let items : c.puts.held.items ≡ rest ++ h ∷ [] = c.in-Some.ensures.items in
    let end : List Act → End = end_with c.args.closing.stamp c.args.closing.session c.args.closing.number c.args.closing.committed in
    let before = g.X.Shelf.shelving c.puts.shelf in
    let after = g.X.Shelf.shelving c.put_one.new.shelf in
    let apart : AreDistinct (rest ++ h ∷ []) = subst AreDistinct items inv.distinct in
    let parted = AreDistinct-pop rest h apart in
    let each = popped (CanEnd g.H.Annals.tells told last g.H.Annals.spare c.args.closing.stamp before)
    c.puts.held.items rest h items inv.each in
    let half = subst (λ hs. IsHalfway (λ o. HasGot told last (end (acts_in o all))) end all hs
    (g.X.Shelf.shelving c.args.shelf.now) before) items inv.halfway in
    let home = c.put_one.ensures.home in
    let found = halfway-found _ end all rest h _ _ half apart in
    let acts : acts_in h.number all ≡ h.acts = halfway-acts _ end all rest h _ _ half apart in
    record {
      each = λ k d within. can_wait _ g.H.Annals.tells told last g.H.Annals.spare c.args.closing.stamp h.number
          home.home _ before after home.put (none-All h.number rest parted.1 k d within) (each.0 k d within);
      may = c.put_one.ensures.may;
      distinct = parted.0;
      capacity = c.in-Some.ensures.capacity ∙ inv.capacity;
      halfway = halfway-put (λ o. HasGot told last (end (acts_in o all))) end _ all rest h home.home _ before after half apart home.put
          (one_added _ (told h.object.annals) _ (end h.acts) each.1.came home.got.ends)
          (subst (λ acts. HasGot told last (end acts) h.object home.home) (sym acts) home.got);
      under = λ t frame legal was. c.put_one.ensures.under t frame (legal h.number h.object found) (inv.under t frame legal was);
    }

pub put_one-requires-clause-terms : goal.put_one-requires-clause-terms
put_one-requires-clause-terms g c =
    let rest = c.pop.new.self.items in
    let h = c.in-Some.one in
    let all = c.args.held.now.items in
    let items : c.puts.held.items ≡ rest ++ h ∷ [] = c.in-Some.ensures.items in
    let end : List Act → End = end_with c.args.closing.stamp c.args.closing.session c.args.closing.number c.args.closing.committed in
    let apart : AreDistinct (rest ++ h ∷ []) = subst AreDistinct items c.puts.invariant.distinct in
    let half = subst (λ hs. IsHalfway (λ o. HasGot g.H.Annals.told g.H.Annals.last (end (acts_in o all))) end all hs
    (g.X.Shelf.shelving c.args.shelf.now) (g.X.Shelf.shelving c.puts.shelf)) items c.puts.invariant.halfway in
    let terms = c.requires.terms in (
      terms.0,
      c.puts.invariant.under terms.0 terms.2 terms.3 terms.1,
      terms.2,
      terms.3 h.number h.object (halfway-found _ end all rest h _ _ half apart),
    )

pub returns-clause-shelf : goal.returns-clause-shelf
returns-clause-shelf g c =
    let all = c.args.held.now.items in
    let end : List Act → End = end_with c.args.closing.stamp c.args.closing.session c.args.closing.number c.args.closing.committed in
    let left : c.puts.held.items ≡ [] = nil_from_length c.puts.held.items (sym c.puts.held.ok.0 ∙ c.in_default.ensures.cases.0) in
    halfway-end (λ o. HasGot g.H.Annals.told g.H.Annals.last (end (acts_in o all))) _ end all _ _
    (λ q x y got. has_ended g.H.Annals.told g.H.Annals.last (end (acts_in q all)) x y got)
    (subst (λ hs. IsHalfway (λ o. HasGot g.H.Annals.told g.H.Annals.last (end (acts_in o all))) end all hs
    (g.X.Shelf.shelving c.args.shelf.now) (g.X.Shelf.shelving c.puts.shelf)) left c.puts.invariant.halfway)
