use Rattle.std.proofs.Common.{Option, sym, ap, ◌∙◌}
use Rattle.tree_model.specs.declared.tree.Root.{Root}
use Rattle.object_body.specs.Stored.{entry_of, entry_length}
use Rattle.body_double.specs.Kept.{KeptView, working_entry}
use Rattle.body_double.proofs.KeptLemmas.{kept-tied, new-shows, old-shows}
use Rattle.body_double.proofs.kept_body.KeptBodyBody.length.Goals as goal

pub returns-then-self : goal.returns-then-self
returns-then-self g c = record {
  length = new-shows entry_length (entry_of c.self.inside.root c.self.inside.threshold) c.self.inside.created c.if-self.true
      ∙ ap (λ (v : KeptView). entry_length (working_entry v.entry v.created)) c.self.view_is;
  tied = kept-tied g.P.S.Span.tells c.args.self.now c.keeps_tree.ensures;
}

pub returns-in-Some : goal.returns-in-Some
returns-in-Some g c = record {
  length = ap (λ (root : Option Root). entry_length (entry_of root c.self.inside.threshold)) (sym c.in-Some.is)
      ∙ (old-shows entry_length (entry_of c.self.inside.root c.self.inside.threshold) c.self.inside.created c.if-self.false
      ∙ ap (λ (v : KeptView). entry_length (working_entry v.entry v.created)) c.self.view_is);
  tied = kept-tied g.P.S.Span.tells c.args.self.now c.keeps_tree.ensures;
}

pub returns-in-None : goal.returns-in-None
returns-in-None g c = record {
  length = ap (λ (root : Option Root). entry_length (entry_of root c.self.inside.threshold)) (sym c.in-None.is)
      ∙ (old-shows entry_length (entry_of c.self.inside.root c.self.inside.threshold) c.self.inside.created c.if-self.false
      ∙ ap (λ (v : KeptView). entry_length (working_entry v.entry v.created)) c.self.view_is);
  tied = kept-tied g.P.S.Span.tells c.args.self.now c.keeps_tree.ensures;
}
