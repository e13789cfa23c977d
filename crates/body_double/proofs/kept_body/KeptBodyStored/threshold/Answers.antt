use Rattle.std.proofs.Common.{Option, sym, ap, ◌∙◌}
use Rattle.tree_model.specs.declared.tree.Root.{Root}
use Rattle.object_body.specs.Stored.{entry_of, threshold_in}
use Rattle.body_double.specs.Kept.{KeptView, working_entry}
use Rattle.body_double.proofs.KeptLemmas.{new-shows, old-shows}
use Rattle.body_double.proofs.kept_body.KeptBodyStored.threshold.Goals as goal

pub returns-then-self : goal.returns-then-self
returns-then-self g c =
    new-shows threshold_in (entry_of c.self.inside.root c.self.inside.threshold) c.self.inside.created c.if-self.true
    ∙ ap (λ (v : KeptView). threshold_in (working_entry v.entry v.created)) c.self.view_is

pub returns-in-Some : goal.returns-in-Some
returns-in-Some g c = ap (λ (root : Option Root). threshold_in (entry_of root c.self.inside.threshold)) (sym c.in-Some.is)
    ∙ (old-shows threshold_in (entry_of c.self.inside.root c.self.inside.threshold) c.self.inside.created c.if-self.false
    ∙ ap (λ (v : KeptView). threshold_in (working_entry v.entry v.created)) c.self.view_is)

pub returns-in-None : goal.returns-in-None
returns-in-None g c = ap (λ (root : Option Root). threshold_in (entry_of root c.self.inside.threshold)) (sym c.in-None.is)
    ∙ (old-shows threshold_in (entry_of c.self.inside.root c.self.inside.threshold) c.self.inside.created c.if-self.false
    ∙ ap (λ (v : KeptView). threshold_in (working_entry v.entry v.created)) c.self.view_is)
