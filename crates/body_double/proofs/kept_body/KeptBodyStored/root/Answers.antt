use Rattle.std.proofs.Common.{Some, ap, ◌∙◌}
use Rattle.object_body.specs.Stored.{entry_of, root_in}
use Rattle.body_double.specs.Kept.{KeptView, working_entry}
use Rattle.body_double.proofs.KeptLemmas.{root-kept, new-shows, old-shows}
use Rattle.body_double.proofs.kept_body.KeptBodyStored.root.Goals as goal

pub returns-then-self : goal.returns-then-self
returns-then-self g c = ap Some c.empty_root.ensures
    ∙ (new-shows root_in (entry_of c.self.inside.root c.self.inside.threshold) c.self.inside.created c.if-self.true
    ∙ ap (λ (v : KeptView). root_in (working_entry v.entry v.created)) c.self.view_is)

pub returns : goal.returns
returns g c = root-kept c.self.inside.root c.self.inside.threshold
    ∙ (old-shows root_in (entry_of c.self.inside.root c.self.inside.threshold) c.self.inside.created c.if-self.false
    ∙ ap (λ (v : KeptView). root_in (working_entry v.entry v.created)) c.self.view_is)
