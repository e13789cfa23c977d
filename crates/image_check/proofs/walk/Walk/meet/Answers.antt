-- A page that was nobody's has the object's code.
use Rattle.std.proofs.Common.{◌≡◌, ◌∙◌, ap, sym, rules}
use Rattle.image_check.specs.declared.owner.Owner.TheVariants.{Nobody}
use Rattle.image_check.specs.Owners.{KeptWalk, owner_at, with_owner}
use Rattle.image_check.proofs.CodeLemmas.{codes-met, met-by}
use Rattle.image_check.proofs.walk.Walk.meet.Goals as goal

pub returns-in-Nobody-clause-walk : goal.returns-in-Nobody-clause-walk
returns-in-Nobody-clause-walk c =
    let nobody : owner_at c.args.self.now c.args.page ≡ Nobody = search rules in
    codes-met c.self.inside.codes.items c.self.inside.before c.args.page c.args.object c.requires.object
    ∙ ap (λ (kept : KeptWalk). with_owner kept c.args.page c.args.object) c.self.view_is
    ∙ sym (met-by c.args.page c.args.object c.args.self.now Nobody nobody)
