-- The codes of the run are those of nobody's pages.
use Rattle.std.proofs.Common.{◌≡◌, ◌∙◌, List, ℕ, ap, subst}
use Rattle.image_check.specs.Owners.{KeptWalk, with_used}
use Rattle.image_check.proofs.CodeLemmas.{codes-used, kept_in}
use Rattle.image_check.proofs.walk.Walk.mark_used.Goals as goal

pub returns : goal.returns
returns c =
    let before = c.self.inside.before in
    subst (λ (kept : KeptWalk). kept_in c.put_run.new.codes.items before ≡ with_used kept c.args.first c.args.pages) c.self.view_is
    (ap (λ (codes : List ℕ). kept_in codes before) c.put_run.ensures
    ∙ ap (λ owners. let kept : KeptWalk = record { owners = owners; before = before } in kept)
    (codes-used c.self.inside.codes.items c.args.first c.args.pages))
