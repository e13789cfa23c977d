-- The spare pages are one run of pages in spans of their own.
use Rattle.std.proofs.Common.{◌≤◌, Option, Some, IfSome, subst}
use Rattle.layout_model.specs.declared.extent.Extent.{Extent}
use Rattle.object_state.specs.Keeps.{IsMarked, in_spare}
use Rattle.object_state.proofs.MarkLemmas.{spare-run, whole-lies, whole-run}
use Rattle.object_state.proofs.give.give_spare.Goals as goal

pub give_run-requires-clause-whole : goal.give_run-requires-clause-whole
give_run-requires-clause-whole g c =
    let run = c.in-Some.run' in
    let some = subst (λ (o : Option Extent). IfSome o (λ run. 1 ≤ run.pages)) c.in-Some.is c.requires.some in
    let marked = subst (λ (o : Option Extent). IsMarked c.args.held.now (in_spare o)) c.in-Some.is c.requires.marked in
    whole-run c.args.geometry.now c.args.held.now (in_spare (Some run)) run.page run.pages c.requires.on_data marked (spare-run run some)

pub give_run-requires-clause-lies : goal.give_run-requires-clause-lies
give_run-requires-clause-lies g c =
    let run = c.in-Some.run' in
    let some = subst (λ (o : Option Extent). IfSome o (λ run. 1 ≤ run.pages)) c.in-Some.is c.requires.some in
    let marked = subst (λ (o : Option Extent). IsMarked c.args.held.now (in_spare o)) c.in-Some.is c.requires.marked in
    whole-lies c.args.geometry.now c.args.held.now run c.requires.on_data
    (whole-run c.args.geometry.now c.args.held.now (in_spare (Some run)) run.page run.pages c.requires.on_data marked
    (spare-run run some))
