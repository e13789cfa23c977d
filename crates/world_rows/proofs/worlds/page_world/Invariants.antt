use Rattle.body_double.specs.Page.{page_form, page_contents}
use Rattle.body_world.specs.Session.{shown_by}
use Rattle.world_rows.specs.Rows.{AreAbsent}
use Rattle.world_rows.proofs.worlds.page_world.Given as goal

-- what was made so far is absent
abbrev pub invariant-adds : goal.invariant-adds
invariant-adds l = AreAbsent (shown_by page_form page_contents) l.geometry l.objects.items
