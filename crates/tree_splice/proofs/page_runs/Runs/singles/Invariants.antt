use Rattle.std.proofs.Common.{◌≡◌, map, take}
use Rattle.tree_splice.specs.Splice.{single_run}
use Rattle.tree_splice.proofs.page_runs.Runs.singles.Given as goal

abbrev pub invariant-loop-page : goal.invariant-loop-page
invariant-loop-page l = l.list.items ≡ map single_run (take l.page-index l.pages)
