use Rattle.std.proofs.Common.{◌≡◌, map}
use Rattle.std.specs.List.{range_with_len}
use Rattle.geometry_model.specs.Pages.{data_page}
use Rattle.plain_plan.specs.Store.{numbers_of}
use Rattle.plain_moment.specs.Testing.{is_in}
use Rattle.plain_moment.proofs.counting.tests_in.Given as goal

abbrev pub invariant-pages : goal.invariant-pages
invariant-pages l = l.tests.items ≡ map (λ at. is_in l.locked l.committed l.working
    (data_page (numbers_of l.store) l.space at)) (range_with_len 0 l.at)
