-- What is left of the span has the pages of the spaces to come, and one more.
use Rattle.std.proofs.Common.{◌≡◌, ◌+◌, ◌-◌, ◌*◌}
use Rattle.bench_object.specs.Store.{AreFirst}
use Rattle.geometry_model.specs.Numbers.{space_pages}
use Rattle.geometry_model.specs.Pages.{directory_page}
use Rattle.bench_object.proofs.store.free_spaces.Given as goal

abbrev pub invariant-spaces : goal.invariant-spaces
invariant-spaces l = record {
  first : l.span.first ≡ directory_page l.fn.geometry l.s;
  count : l.span.count ≡ 1 + (l.fn.geometry.spaces - l.s) * (1 + space_pages l.fn.geometry);
  pages : l.pages ≡ space_pages l.fn.geometry;
  spaces : AreFirst l.fn.geometry l.s l.spaces.items;
}
