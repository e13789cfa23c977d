-- A space more, and the span behind it.
use Rattle.std.proofs.Common.{◌+◌, ℕ, List, [], subst, sym, arith}
use Rattle.std.proofs.Math.Nat.{add-mul}
use Rattle.std.proofs.lemmas.List.{length-replicate}
use Rattle.geometry_model.specs.Numbers.{space_pages}
use Rattle.bench_object.specs.Store.{AreFirst}
use Rattle.bench_object.proofs.StoreLemmas.{front-count, left-count, next-first, pages-next}
use Rattle.bench_object.proofs.store.free_spaces.Goals as goal

pub cut-requires-clause-fewer : goal.cut-requires-clause-fewer
cut-requires-clause-fewer c =
    let left = left-count 1 c.spaces.span.count c.cut-directory.new.self.count c.cut-directory.ensures.rest_pages in
    let long = length-replicate {A = List ℕ} c.cut-directory.new.self.count [] in
    let count = c.spaces.invariant.count in
    let less = c.spaces-test.true in
    let next = pages-next c.args.geometry.now.spaces c.spaces.s (1 + space_pages c.args.geometry.now)
    (omega (arith, less, c.spaces-s-end.ensures)) in
    let pages = c.space_pages-pages.ensures.exact in
    omega (arith, left, long, count, next, pages)

pub free_space-requires-clause-count : goal.free_space-requires-clause-count
free_space-requires-clause-count c =
    let left = left-count 1 c.spaces.span.count c.cut-directory.new.self.count c.cut-directory.ensures.rest_pages in
    let count = c.spaces.invariant.count in
    let less = c.spaces-test.true in
    let next = pages-next c.args.geometry.now.spaces c.spaces.s (1 + space_pages c.args.geometry.now)
    (omega (arith, less, c.spaces-s-end.ensures)) in
    let pages = c.space_pages-pages.ensures.exact in
    let all = front-count c.space_pages-pages.result c.cut-directory.new.self.count c.cut.result.count
    (omega (arith, left, count, next, pages)) c.cut.ensures.front_pages in
    omega (arith, all, pages)

pub spaces-preserved : goal.spaces-preserved
spaces-preserved c =
    let left = left-count 1 c.spaces.span.count c.cut-directory.new.self.count c.cut-directory.ensures.rest_pages in
    let last = left-count c.space_pages-pages.result c.cut-directory.new.self.count c.cut.new.self.count c.cut.ensures.rest_pages in
    let count = c.spaces.invariant.count in
    let less = c.spaces-test.true in
    let next = pages-next c.args.geometry.now.spaces c.spaces.s (1 + space_pages c.args.geometry.now)
    (omega (arith, less, c.spaces-s-end.ensures)) in
    let pages = c.space_pages-pages.ensures.exact in
    let one = add-mul c.spaces.s 1 (1 + space_pages c.args.geometry.now) in
    record {
      first = omega (arith, c.spaces.invariant.first, c.cut-directory.ensures.rest, c.cut.ensures.rest, pages, one);
      count = omega (arith, left, last, count, next, pages);
      pages = pages;
      spaces = subst (AreFirst c.args.geometry.now (c.spaces.s + 1)) (sym c.in-Ok.ensures.items)
          (next-first c.args.geometry.now c.spaces.s c.spaces.spaces.items c.in_ok-space.space c.spaces.invariant.spaces (record {
            number = c.in_ok-space.ensures.number;
            page = c.in_ok-space.ensures.page;
            pages = c.in_ok-space.ensures.pages;
            first = c.in_ok-space.ensures.first;
          }));
    }
