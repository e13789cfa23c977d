-- One space more is counted.
use Rattle.std.proofs.Common.{◌≡◌, ◌+◌, ◌<◌, suc, length, take, ap, sym, ◌∙◌, arith}
use Rattle.moment_model.specs.Moment.{count_pages}
use Rattle.superdirectory.specs.Grants.{free_sets}
use Rattle.superdirectory.proofs.Spots.{view_at}
use Rattle.body_world.specs.Keeping.{locked_sets}
use Rattle.body_world.proofs.StatusLemmas.{count-more, get-sets}
use Rattle.body_world.proofs.status.count_all.Goals as goal

pub loop-s-preserved : goal.loop-s-preserved
loop-s-preserved g c =
    let frame = c.loop-s.invariant.frame in
    let pages : c.loop-s.spaces.pages ≡ c.args.spaces.now.pages = ap (λ f. f.pages) frame.frame in
    let one = c.count_one-one.ensures.all in
    let all = c.loop-s.invariant.all in
    let few = c.loop-s.invariant.few in
    let most = c.count_one-one.ensures.few in
    let next : c.loop-s.s + 1 ≡ suc c.loop-s.s = omega arith in
    record {
      frame = record { frame = c.count_one-one.ensures.frame.frame ∙ frame.frame; entered = c.count_one-one.ensures.frame.entered };
      all = omega (arith, one, all, pages);
      few = omega (arith, one, few, most);
      told = λ views told many.
          let before = c.loop-s.invariant.told views told many in
          let test = c.loop-s-test.true in
          let end = c.spaces-s-end.ensures in
          let here : c.loop-s.s < length views = omega (arith, test, end, many) in
          let v = view_at views c.loop-s.s here in
          let counted = c.count_one-one.ensures.told views v.0 before.2 v.1 in
          let free_more = count-more (free_sets views) c.loop-s.s v.0.free (get-sets (λ w. w.free) views c.loop-s.s v.0 v.1) in
          let locked_more = count-more (locked_sets views) c.loop-s.s v.0.locked (get-sets (λ w. w.locked) views c.loop-s.s v.0 v.1) in
          let free_now = counted.0.free_pages in
          let locked_now = counted.0.locked_pages in
          let free_so_far = before.0 in
          let locked_so_far = before.1 in (
            omega (arith, free_now, free_so_far, free_more) ∙ sym (ap (λ k. count_pages (take k (free_sets views))) next),
            omega (arith, locked_now, locked_so_far, locked_more) ∙ sym (ap (λ k. count_pages (take k (locked_sets views))) next),
            counted.1,
          );
    }
