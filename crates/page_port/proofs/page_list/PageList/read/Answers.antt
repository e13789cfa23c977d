-- Each step takes one page of the list, and the second loop copies it.
use Rattle.std.proofs.Common.{◌+◌, ◌-◌, take, drop, length, map, arith, ap, sym, ◌∙◌, add_assoc}
use Rattle.std.proofs.Math.Nat.{add-sub_cancel_left}
use borrow.Rule.Slice.PartMut.{put_mid}
use Rattle.page_port.specs.Memory.{page_items}
use Rattle.page_port.proofs.PageLists.{next-rest, copied-more, sized-first, room-for_page, length-page_part}
use Rattle.page_port.proofs.page_list.PageList.read.Goals as goal

pub loop-i-preserved : goal.loop-i-preserved
loop-i-preserved c = next-rest _ _ _ c.loop-i.i c.args.self.now c.next.ensures.steps c.loop-i.invariant

pub copy_from_slice-requires : goal.copy_from_slice-requires
copy_from_slice-requires c =
    let first = sym c.loop-j.invariant.rest ∙ ap (map page_items) c.in-Some.ensures.steps in
    let sized = sized-first c.args.size c.args.self.now (c.args.from + c.loop-j.j) _ _ c.requires.sized first in
    let fits = room-for_page c.loop-j.j _ c.args.size c.loop-j.at _ c.loop-j-test.true c.loop-j.invariant.at c.requires.whole in
    length-page_part c.loop-j.at c.args.size c.loop-j.out (omega (arith, fits, c.loop-j.auto.out))
    ∙ sym (ap length c.as_slice.ensures.value ∙ sized)

pub loop-j-preserved : goal.loop-j-preserved
loop-j-preserved c =
    let first = sym c.loop-j.invariant.rest ∙ ap (map page_items) c.in-Some.ensures.steps in
    let sized = sized-first c.args.size c.args.self.now (c.args.from + c.loop-j.j) _ _ c.requires.sized first in
    let fits = room-for_page c.loop-j.j _ c.args.size c.loop-j.at _ c.loop-j-test.true c.loop-j.invariant.at c.requires.whole in
    record {
      rest = next-rest c.loop-j.rest _ _ (c.args.from + c.loop-j.j) c.args.self.now c.next-in-loop-j.ensures.steps c.loop-j.invariant.rest
          ∙ ap (λ k. drop k c.args.self.now) (add_assoc c.args.from c.loop-j.j 1);
      at = omega (arith, c.loop-j.invariant.at);
      copied =
          ap (λ page. take (c.loop-j.at + c.args.size) (put_mid c.loop-j.at (c.loop-j.at + c.args.size - c.loop-j.at) c.loop-j.out page))
          (c.copy_from_slice.ensures.after ∙ c.as_slice.ensures.value)
          ∙ copied-more c.args.self.now c.args.from c.loop-j.j c.args.size c.loop-j.at _ c.loop-j.out _ _ first
          c.loop-j.invariant.copied sized
          (add-sub_cancel_left c.loop-j.at c.args.size) (omega (arith, fits, c.loop-j.auto.out));
    }
