-- Each step copies one page behind those that were copied.
use Rattle.std.proofs.Common.{◌≡◌, ◌+◌, ◌*◌, ◌≤◌, ℕ, List, length, arith, ap, ◌∙◌, mul-le-mul_left}
use Rattle.std.specs.List.{concat}
use Rattle.std.proofs.lemmas.List.{length_push}
use Rattle.std.proofs.lemmas.List.Elements.{All-same}
use Rattle.page_port.proofs.PageLists.{copies-more}
use Rattle.page_port.proofs.page_list.PageList.from_bytes.Goals as goal

pub loop-i-preserved : goal.loop-i-preserved
loop-i-preserved c =
    let rows : c.args.size * (c.loop-i.i + 1) ≤ c.args.size * c.args.pages = mul-le-mul_left c.args.size (omega arith) in
    let more = copies-more c.args.size c.loop-i.i c.loop-i.at c.args.bytes.now c.in_ok-from_slice.field-0.items c.loop-i.list
    c.loop-i.invariant.at (omega (arith, rows, c.loop-i.invariant.at, c.requires)) c.loop-i.invariant.sized c.loop-i.invariant.bytes
    c.in_ok-from_slice.ensures.items in
    record {
      at = omega (arith, c.loop-i.invariant.at);
      count = ap length c.in_ok-push.ensures.ok ∙ length_push c.loop-i.list _ ∙ ap (λ k. k + 1) c.loop-i.invariant.count;
      sized = All-same (λ (page : List ℕ). length page ≡ c.args.size) _ _ c.in_ok-push.ensures.ok more.0;
      bytes = ap concat c.in_ok-push.ensures.ok ∙ more.1;
    }
