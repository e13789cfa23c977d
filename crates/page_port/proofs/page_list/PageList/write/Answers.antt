-- Each step writes one page and moves it behind those that are written.
use Rattle.std.proofs.Common.{◌≡◌, ℕ, ◌+◌, ◌-◌, ◌∷◌, [], ◌++◌, List, length, take, drop, All, arith, ap, sym, ◌∙◌, add_assoc, refl}
use Rattle.std.specs.List.{concat}
use Rattle.std.proofs.lemmas.List.{drop-drop}
use Rattle.std.proofs.lemmas.List.Elements.{All-drop, All-take, All-same}
use Rattle.page_port.proofs.PageLists.{IsWritten, IsWritten-more, room-for_page, length-page_part, one_page}
use Rattle.page_port.proofs.page_list.PageList.write.Goals as goal

pub overwrite-requires-clause-sized : goal.overwrite-requires-clause-sized
overwrite-requires-clause-sized c =
    let fits = room-for_page c.loop-j.j _ c.args.size c.loop-j.at _ c.loop-j-test.true c.loop-j.invariant.at c.requires.whole in
    let part = length-page_part c.loop-j.at c.args.size c.args.bytes.now fits in
    let P : List ℕ → Type 0 = λ page. length page ≡ c.args.size in
    let one : c.split_off-tail.new.self ≡ take 1 (drop (c.args.from + c.loop-j.j) c.args.self.now) =
    c.split_off-tail.ensures.front ∙ ap (take 1) c.loop-j.invariant.rest in
    let sized : All P c.split_off-tail.new.self =
    All-same P _ _ one (All-take P 1 _ (All-drop P (c.args.from + c.loop-j.j) c.args.self.now c.requires.sized)) in
    λ k d below. sized k d below ∙ sym part

pub loop-j-preserved : goal.loop-j-preserved
loop-j-preserved c =
    let fits = room-for_page c.loop-j.j _ c.args.size c.loop-j.at _ c.loop-j-test.true c.loop-j.invariant.at c.requires.whole in
    let so_far : IsWritten c.args.self.now c.args.from c.loop-j.j c.args.size c.loop-j.at c.args.bytes.now c.loop-j.self = record {
      count = c.loop-j.invariant.count;
      before = c.loop-j.invariant.before;
      written = c.loop-j.invariant.written;
      sized = c.loop-j.invariant.sized;
    } in
    let more = IsWritten-more c.args.self.now c.args.from c.loop-j.j c.args.size c.loop-j.at c.args.bytes.now c.loop-j.self
    (take (c.loop-j.at + c.args.size - c.loop-j.at) (drop c.loop-j.at c.args.bytes.now)) so_far fits refl in
    let one : c.overwrite.new.self ≡ take (c.loop-j.at + c.args.size - c.loop-j.at) (drop c.loop-j.at c.args.bytes.now) ∷ [] =
    c.overwrite.ensures
    ∙ ap (λ rest. take (c.loop-j.at + c.args.size - c.loop-j.at) (drop c.loop-j.at c.args.bytes.now) ∷ rest)
    (ap (drop 1) c.split_off-tail.ensures.front ∙ one_page c.loop-j.rest) in
    let all = c.append.ensures ∙ ap (λ pages. c.loop-j.self ++ pages) one in
    record {
      rest = c.split_off-tail.ensures.rest ∙ ap (drop 1) c.loop-j.invariant.rest ∙ drop-drop 1 (c.args.from + c.loop-j.j) c.args.self.now
          ∙ ap (λ k. drop k c.args.self.now) (add_assoc c.args.from c.loop-j.j 1);
      at = omega (arith, c.loop-j.invariant.at);
      count = ap length all ∙ more.count;
      before = ap (take c.args.from) all ∙ more.before;
      written = ap (λ pages. concat (drop c.args.from pages)) all ∙ more.written;
      sized = All-same (λ (page : List ℕ). length page ≡ c.args.size) _ _ all more.sized;
    }
