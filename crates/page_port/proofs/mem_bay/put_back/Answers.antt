-- Each step puts one page into its place.
use Rattle.std.proofs.Common.{◌≡◌, ◌+◌, ◌*◌, ◌<◌, ◌≤◌, ◌∷◌, ◌++◌, ℕ, List, length, take, drop, vec_len, arith, ap}
use Rattle.std.proofs.Common.{sym, ◌∙◌, subst, mul-le-mul_right}
use Rattle.std.proofs.lemmas.List.Elements.{All-head, All-tail, All-same}
use Rattle.page_port.specs.Device.{after_return}
use Rattle.page_port.specs.MemoryBay.{slots}
use Rattle.page_port.proofs.Slots.{PutsBack-page, all_back-set}
use Rattle.page_port.proofs.mem_bay.put_back.Goals as goal

pub put_page-requires : goal.put_page-requires
put_page-requires c =
    let P : List ℕ → Type 0 = λ page. length page ≡ c.args.size in
    let sized : length c.in-Some.page.items ≡ c.args.size =
    All-head P _ c.pop.new.self (All-same P _ _ (sym c.in-Some.ensures) c.loop-page.invariant.sized) in
    let popped : length c.loop-page.pages ≡ length (c.in-Some.page.items ∷ c.pop.new.self) = ap length c.in-Some.ensures in
    let rows : (c.loop-page.number + 1) * c.args.size ≤ vec_len c.args.back.now * c.args.size =
    mul-le-mul_right c.args.size (omega (arith, popped, c.loop-page.invariant.range, c.requires.range)) in
    omega (arith, rows, ap length c.as_slice.ensures.value, sized, c.requires.room, c.loop-page.invariant.bytes)

pub loop-page-preserved : goal.loop-page-preserved
loop-page-preserved c =
    let P : List ℕ → Type 0 = λ page. length page ≡ c.args.size in
    let sized : length c.in-Some.page.items ≡ c.args.size =
    All-head P _ c.pop.new.self (All-same P _ _ (sym c.in-Some.ensures) c.loop-page.invariant.sized) in
    let popped : length c.loop-page.pages ≡ length (c.in-Some.page.items ∷ c.pop.new.self) = ap length c.in-Some.ensures in
    let marks : length c.loop-page.back.items ≡ vec_len c.args.back.now = sym c.loop-page.back.ok.0 ∙ c.loop-page.invariant.count in
    let bytes : length c.loop-page.whole.items ≡ vec_len c.args.whole.now = sym c.loop-page.whole.ok.0 ∙ c.loop-page.invariant.bytes in
    let below : c.loop-page.number < length c.loop-page.back.items =
    omega (arith, popped, marks, c.loop-page.invariant.range, c.requires.range) in
    let same : c.as_slice.result.now ≡ c.in-Some.page.items = c.as_slice.ensures.value in
    let steps = PutsBack-page c.args.size c.loop-page.number c.in-Some.page.items c.pop.new.self
    c.loop-page.back.items c.loop-page.whole.items
    c.put_page.new.whole.items sized below
    (subst (λ (k : ℕ). c.args.size * k ≤ length c.loop-page.whole.items) (sym marks) (omega (arith, bytes, c.requires.room)))
    (c.put_page.ensures.items ∙ ap (λ p. take (c.loop-page.number * c.args.size) c.loop-page.whole.items
    ++ (p ++ drop (length p) (drop (c.loop-page.number * c.args.size) c.loop-page.whole.items))) same) in
    record {
      left = steps.left
          ∙ ap (λ ps. after_return c.loop-page.number ps
          (slots c.args.size c.loop-page.back.items c.loop-page.whole.items)) (sym c.in-Some.ensures)
          ∙ c.loop-page.invariant.left;
      range = omega (arith, popped, c.loop-page.invariant.range);
      sized = All-tail P _ c.pop.new.self (All-same P _ _ (sym c.in-Some.ensures) c.loop-page.invariant.sized);
      behind =
          subst (λ (k : ℕ). drop (c.args.size * k) c.put_page.new.whole.items
          ≡ drop (c.args.size * k) c.loop-page.whole.items) marks steps.behind
          ∙ c.loop-page.invariant.behind;
      bytes = c.put_page.ensures.len ∙ c.loop-page.invariant.bytes;
      count = c.loop-page.invariant.count;
      marks = λ all. all_back-set c.loop-page.back.items c.loop-page.number (c.loop-page.invariant.marks all);
    }
