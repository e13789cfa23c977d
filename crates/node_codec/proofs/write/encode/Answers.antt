-- Each pair is written behind those before it, and zeros behind the last.
use Rattle.std.proofs.Common.{◌≡◌, ◌<◌, ◌≤◌, ℕ, List, length, get_or, sym, ap, subst, arith}
use Rattle.geometry_model.proofs.NumberLaws.{page_size-low, page_size-high}
use Rattle.tree_model.specs.declared.entry.Pair.{Pair}
use Rattle.tree_model.specs.Node.{NodeBytes}
use Rattle.node_codec.proofs.WriteLemmas.{each-more, written-more, NodeBytes-written, whole-list}
use Rattle.node_codec.proofs.write.encode.Goals as goal

abbrev none : Pair
none = record { bytes = 0; page = 0 }

pub loop-pair-preserved : goal.loop-pair-preserved
loop-pair-preserved c =
    let items = c.as_slice-pairs.result.now in
    let i = c.loop-pair.pair-index in
    let here : i < length items = c.loop-pair-test.true in
    let P : List Pair → Type 0 = λ xs. (k : ℕ) (d : Pair) → k < length xs → 1 ≤ (get_or xs k d).bytes in
    let some = subst P (sym c.as_slice-pairs.ensures) c.requires.bytes in
    record {
      place = omega arith;
      written = written-more c.args.node.now.level (length items) c.loop-pair.at i items c.loop-pair.page c.put_pair.new.page
          none here c.loop-pair.invariant.place c.loop-pair.invariant.written c.put_pair.ensures.written;
      each = each-more items i none here c.loop-pair.invariant.each
          (record { some = some i none here; count_fits = c.put_pair.ensures.fits.0; page_fits = c.put_pair.ensures.fits.1 });
    }

pub returns : goal.returns
returns c =
    let items = c.as_slice-pairs.result.now in
    let all : c.loop-pair.pair-index ≡ length items = omega arith in
    let same = ap length c.as_slice-pairs.ensures in
    let low = page_size-low (length c.args.page.now) c.requires.page_size in
    let high = page_size-high (length c.args.page.now) c.requires.page_size in
    let size : length c.clear_from.new.page ≡ length c.args.page.now = omega arith in
    let P : List Pair → Type 0 = λ xs. NodeBytes c.clear_from.new.page c.args.node.now.level xs in
    subst P c.as_slice-pairs.ensures
    (NodeBytes-written c.args.node.now.level c.loop-pair.at c.loop-pair.pair-index items c.loop-pair.page c.clear_from.new.page
    all c.loop-pair.invariant.place c.loop-pair.invariant.written c.clear_from.ensures c.clear_from.auto.page
    (record {
      low = c.requires.level;
      high = omega arith;
      some = omega arith;
      room = omega arith;
      count_fits = omega arith;
      each = whole-list c.loop-pair.pair-index items all c.loop-pair.invariant.each;
    }))
