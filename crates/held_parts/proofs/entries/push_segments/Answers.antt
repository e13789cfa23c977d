-- A segment on each run.
use Rattle.std.proofs.Common.{◌≡◌, ℕ, ◌+◌, ◌*◌, List, ◌++◌, drop, get_or, refl, sym, ap, subst}
use Rattle.std.proofs.lemmas.List.{at_drop_more}
use Rattle.layout_model.specs.declared.extent.Extent.{Extent}
use Rattle.layout_model.specs.Layout.{segments_on}
use Rattle.tree_model.specs.declared.entry.Pair.{Pair}
use Rattle.held_parts.proofs.EntryLemmas.{segments-more}
use Rattle.held_parts.proofs.entries.push_segments.Goals as goal

abbrev none : Extent
none = record { page = 0; pages = 0 }

abbrev pair_of : ℕ → ℕ → Pair
pair_of bytes page = record { bytes = bytes; page = page }

pub loop-run-preserved : goal.loop-run-preserved
loop-run-preserved c =
    let i = c.loop-run.run-index in
    let runs = c.args.runs.now in
    let run = get_or runs i none in
    subst (λ (k : ℕ). c.push.new.self.items ++ segments_on c.args.page k (drop (i + 1) runs)
    ≡ c.args.entries.now.items ++ segments_on c.args.page c.args.bytes runs) (sym c.saturating_sub-left.ensures)
    (segments-more c.args.page c.loop-run.left (run.pages * c.args.page) (drop i runs) (drop (i + 1) runs) run c.loop-run.entries.items
    c.push.new.self.items _ (pair_of c.min.result run.page)
    (at_drop_more (λ (l : List Extent). l) runs i none c.loop-run-test.true) refl
    (ap (λ (b : ℕ). pair_of b run.page) c.min.ensures) c.in_ok-push.ensures.items c.loop-run.invariant)
