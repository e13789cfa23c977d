-- A part that is kept gives its entry, and a made one those of its runs.
use Rattle.std.proofs.Common.{◌≡◌, ◌+◌, ◌++◌, List, ◌∷◌, drop, get_or, sym, ap, arith, ◌∙◌}
use Rattle.std.proofs.lemmas.List.{at_drop_more}
use Rattle.layout_model.specs.declared.extent.Extent.{Extent}
use Rattle.layout_model.specs.Layout.{segments_on}
use Rattle.edit_parts.specs.declared.part.Part.{Part}
use Rattle.edit_parts.specs.declared.part.Part.TheVariants.{Keep, Make}
use Rattle.edit_parts.specs.Pieces.{pieces_bytes}
use Rattle.part_bytes.proofs.PartsLemmas.{first_count}
use Rattle.held_parts.proofs.EntryLemmas.{laying-at, laying-kept, laying-made, next-made, some-counts}
use Rattle.held_parts.proofs.entries.new_entries.Goals.{in-Keep+in_ok-push-in-Keep, in-Make+in_ok-push_segments-in-Make}
use Rattle.held_parts.proofs.entries.new_entries.Goals as goal

pub loop-part-preserved : goal.loop-part-preserved
loop-part-preserved c =
    let i = c.loop-part.part-index in
    let parts = c.args.parts.now in
    let size = c.args.page in
    let p = c.loop-part.invariant in
    let here : drop i parts ≡ c.part-item.result ∷ drop (i + 1) parts =
    at_drop_more (λ (l : List Part). l) parts i c.part-item.result c.loop-part-test.true
    ∙ ap (λ (x : Part). x ∷ drop (i + 1) parts) (sym c.part-item.is) in
    elim c.match-part.branch [
      | in-Keep+in_ok-push-in-Keep w ↦
          let e : drop i parts ≡ Keep w.in-Keep.pair ∷ drop (i + 1) parts = here
          ∙ ap (λ (x : Part). x ∷ drop (i + 1) parts) w.in-Keep.is in
          laying-at size parts (drop (i + 1) parts) c.args.counts.now c.loop-part.counts.now c.match-part.counts.now c.args.runs.now
          c.loop-part.runs.now c.match-part.runs.now w.push.new.self.items c.match-part.entries.items (ap (λ x. x.now) w.counts-is)
          (ap (λ x. x.now) w.runs-is) (ap (λ x. x.items) w.entries-is)
          (laying-kept size parts (drop i parts) (drop (i + 1) parts) w.in-Keep.pair c.args.counts.now c.loop-part.counts.now
          c.args.runs.now c.loop-part.runs.now c.loop-part.entries.items w.push.new.self.items e w.in_ok-push-in-Keep.ensures.items p)
      | in-Make+in_ok-push_segments-in-Make w ↦
          let k = get_or w.split_at.result.0.now 0 0 in
          let pieces = w.in-Make.pieces in
          let e : drop i parts ≡ Make pieces ∷ drop (i + 1) parts = here
          ∙ ap (λ (x : Part). x ∷ drop (i + 1) parts) w.in-Make.is in
          let some = some-counts (drop i parts) (drop (i + 1) parts) pieces c.loop-part.counts.now c.loop-part.runs.now e p.have in
          let f = first_count c.loop-part.counts.now w.split_at.result.0.now w.split_at.result.1.now some w.split_at.ensures.front
          w.split_at.ensures.back in
          let few = (next-made (drop i parts) (drop (i + 1) parts) pieces k c.loop-part.counts.now w.split_at.result.1.now
          c.loop-part.runs.now e f p.have).few in
          let counted : w.bytes.result ≡ pieces_bytes pieces = omega (arith, few, w.bytes.ensures) in
          let now = w.in_ok-push_segments-in-Make.ensures
          ∙ ap (λ (own : List Extent). c.loop-part.entries.items ++ segments_on size w.bytes.result own)
          w.split_at-in-Make.ensures.front in
          laying-at size parts (drop (i + 1) parts) c.args.counts.now w.split_at.result.1.now c.match-part.counts.now c.args.runs.now
          (drop k c.loop-part.runs.now) c.match-part.runs.now w.push_segments.new.entries.items c.match-part.entries.items
          (ap (λ x. x.now) w.counts-is) (ap (λ x. x.now) w.runs-is ∙ w.split_at-in-Make.ensures.back)
          (ap (λ x. x.items) w.entries-is)
          (laying-made size w.bytes.result parts (drop i parts) (drop (i + 1) parts) pieces k c.args.counts.now c.loop-part.counts.now
          w.split_at.result.1.now c.args.runs.now c.loop-part.runs.now c.loop-part.entries.items w.push_segments.new.entries.items e f
          counted now p)
    ]
