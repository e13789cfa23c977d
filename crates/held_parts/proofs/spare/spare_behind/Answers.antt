-- What is spare behind a made part is what is left of its run.
use Rattle.std.proofs.Common.{◌≡◌, ℕ, ◌+◌, List, ◌∷◌, drop, get_or, sym, ap, arith, ◌∙◌}
use Rattle.std.proofs.lemmas.List.{at_drop_more}
use Rattle.tree_model.specs.Tree.{page_count}
use Rattle.layout_model.specs.declared.extent.Extent.{Extent}
use Rattle.layout_model.specs.Layout.{left_over}
use Rattle.edit_parts.specs.declared.part.Part.{Part}
use Rattle.edit_parts.specs.declared.part.Part.TheVariants.{Keep, Make}
use Rattle.edit_parts.specs.Pieces.{pieces_bytes}
use Rattle.part_bytes.proofs.PartsLemmas.{first_count}
use Rattle.held_parts.proofs.EntryLemmas.{next-made, some-counts, sparing-at, sparing-kept, sparing-made}
use Rattle.held_parts.proofs.spare.spare_behind.Goals.{in-Keep, in-Make}
use Rattle.held_parts.proofs.spare.spare_behind.Goals as goal

pub loop-part-preserved : goal.loop-part-preserved
loop-part-preserved c =
    let i = c.loop-part.part-index in
    let parts = c.args.parts.now in
    let size = c.args.page in
    let p = c.loop-part.invariant in
    let here : drop i parts ≡ c.part-item.result ∷ drop (i + 1) parts =
    at_drop_more (λ (l : List Part). l) parts i c.part-item.result c.loop-part-test.true
    ∙ ap (λ (x : Part). x ∷ drop (i + 1) parts) (sym c.part-item.is) in
    elim c.match-part.branch [
      | in-Keep w ↦
          let e : drop i parts ≡ Keep w.in-Keep.field-0 ∷ drop (i + 1) parts = here
          ∙ ap (λ (x : Part). x ∷ drop (i + 1) parts) w.in-Keep.is in
          sparing-at size parts (drop (i + 1) parts) c.args.counts.now c.loop-part.counts.now c.match-part.counts.now c.args.runs.now
          c.loop-part.runs.now c.match-part.runs.now c.loop-part.spare c.match-part.spare (ap (λ x. x.now) w.counts-is)
          (ap (λ x. x.now) w.runs-is) w.spare-is
          (sparing-kept size parts (drop i parts) (drop (i + 1) parts) w.in-Keep.field-0 c.args.counts.now c.loop-part.counts.now
          c.args.runs.now c.loop-part.runs.now c.loop-part.spare e p)
      | in-Make w ↦
          let k = get_or w.split_at.result.0.now 0 0 in
          let pieces = w.in-Make.pieces in
          let e : drop i parts ≡ Make pieces ∷ drop (i + 1) parts = here
          ∙ ap (λ (x : Part). x ∷ drop (i + 1) parts) w.in-Make.is in
          let some = some-counts (drop i parts) (drop (i + 1) parts) pieces c.loop-part.counts.now c.loop-part.runs.now e p.have in
          let f = first_count c.loop-part.counts.now w.split_at.result.0.now w.split_at.result.1.now some w.split_at.ensures.front
          w.split_at.ensures.back in
          let few = (next-made (drop i parts) (drop (i + 1) parts) pieces k c.loop-part.counts.now w.split_at.result.1.now
          c.loop-part.runs.now e f p.have).few in
          let counted : w.bytes.result ≡ pieces_bytes pieces = omega (arith, few, w.bytes.ensures) in
          let now = w.left_over-spare.ensures
          ∙ (ap (λ (b : ℕ). left_over (page_count size b) w.split_at-in-Make.result.0.now) counted
          ∙ ap (λ (own : List Extent). left_over (page_count size (pieces_bytes pieces)) own) w.split_at-in-Make.ensures.front) in
          sparing-at size parts (drop (i + 1) parts) c.args.counts.now w.split_at.result.1.now c.match-part.counts.now c.args.runs.now
          (drop k c.loop-part.runs.now) c.match-part.runs.now w.left_over-spare.result c.match-part.spare
          (ap (λ x. x.now) w.counts-is) (ap (λ x. x.now) w.runs-is ∙ w.split_at-in-Make.ensures.back) w.spare-is
          (sparing-made size parts (drop i parts) (drop (i + 1) parts) pieces k c.args.counts.now c.loop-part.counts.now
          w.split_at.result.1.now c.args.runs.now c.loop-part.runs.now c.loop-part.spare w.left_over-spare.result e f now p)
    ]
