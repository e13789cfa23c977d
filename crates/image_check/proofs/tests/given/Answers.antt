-- All that is held may be shared out.
use Rattle.std.proofs.Common.{◌≡◌, ℕ, List, length, sym, ap, subst, ◌∙◌}
use Rattle.span_store.specs.Held.{Held, IsEmpty}
use Rattle.image_check.specs.Shares.{AreOwnersBelow, holdings_of}
use Rattle.image_check.proofs.GivenLemmas.{all-empty, can-share}
use Rattle.image_check.proofs.tests.given.Goals as goal

pub share_out-shared-requires : goal.share_out-shared-requires
share_out-shared-requires g c =
    let objects : List Held = c.as_mut_slice.result.now in
    let made = c.as_mut_slice.ensures.value in
    let same : objects ≡ c.no_holdings-objects.result.items = cc in
    let many : length objects ≡ 16 = ap (length {A = Held}) same ∙ c.no_holdings-objects.ensures.count in
    record {
      asks = can-share c.args.geometry.now c.args.held.now c.take_all.new.held c.args.walk.now _ objects c.requires.marked
          c.requires.none (subst (λ (k : ℕ). AreOwnersBelow k c.args.walk.now) (sym many) c.requires.below) c.requires.data
          c.take_all.ensures.taken
          (subst (λ (held : List Held). (o : ℕ) → IsEmpty (holdings_of held o)) (sym same)
          (all-empty c.no_holdings-objects.result.items c.no_holdings-objects.ensures.empty));
    }
