use Rattle.std.proofs.Common.{◌≡◌, ℕ, ◌+◌, ◌-◌, ◌<◌, ◌≤◌, List, length, get_or, sym, subst, arith}
use Rattle.tree_model.specs.declared.entry.Placed.{Placed}
use Rattle.tree_model.specs.Range.{pairs_of}
use Rattle.tree_model.proofs.RangeLemmas.{no_segment}
use Rattle.edit_plan.specs.Spots.{IsSpot}
use Rattle.edit_plan.proofs.WindowLemmas.{IsFar, far-here, far-next}
use Rattle.edit_plan.proofs.spot.spot_of.Goals as goal

here : (window : List Placed) (place ended inside i : ℕ) → ended ≡ i → IsFar window place ended inside → i < length window →
    inside < (get_or window i no_segment).pair.bytes → IsSpot place (pairs_of window) ended inside
here window place ended inside i same far less within =
    subst (λ (k : ℕ). IsSpot place (pairs_of window) k inside) (sym same)
    (far-here window place i inside (subst (λ (k : ℕ). IsFar window place k inside) same far) less within)

next : (window : List Placed) (place ended inside i : ℕ) → ended ≡ i → IsFar window place ended inside → i < length window →
    (get_or window i no_segment).pair.bytes ≤ inside →
    IsFar window place (ended + 1) (inside - (get_or window i no_segment).pair.bytes)
next window place ended inside i same far less behind =
    subst (λ (k : ℕ). IsFar window place (k + 1) (inside - (get_or window i no_segment).pair.bytes)) (sym same)
    (far-next window place i inside (subst (λ (k : ℕ). IsFar window place k inside) same far) less behind)

pub returns-then-inside-bytes-clause-spot : goal.returns-then-inside-bytes-clause-spot
returns-then-inside-bytes-clause-spot c =
    let l = c.loop-segment in
    here c.args.window.now c.args.place l.ended l.inside l.segment-index l.invariant.index l.invariant.far
    c.loop-segment-test.true c.if-inside-bytes.true

pub loop-segment-preserved : goal.loop-segment-preserved
loop-segment-preserved c =
    let l = c.loop-segment in
    record {
      index = omega (arith, l.invariant.index);
      far = next c.args.window.now c.args.place l.ended l.inside l.segment-index l.invariant.index l.invariant.far
          c.loop-segment-test.true c.if-inside-bytes.false;
    }
