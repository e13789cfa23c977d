-- The walk of a tree is that of the definition.
use Rattle.std.proofs.Common.{◌≡◌, ◌∙◌, ◌+◌, ◌-◌, ◌/◌, ◌≤◌, ℕ, suc, Some, None, IsTrue, length, get_or}
use Rattle.std.proofs.Common.{List}
use Rattle.std.specs.Prelude.{vec_len}
use Rattle.std.proofs.Common.{refl, sym, ap, subst, arith, All}
use Rattle.std.proofs.lemmas.Bool.{eq-eqb, ne_eqb, false≢true}
use Rattle.geometry_model.specs.Numbers.{fan_out}
use Rattle.tree_model.specs.declared.entry.Pair.{Pair}
use Rattle.node_codec.specs.declared.parsed.Node.{Node}
use Rattle.tree_model.specs.Node.{room_of}
use Rattle.tree_model.specs.Tree.{bytes_of}
use Rattle.image_check.specs.Owners.{owned}
use Rattle.image_check.specs.Verdicts.{Judged, check_head, check_named, check_pairs}
use Rattle.image_check.proofs.EachLemmas.{Judged-all, Judged-ends, Judged-next}
use Rattle.image_check.proofs.JudgedLemmas.{Judged-err, Judged-told, Reads-owned}
use Rattle.image_check.proofs.RoomLemmas.{KeepsRoom-then, all-last, room-back, slice-back}
use Rattle.image_check.proofs.TreeLemmas.{named-passes, named-unentered, named-unpassed, named-unsummed, pairs-above}
use Rattle.image_check.proofs.TreeLemmas.{pairs-lowest}
use Rattle.image_check.proofs.tree.+walk.Goals as goal

abbrev none : Pair
none = record { bytes = 0; page = 0 }

pub check_named-returns-in_err-enter-clause-judged : goal.check_named-returns-in_err-enter-clause-judged
check_named-returns-in_err-enter-clause-judged g t c =
    let n = c.args.geometry.now in
    let T = IsTrue g.P.S.Span.tells in
    let o = c.args.tree.object in
    let fail = c.in_err-enter.field-0.0 in
    let some = c.if-named-eq0.false in
    let up : suc (c.args.named.level - 1) ≡ c.args.named.level = omega (arith, some) in
    Judged-err T n c.args.held.now o c.args.walk.now c.enter.new.walk c.from_residual.result fail
    (λ bytes. check_named n bytes o c.args.tree.threshold c.args.named.level c.args.named.least c.args.named.pair)
    c.from_residual.ensures.1
    (named-unentered T n c.args.held.now o c.args.tree.threshold (c.args.named.level - 1) c.args.named.level c.args.named.least
    c.args.named.pair c.args.walk.now c.enter.new.walk fail up
    (subst (λ x. Judged T n c.args.held.now o c.args.walk.now c.enter.new.walk x
    (λ bytes. check_head n bytes o c.args.named.level c.args.named.least c.args.named.pair.page)) refl c.in_err-enter.ensures.judged))

pub check_named-returns-in_err-check_pairs-clause-judged : goal.check_named-returns-in_err-check_pairs-clause-judged
check_named-returns-in_err-check_pairs-clause-judged g t c =
    let n = c.args.geometry.now in
    let T = IsTrue g.P.S.Span.tells in
    let o = c.args.tree.object in
    let fail = c.in_err-check_pairs.field-0.0 in
    let some = c.if-named-eq0.false in
    let up : suc (c.args.named.level - 1) ≡ c.args.named.level = omega (arith, some) in
    Judged-err T n c.args.held.now o c.args.walk.now c.check_pairs.new.walk c.from_residual-in_err-check_pairs.result fail
    (λ bytes. check_named n bytes o c.args.tree.threshold c.args.named.level c.args.named.least c.args.named.pair)
    c.from_residual-in_err-check_pairs.ensures.1
    (named-unpassed T n c.args.held.now o c.args.tree.threshold (c.args.named.level - 1) c.args.named.level c.args.named.least
    c.enter.new.node.level c.args.named.pair c.enter.new.node.pairs.items c.args.walk.now c.enter.new.walk c.check_pairs.new.walk fail up
    c.in_ok-enter.ensures.judged c.in_ok-enter.ensures.held c.in_ok-enter.ensures.told
    (subst (λ (pairs : List Pair). Judged T n c.args.held.now o c.enter.new.walk c.check_pairs.new.walk (Some fail)
    (λ bytes. check_pairs n bytes o c.args.tree.threshold (c.args.named.level - 1) pairs)) c.as_slice.ensures
    c.in_err-check_pairs.ensures.judged))

pub check_named-returns-then-fits-clause-judged : goal.check_named-returns-then-fits-clause-judged
check_named-returns-then-fits-clause-judged g t c =
    let n = c.args.geometry.now in
    let T = IsTrue g.P.S.Span.tells in
    let o = c.args.tree.object in
    let some = c.if-named-eq0.false in
    let up : suc (c.args.named.level - 1) ≡ c.args.named.level = omega (arith, some) in
    named-passes T n c.args.held.now o c.args.tree.threshold (c.args.named.level - 1) c.args.named.level c.args.named.least
    c.enter.new.node.level c.args.named.pair c.enter.new.node.pairs.items c.args.walk.now c.enter.new.walk c.check_pairs.new.walk up
    c.in_ok-enter.ensures.judged c.in_ok-enter.ensures.held c.in_ok-enter.ensures.told
    (subst (λ (pairs : List Pair). Judged T n c.args.held.now o c.enter.new.walk c.check_pairs.new.walk None
    (λ bytes. check_pairs n bytes o c.args.tree.threshold (c.args.named.level - 1) pairs)) c.as_slice.ensures
    c.in_ok-check_pairs.ensures.judged)
    (eq-eqb (bytes_of c.enter.new.node.pairs.items) c.args.named.pair.bytes
    (ap bytes_of (sym c.as_slice-2.ensures) ∙ c.have_bytes-fits.ensures.0 c.if-fits.true))

pub check_named-returns-else-fits-clause-judged : goal.check_named-returns-else-fits-clause-judged
check_named-returns-else-fits-clause-judged g t c =
    let n = c.args.geometry.now in
    let T = IsTrue g.P.S.Span.tells in
    let o = c.args.tree.object in
    let some = c.if-named-eq0.false in
    let up : suc (c.args.named.level - 1) ≡ c.args.named.level = omega (arith, some) in
    let pairs = c.enter.new.node.pairs.items in
    named-unsummed T n c.args.held.now o c.args.tree.threshold (c.args.named.level - 1) c.args.named.level c.args.named.least
    c.enter.new.node.level c.args.named.pair pairs c.args.walk.now c.enter.new.walk c.check_pairs.new.walk up
    c.in_ok-enter.ensures.judged c.in_ok-enter.ensures.held c.in_ok-enter.ensures.told
    (subst (λ (pairs : List Pair). Judged T n c.args.held.now o c.enter.new.walk c.check_pairs.new.walk None
    (λ bytes. check_pairs n bytes o c.args.tree.threshold (c.args.named.level - 1) pairs)) c.as_slice.ensures
    c.in_ok-check_pairs.ensures.judged)
    (ne_eqb (bytes_of pairs) c.args.named.pair.bytes
    (λ same. false≢true (sym c.if-fits.false ∙ c.have_bytes-fits.ensures.1 (ap bytes_of c.as_slice-2.ensures ∙ same))))

pub check_pairs-returns-then-level-eq1-clause-judged : goal.check_pairs-returns-then-level-eq1-clause-judged
check_pairs-returns-then-level-eq1-clause-judged g t c =
    let n = c.args.geometry.now in
    let T = IsTrue g.P.S.Span.tells in
    let lowest : c.args.level - 1 ≡ 0 = omega (arith, c.if-level-eq1.true) in
    pairs-lowest T n c.args.held.now c.args.tree.object c.args.tree.threshold (c.args.level - 1) c.args.pairs.now c.args.walk.now
    c.check_segments.new.walk _ lowest
    (Judged-told T n c.args.held.now c.args.tree.object c.args.walk.now c.check_segments.new.walk _ _
    (c.check_segments.ensures.judged c.args.held.now c.requires.asks.marked))

pub check_pairs-returns-in_err-check_named-clause-judged : goal.check_pairs-returns-in_err-check_named-clause-judged
check_pairs-returns-in_err-check_named-clause-judged g t c =
    let n = c.args.geometry.now in
    let T = IsTrue g.P.S.Span.tells in
    let o = c.args.tree.object in
    let threshold = c.args.tree.threshold in
    let below = c.args.level - 1 in
    let above = c.if-level-eq1.false in
    let some = c.requires.level in
    let i = c.loop-pair.pair-index in
    let fail = c.in_err-check_named.field-0.0 in
    let before = c.loop-pair.invariant.judged in
    Judged-err T n c.args.held.now o c.args.walk.now c.check_named.new.walk c.from_residual.result fail
    (λ bytes. check_pairs n bytes o threshold below c.args.pairs.now) c.from_residual.ensures.1
    (pairs-above T n c.args.held.now o threshold below c.args.pairs.now c.args.walk.now c.check_named.new.walk (Some fail)
    (λ none. omega (arith, none, above, some))
    (Judged-ends Pair T n c.args.held.now o c.args.walk.now c.check_named.new.walk fail
    (λ bytes. check_named n bytes o threshold below (fan_out n / 2)) c.args.pairs.now (i + 1)
    (Judged-next Pair T n c.args.held.now o c.args.walk.now c.loop-pair.walk c.check_named.new.walk (Some fail)
    (λ bytes. check_named n bytes o threshold below (fan_out n / 2)) c.args.pairs.now i none c.loop-pair-test.true before
    (subst (λ (k : ℕ). Judged T n c.args.held.now o c.loop-pair.walk c.check_named.new.walk (Some fail)
    (λ bytes. check_named n bytes o threshold below (k / 2) (get_or c.args.pairs.now i none))) c.fan_out-least.ensures
    c.in_err-check_named.ensures.judged))))

pub check_pairs-loop-pair-preserved : goal.check_pairs-loop-pair-preserved
check_pairs-loop-pair-preserved g t c =
    let n = c.args.geometry.now in
    let T = IsTrue g.P.S.Span.tells in
    let before = c.loop-pair.invariant in
    let step = c.in_ok-check_named.ensures in
    let named = subst (λ (k : ℕ). Judged T n c.args.held.now c.args.tree.object c.loop-pair.walk c.check_named.new.walk None
    (λ bytes. check_named n bytes c.args.tree.object c.args.tree.threshold (c.args.level - 1) (k / 2)
    (get_or c.args.pairs.now c.loop-pair.pair-index none))) c.fan_out-least.ensures step.judged in
    record {
      judged = Judged-next Pair T n c.args.held.now c.args.tree.object c.args.walk.now c.loop-pair.walk c.check_named.new.walk None
          (λ bytes. check_named n bytes c.args.tree.object c.args.tree.threshold (c.args.level - 1) (fan_out n / 2)) c.args.pairs.now
          c.loop-pair.pair-index none c.loop-pair-test.true before.judged named;
      room = KeepsRoom-then n.page c.args.path.now c.loop-pair.path c.check_named.new.path before.room step.room;
      reads = Reads-owned (owned c.args.walk.now) (owned c.loop-pair.walk) (owned c.check_named.new.walk) _ _ _ before.reads
          c.check_named.ensures.reads before.judged.more step.judged.more;
      quiet = step.cause.still (λ bad. absurd cc) ∙ before.quiet;
    }

pub check_pairs-returns-clause-judged : goal.check_pairs-returns-clause-judged
check_pairs-returns-clause-judged g t c =
    let n = c.args.geometry.now in
    let T = IsTrue g.P.S.Span.tells in
    let o = c.args.tree.object in
    let threshold = c.args.tree.threshold in
    let below = c.args.level - 1 in
    let above = c.if-level-eq1.false in
    let some = c.requires.level in
    pairs-above T n c.args.held.now o threshold below c.args.pairs.now c.args.walk.now c.loop-pair.walk None
    (λ none. omega (arith, none, above, some))
    (Judged-all Pair T n c.args.held.now o c.args.walk.now c.loop-pair.walk
    (λ bytes. check_named n bytes o threshold below (fan_out n / 2)) c.args.pairs.now
    c.loop-pair.pair-index (omega (arith, c.loop-pair-test.false)) c.loop-pair.invariant.judged)

pub check_named-returns-then-fits-clause-room : goal.check_named-returns-then-fits-clause-room
check_named-returns-then-fits-clause-room g t c =
    let page : length c.enter.new.room ≡ length c.args.path.now.page.items = c.enter.auto.room ∙ ap length c.deref_mut.ensures.value in
    let node : room_of c.args.geometry.now.page ≤ c.in-Some.node.pairs.room =
    all-last Node (λ (x : Node). room_of c.args.geometry.now.page ≤ x.pairs.room) c.pop.new.self.items c.in-Some.node
    (subst (All (λ (x : Node). room_of c.args.geometry.now.page ≤ x.pairs.room)) c.in-Some.ensures.items c.requires.room.each) in
    let long : length c.args.path.now.page.items ≡ vec_len c.args.path.now.page =
    ap length (sym c.deref_mut.ensures.value) ∙ c.deref_mut.ensures.len in
    room-back c.args.path.now (record { page = c.check_pairs.new.path.page; nodes = c.push_reserved.new.self }) c.enter.new.node
    c.in_ok-check_pairs.ensures.room (slice-back (vec_len c.args.path.now.page) c.enter.new.room c.args.path.now.page.items page long)
    c.in-Some.ensures.cases c.pop.ensures.capacity refl c.push_reserved.ensures.items
    c.push_reserved.ensures.len c.push_reserved.ensures.capacity (omega (arith, node, c.in_ok-enter.ensures.room))
