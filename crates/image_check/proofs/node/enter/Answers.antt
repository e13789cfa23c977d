-- The first checks of a node are those of the definition.
use Rattle.std.proofs.Common.{◌≡◌, ◌∙◌, ◌<◌, ℕ, List, true, None, Some, IsTrue, length, refl, sym, ap, subst, arith}
use Rattle.std.specs.Prelude.{IfSome}
use Rattle.geometry_model.specs.Pages.{is_data_page}
use Rattle.geometry_model.proofs.NumberLaws.{page_size-low}
use Rattle.tree_model.specs.Node.{NodeBytes}
use Rattle.span_store.specs.Held.{bytes_on, page_at}
use Rattle.image_model.specs.Checks.{holds_node}
use Rattle.image_laws.proofs.NodeLemmas.{data-below}
use Rattle.image_check.specs.declared.failure.CheckFail.TheVariants.{Fault}
use Rattle.image_check.specs.Verdicts.{check_head}
use Rattle.image_check.proofs.JudgedLemmas.{Judged-err, Reads-one}
use Rattle.image_check.proofs.OwnerLemmas.{owned-met, unanswered}
use Rattle.image_check.proofs.HeadLemmas.{head-bad, head-unmet, head-broken, head-filled, head-unfilled, nobody-held, sized-on}
use Rattle.image_check.proofs.SegmentLemmas.{Judged-met}
use Rattle.image_check.proofs.node.enter.Goals as goal

pub meet-requires-clause-within : goal.meet-requires-clause-within
meet-requires-clause-within g c =
    let on : is_data_page c.args.geometry.now c.args.named.pair.page ≡ true = sym c.is_data_page.ensures ∙ c.if-not-is_data_page.false in
    subst (λ (k : ℕ). c.args.named.pair.page < k) (sym c.requires.asks.marked.count)
    (data-below c.args.geometry.now c.args.named.pair.page on)

pub read_page-requires-clause-held : goal.read_page-requires-clause-held
read_page-requires-clause-held g c =
    let on : is_data_page c.args.geometry.now c.args.named.pair.page ≡ true = sym c.is_data_page.ensures ∙ c.if-not-is_data_page.false in
    nobody-held c.args.geometry.now c.args.held.now c.args.walk.now c.args.named.pair.page on c.requires.asks.marked
    (unanswered c.args.named.pair.page _ c.in_ok-meet.ensures.answer)

pub read_page-requires-clause-some : goal.read_page-requires-clause-some
read_page-requires-clause-some g c =
    let low = page_size-low c.args.geometry.now.page c.page-size.ensures.range.page_size in
    omega (arith, low, c.requires.asks.size_is)

pub returns-in_err-meet-clause-judged : goal.returns-in_err-meet-clause-judged
returns-in_err-meet-clause-judged g c =
    let n = c.args.geometry.now in
    let page = c.args.named.pair.page in
    let on : is_data_page n page ≡ true = sym c.is_data_page.ensures ∙ c.if-not-is_data_page.false in
    let fail = c.in_err-meet.field-0.0 in
    Judged-err (IsTrue g.P.S.Span.tells) n c.args.held.now c.args.object c.args.walk.now c.meet.new.self c.from_residual.result fail
    (λ bytes. check_head n bytes c.args.object c.args.named.level c.args.named.least page) c.from_residual.ensures.1
    (head-unmet (IsTrue g.P.S.Span.tells) n c.args.held.now c.args.object c.args.named.level c.args.named.least page c.args.walk.now
    c.meet.new.self fail c.requires.asks.marked on
    (Judged-met (IsTrue g.P.S.Span.tells) n c.args.held.now c.args.object page c.args.walk.now c.meet.new.self (Some fail) on
    c.requires.asks.marked c.in_err-meet.ensures.answer c.in_err-meet.ensures.walk))

pub returns-in_err-read_page-clause-judged : goal.returns-in_err-read_page-clause-judged
returns-in_err-read_page-clause-judged g c =
    let n = c.args.geometry.now in
    let T = IsTrue g.P.S.Span.tells in
    let page = c.args.named.pair.page in
    let on : is_data_page n page ≡ true = sym c.is_data_page.ensures ∙ c.if-not-is_data_page.false in
    let met = Judged-met T n c.args.held.now c.args.object page c.args.walk.now c.meet.new.self None on
    c.requires.asks.marked c.in_ok-meet.ensures.answer c.in_ok-meet.ensures.walk in
    let held = nobody-held n c.args.held.now c.args.walk.now page on c.requires.asks.marked
    (unanswered page _ c.in_ok-meet.ensures.answer) in
    Judged-err T n c.args.held.now c.args.object c.args.walk.now c.meet.new.self c.from_residual-in_err-read_page.result Fault
    (λ bytes. check_head n bytes c.args.object c.args.named.level c.args.named.least page) c.from_residual-in_err-read_page.ensures.1
    (head-broken T n c.args.held.now c.args.object c.args.named.level c.args.named.least page c.args.walk.now c.meet.new.self Fault
    c.requires.asks.marked on met refl)

pub returns-in_err-read_page-clause-reads : goal.returns-in_err-read_page-clause-reads
returns-in_err-read_page-clause-reads g c =
    let n = c.args.geometry.now in
    let page = c.args.named.pair.page in
    let on : is_data_page n page ≡ true = sym c.is_data_page.ensures ∙ c.if-not-is_data_page.false in
    let inside = subst (λ (k : ℕ). page < k) (sym c.requires.asks.marked.count) (data-below n page on) in
    Reads-one _ _ _ _ (owned-met c.args.walk.now c.meet.new.self page c.args.object inside c.in_ok-meet.ensures.answer
    c.in_ok-meet.ensures.walk) c.read_page.ensures.reads

pub returns-then-not-holds_node-clause-judged : goal.returns-then-not-holds_node-clause-judged
returns-then-not-holds_node-clause-judged g c =
    let n = c.args.geometry.now in
    let T = IsTrue g.P.S.Span.tells in
    let page = c.args.named.pair.page in
    let on : is_data_page n page ≡ true = sym c.is_data_page.ensures ∙ c.if-not-is_data_page.false in
    let met = Judged-met T n c.args.held.now c.args.object page c.args.walk.now c.meet.new.self None on
    c.requires.asks.marked c.in_ok-meet.ensures.answer c.in_ok-meet.ensures.walk in
    let held = nobody-held n c.args.held.now c.args.walk.now page on c.requires.asks.marked
    (unanswered page _ c.in_ok-meet.ensures.answer) in
    let same : T → c.read_page.new.room ≡ bytes_on c.args.held.now page = c.in_ok-read_page.ensures.bytes in
    let long : length c.read_page.new.room ≡ n.page = c.read_page.auto.room ∙ c.requires.room in
    head-bad T n c.args.held.now c.args.object c.args.named.level c.args.named.least page c.args.walk.now c.meet.new.self
    c.requires.asks.marked on met held
    (λ t. ap (holds_node n.page) (sym (same t)) ∙ ap (λ (k : ℕ). holds_node k c.read_page.new.room) (sym long)
    ∙ sym c.holds_node.ensures.exact ∙ c.if-not-holds_node.true)

pub returns-then-not-holds_node-clause-reads : goal.returns-then-not-holds_node-clause-reads
returns-then-not-holds_node-clause-reads g c =
    let n = c.args.geometry.now in
    let page = c.args.named.pair.page in
    let on : is_data_page n page ≡ true = sym c.is_data_page.ensures ∙ c.if-not-is_data_page.false in
    let inside = subst (λ (k : ℕ). page < k) (sym c.requires.asks.marked.count) (data-below n page on) in
    Reads-one _ _ _ _ (owned-met c.args.walk.now c.meet.new.self page c.args.object inside c.in_ok-meet.ensures.answer
    c.in_ok-meet.ensures.walk) c.read_page.ensures.reads

pub returns-then-is_filled-clause-judged : goal.returns-then-is_filled-clause-judged
returns-then-is_filled-clause-judged g c =
    let n = c.args.geometry.now in
    let T = IsTrue g.P.S.Span.tells in
    let page = c.args.named.pair.page in
    let on : is_data_page n page ≡ true = sym c.is_data_page.ensures ∙ c.if-not-is_data_page.false in
    let met = Judged-met T n c.args.held.now c.args.object page c.args.walk.now c.meet.new.self None on
    c.requires.asks.marked c.in_ok-meet.ensures.answer c.in_ok-meet.ensures.walk in
    let held = nobody-held n c.args.held.now c.args.walk.now page on c.requires.asks.marked
    (unanswered page _ c.in_ok-meet.ensures.answer) in
    let same : T → c.read_page.new.room ≡ bytes_on c.args.held.now page = c.in_ok-read_page.ensures.bytes in
    head-filled T n c.args.held.now c.args.object c.args.named.level c.args.named.least page c.holds_node.new.node.level
    c.holds_node.new.node.pairs.items c.args.walk.now c.meet.new.self c.requires.asks.marked on met held
    (λ t. sized-on c.args.held.now page n.page held (subst (λ (k : ℕ). IfSome (page_at c.args.held.now page) (λ p. length p ≡ k))
    c.requires.asks.size_is (c.requires.asks.sized t page)))
    (λ t. subst (λ (bytes : List ℕ). NodeBytes bytes c.holds_node.new.node.level c.holds_node.new.node.pairs.items) (same t)
    (c.holds_node.ensures.node c.if-not-holds_node.false))
    (sym c.is_filled.ensures ∙ c.if-is_filled.true)

pub returns-then-is_filled-clause-reads : goal.returns-then-is_filled-clause-reads
returns-then-is_filled-clause-reads g c =
    let n = c.args.geometry.now in
    let page = c.args.named.pair.page in
    let on : is_data_page n page ≡ true = sym c.is_data_page.ensures ∙ c.if-not-is_data_page.false in
    let inside = subst (λ (k : ℕ). page < k) (sym c.requires.asks.marked.count) (data-below n page on) in
    Reads-one _ _ _ _ (owned-met c.args.walk.now c.meet.new.self page c.args.object inside c.in_ok-meet.ensures.answer
    c.in_ok-meet.ensures.walk) c.read_page.ensures.reads

pub returns-else-is_filled-clause-judged : goal.returns-else-is_filled-clause-judged
returns-else-is_filled-clause-judged g c =
    let n = c.args.geometry.now in
    let T = IsTrue g.P.S.Span.tells in
    let page = c.args.named.pair.page in
    let on : is_data_page n page ≡ true = sym c.is_data_page.ensures ∙ c.if-not-is_data_page.false in
    let met = Judged-met T n c.args.held.now c.args.object page c.args.walk.now c.meet.new.self None on
    c.requires.asks.marked c.in_ok-meet.ensures.answer c.in_ok-meet.ensures.walk in
    let held = nobody-held n c.args.held.now c.args.walk.now page on c.requires.asks.marked
    (unanswered page _ c.in_ok-meet.ensures.answer) in
    let same : T → c.read_page.new.room ≡ bytes_on c.args.held.now page = c.in_ok-read_page.ensures.bytes in
    head-unfilled T n c.args.held.now c.args.object c.args.named.level c.args.named.least page c.holds_node.new.node.level
    c.holds_node.new.node.pairs.items c.args.walk.now c.meet.new.self c.requires.asks.marked on met held
    (λ t. sized-on c.args.held.now page n.page held (subst (λ (k : ℕ). IfSome (page_at c.args.held.now page) (λ p. length p ≡ k))
    c.requires.asks.size_is (c.requires.asks.sized t page)))
    (λ t. subst (λ (bytes : List ℕ). NodeBytes bytes c.holds_node.new.node.level c.holds_node.new.node.pairs.items) (same t)
    (c.holds_node.ensures.node c.if-not-holds_node.false))
    (sym c.is_filled.ensures ∙ c.if-is_filled.false)

pub returns-else-is_filled-clause-reads : goal.returns-else-is_filled-clause-reads
returns-else-is_filled-clause-reads g c =
    let n = c.args.geometry.now in
    let page = c.args.named.pair.page in
    let on : is_data_page n page ≡ true = sym c.is_data_page.ensures ∙ c.if-not-is_data_page.false in
    let inside = subst (λ (k : ℕ). page < k) (sym c.requires.asks.marked.count) (data-below n page on) in
    Reads-one _ _ _ _ (owned-met c.args.walk.now c.meet.new.self page c.args.object inside c.in_ok-meet.ensures.answer
    c.in_ok-meet.ensures.walk) c.read_page.ensures.reads
