use Rattle.std.proofs.Common.{◌≡◌, ℕ, ◌+◌, ◌*◌, ◌/◌, ◌<◌, List, ◌++◌, length, sym, ap, subst, ◌∙◌, arith}
use Rattle.std.proofs.Common.{length-append}
use Rattle.std.specs.Prelude.{IfSome, Option, option_to_list}
use Rattle.std.specs.List.{AllByRecursion}
use Rattle.fault_count.proofs.CountLaws.{HasCause-then}
use Rattle.tree_model.specs.declared.entry.Placed.{Placed}
use Rattle.tree_model.specs.Node.{room_of}
use Rattle.tree_model.specs.Range.{pairs_of, placed, start_of}
use Rattle.tree_model.specs.Tree.{entries_of}
use Rattle.tree_pages.proofs.TreeLemmas.{tree-bytes}
use Rattle.span_store.specs.Held.{bytes_on}
use Rattle.tree_read.specs.Search.{EndsInside, ReadsNodes}
use Rattle.tree_read.proofs.MeterLemmas.{reads-none}
use Rattle.object_plan.specs.Reading.{place_before, place_behind}
use Rattle.object_plan.proofs.ReadLemmas.{asks-then, before-inside, behind-inside, fault-same, few-read}
use Rattle.object_plan.proofs.ReadLemmas.{no-fault, no-window, reads-then, window-read}
use Rattle.object_plan.proofs.window.read_window.Goals as goal

-- ---- an object of no byte

pub returns-then-root-eq0-clause-told : goal.returns-then-root-eq0-clause-told
returns-then-root-eq0-clause-told g c = λ t have.
    let root = c.args.root.now in
    let at = bytes_on c.args.held.now in
    let half = room_of (g.P.Port.meter c.args.port.now).page / 2 in
    let total = tree-bytes at half root.height root.page root.length (c.requires.asks.stands t) in
    let none = c.if-root-eq0.true in
    c.new.ensures.items
    ∙ sym (no-window (entries_of at root.height root.page) c.args.at c.args.removed have (omega (arith, total, none)))

pub returns-then-root-eq0-clause-reads : goal.returns-then-root-eq0-clause-reads
returns-then-root-eq0-clause-reads g c = reads-none _ _ _ _ _ c.requires.asks.nodes

-- ---- what the searches ask for

pub before-place-requires : goal.before-place-requires
before-place-requires g c = record {
  fits = subst (AllByRecursion EndsInside) (sym c.as_slice.ensures.value) c.in_ok-met.ensures.reaches.ends;
}

pub find_at-requires-clause-inside : goal.find_at-requires-clause-inside
find_at-requires-clause-inside g c =
    let root = c.args.root.now in
    let met = c.in_ok-met.met.items in
    let first = c.in_ok-met.ensures.reaches.covers.first in
    let start = first (omega arith) in
    let is = c.before-place.ensures ∙ ap (place_before c.args.at) c.as_slice.ensures.value in
    subst (λ (o : Option ℕ). IfSome o (λ place. place < root.length)) (sym is)
    (before-inside c.args.at root.length met (omega (arith, start)))

pub find_at-requires-clause-asks : goal.find_at-requires-clause-asks
find_at-requires-clause-asks g c =
    asks-then _ c.args.held.now c.args.root.now c.args.cache.now c.entries.new.cache (g.P.Port.meter c.args.port.now)
    (g.P.Port.meter c.entries.new.port) c.requires.asks
    (record { nodes = c.entries.ensures.searches.nodes; uses = c.entries.ensures.searches.uses })

pub behind-place-requires-clause-fits : goal.behind-place-requires-clause-fits
behind-place-requires-clause-fits g c =
    subst (AllByRecursion EndsInside) (sym c.as_slice-2.ensures.value) c.in_ok-met.ensures.reaches.ends

pub behind-place-requires-clause-adjoined : goal.behind-place-requires-clause-adjoined
behind-place-requires-clause-adjoined g c =
    subst (λ (ss : List Placed). ss ≡ placed (start_of ss) (pairs_of ss)) (sym c.as_slice-2.ensures.value)
    c.in_ok-met.ensures.reaches.covers.adjoined

pub find_at-requires-2-clause-inside : goal.find_at-requires-2-clause-inside
find_at-requires-2-clause-inside g c =
    let root = c.args.root.now in
    let met = c.in_ok-met.met.items in
    let end = c.args.at + c.args.removed in
    let is = c.behind-place.ensures ∙ ap (place_behind end root.length) c.as_slice-2.ensures.value in
    subst (λ (o : Option ℕ). IfSome o (λ place. place < root.length)) (sym is) (behind-inside end root.length met)

pub find_at-requires-2-clause-asks : goal.find_at-requires-2-clause-asks
find_at-requires-2-clause-asks g c =
    let m0 = g.P.Port.meter c.args.port.now in
    let m1 = g.P.Port.meter c.entries.new.port in
    let m2 = g.P.Port.meter c.find_at.new.port in
    let first : ReadsNodes g.P.S.Span.tells m0.page (bytes_on c.args.held.now) c.entries.new.cache m0 m1 =
    record { nodes = c.entries.ensures.searches.nodes; uses = c.entries.ensures.searches.uses } in
    asks-then _ c.args.held.now c.args.root.now c.args.cache.now c.find_at.new.cache m0 m2 c.requires.asks
    (reads-then _ _ c.entries.new.cache c.find_at.new.cache m0 m1 m2 first c.find_at.ensures.reads)

-- ---- what was read

pub returns-in_err-met-clause-reads : goal.returns-in_err-met-clause-reads
returns-in_err-met-clause-reads g c =
    record { nodes = c.entries.ensures.searches.nodes; uses = c.entries.ensures.searches.uses }

pub returns-in_err-front-clause-reads : goal.returns-in_err-front-clause-reads
returns-in_err-front-clause-reads g c =
    let m0 = g.P.Port.meter c.args.port.now in
    let m1 = g.P.Port.meter c.entries.new.port in
    let m2 = g.P.Port.meter c.find_at.new.port in
    let first : ReadsNodes g.P.S.Span.tells m0.page (bytes_on c.args.held.now) c.entries.new.cache m0 m1 =
    record { nodes = c.entries.ensures.searches.nodes; uses = c.entries.ensures.searches.uses } in
    reads-then _ _ c.entries.new.cache c.find_at.new.cache m0 m1 m2 first c.find_at.ensures.reads

pub returns-in_err-back-clause-reads : goal.returns-in_err-back-clause-reads
returns-in_err-back-clause-reads g c =
    let m0 = g.P.Port.meter c.args.port.now in
    let m1 = g.P.Port.meter c.entries.new.port in
    let m2 = g.P.Port.meter c.find_at.new.port in
    let m3 = g.P.Port.meter c.find_at-2.new.port in
    let first : ReadsNodes g.P.S.Span.tells m0.page (bytes_on c.args.held.now) c.entries.new.cache m0 m1 =
    record { nodes = c.entries.ensures.searches.nodes; uses = c.entries.ensures.searches.uses } in
    let second = reads-then _ _ c.entries.new.cache c.find_at.new.cache m0 m1 m2 first c.find_at.ensures.reads in
    reads-then _ _ c.find_at.new.cache c.find_at-2.new.cache m0 m2 m3 second c.find_at-2.ensures.reads

pub returns-in_err-joined-clause-reads : goal.returns-in_err-joined-clause-reads
returns-in_err-joined-clause-reads g c =
    let m0 = g.P.Port.meter c.args.port.now in
    let m1 = g.P.Port.meter c.entries.new.port in
    let m2 = g.P.Port.meter c.find_at.new.port in
    let m3 = g.P.Port.meter c.find_at-2.new.port in
    let first : ReadsNodes g.P.S.Span.tells m0.page (bytes_on c.args.held.now) c.entries.new.cache m0 m1 =
    record { nodes = c.entries.ensures.searches.nodes; uses = c.entries.ensures.searches.uses } in
    let second = reads-then _ _ c.entries.new.cache c.find_at.new.cache m0 m1 m2 first c.find_at.ensures.reads in
    reads-then _ _ c.find_at.new.cache c.find_at-2.new.cache m0 m2 m3 second c.find_at-2.ensures.reads

pub returns-clause-reads : goal.returns-clause-reads
returns-clause-reads g c =
    let m0 = g.P.Port.meter c.args.port.now in
    let m1 = g.P.Port.meter c.entries.new.port in
    let m2 = g.P.Port.meter c.find_at.new.port in
    let m3 = g.P.Port.meter c.find_at-2.new.port in
    let first : ReadsNodes g.P.S.Span.tells m0.page (bytes_on c.args.held.now) c.entries.new.cache m0 m1 =
    record { nodes = c.entries.ensures.searches.nodes; uses = c.entries.ensures.searches.uses } in
    let second = reads-then _ _ c.entries.new.cache c.find_at.new.cache m0 m1 m2 first c.find_at.ensures.reads in
    reads-then _ _ c.find_at.new.cache c.find_at-2.new.cache m0 m2 m3 second c.find_at-2.ensures.reads

-- ---- the faults that were counted

pub returns-in_err-front-clause-cause : goal.returns-in_err-front-clause-cause
returns-in_err-front-clause-cause g c =
    HasCause-then _ _ _ _ (c.in_ok-met.ensures.cause.still (λ bad. absurd cc))
    (fault-same _ _ _ _ c.from_residual-in_err-front.ensures.1 c.in_err-front.ensures.cause)

pub returns-in_err-back-clause-cause : goal.returns-in_err-back-clause-cause
returns-in_err-back-clause-cause g c =
    HasCause-then _ _ _ _ (c.in_ok-front.ensures.cause.still (λ bad. absurd cc)
    ∙ c.in_ok-met.ensures.cause.still (λ bad. absurd cc))
    (fault-same _ _ _ _ c.from_residual-in_err-back.ensures.1 c.in_err-back.ensures.cause)

pub returns-in_err-joined-clause-cause : goal.returns-in_err-joined-clause-cause
returns-in_err-joined-clause-cause g c =
    let quiet = c.in_ok-back.ensures.cause.still (λ bad. absurd cc) ∙ (c.in_ok-front.ensures.cause.still (λ bad. absurd cc)
    ∙ c.in_ok-met.ensures.cause.still (λ bad. absurd cc)) in
    no-fault _ _ _ c.from_residual-in_err-joined.ensures.1 quiet

pub returns-clause-cause : goal.returns-clause-cause
returns-clause-cause g c =
    let quiet = c.in_ok-back.ensures.cause.still (λ bad. absurd cc) ∙ (c.in_ok-front.ensures.cause.still (λ bad. absurd cc)
    ∙ c.in_ok-met.ensures.cause.still (λ bad. absurd cc)) in
    record { kept = omega (arith, quiet); raised = λ bad. absurd cc; still = λ none. quiet }

-- ---- the window

pub returns-clause-told : goal.returns-clause-told
returns-clause-told g c = λ t have.
    let root = c.args.root.now in
    let at = bytes_on c.args.held.now in
    let entries = entries_of at root.height root.page in
    let half = room_of (g.P.Port.meter c.args.port.now).page / 2 in
    let total = tree-bytes at half root.height root.page root.length (c.requires.asks.stands t) in
    let met = c.in_ok-met.met.items in
    let end = c.args.at + c.args.removed in
    let front = option_to_list c.in_ok-front.front in
    let back = option_to_list c.in_ok-back.back in
    c.in_ok-joined.ensures
    ∙ (ap (λ (ss : List Placed). front ++ (ss ++ back)) c.as_slice-3.ensures.value
    ∙ window-read entries c.args.at c.args.removed _ _ root.length met front back _ _ have total c.requires.within
    c.saturating_sub-from.ensures (omega (arith, c.min.ensures)) (c.in_ok-met.ensures.told t)
    (c.before-place.ensures ∙ ap (place_before c.args.at) c.as_slice.ensures.value) (c.in_ok-front.ensures.told t)
    (c.behind-place.ensures ∙ ap (place_behind end root.length) c.as_slice-2.ensures.value) (c.in_ok-back.ensures.told t))

pub returns-clause-few : goal.returns-clause-few
returns-clause-few g c = λ t.
    let height = c.args.root.now.height in
    let met = c.in_ok-met.met.items in
    let front = option_to_list c.in_ok-front.front in
    let back = option_to_list c.in_ok-back.back in
    let slice = ap length c.as_slice-3.ensures.value in
    let all = ap length c.in_ok-joined.ensures in
    let one = length-append front (c.as_slice-3.result.now ++ back) in
    let two = length-append c.as_slice-3.result.now back in
    let long : length c.in_ok-joined.field-0.items ≡ length front + (length met + length back) = omega (arith, slice, all, one, two) in
    let times = ap (λ (k : ℕ). height * k) long in
    let read = few-read height (length met) (length front) (length back) _ _ _ _ (c.in_ok-met.ensures.level t)
    c.in_ok-front.ensures.few c.in_ok-back.ensures.few in
    omega (arith, times, read)
