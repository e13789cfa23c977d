-- The way that was found shows the levels of the tree, so the exchange can be made where the device tells.
use Rattle.std.proofs.Common.{ℕ, ◌-◌, List, ap, subst, sym, ◌∙◌, arith}
use Rattle.geometry_model.proofs.NumberLaws.{page_size-low}
use Rattle.layout_model.specs.Parts.{count_ended}
use Rattle.local_laws.specs.Path.{PathLevel}
use Rattle.span_store.specs.Held.{bytes_on}
use Rattle.tree_model.specs.Node.{room_of}
use Rattle.tree_pages.proofs.TreeLemmas.{levels-entries}
use Rattle.tree_splice.specs.Splice.{CanSplice}
use Rattle.tree_splice.specs.Way.{lowest_pairs}
use Rattle.tree_splice.proofs.ShownLemmas.{way-shows}
use Rattle.tree_splice.proofs.ToldLemmas.{Found, found-can, tree-have}
use Rattle.tree_splice.proofs.draft.prepare.Goals as goal

pub count_new-requires-clause-can : goal.count_new-requires-clause-can
count_new-requires-clause-can g c = λ t.
    let size = (g.P.Port.meter c.args.port.now).page in
    let at = bytes_on c.args.held.now in
    let root = c.args.root.now in
    let place = c.place_between-place.result in
    let path = c.in_ok-way.way.path.items in
    let start = c.in_ok-way.way.start in
    let borders = c.requires.borders t in
    let large = page_size-low size c.requires.asks.pages.size_is in
    let first = c.place_between-place.ensures.from
    ∙ (ap (λ (n : ℕ). count_ended n (lowest_pairs c.deref.result.now)) c.saturating_sub.ensures
    ∙ ap (λ (p : List PathLevel). count_ended (c.args.from - start) (lowest_pairs p)) c.deref.ensures.value) in
    let last = c.place_between-place.ensures.count
    ∙ (ap (λ (n : ℕ). count_ended n (lowest_pairs c.deref.result.now) - place.from) c.saturating_sub-2.ensures
    ∙ ap (λ (p : List PathLevel). count_ended (c.args.to - start) (lowest_pairs p) - place.from) c.deref.ensures.value) in
    let found : Found size c.args.held.now root c.args.from c.args.to place.from place.count c.args.fresh.now path = record {
      large = large;
      sized = λ t' q. c.requires.asks.pages.sized t q;
      tree = c.requires.asks.stands t;
      way = λ k count between.
          way-shows at (room_of size) root c.args.from c.args.to k count c.args.fresh.now path start place.from place.count
          (omega (arith, large)) (c.requires.asks.stands t) c.requires.order c.requires.inside
          (tree-have size c.args.held.now root (λ t' q. c.requires.asks.pages.sized t q) (c.requires.asks.stands t))
          (levels-entries at root.height root.page) between (c.in_ok-way.ensures.told t).path_is
          (c.in_ok-way.ensures.told t).start_is first last;
      some = c.requires.some;
      small = c.requires.sum;
    } in
    let can = found-can size c.args.held.now root c.args.from c.args.to place.from place.count borders.0 borders.1
    c.args.fresh.now path found
    borders.2 in
    subst (λ (n : ℕ). CanSplice (room_of n) c.deref-2.result.now place.from place.count c.args.fresh.now)
    (sym c.in_ok-way.ensures.reads.uses.used.page)
    (subst (λ (p : List PathLevel). CanSplice (room_of size) p place.from place.count c.args.fresh.now)
    (sym c.deref-2.ensures.value) can)

pub returns-clause-told : goal.returns-clause-told
returns-clause-told g c = λ t k count between.
    let size = (g.P.Port.meter c.args.port.now).page in
    let at = bytes_on c.args.held.now in
    let root = c.args.root.now in
    let place = c.place_between-place.result in
    let path = c.in_ok-way.way.path.items in
    let start = c.in_ok-way.way.start in
    let large = page_size-low size c.requires.asks.pages.size_is in
    let first = c.place_between-place.ensures.from
    ∙ (ap (λ (n : ℕ). count_ended n (lowest_pairs c.deref.result.now)) c.saturating_sub.ensures
    ∙ ap (λ (p : List PathLevel). count_ended (c.args.from - start) (lowest_pairs p)) c.deref.ensures.value) in
    let last = c.place_between-place.ensures.count
    ∙ (ap (λ (n : ℕ). count_ended n (lowest_pairs c.deref.result.now) - place.from) c.saturating_sub-2.ensures
    ∙ ap (λ (p : List PathLevel). count_ended (c.args.to - start) (lowest_pairs p) - place.from) c.deref.ensures.value) in
    way-shows at (room_of size) root c.args.from c.args.to k count c.args.fresh.now path start place.from place.count
    (omega (arith, large)) (c.requires.asks.stands t) c.requires.order c.requires.inside
    (tree-have size c.args.held.now root (λ t' q. c.requires.asks.pages.sized t q) (c.requires.asks.stands t))
    (levels-entries at root.height root.page) between (c.in_ok-way.ensures.told t).path_is
    (c.in_ok-way.ensures.told t).start_is first last
