-- Page by page, the nodes that are left and those of the new tree are those of the old tree and the made ones.
use Rattle.std.proofs.Common.{◌≡◌, ℕ, zero, suc, ◌+◌, ◌-◌, ◌*◌, ◌/◌, ◌<◌, ◌≤◌, Bool, true, false, ◌&&◌, not, cond}
use Rattle.std.proofs.Common.{List, [], ◌∷◌, ◌++◌, length, take, drop, map, refl, sym, ap, subst, arith, ◌∙◌, ◌⊎◌}
use Rattle.std.proofs.Common.{inl, inr, length-append, length-take, length-drop, nat_eq, nat_le, nat_lt, sum_by}
use Rattle.std.specs.List.{flat_map, AllByRecursion}
use Rattle.std.proofs.lemmas.Bool.{cases_Bool, cases_lt, ltb-true, ltb-false, lt-ltb, eqb-true, ne_eqb, and_parts}
use Rattle.std.proofs.lemmas.List.{append-nil, take-append-drop, drop-drop, length-map}
use Rattle.base_laws.proofs.ListLaws.{all-map}
use Rattle.tree_model.specs.declared.entry.Pair.{Pair}
use Rattle.layout_model.specs.Levels.{PageNode, NewLevel, Site, pair_of, pairs_of_level, site_of, exchanged}
use Rattle.layout_model.specs.Levels.{sizes_of, cut_into, on_pages, level_with, level_after, raised_levels}
use Rattle.layout_model.specs.Levels.{new_levels_from, spliced, is_top, unless_empty, nodes_of_levels}
use Rattle.layout_laws.proofs.LevelLemmas.{raised_levels-head, new_levels_from-head, count-cons}
use Rattle.layout_laws.proofs.NamingLemmas.{new_levels_from-top, new_levels_from-more}
use Rattle.moment_model.specs.Version.{uses, node_run, AreLevels, Carries, AreFilled, IsFilled, least_on}
use Rattle.change_laws.proofs.NodeLemmas.{level_uses, levels_uses, level_uses-append, levels_uses-cons}
use Rattle.change_laws.proofs.PartLemmas.{all-left, all-right}
use Rattle.change_laws.proofs.UsedNodeLemmas.{empty-alone}
use Rattle.local_laws.specs.Cut.{Cut, whole, widened, number_in_run}
use Rattle.local_laws.specs.Path.{PathLevel, is_top_of_path, new_path_from, splice_path, shown_level, shown, Leads}
use Rattle.local_laws.specs.Path.{AreLeading, IsWay, widened_path}
use Rattle.local_laws.specs.Left.{cut_run, nodes_left, nodes_made}
use Rattle.local_laws.proofs.CutLemmas.{pairs_in, pairs_in-append, HasDeciding, IsInRun, nodes_at-run, whole-length}
use Rattle.local_laws.proofs.PathLemmas.{NothingBeside, IsNew, new-level, led, path-local, whole-run}

-- the nodes of each new level
abbrev all_nodes : List NewLevel → List (List PageNode)
all_nodes new = map (λ (level : NewLevel). level.nodes) new

-- ---- one level

-- a level without the nodes of a site, and with the made ones
with-difference : (page : ℕ) (nodes : List PageNode) (site : Site) (made : List PageNode) →
    level_uses page (take site.nodes (drop site.before nodes)) + level_uses page (level_with nodes site made).nodes
    ≡ level_uses page nodes + level_uses page made
with-difference page nodes site made =
    let front = take site.before nodes in
    let back = drop (site.before + site.nodes) nodes in
    let outer = level_uses-append page front (made ++ back) in
    let rest = level_uses-append page made back in
    let all = level_uses-append page front (drop site.before nodes) in
    let whole : level_uses page (front ++ drop site.before nodes) ≡ level_uses page nodes =
    ap (level_uses page) (take-append-drop site.before nodes) in
    let inner = level_uses-append page (take site.nodes (drop site.before nodes)) (drop site.nodes (drop site.before nodes)) in
    let split : level_uses page (take site.nodes (drop site.before nodes) ++ drop site.nodes (drop site.before nodes))
    ≡ level_uses page (drop site.before nodes) =
    ap (level_uses page) (take-append-drop site.nodes (drop site.before nodes)) in
    let behind : level_uses page (drop site.nodes (drop site.before nodes)) ≡ level_uses page back =
    ap (level_uses page) (drop-drop site.nodes site.before nodes) in
    omega (arith, outer, rest, all, whole, inner, split, behind)

-- a level that is cut from nothing has the made nodes
none-difference : (page : ℕ) (site : Site) (made : List PageNode) → level_uses page (level_with [] site made).nodes ≡ level_uses page made
none-difference page site made =
    let both = with-difference page [] site made in
    let none : level_uses page (take site.nodes (drop site.before [])) ≡ 0 =
    ap (level_uses page) (ap (take site.nodes) (none-left site.before) ∙ none-taken site.nodes) in
    omega (arith, both, none)
  where
    none-left : (k : ℕ) → drop {A = PageNode} k [] ≡ []
    none-left zero = refl
    none-left (suc k) = refl

    none-taken : (k : ℕ) → take {A = PageNode} k [] ≡ []
    none-taken zero = refl
    none-taken (suc k) = refl

-- ---- the levels

made-cons : (page : ℕ) (level : NewLevel) (new : List NewLevel) →
    level_uses page (nodes_made (level ∷ new)) ≡ level_uses page level.made + level_uses page (nodes_made new)
made-cons page level new = level_uses-append page level.made (nodes_made new)

-- where none stands in the place of levels, all of them are left
levels-left : (page : ℕ) (levels : List (List PageNode)) → level_uses page (nodes_left levels []) ≡ levels_uses page levels
levels-left page [] = refl
levels-left page (nodes ∷ above) =
    let more = levels-left page above in
    let one = level_uses-append page nodes (nodes_left above []) in
    let two = levels_uses-cons page nodes above in
    omega (arith, more, one, two)

-- levels above the old root are made
raised-difference : (page steps f : ℕ) (below : NewLevel) (pages : List ℕ) →
    levels_uses page (all_nodes (raised_levels steps f below pages)) + level_uses page below.made
    ≡ level_uses page below.nodes + level_uses page (nodes_made (raised_levels steps f below pages))
raised-difference page zero f below pages =
    let one = levels_uses-cons page below.nodes [] in
    let two = made-cons page below [] in
    omega (arith, one, two)
raised-difference page (suc steps) f below pages =
    let P : List NewLevel → Type 0 =
    λ new. levels_uses page (all_nodes new) + level_uses page below.made ≡ level_uses page below.nodes + level_uses page (nodes_made new) in
    elim (cases_Bool (is_top below)) [
      | inl top ↦
          let step : raised_levels (suc steps) f below pages ≡ below ∷ [] = rw (top, raised_levels) in
          let one = levels_uses-cons page below.nodes [] in
          let two = made-cons page below [] in
          let goal : P (below ∷ []) = omega (arith, one, two) in
          subst P (sym step) goal
      | inr more ↦
          let left = drop (length below.made) pages in
          let names = map pair_of below.nodes in
          let next = level_after f [] 0 0 names left in
          let step : raised_levels (suc steps) f below pages ≡ below ∷ raised_levels steps f next left = rw (more, raised_levels) in
          let rest = raised-difference page steps f next left in
          let same = none-difference page (site_of f [] 0 0 names) next.made in
          let one = levels_uses-cons page below.nodes (all_nodes (raised_levels steps f next left)) in
          let two = made-cons page below (raised_levels steps f next left) in
          let goal : P (below ∷ raised_levels steps f next left) = omega (arith, rest, same, one, two) in
          subst P (sym step) goal
    ]

-- what is said of a level of these nodes that becomes a new one
record Differs (page : ℕ) (nodes : List PageNode) (below : NewLevel) : Type 0 where
  sum : level_uses page (take below.count (drop below.from nodes)) + level_uses page below.nodes
      ≡ level_uses page nodes + level_uses page below.made

-- and of levels that become new ones
record AllDiffer (page : ℕ) (levels : List (List PageNode)) (new : List NewLevel) : Type 0 where
  sum : level_uses page (nodes_left levels new) + levels_uses page (all_nodes new)
      ≡ levels_uses page levels + level_uses page (nodes_made new)

differs : (page f : ℕ) (nodes : List PageNode) (from count : ℕ) (fresh : List Pair) (pages : List ℕ) →
    Differs page nodes (level_after f nodes from count fresh pages)
differs page f nodes from count fresh pages =
    record { sum = with-difference page nodes (site_of f nodes from count fresh) (level_after f nodes from count fresh pages).made }

from-difference : (page f : ℕ) (nodes : List PageNode) (below : NewLevel) (old : List (List PageNode)) (pages : List ℕ) →
    Differs page nodes below →
    AllDiffer page (nodes ∷ old) (new_levels_from f below old pages)
from-difference page f nodes below [] pages here =
    let head = raised_levels-head (length below.nodes) f below pages in
    let sum = here.sum in
    let raised = raised-difference page (length below.nodes) f below pages in
    let left : level_uses page (nodes_left (nodes ∷ []) (raised_levels (length below.nodes) f below pages))
    ≡ level_uses page (take below.count (drop below.from nodes)) =
    ap (λ (new : List NewLevel). level_uses page (nodes_left (nodes ∷ []) new)) head.1
    ∙ ap (level_uses page) (append-nil (take below.count (drop below.from nodes))) in
    let one = levels_uses-cons page nodes [] in
    record { sum = omega (arith, sum, raised, left, one) }
from-difference page f nodes below (up ∷ old) pages here =
    let sum = here.sum in
    let levels = levels_uses-cons page nodes (up ∷ old) in
    let gone = take below.count (drop below.from nodes) in
    elim (cases_Bool (is_top below)) [
      | inl top ↦
          let step = new_levels_from-top f below up old pages top in
          let one = levels_uses-cons page below.nodes [] in
          let two = made-cons page below [] in
          let dropped = levels-left page (up ∷ old) in
          let three = level_uses-append page gone (nodes_left (up ∷ old) []) in
          subst (AllDiffer page (nodes ∷ up ∷ old)) (sym step) (record { sum = omega (arith, sum, levels, one, two, dropped, three) })
      | inr more ↦
          let left = drop (length below.made) pages in
          let next = level_after f up below.from below.count (map pair_of below.made) left in
          let new = new_levels_from f next old left in
          let step = new_levels_from-more f below up old pages more in
          let rest =
          (from-difference page f up next old left (differs page f up below.from below.count (map pair_of below.made) left)).sum in
          let one = levels_uses-cons page below.nodes (all_nodes new) in
          let two = made-cons page below new in
          let three = level_uses-append page gone (nodes_left (up ∷ old) new) in
          subst (AllDiffer page (nodes ∷ up ∷ old)) (sym step) (record { sum = omega (arith, sum, levels, rest, one, two, three) })
    ]

empty-uses : (page : ℕ) (nodes : List PageNode) → length nodes ≡ 0 → level_uses page nodes ≡ 0
empty-uses page [] none = refl
empty-uses page (node ∷ nodes) none = let some : suc (length nodes) ≡ 0 = none in absurd (omega (arith, some))

-- a level of no node has no page
unless-same : (page f : ℕ) (below : NewLevel) (old : List (List PageNode)) (pages : List ℕ) →
    levels_uses page (nodes_of_levels (new_levels_from f below old pages))
    ≡ levels_uses page (all_nodes (new_levels_from f below old pages))
unless-same page f below old pages =
    let head = new_levels_from-head f below old pages in
    elim (cases_Bool (nat_eq (length below.nodes) 0)) [
      | inl none ↦
          let nothing = eqb-true (length below.nodes) 0 none in
          let step = empty-alone f below old pages nothing in
          let gone : unless_empty (below ∷ []) ≡ [] = rw (none, unless_empty) in
          let one = levels_uses-cons page below.nodes [] in
          let two = empty-uses page below.nodes nothing in
          let left : levels_uses page (nodes_of_levels (new_levels_from f below old pages)) ≡ 0 =
          ap (λ (new : List NewLevel). levels_uses page (nodes_of_levels new)) step
          ∙ ap (λ (new : List NewLevel). levels_uses page (all_nodes new)) gone in
          let right : levels_uses page (all_nodes (new_levels_from f below old pages)) ≡ levels_uses page (below.nodes ∷ []) =
          ap (λ (new : List NewLevel). levels_uses page (all_nodes new)) step in
          omega (arith, left, right, one, two)
      | inr some ↦
          let kept : unless_empty (below ∷ head.0) ≡ below ∷ head.0 = rw (some, unless_empty) in
          ap (λ (new : List NewLevel). levels_uses page (nodes_of_levels new)) head.1
          ∙ (ap (λ (new : List NewLevel). levels_uses page (all_nodes new)) kept
          ∙ sym (ap (λ (new : List NewLevel). levels_uses page (all_nodes new)) head.1))
    ]

-- the new tree with what is left is the old tree with what is made
pub spliced-difference : (page f : ℕ) (levels : List (List PageNode)) (from count : ℕ) (fresh : List Pair) (pages : List ℕ) →
    level_uses page (nodes_left levels (spliced f levels from count fresh pages))
    + levels_uses page (nodes_of_levels (spliced f levels from count fresh pages))
    ≡ levels_uses page levels + level_uses page (nodes_made (spliced f levels from count fresh pages))
unfolding spliced
spliced-difference page f [] from count fresh pages =
    let first = level_after f [] 0 0 fresh pages in
    let raised = raised-difference page (length first.nodes) f first pages in
    let same = none-difference page (site_of f [] 0 0 fresh) first.made in
    let kept = unless-same page f first [] pages in
    omega (arith, raised, same, kept)
spliced-difference page f (nodes ∷ old) from count fresh pages =
    let first = level_after f nodes from count fresh pages in
    let all = (from-difference page f nodes first old pages (differs page f nodes from count fresh pages)).sum in
    let kept = unless-same page f first old pages in
    omega (arith, all, kept)

-- ---- the runs

-- Each new level's site is in the run, and a level in whose place none stands is all in its run.
abbrev AreInside : List Cut → List NewLevel → Type 0
AreInside [] new = Unit {0}
AreInside (cut ∷ above) [] = NothingBeside cut × AreInside above []
AreInside (cut ∷ above) (level ∷ new) = IsInRun cut (record { before = level.from; nodes = level.count }) × AreInside above new

-- so the nodes that are left are nodes of the runs
inside-left : (cuts : List Cut) (new : List NewLevel) → AreInside cuts new →
    nodes_left (map whole cuts) (widened_path cuts new) ≡ nodes_left (map cut_run cuts) new
inside-left [] new inside = refl
inside-left (cut ∷ above) [] inside =
    let more = inside-left above [] inside.1 in
    ap (λ (xs : List PageNode). xs ++ nodes_left (map whole above) []) (whole-run cut inside.0)
    ∙ ap (λ (xs : List PageNode). cut.run ++ xs) (front-none above more)
  where
    front-none : (cuts : List Cut) → nodes_left (map whole cuts) (widened_path cuts []) ≡ nodes_left (map cut_run cuts) [] →
        nodes_left (map whole cuts) [] ≡ nodes_left (map cut_run cuts) []
    front-none [] same = same
    front-none (cut ∷ above) same = same
inside-left (cut ∷ above) (level ∷ new) inside =
    let more = inside-left above new inside.1 in
    let here = nodes_at-run cut (record { before = level.from; nodes = level.count }) inside.0 in
    ap (λ (xs : List PageNode). xs ++ nodes_left (map whole above) (widened_path above new)) here
    ∙ ap (λ (xs : List PageNode). take level.count (drop level.from cut.run) ++ xs) more

-- where nothing stands beside a run, nothing does beside the one above
abbrev AreNarrow : List Cut → Type 0
AreNarrow [] = Unit {0}
AreNarrow (cut ∷ []) = Unit {0}
AreNarrow (cut ∷ up ∷ above) = (NothingBeside cut → NothingBeside up) × AreNarrow (up ∷ above)

-- a level that isn't any more is all in its run
dropped-inside : (cut : Cut) (above : List Cut) → NothingBeside cut → AreNarrow (cut ∷ above) → AreInside (cut ∷ above) []
dropped-inside cut [] all narrow = (all, tt)
dropped-inside cut (up ∷ above) all narrow = (all, dropped-inside up above (narrow.0 all) narrow.1)

top-beside : (cut : Cut) (top : Bool) → (top && (not (nat_lt 0 (length cut.front)) && not (nat_lt 0 (length cut.back)))) ≡ true →
    NothingBeside cut
top-beside cut top is =
    let both = and_parts top (not (nat_lt 0 (length cut.front)) && not (nat_lt 0 (length cut.back))) is in
    let sides = and_parts (not (nat_lt 0 (length cut.front))) (not (nat_lt 0 (length cut.back))) both.1 in
    (none-there (length cut.front) sides.0, none-there (length cut.back) sides.1)
  where
    none-there : (k : ℕ) → not (nat_lt 0 k) ≡ true → k ≡ 0
    none-there k off = elim (cases_Bool (nat_lt 0 k)) [
      | inl some ↦ let clash : false ≡ true = ap not (sym some) ∙ off in cc
      | inr none ↦ let few = ltb-false 0 k none in omega (arith, few)
    ]

-- the levels from a new one on
from-inside : (f : ℕ) (cut : Cut) (above : List Cut) (site : Site) (made : List PageNode) (pages : List ℕ) → 0 < f → IsNew cut site made →
    AreLeading (cut ∷ above) → AreNarrow (cut ∷ above) →
    AreInside (cut ∷ above) (new_path_from f (level_with cut.run site made)
    (shown_level cut above) (shown above) pages)
from-inside f cut [] site made pages some new leads narrow =
    let below = level_with cut.run site made in
    let head = raised_levels-head (length below.nodes) f below pages in
    subst (AreInside (cut ∷ [])) (sym head.1) (new.within, tt)
from-inside f cut (up ∷ above) site made pages some new leads narrow =
    let below = level_with cut.run site made in
    let level : PathLevel = shown_level cut (up ∷ above) in
    let up_level : PathLevel = shown_level up above in
    elim (cases_Bool (is_top_of_path level below)) [
      | inl highest ↦
          let step : new_path_from f below level (up_level ∷ shown above) pages ≡ below ∷ [] = rw (highest, new_path_from) in
          let all = top-beside cut (is_top below) highest in
          subst (AreInside (cut ∷ up ∷ above)) (sym step) (new.within, dropped-inside up above (narrow.0 all) narrow.1)
      | inr more ↦
          let left = drop (length made) pages in
          let names = map pair_of made in
          let at = length cut.front + site.before in
          let next = level_after f up.run (level.first + site.before) site.nodes names left in
          let step : new_path_from f below level (up_level ∷ shown above) pages ≡ below ∷ new_path_from f next up_level (shown above) left =
          rw (more, new_path_from) in
          let starts = leads.0.starts in
          let number : number_in_run up at ≡ level.first + site.before = omega (arith, starts) in
          let is_led = led cut up site leads.0 new.some new.within in
          let next_site = site_of f up.run (number_in_run up at) site.nodes names in
          let next_made = (level_after f up.run (number_in_run up at) site.nodes names left).made in
          let next_new = new-level f up at site.nodes names left some is_led.deciding (λ none. is_led.beside) in
          let rest = from-inside f up above next_site next_made left some next_new leads.1 narrow.1 in
          let moved =
          subst (λ (k : ℕ). AreInside (up ∷ above)
          (new_path_from f (level_after f up.run k site.nodes names left) up_level (shown above) left)) number rest in
          subst (AreInside (cut ∷ up ∷ above)) (sym step) (new.within, moved)
    ]

-- ---- the runs of a tree

-- nodes that have a pair each are no more than their pairs
some-pairs : (nodes : List PageNode) → AllByRecursion (λ (node : PageNode). 1 ≤ length node.pairs) nodes → length nodes ≤ pairs_in nodes
some-pairs [] all = let none : 0 ≤ 0 = omega arith in none
some-pairs (node ∷ nodes) all =
    let here = all.0 in
    let more = some-pairs nodes all.1 in
    let count = count-cons node nodes in
    let goal : suc (length nodes) ≤ pairs_in (node ∷ nodes) = omega (arith, here, more, count) in
    goal

filled-some : (f : ℕ) (nodes : List PageNode) → 2 ≤ f → AreFilled f 2 nodes →
    AllByRecursion (λ (node : PageNode). 1 ≤ length node.pairs) nodes
filled-some f nodes two filled =
    let least : 1 ≤ least_on f 2 nodes = at_least (nat_eq (length nodes) 1) in
    all-map (IsFilled f (least_on f 2 nodes)) (λ node. 1 ≤ length node.pairs)
    (λ node is. let low = is.low in omega (arith, low, least)) nodes filled
  where
    at_least : (b : Bool) → 1 ≤ cond b 2 (f / 2)
    at_least true = omega arith
    at_least false = let half : 1 ≤ f / 2 = omega (arith, two) in half

narrow-step : (f : ℕ) (cut up : Cut) → 2 ≤ f → Leads cut up → pairs_of_level (whole up) ≡ map pair_of (whole cut) →
    AreFilled f 2 (whole up) → NothingBeside cut → NothingBeside up
narrow-step f cut up two leads named filled all =
    let some = filled-some f (whole up) two filled in
    let front = some-pairs up.front (all-left (λ (node : PageNode). 1 ≤ length node.pairs) up.front (up.run ++ up.back) some) in
    let behind = all-right (λ (node : PageNode). 1 ≤ length node.pairs) up.front (up.run ++ up.back) some in
    let back = some-pairs up.back (all-right (λ (node : PageNode). 1 ≤ length node.pairs) up.run up.back behind) in
    let counted = pairs_in-append up.front (up.run ++ up.back) in
    let counted2 = pairs_in-append up.run up.back in
    let names : pairs_in (whole up) ≡ length (whole cut) = ap length named ∙ length-map (whole cut) pair_of in
    let long = whole-length cut in
    let starts = leads.starts in
    let ends = leads.ends in
    let no_front = all.0 in
    let no_back = all.1 in
    (omega (arith, front, starts, no_front), omega (arith, back, counted, counted2, names, long, starts, ends, no_front, no_back))

carries-narrow : (f : ℕ) (cut : Cut) (above : List Cut) → 2 ≤ f → Carries f (whole cut) (map whole above) → AreLeading (cut ∷ above) →
    AreNarrow (cut ∷ above)
carries-narrow f cut [] two carries leads = tt
carries-narrow f cut (up ∷ above) two carries leads =
    (narrow-step f cut up two leads.0 carries.1 carries.2, carries-narrow f up above two carries.3 leads.1)

-- the nodes that a tree doesn't have any more are nodes of the runs
pub left-local : (f : ℕ) (cut : Cut) (above : List Cut) (from count : ℕ) (fresh : List Pair) (pages : List ℕ) →
    2 ≤ f → AreLevels f (map whole (cut ∷ above)) → IsWay f cut above from count fresh →
    nodes_left (map whole (cut ∷ above)) (spliced f (map whole (cut ∷ above)) from count fresh pages)
    ≡ nodes_left (map cut_run (cut ∷ above)) (splice_path f (shown (cut ∷ above)) (number_in_run cut from) count fresh pages)
unfolding splice_path
left-local f cut above from count fresh pages two tree way =
    let some : 0 < f = omega (arith, two) in
    let has : HasDeciding cut from count = record { low = way.enough.starts; high = way.enough.ends } in
    let site = site_of f cut.run (number_in_run cut from) count fresh in
    let made = (level_after f cut.run (number_in_run cut from) count fresh pages).made in
    let new = new-level f cut from count fresh pages some has way.emptied in
    let narrow = carries-narrow f cut above two tree.1 way.leads in
    let inside = from-inside f cut above site made pages some new way.leads narrow in
    ap (nodes_left (map whole (cut ∷ above))) (path-local f cut above from count fresh pages some way)
    ∙ inside-left (cut ∷ above) (splice_path f (shown (cut ∷ above)) (number_in_run cut from) count fresh pages) inside

widened-nodes_made : (cuts : List Cut) (new : List NewLevel) → nodes_made (widened_path cuts new) ≡ nodes_made new
widened-nodes_made [] new = refl
widened-nodes_made (cut ∷ cuts) [] = refl
widened-nodes_made (cut ∷ cuts) (level ∷ new) = ap (λ (ms : List PageNode). level.made ++ ms) (widened-nodes_made cuts new)

-- the new tree with what is left of the runs is the old tree with what is made of them
pub runs-difference : (page f : ℕ) (cut : Cut) (above : List Cut) (from count : ℕ) (fresh : List Pair) (pages : List ℕ) →
    2 ≤ f → AreLevels f (map whole (cut ∷ above)) → IsWay f cut above from count fresh →
    level_uses page (nodes_left (map cut_run (cut ∷ above))
    (splice_path f (shown (cut ∷ above)) (number_in_run cut from) count fresh pages))
    + levels_uses page (nodes_of_levels (spliced f (map whole (cut ∷ above)) from count fresh pages))
    ≡ levels_uses page (map whole (cut ∷ above))
    + level_uses page (nodes_made (splice_path f (shown (cut ∷ above)) (number_in_run cut from) count fresh pages))
runs-difference page f cut above from count fresh pages two tree way =
    let whole_tree = spliced-difference page f (map whole (cut ∷ above)) from count fresh pages in
    let left = ap (level_uses page) (left-local f cut above from count fresh pages two tree way) in
    let new = splice_path f (shown (cut ∷ above)) (number_in_run cut from) count fresh pages in
    let made =
    ap (level_uses page) (ap nodes_made (path-local f cut above from count fresh pages (omega (arith, two)) way)
    ∙ widened-nodes_made (cut ∷ above) new) in
    omega (arith, whole_tree, left, made)
