-- The new levels of a tree are those of the runs on the way, with the nodes outside of the runs as they were.
use Rattle.std.proofs.Common.{◌≡◌, ℕ, suc, ◌+◌, ◌-◌, ◌/◌, ◌<◌, ◌≤◌, Bool, true, false, ◌&&◌, not, cond, List, []}
use Rattle.std.proofs.Common.{◌∷◌, ◌++◌, length, take, drop, map, refl, sym, ap, subst, arith, ◌∙◌, inl, inr}
use Rattle.std.proofs.Common.{length-append, length-take, length-drop, nat_eq, nat_le, nat_lt}
use Rattle.std.proofs.lemmas.Bool.{cases_Bool, cases_lt, ltb-true, ltb-false, lt-ltb, ne_eqb, and_parts}
use Rattle.std.proofs.lemmas.Bool.Decides.{nat_tests}
use Rattle.std.proofs.lemmas.List.{append-nil}
use Rattle.tree_model.specs.declared.entry.Pair.{Pair}
use Rattle.layout_model.specs.Levels.{PageNode, NewLevel, Site, pair_of, node_at, touched_site, exchanged, joins}
use Rattle.layout_model.specs.Levels.{joined, site_of, sizes_of, cut_into, on_pages, level_with, level_after}
use Rattle.layout_model.specs.Levels.{raised_levels, new_levels_from, spliced, is_top}
use Rattle.layout_laws.proofs.LevelLemmas.{Holds, more-pairs, touched_site-holds, joined-holds, raised_levels-head}
use Rattle.layout_laws.proofs.NamingLemmas.{site_of-within, new_levels_from-top, new_levels_from-more}
use Rattle.tree_model.proofs.PageCountLaws.{count-some}
use Rattle.change_laws.proofs.SizeLemmas.{made-length, sizes-length}
use Rattle.change_laws.proofs.SiteLemmas.{site_of-some, exchanged-length, node_at-rises}
use Rattle.local_laws.specs.Cut.{Cut, whole, widened, first_deciding, number_in_run, touched_in_run, pairs_left, HasNeighbour, IsEnough}
use Rattle.local_laws.specs.Path.{PathLevel, is_top_of_path, new_path_from, splice_path, shown_level, shown, Leads}
use Rattle.local_laws.specs.Path.{AreLeading, IsWay, widened_path}
use Rattle.local_laws.proofs.CutLemmas.{pairs_in, HasDeciding, IsInRun, deciding-some, level-local}

-- ---- a level of no node

-- what is left of a run where nothing stands in it any more: nothing stands before and behind it
abbrev pub NothingBeside : Cut → Type 0
NothingBeside cut = (length cut.front ≡ 0) × (length cut.back ≡ 0)

-- the site with the one that joins has no fewer pairs left
joined-more : (nodes : List PageNode) (site : Site) (from count : ℕ) (fresh : List Pair) → Holds nodes site from count →
    length (exchanged nodes site from count fresh) ≤ length (exchanged nodes (joined nodes site) from count fresh)
joined-more nodes site from count fresh holds =
    let own = exchanged-length nodes site from count fresh holds in
    let all = exchanged-length nodes (joined nodes site) from count fresh (joined-holds nodes site from count holds) in
    elim (cases_Bool (nat_lt 0 site.before)) [
      | inl some ↦
          let any = ltb-true 0 site.before some in
          let step : joined nodes site ≡ record { before = site.before - 1; nodes = site.nodes + 1 } = rw (some, joined) in
          let before : (joined nodes site).before ≡ site.before - 1 = ap (λ (s : Site). s.before) step in
          let count_is : (joined nodes site).nodes ≡ site.nodes + 1 = ap (λ (s : Site). s.nodes) step in
          let fewer = more-pairs (joined nodes site).before site.before nodes (omega (arith, before)) in
          let end : site.before + site.nodes ≤ (joined nodes site).before + (joined nodes site).nodes =
          omega (arith, before, count_is, any) in
          let more = more-pairs (site.before + site.nodes) ((joined nodes site).before + (joined nodes site).nodes) nodes end in
          omega (arith, own, all, fewer, more)
      | inr none ↦
          let nothing = ltb-false 0 site.before none in
          let step : joined nodes site ≡ record { before = 0; nodes = site.nodes + 1 } = rw (none, joined) in
          let before : (joined nodes site).before ≡ 0 = ap (λ (s : Site). s.before) step in
          let count_is : (joined nodes site).nodes ≡ site.nodes + 1 = ap (λ (s : Site). s.nodes) step in
          let fewer = more-pairs (joined nodes site).before site.before nodes (omega (arith, before)) in
          let end : site.before + site.nodes ≤ (joined nodes site).before + (joined nodes site).nodes =
          omega (arith, before, count_is, nothing) in
          let more = more-pairs (site.before + site.nodes) ((joined nodes site).before + (joined nodes site).nodes) nodes end in
          omega (arith, own, all, fewer, more)
    ]

-- where there is a pair a node is made
some-made : (f : ℕ) (pairs : List Pair) (pages : List ℕ) → 0 < f → 0 < length pairs →
    0 < length (on_pages pages (cut_into (sizes_of f (length pairs)) pairs))
some-made f pairs pages some any =
    let long = made-length pages (sizes_of f (length pairs)) pairs in
    let sizes = sizes-length f (length pairs) some in
    let one = count-some f (length pairs) some any in
    omega (arith, long, sizes, one)

-- the nodes of a level with a site exchanged, counted
with-length : (nodes : List PageNode) (site : Site) (made : List PageNode) → site.before + site.nodes ≤ length nodes →
    length (level_with nodes site made).nodes ≡ site.before + (length made + (length nodes - (site.before + site.nodes)))
with-length nodes site made within =
    let front = length-take site.before nodes in
    let back = length-drop (site.before + site.nodes) nodes in
    let one = length-append (take site.before nodes) (made ++ drop (site.before + site.nodes) nodes) in
    let two = length-append made (drop (site.before + site.nodes) nodes) in
    omega (arith, front, back, one, two, within)

-- a run in which no node is left has nothing before and behind it
run-emptied : (f : ℕ) (cut : Cut) (from count : ℕ) (fresh : List Pair) (pages : List ℕ) → 0 < f → HasDeciding cut from count →
    (pairs_left cut from count fresh ≡ 0 → HasNeighbour cut (touched_in_run cut from count)) →
    length (level_after f cut.run (number_in_run cut from) count fresh pages).nodes ≡ 0 → NothingBeside cut
run-emptied f cut from count fresh pages some has emptied none =
    let at = number_in_run cut from in
    let t = touched_in_run cut from count in
    let J = exchanged cut.run t at count fresh in
    let parts = deciding-some cut from count has in
    let site = site_of f cut.run at count fresh in
    let all = exchanged cut.run site at count fresh in
    let made = on_pages pages (cut_into (sizes_of f (length all)) all) in
    let within = site_of-within f cut.run at count fresh parts.0 parts.1 in
    let counted = with-length cut.run site made within in
    let no_made : length made ≡ 0 = omega (arith, counted, none) in
    let no_pair : length all ≡ 0 = elim (cases_lt 0 (length all)) [
      | inl any ↦ let one = some-made f all pages some any in absurd (omega (arith, one, no_made))
      | inr few ↦ omega (arith, few)
    ] in
    elim (cases_Bool (joins f cut.run t (length J))) [
      | inl join ↦
          let step : site ≡ joined cut.run t = rw (join, site_of) in
          let more = joined-more cut.run t at count fresh (touched_site-holds cut.run at count parts.1) in
          let same : length (exchanged cut.run (joined cut.run t) at count fresh) ≡ 0 =
          subst (λ (s : Site). length (exchanged cut.run s at count fresh) ≡ 0) step no_pair in
          let both = and_parts (nat_lt 0 (length J)) (nat_lt (length J) (f / 2) && nat_lt t.nodes (length cut.run)) join in
          let any = ltb-true 0 (length J) both.0 in
          absurd (omega (arith, more, same, any))
      | inr alone ↦
          let step : site ≡ t = rw (alone, site_of) in
          let before : site.before ≡ t.before = ap (λ (s : Site). s.before) step in
          let count_is : site.nodes ≡ t.nodes = ap (λ (s : Site). s.nodes) step in
          let nothing : length J ≡ 0 = subst (λ (s : Site). length (exchanged cut.run s at count fresh) ≡ 0) step no_pair in
          elim (emptied nothing) [
            | inl any ↦ absurd (omega (arith, any, before, counted, none))
            | inr first ↦ elim first.1 [
              | inl last ↦ (first.0, last)
              | inr less ↦ absurd (omega (arith, less, count_is, before, counted, none, within))
            ]
          ]
    ]

-- ---- the level above

deciding-from : (from count : ℕ) → 1 ≤ count → first_deciding from count ≡ from
deciding-from from count some =
    let other : nat_eq count 0 ≡ false = ne_eqb count 0 (λ none. omega (arith, none, some)) in
    ap (λ (b : Bool). cond b (from - 1) from) other

-- fewer pairs touch fewer nodes, further behind
touched-fewer : (nodes : List PageNode) (from count from2 count2 : ℕ) → 1 ≤ count2 → from ≤ from2 → from2 + count2 ≤ from + count →
    ((touched_site nodes from count).before ≤ (touched_site nodes from2 count2).before)
    × ((touched_site nodes from2 count2).nodes ≤ (touched_site nodes from count).nodes)
touched-fewer nodes from count from2 count2 some later fewer =
    let first = ap (node_at nodes) (deciding-from from count (omega (arith, some, later, fewer))) in
    let first2 = ap (node_at nodes) (deciding-from from2 count2 some) in
    let low = node_at-rises nodes from from2 later in
    let high = node_at-rises nodes (from2 + count2 - 1) (from + count - 1) (omega (arith, fewer)) in
    let before : node_at nodes (first_deciding from count) ≤ node_at nodes (first_deciding from2 count2) =
    omega (arith, first, first2, low) in
    let left : suc (node_at nodes (from2 + count2 - 1)) - node_at nodes (first_deciding from2 count2)
    ≤ suc (node_at nodes (from + count - 1)) - node_at nodes (first_deciding from count) = omega (arith, before, high) in
    (before, left)

-- the replaced names of a level are among those of its run
pub record IsLed (cut up : Cut) (site : Site) : Type 0 where
  pub deciding : HasDeciding up (length cut.front + site.before) site.nodes
  pub beside : HasNeighbour up (touched_in_run up (length cut.front + site.before) site.nodes)

pub led : (cut up : Cut) (site : Site) → Leads cut up → 1 ≤ site.nodes → IsInRun cut site → IsLed cut up site
led cut up site leads some within =
    let starts = leads.starts in
    let ends = leads.ends in
    let passed = pairs_in up.front in
    let first = deciding-from (length cut.front + site.before) site.nodes some in
    let fewer = touched-fewer up.run (length cut.front - passed) (length cut.run) (length cut.front + site.before - passed) site.nodes some
    (omega arith) (omega (arith, starts, within)) in
    record {
      deciding = record { low = omega (arith, first, starts); high = omega (arith, ends, within, some) };
      beside = elim leads.beside [
        | inl any ↦ let before = fewer.0 in inl (omega (arith, any, before))
        | inr alone ↦ inr (
          alone.0,
          elim alone.1 [
            | inl last ↦ inl last
            | inr less ↦ let nodes = fewer.1 in inr (omega (arith, less, nodes))
          ],
        )
      ];
    }

-- ---- which level is the highest

is_top-sum : (a r b : ℕ) → (r ≡ 0 → (a ≡ 0) × (b ≡ 0)) → nat_le (a + (r + b)) 1 ≡ (nat_le r 1 && (not (nat_lt 0 a) && not (nat_lt 0 b)))
is_top-sum a r b nothing =
    elim (cases_lt 0 (a + b)) [
      | inr none ↦
          let same : a + (r + b) ≡ r = omega (arith, none) in
          let no_front : nat_lt 0 a ≡ false = at_most a (omega (arith, none)) in
          let no_back : nat_lt 0 b ≡ false = at_most b (omega (arith, none)) in
          ap (λ (k : ℕ). nat_le k 1) same
          ∙ (alone (nat_le r 1) ∙ ap (λ (y : Bool). nat_le r 1 && (y && true)) (sym (ap not no_front))
          ∙ ap (λ (y : Bool). nat_le r 1 && (not (nat_lt 0 a) && y)) (sym (ap not no_back)))
      | inl any ↦
          let some : 1 < a + (r + b) = elim (cases_lt 0 r) [
            | inl more ↦ omega (arith, any, more)
            | inr none ↦
                let both = nothing (omega (arith, none)) in
                let first = both.0 in
                let last = both.1 in
                absurd (omega (arith, first, last, any))
          ] in
          many (a + (r + b)) some ∙ sym (beside (nat_le r 1) any)
    ]
  where
    many : (k : ℕ) → 1 < k → nat_le k 1 ≡ false
    many k more = grind (arith, nat_tests)

    at_most : (k : ℕ) → k ≤ 0 → nat_lt 0 k ≡ false
    at_most k none = grind (arith, nat_tests)

    alone : (x : Bool) → x ≡ (x && (true && true))
    alone true = refl
    alone false = refl

    both_false : (x y z : Bool) → y ≡ false → (x && (y && z)) ≡ false
    both_false true y z off = ap (λ (v : Bool). v && z) off
    both_false false y z off = refl

    last_false : (x y z : Bool) → z ≡ false → (x && (y && z)) ≡ false
    last_false true true z off = off
    last_false true false z off = refl
    last_false false y z off = refl

    beside : (x : Bool) → 0 < a + b → (x && (not (nat_lt 0 a) && not (nat_lt 0 b))) ≡ false
    beside x any = elim (cases_lt 0 a) [
      | inl more ↦ both_false x (not (nat_lt 0 a)) (not (nat_lt 0 b)) (ap not (lt-ltb 0 a more))
      | inr none ↦ last_false x (not (nat_lt 0 a)) (not (nat_lt 0 b)) (ap not (lt-ltb 0 b (omega (arith, none, any))))
    ]

-- the highest level is known by the run
top-local : (cut : Cut) (above : List Cut) (new : NewLevel) → (length new.nodes ≡ 0 → NothingBeside cut) →
    is_top (widened cut new) ≡ (is_top new && (not (nat_lt 0 (length cut.front)) && not (nat_lt 0 (length cut.back))))
top-local cut above new nothing =
    let long = length-append cut.front (new.nodes ++ cut.back) ∙ ap (λ (k : ℕ). length cut.front + k) (length-append new.nodes cut.back) in
    ap (λ (k : ℕ). nat_le k 1) long ∙ is_top-sum (length cut.front) (length new.nodes) (length cut.back) nothing

empty-list : {X : Type 0} (xs : List X) → length xs ≡ 0 → xs ≡ []
empty-list [] none = refl
empty-list (x ∷ xs) none = let some : suc (length xs) ≡ 0 = none in absurd (omega (arith, some))

-- a run that is all of its level
pub whole-run : (cut : Cut) → NothingBeside cut → whole cut ≡ cut.run
whole-run cut all =
    ap (λ (xs : List PageNode). xs ++ (cut.run ++ cut.back)) (empty-list cut.front all.0)
    ∙ (ap (λ (xs : List PageNode). cut.run ++ xs) (empty-list cut.back all.1) ∙ append-nil cut.run)

pub widened-all : (cut : Cut) (new : NewLevel) → NothingBeside cut → widened cut new ≡ new
widened-all cut new all =
    let front = empty-list cut.front all.0 in
    let back = empty-list cut.back all.1 in
    ap (λ (xs : List PageNode). widened (record { front = xs; run = cut.run; back = cut.back }) new) front
    ∙ (ap (λ (xs : List PageNode). widened (record { front = []; run = cut.run; back = xs }) new) back
    ∙ (ap (λ (xs : List PageNode). with xs (0 + new.from)) (append-nil new.nodes)
    ∙ ap (with new.nodes) (let same : 0 + new.from ≡ new.from = omega arith in same)))
  where
    with : List PageNode → ℕ → NewLevel
    with nodes from = record { nodes = nodes; from = from; count = new.count; made = new.made }

-- ---- the levels

-- what is known of a new level of the run: a site of the run was exchanged, and where no node is left there none
-- stands beside it
pub record IsNew (cut : Cut) (site : Site) (made : List PageNode) : Type 0 where
  pub some : 1 ≤ site.nodes
  pub within : IsInRun cut site
  pub emptied : length (level_with cut.run site made).nodes ≡ 0 → NothingBeside cut

pub new-level : (f : ℕ) (cut : Cut) (from count : ℕ) (fresh : List Pair) (pages : List ℕ) → 0 < f → HasDeciding cut from count →
    (pairs_left cut from count fresh ≡ 0 → HasNeighbour cut (touched_in_run cut from count)) →
    IsNew cut (site_of f cut.run (number_in_run cut from) count fresh)
    (level_after f cut.run (number_in_run cut from) count fresh pages).made
new-level f cut from count fresh pages some has emptied =
    let parts = deciding-some cut from count has in
    record {
      some = site_of-some f cut.run (number_in_run cut from) count fresh;
      within = site_of-within f cut.run (number_in_run cut from) count fresh parts.0 parts.1;
      emptied = run-emptied f cut from count fresh pages some has emptied;
    }

-- the levels from a new one on
from-local : (f : ℕ) (cut : Cut) (above : List Cut) (site : Site) (made : List PageNode) (pages : List ℕ) → 0 < f → IsNew cut site made →
    AreLeading (cut ∷ above) →
    new_levels_from f (widened cut (level_with cut.run site made)) (map whole above) pages
    ≡ widened_path (cut ∷ above) (new_path_from f (level_with cut.run site made)
    (shown_level cut above) (shown above) pages)
from-local f cut [] site made pages some new leads =
    let below = level_with cut.run site made in
    let same = widened-all cut below leads in
    let head = raised_levels-head (length below.nodes) f below pages in
    ap (λ (level : NewLevel). raised_levels (length level.nodes) f level pages) same
    ∙ (head.1 ∙ (ap (λ (level : NewLevel). level ∷ head.0) (sym same) ∙ sym (ap (widened_path (cut ∷ [])) head.1)))
from-local f cut (up ∷ above) site made pages some new leads =
    let below = level_with cut.run site made in
    let level : PathLevel = shown_level cut (up ∷ above) in
    let up_level : PathLevel = shown_level up above in
    let top : is_top (widened cut below) ≡ is_top_of_path level below = top-local cut (up ∷ above) below new.emptied in
    elim (cases_Bool (is_top_of_path level below)) [
      | inl highest ↦
          let step = new_levels_from-top f (widened cut below) (whole up) (map whole above) pages (top ∙ highest) in
          let step2 : new_path_from f below level (up_level ∷ shown above) pages ≡ below ∷ [] = rw (highest, new_path_from) in
          step ∙ sym (ap (widened_path (cut ∷ up ∷ above)) step2)
      | inr more ↦
          let left = drop (length made) pages in
          let names = map pair_of made in
          let at = length cut.front + site.before in
          let step = new_levels_from-more f (widened cut below) (whole up) (map whole above) pages (top ∙ more) in
          let next = level_after f up.run (level.first + site.before) site.nodes names left in
          let step2 : new_path_from f below level (up_level ∷ shown above) pages
          ≡ below ∷ new_path_from f next up_level (shown above) left = rw (more, new_path_from) in
          let starts = leads.0.starts in
          let number : number_in_run up at ≡ level.first + site.before = omega (arith, starts) in
          let is_led = led cut up site leads.0 new.some new.within in
          let enough : IsEnough f up at site.nodes names =
          record { starts = is_led.deciding.low; ends = is_led.deciding.high; beside = λ any few. is_led.beside } in
          let local = level-local f up at site.nodes names left enough in
          let next_site = site_of f up.run (number_in_run up at) site.nodes names in
          let next_made = (level_after f up.run (number_in_run up at) site.nodes names left).made in
          let next_new = new-level f up at site.nodes names left some is_led.deciding (λ none. is_led.beside) in
          let rest = from-local f up above next_site next_made left some next_new leads.1 in
          let moved = ap (λ (k : ℕ). new_path_from f (level_after f up.run k site.nodes names left) up_level (shown above) left) number in
          step
          ∙ (ap (λ (l : NewLevel). widened cut below ∷ new_levels_from f l (map whole above) left) local
          ∙ (ap (λ (ls : List NewLevel). widened cut below ∷ ls) (rest ∙ ap (widened_path (up ∷ above)) moved)
          ∙ sym (ap (widened_path (cut ∷ up ∷ above)) step2)))
    ]

-- the new levels are those of the runs, with the nodes outside of them as they were
pub path-local : (f : ℕ) (cut : Cut) (above : List Cut) (from count : ℕ) (fresh : List Pair) (pages : List ℕ) → 0 < f →
    IsWay f cut above from count fresh →
    spliced f (map whole (cut ∷ above)) from count fresh pages
    ≡ widened_path (cut ∷ above) (splice_path f (shown (cut ∷ above)) (number_in_run cut from) count fresh pages)
unfolding spliced splice_path
path-local f cut above from count fresh pages some way =
    let has : HasDeciding cut from count = record { low = way.enough.starts; high = way.enough.ends } in
    let local = level-local f cut from count fresh pages way.enough in
    let site = site_of f cut.run (number_in_run cut from) count fresh in
    let made = (level_after f cut.run (number_in_run cut from) count fresh pages).made in
    let new = new-level f cut from count fresh pages some has way.emptied in
    ap (λ (l : NewLevel). new_levels_from f l (map whole above) pages) local ∙ from-local f cut above site made pages some new way.leads

-- nodes outside of the runs aren't made
widened-made : (cuts : List Cut) (new : List NewLevel) →
    map (λ (level : NewLevel). level.made) (widened_path cuts new) ≡ map (λ (level : NewLevel). level.made) new
widened-made [] new = refl
widened-made (cut ∷ cuts) [] = refl
widened-made (cut ∷ cuts) (level ∷ new) = ap (λ (ms : List (List PageNode)). level.made ∷ ms) (widened-made cuts new)

pub path-made : (f : ℕ) (cut : Cut) (above : List Cut) (from count : ℕ) (fresh : List Pair) (pages : List ℕ) → 0 < f →
    IsWay f cut above from count fresh →
    map (λ (level : NewLevel). level.made) (spliced f (map whole (cut ∷ above)) from count fresh pages)
    ≡ map (λ (level : NewLevel). level.made) (splice_path f (shown (cut ∷ above)) (number_in_run cut from) count fresh pages)
path-made f cut above from count fresh pages some way =
    ap (λ (new : List NewLevel). map (λ (level : NewLevel). level.made) new) (path-local f cut above from count fresh pages some way)
    ∙ widened-made (cut ∷ above) (splice_path f (shown (cut ∷ above)) (number_in_run cut from) count fresh pages)
