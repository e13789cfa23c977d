-- What the new levels of a way are to those of the tree that it shows.
use Rattle.std.proofs.Common.{◌≡◌, ℕ, suc, ◌+◌, ◌<◌, ◌≤◌, Bool, true, false, ◌&&◌, not, List, [], ◌∷◌, ◌++◌, length, map}
use Rattle.std.proofs.Common.{drop, refl, sym, ap, subst, arith, ◌∙◌, inl, inr, nat_eq, nat_lt}
use Rattle.std.proofs.lemmas.Bool.{and_parts, cases_Bool, cases_lt, eqb-true, eqb-false, false≢true, lt-ltb, ne_eqb}
use Rattle.std.proofs.lemmas.List.{length-append, length-map}
use Rattle.change_laws.proofs.NodeCountLemmas.{made-cons}
use Rattle.change_laws.proofs.NodeCountLemmas.{Alike, after-alike, raised_levels-alike, top-alike}
use Rattle.layout_laws.proofs.LevelLemmas.{raised_levels-head}
use Rattle.layout_model.specs.Levels.{PageNode, NewLevel, count_made, is_top, level_after, pair_of, raised_levels}
use Rattle.layout_model.specs.Levels.{spliced}
use Rattle.local_laws.specs.Cut.{Cut, whole, number_in_run, widened}
use Rattle.local_laws.specs.Left.{cut_run, nodes_left}
use Rattle.local_laws.specs.Path.{AreLeading, PathLevel, is_top_of_path, new_path_from, shown, shown_level, splice_path}
use Rattle.local_laws.specs.Path.{widened_path}
use Rattle.local_laws.proofs.CutLemmas.{HasDeciding}
use Rattle.local_laws.proofs.LeftLemmas.{left-local}
use Rattle.local_laws.proofs.PathLemmas.{NothingBeside, new-level, path-local, widened-all}
use Rattle.moment_model.specs.Version.{AreLevels}
use Rattle.tree_model.specs.declared.entry.Pair.{Pair}
use Rattle.tree_model.specs.Tree.{Pages}
use Rattle.tree_pages.specs.Stored.{root_page, top_page}
use Rattle.tree_splice.specs.Down.{AreEnough, ShowsWay, place_in}
use Rattle.tree_splice.specs.Remade.{remade}
use Rattle.tree_splice.specs.Way.{MadeStand, levels_of, top_of}
use Rattle.tree_splice.proofs.StoredLemmas.{AreEnds, AreRebuilt, has_none, path-rebuilt}
use Rattle.tree_splice.proofs.UpLemmas.{path-more, path-top, path-head}
use Rattle.tree_splice.proofs.WholeLemmas.{whole-path}

-- ---- how many nodes are made doesn't depend on the pages

from-alike : (f : ℕ) (a b : NewLevel) (level : PathLevel) (above : List PathLevel) (pages pages2 : List ℕ) → Alike a b →
    count_made (new_path_from f a level above pages) ≡ count_made (new_path_from f b level above pages2)
from-alike f a b level [] pages pages2 alike =
    ap (λ (k : ℕ). count_made (raised_levels k f a pages)) alike.size ∙ raised_levels-alike (length b.nodes) f a b pages pages2 alike
from-alike f a b level (up ∷ above) pages pages2 alike =
    let made = alike.new in
    let tops : is_top_of_path level b ≡ is_top_of_path level a =
    ap (λ (t : Bool). t && (not level.before && not level.behind)) (sym (top-alike a b alike)) in
    elim (cases_Bool (is_top_of_path level a)) [
      | inl top ↦
          let x = made-cons a [] in
          let y = made-cons b [] in
          ap count_made (path-top f a level up above pages top)
          ∙ (omega (arith, x, y, made) ∙ sym (ap count_made (path-top f b level up above pages2 (tops ∙ top))))
      | inr more ↦
          let left = drop (length a.made) pages in
          let left2 = drop (length b.made) pages2 in
          let next = level_after f up.nodes (level.first + a.from) a.count (map pair_of a.made) left in
          let next2 = level_after f up.nodes (level.first + b.from) b.count (map pair_of b.made) left2 in
          let names : length (map pair_of a.made) ≡ length (map pair_of b.made) = length-map a.made pair_of
          ∙ (made ∙ sym (length-map b.made pair_of)) in
          let same : Alike next (level_after f up.nodes (level.first + a.from) a.count (map pair_of b.made) left2) =
          after-alike f up.nodes (level.first + a.from) a.count (map pair_of a.made) (map pair_of b.made) left left2 names in
          let P : ℕ → ℕ → Type 0 = λ i j. Alike next (level_after f up.nodes (level.first + i) j (map pair_of b.made) left2) in
          let nexts : Alike next next2 = subst (λ (j : ℕ). P b.from j) alike.many (subst (λ (i : ℕ). P i a.count) alike.start same) in
          let inner = from-alike f next next2 up above left left2 nexts in
          let x = made-cons a (new_path_from f next up above left) in
          let y = made-cons b (new_path_from f next2 up above left2) in
          ap count_made (path-more f a level up above pages more)
          ∙ (omega (arith, x, y, made, inner) ∙ sym (ap count_made (path-more f b level up above pages2 (tops ∙ more))))
    ]

pub path-alike : (f : ℕ) (path : List PathLevel) (from count : ℕ) (fresh : List Pair) (pages pages2 : List ℕ) →
    count_made (splice_path f path from count fresh pages) ≡ count_made (splice_path f path from count fresh pages2)
unfolding splice_path
path-alike f [] from count fresh pages pages2 =
    let a = level_after f [] 0 0 fresh pages in
    let b = level_after f [] 0 0 fresh pages2 in
    let alike = after-alike f [] 0 0 fresh fresh pages pages2 refl in
    ap (λ (k : ℕ). count_made (raised_levels k f a pages)) alike.size ∙ raised_levels-alike (length b.nodes) f a b pages pages2 alike
path-alike f (level ∷ above) from count fresh pages pages2 =
    from-alike f (level_after f level.nodes from count fresh pages) (level_after f level.nodes from count fresh pages2) level above pages
    pages2 (after-alike f level.nodes from count fresh fresh pages pages2 refl)

-- ---- the nodes besides the runs stay

pub shows-widened : (f : ℕ) (cuts : List Cut) (from count : ℕ) (fresh : List Pair) (pages : List ℕ) → 0 < f →
    AreEnough f cuts from count fresh →
    spliced f (map whole cuts) from count fresh pages
    ≡ widened_path cuts (splice_path f (shown cuts) (place_in cuts from) count fresh pages)
shows-widened f [] from count fresh pages some enough = sym (whole-path f [] from count fresh pages)
shows-widened f (cut ∷ above) from count fresh pages some way = path-local f cut above from count fresh pages some way

pub widened-count : (cuts : List Cut) (new : List NewLevel) → count_made (widened_path cuts new) ≡ count_made new
widened-count [] new = refl
widened-count (cut ∷ cuts) [] = refl
widened-count (cut ∷ cuts) (level ∷ new) =
    let one = made-cons (widened cut level) (widened_path cuts new) in
    let two = made-cons level new in
    let more = widened-count cuts new in
    omega (arith, one, two, more)

pub widened-long : (cuts : List Cut) (new : List NewLevel) → length (widened_path cuts new) ≡ length new
widened-long [] new = refl
widened-long (cut ∷ cuts) [] = refl
widened-long (cut ∷ cuts) (level ∷ new) = ap suc (widened-long cuts new)

pub widened-stand : (at : Pages) (k : ℕ) (cuts : List Cut) (new : List NewLevel) → MadeStand at k (map remade new) →
    MadeStand at k (map remade (widened_path cuts new))
widened-stand at k [] new stand = stand
widened-stand at k (cut ∷ cuts) [] stand = tt
widened-stand at k (cut ∷ cuts) (level ∷ new) stand = (stand.0, widened-stand at (suc k) cuts new stand.1)

pub shown-runs : (cuts : List Cut) → levels_of (shown cuts) ≡ map cut_run cuts
shown-runs [] = refl
shown-runs (cut ∷ cuts) = ap (λ (ls : List (List PageNode)). cut.run ∷ ls) (shown-runs cuts)

-- the nodes that are left are nodes of the runs
pub shows-left : (f : ℕ) (cuts : List Cut) (from count : ℕ) (fresh : List Pair) (pages : List ℕ) → 2 ≤ f → AreLevels f (map whole cuts) →
    AreEnough f cuts from count fresh →
    nodes_left (map whole cuts) (spliced f (map whole cuts) from count fresh pages)
    ≡ nodes_left (levels_of (shown cuts)) (splice_path f (shown cuts) (place_in cuts from) count fresh pages)
shows-left f [] from count fresh pages two shape enough = refl
shows-left f (cut ∷ above) from count fresh pages two shape way =
    let new = splice_path f (shown (cut ∷ above)) (number_in_run cut from) count fresh pages in
    left-local f cut above from count fresh pages two shape way
    ∙ ap (λ (ls : List (List PageNode)). nodes_left ls new) (sym (shown-runs (cut ∷ above)))

-- ---- the highest level

-- the highest new level is all of its run, and nothing stands beside it
abbrev pub AreTopped : List Cut → List NewLevel → Type 0
AreTopped [] new = Unit {0}
AreTopped (cut ∷ above) [] = Unit {0}
AreTopped (cut ∷ above) (level ∷ new) = (length new ≡ 0 → NothingBeside cut) × AreTopped above new

-- a level that is the highest has nothing beside its run
top-beside : (cut : Cut) (above : List Cut) (below : NewLevel) → is_top_of_path (shown_level cut above) below ≡ true → NothingBeside cut
top-beside cut above below top =
    let parts = and_parts (is_top below) (not (nat_lt 0 (length cut.front)) && not (nat_lt 0 (length cut.back))) top in
    let both = and_parts (not (nat_lt 0 (length cut.front))) (not (nat_lt 0 (length cut.back))) parts.1 in
    (none (length cut.front) both.0, none (length cut.back) both.1)
  where
    none : (k : ℕ) → not (nat_lt 0 k) ≡ true → k ≡ 0
    none k is = elim (cases_lt 0 k) [
      | inl some ↦ let less = lt-ltb 0 k some in let no = ap not (sym less) ∙ is in absurd (false≢true no)
      | inr few ↦ omega (arith, few)
    ]

from-topped : (f : ℕ) (below : NewLevel) (cut : Cut) (above : List Cut) (pages : List ℕ) → AreLeading (cut ∷ above) →
    AreTopped (cut ∷ above) (new_path_from f below (shown_level cut above) (shown above) pages)
from-topped f below cut [] pages leads =
    let head = raised_levels-head (length below.nodes) f below pages in
    subst (AreTopped (cut ∷ [])) (sym head.1) (λ none. leads, tt)
from-topped f below cut (up ∷ above) pages leads =
    let level = shown_level cut (up ∷ above) in
    let up_level = shown_level up above in
    elim (cases_Bool (is_top_of_path level below)) [
      | inl top ↦
          subst (AreTopped (cut ∷ up ∷ above)) (sym (path-top f below level up_level (shown above) pages top))
          (λ none. top-beside cut (up ∷ above) below top, tt)
      | inr more ↦
          let left = drop (length below.made) pages in
          let next = level_after f up.run (level.first + below.from) below.count (map pair_of below.made) left in
          let head = path-head f next up_level (shown above) left in
          let long = ap length head.1 in
          subst (AreTopped (cut ∷ up ∷ above)) (sym (path-more f below level up_level (shown above) pages more))
          (λ none. absurd (omega (arith, long, none)), from-topped f next up above left leads.1)
    ]

-- so the first page at the top is the tree's
tops : (cuts : List Cut) (new : List NewLevel) → AreRebuilt (map cut_run cuts) new → AreTopped cuts new →
    top_of (shown cuts) (map remade new) ≡ root_page (map (λ (level : NewLevel). level.nodes) (widened_path cuts new))
tops [] [] are topped = refl
tops [] (level ∷ []) are topped = ap (λ (l : NewLevel). top_page l.nodes) (sym are.0)
tops [] (level ∷ next ∷ new) are topped = tops [] (next ∷ new) are.1 tt
tops (cut ∷ above) [] are topped = refl
tops (cut ∷ above) (level ∷ []) are topped =
    ap (λ (l : NewLevel). top_page l.nodes) (sym are.0)
    ∙ (ap (λ (l : NewLevel). top_page l.nodes) (sym (widened-all cut level (topped.0 refl))) ∙ alone above)
  where
    alone : (cs : List Cut) → top_page (widened cut level).nodes
        ≡ root_page (map (λ (l : NewLevel). l.nodes) (widened_path (cut ∷ cs) (level ∷ [])))
    alone [] = refl
    alone (c ∷ cs) = refl
tops (cut ∷ []) (level ∷ next ∷ new) are topped = tops [] (next ∷ new) are.1 tt
tops (cut ∷ up ∷ above) (level ∷ next ∷ new) are topped = tops (up ∷ above) (next ∷ new) are.1 topped.1

-- the lowest level has a node where its run has one
none-same : (cuts : List Cut) (new : List NewLevel) → ((cut : Cut) (above : List Cut) (level : NewLevel) (rest : List NewLevel) →
    cuts ≡ cut ∷ above → new ≡ level ∷ rest → length level.nodes ≡ 0 → NothingBeside cut) → has_none new ≡ has_none (widened_path cuts new)
none-same [] new emptied = refl
none-same (cut ∷ above) [] emptied = refl
none-same (cut ∷ above) (level ∷ new) emptied = elim (cases_Bool (nat_eq (length level.nodes) 0)) [
  | inl none ↦
      let no_node = eqb-true (length level.nodes) 0 none in
      let same = widened-all cut level (emptied cut above level new refl refl no_node) in
      ap (λ (l : NewLevel). nat_eq (length l.nodes) 0) (sym same)
  | inr some ↦
      let any = eqb-false (length level.nodes) 0 some in
      let long = length-append cut.front (level.nodes ++ cut.back) in
      let long2 = length-append level.nodes cut.back in
      let many : nat_eq (length (cut.front ++ (level.nodes ++ cut.back))) 0 ≡ false =
      ne_eqb (length (cut.front ++ (level.nodes ++ cut.back))) 0 (λ none. any (omega (arith, long, long2, none))) in
      some ∙ sym many
]

splice-head : (f : ℕ) (level : PathLevel) (above : List PathLevel) (from count : ℕ) (fresh : List Pair) (pages : List ℕ) →
    (rest : List NewLevel)
    × (splice_path f (level ∷ above) from count fresh pages ≡ level_after f level.nodes from count fresh pages ∷ rest)
unfolding splice_path
splice-head f level above from count fresh pages = path-head f (level_after f level.nodes from count fresh pages) level above pages

splice-topped : (f : ℕ) (cut : Cut) (above : List Cut) (from count : ℕ) (fresh : List Pair) (pages : List ℕ) → AreLeading (cut ∷ above) →
    AreTopped (cut ∷ above) (splice_path f (shown (cut ∷ above)) from count fresh pages)
unfolding splice_path
splice-topped f cut above from count fresh pages leads =
    from-topped f (level_after f cut.run from count fresh pages) cut above pages leads

-- The ends of the new levels of a way are those of the tree's.
pub shows-ends : (f : ℕ) (cuts : List Cut) (from count : ℕ) (fresh : List Pair) (pages : List ℕ) → 0 < f →
    AreEnough f cuts from count fresh →
    AreEnds (shown cuts) (splice_path f (shown cuts) (place_in cuts from) count fresh pages)
    (widened_path cuts (splice_path f (shown cuts) (place_in cuts from) count fresh pages))
shows-ends f [] from count fresh pages some enough =
    let new = splice_path f [] from count fresh pages in
    record {
      long = refl;
      top = tops [] new (path-rebuilt f [] from count fresh pages) tt;
      none = refl;
    }
shows-ends f (cut ∷ above) from count fresh pages some way =
    let cuts = cut ∷ above in
    let at = number_in_run cut from in
    let new = splice_path f (shown cuts) at count fresh pages in
    let has : HasDeciding cut from count = record { low = way.enough.starts; high = way.enough.ends } in
    let first = new-level f cut from count fresh pages some has way.emptied in
    let head = splice-head f (shown_level cut above) (shown above) at count fresh pages in
    record {
      long = widened-long cuts new;
      top = tops cuts new (subst (λ (ls : List (List PageNode)). AreRebuilt ls new) (shown-runs cuts)
          (path-rebuilt f (shown cuts) at count fresh pages)) (splice-topped f cut above at count fresh pages way.leads);
      none = none-same cuts new (λ c cs level rest same is none.
          let one : length (level_after f cut.run at count fresh pages).nodes ≡ length level.nodes =
          ap (λ (ls : List NewLevel). length (first_nodes ls)) (sym head.1 ∙ is) in
          subst NothingBeside (ap (first_cut cut) same) (first.emptied (omega (arith, one, none))));
    }
  where
    first_nodes : List NewLevel → List PageNode
    first_nodes [] = []
    first_nodes (l ∷ ls) = l.nodes

    first_cut : Cut → List Cut → Cut
    first_cut other [] = other
    first_cut other (c ∷ cs) = c

-- ---- the way that was found

-- What a way that shows the levels of a tree says of the exchange.
pub record IsShown (f : ℕ) (levels : List (List PageNode)) (from count : ℕ) (fresh : List Pair) (path : List PathLevel)
    (place many : ℕ) (pages : List ℕ) : Type 0 where
  pub cuts : List Cut
  pub after : spliced f levels from count fresh pages ≡ widened_path cuts (splice_path f path place many fresh pages)
  pub left : AreLevels f levels → nodes_left levels (spliced f levels from count fresh pages)
      ≡ nodes_left (levels_of path) (splice_path f path place many fresh pages)
  pub ends : AreEnds path (splice_path f path place many fresh pages) (spliced f levels from count fresh pages)

pub is_shown : (f : ℕ) (levels : List (List PageNode)) (from count : ℕ) (fresh : List Pair) (path : List PathLevel) (place many : ℕ)
    (pages : List ℕ) → 2 ≤ f → ShowsWay f levels from count fresh path place many →
    IsShown f levels from count fresh path place many pages
is_shown f levels from count fresh path place many pages two shows =
    let cuts = shows.cuts in
    let same : splice_path f path place many fresh pages ≡ splice_path f (shown cuts) (place_in cuts from) count fresh pages =
    ap (λ (p : List PathLevel). splice_path f p place many fresh pages) shows.path_is
    ∙ (ap (λ (n : ℕ). splice_path f (shown cuts) n many fresh pages) shows.place_is
    ∙ ap (λ (n : ℕ). splice_path f (shown cuts) (place_in cuts from) n fresh pages) shows.many_is) in
    let some : 0 < f = omega (arith, two) in
    let widened_is : spliced f levels from count fresh pages ≡ widened_path cuts (splice_path f path place many fresh pages) =
    ap (λ (ls : List (List PageNode)). spliced f ls from count fresh pages) (sym shows.levels_are)
    ∙ (shows-widened f cuts from count fresh pages some shows.enough ∙ ap (widened_path cuts) (sym same)) in
    record {
      cuts = cuts;
      after = widened_is;
      left = λ shape.
          ap (λ (ls : List (List PageNode)). nodes_left ls (spliced f ls from count fresh pages)) (sym shows.levels_are)
          ∙ (shows-left f cuts from count fresh pages two (subst (AreLevels f) (sym shows.levels_are) shape) shows.enough
          ∙ (ap (nodes_left (levels_of (shown cuts))) (sym same)
          ∙ ap (λ (p : List PathLevel). nodes_left (levels_of p) (splice_path f path place many fresh pages)) (sym shows.path_is)));
      ends = subst (AreEnds path (splice_path f path place many fresh pages)) (sym widened_is)
          (subst (λ (new : List NewLevel). AreEnds path new (widened_path cuts new)) (sym same)
          (subst (λ (p : List PathLevel). AreEnds p (splice_path f (shown cuts) (place_in cuts from) count fresh pages)
          (widened_path cuts (splice_path f (shown cuts) (place_in cuts from) count fresh pages))) (sym shows.path_is)
          (shows-ends f cuts from count fresh pages some shows.enough)));
    }
