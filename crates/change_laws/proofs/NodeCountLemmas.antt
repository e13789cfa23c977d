-- How many nodes a change makes doesn't depend on the pages that they get.
use Rattle.std.proofs.Common.{◌≡◌, ℕ, zero, suc, ◌+◌, ◌-◌, List, [], ◌∷◌, ◌++◌, length, map, take, drop, refl, sym, ap}
use Rattle.std.proofs.Common.{subst, arith, ◌∙◌, inl, inr, length-append}
use Rattle.std.specs.Prelude.{nat_le, if◌then◌else◌}
use Rattle.std.proofs.lemmas.Bool.{cases_Bool}
use Rattle.std.proofs.lemmas.List.{length-map}
use Rattle.std.proofs.lemmas.List.Sums.{sum_by-cons}
use Rattle.tree_model.specs.declared.entry.Pair.{Pair}
use Rattle.layout_model.specs.Levels.{PageNode, NewLevel, Site, pair_of, pairs_of_level, nodes_at, exchanged, joins}
use Rattle.layout_model.specs.Levels.{joined, touched_site, site_of, sizes_of, cut_into, on_pages, level_with}
use Rattle.layout_model.specs.Levels.{level_after, raised_levels, new_levels_from, spliced, is_top, count_made}
use Rattle.layout_laws.proofs.NamingLemmas.{new_levels_from-top, new_levels_from-more}
use Rattle.change_laws.proofs.SizeLemmas.{made-length}
use Rattle.change_laws.proofs.ShapeLemmas.{raised_levels-top, raised_levels-more}

-- ---- how many are made

-- two new levels of one shape
pub record Alike (a b : NewLevel) : Type 0 where
  pub size : length a.nodes ≡ length b.nodes
  pub new : length a.made ≡ length b.made
  pub start : a.from ≡ b.from
  pub many : a.count ≡ b.count

exchanged-alike : (level : List PageNode) (site : Site) (from count : ℕ) (fresh other : List Pair) → length fresh ≡ length other →
    length (exchanged level site from count fresh) ≡ length (exchanged level site from count other)
exchanged-alike level site from count fresh other same =
    let skipped = from - length (pairs_of_level (take site.before level)) in
    let front = take skipped (pairs_of_level (nodes_at level site)) in
    let back = drop (skipped + count) (pairs_of_level (nodes_at level site)) in
    let a = length-append front (fresh ++ back) in
    let a2 = length-append fresh back in
    let b = length-append front (other ++ back) in
    let b2 = length-append other back in
    omega (arith, a, a2, b, b2, same)

site-alike : (f : ℕ) (level : List PageNode) (from count : ℕ) (fresh other : List Pair) → length fresh ≡ length other →
    site_of f level from count fresh ≡ site_of f level from count other
site-alike f level from count fresh other same =
    let at = touched_site level from count in
    ap (λ (k : ℕ). if joins f level at k then joined level at else at) (exchanged-alike level at from count fresh other same)

pub after-alike : (f : ℕ) (level : List PageNode) (from count : ℕ) (fresh other : List Pair) (pages pages2 : List ℕ) →
    length fresh ≡ length other →
    Alike (level_after f level from count fresh pages) (level_after f level from count other pages2)
after-alike f level from count fresh other pages pages2 same =
    let site = site_of f level from count fresh in
    let J = exchanged level site from count fresh in
    let K = exchanged level site from count other in
    let sized : length J ≡ length K = exchanged-alike level site from count fresh other same in
    let made : length (on_pages pages (cut_into (sizes_of f (length J)) J))
    ≡ length (on_pages pages2 (cut_into (sizes_of f (length K)) K)) =
    made-length pages (sizes_of f (length J)) J
    ∙ (ap (λ (k : ℕ). length (sizes_of f k)) sized ∙ sym (made-length pages2 (sizes_of f (length K)) K)) in
    let front = take site.before level in
    let back = drop (site.before + site.nodes) level in
    let m1 = on_pages pages (cut_into (sizes_of f (length J)) J) in
    let m2 = on_pages pages2 (cut_into (sizes_of f (length K)) K) in
    let a = length-append front (m1 ++ back) in
    let a2 = length-append m1 back in
    let b = length-append front (m2 ++ back) in
    let b2 = length-append m2 back in
    let alike : Alike (level_with level site m1) (level_with level site m2) = record {
      size = omega (arith, a, a2, b, b2, made);
      new = made;
      start = refl;
      many = refl;
    } in
    let P : Site → Type 0 = λ s. Alike (level_with level site m1)
    (level_with level s (on_pages pages2 (cut_into (sizes_of f (length (exchanged level s from count other)))
    (exchanged level s from count other)))) in
    subst P (site-alike f level from count fresh other same) alike

-- how many a list of levels makes
pub made-cons : (level : NewLevel) (levels : List NewLevel) → count_made (level ∷ levels) ≡ length level.made + count_made levels
made-cons level levels = sum_by-cons (λ (l : NewLevel). length l.made) level levels

pub top-alike : (a b : NewLevel) → Alike a b → is_top a ≡ is_top b
top-alike a b alike = ap (λ (k : ℕ). nat_le k 1) alike.size

pub raised_levels-alike : (steps f : ℕ) (a b : NewLevel) (pages pages2 : List ℕ) → Alike a b →
    count_made (raised_levels steps f a pages) ≡ count_made (raised_levels steps f b pages2)
raised_levels-alike zero f a b pages pages2 alike =
    let x = made-cons a [] in
    let y = made-cons b [] in
    let made = alike.new in
    omega (arith, x, y, made)
raised_levels-alike (suc steps) f a b pages pages2 alike =
    let made = alike.new in
    elim (cases_Bool (is_top a)) [
      | inl top ↦
          let x = made-cons a [] in
          let y = made-cons b [] in
          ap count_made (raised_levels-top steps f a pages top)
          ∙ (omega (arith, x, y, made) ∙ sym (ap count_made
          (raised_levels-top steps f b pages2 (sym (top-alike a b alike) ∙ top))))
      | inr more ↦
          let left = drop (length a.made) pages in
          let left2 = drop (length b.made) pages2 in
          let next = level_after f [] 0 0 (map pair_of a.nodes) left in
          let next2 = level_after f [] 0 0 (map pair_of b.nodes) left2 in
          let names : length (map pair_of a.nodes) ≡ length (map pair_of b.nodes) = length-map a.nodes pair_of
          ∙ (alike.size ∙ sym (length-map b.nodes pair_of)) in
          let inner = raised_levels-alike steps f next next2 left left2 (after-alike f [] 0 0 (map pair_of a.nodes)
          (map pair_of b.nodes) left left2 names) in
          let x = made-cons a (raised_levels steps f next left) in
          let y = made-cons b (raised_levels steps f next2 left2) in
          ap count_made (raised_levels-more steps f a pages more)
          ∙ (omega (arith, x, y, made, inner) ∙ sym
          (ap count_made (raised_levels-more steps f b pages2 (sym (top-alike a b alike) ∙ more))))
    ]

from-alike : (f : ℕ) (a b : NewLevel) (old : List (List PageNode)) (pages pages2 : List ℕ) → Alike a b →
    count_made (new_levels_from f a old pages) ≡ count_made (new_levels_from f b old pages2)
from-alike f a b [] pages pages2 alike =
    ap (λ (k : ℕ). count_made (raised_levels k f a pages)) alike.size ∙ raised_levels-alike (length b.nodes) f a b pages pages2 alike
from-alike f a b (up ∷ old) pages pages2 alike =
    let made = alike.new in
    elim (cases_Bool (is_top a)) [
      | inl top ↦
          let x = made-cons a [] in
          let y = made-cons b [] in
          ap count_made (new_levels_from-top f a up old pages top)
          ∙ (omega (arith, x, y, made) ∙ sym (ap count_made
          (new_levels_from-top f b up old pages2 (sym (top-alike a b alike) ∙ top))))
      | inr more ↦
          let left = drop (length a.made) pages in
          let left2 = drop (length b.made) pages2 in
          let next = level_after f up a.from a.count (map pair_of a.made) left in
          let next2 = level_after f up b.from b.count (map pair_of b.made) left2 in
          let names : length (map pair_of a.made) ≡ length (map pair_of b.made) = length-map a.made pair_of
          ∙ (made ∙ sym (length-map b.made pair_of)) in
          let same : Alike next (level_after f up a.from a.count (map pair_of b.made) left2) =
          after-alike f up a.from a.count (map pair_of a.made) (map pair_of b.made) left left2 names in
          let P : ℕ → ℕ → Type 0 = λ i j. Alike next (level_after f up i j (map pair_of b.made) left2) in
          let nexts : Alike next next2 = subst (λ (j : ℕ). P b.from j) alike.many (subst (λ (i : ℕ). P i a.count) alike.start same) in
          let inner = from-alike f next next2 old left left2 nexts in
          let x = made-cons a (new_levels_from f next old left) in
          let y = made-cons b (new_levels_from f next2 old left2) in
          ap count_made (new_levels_from-more f a up old pages more)
          ∙ (omega (arith, x, y, made, inner) ∙ sym
          (ap count_made (new_levels_from-more f b up old pages2 (sym (top-alike a b alike) ∙ more))))
    ]

-- the number of made nodes doesn't depend on the pages
pub made-alike : (f : ℕ) (levels : List (List PageNode)) (from count : ℕ) (fresh : List Pair) (pages pages2 : List ℕ) →
    count_made (spliced f levels from count fresh pages) ≡ count_made (spliced f levels from count fresh pages2)
unfolding spliced
made-alike f [] from count fresh pages pages2 =
    from-alike f (level_after f [] 0 0 fresh pages)
    (level_after f [] 0 0 fresh pages2) [] pages pages2 (after-alike f [] 0 0 fresh fresh pages pages2 refl)
made-alike f (level ∷ old) from count fresh pages pages2 =
    from-alike f (level_after f level from count fresh pages)
    (level_after f level from count fresh pages2) old pages pages2
    (after-alike f level from count fresh fresh pages pages2 refl)
