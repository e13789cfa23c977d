-- The way up on a way that has all nodes.
use Rattle.std.proofs.Common.{◌≡◌, ℕ, ◌+◌, true, false, List, [], ◌∷◌, length, map, drop, refl, sym, ap, ◌∙◌, inl, inr, arith}
use Rattle.std.proofs.lemmas.Bool.{cases_Bool}
use Rattle.layout_laws.proofs.NamingLemmas.{new_levels_from-top, new_levels_from-more}
use Rattle.layout_model.specs.Levels.{PageNode, NewLevel, is_top, level_after, new_levels_from, pair_of, spliced}
use Rattle.local_laws.specs.Path.{PathLevel, is_top_of_path, new_path_from, splice_path}
use Rattle.tree_model.specs.declared.entry.Pair.{Pair}
use Rattle.tree_splice.proofs.UpLemmas.{path-more, path-top}

-- a level of which all nodes are known
abbrev pub whole_level : List PageNode → PathLevel
whole_level nodes = record { nodes = nodes; first = 0; before = false; behind = false }

whole-from : (f : ℕ) (below : NewLevel) (nodes : List PageNode) (above : List (List PageNode)) (pages : List ℕ) →
    new_path_from f below (whole_level nodes) (map whole_level above) pages ≡ new_levels_from f below above pages
whole-from f below nodes [] pages = refl
whole-from f below nodes (up ∷ above) pages = elim (cases_Bool (is_top below)) [
  | inl top ↦
      (let path : is_top_of_path (whole_level nodes) below ≡ true = rw (top, is_top_of_path) refl in
      path-top f below (whole_level nodes) (whole_level up) (map whole_level above) pages path ∙ sym
      (new_levels_from-top f below up above pages top))
  | inr more ↦
      (let path : is_top_of_path (whole_level nodes) below ≡ false = rw (more, is_top_of_path) refl in
      let left = drop (length below.made) pages in
      let next = level_after f up below.from below.count (map pair_of below.made) left in
      let place : 0 + below.from ≡ below.from = omega arith in
      path-more f below (whole_level nodes) (whole_level up) (map whole_level above) pages path
      ∙ (ap (λ (k : ℕ). below ∷ new_path_from f (level_after f up k below.count (map pair_of below.made) left) (whole_level up)
      (map whole_level above) left) place
      ∙ (ap (λ (levels : List NewLevel). below ∷ levels) (whole-from f next up above left) ∙ sym
      (new_levels_from-more f below up above pages more))))
]

pub whole-path : (f : ℕ) (levels : List (List PageNode)) (from count : ℕ) (fresh : List Pair) (pages : List ℕ) →
    splice_path f (map whole_level levels) from count fresh pages ≡ spliced f levels from count fresh pages
unfolding spliced splice_path
whole-path f [] from count fresh pages = refl
whole-path f (nodes ∷ above) from count fresh pages = whole-from f (level_after f nodes from count fresh pages) nodes above pages
