-- The runs of the way down have the nodes that an exchange wants: each has a neighbour of the nodes that name the run below.
use Rattle.std.proofs.Common.{◌≡◌, ℕ, suc, ◌+◌, ◌-◌, ◌<◌, ◌≤◌, ◌⊎◌, Bool, false, cond, List, [], ◌∷◌, ◌++◌}
use Rattle.std.proofs.Common.{length, map, take, drop, min, refl, sym, ap, subst, arith, ◌∙◌, inl, inr, nat_eq, nat_lt}
use Rattle.std.proofs.Common.{length-append, length-take, length-drop}
use Rattle.std.specs.List.{AllByRecursion}
use Rattle.std.proofs.lemmas.Bool.{cases_Bool, cases_lt, ltb-false, ne_eqb}
use Rattle.std.proofs.lemmas.List.{drop-drop, length-map, take-append-drop}
use Rattle.base_laws.proofs.ListLaws.{all-append}
use Rattle.change_laws.proofs.SizeLemmas.{all-take, all-drop}
use Rattle.change_laws.proofs.PartLemmas.{all-left, all-right}
use Rattle.change_laws.proofs.SiteLemmas.{node_at-rises}
use Rattle.layout_laws.proofs.LevelLemmas.{before-low, through-high}
use Rattle.layout_laws.proofs.NamingLemmas.{node_at-within}
use Rattle.layout_model.specs.Levels.{PageNode, Site, node_at, pair_of, pairs_of_level, touched_site}
use Rattle.layout_model.specs.Parts.{count_ended}
use Rattle.local_laws.specs.Cut.{Cut, HasNeighbour, touched_in_run}
use Rattle.local_laws.specs.Path.{Leads}
use Rattle.local_laws.proofs.CutLemmas.{pairs_in-append}
use Rattle.tree_model.specs.declared.entry.Pair.{Pair}
use Rattle.tree_model.specs.Tree.{Pages, AreTrees, HasNode, bytes_of, pairs_on}
use Rattle.tree_pages.proofs.ShapeLemmas.{names-named}
use Rattle.tree_pages.proofs.UpLemmas.{bytes-named}
use Rattle.tree_read.proofs.TreeLemmas.{bytes_of-append}
use Rattle.tree_splice.specs.Down.{AreUnder, Names, all_names, below_names, section_of, cut_below}
use Rattle.tree_splice.specs.Way.{named_on}
use Rattle.tree_splice.specs.declared.section.Deciding.{Deciding}
use Rattle.tree_splice.specs.declared.section.Section.{Section}
use Rattle.tree_splice.proofs.EndedLemmas.{HasTwo, ended-few, ended-only, ended-past, ended-rises}
use Rattle.tree_splice.proofs.EndedLemmas.{node_at-ended, node_at-two, twice-pairs}
use Rattle.window_laws.proofs.CountLemmas.{ended-bytes}

-- ---- what is known of names, and of a cut

-- the pair of the run that has the first deciding byte, and the one that has the last
abbrev pub first_in : Deciding → Names → ℕ
first_in bytes names = count_ended (bytes.first - bytes_of names.front) names.run

abbrev pub last_in : Deciding → Names → ℕ
last_in bytes names = count_ended (bytes.last - bytes_of names.front) names.run

-- two names before, or none besides those of the run; and behind likewise
pub record Spot (bytes : Deciding) (names : Names) : Type 0 where
  pub under : AreUnder bytes names
  pub near : (2 ≤ first_in bytes names) ⊎ (length names.front ≡ 0)
  pub far : (2 ≤ first_in bytes names) ⊎ ((length names.back ≡ 0) ⊎ (last_in bytes names + 3 ≤ length names.run))

-- the node of the run that has the first deciding byte, and the one that has the last
abbrev pub first_node : Deciding → Cut → ℕ
first_node bytes cut = node_at cut.run (first_in bytes (below_names cut))

abbrev pub last_node : Deciding → Cut → ℕ
last_node bytes cut = node_at cut.run (last_in bytes (below_names cut))

-- the same of a cut's nodes
pub record HasBeside (bytes : Deciding) (cut : Cut) : Type 0 where
  pub under : AreUnder bytes (below_names cut)
  pub near : (2 ≤ first_node bytes cut) ⊎ (length cut.front ≡ 0)
  pub far : (2 ≤ first_node bytes cut) ⊎ ((length cut.back ≡ 0) ⊎ (last_node bytes cut + 3 ≤ length cut.run))

-- ---- a section of names

named-long : (at : Pages) (pairs : List Pair) → length (named_on at pairs) ≡ length pairs
named-long at pairs = length-map pairs _

-- the names of nodes that trees' pairs name are these pairs
named-pairs : (at : Pages) (height : ℕ) (pairs : List Pair) → AreTrees at 0 (suc height) pairs → map pair_of (named_on at pairs) ≡ pairs
named-pairs at height pairs trees = sym (names-named at 0 height pairs trees)

pub named-bytes : (at : Pages) (height : ℕ) (pairs : List Pair) → AreTrees at 0 (suc height) pairs →
    bytes_of (pairs_of_level (named_on at pairs)) ≡ bytes_of pairs
named-bytes at height pairs trees =
    sym (bytes-named (named_on at pairs)) ∙ ap bytes_of (named-pairs at height pairs trees)

-- What is known of a section of the run.
pub record IsSection (bytes : Deciding) (names : Names) (section : Section) : Type 0 where
  pub first : section.first ≡ first_in bytes names - 2
  pub inside : first_in bytes names < section.end
  pub holds : last_in bytes names < section.end
  pub within : section.end ≤ length names.run
  pub near : section.end ≤ last_in bytes names + 3
  pub far : first_in bytes names < 2 → (section.end ≡ length names.run) ⊎ (section.end ≡ last_in bytes names + 3)
  pub order : first_in bytes names ≤ last_in bytes names
  pub few : last_in bytes names < length names.run

pub is_section : (bytes : Deciding) (names : Names) → AreUnder bytes names →
    IsSection bytes names (section_of bytes (bytes_of names.front) names.run)
is_section bytes names under =
    let low = under.low in
    let order = under.order in
    let high = under.high in
    let a = first_in bytes names in
    let b = last_in bytes names in
    let rises = ended-rises (bytes.first - bytes_of names.front) (bytes.last - bytes_of names.front) names.run (omega (arith, order)) in
    let few = ended-few (bytes.last - bytes_of names.front) names.run (omega (arith, low, order, high)) in
    elim (cases_Bool (nat_lt a 2)) [
      | inl small ↦
          let step : min (length names.run) (b + cond (nat_lt a 2) 3 1) ≡ min (length names.run) (b + 3) =
          ap (λ (t : Bool). min (length names.run) (b + cond t 3 1)) small in
          record {
            first = refl;
            inside = omega (arith, step, rises, few);
            holds = omega (arith, step, few);
            within = omega (arith, step);
            near = omega (arith, step);
            far = λ less. elim (cases_lt (b + 3) (length names.run)) [
              | inl some ↦ inr (omega (arith, step, some))
              | inr none ↦ inl (omega (arith, step, none))
            ];
            order = rises;
            few = few;
          }
      | inr large ↦
          let step : min (length names.run) (b + cond (nat_lt a 2) 3 1) ≡ min (length names.run) (b + 1) =
          ap (λ (t : Bool). min (length names.run) (b + cond t 3 1)) large in
          record {
            first = refl;
            inside = omega (arith, step, rises, few);
            holds = omega (arith, step, few);
            within = omega (arith, step);
            near = omega (arith, step);
            far = λ less. let none = ltb-false a 2 large in absurd (omega (arith, none, less));
            order = rises;
            few = few;
          }
    ]

-- the three parts of the run
abbrev pub head : Section → List Pair → List Pair
head section run = take section.first run

abbrev pub middle : Section → List Pair → List Pair
middle section run = take (section.end - section.first) (drop section.first run)

abbrev pub tail : Section → List Pair → List Pair
tail section run = drop section.end run

pub three-parts : (section : Section) (run : List Pair) → section.first ≤ section.end →
    head section run ++ (middle section run ++ tail section run) ≡ run
three-parts section run order =
    let n = section.end - section.first in
    let end : section.first + n ≡ section.end = omega (arith, order) in
    let rest : tail section run ≡ drop n (drop section.first run) =
    ap (λ (k : ℕ). drop k run) (sym end) ∙ sym (drop-drop n section.first run) in
    ap (λ (ps : List Pair). head section run ++ (middle section run ++ ps)) rest
    ∙ (ap (λ (ps : List Pair). head section run ++ ps) (take-append-drop n (drop section.first run))
    ∙ take-append-drop section.first run)

-- a place in the middle one of three rows
ended-middle : (at k : ℕ) (xs ys zs : List Pair) → count_ended at (xs ++ (ys ++ zs)) ≡ k → bytes_of xs ≤ at → k < length xs + length ys →
    count_ended (at - bytes_of xs) ys ≡ k - length xs
ended-middle at k xs ys zs is past inside =
    let step = ended-past at xs (ys ++ zs) past in
    let only = ended-only (at - bytes_of xs) ys zs (omega (arith, step, is, inside)) in
    omega (arith, step, is, only)

-- ---- the cut below

-- What is known of the cut of a level with these names.
pub record IsCutBelow (bytes : Deciding) (names : Names) (section : Section) (cut : Cut) : Type 0 where
  pub front_bytes : bytes_of (pairs_of_level cut.front) ≡ bytes_of names.front + bytes_of (head section names.run)
  pub run_bytes : bytes_of (pairs_of_level cut.run) ≡ bytes_of (middle section names.run)
  pub front_long : length cut.front ≡ length names.front + section.first
  pub run_long : length cut.run ≡ section.end - section.first
  pub back_long : length cut.back ≡ length names.run - section.end + length names.back
  pub first_is : first_node bytes cut ≡ first_in bytes names - section.first
  pub last_is : last_node bytes cut ≡ last_in bytes names - section.first

-- the trees that some names name
abbrev Tree : Pages → ℕ → Pair → Type 0
Tree at height p = HasNode at p.page (suc height) 0 p.bytes × AreTrees at 0 height (pairs_on at p.page)

pub is_cut_below : (at : Pages) (height : ℕ) (bytes : Deciding) (names : Names) → AreUnder bytes names →
    AreTrees at 0 (suc height) (all_names names) →
    IsCutBelow bytes names (section_of bytes (bytes_of names.front) names.run) (cut_below at bytes names)
is_cut_below at height bytes names under trees =
    let run = names.run in
    let section = section_of bytes (bytes_of names.front) run in
    let is = is_section bytes names under in
    let cut = cut_below at bytes names in
    let H = head section run in
    let M = middle section run in
    let D = tail section run in
    let first = is.first in
    let inside = is.inside in
    let holds = is.holds in
    let within = is.within in
    let order = is.order in
    let parts = three-parts section run (omega (arith, first, inside)) in
    let P : Pair → Type 0 = Tree at height in
    let front_trees = all-left P names.front (run ++ names.back) trees in
    let run_trees = all-left P run names.back (all-right P names.front (run ++ names.back) trees) in
    let three : AllByRecursion P (H ++ (M ++ D)) = subst (AllByRecursion P) (sym parts) run_trees in
    let head_trees = all-left P H (M ++ D) three in
    let middle_trees = all-left P M D (all-right P H (M ++ D) three) in
    let before_trees : AreTrees at 0 (suc height) (names.front ++ H) = all-append P names.front H front_trees head_trees in
    let front_sum = named-bytes at height (names.front ++ H) before_trees in
    let both = bytes_of-append names.front H in
    let front_bytes : bytes_of (pairs_of_level cut.front) ≡ bytes_of names.front + bytes_of H = omega (arith, front_sum, both) in
    let run_bytes = named-bytes at height M middle_trees in
    let named : map pair_of cut.run ≡ M = named-pairs at height M middle_trees in
    let head_all = length-take section.first run in
    let head_long : length H ≡ section.first = omega (arith, head_all, first, inside, within) in
    let middle_all = length-take (section.end - section.first) (drop section.first run) in
    let left = length-drop section.first run in
    let middle_long : length M ≡ section.end - section.first = omega (arith, middle_all, left, within) in
    let tail_long : length D ≡ length run - section.end = length-drop section.end run in
    let front_two = length-append names.front H in
    let back_two = length-append D names.back in
    let front_named = named-long at (names.front ++ H) in
    let back_named = named-long at (D ++ names.back) in
    let low = under.low in
    let head_low : bytes_of H ≤ bytes.first - bytes_of names.front =
    ended-bytes (bytes.first - bytes_of names.front) section.first run (omega (arith, first)) in
    let under_order = under.order in
    let place : (byte k : ℕ) → count_ended (byte - bytes_of names.front) run ≡ k → bytes_of H ≤ byte - bytes_of names.front →
    k < section.end →
    node_at cut.run (count_ended (byte - bytes_of (pairs_of_level cut.front)) (pairs_of_level cut.run)) ≡ k - section.first =
    λ byte k is_k past less.
    let far : byte - bytes_of (pairs_of_level cut.front) ≡ byte - bytes_of names.front - bytes_of H = omega (arith, front_bytes) in
    let counted : count_ended (byte - bytes_of names.front) (H ++ (M ++ D)) ≡ k =
    ap (count_ended (byte - bytes_of names.front)) parts ∙ is_k in
    let found = ended-middle (byte - bytes_of names.front) k H M D counted past (omega (arith, head_long, middle_long, less)) in
    node_at-ended cut.run (byte - bytes_of (pairs_of_level cut.front))
    ∙ (ap (count_ended (byte - bytes_of (pairs_of_level cut.front))) named
    ∙ (ap (λ (n : ℕ). count_ended n M) far
    ∙ (found ∙ ap (λ (n : ℕ). k - n) head_long))) in
    record {
      front_bytes = front_bytes;
      run_bytes = run_bytes;
      front_long = omega (arith, front_named, front_two, head_long);
      run_long = named-long at M ∙ middle_long;
      back_long = omega (arith, back_named, back_two, tail_long);
      first_is = place bytes.first (first_in bytes names) refl head_low inside;
      last_is = place bytes.last (last_in bytes names) refl (omega (arith, head_low, under_order)) holds;
    }

-- a place that is met in the middle one of three rows lies before its end
middle-past : (byte k : ℕ) (xs ys zs : List Pair) → count_ended byte (xs ++ (ys ++ zs)) ≡ k → bytes_of xs ≤ byte →
    k < length xs + length ys → byte < bytes_of xs + bytes_of ys
middle-past byte k xs ys zs is from inside = elim (cases_lt byte (bytes_of xs + bytes_of ys)) [
  | inl less ↦ less
  | inr more ↦
      let one = ended-past byte xs (ys ++ zs) from in
      let two = ended-past (byte - bytes_of xs) ys zs (omega (arith, more, from)) in
      absurd (omega (arith, one, two, is, inside))
]

-- the deciding bytes lie under the run of the cut below
pub cut-under : (at : Pages) (height : ℕ) (bytes : Deciding) (names : Names) → AreUnder bytes names →
    AreTrees at 0 (suc height) (all_names names) → AreUnder bytes (below_names (cut_below at bytes names))
cut-under at height bytes names under trees =
    let run = names.run in
    let section = section_of bytes (bytes_of names.front) run in
    let is = is_section bytes names under in
    let cut = is_cut_below at height bytes names under trees in
    let first = is.first in
    let inside = is.inside in
    let holds = is.holds in
    let within = is.within in
    let front_bytes = cut.front_bytes in
    let run_bytes = cut.run_bytes in
    let low = under.low in
    let order = under.order in
    let H = head section run in
    let M = middle section run in
    let D = tail section run in
    let head_low : bytes_of H ≤ bytes.first - bytes_of names.front =
    ended-bytes (bytes.first - bytes_of names.front) section.first run (omega (arith, first)) in
    let middle_all = length-take (section.end - section.first) (drop section.first run) in
    let left = length-drop section.first run in
    let middle_long : length M ≡ section.end - section.first = omega (arith, middle_all, left, within) in
    let head_all = length-take section.first run in
    let head_long : length H ≡ section.first = omega (arith, head_all, first, inside, within) in
    let past = middle-past (bytes.last - bytes_of names.front) (last_in bytes names) H M D
    (ap (count_ended (bytes.last - bytes_of names.front)) (three-parts section run (omega (arith, first, inside))))
    (omega (arith, head_low, order)) (omega (arith, head_long, middle_long, holds, first, inside)) in
    record {
      low = omega (arith, front_bytes, low, head_low);
      order = order;
      high = omega (arith, front_bytes, run_bytes, past, low, head_low, order);
    }

-- the cut below has what it needs where the names have
pub cut-near : (at : Pages) (height : ℕ) (bytes : Deciding) (names : Names) → Spot bytes names →
    AreTrees at 0 (suc height) (all_names names) → HasBeside bytes (cut_below at bytes names)
cut-near at height bytes names spot trees =
    let is = is_section bytes names spot.under in
    let cut = is_cut_below at height bytes names spot.under trees in
    let first = is.first in
    let within = is.within in
    let first_is = cut.first_is in
    let last_is = cut.last_is in
    let front_long = cut.front_long in
    let run_long = cut.run_long in
    let back_long = cut.back_long in
    record {
      under = cut-under at height bytes names spot.under trees;
      near = elim (cases_lt (first_in bytes names) 2) [
        | inl small ↦ elim spot.near [
          | inl two ↦ absurd (omega (arith, two, small))
          | inr none ↦ inr (omega (arith, front_long, none, first, small))
        ]
        | inr two ↦ inl (omega (arith, first_is, first, two))
      ];
      far = elim (cases_lt (first_in bytes names) 2) [
        | inr two ↦ inl (omega (arith, first_is, first, two))
        | inl small ↦ elim (is.far small) [
          | inr end ↦ inr (inr (omega (arith, last_is, run_long, end, first, small)))
          | inl all ↦ elim spot.far [
            | inl two ↦ absurd (omega (arith, two, small))
            | inr rest ↦ elim rest [
              | inl none ↦ inr (inl (omega (arith, back_long, all, none)))
              | inr many ↦ inr (inr (omega (arith, last_is, run_long, all, first, small, many, within)))
            ]
          ]
        ]
      ];
    }

-- ---- the names below a cut

pub empty-pairs : (nodes : List PageNode) → length nodes ≡ 0 → length (pairs_of_level nodes) ≡ 0
empty-pairs [] none = refl
empty-pairs (node ∷ rest) none = let some : suc (length rest) ≡ 0 = none in absurd (omega (arith, some))

-- as many pairs stand before a node as two for each node before it
before-many : (run : List PageNode) (at : ℕ) → AllByRecursion HasTwo run → node_at run at < length run →
    node_at run at + node_at run at ≤ at
before-many run at two inside =
    let n = node_at run at in
    let many = twice-pairs (take n run) (all-take HasTwo n run two) in
    let low = before-low run at in
    let long = length-take n run in
    omega (arith, many, low, long, inside)

pub names-spot : (bytes : Deciding) (cut : Cut) → HasBeside bytes cut → AllByRecursion HasTwo cut.run → Spot bytes (below_names cut)
names-spot bytes cut near two =
    let names = below_names cut in
    let a = first_in bytes names in
    let b = last_in bytes names in
    let run = cut.run in
    let order = near.under.order in
    let low = near.under.low in
    let high = near.under.high in
    let rises = ended-rises (bytes.first - bytes_of names.front) (bytes.last - bytes_of names.front) names.run (omega (arith, order)) in
    let few = ended-few (bytes.last - bytes_of names.front) names.run (omega (arith, low, order, high)) in
    let inside : a < length (pairs_of_level run) = omega (arith, rises, few) in
    let node_in = node_at-within run a inside in
    let before = before-many run a two node_in in
    let last_in_run = node_at-within run b few in
    let through = through-high run b few in
    let n = suc (node_at run b) in
    let parts = ap (λ (ns : List PageNode). length (pairs_of_level ns)) (take-append-drop n run) in
    let both = pairs_in-append (take n run) (drop n run) in
    let behind = twice-pairs (drop n run) (all-drop HasTwo n run two) in
    let left = length-drop n run in
    record {
      under = near.under;
      near = elim near.near [
        | inl some ↦ inl (omega (arith, some, before))
        | inr none ↦ inr (empty-pairs cut.front none)
      ];
      far = elim near.far [
        | inl some ↦ inl (omega (arith, some, before))
        | inr rest ↦ elim rest [
          | inl none ↦ inr (inl (empty-pairs cut.back none))
          | inr many ↦ inr (inr (omega (arith, many, through, parts, both, behind, left)))
        ]
      ];
    }

-- ---- a run leads to the one above it

choose : (nodes : List PageNode) (from count : ℕ) → 1 ≤ count → touched_site nodes from count
    ≡ record { before = node_at nodes from; nodes = suc (node_at nodes (from + count - 1)) - node_at nodes from }
choose nodes from count some =
    let other : nat_eq count 0 ≡ false = ne_eqb count 0 (λ none. omega (arith, none, some)) in
    ap (λ (t : Bool). site (node_at nodes (cond t (from - 1) from))) other
  where
    site : ℕ → Site
    site k = record { before = k; nodes = suc (node_at nodes (from + count - 1)) - k }

pub leads-up : (at : Pages) (height : ℕ) (bytes : Deciding) (up : Cut) → HasBeside bytes up → AllByRecursion HasTwo up.run →
    AreTrees at 0 (suc height) (all_names (below_names up)) → Leads (cut_below at bytes (below_names up)) up
leads-up at height bytes up near two trees =
    let names = below_names up in
    let run = up.run in
    let section = section_of bytes (bytes_of names.front) names.run in
    let is = is_section bytes names near.under in
    let cut = cut_below at bytes names in
    let facts = is_cut_below at height bytes names near.under trees in
    let front_long = facts.front_long in
    let run_long = facts.run_long in
    let first = is.first in
    let inside = is.inside in
    let within = is.within in
    let close = is.near in
    let order = is.order in
    let few = is.few in
    let a = first_in bytes names in
    let b = last_in bytes names in
    let a_in : a < length (pairs_of_level run) = omega (arith, order, few) in
    let before = before-many run a two (node_at-within run a a_in) in
    let from = length cut.front - length (pairs_of_level up.front) in
    let count = length cut.run in
    let from_is : from ≡ section.first = omega (arith, front_long) in
    let site = choose run from count (omega (arith, run_long, first, inside)) in
    let site_before : (touched_in_run up (length cut.front) (length cut.run)).before ≡ node_at run section.first =
    ap (λ (s : Site). s.before) site ∙ ap (node_at run) from_is in
    let site_nodes : (touched_in_run up (length cut.front) (length cut.run)).nodes
    ≡ suc (node_at run (from + count - 1)) - node_at run from = ap (λ (s : Site). s.nodes) site in
    let first_route : 2 ≤ first_node bytes up → HasNeighbour up (touched_in_run up (length cut.front) (length cut.run)) = λ some.
    let many : 2 ≤ a = omega (arith, some, before) in
    let back : a - 2 + 2 ≡ a = omega (arith, many) in
    let step = node_at-two run (a - 2) two in
    let there = ap (node_at run) back in
    let here = ap (node_at run) first in
    inl (omega (arith, site_before, here, step, there, some)) in
    record {
      starts = omega (arith, front_long);
      ends = omega (arith, front_long, run_long, first, inside, within);
      beside = elim near.far [
        | inl some ↦ first_route some
        | inr rest ↦ elim near.near [
          | inl some ↦ first_route some
          | inr none ↦ elim rest [
            | inl last ↦ inr (none, inl last)
            | inr many ↦
                let end : from + count - 1 ≤ b + 2 = omega (arith, from_is, run_long, first, inside, close) in
                let rises = node_at-rises run (from + count - 1) (b + 2) end in
                let next = node_at-two run b two in
                inr (none, inr (omega (arith, site_nodes, rises, next, many)))
          ]
        ]
      ];
    }
