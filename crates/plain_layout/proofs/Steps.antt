-- A step of each recursion on a number, as the code takes it: down to the number before.
use Rattle.std.proofs.Common.{◌≡◌, ◌≢◌, ℕ, zero, suc, ◌+◌, ◌-◌, ◌*◌, ◌/◌, Bool, true, false, Option, Some, None}
use Rattle.std.proofs.Common.{List, [], ◌∷◌, ◌++◌, length, map, drop, nat_le, nat_lt, if◌then◌else◌, refl, arith}
use Rattle.std.proofs.Common.{ap, ◌∙◌}
use Rattle.std.proofs.Math.Nat.{div-eq_of_lt}
use Rattle.std.specs.List.{range_with_len}
use Rattle.geometry_model.specs.Numbers.{Numbers}
use Rattle.block_model.specs.Place.{halves, found_at, place_from}
use Rattle.tree_model.specs.declared.entry.Pair.{Pair}
use Rattle.layout_model.specs.declared.extent.Extent.{Extent}
use Rattle.layout_model.specs.Grants.{Spaces, Answer, and_then, or_else, run_of, only, halved, node_pages}
use Rattle.layout_model.specs.Grants.Answer.{Got, Refused}
use Rattle.layout_model.specs.Layout.{spare_behind}
use Rattle.layout_model.specs.Levels.{PageNode, NewLevel, pair_of, sizes_of, level_after, is_top, raised_levels}
use Rattle.base_laws.proofs.OptionLaws.{same_branches}

pub numbers_more : (first count : ℕ) → count ≢ 0 → range_with_len first count ≡ first ∷ range_with_len (first + 1) (count - 1)
numbers_more first zero ne = absurd (ne refl)
numbers_more first (suc n) ne = let e : suc n - 1 ≡ n = omega arith in rw e refl

pub node_pages_more : (n : Numbers) (start count : ℕ) (spaces : Spaces) → count ≢ 0 → node_pages n start count spaces ≡
    and_then (run_of n start 1 spaces) (λ run left.
    and_then (node_pages n start (count - 1) left) (λ pages rest_left. Got (run.page ∷ pages) rest_left))
node_pages_more n start zero spaces ne = absurd (ne refl)
node_pages_more n start (suc count) spaces ne = let e : suc count - 1 ≡ count = omega arith in rw e refl

-- the runs of a part, its halves one step less
abbrev pub halved_step : ℕ → Numbers → ℕ → ℕ → ℕ → Spaces → Answer (List Extent)
halved_step steps n start threshold pages spaces =
    or_else (and_then (run_of n start pages spaces) only) (λ refused.
    elim (nat_lt pages (2 * threshold)) [
      | true ↦ Refused pages
      | false ↦
          and_then (halved steps n start threshold ((pages + 1) / 2) spaces) (λ first left.
          and_then (halved steps n start threshold (pages / 2) left) (λ second rest. Got (first ++ second) rest))
    ])

pub halved_more : (steps : ℕ) (n : Numbers) (start threshold pages : ℕ) (spaces : Spaces) → steps ≢ 0 →
    halved steps n start threshold pages spaces ≡ halved_step (steps - 1) n start threshold pages spaces
halved_more zero n start threshold pages spaces ne = absurd (ne refl)
halved_more (suc steps) n start threshold pages spaces ne =
    let e : steps ≡ suc steps - 1 = omega arith in ap (λ k. halved_step k n start threshold pages spaces) e

-- a place that was found, or else one among the blocks of the next orders
abbrev pub place_step : ℕ → List Bool → ℕ → ℕ → Option ℕ → Option ℕ
place_step levels blocks size n found =
    elim found [ Some q ↦ Some (q * size) | None ↦ place_from levels (halves blocks) (2 * size) n ]

pub place_from_more : (levels : ℕ) (blocks : List Bool) (size n : ℕ) → levels ≢ 0 →
    place_from levels blocks size n ≡ place_step (levels - 1) blocks size n (found_at blocks size n)
place_from_more zero blocks size n ne = absurd (ne refl)
place_from_more (suc levels) blocks size n ne =
    let e : levels ≡ suc levels - 1 = omega arith in ap (λ k. place_step k blocks size n (found_at blocks size n)) e

-- where no block is left there is none in any order
pub found_none : (size n : ℕ) → found_at [] size n ≡ None
found_none size n = same_branches (nat_le n size) None

pub place_from_none : (levels size n : ℕ) → place_from levels [] size n ≡ None
place_from_none zero size n = refl
place_from_none (suc levels) size n = ap (place_step levels [] size n) (found_none size n) ∙ place_from_none levels (2 * size) n

-- the levels above the old root, one step less
abbrev pub raised_step : ℕ → ℕ → NewLevel → List ℕ → List NewLevel
raised_step steps f below pages =
    elim (is_top below) [
      | true ↦ below ∷ []
      | false ↦ below ∷ raised_levels steps f
          (level_after f [] 0 0 (map pair_of below.nodes) (drop (length below.made) pages))
          (drop (length below.made) pages)
    ]

pub raised_more : (steps f : ℕ) (below : NewLevel) (pages : List ℕ) → steps ≢ 0 →
    raised_levels steps f below pages ≡ raised_step (steps - 1) f below pages
raised_more zero f below pages ne = absurd (ne refl)
raised_more (suc steps) f below pages ne = let e : steps ≡ suc steps - 1 = omega arith in ap (λ k. raised_step k f below pages) e

pub level_after_same : (f : ℕ) (nodes : List PageNode) (a b c d : ℕ) (x y : List Pair) (p q : List ℕ) → a ≡ b →
    c ≡ d → x ≡ y → p ≡ q → level_after f nodes a c x p ≡ level_after f nodes b d y q
level_after_same f nodes a b c d x y p q from count fresh pages =
    ap (λ t. level_after f nodes t c x p) from ∙ (ap (λ t. level_after f nodes b t x p) count
    ∙ (ap (λ t. level_after f nodes b d t p) fresh ∙ ap (λ t. level_after f nodes b d y t) pages))

-- nothing is left behind one part but where it has one row of runs
pub spare_none : (size : ℕ) (bytes : List ℕ) (runs : List (List Extent)) → length bytes ≡ 1 → length runs ≢ 1 →
    None ≡ spare_behind size bytes runs
spare_none size [] runs one other = refl
spare_none size (b ∷ []) [] one other = refl
spare_none size (b ∷ []) (r ∷ []) one other = absurd (other refl)
spare_none size (b ∷ []) (r ∷ q ∷ rs) one other = refl
spare_none size (b ∷ c ∷ bs) runs one other = absurd (omega arith)

no_nodes : (f : ℕ) → (0 + (f - 1)) / f ≡ 0
no_nodes zero = refl
no_nodes (suc f) = div-eq_of_lt (omega arith)

pub sizes_of_none : (f n : ℕ) → n ≡ 0 → sizes_of f n ≡ []
sizes_of_none f n e = rw e (rw (no_nodes f) refl)

pub ruleset place_from_steps = (place_from_more, place_from_none)
