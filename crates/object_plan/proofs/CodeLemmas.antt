-- What code reads of windows and of parts, step by step.
use Rattle.std.proofs.Common.{◌≡◌, ℕ, suc, ◌+◌, ◌-◌, ◌<◌, ◌≤◌, true, List, [], ◌∷◌, length, map, take, drop}
use Rattle.std.proofs.Common.{get_or, set, refl, sym, ap, arith, ◌∙◌, ◌*◌, ◌%◌, nat_eq}
use Rattle.std.proofs.Math.Nat.{mul-le-mul_left}
use Rattle.std.specs.Prelude.{Option, Some, None}
use Rattle.std.specs.List.{AllByRecursion}
use Rattle.std.proofs.lemmas.List.{at_drop_more, drop-map, take-map}
use Rattle.geometry_model.specs.Numbers.{Numbers, space_pages}
use Rattle.moment_model.specs.Moment.{count_true}
use Rattle.tree_model.specs.declared.entry.Pair.{Pair}
use Rattle.tree_model.specs.declared.entry.Placed.{Placed}
use Rattle.tree_model.specs.Range.{pairs_of}
use Rattle.tree_model.specs.Tree.{IsSegment, page_count}
use Rattle.tree_model.proofs.PageCountLaws.{count-enough, count-none}
use Rattle.tree_model.proofs.RangeLemmas.{no_segment}
use Rattle.layout_model.specs.declared.change.Change.{Change}
use Rattle.layout_model.specs.declared.extent.Extent.{Extent}
use Rattle.layout_model.specs.declared.request.Request.{Request}
use Rattle.layout_model.specs.Plan.{ask_of, ends_kept, extent_pages, fit_appended, fit_of, is_kept, last_entry}
use Rattle.layout_model.specs.Plan.{made_part_bytes}
use Rattle.edit_parts.specs.declared.part.Part.{Part}
use Rattle.edit_parts.specs.declared.part.Part.TheVariants.{Keep, Make}
use Rattle.edit_parts.specs.declared.piece.Piece.{Piece}
use Rattle.edit_parts.specs.Parts.{layout_part}
use Rattle.edit_parts.specs.Pieces.{pieces_bytes}
use Rattle.edit_plan.proofs.SpotLemmas.{pairs-length}
use Rattle.object_plan.specs.declared.sides.Sides.{Sides}
use Rattle.object_plan.specs.Sides.{count_sides, trimmed}
use Rattle.object_plan.specs.Asked.{only_one, with_wish}
use Rattle.object_plan.proofs.PackedLemmas.{last-of-window}

-- ---- the last part

pub kept-last : (parts : List Part) (x : Part) → 0 < length parts → x ≡ get_or parts (length parts - 1) x →
    is_kept (layout_part x) ≡ ends_kept (map layout_part parts)
kept-last [] x some is = let none : 0 < 0 = some in absurd (omega (arith, none))
kept-last (p ∷ []) x some is =
    let e : length (p ∷ []) - 1 ≡ 0 = omega arith in
    ap (λ (y : Part). is_kept (layout_part y)) (is ∙ ap (λ (k : ℕ). get_or (p ∷ []) k x) e)
kept-last (p ∷ q ∷ rest) x some is =
    let e : length (p ∷ q ∷ rest) - 1 ≡ suc (length (q ∷ rest) - 1) = omega arith in
    kept-last (q ∷ rest) x (omega arith) (is ∙ ap (λ (k : ℕ). get_or (p ∷ q ∷ rest) k x) e)

-- ---- the only made part

-- the made part that was found, and what is behind it
abbrev pub then_one : Option ℕ → List ℕ → Option ℕ
then_one None rest = only_one rest
then_one (Some bytes) [] = Some bytes
then_one (Some bytes) (more ∷ rest) = None

-- ---- the last request

pub wish-last : (last limit : ℕ) (requests : List Request) (d : Request) → 0 < length requests →
    set requests (length requests - 1) (record {
      want = ask_of (get_or requests (length requests - 1) d).need last limit;
      need = (get_or requests (length requests - 1) d).need;
    }) ≡ with_wish last limit requests
wish-last last limit [] d some = let none : 0 < 0 = some in absurd (omega (arith, none))
wish-last last limit (r ∷ []) d some =
    let e : length (r ∷ []) - 1 ≡ 0 = omega arith in
    ap (λ (k : ℕ). set (r ∷ []) k (record {
      want = ask_of (get_or (r ∷ []) k d).need last limit;
      need = (get_or (r ∷ []) k d).need;
    })) e
wish-last last limit (r ∷ s ∷ rest) d some =
    let e : length (r ∷ s ∷ rest) - 1 ≡ suc (length (s ∷ rest) - 1) = omega arith in
    ap (λ (k : ℕ). set (r ∷ s ∷ rest) k (record {
      want = ask_of (get_or (r ∷ s ∷ rest) k d).need last limit;
      need = (get_or (r ∷ s ∷ rest) k d).need;
    })) e
    ∙ ap (λ (xs : List Request). r ∷ xs) (wish-last last limit (s ∷ rest) d (omega arith))

-- ---- how an append meets the spare

-- of an append whose new bytes have so many pages
pub fit-is : (size : ℕ) (window : List Placed) (spare : Option Extent) (run : Extent) (change : Change) (needed : ℕ) →
    0 < length window → spare ≡ Some run → change.appends ≡ true → needed ≡ page_count size change.added →
    fit_appended size (pairs_of window) (extent_pages spare) change
    ≡ fit_of needed run.pages (nat_eq ((get_or window (length window - 1) no_segment).pair.bytes % size) 0)
fit-is size window spare run change needed some is appends pages =
    let last = last-of-window window some in
    let start : fit_appended size (pairs_of window) (extent_pages spare) change
    ≡ fit_of (page_count size change.added) (extent_pages spare) (nat_eq ((last_entry (pairs_of window)).bytes % size) 0) =
    rw (appends, fit_appended) in
    start
    ∙ (ap (λ (k : ℕ). fit_of k (extent_pages spare) (nat_eq ((last_entry (pairs_of window)).bytes % size) 0)) (sym pages)
    ∙ (ap (λ (o : Option Extent). fit_of needed (extent_pages o) (nat_eq ((last_entry (pairs_of window)).bytes % size) 0)) is
    ∙ ap (λ (q : Pair). fit_of needed run.pages (nat_eq (q.bytes % size) 0)) last))

-- bytes fill no more pages than they are
pub few-pages : (size bytes : ℕ) → 0 < size → page_count size bytes ≤ bytes
few-pages size bytes some =
    let one : bytes * 1 ≤ bytes * size = mul-le-mul_left bytes (omega (arith, some)) in
    count-enough size bytes bytes some (omega (arith, one))

-- ---- one part after the other

pub part-here : (parts : List Part) (i : ℕ) (item : Part) → i < length parts → item ≡ get_or parts i item →
    drop i parts ≡ item ∷ drop (i + 1) parts
part-here parts i item less is =
    at_drop_more (λ (l : List Part). l) parts i item less ∙ ap (λ (x : Part). x ∷ drop (i + 1) parts) (sym is)

-- the parts that are left, where the first of them is made
pub made-here : (parts rest : List Part) (pieces : List Piece) → parts ≡ Make pieces ∷ rest →
    made_part_bytes (map layout_part parts) ≡ pieces_bytes pieces ∷ made_part_bytes (map layout_part rest)
made-here parts rest pieces is = ap (λ (l : List Part). made_part_bytes (map layout_part l)) is

-- and where it stays
pub kept-here : (parts rest : List Part) (pair : Pair) → parts ≡ Keep pair ∷ rest →
    made_part_bytes (map layout_part parts) ≡ made_part_bytes (map layout_part rest)
kept-here parts rest pair is = ap (λ (l : List Part). made_part_bytes (map layout_part l)) is

-- and where it isn't made
pub made-default : (parts rest : List Part) (item : Part) → parts ≡ item ∷ rest → ((pieces : List Piece) → item ≡ Make pieces → ⊥) →
    made_part_bytes (map layout_part parts) ≡ made_part_bytes (map layout_part rest)
made-default parts rest (Keep pair) is never = kept-here parts rest pair is
made-default parts rest (Make pieces) is never = absurd (never pieces refl)

-- ---- the pages of the last entry

pub last-fits : (n : Numbers) (ps : List Pair) → 0 < n.page → AllByRecursion (IsSegment n) ps →
    page_count n.page (last_entry ps).bytes ≤ space_pages n
last-fits n [] some all = let none = count-none n.page some in omega (arith, none)
last-fits n (p ∷ []) some all = count-enough n.page p.bytes (space_pages n) some all.0.most
last-fits n (p ∷ q ∷ rest) some all = last-fits n (q ∷ rest) some all.1

-- ---- the segments between the sides

pub between-pairs : (sides : Sides) (window : List Placed) (first back : ℕ) → first ≡ count_true sides.front →
    back ≡ count_true sides.back → count_sides sides ≤ length window →
    pairs_of (take (length window - back - first) (drop first window)) ≡ trimmed sides (pairs_of window)
between-pairs sides window first back front_is back_is few =
    let long = pairs-length window in
    let i = count_true sides.front in
    let count : length window - back - first ≡ length (pairs_of window) - count_sides sides =
    omega (arith, long, front_is, back_is) in
    let f : Placed → Pair = λ s. s.pair in
    sym (take-map f (length window - back - first) (drop first window))
    ∙ (ap (take (length window - back - first)) (sym (drop-map f first window))
    ∙ (ap (λ (k : ℕ). take k (drop first (pairs_of window))) count
    ∙ ap (λ (k : ℕ). take (length (pairs_of window) - count_sides sides) (drop k (pairs_of window))) front_is))
