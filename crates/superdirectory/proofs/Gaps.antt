-- A row out of which one element was taken, the last one put in its place, and back.
use Rattle.std.proofs.Common.{inl, inr, ◌≡◌, ◌≢◌, ℕ, suc, ◌+◌, ◌-◌, ◌<◌, ◌≤◌, List, [], ◌∷◌, ◌++◌, length, map, set}
use Rattle.std.proofs.Common.{get_or, take, Option, Some, None, refl, sym, ap, ◌∙◌, arith}
use Rattle.std.proofs.Math.Seq.{map-set}
use Rattle.std.proofs.lemmas.List.{length-set, length-map, length-take-le, set-set, set_comm, set_at, take_all}
use Rattle.std.proofs.lemmas.List.{take_more, take-set, map_push, get_or-map, get_or-take, get_or-set_same}
use Rattle.std.proofs.lemmas.List.{get_or-set_other, get_or_past, get_or_push, get_or_append_left, length_push}
use Rattle.std.proofs.lemmas.List.Edits.{swap_is}
use Rattle.std.proofs.lemmas.Bool.{cases_eq}
use Rattle.std.specs.Prelude.{swap, swap_remove}
use Rattle.space_directory.specs.SpaceView.{SpaceView}
use Rattle.superdirectory.specs.Solo.{with_gap}

-- the row without its last element
all_but : (xs : List SpaceView) (n : ℕ) (d : SpaceView) → length xs ≡ suc n →
    map Some (take n xs) ++ (Some (get_or xs n d) ∷ []) ≡ map Some xs
all_but xs n d size =
    sym (map_push Some (take n xs) (get_or xs n d))
    ∙ ap (map Some) (sym (take_more xs n d (omega arith)) ∙ take_all (n + 1) xs (omega arith))

gap_inside : (items : List SpaceView) (n s : ℕ) (x : SpaceView) → length items ≡ suc n → s < n →
    with_gap (map Some (take n (set items s (get_or items n x)))) s ≡ set (map Some items) s None
gap_inside items n s x size less =
    let last = get_or items n x in
    let moved = set items s last in
    let long : length moved ≡ suc n = length-set items s last ∙ size in
    let short : length (take n moved) ≡ n = length-take-le n moved (omega arith) in
    let same : get_or moved n x ≡ last = get_or-set_other items s n last x (omega arith) in
    let there : get_or (map Some (take n moved)) s None ≡ Some (get_or moved n x) =
    get_or-map Some (take n moved) s x None (omega arith)
    ∙ ap (λ (v : SpaceView). Some v) (get_or-take n moved s x less
    ∙ get_or-set_same items s last x (omega arith) ∙ sym same) in
    ap (λ (v : Option SpaceView). set (map Some (take n moved) ++ (v ∷ [])) s None) there
    ∙ ap (λ (r : List (Option SpaceView)). set r s None) (all_but moved n x long ∙ map-set Some items s last)
    ∙ set-set (map Some items) s (Some last) None

gap_last : (items : List SpaceView) (n : ℕ) (x : SpaceView) → length items ≡ suc n →
    with_gap (map Some (take n (set items n (get_or items n x)))) n ≡ set (map Some items) n None
gap_last items n x size =
    let last = get_or items n x in
    let kept : take n (set items n last) ≡ take n items = take-set items n last in
    let short : length (map Some (take n items)) ≡ n = length-map (take n items) Some ∙ length-take-le n items (omega arith) in
    let there : get_or (map Some (take n items)) n None ≡ None = get_or_past (map Some (take n items)) n None (omega arith) in
    ap (λ (r : List SpaceView). with_gap (map Some r) n) kept
    ∙ ap (λ (v : Option SpaceView). set (map Some (take n items) ++ (v ∷ [])) n None) there
    ∙ set_at (map Some (take n items)) None [] None n short
    ∙ sym (ap (λ (r : List (Option SpaceView)). set r n None) (sym (all_but items n x size))
    ∙ set_at (map Some (take n items)) (Some last) [] None n short)

-- the element at s is taken out
pub gap_made : (items : List SpaceView) (s : ℕ) (x : SpaceView) → s < length items →
    with_gap (map Some (swap_remove items s x)) s ≡ set (map Some items) s None
gap_made items s x less =
    let size : length items ≡ suc (length items - 1) = omega arith in
    elim (cases_eq s (length items - 1)) [
      | inl same ↦
          ap (λ (k : ℕ). with_gap (map Some (take (length items - 1) (set items k (get_or items (length items - 1) x)))) k) same
          ∙ gap_last items (length items - 1) x size ∙ ap (λ (k : ℕ). set (map Some items) k None) (sym same)
      | inr other ↦ gap_inside items (length items - 1) s x size (omega arith)
    ]

filled_inside : (items : List SpaceView) (s : ℕ) (v : SpaceView) → s < length items →
    map Some (swap (items ++ (v ∷ [])) s (length items)) ≡ set (with_gap (map Some items) s) s (Some v)
filled_inside items s v less =
    let n = length items in
    let row = items ++ (v ∷ []) in
    let here = get_or row s v in
    let size : length row ≡ n + 1 = length_push items v in
    let swapped : set (set row s (get_or row n v)) n here ≡ swap row s n = swap_is row s n v (omega arith) (omega arith) in
    let last : get_or row n v ≡ v = get_or_push items v v n refl in
    let long : length (map Some items) ≡ n = length-map items Some in
    let there : get_or (map Some items) s None ≡ Some here = get_or-map Some items s v None less
    ∙ ap (λ (w : SpaceView). Some w) (sym (get_or_append_left items (v ∷ []) v s less)) in
    let other : s ≢ n = omega arith in
    ap (map Some) (sym swapped ∙ ap (λ (w : SpaceView). set (set row s w) n here) last)
    ∙ (map-set Some (set row s v) n here ∙ ap (λ (r : List (Option SpaceView)). set r n (Some here))
    (map-set Some row s v ∙ ap (λ (r : List (Option SpaceView)). set r s (Some v)) (map_push Some items v)))
    ∙ set_comm (map Some items ++ (Some v ∷ [])) s n (Some v) (Some here) other
    ∙ ap (λ (r : List (Option SpaceView)). set r s (Some v))
    (set_at (map Some items) (Some v) [] (Some here) n long
    ∙ ap (λ (w : Option SpaceView). map Some items ++ (w ∷ [])) (sym there))
    ∙ sym (set-set (map Some items ++ (get_or (map Some items) s None ∷ [])) s None (Some v))

filled_last : (items : List SpaceView) (v : SpaceView) →
    map Some (swap (items ++ (v ∷ [])) (length items) (length items))
    ≡ set (with_gap (map Some items) (length items)) (length items) (Some v)
filled_last items v =
    let n = length items in
    let row = items ++ (v ∷ []) in
    let size : length row ≡ n + 1 = length_push items v in
    let swapped : set (set row n (get_or row n v)) n (get_or row n v) ≡ swap row n n = swap_is row n n v (omega arith) (omega arith) in
    let last : get_or row n v ≡ v = get_or_push items v v n refl in
    let long : length (map Some items) ≡ n = length-map items Some in
    ap (map Some) (sym swapped ∙ ap (λ (w : SpaceView). set (set row n w) n w) last ∙ set-set row n v v ∙ set_at items v [] v n refl)
    ∙ map_push Some items v
    ∙ sym (set-set (map Some items ++ (get_or (map Some items) n None ∷ [])) n None (Some v)
    ∙ set_at (map Some items) (get_or (map Some items) n None) [] (Some v) n long)

-- an element is put in at s, where there was none
pub gap_filled : (items : List SpaceView) (s : ℕ) (v : SpaceView) → s ≤ length items →
    map Some (swap (items ++ (v ∷ [])) s (length items)) ≡ set (with_gap (map Some items) s) s (Some v)
gap_filled items s v most = elim (cases_eq s (length items)) [
  | inl same ↦
      ap (λ (k : ℕ). map Some (swap (items ++ (v ∷ [])) k (length items))) same
      ∙ filled_last items v ∙ ap (λ (k : ℕ). set (with_gap (map Some items) k) k (Some v)) (sym same)
  | inr other ↦ filled_inside items s v (omega arith)
]
