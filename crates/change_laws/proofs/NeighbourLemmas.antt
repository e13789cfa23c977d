-- Of two neighbours in a changed object one at least isn't small: within the merged parts, and where they meet the
-- entries before and behind them.
use Rattle.std.proofs.Common.{◌≡◌, ℕ, ◌+◌, ◌-◌, Bool, true, false, ◌&&◌, List, [], ◌∷◌, ◌++◌, length, map, take, drop}
use Rattle.std.proofs.Common.{refl, sym, ap, subst, arith, ◌∙◌, ◌⊎◌, inl, inr, append_assoc}
use Rattle.std.proofs.lemmas.Bool.{cases_Bool, false≢true, and_parts, and_cases, and_left, and_right, ltb-false, le-ltb}
use Rattle.std.proofs.lemmas.List.{append-nil, map-append, take-append-drop}
use Rattle.tree_model.specs.declared.entry.Pair.{Pair}
use Rattle.tree_model.specs.Tree.{page_count}
use Rattle.layout_model.specs.declared.part.Part.{Part}
use Rattle.layout_model.specs.declared.part.Part.TheVariants.{Keep, Make}
use Rattle.layout_model.specs.declared.change.Change.{Change}
use Rattle.layout_model.specs.Parts.{part_bytes, count_ended, count_begun, one_before, one_after, left_of, head_of}
use Rattle.layout_model.specs.Parts.{right_of, pieces, parts_of}
use Rattle.layout_model.specs.Pack.{is_small, pack_from, pack, Packed}
use Rattle.layout_model.specs.Plan.{plan_packed}
use Rattle.layout_laws.specs.Merging.{AreApart}
use Rattle.layout_laws.proofs.MergingLemmas.{pack_from-merges, pack_from-keeps, pack-apart}
use Rattle.content_laws.specs.Spelling.{HaveBytes, all_parts}
use Rattle.content_laws.proofs.SideLemmas.{count_ended-within_list}
use Rattle.content_laws.proofs.PlanLemmas.{outer_front, outer_back, outer_front-is, outer_back-is, plan-whole}
use Rattle.content_laws.proofs.PlanLemmas.{pack_from-some, last_of, first_of_list}

-- ---- neighbours in a list

abbrev pub both : ℕ → ℕ → Part → Part → Bool
both size least x y = is_small size least x && is_small size least y

-- a part and the first of some aren't both small
abbrev pub FirstApart : ℕ → ℕ → Part → List Part → Type 0
FirstApart size least x [] = Unit {0}
FirstApart size least x (y ∷ rest) = both size least x y ≡ false

-- the last of some and a part aren't both small
abbrev pub LastApart : ℕ → ℕ → List Part → Part → Type 0
LastApart size least [] z = Unit {0}
LastApart size least (x ∷ []) z = both size least x z ≡ false
LastApart size least (x ∷ y ∷ rest) z = LastApart size least (y ∷ rest) z

pub apart-cons : (size least : ℕ) (x : Part) (parts : List Part) → FirstApart size least x parts →
    AreApart size least parts → AreApart size least (x ∷ parts)
apart-cons size least x [] first rest = tt
apart-cons size least x (y ∷ parts) first rest = (first, rest)

pub apart-first : (size least : ℕ) (x : Part) (parts : List Part) → AreApart size least (x ∷ parts) → FirstApart size least x parts
apart-first size least x [] apart = tt
apart-first size least x (y ∷ parts) apart = apart.0

pub apart-rest : (size least : ℕ) (x : Part) (parts : List Part) → AreApart size least (x ∷ parts) → AreApart size least parts
apart-rest size least x [] apart = tt
apart-rest size least x (y ∷ parts) apart = apart.1

-- a list apart in two
record Split (size least : ℕ) (xs : List Part) (y : Part) (ys : List Part) : Type 0 where
  left : AreApart size least xs
  border : LastApart size least xs y
  right : AreApart size least (y ∷ ys)

apart-split : (size least : ℕ) (xs : List Part) (y : Part) (ys : List Part) → AreApart size least (xs ++ (y ∷ ys)) →
    Split size least xs y ys
apart-split size least [] y ys apart = record { left = tt; border = tt; right = apart }
apart-split size least (x ∷ []) y ys apart = record { left = tt; border = apart.0; right = apart.1 }
apart-split size least (x ∷ x2 ∷ xs) y ys apart =
    let more = apart-split size least (x2 ∷ xs) y ys apart.1 in
    record { left = (apart.0, more.left); border = more.border; right = more.right }

apart-joined : (size least : ℕ) (xs : List Part) (y : Part) (ys : List Part) → AreApart size least xs →
    LastApart size least xs y → AreApart size least (y ∷ ys) →
    AreApart size least (xs ++ (y ∷ ys))
apart-joined size least [] y ys left border right = right
apart-joined size least (x ∷ []) y ys left border right = (border, right)
apart-joined size least (x ∷ x2 ∷ xs) y ys left border right = (left.0, apart-joined size least (x2 ∷ xs) y ys left.1 border right)

-- where the next one is small the last is large, beside whatever comes
last-small : (size least : ℕ) (xs : List Part) (q z : Part) → LastApart size least xs q →
    is_small size least q ≡ true → LastApart size least xs z
last-small size least [] q z border small = tt
last-small size least (x ∷ []) q z border small =
    elim (and_cases (is_small size least x) (is_small size least q) border) [
      | inl large ↦ and_left (is_small size least x) (is_small size least z) large
      | inr other ↦ absurd (false≢true (sym other ∙ small))
    ]
last-small size least (x ∷ y ∷ xs) q z border small = last-small size least (y ∷ xs) q z border small

-- ---- entries

pub packed-apart : (size least : ℕ) (entries : List Pair) → Packed size least entries → AreApart size least (map Keep entries)
packed-apart size least [] packed = tt
packed-apart size least (p ∷ []) packed = tt
packed-apart size least (p ∷ q ∷ rest) packed = (
  elim packed.0 [
    | inl large ↦ and_left (is_small size least (Keep p)) (is_small size least (Keep q)) (le-ltb (page_count size p.bytes) least large)
    | inr large ↦ and_right (is_small size least (Keep p)) (is_small size least (Keep q)) (le-ltb (page_count size q.bytes) least large)
  ],
  packed-apart size least (q ∷ rest) packed.1,
)

pub apart-packed : (size least : ℕ) (entries : List Pair) → AreApart size least (map Keep entries) → Packed size least entries
apart-packed size least [] apart = tt
apart-packed size least (p ∷ []) apart = tt
apart-packed size least (p ∷ q ∷ rest) apart = (
  elim (and_cases (is_small size least (Keep p)) (is_small size least (Keep q)) apart.0) [
    | inl large ↦ inl (ltb-false (page_count size p.bytes) least large)
    | inr large ↦ inr (ltb-false (page_count size q.bytes) least large)
  ],
  apart-packed size least (q ∷ rest) apart.1,
)

-- ---- merged parts

-- they begin with the first part, or that is small
pack_from-first : (size least : ℕ) (part : Part) (rest : List Part) →
    (first : Part) × (tail : List Part) × (pack_from size least part rest ≡ first ∷ tail)
    × ((first ≡ part) ⊎ (is_small size least part ≡ true))
pack_from-first size least part [] = (part, [], refl, inl refl)
pack_from-first size least part (next ∷ rest) =
    elim (cases_Bool (is_small size least part && is_small size least next)) [
      | inr apart ↦ (part, pack_from size least next rest, pack_from-keeps size least part next rest apart, inl refl)
      | inl small ↦
          let some = pack_from-some size least (Make (part_bytes part + part_bytes next)) rest in
          let tests = and_parts (is_small size least part) (is_small size least next) small in
          (some.0, some.1, pack_from-merges size least part next rest small ∙ some.2, inr tests.0)
    ]

-- what may stand behind the last part may stand behind the merged ones
pack_from-last : (size least : ℕ) (part : Part) (mid : List Part) (q : Pair) (z : Part) → both size least (Keep q) z ≡ false →
    LastApart size least (pack_from size least part (mid ++ (Keep q ∷ []))) z
pack_from-last size least part [] q z apart =
    elim (cases_Bool (is_small size least part && is_small size least (Keep q))) [
      | inr kept ↦ subst (λ (xs : List Part). LastApart size least xs z) (sym (pack_from-keeps size least part (Keep q) [] kept)) apart
      | inl small ↦
          let tests = and_parts (is_small size least part) (is_small size least (Keep q)) small in
          let one : Part = Make (part_bytes part + part_bytes (Keep q)) in
          let large : is_small size least z ≡ false = elim (and_cases (is_small size least (Keep q)) (is_small size least z) apart) [
            | inl other ↦ absurd (false≢true (sym other ∙ tests.1))
            | inr is ↦ is
          ] in
          subst (λ (xs : List Part). LastApart size least xs z) (sym (pack_from-merges size least part (Keep q) [] small))
          (and_right (is_small size least one) (is_small size least z) large)
    ]
pack_from-last size least part (m ∷ mid) q z apart =
    elim (cases_Bool (is_small size least part && is_small size least m)) [
      | inl small ↦
          subst (λ (xs : List Part). LastApart size least xs z) (sym (pack_from-merges size least part m (mid ++ (Keep q ∷ [])) small))
          (pack_from-last size least (Make (part_bytes part + part_bytes m)) mid q z apart)
      | inr kept ↦
          let inner = pack_from-last size least m mid q z apart in
          let some = pack_from-some size least m (mid ++ (Keep q ∷ [])) in
          let moved : LastApart size least (part ∷ some.0 ∷ some.1) z =
          subst (λ (xs : List Part). LastApart size least xs z) some.2 inner in
          subst (λ (xs : List Part). LastApart size least xs z) (sym (pack_from-keeps size least part m (mid ++ (Keep q ∷ [])) kept))
          (subst (λ (xs : List Part). LastApart size least (part ∷ xs) z) (sym some.2) moved)
    ]

pack-last : (size least : ℕ) (pre : List Part) (q : Pair) (z : Part) → both size least (Keep q) z ≡ false →
    LastApart size least (pack size least (pre ++ (Keep q ∷ []))) z
pack-last size least [] q z apart = apart
pack-last size least (part ∷ mid) q z apart = pack_from-last size least part mid q z apart

-- the merged parts with the entries behind them
back-apart : (size least : ℕ) (pre : List Part) (q : Pair) (bs : List Pair) → AreApart size least (map Keep (q ∷ bs)) →
    AreApart size least (pack size least (pre ++ (Keep q ∷ [])) ++ map Keep bs)
back-apart size least pre q [] apart =
    subst (AreApart size least) (sym (append-nil (pack size least (pre ++ (Keep q ∷ []))))) (pack-apart size least (pre ++ (Keep q ∷ [])))
back-apart size least pre q (y ∷ bs) apart =
    apart-joined size least (pack size least (pre ++ (Keep q ∷ []))) (Keep y) (map Keep bs) (pack-apart size least (pre ++ (Keep q ∷ [])))
    (pack-last size least pre q (Keep y) apart.0) apart.1

-- and with those before them
front-apart : (size least : ℕ) (fs : List Pair) (p : Pair) (rest : List Part) (tail : List Part) →
    AreApart size least (map Keep fs) → LastApart size least (map Keep fs) (Keep p) →
    AreApart size least (pack_from size least (Keep p) rest ++ tail) →
    AreApart size least (map Keep fs ++ (pack_from size least (Keep p) rest ++ tail))
front-apart size least fs p rest tail left border right =
    let first = pack_from-first size least (Keep p) rest in
    let moved : AreApart size least (first.0 ∷ (first.1 ++ tail)) =
    subst (λ (xs : List Part). AreApart size least (xs ++ tail)) first.2 right in
    let near : LastApart size least (map Keep fs) first.0 = elim first.3 [
      | inl same ↦ subst (LastApart size least (map Keep fs)) (sym same) border
      | inr small ↦ last-small size least (map Keep fs) (Keep p) first.0 border small
    ] in
    subst (λ (xs : List Part). AreApart size least (map Keep fs ++ (xs ++ tail))) (sym first.2)
    (apart-joined size least (map Keep fs) first.0 (first.1 ++ tail) left near moved)

-- all parts in the plan of a change
pub plan-apart : (size least most spare : ℕ) (entries : List Pair) (change : Change) → HaveBytes entries → Packed size least entries →
    AreApart size least (all_parts entries (plan_packed size entries spare change
    (pack size least (parts_of size most entries change.at change.removed change.added))))
plan-apart size least most spare entries change have packed =
    let a = change.at in
    let e = change.at + change.removed in
    let before = one_before a entries in
    let after = one_after e entries in
    let left = left_of a entries in
    let right = right_of size e entries in
    let made = map Make (pieces most (change.added + head_of size e entries)) in
    let window = parts_of size most entries a change.removed change.added in
    let fs = outer_front a entries in
    let bs = outer_back e entries in
    let old = packed-apart size least entries packed in
    let behind : AreApart size least (pack size least window ++ map Keep bs) = elim (first_of_list (drop (count_begun e entries) entries)) [
      | inl none ↦
          let all : count_begun e entries + length after ≡ count_begun e entries = omega (arith, ap length none.1) in
          let nothing : bs ≡ [] = ap (λ (k : ℕ). drop k entries) all ∙ none.0 in
          subst (λ (xs : List Pair). AreApart size least (pack size least window ++ map Keep xs)) (sym nothing)
          (subst (AreApart size least) (sym (append-nil (pack size least window))) (pack-apart size least window))
      | inr one ↦
          let q = one.0 in
          let pre = map Keep (before ++ left) ++ (made ++ map Keep right) in
          let whole : entries ≡ take (count_begun e entries) entries ++ (q ∷ bs) =
          sym (take-append-drop (count_begun e entries) entries)
          ∙ (ap (λ (xs : List Pair). take (count_begun e entries) entries ++ xs) (sym (outer_back-is e entries))
          ∙ ap (λ (xs : List Pair). take (count_begun e entries) entries ++ (xs ++ bs)) one.3) in
          let parts : AreApart size least (map Keep (take (count_begun e entries) entries) ++ (Keep q ∷ map Keep bs)) =
          subst (AreApart size least) (map-append Keep (take (count_begun e entries) entries) (q ∷ bs))
          (subst (λ (xs : List Pair). AreApart size least (map Keep xs)) whole old) in
          let split = apart-split size least (map Keep (take (count_begun e entries) entries)) (Keep q) (map Keep bs) parts in
          let ends_at : map Keep (right ++ after) ≡ map Keep right ++ (Keep q ∷ []) = map-append Keep right after
          ∙ ap (λ (xs : List Pair). map Keep right ++ map Keep xs) one.3 in
          let window_is : window ≡ pre ++ (Keep q ∷ []) =
          ap (λ (xs : List Part). map Keep (before ++ left) ++ (made ++ xs)) ends_at
          ∙ (ap (λ (xs : List Part). map Keep (before ++ left) ++ xs) (sym (append_assoc made (map Keep right) (Keep q ∷ [])))
          ∙ sym (append_assoc (map Keep (before ++ left)) (made ++ map Keep right) (Keep q ∷ []))) in
          subst (λ (w : List Part). AreApart size least (pack size least w ++ map Keep bs)) (sym window_is)
          (back-apart size least pre q bs split.right)
    ] in
    let whole : AreApart size least (map Keep fs ++ (pack size least window ++ map Keep bs)) =
    elim (last_of (count_ended a entries) entries (count_ended-within_list a entries)) [
      | inl none ↦
          let first : count_ended a entries - length before ≡ 0 = omega (arith, none.0) in
          let nothing : fs ≡ [] = ap (λ (k : ℕ). take k entries) first in
          subst (λ (xs : List Pair). AreApart size least (map Keep xs ++ (pack size least window ++ map Keep bs))) (sym nothing) behind
      | inr one ↦
          let p = one.0 in
          let whole : entries ≡ fs ++ (p ∷ drop (count_ended a entries) entries) =
          sym (take-append-drop (count_ended a entries) entries)
          ∙ (ap (λ (xs : List Pair). xs ++ drop (count_ended a entries) entries) (sym (outer_front-is a entries))
          ∙ (append_assoc fs before (drop (count_ended a entries) entries)
          ∙ ap (λ (xs : List Pair). fs ++ (xs ++ drop (count_ended a entries) entries)) one.2)) in
          let parts : AreApart size least (map Keep fs ++ (Keep p ∷ map Keep (drop (count_ended a entries) entries))) =
          subst (AreApart size least) (map-append Keep fs (p ∷ drop (count_ended a entries) entries))
          (subst (λ (xs : List Pair). AreApart size least (map Keep xs)) whole old) in
          let split = apart-split size least (map Keep fs) (Keep p) (map Keep (drop (count_ended a entries) entries)) parts in
          let rest = map Keep left ++ (made ++ map Keep (right ++ after)) in
          let window_is : window ≡ Keep p ∷ rest =
          ap (λ (xs : List Pair). map Keep (xs ++ left) ++ (made ++ map Keep (right ++ after))) one.2 in
          let moved : AreApart size least (pack_from size least (Keep p) rest ++ map Keep bs) =
          subst (λ (w : List Part). AreApart size least (pack size least w ++ map Keep bs)) window_is behind in
          subst (λ (w : List Part). AreApart size least (map Keep fs ++ (pack size least w ++ map Keep bs))) (sym window_is)
          (front-apart size least fs p rest (map Keep bs) split.left split.border moved)
    ] in
    subst (AreApart size least) (sym (plan-whole size least most entries spare change have)) whole
