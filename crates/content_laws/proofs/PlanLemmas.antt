-- The whole list of parts in a plan: the merged parts, between the entries that stand before and behind them.
use Rattle.std.proofs.Common.{◌≡◌, ℕ, zero, suc, ◌+◌, ◌-◌, ◌<◌, ◌≤◌, Bool, true, false, ◌&&◌, List, [], ◌∷◌, ◌++◌}
use Rattle.std.proofs.Common.{length, map, take, drop, refl, sym, ap, subst, arith, ◌∙◌, ◌⊎◌, inl, inr}
use Rattle.std.proofs.Common.{append_assoc, length-append}
use Rattle.std.proofs.lemmas.Bool.{cases_Bool, false≢true}
use Rattle.std.proofs.lemmas.List.{append-nil, map-append, length-map, take-append-drop, take-take, drop-drop, take_at, drop_at}
use Rattle.tree_model.specs.declared.entry.Pair.{Pair}
use Rattle.layout_model.specs.declared.part.Part.{Part}
use Rattle.layout_model.specs.declared.part.Part.TheVariants.{Keep, Make}
use Rattle.layout_model.specs.declared.change.Change.{Change}
use Rattle.layout_model.specs.Parts.{part_bytes, count_ended, count_begun, one_before, one_after, left_of, head_of}
use Rattle.layout_model.specs.Parts.{right_of, pieces, parts_of}
use Rattle.layout_model.specs.Pack.{is_small, pack_from, pack}
use Rattle.layout_model.specs.Plan.{begins_kept, ends_kept, merged_one, plan_packed}
use Rattle.content_laws.specs.Spelling.{HaveBytes, all_parts}
use Rattle.layout_laws.proofs.MergingLemmas.{pack_from-merges, pack_from-keeps}
use Rattle.content_laws.proofs.SideLemmas.{front, back, front-is, back-is, count_ended-count_begun, count_ended-within_list}

-- ---- how merged parts begin and end

-- a list of merged parts that begins with a kept one begins with the first part
pub pack_from-begins : (size least : ℕ) (part : Part) (rest : List Part) → begins_kept (pack_from size least part rest) ≡ true →
    (tail : List Part) × (pack_from size least part rest ≡ part ∷ tail)
pack_from-begins size least part [] kept = ([], refl)
pack_from-begins size least part (next ∷ rest) kept =
    elim (cases_Bool (is_small size least part && is_small size least next)) [
      | inr apart ↦ (pack_from size least next rest, pack_from-keeps size least part next rest apart)
      | inl both ↦
          let one : Part = Make (part_bytes part + part_bytes next) in
          let step = pack_from-merges size least part next rest both in
          let still : begins_kept (pack_from size least one rest) ≡ true = sym (ap begins_kept step) ∙ kept in
          let more = pack_from-begins size least one rest still in
          let made : begins_kept (pack_from size least one rest) ≡ false = ap begins_kept more.1 in
          absurd (false≢true (sym made ∙ still))
    ]

-- it isn't empty
pub pack_from-some : (size least : ℕ) (part : Part) (rest : List Part) → (first : Part) × (tail : List Part)
    × (pack_from size least part rest ≡ first ∷ tail)
pack_from-some size least part [] = (part, [], refl)
pack_from-some size least part (next ∷ rest) =
    elim (cases_Bool (is_small size least part && is_small size least next)) [
      | inr apart ↦ (part, pack_from size least next rest, pack_from-keeps size least part next rest apart)
      | inl both ↦
          let more = pack_from-some size least (Make (part_bytes part + part_bytes next)) rest in
          (more.0, more.1, pack_from-merges size least part next rest both ∙ more.2)
    ]

-- and one that ends with a kept part ends with the last part
pub pack_from-ends : (size least : ℕ) (part : Part) (mid : List Part) (q : Pair) →
    ends_kept (pack_from size least part (mid ++ (Keep q ∷ []))) ≡ true →
    (init : List Part) × (0 < length init) × (pack_from size least part (mid ++ (Keep q ∷ [])) ≡ init ++ (Keep q ∷ []))
pack_from-ends size least part [] q kept =
    elim (cases_Bool (is_small size least part && is_small size least (Keep q))) [
      | inr apart ↦ let some : 0 < 1 = omega arith in (part ∷ [], some, pack_from-keeps size least part (Keep q) [] apart)
      | inl both ↦
          let made : ends_kept (pack_from size least part (Keep q ∷ [])) ≡ false =
          ap ends_kept (pack_from-merges size least part (Keep q) [] both) in
          absurd (false≢true (sym made ∙ kept))
    ]
pack_from-ends size least part (m ∷ mid) q kept =
    elim (cases_Bool (is_small size least part && is_small size least m)) [
      | inl both ↦
          let one : Part = Make (part_bytes part + part_bytes m) in
          let step = pack_from-merges size least part m (mid ++ (Keep q ∷ [])) both in
          let more = pack_from-ends size least one mid q (sym (ap ends_kept step) ∙ kept) in
          (more.0, more.1, step ∙ more.2)
      | inr apart ↦
          let step = pack_from-keeps size least part m (mid ++ (Keep q ∷ [])) apart in
          let some = pack_from-some size least m (mid ++ (Keep q ∷ [])) in
          let inner : ends_kept (part ∷ pack_from size least m (mid ++ (Keep q ∷ [])))
          ≡ ends_kept (pack_from size least m (mid ++ (Keep q ∷ []))) =
          ap (λ (xs : List Part). ends_kept (part ∷ xs)) some.2 ∙ sym (ap ends_kept some.2) in
          let more = pack_from-ends size least m mid q (sym inner ∙ (sym (ap ends_kept step) ∙ kept)) in
          let long : 0 < suc (length more.0) = omega arith in
          (part ∷ more.0, long, step ∙ ap (λ (xs : List Part). part ∷ xs) more.2)
    ]

-- ---- the one before and the one after

-- the last of the first k items is one, where there is any
pub last_of : {X : Type 0} (k : ℕ) (xs : List X) → k ≤ length xs → ((k ≡ 0) × (drop (k - 1) (take k xs) ≡ []))
    ⊎ ((x : X) × (0 < k) × (drop (k - 1) (take k xs) ≡ x ∷ []))
last_of zero xs within = inl (refl, refl)
last_of (suc k) [] within = let none : suc k ≤ 0 = within in absurd (omega (arith, none))
last_of (suc zero) (x ∷ xs) within = let some : 0 < 1 = omega arith in inr (x, some, refl)
last_of (suc (suc k)) (x ∷ xs) within =
    let long : suc (suc k) ≤ suc (length xs) = within in
    let step : suc (suc k) - 1 ≡ suc (suc k - 1) = omega arith in
    let inner : drop (suc (suc k) - 1) (take (suc (suc k)) (x ∷ xs)) ≡ drop (suc k - 1) (take (suc k) xs) =
    ap (λ (j : ℕ). drop j (x ∷ take (suc k) xs)) step in
    let some : 0 < suc (suc k) = omega arith in
    elim (last_of (suc k) xs (omega (arith, long))) [
      | inl none ↦ let no : suc k ≡ 0 = none.0 in absurd (omega (arith, no))
      | inr one ↦ inr (one.0, some, inner ∙ one.2)
    ]

pub one_before-cases : (at : ℕ) (entries : List Pair) →
    (one_before at entries ≡ []) ⊎ ((p : Pair) × (0 < count_ended at entries) × (one_before at entries ≡ p ∷ []))
one_before-cases at entries =
    elim (last_of (count_ended at entries) entries (count_ended-within_list at entries)) [
      | inl none ↦ inl none.1
      | inr one ↦ inr one
    ]

pub first_of_list : {X : Type 0} (xs : List X) → ((xs ≡ []) × (take 1 xs ≡ []))
    ⊎ ((x : X) × (rest : List X) × (xs ≡ x ∷ rest) × (take 1 xs ≡ x ∷ []))
first_of_list [] = inl (refl, refl)
first_of_list (x ∷ xs) = inr (x, xs, refl, refl)

pub one_after-cases : (at : ℕ) (entries : List Pair) → (one_after at entries ≡ []) ⊎ ((p : Pair) × (one_after at entries ≡ p ∷ []))
one_after-cases at entries =
    elim (first_of_list (drop (count_begun at entries) entries)) [
      | inl none ↦ inl none.1
      | inr one ↦ inr (one.0, one.3)
    ]

-- the entries before the one before, and those behind the one after
abbrev pub outer_front : ℕ → List Pair → List Pair
outer_front at entries = take (count_ended at entries - length (one_before at entries)) entries

abbrev pub outer_back : ℕ → List Pair → List Pair
outer_back at entries = drop (count_begun at entries + length (one_after at entries)) entries

pub outer_front-is : (at : ℕ) (entries : List Pair) →
    outer_front at entries ++ one_before at entries ≡ take (count_ended at entries) entries
outer_front-is at entries =
    let k = count_ended at entries in
    let P : List Pair → Type 0 = λ b. take (k - length b) entries ++ b ≡ take k entries in
    elim (one_before-cases at entries) [
      | inl none ↦
          let all : k - 0 ≡ k = omega arith in
          subst P (sym none) (append-nil (take (k - 0) entries) ∙ ap (λ (j : ℕ). take j entries) all)
      | inr one ↦
          let short : k - 1 ≤ k = omega arith in
          let whole : take (k - 1) entries ++ one_before at entries ≡ take k entries =
          ap (λ (xs : List Pair). xs ++ one_before at entries) (sym (take-take (k - 1) k entries short))
          ∙ take-append-drop (k - 1) (take k entries) in
          let Q : List Pair → Type 0 = λ b. take (k - 1) entries ++ b ≡ take k entries in
          subst P (sym one.2) (subst Q one.2 whole)
    ]

pub outer_back-is : (at : ℕ) (entries : List Pair) → one_after at entries ++ outer_back at entries ≡ drop (count_begun at entries) entries
outer_back-is at entries =
    let j = count_begun at entries in
    let P : List Pair → Type 0 = λ b. b ++ drop (j + length b) entries ≡ drop j entries in
    elim (first_of_list (drop j entries)) [
      | inl none ↦
          let all : j + 0 ≡ j = omega arith in
          subst P (sym none.1) (ap (λ (k : ℕ). drop k entries) all)
      | inr one ↦
          let whole : take 1 (drop j entries) ++ drop (j + 1) entries ≡ drop j entries =
          ap (λ (xs : List Pair). take 1 (drop j entries) ++ xs) (sym (drop-drop 1 j entries)) ∙ take-append-drop 1 (drop j entries) in
          let Q : List Pair → Type 0 = λ b. b ++ drop (j + 1) entries ≡ drop j entries in
          subst P (sym one.3) (subst Q one.3 whole)
    ]

-- ---- what a plan leaves out

-- the entries here that weren't merged
abbrev pub kept : List Pair → Bool → List Pair
kept xs true = xs
kept xs false = []

-- merged parts with the ones at both ends apart
pub record Cut (before after : List Pair) (packed : List Part) : Type 0 where
  pub mid : List Part
  pub whole : packed ≡ map Keep (kept before (begins_kept packed)) ++ (mid ++ map Keep (kept after (ends_kept packed)))

-- a list that begins with one item and ends with another has them at its ends
both_ends : (p q : Part) (tail init packed : List Part) → 0 < length init → packed ≡ p ∷ tail → packed ≡ init ++ (q ∷ []) →
    (mid : List Part) × (packed ≡ p ∷ (mid ++ (q ∷ [])))
both_ends p q tail [] packed some begins ends = let none : 0 < 0 = some in absurd (omega (arith, none))
both_ends p q tail (i ∷ init) packed some begins ends =
    let same : p ∷ tail ≡ i ∷ (init ++ (q ∷ [])) = sym begins ∙ ends in
    let first : p ≡ i = cc in
    (init, ends ∙ ap (λ (x : Part). x ∷ (init ++ (q ∷ []))) (sym first))

pub cut-is : (before after : List Pair) (packed : List Part) → (length before ≤ 1) → (length after ≤ 1) →
    ((p : Pair) → before ≡ p ∷ [] → begins_kept packed ≡ true → (tail : List Part) × (packed ≡ Keep p ∷ tail)) →
    ((q : Pair) → after ≡ q ∷ [] → ends_kept packed ≡ true → (init : List Part) × (length before ≤ length init)
    × (packed ≡ init ++ (Keep q ∷ []))) →
    Cut before after packed
cut-is (p ∷ p2 ∷ ps) after packed few few2 begins ends = let many : suc (suc (length ps)) ≤ 1 = few in absurd (omega (arith, many))
cut-is [] (q ∷ q2 ∷ qs) packed few few2 begins ends = let many : suc (suc (length qs)) ≤ 1 = few2 in absurd (omega (arith, many))
cut-is (p ∷ []) (q ∷ q2 ∷ qs) packed few few2 begins ends = let many : suc (suc (length qs)) ≤ 1 = few2 in absurd (omega (arith, many))
cut-is [] [] packed few few2 begins ends =
    let none : (b : Bool) → kept [] b ≡ [] = λ b. elim b as (λ v. kept [] v ≡ []) [ true ↦ refl | false ↦ refl ] in
    record {
      mid = packed;
      whole = sym (append-nil packed)
          ∙ (ap (λ (xs : List Pair). packed ++ map Keep xs) (sym (none (ends_kept packed)))
          ∙ ap (λ (xs : List Pair). map Keep xs ++ (packed ++ map Keep (kept [] (ends_kept packed)))) (sym (none (begins_kept packed))));
    }
cut-is (p ∷ []) [] packed few few2 begins ends =
    let none : (b : Bool) → kept [] b ≡ [] = λ b. elim b as (λ v. kept [] v ≡ []) [ true ↦ refl | false ↦ refl ] in
    elim (cases_Bool (begins_kept packed)) [
      | inl yes_kept ↦
          let tail = begins p refl yes_kept in
          record {
            mid = tail.0;
            whole = tail.1 ∙ (ap (λ (xs : List Part). Keep p ∷ xs) (sym (append-nil tail.0))
                ∙ (ap (λ (xs : List Pair). Keep p ∷ (tail.0 ++ map Keep xs)) (sym (none (ends_kept packed)))
                ∙ ap (λ (b : Bool). map Keep (kept (p ∷ []) b) ++ (tail.0 ++ map Keep (kept [] (ends_kept packed)))) (sym yes_kept)));
          }
      | inr merged ↦ record {
        mid = packed;
        whole = sym (append-nil packed)
            ∙ (ap (λ (xs : List Pair). packed ++ map Keep xs) (sym (none (ends_kept packed)))
            ∙ ap (λ (b : Bool). map Keep (kept (p ∷ []) b) ++ (packed ++ map Keep (kept [] (ends_kept packed)))) (sym merged));
      }
    ]
cut-is [] (q ∷ []) packed few few2 begins ends =
    let none : (b : Bool) → kept [] b ≡ [] = λ b. elim b as (λ v. kept [] v ≡ []) [ true ↦ refl | false ↦ refl ] in
    elim (cases_Bool (ends_kept packed)) [
      | inl yes_kept ↦
          let init = ends q refl yes_kept in
          record {
            mid = init.0;
            whole = init.2
                ∙ (ap (λ (b : Bool). init.0 ++ map Keep (kept (q ∷ []) b)) (sym yes_kept)
                ∙ ap (λ (xs : List Pair). map Keep xs ++ (init.0 ++ map Keep (kept (q ∷ []) (ends_kept packed))))
                (sym (none (begins_kept packed))));
          }
      | inr merged ↦ record {
        mid = packed;
        whole = sym (append-nil packed)
            ∙ (ap (λ (b : Bool). packed ++ map Keep (kept (q ∷ []) b)) (sym merged)
            ∙ ap (λ (xs : List Pair). map Keep xs ++ (packed ++ map Keep (kept (q ∷ []) (ends_kept packed))))
            (sym (none (begins_kept packed))));
      }
    ]
cut-is (p ∷ []) (q ∷ []) packed few few2 begins ends =
    elim (cases_Bool (begins_kept packed)) [
      | inl yes_kept ↦
          elim (cases_Bool (ends_kept packed)) [
            | inl also_kept ↦
                let tail = begins p refl yes_kept in
                let init = ends q refl also_kept in
                let some : 1 ≤ length init.0 = init.1 in
                let both = both_ends (Keep p) (Keep q) tail.0 init.0 packed (omega (arith, some)) tail.1 init.2 in
                record {
                  mid = both.0;
                  whole = both.1
                      ∙ (ap (λ (b : Bool). Keep p ∷ (both.0 ++ map Keep (kept (q ∷ []) b))) (sym also_kept)
                      ∙ ap (λ (b : Bool). map Keep (kept (p ∷ []) b)
                      ++ (both.0 ++ map Keep (kept (q ∷ []) (ends_kept packed)))) (sym yes_kept));
                }
            | inr merged ↦
                let tail = begins p refl yes_kept in
                record {
                  mid = tail.0;
                  whole = tail.1 ∙ (ap (λ (xs : List Part). Keep p ∷ xs) (sym (append-nil tail.0))
                      ∙ (ap (λ (b : Bool). Keep p ∷ (tail.0 ++ map Keep (kept (q ∷ []) b))) (sym merged)
                      ∙ ap (λ (b : Bool). map Keep (kept (p ∷ []) b)
                      ++ (tail.0 ++ map Keep (kept (q ∷ []) (ends_kept packed)))) (sym yes_kept)));
                }
          ]
      | inr merged ↦
          elim (cases_Bool (ends_kept packed)) [
            | inl also_kept ↦
                let init = ends q refl also_kept in
                record {
                  mid = init.0;
                  whole = init.2
                      ∙ (ap (λ (b : Bool). init.0 ++ map Keep (kept (q ∷ []) b)) (sym also_kept)
                      ∙ ap (λ (b : Bool). map Keep (kept (p ∷ []) b)
                      ++ (init.0 ++ map Keep (kept (q ∷ []) (ends_kept packed)))) (sym merged));
                }
            | inr also_merged ↦ record {
              mid = packed;
              whole = sym (append-nil packed)
                  ∙ (ap (λ (b : Bool). packed ++ map Keep (kept (q ∷ []) b)) (sym also_merged)
                  ∙ ap (λ (b : Bool). map Keep (kept (p ∷ []) b) ++ (packed ++ map Keep (kept (q ∷ []) (ends_kept packed)))) (sym merged));
            }
          ]
    ]

-- the numbers that a plan leaves out
kept-count : (xs : List Pair) (b : Bool) → length xs ≤ 1 → length (kept xs b) ≡ length xs - merged_one xs b
kept-count [] true few = refl
kept-count [] false few = refl
kept-count (x ∷ xs) true few = let all : suc (length xs) ≡ suc (length xs) - 0 = omega arith in all
kept-count (x ∷ xs) false few = let many : suc (length xs) ≤ 1 = few in let none : 0 ≡ suc (length xs) - 1 = omega (arith, many) in none

kept-front : (xs outer all : List Pair) (b : Bool) (entries : List Pair) (k : ℕ) → length xs ≤ k → length xs ≤ 1 →
    outer ≡ take (k - length xs) entries → outer ++ xs ≡ take k entries →
    take (k - merged_one xs b) entries ≡ outer ++ kept xs b
kept-front [] outer all true entries k fits few outer_is whole = let same : k - 0 ≡ k = omega arith in
    ap (λ (j : ℕ). take j entries) same ∙ sym whole
kept-front [] outer all false entries k fits few outer_is whole = let same : k - 0 ≡ k = omega arith in
    ap (λ (j : ℕ). take j entries) same ∙ sym whole
kept-front (x ∷ xs) outer all true entries k fits few outer_is whole = let same : k - 0 ≡ k = omega arith in
    ap (λ (j : ℕ). take j entries) same ∙ sym whole
kept-front (x ∷ xs) outer all false entries k fits few outer_is whole =
    let many : suc (length xs) ≤ 1 = few in
    let same : k - 1 ≡ k - suc (length xs) = omega (arith, many) in
    ap (λ (j : ℕ). take j entries) same ∙ (sym outer_is ∙ sym (append-nil outer))

kept-back : (xs outer : List Pair) (b : Bool) (entries : List Pair) (k : ℕ) → length xs ≤ 1 →
    outer ≡ drop (k + length xs) entries → xs ++ outer ≡ drop k entries →
    drop (k + merged_one xs b) entries ≡ kept xs b ++ outer
kept-back [] outer true entries k few outer_is whole = let same : k + 0 ≡ k = omega arith in ap (λ (j : ℕ). drop j entries) same ∙ sym whole
kept-back [] outer false entries k few outer_is whole = let same : k + 0 ≡ k = omega arith in
    ap (λ (j : ℕ). drop j entries) same ∙ sym whole
kept-back (x ∷ xs) outer true entries k few outer_is whole = let same : k + 0 ≡ k = omega arith in
    ap (λ (j : ℕ). drop j entries) same ∙ sym whole
kept-back (x ∷ xs) outer false entries k few outer_is whole =
    let many : suc (length xs) ≤ 1 = few in
    let same : k + 1 ≡ k + suc (length xs) = omega (arith, many) in
    ap (λ (j : ℕ). drop j entries) same ∙ sym outer_is

pub merged-few : (xs : List Pair) (b : Bool) → merged_one xs b ≤ length xs
merged-few [] b = let none : 0 ≤ 0 = omega arith in none
merged-few (x ∷ xs) true = let some : 0 ≤ suc (length xs) = omega arith in some
merged-few (x ∷ xs) false = let some : 1 ≤ suc (length xs) = omega arith in some

-- taking out what stands at both ends
inner : {X : Type 0} (kb mid ka packed : List X) (i j : ℕ) → packed ≡ kb ++ (mid ++ ka) → length kb ≡ i → length ka ≡ j →
    take (length packed - (i + j)) (drop i packed) ≡ mid
inner kb mid ka packed i j whole front_is back_is =
    let long : length packed ≡ length kb + (length mid + length ka) =
    ap length whole ∙ (length-append kb (mid ++ ka) ∙ ap (λ (n : ℕ). length kb + n) (length-append mid ka)) in
    let count : length packed - (i + j) ≡ length mid = omega (arith, long, front_is, back_is) in
    let behind : drop i packed ≡ mid ++ ka = ap (drop i) whole ∙ drop_at kb (mid ++ ka) i front_is in
    ap (λ (n : ℕ). take n (drop i packed)) count ∙ (ap (take (length mid)) behind ∙ take_at mid ka (length mid) refl)

-- pieces of a list put together again
joined-again : (fs kb ka bs : List Pair) (mid packed : List Part) → packed ≡ map Keep kb ++ (mid ++ map Keep ka) →
    map Keep (fs ++ kb) ++ (mid ++ map Keep (ka ++ bs)) ≡ map Keep fs ++ (packed ++ map Keep bs)
joined-again fs kb ka bs mid packed whole =
    let f : List Pair → List Part = map Keep in
    let left : f (fs ++ kb) ++ (mid ++ f (ka ++ bs)) ≡ (f fs ++ f kb) ++ (mid ++ (f ka ++ f bs)) =
    ap (λ (xs : List Part). xs ++ (mid ++ f (ka ++ bs))) (map-append Keep fs kb)
    ∙ ap (λ (xs : List Part). (f fs ++ f kb) ++ (mid ++ xs)) (map-append Keep ka bs) in
    let right : f fs ++ (packed ++ f bs) ≡ f fs ++ ((f kb ++ (mid ++ f ka)) ++ f bs) =
    ap (λ (xs : List Part). f fs ++ (xs ++ f bs)) whole in
    let same : (f fs ++ f kb) ++ (mid ++ (f ka ++ f bs)) ≡ f fs ++ ((f kb ++ (mid ++ f ka)) ++ f bs) = simp append_assoc in
    left ∙ (same ∙ sym right)

-- the whole list of parts in a plan
pub plan_packed-whole : (size : ℕ) (entries : List Pair) (spare : ℕ) (change : Change) (packed : List Part) → HaveBytes entries →
    ((p : Pair) → one_before change.at entries ≡ p ∷ [] → begins_kept packed ≡ true → (tail : List Part) × (packed ≡ Keep p ∷ tail)) →
    ((q : Pair) → one_after (change.at + change.removed) entries ≡ q ∷ [] → ends_kept packed ≡ true →
    (init : List Part) × (length (one_before change.at entries) ≤ length init) × (packed ≡ init ++ (Keep q ∷ []))) →
    all_parts entries (plan_packed size entries spare change packed)
    ≡ map Keep (outer_front change.at entries) ++ (packed ++ map Keep (outer_back (change.at + change.removed) entries))
plan_packed-whole size entries spare change packed have begins ends =
    let a = change.at in
    let e = change.at + change.removed in
    let before = one_before a entries in
    let after = one_after e entries in
    let few : length before ≤ 1 = elim (one_before-cases a entries) [
      | inl none ↦ let short = ap length none in omega (arith, short)
      | inr one ↦ let short = ap length one.2 in omega (arith, short)
    ] in
    let fits : length before ≤ count_ended a entries = elim (one_before-cases a entries) [
      | inl none ↦ let short = ap length none in omega (arith, short)
      | inr one ↦ let short = ap length one.2 in let some = one.1 in omega (arith, short, some)
    ] in
    let few2 : length after ≤ 1 = elim (one_after-cases e entries) [
      | inl none ↦ let short = ap length none in omega (arith, short)
      | inr one ↦ let short = ap length one.1 in omega (arith, short)
    ] in
    let cut = cut-is before after packed few few2 begins ends in
    let b1 = begins_kept packed in
    let b2 = ends_kept packed in
    let from = count_ended a entries - merged_one before b1 in
    let to = count_begun e entries + merged_one after b2 in
    let forward : count_ended a entries ≤ count_begun e entries = count_ended-count_begun a e entries (omega arith) have in
    let reach : from + (to - from) ≡ to = omega (arith, forward) in
    let fronts : take from entries ≡ outer_front a entries ++ kept before b1 =
    kept-front before (outer_front a entries) entries b1 entries (count_ended a entries) fits few refl (outer_front-is a entries) in
    let backs : drop (from + (to - from)) entries ≡ kept after b2 ++ outer_back e entries =
    ap (λ (k : ℕ). drop k entries) reach ∙ kept-back after (outer_back e entries) b2 entries (count_begun e entries)
    few2 refl (outer_back-is e entries) in
    let count1 : length (map Keep (kept before b1)) ≡ length before - merged_one before b1 =
    length-map (kept before b1) Keep ∙ kept-count before b1 few in
    let count2 : length (map Keep (kept after b2)) ≡ length after - merged_one after b2 =
    length-map (kept after b2) Keep ∙ kept-count after b2 few2 in
    let parts : take (length packed - ((length before - merged_one before b1) + (length after - merged_one after
    b2))) (drop (length before - merged_one before b1) packed) ≡ cut.mid =
    inner (map Keep (kept before b1)) cut.mid (map Keep (kept after b2)) packed
    (length before - merged_one before b1) (length after - merged_one after b2) cut.whole count1 count2 in
    ap (λ (xs : List Pair). map Keep xs ++ (take
    (length packed - ((length before - merged_one before b1) + (length after - merged_one after b2)))
    (drop (length before - merged_one before b1) packed)
    ++ map Keep (drop (from + (to - from)) entries))) fronts
    ∙ (ap (λ (xs : List Part). map Keep (outer_front a entries ++ kept before b1)
    ++ (xs ++ map Keep (drop (from + (to - from)) entries))) parts
    ∙ (ap (λ (xs : List Pair). map Keep (outer_front a entries ++ kept before b1) ++ (cut.mid ++ map Keep xs)) backs
    ∙ joined-again (outer_front a entries) (kept before b1) (kept after b2) (outer_back e entries) cut.mid packed cut.whole))

-- ---- the merged window

-- a window of parts that begins with an entry
window-begins : (size least : ℕ) (before left : List Pair) (rest : List Part) (p : Pair) → before ≡ p ∷ [] →
    begins_kept (pack size least (map Keep (before ++ left) ++ rest)) ≡ true → (tail : List Part)
    × (pack size least (map Keep (before ++ left) ++ rest) ≡ Keep p ∷ tail)
window-begins size least before left rest p is =
    let P : List Pair → Type 0 = λ b. begins_kept (pack size least (map Keep (b ++ left) ++ rest)) ≡ true →
    (tail : List Part) × (pack size least (map Keep (b ++ left) ++ rest) ≡ Keep p ∷ tail) in
    subst P (sym is) (pack_from-begins size least (Keep p) (map Keep left ++ rest))

-- and one that ends with an entry
window-ends : (size least bound : ℕ) (pre : List Part) (q : Pair) → bound ≤ length pre → bound ≤ 1 →
    ends_kept (pack size least (pre ++ (Keep q ∷ []))) ≡ true →
    (init : List Part) × (bound ≤ length init) × (pack size least (pre ++ (Keep q ∷ [])) ≡ init ++ (Keep q ∷ []))
window-ends size least bound [] q fits one kept = ([], fits, refl)
window-ends size least bound (part ∷ mid) q fits one kept =
    let ends = pack_from-ends size least part mid q kept in
    let some = ends.1 in
    let long : bound ≤ length ends.0 = omega (arith, some, one) in
    (ends.0, long, ends.2)

-- the whole list of parts in the plan of a change whose parts are merged
pub plan-whole : (size least most : ℕ) (entries : List Pair) (spare : ℕ) (change : Change) → HaveBytes entries →
    all_parts entries (plan_packed size entries spare change
    (pack size least (parts_of size most entries change.at change.removed change.added)))
    ≡ map Keep (outer_front change.at entries) ++ (pack size least (parts_of size most entries change.at change.removed change.added)
    ++ map Keep (outer_back (change.at + change.removed) entries))
plan-whole size least most entries spare change have =
    let a = change.at in
    let e = change.at + change.removed in
    let made = map Make (pieces most (change.added + head_of size e entries)) in
    let before = one_before a entries in
    let after = one_after e entries in
    let right = right_of size e entries in
    let pre = map Keep (before ++ left_of a entries) ++ (made ++ map Keep right) in
    plan_packed-whole size entries spare change (pack size least (parts_of size most entries a change.removed change.added)) have
    (λ p is. window-begins size least before (left_of a entries) (made ++ map Keep (right ++ after)) p is)
    (λ q is kept.
    let few : length before ≤ 1 = elim (one_before-cases a entries) [
      | inl none ↦ let short = ap length none in omega (arith, short)
      | inr one ↦ let short = ap length one.2 in omega (arith, short)
    ] in
    let long : length before ≤ length pre =
    let whole = length-append (map Keep (before ++ left_of a entries)) (made ++ map Keep right) in
    let fronts = length-map (before ++ left_of a entries) Keep in
    let sides = length-append before (left_of a entries) in
    omega (arith, whole, fronts, sides) in
    let ends_at : map Keep (right ++ after) ≡ map Keep right ++ (Keep q ∷ []) = map-append Keep right after
    ∙ ap (λ (xs : List Pair). map Keep right ++ map Keep xs) is in
    let window : parts_of size most entries a change.removed change.added ≡ pre ++ (Keep q ∷ []) =
    ap (λ (xs : List Part). map Keep (before ++ left_of a entries) ++ (made ++ xs)) ends_at
    ∙ (ap (λ (xs : List Part). map Keep (before ++ left_of a entries) ++ xs) (sym (append_assoc made (map Keep right) (Keep q ∷ [])))
    ∙ sym (append_assoc (map Keep (before ++ left_of a entries)) (made ++ map Keep right) (Keep q ∷ []))) in
    let P : List Part → Type 0 = λ w. (init : List Part) × (length before ≤ length init) × (pack size least w ≡ init ++ (Keep q ∷ [])) in
    subst P (sym window) (window-ends size least (length before) pre q long few
    (sym (ap (λ w. ends_kept (pack size least w)) window) ∙ kept)))

-- before it is merged the whole list is the two sides with the pieces between them
pub window-whole : (size most : ℕ) (entries : List Pair) (at removed added : ℕ) → HaveBytes entries →
    map Keep (outer_front at entries) ++ (parts_of size most entries at removed added ++ map Keep (outer_back (at + removed) entries))
    ≡ map Keep (front at entries) ++ (map Make (pieces most (added + head_of size (at + removed) entries))
    ++ map Keep (back size (at + removed) entries))
window-whole size most entries at removed added have =
    let e = at + removed in
    let f : List Pair → List Part = map Keep in
    let made = map Make (pieces most (added + head_of size e entries)) in
    let fs = outer_front at entries in
    let before = one_before at entries in
    let left = left_of at entries in
    let right = right_of size e entries in
    let after = one_after e entries in
    let bs = outer_back e entries in
    let front_whole : front at entries ≡ (fs ++ before) ++ left = front-is at entries
    ∙ ap (λ (xs : List Pair). xs ++ left) (sym (outer_front-is at entries)) in
    let back_whole : back size e entries ≡ right ++ (after ++ bs) = back-is size e entries have
    ∙ ap (λ (xs : List Pair). right ++ xs) (sym (outer_back-is e entries)) in
    let parts : f fs ++ ((f (before ++ left) ++ (made ++ f (right ++ after))) ++ f bs) ≡ f fs
    ++ (((f before ++ f left) ++ (made ++ (f right ++ f after))) ++ f bs) =
    ap (λ (xs : List Part). f fs ++ ((xs ++ (made ++ f (right ++ after))) ++ f bs)) (map-append Keep before left)
    ∙ ap (λ (xs : List Part). f fs ++ (((f before ++ f left) ++ (made ++ xs)) ++ f bs)) (map-append Keep right after) in
    let left_side : f (front at entries) ≡ (f fs ++ f before) ++ f left =
    ap f front_whole ∙ (map-append Keep (fs ++ before) left ∙ ap (λ (xs : List Part). xs ++ f left) (map-append Keep fs before)) in
    let right_side : f (back size e entries) ≡ f right ++ (f after ++ f bs) =
    ap f back_whole ∙ (map-append Keep right (after ++ bs) ∙ ap (λ (xs : List Part). f right ++ xs) (map-append Keep after bs)) in
    let sides : f (front at entries) ++ (made ++ f (back size e entries)) ≡ ((f fs ++ f before) ++ f left)
    ++ (made ++ (f right ++ (f after ++ f bs))) =
    ap (λ (xs : List Part). xs ++ (made ++ f (back size e entries))) left_side
    ∙ ap (λ (xs : List Part). ((f fs ++ f before) ++ f left) ++ (made ++ xs)) right_side in
    let same : f fs ++ (((f before ++ f left) ++ (made ++ (f right ++ f after))) ++ f bs)
    ≡ ((f fs ++ f before) ++ f left) ++ (made ++ (f right ++ (f after ++ f bs))) = simp append_assoc in
    parts ∙ (same ∙ sym sides)
