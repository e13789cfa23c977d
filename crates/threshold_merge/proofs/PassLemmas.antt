-- One pass that looks at the last part alone merges as the definition does, and which parts are small.
use Rattle.std.proofs.Common.{◌≡◌, ℕ, ◌+◌, ◌-◌, ◌*◌, ◌^◌, ◌<◌, ◌≤◌, ◌&&◌, true, false, min, List, [], ◌∷◌, ◌++◌}
use Rattle.std.proofs.Common.{map, nat_lt, refl, sym, ap, arith, ◌∙◌, inl, inr, append_assoc}
use Rattle.std.specs.Prelude.{nat_le}
use Rattle.std.proofs.lemmas.Bool.{cases_Bool, leb-false, leb-true, lt-ltb, ltb-true}
use Rattle.std.proofs.lemmas.Nat.{mul-le}
use Rattle.std.proofs.lemmas.List.{append-nil, map-append}
use Rattle.std.proofs.lemmas.List.Concat.{flat_map-append}
use Rattle.tree_model.specs.Tree.{page_count}
use Rattle.tree_model.proofs.PageCountLaws.{count-enough, count-more}
use Rattle.layout_model.specs.declared.part.Part as layout
use Rattle.layout_model.specs.Pack.{is_small, pack, pack_from}
use Rattle.layout_model.specs.Parts.{part_bytes}
use Rattle.layout_laws.proofs.MergingLemmas.{pack_from-merges, pack_from-keeps}
use Rattle.edit_parts.specs.declared.part.Part.{Part}
use Rattle.edit_parts.specs.declared.piece.Piece.{Piece}
use Rattle.edit_parts.specs.Parts.{layout_part, pieces_in, pieces_of}
use Rattle.threshold_merge.specs.Passed.{then_packed}

-- the last of the parts behind takes on the others
pub then-last : (size least : ℕ) (parts : List layout.Part) (part : layout.Part) (rest : List layout.Part) →
    then_packed size least (parts ++ (part ∷ [])) rest ≡ parts ++ pack_from size least part rest
then-last size least [] part rest = refl
then-last size least (x ∷ []) part rest = refl
then-last size least (x ∷ y ∷ ys) part rest = ap (λ (ps : List layout.Part). x ∷ ps) (then-last size least (y ∷ ys) part rest)

-- with no others nothing changes
pub then-none : (size least : ℕ) (parts : List layout.Part) → then_packed size least parts [] ≡ parts
then-none size least [] = refl
then-none size least (x ∷ []) = refl
then-none size least (x ∷ y ∷ ys) = ap (λ (ps : List layout.Part). x ∷ ps) (then-none size least (y ∷ ys))

-- a part and the next, both small, become one
pub then-merged : (size least : ℕ) (before : List Part) (last part both : Part) (rest : List layout.Part) →
    (is_small size least (layout_part last) && is_small size least (layout_part part)) ≡ true →
    layout_part both ≡ layout.TheVariants.Make (part_bytes (layout_part last) + part_bytes (layout_part part)) →
    then_packed size least (map layout_part (before ++ (both ∷ []))) rest
    ≡ then_packed size least (map layout_part (before ++ (last ∷ []))) (layout_part part ∷ rest)
then-merged size least before last part both rest small one =
    ap (λ (ps : List layout.Part). then_packed size least ps rest) (map-append layout_part before (both ∷ []))
    ∙ (then-last size least (map layout_part before) (layout_part both) rest
    ∙ (ap (λ (p : layout.Part). map layout_part before ++ pack_from size least p rest) one
    ∙ (ap (λ (ps : List layout.Part). map layout_part before ++ ps)
    (sym (pack_from-merges size least (layout_part last) (layout_part part) rest small))
    ∙ (sym (then-last size least (map layout_part before) (layout_part last) (layout_part part ∷ rest))
    ∙ ap (λ (ps : List layout.Part). then_packed size least ps (layout_part part ∷ rest))
    (sym (map-append layout_part before (last ∷ [])))))))

-- else the next is put behind it
pub then-kept : (size least : ℕ) (before : List Part) (last part : Part) (rest : List layout.Part) →
    (is_small size least (layout_part last) && is_small size least (layout_part part)) ≡ false →
    then_packed size least (map layout_part ((before ++ (last ∷ [])) ++ (part ∷ []))) rest
    ≡ then_packed size least (map layout_part (before ++ (last ∷ []))) (layout_part part ∷ rest)
then-kept size least before last part rest large =
    let f : List Part → List layout.Part = map layout_part in
    ap (λ (ps : List layout.Part). then_packed size least ps rest) (map-append layout_part (before ++ (last ∷ [])) (part ∷ []))
    ∙ (then-last size least (f (before ++ (last ∷ []))) (layout_part part) rest
    ∙ (ap (λ (ps : List layout.Part). ps ++ pack_from size least (layout_part part) rest) (map-append layout_part before (last ∷ []))
    ∙ (append_assoc (f before) (layout_part last ∷ []) (pack_from size least (layout_part part) rest)
    ∙ (ap (λ (ps : List layout.Part). f before ++ ps) (sym (pack_from-keeps size least (layout_part last) (layout_part part) rest large))
    ∙ (sym (then-last size least (f before) (layout_part last) (layout_part part ∷ rest))
    ∙ ap (λ (ps : List layout.Part). then_packed size least ps (layout_part part ∷ rest))
    (sym (map-append layout_part before (last ∷ []))))))))

-- the pieces of parts with one more behind them
pub pieces-last : (parts : List Part) (part : Part) → pieces_of (parts ++ (part ∷ [])) ≡ pieces_of parts ++ pieces_in part
pieces-last parts part = flat_map-append pieces_in parts (part ∷ [])
    ∙ ap (λ (ps : List Piece). pieces_of parts ++ ps) (append-nil (pieces_in part))

-- pages below the threshold are so many bytes at most
pub small-is : (size least bytes : ℕ) → 0 < size → 0 < least → bytes ≤ (least - 1) * size → nat_lt (page_count size bytes) least ≡ true
small-is size least bytes some any few =
    let enough = count-enough size bytes (least - 1) some few in
    lt-ltb (page_count size bytes) least (omega (arith, enough, any))

pub large-is : (size least bytes : ℕ) → 0 < size → 0 < least → (least - 1) * size < bytes → nat_lt (page_count size bytes) least ≡ false
large-is size least bytes some any many =
    let more = count-more size bytes (least - 1) some many in
    elim (cases_Bool (nat_lt (page_count size bytes) least)) [
      | inr large ↦ large
      | inl small ↦ let less = ltb-true (page_count size bytes) least small in absurd (omega (arith, more, less))
    ]

-- no number of pages is below none
pub none-small : (pages : ℕ) → nat_lt pages 0 ≡ false
none-small pages =
    elim (cases_Bool (nat_lt pages 0)) [
      | inr large ↦ large
      | inl small ↦ let less = ltb-true pages 0 small in absurd (omega (arith, less))
    ]

-- the test that looks at the bytes, up to the greatest number of 64 bits
pub small-test : (size least bytes seen : ℕ) → 0 < size → 0 < least → size < 2 ^ 32 → least < 2 ^ 32 → seen ≡ min bytes (2 ^ 64 - 1) →
    nat_le seen ((least - 1) * size) ≡ nat_lt (page_count size bytes) least
small-test size least bytes seen some any narrow low is =
    let rows : (least - 1) * size ≤ 4294967294 * 4294967295 =
    mul-le (least - 1) size 4294967294 4294967295 (omega (arith, low)) (omega (arith, narrow)) in
    elim (cases_Bool (nat_le seen ((least - 1) * size))) [
      | inl within ↦
          let few = leb-true seen ((least - 1) * size) within in
          within ∙ sym (small-is size least bytes some any (omega (arith, is, few, rows)))
      | inr past ↦
          let many = leb-false seen ((least - 1) * size) past in
          past ∙ sym (large-is size least bytes some any (omega (arith, is, many, rows)))
    ]

-- what a pass has come to is what merging gives
pub pass-done : (size least : ℕ) (packed behind : List Part) →
    ((rest : List layout.Part) → then_packed size least (map layout_part packed) rest ≡ pack size least (map layout_part behind ++ rest)) →
    map layout_part packed ≡ pack size least (map layout_part behind)
pass-done size least packed behind all =
    sym (then-none size least (map layout_part packed)) ∙ (all [] ∙ ap (pack size least) (append-nil (map layout_part behind)))

-- ---- one step of the pass

-- what a step keeps: what becomes of the parts, and their pieces
pub record IsPut (size least : ℕ) (old new : List Part) (part : Part) : Type 0 where
  pub packed : (rest : List layout.Part) → then_packed size least (map layout_part new) rest
      ≡ then_packed size least (map layout_part old) (layout_part part ∷ rest)
  pub pieces : pieces_of new ≡ pieces_of old ++ pieces_in part

pub put-first : (size least : ℕ) (part : Part) → IsPut size least [] (part ∷ []) part
put-first size least part = record { packed = λ rest. refl; pieces = append-nil (pieces_in part) }

pub put-merged : (size least : ℕ) (before : List Part) (last part both : Part) →
    is_small size least (layout_part last) ≡ true → is_small size least (layout_part part) ≡ true →
    layout_part both ≡ layout.TheVariants.Make (part_bytes (layout_part last) + part_bytes (layout_part part)) →
    pieces_in both ≡ pieces_in last ++ pieces_in part →
    IsPut size least (before ++ (last ∷ [])) (before ++ (both ∷ [])) part
put-merged size least before last part both one two bytes same =
    let small : (is_small size least (layout_part last) && is_small size least (layout_part part)) ≡ true = rw (one, two) refl in
    record {
      packed = λ rest. then-merged size least before last part both rest small bytes;
      pieces =
          pieces-last before both
          ∙ (ap (λ (ps : List Piece). pieces_of before ++ ps) same
          ∙ (sym (append_assoc (pieces_of before) (pieces_in last) (pieces_in part))
          ∙ ap (λ (ps : List Piece). ps ++ pieces_in part) (sym (pieces-last before last))));
    }

pub put-kept : (size least : ℕ) (before : List Part) (last part : Part) →
    (is_small size least (layout_part last) && is_small size least (layout_part part)) ≡ false →
    IsPut size least (before ++ (last ∷ [])) ((before ++ (last ∷ [])) ++ (part ∷ [])) part
put-kept size least before last part large =
    record {
      packed = λ rest. then-kept size least before last part rest large;
      pieces = pieces-last (before ++ (last ∷ [])) part;
    }
