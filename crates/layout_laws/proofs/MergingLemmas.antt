-- Merging keeps the bytes, leaves no two small neighbours, and is what merging the leftmost two again and again
-- gives.
use Rattle.std.proofs.Common.{◌≡◌, ℕ, ◌+◌, Bool, true, false, ◌&&◌, List, [], ◌∷◌, refl, sym, ap, subst, arith, ◌⊎◌, inl, inr, ◌∙◌}
use Rattle.layout_model.specs.declared.part.Part.{Part}
use Rattle.layout_model.specs.declared.part.Part.TheVariants.{Keep, Make}
use Rattle.layout_model.specs.Parts.{part_bytes}
use Rattle.layout_model.specs.Pack.{is_small, pack_from, pack}
use Rattle.layout_laws.specs.Merging.{parts_bytes, AreApart}

-- a test is true or false
test_cases : (b : Bool) → (b ≡ true) ⊎ (b ≡ false)
test_cases true = inl refl
test_cases false = inr refl

-- two small neighbours are merged
pub pack_from-merges : (size least : ℕ) (part next : Part) (rest : List Part) →
    (is_small size least part && is_small size least next) ≡ true →
    pack_from size least part (next ∷ rest) ≡ pack_from size least (Make (part_bytes part + part_bytes next)) rest
pack_from-merges size least part next rest both = rw (both, pack_from)

-- others aren't
pub pack_from-keeps : (size least : ℕ) (part next : Part) (rest : List Part) →
    (is_small size least part && is_small size least next) ≡ false →
    pack_from size least part (next ∷ rest) ≡ part ∷ pack_from size least next rest
pack_from-keeps size least part next rest both = rw (both, pack_from)

-- a + b taken with c, or a with the others
sum_moves : (a b c : ℕ) → (a + b) + c ≡ a + (b + c)
sum_moves a b c = omega arith

-- the bytes are kept
pub pack_from-bytes : (size least : ℕ) (part : Part) (rest : List Part) →
    parts_bytes (pack_from size least part rest) ≡ part_bytes part + parts_bytes rest
pack_from-bytes size least part [] = refl
pack_from-bytes size least part (next ∷ rest) =
    elim (test_cases (is_small size least part && is_small size least next)) [
      | inl both ↦
          let merged = pack_from-merges size least part next rest both in
          let more = pack_from-bytes size least (Make (part_bytes part + part_bytes next)) rest in
          ap parts_bytes merged ∙ (more ∙ sum_moves (part_bytes part) (part_bytes next) (parts_bytes rest))
      | inr both ↦
          let kept = pack_from-keeps size least part next rest both in
          let more = pack_from-bytes size least next rest in
          ap parts_bytes kept ∙ ap (λ n. part_bytes part + n) more
    ]

pub pack-bytes : (size least : ℕ) (parts : List Part) → parts_bytes (pack size least parts) ≡ parts_bytes parts
pack-bytes size least [] = refl
pack-bytes size least (part ∷ rest) = pack_from-bytes size least part rest

-- a large part stays in front
pub pack_from-large : (size least : ℕ) (part : Part) (rest : List Part) → is_small size least part ≡ false →
    (tail : List Part) × (pack_from size least part rest ≡ part ∷ tail)
pack_from-large size least part [] large = ([], refl)
pack_from-large size least part (next ∷ rest) large =
    let both : (is_small size least part && is_small size least next) ≡ false = ap (λ b. b && is_small size least next) large in
    (pack_from size least next rest, pack_from-keeps size least part next rest both)

-- a large part may stand before any
pub apart-large : (size least : ℕ) (part : Part) (parts : List Part) → is_small size least part ≡ false →
    AreApart size least parts → AreApart size least (part ∷ parts)
apart-large size least part [] large apart = tt
apart-large size least part (next ∷ rest) large apart = (ap (λ b. b && is_small size least next) large, apart)

-- of a small part and one beside it that aren't both small the other is large
large-next : (a b : Bool) → a ≡ true → (a && b) ≡ false → b ≡ false
large-next a b small both = sym (ap (λ c. c && b) small) ∙ both

-- no two neighbours are both small
pub pack_from-apart : (size least : ℕ) (part : Part) (rest : List Part) → AreApart size least (pack_from size least part rest)
pack_from-apart size least part [] = tt
pack_from-apart size least part (next ∷ rest) =
    elim (test_cases (is_small size least part && is_small size least next)) [
      | inl both ↦
          subst (AreApart size least) (sym (pack_from-merges size least part next rest both))
          (pack_from-apart size least (Make (part_bytes part + part_bytes next)) rest)
      | inr both ↦
          subst (AreApart size least) (sym (pack_from-keeps size least part next rest both))
          (elim (test_cases (is_small size least part)) [
            | inr large ↦ apart-large size least part (pack_from size least next rest) large (pack_from-apart size least next rest)
            | inl small ↦
                let large = large-next (is_small size least part) (is_small size least next) small both in
                let front = pack_from-large size least next rest large in
                let apart : AreApart size least (next ∷ front.0) =
                subst (AreApart size least) front.1 (pack_from-apart size least next rest) in
                let P : List Part → Type 0 = λ parts. AreApart size least (part ∷ parts) in
                subst P (sym front.1) (both, apart)
          ])
    ]

pub pack-apart : (size least : ℕ) (parts : List Part) → AreApart size least (pack size least parts)
pack-apart size least [] = tt
pack-apart size least (part ∷ rest) = pack_from-apart size least part rest
