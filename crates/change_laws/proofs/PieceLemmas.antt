-- The pieces of an old segment that a change keeps, and what stands on its two sides.
use Rattle.std.proofs.Common.{◌≡◌, ℕ, ◌+◌, ◌-◌, ◌*◌, ◌<◌, ◌≤◌, List, [], ◌∷◌, ◌++◌, map, refl, sym, ap, subst, arith}
use Rattle.std.proofs.Common.{◌∙◌, ◌⊎◌, inl, inr, nat_lt}
use Rattle.std.specs.List.{AllByRecursion}
use Rattle.std.proofs.lemmas.Bool.{cases_Bool, ltb-true}
use Rattle.std.proofs.lemmas.List.Sums.{sum_by-cons}
use Rattle.geometry_model.specs.Numbers.{Numbers}
use Rattle.tree_model.specs.declared.entry.Pair.{Pair}
use Rattle.tree_model.specs.Tree.{page_count, IsSegment}
use Rattle.layout_model.specs.declared.extent.Extent.{Extent}
use Rattle.layout_model.specs.Parts.{without_pages}
use Rattle.tree_model.proofs.PageCountLaws.{count-rises, count-behind}
use Rattle.content_laws.proofs.SideLemmas.{front, back, lies, front-behind, front-before, front-inside, back-behind}
use Rattle.content_laws.proofs.SideLemmas.{back-before, back-inside}
use Rattle.content_laws.proofs.SideLemmas.Lies.{Behind, Before, Inside}
use Rattle.moment_model.specs.Version.{covers, uses, segment_run}
use Rattle.moment_laws.proofs.GrantLemmas.{covers-cases}

-- ---- pieces of a segment

-- bytes behind full pages of a segment of the store are one
segment-piece : (n : Numbers) (p : Pair) (skip bytes page : ℕ) → 0 < n.page → IsSegment n p → 1 ≤ bytes →
    skip * n.page + bytes ≤ p.bytes → page ≡ p.page + skip →
    IsSegment n (record { bytes = bytes; page = page })
segment-piece n p skip bytes page some is any within at =
    let count = count-behind n.page skip bytes some in
    let rises = count-rises n.page (skip * n.page + bytes) p.bytes some within in
    let most = is.most in
    let s = is.together.0 in
    let space = is.together.1 in
    record {
      some = any;
      most = omega (arith, most, within);
      together = (
        s,
        record {
          in_store = space.in_store;
          from = omega (arith, space.from, at);
          to = omega (arith, space.to, at, count, rises);
        },
      );
    }

-- how often these segments use a page
abbrev pub segments_uses : ℕ → ℕ → List Pair → ℕ
segments_uses page size pairs = uses page (map (segment_run size) pairs)

pub segments_uses-cons : (page size : ℕ) (p : Pair) (ps : List Pair) →
    segments_uses page size (p ∷ ps) ≡ covers page (segment_run size p) + segments_uses page size ps
segments_uses-cons page size p ps = sum_by-cons (covers page) (segment_run size p) (map (segment_run size) ps)

pub segments_uses-append : (page size : ℕ) (xs ys : List Pair) →
    segments_uses page size (xs ++ ys) ≡ segments_uses page size xs + segments_uses page size ys
segments_uses-append page size [] ys = omega arith
segments_uses-append page size (x ∷ xs) ys =
    let one = segments_uses-cons page size x (xs ++ ys) in
    let two = segments_uses-cons page size x xs in
    let more = segments_uses-append page size xs ys in
    omega (arith, one, two, more)

-- two pieces of a run beside each other
pub covers-two : (page first count few skip rest : ℕ) → few ≤ skip → skip + rest ≤ count →
    covers page (record { page = first; pages = few }) + covers page (record {
      page = first + skip;
      pages =
          rest;
    }) ≤ covers page (record { page = first; pages = count })
covers-two page first count few skip rest less within =
    let a : Extent = record { page = first; pages = few } in
    let b : Extent = record { page = first + skip; pages = rest } in
    let c : Extent = record { page = first; pages = count } in
    elim (covers-cases page c) [
      | inl whole ↦
          let one = whole.0 in
          elim (covers-cases page a) [
            | inl in_a ↦
                let one_a = in_a.0 in
                let high = in_a.2 in
                elim (covers-cases page b) [
                  | inl in_b ↦ let low = in_b.1 in absurd (omega (arith, high, low, less))
                  | inr out_b ↦ let none = out_b.0 in omega (arith, one, one_a, none)
                ]
            | inr out_a ↦
                let none_a = out_a.0 in
                elim (covers-cases page b) [
                  | inl in_b ↦ let one_b = in_b.0 in omega (arith, one, none_a, one_b)
                  | inr out_b ↦ let none = out_b.0 in omega (arith, one, none_a, none)
                ]
          ]
      | inr outside ↦
          let none = outside.0 in
          let clear : (page < first) ⊎ (first + count ≤ page) = outside.1 in
          elim (covers-cases page a) [
            | inl in_a ↦
                let low = in_a.1 in
                let high = in_a.2 in
                elim clear [
                  | inl before ↦ absurd (omega (arith, before, low))
                  | inr behind ↦ absurd (omega (arith, behind, high, less, within))
                ]
            | inr out_a ↦
                let none_a = out_a.0 in
                elim (covers-cases page b) [
                  | inl in_b ↦
                      let low = in_b.1 in
                      let high = in_b.2 in
                      elim clear [
                        | inl before ↦ absurd (omega (arith, before, low))
                        | inr behind ↦ absurd (omega (arith, behind, high, within))
                      ]
                  | inr out_b ↦ let none_b = out_b.0 in omega (arith, none, none_a, none_b)
                ]
          ]
    ]

-- one piece of a run
pub covers-part : (page first count skip rest : ℕ) → skip + rest ≤ count →
    covers page (record { page = first + skip; pages = rest }) ≤ covers page (record { page = first; pages = count })
covers-part page first count skip rest within =
    let both = covers-two page first count 0 skip rest (omega arith) within in
    omega (arith, both)

pub covers-front : (page first count few : ℕ) → few ≤ count →
    covers page (record { page = first; pages = few }) ≤ covers page (record { page = first; pages = count })
covers-front page first count few less =
    let both = covers-two page first count few few 0 (omega arith) (omega (arith, less)) in
    omega (arith, both)

-- ---- the two sides of a change

pub front-segments : (n : Numbers) (a : ℕ) (entries : List Pair) → 0 < n.page →
    AllByRecursion (IsSegment n) entries → AllByRecursion (IsSegment n) (front a entries)
front-segments n a [] some all = tt
front-segments n a (p ∷ ps) some all =
    elim (lies a p) [
      | Behind h le ↦ subst (AllByRecursion (IsSegment n)) (sym (front-behind a p ps h))
          (all.0, front-segments n (a - p.bytes) ps some all.1)
      | Before h k none less ↦ subst (AllByRecursion (IsSegment n)) (sym (front-before a p ps h k)) tt
      | Inside h k byte less ↦
          let piece = segment-piece n p 0 a p.page some all.0 (omega (arith, byte)) (omega (arith, less)) (omega arith) in
          subst (AllByRecursion (IsSegment n)) (sym (front-inside a p ps h k)) (piece, tt)
    ]

without-cases : (size pages : ℕ) (p : Pair) →
    ((pages * size < p.bytes) × (without_pages size pages p
    ≡ record { bytes = p.bytes - pages * size; page = p.page + pages } ∷ []))
    ⊎ (without_pages size pages p ≡ [])
without-cases size pages p =
    elim (cases_Bool (nat_lt (pages * size) p.bytes)) [
      | inl left ↦ inl (ltb-true (pages * size) p.bytes left, rw (left, without_pages))
      | inr none ↦ inr (rw (none, without_pages))
    ]

pub back-segments : (n : Numbers) (e : ℕ) (entries : List Pair) → 0 < n.page →
    AllByRecursion (IsSegment n) entries → AllByRecursion (IsSegment n) (back n.page e entries)
back-segments n e [] some all = tt
back-segments n e (p ∷ ps) some all =
    elim (lies e p) [
      | Behind h le ↦ subst (AllByRecursion (IsSegment n)) (sym (back-behind n.page e p ps h)) (back-segments n (e - p.bytes) ps some all.1)
      | Before h k none less ↦ subst (AllByRecursion (IsSegment n)) (sym (back-before n.page e p ps h k)) all
      | Inside h k byte less ↦
          let v = page_count n.page e in
          subst (AllByRecursion (IsSegment n)) (sym (back-inside n.page e p ps h k))
          (elim (without-cases n.page v p) [
            | inr none ↦ subst (λ (xs : List Pair). AllByRecursion (IsSegment n) (xs ++ ps)) (sym none) all.1
            | inl left ↦
                let short = left.0 in
                let piece = segment-piece n p v (p.bytes - v * n.page)
                (p.page + v) some all.0 (omega (arith, short)) (omega (arith, short)) refl in
                subst (λ (xs : List Pair). AllByRecursion (IsSegment n) (xs ++ ps)) (sym left.1) (piece, all.1)
          ])
    ]

-- an entry without its first pages
without-uses : (page size v : ℕ) (p : Pair) → 0 < size → v ≤ page_count size p.bytes →
    segments_uses page size (without_pages size v p) + covers page (record { page = p.page; pages = v }) ≤ covers page (segment_run size p)
without-uses page size v p some within =
    elim (without-cases size v p) [
      | inr none ↦
          let same : segments_uses page size (without_pages size v p) ≡ 0 = ap (segments_uses page size) none in
          let part = covers-front page p.page (page_count size p.bytes) v within in
          omega (arith, same, part)
      | inl left ↦
          let short = left.0 in
          let rest = p.bytes - v * size in
          let piece : Pair = record { bytes = rest; page = p.page + v } in
          let same : segments_uses page size (without_pages size v p) ≡ segments_uses page size (piece ∷ []) =
          ap (segments_uses page size) left.1 in
          let one = segments_uses-cons page size piece [] in
          let bytes : v * size + rest ≡ p.bytes = omega (arith, short) in
          let count : page_count size p.bytes ≡ v + page_count size rest = ap (page_count size) (sym bytes)
          ∙ count-behind size v rest some in
          let both = covers-two page p.page (page_count size p.bytes) v v (page_count size rest) (omega arith) (omega (arith, count)) in
          omega (arith, same, one, both)
    ]

-- the two sides use the pages of the entries, each once
pub sides-uses : (page size a e : ℕ) (entries : List Pair) → 0 < size → a ≤ e →
    segments_uses page size (front a entries) + segments_uses page size (back size e entries) ≤ segments_uses page size entries
sides-uses page size a e [] some le = let none : 0 ≤ 0 = omega arith in none
sides-uses page size a e (p ∷ ps) some le =
    let U : List Pair → ℕ = segments_uses page size in
    let all = segments_uses-cons page size p ps in
    let P : List Pair → List Pair → Type 0 = λ fs bs. U fs + U bs ≤ U (p ∷ ps) in
    elim (lies a p) [
      | Behind h a_le ↦
          let fs = front-behind a p ps h in
          elim (lies e p) [
            | Behind h2 e_le ↦
                let more = sides-uses page size (a - p.bytes) (e - p.bytes) ps some (omega (arith, le)) in
                let one = segments_uses-cons page size p (front (a - p.bytes) ps) in
                subst (λ bs. P (front a (p ∷ ps)) bs) (sym (back-behind size e p ps h2))
                (subst (λ xs. P xs (back size (e - p.bytes) ps)) (sym fs) (omega (arith, more, one, all)))
            | Before h2 k2 none less ↦ absurd (omega (arith, a_le, le, none, less))
            | Inside h2 k2 byte less ↦ absurd (omega (arith, a_le, le, less))
          ]
      | Before h k none byte ↦
          let fs = front-before a p ps h k in
          elim (lies e p) [
            | Behind h2 e_le ↦
                let more = sides-uses page size 0 (e - p.bytes) ps some (omega arith) in
                subst (λ bs. P (front a (p ∷ ps)) bs) (sym (back-behind size e p ps h2))
                (subst (λ xs. P xs (back size (e - p.bytes) ps)) (sym fs) (omega (arith, more, all)))
            | Before h2 k2 none2 byte2 ↦
                subst (λ bs. P (front a (p ∷ ps)) bs) (sym (back-before size e p ps h2 k2))
                (subst (λ xs. P xs (p ∷ ps)) (sym fs) (omega arith))
            | Inside h2 k2 byte2 less ↦
                let v = page_count size e in
                let rises = count-rises size e p.bytes some (omega (arith, less)) in
                let cut = without-uses page size v p some rises in
                let both = segments_uses-append page size (without_pages size v p) ps in
                subst (λ bs. P (front a (p ∷ ps)) bs) (sym (back-inside size e p ps h2 k2))
                (subst (λ xs. P xs (without_pages size v p ++ ps)) (sym fs) (omega (arith, cut, both, all)))
          ]
      | Inside h k byte less ↦
          let left : Pair = record { bytes = a; page = p.page } in
          let fs = front-inside a p ps h k in
          let one = segments_uses-cons page size left [] in
          elim (lies e p) [
            | Behind h2 e_le ↦
                let more = sides-uses page size 0 (e - p.bytes) ps some (omega arith) in
                let rises = count-rises size a p.bytes some (omega (arith, less)) in
                let part = covers-front page p.page (page_count size p.bytes) (page_count size a) rises in
                subst (λ bs. P (front a (p ∷ ps)) bs) (sym (back-behind size e p ps h2))
                (subst (λ xs. P xs (back size (e - p.bytes) ps)) (sym fs) (omega (arith, more, part, one, all)))
            | Before h2 k2 none2 byte2 ↦ absurd (omega (arith, byte, le, none2))
            | Inside h2 k2 byte2 less2 ↦
                let v = page_count size e in
                let rises = count-rises size e p.bytes some (omega (arith, less2)) in
                let cut = without-uses page size v p some rises in
                let fewer = count-rises size a e some le in
                let part = covers-front page p.page v (page_count size a) fewer in
                let both = segments_uses-append page size (without_pages size v p) ps in
                subst (λ bs. P (front a (p ∷ ps)) bs) (sym (back-inside size e p ps h2 k2))
                (subst (λ xs. P xs (without_pages size v p ++ ps)) (sym fs)
                (omega (arith, cut, part, both, one, all)))
          ]
    ]
