-- What the plan of a change lays out, on granted runs or on the spare: segments of the store, packed, on pages that
-- were used and on these runs, with the spare behind the last one.
use Rattle.std.proofs.Common.{◌≡◌, ℕ, ◌+◌, ◌-◌, ◌*◌, ◌/◌, ◌%◌, ◌<◌, ◌≤◌, min, Bool, true, false, Option, Some, None}
use Rattle.std.proofs.Common.{List, [], ◌∷◌, ◌++◌, length, map, take, drop, refl, sym, ap, subst, arith, ◌∙◌, ◌⊎◌, inl}
use Rattle.std.proofs.Common.{inr, length-take, length-drop, nat_eq}
use Rattle.std.specs.Prelude.{nat_le}
use Rattle.std.specs.List.{AllByRecursion}
use Rattle.std.proofs.lemmas.Bool.{cases_Bool, leb-true, eqb-true}
use Rattle.std.proofs.lemmas.Nat.{div-add-mod'}
use Rattle.std.proofs.Math.Nat.{mul-le-mul_right}
use Rattle.std.proofs.lemmas.List.{append-nil, drop_all}
use Rattle.geometry_model.specs.Numbers.{Numbers, space_pages}
use Rattle.geometry_model.specs.Pages.{IsInSpace}
use Rattle.tree_model.specs.declared.entry.Pair.{Pair}
use Rattle.tree_model.specs.Tree.{page_count, IsSegment}
use Rattle.layout_model.specs.declared.extent.Extent.{Extent}
use Rattle.layout_model.specs.declared.part.Part.{Part}
use Rattle.layout_model.specs.declared.part.Part.TheVariants.{Keep, Make}
use Rattle.layout_model.specs.declared.change.Change.{Change}
use Rattle.layout_model.specs.declared.fit.Fit.TheVariants.{Extend, Follow, Fresh}
use Rattle.layout_model.specs.Parts.{part_bytes, count_begun, count_ended, one_before, one_after, parts_of}
use Rattle.layout_model.specs.Pack.{pack, Packed}
use Rattle.layout_laws.specs.Merging.{AreApart}
use Rattle.layout_model.specs.Plan.{Plan, past, begins_kept, ends_kept, made_part_bytes, merged_one, fit_of, fit_made}
use Rattle.layout_model.specs.Plan.{fit_appended, plan_packed, plan_extended, last_entry}
use Rattle.layout_model.specs.Layout.{laid_parts, spare_behind}
use Rattle.content_laws.specs.Spelling.{HaveBytes, all_parts}
use Rattle.tree_model.proofs.PageCountLaws.{count-holds, count-behind, count-full}
use Rattle.content_laws.proofs.SideLemmas.{count_ended-count_begun, count_begun-within_list}
use Rattle.content_laws.proofs.SpellingLemmas.{laid-all, last-split}
use Rattle.content_laws.proofs.PlanLemmas.{merged-few}
use Rattle.moment_model.specs.Version.{covers, uses, segment_run, spare_uses}
use Rattle.moment_laws.specs.Granting.{LiesInSpace, runs_of_parts}
use Rattle.moment_laws.proofs.GrantLemmas.{covers-cases}
use Rattle.change_laws.specs.Tail.{FollowsLast}
use Rattle.base_laws.proofs.ListLaws.{all-append, all-map}
use Rattle.change_laws.proofs.PartLemmas.{GoodPart, part-some, keeps, keeps-made, all-left, all-right, segments-have}
use Rattle.change_laws.proofs.PartLemmas.{plan-good, plan-uses}
use Rattle.change_laws.proofs.PieceLemmas.{segments_uses, segments_uses-cons, segments_uses-append}
use Rattle.change_laws.proofs.NeighbourLemmas.{apart-packed, plan-apart}
use Rattle.change_laws.proofs.SegmentLemmas.{Matched, matched-front, matched-back, laid-segments, laid-uses, laid-spare}
use Rattle.change_laws.proofs.SegmentLemmas.{laid-apart, past-uses}
use Rattle.change_laws.proofs.AppendLemmas.{Appended, append-some, last-append, made-made, past-some, spare-follows}

-- the new entries
abbrev pub spliced_entries : List Pair → ℕ → ℕ → List Pair → List Pair
spliced_entries entries from count new = take from entries ++ (new ++ drop (from + count) entries)

-- what is laid out in the place of some entries
pub record Laying (n : Numbers) (least : ℕ) (entries : List Pair) (spare : Option Extent) (from count : ℕ)
    (new : List Pair) (runs : List Extent) (after : Option Extent) : Type 0 where
  pub inside : from + count ≤ length entries
  pub segments : AllByRecursion (IsSegment n) (spliced_entries entries from count new)
  pub neighbours : Packed n.page least (spliced_entries entries from count new)
  pub within : (page : ℕ) → segments_uses page n.page (spliced_entries entries from count new) + spare_uses page after
      ≤ segments_uses page n.page entries + spare_uses page spare + uses page runs
  pub spare_within : (page : ℕ) → spare_uses page after ≤ spare_uses page spare + uses page runs
  pub follows : (rest : Extent) → after ≡ Some rest → FollowsLast n (spliced_entries entries from count new) rest

-- ---- a plan whose parts are merged

made-kept : (xs : List Pair) (parts : List Part) → made_part_bytes (map Keep xs ++ parts) ≡ made_part_bytes parts
made-kept [] parts = refl
made-kept (x ∷ xs) parts = made-kept xs parts

made-back : (parts : List Part) (xs : List Pair) → made_part_bytes (parts ++ map Keep xs) ≡ made_part_bytes parts
made-back [] [] = refl
made-back [] (x ∷ xs) = made-back [] xs
made-back (Keep p ∷ parts) xs = made-back parts xs
made-back (Make bytes ∷ parts) xs = ap (λ (ns : List ℕ). bytes ∷ ns) (made-back parts xs)

made-all : (entries : List Pair) (plan : Plan) → made_part_bytes (all_parts entries plan) ≡ made_part_bytes plan.parts
made-all entries plan = made-kept (take plan.from entries)
    (plan.parts ++ map Keep (drop (plan.from + plan.count) entries))
    ∙ made-back plan.parts (drop (plan.from + plan.count) entries)

-- the replaced entries are entries
packed-inside : (size : ℕ) (entries : List Pair) (spare : ℕ) (change : Change) (packed : List Part) → HaveBytes entries →
    (plan_packed size entries spare change packed).from + (plan_packed size entries spare change packed).count ≤ length entries
packed-inside size entries spare change packed have =
    let a = change.at in
    let e = change.at + change.removed in
    let after = one_after e entries in
    let from = count_ended a entries - merged_one (one_before a entries) (begins_kept packed) in
    let to = count_begun e entries + merged_one after (ends_kept packed) in
    let forward = count_ended-count_begun a e entries (omega arith) have in
    let few = merged-few after (ends_kept packed) in
    let near = count_begun-within_list e entries in
    let one = length-take 1 (drop (count_begun e entries) entries) in
    let left = length-drop (count_begun e entries) entries in
    let goal : from + (to - from) ≤ length entries = omega (arith, forward, few, near, one, left) in
    goal

spare-uses : (page size : ℕ) (ns : List ℕ) (runs : List (List Extent)) → 0 < size →
    spare_uses page (spare_behind size ns runs) ≤ uses page (runs_of_parts runs)
spare-uses page size ns runs some =
    let all = laid-spare page size (map Make ns) runs some in
    let made : spare_uses page (spare_behind size (made_part_bytes (map Make ns)) runs)
    ≡ spare_uses page (spare_behind size ns runs) =
    ap (λ (ms : List ℕ). spare_uses page (spare_behind size ms runs)) (made-made ns) in
    let none : segments_uses page size (keeps (map Make ns)) ≡ 0 = ap (segments_uses page size) (keeps-made ns) in
    omega (arith, all, made, none)

-- the merged plan of a change
abbrev pub merged_plan : Numbers → ℕ → List Pair → ℕ → Change → Plan
merged_plan n least entries spare change =
    plan_packed n.page entries spare change (pack n.page least
    (parts_of n.page (space_pages n * n.page) entries change.at change.removed change.added))

-- an object whose segments are of the store and packed
pub record IsPackedObject (n : Numbers) (least : ℕ) (entries : List Pair) : Type 0 where
  pub page : 0 < n.page
  pub space : 0 < space_pages n
  pub low : 1 ≤ least
  pub high : 2 * least ≤ space_pages n
  pub segments : AllByRecursion (IsSegment n) entries
  pub neighbours : Packed n.page least entries

pub merged-laying : (n : Numbers) (least : ℕ) (entries : List Pair) (spare : Option Extent) (pages : ℕ)
    (change : Change) (parts_runs : List (List Extent)) (runs : List Extent) (after : Option Extent) →
    IsPackedObject n least entries → Matched n.page least (merged_plan n least entries pages change).parts parts_runs →
    AllByRecursion (LiesInSpace n) (runs_of_parts parts_runs) →
    ((page : ℕ) → uses page (runs_of_parts parts_runs) ≤ spare_uses page spare + uses page runs) →
    ((after ≡ None) ⊎ ((after ≡ spare_behind n.page (made_part_bytes (merged_plan n least entries pages change).parts) parts_runs)
    × Appended n.page entries pages change (pack n.page least
    (parts_of n.page (space_pages n * n.page) entries change.at change.removed change.added)))) →
    Laying n least entries spare (merged_plan n least entries pages change).from (merged_plan n least entries pages change).count
    (laid_parts n.page (merged_plan n least entries pages change).parts parts_runs) runs after
merged-laying n least entries spare pages change parts_runs runs after object matched lie bound left =
    let most = space_pages n * n.page in
    let plan = merged_plan n least entries pages change in
    let all = all_parts entries plan in
    let have = segments-have n entries object.segments in
    let good = plan-good n least pages entries change object.page object.space object.high object.segments in
    let whole_matched : Matched n.page least all parts_runs =
    matched-front n.page least (take plan.from entries) (plan.parts ++ map Keep (drop (plan.from + plan.count) entries)) parts_runs
    (matched-back n.page least plan.parts (drop (plan.from + plan.count) entries) parts_runs matched) in
    let same : laid_parts n.page all parts_runs
    ≡ spliced_entries entries plan.from plan.count (laid_parts n.page plan.parts parts_runs) =
    laid-all n.page entries plan parts_runs in
    let bytes : AllByRecursion (λ part. 1 ≤ part_bytes part) all =
    all-map (GoodPart n) (λ part. 1 ≤ part_bytes part) (part-some n) all good in
    let apart = laid-apart n.page least all parts_runs object.page bytes whole_matched
    (plan-apart n.page least most pages entries change have object.neighbours) in
    record {
      inside = packed-inside n.page entries pages change
          (pack n.page least (parts_of n.page most entries change.at change.removed change.added)) have;
      segments = subst (AllByRecursion (IsSegment n)) same
          (laid-segments n least all parts_runs object.page object.low good whole_matched lie);
      neighbours = apart-packed n.page least (spliced_entries entries plan.from plan.count (laid_parts n.page plan.parts parts_runs))
          (subst (λ (xs : List Pair). AreApart n.page least (map Keep xs)) same apart);
      within = λ page.
          let kept = plan-uses page n.page least most pages entries change object.page have in
          let here = bound page in
          let moved : segments_uses page n.page (laid_parts n.page all parts_runs)
          ≡ segments_uses page n.page (spliced_entries entries plan.from plan.count
          (laid_parts n.page plan.parts parts_runs)) = ap (segments_uses page n.page) same in
          elim left [
            | inl none ↦
                let nothing : spare_uses page after ≡ 0 = ap (spare_uses page) none in
                let used = laid-uses page n.page all parts_runs object.page in
                omega (arith, kept, here, moved, nothing, used)
            | inr some ↦
                let is : spare_uses page after ≡ spare_uses page
                (spare_behind n.page (made_part_bytes plan.parts) parts_runs) = ap (spare_uses page) some.0 in
                let made : spare_uses page (spare_behind n.page (made_part_bytes all) parts_runs)
                ≡ spare_uses page (spare_behind n.page (made_part_bytes plan.parts) parts_runs) =
                ap (λ (ns : List ℕ). spare_uses page (spare_behind n.page ns parts_runs)) (made-all entries plan) in
                let used = laid-spare page n.page all parts_runs object.page in
                omega (arith, kept, here, moved, is, made, used)
          ];
      spare_within = λ page.
          let here = bound page in
          elim left [
            | inl none ↦ let nothing : spare_uses page after ≡ 0 = ap (spare_uses page) none in omega (arith, nothing)
            | inr some ↦
                let is : spare_uses page after ≡ spare_uses page
                (spare_behind n.page (made_part_bytes plan.parts) parts_runs) = ap (spare_uses page) some.0 in
                let used = spare-uses page n.page (made_part_bytes plan.parts) parts_runs object.page in
                omega (arith, here, is, used)
          ];
      follows = λ rest is_rest. elim left [
        | inl none ↦ absurd (none_is rest (sym none ∙ is_rest))
        | inr some ↦
            let appended = some.1 in
            let sizes : made_part_bytes plan.parts ≡ appended.sizes = ap made_part_bytes appended.parts ∙ made-made appended.sizes in
            let spare_is : spare_behind n.page appended.sizes parts_runs ≡ Some rest =
            ap (λ (ns : List ℕ). spare_behind n.page ns parts_runs) (sym sizes) ∙ (sym some.0 ∙ is_rest) in
            let last = spare-follows n appended.sizes parts_runs (take plan.from entries) rest object.page lie spare_is in
            let shape : spliced_entries entries plan.from plan.count (laid_parts n.page plan.parts parts_runs)
            ≡ take plan.from entries ++ laid_parts n.page (map Make appended.sizes) parts_runs =
            ap (λ (xs : List Pair). take plan.from entries ++ (laid_parts n.page plan.parts parts_runs ++ xs)) appended.none_behind
            ∙ (ap (λ (xs : List Pair). take plan.from entries ++ xs) (append-nil (laid_parts n.page plan.parts parts_runs))
            ∙ ap (λ (ps : List Part). take plan.from entries ++ laid_parts n.page ps parts_runs) appended.parts) in
            subst (λ (xs : List Pair). FollowsLast n xs rest) (sym shape) last
      ];
    }
  where
    none_is : (rest : Extent) → None ≡ Some rest → ⊥
    none_is rest same = cc

-- ---- a tail that grows

-- a run in two pieces
pub covers-split : (page first few rest : ℕ) →
    covers page (record { page = first; pages = few + rest }) ≤ covers page (record {
      page = first;
      pages =
          few;
    }) + covers page (record { page = first + few; pages = rest })
covers-split page first few rest =
    let a : Extent = record { page = first; pages = few } in
    let b : Extent = record { page = first + few; pages = rest } in
    let c : Extent = record { page = first; pages = few + rest } in
    elim (covers-cases page c) [
      | inr out ↦ let none = out.0 in omega (arith, none)
      | inl whole ↦
          let one = whole.0 in
          let low = whole.1 in
          let high = whole.2 in
          elim (covers-cases page a) [
            | inl in_a ↦ let one_a = in_a.0 in omega (arith, one, one_a)
            | inr out_a ↦
                let clear : (page < first) ⊎ (first + few ≤ page) = out_a.1 in
                elim (covers-cases page b) [
                  | inl in_b ↦ let one_b = in_b.0 in omega (arith, one, one_b)
                  | inr out_b ↦
                      let clear_b : (page < first + few) ⊎ (first + few + rest ≤ page) = out_b.1 in
                      elim clear [
                        | inl before ↦ absurd (omega (arith, before, low))
                        | inr behind ↦
                            elim clear_b [
                              | inl before_b ↦ absurd (omega (arith, before_b, behind))
                              | inr behind_b ↦ absurd (omega (arith, behind_b, high))
                            ]
                      ]
                ]
          ]
    ]

-- a larger last segment has the neighbours of a smaller one
packed-larger : (size least : ℕ) (xs : List Pair) (p q : Pair) → page_count size p.bytes ≤ page_count size q.bytes →
    Packed size least (xs ++ (p ∷ [])) → Packed size least (xs ++ (q ∷ []))
packed-larger size least [] p q less packed = tt
packed-larger size least (x ∷ []) p q less packed =
    (elim packed.0 [ inl large ↦ inl large | inr large ↦ inr (omega (arith, large, less)) ], tt)
packed-larger size least (x ∷ y ∷ xs) p q less packed = (packed.0, packed-larger size least (y ∷ xs) p q less packed.1)

pub extended-laying : (n : Numbers) (least : ℕ) (entries : List Pair) (run : Extent) (change : Change) →
    IsPackedObject n least entries → FollowsLast n entries run →
    (last_entry entries).bytes % n.page ≡ 0 → page_count n.page change.added ≤ run.pages →
    Laying n least entries (Some run) (plan_extended entries change).from (plan_extended entries change).count
    (laid_parts n.page (plan_extended entries change).parts []) [] (past (page_count n.page change.added) (Some run))
extended-laying n least entries run change object tail full fits =
    let size = n.page in
    let some = object.page in
    let last = last_entry entries in
    let need = page_count size change.added in
    let had = page_count size last.bytes in
    let grown : Pair = record { bytes = last.bytes + change.added; page = last.page } in
    let front = take (length entries - 1) entries in
    let any = tail.some in
    let shape = last-split entries any in
    let reach : length entries - 1 + 1 ≡ length entries = omega (arith, any) in
    let nothing : drop (length entries - 1 + 1) entries ≡ [] = ap (λ (k : ℕ). drop k entries) reach
    ∙ drop_all (length entries) entries (omega arith) in
    let new_is : spliced_entries entries (length entries - 1) 1 (grown ∷ []) ≡ front ++ (grown ∷ []) =
    ap (λ (xs : List Pair). front ++ ((grown ∷ []) ++ xs)) nothing in
    let whole = div-add-mod' last.bytes size in
    let even : last.bytes ≡ last.bytes / size * size = omega (arith, whole, full) in
    let had_is : had ≡ last.bytes / size = ap (page_count size) even ∙ count-full size (last.bytes / size) some in
    let count : page_count size grown.bytes ≡ had + need =
    ap (λ (k : ℕ). page_count size (k + change.added)) even
    ∙ (count-behind size (last.bytes / size) change.added some ∙ ap (λ (k : ℕ). k + need) (sym had_is)) in
    let old : AllByRecursion (IsSegment n) (front ++ (last ∷ [])) = subst (AllByRecursion (IsSegment n)) shape object.segments in
    let last_is = (all-right (IsSegment n) front (last ∷ []) old).0 in
    let s = tail.together.0 in
    let space = tail.together.1 in
    let holds = count-holds size grown.bytes some in
    let room : had + run.pages ≤ space_pages n = omega (arith, space.from, space.to) in
    let rows : page_count size grown.bytes * size ≤ space_pages n * size = mul-le-mul_right size (omega (arith, count, room, fits)) in
    let byte = last_is.some in
    let grown_is : IsSegment n grown = record {
      some = omega (arith, byte);
      most = omega (arith, holds, rows);
      together = (s, record { in_store = space.in_store; from = space.from; to = omega (arith, space.to, count, fits) });
    } in
    let behind = tail.behind in
    let packed : Packed size least (front ++ (last ∷ [])) = subst (Packed size least) shape object.neighbours in
    record {
      inside = omega (arith, reach);
      segments = subst (AllByRecursion (IsSegment n)) (sym new_is)
          (all-append (IsSegment n) front (grown ∷ []) (all-left (IsSegment n) front (last ∷ []) old)
          (grown_is, tt));
      neighbours = subst (Packed size least) (sym new_is) (packed-larger size least front last grown (omega (arith, count)) packed);
      within = λ page.
          let new_uses : segments_uses page size (spliced_entries entries (length entries - 1) 1 (grown ∷ []))
          ≡ segments_uses page size (front ++ (grown ∷ [])) = ap (segments_uses page size) new_is in
          let old_uses : segments_uses page size entries ≡ segments_uses page size (front ++ (last ∷ [])) =
          ap (segments_uses page size) shape in
          let a = segments_uses-append page size front (grown ∷ []) in
          let b = segments_uses-append page size front (last ∷ []) in
          let a1 = segments_uses-cons page size grown [] in
          let b1 = segments_uses-cons page size last [] in
          let rest = past-uses page run need in
          let two = covers-split page last.page had need in
          let grown_uses : covers page (segment_run size grown)
          ≡ covers page (record { page = last.page; pages = had + need }) =
          ap (λ (k : ℕ). covers page (record { page = last.page; pages = k })) count in
          let moved : covers page (record { page = last.page + had; pages = need })
          ≡ covers page (record { page = run.page; pages = min need run.pages }) =
          ap (λ (k : ℕ). covers page (record { page = k; pages = need })) (sym behind)
          ∙ ap (λ (k : ℕ). covers page (record { page = run.page; pages = k }))
          (let all : need ≡ min need run.pages = omega (arith, fits) in all) in
          omega (arith, new_uses, old_uses, a, b, a1, b1, rest, two, grown_uses, moved);
      spare_within = λ page. let rest = past-uses page run need in omega (arith, rest);
      follows = λ left is_left.
          let cut = past-some need run left is_left in
          let page = cut.0 in
          let pages = cut.1 in
          let P : Pair → Type 0 = λ x. (left.page ≡ x.page + page_count size x.bytes)
          × ((k : ℕ) × IsInSpace n k x.page (page_count size x.bytes + left.pages)) in
          let at_last : P (last_entry (front ++ (grown ∷ []))) = subst P (sym (last-append front grown)) (
            omega (arith, page, behind, count),
            (
              s,
              record {
                in_store = space.in_store;
                from = space.from;
                to =
                    omega (arith, space.to, count, pages);
              },
            ),
          ) in
          subst (λ (xs : List Pair). FollowsLast n xs left) (sym new_is)
          (record { some = append-some front grown; behind = at_last.0; together = at_last.1 });
    }

-- ---- the plan of a change

-- one made part goes on the spare, or all ask for pages
pub fit-cases : (size : ℕ) (appends : Bool) (spare : ℕ) (ns : List ℕ) →
    (fit_made size appends spare ns ≡ Fresh)
    ⊎ ((fit_made size appends spare ns ≡ Follow) × (appends ≡ true)
    × ((bytes : ℕ) × (ns ≡ bytes ∷ []) × (page_count size bytes ≤ spare)))
fit-cases size appends spare [] = inl refl
fit-cases size appends spare (bytes ∷ more ∷ ns) = inl refl
fit-cases size false spare (bytes ∷ []) = inl refl
fit-cases size true spare (bytes ∷ []) =
    elim (cases_Bool (nat_le (page_count size bytes) spare)) [
      | inl enough ↦ inr (rw (enough, fit_of), refl, (bytes, refl, leb-true (page_count size bytes) spare enough))
      | inr few ↦ inl (rw (few, fit_of))
    ]

-- an append grows the last segment only where its last page is full and the spare has room
pub extend-means : (size : ℕ) (entries : List Pair) (spare : ℕ) (change : Change) → fit_appended size entries spare change ≡ Extend →
    (page_count size change.added ≤ spare) × ((last_entry entries).bytes % size ≡ 0) × (change.appends ≡ true)
extend-means size entries spare change is =
    elim (cases_Bool change.appends) [
      | inr not_append ↦ absurd (fresh_is (sym (rw (not_append, fit_appended)) ∙ is))
      | inl append ↦
          elim (cases_Bool (nat_le (page_count size change.added) spare)) [
            | inr few ↦ absurd (fresh_is (sym (rw (append, few, fit_appended)) ∙ is))
            | inl enough ↦
                elim (cases_Bool (nat_eq ((last_entry entries).bytes % size) 0)) [
                  | inr part ↦ absurd (follow_is (sym (rw (append, enough, part, fit_appended)) ∙ is))
                  | inl full ↦ (
                    leb-true (page_count size change.added) spare enough,
                    eqb-true ((last_entry entries).bytes % size) 0 full,
                    append,
                  )
                ]
          ]
    ]
  where
    fresh_is : Fresh ≡ Extend → ⊥
    fresh_is same = cc

    follow_is : Follow ≡ Extend → ⊥
    follow_is same = cc
