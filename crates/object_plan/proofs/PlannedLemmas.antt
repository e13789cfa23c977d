-- What a plan of entries says of their bytes, and of what is asked for its parts.
use Rattle.std.proofs.Common.{◌≡◌, ℕ, ◌+◌, ◌-◌, ◌*◌, ◌<◌, ◌≤◌, true, List, [], ◌∷◌, ◌++◌, length, map, take, drop}
use Rattle.std.proofs.Common.{refl, sym, ap, subst, arith, ◌∙◌, inl, inr}
use Rattle.std.specs.List.{AllByRecursion}
use Rattle.std.proofs.lemmas.List.{append-nil, length-drop, drop_all, take_all}
use Rattle.std.proofs.lemmas.List.Sums.{sum_by-append, sum_by-cons}
use Rattle.base_laws.proofs.ListLaws.{all-map}
use Rattle.geometry_model.specs.Numbers.{Numbers, space_pages}
use Rattle.tree_model.specs.declared.entry.Pair.{Pair}
use Rattle.tree_model.specs.Tree.{IsSegment, bytes_of, page_count}
use Rattle.layout_model.specs.declared.change.Change.{Change}
use Rattle.layout_model.specs.declared.fit.Fit.{Fit}
use Rattle.layout_model.specs.declared.fit.Fit.TheVariants.{Extend, Follow, Fresh}
use Rattle.layout_model.specs.declared.part.Part.{Part}
use Rattle.layout_model.specs.declared.part.Part.TheVariants.{Keep, Make}
use Rattle.layout_model.specs.declared.request.Request.{Request}
use Rattle.layout_model.specs.Layout.{requests}
use Rattle.layout_model.specs.Parts.{part_bytes, parts_of}
use Rattle.layout_model.specs.Pack.{pack}
use Rattle.layout_model.specs.Plan.{Plan, fit_appended, last_entry, made_part_bytes, plan_extended, planned}
use Rattle.layout_laws.specs.Merging.{parts_bytes}
use Rattle.layout_laws.proofs.LevelLemmas.{three}
use Rattle.length_laws.proofs.LengthLemmas.{merged-bytes}
use Rattle.content_laws.specs.Spelling.{HaveBytes}
use Rattle.content_laws.proofs.PlanLemmas.{outer_back, outer_front, plan-whole}
use Rattle.content_laws.proofs.SpellingLemmas.{last-split}
use Rattle.change_laws.proofs.PartLemmas.{GoodPart, all-left, all-right, part-some, plan-good, segments-have}
use Rattle.change_laws.proofs.LayingLemmas.{extend-means, fit-cases, merged_plan}
use Rattle.laid_content_laws.proofs.LaidContentLemmas.{plan-cases}
use Rattle.window_laws.specs.Window.{wanted_behind}
use Rattle.edit_parts.specs.declared.part.Part as edit
use Rattle.edit_parts.specs.Parts.{layout_part}
use Rattle.object_plan.specs.Planned.{GoesTo}
use Rattle.object_plan.proofs.AskLemmas.{asked-for}
use Rattle.object_plan.proofs.TrimLemmas.{kept-parts}

-- ---- the bytes of parts

parts_append : (xs ys : List Part) → parts_bytes (xs ++ ys) ≡ parts_bytes xs + parts_bytes ys
parts_append [] ys = omega arith
parts_append (x ∷ xs) ys = let more = parts_append xs ys in omega (arith, more)

kept-total : (ps : List Pair) → parts_bytes (map Keep ps) ≡ bytes_of ps
kept-total [] = refl
kept-total (p ∷ ps) =
    let more = kept-total ps in
    let two = sum_by-cons (λ (q : Pair). q.bytes) p ps in
    omega (arith, more, two)

-- entries before, between and behind
three-bytes : (i j : ℕ) (ps : List Pair) → bytes_of ps ≡ bytes_of (take i ps) + (bytes_of (take j (drop i ps)) + bytes_of (drop (i + j) ps))
three-bytes i j ps =
    let b = λ (p : Pair). p.bytes in
    ap bytes_of (sym (three i j ps))
    ∙ (sum_by-append b (take i ps) (take j (drop i ps) ++ drop (i + j) ps)
    ∙ ap (λ (k : ℕ). bytes_of (take i ps) + k) (sum_by-append b (take j (drop i ps)) (drop (i + j) ps)))

-- ---- the bytes of a plan

-- as many bytes as the replaced entries have, without those that are removed and with those that are brought
abbrev HasItsBytes : List Pair → Change → Plan → Type 0
HasItsBytes entries change plan =
    parts_bytes plan.parts + change.removed ≡ bytes_of (take plan.count (drop plan.from entries)) + change.added

merged_bytes : (n : Numbers) (least : ℕ) (entries : List Pair) (spare : ℕ) (change : Change) → 0 < n.page → HaveBytes entries →
    change.at + change.removed ≤ bytes_of entries → HasItsBytes entries change (merged_plan n least entries spare change)
merged_bytes n least entries spare change some have within =
    let plan = merged_plan n least entries spare change in
    let total = merged-bytes n least spare entries change some have within in
    let front = map Keep (take plan.from entries) in
    let back = map Keep (drop (plan.from + plan.count) entries) in
    let one = parts_append front (plan.parts ++ back) in
    let two = parts_append plan.parts back in
    let front_is = kept-total (take plan.from entries) in
    let back_is = kept-total (drop (plan.from + plan.count) entries) in
    let all = three-bytes plan.from plan.count entries in
    omega (arith, total, one, two, front_is, back_is, all)

-- the last entry alone
last-alone : (entries : List Pair) → 0 < length entries →
    bytes_of (take 1 (drop (length entries - 1) entries)) ≡ (last_entry entries).bytes
last-alone entries some =
    let b = λ (p : Pair). p.bytes in
    let k = length entries - 1 in
    let last = last_entry entries in
    let rest = length-drop k entries in
    let all : take 1 (drop k entries) ≡ drop k entries = take_all 1 (drop k entries) (omega (arith, rest, some)) in
    let same = ap bytes_of all in
    let split = ap bytes_of (last-split entries some) in
    let both = sum_by-append b (take k entries) (last ∷ []) in
    let one = sum_by-cons b last [] in
    let none : bytes_of [] ≡ 0 = refl in
    let cut = three-bytes k 1 entries in
    let nothing : bytes_of (drop (k + 1) entries) ≡ 0 =
    ap bytes_of (drop_all (k + 1) entries (omega (arith, some))) in
    omega (arith, same, split, both, one, none, cut, nothing)

extended-bytes : (entries : List Pair) (change : Change) → 0 < length entries → change.removed ≡ 0 →
    HasItsBytes entries change (plan_extended entries change)
extended-bytes entries change some nothing =
    let last = last-alone entries some in
    omega (arith, last, nothing)

-- an append is made at the end, where it removes nothing; where it grows the last entry, there is one
pub record AppendsWell (n : Numbers) (entries : List Pair) (spare : ℕ) (change : Change) : Type 0 where
  pub nothing : change.appends ≡ true → change.removed ≡ 0
  pub there : fit_appended n.page entries spare change ≡ Extend → 0 < length entries

pub planned-bytes : (n : Numbers) (least : ℕ) (entries : List Pair) (spare : ℕ) (change : Change) → 0 < n.page → HaveBytes entries →
    change.at + change.removed ≤ bytes_of entries → AppendsWell n entries spare change →
    parts_bytes (planned n least entries spare change).parts + change.removed
    ≡ bytes_of (take (planned n least entries spare change).count (drop (planned n least entries spare change).from entries))
    + change.added
planned-bytes n least entries spare change some have within well =
    elim (plan-cases n least entries spare change) [
      | inl grows ↦
          subst (HasItsBytes entries change) (sym grows.1)
          (extended-bytes entries change (well.there grows.0) (well.nothing (extend-means n.page entries spare change grows.0).2))
      | inr merged ↦ subst (HasItsBytes entries change) (sym merged) (merged_bytes n least entries spare change some have within)
    ]

-- ---- each part of a plan

pub merged-good : (n : Numbers) (least : ℕ) (entries : List Pair) (spare : ℕ) (change : Change) → 0 < n.page → 0 < space_pages n →
    2 * least ≤ space_pages n → AllByRecursion (IsSegment n) entries →
    AllByRecursion (GoodPart n) (merged_plan n least entries spare change).parts
merged-good n least entries spare change some space high all =
    let plan = merged_plan n least entries spare change in
    let back = map Keep (drop (plan.from + plan.count) entries) in
    let whole = plan-good n least spare entries change some space high all in
    all-left (GoodPart n) plan.parts back (all-right (GoodPart n) (map Keep (take plan.from entries)) (plan.parts ++ back) whole)

pub planned-some : (n : Numbers) (least : ℕ) (entries : List Pair) (spare : ℕ) (change : Change) → 0 < n.page → 0 < space_pages n →
    2 * least ≤ space_pages n → AllByRecursion (IsSegment n) entries → 0 < change.removed + change.added →
    AppendsWell n entries spare change →
    AllByRecursion (λ part. 1 ≤ part_bytes part) (planned n least entries spare change).parts
planned-some n least entries spare change some space high all brings well =
    let P : Plan → Type 0 = λ plan. AllByRecursion (λ part. 1 ≤ part_bytes part) plan.parts in
    elim (plan-cases n least entries spare change) [
      | inl grows ↦
          let nothing = well.nothing (extend-means n.page entries spare change grows.0).2 in
          subst P (sym grows.1) (omega (arith, nothing, brings), tt)
      | inr merged ↦
          subst P (sym merged) (all-map (GoodPart n) (λ part. 1 ≤ part_bytes part) (part-some n)
          (merged_plan n least entries spare change).parts (merged-good n least entries spare change some space high all))
    ]

-- made parts have a byte and fit into a space
pub made-within : (n : Numbers) (parts : List Part) → AllByRecursion (GoodPart n) parts →
    AllByRecursion (λ bytes. (1 ≤ bytes) × (bytes ≤ space_pages n * n.page)) (made_part_bytes parts)
made-within n [] all = tt
made-within n (Keep p ∷ rest) all = made-within n rest all.1
made-within n (Make bytes ∷ rest) all = (all.0, made-within n rest all.1)

-- ---- what is asked for

made-append : (xs ys : List Part) → made_part_bytes (xs ++ ys) ≡ made_part_bytes xs ++ made_part_bytes ys
made-append [] ys = refl
made-append (Keep p ∷ xs) ys = made-append xs ys
made-append (Make bytes ∷ xs) ys = ap (λ (ns : List ℕ). bytes ∷ ns) (made-append xs ys)

made-kept : (ps : List Pair) → made_part_bytes (map Keep ps) ≡ []
made-kept [] = refl
made-kept (p ∷ ps) = made-kept ps

pub made-between : (front back : List Pair) (parts : List Part) →
    made_part_bytes (map Keep front ++ (parts ++ map Keep back)) ≡ made_part_bytes parts
made-between front back parts =
    made-append (map Keep front) (parts ++ map Keep back)
    ∙ (ap (λ (ns : List ℕ). ns ++ made_part_bytes (parts ++ map Keep back)) (made-kept front)
    ∙ (made-append parts (map Keep back)
    ∙ (ap (λ (ns : List ℕ). made_part_bytes parts ++ ns) (made-kept back) ∙ append-nil (made_part_bytes parts))))

-- the made parts of a plan are those of all merged parts
pub merged-made : (n : Numbers) (least : ℕ) (entries : List Pair) (spare : ℕ) (change : Change) → HaveBytes entries →
    made_part_bytes (merged_plan n least entries spare change).parts
    ≡ made_part_bytes (pack n.page least (parts_of n.page (space_pages n * n.page) entries change.at change.removed change.added))
merged-made n least entries spare change have =
    let plan = merged_plan n least entries spare change in
    let packed = pack n.page least (parts_of n.page (space_pages n * n.page) entries change.at change.removed change.added) in
    sym (made-between (take plan.from entries) (drop (plan.from + plan.count) entries) plan.parts)
    ∙ (ap made_part_bytes (plan-whole n.page least (space_pages n * n.page) entries spare change have)
    ∙ made-between (outer_front change.at entries) (outer_back (change.at + change.removed) entries) packed)

wanted-fresh : (n : Numbers) (entries : List Pair) (change : Change) (plan : Plan) → plan.fit ≡ Fresh →
    wanted_behind n entries change plan ≡ requests change.appends (page_count n.page (last_entry entries).bytes) (space_pages n)
    (map (page_count n.page) (made_part_bytes plan.parts))
wanted-fresh n entries change plan fresh = rw (fresh, wanted_behind)

wanted-follow : (n : Numbers) (entries : List Pair) (change : Change) (plan : Plan) → plan.fit ≡ Follow →
    wanted_behind n entries change plan ≡ []
wanted-follow n entries change plan follow = rw (follow, wanted_behind)

-- where the new bytes of a plan go
pub planned-goes : (n : Numbers) (least : ℕ) (entries : List Pair) (spare : ℕ) (outer change : Change) (parts : List edit.Part)
    (asked : List Request) → 0 < n.page → 0 < space_pages n → 2 * least ≤ space_pages n → AllByRecursion (IsSegment n) entries →
    map layout_part parts ≡ (planned n least entries spare change).parts →
    asked ≡ wanted_behind n entries outer (planned n least entries spare change) →
    GoesTo (planned n least entries spare change).fit n spare change.added parts asked
planned-goes n least entries spare outer change parts asked some space high all =
    elim (plan-cases n least entries spare change) [
      | inl grows ↦
          let means = extend-means n.page entries spare change grows.0 in
          let grown : Pair = record { bytes = (last_entry entries).bytes + change.added; page = (last_entry entries).page } in
          subst Goes (sym grows.1) (λ same want. (
            want,
            record {
              pair = grown;
              one = kept-parts parts (grown ∷ []) same;
              fits = means.0;
            },
          ))
      | inr merged ↦
          let plan = merged_plan n least entries spare change in
          let packed = pack n.page least (parts_of n.page (space_pages n * n.page) entries change.at change.removed change.added) in
          let have = segments-have n entries all in
          let made = merged-made n least entries spare change have in
          let good = made-within n plan.parts (merged-good n least entries spare change some space high all) in
          subst Goes (sym merged) (λ same want. elim (fit-cases n.page change.appends spare (made_part_bytes packed)) [
            | inl fresh ↦
                let size = n.page in
                let last = page_count size (last_entry entries).bytes in
                let ask = λ (ps : List Part). requests outer.appends last (space_pages n) (map (page_count size) (made_part_bytes ps)) in
                let is : asked ≡ ask (map layout_part parts) =
                want ∙ (wanted-fresh n entries outer plan fresh ∙ ap ask (sym same)) in
                let each : AllByRecursion (λ bytes. (1 ≤ bytes) × (bytes ≤ space_pages n * size))
                (made_part_bytes (map layout_part parts)) =
                subst (λ (ps : List Part). AllByRecursion (λ bytes. (1 ≤ bytes) × (bytes ≤ space_pages n * size)) (made_part_bytes ps))
                (sym same) good in
                let room : space_pages n * size ≤ space_pages n * size = omega arith in
                subst (λ (f : Fit). GoesTo f n spare change.added parts asked) (sym fresh)
                (subst (λ (rs : List Request). GoesTo Fresh n spare change.added parts rs) (sym is)
                (asked-for size (space_pages n) (space_pages n * size) last outer.appends parts some room each))
            | inr follow ↦
                let none = want ∙ wanted-follow n entries outer plan follow.0 in
                subst (λ (f : Fit). GoesTo f n spare change.added parts asked) (sym follow.0) (
                  none,
                  record {
                    bytes = follow.2.0;
                    one = ap made_part_bytes same ∙ (made ∙ follow.2.1);
                    fits = follow.2.2;
                  },
                )
          ])
    ]
  where
    Goes : Plan → Type 0
    Goes plan = map layout_part parts ≡ plan.parts → asked ≡ wanted_behind n entries outer plan →
        GoesTo plan.fit n spare change.added parts asked
