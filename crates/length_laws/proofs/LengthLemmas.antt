-- The bytes of a tree after a change: its parts spell the edited bytes, and what is laid out has as many as its parts.
use Rattle.std.proofs.Common.{◌≡◌, ℕ, ◌+◌, ◌-◌, ◌*◌, ◌<◌, ◌≤◌, min, Bool, true, false, Option, Some}
use Rattle.std.proofs.Common.{None, List, [], ◌∷◌, ◌++◌, length, map, take, drop, replicate, refl, sym, ap, subst}
use Rattle.std.proofs.Common.{arith, ◌∙◌, inl, inr}
use Rattle.std.specs.Prelude.{nat_le, nat_eq, if◌then◌else◌}
use Rattle.std.specs.List.{AllByRecursion}
use Rattle.std.proofs.lemmas.Bool.{cases_Bool, cases_lt, leb-true, le-leb, eqb-true, eqb-false, false≢true}
use Rattle.std.specs.Option.{unwrap_or}
use Rattle.std.proofs.lemmas.List.{length-append, length-drop, length-take-le, length-replicate}
use Rattle.std.proofs.lemmas.List.Sums.{sum_by-cons, sum_by-append}
use Rattle.std.proofs.lemmas.Nat.{mul-le}
use Rattle.std.proofs.Math.ListN.{drop_of_length-le}
use Rattle.geometry_model.specs.Numbers.{Numbers, IsInRange, space_pages, fan_out}
use Rattle.geometry_model.proofs.NumberLaws.{fan_out-low}
use Rattle.eos_ops.specs.declared.edit.Edit.{Edit}
use Rattle.eos_ops.specs.declared.edit.Edit.TheVariants.{Create, Destroy, Append, Insert, Delete, Replace}
use Rattle.eos_ops.specs.declared.plain.Plain.{Plain}
use Rattle.eos_ops.specs.Edits.{edited}
use Rattle.tree_model.specs.declared.entry.Pair.{Pair}
use Rattle.tree_model.specs.Tree.{Pages, bytes_of, page_count}
use Rattle.tree_model.specs.Content.{content}
use Rattle.layout_model.specs.declared.change.Change.{Change}
use Rattle.layout_model.specs.declared.extent.Extent.{Extent}
use Rattle.layout_model.specs.declared.fit.Fit.{Fit}
use Rattle.layout_model.specs.declared.fit.Fit.TheVariants.{Extend, Follow, Fresh}
use Rattle.layout_model.specs.declared.part.Part.{Part}
use Rattle.layout_model.specs.declared.part.Part.TheVariants.{Keep, Make}
use Rattle.layout_model.specs.Parts.{parts_of}
use Rattle.layout_model.specs.Pack.{pack}
use Rattle.layout_model.specs.Plan.{Plan, extent_pages, made_part_bytes, fit_appended, plan_extended, planned, last_entry}
use Rattle.layout_model.specs.Grants.{Spaces, Answer}
use Rattle.layout_model.specs.Grants.Answer.{Got, Refused}
use Rattle.layout_model.specs.Layout.{Tree, Grants, tree_entries, plan_of, segments_on}
use Rattle.layout_model.specs.Layout.{laid_parts, as_run, laid_entries, granted, laid}
use Rattle.layout_laws.specs.Halving.{runs_pages}
use Rattle.layout_laws.specs.Merging.{parts_bytes}
use Rattle.layout_laws.proofs.LevelLemmas.{spliced-entries}
use Rattle.layout_laws.proofs.HalvingLemmas.{no_grant, got_same}
use Rattle.content_laws.specs.Spelling.{HaveBytes, IsThere, Spells, all_parts, edited_content}
use Rattle.tree_model.proofs.PageCountLaws.{count-holds, count-some}
use Rattle.content_laws.proofs.SpellingLemmas.{content-length, plan-spells, laid-all, last-split}
use Rattle.moment_model.specs.Version.{Version, IsGood, IsGoodVersion, tree_bytes, version_bytes}
use Rattle.moment_model.specs.Moment.{ObjectSlot}
use Rattle.moment_model.specs.Edit.{Effect, Refuses, Stays, Becomes, Changes}
use Rattle.moment_model.specs.Edit.{change_within, change_at, effect_on, with_working, on_grants, after_effect}
use Rattle.moment_model.specs.Edit.{edited_length, edited_slot}
use Rattle.moment_model.specs.Run.{Lays}
use Rattle.moment_laws.specs.Granting.{AreSpaces}
use Rattle.change_laws.specs.Laying.{IsChange}
use Rattle.change_laws.specs.Suiting.{HoldsPart, SuitPlan, IsSuited}
use Rattle.change_laws.specs.Tail.{IsTail}
use Rattle.change_laws.proofs.PartLemmas.{segments-have}
use Rattle.change_laws.proofs.SuitLemmas.{fresh-suits, granted-suits}
use Rattle.change_laws.proofs.SegmentLemmas.{Matched, matched-front, matched-back, matched-from}
use Rattle.change_laws.proofs.LayingLemmas.{spliced_entries, IsPackedObject, merged_plan, fit-cases, extend-means}
use Rattle.change_laws.proofs.PlannedLemmas.{suited-out, packed-object, some-run, fresh-entries, follow-entries, followed}
use Rattle.effect_laws.specs.Lengths.{plain_length}
use Rattle.effect_laws.proofs.EffectLemmas.{edited-length}
use Rattle.length_laws.specs.KeepsLength.{KeepsLength}

-- ---- parts that spell bytes have as many

pub spelled-bytes : (at : Pages) (size : ℕ) (parts : List Part) (bytes : List ℕ) → Spells at size parts bytes →
    parts_bytes parts ≡ length bytes
spelled-bytes at size [] bytes none = sym (ap length none)
spelled-bytes at size (Keep pair ∷ rest) bytes spelled =
    let within = spelled.0 in
    let more = spelled-bytes at size rest (drop pair.bytes bytes) spelled.2 in
    let left = length-drop pair.bytes bytes in
    omega (arith, within, more, left)
spelled-bytes at size (Make count ∷ rest) bytes spelled =
    let within = spelled.0 in
    let more = spelled-bytes at size rest (drop count bytes) spelled.1 in
    let left = length-drop count bytes in
    omega (arith, within, more, left)

-- pages that are all there
abbrev zeros : ℕ → Pages
zeros size page = replicate size 0

all-there : (size : ℕ) (entries : List Pair) → AllByRecursion (IsThere (zeros size) size) entries
all-there size [] = tt
all-there size (p ∷ ps) = (λ k within. length-replicate size 0, all-there size ps)

-- the parts of a merged plan have the bytes of the object, but for those that go, and those that come
pub merged-bytes : (n : Numbers) (least spare : ℕ) (entries : List Pair) (change : Change) → 0 < n.page →
    HaveBytes entries → change.at + change.removed ≤ bytes_of entries →
    parts_bytes (all_parts entries (merged_plan n least entries spare change)) + change.removed ≡ bytes_of entries + change.added
merged-bytes n least spare entries change some have within =
    let at = zeros n.page in
    let all = content at n.page entries in
    let payload = replicate change.added 0 in
    let there = all-there n.page entries in
    let paid = length-replicate change.added 0 in
    let long = content-length at n.page entries some there in
    let spelled = plan-spells at n.page least (space_pages n * n.page) entries spare change payload some have there within paid in
    let bytes = spelled-bytes at n.page (all_parts entries (merged_plan n least entries spare change))
    (edited_content at n.page entries change payload) spelled in
    let front = length-take-le change.at all (omega (arith, long, within)) in
    let back = length-drop (change.at + change.removed) all in
    let outer = length-append (take change.at all) (payload ++ drop (change.at + change.removed) all) in
    let inner = length-append payload (drop (change.at + change.removed) all) in
    omega (arith, bytes, front, back, outer, inner, long, paid, within)

-- ---- what is laid out has the bytes of its parts

segments_on-bytes : (size bytes : ℕ) (runs : List Extent) → bytes ≤ runs_pages runs * size → bytes_of (segments_on size bytes runs) ≡ bytes
segments_on-bytes size bytes [] fits = omega (arith, fits)
segments_on-bytes size bytes (run ∷ rest) fits =
    let first : Pair = record { bytes = min bytes (run.pages * size); page = run.page } in
    let one = sum_by-cons (λ (p : Pair). p.bytes) first (segments_on size (bytes - run.pages * size) rest) in
    let spread : (run.pages + runs_pages rest) * size ≡ run.pages * size + runs_pages rest * size = omega arith in
    let more = segments_on-bytes size (bytes - run.pages * size) rest (omega (arith, fits, spread)) in
    omega (arith, one, more)

part-bytes : (size least bytes : ℕ) (runs : List Extent) → 0 < size → HoldsPart size least bytes runs →
    bytes_of (segments_on size bytes runs) ≡ bytes
part-bytes size least bytes runs some (inl one) =
    let enough = count-holds size bytes some in
    let fits = mul-le (page_count size bytes) size one.0.pages size one.2 (omega arith) in
    let pages : runs_pages runs ≡ one.0.pages + 0 = ap runs_pages one.1 in
    let all : runs_pages runs * size ≡ (one.0.pages + 0) * size = ap (λ (k : ℕ). k * size) pages in
    let plain : (one.0.pages + 0) * size ≡ one.0.pages * size = omega arith in
    segments_on-bytes size bytes runs (omega (arith, enough, fits, all, plain))
part-bytes size least bytes runs some (inr halves) =
    let enough = count-holds size bytes some in
    let all : runs_pages runs * size ≡ page_count size bytes * size = ap (λ (k : ℕ). k * size) halves.1.together in
    segments_on-bytes size bytes runs (omega (arith, enough, all))

laid-bytes : (size least : ℕ) (parts : List Part) (runs : List (List Extent)) → 0 < size →
    Matched size least parts runs → bytes_of (laid_parts size parts runs) ≡ parts_bytes parts
laid-bytes size least [] runs some matched = refl
laid-bytes size least (Keep p ∷ rest) runs some matched =
    let one = sum_by-cons (λ (q : Pair). q.bytes) p (laid_parts size rest runs) in
    let more = laid-bytes size least rest runs some matched in
    omega (arith, one, more)
laid-bytes size least (Make bytes ∷ rest) [] some matched = absurd matched
laid-bytes size least (Make bytes ∷ rest) (run ∷ runs) some matched =
    let both = sum_by-append (λ (q : Pair). q.bytes) (segments_on size bytes run) (laid_parts size rest runs) in
    let here = part-bytes size least bytes run some matched.0 in
    let more = laid-bytes size least rest runs some matched.1 in
    omega (arith, both, here, more)

-- ---- the new entries of a plan

-- a merged plan on matching runs
matched-entries : (n : Numbers) (least spare : ℕ) (entries : List Pair) (change : Change)
    (runs : List (List Extent)) → 0 < n.page → HaveBytes entries →
    change.at + change.removed ≤ bytes_of entries → Matched n.page least (merged_plan n least entries spare change).parts runs →
    bytes_of (spliced_entries entries (merged_plan n least entries spare change).from (merged_plan n least entries spare change).count
    (laid_parts n.page (merged_plan n least entries spare change).parts runs)) + change.removed ≡ bytes_of entries + change.added
matched-entries n least spare entries change runs some have within matched =
    let plan = merged_plan n least entries spare change in
    let whole = matched-front n.page least (take plan.from entries) (plan.parts ++ map Keep (drop (plan.from + plan.count) entries)) runs
    (matched-back n.page least plan.parts (drop (plan.from + plan.count) entries) runs matched) in
    let laid_is = laid-bytes n.page least (all_parts entries plan) runs some whole in
    let spliced_is = ap bytes_of (laid-all n.page entries plan runs) in
    let bytes = merged-bytes n least spare entries change some have within in
    omega (arith, laid_is, spliced_is, bytes)

-- a plan by which the last segment grows
extended-entries : (n : Numbers) (tree : Tree) (change : Change) (runs : List (List Extent))
    (spare : Option Extent) → 0 < length (tree_entries tree) → change.removed ≡ 0 →
    bytes_of (spliced_entries (tree_entries tree)
    (plan_extended (tree_entries tree) change).from (plan_extended (tree_entries tree) change).count
    (laid_entries n spare (plan_extended (tree_entries tree) change) runs)) + change.removed ≡ bytes_of (tree_entries tree) + change.added
extended-entries n tree change runs spare some nothing =
    let entries = tree_entries tree in
    let last = last_entry entries in
    let grown : Pair = record { bytes = last.bytes + change.added; page = last.page } in
    let front = take (length entries - 1) entries in
    let behind = drop (length entries - 1 + 1) entries in
    let whole = ap bytes_of (last-split entries some) in
    let split = sum_by-append (λ (p : Pair). p.bytes) front (last ∷ []) in
    let end = sum_by-cons (λ (p : Pair). p.bytes) last [] in
    let none : behind ≡ [] = drop_of_length-le entries (omega (arith, some)) in
    let no_bytes : bytes_of behind ≡ 0 = ap bytes_of none in
    let new = sum_by-append (λ (p : Pair). p.bytes) front (grown ∷ behind) in
    let first = sum_by-cons (λ (p : Pair). p.bytes) grown behind in
    omega (arith, whole, split, end, no_bytes, new, first, nothing)

-- the entries of any plan
planned-entries : (n : Numbers) (tree : Tree) (spare : Option Extent) (change : Change)
    (runs : List (List Extent)) → IsPackedObject n tree.threshold (tree_entries tree) →
    IsTail n (Some tree) spare → IsChange tree change → SuitPlan n tree change (plan_of n tree spare change) runs →
    bytes_of (spliced_entries (tree_entries tree)
    (plan_of n tree spare change).from (plan_of n tree spare change).count
    (laid_entries n spare (plan_of n tree spare change) runs)) + change.removed
    ≡ bytes_of (tree_entries tree) + change.added
unfolding planned
planned-entries n tree spare change runs object tail is suits =
    go (fit_appended n.page entries (extent_pages spare) change) refl suits
  where
    entries : List Pair
    entries = tree_entries tree

    IsCounted : Plan → Type 0
    IsCounted plan = bytes_of (spliced_entries (tree_entries tree) plan.from plan.count
        (laid_entries n spare plan runs)) + change.removed ≡ bytes_of (tree_entries tree) + change.added

    counted : SuitPlan n tree change (merged_plan n tree.threshold (tree_entries tree) (extent_pages spare) change) runs →
        IsCounted (merged_plan n tree.threshold (tree_entries tree) (extent_pages spare) change)
    counted suited =
        let plan = merged_plan n tree.threshold (tree_entries tree) (extent_pages spare) change in
        let have = segments-have n (tree_entries tree) object.segments in
        let packed = pack n.page tree.threshold (parts_of n.page (space_pages n * n.page)
        (tree_entries tree) change.at change.removed change.added) in
        elim (fit-cases n.page change.appends (extent_pages spare) (made_part_bytes packed)) [
          | inl fresh ↦
              let hold = fresh-suits n tree change plan runs fresh suited in
              let matched = matched-from n.page tree.threshold plan.parts runs hold.0 in
              subst (λ (new : List Pair). bytes_of
              (spliced_entries (tree_entries tree) plan.from plan.count new) + change.removed
              ≡ bytes_of (tree_entries tree) + change.added)
              (sym (fresh-entries n spare plan runs fresh))
              (matched-entries n tree.threshold (extent_pages spare) (tree_entries tree) change runs object.page have is.within matched)
          | inr follow ↦
              let follows = followed n tree spare change follow.2.0 object tail is follow.1 follow.2.1 follow.2.2 in
              subst (λ (new : List Pair). bytes_of
              (spliced_entries (tree_entries tree) plan.from plan.count new) + change.removed
              ≡ bytes_of (tree_entries tree) + change.added)
              (sym (follow-entries n spare plan runs follow.0))
              (matched-entries n tree.threshold (extent_pages spare)
              (tree_entries tree) change (as_run spare) object.page have is.within follows.matched)
        ]

    go : (fit : Fit) → fit_appended n.page (tree_entries tree) (extent_pages spare) change ≡ fit →
        SuitPlan n tree change (elim fit [
          | Extend ↦ plan_extended (tree_entries tree) change
          | _ ↦ merged_plan n tree.threshold (tree_entries tree) (extent_pages spare) change
        ]) runs →
        IsCounted (elim fit [
          | Extend ↦ plan_extended (tree_entries tree) change
          | _ ↦ merged_plan n tree.threshold (tree_entries tree) (extent_pages spare) change
        ])
    go Extend fit suited =
        let means = extend-means n.page (tree_entries tree) (extent_pages spare) change fit in
        let none = (is.at_end means.2).1 in
        let bring = is.some in
        let any = count-some n.page change.added object.page (omega (arith, none, bring)) in
        let run = some-run n tree spare (page_count n.page change.added) tail (omega (arith, any)) means.0 in
        extended-entries n tree change runs spare run.3.some none
    go Follow fit suited = counted suited
    go Fresh fit suited = counted suited

-- ---- a change, and an edit

pub laid-length : (n : Numbers) (tree : Tree) (spare : Option Extent) (change : Change)
    (grants : Grants) → IsInRange n → IsGood n tree →
    IsTail n (Some tree) spare → IsChange tree change → IsSuited n tree spare change grants →
    tree_bytes (laid n tree spare change grants).tree + change.removed ≡ tree_bytes tree + change.added
unfolding laid
laid-length n tree spare change grants range good tail is suits =
    let plan = plan_of n tree spare change in
    let wide = fan_out-low n range in
    let object = packed-object n tree range good in
    let lays = suited-out n tree spare change grants object tail is suits in
    let new = laid_entries n spare plan grants.runs in
    let entries = spliced-entries (fan_out n) tree.levels plan.from plan.count new grants.pages (omega (arith, wide)) lays.inside in
    let same = ap bytes_of entries in
    let counted = planned-entries n tree spare change grants.runs object tail is suits.runs in
    omega (arith, same, counted)

-- the length after the effect of an edit
abbrev pub HasLength : Version → Effect → Option ℕ → Type 0
HasLength version Refuses size = size ≡ version_bytes version
HasLength version Stays size = size ≡ version_bytes version
HasLength version (Becomes other) size = size ≡ version_bytes other
HasLength version (Changes tree change) size =
    (version ≡ Some tree) × IsChange tree change
    × (change.added + tree_bytes tree ≡ change.removed + unwrap_or size 0) × (size ≡ Some (unwrap_or size 0))

-- a change of a present object, by whether it lies within
change-length : (tree : Tree) (change : Change) (size : ℕ) →
    (change.appends ≡ true → (change.at ≡ tree_bytes tree) × (change.removed ≡ 0)) →
    (nat_le (change.at + change.removed) (tree_bytes tree) ≡ true → change.added + tree_bytes tree ≡ change.removed + size) →
    (nat_le (change.at + change.removed) (tree_bytes tree) ≡ false → size ≡ tree_bytes tree) →
    HasLength (Some tree) (change_within tree change) (Some size)
change-length tree change size ends inside outside =
    elim (cases_Bool (nat_le (change.at + change.removed) (tree_bytes tree))) [
      | inr past ↦
          let step : change_within tree change ≡ Refuses = rw (past, change_within) in
          subst (λ (e : Effect). HasLength (Some tree) e (Some size)) (sym step) (ap (λ (k : ℕ). Some k) (outside past))
      | inl within ↦
          elim (cases_Bool (nat_eq (change.removed + change.added) 0)) [
            | inl none ↦
                let step : change_within tree change ≡ Stays = rw (within, none, change_within) in
                let zero_sum = eqb-true (change.removed + change.added) 0 none in
                let sum = inside within in
                let same : size ≡ tree_bytes tree = omega (arith, zero_sum, sum) in
                subst (λ (e : Effect). HasLength (Some tree) e (Some size)) (sym step) (ap (λ (k : ℕ). Some k) same)
            | inr something ↦
                let step : change_within tree change ≡ Changes tree change = rw (within, something, change_within) in
                let any = eqb-false (change.removed + change.added) 0 something in
                let some : 0 < change.removed + change.added = elim (cases_lt 0 (change.removed + change.added)) [
                  | inl more ↦ more
                  | inr none ↦ absurd (any (omega (arith, none)))
                ] in
                let is : IsChange tree change = record {
                  within =
                      leb-true (change.at + change.removed) (tree_bytes tree) within;
                  some = some;
                  at_end = ends;
                } in
                subst (λ (e : Effect). HasLength (Some tree) e (Some size)) (sym step) (refl, is, inside within, refl)
          ]
    ]

no_append : {P : Type 0} → false ≡ true → P
no_append same = absurd (false≢true same)

-- a length by a test
by_test : (b : Bool) (x y : ℕ) → b ≡ true → (if b then x else y) ≡ x
by_test true x y is = refl
by_test false x y is = absurd (false≢true is)

by_no_test : (b : Bool) (x y : ℕ) → b ≡ false → (if b then x else y) ≡ y
by_no_test true x y is = absurd (false≢true (sym is))
by_no_test false x y is = refl

effect-length : (n : Numbers) (edit : Edit) (version : Version) →
    HasLength version (effect_on n edit version) (edited_length edit (version_bytes version))
effect-length n (Create threshold) None = refl
effect-length n (Create threshold) (Some tree) = refl
effect-length n Destroy None = refl
effect-length n Destroy (Some tree) = refl
effect-length n (Append bytes) None = refl
effect-length n (Append bytes) (Some tree) =
    change-length tree (change_at (tree_bytes tree) 0 (length bytes) true) (tree_bytes tree + length bytes) (λ append. (refl, refl))
    (λ within. omega arith)
    (λ past. absurd (false≢true (sym past ∙ le-leb (tree_bytes tree + 0) (tree_bytes tree) (omega arith))))
effect-length n (Insert at bytes) None = refl
effect-length n (Insert at bytes) (Some tree) =
    let size = tree_bytes tree in
    let plain : at + 0 ≡ at = omega arith in
    let test : nat_le (at + 0) size ≡ nat_le at size = ap (λ k. nat_le k size) plain in
    change-length tree (change_at at 0 (length bytes) false) (if nat_le at size then size + length bytes else size)
    (λ append. no_append append)
    (λ within. let is = by_test (nat_le at size) (size + length bytes) size (sym test ∙ within) in omega (arith, is))
    (λ past. by_no_test (nat_le at size) (size + length bytes) size (sym test ∙ past))
effect-length n (Delete at count) None = refl
effect-length n (Delete at count) (Some tree) =
    let size = tree_bytes tree in
    change-length tree (change_at at count 0 false) (if nat_le (at + count) size then size - count else size) (λ append. no_append append)
    (λ within.
    let is = by_test (nat_le (at + count) size) (size - count) size within in
    let inside = leb-true (at + count) size within in
    omega (arith, is, inside))
    (λ past. by_no_test (nat_le (at + count) size) (size - count) size past)
effect-length n (Replace at bytes) None = refl
effect-length n (Replace at bytes) (Some tree) =
    change-length tree (change_at at (length bytes) (length bytes) false) (tree_bytes tree) (λ append. no_append append)
    (λ within. omega arith) (λ past. refl)

-- the slot after an effect
effect-slot : (n : Numbers) (start : ℕ) (free left : Spaces) (slot after : ObjectSlot) (effect : Effect)
    (size : Option ℕ) → IsInRange n → IsGoodVersion IsGood n slot.working →
    IsTail n slot.working slot.spare → AreSpaces n free → HasLength slot.working effect size →
    after_effect n start free slot effect ≡ Got after left →
    (after.committed ≡ slot.committed) × (version_bytes after.working ≡ size)
effect-slot n start free left slot after Refuses size range good tail are has got =
    let same : slot ≡ after = got_same slot after free left got in
    (ap (λ (s : ObjectSlot). s.committed) (sym same), ap (λ (s : ObjectSlot). version_bytes s.working) (sym same) ∙ sym has)
effect-slot n start free left slot after Stays size range good tail are has got =
    let same : slot ≡ after = got_same slot after free left got in
    (ap (λ (s : ObjectSlot). s.committed) (sym same), ap (λ (s : ObjectSlot). version_bytes s.working) (sym same) ∙ sym has)
effect-slot n start free left slot after (Becomes version) size range good tail are has got =
    let same : with_working slot version None ≡ after = got_same (with_working slot version None) after free left got in
    (ap (λ (s : ObjectSlot). s.committed) (sym same), ap (λ (s : ObjectSlot). version_bytes s.working) (sym same) ∙ sym has)
effect-slot n start free left slot after (Changes tree change) size range good tail are has got =
    go (granted n start tree slot.spare change free) refl got
  where
    go : (answer : Answer Grants) → granted n start tree slot.spare change free ≡ answer →
        on_grants n slot tree change answer ≡ Got after left →
        (after.committed ≡ slot.committed) × (version_bytes after.working ≡ size)
    go (Refused pages) was got = absurd (no_grant pages after left got)
    go (Got grants rest) was got =
        let good_tree : IsGood n tree = subst (IsGoodVersion IsGood n) has.0 good in
        let tail_tree : IsTail n (Some tree) slot.spare = subst (λ (v : Version). IsTail n v slot.spare) has.0 tail in
        let new = laid n tree slot.spare change grants in
        let same : with_working slot (Some new.tree) new.spare ≡ after =
        got_same (with_working slot (Some new.tree) new.spare) after rest left got in
        let bytes = laid-length n tree slot.spare change grants range good_tree tail_tree has.1
        (granted-suits n start tree slot.spare change free rest grants are was) in
        let sum = has.2 in
        let long : tree_bytes new.tree ≡ unwrap_or size 0 = omega (arith, bytes, sum) in (
          ap (λ (s : ObjectSlot). s.committed) (sym same),
          ap (λ (s : ObjectSlot). version_bytes s.working) (sym same) ∙ (ap (λ (k : ℕ). Some k) long ∙ sym has.3),
        )

-- an edit of a tree
pub trees-keep_length : KeepsLength edited_slot IsGood
unfolding edited_slot
trees-keep_length n start free left slot after edit range good tail are got =
    effect-slot n start free left slot after (effect_on n edit slot.working)
    (edited_length edit (version_bytes slot.working)) range good tail are
    (effect-length n edit slot.working) got

-- version and plain object keep one length
pub lengths-equal : (laid : Lays) (good : Numbers → Tree → Type 0) (n : Numbers) (start : ℕ) (free left : Spaces)
    (slot after : ObjectSlot) (edit : Edit) (object : Plain) →
    KeepsLength laid good → IsInRange n → IsGoodVersion good n slot.working → IsTail n slot.working slot.spare → AreSpaces n free →
    version_bytes slot.working ≡ plain_length object → laid n start free slot edit ≡ Got after left →
    version_bytes after.working ≡ plain_length (edited edit object)
lengths-equal laid good n start free left slot after edit object keeps range fine tail are same got =
    (keeps n start free left slot after edit range fine tail are got).1
    ∙ (ap (edited_length edit) same ∙ sym (edited-length edit object))
