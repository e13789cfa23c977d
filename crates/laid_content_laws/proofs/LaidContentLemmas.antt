-- The entries of the new tree hold the edited bytes.
use Rattle.std.proofs.Common.{◌≡◌, ℕ, zero, suc, ◌+◌, ◌-◌, ◌*◌, ◌/◌, ◌%◌, ◌<◌, ◌≤◌, Option, Some, List, [], ◌∷◌, ◌++◌}
use Rattle.std.proofs.Common.{length, map, take, drop, refl, sym, ap, subst, arith, ◌∙◌, ◌⊎◌, inl, inr, append_assoc, length-append}
use Rattle.std.specs.List.{AllByRecursion}
use Rattle.std.proofs.lemmas.List.{append-nil, drop-drop, drop_all, take_all}
use Rattle.std.proofs.lemmas.List.Concat.{flat_map-append}
use Rattle.std.proofs.lemmas.List.Sums.{sum_by-cons}
use Rattle.std.proofs.lemmas.Nat.{div-add-mod'}
use Rattle.std.proofs.Math.Seq.{take-append-add, take-length}
use Rattle.geometry_model.specs.Numbers.{Numbers, IsInRange, space_pages, fan_out}
use Rattle.geometry_model.proofs.NumberLaws.{fan_out-low}
use Rattle.tree_model.specs.declared.entry.Pair.{Pair}
use Rattle.tree_model.specs.Tree.{Pages, bytes_of, page_count}
use Rattle.tree_model.specs.Content.{run_bytes, segment_bytes, content}
use Rattle.tree_model.proofs.PageCountLaws.{count-behind, count-full, count-some, run_bytes-add}
use Rattle.layout_model.specs.declared.change.Change.{Change}
use Rattle.layout_model.specs.declared.extent.Extent.{Extent}
use Rattle.layout_model.specs.declared.fit.Fit.{Fit}
use Rattle.layout_model.specs.declared.fit.Fit.TheVariants.{Extend, Follow, Fresh}
use Rattle.layout_model.specs.declared.part.Part.{Part}
use Rattle.layout_model.specs.declared.part.Part.TheVariants.{Keep, Make}
use Rattle.layout_model.specs.Layout.{Tree, Grants, tree_entries, plan_of, laid_parts, laid_entries, laid, as_run}
use Rattle.layout_model.specs.Levels.{entries_of_levels, nodes_of_levels, spliced}
use Rattle.layout_model.specs.Pack.{pack}
use Rattle.layout_model.specs.Parts.{parts_of}
use Rattle.layout_model.specs.Plan.{Plan, extent_pages, fit_appended, last_entry, made_part_bytes, plan_extended, planned}
use Rattle.layout_laws.proofs.LevelLemmas.{spliced-entries}
use Rattle.content_laws.specs.Spelling.{HaveBytes, IsThere, AreWritten, all_parts, edited_content, behind_last}
use Rattle.content_laws.proofs.SpellingLemmas.{content-length, laid-all, laid-holds, last-split, plan-spells}
use Rattle.moment_model.specs.Moment.{ObjectSlot}
use Rattle.moment_model.specs.Version.{IsGoodVersion, IsGood, covers}
use Rattle.moment_laws.proofs.GrantLemmas.{covers-cases}
use Rattle.tree_pages.specs.Stored.{StaysOn}
use Rattle.tree_pages.proofs.FrameLemmas.{content-stays}
use Rattle.change_laws.specs.Laying.{IsChange}
use Rattle.change_laws.specs.Tail.{IsTail}
use Rattle.change_laws.proofs.PieceLemmas.{segments_uses, segments_uses-cons, segments_uses-append}
use Rattle.change_laws.proofs.PartLemmas.{keeps, all-right, plan-uses, segments-have}
use Rattle.change_laws.proofs.LayingLemmas.{merged_plan, spliced_entries, fit-cases, extend-means}
use Rattle.change_laws.proofs.PlannedLemmas.{fresh-entries, follow-entries, packed-object, some-run, suited-out}
use Rattle.laid_content_laws.specs.Written.{IsGrantedChange, OthersStay, AreMade, behind_front, IsWrittenBy, IsWritten}
use Rattle.laid_content_laws.proofs.StayLemmas.{working-stays}

-- the pages of these segments hold what they held
abbrev pub PagesStay : ℕ → List Pair → Pages → Pages → Type 0
PagesStay size pairs at now = (page : ℕ) → 0 < segments_uses page size pairs → now page ≡ at page

-- ---- kept parts

segment-stays : (at now : Pages) (size : ℕ) (p : Pair) → PagesStay size (p ∷ []) at now → segment_bytes now size p ≡ segment_bytes at size p
segment-stays at now size p stay =
    sym (append-nil (segment_bytes now size p)) ∙ (content-stays at now size (p ∷ []) stay ∙ append-nil (segment_bytes at size p))

-- where the pages of kept parts stay, nothing but the made ones has to be written
made-written : (at now : Pages) (size : ℕ) (parts : List Part) (runs : List (List Extent)) (bytes : List ℕ) →
    PagesStay size (keeps parts) at now → AreMade now size parts runs bytes → AreWritten at now size parts runs bytes
made-written at now size [] runs bytes stay made = tt
made-written at now size (Keep p ∷ rest) runs bytes stay made = (
  segment-stays at now size p (λ page used.
      let all = segments_uses-cons page size p (keeps rest) in
      let one = segments_uses-cons page size p [] in
      stay page (omega (arith, all, one, used))),
  made-written at now size rest runs (drop p.bytes bytes) (λ page used.
      let all = segments_uses-cons page size p (keeps rest) in
      stay page (omega (arith, all, used))) made,
)
made-written at now size (Make count ∷ rest) [] bytes stay made = absurd made
made-written at now size (Make count ∷ rest) (run ∷ runs) bytes stay made =
    (made.0, made-written at now size rest runs (drop count bytes) stay made.1)

made-front : (now : Pages) (size : ℕ) (xs : List Pair) (parts : List Part) (runs : List (List Extent)) (bytes : List ℕ) →
    AreMade now size parts runs (drop (bytes_of xs) bytes) → AreMade now size (map Keep xs ++ parts) runs bytes
made-front now size [] parts runs bytes made = made
made-front now size (x ∷ xs) parts runs bytes made =
    let all = sum_by-cons (λ (p : Pair). p.bytes) x xs in
    made-front now size xs parts runs (drop x.bytes bytes)
    (subst (AreMade now size parts runs) (ap (λ (k : ℕ). drop k bytes) all ∙ sym (drop-drop (bytes_of xs) x.bytes bytes)) made)

made-back : (now : Pages) (size : ℕ) (parts : List Part) (xs : List Pair) (runs : List (List Extent)) (bytes : List ℕ) →
    AreMade now size parts runs bytes → AreMade now size (parts ++ map Keep xs) runs bytes
made-back now size [] xs runs bytes made = kept xs bytes
  where
    kept : (xs : List Pair) (bytes : List ℕ) → AreMade now size (map Keep xs) runs bytes
    kept [] bytes = tt
    kept (x ∷ xs) bytes = kept xs (drop x.bytes bytes)
made-back now size (Keep p ∷ rest) xs runs bytes made = made-back now size rest xs runs (drop p.bytes bytes) made
made-back now size (Make count ∷ rest) xs [] bytes made = absurd made
made-back now size (Make count ∷ rest) xs (run ∷ runs) bytes made = (made.0, made-back now size rest xs runs (drop count bytes) made.1)

-- ---- a plan whose parts are merged

-- an object whose pages are there, and a change within it
pub record IsEdited (n : Numbers) (at : Pages) (entries : List Pair) (change : Change) (payload : List ℕ) : Type 0 where
  pub page : 0 < n.page
  pub have : HaveBytes entries
  pub there : AllByRecursion (IsThere at n.page) entries
  pub within : change.at + change.removed ≤ bytes_of entries
  pub paid : length payload ≡ change.added

-- what is laid out on these runs, where the made parts are written
merged-holds : (n : Numbers) (at now : Pages) (least : ℕ) (entries : List Pair) (pages : ℕ) (change : Change)
    (runs : List (List Extent)) (payload : List ℕ) → IsEdited n at entries change payload → PagesStay n.page entries at now →
    AreMade now n.page (merged_plan n least entries pages change).parts runs
    (behind_front entries (merged_plan n least entries pages change) (edited_content at n.page entries change payload)) →
    content now n.page (spliced_entries entries (merged_plan n least entries pages change).from
    (merged_plan n least entries pages change).count
    (laid_parts n.page (merged_plan n least entries pages change).parts runs))
    ≡ edited_content at n.page entries change payload
merged-holds n at now least entries pages change runs payload is stay made =
    let size = n.page in
    let most = space_pages n * size in
    let plan = merged_plan n least entries pages change in
    let bytes = edited_content at size entries change payload in
    let spelled = plan-spells at size least most entries pages change payload is.page is.have is.there is.within is.paid in
    let all = made-front now size (take plan.from entries) (plan.parts ++ map Keep (drop (plan.from + plan.count) entries)) runs bytes
    (made-back now size plan.parts (drop (plan.from + plan.count) entries) runs (behind_front entries plan bytes) made) in
    let kept : PagesStay size (keeps (all_parts entries plan)) at now = λ page used.
    let few = plan-uses page size least most pages entries change is.page is.have in
    stay page (omega (arith, few, used)) in
    let written = made-written at now size (all_parts entries plan) runs bytes kept all in
    ap (content now size) (sym (laid-all size entries plan runs))
    ∙ laid-holds at now size (all_parts entries plan) runs bytes spelled written

-- ---- a tail that grows

-- full pages have all their bytes
full-run : (at : Pages) (size first count : ℕ) → ((k : ℕ) → k < count → length (at (first + k)) ≡ size) →
    length (run_bytes at first count) ≡ count * size
full-run at size first zero there = let none : 0 ≡ 0 * size = omega arith in none
full-run at size first (suc count) there =
    let both = length-append (at first) (run_bytes at (first + 1) count) in
    let same : first ≡ first + 0 = omega arith in
    let here : length (at (first + 0)) ≡ size = there 0 (omega arith) in
    let one : length (at first) ≡ size = ap (λ (f : ℕ). length (at f)) same ∙ here in
    let rest = full-run at size (first + 1) count (λ k below.
    let moved : first + 1 + k ≡ first + (k + 1) = omega arith in
    ap (λ (f : ℕ). length (at f)) moved ∙ there (k + 1) (omega (arith, below))) in
    let rows : suc count * size ≡ size + count * size = grind arith in
    omega (arith, both, one, rest, rows)

-- a segment with its last page full, and the bytes behind it, however many of their last page are there
grown-holds : (now : Pages) (size : ℕ) (p : Pair) (count : ℕ) → 0 < size → p.bytes % size ≡ 0 → IsThere now size p →
    segment_bytes now size (record { bytes = p.bytes + count; page = p.page })
    ≡ segment_bytes now size p ++ segment_bytes now size (record { bytes = count; page = p.page + page_count size p.bytes })
grown-holds now size p count some full there =
    let pages = p.bytes / size in
    let whole = div-add-mod' p.bytes size in
    let even : p.bytes ≡ pages * size = omega (arith, whole, full) in
    let counted : page_count size p.bytes ≡ pages = ap (page_count size) even ∙ count-full size pages some in
    let grown : page_count size (p.bytes + count) ≡ page_count size p.bytes + page_count size count =
    ap (λ (k : ℕ). page_count size (k + count)) even
    ∙ (count-behind size pages count some ∙ ap (λ (k : ℕ). k + page_count size count) (sym counted)) in
    let old = run_bytes now p.page (page_count size p.bytes) in
    let new = run_bytes now (p.page + page_count size p.bytes) (page_count size count) in
    let run : run_bytes now p.page (page_count size (p.bytes + count)) ≡ old ++ new =
    ap (run_bytes now p.page) grown ∙ run_bytes-add now p.page (page_count size p.bytes) (page_count size count) in
    let long : length old ≡ p.bytes =
    full-run now size p.page (page_count size p.bytes) there ∙ (ap (λ (k : ℕ). k * size) counted ∙ sym even) in
    let all : take p.bytes old ≡ old = ap (λ (k : ℕ). take k old) (sym long) ∙ take-length old in
    ap (take (p.bytes + count)) run
    ∙ (ap (λ (k : ℕ). take (k + count) (old ++ new)) (sym long)
    ∙ (take-append-add old new count ∙ ap (λ (xs : List ℕ). xs ++ take count new) (sym all)))

-- the segment whose pages stay is there as before
there-stays : (at now : Pages) (size : ℕ) (p : Pair) → PagesStay size (p ∷ []) at now → IsThere at size p → IsThere now size p
there-stays at now size p stay there k below =
    let inside = covers-run p.page (page_count size p.bytes) k below in
    let one = segments_uses-cons (p.page + k) size p [] in
    ap length (stay (p.page + k) (omega (arith, one, inside))) ∙ there k below
  where
    covers-run : (first count k : ℕ) → k < count → covers (first + k) (record { page = first; pages = count }) ≡ 1
    covers-run first count k below =
        elim (covers-cases (first + k) (record { page = first; pages = count })) [
          | inl inside ↦ inside.0
          | inr outside ↦
              elim outside.1 [
                | inl before ↦ absurd (omega (arith, before))
                | inr behind ↦ absurd (omega (arith, behind, below))
              ]
        ]

extended-holds : (n : Numbers) (at now : Pages) (entries : List Pair) (change : Change) (runs : List (List Extent)) (payload : List ℕ) →
    IsEdited n at entries change payload → PagesStay n.page entries at now → 0 < length entries →
    (last_entry entries).bytes % n.page ≡ 0 → change.at ≡ bytes_of entries → change.removed ≡ 0 →
    segment_bytes now n.page (behind_last n.page entries change.added) ≡ payload →
    content now n.page (spliced_entries entries (plan_extended entries change).from (plan_extended entries change).count
    (laid_parts n.page (plan_extended entries change).parts runs))
    ≡ edited_content at n.page entries change payload
extended-holds n at now entries change runs payload is stay any full end nothing written =
    let size = n.page in
    let last = last_entry entries in
    let grown : Pair = record { bytes = last.bytes + change.added; page = last.page } in
    let front = take (length entries - 1) entries in
    let seg = segment_bytes now size in
    let shape : entries ≡ front ++ (last ∷ []) = last-split entries any in
    let reach : length entries - 1 + 1 ≡ length entries = omega (arith, any) in
    let none : drop (length entries - 1 + 1) entries ≡ [] = ap (λ (k : ℕ). drop k entries) reach
    ∙ drop_all (length entries) entries (omega arith) in
    let last_stays : PagesStay size (last ∷ []) at now = λ page used.
    let two = segments_uses-append page size front (last ∷ []) in
    let all : segments_uses page size entries ≡ segments_uses page size (front ++ (last ∷ [])) = ap (segments_uses page size) shape in
    stay page (omega (arith, two, all, used)) in
    let last_there = (all-right (IsThere at size) front (last ∷ []) (subst (AllByRecursion (IsThere at size)) shape is.there)).0 in
    let both : seg grown ≡ seg last ++ payload =
    grown-holds now size last change.added is.page full (there-stays at now size last last_stays last_there)
    ∙ ap (λ (xs : List ℕ). seg last ++ xs) written in
    let old : content now size front ++ (seg last ++ []) ≡ content at size entries =
    sym (flat_map-append seg front (last ∷ []))
    ∙ (sym (ap (content now size) shape) ∙ content-stays at now size entries stay) in
    let new : content now size (front ++ ((grown ∷ []) ++ drop (length entries - 1 + 1) entries))
    ≡ content at size entries ++ payload =
    ap (λ (xs : List Pair). content now size (front ++ ((grown ∷ []) ++ xs))) none
    ∙ (flat_map-append seg front (grown ∷ [])
    ∙ (ap (λ (xs : List ℕ). content now size front ++ (xs ++ [])) both
    ∙ (regroup (content now size front) (seg last) payload ∙ ap (λ (xs : List ℕ). xs ++ payload) old))) in
    new ∙ sym (appended-content n at entries change payload is end nothing)
  where
    regroup : (a b c : List ℕ) → a ++ ((b ++ c) ++ []) ≡ (a ++ (b ++ [])) ++ c
    regroup a b c =
        ap (λ (xs : List ℕ). a ++ xs) (append-nil (b ++ c))
        ∙ (sym (append_assoc a b c) ∙ ap (λ (xs : List ℕ). (a ++ xs) ++ c) (sym (append-nil b)))

    appended-content : (n : Numbers) (at : Pages) (entries : List Pair) (change : Change) (payload : List ℕ) →
        IsEdited n at entries change payload → change.at ≡ bytes_of entries → change.removed ≡ 0 →
        edited_content at n.page entries change payload ≡ content at n.page entries ++ payload
    appended-content n at entries change payload is end nothing =
        let all = content at n.page entries in
        let long = content-length at n.page entries is.page is.there in
        let front : take change.at all ≡ all = take_all change.at all (omega (arith, long, end)) in
        let rest : drop (change.at + change.removed) all ≡ [] = drop_all (change.at + change.removed) all (omega (arith, long, end)) in
        ap (λ (xs : List ℕ). xs ++ (payload ++ drop (change.at + change.removed) all)) front
        ∙ (ap (λ (xs : List ℕ). all ++ (payload ++ xs)) rest ∙ ap (λ (xs : List ℕ). all ++ xs) (append-nil payload))

-- ---- the plan of a change

-- by how a plan meets the spare
pub written-as : (fit : Fit) (n : Numbers) (at now : Pages) (entries : List Pair) (spare : Option Extent) (change : Change) (plan : Plan)
    (runs : List (List Extent)) (payload : List ℕ) → plan.fit ≡ fit →
    IsWrittenBy plan.fit n at now entries spare change plan runs payload →
    IsWrittenBy fit n at now entries spare change plan runs payload
written-as fit n at now entries spare change plan runs payload is written =
    subst (λ (f : Fit). IsWrittenBy f n at now entries spare change plan runs payload) is written

-- a plan whose last segment grows, or one whose parts are merged
pub plan-cases : (n : Numbers) (least : ℕ) (entries : List Pair) (pages : ℕ) (change : Change) →
    ((fit_appended n.page entries pages change ≡ Extend) × (planned n least entries pages change ≡ plan_extended entries change))
    ⊎ (planned n least entries pages change ≡ merged_plan n least entries pages change)
unfolding planned
plan-cases n least entries pages change = go (fit_appended n.page entries pages change) refl
  where
    go : (fit : Fit) → fit_appended n.page entries pages change ≡ fit →
        ((fit_appended n.page entries pages change ≡ Extend) × (planned n least entries pages change ≡ plan_extended entries change))
        ⊎ (planned n least entries pages change ≡ merged_plan n least entries pages change)
    go Extend is = inl (is, rw (is, planned) refl)
    go Follow is = inr (rw (is, planned) refl)
    go Fresh is = inr (rw (is, planned) refl)

-- where the bytes of a plan are written, what it lays out holds the edited bytes
abbrev pub HoldsEdited : Numbers → Pages → Pages → Tree → Option Extent → Change → List (List Extent) → List ℕ → Plan → Type 0
HoldsEdited n at now tree spare change runs payload plan =
    IsWrittenBy plan.fit n at now (tree_entries tree) spare change plan runs payload →
    content now n.page (spliced_entries (tree_entries tree) plan.from plan.count (laid_entries n spare plan runs))
    ≡ edited_content at n.page (tree_entries tree) change payload

merged-edited : (n : Numbers) (at now : Pages) (tree : Tree) (spare : Option Extent) (change : Change) (runs : List (List Extent))
    (payload : List ℕ) → IsEdited n at (tree_entries tree) change payload → PagesStay n.page (tree_entries tree) at now →
    HoldsEdited n at now tree spare change runs payload
    (merged_plan n tree.threshold (tree_entries tree) (extent_pages spare) change)
merged-edited n at now tree spare change runs payload is stay written =
    let entries = tree_entries tree in
    let pages = extent_pages spare in
    let plan = merged_plan n tree.threshold entries pages change in
    let packed = pack n.page tree.threshold (parts_of n.page (space_pages n * n.page) entries change.at change.removed change.added) in
    let laid_as = λ (new : List Pair). content now n.page (spliced_entries entries plan.from plan.count new) in
    elim (fit-cases n.page change.appends pages (made_part_bytes packed)) [
      | inl fresh ↦
          ap laid_as (fresh-entries n spare plan runs fresh)
          ∙ merged-holds n at now tree.threshold entries pages change runs payload is stay
          (written-as Fresh n at now entries spare change plan runs payload fresh written)
      | inr follow ↦
          ap laid_as (follow-entries n spare plan runs follow.0)
          ∙ merged-holds n at now tree.threshold entries pages change (as_run spare) payload is stay
          (written-as Follow n at now entries spare change plan runs payload follow.0 written)
    ]

extended-edited : (n : Numbers) (at now : Pages) (tree : Tree) (spare : Option Extent) (change : Change) (runs : List (List Extent))
    (payload : List ℕ) → IsEdited n at (tree_entries tree) change payload → PagesStay n.page (tree_entries tree) at now →
    IsTail n (Some tree) spare → IsChange tree change →
    fit_appended n.page (tree_entries tree) (extent_pages spare) change ≡ Extend →
    HoldsEdited n at now tree spare change runs payload (plan_extended (tree_entries tree) change)
extended-edited n at now tree spare change runs payload is stay tail changes fit written =
    let entries = tree_entries tree in
    let means = extend-means n.page entries (extent_pages spare) change fit in
    let end = changes.at_end means.2 in
    let nothing = end.1 in
    let bring = changes.some in
    let some : 0 < change.added = omega (arith, nothing, bring) in
    let any = count-some n.page change.added is.page some in
    let run = some-run n tree spare (page_count n.page change.added) tail (omega (arith, any)) means.0 in
    extended-holds n at now entries change runs payload is stay run.3.some means.1 end.0 nothing written

pub planned-edited : (n : Numbers) (at now : Pages) (tree : Tree) (spare : Option Extent) (change : Change) (runs : List (List Extent))
    (payload : List ℕ) → IsEdited n at (tree_entries tree) change payload → PagesStay n.page (tree_entries tree) at now →
    IsTail n (Some tree) spare → IsChange tree change →
    HoldsEdited n at now tree spare change runs payload (plan_of n tree spare change)
planned-edited n at now tree spare change runs payload is stay tail changes =
    let P : Plan → Type 0 = HoldsEdited n at now tree spare change runs payload in
    elim (plan-cases n tree.threshold (tree_entries tree) (extent_pages spare) change) [
      | inl grows ↦ subst P (sym grows.1) (extended-edited n at now tree spare change runs payload is stay tail changes grows.0)
      | inr merged ↦ subst P (sym merged) (merged-edited n at now tree spare change runs payload is stay)
    ]

-- ---- the tree after a change

pub laid-edited : (n : Numbers) (slot : ObjectSlot) (tree : Tree) (change : Change) (grants : Grants)
    (at now : Pages) (payload : List ℕ) → IsInRange n → IsGrantedChange n slot tree change grants →
    AllByRecursion (IsThere at n.page) (tree_entries tree) → length payload ≡ change.added →
    OthersStay slot grants at now → IsWritten n at now tree slot.spare change grants payload →
    content now n.page (tree_entries (laid n tree slot.spare change grants).tree)
    ≡ edited_content at n.page (tree_entries tree) change payload
unfolding laid
laid-edited n slot tree change grants at now payload range is there paid stay written =
    let spare = slot.spare in
    let entries = tree_entries tree in
    let plan = plan_of n tree spare change in
    let wide = fan_out-low n range in
    let good : IsGood n tree = subst (IsGoodVersion IsGood n) is.working is.sound.working in
    let object = packed-object n tree range good in
    let edited : IsEdited n at entries change payload = record {
      page = object.page;
      have = segments-have n entries good.segments;
      there = there;
      within = is.within.within;
      paid = paid;
    } in
    let lays = suited-out n tree spare change grants object is.tail is.within is.suits in
    let new = laid_entries n spare plan grants.runs in
    let same : entries_of_levels (nodes_of_levels (spliced (fan_out n) tree.levels plan.from plan.count new grants.pages))
    ≡ spliced_entries entries plan.from plan.count new =
    spliced-entries (fan_out n) tree.levels plan.from plan.count new grants.pages (omega (arith, wide)) lays.inside in
    let stays : StaysOn n (Some tree) at now =
    subst (λ v. StaysOn n v at now) is.working (working-stays n slot tree change grants at now is stay) in
    let pages : PagesStay n.page entries at now = λ page used. stays page (omega (arith, used)) in
    ap (content now n.page) same
    ∙ planned-edited n at now tree spare change grants.runs payload edited pages is.tail is.within written
