-- The edited bytes are those of a change's window, between the bytes on its two sides; so what is written as the plan of
-- the window has it is written as the plan of the whole object has it.
use Rattle.std.proofs.Common.{◌≡◌, ℕ, ◌+◌, ◌-◌, ◌*◌, ◌<◌, ◌≤◌, true, Option, List, [], ◌∷◌, ◌++◌, length, map, take, drop}
use Rattle.std.proofs.Common.{sym, ap, subst, arith, ◌∙◌, inl, inr, append_assoc, length-drop}
use Rattle.std.specs.List.{AllByRecursion}
use Rattle.std.proofs.lemmas.List.{drop-append-le, drop-drop, take-append-le}
use Rattle.std.proofs.lemmas.List.Concat.{flat_map-append}
use Rattle.std.proofs.lemmas.List.Sums.{sum_by-cons}
use Rattle.std.proofs.Math.Seq.{drop-append-add, take-append-add}
use Rattle.geometry_model.specs.Numbers.{Numbers, space_pages}
use Rattle.tree_model.specs.declared.entry.Pair.{Pair}
use Rattle.tree_model.specs.Content.{content, segment_bytes}
use Rattle.tree_model.specs.Tree.{Pages, bytes_of}
use Rattle.layout_model.specs.declared.change.Change.{Change}
use Rattle.layout_model.specs.declared.extent.Extent.{Extent}
use Rattle.layout_model.specs.declared.fit.Fit.{Fit}
use Rattle.layout_model.specs.declared.fit.Fit.TheVariants.{Extend, Follow, Fresh}
use Rattle.layout_model.specs.declared.part.Part.{Part}
use Rattle.layout_model.specs.declared.part.Part.TheVariants.{Keep, Make}
use Rattle.layout_model.specs.Layout.{Grants, Tree, as_run, tree_entries}
use Rattle.layout_model.specs.Pack.{pack}
use Rattle.layout_model.specs.Parts.{count_begun, parts_of}
use Rattle.layout_model.specs.Plan.{Plan, extent_pages, fit_appended, made_part_bytes, plan_extended, planned}
use Rattle.layout_laws.proofs.LevelLemmas.{three}
use Rattle.content_laws.specs.Spelling.{HaveBytes, IsThere, Spells, behind_last, edited_content}
use Rattle.content_laws.proofs.SideLemmas.{count_ended-within_list}
use Rattle.content_laws.proofs.SpellingLemmas.{content-length, plan-spells}
use Rattle.window_laws.specs.Window.{moved, shifted, window_at, window_from, window_start}
use Rattle.window_laws.proofs.CountLemmas.{ended-bytes, have-drop, have-take}
use Rattle.window_laws.proofs.SearchLemmas.{begun-reach}
use Rattle.window_laws.proofs.StretchLemmas.{bytes_of-next, window-border}
use Rattle.window_laws.proofs.WindowLemmas.{planned-on_window, window-last}
use Rattle.change_laws.specs.Laying.{IsChange}
use Rattle.change_laws.proofs.LayingLemmas.{extend-means, fit-cases, merged_plan}
use Rattle.change_laws.proofs.SizeLemmas.{all-drop, all-take}
use Rattle.laid_content_laws.specs.Written.{AreMade, IsWritten, IsWrittenBy, behind_front}
use Rattle.laid_content_laws.proofs.LaidContentLemmas.{IsEdited, plan-cases, written-as}

-- ---- the window lies around the change

-- how many entries a window has at most, and the entries behind it
abbrev window_most : List Pair → Change → ℕ
window_most entries change = count_begun (change.at + change.removed) entries + 1 - window_from change.at entries

abbrev pub behind_window : List Pair → Change → List Pair
behind_window entries change = drop (window_from change.at entries + window_most entries change) entries

-- the change lies between the ends of its window
record IsAround (entries : List Pair) (change : Change) : Type 0 where
  from : window_start change.at entries ≤ change.at
  to : change.at + change.removed ≤ window_start change.at entries + bytes_of (window_at entries change.at change.removed)

window-around : (entries : List Pair) (change : Change) → change.at + change.removed ≤ bytes_of entries → IsAround entries change
window-around entries change within =
    let k = window_from change.at entries in
    let e = change.at + change.removed in
    let m = window_most entries change in
    let low = ended-bytes change.at k entries (omega arith) in
    let window = bytes_of-next k m entries in
    let reach = begun-reach e entries within in
    let rest = bytes_of-next (count_begun e entries) (k + m - count_begun e entries) entries in
    let end : count_begun e entries + (k + m - count_begun e entries) ≡ k + m = omega arith in
    let same = ap (λ (j : ℕ). bytes_of (take j entries)) end in
    record { from = low; to = omega (arith, window, reach, rest, same) }

-- ---- the edited bytes

pub edited-around : (at : Pages) (size : ℕ) (entries : List Pair) (change : Change) (payload : List ℕ) → 0 < size →
    AllByRecursion (IsThere at size) entries → change.at + change.removed ≤ bytes_of entries →
    edited_content at size entries change payload
    ≡ content at size (take (window_from change.at entries) entries)
    ++ (edited_content at size (window_at entries change.at change.removed) (moved (window_start change.at entries) change) payload
    ++ content at size (behind_window entries change))
edited-around at size entries change payload some there within =
    let k = window_from change.at entries in
    let m = window_most entries change in
    let start = window_start change.at entries in
    let seg = segment_bytes at size in
    let front = content at size (take k entries) in
    let window = content at size (take m (drop k entries)) in
    let back = content at size (drop (k + m) entries) in
    let around = window-around entries change within in
    let low = around.from in
    let high = around.to in
    let place = change.at - start in
    let whole : content at size entries ≡ front ++ (window ++ back) =
    ap (content at size) (sym (three k m entries))
    ∙ (flat_map-append seg (take k entries) (take m (drop k entries) ++ drop (k + m) entries)
    ∙ ap (λ (xs : List ℕ). front ++ xs) (flat_map-append seg (take m (drop k entries)) (drop (k + m) entries))) in
    let long : length front ≡ start =
    content-length at size (take k entries) some (all-take (IsThere at size) k entries there) in
    let window_long : length window ≡ bytes_of (take m (drop k entries)) =
    content-length at size (take m (drop k entries)) some
    (all-take (IsThere at size) m (drop k entries) (all-drop (IsThere at size) k entries there)) in
    let at_is : change.at ≡ length front + place = omega (arith, long, low) in
    let end_is : change.at + change.removed ≡ length front + (place + change.removed) = omega (arith, long, low) in
    let near : place ≤ length window = omega (arith, low, high, window_long) in
    let far : place + change.removed ≤ length window = omega (arith, low, high, window_long) in
    let first : take change.at (content at size entries) ≡ front ++ take place window =
    ap (take change.at) whole
    ∙ (ap (λ (j : ℕ). take j (front ++ (window ++ back))) at_is
    ∙ (take-append-add front (window ++ back) place ∙ ap (λ (xs : List ℕ). front ++ xs) (take-append-le place window back near))) in
    let last : drop (change.at + change.removed) (content at size entries) ≡ drop (place + change.removed) window ++ back =
    ap (drop (change.at + change.removed)) whole
    ∙ (ap (λ (j : ℕ). drop j (front ++ (window ++ back))) end_is
    ∙ (drop-append-add front (window ++ back) (place + change.removed) ∙ drop-append-le (place + change.removed) window back far)) in
    ap (λ (xs : List ℕ). xs ++ (payload ++ drop (change.at + change.removed) (content at size entries))) first
    ∙ (ap (λ (xs : List ℕ). (front ++ take place window) ++ (payload ++ xs)) last
    ∙ regroup front (take place window) payload (drop (place + change.removed) window) back)
  where
    regroup : (a b c d e : List ℕ) → (a ++ b) ++ (c ++ (d ++ e)) ≡ a ++ ((b ++ (c ++ d)) ++ e)
    regroup a b c d e = simp append_assoc

-- ---- made parts

-- parts that spell bytes behind kept ones
spells-behind : (at : Pages) (size : ℕ) (front : List Pair) (parts : List Part) (bytes : List ℕ) →
    Spells at size (map Keep front ++ parts) bytes →
    (bytes_of front ≤ length bytes) × Spells at size parts (drop (bytes_of front) bytes)
spells-behind at size [] parts bytes spelled = (omega arith, spelled)
spells-behind at size (p ∷ ps) parts bytes spelled =
    let more = spells-behind at size ps parts (drop p.bytes bytes) spelled.2 in
    let fits = spelled.0 in
    let few = more.0 in
    let all = sum_by-cons (λ (q : Pair). q.bytes) p ps in
    let left = length-drop p.bytes bytes in
    let same : drop (bytes_of ps) (drop p.bytes bytes) ≡ drop (bytes_of (p ∷ ps)) bytes =
    drop-drop (bytes_of ps) p.bytes bytes ∙ ap (λ (k : ℕ). drop k bytes) (sym all) in
    (omega (arith, fits, few, all, left), subst (Spells at size parts) same more.1)

-- made parts that are spelled don't see the bytes behind
made-longer : (at now : Pages) (size : ℕ) (parts back : List Part) (runs : List (List Extent)) (bytes tail : List ℕ) →
    Spells at size (parts ++ back) bytes → AreMade now size parts runs bytes → AreMade now size parts runs (bytes ++ tail)
made-longer at now size [] back runs bytes tail spelled made = tt
made-longer at now size (Keep p ∷ rest) back runs bytes tail spelled made =
    subst (AreMade now size rest runs) (sym (drop-append-le p.bytes bytes tail spelled.0))
    (made-longer at now size rest back runs (drop p.bytes bytes) tail spelled.2 made)
made-longer at now size (Make count ∷ rest) back [] bytes tail spelled made = absurd made
made-longer at now size (Make count ∷ rest) back (run ∷ runs) bytes tail spelled made = (
  made.0 ∙ sym (take-append-le count bytes tail spelled.0),
  subst (AreMade now size rest runs) (sym (drop-append-le count bytes tail spelled.0))
      (made-longer at now size rest back runs (drop count bytes) tail spelled.1 made.1),
)

-- the made parts of a merged plan of the window
made-on_window : (n : Numbers) (at now : Pages) (least : ℕ) (entries : List Pair) (pages : ℕ) (change : Change)
    (runs : List (List Extent)) (payload : List ℕ) → IsEdited n at entries change payload →
    AreMade now n.page (merged_plan n least (window_at entries change.at change.removed) pages
    (moved (window_start change.at entries) change)).parts runs
    (behind_front (window_at entries change.at change.removed)
    (merged_plan n least (window_at entries change.at change.removed) pages (moved (window_start change.at entries) change))
    (edited_content at n.page (window_at entries change.at change.removed) (moved (window_start change.at entries) change) payload)) →
    AreMade now n.page (merged_plan n least (window_at entries change.at change.removed) pages
    (moved (window_start change.at entries) change)).parts runs
    (behind_front entries (shifted (window_from change.at entries)
    (merged_plan n least (window_at entries change.at change.removed) pages (moved (window_start change.at entries) change)))
    (edited_content at n.page entries change payload))
made-on_window n at now least entries pages change runs payload is made =
    let size = n.page in
    let k = window_from change.at entries in
    let m = window_most entries change in
    let start = window_start change.at entries in
    let window = window_at entries change.at change.removed in
    let inner = moved start change in
    let plan = merged_plan n least window pages inner in
    let bytes = edited_content at size window inner payload in
    let front = content at size (take k entries) in
    let back = content at size (behind_window entries change) in
    let around = window-around entries change is.within in
    let low = around.from in
    let high = around.to in
    let there : AllByRecursion (IsThere at size) window =
    all-take (IsThere at size) m (drop k entries) (all-drop (IsThere at size) k entries is.there) in
    let have : HaveBytes window = have-take m (drop k entries) (have-drop k entries is.have) in
    let spelled = plan-spells at size least (space_pages n * size) window pages inner payload is.page have there
    (omega (arith, low, high)) is.paid in
    let behind = spells-behind at size (take plan.from window) (plan.parts ++ map Keep (drop (plan.from + plan.count) window)) bytes
    spelled in
    let skipped = bytes_of (take plan.from window) in
    let few = count_ended-within_list (change.at - start) window in
    let border = window-border plan.from entries change.at change.removed (omega (arith, few)) in
    let long : length front ≡ start =
    content-length at size (take k entries) is.page (all-take (IsThere at size) k entries is.there) in
    let place : bytes_of (take (k + plan.from) entries) ≡ length front + skipped = omega (arith, border, long) in
    let same : drop skipped bytes ++ back ≡ drop (bytes_of (take (k + plan.from) entries)) (edited_content at size entries change payload) =
    sym (ap (drop (bytes_of (take (k + plan.from) entries))) (edited-around at size entries change payload is.page is.there is.within)
    ∙ (ap (λ (j : ℕ). drop j (front ++ (bytes ++ back))) place
    ∙ (drop-append-add front (bytes ++ back) skipped ∙ drop-append-le skipped bytes back behind.0))) in
    subst (AreMade now size plan.parts runs) same
    (made-longer at now size plan.parts (map Keep (drop (plan.from + plan.count) window)) runs (drop skipped bytes) back behind.1 made)

-- ---- the plan of a change

-- what is written as a plan of the window has it is written as the plan counted on from the entries before it has it
abbrev IsToldBy : Numbers → Pages → Pages → List Pair → Option Extent → Change → List (List Extent) → List ℕ → Plan → Type 0
IsToldBy n at now entries spare change runs payload plan =
    IsWrittenBy plan.fit n at now (window_at entries change.at change.removed) spare
    (moved (window_start change.at entries) change) plan runs payload →
    IsWrittenBy plan.fit n at now entries spare change (shifted (window_from change.at entries) plan) runs payload

merged-told : (n : Numbers) (at now : Pages) (least : ℕ) (entries : List Pair) (spare : Option Extent) (pages : ℕ) (change : Change)
    (runs : List (List Extent)) (payload : List ℕ) → IsEdited n at entries change payload →
    IsToldBy n at now entries spare change runs payload (merged_plan n least (window_at entries change.at change.removed) pages
    (moved (window_start change.at entries) change))
merged-told n at now least entries spare pages change runs payload is written =
    let window = window_at entries change.at change.removed in
    let inner = moved (window_start change.at entries) change in
    let plan = merged_plan n least window pages inner in
    let whole = shifted (window_from change.at entries) plan in
    let packed = pack n.page least (parts_of n.page (space_pages n * n.page) window inner.at inner.removed inner.added) in
    let P : Fit → Type 0 = λ fit. IsWrittenBy fit n at now entries spare change whole runs payload in
    elim (fit-cases n.page inner.appends pages (made_part_bytes packed)) [
      | inl fresh ↦
          subst P (sym fresh) (made-on_window n at now least entries pages change runs payload is
          (written-as Fresh n at now window spare inner plan runs payload fresh written))
      | inr follow ↦
          subst P (sym follow.0) (made-on_window n at now least entries pages change (as_run spare) payload is
          (written-as Follow n at now window spare inner plan runs payload follow.0 written))
    ]

extended-told : (n : Numbers) (at now : Pages) (entries : List Pair) (spare : Option Extent) (pages : ℕ) (change : Change)
    (runs : List (List Extent)) (payload : List ℕ) → IsEdited n at entries change payload →
    (change.appends ≡ true → change.at ≡ bytes_of entries) →
    fit_appended n.page (window_at entries change.at change.removed) pages (moved (window_start change.at entries) change) ≡ Extend →
    IsToldBy n at now entries spare change runs payload (plan_extended (window_at entries change.at change.removed)
    (moved (window_start change.at entries) change))
extended-told n at now entries spare pages change runs payload is ends fit written =
    let window = window_at entries change.at change.removed in
    let inner = moved (window_start change.at entries) change in
    let means = extend-means n.page window pages inner fit in
    let last = window-last entries change.at change.removed is.have (ends means.2) in
    ap (λ (p : Pair). segment_bytes now n.page (behind_last n.page (p ∷ []) change.added)) last.last ∙ written

pub written-on_window : (n : Numbers) (at now : Pages) (least : ℕ) (entries : List Pair) (spare : Option Extent) (pages : ℕ)
    (change : Change) (runs : List (List Extent)) (payload : List ℕ) → IsEdited n at entries change payload →
    (change.appends ≡ true → change.at ≡ bytes_of entries) →
    IsWrittenBy (planned n least (window_at entries change.at change.removed) pages (moved (window_start change.at entries) change)).fit
    n at now (window_at entries change.at change.removed) spare (moved (window_start change.at entries) change)
    (planned n least (window_at entries change.at change.removed) pages (moved (window_start change.at entries) change)) runs payload →
    IsWrittenBy (planned n least entries pages change).fit n at now entries spare change (planned n least entries pages change)
    runs payload
written-on_window n at now least entries spare pages change runs payload is ends written =
    let window = window_at entries change.at change.removed in
    let inner = moved (window_start change.at entries) change in
    let P : Plan → Type 0 = IsToldBy n at now entries spare change runs payload in
    let told : P (planned n least window pages inner) = elim (plan-cases n least window pages inner) [
      | inl grows ↦
          subst P (sym grows.1) (extended-told n at now entries spare pages change runs payload is ends grows.0)
      | inr merged ↦ subst P (sym merged) (merged-told n at now least entries spare pages change runs payload is)
    ] in
    subst (λ (plan : Plan). IsWrittenBy plan.fit n at now entries spare change plan runs payload)
    (sym (planned-on_window n least entries pages change is.have ends)) (told written)

pub window-written : (n : Numbers) (at now : Pages) (tree : Tree) (spare : Option Extent) (change : Change) (grants : Grants)
    (payload : List ℕ) → 0 < n.page → HaveBytes (tree_entries tree) → AllByRecursion (IsThere at n.page) (tree_entries tree) →
    IsChange tree change → length payload ≡ change.added →
    IsWrittenBy (planned n tree.threshold (window_at (tree_entries tree) change.at change.removed) (extent_pages spare)
    (moved (window_start change.at (tree_entries tree)) change)).fit n at now
    (window_at (tree_entries tree) change.at change.removed) spare (moved (window_start change.at (tree_entries tree)) change)
    (planned n tree.threshold (window_at (tree_entries tree) change.at change.removed) (extent_pages spare)
    (moved (window_start change.at (tree_entries tree)) change)) grants.runs payload →
    IsWritten n at now tree spare change grants payload
window-written n at now tree spare change grants payload some have there changes paid written =
    written-on_window n at now tree.threshold (tree_entries tree) spare (extent_pages spare) change grants.runs payload
    (record { page = some; have = have; there = there; within = changes.within; paid = paid })
    (λ appends. let end = changes.at_end appends in end.0) written
