-- The parts of a change spell the edited bytes, and so they do when they are merged.
use Rattle.std.proofs.Common.{◌≡◌, ℕ, zero, suc, ◌+◌, ◌-◌, ◌*◌, ◌/◌, ◌%◌, ◌<◌, ◌≤◌, ◌&&◌, List, [], ◌∷◌, ◌++◌}
use Rattle.std.proofs.Common.{length, map, take, drop, replicate, refl, sym, ap, subst, arith, ◌∙◌, inl, inr}
use Rattle.std.proofs.Common.{append_assoc, length-append, length-take, length-drop, nat_eq, nat_lt, sum_by}
use Rattle.std.specs.List.{AllByRecursion}
use Rattle.std.proofs.lemmas.Bool.{cases_Bool, eqb-true, ltb-true, ltb-false}
use Rattle.std.proofs.lemmas.Nat.{div-add-mod'}
use Rattle.std.proofs.lemmas.List.{append-nil, take-append-drop, take-take, take-append-le, take_at, drop_at}
use Rattle.std.proofs.lemmas.List.{drop-drop, drop-take, drop-append-le, drop_all}
use Rattle.std.proofs.lemmas.List.Concat.{flat_map-append}
use Rattle.std.proofs.lemmas.List.Folds.{sum_by-replicate}
use Rattle.std.proofs.lemmas.List.Sums.{sum_by-cons, sum_by-append}
use Rattle.geometry_model.specs.Numbers.{Numbers, space_pages}
use Rattle.tree_model.specs.declared.entry.Pair.{Pair}
use Rattle.tree_model.specs.Tree.{Pages, bytes_of, page_count}
use Rattle.tree_model.specs.Content.{run_bytes, segment_bytes, content}
use Rattle.layout_model.specs.declared.part.Part.{Part}
use Rattle.layout_model.specs.declared.part.Part.TheVariants.{Keep, Make}
use Rattle.layout_model.specs.declared.change.Change.{Change}
use Rattle.layout_model.specs.Parts.{part_bytes, head_of, without_pages, pieces, parts_of}
use Rattle.layout_model.specs.Pack.{is_small, pack_from, pack}
use Rattle.layout_model.specs.Plan.{Plan, plan_packed, plan_extended, planned, fit_appended, last_entry}
use Rattle.layout_model.specs.Layout.{segments_on, laid_parts}
use Rattle.layout_model.specs.declared.extent.Extent.{Extent}
use Rattle.layout_model.specs.declared.fit.Fit.{Fit}
use Rattle.layout_model.specs.declared.fit.Fit.TheVariants.{Extend, Follow, Fresh}
use Rattle.content_laws.specs.Spelling.{HaveBytes, IsThere, Spells, all_parts, edited_content, IsPacked, AreWritten, behind_last}
use Rattle.layout_laws.proofs.MergingLemmas.{pack_from-merges, pack_from-keeps}
use Rattle.tree_model.proofs.PageCountLaws.{count-holds, count-rises, count-behind, count-none, count-full, run_bytes-add}
use Rattle.content_laws.proofs.SideLemmas.Lies.{Behind, Before, Inside}
use Rattle.content_laws.proofs.SideLemmas.{front, back, lies, front-behind, front-before, front-inside, back-behind}
use Rattle.content_laws.proofs.SideLemmas.{back-before, back-inside, head-behind, head-within, head-ends}
use Rattle.content_laws.proofs.PlanLemmas.{outer_front, outer_back, plan-whole, window-whole}

-- ---- the bytes of runs and segments

-- the pages of a run are there, with all their bytes
abbrev AreThere : Pages → ℕ → ℕ → ℕ → Type 0
AreThere at size first count = (k : ℕ) → k < count → length (at (first + k)) ≡ size

run-length : (at : Pages) (size first count : ℕ) → AreThere at size first count → length (run_bytes at first count) ≡ count * size
run-length at size first zero there = let none : 0 ≡ 0 * size = omega arith in none
run-length at size first (suc count) there =
    let both = length-append (at first) (run_bytes at (first + 1) count) in
    let here : length (at (first + 0)) ≡ size = there 0 (omega arith) in
    let same : first + 0 ≡ first = omega arith in
    let one : length (at first) ≡ size = ap (λ (f : ℕ). length (at f)) (sym same) ∙ here in
    let rest = run-length at size (first + 1) count (λ k below.
    let moved : first + 1 + k ≡ first + (k + 1) = omega arith in
    ap (λ (f : ℕ). length (at f)) moved ∙ there (k + 1) (omega (arith, below))) in
    let rows : suc count * size ≡ size + count * size = grind arith in
    omega (arith, both, one, rest, rows)

-- a segment has as many bytes as it says
pub segment-length : (at : Pages) (size : ℕ) (p : Pair) → 0 < size → IsThere at size p → length (segment_bytes at size p) ≡ p.bytes
segment-length at size p some there =
    let run = run-length at size p.page (page_count size p.bytes) there in
    let cut = length-take p.bytes (run_bytes at p.page (page_count size p.bytes)) in
    let holds = count-holds size p.bytes some in
    omega (arith, run, cut, holds)

-- its first bytes are on its first pages
pub segment-left : (at : Pages) (size : ℕ) (p : Pair) (bytes : ℕ) → 0 < size → bytes ≤ p.bytes → IsThere at size p →
    segment_bytes at size (record { bytes = bytes; page = p.page }) ≡ take bytes (segment_bytes at size p)
segment-left at size p bytes some within there =
    let few = page_count size bytes in
    let all = page_count size p.bytes in
    let less = count-rises size bytes p.bytes some within in
    let split : all ≡ few + (all - few) = omega (arith, less) in
    let whole : run_bytes at p.page all ≡ run_bytes at p.page few ++ run_bytes at (p.page + few) (all - few) =
    ap (run_bytes at p.page) split ∙ run_bytes-add at p.page few (all - few) in
    let long = run-length at size p.page few (λ k below. there k (omega (arith, below, less))) in
    let holds = count-holds size bytes some in
    let fits : bytes ≤ length (run_bytes at p.page few) = omega (arith, long, holds) in
    sym (take-take bytes p.bytes (run_bytes at p.page all) within
    ∙ (ap (take bytes) whole ∙ take-append-le bytes (run_bytes at p.page few) (run_bytes at (p.page + few) (all - few)) fits))

-- and what follows full pages is on the pages behind them
pub segment-right : (at : Pages) (size : ℕ) (p : Pair) (pages : ℕ) → 0 < size → pages * size ≤ p.bytes → IsThere at size p →
    segment_bytes at size (record { bytes = p.bytes - pages * size; page = p.page + pages }) ≡ drop (pages * size) (segment_bytes at size p)
segment-right at size p pages some within there =
    let rest = p.bytes - pages * size in
    let all = page_count size p.bytes in
    let bytes : p.bytes ≡ pages * size + rest = omega (arith, within) in
    let count : all ≡ pages + page_count size rest = ap (page_count size) bytes ∙ count-behind size pages rest some in
    let whole : run_bytes at p.page all ≡ run_bytes at p.page pages ++ run_bytes at (p.page + pages) (page_count size rest) =
    ap (run_bytes at p.page) count ∙ run_bytes-add at p.page pages (page_count size rest) in
    let long = run-length at size p.page pages (λ k below. there k (omega (arith, below, count))) in
    sym (ap (λ (n : ℕ). drop (pages * size) (take n (run_bytes at p.page all))) bytes
    ∙ (drop-take (pages * size) rest (run_bytes at p.page all)
    ∙ ap (take rest) (ap (drop (pages * size)) whole
    ∙ drop_at (run_bytes at p.page pages) (run_bytes at (p.page + pages) (page_count size rest))
    (pages * size) long)))

-- the content has as many bytes as the entries
pub content-length : (at : Pages) (size : ℕ) (entries : List Pair) → 0 < size →
    AllByRecursion (IsThere at size) entries → length (content at size entries) ≡ bytes_of entries
content-length at size [] some there = refl
content-length at size (p ∷ ps) some there =
    let both = length-append (segment_bytes at size p) (content at size ps) in
    let one = segment-length at size p some there.0 in
    let more = content-length at size ps some there.1 in
    let all = sum_by-cons (λ (q : Pair). q.bytes) p ps in
    omega (arith, both, one, more, all)

-- ---- what spells what

-- entries spell their content
spells-kept : (at : Pages) (size : ℕ) (entries : List Pair) → 0 < size → AllByRecursion (IsThere at size) entries →
    Spells at size (map Keep entries) (content at size entries)
spells-kept at size [] some there = refl
spells-kept at size (p ∷ ps) some there =
    let long = segment-length at size p some there.0 in
    let both = length-append (segment_bytes at size p) (content at size ps) in
    let fits : p.bytes ≤ length (segment_bytes at size p ++ content at size ps) = omega (arith, long, both) in (
      fits,
      take_at (segment_bytes at size p) (content at size ps) p.bytes long,
      subst (Spells at size (map Keep ps)) (sym (drop_at (segment_bytes at size p)
          (content at size ps) p.bytes long)) (spells-kept at size ps some there.1),
    )

-- the front spells the bytes before a place
spells-front : (at : Pages) (size a : ℕ) (entries : List Pair) (rest : List Part) (bytes : List ℕ) → 0 < size →
    AllByRecursion (IsThere at size) entries →
    a ≤ bytes_of entries → a ≤ length bytes → take a bytes ≡ take a (content at size entries) →
    Spells at size rest (drop a bytes) → Spells at size (map Keep (front a entries) ++ rest) bytes
spells-front at size a [] rest bytes some there within long same spelled =
    let none : a ≤ 0 = within in
    let no_byte : a ≡ 0 = omega (arith, none) in
    subst (λ (k : ℕ). Spells at size rest (drop k bytes)) no_byte spelled
spells-front at size a (p ∷ ps) rest bytes some there within long same spelled =
    let seg = segment_bytes at size p in
    let more = content at size ps in
    let P : List Pair → Type 0 = λ fs. Spells at size (map Keep fs ++ rest) bytes in
    let count = segment-length at size p some there.0 in
    elim (lies a p) [
      | Behind h le ↦
          let left = a - p.bytes in
          let split : p.bytes + left ≡ a = omega (arith, le) in
          let first : take p.bytes bytes ≡ seg =
          sym (take-take p.bytes a bytes le)
          ∙ (ap (take p.bytes) same ∙ (take-take p.bytes a (seg ++ more) le ∙ take_at seg more p.bytes count)) in
          let behind : take left (drop p.bytes bytes) ≡ take left more =
          sym (drop-take p.bytes left bytes)
          ∙ (ap (λ (k : ℕ). drop p.bytes (take k bytes)) split
          ∙ (ap (drop p.bytes) same
          ∙ (ap (λ (k : ℕ). drop p.bytes (take k (seg ++ more))) (sym split)
          ∙ (drop-take p.bytes left (seg ++ more) ∙ ap (take left) (drop_at seg more p.bytes count))))) in
          let all = sum_by-cons (λ (q : Pair). q.bytes) p ps in
          let cut = length-drop p.bytes bytes in
          let last : Spells at size rest (drop left (drop p.bytes bytes)) =
          subst (Spells at size rest) (sym (drop-drop left p.bytes bytes ∙ ap (λ (k : ℕ). drop k bytes) split)) spelled in
          let fits : p.bytes ≤ length bytes = omega (arith, le, long) in
          subst P (sym (front-behind a p ps h)) (
            fits,
            first,
            spells-front at size left ps rest (drop p.bytes bytes) some there.1
                (omega (arith, all, within, le)) (omega (arith, cut, long, le)) behind last,
          )
      | Before h k none less ↦ subst P (sym (front-before a p ps h k)) (subst (λ (j : ℕ). Spells at size rest (drop j bytes)) none spelled)
      | Inside h k byte less ↦
          let within_p : a ≤ p.bytes = omega (arith, less) in
          let long_seg : a ≤ length seg = omega (arith, count, less) in
          let first : take a bytes ≡ segment_bytes at size (record { bytes = a; page = p.page }) =
          same ∙ (take-append-le a seg more long_seg ∙ sym (segment-left at size p a some within_p there.0)) in
          subst P (sym (front-inside a p ps h k)) (long, first, spelled)
    ]

-- made parts stand for as many bytes as they have
abbrev total : List ℕ → ℕ
total ns = sum_by (λ n. n) ns

spells-made : (at : Pages) (size : ℕ) (ns : List ℕ) (rest : List Part) (bytes : List ℕ) → total ns ≤ length bytes →
    Spells at size rest (drop (total ns) bytes) →
    Spells at size (map Make ns ++ rest) bytes
spells-made at size [] rest bytes fits spelled = spelled
spells-made at size (n ∷ ns) rest bytes fits spelled =
    let all = sum_by-cons (λ (m : ℕ). m) n ns in
    let cut = length-drop n bytes in
    let first : n ≤ length bytes = omega (arith, all, fits) in
    let same : drop (total ns) (drop n bytes) ≡ drop (total (n ∷ ns)) bytes = drop-drop (total ns) n bytes
    ∙ ap (λ (k : ℕ). drop k bytes) (sym all) in
    (first, spells-made at size ns rest (drop n bytes) (omega (arith, all, cut, fits)) (subst (Spells at size rest) (sym same) spelled))

-- the pieces have all bytes
pub pieces-total : (most bytes : ℕ) → total (pieces most bytes) ≡ bytes
pieces-total most bytes =
    let full = sum_by-replicate (λ (k : ℕ). k) (bytes / most) most in
    let whole = div-add-mod' bytes most in
    elim (cases_Bool (nat_eq (bytes % most) 0)) [
      | inl none ↦
          let even = eqb-true (bytes % most) 0 none in
          let step : pieces most bytes ≡ replicate (bytes / most) most ++ [] = rw (none, pieces) in
          let both = sum_by-append (λ (k : ℕ). k) (replicate (bytes / most) most) [] in
          let sums : total (pieces most bytes) ≡ total (replicate (bytes / most) most ++ []) = ap total step in
          omega (arith, full, whole, even, both, sums)
      | inr some ↦
          let step : pieces most bytes ≡ replicate (bytes / most) most ++ (bytes % most ∷ []) = rw (some, pieces) in
          let both = sum_by-append (λ (k : ℕ). k) (replicate (bytes / most) most) (bytes % most ∷ []) in
          let last = sum_by-cons (λ (k : ℕ). k) (bytes % most) [] in
          let sums : total (pieces most bytes) ≡ total (replicate (bytes / most) most ++ (bytes % most ∷ [])) = ap total step in
          omega (arith, full, whole, both, last, sums)
    ]

-- the back spells the bytes behind the head
spells-back : (at : Pages) (size e : ℕ) (entries : List Pair) → 0 < size → AllByRecursion (IsThere at size) entries → e ≤ bytes_of entries →
    Spells at size (map Keep (back size e entries)) (drop (e + head_of size e entries) (content at size entries))
spells-back at size e [] some there within = drop_all (e + 0) [] (omega arith)
spells-back at size e (p ∷ ps) some there within =
    let seg = segment_bytes at size p in
    let more = content at size ps in
    let count = segment-length at size p some there.0 in
    let head = head_of size e (p ∷ ps) in
    let P : List Pair → Type 0 = λ bs. Spells at size (map Keep bs) (drop (e + head) (seg ++ more)) in
    elim (lies e p) [
      | Behind h le ↦
          let left = e - p.bytes in
          let step = head-behind size e p ps h in
          let all = sum_by-cons (λ (q : Pair). q.bytes) p ps in
          let moved : p.bytes + (left + head_of size left ps) ≡ e + head = omega (arith, le, step) in
          let same : drop (left + head_of size left ps) more ≡ drop (e + head) (seg ++ more) =
          ap (drop (left + head_of size left ps)) (sym (drop_at seg more p.bytes count))
          ∙ (drop-drop (left + head_of size left ps) p.bytes (seg ++ more) ∙ ap (λ (k : ℕ). drop k (seg ++ more)) moved) in
          subst P (sym (back-behind size e p ps h))
          (subst (Spells at size (map Keep (back size left ps))) same
          (spells-back at size left ps some there.1 (omega (arith, all, within, le))))
      | Before h k none byte ↦
          let step = head-within size e p ps h in
          let no_page : page_count size e ≡ 0 = ap (page_count size) none ∙ count-none size some in
          let no_bytes : page_count size e * size ≡ 0 = ap (λ (j : ℕ). j * size) no_page ∙ omega arith in
          let start : 0 ≡ e + head = omega (arith, step, none, no_bytes) in
          subst P (sym (back-before size e p ps h k))
          (subst (λ (j : ℕ). Spells at size (map Keep (p ∷ ps)) (drop j (seg ++ more))) start (spells-kept at size (p ∷ ps) some there))
      | Inside h k byte less ↦
          let pages = page_count size e in
          let holds = count-holds size e some in
          let step = head-within size e p ps h in
          subst P (sym (back-inside size e p ps h k))
          (elim (cases_Bool (nat_lt (pages * size) p.bytes)) [
            | inl left ↦
                let short = ltb-true (pages * size) p.bytes left in
                let cut : without_pages size pages p
                ≡ record { bytes = p.bytes - pages * size; page = p.page + pages } ∷ [] =
                rw (left, without_pages) in
                let at_border : pages * size ≡ e + head = omega (arith, step, short, holds, less) in
                let piece : Pair = record { bytes = p.bytes - pages * size; page = p.page + pages } in
                let right = segment-right at size p pages some (omega (arith, short)) there.0 in
                let tail : drop (pages * size) (seg ++ more) ≡ drop (pages * size) seg ++ more =
                drop-append-le (pages * size) seg more (omega (arith, count, short)) in
                let whole : drop (e + head) (seg ++ more) ≡ segment_bytes at size piece ++ more =
                ap (λ (j : ℕ). drop j (seg ++ more)) (sym at_border) ∙ (tail ∙ ap (λ (xs : List ℕ). xs ++ more) (sym right)) in
                let long : length (segment_bytes at size piece) ≡ p.bytes - pages * size =
                ap length right ∙ (length-drop (pages * size) seg ∙ ap (λ (j : ℕ). j - pages * size) count) in
                let both = length-append (segment_bytes at size piece) more in
                let fits : p.bytes - pages * size ≤ length (segment_bytes at size piece ++ more) = omega (arith, both, long) in
                let spelled : Spells at size (map Keep (piece ∷ ps)) (segment_bytes at size piece ++ more) = (
                  fits,
                  take_at (segment_bytes at size piece) more (p.bytes - pages * size) long,
                  subst (Spells at size (map Keep ps))
                      (sym (drop_at (segment_bytes at size piece) more (p.bytes - pages * size) long))
                      (spells-kept at size ps some there.1),
                ) in
                subst (λ (bs : List Pair). Spells at size (map Keep (bs ++ ps)) (drop (e + head) (seg ++ more))) (sym cut)
                (subst (Spells at size (map Keep (piece ∷ ps))) (sym whole) spelled)
            | inr none ↦
                let full = ltb-false (pages * size) p.bytes none in
                let cut : without_pages size pages p ≡ [] = rw (none, without_pages) in
                let at_end : p.bytes ≡ e + head = omega (arith, step, full, holds, less) in
                let whole : drop (e + head) (seg ++ more) ≡ more = ap (λ (j : ℕ). drop j (seg ++ more)) (sym at_end)
                ∙ drop_at seg more p.bytes count in
                subst (λ (bs : List Pair). Spells at size (map Keep (bs ++ ps)) (drop (e + head) (seg ++ more))) (sym cut)
                (subst (Spells at size (map Keep ps)) (sym whole) (spells-kept at size ps some there.1))
          ])
    ]

-- ---- merging

-- what holds of the parts behind some holds behind them
spells-after : (at : Pages) (size : ℕ) (front behind other : List Part) →
    ((bytes : List ℕ) → Spells at size behind bytes → Spells at size other bytes) →
    (bytes : List ℕ) → Spells at size (front ++ behind) bytes → Spells at size (front ++ other) bytes
spells-after at size [] behind other change bytes spelled = change bytes spelled
spells-after at size (Keep p ∷ front) behind other change bytes spelled =
    (spelled.0, spelled.1, spells-after at size front behind other change (drop p.bytes bytes) spelled.2)
spells-after at size (Make n ∷ front) behind other change bytes spelled =
    (spelled.0, spells-after at size front behind other change (drop n bytes) spelled.1)

-- the first part has its bytes, and the others spell what follows
spells-first : (at : Pages) (size : ℕ) (part : Part) (rest : List Part) (bytes : List ℕ) → Spells at size (part ∷ rest) bytes →
    (part_bytes part ≤ length bytes) × Spells at size rest (drop (part_bytes part) bytes)
spells-first at size (Keep p) rest bytes spelled = (spelled.0, spelled.2)
spells-first at size (Make n) rest bytes spelled = (spelled.0, spelled.1)

-- two parts as one
spells-merged : (at : Pages) (size : ℕ) (part next : Part) (rest : List Part) (bytes : List ℕ) → Spells at size (part ∷ next ∷ rest) bytes →
    Spells at size (Make (part_bytes part + part_bytes next) ∷ rest) bytes
spells-merged at size part next rest bytes spelled =
    let one = spells-first at size part (next ∷ rest) bytes spelled in
    let two = spells-first at size next rest (drop (part_bytes part) bytes) one.1 in
    let fits1 = one.0 in
    let fits2 = two.0 in
    let cut = length-drop (part_bytes part) bytes in
    let fits : part_bytes part + part_bytes next ≤ length bytes = omega (arith, fits1, fits2, cut) in
    (fits, subst (Spells at size rest) (drop-drop (part_bytes next) (part_bytes part) bytes) two.1)

spells-pack_from : (at : Pages) (size least : ℕ) (part : Part) (rest tail : List Part) (bytes : List ℕ) →
    Spells at size (part ∷ (rest ++ tail)) bytes →
    Spells at size (pack_from size least part rest ++ tail) bytes
spells-pack_from at size least part [] tail bytes spelled = spelled
spells-pack_from at size least part (next ∷ rest) tail bytes spelled =
    let P : List Part → Type 0 = λ parts. Spells at size (parts ++ tail) bytes in
    elim (cases_Bool (is_small size least part && is_small size least next)) [
      | inl both ↦
          subst P (sym (pack_from-merges size least part next rest both))
          (spells-pack_from at size least (Make (part_bytes part + part_bytes next)) rest tail bytes
          (spells-merged at size part next (rest ++ tail) bytes spelled))
      | inr apart ↦
          subst P (sym (pack_from-keeps size least part next rest apart))
          (spells-after at size (part ∷ []) (next ∷ (rest ++ tail)) (pack_from size least next rest ++ tail)
          (spells-pack_from at size least next rest tail) bytes spelled)
    ]

-- merged parts spell what they spelled
pub spells-pack : (at : Pages) (size least : ℕ) (front parts tail : List Part) (bytes : List ℕ) →
    Spells at size (front ++ (parts ++ tail)) bytes →
    Spells at size (front ++ (pack size least parts ++ tail)) bytes
spells-pack at size least front [] tail bytes spelled = spelled
spells-pack at size least front (part ∷ rest) tail bytes spelled =
    spells-after at size front (part ∷ (rest ++ tail)) (pack_from size least part rest ++ tail)
    (spells-pack_from at size least part rest tail) bytes spelled

-- ---- a change

-- the two sides and the pieces between them spell the edited bytes
spells-sides : (at : Pages) (size most : ℕ) (entries : List Pair) (change : Change) (payload : List ℕ) → 0 < size →
    AllByRecursion (IsThere at size) entries →
    change.at + change.removed ≤ bytes_of entries → length payload ≡ change.added →
    Spells at size (map Keep (front change.at entries)
    ++ (map Make (pieces most (change.added + head_of size (change.at + change.removed) entries))
    ++ map Keep (back size (change.at + change.removed) entries))) (edited_content at size entries change payload)
spells-sides at size most entries change payload some there within paid =
    let a = change.at in
    let e = change.at + change.removed in
    let all = content at size entries in
    let head = head_of size e entries in
    let made = pieces most (change.added + head) in
    let behind = payload ++ drop e all in
    let bytes = take a all ++ behind in
    let long = content-length at size entries some there in
    let front_long : length (take a all) ≡ a = omega (arith, length-take a all, long, within) in
    let sum = length-append (take a all) behind in
    let same_front : take a bytes ≡ take a all = take_at (take a all) behind a front_long in
    let rest : drop a bytes ≡ behind = drop_at (take a all) behind a front_long in
    let ends = head-ends size e entries some within in
    let count : total made ≡ change.added + head = pieces-total most (change.added + head) in
    let behind_long = length-append payload (drop e all) in
    let back_long = length-drop e all in
    let fits : total made ≤ length behind = omega (arith, count, behind_long, back_long, long, ends, paid) in
    let split : length payload + head ≡ total made = omega (arith, count, paid) in
    let last : drop (total made) behind ≡ drop (e + head) all =
    ap (λ (k : ℕ). drop k behind) (sym split)
    ∙ (sym (drop-drop head (length payload) behind)
    ∙ (ap (drop head) (drop_at payload (drop e all) (length payload) refl) ∙ drop-drop head e all)) in
    spells-front at size a entries (map Make made ++ map Keep (back size e entries)) bytes some there (omega (arith, within))
    (omega (arith, sum, front_long)) same_front
    (subst (Spells at size (map Make made ++ map Keep (back size e entries))) (sym rest)
    (spells-made at size made (map Keep (back size e entries)) behind fits
    (subst (Spells at size (map Keep (back size e entries))) (sym last) (spells-back at size e entries some there within))))

-- the parts of a plan spell the edited bytes
pub plan-spells : (at : Pages) (size least most : ℕ) (entries : List Pair) (spare : ℕ) (change : Change)
    (payload : List ℕ) → 0 < size → HaveBytes entries →
    AllByRecursion (IsThere at size) entries → change.at + change.removed ≤ bytes_of entries → length payload ≡ change.added →
    Spells at size (all_parts entries (plan_packed size entries spare change
    (pack size least (parts_of size most entries change.at change.removed change.added))))
    (edited_content at size entries change payload)
plan-spells at size least most entries spare change payload some have there within paid =
    let bytes = edited_content at size entries change payload in
    let fs = map Keep (outer_front change.at entries) in
    let bs = map Keep (outer_back (change.at + change.removed) entries) in
    let window = parts_of size most entries change.at change.removed change.added in
    subst (λ (parts : List Part). Spells at size parts bytes) (sym (plan-whole size least most entries spare change have))
    (spells-pack at size least fs window bs bytes
    (subst (λ (parts : List Part). Spells at size parts bytes)
    (sym (window-whole size most entries change.at change.removed change.added have))
    (spells-sides at size most entries change payload some there within paid)))

pub planned-spells : (at : Pages) (n : Numbers) (threshold : ℕ) (entries : List Pair) (spare : ℕ) (change : Change)
    (payload : List ℕ) → 0 < n.page → HaveBytes entries →
    AllByRecursion (IsThere at n.page) entries → change.at + change.removed ≤ bytes_of entries → length payload ≡ change.added →
    IsPacked (fit_appended n.page entries spare change) →
    Spells at n.page (all_parts entries (planned n threshold entries spare change)) (edited_content at n.page entries change payload)
unfolding planned
planned-spells at n threshold entries spare change payload some have there within paid packed =
    go (fit_appended n.page entries spare change) packed
    (plan-spells at n.page threshold (space_pages n * n.page) entries spare change payload some have there within paid)
  where
    go : (fit : Fit) → IsPacked fit →
        Spells at n.page (all_parts entries (plan_packed n.page entries spare change (pack n.page threshold
        (parts_of n.page (space_pages n * n.page) entries change.at change.removed change.added))))
        (edited_content at n.page entries change payload) →
        Spells at n.page (all_parts entries (elim fit [
          | Extend ↦ plan_extended entries change
          | _ ↦ plan_packed n.page entries spare change (pack n.page threshold
              (parts_of n.page (space_pages n * n.page) entries change.at change.removed change.added))
        ])) (edited_content at n.page entries change payload)
    go Extend none spelled = absurd none
    go Follow is spelled = spelled
    go Fresh is spelled = spelled

-- ---- the pages afterwards

-- what is laid out holds the bytes
pub laid-holds : (at now : Pages) (size : ℕ) (parts : List Part) (runs : List (List Extent)) (bytes : List ℕ) → Spells at size parts bytes →
    AreWritten at now size parts runs bytes → content now size (laid_parts size parts runs) ≡ bytes
laid-holds at now size [] runs bytes spelled written = sym spelled
laid-holds at now size (Keep p ∷ rest) runs bytes spelled written =
    ap (λ (xs : List ℕ). xs ++ content now size (laid_parts size rest runs)) (written.0 ∙ sym spelled.1)
    ∙ (ap (λ (xs : List ℕ). take p.bytes bytes ++ xs) (laid-holds at now size rest runs (drop p.bytes bytes) spelled.2 written.1)
    ∙ take-append-drop p.bytes bytes)
laid-holds at now size (Make n ∷ rest) [] bytes spelled written = absurd written
laid-holds at now size (Make n ∷ rest) (run ∷ runs) bytes spelled written =
    flat_map-append (segment_bytes now size) (segments_on size n run) (laid_parts size rest runs)
    ∙ (ap (λ (xs : List ℕ). xs ++ content now size (laid_parts size rest runs)) written.0
    ∙ (ap (λ (xs : List ℕ). take n bytes ++ xs) (laid-holds at now size rest runs (drop n bytes) spelled.1 written.1)
    ∙ take-append-drop n bytes))

-- kept entries stay as they are
pub laid-front : (size : ℕ) (xs : List Pair) (parts : List Part) (runs : List (List Extent)) →
    laid_parts size (map Keep xs ++ parts) runs ≡ xs ++ laid_parts size parts runs
laid-front size [] parts runs = refl
laid-front size (x ∷ xs) parts runs = ap (λ (ys : List Pair). x ∷ ys) (laid-front size xs parts runs)

pub laid-kept : (size : ℕ) (xs : List Pair) (runs : List (List Extent)) → laid_parts size (map Keep xs) runs ≡ xs
laid-kept size [] runs = refl
laid-kept size (x ∷ xs) runs = ap (λ (ys : List Pair). x ∷ ys) (laid-kept size xs runs)

pub laid-back : (size : ℕ) (parts : List Part) (xs : List Pair) (runs : List (List Extent)) →
    laid_parts size (parts ++ map Keep xs) runs ≡ laid_parts size parts runs ++ xs
laid-back size [] xs runs = laid-kept size xs runs
laid-back size (Keep p ∷ rest) xs runs = ap (λ (ys : List Pair). p ∷ ys) (laid-back size rest xs runs)
laid-back size (Make n ∷ rest) xs [] = laid-back size rest xs []
laid-back size (Make n ∷ rest) xs (run ∷ runs) =
    ap (λ (ys : List Pair). segments_on size n run ++ ys) (laid-back size rest xs runs)
    ∙ sym (append_assoc (segments_on size n run) (laid_parts size rest runs) xs)

pub laid-all : (size : ℕ) (entries : List Pair) (plan : Plan) (runs : List (List Extent)) →
    laid_parts size (all_parts entries plan) runs ≡ take plan.from entries
    ++ (laid_parts size plan.parts runs ++ drop (plan.from + plan.count) entries)
laid-all size entries plan runs =
    laid-front size (take plan.from entries) (plan.parts ++ map Keep (drop (plan.from + plan.count) entries)) runs
    ∙ ap (λ (ys : List Pair). take plan.from entries ++ ys) (laid-back size plan.parts (drop (plan.from + plan.count) entries) runs)

-- ---- a tail that grows

-- the last of some entries
pub last-split : (entries : List Pair) → 0 < length entries → entries ≡ take (length entries - 1) entries ++ (last_entry entries ∷ [])
last-split [] some = let none : 0 < 0 = some in absurd (omega (arith, none))
last-split (p ∷ []) some = refl
last-split (p ∷ q ∷ rest) some =
    let few : suc (suc (length rest)) - 1 ≡ suc (suc (length rest) - 1) = omega arith in
    ap (λ (xs : List Pair). p ∷ xs) (last-split (q ∷ rest) (omega arith))
    ∙ ap (λ (k : ℕ). take k (p ∷ q ∷ rest) ++ (last_entry (q ∷ rest) ∷ [])) (sym few)

-- a segment with its last page full, and bytes on the pages behind it
segment-grown : (at : Pages) (size : ℕ) (p : Pair) (count : ℕ) → 0 < size → p.bytes % size ≡ 0 →
    IsThere at size (record { bytes = p.bytes + count; page = p.page }) →
    segment_bytes at size (record { bytes = p.bytes + count; page = p.page })
    ≡ segment_bytes at size p ++ segment_bytes at size (record { bytes = count; page = p.page + page_count size p.bytes })
segment-grown at size p count some full there =
    let pages = p.bytes / size in
    let whole = div-add-mod' p.bytes size in
    let bytes : p.bytes ≡ pages * size = omega (arith, whole, full) in
    let counted : page_count size p.bytes ≡ pages = ap (page_count size) bytes ∙ count-full size pages some in
    let grown : Pair = record { bytes = p.bytes + count; page = p.page } in
    let sum : p.bytes + count ≡ pages * size + count = omega (arith, bytes) in
    let within : pages * size ≤ p.bytes + count = omega (arith, bytes) in
    let within_p : p.bytes ≤ p.bytes + count = omega arith in
    let left = segment-left at size grown p.bytes some within_p there in
    let right = segment-right at size grown pages some within there in
    let rest : (p.bytes + count) - pages * size ≡ count = omega (arith, bytes) in
    let right_page : segment_bytes at size (record { bytes = count; page = p.page + page_count size p.bytes })
    ≡ drop p.bytes (segment_bytes at size grown) =
    ap (λ (k : ℕ). segment_bytes at size (record { bytes = count; page = p.page + k })) counted
    ∙ (ap (λ (k : ℕ). segment_bytes at size (record { bytes = k; page = p.page + pages })) (sym rest)
    ∙ (right ∙ ap (λ (k : ℕ). drop k (segment_bytes at size grown)) (sym bytes))) in
    sym (ap (λ (xs : List ℕ). xs ++ segment_bytes at size (record { bytes = count; page = p.page + page_count size p.bytes })) left
    ∙ (ap (λ (xs : List ℕ). take p.bytes (segment_bytes at size grown) ++ xs) right_page
    ∙ take-append-drop p.bytes (segment_bytes at size grown)))

pub extended-content : (at : Pages) (size : ℕ) (entries : List Pair) (change : Change) → 0 < size →
    0 < length entries → (last_entry entries).bytes % size ≡ 0 →
    IsThere at size (record { bytes = (last_entry entries).bytes + change.added; page = (last_entry entries).page }) →
    content at size (laid_parts size (all_parts entries (plan_extended entries change)) [])
    ≡ content at size entries ++ segment_bytes at size (behind_last size entries change.added)
extended-content at size entries change some any full there =
    let p = last_entry entries in
    let grown : Pair = record { bytes = p.bytes + change.added; page = p.page } in
    let new : Pair = behind_last size entries change.added in
    let front = take (length entries - 1) entries in
    let count : length entries - 1 + 1 ≡ length entries = omega (arith, any) in
    let nothing : drop (length entries - 1 + 1) entries ≡ [] = ap (λ (k : ℕ). drop k entries) count
    ∙ drop_all (length entries) entries (omega arith) in
    let seg = segment_bytes at size in
    laid-back-content front grown nothing
    ∙ (ap (λ (xs : List ℕ). content at size front ++ (xs ++ [])) (segment-grown at size p change.added some full there)
    ∙ (regroup (content at size front) (seg p) (seg new)
    ∙ ap (λ (xs : List ℕ). xs ++ seg new) (sym (ap (content at size) (last-split entries any) ∙ flat_map-append seg front (p ∷ [])))))
  where
    laid-back-content : (front : List Pair) (grown : Pair) → drop (length entries - 1 + 1) entries ≡ [] →
        content at size (laid_parts size (map Keep (take (length entries - 1) entries)
        ++ ((Keep grown ∷ []) ++ map Keep (drop (length entries - 1 + 1) entries))) [])
        ≡ content at size (take (length entries - 1) entries) ++ (segment_bytes at size grown ++ [])
    laid-back-content front grown nothing =
        ap (content at size) (laid-front size (take (length entries - 1) entries)
        ((Keep grown ∷ []) ++ map Keep (drop (length entries - 1 + 1) entries)) [])
        ∙ (ap (λ (xs : List Pair). content at size
        (take (length entries - 1) entries ++ laid_parts size ((Keep grown ∷ []) ++ map Keep xs) [])) nothing
        ∙ flat_map-append (segment_bytes at size) (take (length entries - 1) entries) (grown ∷ []))

    regroup : (a b c : List ℕ) → a ++ ((b ++ c) ++ []) ≡ (a ++ (b ++ [])) ++ c
    regroup a b c =
        ap (λ (xs : List ℕ). a ++ xs) (append-nil (b ++ c))
        ∙ (sym (append_assoc a b c) ∙ ap (λ (xs : List ℕ). (a ++ xs) ++ c) (sym (append-nil b)))
