-- A plan reads no more of the entries than its window has.
use Rattle.std.proofs.Common.{◌≡◌, ℕ, zero, suc, ◌+◌, ◌-◌, ◌*◌, ◌%◌, ◌≤◌, Bool, true, false, List, [], ◌∷◌, ◌++◌}
use Rattle.std.proofs.Common.{length, map, take, drop, refl, sym, ap, arith, ◌∙◌, inl, inr, nat_eq, Option}
use Rattle.std.specs.Prelude.{if◌then◌else◌}
use Rattle.std.proofs.lemmas.List.{length-drop, take_all, take-take, drop-drop, drop-take}
use Rattle.geometry_model.specs.Numbers.{Numbers, space_pages}
use Rattle.tree_model.specs.declared.entry.Pair.{Pair}
use Rattle.tree_model.specs.Tree.{bytes_of, page_count}
use Rattle.layout_model.specs.declared.change.Change.{Change}
use Rattle.layout_model.specs.declared.fit.Fit.{Fit}
use Rattle.layout_model.specs.declared.fit.Fit.TheVariants.{Extend, Follow, Fresh}
use Rattle.layout_model.specs.declared.part.Part.{Part}
use Rattle.layout_model.specs.declared.part.Part.TheVariants.{Keep, Make}
use Rattle.layout_model.specs.Parts.{parts_of, pieces, count_ended, count_begun, one_before, one_after, left_of, head_of, right_of}
use Rattle.layout_model.specs.declared.extent.Extent.{Extent}
use Rattle.layout_model.specs.declared.request.Request.{Request}
use Rattle.layout_model.specs.Layout.{Tree, tree_entries, plan_of, requests, wanted}
use Rattle.layout_model.specs.Pack.{pack}
use Rattle.layout_model.specs.Plan.{Plan, planned, plan_packed, plan_extended, fit_appended, fit_of, fit_made}
use Rattle.layout_model.specs.Plan.{made_part_bytes, merged_one, begins_kept, ends_kept, last_entry, extent_pages}
use Rattle.content_laws.specs.Spelling.{HaveBytes}
use Rattle.content_laws.proofs.SideLemmas.{count_ended-count_begun, count_ended-within_list}
use Rattle.content_laws.proofs.PlanLemmas.{one_before-cases}
use Rattle.window_laws.specs.Window.{window_from, window_start, window_at, moved, shifted, wanted_behind}
use Rattle.window_laws.proofs.CountLemmas.{is_behind, ended-bytes, have-drop, border-number, is_within}

-- ---- what a plan reads of two lists of entries

-- a change at one place of some entries meets what it meets at another place of others, k entries fewer in front
pub record Agrees (size k a a2 removed : ℕ) (xs ys : List Pair) : Type 0 where
  pub before : one_before a xs ≡ one_before a2 ys
  pub after : one_after (a + removed) xs ≡ one_after (a2 + removed) ys
  pub ended : count_ended a xs ≡ k + count_ended a2 ys
  pub begun : count_begun (a + removed) xs ≡ k + count_begun (a2 + removed) ys
  pub left : left_of a xs ≡ left_of a2 ys
  pub head : head_of size (a + removed) xs ≡ head_of size (a2 + removed) ys
  pub right : right_of size (a + removed) xs ≡ right_of size (a2 + removed) ys

-- the last of the first c items is the last of the first few behind the first k
before-list : (k c c2 m : ℕ) (xs : List Pair) → k ≡ c - 1 → c ≡ k + c2 → c2 ≤ m →
    drop (c - 1) (take c xs) ≡ drop (c2 - 1) (take c2 (take m (drop k xs)))
before-list k c c2 m xs one sum fits =
    let short : c - 1 ≡ k + (c2 - 1) = omega (arith, one, sum) in
    let cut : take c2 (take m (drop k xs)) ≡ drop k (take (k + c2) xs) = take-take c2 m (drop k xs) fits ∙ sym (drop-take k c2 xs) in
    ap (λ (j : ℕ). drop j (take c xs)) short
    ∙ (ap (λ (j : ℕ). drop (k + (c2 - 1)) (take j xs)) sum
    ∙ (sym (drop-drop (c2 - 1) k (take (k + c2) xs))
    ∙ ap (λ (ys : List Pair). drop (c2 - 1) ys) (sym cut)))

-- the first item behind the first d is the first one behind d less k of those behind the first k
after-list : (k d d2 m : ℕ) (xs : List Pair) → d ≡ k + d2 → m ≡ d2 + 1 → take 1 (drop d xs) ≡ take 1 (drop d2 (take m (drop k xs)))
after-list k d d2 m xs sum one =
    let reach : 1 ≤ 1 = omega arith in
    ap (λ (j : ℕ). take 1 (drop j xs)) sum
    ∙ (ap (λ (ys : List Pair). take 1 ys) (sym (drop-drop d2 k xs))
    ∙ (sym (take-take 1 1 (drop d2 (drop k xs)) reach)
    ∙ (ap (λ (ys : List Pair). take 1 ys) (sym (drop-take d2 1 (drop k xs)))
    ∙ ap (λ (j : ℕ). take 1 (drop d2 (take j (drop k xs)))) (sym one))))

-- a change meets in the window what it meets in all entries
pub window-agrees : (size : ℕ) (entries : List Pair) (a removed : ℕ) → HaveBytes entries →
    Agrees size (window_from a entries) a (a - window_start a entries) removed entries (window_at entries a removed)
window-agrees size entries a removed have =
    let k = window_from a entries in
    let b = window_start a entries in
    let rest = drop k entries in
    let a2 = a - b in
    let e2 = a2 + removed in
    let m = count_begun (a + removed) entries + 1 - k in
    let fits = count_ended-within_list a entries in
    let within : b ≤ a = ended-bytes a k entries (omega arith) in
    let have2 = have-drop k entries have in
    let at_a = is_behind size a k entries have (omega (arith, fits)) within in
    let at_e = is_behind size (a + removed) k entries have (omega (arith, fits)) (omega (arith, within)) in
    let place : a + removed - b ≡ e2 = omega (arith, within) in
    let ended1 : count_ended a entries ≡ k + count_ended a2 rest = at_a.ended in
    let begun_e : count_begun (a + removed) entries ≡ k + count_begun (a + removed - b) rest = at_e.begun in
    let begun_far = ap (λ (j : ℕ). count_begun j rest) place in
    let begun1 : count_begun (a + removed) entries ≡ k + count_begun e2 rest = omega (arith, begun_e, begun_far) in
    let order1 = count_ended-count_begun a2 e2 rest (omega arith) have2 in
    let order2 = count_ended-count_begun e2 e2 rest (omega arith) have2 in
    let wide : m ≡ count_begun e2 rest + 1 = omega (arith, begun1) in
    let in_a = is_within size a2 m rest have2 (omega (arith, order1, wide)) in
    let in_e = is_within size e2 m rest have2 (omega (arith, order2, wide)) in
    let same_a = in_a.ended in
    let same_e = in_e.begun in
    let ended2 : count_ended a entries ≡ k + count_ended a2 (take m rest) = omega (arith, ended1, same_a) in
    let begun2 : count_begun (a + removed) entries ≡ k + count_begun e2 (take m rest) = omega (arith, begun1, same_e) in
    record {
      before = before-list k (count_ended a entries) (count_ended a2 (take m rest)) m entries refl ended2
          (omega (arith, same_a, order1, wide));
      after = after-list k (count_begun (a + removed) entries) (count_begun e2 (take m rest)) m entries begun2
          (omega (arith, wide, same_e));
      ended = ended2;
      begun = begun2;
      left = at_a.left ∙ sym in_a.left;
      head = at_e.head ∙ (ap (λ (j : ℕ). head_of size j rest) place ∙ sym in_e.head);
      right = at_e.right ∙ (ap (λ (j : ℕ). right_of size j rest) place ∙ sym in_e.right);
    }

-- ---- the plan from what it reads

-- the parts
parts-agree : (size k a a2 removed most added : ℕ) (xs ys : List Pair) → Agrees size k a a2 removed xs ys →
    parts_of size most xs a removed added ≡ parts_of size most ys a2 removed added
parts-agree size k a a2 removed most added xs ys same =
    let F : List Pair → List Pair → ℕ → List Pair → List Pair → List Part = λ before left head right after.
    map Keep (before ++ left) ++ (map Make (pieces most (added + head)) ++ map Keep (right ++ after)) in
    let e = a + removed in
    let e2 = a2 + removed in
    ap (λ (before : List Pair). F before (left_of a xs) (head_of size e xs) (right_of size e xs) (one_after e xs)) same.before
    ∙ (ap (λ (left : List Pair). F (one_before a2 ys) left (head_of size e xs) (right_of size e xs) (one_after e xs)) same.left
    ∙ (ap (λ (head : ℕ). F (one_before a2 ys) (left_of a2 ys) head (right_of size e xs) (one_after e xs)) same.head
    ∙ (ap (λ (right : List Pair). F (one_before a2 ys) (left_of a2 ys) (head_of size e2 ys) right (one_after e xs)) same.right
    ∙ ap (λ (after : List Pair). F (one_before a2 ys) (left_of a2 ys) (head_of size e2 ys) (right_of size e2 ys) after) same.after)))

-- the entry before the place is one of those that end there or before it
merged-few : (at : ℕ) (entries : List Pair) (b : Bool) → merged_one (one_before at entries) b ≤ count_ended at entries
merged-few at entries b =
    elim (one_before-cases at entries) [
      | inl none ↦ let is = ap (λ (xs : List Pair). merged_one xs b) none in omega (arith, is)
      | inr one ↦
          let is = ap (λ (xs : List Pair). merged_one xs b) one.2 in
          let some = one.1 in
          let few = one_at_most one.0 b in
          omega (arith, is, some, few)
    ]
  where
    one_at_most : (p : Pair) (b : Bool) → merged_one (p ∷ []) b ≤ 1
    one_at_most p true = let few : 0 ≤ 1 = omega arith in few
    one_at_most p false = let few : 1 ≤ 1 = omega arith in few

-- the plan of merged parts
packed-agree : (size k b spare : ℕ) (xs ys : List Pair) (change : Change) (parts : List Part) →
    Agrees size k change.at (change.at - b) change.removed xs ys →
    plan_packed size xs spare change parts ≡ shifted k (plan_packed size ys spare (moved b change) parts)
packed-agree size k b spare xs ys change parts same =
    let a2 = change.at - b in
    let e = change.at + change.removed in
    let e2 = a2 + change.removed in
    let b1 = begins_kept parts in
    let b2 = ends_kept parts in
    let F : List Pair → List Pair → ℕ → ℕ → Plan = λ before after from to.
    record {
      from = from;
      count = to - from;
      parts = take (length parts - (length before - merged_one before b1 + (length after - merged_one after b2)))
          (drop (length before - merged_one before b1) parts);
      fit = fit_made size change.appends spare (made_part_bytes parts);
    } in
    let before = one_before a2 ys in
    let after = one_after e2 ys in
    let first = count_ended change.at xs - merged_one (one_before change.at xs) b1 in
    let last = count_begun e xs + merged_one (one_after e xs) b2 in
    let first2 = count_ended a2 ys - merged_one before b1 in
    let last2 = count_begun e2 ys + merged_one after b2 in
    let few = merged-few a2 ys b1 in
    let merged1 = ap (λ (zs : List Pair). merged_one zs b1) same.before in
    let merged2 = ap (λ (zs : List Pair). merged_one zs b2) same.after in
    let ended = same.ended in
    let begun = same.begun in
    let firsts : first ≡ k + first2 = omega (arith, few, merged1, ended) in
    let lasts : last ≡ k + last2 = omega (arith, merged2, begun) in
    let counts : k + last2 - (k + first2) ≡ last2 - first2 = omega arith in
    let G : ℕ → Plan = λ count.
    record {
      from = k + first2;
      count = count;
      parts = take (length parts - (length before - merged_one before b1 + (length after - merged_one after b2)))
          (drop (length before - merged_one before b1) parts);
      fit = fit_made size change.appends spare (made_part_bytes parts);
    } in
    ap (λ (zs : List Pair). F zs (one_after e xs) first last) same.before
    ∙ (ap (λ (zs : List Pair). F before zs first last) same.after
    ∙ (ap (λ (j : ℕ). F before after j last) firsts
    ∙ (ap (λ (j : ℕ). F before after (k + first2) j) lasts
    ∙ ap G counts)))

-- the plan of a last segment that grows
extended-agree : (k b : ℕ) (xs ys : List Pair) (change : Change) → last_entry xs ≡ last_entry ys → length xs - 1 ≡ k + (length ys - 1) →
    plan_extended xs change ≡ shifted k (plan_extended ys (moved b change))
extended-agree k b xs ys change last long =
    let F : ℕ → Pair → Plan = λ from p.
    record { from = from; count = 1; parts = Keep (record { bytes = p.bytes + change.added; page = p.page }) ∷ []; fit = Extend } in
    ap (λ (j : ℕ). F j (last_entry xs)) long ∙ ap (λ (p : Pair). F (k + (length ys - 1)) p) last

-- ---- the last entry

last-drop : (k : ℕ) (xs : List Pair) → k ≤ length xs - 1 → last_entry (drop k xs) ≡ last_entry xs
last-drop zero xs fits = refl
last-drop (suc k) [] fits = let none : suc k ≤ 0 - 1 = fits in absurd (omega (arith, none))
last-drop (suc k) (p ∷ []) fits = let none : suc k ≤ 1 - 1 = fits in absurd (omega (arith, none))
last-drop (suc k) (p ∷ q ∷ rest) fits =
    let long : suc k ≤ suc (suc (length rest)) - 1 = fits in
    let shorter : k ≤ suc (length rest) - 1 = omega (arith, long) in
    last-drop k (q ∷ rest) shorter

-- the window of an append is the last entry, where there is one
pub record HasLast (k : ℕ) (xs ys : List Pair) : Type 0 where
  pub last : last_entry xs ≡ last_entry ys
  pub long : length xs - 1 ≡ k + (length ys - 1)

pub window-last : (entries : List Pair) (a removed : ℕ) → HaveBytes entries → a ≡ bytes_of entries →
    HasLast (window_from a entries) entries (window_at entries a removed)
window-last entries a removed have ends =
    let k = window_from a entries in
    let rest = drop k entries in
    let m = count_begun (a + removed) entries + 1 - k in
    let reach : length entries ≤ length entries = omega arith in
    let border = border-number (length entries) entries have reach in
    let whole : bytes_of (take (length entries) entries) ≡ a = ap bytes_of (take_all (length entries) entries reach) ∙ sym ends in
    let all : count_ended a entries ≡ length entries = ap (λ (j : ℕ). count_ended j entries) (sym whole) ∙ border.0 in
    let more = count_ended-count_begun a (a + removed) entries (omega arith) have in
    let left = length-drop k entries in
    let same : take m rest ≡ rest = take_all m rest (omega (arith, all, more, left)) in
    let lengths = ap (λ (xs : List Pair). length xs) same in
    record {
      last = sym (ap last_entry same ∙ last-drop k entries (omega (arith, all)));
      long = omega (arith, lengths, left, all);
    }

-- how an append meets the spare pages depends on the last entry alone
fit-same : (appends : Bool) (f : Pair → Fit) (p q : Pair) → (appends ≡ true → p ≡ q) →
    (if appends then f p else Fresh) ≡ (if appends then f q else Fresh)
fit-same true f p q same = ap f (same refl)
fit-same false f p q same = refl

pub fit-on_window : (size : ℕ) (entries : List Pair) (spare : ℕ) (change : Change) → HaveBytes entries →
    (change.appends ≡ true → change.at ≡ bytes_of entries) →
    fit_appended size entries spare change
    ≡ fit_appended size (window_at entries change.at change.removed) spare (moved (window_start change.at entries) change)
fit-on_window size entries spare change have ends =
    fit-same change.appends (λ (p : Pair). fit_of (page_count size change.added) spare (nat_eq (p.bytes % size) 0))
    (last_entry entries) (last_entry (window_at entries change.at change.removed))
    (λ appends. let window = window-last entries change.at change.removed have (ends appends) in window.last)

-- only an append grows the last segment
grows-appends : (appends : Bool) (fit : Fit) → (if appends then fit else Fresh) ≡ Extend → appends ≡ true
grows-appends true fit grows = refl
grows-appends false fit grows = cc

-- the plan of a change is its plan on the window
pub planned-on_window : (n : Numbers) (threshold : ℕ) (entries : List Pair) (spare : ℕ) (change : Change) → HaveBytes entries →
    (change.appends ≡ true → change.at ≡ bytes_of entries) →
    planned n threshold entries spare change
    ≡ shifted (window_from change.at entries) (planned n threshold (window_at entries change.at change.removed) spare
    (moved (window_start change.at entries) change))
unfolding planned
planned-on_window n threshold entries spare change have ends =
    let k = window_from change.at entries in
    let b = window_start change.at entries in
    let ys = window_at entries change.at change.removed in
    let same = window-agrees n.page entries change.at change.removed have in
    let most = space_pages n * n.page in
    let xs_parts = parts_of n.page most entries change.at change.removed change.added in
    let ys_parts = parts_of n.page most ys (change.at - b) change.removed change.added in
    let parts : xs_parts ≡ ys_parts = parts-agree n.page k change.at (change.at - b) change.removed most change.added entries ys same in
    let packed : plan_packed n.page entries spare change (pack n.page threshold xs_parts)
    ≡ shifted k (plan_packed n.page ys spare (moved b change) (pack n.page threshold ys_parts)) =
    ap (λ (zs : List Part). plan_packed n.page entries spare change (pack n.page threshold zs)) parts
    ∙ packed-agree n.page k b spare entries ys change (pack n.page threshold ys_parts) same in
    let grown : fit_appended n.page entries spare change ≡ Extend →
    plan_extended entries change ≡ shifted k (plan_extended ys (moved b change)) = λ grows.
    let window = window-last entries change.at change.removed have (ends (grows-appends change.appends
    (fit_of (page_count n.page change.added) spare (nat_eq ((last_entry entries).bytes % n.page) 0)) grows)) in
    extended-agree k b entries ys change window.last window.long in
    go k (fit_appended n.page entries spare change) (fit_appended n.page ys spare (moved b change))
    (fit-on_window n.page entries spare change have ends)
    (plan_extended entries change) (plan_extended ys (moved b change))
    (plan_packed n.page entries spare change (pack n.page threshold xs_parts))
    (plan_packed n.page ys spare (moved b change) (pack n.page threshold ys_parts))
    grown packed
  where
    pick : (k : ℕ) (fit : Fit) (x x2 y y2 : Plan) → (fit ≡ Extend → x ≡ shifted k x2) → y ≡ shifted k y2 →
        (elim fit [ Extend ↦ x | _ ↦ y ]) ≡ shifted k (elim fit [ Extend ↦ x2 | _ ↦ y2 ])
    pick k Extend x x2 y y2 grown packed = grown refl
    pick k Follow x x2 y y2 grown packed = packed
    pick k Fresh x x2 y y2 grown packed = packed

    go : (k : ℕ) (fit fit2 : Fit) → fit ≡ fit2 → (x x2 y y2 : Plan) → (fit ≡ Extend → x ≡ shifted k x2) → y ≡ shifted k y2 →
        (elim fit [ Extend ↦ x | _ ↦ y ]) ≡ shifted k (elim fit2 [ Extend ↦ x2 | _ ↦ y2 ])
    go k fit fit2 same x x2 y y2 grown packed =
        pick k fit x x2 y y2 grown packed ∙ ap (λ (f : Fit). shifted k (elim f [ Extend ↦ x2 | _ ↦ y2 ])) same

-- ---- what it asks for

-- the requests of another change than an append don't read the last segment's pages
requests-same : (appends : Bool) (last last2 limit : ℕ) (needs : List ℕ) → (appends ≡ true → last ≡ last2) →
    requests appends last limit needs ≡ requests appends last2 limit needs
requests-same true last last2 limit needs same = ap (λ (pages : ℕ). requests true pages limit needs) (same refl)
requests-same false last last2 limit [] same = refl
requests-same false last last2 limit (need ∷ []) same = refl
requests-same false last last2 limit (need ∷ next ∷ rest) same =
    let one : Request = record { want = need; need = need } in
    ap (λ (more : List Request). one ∷ more) (requests-same false last last2 limit (next ∷ rest) same)

-- what a change of a tree asks for is what it asks for behind its window
pub wanted-on_window : (n : Numbers) (tree : Tree) (spare : Option Extent) (change : Change) → HaveBytes (tree_entries tree) →
    (change.appends ≡ true → change.at ≡ bytes_of (tree_entries tree)) →
    wanted n tree change (plan_of n tree spare change)
    ≡ wanted_behind n (window_at (tree_entries tree) change.at change.removed) change (planned n tree.threshold
    (window_at (tree_entries tree) change.at change.removed) (extent_pages spare)
    (moved (window_start change.at (tree_entries tree)) change))
wanted-on_window n tree spare change have ends =
    let entries = tree_entries tree in
    let ys = window_at entries change.at change.removed in
    let plan = planned n tree.threshold ys (extent_pages spare) (moved (window_start change.at entries) change) in
    let pages : Pair → ℕ = λ p. page_count n.page p.bytes in
    let needs = map (page_count n.page) (made_part_bytes plan.parts) in
    let asked : requests change.appends (pages (last_entry entries)) (space_pages n) needs
    ≡ requests change.appends (pages (last_entry ys)) (space_pages n) needs =
    requests-same change.appends (pages (last_entry entries)) (pages (last_entry ys)) (space_pages n) needs
    (λ appends. let window = window-last entries change.at change.removed have (ends appends) in ap pages window.last) in
    ap (wanted n tree change) (planned-on_window n tree.threshold entries (extent_pages spare) change have ends)
    ∙ go plan.fit (requests change.appends (pages (last_entry entries)) (space_pages n) needs)
    (requests change.appends (pages (last_entry ys)) (space_pages n) needs) asked
  where
    go : (fit : Fit) (x y : List Request) → x ≡ y →
        ◌≡◌ {A = List Request} (elim fit [ Fresh ↦ x | _ ↦ [] ]) (elim fit [ Fresh ↦ y | _ ↦ [] ])
    go Extend x y same = refl
    go Follow x y same = refl
    go Fresh x y same = same
