-- A plan of the window that the searches find is the plan of the whole object.
use Rattle.std.proofs.Common.{◌≡◌, ℕ, ◌+◌, ◌-◌, ◌<◌, ◌≤◌, true, List, ◌++◌, length, take, drop}
use Rattle.std.proofs.Common.{sym, ap, subst, arith, ◌∙◌, inl, inr, append_assoc, length-append}
use Rattle.std.specs.Prelude.{Option}
use Rattle.std.specs.List.{AllByRecursion}
use Rattle.std.proofs.lemmas.List.{drop-append-le, drop-drop, drop-take, length-drop, length-take, take-take}
use Rattle.std.proofs.Math.Seq.{drop-append-add}
use Rattle.geometry_model.specs.Numbers.{Numbers, IsInRange}
use Rattle.geometry_model.proofs.NumberLaws.{page-some}
use Rattle.tree_model.specs.declared.entry.Pair.{Pair}
use Rattle.tree_model.specs.declared.entry.Placed.{Placed}
use Rattle.tree_model.specs.Content.{content}
use Rattle.tree_model.specs.Range.{pairs_of, placed}
use Rattle.tree_model.specs.Tree.{Pages, bytes_of}
use Rattle.layout_model.specs.declared.change.Change.{Change}
use Rattle.layout_model.specs.declared.extent.Extent.{Extent}
use Rattle.layout_model.specs.Layout.{plan_of, tree_entries}
use Rattle.layout_model.specs.Parts.{count_begun}
use Rattle.layout_model.specs.Plan.{Plan, extent_pages, planned}
use Rattle.content_laws.specs.Spelling.{HaveBytes, IsPacked, IsThere, edited_content}
use Rattle.content_laws.proofs.SideLemmas.{count_ended-within_list}
use Rattle.content_laws.proofs.SpellingLemmas.{content-length}
use Rattle.change_laws.proofs.LayingLemmas.{merged_plan}
use Rattle.change_laws.proofs.SizeLemmas.{all-drop, all-take}
use Rattle.laid_content_laws.proofs.LaidContentLemmas.{plan-cases}
use Rattle.laid_content_laws.proofs.WindowContentLemmas.{behind_window, edited-around}
use Rattle.window_laws.specs.Window.{moved, shifted, wanted_behind, window_at, window_from, window_start}
use Rattle.window_laws.proofs.CountLemmas.{ended-bytes}
use Rattle.window_laws.proofs.SearchLemmas.{begun-reach, segments-found}
use Rattle.window_laws.proofs.StretchLemmas.{bytes_of-next, window-border}
use Rattle.window_laws.proofs.WindowLemmas.{planned-on_window, wanted-on_window}
use Rattle.edit_parts.specs.Parts.{parts_content}
use Rattle.object_plan.specs.declared.planned.Planned.{Planned}
use Rattle.object_plan.specs.declared.working_tree.WorkingTree.{WorkingTree}
use Rattle.object_plan.specs.Planned.{IsFrontOf, IsPlanOf}
use Rattle.object_plan.specs.Reading.{IsWindowOf}
use Rattle.object_plan.specs.WorkingTree.{CanChange, IsToldWorking, tree_on}
use Rattle.object_plan.specs.Window.{IsPlanOn, change_on, plan_on}
use Rattle.object_plan.proofs.WorkingLemmas.{AreToldEntries, spare-same, spare_in, told-window}
use Rattle.span_store.specs.Held.{Held, bytes_on}

-- ---- where a plan begins

-- what a merged plan replaces begins at the place or before it
pub planned-before : (n : Numbers) (least : ℕ) (entries : List Pair) (spare : ℕ) (change : Change) →
    IsPacked (planned n least entries spare change).fit →
    bytes_of (take (planned n least entries spare change).from entries) ≤ change.at
planned-before n least entries spare change =
    let P : Plan → Type 0 = λ plan. IsPacked plan.fit → bytes_of (take plan.from entries) ≤ change.at in
    elim (plan-cases n least entries spare change) [
      | inl grows ↦ subst P (sym grows.1) (λ packed. absurd packed)
      | inr merged ↦ subst P (sym merged) (λ packed.
          ended-bytes change.at (merged_plan n least entries spare change).from entries (omega arith))
    ]

-- ---- what is known of an object that is read

-- the entries of a window that was read, and a plan that was made of them
pub record IsReadPlan (n : Numbers) (at : Pages) (w : WorkingTree) (spare : Option Extent) (change : Change)
    (window : List Placed) (p : Planned) : Type 0 where
  pub range : IsInRange n
  pub have : HaveBytes (tree_entries (tree_on at w))
  pub there : AllByRecursion (IsThere at n.page) (tree_entries (tree_on at w))
  pub within : change.at + change.removed ≤ bytes_of (tree_entries (tree_on at w))
  pub ends : change.appends ≡ true → change.at ≡ bytes_of (tree_entries (tree_on at w))
  pub spare_is : extent_pages spare ≡ extent_pages w.spare
  pub found : window ≡ placed (window_start change.at (tree_entries (tree_on at w)))
      (window_at (tree_entries (tree_on at w)) change.at change.removed)
  pub made : IsPlanOn n (plan_on n w.threshold spare change window) change window p

-- a part of a stretch of a list is a part of the list
stretch-part : (k m f c : ℕ) (xs : List Pair) → f + c ≤ m → take c (drop f (take m (drop k xs))) ≡ take c (drop (k + f) xs)
stretch-part k m f c xs fits =
    let ys = drop k xs in
    let split : m ≡ f + (m - f) = omega (arith, fits) in
    let few : c ≤ m - f = omega (arith, fits) in
    ap (λ (j : ℕ). take c (drop f (take j ys))) split
    ∙ (ap (take c) (drop-take f (m - f) ys)
    ∙ (take-take c (m - f) (drop f ys) few
    ∙ ap (take c) (drop-drop f k xs)))

-- the first bytes of the window's edited ones are the first of the object's, from there on
spells_whole : (n : Numbers) (at : Pages) (entries : List Pair) (change : Change) (payload front : List ℕ) (from from2 : ℕ) →
    0 < n.page → AllByRecursion (IsThere at n.page) entries → change.at + change.removed ≤ bytes_of entries →
    from2 ≡ window_from change.at entries + from → from ≤ length (window_at entries change.at change.removed) →
    bytes_of (take from (window_at entries change.at change.removed)) ≤ change.at - window_start change.at entries →
    IsFrontOf front (drop (bytes_of (take from (window_at entries change.at change.removed)))
    (edited_content at n.page (window_at entries change.at change.removed) (moved (window_start change.at entries) change) payload)) →
    IsFrontOf front (drop (bytes_of (take from2 entries)) (edited_content at n.page entries change payload))
spells_whole n at entries change payload front from from2 some there within from_is few before spelled =
    let k = window_from change.at entries in
    let window = window_at entries change.at change.removed in
    let start = window_start change.at entries in
    let size = n.page in
    let bytes = edited_content at size window (moved start change) payload in
    let first = content at size (take k entries) in
    let back = content at size (behind_window entries change) in
    let skipped = bytes_of (take from window) in
    let long : length first ≡ start = content-length at size (take k entries) some (all-take (IsThere at size) k entries there) in
    let border = window-border from entries change.at change.removed few in
    let place : bytes_of (take from2 entries) ≡ length first + skipped =
    let same = ap (λ (j : ℕ). bytes_of (take j entries)) from_is in
    omega (arith, same, border, long) in
    let around = edited-around at size entries change payload some there within in
    let held = content-length at size window some
    (all-take (IsThere at size) (count_begun (change.at + change.removed) entries + 1 - k) (drop k entries)
    (all-drop (IsThere at size) k entries there)) in
    let reach : skipped ≤ length bytes =
    let edges = window_reach entries change within in
    let one = length-take (change.at - start) (content at size window) in
    let two = length-append (take (change.at - start) (content at size window))
    (payload ++ drop (change.at - start + change.removed) (content at size window)) in
    omega (arith, one, two, held, before, edges) in
    let whole : drop (bytes_of (take from2 entries)) (edited_content at size entries change payload) ≡ drop skipped bytes ++ back =
    ap (drop (bytes_of (take from2 entries))) around
    ∙ (ap (λ (j : ℕ). drop j (first ++ (bytes ++ back))) place
    ∙ (drop-append-add first (bytes ++ back) skipped ∙ drop-append-le skipped bytes back reach)) in (
      spelled.0 ++ back,
      sym (append_assoc front spelled.0 back) ∙ (ap (λ (xs : List ℕ). xs ++ back) spelled.1 ∙ sym whole),
    )
  where
    bytes-rise : (i j : ℕ) (ps : List Pair) → i ≤ j → bytes_of (take i ps) ≤ bytes_of (take j ps)
    bytes-rise i j ps le =
        let next = bytes_of-next i (j - i) ps in
        let split : i + (j - i) ≡ j = omega (arith, le) in
        let same = ap (λ (l : ℕ). bytes_of (take l ps)) split in
        omega (arith, next, same)

    -- the place lies within the window
    window_reach : (es : List Pair) (c : Change) → c.at + c.removed ≤ bytes_of es →
        c.at - window_start c.at es ≤ bytes_of (window_at es c.at c.removed)
    window_reach es c inside =
        let i = count_begun (c.at + c.removed) es in
        let reached = begun-reach (c.at + c.removed) es inside in
        let w = window_at es c.at c.removed in
        let j = window_from c.at es in
        let m = i + 1 - j in
        let next = bytes_of-next j m es in
        let more = bytes-rise i (j + m) es (omega arith) in
        omega (arith, reached, next, more)

-- ---- the plan of the object

read_plan : (n : Numbers) (at : Pages) (w : WorkingTree) (spare : Option Extent) (window : List Placed) (p : Planned) →
    IsReadPlan n at w spare p.change window p → IsPlanOf n at w p
read_plan n at w spare window p read =
    let change = p.change in
    let tree = tree_on at w in
    let entries = tree_entries tree in
    let t = w.threshold in
    let k = window_from change.at entries in
    let b = window_start change.at entries in
    let wdw = window_at entries change.at change.removed in
    let m = count_begun (change.at + change.removed) entries + 1 - k in
    let found = segments-found entries change.at change.removed window read.have read.found in
    let small = plan_on n t spare change window in
    let whole = plan_of n tree w.spare change in
    let on : ℕ → ℕ → List Pair → Plan = λ start pages pairs. planned n t pairs pages (moved start change) in
    let on_is : small ≡ on b (extent_pages w.spare) wdw =
    ap (λ (s : ℕ). on s (extent_pages spare) (pairs_of window)) found.1
    ∙ (ap (λ (e : ℕ). on b e (pairs_of window)) read.spare_is ∙ ap (on b (extent_pages w.spare)) found.0) in
    let same : whole ≡ shifted k small =
    planned-on_window n t entries (extent_pages w.spare) change read.have read.ends ∙ ap (shifted k) (sym on_is) in
    let from_is : whole.from ≡ k + small.from = ap (λ (q : Plan). q.from) same in
    let count_is : whole.count ≡ small.count = ap (λ (q : Plan). q.count) same in
    let some = page-some n read.range in
    let few = read.made.few in
    let pairs_long = ap length found.0 in
    let long = length-take m (drop k entries) in
    let rest = length-drop k entries in
    let inside = count_ended-within_list change.at entries in
    let start_is = found.1 in
    let first = read.made.first in
    let last = read.made.last in
    let take_is = ap (λ (ps : List Pair). bytes_of (take small.from ps)) found.0 in
    let take2_is = ap (λ (ps : List Pair). bytes_of (take (small.from + small.count) ps)) found.0 in
    let one = window-border small.from entries change.at change.removed (omega (arith, few, pairs_long)) in
    let two = window-border (small.from + small.count) entries change.at change.removed (omega (arith, few, pairs_long)) in
    let from_same = ap (λ (j : ℕ). bytes_of (take j entries)) from_is in
    let end_is : whole.from + whole.count ≡ k + (small.from + small.count) = omega (arith, from_is, count_is) in
    let end_same = ap (λ (j : ℕ). bytes_of (take j entries)) end_is in
    let fit_is : p.fit ≡ whole.fit = read.made.fit ∙ sym (ap (λ (q : Plan). q.fit) same) in
    record {
      few = omega (arith, end_is, few, pairs_long, long, rest, inside);
      first = omega (arith, first, start_is, take_is, one, from_same);
      last = omega (arith, last, start_is, take2_is, two, end_same);
      replaced = read.made.replaced
          ∙ (ap (λ (ps : List Pair). take small.count (drop small.from ps)) found.0
          ∙ (stretch-part k m small.from small.count entries (omega (arith, few, pairs_long, long))
          ∙ (ap (λ (j : ℕ). take small.count (drop j entries)) (sym from_is)
          ∙ ap (λ (c : ℕ). take c (drop whole.from entries)) (sym count_is))));
      parts = read.made.parts ∙ sym (ap (λ (q : Plan). q.parts) same);
      fit = fit_is;
      requests = read.made.requests
          ∙ (ap (λ (ps : List Pair). wanted_behind n ps change small) found.0
          ∙ (ap (wanted_behind n wdw change) on_is
          ∙ sym (wanted-on_window n tree w.spare change read.have read.ends)));
      spells = λ packed payload paid.
          let there = subst (AllByRecursion (IsThere at n.page)) (sym found.0)
          (all-take (IsThere at n.page) m (drop k entries) (all-drop (IsThere at n.page) k entries read.there)) in
          let spelled = read.made.spells packed at payload paid there in
          let low = planned-before n t (pairs_of window) (extent_pages spare) (change_on window change)
          (subst IsPacked read.made.fit packed) in
          spells_whole n at entries change payload (parts_content at n.page payload p.parts.items) small.from whole.from some read.there
          read.within from_is (omega (arith, few, pairs_long)) (omega (arith, low, take_is, start_is))
          (subst (λ (ps : List Pair). IsFrontOf (parts_content at n.page payload p.parts.items)
          (drop (bytes_of (take small.from ps)) (edited_content at n.page ps (moved b change) payload))) found.0
          (subst (λ (s : ℕ). IsFrontOf (parts_content at n.page payload p.parts.items)
          (drop (bytes_of (take small.from (pairs_of window)))
          (edited_content at n.page (pairs_of window) (moved s change) payload))) found.1 spelled));
    }

pub is-plan-of : (n : Numbers) (at : Pages) (w : WorkingTree) (spare : Option Extent) (change : Change) (window : List Placed)
    (p : Planned) → IsReadPlan n at w spare change window p → IsPlanOf n at w p
is-plan-of n at w spare change window p read =
    read_plan n at w spare window p
    (subst (λ (c : Change). IsReadPlan n at w spare c window p) (sym read.made.change_is) read)

-- the plan of a told object, made of the window that was read
pub told-plan : (n : Numbers) (held : Held) (w : WorkingTree) (change : Change) (window : List Placed) (p : Planned) → IsInRange n →
    AreToldEntries n held w → IsToldWorking n held w → CanChange n w change →
    IsWindowOf (bytes_on held) w.root change.at change.removed window →
    IsPlanOn n (plan_on n w.threshold (spare_in w) change window) change window p → IsPlanOf n (bytes_on held) w p
told-plan n held w change window p range are told can read made =
    let counted = are.counted in
    let within = can.within in
    is-plan-of n (bytes_on held) w (spare_in w) change window p (record {
      range = range;
      have = are.have;
      there = are.there;
      within = omega (arith, within, counted);
      ends = λ appends. (can.at_end appends).0 ∙ sym counted;
      spare_is = spare-same n held w are told;
      found = told-window n held w change.at change.removed window are read;
      made = made;
    })
