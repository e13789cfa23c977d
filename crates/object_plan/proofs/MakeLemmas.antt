-- A plan of a usable window can be made, over every device.
use Rattle.std.proofs.Common.{◌≡◌, ℕ, ◌+◌, ◌-◌, ◌<◌, ◌≤◌, true, List, [], ◌∷◌, length, map, drop}
use Rattle.std.proofs.Common.{sym, ap, subst, arith}
use Rattle.std.specs.Prelude.{Option}
use Rattle.std.specs.List.{AllByRecursion}
use Rattle.std.proofs.lemmas.List.{length-drop, length-take}
use Rattle.std.proofs.lemmas.List.Sums.{sum_by-take-le}
use Rattle.base_laws.proofs.ListLaws.{all-map}
use Rattle.geometry_model.specs.Numbers.{Numbers, IsInRange}
use Rattle.geometry_model.proofs.NumberLaws.{space_pages-low, page-some}
use Rattle.tree_model.specs.declared.entry.Pair.{Pair}
use Rattle.tree_model.specs.declared.entry.Placed.{Placed}
use Rattle.tree_model.specs.Range.{pairs_of, start_of}
use Rattle.tree_model.specs.Tree.{bytes_of}
use Rattle.tree_model.proofs.PageCountLaws.{count-some}
use Rattle.layout_model.specs.declared.change.Change.{Change}
use Rattle.layout_model.specs.declared.extent.Extent.{Extent}
use Rattle.layout_model.specs.declared.fit.Fit.{Fit}
use Rattle.layout_model.specs.declared.fit.Fit.TheVariants.{Extend, Follow, Fresh}
use Rattle.layout_model.specs.declared.request.Request.{Request}
use Rattle.layout_model.specs.Parts.{part_bytes}
use Rattle.layout_model.specs.Plan.{Plan, extent_pages}
use Rattle.layout_laws.specs.Merging.{parts_bytes}
use Rattle.change_laws.proofs.LayingLemmas.{extend-means}
use Rattle.change_laws.proofs.PartLemmas.{segments-have}
use Rattle.change_laws.proofs.SizeLemmas.{all-drop, all-take}
use Rattle.span_store.specs.Held.{Held}
use Rattle.window_laws.specs.Searches.{end_of}
use Rattle.window_laws.proofs.StretchLemmas.{bytes_of-next}
use Rattle.edit_parts.specs.declared.part.Part.{Part}
use Rattle.edit_parts.specs.Parts.{layout_part, pieces_of}
use Rattle.edit_plan.proofs.SpotLemmas.{pairs-length}
use Rattle.part_bytes.specs.Gathering.{CanGather}
use Rattle.seg_bytes.specs.Segments.{HoldsBytes}
use Rattle.written_laws.proofs.PieceLemmas.{entries-gather}
use Rattle.object_plan.specs.declared.planned.Planned.{Planned}
use Rattle.object_plan.specs.declared.working_tree.WorkingTree.{WorkingTree}
use Rattle.object_plan.specs.Planned.{CanMake, GoesTo, IsHeldEntry}
use Rattle.object_plan.specs.WorkingTree.{CanChange}
use Rattle.object_plan.specs.Window.{CanPlanOn, IsPlanOn, IsUsable, change_on, plan_on}
use Rattle.object_plan.proofs.PlannedLemmas.{AppendsWell, planned-bytes, planned-goes, planned-some}

-- ---- lists of parts

all-unmap : {A B : Type 0} (P : B → Type 0) (f : A → B) (xs : List A) → AllByRecursion P (map f xs) → AllByRecursion (λ x. P (f x)) xs
all-unmap P f [] all = tt
all-unmap P f (x ∷ xs) all = (all.0, all-unmap P f xs all.1)

-- ---- the spare

goes-more : (fit : Fit) (n : Numbers) (few spare added : ℕ) (parts : List Part) (requests : List Request) → few ≤ spare →
    GoesTo fit n few added parts requests → GoesTo fit n spare added parts requests
goes-more Fresh n few spare added parts requests less goes = goes
goes-more Follow n few spare added parts requests less goes =
    let fits = goes.1.fits in
    (goes.0, record { bytes = goes.1.bytes; one = goes.1.one; fits = omega (arith, fits, less) })
goes-more Extend n few spare added parts requests less goes =
    let fits = goes.1.fits in
    (goes.0, record { pair = goes.1.pair; one = goes.1.one; fits = omega (arith, fits, less) })

-- segments that end behind the object's first byte are some
pub some_segments : (window : List Placed) → 0 < end_of window → 0 < length (pairs_of window)
some_segments [] past = let none : 0 < 0 = past in absurd (omega (arith, none))
some_segments (s ∷ rest) past = omega arith

-- ---- the plan

pub appends-well : (n : Numbers) (bytes threshold : ℕ) (spare : Option Extent) (change : Change) (window : List Placed) → IsInRange n →
    (change.appends ≡ true → (change.at ≡ end_of window) × (change.removed ≡ 0) × (0 < extent_pages spare → 0 < length window)) →
    0 < change.removed + change.added →
    AppendsWell n (pairs_of window) (extent_pages spare) (change_on window change)
appends-well n bytes threshold spare change window range ends brings = record {
  nothing = λ appends. (ends appends).1;
  there = λ grows.
      let some = page-some n range in
      let means = extend-means n.page (pairs_of window) (extent_pages spare) (change_on window change) grows in
      let nothing = (ends means.2).1 in
      let pages = count-some n.page change.added some (omega (arith, nothing, brings)) in
      let fits = means.0 in
      let there = (ends means.2).2 (omega (arith, pages, fits)) in
      let long = pairs-length window in
      omega (arith, there, long);
}

pub can-make : (n : Numbers) (held : Held) (w : WorkingTree) (spare : Option Extent) (change : Change) (window : List Placed)
    (p : Planned) → IsInRange n → extent_pages spare ≤ extent_pages w.spare → CanChange n w change →
    IsUsable n held w.root.length change window → CanPlanOn n w.threshold spare change window →
    IsPlanOn n (plan_on n w.threshold spare change window) change window p → CanMake n held w p
can-make n held w spare change window p range less can usable ready made =
    let pairs = pairs_of window in
    let start = start_of window in
    let inner = change_on window change in
    let plan = plan_on n w.threshold spare change window in
    let i = plan.from in
    let m = plan.count in
    let some = page-some n range in
    let space = space_pages-low n range in
    let segments = ready.segments in
    let well = appends-well n w.root.length w.threshold spare change window range ready.at_end ready.some in
    let first = made.first in
    let last = made.last in
    let next = bytes_of-next i m pairs in
    let most = sum_by-take-le (λ (q : Pair). q.bytes) pairs (i + m) in
    let inside = usable.inside in
    let replaced = ap bytes_of made.replaced in
    let low = usable.can.first in
    let high = usable.can.last in
    let within : change.at - start + change.removed ≤ bytes_of pairs = omega (arith, low, high) in
    let total = planned-bytes n w.threshold pairs (extent_pages spare) inner some (segments-have n pairs segments) within well in
    let parts_is : parts_bytes plan.parts ≡ parts_bytes (map layout_part p.parts.items) = ap parts_bytes (sym made.parts) in
    let removed_is = ap (λ (c : Change). c.removed) made.change_is in
    let added_is = ap (λ (c : Change). c.added) made.change_is in
    let brings = ready.some in
    let high_t = ready.threshold_high in
    let each = planned-some n w.threshold pairs (extent_pages spare) inner some (omega (arith, space)) high_t segments brings well in
    let goes = planned-goes n w.threshold pairs (extent_pages spare) change inner p.parts.items p.requests.items some
    (omega (arith, space)) high_t segments made.parts made.requests in
    record {
      order = omega (arith, first, last, next);
      inside = omega (arith, last, most, inside);
      replaced = subst (AllByRecursion (IsHeldEntry n held)) (sym made.replaced)
          (all-take (IsHeldEntry n held) m (drop i pairs) (all-drop (IsHeldEntry n held) i pairs usable.entries));
      count = omega (arith, first, last, next, replaced);
      bytes = omega (arith, total, parts_is, removed_is, added_is, first, last, next);
      some = all-unmap (λ part. 1 ≤ part_bytes part) layout_part p.parts.items
          (subst (AllByRecursion (λ part. 1 ≤ part_bytes part)) (sym made.parts) each);
      pieces = λ packed. subst (λ (k : ℕ). AllByRecursion (CanGather held n.page k) (pieces_of p.parts.items)) (sym added_is)
          (entries-gather n change.added pairs (pieces_of p.parts.items) held range usable.can.entries
          (all-map (IsHeldEntry n held) (λ (q : Pair). HoldsBytes held n.page q.page q.bytes) (λ q here. here.pages) pairs usable.entries)
          (made.pieces packed));
      goes = goes-more p.fit n (extent_pages spare) (extent_pages w.spare) p.change.added p.parts.items p.requests.items less
          (subst (λ (k : ℕ). GoesTo p.fit n (extent_pages spare) k p.parts.items p.requests.items) (sym added_is)
          (subst (λ (f : Fit). GoesTo f n (extent_pages spare) change.added p.parts.items p.requests.items) (sym made.fit) goes));
    }

-- the window has at most two entries more than are replaced
pub replaced-few : (n : Numbers) (plan : Plan) (change : Change) (window : List Placed) (p : Planned) →
    IsPlanOn n plan change window p → length window ≤ length p.replaced.items + 2
replaced-few n plan change window p made =
    let few = made.few in
    let most = made.most in
    let same = ap length made.replaced in
    let long = length-take plan.count (drop plan.from (pairs_of window)) in
    let rest = length-drop plan.from (pairs_of window) in
    let all = pairs-length window in
    omega (arith, few, most, same, long, rest, all)
