-- An object that is told, and the window that is read of it.
use Rattle.std.proofs.Common.{◌≡◌, ℕ, ◌+◌, ◌-◌, ◌<◌, ◌≤◌, Bool, true, false, List, [], ◌∷◌, length, map, drop}
use Rattle.std.proofs.Common.{refl, sym, ap, subst, arith, ◌∙◌, inl, inr, nat_eq}
use Rattle.std.specs.Prelude.{IfSome, IsTrue, Option, Some, None, if◌then◌else◌, is_some, unwrap_or}
use Rattle.std.specs.List.{AllByRecursion}
use Rattle.std.proofs.lemmas.Bool.{eqb-false, eqb-true}
use Rattle.std.proofs.lemmas.List.{take_all}
use Rattle.std.proofs.lemmas.List.Sums.{sum_by-cons, sum_by-take-le}
use Rattle.base_laws.proofs.ListLaws.{all-map}
use Rattle.base_laws.proofs.OptionLaws.{within-size}
use Rattle.geometry_model.specs.Numbers.{Numbers}
use Rattle.geometry_model.proofs.PageLaws.{IsInSpace-below}
use Rattle.tree_model.specs.declared.entry.Pair.{Pair}
use Rattle.tree_model.specs.declared.entry.Placed.{Placed}
use Rattle.tree_model.specs.Range.{pairs_of, placed}
use Rattle.tree_model.specs.Tree.{IsSegment, Pages, bytes_of, page_count}
use Rattle.layout_model.specs.declared.change.Change.{Change}
use Rattle.layout_model.specs.declared.extent.Extent.{Extent}
use Rattle.layout_model.specs.Layout.{tree_entries}
use Rattle.layout_model.specs.Parts.{count_begun}
use Rattle.layout_model.specs.Plan.{extent_pages}
use Rattle.content_laws.specs.Spelling.{HaveBytes, IsThere}
use Rattle.change_laws.specs.Tail.{IsTail}
use Rattle.change_laws.proofs.PartLemmas.{segments-have}
use Rattle.change_laws.proofs.SizeLemmas.{all-drop, all-take}
use Rattle.change_laws.proofs.ThereLemmas.{all-there}
use Rattle.moment_model.specs.Version.{covers, segment_run, uses}
use Rattle.span_store.specs.Held.{Held, bytes_on, has, page_at}
use Rattle.tree_pages.specs.Stored.{AreWithin}
use Rattle.tree_pages.proofs.TreeLemmas.{tree-counts, tree-levels}
use Rattle.window_laws.specs.Window.{window_at, window_from, window_start}
use Rattle.window_laws.proofs.SearchLemmas.{segments-found}
use Rattle.window_laws.proofs.StretchLemmas.{window-border}
use Rattle.edit_plan.specs.Planned.{IsEntry}
use Rattle.edit_plan.proofs.SpotLemmas.{pairs-length}
use Rattle.edit_plan.proofs.TightLemmas.{window-tight}
use Rattle.object_plan.specs.declared.working_tree.WorkingTree.{WorkingTree}
use Rattle.object_plan.specs.Planned.{IsHeldEntry}
use Rattle.object_plan.specs.Reading.{IsWindowOf}
use Rattle.object_plan.specs.WorkingTree.{CanChange, IsToldWorking, entries_on, tree_on}
use Rattle.object_plan.specs.Window.{CanPlanOn, IsUsable}
use Rattle.object_plan.proofs.MakeLemmas.{some_segments}
use Rattle.moment_laws.proofs.GrantLemmas.{inside-counts}

-- ---- pages that are held

sized_at : (size : ℕ) (page : Option (List ℕ)) → is_some page ≡ true → IfSome page (λ bytes. length bytes ≡ size) →
    length (unwrap_or page []) ≡ size
sized_at size None there sized = absurd (cc)
sized_at size (Some bytes) there sized = sized

all_held : (n : Numbers) (held : Held) (entries : List Pair) → AllByRecursion (IsSegment n) entries →
    ((q : ℕ) → 0 < uses q (map (segment_run n.page) entries) → IsTrue (has held q)) → AllByRecursion (IsHeldEntry n held) entries
all_held n held [] segments here = tt
all_held n held (p ∷ ps) segments here = (
  record {
    segment = segments.0;
    pages = λ q from to.
        let all = sum_by-cons (covers q) (segment_run n.page p) (map (segment_run n.page) ps) in
        let one = inside-counts q (segment_run n.page p) from to in
        here q (omega (arith, all, one));
  },
  all_held n held ps segments.1 (λ q some.
      let all = sum_by-cons (covers q) (segment_run n.page p) (map (segment_run n.page) ps) in
      here q (omega (arith, all, some))),
)

-- ---- the entries of a told object

pub record AreToldEntries (n : Numbers) (held : Held) (w : WorkingTree) : Type 0 where
  pub listed : tree_entries (tree_on (bytes_on held) w) ≡ entries_on (bytes_on held) w
  pub counted : bytes_of (tree_entries (tree_on (bytes_on held) w)) ≡ w.root.length
  pub have : HaveBytes (tree_entries (tree_on (bytes_on held) w))
  pub there : AllByRecursion (IsThere (bytes_on held) n.page) (tree_entries (tree_on (bytes_on held) w))
  pub entries : AllByRecursion (IsHeldEntry n held) (tree_entries (tree_on (bytes_on held) w))

pub told-entries : (n : Numbers) (held : Held) (w : WorkingTree) → ((q : ℕ) → IfSome (page_at held q) (λ page. length page ≡ n.page)) →
    IsToldWorking n held w → AreToldEntries n held w
told-entries n held w sized told =
    let at = bytes_on held in
    let tree = tree_on at w in
    let within : AreWithin n.page at = λ q. within-size n.page (page_at held q) (sized q) in
    let levels = tree-levels n at w.root (entries_on at w) within told.tree in
    let counts = tree-counts n at w.root (entries_on at w) told.tree in
    let here : (q : ℕ) → 0 < uses q (map (segment_run n.page) (tree_entries tree)) → IsTrue (has held q) = λ q some.
    told.owned q (omega (arith, some)) in
    record {
      listed = levels.listed;
      counted = ap bytes_of levels.listed ∙ counts;
      have = segments-have n (tree_entries tree) told.good.segments;
      there = all-there at n.page (tree_entries tree) (λ q some. sized_at n.page (page_at held q) (here q some) (sized q));
      entries = all_held n held (tree_entries tree) told.good.segments here;
    }

-- ---- the spare

abbrev pub spare_in : WorkingTree → Option Extent
spare_in w = if nat_eq w.root.length 0 then None else w.spare

pub spare-less : (w : WorkingTree) → extent_pages (spare_in w) ≤ extent_pages w.spare
spare-less w = go (nat_eq w.root.length 0)
  where
    go : (t : Bool) → extent_pages (if t then None else w.spare) ≤ extent_pages w.spare
    go true = let none : extent_pages None ≡ 0 = refl in omega (arith, none)
    go false = omega arith

pub spare-some : (w : WorkingTree) → 0 < extent_pages (spare_in w) → 0 < w.root.length
spare-some w = go (nat_eq w.root.length 0) refl
  where
    go : (t : Bool) → nat_eq w.root.length 0 ≡ t → 0 < extent_pages (if t then None else w.spare) → 0 < w.root.length
    go true is some = let none : extent_pages None ≡ 0 = refl in absurd (omega (arith, none, some))
    go false is some = let any = eqb-false w.root.length 0 is in omega (arith, any)

no_entry : (entries : List Pair) → HaveBytes entries → bytes_of entries ≡ 0 → length entries ≡ 0
no_entry [] have none = refl
no_entry (p ∷ ps) have none =
    let byte = have.0 in
    let sum = sum_by-cons (λ (q : Pair). q.bytes) p ps in
    absurd (omega (arith, byte, sum, none))

pub spare-same : (n : Numbers) (held : Held) (w : WorkingTree) → AreToldEntries n held w → IsToldWorking n held w →
    extent_pages (spare_in w) ≡ extent_pages w.spare
spare-same n held w are told = go (nat_eq w.root.length 0) refl
  where
    tail : (spare : Option Extent) → IsTail n (Some (tree_on (bytes_on held) w)) spare → w.root.length ≡ 0 → 0 ≡ extent_pages spare
    tail None is none = refl
    tail (Some run) is none =
        let counted = are.counted in
        let empty = no_entry (tree_entries (tree_on (bytes_on held) w)) are.have (omega (arith, counted, none)) in
        let some = is.some in
        absurd (omega (arith, empty, some))

    go : (t : Bool) → nat_eq w.root.length 0 ≡ t → extent_pages (if t then None else w.spare) ≡ extent_pages w.spare
    go true is = tail w.spare told.tail (eqb-true w.root.length 0 is)
    go false is = refl

-- ---- the window

-- the window of a told object, read from its entries
pub told-window : (n : Numbers) (held : Held) (w : WorkingTree) (at removed : ℕ) (window : List Placed) → AreToldEntries n held w →
    IsWindowOf (bytes_on held) w.root at removed window →
    window ≡ placed (window_start at (tree_entries (tree_on (bytes_on held) w)))
    (window_at (tree_entries (tree_on (bytes_on held) w)) at removed)
told-window n held w at removed window are is =
    subst (λ (es : List Pair). HaveBytes es → window ≡ placed (window_start at es) (window_at es at removed)) (sym are.listed) is are.have

-- such a window is usable
pub told-usable : (n : Numbers) (held : Held) (w : WorkingTree) (change : Change) (window : List Placed) → IsToldWorking n held w →
    AreToldEntries n held w → CanChange n w change → IsWindowOf (bytes_on held) w.root change.at change.removed window →
    IsUsable n held w.root.length change window
told-usable n held w change window told are can read =
    let entries = tree_entries (tree_on (bytes_on held) w) in
    let is = told-window n held w change.at change.removed window are read in
    let counted = are.counted in
    let within = can.within in
    let found = segments-found entries change.at change.removed window are.have is in
    let tight = window-tight entries change.at change.removed window are.have (omega (arith, within, counted)) is in
    let wdw = window_at entries change.at change.removed in
    let k = window_from change.at entries in
    let m = count_begun (change.at + change.removed) entries + 1 - k in
    let reach : length wdw ≤ length wdw = omega arith in
    let border = window-border (length wdw) entries change.at change.removed reach in
    let whole = ap bytes_of (take_all (length wdw) wdw reach) in
    let most = sum_by-take-le (λ (q : Pair). q.bytes) entries (k + length wdw) in
    let start_is = found.1 in
    let bytes_is = ap bytes_of found.0 in
    let fits = can.fits in
    let held_all = subst (AllByRecursion (IsHeldEntry n held)) (sym found.0)
    (all-take (IsHeldEntry n held) m (drop k entries) (all-drop (IsHeldEntry n held) k entries are.entries)) in
    record {
      can = record {
        first = tight.1;
        last = tight.2;
        fits = omega (arith, border, whole, most, start_is, bytes_is, counted, fits);
        entries = all-map (IsHeldEntry n held) (IsEntry n) (λ p here. record {
          some = here.segment.some;
          most = here.segment.most;
          within = IsInSpace-below n here.segment.together.0 p.page (page_count n.page p.bytes) here.segment.together.1;
        }) (pairs_of window) held_all;
        payload = omega (arith, fits);
      };
      tight = tight.0;
      inside = omega (arith, border, whole, most, start_is, bytes_is, counted);
      entries = held_all;
    }

-- a plan can be made of a usable window, over every device
pub usable-plan : (n : Numbers) (held : Held) (w : WorkingTree) (change : Change) (window : List Placed) → CanChange n w change →
    IsUsable n held w.root.length change window → CanPlanOn n w.threshold (spare_in w) change window
usable-plan n held w change window can usable =
    let inside = usable.inside in
    let last = usable.can.last in
    let long = pairs-length window in
    record {
      can = usable.can;
      tight = usable.tight;
      segments = all-map (IsHeldEntry n held) (IsSegment n) (λ p here. here.segment) (pairs_of window) usable.entries;
      some = can.some;
      at_end = λ appends.
          let at_is = (can.at_end appends).0 in
          let nothing = (can.at_end appends).1 in (
            omega (arith, at_is, inside, last),
            nothing,
            λ spare.
                let some = spare-some w spare in
                let there = some_segments window (omega (arith, some, at_is, last)) in
                omega (arith, there, long),
          );
      threshold_low = can.threshold_low;
      threshold_high = can.threshold_high;
    }
