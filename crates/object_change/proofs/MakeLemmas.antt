-- A planned change as a whole: what its steps come to.
use Rattle.std.proofs.Common.{◌≡◌, ℕ, suc, ◌+◌, ◌-◌, ◌<◌, ◌≤◌}
use Rattle.std.proofs.Common.{Bool, true, false, IsTrue, List, [], ◌∷◌, ◌++◌, length, map}
use Rattle.std.proofs.Common.{drop, Option, Some, None, refl, sym, ap, subst, arith, ◌∙◌, inl, inr, ◌||◌}
use Rattle.std.specs.Prelude.{IfSome, is_some, if◌then◌else◌}
use Rattle.std.specs.List.{AllByRecursion}
use Rattle.std.proofs.lemmas.Bool.{cases_lt, false≢true}
use Rattle.std.proofs.lemmas.List.{append-nil, drop-map}
use Rattle.std.proofs.lemmas.List.Concat.{flat_map-cons}
use Rattle.change_laws.proofs.AppendLemmas.{past-some}
use Rattle.base_laws.proofs.ListLaws.{all-map}
use Rattle.geometry_model.specs.Numbers.{Numbers}
use Rattle.fault_count.specs.Counts.{Meter}
use Rattle.tree_model.specs.declared.entry.Pair.{Pair}
use Rattle.tree_model.specs.Tree.{page_count}
use Rattle.layout_model.specs.declared.extent.Extent.{Extent}
use Rattle.layout_model.specs.declared.fit.Fit.{Fit}
use Rattle.layout_model.specs.declared.fit.Fit.TheVariants.{Extend, Follow, Fresh}
use Rattle.layout_model.specs.declared.request.Request.{Request}
use Rattle.layout_model.specs.Layout.{Tree, as_run, laid_parts, left_over, spare_after, spare_behind}
use Rattle.layout_model.specs.Plan.{Plan, extent, last_entry, made_part_bytes, past}
use Rattle.let_go_laws.specs.LetGo.{spare_run}
use Rattle.moment_model.specs.Version.{spare_uses, uses, version_uses}
use Rattle.moment_laws.specs.Granting.{LiesInSpace, page_run, runs_of_parts}
use Rattle.moment_laws.proofs.GrantLemmas.{uses-cons}
use Rattle.span_store.specs.Held.{Held, HoldsRun, bytes_on, has, page_at}
use Rattle.superdirectory.specs.Rest.{Frame, count}
use Rattle.tree_splice.specs.Splice.{ArePagesIn}
use Rattle.edit_parts.specs.declared.part.Part.{Part}
use Rattle.edit_parts.specs.declared.part.Part.TheVariants.{Keep, Make}
use Rattle.edit_parts.specs.Parts.{layout_part, pieces_of}
use Rattle.edit_parts.specs.Pieces.{pieces_bytes}
use Rattle.part_bytes.specs.Runs.{HoldsRuns}
use Rattle.part_store.specs.Asking.{AreOfAll, rows}
use Rattle.written_laws.proofs.PieceLemmas.{runs-apart}
use Rattle.object_body.specs.Places.{IsReady, IsStore}
use Rattle.object_body.proofs.TurnLemmas.{run-in_space}
use Rattle.object_plan.specs.declared.planned.Planned.{Planned}
use Rattle.object_plan.specs.declared.working_tree.WorkingTree.{WorkingTree}
use Rattle.object_plan.specs.Planned.{CanMake, IsHeldEntry}
use Rattle.object_plan.specs.WorkingTree.{tree_on}
use Rattle.held_parts.specs.Asking.{AreBare, AreRunsFor}
use Rattle.held_parts.specs.Holding.{HoldsGranted, KeepsRight}
use Rattle.object_change.specs.Calls.{CanMakeChange}
use Rattle.object_change.specs.Changed.{IsEndOf, IsEndOfOne, parts_plan}
use Rattle.give_back.specs.Giving.{IsOwnRun, is_in_runs}
use Rattle.object_change.specs.Scene.{HoldsSpare, Scene}
use Rattle.object_change.specs.Steps.{CanChangeOn, put_runs}
use Rattle.object_change.proofs.ChangeLemmas.{sum-fits}
use Rattle.object_change.proofs.StayLemmas.{plan-stays, stays-on, tree-same, working-stays}

-- ---- what was held stays, with the same on it, once runs are held besides

pub still-has : (runs : List Extent) (old now : Held) (q : ℕ) → HoldsGranted None runs old now → IsTrue (has old q) → IsTrue (has now q)
still-has runs old now q granted held =
    granted.had q ∙ (ap (λ (b : Bool). is_in_runs runs q || b) held ∙ or-true (is_in_runs runs q))
  where
    or-true : (b : Bool) → (b || true) ≡ true
    or-true true = refl
    or-true false = refl

pub still-page : (runs : List Extent) (old now : Held) (q : ℕ) → HoldsGranted None runs old now → IsTrue (has old q) →
    page_at now q ≡ page_at old q
still-page runs old now q granted held = elim (cases_lt 0 (uses q runs)) [
  | inl some ↦ absurd (false≢true (sym (ap is_some (granted.lacked q some)) ∙ held))
  | inr few ↦ granted.others q (omega (arith, few)) refl
]

-- a page of the runs wasn't held
pub not-held : (runs : List Extent) (old now : Held) (q : ℕ) → HoldsGranted None runs old now → 0 < uses q runs → has old q ≡ false
not-held runs old now q granted some = ap is_some (granted.lacked q some)

still-spare : (runs : List Extent) (old now : Held) (spare : Option Extent) → HoldsGranted None runs old now → HoldsSpare old spare →
    HoldsSpare now spare
still-spare runs old now None granted spare = tt
still-spare runs old now (Some run) granted spare = (spare.0, λ q from to. still-has runs old now q granted (spare.1 q from to))

still-entry : (n : Numbers) (runs : List Extent) (old now : Held) → HoldsGranted None runs old now → (p : Pair) → IsHeldEntry n old p →
    IsHeldEntry n now p
still-entry n runs old now granted p entry =
    record { segment = entry.segment; pages = λ q from to. still-has runs old now q granted (entry.pages q from to) }

pub still-make : (n : Numbers) (runs : List Extent) (old now : Held) (w : WorkingTree) (p : Planned) → HoldsGranted None runs old now →
    CanMake n old w p → CanMake n now w p
still-make n runs old now w p granted can = record {
  order = can.order;
  inside = can.inside;
  replaced = all-map (IsHeldEntry n old) (IsHeldEntry n now) (still-entry n runs old now granted) p.replaced.items can.replaced;
  count = can.count;
  bytes = can.bytes;
  some = can.some;
  pieces = λ packed.
      (runs-apart n.page p.change.added (pieces_of p.parts.items) runs old now (can.pieces packed)
      (λ q some. not-held runs old now q granted some) (λ q held. still-has runs old now q granted held)).1;
  goes = can.goes;
}

runs-held : (runs : List Extent) (old now : Held) → HoldsGranted None runs old now → HoldsRuns now runs
runs-held runs old now granted = record {
  each = all-map (IsOwnRun now) (λ run. HoldsRun now run.page run.pages) (λ run own. own.holds) runs granted.own;
  once = granted.once;
}

-- what it takes to put the bytes and exchange the entries, once the runs are held
pub can-change : (tells : Bool) (n : Numbers) (start : ℕ) (w : WorkingTree) (p : Planned) (payload counts : List ℕ) (runs : List Extent)
    (s : Scene) (now : Scene) → CanMakeChange tells n start w p payload s → AreRunsFor n w.threshold p.requests.items counts runs →
    HoldsGranted None runs s.held now.held → KeepsRight tells n now.held now.nodes → (IsTrue tells → AreBare runs now.nodes) →
    now.meter ≡ s.meter → IsReady n now.rest → now.rest.frame ≡ s.rest.frame →
    CanChangeOn tells n start w p payload counts runs now
can-change tells n start w p payload counts runs s now can fit granted right bare meter ready frame =
    let stay : (q : ℕ) → IsTrue (has s.held q) → page_at now.held q ≡ page_at s.held q =
    λ q held. still-page runs s.held now.held q granted held in
    record {
      ready = ready;
      start_there = subst (λ (f : Frame). start < length f.firsts) (sym frame) can.start_there;
      nodes = right.nodes;
      bare = bare;
      put = record {
        page = ap (λ (m : Meter). m.page) meter ∙ can.page;
        sized = right.sized;
        spare = still-spare runs s.held now.held w.spare granted can.spare;
        plan = still-make n runs s.held now.held w p granted can.plan;
        small = sum-fits n s.held w p can.change can.plan;
        paid = can.paid;
        granted = fit;
        holds = runs-held runs s.held now.held granted;
        apart = λ t packed.
            (runs-apart n.page p.change.added (pieces_of p.parts.items) runs s.held now.held (can.plan.pieces packed)
            (λ q some. not-held runs s.held now.held q granted some) (λ q held. still-has runs s.held now.held q granted held)).0;
      };
      change = can.change;
      told = λ t.
          let told = can.told t in
          let same : (q : ℕ) → 0 < version_uses n q (Some (tree_on (bytes_on s.held) w)) → page_at now.held q ≡ page_at s.held q =
          λ q used. stay q (told.0.owned q used) in
          let all = tree-same n (bytes_on s.held) (bytes_on now.held) w (stays-on n s.held now.held w same) in (
            working-stays n s.held now.held w told.0 same,
            plan-stays n s.held now.held w p all stay can.plan.pieces told.1,
          );
      off = λ t q used.
          let told = can.told t in
          let same : (q : ℕ) → 0 < version_uses n q (Some (tree_on (bytes_on s.held) w)) → page_at now.held q ≡ page_at s.held q =
          λ q used. stay q (told.0.owned q used) in
          let all = tree-same n (bytes_on s.held) (bytes_on now.held) w (stays-on n s.held now.held w same) in
          let was = subst (λ (t : Tree). 0 < version_uses n q (Some t)) all.tree used in
          by_fit q p.fit was (told.0.owned q was) (can.once t q);
    }
  where
    spare-off : (q : ℕ) (sp : Option Extent) → spare_uses q sp ≡ 0 → uses q (spare_run sp) ≡ 0
    spare-off q None none = refl
    spare-off q (Some run) none = (let all = uses-cons q run [] in omega (arith, all, none))

    by_fit : (q : ℕ) (fit : Fit) → 0 < version_uses n q (Some (tree_on (bytes_on s.held) w)) → IsTrue (has s.held q) →
        version_uses n q (Some (tree_on (bytes_on s.held) w)) + spare_uses q w.spare ≤ 1 → uses q (put_runs fit w.spare runs) ≡ 0
    by_fit q Fresh used held once = elim (cases_lt 0 (uses q runs)) [
      | inl some ↦ absurd (false≢true (sym (not-held runs s.held now.held q granted some) ∙ held))
      | inr few ↦ omega (arith, few)
    ]
    by_fit q Follow used held once = spare-off q w.spare (omega (arith, used, once))
    by_fit q Extend used held once = spare-off q w.spare (omega (arith, used, once))

-- ---- the runs as rows

-- each page of a list lies in a space of the store
pub pages-lie : (n : Numbers) (frame : Frame) (pages : List ℕ) → IsStore n frame → ArePagesIn frame pages →
    AllByRecursion (LiesInSpace n) (map page_run pages)
pages-lie n frame [] store inside = tt
pages-lie n frame (page ∷ pages) store inside =
    ((inside.0.0, run-in_space n frame inside.0.0 page 1 store inside.0.1), pages-lie n frame pages store inside.1)

-- there are as many counts as made parts
pub counts-made : (size threshold : ℕ) (parts : List Part) (requests : List Request) (counts : List ℕ) (runs : List Extent) →
    map (λ (r : Request). r.need) requests ≡ map (page_count size) (made_part_bytes (map layout_part parts)) →
    AreOfAll threshold requests (rows counts (map (λ run. run.pages) runs)) →
    length counts ≡ length (made_part_bytes (map layout_part parts))
counts-made size threshold [] requests [] runs needs suited = refl
counts-made size threshold [] [] (k ∷ counts) runs needs suited = absurd suited
counts-made size threshold [] (request ∷ requests) (k ∷ counts) runs needs suited =
    let never : request.need ∷ map (λ (r : Request). r.need) requests ≡ [] = needs in absurd (cc)
counts-made size threshold (Keep pair ∷ parts) requests counts runs needs suited =
    counts-made size threshold parts requests counts runs needs suited
counts-made size threshold (Make pieces ∷ parts) [] counts runs needs suited =
    let never : [] ≡ page_count size (pieces_bytes pieces) ∷ map (page_count size) (made_part_bytes (map layout_part parts)) = needs in
    absurd (cc)
counts-made size threshold (Make pieces ∷ parts) (request ∷ requests) [] runs needs suited = absurd suited
counts-made size threshold (Make pieces ∷ parts) (request ∷ requests) (k ∷ counts) runs needs suited =
    let all : request.need ∷ map (λ (r : Request). r.need) requests
    ≡ page_count size (pieces_bytes pieces) ∷ map (page_count size) (made_part_bytes (map layout_part parts)) = needs in
    let needs_left : map (λ (r : Request). r.need) requests ≡ map (page_count size) (made_part_bytes (map layout_part parts)) = cc in
    ap suc (counts-made size threshold parts requests counts (drop k runs) needs_left
    (subst (λ (ks : List ℕ). AreOfAll threshold requests (rows counts ks)) (drop-map (λ (run : Extent). run.pages) k runs) suited.1))

-- ---- where the spare lies

-- a spare is the end of a run
past-end : (pages : ℕ) (run : Extent) (end : Extent) → past pages (Some run) ≡ Some end → (1 ≤ end.pages) × IsEndOf run end
past-end pages run end is =
    let left = past-some pages run end is in
    let some : 1 ≤ end.pages = elim (cases_lt 0 end.pages) [
      | inl one ↦ one
      | inr few ↦
          let none : run.pages - pages ≡ 0 = omega (arith, few, left.1) in
          absurd (let bad : None ≡ Some end = sym (ap (extent (run.page + pages)) none) ∙ is in cc)
    ] in
    (some, (omega (arith, left.0), omega (arith, left.0, left.1)))

-- the end of one of these runs is one of more runs
pub end-more : (end : Extent) (front runs : List Extent) → IsEndOfOne runs end → IsEndOfOne (front ++ runs) end
end-more end [] runs one = one
end-more end (x ∷ front) runs one = inr (end-more end front runs one)

pub end-front : (end : Extent) (runs more : List Extent) → IsEndOfOne runs end → IsEndOfOne (runs ++ more) end
end-front end [] more one = absurd one
end-front end (x ∷ runs) more one = elim one [ inl here ↦ inl here | inr there ↦ inr (end-front end runs more there) ]

-- what is said of a spare, where there is one
abbrev pub IsSpareOf : List Extent → Option Extent → Type 0
IsSpareOf runs spare = IfSome spare (λ end. (1 ≤ end.pages) × IsEndOfOne runs end)

past-of : (pages : ℕ) (spare : Option Extent) → IsSpareOf (spare_run spare) (past pages spare)
past-of pages None = tt
past-of pages (Some run) = go (past pages (Some run)) refl
  where
    go : (o : Option Extent) → past pages (Some run) ≡ o → IsSpareOf (run ∷ []) o
    go None is = tt
    go (Some end) is = (let all = past-end pages run end is in (all.0, inl all.1))

left-of : (need : ℕ) (runs : List Extent) → IsSpareOf runs (left_over need runs)
left-of need [] = tt
left-of need (run ∷ []) = past-of need (Some run)
left-of need (run ∷ more ∷ rest) = tt

spare-more : (front runs : List Extent) (spare : Option Extent) → IsSpareOf runs spare → IsSpareOf (front ++ runs) spare
spare-more front runs None one = tt
spare-more front runs (Some end) one = (one.0, end-more end front runs one.1)

pub spare-front : (runs more : List Extent) (spare : Option Extent) → IsSpareOf runs spare → IsSpareOf (runs ++ more) spare
spare-front runs more None one = tt
spare-front runs more (Some end) one = (one.0, end-front end runs more one.1)

behind-of : (size : ℕ) (bytes : List ℕ) (parts : List (List Extent)) → IsSpareOf (runs_of_parts parts) (spare_behind size bytes parts)
behind-of size [] parts = tt
behind-of size (b ∷ []) [] = tt
behind-of size (b ∷ []) (row ∷ []) =
    subst (λ (rs : List Extent). IsSpareOf rs (left_over (page_count size b) row))
    (sym (flat_map-cons (λ (rs : List Extent). rs) row [] ∙ append-nil row)) (left-of (page_count size b) row)
behind-of size (b ∷ []) (row ∷ next ∷ rest) = tt
behind-of size (b ∷ c ∷ bs) [] = tt
behind-of size (b ∷ c ∷ bs) (row ∷ rest) =
    subst (λ (rs : List Extent). IsSpareOf rs (spare_behind size (c ∷ bs) rest)) (sym (flat_map-cons (λ (rs : List Extent). rs) row rest))
    (spare-more row (runs_of_parts rest) (spare_behind size (c ∷ bs) rest) (behind-of size (c ∷ bs) rest))

-- the spare after a change is the end of the old one or of a run that was granted
pub spare-lies : (n : Numbers) (spare : Option Extent) (p : Planned) (parts : List (List Extent)) →
    IsSpareOf (spare_run spare ++ runs_of_parts parts) (spare_after n spare p.change (parts_plan p) parts)
spare-lies n spare p parts = go p.fit
  where
    plan_by : Fit → Plan
    plan_by fit = record { from = 0; count = 0; parts = map layout_part p.parts.items; fit = fit }

    go : (fit : Fit) → IsSpareOf (spare_run spare ++ runs_of_parts parts) (spare_after n spare p.change (plan_by fit) parts)
    go Extend = spare-front (spare_run spare) (runs_of_parts parts) _ (past-of (page_count n.page p.change.added) spare)
    go Follow = spare-front (spare_run spare) (runs_of_parts parts) _
        (past-of (page_count n.page (last_entry (laid_parts n.page (map layout_part p.parts.items) (as_run spare))).bytes) spare)
    go Fresh = by_way p.change.appends
      where
        by_way : (appends : Bool) → IsSpareOf (spare_run spare ++ runs_of_parts parts)
            (if appends then spare_behind n.page (made_part_bytes (map layout_part p.parts.items)) parts else None)
        by_way true = spare-more (spare_run spare) (runs_of_parts parts) _
            (behind-of n.page (made_part_bytes (map layout_part p.parts.items)) parts)
        by_way false = tt
