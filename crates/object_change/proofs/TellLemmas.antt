-- What a change that was made leaves where the pages are told, from what its steps say.
use Rattle.std.proofs.Common.{◌≡◌, ℕ, ◌+◌, ◌-◌, ◌*◌, ◌<◌, ◌≤◌, ◌^◌, min, Bool, true}
use Rattle.std.proofs.Common.{false, IsTrue, List, [], ◌∷◌, ◌++◌, length, map, sum, take, drop}
use Rattle.std.proofs.Common.{Option, Some, None, IfSome, refl, sym, ap, subst, arith, ◌∙◌, inl, inr, ◌⊎◌}
use Rattle.std.specs.Prelude.{is_some, unwrap_or}
use Rattle.std.specs.List.{AllByRecursion, flat_map}
use Rattle.std.proofs.lemmas.Bool.{cases_lt, false≢true}
use Rattle.std.proofs.lemmas.List.{append-nil, length-map}
use Rattle.std.proofs.lemmas.List.Concat.{flat_map-cons}
use Rattle.std.proofs.lemmas.List.Sums.{sum_by-cons}
use Rattle.geometry_model.specs.Numbers.{Numbers, IsInRange, fan_out, space_pages}
use Rattle.geometry_model.proofs.NumberLaws.{page_size-low}
use Rattle.tree_model.specs.declared.entry.Pair.{Pair}
use Rattle.tree_model.specs.Content.{content, run_bytes, segment_bytes}
use Rattle.tree_model.specs.Tree.{Pages, bytes_of, page_count}
use Rattle.tree_model.proofs.PageCountLaws.{count-holds, count-some}
use Rattle.std.proofs.lemmas.Nat.{mul-le}
use Rattle.page_set.specs.declared.page_run.PageRun.{PageRun}
use Rattle.layout_laws.specs.Merging.{parts_bytes}
use Rattle.change_laws.proofs.PartLemmas.{all-left}
use Rattle.tree_splice.specs.Splice.{IsSpliced}
use Rattle.layout_model.specs.declared.change.Change.{Change}
use Rattle.layout_model.specs.declared.extent.Extent.{Extent}
use Rattle.layout_model.specs.declared.fit.Fit.{Fit}
use Rattle.layout_model.specs.declared.fit.Fit.TheVariants.{Extend, Follow, Fresh}
use Rattle.layout_model.specs.declared.request.Request.{Request}
use Rattle.layout_model.specs.Layout.{Grants, Laid, Tree, as_run, laid}
use Rattle.layout_model.specs.Layout.{laid_entries, laid_levels, segments_on, spare_after, tree_entries, wanted}
use Rattle.layout_model.specs.Levels.{count_made, spliced}
use Rattle.layout_model.specs.Plan.{Plan, extent_pages, last_entry, made_part_bytes}
use Rattle.content_laws.specs.Spelling.{IsPacked, IsThere, behind_last, edited_content}
use Rattle.let_go_laws.specs.LetGo.{spare_run}
use Rattle.laid_content_laws.specs.Written.{IsGrantedChange, IsWritten, IsWrittenBy, OthersStay}
use Rattle.laid_content_laws.proofs.LaidContentLemmas.{laid-edited}
use Rattle.moment_model.specs.Moment.{ObjectSlot, either_uses}
use Rattle.moment_model.specs.Version.{covers, segment_run, spare_uses, uses, version_uses}
use Rattle.moment_laws.specs.ByObject.{IsSoundSlot}
use Rattle.moment_laws.specs.Granting.{LiesInSpace, granted_runs}
use Rattle.moment_laws.proofs.GrantLemmas.{covers-cases}
use Rattle.change_laws.specs.Laying.{IsChange, IsLaidOn}
use Rattle.change_laws.specs.Suiting.{IsSuited}
use Rattle.change_laws.specs.Tail.{IsTail}
use Rattle.change_laws.proofs.NodeCountLemmas.{made-alike}
use Rattle.tree_pages.proofs.TreeLemmas.{levels-entries, tree-counts}
use Rattle.edit_parts.specs.declared.part.Part.{Part}
use Rattle.edit_parts.specs.declared.part.Part.TheVariants.{Keep, Make}
use Rattle.edit_parts.specs.Parts.{layout_part, parts_content, pieces_of}
use Rattle.edit_parts.specs.Pieces.{pieces_bytes}
use Rattle.span_store.specs.Held.{AllSized, Held, bytes_on, has, page_at}
use Rattle.part_bytes.specs.Gathering.{CanGather}
use Rattle.part_bytes.specs.Parts.{CanWriteEach, PartsStand}
use Rattle.part_bytes.specs.Runs.{StandOn}
use Rattle.part_bytes.proofs.RunLemmas.{StandOn-content}
use Rattle.part_store.specs.Asking.{AreOfAll, IsAskable, rows}
use Rattle.written_laws.specs.Edits.{HasItsBytes, put_on}
use Rattle.written_laws.proofs.AskedLemmas.{asked-suits}
use Rattle.written_laws.proofs.MadeLemmas.{stand-written}
use Rattle.written_laws.proofs.PieceLemmas.{held-whole}
use Rattle.object_plan.specs.declared.planned.Planned.{Planned}
use Rattle.object_plan.specs.declared.working_tree.WorkingTree.{WorkingTree}
use Rattle.object_plan.specs.Planned.{CanMake, ExtendsOn, IsPlanOf}
use Rattle.object_plan.specs.WorkingTree.{CanChange, IsToldWorking, entries_on, tree_on}
use Rattle.object_change.specs.declared.changed.Changed.{Changed}
use Rattle.object_change.specs.Changed.{HasChanged, IsToldChange, granted_in, grants_in, parts_plan, working_after}
use Rattle.object_change.specs.Steps.{CanPut, StandPut, its_plan, put_runs}
use Rattle.object_change.proofs.ChangeLemmas.{entries-plan}
use Rattle.object_change.proofs.PutLemmas.{follow-there, goes-as, one-few, packed-as}
use Rattle.object_change.proofs.ToldLemmas.{IsExchanged, gone-is, good-is, laid-is, tree-is, used-is}

-- what a plan asks for can be asked for
pub requests-askable : (n : Numbers) (held : Held) (w : WorkingTree) (p : Planned) → CanMake n held w p →
    AllByRecursion (IsAskable (space_pages n)) p.requests.items
requests-askable n held w p can = go p.fit refl
  where
    go : (fit : Fit) → p.fit ≡ fit → AllByRecursion (IsAskable (space_pages n)) p.requests.items
    go Fresh is = (goes-as n held w p Fresh is can).asked
    go Follow is = subst (AllByRecursion (IsAskable (space_pages n))) (sym (goes-as n held w p Follow is can).0) tt
    go Extend is = subst (AllByRecursion (IsAskable (space_pages n))) (sym (goes-as n held w p Extend is can).0) tt

-- ---- the exchange, as the layout has it

-- What is known of a change that was made, where the pages are told: they were `held` before, and are `new`.
pub record HasMade (n : Numbers) (held new : Held) (w : WorkingTree) (p : Planned) (payload : List ℕ) (c : Changed) : Type 0 where
  pub range : IsInRange n
  pub change : CanChange n w p.change
  pub make : CanMake n held w p
  pub sized : AllSized true n.page held
  pub working : IsToldWorking n held w
  pub plan : IsPlanOf n (bytes_on held) w p
  pub once : (q : ℕ) → version_uses n q (Some (tree_on (bytes_on held) w)) + spare_uses q w.spare ≤ 1
  pub paid : length payload ≡ p.change.added
  pub changed : HasChanged n w p c
  pub spliced : IsSpliced (fan_out n) (bytes_on held) (bytes_on new) w.root c.root
      (its_plan n (bytes_on held) w p).from (its_plan n (bytes_on held) w p).count c.entries.items c.made c.left
  pub stands : StandPut p.fit n.page (bytes_on new) (bytes_on held) payload p.parts.items c.counts.items c.runs.items w.spare
  pub unused : (q : ℕ) → 0 < version_uses n q (Some (tree_on (bytes_on held) w)) + spare_uses q w.spare → uses q (granted_in c) ≡ 0
  pub stay : (q : ℕ) → uses q (granted_in c) ≡ 0 → spare_uses q w.spare ≡ 0 → bytes_on new q ≡ bytes_on held q

spare-plan : (n : Numbers) (at : Pages) (w : WorkingTree) (p : Planned) (runs : List (List Extent)) → IsPlanOf n at w p →
    spare_after n w.spare p.change (parts_plan p) runs ≡ spare_after n w.spare p.change (its_plan n at w p) runs
spare-plan n at w p runs plan =
    let whole = its_plan n at w p in
    ap (λ (f : Fit). spare_after n w.spare p.change (record { from = 0; count = 0; parts = map layout_part p.parts.items; fit = f }) runs)
    plan.fit
    ∙ ap (λ ps. spare_after n w.spare p.change (record { from = 0; count = 0; parts = ps; fit = whole.fit }) runs) plan.parts

tree-bytes-are : (n : Numbers) (held : Held) (w : WorkingTree) → IsToldWorking n held w →
    bytes_of (tree_entries (tree_on (bytes_on held) w)) ≡ w.root.length
tree-bytes-are n held w working =
    ap bytes_of (levels-entries (bytes_on held) w.root.height w.root.page)
    ∙ tree-counts n (bytes_on held) w.root (entries_on (bytes_on held) w) working.tree

is-change : (n : Numbers) (held : Held) (w : WorkingTree) (change : Change) → IsToldWorking n held w → CanChange n w change →
    IsChange (tree_on (bytes_on held) w) change
is-change n held w change working can =
    let bytes = tree-bytes-are n held w working in
    record {
      within = (let inside = can.within in omega (arith, inside, bytes));
      some = can.some;
      at_end = λ appends. (let at = can.at_end appends in (at.0 ∙ sym bytes, at.1));
    }

suits : (n : Numbers) (held new : Held) (w : WorkingTree) (p : Planned) (payload : List ℕ) (c : Changed) →
    HasMade n held new w p payload c → IsSuited n (tree_on (bytes_on held) w) w.spare p.change (grants_in c)
suits n held new w p payload c made =
    let tree = tree_on (bytes_on held) w in
    let plan = its_plan n (bytes_on held) w p in
    let runs = (grants_in c).runs in
    let ask = subst (AllByRecursion (IsAskable (space_pages n))) made.plan.requests (requests-askable n held w p made.make) in
    let all = subst (λ (rs : List Request). AreOfAll w.threshold rs (rows c.counts.items (map (λ (run : Extent). run.pages) c.runs.items)))
    made.plan.requests made.changed.suited in
    let entries = made.changed.entries ∙ entries-plan n (bytes_on held) w p runs made.plan in
    record {
      runs = asked-suits n tree p.change plan (space_pages n) c.counts.items c.runs.items ask all;
      together = made.changed.together;
      pages = length-map c.made (λ (r : PageRun). r.first)
          ∙ (sym made.spliced.each
          ∙ (made-alike (fan_out n) tree.levels plan.from plan.count c.entries.items (grants_in c).pages []
          ∙ ap (λ (es : List Pair). count_made (spliced (fan_out n) tree.levels plan.from plan.count es [])) entries));
    }

exchanged : (n : Numbers) (held new : Held) (w : WorkingTree) (p : Planned) (payload : List ℕ) (c : Changed) →
    HasMade n held new w p payload c →
    IsExchanged n (bytes_on held) (bytes_on new) (tree_on (bytes_on held) w) w.spare p.change w.root c.root c.made c.left (grants_in c)
exchanged n held new w p payload c made =
    let plan = its_plan n (bytes_on held) w p in
    let entries = made.changed.entries ∙ entries-plan n (bytes_on held) w p (grants_in c).runs made.plan in
    record {
      range = made.range;
      is_tree = refl;
      good = made.working.good;
      tail = made.working.tail;
      changes = is-change n held w p.change made.working made.change;
      suits = suits n held new w p payload c made;
      pages = refl;
      spliced = subst (λ (es : List Pair). IsSpliced (fan_out n) (bytes_on held) (bytes_on new) w.root c.root
          plan.from plan.count es c.made c.left) entries made.spliced;
    }

-- ---- the bytes

-- the object alone
abbrev slot_of : Tree → Option Extent → ObjectSlot
slot_of tree spare = record { committed = None; working = Some tree; spare = spare }

granted-change : (n : Numbers) (held new : Held) (w : WorkingTree) (p : Planned) (payload : List ℕ) (c : Changed) →
    HasMade n held new w p payload c →
    IsGrantedChange n (slot_of (tree_on (bytes_on held) w) w.spare) (tree_on (bytes_on held) w) p.change (grants_in c)
granted-change n held new w p payload c made = record {
  sound = record {
    committed = tt;
    working = made.working.good;
    committed_once = λ page. omega arith;
    working_once = made.once;
    spare_apart = λ page some. refl;
  };
  working = refl;
  tail = made.working.tail;
  within = is-change n held w p.change made.working made.change;
  suits = suits n held new w p payload c made;
  unused = λ page some. made.unused page (omega (arith, some));
}

-- the pages of the entries are there, with all their bytes
there-all : (size : ℕ) (held : Held) (entries : List Pair) → AllSized true size held →
    ((q : ℕ) → 0 < uses q (map (segment_run size) entries) → IsTrue (has held q)) → AllByRecursion (IsThere (bytes_on held) size) entries
there-all size held [] sized owned = tt
there-all size held (e ∷ entries) sized owned = (
  λ k less.
      let run : Extent = segment_run size e in
      let one : covers (e.page + k) run ≡ 1 = elim (covers-cases (e.page + k) run) [
        | inl here ↦ here.0
        | inr none ↦ elim none.1 [ inl before ↦ absurd (omega (arith, before)) | inr behind ↦ absurd (omega (arith, behind, less)) ]
      ] in
      let all = sum_by-cons (covers (e.page + k)) run (map (segment_run size) entries) in
      let is_held = owned (e.page + k) (omega (arith, one, all)) in
      size-of (page_at held (e.page + k)) is_held (sized refl (e.page + k)),
  there-all size held entries sized
      (λ q some. owned q (let all = sum_by-cons (covers q) (segment_run size e) (map (segment_run size) entries)
      in omega (arith, all, some))),
)
  where
    size-of : (o : Option (List ℕ)) → is_some o ≡ true → IfSome o (λ page. length page ≡ size) → length (unwrap_or o []) ≡ size
    size-of None some each = cc
    size-of (Some page) some each = each

whole-pieces : (n : Numbers) (held new : Held) (w : WorkingTree) (p : Planned) (payload : List ℕ) (c : Changed) →
    HasMade n held new w p payload c → IsPacked p.fit → AllByRecursion (HasItsBytes (bytes_on held) n.page payload)
    (pieces_of p.parts.items)
whole-pieces n held new w p payload c made packed =
    let big = page_size-low n.page made.range.page_size in
    held-whole true n.page payload (pieces_of p.parts.items) held refl (omega (arith, big)) made.sized
    (subst (λ (k : ℕ). AllByRecursion (CanGather held n.page k) (pieces_of p.parts.items)) (sym made.paid) (made.make.pieces packed))

-- one part on the spare, whatever runs its bytes came from
one-each : (held : Held) (size given bytes : ℕ) (all : List Extent) (run : Extent) (parts : List Part) →
    page_count size bytes ≤ run.pages → bytes < 2 ^ 64 → made_part_bytes (map layout_part parts) ≡ bytes ∷ [] →
    AllByRecursion (CanGather held size given) (pieces_of parts) → CanWriteEach false held size given all parts (1 ∷ []) (run ∷ [])
one-each held size given bytes all run [] enough few one can = tt
one-each held size given bytes all run (Keep pair ∷ parts) enough few one can =
    one-each held size given bytes all run parts enough few one can.1
one-each held size given bytes all run (Make pieces ∷ parts) enough few one can =
    let made : pieces_bytes pieces ∷ made_part_bytes (map layout_part parts) ≡ bytes ∷ [] = one in
    let same : pieces_bytes pieces ≡ bytes = cc in
    let none : made_part_bytes (map layout_part parts) ≡ [] = cc in
    let count = ap (page_count size) same in
    let total = sum_by-cons (λ (k : ℕ). k) run.pages [] in (
      let fits : 1 ≤ 1 = omega arith in fits,
      record {
        each = all-left (CanGather held size given) pieces (pieces_of parts) can;
        fits = omega (arith, same, few);
        enough = omega (arith, count, enough, total);
      },
      λ t. cc,
      kept-each parts none,
    )
  where
    kept-each : (ps : List Part) → made_part_bytes (map layout_part ps) ≡ [] → CanWriteEach false held size given all ps [] []
    kept-each [] none = tt
    kept-each (Keep pair ∷ ps) none = kept-each ps none
    kept-each (Make own ∷ ps) none = (let some : pieces_bytes own ∷ made_part_bytes (map layout_part ps) ≡ [] = none in absurd (cc))

no-bytes : (l : List ℕ) → length l ≡ 0 → l ≡ []
no-bytes [] none = refl
no-bytes (x ∷ l) none = cc

-- the new bytes are written where the plan has them
is-written : (n : Numbers) (held new : Held) (w : WorkingTree) (p : Planned) (payload : List ℕ) (c : Changed) →
    (can : CanWriteEach true held n.page (length payload) c.runs.items p.parts.items c.counts.items c.runs.items ⊎ (p.fit ≡ Fresh → ⊥)) →
    parts_bytes (map layout_part p.parts.items) < 2 ^ 63 → HasMade n held new w p payload c →
    IsWritten n (bytes_on held) (bytes_on new) (tree_on (bytes_on held) w) w.spare p.change (grants_in c) payload
is-written n held new w p payload c can few made = go p.fit refl
  where
    at : Pages
    at = bytes_on held

    tree : Tree
    tree = tree_on at w

    plan : Plan
    plan = its_plan n at w p

    some : 0 < n.page
    some = (let big = page_size-low n.page made.range.page_size in omega (arith, big))

    go : (fit : Fit) → p.fit ≡ fit → IsWritten n at (bytes_on new) tree w.spare p.change (grants_in c) payload
    go Fresh is =
        let packed : IsPacked p.fit = packed-as Fresh p.fit is tt in
        let spells = made.plan.spells packed payload made.paid in
        let each : CanWriteEach true held n.page (length payload) c.runs.items p.parts.items c.counts.items c.runs.items =
        elim can [ inl whole ↦ whole | inr other ↦ absurd (other is) ] in
        let stands : PartsStand (bytes_on new) n.page at payload p.parts.items c.counts.items c.runs.items =
        subst (λ (f : Fit). StandPut f n.page (bytes_on new) at payload p.parts.items c.counts.items c.runs.items w.spare) is made.stands in
        stand-written n true at (bytes_on new) tree w.spare p.change payload (length payload) p.parts.items c.counts.items c.runs.items
        c.runs.items (grants_in c) spells.0 held some (subst IsPacked made.plan.fit packed) made.plan.parts spells.1
        (ap (λ (f : Fit). put_on f w.spare (grants_in c).runs) (sym is ∙ made.plan.fit)) (whole-pieces n held new w p payload c made packed)
        each stands
    go Follow is =
        let packed : IsPacked p.fit = packed-as Follow p.fit is tt in
        follow w.spare refl is packed
      where
        follow : (sp : Option Extent) → w.spare ≡ sp → p.fit ≡ Follow → IsPacked p.fit →
            IsWritten n at (bytes_on new) tree w.spare p.change (grants_in c) payload
        follow None none is packed = absurd ((follow-there n held w p made.range is made.make).0 none)
        follow (Some run) there is packed =
            let spells = made.plan.spells packed payload made.paid in
            let goes = (goes-as n held w p Follow is made.make).1 in
            let stands : PartsStand (bytes_on new) n.page at payload p.parts.items (1 ∷ []) (run ∷ []) =
            subst (λ (s : Option Extent). PartsStand (bytes_on new) n.page at payload p.parts.items (1 ∷ []) (spare_run s)) there
            (subst (λ (f : Fit). StandPut f n.page (bytes_on new) at payload p.parts.items c.counts.items c.runs.items w.spare)
            is made.stands) in
            let enough = subst (λ (s : Option Extent). page_count n.page goes.bytes ≤ extent_pages s) there goes.fits in
            let bytes_few = one-few p.parts.items goes.bytes goes.one few in
            let each = one-each held n.page (length payload) goes.bytes (run ∷ []) run p.parts.items enough (omega (arith, bytes_few))
            goes.one
            (subst (λ (k : ℕ). AllByRecursion (CanGather held n.page k) (pieces_of p.parts.items)) (sym made.paid)
            (made.make.pieces packed)) in
            let on : rows (1 ∷ []) (run ∷ []) ≡ put_on plan.fit w.spare (grants_in c).runs =
            ap as_run (sym there) ∙ ap (λ (f : Fit). put_on f w.spare (grants_in c).runs) (sym is ∙ made.plan.fit) in
            stand-written n false at (bytes_on new) tree w.spare p.change payload (length payload) p.parts.items (1 ∷ []) (run ∷ [])
            (run ∷ []) (grants_in c) spells.0 held some (subst IsPacked made.plan.fit packed) made.plan.parts spells.1 on
            (whole-pieces n held new w p payload c made packed) each stands
    go Extend is =
        subst (λ (f : Fit). IsWrittenBy f n at (bytes_on new) (tree_entries tree) w.spare p.change plan (grants_in c).runs payload)
        (sym is ∙ made.plan.fit) (extend w.spare refl)
      where
        goes : ExtendsOn n.page (extent_pages w.spare) p.change.added p.parts.items
        goes = (goes-as n held w p Extend is made.make).1

        extend : (sp : Option Extent) → w.spare ≡ sp →
            segment_bytes (bytes_on new) n.page (behind_last n.page (tree_entries tree) p.change.added) ≡ payload
        extend None none =
            (let few_pages = subst (λ (s : Option Extent). page_count n.page p.change.added ≤ extent_pages s) none goes.fits in
            let nothing : p.change.added ≡ 0 = elim (cases_lt 0 p.change.added) [
              | inl byte ↦ absurd (let page = count-some n.page p.change.added some byte in omega (arith, page, few_pages))
              | inr few_one ↦ omega (arith, few_one)
            ] in
            ap (λ (k : ℕ). segment_bytes (bytes_on new) n.page (behind_last n.page (tree_entries tree) k)) nothing
            ∙ sym (no-bytes payload (made.paid ∙ nothing)))
        extend (Some run) there =
            (let enough = subst (λ (s : Option Extent). page_count n.page p.change.added ≤ extent_pages s) there goes.fits in
            let stands : StandOn (bytes_on new) n.page (run ∷ []) payload =
            subst (λ (s : Option Extent). StandOn (bytes_on new) n.page (spare_run s) payload) there
            (subst (λ (f : Fit). StandPut f n.page (bytes_on new) at payload p.parts.items c.counts.items c.runs.items w.spare)
            is made.stands) in
            let room = sum_by-cons (λ (k : ℕ). k) run.pages [] in
            let count = ap (page_count n.page) made.paid in
            let shown = StandOn-content (bytes_on new) n.page (run ∷ []) payload some (omega (arith, enough, count, room)) stands in
            let behind = subst (IsTail n (Some tree)) there made.working.tail in
            let holds = count-holds n.page (length payload) some in
            let wide = mul-le (page_count n.page (length payload)) n.page run.pages n.page
            (omega (arith, enough, count)) (omega arith) in
            let all : min (length payload) (run.pages * n.page) ≡ p.change.added = (let paid = made.paid in omega (
              arith,
              holds,
              wide,
              paid,
            )) in
            let pair : record { bytes = min (length payload) (run.pages * n.page); page = run.page }
            ≡ behind_last n.page (tree_entries tree) p.change.added =
            ap (λ (k : ℕ). record { bytes = k; page = run.page }) all
            ∙ ap (λ (q : ℕ). record { bytes = p.change.added; page = q }) behind.behind in
            sym (ap (segment_bytes (bytes_on new) n.page) pair)
            ∙ (sym (flat_map-cons (segment_bytes (bytes_on new) n.page)
            (record { bytes = min (length payload) (run.pages * n.page); page = run.page }) []
            ∙ append-nil (segment_bytes (bytes_on new) n.page (record {
              bytes = min (length payload)
                  (run.pages * n.page);
              page = run.page;
            })))
            ∙ shown))

-- ---- all of it

pub told-change : (n : Numbers) (held new : Held) (w : WorkingTree) (p : Planned) (payload : List ℕ) (c : Changed) →
    (CanWriteEach true held n.page (length payload) c.runs.items p.parts.items c.counts.items c.runs.items ⊎ (p.fit ≡ Fresh → ⊥)) →
    parts_bytes (map layout_part p.parts.items) < 2 ^ 63 → HasMade n held new w p payload c → IsToldChange n (bytes_on held)
    (bytes_on new) w p.change payload c
told-change n held new w p payload c can few made =
    let at = bytes_on held in
    let now = bytes_on new in
    let tree = tree_on at w in
    let spare_is = made.changed.spare ∙ spare-plan n at w p (grants_in c).runs made.plan in
    let ex = exchanged n held new w p payload c made in
    let slot = slot_of tree w.spare in
    let written = is-written n held new w p payload c can few made in
    let edited = laid-edited n slot tree p.change (grants_in c) at now payload made.range (granted-change n held new w p payload c made)
    (there-all n.page held (tree_entries tree) made.sized (λ q used. made.working.owned q (omega (arith, used)))) made.paid
    (λ q out off. made.stay q out off) written in
    let laid_as = laid-is n at now tree w.spare p.change w.root c.root c.made c.left (grants_in c) ex in
    let after_is : laid n tree w.spare p.change (grants_in c) ≡ record { tree = tree_on now (working_after w c); spare = c.spare } =
    laid_as ∙ ap (λ (s : Option Extent). record { tree = tree_on now (working_after w c); spare = s }) (sym spare_is) in
    record {
      laid_is = after_is;
      good = subst (λ (s : Option Extent). IsLaidOn n tree w.spare (granted_in c) (record {
        tree = tree_on now (working_after w c);
        spare
            = s;
      }))
          (sym spare_is) (good-is n at now tree w.spare p.change w.root c.root c.made c.left (grants_in c) ex);
      tree = tree-is n at now tree w.spare p.change w.root c.root c.made c.left (grants_in c) ex;
      used = λ page. subst (λ (s : Option Extent). uses page (granted_in c)
          ≤ version_uses n page (Some (tree_on now (working_after w c))) + spare_uses page s) (sym spare_is)
          (used-is n at now tree w.spare p.change w.root c.root c.made c.left (grants_in c) ex page);
      bytes = ap (content now n.page) (sym (levels-entries now c.root.height c.root.page)
          ∙ sym (ap (λ (l : Laid). tree_entries l.tree) after_is))
          ∙ (edited ∙ ap (λ (es : List Pair). edited_content at n.page es p.change payload) (levels-entries at w.root.height w.root.page));
      gone = gone-is n at now tree w.spare p.change w.root c.root c.made c.left (grants_in c) ex made.changed.single;
    }
