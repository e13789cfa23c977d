-- What stands in the end, where the pages are told, and what it takes to find the spare.
use Rattle.std.proofs.Common.{◌≡◌, ℕ, ◌+◌, ◌-◌, ◌<◌, ◌≤◌, ◌^◌, ◌⊎◌, Bool, true, false, IsTrue, List, [], ◌∷◌, ◌++◌, length, map}
use Rattle.std.proofs.Common.{Option, Some, None, IfSome, refl, sym, ap, subst, arith, ◌∙◌, inl, inr}
use Rattle.std.specs.Prelude.{Ok, is_some, unwrap_or}
use Rattle.std.specs.List.{AllByRecursion}
use Rattle.std.proofs.lemmas.Bool.{cases_lt, false≢true}
use Rattle.std.proofs.lemmas.List.Sums.{sum_by-cons}
use Rattle.base_laws.proofs.ListLaws.{all-map}
use Rattle.geometry_model.specs.Numbers.{Numbers, IsInRange, fan_out}
use Rattle.tree_model.specs.declared.entry.Pair.{Pair}
use Rattle.tree_model.specs.Tree.{bytes_of}
use Rattle.layout_model.specs.declared.extent.Extent.{Extent}
use Rattle.layout_model.specs.declared.fit.Fit.{Fit}
use Rattle.layout_model.specs.declared.fit.Fit.TheVariants.{Extend, Follow, Fresh}
use Rattle.layout_model.specs.Layout.{Tree, laid, plan_of, tree_entries}
use Rattle.content_laws.specs.Spelling.{edited_content}
use Rattle.let_go_laws.specs.LetGo.{AreGone}
use Rattle.moment_model.specs.Version.{covers, spare_uses, uses, version_uses}
use Rattle.moment_laws.specs.Granting.{LiesInSpace, page_run}
use Rattle.moment_laws.proofs.GrantLemmas.{covers-cases, uses-append}
use Rattle.change_laws.specs.Laying.{IsLaidOn}
use Rattle.node_codec.specs.PairList.{PairList}
use Rattle.edit_parts.specs.Parts.{layout_part}
use Rattle.layout_laws.specs.Merging.{parts_bytes}
use Rattle.part_bytes.specs.Parts.{CanWriteEach}
use Rattle.part_store.specs.Asking.{rows}
use Rattle.span_store.specs.Held.{AllSized, Held, IsEnd, bytes_on, has, page_at}
use Rattle.tree_pages.proofs.TreeLemmas.{levels-entries}
use Rattle.tree_splice.specs.declared.new_tree.Spliced.{Spliced}
use Rattle.tree_splice.specs.Splice.{IsSpliced, extent_of, firsts_of}
use Rattle.object_plan.specs.declared.planned.Planned.{Planned}
use Rattle.object_plan.specs.declared.working_tree.WorkingTree.{WorkingTree}
use Rattle.object_plan.specs.WorkingTree.{entries_on, tree_on}
use Rattle.object_body.specs.Places.{IsStore}
use Rattle.held_parts.specs.Asking.{AreRunsFor, AsksRuns}
use Rattle.held_parts.specs.Holding.{HoldsGranted}
use Rattle.object_change.specs.declared.changed.Changed.{Changed}
use Rattle.held_parts.specs.declared.part_runs.PartRuns.{PartRuns}
use Rattle.object_change.specs.Calls.{CanMakeChange}
use Rattle.object_change.specs.Changed.{IsToldChange, granted_in, grants_in, working_after}
use Rattle.object_change.specs.Scene.{used_spare}
use Rattle.object_change.specs.Scene.{HoldsSpare, Scene}
use Rattle.object_change.specs.Steps.{CanChangeOn, CanSpare, ChangesOn, IsChangedTo, StandPut}
use Rattle.object_change.proofs.ChangeLemmas.{entries-all}
use Rattle.object_change.proofs.LaidLemmas.{HaveAll}
use Rattle.object_change.proofs.MakeLemmas.{counts-made, still-page}
use Rattle.object_change.proofs.PutLemmas.{each-have, fresh-each, goes-as}
use Rattle.give_back.proofs.RunsLemmas.{lies-low}
use Rattle.object_change.proofs.StayLemmas.{SameTree, edited-same, stays-on, tree-same}
use Rattle.object_change.proofs.TellLemmas.{HasMade, told-change}
use Rattle.object_change.proofs.WholeLemmas.{changed-is, granted-are, held-made}

-- ---- the tree stays where runs are held besides

pub held-tree : (tells : Bool) (n : Numbers) (start : ℕ) (w : WorkingTree) (p : Planned) (payload : List ℕ) (runs : List Extent)
    (s : Scene) (mid : Held) → CanMakeChange tells n start w p payload s → IsTrue tells → HoldsGranted None runs s.held mid →
    SameTree n (bytes_on s.held) (bytes_on mid) w
held-tree tells n start w p payload runs s mid can t granted =
    tree-same n (bytes_on s.held) (bytes_on mid) w
    (stays-on n s.held mid w (λ q used. still-page runs s.held mid q granted ((can.told t).0.owned q used)))

-- ---- the spare

each-few : (most : ℕ) (entries : List Pair) → bytes_of entries < most → AllByRecursion (λ q. q.bytes < most) entries
each-few most [] few = tt
each-few most (e ∷ entries) few =
    let all = sum_by-cons (λ (q : Pair). q.bytes) e entries in
    (omega (arith, all, few), each-few most entries (omega (arith, all, few)))

-- the numbers of held pages have 32 bits
spare-low : (held : Held) (end : ℕ) (spare : Option Extent) → IsEnd held end → end < 2 ^ 32 → HoldsSpare held spare →
    IfSome spare (λ run. run.page + run.pages < 2 ^ 32)
spare-low held end None is few there = tt
spare-low held end (Some run) is few there =
    let some = there.0 in
    let last = is.behind (run.page + (run.pages - 1)) (there.1 (run.page + (run.pages - 1)) (omega arith) (omega (arith, some))) in
    omega (arith, last, few, some)

pub can-spare : (tells : Bool) (n : Numbers) (start : ℕ) (w : WorkingTree) (p : Planned) (payload : List ℕ) (r : PartRuns)
    (entries : PairList) (sp : Spliced) (mid last : Scene) (end : ℕ) → IsInRange n → IsEnd mid.held end → end < 2 ^ 32 →
    CanChangeOn tells n start w p payload r.counts.items r.runs.items mid →
    ChangesOn tells n start w p payload r.counts.items r.runs.items (Ok (entries, sp)) mid last →
    CanSpare n w.spare p entries.items r.counts.items r.runs.items
can-spare tells n start w p payload r entries sp mid last end range is few can change =
    let all = subst (HaveAll (parts_bytes (map layout_part p.parts.items))) (sym change.entries)
    (entries-all tells n w p payload r.counts.items r.runs.items mid.held mid.meter range can.change can.put) in
    let small = can.put.small in
    record {
      entries_are = change.entries;
      entries_few = each-few (2 ^ 63) entries.items (let count = all.count in omega (arith, small, count));
      added_few = (let fits = can.change.fits in omega (arith, fits));
      spare_low = spare-low mid.held end w.spare is few can.put.spare;
      low = all-map (LiesInSpace n) (λ run. run.page + run.pages < 2 ^ 32) (λ run lies. lies-low n run range lies) r.runs.items
          can.put.granted.together;
      have = λ fresh. each-have tells mid.held n.page (length payload) r.runs.items p.parts.items r.counts.items r.runs.items small
          (fresh-each tells n w p payload r.counts.items r.runs.items mid.held mid.meter range fresh can.put);
      whole = λ fresh. counts-made n.page w.threshold p.parts.items p.requests.items r.counts.items r.runs.items
          (goes-as n mid.held w p Fresh fresh can.put.plan).needs can.put.granted.suited;
    }

-- ---- the told change

used-off : (fit : Fit) (spare : Option Extent) (q : ℕ) → spare_uses q spare ≡ 0 → spare_uses q (used_spare fit spare) ≡ 0
used-off Fresh spare q off = refl
used-off Follow spare q off = off
used-off Extend spare q off = off

spare-there : (held : Held) (spare : Option Extent) (q : ℕ) → HoldsSpare held spare → 0 < spare_uses q spare → IsTrue (has held q)
spare-there held None q there some = absurd (omega (arith, some))
spare-there held (Some run) q there some = elim (covers-cases q run) [
  | inl one ↦ there.1 q one.1 one.2
  | inr none ↦ absurd (omega (arith, some, none.0))
]

-- the told change from the pages before the runs were held
told-from : (n : Numbers) (s mid last : Held) (w : WorkingTree) (p : Planned) (payload : List ℕ) (c : Changed) →
    SameTree n (bytes_on s) (bytes_on mid) w → IsToldChange n (bytes_on mid) (bytes_on last) w p.change payload c →
    IsToldChange n (bytes_on s) (bytes_on last) w p.change payload c
told-from n s mid last w p payload c same told =
    let after = working_after w c in
    record {
      laid_is = subst (λ (x : Tree). laid n x w.spare p.change (grants_in c)
          ≡ record { tree = tree_on (bytes_on last) after; spare = c.spare }) same.tree told.laid_is;
      good = subst (λ (x : Tree). IsLaidOn n x w.spare (granted_in c) (record { tree = tree_on (bytes_on last) after; spare = c.spare }))
          same.tree told.good;
      tree = told.tree;
      used = told.used;
      bytes = told.bytes
          ∙ (ap (λ (es : List Pair). edited_content (bytes_on mid) n.page es p.change payload)
          (same.entries ∙ sym (levels-entries (bytes_on s) w.root.height w.root.page))
          ∙ (edited-same n.page (bytes_on s) (bytes_on mid) (tree_entries (tree_on (bytes_on s) w)) p.change payload same.bytes
          ∙ ap (λ (es : List Pair). edited_content (bytes_on s) n.page es p.change payload)
          (levels-entries (bytes_on s) w.root.height w.root.page)));
      gone = subst (λ (x : Tree). AreGone x (tree_on (bytes_on last) after) (firsts_of c.made) (map extent_of c.left)) same.tree told.gone;
    }

pub told-whole : (tells : Bool) (n : Numbers) (start : ℕ) (w : WorkingTree) (p : Planned) (payload : List ℕ) (r : PartRuns)
    (entries : PairList) (sp : Spliced) (c : Changed) (s mid last : Scene) → IsInRange n → IsTrue tells →
    CanMakeChange tells n start w p payload s → CanChangeOn tells n start w p payload r.counts.items r.runs.items mid →
    HoldsGranted None r.runs.items s.held mid.held → IsStore n mid.rest.frame →
    ChangesOn tells n start w p payload r.counts.items r.runs.items (Ok (entries, sp)) mid last →
    IsChangedTo n w.spare p r.counts.items r.runs.items entries.items sp c →
    IsToldChange n (bytes_on s.held) (bytes_on last.held) w p.change payload c
told-whole tells n start w p payload r entries sp c s mid last range t can can_mid granted store change is =
    let same = held-tree tells n start w p payload r.runs.items s mid.held can t granted in
    let held = held-made tells n start w p payload r entries sp c s mid last can_mid.put.granted granted change is in
    let sized : AllSized true n.page mid.held = λ yes q. can_mid.put.sized t q in
    let told = can_mid.told t in
    let made : HasMade n mid.held last.held w p payload c = record {
      range = range;
      change = can_mid.change;
      make = can_mid.put.plan;
      sized = sized;
      working = told.0;
      plan = told.1;
      once = λ q. subst (λ (x : Tree). version_uses n q (Some x) + spare_uses q w.spare ≤ 1) (sym same.tree) (can.once t q);
      paid = can.paid;
      changed = changed-is tells n start w p payload r entries sp c mid last store can_mid.put.granted change is;
      spliced = spliced-as;
      stands = stands-as;
      unused = λ q some. unused q held (subst (λ (x : Tree). 0 < version_uses n q (Some x) + spare_uses q w.spare) same.tree some);
      stay = λ q out off. stay q held out off;
    } in
    told-from n s.held mid.held last.held w p payload c same
    (told-change n mid.held last.held w p payload c (each p.fit refl) can_mid.put.small made)
  where
    each : (fit : Fit) → p.fit ≡ fit →
        CanWriteEach true mid.held n.page (length payload) c.runs.items p.parts.items c.counts.items c.runs.items ⊎ (p.fit ≡ Fresh → ⊥)
    each Fresh fresh = inl (
        let one = subst (λ (b : Bool). CanWriteEach b mid.held n.page (length payload) r.runs.items p.parts.items r.counts.items
        r.runs.items) t
        (fresh-each tells n w p payload r.counts.items r.runs.items mid.held mid.meter range fresh can_mid.put) in
        subst (λ (ks : List ℕ). CanWriteEach true mid.held n.page (length payload) c.runs.items p.parts.items ks c.runs.items)
        (sym is.counts_are)
        (subst (λ (rs : List Extent). CanWriteEach true mid.held n.page (length payload) rs p.parts.items r.counts.items rs)
        (sym is.runs_are)
        one))
    each Follow follow = inr (λ fresh. (let never : Follow ≡ Fresh = sym follow ∙ fresh in cc))
    each Extend extend = inr (λ fresh. (let never : Extend ≡ Fresh = sym extend ∙ fresh in cc))

    stands-as : StandPut p.fit n.page (bytes_on last.held) (bytes_on mid.held) payload p.parts.items c.counts.items c.runs.items w.spare
    stands-as =
        subst (λ (ks : List ℕ). StandPut p.fit n.page (bytes_on last.held) (bytes_on mid.held)
        payload p.parts.items ks c.runs.items w.spare)
        (sym is.counts_are)
        (subst (λ (rs : List Extent). StandPut p.fit n.page (bytes_on last.held) (bytes_on mid.held) payload p.parts.items r.counts.items rs
        w.spare) (sym is.runs_are) (change.stands t))

    spliced-as : IsSpliced (fan_out n) (bytes_on mid.held) (bytes_on last.held) w.root c.root
        (plan_of n (tree_on (bytes_on mid.held) w) w.spare p.change).from (plan_of n (tree_on (bytes_on mid.held) w) w.spare p.change).count
        c.entries.items c.made c.left
    spliced-as =
        let plan = plan_of n (tree_on (bytes_on mid.held) w) w.spare p.change in
        let f = fan_out n in
        subst (λ root. IsSpliced f (bytes_on mid.held) (bytes_on last.held) w.root root plan.from plan.count c.entries.items c.made c.left)
        (sym is.root_is)
        (subst (λ es. IsSpliced f (bytes_on mid.held) (bytes_on last.held) w.root sp.root plan.from plan.count es c.made c.left)
        (sym is.entries_are)
        (subst (λ rs. IsSpliced f (bytes_on mid.held) (bytes_on last.held) w.root sp.root plan.from plan.count entries.items rs c.left)
        (sym is.made_are)
        (subst (λ rs. IsSpliced f (bytes_on mid.held) (bytes_on last.held) w.root sp.root plan.from plan.count entries.items sp.made rs)
        (sym is.left_are) (change.spliced t))))

    unused : (q : ℕ) → HoldsGranted (used_spare p.fit w.spare) (granted_in c) s.held last.held →
        0 < version_uses n q (Some (tree_on (bytes_on s.held) w)) + spare_uses q w.spare → uses q (granted_in c) ≡ 0
    unused q held some = elim (cases_lt 0 (uses q (granted_in c))) [
      | inr few ↦ omega (arith, few)
      | inl there ↦
          let none = ap is_some (held.lacked q there) in
          absurd (false≢true (sym none ∙ is-held q some (cases_lt 0 (version_uses n q (Some (tree_on (bytes_on s.held) w))))))
    ]
      where
        is-held : (q : ℕ) → 0 < version_uses n q (Some (tree_on (bytes_on s.held) w)) + spare_uses q w.spare →
            (0 < version_uses n q (Some (tree_on (bytes_on s.held) w))) ⊎ (version_uses n q (Some (tree_on (bytes_on s.held) w)) ≤ 0) →
            IsTrue (has s.held q)
        is-held q some (inl used) = (can.told t).0.owned q used
        is-held q some (inr few) = spare-there s.held w.spare q can.spare (omega (arith, some, few))

    -- the runs are among what was granted
    among : (q : ℕ) → uses q r.runs.items ≤ uses q (granted_in c)
    among q =
        (let all = granted-are c r.runs.items r.counts.items is.runs_are is.counts_are
        can_mid.put.granted.whole in
        let split = ap (uses q) all ∙ uses-append q r.runs.items (map page_run (firsts_of c.made)) in
        omega (arith, split))

    stay : (q : ℕ) → HoldsGranted (used_spare p.fit w.spare) (granted_in c) s.held last.held → uses q (granted_in c) ≡ 0 →
        spare_uses q w.spare ≡ 0 → bytes_on last.held q ≡ bytes_on mid.held q
    stay q held out off =
        let none : uses q r.runs.items ≡ 0 = elim (cases_lt 0 (uses q r.runs.items)) [
          | inr few ↦ omega (arith, few)
          | inl some ↦ absurd (omega (arith, some, among q, out))
        ] in
        let last_is = held.others q out (used-off p.fit w.spare q off) in
        let mid_is = granted.others q none refl in
        ap (λ (o : Option (List ℕ)). unwrap_or o []) (last_is ∙ sym mid_is)
