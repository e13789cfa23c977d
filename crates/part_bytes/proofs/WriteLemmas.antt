-- Bytes written run after run: before the first, one run more, a failure, and all.
use Rattle.std.proofs.Common.{inl, inr, ◌≡◌, ℕ, ◌+◌, ◌-◌, ◌*◌, ◌<◌, ◌≤◌, min, Bool, List, [], ◌∷◌, length, take, drop}
use Rattle.std.proofs.Common.{Option, refl, sym, ap, ◌∙◌, subst, arith}
use Rattle.std.proofs.lemmas.Bool.{cases_lt}
use Rattle.std.proofs.lemmas.List.{length-take, length-drop, drop-drop, take_all, drop_all}
use Rattle.std.specs.Prelude.{IsTrue, unwrap_or}
use Rattle.std.specs.List.{AllByRecursion}
use Rattle.fault_count.specs.Counts.{Meter, Writes}
use Rattle.fault_count.proofs.CountLaws.{Writes-none, Writes-then}
use Rattle.base_laws.proofs.ListLaws.{all-map}
use Rattle.tree_model.specs.Tree.{Pages, page_count}
use Rattle.tree_model.proofs.PageCountLaws.{count-enough}
use Rattle.layout_model.specs.declared.extent.Extent.{Extent}
use Rattle.moment_model.specs.Version.{covers, uses}
use Rattle.span_store.specs.Held.{AllSized, Held, HoldsRun, bytes_on, page_at}
use Rattle.seg_bytes.specs.Segments.{HoldsBytes}
use Rattle.seg_bytes.specs.Written.{StandFrom, ChangesAlone}
use Rattle.std.proofs.lemmas.List.Sums.{sum_by-cons}
use Rattle.part_bytes.specs.Runs.{HoldsRuns, StandOn, ChangesRuns}
use Rattle.part_bytes.proofs.RunLemmas.{StandFrom-same, count-stretch, covers_off}
use Rattle.moment_laws.proofs.GrantLemmas.{covers-on}

-- These runs are left, and so many bytes are written on those before. Whatever the pages of the runs
-- that are left come to hold, with the bytes that are left on them all bytes stand on all runs.
pub record IsWriting (told : Bool) (size : ℕ) (runs left : List Extent) (bytes : List ℕ) (from : ℕ) (old now : Held)
    (before after : Meter) : Type 0 where
  pub within : from ≤ length bytes
  pub once : (q : ℕ) → uses q left ≤ 1
  pub inside : AllByRecursion (λ run. HoldsRun now run.page run.pages) left
  pub only : (q : ℕ) → uses q runs ≡ 0 → uses q left ≡ 0
  pub stands : IsTrue told → (at : Pages) → ((q : ℕ) → uses q left ≡ 0 → at q ≡ bytes_on now q) →
      StandOn at size left (drop from bytes) → StandOn at size runs bytes
  pub others : ChangesRuns told size runs old now
  pub written : ℕ
  pub writes : Writes written before after
  pub most : written + page_count size (length bytes - from) ≤ page_count size (length bytes)
  pub still : after.faults ≡ before.faults
  pub unit : after.page ≡ size

-- nothing is written yet
pub writing_none : (told : Bool) (size : ℕ) (runs : List Extent) (bytes : List ℕ) (old : Held) (before : Meter) →
    before.page ≡ size → HoldsRuns old runs → AllSized told size old → IsWriting told size runs runs bytes 0 old old before before
writing_none told size runs bytes old before unit holds sized = record {
  within = omega arith;
  once = holds.once;
  inside = holds.each;
  only = λ q none. none;
  stands = λ t at same stands. stands;
  others = record {
    others = λ q none. refl;
    held = λ q. refl;
    begun = λ q. refl;
    count = refl;
    room = refl;
    sized = sized;
  };
  written = 0;
  writes = Writes-none 0 before;
  most = let all : length bytes - 0 ≡ length bytes = omega arith in omega (arith, ap (page_count size) all);
  still = refl;
  unit = unit;
}

-- the pages of a stretch lie in its run
stretch_pages : (size left pages count : ℕ) → 0 < size → count ≡ min left (pages * size) → page_count size count ≤ pages
stretch_pages size left pages count some e = count-enough size count pages some (omega (arith, e))

-- a page of no run stays when one run is written
same_off : (told : Bool) (size : ℕ) (run : Extent) (n : ℕ) (now mid : Held) (q : ℕ) → n ≤ run.pages →
    ChangesAlone told size run.page n now mid → covers q run ≡ 0 → page_at mid q ≡ page_at now q
same_off told size run n now mid q few alone off = elim (covers_off q run off) [
  | inl before ↦ alone.others.before q before
  | inr behind ↦ alone.others.behind q (omega (arith, few, behind))
]

-- the changes of one run more
turn_others : (told : Bool) (size : ℕ) (runs rest : List Extent) (run : Extent) (n : ℕ) (old now mid : Held) → n ≤ run.pages →
    ((q : ℕ) → uses q runs ≡ 0 → uses q (run ∷ rest) ≡ 0) → ChangesRuns told size runs old now →
    ChangesAlone told size run.page n now mid → ChangesRuns told size runs old mid
turn_others told size runs rest run n old now mid few only before alone = record {
  others = λ q none.
      let sum : uses q (run ∷ rest) ≡ covers q run + uses q rest = sum_by-cons (covers q) run rest in
      let off : covers q run ≡ 0 = omega (arith, only q none, sum) in
      same_off told size run n now mid q few alone off ∙ before.others q none;
  held = λ q. alone.others.held q ∙ before.held q;
  begun = λ q. alone.others.begun q ∙ before.begun q;
  count = alone.others.count ∙ before.count;
  room = alone.others.room ∙ before.room;
  sized = alone.sized;
}

-- what a run more needs: its pages are held
pub turn_held : (told : Bool) (size : ℕ) (runs left rest : List Extent) (run : Extent) (bytes : List ℕ) (from count : ℕ) (old now : Held)
    (before after : Meter) → 0 < size → left ≡ run ∷ rest → count ≡ min (length bytes - from) (run.pages * size) →
    IsWriting told size runs left bytes from old now before after → HoldsBytes now after.page run.page count
turn_held told size runs left rest run bytes from count old now before after some e is w = λ q first last.
    let all = subst (AllByRecursion (λ (r : Extent). HoldsRun now r.page r.pages)) e w.inside in
    let few = stretch_pages size (length bytes - from) run.pages count some is in
    all.0 q first (omega (arith, last, few, ap (λ (k : ℕ). page_count k count) w.unit))

-- the stretch of the bytes that a run takes
pub stretch_is : (from count : ℕ) (bytes : List ℕ) → take (from + count - from) (drop from bytes) ≡ take count (drop from bytes)
stretch_is from count bytes = ap (λ (k : ℕ). take k (drop from bytes)) (let e : from + count - from ≡ count = omega arith in e)

pub stretch_long : (from count most : ℕ) (bytes : List ℕ) → count ≡ min (length bytes - from) most →
    length (take (from + count - from) (drop from bytes)) ≡ count
stretch_long from count most bytes is = ap length (stretch_is from count bytes)
    ∙ (let a = length-take count (drop from bytes) in let b = length-drop from bytes in omega (arith, a, b, is))

-- what a write of bytes on a run leaves, also a failed one
pub record HasChanged (told : Bool) (size : ℕ) (run : Extent) (part : List ℕ) (now mid : Held) (after next : Meter) : Type 0 where
  pub alone : ChangesAlone told size run.page (page_count size (length part)) now mid
  pub writes : Writes (page_count size (length part)) after next

-- one run more was written
pub writing_more : (told : Bool) (size : ℕ) (runs left rest : List Extent) (run : Extent) (bytes part : List ℕ) (from count : ℕ)
    (old now mid : Held) (before after next : Meter) → 0 < size → left ≡ run ∷ rest →
    count ≡ min (length bytes - from) (run.pages * size) → part ≡ take count (drop from bytes) →
    IsWriting told size runs left bytes from old now before after →
    (IsTrue told → StandFrom (bytes_on mid) after.page run.page part) →
    HasChanged told after.page run part now mid after next → next.faults ≡ after.faults →
    IsWriting told size runs rest bytes (from + count) old mid before next
writing_more told size runs left rest run bytes part from count old now mid before after next some e is part_is w shown changed still =
    let stands = subst (λ (k : ℕ). IsTrue told → StandFrom (bytes_on mid) k run.page part) w.unit shown in
    let change = subst (λ (k : ℕ). HasChanged told k run part now mid after next) w.unit changed in
    let alone = change.alone in
    let writes = change.writes in
    let left_bytes : ℕ = length bytes - from in
    let long : length part ≡ count =
    ap length part_is ∙ length-take count (drop from bytes) ∙ omega (arith, is, length-drop from bytes) in
    let few : page_count size (length part) ≤ run.pages =
    subst (λ (k : ℕ). page_count size k ≤ run.pages) (sym long) (stretch_pages size left_bytes run.pages count some is) in
    let sum : (q : ℕ) → uses q left ≡ covers q run + uses q rest = λ q. ap (uses q) e ∙ sum_by-cons (covers q) run rest in
    let held = subst (AllByRecursion (λ (r : Extent). HoldsRun now r.page r.pages)) e w.inside in
    let only : (q : ℕ) → uses q runs ≡ 0 → uses q (run ∷ rest) ≡ 0 = λ q none. sym (ap (uses q) e) ∙ w.only q none in
    let front : take (run.pages * size) (drop from bytes) ≡ part = (elim (cases_lt left_bytes (run.pages * size)) [
      | inl less ↦
          let all : count ≡ left_bytes = omega (arith, is, less) in
          let short : length (drop from bytes) ≤ run.pages * size = omega (arith, less, length-drop from bytes) in
          let short' : length (drop from bytes) ≤ count = omega (arith, all, length-drop from bytes) in
          take_all (run.pages * size) (drop from bytes) short ∙ sym (take_all count (drop from bytes) short') ∙ sym part_is
      | inr full ↦
          let all : run.pages * size ≡ count = omega (arith, is, full) in
          ap (λ (k : ℕ). take k (drop from bytes)) all ∙ sym part_is
    ]) in
    let back : drop (run.pages * size) (drop from bytes) ≡ drop (from + count) bytes = (elim (cases_lt left_bytes (run.pages * size)) [
      | inl less ↦
          let short : length (drop from bytes) ≤ run.pages * size = omega (arith, less, length-drop from bytes) in
          let short' : length bytes ≤ from + count = omega (arith, is, less) in
          drop_all (run.pages * size) (drop from bytes) short ∙ sym (drop_all (from + count) bytes short')
      | inr full ↦
          let all : run.pages * size ≡ count = omega (arith, is, full) in
          ap (λ (k : ℕ). drop k (drop from bytes)) all ∙ drop-drop count from bytes
    ]) in
    record {
      within = omega (arith, is, w.within);
      once = λ q. omega (arith, w.once q, sum q);
      inside = all-map (λ (r : Extent). HoldsRun now r.page r.pages) (λ (r : Extent). HoldsRun mid r.page r.pages)
          (λ r all q first last. subst IsTrue (sym (alone.others.held q)) (all q first last)) rest held.1;
      only = λ q none. omega (arith, w.only q none, sum q);
      stands = λ t at same behind.
          let here : StandFrom at size run.page part =
          StandFrom-same at (bytes_on mid) size run.page part (λ q first last.
          let one = covers-on q run first (omega (arith, last, few)) in
          same q (omega (arith, one, w.once q, sum q))) (stands t) in
          w.stands t at (λ q off.
          let gone : covers q run ≡ 0 = omega (arith, off, sum q) in
          same q (omega (arith, off, sum q))
          ∙ ap (λ (o : Option (List ℕ)). unwrap_or o []) (same_off told size run (page_count size (length part)) now mid q few alone gone))
          (subst (λ (l : List Extent). StandOn at size l (drop from bytes)) (sym e)
          (subst (StandFrom at size run.page) (sym front) here, subst (StandOn at size rest) (sym back) behind));
      others = turn_others told size runs rest run (page_count size (length part)) old now mid few only w.others alone;
      written = w.written + page_count size (length part);
      writes = Writes-then w.written (page_count size (length part)) (w.written + page_count size (length part)) before after next
          w.writes writes (omega arith);
      most = omega (
        arith,
        w.most,
        count-stretch size left_bytes run.pages count some is,
        ap (page_count size) long,
        ap (page_count size) (let d : length bytes - (from + count) ≡ left_bytes - count = omega arith in d),
      );
      still = still ∙ w.still;
      unit = writes.used.page ∙ w.unit;
    }

-- what a failure at one run leaves
pub writing_failed : (told : Bool) (size : ℕ) (runs left rest : List Extent) (run : Extent) (bytes part : List ℕ) (from count : ℕ)
    (old now mid : Held) (before after next : Meter) → 0 < size → left ≡ run ∷ rest →
    count ≡ min (length bytes - from) (run.pages * size) → part ≡ take count (drop from bytes) →
    IsWriting told size runs left bytes from old now before after →
    HasChanged told after.page run part now mid after next →
    ChangesRuns told size runs old mid × Writes (page_count size (length bytes)) before next
writing_failed told size runs left rest run bytes part from count old now mid before after next some e is part_is w changed =
    let change = subst (λ (k : ℕ). HasChanged told k run part now mid after next) w.unit changed in
    let alone = change.alone in
    let writes = change.writes in
    let left_bytes : ℕ = length bytes - from in
    let long : length part ≡ count =
    ap length part_is ∙ length-take count (drop from bytes) ∙ omega (arith, is, length-drop from bytes) in
    let few : page_count size (length part) ≤ run.pages =
    subst (λ (k : ℕ). page_count size k ≤ run.pages) (sym long) (stretch_pages size left_bytes run.pages count some is) in (
      turn_others told size runs rest run (page_count size (length part)) old now mid few
          (λ q none. sym (ap (uses q) e) ∙ w.only q none) w.others alone,
      Writes-then w.written (page_count size (length part)) (page_count size (length bytes)) before after next w.writes writes
          (omega (arith, w.most, count-stretch size left_bytes run.pages count some is, ap (page_count size) long)),
    )
