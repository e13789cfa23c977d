-- The new bytes put on their pages: what that takes, and what it leaves.
use Rattle.std.proofs.Common.{◌≡◌, ℕ, ◌+◌, ◌<◌, ◌≤◌, ◌^◌, Bool, IsTrue, List, [], ◌∷◌, length, map, sum, drop}
use Rattle.std.proofs.Common.{Option, Some, None, refl, sym, ap, subst, arith, ◌∙◌}
use Rattle.std.specs.Prelude.{Ok, Err}
use Rattle.std.specs.List.{AllByRecursion}
use Rattle.std.proofs.lemmas.List.Sums.{sum_by-cons}
use Rattle.change_laws.proofs.PartLemmas.{all-left}
use Rattle.fault_count.specs.Counts.{HasCause, IsUsed, Meter, Writes}
use Rattle.fault_count.proofs.CountLaws.{IsUsed-none, IsUsed-then}
use Rattle.geometry_model.specs.Numbers.{Numbers, IsInRange}
use Rattle.geometry_model.proofs.NumberLaws.{page-some}
use Rattle.tree_model.specs.Tree.{Pages, page_count}
use Rattle.tree_model.proofs.PageCountLaws.{count-some}
use Rattle.layout_model.specs.declared.extent.Extent.{Extent}
use Rattle.layout_model.specs.declared.fit.Fit.{Fit}
use Rattle.layout_model.specs.declared.fit.Fit.TheVariants.{Extend, Follow, Fresh}
use Rattle.layout_model.specs.Layout.{laid_entries}
use Rattle.layout_model.specs.Plan.{extent_pages, made_part_bytes}
use Rattle.layout_laws.specs.Merging.{parts_bytes}
use Rattle.let_go_laws.specs.LetGo.{spare_run}
use Rattle.content_laws.specs.Spelling.{IsPacked}
use Rattle.node_codec.specs.PairList.{PairList}
use Rattle.edit_parts.specs.declared.part.Part.{Part}
use Rattle.edit_parts.specs.declared.part.Part.TheVariants.{Keep, Make}
use Rattle.edit_parts.specs.declared.piece.Piece.{Piece}
use Rattle.edit_parts.specs.Parts.{layout_part, pieces_of}
use Rattle.edit_parts.specs.Pieces.{pieces_bytes, pieces_content}
use Rattle.span_store.specs.Held.{AllSized, Held, bytes_on}
use Rattle.part_store.specs.Asking.{rows}
use Rattle.part_bytes.specs.declared.part.WriteFail.{WriteFail}
use Rattle.part_bytes.specs.declared.part.WriteFail.TheVariants as write
use Rattle.part_bytes.specs.Gathering.{CanGather}
use Rattle.part_bytes.specs.Parts.{CanWriteEach, PartsStand, ReadsAndWrites, ReadsThenWrites, parts_pages}
use Rattle.part_bytes.specs.Runs.{ChangesRuns, HoldsRuns, StandOn}
use Rattle.written_laws.proofs.RoomLemmas.{granted-can}
use Rattle.object_plan.specs.declared.planned.Planned.{Planned}
use Rattle.object_plan.specs.declared.working_tree.WorkingTree.{WorkingTree}
use Rattle.object_plan.specs.Planned.{CanMake, GoesTo}
use Rattle.object_change.proofs.LaidLemmas.{HasByte}
use Rattle.held_parts.specs.Entries.{HaveRuns}
use Rattle.object_change.specs.Changed.{parts_plan}
use Rattle.object_change.specs.Scene.{HoldsSpare, filled_pages}
use Rattle.object_change.specs.Steps.{CanPut, StandPut, PutsNewBytes, first_made, put_runs}
use Rattle.give_back.proofs.UsesLemmas.{covers-few}
use Rattle.moment_laws.proofs.GrantLemmas.{uses-cons}

-- ---- parts on the runs that were granted for them

pub each-have : (told : Bool) (held : Held) (size given : ℕ) (all : List Extent) (parts : List Part) (counts : List ℕ)
    (runs : List Extent) → parts_bytes (map layout_part parts) < 2 ^ 63 → CanWriteEach told held size given all parts counts runs →
    HaveRuns parts counts runs
each-have told held size given all [] counts runs small can = tt
each-have told held size given all (Keep pair ∷ parts) counts runs small can =
    each-have told held size given all parts counts runs (omega (arith, small)) can
each-have told held size given all (Make pieces ∷ parts) [] runs small can = absurd can
each-have told held size given all (Make pieces ∷ parts) (k ∷ counts) runs small can =
    (can.0, omega (arith, small), each-have told held size given all parts counts (drop k runs) (omega (arith, small)) can.3)

-- where a plan's parts go
pub goes-as : (n : Numbers) (held : Held) (w : WorkingTree) (p : Planned) (fit : Fit) → p.fit ≡ fit → CanMake n held w p →
    GoesTo fit n (extent_pages w.spare) p.change.added p.parts.items p.requests.items
goes-as n held w p fit is can =
    subst (λ (f : Fit). GoesTo f n (extent_pages w.spare) p.change.added p.parts.items p.requests.items) is can.goes

pub packed-as : (fit own : Fit) → own ≡ fit → IsPacked fit → IsPacked own
packed-as fit own is packed = subst IsPacked (sym is) packed

pub fresh-each : (tells : Bool) (n : Numbers) (w : WorkingTree) (p : Planned) (payload counts : List ℕ) (runs : List Extent) (held : Held)
    (meter : Meter) → IsInRange n → p.fit ≡ Fresh → CanPut tells n w p payload counts runs held meter →
    CanWriteEach tells held n.page (length payload) runs p.parts.items counts runs
fresh-each tells n w p payload counts runs held meter range is can =
    let goes = goes-as n held w p Fresh is can.plan in
    let packed : IsPacked p.fit = packed-as Fresh p.fit is tt in
    granted-can n tells w.threshold (length payload) p.parts.items p.requests.items counts runs held range
    (record {
      each = subst (λ (k : ℕ). AllByRecursion (CanGather held n.page k) (pieces_of p.parts.items)) (sym can.paid) (can.plan.pieces packed);
      apart = λ t. can.apart t packed;
    })
    (record { needs = goes.needs; asked = goes.asked; whole = can.granted.whole; each = can.granted.suited })

-- ---- the one made part on the spare

pub kept-stand : (now at : Pages) (size : ℕ) (payload : List ℕ) (parts : List Part) (counts : List ℕ) (runs : List Extent) →
    made_part_bytes (map layout_part parts) ≡ [] → PartsStand now size at payload parts counts runs
kept-stand now at size payload [] counts runs none = tt
kept-stand now at size payload (Keep pair ∷ parts) counts runs none = kept-stand now at size payload parts counts runs none
kept-stand now at size payload (Make pieces ∷ parts) counts runs none =
    let some : pieces_bytes pieces ∷ made_part_bytes (map layout_part parts) ≡ [] = none in absurd (cc)

kept-have : (parts : List Part) (counts : List ℕ) (runs : List Extent) → made_part_bytes (map layout_part parts) ≡ [] →
    HaveRuns parts counts runs
kept-have [] counts runs none = tt
kept-have (Keep pair ∷ parts) counts runs none = kept-have parts counts runs none
kept-have (Make pieces ∷ parts) counts runs none =
    let some : pieces_bytes pieces ∷ made_part_bytes (map layout_part parts) ≡ [] = none in absurd (cc)

kept-pages : (size : ℕ) (parts : List Part) → made_part_bytes (map layout_part parts) ≡ [] → parts_pages size parts ≡ 0
kept-pages size [] none = refl
kept-pages size (Keep pair ∷ parts) none = kept-pages size parts none
kept-pages size (Make pieces ∷ parts) none =
    let some : pieces_bytes pieces ∷ made_part_bytes (map layout_part parts) ≡ [] = none in absurd (cc)

pub one-have : (bytes : ℕ) (parts : List Part) (run : Extent) → made_part_bytes (map layout_part parts) ≡ bytes ∷ [] →
    bytes < 2 ^ 63 → HaveRuns parts (1 ∷ []) (run ∷ [])
one-have bytes [] run one few = absurd (cc)
one-have bytes (Keep pair ∷ parts) run one few = one-have bytes parts run one few
one-have bytes (Make pieces ∷ parts) run one few =
    let made : pieces_bytes pieces ∷ made_part_bytes (map layout_part parts) ≡ bytes ∷ [] = one in
    let same : pieces_bytes pieces ≡ bytes = cc in
    let none : made_part_bytes (map layout_part parts) ≡ [] = cc in
    (let fits : 1 ≤ 1 = omega arith in fits, omega (arith, same, few), kept-have parts [] [] none)

-- what is known of the one made part by its pieces
pub record IsOneMade (parts : List Part) (pieces : List Piece) (bytes : ℕ) : Type 1 where
  pub count : pieces_bytes pieces ≡ bytes
  pub some : (P : Piece → Type 0) → AllByRecursion P (pieces_of parts) → AllByRecursion P pieces
  pub pages : (size : ℕ) → parts_pages size parts ≡ page_count size bytes
  pub stands : (now at : Pages) (size : ℕ) (payload : List ℕ) (run : Extent) →
      StandOn now size (run ∷ []) (pieces_content at size payload pieces) → PartsStand now size at payload parts (1 ∷ []) (run ∷ [])

pub one-made : (parts : List Part) (pieces : List Piece) (bytes : ℕ) → made_part_bytes (map layout_part parts) ≡ bytes ∷ [] →
    first_made parts ≡ Some pieces → IsOneMade parts pieces bytes
one-made [] pieces bytes one first = absurd (cc)
one-made (Keep pair ∷ parts) pieces bytes one first =
    let more = one-made parts pieces bytes one first in
    record {
      count = more.count;
      some = λ P all. more.some P all.1;
      pages = more.pages;
      stands = λ now at size payload run stand. more.stands now at size payload run stand;
    }
one-made (Make own ∷ parts) pieces bytes one first =
    let made : pieces_bytes own ∷ made_part_bytes (map layout_part parts) ≡ bytes ∷ [] = one in
    let found : Some own ≡ Some pieces = first in
    let is : own ≡ pieces = cc in
    let same : pieces_bytes own ≡ bytes = cc in
    let none : made_part_bytes (map layout_part parts) ≡ [] = cc in
    record {
      count = ap pieces_bytes (sym is) ∙ same;
      some = λ P all. subst (AllByRecursion P) is (all-left P own (pieces_of parts) all);
      pages = λ size. (let rest = kept-pages size parts none in let here = ap (page_count size) same in omega (arith, rest, here));
      stands = λ now at size payload run stand. (
        subst (λ (ps : List Piece). StandOn now size (run ∷ []) (pieces_content at size payload ps)) (sym is) stand,
        kept-stand now at size payload parts [] [] none,
      );
    }

-- a made part of a plan has a byte
pub one-some : (parts : List Part) (bytes : ℕ) → made_part_bytes (map layout_part parts) ≡ bytes ∷ [] → AllByRecursion HasByte parts →
    1 ≤ bytes
one-some [] bytes one some = absurd (cc)
one-some (Keep pair ∷ parts) bytes one some = one-some parts bytes one some.1
one-some (Make pieces ∷ parts) bytes one some =
    let made : pieces_bytes pieces ∷ made_part_bytes (map layout_part parts) ≡ bytes ∷ [] = one in
    let same : pieces_bytes pieces ≡ bytes = cc in
    let here = some.0 in omega (arith, same, here)

pub one-few : (parts : List Part) (bytes : ℕ) → made_part_bytes (map layout_part parts) ≡ bytes ∷ [] →
    parts_bytes (map layout_part parts) < 2 ^ 63 → bytes < 2 ^ 63
one-few [] bytes one small = absurd (cc)
one-few (Keep pair ∷ parts) bytes one small = one-few parts bytes one (omega (arith, small))
one-few (Make pieces ∷ parts) bytes one small =
    let made : pieces_bytes pieces ∷ made_part_bytes (map layout_part parts) ≡ bytes ∷ [] = one in
    let same : pieces_bytes pieces ≡ bytes = cc in
    omega (arith, same, small)

-- a plan whose part follows the tail has a made part, and there is a spare for it
pub follow-there : (n : Numbers) (held : Held) (w : WorkingTree) (p : Planned) → IsInRange n → p.fit ≡ Follow → CanMake n held w p →
    (w.spare ≡ None → ⊥) × (first_made p.parts.items ≡ None → ⊥)
follow-there n held w p range is can =
    let goes = (goes-as n held w p Follow is can).1 in (
      λ none.
          let few : page_count n.page goes.bytes ≤ 0 = subst (λ (s : Option Extent). page_count n.page goes.bytes ≤ extent_pages s)
          none goes.fits in
          let byte = one-some p.parts.items goes.bytes goes.one can.some in
          let page = count-some n.page goes.bytes (page-some n range) byte in
          omega (arith, few, page),
      λ none. made-there p.parts.items goes.bytes goes.one none,
    )
  where
    made-there : (parts : List Part) (bytes : ℕ) → made_part_bytes (map layout_part parts) ≡ bytes ∷ [] → first_made parts ≡ None → ⊥
    made-there [] bytes one none = cc
    made-there (Keep pair ∷ parts) bytes one none = made-there parts bytes one none
    made-there (Make pieces ∷ parts) bytes one none = cc

-- ---- one run that is held

pub spare-held : (held : Held) (w : WorkingTree) (run : Extent) → w.spare ≡ Some run → HoldsSpare held w.spare →
    HoldsRuns held (run ∷ [])
spare-held held w run is spare =
    let there = subst (HoldsSpare held) is spare in
    record {
      each = (there.1, tt);
      once = λ q. (let all = uses-cons q run [] in let few = covers-few q run in omega (arith, all, few));
    }

pub one-room : (run : Extent) (pages : ℕ) → pages ≤ run.pages → pages ≤ sum (map (λ (r : Extent). r.pages) (run ∷ []))
one-room run pages few = (let all = sum_by-cons (λ (k : ℕ). k) run.pages [] in omega (arith, few, all))

-- ---- what is left, by how the new bytes meet the spare

entries-as : (n : Numbers) (spare : Option Extent) (p : Planned) (fit : Fit) (runs : List (List Extent)) → p.fit ≡ fit →
    laid_entries n spare (parts_plan p) runs
    ≡ laid_entries n spare (record { from = 0; count = 0; parts = map layout_part p.parts.items; fit = fit }) runs
entries-as n spare p fit runs is =
    ap (λ (f : Fit). laid_entries n spare (record { from = 0; count = 0; parts = map layout_part p.parts.items; fit = f }) runs) is

-- what a try to write left, whether it went well or not
pub record HasTried (tells : Bool) (n : Numbers) (fit : Fit) (spare : Option Extent) (p : Planned) (runs : List Extent) (failed : Type 0)
    (old new : Held) (mid last : Meter) : Type 0 where
  pub others : ChangesRuns tells n.page (put_runs fit spare runs) old new
  pub used : IsUsed mid last
  pub most : last.written ≤ mid.written + filled_pages n.page (record p { fit = fit })
  pub cause : HasCause mid.faults last.faults failed

pub puts-ok : (tells : Bool) (n : Numbers) (spare : Option Extent) (p : Planned) (payload counts : List ℕ) (runs : List Extent)
    (entries : PairList) (old new : Held) (used now : Meter) (fit : Fit) → p.fit ≡ fit →
    entries.items ≡ laid_entries n spare (record { from = 0; count = 0; parts = map layout_part p.parts.items; fit = fit })
    (rows counts runs) →
    (IsTrue tells → StandPut fit n.page (bytes_on new) (bytes_on old) payload p.parts.items counts runs spare) →
    HasTried tells n fit spare p runs ⊥ old new used now →
    PutsNewBytes tells n spare p payload counts runs (Ok entries) old new used now
puts-ok tells n spare p payload counts runs entries old new used now fit is entries_are stands tried = record {
  entries = entries_are ∙ sym (entries-as n spare p fit (rows counts runs) is);
  stands = λ t. subst (λ (f : Fit). StandPut f n.page (bytes_on new) (bytes_on old) payload p.parts.items counts runs spare) (sym is)
      (stands t);
  others = subst (λ (f : Fit). ChangesRuns tells n.page (put_runs f spare runs) old new) (sym is) tried.others;
  used = tried.used;
  most = subst (λ (f : Fit). now.written ≤ used.written + filled_pages n.page (record p { fit = f })) (sym is) tried.most;
  cause = record { kept = tried.cause.kept; raised = λ same. cc; still = λ none. tried.cause.still (λ never. never) };
}

pub puts-err : (tells : Bool) (n : Numbers) (spare : Option Extent) (p : Planned) (payload counts : List ℕ) (runs : List Extent)
    (fail : WriteFail) (old new : Held) (used now : Meter) (fit : Fit) → p.fit ≡ fit →
    HasTried tells n fit spare p runs (fail ≡ write.Fault) old new used now →
    PutsNewBytes tells n spare p payload counts runs (Err fail) old new used now
puts-err tells n spare p payload counts runs fail old new used now fit is tried = record {
  entries = tt;
  stands = tt;
  others = subst (λ (f : Fit). ChangesRuns tells n.page (put_runs f spare runs) old new) (sym is) tried.others;
  used = tried.used;
  most = subst (λ (f : Fit). now.written ≤ used.written + filled_pages n.page (record p { fit = f })) (sym is) tried.most;
  cause = record {
    kept = tried.cause.kept;
    raised = λ same. tried.cause.raised (let is_fault : fail ≡ write.Fault = cc in is_fault);
    still = λ none. tried.cause.still (λ fault. none (ap (λ (f : WriteFail). Err f) fault));
  };
}

-- nothing was written
pub changes-none : (tells : Bool) (size : ℕ) (runs : List Extent) (held : Held) → AllSized tells size held →
    ChangesRuns tells size runs held held
changes-none tells size runs held sized =
    record { others = λ q none. refl; held = λ q. refl; begun = λ q. refl; count = refl; room = refl; sized = sized }

pub puts-none : (tells : Bool) (n : Numbers) (spare : Option Extent) (p : Planned) (payload counts : List ℕ) (runs : List Extent)
    (held : Held) (meter : Meter) → AllSized tells n.page held →
    PutsNewBytes tells n spare p payload counts runs (Err write.Memory) held held meter meter
puts-none tells n spare p payload counts runs held meter sized = record {
  entries = tt;
  stands = tt;
  others = changes-none tells n.page (put_runs p.fit spare runs) held sized;
  used = IsUsed-none meter;
  most = omega arith;
  cause = record { kept = omega arith; raised = λ same. absurd (cc); still = λ none. refl };
}

-- ---- what the writes say, with the store's page size

as-size : (tells : Bool) (unit size : ℕ) (runs : List Extent) (old new : Held) → unit ≡ size → ChangesRuns tells unit runs old new →
    ChangesRuns tells size runs old new
as-size tells unit size runs old new is changes = subst (λ (k : ℕ). ChangesRuns tells k runs old new) is changes

pub tried-fresh : (tells : Bool) (n : Numbers) (spare : Option Extent) (p : Planned) (runs : List Extent) (reads : ℕ) (failed : Type 0)
    (old new : Held) (used now : Meter) → used.page ≡ n.page → ChangesRuns tells used.page runs old new →
    ReadsAndWrites reads (parts_pages used.page p.parts.items) used now → HasCause used.faults now.faults failed →
    HasTried tells n Fresh spare p runs failed old new used now
tried-fresh tells n spare p runs reads failed old new used now page changes moves cause = record {
  others = as-size tells used.page n.page runs old new page changes;
  used = moves.used;
  most = (let same = ap (λ (k : ℕ). parts_pages k p.parts.items) page in omega (arith, moves.written, same));
  cause = cause;
}

pub tried-follow : (tells : Bool) (n : Numbers) (w : WorkingTree) (p : Planned) (runs : List Extent) (run : Extent) (pieces : List Piece)
    (bytes reads : ℕ) (failed : Type 0) (old new : Held) (used now : Meter) → used.page ≡ n.page → w.spare ≡ Some run →
    IsOneMade p.parts.items pieces bytes → ChangesRuns tells used.page (run ∷ []) old new →
    ReadsThenWrites reads (page_count used.page (pieces_bytes pieces)) used now → HasCause used.faults now.faults failed →
    HasTried tells n Follow w.spare p runs failed old new used now
tried-follow tells n w p runs run pieces bytes reads failed old new used now page spare one changes moves cause = record {
  others = subst (λ (s : Option Extent). ChangesRuns tells n.page (spare_run s) old new) (sym spare)
      (as-size tells used.page n.page (run ∷ []) old new page changes);
  used = IsUsed-then used moves.between now moves.reads.used moves.writes.used;
  most = (let same = ap (λ (k : ℕ). page_count k (pieces_bytes pieces)) page in
      let all = one.pages n.page in
      let count = ap (page_count n.page) one.count in
      let most = moves.writes.most in
      let still = moves.reads.written in
      omega (arith, same, all, count, most, still));
  cause = cause;
}

pub tried-extend : (tells : Bool) (n : Numbers) (w : WorkingTree) (p : Planned) (payload : List ℕ) (runs : List Extent) (run : Extent)
    (failed : Type 0) (old new : Held) (used now : Meter) → used.page ≡ n.page → w.spare ≡ Some run → length payload ≡ p.change.added →
    ChangesRuns tells used.page (run ∷ []) old new → Writes (page_count used.page (length payload)) used now →
    HasCause used.faults now.faults failed → HasTried tells n Extend w.spare p runs failed old new used now
tried-extend tells n w p payload runs run failed old new used now page spare paid changes writes cause = record {
  others = subst (λ (s : Option Extent). ChangesRuns tells n.page (spare_run s) old new) (sym spare)
      (as-size tells used.page n.page (run ∷ []) old new page changes);
  used = writes.used;
  most = (let same = ap (λ (k : ℕ). page_count k (length payload)) page in
      let count = ap (page_count n.page) paid in
      let most = writes.most in
      omega (arith, same, count, most));
  cause = cause;
}
