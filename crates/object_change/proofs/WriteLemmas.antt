-- The new bytes are written: what each write asks for, and what it leaves of what was to be put.
use Rattle.std.proofs.Common.{◌≡◌, ℕ, ◌<◌, ◌≤◌, ◌^◌, Bool, IsTrue, List, [], ◌∷◌, length, map, Option, Some, sym, ap, subst, arith, ◌∙◌}
use Rattle.std.specs.Prelude.{Result, Ok, Err}
use Rattle.std.specs.List.{AllByRecursion}
use Rattle.fault_count.specs.Counts.{HasCause, Meter}
use Rattle.geometry_model.specs.Numbers.{Numbers, IsInRange}
use Rattle.geometry_model.proofs.NumberLaws.{page-some}
use Rattle.tree_model.specs.Tree.{page_count}
use Rattle.layout_model.specs.declared.extent.Extent.{Extent}
use Rattle.layout_model.specs.declared.fit.Fit.TheVariants.{Follow, Fresh}
use Rattle.layout_model.specs.Layout.{as_run, laid_parts}
use Rattle.layout_model.specs.Plan.{extent_pages}
use Rattle.let_go_laws.specs.LetGo.{spare_run}
use Rattle.node_codec.specs.PairList.{PairList}
use Rattle.edit_parts.specs.declared.part.Part.{Part}
use Rattle.edit_parts.specs.declared.piece.Piece.{Piece}
use Rattle.edit_parts.specs.Parts.{layout_part, pieces_of}
use Rattle.edit_parts.specs.Pieces.{pieces_bytes, pieces_content}
use Rattle.span_store.specs.Held.{Held, bytes_on}
use Rattle.part_bytes.specs.declared.part.WriteFail.{WriteFail}
use Rattle.part_bytes.specs.declared.part.WriteFail.TheVariants as write
use Rattle.part_bytes.specs.Gathering.{CanGather, pieces_reads}
use Rattle.part_bytes.specs.Parts.{CanWriteParts, HasWrittenPart, PartsStand}
use Rattle.part_bytes.specs.Runs.{CanWriteOn, StandOn}
use Rattle.object_plan.specs.declared.planned.Planned.{Planned}
use Rattle.object_plan.specs.declared.working_tree.WorkingTree.{WorkingTree}
use Rattle.held_parts.specs.Entries.{HaveRuns}
use Rattle.object_change.specs.Steps.{CanPut, PutsNewBytes, first_made}
use Rattle.object_change.proofs.PutLemmas.{HasTried, IsOneMade, each-have, fresh-each, goes-as, one-few, one-have, one-made, one-room}
use Rattle.object_change.proofs.PutLemmas.{packed-as, puts-err, puts-ok, spare-held, tried-follow}

-- the same of lists that are the same
pub lists-as : (P : List Part → List ℕ → List Extent → Type 0) (parts parts' : List Part) (counts counts' : List ℕ)
    (runs runs' : List Extent) → parts' ≡ parts → counts' ≡ counts → runs' ≡ runs → P parts counts runs → P parts' counts' runs'
lists-as P parts parts' counts counts' runs runs' same_parts same_counts same_runs it =
    subst (λ (ps : List Part). P ps counts' runs') (sym same_parts)
    (subst (λ (ks : List ℕ). P parts ks runs') (sym same_counts) (subst (λ (rs : List Extent). P parts counts rs) (sym same_runs) it))

pub fresh-have : (tells : Bool) (n : Numbers) (w : WorkingTree) (p : Planned) (payload counts : List ℕ) (runs : List Extent) (held : Held)
    (meter : Meter) → IsInRange n → p.fit ≡ Fresh → CanPut tells n w p payload counts runs held meter → HaveRuns p.parts.items counts runs
fresh-have tells n w p payload counts runs held meter range is can =
    each-have tells held n.page (length payload) runs p.parts.items counts runs can.small
    (fresh-each tells n w p payload counts runs held meter range is can)

pub fresh-write : (tells : Bool) (n : Numbers) (w : WorkingTree) (p : Planned) (payload counts : List ℕ) (runs : List Extent) (held : Held)
    (meter : Meter) (room : ℕ) → IsInRange n → p.fit ≡ Fresh → CanPut tells n w p payload counts runs held meter → room ≡ n.page →
    CanWriteParts tells meter.page room (length payload) p.parts.items counts runs held
fresh-write tells n w p payload counts runs held meter room range is can scratch =
    subst (λ (k : ℕ). CanWriteParts tells k room (length payload) p.parts.items counts runs held) (sym can.page)
    (record {
      scratch = scratch;
      some = page-some n range;
      held = can.holds;
      sized = can.sized;
      each = fresh-each tells n w p payload counts runs held meter range is can;
    })

-- the one made part can be written on the spare
pub record CanFollow (tells : Bool) (n : Numbers) (p : Planned) (given size room : ℕ) (pieces : List Piece) (run : Extent)
    (held : Held) : Type 1 where
  pub bytes : ℕ
  pub one : IsOneMade p.parts.items pieces bytes
  pub have : HaveRuns p.parts.items (1 ∷ []) (run ∷ [])
  pub each : AllByRecursion (CanGather held size given) pieces
  pub few : pieces_bytes pieces < 2 ^ 64
  pub can : CanWriteOn tells size room (pieces_bytes pieces) (run ∷ []) held

pub can-follow : (tells : Bool) (n : Numbers) (w : WorkingTree) (p : Planned) (payload counts : List ℕ) (runs : List Extent) (held : Held)
    (meter : Meter) (room : ℕ) (pieces : List Piece) (run : Extent) → IsInRange n → p.fit ≡ Follow →
    CanPut tells n w p payload counts runs held meter → room ≡ n.page → w.spare ≡ Some run → first_made p.parts.items ≡ Some pieces →
    CanFollow tells n p (length payload) meter.page room pieces run held
can-follow tells n w p payload counts runs held meter room pieces run range is can scratch spare first =
    let goes = (goes-as n held w p Follow is can.plan).1 in
    let made = one-made p.parts.items pieces goes.bytes goes.one first in
    let small = one-few p.parts.items goes.bytes goes.one can.small in
    let count = made.count in
    let fits : page_count n.page goes.bytes ≤ run.pages =
    subst (λ (s : Option Extent). page_count n.page goes.bytes ≤ extent_pages s) spare goes.fits in
    let same = ap (page_count n.page) count in
    let gather = subst (λ (k : ℕ). AllByRecursion (CanGather held n.page k) (pieces_of p.parts.items)) (sym can.paid)
    (can.plan.pieces (packed-as Follow p.fit is tt)) in
    record {
      bytes = goes.bytes;
      one = made;
      have = one-have goes.bytes p.parts.items run goes.one small;
      each = subst (λ (k : ℕ). AllByRecursion (CanGather held k (length payload)) pieces) (sym can.page)
          (made.some (CanGather held n.page (length payload)) gather);
      few = omega (arith, small, count);
      can = subst (λ (k : ℕ). CanWriteOn tells k room (pieces_bytes pieces) (run ∷ []) held) (sym can.page)
          (record {
            scratch = scratch;
            some = page-some n range;
            held = spare-held held w run spare can.spare;
            enough = one-room run (page_count n.page (pieces_bytes pieces)) (omega (arith, same, fits));
            sized = can.sized;
          });
    }

follow-tried : {E : Type 0} (tells : Bool) (n : Numbers) (w : WorkingTree) (p : Planned) (payload : List ℕ) (runs : List Extent)
    (run : Extent) (pieces : List Piece) (bytes : ℕ) (result : Result (Unit {0}) E) (failed : Type 0) (old new : Held) (used now : Meter) →
    used.page ≡ n.page → w.spare ≡ Some run → IsOneMade p.parts.items pieces bytes →
    HasWrittenPart tells used.page payload pieces (run ∷ []) result old new used now → HasCause used.faults now.faults failed →
    HasTried tells n Follow w.spare p runs failed old new used now
follow-tried tells n w p payload runs run pieces bytes result failed old new used now page spare one written cause =
    tried-follow tells n w p runs run pieces bytes (pieces_reads used.page pieces) failed old new used now page spare one written.others
    written.moves cause

pub follow-ok : (tells : Bool) (n : Numbers) (w : WorkingTree) (p : Planned) (payload counts : List ℕ) (runs : List Extent)
    (run : Extent) (pieces : List Piece) (bytes : ℕ) (entries : PairList) (done : Unit {0}) (old new : Held) (used now : Meter) →
    p.fit ≡ Follow → used.page ≡ n.page → w.spare ≡ Some run → IsOneMade p.parts.items pieces bytes →
    entries.items ≡ laid_parts n.page (map layout_part p.parts.items) ((run ∷ []) ∷ []) →
    HasWrittenPart {E = WriteFail} tells used.page payload pieces (run ∷ []) (Ok done) old new used now →
    HasCause used.faults now.faults (◌≡◌ {A = Result (Unit {0}) WriteFail} (Ok done) (Err write.Fault)) →
    PutsNewBytes tells n w.spare p payload counts runs (Ok entries) old new used now
follow-ok tells n w p payload counts runs run pieces bytes entries done old new used now is page spare one laid written cause =
    puts-ok tells n w.spare p payload counts runs entries old new used now Follow is laid_as stands
    (follow-tried {E = WriteFail} tells n w p payload runs run pieces bytes (Ok done) ⊥ old new used now page spare one written
    (record { kept = cause.kept; raised = λ never. absurd never; still = λ none. cause.still (λ same. cc) }))
  where
    laid_as : entries.items ≡ laid_parts n.page (map layout_part p.parts.items) (as_run w.spare)
    laid_as = laid ∙ ap (λ (s : Option Extent). laid_parts n.page (map layout_part p.parts.items) (as_run s)) (sym spare)

    stands : IsTrue tells → PartsStand (bytes_on new) n.page (bytes_on old) payload p.parts.items (1 ∷ []) (spare_run w.spare)
    stands t =
        subst (λ (s : Option Extent). PartsStand (bytes_on new) n.page (bytes_on old) payload p.parts.items (1 ∷ []) (spare_run s))
        (sym spare)
        (one.stands (bytes_on new) (bytes_on old) n.page payload run
        (subst (λ (k : ℕ). StandOn (bytes_on new) k (run ∷ []) (pieces_content (bytes_on old) k payload pieces)) page (written.bytes t)))

pub follow-err : (tells : Bool) (n : Numbers) (w : WorkingTree) (p : Planned) (payload counts : List ℕ) (runs : List Extent)
    (run : Extent) (pieces : List Piece) (bytes : ℕ) (fail : WriteFail) (old new : Held) (used now : Meter) →
    p.fit ≡ Follow → used.page ≡ n.page → w.spare ≡ Some run → IsOneMade p.parts.items pieces bytes →
    HasWrittenPart {E = WriteFail} tells used.page payload pieces (run ∷ []) (Err fail) old new used now →
    HasCause used.faults now.faults (◌≡◌ {A = Result (Unit {0}) WriteFail} (Err fail) (Err write.Fault)) →
    PutsNewBytes tells n w.spare p payload counts runs (Err fail) old new used now
follow-err tells n w p payload counts runs run pieces bytes fail old new used now is page spare one written cause =
    puts-err tells n w.spare p payload counts runs fail old new used now Follow is
    (follow-tried {E = WriteFail} tells n w p payload runs run pieces bytes (Err fail) (fail ≡ write.Fault) old new used now page spare one
    written
    (record {
      kept = cause.kept;
      raised = λ same. cause.raised (ap (λ (f : WriteFail). Err f) same);
      still = λ none. cause.still (λ same. none (let is_fault : fail ≡ write.Fault = cc in is_fault));
    }))
