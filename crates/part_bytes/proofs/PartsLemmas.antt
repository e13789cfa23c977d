-- New parts written one after another: none yet, one that stays, one that is written.
use Rattle.std.proofs.Common.{◌≡◌, ℕ, zero, suc, ◌+◌, ◌*◌, ◌<◌, ◌≤◌, Bool, List, [], ◌∷◌, ◌++◌, length, take, drop}
use Rattle.std.proofs.Common.{get_or, Option, refl, sym, ap, ◌∙◌, subst, arith}
use Rattle.std.proofs.lemmas.List.{length-take}
use Rattle.std.proofs.lemmas.List.Sums.{sum_by-cons, sum_by-take-drop}
use Rattle.std.proofs.lemmas.List.Concat.{flat_map-cons}
use Rattle.std.specs.Prelude.{IsTrue, unwrap_or}
use Rattle.std.specs.List.{AllByRecursion}
use Rattle.fault_count.specs.Counts.{Meter, counted}
use Rattle.fault_count.proofs.CountLaws.{IsUsed-none, IsUsed-then}
use Rattle.base_laws.proofs.ListLaws.{all-map}
use Rattle.tree_model.specs.declared.entry.Pair.{Pair}
use Rattle.tree_model.specs.Tree.{Pages, page_count}
use Rattle.tree_model.proofs.PageCountLaws.{count-enough}
use Rattle.layout_model.specs.declared.extent.Extent.{Extent}
use Rattle.moment_model.specs.Version.{covers, uses}
use Rattle.edit_parts.specs.declared.part.Part.{Part}
use Rattle.edit_parts.specs.declared.part.Part.TheVariants.{Keep, Make}
use Rattle.edit_parts.specs.declared.piece.Piece.{Piece}
use Rattle.edit_parts.specs.declared.piece.Piece.TheVariants.{Old, Given}
use Rattle.edit_parts.specs.Pieces.{piece_content, pieces_bytes, pieces_content}
use Rattle.span_store.specs.Held.{AllSized, Held, HoldsRun, bytes_on, has}
use Rattle.span_store.proofs.Runs.{run_bytes-same}
use Rattle.part_bytes.specs.Gathering.{CanGather, pieces_reads}
use Rattle.part_bytes.specs.Runs.{CanWriteOn, HoldsRuns, StandOn, ChangesRuns}
use Rattle.part_bytes.specs.Parts.{ReadsThenWrites, ReadsAndWrites, IsApart, CanWritePart, CanWriteEach, PartsStand}
use Rattle.part_bytes.specs.Parts.{parts_reads, parts_pages}
use Rattle.part_bytes.proofs.RunLemmas.{StandFrom-same}
use Rattle.moment_laws.proofs.GrantLemmas.{covers-on}

-- ---- what moved

pub ReadsAndWrites-none : (n m : ℕ) (meter : Meter) → ReadsAndWrites n m meter meter
ReadsAndWrites-none n m meter = record { used = IsUsed-none meter; read = omega arith; written = omega arith }

pub ReadsAndWrites-then : (a b n c d m : ℕ) (old mid new : Meter) → ReadsAndWrites a c old mid → ReadsAndWrites b d mid new →
    a + b ≤ n → c + d ≤ m → ReadsAndWrites n m old new
ReadsAndWrites-then a b n c d m old mid new first second reads writes = record {
  used = IsUsed-then old mid new first.used second.used;
  read = omega (arith, first.read, second.read, first.used.read, second.used.read, reads);
  written = omega (arith, first.written, second.written, first.used.written, second.used.written, writes);
}

pub ReadsAndWrites-both : (n m : ℕ) (old new : Meter) → ReadsThenWrites n m old new → ReadsAndWrites n m old new
ReadsAndWrites-both n m old new both = record {
  used = IsUsed-then old both.between new both.reads.used both.writes.used;
  read = omega (arith, both.reads.most, both.writes.read);
  written = omega (arith, both.reads.written, both.writes.most, ap (λ (k : ℕ). counted k m) both.reads.written);
}

-- ---- parts of lists of runs

all_take : (P : Extent → Type 0) (n : ℕ) (runs : List Extent) → AllByRecursion P runs → AllByRecursion P (take n runs)
all_take P zero runs all = tt
all_take P (suc n) [] all = tt
all_take P (suc n) (run ∷ runs) all = (all.0, all_take P n runs all.1)

all_drop : (P : Extent → Type 0) (n : ℕ) (runs : List Extent) → AllByRecursion P runs → AllByRecursion P (drop n runs)
all_drop P zero runs all = all
all_drop P (suc n) [] all = tt
all_drop P (suc n) (run ∷ runs) all = all_drop P n runs all.1

uses_parted : (q n : ℕ) (runs : List Extent) → uses q (take n runs) + uses q (drop n runs) ≡ uses q runs
uses_parted q n runs = sum_by-take-drop (covers q) runs n

-- bytes stay on runs whose pages stay
pub StandOn-same : (at other : Pages) (size : ℕ) (runs : List Extent) (bytes : List ℕ) → 0 < size →
    ((q : ℕ) → 0 < uses q runs → at q ≡ other q) → StandOn other size runs bytes → StandOn at size runs bytes
StandOn-same at other size [] bytes some same stands = tt
StandOn-same at other size (run ∷ runs) bytes some same stands =
    let few : page_count size (length (take (run.pages * size) bytes)) ≤ run.pages =
    count-enough size (length (take (run.pages * size) bytes)) run.pages some
    (omega (arith, length-take (run.pages * size) bytes)) in (
      StandFrom-same at other size run.page (take (run.pages * size) bytes)
          (λ q first last.
          let one = covers-on q run first (omega (arith, last, few)) in
          same q (omega (arith, sum_by-cons (covers q) run runs, one))) stands.0,
      StandOn-same at other size runs (drop (run.pages * size) bytes) some
          (λ q more. same q (omega (arith, sum_by-cons (covers q) run runs, more))) stands.1,
    )

-- ---- pieces whose pages stay

gather_same : (size given : ℕ) (now mid : Held) → ((q : ℕ) → has mid q ≡ has now q) → (piece : Piece) →
    CanGather now size given piece → CanGather mid size given piece
gather_same size given now mid same (Old page skip bytes) can =
    record { pages = λ q first last. subst IsTrue (sym (same q)) (can.pages q first last); fits = can.fits }
gather_same size given now mid same (Given from bytes) can = can

put_same : (told : Bool) (size given : ℕ) (now mid : Held) (all : List Extent) → ((q : ℕ) → has mid q ≡ has now q) → (parts : List Part)
    (counts : List ℕ) (runs : List Extent) → CanWriteEach told now size given all parts counts runs →
    CanWriteEach told mid size given all parts counts runs
put_same told size given now mid all same [] counts runs can = tt
put_same told size given now mid all same (Keep pair ∷ parts) counts runs can =
    put_same told size given now mid all same parts counts runs can
put_same told size given now mid all same (Make pieces ∷ parts) [] runs can = can
put_same told size given now mid all same (Make pieces ∷ parts) (n ∷ counts) runs can = (
  can.0,
  record {
    each = all-map (CanGather now size given) (CanGather mid size given) (gather_same size given now mid same) pieces can.1.each;
    fits = can.1.fits;
    enough = can.1.enough;
  },
  can.2,
  put_same told size given now mid all same parts counts (drop n runs) can.3,
)

piece_same : (at now : Pages) (size : ℕ) (payload : List ℕ) (all : List Extent) → ((q : ℕ) → uses q all ≡ 0 → now q ≡ at q) →
    (piece : Piece) → IsApart size all piece → piece_content now size payload piece ≡ piece_content at size payload piece
piece_same at now size payload all same (Old page skip bytes) apart =
    ap (λ (l : List ℕ). drop skip (take (skip + bytes) l)) (run_bytes-same now at page (page_count size (skip + bytes))
    (λ q first last. same q (apart q first last)))
piece_same at now size payload all same (Given from bytes) apart = refl

pieces_same : (at now : Pages) (size : ℕ) (payload : List ℕ) (all : List Extent) → ((q : ℕ) → uses q all ≡ 0 → now q ≡ at q) →
    (pieces : List Piece) → AllByRecursion (IsApart size all) pieces →
    pieces_content now size payload pieces ≡ pieces_content at size payload pieces
pieces_same at now size payload all same [] apart = refl
pieces_same at now size payload all same (piece ∷ pieces) apart =
    flat_map-cons (piece_content now size payload) piece pieces
    ∙ ap (λ (l : List ℕ). l ++ pieces_content now size payload pieces) (piece_same at now size payload all same piece apart.0)
    ∙ ap (λ (l : List ℕ). piece_content at size payload piece ++ l) (pieces_same at now size payload all same pieces apart.1)
    ∙ sym (flat_map-cons (piece_content at size payload) piece pieces)

-- ---- the parts

-- these parts are left, with these counts and runs. Whatever the pages of the runs that are left come to hold, with the parts
-- that are left on them all parts stand on all runs.
pub record IsPutting (told : Bool) (size : ℕ) (payload : List ℕ) (parts left : List Part) (counts left_counts : List ℕ)
    (runs left_runs : List Extent) (old now : Held) (before after : Meter) : Type 0 where
  pub ready : CanWriteEach told now size (length payload) runs left left_counts left_runs
  pub holds : HoldsRuns now left_runs
  pub only : (q : ℕ) → uses q runs ≡ 0 → uses q left_runs ≡ 0
  pub stands : IsTrue told → (at : Pages) → ((q : ℕ) → uses q left_runs ≡ 0 → at q ≡ bytes_on now q) →
      PartsStand at size (bytes_on old) payload left left_counts left_runs →
      PartsStand at size (bytes_on old) payload parts counts runs
  pub others : ChangesRuns told size runs old now
  pub read : ℕ
  pub written : ℕ
  pub moved : ReadsAndWrites read written before after
  pub reads : read + parts_reads size left ≤ parts_reads size parts
  pub writes : written + parts_pages size left ≤ parts_pages size parts
  pub still : after.faults ≡ before.faults
  pub unit : after.page ≡ size

-- no part is written yet
pub putting_none : (told : Bool) (size : ℕ) (payload : List ℕ) (parts : List Part) (counts : List ℕ) (runs : List Extent)
    (old : Held) (before : Meter) → before.page ≡ size → CanWriteEach told old size (length payload) runs parts counts runs →
    HoldsRuns old runs → AllSized told size old →
    IsPutting told size payload parts parts counts counts runs runs old old before before
putting_none told size payload parts counts runs old before unit ready holds sized = record {
  ready = ready;
  holds = holds;
  only = λ q none. none;
  stands = λ t at same stands. stands;
  others = record {
    others = λ q none. refl;
    held = λ q. refl;
    begun = λ q. refl;
    count = refl;
    room = refl;
    sized = sized;
  };
  read = 0;
  written = 0;
  moved = ReadsAndWrites-none 0 0 before;
  reads = omega arith;
  writes = omega arith;
  still = refl;
  unit = unit;
}

-- a part stays
pub putting_kept : (told : Bool) (size : ℕ) (payload : List ℕ) (parts left rest : List Part) (pair : Pair) (counts left_counts : List ℕ)
    (runs left_runs : List Extent) (old now : Held) (before after : Meter) → left ≡ Keep pair ∷ rest →
    IsPutting told size payload parts left counts left_counts runs left_runs old now before after →
    IsPutting told size payload parts rest counts left_counts runs left_runs old now before after
putting_kept told size payload parts left rest pair counts left_counts runs left_runs old now before after e p = record {
  ready = subst (λ (l : List Part). CanWriteEach told now size (length payload) runs l left_counts left_runs) e p.ready;
  holds = p.holds;
  only = p.only;
  stands = λ t at same stands. p.stands t at same
      (subst (λ (l : List Part). PartsStand at size (bytes_on old) payload l left_counts left_runs) (sym e) stands);
  others = p.others;
  read = p.read;
  written = p.written;
  moved = p.moved;
  reads = subst (λ (l : List Part). p.read + parts_reads size l ≤ parts_reads size parts) e p.reads;
  writes = subst (λ (l : List Part). p.written + parts_pages size l ≤ parts_pages size parts) e p.writes;
  still = p.still;
  unit = p.unit;
}

-- what is asked of the next part that is made
pub record IsNext (told : Bool) (size : ℕ) (payload : List ℕ) (pieces : List Piece) (rest : List Part) (n : ℕ) (rest_counts : List ℕ)
    (runs left_runs : List Extent) (now : Held) : Type 0 where
  pub within : n ≤ length left_runs
  pub can : CanWritePart now size (length payload) pieces (take n left_runs)
  pub apart : IsTrue told → AllByRecursion (IsApart size runs) pieces
  pub holds : HoldsRuns now (take n left_runs)
  pub behind : CanWriteEach told now size (length payload) runs rest rest_counts (drop n left_runs)

-- there is a count for it
pub counts_left : (told : Bool) (size : ℕ) (payload : List ℕ) (parts left rest : List Part) (pieces : List Piece)
    (counts left_counts : List ℕ) (runs left_runs : List Extent) (old now : Held) (before after : Meter) →
    left ≡ Make pieces ∷ rest → IsPutting told size payload parts left counts left_counts runs left_runs old now before after →
    0 < length left_counts
counts_left told size payload parts left rest pieces counts left_counts runs left_runs old now before after e p =
    by_counts left_counts (subst (λ (l : List Part). CanWriteEach told now size (length payload) runs l left_counts left_runs) e p.ready)
  where
    by_counts : (cs : List ℕ) → CanWriteEach told now size (length payload) runs (Make pieces ∷ rest) cs left_runs → 0 < length cs
    by_counts [] can = absurd can
    by_counts (n ∷ cs) can = omega arith

pub next_part : (told : Bool) (size : ℕ) (payload : List ℕ) (parts left rest : List Part) (pieces : List Piece) (n : ℕ)
    (counts left_counts rest_counts : List ℕ) (runs left_runs : List Extent) (old now : Held) (before after : Meter) →
    left ≡ Make pieces ∷ rest → left_counts ≡ n ∷ rest_counts →
    IsPutting told size payload parts left counts left_counts runs left_runs old now before after →
    IsNext told size payload pieces rest n rest_counts runs left_runs now
next_part told size payload parts left rest pieces n counts left_counts rest_counts runs left_runs old now before after e f p =
    let can = subst (λ (cs : List ℕ). CanWriteEach told now size (length payload) runs (Make pieces ∷ rest) cs left_runs) f
    (subst (λ (l : List Part). CanWriteEach told now size (length payload) runs l left_counts left_runs) e p.ready) in
    record {
      within = can.0;
      can = can.1;
      apart = can.2;
      holds = record {
        each = all_take (λ (run : Extent). HoldsRun now run.page run.pages) n left_runs p.holds.each;
        once = λ q. omega (arith, p.holds.once q, uses_parted q n left_runs);
      };
      behind = can.3;
    }

-- so it can be written on its runs
pub next_can : (told : Bool) (size unit room : ℕ) (payload : List ℕ) (pieces : List Piece) (rest : List Part) (n : ℕ)
    (rest_counts : List ℕ) (runs left_runs own : List Extent) (now : Held) → unit ≡ size → room ≡ size → 0 < size →
    own ≡ take n left_runs → AllSized told size now → IsNext told size payload pieces rest n rest_counts runs left_runs now →
    CanWriteOn told unit room (pieces_bytes pieces) own now
next_can told size unit room payload pieces rest n rest_counts runs left_runs own now unit_is room_is some own_is sized next =
    subst (λ (k : ℕ). CanWriteOn told k room (pieces_bytes pieces) own now) (sym unit_is)
    (subst (λ (l : List Extent). CanWriteOn told size room (pieces_bytes pieces) l now) (sym own_is)
    (record { scratch = room_is; some = some; held = next.holds; enough = next.can.enough; sized = sized }))

-- the first count and the others
pub first_count : (cs front back : List ℕ) → 0 < length cs → front ≡ take 1 cs → back ≡ drop 1 cs → cs ≡ get_or front 0 0 ∷ back
first_count [] front back some f b = absurd (omega arith)
first_count (c ∷ cs) front back some f b =
    ap (λ (l : List ℕ). c ∷ l) (sym b) ∙ ap (λ (l : List ℕ). get_or l 0 0 ∷ back) (sym f)

-- the changes of one part more
part_others : (told : Bool) (size : ℕ) (runs left_runs : List Extent) (n : ℕ) (old now mid : Held) →
    ((q : ℕ) → uses q runs ≡ 0 → uses q left_runs ≡ 0) → ChangesRuns told size runs old now →
    ChangesRuns told size (take n left_runs) now mid → ChangesRuns told size runs old mid
part_others told size runs left_runs n old now mid only before alone = record {
  others = λ q none.
      let off : uses q (take n left_runs) ≡ 0 = omega (arith, only q none, uses_parted q n left_runs) in
      alone.others q off ∙ before.others q none;
  held = λ q. alone.held q ∙ before.held q;
  begun = λ q. alone.begun q ∙ before.begun q;
  count = alone.count ∙ before.count;
  room = alone.room ∙ before.room;
  sized = alone.sized;
}

-- what a write of a part leaves, also a failed one
pub record HasPut (told : Bool) (size : ℕ) (pieces : List Piece) (own : List Extent) (now mid : Held) (after next : Meter) : Type 0 where
  pub others : ChangesRuns told size own now mid
  pub moves : ReadsThenWrites (pieces_reads size pieces) (page_count size (pieces_bytes pieces)) after next

-- a part more is written
pub putting_more : (told : Bool) (size : ℕ) (payload : List ℕ) (parts left rest : List Part) (pieces : List Piece) (n : ℕ)
    (counts left_counts rest_counts : List ℕ) (runs left_runs : List Extent) (old now mid : Held) (before after next : Meter) →
    0 < size → left ≡ Make pieces ∷ rest → left_counts ≡ n ∷ rest_counts →
    IsPutting told size payload parts left counts left_counts runs left_runs old now before after →
    (IsTrue told → StandOn (bytes_on mid) after.page (take n left_runs) (pieces_content (bytes_on now) after.page payload pieces)) →
    HasPut told after.page pieces (take n left_runs) now mid after next → next.faults ≡ after.faults →
    IsPutting told size payload parts rest counts rest_counts runs (drop n left_runs) old mid before next
putting_more told size payload parts left rest pieces n counts left_counts rest_counts runs left_runs old now mid before after next
    some e f p shown put still =
    let own = take n left_runs in
    let asked = next_part told size payload parts left rest pieces n counts left_counts rest_counts runs left_runs old now
    before after e f p in
    let stands = subst (λ (k : ℕ).
    IsTrue told → StandOn (bytes_on mid) k own (pieces_content (bytes_on now) k payload pieces)) p.unit shown in
    let change = subst (λ (k : ℕ). HasPut told k pieces own now mid after next) p.unit put in
    let moves = ReadsAndWrites-both (pieces_reads size pieces) (page_count size (pieces_bytes pieces)) after next change.moves in
    let reads = ap (parts_reads size) e in
    let pages = ap (parts_pages size) e in
    record {
      ready = put_same told size (length payload) now mid runs change.others.held rest rest_counts (drop n left_runs) asked.behind;
      holds = record {
        each = all-map (λ (run : Extent). HoldsRun now run.page run.pages) (λ (run : Extent). HoldsRun mid run.page run.pages)
            (λ run all q first last. subst IsTrue (sym (change.others.held q)) (all q first last)) (drop n left_runs)
            (all_drop (λ (run : Extent). HoldsRun now run.page run.pages) n left_runs p.holds.each);
        once = λ q. omega (arith, p.holds.once q, uses_parted q n left_runs);
      };
      only = λ q none. omega (arith, p.only q none, uses_parted q n left_runs);
      stands = λ t at same behind.
          let as_before : pieces_content (bytes_on now) size payload pieces ≡ pieces_content (bytes_on old) size payload pieces =
          pieces_same (bytes_on old) (bytes_on now) size payload runs
          (λ q off. ap (λ (o : Option (List ℕ)). unwrap_or o []) (p.others.others q off)) pieces (asked.apart t) in
          let here : StandOn at size own (pieces_content (bytes_on old) size payload pieces) =
          subst (StandOn at size own) as_before
          (StandOn-same at (bytes_on mid) size own (pieces_content (bytes_on now) size payload pieces) some
          (λ q used. same q (omega (arith, p.holds.once q, uses_parted q n left_runs, used))) (stands t)) in
          p.stands t at
          (λ q off. same q (omega (arith, uses_parted q n left_runs, off))
          ∙ ap (λ (o : Option (List ℕ)). unwrap_or o []) (change.others.others q (omega (arith, uses_parted q n left_runs, off))))
          (subst (λ (l : List Part). PartsStand at size (bytes_on old) payload l left_counts left_runs) (sym e)
          (subst (λ (cs : List ℕ). PartsStand at size (bytes_on old) payload (Make pieces ∷ rest) cs left_runs) (sym f) (here, behind)));
      others = part_others told size runs left_runs n old now mid p.only p.others change.others;
      read = p.read + pieces_reads size pieces;
      written = p.written + page_count size (pieces_bytes pieces);
      moved = ReadsAndWrites-then p.read (pieces_reads size pieces) (p.read + pieces_reads size pieces) p.written
          (page_count size (pieces_bytes pieces)) (p.written + page_count size (pieces_bytes pieces)) before after next p.moved moves
          (omega arith) (omega arith);
      reads = omega (arith, p.reads, reads);
      writes = omega (arith, p.writes, pages);
      still = still ∙ p.still;
      unit = moves.used.page ∙ p.unit;
    }

-- where the branches of a turn meet
pub putting_at : (told : Bool) (size : ℕ) (payload : List ℕ) (parts left : List Part) (counts left_counts counts' : List ℕ)
    (runs left_runs runs' : List Extent) (old now now' : Held) (before after after' : Meter) → counts' ≡ left_counts →
    runs' ≡ left_runs → now' ≡ now → after' ≡ after →
    IsPutting told size payload parts left counts left_counts runs left_runs old now before after →
    IsPutting told size payload parts left counts counts' runs runs' old now' before after'
putting_at told size payload parts left counts left_counts counts' runs left_runs runs' old now now' before after after' a b c d p =
    subst (λ (m : Meter). IsPutting told size payload parts left counts counts' runs runs' old now' before m) (sym d)
    (subst (λ (h : Held). IsPutting told size payload parts left counts counts' runs runs' old h before after) (sym c)
    (subst (λ (l : List Extent). IsPutting told size payload parts left counts counts' runs l old now before after) (sym b)
    (subst (λ (l : List ℕ). IsPutting told size payload parts left counts l runs left_runs old now before after) (sym a) p)))

-- what a failure at a part leaves
pub putting_failed : (told : Bool) (size : ℕ) (payload : List ℕ) (parts left rest : List Part) (pieces : List Piece) (n : ℕ)
    (counts left_counts : List ℕ) (runs left_runs : List Extent) (old now mid : Held) (before after next : Meter) →
    left ≡ Make pieces ∷ rest → IsPutting told size payload parts left counts left_counts runs left_runs old now before after →
    HasPut told after.page pieces (take n left_runs) now mid after next →
    ChangesRuns told size runs old mid × ReadsAndWrites (parts_reads size parts) (parts_pages size parts) before next
putting_failed told size payload parts left rest pieces n counts left_counts runs left_runs old now mid before after next e p put =
    let change = subst (λ (k : ℕ). HasPut told k pieces (take n left_runs) now mid after next) p.unit put in
    let moves = ReadsAndWrites-both (pieces_reads size pieces) (page_count size (pieces_bytes pieces)) after next change.moves in
    let reads = ap (parts_reads size) e in
    let pages = ap (parts_pages size) e in (
      part_others told size runs left_runs n old now mid p.only p.others change.others,
      ReadsAndWrites-then p.read (pieces_reads size pieces) (parts_reads size parts) p.written
          (page_count size (pieces_bytes pieces)) (parts_pages size parts) before after next p.moved moves
          (omega (arith, p.reads, reads)) (omega (arith, p.writes, pages)),
    )

-- all parts are written
pub putting_all : (told : Bool) (size : ℕ) (payload : List ℕ) (parts : List Part) (counts left_counts : List ℕ)
    (runs left_runs : List Extent) (old now : Held) (before after : Meter) →
    IsPutting told size payload parts [] counts left_counts runs left_runs old now before after →
    (IsTrue told → PartsStand (bytes_on now) size (bytes_on old) payload parts counts runs)
    × ReadsAndWrites (parts_reads size parts) (parts_pages size parts) before after
putting_all told size payload parts counts left_counts runs left_runs old now before after p = (
  λ t. p.stands t (bytes_on now) (λ q off. refl) tt,
  ReadsAndWrites-then p.read 0 (parts_reads size parts) p.written 0 (parts_pages size parts) before after after p.moved
      (ReadsAndWrites-none 0 0 after) (omega (arith, p.reads)) (omega (arith, p.writes)),
)
