-- The old bytes of new parts: they are held, on pages of no new run, and all of them are there.
use Rattle.std.proofs.Common.{inl, inr, ◌≡◌, ℕ, ◌+◌, ◌-◌, ◌*◌, ◌<◌, ◌≤◌, min, Bool, false, List, [], ◌∷◌, length, drop}
use Rattle.std.proofs.Common.{subst, arith, length-take, length-drop}
use Rattle.std.proofs.lemmas.Bool.{cases_lt, false≢true}
use Rattle.std.specs.Prelude.{IsTrue}
use Rattle.std.specs.List.{AllByRecursion}
use Rattle.geometry_model.specs.Numbers.{Numbers, IsInRange}
use Rattle.geometry_model.proofs.NumberLaws.{page-some}
use Rattle.tree_model.specs.declared.entry.Pair.{Pair}
use Rattle.tree_model.specs.Content.{run_bytes, segment_bytes}
use Rattle.tree_model.specs.Tree.{page_count}
use Rattle.tree_model.proofs.PageCountLaws.{count-behind, count-holds, count-rises}
use Rattle.layout_model.specs.declared.extent.Extent.{Extent}
use Rattle.moment_model.specs.Version.{uses}
use Rattle.edit_parts.specs.declared.piece.Piece.{Piece}
use Rattle.edit_parts.specs.declared.piece.Piece.TheVariants.{Old, Given}
use Rattle.edit_parts.specs.Pieces.{IsFrom, LiesIn, LiesInOne}
use Rattle.edit_plan.specs.Planned.{IsEntry}
use Rattle.edit_plan.proofs.EntryLemmas.{entry-few}
use Rattle.span_store.specs.Held.{AllSized, Held, bytes_on, has}
use Rattle.seg_bytes.specs.Segments.{HoldsBytes}
use Rattle.seg_bytes.proofs.Runs.{AreFull-held, length-run_bytes}
use Rattle.part_bytes.specs.Gathering.{AreHeld, CanGather}
use Rattle.part_bytes.specs.Parts.{IsApart}
use Rattle.written_laws.specs.Edits.{HasItsBytes}

-- ---- bytes of entries

-- bytes in an entry whose pages are held
gather-in : (n : Numbers) (now : Held) (p : Pair) (page skip bytes : ℕ) → IsInRange n → IsEntry n p →
    HoldsBytes now n.page p.page p.bytes → LiesIn n.page p page skip bytes → AreHeld now n.page page skip bytes
gather-in n now p page skip bytes range entry held lies =
    let size = n.page in
    let d = page - p.page in
    let first = lies.first in
    let last = lies.last in
    let some = page-some n range in
    let few = entry-few n p range entry in
    let behind = count-behind size d (skip + bytes) some in
    let rises = count-rises size (d * size + (skip + bytes)) p.bytes some last in
    record {
      pages = λ q from to. held q (omega (arith, first, from)) (omega (arith, first, to, behind, rises));
      fits = omega (arith, last, few);
    }

gather-one : (n : Numbers) (now : Held) (entries : List Pair) (page skip bytes : ℕ) → IsInRange n → AllByRecursion (IsEntry n) entries →
    AllByRecursion (λ p. HoldsBytes now n.page p.page p.bytes) entries → LiesInOne n.page entries page skip bytes →
    AreHeld now n.page page skip bytes
gather-one n now [] page skip bytes range stored held lies = absurd lies
gather-one n now (p ∷ ps) page skip bytes range stored held lies =
    elim lies [
      | inl here ↦ gather-in n now p page skip bytes range stored.0 held.0 here
      | inr behind ↦ gather-one n now ps page skip bytes range stored.1 held.1 behind
    ]

pub entries-gather : (n : Numbers) (given : ℕ) (entries : List Pair) (pieces : List Piece) (now : Held) → IsInRange n →
    AllByRecursion (IsEntry n) entries → AllByRecursion (λ p. HoldsBytes now n.page p.page p.bytes) entries →
    AllByRecursion (IsFrom n.page entries given) pieces → AllByRecursion (CanGather now n.page given) pieces
entries-gather n given entries [] now range stored held from = tt
entries-gather n given entries (Old page skip bytes ∷ rest) now range stored held from =
    (gather-one n now entries page skip bytes range stored held from.0, entries-gather n given entries rest now range stored held from.1)
entries-gather n given entries (Given first bytes ∷ rest) now range stored held from =
    (from.0, entries-gather n given entries rest now range stored held from.1)

-- ---- runs of other pages

pub runs-apart : (size given : ℕ) (pieces : List Piece) (runs : List Extent) (old now : Held) →
    AllByRecursion (CanGather old size given) pieces → ((q : ℕ) → 0 < uses q runs → has old q ≡ false) →
    ((q : ℕ) → IsTrue (has old q) → IsTrue (has now q)) →
    AllByRecursion (IsApart size runs) pieces × AllByRecursion (CanGather now size given) pieces
runs-apart size given [] runs old now can new kept = (tt, tt)
runs-apart size given (Old page skip bytes ∷ rest) runs old now can new kept =
    let more = runs-apart size given rest runs old now can.1 new kept in
    let apart : IsApart size runs (Old page skip bytes) = λ q from to.
    (elim (cases_lt 0 (uses q runs)) [
      | inl some ↦ absurd (false≢true (subst IsTrue (new q some) (can.0.pages q from to)))
      | inr none ↦ let few : uses q runs ≤ 0 = none in omega (arith, few)
    ]) in
    let held : CanGather now size given (Old page skip bytes) = record {
      pages = λ q from to. kept q (can.0.pages q from to);
      fits = can.0.fits;
    } in
    ((apart, more.0), (held, more.1))
runs-apart size given (Given first bytes ∷ rest) runs old now can new kept =
    let more = runs-apart size given rest runs old now can.1 new kept in
    ((tt, more.0), (can.0, more.1))

-- ---- bytes that are there

pub held-whole : (told : Bool) (size : ℕ) (payload : List ℕ) (pieces : List Piece) (now : Held) → IsTrue told → 0 < size →
    AllSized told size now → AllByRecursion (CanGather now size (length payload)) pieces →
    AllByRecursion (HasItsBytes (bytes_on now) size payload) pieces
held-whole told size payload [] now is_told some sized can = tt
held-whole told size payload (Old page skip bytes ∷ rest) now is_told some sized can =
    let all = skip + bytes in
    let count = page_count size all in
    let run = run_bytes (bytes_on now) page count in
    let segment = segment_bytes (bytes_on now) size (record { bytes = all; page = page }) in
    let long = length-run_bytes (bytes_on now) size page count (AreFull-held told size page count now sized is_told can.0.pages) in
    let cut : length segment ≡ min all (length run) = length-take all run in
    let left = length-drop skip segment in
    let holds = count-holds size all some in
    let here : HasItsBytes (bytes_on now) size payload (Old page skip bytes) = omega (arith, long, cut, left, holds) in
    (here, held-whole told size payload rest now is_told some sized can.1)
held-whole told size payload (Given first bytes ∷ rest) now is_told some sized can =
    let cut = length-take bytes (drop first payload) in
    let left = length-drop first payload in
    let within : first + bytes ≤ length payload = can.0 in
    let here : HasItsBytes (bytes_on now) size payload (Given first bytes) = omega (arith, cut, left, within) in
    (here, held-whole told size payload rest now is_told some sized can.1)
