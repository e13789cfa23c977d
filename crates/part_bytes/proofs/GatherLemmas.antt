-- The bytes of pieces gathered one after another.
use Rattle.std.proofs.Common.{◌≡◌, ℕ, ◌+◌, ◌≤◌, Bool, List, ◌∷◌, ◌++◌, length, take, sym, ap, ◌∙◌}
use Rattle.std.proofs.Common.{subst, arith}
use Rattle.std.proofs.lemmas.List.{append_assoc}
use Rattle.std.proofs.lemmas.List.Sums.{sum_by-cons}
use Rattle.std.proofs.lemmas.List.Concat.{flat_map-cons}
use Rattle.std.specs.Prelude.{IsTrue}
use Rattle.std.specs.List.{AllByRecursion}
use Rattle.fault_count.specs.Counts.{Meter, Reads}
use Rattle.fault_count.proofs.CountLaws.{Reads-then}
use Rattle.edit_parts.specs.declared.piece.Piece.{Piece}
use Rattle.edit_parts.specs.Pieces.{piece_bytes, piece_content, pieces_bytes, pieces_content}
use Rattle.span_store.specs.Held.{Held, bytes_on}
use Rattle.part_bytes.specs.Gathering.{CanGather, piece_reads, pieces_reads}

-- these pieces are left; the bytes so far and those of what is left are those of all
pub record IsGathering (told : Bool) (size : ℕ) (held : Held) (payload : List ℕ) (pieces left : List Piece) (total done : ℕ)
    (out : List ℕ) (before after : Meter) : Type 0 where
  pub long : done + pieces_bytes left ≡ total
  pub each : AllByRecursion (CanGather held size (length payload)) left
  pub bytes : IsTrue told → take done out ++ pieces_content (bytes_on held) size payload left
      ≡ pieces_content (bytes_on held) size payload pieces
  pub read : ℕ
  pub reads : Reads read before after
  pub most : read + pieces_reads size left ≤ pieces_reads size pieces
  pub still : after.faults ≡ before.faults

-- one piece more; `out` has its bytes behind those before
pub gathering_more : (told : Bool) (size : ℕ) (held : Held) (payload : List ℕ) (pieces left rest : List Piece) (piece : Piece)
    (total done count : ℕ) (out part now : List ℕ) (before after next : Meter) → left ≡ piece ∷ rest → count ≡ piece_bytes piece →
    IsGathering told size held payload pieces left total done out before after →
    (IsTrue told → part ≡ piece_content (bytes_on held) size payload piece) → take (done + count) now ≡ take done out ++ part →
    Reads (piece_reads size piece) after next → next.faults ≡ after.faults →
    IsGathering told size held payload pieces rest total (done + count) now before next
gathering_more told size held payload pieces left rest piece total done count out part now before after next e is g bytes put reads still =
    let at = bytes_on held in
    let sum : pieces_bytes left ≡ piece_bytes piece + pieces_bytes rest = ap pieces_bytes e ∙ sum_by-cons piece_bytes piece rest in
    let pages : pieces_reads size left ≡ piece_reads size piece + pieces_reads size rest =
    ap (pieces_reads size) e ∙ sum_by-cons (piece_reads size) piece rest in
    let content : pieces_content at size payload left ≡ piece_content at size payload piece ++ pieces_content at size payload rest =
    ap (pieces_content at size payload) e ∙ flat_map-cons (piece_content at size payload) piece rest in
    record {
      long = omega (arith, g.long, sum, is);
      each = (subst (AllByRecursion (CanGather held size (length payload))) e g.each).1;
      bytes = λ t. ap (λ (l : List ℕ). l ++ pieces_content at size payload rest) put
          ∙ ap (λ (l : List ℕ). (take done out ++ l) ++ pieces_content at size payload rest) (bytes t)
          ∙ append_assoc (take done out) (piece_content at size payload piece) (pieces_content at size payload rest)
          ∙ ap (λ (l : List ℕ). take done out ++ l) (sym content) ∙ g.bytes t;
      read = g.read + piece_reads size piece;
      reads = Reads-then g.read (piece_reads size piece) (g.read + piece_reads size piece) before after next g.reads reads (omega arith);
      most = omega (arith, g.most, pages);
      still = still ∙ g.still;
    }
