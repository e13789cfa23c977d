-- New parts that stand on their runs are made there, and written where the plan of a change has them.
use Rattle.std.proofs.Common.{◌≡◌, ℕ, ◌<◌, ◌≤◌, Bool, Option, List, [], ◌∷◌, ◌++◌, length, map, sum, take, drop}
use Rattle.std.proofs.Common.{refl, sym, ap, ◌∙◌, subst, arith, append_assoc}
use Rattle.std.proofs.lemmas.List.{drop_at, length-append, take_at}
use Rattle.std.proofs.lemmas.List.Concat.{flat_map-append, flat_map-cons}
use Rattle.std.proofs.lemmas.List.Sums.{sum_by-cons}
use Rattle.std.specs.List.{AllByRecursion}
use Rattle.geometry_model.specs.Numbers.{Numbers}
use Rattle.tree_model.specs.Content.{content}
use Rattle.tree_model.specs.Tree.{Pages, page_count}
use Rattle.layout_model.specs.declared.change.Change.{Change}
use Rattle.layout_model.specs.declared.extent.Extent.{Extent}
use Rattle.layout_model.specs.declared.fit.Fit.{Fit}
use Rattle.layout_model.specs.declared.fit.Fit.TheVariants.{Extend, Follow, Fresh}
use Rattle.layout_model.specs.declared.part.Part as layout
use Rattle.layout_model.specs.Layout.{Grants, Tree, plan_of, segments_on, tree_entries}
use Rattle.content_laws.specs.Spelling.{IsPacked, edited_content}
use Rattle.change_laws.proofs.PartLemmas.{all-left, all-right}
use Rattle.edit_parts.specs.declared.part.Part.{Part}
use Rattle.edit_parts.specs.declared.part.Part.TheVariants.{Keep, Make}
use Rattle.edit_parts.specs.declared.piece.Piece.{Piece}
use Rattle.edit_parts.specs.Parts.{layout_part, parts_content, pieces_of}
use Rattle.edit_parts.specs.Pieces.{piece_bytes, piece_content, pieces_bytes, pieces_content, whole_piece}
use Rattle.span_store.specs.Held.{Held}
use Rattle.part_store.specs.Asking.{rows}
use Rattle.part_bytes.specs.Parts.{CanWriteEach, PartsStand}
use Rattle.part_bytes.proofs.RunLemmas.{StandOn-content}
use Rattle.laid_content_laws.specs.Written.{AreMade, IsWritten, IsWrittenBy, behind_front}
use Rattle.written_laws.specs.Edits.{HasItsBytes, put_on}

-- the first of three rows of bytes, and those behind it
take-first : (a b c : List ℕ) (n : ℕ) → length a ≡ n → take n ((a ++ b) ++ c) ≡ a
take-first a b c n long = ap (take n) (append_assoc a b c) ∙ take_at a (b ++ c) n long

drop-first : (a b c : List ℕ) (n : ℕ) → length a ≡ n → drop n ((a ++ b) ++ c) ≡ b ++ c
drop-first a b c n long = ap (drop n) (append_assoc a b c) ∙ drop_at a (b ++ c) n long

-- pieces have as many bytes together as they say
pieces-long : (at : Pages) (size : ℕ) (payload : List ℕ) (pieces : List Piece) → AllByRecursion (HasItsBytes at size payload) pieces →
    length (pieces_content at size payload pieces) ≡ pieces_bytes pieces
pieces-long at size payload [] whole = refl
pieces-long at size payload (piece ∷ rest) whole =
    let one = whole.0 in
    let more = pieces-long at size payload rest whole.1 in
    let row = ap length (flat_map-cons (piece_content at size payload) piece rest) in
    let both = length-append (piece_content at size payload piece) (pieces_content at size payload rest) in
    let all = sum_by-cons piece_bytes piece rest in
    omega (arith, one, more, row, both, all)

pub stand-made : (told : Bool) (at now : Pages) (size given : ℕ) (payload : List ℕ) (parts : List Part) (counts : List ℕ)
    (all runs : List Extent) (more : List ℕ) (held : Held) → 0 < size →
    AllByRecursion (HasItsBytes at size payload) (pieces_of parts) → CanWriteEach told held size given all parts counts runs →
    PartsStand now size at payload parts counts runs →
    AreMade now size (map layout_part parts) (rows counts runs) (parts_content at size payload parts ++ more)
stand-made told at now size given payload [] counts all runs more held some whole can stands = tt
stand-made told at now size given payload (Keep p ∷ parts) counts all runs more held some whole can stands =
    let here = piece_content at size payload (whole_piece p) in
    let rest = parts_content at size payload parts in
    let both : parts_content at size payload (Keep p ∷ parts) ≡ here ++ rest =
    flat_map-cons (piece_content at size payload) (whole_piece p) (pieces_of parts) in
    subst (λ (b : List ℕ). AreMade now size (map layout_part (Keep p ∷ parts)) (rows counts runs) (b ++ more)) (sym both)
    (subst (AreMade now size (map layout_part parts) (rows counts runs)) (sym (drop-first here rest more p.bytes whole.0))
    (stand-made told at now size given payload parts counts all runs more held some whole.1 can stands))
stand-made told at now size given payload (Make pieces ∷ parts) [] all runs more held some whole can stands = absurd can
stand-made told at now size given payload (Make pieces ∷ parts) (n ∷ counts) all runs more held some whole can stands =
    let here = pieces_content at size payload pieces in
    let rest = parts_content at size payload parts in
    let own = take n runs in
    let count = pieces_bytes pieces in
    let long : length here ≡ count = pieces-long at size payload pieces
    (all-left (HasItsBytes at size payload) pieces (pieces_of parts) whole) in
    let both : parts_content at size payload (Make pieces ∷ parts) ≡ here ++ rest =
    flat_map-append (piece_content at size payload) pieces (pieces_of parts) in
    let room : page_count size (length here) ≤ sum (map (λ (run : Extent). run.pages) own) =
    subst (λ (k : ℕ). page_count size k ≤ sum (map (λ (run : Extent). run.pages) own)) (sym long) can.1.enough in
    let first : content now size (segments_on size count own) ≡ here =
    subst (λ (k : ℕ). content now size (segments_on size k own) ≡ here) long (StandOn-content now size own here some room stands.0) in
    let behind = stand-made told at now size given payload parts counts all (drop n runs) more held some
    (all-right (HasItsBytes at size payload) pieces (pieces_of parts) whole) can.3 stands.1 in
    subst (λ (b : List ℕ). AreMade now size (map layout_part (Make pieces ∷ parts)) (rows (n ∷ counts) runs) (b ++ more)) (sym both) (
      first ∙ sym (take-first here rest more count long),
      subst (AreMade now size (map layout_part parts) (rows counts (drop n runs))) (sym (drop-first here rest more count long)) behind,
    )

pub stand-written : (n : Numbers) (told : Bool) (at now : Pages) (tree : Tree) (spare : Option Extent) (change : Change)
    (payload : List ℕ) (given : ℕ) (parts : List Part) (counts : List ℕ) (all runs : List Extent) (grants : Grants) (more : List ℕ)
    (held : Held) → 0 < n.page → IsPacked (plan_of n tree spare change).fit →
    map layout_part parts ≡ (plan_of n tree spare change).parts →
    parts_content at n.page payload parts ++ more
    ≡ behind_front (tree_entries tree) (plan_of n tree spare change) (edited_content at n.page (tree_entries tree) change payload) →
    rows counts runs ≡ put_on (plan_of n tree spare change).fit spare grants.runs →
    AllByRecursion (HasItsBytes at n.page payload) (pieces_of parts) → CanWriteEach told held n.page given all parts counts runs →
    PartsStand now n.page at payload parts counts runs →
    IsWritten n at now tree spare change grants payload
stand-written n told at now tree spare change payload given parts counts all runs grants more held some packed same spells put whole can
    stands =
    let plan = plan_of n tree spare change in
    let size = n.page in
    let entries = tree_entries tree in
    let bytes = behind_front entries plan (edited_content at size entries change payload) in
    let made : AreMade now size plan.parts (rows counts runs) bytes =
    subst (λ (ps : List layout.Part). AreMade now size ps (rows counts runs) bytes) same
    (subst (AreMade now size (map layout_part parts) (rows counts runs)) spells
    (stand-made told at now size given payload parts counts all runs more held some whole can stands)) in
    by_fit plan.fit packed put made
  where
    by_fit : (fit : Fit) → IsPacked fit → rows counts runs ≡ put_on fit spare grants.runs →
        AreMade now n.page (plan_of n tree spare change).parts (rows counts runs)
        (behind_front (tree_entries tree) (plan_of n tree spare change)
        (edited_content at n.page (tree_entries tree) change payload)) →
        IsWrittenBy fit n at now (tree_entries tree) spare change (plan_of n tree spare change) grants.runs payload
    by_fit Extend packed put made = absurd packed
    by_fit Fresh packed put made =
        subst (λ (rs : List (List Extent)). AreMade now n.page (plan_of n tree spare change).parts rs
        (behind_front (tree_entries tree) (plan_of n tree spare change)
        (edited_content at n.page (tree_entries tree) change payload))) put made
    by_fit Follow packed put made =
        subst (λ (rs : List (List Extent)). AreMade now n.page (plan_of n tree spare change).parts rs
        (behind_front (tree_entries tree) (plan_of n tree spare change)
        (edited_content at n.page (tree_entries tree) change payload))) put made
