-- The bytes of the two sides of a change: what is kept before its place, and what is kept behind it with the head.
use Rattle.std.proofs.Common.{◌≡◌, ℕ, ◌+◌, ◌-◌, ◌*◌, ◌/◌, ◌%◌, ◌<◌, ◌≤◌, min, List, [], ◌∷◌}
use Rattle.std.proofs.Common.{◌++◌, length, take, drop, sym, ap, arith, ◌∙◌, inl, inr, append_assoc}
use Rattle.std.proofs.Common.{length-drop, nat_lt}
use Rattle.std.specs.List.{AllByRecursion}
use Rattle.std.proofs.lemmas.Bool.{cases_Bool, ltb-true, ltb-false}
use Rattle.std.proofs.lemmas.Nat.{div-add-mod'}
use Rattle.std.proofs.lemmas.List.{append-nil, drop-append-le, drop-drop, drop-take, drop_all, drop_at}
use Rattle.std.proofs.lemmas.List.{take-append-drop, take-append-le, take-take, take_all, take_at}
use Rattle.std.proofs.lemmas.List.Concat.{flat_map-append}
use Rattle.std.proofs.lemmas.List.Sums.{sum_by-cons}
use Rattle.tree_model.specs.declared.entry.Pair.{Pair}
use Rattle.tree_model.specs.Content.{content, segment_bytes}
use Rattle.tree_model.specs.Tree.{Pages, bytes_of, page_count}
use Rattle.tree_model.proofs.PageCountLaws.{count-holds}
use Rattle.layout_model.specs.Parts.{count_begun, count_ended, left_of, one_after, one_before, right_of, without_pages}
use Rattle.content_laws.specs.Spelling.{HaveBytes, IsThere}
use Rattle.content_laws.proofs.SideLemmas.{back, back-before, back-behind, back-inside, back-is, front, front-before}
use Rattle.content_laws.proofs.SideLemmas.{front-behind, front-inside, front-is, lies}
use Rattle.content_laws.proofs.SideLemmas.Lies.{Behind, Before, Inside}
use Rattle.content_laws.proofs.SpellingLemmas.{segment-left, segment-length, segment-right}
use Rattle.edit_parts.specs.declared.piece.Piece.{Piece}
use Rattle.edit_parts.specs.Pieces.{piece_content}
use Rattle.edit_plan.specs.Spots.{head_in, head_piece}
use Rattle.edit_plan.proofs.CutLemmas.{IsHeld, old-content}
use Rattle.edit_plan.proofs.SpotLemmas.{head_in-lies, head_piece-before, head_piece-behind, head_piece-inside}

-- ---- before the place

pub front-content : (at : Pages) (size a : ℕ) (entries : List Pair) → 0 < size →
    AllByRecursion (IsThere at size) entries → a ≤ bytes_of entries →
    content at size (front a entries) ≡ take a (content at size entries)
front-content at size a [] some there within =
    let none : a ≤ 0 = within in
    let reach : 0 ≤ a = omega arith in
    sym (take_all a [] reach)
front-content at size a (p ∷ ps) some there within =
    let seg = segment_bytes at size p in
    let more = content at size ps in
    let count = segment-length at size p some there.0 in
    elim (lies a p) [
      | Behind h le ↦
          let rest = a - p.bytes in
          let split : p.bytes + rest ≡ a = omega (arith, le) in
          let all = sum_by-cons (λ (q : Pair). q.bytes) p ps in
          let step = front-content at size rest ps some there.1 (omega (arith, all, within, le)) in
          ap (content at size) (front-behind a p ps h)
          ∙ (ap (λ (xs : List ℕ). seg ++ xs) step
          ∙ (sym (take-joined p.bytes rest seg more count) ∙ ap (λ (k : ℕ). take k (seg ++ more)) split))
      | Before h k none byte ↦
          ap (content at size) (front-before a p ps h k) ∙ ap (λ (j : ℕ). take j (seg ++ more)) (sym none)
      | Inside h k byte less ↦
          let within_p : a ≤ p.bytes = omega (arith, less) in
          let long : a ≤ length seg = omega (arith, count, less) in
          ap (content at size) (front-inside a p ps h k)
          ∙ (append-nil (segment_bytes at size (record { bytes = a; page = p.page }))
          ∙ (segment-left at size p a some within_p there.0 ∙ sym (take-append-le a seg more long)))
    ]
  where
    take-joined : (b rest : ℕ) (xs ys : List ℕ) → length xs ≡ b → take (b + rest) (xs ++ ys) ≡ xs ++ take rest ys
    take-joined b rest xs ys long =
        sym (take-append-drop b (take (b + rest) (xs ++ ys)))
        ∙ (ap (λ (zs : List ℕ). zs ++ drop b (take (b + rest) (xs ++ ys)))
        (take-take b (b + rest) (xs ++ ys) (omega arith) ∙ take_at xs ys b long)
        ∙ ap (λ (zs : List ℕ). xs ++ zs) (drop-take b rest (xs ++ ys) ∙ ap (take rest) (drop_at xs ys b long)))

-- where just one entry ends before the place, what is kept is all before it
pub tight-front : (a : ℕ) (entries : List Pair) → count_ended a entries ≤ 1 → one_before a entries ++ left_of a entries ≡ front a entries
tight-front a entries few =
    let k = count_ended a entries in
    let none : k - 1 ≡ 0 = omega (arith, few) in
    ap (λ (j : ℕ). drop j (take k entries) ++ left_of a entries) none ∙ sym (front-is a entries)

-- ---- behind it

-- the head of an entry and what is kept behind it are its bytes from the place on
inside-content : (at : Pages) (size e : ℕ) (payload : List ℕ) (p : Pair) → 0 < size → IsThere at size p → 0 < e → e < p.bytes →
    piece_content at size payload (head_in size e p) ++ content at size (without_pages size (page_count size e) p)
    ≡ drop e (segment_bytes at size p)
inside-content at size e payload p some there byte less =
    let pages = page_count size e in
    let h = min (pages * size) p.bytes - e in
    let seg = segment_bytes at size p in
    let count = segment-length at size p some there in
    let holds = count-holds size e some in
    let held : IsHeld at size p (p.page + e / size) (e % size) h = record { lies = head_in-lies size e p some less; there = there } in
    let moved : p.page + e / size - p.page ≡ e / size = omega arith in
    let rows : (p.page + e / size - p.page) * size ≡ e / size * size = ap (λ (j : ℕ). j * size) moved in
    let whole = div-add-mod' e size in
    let place : (p.page + e / size - p.page) * size + e % size ≡ e = omega (arith, rows, whole) in
    let head : piece_content at size payload (head_in size e p) ≡ take h (drop e seg) =
    old-content at size payload p (p.page + e / size) (e % size) h some held ∙ ap (λ (j : ℕ). take h (drop j seg)) place in
    let rest : content at size (without_pages size pages p) ≡ drop h (drop e seg) =
    elim (cases_Bool (nat_lt (pages * size) p.bytes)) [
      | inl left ↦
          let short = ltb-true (pages * size) p.bytes left in
          let cut : without_pages size pages p ≡ record { bytes = p.bytes - pages * size; page = p.page + pages } ∷ [] =
          rw (left, without_pages) in
          let border : pages * size ≡ e + h = omega (arith, short, holds, less) in
          ap (content at size) cut
          ∙ (append-nil (segment_bytes at size (record { bytes = p.bytes - pages * size; page = p.page + pages }))
          ∙ (segment-right at size p pages some (omega (arith, short)) there
          ∙ (ap (λ (j : ℕ). drop j seg) border ∙ sym (drop-drop h e seg))))
      | inr none ↦
          let full = ltb-false (pages * size) p.bytes none in
          let cut : without_pages size pages p ≡ [] = rw (none, without_pages) in
          let behind = length-drop e seg in
          let few : length (drop e seg) ≤ h = omega (arith, behind, count, full, less) in
          ap (content at size) cut ∙ sym (drop_all h (drop e seg) few)
    ] in
    ap (λ (xs : List ℕ). xs ++ content at size (without_pages size pages p)) head
    ∙ (ap (λ (xs : List ℕ). take h (drop e seg) ++ xs) rest ∙ take-append-drop h (drop e seg))

pub back-content : (at : Pages) (size e : ℕ) (payload : List ℕ) (entries : List Pair) → 0 < size →
    AllByRecursion (IsThere at size) entries → e ≤ bytes_of entries →
    piece_content at size payload (head_piece size e entries) ++ content at size (back size e entries) ≡ drop e (content at size entries)
back-content at size e payload [] some there within =
    let reach : 0 ≤ e = omega arith in
    sym (drop_all e [] reach)
back-content at size e payload (p ∷ ps) some there within =
    let seg = segment_bytes at size p in
    let more = content at size ps in
    let count = segment-length at size p some there.0 in
    elim (lies e p) [
      | Behind h le ↦
          let rest = e - p.bytes in
          let split : p.bytes + rest ≡ e = omega (arith, le) in
          let all = sum_by-cons (λ (q : Pair). q.bytes) p ps in
          let step = back-content at size rest payload ps some there.1 (omega (arith, all, within, le)) in
          ap (λ (piece : Piece). piece_content at size payload piece ++ content at size (back size e (p ∷ ps)))
          (head_piece-behind size e p ps h)
          ∙ (ap (λ (xs : List Pair). piece_content at size payload (head_piece size rest ps) ++ content at size xs)
          (back-behind size e p ps h)
          ∙ (step
          ∙ (ap (drop rest) (sym (drop_at seg more p.bytes count))
          ∙ (drop-drop rest p.bytes (seg ++ more) ∙ ap (λ (j : ℕ). drop j (seg ++ more)) split))))
      | Before h k none byte ↦
          ap (λ (piece : Piece). piece_content at size payload piece ++ content at size (back size e (p ∷ ps)))
          (head_piece-before size e p ps h k)
          ∙ (ap (content at size) (back-before size e p ps h k) ∙ ap (λ (j : ℕ). drop j (seg ++ more)) (sym none))
      | Inside h k byte less ↦
          let long : e ≤ length seg = omega (arith, count, less) in
          let cut = without_pages size (page_count size e) p in
          let head = piece_content at size payload (head_in size e p) in
          ap (λ (piece : Piece). piece_content at size payload piece ++ content at size (back size e (p ∷ ps)))
          (head_piece-inside size e p ps h k)
          ∙ (ap (λ (xs : List Pair). head ++ content at size xs) (back-inside size e p ps h k)
          ∙ (ap (λ (xs : List ℕ). head ++ xs) (flat_map-append (segment_bytes at size) cut ps)
          ∙ (sym (append_assoc head (content at size cut) more)
          ∙ (ap (λ (xs : List ℕ). xs ++ more) (inside-content at size e payload p some there.0 byte less)
          ∙ sym (drop-append-le e seg more long)))))
    ]

-- where no more than one entry begins behind the place, what is kept is all behind it
pub tight-back : (size e : ℕ) (entries : List Pair) → HaveBytes entries → length entries ≤ count_begun e entries + 1 →
    right_of size e entries ++ one_after e entries ≡ back size e entries
tight-back size e entries have few =
    let j = count_begun e entries in
    let long = length-drop j entries in
    let one : length (drop j entries) ≤ 1 = omega (arith, long, few) in
    ap (λ (xs : List Pair). right_of size e entries ++ xs) (take_all 1 (drop j entries) one) ∙ sym (back-is size e entries have)
