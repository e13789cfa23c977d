-- The parts of a plan as a whole: what they are, what they hold, and where it comes from.
use Rattle.std.proofs.Common.{◌≡◌, ℕ, zero, suc, ◌+◌, ◌-◌, ◌*◌, ◌/◌, ◌%◌, ◌<◌, ◌≤◌, min, false, List, [], ◌∷◌}
use Rattle.std.proofs.Common.{◌++◌, length, map, take, drop, refl, sym, ap, subst, arith, ◌∙◌, inl, inr}
use Rattle.std.proofs.Common.{append_assoc, nat_eq, nat_lt, replicate, sum}
use Rattle.std.specs.Prelude.{if◌then◌else◌}
use Rattle.std.specs.List.{AllByRecursion}
use Rattle.std.proofs.lemmas.Bool.{cases_Bool, ltb-true, ne_eqb}
use Rattle.std.proofs.lemmas.Nat.{div-add-mod', div-mul-add, mod-mul-add, mod_below}
use Rattle.std.proofs.lemmas.List.{append-nil, map-append, take_all}
use Rattle.std.proofs.lemmas.List.Concat.{flat_map-append}
use Rattle.std.proofs.lemmas.List.Elements.{All-drop, All-from_recursion, All-take, recursion_from_All}
use Rattle.std.proofs.lemmas.List.Sums.{sum_by-cons}
use Rattle.std.proofs.Math.Nat.{mul-le-mul_right}
use Rattle.geometry_model.specs.Numbers.{Numbers, IsInRange, space_pages}
use Rattle.geometry_model.proofs.NumberLaws.{page-some}
use Rattle.base_laws.proofs.ListLaws.{all-append}
use Rattle.tree_model.specs.declared.entry.Pair.{Pair}
use Rattle.tree_model.specs.declared.entry.Placed.{Placed}
use Rattle.tree_model.specs.Range.{pairs_of, start_of}
use Rattle.tree_model.proofs.PageCountLaws.{count-holds}
use Rattle.tree_model.specs.Content.{content}
use Rattle.tree_model.specs.Tree.{Pages, bytes_of, page_count}
use Rattle.layout_model.specs.declared.extent.Extent.{Extent}
use Rattle.layout_model.specs.declared.part.Part as layout
use Rattle.layout_model.specs.Layout.{segments_on}
use Rattle.layout_model.specs.Parts.{count_begun, count_ended, head_of, left_of, one_after, one_before, part_bytes}
use Rattle.layout_model.specs.Parts.{parts_of, pieces, right_of, without_pages}
use Rattle.content_laws.specs.Spelling.{HaveBytes, IsThere}
use Rattle.content_laws.proofs.SideLemmas.{back, front, left-behind, left-before, left-inside, lies, right-behind}
use Rattle.content_laws.proofs.SideLemmas.{right-before, right-inside}
use Rattle.content_laws.proofs.SideLemmas.Lies.{Behind, Before, Inside}
use Rattle.content_laws.proofs.SpellingLemmas.{pieces-total}
use Rattle.window_laws.specs.Searches.{end_of}
use Rattle.edit_parts.specs.declared.part.Part.{Part}
use Rattle.edit_parts.specs.declared.part.Part.TheVariants.{Keep, Make}
use Rattle.edit_parts.specs.declared.piece.Piece.{Piece}
use Rattle.edit_parts.specs.declared.piece.Piece.TheVariants.{Given}
use Rattle.edit_parts.specs.Pieces.{IsFrom, LiesIn, LiesInOne, piece_bytes, piece_content, pieces_bytes, pieces_content}
use Rattle.edit_parts.specs.Parts.{layout_part, parts_content, pieces_in, pieces_of}
use Rattle.edit_parts.proofs.PartLemmas.{pieces-part}
use Rattle.edit_plan.specs.Cuts.{lengths_on, made_on, stretch_of, stretches}
use Rattle.edit_plan.specs.Spots.{head_piece}
use Rattle.edit_plan.specs.Planned.{IsCut, IsEntry, IsPlan}
use Rattle.edit_plan.proofs.CutLemmas.{AreThere, kept-content, lengths-runs, lengths-total}
use Rattle.edit_plan.proofs.CutLemmas.{made-layout_part, made-content, made-from, pieces-length, stretches-bytes}
use Rattle.edit_plan.proofs.CutLemmas.{stretches-content, total}
use Rattle.edit_plan.proofs.SideContents.{back-content, front-content, tight-back, tight-front}
use Rattle.edit_plan.proofs.SpotLemmas.{head-bytes, head-from}

-- the new bytes and the head behind them
abbrev pub fresh : ℕ → Piece → List Piece
fresh given head = Given 0 given ∷ head ∷ []

-- all parts of a plan
abbrev pub all_of : ℕ → ℕ → List Pair → ℕ → ℕ → ℕ → List Part
all_of size most entries a cut given =
    let head = head_piece size (a + cut) entries in
    map Keep (one_before a entries ++ left_of a entries)
    ++ (map Make (stretches size 0 (pieces most (given + piece_bytes head)) (fresh given head))
    ++ map Keep (right_of size (a + cut) entries ++ one_after (a + cut) entries))

-- ---- what they are

layout_part-kept : (pairs : List Pair) → map layout_part (map Keep pairs) ≡ map layout.TheVariants.Keep pairs
layout_part-kept [] = refl
layout_part-kept (p ∷ ps) = ap (λ (xs : List layout.Part). layout.TheVariants.Keep p ∷ xs) (layout_part-kept ps)

fresh-bytes : (given : ℕ) (head : Piece) → pieces_bytes (fresh given head) ≡ given + piece_bytes head
fresh-bytes given head =
    let one = sum_by-cons piece_bytes (Given 0 given) (head ∷ []) in
    let two = sum_by-cons piece_bytes head [] in
    omega (arith, one, two)

made-bytes : (size most given : ℕ) (head : Piece) →
    map pieces_bytes (stretches size 0 (pieces most (given + piece_bytes head)) (fresh given head)) ≡ pieces most (given + piece_bytes head)
made-bytes size most given head =
    let all = fresh-bytes given head in
    let sum = pieces-total most (given + piece_bytes head) in
    stretches-bytes size 0 (pieces most (given + piece_bytes head)) (fresh given head) (omega (arith, all, sum))

pub all-layout_part : (size most : ℕ) (entries : List Pair) (a cut given : ℕ) → 0 < size →
    map layout_part (all_of size most entries a cut given) ≡ parts_of size most entries a cut given
all-layout_part size most entries a cut given some =
    let head = head_piece size (a + cut) entries in
    let made = map Make (stretches size 0 (pieces most (given + piece_bytes head)) (fresh given head)) in
    let before = one_before a entries ++ left_of a entries in
    let behind = right_of size (a + cut) entries ++ one_after (a + cut) entries in
    map-append layout_part (map Keep before) (made ++ map Keep behind)
    ∙ (ap (λ (xs : List layout.Part). xs ++ map layout_part (made ++ map Keep behind)) (layout_part-kept before)
    ∙ ap (λ (xs : List layout.Part). map layout.TheVariants.Keep before ++ xs)
    (map-append layout_part made (map Keep behind)
    ∙ (ap (λ (xs : List layout.Part). xs ++ map layout_part (map Keep behind))
    (made-layout_part (stretches size 0 (pieces most (given + piece_bytes head)) (fresh given head))
    ∙ (ap (map layout.TheVariants.Make) (made-bytes size most given head)
    ∙ ap (λ (b : ℕ). map layout.TheVariants.Make (pieces most (given + b))) (head-bytes size (a + cut) entries some)))
    ∙ ap (λ (xs : List layout.Part). map layout.TheVariants.Make (pieces most (given + head_of size (a + cut) entries))
    ++ xs) (layout_part-kept behind))))

-- ---- where their bytes come from

-- a kept pair lies in one of these entries
abbrev IsWithin : ℕ → List Pair → Pair → Type 0
IsWithin size entries p = LiesInOne size entries p.page 0 p.bytes

within-self : (size : ℕ) (p : Pair) → 0 < size → LiesIn size p p.page 0 p.bytes
within-self size p some =
    let none : p.page - p.page ≡ 0 = omega arith in
    let rows : (p.page - p.page) * size ≡ 0 * size = ap (λ (j : ℕ). j * size) none in
    record { start = some; first = omega arith; last = omega (arith, rows) }

within-behind : (size : ℕ) (p : Pair) (ps pairs : List Pair) → AllByRecursion (IsWithin size ps) pairs →
    AllByRecursion (IsWithin size (p ∷ ps)) pairs
within-behind size p ps [] each = tt
within-behind size p ps (q ∷ qs) each = (inr each.0, within-behind size p ps qs each.1)

within-all : (size : ℕ) (entries : List Pair) → 0 < size → AllByRecursion (IsWithin size entries) entries
within-all size [] some = tt
within-all size (p ∷ ps) some = (inl (within-self size p some), within-behind size p ps ps (within-all size ps some))

-- and so do those of the first, and those behind them
all-take : (P : Pair → Type 0) (k : ℕ) (xs : List Pair) → AllByRecursion P xs → AllByRecursion P (take k xs)
all-take P k xs all = recursion_from_All P (take k xs) (All-take P k xs (All-from_recursion P xs all))

all-drop : (P : Pair → Type 0) (k : ℕ) (xs : List Pair) → AllByRecursion P xs → AllByRecursion P (drop k xs)
all-drop P k xs all = recursion_from_All P (drop k xs) (All-drop P k xs (All-from_recursion P xs all))

left-within : (size a : ℕ) (entries : List Pair) → 0 < size → AllByRecursion (IsWithin size entries) (left_of a entries)
left-within size a [] some = tt
left-within size a (p ∷ ps) some =
    let P : List Pair → Type 0 = AllByRecursion (IsWithin size (p ∷ ps)) in
    elim (lies a p) [
      | Behind h le ↦ subst P (sym (left-behind a p ps h))
          (within-behind size p ps (left_of (a - p.bytes) ps) (left-within size (a - p.bytes) ps some))
      | Before h k none byte ↦ subst P (sym (left-before a p ps h k)) tt
      | Inside h k byte less ↦
          let none : p.page - p.page ≡ 0 = omega arith in
          let rows : (p.page - p.page) * size ≡ 0 * size = ap (λ (j : ℕ). j * size) none in
          let lies_in : LiesIn size p p.page 0 a = record { start = some; first = omega arith; last = omega (arith, rows, less) } in
          subst P (sym (left-inside a p ps h k)) (inl lies_in, tt)
    ]

cut-within : (size pages : ℕ) (p : Pair) (ps : List Pair) → 0 < size → AllByRecursion (IsWithin size (p ∷ ps)) (without_pages size pages p)
cut-within size pages p ps some =
    let P : List Pair → Type 0 = AllByRecursion (IsWithin size (p ∷ ps)) in
    elim (cases_Bool (nat_lt (pages * size) p.bytes)) [
      | inl left ↦
          let short = ltb-true (pages * size) p.bytes left in
          let cut : without_pages size pages p ≡ record { bytes = p.bytes - pages * size; page = p.page + pages } ∷ [] =
          rw (left, without_pages) in
          let moved : p.page + pages - p.page ≡ pages = omega arith in
          let rows : (p.page + pages - p.page) * size ≡ pages * size = ap (λ (j : ℕ). j * size) moved in
          let lies_in : LiesIn size p (p.page + pages) 0 (p.bytes - pages * size) =
          record { start = some; first = omega arith; last = omega (arith, rows, short) } in
          subst P (sym cut) (inl lies_in, tt)
      | inr none ↦ let cut : without_pages size pages p ≡ [] = rw (none, without_pages) in subst P (sym cut) tt
    ]

right-within : (size e : ℕ) (entries : List Pair) → 0 < size → AllByRecursion (IsWithin size entries) (right_of size e entries)
right-within size e [] some = tt
right-within size e (p ∷ ps) some =
    let P : List Pair → Type 0 = AllByRecursion (IsWithin size (p ∷ ps)) in
    elim (lies e p) [
      | Behind h le ↦ subst P (sym (right-behind size e p ps h))
          (within-behind size p ps (right_of size (e - p.bytes) ps) (right-within size (e - p.bytes) ps some))
      | Before h k none byte ↦ subst P (sym (right-before size e p ps h k)) tt
      | Inside h k byte less ↦ subst P (sym (right-inside size e p ps h k)) (cut-within size (page_count size e) p ps some)
    ]

kept-from : (size : ℕ) (entries : List Pair) (given : ℕ) (pairs : List Pair) → AllByRecursion (IsWithin size entries) pairs →
    AllByRecursion (IsFrom size entries given) (pieces_of (map Keep pairs))
kept-from size entries given [] each = tt
kept-from size entries given (p ∷ ps) each = (each.0, kept-from size entries given ps each.1)

fresh-from : (size : ℕ) (entries : List Pair) (given e : ℕ) → 0 < size →
    AllByRecursion (IsFrom size entries given) (fresh given (head_piece size e entries))
fresh-from size entries given e some = let all : 0 + given ≤ given = omega arith in (all, (head-from size given e entries some, tt))

pub all-from : (size most : ℕ) (entries : List Pair) (a cut given : ℕ) → 0 < size →
    AllByRecursion (IsFrom size entries given) (pieces_of (all_of size most entries a cut given))
all-from size most entries a cut given some =
    let P : Pair → Type 0 = IsWithin size entries in
    let e = a + cut in
    let head = head_piece size e entries in
    let cuts = stretches size 0 (pieces most (given + piece_bytes head)) (fresh given head) in
    let each = within-all size entries some in
    let before = one_before a entries ++ left_of a entries in
    let behind = right_of size e entries ++ one_after e entries in
    let Q : List Piece → Type 0 = AllByRecursion (IsFrom size entries given) in
    let first : Q (pieces_of (map Keep before)) = kept-from size entries given before
    (all-append P (one_before a entries) (left_of a entries)
    (all-drop P (count_ended a entries - 1) (take (count_ended a entries) entries)
    (all-take P (count_ended a entries) entries each)) (left-within size a entries some)) in
    let middle : Q (pieces_of (map Make cuts)) =
    made-from size entries given 0 (pieces most (given + piece_bytes head))
    (fresh given head) some (fresh-from size entries given e some) in
    let last : Q (pieces_of (map Keep behind)) = kept-from size entries given behind
    (all-append P (right_of size e entries) (one_after e entries)
    (right-within size e entries some) (all-take P 1 (drop (count_begun e entries) entries)
    (all-drop P (count_begun e entries) entries each))) in
    subst Q (sym (flat_map-append pieces_in (map Keep before) (map Make cuts ++ map Keep behind)))
    (all-append (IsFrom size entries given) (pieces_of (map Keep before)) (pieces_of (map Make cuts ++ map Keep behind)) first
    (subst Q (sym (flat_map-append pieces_in (map Make cuts) (map Keep behind)))
    (all-append (IsFrom size entries given) (pieces_of (map Make cuts)) (pieces_of (map Keep behind)) middle last)))

-- ---- what they hold

-- the bytes of parts behind others
pub parts-append : (at : Pages) (size : ℕ) (payload : List ℕ) (xs ys : List Part) →
    parts_content at size payload (xs ++ ys) ≡ parts_content at size payload xs ++ parts_content at size payload ys
parts-append at size payload xs ys =
    ap (pieces_content at size payload) (flat_map-append pieces_in xs ys)
    ∙ flat_map-append (piece_content at size payload) (pieces_of xs) (pieces_of ys)

-- the new parts hold the payload and the head
fresh-content : (at : Pages) (size most : ℕ) (entries : List Pair) (e : ℕ) (payload : List ℕ) → AreThere at size entries →
    parts_content at size payload (map Make (stretches size 0
    (pieces most (length payload + piece_bytes (head_piece size e entries)))
    (fresh (length payload) (head_piece size e entries))))
    ≡ payload ++ piece_content at size payload (head_piece size e entries)
fresh-content at size most entries e payload made =
    let given = length payload in
    let head = head_piece size e entries in
    let counts = pieces most (given + piece_bytes head) in
    let c = pieces_content at size payload (fresh given head) in
    let each = fresh-from size entries given e made.some in
    let long = pieces-length at size payload entries (fresh given head) made each in
    let all = fresh-bytes given head in
    let sum = pieces-total most (given + piece_bytes head) in
    let reach : length c ≤ total counts = omega (arith, long, all, sum) in
    let paid : length payload ≤ given = omega arith in
    made-content at size payload (stretches size 0 counts (fresh given head))
    ∙ (stretches-content at size payload entries 0 counts (fresh given head) made each
    ∙ (take_all (total counts) c reach
    ∙ (ap (λ (xs : List ℕ). xs ++ (piece_content at size payload head ++ [])) (take_all given payload paid)
    ∙ ap (λ (xs : List ℕ). payload ++ xs) (append-nil (piece_content at size payload head)))))

pub all-content : (at : Pages) (size most : ℕ) (entries : List Pair) (a cut : ℕ) (payload : List ℕ) →
    AreThere at size entries → HaveBytes entries →
    a + cut ≤ bytes_of entries → count_ended a entries ≤ 1 → length entries ≤ count_begun (a + cut) entries + 1 →
    parts_content at size payload (all_of size most entries a cut (length payload))
    ≡ take a (content at size entries) ++ (payload ++ drop (a + cut) (content at size entries))
all-content at size most entries a cut payload made have within few_before few_behind =
    let e = a + cut in
    let given = length payload in
    let head = head_piece size e entries in
    let cuts = map Make (stretches size 0 (pieces most (given + piece_bytes head)) (fresh given head)) in
    let before = one_before a entries ++ left_of a entries in
    let behind = right_of size e entries ++ one_after e entries in
    let inner : a ≤ bytes_of entries = omega (arith, within) in
    let first : parts_content at size payload (map Keep before) ≡ take a (content at size entries) =
    kept-content at size payload before
    ∙ (ap (content at size) (tight-front a entries few_before) ∙ front-content at size a entries made.some made.there inner) in
    let last : parts_content at size payload (map Keep behind) ≡ content at size (back size e entries) =
    kept-content at size payload behind ∙ ap (content at size) (tight-back size e entries have few_behind) in
    let h = piece_content at size payload head in
    let rest : parts_content at size payload (cuts ++ map Keep behind) ≡ payload ++ drop e (content at size entries) =
    parts-append at size payload cuts (map Keep behind)
    ∙ (ap (λ (xs : List ℕ). xs ++ parts_content at size payload (map Keep behind)) (fresh-content at size most entries e payload made)
    ∙ (ap (λ (xs : List ℕ). (payload ++ h) ++ xs) last
    ∙ (append_assoc payload h (content at size (back size e entries))
    ∙ ap (λ (xs : List ℕ). payload ++ xs) (back-content at size e payload entries made.some made.there within)))) in
    parts-append at size payload (map Keep before) (cuts ++ map Keep behind)
    ∙ (ap (λ (xs : List ℕ). xs ++ parts_content at size payload (cuts ++ map Keep behind)) first
    ∙ ap (λ (xs : List ℕ). take a (content at size entries) ++ xs) rest)

-- ---- pieces one after the other

-- what is left behind full pieces
abbrev last_piece : ℕ → List ℕ
last_piece rest = if nat_eq rest 0 then [] else rest ∷ []

pieces-at : (most q r : ℕ) → r < most → pieces most (q * most + r) ≡ replicate q most ++ last_piece r
pieces-at most q r less =
    ap (λ (k : ℕ). replicate k most ++ last_piece ((q * most + r) % most)) (div-mul-add q most r less)
    ∙ ap (λ (k : ℕ). replicate q most ++ last_piece k) (mod-mul-add q most r less)

pub pieces-end : (most bytes : ℕ) → 0 < most → bytes ≡ 0 → pieces most bytes ≡ []
pieces-end most bytes some none =
    let row : bytes ≡ 0 * most + 0 = omega (arith, none) in
    ap (pieces most) row ∙ pieces-at most 0 0 some

next-at : (most q r bytes : ℕ) → 0 < most → 0 < bytes → r < most → bytes ≡ q * most + r →
    pieces most bytes ≡ min most bytes ∷ pieces most (bytes - min most bytes)
next-at most zero r bytes some any less whole =
    let alone : bytes ≡ r = omega (arith, whole) in
    let test : nat_eq r 0 ≡ false = ne_eqb r 0 (λ none. omega (arith, none, alone, any)) in
    let last : last_piece r ≡ r ∷ [] = rw (test, last_piece) in
    let first : min most bytes ≡ r = omega (arith, alone, less) in
    let rest : bytes - min most bytes ≡ 0 = omega (arith, alone, first) in
    ap (pieces most) whole
    ∙ (pieces-at most 0 r less
    ∙ (last
    ∙ (ap (λ (k : ℕ). k ∷ []) (sym first)
    ∙ ap (λ (ks : List ℕ). min most bytes ∷ ks) (sym (pieces-end most (bytes - min most bytes) some rest)))))
next-at most (suc q) r bytes some any less whole =
    let rows : suc q * most ≡ most + q * most = grind arith in
    let first : min most bytes ≡ most = omega (arith, whole, rows) in
    let rest : bytes - min most bytes ≡ q * most + r = omega (arith, whole, rows, first) in
    ap (pieces most) whole
    ∙ (pieces-at most (suc q) r less
    ∙ (ap (λ (k : ℕ). k ∷ (replicate q most ++ last_piece r)) (sym first)
    ∙ ap (λ (ks : List ℕ). min most bytes ∷ ks) (sym (ap (pieces most) rest ∙ pieces-at most q r less))))

-- the first of the pieces of so many bytes
pub pieces-next : (most bytes : ℕ) → 0 < most → 0 < bytes → pieces most bytes ≡ min most bytes ∷ pieces most (bytes - min most bytes)
pieces-next most bytes some any =
    next-at most (bytes / most) (bytes % most) bytes some any (mod_below bytes most some) (sym (div-add-mod' bytes most))

-- a new part more
pub make-step : (page most from m total : ℕ) (new : List Piece) (parts : List Part) → 0 < most → from < total →
    m ≡ min most (total - from) →
    (parts ++ (Make (stretch_of page from (from + m) new) ∷ []))
    ++ map Make (stretches page (from + m) (pieces most (total - (from + m))) new)
    ≡ parts ++ map Make (stretches page from (pieces most (total - from)) new)
make-step page most from m total new parts some less is =
    let any : 0 < total - from = omega (arith, less) in
    let rest : total - from - min most (total - from) ≡ total - (from + m) = omega (arith, is) in
    let next : pieces most (total - from) ≡ m ∷ pieces most (total - (from + m)) =
    pieces-next most (total - from) some any
    ∙ (ap (λ (k : ℕ). k ∷ pieces most (total - from - min most (total - from))) (sym is) ∙ ap (λ (k : ℕ). m ∷ pieces most k) rest) in
    append_assoc parts (Make (stretch_of page from (from + m) new) ∷ [])
    (map Make (stretches page (from + m) (pieces most (total - (from + m))) new))
    ∙ ap (λ (ks : List ℕ). parts ++ map Make (stretches page from ks new)) (sym next)

-- ---- a whole plan

-- the parts as they are put one behind the other
pub joined : (front right after : List Pair) (made : List Part) →
    ((map Keep front ++ made) ++ map Keep right) ++ map Keep after ≡ map Keep front ++ (made ++ map Keep (right ++ after))
joined front right after made =
    append_assoc (map Keep front ++ made) (map Keep right) (map Keep after)
    ∙ (append_assoc (map Keep front) made (map Keep right ++ map Keep after)
    ∙ ap (λ (xs : List Part). map Keep front ++ (made ++ xs)) (sym (map-append Keep right after)))

-- the parts of a plan, one put behind the other
pub put-all : (size most : ℕ) (entries : List Pair) (a cut given seen much : ℕ) (head : Piece) (right after : List Pair)
    (parts0 parts1 parts2 parts3 parts4 : List Part) → seen ≡ size → much ≡ most → head ≡ head_piece size (a + cut) entries →
    right ≡ right_of size (a + cut) entries → after ≡ one_after (a + cut) entries → parts0 ≡ [] →
    parts1 ≡ parts0 ++ map Keep (one_before a entries ++ left_of a entries) →
    parts2 ≡ parts1 ++ map Make (stretches seen 0 (pieces much (given + piece_bytes head)) (fresh given head)) →
    parts3 ≡ parts2 ++ map Keep right → parts4 ≡ parts3 ++ map Keep after → parts4 ≡ all_of size most entries a cut given
put-all size most entries a cut given seen much head right after parts0 parts1 parts2 parts3 parts4
    page_is most_is head_is right_is after_is is0 is1 is2 is3 is4 =
    let front = one_before a entries ++ left_of a entries in
    let made : ℕ → ℕ → Piece → List Part = λ s m h. map Make (stretches s 0 (pieces m (given + piece_bytes h)) (fresh given h)) in
    let first = head_piece size (a + cut) entries in
    let rest = right_of size (a + cut) entries in
    let all1 : parts1 ≡ map Keep front = is1 ∙ ap (λ (ps : List Part). ps ++ map Keep front) is0 in
    let same : made seen much head ≡ made size most first =
    ap (λ (s : ℕ). made s much head) page_is ∙ (ap (λ (m : ℕ). made size m head) most_is ∙ ap (made size most) head_is) in
    let all2 : parts2 ≡ map Keep front ++ made size most first =
    is2 ∙ (ap (λ (ps : List Part). ps ++ made seen much head) all1 ∙ ap (λ (ps : List Part). map Keep front ++ ps) same) in
    let all3 : parts3 ≡ (map Keep front ++ made size most first) ++ map Keep rest =
    is3 ∙ (ap (λ (ps : List Part). ps ++ map Keep right) all2
    ∙ ap (λ (ps : List Pair). (map Keep front ++ made size most first) ++ map Keep ps) right_is) in
    is4 ∙ (ap (λ (ps : List Part). ps ++ map Keep after) all3
    ∙ (ap (λ (ps : List Pair). ((map Keep front ++ made size most first) ++ map Keep rest) ++ map Keep ps) after_is
    ∙ joined front rest (one_after (a + cut) entries) (made size most first)))

-- entries of a store have bytes
pub entries-have : (n : Numbers) (pairs : List Pair) → AllByRecursion (IsEntry n) pairs → HaveBytes pairs
entries-have n [] all = tt
entries-have n (p ∷ ps) all = (all.0.some, entries-have n ps all.1)

pub plan-is : (n : Numbers) (window : List Placed) (at cut given : ℕ) → IsInRange n → start_of window ≤ at → at + cut ≤ end_of window →
    AllByRecursion (IsEntry n) (pairs_of window) →
    IsPlan n window at cut given (all_of n.page (space_pages n * n.page) (pairs_of window) (at - start_of window) cut given)
plan-is n window at cut given range first last entries =
    let some = page-some n range in
    let a = at - start_of window in
    let most = space_pages n * n.page in
    let pairs = pairs_of window in
    let within : a + cut ≤ bytes_of pairs = omega (arith, first, last) in
    record {
      plan = all-layout_part n.page most pairs a cut given some;
      spells = λ pages payload tight paid there.
          subst (λ (g : ℕ). parts_content pages n.page payload (all_of n.page most pairs a cut g)
          ≡ take a (content pages n.page pairs) ++ (payload ++ drop (a + cut) (content pages n.page pairs))) paid
          (all-content pages n.page most pairs a cut payload (record { some = some; there = there })
          (entries-have n pairs entries) within tight.front tight.back);
      held = all-from n.page most pairs a cut given some;
    }

-- ---- a part that is cut

-- its runs have room for all its bytes
lengths-all : (page bytes : ℕ) (pages : List ℕ) → 0 < page → page_count page bytes ≤ sum pages → total (lengths_on page bytes pages) ≡ bytes
lengths-all page bytes pages some enough =
    let holds = count-holds page bytes some in
    let rows : page_count page bytes * page ≤ sum pages * page = mul-le-mul_right page enough in
    let all = lengths-total page bytes pages in
    omega (arith, holds, rows, all)

cut-lengths : (page : ℕ) (part : Part) (runs : List Extent) → 0 < page →
    page_count page (part_bytes (layout_part part)) ≤ sum (map (λ run. run.pages) runs) →
    map layout_part (map Make (stretches page 0
    (lengths_on page (part_bytes (layout_part part)) (map (λ run. run.pages) runs)) (pieces_in part)))
    ≡ made_on (segments_on page (part_bytes (layout_part part)) runs)
cut-lengths page part runs some enough =
    let bytes = part_bytes (layout_part part) in
    let counts = lengths_on page bytes (map (λ run. run.pages) runs) in
    let all = lengths-all page bytes (map (λ run. run.pages) runs) some enough in
    let same = pieces-part part in
    made-layout_part (stretches page 0 counts (pieces_in part))
    ∙ (ap (map layout.TheVariants.Make) (stretches-bytes page 0 counts (pieces_in part) (omega (arith, all, same)))
    ∙ sym (lengths-runs page bytes runs))

cut-content : (at : Pages) (page bytes : ℕ) (pages : List ℕ) (entries : List Pair) (payload : List ℕ) (old : List Piece) → 0 < page →
    page_count page bytes ≤ sum pages → pieces_bytes old ≡ bytes →
    AllByRecursion (IsFrom page entries (length payload)) old → AllByRecursion (IsThere at page) entries →
    parts_content at page payload (map Make (stretches page 0 (lengths_on page bytes pages) old)) ≡ pieces_content at page payload old
cut-content at page bytes pages entries payload old some enough is each there =
    let made : AreThere at page entries = record { some = some; there = there } in
    let counts = lengths_on page bytes pages in
    let all = lengths-all page bytes pages some enough in
    let long = pieces-length at page payload entries old made each in
    made-content at page payload (stretches page 0 counts old)
    ∙ (stretches-content at page payload entries 0 counts old made each
    ∙ take_all (total counts) (pieces_content at page payload old) (omega (arith, long, all, is)))

-- the parts that a part is cut into
abbrev pub cut_over : ℕ → Part → List ℕ → List Part
cut_over page part counts = map Make (stretches page 0 (lengths_on page (part_bytes (layout_part part)) counts) (pieces_in part))

pub cut-is : (page : ℕ) (part : Part) (counts : List ℕ) → 0 < page → page_count page (part_bytes (layout_part part)) ≤ sum counts →
    IsCut page part counts (cut_over page part counts)
cut-is page part counts some enough =
    let bytes = part_bytes (layout_part part) in
    record {
      lengths = λ runs are.
          let here = cut-lengths page part runs some (subst (λ (ns : List ℕ). page_count page bytes ≤ sum ns) (sym are) enough) in
          ap (λ (ns : List ℕ). map layout_part (cut_over page part ns)) (sym are) ∙ here;
      spells = λ pages entries payload each there.
          cut-content pages page bytes counts entries payload (pieces_in part) some enough (pieces-part part) each there;
      held = λ entries given each. made-from page entries given 0 (lengths_on page bytes counts) (pieces_in part) some each;
    }
