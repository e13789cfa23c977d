-- Parts without those that stay at the sides: their pieces, and the bytes that they spell.
use Rattle.std.proofs.Common.{◌≡◌, ℕ, ◌+◌, ◌-◌, ◌<◌, ◌≤◌, List, [], ◌∷◌, ◌++◌, length, map, take, drop}
use Rattle.std.proofs.Common.{refl, sym, ap, subst, arith, ◌∙◌}
use Rattle.std.specs.List.{AllByRecursion, flat_map}
use Rattle.std.proofs.lemmas.List.{drop-map, take-map, drop-take, length-map, length-take, take-append-le, take_all}
use Rattle.std.proofs.lemmas.List.Concat.{flat_map-append}
use Rattle.std.proofs.Math.Seq.{drop-append-add}
use Rattle.tree_model.specs.declared.entry.Pair.{Pair}
use Rattle.tree_model.specs.Content.{content}
use Rattle.tree_model.specs.Tree.{Pages, bytes_of}
use Rattle.layout_model.specs.declared.part.Part as layout
use Rattle.layout_model.specs.Plan.{Plan}
use Rattle.layout_laws.proofs.LevelLemmas.{three}
use Rattle.content_laws.specs.Spelling.{IsThere, all_parts}
use Rattle.content_laws.proofs.SpellingLemmas.{content-length}
use Rattle.change_laws.proofs.PartLemmas.{all-left, all-right}
use Rattle.moment_model.specs.Moment.{count_true}
use Rattle.laid_content_laws.specs.Written.{behind_front}
use Rattle.edit_parts.specs.declared.part.Part.{Part}
use Rattle.edit_parts.specs.declared.part.Part.TheVariants.{Keep, Make}
use Rattle.edit_parts.specs.declared.piece.Piece.{Piece}
use Rattle.edit_parts.specs.Parts.{layout_part, parts_content, pieces_in, pieces_of}
use Rattle.edit_parts.specs.Pieces.{piece_content}
use Rattle.edit_plan.proofs.CutLemmas.{kept-content}
use Rattle.object_plan.specs.declared.sides.Sides.{Sides}
use Rattle.object_plan.specs.Planned.{IsFrontOf}
use Rattle.object_plan.specs.Sides.{count_sides, trimmed}

-- ---- lists without their sides

pub trimmed-map : {A B : Type 0} (f : A → B) (sides : Sides) (items : List A) → map f (trimmed sides items) ≡ trimmed sides (map f items)
trimmed-map f sides items =
    let i = count_true sides.front in
    let n = length items - count_sides sides in
    let long = length-map items f in
    sym (take-map f n (drop i items))
    ∙ (ap (take n) (sym (drop-map f i items))
    ∙ ap (λ (k : ℕ). take (k - count_sides sides) (drop i (map f items))) (sym long))

-- first without the last ones, then without the first
pub trimmed-steps : {A : Type 0} (sides : Sides) (items : List A) → count_sides sides ≤ length items →
    drop (count_true sides.front) (take (length items - count_true sides.back) items) ≡ trimmed sides items
trimmed-steps sides items few =
    let i = count_true sides.front in
    let split : length items - count_true sides.back ≡ i + (length items - count_sides sides) = omega (arith, few) in
    ap (λ (k : ℕ). drop i (take k items)) split ∙ drop-take i (length items - count_sides sides) items

-- ---- parts that stay

-- parts that the layout keeps are kept
kept_part : (x : Part) (p : Pair) → layout_part x ≡ layout.TheVariants.Keep p → x ≡ Keep p
kept_part (Keep q) p is = cc
kept_part (Make pieces) p is = absurd (cc)

head_is : (x y : layout.Part) (xs ys : List layout.Part) → x ∷ xs ≡ y ∷ ys → x ≡ y
head_is x y xs ys is = cc

tail_is : (x y : layout.Part) (xs ys : List layout.Part) → x ∷ xs ≡ y ∷ ys → xs ≡ ys
tail_is x y xs ys is = cc

pub kept-parts : (xs : List Part) (ps : List Pair) → map layout_part xs ≡ map layout.TheVariants.Keep ps → xs ≡ map Keep ps
kept-parts [] [] is = refl
kept-parts [] (p ∷ ps) is = absurd (cc)
kept-parts (x ∷ xs) [] is = absurd (cc)
kept-parts (x ∷ xs) (p ∷ ps) is =
    let one = kept_part x p (head_is (layout_part x) (layout.TheVariants.Keep p) (map layout_part xs)
    (map layout.TheVariants.Keep ps) is) in
    let rest = kept-parts xs ps (tail_is (layout_part x) (layout.TheVariants.Keep p) (map layout_part xs)
    (map layout.TheVariants.Keep ps) is) in
    ap (λ (y : Part). y ∷ xs) one ∙ ap (λ (ys : List Part). Keep p ∷ ys) rest

-- ---- the parts between the sides

-- Merged parts are the entries before the plan's, its parts, and the entries behind; the code's are these with their pieces.
pub record IsMerged (window : List Pair) (plan : Plan) (sides : Sides) (parts : List Part) : Type 0 where
  pub whole : all_parts window plan ≡ map layout_part parts
  pub from_is : plan.from ≡ count_true sides.front
  pub within : plan.from ≤ length window
  pub between : plan.parts ≡ trimmed sides (map layout_part parts)

-- the parts before the first one that is left
front_parts : (window : List Pair) (plan : Plan) (sides : Sides) (parts : List Part) → IsMerged window plan sides parts →
    take (count_true sides.front) parts ≡ map Keep (take plan.from window)
front_parts window plan sides parts merged =
    let i = count_true sides.front in
    let f : List Pair → List layout.Part = map layout.TheVariants.Keep in
    let rest = plan.parts ++ f (drop (plan.from + plan.count) window) in
    let long : length (f (take plan.from window)) ≡ plan.from =
    let one = length-map (take plan.from window) layout.TheVariants.Keep in
    let two = length-take plan.from window in
    let within = merged.within in
    omega (arith, one, two, within) in
    let from_is = merged.from_is in
    let few : i ≤ length (f (take plan.from window)) = omega (arith, long, from_is) in
    let all : take i (f (take plan.from window)) ≡ f (take plan.from window) =
    take_all i (f (take plan.from window)) (omega (arith, long, from_is)) in
    kept-parts (take i parts) (take plan.from window)
    (sym (take-map layout_part i parts)
    ∙ (ap (take i) (sym merged.whole)
    ∙ (take-append-le i (f (take plan.from window)) rest few ∙ all)))

-- all parts, cut in three
pub cut_parts : (sides : Sides) (parts : List Part) →
    take (count_true sides.front) parts
    ++ (trimmed sides parts ++ drop (count_true sides.front + (length parts - count_sides sides)) parts) ≡ parts
cut_parts sides parts = three (count_true sides.front) (length parts - count_sides sides) parts

pub cut-pieces : (sides : Sides) (parts : List Part) →
    pieces_of parts ≡ pieces_of (take (count_true sides.front) parts)
    ++ (pieces_of (trimmed sides parts) ++ pieces_of (drop (count_true sides.front + (length parts - count_sides sides)) parts))
cut-pieces sides parts =
    let i = count_true sides.front in
    let n = length parts - count_sides sides in
    ap pieces_of (sym (cut_parts sides parts))
    ∙ (flat_map-append pieces_in (take i parts) (trimmed sides parts ++ drop (i + n) parts)
    ∙ ap (λ (xs : List Piece). pieces_of (take i parts) ++ xs) (flat_map-append pieces_in (trimmed sides parts) (drop (i + n) parts)))

-- what holds of all pieces holds of those that are left
pub trimmed-pieces : (P : Piece → Type 0) (sides : Sides) (parts : List Part) → AllByRecursion P (pieces_of parts) →
    AllByRecursion P (pieces_of (trimmed sides parts))
trimmed-pieces P sides parts all =
    let i = count_true sides.front in
    let n = length parts - count_sides sides in
    let rest = pieces_of (drop (i + n) parts) in
    let cut = subst (AllByRecursion P) (cut-pieces sides parts) all in
    all-left P (pieces_of (trimmed sides parts)) rest
    (all-right P (pieces_of (take i parts)) (pieces_of (trimmed sides parts) ++ rest) cut)

-- the bytes that are left are those behind the first ones
pub trimmed-spells : (at : Pages) (size : ℕ) (payload : List ℕ) (window : List Pair) (plan : Plan) (sides : Sides) (parts : List Part)
    (bytes : List ℕ) → 0 < size → IsMerged window plan sides parts → AllByRecursion (IsThere at size) (take plan.from window) →
    parts_content at size payload parts ≡ bytes →
    IsFrontOf (parts_content at size payload (trimmed sides parts)) (behind_front window plan bytes)
trimmed-spells at size payload window plan sides parts bytes some merged there spelled =
    let i = count_true sides.front in
    let n = length parts - count_sides sides in
    let piece = piece_content at size payload in
    let front = parts_content at size payload (take i parts) in
    let mid = parts_content at size payload (trimmed sides parts) in
    let back = parts_content at size payload (drop (i + n) parts) in
    let split : parts_content at size payload parts ≡ front ++ (mid ++ back) =
    ap (flat_map piece) (cut-pieces sides parts)
    ∙ (flat_map-append piece (pieces_of (take i parts)) (pieces_of (trimmed sides parts) ++ pieces_of (drop (i + n) parts))
    ∙ ap (λ (xs : List ℕ). front ++ xs) (flat_map-append piece (pieces_of (trimmed sides parts)) (pieces_of (drop (i + n) parts)))) in
    let held : front ≡ content at size (take plan.from window) =
    ap (parts_content at size payload) (front_parts window plan sides parts merged)
    ∙ kept-content at size payload (take plan.from window) in
    let counted = content-length at size (take plan.from window) some there in
    let long : bytes_of (take plan.from window) ≡ length front + 0 = let same = ap length held in omega (arith, same, counted) in
    let rest : drop (bytes_of (take plan.from window)) bytes ≡ mid ++ back =
    ap (drop (bytes_of (take plan.from window))) (sym spelled ∙ split)
    ∙ (ap (λ (k : ℕ). drop k (front ++ (mid ++ back))) long ∙ drop-append-add front (mid ++ back) 0) in
    (back, sym rest)
