-- New parts whose old bytes are held, on runs with pages enough, can be written.
use Rattle.std.proofs.Common.{inl, inr, ◌≡◌, ℕ, ◌*◌, ◌^◌, ◌<◌, ◌≤◌, Bool, List, [], ◌∷◌, map, sum, take, drop}
use Rattle.std.proofs.Common.{ap, subst, arith, length-drop}
use Rattle.std.proofs.lemmas.List.{drop-map, take-map}
use Rattle.std.proofs.lemmas.List.Sums.{sum_by-cons}
use Rattle.std.proofs.Math.Nat.{mul-le-mul_right}
use Rattle.geometry_model.specs.Numbers.{Numbers, IsInRange, space_pages}
use Rattle.geometry_model.proofs.NumberLaws.{page-some}
use Rattle.tree_model.specs.Tree.{page_count}
use Rattle.tree_model.proofs.PageCountLaws.{count-holds}
use Rattle.layout_model.specs.declared.extent.Extent.{Extent}
use Rattle.layout_model.specs.declared.request.Request.{Request}
use Rattle.layout_model.specs.Plan.{made_part_bytes}
use Rattle.change_laws.proofs.PartLemmas.{all-left, all-right}
use Rattle.edit_parts.specs.declared.part.Part.{Part}
use Rattle.edit_parts.specs.declared.part.Part.TheVariants.{Keep, Make}
use Rattle.edit_parts.specs.Parts.{layout_part, pieces_of}
use Rattle.edit_parts.specs.Pieces.{pieces_bytes}
use Rattle.edit_plan.proofs.EntryLemmas.{space-few}
use Rattle.span_store.specs.Held.{Held}
use Rattle.part_store.specs.Asking.{AreOfAll, AreRowsOf, rows}
use Rattle.part_bytes.specs.Gathering.{CanGather}
use Rattle.part_bytes.specs.Parts.{CanWriteEach, IsApart}
use Rattle.written_laws.specs.Edits.{AreGrantedFor, HaveOldBytes}

-- ---- room on the runs

-- bytes of so few pages have a number of 64 bits
bytes-few : (n : Numbers) (bytes : ℕ) → IsInRange n → page_count n.page bytes ≤ space_pages n → bytes < 2 ^ 64
bytes-few n bytes range few =
    let holds = count-holds n.page bytes (page-some n range) in
    let most = space-few n range in
    let rows : page_count n.page bytes * n.page ≤ space_pages n * n.page = mul-le-mul_right n.page few in
    omega (arith, holds, most, rows)

-- what was asked for is no less than what is needed
row-enough : (threshold : ℕ) (request : Request) (sizes : List ℕ) → request.need ≤ request.want → AreRowsOf threshold request sizes →
    request.need ≤ sum sizes
row-enough threshold request sizes wish row =
    elim row [
      | inl whole ↦
          let one = sum_by-cons (λ (k : ℕ). k) request.want [] in
          let all = ap sum whole in
          omega (arith, one, all, wish)
      | inr halves ↦ let all = halves.0 in omega (arith, all)
    ]

-- ---- all parts

-- the parts that are left, with what they asked for
granted-each : (n : Numbers) (told : Bool) (threshold given : ℕ) (all : List Extent) (now : Held) → IsInRange n →
    (parts : List Part) (requests : List Request) (counts : List ℕ) (runs : List Extent) →
    HaveOldBytes told n.page given parts all now → AreGrantedFor n threshold parts requests counts runs →
    CanWriteEach told now n.page given all parts counts runs
granted-each n told threshold given all now range [] requests counts runs old granted = tt
granted-each n told threshold given all now range (Keep p ∷ parts) requests counts runs old granted =
    granted-each n told threshold given all now range parts requests counts runs
    (record { each = old.each.1; apart = λ t. let apart = old.apart t in apart.1 })
    (record { needs = granted.needs; asked = granted.asked; whole = granted.whole; each = granted.each })
granted-each n told threshold given all now range (Make pieces ∷ parts) [] counts runs old granted =
    let none : [] ≡ page_count n.page (pieces_bytes pieces) ∷ map (page_count n.page) (made_part_bytes (map layout_part parts)) =
    granted.needs in
    absurd (cc)
granted-each n told threshold given all now range (Make pieces ∷ parts) (request ∷ requests) [] runs old granted = absurd granted.each
granted-each n told threshold given all now range (Make pieces ∷ parts) (request ∷ requests) (count ∷ counts) runs old granted =
    let size = n.page in
    let pages : Extent → ℕ = λ run. run.pages in
    let bytes = pieces_bytes pieces in
    let needs : request.need ∷ map (λ (r : Request). r.need) requests
    ≡ page_count size bytes ∷ map (page_count size) (made_part_bytes (map layout_part parts)) = granted.needs in
    let need : request.need ≡ page_count size bytes = cc in
    let needs_left : map (λ (r : Request). r.need) requests ≡ map (page_count size) (made_part_bytes (map layout_part parts)) = cc in
    let wish = granted.asked.0.wish in
    let fits = granted.asked.0.fits in
    let total = sum_by-cons (λ (k : ℕ). k) count counts in
    let whole = granted.whole in
    let enough : request.need ≤ sum (take count (map pages runs)) =
    row-enough threshold request (take count (map pages runs)) wish granted.each.0 in
    let room = ap sum (take-map pages count runs) in (
      omega (arith, total, whole),
      record {
        each = all-left (CanGather now size given) pieces (pieces_of parts) old.each;
        fits = bytes-few n bytes range (omega (arith, need, wish, fits));
        enough = omega (arith, need, enough, room);
      },
      λ t. all-left (IsApart size all) pieces (pieces_of parts) (old.apart t),
      granted-each n told threshold given all now range parts requests counts (drop count runs)
          (record {
            each = all-right (CanGather now size given) pieces (pieces_of parts) old.each;
            apart = λ t. all-right (IsApart size all) pieces (pieces_of parts) (old.apart t);
          })
          (record {
            needs = needs_left;
            asked = granted.asked.1;
            whole = omega (arith, total, whole, length-drop count runs);
            each = subst (λ (sizes : List ℕ). AreOfAll threshold requests (rows counts sizes)) (drop-map pages count runs)
                granted.each.1;
          }),
    )

pub granted-can : (n : Numbers) (told : Bool) (threshold given : ℕ) (parts : List Part) (requests : List Request)
    (counts : List ℕ) (runs : List Extent) (now : Held) → IsInRange n → HaveOldBytes told n.page given parts runs now →
    AreGrantedFor n threshold parts requests counts runs → CanWriteEach told now n.page given runs parts counts runs
granted-can n told threshold given parts requests counts runs now range old granted =
    granted-each n told threshold given runs now range parts requests counts runs old granted

-- ---- the spare

-- parts of which none is made
kept-can : (told : Bool) (now : Held) (size given : ℕ) (all : List Extent) (parts : List Part) (counts : List ℕ) (runs : List Extent) →
    made_part_bytes (map layout_part parts) ≡ [] → CanWriteEach told now size given all parts counts runs
kept-can told now size given all [] counts runs none = tt
kept-can told now size given all (Keep p ∷ parts) counts runs none = kept-can told now size given all parts counts runs none
kept-can told now size given all (Make pieces ∷ parts) counts runs none =
    let some : pieces_bytes pieces ∷ made_part_bytes (map layout_part parts) ≡ [] = none in
    absurd (cc)

spare-each : (n : Numbers) (told : Bool) (given bytes : ℕ) (all : List Extent) (spare : Extent) (now : Held) → IsInRange n →
    page_count n.page bytes ≤ spare.pages → spare.pages ≤ space_pages n → (parts : List Part) →
    HaveOldBytes told n.page given parts all now → made_part_bytes (map layout_part parts) ≡ bytes ∷ [] →
    CanWriteEach told now n.page given all parts (1 ∷ []) (spare ∷ [])
spare-each n told given bytes all spare now range enough few [] old one = tt
spare-each n told given bytes all spare now range enough few (Keep p ∷ parts) old one =
    spare-each n told given bytes all spare now range enough few parts
    (record { each = old.each.1; apart = λ t. let apart = old.apart t in apart.1 }) one
spare-each n told given bytes all spare now range enough few (Make pieces ∷ parts) old one =
    let size = n.page in
    let made : pieces_bytes pieces ∷ made_part_bytes (map layout_part parts) ≡ bytes ∷ [] = one in
    let same : pieces_bytes pieces ≡ bytes = cc in
    let none : made_part_bytes (map layout_part parts) ≡ [] = cc in
    let count = ap (page_count size) same in
    let total = sum_by-cons (λ (k : ℕ). k) spare.pages [] in (
      let fits : 1 ≤ 1 = omega arith in fits,
      record {
        each = all-left (CanGather now size given) pieces (pieces_of parts) old.each;
        fits = bytes-few n (pieces_bytes pieces) range (omega (arith, count, enough, few));
        enough = omega (arith, count, enough, total);
      },
      λ t. all-left (IsApart size all) pieces (pieces_of parts) (old.apart t),
      kept-can told now size given all parts [] [] none,
    )

pub spare-can : (n : Numbers) (told : Bool) (given bytes : ℕ) (parts : List Part) (spare : Extent) (now : Held) → IsInRange n →
    HaveOldBytes told n.page given parts (spare ∷ []) now → made_part_bytes (map layout_part parts) ≡ bytes ∷ [] →
    page_count n.page bytes ≤ spare.pages → spare.pages ≤ space_pages n →
    CanWriteEach told now n.page given (spare ∷ []) parts (1 ∷ []) (spare ∷ [])
spare-can n told given bytes parts spare now range old one enough few =
    spare-each n told given bytes (spare ∷ []) spare now range enough few parts old one
