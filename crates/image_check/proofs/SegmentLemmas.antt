-- The checks of a segment, one after the other.
use Rattle.std.proofs.Common.{◌≡◌, ℕ, ◌+◌, ◌-◌, ◌*◌, ◌<◌, ◌≤◌, Bool, true, false, nat_le, Option, Some, None, is_some, List, length}
use Rattle.std.proofs.Common.{take}
use Rattle.std.proofs.Common.{get_or, refl, sym, ap, subst, ◌∙◌, inl, arith}
use Rattle.std.proofs.lemmas.Bool.{and_parts, leb-true}
use Rattle.std.specs.List.{range_with_len}
use Rattle.std.proofs.lemmas.List.FromFn.{get_or-range_with_len, length-range_with_len}
use Rattle.geometry_model.specs.Numbers.{Numbers, pages, space_pages}
use Rattle.geometry_model.specs.Pages.{is_data_page, place}
use Rattle.geometry_model.proofs.PageLaws.{IsInSpace-below, IsPlace-from_place, place-of_IsPlace}
use Rattle.tree_model.specs.declared.entry.Pair.{Pair}
use Rattle.tree_model.specs.Tree.{page_count}
use Rattle.span_store.specs.Held.{Held}
use Rattle.image_model.specs.Checks.{Walk, Checked, then_check, check, check_segment, each, fits_after, is_in_space, is_segment, meet}
use Rattle.image_model.specs.Checks.Refusal.{BadTree}
use Rattle.image_laws.proofs.NodeLemmas.{data-below}
use Rattle.image_check.specs.declared.failure.CheckFail.{CheckFail}
use Rattle.image_check.specs.declared.failure.CheckFail.TheVariants.{BadTree as TreeFails}
use Rattle.image_check.specs.Owners.{KeptWalk, IsMarked, after_meeting, answer_of, owned, owner_at}
use Rattle.image_check.specs.Verdicts.{Judged}
use Rattle.image_check.proofs.EachLemmas.{Judged-next}
use Rattle.image_check.proofs.JudgedLemmas.{Judged-check, Judged-stop, Judged-then, Judged-uncheck}
use Rattle.image_check.proofs.OwnerLemmas.{Judged-meet}

-- ---- its pages

-- each page of a run in a space is a data page
pub run-data : (n : Numbers) (first count page : ℕ) → is_in_space n (place n first) count ≡ true → first ≤ page →
    page < first + count → is_data_page n page ≡ true
run-data n first count page inside low high = by-spot (place n first) refl inside
  where
    by-spot : (o : Option (ℕ × ℕ)) → place n first ≡ o → is_in_space n o count ≡ true → is_data_page n page ≡ true
    by-spot None found within = absurd cc
    by-spot (Some spot) found within =
        let is = IsPlace-from_place n first spot.0 spot.1 found in
        let fits = leb-true (spot.1 + count) (space_pages n) within in
        let at = is.is_page in
        ap (λ (o : Option (ℕ × ℕ)). is_some o) (place-of_IsPlace n page spot.0 (spot.1 + (page - first)) (record {
          in_store = is.in_store;
          in_space = omega (arith, fits, low, high);
          is_page = omega (arith, at, low);
        }))

-- the run lies within the store
pub run-below : (n : Numbers) (first count : ℕ) → is_in_space n (place n first) count ≡ true → first + count ≤ pages n
run-below n first count inside = by-spot (place n first) refl inside
  where
    by-spot : (o : Option (ℕ × ℕ)) → place n first ≡ o → is_in_space n o count ≡ true → first + count ≤ pages n
    by-spot None found within = absurd cc
    by-spot (Some spot) found within =
        let is = IsPlace-from_place n first spot.0 spot.1 found in
        let fits = leb-true (spot.1 + count) (space_pages n) within in
        let at = is.is_page in
        IsInSpace-below n spot.0 first count
        (record { in_store = is.in_store; from = omega (arith, at); to = omega (arith, at, fits) })

-- a page is met, as it is answered and kept
pub Judged-met : (T : Type 0) (n : Numbers) (held : Held) (o page : ℕ) (kept new : KeptWalk) (fail : Option CheckFail) →
    is_data_page n page ≡ true → IsMarked n held kept → fail ≡ answer_of page (owner_at kept page) → new ≡ after_meeting page o kept →
    Judged T n held o kept new fail (λ bytes. meet n bytes page)
Judged-met T n held o page kept new fail data_page marked answered now =
    subst (λ (x : KeptWalk). Judged T n held o kept x fail (λ bytes. meet n bytes page)) (sym now)
    (subst (λ (x : Option CheckFail). Judged T n held o kept (after_meeting page o kept) x (λ bytes. meet n bytes page)) (sym answered)
    (Judged-meet T n held o page kept data_page (data-below n page data_page) marked))

-- one page more of a run
pub Judged-page : (T : Type 0) (n : Numbers) (held : Held) (o first count i page : ℕ) (old mid new : KeptWalk) (fail : Option CheckFail) →
    i < count → first + i ≡ page → is_in_space n (place n first) count ≡ true →
    Judged T n held o old mid None (λ bytes. each (meet n bytes) (take i (range_with_len first count))) →
    fail ≡ answer_of page (owner_at mid page) → new ≡ after_meeting page o mid →
    Judged T n held o old new fail (λ bytes. each (meet n bytes) (take (i + 1) (range_with_len first count)))
Judged-page T n held o first count i page old mid new fail inside here space before answered now =
    let within : i < length (range_with_len first count) = subst (λ (k : ℕ). i < k) (sym (length-range_with_len first count)) inside in
    let item : get_or (range_with_len first count) i 0 ≡ page = get_or-range_with_len first count i 0 inside ∙ here in
    let on = run-data n first count page space (omega (arith, here)) (omega (arith, here, inside)) in
    let met = Judged-met T n held o page mid new fail on before.marked answered now in
    Judged-next ℕ T n held o old mid new fail (λ bytes page. meet n bytes page) (range_with_len first count) i 0 within before
    (subst (λ (p : ℕ). Judged T n held o mid new fail (λ bytes. meet n bytes p)) (sym item) met)

-- ---- the segment

abbrev with_before : Walk → Pair → Walk
with_before walk pair = record { met = walk.met; before = Some pair }

abbrev pub with_segment : KeptWalk → Pair → KeptWalk
with_segment kept pair = record kept { before = Some pair }

abbrev neighbour_check : Numbers → ℕ → ℕ → Pair → Walk → Checked
neighbour_check n o threshold pair met = check (fits_after n threshold met.before pair) (BadTree o) (with_before met pair)

abbrev behind_size : Numbers → List ℕ → ℕ → ℕ → Pair → Walk → Checked
behind_size n bytes o threshold pair sized =
    then_check (each (meet n bytes) (range_with_len pair.page (page_count n.page pair.bytes)) sized) (neighbour_check n o threshold pair)

abbrev SegmentIs : Type 0 → Numbers → Held → ℕ → ℕ → Pair → KeptWalk → KeptWalk → Option CheckFail → Type 0
SegmentIs T n held o threshold pair old new fail = Judged T n held o old new fail (λ bytes. check_segment n bytes o threshold pair)

-- its size or place is wrong
pub segment-unplaced : (T : Type 0) (n : Numbers) (held : Held) (o threshold : ℕ) (pair : Pair) (kept : KeptWalk) → IsMarked n held kept →
    is_segment n pair ≡ false → SegmentIs T n held o threshold pair kept kept (Some (TreeFails o))
segment-unplaced T n held o threshold pair kept marked off =
    Judged-stop T n held o kept kept (TreeFails o) (λ bytes. check (is_segment n pair) (BadTree o))
    (λ bytes. behind_size n bytes o threshold pair)
    (Judged-uncheck T n held o kept (BadTree o) (TreeFails o) (λ bytes. is_segment n pair) marked refl (λ t bytes shows. off))

sized : (T : Type 0) (n : Numbers) (held : Held) (o threshold : ℕ) (pair : Pair) (kept new : KeptWalk) (fail : Option CheckFail) →
    IsMarked n held kept → is_segment n pair ≡ true → Judged T n held o kept new fail (λ bytes. behind_size n bytes o threshold pair) →
    SegmentIs T n held o threshold pair kept new fail
sized T n held o threshold pair kept new fail marked is more =
    Judged-then T n held o kept kept new fail (λ bytes. check (is_segment n pair) (BadTree o)) (λ bytes. behind_size n bytes o threshold
    pair)
    (Judged-check T n held o kept (BadTree o) (λ bytes. is_segment n pair) marked (λ t bytes shows. is)) more

-- its pages, with their number as the code has it
abbrev pub PagesAre : Type 0 → Numbers → Held → ℕ → ℕ → ℕ → KeptWalk → KeptWalk → Option CheckFail → Type 0
PagesAre T n held o first count old new fail = Judged T n held o old new fail (λ bytes. each (meet n bytes) (range_with_len first count))

-- one of its pages was met already, or is free
pub segment-unmet : (T : Type 0) (n : Numbers) (held : Held) (o threshold count : ℕ) (pair : Pair) (kept new : KeptWalk)
    (fail : CheckFail) →
    IsMarked n held kept → is_segment n pair ≡ true → count ≡ page_count n.page pair.bytes →
    PagesAre T n held o pair.page count kept new (Some fail) → SegmentIs T n held o threshold pair kept new (Some fail)
segment-unmet T n held o threshold count pair kept new fail marked is counted met =
    sized T n held o threshold pair kept new (Some fail) marked is
    (Judged-stop T n held o kept new fail (λ bytes. each (meet n bytes) (range_with_len pair.page (page_count n.page pair.bytes)))
    (λ bytes. neighbour_check n o threshold pair)
    (subst (λ (k : ℕ). PagesAre T n held o pair.page k kept new (Some fail)) counted met))

met-all : (T : Type 0) (n : Numbers) (held : Held) (o threshold count : ℕ) (pair : Pair) (kept mid new : KeptWalk)
    (fail : Option CheckFail) →
    IsMarked n held kept → is_segment n pair ≡ true → count ≡ page_count n.page pair.bytes →
    PagesAre T n held o pair.page count kept mid None → Judged T n held o mid new fail (λ bytes. neighbour_check n o threshold pair) →
    SegmentIs T n held o threshold pair kept new fail
met-all T n held o threshold count pair kept mid new fail marked is counted met more =
    sized T n held o threshold pair kept new fail marked is
    (Judged-then T n held o kept mid new fail (λ bytes. each (meet n bytes) (range_with_len pair.page (page_count n.page pair.bytes)))
    (λ bytes. neighbour_check n o threshold pair) (subst (λ (k : ℕ). PagesAre T n held o pair.page k kept mid None) counted met) more)

-- neither it nor the segment before has as many pages as the threshold
pub segment-unfit : (T : Type 0) (n : Numbers) (held : Held) (o threshold count : ℕ) (pair : Pair) (kept mid : KeptWalk) →
    IsMarked n held kept → is_segment n pair ≡ true → count ≡ page_count n.page pair.bytes →
    PagesAre T n held o pair.page count kept mid None → fits_after n threshold mid.before pair ≡ false →
    SegmentIs T n held o threshold pair kept mid (Some (TreeFails o))
segment-unfit T n held o threshold count pair kept mid marked is counted met unfit =
    met-all T n held o threshold count pair kept mid mid (Some (TreeFails o)) marked is counted met
    (record {
      marked = met.marked;
      claims = λ q. inl refl;
      more = omega arith;
      judges = λ t bytes walk shows is_walk.
          ap (λ (b : Option Pair). check (fits_after n threshold b pair) (BadTree o) (with_before walk pair)) is_walk.before
          ∙ ap (λ (b : Bool). check b (BadTree o) (with_before walk pair)) unfit;
    })

-- one of them has
pub segment-fits : (T : Type 0) (n : Numbers) (held : Held) (o threshold count : ℕ) (pair : Pair) (kept mid : KeptWalk) →
    IsMarked n held kept → is_segment n pair ≡ true → count ≡ page_count n.page pair.bytes →
    PagesAre T n held o pair.page count kept mid None → fits_after n threshold mid.before pair ≡ true →
    SegmentIs T n held o threshold pair kept (with_segment mid pair) None
segment-fits T n held o threshold count pair kept mid marked is counted met fits =
    let same : owned mid ≤ owned mid = omega arith in
    met-all T n held o threshold count pair kept mid (with_segment mid pair) None marked is counted met
    (record {
      marked = record { count = met.marked.count; used = met.marked.used };
      claims = λ q. inl refl;
      more = same;
      judges = λ t bytes walk shows is_walk. (
        with_before walk pair,
        ap (λ (b : Option Pair). check (fits_after n threshold b pair) (BadTree o) (with_before walk pair)) is_walk.before
            ∙ ap (λ (b : Bool). check b (BadTree o) (with_before walk pair)) fits,
        record { met = is_walk.met; before = refl },
      );
    })

-- a segment's pages are data pages of one space
pub segment-space : (n : Numbers) (pair : Pair) → is_segment n pair ≡ true →
    is_in_space n (place n pair.page) (page_count n.page pair.bytes) ≡ true
segment-space n pair is = (and_parts (nat_le pair.bytes (space_pages n * n.page)) (is_in_space n (place n pair.page) (page_count n.page
    pair.bytes)) is).1
