-- The pages of a space, cut apart run by run.
use Rattle.std.proofs.Common.{inl, inr, ◌≡◌, ℕ, zero, suc, ◌+◌, ◌-◌, ◌/◌, ◌^◌, ◌<◌, ◌≤◌, replicate, Bool, true}
use Rattle.std.proofs.Common.{false, List, [], ◌∷◌, ◌++◌, length, take, drop, Option, Some, None, refl, sym, ap}
use Rattle.std.proofs.Common.{◌∙◌, subst, arith, length-drop}
use Rattle.std.proofs.Math.Seq.{take-add}
use Rattle.std.proofs.lemmas.List.{length-map, length-take, length-replicate, append-nil, drop-drop, ext_get_or, places}
use Rattle.std.proofs.lemmas.List.Elements.{All-take, All-drop}
use Rattle.std.proofs.lemmas.Bool.{cases_lt, false≢true}
use Rattle.std.proofs.lemmas.Grind.{flat_map-append}
use Rattle.std.specs.Prelude.{MatchBool}
use Rattle.page_port.specs.Pages.{AreOf, IsSized}
use Rattle.block_model.specs.Block.{has_page}
use Rattle.space_directory.specs.Slots.{span_in, page_held, pages_held, KeepsSlots, AreSpread}
use Rattle.space_directory.specs.Held.{IsSlot}
use Rattle.space_directory.specs.SpaceView.{IsSpace}
use Rattle.space_directory.specs.Opening.{numbered, unfree, pages_of_all, held_where, StandBehind, StandApart, IsRest}
use Rattle.space_directory.proofs.HeldLaws.{spread_at, held_at, length-held_where, held_where-free, held_where-used}
use Rattle.space_directory.proofs.LockedRuns.{read_cut}
use Rattle.base_laws.proofs.ListLaws.{all-append, all-map}
use Rattle.std.proofs.Math.ListN.{get_or}
use Rattle.std.specs.List.{AllByRecursion}
use Rattle.space_directory.proofs.Spaces.{slot_moved, filled_at}

-- the pages of two rows that are not free
unfree-append : (page : ℕ) (left : List Bool) (first : List (List ℕ)) (right : List Bool) (second : List (List ℕ)) →
    length left ≡ length first → unfree page (left ++ right) (first ++ second) ≡ unfree page left first
    ++ unfree (page + length left) right second
unfree-append page [] [] right second e = let same : page ≡ page + 0 = omega arith in ap (λ (k : ℕ). unfree k right second) same
unfree-append page [] (held ∷ first) right second e = absurd (omega arith)
unfree-append page (b ∷ left) [] right second e = absurd (omega arith)
unfree-append page (true ∷ left) (held ∷ first) right second e =
    let same : suc page + length left ≡ page + suc (length left) = omega arith in
    unfree-append (suc page) left first right second (omega arith)
    ∙ ap (λ (k : ℕ). unfree (suc page) left first ++ unfree k right second) same
unfree-append page (false ∷ left) (held ∷ first) right second e =
    let same : suc page + length left ≡ page + suc (length left) = omega arith in
    ap (λ (rest : List (ℕ × List ℕ)). (page, held) ∷ rest)
    (unfree-append (suc page) left first right second (omega arith)
    ∙ ap (λ (k : ℕ). unfree (suc page) left first ++ unfree k right second) same)

-- a row of free pages, and one of others
unfree_none : (page : ℕ) (free : List Bool) (pages : List (List ℕ)) → length free ≡ length pages →
    ((i : ℕ) → i < length free → has_page free i ≡ true) → unfree page free pages ≡ []
unfree_none page [] pages e all = refl
unfree_none page (b ∷ free) [] e all = refl
unfree_none page (true ∷ free) (held ∷ pages) e all = unfree_none (suc page) free pages (omega arith) (λ i less. all (suc i) (omega arith))
unfree_none page (false ∷ free) (held ∷ pages) e all = absurd (false≢true (all 0 (omega arith)))

unfree_all : (page : ℕ) (free : List Bool) (pages : List (List ℕ)) → length free ≡ length pages →
    ((i : ℕ) → i < length free → has_page free i ≡ false) → unfree page free pages ≡ numbered page pages
unfree_all page [] [] e all = refl
unfree_all page [] (held ∷ pages) e all = absurd (omega arith)
unfree_all page (b ∷ free) [] e all = absurd (omega arith)
unfree_all page (true ∷ free) (held ∷ pages) e all = absurd (false≢true (sym (all 0 (omega arith))))
unfree_all page (false ∷ free) (held ∷ pages) e all =
    ap (λ (rest : List (ℕ × List ℕ)). (page, held) ∷ rest)
    (unfree_all (suc page) free pages (omega arith) (λ i less. all (suc i) (omega arith)))

pub cut_at : {X : Type 0} (at n : ℕ) (xs : List X) → at + n ≤ length xs → length (take n (drop at xs)) ≡ n
cut_at at n xs fits = omega (arith, length-take n (drop at xs), length-drop at xs)

page_of_run : (pages : List (List ℕ)) (at n i : ℕ) → i < n → get_or (take n (drop at pages)) i [] ≡ get_or pages (at + i) []
page_of_run pages at n i less = grind (arith, places)

-- one run more
unfree_more : (first at n : ℕ) (free : List Bool) (pages : List (List ℕ)) → at + n ≤ length free →
    length free ≡ length pages → unfree first (take (at + n) free) (take (at + n) pages)
    ≡ unfree first (take at free) (take at pages) ++ unfree (first + at) (take n (drop at free))
    (take n (drop at pages))
unfree_more first at n free pages fits e =
    let left : length (take at free) ≡ at = omega (arith, length-take at free) in
    let right : length (take at pages) ≡ at = omega (arith, length-take at pages) in
    ap (λ (fs : List Bool). unfree first fs (take (at + n) pages)) (take-add at n free)
    ∙ ap (λ (ps : List (List ℕ)). unfree first (take at free ++ take n (drop at free)) ps) (take-add at n pages)
    ∙ unfree-append first (take at free) (take at pages) (take n (drop at free)) (take n (drop at pages)) (left ∙ sym right)
    ∙ ap (λ (k : ℕ). unfree first (take at free) (take at pages) ++ unfree (first + k) (take n (drop at free))
    (take n (drop at pages))) left

pub used_more : {X : Type 0} (start : X → ℕ) (contents : X → List (List ℕ)) (first at n : ℕ) (free : List Bool)
    (pages : List (List ℕ)) (old new : List X) (run : X) (b : Bool) → at + n ≤ length free → length free ≡ length pages →
    ((i : ℕ) → i < n → has_page free (at + i) ≡ b) → start run ≡ first + at →
    contents run ≡ take n (drop at pages) → MatchBool b (new ≡ old) (new ≡ old ++ run ∷ []) →
    pages_of_all start contents old ≡ unfree first (take at free) (take at pages) →
    pages_of_all start contents new ≡ unfree first (take (at + n) free) (take (at + n) pages)
used_more start contents first at n free pages old new run true fits e alike from held same before =
    let none : unfree (first + at) (take n (drop at free)) (take n (drop at pages)) ≡ [] =
    unfree_none (first + at) (take n (drop at free)) (take n (drop at pages))
    (cut_at at n free fits ∙ sym (cut_at at n pages (omega arith)))
    (λ i less. read_cut free at n i (omega (arith, cut_at at n free fits))
    ∙ alike i (omega (arith, cut_at at n free fits))) in
    ap (pages_of_all start contents) same ∙ before ∙ sym (append-nil (unfree first (take at free) (take at pages)))
    ∙ ap (λ (rest : List (ℕ × List ℕ)). unfree first (take at free) (take at pages) ++ rest) (sym none)
    ∙ sym (unfree_more first at n free pages fits e)
used_more start contents first at n free pages old new run false fits e alike from held more before =
    let all : unfree (first + at) (take n (drop at free)) (take n (drop at pages)) ≡ numbered (first + at) (take n (drop at pages)) =
    unfree_all (first + at) (take n (drop at free)) (take n (drop at pages))
    (cut_at at n free fits ∙ sym (cut_at at n pages (omega arith)))
    (λ i less. read_cut free at n i (omega (arith, cut_at at n free fits))
    ∙ alike i (omega (arith, cut_at at n free fits))) in
    let one : pages_of_all start contents (run ∷ []) ≡ numbered (first + at) (take n (drop at pages)) =
    append-nil (numbered (start run) (contents run)) ∙ ap (λ (k : ℕ). numbered k (contents run)) from ∙ ap (numbered (first + at)) held in
    ap (pages_of_all start contents) more ∙ flat_map-append (λ span. numbered (start span) (contents span)) old (run ∷ [])
    ∙ ap (λ (rest : List (ℕ × List ℕ)). rest ++ pages_of_all start contents (run ∷ [])) before
    ∙ ap (λ (rest : List (ℕ × List ℕ)). unfree first (take at free) (take at pages) ++ rest) (one ∙ sym all)
    ∙ sym (unfree_more first at n free pages fits e)

-- the slots of one run more
pub slots_more : {X : Type 0} (start : X → ℕ) (contents : X → List (List ℕ)) (tells : Bool) (size first at n : ℕ)
    (free : List Bool) (pages : List (List ℕ)) (old new : List (Option X)) (run : X) (b : Bool) →
    at + n ≤ length free → length free ≡ length pages →
    ((i : ℕ) → i < n → has_page free (at + i) ≡ b) → start run ≡ first + at →
    contents run ≡ take n (drop at pages) →
    MatchBool b (AreSpread start contents (start run) (contents run) new at (length (contents run)))
    (new ≡ old) →
    KeepsSlots old new at (length (contents run)) → IsSized tells size pages →
    ((p : ℕ) → at ≤ p → span_in old p ≡ None) →
    ((p : ℕ) → p < at → IsSlot start contents tells size (first + p) (has_page free p) (span_in old p)) →
    (p : ℕ) → p < at + n → IsSlot start contents tells size (first + p) (has_page free p) (span_in new p)
slots_more start contents tells size first at n free pages old new run b fits e alike from held case others sized
    empty before p less = elim (cases_lt p at) [
      | inl below ↦ slot_moved start contents tells size (first + p) (has_page free p) (has_page free p) (span_in old p)
          (span_in new p) refl (others.before p below) (before p below)
      | inr behind ↦ here b case (let same : at + (p - at) ≡ p = omega arith in
          ap (λ (k : ℕ). has_page free k) (sym same) ∙ alike (p - at) (omega arith)) behind
    ]
  where
    here : (b : Bool) → MatchBool b (AreSpread start contents (start run)
        (contents run) new at (length (contents run))) (new ≡ old) → has_page free p ≡ b → at ≤ p →
        IsSlot start contents tells size (first + p) (has_page free p) (span_in new p)
    here true filled is behind =
        let count : length (contents run) ≡ n = ap length held ∙ cut_at at n pages (omega arith) in
        slot_moved start contents tells size (first + p) true (has_page free p) (span_in new p) (span_in new p) is refl
        (filled_at start contents tells size first at p (contents run) new behind (omega arith)
        (λ told. subst (λ (ps : List (List ℕ)). AreOf size ps) (sym held)
        (All-take (λ page. length page ≡ size) n (drop at pages)
        (All-drop (λ page. length page ≡ size) at pages (sized told))))
        (subst (λ (k : ℕ). AreSpread start contents k (contents run) new at (length (contents run))) from filled))
    here false same is behind = slot_moved start contents tells size (first + p) false (has_page free p) None
        (span_in new p) is (ap (λ (s : List (Option _)). span_in s p) same ∙ empty p behind) tt

-- what the slots of one run more hold
pub held_more : {X : Type 0} (start : X → ℕ) (contents : X → List (List ℕ)) (first at n : ℕ) (free : List Bool)
    (pages : List (List ℕ)) (old new : List (Option X)) (run : X) (b : Bool) → at + n ≤ length free →
    length free ≡ length pages →
    ((i : ℕ) → i < n → has_page free (at + i) ≡ b) → contents run ≡ take n (drop at pages) →
    MatchBool b (AreSpread start contents (start run) (contents run) new at (length (contents run)))
    (new ≡ old) →
    KeepsSlots old new at (length (contents run)) → ((p : ℕ) → at ≤ p → span_in old p ≡ None) →
    ((p : ℕ) → p < at → page_held contents (span_in old p) ≡ get_or (held_where free pages) p []) →
    (p : ℕ) → p < at + n → page_held contents (span_in new p) ≡ get_or (held_where free pages) p []
held_more start contents first at n free pages old new run b fits e alike held case others empty before p less = elim (cases_lt p at) [
  | inl below ↦ ap (page_held contents) (others.before p below) ∙ before p below
  | inr behind ↦ here b case (let same : at + (p - at) ≡ p = omega arith in
      ap (λ (k : ℕ). has_page free k) (sym same) ∙ alike (p - at) (omega arith)) behind
]
  where
    here : (b : Bool) → MatchBool b (AreSpread start contents (start run)
        (contents run) new at (length (contents run))) (new ≡ old) → has_page free p ≡ b → at ≤ p →
        page_held contents (span_in new p) ≡ get_or (held_where free pages) p []
    here true spread is behind =
        let count : length (contents run) ≡ n = ap length held ∙ cut_at at n pages (omega arith) in
        let same : at + (p - at) ≡ p = omega arith in
        spread_at start contents (start run) (contents run) new at (length (contents run)) p spread behind (omega arith)
        ∙ ap (λ (ps : List (List ℕ)). get_or ps (p - at) []) held ∙ page_of_run pages at n (p - at) (omega arith)
        ∙ ap (λ (k : ℕ). get_or pages k []) same ∙ sym (held_where-free free pages p e is)
    here false same is behind = ap (λ (s : List (Option _)). page_held contents (span_in s p)) same
        ∙ ap (page_held contents) (empty p behind) ∙ sym (held_where-used free pages p e is)

-- ---- runs that don't meet

behind_more : {X : Type 0} (start : X → ℕ) (contents : X → List (List ℕ)) (end : ℕ) (spans : List X) (next : X) →
    StandBehind start contents end spans → end < start next →
    AllByRecursion (λ span. start span + length (contents span) < start next) spans →
    StandBehind start contents end (spans ++ next ∷ [])
behind_more start contents end [] next behind first all = (first, tt)
behind_more start contents end (span ∷ spans) next behind first all =
    (behind.0, behind_more start contents (start span + length (contents span)) spans next behind.1 all.0 all.1)

pub apart_more : {X : Type 0} (start : X → ℕ) (contents : X → List (List ℕ)) (spans : List X) (next : X) →
    StandApart start contents spans → AllByRecursion (λ span. start span + length (contents span) < start next)
    spans → StandApart start contents (spans ++ next ∷ [])
apart_more start contents [] next apart all = tt
apart_more start contents (span ∷ spans) next apart all =
    behind_more start contents (start span + length (contents span)) spans next apart all.0 all.1

pub apart_next : {X : Type 0} (start : X → ℕ) (contents : X → List (List ℕ)) (place : ℕ) (old new : List X)
    (run : X) (b : Bool) → MatchBool b (new ≡ old) (new ≡ old ++ run ∷ []) → start run ≡ place →
    (b ≡ false → AllByRecursion (λ span. start span + length (contents span) < place) old) →
    StandApart start contents old → StandApart start contents new
apart_next start contents place old new run true same from below apart =
    subst (λ (spans : List _). StandApart start contents spans) (sym same) apart
apart_next start contents place old new run false more from below apart =
    subst (λ (spans : List _). StandApart start contents spans) (sym more)
    (apart_more start contents old run apart (all-map (λ span. start span + length (contents span) < place)
    (λ span. start span + length (contents span) < start run) (λ span less. omega arith) old (below refl)))

-- each used run ends by the place that was reached
pub ends_next : {X : Type 0} (start : X → ℕ) (contents : X → List (List ℕ)) (place next : ℕ) (old new : List X)
    (run : X) (b : Bool) → MatchBool b (new ≡ old) (new ≡ old ++ run ∷ []) →
    start run + length (contents run) ≤ next → place ≤ next →
    AllByRecursion (λ span. start span + length (contents span) ≤ place) old →
    AllByRecursion (λ span. start span + length (contents span) ≤ next) new
ends_next start contents place next old new run true same ends later all =
    subst (λ (spans : List _). AllByRecursion (λ span. start span + length (contents span) ≤ next) spans) (sym same)
    (all-map (λ span. start span + length (contents span) ≤ place)
    (λ span. start span + length (contents span) ≤ next) (λ span less. omega arith) old all)
ends_next start contents place next old new run false more ends later all =
    subst (λ (spans : List _). AllByRecursion (λ span. start span + length (contents span) ≤ next) spans) (sym more)
    (all-append (λ span. start span + length (contents span) ≤ next) old (run ∷ [])
    (all-map (λ span. start span + length (contents span) ≤ place)
    (λ span. start span + length (contents span) ≤ next) (λ span less. omega arith) old all) (ends, tt))

-- and before it where the page there isn't free
pub gap_next : {X : Type 0} (start : X → ℕ) (contents : X → List (List ℕ)) (place next : ℕ) (old new : List X)
    (run : X) (b : Bool) → MatchBool b (new ≡ old) (new ≡ old ++ run ∷ []) → place < next → (b ≡ false → ⊥) →
    AllByRecursion (λ span. start span + length (contents span) ≤ place) old →
    AllByRecursion (λ span. start span + length (contents span) < next) new
gap_next start contents place next old new run true same later other all =
    subst (λ (spans : List _). AllByRecursion (λ span. start span + length (contents span) < next) spans) (sym same)
    (all-map (λ span. start span + length (contents span) ≤ place)
    (λ span. start span + length (contents span) < next) (λ span less. omega arith) old all)
gap_next start contents place next old new run false more later other all = absurd (other refl)

-- the slots hold what the row's free pages hold
pub all_held : {X : Type 0} (contents : X → List (List ℕ)) (free : List Bool) (pages : List (List ℕ))
    (slots : List (Option X)) → length slots ≡ length free → length free ≡ length pages →
    ((p : ℕ) → p < length free → page_held contents (span_in slots p) ≡ get_or (held_where free pages) p []) →
    pages_held contents slots ≡ held_where free pages
all_held contents free pages slots count e each =
    let size : length (pages_held contents slots) ≡ length free = length-map slots (page_held contents) ∙ count in
    ext_get_or [] (pages_held contents slots) (held_where free pages) (size ∙ sym (length-held_where free pages e))
    (λ p less. held_at contents slots p ∙ each p (omega arith))

-- before the first cut
pub rest_at_start : {X : Type 0} (start : X → ℕ) (contents : X → List (List ℕ)) (span : X) →
    0 < length (contents span) → IsRest start contents (start span) (contents span) 0 (Some span)
rest_at_start start contents span some = (some, omega arith, refl)

pub rest_more : {X : Type 0} (start : X → ℕ) (contents : X → List (List ℕ)) (first at n end : ℕ)
    (pages : List (List ℕ)) (span : X) (rest : Option X) → end ≡ at + n → at + n ≤ length pages →
    start span ≡ first + at → contents span ≡ drop at pages →
    IsRest start contents (start span) (contents span) n rest → IsRest start contents first pages end rest
rest_more start contents first at n end pages span None e fits from held r = omega (arith, ap length held, length-drop at pages)
rest_more start contents first at n end pages span (Some x) e fits from held r = (
  omega (arith, r.0, ap length held, length-drop at pages),
  omega (arith, r.1),
  r.2 ∙ ap (λ (ps : List (List ℕ)). drop n ps) held ∙ drop-drop n at pages ∙ ap (λ (k : ℕ). drop k pages) (sym e),
)

-- no page is locked in the empty set
none_locked : (n at : ℕ) → has_page (replicate n false) at ≡ false
none_locked zero at = refl
none_locked (suc n) zero = refl
none_locked (suc n) (suc at) = none_locked n at

pub opened_space : (number first size order : ℕ) (free locked : List Bool) (held : List (List ℕ)) → 4 ≤ order →
    order ≤ 14 → length free ≡ 2 ^ order → first + 2 ^ order < 2 ^ 32 → 16 + 2 ^ order / 8 ≤ size →
    locked ≡ replicate (2 ^ order) false →
    length held ≡ length free → ((at : ℕ) → has_page free at ≡ false → get_or held at [] ≡ []) →
    IsSpace (record { number = number; first = first; page = size; free = free; locked = locked; held = held })
opened_space number first size order free locked held low high count range fits none holds nothing =
    let eighth : length free / 8 ≡ 2 ^ order / 8 = ap (λ (k : ℕ). k / 8) count in
    record {
      order = order;
      order_low = low;
      order_high = high;
      size = count;
      locks = ap length none ∙ length-replicate (2 ^ order) false ∙ sym count;
      holds = holds;
      nothing = nothing;
      apart = λ at _ h. false≢true (sym (ap (λ (l : List Bool). has_page l at) none ∙ none_locked (2 ^ order) at) ∙ h);
      range = omega arith;
      fits = omega arith;
    }
