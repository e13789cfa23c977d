-- The last check, space by space and page by page.
use Rattle.std.proofs.Common.{◌≡◌, ℕ, zero, suc, ◌+◌, ◌<◌, ◌≤◌, Bool, true, ◌||◌, Option, Some, None, is_some, List}
use Rattle.std.proofs.Common.{refl, sym, ap}
use Rattle.std.proofs.Common.{◌∙◌, inl, inr, arith}
use Rattle.std.specs.Prelude.{IfSome}
use Rattle.std.specs.List.{range_with_len}
use Rattle.std.proofs.lemmas.Bool.{cases_lt}
use Rattle.geometry_model.specs.Numbers.{Numbers, space_pages}
use Rattle.geometry_model.specs.Pages.{data_page, is_data_page}
use Rattle.geometry_model.proofs.PageLaws.{place-data_page}
use Rattle.block_model.specs.Block.{has_page}
use Rattle.span_store.specs.Held.{Held}
use Rattle.image_model.specs.Image.{free_of_space}
use Rattle.image_model.specs.Checks.{Refusal, Walk, Checked, then_check, check, check_space, each, is_free_at, is_met}
use Rattle.image_model.specs.Checks.Checked.{Passed, Failed}
use Rattle.image_model.specs.Checks.Refusal.{PageLost}
use Rattle.image_check.specs.declared.owner.Owner.{Owner}
use Rattle.image_check.specs.declared.owner.Owner.TheVariants.{Free, Nobody, Object}
use Rattle.image_check.specs.declared.failure.CheckFail.{CheckFail}
use Rattle.image_check.specs.declared.failure.CheckFail.TheVariants.{PageLost as LostFails}
use Rattle.image_check.specs.Owners.{HasNoneLost, HasNoneLostIn, KeptWalk, IsMarked, is_unused, is_owned, owner_at}
use Rattle.image_check.specs.Verdicts.{IsVerdict, IsWalk, Judges, Shows, refusal_named}
use Rattle.image_check.proofs.OwnerLemmas.{free-same}

-- ---- checks of numbers in a row that leave the walk as it is

walks-on : (step : ℕ → Walk → Checked) (from count : ℕ) (walk : Walk) →
    ((i : ℕ) → from ≤ i → i < from + count → step i walk ≡ Passed walk) → each step (range_with_len from count) walk ≡ Passed walk
walks-on step from zero walk passes = refl
walks-on step from (suc count) walk passes =
    ap (λ (c : Checked). then_check c (each step (range_with_len (from + 1) count))) (passes from (omega arith) (omega arith))
    ∙ walks-on step (from + 1) count walk (λ i low high. passes i (omega (arith, low)) (omega (arith, high)))

stops-at : (step : ℕ → Walk → Checked) (from count i : ℕ) (walk : Walk) (r : Refusal) →
    from ≤ i → i < from + count → ((k : ℕ) → from ≤ k → k < i → step k walk ≡ Passed walk) → step i walk ≡ Failed r →
    each step (range_with_len from count) walk ≡ Failed r
stops-at step from zero i walk r low high passes fails = absurd (omega (arith, low, high))
stops-at step from (suc count) i walk r low high passes fails =
    elim (cases_lt from i) [
      | inl before ↦
          ap (λ (c : Checked). then_check c (each step (range_with_len (from + 1) count))) (passes from (omega arith) before)
          ∙ stops-at step (from + 1) count i walk r (omega (arith, before)) (omega (arith, high))
          (λ k from_k to_k. passes k (omega (arith, from_k)) to_k) fails
      | inr here ↦
          let same : i ≡ from = omega (arith, low, here) in
          ap (λ (c : Checked). then_check c (each step (range_with_len (from + 1) count)))
          (ap (λ (k : ℕ). step k walk) (sym same) ∙ fails)
    ]

answers-at : (step : ℕ → Walk → Checked) (count i : ℕ) (walk : Walk) (kept : KeptWalk) (fail : CheckFail) →
    i < count → ((k : ℕ) → k < i → step k walk ≡ Passed walk) → IsVerdict kept (Some fail) (step i walk) →
    IsVerdict kept (Some fail) (each step (range_with_len 0 count) walk)
answers-at step count i walk kept fail inside passes failed = by-name (refusal_named fail) failed
  where
    by-name : (r : Option Refusal) → IfSome r (λ refusal. step i walk ≡ Failed refusal) →
        IfSome r (λ refusal. each step (range_with_len 0 count) walk ≡ Failed refusal)
    by-name None failed = tt
    by-name (Some r) failed =
        stops-at step 0 count i walk r (omega arith) (omega (arith, inside)) (λ k low high. passes k high) failed

-- ---- one page

-- the test of a page, by its owner
abbrev known : Numbers → List ℕ → ℕ → Walk → ℕ → Bool
known n bytes s walk at = has_page (free_of_space n bytes s) at || is_met walk (data_page n s at)

known-by : (n : Numbers) (held : Held) (kept : KeptWalk) (bytes : List ℕ) (walk : Walk) (s at : ℕ) → s < n.spaces → at < space_pages n →
    IsMarked n held kept → Shows n bytes held → IsWalk kept walk → (owner : Owner) → owner_at kept (data_page n s at) ≡ owner →
    known n bytes s walk at ≡ (is_unused owner || is_owned owner)
known-by n held kept bytes walk s at store inside marked shows is owner same =
    let q = data_page n s at in
    let place = place-data_page n s at store inside in
    let on : is_data_page n q ≡ true = ap (λ (o : Option (ℕ × ℕ)). is_some o) place in
    let free : has_page (free_of_space n bytes s) at ≡ is_unused owner =
    sym (ap (is_free_at n bytes) place) ∙ free-same n held kept bytes q on marked shows ∙ ap is_unused same in
    let met : is_met walk q ≡ is_owned owner = is.met q ∙ ap is_owned same in
    ap (λ (b : Bool). b || is_met walk q) free ∙ ap (λ (b : Bool). is_unused owner || b) met

-- a page with an owner, or a free one, passes
page-passes : (n : Numbers) (held : Held) (kept : KeptWalk) (bytes : List ℕ) (walk : Walk) (s at : ℕ) → s < n.spaces → at < space_pages n →
    IsMarked n held kept → Shows n bytes held → IsWalk kept walk → (owner_at kept (data_page n s at) ≡ Nobody → ⊥) →
    check (known n bytes s walk at) (PageLost (data_page n s at)) walk ≡ Passed walk
page-passes n held kept bytes walk s at store inside marked shows is not_lost =
    by-owner (owner_at kept (data_page n s at)) refl
  where
    passes : (owner : Owner) → owner_at kept (data_page n s at) ≡ owner → (is_unused owner || is_owned owner) ≡ true →
        check (known n bytes s walk at) (PageLost (data_page n s at)) walk ≡ Passed walk
    passes owner same good = ap (λ (b : Bool). check b (PageLost (data_page n s at)) walk)
        (known-by n held kept bytes walk s at store inside marked shows is owner same ∙ good)

    by-owner : (owner : Owner) → owner_at kept (data_page n s at) ≡ owner →
        check (known n bytes s walk at) (PageLost (data_page n s at)) walk ≡ Passed walk
    by-owner Free same = passes Free same refl
    by-owner Nobody same = absurd (not_lost same)
    by-owner (Object o) same = passes (Object o) same refl

-- ---- a space, and all of them

pub space-passes : (n : Numbers) (held : Held) (kept : KeptWalk) (bytes : List ℕ) (walk : Walk) (s : ℕ) → s < n.spaces →
    IsMarked n held kept → Shows n bytes held → IsWalk kept walk → HasNoneLostIn n s kept → check_space n bytes s walk ≡ Passed walk
space-passes n held kept bytes walk s store marked shows is none =
    walks-on (λ at walk. check (known n bytes s walk at) (PageLost (data_page n s at)) walk) 0 (space_pages n) walk
    (λ at low high. page-passes n held kept bytes walk s at store (omega (arith, high)) marked shows is (none at (omega (arith, high))))

pub space-judged : (n : Numbers) (held : Held) (kept : KeptWalk) (s : ℕ) → s < n.spaces → IsMarked n held kept →
    HasNoneLostIn n s kept → Judges n held kept kept None (λ bytes. check_space n bytes s)
space-judged n held kept s store marked none bytes walk shows is =
    (walk, space-passes n held kept bytes walk s store marked shows is none, is)

-- the first page that is used and nobody's
pub space-lost : (n : Numbers) (held : Held) (kept : KeptWalk) (s at : ℕ) → s < n.spaces → at < space_pages n → IsMarked n held kept →
    ((i : ℕ) → i < at → owner_at kept (data_page n s i) ≡ Nobody → ⊥) → owner_at kept (data_page n s at) ≡ Nobody →
    Judges n held kept kept (Some (LostFails (data_page n s at))) (λ bytes. check_space n bytes s)
space-lost n held kept s at store inside marked before lost bytes walk shows is =
    stops-at (λ at walk. check (known n bytes s walk at) (PageLost (data_page n s at)) walk) 0 (space_pages n) at walk
    (PageLost (data_page n s at)) (omega arith) (omega (arith, inside))
    (λ i low high. page-passes n held kept bytes walk s i store (omega (arith, high, inside)) marked shows is (before i high))
    (ap (λ (b : Bool). check b (PageLost (data_page n s at)) walk)
    (known-by n held kept bytes walk s at store inside marked shows is Nobody lost))

pub store-judged : (n : Numbers) (held : Held) (kept : KeptWalk) → IsMarked n held kept → HasNoneLost n kept →
    Judges n held kept kept None (λ bytes. each (check_space n bytes) (range_with_len 0 n.spaces))
store-judged n held kept marked none bytes walk shows is =
    let all = walks-on (check_space n bytes) 0 n.spaces walk
    (λ s low high. space-passes n held kept bytes walk s (omega (arith, high)) marked shows is (none s (omega (arith, high)))) in
    (walk, all, is)

pub store-lost : (n : Numbers) (held : Held) (kept : KeptWalk) (s : ℕ) (fail : CheckFail) → s < n.spaces → IsMarked n held kept →
    ((i : ℕ) → i < s → HasNoneLostIn n i kept) → Judges n held kept kept (Some fail) (λ bytes. check_space n bytes s) →
    Judges n held kept kept (Some fail) (λ bytes. each (check_space n bytes) (range_with_len 0 n.spaces))
store-lost n held kept s fail store marked none judged bytes walk shows is =
    answers-at (check_space n bytes) n.spaces s walk kept fail store
    (λ i high. space-passes n held kept bytes walk i (omega (arith, high, store)) marked shows is (none i high))
    (judged bytes walk shows is)
