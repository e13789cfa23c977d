-- An edit on granted pages keeps a moment sound, and frees what its object uses no more.
use Rattle.std.proofs.Common.{◌≡◌, ◌&&◌, ℕ, ◌+◌, ◌*◌, ◌/◌, ◌<◌, ◌≤◌, min, Bool, true, false, Option, Some, None}
use Rattle.std.proofs.Common.{length, refl, sym, ap, subst, arith, ◌∙◌, inl, inr, nat_eq, ◌||◌, nat_lt}
use Rattle.std.specs.Prelude.{nat_le}
use Rattle.std.proofs.lemmas.Bool.{cases_Bool, cases_lt, leb-true, eqb-false, false≢true, eq-eqb, ne_eqb}
use Rattle.geometry_model.specs.Numbers.{Numbers, IsInRange, space_pages}
use Rattle.geometry_model.specs.Pages.{IsPlace}
use Rattle.geometry_model.proofs.NumberLaws.{space_pages-low}
use Rattle.eos_ops.specs.declared.edit.Edit.{Edit}
use Rattle.eos_ops.specs.declared.edit.Edit.TheVariants.{Create, Destroy, Append, Insert, Delete, Replace}
use Rattle.layout_model.specs.declared.change.Change.{Change}
use Rattle.layout_model.specs.Grants.{Spaces, Answer}
use Rattle.layout_model.specs.Grants.Answer.{Got, Refused}
use Rattle.layout_model.specs.Layout.{Tree, Grants, granted, laid}
use Rattle.layout_laws.proofs.HalvingLemmas.{no_grant, got_same}
use Rattle.moment_model.specs.Version.{Version, IsGood, IsGoodVersion, tree_bytes, uses, version_uses}
use Rattle.moment_model.specs.Moment.{ObjectSlot, Moment, object_slot, with_object_slot, free_of, is_free, IsSound}
use Rattle.moment_model.specs.Moment.{either_uses, count_true}
use Rattle.moment_model.specs.Edit.Effect.{Refuses, Stays, Becomes, Changes}
use Rattle.moment_model.specs.Edit.{Effect, given_threshold, empty_tree, change_within, change_at, effect_on}
use Rattle.moment_model.specs.Edit.{with_working, on_grants, after_effect, edited_slot}
use Rattle.moment_laws.specs.Change.{Grows}
use Rattle.moment_laws.specs.Granting.{granted_runs, is_among}
use Rattle.moment_laws.proofs.GrantLemmas.{granted-took, free_of-spaces, took-free, is_among-free}
use Rattle.moment_laws.proofs.ChangeLemmas.{sound-grown, slot_cases, is_free-after, free-unused}
use Rattle.change_laws.specs.Tail.{IsTail, HaveTails}
use Rattle.change_laws.specs.Laying.{IsChange}
use Rattle.soundness_laws.specs.Keeping.{AsksThreshold}
use Rattle.soundness_laws.specs.LetGo.{laid_slot, is_let_go}
use Rattle.change_laws.proofs.SuitLemmas.{granted-suits}
use Rattle.change_laws.proofs.ChangeLemmas.{granted-used, laid-on}

-- ---- an edit of an object

-- what an effect has to be
abbrev pub IsEffect : Numbers → ObjectSlot → Effect → Type 0
IsEffect n slot Refuses = Unit {0}
IsEffect n slot Stays = Unit {0}
IsEffect n slot (Becomes version) = IsGoodVersion IsGood n version × ((page : ℕ) → version_uses n page version ≡ 0)
IsEffect n slot (Changes tree change) = (slot.working ≡ Some tree) × IsChange tree change

-- an empty object
empty-uses : (n : Numbers) (page threshold : ℕ) → version_uses n page (Some (empty_tree threshold)) ≡ 0
empty-uses n page threshold = refl

empty-good : (n : Numbers) (threshold : ℕ) → 1 ≤ threshold → 2 * threshold ≤ space_pages n → IsGood n (empty_tree threshold)
empty-good n threshold low high = record {
  shape = tt;
  nodes = tt;
  segments = tt;
  neighbours = tt;
  threshold_low =
      low;
  threshold_high = high;
}

threshold-fits : (n : Numbers) (threshold : Option ℕ) → IsInRange n → AsksThreshold (Create threshold) →
    (1 ≤ given_threshold n threshold) × (2 * given_threshold n threshold ≤ space_pages n)
threshold-fits n None range asks = (range.threshold_low, range.threshold_high)
threshold-fits n (Some t) range asks =
    let space = space_pages-low n range in
    let low : 1 ≤ min t (space_pages n / 2) = omega (arith, asks, space) in
    let high : 2 * min t (space_pages n / 2) ≤ space_pages n = omega arith in
    (low, high)

-- a change within an object
change-effect : (n : Numbers) (slot : ObjectSlot) (tree : Tree) (change : Change) → slot.working ≡ Some tree →
    (change.appends ≡ true → (change.at ≡ tree_bytes tree) × (change.removed ≡ 0)) →
    IsEffect n slot (change_within tree change)
change-effect n slot tree change working ends =
    elim (cases_Bool (nat_le (change.at + change.removed) (tree_bytes tree))) [
      | inr past_end ↦
          let step : change_within tree change ≡ Refuses = rw (past_end, change_within) in
          subst (IsEffect n slot) (sym step) tt
      | inl within ↦
          elim (cases_Bool (nat_eq (change.removed + change.added) 0)) [
            | inl nothing ↦
                let step : change_within tree change ≡ Stays = rw (within, nothing, change_within) in
                subst (IsEffect n slot) (sym step) tt
            | inr something ↦
                let step : change_within tree change ≡ Changes tree change = rw (within, something, change_within) in
                let any = eqb-false (change.removed + change.added) 0 something in
                let some : 0 < change.removed + change.added = elim (cases_lt 0 (change.removed + change.added)) [
                  | inl more ↦ more
                  | inr none ↦ absurd (any (omega (arith, none)))
                ] in
                subst (IsEffect n slot) (sym step) (
                  working,
                  record {
                    within = leb-true (change.at + change.removed) (tree_bytes tree) within;
                    some = some;
                    at_end = ends;
                  },
                )
          ]
    ]

no_append : {P : Type 0} → false ≡ true → P
no_append same = absurd (false≢true same)

pub effect-is : (n : Numbers) (slot : ObjectSlot) (edit : Edit) (version : Version) → IsInRange n →
    AsksThreshold edit → slot.working ≡ version → IsEffect n slot (effect_on n edit version)
effect-is n slot (Create threshold) None range asks working =
    let fits = threshold-fits n threshold range asks in
    (empty-good n (given_threshold n threshold) fits.0 fits.1, λ page. empty-uses n page (given_threshold n threshold))
effect-is n slot (Create threshold) (Some tree) range asks working = tt
effect-is n slot Destroy None range asks working = tt
effect-is n slot Destroy (Some tree) range asks working = (tt, λ page. refl)
effect-is n slot (Append bytes) None range asks working = tt
effect-is n slot (Append bytes) (Some tree) range asks working =
    change-effect n slot tree (change_at (tree_bytes tree) 0 (length bytes) true) working (λ append. (refl, refl))
effect-is n slot (Insert at bytes) None range asks working = tt
effect-is n slot (Insert at bytes) (Some tree) range asks working =
    change-effect n slot tree (change_at at 0 (length bytes) false) working (λ append. no_append append)
effect-is n slot (Delete at count) None range asks working = tt
effect-is n slot (Delete at count) (Some tree) range asks working =
    change-effect n slot tree (change_at at count 0 false) working (λ append. no_append append)
effect-is n slot (Replace at bytes) None range asks working = tt
effect-is n slot (Replace at bytes) (Some tree) range asks working =
    change-effect n slot tree (change_at at (length bytes)
    (length bytes) false) working (λ append. no_append append)

-- an object after an edit, on pages that a test allows
pub record Edited (n : Numbers) (is_open : ℕ → Bool) (before after : ObjectSlot) : Type 0 where
  pub grows : Grows IsGood n is_open before after
  pub tail : IsTail n after.working after.spare

-- a slot that stays
stays-edited : (n : Numbers) (is_open : ℕ → Bool) (slot : ObjectSlot) → IsGoodVersion IsGood n slot.working →
    IsTail n slot.working slot.spare → Edited n is_open slot slot
stays-edited n is_open slot good tail = record {
  grows = record { committed = refl; working = good; within = λ page. omega arith; spare_within = λ page. omega arith };
  tail = tail;
}

pub effect-edited : (n : Numbers) (start : ℕ) (moment : Moment) (slot : ObjectSlot) (effect : Effect)
    (after : ObjectSlot) (left : Spaces) → IsInRange n → IsGoodVersion IsGood n slot.working →
    IsTail n slot.working slot.spare → IsEffect n slot effect → after_effect n start (free_of n moment) slot effect ≡ Got after left →
    Edited n (λ page. is_free n page moment) slot after
effect-edited n start moment slot Refuses after left range good tail is got =
    subst (Edited n (λ page. is_free n page moment) slot) (got_same slot after (free_of n moment) left got)
    (stays-edited n (λ page. is_free n page moment) slot good tail)
effect-edited n start moment slot Stays after left range good tail is got =
    subst (Edited n (λ page. is_free n page moment) slot) (got_same slot after (free_of n moment) left got)
    (stays-edited n (λ page. is_free n page moment) slot good tail)
effect-edited n start moment slot (Becomes version) after left range good tail is got =
    subst (Edited n (λ page. is_free n page moment) slot)
    (got_same (with_working slot version None) after (free_of n moment) left got) (record {
      grows = record {
        committed = refl;
        working = is.0;
        within = λ page. let none = is.1 page in omega (arith, none);
        spare_within = λ page. omega arith;
      };
      tail = tt;
    })
effect-edited n start moment slot (Changes tree change) after left range good tail is got =
    go (granted n start tree slot.spare change (free_of n moment)) refl got
  where
    go : (answer : Answer Grants) → granted n start tree slot.spare change (free_of n moment) ≡ answer →
        on_grants n slot tree change answer ≡ Got after left →
        Edited n (λ page. is_free n page moment) slot after
    go (Refused pages) was got = absurd (no_grant pages after left got)
    go (Got grants rest) was got =
        let spaces = free_of-spaces n moment in
        let good_tree : IsGood n tree = subst (IsGoodVersion IsGood n) is.0 good in
        let tail_tree : IsTail n (Some tree) slot.spare = subst (λ (v : Version). IsTail n v slot.spare) is.0 tail in
        let suits = granted-suits n start tree slot.spare change (free_of n moment) rest grants spaces was in
        let on = laid-on n tree slot.spare change grants range good_tree tail_tree is.1 suits in
        let took = granted-took n start tree slot.spare change (free_of n moment) rest grants spaces was in
        let new = laid n tree slot.spare change grants in
        subst (Edited n (λ page. is_free n page moment) slot)
        (got_same (with_working slot (Some new.tree) new.spare) after rest left got) (record {
          grows = record {
            committed = refl;
            working = on.good;
            within = λ page.
                let bound = on.within page in
                let free = took-free n moment (granted_runs grants) rest took page in
                let old : version_uses n page slot.working ≡ version_uses n page (Some tree) = ap (version_uses n page) is.0 in
                omega (arith, bound, free, old);
            spare_within = λ page.
                let bound = on.spare_within page in
                let free = took-free n moment (granted_runs grants) rest took page in
                omega (arith, bound, free);
          };
          tail = on.tail;
        })

-- an edit on granted pages keeps the moment sound, and each spare behind its object's last entry
pub edited-sound : (n : Numbers) (held : ℕ → Bool) (start : ℕ) (moment : Moment) (o : ℕ) (edit : Edit)
    (after : ObjectSlot) (left : Spaces) → IsInRange n → IsSound IsGood n held moment → HaveTails n moment →
    held o ≡ true → AsksThreshold edit → edited_slot n start (free_of n moment) (object_slot moment o) edit ≡ Got after left →
    IsSound IsGood n held (with_object_slot moment o after) × HaveTails n (with_object_slot moment o after)
unfolding edited_slot
edited-sound n held start moment o edit after left range sound tails holds asks got =
    let slot = object_slot moment o in
    let edited = effect-edited n start moment slot (effect_on n edit slot.working) after left range
    (sound.kept o).working (tails o) (effect-is n slot edit slot.working range asks refl) got in (
      sound-grown IsGood n held moment o after sound holds edited.grows,
      λ q. elim (slot_cases moment o q after) [
        | inl new ↦ subst (λ (s : ObjectSlot). IsTail n s.working s.spare) (sym new.1) edited.tail
        | inr old ↦ subst (λ (s : ObjectSlot). IsTail n s.working s.spare) (sym old) (tails q)
      ],
    )

-- a page after a change: left by the grants, or the object's before and no more
free-numbers : (left was : Bool) (r e e2 : ℕ) → count_true left + r ≡ count_true was → e2 ≤ e + r → r ≤ e2 → (was ≡ true → e ≡ 0) →
    (nat_eq e2 0 && (was || nat_lt 0 e)) ≡ (left || (nat_eq e2 0 && nat_lt 0 e))
free-numbers true true r e e2 took upper lower unused =
    let sum : 1 + r ≡ 1 = took in
    let none = unused refl in
    let gone : nat_eq e2 0 ≡ true = eq-eqb e2 0 (omega (arith, sum, none, upper)) in
    ap (λ (b : Bool). b && true) gone
free-numbers true false r e e2 took upper lower unused = let sum : 1 + r ≡ 0 = took in absurd (omega (arith, sum))
free-numbers false true r e e2 took upper lower unused =
    let sum : 0 + r ≡ 1 = took in
    let used : nat_eq e2 0 ≡ false = ne_eqb e2 0 (λ none. omega (arith, sum, none, lower)) in
    ap (λ (b : Bool). b && true) used ∙ sym (ap (λ (b : Bool). b && nat_lt 0 e) used)
free-numbers false false r e e2 took upper lower unused = refl

-- the free pages after a change on granted pages
pub free-after_change : (n : Numbers) (held : ℕ → Bool) (start : ℕ) (moment : Moment) (o : ℕ) (tree : Tree)
    (change : Change) (left : Spaces) (grants : Grants) → IsInRange n → IsSound IsGood n held moment →
    HaveTails n moment → o < length moment → (object_slot moment o).working ≡ Some tree → IsChange tree change →
    granted n start tree (object_slot moment o).spare change (free_of n moment) ≡ Got grants left → (page s at : ℕ) → IsPlace n page s at →
    is_free n page (with_object_slot moment o (laid_slot (object_slot moment o) (laid n tree (object_slot moment o).spare change grants)))
    ≡ (is_among n left page || is_let_go n page (object_slot moment o)
    (laid_slot (object_slot moment o) (laid n tree (object_slot moment o).spare change grants)))
free-after_change n held start moment o tree change left grants range sound tails within working is got page s at place_is =
    let slot = object_slot moment o in
    let new = laid n tree slot.spare change grants in
    let after = laid_slot slot new in
    let spaces = free_of-spaces n moment in
    let good : IsGood n tree = subst (IsGoodVersion IsGood n) working (sound.kept o).working in
    let tail : IsTail n (Some tree) slot.spare = subst (λ (v : Version). IsTail n v slot.spare) working (tails o) in
    let suits = granted-suits n start tree slot.spare change (free_of n moment) left grants spaces got in
    let on = laid-on n tree slot.spare change grants range good tail is suits in
    let used = granted-used n tree slot.spare change grants range good tail is suits page in
    let took = granted-took n start tree slot.spare change (free_of n moment) left grants spaces got in
    let once = took.once page in
    let same = ap count_true (is_among-free n moment page s at place_is) in
    let bound = on.within page in
    let old : version_uses n page slot.working ≡ version_uses n page (Some tree) = ap (version_uses n page) working in
    is_free-after IsGood n held moment o after sound within page
    ∙ free-numbers (is_among n left page) (is_free n page moment) (uses page (granted_runs grants))
    (either_uses n page slot) (either_uses n page after)
    (omega (arith, once, same)) (omega (arith, bound, old)) (omega (arith, used)) (λ free. free-unused n moment page free o)
