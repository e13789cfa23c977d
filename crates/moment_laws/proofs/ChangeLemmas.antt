-- A change of one object: what keeps the moment sound, and which pages are free and locked after it.
use Rattle.std.proofs.Common.{◌≡◌, ◌≢◌, ℕ, ◌+◌, ◌<◌, ◌≤◌, Bool, true, ◌&&◌, ◌||◌, length, refl, sym, subst, arith}
use Rattle.std.proofs.Common.{◌∙◌, ◌⊎◌, inl, inr, nat_eq, nat_lt, get_or-set_same, get_or-set_other}
use Rattle.std.proofs.lemmas.Bool.{cases_eq, cases_lt, cases_Bool, false≢true, and_parts, eqb-true}
use Rattle.std.proofs.lemmas.Bool.Decides.{nat_tests}
use Rattle.std.proofs.lemmas.List.{set_past}
use Rattle.std.proofs.lemmas.List.Sums.{sum_by-set}
use Rattle.geometry_model.specs.Numbers.{Numbers}
use Rattle.layout_model.specs.Layout.{Tree}
use Rattle.moment_model.specs.Version.{spare_uses, version_uses, IsGoodVersion}
use Rattle.moment_model.specs.Moment.{ObjectSlot, Moment, absent_slot, object_slot, with_object_slot}
use Rattle.moment_model.specs.Moment.{committed_uses, working_uses, either_uses, all_committed, all_working}
use Rattle.moment_model.specs.Moment.{is_free, is_locked, IsAtRest, IsSound, count_true}
use Rattle.moment_laws.specs.ByObject.{IsSoundSlot, IsSoundByObject}
use Rattle.moment_laws.specs.Change.{Grows, free_after, locked_after}
use Rattle.moment_laws.proofs.SumLemmas.{part_within, sum_alone}
use Rattle.moment_laws.proofs.ByObjectLemmas.{committed-absent_slot, working-absent_slot, by_object-from_sound, sound-from_by_object}

-- a slot after a change of one object is the new one, or the one that stood there
pub slot_cases : (moment : Moment) (o q : ℕ) (after : ObjectSlot) →
    ((o ≡ q) × (object_slot (with_object_slot moment o after) q ≡ after))
    ⊎ (object_slot (with_object_slot moment o after) q ≡ object_slot moment q)
slot_cases moment o q after =
    elim (cases_eq o q) [
      | inr differ ↦ inr (get_or-set_other moment o q after absent_slot (λ same. differ (sym same)))
      | inl same ↦
          elim (cases_lt o (length moment)) [
            | inl within ↦ inl (
              same,
              subst (λ (k : ℕ). object_slot (with_object_slot moment o after) k
                  ≡ after) same (get_or-set_same moment o after absent_slot within),
            )
            | inr past ↦
                let stays = set_past moment o after past in
                let P : Moment → Type 0 = λ m. object_slot m q ≡ object_slot moment q in
                inr (subst P (sym stays) refl)
          ]
    ]

-- a free page is used by no object
pub free-unused : (n : Numbers) (moment : Moment) (page : ℕ) → is_free n page moment ≡ true → (o : ℕ) →
    either_uses n page (object_slot moment o) ≡ 0
free-unused n moment page free o =
    let tests = and_parts (nat_eq (all_committed n page moment) 0) (nat_eq (all_working n page moment) 0) free in
    let no_committed = eqb-true (all_committed n page moment) 0 tests.0 in
    let no_working = eqb-true (all_working n page moment) 0 tests.1 in
    let committed = part_within (committed_uses n page) absent_slot (committed-absent_slot n page) moment o in
    let working = part_within (working_uses n page) absent_slot (working-absent_slot n page) moment o in
    omega (arith, no_committed, no_working, committed, working)

-- a page that the new state uses was the old state's, or free
grown_from : (good : Numbers → Tree → Type 0) (n : Numbers) (is_open : ℕ → Bool) (before after : ObjectSlot) →
    Grows good n is_open before after → (page : ℕ) → 0 < either_uses n page after →
    (0 < either_uses n page before) ⊎ (is_open page ≡ true)
grown_from good n is_open before after grows page some =
    elim (cases_Bool (is_open page)) [
      | inl free ↦ inr free
      | inr taken ↦
          let same : committed_uses n page after ≡ committed_uses n page before =
          subst (λ v. committed_uses n page after ≡ version_uses n page v) grows.committed refl in
          let P : Bool → Type 0 = λ b. working_uses n page after ≤ working_uses n page before + count_true b in
          let within : working_uses n page after ≤ working_uses n page before + 0 = subst P taken (grows.within page) in
          inl (omega (arith, same, within, some))
    ]

-- the new state is sound alone
grown_alone : (good : Numbers → Tree → Type 0) (n : Numbers) (moment : Moment) (o : ℕ) (after : ObjectSlot) →
    IsSoundSlot good n (object_slot moment o) →
    Grows good n (λ page. is_free n page moment) (object_slot moment o) after → IsSoundSlot good n after
grown_alone good n moment o after alone grows =
    let before = object_slot moment o in
    let same : (page : ℕ) → committed_uses n page after ≡ committed_uses n page before =
    λ page. subst (λ v. committed_uses n page after ≡ version_uses n page v) grows.committed refl in
    record {
      committed = subst (IsGoodVersion good n) (sym grows.committed) alone.committed;
      working = grows.working;
      committed_once = λ page. let once = alone.committed_once page in omega (arith, same page, once);
      working_once = λ page. elim (cases_Bool (is_free n page moment)) [
        | inl free ↦
            let P : Bool → Type 0 = λ b. working_uses n page after ≤ working_uses n page before + count_true b in
            let within : working_uses n page after ≤ working_uses n page before + 1 = subst P free (grows.within page) in
            let unused = free-unused n moment page free o in
            omega (arith, within, unused)
        | inr taken ↦
            let P : Bool → Type 0 = λ b. working_uses n page after ≤ working_uses n page before + count_true b in
            let within : working_uses n page after ≤ working_uses n page before + 0 = subst P taken (grows.within page) in
            let once = alone.working_once page in
            omega (arith, within, once)
      ];
      spare_apart = λ page some. elim (cases_Bool (is_free n page moment)) [
        | inl free ↦
            let unused = free-unused n moment page free o in
            omega (arith, same page, unused)
        | inr taken ↦
            let P : Bool → Type 0 = λ b. spare_uses page after.spare ≤ spare_uses page before.spare + count_true b in
            let within : spare_uses page after.spare ≤ spare_uses page before.spare + 0 = subst P taken (grows.spare_within page) in
            let none = alone.spare_apart page (omega (arith, within, some)) in
            omega (arith, same page, none)
      ];
    }

-- two objects share no page after a change of one
grown_apart : (good : Numbers → Tree → Type 0) (n : Numbers) (held : ℕ → Bool) (moment : Moment) (o : ℕ)
    (after : ObjectSlot) → IsSoundByObject good n held moment →
    Grows good n (λ page. is_free n page moment) (object_slot moment o) after → (q page : ℕ) → o ≢ q →
    ((0 < either_uses n page after → either_uses n page (object_slot moment q) ≡ 0)
    × (0 < either_uses n page (object_slot moment q) → either_uses n page after ≡ 0))
grown_apart good n held moment o after sound grows q page differ =
    let left : 0 < either_uses n page after → either_uses n page (object_slot moment q) ≡ 0 = λ some.
    elim (grown_from good n (λ page. is_free n page moment) (object_slot moment o) after grows page some) [
      | inl old ↦ sound.apart o q page differ old
      | inr free ↦ free-unused n moment page free q
    ] in (
      left,
      λ some.
          elim (cases_lt 0 (either_uses n page after)) [
            | inl new ↦ let none = left new in absurd (omega (arith, none, some))
            | inr none ↦ omega (arith, none)
          ],
    )

-- the moment stays sound
pub sound_by_object-grown : (good : Numbers → Tree → Type 0) (n : Numbers) (held : ℕ → Bool) (moment : Moment)
    (o : ℕ) (after : ObjectSlot) → IsSoundByObject good n held moment →
    held o ≡ true → Grows good n (λ page. is_free n page moment) (object_slot moment o) after →
    IsSoundByObject good n held (with_object_slot moment o after)
sound_by_object-grown good n held moment o after sound holds grows = record {
  alone = λ q. elim (slot_cases moment o q after) [
    | inl new ↦ subst (IsSoundSlot good n) (sym new.1) (grown_alone good n moment o after (sound.alone o) grows)
    | inr old ↦ subst (IsSoundSlot good n) (sym old) (sound.alone q)
  ];
  apart = λ q r page differ.
      let P : ObjectSlot → ObjectSlot → Type 0 = λ s t. 0 < either_uses n page s → either_uses n page t ≡ 0 in
      elim (slot_cases moment o q after) [
        | inl new ↦
            elim (slot_cases moment o r after) [
              | inl also ↦ absurd (differ (subst (λ (k : ℕ). k ≡ r) new.0 also.0))
              | inr old ↦
                  let other : o ≢ r = λ same. differ (subst (λ (k : ℕ). k ≡ r) new.0 same) in
                  subst (λ (t : ObjectSlot). P (object_slot (with_object_slot moment o after) q) t) (sym old)
                  (subst (λ (s : ObjectSlot). P s (object_slot moment r)) (sym new.1)
                  (grown_apart good n held moment o after sound grows r page other).0)
            ]
        | inr old ↦
            elim (slot_cases moment o r after) [
              | inl new ↦
                  let other : o ≢ q = λ same. differ (subst (λ (k : ℕ). q ≡ k) new.0 (sym same)) in
                  subst (λ (t : ObjectSlot). P (object_slot (with_object_slot moment o after) q) t) (sym new.1)
                  (subst (λ (s : ObjectSlot). P s after) (sym old) (grown_apart good n held moment o after sound grows q page other).1)
              | inr also ↦
                  subst (λ (t : ObjectSlot). P (object_slot (with_object_slot moment o after) q) t) (sym also)
                  (subst (λ (s : ObjectSlot). P s (object_slot moment r)) (sym old) (sound.apart q r page differ))
            ]
      ];
  rests = λ q let_go. elim (slot_cases moment o q after) [
    | inl new ↦ absurd (false≢true (sym let_go ∙ subst (λ (k : ℕ). held k ≡ true) new.0 holds))
    | inr old ↦ subst IsAtRest (sym old) (sound.rests q let_go)
  ];
}

pub sound-grown : (good : Numbers → Tree → Type 0) (n : Numbers) (held : ℕ → Bool) (moment : Moment) (o : ℕ)
    (after : ObjectSlot) → IsSound good n held moment → held o ≡ true →
    Grows good n (λ page. is_free n page moment) (object_slot moment o) after → IsSound good n held (with_object_slot moment o after)
sound-grown good n held moment o after sound holds grows =
    sound-from_by_object good n held (with_object_slot moment o after)
    (sound_by_object-grown good n held moment o after (by_object-from_sound good n held moment sound) holds grows)

-- where an object uses a page, nobody else does: the sums are the object's own
pub record Own (c w all_c all_w : ℕ) : Type 0 where
  pub committed : c ≤ all_c
  pub working : w ≤ all_w
  pub all_own_committed : 0 < c + w → all_c ≡ c
  pub all_own_working : 0 < c + w → all_w ≡ w

pub own_sums : (good : Numbers → Tree → Type 0) (n : Numbers) (held : ℕ → Bool) (moment : Moment) (o page : ℕ) →
    IsSound good n held moment →
    Own (committed_uses n page (object_slot moment o)) (working_uses n page (object_slot moment o))
    (all_committed n page moment) (all_working n page moment)
own_sums good n held moment o page sound =
    let each = by_object-from_sound good n held moment sound in
    record {
      committed = part_within (committed_uses n page) absent_slot (committed-absent_slot n page) moment o;
      working = part_within (working_uses n page) absent_slot (working-absent_slot n page) moment o;
      all_own_committed = λ some. sum_alone (committed_uses n page) absent_slot (committed-absent_slot n page) moment o
          (λ q differ. let none = each.apart o q page differ some in omega (arith, none));
      all_own_working = λ some. sum_alone (working_uses n page) absent_slot (working-absent_slot n page) moment o
          (λ q differ. let none = each.apart o q page differ some in omega (arith, none));
    }

-- the tests before and after, as tests of numbers
free-counts : (c w all_c all_w c2 w2 all_c2 all_w2 : ℕ) → Own c w all_c all_w → all_c2 + c ≡ all_c + c2 → all_w2 + w ≡ all_w + w2 →
    (nat_eq all_c2 0 && nat_eq all_w2 0) ≡ (nat_eq (c2 + w2) 0 && ((nat_eq all_c 0 && nat_eq all_w 0) || nat_lt 0 (c + w)))
free-counts c w all_c all_w c2 w2 all_c2 all_w2 own committed working =
    elim (cases_lt 0 (c + w)) [
      | inl some ↦
          let only_c = own.all_own_committed some in
          let only_w = own.all_own_working some in
          grind (arith, nat_tests, only_c, only_w)
      | inr none ↦ grind (arith, nat_tests)
    ]

locked-counts : (c w all_c all_w c2 w2 all_c2 all_w2 : ℕ) → Own c w all_c all_w → Own c2 w2 all_c2 all_w2 →
    all_c2 + c ≡ all_c + c2 → all_w2 + w ≡ all_w + w2 →
    (nat_lt 0 all_c2 && nat_eq all_w2 0)
    ≡ ((nat_lt 0 c2 && nat_eq w2 0) || ((nat_lt 0 all_c && nat_eq all_w 0) && (nat_eq (c + w) 0 && nat_eq (c2 + w2) 0)))
locked-counts c w all_c all_w c2 w2 all_c2 all_w2 own own2 committed working =
    elim (cases_lt 0 (c2 + w2)) [
      | inl some ↦
          let only_c = own2.all_own_committed some in
          let only_w = own2.all_own_working some in
          grind (arith, nat_tests, only_c, only_w)
      | inr none2 ↦
          elim (cases_lt 0 (c + w)) [
            | inl some ↦
                let only_c = own.all_own_committed some in
                let only_w = own.all_own_working some in
                grind (arith, nat_tests, only_c, only_w)
            | inr none ↦ grind (arith, nat_tests)
          ]
    ]

pub is_free-after : (good : Numbers → Tree → Type 0) (n : Numbers) (held : ℕ → Bool) (moment : Moment) (o : ℕ)
    (after : ObjectSlot) → IsSound good n held moment → o < length moment → (page : ℕ) →
    is_free n page (with_object_slot moment o after) ≡ free_after n page (is_free n page moment) (object_slot moment o) after
is_free-after good n held moment o after sound within page =
    free-counts (committed_uses n page (object_slot moment o)) (working_uses n page (object_slot moment o))
    (all_committed n page moment) (all_working n page moment)
    (committed_uses n page after) (working_uses n page after)
    (all_committed n page (with_object_slot moment o after))
    (all_working n page (with_object_slot moment o after))
    (own_sums good n held moment o page sound)
    (sum_by-set (committed_uses n page) moment o after absent_slot within)
    (sum_by-set (working_uses n page) moment o after absent_slot within)

pub is_locked-after : (good : Numbers → Tree → Type 0) (n : Numbers) (held still : ℕ → Bool) (moment : Moment)
    (o : ℕ) (after : ObjectSlot) → IsSound good n held moment →
    IsSound good n still (with_object_slot moment o after) → o < length moment → (page : ℕ) →
    is_locked n page (with_object_slot moment o after) ≡ locked_after n page (is_locked n page moment) (object_slot moment o) after
is_locked-after good n held still moment o after sound stays within page =
    let P : ObjectSlot → Type 0 = λ s. Own (committed_uses n page s) (working_uses n page s)
    (all_committed n page (with_object_slot moment o after)) (all_working n page (with_object_slot moment o after)) in
    locked-counts (committed_uses n page (object_slot moment o)) (working_uses n page (object_slot moment o))
    (all_committed n page moment) (all_working n page moment)
    (committed_uses n page after) (working_uses n page after)
    (all_committed n page (with_object_slot moment o after))
    (all_working n page (with_object_slot moment o after))
    (own_sums good n held moment o page sound)
    (subst P (get_or-set_same moment o after absent_slot within) (own_sums good n still (with_object_slot moment o after) o page stays))
    (sum_by-set (committed_uses n page) moment o after absent_slot within)
    (sum_by-set (working_uses n page) moment o after absent_slot within)
