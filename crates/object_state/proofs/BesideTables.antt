-- Of one page, by how often each version uses it: what becomes of it where a new working version takes the place of the old one.
use Rattle.std.proofs.Common.{◌≡◌, ℕ, ◌+◌, ◌<◌, Bool, true, false, not, ◌&&◌, ◌||◌, nat_eq, nat_lt, refl, sym, ap, ◌∙◌}
use Rattle.std.specs.Prelude.{if◌then◌else◌}
use Rattle.std.proofs.lemmas.Bool.{false≢true, lt-ltb}
use Rattle.std.proofs.Math.Bool.{and-true, and-false, or-false}
use Rattle.object_state.proofs.EndTables.{none-test, not-none, some-count}
use Rattle.base_laws.proofs.NumberLaws.{some-of}

-- c, u and w are whether the committed version, the old working one and the new one use the page, the last two with their spares;
-- m is whether it was granted for the new one
pub record Suits (c u w m : Bool) : Type 0 where
  pub used : m ≡ true → w ≡ true
  pub within : w ≡ true → m ≡ false → u ≡ true
  pub new : m ≡ true → (c || u) ≡ false

-- the page was dropped, and it was fresh
abbrev pub is_gone : Bool → Bool → Bool
is_gone u w = u && not w

abbrev pub was_fresh : Bool → Bool → Bool → Bool
was_fresh c u m = m || (u && not c)

-- the rows that suit, each by its name: an old page of the committed version alone, of both, of the working one alone, or of none
by-rows : (P : Bool → Bool → Bool → Bool → Type 0) → ((w : Bool) → P true true w false) → P true false false false →
    ((w : Bool) → P false true w false) → P false false false false → P false false true true → (c u w m : Bool) → Suits c u w m → P c u w m
by-rows P both committed working none made true u w true suits = absurd (false≢true (sym (suits.new refl)))
by-rows P both committed working none made false true w true suits = absurd (false≢true (sym (suits.new refl)))
by-rows P both committed working none made false false true true suits = made
by-rows P both committed working none made false false false true suits = absurd (false≢true (suits.used refl))
by-rows P both committed working none made true true w false suits = both w
by-rows P both committed working none made true false false false suits = committed
by-rows P both committed working none made true false true false suits = absurd (false≢true (suits.within refl refl))
by-rows P both committed working none made false true w false suits = working w
by-rows P both committed working none made false false false false suits = none
by-rows P both committed working none made false false true false suits = absurd (false≢true (suits.within refl refl))

-- what is held afterwards, what is fresh, and what is locked
beside-held : (c u w m : Bool) → Suits c u w m →
    (if (is_gone u w && was_fresh c u m) then false else (m || (c || u))) ≡ (c || w)
beside-held = by-rows (λ c u w m. (if (is_gone u w && was_fresh c u m) then false else (m || (c || u))) ≡ (c || w))
    (λ w. held-both w) refl (λ w. held-working w) refl refl
  where
    held-both : (w : Bool) → (if ((true && not w) && (false || (true && not true))) then false else (false || (true || true))) ≡ (true || w)
    held-both true = refl
    held-both false = refl

    held-working : (w : Bool) →
        (if ((true && not w) && (false || (true && not false))) then false else (false || (false || true))) ≡ (false || w)
    held-working true = refl
    held-working false = refl

beside-fresh : (c u w m : Bool) → Suits c u w m → (was_fresh c u m && not (is_gone u w)) ≡ (w && not c)
beside-fresh = by-rows (λ c u w m. (was_fresh c u m && not (is_gone u w)) ≡ (w && not c))
    (λ w. sym (and-false w)) refl (λ w. fresh-working w) refl refl
  where
    fresh-working : (w : Bool) → ((false || (true && not false)) && not (true && not w)) ≡ (w && not false)
    fresh-working true = refl
    fresh-working false = refl

beside-locked : (c u w m : Bool) → Suits c u w m →
    ((c && not u) || (is_gone u w && not (was_fresh c u m))) ≡ (c && not w)
beside-locked = by-rows (λ c u w m. ((c && not u) || (is_gone u w && not (was_fresh c u m))) ≡ (c && not w))
    (λ w. and-true (not w)) refl (λ w. and-false (not w)) refl refl

-- f and l are whether its space had it as free and as locked
pub record FitsBefore (c u m f l : Bool) : Type 0 where
  pub used : (c || u) ≡ true → f ≡ false
  pub locked : (c || u) ≡ true → l ≡ (c && not u)
  pub taken : m ≡ true → f ≡ true
  pub apart : f ≡ true → l ≡ false

beside-free : (c u w m : Bool) → Suits c u w m → (f l : Bool) → FitsBefore c u m f l →
    ((is_gone u w && was_fresh c u m) || (not m && f)) ≡ (not (c || w) && (f || (c || u)))
beside-free = by-rows (λ c u w m. (f l : Bool) → FitsBefore c u m f l →
    ((is_gone u w && was_fresh c u m) || (not m && f)) ≡ (not (c || w) && (f || (c || u))))
    (λ w f l fits. ap (λ b. ((true && not w) && false) || b) (fits.used refl) ∙ ap (λ b. b || false) (and-false (not w)))
    (λ f l fits. fits.used refl)
    (λ w f l fits. ap (λ b. ((true && not w) && true) || b) (fits.used refl)
    ∙ (or-false ((true && not w) && true) ∙ sym (ap (λ b. not w && (b || true)) (fits.used refl))))
    (λ f l fits. sym (or-false f))
    (λ f l fits. refl)

beside-locks : (c u w m : Bool) → Suits c u w m → (f l : Bool) → FitsBefore c u m f l →
    (((is_gone u w && not (was_fresh c u m)) && not (not m && f)) || (not ((is_gone u w && was_fresh c u m) || false) && l))
    ≡ ((c && not w) || (l && (not (c || u) && not (c || w))))
beside-locks = by-rows (λ c u w m. (f l : Bool) → FitsBefore c u m f l →
    (((is_gone u w && not (was_fresh c u m)) && not (not m && f)) || (not ((is_gone u w && was_fresh c u m) || false) && l))
    ≡ ((c && not w) || (l && (not (c || u) && not (c || w)))))
    (λ w f l fits. locks-committed w f l (fits.used refl) (fits.locked refl))
    (λ f l fits. fits.locked refl)
    (λ w f l fits. locks-working w f l (fits.locked refl))
    (λ f l fits. sym (and-true l))
    (λ f l fits. locks-made l (fits.apart (fits.taken refl)))
  where
    locks-committed : (w f l : Bool) → f ≡ false → l ≡ (true && not true) →
        ((((true && not w) && not (false || (true && not true))) && not (not false && f))
        || (not (((true && not w) && (false || (true && not true))) || false) && l))
        ≡ ((true && not w) || (l && (not (true || true) && not (true || w))))
    locks-committed true f l free locked = locked ∙ sym (and-false l)
    locks-committed false f l free locked = ap (λ b. not b || l) free

    locks-working : (w f l : Bool) → l ≡ (false && not true) →
        ((((true && not w) && not (false || (true && not false))) && not (not false && f))
        || (not (((true && not w) && (false || (true && not false))) || false) && l))
        ≡ ((false && not w) || (l && (not (false || true) && not (false || w))))
    locks-working true f l locked = locked ∙ sym (and-false l)
    locks-working false f l locked = sym (and-false l)

    locks-made : (l : Bool) → l ≡ false → l ≡ (l && (true && false))
    locks-made l none = none ∙ sym (and-false l)

-- ---- the same by counts: how often the committed version, the old working one and the new one use the page

pub record SuitCounts (c u w : ℕ) (m : Bool) : Type 0 where
  pub used : m ≡ true → 0 < w
  pub within : 0 < w → m ≡ false → 0 < u
  pub new : m ≡ true → c + u ≡ 0

suits-of : (c u w : ℕ) (m : Bool) → SuitCounts c u w m → Suits (nat_lt 0 c) (nat_lt 0 u) (nat_lt 0 w) m
suits-of c u w m counts = record {
  used = λ made. lt-ltb 0 w (counts.used made);
  within = λ some old. lt-ltb 0 u (counts.within (some-count w some) old);
  new = λ made. sym (some-of c u) ∙ none-test (c + u) (counts.new made);
}

-- the page was dropped
abbrev pub drops_count : ℕ → ℕ → Bool
drops_count u w = nat_lt 0 u && nat_eq w 0

-- it was fresh before, with those that were granted
abbrev pub fresh_count : ℕ → ℕ → Bool → Bool
fresh_count c u m = m || (nat_lt 0 u && nat_eq c 0)

gone-is : (u w : ℕ) → drops_count u w ≡ is_gone (nat_lt 0 u) (nat_lt 0 w)
gone-is u w = ap (λ b. nat_lt 0 u && b) (not-none w)

fresh-is : (c u : ℕ) (m : Bool) → fresh_count c u m ≡ was_fresh (nat_lt 0 c) (nat_lt 0 u) m
fresh-is c u m = ap (λ b. m || (nat_lt 0 u && b)) (not-none c)

pub beside-has : (c u w : ℕ) (m : Bool) → SuitCounts c u w m →
    (if (drops_count u w && fresh_count c u m) then false else (m || nat_lt 0 (c + u))) ≡ nat_lt 0 (c + w)
beside-has c u w m counts =
    ap (λ b. if (b && fresh_count c u m) then false else (m || nat_lt 0 (c + u))) (gone-is u w)
    ∙ (ap (λ b. if (is_gone (nat_lt 0 u) (nat_lt 0 w) && b) then false else (m || nat_lt 0 (c + u))) (fresh-is c u m)
    ∙ (ap (λ b. if (is_gone (nat_lt 0 u) (nat_lt 0 w) && was_fresh (nat_lt 0 c) (nat_lt 0 u) m) then false else (m || b)) (some-of c u)
    ∙ (beside-held (nat_lt 0 c) (nat_lt 0 u) (nat_lt 0 w) m (suits-of c u w m counts) ∙ sym (some-of c w))))

pub beside-fresh_count : (c u w : ℕ) (m : Bool) → SuitCounts c u w m →
    (fresh_count c u m && not (drops_count u w)) ≡ (nat_lt 0 w && nat_eq c 0)
beside-fresh_count c u w m counts =
    ap (λ b. fresh_count c u m && not b) (gone-is u w)
    ∙ (ap (λ b. b && not (is_gone (nat_lt 0 u) (nat_lt 0 w))) (fresh-is c u m)
    ∙ (beside-fresh (nat_lt 0 c) (nat_lt 0 u) (nat_lt 0 w) m (suits-of c u w m counts) ∙ sym (ap (λ b. nat_lt 0 w && b) (not-none c))))

pub beside-locked_count : (c u w : ℕ) (m : Bool) → SuitCounts c u w m →
    ((nat_lt 0 c && nat_eq u 0) || (drops_count u w && not (fresh_count c u m))) ≡ (nat_lt 0 c && nat_eq w 0)
beside-locked_count c u w m counts =
    ap (λ b. (nat_lt 0 c && b) || (drops_count u w && not (fresh_count c u m))) (not-none u)
    ∙ (ap (λ b. (nat_lt 0 c && not (nat_lt 0 u)) || (b && not (fresh_count c u m))) (gone-is u w)
    ∙ (ap (λ b. (nat_lt 0 c && not (nat_lt 0 u)) || (is_gone (nat_lt 0 u) (nat_lt 0 w) && not b)) (fresh-is c u m)
    ∙ (beside-locked (nat_lt 0 c) (nat_lt 0 u) (nat_lt 0 w) m (suits-of c u w m counts) ∙ sym (ap (λ b. nat_lt 0 c && b) (not-none w)))))

pub record CountsFit (c u : ℕ) (m f l : Bool) : Type 0 where
  pub used : 0 < c + u → f ≡ false
  pub locked : 0 < c + u → l ≡ (nat_lt 0 c && nat_eq u 0)
  pub taken : m ≡ true → f ≡ true
  pub apart : f ≡ true → l ≡ false

fits-of : (c u : ℕ) (m f l : Bool) → CountsFit c u m f l → FitsBefore (nat_lt 0 c) (nat_lt 0 u) m f l
fits-of c u m f l counts = record {
  used = λ some. counts.used (some-count (c + u) (some-of c u ∙ some));
  locked = λ some. counts.locked (some-count (c + u) (some-of c u ∙ some)) ∙ ap (λ b. nat_lt 0 c && b) (not-none u);
  taken = counts.taken;
  apart = counts.apart;
}

pub beside-free_count : (c u w : ℕ) (m f l : Bool) → SuitCounts c u w m → CountsFit c u m f l →
    ((drops_count u w && fresh_count c u m) || (not m && f)) ≡ (nat_eq (c + w) 0 && (f || nat_lt 0 (c + u)))
beside-free_count c u w m f l counts fits =
    ap (λ b. (b && fresh_count c u m) || (not m && f)) (gone-is u w)
    ∙ (ap (λ b. (is_gone (nat_lt 0 u) (nat_lt 0 w) && b) || (not m && f)) (fresh-is c u m)
    ∙ (beside-free (nat_lt 0 c) (nat_lt 0 u) (nat_lt 0 w) m (suits-of c u w m counts) f l (fits-of c u m f l fits)
    ∙ sym (ap (λ b. b && (f || nat_lt 0 (c + u))) (not-none (c + w) ∙ ap not (some-of c w))
    ∙ ap (λ b. not (nat_lt 0 c || nat_lt 0 w) && (f || b)) (some-of c u))))

pub beside-locks_count : (c u w : ℕ) (m f l : Bool) → SuitCounts c u w m → CountsFit c u m f l →
    (((drops_count u w && not (fresh_count c u m)) && not (not m && f))
    || (not ((drops_count u w && fresh_count c u m) || false) && l))
    ≡ ((nat_lt 0 c && nat_eq w 0) || (l && (nat_eq (c + u) 0 && nat_eq (c + w) 0)))
beside-locks_count c u w m f l counts fits =
    ap (λ b. ((b && not (fresh_count c u m)) && not (not m && f)) || (not ((b && fresh_count c u m) || false) && l)) (gone-is u w)
    ∙ (ap (λ b. ((is_gone (nat_lt 0 u) (nat_lt 0 w) && not b) && not (not m && f))
    || (not ((is_gone (nat_lt 0 u) (nat_lt 0 w) && b) || false) && l)) (fresh-is c u m)
    ∙ (beside-locks (nat_lt 0 c) (nat_lt 0 u) (nat_lt 0 w) m (suits-of c u w m counts) f l (fits-of c u m f l fits)
    ∙ sym (ap (λ b. (nat_lt 0 c && b) || (l && (nat_eq (c + u) 0 && nat_eq (c + w) 0))) (not-none w)
    ∙ (ap (λ b. (nat_lt 0 c && not (nat_lt 0 w)) || (l && (b && nat_eq (c + w) 0))) (not-none (c + u) ∙ ap not (some-of c u))
    ∙ ap (λ b. (nat_lt 0 c && not (nat_lt 0 w)) || (l && (not (nat_lt 0 c || nat_lt 0 u) && b)))
    (not-none (c + w) ∙ ap not (some-of c w))))))
