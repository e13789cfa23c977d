-- Of one page, by how often each version uses it: what becomes of it at an end.
use Rattle.std.proofs.Common.{◌≡◌, ℕ, ◌+◌, ◌<◌, ◌≤◌, Bool, true, false, not, ◌&&◌, ◌||◌, nat_eq, nat_lt, refl, sym, ap, arith}
use Rattle.std.proofs.Common.{◌∙◌, Option, Some, None}
use Rattle.std.specs.Prelude.{if◌then◌else◌}
use Rattle.std.proofs.lemmas.Bool.{false≢true}
use Rattle.std.proofs.lemmas.Bool.Decides.{nat_tests}
use Rattle.layout_model.specs.declared.extent.Extent.{Extent}
use Rattle.moment_model.specs.Version.{spare_uses}
use Rattle.page_cache.specs.Kept.{is_on_run}
use Rattle.object_state.specs.Keeps.{in_spare}
use Rattle.base_laws.proofs.NumberLaws.{some-of}

-- tests of counts
pub not-none : (k : ℕ) → nat_eq k 0 ≡ not (nat_lt 0 k)
not-none k = grind (arith, nat_tests)

pub none-test : (k : ℕ) → k ≡ 0 → nat_lt 0 k ≡ false
none-test k none = grind (arith, nat_tests, none)

pub some-count : (k : ℕ) → nat_lt 0 k ≡ true → 0 < k
some-count k some = grind (arith, nat_tests, some)

pub never-both : (k : ℕ) → (nat_lt 0 (k + 0) && nat_eq k 0) ≡ false
never-both k = grind (arith, nat_tests)

pub both-never : (k : ℕ) → (nat_lt 0 k && nat_eq (k + 0) 0) ≡ false
both-never k = grind (arith, nat_tests)

-- is a page spare, by the count
pub spare-test : (spare : Option Extent) (page : ℕ) → in_spare spare page ≡ nat_lt 0 (spare_uses page spare)
spare-test None page = refl
spare-test (Some run) page = go (is_on_run run.page run.pages page)
  where
    go : (b : Bool) → b ≡ nat_lt 0 (if b then 1 else 0)
    go true = refl
    go false = refl

or-true : (b : Bool) → (b || true) ≡ true
or-true true = refl
or-true false = refl

or-false : (b : Bool) → (b || false) ≡ b
or-false true = refl
or-false false = refl

and-true : (b : Bool) → (b && true) ≡ b
and-true true = refl
and-true false = refl

and-false : (b : Bool) → (b && false) ≡ false
and-false true = refl
and-false false = refl

-- ---- settled: c, w and s are whether the committed version, the working one and the spare use the page

abbrev Alone : Bool → Bool → Bool → Type 0
Alone c w s = s ≡ true → (w ≡ false) × (c ≡ false)

settle-free : (c w s f : Bool) → Alone c w s → ((c || (w || s)) ≡ true → f ≡ false) →
    ((s || (c && not (w || s))) || f) ≡ (not (w || (w || false)) && (f || (c || (w || s))))
settle-free true w true f alone fits = absurd (false≢true (sym (alone refl).1))
settle-free false true true f alone fits = absurd (false≢true (sym (alone refl).0))
settle-free false false true f alone fits = sym (or-true f)
settle-free true true false f alone fits = fits refl
settle-free true false false f alone fits = sym (or-true f)
settle-free false true false f alone fits = fits refl
settle-free false false false f alone fits = sym (or-false f)

settle-locked : (c w s l : Bool) → Alone c w s → ((c || (w || s)) ≡ true → l ≡ (c && not (w || s))) →
    (not ((s || (c && not (w || s))) || false) && l)
    ≡ ((w && not (w || false)) || (l && (not (c || (w || s)) && not (w || (w || false)))))
settle-locked true w true l alone fits = absurd (false≢true (sym (alone refl).1))
settle-locked false true true l alone fits = absurd (false≢true (sym (alone refl).0))
settle-locked false false true l alone fits = sym (and-false l)
settle-locked true true false l alone fits = fits refl ∙ sym (and-false l)
settle-locked true false false l alone fits = sym (and-false l)
settle-locked false true false l alone fits = fits refl ∙ sym (and-false l)
settle-locked false false false l alone fits = sym (and-true l)

settle-has : (c w s : Bool) → Alone c w s →
    (if (s || (c && not (w || s))) then false else (c || (w || s))) ≡ (w || (w || false))
settle-has true w true alone = absurd (false≢true (sym (alone refl).1))
settle-has false true true alone = absurd (false≢true (sym (alone refl).0))
settle-has false false true alone = refl
settle-has true true false alone = refl
settle-has true false false alone = refl
settle-has false true false alone = refl
settle-has false false false alone = refl

-- ---- undone: w is whether the working version or the spare uses the page

undo-free : (c w f : Bool) → ((c || w) ≡ true → f ≡ false) →
    ((w && not c) || f) ≡ (not (c || (c || false)) && (f || (c || w)))
undo-free true true f fits = fits refl
undo-free true false f fits = fits refl
undo-free false true f fits = sym (or-true f)
undo-free false false f fits = sym (or-false f)

undo-locked : (c w l : Bool) → ((c || w) ≡ true → l ≡ (c && not w)) →
    (not ((w && not c) || (c && not w)) && l)
    ≡ ((c && not (c || false)) || (l && (not (c || w) && not (c || (c || false)))))
undo-locked true true l fits = fits refl ∙ sym (and-false l)
undo-locked true false l fits = sym (and-false l)
undo-locked false true l fits = sym (and-false l)
undo-locked false false l fits = sym (and-true l)

undo-has : (c w : Bool) → (if (w && not c) then false else (c || w)) ≡ (c || (c || false))
undo-has true true = refl
undo-has true false = refl
undo-has false true = refl
undo-has false false = refl

-- ---- the same by counts

-- how often the committed version, the working one and the spare use a page of a sound object
pub record Counts (c w s : ℕ) : Type 0 where
  pub once : w + s ≤ 1
  pub apart : 0 < s → c ≡ 0

alone-of : (c w s : ℕ) → Counts c w s → Alone (nat_lt 0 c) (nat_lt 0 w) (nat_lt 0 s)
alone-of c w s counts some =
    let spare = some-count s some in
    (none-test w (omega (arith, spare, counts.once)), none-test c (counts.apart spare))

none-sum : (w s : ℕ) → nat_eq (w + s) 0 ≡ not (nat_lt 0 w || nat_lt 0 s)
none-sum w s = not-none (w + s) ∙ ap not (some-of w s)

some-sum : (c w s : ℕ) → nat_lt 0 (c + (w + s)) ≡ (nat_lt 0 c || (nat_lt 0 w || nat_lt 0 s))
some-sum c w s = some-of c (w + s) ∙ ap (λ b. nat_lt 0 c || b) (some-of w s)

some-twice : (w : ℕ) → nat_lt 0 (w + (w + 0)) ≡ (nat_lt 0 w || (nat_lt 0 w || false))
some-twice w = some-sum w w 0

none-twice : (w : ℕ) → nat_eq (w + (w + 0)) 0 ≡ not (nat_lt 0 w || (nat_lt 0 w || false))
none-twice w = not-none (w + (w + 0)) ∙ ap not (some-twice w)

-- the pages that a settled object gives back
abbrev pub settle_gives : ℕ → ℕ → ℕ → Bool
settle_gives c w s = nat_lt 0 s || (nat_lt 0 c && nat_eq (w + s) 0)

gives-is : (c w s : ℕ) → settle_gives c w s ≡ (nat_lt 0 s || (nat_lt 0 c && not (nat_lt 0 w || nat_lt 0 s)))
gives-is c w s = ap (λ b. nat_lt 0 s || (nat_lt 0 c && b)) (none-sum w s)

pub settled-free : (c w s : ℕ) (f : Bool) → Counts c w s → (0 < c + (w + s) → f ≡ false) →
    (settle_gives c w s || f) ≡ (nat_eq (w + (w + 0)) 0 && (f || nat_lt 0 (c + (w + s))))
settled-free c w s f counts fits =
    ap (λ b. b || f) (gives-is c w s)
    ∙ (settle-free (nat_lt 0 c) (nat_lt 0 w) (nat_lt 0 s) f (alone-of c w s counts)
    (λ some. fits (some-count (c + (w + s)) (some-sum c w s ∙ some)))
    ∙ sym (ap (λ b. b && (f || nat_lt 0 (c + (w + s)))) (none-twice w)
    ∙ ap (λ b. not (nat_lt 0 w || (nat_lt 0 w || false)) && (f || b)) (some-sum c w s)))

pub settled-locked : (c w s : ℕ) (l : Bool) → Counts c w s → (0 < c + (w + s) → l ≡ (nat_lt 0 c && nat_eq (w + s) 0)) →
    (not (settle_gives c w s || false) && l)
    ≡ ((nat_lt 0 w && nat_eq (w + 0) 0) || (l && (nat_eq (c + (w + s)) 0 && nat_eq (w + (w + 0)) 0)))
settled-locked c w s l counts fits =
    ap (λ b. not (b || false) && l) (gives-is c w s)
    ∙ (settle-locked (nat_lt 0 c) (nat_lt 0 w) (nat_lt 0 s) l (alone-of c w s counts)
    (λ some. fits (some-count (c + (w + s)) (some-sum c w s ∙ some)) ∙ ap (λ b. nat_lt 0 c && b) (none-sum w s))
    ∙ sym (ap (λ b. (nat_lt 0 w && b) || (l && (nat_eq (c + (w + s)) 0 && nat_eq (w + (w + 0)) 0))) (none-sum w 0)
    ∙ (ap (λ b. (nat_lt 0 w && not (nat_lt 0 w || false)) || (l && (b && nat_eq (w + (w + 0)) 0)))
    (not-none (c + (w + s)) ∙ ap not (some-sum c w s))
    ∙ ap (λ b. (nat_lt 0 w && not (nat_lt 0 w || false))
    || (l && (not (nat_lt 0 c || (nat_lt 0 w || nat_lt 0 s)) && b))) (none-twice w))))

pub settled-has : (c w s : ℕ) → Counts c w s →
    (if settle_gives c w s then false else nat_lt 0 (c + (w + s))) ≡ nat_lt 0 (w + (w + 0))
settled-has c w s counts =
    ap (λ b. if b then false else nat_lt 0 (c + (w + s))) (gives-is c w s)
    ∙ (ap (λ b. if (nat_lt 0 s || (nat_lt 0 c && not (nat_lt 0 w || nat_lt 0 s))) then false else b) (some-sum c w s)
    ∙ (settle-has (nat_lt 0 c) (nat_lt 0 w) (nat_lt 0 s) (alone-of c w s counts) ∙ sym (some-twice w)))

-- and of the pages of the working version none is among them
pub settled-stays : (c w s : ℕ) → Counts c w s → 0 < w → settle_gives c w s ≡ false
settled-stays c w s counts some = grind (arith, nat_tests, counts.once, some)

-- those that an undone object gives back, and that it unlocks
abbrev pub undo_gives : ℕ → ℕ → Bool
undo_gives c w = nat_lt 0 w && nat_eq c 0

abbrev pub undo_unlocks : ℕ → ℕ → Bool
undo_unlocks c w = nat_lt 0 c && nat_eq w 0

pub undone-free : (c w : ℕ) (f : Bool) → (0 < c + w → f ≡ false) →
    (undo_gives c w || f) ≡ (nat_eq (c + (c + 0)) 0 && (f || nat_lt 0 (c + w)))
undone-free c w f fits =
    ap (λ b. (nat_lt 0 w && b) || f) (not-none c)
    ∙ (undo-free (nat_lt 0 c) (nat_lt 0 w) f (λ some. fits (some-count (c + w) (some-of c w ∙ some)))
    ∙ sym (ap (λ b. b && (f || nat_lt 0 (c + w))) (none-twice c)
    ∙ ap (λ b. not (nat_lt 0 c || (nat_lt 0 c || false)) && (f || b)) (some-of c w)))

pub undone-locked : (c w : ℕ) (l : Bool) → (0 < c + w → l ≡ undo_unlocks c w) →
    (not (undo_gives c w || undo_unlocks c w) && l)
    ≡ ((nat_lt 0 c && nat_eq (c + 0) 0) || (l && (nat_eq (c + w) 0 && nat_eq (c + (c + 0)) 0)))
undone-locked c w l fits =
    ap (λ b. not ((nat_lt 0 w && b) || (nat_lt 0 c && nat_eq w 0)) && l) (not-none c)
    ∙ (ap (λ b. not ((nat_lt 0 w && not (nat_lt 0 c)) || (nat_lt 0 c && b)) && l) (not-none w)
    ∙ (undo-locked (nat_lt 0 c) (nat_lt 0 w) l
    (λ some. fits (some-count (c + w) (some-of c w ∙ some)) ∙ ap (λ b. nat_lt 0 c && b) (not-none w))
    ∙ sym (ap (λ b. (nat_lt 0 c && b) || (l && (nat_eq (c + w) 0 && nat_eq (c + (c + 0)) 0))) (none-sum c 0)
    ∙ (ap (λ b. (nat_lt 0 c && not (nat_lt 0 c || false)) || (l && (b && nat_eq (c + (c + 0)) 0)))
    (not-none (c + w) ∙ ap not (some-of c w))
    ∙ ap (λ b. (nat_lt 0 c && not (nat_lt 0 c || false)) || (l && (not (nat_lt 0 c || nat_lt 0 w) && b))) (none-twice c)))))

pub undone-has : (c w : ℕ) → (if undo_gives c w then false else nat_lt 0 (c + w)) ≡ nat_lt 0 (c + (c + 0))
undone-has c w =
    ap (λ b. if (nat_lt 0 w && b) then false else nat_lt 0 (c + w)) (not-none c)
    ∙ (ap (λ b. if (nat_lt 0 w && not (nat_lt 0 c)) then false else b) (some-of c w)
    ∙ (undo-has (nat_lt 0 c) (nat_lt 0 w) ∙ sym (some-twice c)))

pub undone-stays : (c w : ℕ) → 0 < c → undo_gives c w ≡ false
undone-stays c w some = grind (arith, nat_tests, some)
