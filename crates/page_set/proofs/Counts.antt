-- How many pages of a run pass a test, when tests agree and when runs are split.
use Rattle.std.proofs.Common.{inl, inr, ◌≡◌, ℕ, zero, suc, ◌+◌, ◌-◌, ◌^◌, ◌<◌, ◌≤◌, Bool, true, false, refl, sym, ap, ◌∙◌, arith}
use Rattle.std.proofs.Math.Nat.{zero-add}
use Rattle.std.proofs.lemmas.Bool.{false≢true, false_from_ne_true}
use Rattle.std.specs.Prelude.{IsTrue, if◌then◌else◌}
use Rattle.page_set.specs.Members.{count_on, count_all, AllOn, NoneOn, AreSame, AreSameBeside}

bit_most : (b : Bool) → (if b then 1 else 0) ≤ 1
bit_most true = omega arith
bit_most false = omega arith

pub count_on-more : (f : ℕ → Bool) (first n : ℕ) → count_on f first (suc n) ≡ (if f first then 1 else 0) + count_on f (suc first) n
unfolding count_on
count_on-more f first n = refl

pub count_on-nothing : (f : ℕ → Bool) (first : ℕ) → count_on f first 0 ≡ 0
unfolding count_on
count_on-nothing f first = refl

-- two tests that agree on two runs count alike
pub count_on-moved : (f g : ℕ → Bool) (a b n : ℕ) → ((i : ℕ) → i < n → f (a + i) ≡ g (b + i)) → count_on f a n ≡ count_on g b n
count_on-moved f g a b zero h = count_on-nothing f a ∙ sym (count_on-nothing g b)
count_on-moved f g a b (suc n) h =
    let here : f a ≡ g b = ap f (let e : a ≡ a + 0 = omega arith in e) ∙ h 0 (omega arith)
    ∙ ap g (let e : b + 0 ≡ b = omega arith in e) in
    let rest : count_on f (suc a) n ≡ count_on g (suc b) n = count_on-moved f g (suc a) (suc b) n (λ i less.
    ap f (let e : suc a + i ≡ a + suc i = omega arith in e) ∙ h (suc i) (omega arith)
    ∙ ap g (let e : b + suc i ≡ suc b + i = omega arith in e)) in
    count_on-more f a n ∙ ap (λ (x : Bool). (if x then 1 else 0) + count_on f (suc a) n) here
    ∙ ap (λ (x : ℕ). (if g b then 1 else 0) + x) rest ∙ sym (count_on-more g b n)

pub count_on-same : (f g : ℕ → Bool) (first n : ℕ) → ((page : ℕ) → first ≤ page → page < first + n → g page ≡ f page) →
    count_on g first n ≡ count_on f first n
count_on-same f g first n h = count_on-moved g f first first n (λ i less. h (first + i) (omega arith) (omega arith))

pub count_on-split : (f : ℕ → Bool) (first n m : ℕ) → count_on f first (n + m) ≡ count_on f first n + count_on f (first + n) m
count_on-split f first zero m =
    let e : zero + m ≡ m = omega arith in
    let at : first + zero ≡ first = omega arith in
    let left : count_on f first (zero + m) ≡ count_on f first m = ap (λ (k : ℕ). count_on f first k) e in
    let right : count_on f (first + zero) m ≡ count_on f first m = ap (λ (k : ℕ). count_on f k m) at in
    omega (arith, left, right, count_on-nothing f first)
count_on-split f first (suc n) m =
    let e : suc n + m ≡ suc (n + m) = omega arith in
    let at : suc first + n ≡ first + suc n = omega arith in
    let left : count_on f first (suc n + m) ≡ count_on f first (suc (n + m)) = ap (λ (k : ℕ). count_on f first k) e in
    let right : count_on f (suc first + n) m ≡ count_on f (first + suc n) m = ap (λ (k : ℕ). count_on f k m) at in
    omega (arith, left, right, count_on-more f first (n + m), count_on-more f first n, count_on-split f (suc first) n m)

pub count_on-most : (f : ℕ → Bool) (first n : ℕ) → count_on f first n ≤ n
count_on-most f first zero = omega (arith, count_on-nothing f first)
count_on-most f first (suc n) = omega (arith, count_on-more f first n, bit_most (f first), count_on-most f (suc first) n)

pub count_on-all : (f : ℕ → Bool) (first n : ℕ) → AllOn f first n → count_on f first n ≡ n
count_on-all f first zero h = count_on-nothing f first
count_on-all f first (suc n) h =
    let here : ◌≡◌ {A = ℕ} (if f first then 1 else 0) 1 = ap (λ (b : Bool). if b then 1 else 0) (h first (omega arith) (omega arith)) in
    omega (arith, count_on-more f first n, here, count_on-all f (suc first) n (λ page from to. h page (omega arith) (omega arith)))

pub count_on-none : (f : ℕ → Bool) (first n : ℕ) → NoneOn f first n → count_on f first n ≡ 0
count_on-none f first zero h = count_on-nothing f first
count_on-none f first (suc n) h =
    let here : ◌≡◌ {A = ℕ} (if f first then 1 else 0) 0 = ap (λ (b : Bool). if b then 1 else 0) (h first (omega arith) (omega arith)) in
    omega (arith, count_on-more f first n, here, count_on-none f (suc first) n (λ page from to. h page (omega arith) (omega arith)))

-- a page counts
pub count_on-some : (f : ℕ → Bool) (first n page : ℕ) → first ≤ page → page < first + n → f page ≡ true → 1 ≤ count_on f first n
count_on-some f first n page from to t =
    let parts : count_on f first ((page - first) + (n - (page - first)))
    ≡ count_on f first (page - first) + count_on f (first + (page - first)) (n - (page - first)) =
    count_on-split f first (page - first) (n - (page - first)) in
    let whole : (page - first) + (n - (page - first)) ≡ n = omega arith in
    let at : first + (page - first) ≡ page = omega arith in
    let rest : suc ((n - (page - first)) - 1) ≡ n - (page - first) = omega arith in
    let e : count_on f first n ≡ count_on f first ((page - first) + (n - (page - first))) =
    ap (λ (k : ℕ). count_on f first k) (sym whole) in
    let f1 : count_on f (first + (page - first)) (n - (page - first)) ≡ count_on f page (n - (page - first)) =
    ap (λ (k : ℕ). count_on f k (n - (page - first))) at in
    let f2 : count_on f page (n - (page - first)) ≡ count_on f page (suc ((n - (page - first)) - 1)) =
    ap (λ (k : ℕ). count_on f page k) (sym rest) in
    let here : ◌≡◌ {A = ℕ} (if f page then 1 else 0) 1 = ap (λ (b : Bool). if b then 1 else 0) t in
    omega (arith, e, parts, f1, f2, here, count_on-more f page ((n - (page - first)) - 1))

pub none_counted : (f : ℕ → Bool) (first n : ℕ) → count_on f first n ≡ 0 → NoneOn f first n
none_counted f first n e page from to = false_from_ne_true (f page)
    (λ t. absurd (omega (arith, e, count_on-some f first n page from to t)))

-- where the tests agree outside a run, the run makes the difference
pub count_on-changed : (f g : ℕ → Bool) (first n bound : ℕ) → first + n ≤ bound → AreSameBeside first n f g →
    count_on g 0 bound + count_on f first n ≡ count_on f 0 bound + count_on g first n
count_on-changed f g first n bound fits same =
    let whole : (first + n) + (bound - (first + n)) ≡ bound = omega arith in
    let wf : count_on f 0 ((first + n) + (bound - (first + n))) ≡ count_on f 0 bound = ap (λ (k : ℕ). count_on f 0 k) whole in
    let wg : count_on g 0 ((first + n) + (bound - (first + n))) ≡ count_on g 0 bound = ap (λ (k : ℕ). count_on g 0 k) whole in
    let low : count_on g 0 first ≡ count_on f 0 first = count_on-same f g 0 first (λ page from to. same page (inl (omega arith))) in
    let high : count_on g (0 + (first + n)) (bound - (first + n)) ≡ count_on f (0 + (first + n)) (bound - (first + n)) =
    count_on-same f g (0 + (first + n)) (bound - (first + n)) (λ page from to. same page (inr (omega arith))) in
    let zf : count_on f (0 + first) n ≡ count_on f first n = ap (λ (k : ℕ). count_on f k n) (zero-add first) in
    let zg : count_on g (0 + first) n ≡ count_on g first n = ap (λ (k : ℕ). count_on g k n) (zero-add first) in
    omega (
      arith,
      wf,
      wg,
      low,
      high,
      zf,
      zg,
      count_on-split f 0 (first + n) (bound - (first + n)),
      count_on-split f 0 first n,
      count_on-split g 0 (first + n) (bound - (first + n)),
      count_on-split g 0 first n,
    )

-- ---- all pages

pub count_all-changed : (f g : ℕ → Bool) (first n : ℕ) → first + n ≤ 2 ^ 32 → AreSameBeside first n f g →
    count_all g + count_on f first n ≡ count_all f + count_on g first n
count_all-changed f g first n fits same = count_on-changed f g first n (2 ^ 32) fits same

pub count_all-same : (f g : ℕ → Bool) → AreSame f g → count_all g ≡ count_all f
count_all-same f g same = count_on-same f g 0 (2 ^ 32) (λ page _ _. same page)

pub count_all-none : (f : ℕ → Bool) → ((page : ℕ) → f page ≡ false) → count_all f ≡ 0
count_all-none f none = count_on-none f 0 (2 ^ 32) (λ page _ _. none page)

pub none_at_all : (f : ℕ → Bool) → ((page : ℕ) → IsTrue (f page) → page + 1 < 2 ^ 32) → count_all f ≡ 0 → (page : ℕ) → f page ≡ false
none_at_all f bound e page =
    false_from_ne_true (f page) (λ t. false≢true (sym (none_counted f 0 (2 ^ 32) e page (omega arith) (omega (arith, bound page t))) ∙ t))

-- the last number names no page of the set, so the size is a number of 32 bits
pub count_all-small : (f : ℕ → Bool) → ((page : ℕ) → IsTrue (f page) → page + 1 < 2 ^ 32) → count_all f < 2 ^ 32
count_all-small f bound =
    let last : count_on f (0 + (2 ^ 32 - 1)) 1 ≡ 0 = count_on-none f (0 + (2 ^ 32 - 1)) 1 (λ page from to.
    false_from_ne_true (f page) (λ t. absurd (omega (arith, from, to, bound page t)))) in
    omega (arith, last, count_on-split f 0 (2 ^ 32 - 1) 1, count_on-most f 0 (2 ^ 32 - 1))
