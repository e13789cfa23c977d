-- A set and its bitmap give each other, and neither has two forms.
use Rattle.std.proofs.Common.{◌≡◌, ℕ, zero, suc, ◌+◌, ◌*◌, ◌-◌, ◌<◌, ◌≤◌, Bool, true, false, not, ◌&&◌, List, []}
use Rattle.std.proofs.Common.{◌∷◌, ◌++◌, length, get_or, take, drop, refl, sym, ap, ◌∙◌, arith, nat_eq}
use Rattle.std.proofs.lemmas.Bool.{agree_below_at, eqb-true, and_parts, false≢true}
use Rattle.std.proofs.lemmas.List.{drop-drop, take-append-drop}
use Rattle.std.specs.List.{flat_map}
use Rattle.block_model.specs.Bitmap.{byte_of, packed, pages_of, unpacked}

-- the pages of a byte, packed again, whatever follows them
pub byte_of-pages_of : (byte : ℕ) (rest : List Bool) → byte < 256 → byte_of (pages_of byte ++ rest) ≡ byte
byte_of-pages_of byte rest small =
    eqb-true (byte_of (pages_of byte ++ rest)) byte (agree_below_at (λ n. nat_eq (byte_of (pages_of n)) n) (λ _. true) 256 byte refl small)

pub packed-unpacked : (bytes : List ℕ) → ((i : ℕ) → get_or bytes i 0 < 256) → packed (length bytes) (unpacked bytes) ≡ bytes
packed-unpacked [] small = refl
packed-unpacked (byte ∷ bytes) small =
    ap (λ (b : ℕ). b ∷ packed (length bytes) (unpacked bytes)) (byte_of-pages_of byte (unpacked bytes) (small 0))
    ∙ ap (λ (bs : List ℕ). byte ∷ bs) (packed-unpacked bytes (λ i. small (suc i)))

pub length-unpacked : (bytes : List ℕ) → length (unpacked bytes) ≡ 8 * length bytes
length-unpacked [] = refl
length-unpacked (byte ∷ bytes) = omega (arith, length-unpacked bytes)

pub length-packed : (n : ℕ) (pages : List Bool) → length (packed n pages) ≡ n
length-packed zero pages = refl
length-packed (suc n) pages = ap suc (length-packed n (drop 8 pages))

-- one byte more
pub packed-more : (n : ℕ) (pages : List Bool) → packed (n + 1) pages ≡ packed n pages ++ (byte_of (drop (8 * n) pages) ∷ [])
packed-more zero pages = refl
packed-more (suc n) pages =
    let e : suc n + 1 ≡ suc (n + 1) = omega arith in
    let at : 8 + 8 * n ≡ 8 * suc n = omega arith in
    ap (λ (k : ℕ). packed k pages) e ∙ ap (λ (bs : List ℕ). byte_of pages ∷ bs)
    (packed-more n (drop 8 pages) ∙ ap (λ (ps : List Bool). packed n (drop 8 pages) ++ (byte_of ps ∷ []))
    (drop-drop (8 * n) 8 pages ∙ ap (λ (k : ℕ). drop k pages) at))

-- a test on each list of n tests
all_tests : ℕ → (List Bool → Bool) → Bool
all_tests zero p = p []
all_tests (suc n) p = all_tests n (λ bits. p (true ∷ bits)) && all_tests n (λ bits. p (false ∷ bits))

all_tests_at : (n : ℕ) (p : List Bool → Bool) (bits : List Bool) → length bits ≡ n → all_tests n p ≡ true → p bits ≡ true
unfolding all_tests
all_tests_at zero p [] e all = all
all_tests_at zero p (b ∷ bits) e all = absurd (omega arith)
all_tests_at (suc n) p [] e all = absurd (omega arith)
all_tests_at (suc n) p (true ∷ bits) e all =
    all_tests_at n (λ rest. p (true ∷ rest)) bits (omega arith)
    (and_parts (all_tests n (λ rest. p (true ∷ rest))) (all_tests n (λ rest. p (false ∷ rest))) all).0
all_tests_at (suc n) p (false ∷ bits) e all =
    all_tests_at n (λ rest. p (false ∷ rest)) bits (omega arith)
    (and_parts (all_tests n (λ rest. p (true ∷ rest))) (all_tests n (λ rest. p (false ∷ rest))) all).1

is_same : List Bool → List Bool → Bool
is_same [] [] = true
is_same [] (b ∷ bs) = false
is_same (a ∷ xs) [] = false
is_same (true ∷ xs) (b ∷ bs) = b && is_same xs bs
is_same (false ∷ xs) (b ∷ bs) = not b && is_same xs bs

is_same-true : (xs bs : List Bool) → is_same xs bs ≡ true → xs ≡ bs
unfolding is_same
is_same-true [] [] h = refl
is_same-true [] (b ∷ bs) h = absurd (false≢true h)
is_same-true (a ∷ xs) [] h = absurd (false≢true h)
is_same-true (true ∷ xs) (true ∷ bs) h = ap (λ (ys : List Bool). true ∷ ys) (is_same-true xs bs h)
is_same-true (true ∷ xs) (false ∷ bs) h = absurd (false≢true h)
is_same-true (false ∷ xs) (true ∷ bs) h = absurd (false≢true h)
is_same-true (false ∷ xs) (false ∷ bs) h = ap (λ (ys : List Bool). false ∷ ys) (is_same-true xs bs h)

pub pages_of-byte_of : (bits : List Bool) → length bits ≡ 8 → pages_of (byte_of bits) ≡ bits
unfolding all_tests is_same
pages_of-byte_of bits e = is_same-true (pages_of (byte_of bits)) bits (all_tests_at 8 (λ b. is_same (pages_of (byte_of b)) b) bits e refl)

pub unpacked-packed : (n : ℕ) (pages : List Bool) → length pages ≡ 8 * n → unpacked (packed n pages) ≡ pages
unpacked-packed zero [] e = refl
unpacked-packed zero (a ∷ pages) e = absurd (omega arith)
unpacked-packed (suc n) (a ∷ b ∷ c ∷ d ∷ e ∷ f ∷ g ∷ h ∷ rest) same =
    ap (λ (xs : List Bool). xs ++ unpacked (packed n rest)) (pages_of-byte_of (a ∷ b ∷ c ∷ d ∷ e ∷ f ∷ g ∷ h ∷ []) refl)
    ∙ ap (λ (xs : List Bool). a ∷ b ∷ c ∷ d ∷ e ∷ f ∷ g ∷ h ∷ xs) (unpacked-packed n rest (omega arith))
unpacked-packed (suc n) [] e = absurd (omega arith)
unpacked-packed (suc n) (a ∷ []) e = absurd (omega arith)
unpacked-packed (suc n) (a ∷ b ∷ []) e = absurd (omega arith)
unpacked-packed (suc n) (a ∷ b ∷ c ∷ []) e = absurd (omega arith)
unpacked-packed (suc n) (a ∷ b ∷ c ∷ d ∷ []) e = absurd (omega arith)
unpacked-packed (suc n) (a ∷ b ∷ c ∷ d ∷ e ∷ []) same = absurd (omega arith)
unpacked-packed (suc n) (a ∷ b ∷ c ∷ d ∷ e ∷ f ∷ []) same = absurd (omega arith)
unpacked-packed (suc n) (a ∷ b ∷ c ∷ d ∷ e ∷ f ∷ g ∷ []) same = absurd (omega arith)
