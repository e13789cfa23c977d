-- What becomes of a page, free or not and locked or not, where a version takes a page, drops one, or an end comes: one
-- table a case. c: it is the committed page; x: the fresh one; g: the granted one; f: it was free; l: it was locked.
use Rattle.std.proofs.Common.{◌≡◌, Bool, true, false, not, ◌&&◌, ◌||◌, refl}

-- free and locked after a change of the two versions, by whether they used the page before and use it after
abbrev pub free_bits : Bool → Bool → Bool → Bool → Bool → Bool
free_bits c w c2 w2 f = (not c2 && not w2) && (f || (c || w))

abbrev pub locked_bits : Bool → Bool → Bool → Bool → Bool → Bool
locked_bits c w c2 w2 l = (c2 && not w2) || (l && ((not c && not w) && (not c2 && not w2)))

-- a page for a version that has none
pub placed-none : (c g f l : Bool) →
    (g ≡ true → f ≡ true) →
    (g ≡ true → l ≡ false) →
    ((c || false) ≡ true → f ≡ false) →
    ((c || false) ≡ true → l ≡ (c && not false)) →
    ((not g && f) ≡ free_bits c false c g f) × ((l) ≡ locked_bits c false c g l)
placed-none true true true true granted unlocked used locked = (let never : true ≡ false = unlocked refl in absurd cc)
placed-none true true true false granted unlocked used locked = (let never : true ≡ false = used refl in absurd cc)
placed-none true true false true granted unlocked used locked = (let never : false ≡ true = granted refl in absurd cc)
placed-none true true false false granted unlocked used locked = (let never : false ≡ true = granted refl in absurd cc)
placed-none true false true true granted unlocked used locked = (let never : true ≡ false = used refl in absurd cc)
placed-none true false true false granted unlocked used locked = (let never : true ≡ false = used refl in absurd cc)
placed-none true false false true granted unlocked used locked = (refl, refl)
placed-none true false false false granted unlocked used locked = (let never : false ≡ true = locked refl in absurd cc)
placed-none false true true true granted unlocked used locked = (let never : true ≡ false = unlocked refl in absurd cc)
placed-none false true true false granted unlocked used locked = (refl, refl)
placed-none false true false true granted unlocked used locked = (let never : false ≡ true = granted refl in absurd cc)
placed-none false true false false granted unlocked used locked = (let never : false ≡ true = granted refl in absurd cc)
placed-none false false true true granted unlocked used locked = (refl, refl)
placed-none false false true false granted unlocked used locked = (refl, refl)
placed-none false false false true granted unlocked used locked = (refl, refl)
placed-none false false false false granted unlocked used locked = (refl, refl)

-- a page in place of the committed one
pub placed-committed : (c g f l : Bool) →
    (g ≡ true → f ≡ true) →
    (g ≡ true → l ≡ false) →
    ((c || c) ≡ true → f ≡ false) →
    ((c || c) ≡ true → l ≡ (c && not c)) →
    ((not g && f) ≡ free_bits c c c g f) × (((c && not (not g && f)) || l) ≡ locked_bits c c c g l)
placed-committed true true true true granted unlocked used locked = (let never : true ≡ false = unlocked refl in absurd cc)
placed-committed true true true false granted unlocked used locked = (let never : true ≡ false = used refl in absurd cc)
placed-committed true true false true granted unlocked used locked = (let never : false ≡ true = granted refl in absurd cc)
placed-committed true true false false granted unlocked used locked = (let never : false ≡ true = granted refl in absurd cc)
placed-committed true false true true granted unlocked used locked = (let never : true ≡ false = used refl in absurd cc)
placed-committed true false true false granted unlocked used locked = (let never : true ≡ false = used refl in absurd cc)
placed-committed true false false true granted unlocked used locked = (let never : true ≡ false = locked refl in absurd cc)
placed-committed true false false false granted unlocked used locked = (refl, refl)
placed-committed false true true true granted unlocked used locked = (let never : true ≡ false = unlocked refl in absurd cc)
placed-committed false true true false granted unlocked used locked = (refl, refl)
placed-committed false true false true granted unlocked used locked = (let never : false ≡ true = granted refl in absurd cc)
placed-committed false true false false granted unlocked used locked = (let never : false ≡ true = granted refl in absurd cc)
placed-committed false false true true granted unlocked used locked = (refl, refl)
placed-committed false false true false granted unlocked used locked = (refl, refl)
placed-committed false false false true granted unlocked used locked = (refl, refl)
placed-committed false false false false granted unlocked used locked = (refl, refl)

-- a page in place of a fresh one
pub placed-fresh : (c x g f l : Bool) →
    (g ≡ true → f ≡ true) →
    (g ≡ true → l ≡ false) →
    ((c || x) ≡ true → f ≡ false) →
    ((c || x) ≡ true → l ≡ (c && not x)) →
    (c ≡ true → x ≡ false) →
    ((x || (not g && f)) ≡ free_bits c x c g f) × ((not x && l) ≡ locked_bits c x c g l)
placed-fresh true true true true true granted unlocked used locked apart = (let never : true ≡ false = unlocked refl in absurd cc)
placed-fresh true true true true false granted unlocked used locked apart = (let never : true ≡ false = used refl in absurd cc)
placed-fresh true true true false true granted unlocked used locked apart = (let never : false ≡ true = granted refl in absurd cc)
placed-fresh true true true false false granted unlocked used locked apart = (let never : false ≡ true = granted refl in absurd cc)
placed-fresh true true false true true granted unlocked used locked apart = (let never : true ≡ false = used refl in absurd cc)
placed-fresh true true false true false granted unlocked used locked apart = (let never : true ≡ false = used refl in absurd cc)
placed-fresh true true false false true granted unlocked used locked apart = (let never : true ≡ false = locked refl in absurd cc)
placed-fresh true true false false false granted unlocked used locked apart = (let never : true ≡ false = apart refl in absurd cc)
placed-fresh true false true true true granted unlocked used locked apart = (let never : true ≡ false = unlocked refl in absurd cc)
placed-fresh true false true true false granted unlocked used locked apart = (let never : true ≡ false = used refl in absurd cc)
placed-fresh true false true false true granted unlocked used locked apart = (let never : false ≡ true = granted refl in absurd cc)
placed-fresh true false true false false granted unlocked used locked apart = (let never : false ≡ true = granted refl in absurd cc)
placed-fresh true false false true true granted unlocked used locked apart = (let never : true ≡ false = used refl in absurd cc)
placed-fresh true false false true false granted unlocked used locked apart = (let never : true ≡ false = used refl in absurd cc)
placed-fresh true false false false true granted unlocked used locked apart = (refl, refl)
placed-fresh true false false false false granted unlocked used locked apart = (let never : false ≡ true = locked refl in absurd cc)
placed-fresh false true true true true granted unlocked used locked apart = (let never : true ≡ false = unlocked refl in absurd cc)
placed-fresh false true true true false granted unlocked used locked apart = (let never : true ≡ false = used refl in absurd cc)
placed-fresh false true true false true granted unlocked used locked apart = (let never : false ≡ true = granted refl in absurd cc)
placed-fresh false true true false false granted unlocked used locked apart = (let never : false ≡ true = granted refl in absurd cc)
placed-fresh false true false true true granted unlocked used locked apart = (let never : true ≡ false = used refl in absurd cc)
placed-fresh false true false true false granted unlocked used locked apart = (let never : true ≡ false = used refl in absurd cc)
placed-fresh false true false false true granted unlocked used locked apart = (let never : true ≡ false = locked refl in absurd cc)
placed-fresh false true false false false granted unlocked used locked apart = (refl, refl)
placed-fresh false false true true true granted unlocked used locked apart = (let never : true ≡ false = unlocked refl in absurd cc)
placed-fresh false false true true false granted unlocked used locked apart = (refl, refl)
placed-fresh false false true false true granted unlocked used locked apart = (let never : false ≡ true = granted refl in absurd cc)
placed-fresh false false true false false granted unlocked used locked apart = (let never : false ≡ true = granted refl in absurd cc)
placed-fresh false false false true true granted unlocked used locked apart = (refl, refl)
placed-fresh false false false true false granted unlocked used locked apart = (refl, refl)
placed-fresh false false false false true granted unlocked used locked apart = (refl, refl)
placed-fresh false false false false false granted unlocked used locked apart = (refl, refl)

-- a fresh page went
pub dropped-fresh : (c x f l : Bool) →
    ((c || x) ≡ true → f ≡ false) →
    ((c || x) ≡ true → l ≡ (c && not x)) →
    (c ≡ true → x ≡ false) →
    ((x || f) ≡ free_bits c x c false f) × ((not x && l) ≡ locked_bits c x c false l)
dropped-fresh true true true true used locked apart = (let never : true ≡ false = used refl in absurd cc)
dropped-fresh true true true false used locked apart = (let never : true ≡ false = used refl in absurd cc)
dropped-fresh true true false true used locked apart = (let never : true ≡ false = locked refl in absurd cc)
dropped-fresh true true false false used locked apart = (let never : true ≡ false = apart refl in absurd cc)
dropped-fresh true false true true used locked apart = (let never : true ≡ false = used refl in absurd cc)
dropped-fresh true false true false used locked apart = (let never : true ≡ false = used refl in absurd cc)
dropped-fresh true false false true used locked apart = (refl, refl)
dropped-fresh true false false false used locked apart = (let never : false ≡ true = locked refl in absurd cc)
dropped-fresh false true true true used locked apart = (let never : true ≡ false = used refl in absurd cc)
dropped-fresh false true true false used locked apart = (let never : true ≡ false = used refl in absurd cc)
dropped-fresh false true false true used locked apart = (let never : true ≡ false = locked refl in absurd cc)
dropped-fresh false true false false used locked apart = (refl, refl)
dropped-fresh false false true true used locked apart = (refl, refl)
dropped-fresh false false true false used locked apart = (refl, refl)
dropped-fresh false false false true used locked apart = (refl, refl)
dropped-fresh false false false false used locked apart = (refl, refl)

-- the committed page was dropped
pub dropped-committed : (c f l : Bool) →
    ((c || c) ≡ true → f ≡ false) →
    ((c || c) ≡ true → l ≡ (c && not c)) →
    ((f) ≡ free_bits c c c false f) × (((c && not f) || l) ≡ locked_bits c c c false l)
dropped-committed true true true used locked = (let never : true ≡ false = used refl in absurd cc)
dropped-committed true true false used locked = (let never : true ≡ false = used refl in absurd cc)
dropped-committed true false true used locked = (let never : true ≡ false = locked refl in absurd cc)
dropped-committed true false false used locked = (refl, refl)
dropped-committed false true true used locked = (refl, refl)
dropped-committed false true false used locked = (refl, refl)
dropped-committed false false true used locked = (refl, refl)
dropped-committed false false false used locked = (refl, refl)

-- there was no page to drop
pub dropped-none : (c f l : Bool) →
    ((c || false) ≡ true → f ≡ false) →
    ((c || false) ≡ true → l ≡ (c && not false)) →
    ((f) ≡ free_bits c false c false f) × ((l) ≡ locked_bits c false c false l)
dropped-none true true true used locked = (let never : true ≡ false = used refl in absurd cc)
dropped-none true true false used locked = (let never : true ≡ false = used refl in absurd cc)
dropped-none true false true used locked = (refl, refl)
dropped-none true false false used locked = (let never : false ≡ true = locked refl in absurd cc)
dropped-none false true true used locked = (refl, refl)
dropped-none false true false used locked = (refl, refl)
dropped-none false false true used locked = (refl, refl)
dropped-none false false false used locked = (refl, refl)

-- the committed page went, and the working one takes its place
pub settled-bits : (c x f l : Bool) →
    ((c || x) ≡ true → f ≡ false) →
    ((c || x) ≡ true → l ≡ (c && not x)) →
    (c ≡ true → x ≡ false) →
    ((c || f) ≡ free_bits c x x x f) × ((not c && l) ≡ locked_bits c x x x l)
settled-bits true true true true used locked apart = (let never : true ≡ false = used refl in absurd cc)
settled-bits true true true false used locked apart = (let never : true ≡ false = used refl in absurd cc)
settled-bits true true false true used locked apart = (let never : true ≡ false = locked refl in absurd cc)
settled-bits true true false false used locked apart = (let never : true ≡ false = apart refl in absurd cc)
settled-bits true false true true used locked apart = (let never : true ≡ false = used refl in absurd cc)
settled-bits true false true false used locked apart = (let never : true ≡ false = used refl in absurd cc)
settled-bits true false false true used locked apart = (refl, refl)
settled-bits true false false false used locked apart = (let never : false ≡ true = locked refl in absurd cc)
settled-bits false true true true used locked apart = (let never : true ≡ false = used refl in absurd cc)
settled-bits false true true false used locked apart = (let never : true ≡ false = used refl in absurd cc)
settled-bits false true false true used locked apart = (let never : true ≡ false = locked refl in absurd cc)
settled-bits false true false false used locked apart = (refl, refl)
settled-bits false false true true used locked apart = (refl, refl)
settled-bits false false true false used locked apart = (refl, refl)
settled-bits false false false true used locked apart = (refl, refl)
settled-bits false false false false used locked apart = (refl, refl)

-- the fresh page went, and the committed one is unlocked
pub undone-bits : (c x f l : Bool) →
    ((c || x) ≡ true → f ≡ false) →
    ((c || x) ≡ true → l ≡ (c && not x)) →
    (c ≡ true → x ≡ false) →
    ((x || f) ≡ free_bits c x c c f) × ((not c && (not x && l)) ≡ locked_bits c x c c l)
undone-bits true true true true used locked apart = (let never : true ≡ false = used refl in absurd cc)
undone-bits true true true false used locked apart = (let never : true ≡ false = used refl in absurd cc)
undone-bits true true false true used locked apart = (let never : true ≡ false = locked refl in absurd cc)
undone-bits true true false false used locked apart = (let never : true ≡ false = apart refl in absurd cc)
undone-bits true false true true used locked apart = (let never : true ≡ false = used refl in absurd cc)
undone-bits true false true false used locked apart = (let never : true ≡ false = used refl in absurd cc)
undone-bits true false false true used locked apart = (refl, refl)
undone-bits true false false false used locked apart = (let never : false ≡ true = locked refl in absurd cc)
undone-bits false true true true used locked apart = (let never : true ≡ false = used refl in absurd cc)
undone-bits false true true false used locked apart = (let never : true ≡ false = used refl in absurd cc)
undone-bits false true false true used locked apart = (let never : true ≡ false = locked refl in absurd cc)
undone-bits false true false false used locked apart = (refl, refl)
undone-bits false false true true used locked apart = (refl, refl)
undone-bits false false true false used locked apart = (refl, refl)
undone-bits false false false true used locked apart = (refl, refl)
undone-bits false false false false used locked apart = (refl, refl)

-- the committed version is the working one again
pub back-bits : (c f l : Bool) →
    ((c || false) ≡ true → f ≡ false) →
    ((c || false) ≡ true → l ≡ (c && not false)) →
    (f ≡ free_bits c false c c f) × ((not c && l) ≡ locked_bits c false c c l)
back-bits true true true used locked = (let never : true ≡ false = used refl in absurd cc)
back-bits true true false used locked = (let never : true ≡ false = used refl in absurd cc)
back-bits true false true used locked = (refl, refl)
back-bits true false false used locked = (let never : false ≡ true = locked refl in absurd cc)
back-bits false true true used locked = (refl, refl)
back-bits false true false used locked = (refl, refl)
back-bits false false true used locked = (refl, refl)
back-bits false false false used locked = (refl, refl)
