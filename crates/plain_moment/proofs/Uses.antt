-- How often runs use a page: over lists that are put together, and over a list of slots.
use Rattle.std.proofs.Common.{◌≡◌, ℕ, zero, suc, ◌+◌, Bool, true, false, ◌&&◌, not, List, [], ◌∷◌, map, count_by}
use Rattle.std.proofs.Common.{nat_eq, nat_lt, if◌then◌else◌, refl, ap, sym, ◌∙◌, arith}
use Rattle.std.proofs.lemmas.List.Sums.{sum_by-cons}
use Rattle.std.proofs.lemmas.Bool.{ne_eqb, lt-ltb}
use Rattle.std.specs.List.{range_with_len}
use Rattle.geometry_model.specs.Numbers.{Numbers}
use Rattle.geometry_model.specs.Pages.{data_page}
use Rattle.layout_model.specs.declared.extent.Extent.{Extent}
use Rattle.moment_model.specs.Version.{covers, uses}
use Rattle.moment_model.specs.Moment.{ObjectSlot, Moment, committed_uses, working_uses, all_committed, all_working}
use Rattle.moment_model.specs.Moment.{is_free, is_locked, tests_in, free_in, locked_in, free_of, locked_of}
use Rattle.moment_model.specs.Moment.{count_pages}
use Rattle.moment_laws.proofs.GrantLemmas.{uses-append, uses-cons}
use Rattle.plain_moment.specs.Testing.{is_in}

pub uses_one : (page : ℕ) (x : Extent) → uses page (x ∷ []) ≡ covers page x
uses_one page x = omega (arith, uses-cons page x [])

-- one slot before others
pub committed_more : (n : Numbers) (page : ℕ) (slot : ObjectSlot) (rest : Moment) →
    all_committed n page (slot ∷ rest) ≡ committed_uses n page slot + all_committed n page rest
committed_more n page slot rest = sum_by-cons (committed_uses n page) slot rest

pub working_more : (n : Numbers) (page : ℕ) (slot : ObjectSlot) (rest : Moment) →
    all_working n page (slot ∷ rest) ≡ working_uses n page slot + all_working n page rest
working_more n page slot rest = sum_by-cons (working_uses n page) slot rest

-- no run of a list has a page where the first hasn't and no other has
both_unused : (b : Bool) (c u v : ℕ) → (if b then 1 else 0) ≡ c → v ≡ c + u → nat_eq v 0 ≡ (not b && nat_eq u 0)
both_unused true c u v e s = ne_eqb v 0 (λ z. omega arith)
both_unused false c u v e s = let h : v ≡ u = omega arith in rw h refl

pub unused_more : (page : ℕ) (x : Extent) (xs : List Extent) (b : Bool) → (if b then 1 else 0) ≡ covers page x →
    nat_eq (uses page (x ∷ xs)) 0 ≡ (not b && nat_eq (uses page xs) 0)
unused_more page x xs b e = both_unused b (covers page x) (uses page xs) (uses page (x ∷ xs)) e (uses-cons page x xs)

-- two functions that agree make equal lists
map_same : {X Y : Type 0} (f g : X → Y) → ((x : X) → f x ≡ g x) → (xs : List X) → map f xs ≡ map g xs
map_same f g h [] = refl
map_same f g h (x ∷ xs) = rw (h x) (ap (λ t. g x ∷ t) (map_same f g h xs))

pub tests_same : (n : Numbers) (f g : ℕ → Bool) → ((page : ℕ) → f page ≡ g page) → (s : ℕ) → tests_in n s f ≡ tests_in n s g
tests_same n f g h s = map_same (λ at. f (data_page n s at)) (λ at. g (data_page n s at)) (λ at. h (data_page n s at)) (range_with_len 0 _)

above_zero : (u : ℕ) → not (nat_eq u 0) ≡ nat_lt 0 u
above_zero zero = refl
above_zero (suc u) = ap not (ne_eqb (suc u) 0 (λ z. omega arith)) ∙ sym (lt-ltb 0 (suc u) (omega arith))

-- the tests by two lists of runs are those of the moment
pub free_same : (n : Numbers) (moment : Moment) (committed working : List Extent) →
    ((page : ℕ) → uses page committed ≡ all_committed n page moment) → ((page : ℕ) → uses page working ≡ all_working n page moment) →
    map (λ s. tests_in n s (is_in false committed working)) (range_with_len 0 n.spaces) ≡ free_of n moment
unfolding free_of
free_same n moment committed working c w =
    map_same (λ s. tests_in n s (is_in false committed working)) (free_in n moment)
    (λ s. tests_same n (is_in false committed working) (λ page. is_free n page moment) (λ page. rw (c page, w page) refl) s)
    (range_with_len 0 n.spaces)

pub locked_same : (n : Numbers) (moment : Moment) (committed working : List Extent) →
    ((page : ℕ) → uses page committed ≡ all_committed n page moment) → ((page : ℕ) → uses page working ≡ all_working n page moment) →
    map (λ s. tests_in n s (is_in true committed working)) (range_with_len 0 n.spaces) ≡ locked_of n moment
unfolding locked_of
locked_same n moment committed working c w =
    map_same (λ s. tests_in n s (is_in true committed working)) (locked_in n moment)
    (λ s. tests_same n (is_in true committed working) (λ page. is_locked n page moment)
    (λ page. rw (c page, w page, above_zero (all_committed n page moment)) refl) s)
    (range_with_len 0 n.spaces)

pub ruleset version_rules = (uses-append)

pub ruleset committed_rules = (uses-append, committed_more)

pub ruleset working_rules = (uses-append, uses_one, working_more)

pub pages_more : (row : List Bool) (rows : List (List Bool)) → count_pages (row ∷ rows) ≡ count_by (λ bit. bit) row + count_pages rows
pages_more row rows = sum_by-cons (count_by (λ bit. bit)) row rows
