-- Each page has one role: the uses by segments, spares and nodes add up to the uses of all working versions.
use Rattle.std.proofs.Common.{◌≡◌, ℕ, ◌+◌, ◌≤◌, Bool, true, false, ◌&&◌, cond, List, [], ◌∷◌, refl, arith, sum_by, nat_eq, nat_lt}
use Rattle.std.proofs.lemmas.Bool.Decides.{nat_tests}
use Rattle.std.proofs.lemmas.List.Sums.{sum_by-cons}
use Rattle.geometry_model.specs.Numbers.{Numbers}
use Rattle.layout_model.specs.Layout.{Tree}
use Rattle.moment_model.specs.Version.{segment_uses, node_uses, spare_uses}
use Rattle.moment_model.specs.Moment.{ObjectSlot, Moment, working_uses, all_working, all_committed, IsSound, HasOneRole, count_true}

-- the sum of two counts is the count of their sum
pub sum_split : {X : Type 0} (f g h : X → ℕ) → ((x : X) → f x + g x ≡ h x) → (xs : List X) → sum_by f xs + sum_by g xs ≡ sum_by h xs
sum_split f g h e [] = refl
sum_split f g h e (x ∷ xs) =
    let of_f = sum_by-cons f x xs in
    let of_g = sum_by-cons g x xs in
    let of_h = sum_by-cons h x xs in
    let more = sum_split f g h e xs in
    let here = e x in
    omega (arith, of_f, of_g, of_h, more, here)

-- the working uses of a page, by segments with spares and by nodes
pub working_split : (n : Numbers) (page : ℕ) (moment : Moment) →
    sum_by (λ (slot : ObjectSlot). segment_uses n page slot.working + spare_uses page slot.spare) moment
    + sum_by (λ (slot : ObjectSlot). node_uses page slot.working) moment
    ≡ sum_by (working_uses n page) moment
working_split n page moment =
    sum_split (λ (slot : ObjectSlot). segment_uses n page slot.working + spare_uses page slot.spare)
    (λ (slot : ObjectSlot). node_uses page slot.working) (working_uses n page) (λ slot. omega arith) moment

-- a counted test as a choice
count-choice : (bit : Bool) → count_true bit ≡ cond bit 1 0
count-choice true = refl
count-choice false = refl

-- the counts of the four roles
roles_choose : (committed segments nodes working : ℕ) → segments + nodes ≡ working → working ≤ 1 →
    cond (nat_eq committed 0 && nat_eq working 0) 1 0 + cond (nat_lt 0 committed && nat_eq working 0) 1 0 + segments + nodes ≡ 1
roles_choose committed segments nodes working adds once = grind (arith, nat_tests)

pub roles_add : (committed segments nodes working : ℕ) → segments + nodes ≡ working → working ≤ 1 →
    count_true (nat_eq committed 0 && nat_eq working 0) + count_true (nat_lt 0 committed && nat_eq working 0) + segments + nodes ≡ 1
roles_add committed segments nodes working adds once =
    rw (count-choice (nat_eq committed 0 && nat_eq working 0), count-choice (nat_lt 0 committed && nat_eq working 0))
    (roles_choose committed segments nodes working adds once)

-- in a sound moment each page has one role
pub sound_one_role : (good : Numbers → Tree → Type 0) (n : Numbers) (held : ℕ → Bool) (moment : Moment) →
    IsSound good n held moment → (page : ℕ) → HasOneRole n page moment
sound_one_role good n held moment sound page =
    roles_add (all_committed n page moment)
    (sum_by (λ (slot : ObjectSlot). segment_uses n page slot.working + spare_uses page slot.spare) moment)
    (sum_by (λ (slot : ObjectSlot). node_uses page slot.working) moment)
    (all_working n page moment) (working_split n page moment) (sound.working_once page)
