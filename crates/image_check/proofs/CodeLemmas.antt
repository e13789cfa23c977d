-- Owners as codes of two bytes.
use Rattle.std.proofs.Common.{◌≡◌, ℕ, zero, suc, ◌+◌, ◌<◌, Bool, false, Option, List, ◌∷◌, ◌++◌, length, map, take, drop}
use Rattle.std.proofs.Common.{replicate, get_or, set, refl, sym, ap, ◌∙◌, arith, nat_eq}
use Rattle.std.specs.Prelude.{if◌then◌else◌}
use Rattle.std.proofs.lemmas.Bool.{ne_eqb}
use Rattle.std.proofs.lemmas.List.{drop-map, get_or-map, map-append, map-set, take-map}
use Rattle.tree_model.specs.declared.entry.Pair.{Pair}
use Rattle.image_check.specs.declared.owner.Owner.{Owner}
use Rattle.image_check.specs.declared.owner.Owner.TheVariants.{Free, Nobody, Object}
use Rattle.image_check.specs.Owners.{KeptWalk, after_meeting, after_meeting_of, is_number, owner_at, owner_of, with_owner}

-- a walk that is kept in codes
abbrev pub kept_in : List ℕ → Option Pair → KeptWalk
kept_in codes before = record { owners = map owner_of codes; before = before }

pub codes-free : (n : ℕ) → map owner_of (replicate n 65535) ≡ replicate n Free
codes-free zero = refl
codes-free (suc n) = ap (λ (owners : List Owner). Free ∷ owners) (codes-free n)

codes-nobody : (n : ℕ) → map owner_of (replicate n 65534) ≡ replicate n Nobody
codes-nobody zero = refl
codes-nobody (suc n) = ap (λ (owners : List Owner). Nobody ∷ owners) (codes-nobody n)

pub codes-used : (codes : List ℕ) (first n : ℕ) → map owner_of (take first codes ++ (replicate n 65534 ++ drop (first + n) codes))
    ≡ take first (map owner_of codes) ++ (replicate n Nobody ++ drop (first + n) (map owner_of codes))
codes-used codes first n =
    map-append owner_of (take first codes) (replicate n 65534 ++ drop (first + n) codes)
    ∙ ap (λ (owners : List Owner). owners ++ map owner_of (replicate n 65534 ++ drop (first + n) codes)) (sym (take-map owner_of first
    codes))
    ∙ ap (λ (owners : List Owner). take first (map owner_of codes) ++ owners)
    (map-append owner_of (replicate n 65534) (drop (first + n) codes)
    ∙ ap (λ (owners : List Owner). owners ++ map owner_of (drop (first + n) codes)) (codes-nobody n)
    ∙ ap (λ (owners : List Owner). replicate n Nobody ++ owners) (sym (drop-map owner_of (first + n) codes)))

pub codes-owner : (codes : List ℕ) (before : Option Pair) (q : ℕ) → q < length codes →
    owner_at (kept_in codes before) q ≡ owner_of (get_or codes q 0)
codes-owner codes before q inside = get_or-map owner_of codes q 0 Nobody inside

-- an object's number stands for itself
pub code-number : (o : ℕ) → is_number o → owner_of o ≡ Object o
code-number o low =
    let first : nat_eq o 65535 ≡ false = ne_eqb o 65535 (λ same. absurd (omega (arith, low, same))) in
    let second : nat_eq o 65534 ≡ false = ne_eqb o 65534 (λ same. absurd (omega (arith, low, same))) in
    ap (λ (b : Bool). if b then Free else (if nat_eq o 65534 then Nobody else Object o)) first
    ∙ ap (λ (b : Bool). if b then Nobody else Object o) second

pub codes-met : (codes : List ℕ) (before : Option Pair) (page o : ℕ) → is_number o →
    kept_in (set codes page o) before ≡ with_owner (kept_in codes before) page o
codes-met codes before page o low =
    ap (λ (owners : List Owner). let kept : KeptWalk = record { owners = owners; before = before } in kept)
    (map-set owner_of codes page o ∙ ap (set (map owner_of codes) page) (code-number o low))

-- what meeting a page makes, by whose it was
pub met-by : (page o : ℕ) (kept : KeptWalk) (owner : Owner) → owner_at kept page ≡ owner →
    after_meeting page o kept ≡ after_meeting_of page o kept owner
met-by page o kept owner is = ap (after_meeting_of page o kept) is
