-- Entries by their bytes, and facts on the items of a list up to a place.
use Rattle.std.proofs.Common.{
  ◌≡◌,
  ℕ,
  ◌+◌,
  ◌-◌,
  ◌<◌,
  ◌≤◌,
  suc,
  true,
  false,
  List,
  [],
  ◌∷◌,
  length,
  take,
  drop,
  get_or,
  refl,
  sym,
  ap,
  subst,
  ◌∙◌,
  nat_le,
}
use Rattle.std.specs.List.{AllByRecursion}
use Rattle.std.proofs.lemmas.Bool.{le-leb, lt-leb}
use Rattle.std.proofs.lemmas.List.{drop_more, drop_all, take_more}
use Rattle.base_laws.proofs.ListLaws.{all-append}
use Rattle.layout_model.specs.Parts.{count_ended}
use Rattle.tree_model.specs.declared.entry.Pair.{Pair}

abbrev pub no_pair : Pair
no_pair = record { bytes = 0; page = 0 }

pub ended-here : (pairs : List Pair) (i left : ℕ) → i < length pairs → left < (get_or pairs i no_pair).bytes → count_ended left
    (drop i pairs) ≡ 0
ended-here pairs i left inside less =
    let p = get_or pairs i no_pair in
    let no : nat_le p.bytes left ≡ false = lt-leb p.bytes left less in
    let step : count_ended left (p ∷ drop (i + 1) pairs) ≡ 0 = rw (no, count_ended) refl in
    ap (count_ended left) (drop_more pairs i no_pair inside) ∙ step

pub ended-past : (pairs : List Pair) (i left : ℕ) → i < length pairs → (get_or pairs i no_pair).bytes ≤ left →
    count_ended left (drop i pairs) ≡ suc (count_ended (left - (get_or pairs i no_pair).bytes) (drop (i + 1) pairs))
ended-past pairs i left inside more =
    let p = get_or pairs i no_pair in
    let yes : nat_le p.bytes left ≡ true = le-leb p.bytes left more in
    let step : count_ended left (p ∷ drop (i + 1) pairs) ≡ suc (count_ended (left - p.bytes) (drop (i + 1) pairs)) = rw (yes, count_ended)
    refl in
    ap (count_ended left) (drop_more pairs i no_pair inside) ∙ step

pub ended-none : (pairs : List Pair) (i left : ℕ) → length pairs ≤ i → count_ended left (drop i pairs) ≡ 0
ended-none pairs i left past = ap (count_ended left) (drop_all i pairs past)

-- a fact on the first items and on the next one
pub all-more : {X : Type 0} (P : X → Type 0) (xs : List X) (i : ℕ) (d : X) → i < length xs → AllByRecursion P (take i xs) → P
    (get_or xs i d) →
    AllByRecursion P (take (i + 1) xs)
all-more P xs i d inside all next =
    subst (AllByRecursion P) (sym (take_more xs i d inside)) (all-append P (take i xs) (get_or xs i d ∷ []) all (next, tt))
