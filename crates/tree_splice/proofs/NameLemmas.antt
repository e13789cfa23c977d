-- Nodes are named one after the other, from what is left of their three lists.
use Rattle.std.proofs.Common.{
  ◌≡◌,
  ℕ,
  ◌+◌,
  ◌^◌,
  ◌<◌,
  ◌≤◌,
  List,
  [],
  ◌∷◌,
  ◌++◌,
  length,
  map,
  take,
  drop,
  get_or,
  sym,
  ap,
  subst,
  arith,
  ◌∙◌,
  append_assoc,
  length-drop,
}
use Rattle.std.proofs.lemmas.List.{append-nil, drop_more, drop_all}
use Rattle.std.proofs.lemmas.List.Sums.{sum_by-cons}
use Rattle.tree_model.specs.declared.entry.Pair.{Pair}
use Rattle.tree_model.specs.Tree.{bytes_of}
use Rattle.layout_model.specs.Levels.{PageNode, pair_of, cut_into, on_pages}
use Rattle.tree_splice.specs.Remade.{AreCounted}
use Rattle.tree_splice.proofs.RunLemmas.{total}

-- the nodes that are left
abbrev pub left_of : List ℕ → List ℕ → List Pair → ℕ → List PageNode
left_of pages counts left i = on_pages (drop i pages) (cut_into (drop i counts) left)

-- the first of them, and the others
pub left-more : (pages counts : List ℕ) (left : List Pair) (i : ℕ) → i < length pages → length pages ≡ length counts →
    left_of pages counts left i
    ≡ record { page = get_or pages i 0; pairs = take (get_or counts i 0) left } ∷ left_of pages counts (drop (get_or counts i 0) left)
    (i + 1)
left-more pages counts left i inside same =
    ap (λ (ps : List ℕ). on_pages ps (cut_into (drop i counts) left)) (drop_more pages i 0 inside)
    ∙ ap (λ (ks : List ℕ). on_pages (get_or pages i 0 ∷ drop (i + 1) pages) (cut_into ks left))
    (drop_more counts i 0 (omega (arith, inside, same)))

pub left-none : (pages counts : List ℕ) (left : List Pair) (i : ℕ) → length counts ≤ i → left_of pages counts left i ≡ []
left-none pages counts left i past = ap (λ (ks : List ℕ). on_pages (drop i pages) (cut_into ks left)) (drop_all i counts past)

-- there are as many pairs left
pub whole-first : (counts : List ℕ) (left : List Pair) (i : ℕ) → i < length counts → total (drop i counts) ≤ length left → get_or counts i 0
    ≤ length left
whole-first counts left i inside whole =
    let more = ap total (drop_more counts i 0 inside) in
    let sum = sum_by-cons (λ (n : ℕ). n) (get_or counts i 0) (drop (i + 1) counts) in
    omega (arith, whole, more, sum)

pub whole-more : (counts : List ℕ) (left behind : List Pair) (i : ℕ) → i < length counts → total (drop i counts) ≤ length left →
    behind ≡ drop (get_or counts i 0) left → total (drop (i + 1) counts) ≤ length behind
whole-more counts left behind i inside whole rest =
    let more = ap total (drop_more counts i 0 inside) in
    let sum = sum_by-cons (λ (n : ℕ). n) (get_or counts i 0) (drop (i + 1) counts) in
    let count = ap length rest ∙ length-drop (get_or counts i 0) left in
    omega (arith, whole, more, sum, count)

-- one name more
pub names-more : (pages counts : List ℕ) (left here behind : List Pair) (i bytes : ℕ) (old new : List Pair) → i < length pages → length
    pages ≡ length counts →
    here ≡ take (get_or counts i 0) left → behind ≡ drop (get_or counts i 0) left → bytes ≡ bytes_of here →
    new ≡ old ++ record { bytes = bytes; page = get_or pages i 0 } ∷ [] →
    new ++ map pair_of (left_of pages counts behind (i + 1)) ≡ old ++ map pair_of (left_of pages counts left i)
names-more pages counts left here behind i bytes old new inside same front back sum added =
    let n = get_or counts i 0 in
    let page = get_or pages i 0 in
    let others = map pair_of (left_of pages counts (drop n left) (i + 1)) in
    let counted : bytes ≡ bytes_of (take n left) = sum ∙ ap bytes_of front in
    ap (λ (ps : List Pair). new ++ map pair_of (left_of pages counts ps (i + 1))) back
    ∙ (ap (λ (ps : List Pair). ps ++ others) added
    ∙ (append_assoc old (record { bytes = bytes; page = page } ∷ []) others
    ∙ (ap (λ (b : ℕ). old ++ record { bytes = b; page = page } ∷ others) counted
    ∙ ap (λ (ns : List PageNode). old ++ map pair_of ns) (sym (left-more pages counts left i inside same)))))

-- the nodes that are left are counted where all are
pub counted-more : (pages counts : List ℕ) (left behind : List Pair) (i : ℕ) → i < length pages → length pages ≡ length counts →
    behind ≡ drop (get_or counts i 0) left → AreCounted (left_of pages counts left i) → AreCounted (left_of pages counts behind (i + 1))
counted-more pages counts left behind i inside same back counted =
    subst (λ (ps : List Pair). AreCounted (left_of pages counts ps (i + 1))) (sym back)
    (subst AreCounted (left-more pages counts left i inside same) counted).1

pub counted-first : (pages counts : List ℕ) (left here : List Pair) (i : ℕ) → i < length pages → length pages ≡ length counts →
    here ≡ take (get_or counts i 0) left → AreCounted (left_of pages counts left i) → bytes_of here < 2 ^ 64
counted-first pages counts left here i inside same front counted =
    subst (λ (ps : List Pair). bytes_of ps < 2 ^ 64) (sym front) (subst AreCounted (left-more pages counts left i inside same) counted).0

-- at the end all are named
pub names-end : (pages counts : List ℕ) (left : List Pair) (i : ℕ) (old all : List Pair) → length counts ≤ i →
    old ++ map pair_of (left_of pages counts left i) ≡ all → old ≡ all
names-end pages counts left i old all past named =
    sym (ap (λ (ns : List PageNode). old ++ map pair_of ns) (left-none pages counts left i past) ∙ append-nil old) ∙ named
