-- A page written part by part.
use Rattle.std.proofs.Common.{◌≡◌, ℕ, ◌+◌, ◌-◌, ◌*◌, ◌<◌, List, [], ◌∷◌, ◌++◌, length, take, replicate, get_or, sym}
use Rattle.std.proofs.Common.{ap, subst, ◌∙◌, append_assoc, arith}
use Rattle.std.specs.List.{AllByRecursion, flat_map}
use Rattle.std.proofs.lemmas.List.{flat_map_more, take_more, take_all}
use Rattle.tree_model.specs.declared.entry.Pair.{Pair}
use Rattle.tree_model.specs.Node.{IsPair, IsNode, NodeBytes, pair_bytes, head_bytes}

-- two writes, one behind the other
pub two_parts : (at : ℕ) (old mid new a b x y : List ℕ) → a ≡ x → b ≡ y → length x ≡ 8 → length y ≡ 4
    → take (at + length a) mid ≡ take at old ++ a
    → take (at + 8 + length b) new ≡ take (at + 8) mid ++ b
    → take (at + 12) new ≡ take at old ++ (x ++ y)
two_parts at old mid new a b x y e f lx ly first second =
    let la : length a ≡ 8 = ap length e ∙ lx in
    let lb : length b ≡ 4 = ap length f ∙ ly in
    let end : at + 12 ≡ at + 8 + length b = omega arith in
    let front : take (at + 8) mid ≡ take at old ++ a = ap (λ (n : ℕ). take (at + n) mid) (sym la) ∙ first in
    ap (λ (n : ℕ). take n new) end ∙ second ∙ ap (λ (r : List ℕ). r ++ b) front ∙ append_assoc (take at old) a b
    ∙ ap (λ (r : List ℕ). take at old ++ (r ++ b)) e ∙ ap (λ (r : List ℕ). take at old ++ (x ++ r)) f

-- a fact on each, and on one more
AllByRecursion-push : {X : Type 0} (P : X → Type 0) (xs : List X) (x : X) → AllByRecursion P xs → P x → AllByRecursion P (xs ++ x ∷ [])
AllByRecursion-push P [] x each here = (here, tt)
AllByRecursion-push P (y ∷ ys) x each here = (each.0, AllByRecursion-push P ys x each.1 here)

pub each-more : (items : List Pair) (i : ℕ) (d : Pair) → i < length items → AllByRecursion IsPair (take i items)
    → IsPair (get_or items i d) → AllByRecursion IsPair (take (i + 1) items)
each-more items i d l each here = rw (take_more items i d l) (AllByRecursion-push IsPair (take i items) (get_or items i d) each here)

-- one pair more of those written
pub written-more : (level count at i : ℕ) (items : List Pair) (old new : List ℕ) (d : Pair) → i < length items → at ≡ 8 + 12 * i
    → take (8 + 12 * i) old ≡ head_bytes level count ++ flat_map pair_bytes (take i items)
    → take (at + 12) new ≡ take at old ++ pair_bytes (get_or items i d)
    → take (8 + 12 * (i + 1)) new ≡ head_bytes level count ++ flat_map pair_bytes (take (i + 1) items)
written-more level count at i items old new d l place so_far more =
    let end : 8 + 12 * (i + 1) ≡ at + 12 = omega arith in
    let head = head_bytes level count in
    let p = get_or items i d in
    ap (λ (n : ℕ). take n new) end ∙ more
    ∙ ap (λ (n : ℕ). take n old ++ pair_bytes p) place
    ∙ ap (λ (r : List ℕ). r ++ pair_bytes p) so_far
    ∙ flat_map_more pair_bytes head (take i items) p
    ∙ ap (λ (r : List Pair). head ++ flat_map pair_bytes r) (sym (take_more items i d l))

-- a page of a whole head, all pairs and zeros is a node's
pub NodeBytes-written : (level at i : ℕ) (items : List Pair) (old new : List ℕ) → i ≡ length items → at ≡ 8 + 12 * i
    → take (8 + 12 * i) old ≡ head_bytes level (length items) ++ flat_map pair_bytes (take i items)
    → new ≡ take at old ++ replicate (length old - at) 0 → length new ≡ length old
    → IsNode (length new) level items → NodeBytes new level items
NodeBytes-written level at i items old new all place written whole same sound =
    let head = head_bytes level (length items) in
    let body = flat_map pair_bytes items in
    let end : at ≡ 8 + 12 * length items = place ∙ ap (λ (n : ℕ). 8 + 12 * n) all in
    let front : take at old ≡ head ++ body =
    ap (λ (n : ℕ). take n old) place ∙ written
    ∙ ap (λ (r : List Pair). head ++ flat_map pair_bytes r)
    (ap (λ (n : ℕ). take n items) all ∙ take_all (length items) items (omega arith)) in
    let tail : length old - at ≡ length new - (8 + 12 * length items) = omega arith in
    record {
      sound = sound;
      bytes = whole ∙ ap (λ (r : List ℕ). r ++ replicate (length old - at) 0) front
          ∙ ap (λ (n : ℕ). (head ++ body) ++ replicate n 0) tail
          ∙ append_assoc head body (replicate (length new - (8 + 12 * length items)) 0);
    }

-- a fact on each of the first ones, which are all
pub whole-list : (i : ℕ) (items : List Pair) → i ≡ length items → AllByRecursion IsPair (take i items) → AllByRecursion IsPair items
whole-list i items all each = subst (AllByRecursion IsPair) (take_all i items (omega arith)) each
