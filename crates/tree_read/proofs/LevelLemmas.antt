-- One level down, for all nodes of a level.
use Rattle.std.proofs.Common.{◌≡◌, ℕ, zero, suc, ◌+◌, ◌<◌, ◌≤◌, ◌^◌, true, false, List, [], ◌∷◌, ◌++◌, length, take}
use Rattle.std.proofs.Common.{get_or, min, max, nat_lt, refl, sym, ap, subst, ◌∙◌, append-nil, length-append, arith}
use Rattle.std.specs.List.{AllByRecursion}
use Rattle.std.proofs.lemmas.Grind.{flat_map-append}
use Rattle.std.proofs.lemmas.List.{map-append, take_more}
use Rattle.std.proofs.lemmas.Bool.{lt-ltb, ltb-true, ltb-false}
use Rattle.base_laws.proofs.ListLaws.{all-append}
use Rattle.tree_model.specs.declared.entry.Pair.{Pair}
use Rattle.tree_model.specs.declared.entry.Placed.{Placed}
use Rattle.tree_model.specs.Tree.{Pages, bytes_of, pairs_on, AreTrees, IsTree, entries_under, entries_of}
use Rattle.tree_model.specs.Range.{is_in_range, in_range, pairs_of}
use Rattle.tree_read.specs.Cost.{below, nodes_in_range}
use Rattle.tree_read.specs.Search.{EndsInside, HasByte, IsNamed, top}
use Rattle.tree_read.proofs.TreeLemmas.{AreTrees-append, AreTrees-first, AreTrees-rest, AreTrees-in_range}
use Rattle.tree_read.proofs.TreeLemmas.{AreTrees-nil, AreTrees-root, under-root, at_start, bytes_of-cons, found}
use Rattle.tree_read.proofs.TreeLemmas.{found-append, found-down, found-entries, in_range-each, in_range-nothing}

-- one node more
pub below-more : (at : Pages) (from to : ℕ) (ss : List Placed) (i : ℕ) (d : Placed) → i < length ss
    → below at from to (take (i + 1) ss) ≡ below at from to (take i ss)
    ++ in_range from to (get_or ss i d).start (pairs_on at (get_or ss i d).pair.page)
below-more at from to ss i d l =
    let s = get_or ss i d in
    ap (below at from to) (take_more ss i d l)
    ∙ flat_map-append (λ (r : Placed). in_range from to r.start (pairs_on at r.pair.page)) (take i ss) (s ∷ [])
    ∙ ap (λ (r : List Placed). below at from to (take i ss) ++ r) (append-nil (in_range from to s.start (pairs_on at s.pair.page)))

-- what is found under a level is found under the next
pub found-below : (at : Pages) (height from to : ℕ) (ss : List Placed) → AreTrees at 0 (suc height) (pairs_of ss)
    → found at (suc height) from to ss ≡ found at height from to (below at from to ss)
found-below at height from to [] trees = refl
found-below at height from to (s ∷ ss) trees =
    let here = found-down at 0 height from to s (AreTrees-first at 0 (suc height) s.pair (pairs_of ss) trees) in
    let rest = found-below at height from to ss (AreTrees-rest at 0 (suc height) s.pair (pairs_of ss) trees) in
    let kids = in_range from to s.start (pairs_on at s.pair.page) in
    ap (λ (r : List Placed). r ++ found at (suc height) from to ss) here
    ∙ ap (λ (r : List Placed). found at height from to kids ++ r) rest
    ∙ sym (found-append at height from to kids (below at from to ss))

-- the next level is one of trees
pub AreTrees-below : (at : Pages) (height from to : ℕ) (ss : List Placed) → AreTrees at 0 (suc height) (pairs_of ss)
    → AreTrees at 0 height (pairs_of (below at from to ss))
AreTrees-below at height from to [] trees = AreTrees-nil at 0 height
AreTrees-below at height from to (s ∷ ss) trees =
    let kids = in_range from to s.start (pairs_on at s.pair.page) in
    let here = AreTrees-in_range at 0 height from to s.start (pairs_on at s.pair.page) trees.0.1 in
    let rest = AreTrees-below at height from to ss (AreTrees-rest at 0 (suc height) s.pair (pairs_of ss) trees) in
    rw (map-append (λ (r : Placed). r.pair) kids (below at from to ss))
    (AreTrees-append at 0 height (pairs_of kids) (pairs_of (below at from to ss)) here rest)

-- what is below is in the range
pub below-each : (at : Pages) (from to : ℕ) (ss : List Placed) → AllByRecursion (λ s. is_in_range from to s ≡ true) (below at from to ss)
below-each at from to [] = tt
below-each at from to (s ∷ ss) =
    all-append (λ (r : Placed). is_in_range from to r ≡ true) (in_range from to s.start (pairs_on at s.pair.page)) (below at from to ss)
    (in_range-each from to s.start (pairs_on at s.pair.page)) (below-each at from to ss)

-- trees have the nodes that their pairs name
pub AreTrees-named : (at : Pages) (height : ℕ) (ss : List Placed) → AreTrees at 0 (suc height) (pairs_of ss)
    → AllByRecursion (IsNamed at (suc height)) ss
AreTrees-named at height [] trees = tt
AreTrees-named at height (s ∷ ss) trees =
    (trees.0.0, AreTrees-named at height ss (AreTrees-rest at 0 (suc height) s.pair (pairs_of ss) trees))

-- the pairs that a range meets end inside where all of them do
pub in_range-inside : (from to start : ℕ) (ps : List Pair) → start + bytes_of ps < 2 ^ 64
    → AllByRecursion EndsInside (in_range from to start ps)
in_range-inside from to start [] fits = tt
in_range-inside from to start (p ∷ ps) fits =
    let parts = bytes_of-cons p ps in
    let here : start + p.bytes < 2 ^ 64 = omega arith in
    let rest = in_range-inside from to (start + p.bytes) ps (omega arith) in
    (elim (is_in_range from to (at_start start p)) as (λ b. is_in_range from to (at_start start p) ≡ b
    → AllByRecursion EndsInside (in_range from to start (p ∷ ps))) [
      | true ↦ λ e. rw e (here, rest)
      | false ↦ λ e. rw e rest
    ]) refl

-- a fact on one of all
pub AllByRecursion-at : {X : Type 0} (P : X → Type 0) (xs : List X) (i : ℕ) (d : X) → i < length xs → AllByRecursion P xs
    → P (get_or xs i d)
AllByRecursion-at P [] i d l each = absurd (omega arith)
AllByRecursion-at P (x ∷ xs) zero d l each = each.0
AllByRecursion-at P (x ∷ xs) (suc i) d l each = AllByRecursion-at P xs i d (omega arith) each.1

-- the nodes of a level are among all that are read
pub length-nodes : (at : Pages) (from to height : ℕ) (ss : List Placed)
    → length (nodes_in_range at from to (suc height) ss) ≡ length ss + length (nodes_in_range at from to height (below at from to ss))
length-nodes at from to height ss = length-append ss (nodes_in_range at from to height (below at from to ss))

-- a level of the search: what is under its nodes is what the range meets of all entries
pub record IsLevel (at : Pages) (from to height page level : ℕ) (ss : List Placed) : Type 0 where
  pub all : found at level from to ss ≡ in_range from to 0 (entries_of at height page)
  pub trees : AreTrees at 0 level (pairs_of ss)
  pub each : AllByRecursion (λ s. is_in_range from to s ≡ true) ss

abbrev pub root_pair : ℕ → ℕ → Placed
root_pair page bytes = record { start = 0; pair = record { bytes = bytes; page = page } }

-- a pair is the root's where its parts are
pub same_pair : (s : Placed) (bytes page : ℕ) → s.start ≡ 0 → s.pair.bytes ≡ bytes → s.pair.page ≡ page → root_pair page bytes ≡ s
same_pair s bytes page e f g =
    let whole : ℕ → ℕ → ℕ → Placed = λ start b p. record { start = start; pair = record { bytes = b; page = p } } in
    ap (λ (x : ℕ). whole x bytes page) (sym e) ∙ ap (λ (x : ℕ). whole s.start x page) (sym f)
    ∙ ap (λ (x : ℕ). whole s.start s.pair.bytes x) (sym g)

-- the root's level
pub IsLevel-root : (at : Pages) (half from to height page bytes : ℕ) → IsTree at half (suc height) page bytes → from < to → to ≤ bytes
    → IsLevel at from to (suc height) page (suc height) (root_pair page bytes ∷ [])
IsLevel-root at half from to height page bytes tree some inside =
    let yes : is_in_range from to (root_pair page bytes) ≡ true = lt-ltb (max from 0) (min to (0 + bytes)) (omega arith) in
    record {
      all = append-nil (in_range from to 0 (entries_under at (suc height) (record { bytes = bytes; page = page } ∷ [])))
          ∙ ap (in_range from to 0) (under-root at height page bytes);
      trees = AreTrees-root at half height page bytes tree;
      each = (yes, tt);
    }

-- an empty range is past all
past : (from to n : ℕ) → to ≤ from → min to (0 + n) ≤ max from 0
past from to n le = omega arith

-- no pair, where the range meets no entry
IsLevel-none : (at : Pages) (from to height page : ℕ) → in_range from to 0 (entries_of at height page) ≡ []
    → IsLevel at from to height page height []
IsLevel-none at from to height page none = record { all = sym none; trees = AreTrees-nil at 0 height; each = tt }

-- the root, where a range has a byte
IsLevel-some : (at : Pages) (half from to height page bytes : ℕ) → IsTree at half height page bytes → from < to → to ≤ bytes
    → IsLevel at from to height page height (root_pair page bytes ∷ [])
IsLevel-some at half from to zero page bytes tree some inside = let none = tree.1 in absurd (omega arith)
IsLevel-some at half from to (suc height) page bytes tree some inside = IsLevel-root at half from to height page bytes tree some inside

-- the first level: the root, or nothing
pub IsLevel-top : (at : Pages) (half from to height page bytes : ℕ) → IsTree at half height page bytes → from ≤ to → to ≤ bytes
    → IsLevel at from to height page height (top (record { height = height; page = page; length = bytes }) from to)
IsLevel-top at half from to height page bytes tree order inside =
    (elim (nat_lt from to) as (λ b. nat_lt from to ≡ b
    → IsLevel at from to height page height (top (record { height = height; page = page; length = bytes }) from to)) [
      | true ↦ λ e. rw e (IsLevel-some at half from to height page bytes tree (ltb-true from to e) inside)
      | false ↦ λ e.
          let entries = entries_of at height page in
          let none = in_range-nothing from to 0 entries (past from to (bytes_of entries) (ltb-false from to e)) in
          rw e (IsLevel-none at from to height page none)
    ]) refl

-- the level of the root, where a byte is looked for
pub IsLevel-find : (at : Pages) (half byte height page bytes : ℕ) → IsTree at half height page bytes → byte < bytes
    → IsLevel at byte (byte + 1) height page height (root_pair page bytes ∷ [])
IsLevel-find at half byte height page bytes tree inside =
    IsLevel-some at half byte (byte + 1) height page bytes tree (omega arith) (omega arith)

-- one level down is a level again
pub IsLevel-below : (at : Pages) (from to height page level next : ℕ) (ss : List Placed) → level ≡ suc next
    → IsLevel at from to height page level ss → IsLevel at from to height page next (below at from to ss)
IsLevel-below at from to height page level next ss e here =
    let trees = subst (λ (n : ℕ). AreTrees at 0 n (pairs_of ss)) e here.trees in
    record {
      all = sym (found-below at next from to ss trees) ∙ ap (λ (n : ℕ). found at n from to ss) (sym e) ∙ here.all;
      trees = AreTrees-below at next from to ss trees;
      each = below-each at from to ss;
    }

-- a level of nodes has the nodes that its pairs name
pub IsLevel-named : (at : Pages) (from to height page level next : ℕ) (ss : List Placed) → level ≡ suc next
    → IsLevel at from to height page level ss → AllByRecursion (IsNamed at level) ss
IsLevel-named at from to height page level next ss e here =
    let trees = subst (λ (n : ℕ). AreTrees at 0 n (pairs_of ss)) e here.trees in
    subst (λ (n : ℕ). AllByRecursion (IsNamed at n) ss) (sym e) (AreTrees-named at next ss trees)

-- below the last level of nodes stand the entries themselves
pub IsLevel-entries : (at : Pages) (from to height page level : ℕ) (ss : List Placed) → level ≡ 0
    → IsLevel at from to height page level ss → ss ≡ in_range from to 0 (entries_of at height page)
IsLevel-entries at from to height page level ss e here =
    sym (found-entries at from to ss here.each) ∙ ap (λ (n : ℕ). found at n from to ss) (sym e) ∙ here.all

-- the nodes of a level and of those below it
pub length-nodes-next : (at : Pages) (from to level next : ℕ) (ss : List Placed) → level ≡ suc next
    → length (nodes_in_range at from to level ss) ≡ length ss + length (nodes_in_range at from to next (below at from to ss))
length-nodes-next at from to level next ss e =
    ap (λ (n : ℕ). length (nodes_in_range at from to n ss)) e ∙ length-nodes at from to next ss

-- the search for one byte has one pair at each level
pub IsLevel-one : (at : Pages) (from to height page level next : ℕ) (s r : Placed) (ps : List Pair) → level ≡ suc next
    → ps ≡ pairs_on at s.pair.page → in_range from to s.start ps ≡ r ∷ []
    → IsLevel at from to height page level (s ∷ []) → IsLevel at from to height page next (r ∷ [])
IsLevel-one at from to height page level next s r ps e pairs one here =
    let kids : below at from to (s ∷ []) ≡ r ∷ [] =
    append-nil (in_range from to s.start (pairs_on at s.pair.page)) ∙ ap (in_range from to s.start) (sym pairs) ∙ one in
    subst (IsLevel at from to height page next) kids (IsLevel-below at from to height page level next (s ∷ []) e here)

-- the one pair that has a byte begins before it and ends behind it
pub one-inside : (at start : ℕ) (ps : List Pair) (r : Placed) → in_range at (at + 1) start ps ≡ r ∷ [] → start + bytes_of ps < 2 ^ 64
    → HasByte at r
one-inside at start ps r one fits =
    let each = subst (AllByRecursion (λ s. is_in_range at (at + 1) s ≡ true)) one (in_range-each at (at + 1) start ps) in
    let inside = subst (AllByRecursion EndsInside) one (in_range-inside at (at + 1) start ps fits) in
    let meet = ltb-true (max at r.start) (min (at + 1) (r.start + r.pair.bytes)) each.0 in
    record { from = omega arith; to = omega arith; fits = inside.0 }
