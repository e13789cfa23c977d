-- What a level becomes: its pairs are the list splice of the pairs that it had.
use Rattle.std.proofs.Common.{◌≡◌, ℕ, zero, suc, ◌+◌, ◌-◌, ◌*◌, ◌/◌, ◌%◌, ◌<◌, ◌≤◌, Bool, true, false, cond, List}
use Rattle.std.proofs.Common.{[], ◌∷◌, ◌++◌, refl, sym, ap, subst, arith, ◌∙◌, ◌⊎◌, inl, inr, append_assoc, length}
use Rattle.std.proofs.Common.{take, drop, replicate, map, nat_eq, nat_lt, length-append, sum_by}
use Rattle.std.proofs.Math.Seq.{take-append-add, drop-append-add, take-length}
use Rattle.std.proofs.Math.Nat.{zero-mod}
use Rattle.std.proofs.lemmas.Bool.{ltb-true, ltb-false, eqb-true}
use Rattle.std.proofs.lemmas.Nat.{le-div}
use Rattle.std.proofs.lemmas.Grind.{flat_map-append}
use Rattle.std.proofs.lemmas.List.{take-append-drop, take-append-le, drop-append-le, drop-take, take-take, drop-drop}
use Rattle.std.proofs.lemmas.List.Concat.{flat_map-cons}
use Rattle.std.proofs.lemmas.List.Folds.{sum_by-replicate}
use Rattle.std.proofs.lemmas.List.Sums.{sum_by-cons, sum_by-append}
use Rattle.tree_model.specs.declared.entry.Pair.{Pair}
use Rattle.layout_model.specs.Levels.{PageNode, NewLevel, Site, pairs_of_level, node_at, first_touched}
use Rattle.layout_model.specs.Levels.{count_touched, touched_site, nodes_at, exchanged, joins, joined, site_of}
use Rattle.layout_model.specs.Levels.{sizes_of, cut_into, on_pages, level_with, level_after, raised_levels}
use Rattle.layout_model.specs.Levels.{new_levels_from, spliced, is_top, pair_of, entries_of_levels, nodes_of_levels}
use Rattle.layout_model.specs.Levels.{unless_empty}

pub test_cases : (b : Bool) → (b ≡ true) ⊎ (b ≡ false)
test_cases true = inl refl
test_cases false = inr refl

-- the pairs of nodes beside each other
pub pairs-append : (xs ys : List PageNode) → pairs_of_level (xs ++ ys) ≡ pairs_of_level xs ++ pairs_of_level ys
pairs-append xs ys = flat_map-append (λ (node : PageNode). node.pairs) xs ys

pub pairs-cons : (x : PageNode) (xs : List PageNode) → pairs_of_level (x ∷ xs) ≡ x.pairs ++ pairs_of_level xs
pairs-cons x xs = flat_map-cons (λ (node : PageNode). node.pairs) x xs

-- the first n and the next m are the first n + m
pub take-two : {A : Type 0} (n m : ℕ) (xs : List A) → take n xs ++ take m (drop n xs) ≡ take (n + m) xs
take-two n m xs =
    let short : n ≤ n + m = omega arith in
    let front = take-take n (n + m) xs short in
    ap (λ ys. ys ++ take m (drop n xs)) (sym front)
    ∙ (ap (λ ys. take n (take (n + m) xs) ++ ys) (sym (drop-take n m xs)) ∙ take-append-drop n (take (n + m) xs))

-- a list is its first n items, the next m, and the rest
pub three : {A : Type 0} (n m : ℕ) (xs : List A) → take n xs ++ (take m (drop n xs) ++ drop (n + m) xs) ≡ xs
three n m xs =
    ap (λ ys. take n xs ++ (take m (drop n xs) ++ ys)) (sym (drop-drop m n xs))
    ∙ (ap (λ ys. take n xs ++ ys) (take-append-drop m (drop n xs)) ∙ take-append-drop n xs)

-- the sum of a list
abbrev total : List ℕ → ℕ
total ns = sum_by (λ n. n) ns

-- nodes that are cut from a list have its first pairs, as many as their sizes together
pub cut-pairs : (pages ns : List ℕ) (xs : List Pair) → pairs_of_level (on_pages pages (cut_into ns xs)) ≡ take (total ns) xs
cut-pairs pages [] xs = refl
cut-pairs [] (n ∷ ns) xs =
    pairs-cons (record { page = 0; pairs = take n xs }) (on_pages [] (cut_into ns (drop n xs)))
    ∙ (ap (λ ys. take n xs ++ ys) (cut-pairs [] ns (drop n xs))
    ∙ (take-two n (total ns) xs ∙ ap (λ m. take m xs) (sym (sum_by-cons (λ (m : ℕ). m) n ns))))
cut-pairs (page ∷ pages) (n ∷ ns) xs =
    pairs-cons (record { page = page; pairs = take n xs }) (on_pages pages (cut_into ns (drop n xs)))
    ∙ (ap (λ ys. take n xs ++ ys) (cut-pairs pages ns (drop n xs))
    ∙ (take-two n (total ns) xs ∙ ap (λ m. take m xs) (sym (sum_by-cons (λ (m : ℕ). m) n ns))))

-- r nodes of q + 1 pairs and the others of q pairs have all
shares : (m q r d : ℕ) → m ≡ d + r → r * (q + 1) + d * q ≡ m * q + r
shares m q r d e = grind (arith, e)

-- the sizes add up, where there is a node
sizes-many : (m n : ℕ) → 0 < m → total (replicate (n % m) (n / m + 1) ++ replicate (m - n % m) (n / m)) ≡ n
sizes-many m n some =
    let joined = sum_by-append (λ (k : ℕ). k) (replicate (n % m) (n / m + 1)) (replicate (m - n % m) (n / m)) in
    let large = sum_by-replicate (λ (k : ℕ). k) (n % m) (n / m + 1) in
    let small = sum_by-replicate (λ (k : ℕ). k) (m - n % m) (n / m) in
    let below : m ≡ (m - n % m) + n % m = omega arith in
    let shared = shares m (n / m) (n % m) (m - n % m) below in
    let whole : m * (n / m) + n % m ≡ n = omega arith in
    omega (arith, joined, large, small, shared, whole)

-- the pairs of a run of nodes, and of what stands before and after it
pub level-parts : (nodes : List PageNode) (before count : ℕ) →
    pairs_of_level nodes ≡ pairs_of_level (take before nodes)
    ++ (pairs_of_level (take count (drop before nodes)) ++ pairs_of_level (drop (before + count) nodes))
level-parts nodes before count =
    ap pairs_of_level (sym (three before count nodes))
    ∙ (pairs-append (take before nodes) (take count (drop before nodes) ++ drop (before + count) nodes)
    ∙ ap (λ ys. pairs_of_level (take before nodes) ++ ys) (pairs-append (take count (drop before nodes)) (drop (before + count) nodes)))

-- a splice inside the middle of three lists is a splice of the whole
splice_inside : (a m b fresh : List Pair) (from count s : ℕ) → from ≡ length a + s → s + count ≤ length m →
    a ++ ((take s m ++ (fresh ++ drop (s + count) m)) ++ b) ≡ take from (a ++ (m ++ b)) ++ (fresh ++ drop (from + count) (a ++ (m ++ b)))
splice_inside a m b fresh from count s at within =
    let near : s ≤ length m = omega arith in
    let front : take from (a ++ (m ++ b)) ≡ a ++ take s m =
    ap (λ k. take k (a ++ (m ++ b))) at ∙ (take-append-add a (m ++ b) s ∙ ap (λ ys. a ++ ys) (take-append-le s m b near)) in
    let moved : from + count ≡ length a + (s + count) = omega arith in
    let back : drop (from + count) (a ++ (m ++ b)) ≡ drop (s + count) m ++ b =
    ap (λ k. drop k (a ++ (m ++ b))) moved ∙ (drop-append-add a (m ++ b) (s + count) ∙ drop-append-le (s + count) m b within) in
    let whole : take from (a ++ (m ++ b)) ++ (fresh ++ drop (from + count) (a ++ (m ++ b))) ≡ (a ++ take s m)
    ++ (fresh ++ (drop (s + count) m ++ b)) =
    ap (λ ys. ys ++ (fresh ++ drop (from + count) (a ++ (m ++ b)))) front ∙ ap (λ ys. (a ++ take s m) ++ (fresh ++ ys)) back in
    let same : a ++ ((take s m ++ (fresh ++ drop (s + count) m)) ++ b) ≡ (a ++ take s m) ++ (fresh ++ (drop (s + count) m ++ b)) =
    simp append_assoc in
    same ∙ sym whole

-- a site has all replaced pairs: none stands before it, and none after it
pub record Holds (nodes : List PageNode) (site : Site) (from count : ℕ) : Type 0 where
  pub low : length (pairs_of_level (take site.before nodes)) ≤ from
  pub high : from + count ≤ length (pairs_of_level (take (site.before + site.nodes) nodes))

-- a level whose site is exchanged has the list splice of its pairs
level_with-pairs : (f : ℕ) (nodes : List PageNode) (site : Site) (from count : ℕ) (fresh : List Pair) (pages : List ℕ) →
    Holds nodes site from count →
    total (sizes_of f (length (exchanged nodes site from count fresh))) ≡ length (exchanged nodes site from count fresh) →
    pairs_of_level (level_with nodes site (on_pages pages
    (cut_into (sizes_of f (length (exchanged nodes site from count fresh)))
    (exchanged nodes site from count fresh)))).nodes
    ≡ take from (pairs_of_level nodes) ++ (fresh ++ drop (from + count) (pairs_of_level nodes))
level_with-pairs f nodes site from count fresh pages holds whole =
    let pairs = exchanged nodes site from count fresh in
    let made = on_pages pages (cut_into (sizes_of f (length pairs)) pairs) in
    let front = take site.before nodes in
    let middle = take site.nodes (drop site.before nodes) in
    let back = drop (site.before + site.nodes) nodes in
    let s = from - length (pairs_of_level front) in
    let of_made : pairs_of_level made ≡ pairs =
    cut-pairs pages (sizes_of f (length pairs)) pairs ∙ (ap (λ k. take k pairs) whole ∙ take-length pairs) in
    let outer : pairs_of_level (front ++ (made ++ back)) ≡ pairs_of_level front ++ (pairs ++ pairs_of_level back) =
    pairs-append front (made ++ back)
    ∙ (ap (λ ys. pairs_of_level front ++ ys) (pairs-append made back)
    ∙ ap (λ ys. pairs_of_level front ++ (ys ++ pairs_of_level back)) of_made) in
    let two : pairs_of_level (take (site.before + site.nodes) nodes) ≡ pairs_of_level front ++ pairs_of_level middle =
    ap pairs_of_level (sym (take-two site.before site.nodes nodes)) ∙ pairs-append front middle in
    let lengths : length (pairs_of_level (take (site.before + site.nodes) nodes))
    ≡ length (pairs_of_level front) + length (pairs_of_level middle) =
    ap length two ∙ length-append (pairs_of_level front) (pairs_of_level middle) in
    let low = holds.low in
    let high = holds.high in
    let at : from ≡ length (pairs_of_level front) + s = omega arith in
    let within : s + count ≤ length (pairs_of_level middle) = omega arith in
    let inside = splice_inside (pairs_of_level front) (pairs_of_level middle) (pairs_of_level back) fresh from count s at within in
    let P : List Pair → Type 0 = λ all. pairs_of_level front ++ (pairs ++ pairs_of_level back) ≡ take from all
    ++ (fresh ++ drop (from + count) all) in
    outer ∙ subst P (sym (level-parts nodes site.before site.nodes)) inside

-- no node, no pair
none-many : (m n : ℕ) → m ≡ 0 → n ≡ 0 → total (replicate (n % m) (n / m + 1) ++ replicate (m - n % m) (n / m)) ≡ n
none-many m n no_node no_pair =
    subst (λ (j : ℕ). total (replicate (n % j) (n / j + 1) ++ replicate (j - n % j) (n / j)) ≡ n) (sym no_node)
    (subst (λ (k : ℕ). total (replicate (k % 0) (k / 0 + 1) ++ replicate (0 - k % 0) (k / 0)) ≡ k) (sym no_pair) refl)

-- where there is a pair there is a node
some-node : (f n : ℕ) → 0 < f → (n + (f - 1)) / f ≤ 0 → n ≡ 0
some-node f zero some none = refl
some-node f (suc n) some none =
    let enough : 1 * f ≤ suc n + (f - 1) = omega arith in
    let one = le-div 1 (suc n + (f - 1)) f some enough in
    absurd (omega (arith, one, none))

-- the sizes of the nodes that n pairs are cut into add up to n
pub sizes-total : (f n : ℕ) → 0 < f → total (sizes_of f n) ≡ n
sizes-total f n some =
    elim (test_cases (nat_lt 0 ((n + (f - 1)) / f))) [
      | inl nodes ↦ sizes-many ((n + (f - 1)) / f) n (ltb-true 0 ((n + (f - 1)) / f) nodes)
      | inr none ↦
          let few = ltb-false 0 ((n + (f - 1)) / f) none in
          let no_node : (n + (f - 1)) / f ≡ 0 = omega (arith, few) in
          none-many ((n + (f - 1)) / f) n no_node (some-node f n some few)
    ]

pub count-cons : (x : PageNode) (xs : List PageNode) → length (pairs_of_level (x ∷ xs)) ≡ length x.pairs + length (pairs_of_level xs)
count-cons x xs = ap length (pairs-cons x xs) ∙ length-append x.pairs (pairs_of_level xs)

-- before the node that has pair number `at` there are at most so many pairs
pub before-low : (nodes : List PageNode) (at : ℕ) → length (pairs_of_level (take (node_at nodes at) nodes)) ≤ at
before-low [] at = let none : 0 ≤ at = omega arith in none
before-low (node ∷ rest) at =
    elim (test_cases (nat_lt at (length node.pairs))) [
      | inl here ↦
          let step : node_at (node ∷ rest) at ≡ 0 = rw (here, node_at) in
          let none : 0 ≤ at = omega arith in
          subst (λ (k : ℕ). length (pairs_of_level (take k (node ∷ rest))) ≤ at) (sym step) none
      | inr past ↦
          let inner = node_at rest (at - length node.pairs) in
          let step : node_at (node ∷ rest) at ≡ suc inner = rw (past, node_at) in
          let within = ltb-false at (length node.pairs) past in
          let more = before-low rest (at - length node.pairs) in
          let cut = count-cons node (take inner rest) in
          let low : length (pairs_of_level (node ∷ take inner rest)) ≤ at = omega (arith, cut, more, within) in
          subst (λ (k : ℕ). length (pairs_of_level (take k (node ∷ rest))) ≤ at) (sym step) low
    ]

-- and with it there are more
pub through-high : (nodes : List PageNode) (at : ℕ) → at < length (pairs_of_level nodes) →
    at < length (pairs_of_level (take (suc (node_at nodes at)) nodes))
through-high [] at inside = let none : at < 0 = inside in absurd (omega arith)
through-high (node ∷ rest) at inside =
    elim (test_cases (nat_lt at (length node.pairs))) [
      | inl here ↦
          let step : node_at (node ∷ rest) at ≡ 0 = rw (here, node_at) in
          let cut = count-cons node [] in
          let below = ltb-true at (length node.pairs) here in
          let high : at < length (pairs_of_level (node ∷ [])) = omega (arith, cut, below) in
          subst (λ (k : ℕ). at < length (pairs_of_level (take (suc k) (node ∷ rest)))) (sym step) high
      | inr past ↦
          let inner = node_at rest (at - length node.pairs) in
          let step : node_at (node ∷ rest) at ≡ suc inner = rw (past, node_at) in
          let within = ltb-false at (length node.pairs) past in
          let all = count-cons node rest in
          let left : at - length node.pairs < length (pairs_of_level rest) = omega (arith, inside, all, within) in
          let more = through-high rest (at - length node.pairs) left in
          let cut = count-cons node (take (suc inner) rest) in
          let high : at < length (pairs_of_level (node ∷ take (suc inner) rest)) = omega (arith, cut, more, within) in
          subst (λ (k : ℕ). at < length (pairs_of_level (take (suc k) (node ∷ rest)))) (sym step) high
    ]

-- more nodes have no fewer pairs
pub more-pairs : (k j : ℕ) (nodes : List PageNode) → k ≤ j → length (pairs_of_level (take k nodes)) ≤ length (pairs_of_level (take j nodes))
more-pairs k j nodes le =
    let parts : pairs_of_level (take j nodes) ≡ pairs_of_level (take k nodes) ++ pairs_of_level (drop k (take j nodes)) =
    ap pairs_of_level (sym (take-append-drop k (take j nodes)))
    ∙ (pairs-append (take k (take j nodes)) (drop k (take j nodes))
    ∙ ap (λ xs. pairs_of_level xs ++ pairs_of_level (drop k (take j nodes))) (take-take k j nodes le)) in
    let counted : length (pairs_of_level (take j nodes))
    ≡ length (pairs_of_level (take k nodes)) + length (pairs_of_level (drop k (take j nodes))) =
    ap length parts ∙ length-append (pairs_of_level (take k nodes)) (pairs_of_level (drop k (take j nodes))) in
    omega (arith, counted)

pub choice-below : (b : Bool) (from : ℕ) → cond b (from - 1) from ≤ from
choice-below b from = elim b as (λ v. cond v (from - 1) from ≤ from) [ true ↦ omega arith | false ↦ omega arith ]

-- the touched nodes have all replaced pairs
pub touched_site-holds : (nodes : List PageNode) (from count : ℕ) → from + count ≤ length (pairs_of_level nodes) →
    Holds nodes (touched_site nodes from count) from count
touched_site-holds nodes from count within =
    let at = cond (nat_eq count 0) (from - 1) from in
    let least = choice-below (nat_eq count 0) from in
    let under = before-low nodes at in
    let low : length (pairs_of_level (take (node_at nodes at) nodes)) ≤ from = omega (arith, least, under) in
    let last = node_at nodes (from + count - 1) in
    let wide : suc last ≤ node_at nodes at + (suc last - node_at nodes at) = omega arith in
    let grown = more-pairs (suc last) (node_at nodes at + (suc last - node_at nodes at)) nodes wide in
    elim (test_cases (nat_lt 0 (from + count))) [
      | inl some ↦
          let positive = ltb-true 0 (from + count) some in
          let inside : from + count - 1 < length (pairs_of_level nodes) = omega (arith, within, positive) in
          let through = through-high nodes (from + count - 1) inside in
          record { low = low; high = omega (arith, grown, through, positive) }
      | inr none ↦
          let nothing = ltb-false 0 (from + count) none in
          record { low = low; high = omega (arith, nothing) }
    ]

-- and so have they with the one that joins them
pub joined-holds : (nodes : List PageNode) (site : Site) (from count : ℕ) → Holds nodes site from count →
    Holds nodes (joined nodes site) from count
joined-holds nodes site from count holds =
    let was_low = holds.low in
    let was_high = holds.high in
    elim (test_cases (nat_lt 0 site.before)) [
      | inl some ↦
          let wide : Site = record { before = site.before - 1; nodes = site.nodes + 1 } in
          let step : joined nodes site ≡ record { before = site.before - 1; nodes = site.nodes + 1 } = rw (some, joined) in
          let positive = ltb-true 0 site.before some in
          let below : site.before - 1 ≤ site.before = omega arith in
          let above : site.before + site.nodes ≤ site.before - 1 + (site.nodes + 1) = omega (arith, positive) in
          let fewer = more-pairs (site.before - 1) site.before nodes below in
          let more = more-pairs (site.before + site.nodes) (site.before - 1 + (site.nodes + 1)) nodes above in
          subst (λ (s : Site). Holds nodes s from count) (sym step)
          (record { low = omega (arith, fewer, was_low); high = omega (arith, more, was_high) })
      | inr none ↦
          let step : joined nodes site ≡ record { before = 0; nodes = site.nodes + 1 } = rw (none, joined) in
          let nothing = ltb-false 0 site.before none in
          let below : 0 ≤ site.before = omega arith in
          let above : site.before + site.nodes ≤ 0 + (site.nodes + 1) = omega (arith, nothing) in
          let fewer = more-pairs 0 site.before nodes below in
          let more = more-pairs (site.before + site.nodes) (0 + (site.nodes + 1)) nodes above in
          subst (λ (s : Site). Holds nodes s from count) (sym step)
          (record { low = omega (arith, fewer, was_low); high = omega (arith, more, was_high) })
    ]

pub site_of-holds : (f : ℕ) (nodes : List PageNode) (from count : ℕ) (fresh : List Pair) → from + count ≤ length (pairs_of_level nodes) →
    Holds nodes (site_of f nodes from count fresh) from count
site_of-holds f nodes from count fresh within =
    let at = touched_site nodes from count in
    let holds = touched_site-holds nodes from count within in
    elim (test_cases (joins f nodes at (length (exchanged nodes at from count fresh)))) [
      | inl join ↦
          let step : site_of f nodes from count fresh ≡ joined nodes at = rw (join, site_of) in
          subst (λ (s : Site). Holds nodes s from count) (sym step) (joined-holds nodes at from count holds)
      | inr alone ↦
          let step : site_of f nodes from count fresh ≡ at = rw (alone, site_of) in
          subst (λ (s : Site). Holds nodes s from count) (sym step) holds
    ]

-- a level after an exchange has the list splice of its pairs
pub level-spliced : (f : ℕ) (nodes : List PageNode) (from count : ℕ) (fresh : List Pair) (pages : List ℕ) →
    0 < f → from + count ≤ length (pairs_of_level nodes) →
    pairs_of_level (level_after f nodes from count fresh pages).nodes ≡ take from (pairs_of_level nodes)
    ++ (fresh ++ drop (from + count) (pairs_of_level nodes))
level-spliced f nodes from count fresh pages some within =
    let site = site_of f nodes from count fresh in
    level_with-pairs f nodes site from count fresh pages (site_of-holds f nodes from count fresh within)
    (sizes-total f (length (exchanged nodes site from count fresh)) some)

-- the levels begin with the lowest
pub raised_levels-head : (steps f : ℕ) (below : NewLevel) (pages : List ℕ) → (above : List NewLevel)
    × (raised_levels steps f below pages ≡ below ∷ above)
raised_levels-head zero f below pages = ([], refl)
raised_levels-head (suc steps) f below pages =
    elim (test_cases (is_top below)) [
      | inl top ↦ ([], rw (top, raised_levels))
      | inr more ↦ (
        raised_levels steps f (level_after f [] 0 0 (map pair_of below.nodes) (drop (length below.made) pages))
            (drop (length below.made) pages),
        rw (more, raised_levels),
      )
    ]

pub new_levels_from-head : (f : ℕ) (below : NewLevel) (old : List (List PageNode)) (pages : List ℕ) →
    (above : List NewLevel) × (new_levels_from f below old pages ≡ below ∷ above)
new_levels_from-head f below [] pages = raised_levels-head (length below.nodes) f below pages
new_levels_from-head f below (nodes ∷ old) pages =
    elim (test_cases (is_top below)) [
      | inl top ↦ ([], rw (top, new_levels_from))
      | inr more ↦ (
        new_levels_from f (level_after f nodes below.from below.count (map pair_of below.made)
            (drop (length below.made) pages)) old (drop (length below.made) pages),
        rw (more, new_levels_from),
      )
    ]

-- a level of no node has no pair
no-pairs : (nodes : List PageNode) → nat_eq (length nodes) 0 ≡ true → pairs_of_level nodes ≡ []
no-pairs [] none = refl
no-pairs (node ∷ nodes) none = let zero_long : length (node ∷ nodes) ≡ 0 =
    eqb-true (length (node ∷ nodes)) 0 none in absurd (omega (arith, zero_long))

-- the entries are the pairs of the lowest level
entries-lowest : (below : NewLevel) (above : List NewLevel) →
    entries_of_levels (nodes_of_levels (below ∷ above)) ≡ pairs_of_level below.nodes
entries-lowest below above =
    elim (test_cases (nat_eq (length below.nodes) 0)) [
      | inl none ↦
          let step : unless_empty (below ∷ above) ≡ [] = rw (none, unless_empty) in
          ap (λ (levels : List NewLevel). entries_of_levels (map (λ (level : NewLevel). level.nodes) levels)) step
          ∙ sym (no-pairs below.nodes none)
      | inr some ↦
          let step : unless_empty (below ∷ above) ≡ below ∷ above = rw (some, unless_empty) in
          ap (λ (levels : List NewLevel). entries_of_levels (map (λ (level : NewLevel). level.nodes) levels)) step
    ]

-- the entries of the new levels are the list splice of the old ones
pub spliced-entries : (f : ℕ) (levels : List (List PageNode)) (from count : ℕ) (fresh : List Pair) (pages : List ℕ) →
    0 < f → from + count ≤ length (entries_of_levels levels) →
    entries_of_levels (nodes_of_levels (spliced f levels from count fresh pages))
    ≡ take from (entries_of_levels levels) ++ (fresh ++ drop (from + count) (entries_of_levels levels))
unfolding spliced
spliced-entries f [] from count fresh pages some within =
    let first = level_after f [] 0 0 fresh pages in
    let head = new_levels_from-head f first [] pages in
    let none : from + count ≤ 0 = within in
    let no_from : from ≡ 0 = omega (arith, none) in
    let no_count : count ≡ 0 = omega (arith, none) in
    let lowest : entries_of_levels (nodes_of_levels (new_levels_from f first [] pages)) ≡ take 0 (pairs_of_level [])
    ++ (fresh ++ drop (0 + 0) (pairs_of_level [])) =
    ap (λ (new : List NewLevel). entries_of_levels (nodes_of_levels new)) head.1
    ∙ (entries-lowest first head.0 ∙ level-spliced f [] 0 0 fresh pages some (omega arith)) in
    let P : ℕ → Type 0 = λ k. entries_of_levels (nodes_of_levels (new_levels_from f first [] pages))
    ≡ take k (pairs_of_level []) ++ (fresh ++ drop (k + count) (pairs_of_level [])) in
    let Q : ℕ → Type 0 = λ k. entries_of_levels (nodes_of_levels (new_levels_from f first [] pages))
    ≡ take 0 (pairs_of_level []) ++ (fresh ++ drop (0 + k) (pairs_of_level [])) in
    subst P (sym no_from) (subst Q (sym no_count) lowest)
spliced-entries f (nodes ∷ old) from count fresh pages some within =
    let first = level_after f nodes from count fresh pages in
    let head = new_levels_from-head f first old pages in
    ap (λ (new : List NewLevel). entries_of_levels (nodes_of_levels new)) head.1
    ∙ (entries-lowest first head.0 ∙ level-spliced f nodes from count fresh pages some within)
