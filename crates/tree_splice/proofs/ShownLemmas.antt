-- The way that the code finds: its levels are those that the cuts show, and the place is one of its lowest run.
use Rattle.std.proofs.Common.{◌≡◌, ◌≢◌, ℕ, zero, suc, ◌+◌, ◌-◌, ◌/◌, ◌^◌, ◌<◌, ◌≤◌, ◌||◌, Bool, false, List, [], ◌∷◌, ◌++◌}
use Rattle.std.proofs.Common.{length, map, take, drop, refl, sym, ap, subst, arith, ◌∙◌, inl, inr, nat_eq, nat_lt, append_assoc, cond}
use Rattle.std.specs.List.{AllByRecursion}
use Rattle.std.proofs.lemmas.Bool.{cases_lt, lt-ltb, ne_eqb}
use Rattle.std.proofs.lemmas.Bool.Decides.{nat_tests}
use Rattle.std.proofs.lemmas.List.{append-nil, length-map, take-append-drop}
use Rattle.std.proofs.lemmas.List.Sums.{sum_by-cons}
use Rattle.base_laws.proofs.ListLaws.{all-append}
use Rattle.base_laws.proofs.NumberLaws.{some-of}
use Rattle.content_laws.specs.Spelling.{HaveBytes}
use Rattle.change_laws.proofs.PartLemmas.{all-left, all-right}
use Rattle.layout_laws.proofs.LevelLemmas.{count-cons}
use Rattle.layout_model.specs.Levels.{PageNode, entries_of_levels, pairs_of_level}
use Rattle.layout_model.specs.Parts.{count_ended}
use Rattle.local_laws.specs.Cut.{Cut, whole}
use Rattle.local_laws.specs.Path.{PathLevel, shown, shown_level, first_name}
use Rattle.tree_model.specs.declared.entry.Pair.{Pair}
use Rattle.tree_model.specs.declared.tree.Root.{Root}
use Rattle.tree_model.specs.Tree.{Pages, AreTrees, HasNode, IsTree, bytes_of, entries_of, pairs_on, root_least}
use Rattle.tree_pages.specs.Levels.{levels_at, levels_down, node_on}
use Rattle.tree_read.proofs.TreeLemmas.{bytes_of-append, AreTrees-least}
use Rattle.tree_splice.specs.Down.{AreBelow, AreKnown, AreUnder, GoesDown, Names, ShowsWay, all_names}
use Rattle.tree_splice.specs.Down.{below_names, cut_below, deciding_bytes, entries_before, root_names}
use Rattle.tree_splice.specs.Down.{section_of, way_below, way_of}
use Rattle.tree_splice.specs.Splice.{IsBetween}
use Rattle.tree_splice.specs.Way.{lowest_pairs, named_on}
use Rattle.tree_splice.specs.declared.section.Deciding.{Deciding}
use Rattle.tree_splice.specs.declared.section.Section.{Section}
use Rattle.tree_splice.proofs.DownLemmas.{node-pairs}
use Rattle.tree_splice.proofs.EndedLemmas.{HasTwo}
use Rattle.tree_splice.proofs.NearLemmas.{cut-near, cut-under, is_cut_below, is_section, empty-pairs}
use Rattle.tree_splice.proofs.NearLemmas.{named-bytes, three-parts}
use Rattle.tree_splice.proofs.NewLemmas.{pairs-some}
use Rattle.tree_splice.proofs.WayLemmas.{AreLed, below-all, cut-whole, first_byte-close, lowest-enough}
use Rattle.tree_splice.proofs.WayLemmas.{root-spot, run-count, trees-least, trees-under, under-led, under-levels}
use Rattle.window_laws.proofs.CountLemmas.{border-number}

-- ---- one level more, as the code finds it

-- a count is some where one that is some alike says so
lt-same : (x y : ℕ) → (0 < x → 0 < y) → (0 < y → 0 < x) → nat_lt 0 x ≡ nat_lt 0 y
lt-same x y there back = elim (cases_lt 0 x) [
  | inl some ↦ lt-ltb 0 x some ∙ sym (lt-ltb 0 y (there some))
  | inr none ↦
      let no : nat_lt 0 x ≡ false = grind (arith, nat_tests) in
      elim (cases_lt 0 y) [
        | inl some ↦ let more = back some in absurd (omega (arith, none, more))
        | inr none2 ↦ let no2 : nat_lt 0 y ≡ false = grind (arith, nat_tests) in no ∙ sym no2
      ]
]

-- What is read of a level: the nodes that a section names, from which name of the run above on, and what stands beside
-- them.
pub level-shown : (at : Pages) (height : ℕ) (bytes : Deciding) (names : Names) (cuts : List Cut) (pairs : List Pair) (start : ℕ)
    (before behind : Bool) (section : Section) (nodes : List PageNode) → AreUnder bytes names → AreBelow cuts names →
    AreKnown at bytes (suc height) names pairs start before behind → section ≡ section_of bytes start pairs →
    nodes ≡ named_on at (take (section.end - section.first) (drop section.first pairs)) →
    record {
      nodes = nodes;
      first = section.first;
      before = before || nat_lt 0 section.first;
      behind = behind || nat_lt section.end (length pairs);
    } ≡ shown_level (cut_below at bytes names) cuts
level-shown at height bytes names cuts pairs start before behind section nodes under below known is named =
    let own = section_of bytes (bytes_of names.front) names.run in
    let same : section ≡ own =
    is ∙ (ap (λ (n : ℕ). section_of bytes n pairs) known.start_is ∙ ap (section_of bytes (bytes_of names.front)) (sym known.run_is)) in
    let cut = cut_below at bytes names in
    let shape = is_cut_below at height bytes names under known.trees in
    let front_long = shape.front_long in
    let back_long = shape.back_long in
    let nodes_is : nodes ≡ cut.run =
    named ∙ (ap (λ (ps : List Pair). named_on at (take (section.end - section.first) (drop section.first ps))) (sym known.run_is)
    ∙ ap (λ (s : Section). named_on at (take (s.end - s.first) (drop s.first names.run))) same) in
    let first_is : section.first ≡ first_name cut cuts = ap (λ (s : Section). s.first) same ∙ first cuts below in
    let before_is : (before || nat_lt 0 section.first) ≡ nat_lt 0 (length cut.front) =
    ap (λ (b : Bool). b || nat_lt 0 section.first) known.before_is
    ∙ (ap (λ (s : Section). nat_lt 0 (length names.front) || nat_lt 0 s.first) same
    ∙ (sym (some-of (length names.front) own.first) ∙ ap (nat_lt 0) (sym front_long))) in
    let left = length names.run - own.end in
    let behind_is : (behind || nat_lt section.end (length pairs)) ≡ nat_lt 0 (length cut.back) =
    ap (λ (b : Bool). b || nat_lt section.end (length pairs)) known.behind_is
    ∙ (ap (λ (ps : List Pair). nat_lt 0 (length names.back) || nat_lt section.end (length ps)) (sym known.run_is)
    ∙ (ap (λ (s : Section). nat_lt 0 (length names.back) || nat_lt s.end (length names.run)) same
    ∙ (ap (λ (b : Bool). nat_lt 0 (length names.back) || b) (less own.end (length names.run))
    ∙ (sym (some-of (length names.back) left)
    ∙ ap (nat_lt 0) (let sum : length names.back + left ≡ length cut.back = omega (arith, back_long) in sum))))) in
    ap (λ (ns : List PageNode). record {
      nodes = ns;
      first = section.first;
      before = before || nat_lt 0 section.first;
      behind = behind || nat_lt section.end (length pairs);
    }) nodes_is
    ∙ (ap (λ (n : ℕ). record {
      nodes = cut.run;
      first = n;
      before = before || nat_lt 0 section.first;
      behind = behind || nat_lt section.end (length pairs);
    }) first_is
    ∙ (ap (λ (b : Bool). record {
      nodes = cut.run;
      first = first_name cut cuts;
      before = b;
      behind = behind || nat_lt section.end (length pairs);
    }) before_is
    ∙ ap (λ (b : Bool). record {
      nodes = cut.run;
      first = first_name cut cuts;
      before = nat_lt 0 (length cut.front);
      behind = b;
    }) behind_is))
  where
    less : (e n : ℕ) → nat_lt e n ≡ nat_lt 0 (n - e)
    less e n = elim (cases_lt e n) [
      | inl some ↦ lt-ltb e n some ∙ sym (lt-ltb 0 (n - e) (omega (arith, some)))
      | inr none ↦
          let no : nat_lt e n ≡ false = grind (arith, nat_tests) in
          let nothing : n - e ≤ 0 = omega (arith, none) in
          let no2 : nat_lt 0 (n - e) ≡ false = grind (arith, nat_tests) in
          no ∙ sym no2
    ]

    first : (cs : List Cut) → AreBelow cs names → (section_of bytes (bytes_of names.front) names.run).first
        ≡ first_name (cut_below at bytes names) cs
    first [] below =
        let facts = is_section bytes names under in
        let order = facts.order in
        let few = facts.few in
        let number = facts.first in
        let one = below.1 in
        omega (arith, number, order, few, one)
    first (up ∷ above) below =
        let shape = is_cut_below at height bytes names under known.trees in
        let long = shape.front_long in
        let passed = ap length below in
        omega (arith, long, passed)

-- nodes that trees name have a pair
pairs-some-in : (at : Pages) (height : ℕ) (pairs : List Pair) → AreTrees at 0 (suc height) pairs →
    length pairs ≤ length (pairs_of_level (named_on at pairs))
pairs-some-in at height [] trees = let none : 0 ≤ 0 = omega arith in none
pairs-some-in at height (p ∷ pairs) trees =
    let one = (node-pairs at p.page (suc height) 0 p.bytes trees.0.0).some in
    let more = pairs-some-in at height pairs trees.1 in
    let count = count-cons (node_on at p.page) (named_on at pairs) in
    let long : length (p ∷ pairs) ≡ suc (length pairs) = refl in
    omega (arith, one, more, count, long)

-- the names of the level below have as many bytes
below-sum : (at : Pages) (height : ℕ) (bytes : Deciding) (names : Names) → AreUnder bytes names →
    AreTrees at 0 (suc height) (all_names names) →
    bytes_of (all_names (below_names (cut_below at bytes names))) ≡ bytes_of (all_names names)
below-sum at height bytes names under trees =
    ap bytes_of (below-all (cut_below at bytes names) ∙ ap pairs_of_level (cut-whole at bytes names under))
    ∙ named-bytes at height (all_names names) trees

-- nodes are some where their pairs are
some-same : (at : Pages) (height : ℕ) (pairs : List Pair) → AreTrees at 0 (suc height) pairs →
    nat_lt 0 (length (named_on at pairs)) ≡ nat_lt 0 (length (pairs_of_level (named_on at pairs)))
some-same at height pairs trees =
    let nodes = named_on at pairs in
    let many = pairs-some-in at height pairs trees in
    let long = length-map pairs (λ (p : Pair). node_on at p.page) in
    lt-same (length nodes) (length (pairs_of_level nodes)) (λ some. omega (arith, many, long, some))
    (λ some. elim (cases_lt 0 (length nodes)) [
      | inl more ↦ more
      | inr none ↦ let no = empty-pairs nodes (omega (arith, none)) in absurd (omega (arith, no, some))
    ])

-- So the names of the level below are known.
pub known-below : (at : Pages) (height : ℕ) (bytes : Deciding) (names : Names) (pairs below : List Pair) (start begin : ℕ)
    (before behind : Bool) (level : PathLevel) (cuts : List Cut) → AreUnder bytes names →
    AreKnown at bytes (suc height) names pairs start before behind →
    level ≡ shown_level (cut_below at bytes names) cuts → below ≡ pairs_of_level level.nodes →
    begin ≡ start + bytes_of (take (section_of bytes start pairs).first pairs) →
    AreKnown at bytes height (below_names (cut_below at bytes names)) below begin level.before level.behind
known-below at height bytes names pairs below start begin before behind level cuts under known shows listed begun =
    let cut = cut_below at bytes names in
    let own = section_of bytes (bytes_of names.front) names.run in
    let facts = is_section bytes names under in
    let first = facts.first in
    let inside = facts.inside in
    let shape = is_cut_below at height bytes names under known.trees in
    let P : Pair → Type 0 = λ p. HasNode at p.page (suc height) 0 p.bytes × AreTrees at 0 height (pairs_on at p.page) in
    let H = take own.first names.run in
    let M = take (own.end - own.first) (drop own.first names.run) in
    let D = drop own.end names.run in
    let parts = three-parts own names.run (omega (arith, first, inside)) in
    let front_trees = all-left P names.front (names.run ++ names.back) known.trees in
    let behind_trees = all-right P names.front (names.run ++ names.back) known.trees in
    let three : AllByRecursion P (H ++ (M ++ D)) =
    subst (AllByRecursion P) (sym parts) (all-left P names.run names.back behind_trees) in
    let before_cut : AreTrees at 0 (suc height) (names.front ++ H) =
    all-append P names.front H front_trees (all-left P H (M ++ D) three) in
    let behind_cut : AreTrees at 0 (suc height) (D ++ names.back) =
    all-append P D names.back (all-right P M D (all-right P H (M ++ D) three)) (all-right P names.run names.back behind_trees) in
    let same : start + bytes_of (take (section_of bytes start pairs).first pairs) ≡ bytes_of names.front + bytes_of H =
    ap (λ (n : ℕ). n + bytes_of (take (section_of bytes n pairs).first pairs)) known.start_is
    ∙ ap (λ (ps : List Pair). bytes_of names.front + bytes_of (take (section_of bytes (bytes_of names.front) ps).first ps))
    (sym known.run_is) in
    let front_bytes = shape.front_bytes in
    let sum = below-sum at height bytes names under known.trees in
    let small = known.small in
    record {
      run_is = sym (listed ∙ ap (λ (l : PathLevel). pairs_of_level l.nodes) shows);
      start_is = begun ∙ (same ∙ sym front_bytes);
      before_is = ap (λ (l : PathLevel). l.before) shows ∙ some-same at height (names.front ++ H) before_cut;
      behind_is = ap (λ (l : PathLevel). l.behind) shows ∙ some-same at height (D ++ names.back) behind_cut;
      trees = trees-under at 0 height bytes names under known.trees;
      under = λ some. cut-under at height bytes names under known.trees;
      small = omega (arith, sum, small);
    }

-- ---- the level is added

pub way-step : (at : Pages) (bytes : Deciding) (height : ℕ) (names : Names) (cuts : List Cut) (old mid new : List PathLevel)
    (level : PathLevel) → height ≢ 0 → level ≡ shown_level (cut_below at bytes names) cuts → new ≡ mid ++ level ∷ [] →
    mid ++ shown (cut_below at bytes names ∷ cuts)
    ≡ old ++ shown (way_below at bytes (height - 1) (below_names (cut_below at bytes names)) (cut_below at bytes names ∷ cuts)) →
    new ++ shown cuts ≡ old ++ shown (way_below at bytes height names cuts)
way-step at bytes zero names cuts old mid new level some shows added lower = absurd (some refl)
way-step at bytes (suc height) names cuts old mid new level some shows added lower =
    let cut = cut_below at bytes names in
    let less : suc height - 1 ≡ height = omega arith in
    ap (λ (ls : List PathLevel). ls ++ shown cuts) added
    ∙ (append_assoc mid (level ∷ []) (shown cuts)
    ∙ (ap (λ (l : PathLevel). mid ++ l ∷ shown cuts) shows
    ∙ (lower ∙ ap (λ (h : ℕ). old ++ shown (way_below at bytes h (below_names cut) (cut ∷ cuts))) less)))

pub before-step : (at : Pages) (bytes : Deciding) (height : ℕ) (names : Names) (cuts : List Cut) → height ≢ 0 →
    way_below at bytes height names cuts
    ≡ way_below at bytes (height - 1) (below_names (cut_below at bytes names)) (cut_below at bytes names ∷ cuts)
before-step at bytes zero names cuts some = absurd (some refl)
before-step at bytes (suc height) names cuts some =
    let cut = cut_below at bytes names in
    let less : height ≡ suc height - 1 = omega arith in
    ap (λ (h : ℕ). way_below at bytes h (below_names cut) (cut ∷ cuts)) less

-- where no level is left
pub way-end : (at : Pages) (bytes : Deciding) (height : ℕ) (names : Names) (cuts : List Cut) (pairs : List Pair) (start : ℕ)
    (before behind : Bool) (path : List PathLevel) → height ≡ 0 → AreBelow cuts names →
    AreKnown at bytes height names pairs start before behind → GoesDown at bytes height names cuts path path start
way-end at bytes height names cuts pairs start before behind path none below known =
    let stays : way_below at bytes height names cuts ≡ cuts = ap (λ (h : ℕ). way_below at bytes h names cuts) none in
    record {
      path = sym (ap (λ (cs : List Cut). path ++ shown cs) stays);
      start_is = known.start_is ∙ (ap bytes_of (front cuts below) ∙ sym (ap (λ (cs : List Cut). bytes_of (entries_before cs)) stays));
    }
  where
    front : (cs : List Cut) → AreBelow cs names → names.front ≡ entries_before cs
    front [] is = is.0
    front (cut ∷ above) is = is

-- What the code knows of one level more.
pub record IsLevelKnown (at : Pages) (bytes : Deciding) (height : ℕ) (names : Names) (cuts : List Cut) (below : List Pair)
    (begin : ℕ) (level : PathLevel) : Type 0 where
  pub level_is : level ≡ shown_level (cut_below at bytes names) cuts
  pub known : AreKnown at bytes (height - 1) (below_names (cut_below at bytes names)) below begin level.before level.behind

pub level-known : (at : Pages) (bytes : Deciding) (height : ℕ) (names : Names) (cuts : List Cut) (pairs below : List Pair)
    (start begin : ℕ) (before behind : Bool) (section : Section) (nodes : List PageNode) (level : PathLevel) → height ≢ 0 →
    AreBelow cuts names → AreKnown at bytes height names pairs start before behind → section ≡ section_of bytes start pairs →
    nodes ≡ named_on at (take (section.end - section.first) (drop section.first pairs)) →
    level ≡ record {
      nodes = nodes;
      first = section.first;
      before = before || nat_lt 0 section.first;
      behind = behind || nat_lt section.end (length pairs);
    } → below ≡ pairs_of_level nodes →
    (start + bytes_of (take section.first pairs) < 2 ^ 64 → begin ≡ start + bytes_of (take section.first pairs)) →
    IsLevelKnown at bytes height names cuts below begin level
level-known at bytes zero names cuts pairs below start begin before behind section nodes level some under known is named made listed begun =
    absurd (some refl)
level-known at bytes (suc height) names cuts pairs below start begin before behind section nodes level some under known is named made listed
    begun =
    let one : 1 ≤ suc height = omega arith in
    let deciding = known.under one in
    let less : suc height - 1 ≡ height = omega arith in
    let shows : level ≡ shown_level (cut_below at bytes names) cuts =
    made ∙ level-shown at height bytes names cuts pairs start before behind section nodes deciding under known is named in
    let front = bytes_of-append names.front (names.run ++ names.back) in
    let run = bytes_of-append names.run names.back in
    let parts = bytes_of-append (take section.first names.run) (drop section.first names.run) in
    let all = ap bytes_of (take-append-drop section.first names.run) in
    let same = ap (λ (ps : List Pair). bytes_of (take section.first ps)) known.run_is in
    let small = known.small in
    let start_is = known.start_is in
    let begin_is = begun (omega (arith, front, run, parts, all, same, small, start_is)) in
    record {
      level_is = shows;
      known = subst (λ (h : ℕ). AreKnown at bytes h (below_names (cut_below at bytes names)) below begin level.before level.behind)
          (sym less)
          (known-below at height bytes names pairs below start begin before behind level cuts deciding known shows
          (listed ∙ sym (ap (λ (l : PathLevel). pairs_of_level l.nodes) made))
          (begin_is ∙ ap (λ (s : Section). start + bytes_of (take s.first pairs)) is));
    }

-- ---- the whole way

-- a tree that is there has a byte
tree-some : (at : Pages) (half height : ℕ) (root : Root) → root.height ≡ suc height → IsTree at half root.height root.page root.length →
    1 ≤ root.length
tree-some at half height root high tree =
    let here : IsTree at half (suc height) root.page root.length = subst (λ (h : ℕ). IsTree at half h root.page root.length) high tree in
    let some = pairs-some (pairs_on at root.page) (node-pairs at root.page (suc height) _ root.length here.0) in
    let counted = here.0.counted in
    omega (arith, some, counted)

-- the trees that the root and its pairs name
root-trees : (at : Pages) (half height page bytes : ℕ) → 2 ≤ half → IsTree at half (suc height) page bytes →
    AreTrees at 0 (suc height) (record { bytes = bytes; page = page } ∷ [])
    × (AreTrees at 2 height (pairs_on at page) × (1 ≤ height → 2 ≤ length (pairs_on at page)))
root-trees at half height page bytes two tree = (
  (
    (
      record { held = tree.0.held; is_level = tree.0.is_level; filled = omega arith; counted = tree.0.counted },
      AreTrees-least at half height (pairs_on at page) tree.1,
    ),
    tt,
  ),
  (trees-least at half 2 height (pairs_on at page) two tree.1, λ some. least height tree.0.filled some),
)
  where
    least : (h : ℕ) → root_least (suc h) ≤ length (pairs_on at page) → 1 ≤ h → 2 ≤ length (pairs_on at page)
    least zero filled some = absurd (omega (arith, some))
    least (suc h) filled some =
        let other : nat_eq (suc (suc h)) 1 ≡ false = ne_eqb (suc (suc h)) 1 (λ one. omega (arith, one)) in
        let two : root_least (suc (suc h)) ≡ 2 = ap (λ (b : Bool). cond b 1 2) other in
        omega (arith, two, filled)

-- the root's name is known
pub root-known : (at : Pages) (half : ℕ) (root : Root) (from to : ℕ) → 2 ≤ half → IsTree at half root.height root.page root.length →
    from ≤ to → to ≤ root.length → root.length < 2 ^ 64 →
    AreKnown at (deciding_bytes from to) root.height (root_names root) (record { bytes = root.length; page = root.page } ∷ []) 0 false false
root-known at half root from to two tree order inside small =
    let pair : Pair = record { bytes = root.length; page = root.page } in
    let sum = sum_by-cons (λ (q : Pair). q.bytes) pair [] in
    record {
      run_is = refl;
      start_is = refl;
      before_is = refl;
      behind_is = refl;
      trees = trees root.height refl;
      under = λ some. spot root.height refl some;
      small = omega (arith, sum, small);
    }
  where
    trees : (h : ℕ) → root.height ≡ h → AreTrees at 0 root.height (all_names (root_names root))
    trees zero high = subst (λ (n : ℕ). AreTrees at 0 n (all_names (root_names root))) (sym high) tt
    trees (suc h) high =
        let here : IsTree at half (suc h) root.page root.length = subst (λ (n : ℕ). IsTree at half n root.page root.length) high tree in
        subst (λ (n : ℕ). AreTrees at 0 n (all_names (root_names root))) (sym high)
        (root-trees at half h root.page root.length two here).0

    spot : (h : ℕ) → root.height ≡ h → 1 ≤ root.height → AreUnder (deciding_bytes from to) (root_names root)
    spot zero high some = absurd (omega (arith, high, some))
    spot (suc h) high some = (root-spot root from to order inside (tree-some at half h root high tree)).under

-- the way of a tree that is there: it is led, and has all levels
pub way-tree : (at : Pages) (half height : ℕ) (root : Root) (from to : ℕ) → root.height ≡ suc height → 2 ≤ half →
    IsTree at half root.height root.page root.length → from ≤ to → to ≤ root.length →
    AreLed (deciding_bytes from to) (way_of at (deciding_bytes from to) root)
    × (map whole (way_of at (deciding_bytes from to) root) ≡ levels_at at root)
way-tree at half height root from to high two tree order inside =
    let bytes = deciding_bytes from to in
    let names = root_names root in
    let spot = root-spot root from to order inside (tree-some at half height root high tree) in
    let here : IsTree at half (suc height) root.page root.length = subst (λ (h : ℕ). IsTree at half h root.page root.length) high tree in
    let trees = root-trees at half height root.page root.length two here in
    let cut = cut_below at bytes names in
    let shape = is_cut_below at height bytes names spot.under trees.0 in
    let section = is_section bytes names spot.under in
    let near = cut-near at height bytes names spot trees.0 in
    let front_long = shape.front_long in
    let back_long = shape.back_long in
    let first = section.first in
    let order_in = section.order in
    let few = section.few in
    let holds = section.holds in
    let within = section.within in
    let one : length names.run ≡ 1 = refl in
    let zero_front : length names.front ≡ 0 = refl in
    let zero_back : length names.back ≡ 0 = refl in
    let no_front : length cut.front ≡ 0 = omega (arith, front_long, zero_front, first, order_in, few, one) in
    let no_back : length cut.back ≡ 0 = omega (arith, back_long, zero_back, holds, within, one) in
    let alone : whole cut ≡ node_on at root.page ∷ [] = cut-whole at bytes names spot.under in
    let listed : all_names (below_names cut) ≡ pairs_on at root.page =
    below-all cut ∙ (ap pairs_of_level alone ∙ append-nil (pairs_on at root.page)) in
    let below : AreTrees at 2 height (all_names (below_names cut)) = subst (AreTrees at 2 height) (sym listed) trees.1.0 in
    let two_here : 1 ≤ height → AllByRecursion HasTwo cut.run = λ some.
    let level : AllByRecursion HasTwo (whole cut) = subst (AllByRecursion HasTwo) (sym alone) (trees.1.1 some, tt) in
    all-left HasTwo cut.run cut.back (all-right HasTwo cut.front (cut.run ++ cut.back) level) in
    let way_is : way_of at bytes root ≡ way_below at bytes height (below_names cut) (cut ∷ []) =
    ap (λ (h : ℕ). way_below at bytes h names []) high in
    let levels_is : levels_at at root ≡ levels_down at (suc height) (node_on at root.page ∷ []) =
    ap (λ (h : ℕ). levels_down at h (node_on at root.page ∷ [])) high in (
      subst (AreLed bytes) (sym way_is) (under-led at bytes height cut [] below two_here near (no_front, no_back)),
      ap (map whole) way_is
          ∙ (under-levels at bytes height cut [] below two_here near
          ∙ (ap (λ (ns : List PageNode). levels_down at height (named_on at (pairs_of_level ns)) ++ ns ∷ []) alone ∙ sym levels_is)),
    )

-- what the code finds is a way
pub way-shows : (at : Pages) (f : ℕ) (root : Root) (from to k count : ℕ) (fresh : List Pair) (path : List PathLevel)
    (start place many : ℕ) → 4 ≤ f → IsTree at (f / 2) root.height root.page root.length → from ≤ to → to ≤ root.length →
    HaveBytes (entries_of at root.height root.page) → (entries_of_levels (levels_at at root) ≡ entries_of at root.height root.page) →
    IsBetween (entries_of at root.height root.page) from to k count →
    path ≡ shown (way_of at (deciding_bytes from to) root) → start ≡ bytes_of (entries_before (way_of at (deciding_bytes from to) root)) →
    place ≡ count_ended (from - start) (lowest_pairs path) → many ≡ count_ended (to - start) (lowest_pairs path) - place →
    ShowsWay f (levels_at at root) k count fresh path place many
way-shows at f root from to k count fresh path start place many four tree order inside have listed between path_is start_is place_is
    many_is =
    by_height root.height refl
  where
    bytes : Deciding
    bytes = deciding_bytes from to

    border_numbers : (count_ended from (entries_of at root.height root.page) ≡ k)
        × (count_ended to (entries_of at root.height root.page) ≡ k + count)
    border_numbers =
        let few = between.few in
        let entries = entries_of at root.height root.page in (
          ap (λ (b : ℕ). count_ended b entries) between.first ∙ (border-number k entries have (omega (arith, few))).0,
          ap (λ (b : ℕ). count_ended b entries) between.last ∙ (border-number (k + count) entries have few).0,
        )

    empty : way_of at bytes root ≡ [] → levels_at at root ≡ [] → ShowsWay f (levels_at at root) k count fresh path place many
    empty no_cut no_level =
        let no_path : path ≡ [] = path_is ∙ ap shown no_cut in
        let no_entry : length (entries_of at root.height root.page) ≡ 0 =
        ap length (sym listed ∙ ap entries_of_levels no_level) in
        let few = between.few in
        let first = place_is ∙ ap (λ (p : List PathLevel). count_ended (from - start) (lowest_pairs p)) no_path in
        let last = many_is ∙ ap (λ (p : List PathLevel). count_ended (to - start) (lowest_pairs p) - place) no_path in
        record {
          cuts = [];
          path_is = no_path;
          levels_are = sym no_level;
          enough = tt;
          place_is = omega (arith, first, few, no_entry);
          many_is = omega (arith, last, few, no_entry);
        }

    there : (cut : Cut) (above : List Cut) → way_of at bytes root ≡ cut ∷ above → AreLed bytes (cut ∷ above) →
        map whole (cut ∷ above) ≡ levels_at at root → ShowsWay f (levels_at at root) k count fresh path place many
    there cut above is led levels =
        let entries : pairs_of_level (whole cut) ≡ entries_of at root.height root.page = ap entries_of_levels levels ∙ listed in
        let split = below-all cut in
        let under = led.0.under in
        let low = under.low in
        let decides = under.order in
        let high = under.high in
        let close = first_byte-close from to in
        let before = close.0 in
        let after = close.1 in
        let have_all : HaveBytes (all_names (below_names cut)) = subst HaveBytes (sym (split ∙ entries)) have in
        let have_back = all-right (λ (p : Pair). 1 ≤ p.bytes) (pairs_of_level cut.run) (pairs_of_level cut.back)
        (all-right (λ (p : Pair). 1 ≤ p.bytes) (pairs_of_level cut.front) (pairs_of_level cut.run ++ pairs_of_level cut.back) have_all) in
        let between_here : IsBetween (pairs_of_level (whole cut)) from to k count =
        subst (λ (ps : List Pair). IsBetween ps from to k count) (sym entries) between in
        let start_at : start ≡ bytes_of (pairs_of_level cut.front) = start_is ∙ ap (λ (cs : List Cut). bytes_of (entries_before cs)) is in
        let run_is : lowest_pairs path ≡ pairs_of_level cut.run =
        ap lowest_pairs (path_is ∙ ap shown is) in
        let numbers = border_numbers in
        let from_number : count_ended from (all_names (below_names cut)) ≡ k = ap (count_ended from) (split ∙ entries) ∙ numbers.0 in
        let to_number : count_ended to (all_names (below_names cut)) ≡ k + count = ap (count_ended to) (split ∙ entries) ∙ numbers.1 in
        let first = run-count from k (pairs_of_level cut.front) (pairs_of_level cut.run) (pairs_of_level cut.back) have_back
        (omega (arith, low, before)) (omega (arith, after, decides, high)) from_number in
        let last = run-count to (k + count) (pairs_of_level cut.front) (pairs_of_level cut.run) (pairs_of_level cut.back) have_back
        (omega (arith, low, before, order)) (omega (arith, high)) to_number in
        let count_from = ap (λ (n : ℕ). count_ended (from - n) (lowest_pairs path)) start_at
        ∙ ap (count_ended (from - bytes_of (pairs_of_level cut.front))) run_is in
        let count_to = ap (λ (n : ℕ). count_ended (to - n) (lowest_pairs path)) start_at
        ∙ ap (count_ended (to - bytes_of (pairs_of_level cut.front))) run_is in
        let first_is = first.0 in
        let first_low = first.1 in
        let last_is = last.0 in
        record {
          cuts = cut ∷ above;
          path_is = path_is ∙ ap shown is;
          levels_are = levels;
          enough = lowest-enough f cut above from to k count fresh led (subst HaveBytes (sym entries) have) between_here;
          place_is = place_is ∙ (count_from ∙ first_is);
          many_is = omega (arith, many_is, place_is, count_from, first_is, first_low, count_to, last_is);
        }

    by_cuts : (cuts : List Cut) → way_of at bytes root ≡ cuts → AreLed bytes cuts → map whole cuts ≡ levels_at at root →
        ShowsWay f (levels_at at root) k count fresh path place many
    by_cuts [] is led levels = empty is (sym levels)
    by_cuts (cut ∷ above) is led levels = there cut above is led levels

    by_height : (h : ℕ) → root.height ≡ h → ShowsWay f (levels_at at root) k count fresh path place many
    by_height zero high =
        empty (ap (λ (n : ℕ). way_below at bytes n (root_names root) []) high)
        (ap (λ (n : ℕ). levels_down at n (node_on at root.page ∷ [])) high)
    by_height (suc h) high =
        let half : 2 ≤ f / 2 = omega (arith, four) in
        let way = way-tree at (f / 2) h root from to high half tree order inside in
        by_cuts (way_of at bytes root) refl way.0 way.1
