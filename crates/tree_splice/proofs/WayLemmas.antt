-- The way down through a tree is enough for an exchange, and shows all levels.
use Rattle.std.proofs.Common.{◌≡◌, ℕ, zero, suc, ◌+◌, ◌-◌, ◌<◌, ◌≤◌, Bool, true, false, cond, List, [], ◌∷◌, ◌++◌}
use Rattle.std.proofs.Common.{length, map, take, drop, refl, sym, ap, subst, arith, ◌∙◌, inl, inr, nat_eq, nat_lt, append_assoc}
use Rattle.std.specs.List.{AllByRecursion}
use Rattle.std.proofs.lemmas.Bool.{cases_Bool, cases_lt, ltb-true, eqb-true, eqb-false, lt-ltb}
use Rattle.std.proofs.lemmas.List.{append-nil, map-append}
use Rattle.std.proofs.lemmas.List.Sums.{sum_by-cons}
use Rattle.base_laws.proofs.ListLaws.{all-map}
use Rattle.content_laws.specs.Spelling.{HaveBytes}
use Rattle.change_laws.proofs.PartLemmas.{all-left, all-right}
use Rattle.layout_laws.proofs.LevelLemmas.{pairs-append}
use Rattle.layout_model.specs.Levels.{PageNode, node_at, pairs_of_level, touched_site}
use Rattle.layout_model.specs.Parts.{count_ended}
use Rattle.local_laws.specs.Cut.{Cut, whole, first_deciding, HasNeighbour, number_in_run, touched_in_run}
use Rattle.local_laws.specs.Path.{AreLeading, IsWay}
use Rattle.tree_model.specs.declared.entry.Pair.{Pair}
use Rattle.tree_model.specs.declared.tree.Root.{Root}
use Rattle.tree_model.specs.Tree.{Pages, AreTrees, HasNode, bytes_of, pairs_on}
use Rattle.tree_pages.specs.Levels.{levels_down, node_on}
use Rattle.tree_pages.proofs.DownLemmas.{down-step}
use Rattle.tree_pages.proofs.ShapeLemmas.{trees-named}
use Rattle.tree_splice.specs.Down.{Names, all_names, below_names, section_of, cut_below, way_below, root_names}
use Rattle.tree_splice.specs.Down.{AreUnder, deciding_bytes}
use Rattle.tree_splice.specs.Splice.{IsBetween}
use Rattle.tree_splice.specs.Way.{named_on}
use Rattle.tree_splice.specs.declared.section.Deciding.{Deciding}
use Rattle.tree_splice.proofs.DownLemmas.{flat-named}
use Rattle.tree_splice.proofs.EndedLemmas.{HasTwo, ended-few, ended-front, ended-last, ended-past, ended-rises}
use Rattle.tree_splice.proofs.NearLemmas.{HasBeside, Spot, cut-near, first_in, is_section, last_in}
use Rattle.tree_splice.proofs.NearLemmas.{leads-up, names-spot, three-parts}
use Rattle.window_laws.proofs.CountLemmas.{border-number, count_ended-start}
use Rattle.tree_read.proofs.TreeLemmas.{AreTrees-least}

-- ---- all levels are shown

-- a cut is of the whole level
pub cut-whole : (at : Pages) (bytes : Deciding) (names : Names) → AreUnder bytes names → whole (cut_below at bytes names)
    ≡ named_on at (all_names names)
cut-whole at bytes names under =
    let run = names.run in
    let section = section_of bytes (bytes_of names.front) run in
    let is = is_section bytes names under in
    let first = is.first in
    let inside = is.inside in
    let H = take section.first run in
    let M = take (section.end - section.first) (drop section.first run) in
    let D = drop section.end run in
    let name : Pair → PageNode = λ p. node_on at p.page in
    let parts = three-parts section run (omega (arith, first, inside)) in
    let all : (names.front ++ H) ++ (M ++ (D ++ names.back)) ≡ all_names names =
    append_assoc names.front H (M ++ (D ++ names.back))
    ∙ ap (λ (ps : List Pair). names.front ++ ps)
    (ap (λ (ps : List Pair). H ++ ps) (sym (append_assoc M D names.back))
    ∙ (sym (append_assoc H (M ++ D) names.back) ∙ ap (λ (ps : List Pair). ps ++ names.back) parts)) in
    ap (λ (ns : List PageNode). named_on at (names.front ++ H) ++ ns) (sym (map-append name M (D ++ names.back)))
    ∙ (sym (map-append name (names.front ++ H) (M ++ (D ++ names.back))) ∙ ap (named_on at) all)

-- the names below a cut are the pairs of its level
pub below-all : (cut : Cut) → all_names (below_names cut) ≡ pairs_of_level (whole cut)
below-all cut =
    sym (pairs-append cut.front (cut.run ++ cut.back)
    ∙ ap (λ (ps : List Pair). pairs_of_level cut.front ++ ps) (pairs-append cut.run cut.back))

-- the trees that the names below a cut name
pub trees-under : (at : Pages) (least height : ℕ) (bytes : Deciding) (names : Names) → AreUnder bytes names →
    AreTrees at least (suc height) (all_names names) → AreTrees at least height (all_names (below_names (cut_below at bytes names)))
trees-under at least height bytes names under trees =
    let all = all_names names in
    subst (AreTrees at least height)
    (sym (below-all (cut_below at bytes names) ∙ (ap pairs_of_level (cut-whole at bytes names under) ∙ flat-named at all)))
    (trees-named at least height all trees)

-- trees that have some pairs have no fewer
pub trees-least : (at : Pages) (least least2 height : ℕ) (pairs : List Pair) → least2 ≤ least → AreTrees at least height pairs →
    AreTrees at least2 height pairs
trees-least at least least2 zero pairs less trees = tt
trees-least at least least2 (suc height) pairs less trees =
    all-map (λ (p : Pair). HasNode at p.page (suc height) least p.bytes × AreTrees at least height (pairs_on at p.page))
    (λ (p : Pair). HasNode at p.page (suc height) least2 p.bytes × AreTrees at least2 height (pairs_on at p.page))
    (λ p is. (fewer p is.0, trees-least at least least2 height (pairs_on at p.page) less is.1)) pairs trees
  where
    fewer : (p : Pair) → HasNode at p.page (suc height) least p.bytes → HasNode at p.page (suc height) least2 p.bytes
    fewer p has =
        let filled = has.filled in
        record { held = has.held; is_level = has.is_level; filled = omega (arith, filled, less); counted = has.counted }

-- ---- one cut after the other

-- the lowest cut has what an exchange needs, and each run leads to the next
abbrev pub AreLed : Deciding → List Cut → Type 0
AreLed bytes [] = Unit {0}
AreLed bytes (cut ∷ above) = HasBeside bytes cut × AreLeading (cut ∷ above)

-- the nodes of a run that trees name have as many pairs as the trees
pub run-two : (at : Pages) (height : ℕ) (bytes : Deciding) (names : Names) → AreUnder bytes names →
    AreTrees at 2 (suc height) (all_names names) → AllByRecursion HasTwo (cut_below at bytes names).run
run-two at height bytes names under trees =
    let cut = cut_below at bytes names in
    let all : AllByRecursion HasTwo (named_on at (all_names names)) = named (all_names names) trees in
    let level : AllByRecursion HasTwo (whole cut) = subst (AllByRecursion HasTwo) (sym (cut-whole at bytes names under)) all in
    all-left HasTwo cut.run cut.back (all-right HasTwo cut.front (cut.run ++ cut.back) level)
  where
    named : (pairs : List Pair) → AreTrees at 2 (suc height) pairs → AllByRecursion HasTwo (named_on at pairs)
    named [] trees = tt
    named (p ∷ pairs) trees = (trees.0.0.filled, named pairs trees.1)

pub under-led : (at : Pages) (bytes : Deciding) (height : ℕ) (up : Cut) (above : List Cut) →
    AreTrees at 2 height (all_names (below_names up)) → (1 ≤ height → AllByRecursion HasTwo up.run) →
    HasBeside bytes up → AreLeading (up ∷ above) → AreLed bytes (way_below at bytes height (below_names up) (up ∷ above))
under-led at bytes zero up above trees two near leading = (near, leading)
under-led at bytes (suc height) up above trees two near leading =
    let some : 1 ≤ suc height = omega arith in
    let names = below_names up in
    let spot = names-spot bytes up near (two some) in
    let any = AreTrees-least at 2 (suc height) (all_names names) trees in
    let cut = cut_below at bytes names in
    under-led at bytes height cut (up ∷ above) (trees-under at 2 height bytes names spot.under trees)
    (λ more. run-two at height bytes names spot.under trees)
    (cut-near at height bytes names spot any) (leads-up at height bytes up near (two some) any, leading)

pub under-levels : (at : Pages) (bytes : Deciding) (height : ℕ) (up : Cut) (above : List Cut) →
    AreTrees at 2 height (all_names (below_names up)) → (1 ≤ height → AllByRecursion HasTwo up.run) →
    HasBeside bytes up →
    map whole (way_below at bytes height (below_names up) (up ∷ above))
    ≡ levels_down at height (named_on at (pairs_of_level (whole up))) ++ map whole (up ∷ above)
under-levels at bytes zero up above trees two near = refl
under-levels at bytes (suc height) up above trees two near =
    let some : 1 ≤ suc height = omega arith in
    let names = below_names up in
    let spot = names-spot bytes up near (two some) in
    let any = AreTrees-least at 2 (suc height) (all_names names) trees in
    let cut = cut_below at bytes names in
    let nodes = named_on at (pairs_of_level (whole up)) in
    let same : whole cut ≡ nodes = cut-whole at bytes names spot.under ∙ ap (named_on at) (below-all up) in
    under-levels at bytes height cut (up ∷ above) (trees-under at 2 height bytes names spot.under trees)
    (λ more. run-two at height bytes names spot.under trees) (cut-near at height bytes names spot any)
    ∙ (ap (λ (ns : List PageNode). levels_down at height (named_on at (pairs_of_level ns)) ++ (ns ∷ map whole (up ∷ above))) same
    ∙ sym (down-step at height nodes (map whole (up ∷ above))))

-- ---- the root

-- the first deciding byte is no later than the place, and it is the byte before it at the earliest
pub first_byte-close : (from to : ℕ) → ((deciding_bytes from to).first ≤ from) × (from ≤ (deciding_bytes from to).first + 1)
first_byte-close from to = elim (cases_Bool (nat_lt from to)) [
  | inl some ↦
      let step : (deciding_bytes from to).first ≡ from = ap (λ (t : Bool). cond t from (from - 1)) some in
      (omega (arith, step), omega (arith, step))
  | inr none ↦
      let step : (deciding_bytes from to).first ≡ from - 1 = ap (λ (t : Bool). cond t from (from - 1)) none in
      (omega (arith, step), omega (arith, step))
]

pub root-spot : (root : Root) (from to : ℕ) → from ≤ to → to ≤ root.length → 1 ≤ root.length →
    Spot (deciding_bytes from to) (root_names root)
root-spot root from to order inside some =
    let close = first_byte-close from to in
    let first = close.0 in
    let sum = sum_by-cons (λ (q : Pair). q.bytes) (record { bytes = root.length; page = root.page }) [] in
    let one : bytes_of (root_names root).run ≡ root.length = omega (arith, sum) in
    let none : bytes_of (root_names root).front ≡ 0 = refl in
    record {
      under = record {
        low = omega (arith, none);
        order = elim (cases_Bool (nat_lt from to)) [
          | inl less ↦
              let step : (deciding_bytes from to).first ≡ from = ap (λ (t : Bool). cond t from (from - 1)) less in
              let is = ltb-true from to less in
              omega (arith, step, is)
          | inr same ↦
              let step : (deciding_bytes from to).first ≡ from - 1 = ap (λ (t : Bool). cond t from (from - 1)) same in
              omega (arith, step, order)
        ];
        high = omega (arith, one, none, inside, some);
      };
      near = inr refl;
      far = inr (inl refl);
    }

-- ---- the place among the entries

-- where the k-th entry begins, so many entries have ended; and just before the end of another, one fewer
pub deciding-entries : (entries : List Pair) (from to k count : ℕ) → HaveBytes entries → IsBetween entries from to k count →
    (count_ended (deciding_bytes from to).first entries ≡ first_deciding k count)
    × (count_ended (deciding_bytes from to).last entries ≡ k + count - 1)
deciding-entries entries from to k count have between =
    let few = between.few in
    let first = between.first in
    let last = between.last in
    elim (cases_Bool (nat_eq count 0)) [
      | inl none ↦
          let no : count ≡ 0 = eqb-true count 0 none in
          let end : k + count ≡ k = omega (arith, no) in
          let same : to ≡ from = last ∙ (ap (λ (n : ℕ). bytes_of (take n entries)) end ∙ sym first) in
          let test : nat_lt from to ≡ false = not-less from to (omega (arith, same)) in
          let step : (deciding_bytes from to).first ≡ from - 1 = ap (λ (t : Bool). cond t from (from - 1)) test in
          let number : first_deciding k count ≡ k - 1 = ap (λ (t : Bool). cond t (k - 1) k) none in
          let before = prior k (omega (arith, few)) in
          let here = ap (λ (n : ℕ). count_ended (n - 1) entries) first in
          let there = ap (λ (n : ℕ). count_ended (n - 1) entries) (same ∙ first) in
          let decided = ap (λ (n : ℕ). count_ended n entries) step in
          (omega (arith, decided, here, before, number), omega (arith, there, before, no))
      | inr some ↦
          let any = eqb-false count 0 some in
          let many : 1 ≤ count = elim (cases_lt 0 count) [
            | inl more ↦ more
            | inr none ↦ absurd (any (omega (arith, none)))
          ] in
          let less = rising k count many few in
          let test : nat_lt from to ≡ true = lt-ltb from to (omega (arith, less, first, last)) in
          let step : (deciding_bytes from to).first ≡ from = ap (λ (t : Bool). cond t from (from - 1)) test in
          let number : first_deciding k count ≡ k = ap (λ (t : Bool). cond t (k - 1) k) some in
          let border = (border-number k entries have (omega (arith, few))).0 in
          let decided = ap (λ (n : ℕ). count_ended n entries) (step ∙ first) in
          let before = prior (k + count) few in
          let there = ap (λ (n : ℕ). count_ended (n - 1) entries) last in
          (omega (arith, decided, border, number), omega (arith, there, before))
    ]
  where
    not-less : (a b : ℕ) → b ≤ a → nat_lt a b ≡ false
    not-less a b less = elim (cases_Bool (nat_lt a b)) [
      | inl is ↦ let more = ltb-true a b is in absurd (omega (arith, more, less))
      | inr not ↦ not
    ]

    prior : (m : ℕ) → m ≤ length entries → count_ended (bytes_of (take m entries) - 1) entries ≡ m - 1
    prior zero fits = count_ended-start entries have
    prior (suc m) fits =
        let less : suc m - 1 ≡ m = omega arith in
        ended-last m entries have (omega (arith, fits)) ∙ sym less

    rising : (i n : ℕ) → 1 ≤ n → i + n ≤ length entries → bytes_of (take i entries) < bytes_of (take (i + n) entries)
    rising i n some fits = elim (cases_lt (bytes_of (take i entries)) (bytes_of (take (i + n) entries))) [
      | inl less ↦ less
      | inr more ↦
          let one = (border-number i entries have (omega (arith, fits))).0 in
          let two = (border-number (i + n) entries have fits).0 in
          let rises = ended-rises (bytes_of (take (i + n) entries)) (bytes_of (take i entries)) entries more in
          absurd (omega (arith, one, two, rises, some))
    ]

-- a place in a run is counted there
pub run-count : (at n : ℕ) (xs ys zs : List Pair) → HaveBytes zs → bytes_of xs ≤ at → at ≤ bytes_of xs + bytes_of ys →
    count_ended at (xs ++ (ys ++ zs)) ≡ n → (count_ended (at - bytes_of xs) ys ≡ n - length xs) × (length xs ≤ n)
run-count at n xs ys zs have low high is =
    let past = ended-past at xs (ys ++ zs) low in
    elim (cases_lt (at - bytes_of xs) (bytes_of ys)) [
      | inl inside ↦
          let front = ended-front (at - bytes_of xs) ys zs inside in
          (omega (arith, past, front, is), omega (arith, past, is))
      | inr end ↦
          let all = ended-past (at - bytes_of xs) ys zs end in
          let stop : at - bytes_of xs - bytes_of ys ≡ 0 = omega (arith, low, high) in
          let none = ap (λ (m : ℕ). count_ended m zs) stop ∙ count_ended-start zs have in
          let own = ended-past (at - bytes_of xs) ys [] end in
          let alone = ap (count_ended (at - bytes_of xs)) (append-nil ys) in
          (omega (arith, past, all, none, own, alone, is), omega (arith, past, is))
    ]

-- ---- the lowest run is enough

choose-deciding : (nodes : List PageNode) (from count a b : ℕ) → first_deciding from count ≡ a → from + count - 1 ≡ b →
    ((touched_site nodes from count).before ≡ node_at nodes a)
    × ((touched_site nodes from count).nodes ≡ suc (node_at nodes b) - node_at nodes a)
choose-deciding nodes from count a b first last =
    let before = ap (node_at nodes) first in
    let end = ap (node_at nodes) last in
    (before, omega (arith, before, end))

pub lowest-enough : (f : ℕ) (cut : Cut) (above : List Cut) (from to k count : ℕ) (fresh : List Pair) →
    AreLed (deciding_bytes from to) (cut ∷ above) → HaveBytes (pairs_of_level (whole cut)) →
    IsBetween (pairs_of_level (whole cut)) from to k count → IsWay f cut above k count fresh
lowest-enough f cut above from to k count fresh led have between =
    let bytes = deciding_bytes from to in
    let names = below_names cut in
    let near = led.0 in
    let low = near.under.low in
    let order = near.under.order in
    let high = near.under.high in
    let a = first_in bytes names in
    let b = last_in bytes names in
    let listed : pairs_of_level (whole cut) ≡ all_names names = sym (below-all cut) in
    let decided = deciding-entries (pairs_of_level (whole cut)) from to k count have between in
    let one : count_ended bytes.first (all_names names) ≡ first_deciding k count =
    ap (count_ended bytes.first) (sym listed) ∙ decided.0 in
    let two : count_ended bytes.last (all_names names) ≡ k + count - 1 = ap (count_ended bytes.last) (sym listed) ∙ decided.1 in
    let past = ended-past bytes.first names.front (names.run ++ names.back) low in
    let past2 = ended-past bytes.last names.front (names.run ++ names.back) (omega (arith, low, order)) in
    let within = ended-front (bytes.first - bytes_of names.front) names.run names.back (omega (arith, low, order, high)) in
    let within2 = ended-front (bytes.last - bytes_of names.front) names.run names.back (omega (arith, low, order, high)) in
    let few = ended-few (bytes.last - bytes_of names.front) names.run (omega (arith, low, order, high)) in
    let number : first_deciding k count ≡ length names.front + a = omega (arith, one, past, within) in
    let number2 : k + count - 1 ≡ length names.front + b = omega (arith, two, past2, within2) in
    let here = shifted k count (length names.front) a b number number2 in
    let touched = choose-deciding cut.run (number_in_run cut k) count a b here.0 here.1 in
    let before = touched.0 in
    let nodes = touched.1 in
    let beside : HasNeighbour cut (touched_in_run cut k count) = elim (cases_lt 0 (node_at cut.run a)) [
      | inl some ↦ inl (omega (arith, before, some))
      | inr none ↦ elim near.near [
        | inl many ↦ absurd (omega (arith, many, none))
        | inr first ↦ elim near.far [
          | inl many ↦ absurd (omega (arith, many, none))
          | inr rest ↦ elim rest [
            | inl last ↦ inr (first, inl last)
            | inr more ↦ inr (first, inr (omega (arith, nodes, none, more)))
          ]
        ]
      ]
    ] in
    record {
      enough = record {
        starts = omega (arith, number);
        ends = omega (arith, number2, few);
        beside = λ any small. beside;
      };
      emptied = λ none. beside;
      leads = led.1;
    }
  where
    shifted : (i n passed x y : ℕ) → first_deciding i n ≡ passed + x → i + n - 1 ≡ passed + y →
        (first_deciding (i - passed) n ≡ x) × (i - passed + n - 1 ≡ y)
    shifted i n passed x y first last = elim (cases_Bool (nat_eq n 0)) [
      | inl none ↦
          let no = eqb-true n 0 none in
          let step : first_deciding i n ≡ i - 1 = ap (λ (t : Bool). cond t (i - 1) i) none in
          let step2 : first_deciding (i - passed) n ≡ i - passed - 1 = ap (λ (t : Bool). cond t (i - passed - 1) (i - passed)) none in
          (omega (arith, step, step2, first), omega (arith, no, last, step, first))
      | inr some ↦
          let step : first_deciding i n ≡ i = ap (λ (t : Bool). cond t (i - 1) i) some in
          let step2 : first_deciding (i - passed) n ≡ i - passed = ap (λ (t : Bool). cond t (i - passed - 1) (i - passed)) some in
          (omega (arith, step, step2, first), omega (arith, step, first, last))
    ]
