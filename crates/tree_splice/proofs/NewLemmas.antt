-- What holds of each new level of a tree, from what an exchange on one level keeps.
use Rattle.std.proofs.Common.{◌≡◌, ℕ, zero, suc, ◌+◌, ◌-◌, ◌/◌, ◌≤◌, Bool, true, false, cond, List, [], ◌∷◌, ◌++◌}
use Rattle.std.proofs.Common.{length, map, take, drop, refl, sym, ap, subst, arith, ◌∙◌, inl, inr, nat_eq, length-drop}
use Rattle.std.specs.List.{AllByRecursion}
use Rattle.std.proofs.Math.Seq.{take-nil, drop-nil}
use Rattle.std.proofs.lemmas.Bool.{cases_Bool}
use Rattle.std.proofs.lemmas.List.{append-nil, map-append, take_all}
use Rattle.std.proofs.lemmas.List.Sums.{sum_by-cons}
use Rattle.std.proofs.lemmas.List.Concat.{flat_map-cons}
use Rattle.base_laws.proofs.ListLaws.{all-append, all-map}
use Rattle.content_laws.specs.Spelling.{HaveBytes}
use Rattle.change_laws.proofs.NodeCountLemmas.{made-cons}
use Rattle.change_laws.proofs.SizeLemmas.{all-take, all-drop, made-length}
use Rattle.change_laws.proofs.FillLemmas.{level-filled}
use Rattle.layout_laws.proofs.LevelLemmas.{pairs-cons, take-two}
use Rattle.layout_model.specs.Levels.{PageNode, NewLevel, Site, pair_of, pairs_of_level, nodes_at, exchanged, site_of, sizes_of}
use Rattle.layout_model.specs.Levels.{cut_into, on_pages, level_after, is_top, raised_levels}
use Rattle.layout_model.specs.Levels.{spliced, count_made}
use Rattle.local_laws.specs.Left.{nodes_made}
use Rattle.moment_model.specs.Version.{IsFilled, AreFilled, least_on}
use Rattle.tree_model.specs.declared.entry.Pair.{Pair}
use Rattle.tree_model.specs.Tree.{bytes_of}
use Rattle.tree_splice.specs.Remade.{remade, row_pages}
use Rattle.local_laws.specs.Path.{PathLevel, is_top_of_path, new_path_from, splice_path}
use Rattle.tree_splice.specs.Way.{HasSomePairs, IsSoundNode, IsMade, AreAllMade, AreSound}
use Rattle.tree_splice.proofs.UpLemmas.{path-more, path-top}
use Rattle.tree_splice.proofs.WholeLemmas.{whole_level, whole-path}

-- ---- one level after the other

-- the new levels have Q, each with its number
abbrev pub AllFrom : (ℕ → NewLevel → Type 0) → ℕ → List NewLevel → Type 0
AllFrom Q k [] = Unit {0}
AllFrom Q k (level ∷ levels) = Q k level × AllFrom Q (suc k) levels

-- the old ones have P
abbrev pub OldFrom : (ℕ → List PageNode → Type 0) → ℕ → List (List PageNode) → Type 0
OldFrom P k [] = Unit {0}
OldFrom P k (nodes ∷ levels) = P k nodes × OldFrom P (suc k) levels

raised-each : (Q : ℕ → NewLevel → Type 0) (f : ℕ) →
    ((k : ℕ) (below : NewLevel) (pages : List ℕ) → Q k below → Q (suc k) (level_after f [] 0 0 (map pair_of below.nodes) pages)) →
    (steps k : ℕ) (below : NewLevel) (pages : List ℕ) → Q k below → AllFrom Q k (raised_levels steps f below pages)
raised-each Q f next zero k below pages here = (here, tt)
raised-each Q f next (suc steps) k below pages here = elim (cases_Bool (is_top below)) [
  | inl top ↦
      let one : raised_levels (suc steps) f below pages ≡ below ∷ [] = rw (top, raised_levels) refl in
      subst (AllFrom Q k) (sym one) (here, tt)
  | inr more ↦
      let left = drop (length below.made) pages in
      let up = level_after f [] 0 0 (map pair_of below.nodes) left in
      let step : raised_levels (suc steps) f below pages ≡ below ∷ raised_levels steps f up left = rw (more, raised_levels) refl in
      subst (AllFrom Q k) (sym step) (here, raised-each Q f next steps (suc k) up left (next k below left here))
]

-- the nodes of the way have P
abbrev pub PathFrom : (ℕ → List PageNode → Type 0) → ℕ → List PathLevel → Type 0
PathFrom P k [] = Unit {0}
PathFrom P k (level ∷ path) = P k level.nodes × PathFrom P (suc k) path

from-each : (P : ℕ → List PageNode → Type 0) (Q : ℕ → NewLevel → Type 0) (f : ℕ) →
    ((k : ℕ) (below : NewLevel) (nodes : List PageNode) (from : ℕ) (pages : List ℕ) → Q k below → P (suc k) nodes →
    Q (suc k) (level_after f nodes from below.count (map pair_of below.made) pages)) →
    ((k : ℕ) (below : NewLevel) (pages : List ℕ) → Q k below → Q (suc k) (level_after f [] 0 0 (map pair_of below.nodes) pages)) →
    (k : ℕ) (below : NewLevel) (level : PathLevel) (above : List PathLevel) (pages : List ℕ) → Q k below → PathFrom P (suc k) above →
    AllFrom Q k (new_path_from f below level above pages)
from-each P Q f next raise k below level [] pages here old = raised-each Q f raise (length below.nodes) k below pages here
from-each P Q f next raise k below level (up ∷ above) pages here old = elim (cases_Bool (is_top_of_path level below)) [
  | inl top ↦ subst (AllFrom Q k) (sym (path-top f below level up above pages top)) (here, tt)
  | inr more ↦
      let left = drop (length below.made) pages in
      let from = level.first + below.from in
      let after = level_after f up.nodes from below.count (map pair_of below.made) left in
      subst (AllFrom Q k) (sym (path-more f below level up above pages more))
      (here, from-each P Q f next raise (suc k) after up above left (next k below up.nodes from left here old.0) old.1)
]

pub path-each : (P : ℕ → List PageNode → Type 0) (Q : ℕ → NewLevel → Type 0) (f : ℕ) →
    ((k : ℕ) (below : NewLevel) (nodes : List PageNode) (from : ℕ) (pages : List ℕ) → Q k below → P (suc k) nodes →
    Q (suc k) (level_after f nodes from below.count (map pair_of below.made) pages)) →
    ((k : ℕ) (below : NewLevel) (pages : List ℕ) → Q k below → Q (suc k) (level_after f [] 0 0 (map pair_of below.nodes) pages)) →
    (path : List PathLevel) (from count : ℕ) (fresh : List Pair) (pages : List ℕ) →
    Q 1 (level_after f [] 0 0 fresh pages) →
    ((nodes : List PageNode) → P 1 nodes → Q 1 (level_after f nodes from count fresh pages)) →
    PathFrom P 1 path → AllFrom Q 1 (splice_path f path from count fresh pages)
unfolding splice_path
path-each P Q f next raise [] from count fresh pages none first old =
    raised-each Q f raise (length (level_after f [] 0 0 fresh pages).nodes) 1 (level_after f [] 0 0 fresh pages) pages none
path-each P Q f next raise (level ∷ above) from count fresh pages none first old =
    from-each P Q f next raise 1 (level_after f level.nodes from count fresh pages) level above pages (first level.nodes old.0) old.1

-- and so it is on whole levels
pub spliced-each : (P : ℕ → List PageNode → Type 0) (Q : ℕ → NewLevel → Type 0) (f : ℕ) →
    ((k : ℕ) (below : NewLevel) (nodes : List PageNode) (from : ℕ) (pages : List ℕ) → Q k below → P (suc k) nodes →
    Q (suc k) (level_after f nodes from below.count (map pair_of below.made) pages)) →
    ((k : ℕ) (below : NewLevel) (pages : List ℕ) → Q k below → Q (suc k) (level_after f [] 0 0 (map pair_of below.nodes) pages)) →
    (levels : List (List PageNode)) (from count : ℕ) (fresh : List Pair) (pages : List ℕ) →
    Q 1 (level_after f [] 0 0 fresh pages) →
    ((nodes : List PageNode) → P 1 nodes → Q 1 (level_after f nodes from count fresh pages)) →
    OldFrom P 1 levels → AllFrom Q 1 (spliced f levels from count fresh pages)
spliced-each P Q f next raise levels from count fresh pages none first old =
    subst (AllFrom Q 1) (whole-path f levels from count fresh pages)
    (path-each P Q f next raise (map whole_level levels) from count fresh pages none first (whole-from 1 levels old))
  where
    whole-from : (k : ℕ) (ls : List (List PageNode)) → OldFrom P k ls → PathFrom P k (map whole_level ls)
    whole-from k [] old = tt
    whole-from k (nodes ∷ ls) old = (old.0, whole-from (suc k) ls old.1)

-- ---- made nodes have pairs, as many as a node has room for

pub sound-bytes : (nodes : List PageNode) → AllByRecursion IsSoundNode nodes → HaveBytes (pairs_of_level nodes)
sound-bytes [] all = tt
sound-bytes (node ∷ nodes) all = subst HaveBytes (sym (pairs-cons node nodes))
    (all-append (λ (p : Pair). 1 ≤ p.bytes) node.pairs (pairs_of_level nodes) all.0.bytes (sound-bytes nodes all.1))

pub pairs-some : (pairs : List Pair) → HasSomePairs pairs → 1 ≤ bytes_of pairs
pairs-some [] have = let some = have.some in absurd (omega (arith, some))
pairs-some (p ∷ pairs) have =
    let sum = sum_by-cons (λ (q : Pair). q.bytes) p pairs in
    let one = have.bytes.0 in
    omega (arith, sum, one)

pub names-some : (nodes : List PageNode) → AllByRecursion IsSoundNode nodes → HaveBytes (map pair_of nodes)
names-some [] all = tt
names-some (node ∷ nodes) all = (pairs-some node.pairs all.0, names-some nodes all.1)

cut-bytes : (pages sizes : List ℕ) (pairs : List Pair) → HaveBytes pairs →
    AllByRecursion (λ (node : PageNode). HaveBytes node.pairs) (on_pages pages (cut_into sizes pairs))
cut-bytes pages [] pairs all = tt
cut-bytes [] (n ∷ sizes) pairs all =
    (all-take (λ (p : Pair). 1 ≤ p.bytes) n pairs all, cut-bytes [] sizes (drop n pairs) (all-drop (λ (p : Pair). 1 ≤ p.bytes) n pairs all))
cut-bytes (page ∷ pages) (n ∷ sizes) pairs all = (
  all-take (λ (p : Pair). 1 ≤ p.bytes) n pairs all,
  cut-bytes pages sizes (drop n pairs)
      (all-drop (λ (p : Pair). 1 ≤ p.bytes) n pairs all),
)

both-made : (f least : ℕ) (nodes : List PageNode) → 1 ≤ least → AllByRecursion (IsFilled f least) nodes →
    AllByRecursion (λ (node : PageNode). HaveBytes node.pairs) nodes → AllByRecursion (IsMade f) nodes
both-made f least [] some filled all = tt
both-made f least (node ∷ nodes) some filled all =
    let low = filled.0.low in (
      record { pairs = record { some = omega (arith, low, some); bytes = all.0 }; most = filled.0.high },
      both-made f least nodes some filled.1 all.1,
    )

pub least-some : (b : Bool) (f : ℕ) → 4 ≤ f → 1 ≤ cond b 1 (f / 2)
least-some true f four = omega arith
least-some false f four = omega (arith, four)

none-taken : (site : Site) → nodes_at [] site ≡ []
none-taken site = ap (λ (ns : List PageNode). take site.nodes ns) (drop-nil {A = PageNode} site.before) ∙ take-nil {A = PageNode} site.nodes

exchanged-none : (site : Site) (fresh : List Pair) → exchanged [] site 0 0 fresh ≡ fresh
exchanged-none site fresh =
    let skipped = 0 - length (pairs_of_level (take site.before [])) in
    ap (λ (ns : List PageNode). take skipped (pairs_of_level ns) ++ (fresh ++ drop (skipped + 0) (pairs_of_level ns))) (none-taken site)
    ∙ (ap (λ (ps : List Pair). ps ++ (fresh ++ drop (skipped + 0) [])) (take-nil {A = Pair} skipped)
    ∙ (ap (λ (ps : List Pair). fresh ++ ps) (drop-nil {A = Pair} (skipped + 0)) ∙ append-nil fresh))

pub alone-nodes : (f : ℕ) (fresh : List Pair) (pages : List ℕ) →
    (level_after f [] 0 0 fresh pages).nodes ≡ on_pages pages (cut_into (sizes_of f (length fresh)) fresh)
alone-nodes f fresh pages =
    let site = site_of f [] 0 0 fresh in
    let made : List Pair → List PageNode = λ ps. on_pages pages (cut_into (sizes_of f (length ps)) ps) in
    ap (λ (ns : List PageNode). ns ++ (made (exchanged [] site 0 0 fresh) ++ drop (site.before + site.nodes) []))
    (take-nil {A = PageNode} site.before)
    ∙ (ap (λ (ns : List PageNode). made (exchanged [] site 0 0 fresh) ++ ns) (drop-nil {A = PageNode} (site.before + site.nodes))
    ∙ (append-nil (made (exchanged [] site 0 0 fresh)) ∙ ap made (exchanged-none site fresh)))

pub cut-made : (f : ℕ) (pages : List ℕ) (pairs : List Pair) → 4 ≤ f → HaveBytes pairs →
    AllByRecursion (IsMade f) (on_pages pages (cut_into (sizes_of f (length pairs)) pairs))
cut-made f pages pairs four all =
    let nodes = on_pages pages (cut_into (sizes_of f (length pairs)) pairs) in
    let none : AreFilled f 1 [] = tt in
    let filled : AreFilled f 1 (level_after f [] 0 0 pairs pages).nodes =
    level-filled f [] 0 0 pairs pages four none (omega arith) (λ node. absurd (omega (arith, node))) in
    let here : AreFilled f 1 nodes = subst (AreFilled f 1) (alone-nodes f pairs pages) filled in
    both-made f (least_on f 1 nodes) nodes (least-some (nat_eq (length nodes) 1) f four) here
    (cut-bytes pages (sizes_of f (length pairs)) pairs all)

-- a new level's made nodes are, and all its nodes have pairs
abbrev pub IsSoundNew : ℕ → ℕ → NewLevel → Type 0
IsSoundNew f k level = AllByRecursion (IsMade f) level.made × AllByRecursion IsSoundNode level.nodes

made-sound : (f : ℕ) (nodes : List PageNode) → AllByRecursion (IsMade f) nodes → AllByRecursion IsSoundNode nodes
made-sound f nodes all = all-map (IsMade f) IsSoundNode (λ node made. made.pairs) nodes all

exchanged-bytes : (nodes : List PageNode) (site : Site) (from count : ℕ) (fresh : List Pair) → AllByRecursion IsSoundNode nodes →
    HaveBytes fresh → HaveBytes (exchanged nodes site from count fresh)
exchanged-bytes nodes site from count fresh sound all =
    let P : Pair → Type 0 = λ p. 1 ≤ p.bytes in
    let skipped = from - length (pairs_of_level (take site.before nodes)) in
    let pairs = pairs_of_level (nodes_at nodes site) in
    let own : HaveBytes pairs = sound-bytes (nodes_at nodes site)
    (all-take IsSoundNode site.nodes (drop site.before nodes) (all-drop IsSoundNode site.before nodes sound)) in
    all-append P (take skipped pairs) (fresh ++ drop (skipped + count) pairs) (all-take P skipped pairs own)
    (all-append P fresh (drop (skipped + count) pairs) all (all-drop P (skipped + count) pairs own))

after-sound : (f k : ℕ) (nodes : List PageNode) (from count : ℕ) (fresh : List Pair) (pages : List ℕ) → 4 ≤ f →
    AllByRecursion IsSoundNode nodes → HaveBytes fresh → IsSoundNew f k (level_after f nodes from count fresh pages)
after-sound f k nodes from count fresh pages four sound all =
    let site = site_of f nodes from count fresh in
    let pairs = exchanged nodes site from count fresh in
    let made = on_pages pages (cut_into (sizes_of f (length pairs)) pairs) in
    let are = cut-made f pages pairs four (exchanged-bytes nodes site from count fresh sound all) in (
      are,
      all-append IsSoundNode (take site.before nodes) (made ++ drop (site.before + site.nodes) nodes)
          (all-take IsSoundNode site.before nodes sound)
          (all-append IsSoundNode made (drop (site.before + site.nodes) nodes) (made-sound f made are)
          (all-drop IsSoundNode (site.before + site.nodes) nodes sound)),
    )

path-from : (k : ℕ) (path : List PathLevel) → AreSound path → PathFrom (λ _ nodes. AllByRecursion IsSoundNode nodes) k path
path-from k [] all = tt
path-from k (level ∷ path) all = (all.0, path-from (suc k) path all.1)

path-sound : (f : ℕ) (path : List PathLevel) (from count : ℕ) (fresh : List Pair) (pages : List ℕ) → 4 ≤ f → AreSound path →
    HaveBytes fresh → AllFrom (IsSoundNew f) 1 (splice_path f path from count fresh pages)
path-sound f path from count fresh pages four sound all =
    path-each (λ _ nodes. AllByRecursion IsSoundNode nodes) (IsSoundNew f) f
    (λ k below nodes from2 rest here old.
    after-sound f (suc k) nodes from2 below.count (map pair_of below.made) rest four old
    (names-some below.made (made-sound f below.made here.0)))
    (λ k below rest here. after-sound f (suc k) [] 0 0 (map pair_of below.nodes) rest four tt (names-some below.nodes here.1))
    path from count fresh pages
    (after-sound f 1 [] 0 0 fresh pages four tt all)
    (λ nodes old. after-sound f 1 nodes from count fresh pages four old all)
    (path-from 1 path sound)

new-made : (f k : ℕ) (new : List NewLevel) → AllFrom (IsSoundNew f) k new → AreAllMade f (map remade new)
new-made f k [] all = tt
new-made f k (level ∷ new) all = (all.0.0, new-made f (suc k) new all.1)

-- so all nodes that an exchange makes are
pub path-made : (f : ℕ) (path : List PathLevel) (from count : ℕ) (fresh : List Pair) (pages : List ℕ) → 4 ≤ f → AreSound path →
    HaveBytes fresh → AreAllMade f (map remade (splice_path f path from count fresh pages))
path-made f path from count fresh pages four sound all =
    new-made f 1 (splice_path f path from count fresh pages) (path-sound f path from count fresh pages four sound all)

-- ---- made nodes stand on the pages that were given

rows : (pages : List ℕ) (parts : List (List Pair)) → length parts ≤ length pages → row_pages (on_pages pages parts) ≡ take (length parts)
    pages
rows pages [] few = refl
rows [] (part ∷ parts) few = let some : suc (length parts) ≤ 0 = few in absurd (omega (arith, some))
rows (page ∷ pages) (part ∷ parts) few =
    let less : suc (length parts) ≤ suc (length pages) = few in
    ap (λ (ps : List ℕ). page ∷ ps) (rows pages parts (omega (arith, less)))

-- each made node of a level stands on the first pages of a list
abbrev IsOn : List ℕ → NewLevel → Type 0
IsOn pages level = length level.made ≤ length pages → row_pages level.made ≡ take (length level.made) pages

after-on : (f : ℕ) (nodes : List PageNode) (from count : ℕ) (fresh : List Pair) (pages : List ℕ) → IsOn pages
    (level_after f nodes from count fresh pages)
after-on f nodes from count fresh pages = λ few.
    let pairs = exchanged nodes (site_of f nodes from count fresh) from count fresh in
    let parts = cut_into (sizes_of f (length pairs)) pairs in
    let long : length (on_pages pages parts) ≡ length parts = made-length pages (sizes_of f (length pairs)) pairs
    ∙ sym (parts-length (sizes_of f (length pairs)) pairs) in
    rows pages parts (omega (arith, few, long)) ∙ ap (λ (n : ℕ). take n pages) (sym long)
  where
    parts-length : (sizes : List ℕ) (pairs : List Pair) → length (cut_into sizes pairs) ≡ length sizes
    parts-length [] pairs = refl
    parts-length (n ∷ sizes) pairs = ap suc (parts-length sizes (drop n pairs))

made-rows : (level : NewLevel) (new : List NewLevel) → row_pages (nodes_made (level ∷ new)) ≡ row_pages level.made ++ row_pages
    (nodes_made new)
made-rows level new = ap row_pages (flat_map-cons (λ (l : NewLevel). l.made) level new) ∙ map-append (λ (node : PageNode). node.page)
    level.made (nodes_made new)

one-on : (level : NewLevel) (pages : List ℕ) → IsOn pages level → count_made (level ∷ []) ≤ length pages →
    row_pages (nodes_made (level ∷ [])) ≡ take (count_made (level ∷ [])) pages
one-on level pages on few =
    let count = made-cons level [] in
    let same : length level.made ≡ count_made (level ∷ []) = omega (arith, count) in
    made-rows level [] ∙ append-nil (row_pages level.made) ∙ on (omega (arith, few, count)) ∙ ap (λ (n : ℕ). take n pages) same

more-on : (level : NewLevel) (new : List NewLevel) (pages : List ℕ) → IsOn pages level →
    (count_made new ≤ length (drop (length level.made) pages) → row_pages (nodes_made new) ≡ take (count_made new)
    (drop (length level.made) pages)) →
    count_made (level ∷ new) ≤ length pages → row_pages (nodes_made (level ∷ new)) ≡ take (count_made (level ∷ new)) pages
more-on level new pages on others few =
    let count = made-cons level new in
    let n = length level.made in
    let left = length-drop n pages in
    made-rows level new
    ∙ (ap (λ (ps : List ℕ). ps ++ row_pages (nodes_made new)) (on (omega (arith, few, count)))
    ∙ (ap (λ (ps : List ℕ). take n pages ++ ps) (others (omega (arith, few, count, left)))
    ∙ (take-two n (count_made new) pages ∙ ap (λ (k : ℕ). take k pages) (sym count))))

raised-on : (steps f : ℕ) (below : NewLevel) (pages : List ℕ) → IsOn pages below → count_made (raised_levels steps f below pages) ≤ length
    pages →
    row_pages (nodes_made (raised_levels steps f below pages)) ≡ take (count_made (raised_levels steps f below pages)) pages
raised-on zero f below pages on few = one-on below pages on few
raised-on (suc steps) f below pages on few = elim (cases_Bool (is_top below)) [
  | inl top ↦
      let one : raised_levels (suc steps) f below pages ≡ below ∷ [] = rw (top, raised_levels) refl in
      subst (λ (new : List NewLevel). row_pages (nodes_made new) ≡ take (count_made new) pages) (sym one)
      (one-on below pages on (subst (λ (new : List NewLevel). count_made new ≤ length pages) one few))
  | inr more ↦
      let left = drop (length below.made) pages in
      let up = level_after f [] 0 0 (map pair_of below.nodes) left in
      let step : raised_levels (suc steps) f below pages ≡ below ∷ raised_levels steps f up left = rw (more, raised_levels) refl in
      subst (λ (new : List NewLevel). row_pages (nodes_made new) ≡ take (count_made new) pages) (sym step)
      (more-on below (raised_levels steps f up left) pages on
      (raised-on steps f up left (after-on f [] 0 0 (map pair_of below.nodes) left))
      (subst (λ (new : List NewLevel). count_made new ≤ length pages) step few))
]

from-on : (f : ℕ) (below : NewLevel) (level : PathLevel) (above : List PathLevel) (pages : List ℕ) → IsOn pages below →
    count_made (new_path_from f below level above pages) ≤ length pages →
    row_pages (nodes_made (new_path_from f below level above pages)) ≡ take (count_made (new_path_from f below level above pages)) pages
from-on f below level [] pages on few = raised-on (length below.nodes) f below pages on few
from-on f below level (up ∷ above) pages on few = elim (cases_Bool (is_top_of_path level below)) [
  | inl top ↦
      let one = path-top f below level up above pages top in
      subst (λ (new : List NewLevel). row_pages (nodes_made new) ≡ take (count_made new) pages) (sym one)
      (one-on below pages on (subst (λ (new : List NewLevel). count_made new ≤ length pages) one few))
  | inr more ↦
      let left = drop (length below.made) pages in
      let from = level.first + below.from in
      let next = level_after f up.nodes from below.count (map pair_of below.made) left in
      let step = path-more f below level up above pages more in
      subst (λ (new : List NewLevel). row_pages (nodes_made new) ≡ take (count_made new) pages) (sym step)
      (more-on below (new_path_from f next up above left) pages on
      (from-on f next up above left (after-on f up.nodes from below.count (map pair_of below.made) left))
      (subst (λ (new : List NewLevel). count_made new ≤ length pages) step few))
]

pub path-on : (f : ℕ) (path : List PathLevel) (from count : ℕ) (fresh : List Pair) (pages : List ℕ) →
    count_made (splice_path f path from count fresh pages) ≡ length pages →
    row_pages (nodes_made (splice_path f path from count fresh pages)) ≡ pages
unfolding splice_path
path-on f [] from count fresh pages all =
    let first = level_after f [] 0 0 fresh pages in
    let new = raised_levels (length first.nodes) f first pages in
    raised-on (length first.nodes) f first pages (after-on f [] 0 0 fresh pages) (omega (arith, all))
    ∙ take_all (count_made new) pages (omega (arith, all))
path-on f (level ∷ above) from count fresh pages all =
    let first = level_after f level.nodes from count fresh pages in
    let new = new_path_from f first level above pages in
    from-on f first level above pages (after-on f level.nodes from count fresh pages) (omega (arith, all))
    ∙ take_all (count_made new) pages (omega (arith, all))

pub spliced-on : (f : ℕ) (levels : List (List PageNode)) (from count : ℕ) (fresh : List Pair) (pages : List ℕ) →
    count_made (spliced f levels from count fresh pages) ≡ length pages →
    row_pages (nodes_made (spliced f levels from count fresh pages)) ≡ pages
spliced-on f levels from count fresh pages all =
    let same = whole-path f levels from count fresh pages in
    ap (λ (new : List NewLevel). row_pages (nodes_made new)) (sym same)
    ∙ path-on f (map whole_level levels) from count fresh pages (ap count_made same ∙ all)
