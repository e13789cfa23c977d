-- Walks over nodes and trees that fit pass, and so do all checks on an image.
use Rattle.std.proofs.Common.{◌≡◌, ℕ, zero, suc, ◌+◌, ◌-◌, ◌*◌, ◌/◌, ◌^◌, ◌<◌, ◌≤◌, Bool, true, false, ◌&&◌, ◌||◌}
use Rattle.std.proofs.Common.{cond, IsTrue, Option, Some, None, List, [], ◌∷◌, ◌++◌, length, map, take, drop, refl}
use Rattle.std.proofs.Common.{sym, ap, subst, arith, ◌∙◌, ◌⊎◌, inl, inr, nat_eq, mul-le-mul_right}
use Rattle.std.specs.Prelude.{nat_le, sum_by, replicate, slice_index, if◌then◌else◌}
use Rattle.std.specs.List.{AllByRecursion, range_with_len, list_any, list_all}
use Rattle.std.specs.Int.{w16, w32, to_be_bytes, from_be_bytes}
use Rattle.std.specs.Str.{bytes_eq}
use Rattle.std.proofs.lemmas.Bool.{le-leb, eq-eqb, ne_eqb, eqb-true, false≢true}
use Rattle.std.proofs.lemmas.Nat.{from_be_bytes-to_be_bytes_2, from_be_bytes-to_be_bytes_4}
use Rattle.std.proofs.lemmas.List.{length-take, take-append-drop}
use Rattle.std.proofs.lemmas.List.Sums.{sum_by-cons}
use Rattle.std.proofs.lemmas.Slice.Eq.{bytes_eq-Decides}
use Rattle.geometry_model.specs.Numbers.{Numbers, IsInRange, is_in_range, pages, objects, space_pages, fan_out}
use Rattle.geometry_model.specs.Pages.{directory_page, data_page, place, is_data_page}
use Rattle.geometry_model.proofs.NumberLaws.{is_in_range-true, page_size-low, page_size-high, space_pages-high}
use Rattle.geometry_model.proofs.PageLaws.{place-of_IsPlace}
use Rattle.block_model.specs.Block.{has_page}
use Rattle.block_model.specs.Directory.{directory_page as directory_bytes}
use Rattle.tree_model.specs.declared.entry.Pair.{Pair}
use Rattle.tree_model.specs.Node.{IsPair, HoldsNode, node_in, node_bytes, room_of}
use Rattle.tree_model.specs.Tree.{page_count, bytes_of, pairs_on, HasNode, AreTrees, IsTree, IsSegment, root_least}
use Rattle.tree_model.specs.Tree.{entries_under, entries_of, nodes_under, nodes_of}
use Rattle.layout_model.specs.Pack.{Packed}
use Rattle.moment_model.specs.Version.{version_uses}
use Rattle.moment_model.specs.Moment.{all_committed}
use Rattle.tree_pages.specs.Entry.{Entry, Present}
use Rattle.tree_pages.specs.Levels.{version_at}
use Rattle.tree_pages.proofs.CountLemmas.{times, times-cons}
use Rattle.tree_pages.proofs.TreeLemmas.{entry-nodes, entry-segments}
use Rattle.image_model.specs.Super.{image_page, mark, super_bytes, version_in, numbers_in, has_mark, is_version, has_numbers, IsSuper}
use Rattle.image_model.specs.Directory.{is_directory, free_bits}
use Rattle.image_model.specs.Catalog.{entry_at, entry_bytes, has_entry, is_entry}
use Rattle.image_model.specs.Image.{IsImage, HasTree, image_pages, free_of_space, object_entry}
use Rattle.image_model.specs.Checks.{Refusal, Walk, Checked, then_check, check, each, is_free_at, is_free_page}
use Rattle.image_model.specs.Checks.{is_met, meet, is_some_bytes, holds_node, fits_after, check_segment, check_node}
use Rattle.image_model.specs.Checks.{check_tree, check_space, check_store, check_all, refusal_of, first_refusal}
use Rattle.image_model.specs.Checks.Checked.{Passed, Failed}
use Rattle.image_model.specs.Checks.Refusal.{Short, BadMagic, BadVersion, BadGeometry, BadDirectory, BadCatalog}
use Rattle.image_model.specs.Checks.Refusal.{BadTree, BadNode, PageTwice, PageFree, PageLost}
use Rattle.image_laws.proofs.RestLemmas.{at_rest, rest-committed}
use Rattle.image_laws.proofs.UsedLemmas.{place-cases}
use Rattle.image_laws.proofs.SoundLemmas.{shown, shown_version, once-shown, data-uses}
use Rattle.image_laws.proofs.CheckLemmas.{test-cases}
use Rattle.image_laws.proofs.WalkLemmas.{Follows}
use Rattle.image_laws.proofs.NodeLemmas.{page-length, data-below, child_step, some-height}
use Rattle.image_laws.proofs.FitLemmas.{Fits, Going, part_uses, pass-check, pass-then, meet-passes, times-self}
use Rattle.image_laws.proofs.FitLemmas.{fits-first, fits-second, going-both, segments-go}

-- ---- nodes

-- the test of a node that a page of this size holds
each-some : (pairs : List Pair) → AllByRecursion IsPair pairs → list_all is_some_bytes pairs ≡ true
each-some [] each = refl
each-some (p ∷ ps) each =
    ap (λ (b : Bool). b && list_all is_some_bytes ps) (le-leb 1 p.bytes each.0.some) ∙ each-some ps each.1

all-four : (a b c d e : Bool) → a ≡ true → b ≡ true → c ≡ true → d ≡ true → e ≡ true → (a && (b && (c && (d && e)))) ≡ true
all-four a b c d e fa fb fc fd fe = cc

pub node-test : (size : ℕ) (page : List ℕ) → length page ≡ size → HoldsNode page → holds_node size page ≡ true
unfolding holds_node
node-test size page long holds =
    let level = (node_in page).level in
    let pairs = (node_in page).pairs in
    let room = holds.sound.room in
    let some = holds.sound.some in
    let same : page ≡ node_bytes size level pairs = holds.bytes ∙ ap (λ (s : ℕ). node_bytes s level pairs) long in
    all-four (nat_le 1 level) (nat_le 1 (length pairs)) (nat_le (length pairs) (room_of size))
    (list_all is_some_bytes pairs) (bytes_eq page (node_bytes size level pairs))
    (le-leb 1 level holds.sound.low) (le-leb 1 (length pairs) some) (le-leb (length pairs) (room_of size) (omega (arith, room, long)))
    (each-some pairs holds.sound.each) ((bytes_eq-Decides page (node_bytes size level pairs)).1 same)

-- what a store's pages are, for a walk
pub record HasPages (n : Numbers) (bytes : List ℕ) : Type 0 where
  pub size : pages n * n.page ≤ length bytes
  pub some : 0 < n.page

-- the first checks of a node
head-goes : (n : Numbers) (bytes : List ℕ) (o threshold below least page sum : ℕ) (walk : Walk)
    (next : Walk → Checked) (nodes : List ℕ) (entries : List Pair) → HasPages n bytes →
    HasNode (image_pages n bytes) page (suc below) least sum → Fits n bytes threshold walk (page ∷ nodes) entries →
    ((mid : Walk) → Fits n bytes threshold mid nodes entries → Going n (next mid) mid nodes entries) →
    Going n (then_check (check (is_data_page n page) (BadTree o) walk) (λ placed.
    then_check (meet n bytes page placed) (λ met.
    then_check (check (holds_node n.page (image_page n.page bytes page)) (BadNode page) met) (λ held.
    then_check (check (nat_eq (node_in (image_page n.page bytes page)).level (suc below) && nat_le least
    (length (node_in (image_page n.page bytes page)).pairs)) (BadTree o) held) next)))) walk (page
    ∷ nodes) entries
head-goes n bytes o threshold below least page sum walk next nodes entries pages_are has fits further =
    let at = image_page n.page bytes page in
    let mid : Walk = record { met = page ∷ walk.met; before = walk.before } in
    let fourth : Walk → Checked = λ held. then_check
    (check (nat_eq (node_in at).level (suc below) && nat_le least (length (node_in at).pairs))
    (BadTree o) held) next in
    let third : Walk → Checked = λ met. then_check (check (holds_node n.page at) (BadNode page) met) fourth in
    let second : Walk → Checked = λ placed. then_check (meet n bytes page placed) third in
    let own : 0 < times page (page ∷ nodes) = times-self page nodes in
    let room = fits.room page in
    let new : times page walk.met ≡ 0 = omega (arith, own, room) in
    let taken = fits.taken page (omega (arith, own)) in
    let counted : (q : ℕ) → times q mid.met + part_uses n q nodes entries ≡ times q walk.met + part_uses n q (page ∷ nodes) entries = λ q.
    let a = times-cons q page walk.met in
    let b = times-cons q page nodes in
    omega (arith, a, b) in
    let left : Fits n bytes threshold mid nodes entries = record {
      on_data = fits.on_data.1;
      segments = fits.segments;
      follows = fits.follows;
      room = λ q. let a = counted q in let b = fits.room q in omega (arith, a, b);
      taken = λ q some. let a = times-cons q page nodes in fits.taken q (omega (arith, a, some));
    } in
    let rest = further mid left in
    let long = page-length n bytes page pages_are.size (data-below n page fits.on_data.0) in
    let holds = node-test n.page at long has.held in
    let level : nat_eq (node_in at).level (suc below) ≡ true = eq-eqb (node_in at).level (suc below) has.is_level in
    let filled : (nat_eq (node_in at).level (suc below) && nat_le least (length (node_in at).pairs)) ≡ true =
    ap (λ (b : Bool). b && nat_le least (length (node_in at).pairs)) level ∙ le-leb least (length (node_in at).pairs) has.filled in
    record {
      out = rest.out;
      passed = pass-then (check (is_data_page n page)
          (BadTree o) walk) second walk rest.out (pass-check (is_data_page n page) (BadTree o) walk fits.on_data.0)
          (pass-then (meet n bytes page walk) third mid rest.out (meet-passes n bytes page walk new taken)
          (pass-then (check (holds_node n.page at)
          (BadNode page) mid) fourth mid rest.out (pass-check (holds_node n.page at) (BadNode page) mid holds)
          (pass-then (check (nat_eq (node_in at).level (suc below) && nat_le least (length (node_in at).pairs))
          (BadTree o) mid) next mid rest.out
          (pass-check (nat_eq (node_in at).level (suc below) && nat_le least (length (node_in at).pairs))
          (BadTree o) mid filled) rest.passed)));
      met = λ q. let a = counted q in let b = rest.met q in omega (arith, a, b);
      before = rest.before;
    }

-- the nodes that pairs name
children-go : (n : Numbers) (bytes : List ℕ) (o threshold below : ℕ) →
    ((least page sum : ℕ) (walk : Walk) → HasNode (image_pages n bytes) page (suc below) least sum →
    AreTrees (image_pages n bytes) (fan_out n / 2) below (pairs_on (image_pages n bytes) page) →
    Fits n bytes threshold walk (nodes_of (image_pages n bytes) (suc below) page)
    (entries_under (image_pages n bytes) below (pairs_on (image_pages n bytes) page)) →
    Going n (check_node n bytes o threshold (suc below) least page walk) walk (nodes_of (image_pages n bytes)
    (suc below) page) (entries_under (image_pages n bytes) below (pairs_on (image_pages n bytes) page))) →
    (pairs : List Pair) (walk : Walk) → AreTrees (image_pages n bytes) (fan_out n / 2) (suc below) pairs →
    Fits n bytes threshold walk (nodes_under (image_pages n bytes) (suc below) pairs)
    (entries_under (image_pages n bytes) (suc below) pairs) →
    Going n (each (child_step n bytes o threshold (suc below)) pairs walk) walk (nodes_under (image_pages n bytes)
    (suc below) pairs) (entries_under (image_pages n bytes) (suc below) pairs)
children-go n bytes o threshold below one [] walk trees fits = record { out = walk; passed = refl; met = λ q. omega arith; before = refl }
children-go n bytes o threshold below one (p ∷ ps) walk trees fits =
    let at = image_pages n bytes in
    let half = fan_out n / 2 in
    let nodes = nodes_of at (suc below) p.page in
    let more = nodes_under at (suc below) ps in
    let xs = entries_under at below (pairs_on at p.page) in
    let ys = entries_under at (suc below) ps in
    let node = one half p.page p.bytes walk trees.0.0 trees.0.1 (fits-first n bytes threshold walk nodes more xs ys fits) in
    let test = nat_eq (bytes_of (node_in (image_page n.page bytes p.page)).pairs) p.bytes in
    let sum : test ≡ true = eq-eqb (bytes_of (pairs_on at p.page)) p.bytes trees.0.0.counted in
    let first : Going n (child_step n bytes o threshold (suc below) p walk) walk nodes xs = record {
      out = node.out;
      passed = pass-then (check_node n bytes o threshold (suc below) half p.page walk)
          (λ walked. check test (BadTree o) walked) node.out node.out node.passed
          (pass-check test (BadTree o) node.out sum);
      met = node.met;
      before = node.before;
    } in
    going-both n (child_step n bytes o threshold (suc below) p walk)
    (each (child_step n bytes o threshold (suc below)) ps) walk nodes more xs ys first
    (children-go n bytes o threshold below one ps first.out trees.1
    (fits-second n bytes threshold (child_step n bytes o threshold (suc below) p walk) walk nodes more xs ys
    fits first))

pub node-goes : (n : Numbers) (bytes : List ℕ) (o threshold : ℕ) → HasPages n bytes →
    (below least page sum : ℕ) (walk : Walk) → HasNode (image_pages n bytes) page (suc below) least sum →
    AreTrees (image_pages n bytes) (fan_out n / 2) below (pairs_on (image_pages n bytes) page) →
    Fits n bytes threshold walk (nodes_of (image_pages n bytes) (suc below) page)
    (entries_under (image_pages n bytes) below (pairs_on (image_pages n bytes) page)) →
    Going n (check_node n bytes o threshold (suc below) least page walk) walk (nodes_of (image_pages n bytes)
    (suc below) page) (entries_under (image_pages n bytes) below (pairs_on (image_pages n bytes) page))
node-goes n bytes o threshold pages_are zero least page sum walk has trees fits =
    let pairs = pairs_on (image_pages n bytes) page in
    head-goes n bytes o threshold zero least page sum walk
    (λ filled. each (check_segment n bytes o threshold) pairs filled) [] pairs pages_are has fits
    (λ mid fit. segments-go n bytes o threshold pairs mid pages_are.some fit)
node-goes n bytes o threshold pages_are (suc below) least page sum walk has trees fits =
    let at = image_pages n bytes in
    let pairs = pairs_on at page in
    let nodes = nodes_under at (suc below) pairs in
    let entries = entries_under at (suc below) pairs in
    let other : nat_eq (suc below) 0 ≡ false = ne_eqb (suc below) 0 (λ none. omega (arith, none)) in
    let F : Bool → Walk → Checked = λ lowest filled. elim lowest [
      | true ↦ each (check_segment n bytes o threshold) pairs filled
      | false ↦ each (child_step n bytes o threshold (suc below)) pairs filled
    ] in
    head-goes n bytes o threshold (suc below) least page sum walk (F (nat_eq (suc below) 0)) nodes entries pages_are has fits
    (λ mid fit. subst (λ (b : Bool). Going n (F b mid) mid nodes entries) (sym other)
    (children-go n bytes o threshold below (node-goes n bytes o threshold pages_are below) pairs mid trees fit))

-- ---- trees

-- packed entries follow each other
pub packed-follows : (n : Numbers) (threshold : ℕ) (p : Pair) (entries : List Pair) →
    Packed n.page threshold (p ∷ entries) → Follows n threshold (Some p) entries
packed-follows n threshold p [] packed = tt
packed-follows n threshold p (q ∷ rest) packed = (one packed.0, packed-follows n threshold q rest packed.1)
  where
    or-right : (a b : Bool) → b ≡ true → (a || b) ≡ true
    or-right true b is = refl
    or-right false b is = is

    one : (threshold ≤ page_count n.page p.bytes) ⊎ (threshold ≤ page_count n.page q.bytes) → fits_after n threshold (Some p) q ≡ true
    one (inl big) = ap (λ (b : Bool). b || nat_le threshold (page_count n.page q.bytes)) (le-leb threshold (page_count n.page p.bytes) big)
    one (inr big) = or-right (nat_le threshold (page_count n.page p.bytes))
        (nat_le threshold (page_count n.page q.bytes)) (le-leb threshold (page_count n.page q.bytes) big)

pub follows-none : (n : Numbers) (threshold : ℕ) (entries : List Pair) → Packed n.page threshold entries → Follows n threshold None entries
follows-none n threshold [] packed = tt
follows-none n threshold (p ∷ ps) packed = (refl, packed-follows n threshold p ps packed)

-- checks of a tree that pass, and the pages that they met
record TreeGoes (n : Numbers) (bytes : List ℕ) (c : Checked) (walk : Walk) (entry : Entry) : Type 0 where
  out : Walk
  passed : c ≡ Passed out
  met : (q : ℕ) → times q out.met ≡ times q walk.met + version_uses n q (version_at (image_pages n bytes) entry)

-- a tree of this height that fits
record FitsAt (n : Numbers) (bytes : List ℕ) (threshold page size : ℕ) (walk : Walk) (height : ℕ) : Type 0 where
  shape : IsTree (image_pages n bytes) (fan_out n / 2) height page size
  on_data : AllByRecursion (λ q. IsTrue (is_data_page n q)) (nodes_of (image_pages n bytes) height page)
  segments : AllByRecursion (IsSegment n) (entries_of (image_pages n bytes) height page)
  packed : Packed n.page threshold (entries_of (image_pages n bytes) height page)
  room : (q : ℕ) → times q walk.met + part_uses n q (nodes_of (image_pages n bytes) height page)
      (entries_of (image_pages n bytes) height page) ≤ 1
  taken : (q : ℕ) → 0 < part_uses n q (nodes_of (image_pages n bytes) height page)
      (entries_of (image_pages n bytes) height page) → is_free_page n bytes q ≡ false

tree-goes : (n : Numbers) (bytes : List ℕ) (o : ℕ) (entry : Entry) (walk : Walk) → HasPages n bytes →
    HasTree n (image_pages n bytes) entry →
    ((q : ℕ) → times q walk.met + version_uses n q (version_at (image_pages n bytes) entry) ≤ 1) →
    ((q : ℕ) → 0 < version_uses n q (version_at (image_pages n bytes) entry) → is_free_page n bytes q ≡ false) →
    TreeGoes n bytes (check_tree n bytes o entry walk) walk entry
tree-goes n bytes o None walk pages_are tree room taken = record { out = walk; passed = refl; met = λ q. omega arith }
tree-goes n bytes o (Some present) walk pages_are tree room taken =
    let at = image_pages n bytes in
    let root = present.root in
    let start : Walk = record { met = walk.met; before = None } in
    let test = nat_eq (bytes_of (node_in (image_page n.page bytes root.page)).pairs) root.length in
    let run : ℕ → Checked = λ height. then_check
    (check_node n bytes o present.threshold height (root_least height) root.page start)
    (λ walked. check test (BadTree o) walked) in
    let F : Bool → Checked = λ b. elim b [
      | true ↦ Passed walk
      | false ↦ run root.height
    ] in
    let counted : (q : ℕ) → part_uses n q (nodes_of at root.height root.page) (entries_of at root.height root.page)
    ≡ version_uses n q (version_at at (Some present)) = λ q.
    let a = entry-nodes q at present in
    let b = entry-segments n q at present in
    omega (arith, a, b) in
    let fits : FitsAt n bytes present.threshold root.page root.length walk root.height = record {
      shape = tree.0.shape;
      on_data = tree.0.nodes;
      segments = tree.0.segments;
      packed = tree.1;
      room = λ q. let a = counted q in let b = room q in omega (arith, a, b);
      taken = λ q some. let a = counted q in taken q (omega (arith, a, some));
    } in
    elim (test-cases (nat_eq root.height 0)) [
      | inl none ↦
          let empty : (q : ℕ) → part_uses n q (nodes_of at root.height root.page) (entries_of at root.height root.page) ≡ 0 = λ q.
          ap (λ (h : ℕ). part_uses n q (nodes_of at h root.page) (entries_of at h root.page)) (eqb-true root.height 0 none) in
          record {
            out = walk;
            passed = ap F none;
            met = λ q. let a = counted q in let b = empty q in omega (arith, a, b);
          }
      | inr some ↦
          let high = some-height root.height some in
          let k = high.0 in
          let whole : FitsAt n bytes present.threshold root.page root.length walk (suc k) =
          subst (FitsAt n bytes present.threshold root.page root.length walk) high.1 fits in
          let nodes = nodes_of at (suc k) root.page in
          let entries = entries_of at (suc k) root.page in
          let parts : Fits n bytes present.threshold start nodes entries = record {
            on_data = whole.on_data;
            segments = whole.segments;
            follows = follows-none n present.threshold entries whole.packed;
            room = whole.room;
            taken = whole.taken;
          } in
          let node = node-goes n bytes o present.threshold pages_are k (root_least (suc k)) root.page root.length
          start whole.shape.0 whole.shape.1 parts in
          let sum : test ≡ true = eq-eqb (bytes_of (pairs_on at root.page)) root.length whole.shape.0.counted in
          let ran : run (suc k) ≡ Passed node.out =
          pass-then (check_node n bytes o present.threshold (suc k) (root_least (suc k)) root.page start)
          (λ walked. check test (BadTree o) walked) node.out node.out node.passed
          (pass-check test (BadTree o) node.out sum) in
          let used : (q : ℕ) → part_uses n q nodes entries ≡ version_uses n q (version_at at (Some present)) = λ q.
          ap (λ (h : ℕ). part_uses n q (nodes_of at h root.page) (entries_of at h root.page)) (sym high.1) ∙ counted q in
          record {
            out = node.out;
            passed = ap F some ∙ (ap run high.1 ∙ ran);
            met = λ q. let a = node.met q in let b = used q in omega (arith, a, b);
          }
    ]

-- all trees
record TreesGo (n : Numbers) (version : ℕ) (bytes objects : List ℕ) (c : Checked) (walk : Walk) : Type 0 where
  out : Walk
  passed : c ≡ Passed out
  met : (q : ℕ) → times q out.met ≡ times q walk.met + sum_by (version_uses n q) (map (shown_version n version bytes) objects)

trees-go : (n : Numbers) (version : ℕ) (bytes objects : List ℕ) (walk : Walk) → HasPages n bytes →
    AllByRecursion (λ o. HasTree n (image_pages n bytes) (object_entry n version bytes o)) objects →
    ((q : ℕ) → times q walk.met + sum_by (version_uses n q) (map (shown_version n version bytes) objects) ≤ 1) →
    ((q : ℕ) → 0 < sum_by (version_uses n q) (map (shown_version n version bytes) objects) → is_free_page n bytes q ≡ false) →
    TreesGo n version bytes objects (each (λ o walk. check_tree n bytes o (object_entry n version bytes o) walk) objects walk) walk
trees-go n version bytes [] walk pages_are trees room taken = record { out = walk; passed = refl; met = λ q. omega arith }
trees-go n version bytes (o ∷ rest) walk pages_are trees room taken =
    let step : ℕ → Walk → Checked = λ o walk. check_tree n bytes o (object_entry n version bytes o) walk in
    let whole : (q : ℕ) → sum_by (version_uses n q) (map (shown_version n version bytes) (o ∷ rest))
    ≡ version_uses n q (shown_version n version bytes o) + sum_by (version_uses n q)
    (map (shown_version n version bytes) rest) =
    λ q. sum_by-cons (version_uses n q) (shown_version n version bytes o) (map (shown_version n version bytes) rest) in
    let here = tree-goes n bytes o (object_entry n version bytes o) walk pages_are trees.0 (λ q. let a = whole q in
    let b = room q in omega (arith, a, b))
    (λ q some. let a = whole q in taken q (omega (arith, a, some))) in
    let more = trees-go n version bytes rest here.out pages_are trees.1 (λ q. let a = whole q in let b = room q in
    let d = here.met q in omega (arith, a, b, d))
    (λ q some. let a = whole q in taken q (omega (arith, a, some))) in
    record {
      out = more.out;
      passed = pass-then (step o walk) (each step rest) here.out more.out here.passed more.passed;
      met = λ q. let a = whole q in let b = here.met q in let d = more.met q in omega (arith, a, b, d);
    }

-- ---- all checks

-- checks that leave the walk as it was
pass-each : {A : Type 0} (step : A → Walk → Checked) (items : List A) (walk : Walk) →
    AllByRecursion (λ item. step item walk ≡ Passed walk) items → each step items walk ≡ Passed walk
pass-each step [] walk all = refl
pass-each step (item ∷ rest) walk all = pass-then (step item walk) (each step rest) walk walk all.0 (pass-each step rest walk all.1)

on-range : (P : ℕ → Type 0) (from count : ℕ) → ((i : ℕ) → from ≤ i → i < from + count → P i) → AllByRecursion P (range_with_len from count)
on-range P from zero holds = tt
on-range P from (suc count) holds =
    let low : from ≤ from = omega arith in
    let high : from < from + suc count = omega arith in
    (holds from low high, on-range P (from + 1) count (λ i above below. holds i (omega (arith, above)) (omega (arith, below))))

met-if : (q : ℕ) (pages : List ℕ) → 0 < times q pages → list_any (nat_eq q) pages ≡ true
met-if q [] some = let none : 0 < 0 = some in absurd (omega (arith, none))
met-if q (first ∷ rest) some =
    let whole = times-cons q first rest in
    elim (test-cases (nat_eq q first)) [
      | inl same ↦ ap (λ (b : Bool). b || list_any (nat_eq q) rest) same
      | inr other ↦
          let here = ap (λ (b : Bool). let k : ℕ = cond b 1 0 in k) other in
          let more = met-if q rest (omega (arith, whole, here, some)) in
          ap (λ (b : Bool). b || list_any (nat_eq q) rest) other ∙ more
    ]

-- a page that is used isn't free
used-taken : (bytes : List ℕ) (version : ℕ) (n : Numbers) → IsImage bytes version n → (q : ℕ) →
    0 < sum_by (version_uses n q) (shown n version bytes) → is_free_page n bytes q ≡ false
used-taken bytes version n image q some =
    elim (place-cases n q) [
      | inl none ↦ ap (is_free_at n bytes) none
      | inr spot ↦
          let is = spot.2 in
          let found = place-of_IsPlace n q spot.0 spot.1 is in
          let all = rest-committed n q (shown n version bytes) in
          let counted = ap (λ (p : ℕ). all_committed n p (at_rest (shown n version bytes))) is.is_page
          ∙ data-uses bytes version n image spot.0 spot.1 is.in_store is.in_space in
          ap (is_free_at n bytes) found ∙ not-free (has_page (free_of_space n bytes spot.0) spot.1)
          (sum_by (version_uses n q) (shown n version bytes)) (sym all ∙ counted) some
    ]
  where
    not-free : (b : Bool) (count : ℕ) → count ≡ cond b 0 1 → 0 < count → b ≡ false
    not-free true count same some = absurd (omega (arith, same, some))
    not-free false count same some = refl

abbrev start : Walk
start = record { met = []; before = None }

pub store-goes : (bytes : List ℕ) (version : ℕ) (n : Numbers) → IsImage bytes version n → (out : Walk)
    × (check_store n version bytes start ≡ Passed out)
store-goes bytes version n image =
    let spaces = range_with_len 0 n.spaces in
    let numbers = range_with_len 0 (objects n) in
    let directory : ℕ → Walk → Checked = λ s walk. check
    (is_directory n s (image_page n.page bytes (directory_page n s))) (BadDirectory s) walk in
    let entry : ℕ → Walk → Checked = λ o walk. check (has_entry n version (entry_at n bytes o)) (BadCatalog o) walk in
    let tree : ℕ → Walk → Checked = λ o walk. check_tree n bytes o (object_entry n version bytes o) walk in
    let fourth : Walk → Checked = λ trees. each (check_space n bytes) spaces trees in
    let third : Walk → Checked = λ entries. then_check (each tree numbers entries) fourth in
    let second : Walk → Checked = λ directories. then_check (each entry numbers directories) third in
    let first : Walk → Checked = λ sized. then_check (each directory spaces sized) second in
    let low_page = page_size-low n.page image.super.in_range.page_size in
    let pages_are : HasPages n bytes = record { size = image.size; some = omega (arith, low_page) } in
    let directories = on-range (λ s. directory s start ≡ Passed start) 0 n.spaces (λ s low inside.
    let page = image_page n.page bytes (directory_page n s) in
    pass-check (is_directory n s page) (BadDirectory s) start
    ((bytes_eq-Decides page (directory_bytes n.page s (free_bits n page))).1 (image.directories s (omega (arith, inside))))) in
    let entries = on-range (λ o. entry o start ≡ Passed start) 0 (objects n) (λ o low inside.
    let within : o < objects n = omega (arith, inside) in
    let same = (bytes_eq-Decides (entry_at n bytes o) (entry_bytes version (object_entry n version bytes o))).1 (image.entries o within) in
    pass-check (has_entry n version (entry_at n bytes o)) (BadCatalog o) start
    (ap (λ (b : Bool). b && is_entry n (object_entry n version bytes o)) same ∙ image.allowed o within)) in
    let have_trees = on-range (λ o. HasTree n (image_pages n bytes) (object_entry n version bytes o)) 0 (objects n)
    (λ o low inside. image.trees o (omega (arith, inside))) in
    let walked = trees-go n version bytes numbers start pages_are have_trees
    (λ q. let all = rest-committed n q (shown n version bytes) in let once = once-shown bytes version n image q in omega (arith, all, once))
    (used-taken bytes version n image) in
    let out = walked.out in
    let known = on-range (λ s. check_space n bytes s out ≡ Passed out) 0 n.spaces (λ s low inside.
    let within : s < n.spaces = omega (arith, inside) in
    pass-each (λ at walk. check (has_page (free_of_space n bytes s) at || is_met walk (data_page n s at))
    (PageLost (data_page n s at)) walk) (range_with_len 0 (space_pages n)) out
    (on-range (λ at. check (has_page (free_of_space n bytes s) at || is_met out (data_page n s at))
    (PageLost (data_page n s at)) out ≡ Passed out) 0 (space_pages n)
    (λ at low_at inside_at.
    let q = data_page n s at in
    let in_space : at < space_pages n = omega (arith, inside_at) in
    let used = data-uses bytes version n image s at within in_space in
    let all = rest-committed n q (shown n version bytes) in
    let met = walked.met q in
    pass-check (has_page (free_of_space n bytes s) at || is_met out q) (PageLost q) out
    (free-or-met (has_page (free_of_space n bytes s) at) q out (omega (arith, met, all, used)))))) in (
      out,
      pass-then (check (nat_le (pages n * n.page) (length bytes)) Short start) first start out
          (pass-check (nat_le (pages n * n.page) (length bytes)) Short start (le-leb (pages n * n.page) (length bytes) image.size))
          (pass-then (each directory spaces start) second start out (pass-each directory spaces start directories)
          (pass-then (each entry numbers start) third start out (pass-each entry numbers start entries)
          (pass-then (each tree numbers start) fourth out out walked.passed (pass-each (check_space n bytes) spaces out known)))),
    )
  where
    free-or-met : (b : Bool) (q : ℕ) (out : Walk) → times q out.met ≡ cond b 0 1 → (b || is_met out q) ≡ true
    free-or-met true q out count = refl
    free-or-met false q out count = met-if q out.met (omega (arith, count))

-- ---- the superblock

-- the numbers are read back from the superblock
numbers-back : (version : ℕ) (n : Numbers) (rest : List ℕ) → IsInRange n → numbers_in (super_bytes version n ++ rest) ≡ n
unfolding super_bytes numbers_in
numbers-back version n rest range =
    let high = page_size-high n.page range.page_size in
    let page = from_be_bytes-to_be_bytes_4 n.page (omega (arith, high)) in
    let spaces = from_be_bytes-to_be_bytes_2 n.spaces (omega (arith, range.spaces_high)) in
    let catalog = from_be_bytes-to_be_bytes_2 n.catalog (omega (arith, range.catalog_high)) in
    let wide = space_pages-high n range in
    let threshold = from_be_bytes-to_be_bytes_2 n.threshold (omega (arith, wide, range.threshold_high)) in
    rw (page, spaces, catalog, threshold) refl

version-back : (version : ℕ) (n : Numbers) (rest : List ℕ) → is_version version ≡ true →
    version_in (super_bytes version n ++ rest) ≡ version
unfolding super_bytes
version-back version n rest known = from_be_bytes-to_be_bytes_4 version (known-small version known)
  where
    known-small : (v : ℕ) → is_version v ≡ true → v < 2 ^ 32
    known-small v known =
        elim (test-cases (nat_eq v 1)) [
          | inl one ↦ let same = eqb-true v 1 one in omega (arith, same)
          | inr other ↦
              let two : nat_eq v 2 ≡ true = ap (λ (b : Bool). b || nat_eq v 2) (sym other) ∙ known in
              let same = eqb-true v 2 two in
              omega (arith, same)
        ]

mark-there : (version : ℕ) (n : Numbers) (rest : List ℕ) → has_mark (super_bytes version n ++ rest) ≡ true
unfolding super_bytes
mark-there version n rest = refl

zeros-there : (version : ℕ) (n : Numbers) (rest : List ℕ) →
    (nat_eq (slice_index (super_bytes version n ++ rest) 17) 0 && bytes_eq
    (take 232 (drop 24 (super_bytes version n ++ rest))) (replicate 232 0)) ≡ true
unfolding super_bytes
zeros-there version n rest = refl

-- the bytes of an image are its superblock and others
super-split : (bytes : List ℕ) (version : ℕ) (n : Numbers) → IsSuper bytes version n → bytes ≡ super_bytes version n ++ drop 256 bytes
super-split bytes version n super = sym (take-append-drop 256 bytes) ∙ ap (λ (front : List ℕ). front ++ drop 256 bytes) super.begins

pub image-numbers : (bytes : List ℕ) (version : ℕ) (n : Numbers) → IsSuper bytes version n → numbers_in bytes ≡ n
image-numbers bytes version n super = ap numbers_in (super-split bytes version n super)
    ∙ numbers-back version n (drop 256 bytes) super.in_range

pub image-version : (bytes : List ℕ) (version : ℕ) (n : Numbers) → IsSuper bytes version n → version_in bytes ≡ version
image-version bytes version n super = ap version_in (super-split bytes version n super)
    ∙ version-back version n (drop 256 bytes) super.known

pub image-passes : (bytes : List ℕ) (version : ℕ) (n : Numbers) → IsImage bytes version n → first_refusal bytes ≡ None
unfolding first_refusal
image-passes bytes version n image =
    let super = image.super in
    let split = super-split bytes version n super in
    let rest = drop 256 bytes in
    let same_version = image-version bytes version n super in
    let same_numbers = image-numbers bytes version n super in
    let low = page_size-low n.page super.in_range.page_size in
    let rows : 1 * n.page ≤ pages n * n.page = mul-le-mul_right n.page (omega arith) in
    let all = image.size in
    let long : nat_le 256 (length bytes) ≡ true = le-leb 256 (length bytes) (omega (arith, low, rows, all)) in
    let marked : has_mark bytes ≡ true = ap has_mark split ∙ mark-there version n rest in
    let known : is_version (version_in bytes) ≡ true = ap is_version same_version ∙ super.known in
    let zeros : (nat_eq (slice_index bytes 17) 0 && bytes_eq (take 232 (drop 24 bytes)) (replicate 232 0)) ≡ true =
    ap (λ (b : List ℕ). nat_eq (slice_index b 17) 0 && bytes_eq (take 232 (drop 24 b)) (replicate 232 0)) split
    ∙ zeros-there version n rest in
    let range : is_in_range (numbers_in bytes) ≡ true = ap is_in_range same_numbers ∙ is_in_range-true n super.in_range in
    let ranged : has_numbers bytes ≡ true =
    ap (λ (b : Bool). b && (nat_eq (slice_index bytes 17) 0 && bytes_eq (take 232 (drop 24 bytes)) (replicate 232 0))) range ∙ zeros in
    let goes = store-goes bytes version n image in
    let out = goes.0 in
    let checked : check_store (numbers_in bytes) (version_in bytes) bytes start ≡ Passed out =
    ap (λ (m : Numbers). check_store m (version_in bytes) bytes start) same_numbers
    ∙ (ap (λ (v : ℕ). check_store n v bytes start) same_version ∙ goes.1) in
    let fourth : Walk → Checked = λ ranged. check_store (numbers_in bytes) (version_in bytes) bytes ranged in
    let third : Walk → Checked = λ known. then_check (check (has_numbers bytes) BadGeometry known) fourth in
    let second : Walk → Checked = λ marked. then_check (check (is_version (version_in bytes)) BadVersion marked) third in
    let first : Walk → Checked = λ long. then_check (check (has_mark bytes) BadMagic long) second in
    let passed : check_all bytes ≡ Passed out =
    pass-then (check (nat_le 256 (length bytes)) Short start) first start out (pass-check (nat_le 256 (length bytes)) Short start long)
    (pass-then (check (has_mark bytes) BadMagic start) second start out (pass-check (has_mark bytes) BadMagic start marked)
    (pass-then (check (is_version (version_in bytes)) BadVersion start) third start out
    (pass-check (is_version (version_in bytes)) BadVersion start known)
    (pass-then (check (has_numbers bytes) BadGeometry start) fourth start out
    (pass-check (has_numbers bytes) BadGeometry start ranged) checked))) in
    ap refusal_of passed
