-- The walks of nodes, of whole trees and of all trees.
use Rattle.std.proofs.Common.{◌≡◌, ℕ, zero, suc, ◌+◌, ◌-◌, ◌*◌, ◌/◌, ◌^◌, ◌<◌, ◌≤◌, Bool, true, false, ◌&&◌, cond}
use Rattle.std.proofs.Common.{IsTrue, Option, Some, None, is_some, List, [], ◌∷◌, ◌++◌, length, map, take, drop}
use Rattle.std.proofs.Common.{get_or, refl, sym, ap, subst, arith, ◌∙◌, ◌⊎◌, inl, inr, nat_eq, nat_lt}
use Rattle.std.proofs.Common.{mul-le-mul_right}
use Rattle.std.specs.Prelude.{nat_le, sum_by, if◌then◌else◌}
use Rattle.std.specs.List.{AllByRecursion, range_with_len, list_all}
use Rattle.std.specs.Str.{bytes_eq}
use Rattle.std.proofs.lemmas.Bool.{and_parts, leb-true, eqb-true, ne_eqb, false≢true}
use Rattle.std.proofs.lemmas.List.{length-take, length-drop}
use Rattle.std.proofs.lemmas.List.Sums.{sum_by-cons}
use Rattle.std.proofs.lemmas.Slice.Eq.{bytes_eq-Decides}
use Rattle.geometry_model.specs.Numbers.{Numbers, pages, fan_out}
use Rattle.geometry_model.specs.Pages.{is_data_page}
use Rattle.geometry_model.proofs.PageLaws.{data_page-below}
use Rattle.tree_model.specs.declared.entry.Pair.{Pair}
use Rattle.tree_model.specs.declared.tree.Root.{Root}
use Rattle.tree_model.specs.Node.{IsPair, HoldsNode, NodeBytes, node_in, node_bytes, pair_in, pairs_in, room_of}
use Rattle.tree_model.specs.Tree.{Pages, bytes_of, pairs_on, HasNode, AreTrees, IsTree, IsTreeOf, IsSegment}
use Rattle.tree_model.specs.Tree.{root_least, entries_under, entries_of, nodes_under, nodes_of}
use Rattle.layout_model.specs.Pack.{Packed}
use Rattle.moment_model.specs.Version.{uses, segment_run, version_uses, segment_uses, node_uses}
use Rattle.node_codec.proofs.NumberLemmas.{AreBytes, AreBytes-take, AreBytes-drop, fits4, fits8}
use Rattle.tree_pages.specs.Entry.{Entry, Present}
use Rattle.tree_pages.specs.Levels.{version_at}
use Rattle.tree_pages.proofs.CountLemmas.{times}
use Rattle.tree_pages.proofs.TreeLemmas.{entry-nodes, entry-segments}
use Rattle.image_model.specs.Super.{image_page}
use Rattle.image_model.specs.Catalog.{is_entry, is_root, is_threshold}
use Rattle.image_model.specs.Image.{HasTree, image_pages, object_entry}
use Rattle.image_model.specs.Checks.{Walk, Checked, then_check, check, each, meet, is_some_bytes, holds_node}
use Rattle.image_model.specs.Checks.{check_segment, check_node, check_tree}
use Rattle.image_model.specs.Checks.Checked.{Passed, Failed}
use Rattle.image_model.specs.Checks.Refusal.{BadTree, BadNode}
use Rattle.image_laws.proofs.UsedLemmas.{place-cases}
use Rattle.image_laws.proofs.SoundLemmas.{shown_version}
use Rattle.image_laws.proofs.CheckLemmas.{passed-then, passed-check, test-cases}
use Rattle.image_laws.proofs.WalkLemmas.{IsSober, Grown, Follows, meet-meets, segments-grown, grown-both, follows-packed}

-- ---- pages and nodes of bytes

-- the bytes have all pages of the store, and each is a byte
pub record AreSized (n : Numbers) (bytes : List ℕ) : Type 0 where
  pub small : AreBytes bytes
  pub size : pages n * n.page ≤ length bytes
  pub page_high : n.page ≤ 4096

pub page-length : (n : Numbers) (bytes : List ℕ) (page : ℕ) → pages n * n.page ≤ length bytes → page < pages n →
    length (image_page n.page bytes page) ≡ n.page
page-length n bytes page size below =
    let cut = length-take n.page (drop (page * n.page) bytes) in
    let left = length-drop (page * n.page) bytes in
    let rows : (page + 1) * n.page ≤ pages n * n.page = mul-le-mul_right n.page (omega (arith, below)) in
    omega (arith, cut, left, rows, size)

pub data-below : (n : Numbers) (page : ℕ) → is_data_page n page ≡ true → page < pages n
data-below n page is =
    elim (place-cases n page) [
      | inl none ↦ let not : is_data_page n page ≡ false = ap is_some none in absurd (false≢true (sym not ∙ is))
      | inr spot ↦ let at = spot.2 in let low = data_page-below n spot.0 spot.1 at.in_store at.in_space in
          let same = at.is_page in omega (arith, low, same)
    ]

-- pairs read from bytes
pairs-good : (k : ℕ) (bs : List ℕ) → AreBytes bs → list_all is_some_bytes (pairs_in k bs) ≡ true → AllByRecursion IsPair (pairs_in k bs)
unfolding pair_in
pairs-good zero bs small some = tt
pairs-good (suc k) bs small some =
    let parts = and_parts (is_some_bytes (pair_in bs)) (list_all is_some_bytes (pairs_in k (drop 12 bs))) some in (
      record {
        some = leb-true 1 (pair_in bs).bytes parts.0;
        count_fits = fits8 bs small;
        page_fits =
            fits4 (drop 8 bs) (AreBytes-drop 8 bs small);
      },
      pairs-good k (drop 12 bs) (AreBytes-drop 12 bs small) parts.1,
    )

-- the parts of the test of a node
record NodeTests (size : ℕ) (page : List ℕ) : Type 0 where
  low : 1 ≤ (node_in page).level
  some : 1 ≤ length (node_in page).pairs
  room : length (node_in page).pairs ≤ room_of size
  each_some : list_all is_some_bytes (node_in page).pairs ≡ true
  bytes : page ≡ node_bytes size (node_in page).level (node_in page).pairs

node-tests : (size : ℕ) (page : List ℕ) → holds_node size page ≡ true → NodeTests size page
unfolding holds_node
node-tests size page holds =
    let level = (node_in page).level in
    let pairs = (node_in page).pairs in
    let a = and_parts (nat_le 1 level) _ holds in
    let b = and_parts (nat_le 1 (length pairs)) _ a.1 in
    let c = and_parts (nat_le (length pairs) (room_of size)) _ b.1 in
    let d = and_parts (list_all is_some_bytes pairs) (bytes_eq page (node_bytes size level pairs)) c.1 in
    record {
      low = leb-true 1 level a.0;
      some = leb-true 1 (length pairs) b.0;
      room = leb-true (length pairs) (room_of size) c.0;
      each_some = d.0;
      bytes = (bytes_eq-Decides page (node_bytes size level pairs)).0 d.1;
    }

-- a page of bytes that passes the test holds a node
pub node-holds : (size : ℕ) (page : List ℕ) → holds_node size page ≡ true → AreBytes page → length page ≡ size →
    size ≤ 4096 → HoldsNode page
unfolding node_in
node-holds size page holds small long high =
    let tests = node-tests size page holds in
    let some = tests.some in
    let room = tests.room in
    record {
      sound = record {
        low = tests.low;
        high = small 1;
        some = some;
        room = omega (arith, some, room, long);
        count_fits = omega (arith, room, high);
        each = pairs-good _ (drop 8 page) (AreBytes-drop 8 page small) tests.each_some;
      };
      bytes = tests.bytes ∙ ap (λ (s : ℕ). node_bytes s (node_in page).level (node_in page).pairs) (sym long);
    }

-- ---- one node, and what it names

-- the walk of a node of level `below + 1` that passes
pub record NodeIs (n : Numbers) (bytes : List ℕ) (threshold below least page : ℕ) (walk out : Walk) : Type 0 where
  pub has : HasNode (image_pages n bytes) page (suc below) least (bytes_of (pairs_on (image_pages n bytes) page))
  pub trees : AreTrees (image_pages n bytes) (fan_out n / 2) below (pairs_on (image_pages n bytes) page)
  pub grown : Grown n bytes threshold walk out (nodes_of (image_pages n bytes) (suc below) page)
      (entries_under (image_pages n bytes) below (pairs_on (image_pages n bytes) page))

-- its first checks
record HeadIs (n : Numbers) (bytes : List ℕ) (threshold below least page : ℕ) (walk out : Walk) (next : Walk → Checked) : Type 0 where
  mid : Walk
  grown : Grown n bytes threshold walk mid (page ∷ []) []
  has : HasNode (image_pages n bytes) page (suc below) least (bytes_of (pairs_on (image_pages n bytes) page))
  each_some : list_all is_some_bytes (pairs_on (image_pages n bytes) page) ≡ true
  left : next mid ≡ Passed out

head-walk : (n : Numbers) (bytes : List ℕ) (o threshold below least page : ℕ) (walk out : Walk) (next : Walk → Checked) → AreSized n bytes →
    then_check (check (is_data_page n page) (BadTree o) walk) (λ placed.
    then_check (meet n bytes page placed) (λ met.
    then_check (check (holds_node n.page (image_page n.page bytes page)) (BadNode page) met) (λ held.
    then_check (check (nat_eq (node_in (image_page n.page bytes page)).level (suc below) && nat_le least
    (length (node_in (image_page n.page bytes page)).pairs)) (BadTree o) held) next))) ≡ Passed out →
    HeadIs n bytes threshold below least page walk out next
head-walk n bytes o threshold below least page walk out next sized passed =
    let at = image_page n.page bytes page in
    let fourth : Walk → Checked = λ held. then_check
    (check (nat_eq (node_in at).level (suc below) && nat_le least (length (node_in at).pairs))
    (BadTree o) held) next in
    let third : Walk → Checked = λ met. then_check (check (holds_node n.page at) (BadNode page) met) fourth in
    let second : Walk → Checked = λ placed. then_check (meet n bytes page placed) third in
    let a = passed-then (check (is_data_page n page) (BadTree o) walk) second out passed in
    let data_page = passed-check (is_data_page n page) (BadTree o) walk a.0 a.1 in
    let b = passed-then (meet n bytes page a.0) third out a.2 in
    let meets = meet-meets n bytes page a.0 b.0 b.1 in
    let c = passed-then (check (holds_node n.page at) (BadNode page) b.0) fourth out b.2 in
    let holds = passed-check (holds_node n.page at) (BadNode page) b.0 c.0 c.1 in
    let d = passed-then (check (nat_eq (node_in at).level (suc below) && nat_le least (length (node_in at).pairs))
    (BadTree o) c.0) next out c.2 in
    let filled = passed-check (nat_eq (node_in at).level (suc below) && nat_le least (length (node_in at).pairs)) (BadTree o) c.0 d.0 d.1 in
    let parts = and_parts (nat_eq (node_in at).level (suc below)) (nat_le least (length (node_in at).pairs)) filled.0 in
    let small = AreBytes-take n.page (drop (page * n.page) bytes) (AreBytes-drop (page * n.page) bytes sized.small) in
    let long = page-length n bytes page sized.size (data-below n page data_page.0) in
    let same : b.0 ≡ d.0 = holds.1 ∙ filled.1 in
    let from : Grown n bytes threshold walk b.0 (page ∷ []) [] = record {
      on_data = (data_page.0, tt);
      segments = tt;
      follows = tt;
      before = meets.before ∙ ap (λ (w : Walk). w.before) (sym data_page.1);
      met = λ q. let e = meets.met q in let f = ap (λ (w : Walk). times q w.met) data_page.1 in omega (arith, e, f);
      sober = λ sober. meets.sober (subst (IsSober n bytes) data_page.1 sober);
    } in
    record {
      mid = d.0;
      grown = subst (λ (w : Walk). Grown n bytes threshold walk w (page ∷ []) []) same from;
      has = record {
        held = node-holds n.page at holds.0 small long sized.page_high;
        is_level = eqb-true (node_in at).level (suc below) parts.0;
        filled = leb-true least (length (node_in at).pairs) parts.1;
        counted = refl;
      };
      each_some = (node-tests n.page at holds.0).each_some;
      left = d.2;
    }

-- the nodes that pairs name, each walked and its sum compared
abbrev pub child_step : Numbers → List ℕ → ℕ → ℕ → ℕ → Pair → Walk → Checked
child_step n bytes o threshold height pair walk =
    then_check (check_node n bytes o threshold height (fan_out n / 2) pair.page walk) (λ walked.
    check (nat_eq (bytes_of (node_in (image_page n.page bytes pair.page)).pairs) pair.bytes) (BadTree o) walked)

record ChildrenAre (n : Numbers) (bytes : List ℕ) (threshold below : ℕ) (pairs : List Pair) (walk out : Walk) : Type 0 where
  trees : AreTrees (image_pages n bytes) (fan_out n / 2) (suc below) pairs
  grown : Grown n bytes threshold walk out (nodes_under (image_pages n bytes) (suc below) pairs)
      (entries_under (image_pages n bytes) (suc below) pairs)

children-walk : (n : Numbers) (bytes : List ℕ) (o threshold below : ℕ) →
    ((least page : ℕ) (walk out : Walk) → check_node n bytes o threshold (suc below) least page walk ≡ Passed out →
    NodeIs n bytes threshold below least page walk out) →
    (pairs : List Pair) (walk out : Walk) → each (child_step n bytes o threshold (suc below)) pairs walk
    ≡ Passed out → ChildrenAre n bytes threshold below pairs walk out
children-walk n bytes o threshold below one [] walk out passed =
    let same : walk ≡ out = cc in
    subst (ChildrenAre n bytes threshold below [] walk) same (record {
      trees = tt;
      grown = record { on_data = tt; segments = tt; follows = tt; before = refl; met = λ q. omega arith; sober = λ sober. sober };
    })
children-walk n bytes o threshold below one (p ∷ ps) walk out passed =
    let at = image_pages n bytes in
    let half = fan_out n / 2 in
    let a = passed-then (child_step n bytes o threshold (suc below) p walk)
    (each (child_step n bytes o threshold (suc below)) ps) out passed in
    let test = nat_eq (bytes_of (node_in (image_page n.page bytes p.page)).pairs) p.bytes in
    let b = passed-then (check_node n bytes o threshold (suc below) half p.page walk) (λ walked. check test (BadTree o) walked) a.0 a.1 in
    let node = one half p.page walk b.0 b.1 in
    let sum = passed-check test (BadTree o) b.0 a.0 b.2 in
    let counted = eqb-true (bytes_of (pairs_on at p.page)) p.bytes sum.0 in
    let grown = subst (λ (w : Walk). Grown n bytes threshold walk w (nodes_of at (suc below) p.page)
    (entries_under at below (pairs_on at p.page))) sum.1 node.grown in
    let more = children-walk n bytes o threshold below one ps a.0 out a.2 in
    record {
      trees = ((subst (HasNode at p.page (suc below) half) counted node.has, node.trees), more.trees);
      grown = grown-both n bytes threshold walk a.0 out (nodes_of at (suc below) p.page) (nodes_under at (suc below) ps)
          (entries_under at below (pairs_on at p.page)) (entries_under at (suc below) ps) grown more.grown;
    }

pub node-walk : (n : Numbers) (bytes : List ℕ) (o threshold : ℕ) → AreSized n bytes → (below least page : ℕ) (walk out : Walk) →
    check_node n bytes o threshold (suc below) least page walk ≡ Passed out → NodeIs n bytes threshold below least page walk out
node-walk n bytes o threshold sized zero least page walk out passed =
    let pairs = pairs_on (image_pages n bytes) page in
    let head = head-walk n bytes o threshold zero least page walk out
    (λ filled. each (check_segment n bytes o threshold) pairs filled) sized passed in
    record {
      has = head.has;
      trees = tt;
      grown = grown-both n bytes threshold walk head.mid out (page
          ∷ []) [] [] pairs head.grown (segments-grown n bytes o threshold pairs head.mid out head.each_some
          head.left);
    }
node-walk n bytes o threshold sized (suc below) least page walk out passed =
    let at = image_pages n bytes in
    let pairs = pairs_on at page in
    let other : nat_eq (suc below) 0 ≡ false = ne_eqb (suc below) 0 (λ none. omega (arith, none)) in
    let F : Bool → Walk → Checked = λ lowest filled. elim lowest [
      | true ↦ each (check_segment n bytes o threshold) pairs filled
      | false ↦ each (child_step n bytes o threshold (suc below)) pairs filled
    ] in
    let head = head-walk n bytes o threshold (suc below) least page walk out (F (nat_eq (suc below) 0)) sized passed in
    let left : each (child_step n bytes o threshold (suc below)) pairs head.mid ≡ Passed out =
    ap (λ (b : Bool). F b head.mid) (sym other) ∙ head.left in
    let children = children-walk n bytes o threshold below (node-walk n bytes o threshold sized below) pairs head.mid out left in
    record {
      has = head.has;
      trees = children.trees;
      grown = grown-both n bytes threshold walk head.mid out (page ∷ [])
          (nodes_under at (suc below) pairs) [] (entries_under at (suc below) pairs) head.grown children.grown;
    }

-- ---- an object's tree

pub record TreeIs (n : Numbers) (bytes : List ℕ) (entry : Entry) (walk out : Walk) : Type 0 where
  pub tree : HasTree n (image_pages n bytes) entry
  pub met : (q : ℕ) → times q out.met ≡ times q walk.met + version_uses n q (version_at (image_pages n bytes) entry)
  pub sober : IsSober n bytes walk → IsSober n bytes out

-- the same, said of a height
record TreeOf (n : Numbers) (bytes : List ℕ) (threshold page size height : ℕ) (walk out : Walk) : Type 0 where
  tree : IsTreeOf n (image_pages n bytes) (record { height = height; page = page; length = size })
      (entries_of (image_pages n bytes) height page)
  packed : Packed n.page threshold (entries_of (image_pages n bytes) height page)
  met : (q : ℕ) → times q out.met ≡ times q walk.met + times q (nodes_of (image_pages n bytes) height page) + uses q
      (map (segment_run n.page) (entries_of (image_pages n bytes) height page))
  sober : IsSober n bytes walk → IsSober n bytes out

tree-is : (n : Numbers) (bytes : List ℕ) (present : Present) (walk out : Walk) →
    TreeOf n bytes present.threshold present.root.page present.root.length present.root.height walk out →
    TreeIs n bytes (Some present) walk out
tree-is n bytes present walk out is = record {
  tree = (is.tree, is.packed);
  met = λ q. let a = is.met q in let b = entry-nodes q (image_pages n bytes) present in
      let c = entry-segments n q (image_pages n bytes) present in omega (arith, a, b, c);
  sober = is.sober;
}

no-height : (root : Root) → is_root root ≡ true → nat_eq root.height 0 ≡ true → (root.page ≡ 0) × (root.length ≡ 0)
no-height root is none =
    let both : (nat_eq root.page 0 && nat_eq root.length 0) ≡ true =
    ap (λ (b : Bool). if b then nat_eq root.page 0 && nat_eq root.length 0 else nat_lt 0 root.length) (sym none) ∙ is in
    let parts = and_parts (nat_eq root.page 0) (nat_eq root.length 0) both in
    (eqb-true root.page 0 parts.0, eqb-true root.length 0 parts.1)

pub some-height : (height : ℕ) → nat_eq height 0 ≡ false → (k : ℕ) × (height ≡ suc k)
some-height zero some = absurd (false≢true (sym some))
some-height (suc k) some = (k, refl)

pub tree-walk : (n : Numbers) (bytes : List ℕ) (o : ℕ) (entry : Entry) (walk out : Walk) → AreSized n bytes → is_entry n entry ≡ true →
    check_tree n bytes o entry walk ≡ Passed out → TreeIs n bytes entry walk out
tree-walk n bytes o None walk out sized allowed passed =
    let same : walk ≡ out = cc in
    subst (TreeIs n bytes None walk) same (record { tree = tt; met = λ q. omega arith; sober = λ sober. sober })
tree-walk n bytes o (Some present) walk out sized allowed passed =
    let at = image_pages n bytes in
    let root = present.root in
    let threshold = present.threshold in
    let start : Walk = record { met = walk.met; before = None } in
    let test = nat_eq (bytes_of (node_in (image_page n.page bytes root.page)).pairs) root.length in
    let run : ℕ → Checked = λ height. then_check
    (check_node n bytes o threshold height (root_least height) root.page start)
    (λ walked. check test (BadTree o) walked) in
    let F : Bool → Checked = λ b. elim b [
      | true ↦ Passed walk
      | false ↦ run root.height
    ] in
    tree-is n bytes present walk out (elim (test-cases (nat_eq root.height 0)) [
      | inl none ↦
          let kept : Passed walk ≡ Passed out = ap F (sym none) ∙ passed in
          let same : walk ≡ out = cc in
          let zeros = no-height root (and_parts (is_root root) (is_threshold n threshold) allowed).0 none in
          let empty : TreeOf n bytes threshold root.page root.length 0 walk walk = record {
            tree = record { shape = zeros; listed = refl; nodes = tt; segments = tt };
            packed = tt;
            met = λ q. omega arith;
            sober = λ sober. sober;
          } in
          subst (TreeOf n bytes threshold root.page root.length root.height walk) same
          (subst (λ (h : ℕ). TreeOf n bytes threshold root.page root.length h walk walk) (sym (eqb-true root.height 0 none)) empty)
      | inr some ↦
          let high = some-height root.height some in
          let k = high.0 in
          let walked : run (suc k) ≡ Passed out = ap run (sym high.1) ∙ (ap F (sym some) ∙ passed) in
          let a = passed-then (check_node n bytes o threshold (suc k) (root_least (suc k)) root.page start)
          (λ walked. check test (BadTree o) walked) out walked in
          let node = node-walk n bytes o threshold sized k (root_least (suc k)) root.page start a.0 a.1 in
          let sum = passed-check test (BadTree o) a.0 out a.2 in
          let counted = eqb-true (bytes_of (pairs_on at root.page)) root.length sum.0 in
          let full : TreeOf n bytes threshold root.page root.length (suc k) walk out = record {
            tree = record {
              shape = (subst (HasNode at root.page (suc k) (root_least (suc k))) counted node.has, node.trees);
              listed = refl;
              nodes = node.grown.on_data;
              segments = node.grown.segments;
            };
            packed = follows-packed n threshold None _ node.grown.follows;
            met = λ q. let b = node.grown.met q in let c = ap (λ (w : Walk). times q w.met) sum.1 in omega (arith, b, c);
            sober = λ sober.
                let from : IsSober n bytes start = record { once = sober.once; taken = sober.taken } in
                subst (IsSober n bytes) sum.1 (node.grown.sober from);
          } in
          subst (λ (h : ℕ). TreeOf n bytes threshold root.page root.length h walk out) (sym high.1) full
    ])

-- ---- all trees

pub record TreesAre (n : Numbers) (version : ℕ) (bytes objects : List ℕ) (walk out : Walk) : Type 0 where
  pub trees : AllByRecursion (λ o. HasTree n (image_pages n bytes) (object_entry n version bytes o)) objects
  pub met : (q : ℕ) → times q out.met ≡ times q walk.met + sum_by (version_uses n q) (map (shown_version n version bytes) objects)
  pub sober : IsSober n bytes walk → IsSober n bytes out

pub trees-walk : (n : Numbers) (version : ℕ) (bytes objects : List ℕ) (walk out : Walk) → AreSized n bytes →
    AllByRecursion (λ o. is_entry n (object_entry n version bytes o) ≡ true) objects →
    each (λ o walk. check_tree n bytes o (object_entry n version bytes o) walk) objects walk ≡ Passed out →
    TreesAre n version bytes objects walk out
trees-walk n version bytes [] walk out sized allowed passed =
    let same : walk ≡ out = cc in
    subst (TreesAre n version bytes [] walk) same (record { trees = tt; met = λ q. omega arith; sober = λ sober. sober })
trees-walk n version bytes (o ∷ rest) walk out sized allowed passed =
    let step : ℕ → Walk → Checked = λ o walk. check_tree n bytes o (object_entry n version bytes o) walk in
    let a = passed-then (step o walk) (each step rest) out passed in
    let here = tree-walk n bytes o (object_entry n version bytes o) walk a.0 sized allowed.0 a.1 in
    let more = trees-walk n version bytes rest a.0 out sized allowed.1 a.2 in
    record {
      trees = (here.tree, more.trees);
      met = λ q.
          let b = here.met q in
          let c = more.met q in
          let d = sum_by-cons (version_uses n q) (shown_version n version bytes o) (map (shown_version n version bytes) rest) in
          omega (arith, b, c, d);
      sober = λ sober. more.sober (here.sober sober);
    }
