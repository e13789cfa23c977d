-- The exchange from what its steps say, once the new pages are held.
use Rattle.std.proofs.Common.{
  ◌≡◌,
  ℕ,
  ◌+◌,
  ◌-◌,
  ◌≤◌,
  ◌||◌,
  max,
  Bool,
  IsTrue,
  List,
  [],
  ◌∷◌,
  length,
  map,
  None,
  refl,
  sym,
  ap,
  subst,
  arith,
  ◌∙◌,
}
use Rattle.std.proofs.lemmas.List.{length-map}
use Rattle.std.specs.Option.{option_or}
use Rattle.fault_count.specs.Counts.{Meter, Writes, counted}
use Rattle.layout_model.specs.Levels.{count_made}
use Rattle.local_laws.specs.Left.{nodes_left}
use Rattle.local_laws.specs.Path.{PathLevel, splice_path}
use Rattle.page_cache.specs.Kept.{KeptNodes}
use Rattle.page_set.specs.declared.page_run.PageRun.{PageRun}
use Rattle.span_store.specs.Held.{Held, begins, bytes_on, page_at}
use Rattle.tree_model.specs.declared.entry.Pair.{Pair}
use Rattle.tree_model.specs.declared.tree.Root.{Root}
use Rattle.tree_model.specs.Node.{room_of}
use Rattle.tree_model.specs.Tree.{bytes_of, entries_of}
use Rattle.tree_read.specs.Search.{KeepsNodes}
use Rattle.tree_splice.specs.Fresh.{FreshPage, AreAllOf, AreAllWritten, AreHomely, ArePagesApart, fresh_at, is_on_pages, page_numbers}
use Rattle.tree_splice.specs.Remade.{remade, row_pages}
use Rattle.superdirectory.specs.Rest.{Frame}
use Rattle.tree_splice.specs.Splice.{ArePagesIn, CanSplice, HoldsNew, IsBetween, IsSpliced, WritesAtMost}
use Rattle.tree_splice.specs.Splice.{extent_of, firsts_of, single_run}
use Rattle.tree_splice.specs.Way.{AreAllMade, MadeStand, levels_of, root_with}
use Rattle.tree_splice.specs.declared.remade.Remade.{Remade}
use Rattle.moment_model.specs.Version.{uses}
use Rattle.tree_splice.proofs.FreshLemmas.{holds-new, pages-once}
use Rattle.tree_splice.proofs.ToldLemmas.{Found, begins-spans, kept-stays, page-spans, pages-come, stand-new, told-spliced}

-- What was made on new pages, where these are held and a node has so many bytes.
pub record Makes (tells : Bool) (size : ℕ) (held : Held) (path : List PathLevel) (place many want : ℕ) (fresh : List Pair)
    (pages : List FreshPage)
    (levels : List Remade) (made left : List PageRun) : Type 0 where
  pub wanted : want ≡ count_made (splice_path (room_of size) path place many fresh [])
  pub shape : levels ≡ map remade (splice_path (room_of size) path place many fresh (page_numbers pages))
  pub sound : AreAllMade (room_of size) levels
  pub made_is : made ≡ map single_run (page_numbers pages)
  pub left_is : left ≡ map single_run (row_pages (nodes_left (levels_of path)
      (splice_path (room_of size) path place many fresh (page_numbers pages))))
  pub all : length pages ≡ want
  pub written : IsTrue tells → AreAllWritten 1 levels pages
  pub lacked : (q : ℕ) → IsTrue (is_on_pages q (page_numbers pages)) → page_at held q ≡ None
  pub apart : ArePagesApart pages
  pub sized : AreAllOf tells size pages

-- The pages are held besides: `mid` was held, in the same spans as before.
pub record Holds (pages : List FreshPage) (old mid new : Held) : Type 0 where
  pub same : mid.spans ≡ old.spans
  pub pages_are : (q : ℕ) → page_at new q ≡ option_or (fresh_at pages q) (page_at mid q)
  pub begun : (q : ℕ) → begins new q ≡ (is_on_pages q (page_numbers pages) || begins mid q)

pub firsts-made : (made : List PageRun) (pages : List ℕ) → made ≡ map single_run pages → firsts_of made ≡ pages
firsts-made made pages are = ap firsts_of are ∙ firsts pages
  where
    firsts : (pages : List ℕ) → firsts_of (map single_run pages) ≡ pages
    firsts [] = refl
    firsts (page ∷ pages) = ap (λ (ps : List ℕ). page ∷ ps) (firsts pages)

held-old : (pages : List FreshPage) (old mid new : Held) → Holds pages old mid new → (q : ℕ) → page_at new q ≡ option_or (fresh_at pages q)
    (page_at old q)
held-old pages old mid new holds q = holds.pages_are q ∙ ap (option_or (fresh_at pages q)) (page-spans mid old q holds.same)

lacked-old : (pages : List FreshPage) (old mid new : Held) → Holds pages old mid new →
    ((q : ℕ) → IsTrue (is_on_pages q (page_numbers pages)) → page_at mid q ≡ None) →
    (q : ℕ) → IsTrue (is_on_pages q (page_numbers pages)) → page_at old q ≡ None
lacked-old pages old mid new holds lacked q is = sym (page-spans mid old q holds.same) ∙ lacked q is

pub end-told : (tells : Bool) (size : ℕ) (old mid new : Held) (root root' : Root) (from to k count want place many : ℕ) (fresh : List Pair)
    (path : List PathLevel)
    (pages : List FreshPage) (levels : List Remade) (made left : List PageRun) (bytes : ℕ) → IsTrue tells →
    Found size old root from to place many fresh path → IsBetween (entries_of (bytes_on old) root.height root.page) from to k count → from ≤
    to →
    Makes tells size mid path place many want fresh pages levels made left → Holds pages old mid new →
    bytes ≡ root.length - (to - from) + bytes_of fresh → root' ≡ root_with path levels bytes →
    IsSpliced (room_of size) (bytes_on old) (bytes_on new) root root' k count fresh made left
end-told tells size old mid new root root' from to k count want place many fresh path pages levels made left bytes t found between order
    makes holds bytes_are rooted =
    told-spliced size old new root root' from to place many k count want fresh path pages levels made left bytes found between order
    makes.shape makes.all
    makes.wanted (makes.written t) makes.apart (lacked-old pages old mid new holds makes.lacked) (held-old pages old mid new holds)
    makes.made_is makes.left_is
    bytes_are rooted

pub end-held : (tells : Bool) (size : ℕ) (old mid new : Held) (want place many : ℕ) (fresh : List Pair) (path : List PathLevel)
    (pages : List FreshPage) (levels : List Remade) (made left : List PageRun) →
    Makes tells size mid path place many want fresh pages levels made left → Holds pages old mid new → HoldsNew made old new
end-held tells size old mid new want place many fresh path pages levels made left makes holds =
    holds-new pages made old new (firsts-made made (page_numbers pages) makes.made_is)
    (λ q. let few = pages-once pages q makes.apart in
    let same = ap (λ (rs : List PageRun). uses q (map extent_of rs)) makes.made_is in omega (arith, few, same))
    (lacked-old pages old mid new holds makes.lacked)
    (held-old pages old mid new holds)
    (λ q. holds.begun q ∙ ap (λ (b : Bool). is_on_pages q (page_numbers pages) || b) (begins-spans mid old q holds.same))

-- pages at home lie in the spaces
homely-in : (tells : Bool) (frame : Frame) (pages : List FreshPage) → AreHomely tells frame pages → ArePagesIn frame (page_numbers pages)
homely-in tells frame [] home = tt
homely-in tells frame (p ∷ pages) home = ((p.space, home.0), homely-in tells frame pages home.2)

pub end-home : (tells : Bool) (frame : Frame) (made : List PageRun) (pages : List FreshPage) → made ≡ map single_run (page_numbers pages) →
    AreHomely tells frame pages → ArePagesIn frame (firsts_of made)
end-home tells frame made pages are home =
    subst (ArePagesIn frame) (sym (firsts-made made (page_numbers pages) are)) (homely-in tells frame pages home)

pub end-single : (made : List PageRun) (pages : List ℕ) → made ≡ map single_run pages → made ≡ map single_run (firsts_of made)
end-single made pages are = are ∙ ap (map single_run) (sym (firsts-made made pages are))

pub end-kept : (tells : Bool) (size : ℕ) (old mid new : Held) (want place many : ℕ) (fresh : List Pair) (path : List PathLevel)
    (pages : List FreshPage) (levels : List Remade) (made left : List PageRun) (c : KeptNodes) →
    Makes tells size mid path place many want fresh pages levels made left → Holds pages old mid new → KeepsNodes tells size (bytes_on old)
    c →
    KeepsNodes tells size (bytes_on new) c
end-kept tells size old mid new want place many fresh path pages levels made left c makes holds nodes =
    kept-stays tells size (page_numbers pages) old new c
    (pages-come pages old new (lacked-old pages old mid new holds makes.lacked) (held-old pages old mid new holds)) nodes

pub end-stand : (tells : Bool) (size : ℕ) (old mid new : Held) (want place many : ℕ) (fresh : List Pair) (path : List PathLevel)
    (pages : List FreshPage) (levels : List Remade) (made left : List PageRun) →
    Makes tells size mid path place many want fresh pages levels made left → Holds pages old mid new → IsTrue tells → MadeStand
    (bytes_on new) 1 levels
end-stand tells size old mid new want place many fresh path pages levels made left makes holds t =
    stand-new (room_of size) path place many want fresh pages levels old new makes.shape makes.all makes.wanted makes.apart
    (held-old pages old mid new holds) (makes.written t)

pub writes-within : (n m : ℕ) (old mid new : Meter) → n ≡ m → mid.written ≡ old.written → Writes n mid new → WritesAtMost m old new
writes-within n m old mid new same written writes =
    subst (λ (k : ℕ). new.written ≤ max k (counted k m)) written (subst (λ (k : ℕ). new.written ≤ max mid.written (counted mid.written k))
    same writes.most)

pub none-within : (n : ℕ) (old new : Meter) → new.written ≡ old.written → WritesAtMost n old new
none-within n old new same = omega (arith, same)

-- as many pages are made as there are runs of them
pub made-long : (made : List PageRun) (pages : List FreshPage) → made ≡ map single_run (page_numbers pages) → length made ≡ length pages
made-long made pages are =
    ap (λ (runs : List PageRun). length runs) are
    ∙ (length-map (page_numbers pages) single_run ∙ length-map pages (λ (p : FreshPage). p.page))

-- the same of a page size, a way and fresh entries that are the same
pub want-as : (size size' : ℕ) (path path' : List PathLevel) (place many want : ℕ) (fresh fresh' : List Pair) → size' ≡ size → path' ≡ path
    → fresh' ≡ fresh →
    want ≡ count_made (splice_path (room_of size) path place many fresh []) →
    want ≡ count_made (splice_path (room_of size') path' place many fresh' [])
want-as size size' path path' place many want fresh fresh' sizes paths pairs wanted =
    subst (λ (n : ℕ). want ≡ count_made (splice_path (room_of n) path' place many fresh' [])) (sym sizes)
    (subst (λ (p : List PathLevel). want ≡ count_made (splice_path (room_of size) p place many fresh' [])) (sym paths)
    (subst (λ (f : List Pair). want ≡ count_made (splice_path (room_of size) path place many f [])) (sym pairs) wanted))

pub makes-as : (tells : Bool) (size size' : ℕ) (held : Held) (path path' : List PathLevel) (place many want : ℕ) (fresh fresh' : List Pair)
    (pages : List FreshPage) (levels : List Remade) (made left : List PageRun) → size' ≡ size → path' ≡ path → fresh' ≡ fresh →
    Makes tells size' held path' place many want fresh' pages levels made left → Makes tells size held path place many want fresh pages
    levels made left
makes-as tells size size' held path path' place many want fresh fresh' pages levels made left sizes paths pairs makes =
    subst (λ (n : ℕ). Makes tells n held path place many want fresh pages levels made left) sizes
    (subst (λ (p : List PathLevel). Makes tells size' held p place many want fresh pages levels made left) paths
    (subst (λ (f : List Pair). Makes tells size' held path' place many want f pages levels made left) pairs makes))

pub can-as : (size size' : ℕ) (path path' : List PathLevel) (place many : ℕ) (fresh fresh' : List Pair) → size' ≡ size → path' ≡ path →
    fresh' ≡ fresh →
    CanSplice (room_of size) path place many fresh → CanSplice (room_of size') path' place many fresh'
can-as size size' path path' place many fresh fresh' sizes paths pairs can =
    subst (λ (n : ℕ). CanSplice (room_of n) path' place many fresh') (sym sizes)
    (subst (λ (p : List PathLevel). CanSplice (room_of size) p place many fresh') (sym paths)
    (subst (λ (f : List Pair). CanSplice (room_of size) path place many f) (sym pairs) can))
