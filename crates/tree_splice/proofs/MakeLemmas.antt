-- What is made on new pages, while they are written.
use Rattle.std.proofs.Common.{
  ◌≡◌,
  ℕ,
  ◌<◌,
  ◌≤◌,
  max,
  Bool,
  IsTrue,
  List,
  [],
  ◌∷◌,
  length,
  map,
  Option,
  None,
  refl,
  sym,
  ap,
  subst,
  arith,
  ◌∙◌,
}
use Rattle.std.proofs.lemmas.List.Sums.{sum_by-cons}
use Rattle.content_laws.specs.Spelling.{HaveBytes}
use Rattle.change_laws.proofs.NodeCountLemmas.{made-cons}
use Rattle.fault_count.specs.Counts.{Meter, Reads, Writes, counted}
use Rattle.fault_count.proofs.CountLaws.{IsUsed-then, Reads-nothing}
use Rattle.geometry_model.specs.Numbers.{is_page_size}
use Rattle.geometry_model.proofs.NumberLaws.{page_size-low}
use Rattle.layout_model.specs.Levels.{NewLevel, count_made}
use Rattle.local_laws.specs.Path.{PathLevel, splice_path}
use Rattle.superdirectory.specs.Rest.{Frame}
use Rattle.tree_model.specs.declared.entry.Pair.{Pair}
use Rattle.tree_model.specs.Node.{room_of}
use Rattle.tree_splice.specs.Fresh.{FreshPage, AreAllOf, AreHomely, AreSamePages, is_on_pages, page_numbers}
use Rattle.tree_splice.specs.Remade.{remade}
use Rattle.tree_splice.specs.Way.{AreAllMade, AreSound, made_count}
use Rattle.tree_splice.specs.declared.remade.Remade.{Remade}
use Rattle.tree_splice.proofs.FreshLemmas.{numbers-same}
use Rattle.tree_splice.proofs.NewLemmas.{path-made}
use Rattle.tree_splice.proofs.PathLemmas.{path-alike}

-- pages in their spaces have the spaces' size
pub homely-sized : (tells : Bool) (frame : Frame) (size : ℕ) (pages : List FreshPage) → frame.page ≡ size → AreHomely tells frame pages →
    AreAllOf tells size pages
homely-sized tells frame size [] same home = λ t. tt
homely-sized tells frame size (p ∷ pages) same home = λ t.
    let one : 0 < 1 = omega arith in
    (home.1 t 0 [] one ∙ same, homely-sized tells frame size pages same home.2 t)

pub fan-four : (size : ℕ) → IsTrue (is_page_size size) → 4 ≤ room_of size
fan-four size is = let low = page_size-low size is in omega (arith, low)

-- how many nodes are made
pub count-remade : (new : List NewLevel) → made_count (map remade new) ≡ count_made new
count-remade [] = refl
count-remade (level ∷ new) =
    let one = sum_by-cons (λ (l : Remade). length l.made) (remade level) (map remade new) in
    let two = made-cons level new in
    let rest = count-remade new in
    omega (arith, one, two, rest)

pub count-wanted : (f : ℕ) (path : List PathLevel) (from count want : ℕ) (fresh : List Pair) (pages : List ℕ) (made : List Remade) →
    want ≡ count_made (splice_path f path from count fresh []) → made ≡ map remade (splice_path f path from count fresh pages) →
    made_count made ≡ want
count-wanted f path from count want fresh pages made wanted are =
    ap made_count are ∙ (count-remade (splice_path f path from count fresh pages)
    ∙ (path-alike f path from count fresh pages [] ∙ sym wanted))

pub all-made : (size : ℕ) (path : List PathLevel) (from count : ℕ) (fresh : List Pair) (pages : List ℕ) (made : List Remade) → IsTrue
    (is_page_size size) →
    AreSound path → HaveBytes fresh → made ≡ map remade (splice_path (room_of size) path from count fresh pages) → AreAllMade
    (room_of size) made
all-made size path from count fresh pages made is sound some are =
    subst (AreAllMade (room_of size)) (sym are)
    (path-made (room_of size) path from count fresh pages (fan-four size is) sound some)

-- pages that hold something else are still the same ones
pub lacked-same : (held : ℕ → Option (List ℕ)) (old new : List FreshPage) → AreSamePages old new →
    ((q : ℕ) → IsTrue (is_on_pages q (page_numbers old)) → held q ≡ None) →
    (q : ℕ) → IsTrue (is_on_pages q (page_numbers new)) → held q ≡ None
lacked-same held old new same lacked q is = lacked q (ap (is_on_pages q) (sym (numbers-same old new same)) ∙ is)

-- nothing was read or written before
pub reads-writes : (n m : ℕ) (old mid new : Meter) → n ≡ m → Reads 0 old mid → Writes n mid new → Writes m old new
reads-writes n m old mid new same first second =
    let most = second.most in
    let written = first.written in
    record {
      used = IsUsed-then old mid new first.used second.used;
      read = second.read ∙ Reads-nothing old mid first;
      most = subst (λ (k : ℕ). new.written ≤ max k (counted k m)) written
          (subst (λ (k : ℕ). new.written ≤ max mid.written (counted mid.written k)) same most);
    }
