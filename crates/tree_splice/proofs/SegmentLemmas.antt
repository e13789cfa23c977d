-- Segments of one page each, as pages in a list.
use Rattle.std.proofs.Common.{◌≡◌, ℕ, zero, suc, ◌-◌, ◌<◌, Bool, false, List, [], ◌∷◌, ◌++◌, length, map, set, drop, get_or}
use Rattle.std.proofs.Common.{Some, None, refl, sym, ap, subst, arith, ◌∙◌}
use Rattle.std.specs.Prelude.{Ok, Err}
use Rattle.std.specs.List.{AllByRecursion}
use Rattle.std.proofs.lemmas.List.{append-nil, drop_all, length-map, map-append, map-set}
use Rattle.std.proofs.Math.Seq.{drop-append_seam}
use Rattle.page_port.specs.Pages.{AreOf, IsSized, run_bytes}
use Rattle.space_directory.proofs.HeldLaws.{one_page}
use Rattle.space_directory.specs.SpaceView.{SpaceView, after_give}
use Rattle.superdirectory.specs.Grants.{AreTold, AreRunsIn, IsGivenAll, IsRunIn, IsSegmentIn, IsChanged}
use Rattle.superdirectory.specs.Rest.{Frame, Rest, count}
use Rattle.superdirectory.proofs.Halves.{Grants, runs_append, taken_length}
use Rattle.tree_read.proofs.LevelLemmas.{AllByRecursion-at}
use Rattle.tree_splice.specs.Fresh.{
  FreshPage,
  AreAllOf,
  ArePagesApart,
  AreGiven,
  AreHomely,
  ArePagesAsked,
  IsPageWritten,
  fresh_at,
  fresh_page,
  is_on_pages,
  no_fresh_page,
  page_numbers,
}
use Rattle.tree_splice.specs.declared.failure.SpliceFail.TheVariants.{Memory}
use Rattle.tree_splice.proofs.FreshLemmas.{apart-more, fresh-none, one-sized}
use Rattle.tree_splice.proofs.TakenLemmas.{asked-one, given-whole}

-- ---- what is said of the segments and of the pages

pub numbers-view : {X : Type 0} (space start : X → ℕ) (contents : X → List (List ℕ)) (xs : List X) →
    page_numbers (map (fresh_page space start contents) xs) ≡ map start xs
numbers-view space start contents [] = refl
numbers-view space start contents (x ∷ xs) = ap (λ (ns : List ℕ). start x ∷ ns) (numbers-view space start contents xs)

pub runs-in : {X : Type 0} (space start : X → ℕ) (contents : X → List (List ℕ)) (tells : Bool) (frame : Frame) (xs : List X) →
    AllByRecursion (λ x. length (contents x) ≡ 1) xs → AreHomely tells frame (map (fresh_page space start contents) xs) →
    AreRunsIn space start contents tells frame xs
runs-in space start contents tells frame [] single home = tt
runs-in space start contents tells frame (x ∷ xs) single home =
    let one = sym (one_page (contents x) single.0) in
    let here = subst (λ (ps : List (List ℕ)). IsRunIn frame (space x) (start x) (length ps) × IsSized tells frame.page ps) one
    (home.0, home.1) in
    (here.0, here.1, runs-in space start contents tells frame xs single.1 home.2)

pub given-pages : {X : Type 0} (space start : X → ℕ) (contents : X → List (List ℕ)) (views : List SpaceView) (xs : List X)
    (after : List SpaceView) →
    AllByRecursion (λ x. length (contents x) ≡ 1) xs → IsGivenAll space start contents views xs after →
    AreGiven views (map (fresh_page space start contents) xs) after
given-pages space start contents views [] after single given = given
given-pages space start contents views (x ∷ xs) after single (between, rest, (v, here, is)) = (
  between,
  given-pages space start contents views xs between single.1 rest,
  (v, here, is ∙ ap (λ (ps : List (List ℕ)). set between (space x) (after_give v (start x - v.first) ps)) (one_page (contents x) single.0)),
)

-- a segment of one page lies in its space
pub homely-one : {X : Type 0} (space start : X → ℕ) (contents : X → List (List ℕ)) (tells : Bool) (frame : Frame) (x : X) →
    IsSegmentIn frame 1 (space x) (start x) (contents x) tells → AreHomely tells frame (fresh_page space start contents x ∷ [])
homely-one space start contents tells frame x segment = (
  record { named = segment.named; some = omega arith; from = segment.from; to = segment.to },
  subst (IsSized tells frame.page) (one_page (contents x) segment.count) segment.sized,
  tt,
)

-- ---- one page more

-- the pages that stand for the segments, with one more
pub view-more : {X : Type 0} (space start : X → ℕ) (contents : X → List (List ℕ)) (xs has : List X) (x : X) (pages : List FreshPage) →
    map (fresh_page space start contents) xs ≡ pages → has ≡ xs ++ x ∷ [] →
    map (fresh_page space start contents) has ≡ pages ++ fresh_page space start contents x ∷ []
view-more space start contents xs has x pages view added =
    ap (map (fresh_page space start contents)) added
    ∙ (map-append (fresh_page space start contents) xs (x ∷ []) ∙ ap (λ (ps : List FreshPage). ps ++ fresh_page space start contents x ∷ [])
    view)

pub homely-more : (tells : Bool) (frame : Frame) (pages all : List FreshPage) (p : FreshPage) → all ≡ pages ++ p ∷ [] → AreHomely tells
    frame pages →
    AreHomely tells frame (p ∷ []) → AreHomely tells frame all
homely-more tells frame pages all p added home one =
    subst (AreHomely tells frame) (sym added)
    (runs_append (λ (q : FreshPage). q.space) (λ (q : FreshPage). q.page) (λ (q : FreshPage). q.bytes ∷ []) tells frame pages (p ∷ []) home
    one)

pub apart-added : (pages all : List FreshPage) (p : FreshPage) → all ≡ pages ++ p ∷ [] → ArePagesApart pages →
    fresh_at pages p.page ≡ None →
    ArePagesApart all
apart-added pages all p added apart none = subst ArePagesApart (sym added) (apart-more pages p apart none)

-- the page isn't one of those before it
pub not-known : (pages : List FreshPage) (numbers : List ℕ) (page : ℕ) → numbers ≡ page_numbers pages →
    is_on_pages page numbers ≡ false → fresh_at
    pages page ≡ None
not-known pages numbers page same out = fresh-none pages page (ap (is_on_pages page) (sym same) ∙ out)

drop-added : (pages all : List FreshPage) (p : FreshPage) → all ≡ pages ++ p ∷ [] → drop (length pages) all ≡ p ∷ []
drop-added pages all p added = ap (drop (length pages)) added ∙ drop-append_seam pages (p ∷ [])

pub grants-one : {X : Type 0} (space start : X → ℕ) (contents : X → List (List ℕ)) (old new : Rest) (frame : Frame) (from : ℕ) (x : X) →
    length (contents x) ≡ 1 → Grants old frame from 1 (Some (space x, (start x, contents x))) new →
    Grants old frame from 1 (Some (space x, (start x, (fresh_page space start contents x).bytes ∷ []))) new
grants-one space start contents old new frame from x one exact =
    subst (λ (ps : List (List ℕ)). Grants old frame from 1 (Some (space x, (start x, ps))) new) (one_page (contents x) one) exact

pub asked-page : {X : Type 0} (space start : X → ℕ) (contents : X → List (List ℕ)) (tells : Bool) (views : List SpaceView) (frame : Frame)
    (from : ℕ)
    (old new : Rest) (x : X) → AreTold old views → length views ≡ length frame.firsts → IsSegmentIn frame 1 (space x) (start x) (contents x)
    tells →
    Grants old frame from 1 (Some (space x, (start x, contents x))) new →
    ArePagesAsked views from 1 frame (fresh_page space start contents x ∷ []) (Ok tt) new
asked-page space start contents tells views frame from old new x told same segment exact =
    asked-one tells views from frame old new (fresh_page space start contents x) told same
    (subst (λ (ps : List (List ℕ)). IsSegmentIn frame 1 (space x) (start x) ps tells) (one_page (contents x) segment.count) segment)
    (grants-one space start contents old new frame from x segment.count exact)

pub asked-added : (views : List SpaceView) (frame : Frame) (from : ℕ) (pages all : List FreshPage) (p : FreshPage) (rest : Rest) → all ≡
    pages ++ p ∷ [] →
    ArePagesAsked views from 1 frame (p ∷ []) (Ok tt) rest → ArePagesAsked views from 1 frame (drop (length pages) all) (Ok tt) rest
asked-added views frame from pages all p rest added asked =
    subst (λ (ps : List FreshPage). ArePagesAsked views from 1 frame ps (Ok tt) rest) (sym (drop-added pages all p added)) asked

-- a page that was granted and released leaves the very same spaces
pub asked-back : {X : Type 0} (space start : X → ℕ) (contents : X → List (List ℕ)) (tells : Bool) (views : List SpaceView) (frame : Frame)
    (from : ℕ)
    (pages : List FreshPage) (old mid new : Rest) (x : X) → mid.frame ≡ frame → AreTold old views → length views ≡ length frame.firsts →
    IsSegmentIn frame 1 (space x) (start x) (contents x) tells → Grants old frame from 1 (Some (space x, (start x, contents x))) mid →
    ((vs : List SpaceView) → AreTold mid vs → length vs ≡ count mid → IsChanged vs (space x)
    (λ v. after_give v (start x - v.first) (contents x)) new) →
    ArePagesAsked views from 1 frame (drop (length pages) pages) (Err Memory) new
asked-back space start contents tells views frame from pages old mid new x framed told same segment exact released =
    let p = fresh_page space start contents x in
    let asked = asked-page space start contents tells views frame from old mid x told same segment exact in
    let long = taken_length (λ (q : FreshPage). q.space) (λ (q : FreshPage). q.page) (λ (q : FreshPage). q.bytes ∷ []) views (p ∷ [])
    asked.after asked.taken in
    let firsts : count mid ≡ length frame.firsts = ap (λ (f : Frame). length f.firsts) framed in
    let back = released asked.after asked.told (long ∙ (same ∙ sym firsts)) in
    let last = set asked.after (space x) (after_give back.was (start x - back.was.first) (contents x)) in
    let given : AreGiven asked.after (p ∷ []) last = (
      asked.after,
      refl,
      (
        back.was,
        back.here,
        ap (λ (ps : List (List ℕ)). set asked.after (space x) (after_give back.was (start x - back.was.first) ps))
            (one_page (contents x) segment.count),
      ),
    ) in
    let whole : last ≡ views = given-whole tells frame views asked.after last (p ∷ [])
    (homely-one space start contents tells frame x segment) asked.taken given in
    let none : drop (length pages) pages ≡ [] = drop_all (length pages) pages (omega arith) in
    subst (λ (ps : List FreshPage). ArePagesAsked views from 1 frame ps (Err Memory) new) (sym none)
    (record { after = views; taken = refl; told = subst (AreTold new) whole back.now; answer = λ numbers laid. tt })

-- ---- a page is written

pub single-at : {X : Type 0} (contents : X → List (List ℕ)) (xs : List X) (i : ℕ) (x : X) → i < length xs → x ≡ get_or xs i x →
    AllByRecursion (λ y. length (contents y) ≡ 1) xs → length (contents x) ≡ 1
single-at contents xs i x inside is single = ap (λ y. length (contents y)) is ∙ AllByRecursion-at (λ y. length (contents y) ≡ 1) xs i x
    inside single

pub all-set : {X : Type 0} (P : X → Type 0) (xs : List X) (i : ℕ) (y : X) → AllByRecursion P xs → P y → AllByRecursion P (set xs i y)
all-set P [] i y all here = tt
all-set P (x ∷ xs) zero y all here = (here, all.1)
all-set P (x ∷ xs) (suc i) y all here = (all.0, all-set P xs i y all.1 here)

view-at : {X : Type 0} (space start : X → ℕ) (contents : X → List (List ℕ)) (xs : List X) (i : ℕ) (x : X) → i < length xs → x ≡ get_or xs i
    x →
    get_or (map (fresh_page space start contents) xs) i no_fresh_page ≡ fresh_page space start contents x
view-at space start contents [] i x inside is = absurd (omega (arith, inside))
view-at space start contents (y ∷ xs) zero x inside is = ap (fresh_page space start contents) (sym is)
view-at space start contents (y ∷ xs) (suc i) x inside is =
    let less : suc i < suc (length xs) = inside in
    view-at space start contents xs i x (omega (arith, less)) is

view-set : {X : Type 0} (space start : X → ℕ) (contents : X → List (List ℕ)) (xs : List X) (i : ℕ) (y : X) → i < length xs →
    get_or (map (fresh_page space start contents) (set xs i y)) i no_fresh_page ≡ fresh_page space start contents y
view-set space start contents [] i y inside = absurd (omega (arith, inside))
view-set space start contents (x ∷ xs) zero y inside = refl
view-set space start contents (x ∷ xs) (suc i) y inside =
    let less : suc i < suc (length xs) = inside in
    view-set space start contents xs i y (omega (arith, less))

pub starts-set : {X : Type 0} (start : X → ℕ) (xs : List X) (i : ℕ) (x y : X) → x ≡ get_or xs i x → start y ≡ start x → map start
    (set xs i y) ≡ map start xs
starts-set start [] i x y is same = refl
starts-set start (z ∷ xs) zero x y is same = ap (λ (n : ℕ). n ∷ map start xs) (same ∙ ap start is)
starts-set start (z ∷ xs) (suc i) x y is same = ap (λ (ns : List ℕ). start z ∷ ns) (starts-set start xs i x y is same)

pub written-view : {X : Type 0} (space start : X → ℕ) (contents : X → List (List ℕ)) (xs : List X) (i : ℕ) (x y : X)
    (pages : List FreshPage) →
    map (fresh_page space start contents) xs ≡ pages → i < length xs → x ≡ get_or xs i x → space y ≡ space x → start y ≡ start x →
    IsPageWritten i pages (map (fresh_page space start contents) (set xs i y))
written-view space start contents xs i x y pages view inside is spaced begun =
    subst (λ (ps : List FreshPage). IsPageWritten i ps (map (fresh_page space start contents) (set xs i y))) view
    (record {
      bytes = (fresh_page space start contents y).bytes;
      now = map-set (fresh_page space start contents) xs i y
          ∙ ap (set (map (fresh_page space start contents) xs) i)
          (ap (λ (n : ℕ). record { space = n; page = start y; bytes = (fresh_page space start contents y).bytes }) spaced
          ∙ (ap (λ (n : ℕ). record { space = space x; page = n; bytes = (fresh_page space start contents y).bytes }) begun
          ∙ ap (λ (p : FreshPage). record p { bytes = (fresh_page space start contents y).bytes })
          (sym (view-at space start contents xs i x inside is))));
    })

pub written-bytes : {X : Type 0} (space start : X → ℕ) (contents : X → List (List ℕ)) (xs : List X) (i n : ℕ) (y : X) (bytes : List ℕ) → i <
    length xs →
    length (contents y) ≡ 1 → n ≡ 1 → run_bytes 0 n (contents y) ≡ bytes →
    (get_or (map (fresh_page space start contents) (set xs i y)) i no_fresh_page).bytes ≡ bytes
written-bytes space start contents xs i n y bytes inside one many is =
    ap (λ (p : FreshPage). p.bytes) (view-set space start contents xs i y inside)
    ∙ (sym (append-nil (fresh_page space start contents y).bytes)
    ∙ (ap (run_bytes 0 1) (sym (one_page (contents y) one)) ∙ (ap (λ (k : ℕ). run_bytes 0 k (contents y)) (sym many) ∙ is)))

pub written-sized : {X : Type 0} (space start : X → ℕ) (contents : X → List (List ℕ)) (tells : Bool) (size : ℕ) (xs : List X) (i : ℕ)
    (y : X)
    (pages : List FreshPage) → map (fresh_page space start contents) xs ≡ pages → AreAllOf tells size pages → length (contents y) ≡ 1 →
    IsSized tells size (contents y) → AreAllOf tells size (map (fresh_page space start contents) (set xs i y))
written-sized space start contents tells size xs i y pages view old one sized = λ t.
    let all = subst (AllByRecursion (λ (p : FreshPage). length p.bytes ≡ size)) (sym view) (old t) in
    let here : length (fresh_page space start contents y).bytes ≡ size = sized t 0 [] (omega (arith, one)) in
    subst (AllByRecursion (λ (p : FreshPage). length p.bytes ≡ size)) (sym (map-set (fresh_page space start contents) xs i y))
    (all-set (λ (p : FreshPage). length p.bytes ≡ size) (map (fresh_page space start contents) xs) i (fresh_page space start contents y) all
    here)

-- what the pages of a segment hold
pub sized-at : {X : Type 0} (space start : X → ℕ) (contents : X → List (List ℕ)) (tells : Bool) (size : ℕ) (xs : List X) (i : ℕ) (x : X)
    (pages : List FreshPage) → map (fresh_page space start contents) xs ≡ pages → AreAllOf tells size pages → i < length xs → x ≡ get_or xs
    i x →
    length (contents x) ≡ 1 → IsSized tells size (contents x)
sized-at space start contents tells size xs i x pages view all inside is one = λ t.
    let each = subst (AllByRecursion (λ (p : FreshPage). length p.bytes ≡ size)) (sym view) (all t) in
    let long = length-map xs (fresh_page space start contents) in
    let here : length (fresh_page space start contents x).bytes ≡ size =
    ap (λ (p : FreshPage). length p.bytes) (sym (view-at space start contents xs i x inside is))
    ∙ AllByRecursion-at (λ (p : FreshPage). length p.bytes ≡ size) (map (fresh_page space start contents) xs) i no_fresh_page
    (omega (arith, inside, long)) each in
    subst (AreOf size) (sym (one_page (contents x) one)) (one-sized size (fresh_page space start contents x).bytes here)

-- a place in the list is one among the segments
pub inside-view : {X : Type 0} (space start : X → ℕ) (contents : X → List (List ℕ)) (xs : List X) (pages : List FreshPage) (i : ℕ) →
    map (fresh_page space start contents) xs ≡ pages → i < length pages → i < length xs
inside-view space start contents xs pages i view inside =
    let long = length-map xs (fresh_page space start contents) in
    let same = ap length view in
    omega (arith, long, same, inside)
