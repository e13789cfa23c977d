-- Pages in a list: which are in it, what they hold, and what becomes of them when one is written.
use Rattle.std.proofs.Common.{
  ◌≡◌,
  ℕ,
  zero,
  suc,
  ◌+◌,
  ◌-◌,
  ◌<◌,
  ◌≤◌,
  ◌==◌,
  ◌||◌,
  Bool,
  true,
  false,
  cond,
  List,
  [],
  ◌∷◌,
  ◌++◌,
  length,
  map,
  set,
  take,
  drop,
  get_or,
}
use Rattle.std.proofs.Common.{Option, Some, None, IsTrue, refl, sym, ap, subst, arith, ◌∙◌, inl, inr}
use Rattle.std.specs.Prelude.{slice_index_or, is_some, unwrap_or}
use Rattle.std.specs.List.{AllByRecursion, flat_map}
use Rattle.std.specs.Option.{option_or}
use Rattle.std.proofs.lemmas.Bool.{cases_Bool, cases_lt, eq-eqb, eqb-true, false≢true}
use Rattle.std.proofs.lemmas.List.Sums.{sum_by-cons}
use Rattle.std.proofs.lemmas.List.{drop-map, drop-take, length-map, map-append, set-get_or, take-take}
use Rattle.std.proofs.lemmas.List.Concat.{flat_map-cons}
use Rattle.std.proofs.Math.Seq.{drop-append_seam, map-set, take-append_seam}
use Rattle.base_laws.proofs.ListLaws.{all-map}
use Rattle.base_laws.proofs.OptionLaws.{none-unless}
use Rattle.change_laws.proofs.SizeLemmas.{all-drop}
use Rattle.std.proofs.lemmas.List.Elements.{All-cons, All-nil}
use Rattle.layout_model.specs.Levels.{PageNode}
use Rattle.page_port.specs.Pages.{AreOf}
use Rattle.page_set.specs.declared.page_run.PageRun.{PageRun}
use Rattle.span_store.specs.Held.{HeldSpan, Held, page_of, page_in, page_at, bytes_in, begins_in, begins}
use Rattle.span_store.proofs.SpanLists.{has_page, page_of-inside}
use Rattle.superdirectory.specs.Rest.{Frame}
use Rattle.superdirectory.specs.Grants.{IsRunIn}
use Rattle.tree_model.specs.Node.{NodeBytes}
use Rattle.tree_model.specs.Tree.{Pages}
use Rattle.tree_splice.specs.Fresh.{
  FreshPage,
  AreAllOf,
  AreAllWritten,
  ArePagesApart,
  AreHomely,
  AreSamePages,
  AreNodesWritten,
  IsPageWritten,
  emptied,
  fresh_at,
  is_on_pages,
  no_fresh_page,
  page_numbers,
}
use Rattle.tree_splice.specs.Remade.{row_pages}
use Rattle.tree_splice.specs.Splice.{HoldsNew, extent_of, firsts_of, single_run}
use Rattle.layout_model.specs.declared.extent.Extent.{Extent}
use Rattle.moment_model.specs.Version.{covers, uses}
use Rattle.moment_laws.proofs.GrantLemmas.{covers-cases}
use Rattle.tree_splice.specs.Way.{MadeStand}
use Rattle.tree_splice.specs.declared.remade.Remade.{Remade}

-- the nodes that are made on these levels
abbrev pub made_of : List Remade → List PageNode
made_of levels = flat_map (λ level. level.made) levels

-- ---- a list of one page

pub one-sized : (size : ℕ) (bytes : List ℕ) → length bytes ≡ size → AreOf size (bytes ∷ [])
one-sized size bytes is = All-cons (λ (page : List ℕ). length page ≡ size) bytes [] is (All-nil (λ (page : List ℕ). length page ≡ size))

-- ---- which pages are in a list

pub fresh-none : (pages : List FreshPage) (q : ℕ) → is_on_pages q (page_numbers pages) ≡ false → fresh_at pages q ≡ None
fresh-none [] q out = refl
fresh-none (p ∷ pages) q out = elim (cases_Bool (p.page == q)) [
  | inl is_so ↦ (let bad : is_on_pages q (page_numbers (p ∷ pages)) ≡ true = rw is_so refl in cc)
  | inr not_so ↦
      (let rest : is_on_pages q (page_numbers pages) ≡ false = (let e : is_on_pages q (page_numbers (p ∷ pages)) ≡ is_on_pages q
      (page_numbers pages) = rw not_so
      refl in sym e ∙ out) in
      let here : fresh_at (p ∷ pages) q ≡ fresh_at pages q = rw (not_so, fresh_at) refl in
      here ∙ fresh-none pages q rest)
]

pub fresh-some : (pages : List FreshPage) (q : ℕ) → is_on_pages q (page_numbers pages) ≡ true → is_some (fresh_at pages q) ≡ true
fresh-some [] q in_it = cc
fresh-some (p ∷ pages) q in_it = elim (cases_Bool (p.page == q)) [
  | inl is_so ↦ (let here : fresh_at (p ∷ pages) q ≡ Some p.bytes = rw (is_so, fresh_at) refl in ap is_some here)
  | inr not_so ↦
      (let rest : is_on_pages q (page_numbers pages) ≡ true = (let e : is_on_pages q (page_numbers (p ∷ pages)) ≡ is_on_pages q
      (page_numbers pages) = rw not_so
      refl in sym e ∙ in_it) in
      let here : fresh_at (p ∷ pages) q ≡ fresh_at pages q = rw (not_so, fresh_at) refl in
      ap is_some here ∙ fresh-some pages q rest)
]

pub none-fresh : (pages : List FreshPage) (q : ℕ) → fresh_at pages q ≡ None → is_on_pages q (page_numbers pages) ≡ false
none-fresh pages q none = elim (cases_Bool (is_on_pages q (page_numbers pages))) [
  | inl is_so ↦ (let some = fresh-some pages q is_so in let bad = sym (ap is_some none) ∙ some in cc)
  | inr not_so ↦ not_so
]

-- one page more at the end
pub fresh-more : (pages : List FreshPage) (p : FreshPage) (q : ℕ) → fresh_at (pages ++ p ∷ []) q ≡ option_or (fresh_at pages q)
    (fresh_at (p ∷ []) q)
fresh-more [] p q = refl
fresh-more (x ∷ pages) p q = elim (cases_Bool (x.page == q)) [
  | inl is_so ↦
      (let one : fresh_at (x ∷ (pages ++ p ∷ [])) q ≡ Some x.bytes = rw (is_so, fresh_at) refl in
      let two : fresh_at (x ∷ pages) q ≡ Some x.bytes = rw (is_so, fresh_at) refl in
      one ∙ sym (ap (λ o. option_or o (fresh_at (p ∷ []) q)) two))
  | inr not_so ↦
      (let one : fresh_at (x ∷ (pages ++ p ∷ [])) q ≡ fresh_at (pages ++ p ∷ []) q = rw (not_so, fresh_at) refl in
      let two : fresh_at (x ∷ pages) q ≡ fresh_at pages q = rw (not_so, fresh_at) refl in
      one ∙ (fresh-more pages p q ∙ sym (ap (λ o. option_or o (fresh_at (p ∷ []) q)) two)))
]

other-page : (x p : FreshPage) → (x.page == p.page) ≡ false → (p.page == x.page) ≡ false
other-page x p other = elim (cases_Bool (p.page == x.page)) [
  | inl is_so ↦ (let same : p.page ≡ x.page = eqb-true p.page x.page is_so in let bad : (x.page == p.page) ≡ true = eq-eqb x.page p.page
      (sym same) in cc)
  | inr not_so ↦ not_so
]

pub apart-more : (pages : List FreshPage) (p : FreshPage) → ArePagesApart pages → fresh_at pages p.page ≡ None →
    ArePagesApart (pages ++ p ∷ [])
apart-more [] p apart none = (refl, tt)
apart-more (x ∷ pages) p apart none = elim (cases_Bool (x.page == p.page)) [
  | inl is_so ↦ (let here : fresh_at (x ∷ pages) p.page ≡ Some x.bytes = rw (is_so, fresh_at) refl in let bad = sym here ∙ none in cc)
  | inr not_so ↦
      (let rest : fresh_at pages p.page ≡ None = (let here : fresh_at (x ∷ pages) p.page ≡ fresh_at pages p.page = rw (not_so, fresh_at)
      refl in sym here ∙ none) in
      let other : fresh_at (p ∷ []) x.page ≡ None = rw (other-page x p not_so, fresh_at) refl in
      let mine : fresh_at (pages ++ p ∷ []) x.page ≡ None =
      fresh-more pages p x.page ∙ (ap (λ o. option_or o (fresh_at (p ∷ []) x.page)) apart.0 ∙ other) in
      (mine, apart-more pages p apart.1 rest))
]

pub in-more : (pages : List FreshPage) (p : FreshPage) (q : ℕ) → is_on_pages q (page_numbers (pages ++ p ∷ [])) ≡
    (is_on_pages q (page_numbers pages) || (p.page == q))
in-more [] p q = elim (cases_Bool (p.page == q)) [ inl is_so ↦ rw is_so refl | inr not_so ↦ rw not_so refl ]
in-more (x ∷ pages) p q = elim (cases_Bool (x.page == q)) [
  | inl is_so ↦ rw is_so refl
  | inr not_so ↦
      (let one : is_on_pages q (page_numbers (x ∷ (pages ++ p ∷ []))) ≡ is_on_pages q (page_numbers (pages ++ p ∷ [])) = rw not_so refl in
      let two : is_on_pages q (page_numbers (x ∷ pages)) ≡ is_on_pages q (page_numbers pages) = rw not_so refl in
      one ∙ (in-more pages p q ∙ sym (ap (λ b. b || (p.page == q)) two)))
]

-- ---- a page is written

pub homely-same : (tells : Bool) (frame : Frame) (size : ℕ) (old new : List FreshPage) → frame.page ≡ size → AreSamePages old new → AreAllOf
    tells size new →
    AreHomely tells frame old → AreHomely tells frame new
homely-same tells frame size [] [] paged same sized home = tt
homely-same tells frame size [] (n ∷ new) paged same sized home = cc
homely-same tells frame size (o ∷ old) [] paged same sized home = cc
homely-same tells frame size (o ∷ old) (n ∷ new) paged same sized home =
    let first : emptied n ≡ emptied o = cc in
    let others : map emptied new ≡ map emptied old = cc in
    let space : n.space ≡ o.space = ap (λ (p : FreshPage). p.space) first in
    let page : n.page ≡ o.page = ap (λ (p : FreshPage). p.page) first in
    let run : IsRunIn frame n.space n.page 1 = subst (λ (k : ℕ). IsRunIn frame n.space k 1) (sym page)
    (subst (λ (k : ℕ). IsRunIn frame k o.page 1) (sym space) home.0) in (
      run,
      (λ t. one-sized frame.page n.bytes ((sized t).0 ∙ sym paged)),
      homely-same tells frame size old new paged others
          (λ t. (sized t).1) home.2,
    )

pub numbers-same : (old new : List FreshPage) → AreSamePages old new → page_numbers new ≡ page_numbers old
numbers-same [] [] same = refl
numbers-same [] (n ∷ new) same = cc
numbers-same (o ∷ old) [] same = cc
numbers-same (o ∷ old) (n ∷ new) same =
    let first : emptied n ≡ emptied o = cc in
    let others : map emptied new ≡ map emptied old = cc in
    ap (λ (k : ℕ). k ∷ page_numbers new) (ap (λ (p : FreshPage). p.page) first)
    ∙ ap (λ (ks : List ℕ). o.page ∷ ks) (numbers-same old new others)

-- which page is asked for says nothing of what it holds
pub apart-same : (old new : List FreshPage) → page_numbers new ≡ page_numbers old → ArePagesApart old → ArePagesApart new
apart-same [] [] same apart = tt
apart-same [] (n ∷ new) same apart = cc
apart-same (o ∷ old) [] same apart = cc
apart-same (o ∷ old) (n ∷ new) same apart =
    let page : n.page ≡ o.page = cc in
    let others : page_numbers new ≡ page_numbers old = cc in
    let out : is_on_pages o.page (page_numbers new) ≡ false = ap (is_on_pages o.page) others ∙ none-fresh old o.page apart.0 in
    (ap (fresh_at new) page ∙ fresh-none new o.page out, apart-same old new others apart.1)

pub written-same : (index : ℕ) (old new : List FreshPage) → IsPageWritten index old new → AreSamePages old new
written-same index old new written =
    let p = slice_index_or old index no_fresh_page in
    ap (map emptied) written.now
    ∙ (map-set emptied old index (record p { bytes = written.bytes })
    ∙ (sym (map-set emptied old index p) ∙ ap (map emptied) (set-get_or old index no_fresh_page)))

-- ---- nodes that were written

pub written-more : (k i : ℕ) (done : List PageNode) (old : List FreshPage) (p : FreshPage) (node : PageNode) → length done ≡ i → i < length
    old →
    NodeBytes p.bytes k node.pairs → AreNodesWritten k done old → AreNodesWritten k (done ++ node ∷ []) (set old i p)
written-more k zero [] [] p node long inside stands all = absurd (omega (arith, inside))
written-more k (suc i) [] old p node long inside stands all = absurd (omega (arith, long))
written-more k zero [] (o ∷ old) p node long inside stands all = (stands, tt)
written-more k zero (d ∷ done) old p node long inside stands all = absurd (omega (arith, long))
written-more k (suc i) (d ∷ done) [] p node long inside stands all = absurd (omega (arith, inside))
written-more k (suc i) (d ∷ done) (o ∷ old) p node long inside stands all =
    let shorter : suc (length done) ≡ suc i = long in
    let less : suc i < suc (length old) = inside in
    (all.0, written-more k i done old p node (omega (arith, shorter)) (omega (arith, less)) stands all.1)

pub written-front : (k : ℕ) (nodes : List PageNode) (old new : List FreshPage) → take (length nodes) new ≡ take (length nodes) old →
    AreNodesWritten k nodes old → AreNodesWritten k nodes new
written-front k [] old new same all = tt
written-front k (node ∷ nodes) [] new same all = absurd all
written-front k (node ∷ nodes) (o ∷ old) [] same all = cc
written-front k (node ∷ nodes) (o ∷ old) (n ∷ new) same all =
    let first : n ≡ o = cc in
    let others : take (length nodes) new ≡ take (length nodes) old = cc in
    (subst (λ (p : FreshPage). NodeBytes p.bytes k node.pairs) (sym first) all.0, written-front k nodes old new others all.1)

pub drop-drop-same : (at n : ℕ) (old new : List FreshPage) → take (at + n) new ≡ take (at + n) old → take n (drop at new) ≡ take n
    (drop at old)
drop-drop-same at n old new same = sym (drop-take at n new) ∙ (ap (drop at) same ∙ drop-take at n old)

pub take-fewer : (at n : ℕ) (old new : List FreshPage) → take (at + n) new ≡ take (at + n) old → take at new ≡ take at old
take-fewer at n old new same =
    sym (take-take at (at + n) new (omega arith)) ∙ (ap (take at) same ∙ take-take at (at + n) old (omega arith))

-- ---- what is held of them

-- what the pages hold is on their pages
abbrev pub AreOn : Pages → List FreshPage → Type 0
AreOn at pages = AllByRecursion (λ p. at p.page ≡ p.bytes) pages

nodes-on : (at : Pages) (k : ℕ) (nodes : List PageNode) (pages : List FreshPage) →
    row_pages nodes ≡ take (length nodes) (page_numbers pages)
    →
    AreOn at pages → AreNodesWritten k nodes pages → AllByRecursion (λ node. NodeBytes (at node.page) k node.pairs) nodes
nodes-on at k [] pages rows on all = tt
nodes-on at k (node ∷ nodes) [] rows on all = absurd all
nodes-on at k (node ∷ nodes) (p ∷ pages) rows on all =
    let page : node.page ≡ p.page = cc in
    let others : row_pages nodes ≡ take (length nodes) (page_numbers pages) = cc in
    (subst (λ (bytes : List ℕ). NodeBytes bytes k node.pairs) (sym (ap at page ∙ on.0)) all.0, nodes-on at k nodes pages others on.1 all.1)

rows-of : (level : Remade) (levels : List Remade) → row_pages (made_of (level ∷ levels)) ≡ row_pages level.made ++ row_pages
    (made_of levels)
rows-of level levels = ap row_pages (flat_map-cons (λ (l : Remade). l.made) level levels) ∙ map-append (λ (node : PageNode). node.page)
    level.made (made_of levels)

pub made-stand : (at : Pages) (k : ℕ) (levels : List Remade) (pages : List FreshPage) → row_pages (made_of levels) ≡ page_numbers pages →
    AreOn at pages →
    AreAllWritten k levels pages → MadeStand at k levels
made-stand at k [] pages rows on all = tt
made-stand at k (level ∷ levels) pages rows on all =
    let n = length level.made in
    let both : row_pages level.made ++ row_pages (made_of levels) ≡ page_numbers pages = sym (rows-of level levels) ∙ rows in
    let long : length (row_pages level.made) ≡ n = length-map level.made (λ (node : PageNode). node.page) in
    let here : row_pages level.made ≡ take n (page_numbers pages) =
    sym (take-append_seam (row_pages level.made) (row_pages (made_of levels))) ∙
    (ap (λ (m : ℕ). take m (row_pages level.made ++ row_pages (made_of levels))) long
    ∙ ap (take n) both) in
    let rest : row_pages (made_of levels) ≡ page_numbers (drop n pages) =
    sym (drop-append_seam (row_pages level.made) (row_pages (made_of levels))) ∙
    (ap (λ (m : ℕ). drop m (row_pages level.made ++ row_pages (made_of levels))) long
    ∙ (ap (drop n) both ∙ drop-map (λ (p : FreshPage). p.page) n pages)) in (
      nodes-on at k level.made pages here on all.0,
      made-stand at (suc k) levels (drop n pages) rest (all-drop (λ (p : FreshPage). at p.page ≡ p.bytes) n pages on) all.1,
    )

-- each page of a list is found in it
pub own-fresh : (pages : List FreshPage) → ArePagesApart pages → AllByRecursion (λ p. fresh_at pages p.page ≡ Some p.bytes) pages
own-fresh [] apart = tt
own-fresh (p ∷ pages) apart = (
  ap (λ (b : Bool). cond b (Some p.bytes) (fresh_at pages p.page)) (eq-eqb p.page p.page refl),
  all-map (λ (q : FreshPage). fresh_at pages q.page ≡ Some q.bytes) (λ (q : FreshPage). fresh_at (p ∷ pages) q.page ≡ Some q.bytes)
      (λ q own. elim (cases_Bool (p.page == q.page)) [
        | inl is_so ↦
            (let same : p.page ≡ q.page = eqb-true p.page q.page is_so in
            let bad : None ≡ Some q.bytes = sym apart.0 ∙ (ap (fresh_at pages) same ∙ own) in cc)
        | inr not_so ↦ (let here : fresh_at (p ∷ pages) q.page ≡ fresh_at pages q.page = rw (not_so, fresh_at) refl in here ∙ own)
      ])
      pages (own-fresh pages apart.1),
)

pub on-pages : (pages : List FreshPage) (old new : Held) → ArePagesApart pages →
    ((q : ℕ) → page_in new.spans q ≡ option_or (fresh_at pages q) (page_in old.spans q)) → AreOn (bytes_in new.spans) pages
on-pages pages old new apart held =
    all-map (λ (p : FreshPage). fresh_at pages p.page ≡ Some p.bytes) (λ (p : FreshPage). bytes_in new.spans p.page ≡ p.bytes)
    (λ p own. ap (λ (o : Option (List ℕ)). unwrap_or o []) (held p.page ∙ ap
    (λ (o : Option (List ℕ)). option_or o (page_in old.spans p.page)) own))
    pages (own-fresh pages apart)

-- a page that is held behind one that isn't begins a span
pub gap-begins : (spans : List HeldSpan) (q : ℕ) → page_in spans q ≡ None → is_some (page_in spans (q + 1)) ≡ true → begins_in spans (q + 1)
    ≡ true
gap-begins [] q none some = cc
gap-begins (s ∷ spans) q none some = elim (cases_Bool (is_some (page_of s (q + 1)))) [
  | inl is_so ↦
      (let inside = has_page s (q + 1) is_so in
      let first : s.first ≡ q + 1 = elim (cases_lt q s.first) [
        | inl before ↦ omega (arith, before, inside.0)
        | inr from ↦
            (let here = page_of-inside s q (omega (arith, from)) (omega (arith, inside.1)) in
            let bad : option_or (page_of s q) (page_in spans q) ≡ Some (get_or s.pages (q - s.first) []) =
            ap (λ (o : Option (List ℕ)). option_or o (page_in spans q)) here in
            let never = sym bad ∙ none in cc)
      ] in
      ap (λ (b : Bool). b || begins_in spans (q + 1)) (ap (λ (k : ℕ). k == q + 1) first ∙ eq-eqb (q + 1) (q + 1) refl))
  | inr not_so ↦
      (let out : page_of s (q + 1) ≡ None = none-unless (page_of s (q + 1)) not_so in
      let rest_some : is_some (page_in spans (q + 1)) ≡ true =
      ap (λ (o : Option (List ℕ)). is_some (option_or o (page_in spans (q + 1)))) (sym out) ∙ some in
      let rest_none : page_in spans q ≡ None = none-behind (page_of s q) (page_in spans q) none in
      let more = gap-begins spans q rest_none rest_some in
      ap (λ (b : Bool). (s.first == q + 1) || b) more ∙ or-true (s.first == q + 1))
]
  where
    none-behind : (a b : Option (List ℕ)) → option_or a b ≡ None → b ≡ None
    none-behind None b none = none
    none-behind (Some x) b none = cc

    or-true : (b : Bool) → (b || true) ≡ true
    or-true true = refl
    or-true false = refl

-- pages apart are each in one run of one page
off-page : (page q : ℕ) → (page == q) ≡ false → covers q (extent_of (single_run page)) ≡ 0
off-page page q apart = elim (covers-cases q (extent_of (single_run page))) [
  | inl one ↦
      (let from = one.1 in let to = one.2 in let same : page ≡ q = omega (arith, from, to) in
      absurd (false≢true (sym apart ∙ eq-eqb page q same)))
  | inr none ↦ none.0
]

off-pages : (pages : List FreshPage) (q : ℕ) → is_on_pages q (page_numbers pages) ≡ false →
    uses q (map extent_of (map single_run (page_numbers pages))) ≡ 0
off-pages [] q off = refl
off-pages (p ∷ pages) q off = elim (cases_Bool (p.page == q)) [
  | inl is_so ↦ (let bad : is_on_pages q (page_numbers (p ∷ pages)) ≡ true = rw is_so refl in cc)
  | inr not_so ↦
      (let rest : is_on_pages q (page_numbers pages) ≡ false =
      (let e : is_on_pages q (page_numbers (p ∷ pages)) ≡ is_on_pages q (page_numbers pages) = rw not_so refl in sym e ∙ off) in
      let none = off-page p.page q not_so in
      let both = sum_by-cons (covers q) (extent_of (single_run p.page)) (map extent_of (map single_run (page_numbers pages))) in
      let more = off-pages pages q rest in
      omega (arith, none, both, more))
]

pub pages-once : (pages : List FreshPage) (q : ℕ) → ArePagesApart pages →
    uses q (map extent_of (map single_run (page_numbers pages))) ≤ 1
pages-once [] q apart = omega arith
pages-once (p ∷ pages) q apart =
    let rest = map extent_of (map single_run (page_numbers pages)) in
    let both = sum_by-cons (covers q) (extent_of (single_run p.page)) rest in
    elim (cases_Bool (p.page == q)) [
      | inl is_so ↦
          (let same : p.page ≡ q = eqb-true p.page q is_so in
          let out = none-fresh pages q (subst (λ (k : ℕ). fresh_at pages k ≡ None) same apart.0) in
          let off = off-pages pages q out in
          let few = few-covers (extent_of (single_run p.page)) in
          omega (arith, both, off, few))
      | inr not_so ↦
          (let more = pages-once pages q apart.1 in
          let none = off-page p.page q not_so in
          omega (arith, both, none, more))
    ]
  where
    few-covers : (run : Extent) → covers q run ≤ 1
    few-covers run = elim (covers-cases q run) [ inl one ↦ omega (arith, one.0) | inr none ↦ omega (arith, none.0) ]

-- what is held besides, once the pages are held
pub holds-new : (pages : List FreshPage) (made : List PageRun) (old new : Held) → firsts_of made ≡ page_numbers pages →
    ((q : ℕ) → uses q (map extent_of made) ≤ 1) →
    ((q : ℕ) → IsTrue (is_on_pages q (page_numbers pages)) → page_at old q ≡ None) →
    ((q : ℕ) → page_at new q ≡ option_or (fresh_at pages q) (page_at old q)) →
    ((q : ℕ) → begins new q ≡ (is_on_pages q (page_numbers pages) || begins old q)) → HoldsNew made old new
holds-new pages made old new same once lacked held begun =
    let into : (q : ℕ) → is_on_pages q (firsts_of made) ≡ is_on_pages q (page_numbers pages) = λ q. ap (is_on_pages q) same in
    let has_it : (q : ℕ) → IsTrue (is_on_pages q (page_numbers pages)) → is_some (page_at new q) ≡ true = λ q is.
    ap is_some (held q) ∙ some-or (fresh_at pages q) (page_at old q) (fresh-some pages q is) in
    record {
      once = once;
      others = λ q out. held q ∙ ap (λ (o : Option (List ℕ)). option_or o (page_at old q)) (fresh-none pages q (sym (into q) ∙ out));
      fresh = λ q is. lacked q (sym (into q) ∙ is);
      held = λ q is. has_it q (sym (into q) ∙ is);
      begun = λ q. begun q ∙ ap (λ (b : Bool). b || begins old q) (sym (into q));
      next = λ q is more. elim (cases_Bool (is_on_pages (q + 1) (page_numbers pages))) [
        | inl is_so ↦ begun (q + 1) ∙ ap (λ (b : Bool). b || begins old (q + 1)) is_so
        | inr not_so ↦
            (let there : page_at new (q + 1) ≡ page_at old (q + 1) =
            held (q + 1) ∙ ap (λ (o : Option (List ℕ)). option_or o (page_at old (q + 1))) (fresh-none pages (q + 1) not_so) in
            let old_begins = gap-begins old.spans q (lacked q (sym (into q) ∙ is)) (ap is_some (sym there) ∙ more) in
            begun (q + 1) ∙ (ap (λ (b : Bool). b || begins old (q + 1)) not_so ∙ old_begins))
      ];
    }
  where
    some-or : (a b : Option (List ℕ)) → is_some a ≡ true → is_some (option_or a b) ≡ true
    some-or None b some = cc
    some-or (Some x) b some = refl
