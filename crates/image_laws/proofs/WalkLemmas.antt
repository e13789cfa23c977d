-- What a walk of a tree that passes says of the tree, and of the pages that it met.
use Rattle.std.proofs.Common.{◌≡◌, ℕ, zero, suc, ◌+◌, ◌*◌, ◌/◌, ◌<◌, ◌≤◌, Bool, true, false, ◌&&◌, ◌||◌, not, cond}
use Rattle.std.proofs.Common.{IsTrue, Option, Some, None, is_some, List, [], ◌∷◌, ◌++◌, length, map, refl, sym, ap}
use Rattle.std.proofs.Common.{subst, arith, ◌∙◌, ◌⊎◌, inl, inr, nat_eq, nat_lt}
use Rattle.std.specs.Prelude.{nat_le, sum_by, count_by, if◌then◌else◌}
use Rattle.std.specs.List.{AllByRecursion, flat_map, range_with_len, list_any, list_all}
use Rattle.std.proofs.lemmas.Bool.{and_parts, leb-true, eqb-true, ne_eqb}
use Rattle.std.proofs.lemmas.Bool.Decides.{nat_tests}
use Rattle.std.proofs.lemmas.List.Sums.{sum_by-cons, sum_by-append}
use Rattle.base_laws.proofs.ListLaws.{all-append}
use Rattle.geometry_model.specs.Numbers.{Numbers, space_pages, fan_out}
use Rattle.geometry_model.specs.Pages.{place, is_data_page, first_page, IsInSpace}
use Rattle.geometry_model.proofs.PageLaws.{IsPlace-from_place}
use Rattle.tree_model.specs.declared.entry.Pair.{Pair}
use Rattle.tree_model.specs.Node.{HoldsNode, node_in}
use Rattle.tree_model.specs.Tree.{page_count, bytes_of, pairs_on, HasNode, AreTrees, IsSegment, entries_under, nodes_under, nodes_of}
use Rattle.layout_model.specs.declared.extent.Extent.{Extent}
use Rattle.layout_model.specs.Pack.{Packed}
use Rattle.moment_model.specs.Version.{covers, uses, segment_run}
use Rattle.moment_laws.proofs.GrantLemmas.{uses-append}
use Rattle.tree_pages.proofs.CountLemmas.{times, times-cons, times-append}
use Rattle.image_model.specs.Super.{image_page}
use Rattle.image_model.specs.Image.{image_pages}
use Rattle.image_model.specs.Checks.{Refusal, Walk, Checked, then_check, check, each, is_free_page, is_met, meet}
use Rattle.image_model.specs.Checks.{is_some_bytes, holds_node, is_in_space, is_segment, fits_after, check_segment}
use Rattle.image_model.specs.Checks.{check_node}
use Rattle.image_model.specs.Checks.Checked.{Passed, Failed}
use Rattle.image_model.specs.Checks.Refusal.{BadTree, BadNode, PageTwice, PageFree}
use Rattle.image_laws.proofs.CheckLemmas.{passed-then, passed-check, test-cases, not-true}

-- ---- pages that are met

-- each page is met at most once, and what is met isn't free
pub record IsSober (n : Numbers) (bytes : List ℕ) (walk : Walk) : Type 0 where
  pub once : (q : ℕ) → times q walk.met ≤ 1
  pub taken : (q : ℕ) → 0 < times q walk.met → is_free_page n bytes q ≡ false

-- a walk goes on: these pages are met, and nothing else
pub record Meets (n : Numbers) (bytes : List ℕ) (walk out : Walk) (pages : List ℕ) : Type 0 where
  pub met : (q : ℕ) → times q out.met ≡ times q walk.met + times q pages
  pub before : out.before ≡ walk.before
  pub sober : IsSober n bytes walk → IsSober n bytes out

or-false : (a b : Bool) → (a || b) ≡ false → (a ≡ false) × (b ≡ false)
or-false true b is = absurd cc
or-false false b is = (refl, is)

pub unmet-none : (q : ℕ) (pages : List ℕ) → list_any (nat_eq q) pages ≡ false → times q pages ≡ 0
unmet-none q [] none = refl
unmet-none q (first ∷ rest) none =
    let parts = or-false (nat_eq q first) (list_any (nat_eq q) rest) none in
    let here = ap (λ (b : Bool). let k : ℕ = cond b 1 0 in k) parts.0 in
    let whole = times-cons q first rest in
    let more = unmet-none q rest parts.1 in
    omega (arith, here, whole, more)

pub meet-meets : (n : Numbers) (bytes : List ℕ) (page : ℕ) (walk out : Walk) → meet n bytes page walk ≡ Passed out →
    Meets n bytes walk out (page ∷ [])
meet-meets n bytes page walk out passed =
    let after : Walk = record { met = page ∷ walk.met; before = walk.before } in
    let first = passed-then (check (not (is_met walk page)) (PageTwice page) walk)
    (λ same. check (not (is_free_page n bytes page)) (PageFree page) after) out passed in
    let one = passed-check (not (is_met walk page)) (PageTwice page) walk first.0 first.1 in
    let two = passed-check (not (is_free_page n bytes page)) (PageFree page) after out first.2 in
    let new = unmet-none page walk.met (not-true (is_met walk page) one.0) in
    let taken = not-true (is_free_page n bytes page) two.0 in
    subst (λ (w : Walk). Meets n bytes walk w (page ∷ [])) two.1 (record {
      met = λ q. let a = times-cons q page walk.met in let b = times-cons q page [] in omega (arith, a, b);
      before = refl;
      sober = λ sober. record {
        once = λ q. once sober new q;
        taken = λ q some. now sober taken q some;
      };
    })
  where
    once : IsSober n bytes walk → times page walk.met ≡ 0 → (q : ℕ) → times q (page ∷ walk.met) ≤ 1
    once sober new q =
        let whole = times-cons q page walk.met in
        let old = sober.once q in
        elim (test-cases (nat_eq q page)) [
          | inl same ↦
              let here = ap (λ (b : Bool). let k : ℕ = cond b 1 0 in k) same in
              let none : times q walk.met ≡ 0 = ap (λ (x : ℕ). times x walk.met) (eqb-true q page same) ∙ new in
              omega (arith, whole, here, none)
          | inr other ↦
              let here = ap (λ (b : Bool). let k : ℕ = cond b 1 0 in k) other in
              omega (arith, whole, here, old)
        ]

    now : IsSober n bytes walk → is_free_page n bytes page ≡ false → (q : ℕ) → 0 < times q (page ∷ walk.met) →
        is_free_page n bytes q ≡ false
    now sober taken q some =
        elim (test-cases (nat_eq q page)) [
          | inl same ↦ ap (is_free_page n bytes) (eqb-true q page same) ∙ taken
          | inr other ↦
              let whole = times-cons q page walk.met in
              let here = ap (λ (b : Bool). let k : ℕ = cond b 1 0 in k) other in
              sober.taken q (omega (arith, whole, here, some))
        ]

pub meets-none : (n : Numbers) (bytes : List ℕ) (walk : Walk) → Meets n bytes walk walk []
meets-none n bytes walk = record { met = λ q. omega arith; before = refl; sober = λ sober. sober }

pub meets-both : (n : Numbers) (bytes : List ℕ) (walk mid out : Walk) (xs ys : List ℕ) → Meets n bytes walk mid xs →
    Meets n bytes mid out ys → Meets n bytes walk out (xs ++ ys)
meets-both n bytes walk mid out xs ys first second = record {
  met = λ q. let a = first.met q in let b = second.met q in let c = times-append q xs ys in omega (arith, a, b, c);
  before = second.before ∙ first.before;
  sober = λ sober. second.sober (first.sober sober);
}

-- pages one after the other
pub each-meets : (n : Numbers) (bytes pages : List ℕ) (walk out : Walk) →
    each (meet n bytes) pages walk ≡ Passed out → Meets n bytes walk out pages
each-meets n bytes [] walk out passed = let same : walk ≡ out = cc in
    subst (λ (w : Walk). Meets n bytes walk w []) same (meets-none n bytes walk)
each-meets n bytes (page ∷ rest) walk out passed =
    let first = passed-then (meet n bytes page walk) (each (meet n bytes) rest) out passed in
    meets-both n bytes walk first.0 out (page ∷ []) rest (meet-meets n bytes page walk first.0 first.1)
    (each-meets n bytes rest first.0 out first.2)

-- a run has each of its pages once
pub times-range : (q first count : ℕ) → times q (range_with_len first count) ≡ covers q (record { page = first; pages = count })
times-range q first zero = grind (arith, nat_tests)
times-range q first (suc count) =
    let whole = times-cons q first (range_with_len (first + 1) count) in
    let rest = times-range q (first + 1) count in
    let split = split-run q first count in
    omega (arith, whole, rest, split)
  where
    split-run : (q first count : ℕ) → cond (nat_eq q first) 1 0 + covers q (record {
      page = first + 1;
      pages =
          count;
    }) ≡ covers q (record { page = first; pages = suc count })
    split-run q first count = grind (arith, nat_tests)

-- ---- segments

-- each segment fits after the one before it
abbrev pub Follows : Numbers → ℕ → Option Pair → List Pair → Type 0
Follows n threshold before [] = Unit {0}
Follows n threshold before (p ∷ ps) = IsTrue (fits_after n threshold before p) × Follows n threshold (Some p) ps

abbrev pub last_of : Option Pair → List Pair → Option Pair
last_of before [] = before
last_of before (p ∷ ps) = last_of (Some p) ps

pub follows-append : (n : Numbers) (threshold : ℕ) (before : Option Pair) (xs ys : List Pair) →
    Follows n threshold before xs → Follows n threshold (last_of before xs) ys →
    Follows n threshold before (xs ++ ys)
follows-append n threshold before [] ys first second = second
follows-append n threshold before (x ∷ xs) ys first second = (first.0, follows-append n threshold (Some x) xs ys first.1 second)

pub last-append : (before : Option Pair) (xs ys : List Pair) → last_of before (xs ++ ys) ≡ last_of (last_of before xs) ys
last-append before [] ys = refl
last-append before (x ∷ xs) ys = last-append (Some x) xs ys

-- segments that follow each other are packed
pub follows-packed : (n : Numbers) (threshold : ℕ) (before : Option Pair) (entries : List Pair) →
    Follows n threshold before entries → Packed n.page threshold entries
follows-packed n threshold before [] follows = tt
follows-packed n threshold before (p ∷ []) follows = tt
follows-packed n threshold before (p ∷ q ∷ rest) follows = (
  one (nat_le threshold (page_count n.page p.bytes)) (nat_le threshold (page_count n.page q.bytes)) refl refl follows.1.0,
  follows-packed n threshold (Some p) (q ∷ rest) follows.1,
)
  where
    one : (a b : Bool) → nat_le threshold (page_count n.page p.bytes) ≡ a →
        nat_le threshold (page_count n.page q.bytes) ≡ b → (a || b) ≡ true →
        (threshold ≤ page_count n.page p.bytes) ⊎ (threshold ≤ page_count n.page q.bytes)
    one true b left right some = inl (leb-true threshold (page_count n.page p.bytes) left)
    one false true left right some = inr (leb-true threshold (page_count n.page q.bytes) right)
    one false false left right some = absurd cc

-- a walk goes on over a part of a tree: its nodes and segments are of their forms, and these alone are met
pub record Grown (n : Numbers) (bytes : List ℕ) (threshold : ℕ) (walk out : Walk) (nodes : List ℕ) (entries : List Pair) : Type 0 where
  pub on_data : AllByRecursion (λ page. IsTrue (is_data_page n page)) nodes
  pub segments : AllByRecursion (IsSegment n) entries
  pub follows : Follows n threshold walk.before entries
  pub before : out.before ≡ last_of walk.before entries
  pub met : (q : ℕ) → times q out.met ≡ times q walk.met + times q nodes + uses q (map (segment_run n.page) entries)
  pub sober : IsSober n bytes walk → IsSober n bytes out

pub grown-none : (n : Numbers) (bytes : List ℕ) (threshold : ℕ) (walk : Walk) → Grown n bytes threshold walk walk [] []
grown-none n bytes threshold walk = record {
  on_data = tt;
  segments = tt;
  follows = tt;
  before = refl;
  met =
      λ q. omega arith;
  sober = λ sober. sober;
}

pub segments-append : (q size : ℕ) (xs ys : List Pair) →
    uses q (map (segment_run size) (xs ++ ys))
    ≡ uses q (map (segment_run size) xs) + uses q (map (segment_run size) ys)
segments-append q size [] ys = omega arith
segments-append q size (x ∷ xs) ys =
    let left = sum_by-cons (covers q) (segment_run size x) (map (segment_run size) (xs ++ ys)) in
    let right = sum_by-cons (covers q) (segment_run size x) (map (segment_run size) xs) in
    omega (arith, left, right, segments-append q size xs ys)

pub grown-both : (n : Numbers) (bytes : List ℕ) (threshold : ℕ) (walk mid out : Walk) (nodes more : List ℕ) (xs ys : List Pair) →
    Grown n bytes threshold walk mid nodes xs → Grown n bytes threshold mid out more ys →
    Grown n bytes threshold walk out (nodes ++ more) (xs ++ ys)
grown-both n bytes threshold walk mid out nodes more xs ys first second = record {
  on_data = all-append (λ page. IsTrue (is_data_page n page)) nodes more first.on_data second.on_data;
  segments = all-append (IsSegment n) xs ys first.segments second.segments;
  follows = follows-append n threshold walk.before xs ys first.follows
      (subst (λ (b : Option Pair). Follows n threshold b ys) first.before second.follows);
  before = second.before ∙ (ap (λ (b : Option Pair). last_of b ys) first.before ∙ sym (last-append walk.before xs ys));
  met = λ q. let a = first.met q in let b = second.met q in let c = times-append q nodes more in
      let d = segments-append q n.page xs ys in omega (arith, a, b, c, d);
  sober = λ sober. second.sober (first.sober sober);
}

-- a segment that passes its checks
spot-space : (n : Numbers) (page count : ℕ) → is_in_space n (place n page) count ≡ true → (s : ℕ) × IsInSpace n s page count
spot-space n page count inside = go (place n page) refl inside
  where
    go : (o : Option (ℕ × ℕ)) → place n page ≡ o → is_in_space n o count ≡ true → (s : ℕ) × IsInSpace n s page count
    go None found within = absurd cc
    go (Some spot) found within =
        let is = IsPlace-from_place n page spot.0 spot.1 found in
        let fits = leb-true (spot.1 + count) (space_pages n) within in
        let at = is.is_page in
        (spot.0, record { in_store = is.in_store; from = omega (arith, at); to = omega (arith, at, fits) })

pub segment-grown : (n : Numbers) (bytes : List ℕ) (o threshold : ℕ) (pair : Pair) (walk out : Walk) → 1 ≤ pair.bytes →
    check_segment n bytes o threshold pair walk ≡ Passed out → Grown n bytes threshold walk out [] (pair ∷ [])
segment-grown n bytes o threshold pair walk out some passed =
    let pages = range_with_len pair.page (page_count n.page pair.bytes) in
    let last : Walk → Checked = λ met. check (fits_after n threshold met.before pair) (BadTree o)
    (record { met = met.met; before = Some pair }) in
    let first = passed-then (check (is_segment n pair) (BadTree o) walk)
    (λ sized. then_check (each (meet n bytes) pages sized) last) out passed in
    let sized = passed-check (is_segment n pair) (BadTree o) walk first.0 first.1 in
    let second = passed-then (each (meet n bytes) pages first.0) last out first.2 in
    let meets = each-meets n bytes pages first.0 second.0 second.1 in
    let mid = second.0 in
    let third = passed-check (fits_after n threshold mid.before pair) (BadTree o)
    (record { met = mid.met; before = Some pair }) out second.2 in
    let parts = and_parts (nat_le pair.bytes (space_pages n * n.page))
    (is_in_space n (place n pair.page) (page_count n.page pair.bytes)) sized.0 in
    let old : first.0 ≡ walk = sym sized.1 in
    let segment : IsSegment n pair = record {
      some = some;
      most = leb-true pair.bytes (space_pages n * n.page) parts.0;
      together = spot-space n pair.page (page_count n.page pair.bytes) parts.1;
    } in
    let before : mid.before ≡ walk.before = meets.before ∙ ap (λ (w : Walk). w.before) old in
    let fits : fits_after n threshold walk.before pair ≡ true =
    ap (λ (b : Option Pair). fits_after n threshold b pair) (sym before) ∙ third.0 in
    subst (λ (w : Walk). Grown n bytes threshold walk w [] (pair ∷ [])) third.1 (record {
      on_data = tt;
      segments = (segment, tt);
      follows = (fits, tt);
      before = refl;
      met = λ q.
          let a = meets.met q in
          let b = ap (λ (w : Walk). times q w.met) old in
          let c = times-range q pair.page (page_count n.page pair.bytes) in
          let d = sum_by-cons (covers q) (segment_run n.page pair) [] in
          omega (arith, a, b, c, d);
      sober = λ sober.
          let now = meets.sober (subst (IsSober n bytes) (sym old) sober) in
          record { once = now.once; taken = now.taken };
    })

pub segments-grown : (n : Numbers) (bytes : List ℕ) (o threshold : ℕ) (pairs : List Pair) (walk out : Walk) →
    list_all is_some_bytes pairs ≡ true →
    each (check_segment n bytes o threshold) pairs walk ≡ Passed out → Grown n bytes threshold walk out [] pairs
segments-grown n bytes o threshold [] walk out some passed =
    let same : walk ≡ out = cc in subst (λ (w : Walk). Grown n bytes threshold walk w [] []) same (grown-none n bytes threshold walk)
segments-grown n bytes o threshold (p ∷ ps) walk out some passed =
    let parts = and_parts (is_some_bytes p) (list_all is_some_bytes ps) some in
    let first = passed-then (check_segment n bytes o threshold p walk) (each (check_segment n bytes o threshold) ps) out passed in
    grown-both n bytes threshold walk first.0 out [] [] (p ∷ []) ps
    (segment-grown n bytes o threshold p walk first.0 (leb-true 1 p.bytes parts.0) first.1)
    (segments-grown n bytes o threshold ps first.0 out parts.1 first.2)
