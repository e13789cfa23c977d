-- A walk over a tree that fits passes.
use Rattle.std.proofs.Common.{◌≡◌, ℕ, zero, suc, ◌+◌, ◌-◌, ◌*◌, ◌/◌, ◌<◌, ◌≤◌, Bool, true, false, ◌&&◌, ◌||◌, not}
use Rattle.std.proofs.Common.{cond, IsTrue, Option, Some, None, is_some, List, [], ◌∷◌, ◌++◌, length, map, refl}
use Rattle.std.proofs.Common.{sym, ap, subst, arith, ◌∙◌, ◌⊎◌, inl, inr, nat_eq, nat_lt}
use Rattle.std.specs.Prelude.{nat_le, sum_by, if◌then◌else◌}
use Rattle.std.specs.List.{AllByRecursion, range_with_len, list_any, list_all}
use Rattle.std.specs.Str.{bytes_eq}
use Rattle.std.proofs.lemmas.Bool.{le-leb, eq-eqb, ne_eqb}
use Rattle.std.proofs.lemmas.Bool.Decides.{nat_tests}
use Rattle.std.proofs.lemmas.Nat.{le-div}
use Rattle.std.proofs.lemmas.List.Sums.{sum_by-cons}
use Rattle.std.proofs.lemmas.Slice.Eq.{bytes_eq-Decides}
use Rattle.geometry_model.specs.Numbers.{Numbers, space_pages, pages, fan_out}
use Rattle.geometry_model.specs.Pages.{place, is_data_page, first_page, IsInSpace, IsPlace}
use Rattle.geometry_model.proofs.PageLaws.{place-of_IsPlace}
use Rattle.tree_model.specs.declared.entry.Pair.{Pair}
use Rattle.tree_model.specs.Node.{IsPair, HoldsNode, node_in, node_bytes, room_of}
use Rattle.tree_model.specs.Tree.{page_count, bytes_of, pairs_on, HasNode, AreTrees, IsSegment, entries_under, nodes_under, nodes_of}
use Rattle.layout_model.specs.Pack.{Packed}
use Rattle.moment_model.specs.Version.{covers, uses, segment_run}
use Rattle.change_laws.proofs.PartLemmas.{all-left, all-right}
use Rattle.tree_pages.proofs.CountLemmas.{times, times-cons, times-append}
use Rattle.image_model.specs.Super.{image_page}
use Rattle.image_model.specs.Image.{image_pages}
use Rattle.image_model.specs.Checks.{Refusal, Walk, Checked, then_check, check, each, is_free_page, is_met, meet}
use Rattle.image_model.specs.Checks.{is_some_bytes, holds_node, is_in_space, is_segment, fits_after, check_segment}
use Rattle.image_model.specs.Checks.{check_node}
use Rattle.image_model.specs.Checks.Checked.{Passed, Failed}
use Rattle.image_model.specs.Checks.Refusal.{BadTree, BadNode, PageTwice, PageFree}
use Rattle.image_laws.proofs.CheckLemmas.{test-cases}
use Rattle.image_laws.proofs.WalkLemmas.{times-range, segments-append, Follows, last_of, last-append}
use Rattle.image_laws.proofs.NodeLemmas.{page-length, data-below}

-- a check that holds
pub pass-check : (holds : Bool) (refusal : Refusal) (walk : Walk) → holds ≡ true → check holds refusal walk ≡ Passed walk
pass-check holds refusal walk is = ap (λ (b : Bool). check b refusal walk) is

-- further checks after one that passes
pub pass-then : (c : Checked) (next : Walk → Checked) (mid out : Walk) → c ≡ Passed mid → next mid ≡ Passed out →
    then_check c next ≡ Passed out
pass-then c next mid out first second = ap (λ (x : Checked). then_check x next) first ∙ second

-- ---- pages

unmet : (q : ℕ) (pages : List ℕ) → times q pages ≡ 0 → list_any (nat_eq q) pages ≡ false
unmet q [] none = refl
unmet q (first ∷ rest) none =
    let whole = times-cons q first rest in
    elim (test-cases (nat_eq q first)) [
      | inl same ↦
          let here = ap (λ (b : Bool). let k : ℕ = cond b 1 0 in k) same in
          absurd (omega (arith, whole, here, none))
      | inr other ↦
          let more = unmet q rest (omega (arith, whole, none)) in
          ap (λ (b : Bool). b || list_any (nat_eq q) rest) other ∙ more
    ]

pub times-self : (page : ℕ) (rest : List ℕ) → 0 < times page (page ∷ rest)
times-self page rest =
    let whole = times-cons page page rest in
    let same : nat_eq page page ≡ true = eq-eqb page page refl in
    let here = ap (λ (b : Bool). let k : ℕ = cond b 1 0 in k) same in
    omega (arith, whole, here)

pub meet-passes : (n : Numbers) (bytes : List ℕ) (page : ℕ) (walk : Walk) → times page walk.met ≡ 0 → is_free_page n bytes page ≡ false →
    meet n bytes page walk ≡ Passed (record { met = page ∷ walk.met; before = walk.before })
meet-passes n bytes page walk new taken =
    let after : Walk = record { met = page ∷ walk.met; before = walk.before } in
    pass-then (check (not (is_met walk page)) (PageTwice page) walk)
    (λ same. check (not (is_free_page n bytes page)) (PageFree page) after) walk after
    (pass-check (not (is_met walk page)) (PageTwice page) walk (ap not (unmet page walk.met new)))
    (pass-check (not (is_free_page n bytes page)) (PageFree page) after (ap not taken))

-- checks that pass, and the pages that they met
pub record Meeting (c : Checked) (walk : Walk) (pages : List ℕ) : Type 0 where
  pub out : Walk
  pub passed : c ≡ Passed out
  pub met : (q : ℕ) → times q out.met ≡ times q walk.met + times q pages
  pub before : out.before ≡ walk.before

pub each-meets-pages : (n : Numbers) (bytes pages : List ℕ) (walk : Walk) → ((q : ℕ) → times q walk.met + times q pages ≤ 1) →
    ((q : ℕ) → 0 < times q pages → is_free_page n bytes q ≡ false) → Meeting (each (meet n bytes) pages walk) walk pages
each-meets-pages n bytes [] walk room taken = record { out = walk; passed = refl; met = λ q. omega arith; before = refl }
each-meets-pages n bytes (page ∷ rest) walk room taken =
    let mid : Walk = record { met = page ∷ walk.met; before = walk.before } in
    let some = times-self page rest in
    let here = room page in
    let new : times page walk.met ≡ 0 = omega (arith, some, here) in
    let step = meet-passes n bytes page walk new (taken page some) in
    let counted : (q : ℕ) → times q mid.met + times q rest ≡ times q walk.met + times q (page ∷ rest) = λ q.
    let a = times-cons q page walk.met in
    let b = times-cons q page rest in
    omega (arith, a, b) in
    let more = each-meets-pages n bytes rest mid (λ q. let a = counted q in let b = room q in omega (arith, a, b))
    (λ q inside. let a = times-cons q page rest in taken q (omega (arith, a, inside))) in
    record {
      out = more.out;
      passed = pass-then (meet n bytes page walk) (each (meet n bytes) rest) mid more.out step more.passed;
      met = λ q. let a = more.met q in let b = counted q in omega (arith, a, b);
      before = more.before;
    }

-- ---- parts of a tree

-- how often these nodes and segments use a page
abbrev pub part_uses : Numbers → ℕ → List ℕ → List Pair → ℕ
part_uses n q nodes entries = times q nodes + uses q (map (segment_run n.page) entries)

-- nodes and segments of their forms, on pages that were not met and aren't free
pub record Fits (n : Numbers) (bytes : List ℕ) (threshold : ℕ) (walk : Walk) (nodes : List ℕ) (entries : List Pair) : Type 0 where
  pub on_data : AllByRecursion (λ page. IsTrue (is_data_page n page)) nodes
  pub segments : AllByRecursion (IsSegment n) entries
  pub follows : Follows n threshold walk.before entries
  pub room : (q : ℕ) → times q walk.met + part_uses n q nodes entries ≤ 1
  pub taken : (q : ℕ) → 0 < part_uses n q nodes entries → is_free_page n bytes q ≡ false

-- checks that pass, over such a part
pub record Going (n : Numbers) (c : Checked) (walk : Walk) (nodes : List ℕ) (entries : List Pair) : Type 0 where
  pub out : Walk
  pub passed : c ≡ Passed out
  pub met : (q : ℕ) → times q out.met ≡ times q walk.met + part_uses n q nodes entries
  pub before : out.before ≡ last_of walk.before entries

follows-front : (n : Numbers) (threshold : ℕ) (before : Option Pair) (xs ys : List Pair) →
    Follows n threshold before (xs ++ ys) → Follows n threshold before xs
follows-front n threshold before [] ys follows = tt
follows-front n threshold before (x ∷ xs) ys follows = (follows.0, follows-front n threshold (Some x) xs ys follows.1)

follows-back : (n : Numbers) (threshold : ℕ) (before : Option Pair) (xs ys : List Pair) →
    Follows n threshold before (xs ++ ys) → Follows n threshold (last_of before xs) ys
follows-back n threshold before [] ys follows = follows
follows-back n threshold before (x ∷ xs) ys follows = follows-back n threshold (Some x) xs ys follows.1

uses-both : (n : Numbers) (q : ℕ) (nodes more : List ℕ) (xs ys : List Pair) →
    part_uses n q (nodes ++ more) (xs ++ ys) ≡ part_uses n q nodes xs + part_uses n q more ys
uses-both n q nodes more xs ys =
    let a = times-append q nodes more in
    let b = segments-append q n.page xs ys in
    omega (arith, a, b)

-- the first of two parts fits, and after it the second
pub fits-first : (n : Numbers) (bytes : List ℕ) (threshold : ℕ) (walk : Walk) (nodes more : List ℕ) (xs ys : List Pair) →
    Fits n bytes threshold walk (nodes ++ more) (xs ++ ys) → Fits n bytes threshold walk nodes xs
fits-first n bytes threshold walk nodes more xs ys fits = record {
  on_data = all-left _ nodes more fits.on_data;
  segments = all-left (IsSegment n) xs ys fits.segments;
  follows = follows-front n threshold walk.before xs ys fits.follows;
  room = λ q. let a = fits.room q in let b = uses-both n q nodes more xs ys in omega (arith, a, b);
  taken = λ q some. let b = uses-both n q nodes more xs ys in fits.taken q (omega (arith, b, some));
}

pub fits-second : (n : Numbers) (bytes : List ℕ) (threshold : ℕ) (c : Checked) (walk : Walk) (nodes more : List ℕ) (xs ys : List Pair) →
    Fits n bytes threshold walk (nodes ++ more) (xs ++ ys) → (going : Going n c walk nodes xs) → Fits n bytes threshold going.out more ys
fits-second n bytes threshold c walk nodes more xs ys fits going = record {
  on_data = all-right _ nodes more fits.on_data;
  segments = all-right (IsSegment n) xs ys fits.segments;
  follows = subst (λ (b : Option Pair). Follows n threshold b ys) (sym going.before)
      (follows-back n threshold walk.before xs ys fits.follows);
  room = λ q. let a = fits.room q in let b = uses-both n q nodes more xs ys in let d = going.met q in omega (arith, a, b, d);
  taken = λ q some. let b = uses-both n q nodes more xs ys in fits.taken q (omega (arith, b, some));
}

-- both parts one after the other
pub going-both : (n : Numbers) (c : Checked) (next : Walk → Checked) (walk : Walk) (nodes more : List ℕ)
    (xs ys : List Pair) → (first : Going n c walk nodes xs) →
    Going n (next first.out) first.out more ys → Going n (then_check c next) walk (nodes ++ more) (xs ++ ys)
going-both n c next walk nodes more xs ys first second = record {
  out = second.out;
  passed = pass-then c next first.out second.out first.passed second.passed;
  met = λ q. let a = first.met q in let b = second.met q in let d = uses-both n q nodes more xs ys in omega (arith, a, b, d);
  before = second.before ∙ (ap (λ (b : Option Pair). last_of b ys) first.before ∙ sym (last-append walk.before xs ys));
}

-- ---- segments

some-pages : (size bytes : ℕ) → 0 < size → 1 ≤ bytes → 1 ≤ page_count size bytes
some-pages size bytes some least =
    let low : 1 * size ≤ bytes + (size - 1) = omega (arith, some, least) in
    le-div 1 (bytes + (size - 1)) size some low

segment-test : (n : Numbers) (pair : Pair) → 0 < n.page → IsSegment n pair → is_segment n pair ≡ true
segment-test n pair page is =
    let count = page_count n.page pair.bytes in
    let space = is.together.0 in
    let lies = is.together.1 in
    let from = lies.from in
    let to = lies.to in
    let some = some-pages n.page pair.bytes page is.some in
    let spot : IsPlace n pair.page space (pair.page - first_page n space) =
    record {
      in_store = lies.in_store;
      in_space = omega (arith, from, to, some);
      is_page =
          omega (arith, from);
    } in
    let found = place-of_IsPlace n pair.page space (pair.page - first_page n space) spot in
    let size : nat_le pair.bytes (space_pages n * n.page) ≡ true = le-leb pair.bytes (space_pages n * n.page) is.most in
    let inside : nat_le (pair.page - first_page n space + count) (space_pages n) ≡ true =
    le-leb (pair.page - first_page n space + count) (space_pages n) (omega (arith, from, to)) in
    let within : is_in_space n (place n pair.page) count ≡ true = ap (λ (o : Option (ℕ × ℕ)). is_in_space n o count) found ∙ inside in
    ap (λ (b : Bool). b && is_in_space n (place n pair.page) count) size ∙ within

pub segment-goes : (n : Numbers) (bytes : List ℕ) (o threshold : ℕ) (pair : Pair) (walk : Walk) → 0 < n.page →
    Fits n bytes threshold walk [] (pair ∷ []) →
    Going n (check_segment n bytes o threshold pair walk) walk [] (pair ∷ [])
segment-goes n bytes o threshold pair walk page fits =
    let run = range_with_len pair.page (page_count n.page pair.bytes) in
    let counted : (q : ℕ) → times q run ≡ part_uses n q [] (pair ∷ []) = λ q.
    let a = times-range q pair.page (page_count n.page pair.bytes) in
    let b = sum_by-cons (covers q) (segment_run n.page pair) [] in
    omega (arith, a, b) in
    let meeting = each-meets-pages n bytes run walk (λ q. let a = counted q in let b = fits.room q in omega (arith, a, b))
    (λ q some. let a = counted q in fits.taken q (omega (arith, a, some))) in
    let mid = meeting.out in
    let after : Walk = record { met = mid.met; before = Some pair } in
    let last : Walk → Checked = λ met. check (fits_after n threshold met.before pair) (BadTree o)
    (record { met = met.met; before = Some pair }) in
    let fit : fits_after n threshold mid.before pair ≡ true =
    ap (λ (b : Option Pair). fits_after n threshold b pair) meeting.before ∙ fits.follows.0 in
    record {
      out = after;
      passed = pass-then (check (is_segment n pair) (BadTree o) walk) (λ sized. then_check (each (meet n bytes) run sized) last) walk after
          (pass-check (is_segment n pair) (BadTree o) walk (segment-test n pair page fits.segments.0))
          (pass-then (each (meet n bytes) run walk) last mid after meeting.passed
          (pass-check (fits_after n threshold mid.before pair) (BadTree o) after fit));
      met = λ q. let a = meeting.met q in let b = counted q in omega (arith, a, b);
      before = refl;
    }

pub segments-go : (n : Numbers) (bytes : List ℕ) (o threshold : ℕ) (pairs : List Pair) (walk : Walk) → 0 < n.page →
    Fits n bytes threshold walk [] pairs →
    Going n (each (check_segment n bytes o threshold) pairs walk) walk [] pairs
segments-go n bytes o threshold [] walk page fits = record { out = walk; passed = refl; met = λ q. omega arith; before = refl }
segments-go n bytes o threshold (p ∷ ps) walk page fits =
    let first = segment-goes n bytes o threshold p walk page (fits-first n bytes threshold walk [] [] (p ∷ []) ps fits) in
    going-both n (check_segment n bytes o threshold p walk) (each (check_segment n bytes o threshold) ps) walk [] [] (p ∷ []) ps first
    (segments-go n bytes o threshold ps first.out page
    (fits-second n bytes threshold (check_segment n bytes o threshold p walk) walk [] [] (p
    ∷ []) ps fits first))
