-- Worked changes, one for each way in which new bytes meet the spare. There are 256 bytes a page and one space of 16
-- pages, from page 3 on; before each change every page has its own number in all its bytes. The object is committed, and
-- is one segment from page 3 on under a root.
use Rattle.std.proofs.Common.{◌≡◌, ℕ, zero, suc, ◌+◌, ◌<◌, ◌≤◌, Bool, true, false, Option, Some, None, List, [], ◌∷◌}
use Rattle.std.proofs.Common.{◌++◌, length, replicate, refl, ap, subst, arith, ◌∙◌, nat_eq, inl, inr}
use Rattle.std.specs.Prelude.{IsTrue, if◌then◌else◌}
use Rattle.std.proofs.lemmas.Bool.{ne_eqb}
use Rattle.std.proofs.lemmas.List.Sums.{sum_by-cons}
use Rattle.geometry_model.specs.Numbers.{Numbers, IsInRange}
use Rattle.geometry_model.specs.Pages.{is_data_page, place as data_place}
use Rattle.block_model.specs.Place.{place}
use Rattle.eos_ops.specs.declared.plain.Plain.TheVariants as plain
use Rattle.tree_model.specs.declared.entry.Pair.{Pair}
use Rattle.tree_model.specs.Content.{content}
use Rattle.tree_model.specs.Tree.{Pages, IsSegment, page_count}
use Rattle.layout_model.specs.declared.change.Change.{Change}
use Rattle.layout_model.specs.declared.extent.Extent.{Extent}
use Rattle.layout_model.specs.Grants.{Spaces, space_at}
use Rattle.layout_model.specs.Layout.{Tree, Grants, granted, laid, tree_entries}
use Rattle.layout_model.specs.Levels.{spliced}
use Rattle.layout_model.specs.Plan.{planned}
use Rattle.moment_model.specs.Moment.{ObjectSlot}
use Rattle.moment_model.specs.Version.{IsGood, covers, uses}
use Rattle.moment_laws.specs.ByObject.{IsSoundSlot}
use Rattle.moment_laws.specs.Granting.{AreSpaces, granted_runs, got_grants}
use Rattle.moment_laws.proofs.GrantLemmas.{covers-cases}
use Rattle.tree_pages.specs.Levels.{version_plain}
use Rattle.window_laws.specs.Window.{moved, window_at}
use Rattle.change_laws.proofs.SuitLemmas.{granted-suits}
use Rattle.laid_content_laws.specs.Written.{IsGrantedChange, OthersStay, IsWritten, IsWrittenBy}
use Rattle.laid_content_laws.proofs.StayLemmas.{committed-holds}
use Rattle.laid_content_laws.proofs.LaidContentLemmas.{laid-edited}
use Rattle.laid_content_laws.proofs.WindowContentLemmas.{window-written}

abbrev small : Numbers
small = record { page = 256; order = 4; spaces = 1; catalog = 1; threshold = 2 }

in-range : IsInRange small
in-range = record {
  page_size = refl;
  order_low = omega arith;
  order_high = omega arith;
  spaces_low = omega arith;
  spaces_high = omega arith;
  catalog_low = omega arith;
  catalog_high = omega arith;
  threshold_low = omega arith;
  threshold_high = omega arith;
}

-- the pages before a change, and with one page written
abbrev at : Pages
at page = replicate 256 page

abbrev with_page : ℕ → List ℕ → Pages → Pages
with_page written bytes pages page = if nat_eq page written then bytes else pages page

another : (written page : ℕ) (bytes : List ℕ) (pages : Pages) → (page ≡ written → ⊥) → with_page written bytes pages page ≡ pages page
another written page bytes pages apart = ap (λ (b : Bool). if b then bytes else pages page) (ne_eqb page written apart)

-- a page that has no run is none of those in it
none-of : (runs : List Extent) (page written : ℕ) → uses page runs ≡ 0 → uses written runs ≡ 1 → page ≡ written → ⊥
none-of runs page written none one same =
    let here : uses written runs ≡ 0 = subst (λ (q : ℕ). uses q runs ≡ 0) same none in
    omega (arith, here, one)

-- ---- an object of one segment from page 3 on

abbrev segment : ℕ → Pair
segment bytes = record { bytes = bytes; page = 3 }

abbrev one_segment : ℕ → ℕ → ℕ → Tree
one_segment bytes root threshold = record {
  levels = (record { page = root; pairs = segment bytes ∷ [] } ∷ []) ∷ [];
  threshold = threshold;
}

abbrev committed : Tree → Option Extent → ObjectSlot
committed tree spare = record { committed = Some tree; working = Some tree; spare = spare }

good : (bytes root threshold : ℕ) → 1 ≤ bytes → bytes ≤ 512 → IsTrue (is_data_page small root) → 1 ≤ threshold → threshold ≤ 8 →
    IsGood small (one_segment bytes root threshold)
good bytes root threshold some most on_data low high = record {
  shape = ((record { low = one; high = few }, tt), refl);
  nodes = ((on_data, tt), tt);
  segments = (is, tt);
  neighbours = tt;
  threshold_low = low;
  threshold_high = omega (arith, high);
} where
  one : 1 ≤ 1
  one = omega arith

  few : 1 ≤ 20
  few = omega arith

  is : IsSegment small (segment bytes)
  is = record {
    some = some;
    most = omega (arith, most);
    together = (0, record { in_store = omega arith; from = omega arith; to = omega (arith, some, most) });
  }

-- two runs of which one ends before the other begins
apart-once : (page : ℕ) (a b : Extent) → a.page + a.pages ≤ b.page → covers page a + covers page b ≤ 1
apart-once page a b apart =
    elim (covers-cases page a) [
      | inr out ↦
          let none = out.0 in
          elim (covers-cases page b) [
            | inl inside ↦ let one = inside.0 in omega (arith, none, one)
            | inr outside ↦ let nothing = outside.0 in omega (arith, none, nothing)
          ]
      | inl into ↦
          let one = into.0 in
          elim (covers-cases page b) [
            | inl inside ↦ absurd (omega (arith, into.2, inside.1, apart))
            | inr outside ↦ let nothing = outside.0 in omega (arith, one, nothing)
          ]
    ]

uses-one : (page : ℕ) (a : Extent) → uses page (a ∷ []) ≡ covers page a
uses-one page a = let one = sum_by-cons (covers page) a [] in omega (arith, one)

uses-two : (page : ℕ) (a b : Extent) → uses page (a ∷ b ∷ []) ≡ covers page a + covers page b
uses-two page a b = let one = sum_by-cons (covers page) a (b ∷ []) in let two = uses-one page b in omega (arith, one, two)

abbrev run : ℕ → ℕ → Extent
run page pages = record { page = page; pages = pages }

-- with no spare, or with one behind the segment and before the root
sound : (bytes root threshold : ℕ) → IsGood small (one_segment bytes root threshold) → 3 + page_count 256 bytes ≤ root →
    IsSoundSlot IsGood small (committed (one_segment bytes root threshold) None)
sound bytes root threshold is before =
    let once : (page : ℕ) → uses page (run 3 (page_count 256 bytes) ∷ []) + uses page (run root 1 ∷ []) ≤ 1 = λ page.
    let a = uses-one page (run 3 (page_count 256 bytes)) in
    let b = uses-one page (run root 1) in
    let both = apart-once page (run 3 (page_count 256 bytes)) (run root 1) before in
    omega (arith, a, b, both) in
    record {
      committed = is;
      working = is;
      committed_once = once;
      working_once = λ page. let less = once page in omega (arith, less);
      spare_apart = λ page some. absurd (omega (arith, some));
    }

sound-tail : (bytes root threshold pages : ℕ) → IsGood small (one_segment bytes root threshold) →
    3 + page_count 256 bytes + pages ≤ root →
    IsSoundSlot IsGood small (committed (one_segment bytes root threshold) (Some (run (3 + page_count 256 bytes) pages)))
sound-tail bytes root threshold pages is before =
    let seg = run 3 (page_count 256 bytes) in
    let node = run root 1 in
    let spare = run (3 + page_count 256 bytes) pages in
    let all : (page : ℕ) → (uses page (seg ∷ []) + uses page (node ∷ []) + covers page spare ≤ 1) = λ page.
    let a = uses-one page seg in
    let b = uses-one page node in
    let c = apart-once page seg node (omega (arith, before)) in
    let d = apart-once page seg spare (omega arith) in
    let e = apart-once page spare node before in
    omega (arith, a, b, c, d, e) in
    record {
      committed = is;
      working = is;
      committed_once = λ page. let less = all page in omega (arith, less);
      working_once = all;
      spare_apart = λ page some. let less = all page in omega (arith, less, some);
    }

-- the free pages of a space, after so many that are in use
abbrev free_after : ℕ → ℕ → Spaces
free_after used free = (replicate used false ++ replicate free true) ∷ []

-- ---- Fresh: one byte put in before byte 255 of two pages makes a part of two pages, which are granted

abbrev two_pages : Tree
two_pages = one_segment 512 5 2

abbrev put_in : Change
put_in = record { at = 255; removed = 0; added = 1; appends = false }

abbrev on_granted : Grants
on_granted = record { runs = (run 7 2 ∷ []) ∷ []; pages = 6 ∷ [] }

abbrev after_put : Pages
after_put = with_page 7 (replicate 255 3 ++ 45 ∷ []) (with_page 8 (3 ∷ replicate 255 0) (with_page 6 (replicate 256 1) at))

put-granted : granted small 0 two_pages None put_in (free_after 3 13) ≡ got_grants on_granted (free_after 6 10)
unfolding granted planned spliced place
put-granted = refl

put-written : IsWritten small at after_put two_pages None put_in on_granted (45 ∷ [])
unfolding planned
put-written = (refl, tt)

put-others : OthersStay (committed two_pages None) on_granted at after_put
put-others page out spare =
    let runs = granted_runs on_granted in
    another 7 page (replicate 255 3 ++ 45 ∷ []) (with_page 8 (3 ∷ replicate 255 0) (with_page 6 (replicate 256 1) at))
    (none-of runs page 7 out refl)
    ∙ (another 8 page (3 ∷ replicate 255 0) (with_page 6 (replicate 256 1) at) (none-of runs page 8 out refl)
    ∙ another 6 page (replicate 256 1) at (none-of runs page 6 out refl))

spaces-of : (bits : List Bool) → length bits ≡ 16 → AreSpaces small (bits ∷ [])
spaces-of bits long = record { count = refl; each = each }
  where
    each : (s : ℕ) → s < 1 → length (space_at (bits ∷ []) s) ≡ 16
    each zero below = long
    each (suc s) below = absurd (omega (arith, below))

put-is : IsGrantedChange small (committed two_pages None) two_pages put_in on_granted
unfolding data_place
put-is = record {
  sound = sound 512 5 2 (good 512 5 2 (omega arith) (omega arith) refl (omega arith) (omega arith)) (omega arith);
  working = refl;
  tail = tt;
  within = record { within = omega arith; some = omega arith; at_end = λ appends. cc };
  suits = granted-suits small 0 two_pages None put_in (free_after 3 13) (free_after 6 10) on_granted
      (spaces-of (replicate 3 false ++ replicate 13 true) refl) put-granted;
  unused = λ page used.
      let granted = uses-two page (run 7 2) (run 6 1) in
      let a = uses-one page (run 3 2) in
      let b = uses-one page (run 5 1) in
      let c = apart-once page (run 3 2) (run 7 2) (omega arith) in
      let d = apart-once page (run 3 2) (run 6 1) (omega arith) in
      let e = apart-once page (run 5 1) (run 7 2) (omega arith) in
      let f = apart-once page (run 5 1) (run 6 1) (omega arith) in
      omega (arith, granted, a, b, c, d, e, f, used);
}

put-holds : content after_put 256 (tree_entries (laid small two_pages None put_in on_granted).tree)
    ≡ replicate 255 3 ++ (45 ∷ 3 ∷ replicate 256 4)
put-holds = laid-edited small (committed two_pages None) two_pages put_in on_granted at after_put
    (45 ∷ []) in-range put-is ((λ k below. refl), tt) refl put-others put-written

-- the committed bytes stay
put-committed : version_plain after_put 256 (Some two_pages) ≡ plain.Present (replicate 256 3 ++ replicate 256 4)
put-committed = committed-holds small (committed two_pages None) two_pages put_in on_granted at after_put put-is put-others

-- ---- an append to an object with a spare, of which a node's page is granted

abbrev tail : ℕ → ℕ → Extent
tail bytes pages = run (3 + page_count 256 bytes) pages

abbrev append : ℕ → ℕ → Change
append bytes added = record { at = bytes; removed = 0; added = added; appends = true }

abbrev on_node : ℕ → Grants
on_node node = record { runs = []; pages = node ∷ [] }

append-is : (bytes root threshold pages added node : ℕ) (free left : List Bool) →
    IsGood small (one_segment bytes root threshold) → 3 + page_count 256 bytes + pages ≤ root → root < node → root ≤ 18 → 1 ≤ added →
    length free ≡ 16 → granted small 0 (one_segment bytes root threshold) (Some (tail bytes pages)) (append bytes added) (free ∷ [])
    ≡ got_grants (on_node node) (left ∷ []) →
    IsGrantedChange small (committed (one_segment bytes root threshold) (Some (tail bytes pages))) (one_segment bytes root threshold)
    (append bytes added) (on_node node)
append-is bytes root threshold pages added node free left is before behind last some long got = record {
  sound = sound-tail bytes root threshold pages is before;
  working = refl;
  tail = record {
    some = omega arith;
    behind = refl;
    together = (0, record { in_store = omega arith; from = omega arith; to = omega (arith, before, last) });
  };
  within = record { within = omega arith; some = omega (arith, some); at_end = λ appends. (omega arith, refl) };
  suits = granted-suits small 0 (one_segment bytes root threshold) (Some (tail bytes pages)) (append bytes added) (free ∷ []) (left ∷ [])
      (on_node node) (spaces-of free long) got;
  unused = λ page used.
      let seg = run 3 (page_count 256 bytes) in
      let granted = uses-one page (run node 1) in
      let a = uses-one page seg in
      let b = uses-one page (run root 1) in
      let c = apart-once page seg (run node 1) (omega (arith, before, behind)) in
      let d = apart-once page (run root 1) (run node 1) (omega (arith, behind)) in
      let e = apart-once page (tail bytes pages) (run node 1) (omega (arith, before, behind)) in
      omega (arith, granted, a, b, c, d, e, used);
}

-- ---- Follow: 100 bytes behind 300, merged with them into one part on the spare's first two pages

abbrev part_filled : Tree
part_filled = one_segment 300 8 4

abbrev more : List ℕ
more = replicate 100 9

abbrev after_more : Pages
after_more = with_page 5 (replicate 256 3) (with_page 6 (replicate 44 4 ++ (more ++ replicate 112 0)) (with_page 9 (replicate 256 1) at))

more-granted : granted small 0 part_filled (Some (tail 300 3)) (append 300 100) (free_after 6 10) ≡ got_grants (on_node 9) (free_after 7 9)
unfolding granted planned spliced place
more-granted = refl

more-written : IsWritten small at after_more part_filled (Some (tail 300 3)) (append 300 100) (on_node 9) more
unfolding planned
more-written = (refl, tt)

more-others : OthersStay (committed part_filled (Some (tail 300 3))) (on_node 9) at after_more
more-others page out spare =
    let on = tail 300 3 ∷ [] in
    let off : uses page on ≡ 0 = uses-one page (tail 300 3) ∙ spare in
    another 5 page (replicate 256 3) (with_page 6 (replicate 44 4 ++ (more ++ replicate 112 0)) (with_page 9 (replicate 256 1) at))
    (none-of on page 5 off refl)
    ∙ (another 6 page (replicate 44 4 ++ (more ++ replicate 112 0)) (with_page 9 (replicate 256 1) at) (none-of on page 6 off refl)
    ∙ another 9 page (replicate 256 1) at (none-of (granted_runs (on_node 9)) page 9 out refl))

more-is : IsGrantedChange small (committed part_filled (Some (tail 300 3))) part_filled (append 300 100) (on_node 9)
unfolding data_place
more-is = append-is 300 8 4 3 100 9 (replicate 6 false ++ replicate 10 true) (replicate 7 false ++ replicate 9 true)
    (good 300 8 4 (omega arith) (omega arith) refl (omega arith) (omega arith))
    (omega arith) (omega arith) (omega arith) (omega arith) refl more-granted

more-holds : content after_more 256 (tree_entries (laid small part_filled (Some (tail 300 3)) (append 300 100) (on_node 9)).tree)
    ≡ replicate 256 3 ++ (replicate 44 4 ++ more)
more-holds = laid-edited small (committed part_filled (Some (tail 300 3))) part_filled (append 300 100) (on_node 9)
    at after_more more in-range more-is ((λ k below. refl), tt) refl more-others more-written

more-committed : version_plain after_more 256 (Some part_filled) ≡ plain.Present (replicate 256 3 ++ replicate 44 4)
more-committed = committed-holds small (committed part_filled (Some (tail 300 3))) part_filled (append 300 100) (on_node 9)
    at after_more more-is more-others

-- ---- Extend: 300 bytes behind a full page, which grow its segment over two pages of the spare

abbrev filled : Tree
filled = one_segment 256 7 2

abbrev long : List ℕ
long = replicate 300 9

abbrev after_long : Pages
after_long = with_page 4 (replicate 256 9) (with_page 5 (replicate 44 9 ++ replicate 212 0) (with_page 8 (replicate 256 1) at))

long-granted : granted small 0 filled (Some (tail 256 3)) (append 256 300) (free_after 5 11) ≡ got_grants (on_node 8) (free_after 6 10)
unfolding granted planned spliced place
long-granted = refl

long-written : IsWritten small at after_long filled (Some (tail 256 3)) (append 256 300) (on_node 8) long
unfolding planned
long-written = refl

long-others : OthersStay (committed filled (Some (tail 256 3))) (on_node 8) at after_long
long-others page out spare =
    let on = tail 256 3 ∷ [] in
    let off : uses page on ≡ 0 = uses-one page (tail 256 3) ∙ spare in
    another 4 page (replicate 256 9) (with_page 5 (replicate 44 9 ++ replicate 212 0) (with_page 8 (replicate 256 1) at))
    (none-of on page 4 off refl)
    ∙ (another 5 page (replicate 44 9 ++ replicate 212 0) (with_page 8 (replicate 256 1) at) (none-of on page 5 off refl)
    ∙ another 8 page (replicate 256 1) at (none-of (granted_runs (on_node 8)) page 8 out refl))

long-is : IsGrantedChange small (committed filled (Some (tail 256 3))) filled (append 256 300) (on_node 8)
unfolding data_place
long-is = append-is 256 7 2 3 300 8 (replicate 5 false ++ replicate 11 true) (replicate 6 false ++ replicate 10 true)
    (good 256 7 2 (omega arith) (omega arith) refl (omega arith) (omega arith))
    (omega arith) (omega arith) (omega arith) (omega arith) refl long-granted

long-holds : content after_long 256 (tree_entries (laid small filled (Some (tail 256 3)) (append 256 300) (on_node 8)).tree)
    ≡ replicate 256 3 ++ long
long-holds = laid-edited small (committed filled (Some (tail 256 3))) filled (append 256 300) (on_node 8)
    at after_long long in-range long-is ((λ k below. refl), tt) refl long-others long-written

long-committed : version_plain after_long 256 (Some filled) ≡ plain.Present (replicate 256 3)
long-committed = committed-holds small (committed filled (Some (tail 256 3))) filled (append 256 300) (on_node 8)
    at after_long long-is long-others

-- ---- a window: of five segments of two pages each the middle three are enough to write a byte that is put into the third

abbrev two : ℕ → Pair
two page = record { bytes = 512; page = page }

abbrev five : Tree
five = record {
  levels = (record { page = 13; pairs = two 3 ∷ two 5 ∷ two 7 ∷ two 9 ∷ two 11 ∷ [] } ∷ []) ∷ [];
  threshold = 2;
}

abbrev put_third : Change
put_third = record { at = 1279; removed = 0; added = 1; appends = false }

abbrev on_fourteen : Grants
on_fourteen = record { runs = (run 14 2 ∷ []) ∷ []; pages = 16 ∷ [] }

abbrev after_third : Pages
after_third = with_page 14 (replicate 255 7 ++ 45 ∷ []) (with_page 15 (7 ∷ replicate 255 0) at)

third-window : window_at (tree_entries five) 1279 0 ≡ two 5 ∷ two 7 ∷ two 9 ∷ []
third-window = refl

third-told : IsWrittenBy (planned small 2 (window_at (tree_entries five) 1279 0) 0 (moved 512 put_third)).fit small at after_third
    (window_at (tree_entries five) 1279 0) None (moved 512 put_third)
    (planned small 2 (window_at (tree_entries five) 1279 0) 0 (moved 512 put_third)) on_fourteen.runs (45 ∷ [])
unfolding planned
third-told = (refl, tt)

third-written : IsWritten small at after_third five None put_third on_fourteen (45 ∷ [])
third-written = window-written small at after_third five None put_third on_fourteen (45 ∷ []) (omega arith)
    (omega arith, (omega arith, (omega arith, (omega arith, (omega arith, tt)))))
    ((λ k below. refl), ((λ k below. refl), ((λ k below. refl), ((λ k below. refl), ((λ k below. refl), tt)))))
    (record { within = omega arith; some = omega arith; at_end = λ appends. cc }) refl third-told
