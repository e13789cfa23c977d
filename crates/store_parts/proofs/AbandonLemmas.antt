-- The parts of a store, given back one after the other.
use Rattle.std.proofs.Common.{◌≡◌, ℕ, zero, suc, ◌+◌, ◌-◌, ◌*◌, ◌/◌, ◌%◌, ◌<◌, ◌≤◌, Bool, true, false, cond, ◌||◌, ◌&&◌, IsTrue}
use Rattle.std.proofs.Common.{List, [], ◌∷◌, ◌++◌, length, drop, get_or, map, refl, sym, ap, subst, ◌∙◌, arith, inl, inr}
use Rattle.std.proofs.Common.{Option, Some, None, is_some, unwrap_or, All, length-append}
use Rattle.std.specs.Prelude.{slice_get}
use Rattle.std.specs.List.{concat, list_any, list_all, AllByRecursion}
use Rattle.std.proofs.lemmas.Bool.{cases_Bool, cases_lt, false≢true, le-leb, or_left, or_right}
use Rattle.std.proofs.lemmas.List.{get_or-map, get_or_past, length-map, length-replicate, get_or-replicate, drop_at}
use Rattle.std.proofs.lemmas.List.Folds.{list_any_at}
use Rattle.std.proofs.lemmas.List.FromFn.{get_or-map-range_with_len, length-map-range_with_len}
use Rattle.std.proofs.lemmas.Option.{slice_get-get_or, get_or_from_slice_get, slice_get_within}
use Rattle.std.proofs.lemmas.Nat.{div-add-mod', div_below, mod_below}
use Rattle.base_laws.proofs.OptionLaws.{some-if, none-unless}
use Rattle.geometry_model.specs.Numbers.{Numbers, pages, space_pages}
use Rattle.fault_count.specs.Counts.{HasCause, counted}
use Rattle.geometry_model.proofs.NumberLaws.{space_pages-low}
use Rattle.geometry_model.specs.Pages.{directory_page, first_page, place, IsPlace}
use Rattle.geometry_model.proofs.PageLaws.{directory_page-below, data_page-below, place-of_IsPlace, IsPlace-from_place}
use Rattle.tree_model.specs.Tree.{Pages}
use Rattle.block_model.specs.Block.{has_page}
use Rattle.page_port.specs.Pages.{AreOf}
use Rattle.page_port.specs.Device.{Device, after_return, is_home, page_bytes, returned_bytes, with_faults}
use Rattle.image_model.specs.Super.{image_page}
use Rattle.image_model.specs.Image.{image_pages}
use Rattle.span_store.specs.Held.{HeldSpan, AllSized, has}
use Rattle.span_store.specs.Order.{no_span}
use Rattle.span_store.proofs.SpanLists.{page_of-inside, has_page as span_has}
use Rattle.space_directory.specs.SpaceView.{SpaceView}
use Rattle.object_body.specs.Places.{AreHome, is_free_place}
use Rattle.store_format.specs.Writing.{front_count}
use Rattle.store_parts.specs.Fixed.{IsRunAt, IsFixed, directory_span}
use Rattle.store_parts.specs.Parts.{PartsView, StoredView, AreParts, store_frame}
use Rattle.store_parts.specs.Pages.{HasAll, ArePartsOnce, ShowParts, holders}
use Rattle.store_parts.specs.Opening.{AreBack}
use Rattle.store_parts.specs.Returning.{HaveReturned, IsFirstOut, IsOnMount, AreHeldOnMount, ShowsHeld, ShowsSpace, ShowsSpan}
use Rattle.store_parts.specs.Returning.{is_page_of, is_free_of, any_has}
use Rattle.store_parts.proofs.ReturningLemmas.{back-inside, back-behind, length-back, out-away, on-still, sized-still}
use Rattle.store_format.proofs.RowLemmas.{row-image}
use Rattle.store_parts.proofs.PartLemmas.{part_page, parts-shown, parts-alike, holds, found-holder, on-data}

-- ---- lists

pub any-mapped : {X Y : Type 0} (p : Y → Bool) (f : X → Y) (xs : List X) → list_any p (map f xs) ≡ list_any (λ x. p (f x)) xs
any-mapped p f [] = refl
any-mapped p f (x ∷ xs) = ap (λ (b : Bool). p (f x) || b) (any-mapped p f xs)

-- a fact on each item, from a fact on what each is seen as
pub all-mapped : {X Y : Type 0} (P : Y → Type 0) (f : X → Y) (xs : List X) →
    ((i : ℕ) (y : Y) → slice_get (map f xs) i ≡ Some y → P y) → All (λ x. P (f x)) xs
all-mapped P f xs each = λ k d inside.
    each k (f (get_or xs k d)) (slice_get-get_or (map f xs) k (f d) (omega (arith, length-map xs f, inside))
    ∙ ap Some (get_or-map f xs k d (f d) inside))

pub all-got : {X : Type 0} (P : X → Type 0) (xs : List X) → ((i : ℕ) (x : X) → slice_get xs i ≡ Some x → P x) → All P xs
all-got P xs each = λ k d inside. each k (get_or xs k d) (slice_get-get_or xs k d inside)

-- ---- what is on the mount

pub first-out : (d : Device) (parts : PartsView) → HasAll d parts → IsFirstOut d
first-out d parts all =
    ap (λ (ps : List (Option (List ℕ))). get_or ps 0 None) all.out ∙ get_or-replicate (pages parts.numbers) 0 None None (omega arith)

pub many-out : (d : Device) (parts : PartsView) → HasAll d parts → length d.pages ≡ pages parts.numbers
many-out d parts all = ap length all.out ∙ length-replicate {A = Option (List ℕ)} (pages parts.numbers) None

pub held-on : (tells : Bool) (d : Device) (parts : PartsView) (o : ℕ) (x : StoredView) → AreParts tells parts → HasAll d parts →
    slice_get parts.objects o ≡ Some x → AreHeldOnMount d x.pages
held-on tells d parts o x sound all at q is =
    let n = parts.numbers in
    let spot = some-if (place n q) (on-data tells n x (sound.objects o x at) q is) in
    let here = IsPlace-from_place n q spot.0.0 spot.0.1 spot.1 in
    record {
      some = omega (arith, here.is_page);
      range = omega (arith, many-out d parts all, here.is_page, data_page-below n spot.0.0 spot.0.1 here.in_store here.in_space);
    }

pub held-sized : (tells : Bool) (d : Device) (parts : PartsView) (o : ℕ) (x : StoredView) → AreParts tells parts →
    d.mounted ≡ Some parts.numbers.page → slice_get parts.objects o ≡ Some x → AllSized tells (unwrap_or d.mounted 0) x.pages
held-sized tells d parts o x sound mounted at =
    let hand = sound.objects o x at in
    subst (λ (k : ℕ). AllSized tells k x.pages)
    (ap (λ (m : Numbers). m.page) hand.numbers ∙ sym (ap (λ (m : Option ℕ). unwrap_or m 0) mounted)) hand.keeps.sized

-- a space on its data pages
pub space-first : (n : Numbers) (spaces : List SpaceView) (s : ℕ) (v : SpaceView) → AreHome (store_frame n) spaces →
    slice_get spaces s ≡ Some v → (s < n.spaces) × (v.first ≡ first_page n s) × (length v.free ≡ space_pages n) × (v.page ≡ n.page)
space-first n spaces s v home at =
    let frame = store_frame n in
    let of = home.home s v at in
    let firsts : length frame.firsts ≡ n.spaces = length-map-range_with_len (first_page n) 0 n.spaces in
    let inside : s < n.spaces = omega (arith, slice_get_within spaces s v at, home.number, firsts) in
    let start : 0 + s ≡ s = omega arith in (
      inside,
      of.first ∙ get_or-map-range_with_len (first_page n) 0 n.spaces s s 0 inside start,
      of.pages,
      of.page,
    )

pub space-on : (d : Device) (parts : PartsView) (s : ℕ) (v : SpaceView) → AreHome (store_frame parts.numbers) parts.spaces →
    HasAll d parts →
    1 ≤ space_pages parts.numbers →
    slice_get parts.spaces s ≡ Some v → IsOnMount d v.first (length v.free) × (d.mounted ≡ Some v.page)
space-on d parts s v home all some at =
    let n = parts.numbers in
    let of = space-first n parts.spaces s v home at in
    let last = data_page-below n s (space_pages n - 1) of.0 (omega (arith, some)) in (
      record { some = omega (arith, of.1); range = omega (arith, of.1, of.2, last, many-out d parts all, some) },
      all.mounted ∙ ap Some (sym of.3),
    )

pub space-shows : (parts : PartsView) (at : Pages) (s : ℕ) (v : SpaceView) → AreHome (store_frame parts.numbers) parts.spaces →
    ShowParts parts at → ((place : ℕ) → has_page v.free place ≡ true → place < length v.free) →
    slice_get parts.spaces s ≡ Some v → ShowsSpace at v
space-shows parts at s v home shown within got place is =
    let n = parts.numbers in
    let of = space-first n parts.spaces s v home got in
    let here : IsPlace n (v.first + place) s place = record {
      in_store = of.0;
      in_space = omega (arith, within place is, of.2);
      is_page = omega (arith, of.1);
    } in
    let inside = slice_get_within parts.spaces s v got in
    let mine = get_or_from_slice_get parts.spaces s v v got in
    let frees : get_or (map (λ (w : SpaceView). w.free) parts.spaces) s [] ≡ v.free =
    get_or-map (λ (w : SpaceView). w.free) parts.spaces s v [] inside ∙ ap (λ (w : SpaceView). w.free) mine in
    let helds : get_or (map (λ (w : SpaceView). w.held) parts.spaces) s [] ≡ v.held =
    get_or-map (λ (w : SpaceView). w.held) parts.spaces s v [] inside ∙ ap (λ (w : SpaceView). w.held) mine in
    sym (shown.free (v.first + place) s place here (ap (λ (f : List Bool). has_page f place) frees ∙ is)
    ∙ ap (λ (h : List (List ℕ)). get_or h place []) helds)

-- a directory on its page
pub directory-at : (tells : Bool) (parts : PartsView) (s : ℕ) (span : HeldSpan) → IsFixed tells parts.numbers parts.fixed →
    slice_get parts.fixed.directories s ≡ Some span →
    (s < parts.numbers.spaces) × (directory_span parts.fixed s ≡ span) × IsRunAt tells parts.numbers.page (directory_page parts.numbers
    s) 1 span
directory-at tells parts s span fixed at =
    let n = parts.numbers in
    let inside : s < n.spaces = omega (arith, slice_get_within parts.fixed.directories s span at, fixed.number) in
    let same : directory_span parts.fixed s ≡ span = get_or_from_slice_get parts.fixed.directories s span no_span at in (
      inside,
      same,
      subst (IsRunAt tells n.page (directory_page n s) 1) same (fixed.directories s inside),
    )

pub directory-on : (tells : Bool) (d : Device) (parts : PartsView) (s : ℕ) (span : HeldSpan) → IsTrue tells →
    IsFixed tells parts.numbers parts.fixed → HasAll d parts → slice_get parts.fixed.directories s ≡ Some span →
    IsOnMount d span.first (length span.pages) × AreOf (unwrap_or d.mounted 0) span.pages
directory-on tells d parts s span tell fixed all at =
    let n = parts.numbers in
    let here = directory-at tells parts s span fixed at in
    let run = here.2 in (
      record {
        some = omega (arith, run.first);
        range = omega (arith, run.first, run.count, directory_page-below n s here.0, many-out d parts all);
      },
      subst (λ (k : ℕ). AreOf k span.pages) (sym (ap (λ (m : Option ℕ). unwrap_or m 0) all.mounted)) (run.sized tell),
    )

pub directory-shows : (tells : Bool) (parts : PartsView) (at : Pages) (s : ℕ) (span : HeldSpan) →
    IsFixed tells parts.numbers parts.fixed →
    ShowParts parts at → slice_get parts.fixed.directories s ≡ Some span → ShowsSpan at span
directory-shows tells parts at s span fixed shown got q page is =
    let n = parts.numbers in
    let here = directory-at tells parts s span fixed got in
    let run = here.2 in
    let within = span_has span q (ap is_some is) in
    let only : q ≡ span.first = omega (arith, within.0, within.1, run.count) in
    let spot : q - span.first ≡ 0 = omega (arith, only) in
    let mine : page ≡ get_or span.pages (q - span.first) [] =
    ap (λ (o : Option (List ℕ)). unwrap_or o page) (sym is ∙ page_of-inside span q within.0 within.1) in
    mine ∙ (ap (λ (k : ℕ). get_or span.pages k []) spot
    ∙ (ap (λ (h : HeldSpan). get_or h.pages 0 []) (sym here.1)
    ∙ (sym (shown.directories s here.0) ∙ ap at (sym (only ∙ run.first)))))

-- ---- each page behind the front pages came back

-- a page behind the front pages is a directory or a data page
pub directory-or-data : (n : Numbers) (q : ℕ) → front_count n ≤ q → q < pages n → place n q ≡ None →
    (s : ℕ) × (s < n.spaces) × (q ≡ directory_page n s)
directory-or-data n q from inside none =
    let width : ℕ = 1 + space_pages n in
    let row : ℕ = q - front_count n in
    let whole : row / width * width + row % width ≡ row = div-add-mod' row width in
    let store : row / width < n.spaces = div_below row width n.spaces (omega arith) (omega (arith, from, inside)) in
    elim (cases_lt 0 (row % width)) [
      | inl data_place ↦
          let here : IsPlace n q (row / width) (row % width - 1) = record {
            in_store = store;
            in_space = omega (arith, data_place, mod_below row width (omega arith));
            is_page = omega (arith, whole, from, data_place);
          } in
          absurd (false≢true (ap is_some (sym none ∙ place-of_IsPlace n q (row / width) (row % width - 1) here)))
      | inr first ↦ (row / width, store, omega (arith, whole, from, first))
    ]

-- no space
abbrev pub no_view : SpaceView
no_view = record { number = 0; first = 0; page = 0; free = []; locked = []; held = [] }

pub covered : (tells : Bool) (parts : PartsView) (q : ℕ) → AreParts tells parts → ArePartsOnce parts → front_count parts.numbers ≤ q →
    q < pages parts.numbers →
    (any_has is_page_of parts.fixed.directories q || (any_has is_free_of parts.spaces q || list_any (holds q) parts.objects)) ≡ true
covered tells parts q sound once from inside =
    let n = parts.numbers in
    let directories : Bool = any_has is_page_of parts.fixed.directories q in
    let free : Bool = any_has is_free_of parts.spaces q in
    let held : Bool = list_any (holds q) parts.objects in
    elim (cases_Bool (is_some (place n q))) [
      | inr none ↦
          let spot = directory-or-data n q from inside (none-unless (place n q) none) in
          let s : ℕ = spot.0 in
          let run = sound.fixed.directories s spot.1 in
          let here : is_page_of (directory_span parts.fixed s) q ≡ true =
          ap is_some (page_of-inside (directory_span parts.fixed s) q (omega (arith, run.first, spot.2)) (omega (
            arith,
            run.first,
            run.count,
            spot.2,
          ))) in
          or_left directories (free || held)
          (list_any_at (λ (span : HeldSpan). is_page_of span q) parts.fixed.directories s no_span (omega (
            arith,
            spot.1,
            sound.fixed.number,
          )) here)
      | inl some ↦
          let spot = some-if (place n q) some in
          let s : ℕ = spot.0.0 in
          let at : ℕ = spot.0.1 in
          let here = IsPlace-from_place n q s at spot.1 in
          elim (cases_Bool (is_free_place parts.spaces s at)) [
            | inl is ↦
                let long : length (store_frame n).firsts ≡ n.spaces = length-map-range_with_len (first_page n) 0 n.spaces in
                let within : s < length parts.spaces = omega (arith, here.in_store, sound.spaces.number, long) in
                let v : SpaceView = get_or parts.spaces s no_view in
                let got : slice_get parts.spaces s ≡ Some v = slice_get-get_or parts.spaces s no_view within in
                let of = space-first n parts.spaces s v sound.spaces got in
                let frees : get_or (map (λ (w : SpaceView). w.free) parts.spaces) s [] ≡ v.free =
                get_or-map (λ (w : SpaceView). w.free) parts.spaces s no_view [] within in
                let spot_of : q - v.first ≡ at = omega (arith, here.is_page, of.1) in
                let bit : is_free_of v q ≡ true =
                ap (λ (b : Bool). b && has_page v.free (q - v.first)) (le-leb v.first q (omega (arith, here.is_page, of.1)))
                ∙ (ap (has_page v.free) spot_of ∙ (ap (λ (f : List Bool). has_page f at) (sym frees) ∙ is)) in
                or_right directories (free || held)
                (or_left free held (list_any_at (λ (w : SpaceView). is_free_of w q) parts.spaces s no_view within bit))
            | inr used ↦
                let one : holders parts q ≡ 1 = once q s at here ∙ ap (λ (b : Bool). cond {A = ℕ} b 0 1) used in
                or_right directories (free || held) (or_right free held (found-holder parts.objects q (omega (arith, one))))
          ]
    ]

-- ---- the last run, from page 0 on

all-by : (P : Option (List ℕ) → Type 0) (pages : List (Option (List ℕ))) → ((q : ℕ) → q < length pages → P (get_or pages q None)) →
    AllByRecursion P pages
all-by P [] each = tt
all-by P (p ∷ ps) each = (each 0 (omega arith), all-by P ps (λ q inside. each (suc q) (omega (arith, inside))))

all-some : (pages : List (Option (List ℕ))) → AllByRecursion (λ p. is_some p ≡ true) pages → list_all is_some pages ≡ true
all-some [] each = refl
all-some (p ∷ ps) each = ap (λ (b : Bool). b && list_all is_some ps) each.0 ∙ all-some ps each.1

length-returned : (size : ℕ) (pages : List (Option (List ℕ))) → AllByRecursion (λ p. length (page_bytes p) ≡ size) pages →
    length (returned_bytes pages) ≡ length pages * size
length-returned size [] each = let none : 0 * size ≡ 0 = omega arith in sym none
length-returned size (p ∷ ps) each =
    let step : suc (length ps) * size ≡ size + length ps * size = omega arith in
    omega (arith, length-append (page_bytes p) (returned_bytes ps), each.0, length-returned size ps each.1, step)

concat-bytes : (pages : List (Option (List ℕ))) → concat (map page_bytes pages) ≡ returned_bytes pages
concat-bytes [] = refl
concat-bytes (p ∷ ps) = ap (λ (rest : List ℕ). page_bytes p ++ rest) (concat-bytes ps)

bytes-sized : (size : ℕ) (pages : List (Option (List ℕ))) → AllByRecursion (λ p. length (page_bytes p) ≡ size) pages →
    AreOf size (map page_bytes pages)
bytes-sized size [] each = λ k d inside. absurd (omega (arith, inside))
bytes-sized size (p ∷ ps) each = by-place (bytes-sized size ps each.1)
  where
    by-place : AreOf size (map page_bytes ps) → (k : ℕ) (d : List ℕ) → k < suc (length (map page_bytes ps)) →
        length (get_or (page_bytes p ∷ map page_bytes ps) k d) ≡ size
    by-place rest zero d inside = each.0
    by-place rest (suc j) d inside = rest j d (omega (arith, inside))

-- each page stands in the bytes at its number
came-back : (size : ℕ) (pages : List (Option (List ℕ))) (rest : List ℕ) → AllByRecursion (λ p. length (page_bytes p) ≡ size) pages →
    (q : ℕ) → q < length pages → image_page size (returned_bytes pages ++ rest) q ≡ page_bytes (get_or pages q None)
came-back size pages rest each q inside =
    ap (λ (xs : List ℕ). image_page size (xs ++ rest) q) (sym (concat-bytes pages))
    ∙ (row-image size (map page_bytes pages) rest (bytes-sized size pages each) q (omega (arith, length-map pages page_bytes, inside))
    ∙ get_or-map page_bytes pages q None [] inside)

-- the count of faults changes nothing of what came back
pub back-counted : (parts : PartsView) (before now after : Device) (faults : ℕ) → after ≡ with_faults now faults →
    AreBack parts before now →
    AreBack parts before after
back-counted parts before now after faults same back =
    let bytes : after.bytes ≡ now.bytes = ap (λ (d : Device). d.bytes) same in
    record {
      home = ap is_home same ∙ back.home;
      count = ap length bytes ∙ back.count;
      behind = ap (drop (pages parts.numbers * parts.numbers.page)) bytes ∙ back.behind;
      shows = subst (λ (xs : List ℕ). ShowParts parts (image_pages parts.numbers xs)) (sym bytes) back.shows;
    }

pub all-came-back : (tells : Bool) (parts : PartsView) (t : ℕ → Bool) (before now after : Device) → AreParts tells parts → IsTrue tells →
    HasAll before parts → HaveReturned (part_page parts) t before now →
    ((q : ℕ) → front_count parts.numbers ≤ q → q < pages parts.numbers → t q ≡ true) →
    after.pages ≡ after_return 0 parts.fixed.front.pages now.pages →
    (is_home now ≡ false → IsTrue (is_home after) → after.bytes ≡ returned_bytes after.pages ++ now.bytes) →
    AreBack parts before after
all-came-back tells parts t before now after sound tell all back came moved home =
    let n = parts.numbers in
    let at = part_page parts in
    let shown = parts-shown tells parts sound all.once in
    let front = sound.fixed.front in
    let contents : List (List ℕ) = parts.fixed.front.pages in
    let many : length now.pages ≡ pages n = back.count ∙ many-out before parts all in
    let range : 0 + length contents ≤ length now.pages = omega (arith, front.count, many) in
    let long : length after.pages ≡ pages n = ap length moved ∙ (length-back 0 contents now.pages range ∙ many) in
    let size : unwrap_or before.mounted 0 ≡ n.page = ap (λ (m : Option ℕ). unwrap_or m 0) all.mounted in
    let each : (q : ℕ) → q < pages n → (get_or after.pages q None ≡ Some (at q)) × (length (at q) ≡ n.page) = λ q inside.
    let here : get_or after.pages q None ≡ get_or (after_return 0 contents now.pages) q None =
    ap (λ (ps : List (Option (List ℕ))). get_or ps q None) moved in
    elim (cases_lt q (front_count n)) [
      | inl low ↦
          let mine : at q ≡ get_or contents q [] = shown.front q low in
          let spot : q - 0 ≡ q = omega arith in (
            here ∙ (back-inside 0 q contents now.pages range (omega arith) (omega (arith, front.count, low))
                ∙ (ap (λ (k : ℕ). Some (get_or contents k [])) spot ∙ ap Some (sym mine))),
            ap length mine ∙ front.sized tell q [] (omega (arith, front.count, low)),
          )
      | inr high ↦
          let is = came q high inside in (
            here ∙ (back-behind 0 q contents now.pages range (omega (arith, front.count, high)) ∙ back.came q is),
            back.sized q is ∙ size,
          )
    ] in
    let sized : AllByRecursion (λ p. length (page_bytes p) ≡ n.page) after.pages = all-by (λ p. length (page_bytes p) ≡ n.page)
    after.pages
    (λ q inside. let e = each q (omega (arith, long, inside)) in ap (λ (p : Option (List ℕ)). length (page_bytes p)) e.0 ∙ e.1) in
    let is_back : IsTrue (is_home after) = all-some after.pages (all-by (λ p. is_some p ≡ true) after.pages
    (λ q inside. ap is_some (each q (omega (arith, long, inside))).0)) in
    let away : is_home now ≡ false = out-away now.pages (omega (arith, many)) back.first in
    let bytes : after.bytes ≡ returned_bytes after.pages ++ before.bytes =
    home away is_back ∙ ap (λ (rest : List ℕ). returned_bytes after.pages ++ rest) back.bytes in
    let total : length (returned_bytes after.pages) ≡ pages n * n.page =
    length-returned n.page after.pages sized ∙ ap (λ (k : ℕ). k * n.page) long in
    record {
      home = is_back;
      count = ap length bytes ∙ omega (arith, length-append (returned_bytes after.pages) before.bytes, total);
      behind = ap (drop (pages n * n.page)) bytes ∙ drop_at (returned_bytes after.pages) before.bytes (pages n * n.page) total;
      shows = parts-alike tells parts at (image_pages n after.bytes) sound
          (λ q inside. ap (λ (xs : List ℕ). image_page n.page xs q) bytes
          ∙ (came-back n.page after.pages before.bytes sized q (omega (arith, long, inside))
          ∙ ap page_bytes (each q inside).0)) shown;
    }

-- ---- the parts, ready to be given back

within-free : (free : List Bool) (place : ℕ) → has_page free place ≡ true → place < length free
within-free free place is = elim (cases_lt place (length free)) [
  | inl inside ↦ inside
  | inr past ↦ absurd (false≢true (sym (get_or_past free place false past) ∙ is))
]

pub objects-ready : {X : Type 0} (f : X → StoredView) (xs : List X) (tells : Bool) (d : Device) (parts : PartsView) →
    map f xs ≡ parts.objects →
    AreParts tells parts → HasAll d parts →
    All (λ x. AreHeldOnMount d (f x).pages × AllSized tells (unwrap_or d.mounted 0) (f x).pages) xs
objects-ready f xs tells d parts same sound all =
    all-mapped (λ (y : StoredView). AreHeldOnMount d y.pages × AllSized tells (unwrap_or d.mounted 0) y.pages) f xs
    (λ o y got.
    let here : slice_get parts.objects o ≡ Some y = ap (λ (ys : List StoredView). slice_get ys o) (sym same) ∙ got in
    (held-on tells d parts o y sound all here, held-sized tells d parts o y sound all.mounted here))

pub objects-show : {X : Type 0} (f : X → StoredView) (xs : List X) (at : Pages) (parts : PartsView) → map f xs ≡ parts.objects →
    ShowParts parts at → All (λ x. ShowsHeld at (f x).pages) xs
objects-show f xs at parts same shown =
    all-mapped (λ (y : StoredView). ShowsHeld at y.pages) f xs
    (λ o y got q is. sym (shown.held o q y (ap (λ (ys : List StoredView). slice_get ys o) (sym same) ∙ got) is))

pub spaces-ready : (tells : Bool) (before now : Device) (parts : PartsView) → AreParts tells parts → HasAll before parts →
    length now.pages ≡ length before.pages → now.mounted ≡ before.mounted →
    All (λ (v : SpaceView). IsOnMount now v.first (length v.free) × (now.mounted ≡ Some v.page)) parts.spaces
spaces-ready tells before now parts sound all count mounted =
    all-got (λ (v : SpaceView). IsOnMount now v.first (length v.free) × (now.mounted ≡ Some v.page)) parts.spaces
    (λ s v got.
    let low = space_pages-low parts.numbers sound.in_range in
    let on = space-on before parts s v sound.spaces all (omega (arith, low)) got in
    (on-still before now v.first (length v.free) count on.0, mounted ∙ on.1))

pub spaces-show : (tells : Bool) (at : Pages) (parts : PartsView) → AreParts tells parts → ShowParts parts at →
    All (ShowsSpace at) parts.spaces
spaces-show tells at parts sound shown =
    all-got (ShowsSpace at) parts.spaces
    (λ s v got. space-shows parts at s v sound.spaces shown (within-free v.free) got)

pub directories-ready : {X : Type 0} (f : X → HeldSpan) (xs : List X) (tells : Bool) (before now : Device) (parts : PartsView) →
    map f xs ≡ parts.fixed.directories → IsTrue tells → AreParts tells parts → HasAll before parts →
    length now.pages ≡ length before.pages → now.mounted ≡ before.mounted →
    All (λ x. IsOnMount now (f x).first (length (f x).pages) × AreOf (unwrap_or now.mounted 0) (f x).pages) xs
directories-ready f xs tells before now parts same tell sound all count mounted =
    all-mapped (λ (y : HeldSpan). IsOnMount now y.first (length y.pages) × AreOf (unwrap_or now.mounted 0) y.pages) f xs
    (λ s y got.
    let here : slice_get parts.fixed.directories s ≡ Some y = ap (λ (ys : List HeldSpan). slice_get ys s) (sym same) ∙ got in
    let on = directory-on tells before parts s y tell sound.fixed all here in
    (on-still before now y.first (length y.pages) count on.0, sized-still before now y.pages mounted on.1))

pub directories-show : {X : Type 0} (f : X → HeldSpan) (xs : List X) (tells : Bool) (at : Pages) (parts : PartsView) →
    map f xs ≡ parts.fixed.directories → AreParts tells parts → ShowParts parts at → All (λ x. ShowsSpan at (f x)) xs
directories-show f xs tells at parts same sound shown =
    all-mapped (ShowsSpan at) f xs
    (λ s y got. directory-shows tells parts at s y sound.fixed shown (ap (λ (ys : List HeldSpan). slice_get ys s) (sym same) ∙ got))

-- each page behind the front pages is in one of the parts
pub all-covered : {X Y : Type 0} (f : X → HeldSpan) (xs : List X) (h : Y → StoredView) (ys : List Y) (tells : Bool) (parts : PartsView) →
    map f xs ≡ parts.fixed.directories → map h ys ≡ parts.objects → AreParts tells parts → ArePartsOnce parts →
    (q : ℕ) → front_count parts.numbers ≤ q → q < pages parts.numbers →
    (any_has (λ x. is_page_of (f x)) xs q || (any_has is_free_of parts.spaces q || any_has (λ y. has (h y).pages) ys q)) ≡ true
all-covered f xs h ys tells parts same_spans same_objects sound once q from inside =
    let spans : list_any (λ (s : HeldSpan). is_page_of s q) parts.fixed.directories ≡ any_has (λ x. is_page_of (f x)) xs q =
    ap (list_any (λ (s : HeldSpan). is_page_of s q)) (sym same_spans) ∙ any-mapped (λ (s : HeldSpan). is_page_of s q) f xs in
    let objects : list_any (holds q) parts.objects ≡ any_has (λ y. has (h y).pages) ys q =
    ap (list_any (holds q)) (sym same_objects) ∙ any-mapped (holds q) h ys in
    sym (ap (λ (b : Bool). b || (any_has is_free_of parts.spaces q || list_any (holds q) parts.objects)) spans
    ∙ ap (λ (b : Bool). any_has (λ x. is_page_of (f x)) xs q || (any_has is_free_of parts.spaces q || b)) objects)
    ∙ covered tells parts q sound once from inside

-- the faults of a port that was taken back
pub absorbed-cause : (before mid faults now : ℕ) → mid ≡ before → mid ≤ now → counted mid faults ≤ now → (faults ≡ 0 → now ≡ mid) →
    HasCause before now (0 < faults)
absorbed-cause before mid faults now same never counts none = record {
  kept = omega (arith, same, never);
  raised = λ some. omega (arith, same, counts, some);
  still = λ quiet. none (zero-or faults quiet) ∙ same;
}
  where
    zero-or : (k : ℕ) → (0 < k → ⊥) → k ≡ 0
    zero-or zero quiet = refl
    zero-or (suc k) quiet = absurd (quiet (omega arith))
