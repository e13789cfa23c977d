-- The pages of no object, from the spans in which they stand.
use Rattle.std.proofs.Common.{◌≡◌, ℕ, ◌+◌, ◌*◌, ◌/◌, ◌<◌, Bool, IsTrue, List, [], ◌∷◌, length, get_or, set, map, sym, ap, subst, ◌∙◌, arith}
use Rattle.std.proofs.Common.{All}
use Rattle.std.proofs.lemmas.List.{get_or-map, length-map, map-set}
use Rattle.std.proofs.lemmas.List.FromFn.{length-map-range_with_len}
use Rattle.std.proofs.lemmas.Option.{slice_get-get_or}
use Rattle.geometry_model.specs.Numbers.{Numbers}
use Rattle.geometry_model.specs.Pages.{first_page}
use Rattle.block_model.specs.Directory.{directory_page as directory_bytes}
use Rattle.page_port.specs.Pages.{IsSized}
use Rattle.image_model.specs.Super.{image_page}
use Rattle.span_store.specs.Held.{HeldSpan, span_of, spans_of}
use Rattle.span_store.specs.Order.{no_span}
use Rattle.space_directory.specs.SpaceView.{SpaceView}
use Rattle.superdirectory.specs.Rest.{IsOf}
use Rattle.object_body.specs.Places.{AreHome}
use Rattle.store_format.specs.Rows.{row_page, KeepsShape}
use Rattle.store_format.specs.Writing.{front_count}
use Rattle.store_format.proofs.WritingLemmas.{front-rows}
use Rattle.store_parts.specs.Fixed.{FixedView, IsFixed, IsRunAt, directory_span}
use Rattle.store_parts.specs.Parts.{store_frame}
use Rattle.store_parts.proofs.AbandonLemmas.{no_view}
use Rattle.image_store.specs.Closing.{AreFixedCut, AreFixedWritten, AreSpansWritten, closed_directory, directory_of, fixed_of}
use Rattle.image_store.proofs.SpanLemmas.{span_at}

-- ---- the spaces

pub as-many : (n : Numbers) (spaces : List SpaceView) → AreHome (store_frame n) spaces → length spaces ≡ n.spaces
as-many n spaces home = home.number ∙ length-map-range_with_len (first_page n) 0 n.spaces

-- a space writes the directory of its number
pub directory-closed : (n : Numbers) (spaces : List SpaceView) (s : ℕ) → AreHome (store_frame n) spaces → s < n.spaces →
    directory_of spaces s ≡ closed_directory n spaces s
directory-closed n spaces s home store =
    let inside : s < length spaces = omega (arith, store, as-many n spaces home) in
    let v : SpaceView = get_or spaces s no_view in
    let of : IsOf (store_frame n) s v = home.home s v (slice_get-get_or spaces s no_view inside) in
    get_or-map (λ (w : SpaceView). directory_bytes w.page w.number w.free) spaces s no_view [] inside
    ∙ (ap (λ (k : ℕ). directory_bytes k v.number v.free) of.page
    ∙ (ap (λ (k : ℕ). directory_bytes n.page k v.free) of.number
    ∙ ap (directory_bytes n.page s) (sym (get_or-map (λ (w : SpaceView). w.free) spaces s no_view [] inside))))

-- what a space of the list writes stands at its place
pub directory-there : (spaces : List SpaceView) (s : ℕ) (v : SpaceView) → s < length spaces → v ≡ get_or spaces s v →
    directory_bytes v.page v.number v.free ≡ directory_of spaces s
directory-there spaces s v inside is =
    ap (λ (w : SpaceView). directory_bytes w.page w.number w.free) is
    ∙ sym (get_or-map (λ (w : SpaceView). directory_bytes w.page w.number w.free) spaces s v [] inside)

pub spaces-sized : (n : Numbers) (spaces : List SpaceView) (size : ℕ) → AreHome (store_frame n) spaces → size ≡ n.page →
    All (λ (v : SpaceView). v.page ≡ size) spaces
spaces-sized n spaces size home same = λ k d inside.
    (home.home k (get_or spaces k d) (slice_get-get_or spaces k d inside)).page ∙ sym same

-- ---- the spans

-- written spans are those of the same pages
pub fixed-still : (tells : Bool) (n : Numbers) (size done : ℕ) (directories : ℕ → List ℕ) (old now : FixedView) → size ≡ n.page →
    IsFixed tells n old → AreSpansWritten tells size directories done old.directories now.directories →
    IsRunAt tells n.page 0 (front_count n) now.front → now.room ≡ old.room → IsFixed tells n now
fixed-still tells n size done directories old now same fixed written front room = record {
  front = front;
  number = written.count ∙ fixed.number;
  directories = λ s store.
      let was = fixed.directories s store in
      let is = written.shape s (omega (arith, store, fixed.number)) in
      record {
        first = is.first ∙ was.first;
        count = is.count ∙ was.count;
        sized = subst (λ (k : ℕ). IsSized tells k (span_at now.directories s).pages) same is.sized;
      };
  room = room ∙ fixed.room;
}

-- a span that was written in place is one of the same run
pub run-still : (tells : Bool) (size n from count : ℕ) (old now : HeldSpan) → size ≡ n → IsRunAt tells n from count old →
    now.first ≡ old.first → KeepsShape tells size old.pages now.pages → IsRunAt tells n from count now
run-still tells size n from count old now same run place shape = record {
  first = place ∙ run.first;
  count = shape.count ∙ run.count;
  sized = subst (λ (k : ℕ). IsSized tells k now.pages) same shape.sized;
}

-- each directory has its one page
pub directories-each : {X : Type 0} (start : X → ℕ) (contents : X → List (List ℕ)) (tells : Bool) (n : Numbers) (size : ℕ)
    (fixed : FixedView) (xs : List X) → size ≡ n.page → fixed.directories ≡ spans_of start contents xs → IsFixed tells n fixed →
    All (λ (x : X). (length (contents x) ≡ 1) × IsSized tells size (contents x)) xs
directories-each {X} start contents tells n size fixed xs same are sound = λ s d inside.
    let many : length (spans_of start contents xs) ≡ length xs = length-map xs (span_of start contents) in
    let long : length fixed.directories ≡ length (spans_of start contents xs) = ap (length {A = HeldSpan}) are in
    let run = sound.directories s (omega (arith, inside, many, long, sound.number)) in
    let here : directory_span fixed s ≡ span_of start contents (get_or xs s d) =
    ap (λ (ys : List HeldSpan). get_or ys s no_span) are ∙ get_or-map (span_of start contents) xs s d no_span inside in (
      ap (λ (h : HeldSpan). length h.pages) (sym here) ∙ run.count,
      subst (λ (k : ℕ). IsSized tells k (contents (get_or xs s d))) (sym same)
          (subst (λ (h : HeldSpan). IsSized tells n.page h.pages) here run.sized),
    )

-- ---- what was written

pub all-written : (tells : Bool) (n : Numbers) (size unit : ℕ) (spaces : List SpaceView) (bytes room : List ℕ) (old now : FixedView) →
    IsTrue tells → AreHome (store_frame n) spaces → unit ≡ n.page → 0 < n.page → room ≡ bytes → length bytes ≡ front_count n * n.page →
    AreSpansWritten tells size (directory_of spaces) n.spaces old.directories now.directories →
    ((page : ℕ) → page < length room / unit → row_page now.front.pages (0 + page) ≡ image_page unit room page) →
    AreFixedWritten n (closed_directory n spaces) bytes now
all-written tells n size unit spaces bytes room old now tell home same some put long written front =
    let rows = front-rows n bytes room unit same some put long in
    record {
      directories = λ s store. written.stand tell s store ∙ directory-closed n spaces s home store;
      front = λ page inside.
          let place : 0 + page ≡ page = omega arith in
          sym (ap (row_page now.front.pages) place) ∙ (front page (omega (arith, inside, rows))
          ∙ (ap (λ (k : ℕ). image_page k room page) same ∙ ap (λ (xs : List ℕ). image_page n.page xs page) put));
    }

-- the directories were cut short: the front pages are as they were
pub directories-cut : (tells : Bool) (n : Numbers) (size done : ℕ) (spaces : List SpaceView) (old now : FixedView) → IsTrue tells →
    AreHome (store_frame n) spaces → done < n.spaces →
    AreSpansWritten tells size (directory_of spaces) done old.directories now.directories →
    now.front ≡ old.front → AreFixedCut n (closed_directory n spaces) done old now
directories-cut tells n size done spaces old now tell home fewer written front = record {
  within = omega (arith, fewer);
  stand = λ s below. written.stand tell s below ∙ directory-closed n spaces s home (omega (arith, below, fewer));
  behind = λ s above store. ap (λ (x : HeldSpan). get_or x.pages 0 []) (written.behind s above);
  front = λ page some. ap (λ (x : HeldSpan). get_or x.pages page []) front;
}

-- the front pages were: the directories are written
pub front-cut : (tells : Bool) (n : Numbers) (size : ℕ) (spaces : List SpaceView) (old now : FixedView) → IsTrue tells →
    AreHome (store_frame n) spaces → AreSpansWritten tells size (directory_of spaces) n.spaces old.directories now.directories →
    AreFixedCut n (closed_directory n spaces) n.spaces old now
front-cut tells n size spaces old now tell home written = record {
  within = omega arith;
  stand = λ s below. written.stand tell s below ∙ directory-closed n spaces s home below;
  behind = λ s above store. absurd (omega (arith, above, store));
  front = λ page some. absurd (omega (arith, some));
}

-- ---- one span of a list

-- a directory of one page still is one
pub one-still : {X : Type 0} (start : X → ℕ) (contents : X → List (List ℕ)) (tells : Bool) (size : ℕ) (directories : ℕ → List ℕ)
    (done s : ℕ) (old now : List X) (d : X) → s < length old →
    AreSpansWritten tells size directories done (spans_of start contents old) (spans_of start contents now) →
    All (λ (x : X). (length (contents x) ≡ 1) × IsSized tells size (contents x)) old →
    (length (contents (get_or now s d)) ≡ 1) × IsSized tells size (contents (get_or now s d))
one-still start contents tells size directories done s old now d inside written each =
    let many : length (spans_of start contents old) ≡ length old = length-map old (span_of start contents) in
    let many_now : length (spans_of start contents now) ≡ length now = length-map now (span_of start contents) in
    let run = written.shape s (omega (arith, inside, many)) in
    let was : span_at (spans_of start contents old) s ≡ span_of start contents (get_or old s d) =
    get_or-map (span_of start contents) old s d no_span inside in
    let is : span_at (spans_of start contents now) s ≡ span_of start contents (get_or now s d) =
    get_or-map (span_of start contents) now s d no_span (omega (arith, inside, many, many_now, written.count)) in (
      ap (λ (h : HeldSpan). length h.pages) (sym is) ∙ (run.count ∙ (ap (λ (h : HeldSpan). length h.pages) was ∙ (each s d inside).0)),
      subst (λ (h : HeldSpan). IsSized tells size h.pages) is run.sized,
    )

pub spans-runs : {X : Type 0} (start : X → ℕ) (contents : X → List (List ℕ)) (tells : Bool) (size : ℕ) (xs : List X) →
    All (λ x. IsSized tells size (contents x)) xs → (s : ℕ) → s < length (spans_of start contents xs) →
    IsSized tells size (span_at (spans_of start contents xs) s).pages
spans-runs {X} start contents tells size xs each s inside = by-list xs s each inside
  where
    by-list : (ys : List X) (k : ℕ) → All (λ x. IsSized tells size (contents x)) ys → k < length (spans_of start contents ys) →
        IsSized tells size (span_at (spans_of start contents ys) k).pages
    by-list [] k all within = absurd (omega (arith, within))
    by-list (y ∷ ys) k all within =
        let long : length (map (span_of start contents) (y ∷ ys)) ≡ length (y ∷ ys) = length-map (y ∷ ys) (span_of start contents) in
        subst (λ (h : HeldSpan). IsSized tells size h.pages)
        (sym (get_or-map (span_of start contents) (y ∷ ys) k y no_span (omega (arith, within, long))))
        (all k y (omega (arith, within, long)))

-- one span written in place, and no other
pub spans-set : {X : Type 0} (start : X → ℕ) (contents : X → List (List ℕ)) (xs : List X) (s : ℕ) (x : X) →
    spans_of start contents (set xs s x) ≡ set (spans_of start contents xs) s (span_of start contents x)
spans-set start contents xs s x = map-set (span_of start contents) xs s x

-- the same run as before, where its place and shape stay
pub kept-run : (tells : Bool) (size : ℕ) (old now : HeldSpan) → now.first ≡ old.first → KeepsShape tells size old.pages now.pages →
    IsRunAt tells size old.first (length old.pages) now
kept-run tells size old now place shape = record { first = place; count = shape.count; sized = shape.sized }

-- what holds of the parts holds of the same ones
pub other-parts : {X : Type 0} (start : X → ℕ) (contents : X → List (List ℕ)) (P : FixedView → Type 0) (front : X)
    (directories now : List X) (room bytes : List ℕ) → now ≡ directories → bytes ≡ room →
    P (fixed_of start contents front directories room) → P (fixed_of start contents front now bytes)
other-parts {X} start contents P front directories now room bytes same alike fact =
    subst (λ (xs : List X). P (fixed_of start contents front xs bytes)) (sym same)
    (subst (λ (r : List ℕ). P (fixed_of start contents front directories r)) (sym alike) fact)
