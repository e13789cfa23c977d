-- Pieces granted one after another, the answer that stands for them, and what giving them back leaves.
use Rattle.std.proofs.Common.{inl, inr, ◌≡◌, ℕ, zero, suc, ◌+◌, ◌-◌, ◌*◌, ◌/◌, ◌<◌, ◌≤◌, min, Bool, true, false}
use Rattle.std.proofs.Common.{List, [], ◌∷◌, ◌++◌, length, set, nat_lt, Option, Some, None, refl, sym, ap, ◌∙◌}
use Rattle.std.proofs.Common.{subst, arith}
use Rattle.std.proofs.Math.Seq.{map-set}
use Rattle.std.proofs.Math.Nat.{mul-le-mul_left}
use Rattle.std.proofs.lemmas.List.{length-set, append-nil, map-append, append_assoc, set-set}
use Rattle.std.proofs.lemmas.List.Sums.{sum_by-append, sum_by-cons}
use Rattle.std.proofs.lemmas.Option.{slice_get_within}
use Rattle.std.proofs.lemmas.Bool.{cases_lt, lt-ltb, le-ltb}
use Rattle.std.specs.Prelude.{slice_get, slice_index, sum_by}
use Rattle.std.specs.List.{AllByRecursion}
use Rattle.geometry_model.specs.Numbers.{Numbers}
use Rattle.geometry_model.specs.Pages.{data_page}
use Rattle.page_port.specs.Pages.{run}
use Rattle.block_model.specs.Block.{with_run, HasRun}
use Rattle.block_model.specs.Place.{place}
use Rattle.block_model.proofs.Laws.{place-free}
use Rattle.layout_model.specs.declared.extent.Extent.{Extent}
use Rattle.layout_model.specs.Grants.{Spaces, Spot, Answer, Got, Refused, and_then, or_else, run_of, only, halved}
use Rattle.layout_model.specs.Grants.{spot_in, around, space_at, without}
use Rattle.space_directory.specs.SpaceView.{SpaceView, after_grant, after_give}
use Rattle.superdirectory.specs.Rest.{Frame, Rest}
use Rattle.superdirectory.specs.Grants.{AreTold, free_sets, IsSegmentIn, IsExact, AreRunsIn, IsGivenAll}
use Rattle.superdirectory.specs.Parts.{IsLaid, extents, outcome, IsTakenAll, AnswersHalved, AddsPieces}
use Rattle.base_laws.proofs.ListLaws.{slice_get-set_same, all-append, all-map}
use Rattle.base_laws.proofs.OptionLaws.{some-inner}
use Rattle.superdirectory.proofs.GrantLaws.{given_back, spot_placed, run_some, run_none, around_all}
use Rattle.superdirectory.proofs.Spots.{free_at, exact_none, set_same}

-- ---- rows of granted runs

pub taken_length : {A : Type 0} (space first : A → ℕ) (pages : A → List (List ℕ)) (before : List SpaceView)
    (runs : List A) (after : List SpaceView) →
    IsTakenAll space first pages before runs after → length after ≡ length before
taken_length space first pages before [] after h = ap length h
taken_length space first pages before (one ∷ runs) after (v, here, sound, free, held, rest) =
    let next = after_grant v (first one - v.first) (length (pages one)) in
    taken_length space first pages (set before (space one) next) runs after rest ∙ length-set before (space one) next

pub taken_append : {A : Type 0} (space first : A → ℕ) (pages : A → List (List ℕ)) (before : List SpaceView)
    (xs ys : List A) (between after : List SpaceView) →
    IsTakenAll space first pages before xs between → IsTakenAll space first pages between ys after →
    IsTakenAll space first pages before (xs ++ ys) after
taken_append space first pages before [] ys between after a b = subst (λ (l : List SpaceView). IsTakenAll space first pages l ys after) a b
taken_append space first pages before (x ∷ xs) ys between after (v, here, sound, free, held, rest) b = (
  v,
  here,
  sound,
  free,
  held,
  taken_append space first pages (set before (space x)
      (after_grant v (first x - v.first) (length (pages x)))) xs ys between after rest b,
)

-- the last run first, they are given back
pub restored : {A : Type 0} (space first : A → ℕ) (pages : A → List (List ℕ)) (tells : Bool) (frame : Frame)
    (before : List SpaceView) (runs : List A) (after last : List SpaceView) →
    AreRunsIn space first pages tells frame runs → IsTakenAll space first pages before runs after →
    IsGivenAll space first pages after runs last → last ≡ before
restored space first pages tells frame before [] after last inside a b = b ∙ a
restored space first pages tells frame before (one ∷ runs) after last inside (v, here, sound, free, held, rest)
    (between, b, (w, there, now)) =
    let s = space one in
    let next = after_grant v (first one - v.first) (length (pages one)) in
    let less : s < length before = slice_get_within before s v here in
    let same : between ≡ set before s next =
    restored space first pages tells frame (set before s next) runs after between inside.2 rest b in
    let found : Some w ≡ Some next = sym there ∙ ap (λ (l : List SpaceView). slice_get l s) same ∙ slice_get-set_same before s next less in
    let back : after_give next (first one - v.first) (pages one) ≡ v =
    given_back v (first one - v.first) (pages one) sound free inside.0.some held in
    now ∙ ap (λ (x : SpaceView). set between s (after_give x (first one - x.first) (pages one))) (some-inner w next found)
    ∙ ap (λ (l : List SpaceView). set l s (after_give next (first one - v.first) (pages one))) same
    ∙ set-set before s next (after_give next (first one - v.first) (pages one))
    ∙ ap (λ (x : SpaceView). set before s x) back ∙ set_same before s v here

pub runs_append : {A : Type 0} (space first : A → ℕ) (pages : A → List (List ℕ)) (tells : Bool) (frame : Frame) (xs ys : List A) →
    AreRunsIn space first pages tells frame xs → AreRunsIn space first pages tells frame ys →
    AreRunsIn space first pages tells frame (xs ++ ys)
runs_append space first pages tells frame [] ys a b = b
runs_append space first pages tells frame (x ∷ xs) ys a b = (a.0, a.1, runs_append space first pages tells frame xs ys a.2 b)

each_least : {A : Type 0} (size : A → ℕ) (i j : ℕ) (xs : List A) → j ≤ i → AllByRecursion (λ x. i ≤ size x) xs →
    AllByRecursion (λ x. j ≤ size x) xs
each_least size i j xs less all = all-map (λ x. i ≤ size x) (λ x. j ≤ size x) (λ x more. omega arith) xs all

one_more : (m k : ℕ) → m * suc k ≡ m + m * k
one_more m k = omega arith

-- pieces of m pages or more are few
pub few : {A : Type 0} (size : A → ℕ) (m : ℕ) (xs : List A) → AllByRecursion (λ x. m ≤ size x) xs → m * length xs ≤ sum_by size xs
few size m [] a = omega arith
few size m (x ∷ xs) a =
    let rest = few size m xs a.1 in
    let more : m * length (x ∷ xs) ≡ m + m * length xs = one_more m (length xs) in
    omega (arith, a.0, sum_by-cons size x xs)

-- ---- the rule of halves, case by case

abbrev both_halves : ℕ → Numbers → ℕ → ℕ → ℕ → Spaces → Answer (List Extent)
both_halves k numbers start t n spaces =
    and_then (halved k numbers start t ((n + 1) / 2) spaces) (λ first left.
    and_then (halved k numbers start t (n / 2) left) (λ second rest. Got (first ++ second) rest))

-- the rule, after the answer to the whole and the test of its size
abbrev by_whole : ℕ → Numbers → ℕ → ℕ → ℕ → Spaces → Answer Extent → Bool → Answer (List Extent)
by_whole k numbers start t n spaces whole small =
    or_else (and_then whole only) (λ refused. elim small [ true ↦ Refused n | false ↦ both_halves k numbers start t n spaces ])

rule : (k : ℕ) (numbers : Numbers) (start t n : ℕ) (spaces : Spaces) →
    halved (suc k) numbers start t n spaces ≡ by_whole k numbers start t n spaces (run_of numbers start n spaces)
    (nat_lt n (2 * t))
rule k numbers start t n spaces = refl

placed : (k : ℕ) (numbers : Numbers) (start t n : ℕ) (spaces : Spaces) (spot : Spot) →
    spot_in spaces n (around start (length spaces)) ≡ Some spot →
    halved (suc k) numbers start t n spaces ≡ Got (record { page = data_page numbers spot.space spot.at; pages = n }
    ∷ []) (without spaces spot n)
placed k numbers start t n spaces spot e =
    rule k numbers start t n spaces ∙ ap (λ (a : Answer Extent). by_whole k numbers start t n spaces a
    (nat_lt n (2 * t))) (run_some numbers start n spaces spot e)

uncut : (k : ℕ) (numbers : Numbers) (start t n : ℕ) (spaces : Spaces) → spot_in spaces n (around start (length spaces)) ≡ None → n < 2 * t →
    halved (suc k) numbers start t n spaces ≡ Refused n
uncut k numbers start t n spaces e small =
    rule k numbers start t n spaces ∙ ap (λ (a : Answer Extent). by_whole k numbers start t n spaces a
    (nat_lt n (2 * t))) (run_none numbers start n spaces e)
    ∙ ap (by_whole k numbers start t n spaces (Refused n)) (lt-ltb n (2 * t) small)

cut : (k : ℕ) (numbers : Numbers) (start t n : ℕ) (spaces : Spaces) → spot_in spaces n (around start (length spaces)) ≡ None → 2 * t ≤ n →
    halved (suc k) numbers start t n spaces ≡ both_halves k numbers start t n spaces
cut k numbers start t n spaces e large =
    rule k numbers start t n spaces ∙ ap (λ (a : Answer Extent). by_whole k numbers start t n spaces a
    (nat_lt n (2 * t))) (run_none numbers start n spaces e)
    ∙ ap (by_whole k numbers start t n spaces (Refused n)) (le-ltb n (2 * t) large)

-- ---- what a grant says of the told spaces

-- the answer to a grant of n pages, whatever the told spaces are
abbrev pub Grants : Rest → Frame → ℕ → ℕ → Option (ℕ × (ℕ × List (List ℕ))) → Rest → Type 0
Grants old frame start n found new =
    (views : List SpaceView) → AreTold old views → length views ≡ length frame.firsts →
    IsExact views n (spot_in (free_sets views) n (around start (length frame.firsts))) frame found new

abbrev extent_of : ℕ → ℕ → Extent
extent_of page count = record { page = page; pages = count }

answered_placed : {A : Type 0} (space first : A → ℕ) (pages : A → List (List ℕ)) (tells : Bool) (frame : Frame)
    (start n t : ℕ) (new : Rest) (x : A) (numbers : Numbers) (k : ℕ) (views : List SpaceView) (o : Option Spot) →
    IsSegmentIn frame n (space x) (first x) (pages x) tells → length views ≡ length frame.firsts →
    spot_in (free_sets views) n (around start (length frame.firsts)) ≡ o →
    IsExact views n o frame (Some (space x, (first x, pages x))) new →
    AnswersHalved space first pages views (IsLaid numbers frame.firsts)
    (halved (suc k) numbers start t n (free_sets views)) None (x ∷ []) new
answered_placed space first pages tells frame start n t new x numbers k views None segment same e h =
    (let never : Some (space x, (first x, pages x)) ≡ None = h.0 in cc)
answered_placed space first pages tells frame start n t new x numbers k views (Some spot) segment same e (
  held,
  found,
  (after, taken, told),
) =
    let all_of : (space x, (first x, pages x)) ≡ (spot.space, (slice_index frame.firsts spot.space + spot.at, held)) = cc in
    let named : space x ≡ spot.space = ap (λ (p : ℕ × (ℕ × List (List ℕ))). p.0) all_of in
    let begun : first x ≡ slice_index frame.firsts spot.space + spot.at = ap (λ (p : ℕ × (ℕ × List (List ℕ))). p.1.0) all_of in
    let kept : pages x ≡ held = ap (λ (p : ℕ × (ℕ × List (List ℕ))). p.1.1) all_of in
    let at : first x - taken.was.first ≡ spot.at = omega (arith, begun, taken.home.first) in
    let long : length (pages x) ≡ n = segment.count in
    let all = around_all views frame start n (Some spot) same e in
    let free : space_at (free_sets views) spot.space ≡ taken.was.free = free_at views spot.space taken.was taken.here in
    let found_free : HasRun taken.was.free spot.at n =
    place-free taken.was.free n spot.at (ap (λ (f : List Bool). place f n) (sym free)
    ∙ spot_placed (free_sets views) n (around start (length frame.firsts)) spot e) in
    let after_is : after ≡ set views (space x) (after_grant taken.was (first x - taken.was.first) (length (pages x))) =
    taken.now ∙ ap (λ (s : ℕ). set views s (after_grant taken.was spot.at n)) (sym named)
    ∙ ap (λ (m : ℕ). set views (space x) (after_grant taken.was spot.at m)) (sym long)
    ∙ ap (λ (i : ℕ). set views (space x) (after_grant taken.was i (length (pages x)))) (sym at) in
    let left : without (free_sets views) spot n ≡ free_sets after =
    ap (λ (f : List Bool). set (free_sets views) spot.space (with_run f spot.at n false)) free
    ∙ sym (ap free_sets taken.now ∙ map-set (λ (v : SpaceView). v.free) views spot.space (after_grant taken.was spot.at n)) in
    record {
      after = after;
      taken = (
        taken.was,
        ap (slice_get views) named ∙ taken.here,
        taken.sound,
        subst (λ (m : ℕ). HasRun taken.was.free (first x - taken.was.first) m) (sym long)
            (subst (λ (i : ℕ). HasRun taken.was.free i n) (sym at) found_free),
        kept ∙ taken.held ∙ ap (λ (i : ℕ). run i n taken.was.held) (sym at)
            ∙ ap (λ (m : ℕ). run (first x - taken.was.first) m taken.was.held) (sym long),
        after_is,
      );
      told = told;
      listed = extent_of (data_page numbers spot.space spot.at) n ∷ [];
      same = placed k numbers start t n (free_sets views) spot all
          ∙ ap (λ (l : Spaces). Got (extent_of (data_page numbers spot.space spot.at) n ∷ []) l) left;
      matched = λ laid.
          let page : data_page numbers spot.space spot.at ≡ first x =
          sym (begun ∙ ap (λ (f : ℕ). f + spot.at) (laid spot.space (omega (arith, named, segment.named)))) in
          ap (λ (p : ℕ). extent_of p n ∷ []) page ∙ ap (λ (m : ℕ). extent_of (first x) m ∷ []) (sym long);
    }

-- all pages in one piece
pub adds_placed : {A : Type 0} (space first : A → ℕ) (pages : A → List (List ℕ)) (tells : Bool) (frame : Frame)
    (start n t : ℕ) (old new : Rest) (had has : List A) (x : A) → 1 ≤ n →
    IsSegmentIn frame n (space x) (first x) (pages x) tells →
    Grants old frame start n (Some (space x, (first x, pages x))) new → has ≡ had ++ (x ∷ []) →
    AddsPieces space first pages tells frame start n t None old new had has
adds_placed {A} space first pages tells frame start n t old new had has x some segment exact added = record {
  pieces = x ∷ [];
  added = added;
  runs = (
    record {
      named = segment.named;
      some = omega (arith, segment.count);
      from = segment.from;
      to =
          omega (arith, segment.to, segment.count);
    },
    segment.sized,
    tt,
  );
  least = (omega (arith, segment.count), tt);
  whole = λ _. let all : sum_by (λ (piece : A). length (pages piece)) (x ∷ []) ≡ 0 + length (pages x) = refl in
      omega (arith, segment.count);
  refused = λ p none. cc;
  told = steps_some;
}
  where
    steps_some : (numbers : Numbers) (steps : ℕ) (views : List SpaceView) → n ≤ steps → AreTold old views →
        length views ≡ length frame.firsts →
        AnswersHalved space first pages views (IsLaid numbers frame.firsts)
        (halved steps numbers start t n (free_sets views)) None (x ∷ []) new
    steps_some numbers zero views many told same = absurd (omega arith)
    steps_some numbers (suc k) views many told same =
        answered_placed space first pages tells frame start n t new x numbers k views
        (spot_in (free_sets views) n (around start (length frame.firsts))) segment same refl
        (exact views told same)

-- a refusal of pages that are too few to be cut
pub adds_uncut : {A : Type 0} (space first : A → ℕ) (pages : A → List (List ℕ)) (tells : Bool) (frame : Frame)
    (start n t : ℕ) (old new : Rest) (had : List A) → 1 ≤ n → n < 2 * t →
    Grants old frame start n None new → AddsPieces space first pages tells frame start n t (Some n) old new had had
adds_uncut space first pages tells frame start n t old new had some small exact = record {
  pieces = [];
  added = sym (append-nil had);
  runs = tt;
  least = tt;
  whole = λ none. cc;
  refused = λ p e. let same : n ≡ p = cc in record { some = omega arith; part = omega arith; small = omega arith };
  told = steps_none;
}
  where
    steps_none : (numbers : Numbers) (steps : ℕ) (views : List SpaceView) → n ≤ steps → AreTold old views →
        length views ≡ length frame.firsts →
        AnswersHalved space first pages views (IsLaid numbers frame.firsts)
        (halved steps numbers start t n (free_sets views)) (Some n) [] new
    steps_none numbers zero views many told same = absurd (omega arith)
    steps_none numbers (suc k) views many told same =
        let found = exact_none views n (spot_in (free_sets views) n (around start (length frame.firsts))) frame new
        (exact views told same) in
        record {
          after = views;
          taken = refl;
          told = found.1;
          listed = [];
          same = uncut k numbers start t n (free_sets views) (around_all views frame start n None same found.0) small;
          matched = λ laid. refl;
        }

first_refused : (k : ℕ) (numbers : Numbers) (start t n p : ℕ) (spaces left : Spaces) (runs : List Extent) →
    halved k numbers start t ((n + 1) / 2) spaces ≡ Refused p →
    both_halves k numbers start t n spaces ≡ outcome (Some p) runs left
first_refused k numbers start t n p spaces left runs e =
    ap (λ (a : Answer (List Extent)). and_then a (λ first left'. and_then (halved k numbers start t (n / 2) left')
    (λ second rest. Got (first ++ second) rest))) e

then_second : (refusal : Option ℕ) (first second : List Extent) (left : Spaces) →
    and_then (outcome refusal second left) (λ more rest. Got (first ++ more) rest)
    ≡ outcome refusal (first ++ second) left
then_second None first second left = refl
then_second (Some p) first second left = refl

both_granted : (k : ℕ) (numbers : Numbers) (start t n : ℕ) (refusal : Option ℕ) (spaces between left : Spaces)
    (first second : List Extent) →
    halved k numbers start t ((n + 1) / 2) spaces ≡ Got first between →
    halved k numbers start t (n / 2) between ≡ outcome refusal second left →
    both_halves k numbers start t n spaces ≡ outcome refusal (first ++ second) left
both_granted k numbers start t n refusal spaces between left first second a b =
    ap (λ (x : Answer (List Extent)). and_then x (λ front left'. and_then (halved k numbers start t (n / 2) left')
    (λ back rest. Got (front ++ back) rest))) a
    ∙ ap (λ (x : Answer (List Extent)). and_then x (λ back rest. Got (first ++ back) rest)) b ∙ then_second refusal first second left

-- the larger half was refused
pub adds_first : {A : Type 0} (space first : A → ℕ) (pages : A → List (List ℕ)) (tells : Bool) (frame : Frame)
    (start n c t p : ℕ) (old middle new : Rest) (had has : List A) → 1 ≤ n → 1 ≤ t → 2 * t ≤ n → c ≡ n - n / 2 →
    Grants old frame start n None middle → AddsPieces space first pages tells frame start c t (Some p) middle new
    had has → AddsPieces space first pages tells frame start n t (Some p) old new had has
adds_first {A} space first pages tells frame start n c t p old middle new had has some least large half exact adds = record {
  pieces = adds.pieces;
  added = adds.added;
  runs = adds.runs;
  least = each_least (λ (piece : A). length (pages piece)) (min c t) (min n t) adds.pieces (omega arith) adds.least;
  whole = λ none. cc;
  refused = λ q e. let u = adds.refused q e in record { some = u.some; part = omega (arith, u.part); small = u.small };
  told = steps_first;
}
  where
    steps_first : (numbers : Numbers) (steps : ℕ) (views : List SpaceView) → n ≤ steps → AreTold old views →
        length views ≡ length frame.firsts →
        AnswersHalved space first pages views (IsLaid numbers frame.firsts)
        (halved steps numbers start t n (free_sets views)) (Some p) adds.pieces new
    steps_first numbers zero views many told same = absurd (omega arith)
    steps_first numbers (suc k) views many told same =
        let found = exact_none views n (spot_in (free_sets views) n (around start (length frame.firsts))) frame
        middle (exact views told same) in
        let answered = adds.told numbers k views (omega arith) found.1 same in
        let c_is : c ≡ (n + 1) / 2 = omega arith in
        record {
          after = answered.after;
          taken = answered.taken;
          told = answered.told;
          listed = answered.listed;
          same = cut k numbers start t n (free_sets views) (around_all views frame start n None same found.0) large
              ∙ first_refused k numbers start t n p (free_sets views)
              (free_sets answered.after) answered.listed
              (ap (λ (m : ℕ). halved k numbers start t m (free_sets views)) (sym c_is) ∙ answered.same);
          matched = answered.matched;
        }

-- the larger half was granted, and the smaller one asked for
pub adds_both : {A : Type 0} (space first : A → ℕ) (pages : A → List (List ℕ)) (tells : Bool) (frame : Frame)
    (start n c t : ℕ) (refusal : Option ℕ) (old middle next new : Rest) (had more has : List A) → 1 ≤ n → 1 ≤ t →
    2 * t ≤ n → c ≡ n - n / 2 →
    Grants old frame start n None middle → AddsPieces space first pages tells frame start c t None middle next had
    more → AddsPieces space first pages tells frame start (n / 2) t refusal next new more has →
    AddsPieces space first pages tells frame start n t refusal old new had has
adds_both {A} space first pages tells frame start n c t refusal old middle next new had more has some least large half exact a b = record {
  pieces = a.pieces ++ b.pieces;
  added = b.added ∙ ap (λ (l : List A). l ++ b.pieces) a.added ∙ append_assoc had a.pieces b.pieces;
  runs = runs_append space first pages tells frame a.pieces b.pieces a.runs b.runs;
  least = all-append (λ (piece : A). min n t ≤ length (pages piece)) a.pieces b.pieces
      (each_least (λ (piece : A). length (pages piece)) (min c t) (min n t) a.pieces (omega arith) a.least)
      (each_least (λ (piece : A). length (pages piece)) (min (n / 2) t) (min n t) b.pieces (omega arith) b.least);
  whole = λ none. sum_by-append (λ (piece : A). length (pages piece)) a.pieces b.pieces
      ∙ (let one = a.whole refl in let two = b.whole none in omega arith);
  refused = λ q e. let u = b.refused q e in record { some = u.some; part = omega (arith, u.part); small = u.small };
  told = steps_both;
}
  where
    steps_both : (numbers : Numbers) (steps : ℕ) (views : List SpaceView) → n ≤ steps → AreTold old views →
        length views ≡ length frame.firsts →
        AnswersHalved space first pages views (IsLaid numbers frame.firsts)
        (halved steps numbers start t n (free_sets views)) refusal (a.pieces ++ b.pieces) new
    steps_both numbers zero views many told same = absurd (omega arith)
    steps_both numbers (suc k) views many told same =
        let found = exact_none views n (spot_in (free_sets views) n (around start (length frame.firsts))) frame
        middle (exact views told same) in
        let one = a.told numbers k views (omega arith) found.1 same in
        let two = b.told numbers k one.after (omega arith) one.told
        (taken_length space first pages views a.pieces one.after one.taken ∙ same) in
        let c_is : c ≡ (n + 1) / 2 = omega arith in
        let joined : extents first pages a.pieces ++ extents first pages b.pieces
        ≡ extents first pages (a.pieces ++ b.pieces) =
        sym (map-append (λ (one : A). extent_of (first one) (length (pages one))) a.pieces b.pieces) in
        record {
          after = two.after;
          taken = taken_append space first pages views a.pieces b.pieces one.after two.after one.taken two.taken;
          told = two.told;
          listed = one.listed ++ two.listed;
          same = cut k numbers start t n (free_sets views) (around_all views frame start n None same found.0) large
              ∙ both_granted k numbers start t n refusal (free_sets views) (free_sets one.after) (free_sets two.after) one.listed two.listed
              (ap (λ (m : ℕ). halved k numbers start t m (free_sets views)) (sym c_is) ∙ one.same) two.same;
          matched = λ laid. ap (λ (l : List Extent). l ++ two.listed) (one.matched laid)
              ∙ ap (λ (l : List Extent). extents first pages a.pieces ++ l) (two.matched laid) ∙ joined;
        }

-- ---- the room in the list

-- the room that is left when the larger half took k pieces
pub room_left : (n t free k len capacity : ℕ) → 1 ≤ t → len + free ≡ capacity → n < t * free → t * k ≤ n - n / 2 →
    (left : ℕ) × ((len + k) + left ≡ capacity) × (n / 2 < t * left)
room_left n t free k len capacity least whole enough took =
    elim (cases_lt k free) [
      | inl less ↦
          let parts : t * ((free - k) + k) ≡ t * (free - k) + t * k = omega arith in
          let all : (free - k) + k ≡ free = omega arith in
          let whole' : t * free ≡ t * (free - k) + t * k = sym (ap (λ (x : ℕ). t * x) all) ∙ parts in
          (free - k, omega arith, omega arith)
      | inr more ↦ absurd (let less : t * free ≤ t * k = mul-le-mul_left t more in omega arith)
    ]

-- the room that n pieces of a threshold need
pub room_enough : (n t len capacity : ℕ) → 1 ≤ t → len + n / t + 1 ≤ capacity → (free : ℕ) × (len + free ≡ capacity) × (n < t * free)
room_enough n t len capacity least room =
    let free = capacity - len in
    let more : t * (n / t + 1) ≤ t * (capacity - len) = mul-le-mul_left t (omega arith) in
    let parts : t * (n / t + 1) ≡ t * (n / t) + t = omega arith in
    (capacity - len, omega arith, omega arith)

-- ---- a refusal

-- the pieces before a refusal were given back, and the told spaces are as before
pub refused_whole : {A : Type 0} (space first : A → ℕ) (pages : A → List (List ℕ)) (tells : Bool) (frame : Frame)
    (views : List SpaceView) (laid : Type 0) (answer : Answer (List Extent)) (p : ℕ) (pieces kept : List A)
    (middle new : Rest) →
    AreRunsIn space first pages tells frame pieces → (answered : AnswersHalved space first pages views laid answer (Some p) pieces middle) →
    ((after : List SpaceView) × AreTold new after × IsGivenAll space first pages answered.after pieces after) →
    kept ≡ [] → AnswersHalved space first pages views laid answer (Some p) kept new
refused_whole {A} space first pages tells frame views laid answer p pieces kept middle new runs answered (after, told, back) none =
    let same : after ≡ views = restored space first pages tells frame views pieces answered.after after runs answered.taken back in
    subst (λ (l : List A). AnswersHalved space first pages views laid answer (Some p) l new) (sym none) (record {
      after = after;
      taken = same;
      told = told;
      listed = [];
      same = answered.same;
      matched = λ _. refl;
    })
