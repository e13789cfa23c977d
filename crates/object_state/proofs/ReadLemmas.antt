-- The bytes of a range of entries, from those of the segments that meet it.
use Rattle.std.proofs.Common.{◌≡◌, ℕ, zero, suc, ◌+◌, ◌-◌, ◌*◌, ◌/◌, ◌<◌, ◌≤◌, Bool, IsTrue, List, [], ◌∷◌, ◌++◌, length, take, drop}
use Rattle.std.proofs.Common.{get_or, min, max}
use Rattle.std.proofs.Common.{refl, sym, ap, subst, arith, ◌∙◌, inl, inr}
use Rattle.std.specs.List.{AllByRecursion}
use Rattle.std.proofs.lemmas.Bool.{cases_lt, lt-ltb, le-ltb}
use Rattle.std.proofs.lemmas.List.{append-nil, drop-append-le, length-drop, take-append-le, take_all}
use Rattle.std.proofs.Math.Seq.{drop-nil}
use Rattle.seg_bytes.proofs.Runs.{take-joined, drop-joined}
use Rattle.tree_model.specs.declared.entry.Pair.{Pair}
use Rattle.tree_model.specs.declared.entry.Placed.{Placed}
use Rattle.tree_model.specs.Tree.{Pages}
use Rattle.tree_model.specs.Content.{content, segment_bytes}
use Rattle.tree_model.specs.Range.{in_range, pairs_of, start_of}
use Rattle.std.specs.Prelude.{map}
use Rattle.std.proofs.lemmas.List.Sums.{sum_by-cons}
use Rattle.geometry_model.specs.Numbers.{Numbers}
use Rattle.tree_model.specs.declared.tree.Root.{Root}
use Rattle.tree_model.specs.Node.{room_of}
use Rattle.tree_model.specs.Tree.{IsSegment, IsTree}
use Rattle.tree_model.proofs.RangeLemmas.{no_segment}
use Rattle.layout_model.specs.Pack.{Packed}
use Rattle.content_laws.specs.Spelling.{HaveBytes}
use Rattle.content_laws.proofs.SpellingLemmas.{segment-length}
use Rattle.moment_model.specs.Costs.{read_cost}
use Rattle.moment_model.specs.Version.{covers, uses, segment_run}
use Rattle.span_store.specs.Held.{Held, AllSized, bytes_on, has}
use Rattle.tree_read.specs.Cost.{nodes_in_range}
use Rattle.tree_read.specs.Search.{top as top_of}
use Rattle.tree_read.proofs.LevelLemmas.{IsLevel-top}
use Rattle.tree_read.proofs.CacheLemmas.{length-nodes-found}
use Rattle.read_cost_laws.proofs.TouchedLemmas.{read-cheap}
use Rattle.object_state.specs.Reads.{IsHeldSegment, tree_at}
use Rattle.object_body.proofs.HeldTreeLemmas.{sized-page}
use Rattle.moment_laws.proofs.GrantLemmas.{inside-counts}

-- each segment has all its bytes, and at least one
pub record IsWhole (at : Pages) (size : ℕ) (p : Pair) : Type 0 where
  pub some : 1 ≤ p.bytes
  pub long : length (segment_bytes at size p) ≡ p.bytes

misses : (from to start : ℕ) (p : Pair) (ps : List Pair) → min to (start + p.bytes) ≤ max from start →
    in_range from to start (p ∷ ps) ≡ in_range from to (start + p.bytes) ps
misses from to start p ps none = rw (le-ltb (max from start) (min to (start + p.bytes)) none) refl

-- the first k bytes of two in a row, and those behind the first of them
take-row : (k : ℕ) (xs ys : List ℕ) → take k (xs ++ ys) ≡ take k xs ++ take (k - length xs) ys
take-row k xs ys = elim (cases_lt k (length xs)) [
  | inl less ↦
      let none : k - length xs ≡ 0 = omega (arith, less) in
      take-append-le k xs ys (omega (arith, less))
      ∙ sym (ap (λ (j : ℕ). take k xs ++ take j ys) none ∙ append-nil (take k xs))
  | inr more ↦ take-joined k (length xs) xs ys refl more
      ∙ ap (λ (zs : List ℕ). zs ++ take (k - length xs) ys) (sym (take_all k xs more))
]

drop-row : (k : ℕ) (xs ys : List ℕ) → length xs ≤ k → drop k (xs ++ ys) ≡ drop (k - length xs) ys
drop-row k xs ys past =
    let place : k ≡ length xs + (k - length xs) = omega (arith, past) in
    ap (λ (j : ℕ). drop j (xs ++ ys)) place ∙ drop-joined (k - length xs) (length xs) xs ys refl

-- from a place in the range on: its segments have the first bytes
front-bytes : (at : Pages) (size from to start k : ℕ) (ps : List Pair) → AllByRecursion (IsWhole at size) ps → from ≤ start →
    k ≤ to - start → take k (content at size (pairs_of (in_range from to start ps))) ≡ take k (content at size ps)
front-bytes at size from to start k [] whole late few = refl
front-bytes at size from to start k (p ∷ ps) whole late few = elim (cases_lt start to) [
  | inl before ↦
      let some = whole.0.some in
      let seg = segment_bytes at size p in
      let long = whole.0.long in
      let meet : in_range from to start (p ∷ ps) ≡ record { start = start; pair = p } ∷ in_range from to (start + p.bytes) ps =
      rw (lt-ltb (max from start) (min to (start + p.bytes)) (omega (arith, late, before, some))) refl in
      let rest = front-bytes at size from to (start + p.bytes) (k - length seg) ps whole.1 (omega (arith, late))
      (omega (arith, few, long)) in
      ap (λ (ss : List Placed). take k (content at size (pairs_of ss))) meet
      ∙ (take-row k seg (content at size (pairs_of (in_range from to (start + p.bytes) ps)))
      ∙ (ap (λ (xs : List ℕ). take k seg ++ xs) rest ∙ sym (take-row k seg (content at size ps))))
  | inr past ↦
      let none : k ≡ 0 = omega (arith, few, past) in
      subst (λ (j : ℕ). take j (content at size (pairs_of (in_range from to start (p ∷ ps)))) ≡ take j (content at size (p ∷ ps)))
      (sym none) refl
]

-- the bytes of a range are those of its segments
pub range-bytes : (at : Pages) (size from len start : ℕ) (ps : List Pair) → AllByRecursion (IsWhole at size) ps → start ≤ from → 1 ≤ len →
    take len (drop (from - start_of (in_range from (from + len) start ps))
    (content at size (pairs_of (in_range from (from + len) start ps))))
    ≡ take len (drop (from - start) (content at size ps))
range-bytes at size from len start [] whole late some = ap (take len) (drop-nil {A = ℕ} (from - 0) ∙ sym (drop-nil {A = ℕ} (from - start)))
range-bytes at size from len start (p ∷ ps) whole late some = elim (cases_lt from (start + p.bytes)) [
  | inr behind ↦
      let seg = segment_bytes at size p in
      let long = whole.0.long in
      let far : from - start - length seg ≡ from - (start + p.bytes) = omega (arith, long) in
      ap (λ (ss : List Placed). take len (drop (from - start_of ss) (content at size (pairs_of ss))))
      (misses from (from + len) start p ps (omega (arith, behind, late)))
      ∙ (range-bytes at size from len (start + p.bytes) ps whole.1 behind some
      ∙ ap (take len) (sym (drop-row (from - start) seg (content at size ps) (omega (arith, behind, long, late))
      ∙ ap (λ (k : ℕ). drop k (content at size ps)) far)))
  | inl within ↦
      let seg = segment_bytes at size p in
      let long = whole.0.long in
      let meet : in_range from (from + len) start (p ∷ ps) ≡ record { start = start; pair = p }
      ∷ in_range from (from + len) (start + p.bytes) ps =
      rw (lt-ltb (max from start) (min (from + len) (start + p.bytes)) (omega (arith, within, late, some))) refl in
      let rest = in_range from (from + len) (start + p.bytes) ps in
      let skip = from - start in
      let left = length (drop skip seg) in
      let count : length (drop skip seg) ≡ p.bytes - skip = length-drop skip seg ∙ ap (λ (k : ℕ). k - skip) long in
      let front : (ys : List ℕ) → drop skip (seg ++ ys) ≡ drop skip seg ++ ys =
      λ ys. drop-append-le skip seg ys (omega (arith, within, long)) in
      ap (λ (ss : List Placed). take len (drop (from - start_of ss) (content at size (pairs_of ss)))) meet
      ∙ (ap (take len) (front (content at size (pairs_of rest)))
      ∙ (take-row len (drop skip seg) (content at size (pairs_of rest))
      ∙ (ap (λ (xs : List ℕ). take len (drop skip seg) ++ xs)
      (front-bytes at size from (from + len) (start + p.bytes) (len - left) ps whole.1 (omega (arith, within))
      (omega (arith, count, within, late)))
      ∙ (sym (take-row len (drop skip seg) (content at size ps)) ∙ ap (take len) (sym (front (content at size ps)))))))
]

-- ---- what a read of a tree knows

-- the segments of a tree on held pages are held
pub held-segments : (n : Numbers) (held : Held) (entries : List Pair) → AllByRecursion (IsSegment n) entries →
    ((q : ℕ) → 0 < uses q (map (segment_run n.page) entries) → IsTrue (has held q)) → AllByRecursion (IsHeldSegment n held) entries
held-segments n held [] segments used = tt
held-segments n held (p ∷ ps) segments used = (
  record {
    most = segments.0.most;
    run = λ q from to. used q
        (let inside = inside-counts q (segment_run n.page p) from to in
        omega (arith, inside, sum_by-cons (covers q) (segment_run n.page p) (map (segment_run n.page) ps)));
  },
  held-segments n held ps segments.1 (λ q some. used q (omega (
    arith,
    some,
    sum_by-cons (covers q) (segment_run n.page p) (map (segment_run n.page) ps),
  ))),
)

-- of segments whose pages are held and told each has all its bytes
pub whole-segments : (tells : Bool) (n : Numbers) (held : Held) (entries : List Pair) → 0 < n.page → AllSized tells n.page held →
    IsTrue tells → AllByRecursion (IsSegment n) entries → AllByRecursion (IsHeldSegment n held) entries →
    AllByRecursion (IsWhole (bytes_on held) n.page) entries
whole-segments tells n held [] some sized tell segments there = tt
whole-segments tells n held (p ∷ ps) some sized tell segments there = (
  record {
    some = segments.0.some;
    long = segment-length (bytes_on held) n.page p some
        (λ k below. sized-page tells n.page held (p.page + k) sized tell (there.0.run (p.page + k) (omega arith) (omega (arith, below))));
  },
  whole-segments tells n held ps some sized tell segments.1 there.1,
)

pub have-bytes : (at : Pages) (size : ℕ) (entries : List Pair) → AllByRecursion (IsWhole at size) entries → HaveBytes entries
have-bytes at size [] whole = tt
have-bytes at size (p ∷ ps) whole = (whole.0.some, have-bytes at size ps whole.1)

-- the nodes of a search and the pages of its segments are no more than a read may cost
pub nodes-cheap : (n : Numbers) (held : Held) (root : Root) (at len threshold : ℕ) → 0 < n.page →
    IsTree (bytes_on held) (room_of n.page / 2) root.height root.page root.length → HaveBytes (tree_at held root) →
    Packed n.page threshold (tree_at held root) → at + len ≤ root.length →
    length (nodes_in_range (bytes_on held) at (at + len) root.height (top_of root at (at + len))) ≤ read_cost n len root.height threshold
nodes-cheap n held root at len threshold some tree have packed inside =
    let first = IsLevel-top (bytes_on held) (room_of n.page / 2) at (at + len) root.height root.page root.length tree
    (omega arith) inside in
    let nodes = length-nodes-found (bytes_on held) at (at + len) root.height (top_of root at (at + len)) first.each first.trees in
    let times = ap (λ (ss : List Placed). root.height * length ss) first.all in
    let cheap = read-cheap n root.height threshold (tree_at held root) at len some have packed in
    omega (arith, nodes, times, cheap)

-- the segments from the j-th on
pub next-segment : (segments : List Placed) (j : ℕ) → j < length segments →
    drop j segments ≡ get_or segments j no_segment ∷ drop (j + 1) segments
next-segment [] j less = absurd (omega (arith, less))
next-segment (s ∷ ss) zero less = refl
next-segment (s ∷ ss) (suc j) less =
    let long : suc j < suc (length ss) = less in
    let one : suc j + 1 ≡ suc (j + 1) = omega arith in
    next-segment ss j (omega (arith, long)) ∙ ap (λ (k : ℕ). get_or ss j no_segment ∷ drop k (s ∷ ss)) (sym one)
