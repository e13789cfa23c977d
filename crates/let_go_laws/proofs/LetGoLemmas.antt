-- Which pages a change lets go, and which of them are free and which locked after it.
use Rattle.std.proofs.Common.{◌≡◌, ℕ, ◌+◌, ◌<◌, Bool, true, false, ◌&&◌, ◌||◌, Option, Some, None}
use Rattle.std.proofs.Common.{List, [], ◌++◌, length, map, take, drop, refl, sym, ap, subst, arith, ◌∙◌, inl}
use Rattle.std.proofs.Common.{inr, nat_eq, nat_lt}
use Rattle.std.proofs.lemmas.Bool.{cases_Bool, and_from, eqb-true, eq-eqb, lt-ltb}
use Rattle.std.proofs.lemmas.Bool.Decides.{nat_tests}
use Rattle.std.proofs.lemmas.List.{take-append-drop}
use Rattle.std.proofs.lemmas.List.Sums.{sum_by-cons}
use Rattle.std.proofs.Math.Seq.{drop-drop}
use Rattle.geometry_model.specs.Numbers.{Numbers, IsInRange, fan_out}
use Rattle.geometry_model.proofs.NumberLaws.{fan_out-low}
use Rattle.tree_model.specs.declared.entry.Pair.{Pair}
use Rattle.layout_model.specs.declared.change.Change.{Change}
use Rattle.layout_model.specs.declared.extent.Extent.{Extent}
use Rattle.layout_model.specs.Levels.{entries_of_levels, nodes_of_levels, spliced}
use Rattle.layout_model.specs.Grants.{Spaces}
use Rattle.layout_model.specs.Grants.Answer.{Got}
use Rattle.layout_model.specs.Layout.{Tree, Grants, tree_entries, plan_of, laid_entries, granted, laid}
use Rattle.layout_laws.proofs.LevelLemmas.{spliced-entries}
use Rattle.moment_model.specs.Version.{Version, IsGood, IsGoodVersion, covers, uses, segment_run, version_uses, spare_uses}
use Rattle.moment_model.specs.Moment.{ObjectSlot, Moment, object_slot, with_object_slot, free_of, is_free}
use Rattle.moment_model.specs.Moment.{is_locked, committed_uses, working_uses, IsSound}
use Rattle.moment_model.specs.Edit.{Changes, after_effect}
use Rattle.moment_laws.specs.Granting.{page_run, runs_of_parts}
use Rattle.moment_laws.proofs.GrantLemmas.{free_of-spaces, uses-append}
use Rattle.moment_laws.proofs.ChangeLemmas.{is_free-after, is_locked-after, sound-grown}
use Rattle.change_laws.specs.Laying.{IsChange}
use Rattle.change_laws.specs.Suiting.{IsSuited}
use Rattle.soundness_laws.specs.LetGo.{laid_slot}
use Rattle.change_laws.specs.Tail.{IsTail, HaveTails}
use Rattle.change_laws.proofs.PieceLemmas.{segments_uses, segments_uses-append}
use Rattle.change_laws.proofs.LayingLemmas.{spliced_entries}
use Rattle.change_laws.proofs.SuitLemmas.{granted-suits}
use Rattle.change_laws.proofs.PlannedLemmas.{packed-object, suited-out}
use Rattle.change_laws.proofs.ChangeLemmas.{granted-used}
use Rattle.soundness_laws.proofs.EditLemmas.{effect-edited}
use Rattle.let_go_laws.specs.LetGo.{is_dropped, replaced_entries, spare_run, dropped_runs, AreGone}

-- ---- free or locked

free-dropped : (c w c2 w2 : ℕ) (was : Bool) → c2 ≡ c → (nat_lt 0 w && nat_eq w2 0) ≡ true →
    (nat_eq (c2 + w2) 0 && (was || nat_lt 0 (c + w))) ≡ nat_eq c 0
free-dropped c w c2 w2 true same dropped = grind (arith, nat_tests)
free-dropped c w c2 w2 false same dropped = grind (arith, nat_tests)

locked-dropped : (c w c2 w2 : ℕ) (was : Bool) → c2 ≡ c → (nat_lt 0 w && nat_eq w2 0) ≡ true →
    ((nat_lt 0 c2 && nat_eq w2 0) || (was && (nat_eq (c + w) 0 && nat_eq (c2 + w2) 0))) ≡ nat_lt 0 c
locked-dropped c w c2 w2 true same dropped = grind (arith, nat_tests)
locked-dropped c w c2 w2 false same dropped = grind (arith, nat_tests)

pub dropped-free : (good : Numbers → Tree → Type 0) (n : Numbers) (held still : ℕ → Bool) (moment : Moment) (o : ℕ)
    (after : ObjectSlot) → IsSound good n held moment →
    IsSound good n still (with_object_slot moment o after) → o < length moment → after.committed ≡ (object_slot moment o).committed →
    (page : ℕ) → is_dropped n page (object_slot moment o) after ≡ true →
    is_free n page (with_object_slot moment o after) ≡ nat_eq (committed_uses n page (object_slot moment o)) 0
dropped-free good n held still moment o after sound stays within same page dropped =
    is_free-after good n held moment o after sound within page
    ∙ free-dropped (committed_uses n page (object_slot moment o)) (working_uses n page (object_slot moment o))
    (committed_uses n page after) (working_uses n page after)
    (is_free n page moment) (ap (version_uses n page) same) dropped

pub dropped-locked : (good : Numbers → Tree → Type 0) (n : Numbers) (held still : ℕ → Bool) (moment : Moment)
    (o : ℕ) (after : ObjectSlot) → IsSound good n held moment →
    IsSound good n still (with_object_slot moment o after) → o < length moment → after.committed ≡ (object_slot moment o).committed →
    (page : ℕ) → is_dropped n page (object_slot moment o) after ≡ true →
    is_locked n page (with_object_slot moment o after) ≡ nat_lt 0 (committed_uses n page (object_slot moment o))
dropped-locked good n held still moment o after sound stays within same page dropped =
    is_locked-after good n held still moment o after sound stays within page
    ∙ locked-dropped (committed_uses n page (object_slot moment o)) (working_uses n page (object_slot moment o))
    (committed_uses n page after) (working_uses n page after)
    (is_locked n page moment) (ap (version_uses n page) same) dropped

-- ---- the runs

-- a spare as runs
pub spare-run : (page : ℕ) (spare : Option Extent) → uses page (spare_run spare) ≡ spare_uses page spare
spare-run page None = refl
spare-run page (Some run) = let one = sum_by-cons (covers page) run [] in omega (arith, one)

-- entries before, within and behind a plan's place
pub parts-uses : (page size from count : ℕ) (entries : List Pair) →
    segments_uses page size entries ≡ segments_uses page size
    (take from entries) + (segments_uses page size (take count (drop from entries)) + segments_uses page size
    (drop (from + count) entries))
parts-uses page size from count entries =
    let outer = segments_uses-append page size (take from entries) (drop from entries) in
    let inner = segments_uses-append page size (take count (drop from entries)) (drop count (drop from entries)) in
    let whole : segments_uses page size (take from entries ++ drop from entries) ≡ segments_uses page size entries =
    ap (segments_uses page size) (take-append-drop from entries) in
    let rest : segments_uses page size (take count (drop from entries) ++ drop count (drop from entries))
    ≡ segments_uses page size (drop from entries) =
    ap (segments_uses page size) (take-append-drop count (drop from entries)) in
    let behind : segments_uses page size (drop count (drop from entries)) ≡ segments_uses page size (drop (from + count) entries) =
    ap (segments_uses page size) (drop-drop count from entries ∙ ap (λ (k : ℕ). drop k entries) (omega arith)) in
    omega (arith, outer, inner, whole, rest, behind)

-- two tests of numbers that are equal where a third is none
same_tests : (x y z : ℕ) → (z ≡ 0 → x ≡ y) → (nat_lt 0 x && nat_eq z 0) ≡ (nat_lt 0 y && nat_eq z 0)
same_tests x y z same =
    elim (cases_Bool (nat_eq z 0)) [
      | inl none ↦ ap (λ (k : ℕ). nat_lt 0 k && nat_eq z 0) (same (eqb-true z 0 none))
      | inr some ↦ ap (λ (b : Bool). nat_lt 0 x && b) some
          ∙ (both_false (nat_lt 0 x) (nat_lt 0 y) ∙ sym (ap (λ (b : Bool). nat_lt 0 y && b) some))
    ]
  where
    both_false : (a b : Bool) → (a && false) ≡ (b && false)
    both_false true true = refl
    both_false true false = refl
    both_false false true = refl
    both_false false false = refl

pub runs-dropped : (n : Numbers) (slot : ObjectSlot) (tree : Tree) (change : Change)
    (grants : Grants) (gone : List Extent) → IsInRange n → IsGood n tree →
    IsTail n (Some tree) slot.spare → slot.working ≡ Some tree → IsChange tree change →
    IsSuited n tree slot.spare change grants →
    AreGone tree (laid n tree slot.spare change grants).tree grants.pages gone → (page : ℕ) →
    is_dropped n page slot (laid_slot slot (laid n tree slot.spare change grants))
    ≡ (nat_lt 0 (uses page (dropped_runs n tree slot.spare change gone))
    && nat_eq (working_uses n page (laid_slot slot (laid n tree slot.spare change grants))) 0)
unfolding laid
runs-dropped n slot tree change grants gone range good tail working is suits nodes page =
    let spare = slot.spare in
    let plan = plan_of n tree spare change in
    let wide = fan_out-low n range in
    let object = packed-object n tree range good in
    let entries = tree_entries tree in
    let lays = suited-out n tree spare change grants object tail is suits in
    let used = granted-used n tree spare change grants range good tail is suits page in
    let new = laid_entries n spare plan grants.runs in
    let levels = spliced (fan_out n) tree.levels plan.from plan.count new grants.pages in
    let new_entries : entries_of_levels (nodes_of_levels levels) ≡ spliced_entries entries plan.from plan.count new =
    spliced-entries (fan_out n) tree.levels plan.from plan.count new grants.pages (omega (arith, wide)) lays.inside in
    let moved : segments_uses page n.page (entries_of_levels (nodes_of_levels levels))
    ≡ segments_uses page n.page (spliced_entries entries plan.from plan.count new) =
    ap (segments_uses page n.page) new_entries in
    let outer = segments_uses-append page n.page (take plan.from entries) (new ++ drop (plan.from + plan.count) entries) in
    let inner = segments_uses-append page n.page new (drop (plan.from + plan.count) entries) in
    let old = parts-uses page n.page plan.from plan.count entries in
    let count = nodes page in
    let all = uses-append page (runs_of_parts grants.runs) (map page_run grants.pages) in
    let dropped = uses-append page (map (segment_run n.page) (replaced_entries entries plan)) (gone ++ spare_run spare) in
    let rest = uses-append page gone (spare_run spare) in
    let spare_is = spare-run page spare in
    let before : version_uses n page slot.working ≡ version_uses n page (Some tree) = ap (version_uses n page) working in
    same_tests (working_uses n page slot) (uses page (dropped_runs n tree spare change gone))
    (working_uses n page (laid_slot slot (laid n tree spare change grants)))
    (λ none. omega (arith, none, moved, outer, inner, old, count, all, dropped, rest, spare_is, before, used))

-- ---- gives and locks

-- the moment after a granted change is sound
changed-sound : (n : Numbers) (held : ℕ → Bool) (start : ℕ) (moment : Moment) (o : ℕ) (tree : Tree)
    (change : Change) (left : Spaces) (grants : Grants) → IsInRange n →
    IsSound IsGood n held moment → HaveTails n moment → held o ≡ true → (object_slot moment o).working ≡ Some tree → IsChange tree change →
    granted n start tree (object_slot moment o).spare change (free_of n moment) ≡ Got grants left →
    IsSound IsGood n held (with_object_slot moment o (laid_slot (object_slot moment o)
    (laid n tree (object_slot moment o).spare change grants)))
changed-sound n held start moment o tree change left grants range sound tails holds working is got =
    let slot = object_slot moment o in
    let after = laid_slot slot (laid n tree slot.spare change grants) in
    let answer : after_effect n start (free_of n moment) slot (Changes tree change) ≡ Got after left = rw (got, after_effect) in
    let edited = effect-edited n start moment slot (Changes tree change) after left range (sound.kept o).working
    (tails o) (working, is) answer in
    sound-grown IsGood n held moment o after sound holds edited.grows

-- a page of the runs that isn't used any more is dropped
page-dropped : (runs after : ℕ) → 0 < runs → after ≡ 0 → (nat_lt 0 runs && nat_eq after 0) ≡ true
page-dropped runs after some none = and_from (nat_lt 0 runs) (nat_eq after 0) (lt-ltb 0 runs some) (eq-eqb after 0 none)

pub change-dropped : (n : Numbers) (held : ℕ → Bool) (start : ℕ) (moment : Moment) (o : ℕ) (tree : Tree)
    (change : Change) (left : Spaces) (grants : Grants) (gone : List Extent) → IsInRange n →
    IsSound IsGood n held moment → HaveTails n moment → (object_slot moment o).working ≡ Some tree → IsChange tree change →
    granted n start tree (object_slot moment o).spare change (free_of n moment) ≡ Got grants left →
    AreGone tree (laid n tree (object_slot moment o).spare change grants).tree grants.pages gone → (page : ℕ) →
    0 < uses page (dropped_runs n tree (object_slot moment o).spare change gone) →
    working_uses n page (laid_slot (object_slot moment o) (laid n tree (object_slot moment o).spare change grants)) ≡ 0 →
    is_dropped n page (object_slot moment o)
    (laid_slot (object_slot moment o) (laid n tree (object_slot moment o).spare change grants)) ≡ true
change-dropped n held start moment o tree change left grants gone range sound tails working is got nodes page some none =
    let slot = object_slot moment o in
    let good : IsGood n tree = subst (IsGoodVersion IsGood n) working (sound.kept o).working in
    let tail : IsTail n (Some tree) slot.spare = subst (λ (v : Version). IsTail n v slot.spare) working (tails o) in
    runs-dropped n slot tree change grants gone range good tail working is
    (granted-suits n start tree slot.spare change (free_of n moment) left grants (free_of-spaces n moment) got) nodes page
    ∙ page-dropped (uses page (dropped_runs n tree slot.spare change gone))
    (working_uses n page (laid_slot slot (laid n tree slot.spare change grants))) some none

pub change-gives : (n : Numbers) (held : ℕ → Bool) (start : ℕ) (moment : Moment) (o : ℕ) (tree : Tree)
    (change : Change) (left : Spaces) (grants : Grants) (gone : List Extent) → IsInRange n →
    IsSound IsGood n held moment → HaveTails n moment → held o ≡ true → o < length moment →
    (object_slot moment o).working ≡ Some tree → IsChange tree change →
    granted n start tree (object_slot moment o).spare change (free_of n moment) ≡ Got grants left →
    AreGone tree (laid n tree (object_slot moment o).spare change grants).tree grants.pages gone → (page : ℕ) →
    0 < uses page (dropped_runs n tree (object_slot moment o).spare change gone) →
    working_uses n page (laid_slot (object_slot moment o) (laid n tree (object_slot moment o).spare change grants)) ≡ 0 →
    is_free n page (with_object_slot moment o (laid_slot (object_slot moment o) (laid n tree (object_slot moment o).spare change grants)))
    ≡ nat_eq (committed_uses n page (object_slot moment o)) 0
change-gives n held start moment o tree change left grants gone range sound tails holds within working is got nodes page some none =
    dropped-free IsGood n held held moment o (laid_slot (object_slot moment o)
    (laid n tree (object_slot moment o).spare change grants)) sound
    (changed-sound n held start moment o tree change left grants range sound tails holds working is got) within refl page
    (change-dropped n held start moment o tree change left grants gone range sound tails working is got nodes page some none)

pub change-locks : (n : Numbers) (held : ℕ → Bool) (start : ℕ) (moment : Moment) (o : ℕ) (tree : Tree)
    (change : Change) (left : Spaces) (grants : Grants) (gone : List Extent) → IsInRange n →
    IsSound IsGood n held moment → HaveTails n moment → held o ≡ true → o < length moment →
    (object_slot moment o).working ≡ Some tree → IsChange tree change →
    granted n start tree (object_slot moment o).spare change (free_of n moment) ≡ Got grants left →
    AreGone tree (laid n tree (object_slot moment o).spare change grants).tree grants.pages gone → (page : ℕ) →
    0 < uses page (dropped_runs n tree (object_slot moment o).spare change gone) →
    working_uses n page (laid_slot (object_slot moment o) (laid n tree (object_slot moment o).spare change grants)) ≡ 0 →
    is_locked n page (with_object_slot moment o (laid_slot (object_slot moment o) (laid n tree (object_slot moment o).spare change grants)))
    ≡ nat_lt 0 (committed_uses n page (object_slot moment o))
change-locks n held start moment o tree change left grants gone range sound tails holds within working is got nodes page some none =
    dropped-locked IsGood n held held moment o (laid_slot (object_slot moment o)
    (laid n tree (object_slot moment o).spare change grants)) sound
    (changed-sound n held start moment o tree change left grants range sound tails holds working is got) within refl page
    (change-dropped n held start moment o tree change left grants gone range sound tails working is got nodes page some none)
