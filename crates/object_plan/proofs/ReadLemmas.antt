-- The searches that read a window.
use Rattle.std.proofs.Common.{◌≡◌, ℕ, suc, ◌+◌, ◌-◌, ◌*◌, ◌/◌, ◌<◌, ◌≤◌, min, Bool, true, false, ◌&&◌, List, [], ◌∷◌, ◌++◌, length}
use Rattle.std.proofs.Common.{take, drop, get_or, refl, sym, ap, subst, arith, ◌∙◌, nat_lt}
use Rattle.std.specs.Prelude.{IfSome, Option, Some, None, Result, Ok, Err, if◌then◌else◌}
use Rattle.std.specs.Result.{IsErrAnd}
use Rattle.std.proofs.lemmas.Bool.{le-leb, ltb-false, ltb-true}
use Rattle.std.proofs.lemmas.List.{drop_all, take_all}
use Rattle.std.proofs.lemmas.List.Sums.{sum_by-cons}
use Rattle.tree_model.specs.declared.entry.Pair.{Pair}
use Rattle.tree_model.specs.declared.entry.Placed.{Placed}
use Rattle.tree_model.specs.Range.{in_range, pairs_of, placed, start_of}
use Rattle.tree_model.specs.Tree.{bytes_of}
use Rattle.layout_model.specs.Parts.{count_begun, count_ended}
use Rattle.content_laws.specs.Spelling.{HaveBytes}
use Rattle.content_laws.proofs.SideLemmas.{count_ended-behind}
use Rattle.edit_plan.proofs.SpotLemmas.{pairs-length}
use Rattle.window_laws.specs.Searches.{end_of, first_end, last_start, met_around, met_before, met_behind, with_neighbours}
use Rattle.window_laws.specs.Window.{window_at, window_from, window_start}
use Rattle.window_laws.proofs.SearchLemmas.{searches-find}
use Rattle.window_laws.proofs.StretchLemmas.{in_range-past, in_range-stretch, stretch-past}
use Rattle.fault_count.specs.Counts.{HasCause, Meter}
use Rattle.fault_count.proofs.CountLaws.{HasCause-same, IsUsed-none, IsUsed-then}
use Rattle.page_cache.specs.Kept.{KeptNodes}
use Rattle.span_store.specs.Held.{Held, bytes_on}
use Rattle.tree_model.specs.declared.tree.Root.{Root}
use Rattle.tree_model.specs.Node.{room_of}
use Rattle.tree_model.specs.Tree.{IsTree, Pages}
use Rattle.tree_model.proofs.RangeLemmas.{no_segment}
use Rattle.tree_read.specs.declared.failure.TreeFail.{TreeFail}
use Rattle.tree_read.specs.declared.failure.TreeFail.TheVariants.{Fault, Memory}
use Rattle.tree_read.specs.Search.{AsksSearch, KeepsNodes, ReadsNodes}
use Rattle.object_plan.specs.Reading.{found_where, place_before, place_behind}

-- ---- where the neighbours are looked for

-- all entries end where their bytes do
pub ended-all : (e : ℕ) (ps : List Pair) → bytes_of ps ≤ e → length ps ≤ count_ended e ps
ended-all e [] past = omega arith
ended-all e (p ∷ ps) past =
    let sum = sum_by-cons (λ (q : Pair). q.bytes) p ps in
    let step = count_ended-behind e p ps (le-leb p.bytes e (omega (arith, sum, past))) in
    let more = ended-all (e - p.bytes) ps (omega (arith, sum, past)) in
    omega (arith, step, more)

-- behind them none is found
behind-none : (e : ℕ) (ps : List Pair) → HaveBytes ps → bytes_of ps ≤ e → met_behind ps e ≡ []
behind-none e ps have past =
    in_range-stretch e (e + 1) ps have (omega arith)
    ∙ stretch-past (count_ended e ps) (count_begun (e + 1) ps) ps (ended-all e ps past)

pub before-found : (entries : List Pair) (at : ℕ) (met : List Placed) →
    found_where entries (place_before at met) ≡ (if nat_lt at (first_end met) then met_before entries (start_of met) else [])
before-found entries at met = go (nat_lt at (first_end met)) (nat_lt 0 (start_of met)) refl
  where
    go : (t u : Bool) → nat_lt 0 (start_of met) ≡ u →
        found_where entries (if t && u then Some (start_of met - 1) else None)
        ≡ (if t then met_before entries (start_of met) else [])
    go false u is = refl
    go true false is =
        let none = ltb-false 0 (start_of met) is in
        sym (in_range-past (start_of met - 1) (start_of met) 0 entries none)
    go true true is =
        let some = ltb-true 0 (start_of met) is in
        let one : start_of met - 1 + 1 ≡ start_of met = omega (arith, some) in
        ap (λ (k : ℕ). in_range (start_of met - 1) k 0 entries) one

pub behind-found : (entries : List Pair) (end : ℕ) (met : List Placed) → HaveBytes entries →
    found_where entries (place_behind end (bytes_of entries) met)
    ≡ (if nat_lt (last_start met) end then met_behind entries (end_of met) else [])
behind-found entries end met have = go (nat_lt (last_start met) end) (nat_lt (end_of met) (bytes_of entries)) refl
  where
    go : (t u : Bool) → nat_lt (end_of met) (bytes_of entries) ≡ u →
        found_where entries (if t && u then Some (end_of met) else None)
        ≡ (if t then met_behind entries (end_of met) else [])
    go false u is = refl
    go true false is = sym (behind-none (end_of met) entries have (ltb-false (end_of met) (bytes_of entries) is))
    go true true is = refl

-- ---- the window

pub window-found : (entries : List Pair) (at removed to : ℕ) (met front back : List Placed) → HaveBytes entries →
    at + removed ≤ bytes_of entries → to ≡ min (at + removed + 1) (bytes_of entries) →
    met ≡ in_range (at - 1) to 0 entries → front ≡ found_where entries (place_before at met) →
    back ≡ found_where entries (place_behind (at + removed) (bytes_of entries) met) →
    front ++ (met ++ back) ≡ placed (window_start at entries) (window_at entries at removed)
window-found entries at removed to met front back have within to_is met_is front_is back_is =
    let around : met ≡ met_around entries at removed = met_is ∙ ap (λ (k : ℕ). in_range (at - 1) k 0 entries) to_is in
    let one = front_is ∙ before-found entries at met in
    let two = back_is ∙ behind-found entries (at + removed) met have in
    ap (λ (xs : List Placed). xs ++ (met ++ back)) one
    ∙ (ap (λ (xs : List Placed). (if nat_lt at (first_end met) then met_before entries (start_of met) else []) ++ (met ++ xs)) two
    ∙ (ap (with_neighbours entries at removed) around ∙ searches-find entries at removed have within))

-- an object of no byte has no entry, and no window
pub no-window : (entries : List Pair) (at removed : ℕ) → HaveBytes entries → bytes_of entries ≡ 0 →
    placed (window_start at entries) (window_at entries at removed) ≡ []
no-window [] at removed have none =
    let few : length {A = Pair} [] ≤ 0 = omega arith in
    let empty : window_at [] at removed ≡ [] = nothing (count_begun (at + removed) [] + 1 - window_from at []) (window_from at []) in
    ap (placed (window_start at [])) empty
  where
    nothing : (i j : ℕ) → take i (drop {A = Pair} j []) ≡ []
    nothing i j =
        ap (take i) (drop_all j [] (omega arith)) ∙ take_all i [] (omega arith)
no-window (p ∷ ps) at removed have none =
    let byte = have.0 in
    let sum = sum_by-cons (λ (q : Pair). q.bytes) p ps in
    absurd (omega (arith, byte, sum, none))

-- ---- the last segment that was met

pub placed-last : (start : ℕ) (ps : List Pair) → 0 < length ps →
    ((get_or (placed start ps) (length (placed start ps) - 1) no_segment).start
    + (get_or (placed start ps) (length (placed start ps) - 1) no_segment).pair.bytes ≡ start + bytes_of ps)
    × (last_start (placed start ps) ≡ (get_or (placed start ps) (length (placed start ps) - 1) no_segment).start)
placed-last start [] some = let none : 0 < 0 = some in absurd (omega (arith, none))
placed-last start (p ∷ []) some =
    let sum = sum_by-cons (λ (q : Pair). q.bytes) p [] in
    let none : bytes_of [] ≡ 0 = refl in
    let all = placed start (p ∷ []) in
    let e : length all - 1 ≡ 0 = omega arith in
    let here = ap (λ (k : ℕ). get_or all k no_segment) e in
    let first = ap (λ (s : Placed). s.start + s.pair.bytes) here in
    let second = ap (λ (s : Placed). s.start) here in
    (omega (arith, sum, none, first), sym second)
placed-last start (p ∷ q ∷ ps) some =
    let tail = placed (start + p.bytes) (q ∷ ps) in
    let all = placed start (p ∷ q ∷ ps) in
    let more = placed-last (start + p.bytes) (q ∷ ps) (omega arith) in
    let sum = sum_by-cons (λ (r : Pair). r.bytes) p (q ∷ ps) in
    let e : length all - 1 ≡ suc (length tail - 1) = omega arith in
    let here = ap (λ (k : ℕ). get_or all k no_segment) e in
    let first = ap (λ (s : Placed). s.start + s.pair.bytes) here in
    let second = ap (λ (s : Placed). s.start) here in
    let total = more.0 in
    (omega (arith, sum, first, total), more.1 ∙ sym second)

-- and where it begins and ends, of segments that stand one after the other
pub last-borders : (met : List Placed) → met ≡ placed (start_of met) (pairs_of met) → 0 < length met →
    ((get_or met (length met - 1) no_segment).start ≡ last_start met)
    × ((get_or met (length met - 1) no_segment).start + (get_or met (length met - 1) no_segment).pair.bytes ≡ end_of met)
last-borders met adjoined some =
    let P : List Placed → Type 0 = λ xs.
    ((get_or xs (length xs - 1) no_segment).start + (get_or xs (length xs - 1) no_segment).pair.bytes ≡ end_of met)
    × (last_start xs ≡ (get_or xs (length xs - 1) no_segment).start) in
    let long = pairs-length met in
    let here = subst P (sym adjoined) (placed-last (start_of met) (pairs_of met) (omega (arith, long, some))) in
    (sym here.1, here.0)

pub none-met : (met : List Placed) → length met ≡ 0 → (0 ≡ last_start met) × (0 ≡ end_of met)
none-met [] none = (refl, refl)
none-met (s ∷ rest) none = absurd (omega (arith, none))

-- ---- the bytes that are looked for lie within the object

pub before-inside : (at bytes : ℕ) (met : List Placed) → start_of met ≤ bytes → IfSome (place_before at met) (λ place. place < bytes)
before-inside at bytes met within = go (nat_lt at (first_end met)) (nat_lt 0 (start_of met)) refl
  where
    go : (t u : Bool) → nat_lt 0 (start_of met) ≡ u → IfSome (if t && u then Some (start_of met - 1) else None) (λ place. place < bytes)
    go false u is = tt
    go true false is = tt
    go true true is = let some = ltb-true 0 (start_of met) is in omega (arith, some, within)

pub behind-inside : (end bytes : ℕ) (met : List Placed) → IfSome (place_behind end bytes met) (λ place. place < bytes)
behind-inside end bytes met = go (nat_lt (last_start met) end) (nat_lt (end_of met) bytes) refl
  where
    go : (t u : Bool) → nat_lt (end_of met) bytes ≡ u → IfSome (if t && u then Some (end_of met) else None) (λ place. place < bytes)
    go false u is = tt
    go true false is = tt
    go true true is = ltb-true (end_of met) bytes is

-- ---- one search after another

pub reads-then : (told : Bool) (at : Pages) (c d : KeptNodes) (old mid new : Meter) → ReadsNodes told old.page at c old mid →
    ReadsNodes told mid.page at d mid new → ReadsNodes told old.page at d old new
reads-then told at c d old mid new first second = record {
  nodes = subst (λ (size : ℕ). KeepsNodes told size at d) first.uses.used.page second.nodes;
  uses = record {
    used = IsUsed-then old mid new first.uses.used second.uses.used;
    written = second.uses.written ∙ first.uses.written;
  };
}

-- the next search asks for no more than the one before
pub asks-then : (told : Bool) (held : Held) (root : Root) (c d : KeptNodes) (old mid : Meter) →
    AsksSearch told old.page held c (IsTree (bytes_on held) (room_of old.page / 2) root.height root.page root.length) →
    ReadsNodes told old.page (bytes_on held) d old mid →
    AsksSearch told mid.page held d (IsTree (bytes_on held) (room_of mid.page / 2) root.height root.page root.length)
asks-then told held root c d old mid asks reads =
    subst (λ (size : ℕ). AsksSearch told size held d (IsTree (bytes_on held) (room_of size / 2) root.height root.page root.length))
    (sym reads.uses.used.page) (record { pages = asks.pages; nodes = reads.nodes; stands = asks.stands })

-- the same failure of a call that answers something else
pub fault-same : {A B : Type 0} → (old new : ℕ) (e : TreeFail) (r : Result B TreeFail) → IsErrAnd r (λ fail. fail ≡ e) →
    HasCause old new (◌≡◌ {A = Result A TreeFail} (Err e) (Err Fault)) → HasCause old new (r ≡ Err Fault)
fault-same old new e (Ok value) is cause = absurd is
fault-same old new e (Err fail) is cause = HasCause-same _ _ old new cause (λ bad. cc) (λ bad. cc)

-- want of memory is no fault
pub no-fault : {A : Type 0} → (old new : ℕ) (r : Result A TreeFail) → IsErrAnd r (λ fail. fail ≡ Memory) → new ≡ old →
    HasCause old new (r ≡ Err Fault)
no-fault old new (Ok value) is quiet = absurd is
no-fault old new (Err fail) is quiet =
    record { kept = omega (arith, quiet); raised = λ bad. absurd (cc); still = λ none. quiet }

-- pages that were read for segments and for their neighbours
pub few-read : (height first second third : ℕ) (old one two new : ℕ) → one ≤ old + height * first → two ≤ one + height * second →
    new ≤ two + height * third → new ≤ old + height * (second + (first + third))
few-read height first second third old one two new a b c = omega (arith, a, b, c)

-- the window is what was met, with its neighbours that were found
pub window-read : (entries : List Pair) (at removed from to bytes : ℕ) (met front back : List Placed) (one two : Option ℕ) →
    HaveBytes entries → bytes_of entries ≡ bytes → at + removed ≤ bytes → from ≡ at - 1 → to ≡ min (at + removed + 1) bytes →
    met ≡ in_range from to 0 entries → one ≡ place_before at met → front ≡ found_where entries one →
    two ≡ place_behind (at + removed) bytes met → back ≡ found_where entries two →
    front ++ (met ++ back) ≡ placed (window_start at entries) (window_at entries at removed)
window-read entries at removed from to bytes met front back one two have total within from_is to_is met_is one_is front_is two_is back_is =
    window-found entries at removed to met front back have (omega (arith, total, within))
    (to_is ∙ ap (min (at + removed + 1)) (sym total))
    (met_is ∙ ap (λ (k : ℕ). in_range k to 0 entries) from_is)
    (front_is ∙ ap (found_where entries) one_is)
    (back_is ∙ ap (found_where entries) (two_is ∙ ap (λ (k : ℕ). place_behind (at + removed) k met) (sym total)))
