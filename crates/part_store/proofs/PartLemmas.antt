-- One part asked for: its wish was granted, or its need, or neither.
use Rattle.std.proofs.Common.{inl, inr, ◌≡◌, ℕ, suc, zero, ◌+◌, ◌*◌, ◌/◌, ◌≤◌, min, Bool, true, false, List, [], ◌∷◌}
use Rattle.std.proofs.Common.{◌++◌, length, map, drop, nat_lt, Option, Some, None, refl, sym, ap, ◌∙◌, subst, arith}
use Rattle.std.proofs.lemmas.Bool.{cases_lt, lt-ltb}
use Rattle.std.proofs.Math.Nat.{mul-le-mul_left}
use Rattle.std.proofs.lemmas.List.{take-append-drop, drop_at}
use Rattle.std.specs.Prelude.{Result, Ok, Err, OnOk, IfErr, option_map}
use Rattle.std.specs.Result.{result_err}
use Rattle.geometry_model.specs.Numbers.{Numbers}
use Rattle.layout_model.specs.declared.request.Request.{Request}
use Rattle.layout_model.specs.declared.extent.Extent.{Extent}
use Rattle.layout_model.specs.Grants.{Spaces, Answer, Got, Refused, and_then, or_else, run_of, only, halved, part_runs}
use Rattle.layout_model.specs.Grants.{spot_in, around}
use Rattle.space_directory.specs.SpaceView.{SpaceView}
use Rattle.block_model.specs.Place.{least_order}
use Rattle.superdirectory.specs.Trace.{SpaceEvent, IsLow}
use Rattle.superdirectory.specs.declared.hint.NoSpace.{NoSpace}
use Rattle.superdirectory.specs.Rest.{Frame, Rest, count}
use Rattle.superdirectory.specs.Grants.{AreTold, IsSegmentIn, AreRunsIn, free_sets}
use Rattle.superdirectory.specs.Parts.{IsLaid, AnswersHalved, AppendsPieces, LeavesAll, IsAskedAll}
use Rattle.superdirectory.proofs.Traces.{low_left}
use Rattle.superdirectory.proofs.Spots.{exact_none}
use Rattle.superdirectory.proofs.GrantLaws.{run_none, around_all}
use Rattle.superdirectory.proofs.Halves.{Grants, adds_placed, few}
use Rattle.part_store.specs.Asking.{AddsPart, RefusesPart, IsLowAt}
use Rattle.part_store.proofs.RowLemmas.{sum_of_sizes, each_size}

abbrev asked_for : ℕ → ℕ → Request
asked_for want need = record { want = want; need = need }

-- ---- the rule for one part

-- the rule of halves, by the answer for all pages and the test of its size
abbrev by_halves : ℕ → Numbers → ℕ → ℕ → ℕ → Spaces → Bool → Answer (List Extent)
by_halves steps numbers start t n spaces small = elim small [
  | true ↦ Refused n
  | false ↦ and_then (halved steps numbers start t ((n + 1) / 2) spaces) (λ first left.
      and_then (halved steps numbers start t (n / 2) left) (λ second rest. Got (first ++ second) rest))
]

got_again : (a : Answer (List Extent)) (other : Answer (List Extent)) →
    or_else a (λ refused. or_else a (λ again. other)) ≡ or_else a (λ refused. other)
got_again (Got value left) other = refl
got_again (Refused p) other = refl

-- where the wish is the need, asking for it twice is asking for it once
pub need_alone : (numbers : Numbers) (start t need : ℕ) (spaces : Spaces) → 1 ≤ need →
    part_runs numbers start t (record { want = need; need = need }) spaces ≡ halved need numbers start t need spaces
need_alone numbers start t zero spaces some = absurd (omega arith)
need_alone numbers start t (suc k) spaces some =
    got_again (and_then (run_of numbers start (suc k) spaces) only)
    (by_halves k numbers start t (suc k) spaces (nat_lt (suc k) (2 * t)))

got_first : (a : Answer (List Extent)) (n : ℕ) (runs : List Extent) (left : Spaces) →
    or_else a (λ refused. Refused n) ≡ Got runs left → a ≡ Got runs left
got_first (Got value l) n runs left e = e
got_first (Refused p) n runs left e = cc

-- at a threshold that allows no halves, what is granted is one piece
whole_granted : (numbers : Numbers) (start n : ℕ) (spaces : Spaces) (runs : List Extent) (left : Spaces) → 1 ≤ n →
    halved n numbers start n n spaces ≡ Got runs left → and_then (run_of numbers start n spaces) only ≡ Got runs left
whole_granted numbers start zero spaces runs left some e = absurd (omega arith)
whole_granted numbers start (suc k) spaces runs left some e =
    let small : nat_lt (suc k) (2 * suc k) ≡ true = lt-ltb (suc k) (2 * suc k) (omega arith) in
    got_first (and_then (run_of numbers start (suc k) spaces) only) (suc k) runs left
    (sym (ap (λ (b : Bool). or_else (and_then (run_of numbers start (suc k) spaces) only)
    (λ refused. by_halves k numbers start (suc k) (suc k) spaces b)) small) ∙ e)

wish_granted : (numbers : Numbers) (start t want need : ℕ) (spaces : Spaces) (runs : List Extent) (left : Spaces) →
    and_then (run_of numbers start want spaces) only ≡ Got runs left →
    part_runs numbers start t (asked_for want need) spaces ≡ Got runs left
wish_granted numbers start t want need spaces runs left e =
    ap (λ (a : Answer (List Extent)). or_else a (λ refused. halved need numbers start t need spaces)) e

wish_refused : (numbers : Numbers) (start t want need : ℕ) (spaces : Spaces) →
    spot_in spaces want (around start (length spaces)) ≡ None →
    part_runs numbers start t (asked_for want need) spaces ≡ halved need numbers start t need spaces
wish_refused numbers start t want need spaces none =
    ap (λ (a : Answer Extent). or_else (and_then a only) (λ refused. halved need numbers start t need spaces))
    (run_none numbers start want spaces none)

-- ---- the wish

-- the wish was granted in one piece
pub part_wish : {A : Type 0} (space first : A → ℕ) (pages : A → List (List ℕ)) (tells : Bool)
    (start t : ℕ) (request : Request) (old new : Rest) (had has : List A) (x : A) → 1 ≤ request.want →
    IsSegmentIn old.frame request.want (space x) (first x) (pages x) tells →
    Grants old old.frame start request.want (Some (space x, (first x, pages x))) new → has ≡ had ++ (x ∷ []) →
    AddsPart space first pages tells start t request old new had has
part_wish {A} space first pages tells start t request old new had has x some segment exact added =
    let n = request.want in
    let adds = adds_placed space first pages tells old.frame start n n old new had has x some segment exact added in
    let one : adds.pieces ≡ x ∷ [] = sym (drop_at had adds.pieces (length had) refl)
    ∙ ap (drop (length had)) (sym adds.added ∙ added) ∙ drop_at had (x ∷ []) (length had) refl in
    record {
      pieces = adds.pieces;
      added = adds.added;
      inside = adds.runs;
      sizes = inl (ap (map (λ (piece : A). length (pages piece))) one ∙ ap (λ (m : ℕ). m ∷ []) segment.count);
      few = omega (arith, ap length one);
      told = λ numbers views told same.
          let whole = adds.told numbers n views (omega arith) told same in
          record {
            after = whole.after;
            taken = whole.taken;
            told = whole.told;
            listed = whole.listed;
            same = wish_granted numbers start t n request.need (free_sets views) whole.listed (free_sets whole.after)
                (whole_granted numbers start n (free_sets views) whole.listed (free_sets whole.after) some whole.same);
            matched = whole.matched;
          };
    }

-- ---- the need

few_of : (n t k : ℕ) → 1 ≤ t → t * k ≤ n → k ≤ n / t + 1
few_of n t k least all = elim (cases_lt (n / t + 1) k) [
  | inl more ↦ absurd (
      let most : t * (n / t + 2) ≤ t * k = mul-le-mul_left t (omega arith) in
      let parts : t * (n / t + 2) ≡ t * (n / t) + 2 * t = omega arith in
      omega arith)
  | inr few ↦ omega arith
]

few_one : (n t k : ℕ) → 1 ≤ n → n * k ≤ n → k ≤ n / t + 1
few_one n t k some all = elim (cases_lt 1 k) [
  | inl more ↦ absurd (
      let most : n * 2 ≤ n * k = mul-le-mul_left n (omega arith) in
      omega arith)
  | inr few ↦ omega arith
]

few_pieces : (n t k : ℕ) → 1 ≤ n → 1 ≤ t → min n t * k ≤ n → k ≤ n / t + 1
few_pieces n t k some least most = elim (cases_lt n t) [
  | inl less ↦
      let m : min n t ≡ n = omega arith in
      let all : n * k ≤ n = subst (λ (i : ℕ). i * k ≤ n) m most in
      few_one n t k some all
  | inr fits ↦
      let m : min n t ≡ t = omega arith in
      let all : t * k ≤ n = subst (λ (i : ℕ). i * k ≤ n) m most in
      few_of n t k least all
]

-- the need was granted, after a refused wish that left the spaces as they were, or without one
pub part_need : {A : Type 0} (space first : A → ℕ) (pages : A → List (List ℕ)) (tells : Bool)
    (start t from room room' : ℕ) (request : Request) (old middle new : Rest) (had has : List A) →
    1 ≤ request.need → 1 ≤ t → middle.frame ≡ old.frame →
    ((numbers : Numbers) (views : List SpaceView) → AreTold old views → length views ≡ count old →
    AreTold middle views × (part_runs numbers start t request (free_sets views)
    ≡ halved request.need numbers start t request.need (free_sets views))) →
    AppendsPieces space first pages tells middle.frame request.need t from room room' had has →
    ((numbers : Numbers) (views : List SpaceView) → AreTold middle views → length views ≡ count middle →
    AnswersHalved space first pages views (IsLaid numbers middle.frame.firsts)
    (halved request.need numbers start t request.need (free_sets views)) None (drop from has) new) →
    AddsPart space first pages tells start t request old new had has
part_need {A} space first pages tells start t from room room' request old middle new had has some least frame rule appends exact =
    let pieces = drop from has in
    let size : A → ℕ = λ piece. length (pages piece) in
    let own = appends.pieces in
    record {
      pieces = pieces;
      added = sym (take-append-drop from has) ∙ ap (λ (l : List A). l ++ pieces) appends.front;
      inside = subst (λ (f : Frame). AreRunsIn space first pages tells f pieces) frame own.runs;
      sizes = inr (
        sum_of_sizes size pieces ∙ own.whole,
        each_size size (λ n. min request.need t ≤ n) pieces own.least,
      );
      few = few_pieces request.need t (length pieces) some least (omega (arith, few size (min request.need t) pieces own.least, own.whole));
      told = λ numbers views told same.
          let ruled = rule numbers views told same in
          let one = exact numbers views ruled.0 (same ∙ ap (λ (f : Frame). length f.firsts) (sym frame)) in
          record {
            after = one.after;
            taken = one.taken;
            told = one.told;
            listed = one.listed;
            same = ruled.1 ∙ one.same;
            matched = λ laid. one.matched (subst (λ (f : Frame). IsLaid numbers f.firsts) (sym frame) laid);
          };
    }

-- neither was granted
pub part_refused : {A : Type 0} (start t p room room' : ℕ) (request : Request)
    (old middle new : Rest) (had has : List A) → middle.frame ≡ old.frame →
    ((numbers : Numbers) (views : List SpaceView) → AreTold old views → length views ≡ count old →
    AreTold middle views × (part_runs numbers start t request (free_sets views)
    ≡ halved request.need numbers start t request.need (free_sets views))) →
    LeavesAll request.need t p room room' had has middle new →
    ((numbers : Numbers) (views : List SpaceView) → AreTold middle views → length views ≡ count middle →
    halved request.need numbers start t request.need (free_sets views) ≡ Refused p) →
    RefusesPart start t p request old new had has
part_refused start t p room room' request old middle new had has frame rule leaves due = record {
  some = leaves.uncut.some;
  small = leaves.uncut.small;
  list = leaves.list;
  due = λ numbers views told same.
      let ruled = rule numbers views told same in
      ruled.1 ∙ due numbers views ruled.0 (same ∙ ap (λ (f : Frame). length f.firsts) (sym frame));
  left = λ views told same.
      let ruled = rule (record { page = 0; order = 0; spaces = 0; catalog = 0; threshold = 0 }) views told same in
      leaves.untouched views ruled.0 (same ∙ ap (λ (f : Frame). length f.firsts) (sym frame));
}

-- by the answer to the need
pub need_granted : {A : Type 0} (space first : A → ℕ) (pages : A → List (List ℕ)) (tells : Bool)
    (start t from room room' : ℕ) (request : Request) (old middle new : Rest) (had has : List A) (answer : Result (Unit {0}) NoSpace) →
    1 ≤ request.need → 1 ≤ t → middle.frame ≡ old.frame →
    ((numbers : Numbers) (views : List SpaceView) → AreTold old views → length views ≡ count old →
    AreTold middle views × (part_runs numbers start t request (free_sets views)
    ≡ halved request.need numbers start t request.need (free_sets views))) →
    OnOk answer (AppendsPieces space first pages tells middle.frame request.need t from room room' had has) →
    ((numbers : Numbers) (views : List SpaceView) → AreTold middle views → length views ≡ count middle →
    AnswersHalved space first pages views (IsLaid numbers middle.frame.firsts)
    (halved request.need numbers start t request.need (free_sets views)) (option_map (λ (e : NoSpace). e.pages) (result_err answer))
    (drop from has) new) →
    OnOk answer (AddsPart space first pages tells start t request old new had has)
need_granted space first pages tells start t from room room' request old middle new had has (Ok value) some least frame rule appends exact =
    part_need space first pages tells start t from room room' request old middle new had has some least frame rule appends exact
need_granted space first pages tells start t from room room' request old middle new had has (Err e) some least frame rule appends exact = tt

pub need_refused : {A : Type 0} (space first : A → ℕ) (pages : A → List (List ℕ)) (start t from room room' : ℕ)
    (request : Request) (old middle new : Rest) (had has : List A) (answer : Result (Unit {0}) NoSpace) → middle.frame ≡ old.frame →
    ((numbers : Numbers) (views : List SpaceView) → AreTold old views → length views ≡ count old →
    AreTold middle views × (part_runs numbers start t request (free_sets views)
    ≡ halved request.need numbers start t request.need (free_sets views))) →
    IfErr answer (λ e. LeavesAll request.need t e.pages room room' had has middle new) →
    ((numbers : Numbers) (views : List SpaceView) → AreTold middle views → length views ≡ count middle →
    AnswersHalved space first pages views (IsLaid numbers middle.frame.firsts)
    (halved request.need numbers start t request.need (free_sets views)) (option_map (λ (e : NoSpace). e.pages) (result_err answer))
    (drop from has) new) →
    IfErr answer (λ e. RefusesPart start t e.pages request old new had has)
need_refused space first pages start t from room room' request old middle new had has (Ok value) frame rule leaves exact = tt
need_refused space first pages start t from room room' request old middle new had has (Err e) frame rule leaves exact =
    part_refused start t e.pages room room' request old middle new had has frame rule leaves
    (λ numbers views told same. (exact numbers views told same).same)

-- the need alone was asked for
pub rule_need : (numbers : Numbers) (start t : ℕ) (request : Request) (old : Rest) (views : List SpaceView) → 1 ≤ request.need →
    request.want ≡ request.need → AreTold old views →
    AreTold old views × (part_runs numbers start t request (free_sets views)
    ≡ halved request.need numbers start t request.need (free_sets views))
rule_need numbers start t request old views some same told = (
  told,
  ap (λ (n : ℕ). part_runs numbers start t (asked_for n request.need) (free_sets views)) same
      ∙ need_alone numbers start t request.need (free_sets views) some,
)

-- the wish was refused
pub rule_wish : (numbers : Numbers) (start t : ℕ) (request : Request) (old middle : Rest) (views : List SpaceView) →
    length views ≡ count old → Grants old old.frame start request.want None middle → AreTold old views →
    AreTold middle views × (part_runs numbers start t request (free_sets views)
    ≡ halved request.need numbers start t request.need (free_sets views))
rule_wish numbers start t request old middle views same exact told =
    let found = exact_none views request.want (spot_in (free_sets views) request.want (around start (count old)))
    old.frame middle (exact views told same) in (
      found.1,
      wish_refused numbers start t request.want request.need (free_sets views)
          (around_all views old.frame start request.want None same found.0),
    )

-- ---- the looks

pub low_granted : (many : ℕ) (part : List SpaceEvent) → IsLowAt many None part
low_granted many part = λ p e. cc

pub low_asked : (n t many : ℕ) (refusal : Option ℕ) (part : List SpaceEvent) → IsAskedAll n t many refusal part →
    IsLowAt many refusal part
low_asked n t many refusal part all = λ p e space less.
    subst (λ (l : List SpaceEvent). IsLow space (least_order p) l) (sym all.both)
    (low_left space (least_order p) all.asked all.given (all.grants.low p e space less))
