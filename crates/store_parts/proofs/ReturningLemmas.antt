-- What one run more makes of a mount whose pages come back.
use Rattle.std.proofs.Common.{◌≡◌, ℕ, ◌+◌, ◌-◌, ◌<◌, ◌≤◌, Bool, true, false, ◌&&◌, ◌||◌, not, IsTrue, List, [], ◌∷◌, ◌++◌}
use Rattle.std.proofs.Common.{length, take, drop, map, get_or, refl, sym, ap}
use Rattle.std.proofs.Common.{subst, ◌∙◌, arith, inl, inr, All, append-nil, append_assoc}
use Rattle.std.proofs.Common.{Option, Some, None, is_some, length-append, unwrap_or}
use Rattle.std.specs.List.{list_all}
use Rattle.std.specs.Prelude.{IsTrue}
use Rattle.std.proofs.Math.Seq.{get_or-append_seam}
use Rattle.std.proofs.lemmas.Bool.{cases_Bool, cases_lt, false≢true, or_cases, or_parts}
use Rattle.std.proofs.lemmas.List.{get_or-take, get_or-drop, get_or-append_right, get_or_append_left, get_or-map, length-take-le}
use Rattle.std.proofs.lemmas.List.{length-drop, length-map}
use Rattle.tree_model.specs.Tree.{Pages}
use Rattle.page_port.specs.Pages.{AreOf}
use Rattle.page_port.specs.Device.{Device, after_return, is_home}
use Rattle.span_store.specs.Held.{Held, HeldSpan, AllSized, page_of}
use Rattle.span_store.proofs.SpanLists.{end_of, page_of-inside, has_page}
use Rattle.store_parts.specs.Returning.{IsFirstOut, HaveReturned, is_page_of, any_has, ShowsSpan, IsOnMount, AreHeldOnMount}

-- ---- one run

abbrev pages_after : ℕ → List (List ℕ) → List (Option (List ℕ)) → List (Option (List ℕ))
pages_after first contents pages = after_return first contents pages

back-before : (first q : ℕ) (contents : List (List ℕ)) (pages : List (Option (List ℕ))) → first + length contents ≤ length pages →
    q < first → get_or (after_return first contents pages) q None ≡ get_or pages q None
back-before first q contents pages range below =
    let long = length-take-le first pages (omega (arith, range)) in
    get_or_append_left (take first pages) (map Some contents ++ drop (first + length contents) pages) None q (omega (arith, long, below))
    ∙ get_or-take first pages q None below

pub back-inside : (first q : ℕ) (contents : List (List ℕ)) (pages : List (Option (List ℕ))) → first + length contents ≤ length pages →
    first ≤ q → q < first + length contents →
    get_or (after_return first contents pages) q None ≡ Some (get_or contents (q - first) [])
back-inside first q contents pages range from to =
    let behind : List (Option (List ℕ)) = drop (first + length contents) pages in
    let long = length-take-le first pages (omega (arith, range)) in
    let inside : q - first < length contents = omega (arith, from, to) in
    get_or-append_right (take first pages) (map Some contents ++ behind) first q None long from
    ∙ (get_or_append_left (map Some contents) behind None (q - first) (omega (arith, length-map contents Some, inside))
    ∙ get_or-map Some contents (q - first) [] None inside)

pub back-behind : (first q : ℕ) (contents : List (List ℕ)) (pages : List (Option (List ℕ))) → first + length contents ≤ length pages →
    first + length contents ≤ q → get_or (after_return first contents pages) q None ≡ get_or pages q None
back-behind first q contents pages range above =
    let count = length contents in
    let behind : List (Option (List ℕ)) = drop (first + count) pages in
    let long = length-take-le first pages (omega (arith, range)) in
    let place : first + count + (q - first - count) ≡ q = omega (arith, above) in
    get_or-append_right (take first pages) (map Some contents ++ behind) first q None long (omega (arith, above))
    ∙ (get_or-append_right (map Some contents) behind count (q - first) None (length-map contents Some) (omega (arith, above))
    ∙ (get_or-drop (first + count) pages (q - first - count) None ∙ ap (λ (k : ℕ). get_or pages k None) place))

pub length-back : (first : ℕ) (contents : List (List ℕ)) (pages : List (Option (List ℕ))) → first + length contents ≤ length pages →
    length (after_return first contents pages) ≡ length pages
length-back first contents pages range =
    omega (
      arith,
      range,
      length-append (take first pages) (map Some contents ++ drop (first + length contents) pages),
      length-append (map Some contents) (drop (first + length contents) pages),
      length-take-le first pages (omega (arith, range)),
      length-map {A = List ℕ} contents Some,
      length-drop (first + length contents) pages,
    )

-- a device with a page out isn't home
pub out-away : (pages : List (Option (List ℕ))) → 0 < length pages → get_or pages 0 None ≡ None → list_all is_some pages ≡ false
out-away [] some out = absurd (omega (arith, some))
out-away (None ∷ pages) some out = refl
out-away (Some page ∷ pages) some out = let bad : true ≡ false = ap is_some out in absurd (false≢true (sym bad))

pub span-returned : (at : Pages) (s : HeldSpan) (old new : Device) → IsFirstOut old → IsOnMount old s.first (length s.pages) →
    AreOf (unwrap_or old.mounted 0) s.pages → new.pages ≡ after_return s.first s.pages old.pages → new.mounted ≡ old.mounted →
    (is_home new ≡ false → new.bytes ≡ old.bytes) → ShowsSpan at s → HaveReturned at (is_page_of s) old new
span-returned at s old new out on sized pages mounted away shows =
    let first : ℕ = s.first in
    let contents : List (List ℕ) = s.pages in
    let moved : (q : ℕ) → get_or new.pages q None ≡ get_or (after_return first contents old.pages) q None =
    λ q. ap (λ (ps : List (Option (List ℕ))). get_or ps q None) pages in
    let long : length new.pages ≡ length old.pages = ap length pages ∙ length-back first contents old.pages on.range in
    let still : IsFirstOut new = moved 0 ∙ (back-before first 0 contents old.pages on.range (omega (arith, on.some)) ∙ out) in
    let held : (q : ℕ) → is_page_of s q ≡ true → (first ≤ q) × (q < end_of s) = λ q is. has_page s q is in
    let page : (q : ℕ) → is_page_of s q ≡ true → get_or contents (q - first) [] ≡ at q = λ q is.
    shows q (get_or contents (q - first) []) (page_of-inside s q (held q is).0 (held q is).1) in
    record {
      count = long;
      mounted = mounted;
      bytes = away (out-away new.pages (omega (arith, long, on.some, on.range)) still);
      first = still;
      sized = λ q is. ap length (sym (page q is)) ∙ sized (q - first) [] (omega (arith, (held q is).0, (held q is).1));
      came = λ q is. moved q ∙ (back-inside first q contents old.pages on.range (held q is).0 (held q is).1 ∙ ap Some (page q is));
      others = λ q no. elim (cases_lt q first) [
        | inl below ↦ moved q ∙ back-before first q contents old.pages on.range below
        | inr from ↦ elim (cases_lt q (end_of s)) [
          | inl to ↦ absurd (false≢true (sym no ∙ ap is_some (page_of-inside s q from to)))
          | inr above ↦ moved q ∙ back-behind first q contents old.pages on.range above
        ]
      ];
    }

-- ---- several

pub returned-none : (at : Pages) (d : Device) → IsFirstOut d → HaveReturned at (λ q. false) d d
returned-none at d out = record {
  count = refl;
  mounted = refl;
  bytes = refl;
  first = out;
  sized = λ q is. absurd (false≢true is);
  came = λ q is. absurd (false≢true is);
  others = λ q no. refl;
}

pub returned-alike : (at : Pages) (t u : ℕ → Bool) (a b : Device) → ((q : ℕ) → u q ≡ t q) → HaveReturned at t a b → HaveReturned at u a b
returned-alike at t u a b same back = record {
  count = back.count;
  mounted = back.mounted;
  bytes = back.bytes;
  first = back.first;
  sized = λ q is. back.sized q (sym (same q) ∙ is);
  came = λ q is. back.came q (sym (same q) ∙ is);
  others = λ q no. back.others q (sym (same q) ∙ no);
}

pub returned-both : (at : Pages) (t u : ℕ → Bool) (a b c : Device) → HaveReturned at t a b → HaveReturned at u b c →
    HaveReturned at (λ q. u q || t q) a c
returned-both at t u a b c one two = record {
  count = two.count ∙ one.count;
  mounted = two.mounted ∙ one.mounted;
  bytes = two.bytes ∙ one.bytes;
  first = two.first;
  sized = λ q is. elim (or_cases (u q) (t q) is) [
    | inl later ↦ two.sized q later ∙ ap (λ (m : Option ℕ). unwrap_or m 0) one.mounted
    | inr before ↦ one.sized q before
  ];
  came = λ q is. elim (cases_Bool (u q)) [
    | inl later ↦ two.came q later
    | inr away ↦ elim (or_cases (u q) (t q) is) [
      | inl later ↦ two.came q later
      | inr before ↦ two.others q away ∙ one.came q before
    ]
  ];
  others = λ q no. two.others q (or_parts (u q) (t q) no).0 ∙ one.others q (or_parts (u q) (t q) no).1;
}

-- ---- what is no longer there

pub and-not : (b : Bool) → (b && not b) ≡ false
and-not true = refl
and-not false = refl

pub and-true : (b : Bool) → (b && true) ≡ b
and-true true = refl
and-true false = refl

pub gone-more : (all old new here : Bool) → (here ≡ true → (new ≡ false) × (all ≡ true)) → (here ≡ false → new ≡ old) →
    (all && not new) ≡ (here || (all && not old))
gone-more all old new true inside outside =
    ap (λ (b : Bool). b && not new) (inside refl).1 ∙ ap not (inside refl).0
gone-more all old new false inside outside = ap (λ (b : Bool). all && not b) (outside refl)

-- ---- the items of a list, the last first

-- The pages of the items behind those that are left came back.
pub record AreGiven {X : Type 0} (test : X → ℕ → Bool) (shows : Pages → X → Type 0) (tells : Bool) (all left : List X)
    (old now : Device) : Type 0 where
  pub gone : List X
  pub split : all ≡ left ++ gone
  pub out : IsTrue tells → IsFirstOut now
  pub count : IsTrue tells → length now.pages ≡ length old.pages
  pub mounted : IsTrue tells → now.mounted ≡ old.mounted
  pub back : IsTrue tells → (at : Pages) → All (shows at) all → HaveReturned at (any_has test gone) old now

pub given-none : {X : Type 0} (test : X → ℕ → Bool) (shows : Pages → X → Type 0) (tells : Bool) (all : List X) (old : Device) →
    (IsTrue tells → IsFirstOut old) → AreGiven test shows tells all all old old
given-none test shows tells all old out = record {
  gone = [];
  split = sym (append-nil all);
  out = out;
  count = λ tell. refl;
  mounted = λ tell. refl;
  back = λ tell at shown. returned-none at old (out tell);
}

pub given-more : {X : Type 0} (test : X → ℕ → Bool) (shows : Pages → X → Type 0) (tells : Bool) (all had left : List X) (x : X)
    (own : Pages) (old now new : Device) → shows own x → had ≡ left ++ x ∷ [] → AreGiven test shows tells all had old now →
    (IsTrue tells → (at : Pages) → shows at x → HaveReturned at (test x) now new) → AreGiven test shows tells all left old new
given-more {X} test shows tells all had left x own old now new mine popped given step =
    let split : all ≡ left ++ (x ∷ given.gone) =
    given.split ∙ (ap (λ (xs : List X). xs ++ given.gone) popped ∙ append_assoc left (x ∷ []) given.gone) in
    let inside : length left < length all =
    omega (arith, ap length split, length-append left (x ∷ given.gone)) in
    let here : (at : Pages) → All (shows at) all → shows at x = λ at shown.
    subst (shows at) (ap (λ (xs : List X). get_or xs (length left) x) split ∙ get_or-append_seam left x given.gone x)
    (shown (length left) x inside) in
    record {
      gone = x ∷ given.gone;
      split = split;
      out = λ tell. (step tell own mine).first;
      count = λ tell. (step tell own mine).count ∙ given.count tell;
      mounted = λ tell. (step tell own mine).mounted ∙ given.mounted tell;
      back = λ tell at shown. returned-both at (any_has test given.gone) (test x) old now new (given.back tell at shown)
          (step tell at (here at shown));
    }

pub given-all : {X : Type 0} (test : X → ℕ → Bool) (shows : Pages → X → Type 0) (tells : Bool) (all left : List X)
    (old now : Device) → left ≡ [] → AreGiven test shows tells all left old now → IsTrue tells → (at : Pages) → All (shows at) all →
    HaveReturned at (any_has test all) old now
given-all {X} test shows tells all left old now none given tell at shown =
    let whole : given.gone ≡ all = sym (given.split ∙ ap (λ (xs : List X). xs ++ given.gone) none) in
    subst (λ (xs : List X). HaveReturned at (any_has test xs) old now) whole (given.back tell at shown)

-- the item that is left last
pub last-left : {X : Type 0} (test : X → ℕ → Bool) (shows : Pages → X → Type 0) (tells : Bool) (P : X → Type 0) (all had left : List X)
    (x : X) (old now : Device) → had ≡ left ++ x ∷ [] → AreGiven test shows tells all had old now → All P all → P x
last-left {X} test shows tells P all had left x old now popped given each =
    let split : all ≡ left ++ (x ∷ given.gone) =
    given.split ∙ (ap (λ (xs : List X). xs ++ given.gone) popped ∙ append_assoc left (x ∷ []) given.gone) in
    let inside : length left < length all = omega (arith, ap length split, length-append left (x ∷ given.gone)) in
    subst P (ap (λ (xs : List X). get_or xs (length left) x) split ∙ get_or-append_seam left x given.gone x)
    (each (length left) x inside)

pub on-still : (old now : Device) (first count : ℕ) → length now.pages ≡ length old.pages → IsOnMount old first count →
    IsOnMount now first count
on-still old now first count same on = record { some = on.some; range = omega (arith, same, on.range) }

pub sized-still : (old now : Device) (pages : List (List ℕ)) → now.mounted ≡ old.mounted → AreOf (unwrap_or old.mounted 0) pages →
    AreOf (unwrap_or now.mounted 0) pages
sized-still old now pages same sized = subst (λ (m : Option ℕ). AreOf (unwrap_or m 0) pages) (sym same) sized

-- what a span itself holds
pub own-span : HeldSpan → Pages
own-span s q = unwrap_or (page_of s q) []

pub own-span-shows : (s : HeldSpan) → ShowsSpan (own-span s) s
unfolding own-span
own-span-shows s q held is = sym (ap (λ (o : Option (List ℕ)). unwrap_or o []) is)

pub held-still : (old now : Device) (held : Held) → length now.pages ≡ length old.pages → AreHeldOnMount old held →
    AreHeldOnMount now held
held-still old now held same on q is = on-still old now q 1 same (on q is)

pub held_sized-still : (tells : Bool) (old now : Device) (held : Held) → (IsTrue tells → now.mounted ≡ old.mounted) →
    AllSized tells (unwrap_or old.mounted 0) held → AllSized tells (unwrap_or now.mounted 0) held
held_sized-still tells old now held same sized tell =
    subst (λ (m : Option ℕ). AllSized tells (unwrap_or m 0) held) (sym (same tell)) sized tell
