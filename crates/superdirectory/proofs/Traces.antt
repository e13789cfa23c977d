-- Parts of a trace, one after the other, and what a search over spaces adds to it.
use Rattle.std.proofs.Common.{inl, inr, ◌≡◌, ℕ, suc, zero, ◌+◌, ◌-◌, ◌<◌, ◌≤◌, Bool, true, false, List, [], ◌∷◌}
use Rattle.std.proofs.Common.{◌++◌, length, map, reverse, Option, Some, None, refl, sym, ap, ◌∙◌, subst, arith}
use Rattle.std.proofs.lemmas.List.{append-nil, append_assoc, map-append, reverse-append}
use Rattle.std.proofs.lemmas.Bool.{cases_lt, cases_eq, false≢true, ne_eqb}
use Rattle.std.specs.Prelude.{IsTrue, nat_eq, slice_get, if◌then◌else◌}
use Rattle.superdirectory.specs.Trace.{SpaceEvent, look_event, enter_event, Part, IsLow, IsCareful, one_where}
use Rattle.superdirectory.specs.Trace.{looks_at, enters_of, AreVisits, IsNothing, IsTried, IsSearched, looked}
use Rattle.superdirectory.specs.Trace.{IsInTurn, IsEntered, AreAt, AreEnters}

pub part_none : (P : List SpaceEvent → Type 0) (t : Option (List SpaceEvent)) → P [] → Part P t t
part_none P None p = refl
part_none P (Some before) p = ([], ap (λ (l : List SpaceEvent). Some l) (sym (append-nil before)), p)

-- two calls, one after the other
pub part_then : (P Q R : List SpaceEvent → Type 0) (a b c : Option (List SpaceEvent)) →
    ((p q : List SpaceEvent) → P p → Q q → R (p ++ q)) → Part P a b → Part Q b c → Part R a c
part_then P Q R None b c both first second = subst (λ (t : Option (List SpaceEvent)). Part Q t c) first second
part_then P Q R (Some before) b c both (p, e, here) second =
    let (q, f, there) = (let s : Part Q (Some (before ++ p)) c = subst (λ (t : Option (List SpaceEvent)). Part Q t c) e second in s) in
    (p ++ q, f ∙ ap (λ (l : List SpaceEvent). Some l) (append_assoc before p q), both p q here there)

pub part_as : (P Q : List SpaceEvent → Type 0) (a b : Option (List SpaceEvent)) →
    ((p : List SpaceEvent) → P p → Q p) → Part P a b → Part Q a b
part_as P Q None b more h = h
part_as P Q (Some before) b more (p, e, here) = (p, e, more p here)

-- one space was entered and left
pub part_used : (space hint : ℕ) (a b c : Option (List SpaceEvent)) →
    Part (λ part. part ≡ enter_event space hint ∷ []) a b → Part IsNothing b c → Part (IsEntered space) a c
part_used space hint a b c enters leaves =
    part_then (λ part. part ≡ enter_event space hint ∷ []) IsNothing (IsEntered space) a b c
    (λ p q first second. (
      hint,
      ap (λ (l : List SpaceEvent). l ++ q) first
          ∙ ap (λ (l : List SpaceEvent). enter_event space hint ∷ l) second,
    )) enters leaves

-- an event of a row of two parts
get_left : (p q : List SpaceEvent) (i : ℕ) (e : SpaceEvent) → slice_get p i ≡ Some e → slice_get (p ++ q) i ≡ Some e
get_left [] q i e h = cc
get_left (x ∷ p) q zero e h = h
get_left (x ∷ p) q (suc i) e h = get_left p q i e h

get_right : (p q : List SpaceEvent) (i : ℕ) → slice_get (p ++ q) (length p + i) ≡ slice_get q i
get_right [] q i = let e : zero + i ≡ i = omega arith in ap (λ (k : ℕ). slice_get q k) e
get_right (x ∷ p) q i = let e : suc (length p) + i ≡ suc (length p + i) = omega arith in
    ap (λ (k : ℕ). slice_get (x ∷ (p ++ q)) k) e ∙ get_right p q i

get_within : (p q : List SpaceEvent) (i : ℕ) → i < length p → slice_get (p ++ q) i ≡ slice_get p i
get_within [] q i less = absurd (omega arith)
get_within (x ∷ p) q zero less = refl
get_within (x ∷ p) q (suc i) less = get_within p q i (omega arith)

pub low_left : (space order : ℕ) (p q : List SpaceEvent) → IsLow space order p → IsLow space order (p ++ q)
low_left space order p q l = record { at = l.at; event = l.event; here = get_left p q l.at l.event l.here; of = l.of; low = l.low }

pub low_right : (space order : ℕ) (p q : List SpaceEvent) → IsLow space order q → IsLow space order (p ++ q)
low_right space order p q l = record { at = length p + l.at; event = l.event; here = get_right p q l.at ∙ l.here; of = l.of; low = l.low }

careful_right : (order : ℕ) (p q : List SpaceEvent) → IsCareful order q → (at space hint j : ℕ) →
    at ≡ length p + j → slice_get (p ++ q) at ≡ Some (enter_event space hint) →
    (i : ℕ) × (seen : ℕ) × (suc i ≡ at) × (slice_get (p ++ q) i ≡ Some (look_event space seen)) × (order < seen)
careful_right order p q c at space hint j e h =
    let found = c.shown j space hint (sym (get_right p q j) ∙ ap (λ (k : ℕ). slice_get (p ++ q) k) (sym e) ∙ h) in
    (length p + found.0, found.1, omega (arith, found.2), get_right p q found.0 ∙ found.3, found.4)

pub careful_both : (order : ℕ) (p q : List SpaceEvent) → IsCareful order p → IsCareful order q → IsCareful order (p ++ q)
careful_both order p q a b = record {
  shown = λ at space hint h. elim (cases_lt at (length p)) [
    | inl less ↦ let found = a.shown at space hint (sym (get_within p q at less) ∙ h) in
        (found.0, found.1, found.2, get_left p q found.0 (look_event space found.1) found.3, found.4)
    | inr more ↦ careful_right order p q b at space hint (at - length p) (omega arith) h
  ];
}

pub careful_none : (order : ℕ) → IsCareful order []
careful_none order = record { shown = λ at space hint h. cc }

-- visits of two parts
looks-append : (space : ℕ) (p q : List SpaceEvent) → looks_at space (p ++ q) ≡ looks_at space p + looks_at space q
looks-append space [] q = let none : looks_at space q ≡ 0 + looks_at space q = omega arith in none
looks-append space (e ∷ p) q = let rest = looks-append space p q in omega (arith, rest)

enters-append : (space : ℕ) (p q : List SpaceEvent) → enters_of space (p ++ q) ≡ enters_of space p + enters_of space q
enters-append space [] q = let none : enters_of space q ≡ 0 + enters_of space q = omega arith in none
enters-append space (e ∷ p) q = let rest = enters-append space p q in omega (arith, rest)

visits_both : (a b most space : ℕ) (p q : List SpaceEvent) → AreVisits a space p → AreVisits b space q →
    a + b ≤ most → AreVisits most space (p ++ q)
visits_both a b most space p q first second fits = record {
  looks = let all = looks-append space p q in omega (arith, all, first.looks, second.looks, fits);
  enters = let all = enters-append space p q in omega (arith, all, first.enters, second.enters, fits);
}

visits_none : (most space : ℕ) → AreVisits most space []
visits_none most space = record { looks = omega arith; enters = omega arith }

one_most : (b : Bool) → one_where b ≤ 1
one_most true = omega arith
one_most false = omega arith

one_none : (s other : ℕ) → (other ≡ s → ⊥) → one_where (nat_eq s other) ≡ 0
one_none s other differ = ap one_where (ne_eqb s other (λ same. differ (sym same)))

-- a look at a space, and an enter of it
visits_tried : (s hint found : ℕ) → AreVisits 1 s (look_event s hint ∷ enter_event s found ∷ [])
visits_tried s hint found =
    let most = one_most (nat_eq s s) in
    record { looks = omega (arith, most); enters = omega (arith, most) }

visits_other : (s hint found other : ℕ) → (other ≡ s → ⊥) → AreVisits 0 other (look_event s hint ∷ enter_event s found ∷ [])
visits_other s hint found other differ =
    let none = one_none s other differ in
    record { looks = omega (arith, none); enters = omega (arith, none) }

-- a look that showed enough, and the enter after it
pub tried_entered : (order s hint found : ℕ) (refused : Bool) → order < hint → (IsTrue refused → found ≤ order) →
    IsTried order s refused (look_event s hint ∷ enter_event s found ∷ [])
tried_entered order s hint found refused enough low = record {
  careful = record { shown = after };
  once = visits_tried s hint found;
  alone = λ other differ. visits_other s hint found other differ;
  low = λ r. record { at = 1; event = enter_event s found; here = refl; of = refl; low = low r };
}
  where
    after : (at space h : ℕ) → slice_get (look_event s hint ∷ enter_event s found ∷ []) at
        ≡ Some (enter_event space h) → (i : ℕ) × (seen : ℕ) × (suc i ≡ at)
        × (slice_get (look_event s hint ∷ enter_event s found ∷ []) i ≡ Some (look_event space seen))
        × (order < seen)
    after zero space h e = let same : look_event s hint ≡ enter_event space h = cc in
        absurd (false≢true (ap (λ (x : SpaceEvent). x.enters) same))
    after (suc zero) space h e =
        let ev : enter_event s found ≡ enter_event space h = cc in
        let same : s ≡ space = ap (λ (x : SpaceEvent). x.space) ev in
        (0, hint, refl, ap (λ (x : ℕ). Some (look_event x hint)) same, enough)
    after (suc (suc at)) space h e = cc

pub searched_none : (order from : ℕ) → IsSearched order from from true []
searched_none order from = record {
  careful = careful_none order;
  once = λ space. visits_none 1 space;
  alone =
      λ space out. visits_none 0 space;
  low = λ _ space low high. absurd (omega arith);
}

-- one space more
visits_more : (order from s space : ℕ) (before refused : Bool) (p q : List SpaceEvent) →
    IsSearched order from s before p → IsTried order s refused q → AreVisits 1 space (p ++ q)
visits_more order from s space before refused p q a b = elim (cases_eq space s) [
  | inl same ↦ visits_both 0 1 1 space p q (a.alone space (inr (omega (arith, same))))
      (subst (λ (k : ℕ). AreVisits 1 k q) (sym same) b.once) (omega arith)
  | inr other ↦ visits_both 1 0 1 space p q (a.once space) (b.alone space other) (omega arith)
]

pub searched_more : (order from s next : ℕ) (refused : Bool) (p q : List SpaceEvent) → next ≡ s + 1 → from ≤ s →
    IsSearched order from s true p → IsTried order s refused q → IsSearched order from next refused (p ++ q)
searched_more order from s next refused p q e rising a b = record {
  careful = careful_both order p q a.careful b.careful;
  once = λ space. visits_more order from s space true refused p q a b;
  alone = λ space out. elim out [
    | inl below ↦ visits_both 0 0 0 space p q (a.alone space (inl below))
        (b.alone space (λ same. omega (arith, same, below, rising))) (omega arith)
    | inr above ↦ visits_both 0 0 0 space p q (a.alone space (inr (omega (arith, above, e))))
        (b.alone space (λ same. omega (arith, same, above, e))) (omega arith)
  ];
  low = λ r space low high. elim (cases_eq space s) [
    | inl same ↦ low_right space order p q (subst (λ (k : ℕ). IsLow k order q) (sym same) (b.low r))
    | inr other ↦ low_left space order p q (a.low refl space low (omega arith))
  ];
}

pub searched_found : (order from to s : ℕ) (p q : List SpaceEvent) → from ≤ s → s < to →
    IsSearched order from s true p → IsTried order s false q → IsSearched order from to false (p ++ q)
searched_found order from to s p q rising within a b = record {
  careful = careful_both order p q a.careful b.careful;
  once = λ space. visits_more order from s space true false p q a b;
  alone = λ space out. elim out [
    | inl below ↦ visits_both 0 0 0 space p q (a.alone space (inl below))
        (b.alone space (λ same. omega (arith, same, below, rising))) (omega arith)
    | inr above ↦ visits_both 0 0 0 space p q (a.alone space (inr (omega (arith, above, within))))
        (b.alone space (λ same. omega (arith, same, above, within))) (omega arith)
  ];
  low = λ r space low high. cc;
}

-- two searches that meet cover all
pub searched_both : (order start count : ℕ) (refused : Bool) (p q : List SpaceEvent) → start ≤ count →
    IsSearched order start count true p → IsSearched order 0 start refused q →
    IsSearched order 0 count refused (p ++ q)
searched_both order start count refused p q fits a b = record {
  careful = careful_both order p q a.careful b.careful;
  once = λ space. elim (cases_lt space start) [
    | inl less ↦ visits_both 0 1 1 space p q (a.alone space (inl less)) (b.once space) (omega arith)
    | inr more ↦ visits_both 1 0 1 space p q (a.once space) (b.alone space (inr more)) (omega arith)
  ];
  alone = λ space out. elim out [
    | inl below ↦ absurd (omega (arith, below))
    | inr above ↦ visits_both 0 0 0 space p q (a.alone space (inr above)) (b.alone space (inr (omega (arith, above, fits)))) (omega arith)
  ];
  low = λ r space low high. elim (cases_lt space start) [
    | inl less ↦ low_right space order p q (b.low r space low less)
    | inr more ↦ low_left space order p q (a.low refl space more high)
  ];
}

pub searched_found_from : (order from to other end : ℕ) (p : List SpaceEvent) → other ≤ from → to ≤ end →
    IsSearched order from to false p → IsSearched order other end false p
searched_found_from order from to other end p low high a = record {
  careful = a.careful;
  once = a.once;
  alone = λ space out. elim out [
    | inl below ↦ a.alone space (inl (omega (arith, below, low)))
    | inr above ↦ a.alone space (inr (omega (arith, above, high)))
  ];
  low = λ r space low high. cc;
}

-- looks of two parts
looked-append : (p q : List SpaceEvent) → looked (p ++ q) ≡ looked p ++ looked q
looked-append [] q = refl
looked-append (e ∷ p) q =
    let own : List ℕ = if e.enters then [] else e.space ∷ [] in
    ap (λ (l : List ℕ). own ++ l) (looked-append p q) ∙ sym (append_assoc own (looked p) (looked q))

-- no space is to be looked at
pub turn_none : IsInTurn [] true []
turn_none = record { later = []; order = refl; all = λ r. refl; last = λ e. cc }

-- one space is looked at, and entered or not
pub turn_low : (s hint : ℕ) → IsInTurn (s ∷ []) true (look_event s hint ∷ [])
turn_low s hint = record { later = []; order = refl; all = λ r. refl; last = λ e. cc }

pub turn_entered : (s hint found : ℕ) (refused : Bool) → IsInTurn (s ∷ []) refused (look_event s hint ∷ enter_event s found ∷ [])
turn_entered s hint found refused = record {
  later = [];
  order = refl;
  all = λ r. refl;
  last =
      λ e. (look_event s hint ∷ [], s, found, refl);
}

-- some spaces that all refused, and then others
pub turn_both : (xs ys : List ℕ) (refused : Bool) (p q : List SpaceEvent) → IsInTurn xs true p →
    IsInTurn ys refused q → IsInTurn (xs ++ ys) refused (p ++ q)
turn_both xs ys refused p q a b =
    let whole : looked p ≡ xs = sym (append-nil (looked p)) ∙ ap (λ (l : List ℕ). looked p ++ l) (sym (a.all refl)) ∙ a.order in
    record {
      later = b.later;
      order = ap (λ (l : List ℕ). l ++ b.later) (looked-append p q) ∙ append_assoc (looked p) (looked q) b.later
          ∙ ap (λ (l : List ℕ). looked p ++ l) b.order ∙ ap (λ (l : List ℕ). l ++ ys) whole;
      all = b.all;
      last = λ e. let l = b.last e in (
        p ++ l.0,
        l.1,
        l.2,
        ap (λ (x : List SpaceEvent). p ++ x) l.3
            ∙ sym (append_assoc p l.0 (enter_event l.1 l.2 ∷ [])),
      );
    }

-- behind the one that granted, none is looked at
pub turn_stop : (xs ys : List ℕ) (p : List SpaceEvent) → IsInTurn xs false p → IsInTurn (xs ++ ys) false p
turn_stop xs ys p a = record {
  later = a.later ++ ys;
  order = sym (append_assoc (looked p) a.later ys) ∙ ap (λ (l : List ℕ). l ++ ys) a.order;
  all = λ r. cc;
  last = a.last;
}

-- one more space was entered
pub at_more : (space : ℕ) (spaces : List ℕ) (p q : List SpaceEvent) → AreAt (reverse spaces) p → IsEntered space q →
    AreAt (reverse (space ∷ spaces)) (p ++ q)
at_more space spaces p q a (hint, e) =
    map-append (λ (x : SpaceEvent). x.space) p q
    ∙ ap (λ (l : List ℕ). l ++ map (λ (x : SpaceEvent). x.space) q) a
    ∙ ap (λ (l : List SpaceEvent). reverse spaces ++ map (λ (x : SpaceEvent). x.space) l) e
    ∙ sym (reverse-append (space ∷ []) spaces)

pub enters_none : AreEnters []
enters_none = record { each = λ at event h. cc }

pub enters_more : (space : ℕ) (p q : List SpaceEvent) → AreEnters p → IsEntered space q → AreEnters (p ++ q)
enters_more space p q a (hint, e) = record {
  each = λ at event h. elim (cases_lt at (length p)) [
    | inl less ↦ a.each at event (sym (get_within p q at less) ∙ h)
    | inr more ↦ last (at - length p) (let same : at ≡ length p + (at - length p) = omega arith in
        sym (ap (λ (l : List SpaceEvent). slice_get l (at - length p)) e) ∙ sym (get_right p q (at - length p))
        ∙ ap (λ (k : ℕ). slice_get (p ++ q) k) (sym same) ∙ h)
  ];
}
  where
    last : {event : SpaceEvent} (j : ℕ) → slice_get (enter_event space hint ∷ []) j ≡ Some event → IsTrue event.enters
    last {event} zero h = let same : enter_event space hint ≡ event = cc in sym (ap (λ (x : SpaceEvent). x.enters) same)
    last (suc j) h = cc
