-- The free pages of a space, given back a run at a time.
use Rattle.std.proofs.Common.{◌≡◌, ℕ, zero, suc, ◌+◌, ◌-◌, ◌<◌, ◌≤◌, Bool, true, false, ◌&&◌, ◌||◌, not, IsTrue, List, [], ◌∷◌, ◌++◌}
use Rattle.std.proofs.Common.{length, take, drop, get_or, replicate, refl, sym, ap}
use Rattle.std.proofs.Common.{◌∙◌, arith, inl, inr, Option, is_some}
use Rattle.std.proofs.Common.{unwrap_or, nat_le}
use Rattle.std.proofs.lemmas.Bool.{cases_lt, false≢true, le-leb, lt-leb, and_right}
use Rattle.std.proofs.lemmas.List.{get_or-take, get_or-drop, get_or-append_right, get_or_append_left, length-take-le, get_or_past}
use Rattle.std.proofs.lemmas.List.{length-replicate, drop_more}
use Rattle.tree_model.specs.Tree.{Pages}
use Rattle.block_model.specs.Block.{has_page, HasRun, with_run, count_of}
use Rattle.block_model.proofs.Changes.{with_run-below, with_run-inside, with_run-above}
use Rattle.block_model.proofs.Changes.{length-with_run, count-with_run, count-replicate_false, count-append}
use Rattle.page_port.specs.Device.{Device}
use Rattle.span_store.specs.Held.{HeldSpan}
use Rattle.span_store.proofs.SpanLists.{page_of-inside, page_of-before, page_of-behind, where_is, Before, Behind, Inside}
use Rattle.space_directory.specs.SpaceView.{SpaceView, IsSpace, IsAnyGrant, with_pages}
use Rattle.store_parts.specs.Returning.{HaveReturned, IsFirstOut, is_page_of, is_free_of, ShowsSpan, ShowsSpace}
use Rattle.store_parts.proofs.ReturningLemmas.{returned-none, returned-both, returned-alike, and-not, and-true, gone-more}

-- the pages of `all` that are no longer free in `left` came back
pub record IsGivingSpace (tells : Bool) (all left : SpaceView) (old now : Device) : Type 0 where
  pub sound : IsSpace left
  pub first : left.first ≡ all.first
  pub page : left.page ≡ all.page
  pub long : length left.free ≡ length all.free
  pub free : (place : ℕ) → has_page left.free place ≡ true → has_page all.free place ≡ true
  pub held : (place : ℕ) → has_page left.free place ≡ true → get_or left.held place [] ≡ get_or all.held place []
  pub out : IsTrue tells → IsFirstOut now
  pub count : IsTrue tells → length now.pages ≡ length old.pages
  pub mounted : IsTrue tells → now.mounted ≡ old.mounted
  pub back : IsTrue tells → (at : Pages) → ShowsSpace at all →
      HaveReturned at (λ q. is_free_of all q && not (is_free_of left q)) old now

take-first : (n : ℕ) (rest : List Bool) → 1 ≤ n → take n (true ∷ rest) ≡ true ∷ take (n - 1) rest
take-first zero rest some = absurd (omega (arith, some))
take-first (suc n) rest some = let e : suc n - 1 ≡ n = omega arith in ap (λ (k : ℕ). true ∷ take k rest) (sym e)

pub no-space-given : (tells : Bool) (all : SpaceView) (old : Device) → IsSpace all → (IsTrue tells → IsFirstOut old) →
    IsGivingSpace tells all all old old
no-space-given tells all old sound out = record {
  sound = sound;
  first = refl;
  page = refl;
  long = refl;
  free = λ place is. is;
  held = λ place is. refl;
  out = out;
  count = λ tell. refl;
  mounted = λ tell. refl;
  back = λ tell at shown. returned-alike at (λ q. false) (λ q. is_free_of all q && not (is_free_of all q)) old old
      (λ q. and-not (is_free_of all q)) (returned-none at old (out tell));
}

-- a run of free pages lies in the space
pub run-within : (free : List Bool) (at n : ℕ) → 1 ≤ n → HasRun free at n → at + n ≤ length free
run-within free at n some has =
    let last : ℕ = at + n - 1 in
    elim (cases_lt last (length free)) [
      | inl inside ↦ omega (arith, inside, some)
      | inr past ↦ absurd (false≢true (sym (get_or_past free last false past) ∙ has.each last (omega (arith, some)) (omega (
        arith,
        some,
      ))))
    ]

-- what the pages of a space hold, away from those that were taken
pub held-outside : (held : List (List ℕ)) (at n place : ℕ) → at + n ≤ length held → (place < at →
    get_or (with_pages held at (replicate n [])) place [] ≡ get_or held place [])
    × (at + n ≤ place → get_or (with_pages held at (replicate n [])) place [] ≡ get_or held place [])
held-outside held at n place fits =
    let none : List (List ℕ) = replicate n [] in
    let many : length none ≡ n = length-replicate {A = List ℕ} n [] in
    let front = length-take-le at held (omega (arith, fits)) in
    let rest : List (List ℕ) = drop (at + length none) held in (
      λ below. get_or_append_left (take at held) (none ++ rest) [] place (omega (arith, front, below)) ∙ get_or-take at held place []
          below,
      λ above.
          let spot : at + length none + (place - at - n) ≡ place = omega (arith, many, above) in
          get_or-append_right (take at held) (none ++ rest) at place [] front (omega (arith, above))
          ∙ (get_or-append_right none rest n (place - at) [] many (omega (arith, above))
          ∙ (get_or-drop (at + length none) held (place - at - n) [] ∙ ap (λ (k : ℕ). get_or held k []) spot)),
    )

-- a run that a space granted shows what the space told
pub grant-shows : (at : Pages) (tells : Bool) (all v w : SpaceView) (start : ℕ) (pages : List (List ℕ)) → v.first ≡ all.first →
    ((place : ℕ) → has_page v.free place ≡ true → has_page all.free place ≡ true) →
    ((place : ℕ) → has_page v.free place ≡ true → get_or v.held place [] ≡ get_or all.held place []) →
    IsAnyGrant v w start pages tells → ShowsSpace at all → ShowsSpan at (record { first = start; pages = pages })
grant-shows at tells all v w start pages first free held grant shows q page is =
    let s : HeldSpan = record { first = start; pages = pages } in
    let n : ℕ = length pages in
    let spot : ℕ = start - v.first in
    elim (where_is s q) [
      | Before before ↦ absurd (false≢true (ap is_some (sym (page_of-before s q before) ∙ is)))
      | Behind from behind ↦ absurd (false≢true (ap is_some (sym (page_of-behind s q behind) ∙ is)))
      | Inside from to ↦
          let place : ℕ = spot + (q - start) in
          let in_run : has_page v.free place ≡ true = grant.free.each place (omega arith) (omega (arith, from, to)) in
          let here : q ≡ all.first + place = omega (arith, from, grant.from, first) in
          let mine : page ≡ get_or pages (q - start) [] =
          ap (λ (o : Option (List ℕ)). unwrap_or o page) (sym is ∙ page_of-inside s q from to) in
          mine ∙ (ap (λ (ps : List (List ℕ)). get_or ps (q - start) []) grant.held
          ∙ (get_or-take n (drop spot v.held) (q - start) [] (omega (arith, from, to))
          ∙ (get_or-drop spot v.held (q - start) []
          ∙ (held place in_run ∙ (shows place (free place in_run) ∙ ap at (sym here))))))
    ]

-- the free pages of a space are fewer by the run
pub free-after : (tells : Bool) (v w : SpaceView) (start : ℕ) (pages : List (List ℕ)) (q : ℕ) → IsAnyGrant v w start pages tells →
    (is_page_of (record { first = start; pages = pages }) q ≡ true → is_free_of w q ≡ false)
    × (is_page_of (record { first = start; pages = pages }) q ≡ false → is_free_of w q ≡ is_free_of v q)
free-after tells v w start pages q grant =
    let s : HeldSpan = record { first = start; pages = pages } in
    let n : ℕ = length pages in
    let spot : ℕ = start - v.first in
    let fits : spot + n ≤ length v.free = run-within v.free spot n grant.some grant.free in
    let now : is_free_of w q ≡ (nat_le v.first q && has_page (with_run v.free spot n false) (q - v.first)) =
    ap (λ (x : SpaceView). is_free_of x q) grant.after in
    let away : v.first ≤ q → has_page (with_run v.free spot n false) (q - v.first) ≡ has_page v.free (q - v.first) →
    is_free_of w q ≡ is_free_of v q = λ above same. now ∙ ap (λ (b : Bool). nat_le v.first q && b) same in
    let outside : (q < start → is_free_of w q ≡ is_free_of v q) = λ before. elim (cases_lt q v.first) [
      | inl low ↦
          let no : nat_le v.first q ≡ false = lt-leb v.first q low in
          now ∙ (ap (λ (b : Bool). b && has_page (with_run v.free spot n false) (q - v.first)) no
          ∙ sym (ap (λ (b : Bool). b && has_page v.free (q - v.first)) no))
      | inr above ↦ away above (with_run-below v.free spot n false (q - v.first) fits (omega (arith, above, before)))
    ] in
    elim (where_is s q) [
      | Before before ↦ (
        λ is. absurd (false≢true (sym (ap is_some (page_of-before s q before)) ∙ is)),
        λ no. outside before,
      )
      | Behind from behind ↦ (
        λ is. absurd (false≢true (sym (ap is_some (page_of-behind s q behind)) ∙ is)),
        λ no. away (omega (arith, from, grant.from)) (with_run-above v.free spot n false (q - v.first) fits (omega (
          arith,
          behind,
          grant.from,
        ))),
      )
      | Inside from to ↦ (
        λ is. now ∙ (ap (λ (b : Bool). nat_le v.first q && b)
            (with_run-inside v.free spot n false (q - v.first) fits (omega (arith, from, grant.from)) (omega (arith, to, grant.from)))
            ∙ and_right (nat_le v.first q) false refl),
        λ no. absurd (false≢true (sym no ∙ ap is_some (page_of-inside s q from to))),
      )
    ]

-- one run more
pub space-more : (tells : Bool) (all v w : SpaceView) (start : ℕ) (pages : List (List ℕ)) (old now new : Device) → IsSpace w →
    IsGivingSpace tells all v old now → IsAnyGrant v w start pages tells →
    (IsTrue tells → (at : Pages) → ShowsSpan at (record { first = start; pages = pages }) →
    HaveReturned at (is_page_of (record { first = start; pages = pages })) now new) → IsGivingSpace tells all w old new
space-more tells all v w start pages old now new sound given grant step =
    let s : HeldSpan = record { first = start; pages = pages } in
    let n : ℕ = length pages in
    let spot : ℕ = start - v.first in
    let fits : spot + n ≤ length v.free = run-within v.free spot n grant.some grant.free in
    let held_fits : spot + n ≤ length v.held = omega (arith, fits, given.sound.holds) in
    let bits : (place : ℕ) → has_page w.free place ≡ has_page (with_run v.free spot n false) place =
    λ place. ap (λ (x : SpaceView). has_page x.free place) grant.after in
    let outside : (place : ℕ) → has_page w.free place ≡ true →
    (has_page v.free place ≡ true) × (get_or w.held place [] ≡ get_or v.held place []) = λ place is.
    let kept : get_or w.held place [] ≡ get_or (with_pages v.held spot (replicate n [])) place [] =
    ap (λ (x : SpaceView). get_or x.held place []) grant.after in
    let two = held-outside v.held spot n place held_fits in
    elim (cases_lt place spot) [
      | inl below ↦ (
        sym (with_run-below v.free spot n false place fits below) ∙ (sym (bits place) ∙ is),
        kept ∙ two.0 below,
      )
      | inr from ↦ elim (cases_lt place (spot + n)) [
        | inl to ↦ absurd (false≢true (sym (bits place ∙ with_run-inside v.free spot n false place fits from to) ∙ is))
        | inr above ↦ (
          sym (with_run-above v.free spot n false place fits above) ∙ (sym (bits place) ∙ is),
          kept ∙ two.1 above,
        )
      ]
    ] in
    let all_free : (q : ℕ) → is_page_of s q ≡ true → is_free_of all q ≡ true = λ q is.
    elim (where_is s q) [
      | Before before ↦ absurd (false≢true (sym (ap is_some (page_of-before s q before)) ∙ is))
      | Behind from behind ↦ absurd (false≢true (sym (ap is_some (page_of-behind s q behind)) ∙ is))
      | Inside from to ↦
          let free = given.free (q - v.first) (grant.free.each (q - v.first) (omega (arith, from, grant.from)) (omega (
            arith,
            to,
            grant.from,
          ))) in
          let place : q - all.first ≡ q - v.first = omega (arith, given.first) in
          ap (λ (b : Bool). b && has_page all.free (q - all.first)) (le-leb all.first q (omega (arith, from, grant.from, given.first)))
          ∙ (ap (has_page all.free) place ∙ free)
    ] in
    let own : Pages = λ q. get_or all.held (q - all.first) [] in
    let own_shows : ShowsSpace own all = λ place is.
    let spot_of : all.first + place - all.first ≡ place = omega arith in ap (λ (k : ℕ). get_or all.held k []) (sym spot_of) in
    let shown : (at : Pages) → ShowsSpace at all → ShowsSpan at s = λ at shows.
    grant-shows at tells all v w start pages given.first given.free given.held grant shows in
    record {
      sound = sound;
      first = ap (λ (x : SpaceView). x.first) grant.after ∙ given.first;
      page = ap (λ (x : SpaceView). x.page) grant.after ∙ given.page;
      long = ap (λ (x : SpaceView). length x.free) grant.after ∙ (length-with_run v.free spot n false fits ∙ given.long);
      free = λ place is. given.free place (outside place is).0;
      held = λ place is. (outside place is).1 ∙ given.held place (outside place is).0;
      out = λ tell. (step tell own (shown own own_shows)).first;
      count = λ tell. (step tell own (shown own own_shows)).count ∙ given.count tell;
      mounted = λ tell. (step tell own (shown own own_shows)).mounted ∙ given.mounted tell;
      back = λ tell at shows.
          returned-alike at (λ q. is_page_of s q || (is_free_of all q && not (is_free_of v q)))
          (λ q. is_free_of all q && not (is_free_of w q)) old new
          (λ q. gone-more (is_free_of all q) (is_free_of v q) (is_free_of w q) (is_page_of s q)
          (λ is. ((free-after tells v w start pages q grant).0 is, all_free q is))
          (free-after tells v w start pages q grant).1)
          (returned-both at (λ q. is_free_of all q && not (is_free_of v q)) (is_page_of s) old now new
          (given.back tell at shows) (step tell at (shown at shows)));
    }

-- no page is free any more
pub space-done : (tells : Bool) (all v : SpaceView) (old now : Device) → IsGivingSpace tells all v old now →
    ((page : ℕ) → has_page v.free page ≡ false) → IsTrue tells → (at : Pages) → ShowsSpace at all →
    HaveReturned at (is_free_of all) old now
space-done tells all v old now given none tell at shows =
    let nothing : (q : ℕ) → is_free_of v q ≡ false = λ q.
    ap (λ (b : Bool). nat_le v.first q && b) (none (q - v.first)) ∙ and_right (nat_le v.first q) false refl in
    returned-alike at (λ q. is_free_of all q && not (is_free_of v q)) (is_free_of all) old now
    (λ q. sym (ap (λ (b : Bool). is_free_of all q && not b) (nothing q) ∙ and-true (is_free_of all q))) (given.back tell at shows)

-- there are fewer free pages after a run
pub fewer-free : (tells : Bool) (v w : SpaceView) (start : ℕ) (pages : List (List ℕ)) → IsAnyGrant v w start pages tells →
    count_of w.free < count_of v.free
fewer-free tells v w start pages grant =
    let n : ℕ = length pages in
    let spot : ℕ = start - v.first in
    let fits : spot + n ≤ length v.free = run-within v.free spot n grant.some grant.free in
    let counted = count-with_run v.free spot n false fits in
    let now : count_of w.free ≡ count_of (with_run v.free spot n false) = ap (λ (x : SpaceView). count_of x.free) grant.after in
    let inside : spot < length v.free = omega (arith, fits, grant.some) in
    let first : get_or v.free spot false ≡ true = grant.free.each spot (omega arith) (omega (arith, grant.some)) in
    let taken : take n (drop spot v.free) ≡ true ∷ take (n - 1) (drop (spot + 1) v.free) =
    ap (take n) (drop_more v.free spot false inside ∙ ap (λ (b : Bool). b ∷ drop (spot + 1) v.free) first)
    ∙ take-first n (drop (spot + 1) v.free) grant.some in
    let some : count_of (take n (drop spot v.free)) ≡ 1 + count_of (take (n - 1) (drop (spot + 1) v.free)) =
    ap count_of taken ∙ count-append (true ∷ []) (take (n - 1) (drop (spot + 1) v.free)) in
    omega (arith, counted, now, some, count-replicate_false n)

-- what a space itself tells
pub own-space : SpaceView → Pages
own-space v q = get_or v.held (q - v.first) []

pub own-space-shows : (v : SpaceView) → ShowsSpace (own-space v) v
unfolding own-space
own-space-shows v place is =
    let spot : v.first + place - v.first ≡ place = omega arith in ap (λ (k : ℕ). get_or v.held k []) (sym spot)
