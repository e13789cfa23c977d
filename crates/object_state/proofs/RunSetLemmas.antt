-- Runs of pages in sets, one run after the other.
use Rattle.std.proofs.Common.{◌≡◌, ℕ, ◌+◌, ◌<◌, ◌≤◌, Bool, true, false, not, ◌&&◌, ◌||◌, IsTrue, List, [], ◌∷◌, length, drop, get_or}
use Rattle.std.proofs.Common.{refl, sym, ap, subst, ◌∙◌, nat_eq, nat_lt, inl, inr}
use Rattle.std.specs.Prelude.{if◌then◌else◌, is_some}
use Rattle.std.specs.List.{AllByRecursion}
use Rattle.std.proofs.lemmas.Bool.{and_parts, cases_lt, false≢true}
use Rattle.std.proofs.lemmas.List.{drop_all, drop_more}
use Rattle.std.proofs.lemmas.List.Sums.{sum_by-cons}
use Rattle.std.proofs.Math.Bool.{and-true, or-false, or_assoc}
use Rattle.base_laws.proofs.NumberLaws.{some-of}
use Rattle.layout_model.specs.declared.extent.Extent.{Extent}
use Rattle.moment_model.specs.Version.{covers, uses}
use Rattle.page_set.specs.Members.{AreSame, IsWithRun, IsWithoutRun, Keeps}
use Rattle.page_set.specs.Words.{PageSetView, in_set, room_in}
use Rattle.page_cache.specs.Kept.{is_on_run}
use Rattle.span_store.specs.Held.{Held, has}
use Rattle.space_directory.proofs.PageLaws.{in_run-below, in_run-above}
use Rattle.object_state.specs.Cuts.{HasBorders, IsCutMore}
use Rattle.object_state.specs.Keeps.{IsMarked}
use Rattle.object_state.specs.Runs.{HasRoomOn, HoldsExtent, IsNumbered, goes}
use Rattle.object_state.proofs.BorderLemmas.{IsBordered, bordered-or, bordered-run, marked-minus}
use Rattle.object_state.proofs.DropLemmas.{with-test, without-test}
use Rattle.object_state.proofs.EndTables.{not-none}

-- ---- a run more

covers-test : (q : ℕ) (run : Extent) → nat_lt 0 (covers q run) ≡ is_on_run run.page run.pages q
covers-test q run = go (is_on_run run.page run.pages q)
  where
    go : (b : Bool) → nat_lt 0 (if b then 1 else 0) ≡ b
    go true = refl
    go false = refl

pub uses-more : (q : ℕ) (run : Extent) (runs : List Extent) →
    nat_lt 0 (uses q (run ∷ runs)) ≡ (is_on_run run.page run.pages q || nat_lt 0 (uses q runs))
uses-more q run runs = ap (nat_lt 0) (sum_by-cons (covers q) run runs)
    ∙ (some-of (covers q run) (uses q runs) ∙ ap (λ b. b || nat_lt 0 (uses q runs)) (covers-test q run))

-- what holds on each page of each run, holds on each page of the runs
pub uses-each : (P : ℕ → Type 0) (q : ℕ) (runs : List Extent) →
    AllByRecursion (λ (run : Extent). (p : ℕ) → run.page ≤ p → p < run.page + run.pages → P p) runs → nat_lt 0 (uses q runs) ≡ true → P q
uses-each P q [] all some = absurd (false≢true some)
uses-each P q (run ∷ runs) all some = go (is_on_run run.page run.pages q) refl (uses-each P q runs all.1)
  where
    on : is_on_run run.page run.pages q ≡ true → P q
    on is = elim (cases_lt q run.page) [
      | inl below ↦ absurd (false≢true (sym (in_run-below run.page run.pages q below) ∙ is))
      | inr from ↦ elim (cases_lt q (run.page + run.pages)) [
        | inl to ↦ all.0 q from to
        | inr past ↦ absurd (false≢true (sym (in_run-above run.page run.pages q past) ∙ is))
      ]
    ]

    go : (b : Bool) → is_on_run run.page run.pages q ≡ b → (nat_lt 0 (uses q runs) ≡ true → P q) → P q
    go true is behind = on is
    go false is behind = behind (sym (ap (λ b. b || nat_lt 0 (uses q runs)) is) ∙ (sym (uses-more q run runs) ∙ some))

-- the run that comes next
pub next-of : (P : List Extent → Type 0) (runs : List Extent) (j : ℕ) (d : Extent) → j < length runs → P (drop j runs) →
    P (get_or runs j d ∷ drop (j + 1) runs)
next-of P runs j d less here = subst P (drop_more runs j d less) here

pub none-left : (P : List Extent → Type 0) (runs : List Extent) (j : ℕ) → length runs ≤ j → P (drop j runs) → P []
none-left P runs j done here = subst P (drop_all j runs done) here

-- ---- runs are added

-- what is still to come makes the set what it is to be
pub record IsAdding (start now : PageSetView) (runs rest : List Extent) : Type 0 where
  pub numbered : AllByRecursion IsNumbered rest
  pub added : (q : ℕ) → (in_set now q || nat_lt 0 (uses q rest)) ≡ (in_set start q || nat_lt 0 (uses q runs))
  pub room : AllByRecursion (HasRoomOn start) runs → AllByRecursion (HasRoomOn now) rest

pub adding-init : (set : PageSetView) (runs : List Extent) → AllByRecursion IsNumbered runs → IsAdding set set runs runs
adding-init set runs numbered = record { numbered = numbered; added = λ q. refl; room = λ all. all }

pub rooms-stay : (old new : PageSetView) (runs : List Extent) → Keeps (room_in old) (room_in new) → AllByRecursion (HasRoomOn old) runs →
    AllByRecursion (HasRoomOn new) runs
rooms-stay old new [] keeps all = tt
rooms-stay old new (run ∷ runs) keeps all = (λ q from to. keeps q (all.0 q from to), rooms-stay old new runs keeps all.1)

pub adding-more : (start now next : PageSetView) (runs rest : List Extent) (run : Extent) → IsAdding start now runs (run ∷ rest) →
    IsWithRun run.page run.pages (in_set now) (in_set next) → Keeps (room_in now) (room_in next) → IsAdding start next runs rest
adding-more start now next runs rest run adding with_run keeps = record {
  numbered = adding.numbered.1;
  added = λ q. ap (λ b. b || nat_lt 0 (uses q rest)) (with-test (in_set now) (in_set next) run.page run.pages q with_run)
      ∙ (or_assoc (in_set now q) (is_on_run run.page run.pages q) (nat_lt 0 (uses q rest))
      ∙ (ap (λ b. in_set now q || b) (sym (uses-more q run rest)) ∙ adding.added q));
  room = λ all. rooms-stay now next rest keeps (adding.room all).1;
}

pub adding-all : (start now : PageSetView) (runs rest : List Extent) → rest ≡ [] → IsAdding start now runs rest → (q : ℕ) →
    in_set now q ≡ (in_set start q || nat_lt 0 (uses q runs))
adding-all start now runs rest none adding q =
    sym (ap (λ (left : List Extent). in_set now q || nat_lt 0 (uses q left)) none ∙ or-false (in_set now q)) ∙ adding.added q

-- ---- runs are removed

pub record IsRemoving (start now : PageSetView) (runs rest : List Extent) : Type 0 where
  pub numbered : AllByRecursion IsNumbered rest
  pub left : (q : ℕ) → (in_set now q && not (nat_lt 0 (uses q rest))) ≡ (in_set start q && not (nat_lt 0 (uses q runs)))

pub removing-init : (set : PageSetView) (runs : List Extent) → AllByRecursion IsNumbered runs → IsRemoving set set runs runs
removing-init set runs numbered = record { numbered = numbered; left = λ q. refl }

neither : (b on more : Bool) → ((b && not on) && not more) ≡ (b && not (on || more))
neither false on more = refl
neither true true more = refl
neither true false more = refl

pub removing-more : (start now next : PageSetView) (runs rest : List Extent) (run : Extent) → IsRemoving start now runs (run ∷ rest) →
    IsWithoutRun run.page run.pages (in_set now) (in_set next) → IsRemoving start next runs rest
removing-more start now next runs rest run removing without = record {
  numbered = removing.numbered.1;
  left = λ q. ap (λ b. b && not (nat_lt 0 (uses q rest))) (without-test (in_set now) (in_set next) run.page run.pages q without)
      ∙ (neither (in_set now q) (is_on_run run.page run.pages q) (nat_lt 0 (uses q rest))
      ∙ (ap (λ b. in_set now q && not b) (sym (uses-more q run rest)) ∙ removing.left q));
}

pub removing-all : (start now : PageSetView) (runs rest : List Extent) → rest ≡ [] → IsRemoving start now runs rest → (q : ℕ) →
    in_set now q ≡ (in_set start q && not (nat_lt 0 (uses q runs)))
removing-all start now runs rest none removing q =
    sym (ap (λ (left : List Extent). in_set now q && not (nat_lt 0 (uses q left))) none ∙ and-true (in_set now q)) ∙ removing.left q

-- so what is left of the dropped runs goes
pub gone-is_left : (empty added removed : PageSetView) (dropped kept : List Extent) → ((q : ℕ) → in_set empty q ≡ false) →
    ((q : ℕ) → in_set added q ≡ (in_set empty q || nat_lt 0 (uses q dropped))) →
    ((q : ℕ) → in_set removed q ≡ (in_set added q && not (nat_lt 0 (uses q kept)))) → (q : ℕ) → in_set removed q ≡ goes dropped kept q
gone-is_left empty added removed dropped kept none adds removes q =
    removes q
    ∙ (ap (λ b. b && not (nat_lt 0 (uses q kept))) (adds q ∙ ap (λ b. b || nat_lt 0 (uses q dropped)) (none q))
    ∙ ap (λ b. nat_lt 0 (uses q dropped) && b) (sym (not-none (uses q kept))))

-- ---- room is made

pub record IsReserving (start now : PageSetView) (runs rest : List Extent) : Type 0 where
  pub numbered : AllByRecursion IsNumbered rest
  pub same : AreSame (in_set start) (in_set now)
  pub size : now.size ≡ start.size
  pub keeps : Keeps (room_in start) (room_in now)
  pub later : (set : PageSetView) → Keeps (room_in now) (room_in set) → AllByRecursion (HasRoomOn set) rest →
      AllByRecursion (HasRoomOn set) runs

pub reserving-init : (set : PageSetView) (runs : List Extent) → AllByRecursion IsNumbered runs → IsReserving set set runs runs
reserving-init set runs numbered = record {
  numbered = numbered;
  same = λ q. refl;
  size = refl;
  keeps = λ q there. there;
  later = λ set keeps all. all;
}

pub reserving-more : (start now next : PageSetView) (runs rest : List Extent) (run : Extent) → IsReserving start now runs (run ∷ rest) →
    HasRoomOn next run → AreSame (in_set now) (in_set next) → next.size ≡ now.size → Keeps (room_in now) (room_in next) →
    IsReserving start next runs rest
reserving-more start now next runs rest run reserving room same size keeps = record {
  numbered = reserving.numbered.1;
  same = λ q. same q ∙ reserving.same q;
  size = size ∙ reserving.size;
  keeps = λ q there. keeps q (reserving.keeps q there);
  later = λ set after all. reserving.later set (λ q there. after q (keeps q there)) (λ q from to. after q (room q from to), all);
}

pub reserving-all : (start now : PageSetView) (runs rest : List Extent) → rest ≡ [] → IsReserving start now runs rest →
    AllByRecursion (HasRoomOn now) runs
reserving-all start now runs rest none reserving =
    reserving.later now (λ q there. there) (subst (AllByRecursion (HasRoomOn now)) (sym none) tt)

-- ---- the pages that go

-- the borders of runs are borders of what they have
pub uses-bordered : (held : Held) (runs : List Extent) → AllByRecursion (HasBorders held) runs →
    IsBordered held (λ q. nat_lt 0 (uses q runs))
uses-bordered held [] all = λ q there differ. absurd (differ refl)
uses-bordered held (run ∷ runs) all =
    bordered-or held (is_on_run run.page run.pages) (λ q. nat_lt 0 (uses q runs)) (λ q. nat_lt 0 (uses q (run ∷ runs)))
    (bordered-run held run.page run.pages all.0.from all.0.to) (uses-bordered held runs all.1) (λ q. uses-more q run runs)

pub goes-marked : (held : Held) (dropped kept : List Extent) (gone : ℕ → Bool) → ((q : ℕ) → gone q ≡ goes dropped kept q) →
    AllByRecursion (HoldsExtent held) dropped → AllByRecursion (HasBorders held) dropped → AllByRecursion (HasBorders held) kept →
    IsMarked held gone
goes-marked held dropped kept gone is holds one two =
    marked-minus held (λ q. nat_lt 0 (uses q dropped)) (λ q. nat_lt 0 (uses q kept)) gone (record {
      within = λ q there. uses-each (λ p. IsTrue (has held p)) q dropped holds there;
      borders = uses-bordered held dropped one;
    }) (uses-bordered held kept two) (λ q. is q ∙ ap (λ b. nat_lt 0 (uses q dropped) && b) (not-none (uses q kept)))

pub goes-room : (set : PageSetView) (dropped kept : List Extent) (gone : ℕ → Bool) → ((q : ℕ) → gone q ≡ goes dropped kept q) →
    AllByRecursion (HasRoomOn set) dropped → Keeps gone (room_in set)
goes-room set dropped kept gone is room = λ q there.
    uses-each (λ p. IsTrue (room_in set p)) q dropped room
    (and_parts (nat_lt 0 (uses q dropped)) (nat_eq (uses q kept) 0) (sym (is q) ∙ there)).0

-- the runs are held after cuts
pub holds-stay : (n : ℕ) (old new : Held) (runs : List Extent) → IsCutMore n old new → AllByRecursion (HoldsExtent old) runs →
    AllByRecursion (HoldsExtent new) runs
holds-stay n old new [] cut all = tt
holds-stay n old new (run ∷ runs) cut all = (λ q from to. ap is_some (cut.pages q) ∙ all.0 q from to, holds-stay n old new runs cut all.1)
