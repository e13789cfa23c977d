-- Spans that are cut at the borders of runs.
use Rattle.std.proofs.Common.{◌≡◌, ℕ, ◌+◌, ◌*◌, ◌<◌, ◌≤◌, Bool, true, false, ◌||◌, IsTrue, List, [], ◌∷◌, length, drop, refl, sym}
use Rattle.std.proofs.Common.{ap, subst, arith, ◌∙◌, get_or}
use Rattle.std.specs.Prelude.{◌==◌, if◌then◌else◌, is_some}
use Rattle.std.specs.List.{AllByRecursion}
use Rattle.std.proofs.lemmas.Bool.{eq-eqb}
use Rattle.std.proofs.lemmas.List.{drop_all, drop_more}
use Rattle.layout_model.specs.declared.extent.Extent.{Extent}
use Rattle.span_store.specs.Held.{Held, HeldSpan, begins, begins_in, has, page_in}
use Rattle.span_store.specs.Calls.{IsCutAt, KeepsPages}
use Rattle.object_state.specs.Cuts.{HasBorders, HasRoomFor, IsCutMore}

pub cut-none : (held : Held) (n : ℕ) → IsCutMore n held held
cut-none held n = record {
  pages = λ q. refl;
  begun = λ q there. there;
  count = omega arith;
  room = omega arith;
}

-- room was made, and nothing else
pub cut-reserved : (old new : Held) → new.spans ≡ old.spans → old.room ≤ new.room → IsCutMore 0 old new
cut-reserved old new same room = record {
  pages = λ q. ap (λ (spans : List HeldSpan). page_in spans q) same;
  begun = λ q there. ap (λ (spans : List HeldSpan). begins_in spans q) same ∙ there;
  count = omega (arith, ap (λ (spans : List HeldSpan). length spans) same);
  room = room;
}

pub cut-then : (n k total : ℕ) (old middle new : Held) → n + k ≤ total → IsCutMore n old middle → IsCutMore k middle new →
    IsCutMore total old new
cut-then n k total old middle new fits one two = record {
  pages = λ q. two.pages q ∙ one.pages q;
  begun = λ q there. two.begun q (one.begun q there);
  count = omega (arith, fits, one.count, two.count);
  room = omega (arith, one.room, two.room);
}

pub cut-one : (page : ℕ) (old new : Held) → IsCutAt page old new → old.room ≤ new.room → IsCutMore 1 old new
cut-one page old new cut room = record {
  pages = cut.pages;
  begun = λ q there. cut.begun q ∙ or-right (page == q) (begins old q) there;
  count = either (begins old page) cut.count;
  room = room;
} where
  or-right : (a b : Bool) → b ≡ true → (a || b) ≡ true
  or-right true b there = refl
  or-right false b there = there

  either : (b : Bool) → length new.spans ≡ (if b then length old.spans else length old.spans + 1) → length new.spans ≤ length old.spans + 1
  either true is = omega (arith, is)
  either false is = omega (arith, is)

-- a span begins at the cut
pub cut-begins : (page : ℕ) (old new : Held) → IsCutAt page old new → IsTrue (begins new page)
cut-begins page old new cut = cut.begun page ∙ ap (λ b. b || begins old page) (eq-eqb page page refl)

-- borders that were there are still there
pub borders-stay : (n : ℕ) (old new : Held) (run : Extent) → IsCutMore n old new → HasBorders old run → HasBorders new run
borders-stay n old new run cut borders = record {
  from = λ there. cut.begun run.page (borders.from (sym (ap is_some (cut.pages run.page)) ∙ there));
  to = λ there. cut.begun (run.page + run.pages) (borders.to (sym (ap is_some (cut.pages (run.page + run.pages))) ∙ there));
}

pub all-stay : (n : ℕ) (old new : Held) (runs : List Extent) → IsCutMore n old new → AllByRecursion (HasBorders old) runs →
    AllByRecursion (HasBorders new) runs
all-stay n old new [] cut all = tt
all-stay n old new (run ∷ runs) cut all = (borders-stay n old new run cut all.0, all-stay n old new runs cut all.1)

-- the loop over runs: in each later state the borders of those that are left are those of all
pub record IsCutting (start held : Held) (runs rest : List Extent) : Type 0 where
  pub pages : KeepsPages start held
  pub begun : (q : ℕ) → IsTrue (begins start q) → IsTrue (begins held q)
  pub count : length held.spans + 2 * length rest ≤ length start.spans + 2 * length runs
  pub room : start.room ≤ held.room
  pub later : (k : ℕ) (h : Held) → IsCutMore k held h → AllByRecursion (HasBorders h) rest → AllByRecursion (HasBorders h) runs

pub cutting-init : (held : Held) (runs : List Extent) → IsCutting held held runs runs
cutting-init held runs = record {
  pages = λ q. refl;
  begun = λ q there. there;
  count = omega arith;
  room = omega arith;
  later = λ k h cut all. all;
}

-- the run that comes next, and those behind it
pub next-run : (start held : Held) (runs : List Extent) (j : ℕ) (d : Extent) → j < length runs → IsCutting start held runs (drop j runs) →
    IsCutting start held runs (get_or runs j d ∷ drop (j + 1) runs)
next-run start held runs j d less cutting = subst (IsCutting start held runs) (drop_more runs j d less) cutting

-- there is room for two spans more
pub cutting-room : (start held : Held) (runs rest : List Extent) (run : Extent) → HasRoomFor (2 * length runs) start →
    IsCutting start held runs (run ∷ rest) → HasRoomFor 2 held
cutting-room start held runs rest run room cutting =
    let long : length (run ∷ rest) ≡ length rest + 1 = omega arith in
    omega (arith, room, cutting.count, cutting.room, long)

pub cutting-more : (start held middle next : Held) (runs rest : List Extent) (run : Extent) → IsCutting start held runs (run ∷ rest) →
    IsCutMore 1 held middle → (IsTrue (has middle run.page) → IsTrue (begins middle run.page)) → IsCutMore 1 middle next →
    (IsTrue (has next (run.page + run.pages)) → IsTrue (begins next (run.page + run.pages))) → IsCutting start next runs rest
cutting-more start held middle next runs rest run cutting one from two to = record {
  pages = λ q. two.pages q ∙ (one.pages q ∙ cutting.pages q);
  begun = λ q there. two.begun q (one.begun q (cutting.begun q there));
  count =
      let long : length (run ∷ rest) ≡ length rest + 1 = omega arith in
      omega (arith, cutting.count, one.count, two.count, long);
  room = omega (arith, cutting.room, one.room, two.room);
  later = λ k h cut all.
      let both = cut-then 1 1 2 held middle next (omega arith) one two in
      let borders : HasBorders next run = record {
        from = λ there. two.begun run.page (from (sym (ap is_some (two.pages run.page)) ∙ there));
        to = to;
      } in
      cutting.later (2 + k) h (cut-then 2 k (2 + k) held next h (omega arith) both cut) (borders-stay k next h run cut borders, all);
}

pub cutting-borders : (start held : Held) (runs : List Extent) (j : ℕ) → length runs ≤ j → IsCutting start held runs (drop j runs) →
    AllByRecursion (HasBorders held) runs
cutting-borders start held runs j done cutting =
    cutting.later 0 held (cut-none held 0) (subst (AllByRecursion (HasBorders held)) (sym (drop_all j runs done)) tt)

pub cutting-cut : (start held : Held) (runs rest : List Extent) → IsCutting start held runs rest → IsCutMore (2 * length runs) start held
cutting-cut start held runs rest cutting = record {
  pages = cutting.pages;
  begun = cutting.begun;
  count = omega (arith, cutting.count);
  room = cutting.room;
}
