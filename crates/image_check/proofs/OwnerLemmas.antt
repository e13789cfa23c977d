-- A page that is met.
use Rattle.std.proofs.Common.{◌≡◌, ℕ, ◌+◌, ◌<◌, Bool, true, false, ◌||◌, not, None, List, ◌∷◌, length, refl}
use Rattle.std.proofs.Common.{sym, ap, subst, ◌∙◌, ◌⊎◌, inl, inr, ◌≢◌, arith, get_or, nat_eq}
use Rattle.std.specs.Prelude.{if◌then◌else◌}
use Rattle.std.proofs.lemmas.Bool.Decides.{eqb_tells}
use Rattle.std.proofs.lemmas.List.{get_or-set_same, get_or-set_other, length-set}
use Rattle.std.proofs.lemmas.List.Sums.{sum_by-set}
use Rattle.geometry_model.specs.Numbers.{Numbers, pages}
use Rattle.geometry_model.specs.Pages.{is_data_page}
use Rattle.span_store.specs.Held.{Held}
use Rattle.image_model.specs.Checks.{Walk, check, then_check, is_free_page, is_met, meet}
use Rattle.image_model.specs.Checks.Checked.{Failed}
use Rattle.image_model.specs.Checks.Refusal.{PageTwice, PageFree}
use Rattle.image_check.specs.declared.owner.Owner.{Owner}
use Rattle.image_check.specs.declared.owner.Owner.TheVariants.{Free, Nobody, Object}
use Rattle.image_check.specs.Owners.{KeptWalk, Claims, IsMarked, after_meeting, after_meeting_of, answer_of, is_unused}
use Rattle.image_check.specs.Owners.{is_owned, owned, owner_at, with_owner}
use Rattle.image_check.specs.Verdicts.{IsWalk, Judged, Shows}
use Rattle.image_check.proofs.CodeLemmas.{met-by}
use Rattle.image_check.proofs.JudgedLemmas.{Claims-none}

-- ---- a page that is given an owner

-- its owner, and that of every other page
pub owner-same : (kept : KeptWalk) (page o : ℕ) → page < length kept.owners → owner_at (with_owner kept page o) page ≡ Object o
owner-same kept page o inside = get_or-set_same kept.owners page (Object o) Nobody inside

pub owner-other : (kept : KeptWalk) (page o q : ℕ) → q ≢ page → owner_at (with_owner kept page o) q ≡ owner_at kept q
owner-other kept page o q other = get_or-set_other kept.owners page q (Object o) Nobody other

pub page-cases : (q page : ℕ) → ((q ≡ page) × (nat_eq q page ≡ true)) ⊎ ((q ≢ page) × (nat_eq q page ≡ false))
page-cases q page = elim (eqb_tells q page) [ inl same ↦ inl (same.1, same.0) | inr other ↦ inr (other.1, other.0) ]

Claims-owner : (kept : KeptWalk) (page o : ℕ) → page < length kept.owners → owner_at kept page ≡ Nobody →
    Claims o kept (with_owner kept page o)
Claims-owner kept page o inside nobody q =
    elim (page-cases q page) [
      | inl same ↦ inr (ap (owner_at kept) same.0 ∙ nobody, ap (owner_at (with_owner kept page o)) same.0 ∙ owner-same kept page o inside)
      | inr other ↦ inl (owner-other kept page o q other.0)
    ]

-- it is one owned page more
owned-owner : (kept : KeptWalk) (page o : ℕ) → page < length kept.owners → owner_at kept page ≡ Nobody →
    owned (with_owner kept page o) ≡ owned kept + 1
owned-owner kept page o inside nobody =
    let count : Owner → ℕ = λ owner. if is_owned owner then 1 else 0 in
    let sums : owned (with_owner kept page o) + count (get_or kept.owners page Nobody) ≡ owned kept + 1 =
    sum_by-set count kept.owners page (Object o) Nobody inside in
    let none : count (get_or kept.owners page Nobody) ≡ 0 = ap count nobody in
    omega (arith, sums, none)

-- no mark comes or goes
pub length-met : (page o : ℕ) (kept : KeptWalk) → length (after_meeting page o kept).owners ≡ length kept.owners
length-met page o kept = by-owner (owner_at kept page)
  where
    by-owner : (owner : Owner) → length (after_meeting_of page o kept owner).owners ≡ length kept.owners
    by-owner Free = refl
    by-owner Nobody = length-set kept.owners page (Object o)
    by-owner (Object other) = refl

-- a page that came to be met was nobody's
pub unanswered : (page : ℕ) (owner : Owner) → None ≡ answer_of page owner → owner ≡ Nobody
unanswered page Free none = absurd cc
unanswered page Nobody none = refl
unanswered page (Object o) none = absurd cc

pub owned-met : (kept new : KeptWalk) (page o : ℕ) → page < length kept.owners → None ≡ answer_of page (owner_at kept page) →
    new ≡ after_meeting page o kept → owned new ≡ owned kept + 1
owned-met kept new page o inside answered now =
    let nobody = unanswered page (owner_at kept page) answered in
    ap owned (now ∙ met-by page o kept Nobody nobody) ∙ owned-owner kept page o inside nobody

IsMarked-owner : (n : Numbers) (held : Held) (kept : KeptWalk) (page o : ℕ) → page < length kept.owners →
    owner_at kept page ≡ Nobody → IsMarked n held kept → IsMarked n held (with_owner kept page o)
IsMarked-owner n held kept page o inside nobody marked = record {
  count = length-set kept.owners page (Object o) ∙ marked.count;
  used = λ q data_page. elim (page-cases q page) [
    | inl same ↦
        let before : is_unused (owner_at kept q) ≡ false = ap is_unused (ap (owner_at kept) same.0 ∙ nobody) in
        let after : is_unused (owner_at (with_owner kept page o) q) ≡ false =
        ap is_unused (ap (owner_at (with_owner kept page o)) same.0 ∙ owner-same kept page o inside) in
        marked.used q data_page ∙ ap not (before ∙ sym after)
    | inr other ↦ marked.used q data_page ∙ ap (λ (x : Owner). not (is_unused x)) (sym (owner-other kept page o q other.0))
  ];
}

-- the definition's walk meets it too
abbrev met-too : Walk → ℕ → Walk
met-too walk page = record { met = page ∷ walk.met; before = walk.before }

IsWalk-owner : (kept : KeptWalk) (walk : Walk) (page o : ℕ) → page < length kept.owners → IsWalk kept walk →
    IsWalk (with_owner kept page o) (met-too walk page)
IsWalk-owner kept walk page o inside is = record {
  met = λ q. elim (page-cases q page) [
    | inl same ↦
        let after : is_owned (owner_at (with_owner kept page o) q) ≡ true =
        ap is_owned (ap (owner_at (with_owner kept page o)) same.0 ∙ owner-same kept page o inside) in
        ap (λ (b : Bool). b || is_met walk q) same.1 ∙ sym after
    | inr other ↦
        ap (λ (b : Bool). b || is_met walk q) other.1 ∙ is.met q
        ∙ ap is_owned (sym (owner-other kept page o q other.0))
  ];
  before = is.before;
}

-- ---- the answer

-- a data page is free in its directory just where it is marked as free
pub free-same : (n : Numbers) (held : Held) (kept : KeptWalk) (bytes : List ℕ) (q : ℕ) → is_data_page n q ≡ true →
    IsMarked n held kept → Shows n bytes held → is_free_page n bytes q ≡ is_unused (owner_at kept q)
free-same n held kept bytes q data_page marked shows =
    not-same (is_free_page n bytes q) (is_unused (owner_at kept q)) (sym (shows.used q data_page) ∙ marked.used q data_page)
  where
    not-same : (a b : Bool) → not a ≡ not b → a ≡ b
    not-same true true same = refl
    not-same true false same = absurd cc
    not-same false true same = absurd cc
    not-same false false same = refl

-- the checks of a page by its two tests
meet-twice : (n : Numbers) (bytes : List ℕ) (page : ℕ) (walk : Walk) → is_met walk page ≡ true →
    meet n bytes page walk ≡ Failed (PageTwice page)
meet-twice n bytes page walk met = ap (λ (b : Bool). then_check (check (not b) (PageTwice page) walk) (λ same.
    check (not (is_free_page n bytes page)) (PageFree page) (met-too walk page))) met

meet-once : (n : Numbers) (bytes : List ℕ) (page : ℕ) (walk : Walk) (free : Bool) → is_met walk page ≡ false →
    is_free_page n bytes page ≡ free → meet n bytes page walk ≡ check (not free) (PageFree page) (met-too walk page)
meet-once n bytes page walk free met is =
    ap (λ (b : Bool). then_check (check (not b) (PageTwice page) walk) (λ same.
    check (not (is_free_page n bytes page)) (PageFree page) (met-too walk page))) met
    ∙ ap (λ (b : Bool). check (not b) (PageFree page) (met-too walk page)) is

-- a data page is met as the definition meets it
pub Judged-meet : (T : Type 0) (n : Numbers) (held : Held) (o page : ℕ) (kept : KeptWalk) → is_data_page n page ≡ true →
    page < pages n → IsMarked n held kept →
    Judged T n held o kept (after_meeting page o kept) (answer_of page (owner_at kept page)) (λ bytes. meet n bytes page)
Judged-meet T n held o page kept data_page below marked =
    by-owner (owner_at kept page) refl
  where
    by-owner : (owner : Owner) → owner_at kept page ≡ owner →
        Judged T n held o kept (after_meeting_of page o kept owner) (answer_of page owner) (λ bytes. meet n bytes page)
    by-owner Free is = record {
      marked = marked;
      claims = Claims-none o kept;
      more = omega arith;
      judges = λ t bytes walk shows is_walk.
          meet-once n bytes page walk true (is_walk.met page ∙ ap is_owned is)
          (free-same n held kept bytes page data_page marked shows ∙ ap is_unused is);
    }
    by-owner Nobody is =
        let inside : page < length kept.owners = subst (λ (k : ℕ). page < k) (sym marked.count) below in
        let one = owned-owner kept page o inside is in
        record {
          marked = IsMarked-owner n held kept page o inside is marked;
          claims = Claims-owner kept page o inside is;
          more = omega (arith, one);
          judges = λ t bytes walk shows is_walk. (
            met-too walk page,
            meet-once n bytes page walk false (is_walk.met page ∙ ap is_owned is)
                (free-same n held kept bytes page data_page marked shows ∙ ap is_unused is),
            IsWalk-owner kept walk page o inside is_walk,
          );
        }
    by-owner (Object other) is = record {
      marked = marked;
      claims = Claims-none o kept;
      more = omega arith;
      judges = λ t bytes walk shows is_walk.
          meet-twice n bytes page walk (is_walk.met page ∙ ap is_owned is);
    }
