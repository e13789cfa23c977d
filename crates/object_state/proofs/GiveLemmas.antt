-- Pages that are given back span by span and run by run, and runs that are unlocked.
use Rattle.std.proofs.Common.{◌≡◌, ℕ, ◌-◌, Bool, false, IsTrue, List, Option, None, refl, sym, subst}
use Rattle.geometry_model.specs.Numbers.{Numbers}
use Rattle.geometry_model.specs.Pages.{IsPlace, is_data_page}
use Rattle.page_set.specs.Members.{IsFirstRun, IsWithoutRun}
use Rattle.page_cache.specs.Kept.{KeptNodes, is_on_run}
use Rattle.space_directory.specs.SpaceView.{after_unlock}
use Rattle.span_store.specs.Held.{Held, AllSized}
use Rattle.superdirectory.specs.Grants.{IsRunIn, UsesSpace}
use Rattle.superdirectory.specs.Rest.{Rest}
use Rattle.superdirectory.specs.Trace.{SpaceEvent}
use Rattle.object_body.specs.Places.{IsStore}
use Rattle.object_state.specs.Keeps.{AreOnData, IsMarked}
use Rattle.give_back.specs.Giving.{LeavesNodes, LetsGo, gives, none_marked, or_page}
use Rattle.object_state.specs.Ends.{unlocks}
use Rattle.give_back.proofs.RunLemmas.{data-run, run-in_frame}
use Rattle.object_state.proofs.LeftLemmas.{left-on_data}
use Rattle.give_back.proofs.LeftLemmas.{leaves-as, leaves-not, leaves-then}
use Rattle.give_back.proofs.LetGoLemmas.{let_go-not, let_go-as, let_go-then, gives-apart, gives-both}
use Rattle.object_state.proofs.LetGoLemmas.{unlocked-one}
use Rattle.give_back.proofs.LetGoLemmas.{gives-same, never-locked, or_ways}
use Rattle.object_state.proofs.LetGoLemmas.{unlocks-both, unlocks-same}
use Rattle.object_state.proofs.MarkLemmas.{gone_from, gone-none, gone-all, gone-more, kept-marks, marked-next}

-- ---- marked runs

-- the marked pages that are no more in the set were given back
pub record IsGivingMarks (tells : Bool) (n : Numbers) (was now : ℕ → Bool) (had held : Held) (kept cache : KeptNodes)
    (old rest : Rest) (before trace : Option (List SpaceEvent)) : Type 0 where
  pub sub : (page : ℕ) → IsTrue (now page) → IsTrue (was page)
  pub on_data : AreOnData n held
  pub marked : IsMarked held now
  pub sized : AllSized tells n.page held
  pub left : LeavesNodes tells n.page (gone_from was now) had held kept cache
  pub given : LetsGo n (gives (gone_from was now)) old rest before trace

pub marks-init : (tells : Bool) (n : Numbers) (was : ℕ → Bool) (had : Held) (kept : KeptNodes) (old : Rest)
    (before : Option (List SpaceEvent)) → old.entered ≡ None → AreOnData n had → IsMarked had was → AllSized tells n.page had →
    IsGivingMarks tells n was was had had kept kept old old before before
marks-init tells n was had kept old before none on_data marked sized = record {
  sub = λ page there. there;
  on_data = on_data;
  marked = marked;
  sized = sized;
  left = leaves-not tells n.page (gone_from was was) had kept (gone-none was);
  given = let_go-as n (gives none_marked) (gives (gone_from was was)) old old before before
      (gives-same none_marked (gone_from was was) (gone-none was))
      (let_go-not n old before none);
}

pub marks-more : (tells : Bool) (n : Numbers) (was now next : ℕ → Bool) (first pages : ℕ) (had held held2 : Held)
    (kept cache cache2 : KeptNodes) (old rest last : Rest) (before trace after : Option (List SpaceEvent)) →
    IsGivingMarks tells n was now had held kept cache old rest before trace → IsFirstRun now first pages →
    IsWithoutRun first pages now next → LeavesNodes tells n.page (is_on_run first pages) held held2 cache cache2 →
    LetsGo n (gives (is_on_run first pages)) rest last trace after →
    IsGivingMarks tells n was next had held2 kept cache2 old last before after
marks-more tells n was now next first pages had held held2 kept cache cache2 old rest last before trace after giving run without leaves
    went =
    let test = gone-more was now next first pages giving.sub run without in
    record {
      sub = kept-marks was now next first pages giving.sub without;
      on_data = left-on_data n (is_on_run first pages) held held2 leaves.spans.left giving.on_data;
      marked = marked-next held held2 now next first pages giving.marked run without leaves.spans.left;
      sized = leaves.spans.sized giving.sized;
      left = leaves-as tells n.page (or_page (gone_from was now) (is_on_run first pages)) (gone_from was next) had held2 kept cache2 test
          (leaves-then tells n.page (gone_from was now) (is_on_run first pages) had held held2 kept cache cache2 giving.left leaves);
      given = let_go-as n (or_ways (gives (gone_from was now)) (gives (is_on_run first pages))) (gives (gone_from was next))
          old last before after (gives-both (gone_from was now) (is_on_run first pages) (gone_from was next) test)
          (let_go-then n (gives (gone_from was now)) (gives (is_on_run first pages)) old rest last before trace after
          (gives-apart (gone_from was now) (is_on_run first pages)) giving.given went);
    }

pub marks-all : (tells : Bool) (n : Numbers) (was now : ℕ → Bool) (had held : Held) (kept cache : KeptNodes) (old rest : Rest)
    (before trace : Option (List SpaceEvent)) → IsGivingMarks tells n was now had held kept cache old rest before trace →
    ((page : ℕ) → now page ≡ false) →
    LeavesNodes tells n.page was had held kept cache × LetsGo n (gives was) old rest before trace
marks-all tells n was now had held kept cache old rest before trace giving none = (
  leaves-as tells n.page (gone_from was now) was had held kept cache (gone-all was now none) giving.left,
  let_go-as n (gives (gone_from was now)) (gives was) old rest before trace (gives-same (gone_from was now) was (gone-all was now none))
      giving.given,
)

-- the marked pages that are no more in the set were unlocked
pub record IsUnlocking (n : Numbers) (was now : ℕ → Bool) (old rest : Rest) (before trace : Option (List SpaceEvent)) : Type 0 where
  pub sub : (page : ℕ) → IsTrue (now page) → IsTrue (was page)
  pub given : LetsGo n (unlocks (gone_from was now)) old rest before trace

pub unlocking-init : (n : Numbers) (was : ℕ → Bool) (old : Rest) (before : Option (List SpaceEvent)) → old.entered ≡ None →
    IsUnlocking n was was old old before before
unlocking-init n was old before none = record {
  sub = λ page there. there;
  given = let_go-as n (unlocks none_marked) (unlocks (gone_from was was)) old old before before
      (unlocks-same none_marked (gone_from was was) (gone-none was))
      (let_go-not n old before none);
}

-- a first run of marked data pages lies in the space of its first page
pub unlocking-run : (n : Numbers) (was now : ℕ → Bool) (first pages space place : ℕ) (old rest : Rest)
    (before trace : Option (List SpaceEvent)) → IsStore n old.frame →
    ((page : ℕ) → IsTrue (was page) → IsTrue (is_data_page n page)) → IsUnlocking n was now old rest before trace →
    IsFirstRun now first pages → IsPlace n first space place → IsRunIn rest.frame space first pages
unlocking-run n was now first pages space place old rest before trace store on_data unlocking run here =
    run-in_frame n rest.frame space first pages (subst (IsStore n) (sym unlocking.given.rest.frame) store) run.some
    (data-run n first pages space place here run.some (λ q from to. on_data q (unlocking.sub q (run.all q from to))))

pub unlocking-more : (n : Numbers) (was now next : ℕ → Bool) (first pages space place : ℕ) (old rest last : Rest)
    (before trace after : Option (List SpaceEvent)) → IsStore n old.frame →
    ((page : ℕ) → IsTrue (was page) → IsTrue (is_data_page n page)) → IsUnlocking n was now old rest before trace →
    IsFirstRun now first pages → IsWithoutRun first pages now next → IsPlace n first space place →
    UsesSpace space (λ v. after_unlock v (first - v.first) pages) rest last trace after →
    IsUnlocking n was next old last before after
unlocking-more n was now next first pages space place old rest last before trace after store on_data unlocking run without here used =
    let lies = unlocking-run n was now first pages space place old rest before trace store on_data unlocking run here in
    record {
      sub = kept-marks was now next first pages unlocking.sub without;
      given = let_go-as n (or_ways (unlocks (gone_from was now)) (unlocks (is_on_run first pages))) (unlocks (gone_from was next))
          old last before after (unlocks-both (gone_from was now) (is_on_run first pages) (gone_from was next)
          (gone-more was now next first pages unlocking.sub run without))
          (let_go-then n (unlocks (gone_from was now)) (unlocks (is_on_run first pages)) old rest last before trace after
          (never-locked (unlocks (gone_from was now)) (unlocks (is_on_run first pages)) (λ q. refl) (λ q. refl)) unlocking.given
          (unlocked-one n space first pages rest last trace after
          (subst (IsStore n) (sym unlocking.given.rest.frame) store) lies used));
    }

pub unlocking-all : (n : Numbers) (was now : ℕ → Bool) (old rest : Rest) (before trace : Option (List SpaceEvent)) →
    IsUnlocking n was now old rest before trace → ((page : ℕ) → now page ≡ false) → LetsGo n (unlocks was) old rest before trace
unlocking-all n was now old rest before trace unlocking none =
    let_go-as n (unlocks (gone_from was now)) (unlocks was) old rest before trace
    (unlocks-same (gone_from was now) was (gone-all was now none))
    unlocking.given
