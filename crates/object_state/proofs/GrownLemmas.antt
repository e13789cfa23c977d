-- Pages that were granted, each run of them in spans of its own, beside those that an object held.
use Rattle.std.proofs.Common.{◌≡◌, ℕ, suc, ◌+◌, ◌≤◌, Bool, true, false, not, ◌&&◌, ◌||◌, IsTrue, List, [], ◌∷◌, Option, Some, None, IfSome}
use Rattle.std.proofs.Common.{refl, sym, ap, ◌∙◌, nat_lt, is_some}
use Rattle.std.specs.List.{AllByRecursion}
use Rattle.std.proofs.lemmas.Bool.{false≢true}
use Rattle.std.proofs.Math.Bool.{and-false, or-true, or_comm}
use Rattle.geometry_model.specs.Pages.{is_data_page}
use Rattle.layout_model.specs.declared.extent.Extent.{Extent}
use Rattle.moment_model.specs.Version.{uses}
use Rattle.tree_pages.specs.Entry.{Entry}
use Rattle.page_set.specs.Members.{AreSame, Keeps}
use Rattle.page_set.specs.Words.{in_set, room_in}
use Rattle.span_store.specs.Held.{Held, AllSized, begins, bytes_on, has}
use Rattle.tree_read.specs.Search.{KeepsNodes}
use Rattle.object_body.specs.Places.{IsReady}
use Rattle.object_body.specs.Stored.{IsThreshold}
use Rattle.object_state.specs.Tree.{TreeView}
use Rattle.object_state.specs.Keeps.{IsMarked, KeepsTreeBody, in_spare}
use Rattle.give_back.specs.Giving.{IsWholeRun}
use Rattle.object_state.specs.Drops.{Stock}
use Rattle.object_state.specs.Beside.{IsToldBeside, StandsBeside}
use Rattle.object_state.specs.Cuts.{HasBorders, IsCutMore}
use Rattle.object_state.specs.Runs.{goes}
use Rattle.object_state.proofs.BorderLemmas.{IsBordered, bordered-run, marked-plus}
use Rattle.object_state.proofs.EndTables.{not-none}
use Rattle.object_state.proofs.RunSetLemmas.{uses-bordered}

-- is the page one of those that were granted?
abbrev pub is_granted : List Extent → ℕ → Bool
is_granted granted q = nat_lt 0 (uses q granted)

-- the pages of the run are held, in spans of their own
abbrev pub IsOwn : Held → Extent → Type 0
IsOwn held run = IsWholeRun held run.page run.pages

-- What is held is what was, and the granted pages, each run of them in spans of its own; and a span begins where one began.
pub record IsGrown (granted : List Extent) (old new : Held) : Type 0 where
  pub holds : (q : ℕ) → has new q ≡ (is_granted granted q || has old q)
  pub lacked : (q : ℕ) → IsTrue (is_granted granted q) → has old q ≡ false
  pub begun : (q : ℕ) → IsTrue (begins old q) → IsTrue (begins new q)
  pub own : AllByRecursion (IsOwn new) granted

own-stay : (n : ℕ) (old new : Held) (runs : List Extent) → IsCutMore n old new → AllByRecursion (IsOwn old) runs →
    AllByRecursion (IsOwn new) runs
own-stay n old new [] cut all = tt
own-stay n old new (run ∷ runs) cut all = (
  record {
    some = all.0.some;
    holds = λ q from to. ap is_some (cut.pages q) ∙ all.0.holds q from to;
    from = cut.begun run.page all.0.from;
    to = λ there. cut.begun (run.page + run.pages) (all.0.to (sym (ap is_some (cut.pages (run.page + run.pages))) ∙ there));
  },
  own-stay n old new runs cut all.1,
)

-- so it is where spans were cut besides
pub grown-cut : (n : ℕ) (granted : List Extent) (old middle new : Held) → IsGrown granted old middle → IsCutMore n middle new →
    IsGrown granted old new
grown-cut n granted old middle new grown cut = record {
  holds = λ q. ap is_some (cut.pages q) ∙ grown.holds q;
  lacked = grown.lacked;
  begun = λ q there. cut.begun q (grown.begun q there);
  own = own-stay n middle new granted cut grown.own;
}

own-borders : (held : Held) (runs : List Extent) → AllByRecursion (IsOwn held) runs → AllByRecursion (HasBorders held) runs
own-borders held [] all = tt
own-borders held (run ∷ runs) all = (record { from = λ there. all.0.from; to = all.0.to }, own-borders held runs all.1)

-- marks of what was held stay marks
pub marked-grown : (granted : List Extent) (old new : Held) (marked : ℕ → Bool) → IsGrown granted old new → IsMarked old marked →
    IsMarked new marked
marked-grown granted old new marked grown is = record {
  within = λ q there. grown.holds q ∙ either (is_granted granted q) (has old q) (is.within q there);
  borders = λ q there differ. go q (is_granted granted (suc q)) refl there differ;
} where
  either : (a b : Bool) → b ≡ true → (a || b) ≡ true
  either true b there = refl
  either false b there = there

  -- a granted page isn't marked
  out : (q : ℕ) → is_granted granted q ≡ true → (b : Bool) → marked q ≡ b → b ≡ false
  out q new_one true here = absurd (false≢true (sym (grown.lacked q new_one) ∙ is.within q here))
  out q new_one false here = refl

  behind : (q : ℕ) → is_granted granted (suc q) ≡ true → IsTrue (has new (suc q)) → (marked (suc q) ≡ marked q → ⊥) →
      (b : Bool) → is_granted granted q ≡ b → IsTrue (begins new (suc q))
  behind q new_one there differ true also =
      absurd (differ (out (suc q) new_one (marked (suc q)) refl ∙ sym (out q also (marked q) refl)))
  behind q new_one there differ false before =
      uses-bordered new granted (own-borders new granted grown.own) q there
      (λ alike. false≢true (sym before ∙ (sym alike ∙ new_one)))

  go : (q : ℕ) (b : Bool) → is_granted granted (suc q) ≡ b → IsTrue (has new (suc q)) → (marked (suc q) ≡ marked q → ⊥) →
      IsTrue (begins new (suc q))
  go q true new_one there differ = behind q new_one there differ (is_granted granted q) refl
  go q false before there differ =
      let had : IsTrue (has old (suc q)) = sym (grown.holds (suc q) ∙ ap (λ b. b || has old (suc q)) before) ∙ there in
      grown.begun (suc q) (is.borders q had differ)

-- What an object owns once everything is there that may fail: the granted pages are held and fresh besides; the pages of the dropped
-- runs that none of the kept ones has stand in spans of their own, for which there is room among the locked ones; and the new spare
-- is one of the kept runs, on granted pages or on old spare ones.
pub record StandsReady (tells : Bool) (v : TreeView) (granted dropped kept : List Extent) (s : Stock) (working : Entry)
    (spare : Option Extent) (gone : ℕ → Bool) : Type 0 where
  pub ready : IsReady v.numbers s.rest
  pub grown : IsGrown granted v.held s.held
  pub home : (q : ℕ) → IsTrue (is_granted granted q) → IsTrue (is_data_page v.numbers q)
  pub sized : AllSized tells v.numbers.page s.held
  pub nodes : KeepsNodes tells v.numbers.page (bytes_on s.held) s.cache
  pub fresh_is : (q : ℕ) → in_set s.fresh q ≡ (in_set v.fresh q || is_granted granted q)
  pub locked_is : AreSame (in_set v.locked) (in_set s.locked)
  pub gone_is : (q : ℕ) → gone q ≡ goes dropped kept q
  pub gone_marked : IsMarked s.held gone
  pub gone_room : Keeps gone (room_in s.locked)
  pub spare_borders : IfSome spare (HasBorders s.held)
  pub spare_some : IfSome spare (λ run. 1 ≤ run.pages)
  pub spare_there : working ≡ None → spare ≡ None
  pub spare_kept : (q : ℕ) → IsTrue (in_spare spare q) → IsTrue (nat_lt 0 (uses q kept))
  pub spare_from : (q : ℕ) → IsTrue (in_spare spare q) → IsTrue (in_spare v.spare q || is_granted granted q)
  pub threshold : IfSome working (λ present. IsThreshold v.numbers present.threshold)
  pub told : IsTrue tells → IsToldBeside v.numbers v (is_granted granted) s working spare gone

-- marks of the same pages
marked-same : (held : Held) (one two : ℕ → Bool) → ((q : ℕ) → two q ≡ one q) → IsMarked held one → IsMarked held two
marked-same held one two same is = record {
  within = λ q there. is.within q (sym (same q) ∙ there);
  borders = λ q there differ. is.borders q there (λ alike. differ (same (suc q) ∙ (alike ∙ sym (same q))));
}

-- the fresh pages are in spans of their own
fresh-marked : (tells : Bool) (v : TreeView) (granted dropped kept : List Extent) (s : Stock) (working : Entry) (spare : Option Extent)
    (gone : ℕ → Bool) → KeepsTreeBody tells v → StandsReady tells v granted dropped kept s working spare gone →
    IsMarked s.held (in_set s.fresh)
fresh-marked tells v granted dropped kept s working spare gone keeps ready =
    marked-plus s.held (in_set v.fresh) (is_granted granted) (in_set s.fresh)
    (marked-grown granted v.held s.held (in_set v.fresh) ready.grown keeps.fresh)
    (uses-bordered s.held granted (own-borders s.held granted ready.grown.own))
    (λ q there. ready.grown.holds q ∙ ap (λ b. b || has v.held q) there) ready.fresh_is

pub stands-beside : (tells : Bool) (v : TreeView) (granted dropped kept : List Extent) (s : Stock) (working : Entry) (spare : Option Extent)
    (gone : ℕ → Bool) → KeepsTreeBody tells v → StandsReady tells v granted dropped kept s working spare gone →
    StandsBeside tells v (is_granted granted) s working spare gone
stands-beside tells v granted dropped kept s working spare gone keeps ready =
    let marked = fresh-marked tells v granted dropped kept s working spare gone keeps ready in
    let fresh : (q : ℕ) → IsTrue (in_spare spare q) → IsTrue (in_set s.fresh q) =
    λ q there. ready.fresh_is q ∙ from q (in_spare v.spare q) refl (ready.spare_from q there) in
    record {
      can_drop = record {
        ready = ready.ready;
        on_data = λ q there. held_data q (is_granted granted q) refl (sym (ready.grown.holds q) ∙ there);
        sized = ready.sized;
        marked = marked;
      };
      nodes = ready.nodes;
      holds = ready.grown.holds;
      lacked = ready.grown.lacked;
      fresh_is = λ q. ready.fresh_is q ∙ or_comm (in_set v.fresh q) (is_granted granted q);
      locked_is = ready.locked_is;
      locked_marked = marked-same s.held (in_set v.locked) (in_set s.locked) ready.locked_is
          (marked-grown granted v.held s.held (in_set v.locked) ready.grown keeps.locked);
      gone_marked = ready.gone_marked;
      gone_room = ready.gone_room;
      spare_marked = record {
        within = λ q there. marked.within q (fresh q there);
        borders = spare_bordered spare ready.spare_borders;
      };
      spare_some = ready.spare_some;
      spare_there = ready.spare_there;
      spare_fresh = λ q there. (fresh q there, stays q (ready.spare_kept q there));
      threshold = ready.threshold;
      told = ready.told;
    }
  where
    from : (q : ℕ) (b : Bool) → in_spare v.spare q ≡ b → (b || is_granted granted q) ≡ true →
        (in_set v.fresh q || is_granted granted q) ≡ true
    from q true old there = ap (λ b. b || is_granted granted q) (keeps.spare_fresh q old)
    from q false old there = ap (λ b. in_set v.fresh q || b) there ∙ or-true (in_set v.fresh q)

    held_data : (q : ℕ) (b : Bool) → is_granted granted q ≡ b → (b || has v.held q) ≡ true → IsTrue (is_data_page v.numbers q)
    held_data q true new_one there = ready.home q new_one
    held_data q false old there = keeps.on_data q there

    spare_bordered : (run : Option Extent) → IfSome run (HasBorders s.held) → IsBordered s.held (in_spare run)
    spare_bordered None borders = λ q there differ. absurd (differ refl)
    spare_bordered (Some run) borders = bordered-run s.held run.page run.pages borders.from borders.to

    stays : (q : ℕ) → nat_lt 0 (uses q kept) ≡ true → gone q ≡ false
    stays q there = ready.gone_is q ∙ (ap (λ b. nat_lt 0 (uses q dropped) && b) (not-none (uses q kept) ∙ ap not there)
        ∙ and-false (nat_lt 0 (uses q dropped)))
