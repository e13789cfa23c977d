-- An edit that was made: a new working version beside the old one, whose pages were dropped; and a destroyed object, which is one.
use Rattle.std.proofs.Common.{◌≡◌, ℕ, ◌+◌, ◌<◌, Bool, not, ◌&&◌, IsTrue, List, Option, Some, None, Ok, Err}
use Rattle.std.proofs.Common.{refl, sym, ap, subst, arith, ◌∙◌, nat_eq, nat_lt, suc}
use Rattle.std.proofs.lemmas.Bool.{false≢true}
use Rattle.std.proofs.lemmas.Bool.Decides.{nat_tests}
use Rattle.eos_ops.specs.declared.edit.Edit.{Edit}
use Rattle.eos_ops.specs.declared.edit.Edit.TheVariants.{Destroy}
use Rattle.eos_ops.specs.declared.outcome.Outcome.TheVariants.{Done, Missing}
use Rattle.eos_ops.specs.Edits.{edited}
use Rattle.fault_count.specs.Counts.{Meter}
use Rattle.geometry_model.specs.Numbers.{Numbers}
use Rattle.layout_model.specs.declared.extent.Extent.{Extent}
use Rattle.layout_model.specs.Grants.{Spaces}
use Rattle.layout_model.specs.Layout.{Tree}
use Rattle.moment_model.specs.Edit.{after_effect, edited_length, edited_slot, effect_on, with_working}
use Rattle.moment_model.specs.Moment.{ObjectSlot, committed_uses, working_uses}
use Rattle.moment_model.specs.Version.{Version}
use Rattle.tree_pages.specs.Entry.{Entry, Present}
use Rattle.tree_pages.specs.Levels.{levels_at, plain_at, version_at}
use Rattle.page_set.specs.Members.{AreSame, Keeps}
use Rattle.page_set.specs.Words.{PageSetView, in_set, room_in}
use Rattle.span_store.specs.Held.{bytes_on, has}
use Rattle.space_directory.specs.SpaceView.{SpaceView}
use Rattle.superdirectory.specs.Grants.{AreTold, free_sets}
use Rattle.superdirectory.specs.Rest.{Frame, Rest, count}
use Rattle.superdirectory.specs.Trace.{SpaceEvent, AreEnters}
use Rattle.superdirectory.proofs.Traces.{part_none, part_then}
use Rattle.object_body.specs.declared.fails.EditFail.TheVariants.{Memory}
use Rattle.object_body.specs.Calls.{IsEdit, IsExplained, WritesWithin, slot_in}
use Rattle.object_body.specs.Form.{HaveLengths}
use Rattle.object_body.specs.Lengths.{outcome_of}
use Rattle.object_body.specs.Moves.{MovesTold}
use Rattle.object_body.specs.Places.{AreHome, IsReady, IsStore}
use Rattle.object_body.specs.Stored.{entry_length}
use Rattle.object_body.proofs.CallLemmas.{keeps-frame, no-memory, used-not}
use Rattle.object_state.specs.Tree.{TreeView, tree_slot}
use Rattle.object_state.specs.Keeps.{KeepsTreeBody, IsMarked, in_spare}
use Rattle.object_state.specs.Kind.{TreeMayRefuse, TreeMayWrite}
use Rattle.give_back.specs.Giving.{AreLetGo, none_marked}
use Rattle.object_state.specs.Ends.{drops}
use Rattle.object_state.specs.Edits.{MakesOnSpaces, tree_stage}
use Rattle.object_state.specs.Drops.{Drops, Stock}
use Rattle.object_state.specs.Beside.{StandsBeside, slot_beside}
use Rattle.object_state.specs.Made.{IsMade}
use Rattle.object_state.proofs.BesideLemmas.{changed_view, changed-committed, changed-keeps, changed-moves, changed-slot, changed-working}
use Rattle.object_state.proofs.CreateLemmas.{never-fault, writes-none}
use Rattle.object_state.proofs.EndLemmas.{no-marks}
use Rattle.object_state.proofs.GatherLemmas.{all-marked}
use Rattle.object_state.proofs.BorderLemmas.{marked-minus}
use Rattle.object_state.proofs.StayLemmas.{unmade-stays}
use Rattle.object_state.proofs.TiedLemmas.{tree-tied}

made-moves : (tells : Bool) (v : TreeView) (made : ℕ → Bool) (s t : Stock) (working : Entry) (spare : Option Extent) (gone : ℕ → Bool)
    (start : ℕ) (edit : Edit) (rest : Rest) (trace : Option (List SpaceEvent)) (used now : Meter) (views : List SpaceView) →
    IsStore v.numbers rest.frame → KeepsTreeBody tells v → StandsBeside tells v made s working spare gone →
    Drops tells v.numbers gone s t → IsMade tells v made s working spare start edit rest trace used now → IsTrue tells →
    AreTold rest views → AreHome rest.frame views →
    MovesTold v.numbers rest.frame views (tree_slot v) (tree_slot (changed_view v t working spare)) t.rest
made-moves tells v made s t working spare gone start edit rest trace used now views store kept beside dropped is tell told home =
    let taken = is.taken views told home in
    let here = subst (λ (f : Frame). AreHome f taken.between) (sym is.frame.frame) taken.home in
    let went = subst (λ (f : Frame). AreLetGo v.numbers f (drops gone (in_set s.fresh)) taken.between t.rest) is.frame.frame
    (dropped.went.spaces taken.between taken.told here) in
    changed-moves tells v made s t working spare gone rest.frame views kept beside dropped tell store home taken went

pub made-edit : (tells : Bool) (v : TreeView) (made : ℕ → Bool) (s t : Stock) (working : Entry) (spare : Option Extent) (gone : ℕ → Bool)
    (start : ℕ) (edit : Edit) (rest : Rest) (trace : Option (List SpaceEvent)) (used now : Meter) → 0 < v.numbers.page →
    IsStore v.numbers rest.frame → KeepsTreeBody tells v → StandsBeside tells v made s working spare gone →
    Drops tells v.numbers gone s t → IsMade tells v made s working spare start edit rest trace used now →
    IsEdit tells HaveLengths edited_slot TreeMayRefuse TreeMayWrite start edit (Ok Done) (tree_stage v rest trace)
    (tree_stage (changed_view v t working spare) t.rest t.trace) used now
made-edit tells v made s t working spare gone start edit rest trace used now some store kept beside dropped is = record {
  outcome = sym is.done;
  form = record { numbers = refl; committed = refl; working = is.long };
  unmade = λ never. absurd (never refl);
  rest = record { frame = dropped.went.rest.frame ∙ is.frame.frame; entered = dropped.went.rest.entered };
  low = part_then (λ part. Unit {0}) AreEnters (IsExplained (count rest) (Ok Done)) trace s.trace t.trace (λ p q one two. tt) is.part
      dropped.went.enters;
  port = is.port;
  cause = record { kept = omega (arith, is.well); raised = λ bad. absurd (never-fault Done bad); still = λ none. is.well };
  memory = λ wanted. absurd cc;
  told = λ tell.
      let slot = changed-slot tells v made s t working spare gone kept beside dropped tell in
      record {
        working = changed-working tells v made s t working spare gone beside dropped tell ∙ is.bytes tell;
        committed = changed-committed tells v made s t working spare gone kept beside dropped tell;
        kept = ap (λ (x : ObjectSlot). x.committed) slot;
        unmade = λ never. absurd (never refl);
        granted = λ views told long. is.granted tell views told long ∙ ap Some (sym slot);
        spaces = λ views told home.
            made-moves tells v made s t working spare gone start edit rest trace used now views store kept beside dropped is tell told home;
        small = tt;
        writes = subst (λ (x : ObjectSlot). WritesWithin (TreeMayWrite v.numbers (tree_slot v) edit x) used now) (sym slot)
            (is.writes tell);
      };
  tied = tree-tied tells (changed_view v t working spare) some
      (changed-keeps tells v made s t working spare gone kept beside dropped);
}

-- ---- a destroyed object

-- what the object owns, once there is room for the locked pages
abbrev pub stock_of : TreeView → PageSetView → Rest → Option (List SpaceEvent) → Stock
stock_of v locked rest trace = record { held = v.held; cache = v.cache; fresh = v.fresh; locked = locked; rest = rest; trace = trace }

-- the pages that aren't locked are gathered
pub record IsGathered (v : TreeView) (gone : ℕ → Bool) (locked : PageSetView) : Type 0 where
  pub gone_is : (q : ℕ) → gone q ≡ (has v.held q && not (in_set v.locked q))
  pub room : Keeps gone (room_in locked)
  pub same : AreSame (in_set v.locked) (in_set locked)

destroyed-test : (c u : ℕ) → (nat_lt 0 (c + u) && not (nat_lt 0 c && nat_eq u 0)) ≡ (nat_lt 0 u && nat_eq 0 0)
destroyed-test c u = grind (arith, nat_tests)

-- the pages that aren't locked are in spans of their own
pub destroy-marked : (tells : Bool) (v : TreeView) (gone : ℕ → Bool) → ((q : ℕ) → gone q ≡ (has v.held q && not (in_set v.locked q))) →
    KeepsTreeBody tells v → IsMarked v.held gone
destroy-marked tells v gone test kept =
    marked-minus v.held (has v.held) (in_set v.locked) gone (all-marked v.held) kept.locked.borders test

pub destroyed-beside : (tells : Bool) (v : TreeView) (gone : ℕ → Bool) (locked : PageSetView) (rest : Rest)
    (trace : Option (List SpaceEvent)) → IsReady v.numbers rest → KeepsTreeBody tells v → IsGathered v gone locked →
    StandsBeside tells v none_marked (stock_of v locked rest trace) None None gone
destroyed-beside tells v gone locked rest trace ready kept gathered = record {
  can_drop = record { ready = ready; on_data = kept.on_data; sized = kept.sized; marked = kept.fresh };
  nodes = kept.nodes;
  holds = λ q. refl;
  lacked = λ q there. absurd (false≢true there);
  fresh_is = λ q. refl;
  locked_is = gathered.same;
  locked_marked = record {
    within = λ q there. kept.locked.within q (sym (gathered.same q) ∙ there);
    borders = λ q there differ. kept.locked.borders q there
        (λ alike. differ (gathered.same (suc q) ∙ (alike ∙ sym (gathered.same q))));
  };
  gone_marked = destroy-marked tells v gone gathered.gone_is kept;
  gone_room = gathered.room;
  spare_marked = no-marks v.held (in_spare None) (λ q. refl);
  spare_some = tt;
  spare_there = λ absent. refl;
  spare_fresh = λ q there. absurd (false≢true there);
  threshold = tt;
  told = λ tell.
      let told = kept.told tell in
      record {
        stays = λ q used. refl;
        stands = tt;
        sound = record {
          committed = told.sound.committed;
          working = tt;
          committed_once = told.sound.committed_once;
          working_once = λ q. omega arith;
          spare_apart = λ q some. absurd (omega (arith, some));
        };
        tail = tt;
        used = λ q there. absurd (false≢true there);
        within = λ q some. absurd (omega (arith, some));
        gone_is = λ q. gathered.gone_is q
            ∙ (ap (λ b. b && not (in_set v.locked q)) (told.just q)
            ∙ (ap (λ b. nat_lt 0 (committed_uses v.numbers q (tree_slot v) + working_uses v.numbers q (tree_slot v)) && not b)
            (told.locked q)
            ∙ destroyed-test (committed_uses v.numbers q (tree_slot v)) (working_uses v.numbers q (tree_slot v))));
      };
}

destroyed-granted : (n : Numbers) (start : ℕ) (free : Spaces) (slot : ObjectSlot) (tree : Tree) → slot.working ≡ Some tree →
    slot_in (edited_slot n start free slot Destroy) ≡ Some (with_working slot None None)
unfolding edited_slot
destroyed-granted n start free slot tree there =
    ap (λ (w : Version). slot_in (after_effect n start free slot (effect_on n Destroy w))) there

pub destroyed-made : (tells : Bool) (v : TreeView) (present : Present) (locked : PageSetView) (start : ℕ) (rest : Rest)
    (trace : Option (List SpaceEvent)) (meter : Meter) → rest.entered ≡ None → v.working ≡ Some present →
    IsMade tells v none_marked (stock_of v locked rest trace) None None start Destroy rest trace meter meter
destroyed-made tells v present locked start rest trace meter none there = record {
  done = ap (λ (e : Entry). outcome_of Destroy (entry_length e)) there;
  long = sym (ap (λ (e : Entry). edited_length Destroy (entry_length e)) there);
  frame = keeps-frame rest none;
  part = part_none (λ part. Unit {0}) trace tt;
  port = used-not meter;
  well = refl;
  bytes = λ tell. sym (ap (λ (e : Entry). edited Destroy (plain_at (bytes_on v.held) v.numbers.page e)) there);
  granted = λ tell views told long. destroyed-granted v.numbers start (free_sets views) (tree_slot v)
      (record { levels = levels_at (bytes_on v.held) present.root; threshold = present.threshold })
      (ap (version_at (bytes_on v.held)) there);
  taken = λ views told home. record {
    between = views;
    told = told;
    home = home;
    were = λ page s at place is. absurd (false≢true is);
    free = λ page s at place. refl;
    locked = λ page s at place. refl;
  };
  writes = λ tell. record {
    pages = 0;
    allowed = writes-none v.numbers (tree_slot v)
        (slot_beside v (stock_of v locked rest trace) None None) Destroy;
    most = omega arith;
  };
}

pub destroyed : (tells : Bool) (v : TreeView) (present : Present) (gone : ℕ → Bool) (locked : PageSetView) (t : Stock) (rest : Rest)
    (trace : Option (List SpaceEvent)) → 0 < v.numbers.page → IsReady v.numbers rest → KeepsTreeBody tells v → v.working ≡ Some present →
    IsGathered v gone locked → Drops tells v.numbers gone (stock_of v locked rest trace) t →
    MakesOnSpaces tells Destroy (Ok Done) (tree_stage v rest trace) (tree_stage (changed_view v t None None) t.rest t.trace)
destroyed tells v present gone locked t rest trace some ready kept there gathered dropped = λ start meter.
    made-edit tells v none_marked (stock_of v locked rest trace) t None None gone start Destroy rest trace meter meter some ready.store kept
    (destroyed-beside tells v gone locked rest trace ready kept gathered) dropped
    (destroyed-made tells v present locked start rest trace meter ready.none there)

pub destroyed-keeps : (tells : Bool) (v : TreeView) (gone : ℕ → Bool) (locked : PageSetView) (t : Stock) (rest : Rest)
    (trace : Option (List SpaceEvent)) → IsReady v.numbers rest → KeepsTreeBody tells v → IsGathered v gone locked →
    Drops tells v.numbers gone (stock_of v locked rest trace) t → KeepsTreeBody tells (changed_view v t None None)
destroyed-keeps tells v gone locked t rest trace ready kept gathered dropped =
    changed-keeps tells v none_marked (stock_of v locked rest trace) t None None gone kept
    (destroyed-beside tells v gone locked rest trace ready kept gathered) dropped

-- ---- an absent one

pub destroy-absent : (tells : Bool) (v : TreeView) (rest : Rest) (trace : Option (List SpaceEvent)) → 0 < v.numbers.page →
    rest.entered ≡ None → v.working ≡ None → KeepsTreeBody tells v →
    MakesOnSpaces tells Destroy (Ok Missing) (tree_stage v rest trace) (tree_stage v rest trace)
destroy-absent tells v rest trace some none absent kept =
    unmade-stays tells v Destroy Missing some kept (sym (ap (λ (e : Entry). outcome_of Destroy (entry_length e)) absent))
    (λ same. absurd cc) rest trace none

-- ---- want of memory, once there is room for some of the locked pages

pub roomy-keeps : (tells : Bool) (v : TreeView) (locked : PageSetView) → AreSame (in_set v.locked) (in_set locked) → KeepsTreeBody tells v →
    KeepsTreeBody tells (record v { locked = locked })
roomy-keeps tells v locked same kept = record {
  on_data = kept.on_data;
  sized = kept.sized;
  nodes = kept.nodes;
  fresh = kept.fresh;
  locked = record {
    within = λ q there. kept.locked.within q (sym (same q) ∙ there);
    borders = λ q there differ. kept.locked.borders q there (λ alike. differ (same (suc q) ∙ (alike ∙ sym (same q))));
  };
  spare = kept.spare;
  spare_some = kept.spare_some;
  spare_there = kept.spare_there;
  spare_fresh = kept.spare_fresh;
  apart = λ q there. same q ∙ kept.apart q there;
  committed_threshold = kept.committed_threshold;
  working_threshold = kept.working_threshold;
  told = λ tell.
      let told = kept.told tell in
      record {
        committed = told.committed;
        working = told.working;
        sound = told.sound;
        tail = told.tail;
        just = told.just;
        fresh = told.fresh;
        locked = λ q. same q ∙ told.locked q;
      };
}

pub destroy-refused : (tells : Bool) (v : TreeView) (locked : PageSetView) (rest : Rest) (trace : Option (List SpaceEvent)) →
    0 < v.numbers.page → rest.entered ≡ None → locked.size ≡ v.locked.size → KeepsTreeBody tells v →
    MakesOnSpaces tells Destroy (Err Memory) (tree_stage v rest trace) (tree_stage (record v { locked = locked }) rest trace)
destroy-refused tells v locked rest trace some none size kept = λ start meter.
    subst (λ (k : ℕ). IsEdit tells HaveLengths edited_slot TreeMayRefuse TreeMayWrite start Destroy (Err Memory) (tree_stage v rest trace)
    (tree_stage (record v { locked = record locked { size = k } }) rest trace) meter meter) (sym size)
    (no-memory tells HaveLengths edited_slot TreeMayRefuse TreeMayWrite start Destroy (tree_stage v rest trace) meter none
    (writes-none v.numbers (tree_slot v) (tree_slot v) Destroy) (tree-tied tells v some kept) tt)
