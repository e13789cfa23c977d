-- An object that is made, and one that is there already.
use Rattle.std.proofs.Common.{◌≡◌, ℕ, ◌+◌, ◌<◌, Bool, List, Option, Some, None, Ok, Err}
use Rattle.std.proofs.Common.{refl, ◌&&◌, ◌||◌, nat_eq, nat_lt}
use Rattle.std.proofs.Common.{sym, ap, subst, arith, ◌∙◌}
use Rattle.eos_ops.specs.declared.edit.Edit.{Edit}
use Rattle.eos_ops.specs.declared.edit.Edit.TheVariants.{Create}
use Rattle.eos_ops.specs.declared.outcome.Outcome.{Outcome}
use Rattle.eos_ops.specs.Edits.{edited}
use Rattle.std.specs.Prelude.{Result}
use Rattle.object_body.specs.Lengths.{outcome_of}
use Rattle.object_body.specs.declared.fails.EditFail.{EditFail}
use Rattle.eos_ops.specs.declared.outcome.Outcome.TheVariants.{Done, Exists}
use Rattle.geometry_model.specs.Numbers.{Numbers, IsInRange}
use Rattle.layout_model.specs.Grants.{Spaces}
use Rattle.moment_model.specs.Edit.{after_effect, edited_slot, effect_on, empty_tree, edited_length, given_threshold, with_working}
use Rattle.moment_model.specs.Moment.{ObjectSlot, committed_uses, either_uses}
use Rattle.layout_model.specs.declared.extent.Extent.{Extent}
use Rattle.layout_model.specs.Layout.{Tree}
use Rattle.tree_pages.specs.Levels.{levels_at, plain_at, version_at}
use Rattle.moment_model.specs.Version.{Version, spare_uses, version_uses}
use Rattle.tree_pages.specs.Entry.{Entry, Present}
use Rattle.page_set.specs.Words.{PageSetView}
use Rattle.span_store.specs.Held.{Held, bytes_on}
use Rattle.page_cache.specs.Kept.{KeptNodes}
use Rattle.space_directory.specs.SpaceView.{SpaceView}
use Rattle.superdirectory.specs.Grants.{AreTold, free_sets}
use Rattle.superdirectory.specs.Rest.{Frame, Rest, count}
use Rattle.superdirectory.proofs.Traces.{part_none}
use Rattle.object_body.specs.declared.fails.EditFail.TheVariants.{Fault}
use Rattle.object_body.specs.Calls.{IsExplained, slot_in}
use Rattle.object_body.specs.Form.{NamesThreshold}
use Rattle.object_body.specs.Moves.{MovesTold}
use Rattle.object_body.specs.Places.{AreHome, is_free_place, is_locked_place}
use Rattle.object_body.specs.Stored.{IsThreshold}
use Rattle.object_body.proofs.CallLemmas.{keeps-frame, used-not, cause-none}
use Rattle.object_body.proofs.MoveLemmas.{same-moves}
use Rattle.object_state.specs.Edits.{MakesTreeEdit}
use Rattle.object_state.specs.Tree.{TreeView, tree_slot}
use Rattle.object_body.specs.Stored.{entry_length}
use Rattle.object_state.specs.Keeps.{KeepsTreeBody, IsToldTree}
use Rattle.object_state.specs.Kind.{TreeMayWrite}
use Rattle.object_state.proofs.TiedLemmas.{tree-tied}

-- the entry of an object of no byte
abbrev pub empty_present : ℕ → Present
empty_present threshold = record { root = record { height = 0; page = 0; length = 0 }; threshold = threshold }

-- an absent object, and the same once it is made
abbrev pub absent_view : Numbers → Entry → Held → KeptNodes → PageSetView → PageSetView → TreeView
absent_view n committed held cache fresh locked = record {
  numbers = n;
  committed = committed;
  working = None;
  spare = None;
  held = held;
  cache = cache;
  fresh = fresh;
  locked = locked;
}

abbrev pub created_view : ℕ → TreeView → TreeView
created_view threshold v = record v { working = Some (empty_present threshold) }

-- a threshold that is given is one of the store
pub given-suits : (n : Numbers) (threshold : Option ℕ) → IsInRange n → NamesThreshold (Create threshold) →
    IsThreshold n (given_threshold n threshold)
given-suits n None range named = record { low = range.threshold_low; high = range.threshold_high }
given-suits n (Some pages) range named =
    record {
      low = omega (arith, named.0, range.threshold_low, range.threshold_high);
      high = omega arith;
    }

created-told : (n : Numbers) (committed : Entry) (held : Held) (cache : KeptNodes) (fresh locked : PageSetView) (threshold : ℕ) →
    IsThreshold n threshold → IsToldTree n (absent_view n committed held cache fresh locked) →
    IsToldTree n (created_view threshold (absent_view n committed held cache fresh locked))
created-told n committed held cache fresh locked threshold suits told = record {
  committed = told.committed;
  working = record { shape = (refl, refl); listed = refl; nodes = tt; segments = tt };
  sound = record {
    committed = told.sound.committed;
    working = record {
      shape = tt;
      nodes = tt;
      segments = tt;
      neighbours = tt;
      threshold_low = suits.low;
      threshold_high = suits.high;
    };
    committed_once = told.sound.committed_once;
    working_once = told.sound.working_once;
    spare_apart = told.sound.spare_apart;
  };
  tail = tt;
  just = told.just;
  fresh = told.fresh;
  locked = told.locked;
}

pub created-keeps : (tells : Bool) (n : Numbers) (committed : Entry) (held : Held) (cache : KeptNodes) (fresh locked : PageSetView)
    (threshold : ℕ) → IsThreshold n threshold → KeepsTreeBody tells (absent_view n committed held cache fresh locked) →
    KeepsTreeBody tells (created_view threshold (absent_view n committed held cache fresh locked))
created-keeps tells n committed held cache fresh locked threshold suits kept = record {
  on_data = kept.on_data;
  sized = kept.sized;
  nodes = kept.nodes;
  fresh = kept.fresh;
  locked = kept.locked;
  spare = kept.spare;
  spare_some = kept.spare_some;
  spare_there = λ absent. refl;
  spare_fresh = kept.spare_fresh;
  apart = kept.apart;
  committed_threshold = kept.committed_threshold;
  working_threshold = suits;
  told = λ tell. created-told n committed held cache fresh locked threshold suits (kept.told tell);
}

-- any absent object is seen so
pub as-absent : (v : TreeView) → v.working ≡ None → v.spare ≡ None → v ≡ absent_view v.numbers v.committed v.held v.cache v.fresh v.locked
as-absent v absent no_spare =
    ap (λ (e : Entry). record v { working = e }) absent
    ∙ ap (λ (o : Option Extent). record v { working = None; spare = o }) no_spare

-- ---- the edit

created-granted : (n : Numbers) (start : ℕ) (free : Spaces) (slot : ObjectSlot) (threshold : Option ℕ) → slot.working ≡ None →
    slot_in (edited_slot n start free slot (Create threshold))
    ≡ Some (with_working slot (Some (empty_tree (given_threshold n threshold))) None)
unfolding edited_slot
created-granted n start free slot threshold absent =
    ap (λ (v : Version). slot_in (after_effect n start free slot (effect_on n (Create threshold) v))) absent

there-granted : (n : Numbers) (start : ℕ) (free : Spaces) (slot : ObjectSlot) (tree : Tree) (threshold : Option ℕ) →
    slot.working ≡ Some tree → slot_in (edited_slot n start free slot (Create threshold)) ≡ Some slot
unfolding edited_slot
there-granted n start free slot tree threshold there =
    ap (λ (v : Version). slot_in (after_effect n start free slot (effect_on n (Create threshold) v))) there

-- an object with no byte uses no page
created-moves : (v : TreeView) (threshold : ℕ) (frame : Frame) (views : List SpaceView) (rest : Rest) → v.working ≡ None →
    AreTold rest views → AreHome frame views →
    MovesTold v.numbers frame views (tree_slot v) (tree_slot (created_view threshold v)) rest
created-moves v threshold frame views rest absent told home =
    let stays = same-moves v.numbers frame views (tree_slot v) rest told home in
    record {
      after = stays.after;
      told = stays.told;
      home = stays.home;
      moves = λ fits.
          let same = stays.moves fits in
          let alike : (page : ℕ) → version_uses v.numbers page (tree_slot (created_view threshold v)).working
          ≡ version_uses v.numbers page (tree_slot v).working =
          λ page. sym (ap (λ (e : Entry). version_uses v.numbers page (version_at (bytes_on v.held) e)) absent) in
          record {
            free = λ page s at place. same.free page s at place ∙ sym (ap (λ (w : ℕ). nat_eq
                (committed_uses v.numbers page (tree_slot v) + (w + spare_uses page v.spare)) 0
                && (is_free_place views s at || nat_lt 0 (either_uses v.numbers page (tree_slot v)))) (alike page));
            locked = λ page s at place. same.locked page s at place ∙ sym (ap (λ (w : ℕ).
                (nat_lt 0 (committed_uses v.numbers page (tree_slot v)) && nat_eq (w + spare_uses page v.spare) 0)
                || (is_locked_place views s at && (nat_eq (either_uses v.numbers page (tree_slot v)) 0
                && nat_eq (committed_uses v.numbers page (tree_slot v) + (w + spare_uses page v.spare)) 0))) (alike page));
          };
    }

pub never-fault : (outcome : Outcome) → ◌≡◌ {A = Result Outcome EditFail} (Ok outcome) (Err Fault) → ⊥
never-fault outcome same = absurd cc

pub writes-none : (n : Numbers) (old new : ObjectSlot) (edit : Edit) → TreeMayWrite n old edit new 0
writes-none n old new edit = record { added = 0; few = omega arith; most = omega arith }

-- an absent object is made
pub create-absent : (tells : Bool) (v : TreeView) (threshold : Option ℕ) → 0 < v.numbers.page → v.working ≡ None → v.spare ≡ None →
    KeepsTreeBody tells (created_view (given_threshold v.numbers threshold) v) →
    MakesTreeEdit tells (Create threshold) Done v (created_view (given_threshold v.numbers threshold) v)
create-absent tells v threshold some absent no_spare kept = λ rest trace none start meter. record {
  outcome = sym (ap (λ (e : Entry). outcome_of (Create threshold) (entry_length e)) absent);
  form = record {
    numbers = refl;
    committed = refl;
    working = sym (ap (λ (e : Entry). edited_length (Create threshold) (entry_length e)) absent);
  };
  unmade = λ never. absurd (never refl);
  rest = keeps-frame rest none;
  low = part_none (IsExplained (count rest) (Ok Done)) trace tt;
  port = used-not meter;
  cause = cause-none meter.faults (Ok Done ≡ Err Fault) (never-fault Done);
  memory = λ wanted. absurd cc;
  told = λ tell. record {
    working = sym (ap (λ (e : Entry). edited (Create threshold) (plain_at (bytes_on v.held) v.numbers.page e)) absent);
    committed = refl;
    kept = refl;
    unmade = λ never. absurd (never refl);
    granted = λ views told long.
        created-granted v.numbers start (free_sets views) (tree_slot v) threshold (ap (version_at (bytes_on v.held)) absent)
        ∙ ap (λ (o : Option Extent). Some (record (tree_slot (created_view (given_threshold v.numbers threshold) v)) { spare = o }))
        (sym no_spare);
    spaces = λ views told home. created-moves v (given_threshold v.numbers threshold) rest.frame views rest absent told home;
    small = tt;
    writes = record {
      pages = 0;
      allowed = writes-none v.numbers (tree_slot v) (tree_slot (created_view (given_threshold v.numbers threshold) v)) (Create threshold);
      most = omega arith;
    };
  };
  tied = tree-tied tells (created_view (given_threshold v.numbers threshold) v) some kept;
}

-- one that is there stays
pub create-there : (tells : Bool) (v : TreeView) (present : Present) (threshold : Option ℕ) → 0 < v.numbers.page →
    v.working ≡ Some present → KeepsTreeBody tells v → MakesTreeEdit tells (Create threshold) Exists v v
create-there tells v present threshold some there kept = λ rest trace none start meter. record {
  outcome = sym (ap (λ (e : Entry). outcome_of (Create threshold) (entry_length e)) there);
  form = record {
    numbers = refl;
    committed = refl;
    working = subst (λ (e : Entry). entry_length e ≡ edited_length (Create threshold) (entry_length e)) (sym there) refl;
  };
  unmade = λ differ. refl;
  rest = keeps-frame rest none;
  low = part_none (IsExplained (count rest) (Ok Exists)) trace tt;
  port = used-not meter;
  cause = cause-none meter.faults (Ok Exists ≡ Err Fault) (never-fault Exists);
  memory = λ wanted. absurd cc;
  told = λ tell. record {
    working = subst (λ (e : Entry). plain_at (bytes_on v.held) v.numbers.page e
        ≡ edited (Create threshold) (plain_at (bytes_on v.held) v.numbers.page e)) (sym there) refl;
    committed = refl;
    kept = refl;
    unmade = λ differ. refl;
    granted = λ views told long. there-granted v.numbers start (free_sets views) (tree_slot v)
        (record { levels = levels_at (bytes_on v.held) present.root; threshold = present.threshold }) threshold
        (ap (version_at (bytes_on v.held)) there);
    spaces = λ views told home. same-moves v.numbers rest.frame views (tree_slot v) rest told home;
    small = tt;
    writes = record { pages = 0; allowed = writes-none v.numbers (tree_slot v) (tree_slot v) (Create threshold); most = omega arith };
  };
  tied = tree-tied tells v some kept;
}

-- what is kept of an absent object that is made
pub create-keeps : (tells : Bool) (v : TreeView) (threshold : ℕ) → IsThreshold v.numbers threshold → v.working ≡ None → v.spare ≡ None →
    KeepsTreeBody tells v → KeepsTreeBody tells (created_view threshold v)
create-keeps tells v threshold suits absent no_spare kept =
    let same = as-absent v absent no_spare in
    subst (λ (w : TreeView). KeepsTreeBody tells (created_view threshold w)) (sym same)
    (created-keeps tells v.numbers v.committed v.held v.cache v.fresh v.locked threshold suits (subst (KeepsTreeBody tells) same kept))
