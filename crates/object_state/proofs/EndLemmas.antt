-- An object that is settled, or undone: what it keeps afterwards, and what it shows.
use Rattle.std.proofs.Common.{◌≡◌, ℕ, suc, ◌+◌, ◌<◌, Bool, true, false, not, ◌&&◌, ◌||◌, IsTrue, List, Option, Some, None, IfSome}
use Rattle.std.proofs.Common.{refl, sym, ap, subst, arith, ◌∙◌, nat_lt}
use Rattle.std.specs.Prelude.{if◌then◌else◌}
use Rattle.std.proofs.lemmas.Bool.{false≢true}
use Rattle.geometry_model.specs.Numbers.{Numbers}
use Rattle.tree_model.specs.Tree.{Pages, IsTreeOf, entries_of}
use Rattle.moment_model.specs.Edit.{settled, undone}
use Rattle.moment_model.specs.Version.{Version, IsGood, version_uses, spare_uses}
use Rattle.moment_model.specs.Moment.{ObjectSlot, committed_uses, working_uses}
use Rattle.moment_laws.specs.ByObject.{IsSoundSlot}
use Rattle.tree_pages.specs.Entry.{Entry}
use Rattle.tree_pages.specs.Levels.{version_at, plain_at, slot_at_rest}
use Rattle.tree_pages.specs.Stored.{StaysOn}
use Rattle.tree_pages.proofs.TreeLemmas.{version-stays, plain-stays, version_tree-stays}
use Rattle.page_set.specs.Words.{PageSetView, in_set}
use Rattle.span_store.specs.Held.{Held, bytes_on, has}
use Rattle.page_cache.specs.Kept.{KeptNodes}
use Rattle.space_directory.specs.SpaceView.{SpaceView}
use Rattle.superdirectory.specs.Rest.{Frame, Rest}
use Rattle.superdirectory.specs.Trace.{SpaceEvent}
use Rattle.object_body.specs.Calls.{Stage, IsBodyEnd}
use Rattle.object_body.specs.Form.{Form, Contents, settled_form, settled_contents, undone_form, undone_contents}
use Rattle.object_body.specs.Moves.{MovesTold}
use Rattle.object_body.specs.Places.{IsReady, IsStore, is_free_place, is_locked_place}
use Rattle.object_body.specs.Stored.{IsThreshold}
use Rattle.eos_ops.specs.declared.plain.Plain.{Plain}
use Rattle.object_state.specs.Tree.{TreeView, tree_form, tree_slot, tree_contents}
use Rattle.object_body.specs.Form.{HaveLengths}
use Rattle.object_state.specs.Edits.{tree_stage}
use Rattle.object_state.specs.Keeps.{KeepsTreeBody, IsToldTree, IsMarked, in_spare}
use Rattle.object_body.specs.Stored.{StandsOn}
use Rattle.give_back.specs.Giving.{AreLetGo, LetsGo, LeavesNodes, IsLeft, Ways, gives, none_marked, or_page}
use Rattle.object_state.specs.Ends.{unlocks}
use Rattle.object_state.proofs.EndTables.{Counts, spare-test, never-both, both-never, settle_gives, settled-free, settled-locked}
use Rattle.object_state.proofs.EndTables.{settled-has, settled-stays, undo_gives, undone-free, undone-locked, undone-has}
use Rattle.object_state.proofs.EndTables.{undone-stays}
use Rattle.give_back.proofs.LeftLemmas.{left-bytes, left-has, left-held, left-stays, leaves-then}
use Rattle.object_state.proofs.LeftLemmas.{left-on_data}
use Rattle.give_back.proofs.LetGoLemmas.{gives-apart, gives-both, let_go-as, let_go-then, never-locked, or-none, or_ways}
use Rattle.object_state.proofs.TiedLemmas.{tree-tied, rests-now}

-- ---- the common part: an object at rest in one of its entries, on the pages that are left

-- the object of an entry alone, on these pages
abbrev pub at_rest : TreeView → Entry → Held → KeptNodes → PageSetView → PageSetView → TreeView
at_rest v entry held cache fresh locked = record {
  numbers = v.numbers;
  committed = entry;
  working = entry;
  spare = None;
  held = held;
  cache = cache;
  fresh = fresh;
  locked = locked;
}

-- no page is in the set
pub record IsBare (set : PageSetView) : Type 0 where
  pub none : (page : ℕ) → in_set set page ≡ false
  pub size : set.size ≡ 0

pub no-marks : (held : Held) (marked : ℕ → Bool) → ((page : ℕ) → marked page ≡ false) → IsMarked held marked
no-marks held marked none = record {
  within = λ page there. absurd (false≢true (sym (none page) ∙ there));
  borders = λ page there differ. absurd (differ (none (suc page) ∙ sym (none page)));
}

pub stands-stay : (n : Numbers) (at now : Pages) (entry : Entry) → StaysOn n (version_at at entry) at now → StandsOn n at entry →
    StandsOn n now entry
stands-stay n at now None stays stands = tt
stands-stay n at now (Some present) stays stands =
    let tree = version_tree-stays n at now present (entries_of at present.root.height present.root.page) stays stands in
    subst (λ es. IsTreeOf n now present.root es) tree.listed tree

-- what is told of an object at rest in a version
record IsRested (n : Numbers) (held : Held) (version : Version) : Type 0 where
  sound : IsSoundSlot IsGood n (slot_at_rest version)
  just : (page : ℕ) → has held page ≡ nat_lt 0 (version_uses n page version + (version_uses n page version + 0))

rested-told : (v : TreeView) (entry : Entry) (held : Held) (cache : KeptNodes) (fresh locked : PageSetView) →
    IsBare fresh → IsBare locked → StandsOn v.numbers (bytes_on held) entry → IsRested v.numbers held (version_at (bytes_on held) entry) →
    IsToldTree v.numbers (at_rest v entry held cache fresh locked)
rested-told v entry held cache fresh locked no_fresh no_locked stands rested = record {
  committed = stands;
  working = stands;
  sound = rested.sound;
  tail = tt;
  just = rested.just;
  fresh = λ page. no_fresh.none page ∙ sym (never-both (version_uses v.numbers page (version_at (bytes_on held) entry)));
  locked = λ page. no_locked.none page ∙ sym (both-never (version_uses v.numbers page (version_at (bytes_on held) entry)));
}

rested-keeps : (tells : Bool) (v : TreeView) (entry : Entry) (held : Held) (cache : KeptNodes) (fresh locked : PageSetView)
    (gone : ℕ → Bool) → KeepsTreeBody tells v → LeavesNodes tells v.numbers.page gone v.held held v.cache cache →
    IsBare fresh → IsBare locked → IfSome entry (λ present. IsThreshold v.numbers present.threshold) →
    (IsTrue tells → IsToldTree v.numbers (at_rest v entry held cache fresh locked)) →
    KeepsTreeBody tells (at_rest v entry held cache fresh locked)
rested-keeps tells v entry held cache fresh locked gone kept leaves no_fresh no_locked threshold told = record {
  on_data = left-on_data v.numbers gone v.held held leaves.spans.left kept.on_data;
  sized = leaves.spans.sized kept.sized;
  nodes = leaves.nodes kept.nodes;
  fresh = no-marks held (in_set fresh) no_fresh.none;
  locked = no-marks held (in_set locked) no_locked.none;
  spare = no-marks held (in_spare None) (λ page. refl);
  spare_some = tt;
  spare_there = λ absent. refl;
  spare_fresh = λ page there. absurd (false≢true there);
  apart = λ page there. no_locked.none page;
  committed_threshold = threshold;
  working_threshold = threshold;
  told = told;
}

-- what an object at rest shows, in a version and its bytes
abbrev rested_contents : Version → Plain → Contents
rested_contents version bytes = record { slot = slot_at_rest version; committed = bytes; working = bytes }

-- the pages of an entry's version stay
abbrev Stays : TreeView → Entry → Held → Type 0
Stays v entry held = StaysOn v.numbers (version_at (bytes_on v.held) entry) (bytes_on v.held) (bytes_on held)

rested-contents : (v : TreeView) (entry : Entry) (held : Held) → Stays v entry held →
    rested_contents (version_at (bytes_on held) entry) (plain_at (bytes_on held) v.numbers.page entry)
    ≡ rested_contents (version_at (bytes_on v.held) entry) (plain_at (bytes_on v.held) v.numbers.page entry)
rested-contents v entry held stays =
    ap (λ x. rested_contents x (plain_at (bytes_on held) v.numbers.page entry))
    (version-stays v.numbers (bytes_on v.held) (bytes_on held) entry stays)
    ∙ ap (rested_contents (version_at (bytes_on v.held) entry)) (plain-stays v.numbers (bytes_on v.held) (bytes_on held) entry stays)

-- ---- settled

abbrev pub settle_gone : TreeView → ℕ → Bool
settle_gone v = or_page (in_spare v.spare) (in_set v.locked)

counts-of : (v : TreeView) (page : ℕ) → IsToldTree v.numbers v →
    Counts (committed_uses v.numbers page (tree_slot v)) (version_uses v.numbers page (tree_slot v).working) (spare_uses page v.spare)
counts-of v page told = record { once = told.sound.working_once page; apart = told.sound.spare_apart page }

settle-gone : (v : TreeView) (page : ℕ) → IsToldTree v.numbers v →
    settle_gone v page ≡ settle_gives (committed_uses v.numbers page (tree_slot v))
    (version_uses v.numbers page (tree_slot v).working) (spare_uses page v.spare)
settle-gone v page told =
    ap (λ b. b || in_set v.locked page) (spare-test v.spare page)
    ∙ ap (λ b. nat_lt 0 (spare_uses page v.spare) || b) (told.locked page)

settle-stays : (v : TreeView) (held : Held) → IsToldTree v.numbers v → IsLeft (settle_gone v) v.held held → Stays v v.working held
settle-stays v held told left = λ q used. left-bytes (settle_gone v) v.held held q left
    (settle-gone v q told ∙ settled-stays (committed_uses v.numbers q (tree_slot v))
    (version_uses v.numbers q (tree_slot v).working) (spare_uses q v.spare) (counts-of v q told) used)

settle-sound : (n : Numbers) (slot : ObjectSlot) → IsSoundSlot IsGood n slot → IsSoundSlot IsGood n (slot_at_rest slot.working)
settle-sound n slot sound = record {
  committed = sound.working;
  working = sound.working;
  committed_once = λ page. omega (arith, sound.working_once page);
  working_once = λ page. omega (arith, sound.working_once page);
  spare_apart = λ page some. absurd (omega (arith, some));
}

settle-rested : (v : TreeView) (held : Held) → IsToldTree v.numbers v → IsLeft (settle_gone v) v.held held →
    IsRested v.numbers held (version_at (bytes_on held) v.working)
settle-rested v held told left =
    subst (IsRested v.numbers held)
    (sym (version-stays v.numbers (bytes_on v.held) (bytes_on held) v.working (settle-stays v held told left)))
    (record {
      sound = settle-sound v.numbers (tree_slot v) told.sound;
      just = λ q. left-has (settle_gone v) v.held held q left
          ∙ (ap (λ b. if b then false else has v.held q) (settle-gone v q told)
          ∙ (ap (λ b. if settle_gives (committed_uses v.numbers q (tree_slot v)) (version_uses v.numbers q (tree_slot v).working)
          (spare_uses q v.spare) then false else b) (told.just q)
          ∙ settled-has (committed_uses v.numbers q (tree_slot v)) (version_uses v.numbers q (tree_slot v).working)
          (spare_uses q v.spare) (counts-of v q told)));
    })

-- a settled object
abbrev pub settled_view : TreeView → Held → KeptNodes → PageSetView → PageSetView → TreeView
settled_view v held cache fresh locked = at_rest v v.working held cache fresh locked

-- what an end did: to the pages held and the nodes kept, to the spaces, and to the two sets
pub record HasEnded (tells : Bool) (v : TreeView) (gone : ℕ → Bool) (ways : Ways) (held : Held) (cache : KeptNodes)
    (fresh locked : PageSetView) (old new : Rest) (before after : Option (List SpaceEvent)) : Type 0 where
  pub leaves : LeavesNodes tells v.numbers.page gone v.held held v.cache cache
  pub went : LetsGo v.numbers ways old new before after
  pub no_fresh : IsBare fresh
  pub no_locked : IsBare locked

pub settled-keeps : (tells : Bool) (v : TreeView) (held : Held) (cache : KeptNodes) (fresh locked : PageSetView) (old new : Rest)
    (before after : Option (List SpaceEvent)) → KeepsTreeBody tells v →
    HasEnded tells v (settle_gone v) (gives (settle_gone v)) held cache fresh locked old new before after →
    KeepsTreeBody tells (settled_view v held cache fresh locked)
settled-keeps tells v held cache fresh locked old new before after kept ended =
    rested-keeps tells v v.working held cache fresh locked (settle_gone v) kept ended.leaves ended.no_fresh ended.no_locked
    kept.working_threshold
    (λ tell.
    let told = kept.told tell in
    let left = ended.leaves.spans.left in
    rested-told v v.working held cache fresh locked ended.no_fresh ended.no_locked
    (stands-stay v.numbers (bytes_on v.held) (bytes_on held) v.working (settle-stays v held told left) told.working)
    (settle-rested v held told left))

settle-moves : (v : TreeView) (frame : Frame) (views : List SpaceView) (rest : Rest) → IsToldTree v.numbers v →
    AreLetGo v.numbers frame (gives (settle_gone v)) views rest →
    MovesTold v.numbers frame views (tree_slot v) (settled (tree_slot v)) rest
settle-moves v frame views rest told all = record {
  after = all.after;
  told = all.told;
  home = all.home;
  moves = λ fits. record {
    free = λ page s at place. all.free page s at place
        ∙ (ap (λ b. b || is_free_place views s at) (settle-gone v page told)
        ∙ settled-free (committed_uses v.numbers page (tree_slot v)) (version_uses v.numbers page (tree_slot v).working)
        (spare_uses page v.spare) (is_free_place views s at) (counts-of v page told) (fits.used page s at place));
    locked = λ page s at place. all.locked page s at place
        ∙ (ap (λ b. not (b || false) && is_locked_place views s at) (settle-gone v page told)
        ∙ settled-locked (committed_uses v.numbers page (tree_slot v)) (version_uses v.numbers page (tree_slot v).working)
        (spare_uses page v.spare) (is_locked_place views s at) (counts-of v page told) (fits.locked page s at place));
  };
}

pub settled-end : (tells : Bool) (v : TreeView) (held : Held) (cache : KeptNodes) (fresh locked : PageSetView) (old new : Rest)
    (before after : Option (List SpaceEvent)) → 0 < v.numbers.page → KeepsTreeBody tells v →
    HasEnded tells v (settle_gone v) (gives (settle_gone v)) held cache fresh locked old new before after →
    IsBodyEnd tells HaveLengths (settled_form (tree_form v)) (settled_contents (tree_contents v)) (tree_stage v old before)
    (tree_stage (settled_view v held cache fresh locked) new after)
settled-end tells v held cache fresh locked old new before after some kept ended = record {
  form = ap (λ (b : Bool). record (settled_form (tree_form v)) { is_resting = b })
      (rests-now v.working fresh.size locked.size ended.no_fresh.size ended.no_locked.size);
  told = λ tell. rested-contents v v.working held (settle-stays v held (kept.told tell) ended.leaves.spans.left);
  rest = ended.went.rest;
  enters = ended.went.enters;
  spaces = λ tell views told home. settle-moves v old.frame views new (kept.told tell) (ended.went.spaces views told home);
  tied = tree-tied tells (settled_view v held cache fresh locked) some
      (settled-keeps tells v held cache fresh locked old new before after kept ended);
}

-- ---- undone

-- the fresh pages are given, and the locked ones unlocked
abbrev pub undo_ways : TreeView → Ways
undo_ways v = record { given = in_set v.fresh; unlocked = in_set v.locked; locked = none_marked }

undo-gone : (v : TreeView) (page : ℕ) → IsToldTree v.numbers v →
    in_set v.fresh page ≡ undo_gives (committed_uses v.numbers page (tree_slot v)) (working_uses v.numbers page (tree_slot v))
undo-gone v page told = told.fresh page

undo-stays : (v : TreeView) (held : Held) → IsToldTree v.numbers v → IsLeft (in_set v.fresh) v.held held → Stays v v.committed held
undo-stays v held told left = λ q used. left-bytes (in_set v.fresh) v.held held q left
    (told.fresh q ∙ undone-stays (committed_uses v.numbers q (tree_slot v)) (working_uses v.numbers q (tree_slot v)) used)

undo-sound : (n : Numbers) (slot : ObjectSlot) → IsSoundSlot IsGood n slot → IsSoundSlot IsGood n (slot_at_rest slot.committed)
undo-sound n slot sound = record {
  committed = sound.committed;
  working = sound.committed;
  committed_once = sound.committed_once;
  working_once = λ page. omega (arith, sound.committed_once page);
  spare_apart = λ page some. absurd (omega (arith, some));
}

undo-rested : (v : TreeView) (held : Held) → IsToldTree v.numbers v → IsLeft (in_set v.fresh) v.held held →
    IsRested v.numbers held (version_at (bytes_on held) v.committed)
undo-rested v held told left =
    subst (IsRested v.numbers held)
    (sym (version-stays v.numbers (bytes_on v.held) (bytes_on held) v.committed (undo-stays v held told left)))
    (record {
      sound = undo-sound v.numbers (tree_slot v) told.sound;
      just = λ q. left-has (in_set v.fresh) v.held held q left
          ∙ (ap (λ b. if b then false else has v.held q) (told.fresh q)
          ∙ (ap (λ b. if undo_gives (committed_uses v.numbers q (tree_slot v)) (working_uses v.numbers q (tree_slot v)) then false else b)
          (told.just q)
          ∙ undone-has (committed_uses v.numbers q (tree_slot v)) (working_uses v.numbers q (tree_slot v))));
    })

-- an undone object
abbrev pub undone_view : TreeView → Held → KeptNodes → PageSetView → PageSetView → TreeView
undone_view v held cache fresh locked = at_rest v v.committed held cache fresh locked

pub undone-keeps : (tells : Bool) (v : TreeView) (held : Held) (cache : KeptNodes) (fresh locked : PageSetView) (old new : Rest)
    (before after : Option (List SpaceEvent)) → KeepsTreeBody tells v →
    HasEnded tells v (in_set v.fresh) (undo_ways v) held cache fresh locked old new before after →
    KeepsTreeBody tells (undone_view v held cache fresh locked)
undone-keeps tells v held cache fresh locked old new before after kept ended =
    rested-keeps tells v v.committed held cache fresh locked (in_set v.fresh) kept ended.leaves ended.no_fresh ended.no_locked
    kept.committed_threshold
    (λ tell.
    let told = kept.told tell in
    let left = ended.leaves.spans.left in
    rested-told v v.committed held cache fresh locked ended.no_fresh ended.no_locked
    (stands-stay v.numbers (bytes_on v.held) (bytes_on held) v.committed (undo-stays v held told left) told.committed)
    (undo-rested v held told left))

undo-moves : (v : TreeView) (frame : Frame) (views : List SpaceView) (rest : Rest) → IsToldTree v.numbers v →
    AreLetGo v.numbers frame (undo_ways v) views rest →
    MovesTold v.numbers frame views (tree_slot v) (undone (tree_slot v)) rest
undo-moves v frame views rest told all = record {
  after = all.after;
  told = all.told;
  home = all.home;
  moves = λ fits. record {
    free = λ page s at place. all.free page s at place
        ∙ (ap (λ b. b || is_free_place views s at) (told.fresh page)
        ∙ undone-free (committed_uses v.numbers page (tree_slot v)) (working_uses v.numbers page (tree_slot v))
        (is_free_place views s at) (fits.used page s at place));
    locked = λ page s at place. all.locked page s at place
        ∙ (ap (λ b. not (b || in_set v.locked page) && is_locked_place views s at) (told.fresh page)
        ∙ (ap (λ b. not (undo_gives (committed_uses v.numbers page (tree_slot v)) (working_uses v.numbers page (tree_slot v)) || b)
        && is_locked_place views s at) (told.locked page)
        ∙ undone-locked (committed_uses v.numbers page (tree_slot v)) (working_uses v.numbers page (tree_slot v))
        (is_locked_place views s at) (fits.locked page s at place)));
  };
}

pub undone-end : (tells : Bool) (v : TreeView) (held : Held) (cache : KeptNodes) (fresh locked : PageSetView) (old new : Rest)
    (before after : Option (List SpaceEvent)) → 0 < v.numbers.page → KeepsTreeBody tells v →
    HasEnded tells v (in_set v.fresh) (undo_ways v) held cache fresh locked old new before after →
    IsBodyEnd tells HaveLengths (undone_form (tree_form v)) (undone_contents (tree_contents v)) (tree_stage v old before)
    (tree_stage (undone_view v held cache fresh locked) new after)
undone-end tells v held cache fresh locked old new before after some kept ended = record {
  form = ap (λ (b : Bool). record (undone_form (tree_form v)) { is_resting = b })
      (rests-now v.committed fresh.size locked.size ended.no_fresh.size ended.no_locked.size);
  told = λ tell. rested-contents v v.committed held (undo-stays v held (kept.told tell) ended.leaves.spans.left);
  rest = ended.went.rest;
  enters = ended.went.enters;
  spaces = λ tell views told home. undo-moves v old.frame views new (kept.told tell) (ended.went.spaces views told home);
  tied = tree-tied tells (undone_view v held cache fresh locked) some
      (undone-keeps tells v held cache fresh locked old new before after kept ended);
}

-- ---- the calls of an end, one after the other

-- the spaces after a call are ready for the next
pub ready-next : (n : Numbers) (ways : Ways) (old new : Rest) (before after : Option (List SpaceEvent)) →
    IsReady n old → LetsGo n ways old new before after → IsReady n new
ready-next n ways old new before after ready went = record {
  store = subst (IsStore n) (sym went.rest.frame) ready.store;
  none = went.rest.entered;
}

-- marks that stay, where the pages that went have none
pub marked-beside : (held held2 : Held) (marked gone : ℕ → Bool) → IsMarked held marked → IsLeft gone held held2 →
    ((page : ℕ) → IsTrue (marked page) → gone page ≡ false) → IsMarked held2 marked
marked-beside held held2 marked gone is left apart = record {
  within = λ q there. left-stays gone held held2 q left (apart q there) (is.within q there);
  borders = λ q there differ.
      let was = left-held gone held held2 (suc q) left there in
      left.begun (suc q) was.1 ∙ is.borders q was.0 differ;
}

-- no locked page is spare
pub locked-beside : (tells : Bool) (v : TreeView) (page : ℕ) → KeepsTreeBody tells v → IsTrue (in_set v.locked page) →
    in_spare v.spare page ≡ false
locked-beside tells v page kept locked = go (in_spare v.spare page) refl
  where
    go : (b : Bool) → in_spare v.spare page ≡ b → in_spare v.spare page ≡ false
    go true is = absurd (false≢true (sym (kept.apart page (kept.spare_fresh page is)) ∙ locked))
    go false is = is

pub settle-ended : (tells : Bool) (v : TreeView) (held held2 : Held) (cache cache2 : KeptNodes) (fresh locked : PageSetView)
    (old middle new : Rest) (before between after : Option (List SpaceEvent)) →
    LeavesNodes tells v.numbers.page (in_spare v.spare) v.held held v.cache cache →
    LetsGo v.numbers (gives (in_spare v.spare)) old middle before between →
    LeavesNodes tells v.numbers.page (in_set v.locked) held held2 cache cache2 →
    LetsGo v.numbers (gives (in_set v.locked)) middle new between after → IsBare fresh → IsBare locked →
    HasEnded tells v (settle_gone v) (gives (settle_gone v)) held2 cache2 fresh locked old new before after
settle-ended tells v held held2 cache cache2 fresh locked old middle new before between after left went left2 went2 no_fresh no_locked =
    record {
      leaves = leaves-then tells v.numbers.page (in_spare v.spare) (in_set v.locked) v.held held held2 v.cache cache cache2 left left2;
      went = let_go-as v.numbers (or_ways (gives (in_spare v.spare)) (gives (in_set v.locked))) (gives (settle_gone v)) old new before after
          (gives-both (in_spare v.spare) (in_set v.locked) (settle_gone v) (λ q. refl))
          (let_go-then v.numbers (gives (in_spare v.spare)) (gives (in_set v.locked)) old middle new before between after
          (gives-apart (in_spare v.spare) (in_set v.locked)) went went2);
      no_fresh = no_fresh;
      no_locked = no_locked;
    }

pub undo-ended : (tells : Bool) (v : TreeView) (held : Held) (cache : KeptNodes) (fresh locked : PageSetView)
    (old middle new : Rest) (before between after : Option (List SpaceEvent)) →
    LeavesNodes tells v.numbers.page (in_set v.fresh) v.held held v.cache cache →
    LetsGo v.numbers (gives (in_set v.fresh)) old middle before between →
    LetsGo v.numbers (unlocks (in_set v.locked)) middle new between after → IsBare fresh → IsBare locked →
    HasEnded tells v (in_set v.fresh) (undo_ways v) held cache fresh locked old new before after
undo-ended tells v held cache fresh locked old middle new before between after left went went2 no_fresh no_locked = record {
  leaves = left;
  went = let_go-as v.numbers (or_ways (gives (in_set v.fresh)) (unlocks (in_set v.locked))) (undo_ways v) old new before after
      (record { given = λ q. sym (or-none (in_set v.fresh q)); unlocked = λ q. refl; locked = λ q. refl })
      (let_go-then v.numbers (gives (in_set v.fresh)) (unlocks (in_set v.locked)) old middle new before between after
      (never-locked (gives (in_set v.fresh)) (unlocks (in_set v.locked)) (λ q. refl) (λ q. refl)) went went2);
  no_fresh = no_fresh;
  no_locked = no_locked;
}

-- what an end promises of an object that is known by another name
pub end-of : (tells : Bool) (v w : TreeView) (end_form : TreeView → Form) (end_told : TreeView → Contents) (after : Stage) (rest : Rest)
    (trace : Option (List SpaceEvent)) → v ≡ w → IsBodyEnd tells HaveLengths (end_form v) (end_told v) (tree_stage v rest trace) after →
    IsBodyEnd tells HaveLengths (end_form w) (end_told w) (tree_stage w rest trace) after
end-of tells v w end_form end_told after rest trace same ended =
    subst (λ (x : TreeView). IsBodyEnd tells HaveLengths (end_form x) (end_told x) (tree_stage x rest trace) after) same ended
