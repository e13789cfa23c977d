-- An edit that was refused: the object holds the same pages in the same spans, and only its spare pages may hold something else.
use Rattle.std.proofs.Common.{◌≡◌, ℕ, suc, ◌<◌, ◌≤◌, Bool, ◌&&◌, IsTrue, List, [], length, Option, Err, refl, sym, ap, subst, arith}
use Rattle.std.proofs.Common.{◌∙◌, inl, inr, ◌⊎◌, nat_eq, nat_lt}
use Rattle.std.specs.Prelude.{is_none, unwrap_or, Result}
use Rattle.std.proofs.lemmas.Bool.{cases_lt}
use Rattle.eos_ops.specs.declared.outcome.Outcome.{Outcome}
use Rattle.eos_ops.specs.declared.edit.Edit.{Edit}
use Rattle.fault_count.specs.Counts.{HasCause, IsUsed, Meter}
use Rattle.moment_model.specs.Edit.{edited_slot}
use Rattle.moment_model.specs.Moment.{ObjectSlot, committed_uses, either_uses}
use Rattle.moment_model.specs.Version.{IsGood, Version, spare_uses}
use Rattle.change_laws.specs.Tail.{IsTail}
use Rattle.page_set.specs.Members.{AreSame}
use Rattle.page_set.specs.Words.{in_set}
use Rattle.moment_laws.specs.ByObject.{IsSoundSlot}
use Rattle.eos_ops.specs.declared.plain.Plain.{Plain}
use Rattle.tree_pages.specs.Levels.{plain_at, version_at}
use Rattle.tree_pages.specs.Stored.{StaysOn}
use Rattle.tree_pages.proofs.TreeLemmas.{plain-stays, version-stays}
use Rattle.span_store.specs.Held.{begins, bytes_on, has, page_at}
use Rattle.space_directory.specs.SpaceView.{SpaceView}
use Rattle.superdirectory.specs.Grants.{AreTold, KeepsFrame, free_sets}
use Rattle.superdirectory.specs.Rest.{Rest, count}
use Rattle.superdirectory.specs.Trace.{SpaceEvent, Part}
use Rattle.object_body.specs.declared.fails.EditFail.{EditFail}
use Rattle.object_body.specs.declared.fails.EditFail.TheVariants.{Fault, Memory}
use Rattle.object_body.specs.Calls.{IsEdit, IsEditAnswer, IsExplained, IsSmall, WritesWithin}
use Rattle.object_body.specs.Form.{Contents, HaveLengths}
use Rattle.object_body.specs.Memory.{EditMayTakeMemory}
use Rattle.object_body.specs.Moves.{IsUntouched, locks}
use Rattle.object_body.specs.Places.{AreHome}
use Rattle.object_body.specs.Stored.{entry_length}
use Rattle.held_parts.specs.Holding.{KeepsRight}
use Rattle.object_state.specs.Tree.{TreeView, same_entry, tree_contents, tree_form, tree_slot}
use Rattle.object_state.specs.Keeps.{KeepsTreeBody, IsMarked, IsToldTree, in_spare, is_fresh}
use Rattle.object_state.specs.Kind.{TreeMayRefuse, TreeMayWrite}
use Rattle.object_state.specs.Edits.{tree_stage}
use Rattle.object_state.specs.Drops.{Stock}
use Rattle.object_state.proofs.BesideLemmas.{changed_view}
use Rattle.object_state.proofs.EndLemmas.{stands-stay}
use Rattle.object_state.proofs.TiedLemmas.{tree-tied}

-- The same pages in the same spans or parts of them, with the same on all but the spare ones; the kept nodes are right; and the same
-- pages are fresh and locked, whatever the room for more.
pub record HoldsAlike (tells : Bool) (v : TreeView) (s : Stock) : Type 0 where
  pub others : (q : ℕ) → spare_uses q v.spare ≡ 0 → page_at s.held q ≡ page_at v.held q
  pub had : (q : ℕ) → has s.held q ≡ has v.held q
  pub begun : (q : ℕ) → IsTrue (has v.held q) → IsTrue (begins v.held q) → IsTrue (begins s.held q)
  pub right : KeepsRight tells v.numbers s.held s.cache
  pub fresh : AreSame (in_set v.fresh) (in_set s.fresh)
  pub fresh_size : s.fresh.size ≡ v.fresh.size
  pub locked : AreSame (in_set v.locked) (in_set s.locked)
  pub locked_size : s.locked.size ≡ v.locked.size

-- the object with these
abbrev pub alike_view : TreeView → Stock → TreeView
alike_view v s = changed_view v s v.working v.spare

-- marks of the same pages, in these spans
alike-marked : (tells : Bool) (v : TreeView) (s : Stock) (marked now : ℕ → Bool) → HoldsAlike tells v s → AreSame marked now →
    IsMarked v.held marked → IsMarked s.held now
alike-marked tells v s marked now alike same is = record {
  within = λ q there. alike.had q ∙ is.within q (sym (same q) ∙ there);
  borders = λ q there differ.
      let was = sym (alike.had (suc q)) ∙ there in
      alike.begun (suc q) was (is.borders q was (λ agree. differ (same (suc q) ∙ (agree ∙ sym (same q)))));
}

alike-bytes : (tells : Bool) (v : TreeView) (s : Stock) (q : ℕ) → HoldsAlike tells v s → spare_uses q v.spare ≡ 0 →
    bytes_on s.held q ≡ bytes_on v.held q
alike-bytes tells v s q alike none = ap (λ o. unwrap_or o []) (alike.others q none)

committed-alike : (tells : Bool) (v : TreeView) (s : Stock) → HoldsAlike tells v s → IsToldTree v.numbers v →
    StaysOn v.numbers (version_at (bytes_on v.held) v.committed) (bytes_on v.held) (bytes_on s.held)
committed-alike tells v s alike told = λ q used.
    alike-bytes tells v s q alike (none q used (cases_lt 0 (spare_uses q v.spare)))
  where
    none : (q : ℕ) → 0 < committed_uses v.numbers q (tree_slot v) → (0 < spare_uses q v.spare) ⊎ (spare_uses q v.spare ≤ 0) →
        spare_uses q v.spare ≡ 0
    none q used (inl some) = let out = told.sound.spare_apart q some in absurd (omega (arith, out, used))
    none q used (inr out) = omega (arith, out)

working-alike : (tells : Bool) (v : TreeView) (s : Stock) → HoldsAlike tells v s → IsToldTree v.numbers v →
    StaysOn v.numbers (version_at (bytes_on v.held) v.working) (bytes_on v.held) (bytes_on s.held)
working-alike tells v s alike told = λ q used.
    let once = told.sound.working_once q in
    alike-bytes tells v s q alike (omega (arith, once, used))

alike-slot : (tells : Bool) (v : TreeView) (s : Stock) → HoldsAlike tells v s → IsToldTree v.numbers v →
    tree_slot (alike_view v s) ≡ tree_slot v
alike-slot tells v s alike told =
    ap (λ (c : Version). record { committed = c; working = version_at (bytes_on s.held) v.working; spare = v.spare })
    (version-stays v.numbers (bytes_on v.held) (bytes_on s.held) v.committed (committed-alike tells v s alike told))
    ∙ ap (λ (w : Version). record { committed = (tree_slot v).committed; working = w; spare = v.spare })
    (version-stays v.numbers (bytes_on v.held) (bytes_on s.held) v.working (working-alike tells v s alike told))

alike-contents : (tells : Bool) (v : TreeView) (s : Stock) → HoldsAlike tells v s → IsToldTree v.numbers v →
    tree_contents (alike_view v s) ≡ tree_contents v
alike-contents tells v s alike told =
    ap (λ (slot : ObjectSlot). record {
      slot = slot;
      committed = plain_at (bytes_on s.held) v.numbers.page v.committed;
      working = plain_at (bytes_on s.held) v.numbers.page v.working;
    }) (alike-slot tells v s alike told)
    ∙ (ap (λ (c : Plain). record { slot = tree_slot v; committed = c; working = plain_at (bytes_on s.held) v.numbers.page v.working })
    (plain-stays v.numbers (bytes_on v.held) (bytes_on s.held) v.committed (committed-alike tells v s alike told))
    ∙ ap (λ (w : Plain). record { slot = tree_slot v; committed = (tree_contents v).committed; working = w })
    (plain-stays v.numbers (bytes_on v.held) (bytes_on s.held) v.working (working-alike tells v s alike told)))

-- it has the form that it had
alike-form : (tells : Bool) (v : TreeView) (s : Stock) → HoldsAlike tells v s → tree_form (alike_view v s) ≡ tree_form v
alike-form tells v s alike =
    ap (λ (rests : Bool). record {
      numbers = v.numbers;
      committed = entry_length v.committed;
      working = entry_length v.working;
      is_resting = rests;
    })
    (ap (λ (k : ℕ). same_entry v.working v.committed && (is_none v.spare && (nat_eq k 0 && nat_eq s.locked.size 0))) alike.fresh_size
    ∙ ap (λ (k : ℕ). same_entry v.working v.committed && (is_none v.spare && (nat_eq v.fresh.size 0 && nat_eq k 0))) alike.locked_size)

pub alike-keeps : (tells : Bool) (v : TreeView) (s : Stock) → HoldsAlike tells v s → KeepsTreeBody tells v →
    KeepsTreeBody tells (alike_view v s)
alike-keeps tells v s alike kept = record {
  on_data = λ q there. kept.on_data q (sym (alike.had q) ∙ there);
  sized = alike.right.sized;
  nodes = alike.right.nodes;
  fresh = alike-marked tells v s (in_set v.fresh) (in_set s.fresh) alike alike.fresh kept.fresh;
  locked = alike-marked tells v s (in_set v.locked) (in_set s.locked) alike alike.locked kept.locked;
  spare = alike-marked tells v s (in_spare v.spare) (in_spare v.spare) alike (λ q. refl) kept.spare;
  spare_some = kept.spare_some;
  spare_there = kept.spare_there;
  spare_fresh = λ q there. alike.fresh q ∙ kept.spare_fresh q there;
  apart = λ q there. alike.locked q ∙ kept.apart q (sym (alike.fresh q) ∙ there);
  committed_threshold = kept.committed_threshold;
  working_threshold = kept.working_threshold;
  told = λ tell.
      let told = kept.told tell in
      let same = sym (alike-slot tells v s alike told) in
      record {
        committed = stands-stay v.numbers (bytes_on v.held) (bytes_on s.held) v.committed
            (committed-alike tells v s alike told) told.committed;
        working = stands-stay v.numbers (bytes_on v.held) (bytes_on s.held) v.working
            (working-alike tells v s alike told) told.working;
        sound = subst (IsSoundSlot IsGood v.numbers) same told.sound;
        tail = subst (λ (x : ObjectSlot). IsTail v.numbers x.working v.spare) same told.tail;
        just = λ q. alike.had q ∙ (told.just q ∙ ap (λ (x : ObjectSlot). nat_lt 0 (either_uses v.numbers q x)) same);
        fresh = λ q. alike.fresh q ∙ (told.fresh q ∙ ap (λ (x : ObjectSlot). is_fresh v.numbers q x) same);
        locked = λ q. alike.locked q ∙ (told.locked q ∙ ap (λ (x : ObjectSlot). locks v.numbers q x) same);
      };
}

-- what else is known of a refused edit
pub record IsRefusedEdit (tells : Bool) (v : TreeView) (start : ℕ) (edit : Edit) (fail : EditFail) (rest last : Rest)
    (trace after : Option (List SpaceEvent)) (used now : Meter) : Type 0 where
  pub frame : KeepsFrame rest last
  pub low : Part (IsExplained (count rest) (Err fail)) trace after
  pub port : IsUsed used now
  pub cause : HasCause used.faults now.faults (fail ≡ Fault)
  pub memory : fail ≡ Memory → EditMayTakeMemory edit
  pub granted : IsTrue tells → (views : List SpaceView) → AreTold rest views → length views ≡ count rest →
      IsEditAnswer (edited_slot v.numbers start (free_sets views) (tree_slot v) edit) (tree_slot v) (Err fail)
  pub spaces : (views : List SpaceView) → AreTold rest views → AreHome rest.frame views → IsUntouched v.numbers rest.frame views last
  pub small : IsTrue tells → IsSmall (TreeMayRefuse v.numbers (tree_slot v)) (Err fail)
  pub writes : IsTrue tells → WritesWithin (TreeMayWrite v.numbers (tree_slot v) edit (tree_slot v)) used now

fail-inner : (a b : EditFail) → ◌≡◌ {A = Result Outcome EditFail} (Err a) (Err b) → a ≡ b
fail-inner a b same = cc

pub refused-edit : (tells : Bool) (v : TreeView) (s : Stock) (start : ℕ) (edit : Edit) (fail : EditFail) (rest : Rest)
    (trace : Option (List SpaceEvent)) (used now : Meter) → 0 < v.numbers.page → HoldsAlike tells v s → KeepsTreeBody tells v →
    IsRefusedEdit tells v start edit fail rest s.rest trace s.trace used now →
    IsEdit tells HaveLengths edited_slot TreeMayRefuse TreeMayWrite start edit (Err fail) (tree_stage v rest trace)
    (tree_stage (alike_view v s) s.rest s.trace) used now
refused-edit tells v s start edit fail rest trace used now some alike kept refused = record {
  outcome = tt;
  form = tt;
  unmade = alike-form tells v s alike;
  rest = refused.frame;
  low = refused.low;
  port = refused.port;
  cause = record {
    kept = refused.cause.kept;
    raised = λ bad. refused.cause.raised (fail-inner fail Fault bad);
    still = λ well. refused.cause.still (λ same. well (ap (λ (f : EditFail). Err f) same));
  };
  memory = λ wanted. refused.memory (fail-inner fail Memory wanted);
  told = λ tell.
      let same = alike-contents tells v s alike (kept.told tell) in
      let slot = alike-slot tells v s alike (kept.told tell) in
      record {
        working = tt;
        committed = ap (λ (c : Contents). c.committed) same;
        kept = ap (λ (c : Contents). c.slot.committed) same;
        unmade = same;
        granted = λ views told long. subst (λ (x : ObjectSlot).
            IsEditAnswer (edited_slot v.numbers start (free_sets views) (tree_slot v) edit) x (Err fail)) (sym slot)
            (refused.granted tell views told long);
        spaces = λ views told home. refused.spaces views told home;
        small = refused.small tell;
        writes = subst (λ (x : ObjectSlot). WritesWithin (TreeMayWrite v.numbers (tree_slot v) edit x) used now) (sym slot)
            (refused.writes tell);
      };
  tied = tree-tied tells (alike_view v s) some (alike-keeps tells v s alike kept);
}
