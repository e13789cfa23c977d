-- An edit that leaves an object as it is: one that isn't made, and one that removes and brings nothing.
use Rattle.std.proofs.Common.{◌≡◌, ℕ, ◌+◌, ◌-◌, ◌<◌, Bool, true, false, IsTrue, List, [], ◌++◌, length, take, drop, Option, Some, None, Ok}
use Rattle.std.proofs.Common.{Err, refl, sym, ap, subst, arith, ◌∙◌, nat_eq, nat_le, take-append-drop}
use Rattle.std.specs.Prelude.{if◌then◌else◌}
use Rattle.std.proofs.lemmas.Bool.{false≢true}
use Rattle.std.proofs.lemmas.List.{append-nil}
use Rattle.eos_ops.specs.declared.edit.Edit.{Edit}
use Rattle.eos_ops.specs.declared.edit.Edit.TheVariants.{Create, Destroy, Append, Insert, Delete, Replace}
use Rattle.eos_ops.specs.declared.outcome.Outcome.{Outcome}
use Rattle.eos_ops.specs.declared.outcome.Outcome.TheVariants.{Done, Range}
use Rattle.eos_ops.specs.declared.plain.Plain.{Plain}
use Rattle.eos_ops.specs.declared.plain.Plain.TheVariants.{Absent, Present}
use Rattle.eos_ops.specs.Edits.{edited}
use Rattle.eos_ops.specs.Splice.{inserted, deleted, replaced}
use Rattle.geometry_model.specs.Numbers.{Numbers}
use Rattle.layout_model.specs.declared.change.Change.{Change}
use Rattle.layout_model.specs.Grants.{Spaces}
use Rattle.layout_model.specs.Layout.{Tree}
use Rattle.moment_model.specs.Edit.{Effect, Refuses, Stays, Becomes, Changes, accepts, after_effect, change_at, change_within}
use Rattle.moment_model.specs.Edit.{edited_length}
use Rattle.moment_model.specs.Edit.{edited_slot, effect_on, is_effective}
use Rattle.moment_model.specs.Moment.{ObjectSlot}
use Rattle.moment_model.specs.Version.{Version, tree_bytes, version_bytes}
use Rattle.effect_laws.proofs.EffectLemmas.{effect-accepted}
use Rattle.superdirectory.specs.Rest.{count}
use Rattle.superdirectory.proofs.Traces.{part_none}
use Rattle.span_store.specs.Held.{bytes_on}
use Rattle.tree_pages.specs.Entry.{Entry, Present as PresentEntry}
use Rattle.tree_pages.specs.Levels.{levels_at, plain_at, version_at}
use Rattle.tree_model.specs.Content.{content}
use Rattle.superdirectory.specs.Grants.{free_sets}
use Rattle.object_body.specs.Stored.{entry_length}
use Rattle.object_state.specs.Reads.{tree_at}
use Rattle.object_body.specs.declared.fails.EditFail.TheVariants.{Fault}
use Rattle.object_body.specs.Calls.{IsExplained, slot_in}
use Rattle.object_body.specs.Lengths.{length_of, outcome_of}
use Rattle.object_body.proofs.CallLemmas.{cause-none, keeps-frame, used-not}
use Rattle.object_body.proofs.MoveLemmas.{same-moves}
use Rattle.object_state.specs.Edits.{MakesTreeEdit}
use Rattle.object_state.specs.Idle.{IsIdle}
use Rattle.object_state.specs.Keeps.{KeepsTreeBody}
use Rattle.object_state.specs.Tree.{TreeView, tree_form, tree_slot, tree_contents}
use Rattle.object_state.proofs.CreateLemmas.{never-fault, writes-none}
use Rattle.object_state.proofs.TiedLemmas.{tree-tied}

-- what is known of an edit that leaves an object as it is
pub record LeavesAll (tells : Bool) (v : TreeView) (edit : Edit) (outcome : Outcome) : Type 0 where
  pub answer : outcome ≡ outcome_of edit (tree_form v).working
  pub long : edited_length edit (tree_form v).working ≡ (tree_form v).working
  pub bytes : IsTrue tells → edited edit (tree_contents v).working ≡ (tree_contents v).working
  pub slot : IsTrue tells → (start : ℕ) (free : Spaces) →
      slot_in (edited_slot v.numbers start free (tree_slot v) edit) ≡ Some (tree_slot v)

pub edit-stays : (tells : Bool) (v : TreeView) (edit : Edit) (outcome : Outcome) → 0 < v.numbers.page → KeepsTreeBody tells v →
    LeavesAll tells v edit outcome → MakesTreeEdit tells edit outcome v v
edit-stays tells v edit outcome some kept stays = λ rest trace none start meter. record {
  outcome = stays.answer;
  form = record { numbers = refl; committed = refl; working = sym stays.long };
  unmade = λ differ. refl;
  rest = keeps-frame rest none;
  low = part_none (IsExplained (count rest) (Ok outcome)) trace tt;
  port = used-not meter;
  cause = cause-none meter.faults (Ok outcome ≡ Err Fault) (never-fault outcome);
  memory = λ wanted. absurd cc;
  told = λ tell. record {
    working = sym (stays.bytes tell);
    committed = refl;
    kept = refl;
    unmade = λ differ. refl;
    granted = λ views told long. stays.slot tell start (free_sets views);
    spaces = λ views told home. same-moves v.numbers rest.frame views (tree_slot v) rest told home;
    small = tt;
    writes = record { pages = 0; allowed = writes-none v.numbers (tree_slot v) (tree_slot v) edit; most = omega arith };
  };
  tied = tree-tied tells v some kept;
}

-- ---- an edit that isn't made

if-not : (test : Bool) (len : ℕ) → ((if test then Done else Range len) ≡ Done → ⊥) → test ≡ false
if-not true len never = absurd (never refl)
if-not false len never = refl

unmade-length : (edit : Edit) (len : Option ℕ) → (outcome_of edit len ≡ Done → ⊥) → edited_length edit len ≡ len
unmade-length (Create t) None never = absurd (never refl)
unmade-length Destroy None never = refl
unmade-length (Append p) None never = refl
unmade-length (Insert at p) None never = refl
unmade-length (Delete at n) None never = refl
unmade-length (Replace at p) None never = refl
unmade-length (Create t) (Some len) never = refl
unmade-length Destroy (Some len) never = absurd (never refl)
unmade-length (Append p) (Some len) never = absurd (never refl)
unmade-length (Insert at p) (Some len) never = ap (λ b. Some (if b then len + length p else len)) (if-not (nat_le at len) len never)
unmade-length (Delete at n) (Some len) never = ap (λ b. Some (if b then len - n else len)) (if-not (nat_le (at + n) len) len never)
unmade-length (Replace at p) (Some len) never = refl

unmade-bytes : (edit : Edit) (x : Plain) → (outcome_of edit (length_of x) ≡ Done → ⊥) → edited edit x ≡ x
unmade-bytes (Create t) Absent never = absurd (never refl)
unmade-bytes Destroy Absent never = refl
unmade-bytes (Append p) Absent never = refl
unmade-bytes (Insert at p) Absent never = refl
unmade-bytes (Delete at n) Absent never = refl
unmade-bytes (Replace at p) Absent never = refl
unmade-bytes (Create t) (Present x) never = refl
unmade-bytes Destroy (Present x) never = absurd (never refl)
unmade-bytes (Append p) (Present x) never = absurd (never refl)
unmade-bytes (Insert at p) (Present x) never =
    ap (λ b. Present (if b then inserted x at p else x)) (if-not (nat_le at (length x)) (length x) never)
unmade-bytes (Delete at n) (Present x) never =
    ap (λ b. Present (if b then deleted x at n else x)) (if-not (nat_le (at + n) (length x)) (length x) never)
unmade-bytes (Replace at p) (Present x) never =
    ap (λ b. Present (if b then replaced x at p else x)) (if-not (nat_le (at + length p) (length x)) (length x) never)

-- what the length accepts is done
accepts-done : (edit : Edit) (len : Option ℕ) → accepts len edit ≡ true → outcome_of edit len ≡ Done
accepts-done (Create t) None well = refl
accepts-done Destroy None well = absurd (false≢true well)
accepts-done (Append p) None well = absurd (false≢true well)
accepts-done (Insert at p) None well = absurd (false≢true well)
accepts-done (Delete at n) None well = absurd (false≢true well)
accepts-done (Replace at p) None well = absurd (false≢true well)
accepts-done (Create t) (Some len) well = absurd (false≢true well)
accepts-done Destroy (Some len) well = refl
accepts-done (Append p) (Some len) well = refl
accepts-done (Insert at p) (Some len) well = ap (λ b. if b then Done else Range len) well
accepts-done (Delete at n) (Some len) well = ap (λ b. if b then Done else Range len) well
accepts-done (Replace at p) (Some len) well = ap (λ b. if b then Done else Range len) well

not-effective : (effect : Effect) → is_effective effect ≡ false → effect ≡ Refuses
not-effective Refuses out = refl
not-effective Stays out = absurd (false≢true (sym out))
not-effective (Becomes version) out = absurd (false≢true (sym out))
not-effective (Changes tree change) out = absurd (false≢true (sym out))

not-accepted : (edit : Edit) (len : Option ℕ) (b : Bool) → accepts len edit ≡ b → (outcome_of edit len ≡ Done → ⊥) → b ≡ false
not-accepted edit len true is never = absurd (never (accepts-done edit len is))
not-accepted edit len false is never = refl

unmade-slot : (n : Numbers) (edit : Edit) (slot : ObjectSlot) (start : ℕ) (free : Spaces) →
    (outcome_of edit (version_bytes slot.working) ≡ Done → ⊥) → slot_in (edited_slot n start free slot edit) ≡ Some slot
unfolding edited_slot
unmade-slot n edit slot start free never =
    let out = not-accepted edit (version_bytes slot.working) (accepts (version_bytes slot.working) edit) refl never in
    let refused = not-effective (effect_on n edit slot.working) (effect-accepted n edit slot.working ∙ out) in
    ap (λ (e : Effect). slot_in (after_effect n start free slot e)) refused

pub unmade-stays : (tells : Bool) (v : TreeView) (edit : Edit) (outcome : Outcome) → 0 < v.numbers.page → KeepsTreeBody tells v →
    outcome ≡ outcome_of edit (tree_form v).working → (outcome ≡ Done → ⊥) → MakesTreeEdit tells edit outcome v v
unmade-stays tells v edit outcome some kept is never =
    let out = λ (done : outcome_of edit (tree_form v).working ≡ Done). never (is ∙ done) in
    edit-stays tells v edit outcome some kept (record {
      answer = is;
      long = unmade-length edit (tree_form v).working out;
      bytes = λ tell.
          let tied = tree-tied tells v some kept tell in
          unmade-bytes edit (tree_contents v).working (λ done. out (ap (outcome_of edit) tied.working ∙ done));
      slot = λ tell start free.
          let tied = tree-tied tells v some kept tell in
          unmade-slot v.numbers edit (tree_slot v) start free
          (λ done. out (ap (outcome_of edit) (tied.working ∙ sym tied.kind.working) ∙ done));
    })

-- ---- an edit that removes and brings nothing

idle-length : (edit : Edit) (len : ℕ) → IsIdle edit → edited_length edit (Some len) ≡ Some len
idle-length (Create t) len idle = absurd idle
idle-length Destroy len idle = absurd idle
idle-length (Append p) len idle = let none : len + length p ≡ len = ap (λ k. len + length k) idle ∙ omega arith in ap Some none
idle-length (Insert at p) len idle = ap Some (either (nat_le at len) (ap (λ k. len + length k) idle ∙ omega arith))
  where
    either : (b : Bool) → len + length p ≡ len → (if b then len + length p else len) ≡ len
    either true none = none
    either false none = refl
idle-length (Delete at n) len idle = ap Some (either (nat_le (at + n) len) (omega (arith, idle)))
  where
    either : (b : Bool) → len - n ≡ len → (if b then len - n else len) ≡ len
    either true none = none
    either false none = refl
idle-length (Replace at p) len idle = refl

idle-bytes : (edit : Edit) (x : List ℕ) → IsIdle edit → edited edit (Present x) ≡ Present x
idle-bytes (Create t) x idle = absurd idle
idle-bytes Destroy x idle = absurd idle
idle-bytes (Append p) x idle = ap Present (ap (λ q. x ++ q) idle ∙ append-nil x)
idle-bytes (Insert at p) x idle = ap Present (either (nat_le at (length x))
    (ap (λ q. inserted x at q) idle ∙ (ap (λ y. y ++ drop at x) (append-nil (take at x)) ∙ take-append-drop at x)))
  where
    either : (b : Bool) → inserted x at p ≡ x → (if b then inserted x at p else x) ≡ x
    either true same = same
    either false same = refl
idle-bytes (Delete at n) x idle =
    let end : at + n ≡ at = omega (arith, idle) in
    ap Present (either (nat_le (at + n) (length x)) (ap (λ k. take at x ++ drop k x) end ∙ take-append-drop at x))
  where
    either : (b : Bool) → deleted x at n ≡ x → (if b then deleted x at n else x) ≡ x
    either true same = same
    either false same = refl
idle-bytes (Replace at p) x idle =
    let end : at + length {A = ℕ} [] ≡ at = omega arith in
    ap Present (either (nat_le (at + length p) (length x)) (ap (λ q. replaced x at q) idle
    ∙ (ap (λ y. y ++ drop (at + length {A = ℕ} []) x) (append-nil (take at x))
    ∙ (ap (λ k. take at x ++ drop k x) end ∙ take-append-drop at x))))
  where
    either : (b : Bool) → replaced x at p ≡ x → (if b then replaced x at p else x) ≡ x
    either true same = same
    either false same = refl

-- such a change moves nothing, or is refused
idle-effect : (n : Numbers) (start : ℕ) (free : Spaces) (slot : ObjectSlot) (tree : Tree) (change : Change) →
    change.removed + change.added ≡ 0 → slot_in (after_effect n start free slot (change_within tree change)) ≡ Some slot
idle-effect n start free slot tree change none =
    go (nat_le (change.at + change.removed) (tree_bytes tree)) (nat_eq (change.removed + change.added) 0)
    (ap (λ k. nat_eq k 0) none)
  where
    go : (within zero : Bool) → zero ≡ true →
        slot_in (after_effect n start free slot (if within then (if zero then Stays else Changes tree change) else Refuses)) ≡ Some slot
    go true true is = refl
    go true false is = absurd (false≢true is)
    go false zero is = refl

idle-slot : (n : Numbers) (edit : Edit) (slot : ObjectSlot) (start : ℕ) (free : Spaces) (tree : Tree) → slot.working ≡ Some tree →
    IsIdle edit → slot_in (edited_slot n start free slot edit) ≡ Some slot
unfolding edited_slot
idle-slot n (Create t) slot start free tree there idle = absurd idle
idle-slot n Destroy slot start free tree there idle = absurd idle
idle-slot n (Append p) slot start free tree there idle =
    ap (λ (w : Version). slot_in (after_effect n start free slot (effect_on n (Append p) w))) there
    ∙ idle-effect n start free slot tree (change_at (tree_bytes tree) 0 (length p) true) (ap (λ q. 0 + length q) idle)
idle-slot n (Insert at p) slot start free tree there idle =
    ap (λ (w : Version). slot_in (after_effect n start free slot (effect_on n (Insert at p) w))) there
    ∙ idle-effect n start free slot tree (change_at at 0 (length p) false) (ap (λ q. 0 + length q) idle)
idle-slot n (Delete at count) slot start free tree there idle =
    ap (λ (w : Version). slot_in (after_effect n start free slot (effect_on n (Delete at count) w))) there
    ∙ idle-effect n start free slot tree (change_at at count 0 false) (omega (arith, idle))
idle-slot n (Replace at p) slot start free tree there idle =
    ap (λ (w : Version). slot_in (after_effect n start free slot (effect_on n (Replace at p) w))) there
    ∙ idle-effect n start free slot tree (change_at at (length p) (length p) false) (ap (λ q. length q + length q) idle)

idle-stays : (tells : Bool) (v : TreeView) (edit : Edit) (present : PresentEntry) → 0 < v.numbers.page → KeepsTreeBody tells v →
    v.working ≡ Some present → IsIdle edit → outcome_of edit (tree_form v).working ≡ Done → MakesTreeEdit tells edit Done v v
idle-stays tells v edit present some kept there idle done =
    edit-stays tells v edit Done some kept (record {
      answer = sym done;
      long = subst (λ (e : Entry). edited_length edit (entry_length e) ≡ entry_length e) (sym there)
          (idle-length edit present.root.length idle);
      bytes = λ tell. subst (λ (e : Entry). edited edit (plain_at (bytes_on v.held) v.numbers.page e)
          ≡ plain_at (bytes_on v.held) v.numbers.page e)
          (sym there) (idle-bytes edit (content (bytes_on v.held) v.numbers.page (tree_at v.held present.root)) idle);
      slot = λ tell start free. idle-slot v.numbers edit (tree_slot v) start free
          (record { levels = levels_at (bytes_on v.held) present.root; threshold = present.threshold })
          (ap (version_at (bytes_on v.held)) there) idle;
    })

never-absent : (edit : Edit) → IsIdle edit → outcome_of edit None ≡ Done → ⊥
never-absent (Create t) idle done = idle
never-absent Destroy idle done = idle
never-absent (Append p) idle done = absurd cc
never-absent (Insert at p) idle done = absurd cc
never-absent (Delete at n) idle done = absurd cc
never-absent (Replace at p) idle done = absurd cc

-- an edit that is done is one of an object that is there
pub idle-done : (tells : Bool) (v : TreeView) (edit : Edit) → 0 < v.numbers.page → KeepsTreeBody tells v → IsIdle edit →
    outcome_of edit (tree_form v).working ≡ Done → MakesTreeEdit tells edit Done v v
idle-done tells v edit some kept idle done = go v.working refl
  where
    go : (entry : Entry) → v.working ≡ entry → MakesTreeEdit tells edit Done v v
    go (Some present) there = idle-stays tells v edit present some kept there idle done
    go None there = absurd (never-absent edit idle (sym (ap (λ (e : Entry). outcome_of edit (entry_length e)) there) ∙ done))
