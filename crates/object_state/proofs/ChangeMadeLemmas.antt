-- An edit of bytes that was made as a planned change: what is known of it once the new version stands beside the old one.
use Rattle.std.proofs.Common.{◌≡◌, ℕ, ◌+◌, ◌-◌, ◌<◌, ◌≤◌, Bool, true, false, IsTrue, List, [], ◌∷◌, length, map, take, drop, Some, Ok}
use Rattle.std.proofs.Common.{Err, refl, sym, ap, subst, arith, ◌∙◌, nat_eq, ◌&&◌, if◌then◌else◌, sum_by}
use Rattle.std.specs.Prelude.{◌++◌, unwrap_or, Result}
use Rattle.std.specs.List.{AllByRecursion}
use Rattle.std.proofs.lemmas.Bool.{le-leb, ne_eqb}
use Rattle.std.proofs.lemmas.List.{drop-map, take-map}
use Rattle.std.proofs.lemmas.List.Concat.{flat_map-cons}
use Rattle.std.proofs.lemmas.List.Sums.{sum_by-cons}
use Rattle.std.proofs.Math.Seq.{drop-append_seam, take-append_seam}
use Rattle.base_laws.proofs.OptionLaws.{some-inner}
use Rattle.eos_ops.specs.declared.edit.Edit.{Edit}
use Rattle.eos_ops.specs.declared.edit.Edit.TheVariants.{Create, Destroy, Append, Insert, Delete, Replace}
use Rattle.eos_ops.specs.declared.plain.Plain.TheVariants as plain
use Rattle.eos_ops.specs.Edits.{edited}
use Rattle.fault_count.specs.Counts.{Meter}
use Rattle.fault_count.proofs.CountLaws.{IsUsed-then}
use Rattle.geometry_model.specs.Numbers.{Numbers, IsInRange, space_pages}
use Rattle.geometry_model.proofs.NumberLaws.{page-some}
use Rattle.tree_model.specs.Content.{content}
use Rattle.tree_model.specs.Tree.{Pages, page_count}
use Rattle.layout_model.specs.declared.change.Change.{Change}
use Rattle.layout_model.specs.declared.extent.Extent.{Extent}
use Rattle.layout_model.specs.declared.fit.Fit.{Fit}
use Rattle.layout_model.specs.declared.fit.Fit.TheVariants.{Extend}
use Rattle.layout_model.specs.declared.request.Request.{Request}
use Rattle.layout_model.specs.Grants.{Answer, Got, Spaces}
use Rattle.layout_model.specs.Layout.{Grants, Laid, Tree, granted, laid, laid_levels, plan_of}
use Rattle.layout_model.specs.Levels.{count_made}
use Rattle.layout_model.specs.Plan.{made_part_bytes}
use Rattle.moment_model.specs.Costs.{added_most, cost}
use Rattle.moment_model.specs.Edit.{Changes, Effect, Refuses, Stays, after_effect, change_at, change_within, edited_length, edited_slot}
use Rattle.moment_model.specs.Edit.{effect_on, on_grants, with_working}
use Rattle.moment_model.specs.Moment.{ObjectSlot}
use Rattle.moment_model.specs.Version.{Version, tree_bytes, uses}
use Rattle.moment_laws.specs.Granting.{runs_of_parts}
use Rattle.change_laws.specs.Suiting.{SuitPlan}
use Rattle.edit_content_laws.specs.Brought.{brought}
use Rattle.edit_content_laws.proofs.EditContentLemmas.{edited-bytes}
use Rattle.cost_laws.specs.ChangeCost.{brought_pages}
use Rattle.cost_laws.proofs.CheapLemmas.{suited-few}
use Rattle.cost_laws.proofs.RunCostLemmas.{added}
use Rattle.tree_pages.specs.Entry.{Entry}
use Rattle.tree_pages.specs.Levels.{plain_at, version_at}
use Rattle.tree_pages.specs.Stored.{StaysOn}
use Rattle.tree_pages.proofs.TreeLemmas.{plain-stays, version-stays}
use Rattle.page_set.specs.Words.{PageSetView}
use Rattle.span_store.specs.Held.{Held, bytes_on}
use Rattle.span_store.specs.Calls.{KeepsPages}
use Rattle.page_cache.specs.Kept.{KeptNodes}
use Rattle.edit_parts.specs.declared.part.Part.{Part}
use Rattle.edit_parts.specs.declared.part.Part.TheVariants.{Keep, Make}
use Rattle.edit_parts.specs.Parts.{layout_part}
use Rattle.edit_parts.specs.Pieces.{pieces_bytes}
use Rattle.part_bytes.specs.Parts.{parts_pages}
use Rattle.part_store.specs.Asking.{AreOfAll, IsAskable, rows}
use Rattle.space_directory.specs.SpaceView.{SpaceView}
use Rattle.superdirectory.specs.Grants.{free_sets}
use Rattle.superdirectory.specs.Rest.{Frame, Rest, count}
use Rattle.superdirectory.proofs.Traces.{part_as}
use Rattle.object_body.specs.declared.fails.EditFail.{EditFail}
use Rattle.object_body.specs.declared.fails.EditFail.TheVariants.{Fault}
use Rattle.object_body.specs.Calls.{WritesWithin, slot_in}
use Rattle.object_body.specs.Memory.{EditMayTakeMemory}
use Rattle.object_body.specs.Places.{is_free_place}
use Rattle.written_laws.proofs.AskedLemmas.{asked-suits}
use Rattle.object_plan.specs.declared.planned.Planned.{Planned}
use Rattle.object_plan.specs.declared.working_tree.WorkingTree.{WorkingTree}
use Rattle.object_plan.specs.Planned.{CanMake, IsPlanOf}
use Rattle.object_plan.specs.WorkingTree.{CanChange, entries_on, tree_on}
use Rattle.held_parts.specs.Spaces.{AreTakenOut, IsLowFor}
use Rattle.object_change.specs.declared.changed.Changed.{Changed}
use Rattle.object_change.specs.Calls.{MakesChange, WritesChange}
use Rattle.object_change.specs.Changed.{granted_in, grants_in, laid_after, working_after}
use Rattle.object_change.specs.Scene.{Scene, filled_pages}
use Rattle.object_change.proofs.TellLemmas.{requests-askable}
use Rattle.object_state.specs.Tree.{tree_contents, tree_slot}
use Rattle.object_state.specs.Keeps.{KeepsTreeBody}
use Rattle.object_state.specs.Kind.{TreeMayWrite}
use Rattle.object_state.specs.Beside.{AreTaken, slot_beside}
use Rattle.object_state.specs.Changes.{ChangesBytes, IsByteEdit, PlansEdit, change_of, entry_on, view_on}
use Rattle.object_state.specs.Changing.{made_by}
use Rattle.object_state.specs.Drops.{Stock}
use Rattle.object_state.specs.Made.{IsMade}
use Rattle.object_state.proofs.EndTables.{not-none, some-count}
use Rattle.object_state.proofs.TiedLemmas.{tree-tied}

-- ---- the edit as a change

within-change : (tree : Tree) (change : Change) → change.at + change.removed ≤ tree_bytes tree → 0 < change.removed + change.added →
    change_within tree change ≡ Changes tree change
within-change tree change within some =
    ap (λ b. if b then (if nat_eq (change.removed + change.added) 0 then Stays else Changes tree change) else Refuses)
    (le-leb (change.at + change.removed) (tree_bytes tree) within)
    ∙ ap (λ b. if b then Stays else Changes tree change)
    (ne_eqb (change.removed + change.added) 0 (λ none. absurd (omega (arith, some, none))))

-- an edit of bytes changes each tree of so many bytes
edit-changes : (n : Numbers) (edit : Edit) (size : ℕ) (tree : Tree) → ChangesBytes edit → tree_bytes tree ≡ size →
    (change_of edit size).at + (change_of edit size).removed ≤ size → 0 < (change_of edit size).removed + (change_of edit size).added →
    effect_on n edit (Some tree) ≡ Changes tree (change_of edit size)
edit-changes n (Create threshold) size tree bytes same within some = absurd bytes
edit-changes n Destroy size tree bytes same within some = absurd bytes
edit-changes n (Append bytes) size tree is same within some =
    ap (λ (k : ℕ). change_within tree (change_at k 0 (length bytes) true)) same
    ∙ within-change tree (change_at size 0 (length bytes) true) (omega (arith, same)) some
edit-changes n (Insert at bytes) size tree is same within some =
    within-change tree (change_at at 0 (length bytes) false) (omega (arith, same, within)) some
edit-changes n (Delete at count) size tree is same within some =
    within-change tree (change_at at count 0 false) (omega (arith, same, within)) some
edit-changes n (Replace at bytes) size tree is same within some =
    within-change tree (change_at at (length bytes) (length bytes) false) (omega (arith, same, within)) some

-- the object is longer by what the change brings, and shorter by what it removes
edit-length : (edit : Edit) (size now : ℕ) → ChangesBytes edit → (change_of edit size).at + (change_of edit size).removed ≤ size →
    now + (change_of edit size).removed ≡ size + (change_of edit size).added → edited_length edit (Some size) ≡ Some now
edit-length (Create threshold) size now bytes within total = absurd bytes
edit-length Destroy size now bytes within total = absurd bytes
edit-length (Append bytes) size now is within total =
    let long : size + length bytes ≡ now = omega (arith, total) in
    ap Some long
edit-length (Insert at bytes) size now is within total =
    let long : size + length bytes ≡ now = omega (arith, total) in
    ap (λ b. Some (if b then size + length bytes else size)) (le-leb at size (omega (arith, within))) ∙ ap Some long
edit-length (Delete at count) size now is within total =
    let long : size - count ≡ now = omega (arith, total) in
    ap (λ b. Some (if b then size - count else size)) (le-leb (at + count) size within) ∙ ap Some long
edit-length (Replace at bytes) size now is within total =
    let long : size ≡ now = omega (arith, total) in
    ap Some long

pub edit-brings : (edit : Edit) (size : ℕ) → ChangesBytes edit → length (brought edit) ≡ (change_of edit size).added
edit-brings (Create threshold) size bytes = absurd bytes
edit-brings Destroy size bytes = absurd bytes
edit-brings (Append bytes) size is = refl
edit-brings (Insert at bytes) size is = refl
edit-brings (Delete at count) size is = refl
edit-brings (Replace at bytes) size is = refl

pub edit-memory : (edit : Edit) → ChangesBytes edit → EditMayTakeMemory edit
edit-memory (Create threshold) bytes = absurd bytes
edit-memory Destroy bytes = absurd bytes
edit-memory (Append bytes) is = tt
edit-memory (Insert at bytes) is = tt
edit-memory (Delete at count) is = tt
edit-memory (Replace at bytes) is = tt

-- ---- an edit of bytes that was planned

-- An edit of bytes was planned: `before` is what the object holds then, and it kept to its rules with what it had before.
pub record HasPlanned (tells : Bool) (n : Numbers) (committed : Entry) (w : WorkingTree) (p : Planned) (edit : Edit) (cache : KeptNodes)
    (was unlocked : PageSetView) (used : Meter) (before : Scene) : Type 0 where
  pub range : IsInRange n
  pub kept : KeepsTreeBody tells (view_on n committed w before.held cache was unlocked)
  pub bytes : IsByteEdit edit w.root.length
  pub plans : PlansEdit tells n w edit before.held before.nodes (Ok p) used before.meter

-- the tree has as many bytes as the root counts, and so many stand on the pages
record HasSize (n : Numbers) (at : Pages) (w : WorkingTree) : Type 0 where
  pub tree : tree_bytes (tree_on at w) ≡ w.root.length
  pub bytes : length (content at n.page (entries_on at w)) ≡ tree_bytes (tree_on at w)

has-size : (tells : Bool) (n : Numbers) (committed : Entry) (w : WorkingTree) (p : Planned) (edit : Edit) (cache : KeptNodes)
    (was unlocked : PageSetView) (used : Meter) (before : Scene) →
    HasPlanned tells n committed w p edit cache was unlocked used before → IsTrue tells → HasSize n (bytes_on before.held) w
has-size tells n committed w p edit cache was unlocked used before planned tell =
    let v = view_on n committed w before.held cache was unlocked in
    let at = bytes_on before.held in
    let tied = tree-tied tells v (page-some n planned.range) planned.kept tell in
    let long : ℕ = length (content at n.page (entries_on at w)) in
    let counted = some-inner w.root.length long tied.working in
    let laid_out = some-inner (tree_bytes (tree_on at w)) long tied.kind.working in
    record { tree = laid_out ∙ sym counted; bytes = sym laid_out }

-- the change is the edit's, and lies within the tree
pub planned-changes : (tells : Bool) (n : Numbers) (committed : Entry) (w : WorkingTree) (p : Planned) (edit : Edit) (cache : KeptNodes)
    (was unlocked : PageSetView) (used : Meter) (before : Scene) →
    HasPlanned tells n committed w p edit cache was unlocked used before → IsTrue tells →
    effect_on n edit (Some (tree_on (bytes_on before.held) w)) ≡ Changes (tree_on (bytes_on before.held) w) p.change
planned-changes tells n committed w p edit cache was unlocked used before planned tell =
    let tree = tree_on (bytes_on before.held) w in
    let size = has-size tells n committed w p edit cache was unlocked used before planned tell in
    let can = subst (CanChange n w) planned.plans.change planned.plans.can in
    edit-changes n edit w.root.length tree planned.bytes.bytes size.tree can.within can.some
    ∙ ap (Changes tree) (sym planned.plans.change)

planned-length : (tells : Bool) (n : Numbers) (committed : Entry) (w : WorkingTree) (p : Planned) (edit : Edit) (cache : KeptNodes)
    (was unlocked : PageSetView) (used : Meter) (before : Scene) (now : ℕ) →
    HasPlanned tells n committed w p edit cache was unlocked used before → now + p.change.removed ≡ w.root.length + p.change.added →
    edited_length edit (Some w.root.length) ≡ Some now
planned-length tells n committed w p edit cache was unlocked used before now planned total =
    let can = subst (CanChange n w) planned.plans.change planned.plans.can in
    edit-length edit w.root.length now planned.bytes.bytes can.within
    (subst (λ (c : Change). now + c.removed ≡ w.root.length + c.added) planned.plans.change total)

-- ---- what is written

-- rows of runs, cut again out of all of them
rows-again : (runs : List (List Extent)) → rows (map length runs) (runs_of_parts runs) ≡ runs
rows-again [] = refl
rows-again (row ∷ rest) =
    let all = flat_map-cons (λ (rs : List Extent). rs) row rest in
    ap (λ (xs : List Extent). take (length row) xs ∷ rows (map length rest) (drop (length row) xs)) all
    ∙ (ap (λ (xs : List Extent). xs ∷ rows (map length rest) (drop (length row) (row ++ runs_of_parts rest)))
    (take-append_seam row (runs_of_parts rest))
    ∙ (ap (λ (xs : List Extent). row ∷ rows (map length rest) xs) (drop-append_seam row (runs_of_parts rest))
    ∙ ap (λ (rs : List (List Extent)). row ∷ rs) (rows-again rest)))

-- the pages of a run
abbrev pages_of_run : Extent → ℕ
pages_of_run run = run.pages

-- and their pages
row-pages : (runs : List (List Extent)) → rows (map length runs) (map pages_of_run (runs_of_parts runs)) ≡ map (map pages_of_run) runs
row-pages [] = refl
row-pages (row ∷ rest) =
    let flat = runs_of_parts rest in
    let all = ap (map pages_of_run) (flat_map-cons (λ (rs : List Extent). rs) row rest) in
    ap (λ (xs : List ℕ). take (length row) xs ∷ rows (map length rest) (drop (length row) xs)) all
    ∙ (ap (λ (xs : List ℕ). xs ∷ rows (map length rest) (drop (length row) (map pages_of_run (row ++ flat))))
    (take-map pages_of_run (length row) (row ++ flat) ∙ ap (map pages_of_run) (take-append_seam row flat))
    ∙ (ap (λ (xs : List ℕ). map pages_of_run row ∷ rows (map length rest) xs)
    (drop-map pages_of_run (length row) (row ++ flat) ∙ ap (map pages_of_run) (drop-append_seam row flat))
    ∙ ap (λ (rs : List (List ℕ)). map pages_of_run row ∷ rs) (row-pages rest)))

-- runs of the pages that a plan asks for suit it
runs-suit : (n : Numbers) (held : Held) (w : WorkingTree) (p : Planned) (runs : List (List Extent)) → CanMake n held w p →
    IsPlanOf n (bytes_on held) w p → AreOfAll w.threshold p.requests.items (map (map pages_of_run) runs) →
    SuitPlan n (tree_on (bytes_on held) w) p.change (plan_of n (tree_on (bytes_on held) w) w.spare p.change) runs
runs-suit n held w p runs can told suited =
    let tree = tree_on (bytes_on held) w in
    let plan = plan_of n tree w.spare p.change in
    let counts = map length runs in
    let flat = runs_of_parts runs in
    let ask = subst (AllByRecursion (IsAskable (space_pages n))) told.requests (requests-askable n held w p can) in
    let all = subst (λ (rs : List Request). AreOfAll w.threshold rs (rows counts (map pages_of_run flat))) told.requests
    (subst (AreOfAll w.threshold p.requests.items) (sym (row-pages runs)) suited) in
    subst (SuitPlan n tree p.change plan) (rows-again runs) (asked-suits n tree p.change plan (space_pages n) counts flat ask all)

-- the pages of the made parts
made-pages : (size : ℕ) (parts : List Part) → parts_pages size parts ≡ sum_by (page_count size) (made_part_bytes (map layout_part parts))
made-pages size [] = refl
made-pages size (Keep pair ∷ parts) = made-pages size parts
made-pages size (Make pieces ∷ parts) =
    let more = made-pages size parts in
    let all = sum_by-cons (page_count size) (pieces_bytes pieces) (made_part_bytes (map layout_part parts)) in
    omega (arith, more, all)

filled-brought : (n : Numbers) (at : Pages) (w : WorkingTree) (p : Planned) → IsPlanOf n at w p →
    filled_pages n.page p ≡ brought_pages n p.change (plan_of n (tree_on at w) w.spare p.change)
filled-brought n at w p told =
    let plan = plan_of n (tree_on at w) w.spare p.change in
    let parts = made-pages n.page p.parts.items
    ∙ ap (λ ps. sum_by (page_count n.page) (made_part_bytes ps)) told.parts in
    ap (λ (k : ℕ). elim p.fit [ Extend ↦ page_count n.page p.change.added | _ ↦ k ]) parts
    ∙ ap (λ (f : Fit). elim f [
      | Extend ↦ page_count n.page p.change.added
      | _ ↦ sum_by (page_count n.page) (made_part_bytes plan.parts)
    ]) told.fit

-- a change writes no more pages than the edit may write
pub change-writes : (tells : Bool) (n : Numbers) (committed : Entry) (w : WorkingTree) (p : Planned) (edit : Edit) (cache : KeptNodes)
    (was unlocked : PageSetView) (used : Meter) (before : Scene) (slot : ObjectSlot) (now : Meter) →
    HasPlanned tells n committed w p edit cache was unlocked used before → IsTrue tells →
    WritesChange n (tree_on (bytes_on before.held) w) w p before.meter now →
    WritesWithin (TreeMayWrite n (tree_slot (view_on n committed w before.held cache was unlocked)) edit slot) used now
change-writes tells n committed w p edit cache was unlocked used before slot now planned tell writes =
    let at = bytes_on before.held in
    let tree = tree_on at w in
    let plan = plan_of n tree w.spare p.change in
    let told = planned.plans.told tell in
    let suits = runs-suit n before.held w p writes.runs planned.plans.ready told writes.suited in
    let few = suited-few n tree w.spare p.change writes.runs planned.range (planned.kept.told tell).sound.working told.few suits in
    let fill = filled-brought n at w p told in
    let cheap = few.written in
    let paid : p.change.added ≡ length (brought edit) =
    ap (λ (c : Change). c.added) planned.plans.change ∙ sym (edit-brings edit w.root.length planned.bytes.bytes) in
    let pages : ℕ = filled_pages n.page p + count_made (laid_levels n tree w.spare plan writes.runs []) in
    let pieces : ℕ = sum_by added writes.runs in
    let most = writes.most in
    let none = planned.plans.uses.written in
    record {
      pages = pages;
      allowed = record {
        added = pieces;
        few = subst (λ (k : ℕ). pieces ≤ added_most n k tree.threshold) paid few.pieces;
        most = subst (λ (k : ℕ). pages ≤ cost n k (length tree.levels) tree.threshold pieces) paid (omega (arith, cheap, fill));
      };
      most = omega (arith, most, none);
    }

-- ---- the edit was made

-- what the object owns then, on these spans and with these fresh and locked pages
abbrev pub stock_on : Scene → Held → PageSetView → PageSetView → Stock
stock_on s held fresh locked = record {
  held = held;
  cache = s.nodes;
  fresh = fresh;
  locked = locked;
  rest = s.rest;
  trace = s.trace;
}

-- the working version afterwards
abbrev pub entry_after : WorkingTree → Changed → Entry
entry_after w c = entry_on (working_after w c)

-- a page holds what it held
pub pages-stay : (n : Numbers) (old new : Held) (entry : Entry) → KeepsPages old new →
    StaysOn n (version_at (bytes_on old) entry) (bytes_on old) (bytes_on new)
pages-stay n old new entry same = λ q used. ap (λ o. unwrap_or o []) (same q)

-- the slot is the one that the layout gives on what was granted
made-slot : (n : Numbers) (start : ℕ) (free left : Spaces) (slot : ObjectSlot) (tree : Tree) (edit : Edit) (change : Change)
    (grants : Grants) (after : Laid) → slot.working ≡ Some tree → effect_on n edit (Some tree) ≡ Changes tree change →
    granted n start tree slot.spare change free ≡ Got grants left → laid n tree slot.spare change grants ≡ after →
    slot_in (edited_slot n start free slot edit) ≡ Some (with_working slot (Some after.tree) after.spare)
unfolding edited_slot
made-slot n start free left slot tree edit change grants after there effect grant laid_is =
    ap (λ (w : Version). slot_in (after_effect n start free slot (effect_on n edit w))) there
    ∙ (ap (λ (e : Effect). slot_in (after_effect n start free slot e)) effect
    ∙ (ap (λ (a : Answer Grants). slot_in (on_grants n slot tree change a)) grant
    ∙ ap (λ (l : Laid). Some (with_working slot (Some l.tree) l.spare)) laid_is))

-- the pages that were granted are out of the spaces
taken-out : (n : Numbers) (frame : Frame) (c : Changed) (views : List SpaceView) (rest : Rest) →
    AreTakenOut n frame (granted_in c) views rest → AreTaken n frame (made_by c) views rest
taken-out n frame c views rest out = record {
  between = out.after;
  told = out.told;
  home = out.home;
  were = λ page s at place is. (out.were page s at place (some-count (uses page (granted_in c)) is)).0;
  free = λ page s at place. out.free page s at place
      ∙ ap (λ b. b && is_free_place views s at) (not-none (uses page (granted_in c)));
  locked = out.locked;
}

made-bytes : (tells : Bool) (n : Numbers) (committed : Entry) (w : WorkingTree) (p : Planned) (c : Changed) (start : ℕ) (edit : Edit)
    (cache : KeptNodes) (was unlocked : PageSetView) (used : Meter) (before middle : Scene) (held : Held) →
    HasPlanned tells n committed w p edit cache was unlocked used before →
    MakesChange tells n start w p (brought edit) (Ok c) before middle → KeepsPages middle.held held → IsTrue tells →
    plain_at (bytes_on held) n.page (entry_after w c)
    ≡ edited edit (tree_contents (view_on n committed w before.held cache was unlocked)).working
made-bytes tells n committed w p c start edit cache was unlocked used before middle held planned makes same tell =
    let at = bytes_on before.held in
    let size = has-size tells n committed w p edit cache was unlocked used before planned tell in
    let effect = planned-changes tells n committed w p edit cache was unlocked used before planned tell in
    plain-stays n (bytes_on middle.held) (bytes_on held) (entry_after w c) (pages-stay n middle.held held (entry_after w c) same)
    ∙ (ap plain.Present (makes.told tell).bytes
    ∙ sym (edited-bytes n edit (tree_on at w) (tree_on at w) p.change (content at n.page (entries_on at w)) effect size.bytes))

pub change-made : (tells : Bool) (n : Numbers) (committed : Entry) (w : WorkingTree) (p : Planned) (c : Changed) (start : ℕ) (edit : Edit)
    (cache : KeptNodes) (was unlocked : PageSetView) (used : Meter) (before middle : Scene) (held : Held) (fresh locked : PageSetView) →
    HasPlanned tells n committed w p edit cache was unlocked used before →
    MakesChange tells n start w p (brought edit) (Ok c) before middle → KeepsPages middle.held held →
    IsMade tells (view_on n committed w before.held cache was unlocked) (made_by c) (stock_on middle held fresh locked) (entry_after w c)
    c.spare start edit before.rest before.trace used middle.meter
change-made tells n committed w p c start edit cache was unlocked used before middle held fresh locked planned makes same =
    let v = view_on n committed w before.held cache was unlocked in
    let at = bytes_on before.held in
    let tree = tree_on at w in
    let stock = stock_on middle held fresh locked in
    record {
      done = planned.bytes.done;
      long = sym (planned-length tells n committed w p edit cache was unlocked used before c.root.length planned makes.changed.total);
      frame = makes.rest;
      part = part_as (IsLowFor {A = Changed} (count before.rest) (Ok c)) (λ part. Unit {0}) before.trace middle.trace (λ part low. tt)
          makes.low;
      port = IsUsed-then used before.meter middle.meter planned.plans.uses.used makes.used;
      well = makes.cause.still (λ bad. absurd (never bad)) ∙ planned.plans.cause.still (λ bad. absurd (unplanned bad));
      bytes = made-bytes tells n committed w p c start edit cache was unlocked used before middle held planned makes same;
      granted = λ tell views told long.
          let answer = makes.answer tell views told long in
          made-slot n start (free_sets views) (free_sets answer.0) (tree_slot v) tree edit p.change (grants_in c)
          (laid_after (bytes_on middle.held) w c) refl
          (planned-changes tells n committed w p edit cache was unlocked used before planned tell) answer.2 (makes.told tell).laid_is
          ∙ ap (λ (x : Version). Some (with_working (tree_slot v) x c.spare))
          (sym (version-stays n (bytes_on middle.held) (bytes_on held) (entry_after w c)
          (pages-stay n middle.held held (entry_after w c) same)));
      taken = λ views told home. taken-out n before.rest.frame c views middle.rest (makes.spaces views told home);
      writes = λ tell. change-writes tells n committed w p edit cache was unlocked used before
          (slot_beside v stock (entry_after w c) c.spare) middle.meter planned tell (makes.writes tell);
    }
  where
    never : ◌≡◌ {A = Result Changed EditFail} (Ok c) (Err Fault) → ⊥
    never same = cc

    unplanned : ◌≡◌ {A = Result Planned EditFail} (Ok p) (Err Fault) → ⊥
    unplanned same = cc
