-- The object is still one of the store with one space.
use Rattle.std.proofs.Common.{◌≡◌, Bool, false, List, None, Option, Result, Ok, Err, sym, ap, subst, ◌∙◌}
use Rattle.eos_ops.specs.declared.edit.Edit.TheVariants.{Destroy}
use Rattle.eos_ops.specs.declared.outcome.Outcome.{Outcome}
use Rattle.fault_count.specs.Counts.{new_meter}
use Rattle.geometry_model.specs.Numbers.{Numbers}
use Rattle.superdirectory.specs.Rest.{Rest}
use Rattle.superdirectory.specs.Solo.{rest_of}
use Rattle.superdirectory.specs.Trace.{SpaceEvent}
use Rattle.object_body.specs.declared.fails.EditFail.{EditFail}
use Rattle.object_body.specs.Form.{Form}
use Rattle.object_body.specs.Places.{IsReady, IsStore}
use Rattle.object_state.specs.Edits.{MakesOnSpaces, tree_stage}
use Rattle.object_state.specs.Tree.{TreeView}
use Rattle.object_state.proofs.tests.destroyed.Goals as goal

abbrev small : Numbers
small = record { page = 256; order = 4; spaces = 1; catalog = 1; threshold = 2 }

-- whatever it answers
same-numbers : (tells : Bool) (result : Result Outcome EditFail) (v w : TreeView) (old new : Rest)
    (trace after : Option (List SpaceEvent)) →
    MakesOnSpaces tells Destroy result (tree_stage v old trace) (tree_stage w new after) → w.numbers ≡ v.numbers
same-numbers tells (Ok outcome) v w old new trace after made = (made 0 (new_meter 256)).form.numbers
same-numbers tells (Err fail) v w old new trace after made = ap (λ (f : Form). f.numbers) (made 0 (new_meter 256)).unmade

same-rest : (tells : Bool) (result : Result Outcome EditFail) (v w : TreeView) (old new : Rest) (trace after : Option (List SpaceEvent)) →
    MakesOnSpaces tells Destroy result (tree_stage v old trace) (tree_stage w new after) → IsReady small old → IsReady small new
same-rest tells result v w old new trace after made ready =
    let rest = (made 0 (new_meter 256)).rest in
    record { store = subst (IsStore small) (sym rest.frame) ready.store; none = rest.entered }

pub counts-between-requires : goal.counts-between-requires
counts-between-requires c = record {
  ready = same-rest false c.destroy-answer.result c.in_ok-body.body c.destroy-answer.new.self (rest_of c.in_ok-latches.latches)
      (rest_of c.destroy-answer.new.latches) None None c.destroy-answer.ensures c.in_ok-latches.ensures;
}

pub settle-requires : goal.settle-requires
settle-requires c =
    let kept = same-numbers false c.destroy-answer.result c.in_ok-body.body c.destroy-answer.new.self (rest_of c.in_ok-latches.latches)
    (rest_of c.destroy-answer.new.latches) None None c.destroy-answer.ensures
    ∙ c.in_ok-body.ensures.numbers in
    record { ready = subst (λ (n : Numbers). IsReady n (rest_of c.counts-between.new.latches)) (sym kept) c.counts-between.ensures.ready }

pub undo-requires : goal.undo-requires
undo-requires c =
    let kept = same-numbers false c.destroy-answer.result c.in_ok-body.body c.destroy-answer.new.self (rest_of c.in_ok-latches.latches)
    (rest_of c.destroy-answer.new.latches) None None c.destroy-answer.ensures
    ∙ c.in_ok-body.ensures.numbers in
    record { ready = subst (λ (n : Numbers). IsReady n (rest_of c.counts-between.new.latches)) (sym kept) c.counts-between.ensures.ready }
