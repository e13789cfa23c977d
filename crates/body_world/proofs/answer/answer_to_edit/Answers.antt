-- The transaction's record of the edit is what the command makes.
use Rattle.std.proofs.Common.{sym, ◌∙◌, refl, inl, inr}
use Rattle.std.proofs.lemmas.Bool.{false≢true}
use Rattle.base_laws.proofs.OptionLaws.{some-if}
use Rattle.eos_ops.specs.declared.reply.Reply.TheVariants as reply
use Rattle.eos_ops.specs.Objects.{edit_of as edit_of_command}
use Rattle.object_body.proofs.MemoryLemmas.{edit-may_take}
use Rattle.body_world.proofs.Worked.{edit-command, worked-none, worked-edit}
use Rattle.body_world.proofs.answer.answer_to_edit.Goals as goal

pub returns-in_default : goal.returns-in_default
returns-in_default g c =
    let some = some-if (edit_of_command c.args.command) c.requires.edit in
    worked-none _ _ _ _ c.args.command c.args.o reply.Memory c.args.txn.now c.requires.held
    (λ x. edit-command _ _ _ _ _ _ _ c.args.command some.0 reply.Memory x x _ _ some.1
    (inl (refl, edit-may_take c.args.command some.0 some.1 c.in_default.ensures.memory, refl, refl))) refl

pub returns : goal.returns
returns g c = elim c.edit.ensures.edit [
  | inl none ↦ absurd (false≢true none.0)
  | inr call ↦
      worked-edit g.P.S.Span.tells g.B.Body.suits g.B.Body.laid g.B.Body.may_refuse g.B.Body.may_write g.B.Body.may_read _
      g.B.Body.form g.B.Body.told c.args.command c.in-Some.edit _ c.reply_to_edit.result c.args.o c.args.txn.now c.edit.new.self _ _
      (sym c.in-Ok.ensures.edit ∙ c.in-Some.is) c.reply_to_edit.ensures call c.edit.ensures.right c.edit.ensures.tied
]
