-- The body is edited and the act is noted in the room that was made; or there was none, and nothing happened.
use Rattle.std.proofs.Common.{◌≡◌, ◌++◌, true, refl, ap, sym, ◌∙◌, inl, inr, rules}
use Rattle.shadow_txn.specs.Acts.{edit_command, noted}
use Rattle.shadow_txn.specs.Replies.{edit_reply}
use Rattle.body_txn.proofs.NotedLemmas.{held_as, noted-not, noted-kept}
use Rattle.body_txn.proofs.edit.edit_held.Goals as goal

pub returns-then-not-keeps : goal.returns-then-not-keeps
returns-then-not-keeps g c = inr (record {
  now = record { body = c.edit.new.self; annals = c.args.one.now.object.annals };
  made = (refl, record { answer = c.edit.result; reply = c.answer_to_edit.ensures; body = c.edit.ensures.edit });
  held = noted-not g.H.Annals.tells c.args.one.now _ _ _ (sym c.keeps.ensures.value ∙ c.if-not-keeps.true);
})

pub returns-in_default : goal.returns-in_default
returns-in_default g c = inl (sym c.keeps.ensures.value ∙ c.if-not-keeps.false, (refl, refl, refl, refl))

pub returns-in_default-with_room : goal.returns-in_default-with_room
returns-in_default-with_room g c =
    inl (
      sym c.keeps.ensures.value ∙ c.if-not-keeps.false,
      (refl, ap (held_as c.args.one.now c.args.one.now.object) (search rules), refl, refl),
    )

pub returns : goal.returns
returns g c =
    let keeps = sym c.keeps.ensures.value ∙ c.if-not-keeps.false in
    let h = c.args.one.now in
    let more : c.from_vec.result ≡ h.acts ++ noted true (edit_command h.number c.args.edit.now)
    (edit_reply c.answer_to_edit-answer.result) =
    c.from_vec.ensures ∙ c.note_reserved.ensures
    ∙ ap (λ acts. acts ++ noted true c.in-Ok.command c.reply_of_edit.result) c.in-Ok-with_room.ensures.ok
    ∙ ap (λ k. h.acts ++ noted true k c.reply_of_edit.result) (c.in-Ok.ensures ∙ ap (λ n. edit_command n c.args.edit.now) c.from.ensures)
    ∙ ap (λ r. h.acts ++ noted true (edit_command h.number c.args.edit.now) r) c.reply_of_edit.ensures in
    inr (record {
      now = record { body = c.edit-2.new.self; annals = h.object.annals };
      made = (refl, record { answer = c.edit-2.result; reply = c.answer_to_edit-answer.ensures; body = c.edit-2.ensures.edit });
      held = noted-kept g.H.Annals.tells h _ _ _ _ keeps more;
    })
