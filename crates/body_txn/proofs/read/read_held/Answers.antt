-- The body is read and the act is noted; or there was no room for the act.
use Rattle.std.proofs.Common.{◌≡◌, ◌++◌, true, refl, ap, sym, ◌∙◌, inr, rules}
use Rattle.eos_ops.specs.declared.command.Command.TheVariants as command
use Rattle.eos_ops.specs.declared.reply.Reply.TheVariants as reply
use Rattle.shadow_txn.specs.Acts.{noted}
use Rattle.shadow_txn.specs.Replies.{bytes_reply}
use Rattle.body_txn.proofs.ActLemmas.{read-said, said-or_memory}
use Rattle.body_txn.proofs.NotedLemmas.{held_as, noted-not, noted-kept, noted-other}
use Rattle.body_txn.proofs.read.read_held.Goals as goal

pub returns-then-not-keeps : goal.returns-then-not-keeps
returns-then-not-keeps g c = record {
  now = record { body = c.look-answer.new.body; annals = c.args.one.now.object.annals };
  made = (
    refl,
    read-said g.B.P.S.Span.tells g.B.Body.suits g.B.Body.may_read g.H.Annals.tells c.args.at c.args.len _ _ _ _ _ _ _ _
        (λ right said. said-or_memory g.H.Annals.tells _ right said) c.look-answer.ensures,
  );
  held = noted-not g.H.Annals.tells c.args.one.now _ _ _ (sym c.keeps.ensures.value ∙ c.if-not-keeps.true);
}

pub returns-in_default : goal.returns-in_default
returns-in_default g c = record {
  now = record { body = c.look-answer.new.body; annals = c.args.one.now.object.annals };
  made = (
    refl,
    read-said g.B.P.S.Span.tells g.B.Body.suits g.B.Body.may_read g.H.Annals.tells c.args.at c.args.len _ _ _ _ _ _ _ _
        (λ right said. inr (sym c.keeps.ensures.value ∙ c.if-not-keeps.false, refl)) c.look-answer.ensures,
  );
  held = noted-other g.H.Annals.tells c.args.one.now _ c.args.one.now.number
      (command.Read c.args.one.now.number c.args.at c.args.len) reply.Memory refl refl refl;
}

pub returns-then-is_err : goal.returns-then-is_err
returns-then-is_err g c =
    let h = c.args.one.now in
    let acts : c.note.new.acts ≡ h.acts = search rules in
    record {
      now = record { body = c.look-answer.new.body; annals = h.object.annals };
      made = (
        refl,
        read-said g.B.P.S.Span.tells g.B.Body.suits g.B.Body.may_read g.H.Annals.tells c.args.at c.args.len _ _ _ _ _ _ _ _
            (λ right said. inr (sym c.keeps.ensures.value ∙ c.if-not-keeps.false, refl)) c.look-answer.ensures,
      );
      held = ap (held_as h (record { body = c.look-answer.new.body; annals = h.object.annals })) acts
          ∙ noted-other g.H.Annals.tells h _ h.number (command.Read h.number c.args.at c.args.len) reply.Memory refl refl refl;
    }

pub returns : goal.returns
returns g c =
    let keeps = sym c.keeps.ensures.value ∙ c.if-not-keeps.false in
    let h = c.args.one.now in
    let more : c.note.new.acts ≡ h.acts ++ noted true (command.Read h.number c.args.at c.args.len)
    (bytes_reply c.look-answer.result) = search rules in
    record {
      now = record { body = c.look-answer.new.body; annals = h.object.annals };
      made = (
        refl,
        read-said g.B.P.S.Span.tells g.B.Body.suits g.B.Body.may_read g.H.Annals.tells c.args.at c.args.len _ _ _ _ _ _ _ _
            (λ right said. said-or_memory g.H.Annals.tells _ right said) c.look-answer.ensures,
      );
      held = noted-kept g.H.Annals.tells h _ _ _ _ keeps more;
    }
