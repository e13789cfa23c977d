use Rattle.std.proofs.Common.{sym, ap, subst, IfSome, IsTrue, ◌≡◌, false, ◌∙◌}
use Rattle.eos_ops.specs.declared.reply.Reply.TheVariants as reply
use Rattle.moment_model.specs.Run.{is_ok_reply}
use Rattle.plain_layout.specs.Answers.{answered}
use Rattle.plain_moment.specs.Stored.{IsStoreStep, IsTaking, is_bare}
use Rattle.plain_moment.proofs.Storing.{nospace_step, taking_tied, refused_step, edited_put, edited_other}
use Rattle.plain_moment.proofs.plain_store.PlainStore.edit.Goals as goal

pub returns-in-None-clause-step : goal.returns-in-None-clause-step
returns-in-None-clause-step c =
    let taking = subst (λ t. IsTaking c.args.self.now c.args.session c.args.object t c.take.new.self) c.in-None.is
    c.in_ok-take-in-Refused.ensures.taking in
    let denied = sym (ap (answered (λ after. after)) c.in-Refused.is) ∙ c.in_ok-pages.ensures in
    subst (λ pages. IsStoreStep c.args.self.now c.args.session c.args.command (reply.NoSpace pages) c.take.new.self)
    (sym c.in_ok-pages-in-Refused.ensures)
    (nospace_step c.args.self.now c.take.new.self c.args.session c.args.object c.args.command c.args.edit.now c.in-Refused.pages
    c.requires.tied c.requires.from_one c.requires.upto c.requires.object c.requires.edit c.requires.short denied taking)

pub returns-in-None-clause-tied : goal.returns-in-None-clause-tied
returns-in-None-clause-tied c =
    taking_tied c.args.self.now c.take.new.self c.args.session c.args.object c.requires.tied
    (subst (λ t. IsTaking c.args.self.now c.args.session c.args.object t c.take.new.self) c.in-None.is
    c.in_ok-take-in-Refused.ensures.taking)

pub returns-in-Refused-clause-step : goal.returns-in-Refused-clause-step
returns-in-Refused-clause-step c =
    let taking = subst (λ t. IsTaking c.args.self.now c.args.session c.args.object t c.take.new.self) c.in-Some.is
    c.in_ok-take-in-Refused.ensures.taking in
    let bare = subst (λ t. IfSome t (λ r. IsTrue (is_bare r)
    × (is_ok_reply r ≡ false))) c.in-Some.is c.in_ok-take-in-Refused.ensures.bare in
    refused_step c.args.self.now c.take.new.self c.args.session c.args.object c.args.command c.in-Some.refusal
    c.requires.tied c.requires.from_one c.requires.upto c.requires.object c.requires.short bare.0 bare.1 taking

pub returns-then-is_ok_reply-clause-step : goal.returns-then-is_ok_reply-clause-step
returns-then-is_ok_reply-clause-step c =
    let got = sym (ap (answered (λ after. after)) c.in-Got.is) ∙ c.in_ok-pages.ensures in
    let accepted = sym c.in_ok-accepted-in-Got.ensures ∙ c.if-not-accepted.false in
    edited_put c.args.self.now c.serve.new.self c.place.new.self c.args.session c.args.object c.args.command
    c.args.edit.now c.in-Got.after c.in-Got.left c.in_ok-reply-in-Got.reply
    c.requires.tied c.requires.from_one c.requires.upto c.requires.object c.requires.edit accepted got c.in_ok-reply-in-Got.ensures.served
    (sym c.is_ok_reply.ensures ∙ c.if-is_ok_reply.true) c.place.ensures

pub returns-clause-step : goal.returns-clause-step
returns-clause-step c =
    edited_other c.args.self.now c.serve.new.self c.args.session c.args.command c.in_ok-reply-in-Got.reply
    c.requires.tied c.requires.from_one c.requires.upto (sym c.is_ok_reply.ensures
    ∙ c.if-is_ok_reply.false) c.in_ok-reply-in-Got.ensures.served
