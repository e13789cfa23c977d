-- A command that an object served is a step of the machine: owed over every device, and told where bytes are.
use Rattle.std.proofs.Common.{◌≡◌, ℕ, false, map, set, Option, Some, None, refl, ap, sym, ◌∙◌, subst}
use Rattle.std.proofs.Common.{inl, inr, ◌⊎◌, if◌then◌else◌}
use Rattle.std.specs.Prelude.{IsTrue, MatchOption}
use Rattle.std.proofs.lemmas.Bool.{false≢true}
use Rattle.std.proofs.lemmas.List.{map-set, set-get_or}
use Rattle.eos_ops.specs.declared.command.Command.{Command}
use Rattle.eos_ops.specs.declared.command.Command.TheVariants.{Begin, Create, Destroy, Length, Read, Append, Insert, Delete, Replace}
use Rattle.eos_ops.specs.declared.command.Command.TheVariants.{Commit, Abort, Status}
use Rattle.eos_ops.specs.declared.plain.Plain.{Plain}
use Rattle.eos_ops.specs.declared.plain.Plain.TheVariants.{Absent}
use Rattle.eos_ops.specs.declared.reply.Reply.{Reply}
use Rattle.eos_ops.specs.declared.reply.Reply.TheVariants as reply
use Rattle.eos_ops.specs.Objects.{object_of, with_bytes, reply_in, after_in}
use Rattle.eos_ops.proofs.EditLemmas.{after_in-edit, after_in-look}
use Rattle.history.specs.Event.{Does, Takes, answered, deed}
use Rattle.history.specs.Refusals.{is_answer, has_effect}
use Rattle.history.proofs.EventLaws.{after_in-with_bytes, deed-object}
use Rattle.machine.specs.Machine.{Slot, Machine, IsSession, no_slot, slot_at, with_slot, bare, bare_slot}
use Rattle.machine.specs.Next.{next, worked, taken}
use Rattle.machine.specs.Replies.{refused, answer, is_taking, IsAnswered, Replies, Owes}
use Rattle.machine.proofs.Places.{map-set_unseen}
use Rattle.machine.proofs.Replying.{answer-object}
use Rattle.moment_model.specs.Run.{Lays}
use Rattle.object_body.specs.Form.{Contents}
use Rattle.shadow_txn.specs.Acts.{is_objects_own}
use Rattle.store_model.specs.Store.{IsOwedStep}
use Rattle.world.proofs.Deeds.{deed-memory}
use Rattle.body_world.specs.Served.{Works, is_memory, holder_after}
use Rattle.body_world.specs.Session.{Shown, Seen}
use Rattle.body_world.specs.Ties.{slot_of}
use Rattle.body_world.proofs.Made.{is_taking_reply, IsAtHand, IsMade, IsStill, IsLaidOut, own-no_memory, outcome-own}

-- an own reply makes an act, and one of the space or the device takes the object
answered-own : (o : ℕ) (c : Command) (r : Reply) → IsTrue (is_objects_own r) → answered o c r ≡ Does o (record { command = c; reply = r })
answered-own o c reply.Ok own = refl
answered-own o c (reply.Length n) own = refl
answered-own o c (reply.Bytes x) own = refl
answered-own o c (reply.Range n) own = refl
answered-own o c reply.Exists own = refl
answered-own o c reply.Missing own = refl
answered-own o c (reply.NoSpace n) own = absurd (false≢true own)
answered-own o c reply.Fault own = absurd (false≢true own)
answered-own o c reply.Busy own = absurd (false≢true own)
answered-own o c reply.Full own = absurd (false≢true own)
answered-own o c reply.NoObject own = absurd (false≢true own)
answered-own o c reply.Memory own = absurd (false≢true own)
answered-own o c reply.Idle own = absurd (false≢true own)
answered-own o c reply.Active own = absurd (false≢true own)
answered-own o c reply.TooLong own = absurd (false≢true own)
answered-own o c reply.Worn own = absurd (false≢true own)
answered-own o c (reply.Status f l h) own = absurd (false≢true own)
answered-own o c reply.Again own = absurd (false≢true own)

answered-taking : (o : ℕ) (c : Command) (r : Reply) → IsTrue (is_taking_reply r) → answered o c r ≡ Takes o
answered-taking o c (reply.NoSpace n) takes = refl
answered-taking o c reply.Fault takes = refl
answered-taking o c reply.Ok takes = absurd (false≢true takes)
answered-taking o c (reply.Length n) takes = absurd (false≢true takes)
answered-taking o c (reply.Bytes x) takes = absurd (false≢true takes)
answered-taking o c (reply.Range n) takes = absurd (false≢true takes)
answered-taking o c reply.Exists takes = absurd (false≢true takes)
answered-taking o c reply.Missing takes = absurd (false≢true takes)
answered-taking o c reply.Busy takes = absurd (false≢true takes)
answered-taking o c reply.Full takes = absurd (false≢true takes)
answered-taking o c reply.NoObject takes = absurd (false≢true takes)
answered-taking o c reply.Memory takes = absurd (false≢true takes)
answered-taking o c reply.Idle takes = absurd (false≢true takes)
answered-taking o c reply.Active takes = absurd (false≢true takes)
answered-taking o c reply.TooLong takes = absurd (false≢true takes)
answered-taking o c reply.Worn takes = absurd (false≢true takes)
answered-taking o c (reply.Status f l h) takes = absurd (false≢true takes)
answered-taking o c reply.Again takes = absurd (false≢true takes)

deed-own : (c : Command) (o : ℕ) (r : Reply) → object_of c ≡ Some o → IsTrue (is_objects_own r)
    → deed c r ≡ Does o (record { command = with_bytes c; reply = r })
deed-own c o r on own = deed-object c r o on ∙ answered-own o (with_bytes c) r own

deed-taking : (c : Command) (o : ℕ) (r : Reply) → object_of c ≡ Some o → IsTrue (is_taking_reply r) → deed c r ≡ Takes o
deed-taking c o r on takes = deed-object c r o on ∙ answered-taking o (with_bytes c) r takes

-- only a command on an object has either
answer-effect : (c : Command) (o : ℕ) (r : Reply) → object_of c ≡ Some o → is_answer c r ≡ has_effect (deed c r)
answer-effect (Create p t) o r on = refl
answer-effect (Destroy p) o r on = refl
answer-effect (Length p) o r on = refl
answer-effect (Read p at n) o r on = refl
answer-effect (Append p b) o r on = refl
answer-effect (Insert p at b) o r on = refl
answer-effect (Delete p at n) o r on = refl
answer-effect (Replace p at b) o r on = refl
answer-effect Begin o r on = absurd cc
answer-effect Commit o r on = absurd cc
answer-effect Abort o r on = absurd cc
answer-effect Status o r on = absurd cc

answered-as : (m : Machine) (c : Command) (o : ℕ) (r : Reply) → object_of c ≡ Some o
    → (r ≡ answer m c) ⊎ IsTrue (is_taking (deed c r)) → IsAnswered m c r
answered-as m (Create p t) o r on is = is
answered-as m (Destroy p) o r on is = is
answered-as m (Length p) o r on is = is
answered-as m (Read p at n) o r on is = is
answered-as m (Append p b) o r on is = is
answered-as m (Insert p at b) o r on is = is
answered-as m (Delete p at n) o r on is = is
answered-as m (Replace p at b) o r on is = is
answered-as m Begin o r on is = absurd cc
answered-as m Commit o r on is = absurd cc
answered-as m Abort o r on is = absurd cc
answered-as m Status o r on is = absurd cc

taking-no_memory : (r : Reply) → IsTrue (is_taking_reply r) → r ≡ reply.Memory → ⊥
taking-no_memory r takes is = let wrong : IsTrue (is_taking_reply reply.Memory) = subst (λ t. IsTrue (is_taking_reply t)) is takes in
    absurd (false≢true wrong)

own-is_memory : (r : Reply) → IsTrue (is_objects_own r) → is_memory r ≡ false
own-is_memory reply.Ok own = refl
own-is_memory (reply.Length n) own = refl
own-is_memory (reply.Bytes x) own = refl
own-is_memory (reply.Range n) own = refl
own-is_memory reply.Exists own = refl
own-is_memory reply.Missing own = refl
own-is_memory (reply.NoSpace n) own = refl
own-is_memory reply.Fault own = refl
own-is_memory reply.Busy own = refl
own-is_memory reply.Full own = refl
own-is_memory reply.NoObject own = refl
own-is_memory reply.Memory own = absurd (false≢true own)
own-is_memory reply.Idle own = refl
own-is_memory reply.Active own = refl
own-is_memory reply.TooLong own = refl
own-is_memory reply.Worn own = refl
own-is_memory (reply.Status f l h) own = refl
own-is_memory reply.Again own = refl

taking-is_memory : (r : Reply) → IsTrue (is_taking_reply r) → is_memory r ≡ false
taking-is_memory (reply.NoSpace n) takes = refl
taking-is_memory reply.Fault takes = refl
taking-is_memory reply.Ok takes = refl
taking-is_memory (reply.Length n) takes = refl
taking-is_memory (reply.Bytes x) takes = refl
taking-is_memory (reply.Range n) takes = refl
taking-is_memory reply.Exists takes = refl
taking-is_memory reply.Missing takes = refl
taking-is_memory reply.Busy takes = refl
taking-is_memory reply.Full takes = refl
taking-is_memory reply.NoObject takes = refl
taking-is_memory reply.Memory takes = absurd (false≢true takes)
taking-is_memory reply.Idle takes = refl
taking-is_memory reply.Active takes = refl
taking-is_memory reply.TooLong takes = refl
taking-is_memory reply.Worn takes = refl
taking-is_memory (reply.Status f l h) takes = refl
taking-is_memory reply.Again takes = refl

-- a reply of the space or the device isn't the object's own
taking-not_own : (r : Reply) → IsTrue (is_taking_reply r) → IsTrue (is_objects_own r) → ⊥
taking-not_own reply.Ok takes own = false≢true takes
taking-not_own (reply.Length n) takes own = false≢true takes
taking-not_own (reply.Bytes x) takes own = false≢true takes
taking-not_own (reply.Range n) takes own = false≢true takes
taking-not_own reply.Exists takes own = false≢true takes
taking-not_own reply.Missing takes own = false≢true takes
taking-not_own (reply.NoSpace n) takes own = false≢true own
taking-not_own reply.Fault takes own = false≢true own
taking-not_own reply.Busy takes own = false≢true own
taking-not_own reply.Full takes own = false≢true own
taking-not_own reply.NoObject takes own = false≢true own
taking-not_own reply.Memory takes own = false≢true own
taking-not_own reply.Idle takes own = false≢true own
taking-not_own reply.Active takes own = false≢true own
taking-not_own reply.TooLong takes own = false≢true own
taking-not_own reply.Worn takes own = false≢true own
taking-not_own (reply.Status f l h) takes own = false≢true own
taking-not_own reply.Again takes own = false≢true own

-- who holds the object after a reply that isn't want of memory
pub own-holder_after : (s : ℕ) (r : Reply) (was : Option ℕ) → IsTrue (is_objects_own r) → holder_after s r was ≡ Some s
own-holder_after s r was own = ap (λ b. if b then was else Some s) (own-is_memory r own)

taking-holder_after : (s : ℕ) (r : Reply) (was : Option ℕ) → IsTrue (is_taking_reply r) → holder_after s r was ≡ Some s
taking-holder_after s r was takes = ap (λ b. if b then was else Some s) (taking-is_memory r takes)

memory-holder_after : (s : ℕ) (r : Reply) (was : Option ℕ) → r ≡ reply.Memory → holder_after s r was ≡ was
memory-holder_after s r was is = ap (λ t. holder_after s t was) is

-- the object as the command left it
abbrev pub left_seen : ℕ → Reply → Seen → Shown → Seen
left_seen s r was now = record { holder = holder_after s r was.holder; object = now }

-- with its contents forgotten
bare-left : (s : ℕ) (holder : Option ℕ) (r : Reply) (was : Seen) (now : Shown) → holder_after s r was.holder ≡ holder
    → now.stamp ≡ was.object.stamp → bare_slot (slot_of (left_seen s r was now))
    ≡ record { committed = Absent; working = Absent; holder = holder; stamp = was.object.stamp }
bare-left s holder r was now holds stamp =
    ap (λ h. record { committed = Absent; working = Absent; holder = h; stamp = now.stamp }) holds
    ∙ ap (λ k. record { committed = Absent; working = Absent; holder = holder; stamp = k }) stamp

bare-with_slot : (m : Machine) (o : ℕ) (a b : Slot) → bare_slot a ≡ bare_slot b → bare (with_slot m o a) ≡ bare (with_slot m o b)
bare-with_slot m o a b same =
    ap (λ slots. record { slots = slots; seats = m.seats })
    (map-set bare_slot m.slots o a ∙ ap (set (map bare_slot m.slots) o) same ∙ sym (map-set bare_slot m.slots o b))

-- over every device
pub owed-served : (m : Machine) (s o : ℕ) (c : Command) (r : Reply) (was : Seen) (now : Shown) (before after : Works)
    → object_of c ≡ Some o → refused m s c ≡ None → IsSession m s → slot_at m o ≡ slot_of was → IsMade c r was.object now before after
    → IsOwedStep m s c r (with_slot m o (slot_of (left_seen s r was now)))
owed-served m s o c r was now before after on free session here made = record {
  owed = record { session = session; reply = owes made.at_hand };
  state = state made.at_hand;
}
  where
    slot : Slot
    slot = slot_of (left_seen s r was now)

    stamp : (slot_at m o).stamp ≡ was.object.stamp
    stamp = ap (λ x. x.stamp) here

    effect : IsTrue (has_effect (deed c r)) → Owes m s c r
    effect has = inr (subst (λ t. MatchOption t (IsTrue (is_answer c r)) (λ refusal. r ≡ refusal)) (sym free)
        (answer-effect c o r on ∙ has))

    owes : IsAtHand r → Owes m s c r
    owes (inl memory) = inl (memory, made.memory memory)
    owes (inr (inl own)) = effect (ap has_effect (deed-own c o r on own))
    owes (inr (inr takes)) = effect (ap has_effect (deed-taking c o r on takes))

    state : IsAtHand r → bare (with_slot m o slot) ≡ bare (next m s (deed c r))
    state (inl memory) =
        ap (λ slots. record { slots = slots; seats = m.seats })
        (map-set_unseen bare_slot m.slots o no_slot slot
        (bare-left s was.holder r was now (memory-holder_after s r was.holder memory) made.stamp ∙ sym (ap bare_slot here)))
        ∙ sym (ap (λ d. bare (next m s d)) (ap (deed c) memory ∙ deed-memory c o on))
    state (inr (inl own)) =
        bare-with_slot m o slot (worked s (record { command = with_bytes c; reply = r }) (slot_at m o))
        (bare-left s (Some s) r was now (own-holder_after s r was.holder own) made.stamp
        ∙ ap (λ k. record { committed = Absent; working = Absent; holder = Some s; stamp = k }) (sym stamp))
        ∙ sym (ap (λ d. bare (next m s d)) (deed-own c o r on own))
    state (inr (inr takes)) =
        bare-with_slot m o slot (taken s (slot_at m o))
        (bare-left s (Some s) r was now (taking-holder_after s r was.holder takes) made.stamp
        ∙ ap (λ k. record { committed = Absent; working = Absent; holder = Some s; stamp = k }) (sym stamp))
        ∙ sym (ap (λ d. bare (next m s d)) (deed-taking c o r on takes))

-- Told: the object was left so. Its committed version stays, and its working one is as the reply says.
pub record IsLeftTold (c : Command) (r : Reply) (x y : Contents) : Type 0 where
  pub committed : y.committed ≡ x.committed
  pub own : IsTrue (is_objects_own r) → y.working ≡ after_in c x.working
  pub same : (IsTrue (is_objects_own r) → ⊥) → y ≡ x

pub left-still : (laid : Lays) (start : ℕ) (c : Command) (r : Reply) (x y : Shown) (before after : Works)
    → IsStill laid start c r x y before after → IsLeftTold c r x.told y.told
left-still laid start c r x y before after still = record {
  committed = ap (λ (t : Contents). t.committed) still.same;
  own = λ own. ap (λ (t : Contents). t.working) still.same ∙ sym (after_in-look c x.told.working (still.look own));
  same = λ other. still.same;
}

pub left-laid : (laid : Lays) (start : ℕ) (c : Command) (r : Reply) (x y : Shown) (before after : Works)
    → IsLaidOut laid start c r x y before after → IsLeftTold c r x.told y.told
left-laid laid start c r x y before after out = record {
  committed = out.committed;
  own = λ own. out.working ∙ sym (after_in-edit c out.edit x.told.working out.is);
  same = λ other. absurd (other (subst (λ t. IsTrue (is_objects_own t)) (sym out.reply) (outcome-own out.outcome)));
}

-- the versions of the object that the machine has
pub record HasVersions (was : Seen) : Type 0 where
  pub working : (slot_of was).working ≡ was.object.told.working

-- told, the machine goes on by the deed of what was answered
pub machine-told : (m : Machine) (s o : ℕ) (c : Command) (r : Reply) (was : Seen) (now : Shown)
    → object_of c ≡ Some o → slot_at m o ≡ slot_of was → IsAtHand r → now.stamp ≡ was.object.stamp
    → ((r ≡ reply.Memory) ⊎ HasVersions was) → IsLeftTold c r was.object.told now.told
    → with_slot m o (slot_of (left_seen s r was now)) ≡ next m s (deed c r)
machine-told m s o c r was now on here hand stamp versions left = by hand
  where
    slot : Slot
    slot = slot_of (left_seen s r was now)

    worked_on : (r ≡ reply.Memory → ⊥) → HasVersions was
    worked_on other = elim versions [ inl memory ↦ absurd (other memory) | inr has ↦ has ]

    -- the slot of an object that the session holds
    held : holder_after s r was.holder ≡ Some s → (working : Plain) → now.told.working ≡ working
        → slot ≡ record {
          committed = (slot_at m o).committed;
          working = working;
          holder = Some s;
          stamp = (slot_at m o).stamp;
        }
    held holds working is =
        ap (λ h. slot_of (record { holder = h; object = now })) holds
        ∙ ap (λ x. record { committed = x; working = now.told.working; holder = Some s; stamp = now.stamp })
        (left.committed ∙ sym (ap (λ (x : Slot). x.committed) here))
        ∙ ap (λ x. record { committed = (slot_at m o).committed; working = x; holder = Some s; stamp = now.stamp }) is
        ∙ ap (λ k. record { committed = (slot_at m o).committed; working = working; holder = Some s; stamp = k })
        (stamp ∙ sym (ap (λ (x : Slot). x.stamp) here))

    by : IsAtHand r → with_slot m o slot ≡ next m s (deed c r)
    by (inl memory) =
        let told : now.told ≡ was.object.told =
        left.same (λ own. own-no_memory r own memory) in
        let same : slot ≡ slot_at m o =
        ap (λ h. slot_of (record { holder = h; object = now })) (memory-holder_after s r was.holder memory)
        ∙ ap (λ (t : Contents). slot_of (record { holder = was.holder; object = record { form = now.form; told = t; stamp = now.stamp } }))
        told
        ∙ ap (λ k. slot_of (record { holder = was.holder; object = record { form = now.form; told = was.object.told; stamp = k } })) stamp
        ∙ sym here in
        ap (with_slot m o) same ∙ ap (λ slots. record { slots = slots; seats = m.seats }) (set-get_or m.slots o no_slot)
        ∙ sym (ap (next m s) (ap (deed c) memory ∙ deed-memory c o on))
    by (inr (inl own)) =
        let has = worked_on (own-no_memory r own) in
        let work : now.told.working ≡ after_in (with_bytes c) (slot_at m o).working =
        left.own own ∙ ap (after_in c) (sym has.working ∙ sym (ap (λ (x : Slot). x.working) here))
        ∙ sym (after_in-with_bytes c (slot_at m o).working) in
        ap (with_slot m o) (held (own-holder_after s r was.holder own) (after_in (with_bytes c) (slot_at m o).working) work)
        ∙ sym (ap (next m s) (deed-own c o r on own))
    by (inr (inr takes)) =
        let has = worked_on (taking-no_memory r takes) in
        let told : now.told ≡ was.object.told = left.same (λ own. taking-not_own r takes own) in
        let work : now.told.working ≡ (slot_at m o).working =
        ap (λ (t : Contents). t.working) told ∙ sym has.working ∙ sym (ap (λ (x : Slot). x.working) here) in
        ap (with_slot m o) (held (taking-holder_after s r was.holder takes) (slot_at m o).working work)
        ∙ sym (ap (next m s) (deed-taking c o r on takes))

-- and the reply is one of the machine
pub replies-told : (m : Machine) (s o : ℕ) (c : Command) (r : Reply) (was : Seen) (now : Shown) (before after : Works)
    → object_of c ≡ Some o → refused m s c ≡ None → slot_at m o ≡ slot_of was → IsMade c r was.object now before after
    → ((r ≡ reply.Memory) ⊎ HasVersions was) → (IsTrue (is_objects_own r) → r ≡ reply_in c was.object.told.working)
    → Replies m s c r
replies-told m s o c r was now before after on free here made versions right = by made.at_hand
  where
    answered_by : (r ≡ answer m c) ⊎ IsTrue (is_taking (deed c r)) → Replies m s c r
    answered_by is = inr (subst (λ t. MatchOption t (IsAnswered m c r) (λ refusal. r ≡ refusal)) (sym free) (answered-as m c o r on is))

    by : IsAtHand r → Replies m s c r
    by (inl memory) = inl (memory, made.memory memory)
    by (inr (inl own)) = elim versions [
      | inl memory ↦ absurd (own-no_memory r own memory)
      | inr has ↦ answered_by (inl (right own
          ∙ ap (reply_in c) (sym has.working ∙ sym (ap (λ (x : Slot). x.working) here)) ∙ sym (answer-object m c o on)))
    ]
    by (inr (inr takes)) = answered_by (inr (ap is_taking (deed-taking c o r on takes)))
