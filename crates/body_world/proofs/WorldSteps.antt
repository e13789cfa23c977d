-- A command that an object served is a step of the store.
use Rattle.std.proofs.Common.{◌≡◌, ℕ, Bool, List, set, Option, None}
use Rattle.std.proofs.Common.{refl, sym, ◌∙◌, subst, inl, inr}
use Rattle.std.specs.Prelude.{IsTrue}
use Rattle.eos_ops.specs.declared.command.Command.{Command}
use Rattle.eos_ops.specs.declared.reply.Reply.{Reply}
use Rattle.geometry_model.specs.Numbers.{Numbers}
use Rattle.layout_model.specs.Layout.{Tree}
use Rattle.machine.specs.Machine.{Machine, IsSession}
use Rattle.machine.specs.Replies.{refused}
use Rattle.moment_model.specs.Moment.{Moment}
use Rattle.moment_model.specs.Run.{Lays}
use Rattle.object_body.specs.Calls.{RefusesTaken}
use Rattle.object_body.specs.Form.{Contents, HaveLengthsBy}
use Rattle.shadow_txn.specs.Acts.{is_objects_own}
use Rattle.shadow_txn.specs.Transaction.{Transaction}
use Rattle.store_model.specs.Store.{IsOwedStep, IsToldStep}
use Rattle.body_world.specs.Served.{Works}
use Rattle.body_world.specs.Session.{Shown}
use Rattle.body_world.specs.Ties.{txn_at, machine_seen, moment_seen, viewed}
use Rattle.body_world.proofs.Made.{outcome-own, own-no_memory}
use Rattle.body_world.proofs.ServedMoments.{moves-still, agrees-still, moves-laid}
use Rattle.body_world.proofs.ServedMoments.{agrees-laid}
use Rattle.body_world.proofs.ServedSteps.{owed-served, left-still, left-laid}
use Rattle.body_world.proofs.ServedSteps.{machine-told, replies-told}
use Rattle.body_world.proofs.ServedRoles.{shown}
use Rattle.body_world.proofs.ServedWorlds.{Answered, own_space, slot-was, versions, machine-served, moment-served}

-- the step, over every device
pub step-owed : {T : Type 0} (tells : Bool) (suits : Contents → Type 0) (laid : Lays) (good : Numbers → Tree → Type 0)
    (show : T → Shown) (n : Numbers) (shelf : List (Option T)) (txns : List (Transaction T)) (i : ℕ) (c : Command) (o : ℕ) (r : Reply)
    (shelf' : List (Option T)) (txn' : Transaction T) (before after : Works)
    → (h : Answered tells suits laid good show n shelf txns i c o r shelf' txn' before after)
    → refused (machine_seen show shelf txns) (txn_at txns i).session c ≡ None
    → IsSession (machine_seen show shelf txns) (txn_at txns i).session
    → IsOwedStep (machine_seen show shelf txns) (txn_at txns i).session c r (machine_seen show shelf' (set txns i txn'))
step-owed tells suits laid good show n shelf txns i c o r shelf' txn' before after h free session =
    subst (IsOwedStep (machine_seen show shelf txns) (txn_at txns i).session c r) (sym (machine-served tells suits laid good show n shelf
    txns i c o r shelf' txn' before after h))
    (owed-served (machine_seen show shelf txns) (txn_at txns i).session o c r h.was h.now before after h.on free session
    (slot-was tells suits laid good show n shelf txns i c o r shelf' txn' before after h) h.made)

-- and where bytes are told
pub step-told : {T : Type 0} (tells : Bool) (suits : Contents → Type 0) (laid : Lays) (good : Numbers → Tree → Type 0)
    (show : T → Shown) (n : Numbers) (shelf : List (Option T)) (txns : List (Transaction T)) (i : ℕ) (c : Command) (o : ℕ) (r : Reply)
    (shelf' : List (Option T)) (txn' : Transaction T) (before after : Works)
    → (h : Answered tells suits laid good show n shelf txns i c o r shelf' txn' before after) → IsTrue tells
    → HaveLengthsBy suits → RefusesTaken laid
    → refused (machine_seen show shelf txns) (txn_at txns i).session c ≡ None
    → IsSession (machine_seen show shelf txns) (txn_at txns i).session
    → IsToldStep laid (viewed show n shelf txns) (txn_at txns i).session c r (viewed show n shelf' (set txns i txn'))
step-told tells suits laid good show n shelf txns i c o r shelf' txn' before after h tell lengths refuses free session =
    let m : Machine = machine_seen show shelf txns in
    let moment : Moment = moment_seen show shelf txns in
    let roles = h.world.roles tell in
    let see = shown tells suits laid good show n shelf txns i c o r shelf' txn' before after h roles in
    let version = versions tells suits laid good show n shelf txns i c o r shelf' txn' before after h tell in
    record {
      numbers = refl;
      event = record {
        session = session;
        reply = replies-told m (txn_at txns i).session o c r h.was h.now before after h.on free
            (slot-was tells suits laid good show n shelf txns i c o r shelf' txn' before after h)
            h.made version (h.fits.right tell);
      };
      machine = machine-served tells suits laid good show n shelf txns i c o r shelf' txn' before after h
          ∙ machine-told m (txn_at txns i).session o c r h.was h.now h.on (slot-was tells suits laid good show n shelf txns i c o r shelf'
          txn' before after h) h.made.at_hand
          h.made.stamp version (elim (h.told tell) [
            | inl still ↦ left-still laid (own_space txns i before) c r h.was.object h.now before after still
            | inr out ↦ left-laid laid (own_space txns i before) c r h.was.object h.now before after out
          ]);
      moment = λ past by. moment-served tells suits laid good show n shelf txns i c o r shelf' txn' before after h ∙ elim (h.told tell) [
        | inl still ↦ moves-still laid n (own_space txns i before) (txn_at txns i).session o past moment c r h.was.object h.now before after
            see.has_slot still
        | inr out ↦ moves-laid laid n (own_space txns i before) (txn_at txns i).session o past moment roles.views c r h.was.object h.now
            before
            after h.on see out
      ];
      agrees = elim (h.told tell) [
        | inl still ↦ agrees-still laid n (own_space txns i before) (txn_at txns i).session o moment roles.views c r h.was.object
            h.now
            before after refuses h.on see h.made.at_hand still
        | inr out ↦ elim (h.fits.tied tell) [
          | inl memory ↦
              let own : IsTrue (is_objects_own r) = subst (λ t. IsTrue (is_objects_own t)) (sym out.reply) (outcome-own out.outcome) in
              absurd (own-no_memory r own memory)
          | inr tied ↦ agrees-laid laid suits n (own_space txns i before) (txn_at txns i).session o moment roles.views c r h.was.object
              h.now
              before after lengths tied h.on see out
        ]
      ];
    }
