-- What a command made of its object, whatever the command is: over every device, and where bytes are told.
use Rattle.std.proofs.Common.{◌≡◌, ℕ, ◌+◌, ◌<◌, Bool, true, false, List, length, Option, Some, None, Result, Ok, Err, nat_le, refl, ap}
use Rattle.std.proofs.Common.{sym, ◌∙◌, subst, inl, inr, ◌⊎◌}
use Rattle.std.specs.Prelude.{IsTrue, MatchOption, if◌then◌else◌}
use Rattle.std.proofs.lemmas.Bool.{false≢true}
use Rattle.base_laws.proofs.OptionLaws.{some-inner}
use Rattle.eos_ops.specs.declared.command.Command.{Command}
use Rattle.eos_ops.specs.declared.command.Command.TheVariants.{Begin, Create, Destroy, Length, Read, Append, Insert, Delete, Replace}
use Rattle.eos_ops.specs.declared.command.Command.TheVariants.{Commit, Abort, Status}
use Rattle.eos_ops.specs.declared.edit.Edit.{Edit}
use Rattle.eos_ops.specs.declared.outcome.Outcome.{Outcome}
use Rattle.eos_ops.specs.declared.outcome.Outcome.TheVariants.{Done}
use Rattle.eos_ops.specs.declared.outcome.Outcome.TheVariants as outcomes
use Rattle.eos_ops.specs.declared.reply.Reply.{Reply}
use Rattle.eos_ops.specs.declared.reply.Reply.TheVariants as reply
use Rattle.eos_ops.specs.Edits.{edited}
use Rattle.eos_ops.specs.Memory.{MayTakeMemory}
use Rattle.eos_ops.specs.Objects.{edit_of, reply_of}
use Rattle.fault_count.specs.Counts.{HasCause, IsUsed, Meter}
use Rattle.geometry_model.specs.Numbers.{Numbers}
use Rattle.moment_model.specs.Moment.{ObjectSlot}
use Rattle.moment_model.specs.Run.{Lays, is_ok_reply}
use Rattle.object_body.specs.declared.fails.EditFail.{EditFail}
use Rattle.object_body.specs.declared.fails.EditFail.TheVariants as fails
use Rattle.object_body.specs.declared.fails.LookFail.{LookFail}
use Rattle.object_body.specs.declared.fails.LookFail.TheVariants as looks
use Rattle.object_body.specs.Calls.{IsEdit, slot_in, pages_in}
use Rattle.object_body.specs.Form.{Form, Contents}
use Rattle.object_body.specs.Lengths.{outcome_of}
use Rattle.object_body.specs.Moves.{MovesTold, IsUntouched}
use Rattle.object_body.specs.Places.{AreHome}
use Rattle.object_body.proofs.CallLemmas.{used-not, cause-none}
use Rattle.object_body.proofs.MemoryLemmas.{command-may_take}
use Rattle.object_body.proofs.MoveLemmas.{same-untouched}
use Rattle.shadow_txn.specs.Acts.{is_objects_own}
use Rattle.space_directory.specs.SpaceView.{SpaceView}
use Rattle.superdirectory.specs.Grants.{AreTold, KeepsFrame, free_sets}
use Rattle.superdirectory.specs.Rest.{count}
use Rattle.body_txn.specs.Calls.{MakesEdit, MakesRead}
use Rattle.body_txn.specs.Ending.{Standing, staged}
use Rattle.body_txn.specs.Replies.{made_reply, look_reply, reply_by_length, refusal_by_length, IsReplyOrMemory}
use Rattle.body_world.specs.Served.{Works, MakesEdited, MakesCommand}
use Rattle.body_world.specs.Session.{Shown}

-- the object's space or device refused it: it is held, and nothing was done to it
abbrev pub is_taking_reply : Reply → Bool
is_taking_reply (reply.NoSpace pages) = true
is_taking_reply reply.Fault = true
is_taking_reply r = false

-- the replies to a command on an object that is at hand
abbrev pub IsAtHand : Reply → Type 0
IsAtHand r = (r ≡ reply.Memory) ⊎ (IsTrue (is_objects_own r) ⊎ IsTrue (is_taking_reply r))

-- over every device
pub record IsMade (c : Command) (r : Reply) (x y : Shown) (before after : Works) : Type 0 where
  pub stamp : y.stamp ≡ x.stamp
  pub numbers : y.form.numbers ≡ x.form.numbers
  pub form : r ≡ reply.Memory → y.form ≡ x.form
  pub memory : r ≡ reply.Memory → MayTakeMemory c
  pub frame : before.spaces.rest.entered ≡ None → KeepsFrame before.spaces.rest after.spaces.rest
  pub used : IsUsed before.meter after.meter
  pub cause : HasCause before.meter.faults after.meter.faults (r ≡ reply.Fault)
  pub at_hand : IsAtHand r

-- the edit of the command was refused these pages, as its kind lays it out
pub record WasRefused (laid : Lays) (start : ℕ) (c : Command) (x : Shown) (before : Works) (pages : ℕ) : Type 0 where
  pub edit : Edit
  pub is : edit_of c ≡ Some edit
  pub refused : (views : List SpaceView) → AreTold before.spaces.rest views → length views ≡ count before.spaces.rest
      → pages_in (laid x.form.numbers start (free_sets views) x.told.slot edit) ≡ Some pages

-- told: the object and the spaces stayed as they were
pub record IsStill (laid : Lays) (start : ℕ) (c : Command) (r : Reply) (x y : Shown) (before after : Works) : Type 0 where
  pub same : y.told ≡ x.told
  pub spaces : (views : List SpaceView) → AreTold before.spaces.rest views → AreHome before.spaces.rest.frame views
      → IsUntouched x.form.numbers before.spaces.rest.frame views after.spaces.rest
  pub not_ok : is_ok_reply r ≡ false
  pub look : IsTrue (is_objects_own r) → edit_of c ≡ None
  pub refused : (pages : ℕ) → r ≡ reply.NoSpace pages → WasRefused laid start c x before pages

-- told: the edit was laid out, and the spaces moved with the object
pub record IsLaidOut (laid : Lays) (start : ℕ) (c : Command) (r : Reply) (x y : Shown) (before after : Works) : Type 0 where
  pub edit : Edit
  pub is : edit_of c ≡ Some edit
  pub outcome : Outcome
  pub reply : r ≡ reply_of outcome
  pub by_length : outcome ≡ outcome_of edit x.form.working
  pub slot : (views : List SpaceView) → AreTold before.spaces.rest views → length views ≡ count before.spaces.rest
      → slot_in (laid x.form.numbers start (free_sets views) x.told.slot edit) ≡ Some y.told.slot
  pub spaces : (views : List SpaceView) → AreTold before.spaces.rest views → AreHome before.spaces.rest.frame views
      → MovesTold x.form.numbers before.spaces.rest.frame views x.told.slot y.told.slot after.spaces.rest
  pub unmade : (outcome ≡ Done → ⊥) → y.told ≡ x.told
  pub working : y.told.working ≡ edited edit x.told.working
  pub committed : y.told.committed ≡ x.told.committed

-- an edit, a read, or a look at the length
abbrev pub Cases : Bool → (Contents → Type 0) → Lays → (Numbers → ObjectSlot → ℕ → Type 0)
    → (Numbers → ObjectSlot → Edit → ObjectSlot → ℕ → Type 0) → (Numbers → ObjectSlot → ℕ → ℕ → Type 0) → ℕ → Command → Reply
    → Shown → Shown → Works → Works → Type 0
Cases tells suits laid may_refuse may_write may_read start c r x y before after =
    ((e : Edit) × (edit_of c ≡ Some e) × MakesEdited tells suits laid may_refuse may_write start e r x y before after)
    ⊎ ((edit_of c ≡ None) × (((at : ℕ) × (n : ℕ) × (0 < n → MayTakeMemory c) × (y.stamp ≡ x.stamp) × (after.spaces ≡ before.spaces)
    × MakesRead tells suits may_read false at n r x.form y.form x.told y.told before.meter after.meter)
    ⊎ ((r ≡ reply_by_length x.form.working) × (y ≡ x) × (after ≡ before))))

pub by-command : (tells : Bool) (suits : Contents → Type 0) (laid : Lays) (may_refuse : Numbers → ObjectSlot → ℕ → Type 0)
    (may_write : Numbers → ObjectSlot → Edit → ObjectSlot → ℕ → Type 0) (may_read : Numbers → ObjectSlot → ℕ → ℕ → Type 0)
    (start : ℕ) (c : Command) (r : Reply) (x y : Shown) (before after : Works)
    → MakesCommand tells suits laid may_refuse may_write may_read start c r x y before after
    → Cases tells suits laid may_refuse may_write may_read start c r x y before after
by-command tells suits laid may_refuse may_write may_read start (Create o t) r x y before after made = inl (_, refl, made)
by-command tells suits laid may_refuse may_write may_read start (Destroy o) r x y before after made = inl (_, refl, made)
by-command tells suits laid may_refuse may_write may_read start (Append o p) r x y before after made = inl (_, refl, made)
by-command tells suits laid may_refuse may_write may_read start (Insert o at p) r x y before after made = inl (_, refl, made)
by-command tells suits laid may_refuse may_write may_read start (Delete o at n) r x y before after made = inl (_, refl, made)
by-command tells suits laid may_refuse may_write may_read start (Replace o at p) r x y before after made = inl (_, refl, made)
by-command tells suits laid may_refuse may_write may_read start (Read o at n) r x y before after made = inr (
  refl,
  inl (
    at,
    n,
    (λ some. some),
    made.0,
    made.1,
    made.2,
  ),
)
by-command tells suits laid may_refuse may_write may_read start (Length o) r x y before after made = inr (refl, inr made)
by-command tells suits laid may_refuse may_write may_read start Begin r x y before after made = absurd made
by-command tells suits laid may_refuse may_write may_read start Commit r x y before after made = absurd made
by-command tells suits laid may_refuse may_write may_read start Abort r x y before after made = absurd made
by-command tells suits laid may_refuse may_write may_read start Status r x y before after made = absurd made

-- a read that is refused by the length, or that was made
pub read-cases : {A : Type 0} (refusal : Option Reply) (P : Reply → Type 0) → MatchOption refusal A P
    → A ⊎ ((r : Reply) × (refusal ≡ Some r) × P r)
read-cases None P made = inl made
read-cases (Some r) P made = inr (r, refl, made)

-- a refusal by the length is the object's own
refusal-own : (at n : ℕ) (len : Option ℕ) (r : Reply) → refusal_by_length at n len ≡ Some r
    → IsTrue (is_objects_own r) × (is_ok_reply r ≡ false)
refusal-own at n None r is = let same : reply.Missing ≡ r = some-inner reply.Missing r is in
    subst (λ t. IsTrue (is_objects_own t) × (is_ok_reply t ≡ false)) same (refl, refl)
refusal-own at n (Some len) r is = by (nat_le (at + n) len) is
  where
    by : (b : Bool) → (if b then None else Some (reply.Range len)) ≡ Some r → IsTrue (is_objects_own r) × (is_ok_reply r ≡ false)
    by true is = absurd cc
    by false is = let same : reply.Range len ≡ r = some-inner (reply.Range len) r is in
        subst (λ t. IsTrue (is_objects_own t) × (is_ok_reply t ≡ false)) same (refl, refl)

length-own : (len : Option ℕ) → IsTrue (is_objects_own (reply_by_length len)) × (is_ok_reply (reply_by_length len) ≡ false)
length-own None = (refl, refl)
length-own (Some n) = (refl, refl)

only-reply : (got due : Reply) → IsReplyOrMemory false got due → got ≡ due
only-reply got due answer = elim answer [ inl so ↦ so | inr none ↦ absurd (false≢true none.0) ]

-- an own reply isn't a fault, nor want of memory
pub own-no_fault : (r : Reply) → IsTrue (is_objects_own r) → r ≡ reply.Fault → ⊥
own-no_fault r own is = let wrong : IsTrue (is_objects_own reply.Fault) = subst (λ t. IsTrue (is_objects_own t)) is own in
    absurd (false≢true wrong)

pub own-no_memory : (r : Reply) → IsTrue (is_objects_own r) → r ≡ reply.Memory → ⊥
own-no_memory r own is = let wrong : IsTrue (is_objects_own reply.Memory) = subst (λ t. IsTrue (is_objects_own t)) is own in
    absurd (false≢true wrong)

pub own-no_space : (r : Reply) (pages : ℕ) → IsTrue (is_objects_own r) → r ≡ reply.NoSpace pages → ⊥
own-no_space r pages own is = let wrong : IsTrue (is_objects_own (reply.NoSpace pages)) = subst (λ t. IsTrue (is_objects_own t)) is own in
    absurd (false≢true wrong)

pub outcome-own : (o : Outcome) → IsTrue (is_objects_own (reply_of o))
outcome-own outcomes.Done = refl
outcome-own outcomes.Exists = refl
outcome-own outcomes.Missing = refl
outcome-own (outcomes.Range n) = refl

-- the cause of one failure is that of another that comes just with it
cause-as : (old new : ℕ) (F G : Type 0) → (G → F) → (F → G) → HasCause old new F → HasCause old new G
cause-as old new F G back to cause = record {
  kept = cause.kept;
  raised = λ failed. cause.raised (back failed);
  still = λ none. cause.still (λ failed. none (to failed));
}

-- nothing happened
made-nothing : (c : Command) (r : Reply) (x y : Shown) (before after : Works) → IsAtHand r → (r ≡ reply.Fault → ⊥)
    → (r ≡ reply.Memory → MayTakeMemory c) → y ≡ x → after ≡ before → IsMade c r x y before after
made-nothing c r x y before after hand calm may same still =
    subst (λ z. IsMade c r x z before after) (sym same) (subst (λ w. IsMade c r x x before w) (sym still) (record {
      stamp = refl;
      numbers = refl;
      form = λ memory. refl;
      memory = may;
      frame = λ none. record { frame = refl; entered = none };
      used = used-not before.meter;
      cause = cause-none before.meter.faults (r ≡ reply.Fault) calm;
      at_hand = hand;
    }))

-- the reply tells which answer it was
made-fault : (answer : Result Outcome EditFail) → made_reply answer ≡ reply.Fault → answer ≡ Err fails.Fault
made-fault (Ok o) is = absurd (own-no_fault (reply_of o) (outcome-own o) is)
made-fault (Err (fails.NoSpace pages)) is = absurd cc
made-fault (Err fails.Fault) is = refl
made-fault (Err fails.Memory) is = absurd cc

look-fault : (answer : Result (List ℕ) LookFail) → look_reply answer ≡ reply.Fault → answer ≡ Err looks.Fault
look-fault (Ok bytes) is = absurd cc
look-fault (Err looks.Fault) is = refl
look-fault (Err looks.Memory) is = absurd cc

pub made-memory : (answer : Result Outcome EditFail) → made_reply answer ≡ reply.Memory → answer ≡ Err fails.Memory
made-memory (Ok o) is = absurd (own-no_memory (reply_of o) (outcome-own o) is)
made-memory (Err (fails.NoSpace pages)) is = absurd cc
made-memory (Err fails.Fault) is = absurd cc
made-memory (Err fails.Memory) is = refl

pub look-memory : (answer : Result (List ℕ) LookFail) → look_reply answer ≡ reply.Memory → answer ≡ Err looks.Memory
look-memory (Ok bytes) is = absurd cc
look-memory (Err looks.Fault) is = absurd cc
look-memory (Err looks.Memory) is = refl

made-at_hand : (answer : Result Outcome EditFail) → IsAtHand (made_reply answer)
made-at_hand (Ok o) = inr (inl (outcome-own o))
made-at_hand (Err (fails.NoSpace pages)) = inr (inr refl)
made-at_hand (Err fails.Fault) = inr (inr refl)
made-at_hand (Err fails.Memory) = inl refl

look-at_hand : (answer : Result (List ℕ) LookFail) → IsAtHand (look_reply answer)
look-at_hand (Ok bytes) = inr (inl refl)
look-at_hand (Err looks.Fault) = inr (inr refl)
look-at_hand (Err looks.Memory) = inl refl

-- an edit leaves the numbers
edit-numbers : (tells : Bool) (suits : Contents → Type 0) (laid : Lays) (may_refuse : Numbers → ObjectSlot → ℕ → Type 0)
    (may_write : Numbers → ObjectSlot → Edit → ObjectSlot → ℕ → Type 0) (start : ℕ) (e : Edit) (answer : Result Outcome EditFail)
    (x y : Shown) (before after : Works)
    → IsEdit tells suits laid may_refuse may_write start e answer (staged x.form x.told before.spaces) (staged y.form y.told after.spaces)
    before.meter after.meter → y.form.numbers ≡ x.form.numbers
edit-numbers tells suits laid may_refuse may_write start e (Ok o) x y before after body = body.form.numbers
edit-numbers tells suits laid may_refuse may_write start e (Err why) x y before after body = ap (λ (f : Form). f.numbers) body.unmade

-- over every device
pub made : (tells : Bool) (suits : Contents → Type 0) (laid : Lays) (may_refuse : Numbers → ObjectSlot → ℕ → Type 0)
    (may_write : Numbers → ObjectSlot → Edit → ObjectSlot → ℕ → Type 0) (may_read : Numbers → ObjectSlot → ℕ → ℕ → Type 0)
    (start : ℕ) (c : Command) (r : Reply) (x y : Shown) (before after : Works)
    → MakesCommand tells suits laid may_refuse may_write may_read start c r x y before after → IsMade c r x y before after
made tells suits laid may_refuse may_write may_read start c r x y before after makes =
    elim (by-command tells suits laid may_refuse may_write may_read start c r x y before after makes) [
      | inl edit ↦ elim edit.2 [
        | inl none ↦ made-nothing c r x y before after (inl none.0)
            (λ is. let wrong : reply.Memory ≡ reply.Fault = sym none.0 ∙ is in absurd cc)
            (λ is. command-may_take c edit.0 edit.1 none.1) none.2 none.3
        | inr call ↦ by-edit edit.0 edit.1 call.0 call.1
      ]
      | inr other ↦ elim other.1 [
        | inl read ↦ by-read read.0 read.1 read.2 read.3 read.4 read.5
        | inr look ↦
            let own : IsTrue (is_objects_own r) = subst (λ t. IsTrue (is_objects_own t)) (sym look.0) (length-own x.form.working).0 in
            made-nothing c r x y before after (inr (inl own)) (own-no_fault r own) (λ is. absurd (own-no_memory r own is)) look.1 look.2
      ]
    ]
  where
    by-edit : (e : Edit) → edit_of c ≡ Some e → y.stamp ≡ x.stamp
        → MakesEdit tells suits laid may_refuse may_write start e r (staged x.form x.told before.spaces) (staged y.form y.told after.spaces)
        before.meter after.meter → IsMade c r x y before after
    by-edit e is stamp call = record {
      stamp = stamp;
      numbers = edit-numbers tells suits laid may_refuse may_write start e call.answer x y before after call.body;
      form = λ memory.
          let none : call.answer ≡ Err fails.Memory = made-memory call.answer (sym call.reply ∙ memory) in
          (subst (λ a. IsEdit tells suits laid may_refuse may_write start e a (staged x.form x.told before.spaces)
          (staged y.form y.told after.spaces) before.meter after.meter) none call.body).unmade;
      memory = λ memory. command-may_take c e is (call.body.memory (made-memory call.answer (sym call.reply ∙ memory)));
      frame = λ none. call.body.rest;
      used = call.body.port;
      cause = cause-as before.meter.faults after.meter.faults (call.answer ≡ Err fails.Fault) (r ≡ reply.Fault)
          (λ is. made-fault call.answer (sym call.reply ∙ is)) (λ is. call.reply ∙ ap made_reply is) call.body.cause;
      at_hand = subst IsAtHand (sym call.reply) (made-at_hand call.answer);
    }

    by-read : (at n : ℕ) → (0 < n → MayTakeMemory c) → y.stamp ≡ x.stamp → after.spaces ≡ before.spaces
        → MakesRead tells suits may_read false at n r x.form y.form x.told y.told before.meter after.meter → IsMade c r x y before after
    by-read at n may stamp still call = elim (read-cases (refusal_by_length at n x.form.working)
        (λ refusal. IsReplyOrMemory false r refusal × (y.form ≡ x.form) × (y.told ≡ x.told) × (after.meter ≡ before.meter)) call) [
          | inl look ↦ record {
            stamp = stamp;
            numbers = ap (λ (f : Form). f.numbers) look.body.same;
            form = λ memory. look.body.same;
            memory = λ memory. may (look.body.memory
                (look-memory look.answer (sym (only-reply r (look_reply look.answer) look.reply) ∙ memory)));
            frame = λ none. subst (λ (s : Standing). KeepsFrame before.spaces.rest s.rest) (sym still) (record {
              frame = refl;
              entered = none;
            });
            used = look.body.port;
            cause = cause-as before.meter.faults after.meter.faults (look.answer ≡ Err looks.Fault) (r ≡ reply.Fault)
                (λ is. look-fault look.answer (sym (only-reply r (look_reply look.answer) look.reply) ∙ is))
                (λ is. only-reply r (look_reply look.answer) look.reply ∙ ap look_reply is) look.body.cause;
            at_hand = subst IsAtHand (sym (only-reply r (look_reply look.answer) look.reply)) (look-at_hand look.answer);
          }
          | inr refused ↦
              let own : IsTrue (is_objects_own r) = subst (λ t. IsTrue (is_objects_own t))
              (sym (only-reply r refused.0 refused.2.0)) (refusal-own at n x.form.working refused.0 refused.1).0 in
              record {
                stamp = stamp;
                numbers = ap (λ (f : Form). f.numbers) refused.2.1;
                form = λ memory. refused.2.1;
                memory = λ memory. absurd (own-no_memory r own memory);
                frame = λ none. subst (λ (s : Standing). KeepsFrame before.spaces.rest s.rest) (sym still) (record {
                  frame = refl;
                  entered = none;
                });
                used = subst (IsUsed before.meter) (sym refused.2.3) (used-not before.meter);
                cause = subst (λ (m : Meter). HasCause before.meter.faults m.faults (r ≡ reply.Fault)) (sym refused.2.3)
                    (cause-none before.meter.faults (r ≡ reply.Fault) (own-no_fault r own));
                at_hand = inr (inl own);
              }
        ]

-- an answer that isn't a refusal for pages
no-pages : (laid : Lays) (start : ℕ) (c : Command) (x : Shown) (before : Works) (r : Reply) → ((pages : ℕ) → r ≡ reply.NoSpace pages → ⊥)
    → (pages : ℕ) → r ≡ reply.NoSpace pages → WasRefused laid start c x before pages
no-pages laid start c x before r never pages is = absurd (never pages is)

-- told, and nothing happened to the spaces
still-nothing : (laid : Lays) (start : ℕ) (c : Command) (r : Reply) (x y : Shown) (before after : Works) → y.told ≡ x.told
    → after.spaces ≡ before.spaces → is_ok_reply r ≡ false → (IsTrue (is_objects_own r) → edit_of c ≡ None)
    → ((pages : ℕ) → r ≡ reply.NoSpace pages → ⊥) → IsStill laid start c r x y before after
still-nothing laid start c r x y before after same still not_ok look never = record {
  same = same;
  spaces = λ views told home. subst (λ (s : Standing). IsUntouched x.form.numbers before.spaces.rest.frame views s.rest) (sym still)
      (same-untouched x.form.numbers before.spaces.rest.frame views before.spaces.rest told home);
  not_ok = not_ok;
  look = look;
  refused = no-pages laid start c x before r never;
}

-- told
pub made-told : (tells : Bool) (suits : Contents → Type 0) (laid : Lays) (may_refuse : Numbers → ObjectSlot → ℕ → Type 0)
    (may_write : Numbers → ObjectSlot → Edit → ObjectSlot → ℕ → Type 0) (may_read : Numbers → ObjectSlot → ℕ → ℕ → Type 0)
    (start : ℕ) (c : Command) (r : Reply) (x y : Shown) (before after : Works) → IsTrue tells
    → MakesCommand tells suits laid may_refuse may_write may_read start c r x y before after
    → IsStill laid start c r x y before after ⊎ IsLaidOut laid start c r x y before after
made-told tells suits laid may_refuse may_write may_read start c r x y before after tell makes =
    elim (by-command tells suits laid may_refuse may_write may_read start c r x y before after makes) [
      | inl edit ↦ elim edit.2 [
        | inl none ↦ inl (still-nothing laid start c r x y before after (ap (λ (z : Shown). z.told) none.2)
            (ap (λ (w : Works). w.spaces) none.3) (ap is_ok_reply none.0)
            (λ own. absurd (own-no_memory r own none.0))
            (λ pages is. let wrong : reply.Memory ≡ reply.NoSpace pages = sym none.0 ∙ is in absurd cc))
        | inr call ↦ by-answer edit.0 edit.1 call.1.answer call.1.reply call.1.body
      ]
      | inr other ↦ elim other.1 [
        | inl read ↦ inl (by-read other.0 read.0 read.1 read.4 read.5)
        | inr look ↦
            let own = length-own x.form.working in
            let is_own : IsTrue (is_objects_own r) = subst (λ t. IsTrue (is_objects_own t)) (sym look.0) own.0 in
            inl (still-nothing laid start c r x y before after (ap (λ (z : Shown). z.told) look.1)
            (ap (λ (w : Works). w.spaces) look.2) (ap is_ok_reply look.0 ∙ own.1) (λ own. other.0)
            (λ pages is. own-no_space r pages is_own is))
      ]
    ]
  where
    by-answer : (e : Edit) → edit_of c ≡ Some e → (answer : Result Outcome EditFail) → r ≡ made_reply answer
        → IsEdit tells suits laid may_refuse may_write start e answer (staged x.form x.told before.spaces)
        (staged y.form y.told after.spaces) before.meter after.meter
        → IsStill laid start c r x y before after ⊎ IsLaidOut laid start c r x y before after
    by-answer e is (Ok o) said body = inr (record {
      edit = e;
      is = is;
      outcome = o;
      reply = said;
      by_length = body.outcome;
      slot = λ views told long. (body.told tell).granted views told long;
      spaces = λ views told home. (body.told tell).spaces views told home;
      unmade = (body.told tell).unmade;
      working = (body.told tell).working;
      committed = (body.told tell).committed;
    })
    by-answer e is (Err (fails.NoSpace pages)) said body = inl (record {
      same = (body.told tell).unmade;
      spaces = λ views told home. (body.told tell).spaces views told home;
      not_ok = ap is_ok_reply said;
      look = λ own. absurd (own-no_space r pages own said);
      refused = λ k named. record {
        edit = e;
        is = is;
        refused = λ views told long.
            let same : reply.NoSpace pages ≡ reply.NoSpace k = sym said ∙ named in
            let count : pages ≡ k = cc in
            (body.told tell).granted views told long ∙ ap Some count;
      };
    })
    by-answer e is (Err fails.Fault) said body = inl (record {
      same = (body.told tell).unmade;
      spaces = λ views told home. (body.told tell).spaces views told home;
      not_ok = ap is_ok_reply said;
      look = λ own. absurd (own-no_fault r own said);
      refused = λ k named. let wrong : reply.Fault ≡ reply.NoSpace k = sym said ∙ named in absurd cc;
    })
    by-answer e is (Err fails.Memory) said body = inl (record {
      same = (body.told tell).unmade;
      spaces = λ views told home. (body.told tell).spaces views told home;
      not_ok = ap is_ok_reply said;
      look = λ own. absurd (own-no_memory r own said);
      refused = λ k named. let wrong : reply.Memory ≡ reply.NoSpace k = sym said ∙ named in absurd cc;
    })

    look-not_ok : (answer : Result (List ℕ) LookFail) → is_ok_reply (look_reply answer) ≡ false
    look-not_ok (Ok bytes) = refl
    look-not_ok (Err looks.Fault) = refl
    look-not_ok (Err looks.Memory) = refl

    look-no_space : (answer : Result (List ℕ) LookFail) (pages : ℕ) → look_reply answer ≡ reply.NoSpace pages → ⊥
    look-no_space (Ok bytes) pages is = absurd cc
    look-no_space (Err looks.Fault) pages is = absurd cc
    look-no_space (Err looks.Memory) pages is = absurd cc

    by-read : edit_of c ≡ None → (at n : ℕ) → after.spaces ≡ before.spaces
        → MakesRead tells suits may_read false at n r x.form y.form x.told y.told before.meter after.meter
        → IsStill laid start c r x y before after
    by-read none at n still call = elim (read-cases (refusal_by_length at n x.form.working)
        (λ refusal. IsReplyOrMemory false r refusal × (y.form ≡ x.form) × (y.told ≡ x.told) × (after.meter ≡ before.meter)) call) [
          | inl look ↦
              let same : r ≡ look_reply look.answer = only-reply r (look_reply look.answer) look.reply in
              still-nothing laid start c r x y before after (look.body.kept tell) still (ap is_ok_reply same ∙ look-not_ok look.answer)
              (λ own. none) (λ pages is. look-no_space look.answer pages (sym same ∙ is))
          | inr refused ↦
              let same : r ≡ refused.0 = only-reply r refused.0 refused.2.0 in
              let own = refusal-own at n x.form.working refused.0 refused.1 in
              still-nothing laid start c r x y before after refused.2.2 still (ap is_ok_reply same ∙ own.1) (λ own. none)
              (λ pages is. own-no_space refused.0 pages own.0 (sym same ∙ is))
        ]
