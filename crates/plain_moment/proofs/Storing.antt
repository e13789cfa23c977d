-- A step of the plain store, from the step of its machine and the move of its moment.
use Rattle.std.proofs.Common.{◌≡◌, ℕ, zero, suc, Result, Ok, Err, IfOk, OnOk, replicate, ◌<◌, ◌≤◌, Bool, true}
use Rattle.std.proofs.Common.{false, List, ◌∷◌, Option, Some, None, IsTrue, MatchOption, map, set, length}
use Rattle.std.proofs.Common.{if◌then◌else◌, refl, sym, ap, subst, ◌∙◌, inr, arith}
use Rattle.eos_ops.specs.declared.command.Command.{Command}
use Rattle.eos_ops.specs.declared.command.Command.TheVariants.{Begin, Create, Destroy, Length, Read, Append, Insert}
use Rattle.eos_ops.specs.declared.command.Command.TheVariants.{Delete, Replace, Commit, Abort, Status}
use Rattle.eos_ops.specs.declared.edit.Edit.{Edit}
use Rattle.eos_ops.specs.declared.limits.TheConstants.{SESSIONS}
use Rattle.eos_ops.specs.declared.plain.Plain.TheVariants.{Absent}
use Rattle.eos_ops.specs.declared.reply.Reply.{Reply}
use Rattle.eos_ops.specs.declared.reply.Reply.TheVariants as reply
use Rattle.eos_ops.specs.Objects.{object_of, edit_of, is_too_long}
use Rattle.history.specs.Event.{Deed, Takes, Closes, deed, bounded, is_done}
use Rattle.history.specs.Refusals.{session_refusal, or_else}
use Rattle.history.proofs.EventLaws.{deed-object}
use Rattle.layout_model.specs.Grants.{Spaces}
use Rattle.layout_model.specs.Grants.Answer.{Got, Refused}
use Rattle.machine.specs.Machine.{Machine, IsSession, seat_at, new_slot, fresh}
use Rattle.machine.specs.Next.{next}
use Rattle.machine.specs.Replies.{IsStep, refused, IsAnswered, is_taking}
use Rattle.machine.proofs.Replying.{Replies-answers}
use Rattle.machine.proofs.Sizes.{seats-next}
use Rattle.machine.proofs.Answering.{unrefused}
use Rattle.moment_model.specs.Edit.{edited_slot}
use Rattle.moment_model.specs.Moment.{ObjectSlot, with_object_slot}
use Rattle.moment_model.specs.Run.{answer_to, AreCounts, is_accepted, is_ok_reply}
use Rattle.moment_model.proofs.ReplyLemmas.{ok_is}
use Rattle.plain_moment.specs.Holders.{ended_by}
use Rattle.plain_moment.specs.Stored.{Stored, HoldersAgree, IsStoreStep, HasServedPlain, IsTaking, taken_store}
use Rattle.plain_moment.specs.Stored.{holder_in, holders_after, let_go, is_unfailing, is_bare, is_look, is_memory}
use Rattle.plain_moment.proofs.Replied.{holders_next, refused_same, refused_deed, looked_free, unlooked_refused, looked_next}
use Rattle.plain_moment.proofs.Moved.{committed_moved, aborted_moved, begun_moved, unmoved, unedited_moved}
use Rattle.plain_moment.proofs.Moved.{edited_moved, agrees_bare, ok_unedited, ok_edited, nospace_agrees}

session_in : (w : Stored) (s : ℕ) → HoldersAgree w → 0 < s → s ≤ SESSIONS → IsSession w.machine s
session_in w s tied low high = record { from_one = low; within = omega (arith, tied.sessions, high) }

-- the holders stay those of the machine
pub tied_next : (w w' : Stored) (s : ℕ) (d : Deed) → HoldersAgree w → w'.machine ≡ next w.machine s d →
    w'.holders ≡ holders_after s d w.holders → HoldersAgree w'
tied_next w w' s d tied machine holders = record {
  sessions = ap (λ m. length m.seats) machine ∙ (seats-next d w.machine s ∙ tied.sessions);
  holders = holders ∙ (ap (holders_after s d) tied.holders
      ∙ (sym (holders_next d w.machine s) ∙ ap (λ m. map holder_in m.slots) (sym machine)));
}

bare_unfailing : (r : Reply) → IsTrue (is_bare r) → IsTrue (is_unfailing r)
bare_unfailing reply.Ok bare = refl
bare_unfailing (reply.Length n) bare = refl
bare_unfailing (reply.Bytes x) bare = refl
bare_unfailing (reply.Range n) bare = refl
bare_unfailing reply.Exists bare = refl
bare_unfailing reply.Missing bare = refl
bare_unfailing (reply.NoSpace n) bare = refl
bare_unfailing reply.Fault bare = cc
bare_unfailing reply.Busy bare = refl
bare_unfailing reply.Full bare = refl
bare_unfailing reply.NoObject bare = refl
bare_unfailing reply.Memory bare = cc
bare_unfailing reply.Idle bare = refl
bare_unfailing reply.Active bare = refl
bare_unfailing reply.TooLong bare = refl
bare_unfailing reply.Worn bare = refl
bare_unfailing (reply.Status f l h) bare = refl
bare_unfailing reply.Again bare = refl

-- a command on an object that edits nothing
pub unedited_step : (w w' : Stored) (s o : ℕ) (c : Command) (r : Reply) → HoldersAgree w → 0 < s → s ≤ SESSIONS →
    object_of c ≡ Some o → edit_of c ≡ None → HasServedPlain w s c r w' → IsStoreStep w s c r w'
unedited_step w w' s o c r tied low high on none served = record {
  told = record {
    numbers = served.numbers;
    event = record { session = session_in w s tied low high; reply = Replies-answers w.machine s c r served.step.reply };
    machine = served.step.state;
    moment = λ past by. served.moment ∙ unedited_moved w.numbers s past w.moment c r o on none;
    agrees = agrees_bare w.numbers w.moment s c r served.bare (λ _. ok_unedited w.numbers w.moment s (object_of c) (edit_of c) none);
  };
  unfailing = bare_unfailing r served.bare;
}

pub served_tied : (w w' : Stored) (s : ℕ) (c : Command) (r : Reply) → HoldersAgree w → HasServedPlain w s c r w' → HoldersAgree w'
served_tied w w' s c r tied served = tied_next w w' s (deed c r) tied served.step.state served.holders

-- an edit that was granted what it asks for: a reply other than `ok` leaves the moment
pub edited_other : (w w' : Stored) (s : ℕ) (c : Command) (r : Reply) → HoldersAgree w → 0 < s → s ≤ SESSIONS →
    is_ok_reply r ≡ false → HasServedPlain w s c r w' → IsStoreStep w s c r w'
edited_other w w' s c r tied low high other served = record {
  told = record {
    numbers = served.numbers;
    event = record { session = session_in w s tied low high; reply = Replies-answers w.machine s c r served.step.reply };
    machine = served.step.state;
    moment = λ past by. served.moment ∙ unmoved w.numbers s past w.moment c r other;
    agrees = agrees_bare w.numbers w.moment s c r served.bare (λ ok. absurd (cc));
  };
  unfailing = bare_unfailing r served.bare;
}

-- and `ok` puts the slot in its place
pub edited_step : (w w' w2 : Stored) (s o : ℕ) (c : Command) (e : Edit) (slot : ObjectSlot) (left : Spaces) →
    HoldersAgree w → 0 < s → s ≤ SESSIONS → object_of c ≡ Some o → edit_of c ≡ Some e →
    is_accepted w.moment o e ≡ true → Got slot left ≡ answer_to edited_slot w.numbers w.moment s o e →
    HasServedPlain w s c reply.Ok w' → w2 ≡ record w' { moment = with_object_slot w'.moment o slot } →
    IsStoreStep w s c reply.Ok w2
edited_step w w' w2 s o c e slot left tied low high on is accepted got served put = record {
  told = record {
    numbers = ap (λ x. x.numbers) put ∙ served.numbers;
    event = record { session = session_in w s tied low high; reply = Replies-answers w.machine s c reply.Ok served.step.reply };
    machine = ap (λ x. x.machine) put ∙ served.step.state;
    moment = λ past by. ap (λ x. x.moment) put
        ∙ (ap (λ t. with_object_slot t o slot) served.moment
        ∙ edited_moved w.numbers s past w.moment c o e slot left on is got);
    agrees = ok_edited w.numbers w.moment s o e (object_of c) (edit_of c) slot left on is accepted got;
  };
  unfailing = refl;
}

pub put_tied : (w w2 : Stored) (o : ℕ) (slot : ObjectSlot) → HoldersAgree w →
    w2 ≡ record w { moment = with_object_slot w.moment o slot } → HoldersAgree w2
put_tied w w2 o slot tied put = record {
  sessions = ap (λ x. length x.machine.seats) put ∙ tied.sessions;
  holders = ap (λ x. x.holders) put ∙ (tied.holders ∙ ap (λ x. map holder_in x.machine.slots) (sym put));
}

not_long_edit : (m : Machine) (c : Command) (r : Reply) → (c ≡ Status → ⊥) → IsTrue (is_taking (deed c r)) → IsAnswered m c r
not_long_edit m Begin r other taking = inr taking
not_long_edit m (Create p t) r other taking = inr taking
not_long_edit m (Destroy p) r other taking = inr taking
not_long_edit m (Length p) r other taking = inr taking
not_long_edit m (Read p at n) r other taking = inr taking
not_long_edit m (Append p q) r other taking = inr taking
not_long_edit m (Insert p at q) r other taking = inr taking
not_long_edit m (Delete p at n) r other taking = inr taking
not_long_edit m (Replace p at q) r other taking = inr taking
not_long_edit m Commit r other taking = inr taking
not_long_edit m Abort r other taking = inr taking
not_long_edit m Status r other taking = absurd (other refl)

-- a command that no space had a place for
pub nospace_step : (w w' : Stored) (s o : ℕ) (c : Command) (e : Edit) (pages : ℕ) → HoldersAgree w → 0 < s →
    s ≤ SESSIONS → object_of c ≡ Some o → edit_of c ≡ Some e → is_too_long c ≡ false →
    Refused pages ≡ answer_to edited_slot w.numbers w.moment s o e → IsTaking w s o None w' → IsStoreStep w s c (reply.NoSpace pages) w'
nospace_step w w' s o c e pages tied low high on is short denied taking =
    let takes : deed c (reply.NoSpace pages) ≡ Takes o = deed-object c (reply.NoSpace pages) o on in
    let free : refused w.machine s c ≡ None = refused_same w.machine s c o on short ∙ taking.0 in
    record {
      told = record {
        numbers = ap (λ x. x.numbers) taking.1;
        event = record {
          session = session_in w s tied low high;
          reply = inr (subst (λ t. MatchOption t (IsAnswered w.machine c (reply.NoSpace pages))
              (λ refusal. reply.NoSpace pages ≡ refusal)) (sym free)
              (not_long_edit w.machine c (reply.NoSpace pages) (λ bad. absurd (no_status c o on bad)) (ap is_taking takes)));
        };
        machine = ap (λ x. x.machine) taking.1 ∙ ap (next w.machine s) (sym takes);
        moment = λ past by. ap (λ x. x.moment) taking.1 ∙ unmoved w.numbers s past w.moment c (reply.NoSpace pages) refl;
        agrees = nospace_agrees w.numbers w.moment s o c e pages on is denied;
      };
      unfailing = refl;
    }
  where
    no_status : (d : Command) (p : ℕ) → object_of d ≡ Some p → d ≡ Status → ⊥
    no_status d p at bad = let h : None ≡ Some p = sym (ap object_of bad) ∙ at in cc

pub taking_tied : (w w' : Stored) (s o : ℕ) → HoldersAgree w → IsTaking w s o None w' → HoldersAgree w'
taking_tied w w' s o tied taking = tied_next w w' s (Takes o) tied (ap (λ x. x.machine) taking.1) (ap (λ x. x.holders) taking.1)

-- a command before which a refusal stands
pub refused_step : (w w' : Stored) (s o : ℕ) (c : Command) (r : Reply) → HoldersAgree w → 0 < s → s ≤ SESSIONS →
    object_of c ≡ Some o → is_too_long c ≡ false → IsTrue (is_bare r) → is_ok_reply r ≡ false →
    IsTaking w s o (Some r) w' → IsStoreStep w s c r w'
refused_step w w' s o c r tied low high on short bare other taking =
    let stands : refused w.machine s c ≡ Some r = refused_same w.machine s c o on short ∙ taking.0 in
    record {
      told = record {
        numbers = ap (λ x. x.numbers) taking.1;
        event = record {
          session = session_in w s tied low high;
          reply = inr (subst (λ t. MatchOption t (IsAnswered w.machine c r) (λ refusal. r ≡ refusal)) (sym stands) refl);
        };
        machine = ap (λ x. x.machine) taking.1 ∙ ap (next w.machine s) (sym (refused_deed w.machine s c c r stands));
        moment = λ past by. ap (λ x. x.moment) taking.1 ∙ unmoved w.numbers s past w.moment c r other;
        agrees = agrees_bare w.numbers w.moment s c r bare (λ ok. absurd (cc));
      };
      unfailing = bare_unfailing r bare;
    }

pub refused_tied : (w w' : Stored) (s o : ℕ) (r : Reply) → HoldersAgree w → IsTaking w s o (Some r) w' → HoldersAgree w'
refused_tied w w' s o r tied taking = subst HoldersAgree (sym taking.1) tied

-- a begin
pub begin_holders : (s : ℕ) (r : Reply) (holders : List (Option ℕ)) → holders_after s (deed Begin r) holders ≡ holders
begin_holders s r holders = bounded_begin s (is_done r) holders
  where
    bounded_begin : (t : ℕ) (b : Bool) (hs : List (Option ℕ)) → holders_after t (bounded Begin b) hs ≡ hs
    bounded_begin t true hs = refl
    bounded_begin t false hs = refl

pub begun_step : (w w' : Stored) (s : ℕ) (r : Reply) → HoldersAgree w → 0 < s → s ≤ SESSIONS →
    HasServedPlain w s Begin r w' → IsStoreStep w s Begin r w'
begun_step w w' s r tied low high served = record {
  told = record {
    numbers = served.numbers;
    event = record { session = session_in w s tied low high; reply = Replies-answers w.machine s Begin r served.step.reply };
    machine = served.step.state;
    moment = λ past by. served.moment ∙ begun_moved w.numbers s past w.moment r;
    agrees = agrees_bare w.numbers w.moment s Begin r served.bare (λ _. tt);
  };
  unfailing = bare_unfailing r served.bare;
}

-- an end that was answered `ok`
pub closed_step : (w w' : Stored) (s : ℕ) (b : Bool) → HoldersAgree w → 0 < s → s ≤ SESSIONS →
    IsStep w.machine s (if b then Commit else Abort) reply.Ok w'.machine →
    w'.numbers ≡ w.numbers → w'.holders ≡ map (let_go s) w.holders → w'.moment ≡ ended_by s b w.holders w.moment →
    IsStoreStep w s (if b then Commit else Abort) reply.Ok w'
closed_step w w' s true tied low high step numbers holders moment = record {
  told = record {
    numbers = numbers;
    event = record { session = session_in w s tied low high; reply = Replies-answers w.machine s Commit reply.Ok step.reply };
    machine = step.state;
    moment = λ past by. moment ∙ (ap (λ h. ended_by s true h w.moment) tied.holders
        ∙ committed_moved w.numbers s past w.machine w.moment by);
    agrees = tt;
  };
  unfailing = refl;
}
closed_step w w' s false tied low high step numbers holders moment = record {
  told = record {
    numbers = numbers;
    event = record { session = session_in w s tied low high; reply = Replies-answers w.machine s Abort reply.Ok step.reply };
    machine = step.state;
    moment = λ past by. moment ∙ (ap (λ h. ended_by s false h w.moment) tied.holders
        ∙ aborted_moved w.numbers s past w.machine w.moment by);
    agrees = tt;
  };
  unfailing = refl;
}

pub closed_tied : (w w' : Stored) (s : ℕ) (b : Bool) → HoldersAgree w →
    IsStep w.machine s (if b then Commit else Abort) reply.Ok w'.machine → w'.holders ≡ map (let_go s) w.holders →
    HoldersAgree w'
closed_tied w w' s true tied step holders = tied_next w w' s (Closes true) tied step.state holders
closed_tied w w' s false tied step holders = tied_next w w' s (Closes false) tied step.state holders

-- an end without a transaction
pub idle_served : (w w' : Stored) (s : ℕ) (b : Bool) →
    IsStep w.machine s (if b then Commit else Abort) reply.Idle w'.machine → w'.numbers ≡ w.numbers →
    w'.holders ≡ w.holders → w'.moment ≡ w.moment → HasServedPlain w s (if b then Commit else Abort) reply.Idle w'
idle_served w w' s true step numbers holders moment =
    record { step = step; bare = refl; holders = holders; numbers = numbers; moment = moment }
idle_served w w' s false step numbers holders moment =
    record { step = step; bare = refl; holders = holders; numbers = numbers; moment = moment }

pub status_step : (w : Stored) (s free locked held : ℕ) → HoldersAgree w → 0 < s → s ≤ SESSIONS →
    AreCounts w.numbers w.moment free locked held → IsStoreStep w s Status (reply.Status free locked held) w
status_step w s free locked held tied low high counts = record {
  told = record {
    numbers = refl;
    event = record {
      session = session_in w s tied low high;
      reply = inr (subst (λ t. MatchOption t (IsAnswered w.machine Status (reply.Status free locked held))
          (λ refusal. reply.Status free locked held ≡ refusal)) (sym (unrefused w.machine s)) refl);
    };
    machine = refl;
    moment = λ past by. unmoved w.numbers s past w.moment Status (reply.Status free locked held) refl;
    agrees = counts;
  };
  unfailing = refl;
}

-- the same of what a call returns, and of a store as its view
pub begun_ok : {E : Type 0} (w now w' : Stored) (s : ℕ) (x : Reply) (r : Result Reply E) → w ≡ now →
    HoldersAgree now → 0 < s → s ≤ SESSIONS → IsStep w.machine s Begin x w'.machine →
    w'.numbers ≡ w.numbers → w'.holders ≡ w.holders → w'.moment ≡ w.moment → IfOk r (λ y. y ≡ x) →
    IfOk r (λ y. IsTrue (is_bare y)) → IfOk r (λ y. IsStoreStep now s Begin y w')
begun_ok w now w' s x (Ok y) view tied low high step numbers holders moment same bare =
    subst (λ v. IsStoreStep v s Begin y w') view (begun_step w w' s y (subst HoldersAgree (sym view) tied) low high
    (record {
      step = subst (λ z. IsStep w.machine s Begin z w'.machine) (sym same) step;
      bare = bare;
      holders =
          holders ∙ sym (begin_holders s y w.holders);
      numbers = numbers;
      moment = moment;
    }))
begun_ok w now w' s x (Err e) view tied low high step numbers holders moment same bare = tt

pub begun_tied : {E : Type 0} (w now w' : Stored) (s : ℕ) (x : Reply) (r : Result Reply E) → w ≡ now →
    HoldersAgree now → IsStep w.machine s Begin x w'.machine → w'.holders ≡ w.holders → OnOk r (HoldersAgree w')
begun_tied w now w' s x (Ok y) view tied step holders =
    tied_next w w' s (deed Begin x) (subst HoldersAgree (sym view) tied) step.state (holders
    ∙ sym (begin_holders s x w.holders))
begun_tied w now w' s x (Err e) view tied step holders = tt

pub closed_ok : (w now w' : Stored) (s : ℕ) (b : Bool) → w ≡ now → HoldersAgree now → 0 < s → s ≤ SESSIONS →
    IsStep w.machine s (if b then Commit else Abort) reply.Ok w'.machine →
    w'.numbers ≡ w.numbers → w'.holders ≡ map (let_go s) w.holders → w'.moment ≡ ended_by s b w.holders w.moment →
    IsStoreStep now s (if b then Commit else Abort) reply.Ok w'
closed_ok w now w' s b view tied low high step numbers holders moment =
    subst (λ v. IsStoreStep v s (if b then Commit else Abort) reply.Ok w') view
    (closed_step w w' s b (subst HoldersAgree (sym view) tied) low high step numbers holders moment)

pub closed_ties : (w now w' : Stored) (s : ℕ) (b : Bool) → w ≡ now → HoldersAgree now →
    IsStep w.machine s (if b then Commit else Abort) reply.Ok w'.machine → w'.holders ≡ map (let_go s) w.holders →
    HoldersAgree w'
closed_ties w now w' s b view tied step holders = closed_tied w w' s b (subst HoldersAgree (sym view) tied) step holders

pub idle_ok : (w now w' : Stored) (s : ℕ) (b : Bool) → w ≡ now → HoldersAgree now → 0 < s → s ≤ SESSIONS →
    IsStep w.machine s (if b then Commit else Abort) reply.Idle w'.machine →
    w'.numbers ≡ w.numbers → w'.holders ≡ w.holders → w'.moment ≡ w.moment → IsStoreStep now s (if b then Commit else Abort) reply.Idle w'
idle_ok w now w' s b view tied low high step numbers holders moment =
    subst (λ v. IsStoreStep v s (if b then Commit else Abort) reply.Idle w') view
    (edited_other w w' s (if b then Commit else Abort) reply.Idle (subst HoldersAgree (sym view) tied) low high refl
    (idle_served w w' s b step numbers holders moment))

pub idle_ties : (w now w' : Stored) (s : ℕ) (b : Bool) → w ≡ now → HoldersAgree now →
    IsStep w.machine s (if b then Commit else Abort) reply.Idle w'.machine →
    w'.numbers ≡ w.numbers → w'.holders ≡ w.holders → w'.moment ≡ w.moment → HoldersAgree w'
idle_ties w now w' s b view tied step numbers holders moment =
    served_tied w w' s (if b then Commit else Abort) reply.Idle (subst HoldersAgree (sym view) tied)
    (idle_served w w' s b step numbers holders moment)

-- a fresh store
fresh_holders : (n : ℕ) → map holder_in (map new_slot (replicate n Absent)) ≡ replicate n None
fresh_holders zero = refl
fresh_holders (suc n) = ap (λ (t : List (Option ℕ)). None ∷ t) (fresh_holders n)

pub new_tied : (w : Stored) (n k : ℕ) → length w.machine.seats ≡ SESSIONS →
    w.machine ≡ fresh SESSIONS (replicate n Absent) → w.holders ≡ replicate k None → n ≡ k → HoldersAgree w
new_tied w n k seats machine holders same = record {
  sessions = seats;
  holders = holders ∙ (ap (λ i. replicate i None) (sym same) ∙ (sym (fresh_holders n) ∙ ap (λ m. map holder_in m.slots) (sym machine)));
}

pub unedited_served : {E : Type 0} (w w' : Stored) (s o : ℕ) (c : Command) (r : Result Reply E) → HoldersAgree w →
    0 < s → s ≤ SESSIONS → object_of c ≡ Some o → edit_of c ≡ None → IfOk r (λ x. HasServedPlain w s c x w') →
    IfOk r (λ x. IsStoreStep w s c x w')
unedited_served w w' s o c (Ok x) tied low high on none served = unedited_step w w' s o c x tied low high on none served
unedited_served w w' s o c (Err e) tied low high on none served = tt

pub status_ok : (w now : Stored) (s free locked held : ℕ) → w ≡ now → HoldersAgree now → 0 < s → s ≤ SESSIONS →
    AreCounts w.numbers w.moment free locked held → IsStoreStep now s Status (reply.Status free locked held) now
status_ok w now s free locked held view tied low high counts =
    status_step now s free locked held tied low high (subst (λ v. AreCounts v.numbers v.moment free locked held) view counts)

-- two stores that agree in all are one
stored_same : (a b : Stored) → a.numbers ≡ b.numbers → a.machine ≡ b.machine → a.holders ≡ b.holders → a.moment ≡ b.moment → a ≡ b
stored_same a b numbers machine holders moment =
    ap (λ x. record { numbers = x; machine = a.machine; holders = a.holders; moment = a.moment }) numbers
    ∙ (ap (λ x. record { numbers = b.numbers; machine = x; holders = a.holders; moment = a.moment }) machine
    ∙ (ap (λ x. record { numbers = b.numbers; machine = b.machine; holders = x; moment = a.moment }) holders
    ∙ ap (λ x. record { numbers = b.numbers; machine = b.machine; holders = b.holders; moment = x }) moment))

pub taken_ok : (w now w' : Stored) (s o : ℕ) (r : Reply) → w ≡ now → IsStep w.machine s (Length o) r w'.machine → is_look r ≡ true →
    w'.numbers ≡ w.numbers → w'.holders ≡ set w.holders o (Some s) → w'.moment ≡ w.moment → IsTaking now s o None w'
taken_ok w now w' s o r view step look numbers holders moment =
    subst (λ v. IsTaking v s o None w') view (
      looked_free w.machine s o r step.reply look,
      stored_same w' (taken_store w s o) numbers (step.state ∙ looked_next w.machine s o r look) holders moment,
    )

pub taken_not : (w now w' : Stored) (s o : ℕ) (r y : Reply) → w ≡ now → IsStep w.machine s (Length o) r w'.machine →
    is_look r ≡ false → is_memory r ≡ false → y ≡ r →
    w'.numbers ≡ w.numbers → w'.holders ≡ w.holders → w'.moment ≡ w.moment → IsTaking now s o (Some y) w'
taken_not w now w' s o r y view step look memory same numbers holders moment =
    let stands : refused w.machine s (Length o) ≡ Some r = unlooked_refused w.machine s o r step.reply look memory in
    subst (λ v. IsTaking v s o (Some y) w') view (
      stands ∙ ap (λ (t : Reply). Some t) (sym same),
      stored_same w' w numbers (step.state ∙ ap (next w.machine s)
          (refused_deed w.machine s (Length o) (Length o) r stands)) holders moment,
    )

pub edited_put : (w w' w2 : Stored) (s o : ℕ) (c : Command) (e : Edit) (slot : ObjectSlot) (left : Spaces)
    (r : Reply) → HoldersAgree w → 0 < s → s ≤ SESSIONS → object_of c ≡ Some o → edit_of c ≡ Some e →
    is_accepted w.moment o e ≡ true → Got slot left ≡ answer_to edited_slot w.numbers w.moment s o e →
    HasServedPlain w s c r w' → is_ok_reply r ≡ true →
    w2 ≡ record w' { moment = with_object_slot w'.moment o slot } → IsStoreStep w s c r w2
edited_put w w' w2 s o c e slot left r tied low high on is accepted got served ok put =
    subst (λ x. IsStoreStep w s c x w2) (sym (ok_is r ok))
    (edited_step w w' w2 s o c e slot left tied low high on is accepted got (subst (λ x. HasServedPlain w s c x w')
    (ok_is r ok) served) put)

pub ruleset edited_ties = (put_tied, served_tied, taking_tied, refused_tied)
