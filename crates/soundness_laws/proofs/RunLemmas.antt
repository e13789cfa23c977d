-- Each answered line keeps a moment sound, where what is held is what the lines say.
use Rattle.std.proofs.Common.{◌≡◌, ℕ, zero, suc, ◌≤◌, Bool, true, false, ◌&&◌, not, Option, Some, None, List, [], ◌∷◌}
use Rattle.std.proofs.Common.{length, refl, sym, ap, subst, arith, ◌∙◌, inl, inr}
use Rattle.std.specs.Prelude.{if◌then◌else◌, ◌==◌}
use Rattle.std.proofs.lemmas.List.{length-set}
use Rattle.std.proofs.lemmas.Bool.{cases_Bool, cases_eq, false≢true, eq-eqb, ne_eqb, or_cases, or_left, or_right}
use Rattle.std.proofs.lemmas.Bool.{and_parts, and_from, not-true}
use Rattle.geometry_model.specs.Numbers.{Numbers, IsInRange, objects}
use Rattle.eos_ops.specs.declared.act.Act.{Act}
use Rattle.eos_ops.specs.declared.command.Command.{Command}
use Rattle.eos_ops.specs.declared.command.Command.TheVariants.{Begin, Create, Destroy, Length, Read, Append, Insert}
use Rattle.eos_ops.specs.declared.command.Command.TheVariants.{Delete, Replace, Commit, Abort, Status}
use Rattle.eos_ops.specs.declared.edit.Edit.{Edit}
use Rattle.eos_ops.specs.declared.reply.Reply.{Reply}
use Rattle.eos_ops.specs.Payloads.{payload_bytes}
use Rattle.eos_ops.specs.Objects.{object_of, edit_of, with_bytes}
use Rattle.history.specs.Event.{Event, Deed, answered, bounded, deed, deed_of, is_done}
use Rattle.history.specs.Event.Deed.{Opens, Does, Takes, Closes, Nothing}
use Rattle.history.specs.Holding.{holds, holds_after, some_upto}
use Rattle.history.specs.Transactions.{is_open}
use Rattle.history.proofs.EventLaws.{holds-own, holds-other}
use Rattle.layout_model.specs.Grants.{Answer}
use Rattle.layout_model.specs.Grants.Answer.{Got, Refused}
use Rattle.layout_model.specs.Layout.{Tree}
use Rattle.moment_model.specs.Moment.{ObjectSlot, Moment, absent_slot, object_slot, with_object_slot, IsSound}
use Rattle.moment_model.specs.Edit.{settled, undone}
use Rattle.moment_model.specs.Run.{Lays, start_space, committed_by, aborted_by, changed_where, answer_to, slot_got}
use Rattle.moment_model.specs.Run.{IsGot, after_edit, after_ok, is_ok_reply, moment_after, OkToEdit, Agrees, moment_of}
use Rattle.moment_model.specs.Run.{AllAgree, all_aborted, Run}
use Rattle.moment_model.proofs.ReplyLemmas.{ok_is}
use Rattle.moment_laws.specs.Change.{held_without}
use Rattle.moment_laws.proofs.EndLemmas.{changed-cases, sound-settled, sound-undone, sound-held_more, sound-all_aborted}
use Rattle.soundness_laws.specs.Keeping.{AsksThreshold, KeepsSoundness}
use Rattle.change_laws.specs.Tail.{IsTail, HaveTails}
use Rattle.soundness_laws.specs.InOrder.{is_held, IsInOrder, AllInOrder}
use Rattle.eos_ops.specs.declared.edit.Edit.TheVariants as edit
use Rattle.eos_ops.specs.declared.reply.Reply.TheVariants as reply

-- ---- some number up to n

some-at : (n : ℕ) (p : ℕ → Bool) (k : ℕ) → 1 ≤ k → k ≤ n → p k ≡ true → some_upto n p ≡ true
some-at zero p k low high holds_it = absurd (omega (arith, low, high))
some-at (suc n) p k low high holds_it =
    elim (cases_eq k (suc n)) [
      | inl same ↦ or_left (p (suc n)) (some_upto n p) (subst (λ (j : ℕ). p j ≡ true) same holds_it)
      | inr other ↦ or_right (p (suc n)) (some_upto n p) (some-at n p k low (omega (arith, high, other)) holds_it)
    ]

some-is : (n : ℕ) (p : ℕ → Bool) → some_upto n p ≡ true → (k : ℕ) × (1 ≤ k) × (k ≤ n) × (p k ≡ true)
some-is zero p none = absurd (false≢true none)
some-is (suc n) p some =
    elim (or_cases (p (suc n)) (some_upto n p) some) [
      | inl here ↦ (suc n, omega arith, omega arith, here)
      | inr below ↦ let more = some-is n p below in let high = more.2 in (more.0, more.1, omega (arith, high), more.3)
    ]

-- ---- who holds what

-- a deed that doesn't close lets nothing go
abbrev IsOpenEnded : Deed → Type 0
IsOpenEnded Opens = Unit {0}
IsOpenEnded (Does o act) = Unit {0}
IsOpenEnded (Takes o) = Unit {0}
IsOpenEnded (Closes committed) = ⊥
IsOpenEnded Nothing = Unit {0}

stays-held : (d : Deed) (o : ℕ) (active held : Bool) → IsOpenEnded d → held ≡ true → holds_after d o active held ≡ true
stays-held Opens o active held is holds_it = holds_it
stays-held (Does p act) o active held is holds_it = or_right ((p == o) && active) held holds_it
stays-held (Takes p) o active held is holds_it = or_right ((p == o) && active) held holds_it
stays-held (Closes committed) o active held is holds_it = absurd is
stays-held Nothing o active held is holds_it = holds_it

holds-stays : (s o : ℕ) (e : Event) (past : List Event) → IsOpenEnded (deed_of e) → holds s o past ≡ true → holds s o (e ∷ past) ≡ true
holds-stays s o e past is holds_it =
    elim (cases_Bool (e.session == s)) [
      | inl own ↦ holds-own s o e past own ∙ stays-held (deed_of e) o (is_open s past) (holds s o past) is holds_it
      | inr other ↦ holds-other s o e past other ∙ holds_it
    ]

is_held-stays : (sessions : ℕ) (e : Event) (past : List Event) → IsOpenEnded (deed_of e) → (o : ℕ) →
    is_held sessions past o ≡ true → is_held sessions (e ∷ past) o ≡ true
is_held-stays sessions e past is o held =
    let by = some-is sessions (λ s. holds s o past) held in
    some-at sessions (λ s. holds s o (e ∷ past)) by.0 by.1 by.2 (holds-stays by.0 o e past is by.3)

-- what others hold stays held when a session ends its transaction
is_held-others : (sessions : ℕ) (e : Event) (past : List Event) (o : ℕ) →
    held_without (is_held sessions past) (λ q. holds e.session q past) o ≡ true →
    is_held sessions (e ∷ past) o ≡ true
is_held-others sessions e past o still =
    let parts = and_parts (is_held sessions past o) (not (holds e.session o past)) still in
    let by = some-is sessions (λ s. holds s o past) parts.0 in
    let other : (e.session == by.0) ≡ false = ne_eqb e.session by.0 (λ same.
    let own : holds e.session o past ≡ true = subst (λ (s : ℕ). holds s o past ≡ true) (sym same) by.3 in
    false≢true (sym (not-true (holds e.session o past) parts.1) ∙ own)) in
    some-at sessions (λ s. holds s o (e ∷ past)) by.0 by.1 by.2 (holds-other by.0 o e past other ∙ by.3)

-- a reply to a command on an object closes nothing
answered-open : (o : ℕ) (c : Command) (r : Reply) → IsOpenEnded (answered o c r)
answered-open o c reply.Ok = tt
answered-open o c (reply.Length n) = tt
answered-open o c (reply.Bytes x) = tt
answered-open o c (reply.Range n) = tt
answered-open o c reply.Exists = tt
answered-open o c reply.Missing = tt
answered-open o c (reply.NoSpace n) = tt
answered-open o c reply.Fault = tt
answered-open o c reply.Busy = tt
answered-open o c reply.Full = tt
answered-open o c reply.NoObject = tt
answered-open o c reply.Memory = tt
answered-open o c reply.Idle = tt
answered-open o c reply.Active = tt
answered-open o c reply.TooLong = tt
answered-open o c reply.Worn = tt
answered-open o c (reply.Status f l h) = tt
answered-open o c reply.Again = tt

-- the two tests of `ok` are one
pub same_test : (r : Reply) → is_done r ≡ is_ok_reply r
same_test reply.Ok = refl
same_test other = refl

-- nor does a reply that isn't `ok`
not_ok-open : (c : Command) (r : Reply) → is_ok_reply r ≡ false → IsOpenEnded (deed c r)
not_ok-open (Create o t) r other = answered-open o (with_bytes (Create o t)) r
not_ok-open (Destroy o) r other = answered-open o (with_bytes (Destroy o)) r
not_ok-open (Length o) r other = answered-open o (with_bytes (Length o)) r
not_ok-open (Read o at n) r other = answered-open o (with_bytes (Read o at n)) r
not_ok-open (Append o p) r other = answered-open o (with_bytes (Append o p)) r
not_ok-open (Insert o at p) r other = answered-open o (with_bytes (Insert o at p)) r
not_ok-open (Delete o at n) r other = answered-open o (with_bytes (Delete o at n)) r
not_ok-open (Replace o at p) r other = answered-open o (with_bytes (Replace o at p)) r
not_ok-open Begin r other = go (is_done r)
  where
    go : (done : Bool) → IsOpenEnded (bounded Begin done)
    go true = tt
    go false = tt
not_ok-open Commit r other = go (is_done r) (same_test r ∙ other)
  where
    go : (done : Bool) → done ≡ false → IsOpenEnded (bounded Commit done)
    go true not_done = absurd (false≢true (sym not_done))
    go false not_done = tt
not_ok-open Abort r other = go (is_done r) (same_test r ∙ other)
  where
    go : (done : Bool) → done ≡ false → IsOpenEnded (bounded Abort done)
    go true not_done = absurd (false≢true (sym not_done))
    go false not_done = tt
not_ok-open Status r other = go (is_done r)
  where
    go : (done : Bool) → IsOpenEnded (bounded Status done)
    go true = tt
    go false = tt

-- ---- tails

-- the ends of transactions leave no spare
ended-tails : (n : Numbers) (test : ℕ → Bool) (change : ObjectSlot → ObjectSlot) (moment : Moment) →
    change absent_slot ≡ absent_slot → ((slot : ObjectSlot) → IsTail n (change slot).working (change slot).spare) →
    HaveTails n moment → HaveTails n (changed_where test change 0 moment)
ended-tails n test change moment none ends tails o =
    let P : ObjectSlot → Type 0 = λ s. IsTail n s.working s.spare in
    elim (changed-cases test change none 0 moment o o (omega arith)) [
      | inl new ↦ subst P (sym new.1) (ends (object_slot moment o))
      | inr old ↦ subst P (sym old.1) (tails o)
    ]

-- ---- one line

-- a sound moment, with what is held and its spares
record IsSteady (good : Numbers → Tree → Type 0) (n : Numbers) (sessions : ℕ) (past : List Event) (moment : Moment) : Type 0 where
  sound : IsSound good n (is_held sessions past) moment
  tails : HaveTails n moment

-- a line that moves nothing
steady-same : (good : Numbers → Tree → Type 0) (n : Numbers) (sessions : ℕ) (e : Event) (past : List Event)
    (moment : Moment) → IsOpenEnded (deed_of e) → IsSteady good n sessions past moment →
    IsSteady good n sessions (e ∷ past) moment
steady-same good n sessions e past moment is steady = record {
  sound = sound-held_more good n (is_held sessions past)
      (is_held sessions (e ∷ past)) moment (is_held-stays sessions e past is) steady.sound;
  tails = steady.tails;
}

-- an edit that was granted what it asks for
steady-edit : (laid : Lays) (good : Numbers → Tree → Type 0) (n : Numbers) (sessions : ℕ) (e : Event)
    (past : List Event) (moment : Moment) (o : ℕ) (edit : Edit) (act : Act) → KeepsSoundness laid good →
    IsInRange n → 1 ≤ e.session → e.session ≤ sessions →
    is_open e.session past ≡ true → AsksThreshold edit → deed_of e ≡ Does o act →
    IsSteady good n sessions past moment → IsGot (answer_to laid n moment e.session o edit) →
    IsSteady good n sessions (e ∷ past) (with_object_slot moment o (slot_got (answer_to laid n moment e.session o edit)))
steady-edit laid good n sessions e past moment o edit act keeps range low high active asks is steady got =
    let more = steady-same good n sessions e past moment (subst IsOpenEnded (sym is) tt) steady in
    let own : holds e.session o (e ∷ past) ≡ true =
    holds-own e.session o e past (eq-eqb e.session e.session refl)
    ∙ (ap (λ (d : Deed). holds_after d o (is_open e.session past) (holds e.session o past)) is
    ∙ or_left ((o == o) && is_open e.session past) (holds e.session o past)
    (and_from (o == o) (is_open e.session past) (eq-eqb o o refl) active)) in
    let held : is_held sessions (e ∷ past) o ≡ true = some-at sessions (λ s. holds s o (e ∷ past)) e.session low high own in
    go (answer_to laid n moment e.session o edit) refl got more held
  where
    go : (answer : Answer ObjectSlot) → answer_to laid n moment e.session o edit ≡ answer → IsGot answer →
        IsSteady good n sessions (e ∷ past) moment → is_held sessions (e ∷ past) o ≡ true →
        IsSteady good n sessions (e ∷ past) (with_object_slot moment o (slot_got answer))
    go (Refused pages) was none more held = absurd none
    go (Got after left) was some more held =
        let both = keeps n (is_held sessions (e ∷ past))
        (start_space n e.session) moment o edit after left range more.sound more.tails held asks was in
        record { sound = both.0; tails = both.1 }

-- a line that is answered `ok`
steady-ok : (laid : Lays) (good : Numbers → Tree → Type 0) (n : Numbers) (sessions : ℕ) (s : ℕ) (c : Command)
    (past : List Event) (moment : Moment) → KeepsSoundness laid good → IsInRange n → 1 ≤ s → s ≤ sessions →
    ((edit : Edit) → edit_of c ≡ Some edit → is_open s past ≡ true) → ((edit : Edit) → edit_of c ≡ Some edit → AsksThreshold edit) →
    IsSteady good n sessions past moment → OkToEdit laid n moment s (object_of c) (edit_of c) →
    IsSteady good n sessions (record { session = s; command = c; reply = reply.Ok } ∷ past) (after_ok laid n past moment s c)
steady-ok laid good n sessions s Begin past moment keeps range low high active asks steady got =
    steady-same good n sessions (record { session = s; command = Begin; reply = reply.Ok }) past moment tt steady
steady-ok laid good n sessions s Status past moment keeps range low high active asks steady got =
    steady-same good n sessions (record { session = s; command = Status; reply = reply.Ok }) past moment tt steady
steady-ok laid good n sessions s Commit past moment keeps range low high active asks steady got =
    let e : Event = record { session = s; command = Commit; reply = reply.Ok } in
    let test = λ (o : ℕ). holds s o past in
    record {
      sound = sound-held_more good n (held_without (is_held sessions past) test) (is_held sessions (e ∷ past)) (committed_by s past moment)
          (is_held-others sessions e past) (sound-settled good n (is_held sessions past) test moment steady.sound);
      tails = ended-tails n test settled moment refl (λ slot. tt) steady.tails;
    }
steady-ok laid good n sessions s Abort past moment keeps range low high active asks steady got =
    let e : Event = record { session = s; command = Abort; reply = reply.Ok } in
    let test = λ (o : ℕ). holds s o past in
    record {
      sound = sound-held_more good n (held_without (is_held sessions past) test) (is_held sessions (e ∷ past)) (aborted_by s past moment)
          (is_held-others sessions e past) (sound-undone good n (is_held sessions past) test moment steady.sound);
      tails = ended-tails n test undone moment refl (λ slot. tt) steady.tails;
    }
steady-ok laid good n sessions s (Length o) past moment keeps range low high active asks steady got =
    steady-same good n sessions (record { session = s; command = Length o; reply = reply.Ok }) past moment tt steady
steady-ok laid good n sessions s (Read o at k) past moment keeps range low high active asks steady got =
    steady-same good n sessions (record {
      session = s;
      command = Read o at k;
      reply =
          reply.Ok;
    }) past moment tt steady
steady-ok laid good n sessions s (Create o t) past moment keeps range low high active asks steady got =
    let act : Act = record { command = with_bytes (Create o t); reply = reply.Ok } in
    steady-edit laid good n sessions (record {
      session = s;
      command = Create o t;
      reply =
          reply.Ok;
    }) past moment o (edit.Create t) act keeps range low high
    (active (edit.Create t) refl) (asks (edit.Create t) refl) refl steady got.1
steady-ok laid good n sessions s (Destroy o) past moment keeps range low high active asks steady got =
    let act : Act = record { command = with_bytes (Destroy o); reply = reply.Ok } in
    steady-edit laid good n sessions (record {
      session = s;
      command = Destroy o;
      reply =
          reply.Ok;
    }) past moment o (edit.Destroy) act keeps range low high
    (active (edit.Destroy) refl) (asks (edit.Destroy) refl) refl steady got.1
steady-ok laid good n sessions s (Append o p) past moment keeps range low high active asks steady got =
    let act : Act = record { command = with_bytes (Append o p); reply = reply.Ok } in
    steady-edit laid good n sessions (record {
      session = s;
      command = Append o p;
      reply =
          reply.Ok;
    }) past moment o (edit.Append (payload_bytes p)) act keeps range low high
    (active (edit.Append (payload_bytes p)) refl) (asks (edit.Append (payload_bytes p)) refl) refl steady got.1
steady-ok laid good n sessions s (Insert o at p) past moment keeps range low high active asks steady got =
    let act : Act = record { command = with_bytes (Insert o at p); reply = reply.Ok } in
    steady-edit laid good n sessions (record {
      session = s;
      command = Insert o at p;
      reply =
          reply.Ok;
    }) past moment o (edit.Insert at (payload_bytes p)) act keeps range low high
    (active (edit.Insert at (payload_bytes p)) refl) (asks (edit.Insert at (payload_bytes p)) refl) refl steady got.1
steady-ok laid good n sessions s (Delete o at k) past moment keeps range low high active asks steady got =
    let act : Act = record { command = with_bytes (Delete o at k); reply = reply.Ok } in
    steady-edit laid good n sessions (record {
      session = s;
      command = Delete o at k;
      reply =
          reply.Ok;
    }) past moment o (edit.Delete at k) act keeps range low high
    (active (edit.Delete at k) refl) (asks (edit.Delete at k) refl) refl steady got.1
steady-ok laid good n sessions s (Replace o at p) past moment keeps range low high active asks steady got =
    let act : Act = record { command = with_bytes (Replace o at p); reply = reply.Ok } in
    steady-edit laid good n sessions (record {
      session = s;
      command = Replace o at p;
      reply =
          reply.Ok;
    }) past moment o (edit.Replace at (payload_bytes p)) act keeps range low high
    (active (edit.Replace at (payload_bytes p)) refl) (asks (edit.Replace at (payload_bytes p)) refl) refl steady got.1

-- ---- a run

-- an answered line
steady-after : (laid : Lays) (good : Numbers → Tree → Type 0) (n : Numbers) (sessions : ℕ) (e : Event)
    (past : List Event) (moment : Moment) → KeepsSoundness laid good → IsInRange n → IsInOrder sessions past e →
    IsSteady good n sessions past moment →
    Agrees laid n moment e.session e.command e.reply → IsSteady good n sessions (e ∷ past) (moment_after laid n past moment e)
unfolding moment_after
steady-after laid good n sessions e past moment keeps range order steady agrees =
    elim (cases_Bool (is_ok_reply e.reply)) [
      | inr other ↦
          let same : (if is_ok_reply e.reply then after_ok laid n past moment e.session e.command else moment) ≡ moment =
          ap (λ (b : Bool). if b then after_ok laid n past moment e.session e.command else moment) other in
          subst (IsSteady good n sessions (e ∷ past)) (sym same)
          (steady-same good n sessions e past moment (not_ok-open e.command e.reply other) steady)
      | inl ok ↦
          let is = ok_is e.reply ok in
          let same : (if is_ok_reply e.reply then after_ok laid n past moment e.session e.command else moment)
          ≡ after_ok laid n past moment e.session e.command =
          ap (λ (b : Bool). if b then after_ok laid n past moment e.session e.command else moment) ok in
          let event : record { session = e.session; command = e.command; reply = reply.Ok } ≡ e =
          ap (λ (r : Reply). record { session = e.session; command = e.command; reply = r }) (sym is) in
          let granted_it : OkToEdit laid n moment e.session (object_of e.command) (edit_of e.command) =
          subst (Agrees laid n moment e.session e.command) is agrees in
          let all = steady-ok laid good n sessions e.session e.command past moment keeps range order.low order.high
          (λ made is_made. order.open_for_edits made is_made is) order.thresholds steady granted_it in
          subst (IsSteady good n sessions (e ∷ past)) (sym same)
          (subst (λ (x : Event). IsSteady good n sessions (x ∷ past)
          (after_ok laid n past moment e.session e.command)) event all)
    ]

steady-run : (laid : Lays) (good : Numbers → Tree → Type 0) (n : Numbers) (sessions : ℕ) (first : Moment)
    (events : List Event) → KeepsSoundness laid good → IsInRange n → IsSound good n (λ o. false) first →
    HaveTails n first → AllInOrder sessions events → AllAgree laid n first events →
    IsSteady good n sessions events (moment_of laid n first events)
steady-run laid good n sessions first [] keeps range sound tails order agree = record {
  sound = sound-held_more good n (λ o. false) (is_held sessions []) first (λ o none. absurd (false≢true none)) sound;
  tails = tails;
}
steady-run laid good n sessions first (e ∷ past) keeps range sound tails order agree =
    steady-after laid good n sessions e past (moment_of laid n first past) keeps range order.1
    (steady-run laid good n sessions first past keeps range sound tails order.0 agree.0) agree.1

-- each moment of a run is sound
pub run-sound : (laid : Lays) (good : Numbers → Tree → Type 0) (n : Numbers) (sessions : ℕ) (first : Moment)
    (events : List Event) → KeepsSoundness laid good → IsInRange n → IsSound good n (λ o. false) first →
    HaveTails n first → AllInOrder sessions events → AllAgree laid n first events →
    IsSound good n (is_held sessions events) (moment_of laid n first events) × HaveTails n (moment_of laid n first events)
run-sound laid good n sessions first events keeps range sound tails order agree =
    let steady = steady-run laid good n sessions first events keeps range sound tails order agree in
    (steady.sound, steady.tails)

-- ---- as many slots as objects

pub changed-length : (test : ℕ → Bool) (change : ObjectSlot → ObjectSlot) (from : ℕ) (moment : Moment) →
    length (changed_where test change from moment) ≡ length moment
changed-length test change from [] = refl
changed-length test change from (slot ∷ rest) = ap suc (changed-length test change (suc from) rest)

edit-length : (laid : Lays) (n : Numbers) (moment : Moment) (s : ℕ) (t : Option ℕ) (edit : Option Edit) →
    length (after_edit laid n moment s t edit) ≡ length moment
edit-length laid n moment s None edit = refl
edit-length laid n moment s (Some o) None = refl
edit-length laid n moment s (Some o) (Some edit) = length-set moment o (slot_got (answer_to laid n moment s o edit))

ok-length : (laid : Lays) (n : Numbers) (past : List Event) (moment : Moment) (s : ℕ) (c : Command) →
    length (after_ok laid n past moment s c) ≡ length moment
ok-length laid n past moment s Begin = refl
ok-length laid n past moment s (Create o t) = edit-length laid n moment s (object_of (Create o t)) (edit_of (Create o t))
ok-length laid n past moment s (Destroy o) = edit-length laid n moment s (object_of (Destroy o)) (edit_of (Destroy o))
ok-length laid n past moment s (Length o) = edit-length laid n moment s (object_of (Length o)) (edit_of (Length o))
ok-length laid n past moment s (Read o at k) = edit-length laid n moment s (object_of (Read o at k)) (edit_of (Read o at k))
ok-length laid n past moment s (Append o p) = edit-length laid n moment s (object_of (Append o p)) (edit_of (Append o p))
ok-length laid n past moment s (Insert o at p) = edit-length laid n moment s (object_of (Insert o at p)) (edit_of (Insert o at p))
ok-length laid n past moment s (Delete o at k) = edit-length laid n moment s (object_of (Delete o at k)) (edit_of (Delete o at k))
ok-length laid n past moment s (Replace o at p) = edit-length laid n moment s (object_of (Replace o at p)) (edit_of (Replace o at p))
ok-length laid n past moment s Commit = changed-length (λ o. holds s o past) settled 0 moment
ok-length laid n past moment s Abort = changed-length (λ o. holds s o past) undone 0 moment
ok-length laid n past moment s Status = refl

after-length : (laid : Lays) (n : Numbers) (past : List Event) (moment : Moment) (e : Event) →
    length (moment_after laid n past moment e) ≡ length moment
unfolding moment_after
after-length laid n past moment e =
    elim (cases_Bool (is_ok_reply e.reply)) [
      | inl ok ↦ ap (λ (b : Bool). length (if b then after_ok laid n past moment e.session e.command else moment))
          ok ∙ ok-length laid n past moment e.session e.command
      | inr other ↦ ap (λ (b : Bool). length (if b then after_ok laid n past moment e.session e.command else moment)) other
    ]

pub moment-length : (laid : Lays) (n : Numbers) (first : Moment) (events : List Event) →
    length (moment_of laid n first events) ≡ length first
moment-length laid n first [] = refl
moment-length laid n first (e ∷ past) = after-length laid n past (moment_of laid n first past) e ∙ moment-length laid n first past

aborted-length : (sessions : ℕ) (past : List Event) (moment : Moment) → length (all_aborted sessions past moment) ≡ length moment
aborted-length zero past moment = refl
aborted-length (suc sessions) past moment =
    changed-length (λ o. holds (suc sessions) o past) undone 0 (all_aborted sessions past moment) ∙ aborted-length sessions past moment

-- the last moment of a run has a slot for each object, as the first one has
pub run-slots : (laid : Lays) (n : Numbers) (sessions : ℕ) (first last : Moment) (events : List Event) →
    Run laid n sessions first events last → length last ≡ objects n
run-slots laid n sessions first last events run =
    ap (λ (m : Moment). length m) run.ends ∙ (aborted-length sessions events (moment_of laid n first events)
    ∙ (moment-length laid n first events ∙ run.slots))

-- ---- the end of a run

both_not : (b : Bool) → (b && not b) ≡ true → false ≡ true
both_not true both = both
both_not false both = both

-- and so is the last, in which nothing is held
pub run-ends : (laid : Lays) (good : Numbers → Tree → Type 0) (n : Numbers) (sessions : ℕ) (first last : Moment)
    (events : List Event) → KeepsSoundness laid good → IsInRange n → IsSound good n (λ o. false) first →
    HaveTails n first → AllInOrder sessions events →
    Run laid n sessions first events last → IsSound good n (λ o. false) last
run-ends laid good n sessions first last events keeps range sound tails order run =
    let steady = steady-run laid good n sessions first events keeps range sound tails order run.agree in
    let ended = sound-all_aborted good n (is_held sessions events) sessions events (moment_of laid n first events) steady.sound in
    subst (IsSound good n (λ o. false)) (sym run.ends)
    (sound-held_more good n (held_without (is_held sessions events)
    (λ o. some_upto sessions (λ s. holds s o events))) (λ o. false)
    (all_aborted sessions events (moment_of laid n first events))
    (λ o still. both_not (is_held sessions events o) still) ended)
