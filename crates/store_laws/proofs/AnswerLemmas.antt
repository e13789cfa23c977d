-- Two replies to one command, each of the machine and each agreeing with one moment, are the same, unless one tells
-- of a fault or of want of memory.
use Rattle.std.proofs.Common.{◌≡◌, ℕ, List, [], ◌∷◌, map, true, Option, Some, None, refl, sym, ap, subst, ◌∙◌, inl, inr, ◌⊎◌, arith}
use Rattle.std.specs.Prelude.{IsTrue, MatchOption}
use Rattle.std.proofs.lemmas.Bool.{false≢true}
use Rattle.eos_ops.specs.declared.command.Command.{Command}
use Rattle.eos_ops.specs.declared.command.Command.TheVariants.{Begin, Create, Destroy, Length, Read, Append, Insert}
use Rattle.eos_ops.specs.declared.command.Command.TheVariants.{Delete, Replace, Commit, Abort, Status}
use Rattle.eos_ops.specs.declared.edit.Edit.{Edit}
use Rattle.eos_ops.specs.declared.outcome.Outcome.TheVariants.{Done}
use Rattle.eos_ops.specs.declared.reply.Reply.{Reply}
use Rattle.eos_ops.specs.declared.reply.Reply.TheVariants as reply
use Rattle.eos_ops.specs.Edits.{outcome_in}
use Rattle.eos_ops.specs.Objects.{object_of, edit_of, with_bytes, reply_in, reply_of}
use Rattle.eos_ops.proofs.EditLemmas.{reply_in-edit}
use Rattle.geometry_model.specs.Numbers.{Numbers}
use Rattle.history.specs.Event.{Event, answered, is_done, deed}
use Rattle.history.specs.Refusals.{is_status}
use Rattle.history.proofs.EventLaws.{deed-object}
use Rattle.layout_model.specs.Grants.{Answer}
use Rattle.layout_model.specs.Grants.Answer.{Got, Refused}
use Rattle.layout_model.specs.Layout.{Tree}
use Rattle.machine.specs.Machine.{Machine, slot_at}
use Rattle.machine.specs.Replies.{refused, answer, is_taking, IsAnswered, Replies}
use Rattle.machine.proofs.Replying.{answer-object, begin_takes, commit_takes, abort_takes}
use Rattle.machine.proofs.Soundness.{Sound-run}
use Rattle.machine.proofs.Replying.{MayRun-from}
use Rattle.moment_model.specs.Edit.{accepts}
use Rattle.moment_model.specs.Moment.{ObjectSlot, Moment, object_slot}
use Rattle.moment_model.specs.Run.{Lays, answer_to, IsGot, IsRefused, OkToEdit, NoSpaceToEdit, AreCounts, Agrees}
use Rattle.moment_model.specs.Version.{version_bytes}
use Rattle.soundness_laws.specs.Keeping.{KeepsSoundness}
use Rattle.effect_laws.specs.Lengths.{plain_length}
use Rattle.effect_laws.proofs.EffectLemmas.{accepted-done}
use Rattle.length_laws.specs.KeepsLength.{KeepsLength}
use Rattle.store_model.specs.Store.{Store, HoldsBy, AreToldSteps, IsToldStep}
use Rattle.store_laws.specs.Lengths.{HasLengths}
use Rattle.store_laws.specs.Runs.{AllAskThresholds, IsSoundRest, is_undisturbed, AllUndisturbed, asked}
use Rattle.store_laws.proofs.LengthLemmas.{steps-lengths}
use Rattle.store_laws.proofs.StepLemmas.{told-run}

-- a reply of the space or the device that is no fault names pages
taking-pages : (o : ℕ) (c : Command) (r : Reply) → is_taking (answered o c r) ≡ true → is_undisturbed r ≡ true →
    (pages : ℕ) × (r ≡ reply.NoSpace pages)
taking-pages o c (reply.NoSpace k) takes calm = (k, refl)
taking-pages o c reply.Fault takes calm = absurd (false≢true calm)
taking-pages o c reply.Ok takes calm = absurd (false≢true takes)
taking-pages o c (reply.Length k) takes calm = absurd (false≢true takes)
taking-pages o c (reply.Bytes x) takes calm = absurd (false≢true takes)
taking-pages o c (reply.Range k) takes calm = absurd (false≢true takes)
taking-pages o c reply.Exists takes calm = absurd (false≢true takes)
taking-pages o c reply.Missing takes calm = absurd (false≢true takes)
taking-pages o c reply.Busy takes calm = absurd (false≢true takes)
taking-pages o c reply.Full takes calm = absurd (false≢true takes)
taking-pages o c reply.NoObject takes calm = absurd (false≢true takes)
taking-pages o c reply.Memory takes calm = absurd (false≢true takes)
taking-pages o c reply.Idle takes calm = absurd (false≢true takes)
taking-pages o c reply.Active takes calm = absurd (false≢true takes)
taking-pages o c reply.TooLong takes calm = absurd (false≢true takes)
taking-pages o c reply.Worn takes calm = absurd (false≢true takes)
taking-pages o c (reply.Status f l h) takes calm = absurd (false≢true takes)
taking-pages o c reply.Again takes calm = absurd (false≢true takes)

-- an answer of pages isn't both got and refused, and names one number of pages
got-refused : (a : Answer ObjectSlot) (pages : ℕ) → IsGot a → IsRefused pages a → ⊥
got-refused (Got slot left) pages got refused = refused
got-refused (Refused k) pages got refused = got

refused-once : (a : Answer ObjectSlot) (k l : ℕ) → IsRefused k a → IsRefused l a → k ≡ l
refused-once (Got slot left) k l one two = absurd one
refused-once (Refused pages) k l one two = sym one ∙ two

-- who is refused pages asked for an edit that its object takes
record WasRefused (laid : Lays) (n : Numbers) (w : Moment) (s o : ℕ) (c : Command) (pages : ℕ) : Type 0 where
  edit : Edit
  is : edit_of c ≡ Some edit
  accepted : accepts (version_bytes (object_slot w o).working) edit ≡ true
  refused : IsRefused pages (answer_to laid n w s o edit)

was_refused : (laid : Lays) (n : Numbers) (w : Moment) (s o : ℕ) (c : Command) (pages : ℕ) → object_of c ≡ Some o →
    NoSpaceToEdit laid n w s pages (object_of c) (edit_of c) → WasRefused laid n w s o c pages
was_refused laid n w s o c pages on agrees =
    by_edit (edit_of c) refl (subst (λ (q : Option ℕ). NoSpaceToEdit laid n w s pages q (edit_of c)) on agrees)
  where
    by_edit : (t : Option Edit) → edit_of c ≡ t → NoSpaceToEdit laid n w s pages (Some o) t → WasRefused laid n w s o c pages
    by_edit None is agrees = absurd agrees
    by_edit (Some e) is agrees = record { edit = e; is = is; accepted = agrees.0; refused = agrees.1 }

-- where an object has its length, an edit that is refused pages isn't one that the object answers
not-answered : (laid : Lays) (n : Numbers) (m : Machine) (w : Moment) (s o : ℕ) (c : Command) (r : Reply)
    (pages : ℕ) → object_of c ≡ Some o → HasLengths m w → r ≡ reply_in c (slot_at m o).working →
    Agrees laid n w s c r → WasRefused laid n w s o c pages → ⊥
not-answered laid n m w s o c r pages on lengths is agrees was =
    let takes : accepts (plain_length (slot_at m o).working) was.edit ≡ true =
    sym (ap (λ size. accepts size was.edit) (lengths.working o)) ∙ was.accepted in
    let done : outcome_in was.edit (slot_at m o).working ≡ Done = (accepted-done was.edit (slot_at m o).working).0 takes in
    let ok : r ≡ reply.Ok = is ∙ reply_in-edit c was.edit (slot_at m o).working was.is ∙ ap reply_of done in
    let to_edit : OkToEdit laid n w s (object_of c) (edit_of c) = subst (λ (x : Reply). Agrees laid n w s c x) ok agrees in
    let here : OkToEdit laid n w s (Some o) (Some was.edit) =
    subst (λ (e : Option Edit). OkToEdit laid n w s (Some o) e) was.is
    (subst (λ (q : Option ℕ). OkToEdit laid n w s q (edit_of c)) on to_edit) in
    got-refused (answer_to laid n w s o was.edit) pages here.1 was.refused

abbrev Answered : Machine → Command → Reply → Type 0
Answered m c r = (r ≡ answer m c) ⊎ IsTrue (is_taking (deed c r))

pages_of : (laid : Lays) (n : Numbers) (w : Moment) (s o : ℕ) (c : Command) (r : Reply) → object_of c ≡ Some o →
    is_taking (deed c r) ≡ true → is_undisturbed r ≡ true → Agrees laid n w s c r → (pages : ℕ)
    × (r ≡ reply.NoSpace pages) × WasRefused laid n w s o c pages
pages_of laid n w s o c r on takes calm agrees =
    let named = taking-pages o (with_bytes c) r (sym (ap is_taking (deed-object c r o on)) ∙ takes) calm in
    (named.0, named.1, was_refused laid n w s o c named.0 on (subst (λ (x : Reply). Agrees laid n w s c x) named.1 agrees))

same-edit : (laid : Lays) (n : Numbers) (w : Moment) (s o : ℕ) (c : Command) (k l : ℕ) →
    WasRefused laid n w s o c k → WasRefused laid n w s o c l → k ≡ l
same-edit laid n w s o c k l one two =
    let same : Some one.edit ≡ Some two.edit = sym one.is ∙ two.is in
    let edits : one.edit ≡ two.edit = cc in
    refused-once (answer_to laid n w s o two.edit) k l (subst (λ e. IsRefused k (answer_to laid n w s o e)) edits one.refused) two.refused

-- two answers to a command on an object
same-object : (laid : Lays) (n : Numbers) (m : Machine) (w : Moment) (s o : ℕ) (c : Command) (r r' : Reply) →
    object_of c ≡ Some o → HasLengths m w → Answered m c r → Answered m c r' → Agrees laid n w s c r →
    Agrees laid n w s c r' → is_undisturbed r ≡ true → is_undisturbed r' ≡ true → r ≡ r'
same-object laid n m w s o c r r' on lengths (inl one) (inl two) agrees agrees' calm calm' = one ∙ sym two
same-object laid n m w s o c r r' on lengths (inl one) (inr two) agrees agrees' calm calm' =
    let named = pages_of laid n w s o c r' on two calm' agrees' in
    absurd (not-answered laid n m w s o c r named.0 on lengths (one ∙ answer-object m c o on) agrees named.2)
same-object laid n m w s o c r r' on lengths (inr one) (inl two) agrees agrees' calm calm' =
    let named = pages_of laid n w s o c r on one calm agrees in
    absurd (not-answered laid n m w s o c r' named.0 on lengths (two ∙ answer-object m c o on) agrees' named.2)
same-object laid n m w s o c r r' on lengths (inr one) (inr two) agrees agrees' calm calm' =
    let first = pages_of laid n w s o c r on one calm agrees in
    let second = pages_of laid n w s o c r' on two calm' agrees' in
    first.1 ∙ ap (λ (k : ℕ). reply.NoSpace k) (same-edit laid n w s o c first.0 second.0 first.2 second.2) ∙ sym second.1

-- two answers to a command on no object
same-bounds : (m : Machine) (c : Command) (r r' : Reply) → ((x : Reply) → is_taking (deed c x) ≡ true → ⊥) →
    Answered m c r → Answered m c r' → r ≡ r'
same-bounds m c r r' never (inl one) (inl two) = one ∙ sym two
same-bounds m c r r' never (inl one) (inr two) = absurd (never r' two)
same-bounds m c r r' never (inr one) two = absurd (never r one)

-- the counts that a reply tells
record Counts (r : Reply) : Type 0 where
  free : ℕ
  locked : ℕ
  held : ℕ
  is : r ≡ reply.Status free locked held

counts-of : (r : Reply) → is_status r ≡ true → Counts r
counts-of (reply.Status f l h) status = record { free = f; locked = l; held = h; is = refl }
counts-of reply.Ok status = absurd (false≢true status)
counts-of (reply.Length k) status = absurd (false≢true status)
counts-of (reply.Bytes x) status = absurd (false≢true status)
counts-of (reply.Range k) status = absurd (false≢true status)
counts-of reply.Exists status = absurd (false≢true status)
counts-of reply.Missing status = absurd (false≢true status)
counts-of reply.Busy status = absurd (false≢true status)
counts-of reply.Full status = absurd (false≢true status)
counts-of reply.NoObject status = absurd (false≢true status)
counts-of (reply.NoSpace k) status = absurd (false≢true status)
counts-of reply.Fault status = absurd (false≢true status)
counts-of reply.Memory status = absurd (false≢true status)
counts-of reply.Idle status = absurd (false≢true status)
counts-of reply.Active status = absurd (false≢true status)
counts-of reply.TooLong status = absurd (false≢true status)
counts-of reply.Worn status = absurd (false≢true status)
counts-of reply.Again status = absurd (false≢true status)

-- two counts of the pages of one moment
all-counts : (laid : Lays) (n : Numbers) (w : Moment) (s : ℕ) (r r' : Reply) → is_status r ≡ true →
    is_status r' ≡ true → Agrees laid n w s Status r → Agrees laid n w s Status r' → r ≡ r'
all-counts laid n w s r r' one two agrees agrees' =
    let a = counts-of r one in
    let b = counts-of r' two in
    a.is ∙ same-counts n w a.free a.locked a.held b.free b.locked b.held
    (subst (λ (x : Reply). Agrees laid n w s Status x) a.is agrees)
    (subst (λ (x : Reply). Agrees laid n w s Status x) b.is agrees') ∙ sym b.is
  where
    same-counts : (n : Numbers) (w : Moment) (f l h f' l' h' : ℕ) → AreCounts n w f l h → AreCounts n w f' l' h' →
        reply.Status f l h ≡ reply.Status f' l' h'
    same-counts n w f l h f' l' h' one two =
        let free : f ≡ f' = one.free_pages ∙ sym two.free_pages in
        let locked : l ≡ l' = one.locked_pages ∙ sym two.locked_pages in
        let first = one.all_pages in
        let second = two.all_pages in
        let held : h ≡ h' = omega (arith, free, locked, first, second) in
        ap (λ (k : ℕ). reply.Status k l h) free ∙ ap (λ (k : ℕ). reply.Status f' k h) locked ∙ ap (λ (k : ℕ). reply.Status f' l' k) held

-- two answers where nothing refuses the command
same-answered : (laid : Lays) (n : Numbers) (m : Machine) (w : Moment) (s : ℕ) (c : Command) (r r' : Reply) →
    HasLengths m w → IsAnswered m c r → IsAnswered m c r' → Agrees laid n w s c r → Agrees laid n w s c r' →
    is_undisturbed r ≡ true → is_undisturbed r' ≡ true → r ≡ r'
same-answered laid n m w s Begin r r' lengths one two agrees agrees' calm calm' =
    same-bounds m Begin r r' (λ x. begin_takes (is_done x)) one two
same-answered laid n m w s Commit r r' lengths one two agrees agrees' calm calm' =
    same-bounds m Commit r r' (λ x. commit_takes (is_done x)) one two
same-answered laid n m w s Abort r r' lengths one two agrees agrees' calm calm' =
    same-bounds m Abort r r' (λ x. abort_takes (is_done x)) one two
same-answered laid n m w s Status r r' lengths one two agrees agrees' calm calm' = all-counts laid n w s r r' one two agrees agrees'
same-answered laid n m w s (Create o t) r r' lengths one two agrees agrees' calm calm' =
    same-object laid n m w s o (Create o t) r r' refl lengths one two agrees agrees' calm calm'
same-answered laid n m w s (Destroy o) r r' lengths one two agrees agrees' calm calm' =
    same-object laid n m w s o (Destroy o) r r' refl lengths one two agrees agrees' calm calm'
same-answered laid n m w s (Length o) r r' lengths one two agrees agrees' calm calm' =
    same-object laid n m w s o (Length o) r r' refl lengths one two agrees agrees' calm calm'
same-answered laid n m w s (Read o at k) r r' lengths one two agrees agrees' calm calm' =
    same-object laid n m w s o (Read o at k) r r' refl lengths one two agrees agrees' calm calm'
same-answered laid n m w s (Append o p) r r' lengths one two agrees agrees' calm calm' =
    same-object laid n m w s o (Append o p) r r' refl lengths one two agrees agrees' calm calm'
same-answered laid n m w s (Insert o at p) r r' lengths one two agrees agrees' calm calm' =
    same-object laid n m w s o (Insert o at p) r r' refl lengths one two agrees agrees' calm calm'
same-answered laid n m w s (Delete o at k) r r' lengths one two agrees agrees' calm calm' =
    same-object laid n m w s o (Delete o at k) r r' refl lengths one two agrees agrees' calm calm'
same-answered laid n m w s (Replace o at p) r r' lengths one two agrees agrees' calm calm' =
    same-object laid n m w s o (Replace o at p) r r' refl lengths one two agrees agrees' calm calm'

-- without want of memory a reply is the first refusal, or an answer
undisturbed-replies : (m : Machine) (s : ℕ) (c : Command) (r : Reply) → is_undisturbed r ≡ true → Replies m s c r →
    MatchOption (refused m s c) (IsAnswered m c r) (λ x. r ≡ x)
undisturbed-replies m s c r calm replies =
    elim replies [
      | inl memory ↦ absurd (false≢true (sym (ap is_undisturbed memory.0) ∙ calm))
      | inr so ↦ so
    ]

pub same-reply : (laid : Lays) (n : Numbers) (m : Machine) (w : Moment) (s : ℕ) (c : Command) (r r' : Reply) →
    HasLengths m w → Replies m s c r → Replies m s c r' → Agrees laid n w s c r → Agrees laid n w s c r' →
    is_undisturbed r ≡ true → is_undisturbed r' ≡ true → r ≡ r'
same-reply laid n m w s c r r' lengths replies replies' agrees agrees' calm calm' =
    by_refusal (refused m s c) (undisturbed-replies m s c r calm replies)
    (undisturbed-replies m s c r' calm' replies')
  where
    by_refusal : (t : Option Reply) → MatchOption t (IsAnswered m c r) (λ x. r ≡ x) →
        MatchOption t (IsAnswered m c r') (λ x. r' ≡ x) → r ≡ r'
    by_refusal None one two = same-answered laid n m w s c r r' lengths one two agrees agrees' calm calm'
    by_refusal (Some refusal) one two = one ∙ sym two

-- one reply leads to one store
same-store : (laid : Lays) (mid last other : Store) (past : List Event) (e : Event) →
    HoldsBy e.session past mid.machine → IsToldStep laid mid e.session e.command e.reply last →
    IsToldStep laid mid e.session e.command e.reply other → other ≡ last
same-store laid mid last other past e holds one two =
    ap (λ (n : Numbers). record { numbers = n; machine = other.machine; moment = other.moment }) (two.numbers ∙ sym one.numbers)
    ∙ ap (λ (m : Machine). record { numbers = last.numbers; machine = m; moment = other.moment }) (two.machine ∙ sym one.machine)
    ∙ ap (λ (w : Moment). record { numbers = last.numbers; machine = last.machine; moment = w })
    (two.moment past holds ∙ sym (one.moment past holds))

same-event : (e f : Event) → e.session ≡ f.session → e.command ≡ f.command → e.reply ≡ f.reply → f ≡ e
same-event e f session command reply =
    ap (λ s. record { session = s; command = f.command; reply = f.reply }) (sym session)
    ∙ ap (λ c. record { session = e.session; command = c; reply = f.reply }) (sym command)
    ∙ ap (λ r. record { session = e.session; command = e.command; reply = r }) (sym reply)

-- the newest line, where all before it were the same
last-line : (laid : Lays) (good : Numbers → Tree → Type 0) (first mid last other : Store) (past : List Event)
    (e f : Event) → KeepsSoundness laid good → KeepsLength laid good → IsSoundRest good first →
    AllAskThresholds past → HasLengths first.machine first.moment
    → AreToldSteps laid first past mid → IsToldStep laid mid e.session e.command e.reply last →
    IsToldStep laid mid f.session f.command f.reply other → asked e ≡ asked f → is_undisturbed e.reply ≡ true →
    is_undisturbed f.reply ≡ true → (f ≡ e) × (other ≡ last)
last-line laid good first mid last other past e f sounds keeps rest asks lengths before one two same calm calm' = (
  event,
  same-store laid mid last other past e holds one
      (subst (λ (x : Event). IsToldStep laid mid x.session x.command x.reply other) event two),
)
  where
    session : e.session ≡ f.session
    session = ap (λ (a : ℕ × Command). a.0) same

    command : e.command ≡ f.command
    command = ap (λ (a : ℕ × Command). a.1) same

    here : HasLengths mid.machine mid.moment
    here = steps-lengths laid good first mid past sounds keeps rest asks lengths before

    replies : Replies mid.machine e.session e.command f.reply
    replies = subst (λ s. Replies mid.machine s e.command f.reply) (sym session)
        (subst (λ c. Replies mid.machine f.session c f.reply) (sym command) two.event.reply)

    agrees : Agrees laid mid.numbers mid.moment e.session e.command f.reply
    agrees = subst (λ s. Agrees laid mid.numbers mid.moment s e.command f.reply) (sym session)
        (subst (λ c. Agrees laid mid.numbers mid.moment f.session c f.reply) (sym command) two.agrees)

    event : f ≡ e
    event =
        same-event e f session command
        (same-reply laid mid.numbers mid.machine mid.moment e.session e.command e.reply f.reply here one.event.reply
        replies one.agrees agrees calm calm')

    holds : HoldsBy e.session past mid.machine
    holds =
        let told = told-run laid first mid past rest.rest before in
        subst (HoldsBy e.session past) (sym told.machine)
        ((Sound-run first.machine past rest.rest (MayRun-from first.machine past told.run)).tracks.held
        e.session)

pub determined : (laid : Lays) (good : Numbers → Tree → Type 0) (first last other : Store)
    (past rest : List Event) → KeepsSoundness laid good → KeepsLength laid good → IsSoundRest good first →
    AllAskThresholds past → HasLengths first.machine first.moment
    → AreToldSteps laid first past last → AreToldSteps laid first rest other → map asked past ≡ map asked rest →
    AllUndisturbed past → AllUndisturbed rest → (rest ≡ past) × (other ≡ last)
determined laid good first last other [] [] sounds keeps at_rest asks lengths one two same calm calm' = (refl, two ∙ sym one)
determined laid good first last other [] (f ∷ rest) sounds keeps at_rest asks lengths one two same calm calm' = absurd (cc)
determined laid good first last other (e ∷ past) [] sounds keeps at_rest asks lengths one two same calm calm' = absurd (cc)
determined laid good first last other (e ∷ past) (f ∷ rest) sounds keeps at_rest asks lengths one two same calm calm' =
    let head : asked e ≡ asked f = cc in
    let tail : map asked past ≡ map asked rest = cc in
    let before = determined laid good first one.0 two.0 past rest sounds keeps at_rest asks.0 lengths one.1 two.1 tail calm.0 calm'.0 in
    let newest = last-line laid good first one.0 last other past e f sounds keeps at_rest asks.0 lengths one.1 one.2
    (subst (λ (w : Store). IsToldStep laid w f.session f.command f.reply other) before.1 two.2) head calm.1
    calm'.1 in
    (ap (λ (x : Event). x ∷ rest) newest.0 ∙ ap (λ (l : List Event). e ∷ l) before.0, newest.1)
