-- A world after a command that an object served: where bytes are told, its spaces have the pages of its moment.
use Rattle.std.proofs.Common.{◌≡◌, ℕ, ◌-◌, ◌%◌, ◌<◌, Bool, true, false, List, length, set, Option, Some, is_some}
use Rattle.std.proofs.Common.{refl, ap, sym, ◌∙◌, subst, arith, inl, inr, if◌then◌else◌}
use Rattle.std.specs.Prelude.{IsTrue, IfSome}
use Rattle.std.proofs.lemmas.Bool.{cases_eq}
use Rattle.change_laws.specs.Tail.{HaveTails}
use Rattle.eos_ops.specs.declared.command.Command.{Command}
use Rattle.eos_ops.specs.declared.reply.Reply.{Reply}
use Rattle.geometry_model.specs.Numbers.{Numbers}
use Rattle.layout_model.specs.Layout.{Tree}
use Rattle.machine.specs.Machine.{Machine, Slot, slot_at, with_slot}
use Rattle.machine.proofs.Places.{slot_at-same, slot_at-other}
use Rattle.moment_model.specs.Moment.{Moment, IsSound, object_slot, with_object_slot, free_of, locked_of}
use Rattle.moment_model.specs.Run.{Lays, start_space, answer_to}
use Rattle.moment_laws.proofs.EndLemmas.{sound-held_more}
use Rattle.object_body.specs.Form.{Contents, NamesThreshold}
use Rattle.object_body.specs.Moves.{MovesTold, IsUntouched}
use Rattle.object_body.specs.Places.{AreHome}
use Rattle.shadow_txn.specs.Acts.{is_objects_own}
use Rattle.shadow_txn.specs.Transaction.{Transaction}
use Rattle.soundness_laws.specs.Keeping.{KeepsSoundness}
use Rattle.body_world.specs.Keeping.{HaveRoles, IsWorld, is_taken}
use Rattle.body_world.specs.Served.{Works, is_memory}
use Rattle.body_world.specs.Session.{Shown, Seen}
use Rattle.body_world.specs.Ties.{txn_at, slot_of, machine_seen, moment_seen, viewed}
use Rattle.body_world.proofs.Made.{IsStill, IsLaidOut, outcome-own}
use Rattle.body_world.proofs.ServedMoments.{IsShown, got-left, names-asks, moment-same, laid-answer}
use Rattle.body_world.proofs.ServedSteps.{left_seen, own-holder_after}
use Rattle.body_world.proofs.SpaceSets.{HavePages, free-page, locked-page, pages-have, object-fits, moved-pages}
use Rattle.body_world.proofs.Viewed.{as_slot, length-each}
use Rattle.body_world.proofs.ServedWorlds.{Answered, as_pages, own_space, there, seen-was, slot-was, pages-was, machine-served}
use Rattle.body_world.proofs.ServedWorlds.{moment-served, work-served}

-- what was held is held still
held-more : {T : Type 0} (tells : Bool) (suits : Contents → Type 0) (laid : Lays) (good : Numbers → Tree → Type 0)
    (show : T → Shown) (n : Numbers) (shelf : List (Option T)) (txns : List (Transaction T)) (i : ℕ) (c : Command) (o : ℕ) (r : Reply)
    (shelf' : List (Option T)) (txn' : Transaction T) (before after : Works)
    → (h : Answered tells suits laid good show n shelf txns i c o r shelf' txn' before after)
    → (p : ℕ) → is_taken (machine_seen show shelf txns) p ≡ true
    → is_taken (with_slot (machine_seen show shelf txns) o (slot_of (left_seen (txn_at txns i).session r h.was h.now))) p ≡ true
held-more tells suits laid good show n shelf txns i c o r shelf' txn' before after h p taken =
    elim (cases_eq p o) [
      | inl this ↦
          let was : is_some h.was.holder ≡ true =
          sym (ap (λ (x : Slot). is_some x.holder) (slot-was tells suits laid good show n shelf txns i c o r shelf' txn' before after h))
          ∙ ap (λ q. is_some (slot_at (machine_seen show shelf txns) q).holder) (sym this) ∙ taken in
          ap (λ q. is_some (slot_at (with_slot (machine_seen show shelf txns) o (slot_of seen)) q).holder) this
          ∙ ap (λ (x : Slot). is_some x.holder) (slot_at-same (machine_seen show shelf txns) o (slot_of seen) inside)
          ∙ by (is_memory r) h.was.holder was
      | inr other ↦
          ap (λ (x : Slot). is_some x.holder) (slot_at-other (machine_seen show shelf txns) o p (slot_of seen) other) ∙ taken
    ]
  where
    seen : Seen
    seen = left_seen (txn_at txns i).session r h.was h.now

    inside : o < length (machine_seen show shelf txns).slots
    inside =
        let below : o < length shelf = there tells suits laid good show n shelf txns i c o r shelf' txn' before after h in
        let size : length (machine_seen show shelf txns).slots ≡ length shelf = length-each as_slot show shelf txns in
        omega (arith, below, size)

    by : (b : Bool) (holder : Option ℕ) → is_some holder ≡ true
        → is_some (if b then holder else Some (txn_at txns i).session) ≡ true
    by true holder some = some
    by false holder some = refl

-- the object as the told spaces and the moment show it
pub shown : {T : Type 0} (tells : Bool) (suits : Contents → Type 0) (laid : Lays) (good : Numbers → Tree → Type 0)
    (show : T → Shown) (n : Numbers) (shelf : List (Option T)) (txns : List (Transaction T)) (i : ℕ) (c : Command) (o : ℕ) (r : Reply)
    (shelf' : List (Option T)) (txn' : Transaction T) (before after : Works)
    → (h : Answered tells suits laid good show n shelf txns i c o r shelf' txn' before after) (roles : HaveRoles good
    (viewed show n shelf txns) before.spaces.rest)
    → IsShown n (own_space txns i before) (txn_at txns i).session o (moment_seen show shelf txns) roles.views h.was.object before
shown tells suits laid good show n shelf txns i c o r shelf' txn' before after h roles =
    record {
      told = roles.told;
      many = roles.home.number;
      of_store = h.world.work.of_store o h.was (seen-was tells suits laid good show n shelf txns i c o r shelf' txn' before after h);
      from = ap (λ k. ((txn_at txns i).session - 1) % k) h.world.work.ready.store.number;
      has_free = roles.free;
      has_slot = sym (pages-was tells suits laid good show n shelf txns i c o r shelf' txn' before after h);
    }

-- told, the spaces have the pages of the moment after
roles-still : {T : Type 0} (tells : Bool) (suits : Contents → Type 0) (laid : Lays) (good : Numbers → Tree → Type 0)
    (show : T → Shown) (n : Numbers) (shelf : List (Option T)) (txns : List (Transaction T)) (i : ℕ) (c : Command) (o : ℕ) (r : Reply)
    (shelf' : List (Option T)) (txn' : Transaction T) (before after : Works)
    → (h : Answered tells suits laid good show n shelf txns i c o r shelf' txn' before after)
    → IsStill laid (own_space txns i before) c r h.was.object h.now before after
    → HaveRoles good (viewed show n shelf txns) before.spaces.rest
    → HaveRoles good (record {
      numbers = n;
      machine = with_slot (machine_seen show shelf txns) o (slot_of (left_seen (txn_at txns i).session r h.was h.now));
      moment = with_object_slot (moment_seen show shelf txns) o h.now.told.slot;
    }) after.spaces.rest
roles-still tells suits laid good show n shelf txns i c o r shelf' txn' before after h still roles =
    let moment : Moment = moment_seen show shelf txns in
    let same : with_object_slot moment o h.now.told.slot ≡ moment =
    moment-same o moment h.was.object.told h.now.told still.same (sym (pages-was tells suits laid good show n shelf txns i c o r shelf'
    txn' before after h)) in
    let frame = h.made.frame h.world.work.ready.none in
    let numbers : h.was.object.form.numbers ≡ n = h.world.work.of_store o h.was (seen-was tells suits laid good show n shelf txns i c o r
    shelf' txn' before after h) in
    let was : IsUntouched n before.spaces.rest.frame roles.views after.spaces.rest =
    subst (λ m. IsUntouched m before.spaces.rest.frame roles.views after.spaces.rest) numbers
    (still.spaces roles.views roles.told roles.home) in
    let has : HavePages n roles.views moment = record { free = roles.free; locked = roles.locked } in
    let now : HavePages n was.after moment =
    pages-have n before.spaces.rest.frame was.after moment h.world.work.ready.store was.home
    (λ page s at is. was.free page s at is ∙ free-page n roles.views moment has page s at is)
    (λ page s at is. was.locked page s at is ∙ locked-page n roles.views moment has page s at is) in
    record {
      views = was.after;
      told = was.told;
      home = subst (λ f. AreHome f was.after) (sym frame.frame) was.home;
      sound = sound-held_more good n (is_taken (machine_seen show shelf txns))
          (is_taken (with_slot (machine_seen show shelf txns) o (slot_of (left_seen (txn_at txns i).session r h.was h.now))))
          (with_object_slot moment o h.now.told.slot) (held-more tells suits laid good show n shelf txns i c o r shelf' txn' before after h)
          (subst (IsSound good n (is_taken (machine_seen show shelf txns))) (sym same) roles.sound);
      tails = subst (HaveTails n) (sym same) roles.tails;
      free = now.free ∙ ap (free_of n) (sym same);
      locked = now.locked ∙ ap (locked_of n) (sym same);
    }

roles-laid : {T : Type 0} (tells : Bool) (suits : Contents → Type 0) (laid : Lays) (good : Numbers → Tree → Type 0)
    (show : T → Shown) (n : Numbers) (shelf : List (Option T)) (txns : List (Transaction T)) (i : ℕ) (c : Command) (o : ℕ) (r : Reply)
    (shelf' : List (Option T)) (txn' : Transaction T) (before after : Works)
    → (h : Answered tells suits laid good show n shelf txns i c o r shelf' txn' before after) → KeepsSoundness laid good
    → IsLaidOut laid (own_space txns i before) c r h.was.object h.now before after
    → HaveRoles good (viewed show n shelf txns) before.spaces.rest
    → HaveRoles good (record {
      numbers = n;
      machine = with_slot (machine_seen show shelf txns) o (slot_of (left_seen (txn_at txns i).session r h.was h.now));
      moment = with_object_slot (moment_seen show shelf txns) o h.now.told.slot;
    }) after.spaces.rest
roles-laid tells suits laid good show n shelf txns i c o r shelf' txn' before after h keeps out roles =
    let moment : Moment = moment_seen show shelf txns in
    let m : Machine = machine_seen show shelf txns in
    let m' : Machine = with_slot m o (slot_of (left_seen (txn_at txns i).session r h.was h.now)) in
    let frame = h.made.frame h.world.work.ready.none in
    let numbers : h.was.object.form.numbers ≡ n = h.world.work.of_store o h.was (seen-was tells suits laid good show n shelf txns i c o r
    shelf' txn' before after h) in
    let own : IsTrue (is_objects_own r) = subst (λ t. IsTrue (is_objects_own t)) (sym out.reply) (outcome-own out.outcome) in
    let got = got-left (answer_to laid n moment (txn_at txns i).session o out.edit) h.now.told.slot
    (laid-answer laid n (own_space txns i before) (txn_at txns i).session o moment roles.views c r h.was.object h.now before after
    (shown tells suits laid good show n shelf txns i c o r shelf' txn' before after h roles) out) in
    let below : o < length m.slots =
    (let there : o < length shelf = there tells suits laid good show n shelf txns i c o r shelf' txn' before after h in
    let size : length m.slots ≡ length shelf = length-each as_slot show shelf txns in omega (arith, there, size)) in
    let inside : o < length moment =
    (let there : o < length shelf = there tells suits laid good show n shelf txns i c o r shelf' txn' before after h in
    let size : length moment ≡ length shelf = length-each as_pages show shelf txns in omega (arith, there, size)) in
    let taken : is_taken m' o ≡ true =
    ap (λ (x : Slot). is_some x.holder) (slot_at-same m o (slot_of (left_seen (txn_at txns i).session r h.was h.now)) below)
    ∙ ap is_some (own-holder_after (txn_at txns i).session r h.was.holder own) in
    let sound : IsSound good n (is_taken m') moment =
    sound-held_more good n (is_taken m) (is_taken m') moment (held-more tells suits laid good show n shelf txns i c o r shelf' txn' before
    after h) roles.sound in
    let asks = names-asks out.edit (subst (λ t. IfSome t NamesThreshold) out.is h.names) in
    let kept = keeps n (is_taken m') (start_space n (txn_at txns i).session) moment o out.edit h.now.told.slot got.0 h.world.work.range
    sound roles.tails taken asks got.1 in
    let moved : MovesTold n before.spaces.rest.frame roles.views (object_slot moment o) h.now.told.slot after.spaces.rest =
    subst (λ slot. MovesTold n before.spaces.rest.frame roles.views slot h.now.told.slot after.spaces.rest)
    (sym (pages-was tells suits laid good show n shelf txns i c o r shelf' txn' before after h))
    (subst (λ k. MovesTold k before.spaces.rest.frame roles.views h.was.object.told.slot h.now.told.slot after.spaces.rest) numbers
    (out.spaces roles.views roles.told roles.home)) in
    let has : HavePages n roles.views moment = record { free = roles.free; locked = roles.locked } in
    let now : HavePages n moved.after (with_object_slot moment o h.now.told.slot) =
    moved-pages good n (is_taken m) (is_taken m') before.spaces.rest.frame moment roles.views moved.after o h.now.told.slot
    h.world.work.ready.store moved.home roles.sound kept.0 inside has
    (moved.moves (object-fits good n (is_taken m) moment roles.views o roles.sound has)) in
    record {
      views = moved.after;
      told = moved.told;
      home = subst (λ f. AreHome f moved.after) (sym frame.frame) moved.home;
      sound = kept.0;
      tails = kept.1;
      free = now.free;
      locked = now.locked;
    }

-- the world after the command
pub world-served : {T : Type 0} (tells : Bool) (suits : Contents → Type 0) (laid : Lays) (good : Numbers → Tree → Type 0)
    (show : T → Shown) (n : Numbers) (shelf : List (Option T)) (txns : List (Transaction T)) (i : ℕ) (c : Command) (o : ℕ) (r : Reply)
    (shelf' : List (Option T)) (txn' : Transaction T) (before after : Works)
    → (h : Answered tells suits laid good show n shelf txns i c o r shelf' txn' before after) → KeepsSoundness laid good
    → IsWorld tells good show n shelf' (set txns i txn') after.spaces.rest after.meter.page
world-served tells suits laid good show n shelf txns i c o r shelf' txn' before after h keeps =
    record {
      work = work-served tells suits laid good show n shelf txns i c o r shelf' txn' before after h;
      roles = λ tell.
          subst (λ m. HaveRoles good (record {
            numbers = n;
            machine = m;
            moment = moment_seen show shelf'
                (set txns i txn');
          }) after.spaces.rest)
          (sym (machine-served tells suits laid good show n shelf txns i c o r shelf' txn' before after h))
          (subst (λ w. HaveRoles good (record {
            numbers = n;
            machine = with_slot (machine_seen show shelf txns) o (slot_of (left_seen (txn_at txns i).session r h.was h.now));
            moment = w;
          }) after.spaces.rest) (sym (moment-served tells suits laid good show n shelf txns i c o r shelf' txn' before after h))
          (elim (h.told tell) [
            | inl still ↦ roles-still tells suits laid good show n shelf txns i c o r shelf' txn' before after h still (h.world.roles tell)
            | inr out ↦ roles-laid tells suits laid good show n shelf txns i c o r shelf' txn' before after h keeps out (h.world.roles tell)
          ]));
    }
