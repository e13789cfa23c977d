-- A world after a command that an object served: what it is made of, over every device.
use Rattle.std.proofs.Common.{◌≡◌, ◌≢◌, ℕ, ◌-◌, ◌%◌, ◌<◌, Bool, true, false, List, length, map, set, Option, Some, None}
use Rattle.std.proofs.Common.{refl, ap, sym, ◌∙◌, subst, arith, inl, inr, ◌⊎◌, if◌then◌else◌}
use Rattle.std.specs.Prelude.{IsTrue}
use Rattle.std.specs.Option.{option_map_or}
use Rattle.std.proofs.lemmas.Bool.{cases_eq}
use Rattle.std.proofs.lemmas.List.{get_or-set_same}
use Rattle.std.proofs.lemmas.Option.{slice_get_within}
use Rattle.base_laws.proofs.OptionLaws.{some-inner}
use Rattle.eos_ops.specs.declared.command.Command.{Command}
use Rattle.eos_ops.specs.declared.edit.Edit.{Edit}
use Rattle.eos_ops.specs.declared.limits.TheConstants.{SESSIONS}
use Rattle.eos_ops.specs.declared.reply.Reply.{Reply}
use Rattle.eos_ops.specs.declared.reply.Reply.TheVariants as reply
use Rattle.eos_ops.specs.Objects.{object_of}
use Rattle.geometry_model.specs.Numbers.{Numbers}
use Rattle.layout_model.specs.Layout.{Tree}
use Rattle.machine.specs.Machine.{slot_at, with_slot}
use Rattle.machine.proofs.Places.{map-set_unseen}
use Rattle.moment_model.specs.Moment.{ObjectSlot, object_slot, with_object_slot, absent_slot}
use Rattle.moment_model.specs.Run.{Lays}
use Rattle.object_body.specs.Form.{Form, Contents, AreTied}
use Rattle.object_body.specs.Places.{IsStore}
use Rattle.shadow_txn.specs.Transaction.{Transaction}
use Rattle.superdirectory.specs.Rest.{count}
use Rattle.body_world.specs.Keeping.{IsAtWork, IsWorld}
use Rattle.body_world.specs.Served.{Works, MakesCommand, IsServed, KeepsSession, FitsObject, NamesThresholdIn, is_memory}
use Rattle.body_world.specs.Session.{Shown, Seen, seen_by, IsSoundSession}
use Rattle.body_world.specs.Ties.{no_txn, txn_at, seen_at, seat_of, slot_of, pages_of, machine_seen, moment_seen}
use Rattle.body_world.proofs.Holding.{memory-is}
use Rattle.body_world.proofs.Made.{IsMade, IsStill, IsLaidOut, made, made-told}
use Rattle.body_world.proofs.ServedSteps.{left_seen, HasVersions}
use Rattle.body_world.proofs.Sights.{seen-some}
use Rattle.body_world.proofs.Tied.{or_before, seen_at-seen, seen_at-set, tied-set}
use Rattle.body_world.proofs.Viewed.{as_slot, length-each, slot_at-seen, object_slot-seen, stays, each-served}

-- what a session sees is an object of the shelf
seen-there : {T : Type 0} (show : T → Shown) (shelf : List (Option T)) (txn : Transaction T) (o : ℕ) (was : Seen)
    → IsSoundSession shelf txn → seen_by show shelf txn o ≡ Some was → o < length shelf
seen-there show shelf txn o was sound sees = elim (seen-some show shelf txn o was sees) [
  | inl own ↦ slice_get_within shelf o None (sound.out o own.0 own.1)
  | inr home ↦ slice_get_within shelf o (Some home.1.0) home.1.1
]

-- how the moment reads what is seen
abbrev pub as_pages : Option Seen → ObjectSlot
as_pages seen = option_map_or pages_of seen absent_slot

-- the space that a session looks at first
abbrev pub own_space : {T : Type 0} → List (Transaction T) → ℕ → Works → ℕ
own_space txns i works = ((txn_at txns i).session - 1) % count works.spaces.rest

-- A command that an object served: the world before it, and what was made of the object.
pub record Answered {T : Type 0} (tells : Bool) (suits : Contents → Type 0) (laid : Lays) (good : Numbers → Tree → Type 0)
    (show : T → Shown) (n : Numbers) (shelf : List (Option T)) (txns : List (Transaction T)) (i : ℕ) (c : Command) (o : ℕ) (r : Reply)
    (shelf' : List (Option T)) (txn' : Transaction T) (before after : Works) : Type 0 where
  pub within : i < SESSIONS
  pub on : object_of c ≡ Some o
  pub names : NamesThresholdIn c
  pub world : IsWorld tells good show n shelf txns before.spaces.rest before.meter.page
  pub was : Seen
  pub now : Shown
  pub seen : seen_by show shelf (txn_at txns i) o ≡ Some was
  pub left : seen_by show shelf' txn' o ≡ Some (left_seen (txn_at txns i).session r was now)
  pub others : (p : ℕ) → p ≢ o → seen_by show shelf' txn' p ≡ seen_by show shelf (txn_at txns i) p
  pub kept : KeepsSession show shelf (txn_at txns i) shelf' txn'
  pub seat : seat_of txn' ≡ seat_of (txn_at txns i)
  pub fits : FitsObject tells suits c r was.object
  pub made : IsMade c r was.object now before after
  pub told : IsTrue tells → IsStill laid (own_space txns i before) c r was.object now before after
      ⊎ IsLaidOut laid (own_space txns i before) c r was.object now before after

abbrev pub answered : {T : Type 0} (tells : Bool) (suits : Contents → Type 0) (laid : Lays) (may_refuse : Numbers → ObjectSlot → ℕ → Type 0)
    (may_write : Numbers → ObjectSlot → Edit → ObjectSlot → ℕ → Type 0) (may_read : Numbers → ObjectSlot → ℕ → ℕ → Type 0)
    (good : Numbers → Tree → Type 0) (show : T → Shown) (n : Numbers) (shelf : List (Option T)) (txns : List (Transaction T)) (i : ℕ)
    (c : Command) (o : ℕ) (r : Reply) (shelf' : List (Option T)) (txn' : Transaction T) (before after : Works)
    → i < SESSIONS → object_of c ≡ Some o → NamesThresholdIn c
    → IsWorld tells good show n shelf txns before.spaces.rest before.meter.page
    → IsServed tells suits show
    (λ x y. MakesCommand tells suits laid may_refuse may_write may_read (own_space txns i before) c r x y before after)
    c o r shelf (txn_at txns i) shelf' txn'
    → Answered tells suits laid good show n shelf txns i c o r shelf' txn' before after
answered tells suits laid may_refuse may_write may_read good show n shelf txns i c o r shelf' txn' before after within on names world s =
    record {
      within = within;
      on = on;
      names = names;
      world = world;
      was = s.was;
      now = s.now;
      seen = s.seen;
      left = s.left;
      others = s.others;
      kept = s.kept;
      seat = ap (λ b. record { active = b; stamp = txn'.stamp }) s.is_open
          ∙ ap (λ stamp. record { active = (txn_at txns i).is_open; stamp = stamp }) s.stamp;
      fits = s.fits;
      made = made tells suits laid may_refuse may_write may_read (own_space txns i before) c r s.was.object s.now before after s.makes;
      told = λ tell. made-told tells suits laid may_refuse may_write may_read (own_space txns i before) c r s.was.object s.now before after
          tell s.makes;
    }

-- the object is one of the shelf, and the machine and the moment have it as it was seen
pub there : {T : Type 0} (tells : Bool) (suits : Contents → Type 0) (laid : Lays) (good : Numbers → Tree → Type 0)
    (show : T → Shown) (n : Numbers) (shelf : List (Option T)) (txns : List (Transaction T)) (i : ℕ) (c : Command) (o : ℕ) (r : Reply)
    (shelf' : List (Option T)) (txn' : Transaction T) (before after : Works)
    → (h : Answered tells suits laid good show n shelf txns i c o r shelf' txn' before after)
    → o < length shelf
there tells suits laid good show n shelf txns i c o r shelf' txn' before after h =
    seen-there show shelf (txn_at txns i) o h.was (h.world.work.shares.sound i h.within) h.seen

pub seen-was : {T : Type 0} (tells : Bool) (suits : Contents → Type 0) (laid : Lays) (good : Numbers → Tree → Type 0)
    (show : T → Shown) (n : Numbers) (shelf : List (Option T)) (txns : List (Transaction T)) (i : ℕ) (c : Command) (o : ℕ) (r : Reply)
    (shelf' : List (Option T)) (txn' : Transaction T) (before after : Works)
    → (h : Answered tells suits laid good show n shelf txns i c o r shelf' txn' before after)
    → seen_at show shelf txns o ≡ Some h.was
seen-was tells suits laid good show n shelf txns i c o r shelf' txn' before after h =
    seen_at-seen show shelf txns i o h.was h.within h.world.work.shares h.seen

pub slot-was : {T : Type 0} (tells : Bool) (suits : Contents → Type 0) (laid : Lays) (good : Numbers → Tree → Type 0)
    (show : T → Shown) (n : Numbers) (shelf : List (Option T)) (txns : List (Transaction T)) (i : ℕ) (c : Command) (o : ℕ) (r : Reply)
    (shelf' : List (Option T)) (txn' : Transaction T) (before after : Works)
    → (h : Answered tells suits laid good show n shelf txns i c o r shelf' txn' before after)
    → slot_at (machine_seen show shelf txns) o ≡ slot_of h.was
slot-was tells suits laid good show n shelf txns i c o r shelf' txn' before after h =
    slot_at-seen show shelf txns o ∙ ap as_slot (seen-was tells suits laid good show n shelf txns i c o r shelf' txn' before after h)

pub pages-was : {T : Type 0} (tells : Bool) (suits : Contents → Type 0) (laid : Lays) (good : Numbers → Tree → Type 0)
    (show : T → Shown) (n : Numbers) (shelf : List (Option T)) (txns : List (Transaction T)) (i : ℕ) (c : Command) (o : ℕ) (r : Reply)
    (shelf' : List (Option T)) (txn' : Transaction T) (before after : Works)
    → (h : Answered tells suits laid good show n shelf txns i c o r shelf' txn' before after)
    → object_slot (moment_seen show shelf txns) o ≡ h.was.object.told.slot
pages-was tells suits laid good show n shelf txns i c o r shelf' txn' before after h =
    object_slot-seen show shelf txns o ∙ ap as_pages (seen-was tells suits laid good show n shelf txns i c o r shelf' txn' before after h)

-- and the object alone changes in both
pub machine-served : {T : Type 0} (tells : Bool) (suits : Contents → Type 0) (laid : Lays) (good : Numbers → Tree → Type 0)
    (show : T → Shown) (n : Numbers) (shelf : List (Option T)) (txns : List (Transaction T)) (i : ℕ) (c : Command) (o : ℕ) (r : Reply)
    (shelf' : List (Option T)) (txn' : Transaction T) (before after : Works)
    → (h : Answered tells suits laid good show n shelf txns i c o r shelf' txn' before after)
    → machine_seen show shelf' (set txns i txn')
    ≡ with_slot (machine_seen show shelf txns) o (slot_of (left_seen (txn_at txns i).session r h.was h.now))
machine-served tells suits laid good show n shelf txns i c o r shelf' txn' before after h =
    let seen : Seen = left_seen (txn_at txns i).session r h.was h.now in
    ap (λ slots. record { slots = slots; seats = map seat_of (set txns i txn') })
    (each-served as_slot show shelf txns i shelf' txn' o seen h.within h.world.work.shares h.kept
    (there tells suits laid good show n shelf txns i c o r shelf' txn' before after h) h.left h.others)
    ∙ ap (λ seats. record { slots = set (machine_seen show shelf txns).slots o (slot_of seen); seats = seats })
    (map-set_unseen seat_of txns i no_txn txn' h.seat)

pub moment-served : {T : Type 0} (tells : Bool) (suits : Contents → Type 0) (laid : Lays) (good : Numbers → Tree → Type 0)
    (show : T → Shown) (n : Numbers) (shelf : List (Option T)) (txns : List (Transaction T)) (i : ℕ) (c : Command) (o : ℕ) (r : Reply)
    (shelf' : List (Option T)) (txn' : Transaction T) (before after : Works)
    → (h : Answered tells suits laid good show n shelf txns i c o r shelf' txn' before after)
    → moment_seen show shelf' (set txns i txn') ≡ with_object_slot (moment_seen show shelf txns) o h.now.told.slot
moment-served tells suits laid good show n shelf txns i c o r shelf' txn' before after h =
    each-served as_pages show shelf txns i shelf' txn' o (left_seen (txn_at txns i).session r h.was h.now) h.within h.world.work.shares
    h.kept
    (there tells suits laid good show n shelf txns i c o r shelf' txn' before after h) h.left h.others

-- so it has the object as it is now
pub pages-now : {T : Type 0} (tells : Bool) (suits : Contents → Type 0) (laid : Lays) (good : Numbers → Tree → Type 0)
    (show : T → Shown) (n : Numbers) (shelf : List (Option T)) (txns : List (Transaction T)) (i : ℕ) (c : Command) (o : ℕ) (r : Reply)
    (shelf' : List (Option T)) (txn' : Transaction T) (before after : Works)
    → (h : Answered tells suits laid good show n shelf txns i c o r shelf' txn' before after)
    → object_slot (moment_seen show shelf' (set txns i txn')) o ≡ h.now.told.slot
pages-now tells suits laid good show n shelf txns i c o r shelf' txn' before after h =
    let below : o < length shelf = there tells suits laid good show n shelf txns i c o r shelf' txn' before after h in
    let size : length (moment_seen show shelf txns) ≡ length shelf = length-each as_pages show shelf txns in
    ap (λ w. object_slot w o) (moment-served tells suits laid good show n shelf txns i c o r shelf' txn' before after h)
    ∙ get_or-set_same (moment_seen show shelf txns) o h.now.told.slot absent_slot (omega (arith, below, size))

pub numbers-was : {T : Type 0} (tells : Bool) (suits : Contents → Type 0) (laid : Lays) (good : Numbers → Tree → Type 0)
    (show : T → Shown) (n : Numbers) (shelf : List (Option T)) (txns : List (Transaction T)) (i : ℕ) (c : Command) (o : ℕ) (r : Reply)
    (shelf' : List (Option T)) (txn' : Transaction T) (before after : Works)
    → (h : Answered tells suits laid good show n shelf txns i c o r shelf' txn' before after)
    → h.was.object.form.numbers ≡ n
numbers-was tells suits laid good show n shelf txns i c o r shelf' txn' before after h = h.world.work.of_store o h.was
    (seen-was tells suits laid good show n shelf txns i c o r shelf' txn' before after h)

-- where bytes are told, the machine has the versions of the object, unless it wasn't looked at
pub versions : {T : Type 0} (tells : Bool) (suits : Contents → Type 0) (laid : Lays) (good : Numbers → Tree → Type 0)
    (show : T → Shown) (n : Numbers) (shelf : List (Option T)) (txns : List (Transaction T)) (i : ℕ) (c : Command) (o : ℕ) (r : Reply)
    (shelf' : List (Option T)) (txn' : Transaction T) (before after : Works)
    → (h : Answered tells suits laid good show n shelf txns i c o r shelf' txn' before after) → IsTrue tells
    → (r ≡ reply.Memory) ⊎ HasVersions h.was
versions tells suits laid good show n shelf txns i c o r shelf' txn' before after h tell =
    elim (h.fits.tied tell) [
      | inl memory ↦ inl memory
      | inr tied ↦ inr (record { working = by h.was.holder refl tied })
    ]
  where
    by : (holder : Option ℕ) → h.was.holder ≡ holder → AreTied suits h.was.object.form h.was.object.told
        → (slot_of h.was).working ≡ h.was.object.told.working
    by (Some s) is tied = rw is refl
    by None is tied =
        let rests = tied.rests (h.world.work.resting o h.was (seen-was tells suits laid good show n shelf txns i c o r shelf' txn' before
        after h) is) in
        rw is (sym rests.1)

-- over every device the world is at work still
holder-none : {T : Type 0} (tells : Bool) (suits : Contents → Type 0) (laid : Lays) (good : Numbers → Tree → Type 0)
    (show : T → Shown) (n : Numbers) (shelf : List (Option T)) (txns : List (Transaction T)) (i : ℕ) (c : Command) (o : ℕ) (r : Reply)
    (shelf' : List (Option T)) (txn' : Transaction T) (before after : Works)
    → (h : Answered tells suits laid good show n shelf txns i c o r shelf' txn' before after)
    → (left_seen (txn_at txns i).session r h.was h.now).holder ≡ None → (h.was.holder ≡ None) × (r ≡ reply.Memory)
holder-none tells suits laid good show n shelf txns i c o r shelf' txn' before after h =
    by (is_memory r) refl
  where
    by : (b : Bool) → is_memory r ≡ b → (if is_memory r then h.was.holder else Some (txn_at txns i).session) ≡ None
        → (h.was.holder ≡ None) × (r ≡ reply.Memory)
    by true is none = (sym (rw is refl) ∙ none, memory-is r is)
    by false is none = let wrong : Some (txn_at txns i).session ≡ None = sym (rw is refl) ∙ none in absurd cc

pub work-served : {T : Type 0} (tells : Bool) (suits : Contents → Type 0) (laid : Lays) (good : Numbers → Tree → Type 0)
    (show : T → Shown) (n : Numbers) (shelf : List (Option T)) (txns : List (Transaction T)) (i : ℕ) (c : Command) (o : ℕ) (r : Reply)
    (shelf' : List (Option T)) (txn' : Transaction T) (before after : Works)
    → (h : Answered tells suits laid good show n shelf txns i c o r shelf' txn' before after)
    → IsAtWork show n shelf' (set txns i txn') after.spaces.rest after.meter.page
work-served tells suits laid good show n shelf txns i c o r shelf' txn' before after h =
    let work = h.world.work in
    let frame = h.made.frame work.ready.none in
    record {
      range = work.range;
      shares = tied-set show shelf txns i shelf' txn' h.within work.shares h.kept;
      count = h.kept.size ∙ work.count;
      of_store = λ p seen is. elim (cases_eq p o) [
        | inl this ↦ subst (λ (x : Seen). x.object.form.numbers ≡ n) (here p seen this is)
            (h.made.numbers ∙ work.of_store o h.was (seen-was tells suits laid good show n shelf txns i c o r shelf' txn' before after h))
        | inr other ↦ work.of_store p seen (sym (aside p other) ∙ is)
      ];
      resting = λ p seen is. elim (cases_eq p o) [
        | inl this ↦ subst (λ (x : Seen). x.holder ≡ None → x.object.form.is_resting ≡ true) (here p seen this is)
            (λ free.
            let was = holder-none tells suits laid good show n shelf txns i c o r shelf' txn' before after h free in
            ap (λ (f : Form). f.is_resting) (h.made.form was.1) ∙ work.resting o h.was (seen-was tells suits laid good show n shelf txns i
            c o r shelf' txn' before after h) was.0)
        | inr other ↦ work.resting p seen (sym (aside p other) ∙ is)
      ];
      ready = record { store = subst (IsStore n) (sym frame.frame) work.ready.store; none = frame.entered };
      sized = h.made.used.page ∙ work.sized;
    }
  where
    aside : (p : ℕ) → p ≢ o → seen_at show shelf' (set txns i txn') p ≡ seen_at show shelf txns p
    aside p other = stays show shelf txns i shelf' txn' h.within h.world.work.shares h.kept p (h.others p other)

    here : (p : ℕ) (seen : Seen) → p ≡ o → seen_at show shelf' (set txns i txn') p ≡ Some seen
        → left_seen (txn_at txns i).session r h.was h.now ≡ seen
    here p seen this is =
        let at : seen_at show shelf' (set txns i txn') p ≡ Some (left_seen (txn_at txns i).session r h.was h.now) =
        ap (seen_at show shelf' (set txns i txn')) this
        ∙ seen_at-set show shelf txns i shelf' txn' h.within h.world.work.shares h.kept o
        ∙ ap (λ sight. or_before sight (seen_at show shelf txns o)) h.left in
        some-inner (left_seen (txn_at txns i).session r h.was h.now) seen (sym at ∙ is)
