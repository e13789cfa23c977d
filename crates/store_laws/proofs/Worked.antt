-- Worked steps of a fresh small store: 256 bytes a page, one space of 16 pages, 16 objects, two sessions. One line is
-- refused its object, one its pages.
use Rattle.std.proofs.Common.{◌<◌, ◌≤◌, refl, List, [], ◌∷◌, None, replicate, inl, inr, arith}
use Rattle.eos_ops.specs.declared.command.Command.TheVariants.{Begin, Create, Length, Append}
use Rattle.eos_ops.specs.declared.payload.Payload.TheVariants.{Made}
use Rattle.eos_ops.specs.declared.plain.Plain.TheVariants.{Absent}
use Rattle.eos_ops.specs.declared.reply.Reply.TheVariants as reply
use Rattle.eos_ops.specs.Objects.{reply_in, after_in}
use Rattle.block_model.specs.Place.{place}
use Rattle.geometry_model.specs.Numbers.{Numbers}
use Rattle.history.specs.Event.{Event, deed_of}
use Rattle.layout_model.specs.Plan.{planned}
use Rattle.layout_model.specs.Levels.{spliced}
use Rattle.layout_model.specs.Layout.{granted, laid}
use Rattle.machine.specs.Machine.{held_by, fresh}
use Rattle.machine.specs.Next.{next}
use Rattle.machine.specs.Replies.{refused}
use Rattle.moment_model.specs.Edit.{edited_slot}
use Rattle.moment_model.specs.Moment.{absent_slot, free_of, locked_of}
use Rattle.moment_model.specs.Run.{moment_after}
use Rattle.store_model.specs.Store.{Store, event_of, AreToldSteps}
use Rattle.store_laws.specs.Runs.{AllUndisturbed}
use Rattle.std.proofs.Common.{ℕ, zero, suc, ◌^◌, ◌*◌, ◌≡◌, false, Some, subst, sym, ap, ◌∙◌}
use Rattle.std.specs.Prelude.{map, slice_index_or}
use Rattle.eos_ops.specs.declared.payload.Payload.{Payload}
use Rattle.eos_ops.specs.declared.edit.Edit.{Edit}
use Rattle.eos_ops.specs.declared.plain.Plain.{Plain}
use Rattle.eos_ops.specs.Objects.{edit_of}
use Rattle.eos_ops.specs.Payloads.{payload_bytes}
use Rattle.eos_ops.specs.declared.edit.Edit.TheVariants as edit
use Rattle.geometry_model.specs.Numbers.{IsInRange}
use Rattle.moment_model.specs.Moment.{ObjectSlot, IsAllAbsent, IsSound}
use Rattle.moment_model.specs.Version.{IsGood, version_bytes}
use Rattle.moment_model.specs.Run.{all_aborted}
use Rattle.machine.specs.Machine.{Slot, slot_at, new_slot, database}
use Rattle.machine.proofs.Places.{get_or_map}
use Rattle.machine.proofs.Sizes.{AtRest-fresh}
use Rattle.machine.proofs.Caused.{AllCaused-fresh}
use Rattle.effect_laws.specs.Lengths.{plain_length}
use Rattle.history.specs.Serial.{Serial}
use Rattle.history.specs.Refusals.{AllCaused}
use Rattle.history.specs.Transactions.{ends}
use Rattle.soundness_laws.specs.Keeping.{AsksThreshold}
use Rattle.change_laws.specs.Tail.{HaveTails}
use Rattle.soundness_laws.proofs.EditLemmas.{edited-sound}
use Rattle.length_laws.proofs.LengthLemmas.{trees-keep_length}
use Rattle.soundness_laws.specs.InOrder.{is_held}
use Rattle.store_moment_laws.proofs.FirstLemmas.{fresh-absent, absent-sound, absent-tails}
use Rattle.store_laws.specs.Lengths.{HasLengths}
use Rattle.store_laws.specs.Runs.{IsToldRun, AllAskThresholds, IsSoundRest, asked}
use Rattle.store_laws.proofs.AnswerLemmas.{determined}
use Rattle.store_laws.proofs.LengthLemmas.{steps-lengths}
use Rattle.store_laws.proofs.SoundLemmas.{steps-sound, steps-ended}
use Rattle.store_laws.proofs.StepLemmas.{told-run, told-serial, told-owed, owed-run}

abbrev small : Numbers
small = record { page = 256; order = 4; spaces = 1; catalog = 1; threshold = 2 }

abbrev first : Store
first = record { numbers = small; machine = fresh 2 (replicate 16 Absent); moment = replicate 16 absent_slot }

-- the store after a line that ends no transaction, and so doesn't look at the lines before
abbrev after : Store → Event → Store
after w e = record {
  numbers = w.numbers;
  machine = next w.machine e.session (deed_of e);
  moment =
      moment_after edited_slot w.numbers [] w.moment e;
}

abbrev begins : Event
begins = event_of 1 Begin reply.Ok

abbrev other_begins : Event
other_begins = event_of 2 Begin reply.Ok

abbrev creates : Event
creates = event_of 1 (Create 0 None) reply.Ok

-- the whole space is no room for the node above so many bytes
abbrev no_pages : Event
no_pages = event_of 1 (Append 0 (Made 4096 1)) (reply.NoSpace 1)

-- the object is with the first session
abbrev busy : Event
busy = event_of 2 (Length 0) reply.Busy

-- the two begin, the first makes an object and is refused pages, and the other is refused the object
abbrev steps : List Event
steps = busy ∷ no_pages ∷ creates ∷ other_begins ∷ begins ∷ []

abbrev second : Store
second = after first begins

abbrev third : Store
third = after second other_begins

abbrev fourth : Store
fourth = after third creates

abbrev fifth : Store
fifth = after fourth no_pages

one : 1 ≤ 2
one = omega arith

two : 2 ≤ 2
two = omega arith

some_one : 0 < 1
some_one = omega arith

some_two : 0 < 2
some_two = omega arith

told : AreToldSteps edited_slot first steps (after fifth busy)
unfolding moment_after edited_slot free_of locked_of granted laid planned spliced place refused held_by reply_in after_in
told = (
  fifth,
  (
    fourth,
    (
      third,
      (
        second,
        (
          first,
          refl,
          record {
            numbers = refl;
            event = record {
              session = record { from_one = some_one; within = one };
              reply =
                  inr (inl refl);
            };
            machine = refl;
            moment = λ past holds. refl;
            agrees = tt;
          },
        ),
        record {
          numbers = refl;
          event = record {
            session = record { from_one = some_two; within = two };
            reply =
                inr (inl refl);
          };
          machine = refl;
          moment = λ past holds. refl;
          agrees = tt;
        },
      ),
      record {
        numbers = refl;
        event = record {
          session = record { from_one = some_one; within = one };
          reply =
              inr (inl refl);
        };
        machine = refl;
        moment = λ past holds. refl;
        agrees = (refl, tt);
      },
    ),
    record {
      numbers = refl;
      event = record {
        session = record { from_one = some_one; within = one };
        reply =
            inr (inr refl);
      };
      machine = refl;
      moment = λ past holds. refl;
      agrees = (refl, refl);
    },
  ),
  record {
    numbers = refl;
    event = record {
      session = record { from_one = some_two; within = two };
      reply =
          inr refl;
    };
    machine = refl;
    moment = λ past holds. refl;
    agrees = tt;
  },
)

-- no reply tells of a fault or of want of memory
calm : AllUndisturbed steps
calm = (((((tt, refl), refl), refl), refl), refl)

-- ---- the laws apply to these steps

abbrev last : Store
last = after fifth busy

in_range : IsInRange small
in_range =
    let order_low : 4 ≤ 4 = omega arith in
    let order_high : 16 ≤ 4 * 256 = omega arith in
    let spaces_low : 1 ≤ 1 = omega arith in
    let spaces_high : 1 ≤ 256 = omega arith in
    let catalog_high : 1 ≤ 16 = omega arith in
    let threshold_low : 1 ≤ 2 = omega arith in
    let threshold_high : 2 * 2 ≤ 16 = omega arith in
    record {
      page_size = refl;
      order_low = order_low;
      order_high = order_high;
      spaces_low = spaces_low;
      spaces_high = spaces_high;
      catalog_low = spaces_low;
      catalog_high = catalog_high;
      threshold_low = threshold_low;
      threshold_high = threshold_high;
    }

absent : IsAllAbsent first.moment
absent = fresh-absent 16

at_rest : IsSoundRest IsGood first
at_rest = record {
  range = in_range;
  rest = AtRest-fresh 2 (replicate 16 Absent);
  sound = absent-sound IsGood small (λ o. false) first.moment absent;
  tails = absent-tails small first.moment absent;
  slots = refl;
}

create-asks : (e : Edit) → edit_of (Create 0 None) ≡ Some e → AsksThreshold e
create-asks e is = (let same : edit.Create None ≡ e = cc in subst AsksThreshold same tt)

append-asks : (p : Payload) (e : Edit) → edit_of (Append 0 p) ≡ Some e → AsksThreshold e
append-asks p e is = (let same : edit.Append (payload_bytes p) ≡ e = cc in subst AsksThreshold same tt)

asks : AllAskThresholds steps
asks = (((((tt, λ e is. absurd cc), λ e is. absurd cc), create-asks), append-asks (Made 4096 1)), λ e is. absurd cc)

-- each object is absent, in the machine and in the moment
all-absent : (k o : ℕ) → slice_index_or (replicate k Absent) o Absent ≡ Absent
all-absent zero zero = refl
all-absent zero (suc o) = refl
all-absent (suc k) zero = refl
all-absent (suc k) (suc o) = all-absent k o

untouched : (o : ℕ) → slot_at first.machine o ≡ new_slot Absent
untouched o = get_or_map new_slot (replicate 16 Absent) o Absent ∙ ap new_slot (all-absent 16 o)

no_lengths : HasLengths first.machine first.moment
no_lengths = record {
  size = refl;
  committed = λ o. ap (λ (s : ObjectSlot). version_bytes s.committed) (absent o)
      ∙ sym (ap (λ (s : Slot). plain_length s.committed) (untouched o));
  working = λ o. ap (λ (s : ObjectSlot). version_bytes s.working) (absent o)
      ∙ sym (ap (λ (s : Slot). plain_length s.working) (untouched o));
}

-- they are a run, whose ends are serial and whose replies have their causes
run : IsToldRun edited_slot first steps last
run = told-run edited_slot first last steps at_rest.rest told

serial : Serial (database first.machine) (ends 2 steps) (database last.machine)
serial = told-serial edited_slot first last steps at_rest.rest told

causes : AllCaused 2 16 steps
causes =
    let short : 5 ≤ 2 ^ 62 = omega arith in
    AllCaused-fresh 2 (replicate 16 Absent) steps
    (owed-run first.machine last.machine steps (told-owed edited_slot first last steps told)).0 short

-- the last moment is sound with the object held, sound with nothing held once all have aborted, and has the objects' lengths
sound : IsSound IsGood small (is_held 2 steps) last.moment × HaveTails small last.moment
sound = steps-sound edited_slot IsGood first last steps edited-sound at_rest asks told

ended : IsSound IsGood small (λ o. false) (all_aborted 2 steps last.moment)
ended = steps-ended edited_slot IsGood first last steps edited-sound at_rest asks told

lengths : HasLengths last.machine last.moment
lengths = steps-lengths edited_slot IsGood first last steps edited-sound trees-keep_length at_rest asks no_lengths told

-- no other undisturbed replies are had for these commands
alone : (other : Store) (rest : List Event) → AreToldSteps edited_slot first rest other → map asked steps ≡ map asked rest →
    AllUndisturbed rest → (rest ≡ steps) × (other ≡ last)
alone other rest others same calm_too =
    determined edited_slot IsGood first last other steps rest edited-sound trees-keep_length at_rest asks no_lengths
    told others same calm calm_too
