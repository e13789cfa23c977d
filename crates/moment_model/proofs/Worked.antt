-- Worked runs on a fresh small store: 256 bytes a page, one space of 16 pages from page 3 on, threshold 2.
use Rattle.std.proofs.Common.{◌≡◌, ℕ, true, false, refl, Some, None, [], ◌∷◌, replicate}
use Rattle.geometry_model.specs.Numbers.{Numbers}
use Rattle.block_model.specs.Place.{place}
use Rattle.eos_ops.specs.declared.command.Command.{Command}
use Rattle.eos_ops.specs.declared.command.Command.TheVariants.{Begin, Create, Destroy, Length, Append, Insert}
use Rattle.eos_ops.specs.declared.command.Command.TheVariants.{Delete, Commit, Abort, Status}
use Rattle.eos_ops.specs.declared.payload.Payload.TheVariants.{Given, Made}
use Rattle.eos_ops.specs.declared.reply.Reply.{Reply}
use Rattle.eos_ops.specs.declared.reply.Reply.TheVariants as reply
use Rattle.history.specs.Event.{Event}
use Rattle.layout_model.specs.Plan.{planned}
use Rattle.layout_model.specs.Levels.{spliced}
use Rattle.layout_model.specs.Layout.{granted, laid}
use Rattle.moment_model.specs.Moment.{Moment, absent_slot, free_of, locked_of}
use Rattle.moment_model.specs.Edit.{edited_slot}
use Rattle.moment_model.specs.Run.{AllAgree, moment_after}

abbrev small : Numbers
small = record { page = 256; order = 4; spaces = 1; catalog = 1; threshold = 2 }

abbrev fresh : Moment
fresh = replicate 16 absent_slot

-- an answered line of a session
abbrev at : ℕ → Command → Reply → Event
at session command reply = record { session = session; command = command; reply = reply }

node_refused : AllAgree edited_slot small fresh (at 1 Commit reply.Ok ∷ at 1 (Length 0) (reply.Length 0)
    ∷ at 1 (Append 0 (Made 4096 1)) (reply.NoSpace 1) ∷ at 1 (Create 0 None) reply.Ok ∷ at 1 Begin reply.Ok ∷ [])
unfolding moment_after edited_slot free_of locked_of granted laid planned spliced place
node_refused = (((((tt, tt), (refl, tt)), (refl, refl)), tt), tt)

full_space : AllAgree edited_slot small fresh (at 1 Commit reply.Ok ∷ at 1 Status (reply.Status 0 0 16)
    ∷ at 1 (Append 0 (Made 3840 1)) reply.Ok ∷ at 1 (Create 0 None) reply.Ok ∷ at 1 Begin reply.Ok ∷ [])
unfolding moment_after edited_slot free_of locked_of granted laid planned spliced place
full_space = (((((tt, tt), (refl, tt)), (refl, tt)), record { free_pages = refl; locked_pages = refl; all_pages = refl }), tt)

freed_by_a_commit : AllAgree edited_slot small fresh (at 1 Commit reply.Ok ∷ at 1 (Append 1 (Made 2048 2)) reply.Ok
    ∷ at 2 Commit reply.Ok ∷ at 1 (Append 1 (Made 2048 2)) (reply.NoSpace 1) ∷ at 1 (Create 1 None) reply.Ok
    ∷ at 1 Begin reply.Ok ∷ at 2 Status (reply.Status 8 8 0) ∷ at 2 (Delete 0 0 1792) reply.Ok ∷ at 2 Begin reply.Ok
    ∷ at 1 Commit reply.Ok ∷ at 1 (Append 0 (Made 1792 1)) reply.Ok ∷ at 1 (Create 0 None) reply.Ok
    ∷ at 1 Begin reply.Ok ∷ [])
unfolding moment_after edited_slot free_of locked_of granted laid planned spliced place
freed_by_a_commit = (
  (
    (
      (
        (
          (
            (
              ((((((tt, tt), (refl, tt)), (refl, tt)), tt), tt), (refl, tt)),
              record { free_pages = refl; locked_pages = refl; all_pages = refl },
            ),
            tt,
          ),
          (refl, tt),
        ),
        (refl, refl),
      ),
      tt,
    ),
    (refl, tt),
  ),
  tt,
)

kept_by_an_abort : AllAgree edited_slot small fresh (at 1 (Length 0) (reply.Length 1792) ∷ at 1 Begin reply.Ok
    ∷ at 1 Commit reply.Ok ∷ at 1 (Append 1 (Made 2048 2)) (reply.NoSpace 1) ∷ at 2 Abort reply.Ok
    ∷ at 1 (Append 1 (Made 2048 2)) (reply.NoSpace 1) ∷ at 1 (Create 1 None) reply.Ok ∷ at 1 Begin reply.Ok
    ∷ at 2 Status (reply.Status 8 8 0) ∷ at 2 (Delete 0 0 1792) reply.Ok ∷ at 2 Begin reply.Ok
    ∷ at 1 Commit reply.Ok ∷ at 1 (Append 0 (Made 1792 1)) reply.Ok ∷ at 1 (Create 0 None) reply.Ok
    ∷ at 1 Begin reply.Ok ∷ [])
unfolding moment_after edited_slot free_of locked_of granted laid planned spliced place
kept_by_an_abort = (
  (
    (
      (
        (
          (
            (
              (
                (
                  ((((((tt, tt), (refl, tt)), (refl, tt)), tt), tt), (refl, tt)),
                  record { free_pages = refl; locked_pages = refl; all_pages = refl },
                ),
                tt,
              ),
              (refl, tt),
            ),
            (refl, refl),
          ),
          tt,
        ),
        (refl, refl),
      ),
      tt,
    ),
    tt,
  ),
  tt,
)

insert_at_border : AllAgree edited_slot small fresh (at 1 Status (reply.Status 12 0 4) ∷ at 1 Commit reply.Ok
    ∷ at 1 Status (reply.Status 10 2 4) ∷ at 1 (Insert 0 256 (Given (45 ∷ []))) reply.Ok ∷ at 1 Begin reply.Ok
    ∷ at 1 Commit reply.Ok ∷ at 1 (Append 0 (Made 512 0)) reply.Ok ∷ at 1 (Create 0 None) reply.Ok
    ∷ at 1 Begin reply.Ok ∷ [])
unfolding moment_after edited_slot free_of locked_of granted laid planned spliced place
insert_at_border = (
  (
    (
      ((((((tt, tt), (refl, tt)), (refl, tt)), tt), tt), (refl, tt)),
      record { free_pages = refl; locked_pages = refl; all_pages = refl },
    ),
    tt,
  ),
  record { free_pages = refl; locked_pages = refl; all_pages = refl },
)

insert_before_border : AllAgree edited_slot small fresh (at 1 Status (reply.Status 12 0 4) ∷ at 1 Commit reply.Ok
    ∷ at 1 Status (reply.Status 10 2 4) ∷ at 1 (Insert 0 255 (Given (45 ∷ []))) reply.Ok ∷ at 1 Begin reply.Ok
    ∷ at 1 Commit reply.Ok ∷ at 1 (Append 0 (Made 512 0)) reply.Ok ∷ at 1 (Create 0 None) reply.Ok
    ∷ at 1 Begin reply.Ok ∷ [])
unfolding moment_after edited_slot free_of locked_of granted laid planned spliced place
insert_before_border = (
  (
    (
      ((((((tt, tt), (refl, tt)), (refl, tt)), tt), tt), (refl, tt)),
      record { free_pages = refl; locked_pages = refl; all_pages = refl },
    ),
    tt,
  ),
  record { free_pages = refl; locked_pages = refl; all_pages = refl },
)

insert_behind_border : AllAgree edited_slot small fresh (at 1 Status (reply.Status 12 0 4) ∷ at 1 Commit reply.Ok
    ∷ at 1 Status (reply.Status 11 1 4) ∷ at 1 (Insert 0 257 (Given (45 ∷ []))) reply.Ok ∷ at 1 Begin reply.Ok
    ∷ at 1 Commit reply.Ok ∷ at 1 (Append 0 (Made 512 0)) reply.Ok ∷ at 1 (Create 0 None) reply.Ok
    ∷ at 1 Begin reply.Ok ∷ [])
unfolding moment_after edited_slot free_of locked_of granted laid planned spliced place
insert_behind_border = (
  (
    (
      ((((((tt, tt), (refl, tt)), (refl, tt)), tt), tt), (refl, tt)),
      record { free_pages = refl; locked_pages = refl; all_pages = refl },
    ),
    tt,
  ),
  record { free_pages = refl; locked_pages = refl; all_pages = refl },
)

growing_tail : AllAgree edited_slot small fresh (at 1 Status (reply.Status 11 0 5) ∷ at 1 Commit reply.Ok
    ∷ at 1 Status (reply.Status 9 0 7) ∷ at 1 (Append 0 (Made 256 0)) reply.Ok ∷ at 1 Status (reply.Status 9 0 7)
    ∷ at 1 (Append 0 (Made 256 0)) reply.Ok ∷ at 1 Status (reply.Status 13 0 3)
    ∷ at 1 (Append 0 (Made 256 0)) reply.Ok ∷ at 1 (Append 0 (Made 256 0)) reply.Ok ∷ at 1 (Create 0 None) reply.Ok
    ∷ at 1 Begin reply.Ok ∷ [])
unfolding moment_after edited_slot free_of locked_of granted laid planned spliced place
growing_tail = (
  (
    (
      (
        (
          (
            (
              ((((tt, tt), (refl, tt)), (refl, tt)), (refl, tt)),
              record { free_pages = refl; locked_pages = refl; all_pages = refl },
            ),
            (refl, tt),
          ),
          record { free_pages = refl; locked_pages = refl; all_pages = refl },
        ),
        (refl, tt),
      ),
      record { free_pages = refl; locked_pages = refl; all_pages = refl },
    ),
    tt,
  ),
  record { free_pages = refl; locked_pages = refl; all_pages = refl },
)

destroyed_and_made_again : AllAgree edited_slot small fresh (at 1 Commit reply.Ok
    ∷ at 1 Status (reply.Status 16 0 0) ∷ at 1 (Length 0) (reply.Length 0) ∷ at 1 (Create 0 None) reply.Ok
    ∷ at 1 (Length 0) reply.Missing ∷ at 1 (Destroy 0) reply.Ok ∷ at 1 (Append 0 (Given (65 ∷ []))) reply.Ok
    ∷ at 1 (Create 0 None) reply.Ok ∷ at 1 Begin reply.Ok ∷ [])
unfolding moment_after edited_slot free_of locked_of granted laid planned spliced place
destroyed_and_made_again = (
  (
    (((((((tt, tt), (refl, tt)), (refl, tt)), (refl, tt)), tt), (refl, tt)), tt),
    record { free_pages = refl; locked_pages = refl; all_pages = refl },
  ),
  tt,
)

asked_threshold : AllAgree edited_slot small fresh (at 1 (Create 1 (Some 8192)) reply.Ok ∷ at 1 Begin reply.Ok
    ∷ at 1 Status (reply.Status 12 0 4) ∷ at 1 Commit reply.Ok ∷ at 1 Status (reply.Status 9 3 4)
    ∷ at 1 (Insert 0 256 (Given (45 ∷ []))) reply.Ok ∷ at 1 Begin reply.Ok ∷ at 1 Commit reply.Ok
    ∷ at 1 (Append 0 (Made 512 0)) reply.Ok ∷ at 1 (Create 0 (Some 8)) reply.Ok ∷ at 1 Begin reply.Ok ∷ [])
unfolding moment_after edited_slot free_of locked_of granted laid planned spliced place
asked_threshold = (
  (
    (
      (
        (
          ((((((tt, tt), (refl, tt)), (refl, tt)), tt), tt), (refl, tt)),
          record { free_pages = refl; locked_pages = refl; all_pages = refl },
        ),
        tt,
      ),
      record { free_pages = refl; locked_pages = refl; all_pages = refl },
    ),
    tt,
  ),
  (refl, tt),
)

halves : AllAgree edited_slot small fresh (at 1 Commit reply.Ok ∷ at 1 (Append 4 (Made 1024 0)) (reply.NoSpace 2)
    ∷ at 1 (Append 4 (Made 768 0)) (reply.NoSpace 3) ∷ at 1 (Create 4 None) reply.Ok
    ∷ at 1 Status (reply.Status 1 0 15) ∷ at 1 (Append 3 (Made 1280 5)) reply.Ok ∷ at 1 (Create 3 None) reply.Ok
    ∷ at 1 (Append 2 (Made 256 0)) reply.Ok ∷ at 1 (Create 2 None) reply.Ok ∷ at 1 (Append 1 (Made 1024 0)) reply.Ok
    ∷ at 1 (Create 1 None) reply.Ok ∷ at 1 (Append 0 (Made 256 0)) reply.Ok ∷ at 1 (Create 0 None) reply.Ok
    ∷ at 1 Begin reply.Ok ∷ [])
unfolding moment_after edited_slot free_of locked_of granted laid planned spliced place
halves = (
  (
    (
      (
        (
          (
            (
              (((((((tt, tt), (refl, tt)), (refl, tt)), (refl, tt)), (refl, tt)), (refl, tt)), (refl, tt)),
              (refl, tt),
            ),
            (refl, tt),
          ),
          record { free_pages = refl; locked_pages = refl; all_pages = refl },
        ),
        (refl, tt),
      ),
      (refl, refl),
    ),
    (refl, refl),
  ),
  tt,
)

-- no run has an append to an absent object that is answered `ok`
appended_to_nothing : AllAgree edited_slot small fresh (at 1 (Append 0 (Given (65 ∷ []))) reply.Ok ∷ at 1 Begin reply.Ok ∷ []) → ⊥
unfolding moment_after
appended_to_nothing agree = let bad : false ≡ true = agree.1.0 in absurd (cc)
