-- The first objects and sessions are tied, and are the machine over fresh objects.
use Rattle.std.proofs.Common.{◌≡◌, ℕ, List, replicate, Option, Some, map, ap, ◌∙◌, sym, subst}
use Rattle.std.specs.List.{range_with_len}
use Rattle.eos_ops.specs.declared.limits.TheConstants.{SESSIONS}
use Rattle.eos_ops.specs.declared.plain.Plain.TheVariants.{Absent}
use Rattle.machine.specs.Machine.{AtRest, database, fresh}
use Rattle.machine.proofs.Sizes.{AtRest-fresh, database-fresh}
use Rattle.world.specs.Session.{Object, Session}
use Rattle.world.specs.Start.{first_object, first_txn}
use Rattle.world.specs.Ties.{viewed, ShareObjects}
use Rattle.world.proofs.First.{tied-first, viewed-first}
use Rattle.world.proofs.plain_world.PlainWorld.new.Goals as goal

-- what the two calls made is the machine over fresh objects
is-fresh : (shelf : List (Option Object)) (txns : List Session) (n : ℕ) → shelf ≡ replicate n (Some first_object) →
    txns ≡ map (first_txn n) (range_with_len 0 SESSIONS) → viewed shelf txns ≡ fresh SESSIONS (replicate n Absent)
is-fresh shelf txns n objects sessions =
    ap (λ xs. viewed xs txns) objects ∙ ap (viewed (replicate n (Some first_object))) sessions ∙ viewed-first n

pub invariant_of-result : goal.invariant_of-result
invariant_of-result c =
    subst (λ (xs : List (Option Object)). ShareObjects xs c.in_ok-sessions.sessions.items) (sym c.in_ok-objects.ensures)
    (subst (λ (ts : List Session). ShareObjects (replicate c.args.objects (Some first_object)) ts)
    (sym c.in_ok-sessions.ensures) (tied-first c.args.objects))

pub returns-clause-first : goal.returns-clause-first
returns-clause-first c = is-fresh c.in_ok-objects.objects c.in_ok-sessions.sessions.items c.args.objects
    c.in_ok-objects.ensures c.in_ok-sessions.ensures

pub returns-clause-rest : goal.returns-clause-rest
returns-clause-rest c =
    subst AtRest (sym (is-fresh c.in_ok-objects.objects c.in_ok-sessions.sessions.items c.args.objects
    c.in_ok-objects.ensures c.in_ok-sessions.ensures)) (AtRest-fresh SESSIONS (replicate c.args.objects Absent))

pub returns-clause-database : goal.returns-clause-database
returns-clause-database c =
    ap database (is-fresh c.in_ok-objects.objects c.in_ok-sessions.sessions.items c.args.objects
    c.in_ok-objects.ensures c.in_ok-sessions.ensures)
    ∙ database-fresh SESSIONS (replicate c.args.objects Absent)
