-- A cache without any node suits what is held.
use Rattle.std.proofs.Common.{false, sym, subst}
use Rattle.geometry_model.specs.Numbers.{Numbers}
use Rattle.span_store.specs.Held.{bytes_on}
use Rattle.tree_read.specs.Search.{KeepsNodes}
use Rattle.superdirectory.specs.Solo.{rest_of}
use Rattle.give_back.proofs.RunsLemmas.{still-ready}
use Rattle.object_rows.specs.Store.{numbers_of}
use Rattle.object_rows.proofs.changes.changes.Goals as goal

pub plan_change-planned-requires-clause-nodes : goal.plan_change-planned-requires-clause-nodes
plan_change-planned-requires-clause-nodes g c =
    let scene = c.args.scene in
    subst (λ (n : Numbers). KeepsNodes false n.page (bytes_on scene.held) scene.cache) (sym c.requires.numbers)
    (c.requires.nodes (bytes_on scene.held))

-- the spaces can be entered again after the change, and after it was taken back
pub free-requires-in-Err-Err : goal.free-requires-in-Err-Err
free-requires-in-Err-Err g c = record {
  ready = still-ready (numbers_of 4) (rest_of c.free-before.new.latches) (rest_of c.make_change-answer.new.latches)
      c.free-before.ensures.ready c.make_change-answer.ensures.makes.rest;
}

pub free-requires-in-Ok-Ok : goal.free-requires-in-Ok-Ok
free-requires-in-Ok-Ok g c = record {
  ready = still-ready (numbers_of 4) (rest_of c.free.new.latches) (rest_of c.take_back.new.latches)
      c.free.ensures.ready
      (c.take_back.ensures.back (record { page = 0; faults = 0; read = 0; written = 0 })).given.rest;
}
