-- What goes stands in spans of its own, and there is room for it.
use Rattle.std.proofs.Common.{◌+◌, ◌*◌, length, arith}
use Rattle.page_set.specs.Words.{in_set}
use Rattle.object_state.proofs.CutLemmas.{all-stay, cut-reserved, cut-then}
use Rattle.object_state.proofs.RunSetLemmas.{goes-marked, goes-room, holds-stay}
use Rattle.object_state.proofs.preparing.prepare.Goals as goal

pub returns-clause-marked : goal.returns-clause-marked
returns-clause-marked g c =
    let first = 2 * length c.args.dropped.now in
    let second = 2 * length c.args.kept.now in
    let last = c.cut_runs-2.new.held in
    let roomy = cut-reserved c.args.held.now c.reserve.new.self c.in_ok-reserve.ensures.spans c.reserve.ensures.kept in
    let one = cut-then 0 first first c.args.held.now c.reserve.new.self c.cut_runs.new.held (omega arith) roomy c.cut_runs.ensures.cut in
    let both = cut-then first second (first + second) c.args.held.now c.cut_runs.new.held last (omega arith) one c.cut_runs-2.ensures.cut in
    goes-marked last c.args.dropped.now c.args.kept.now (in_set c.in_ok-gone.gone) c.in_ok-gone.ensures
    (holds-stay (first + second) c.args.held.now last c.args.dropped.now both c.requires.held)
    (all-stay second c.cut_runs.new.held last c.args.dropped.now c.cut_runs-2.ensures.cut c.cut_runs.ensures.borders)
    c.cut_runs-2.ensures.borders

pub returns-clause-locked_room : goal.returns-clause-locked_room
returns-clause-locked_room g c =
    goes-room c.reserve_runs.new.set c.args.dropped.now c.args.kept.now (in_set c.in_ok-gone.gone) c.in_ok-gone.ensures
    c.in_ok-reserve_runs.ensures.room
