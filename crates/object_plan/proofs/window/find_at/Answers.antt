use Rattle.std.proofs.Common.{ℕ, ◌<◌, sym, ap, subst, ◌∙◌, arith}
use Rattle.std.specs.Prelude.{IfSome, Option}
use Rattle.tree_model.specs.Tree.{entries_of}
use Rattle.span_store.specs.Held.{bytes_on}
use Rattle.object_plan.specs.Reading.{found_where}
use Rattle.object_plan.proofs.window.find_at.Goals as goal
use Rattle.tree_read.proofs.MeterLemmas.{reads-none}

pub find-requires-clause-inside : goal.find-requires-clause-inside
find-requires-clause-inside g c =
    subst (λ (o : Option ℕ). IfSome o (λ at. at < c.args.root.now.length)) c.in-Some.is c.requires.inside

pub returns-in_default-clause-reads : goal.returns-in_default-clause-reads
returns-in_default-clause-reads g c = reads-none _ _ _ _ _ c.requires.asks.nodes

pub returns-clause-told : goal.returns-clause-told
returns-clause-told g c = λ t.
    let root = c.args.root.now in
    let entries = entries_of (bytes_on c.args.held.now) root.height root.page in
    sym (ap (found_where entries) c.in-Some.is ∙ c.in_ok-found.ensures.told t)

pub returns-clause-reads : goal.returns-clause-reads
returns-clause-reads g c =
    let visits = c.find.ensures.visits in
    record { nodes = visits.nodes; uses = record { used = visits.reads.used; written = visits.reads.written } }

pub returns-in_err-found-clause-reads : goal.returns-in_err-found-clause-reads
returns-in_err-found-clause-reads g c =
    let visits = c.find.ensures.visits in
    record { nodes = visits.nodes; uses = record { used = visits.reads.used; written = visits.reads.written } }

pub returns-clause-few : goal.returns-clause-few
returns-clause-few g c =
    let most = c.find.ensures.visits.reads.most in
    let read = c.find.ensures.visits.reads.used.read in
    omega (arith, most, read)
