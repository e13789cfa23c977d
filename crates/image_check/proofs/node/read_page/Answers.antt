-- One page is a run of one.
use Rattle.std.proofs.Common.{◌≡◌, ℕ, ◌%◌, List, length, sym, ap, subst, ◌∙◌, arith}
use Rattle.std.specs.Prelude.{IsTrue, OnOk}
use Rattle.std.proofs.Math.Nat.{mod_self}
use Rattle.span_store.specs.Held.{HoldsRun}
use Rattle.span_store.proofs.Runs.{run_of_one}
use Rattle.image_check.proofs.HeadLemmas.{read-one}
use Rattle.image_check.proofs.node.read_page.Goals as goal
use Rattle.base_laws.proofs.NumberLaws.{one_page}

pub read_run-requires-clause-whole : goal.read_run-requires-clause-whole
read_run-requires-clause-whole g c =
    let size = (g.P.Port.meter c.args.port.now).page in
    let some = c.requires.some in
    record { some = omega (arith, some, c.requires.room); even = ap (λ (n : ℕ). n % size) c.requires.room ∙ mod_self size }

pub read_run-requires-clause-held : goal.read_run-requires-clause-held
read_run-requires-clause-held g c =
    let size = (g.P.Port.meter c.args.port.now).page in
    subst (HoldsRun c.args.held.now c.args.page) (sym (one_page (length c.args.room.now) size c.requires.room c.requires.some))
    (run_of_one c.args.held.now c.args.page c.requires.held)

pub returns-clause-bytes : goal.returns-clause-bytes
returns-clause-bytes g c =
    let size = (g.P.Port.meter c.args.port.now).page in
    subst (λ (bytes : List ℕ). OnOk c.read_run.result (IsTrue g.P.S.Span.tells → c.read_run.new.out ≡ bytes))
    (read-one c.args.held.now c.args.page (length c.args.room.now) size c.requires.room c.requires.some) c.read_run.ensures.bytes

pub returns-clause-reads : goal.returns-clause-reads
returns-clause-reads g c =
    let size = (g.P.Port.meter c.args.port.now).page in
    let one = one_page (length c.args.room.now) size c.requires.room c.requires.some in
    let reads = c.read_run.ensures.reads in
    let most = reads.most in
    record { used = reads.used; written = reads.written; most = omega (arith, most, one) }
