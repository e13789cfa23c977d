-- One page is a run of one.
use Rattle.std.proofs.Common.{◌≡◌, ℕ, ◌/◌, ◌%◌, List, length, sym, ap, subst, ◌∙◌, append-nil, arith}
use Rattle.std.specs.Prelude.{IsTrue, OnOk}
use Rattle.std.proofs.Math.Nat.{mod_self}
use Rattle.geometry_model.proofs.NumberLaws.{page_size-low}
use Rattle.tree_model.specs.Content.{run_bytes}
use Rattle.span_store.specs.Held.{HoldsRun, bytes_on}
use Rattle.span_store.proofs.Runs.{run_of_one}
use Rattle.tree_read.proofs.page.read_page.Goals as goal
use Rattle.base_laws.proofs.NumberLaws.{one_page}

pub read_run-requires-clause-whole : goal.read_run-requires-clause-whole
read_run-requires-clause-whole g c =
    let size = (g.P.Port.meter c.args.port.now).page in
    let low = page_size-low size c.requires.pages.size_is in
    record { some = omega (arith, low, c.requires.whole); even = ap (λ (n : ℕ). n % size) c.requires.whole ∙ mod_self size }

pub read_run-requires-clause-held : goal.read_run-requires-clause-held
read_run-requires-clause-held g c =
    let size = (g.P.Port.meter c.args.port.now).page in
    let low = page_size-low size c.requires.pages.size_is in
    let one = one_page (length c.args.out.now) size c.requires.whole (omega (arith, low)) in
    subst (HoldsRun c.args.held.now c.args.page) (sym one) (run_of_one c.args.held.now c.args.page c.requires.held)

pub returns-clause-bytes : goal.returns-clause-bytes
returns-clause-bytes g c =
    let size = (g.P.Port.meter c.args.port.now).page in
    let low = page_size-low size c.requires.pages.size_is in
    let one = one_page (length c.args.out.now) size c.requires.whole (omega (arith, low)) in
    let same : run_bytes (bytes_on c.args.held.now) c.args.page (length c.args.out.now / size) ≡ bytes_on c.args.held.now c.args.page =
    ap (run_bytes (bytes_on c.args.held.now) c.args.page) one ∙ append-nil (bytes_on c.args.held.now c.args.page) in
    subst (λ (bytes : List ℕ). OnOk c.read_run.result (IsTrue g.P.S.Span.tells → c.read_run.new.out ≡ bytes)) same c.read_run.ensures.bytes

pub returns-clause-reads : goal.returns-clause-reads
returns-clause-reads g c =
    let size = (g.P.Port.meter c.args.port.now).page in
    let low = page_size-low size c.requires.pages.size_is in
    let one = one_page (length c.args.out.now) size c.requires.whole (omega (arith, low)) in
    let reads = c.read_run.ensures.reads in
    let most = reads.most in
    record { used = reads.used; written = reads.written; most = omega (arith, most, one) }

pub read_run-requires-clause-sized : goal.read_run-requires-clause-sized
read_run-requires-clause-sized g c = c.requires.pages.sized
