-- Pages of which nothing is told, one row behind another.
use Rattle.std.proofs.Common.{ℕ, List, [], ◌++◌, replicate, ap, sym, ◌∙◌}
use Rattle.std.proofs.lemmas.List.{replicate-append-replicate}
use Rattle.splice_rows.proofs.quiet.QuietSpanSpan.join.Goals as goal

pub returns-clause-pages : goal.returns-clause-pages
returns-clause-pages c =
    let none : List ℕ = [] in
    sym (replicate-append-replicate c.self.inside.count c.next.inside.count none)
    ∙ ap (λ (k : ℕ). replicate k none ++ replicate c.next.inside.count none) (ap (λ (e : ℕ × ℕ). e.1) c.self.view_is)
    ∙ ap (λ (k : ℕ). replicate c.args.self.now.1 none ++ replicate k none) (ap (λ (e : ℕ × ℕ). e.1) c.next.view_is)
