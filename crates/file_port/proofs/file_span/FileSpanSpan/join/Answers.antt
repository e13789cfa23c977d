-- Pages of which nothing is told, one row behind another.
use Rattle.std.proofs.Common.{ℕ, List, [], ◌++◌, ap, sym, ◌∙◌}
use Rattle.std.proofs.lemmas.List.{replicate-append-replicate}
use Rattle.file_port.specs.Files.{Extent, untold}
use Rattle.file_port.proofs.file_span.FileSpanSpan.join.Goals as goal

pub returns-clause-pages : goal.returns-clause-pages
returns-clause-pages c =
    let none : List ℕ = [] in
    sym (replicate-append-replicate c.self.inside.count c.next.inside.count none)
    ∙ ap (λ k. untold k ++ untold c.next.inside.count) (ap (λ (e : Extent). e.count) c.self.view_is)
    ∙ ap (λ k. untold c.args.self.now.count ++ untold k) (ap (λ (e : Extent). e.count) c.next.view_is)
