-- Parts of pages of which nothing is told.
use Rattle.std.proofs.Common.{ℕ, List, [], ◌≡◌, take, drop, length, arith, ap, sym, ◌∙◌}
use Rattle.std.proofs.lemmas.List.{take-replicate, drop-replicate, length-replicate}
use Rattle.file_port.specs.Files.{Extent, untold}
use Rattle.file_port.proofs.file_span.FileSpanSpan.cut.Goals as goal

pub returns-clause-front_pages : goal.returns-clause-front_pages
returns-clause-front_pages c =
    let none : List ℕ = [] in
    let shown = ap (λ (e : Extent). e.count) c.self.view_is in
    let count : length (untold c.args.self.now.count) ≡ c.args.self.now.count = length-replicate c.args.self.now.count none in
    sym (take-replicate c.args.n c.self.inside.count none (omega (arith, shown, count, c.requires.fewer)))
    ∙ ap (λ k. take c.args.n (untold k)) shown

pub returns-clause-rest_pages : goal.returns-clause-rest_pages
returns-clause-rest_pages c =
    let none : List ℕ = [] in
    let shown = ap (λ (e : Extent). e.count) c.self.view_is in
    sym (drop-replicate c.args.n c.self.inside.count none) ∙ ap (λ k. drop c.args.n (untold k)) shown
