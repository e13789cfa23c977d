-- Parts of pages of which nothing is told.
use Rattle.std.proofs.Common.{ℕ, List, [], ◌≡◌, take, drop, length, replicate, arith, ap, sym, ◌∙◌}
use Rattle.std.proofs.lemmas.List.{take-replicate, drop-replicate, length-replicate}
use Rattle.splice_rows.proofs.quiet.QuietSpanSpan.cut.Goals as goal

pub returns-clause-front_pages : goal.returns-clause-front_pages
returns-clause-front_pages c =
    let none : List ℕ = [] in
    let shown = ap (λ (e : ℕ × ℕ). e.1) c.self.view_is in
    let count : length (replicate c.args.self.now.1 none) ≡ c.args.self.now.1 = length-replicate c.args.self.now.1 none in
    sym (take-replicate c.args.n c.self.inside.count none (omega (arith, shown, count, c.requires.fewer)))
    ∙ ap (λ (k : ℕ). take c.args.n (replicate k none)) shown

pub returns-clause-rest_pages : goal.returns-clause-rest_pages
returns-clause-rest_pages c =
    let none : List ℕ = [] in
    let shown = ap (λ (e : ℕ × ℕ). e.1) c.self.view_is in
    sym (drop-replicate c.args.n c.self.inside.count none) ∙ ap (λ (k : ℕ). drop c.args.n (replicate k none)) shown
