-- What was granted as one list of runs.
use Rattle.std.proofs.Common.{◌≡◌, ℕ, List, [], ◌∷◌, ◌++◌, length, map, sum, take, drop, refl, sym, ap, arith, ◌∙◌}
use Rattle.std.proofs.lemmas.List.{length-drop, take-append-drop}
use Rattle.std.proofs.lemmas.List.Concat.{flat_map-cons}
use Rattle.std.proofs.lemmas.List.Sums.{sum_by-cons}
use Rattle.layout_model.specs.declared.extent.Extent.{Extent}
use Rattle.moment_laws.specs.Granting.{page_run, runs_of_parts}
use Rattle.page_set.specs.declared.page_run.PageRun.{PageRun}
use Rattle.part_store.specs.Asking.{rows}
use Rattle.tree_splice.specs.Splice.{firsts_of}
use Rattle.object_change.specs.declared.changed.Changed.{Changed}
use Rattle.object_change.specs.Changed.{granted_in}

-- the rows of all parts are the runs
pub rows-flat : (counts : List ℕ) (runs : List Extent) → sum counts ≡ length runs → runs_of_parts (rows counts runs) ≡ runs
rows-flat [] [] whole = refl
rows-flat [] (run ∷ runs) whole = cc
rows-flat (k ∷ counts) runs whole =
    let all = sum_by-cons (λ (i : ℕ). i) k counts in
    let left = length-drop k runs in
    flat_map-cons (λ (rs : List Extent). rs) (take k runs) (rows counts (drop k runs))
    ∙ (ap (λ (rs : List Extent). take k runs ++ rs) (rows-flat counts (drop k runs) (omega (arith, whole, all, left)))
    ∙ take-append-drop k runs)

-- all that a change was granted
pub granted-flat : (c : Changed) (runs : List Extent) (made : List PageRun) → runs ≡ c.runs.items → made ≡ c.made →
    sum c.counts.items ≡ length c.runs.items → granted_in c ≡ runs ++ map page_run (firsts_of made)
granted-flat c runs made runs_are made_are whole =
    ap (λ (rs : List Extent). rs ++ map page_run (firsts_of c.made)) (rows-flat c.counts.items c.runs.items whole ∙ sym runs_are)
    ∙ ap (λ (ms : List PageRun). runs ++ map page_run (firsts_of ms)) (sym made_are)
