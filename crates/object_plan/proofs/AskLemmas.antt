-- What is asked for made parts.
use Rattle.std.proofs.Common.{◌≡◌, ℕ, ◌*◌, ◌<◌, ◌≤◌, Bool, true, false, List, [], ◌∷◌, map}
use Rattle.std.proofs.Common.{refl, ap, arith}
use Rattle.std.specs.List.{AllByRecursion}
use Rattle.std.specs.Prelude.{if◌then◌else◌}
use Rattle.tree_model.specs.Tree.{page_count}
use Rattle.tree_model.proofs.PageCountLaws.{count-enough, count-some}
use Rattle.layout_model.specs.declared.request.Request.{Request}
use Rattle.layout_model.specs.Layout.{requests}
use Rattle.layout_model.specs.Plan.{ask_of, made_part_bytes}
use Rattle.edit_parts.specs.declared.part.Part.{Part}
use Rattle.edit_parts.specs.Parts.{layout_part}
use Rattle.part_store.specs.Asking.{IsAskable}
use Rattle.object_plan.specs.Asked.{just, with_wish}
use Rattle.object_plan.specs.Planned.{AreAskedFor}

-- ---- the requests

-- without a wish each part is asked for its pages
pub requests-just : (last limit : ℕ) (ns : List ℕ) → requests false last limit ns ≡ map just ns
requests-just last limit [] = refl
requests-just last limit (need ∷ []) = refl
requests-just last limit (need ∷ next ∷ rest) =
    ap (λ (rs : List Request). just need ∷ rs) (requests-just last limit (next ∷ rest))

-- an append's last one wishes for more
pub requests-wish : (last limit : ℕ) (ns : List ℕ) → requests true last limit ns ≡ with_wish last limit (map just ns)
requests-wish last limit [] = refl
requests-wish last limit (need ∷ []) = refl
requests-wish last limit (need ∷ next ∷ rest) =
    ap (λ (rs : List Request). just need ∷ rs) (requests-wish last limit (next ∷ rest))

-- ---- they may be asked for

want_fits : (appends : Bool) (need last limit : ℕ) → need ≤ limit →
    (need ≤ (if appends then ask_of need last limit else need)) × ((if appends then ask_of need last limit else need) ≤ limit)
want_fits true need last limit fits = (omega arith, omega (arith, fits))
want_fits false need last limit fits = (omega arith, fits)

-- each needs the pages of its part
needs-asked : (appends : Bool) (last limit : ℕ) (ns : List ℕ) → map (λ request. request.need) (requests appends last limit ns) ≡ ns
needs-asked appends last limit [] = refl
needs-asked appends last limit (need ∷ []) = refl
needs-asked appends last limit (need ∷ next ∷ rest) =
    ap (λ (ks : List ℕ). need ∷ ks) (needs-asked appends last limit (next ∷ rest))

each-askable : (appends : Bool) (last limit : ℕ) (ns : List ℕ) → AllByRecursion (λ k. (1 ≤ k) × (k ≤ limit)) ns →
    AllByRecursion (IsAskable limit) (requests appends last limit ns)
each-askable appends last limit [] all = tt
each-askable appends last limit (need ∷ []) all =
    let fits = want_fits appends need last limit all.0.1 in
    (record { some = all.0.0; wish = fits.0; fits = fits.1 }, tt)
each-askable appends last limit (need ∷ next ∷ rest) all =
    (record { some = all.0.0; wish = omega arith; fits = all.0.1 }, each-askable appends last limit (next ∷ rest) all.1)

-- parts with a byte, and with no more than a space has, fill a page and no more than a space has
pages-within : (size limit most : ℕ) (ms : List ℕ) → 0 < size → most ≤ limit * size →
    AllByRecursion (λ bytes. (1 ≤ bytes) × (bytes ≤ most)) ms → AllByRecursion (λ k. (1 ≤ k) × (k ≤ limit)) (map (page_count size) ms)
pages-within size limit most [] some room each = tt
pages-within size limit most (bytes ∷ ms) some room each =
    let byte = each.0.0 in
    let less = each.0.1 in
    let page = count-some size bytes some (omega (arith, byte)) in
    let few = count-enough size bytes limit some (omega (arith, less, room)) in
    ((omega (arith, page), few), pages-within size limit most ms some room each.1)

pub asked-for : (size limit most last : ℕ) (appends : Bool) (parts : List Part) → 0 < size → most ≤ limit * size →
    AllByRecursion (λ bytes. (1 ≤ bytes) × (bytes ≤ most)) (made_part_bytes (map layout_part parts)) →
    AreAskedFor size limit parts (requests appends last limit (map (page_count size) (made_part_bytes (map layout_part parts))))
asked-for size limit most last appends parts some room each =
    let pages = map (page_count size) (made_part_bytes (map layout_part parts)) in
    record {
      needs = needs-asked appends last limit pages;
      asked = each-askable appends last limit pages
          (pages-within size limit most (made_part_bytes (map layout_part parts)) some room each);
    }
