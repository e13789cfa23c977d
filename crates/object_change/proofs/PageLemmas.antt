-- Which runs begin at a page, and runs of one page each.
use Rattle.std.proofs.Common.{◌≡◌, ℕ, ◌==◌, ◌||◌, Bool, List, [], ◌∷◌, ◌++◌, map, refl, ap, arith, ◌∙◌}
use Rattle.std.proofs.lemmas.Bool.Decides.{nat_tests}
use Rattle.layout_model.specs.declared.extent.Extent.{Extent}
use Rattle.moment_laws.specs.Granting.{page_run}
use Rattle.page_cache.specs.Kept.{is_on_run}
use Rattle.tree_splice.specs.Fresh.{is_on_pages}
use Rattle.give_back.specs.Giving.{is_in_runs}
use Rattle.give_back.proofs.UsesLemmas.{in-cons}
use Rattle.held_parts.specs.Holding.{begins_one}
use Rattle.base_laws.proofs.BoolLaws.{or-assoc}

pub begins-append : (q : ℕ) (xs ys : List Extent) → begins_one (xs ++ ys) q ≡ (begins_one xs q || begins_one ys q)
begins-append q [] ys = refl
begins-append q (x ∷ xs) ys =
    ap (λ (b : Bool). (x.page == q) || b) (begins-append q xs ys) ∙ or-assoc (x.page == q) (begins_one xs q) (begins_one ys q)

-- ---- single pages

on-page : (q page : ℕ) → is_on_run page 1 q ≡ (page == q)
on-page q page = grind (arith, nat_tests)

pub in-pages : (q : ℕ) (pages : List ℕ) → is_in_runs (map page_run pages) q ≡ is_on_pages q pages
in-pages q [] = refl
in-pages q (page ∷ pages) =
    in-cons q (page_run page) (map page_run pages)
    ∙ (ap (λ (b : Bool). b || is_in_runs (map page_run pages) q) (on-page q page)
    ∙ ap (λ (b : Bool). (page == q) || b) (in-pages q pages))

pub begins-pages : (q : ℕ) (pages : List ℕ) → begins_one (map page_run pages) q ≡ is_on_pages q pages
begins-pages q [] = refl
begins-pages q (page ∷ pages) = ap (λ (b : Bool). (page == q) || b) (begins-pages q pages)
