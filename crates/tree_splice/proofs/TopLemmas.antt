-- The page of the first node of a level that was made anew.
use Rattle.std.proofs.Common.{◌≡◌, ℕ, ◌+◌, List, [], ◌∷◌, ◌++◌, take, drop, get_or, refl, ap, ◌∙◌}
use Rattle.std.proofs.lemmas.List.{drop-drop, drop-map, take-map}
use Rattle.layout_model.specs.Levels.{PageNode}
use Rattle.tree_pages.specs.Stored.{top_page}
use Rattle.tree_splice.specs.Remade.{row_pages}

-- the first of two rows
both : (xs ys : List PageNode) → get_or (row_pages xs) 0 (top_page ys) ≡ top_page (xs ++ ys)
both [] ys = refl
both (x ∷ xs) ys = refl

alone : (xs : List PageNode) → get_or (row_pages xs) 0 0 ≡ top_page xs
alone [] = refl
alone (x ∷ xs) = refl

pub first-of : (nodes made : List PageNode) (from count : ℕ) (front mid rest : List ℕ) (second third first : ℕ) →
    front ≡ take from (row_pages nodes) → mid ≡ row_pages made → rest ≡ drop count (drop from (row_pages nodes)) →
    third ≡ get_or rest 0 0 → second ≡ get_or mid 0 third → first ≡ get_or front 0 second →
    first ≡ top_page (take from nodes ++ (made ++ drop (from + count) nodes))
first-of nodes made from count front mid rest second third first front_is mid_is rest_is third_is second_is first_is =
    let page = λ (node : PageNode). node.page in
    let behind = drop (from + count) nodes in
    let last : rest ≡ row_pages behind =
    rest_is ∙ (drop-drop count from (row_pages nodes) ∙ drop-map page (from + count) nodes) in
    let one : third ≡ top_page behind = third_is ∙ (ap (λ (ps : List ℕ). get_or ps 0 0) last ∙ alone behind) in
    let two : second ≡ top_page (made ++ behind) =
    second_is ∙ (ap (λ (ps : List ℕ). get_or ps 0 third) mid_is ∙ (ap (get_or (row_pages made) 0) one ∙ both made behind)) in
    first_is ∙ (ap (λ (ps : List ℕ). get_or ps 0 second) (front_is ∙ take-map page from nodes)
    ∙ (ap (get_or (row_pages (take from nodes)) 0) two ∙ both (take from nodes) (made ++ behind)))
