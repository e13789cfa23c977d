-- The pages of the nodes that are left are those of the definition.
use Rattle.std.proofs.Common.{◌≡◌, ℕ, List, [], ◌∷◌, ◌++◌, map, take, drop, refl, sym, ap, ◌∙◌}
use Rattle.std.proofs.lemmas.List.{map-append, take-map, drop-map}
use Rattle.layout_model.specs.Levels.{PageNode, NewLevel}
use Rattle.local_laws.specs.Path.{PathLevel}
use Rattle.local_laws.specs.Left.{nodes_left}
use Rattle.tree_splice.specs.Remade.{pages_left, row_pages, remade}

abbrev nodes_of : List PathLevel → List (List PageNode)
nodes_of path = map (λ (level : PathLevel). level.nodes) path

pub pages-left : (path : List PathLevel) (new : List NewLevel) → pages_left path (map remade new) ≡ row_pages
    (nodes_left (nodes_of path) new)
pages-left [] new = refl
pages-left (old ∷ path) [] =
    ap (λ (ps : List ℕ). row_pages old.nodes ++ ps) (pages-left path [])
    ∙ sym (map-append (λ (node : PageNode). node.page) old.nodes (nodes_left (nodes_of path) []))
pages-left (old ∷ path) (level ∷ new) =
    let page = λ (node : PageNode). node.page in
    let behind = drop level.from old.nodes in
    ap (λ (ps : List ℕ). take level.count ps ++ pages_left path (map remade new)) (drop-map page level.from old.nodes)
    ∙ (ap (λ (ps : List ℕ). ps ++ pages_left path (map remade new)) (take-map page level.count behind)
    ∙ (ap (λ (ps : List ℕ). row_pages (take level.count behind) ++ ps) (pages-left path new)
    ∙ sym (map-append page (take level.count behind) (nodes_left (nodes_of path) new))))
