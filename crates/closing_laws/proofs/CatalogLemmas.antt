-- Where the entries of a catalog page stand on it.
use Rattle.std.proofs.Common.{◌≡◌, ℕ, ◌+◌, ◌-◌, ◌*◌, ◌/◌, ◌<◌, ◌≤◌, List, take, drop, sym, ap, arith, ◌∙◌}
use Rattle.std.proofs.Common.{mul_left_comm}
use Rattle.std.proofs.lemmas.List.{take-take, drop-take, drop-drop}
use Rattle.geometry_model.specs.Numbers.{Numbers, IsInRange}
use Rattle.geometry_model.proofs.NumberLaws.{page_size-cases}
use Rattle.image_model.specs.Super.{image_page}
use Rattle.image_model.specs.Catalog.{entry_at}

pub page-entry : (bytes : List ℕ) (n : Numbers) (page at : ℕ) → IsInRange n → at < n.page / 16 →
    entry_at n bytes (page * (n.page / 16) + at) ≡ take 16 (drop (16 * at) (image_page n.page bytes (1 + page)))
page-entry bytes n page at range inside =
    let whole : n.page ≡ 16 * (n.page / 16) = grind (arith, page_size-cases n.page range.page_size) in
    let rows : page * n.page ≡ 16 * (page * (n.page / 16)) = ap (λ (p : ℕ). page * p) whole
    ∙ mul_left_comm page 16 (n.page / 16) in
    let left = n.page - 16 * at in
    let split : 16 * at + left ≡ n.page = omega (arith, whole, inside) in
    let room : 16 ≤ left = omega (arith, whole, inside) in
    let place : (1 + page) * n.page + 16 * at ≡ n.page + 16 * (page * (n.page / 16) + at) = omega (arith, rows) in
    let behind = drop ((1 + page) * n.page) bytes in
    sym (ap (λ (k : ℕ). take 16 (drop (16 * at) (take k behind))) (sym split)
    ∙ ap (take 16) (drop-take (16 * at) left behind)
    ∙ take-take 16 left (drop (16 * at) behind) room
    ∙ ap (take 16) (drop-drop (16 * at) ((1 + page) * n.page) bytes)
    ∙ ap (λ (k : ℕ). take 16 (drop k bytes)) place)
