use Rattle.std.proofs.Common.{◌≡◌, ℕ, zero, suc, ◌+◌, ◌*◌, ◌<◌, Option, None, List, [], ◌∷◌, ◌++◌, length, take}
use Rattle.std.proofs.Common.{drop, sym, ap, arith, ◌∙◌, append_assoc}
use Rattle.std.specs.Prelude.{slice_index_or}
use Rattle.std.specs.List.{AllByRecursion, flat_map}
use Rattle.std.proofs.Math.Seq.{take-append_seam, drop-append-add}
use Rattle.image_model.specs.Super.{image_page}
use Rattle.image_laws.proofs.returning.pages_come_back.Goals as goal

come-back : (page_bytes : Option (List ℕ) → List ℕ) (size : ℕ) (pages : List (Option (List ℕ))) (rest : List ℕ) →
    AllByRecursion (λ page. length (page_bytes page) ≡ size) pages →
    (q : ℕ) → q < length pages → image_page size (flat_map page_bytes pages ++ rest) q ≡ page_bytes (slice_index_or pages q None)
come-back page_bytes size [] rest sized q inside = let none : q < 0 = inside in absurd (omega (arith, none))
come-back page_bytes size (p ∷ ps) rest sized zero inside =
    let behind = flat_map page_bytes ps ++ rest in
    let first : 0 * size ≡ 0 = omega arith in
    let joined : flat_map page_bytes (p ∷ ps) ++ rest ≡ page_bytes p ++ behind =
    append_assoc (page_bytes p) (flat_map page_bytes ps) rest in
    ap (λ (k : ℕ). take size (drop k (flat_map page_bytes (p ∷ ps) ++ rest))) first
    ∙ (ap (take size) joined ∙ (ap (λ (k : ℕ). take k (page_bytes p ++ behind)) (sym sized.0) ∙ take-append_seam (page_bytes p) behind))
come-back page_bytes size (p ∷ ps) rest sized (suc q) inside =
    let behind = flat_map page_bytes ps ++ rest in
    let long = sized.0 in
    let step : suc q * size ≡ length (page_bytes p) + q * size = omega (arith, long) in
    let joined : flat_map page_bytes (p ∷ ps) ++ rest ≡ page_bytes p ++ behind =
    append_assoc (page_bytes p) (flat_map page_bytes ps) rest in
    let within : suc q < suc (length ps) = inside in
    ap (λ (k : ℕ). take size (drop k (flat_map page_bytes (p ∷ ps) ++ rest))) step
    ∙ (ap (λ (xs : List ℕ). take size (drop (length (page_bytes p) + q * size) xs)) joined
    ∙ (ap (take size) (drop-append-add (page_bytes p) behind (q * size))
    ∙ come-back page_bytes size ps rest sized.1 q (omega (arith, within))))

pub returns : goal.returns
returns c = come-back
