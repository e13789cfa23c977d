use Rattle.std.proofs.Common.{◌≡◌, ℕ, List, map, ap, sym, subst, arith, ◌∙◌}
use Rattle.layout_model.specs.Parts.{part_bytes}
use Rattle.base_laws.proofs.ResultLaws.{if_ok}
use Rattle.edit_parts.specs.declared.part.Part.{Part}
use Rattle.edit_parts.specs.declared.part.Part.TheVariants.{Make}
use Rattle.edit_parts.specs.declared.piece.Piece.{Piece}
use Rattle.edit_parts.specs.Pieces.{pieces_bytes}
use Rattle.edit_parts.specs.Parts.{layout_part}
use Rattle.edit_parts.proofs.PartLemmas.{pieces-part}
use Rattle.edit_plan.specs.Cuts.{lengths_on, stretches}
use Rattle.edit_plan.specs.Planned.{IsCut}
use Rattle.edit_plan.proofs.PlanLemmas.{cut-is, cut_over}
use Rattle.edit_plan.proofs.cutting.cut_part.Goals as goal

pub returns : goal.returns
returns c =
    let part = c.args.part in
    let page = c.args.page in
    let counts = c.args.pages.now in
    let slice = c.as_slice.result.now in
    let bytes : c.bytes.result ≡ part_bytes (layout_part part) =
    omega (arith, c.bytes.ensures, ap pieces_bytes c.in_ok-pieces.ensures, pieces-part part, c.requires.fits) in
    let same : map Make (stretches page 0 (lengths_on page c.bytes.result counts) slice) ≡ cut_over page part counts =
    ap (λ (b : ℕ). map Make (stretches page 0 (lengths_on page b counts) slice)) bytes
    ∙ ap (λ (pieces : List Piece). map Make (stretches page 0 (lengths_on page (part_bytes (layout_part part)) counts) pieces))
    (c.as_slice.ensures ∙ c.in_ok-pieces.ensures) in
    if_ok c.cut_all.result
    (λ parts is. subst (λ (ps : List Part). IsCut page part counts ps) (sym (is ∙ same))
    (cut-is page part counts c.requires.some c.requires.enough))
    c.cut_all.ensures
