-- A plain answer as the definitions know it.
use Rattle.std.specs.Prelude.{List, ◌++◌, Option, Some, None}
use Rattle.layout_model.specs.Grants.{Spaces, Answer as ModelAnswer, Spot as ModelSpot}
use Rattle.layout_model.specs.Grants.Answer.{Got as model_got, Refused as model_refused}
use Rattle.layout_model.specs.declared.extent.Extent.{Extent}
use Rattle.plain_layout.specs.declared.spot.Spot.{Spot}
use Rattle.plain_layout.specs.declared.answer.Answer.{Answer}
use Rattle.plain_layout.specs.declared.answer.Answer.TheVariants.{Got, Refused}

-- an answer, its value seen by a function
abbrev pub answered : {A B : Type 0} → (A → B) → Answer A → ModelAnswer B
answered view (Got value left) = model_got (view value) left
answered view (Refused pages) = model_refused pages

abbrev pub spot_of : Spot → ModelSpot
spot_of spot = record { space = spot.space; at = spot.at }

abbrev pub spot_found : Option Spot → Option ModelSpot
spot_found None = None
spot_found (Some spot) = Some (spot_of spot)

-- the runs of a second half behind those of the first
abbrev pub behind : List Extent → List Extent → Spaces → ModelAnswer (List Extent)
behind first second left = model_got (first ++ second) left
