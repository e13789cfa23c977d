-- Why a store isn't opened, as the checks of the definitions name it.
use Rattle.std.specs.Prelude.{◌≡◌, List, ℕ, Option, Some, None, IfSome}
use Rattle.image_model.specs.Checks as check
use Rattle.image_model.specs.Checks.{Refusal, first_refusal}
use Rattle.store_parts.specs.declared.refused.OpenFail.{OpenFail}
use Rattle.store_parts.specs.declared.refused.OpenFail.TheVariants as fail

-- the refusal of the bytes, none where the device failed or there was no memory
abbrev pub refusal_said : OpenFail → Option Refusal
refusal_said fail.Short = Some check.Short
refusal_said fail.BadMagic = Some check.BadMagic
refusal_said fail.BadVersion = Some check.BadVersion
refusal_said fail.BadGeometry = Some check.BadGeometry
refusal_said (fail.BadDirectory space) = Some (check.BadDirectory space)
refusal_said (fail.BadCatalog object) = Some (check.BadCatalog object)
refusal_said (fail.BadNode page) = Some (check.BadNode page)
refusal_said (fail.BadTree object) = Some (check.BadTree object)
refusal_said (fail.PageTwice page) = Some (check.PageTwice page)
refusal_said (fail.PageFree page) = Some (check.PageFree page)
refusal_said (fail.PageLost page) = Some (check.PageLost page)
refusal_said fail.Fault = None
refusal_said fail.Memory = None

-- a refusal of bytes is the first check that fails on them
abbrev pub IsFirstRefusal : List ℕ → OpenFail → Type 0
IsFirstRefusal bytes fail = IfSome (refusal_said fail) (λ r. first_refusal bytes ≡ Some r)
