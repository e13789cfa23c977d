-- The pages that a granted change doesn't write, and what stays of an object where they hold what they held.
use Rattle.std.proofs.Common.{◌≡◌, Some, None, refl, ap, arith, inl, inr}
use Rattle.std.proofs.lemmas.Bool.{cases_lt}
use Rattle.geometry_model.specs.Numbers.{Numbers}
use Rattle.tree_model.specs.Tree.{Pages}
use Rattle.layout_model.specs.declared.change.Change.{Change}
use Rattle.layout_model.specs.Layout.{Tree, Grants, tree_entries}
use Rattle.eos_ops.specs.declared.plain.Plain.TheVariants as plain
use Rattle.moment_model.specs.Moment.{ObjectSlot}
use Rattle.moment_model.specs.Version.{Version, spare_uses}
use Rattle.tree_pages.specs.Levels.{version_plain}
use Rattle.tree_pages.specs.Stored.{StaysOn}
use Rattle.tree_pages.proofs.FrameLemmas.{content-stays}
use Rattle.laid_content_laws.specs.Written.{IsGrantedChange, OthersStay}

-- no page of the committed version is written
pub committed-stays : (n : Numbers) (slot : ObjectSlot) (tree : Tree) (change : Change)
    (grants : Grants) (at now : Pages) → IsGrantedChange n slot tree change grants →
    OthersStay slot grants at now → StaysOn n slot.committed at now
committed-stays n slot tree change grants at now is stay page used =
    let spare : spare_uses page slot.spare ≡ 0 = elim (cases_lt 0 (spare_uses page slot.spare)) [
      | inl some ↦ let none = is.sound.spare_apart page some in absurd (omega (arith, none, used))
      | inr none ↦ omega (arith, none)
    ] in
    stay page (is.unused page (omega (arith, used))) spare

-- nor one of the working version
pub working-stays : (n : Numbers) (slot : ObjectSlot) (tree : Tree) (change : Change)
    (grants : Grants) (at now : Pages) → IsGrantedChange n slot tree change grants →
    OthersStay slot grants at now → StaysOn n slot.working at now
working-stays n slot tree change grants at now is stay page used =
    let once = is.sound.working_once page in
    stay page (is.unused page (omega (arith, used))) (omega (arith, once, used))

-- a version whose pages stay has the bytes that it had
pub version-holds : (n : Numbers) (at now : Pages) (version : Version) → StaysOn n version at now →
    version_plain now n.page version ≡ version_plain at n.page version
version-holds n at now None stays = refl
version-holds n at now (Some tree) stays =
    ap plain.Present (content-stays at now n.page (tree_entries tree) (λ page used. stays page (omega (arith, used))))

pub committed-holds : (n : Numbers) (slot : ObjectSlot) (tree : Tree) (change : Change)
    (grants : Grants) (at now : Pages) → IsGrantedChange n slot tree change grants → OthersStay slot grants at now →
    version_plain now n.page slot.committed ≡ version_plain at n.page slot.committed
committed-holds n slot tree change grants at now is stay =
    version-holds n at now slot.committed (committed-stays n slot tree change grants at now is stay)
