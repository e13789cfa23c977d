-- The three checks pass exactly on a superblock, and then version and numbers are its own.
use Rattle.std.proofs.Common.{◌≡◌, ℕ, true, length, ◌≤◌, refl, sym, ap, subst, ◌∙◌, arith}
use Rattle.geometry_model.specs.Numbers.{Numbers}
use Rattle.image_model.specs.Super.{IsSuper, is_version, version_in, numbers_in}
use Rattle.image_laws.proofs.GoLemmas.{image-numbers, image-version}
use Rattle.image_laws.proofs.PassLemmas.{super-passes}
use Rattle.image_format.proofs.SuperLemmas.{mark-of-super, version-of-super, numbers-of-super, unknown-version}
use Rattle.image_format.proofs.superblock.read_super.Goals as goal
use Rattle.image_format.proofs.superblock.read_super.Goals.{else-version-ne1-via-then-version-ne1+else-version-ne2}
use Rattle.image_format.proofs.superblock.read_super.Goals.{else-version-ne1-via-else-version-ne1}

pub returns-then-not-has_mark-clause-only : goal.returns-then-not-has_mark-clause-only
returns-then-not-has_mark-clause-only c = λ version n super.
    let marked = mark-of-super c.args.bytes.now version n super in absurd cc

pub returns-then-version-ne2-clause-only : goal.returns-then-version-ne2-clause-only
returns-then-version-ne2-clause-only c = λ version n super.
    let known = version-of-super c.args.bytes.now version n super in
    let other = ap is_version (sym c.u32_at-version.ensures)
    ∙ unknown-version c.u32_at-version.result c.if-version-ne1.true c.if-version-ne2.true in
    absurd cc

pub returns-in_default-clause-only : goal.returns-in_default-clause-only
returns-in_default-clause-only c = λ version n super.
    let numbers = numbers-of-super c.args.bytes.now version n super in
    let refused = c.in_default.ensures in
    absurd cc

pub returns-clause-found : goal.returns-clause-found
returns-clause-found c =
    let long : 256 ≤ length c.args.bytes.now = omega (arith, c.told-bytes) in
    let known : is_version (version_in c.args.bytes.now) ≡ true =
    ap is_version (sym c.u32_at-version.ensures) ∙ elim c.else-version-ne1.branch [
      | else-version-ne1-via-then-version-ne1+else-version-ne2 w ↦ ap is_version w.if-version-ne2.false
      | else-version-ne1-via-else-version-ne1 w ↦ ap is_version w.if-version-ne1.false
    ] in
    let marked = sym c.has_mark.ensures ∙ c.if-not-has_mark.false in
    let super = super-passes c.args.bytes.now c.fits-bytes long marked known c.in-Some.ensures.0 in
    let there : IsSuper c.args.bytes.now c.u32_at-version.result (numbers_in c.args.bytes.now) =
    subst (λ (v : ℕ). IsSuper c.args.bytes.now v (numbers_in c.args.bytes.now)) (sym c.u32_at-version.ensures) super in
    subst (λ (n : Numbers). IsSuper c.args.bytes.now c.u32_at-version.result n) (sym c.in-Some.ensures.1) there

pub returns-clause-only : goal.returns-clause-only
returns-clause-only c = λ version n super. (
  refl,
  (
    c.u32_at-version.ensures ∙ image-version c.args.bytes.now version n super,
    c.in-Some.ensures.1 ∙ image-numbers c.args.bytes.now version n super,
  ),
)
