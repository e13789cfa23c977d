use Rattle.image_laws.proofs.GoLemmas.{image-passes, image-version, image-numbers}
use Rattle.image_laws.proofs.checks.an_image_passes.Goals as goal

pub returns : goal.returns
returns c = record {
  passes = image-passes;
  version = λ bytes version n image. image-version bytes version n image.super;
  numbers = λ bytes version n image. image-numbers bytes version n image.super;
}
