-- A free page for each page of the store.
use Rattle.std.proofs.Common.{◌≡◌, ◌∙◌, None, map, replicate, ap, rules}
use Rattle.geometry_model.specs.Numbers.{pages}
use Rattle.image_laws.proofs.NodeLemmas.{data-below}
use Rattle.image_check.specs.Owners.{owner_of}
use Rattle.image_check.proofs.CodeLemmas.{codes-free, kept_in}
use Rattle.image_check.proofs.UsedLemmas.{free-marked}
use Rattle.image_check.proofs.walk.Walk.new.Goals as goal

pub returns-clause-owners : goal.returns-clause-owners
returns-clause-owners c =
    let items : c.in_ok-codes.codes.items ≡ replicate (pages c.args.geometry.now) 65535 = search rules in
    ap (map owner_of) items ∙ codes-free (pages c.args.geometry.now)

pub returns-clause-marked : goal.returns-clause-marked
returns-clause-marked c = λ held none.
    free-marked c.args.geometry.now held (kept_in c.in_ok-codes.codes.items None) (returns-clause-owners c) none
    (λ q data_page. data-below c.args.geometry.now q data_page)
