-- The laws of a body, for an object in memory.
use Rattle.std.proofs.Common.{◌≡◌, false, IsTrue, sym, ap, subst, ◌∙◌}
use Rattle.std.proofs.lemmas.List.{set-get_or}
use Rattle.change_laws.specs.Tail.{HaveTails}
use Rattle.moment_model.specs.Moment.{IsSound, object_slot, with_object_slot, absent_slot}
use Rattle.object_body.specs.Calls.{RefusesTaken}
use Rattle.object_body.specs.Form.{HaveLengthsBy, any_tree}
use Rattle.soundness_laws.specs.Keeping.{KeepsSoundness}
use Rattle.plain_body.specs.Kind.{HasNoPage, lays_nothing}

-- an edit leaves the moment as it is
pub keeps-nothing : KeepsSoundness lays_nothing any_tree
keeps-nothing n held start moment o edit after left range sound tails taken asks got =
    let same : object_slot moment o ≡ after = cc in
    let still : with_object_slot moment o after ≡ moment =
    ap (with_object_slot moment o) (sym same) ∙ set-get_or moment o absent_slot in (
      subst (λ w. IsSound any_tree n held w) (sym still) sound,
      subst (HaveTails n) (sym still) tails,
    )

-- no edit is refused pages
pub refuses-nothing : RefusesTaken lays_nothing
refuses-nothing n start free slot edit pages refused = absurd cc

-- its slot stands for no pages
pub no-lengths : IsTrue false → HaveLengthsBy HasNoPage
no-lengths never told suits = absurd cc
