-- The words are there, and hold what they held.
use Rattle.std.proofs.Common.{◌/◌, sym, ap, ◌∙◌}
use Rattle.page_set.specs.Words.{PageSetView, in_set, in_words, room_in}
use Rattle.page_set.proofs.Counts.{count_all-same}
use Rattle.page_set.proofs.SetLaws.{bounded_same}
use Rattle.page_set.proofs.page_set.PageSet.reserve.Goals as goal

pub make_room-requires : goal.make_room-requires
make_room-requires c = record { within = c.requires }

pub returns-clause-same : goal.returns-clause-same
returns-clause-same c page = c.make_room.ensures.same page ∙ ap (λ (v : PageSetView). in_set v page) c.self.view_is

pub returns-clause-size : goal.returns-clause-size
returns-clause-size c = ap (λ (v : PageSetView). v.size) c.self.view_is

pub returns-clause-keeps : goal.returns-clause-keeps
returns-clause-keeps c page t = c.make_room.ensures.keeps (page / 64) (ap (λ (v : PageSetView). room_in v page) c.self.view_is ∙ t)

pub returns-clause-enough : goal.returns-clause-enough
returns-clause-enough c all = c.make_room.ensures.enough
    (λ page low high. ap (λ (v : PageSetView). room_in v page) c.self.view_is ∙ all page low high)

pub invariant_of-self : goal.invariant_of-self
invariant_of-self c =
    let old = in_words c.self.inside.words in
    let new = in_words c.make_room.new.words in (
      c.self.invariant.0 ∙ sym (count_all-same old new c.make_room.ensures.same),
      bounded_same old new c.make_room.ensures.same c.self.invariant.1,
    )
