-- A power of two from 16 on is a multiple of eight.
use Rattle.std.proofs.Common.{◌≡◌, length, arith}
use Rattle.std.proofs.lemmas.Grind.{common_steps}
use Rattle.space_directory.specs.SpaceView.{SpaceView}
use Rattle.space_directory.specs.Slots.{pages_held}
use Rattle.space_directory.proofs.Calls.{whole_bytes}
use Rattle.space_directory.proofs.space.Space.write_page.Goals as goal

pub write_directory-requires-clause-whole : goal.write_directory-requires-clause-whole
write_directory-requires-clause-whole g c =
    let v : SpaceView = record {
      number = c.self.inside.number;
      first = c.self.inside.first;
      page = c.self.inside.page;
      free = c.self.inside.map;
      locked = c.self.inside.locks;
      held = pages_held g.S.Span.contents c.self.inside.spans.items;
    } in
    let n : c.len.result ≡ length c.self.inside.map = grind (arith, common_steps) in
    whole_bytes v c.len.result c.self.invariant.0.sound n
