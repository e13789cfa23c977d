use Rattle.std.proofs.Common.{length}
use Rattle.plain_layout.proofs.cutting.+on_pages.Given as goal

abbrev pub decreases-on_pages : goal.decreases-on_pages
decreases-on_pages l = length l.sizes.now
