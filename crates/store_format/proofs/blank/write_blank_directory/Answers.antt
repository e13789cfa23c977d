-- A bitmap of ones is that of free pages.
use Rattle.std.proofs.Common.{length, sym, ◌∙◌}
use Rattle.store_format.proofs.BlankLemmas.{free-directory}
use Rattle.store_format.proofs.blank.write_blank_directory.Goals as goal

pub returns : goal.returns
returns c = c.write_full.ensures ∙ sym (free-directory (length c.args.out.now) c.args.space c.args.pages c.requires.whole)
