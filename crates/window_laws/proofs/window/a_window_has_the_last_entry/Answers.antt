use Rattle.std.proofs.Common.{refl}
use Rattle.tree_model.specs.Tree.{bytes_of}
use Rattle.window_laws.proofs.window.a_window_has_the_last_entry.Goals as goal
use Rattle.window_laws.proofs.WindowLemmas.{window-last}

pub returns : goal.returns
returns c = λ entries removed have. let window = window-last entries (bytes_of entries) removed have refl in window.last
