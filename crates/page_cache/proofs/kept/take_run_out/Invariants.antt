use Rattle.std.proofs.Common.{◌≡◌, ◌-◌, ◌++◌, length, take, drop}
use Rattle.page_cache.proofs.RunLemmas.{off}
use Rattle.page_cache.proofs.kept.take_run_out.Given as goal

-- the entries that were not looked at stand last, as they stood, and the others that stay stand before them
abbrev pub invariant-loop-turn : goal.invariant-loop-turn
invariant-loop-turn l = record {
  shape : l.nodes.entries ≡ off l.first l.pages (drop (length l.fn.nodes.entries - l._turn) l.fn.nodes.entries)
      ++ take (length l.fn.nodes.entries - l._turn) l.fn.nodes.entries;
  capacity : l.nodes.cap ≡ l.fn.nodes.cap;
}
