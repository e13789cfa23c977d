-- The masks beside the run stay right.
use Rattle.std.proofs.Common.{◌≡◌, ℕ, ◌+◌, ◌≤◌, List, Bool, false, length, drop, subst, sym, ap, ◌∙◌, arith}
use Rattle.std.proofs.lemmas.List.{take_at}
use Rattle.block_model.specs.Block.{with_run}
use Rattle.buddy_map.specs.Tree.{IsMended}
use Rattle.buddy_map.proofs.Mending.{mended_from}
use Rattle.buddy_map.proofs.map.BuddyMap.take_out.Goals as goal

pub mend-requires-clause-beside : goal.mend-requires-clause-beside
mend-requires-clause-beside c =
    let pages = c.self.inside.pages.items in
    let order = c.self.inside.order in
    let first = c.args.first in
    let n = c.args.n in
    let within : first + n ≤ length pages = omega (arith, ap length c.self.view_is) in
    let whole : length c.remove_run.new.pages ≡ c.self.inside.pages.len = omega (arith, c.remove_run.auto.pages, c.deref_mut.ensures.len) in
    let changed : with_run pages first n false ≡ c.deref.result.now =
    sym (c.deref.ensures.value ∙ take_at c.remove_run.new.pages (drop (length c.remove_run.new.pages) pages) c.self.inside.pages.len whole
    ∙ c.remove_run.ensures.pages ∙ ap (λ (ps : List Bool). with_run ps first n false) c.deref_mut.ensures.value) in
    let masks : c.self.inside.masks.items ≡ c.deref_mut-then-n-gt0.result.now = sym c.deref_mut-then-n-gt0.ensures.value in
    subst (λ (free : List Bool). IsMended free order first n 0 c.deref_mut-then-n-gt0.result.now) changed
    (subst (λ (ms : List ℕ). IsMended (with_run pages first n false) order first n 0 ms) masks
    (mended_from pages order first n false c.self.inside.masks.items (omega arith) within c.self.invariant.2))
