-- The masks beside the run stay right, and no more pages are free than the space has.
use Rattle.std.proofs.Common.{◌≡◌, ℕ, ◌+◌, ◌≤◌, List, Bool, true, length, drop, subst, sym, ap, ◌∙◌, arith}
use Rattle.std.proofs.lemmas.List.{take_at}
use Rattle.block_model.specs.Block.{with_run, count_of}
use Rattle.block_model.proofs.Changes.{count-le-length}
use Rattle.buddy_map.specs.Tree.{IsMended}
use Rattle.buddy_map.proofs.Mending.{mended_from}
use Rattle.buddy_map.proofs.map.BuddyMap.give.Goals as goal

pub overflow_add-self : goal.overflow_add-self
overflow_add-self c =
    omega (
      arith,
      c.insert_run.ensures.added,
      count-le-length c.insert_run.new.pages,
      ap count_of c.deref_mut.ensures.value,
      ap length c.deref_mut.ensures.value,
      c.self.invariant.0,
      c.self.invariant.1,
    )

pub mend-requires-clause-beside : goal.mend-requires-clause-beside
mend-requires-clause-beside c =
    let pages = c.self.inside.pages.items in
    let order = c.self.inside.order in
    let first = c.args.first in
    let n = c.args.n in
    let within : first + n ≤ length pages = omega (arith, ap length c.self.view_is) in
    let whole : length c.insert_run.new.pages ≡ c.self.inside.pages.len = omega (arith, c.insert_run.auto.pages, c.deref_mut.ensures.len) in
    let changed : with_run pages first n true ≡ c.deref.result.now =
    sym (c.deref.ensures.value ∙ take_at c.insert_run.new.pages (drop (length c.insert_run.new.pages) pages) c.self.inside.pages.len whole
    ∙ c.insert_run.ensures.pages ∙ ap (λ (ps : List Bool). with_run ps first n true) c.deref_mut.ensures.value) in
    let masks : c.self.inside.masks.items ≡ c.deref_mut-2.result.now = sym c.deref_mut-2.ensures.value in
    subst (λ (free : List Bool). IsMended free order first n 0 c.deref_mut-2.result.now) changed
    (subst (λ (ms : List ℕ). IsMended (with_run pages first n true) order first n 0 ms) masks
    (mended_from pages order first n true c.self.inside.masks.items c.requires.some within c.self.invariant.2))
