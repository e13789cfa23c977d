-- All parts are mended.
use Rattle.std.proofs.Common.{◌≡◌, ℕ, ◌*◌, ◌%◌, ◌^◌, length, sym, subst, arith}
use Rattle.std.proofs.lemmas.Nat.{one_shl}
use Rattle.std.proofs.lemmas.Grind.{common_steps}
use Rattle.buddy_map.specs.Tree.{IsMended}
use Rattle.buddy_map.proofs.Mending.{mended_new}
use Rattle.buddy_map.proofs.masks.build.Goals as goal

pub mend-requires-clause-beside : goal.mend-requires-clause-beside
mend-requires-clause-beside c =
    let size : 1 * 2 ^ c.args.whole % 4294967296 ≡ 2 ^ c.args.whole = one_shl c.args.whole 32 (omega arith) in
    let made : length c.deref_mut.result.now ≡ 2 * 2 ^ c.args.whole = grind (arith, common_steps) in
    subst (λ (n : ℕ). IsMended c.args.pages.now c.args.whole 0 n 0 c.deref_mut.result.now) (sym size)
    (mended_new c.args.pages.now c.args.whole c.deref_mut.result.now made)
