-- What a change of one object is to its pages, and which pages are free and locked after it.
use Rattle.std.specs.Prelude.{◌≡◌, ℕ, ◌+◌, ◌≤◌, Bool, ◌&&◌, ◌||◌, not, nat_eq, nat_lt}
use Rattle.geometry_model.specs.Numbers.{Numbers}
use Rattle.layout_model.specs.Layout.{Tree}
use Rattle.moment_model.specs.Version.{IsGoodVersion, spare_uses}
use Rattle.moment_model.specs.Moment.{ObjectSlot, committed_uses, working_uses, either_uses}
use Rattle.moment_model.specs.Moment.{count_true}

-- The committed version stays, and the working one is good. It and the spare use the pages that
-- they had, and else only free ones, each once.
pub record Grows (good : Numbers → Tree → Type 0) (n : Numbers) (is_open : ℕ → Bool)
    (before after : ObjectSlot) : Type 0 where
  pub committed : after.committed ≡ before.committed
  pub working : IsGoodVersion good n after.working
  pub within : (page : ℕ) → working_uses n page after ≤ working_uses n page before + count_true
      (is_open page)
  pub spare_within : (page : ℕ) → spare_uses page after.spare ≤ spare_uses page
      before.spare + count_true (is_open page)

-- is a page free after a change of one object? It isn't used by the new state, and was free or
-- the old state's
abbrev pub free_after : Numbers → ℕ → Bool → ObjectSlot → ObjectSlot → Bool
free_after n page was before after =
    nat_eq (either_uses n page after) 0 && (was || nat_lt 0 (either_uses n page before))

-- is a page locked after it? The new state's committed version uses it and its working one
-- doesn't; or it was locked for another object
abbrev pub locked_after : Numbers → ℕ → Bool → ObjectSlot → ObjectSlot → Bool
locked_after n page was before after =
    (nat_lt 0 (committed_uses n page after) && nat_eq (working_uses n page after) 0)
    || (was && (nat_eq (either_uses n page before) 0 && nat_eq (either_uses n page after) 0))

-- what is held without what a test holds of
abbrev pub held_without : (ℕ → Bool) → (ℕ → Bool) → ℕ → Bool
held_without held test o = held o && not (test o)
