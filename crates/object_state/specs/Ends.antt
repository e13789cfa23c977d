-- What the end of a transaction unlocks, and what an edit drops.
use Rattle.std.specs.Prelude.{ℕ, Bool, not, ◌&&◌}
use Rattle.give_back.specs.Giving.{Ways, none_marked}

-- these pages are unlocked, and nothing else
abbrev pub unlocks : (ℕ → Bool) → Ways
unlocks test = record { given = none_marked; unlocked = test; locked = none_marked }

-- those that are fresh are given, and the others locked
abbrev pub drops : (ℕ → Bool) → (ℕ → Bool) → Ways
drops gone fresh = record {
  given = λ page. gone page && fresh page;
  unlocked = none_marked;
  locked = λ page. gone page && not (fresh page);
}
