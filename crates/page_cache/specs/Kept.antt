-- What a cache keeps: nodes by their pages.
use Rattle.std.specs.Prelude.{◌≡◌, ℕ, ◌+◌, ◌≤◌, ◌&&◌, Bool, List, length, Option}
use Rattle.std.specs.Prelude.{IfSome, nat_eq}
use Rattle.std.specs.Prelude.{nat_le, nat_lt}
use Rattle.std.specs.Map.{lookup}
use Rattle.lru.specs.LruCache.{lru_cache, put_entries}
use Rattle.node_codec.specs.declared.parsed.Node.{Node}

-- nodes with their pages, the one used last first, and how many there may be
pub record KeptNodes : Type 0 where
  pub entries : List (ℕ × Node)
  pub capacity : ℕ

-- the node that is kept for a page
abbrev pub kept : KeptNodes → ℕ → Option Node
kept c page = lookup (nat_eq page) c.entries

-- the two are the same node, whatever room they have
pub record IsNodeOf (a b : Node) : Type 0 where
  pub level : a.level ≡ b.level
  pub pairs : a.pairs.items ≡ b.pairs.items

-- for each page the same node is kept, or none
pub record KeepsSame (old new : KeptNodes) : Type 0 where
  pub each : (page : ℕ) → kept new page ≡ kept old page
  pub most : new.capacity ≡ old.capacity

-- a copy of the node was put in for its page and stands first; the others stand behind it as they
-- stood, but the last of them, the one used longest ago, is gone where the page had no node and
-- there was no room for one more
pub record IsPutIn (old new : KeptNodes) (page : ℕ) (node : Node) : Type 0 where
  pub copy : Node
  pub same : IsNodeOf node copy
  pub entries : new.entries ≡ put_entries nat_eq (lru_cache old.entries old.capacity) page copy

-- is the page one of the `pages` pages from `first` on?
abbrev pub is_on_run : ℕ → ℕ → ℕ → Bool
is_on_run first pages page = nat_le first page && nat_lt page (first + pages)

-- each node that is kept has so many pairs at most
abbrev pub HaveAtMost : ℕ → KeptNodes → Type 0
HaveAtMost most c = (page : ℕ) → IfSome (kept c page) (λ node. length node.pairs.items ≤ most)
