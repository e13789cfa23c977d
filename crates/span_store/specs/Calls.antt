-- What the calls make of the holdings, and of a port.
use Rattle.std.specs.Prelude.{◌≡◌, ℕ, ◌+◌, ◌<◌, ◌≤◌, ◌==◌, ◌&&◌, ◌||◌, not, true, false, IsTrue}
use Rattle.std.specs.Prelude.{length, None, is_some, if◌then◌else◌}
use Rattle.std.specs.Option.{option_or}
use Rattle.span_store.specs.Held.{HeldSpan, Held, page_of, page_at, has, begins}

-- the same pages are held, with the same on each of them
abbrev pub KeepsPages : Held → Held → Type 0
KeepsPages old new = (q : ℕ) → page_at new q ≡ page_at old q

-- a span came to those that are held; the room isn't less
pub record IsAdded (s : HeldSpan) (old new : Held) : Type 0 where
  pub pages : (q : ℕ) → page_at new q ≡ option_or (page_of s q) (page_at old q)
  pub begun : (q : ℕ) → begins new q ≡ (s.first == q || begins old q)
  pub count : length new.spans ≡ length old.spans + 1
  pub room : old.room ≤ new.room

-- a span was taken out: one that was held whole, from where it began up to where the next one began
-- or no page was held; its own room may go with it
pub record IsRemoved (s : HeldSpan) (old new : Held) : Type 0 where
  pub some : 1 ≤ length s.pages
  pub begun : begins old s.first ≡ true
  pub held : (q : ℕ) → IsTrue (is_some (page_of s q)) → page_at old q ≡ page_of s q
  pub inner : (q : ℕ) → s.first < q → q < s.first + length s.pages → begins old q ≡ false
  pub end : IsTrue (has old (s.first + length s.pages)) →
      begins old (s.first + length s.pages) ≡ true
  pub pages : (q : ℕ) → page_at new q ≡ (if is_some (page_of s q) then None else page_at old q)
  pub begins_left : (q : ℕ) → begins new q ≡ (not (s.first == q) && begins old q)
  pub count : length new.spans + 1 ≡ length old.spans
  pub room : old.room ≤ new.room + 1

-- the span is held whole: from where it begins up to where the next one begins or no page is held
pub record IsSpanOf (s : HeldSpan) (all : Held) : Type 0 where
  pub some : 1 ≤ length s.pages
  pub begun : begins all s.first ≡ true
  pub held : (q : ℕ) → IsTrue (is_some (page_of s q)) → page_at all q ≡ page_of s q
  pub inner : (q : ℕ) → s.first < q → q < s.first + length s.pages → begins all q ≡ false
  pub end : IsTrue (has all (s.first + length s.pages)) →
      begins all (s.first + length s.pages) ≡ true

-- the span is the first that begins at the page or behind it
pub record IsSpanFrom (page : ℕ) (s : HeldSpan) (held : Held) : Type 0 where
  pub whole : IsSpanOf s held
  pub from : page ≤ s.first
  pub none : (q : ℕ) → page ≤ q → q < s.first → begins held q ≡ false

-- a span begins at this page, and the pages are held as before
pub record IsCutAt (page : ℕ) (old new : Held) : Type 0 where
  pub pages : KeepsPages old new
  pub begun : (q : ℕ) → begins new q ≡ (page == q || begins old q)
  pub count : length new.spans
      ≡ (if begins old page then length old.spans else length old.spans + 1)

-- the span that ended before this page and the one that began at it are one: a cut there gives back
-- what was held; the room of the second may go
pub record IsJoined (page : ℕ) (old new : Held) : Type 0 where
  pub whole : begins new page ≡ false
  pub cut : IsCutAt page new old
  pub room : old.room ≤ new.room + 1

-- the n pages from `first` on may hold something else; the same pages are held, in the same spans
pub record IsOverwritten (first n : ℕ) (old new : Held) : Type 0 where
  pub before : (q : ℕ) → q < first → page_at new q ≡ page_at old q
  pub behind : (q : ℕ) → first + n ≤ q → page_at new q ≡ page_at old q
  pub held : (q : ℕ) → has new q ≡ has old q
  pub begun : (q : ℕ) → begins new q ≡ begins old q
  pub count : length new.spans ≡ length old.spans
  pub room : new.room ≡ old.room
