-- What a body is made of, and gives back: a root, a threshold, and the pages of a tree.
use Rattle.std.specs.Prelude.{◌≡◌, ℕ, suc, ◌*◌, ◌≤◌, Bool, true, IsTrue, List, [], ◌∷◌}
use Rattle.std.specs.Prelude.{nat_lt, Option, Some, None, IfSome, option_map}
use Rattle.geometry_model.specs.Numbers.{Numbers, space_pages}
use Rattle.geometry_model.specs.Pages.{is_data_page}
use Rattle.tree_model.specs.declared.entry.Pair.{Pair}
use Rattle.tree_model.specs.declared.tree.Root.{Root}
use Rattle.tree_model.specs.Tree.{IsTreeOf, Pages, entries_of}
use Rattle.moment_model.specs.Version.{version_uses}
use Rattle.moment_model.specs.Moment.{either_uses}
use Rattle.span_store.specs.Held.{Held, AllSized, bytes_on, has}
use Rattle.span_store.specs.Calls.{KeepsPages}
use Rattle.tree_pages.specs.Entry.{Entry}
use Rattle.tree_pages.specs.Levels.{version_at, plain_at, slot_at_rest}
use Rattle.object_body.specs.Form.{Form, Contents}

-- what is kept of an object beside its pages
abbrev pub entry_of : Option Root → ℕ → Entry
entry_of root threshold = option_map (λ root. record { root = root; threshold = threshold }) root

-- the root and the threshold of an entry, 0 where there is none
abbrev pub root_in : Entry → Option Root
root_in entry = option_map (λ present. present.root) entry

abbrev pub threshold_in : Entry → ℕ
threshold_in None = 0
threshold_in (Some present) = present.threshold

-- the bytes that the root counts, none where the object is absent
abbrev pub entry_length : Entry → Option ℕ
entry_length entry = option_map (λ present. present.root.length) entry

-- each entry of a list may stand behind the one before it, the first one, of number `index`,
-- behind this one
abbrev pub AllFit : (ℕ → Option Pair → Pair → Bool) → ℕ → Option Pair → List Pair → Type 0
AllFit fits index before [] = Unit {0}
AllFit fits index before (pair ∷ pairs) = IsTrue (fits index before pair)
    × AllFit fits (suc index) (Some pair) pairs

-- a threshold is at least a page, and at most half of a space
pub record IsThreshold (n : Numbers) (threshold : ℕ) : Type 0 where
  pub low : 1 ≤ threshold
  pub high : 2 * threshold ≤ space_pages n

-- a present object has its tree on the pages
abbrev pub StandsOn : Numbers → Pages → Entry → Type 0
StandsOn n at None = Unit {0}
StandsOn n at (Some present) =
    IsTreeOf n at present.root (entries_of at present.root.height present.root.page)

-- and its entries are such as the kind allows
abbrev pub HasStoredTree : (ℕ → ℕ → Option Pair → Pair → Bool) → Numbers → Pages → Entry → Type 0
HasStoredTree fits n at None = Unit {0}
HasStoredTree fits n at (Some present) = StandsOn n at (Some present)
    × AllFit (fits present.threshold) 0 None (entries_of at present.root.height present.root.page)

-- The held pages are told: the object has its tree there, each page of it once, and they are just
-- these pages.
pub record IsHeldTree (fits : ℕ → ℕ → Option Pair → Pair → Bool) (n : Numbers) (held : Held)
    (entry : Entry) : Type 0 where
  pub tree : HasStoredTree fits n (bytes_on held) entry
  pub once : (page : ℕ) → version_uses n page (version_at (bytes_on held) entry) ≤ 1
  pub just : (page : ℕ) → has held page
      ≡ nat_lt 0 (version_uses n page (version_at (bytes_on held) entry))

-- the pages that an object is made of: data pages of the store, of its size, and a tree where
-- they are told
pub record IsLoad (tells : Bool) (fits : ℕ → ℕ → Option Pair → Pair → Bool) (n : Numbers)
    (entry : Entry) (held : Held) : Type 0 where
  pub threshold : IfSome entry (λ present. IsThreshold n present.threshold)
  pub on_data : (page : ℕ) → IsTrue (has held page) → IsTrue (is_data_page n page)
  pub sized : AllSized tells n.page held
  pub told : IsTrue tells → IsHeldTree fits n held entry

-- What a loaded object is: at rest, of the root's length; it has these pages and, where they are
-- told, the version and the bytes that stand there.
pub record IsLoaded (tells : Bool) (n : Numbers) (entry : Entry) (held : Held) (form : Form)
    (told : Contents) (new_entry : Entry) (pages : Held) : Type 0 where
  pub numbers : form.numbers ≡ n
  pub working : form.working ≡ entry_length entry
  pub committed : form.committed ≡ form.working
  pub rests : form.is_resting ≡ true
  pub named : new_entry ≡ entry
  pub pages_kept : KeepsPages held pages
  pub slot : IsTrue tells → told.slot ≡ slot_at_rest (version_at (bytes_on held) entry)
  pub bytes : IsTrue tells → told.working ≡ plain_at (bytes_on held) n.page entry

-- What an object keeps of its pages: data pages of the store's size; where they are told they are
-- just those that its slot uses, the tree of the working version stands on them, and they show that
-- version and its bytes.
pub record IsKeeping (tells : Bool) (form : Form) (told : Contents) (entry : Entry)
    (held : Held) : Type 0 where
  pub on_data : (page : ℕ) → IsTrue (has held page) → IsTrue (is_data_page form.numbers page)
  pub sized : AllSized tells form.numbers.page held
  pub just : IsTrue tells → (page : ℕ) →
      has held page ≡ nat_lt 0 (either_uses form.numbers page told.slot)
  pub tree : IsTrue tells → StandsOn form.numbers (bytes_on held) entry
  pub version : IsTrue tells → told.slot.working ≡ version_at (bytes_on held) entry
  pub bytes : IsTrue tells → told.working ≡ plain_at (bytes_on held) form.numbers.page entry
