-- Whose each page is, as the walks of the trees keep it.
use Rattle.std.specs.Prelude.{◌≡◌, ℕ, ◌+◌, ◌<◌, ◌⊎◌, Bool, true, false, not, IsTrue, nat_eq}
use Rattle.std.specs.Prelude.{Option, Some, None, List, ◌++◌, length, take, drop, replicate, set}
use Rattle.std.specs.Prelude.{slice_index_or, sum_by, if◌then◌else◌}
use Rattle.geometry_model.specs.Numbers.{Numbers, pages, space_pages}
use Rattle.geometry_model.specs.Pages.{data_page, is_data_page}
use Rattle.tree_model.specs.declared.entry.Pair.{Pair}
use Rattle.span_store.specs.Held.{Held, has}
use Rattle.image_check.specs.declared.owner.Owner.{Owner}
use Rattle.image_check.specs.declared.owner.Owner.TheVariants.{Free, Nobody, Object}
use Rattle.image_check.specs.declared.failure.CheckFail.{CheckFail}
use Rattle.image_check.specs.declared.failure.CheckFail.TheVariants.{PageTwice, PageFree}

-- what a code stands for, and the numbers that stand for an object
abbrev pub owner_of : ℕ → Owner
owner_of code =
    if nat_eq code 65535 then Free else (if nat_eq code 65534 then Nobody else Object code)

abbrev pub is_number : ℕ → Type 0
is_number object = object < 65534

-- the owner of each page of a store, and the last segment that was met in the object that is walked
pub record KeptWalk : Type 0 where
  pub owners : List Owner
  pub before : Option Pair

abbrev pub owner_at : KeptWalk → ℕ → Owner
owner_at kept q = slice_index_or kept.owners q Nobody

abbrev pub is_unused : Owner → Bool
is_unused Free = true
is_unused Nobody = false
is_unused (Object o) = false

abbrev pub is_owned : Owner → Bool
is_owned Free = false
is_owned Nobody = false
is_owned (Object o) = true

-- how many pages are an object's
abbrev pub owned : KeptWalk → ℕ
owned kept = sum_by (λ owner. if is_owned owner then 1 else 0) kept.owners

-- the pages of a run are nobody's
abbrev pub with_used : KeptWalk → ℕ → ℕ → KeptWalk
with_used kept first n = record kept {
  owners = take first kept.owners ++ (replicate n Nobody ++ drop (first + n) kept.owners);
}

-- a page is an object's
abbrev pub with_owner : KeptWalk → ℕ → ℕ → KeptWalk
with_owner kept page o = record kept { owners = set kept.owners page (Object o) }

-- a page is met: it is refused where it is free, or an object's already
abbrev pub answer_of : ℕ → Owner → Option CheckFail
answer_of page Free = Some (PageFree page)
answer_of page Nobody = None
answer_of page (Object o) = Some (PageTwice page)

-- and only a page that is nobody's gets an owner
abbrev pub after_meeting_of : ℕ → ℕ → KeptWalk → Owner → KeptWalk
after_meeting_of page o kept Free = kept
after_meeting_of page o kept Nobody = with_owner kept page o
after_meeting_of page o kept (Object other) = kept

abbrev pub after_meeting : ℕ → ℕ → KeptWalk → KeptWalk
after_meeting page o kept = after_meeting_of page o kept (owner_at kept page)

-- each page of the store has a mark, and the data pages that are held are just those not free
pub record IsMarked (n : Numbers) (held : Held) (kept : KeptWalk) : Type 0 where
  pub count : length kept.owners ≡ pages n
  pub used : (q : ℕ) → IsTrue (is_data_page n q) → has held q ≡ not (is_unused (owner_at kept q))

-- a page has the owner that it had, or it was nobody's and is this object's
abbrev pub IsClaimed : ℕ → Owner → Owner → Type 0
IsClaimed o old new = (new ≡ old) ⊎ ((old ≡ Nobody) × (new ≡ Object o))

abbrev pub Claims : ℕ → KeptWalk → KeptWalk → Type 0
Claims o old new = (q : ℕ) → IsClaimed o (owner_at old q) (owner_at new q)

-- no data page of a space is used and nobody's
abbrev pub HasNoneLostIn : Numbers → ℕ → KeptWalk → Type 0
HasNoneLostIn n s kept =
    (at : ℕ) → at < space_pages n → owner_at kept (data_page n s at) ≡ Nobody → ⊥

-- and none of the store
abbrev pub HasNoneLost : Numbers → KeptWalk → Type 0
HasNoneLost n kept = (s : ℕ) → s < n.spaces → HasNoneLostIn n s kept
