-- A device: its bytes, and the pages that a mount hands out until they are back.
use Rattle.std.specs.Prelude.{◌≡◌, ℕ, ◌+◌, ◌-◌, ◌*◌, ◌≤◌, Bool, IsTrue, List, [], ◌++◌, length}
use Rattle.std.specs.Prelude.{take}
use Rattle.std.specs.Prelude.{drop, replicate, map, Option, Some, None, is_some, unwrap_or}
use Rattle.std.specs.List.{concat, list_all, flat_map}
use Rattle.page_port.specs.Pages.{AreOf, IsSized}

-- `bytes` are those that the device holds itself: all of them while no page is out, else those
-- behind the pages of the mount. `pages` are the pages of the last mount: nothing for a page that
-- is out, and for one that came back the contents that it came back with. `mounted` is the last
-- mount's page size.
pub record Device : Type 0 where
  pub bytes : List ℕ
  pub pages : List (Option (List ℕ))
  pub mounted : Option ℕ
  pub faults : ℕ

-- every page of the last mount is back
abbrev pub is_home : Device → Bool
is_home d = list_all is_some d.pages

-- nothing but the count of faults differs
abbrev pub with_faults : Device → ℕ → Device
with_faults d faults = record d { faults = faults }

-- bytes cut or filled up with zeros to n bytes
abbrev pub resized : ℕ → List ℕ → List ℕ
resized n bytes = take n bytes ++ replicate (n - length bytes) 0

-- the device has n bytes. The pages of the last mount are forgotten: they were all back
abbrev pub after_prepare : Device → ℕ → ℕ → Device
after_prepare d n faults = record d { bytes = resized n d.bytes; pages = []; faults = faults }

-- n pages of `size` bytes are handed out
abbrev pub after_mount : Device → ℕ → ℕ → ℕ → Device
after_mount d size n faults = record {
  bytes = drop (size * n) d.bytes;
  pages = replicate n None;
  mounted = Some size;
  faults = faults;
}

-- the pages of a run, from page `first` on, came back with these contents
abbrev pub after_return : ℕ → List (List ℕ) → List (Option (List ℕ)) → List (Option (List ℕ))
after_return first contents pages =
    take first pages ++ (map Some contents ++ drop (first + length contents) pages)

-- the contents of the pages that are back, in the order of their numbers
abbrev pub page_bytes : Option (List ℕ) → List ℕ
page_bytes None = []
page_bytes (Some page) = page

abbrev pub returned_bytes : List (Option (List ℕ)) → List ℕ
returned_bytes pages = flat_map page_bytes pages

-- these pages belong to the last mount, and have its page size
pub record IsOfMount (d : Device) (first : ℕ) (contents : List (List ℕ)) : Type 0 where
  pub range : first + length contents ≤ length d.pages
  pub sized : AreOf (unwrap_or d.mounted 0) contents

-- The span that a mount hands out: n pages from page 0 on. Where they are told, each has `size`
-- bytes, and together they are the first bytes of the device.
pub record IsFront (told : Bool) (d : Device) (size n start : ℕ)
    (contents : List (List ℕ)) : Type 0 where
  pub first : start ≡ 0
  pub count : length contents ≡ n
  pub sized : IsSized told size contents
  pub bytes : IsTrue told → concat contents ≡ take (size * n) d.bytes
