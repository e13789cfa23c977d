-- A tree on pages that are held: its bytes are there, and are as many as its root counts.
use Rattle.std.proofs.Common.{◌≡◌, ℕ, ◌+◌, ◌<◌, ◌≤◌, Bool, true, IsTrue, List, [], ◌∷◌, length, map, Option, Some, None}
use Rattle.std.proofs.Common.{IfSome, refl, sym, ap, subst, arith, ◌∙◌, inl, inr, nat_lt, is_some}
use Rattle.std.specs.Prelude.{unwrap_or, if◌then◌else◌}
use Rattle.std.specs.List.{AllByRecursion}
use Rattle.std.proofs.lemmas.Bool.{cases_lt, lt-ltb}
use Rattle.std.proofs.lemmas.List.Sums.{sum_by-cons}
use Rattle.geometry_model.specs.Numbers.{Numbers, IsInRange}
use Rattle.layout_model.specs.declared.extent.Extent.{Extent}
use Rattle.layout_model.specs.Levels.{entries_of_levels}
use Rattle.tree_model.specs.declared.entry.Pair.{Pair}
use Rattle.tree_model.specs.Tree.{Pages, bytes_of, entries_of}
use Rattle.content_laws.specs.Spelling.{IsThere}
use Rattle.content_laws.proofs.SpellingLemmas.{content-length}
use Rattle.moment_model.specs.Version.{covers, uses, segment_run, version_uses, version_bytes}
use Rattle.span_store.specs.Held.{Held, AllSized, bytes_on, has, page_at}
use Rattle.tree_pages.specs.Entry.{Entry, Present}
use Rattle.tree_pages.specs.Levels.{levels_at, version_at, plain_at}
use Rattle.tree_pages.proofs.TreeLemmas.{entry-segments, levels-entries, tree-counts}
use Rattle.object_body.specs.Lengths.{length_of}
use Rattle.object_body.specs.Stored.{StandsOn, entry_length}
use Rattle.change_laws.proofs.ThereLemmas.{all-there}

-- a held page has the store's bytes
held-page : (size : ℕ) (page : Option (List ℕ)) → IfSome page (λ bytes. length bytes ≡ size) → is_some page ≡ true →
    length (unwrap_or page []) ≡ size
held-page size None sized some = absurd cc
held-page size (Some bytes) sized some = sized

pub sized-page : (tells : Bool) (size : ℕ) (held : Held) (page : ℕ) → AllSized tells size held → IsTrue tells → IsTrue (has held page) →
    length (bytes_on held page) ≡ size
sized-page tells size held page sized tell there = held-page size (page_at held page) (sized tell page) there

-- the pages that a version uses have the store's bytes
abbrev pub AreFull : Numbers → Pages → Entry → Type 0
AreFull n at entry = (q : ℕ) → 0 < version_uses n q (version_at at entry) → length (at q) ≡ n.page

pub entry-there : (n : Numbers) (at : Pages) (present : Present) → AreFull n at (Some present) →
    AllByRecursion (IsThere at n.page) (entries_of at present.root.height present.root.page)
entry-there n at present full =
    all-there at n.page (entries_of at present.root.height present.root.page)
    (λ q some. full q (let same = entry-segments n q at present in omega (arith, some, same)))

-- the bytes that an entry shows are as many as its root counts, and as its version has
pub record HasLength (n : Numbers) (at : Pages) (entry : Entry) : Type 0 where
  pub root : entry_length entry ≡ length_of (plain_at at n.page entry)
  pub version : version_bytes (version_at at entry) ≡ length_of (plain_at at n.page entry)

pub has-length : (n : Numbers) (at : Pages) (entry : Entry) → 0 < n.page → StandsOn n at entry → AreFull n at entry → HasLength n at entry
has-length n at None some stands full = record { root = refl; version = refl }
has-length n at (Some present) some stands full =
    let entries = entries_of at present.root.height present.root.page in
    let counts = tree-counts n at present.root entries stands in
    let long = content-length at n.page entries some (entry-there n at present full) in
    let levels : bytes_of (entries_of_levels (levels_at at present.root)) ≡ bytes_of entries =
    ap bytes_of (levels-entries at present.root.height present.root.page) in
    record { root = ap Some (sym (long ∙ counts)); version = ap Some (levels ∙ sym long) }

-- the pages of an object at rest are those of either version
pub twice-some : (k : ℕ) → nat_lt 0 k ≡ nat_lt 0 (k + (k + 0))
twice-some k = elim (cases_lt 0 k) [
  | inl some ↦ lt-ltb 0 k some ∙ sym (lt-ltb 0 (k + (k + 0)) (omega (arith, some)))
  | inr none ↦ let zero' : k ≡ 0 = omega arith in subst (λ (j : ℕ). nat_lt 0 j ≡ nat_lt 0 (j + (j + 0))) (sym zero') refl
]
