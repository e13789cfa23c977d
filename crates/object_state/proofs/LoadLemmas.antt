-- An object that is made of the pages of a tree, and what it keeps of them.
use Rattle.std.proofs.Common.{◌≡◌, ℕ, suc, ◌≤◌, Bool, true, ◌||◌, IsTrue, List, [], ◌∷◌, length, Option, Some, None}
use Rattle.std.proofs.Common.{IfSome, refl, sym, ap, subst, arith, ◌∙◌, inl, inr, ◌⊎◌, nat_eq, nat_le}
use Rattle.std.specs.Map.{lookup}
use Rattle.std.specs.List.{AllByRecursion}
use Rattle.std.proofs.lemmas.Bool.{cases_lt, false≢true}
use Rattle.std.proofs.lemmas.Bool.Decides.{nat_tests}
use Rattle.geometry_model.specs.Numbers.{Numbers}
use Rattle.tree_model.specs.declared.entry.Pair.{Pair}
use Rattle.tree_model.specs.Node.{NodeBytes, room_of}
use Rattle.tree_model.specs.Tree.{IsSegment, entries_of, page_count}
use Rattle.node_codec.specs.declared.parsed.Node.{Node}
use Rattle.layout_model.specs.Pack.{Packed}
use Rattle.moment_model.specs.Version.{IsGood, IsGoodVersion, version_uses}
use Rattle.moment_laws.specs.ByObject.{IsSoundSlot}
use Rattle.tree_pages.specs.Entry.{Entry, Present}
use Rattle.tree_pages.specs.Levels.{version_at, slot_at_rest}
use Rattle.tree_pages.specs.Stored.{AreWithin}
use Rattle.tree_pages.proofs.TreeLemmas.{tree-levels}
use Rattle.page_set.specs.Words.{PageSetView, in_set}
use Rattle.span_store.specs.Held.{Held, AllSized, bytes_on, page_at}
use Rattle.page_cache.specs.Kept.{KeptNodes, kept}
use Rattle.tree_read.specs.Search.{KeepsNodes}
use Rattle.object_body.specs.Stored.{AllFit, HasStoredTree, IsHeldTree, IsLoad, IsKeeping, IsThreshold}
use Rattle.object_state.specs.Fits.{may_stand}
use Rattle.object_state.specs.Tree.{TreeView, tree_form, tree_contents}
use Rattle.object_state.specs.Keeps.{KeepsTreeBody, in_spare}
use Rattle.object_body.specs.Stored.{StandsOn}
use Rattle.object_state.proofs.EndTables.{never-both, both-never}
use Rattle.object_body.proofs.HeldTreeLemmas.{twice-some}
use Rattle.object_state.proofs.EndLemmas.{IsBare, no-marks}
use Rattle.base_laws.proofs.OptionLaws.{within-size}

-- entries of which each may stand behind the one before it have no two small neighbours
one-high : (least a b : ℕ) → (nat_le least a || nat_le least b) ≡ true → (least ≤ a) ⊎ (least ≤ b)
one-high least a b some = elim (cases_lt a least) [
  | inr high ↦ inl high
  | inl low ↦ inr (grind (arith, nat_tests, some, low))
]

packed-from : (n : Numbers) (threshold index : ℕ) (before : Option Pair) (p : Pair) (ps : List Pair) →
    AllFit (may_stand n threshold) index before (p ∷ ps) → Packed n.page threshold (p ∷ ps)
packed-from n threshold index before p [] all = tt
packed-from n threshold index before p (q ∷ ps) all = (
  one-high threshold (page_count n.page p.bytes) (page_count n.page q.bytes) all.1.0,
  packed-from n threshold (suc index) (Some p) q ps all.1,
)

packed-of : (n : Numbers) (threshold : ℕ) (entries : List Pair) → AllFit (may_stand n threshold) 0 None entries →
    Packed n.page threshold entries
packed-of n threshold [] all = tt
packed-of n threshold (p ∷ ps) all = packed-from n threshold 0 None p ps all

pub pages-within : (tells : Bool) (size : ℕ) (held : Held) → AllSized tells size held → IsTrue tells → AreWithin size (bytes_on held)
pages-within tells size held sized tell = λ q. within-size size (page_at held q) (sized tell q)

-- a tree whose entries fit is a good one
good-of : (n : Numbers) (held : Held) (entry : Entry) → AreWithin n.page (bytes_on held) →
    IfSome entry (λ present. IsThreshold n present.threshold) →
    ((present : Present) → entry ≡ Some present → HasStoredTree (may_stand n) n (bytes_on held) (Some present)) →
    IsGoodVersion IsGood n (version_at (bytes_on held) entry)
good-of n held None within threshold trees = tt
good-of n held (Some present) within threshold trees =
    let at = bytes_on held in
    let entries = entries_of at present.root.height present.root.page in
    let tree = trees present refl in
    let levels = tree-levels n at present.root entries within tree.0 in
    record {
      shape = levels.shape;
      nodes = levels.nodes;
      segments = subst (AllByRecursion (IsSegment n)) (sym levels.listed) tree.0.segments;
      neighbours = subst (Packed n.page present.threshold) (sym levels.listed) (packed-of n present.threshold entries tree.1);
      threshold_low = threshold.low;
      threshold_high = threshold.high;
    }

stands-of : (n : Numbers) (held : Held) (entry : Entry) → HasStoredTree (may_stand n) n (bytes_on held) entry →
    StandsOn n (bytes_on held) entry
stands-of n held None tree = tt
stands-of n held (Some present) tree = tree.0

load-sound : (n : Numbers) (held : Held) (entry : Entry) → IsHeldTree (may_stand n) n held entry → AreWithin n.page (bytes_on held) →
    IfSome entry (λ present. IsThreshold n present.threshold) → IsSoundSlot IsGood n (slot_at_rest (version_at (bytes_on held) entry))
load-sound n held entry tree within threshold =
    let good = good-of n held entry within threshold (λ present is. subst (HasStoredTree (may_stand n) n (bytes_on held)) is tree.tree) in
    record {
      committed = good;
      working = good;
      committed_once = tree.once;
      working_once = λ page. omega (arith, tree.once page);
      spare_apart = λ page some. absurd (omega (arith, some));
    }

-- no node is kept
no-nodes : (tells : Bool) (size : ℕ) (held : Held) (cache : KeptNodes) → cache.entries ≡ [] → KeepsNodes tells size (bytes_on held) cache
no-nodes tells size held cache none = record {
  small = λ page. subst (λ (o : Option Node). IfSome o (λ node. length node.pairs.items ≤ room_of size)) (sym (nothing page)) tt;
  right = λ tell page. subst (λ (o : Option Node). IfSome o (λ n. NodeBytes (bytes_on held page) n.level n.pairs.items))
      (sym (nothing page)) tt;
} where
  nothing : (page : ℕ) → kept cache page ≡ None
  nothing page = ap (lookup (nat_eq page)) none

-- a loaded object
abbrev pub loaded_view : Numbers → Entry → Held → KeptNodes → PageSetView → PageSetView → TreeView
loaded_view n entry held cache fresh locked = record {
  numbers = n;
  committed = entry;
  working = entry;
  spare = None;
  held = held;
  cache = cache;
  fresh = fresh;
  locked = locked;
}

pub loaded-keeps : (tells : Bool) (n : Numbers) (entry : Entry) (held : Held) (cache : KeptNodes) (fresh locked : PageSetView) →
    IsLoad tells (may_stand n) n entry held → cache.entries ≡ [] → IsBare fresh → IsBare locked →
    KeepsTreeBody tells (loaded_view n entry held cache fresh locked)
loaded-keeps tells n entry held cache fresh locked load none no_fresh no_locked = record {
  on_data = load.on_data;
  sized = load.sized;
  nodes = no-nodes tells n.page held cache none;
  fresh = no-marks held (in_set fresh) no_fresh.none;
  locked = no-marks held (in_set locked) no_locked.none;
  spare = no-marks held (in_spare None) (λ page. refl);
  spare_some = tt;
  spare_there = λ absent. refl;
  spare_fresh = λ page there. absurd (false≢true there);
  apart = λ page there. no_locked.none page;
  committed_threshold = load.threshold;
  working_threshold = load.threshold;
  told = λ tell.
      let tree = load.told tell in
      let stands = stands-of n held entry tree.tree in
      record {
        committed = stands;
        working = stands;
        sound = load-sound n held entry tree (pages-within tells n.page held load.sized tell) load.threshold;
        tail = tt;
        just = λ page. tree.just page ∙ twice-some (version_uses n page (version_at (bytes_on held) entry));
        fresh = λ page. no_fresh.none page ∙ sym (never-both (version_uses n page (version_at (bytes_on held) entry)));
        locked = λ page. no_locked.none page ∙ sym (both-never (version_uses n page (version_at (bytes_on held) entry)));
      };
}

-- the same of what was taken out of an option
pub taken-keeps : (tells : Bool) (n : Numbers) (entry : Entry) (given : Option Held) (held : Held) (cache : KeptNodes)
    (fresh locked : PageSetView) → given ≡ Some held → IfSome given (IsLoad tells (may_stand n) n entry) →
    cache.entries ≡ [] → IsBare fresh → IsBare locked → KeepsTreeBody tells (loaded_view n entry held cache fresh locked)
taken-keeps tells n entry given held cache fresh locked is loads none no_fresh no_locked =
    loaded-keeps tells n entry held cache fresh locked (subst (λ (o : Option Held). IfSome o (IsLoad tells (may_stand n) n entry)) is loads)
    none no_fresh no_locked

-- what an object keeps of its pages
pub tree-keeping : (tells : Bool) (v : TreeView) → KeepsTreeBody tells v →
    IsKeeping tells (tree_form v) (tree_contents v) v.working v.held
tree-keeping tells v kept = record {
  on_data = kept.on_data;
  sized = kept.sized;
  just = λ tell. (kept.told tell).just;
  tree = λ tell. (kept.told tell).working;
  version = λ tell. refl;
  bytes = λ tell. refl;
}
