-- A read of a tree: the search for its segments, and then their bytes.
use Rattle.std.proofs.Common.{◌≡◌, ℕ, ◌+◌, ◌-◌, ◌*◌, ◌<◌, ◌≤◌, Bool, IsTrue, List, [], ◌∷◌, ◌++◌, length, take, drop, Err, Ok, refl, sym}
use Rattle.std.proofs.Common.{ap, subst}
use Rattle.std.proofs.Common.{arith, ◌∙◌, inl, inr}
use Rattle.std.specs.Prelude.{Result}
use Rattle.std.specs.List.{AllByRecursion}
use Rattle.std.proofs.lemmas.Bool.{cases_lt}
use Rattle.std.proofs.Math.Seq.{take-append_seam}
use Rattle.fault_count.specs.Counts.{HasCause, IsUsed, Meter, Reads, Rose}
use Rattle.fault_count.proofs.CountLaws.{HasCause-found, IsUsed-then, Reads-blame}
use Rattle.geometry_model.specs.Numbers.{Numbers}
use Rattle.tree_model.specs.declared.entry.Pair.{Pair}
use Rattle.tree_model.specs.declared.entry.Placed.{Placed}
use Rattle.tree_model.specs.declared.tree.Root.{Root}
use Rattle.tree_model.specs.Content.{content}
use Rattle.tree_model.specs.Range.{in_range, pairs_of, start_of}
use Rattle.layout_model.specs.Pack.{Packed}
use Rattle.moment_model.specs.Costs.{read_cost}
use Rattle.span_store.specs.Held.{Held, AllSized, bytes_on}
use Rattle.page_cache.specs.Kept.{KeptNodes}
use Rattle.seg_bytes.specs.Segments.{HoldsBytes, HoldsSegments, touched}
use Rattle.tree_read.specs.Cost.{nodes_in_range}
use Rattle.tree_read.specs.Search.{KeepsNodes, Searches, top as top_of}
use Rattle.tree_read.proofs.TreeLemmas.{AllByRecursion-in_range}
use Rattle.read_cost_laws.proofs.TouchedLemmas.{read-cheap}
use Rattle.object_body.specs.declared.fails.LookFail.{LookFail}
use Rattle.object_body.proofs.CallLemmas.{used-not, cause-none}
use Rattle.object_body.specs.declared.fails.LookFail.TheVariants as look
use Rattle.object_state.specs.Reads.{IsHeldSegment, IsToldRead, ReadsTree, tree_at}
use Rattle.object_state.proofs.ReadLemmas.{IsWhole, have-bytes, nodes-cheap, range-bytes, whole-segments}

-- what a read of a tree on held pages is given: pages of the store's size, and the tree where they are told
pub record IsReadable (tells : Bool) (n : Numbers) (held : Held) (root : Root) (at len : ℕ) : Type 0 where
  pub some : 0 < n.page
  pub inside : at + len ≤ root.length
  pub sized : AllSized tells n.page held
  pub told : IsTrue tells → IsToldRead n held root

-- what the search for the segments did
pub record IsSearched (tells : Bool) (n : Numbers) (held : Held) (root : Root) (len : ℕ) (cache : KeptNodes) (old new : Meter)
    : Type 0 where
  pub nodes : KeepsNodes tells n.page (bytes_on held) cache
  pub used : IsUsed old new
  pub written : new.written ≡ old.written
  pub few : IsTrue tells → (threshold : ℕ) → Packed n.page threshold (tree_at held root) →
      new.read ≤ old.read + read_cost n len root.height threshold

entries-whole : (tells : Bool) (n : Numbers) (held : Held) (root : Root) (at len : ℕ) → IsReadable tells n held root at len → IsTrue tells →
    AllByRecursion (IsWhole (bytes_on held) n.page) (tree_at held root)
entries-whole tells n held root at len readable tell =
    let told = readable.told tell in
    whole-segments tells n held (tree_at held root) readable.some readable.sized tell told.tree.segments told.segments

pub searched-of : (tells : Bool) (n : Numbers) (held : Held) (root : Root) (at len : ℕ) (before cache : KeptNodes) (old new : Meter) →
    IsReadable tells n held root at len → old.page ≡ n.page →
    Searches tells old.page (bytes_on held) (nodes_in_range (bytes_on held) at (at + len) root.height (top_of root at (at + len)))
    before cache old new → IsSearched tells n held root len cache old new
searched-of tells n held root at len before cache old new readable page searches = record {
  nodes = subst (λ (size : ℕ). KeepsNodes tells size (bytes_on held) cache) page searches.nodes;
  used = searches.uses.used;
  written = searches.uses.written;
  few = λ tell threshold packed.
      let have = have-bytes (bytes_on held) n.page (tree_at held root) (entries-whole tells n held root at len readable tell) in
      let cheap = nodes-cheap n held root at len threshold readable.some (readable.told tell).tree.shape have packed readable.inside in
      omega (arith, searches.few tell, cheap);
}

fail-is : (fail : LookFail) → ◌≡◌ {A = Result (List ℕ) LookFail} (Err fail) (Err look.Fault) → fail ≡ look.Fault
fail-is look.Fault same = refl
fail-is look.Memory same = absurd cc

-- no byte is read
pub read-nothing : (tells : Bool) (n : Numbers) (held : Held) (root : Root) (at len : ℕ) (cache : KeptNodes) (meter : Meter) → len ≡ 0 →
    KeepsNodes tells n.page (bytes_on held) cache → ReadsTree tells n held root at len cache meter meter (Ok [])
read-nothing tells n held root at len cache meter none nodes = record {
  nodes = nodes;
  long = sym none;
  bytes = λ tell. sym (ap (λ k. take k (drop at (content (bytes_on held) n.page (tree_at held root)))) none);
  reads = λ tell threshold packed. record {
    pages = 0;
    allowed = omega arith;
    none = refl;
    most = omega arith;
  };
  port = used-not meter;
  cause = cause-none meter.faults (◌≡◌ {A = Result (List ℕ) LookFail} (Ok []) (Err look.Fault)) (λ same. absurd cc);
  memory = λ same. absurd cc;
}

-- the read ends with the search
pub search-ends : (tells : Bool) (n : Numbers) (held : Held) (root : Root) (at len : ℕ) (cache : KeptNodes) (old new : Meter)
    (fail : LookFail) → IsSearched tells n held root len cache old new → HasCause old.faults new.faults (fail ≡ look.Fault) → 0 < len →
    ReadsTree tells n held root at len cache old new (Err fail)
search-ends tells n held root at len cache old new fail searched cause more = record {
  nodes = searched.nodes;
  long = tt;
  bytes = λ tell. tt;
  reads = λ tell threshold packed. record {
    pages = read_cost n len root.height threshold;
    allowed = omega arith;
    none = searched.written;
    most = searched.few tell threshold packed;
  };
  port = searched.used;
  cause = record {
    kept = cause.kept;
    raised = λ failed. cause.raised (fail-is fail failed);
    still = λ well. cause.still (λ same. well (ap (λ (f : LookFail). Err f) same));
  };
  memory = λ wanted. more;
}

-- where segments aren't held the device doesn't tell, and is blamed
pub read-blamed : (tells : Bool) (n : Numbers) (held : Held) (root : Root) (at len : ℕ) (cache : KeptNodes) (old middle new : Meter) →
    IsSearched tells n held root len cache old middle → (IsTrue tells → ⊥) → middle.faults ≡ old.faults →
    new ≡ record middle { faults = new.faults } → middle.faults ≤ new.faults → Rose middle.faults new.faults →
    ReadsTree tells n held root at len cache old new (Err look.Fault)
read-blamed tells n held root at len cache old middle new searched silent same counts kept rose = record {
  nodes = searched.nodes;
  long = tt;
  bytes = λ tell. absurd (silent tell);
  reads = λ tell. absurd (silent tell);
  port = IsUsed-then old middle new searched.used (Reads-blame new.faults middle new counts kept).used;
  cause = HasCause-found (Err look.Fault ≡ Err look.Fault) old.faults middle.faults new.faults same kept rose refl;
  memory = λ wanted. absurd cc;
}

-- ---- the bytes

all-placed : (P : Pair → Type 0) (segments : List Placed) → AllByRecursion P (pairs_of segments) → AllByRecursion (λ s. P s.pair) segments
all-placed P [] all = tt
all-placed P (s ∷ ss) all = (all.0, all-placed P ss all.1)

-- the segments that a search in a told tree finds are held
pub found-held : (n : Numbers) (held : Held) (root : Root) (at len : ℕ) (segments : List Placed) → IsToldRead n held root →
    segments ≡ in_range at (at + len) 0 (tree_at held root) → AllByRecursion (λ s. IsHeldSegment n held s.pair) segments
found-held n held root at len segments told is =
    subst (AllByRecursion (λ (s : Placed). IsHeldSegment n held s.pair)) (sym is)
    (all-placed (IsHeldSegment n held) (in_range at (at + len) 0 (tree_at held root))
    (AllByRecursion-in_range (IsHeldSegment n held) at (at + len) 0 (tree_at held root) told.segments))

-- their bytes are those of the tree's
found-bytes : (tells : Bool) (n : Numbers) (held : Held) (root : Root) (at len : ℕ) (segments : List Placed) →
    IsReadable tells n held root at len → IsTrue tells → segments ≡ in_range at (at + len) 0 (tree_at held root) →
    take len (drop (at - start_of segments) (content (bytes_on held) n.page (pairs_of segments)))
    ≡ take len (drop at (content (bytes_on held) n.page (tree_at held root)))
found-bytes tells n held root at len segments readable tell is = elim (cases_lt 0 len) [
  | inl some ↦
      let first : at - 0 ≡ at = omega arith in
      ap (λ (ss : List Placed). take len (drop (at - start_of ss) (content (bytes_on held) n.page (pairs_of ss)))) is
      ∙ (range-bytes (bytes_on held) n.page at len 0 (tree_at held root) (entries-whole tells n held root at len readable tell)
      (omega arith)
      (omega (arith, some))
      ∙ ap (λ (k : ℕ). take len (drop k (content (bytes_on held) n.page (tree_at held root)))) first)
  | inr none ↦
      let zero : len ≡ 0 = omega (arith, none) in
      subst (λ (k : ℕ). take k (drop (at - start_of segments) (content (bytes_on held) n.page (pairs_of segments)))
      ≡ take k (drop at (content (bytes_on held) n.page (tree_at held root)))) (sym zero) refl
]

-- what the read of the bytes added
pub record IsFetched (tells : Bool) (n : Numbers) (held : Held) (root : Root) (at len : ℕ) (segments : List Placed)
    (old middle new : Meter) : Type 0 where
  pub found : IsTrue tells → segments ≡ in_range at (at + len) 0 (tree_at held root)
  pub level : IsTrue tells → middle.read ≤ old.read + root.height * length segments
  pub still : middle.faults ≡ old.faults
  pub reads : Reads (touched n.page (pairs_of segments) (at - start_of segments) len) middle new

fetched-cost : (tells : Bool) (n : Numbers) (held : Held) (root : Root) (at len : ℕ) (segments : List Placed) (old middle new : Meter)
    (threshold : ℕ) → IsReadable tells n held root at len → IsFetched tells n held root at len segments old middle new → IsTrue tells →
    Packed n.page threshold (tree_at held root) → new.read ≤ old.read + read_cost n len root.height threshold
fetched-cost tells n held root at len segments old middle new threshold readable fetched tell packed =
    let have = have-bytes (bytes_on held) n.page (tree_at held root) (entries-whole tells n held root at len readable tell) in
    let cheap = subst (λ (ss : List Placed). root.height * length ss + touched n.page (pairs_of ss) (at - start_of ss) len
    ≤ read_cost n len root.height threshold) (sym (fetched.found tell))
    (read-cheap n root.height threshold (tree_at held root) at len readable.some have packed) in
    omega (arith, cheap, fetched.level tell, fetched.reads.most)

-- the read of the bytes failed
pub fetch-failed : (tells : Bool) (n : Numbers) (held : Held) (root : Root) (at len : ℕ) (segments : List Placed) (cache : KeptNodes)
    (old middle new : Meter) → IsReadable tells n held root at len → IsSearched tells n held root len cache old middle →
    IsFetched tells n held root at len segments old middle new → Rose middle.faults new.faults → middle.faults ≤ new.faults →
    ReadsTree tells n held root at len cache old new (Err look.Fault)
fetch-failed tells n held root at len segments cache old middle new readable searched fetched rose kept = record {
  nodes = searched.nodes;
  long = tt;
  bytes = λ tell. tt;
  reads = λ tell threshold packed. record {
    pages = read_cost n len root.height threshold;
    allowed = omega arith;
    none = fetched.reads.written ∙ searched.written;
    most = fetched-cost tells n held root at len segments old middle new threshold readable fetched tell packed;
  };
  port = IsUsed-then old middle new searched.used fetched.reads.used;
  cause = HasCause-found (Err look.Fault ≡ Err look.Fault) old.faults middle.faults new.faults fetched.still kept rose refl;
  memory = λ wanted. absurd cc;
}

-- or gave them
pub fetch-done : (tells : Bool) (n : Numbers) (held : Held) (root : Root) (at len : ℕ) (segments : List Placed) (cache : KeptNodes)
    (old middle new : Meter) (bytes : List ℕ) → IsReadable tells n held root at len →
    IsSearched tells n held root len cache old middle → IsFetched tells n held root at len segments old middle new →
    new.faults ≡ middle.faults → length bytes ≡ len →
    (IsTrue tells → bytes ≡ take len (drop (at - start_of segments) (content (bytes_on held) n.page (pairs_of segments)))) →
    ReadsTree tells n held root at len cache old new (Ok bytes)
fetch-done tells n held root at len segments cache old middle new bytes readable searched fetched well long given = record {
  nodes = searched.nodes;
  long = long;
  bytes = λ tell. given tell ∙ found-bytes tells n held root at len segments readable tell (fetched.found tell);
  reads = λ tell threshold packed. record {
    pages = read_cost n len root.height threshold;
    allowed = omega arith;
    none = fetched.reads.written ∙ searched.written;
    most = fetched-cost tells n held root at len segments old middle new threshold readable fetched tell packed;
  };
  port = IsUsed-then old middle new searched.used fetched.reads.used;
  cause = record {
    kept = omega (arith, fetched.still, well);
    raised = λ failed. absurd cc;
    still = λ none. well ∙ fetched.still;
  };
  memory = λ wanted. absurd cc;
}

-- want of memory, with no fault
pub memory-cause : (old new : ℕ) → new ≡ old → HasCause old new (look.Memory ≡ look.Fault)
memory-cause old new same = record { kept = omega (arith, same); raised = λ failed. absurd cc; still = λ well. same }

-- the pages of segments that are held
pub holds-all : (n : Numbers) (held : Held) (size : ℕ) (segments : List Placed) → size ≡ n.page →
    AllByRecursion (λ s. IsHeldSegment n held s.pair) segments → HoldsSegments held size segments
holds-all n held size [] page all = tt
holds-all n held size (s ∷ ss) page all = (
  subst (λ (k : ℕ). HoldsBytes held k s.pair.page s.pair.bytes) (sym page) all.0.run,
  holds-all n held size ss page all.1,
)

-- a vector in place of whose items others were written has just those
pub out-only : (out items result : List ℕ) (size : ℕ) → size ≡ length out →
    result ≡ take size (out ++ drop (length out) items) → result ≡ out
out-only out items result size long is =
    is ∙ (ap (λ (k : ℕ). take k (out ++ drop (length out) items)) long ∙ take-append_seam out (drop (length out) items))

-- what was read of a slice, by other names of it
pub reads-as : (n : Numbers) (at len size count : ℕ) (slice segments : List Placed) (middle new : Meter) → size ≡ n.page →
    slice ≡ segments → count ≡ len → Reads (touched size (pairs_of slice) (at - start_of slice) count) middle new →
    Reads (touched n.page (pairs_of segments) (at - start_of segments) len) middle new
reads-as n at len size count slice segments middle new page same long reads =
    subst (λ (k : ℕ). Reads (touched n.page (pairs_of segments) (at - start_of segments) k) middle new) long
    (subst (λ (ss : List Placed). Reads (touched n.page (pairs_of ss) (at - start_of ss) count) middle new) same
    (subst (λ (k : ℕ). Reads (touched k (pairs_of slice) (at - start_of slice) count) middle new) page reads))

pub bytes-as : (n : Numbers) (held : Held) (at len size count : ℕ) (slice segments : List Placed) (out : List ℕ) → size ≡ n.page →
    slice ≡ segments → count ≡ len →
    out ≡ take count (drop (at - start_of slice) (content (bytes_on held) size (pairs_of slice))) →
    out ≡ take len (drop (at - start_of segments) (content (bytes_on held) n.page (pairs_of segments)))
bytes-as n held at len size count slice segments out page same long is =
    is ∙ (ap (λ (k : ℕ). take count (drop (at - start_of slice) (content (bytes_on held) k (pairs_of slice)))) page
    ∙ (ap (λ (ss : List Placed). take count (drop (at - start_of ss) (content (bytes_on held) n.page (pairs_of ss)))) same
    ∙ ap (λ (k : ℕ). take k (drop (at - start_of segments) (content (bytes_on held) n.page (pairs_of segments)))) long))
