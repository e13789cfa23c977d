-- What a read of an object does, from what it does to its tree.
use Rattle.std.proofs.Common.{◌≡◌, ℕ, ◌+◌, ◌<◌, ◌≤◌, Bool, true, IsTrue, List, length, take, drop, Some, IfSome, nat_le}
use Rattle.std.proofs.Common.{refl, sym, ap, subst, arith, ◌∙◌, if◌then◌else◌}
use Rattle.std.specs.Prelude.{Result}
use Rattle.std.proofs.lemmas.Bool.{le-leb, lt-ltb}
use Rattle.base_laws.proofs.ResultLaws.{if_ok}
use Rattle.base_laws.proofs.OptionLaws.{some-inner}
use Rattle.eos_ops.specs.declared.reply.Reply.TheVariants as reply
use Rattle.eos_ops.specs.Objects.{read_in}
use Rattle.eos_ops.specs.Splice.{part}
use Rattle.fault_count.specs.Counts.{Meter}
use Rattle.tree_model.specs.Content.{content}
use Rattle.tree_model.specs.Tree.{IsTreeOf}
use Rattle.layout_model.specs.Pack.{Packed}
use Rattle.moment_model.specs.Costs.{read_cost}
use Rattle.moment_model.specs.Version.{IsGood, IsGoodVersion, version_uses}
use Rattle.moment_model.specs.Moment.{either_uses}
use Rattle.tree_pages.specs.Entry.{Entry, Present}
use Rattle.tree_pages.specs.Levels.{levels_at, version_at, plain_at}
use Rattle.tree_pages.proofs.TreeLemmas.{entry-segments, levels-entries, levels-length, tree-counts}
use Rattle.content_laws.proofs.SpellingLemmas.{content-length}
use Rattle.span_store.specs.Held.{bytes_on}
use Rattle.page_cache.specs.Kept.{KeptNodes}
use Rattle.tree_read.specs.Search.{KeepsNodes}
use Rattle.object_body.specs.declared.fails.LookFail.{LookFail}
use Rattle.object_body.specs.Calls.{IsBodyRead, IsWithin, ReadsWithin}
use Rattle.object_state.specs.Tree.{TreeView, tree_form, tree_slot, tree_contents}
use Rattle.object_body.specs.Form.{HaveLengths}
use Rattle.object_body.specs.Stored.{entry_length}
use Rattle.object_state.specs.Keeps.{KeepsTreeBody}
use Rattle.object_body.specs.Stored.{StandsOn}
use Rattle.object_state.specs.Kind.{tree_may_read}
use Rattle.object_state.specs.Reads.{IsToldRead, ReadsTree, tree_at}
use Rattle.object_state.proofs.ReadLemmas.{held-segments}
use Rattle.object_state.proofs.TiedLemmas.{full-pages, tree-tied}
use Rattle.object_body.proofs.HeldTreeLemmas.{AreFull, entry-there}

-- the object with other nodes in memory
abbrev pub with_cache : TreeView → KeptNodes → TreeView
with_cache v cache = record v { cache = cache }

pub cached-keeps : (tells : Bool) (v : TreeView) (cache : KeptNodes) → KeepsTreeBody tells v →
    KeepsNodes tells v.numbers.page (bytes_on v.held) cache → KeepsTreeBody tells (with_cache v cache)
cached-keeps tells v cache kept nodes = record {
  on_data = kept.on_data;
  sized = kept.sized;
  nodes = nodes;
  fresh = kept.fresh;
  locked = kept.locked;
  spare = kept.spare;
  spare_some = kept.spare_some;
  spare_there = kept.spare_there;
  spare_fresh = kept.spare_fresh;
  apart = kept.apart;
  committed_threshold = kept.committed_threshold;
  working_threshold = kept.working_threshold;
  told = λ tell.
      let told = kept.told tell in
      record {
        committed = told.committed;
        working = told.working;
        sound = told.sound;
        tail = told.tail;
        just = told.just;
        fresh = told.fresh;
        locked = told.locked;
      };
}

-- the working version is this tree
stands-here : (tells : Bool) (v : TreeView) (present : Present) → KeepsTreeBody tells v → v.working ≡ Some present → IsTrue tells →
    IsTreeOf v.numbers (bytes_on v.held) present.root (tree_at v.held present.root)
stands-here tells v present kept is tell = subst (StandsOn v.numbers (bytes_on v.held)) is (kept.told tell).working

pub told-read : (tells : Bool) (v : TreeView) (present : Present) → KeepsTreeBody tells v → v.working ≡ Some present → IsTrue tells →
    IsToldRead v.numbers v.held present.root
told-read tells v present kept is tell =
    let tree = stands-here tells v present kept is tell in
    record {
      tree = tree;
      segments = held-segments v.numbers v.held (tree_at v.held present.root) tree.segments (λ q some.
          let counted = entry-segments v.numbers q (bytes_on v.held) present in
          let used : 0 < version_uses v.numbers q (version_at (bytes_on v.held) (Some present)) = omega (arith, some, counted) in
          let here = subst (λ (e : Entry). 0 < version_uses v.numbers q (version_at (bytes_on v.held) e)) (sym is) used in
          (kept.told tell).just q ∙ lt-ltb 0 (either_uses v.numbers q (tree_slot v)) (omega (arith, here)));
    }

packed-here : (tells : Bool) (v : TreeView) (present : Present) → KeepsTreeBody tells v → v.working ≡ Some present → IsTrue tells →
    Packed v.numbers.page present.threshold (tree_at v.held present.root)
packed-here tells v present kept is tell =
    let good = subst (λ (e : Entry). IsGoodVersion IsGood v.numbers (version_at (bytes_on v.held) e)) is (kept.told tell).sound.working in
    subst (Packed v.numbers.page present.threshold) (levels-entries (bytes_on v.held) present.root.height present.root.page) good.neighbours

-- the bytes that the plain object reads
bytes-here : (tells : Bool) (v : TreeView) (present : Present) (at count : ℕ) (bytes : List ℕ) → 0 < v.numbers.page →
    KeepsTreeBody tells v →
    v.working ≡ Some present → IsTrue tells → at + count ≤ present.root.length →
    bytes ≡ take count (drop at (content (bytes_on v.held) v.numbers.page (tree_at v.held present.root))) →
    reply.Bytes bytes ≡ read_in at count (plain_at (bytes_on v.held) v.numbers.page v.working)
bytes-here tells v present at count bytes some kept is tell inside read =
    let pages = bytes_on v.held in
    let entries = tree_at v.held present.root in
    let x = content pages v.numbers.page entries in
    let full = subst (AreFull v.numbers pages) is (full-pages tells v kept tell).1 in
    let long : length x ≡ present.root.length =
    content-length pages v.numbers.page entries some (entry-there v.numbers pages present full)
    ∙ tree-counts v.numbers pages present.root entries (stands-here tells v present kept is tell) in
    let within : nat_le (at + count) (length x) ≡ true = le-leb (at + count) (length x) (omega (arith, inside, long)) in
    subst (λ (e : Entry). reply.Bytes bytes ≡ read_in at count (plain_at pages v.numbers.page e)) (sym is)
    (ap reply.Bytes read ∙ sym (ap (λ (b : Bool). if b then reply.Bytes (part x at count) else reply.Range (length x)) within))

-- the bound of the kind
reads-here : (v : TreeView) (present : Present) (count : ℕ) (used now : Meter) → v.working ≡ Some present →
    ReadsWithin (λ pages. pages ≤ read_cost v.numbers count present.root.height present.threshold) used now →
    ReadsWithin (tree_may_read v.numbers (tree_slot v) count) used now
reads-here v present count used now is reads =
    let height = levels-length (bytes_on v.held) present.root.height present.root.page in
    let here : reads.pages ≤ read_cost v.numbers count (length (levels_at (bytes_on v.held) present.root)) present.threshold =
    subst (λ (h : ℕ). reads.pages ≤ read_cost v.numbers count h present.threshold) (sym height) reads.allowed in
    record {
      pages = reads.pages;
      allowed = subst (λ (e : Entry). IfSome (version_at (bytes_on v.held) e) (λ tree.
          reads.pages ≤ read_cost v.numbers count (length tree.levels) tree.threshold)) (sym is) here;
      none = reads.none;
      most = reads.most;
    }

pub tree-reads : (tells : Bool) (v : TreeView) (present : Present) (cache : KeptNodes) (at count : ℕ) (used now : Meter)
    (result : Result (List ℕ) LookFail) → 0 < v.numbers.page → KeepsTreeBody tells v → v.working ≡ Some present →
    at + count ≤ present.root.length → ReadsTree tells v.numbers v.held present.root at count cache used now result →
    IsBodyRead tells HaveLengths tree_may_read at count result (tree_form v) (tree_form (with_cache v cache)) (tree_contents v)
    (tree_contents (with_cache v cache)) used now
tree-reads tells v present cache at count used now result some kept is inside reads = record {
  same = refl;
  count = reads.long;
  bytes = λ tell. if_ok result (λ bytes read. bytes-here tells v present at count bytes some kept is tell inside read) (reads.bytes tell);
  kept = λ tell. refl;
  reads = λ tell. reads-here v present count used now is (reads.reads tell present.threshold (packed-here tells v present kept is tell));
  port = reads.port;
  cause = reads.cause;
  memory = reads.memory;
  tied = tree-tied tells (with_cache v cache) some (cached-keeps tells v cache kept reads.nodes);
}

-- the bytes that are read lie within the working version
pub within-here : (v w : TreeView) (present : Present) (at count : ℕ) → v ≡ w → v.working ≡ Some present →
    IsWithin (tree_form w).working at count → at + count ≤ present.root.length
within-here v w present at count same is within =
    let bytes : within.bytes ≡ present.root.length =
    some-inner within.bytes present.root.length (sym within.present
    ∙ (ap (λ (x : TreeView). entry_length x.working) (sym same) ∙ ap entry_length is)) in
    omega (arith, bytes, within.range)
