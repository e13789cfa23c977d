-- Once the new bytes are put: what the exchange of the entries asks for.
use Rattle.std.proofs.Common.{◌≡◌, ℕ, ◌+◌, ◌/◌, ◌<◌, ◌^◌, Bool, IsTrue, List, map, sym, subst, ◌∙◌}
use Rattle.std.specs.Prelude.{Ok}
use Rattle.fault_count.specs.Counts.{Meter}
use Rattle.geometry_model.specs.Numbers.{Numbers, IsInRange}
use Rattle.tree_model.specs.Node.{room_of}
use Rattle.tree_model.specs.Tree.{IsTree, bytes_of}
use Rattle.content_laws.specs.Spelling.{HaveBytes}
use Rattle.layout_model.specs.declared.extent.Extent.{Extent}
use Rattle.layout_laws.specs.Merging.{parts_bytes}
use Rattle.node_codec.specs.PairList.{PairList}
use Rattle.page_cache.specs.Kept.{KeptNodes}
use Rattle.edit_parts.specs.Parts.{layout_part}
use Rattle.span_store.specs.Held.{Held, bytes_on}
use Rattle.tree_read.specs.Search.{AsksSearch, KeepsNodes}
use Rattle.tree_splice.specs.Splice.{IsBetween}
use Rattle.object_plan.specs.declared.planned.Planned.{Planned}
use Rattle.object_plan.specs.declared.working_tree.WorkingTree.{WorkingTree}
use Rattle.object_plan.specs.WorkingTree.{entries_on}
use Rattle.object_change.specs.Scene.{Scene}
use Rattle.object_change.specs.Steps.{CanChangeOn, PutsNewBytes, its_plan}
use Rattle.object_change.proofs.ChangeLemmas.{entries-all, entries-fit, plan-between, put-tree, put-working}
use Rattle.object_change.proofs.LaidLemmas.{HaveAll}

-- the new bytes were put, so that these entries stand for the parts
pub record HasPut (tells : Bool) (n : Numbers) (start : ℕ) (w : WorkingTree) (p : Planned) (payload counts : List ℕ) (runs : List Extent)
    (s : Scene) (entries : PairList) (put : Held) (nodes : KeptNodes) (mid : Meter) : Type 0 where
  pub range : IsInRange n
  pub can : CanChangeOn tells n start w p payload counts runs s
  pub puts : PutsNewBytes tells n w.spare p payload counts runs (Ok entries) s.held put s.meter mid
  pub right : KeepsNodes tells n.page (bytes_on put) nodes

pub put-size : {tells : Bool} {n : Numbers} {start : ℕ} {w : WorkingTree} {p : Planned} {payload counts : List ℕ} {runs : List Extent}
    {s : Scene} {entries : PairList} {put : Held} {nodes : KeptNodes} {mid : Meter} →
    HasPut tells n start w p payload counts runs s entries put nodes mid → mid.page ≡ n.page
put-size has = has.puts.used.page ∙ has.can.put.page

put-all : {tells : Bool} {n : Numbers} {start : ℕ} {w : WorkingTree} {p : Planned} {payload counts : List ℕ} {runs : List Extent}
    {s : Scene} {entries : PairList} {put : Held} {nodes : KeptNodes} {mid : Meter} →
    HasPut tells n start w p payload counts runs s entries put nodes mid →
    HaveAll (parts_bytes (map layout_part p.parts.items)) entries.items
put-all {tells} {n} {start} {w} {p} {payload} {counts} {runs} {s} {entries} {put} {nodes} {mid} has =
    subst (HaveAll (parts_bytes (map layout_part p.parts.items))) (sym has.puts.entries)
    (entries-all tells n w p payload counts runs s.held s.meter has.range has.can.change has.can.put)

pub put-sum : {tells : Bool} {n : Numbers} {start : ℕ} {w : WorkingTree} {p : Planned} {payload counts : List ℕ} {runs : List Extent}
    {s : Scene} {entries : PairList} {put : Held} {nodes : KeptNodes} {mid : Meter} →
    HasPut tells n start w p payload counts runs s entries put nodes mid → w.root.length + bytes_of entries.items < 2 ^ 64
put-sum {tells} {n} {start} {w} {p} {payload} {counts} {runs} {s} {entries} {put} {nodes} {mid} has =
    entries-fit n s.held w p entries.items has.can.change has.can.put.plan (put-all has)

pub put-some : {tells : Bool} {n : Numbers} {start : ℕ} {w : WorkingTree} {p : Planned} {payload counts : List ℕ} {runs : List Extent}
    {s : Scene} {entries : PairList} {put : Held} {nodes : KeptNodes} {mid : Meter} →
    HasPut tells n start w p payload counts runs s entries put nodes mid → HaveBytes entries.items
put-some has = (put-all has).some

pub put-asks : {tells : Bool} {n : Numbers} {start : ℕ} {w : WorkingTree} {p : Planned} {payload counts : List ℕ} {runs : List Extent}
    {s : Scene} {entries : PairList} {put : Held} {nodes : KeptNodes} {mid : Meter} →
    HasPut tells n start w p payload counts runs s entries put nodes mid →
    AsksSearch tells mid.page put nodes (IsTree (bytes_on put) (room_of mid.page / 2) w.root.height w.root.page w.root.length)
put-asks {tells} {n} {start} {w} {p} {payload} {counts} {runs} {s} {entries} {put} {nodes} {mid} has =
    subst (λ (k : ℕ). AsksSearch tells k put nodes (IsTree (bytes_on put) (room_of k / 2) w.root.height w.root.page w.root.length))
    (sym (put-size has))
    (record {
      pages = record { size_is = has.range.page_size; sized = has.puts.others.sized };
      nodes = has.right;
      stands = λ t. (put-working tells n start w p payload counts runs s put has.can t has.puts.others).tree.shape;
    })

pub put-borders : {tells : Bool} {n : Numbers} {start : ℕ} {w : WorkingTree} {p : Planned} {payload counts : List ℕ} {runs : List Extent}
    {s : Scene} {entries : PairList} {put : Held} {nodes : KeptNodes} {mid : Meter} →
    HasPut tells n start w p payload counts runs s entries put nodes mid → IsTrue tells →
    (k many : ℕ) × IsBetween (entries_on (bytes_on put) w) p.from p.to k many
put-borders {tells} {n} {start} {w} {p} {payload} {counts} {runs} {s} {entries} {put} {nodes} {mid} has t = (
  (its_plan n (bytes_on s.held) w p).from,
  (its_plan n (bytes_on s.held) w p).count,
  plan-between n (bytes_on s.held) (bytes_on put) w p (has.can.told t).1
      (put-tree tells n start w p payload counts runs s put has.can t has.puts.others),
)
