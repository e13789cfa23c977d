-- A change that was made: the pages that it was granted, and what the object is afterwards.
use Rattle.std.specs.Prelude.{◌≡◌, ℕ, ◌+◌, ◌≤◌, List, [], ◌∷◌, ◌++◌, ◌⊎◌, length, map, sum}
use Rattle.std.specs.Prelude.{Some, IfSome}
use Rattle.std.specs.List.{AllByRecursion}
use Rattle.geometry_model.specs.Numbers.{Numbers}
use Rattle.tree_model.specs.Content.{content}
use Rattle.tree_model.specs.Tree.{Pages, IsTreeOf}
use Rattle.layout_model.specs.declared.change.Change.{Change}
use Rattle.layout_model.specs.declared.extent.Extent.{Extent}
use Rattle.layout_model.specs.Layout.{Grants, Laid, laid, laid_entries, spare_after}
use Rattle.layout_model.specs.Plan.{Plan}
use Rattle.content_laws.specs.Spelling.{edited_content}
use Rattle.moment_model.specs.Version.{uses, version_uses, spare_uses}
use Rattle.moment_laws.specs.Granting.{LiesInSpace, granted_runs}
use Rattle.change_laws.specs.Laying.{IsLaidOn}
use Rattle.let_go_laws.specs.LetGo.{AreGone, spare_run}
use Rattle.edit_parts.specs.Parts.{layout_part}
use Rattle.part_store.specs.Asking.{AreOfAll, rows}
use Rattle.tree_splice.specs.Splice.{extent_of, firsts_of, single_run}
use Rattle.object_plan.specs.declared.planned.Planned.{Planned}
use Rattle.object_plan.specs.declared.working_tree.WorkingTree.{WorkingTree}
use Rattle.object_plan.specs.WorkingTree.{entries_on, tree_on}
use Rattle.object_change.specs.declared.changed.Changed.{Changed}

-- the pages that were granted, as the layout has them: the runs of each made part, and a page for
-- each made node
abbrev pub grants_in : Changed → Grants
grants_in c = record { runs = rows c.counts.items c.runs.items; pages = firsts_of c.made }

-- all of them as runs
abbrev pub granted_in : Changed → List Extent
granted_in c = granted_runs (grants_in c)

-- the working version afterwards
abbrev pub working_after : WorkingTree → Changed → WorkingTree
working_after w c = record { root = c.root; threshold = w.threshold; spare = c.spare }

-- and as the layout has it
abbrev pub laid_after : Pages → WorkingTree → Changed → Laid
laid_after at w c = record { tree = tree_on at (working_after w c); spare = c.spare }

-- a plan's parts as the layout has them; its entries are named by bytes, and not by their numbers
abbrev pub parts_plan : Planned → Plan
parts_plan p = record {
  from = 0;
  count = 0;
  parts = map layout_part p.parts.items;
  fit = p.fit;
}

-- the run has the last pages of this one, or just its pages
abbrev pub IsEndOf : Extent → Extent → Type 0
IsEndOf run end = (run.page ≤ end.page) × (end.page + end.pages ≡ run.page + run.pages)

-- so it is with one of these runs
abbrev pub IsEndOfOne : List Extent → Extent → Type 0
IsEndOfOne [] end = ⊥
IsEndOfOne (run ∷ runs) end = IsEndOf run end ⊎ IsEndOfOne runs end

-- What a change leaves over every device. The entries and the spare are those of the definition on
-- the runs that were granted, which are as long as the parts ask, each in one space; and the new
-- length is the old one without what was removed, and with what was brought.
pub record HasChanged (n : Numbers) (w : WorkingTree) (p : Planned) (c : Changed) : Type 0 where
  pub entries : c.entries.items ≡ laid_entries n w.spare (parts_plan p) (grants_in c).runs
  pub spare : c.spare ≡ spare_after n w.spare p.change (parts_plan p) (grants_in c).runs
  pub spare_from : IfSome c.spare (λ end. (1 ≤ end.pages)
      × IsEndOfOne (spare_run w.spare ++ granted_in c) end)
  pub total : c.root.length + p.change.removed ≡ w.root.length + p.change.added
  pub whole : sum c.counts.items ≡ length c.runs.items
  pub suited : AreOfAll w.threshold p.requests.items
      (rows c.counts.items (map (λ run. run.pages) c.runs.items))
  pub together : AllByRecursion (LiesInSpace n) (granted_in c)
  pub single : c.made ≡ map single_run (firsts_of c.made)

-- What it leaves where the pages are told, which were `old` before.
pub record IsToldChange (n : Numbers) (old new : Pages) (w : WorkingTree) (change : Change)
    (payload : List ℕ) (c : Changed) : Type 0 where
  -- the tree and the spare are those that the definition lays out on the granted pages
  pub laid_is : laid n (tree_on old w) w.spare change (grants_in c) ≡ laid_after new w c
  -- it is a good tree with its spare behind it, on pages that were its own or granted
  pub good : IsLaidOn n (tree_on old w) w.spare (granted_in c) (laid_after new w c)
  pub tree : IsTreeOf n new c.root (entries_on new (working_after w c))
  -- each granted page is used
  pub used : (page : ℕ) → uses page (granted_in c)
      ≤ version_uses n page (Some (tree_on new (working_after w c))) + spare_uses page c.spare
  -- its bytes are the edited ones
  pub bytes : content new n.page (entries_on new (working_after w c))
      ≡ edited_content old n.page (entries_on old w) change payload
  -- the nodes that are left out are those that the new tree doesn't have
  pub gone : AreGone (tree_on old w) (tree_on new (working_after w c)) (firsts_of c.made)
      (map extent_of c.left)
