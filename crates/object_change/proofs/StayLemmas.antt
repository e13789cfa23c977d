-- The working version and its plan stay where no page of theirs changes.
use Rattle.std.proofs.Common.{◌≡◌, ℕ, ◌+◌, ◌<◌, ◌≤◌, IsTrue, List, [], ◌∷◌, ◌++◌, length, map, take, drop, Option, Some}
use Rattle.std.proofs.Common.{refl, sym, ap, subst, arith, ◌∙◌}
use Rattle.std.specs.Prelude.{is_some, unwrap_or}
use Rattle.std.specs.List.{AllByRecursion}
use Rattle.std.proofs.lemmas.List.Concat.{flat_map-cons}
use Rattle.geometry_model.specs.Numbers.{Numbers}
use Rattle.tree_model.specs.declared.entry.Pair.{Pair}
use Rattle.tree_model.specs.Content.{content}
use Rattle.tree_model.specs.Tree.{Pages, IsTreeOf, bytes_of, page_count}
use Rattle.layout_model.specs.declared.change.Change.{Change}
use Rattle.layout_model.specs.Layout.{Tree, plan_of, tree_entries, wanted}
use Rattle.content_laws.specs.Spelling.{IsPacked, edited_content}
use Rattle.let_go_laws.specs.LetGo.{replaced_entries}
use Rattle.laid_content_laws.specs.Written.{behind_front}
use Rattle.moment_model.specs.Version.{version_uses}
use Rattle.change_laws.specs.Tail.{IsTail}
use Rattle.moment_model.specs.Version.{IsGood}
use Rattle.tree_pages.specs.Entry.{Present}
use Rattle.tree_pages.specs.Stored.{StaysOn}
use Rattle.tree_pages.proofs.FrameLemmas.{content-stays, levels-stay, tree_entries-stay}
use Rattle.tree_pages.proofs.TreeLemmas.{version-nodes, version_tree-stays}
use Rattle.edit_parts.specs.declared.piece.Piece.{Piece}
use Rattle.edit_parts.specs.declared.piece.Piece.TheVariants.{Old, Given}
use Rattle.edit_parts.specs.Parts.{layout_part, parts_content, pieces_of}
use Rattle.edit_parts.specs.Pieces.{piece_content, pieces_content}
use Rattle.span_store.specs.Held.{Held, bytes_on, has, page_at}
use Rattle.span_store.proofs.Runs.{run_bytes-same}
use Rattle.part_bytes.specs.Gathering.{CanGather}
use Rattle.object_plan.specs.declared.planned.Planned.{Planned}
use Rattle.object_plan.specs.declared.working_tree.WorkingTree.{WorkingTree}
use Rattle.object_plan.specs.Planned.{IsFrontOf, IsPlanOf}
use Rattle.object_plan.specs.WorkingTree.{IsToldWorking, entries_on, tree_on}

-- both pages show the same tree, with the same bytes
pub record SameTree (n : Numbers) (at now : Pages) (w : WorkingTree) : Type 0 where
  pub tree : tree_on now w ≡ tree_on at w
  pub entries : entries_on now w ≡ entries_on at w
  pub bytes : content now n.page (tree_entries (tree_on at w)) ≡ content at n.page (tree_entries (tree_on at w))

abbrev present_of : WorkingTree → Present
present_of w = record { root = w.root; threshold = w.threshold }

pub tree-same : (n : Numbers) (at now : Pages) (w : WorkingTree) → StaysOn n (Some (tree_on at w)) at now → SameTree n at now w
tree-same n at now w stays =
    let nodes = version-nodes n at now (present_of w) stays in
    record {
      tree = ap (λ ls. record { levels = ls; threshold = w.threshold }) (levels-stay at now w.root.height w.root.page nodes);
      entries = tree_entries-stay at now w.root.height w.root.page nodes;
      bytes = content-stays at now n.page (tree_entries (tree_on at w)) (λ page used. stays page (omega (arith, used)));
    }

-- the pages of the tree are those that are held
pub stays-on : (n : Numbers) (held now : Held) (w : WorkingTree) →
    ((q : ℕ) → 0 < version_uses n q (Some (tree_on (bytes_on held) w)) → page_at now q ≡ page_at held q) →
    StaysOn n (Some (tree_on (bytes_on held) w)) (bytes_on held) (bytes_on now)
stays-on n held now w same = λ q used. ap (λ (o : Option (List ℕ)). unwrap_or o []) (same q used)

pub working-stays : (n : Numbers) (held now : Held) (w : WorkingTree) → IsToldWorking n held w →
    ((q : ℕ) → 0 < version_uses n q (Some (tree_on (bytes_on held) w)) → page_at now q ≡ page_at held q) → IsToldWorking n now w
working-stays n held now w told same =
    let stays = stays-on n held now w same in
    let all = tree-same n (bytes_on held) (bytes_on now) w stays in
    record {
      tree = subst (IsTreeOf n (bytes_on now) w.root) (sym all.entries)
          (version_tree-stays n (bytes_on held) (bytes_on now) (present_of w) (entries_on (bytes_on held) w) stays told.tree);
      good = subst (IsGood n) (sym all.tree) told.good;
      tail = subst (λ (t : Tree). IsTail n (Some t) w.spare) (sym all.tree) told.tail;
      owned = λ q used.
          let was = subst (λ (t : Tree). 0 < version_uses n q (Some t)) all.tree used in
          ap is_some (same q was) ∙ told.owned q was;
    }

-- ---- pieces

piece-stays : (held now : Held) (size given : ℕ) (payload : List ℕ) (piece : Piece) →
    ((q : ℕ) → IsTrue (has held q) → page_at now q ≡ page_at held q) → CanGather held size given piece →
    piece_content (bytes_on now) size payload piece ≡ piece_content (bytes_on held) size payload piece
piece-stays held now size given payload (Old page skip bytes) same can =
    ap (λ (l : List ℕ). drop skip (take (skip + bytes) l))
    (run_bytes-same (bytes_on now) (bytes_on held) page (page_count size (skip + bytes))
    (λ q from to. ap (λ (o : Option (List ℕ)). unwrap_or o []) (same q (can.pages q from to))))
piece-stays held now size given payload (Given from bytes) same can = refl

pub pieces-stay : (held now : Held) (size given : ℕ) (payload : List ℕ) (pieces : List Piece) →
    ((q : ℕ) → IsTrue (has held q) → page_at now q ≡ page_at held q) → AllByRecursion (CanGather held size given) pieces →
    pieces_content (bytes_on now) size payload pieces ≡ pieces_content (bytes_on held) size payload pieces
pieces-stay held now size given payload [] same can = refl
pieces-stay held now size given payload (piece ∷ pieces) same can =
    flat_map-cons (piece_content (bytes_on now) size payload) piece pieces
    ∙ (ap (λ (l : List ℕ). l ++ pieces_content (bytes_on now) size payload pieces) (piece-stays held now size given payload piece same
    can.0)
    ∙ (ap (λ (l : List ℕ). piece_content (bytes_on held) size payload piece ++ l)
    (pieces-stay held now size given payload pieces same can.1)
    ∙ sym (flat_map-cons (piece_content (bytes_on held) size payload) piece pieces)))

-- ---- the plan

-- the edited bytes, on pages that show the same
pub edited-same : (size : ℕ) (at now : Pages) (entries : List Pair) (change : Change) (payload : List ℕ) →
    content now size entries ≡ content at size entries → edited_content now size entries change payload ≡ edited_content at size entries
    change payload
edited-same size at now entries change payload same =
    ap (λ (l : List ℕ). take change.at l ++ (payload ++ drop (change.at + change.removed) l)) same

pub plan-stays : (n : Numbers) (held now : Held) (w : WorkingTree) (p : Planned) →
    SameTree n (bytes_on held) (bytes_on now) w → ((q : ℕ) → IsTrue (has held q) → page_at now q ≡ page_at held q) →
    (IsPacked p.fit → AllByRecursion (CanGather held n.page p.change.added) (pieces_of p.parts.items)) →
    IsPlanOf n (bytes_on held) w p → IsPlanOf n (bytes_on now) w p
plan-stays n held now w p same stay can plan =
    let old = tree_on (bytes_on held) w in
    record {
      few = subst (λ (t : Tree). (plan_of n t w.spare p.change).from + (plan_of n t w.spare p.change).count ≤ length (tree_entries t))
          (sym same.tree) plan.few;
      first = subst (λ (t : Tree). p.from ≡ bytes_of (take (plan_of n t w.spare p.change).from (tree_entries t))) (sym same.tree)
          plan.first;
      last = subst (λ (t : Tree). p.to ≡ bytes_of (take ((plan_of n t w.spare p.change).from + (plan_of n t w.spare p.change).count)
          (tree_entries t))) (sym same.tree) plan.last;
      replaced = subst (λ (t : Tree). p.replaced.items ≡ replaced_entries (tree_entries t) (plan_of n t w.spare p.change)) (sym same.tree)
          plan.replaced;
      parts = subst (λ (t : Tree). map layout_part p.parts.items ≡ (plan_of n t w.spare p.change).parts) (sym same.tree) plan.parts;
      fit = subst (λ (t : Tree). p.fit ≡ (plan_of n t w.spare p.change).fit) (sym same.tree) plan.fit;
      requests = subst (λ (t : Tree). p.requests.items ≡ wanted n t p.change (plan_of n t w.spare p.change)) (sym same.tree) plan.requests;
      spells = λ packed payload paid.
          let was = plan.spells packed payload paid in
          let pieces = pieces-stay held now n.page p.change.added payload (pieces_of p.parts.items) stay (can packed) in
          let edited = edited-same n.page (bytes_on held) (bytes_on now) (tree_entries old) p.change payload same.bytes in
          subst (λ (t : Tree). IsFrontOf (parts_content (bytes_on now) n.page payload p.parts.items)
          (behind_front (tree_entries t) (plan_of n t w.spare p.change) (edited_content (bytes_on now) n.page (tree_entries t)
          p.change payload)))
          (sym same.tree) (
            was.0,
            ap (λ (l : List ℕ). l ++ was.0) pieces
                ∙ (was.1 ∙ ap (λ (l : List ℕ). behind_front (tree_entries old) (plan_of n old w.spare p.change) l) (sym edited)),
          );
    }
