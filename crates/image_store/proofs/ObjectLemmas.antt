-- An object at rest, on the pages of the device that its own came back to.
use Rattle.std.proofs.Common.{◌≡◌, ℕ, ◌<◌, Bool, IsTrue, refl, sym, ap, subst, ◌∙◌, arith}
use Rattle.std.proofs.Common.{Some, None}
use Rattle.std.proofs.lemmas.Bool.{lt-ltb}
use Rattle.geometry_model.specs.Numbers.{Numbers}
use Rattle.tree_model.specs.declared.tree.Root.{Root}
use Rattle.tree_model.specs.Tree.{Pages, entries_of}
use Rattle.moment_model.specs.Version.{Version, version_uses}
use Rattle.moment_model.specs.Moment.{IsAtRest, either_uses, committed_uses}
use Rattle.tree_pages.specs.Entry.{Entry}
use Rattle.tree_pages.specs.Levels.{version_at, plain_at, version_plain}
use Rattle.tree_pages.specs.Stored.{AreWithin, HasLevels, StaysOn}
use Rattle.tree_pages.proofs.TreeLemmas.{tree-levels, version-stays, plain-stays, version_tree-stays, entry-plain}
use Rattle.span_store.specs.Held.{bytes_on, has}
use Rattle.object_body.specs.Stored.{StandsOn}
use Rattle.closing_laws.specs.Closed.{version_entry, IsStored}
use Rattle.store_parts.specs.Parts.{StoredView, IsAtHand}

-- an object whose pages hold what it held is closed there
pub record IsClosedObject (n : Numbers) (at : Pages) (x : StoredView) : Type 0 where
  pub entry : x.entry ≡ version_entry x.told.slot.committed
  pub stored : IsStored at x.told.slot.committed
  pub plain : x.told.working ≡ version_plain at n.page x.told.slot.committed

-- by cases on what is kept of it
entry-closed : (n : Numbers) (at now : Pages) (x : StoredView) (entry : Entry) → x.entry ≡ entry → StandsOn n at entry →
    AreWithin n.page now →
    StaysOn n (version_at at entry) at now → x.told.slot.committed ≡ version_at at entry → x.told.working ≡ plain_at at n.page entry →
    IsClosedObject n now x
entry-closed n at now x None is tree within stays version bytes = record {
  entry = is ∙ ap version_entry (sym version);
  stored = subst (IsStored now) (sym version) tt;
  plain = bytes ∙ ap (version_plain now n.page) (sym version);
}
entry-closed n at now x (Some present) is tree within stays version bytes =
    let entries = entries_of at present.root.height present.root.page in
    let moved : version_at now (Some present) ≡ version_at at (Some present) = version-stays n at now (Some present) stays in
    let here : x.told.slot.committed ≡ version_at now (Some present) = version ∙ sym moved in
    let levels : HasLevels n now present.root entries =
    tree-levels n now present.root entries within (version_tree-stays n at now present entries stays tree) in
    let back : version_entry (version_at now (Some present)) ≡ Some present =
    ap (λ (root : Root). let entry : Entry = Some (record { root = root; threshold = present.threshold }) in entry) levels.back in
    record {
      entry = is ∙ sym (ap version_entry here ∙ back);
      stored = subst (IsStored now) (sym here) levels.stored;
      plain = bytes ∙ (sym (plain-stays n at now (Some present) stays)
          ∙ (entry-plain now n.page (Some present) ∙ ap (version_plain now n.page) (sym here)));
    }

pub object-closed : (tells : Bool) (n : Numbers) (now : Pages) (x : StoredView) → IsTrue tells → IsAtHand tells n x →
    IsAtRest x.told.slot → AreWithin n.page now →
    ((page : ℕ) → IsTrue (has x.pages page) → now page ≡ bytes_on x.pages page) → IsClosedObject n now x
object-closed tells n now x tell hand rests within shown =
    let at = bytes_on x.pages in
    let keeps = hand.keeps in
    let version : x.told.slot.committed ≡ version_at at x.entry = sym rests.same ∙ keeps.version tell in
    let stays : StaysOn n (version_at at x.entry) at now = λ q used.
    let in_version : 0 < committed_uses n q x.told.slot = subst (λ (v : Version). 0 < version_uses n q v) (sym version) used in
    let either : 0 < either_uses n q x.told.slot = omega (arith, in_version) in
    let in_store : 0 < either_uses x.form.numbers q x.told.slot =
    subst (λ (m : Numbers). 0 < either_uses m q x.told.slot) (sym hand.numbers) either in
    shown q (keeps.just tell q ∙ lt-ltb 0 (either_uses x.form.numbers q x.told.slot) in_store) in
    let tree : StandsOn n at x.entry = subst (λ (m : Numbers). StandsOn m at x.entry) hand.numbers (keeps.tree tell) in
    entry-closed n at now x x.entry refl tree within stays version
    (keeps.bytes tell ∙ ap (λ (m : Numbers). plain_at at m.page x.entry) hand.numbers)
