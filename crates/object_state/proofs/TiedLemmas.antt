-- What an object shows: the lengths of its versions are those of their bytes, and what is at rest is so in both.
use Rattle.std.proofs.Common.{◌≡◌, ℕ, ◌<◌, Bool, true, ◌&&◌, IsTrue, Option, Some, None, refl, ap, arith, ◌∙◌, is_none}
use Rattle.std.proofs.Common.{nat_eq}
use Rattle.std.proofs.lemmas.Bool.{and_parts, lt-ltb}
use Rattle.std.proofs.lemmas.Bool.Decides.{nat_tests}
use Rattle.layout_model.specs.declared.extent.Extent.{Extent}
use Rattle.moment_model.specs.Moment.{either_uses}
use Rattle.span_store.specs.Held.{bytes_on, has}
use Rattle.tree_pages.specs.Entry.{Entry, Present}
use Rattle.tree_pages.specs.Levels.{version_at, plain_at}
use Rattle.object_body.specs.Form.{AreTied, HaveLengths}
use Rattle.object_body.proofs.HeldTreeLemmas.{AreFull, has-length, sized-page}
use Rattle.object_state.specs.Tree.{TreeView, same_entry, same_present, tree_form, tree_slot, tree_contents}
use Rattle.object_state.specs.Keeps.{KeepsTreeBody}

-- equal entries
eq-nat : (a b : ℕ) → nat_eq a b ≡ true → a ≡ b
eq-nat a b same = grind (arith, nat_tests, same)

nat-self : (a : ℕ) → nat_eq a a ≡ true
nat-self a = grind (arith, nat_tests)

present-is : (a b : Present) → same_present a b ≡ true → a ≡ b
present-is a b same =
    let height = and_parts (nat_eq a.root.height b.root.height) (nat_eq a.root.page b.root.page
    && (nat_eq a.root.length b.root.length && nat_eq a.threshold b.threshold)) same in
    let page = and_parts (nat_eq a.root.page b.root.page) (nat_eq a.root.length b.root.length && nat_eq a.threshold b.threshold) height.1 in
    let bytes = and_parts (nat_eq a.root.length b.root.length) (nat_eq a.threshold b.threshold) page.1 in
    ap (λ (k : ℕ). record { root = record { height = k; page = a.root.page; length = a.root.length }; threshold = a.threshold })
    (eq-nat a.root.height b.root.height height.0)
    ∙ (ap (λ (k : ℕ). record { root = record { height = b.root.height; page = k; length = a.root.length }; threshold = a.threshold })
    (eq-nat a.root.page b.root.page page.0)
    ∙ (ap (λ (k : ℕ). record { root = record { height = b.root.height; page = b.root.page; length = k }; threshold = a.threshold })
    (eq-nat a.root.length b.root.length bytes.0)
    ∙ ap (λ (k : ℕ). record { root = b.root; threshold = k }) (eq-nat a.threshold b.threshold bytes.1)))

entry-is : (a b : Entry) → same_entry a b ≡ true → a ≡ b
entry-is None None same = refl
entry-is None (Some b) same = absurd cc
entry-is (Some a) None same = absurd cc
entry-is (Some a) (Some b) same = ap Some (present-is a b same)

pub entry-self : (a : Entry) → same_entry a a ≡ true
entry-self None = refl
entry-self (Some a) =
    ap (λ b. b && (nat_eq a.root.page a.root.page && (nat_eq a.root.length a.root.length && nat_eq a.threshold a.threshold)))
    (nat-self a.root.height)
    ∙ (ap (λ b. b && (nat_eq a.root.length a.root.length && nat_eq a.threshold a.threshold)) (nat-self a.root.page)
    ∙ (ap (λ b. b && nat_eq a.threshold a.threshold) (nat-self a.root.length) ∙ nat-self a.threshold))

none-spare : (spare : Option Extent) → is_none spare ≡ true → spare ≡ None
none-spare None none = refl
none-spare (Some run) none = absurd cc

-- where sets have no page and there is no spare, an object whose entries are one is at rest
pub rests-now : (entry : Entry) (fresh locked : ℕ) → fresh ≡ 0 → locked ≡ 0 →
    (same_entry entry entry && (true && (nat_eq fresh 0 && nat_eq locked 0))) ≡ true
rests-now entry fresh locked no_fresh no_locked =
    ap (λ b. b && (nat_eq fresh 0 && nat_eq locked 0)) (entry-self entry)
    ∙ (ap (λ k. nat_eq k 0 && nat_eq locked 0) no_fresh ∙ ap (λ k. nat_eq k 0) no_locked)

-- the pages of both versions are held, and have the store's bytes
pub full-pages : (tells : Bool) (v : TreeView) → KeepsTreeBody tells v → IsTrue tells →
    AreFull v.numbers (bytes_on v.held) v.committed × AreFull v.numbers (bytes_on v.held) v.working
full-pages tells v kept tell = (
  λ q some. sized-page tells v.numbers.page v.held q kept.sized tell (held-of q (omega (arith, some))),
  λ q some. sized-page tells v.numbers.page v.held q kept.sized tell (held-of q (omega (arith, some))),
) where
  held-of : (q : ℕ) → 0 < either_uses v.numbers q (tree_slot v) → IsTrue (has v.held q)
  held-of q some = (kept.told tell).just q ∙ lt-ltb 0 (either_uses v.numbers q (tree_slot v)) some

pub tree-tied : (tells : Bool) (v : TreeView) → 0 < v.numbers.page → KeepsTreeBody tells v → IsTrue tells →
    AreTied HaveLengths (tree_form v) (tree_contents v)
tree-tied tells v some kept tell =
    let told = kept.told tell in
    let full = full-pages tells v kept tell in
    let committed = has-length v.numbers (bytes_on v.held) v.committed some told.committed full.0 in
    let working = has-length v.numbers (bytes_on v.held) v.working some told.working full.1 in
    record {
      committed = committed.root;
      working = working.root;
      rests = λ rests.
          let parts = and_parts (same_entry v.working v.committed)
          (is_none v.spare && (nat_eq v.fresh.size 0 && nat_eq v.locked.size 0)) rests in
          let same = entry-is v.working v.committed parts.0 in (
            record {
              same = ap (version_at (bytes_on v.held)) same;
              no_spare = none-spare v.spare (and_parts (is_none v.spare) (nat_eq v.fresh.size 0 && nat_eq v.locked.size 0) parts.1).0;
            },
            ap (plain_at (bytes_on v.held) v.numbers.page) same,
          );
      kind = record { committed = committed.version; working = working.version };
    }
