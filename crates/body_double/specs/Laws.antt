-- The laws of a body, for these objects.
use Rattle.std.proofs.Common.{◌≡◌, ℕ, ◌≤◌, Bool, true, IsTrue, List, [], ◌∷◌, map, Option, Some}
use Rattle.std.proofs.Common.{None, refl, sym, ap, subst, arith, ◌∙◌}
use Rattle.std.proofs.Common.{inl, inr, not, nat_eq}
use Rattle.std.proofs.lemmas.Bool.{and_parts}
use Rattle.std.proofs.lemmas.List.Sums.{sum_by-cons}
use Rattle.change_laws.specs.Tail.{HaveTails, IsTail}
use Rattle.change_laws.proofs.GotLemmas.{and_then-got}
use Rattle.eos_ops.specs.declared.edit.Edit.{Edit}
use Rattle.eos_ops.specs.declared.edit.Edit.TheVariants.{Create, Destroy, Append, Insert, Delete}
use Rattle.eos_ops.specs.declared.edit.Edit.TheVariants.{Replace}
use Rattle.geometry_model.specs.Numbers.{Numbers}
use Rattle.layout_laws.proofs.HalvingLemmas.{got_same}
use Rattle.layout_model.specs.declared.extent.Extent.{Extent}
use Rattle.layout_model.specs.Grants.{Spaces, Got, and_then, run_of, node_pages}
use Rattle.layout_model.specs.Layout.{Tree}
use Rattle.moment_laws.specs.Change.{held_without}
use Rattle.moment_laws.specs.Granting.{Took, page_run}
use Rattle.moment_laws.proofs.ChangeLemmas.{slot_cases, sound-grown}
use Rattle.moment_laws.proofs.EndLemmas.{sound-undone_one, sound-held_more}
use Rattle.moment_laws.proofs.GrantLemmas.{node_pages-takes, free_of-spaces, took-free, Takes}
use Rattle.moment_model.specs.Edit.{with_working, accepts, empty_tree, undone}
use Rattle.moment_model.specs.Moment.{IsSound, ObjectSlot, Moment, object_slot, with_object_slot}
use Rattle.moment_model.specs.Moment.{free_of, is_free, working_uses, count_true}
use Rattle.moment_model.specs.Version.{Version, IsGoodVersion, covers, version_bytes}
use Rattle.object_body.specs.Calls.{RefusesTaken, pages_in}
use Rattle.object_body.specs.Form.{HaveLengths, HaveLengthsBy, any_tree}
use Rattle.soundness_laws.specs.Keeping.{KeepsSoundness}
use Rattle.body_double.specs.Kept.{lays_kept, kept_created}
use Rattle.body_double.specs.Page.{IsPageTree, lays_page, page_tree, page_placed, page_made}
use Rattle.body_double.specs.Page.{page_created, page_moved, page_dropped}

-- the slot has the lengths of the bytes: that is all that these objects say of the two
pub lengths-told : IsTrue true → HaveLengthsBy HaveLengths
lengths-told on told suits = suits

-- ---- what is refused pages

-- no edit of an object that is made of the pages of a tree is
pub refuses-no-kept : RefusesTaken lays_kept
refuses-no-kept n start free slot edit pages = go edit
  where
    created : (version : Version) → pages_in (kept_created free slot version) ≡ Some pages → ⊥
    created None refused = cc
    created (Some tree) refused = cc

    go : (edit : Edit) → pages_in (lays_kept n start free slot edit) ≡ Some pages →
        accepts (version_bytes slot.working) edit ≡ true
    go (Create t) refused = absurd (created slot.working refused)
    go Destroy refused = absurd cc
    go (Append p) refused = absurd cc
    go (Insert at p) refused = absurd cc
    go (Delete at k) refused = absurd cc
    go (Replace at p) refused = absurd cc

-- of an object on a page, a `create` where it is absent, and an `append` where it isn't
pub refuses-page : RefusesTaken lays_page
refuses-page n start free slot edit pages = go edit
  where
    created : (t : Option ℕ) (version : Version) →
        pages_in (page_created n start free slot version) ≡ Some pages →
        accepts (version_bytes version) (Create t) ≡ true
    created t None refused = refl
    created t (Some tree) refused = absurd cc

    moved : (p : List ℕ) (version : Version) →
        pages_in (page_moved n start free slot version) ≡ Some pages →
        accepts (version_bytes version) (Append p) ≡ true
    moved p None refused = absurd cc
    moved p (Some tree) refused = refl

    dropped : (version : Version) → pages_in (page_dropped free slot version) ≡ Some pages → ⊥
    dropped None refused = cc
    dropped (Some tree) refused = cc

    go : (edit : Edit) → pages_in (lays_page n start free slot edit) ≡ Some pages →
        accepts (version_bytes slot.working) edit ≡ true
    go (Create t) refused = created t slot.working refused
    go Destroy refused = absurd (dropped slot.working refused)
    go (Append p) refused = moved p slot.working refused
    go (Insert at p) refused = absurd cc
    go (Delete at k) refused = absurd cc
    go (Replace at p) refused = absurd cc

-- ---- what an edit leaves of a sound moment

record Leaves (good : Numbers → Tree → Type 0) (n : Numbers) (held : ℕ → Bool) (moment : Moment)
    (o : ℕ) (after : ObjectSlot) : Type 0 where
  sound : IsSound good n held (with_object_slot moment o after)
  tail : IsTail n after.working after.spare

-- the spares stand where they stood
left-keeps : (good : Numbers → Tree → Type 0) (n : Numbers) (held : ℕ → Bool) (moment : Moment)
    (o : ℕ) (after : ObjectSlot) → HaveTails n moment → Leaves good n held moment o after →
    IsSound good n held (with_object_slot moment o after)
    × HaveTails n (with_object_slot moment o after)
left-keeps good n held moment o after tails left = (
  left.sound,
  λ q. elim (slot_cases moment o q after) [
    | inl new ↦ subst (λ (s : ObjectSlot). IsTail n s.working s.spare) (sym new.1) left.tail
    | inr old ↦ subst (λ (s : ObjectSlot). IsTail n s.working s.spare) (sym old) (tails q)
  ],
)

-- an object that stays
stays-left : (good : Numbers → Tree → Type 0) (n : Numbers) (held : ℕ → Bool) (moment : Moment)
    (o : ℕ) (after : ObjectSlot) (left : Spaces) → IsSound good n held moment →
    HaveTails n moment → held o ≡ true →
    Got (object_slot moment o) (free_of n moment) ≡ Got after left →
    Leaves good n held moment o after
stays-left good n held moment o after left sound tails taken got =
    subst (Leaves good n held moment o)
    (got_same (object_slot moment o) after (free_of n moment) left got) (record {
      sound = sound-grown good n held moment o (object_slot moment o) sound taken (record {
        committed = refl;
        working = (sound.kept o).working;
        within = λ page. omega arith;
        spare_within = λ page. omega arith;
      });
      tail = tails o;
    })

-- a working version on no page, or none
bare-left : (good : Numbers → Tree → Type 0) (n : Numbers) (held : ℕ → Bool) (moment : Moment)
    (o : ℕ) (version : Version) (after : ObjectSlot) (left : Spaces) → IsSound good n held moment →
    held o ≡ true → IsGoodVersion good n version →
    ((page : ℕ) → working_uses n page (with_working (object_slot moment o) version None) ≡ 0) →
    Got (with_working (object_slot moment o) version None) (free_of n moment) ≡ Got after left →
    Leaves good n held moment o after
bare-left good n held moment o version after left sound taken is_good none got =
    let slot = with_working (object_slot moment o) version None in
    subst (Leaves good n held moment o) (got_same slot after (free_of n moment) left got) (record {
      sound = sound-grown good n held moment o slot sound taken (record {
        committed = refl;
        working = is_good;
        within = λ page. let nothing = none page in omega (arith, nothing);
        spare_within = λ page. omega arith;
      });
      tail = tt;
    })

-- ---- an object that is made of the pages of a tree

created-left : (n : Numbers) (held : ℕ → Bool) (moment : Moment) (o : ℕ) (version : Version)
    (after : ObjectSlot) (left : Spaces) → IsSound any_tree n held moment → HaveTails n moment →
    held o ≡ true →
    (object_slot moment o).working ≡ version →
    kept_created (free_of n moment) (object_slot moment o) version ≡ Got after left →
    Leaves any_tree n held moment o after
created-left n held moment o None after left sound tails taken is got =
    bare-left any_tree n held moment o (Some (empty_tree 1)) after left sound taken tt
    (λ page. refl) got
created-left n held moment o (Some tree) after left sound tails taken is got =
    stays-left any_tree n held moment o after left sound tails taken got

pub keeps-kept : KeepsSoundness lays_kept any_tree
keeps-kept n held start moment o edit after left range sound tails taken asks got =
    left-keeps any_tree n held moment o after tails (go edit got)
  where
    stays : Got (object_slot moment o) (free_of n moment) ≡ Got after left →
        Leaves any_tree n held moment o after
    stays got = stays-left any_tree n held moment o after left sound tails taken got

    go : (edit : Edit) →
        lays_kept n start (free_of n moment) (object_slot moment o) edit ≡ Got after left →
        Leaves any_tree n held moment o after
    go (Create t) got =
        created-left n held moment o (object_slot moment o).working after left sound tails taken
        refl got
    go Destroy got = stays got
    go (Append p) got = stays got
    go (Insert at p) got = stays got
    go (Delete at k) got = stays got
    go (Replace at p) got = stays got

-- ---- an object on a page

-- a page that was granted was free
page-free : (n : Numbers) (start : ℕ) (moment : Moment) (run : Extent) (mid : Spaces) →
    run_of n start 1 (free_of n moment) ≡ Got run mid → (page : ℕ) →
    covers page (page_run run.page) ≤ count_true (is_free n page moment)
page-free n start moment run mid got page =
    let free = free_of n moment in
    let one : node_pages n start 1 free ≡ Got (run.page ∷ []) mid =
    ap (λ answer. and_then answer (λ run left.
    and_then (node_pages n start 0 left)
    (λ pages rest_left. Got (run.page ∷ pages) rest_left))) got in
    let took : Took n free (map page_run (run.page ∷ [])) mid =
    subst (Takes n (map page_run) free) one
    (node_pages-takes n start 1 free (free_of-spaces n moment)) in
    let was = took-free n moment (map page_run (run.page ∷ [])) mid took page in
    omega (arith, was, sum_by-cons (covers page) (page_run run.page) [])

placed-left : (n : Numbers) (held : ℕ → Bool) (start : ℕ) (moment : Moment) (o : ℕ)
    (after : ObjectSlot) (left : Spaces) →
    IsSound IsPageTree n held moment → held o ≡ true →
    page_placed n start (free_of n moment) (object_slot moment o) ≡ Got after left →
    Leaves IsPageTree n held moment o after
placed-left n held start moment o after left sound taken got =
    let slot = object_slot moment o in
    let parts = and_then-got (run_of n start 1 (free_of n moment))
    (λ run left. Got (with_working slot (Some (page_tree run.page)) None) left) after left got in
    let run = parts.0 in
    let new = with_working slot (Some (page_tree run.page)) None in
    subst (Leaves IsPageTree n held moment o) (got_same new after parts.1 left parts.3) (record {
      sound = sound-grown IsPageTree n held moment o new sound taken (record {
        committed = refl;
        working = (run.page, refl);
        within = λ page.
            let free = page-free n start moment run parts.1 parts.2 page in
            let one : working_uses n page new ≡ covers page (page_run run.page) =
            (let sum = sum_by-cons (covers page) (page_run run.page) [] in omega (arith, sum)) in
            omega (arith, free, one);
        spare_within = λ page. omega arith;
      });
      tail = tt;
    })

-- the committed version is the working one again
made-left : (n : Numbers) (held : ℕ → Bool) (start : ℕ) (moment : Moment) (o : ℕ)
    (version : Version) (after : ObjectSlot) (left : Spaces) → IsSound IsPageTree n held moment →
    held o ≡ true → (object_slot moment o).committed ≡ version →
    page_made n start (free_of n moment) (object_slot moment o) version ≡ Got after left →
    Leaves IsPageTree n held moment o after
made-left n held start moment o None after left sound taken is got =
    placed-left n held start moment o after left sound taken got
made-left n held start moment o (Some tree) after left sound taken is got =
    let slot = object_slot moment o in
    let back : undone slot ≡ with_working slot (Some tree) None =
    ap (λ v. with_working slot v None) is in
    subst (Leaves IsPageTree n held moment o)
    (back ∙ got_same (with_working slot (Some tree) None) after (free_of n moment) left got)
    (record {
      sound = sound-held_more IsPageTree n (held_without held (λ q. nat_eq q o)) held
          (with_object_slot moment o (undone slot))
          (λ q is. (and_parts (held q) (not (nat_eq q o)) is).0)
          (sound-undone_one IsPageTree n held moment o sound);
      tail = no_tail slot.committed;
    })
  where
    no_tail : (v : Version) → IsTail n v None
    no_tail v = tt

pub keeps-page : KeepsSoundness lays_page IsPageTree
keeps-page n held start moment o edit after left range sound tails taken asks got =
    left-keeps IsPageTree n held moment o after tails (go edit got)
  where
    stays : Got (object_slot moment o) (free_of n moment) ≡ Got after left →
        Leaves IsPageTree n held moment o after
    stays got = stays-left IsPageTree n held moment o after left sound tails taken got

    created : (version : Version) →
        page_created n start (free_of n moment) (object_slot moment o) version ≡ Got after left →
        Leaves IsPageTree n held moment o after
    created None got =
        made-left n held start moment o (object_slot moment o).committed after left sound taken
        refl got
    created (Some tree) got = stays got

    moved : (version : Version) →
        page_moved n start (free_of n moment) (object_slot moment o) version ≡ Got after left →
        Leaves IsPageTree n held moment o after
    moved None got = stays got
    moved (Some tree) got = placed-left n held start moment o after left sound taken got

    dropped : (version : Version) →
        page_dropped (free_of n moment) (object_slot moment o) version ≡ Got after left →
        Leaves IsPageTree n held moment o after
    dropped None got = stays got
    dropped (Some tree) got =
        bare-left IsPageTree n held moment o None after left sound taken tt (λ page. refl) got

    go : (edit : Edit) →
        lays_page n start (free_of n moment) (object_slot moment o) edit ≡ Got after left →
        Leaves IsPageTree n held moment o after
    go (Create t) got = created (object_slot moment o).working got
    go (Append p) got = moved (object_slot moment o).working got
    go Destroy got = dropped (object_slot moment o).working got
    go (Insert at p) got = stays got
    go (Delete at k) got = stays got
    go (Replace at p) got = stays got
