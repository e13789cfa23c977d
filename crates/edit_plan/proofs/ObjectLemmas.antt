-- The plan of a whole object, from the parts of a plan that is made from its window.
use Rattle.std.proofs.Common.{◌≡◌, ℕ, ◌-◌, ◌*◌, true, List, map, refl, sym, ap, subst, ◌∙◌}
use Rattle.geometry_model.specs.Numbers.{Numbers, space_pages}
use Rattle.tree_model.specs.declared.entry.Pair.{Pair}
use Rattle.tree_model.specs.declared.entry.Placed.{Placed}
use Rattle.tree_model.specs.Range.{pairs_of, placed, start_of}
use Rattle.tree_model.specs.Tree.{bytes_of}
use Rattle.layout_model.specs.declared.change.Change.{Change}
use Rattle.layout_model.specs.declared.fit.Fit.{Fit}
use Rattle.layout_model.specs.declared.fit.Fit.TheVariants.{Extend, Follow, Fresh}
use Rattle.layout_model.specs.declared.part.Part as layout
use Rattle.layout_model.specs.Pack.{pack}
use Rattle.layout_model.specs.Parts.{parts_of}
use Rattle.layout_model.specs.Plan.{Plan, fit_appended, plan_extended, plan_packed, planned}
use Rattle.content_laws.specs.Spelling.{HaveBytes, IsPacked}
use Rattle.window_laws.specs.Window.{moved, shifted, window_at, window_from, window_start}
use Rattle.window_laws.proofs.SearchLemmas.{segments-found}
use Rattle.window_laws.proofs.WindowLemmas.{fit-on_window, planned-on_window}
use Rattle.edit_parts.specs.declared.part.Part.{Part}
use Rattle.edit_parts.specs.Parts.{layout_part}
use Rattle.edit_plan.specs.Planned.{IsPlan}

-- the plan of a change that doesn't extend the last entry is made from its parts
planned-packed : (n : Numbers) (threshold : ℕ) (entries : List Pair) (spare : ℕ) (change : Change) →
    IsPacked (fit_appended n.page entries spare change) →
    planned n threshold entries spare change
    ≡ plan_packed n.page entries spare change (pack n.page threshold
    (parts_of n.page (space_pages n * n.page) entries change.at change.removed change.added))
unfolding planned
planned-packed n threshold entries spare change packed = go (fit_appended n.page entries spare change) packed
  where
    go : (fit : Fit) → IsPacked fit →
        elim fit [
          | Extend ↦ plan_extended entries change
          | _ ↦ plan_packed n.page entries spare change (pack n.page threshold
              (parts_of n.page (space_pages n * n.page) entries change.at change.removed change.added))
        ] ≡ plan_packed n.page entries spare change (pack n.page threshold
        (parts_of n.page (space_pages n * n.page) entries change.at change.removed change.added))
    go Extend none = absurd none
    go Follow is = refl
    go Fresh is = refl

pub plan-of_object : (n : Numbers) (threshold : ℕ) (entries : List Pair) (spare : ℕ) (change : Change) (window : List Placed)
    (parts : List Part) → HaveBytes entries → (change.appends ≡ true → change.at ≡ bytes_of entries) →
    IsPacked (fit_appended n.page entries spare change) →
    window ≡ placed (window_start change.at entries) (window_at entries change.at change.removed) →
    IsPlan n window change.at change.removed change.added parts →
    planned n threshold entries spare change
    ≡ shifted (window_from change.at entries) (plan_packed n.page (pairs_of window) spare (moved (start_of window) change)
    (pack n.page threshold (map layout_part parts)))
plan-of_object n threshold entries spare change window parts have ends packed is made =
    let k = window_from change.at entries in
    let b = window_start change.at entries in
    let w = window_at entries change.at change.removed in
    let most = space_pages n * n.page in
    let found = segments-found entries change.at change.removed window have is in
    let fits = subst IsPacked (fit-on_window n.page entries spare change have ends) packed in
    let plan_on : ℕ → List Pair → List layout.Part → Plan = λ start pairs laid.
    plan_packed n.page pairs spare (moved start change) (pack n.page threshold laid) in
    let laid : parts_of n.page most w (change.at - b) change.removed change.added ≡ map layout_part parts =
    ap (λ (s : ℕ). parts_of n.page most w (change.at - s) change.removed change.added) (sym found.1)
    ∙ (ap (λ (ps : List Pair). parts_of n.page most ps (change.at - start_of window) change.removed change.added) (sym found.0)
    ∙ sym made.plan) in
    planned-on_window n threshold entries spare change have ends
    ∙ ap (shifted k) (planned-packed n threshold w spare (moved b change) fits
    ∙ (ap (plan_on b w) laid
    ∙ (ap (λ (s : ℕ). plan_on s w (map layout_part parts)) (sym found.1)
    ∙ ap (λ (ps : List Pair). plan_on (start_of window) ps (map layout_part parts)) (sym found.0))))
