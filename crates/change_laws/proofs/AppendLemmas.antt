-- The parts of an append: they are made, and stand at the end; what is left of the last one's run follows its segment.
use Rattle.std.proofs.Common.{◌≡◌, ℕ, suc, ◌+◌, ◌-◌, ◌*◌, ◌<◌, ◌≤◌, min, Bool, true, false, ◌&&◌, Some, None, List, []}
use Rattle.std.proofs.Common.{◌∷◌, ◌++◌, length, map, take, drop, refl, sym, ap, subst, arith, ◌∙◌, ◌⊎◌, inl, inr}
use Rattle.std.proofs.Common.{append_assoc, length-drop, nat_eq}
use Rattle.std.specs.Prelude.{nat_le}
use Rattle.std.specs.List.{AllByRecursion}
use Rattle.std.proofs.lemmas.Bool.{cases_Bool, cases_lt, le-leb, ne_eqb, eqb-false}
use Rattle.std.proofs.lemmas.List.{append-nil, take_all, drop_all}
use Rattle.std.proofs.lemmas.List.Sums.{sum_by-cons}
use Rattle.base_laws.proofs.OptionLaws.{some-inner}
use Rattle.geometry_model.specs.Numbers.{Numbers}
use Rattle.geometry_model.specs.Pages.{IsInSpace}
use Rattle.tree_model.specs.declared.entry.Pair.{Pair}
use Rattle.tree_model.specs.Tree.{page_count, bytes_of}
use Rattle.layout_model.specs.declared.extent.Extent.{Extent}
use Rattle.layout_model.specs.declared.part.Part.{Part}
use Rattle.layout_model.specs.declared.part.Part.TheVariants.{Keep, Make}
use Rattle.layout_model.specs.declared.change.Change.{Change}
use Rattle.layout_model.specs.Parts.{count_ended, count_begun, one_before, one_after, left_of, head_of, right_of}
use Rattle.layout_model.specs.Parts.{pieces, parts_of}
use Rattle.layout_model.specs.Pack.{is_small, pack_from, pack}
use Rattle.layout_model.specs.Plan.{past, made_part_bytes, begins_kept, ends_kept, merged_one, plan_packed, last_entry}
use Rattle.layout_model.specs.Layout.{segments_on, laid_parts, spare_behind}
use Rattle.layout_laws.proofs.MergingLemmas.{pack_from-merges, pack_from-keeps}
use Rattle.content_laws.specs.Spelling.{HaveBytes}
use Rattle.tree_model.proofs.PageCountLaws.{count-min}
use Rattle.content_laws.proofs.PlanLemmas.{one_before-cases}
use Rattle.content_laws.proofs.SideLemmas.{count_begun-more, left-behind, right-behind}
use Rattle.moment_laws.specs.Granting.{LiesInSpace, runs_of_parts}
use Rattle.change_laws.specs.Tail.{FollowsLast}
use Rattle.change_laws.proofs.PartLemmas.{all-right}

-- ---- the end of the entries

-- nothing stands behind the end
record AtEnd (size : ℕ) (entries : List Pair) (at : ℕ) : Type 0 where
  begun_all : count_begun at entries ≡ length entries
  left : left_of at entries ≡ []
  right : right_of size at entries ≡ []

at_end : (size : ℕ) (entries : List Pair) (at : ℕ) → HaveBytes entries → at ≡ bytes_of entries → AtEnd size entries at
at_end size [] at have is = record { begun_all = refl; left = refl; right = refl }
at_end size (p ∷ ps) at have is =
    let all = sum_by-cons (λ (q : Pair). q.bytes) p ps in
    let le : p.bytes ≤ at = omega (arith, all, is) in
    let h : nat_le p.bytes at ≡ true = le-leb p.bytes at le in
    let byte = have.0 in
    let k : nat_eq at 0 ≡ false = ne_eqb at 0 (λ none. omega (arith, none, le, byte)) in
    let more = at_end size ps (at - p.bytes) have.1 (omega (arith, all, is)) in
    record {
      begun_all = count_begun-more at p ps k ∙ ap suc more.begun_all;
      left = left-behind at p ps h ∙ more.left;
      right = right-behind size at p ps h ∙ more.right;
    }

-- ---- merged made parts

packed-made : (size least bytes : ℕ) (ns : List ℕ) → (ms : List ℕ) × (pack_from size least (Make bytes) (map Make ns) ≡ map Make ms)
packed-made size least bytes [] = (bytes ∷ [], refl)
packed-made size least bytes (n ∷ ns) =
    elim (cases_Bool (is_small size least (Make bytes) && is_small size least (Make n))) [
      | inl both ↦
          let more = packed-made size least (bytes + n) ns in
          (more.0, pack_from-merges size least (Make bytes) (Make n) (map Make ns) both ∙ more.1)
      | inr apart ↦
          let more = packed-made size least n ns in (
            bytes ∷ more.0,
            pack_from-keeps size least (Make bytes) (Make n) (map Make ns) apart
                ∙ ap (λ (xs : List Part). Make bytes ∷ xs) more.1,
          )
    ]

packed-kept : (size least : ℕ) (p : Pair) (ns : List ℕ) → (ms : List ℕ)
    × ((pack_from size least (Keep p) (map Make ns) ≡ Keep p ∷ map Make ms)
    ⊎ (pack_from size least (Keep p) (map Make ns) ≡ map Make ms))
packed-kept size least p [] = ([], inl refl)
packed-kept size least p (n ∷ ns) =
    elim (cases_Bool (is_small size least (Keep p) && is_small size least (Make n))) [
      | inl both ↦
          let more = packed-made size least (p.bytes + n) ns in
          (more.0, inr (pack_from-merges size least (Keep p) (Make n) (map Make ns) both ∙ more.1))
      | inr apart ↦
          let more = packed-made size least n ns in
          (more.0, inl (pack_from-keeps size least (Keep p) (Make n) (map Make ns) apart ∙ ap (λ (xs : List Part). Keep p ∷ xs) more.1))
    ]

pub made-made : (ms : List ℕ) → made_part_bytes (map Make ms) ≡ ms
made-made [] = refl
made-made (m ∷ ms) = ap (λ (xs : List ℕ). m ∷ xs) (made-made ms)

begins-made : (ms : List ℕ) → begins_kept (map Make ms) ≡ false
begins-made [] = refl
begins-made (m ∷ ms) = refl

-- the plan of an append: its parts are made, and the last entries are replaced or none
pub record Appended (size : ℕ) (entries : List Pair) (spare : ℕ) (change : Change) (packed : List Part) : Type 0 where
  pub sizes : List ℕ
  pub parts : (plan_packed size entries spare change packed).parts ≡ map Make sizes
  pub packed_sizes : made_part_bytes packed ≡ sizes
  pub none_behind : drop ((plan_packed size entries spare change packed).from + (plan_packed size entries spare
      change packed).count) entries ≡ []

pub appended-plan : (size least most spare : ℕ) (entries : List Pair) (change : Change) → HaveBytes entries →
    change.at ≡ bytes_of entries → change.removed ≡ 0 →
    Appended size entries spare change (pack size least (parts_of size most entries change.at change.removed change.added))
appended-plan size least most spare entries change have ends nothing =
    let a = change.at in
    let e = change.at + change.removed in
    let e_is : e ≡ bytes_of entries = omega (arith, ends, nothing) in
    let at_a = at_end size entries a have ends in
    let at_e = at_end size entries e have e_is in
    let ns = pieces most (change.added + head_of size e entries) in
    let before = one_before a entries in
    let after = one_after e entries in
    let no_after : after ≡ [] = ap (take 1) (ap (λ (k : ℕ). drop k entries) at_e.begun_all
    ∙ drop_all (length entries) entries (omega arith)) in
    let window = parts_of size most entries a change.removed change.added in
    let shape : window ≡ map Keep before ++ map Make ns =
    ap (λ (xs : List Pair). map Keep (before ++ xs) ++ (map Make ns ++ map Keep (right_of size e entries ++ after))) at_a.left
    ∙ (ap (λ (xs : List Pair). map Keep (before ++ []) ++ (map Make ns ++ map Keep (xs ++ after))) at_e.right
    ∙ (ap (λ (xs : List Pair). map Keep (before ++ []) ++ (map Make ns ++ map Keep xs)) no_after
    ∙ (ap (λ (xs : List Part). map Keep (before ++ []) ++ xs) (append-nil (map Make ns))
    ∙ ap (λ (xs : List Pair). map Keep xs ++ map Make ns) (append-nil before)))) in
    subst (λ (w : List Part). Appended size entries spare change (pack size least w)) (sym shape)
    (elim (one_before-cases a entries) [
      | inl none ↦
          let made = packed-only ns in
          let packed_is : pack size least (map Keep before ++ map Make ns) ≡ map Make made.0 =
          ap (λ (xs : List Pair). pack size least (map Keep xs ++ map Make ns)) none ∙ made.1 in
          subst (Appended size entries spare change) (sym packed_is)
          (whole made.0 (map Make made.0) no_after at_e.begun_all (made-made made.0)
          (let few : length before ≡ 0 = ap length none in
          let none_merged : merged_one before (begins_kept (map Make made.0)) ≡ 0 =
          ap (λ (xs : List Pair). merged_one xs (begins_kept (map Make made.0))) none in
          let front : length before - merged_one before (begins_kept (map Make made.0)) ≡ 0 = omega (arith, few, none_merged) in
          ap (λ (k : ℕ). drop k (map Make made.0)) front))
      | inr one ↦
          let p = one.0 in
          let kept = packed-kept size least p ns in
          elim kept.1 [
            | inl first ↦
                let packed_is : pack size least (map Keep before ++ map Make ns) ≡ Keep p ∷ map Make kept.0 =
                ap (λ (xs : List Pair). pack size least (map Keep xs ++ map Make ns)) one.2 ∙ first in
                subst (Appended size entries spare change) (sym packed_is)
                (whole kept.0 (Keep p ∷ map Make kept.0) no_after at_e.begun_all (made-made kept.0)
                (let few : length before ≡ 1 = ap length one.2 in
                let none_merged : merged_one before true ≡ 0 = ap (λ (xs : List Pair). merged_one xs true) one.2 in
                let front : length before - merged_one before true ≡ 1 = omega (arith, few, none_merged) in
                ap (λ (k : ℕ). drop k (Keep p ∷ map Make kept.0)) front))
            | inr merged ↦
                let packed_is : pack size least (map Keep before ++ map Make ns) ≡ map Make kept.0 =
                ap (λ (xs : List Pair). pack size least (map Keep xs ++ map Make ns)) one.2 ∙ merged in
                subst (Appended size entries spare change) (sym packed_is)
                (whole kept.0 (map Make kept.0) no_after at_e.begun_all (made-made kept.0)
                (let few : length before ≡ 1 = ap length one.2 in
                let one_merged : merged_one before (begins_kept (map Make kept.0)) ≡ 1 =
                ap (λ (b : Bool). merged_one before b) (begins-made kept.0) ∙ ap (λ (xs : List Pair). merged_one xs false) one.2 in
                let front : length before - merged_one before (begins_kept (map Make kept.0)) ≡ 0 = omega (arith, few, one_merged) in
                ap (λ (k : ℕ). drop k (map Make kept.0)) front))
          ]
    ])
  where
    packed-only : (ns : List ℕ) → (ms : List ℕ) × (pack size least (map Make ns) ≡ map Make ms)
    packed-only [] = ([], refl)
    packed-only (n ∷ ns) = packed-made size least n ns

    whole : (sizes : List ℕ) (packed : List Part) → one_after (change.at + change.removed) entries ≡ [] →
        count_begun (change.at + change.removed) entries ≡ length entries →
        made_part_bytes packed ≡ sizes →
        drop (length (one_before change.at entries) - merged_one (one_before change.at entries)
        (begins_kept packed)) packed ≡ map Make sizes →
        Appended size entries spare change packed
    whole sizes packed no_after all made dropped =
        let before = one_before change.at entries in
        let after = one_after (change.at + change.removed) entries in
        let front = length before - merged_one before (begins_kept packed) in
        let back = length after - merged_one after (ends_kept packed) in
        let none_back : back ≡ 0 = ap (λ (xs : List Pair). length xs - merged_one xs (ends_kept packed)) no_after in
        let long : length (map Make sizes) ≡ length packed - front = ap length (sym dropped) ∙ length-drop front packed in
        let count : length packed - (front + back) ≡ length (map Make sizes) = omega (arith, none_back, long) in
        let from = count_ended change.at entries - merged_one before (begins_kept packed) in
        let none_merged : merged_one after (ends_kept packed) ≡ 0 = ap (λ (xs : List Pair). merged_one xs (ends_kept packed)) no_after in
        let to = count_begun (change.at + change.removed) entries + merged_one after (ends_kept packed) in
        let reach : length entries ≤ from + (to - from) = omega (arith, all, none_merged) in
        record {
          sizes = sizes;
          parts = ap (take (length packed - (front + back))) dropped
              ∙ take_all (length packed - (front + back)) (map Make sizes) (omega (arith, count));
          packed_sizes = made;
          none_behind = drop_all (from + (to - from)) entries reach;
        }

-- ---- the spare behind the last part

-- the last of some entries and more
pub last-append : (xs : List Pair) (x : Pair) → last_entry (xs ++ (x ∷ [])) ≡ x
last-append [] x = refl
last-append (y ∷ []) x = refl
last-append (y ∷ z ∷ xs) x = last-append (z ∷ xs) x

pub append-some : (xs : List Pair) (x : Pair) → 0 < length (xs ++ (x ∷ []))
append-some [] x = let one : 0 < 1 = omega arith in one
append-some (y ∷ xs) x = let one : 0 < suc (length (xs ++ (x ∷ []))) = omega arith in one

none_some : {A : Type 0} (x : A) → None ≡ Some x → ⊥
none_some x same = cc

-- what is left of a run
pub past-some : (few : ℕ) (run rest : Extent) → past few (Some run) ≡ Some rest → (rest.page ≡ run.page + few)
    × (few + rest.pages ≡ run.pages)
past-some few run rest same =
    elim (cases_Bool (nat_eq (run.pages - few) 0)) [
      | inl none ↦
          let step : past few (Some run) ≡ None = rw (none, past) in
          absurd (none_some rest (sym step ∙ same))
      | inr some ↦
          let step : past few (Some run) ≡ Some (record { page = run.page + few; pages = run.pages - few }) = rw (some, past) in
          let is : record { page = run.page + few; pages = run.pages - few } ≡ rest =
          some-inner (record { page = run.page + few; pages = run.pages - few }) rest (sym step ∙ same) in
          let any = eqb-false (run.pages - few) 0 some in
          let less : few ≤ run.pages = elim (cases_lt run.pages few) [
            | inl more ↦ absurd (any (omega (arith, more)))
            | inr within ↦ within
          ] in
          let page : run.page + few ≡ rest.page = ap (λ (x : Extent). x.page) is in
          let pages : run.pages - few ≡ rest.pages = ap (λ (x : Extent). x.pages) is in
          (sym page, omega (arith, pages, less))
    ]

pub spare-follows : (n : Numbers) (ns : List ℕ) (runs : List (List Extent)) (xs : List Pair) (rest : Extent) →
    0 < n.page → AllByRecursion (LiesInSpace n) (runs_of_parts runs) →
    spare_behind n.page ns runs ≡ Some rest → FollowsLast n (xs ++ laid_parts n.page (map Make ns) runs) rest
spare-follows n [] [] xs rest some lie is = absurd (none_some rest is)
spare-follows n [] (run ∷ runs) xs rest some lie is = absurd (none_some rest is)
spare-follows n (bytes ∷ []) [] xs rest some lie is = absurd (none_some rest is)
spare-follows n (bytes ∷ []) ([] ∷ []) xs rest some lie is = absurd (none_some rest is)
spare-follows n (bytes ∷ []) ((run ∷ run2 ∷ more) ∷ []) xs rest some lie is = absurd (none_some rest is)
spare-follows n (bytes ∷ []) (run ∷ run2 ∷ runs) xs rest some lie is = absurd (none_some rest is)
spare-follows n (bytes ∷ []) ((run ∷ []) ∷ []) xs rest some lie is =
    let need = page_count n.page bytes in
    let seg : Pair = record { bytes = min bytes (run.pages * n.page); page = run.page } in
    let left = past-some need run rest is in
    let count = count-min n.page bytes run.pages some in
    let last = last-append xs seg in
    let page = left.0 in
    let pages = left.1 in
    let space = lie.0.1 in
    let filled : page_count n.page seg.bytes ≡ need = omega (arith, count, pages) in
    let P : Pair → Type 0 = λ x. (rest.page ≡ x.page + page_count n.page x.bytes)
    × ((s : ℕ) × IsInSpace n s x.page (page_count n.page x.bytes + rest.pages)) in
    let at_last : P (last_entry (xs ++ (seg ∷ []))) = subst P (sym last) (
      omega (arith, page, filled),
      (
        lie.0.0,
        record {
          in_store = space.in_store;
          from = space.from;
          to =
              omega (arith, space.to, filled, pages);
        },
      ),
    ) in
    record { some = append-some xs seg; behind = at_last.0; together = at_last.1 }
spare-follows n (bytes ∷ next ∷ ns) [] xs rest some lie is = absurd (none_some rest is)
spare-follows n (bytes ∷ next ∷ ns) (run ∷ runs) xs rest some lie is =
    let more = spare-follows n (next ∷ ns) runs (xs
    ++ segments_on n.page bytes run) rest some (all-right (LiesInSpace n) run (runs_of_parts runs) lie) is in
    subst (λ (ys : List Pair). FollowsLast n ys rest)
    (append_assoc xs (segments_on n.page bytes run) (laid_parts n.page (map Make (next ∷ ns)) runs)) more
