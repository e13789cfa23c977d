-- How the nodes of a run of pages are taken out: a turn for each entry, from the last one on.
use Rattle.std.proofs.Common.{◌≡◌, ℕ, ◌+◌, ◌<◌, ◌≤◌, ◌⊎◌, not, true, false, if◌then◌else◌, List, [], ◌∷◌, ◌++◌}
use Rattle.std.proofs.Common.{length, take, drop, get_or, nat_eq, Some, None, refl, sym, ap, ◌∙◌, append_assoc}
use Rattle.std.proofs.Common.{arith}
use Rattle.std.specs.List.{AllByRecursion, IsDistinct, filter}
use Rattle.std.specs.Map.{keys_of, lookup, lookup_entry, remove_entry}
use Rattle.std.proofs.lemmas.Bool.{eq-eqb, eqb-false, eqb-true, ne_eqb, lt-ltb, le-leb}
use Rattle.std.proofs.lemmas.Bool.Decides.{nat_tests}
use Rattle.std.proofs.lemmas.List.{take_more, drop_more}
use Rattle.std.proofs.lemmas.Map.Keys.{IsDistinct-head, IsDistinct-tail}
use Rattle.std.proofs.lemmas.Map.Entries.{lookup-filter-keys}
use Rattle.lru.specs.LruCache.{promoted}
use Rattle.page_cache.specs.Kept.{is_on_run}

-- the test of a run, from its borders
pub on_run : (first pages q : ℕ) → first ≤ q → q < first + pages → is_on_run first pages q ≡ true
on_run first pages q from to = rw (le-leb first q from, lt-ltb q (first + pages) to) refl

pub off_run : (first pages q : ℕ) → (q < first) ⊎ (first + pages ≤ q) → is_on_run first pages q ≡ false
off_run first pages q away = grind (arith, nat_tests, away)

module _ {V : Type 0} where
  -- the entries that stay
  abbrev pub off : ℕ → ℕ → List (ℕ × V) → List (ℕ × V)
  off first pages es = filter (λ e. not (is_on_run first pages e.0)) es

  -- a fact on all keys is one on the last
  last-key : (P : ℕ → Type 0) (before : List (ℕ × V)) (last : ℕ × V) → AllByRecursion P (keys_of (before ++ last ∷ [])) → P last.0
  last-key P [] last all = all.0
  last-key P (e ∷ before) last all = last-key P before last all.1

  -- the last entry is found by its page, since those before it are of other pages
  found-last : (before : List (ℕ × V)) (last : ℕ × V) → IsDistinct nat_eq (keys_of (before ++ last ∷ []))
      → lookup_entry (nat_eq last.0) (before ++ last ∷ []) ≡ Some last
  found-last [] last distinct = rw (eq-eqb last.0 last.0 refl) refl
  found-last (e ∷ before) last distinct =
      let keys = keys_of (before ++ last ∷ []) in
      let differ = last-key (λ k. nat_eq e.0 k ≡ false) before last (IsDistinct-head nat_eq e.0 keys distinct) in
      let other = ne_eqb last.0 e.0 (λ same. eqb-false e.0 last.0 differ (sym same)) in
      rw other (found-last before last (IsDistinct-tail nat_eq e.0 keys distinct))

  -- and it alone is taken out
  removed-last : (before : List (ℕ × V)) (last : ℕ × V) → IsDistinct nat_eq (keys_of (before ++ last ∷ []))
      → remove_entry (nat_eq last.0) (before ++ last ∷ []) ≡ before
  removed-last [] last distinct = rw (eq-eqb last.0 last.0 refl) refl
  removed-last (e ∷ before) last distinct =
      let keys = keys_of (before ++ last ∷ []) in
      let differ = last-key (λ k. nat_eq e.0 k ≡ false) before last (IsDistinct-head nat_eq e.0 keys distinct) in
      let other = ne_eqb last.0 e.0 (λ same. eqb-false e.0 last.0 differ (sym same)) in
      rw other (ap (λ (es : List (ℕ × V)). e ∷ es) (removed-last before last (IsDistinct-tail nat_eq e.0 keys distinct)))

  -- the last entry goes first
  pub promoted-last : (before : List (ℕ × V)) (last : ℕ × V) → IsDistinct nat_eq (keys_of (before ++ last ∷ []))
      → promoted (nat_eq last.0) (before ++ last ∷ []) ≡ last ∷ before
  promoted-last before last distinct =
      rw (found-last before last distinct) (ap (λ (es : List (ℕ × V)). last ∷ es) (removed-last before last distinct))

  -- one turn more: k entries are left to look at, and the others stand before them, those of the run alone gone
  pub turned-next : (first pages k : ℕ) (es now new : List (ℕ × V)) (d : ℕ × V) → k < length es
      → now ≡ off first pages (drop (k + 1) es) ++ take (k + 1) es
      → ((before : List (ℕ × V)) (last : ℕ × V) → now ≡ before ++ last ∷ []
      → new ≡ (if is_on_run first pages last.0 then before else last ∷ before))
      → new ≡ off first pages (drop k es) ++ take k es
  turned-next first pages k es now new d within shape turned =
      let e = get_or es k d in
      let front = off first pages (drop (k + 1) es) in
      let whole : now ≡ (front ++ take k es) ++ e ∷ [] =
      shape ∙ ap (λ (xs : List (ℕ × V)). front ++ xs) (take_more es k d within) ∙ sym (append_assoc front (take k es) (e ∷ [])) in
      let rest = ap (λ (xs : List (ℕ × V)). off first pages xs ++ take k es) (drop_more es k d within) in
      turned (front ++ take k es) e whole
      ∙ (elim (is_on_run first pages e.0) as (λ b. is_on_run first pages e.0 ≡ b
      → (if is_on_run first pages e.0 then front ++ take k es else e ∷ (front ++ take k es))
      ≡ off first pages (e ∷ drop (k + 1) es) ++ take k es) [
        | true ↦ λ t. rw t refl
        | false ↦ λ t. rw t refl
      ]) refl
      ∙ sym rest

  -- a page of the run has no entry among those that stay
  pub lookup-off_gone : (first pages q : ℕ) (es : List (ℕ × V)) → is_on_run first pages q ≡ true
      → lookup (nat_eq q) (off first pages es) ≡ None
  lookup-off_gone first pages q es on =
      lookup-filter-keys (nat_eq q) (λ k. not (is_on_run first pages k)) false
      (λ k same. ap (λ (n : ℕ). not (is_on_run first pages n)) (sym (eqb-true q k same)) ∙ ap not on) es

  -- and another page has the one that it had
  pub lookup-off_same : (first pages q : ℕ) (es : List (ℕ × V)) → is_on_run first pages q ≡ false
      → lookup (nat_eq q) (off first pages es) ≡ lookup (nat_eq q) es
  lookup-off_same first pages q es away =
      lookup-filter-keys (nat_eq q) (λ k. not (is_on_run first pages k)) true
      (λ k same. ap (λ (n : ℕ). not (is_on_run first pages n)) (sym (eqb-true q k same)) ∙ ap not away) es
