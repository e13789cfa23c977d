-- What a look-up finds after an entry was moved, put in or taken out.
use Rattle.std.proofs.Common.{◌≡◌, ℕ, zero, suc, ◌+◌, ◌-◌, ◌≤◌, true, false, List, [], ◌∷◌, length, take, nat_eq}
use Rattle.std.proofs.Common.{Option, Some, None, IfSome, refl, sym, ap, ◌∙◌, inl, inr, arith}
use Rattle.std.specs.Map.{lookup, lookup_entry, remove_entry}
use Rattle.std.proofs.lemmas.Bool.{eqb-true, eq-eqb, ne_eqb}
use Rattle.std.proofs.lemmas.Bool.Decides.{eqb_tells}
use Rattle.std.proofs.lemmas.List.{length-take}
use Rattle.lru.specs.LruCache.{LruCache, promoted, put_entries}
use Rattle.lru.proofs.CallerLemmas.{Contains-lookup_entry}

-- a number that passes the test of another is tested alike
pub eqb-moves : (k x y : ℕ) → nat_eq k x ≡ true → nat_eq k y ≡ nat_eq x y
eqb-moves k x y t = ap (λ (n : ℕ). nat_eq n y) (eqb-true k x t)

module _ {V : Type 0} where
  -- a page's node is that of its entry
  lookup-entry : (q : ℕ) (es : List (ℕ × V)) (e : ℕ × V) → lookup_entry (nat_eq q) es ≡ Some e → lookup (nat_eq q) es ≡ Some e.1
  lookup-entry q [] e h = cc
  lookup-entry q (f ∷ es) e h = (elim (nat_eq q f.0) as (λ b. nat_eq q f.0 ≡ b → lookup (nat_eq q) (f ∷ es) ≡ Some e.1) [
    | true ↦ λ t. let h' = rw t at h in let same : f ≡ e = cc in rw (t, same) refl
    | false ↦ λ t. rw t (lookup-entry q es e (rw t at h))
  ]) refl

  -- another page's node stays
  pub lookup-remove_other : (q k : ℕ) (es : List (ℕ × V)) → (q ≡ k → ⊥)
      → lookup (nat_eq q) (remove_entry (nat_eq k) es) ≡ lookup (nat_eq q) es
  lookup-remove_other q k [] ne = refl
  lookup-remove_other q k (e ∷ es) ne = (elim (nat_eq k e.0) as (λ b. nat_eq k e.0 ≡ b →
      lookup (nat_eq q) (remove_entry (nat_eq k) (e ∷ es)) ≡ lookup (nat_eq q) (e ∷ es)) [
        | true ↦ λ t.
            let same = eqb-true k e.0 t in
            let other = ne_eqb q e.0 (λ x. ne (x ∙ sym same)) in
            rw (t, other) refl
        | false ↦ λ t. rw (t, lookup-remove_other q k es ne) refl
      ]) refl

  -- every page's node stays where one entry is moved to the front
  moved : (q k : ℕ) (es : List (ℕ × V)) (e : ℕ × V) → lookup_entry (nat_eq k) es ≡ Some e
      → lookup (nat_eq q) (e ∷ remove_entry (nat_eq k) es) ≡ lookup (nat_eq q) es
  moved q k es e h =
      let named = eqb-true k e.0 (Contains-lookup_entry (nat_eq k) es e h).1 in
      elim (eqb_tells q k) [
        | inl here ↦
            let there : lookup (nat_eq q) es ≡ Some e.1 = ap (λ (n : ℕ). lookup (nat_eq n) es) here.1 ∙ lookup-entry k es e h in
            let passes = eq-eqb q e.0 (here.1 ∙ named) in
            rw passes (sym there)
        | inr away ↦
            let fails = ne_eqb q e.0 (λ x. away.1 (x ∙ sym named)) in
            rw fails (lookup-remove_other q k es away.1)
      ]

  pub lookup-promoted : (q k : ℕ) (es : List (ℕ × V)) → lookup (nat_eq q) (promoted (nat_eq k) es) ≡ lookup (nat_eq q) es
  lookup-promoted q k es = (elim (lookup_entry (nat_eq k) es) as (λ o. lookup_entry (nat_eq k) es ≡ o →
      lookup (nat_eq q) (promoted (nat_eq k) es) ≡ lookup (nat_eq q) es) [
        | None ↦ λ h. rw h refl
        | Some e ↦ λ h. rw h (moved q k es e h)
      ]) refl

  -- among the first entries a page has the node that it has among all, or none
  lookup-take : (q n : ℕ) (es : List (ℕ × V)) → IfSome (lookup (nat_eq q) (take n es)) (λ v. lookup (nat_eq q) es ≡ Some v)
  lookup-take q zero es = tt
  lookup-take q (suc n) [] = tt
  lookup-take q (suc n) (e ∷ es) = (elim (nat_eq q e.0) as (λ b. nat_eq q e.0 ≡ b →
      IfSome (lookup (nat_eq q) (take (suc n) (e ∷ es))) (λ v. lookup (nat_eq q) (e ∷ es) ≡ Some v)) [
        | true ↦ λ t. rw t refl
        | false ↦ λ t. rw t (lookup-take q n es)
      ]) refl

  some-itself : (o : Option V) → IfSome o (λ v. o ≡ Some v)
  some-itself None = tt
  some-itself (Some v) = refl

  -- after a node was put in, another page has the node that it had, or none
  pub lookup-put_other : (q k : ℕ) (v : V) (c : LruCache ℕ V) → (q ≡ k → ⊥)
      → IfSome (lookup (nat_eq q) (put_entries nat_eq c k v)) (λ w. lookup (nat_eq q) c.entries ≡ Some w)
  lookup-put_other q k v c ne = (elim (lookup_entry (nat_eq k) c.entries) as (λ o. lookup_entry (nat_eq k) c.entries
      ≡ o → IfSome (lookup (nat_eq q) (put_entries nat_eq c k v)) (λ w. lookup (nat_eq q) c.entries ≡ Some w)) [
        | None ↦ λ h. rw (h, ne_eqb q k ne) (lookup-take q (c.cap - 1) c.entries)
        | Some e ↦ λ h.
            let named = eqb-true k e.0 (Contains-lookup_entry (nat_eq k) c.entries e h).1 in
            let fails = ne_eqb q e.0 (λ x. ne (x ∙ sym named)) in
            rw (h, fails, lookup-remove_other q k c.entries ne) (some-itself (lookup (nat_eq q) c.entries))
      ]) refl

  -- there is one entry less where one was found
  length-remove_entry : (k : ℕ) (es : List (ℕ × V)) (e : ℕ × V) → lookup_entry (nat_eq k) es ≡ Some e →
      length (remove_entry (nat_eq k) es) + 1 ≡ length es
  length-remove_entry k [] e h = cc
  length-remove_entry k (f ∷ es) e h = (elim (nat_eq k f.0) as (λ b. nat_eq k f.0 ≡ b →
      length (remove_entry (nat_eq k) (f ∷ es)) + 1 ≡ length (f ∷ es)) [
        | true ↦ λ t. rw t (omega arith)
        | false ↦ λ t. let rest = length-remove_entry k es e (rw t at h) in rw t (omega (arith, rest))
      ]) refl

  pub length-promoted : (k : ℕ) (es : List (ℕ × V)) → length (promoted (nat_eq k) es) ≡ length es
  length-promoted k es = (elim (lookup_entry (nat_eq k) es) as (λ o. lookup_entry (nat_eq k) es ≡ o →
      length (promoted (nat_eq k) es) ≡ length es) [
        | None ↦ λ h. rw h refl
        | Some e ↦ λ h. let one = length-remove_entry k es e h in rw h (omega (arith, one))
      ]) refl

  -- taking an entry out makes no more of them
  pub length-removed : (k : ℕ) (es : List (ℕ × V)) → length (remove_entry (nat_eq k) es) ≤ length es
  length-removed k [] = omega arith
  length-removed k (f ∷ es) = (elim (nat_eq k f.0) as (λ b. nat_eq k f.0 ≡ b →
      length (remove_entry (nat_eq k) (f ∷ es)) ≤ length (f ∷ es)) [
        | true ↦ λ t. rw t (omega arith)
        | false ↦ λ t. let rest = length-removed k es in rw t (omega (arith, rest))
      ]) refl

  -- a node that is put in makes no more entries than there may be
  pub length-put : (k : ℕ) (v : V) (c : LruCache ℕ V) → 1 ≤ c.cap → length c.entries ≤ c.cap → length (put_entries nat_eq c k v) ≤ c.cap
  length-put k v c some few = (elim (lookup_entry (nat_eq k) c.entries) as (λ o. lookup_entry (nat_eq k) c.entries
      ≡ o → length (put_entries nat_eq c k v) ≤ c.cap) [
        | None ↦ λ h. let n = length-take (c.cap - 1) c.entries in rw h (omega (arith, n))
        | Some e ↦ λ h. let one = length-remove_entry k c.entries e h in rw h (omega (arith, one))
      ]) refl
