-- What a session and its shelf keep in tests.
use Rattle.std.proofs.Common.{◌≡◌, ℕ, zero, suc, List, [], ◌∷◌, length, map, refl, sym, subst, Option, Some, None}
use Rattle.std.proofs.Common.{All, slice_get, slice_index_or}
use Rattle.std.specs.Prelude.{Bool, true, false, IfSome}
use Rattle.std.proofs.lemmas.List.Elements.{All-head, All-tail}
use Rattle.eos_ops.specs.declared.end.End.{End}
use Rattle.eos_ops.specs.declared.plain.Plain.{Plain}
use Rattle.eos_ops.specs.declared.plain.Plain.TheVariants.{Absent}
use Rattle.history.specs.Annals.{IsLegal}
use Rattle.object_locks.specs.Shelving.{Terms}
use Rattle.object_locks.specs.Solo.{solo_shelving, AreSuited}
use Rattle.shadow_txn.specs.declared.plain_object.PlainObject.{PlainObject}
use Rattle.shadow_txn.specs.Held.{held_object}
use Rattle.shadow_txn.specs.Objects.{IsLegalObject}
use Rattle.shadow_txn.specs.Serving.{Serves, Agree}
use Rattle.shadow_txn.specs.Transaction.{Transaction}

-- a shelf for one thread serves a transaction that holds nothing
pub serves-solo : {H : Type 0} (told : H → Option (List End)) (last : H → ℕ) (t : Transaction (PlainObject H))
    (slots : List (Option (PlainObject H)))
    → t.held ≡ [] → length slots ≡ t.objects → Serves told last t (solo_shelving slots)
serves-solo told last t slots none count = record {
  objects = count;
  session = tt;
  came = λ o x found. let wrong : held_object {T = PlainObject _} o [] ≡ Some x =
      subst (λ held. held_object o held ≡ Some x) none found in absurd cc;
  just = tt;
  past = tt;
}

-- and keeps any terms without a frame
pub agree-none : {H : Type 0} (tells : Bool) (told : H → Option (List End)) (terms : Terms)
    (t : Transaction (PlainObject H)) → t.held ≡ [] → terms.frame ≡ [] → Agree tells told terms t.held
agree-none false told terms t none frame = frame
agree-none true told terms t none frame = (
  frame,
  λ o x found. let wrong : held_object {T = PlainObject _} o [] ≡ Some x =
      subst (λ held. held_object o held ≡ Some x) none found in absurd cc,
)

no_ends : (ends : Option (List End)) (x : Plain) → IfSome ends (λ es. es ≡ []) → IfSome ends (λ es. IsLegal x es x)
no_ends None x none = tt
no_ends (Some es) x none = subst (λ fs. IsLegal x fs x) (sym none) (record { stamps = tt; replays = refl })

-- objects without ends are legal from what they are
pub fresh_legal : {H : Type 0} (told : H → Option (List End)) (objects : List (PlainObject H)) →
    All (λ (x : PlainObject H). IfSome (told x.annals) (λ ends. ends ≡ [])) objects
    → (o : ℕ) (value : PlainObject H) → slice_get (map Some objects) o ≡ Some (Some value)
    → IsLegalObject told (slice_index_or (map (λ (x : PlainObject H). x.committed) objects) o Absent) value
fresh_legal told [] none o value found = absurd cc
fresh_legal told (x ∷ objects) none zero value found =
    let same : x ≡ value = cc in
    subst (IsLegalObject told x.committed) same
    (no_ends (told x.annals) x.committed (All-head
    (λ (y : PlainObject _). IfSome (told y.annals) (λ ends. ends ≡ [])) x objects none))
fresh_legal told (x ∷ objects) none (suc o) value found =
    fresh_legal told objects (All-tail (λ (y : PlainObject _). IfSome (told y.annals) (λ ends. ends ≡ [])) x objects none) o value found

pub fresh_suited : {H : Type 0} (told : H → Option (List End)) (objects : List (PlainObject H)) →
    All (λ (x : PlainObject H). IfSome (told x.annals) (λ ends. ends ≡ [])) objects
    → AreSuited (λ (x : PlainObject H). []) (IsLegalObject told) (map Some objects)
    (record { frame = []; opened = map (λ (x : PlainObject H). x.committed) objects })
fresh_suited told objects none o value found = record { framed = refl; history = fresh_legal told objects none o value found }
