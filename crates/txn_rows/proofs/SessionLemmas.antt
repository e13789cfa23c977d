-- What a session at work keeps.
use Rattle.std.proofs.Common.{◌≡◌, ℕ, zero, suc, ◌<◌, ◌++◌, Bool, true, List, [], ◌∷◌, length, map, refl, ap, sym, ◌∙◌, subst, arith}
use Rattle.std.proofs.Common.{Option, Some}
use Rattle.std.proofs.Common.{None}
use Rattle.std.proofs.Common.{All, slice_get, slice_index_or}
use Rattle.std.specs.Prelude.{IfSome}
use Rattle.std.proofs.lemmas.List.Elements.{All-nil, All-head, All-tail, All-push}
use Rattle.eos_ops.specs.declared.end.End.{End}
use Rattle.eos_ops.specs.declared.plain.Plain.TheVariants.{Absent}
use Rattle.geometry_model.specs.Numbers.{Numbers}
use Rattle.history.specs.Annals.{IsLegal}
use Rattle.object_body.specs.declared.object.Object.{Object}
use Rattle.object_body.specs.Form.{Form, Contents, listed}
use Rattle.object_body.specs.Object.{IsLegalBody}
use Rattle.object_body.specs.Places.{IsReady}
use Rattle.object_locks.specs.Shelving.{Terms}
use Rattle.object_locks.specs.Solo.{solo_shelving, AreSuited}
use Rattle.shadow_txn.specs.declared.held.Held.{Held}
use Rattle.shadow_txn.specs.Held.{held_object}
use Rattle.shadow_txn.specs.Transaction.{Transaction, with_end}
use Rattle.superdirectory.specs.Grants.{KeepsFrame}
use Rattle.superdirectory.specs.Rest.{Rest, count}
use Rattle.body_txn.specs.Fields.{at_annals, frame_by, LegalBy}
use Rattle.body_txn.specs.Serving.{ServesTxn, GoesOn}
use Rattle.body_txn.proofs.ServingLemmas.{listed-one}
use Rattle.txn_rows.specs.Session.{IsAtWork, AreFresh}

-- a held object is of the session's store
pub of-store : {B H : Type 0} (tells : Bool) (form : B → Form) (contents : B → Contents) (told : H → Option (List End)) (last : H → ℕ)
    (txn : Transaction (Object B H)) (slots : List (Option (Object B H))) (rest : Rest) (page : ℕ)
    (work : IsAtWork tells form contents told last txn slots rest page)
    → (o : ℕ) (x : Object B H) → held_object o txn.held ≡ Some x → (form x.body).numbers ≡ work.numbers
of-store tells form contents told last txn slots rest page work o x found = listed-one _ _ ((work.agree o x found).framed ∙ work.framed)

-- so the port and the spaces fit its body
if-held : {T : Type 0} (o : ℕ) (held : List (Held T)) (P : T → Type 0) (r : Option T) → held_object o held ≡ r
    → ((x : T) → held_object o held ≡ Some x → P x) → IfSome r P
if-held o held P None e each = tt
if-held o held P (Some x) e each = each x e

pub sized-held : {B H : Type 0} (tells : Bool) (form : B → Form) (contents : B → Contents) (told : H → Option (List End)) (last : H → ℕ)
    (txn : Transaction (Object B H)) (slots : List (Option (Object B H))) (rest : Rest) (page : ℕ)
    → IsAtWork tells form contents told last txn slots rest page → (o : ℕ)
    → IfSome (held_object o txn.held) (λ x. page ≡ (form x.body).numbers.page)
sized-held tells form contents told last txn slots rest page work o =
    if-held o txn.held (λ x. page ≡ (form x.body).numbers.page) (held_object o txn.held) refl
    (λ x found. work.sized ∙ sym (ap (λ n. n.page) (of-store tells form contents told last txn slots rest page work o x found)))

pub ready-held : {B H : Type 0} (tells : Bool) (form : B → Form) (contents : B → Contents) (told : H → Option (List End)) (last : H → ℕ)
    (txn : Transaction (Object B H)) (slots : List (Option (Object B H))) (rest : Rest) (page : ℕ)
    → IsAtWork tells form contents told last txn slots rest page
    → (o : ℕ) (x : Object B H) → held_object o txn.held ≡ Some x → IsReady (form x.body).numbers rest
ready-held tells form contents told last txn slots rest page work o x found =
    subst (λ n. IsReady n rest) (sym (of-store tells form contents told last txn slots rest page work o x found)) work.ready

pub ready-one : {B H : Type 0} (tells : Bool) (form : B → Form) (contents : B → Contents) (told : H → Option (List End)) (last : H → ℕ)
    (txn : Transaction (Object B H)) (slots : List (Option (Object B H))) (rest : Rest) (page : ℕ)
    → IsAtWork tells form contents told last txn slots rest page → (o : ℕ)
    → IfSome (held_object o txn.held) (λ x. IsReady (form x.body).numbers rest)
ready-one tells form contents told last txn slots rest page work o =
    if-held o txn.held (λ x. IsReady (form x.body).numbers rest) (held_object o txn.held) refl
    (ready-held tells form contents told last txn slots rest page work o)

pub some-space : {B H : Type 0} (tells : Bool) (form : B → Form) (contents : B → Contents) (told : H → Option (List End)) (last : H → ℕ)
    (txn : Transaction (Object B H)) (slots : List (Option (Object B H))) (rest : Rest) (page : ℕ)
    → IsAtWork tells form contents told last txn slots rest page → 0 < count rest
some-space tells form contents told last txn slots rest page work = omega (arith, work.ready.store.number, work.some)

-- after a command on a held object the session is at work still
pub still : {B H : Type 0} (tells : Bool) (form : B → Form) (contents : B → Contents) (told : H → Option (List End)) (last : H → ℕ)
    (txn new : Transaction (Object B H)) (slots : List (Option (Object B H))) (rest : Rest) (page : ℕ)
    → IsAtWork tells form contents told last txn slots rest page
    → GoesOn (at_annals told) (at_annals last) (frame_by form) (LegalBy tells told contents) txn new
    → IsAtWork tells form contents told last new slots rest page
still tells form contents told last txn new slots rest page work on = record {
  serves = on.serves _ work.serves;
  terms = work.terms;
  suited = work.suited;
  agree = on.agree work.terms work.agree;
  numbers = work.numbers;
  framed = work.framed;
  ready = work.ready;
  sized = work.sized;
  some = work.some;
}

-- and when the spaces and the port were used
pub moved : {B H : Type 0} (tells : Bool) (form : B → Form) (contents : B → Contents) (told : H → Option (List End)) (last : H → ℕ)
    (txn : Transaction (Object B H)) (slots : List (Option (Object B H))) (rest now : Rest) (page size : ℕ)
    → IsAtWork tells form contents told last txn slots rest page → KeepsFrame rest now → size ≡ page
    → IsAtWork tells form contents told last txn slots now size
moved tells form contents told last txn slots rest now page size work kept same = record {
  serves = work.serves;
  terms = work.terms;
  suited = work.suited;
  agree = work.agree;
  numbers = work.numbers;
  framed = work.framed;
  ready = record { store = rw kept.frame work.ready.store; none = kept.entered };
  sized = same ∙ work.sized;
  some = work.some;
}

-- and when the transaction is over
pub over : {B H : Type 0} (tells : Bool) (form : B → Form) (contents : B → Contents) (told : H → Option (List End)) (last : H → ℕ)
    (txn new : Transaction (Object B H)) (stamp : ℕ) (slots home : List (Option (Object B H))) (rest : Rest) (page : ℕ)
    → (work : IsAtWork tells form contents told last txn slots rest page) → new ≡ with_end txn stamp
    → ServesTxn (at_annals told) (at_annals last) new (solo_shelving home)
    → AreSuited (frame_by form) (LegalBy tells told contents) home work.terms
    → IsAtWork tells form contents told last new home rest page
over {B} {H} tells form contents told last txn new stamp slots home rest page work ended serves suited = record {
  serves = serves;
  terms = work.terms;
  suited = suited;
  agree = λ o x found.
      let wrong : held_object {T = Object B H} o [] ≡ Some x = ap (λ t. held_object o t.held) (sym ended) ∙ found in absurd cc;
  numbers = work.numbers;
  framed = work.framed;
  ready = work.ready;
  sized = work.sized;
  some = work.some;
}

-- a shelf for one thread serves a transaction that holds nothing
pub serves-solo : {T : Type 0} (told : T → Option (List End)) (last : T → ℕ) (t : Transaction T) (slots : List (Option T))
    → t.held ≡ [] → length slots ≡ t.objects → ServesTxn told last t (solo_shelving slots)
serves-solo {T} told last t slots none count = record {
  objects = count;
  session = tt;
  came = λ o x found. let wrong : held_object {T = T} o [] ≡ Some x = subst (λ held. held_object o held ≡ Some x) none found in absurd cc;
  just = tt;
  past = tt;
}

-- an object without ends is legal from what it is
fresh-legal : (tells : Bool) (ends : Option (List End)) (told : Contents) → IfSome ends (λ es. es ≡ [])
    → IsLegalBody tells ends told.committed told
fresh-legal tells None told none = λ tell. tt
fresh-legal tells (Some es) told none = λ tell.
    subst (λ fs. IsLegal told.committed fs told.committed) (sym none) (record { stamps = tt; replays = refl })

-- and of its store, it suits the terms that the objects begin with
fresh-at : {B H : Type 0} (tells : Bool) (form : B → Form) (contents : B → Contents) (told : H → Option (List End)) (n : Numbers)
    (objects : List (Object B H)) → All (λ (x : Object B H). IfSome (told x.annals) (λ ends. ends ≡ [])) objects
    → All (λ (x : Object B H). (form x.body).numbers ≡ n) objects
    → (o : ℕ) (value : Object B H) → slice_get (map Some objects) o ≡ Some (Some value)
    → ((form value.body).numbers ≡ n)
    × LegalBy tells told contents (slice_index_or (map (λ (x : Object B H). (contents x.body).committed) objects) o Absent) value
fresh-at tells form contents told n [] none of o value found = absurd cc
fresh-at tells form contents told n (x ∷ objects) none of zero value found =
    let same : x ≡ value = cc in (
      subst (λ (v : Object _ _). (form v.body).numbers ≡ n) same (All-head (λ (y : Object _ _). (form y.body).numbers ≡ n) x objects of),
      subst (LegalBy tells told contents (contents x.body).committed) same
          (fresh-legal tells (told x.annals) (contents x.body)
          (All-head (λ (y : Object _ _). IfSome (told y.annals) (λ ends. ends ≡ [])) x objects none)),
    )
fresh-at tells form contents told n (x ∷ objects) none of (suc o) value found =
    fresh-at tells form contents told n objects (All-tail (λ (y : Object _ _). IfSome (told y.annals) (λ ends. ends ≡ [])) x objects none)
    (All-tail (λ (y : Object _ _). (form y.body).numbers ≡ n) x objects of) o value found

-- one object more
pub fresh-push : {B H : Type 0} (form : B → Form) (told : H → Option (List End)) (n : Numbers) (objects : List (Object B H))
    (x : Object B H)
    → (form x.body).numbers ≡ n → (form x.body).is_resting ≡ true → IfSome (told x.annals) (λ ends. ends ≡ [])
    → AreFresh form told n objects → AreFresh form told n (objects ++ x ∷ [])
fresh-push form told n objects x of rests none fresh = record {
  of_store = All-push (λ (y : Object _ _). (form y.body).numbers ≡ n) objects x fresh.of_store of;
  at_rest = All-push (λ (y : Object _ _). (form y.body).is_resting ≡ true) objects x fresh.at_rest rests;
  new = All-push (λ (y : Object _ _). IfSome (told y.annals) (λ ends. ends ≡ [])) objects x fresh.new none;
}

pub fresh-none : {B H : Type 0} (form : B → Form) (told : H → Option (List End)) (n : Numbers) → AreFresh {B = B} {H = H} form told n []
fresh-none form told n = record { of_store = All-nil _; at_rest = All-nil _; new = All-nil _ }

-- a session that begins
pub at-first : {B H : Type 0} (tells : Bool) (form : B → Form) (contents : B → Contents) (told : H → Option (List End)) (last : H → ℕ)
    (n : Numbers) (txn : Transaction (Object B H)) (objects : List (Object B H)) (slots : List (Option (Object B H))) (rest : Rest)
    (page : ℕ)
    → txn.held ≡ [] → slots ≡ map Some objects → length slots ≡ txn.objects
    → AreFresh form told n objects → IsReady n rest → page ≡ n.page → 0 < n.spaces
    → IsAtWork tells form contents told last txn slots rest page
at-first {B} {H} tells form contents told last n txn objects slots rest page idle home many fresh ready sized some =
    let terms : Terms = record { frame = listed n; opened = map (λ (x : Object B H). (contents x.body).committed) objects } in
    record {
      serves = serves-solo (at_annals told) (at_annals last) txn slots idle many;
      terms = terms;
      suited = subst (λ xs. AreSuited (frame_by form) (LegalBy tells told contents) xs terms) (sym home)
          (λ o value found. let at = fresh-at tells form contents told n objects fresh.new fresh.of_store o value found in
          record { framed = ap listed at.0; history = at.1 });
      agree = λ o x found. let wrong : held_object {T = Object B H} o [] ≡ Some x = subst (λ held. held_object o held ≡ Some x) idle found
          in absurd cc;
      numbers = n;
      framed = refl;
      ready = ready;
      sized = sized;
      some = some;
    }
