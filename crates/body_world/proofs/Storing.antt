-- What a session sees stays of one store while it takes an object and a command works on it.
use Rattle.std.proofs.Common.{◌≡◌, ℕ, List, Option, Some, slice_get, ap, sym, ◌∙◌, subst, inl, inr}
use Rattle.std.specs.Prelude.{IfSome}
use Rattle.std.proofs.lemmas.Bool.{cases_eq}
use Rattle.base_laws.proofs.OptionLaws.{some-inner}
use Rattle.geometry_model.specs.Numbers.{Numbers}
use Rattle.object_body.specs.Places.{IsReady as IsReadyAt}
use Rattle.shadow_txn.specs.Held.{held_object, with_object}
use Rattle.shadow_txn.specs.Transaction.{Transaction, holding}
use Rattle.world.proofs.HeldLists.{held_object-with_same, held_object-with_other}
use Rattle.body_world.specs.Served.{Works, IsOfStore, IsInStore}
use Rattle.body_world.specs.Session.{Shown, Seen, in_hand, home_seen, own_seen, seen_by}
use Rattle.body_world.proofs.Holding.{IsReady}
use Rattle.body_world.proofs.Sights.{seen-held}

-- the object in hand is of the store
pub numbers-ready : {T : Type 0} (show : T → Shown) (n : Numbers) (o : ℕ) (x : T) (shelf shelf' : List (Option T))
    (txn txn' : Transaction T) (works : Works) → IsOfStore show n shelf txn works → IsReady show o x shelf txn shelf' txn'
    → (show x).form.numbers ≡ n
numbers-ready show n o x shelf shelf' txn txn' works store ready =
    ap (λ (s : Shown). s.form.numbers) (sym ready.object) ∙ store.objects o ready.was ready.seen

pub store-ready : {T : Type 0} (show : T → Shown) (n : Numbers) (o : ℕ) (x : T) (shelf shelf' : List (Option T))
    (txn txn' : Transaction T) (works : Works) → IsOfStore show n shelf txn works → IsReady show o x shelf txn shelf' txn'
    → IsOfStore show n shelf' txn' works
store-ready show n o x shelf shelf' txn txn' works store ready = record {
  objects = λ p seen sees. elim (cases_eq p o) [
    | inl this ↦
        let here : seen_by show shelf' txn' p ≡ Some (in_hand txn'.session (show x)) =
        ap (seen_by show shelf' txn') this ∙ seen-held show shelf' txn' o x ready.found in
        let same : in_hand txn'.session (show x) ≡ seen = some-inner (in_hand txn'.session (show x)) seen (sym here ∙ sees) in
        subst (λ (s : Seen). s.object.form.numbers ≡ n) same (numbers-ready show n o x shelf shelf' txn txn' works store ready)
    | inr other ↦ store.objects p seen (sym (ready.others p other) ∙ sees)
  ];
  ready = store.ready;
  sized = store.sized;
}

-- and after a command that leaves its numbers
pub store-worked : {T : Type 0} (show : T → Shown) (n : Numbers) (o : ℕ) (was now : T) (shelf : List (Option T)) (txn : Transaction T)
    (works : Works) → IsOfStore show n shelf txn works → held_object o txn.held ≡ Some was
    → (show now).form.numbers ≡ (show was).form.numbers → IsOfStore show n shelf (holding txn (with_object o now txn.held)) works
store-worked {T} show n o was now shelf txn works store found same = record {
  objects = λ p seen sees. elim (cases_eq p o) [
    | inl this ↦
        let here : seen_by show shelf (holding txn (with_object o now txn.held)) p ≡ Some (in_hand txn.session (show now)) =
        ap (seen_by show shelf (holding txn (with_object o now txn.held))) this
        ∙ seen-held show shelf (holding txn (with_object o now txn.held)) o now (held_object-with_same o was now txn.held found) in
        let is : in_hand txn.session (show now) ≡ seen = some-inner (in_hand txn.session (show now)) seen (sym here ∙ sees) in
        subst (λ (s : Seen). s.object.form.numbers ≡ n) is
        (same ∙ store.objects o (in_hand txn.session (show was)) (seen-held show shelf txn o was found))
    | inr other ↦ store.objects p seen
        (sym (ap (λ held. own_seen show txn.session held (home_seen show (slice_get shelf p)))
        (held_object-with_other o p now txn.held other)) ∙ sees)
  ];
  ready = store.ready;
  sized = store.sized;
}

-- the spaces and the port are those of a held object
pub in-store : {T : Type 0} (show : T → Shown) (n : Numbers) (o : ℕ) (x : T) (shelf : List (Option T)) (txn : Transaction T) (works : Works)
    → IsOfStore show n shelf txn works → held_object o txn.held ≡ Some x → IsInStore show o txn.held works
in-store {T} show n o x shelf txn works store found =
    let numbers : (show x).form.numbers ≡ n = store.objects o (in_hand txn.session (show x)) (seen-held show shelf txn o x found) in
    subst (λ held. IfSome held (λ (y : T). (works.meter.page ≡ (show y).form.numbers.page)
    × IsReadyAt (show y).form.numbers works.spaces.rest)) (sym found) (
      store.sized ∙ ap (λ (m : Numbers). m.page) (sym numbers),
      subst (λ m. IsReadyAt m works.spaces.rest) (sym numbers) store.ready,
    )
