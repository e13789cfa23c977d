-- An object that is let go without an end.
use Rattle.std.proofs.Common.{◌≡◌, ℕ, List, ap, sym, ◌∙◌, subst, ⊎_elim, Option, Some, None}
use Rattle.std.specs.Prelude.{IfSome, IsSomeAnd}
use Rattle.std.specs.Option.{option_map}
use Rattle.eos_ops.specs.declared.end.End.{End}
use Rattle.eos_ops.specs.declared.plain.Plain.{Plain}
use Rattle.object_locks.specs.Shelving.{Shelving, Terms, IsPut, with_put}
use Rattle.shadow_txn.specs.declared.held.Held.{Held}
use Rattle.shadow_txn.specs.Held.{held_object, without_held, AreDistinct}
use Rattle.shadow_txn.specs.Transaction.{Transaction, holding}
use Rattle.shadow_txn.proofs.HalfwayLemmas.{log_kept}
use Rattle.shadow_txn.proofs.HeldLemmas.{held_object-without_held, held_object-without_none}
use Rattle.shadow_txn.proofs.LettingGoLemmas.{none_added}
use Rattle.shadow_txn.proofs.ServingLemmas.{if_some}
use Rattle.body_txn.specs.Serving.{ServesTxn, KeepTerms}

pub serves-without_held : {T : Type 0} (told : T → Option (List End)) (last : T → ℕ) (t : Transaction T) (o : ℕ) (x : T)
    (old new : Shelving T)
    → ServesTxn told last t old → held_object o t.held ≡ Some x → AreDistinct t.held → IsPut (told x) o x old new
    → ServesTxn told last (holding t (without_held o t.held)) new
serves-without_held told last t o x old new s held apart put =
    let log : new.log ≡ old.log =
    put.log
    ∙ ap (λ added. option_map (with_put o added) old.log) (none_added (old.out o) (told x) (s.came o x held))
    ∙ log_kept o old.log in
    record {
      objects = put.same.objects ∙ s.objects;
      session = if_some old.session new.session put.same.session (λ i own. own) s.session;
      came = λ q z found.
          let was = held_object-without_held o q z t.held apart found in
          subst (λ out. IsSomeAnd out (λ known. IfSome known (λ ends. told z ≡ Some ends))) (sym (put.others q was.0)) (s.came q z was.1);
      just = if_some old.session new.session put.same.session
          (λ i free q gone.
          ⊎_elim
          (λ (same : q ≡ o). ap new.out same ∙ put.gone)
          (λ (was : held_object q t.held ≡ None). put.others q (λ same. let e = ap (λ n. held_object n t.held) same in cc) ∙ free q was)
          (held_object-without_none o q t.held gone))
          s.just;
      past = if_some old.log new.log log
          (λ g past. record {
            seen = λ q z found. past.seen q z (held_object-without_held o q z t.held apart found).1;
            number = past.number;
            stamp = past.stamp;
          })
          s.past;
    }

-- the terms are kept
pub agree-without_held : {T : Type 0} (frame : T → List ℕ) (legal : Plain → T → Type 0) (terms : Terms) (o : ℕ) (held : List (Held T))
    → AreDistinct held → KeepTerms frame legal terms held → KeepTerms frame legal terms (without_held o held)
agree-without_held frame legal terms o held apart fits = λ q y found. fits q y (held_object-without_held o q y held apart found).1
