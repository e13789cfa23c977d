-- A command on an object that was held, or has just been taken: the answer, and what goes back to the shelf.
use Rattle.std.proofs.Common.{◌≡◌, ℕ, Bool, true, false, List, Option, Some, None, IsSome, is_some}
use Rattle.std.proofs.Common.{refl, ap, sym, ◌∙◌, subst, inr}
use Rattle.std.specs.Prelude.{IfSome, IsSomeAnd}
use Rattle.std.proofs.lemmas.Bool.{false≢true}
use Rattle.base_laws.proofs.OptionLaws.{some-inner}
use Rattle.eos_ops.specs.declared.command.Command.{Command}
use Rattle.eos_ops.specs.declared.reply.Reply.{Reply}
use Rattle.eos_ops.specs.declared.reply.Reply.TheVariants as reply
use Rattle.geometry_model.specs.Numbers.{Numbers}
use Rattle.object_body.specs.Form.{Form, Contents}
use Rattle.object_locks.specs.Shelving.{IsPut}
use Rattle.object_locks.specs.Solo.{solo_shelving}
use Rattle.shadow_txn.specs.Held.{held_object, without_held}
use Rattle.shadow_txn.specs.Transaction.{Transaction, holding}
use Rattle.world.proofs.HeldLists.{held_object-with_same}
use Rattle.body_world.specs.Served.{Works, is_memory, IsAnswer, IsWorked, IsOfStore}
use Rattle.body_world.specs.Session.{Shown, IsSoundSession}
use Rattle.body_world.proofs.Holding.{HasIt, ready-from, ready-taken, sound-worked, served-kept}
use Rattle.body_world.proofs.Holding.{served-back}
use Rattle.body_world.proofs.Holding.{holder-held, holder-kept}
use Rattle.body_world.proofs.Made.{IsMade}
use Rattle.body_world.proofs.Storing.{store-ready, store-worked}
use Rattle.body_world.proofs.Taking.{put-shelf}

-- the object is held from then on
pub answer-kept : {T : Type 0} (tells : Bool) (suits : Contents → Type 0) (show : T → Shown)
    (Makes : Shown → Shown → Works → Works → Type 0) (c : Command) (o : ℕ) (r : Reply) (took : Bool) (shelf shelf' : List (Option T))
    (txn txn' txn'' : Transaction T) (before after : Works) → IsSoundSession shelf txn → txn.is_open ≡ true
    → HasIt show o took shelf txn shelf' txn' → (is_memory r ≡ true → took ≡ false)
    → IsWorked tells suits show (λ x y. Makes x y before after) c o r txn' txn''
    → IsAnswer tells suits show Makes c o r shelf txn before shelf' txn'' after
answer-kept {T} tells suits show Makes c o r took shelf shelf' txn txn' txn'' before after sound active has calm worked =
    let ready = ready-from show o took shelf shelf' txn txn' sound active has in
    inr (
      ready.1.free,
      served-kept tells suits show (λ x y. Makes x y before after) c o r ready.0 shelf shelf' txn txn' txn'' ready.1 active
          (holder-kept r txn.session ready.1.was.holder
          (λ memory. holder-held show shelf txn o ready.1.was ready.1.seen (own took has (calm memory)))) worked,
    )
  where
    own : (b : Bool) → HasIt show o b shelf txn shelf' txn' → b ≡ false → IsSome (held_object o txn.held)
    own false has is = ap is_some has.1
    own true has is = absurd (false≢true (sym is))

-- the object that a transaction worked on
now-held : {T : Type 0} (tells : Bool) (suits : Contents → Type 0) (show : T → Shown) (Makes : Shown → Shown → Type 0)
    (c : Command) (o : ℕ) (r : Reply) (txn txn' : Transaction T) → (worked : IsWorked tells suits show Makes c o r txn txn')
    → held_object o txn'.held ≡ Some worked.now
now-held {T} tells suits show Makes c o r txn txn' worked =
    ap (λ (t : Transaction T). held_object o t.held) worked.txn
    ∙ held_object-with_same o worked.was worked.now txn.held worked.held

-- there was no memory, and what was taken for this command goes back
pub answer-back : {T : Type 0} (tells : Bool) (suits : Contents → Type 0) (show : T → Shown)
    (Makes : Shown → Shown → Works → Works → Type 0) (c : Command) (o : ℕ) (r : Reply) (took : Bool) (shelf shelf' shelf'' : List
    (Option T))
    (txn txn' txn'' txn''' : Transaction T) (before after : Works) → IsSoundSession shelf txn → txn.is_open ≡ true
    → HasIt show o took shelf txn shelf' txn' → took ≡ true → r ≡ reply.Memory
    → IsWorked tells suits show (λ x y. Makes x y before after) c o r txn' txn''
    → txn''' ≡ holding txn'' (without_held o txn''.held)
    → IfSome (held_object o txn''.held) (λ x. IsPut None o x (solo_shelving shelf') (solo_shelving shelf''))
    → IsAnswer tells suits show Makes c o r shelf txn before shelf'' txn''' after
answer-back {T} tells suits show Makes c o r took shelf shelf' shelf'' txn txn' txn'' txn''' before after sound active has taken none worked
    less put =
    let g = subst (λ b. HasIt show o b shelf txn shelf' txn') taken has in
    let ready = ready-taken show o g.0 shelf shelf' txn txn' sound active g.1 in
    let at_memory : IsWorked tells suits show (λ x y. Makes x y before after) c o reply.Memory txn' txn'' =
    subst (λ t. IsWorked tells suits show (λ x y. Makes x y before after) c o t txn' txn'') none worked in
    let found : held_object o txn''.held ≡ Some at_memory.now =
    now-held tells suits show (λ x y. Makes x y before after) c o reply.Memory txn' txn'' at_memory in
    let was_put : IsPut None o at_memory.now (solo_shelving shelf') (solo_shelving shelf'') =
    subst (λ t. IfSome t (λ x. IsPut None o x (solo_shelving shelf') (solo_shelving shelf''))) found put in
    subst (λ t. IsAnswer tells suits show Makes c o t shelf txn before shelf'' txn''' after) (sym none)
    (inr (
      ready.free,
      served-back tells suits show (λ x y. Makes x y before after) c o g.0 shelf shelf' shelf'' txn txn' txn'' txn''' sound g.1 at_memory
          (put-shelf shelf' shelf'' o at_memory.now None (solo_shelving shelf') refl was_put) less,
    ))

-- the session after the command, before anything goes back
pub sound-after : {T : Type 0} (tells : Bool) (suits : Contents → Type 0) (show : T → Shown) (Makes : Shown → Shown → Type 0)
    (c : Command) (o : ℕ) (r : Reply) (took : Bool) (shelf shelf' : List (Option T)) (txn txn' txn'' : Transaction T)
    → IsSoundSession shelf txn → txn.is_open ≡ true → HasIt show o took shelf txn shelf' txn'
    → IsWorked tells suits show Makes c o r txn' txn'' → IsSoundSession shelf' txn''
sound-after tells suits show Makes c o r took shelf shelf' txn txn' txn'' sound active has worked =
    let ready = ready-from show o took shelf shelf' txn txn' sound active has in
    subst (IsSoundSession shelf') (sym worked.txn)
    (sound-worked o worked.now shelf' txn' ready.1.sound (ready.1.is_open ∙ active) (ap is_some ready.1.found))

-- it sees objects of one store
pub store-after : {T : Type 0} (tells : Bool) (suits : Contents → Type 0) (show : T → Shown) (Makes : Shown → Shown → Type 0)
    (n : Numbers) (c : Command) (o : ℕ) (r : Reply) (took : Bool) (shelf shelf' : List (Option T)) (txn txn' txn'' : Transaction T)
    (works before after : Works) → IsSoundSession shelf txn → txn.is_open ≡ true → HasIt show o took shelf txn shelf' txn'
    → IsOfStore show n shelf txn works → (worked : IsWorked tells suits show Makes c o r txn' txn'')
    → IsMade c r (show worked.was) (show worked.now) before after → IsOfStore show n shelf' txn'' works
store-after tells suits show Makes n c o r took shelf shelf' txn txn' txn'' works before after sound active has store worked made =
    let ready = ready-from show o took shelf shelf' txn txn' sound active has in
    subst (λ t. IsOfStore show n shelf' t works) (sym worked.txn)
    (store-worked show n o worked.was worked.now shelf' txn' works
    (store-ready show n o ready.0 shelf shelf' txn txn' works store ready.1) worked.held made.numbers)

-- an object that was taken and got no memory is at rest
pub rests-after : {T : Type 0} (tells : Bool) (suits : Contents → Type 0) (show : T → Shown) (Makes : Shown → Shown → Type 0)
    (c : Command) (o : ℕ) (r : Reply) (took : Bool) (shelf shelf' : List (Option T)) (txn txn' txn'' : Transaction T)
    (before after : Works) → IsSoundSession shelf txn → txn.is_open ≡ true → HasIt show o took shelf txn shelf' txn'
    → took ≡ true → r ≡ reply.Memory → (worked : IsWorked tells suits show Makes c o r txn' txn'')
    → IsMade c r (show worked.was) (show worked.now) before after
    → IsSomeAnd (held_object o txn''.held) (λ x. (show x).form.is_resting ≡ true)
rests-after {T} tells suits show Makes c o r took shelf shelf' txn txn' txn'' before after sound active has taken none worked made =
    let g = subst (λ b. HasIt show o b shelf txn shelf' txn') taken has in
    let ready = ready-taken show o g.0 shelf shelf' txn txn' sound active g.1 in
    let same : g.0 ≡ worked.was = some-inner g.0 worked.was (sym ready.found ∙ worked.held) in
    let rests : (show worked.now).form.is_resting ≡ true =
    ap (λ (f : Form). f.is_resting) (made.form none) ∙ ap (λ x. (show x).form.is_resting) (sym same) ∙ g.1.rests in
    subst (λ t. IsSomeAnd t (λ x. (show x).form.is_resting ≡ true))
    (sym (now-held tells suits show Makes c o r txn' txn'' worked)) rests
