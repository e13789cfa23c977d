-- What holds of events: commands with their bytes spelled out, and held objects.
use Rattle.std.proofs.Common.{◌≡◌, ℕ, List, [], ◌∷◌, ◌++◌, Bool, true, false, ◌&&◌, ◌||◌, Option, Some, None, eqb}
use Rattle.std.proofs.Common.{refl, sym, ap, ◌∙◌, inl, inr}
use Rattle.std.specs.Prelude.{is_some}
use Rattle.std.specs.Option.{option_map, option_map_or}
use Rattle.std.proofs.lemmas.Bool.{cases_Bool, cond-true, cond-false, or_cases, and_parts}
use Rattle.eos_ops.specs.declared.act.Act.{Act}
use Rattle.eos_ops.specs.declared.command.Command.{Command}
use Rattle.eos_ops.specs.declared.command.Command.TheVariants.{Begin, Create, Destroy, Length, Read, Append, Insert}
use Rattle.eos_ops.specs.declared.command.Command.TheVariants.{Delete, Replace, Commit, Abort, Status}
use Rattle.eos_ops.specs.declared.plain.Plain.{Plain}
use Rattle.eos_ops.specs.declared.reply.Reply.{Reply}
use Rattle.eos_ops.specs.Objects.{object_of, with_bytes, reply_in, after_in}
use Rattle.history.specs.Event.{Event, Deed, Opens, Does, Takes, Closes, Nothing, answered, bounded, is_done, deed, deed_of}
use Rattle.history.specs.Holding.{holds, holds_after}
use Rattle.history.specs.Transactions.{acts_after, opened, is_open}

pub object_of-with_bytes : (c : Command) → object_of (with_bytes c) ≡ object_of c
object_of-with_bytes Begin = refl
object_of-with_bytes (Create o t) = refl
object_of-with_bytes (Destroy o) = refl
object_of-with_bytes (Length o) = refl
object_of-with_bytes (Read o at n) = refl
object_of-with_bytes (Append o p) = refl
object_of-with_bytes (Insert o at p) = refl
object_of-with_bytes (Delete o at n) = refl
object_of-with_bytes (Replace o at p) = refl
object_of-with_bytes Commit = refl
object_of-with_bytes Abort = refl
object_of-with_bytes Status = refl

pub reply_in-with_bytes : (c : Command) (x : Plain) → reply_in (with_bytes c) x ≡ reply_in c x
unfolding reply_in
reply_in-with_bytes Begin x = refl
reply_in-with_bytes (Create o t) x = refl
reply_in-with_bytes (Destroy o) x = refl
reply_in-with_bytes (Length o) x = refl
reply_in-with_bytes (Read o at n) x = refl
reply_in-with_bytes (Append o p) x = refl
reply_in-with_bytes (Insert o at p) x = refl
reply_in-with_bytes (Delete o at n) x = refl
reply_in-with_bytes (Replace o at p) x = refl
reply_in-with_bytes Commit x = refl
reply_in-with_bytes Abort x = refl
reply_in-with_bytes Status x = refl

pub after_in-with_bytes : (c : Command) (x : Plain) → after_in (with_bytes c) x ≡ after_in c x
unfolding after_in
after_in-with_bytes Begin x = refl
after_in-with_bytes (Create o t) x = refl
after_in-with_bytes (Destroy o) x = refl
after_in-with_bytes (Length o) x = refl
after_in-with_bytes (Read o at n) x = refl
after_in-with_bytes (Append o p) x = refl
after_in-with_bytes (Insert o at p) x = refl
after_in-with_bytes (Delete o at n) x = refl
after_in-with_bytes (Replace o at p) x = refl
after_in-with_bytes Commit x = refl
after_in-with_bytes Abort x = refl
after_in-with_bytes Status x = refl

-- the deed of a command on an object
pub deed-object : (c : Command) (r : Reply) (o : ℕ) → object_of c ≡ Some o → deed c r ≡ answered o (with_bytes c) r
deed-object c r o on = ap (λ (t : Option ℕ). option_map_or (λ p. answered p (with_bytes c) r) t (bounded c (is_done r))) on

-- the deed of a command on no object
pub deed-bounds : (c : Command) (r : Reply) → object_of c ≡ None → deed c r ≡ bounded c (is_done r)
deed-bounds c r off = ap (λ (t : Option ℕ). option_map_or (λ p. answered p (with_bytes c) r) t (bounded c (is_done r))) off

pub opened-own : (s : ℕ) (e : Event) (past : List Event) → eqb e.session s ≡ true →
    opened s (e ∷ past) ≡ acts_after (deed_of e) (opened s past)
opened-own s e past own = cond-true (eqb e.session s) (acts_after (deed_of e) (opened s past)) (opened s past) own

pub opened-other : (s : ℕ) (e : Event) (past : List Event) → eqb e.session s ≡ false → opened s (e ∷ past) ≡ opened s past
opened-other s e past other = cond-false (eqb e.session s) (acts_after (deed_of e) (opened s past)) (opened s past) other

pub holds-own : (s o : ℕ) (e : Event) (past : List Event) → eqb e.session s ≡ true →
    holds s o (e ∷ past) ≡ holds_after (deed_of e) o (is_open s past) (holds s o past)
holds-own s o e past own = cond-true (eqb e.session s) (holds_after (deed_of e) o (is_open s past) (holds s o past)) (holds s o past) own

pub holds-other : (s o : ℕ) (e : Event) (past : List Event) → eqb e.session s ≡ false → holds s o (e ∷ past) ≡ holds s o past
holds-other s o e past other = cond-false (eqb e.session s)
    (holds_after (deed_of e) o (is_open s past) (holds s o past)) (holds s o past) other

held_open : (a h : Bool) (p : Bool) → ((p && a) || h) ≡ true → (h ≡ true → a ≡ true) → a ≡ true
held_open a h p held before = elim (or_cases (p && a) h held) [ inl new ↦ (and_parts p a new).1 | inr old ↦ before old ]

is_some-some : (acts : Option (List Act)) (f : List Act → List Act) → is_some acts ≡ true → is_some (option_map f acts) ≡ true
is_some-some None f h = h
is_some-some (Some x) f h = refl

-- one deed of the session itself
own_deed : (d : Deed) (o : ℕ) (acts : Option (List Act)) (h : Bool) → (h ≡ true → is_some acts ≡ true) →
    holds_after d o (is_some acts) h ≡ true → is_some (acts_after d acts) ≡ true
own_deed Opens o None h before held = refl
own_deed Opens o (Some acts) h before held = refl
own_deed (Does p act) o acts h before held =
    is_some-some acts (λ so_far. so_far ++ act ∷ []) (held_open (is_some acts) h (eqb p o) held before)
own_deed (Takes p) o acts h before held = held_open (is_some acts) h (eqb p o) held before
own_deed (Closes committed) o acts h before held = held
own_deed Nothing o acts h before held = before held

pub holds_is_open : (s o : ℕ) (past : List Event) → holds s o past ≡ true → is_open s past ≡ true
holds_is_open s o [] held = held
holds_is_open s o (e ∷ past) held =
    elim (cases_Bool (eqb e.session s)) [
      | inl own ↦ ap is_some (opened-own s e past own)
          ∙ own_deed (deed_of e) o (opened s past) (holds s o past) (holds_is_open s o past)
          (sym (holds-own s o e past own) ∙ held)
      | inr other ↦ ap is_some (opened-other s e past other) ∙ holds_is_open s o past (sym (holds-other s o e past other) ∙ held)
    ]
