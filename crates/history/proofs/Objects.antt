-- From each object to the whole database: replies that are right at each object are right over all of them, and what
-- stands at an object after all acts is its own replay.
use Rattle.std.proofs.Common.{◌≡◌, ℕ, ◌<◌, List, [], ◌∷◌, ◌++◌, Option, Some, None, length, set, refl, sym, ap, subst, ◌∙◌, inl, inr}
use Rattle.std.specs.Prelude.{IsSomeAnd}
use Rattle.std.specs.Option.{option_map_or}
use Rattle.std.proofs.lemmas.Bool.{cases_eq}
use Rattle.std.proofs.lemmas.List.{length-set, get_or-set_same, get_or-set_other}
use Rattle.eos_ops.specs.declared.act.Act.{Act}
use Rattle.eos_ops.specs.declared.plain.Plain.{Plain}
use Rattle.eos_ops.specs.declared.plain.Plain.TheVariants.{Absent}
use Rattle.eos_ops.specs.Objects.{object_of, reply_in, after_in}
use Rattle.history.specs.Serial.{IsInside, AreInside, object_at, IsRight, after_act, RightActs, after_acts, acts_on, RightAt, replayed}
use Rattle.history.proofs.Acts.{is_on-same, is_on-other, acts_on-same, acts_on-other}

pub AreInside-push : (n : ℕ) (acts : List Act) (a : Act) → AreInside n acts → IsInside n a → AreInside n (acts ++ a ∷ [])
AreInside-push n [] a all one = (one, tt)
AreInside-push n (b ∷ acts) a all one = (all.0, AreInside-push n acts a all.1 one)

pub some_and : (t : Option ℕ) (n : ℕ) → IsSomeAnd t (λ o. o < n) → (o : ℕ) × (t ≡ Some o) × (o < n)
some_and None n h = absurd h
some_and (Some o) n h = (o, refl, h)

pub inside_from : (n o : ℕ) (a : Act) → object_of a.command ≡ Some o → o < n → IsInside n a
inside_from n o a on below = subst (λ (t : Option ℕ). IsSomeAnd t (λ p. p < n)) (sym on) below

pub after_act-at : (db : List Plain) (a : Act) (o : ℕ) → object_of a.command ≡ Some o →
    after_act db a ≡ set db o (after_in a.command (object_at db o))
after_act-at db a o on = ap (λ (t : Option ℕ). option_map_or (λ p. set db p (after_in a.command (object_at db p))) t db) on

pub length-after_act : (db : List Plain) (a : Act) (o : ℕ) → object_of a.command ≡ Some o → length (after_act db a) ≡ length db
length-after_act db a o on = ap length (after_act-at db a o on) ∙ length-set db o (after_in a.command (object_at db o))

-- the object that the act is on
pub object_at-same : (db : List Plain) (a : Act) (o : ℕ) → object_of a.command ≡ Some o → o < length db →
    object_at (after_act db a) o ≡ after_in a.command (object_at db o)
object_at-same db a o on below = ap (λ (d : List Plain). object_at d o) (after_act-at db a o on)
    ∙ get_or-set_same db o (after_in a.command (object_at db o)) Absent below

pub object_at-other : (db : List Plain) (a : Act) (o p : ℕ) → object_of a.command ≡ Some p → (o ≡ p → ⊥) →
    object_at (after_act db a) o ≡ object_at db o
object_at-other db a o p on other = ap (λ (d : List Plain). object_at d o) (after_act-at db a p on)
    ∙ get_or-set_other db p o (after_in a.command (object_at db p)) Absent other

-- an act and those after it are right at its object
right_here : (db : List Plain) (a : Act) (acts : List Act) (o : ℕ) → object_of a.command ≡ Some o →
    RightAt (object_at db o) (acts_on o (a ∷ acts)) → (reply_in a.command (object_at db o) ≡ a.reply)
    × RightAt (after_in a.command (object_at db o)) (acts_on o acts)
right_here db a acts o on right = subst (λ (l : List Act). RightAt (object_at db o) l) (acts_on-same o a acts (is_on-same o a on)) right

-- after an act, what follows it is right at each object
right_next : (db : List Plain) (a : Act) (acts : List Act) (p : ℕ) → object_of a.command ≡ Some p → p < length db →
    ((o : ℕ) → RightAt (object_at db o) (acts_on o (a ∷ acts))) → (o : ℕ) →
    RightAt (object_at (after_act db a) o) (acts_on o acts)
right_next db a acts p on below right o =
    elim (cases_eq o p) [
      | inl same ↦
          let at_o : object_of a.command ≡ Some o = on ∙ ap Some (sym same) in
          let below_o : o < length db = subst (λ (n : ℕ). n < length db) (sym same) below in
          subst (λ (x : Plain). RightAt x (acts_on o acts)) (sym (object_at-same db a o at_o below_o))
          (right_here db a acts o at_o (right o)).1
      | inr other ↦
          let skipped : acts_on o (a ∷ acts) ≡ acts_on o acts = acts_on-other o a acts (is_on-other o p a on (λ same. other (sym same))) in
          let stays : object_at (after_act db a) o ≡ object_at db o = object_at-other db a o p on other in
          subst (λ (x : Plain). RightAt x (acts_on o acts)) (sym stays)
          (subst (λ (l : List Act). RightAt (object_at db o) l) skipped (right o))
    ]

pub RightActs-from_objects : (acts : List Act) (db : List Plain) → AreInside (length db) acts →
    ((o : ℕ) → RightAt (object_at db o) (acts_on o acts)) → RightActs db acts
RightActs-from_objects [] db inside right = tt
RightActs-from_objects (a ∷ acts) db inside right =
    let target = some_and (object_of a.command) (length db) inside.0 in
    let o : ℕ = target.0 in
    let on : object_of a.command ≡ Some o = target.1 in
    let first : IsRight db a = subst (λ (t : Option ℕ). IsSomeAnd t (λ p. (p < length db)
    × (reply_in a.command (object_at db p) ≡ a.reply))) (sym on)
    (target.2, (right_here db a acts o on (right o)).0) in
    let within : AreInside (length (after_act db a)) acts =
    subst (λ (n : ℕ). AreInside n acts) (sym (length-after_act db a o on)) inside.1 in
    (first, RightActs-from_objects acts (after_act db a) within (right_next db a acts o on target.2 right))

-- one act: what is replayed from it on is replayed from the database after it
replayed_next : (db : List Plain) (a : Act) (acts : List Act) (p : ℕ) → object_of a.command ≡ Some p →
    p < length db → (o : ℕ) → replayed (object_at (after_act db a) o) (acts_on o acts) ≡ replayed (object_at db o)
    (acts_on o (a ∷ acts))
replayed_next db a acts p on below o =
    elim (cases_eq o p) [
      | inl same ↦
          let at_o : object_of a.command ≡ Some o = on ∙ ap Some (sym same) in
          let below_o : o < length db = subst (λ (n : ℕ). n < length db) (sym same) below in
          ap (λ (x : Plain). replayed x (acts_on o acts)) (object_at-same db a o at_o below_o)
          ∙ ap (replayed (object_at db o)) (sym (acts_on-same o a acts (is_on-same o a at_o)))
      | inr other ↦
          ap (λ (x : Plain). replayed x (acts_on o acts)) (object_at-other db a o p on other)
          ∙ ap (replayed (object_at db o)) (sym
          (acts_on-other o a acts (is_on-other o p a on (λ same. other (sym same)))))
    ]

pub object_at-after_acts : (acts : List Act) (db : List Plain) → AreInside (length db) acts → (o : ℕ) →
    object_at (after_acts db acts) o ≡ replayed (object_at db o) (acts_on o acts)
object_at-after_acts [] db inside o = refl
object_at-after_acts (a ∷ acts) db inside o =
    let target = some_and (object_of a.command) (length db) inside.0 in
    let within : AreInside (length (after_act db a)) acts =
    subst (λ (n : ℕ). AreInside n acts) (sym (length-after_act db a target.0 target.1)) inside.1 in
    object_at-after_acts acts (after_act db a) within o ∙ replayed_next db a acts target.0 target.1 target.2 o

pub length-after_acts : (acts : List Act) (db : List Plain) → AreInside (length db) acts → length (after_acts db acts) ≡ length db
length-after_acts [] db inside = refl
length-after_acts (a ∷ acts) db inside =
    let target = some_and (object_of a.command) (length db) inside.0 in
    let same : length (after_act db a) ≡ length db = length-after_act db a target.0 target.1 in
    let within : AreInside (length (after_act db a)) acts = subst (λ (n : ℕ). AreInside n acts) (sym same) inside.1 in
    length-after_acts acts (after_act db a) within ∙ same
