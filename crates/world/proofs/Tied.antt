-- One session's deed keeps the shelf and all sessions tied, and changes what it sees alone.
use Rattle.std.proofs.Common.{◌≡◌, ◌≢◌, ℕ, ◌+◌, ◌<◌, List, length, set, false, Option, Some, None, IsSome, is_some}
use Rattle.std.proofs.Common.{slice_get, unwrap_or, refl, ap, sym, ◌∙◌, subst, arith, inl, inr}
use Rattle.std.proofs.lemmas.Bool.{cases_eq, cases_lt, eq-eqb, false≢true}
use Rattle.std.proofs.lemmas.List.{length-set}
use Rattle.std.proofs.lemmas.Option.{slice_get_past, slice_get_within}
use Rattle.base_laws.proofs.OptionLaws.{some-if, none-of}
use Rattle.eos_ops.specs.declared.limits.TheConstants.{SESSIONS}
use Rattle.machine.specs.Machine.{Slot, is_holder}
use Rattle.shadow_txn.specs.Held.{held_object}
use Rattle.world.specs.Served.{KeepsSession}
use Rattle.world.specs.Session.{Object, Session, held_slot, seen_by, IsSoundSession}
use Rattle.world.specs.Ties.{txn_at, held_in, slot_seen, slot_seen_at, ShareObjects}
use Rattle.world.proofs.Hands.{txn_at-same, txn_at-other, txn_at-past, held_in-at, held_in-set, held_in-not}
use Rattle.world.proofs.Sights.{seen-some, unseen-own, unseen-out, seen-out, seen-held, unseen-after}

-- what a session sees is so
pub slot_seen_at-seen : (shelf : List (Option Object)) (txns : List Session) (i o : ℕ) (slot : Slot) →
    i < SESSIONS → ShareObjects shelf txns → seen_by shelf (txn_at txns i) o ≡ Some slot →
    slot_seen_at shelf txns o ≡ slot
slot_seen_at-seen shelf txns i o slot within tied seen = elim (seen-some shelf (txn_at txns i) o slot seen) [
  | inl own ↦
      let x : Object = own.0 in
      let out : slice_get shelf o ≡ Some None = (tied.sound i within).out o x own.1 in
      let hands : held_in txns o ≡ held_slot (txn_at txns i).session x =
      held_in-at txns i o x own.1 (λ j other. tied.alone i j o (λ e. other (sym e)) (ap is_some own.1)) in
      ap (λ place. slot_seen place (held_in txns o)) out ∙ hands ∙ sym own.2
  | inr home ↦ ap (λ place. slot_seen place (held_in txns o)) home.1.1 ∙ sym home.1.2
]

-- a session holds an object in the machine just where it has it in hand
pub is_holder-own : (shelf : List (Option Object)) (txns : List Session) (i o : ℕ) → i < SESSIONS →
    ShareObjects shelf txns → is_holder (i + 1) (slot_seen_at shelf txns o).holder
    ≡ is_some (held_object o (txn_at txns i).held)
is_holder-own shelf txns i o within tied = by_hand (held_object o (txn_at txns i).held) refl
  where
    -- whoever else has it is another session
    others : held_object o (txn_at txns i).held ≡ None → (j : ℕ) → IsSome (held_object o (txn_at txns j).held) →
        (txn_at txns j).session ≢ i + 1
    others none j some = elim (cases_eq j i) [
      | inl this ↦ absurd (false≢true (sym (ap is_some (ap (λ k. held_object o (txn_at txns k).held) this ∙ none)) ∙ some))
      | inr other ↦ elim (cases_lt j SESSIONS) [
        | inl below ↦ λ e. let number : (txn_at txns j).session ≡ j + 1 = tied.numbers j below in other (omega (arith, e, number))
        | inr past ↦ absurd (false≢true (sym (ap (λ (t : Session). is_some (held_object o t.held))
            (txn_at-past txns j (omega (arith, past, tied.sessions)))) ∙ some))
      ]
    ]

    by_place : (place : Option (Option Object)) → held_object o (txn_at txns i).held ≡ None →
        is_holder (i + 1) (slot_seen place (held_in txns o)).holder ≡ false
    by_place None none = refl
    by_place (Some None) none = held_in-not txns (i + 1) o (others none)
    by_place (Some (Some x)) none = refl

    by_hand : (own : Option Object) → held_object o (txn_at txns i).held ≡ own →
        is_holder (i + 1) (slot_seen_at shelf txns o).holder ≡ is_some (held_object o (txn_at txns i).held)
    by_hand None is = by_place (slice_get shelf o) is ∙ sym (ap is_some is)
    by_hand (Some x) is =
        let number : (txn_at txns i).session ≡ i + 1 = tied.numbers i within in
        ap (λ slot. is_holder (i + 1) slot.holder)
        (slot_seen_at-seen shelf txns i o (held_slot (txn_at txns i).session x) within tied
        (seen-held shelf (txn_at txns i) o x is))
        ∙ eq-eqb (txn_at txns i).session (i + 1) number ∙ sym (ap is_some is)

-- an object that another session holds is out, and stays out of this one's hands
aside : (shelf : List (Option Object)) (txns : List Session) (i : ℕ) (shelf' : List (Option Object))
    (txn' : Session) → i < SESSIONS → ShareObjects shelf txns → KeepsSession shelf (txn_at txns i) shelf' txn'
    → (j o : ℕ) → j ≢ i → IsSome (held_object o (txn_at txns j).held) → (held_object o txn'.held ≡ None) × (slice_get shelf' o ≡ Some None)
aside shelf txns i shelf' txn' within tied kept j o other some =
    let some_x = some-if (held_object o (txn_at txns j).held) some in
    let out : slice_get shelf o ≡ Some None = there j (some_x.0) some_x.1 in
    let below : o < length shelf = slice_get_within shelf o None out in
    let none : held_object o (txn_at txns i).held ≡ None = tied.alone j i o other some in
    let before : seen_by shelf (txn_at txns i) o ≡ None = seen-out shelf (txn_at txns i) o none out in
    let after : seen_by shelf' txn' o ≡ None =
    unseen-after (seen_by shelf (txn_at txns i) o) (seen_by shelf' txn' o) (kept.sides o) before in
    (unseen-own shelf' txn' o after, unseen-out shelf' txn' o after (omega (arith, below, kept.size)))
  where
    there : (k : ℕ) (x : Object) → held_object o (txn_at txns k).held ≡ Some x → slice_get shelf o ≡ Some None
    there k x found = elim (cases_lt k SESSIONS) [
      | inl small ↦ (tied.sound k small).out o x found
      | inr past ↦ let gone : held_object o (txn_at txns k).held ≡ None =
          ap (λ (t : Session). held_object o t.held) (txn_at-past txns k (omega (arith, past, tied.sessions))) in
          absurd cc
    ]

-- each session's place after the change: this one's, or as before
at-place : (txns : List Session) (i : ℕ) (txn : Session) (P : ℕ → Session → Type 0) → i < length txns → P i txn →
    ((j : ℕ) → j ≢ i → P j (txn_at txns j)) → (j : ℕ) → P j (txn_at (set txns i txn) j)
at-place txns i txn P within here others j = elim (cases_eq j i) [
  | inl this ↦ subst (λ k. P k (txn_at (set txns i txn) k)) (sym this) (subst (P i) (sym (txn_at-same txns i txn within)) here)
  | inr other ↦ subst (P j) (sym (txn_at-other txns i j txn other)) (others j other)
]

-- the session changes its place, and the shelf with it
pub tied-set : (shelf : List (Option Object)) (txns : List Session) (i : ℕ) (shelf' : List (Option Object))
    (txn' : Session) → i < SESSIONS → ShareObjects shelf txns → KeepsSession shelf (txn_at txns i) shelf' txn'
    → ShareObjects shelf' (set txns i txn')
tied-set shelf txns i shelf' txn' within tied kept =
    let there : i < length txns = omega (arith, within, tied.sessions) in
    record {
      sessions = length-set txns i txn' ∙ tied.sessions;
      numbers = at-place txns i txn' (λ j t. j < SESSIONS → t.session ≡ j + 1) there (λ below. kept.session
          ∙ tied.numbers i within) (λ j other. tied.numbers j);
      sound = at-place txns i txn' (λ j t. j < SESSIONS → IsSoundSession shelf' t) there (λ below. kept.sound)
          (λ j other below. let was : IsSoundSession shelf (txn_at txns j) = tied.sound j below in record {
            objects = was.objects ∙ sym kept.size;
            few = was.few;
            distinct = was.distinct;
            idle = was.idle;
            out = λ o x found. (aside shelf txns i shelf' txn' within tied kept j o other (ap is_some found)).1;
          });
      alone = λ j k o apart. alone j k o apart;
      taken = λ o out. taken o out;
    }
  where
    alone : (j k o : ℕ) → j ≢ k → IsSome (held_object o (txn_at (set txns i txn') j).held) →
        held_object o (txn_at (set txns i txn') k).held ≡ None
    alone j k o apart = elim (cases_eq j i) [
      | inl this ↦ λ some.
          let other : k ≢ i = λ e. apart (this ∙ sym e) in
          let mine : IsSome (held_object o txn'.held) =
          subst (λ (t : Session). IsSome (held_object o t.held))
          (ap (txn_at (set txns i txn')) this ∙ txn_at-same txns i txn' (omega (arith, within, tied.sessions)))
          some in
          ap (λ (t : Session). held_object o t.held) (txn_at-other txns i k txn' other)
          ∙ none-of (held_object o (txn_at txns k).held)
          (λ theirs. false≢true (sym (ap is_some
          (aside shelf txns i shelf' txn' within tied kept k o other theirs).0) ∙ mine))
      | inr other ↦ λ some.
          let theirs : IsSome (held_object o (txn_at txns j).held) =
          subst (λ (t : Session). IsSome (held_object o t.held)) (txn_at-other txns i j txn' other) some in
          elim (cases_eq k i) [
            | inl this ↦
                ap (λ (t : Session). held_object o t.held)
                (ap (txn_at (set txns i txn')) this
                ∙ txn_at-same txns i txn' (omega (arith, within, tied.sessions)))
                ∙ (aside shelf txns i shelf' txn' within tied kept j o other theirs).0
            | inr away ↦ ap (λ (t : Session). held_object o t.held) (txn_at-other txns i k txn' away) ∙ tied.alone j k o apart theirs
          ]
    ]

    by_hand : (o : ℕ) (own : Option Object) → slice_get shelf' o ≡ Some None → held_object o txn'.held ≡ own →
        IsSome (held_in (set txns i txn') o).holder
    by_hand o None out is =
        let after : seen_by shelf' txn' o ≡ None = seen-out shelf' txn' o is out in
        let before : seen_by shelf (txn_at txns i) o ≡ None =
        unseen-after (seen_by shelf' txn' o) (seen_by shelf (txn_at txns i) o) (sym (kept.sides o)) after in
        let below : o < length shelf' = slice_get_within shelf' o None out in
        let was : slice_get shelf o ≡ Some None = unseen-out shelf (txn_at txns i) o before (omega (arith, below, kept.size)) in
        ap (λ slot. is_some slot.holder) (held_in-set txns i o txn' (unseen-own shelf (txn_at txns i) o before) is) ∙ tied.taken o was
    by_hand o (Some x) out is =
        let mine : txn_at (set txns i txn') i ≡ txn' = txn_at-same txns i txn' (omega (arith, within, tied.sessions)) in
        let found : held_object o (txn_at (set txns i txn') i).held ≡ Some x = ap (λ (t : Session). held_object o t.held) mine ∙ is in
        ap (λ slot. is_some slot.holder) (held_in-at (set txns i txn') i o x found
        (λ j other. alone i j o (λ e. other (sym e)) (ap is_some found)))

    taken : (o : ℕ) → slice_get shelf' o ≡ Some None → IsSome (held_in (set txns i txn') o).holder
    taken o out = by_hand o (held_object o txn'.held) out refl

-- after the change an object is as the session sees it, and as before where it doesn't
pub slot_seen_at-set : (shelf : List (Option Object)) (txns : List Session) (i : ℕ) (shelf' : List (Option Object))
    (txn' : Session) → i < SESSIONS → ShareObjects shelf txns → KeepsSession shelf (txn_at txns i) shelf' txn'
    → (o : ℕ) → slot_seen_at shelf' (set txns i txn') o ≡ unwrap_or (seen_by shelf' txn' o) (slot_seen_at shelf txns o)
slot_seen_at-set shelf txns i shelf' txn' within tied kept o = by_sight (seen_by shelf' txn' o) refl
  where
    same_place : slice_get shelf' o ≡ slice_get shelf o → held_object o (txn_at txns i).held ≡ None →
        held_object o txn'.held ≡ None → slot_seen_at shelf' (set txns i txn') o ≡ slot_seen_at shelf txns o
    same_place same before after = ap (λ place. slot_seen place (held_in (set txns i txn') o)) same
        ∙ ap (slot_seen (slice_get shelf o)) (held_in-set txns i o txn' before after)

    by_sight : (sight : Option Slot) → seen_by shelf' txn' o ≡ sight →
        slot_seen_at shelf' (set txns i txn') o ≡ unwrap_or (seen_by shelf' txn' o) (slot_seen_at shelf txns o)
    by_sight (Some slot) is =
        let mine : txn_at (set txns i txn') i ≡ txn' = txn_at-same txns i txn' (omega (arith, within, tied.sessions)) in
        slot_seen_at-seen shelf' (set txns i txn') i o slot within
        (tied-set shelf txns i shelf' txn' within tied kept)
        (ap (λ (t : Session). seen_by shelf' t o) mine ∙ is)
        ∙ sym (ap (λ sight. unwrap_or sight (slot_seen_at shelf txns o)) is)
    by_sight None is =
        let before : seen_by shelf (txn_at txns i) o ≡ None =
        unseen-after (seen_by shelf' txn' o) (seen_by shelf (txn_at txns i) o) (sym (kept.sides o)) is in
        let place : slice_get shelf' o ≡ slice_get shelf o = elim (cases_lt o (length shelf)) [
          | inl there ↦ unseen-out shelf' txn' o is (omega (arith, there, kept.size))
              ∙ sym (unseen-out shelf (txn_at txns i) o before there)
          | inr past ↦ slice_get_past shelf' o (omega (arith, past, kept.size)) ∙ sym (slice_get_past shelf o past)
        ] in
        same_place place (unseen-own shelf (txn_at txns i) o before) (unseen-own shelf' txn' o is)
        ∙ sym (ap (λ sight. unwrap_or sight (slot_seen_at shelf txns o)) is)
