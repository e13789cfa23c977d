-- One session's deed keeps the shelf and all sessions tied, and changes what it sees alone.
use Rattle.std.proofs.Common.{◌≡◌, ◌≢◌, ℕ, ◌+◌, ◌<◌, List, length, set, false, Option, Some, None, IsSome, is_some}
use Rattle.std.proofs.Common.{slice_get, refl, ap, sym, ◌∙◌, subst, arith, inl, inr}
use Rattle.std.proofs.lemmas.Bool.{cases_eq, cases_lt, eq-eqb, false≢true}
use Rattle.std.proofs.lemmas.List.{length-set}
use Rattle.std.proofs.lemmas.Option.{slice_get_past, slice_get_within}
use Rattle.base_laws.proofs.OptionLaws.{some-if, none-of}
use Rattle.eos_ops.specs.declared.limits.TheConstants.{SESSIONS}
use Rattle.machine.specs.Machine.{is_holder}
use Rattle.shadow_txn.specs.Held.{held_object}
use Rattle.shadow_txn.specs.Transaction.{Transaction}
use Rattle.world.proofs.Sights.{unseen-after}
use Rattle.body_world.specs.Served.{KeepsSession}
use Rattle.body_world.specs.Session.{Shown, Seen, in_hand, seen_by, IsSoundSession}
use Rattle.body_world.specs.Ties.{txn_at, held_in, place_seen, seen_at, ShareObjects}
use Rattle.body_world.proofs.Hands.{txn_at-same, txn_at-other, txn_at-past, held_in-at, held_in-set, held_in-not, holder_seen}
use Rattle.body_world.proofs.Sights.{seen-some, unseen-own, unseen-out, seen-out, seen-held}

-- what a session sees is so
pub seen_at-seen : {T : Type 0} (show : T → Shown) (shelf : List (Option T)) (txns : List (Transaction T)) (i o : ℕ) (seen : Seen)
    → i < SESSIONS → ShareObjects shelf txns → seen_by show shelf (txn_at txns i) o ≡ Some seen
    → seen_at show shelf txns o ≡ Some seen
seen_at-seen {T} show shelf txns i o seen within tied sees = elim (seen-some show shelf (txn_at txns i) o seen sees) [
  | inl own ↦
      let x : T = own.0 in
      let out : slice_get shelf o ≡ Some None = (tied.sound i within).out o x own.1 in
      let hands : held_in show txns o ≡ Some (in_hand (txn_at txns i).session (show x)) =
      held_in-at show txns i o x own.1 (λ j other. tied.alone i j o (λ e. other (sym e)) (ap is_some own.1)) in
      ap (λ place. place_seen show place (held_in show txns o)) out ∙ hands ∙ sym (ap (λ s. Some s) own.2)
  | inr home ↦ ap (λ place. place_seen show place (held_in show txns o)) home.1.1 ∙ sym (ap (λ s. Some s) home.1.2)
]

-- a session holds an object in the machine just where it has it in hand
pub is_holder-own : {T : Type 0} (show : T → Shown) (shelf : List (Option T)) (txns : List (Transaction T)) (i o : ℕ) → i < SESSIONS
    → ShareObjects shelf txns → is_holder (i + 1) (holder_seen (seen_at show shelf txns o))
    ≡ is_some (held_object o (txn_at txns i).held)
is_holder-own {T} show shelf txns i o within tied = by_hand (held_object o (txn_at txns i).held) refl
  where
    -- whoever else has it is another session
    others : held_object o (txn_at txns i).held ≡ None → (j : ℕ) → IsSome (held_object o (txn_at txns j).held)
        → (txn_at txns j).session ≢ i + 1
    others none j some = elim (cases_eq j i) [
      | inl this ↦ absurd (false≢true (sym (ap is_some (ap (λ k. held_object o (txn_at txns k).held) this ∙ none)) ∙ some))
      | inr other ↦ elim (cases_lt j SESSIONS) [
        | inl below ↦ λ e. let number : (txn_at txns j).session ≡ j + 1 = tied.numbers j below in other (omega (arith, e, number))
        | inr past ↦ absurd (false≢true (sym (ap (λ (t : Transaction T). is_some (held_object o t.held))
            (txn_at-past txns j (omega (arith, past, tied.sessions)))) ∙ some))
      ]
    ]

    by_place : (place : Option (Option T)) → held_object o (txn_at txns i).held ≡ None
        → is_holder (i + 1) (holder_seen (place_seen show place (held_in show txns o))) ≡ false
    by_place None none = refl
    by_place (Some None) none = held_in-not show txns (i + 1) o (others none)
    by_place (Some (Some x)) none = refl

    by_hand : (own : Option T) → held_object o (txn_at txns i).held ≡ own
        → is_holder (i + 1) (holder_seen (seen_at show shelf txns o)) ≡ is_some (held_object o (txn_at txns i).held)
    by_hand None is = by_place (slice_get shelf o) is ∙ sym (ap is_some is)
    by_hand (Some x) is =
        let number : (txn_at txns i).session ≡ i + 1 = tied.numbers i within in
        ap (λ seen. is_holder (i + 1) (holder_seen seen))
        (seen_at-seen show shelf txns i o (in_hand (txn_at txns i).session (show x)) within tied
        (seen-held show shelf (txn_at txns i) o x is))
        ∙ eq-eqb (txn_at txns i).session (i + 1) number ∙ sym (ap is_some is)

-- an object that another session holds is out, and stays out of this one's hands
aside : {T : Type 0} (show : T → Shown) (shelf : List (Option T)) (txns : List (Transaction T)) (i : ℕ) (shelf' : List (Option T))
    (txn' : Transaction T) → i < SESSIONS → ShareObjects shelf txns → KeepsSession show shelf (txn_at txns i) shelf' txn'
    → (j o : ℕ) → j ≢ i → IsSome (held_object o (txn_at txns j).held)
    → (held_object o txn'.held ≡ None) × (slice_get shelf' o ≡ Some None)
aside {T} show shelf txns i shelf' txn' within tied kept j o other some =
    let some_x = some-if (held_object o (txn_at txns j).held) some in
    let out : slice_get shelf o ≡ Some None = there j (some_x.0) some_x.1 in
    let below : o < length shelf = slice_get_within shelf o None out in
    let none : held_object o (txn_at txns i).held ≡ None = tied.alone j i o other some in
    let before : seen_by show shelf (txn_at txns i) o ≡ None = seen-out show shelf (txn_at txns i) o none out in
    let after : seen_by show shelf' txn' o ≡ None =
    unseen-after (seen_by show shelf (txn_at txns i) o) (seen_by show shelf' txn' o) (kept.sides o) before in
    (unseen-own show shelf' txn' o after, unseen-out show shelf' txn' o after (omega (arith, below, kept.size)))
  where
    there : (k : ℕ) (x : T) → held_object o (txn_at txns k).held ≡ Some x → slice_get shelf o ≡ Some None
    there k x found = elim (cases_lt k SESSIONS) [
      | inl small ↦ (tied.sound k small).out o x found
      | inr past ↦ let gone : held_object o (txn_at txns k).held ≡ None =
          ap (λ (t : Transaction T). held_object o t.held) (txn_at-past txns k (omega (arith, past, tied.sessions))) in
          absurd cc
    ]

-- each session's place after the change: this one's, or as before
at-place : {T : Type 0} (txns : List (Transaction T)) (i : ℕ) (txn : Transaction T) (P : ℕ → Transaction T → Type 0) → i < length txns
    → P i txn → ((j : ℕ) → j ≢ i → P j (txn_at txns j)) → (j : ℕ) → P j (txn_at (set txns i txn) j)
at-place txns i txn P within here others j = elim (cases_eq j i) [
  | inl this ↦ subst (λ k. P k (txn_at (set txns i txn) k)) (sym this) (subst (P i) (sym (txn_at-same txns i txn within)) here)
  | inr other ↦ subst (P j) (sym (txn_at-other txns i j txn other)) (others j other)
]

-- the session changes its place, and the shelf with it
pub tied-set : {T : Type 0} (show : T → Shown) (shelf : List (Option T)) (txns : List (Transaction T)) (i : ℕ) (shelf' : List (Option T))
    (txn' : Transaction T) → i < SESSIONS → ShareObjects shelf txns → KeepsSession show shelf (txn_at txns i) shelf' txn'
    → ShareObjects shelf' (set txns i txn')
tied-set {T} show shelf txns i shelf' txn' within tied kept =
    let there : i < length txns = omega (arith, within, tied.sessions) in
    record {
      sessions = length-set txns i txn' ∙ tied.sessions;
      numbers = at-place txns i txn' (λ j t. j < SESSIONS → t.session ≡ j + 1) there (λ below. kept.session
          ∙ tied.numbers i within) (λ j other. tied.numbers j);
      sound = at-place txns i txn' (λ j t. j < SESSIONS → IsSoundSession shelf' t) there (λ below. kept.sound)
          (λ j other below. let was : IsSoundSession shelf (txn_at txns j) = tied.sound j below in record {
            objects = was.objects ∙ sym kept.size;
            few = was.few;
            distinct = was.distinct;
            idle = was.idle;
            out = λ o x found. (aside show shelf txns i shelf' txn' within tied kept j o other (ap is_some found)).1;
          });
      alone = λ j k o apart. alone j k o apart;
      taken = λ o out. by_hand o (held_object o txn'.held) out refl;
    }
  where
    alone : (j k o : ℕ) → j ≢ k → IsSome (held_object o (txn_at (set txns i txn') j).held)
        → held_object o (txn_at (set txns i txn') k).held ≡ None
    alone j k o apart = elim (cases_eq j i) [
      | inl this ↦ λ some.
          let other : k ≢ i = λ e. apart (this ∙ sym e) in
          let mine : IsSome (held_object o txn'.held) =
          subst (λ (t : Transaction T). IsSome (held_object o t.held))
          (ap (txn_at (set txns i txn')) this ∙ txn_at-same txns i txn' (omega (arith, within, tied.sessions)))
          some in
          ap (λ (t : Transaction T). held_object o t.held) (txn_at-other txns i k txn' other)
          ∙ none-of (held_object o (txn_at txns k).held)
          (λ theirs. false≢true (sym (ap is_some
          (aside show shelf txns i shelf' txn' within tied kept k o other theirs).0) ∙ mine))
      | inr other ↦ λ some.
          let theirs : IsSome (held_object o (txn_at txns j).held) =
          subst (λ (t : Transaction T). IsSome (held_object o t.held)) (txn_at-other txns i j txn' other) some in
          elim (cases_eq k i) [
            | inl this ↦
                ap (λ (t : Transaction T). held_object o t.held)
                (ap (txn_at (set txns i txn')) this
                ∙ txn_at-same txns i txn' (omega (arith, within, tied.sessions)))
                ∙ (aside show shelf txns i shelf' txn' within tied kept j o other theirs).0
            | inr away ↦ ap (λ (t : Transaction T). held_object o t.held) (txn_at-other txns i k txn' away) ∙ tied.alone j k o apart theirs
          ]
    ]

    -- what is out is with this session now, or with the one that had it
    still : (o j : ℕ) → held_object o (txn_at txns i).held ≡ None → IsSome (held_object o (txn_at txns j).held)
        → IsSome (held_object o (txn_at (set txns i txn') j).held)
    still o j mine some = elim (cases_eq j i) [
      | inl this ↦ absurd (false≢true (sym (ap is_some (ap (λ k. held_object o (txn_at txns k).held) this ∙ mine)) ∙ some))
      | inr other ↦ subst (λ (t : Transaction T). IsSome (held_object o t.held)) (sym (txn_at-other txns i j txn' other)) some
    ]

    by_hand : (o : ℕ) (own : Option T) → slice_get shelf' o ≡ Some None → held_object o txn'.held ≡ own
        → (j : ℕ) × (j < SESSIONS) × IsSome (held_object o (txn_at (set txns i txn') j).held)
    by_hand o None out is =
        let after : seen_by show shelf' txn' o ≡ None = seen-out show shelf' txn' o is out in
        let before : seen_by show shelf (txn_at txns i) o ≡ None =
        unseen-after (seen_by show shelf' txn' o) (seen_by show shelf (txn_at txns i) o) (sym (kept.sides o)) after in
        let below : o < length shelf' = slice_get_within shelf' o None out in
        let was : slice_get shelf o ≡ Some None = unseen-out show shelf (txn_at txns i) o before (omega (arith, below, kept.size)) in
        let had = tied.taken o was in
        (had.0, had.1, still o had.0 (unseen-own show shelf (txn_at txns i) o before) had.2)
    by_hand o (Some x) out is =
        let mine : txn_at (set txns i txn') i ≡ txn' = txn_at-same txns i txn' (omega (arith, within, tied.sessions)) in
        (i, within, ap is_some (ap (λ (t : Transaction T). held_object o t.held) mine ∙ is))

-- what a session sees, and else what was so before
abbrev pub or_before : Option Seen → Option Seen → Option Seen
or_before None before = before
or_before (Some seen) before = Some seen

-- after the change an object is as the session sees it, and as before where it doesn't
pub seen_at-set : {T : Type 0} (show : T → Shown) (shelf : List (Option T)) (txns : List (Transaction T)) (i : ℕ) (shelf' : List (Option T))
    (txn' : Transaction T) → i < SESSIONS → ShareObjects shelf txns → KeepsSession show shelf (txn_at txns i) shelf' txn'
    → (o : ℕ) → seen_at show shelf' (set txns i txn') o ≡ or_before (seen_by show shelf' txn' o) (seen_at show shelf txns o)
seen_at-set {T} show shelf txns i shelf' txn' within tied kept o = by_sight (seen_by show shelf' txn' o) refl
  where
    same_place : slice_get shelf' o ≡ slice_get shelf o → held_object o (txn_at txns i).held ≡ None
        → held_object o txn'.held ≡ None → seen_at show shelf' (set txns i txn') o ≡ seen_at show shelf txns o
    same_place same before after = ap (λ place. place_seen show place (held_in show (set txns i txn') o)) same
        ∙ ap (place_seen show (slice_get shelf o)) (held_in-set show txns i o txn' before after)

    by_sight : (sight : Option Seen) → seen_by show shelf' txn' o ≡ sight
        → seen_at show shelf' (set txns i txn') o ≡ or_before (seen_by show shelf' txn' o) (seen_at show shelf txns o)
    by_sight (Some seen) is =
        let mine : txn_at (set txns i txn') i ≡ txn' = txn_at-same txns i txn' (omega (arith, within, tied.sessions)) in
        seen_at-seen show shelf' (set txns i txn') i o seen within
        (tied-set show shelf txns i shelf' txn' within tied kept)
        (ap (λ (t : Transaction T). seen_by show shelf' t o) mine ∙ is)
        ∙ sym (ap (λ sight. or_before sight (seen_at show shelf txns o)) is)
    by_sight None is =
        let before : seen_by show shelf (txn_at txns i) o ≡ None =
        unseen-after (seen_by show shelf' txn' o) (seen_by show shelf (txn_at txns i) o) (sym (kept.sides o)) is in
        let place : slice_get shelf' o ≡ slice_get shelf o = elim (cases_lt o (length shelf)) [
          | inl there ↦ unseen-out show shelf' txn' o is (omega (arith, there, kept.size))
              ∙ sym (unseen-out show shelf (txn_at txns i) o before there)
          | inr past ↦ slice_get_past shelf' o (omega (arith, past, kept.size)) ∙ sym (slice_get_past shelf o past)
        ] in
        same_place place (unseen-own show shelf (txn_at txns i) o before) (unseen-own show shelf' txn' o is)
        ∙ sym (ap (λ sight. or_before sight (seen_at show shelf txns o)) is)
