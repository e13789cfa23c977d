-- What the code reads of a session is what the machine has there; and a begin, which changes its session alone.
use Rattle.std.proofs.Common.{◌≡◌, ◌≢◌, ℕ, zero, suc, ◌-◌, ◌<◌, ◌≤◌, ◌^◌, ◌==◌, ◌↔◌, Bool, true, false, List, set, get_or}
use Rattle.std.proofs.Common.{Option, Result, Ok, Err, refl, ap, sym, ◌∙◌, subst, arith, inl, inr}
use Rattle.std.specs.Prelude.{OnOk, OnErr}
use Rattle.std.proofs.lemmas.Bool.{eq-eqb, ne_eqb, false≢true, cases_Bool}
use Rattle.std.proofs.lemmas.List.{get_or_default, set-get_or, length-map}
use Rattle.eos_ops.specs.declared.command.Command.TheVariants.{Begin}
use Rattle.eos_ops.specs.declared.limits.TheConstants.{SESSIONS, LAST_STAMP}
use Rattle.eos_ops.specs.declared.reply.Reply.TheVariants as reply
use Rattle.geometry_model.specs.Numbers.{Numbers}
use Rattle.history.specs.Event.{Opens}
use Rattle.layout_model.specs.Layout.{Tree}
use Rattle.machine.specs.Machine.{Slot, Seat, Machine, seat_at, is_active, IsSession}
use Rattle.machine.specs.Next.{next}
use Rattle.machine.specs.Replies.{IsStep}
use Rattle.moment_model.specs.Moment.{Moment, absent_slot}
use Rattle.moment_model.specs.Run.{Lays}
use Rattle.shadow_txn.specs.declared.fails.BeginFail.{BeginFail}
use Rattle.shadow_txn.specs.declared.fails.BeginFail.TheVariants.{Active, Worn}
use Rattle.shadow_txn.specs.Transaction.{Transaction, with_begin}
use Rattle.std.specs.Option.{option_map_or}
use Rattle.store_model.specs.Store.{Store, IsToldStep, IsOwedStep}
use Rattle.superdirectory.specs.Rest.{Rest}
use Rattle.world.specs.Session.{begin_reply}
use Rattle.world.proofs.Steps.{step-active, step-worn, step-begins}
use Rattle.world.proofs.Readings.{below, number}
use Rattle.body_world.specs.Keeping.{HaveRoles, IsWorld}
use Rattle.body_world.specs.Served.{KeepsSession}
use Rattle.body_world.specs.Session.{Shown, seen_by, IsSoundSession}
use Rattle.body_world.specs.Ties.{no_txn, txn_at, seat_of, pages_of, machine_seen, moment_seen, viewed, ShareObjects}
use Rattle.body_world.proofs.Stepping.{session-in, owed-step, told-still, begun-moves, agrees-begun}
use Rattle.body_world.proofs.Tied.{tied-set}
use Rattle.body_world.proofs.Viewed.{as_slot, seat_at-seen, stays, each-stays, machine-begun}

-- the place that was read is the session's
pub txn-read : {T : Type 0} (shelf : List (Option T)) (txns : List (Transaction T)) (s : ℕ) (txn : Transaction T) → 0 < s → s ≤ SESSIONS
    → ShareObjects shelf txns → txn ≡ get_or txns (s - 1) txn → txn ≡ txn_at txns (s - 1)
txn-read shelf txns s txn from_one upto tied read = read
    ∙ get_or_default txns (s - 1) txn no_txn (omega (arith, from_one, upto, tied.sessions))

pub is_active-read : {T : Type 0} (show : T → Shown) (shelf : List (Option T)) (txns : List (Transaction T)) (m : Machine) (s : ℕ)
    → machine_seen show shelf txns ≡ m → 0 < s → is_active m s ≡ (txn_at txns (s - 1)).is_open
is_active-read show shelf txns m s view from_one =
    ap (λ t. is_active m t) (sym (number s from_one)) ∙ ap (λ n. is_active n (suc (s - 1))) (sym view)
    ∙ ap (λ seat. seat.active) (seat_at-seen show shelf txns (s - 1))

stamp-read : {T : Type 0} (show : T → Shown) (shelf : List (Option T)) (txns : List (Transaction T)) (m : Machine) (s : ℕ)
    → machine_seen show shelf txns ≡ m → 0 < s → (seat_at m s).stamp ≡ (txn_at txns (s - 1)).stamp
stamp-read show shelf txns m s view from_one =
    ap (λ t. (seat_at m t).stamp) (sym (number s from_one)) ∙ ap (λ n. (seat_at n (suc (s - 1))).stamp) (sym view)
    ∙ ap (λ seat. seat.stamp) (seat_at-seen show shelf txns (s - 1))

-- a place where nothing has changed
pub set-as_was : {T : Type 0} (txns : List (Transaction T)) (i : ℕ) (txn : Transaction T) → txn ≡ txn_at txns i → set txns i txn ≡ txns
set-as_was txns i txn same = ap (set txns i) same ∙ set-get_or txns i no_txn

-- the roles are those of the slots and of the moment, whatever the seats are
pub roles-same : (good : Numbers → Tree → Type 0) (n : Numbers) (slots slots' : List Slot) (seats seats' : List Seat)
    (moment moment' : Moment) (rest : Rest) → slots' ≡ slots → moment' ≡ moment
    → HaveRoles good (record { numbers = n; machine = record { slots = slots; seats = seats }; moment = moment }) rest
    → HaveRoles good (record { numbers = n; machine = record { slots = slots'; seats = seats' }; moment = moment' }) rest
roles-same good n slots slots' seats seats' moment moment' rest same still roles =
    subst (λ xs. HaveRoles good (record { numbers = n; machine = record { slots = xs; seats = seats' }; moment = moment' }) rest) (sym same)
    (subst (λ w. HaveRoles good (record { numbers = n; machine = record { slots = slots; seats = seats' }; moment = w }) rest) (sym still)
    (record {
      views = roles.views;
      told = roles.told;
      home = roles.home;
      sound = roles.sound;
      tails = roles.tails;
      free = roles.free;
      locked = roles.locked;
    }))

-- a world whose session changed, and saw all as before, is a world
pub world-stays : {T : Type 0} (tells : Bool) (good : Numbers → Tree → Type 0) (show : T → Shown) (n : Numbers) (shelf : List (Option T))
    (txns : List (Transaction T)) (rest : Rest) (page i : ℕ) (txn' : Transaction T) → i < SESSIONS
    → IsWorld tells good show n shelf txns rest page → KeepsSession show shelf (txn_at txns i) shelf txn'
    → ((o : ℕ) → seen_by show shelf txn' o ≡ seen_by show shelf (txn_at txns i) o)
    → IsWorld tells good show n shelf (set txns i txn') rest page
world-stays tells good show n shelf txns rest page i txn' within world kept same =
    let work = world.work in
    let tied = work.shares in
    record {
      work = record {
        range = work.range;
        shares = tied-set show shelf txns i shelf txn' within tied kept;
        count = work.count;
        of_store = λ o seen is. work.of_store o seen (sym (stays show shelf txns i shelf txn' within tied kept o (same o)) ∙ is);
        resting = λ o seen is. work.resting o seen (sym (stays show shelf txns i shelf txn' within tied kept o (same o)) ∙ is);
        ready = work.ready;
        sized = work.sized;
      };
      roles = λ tell. roles-same good n _ _ _ _ _ _ rest
          (each-stays as_slot show shelf txns i shelf txn' within tied kept same)
          (each-stays (λ seen. option_map_or pages_of seen absent_slot) show shelf txns i shelf txn' within tied kept same)
          (world.roles tell);
    }

-- what a begin said of the session
pub record Begins {U T : Type 0} (result : Result U BeginFail) (txn txn' : Transaction T) : Type 0 where
  pub ok : OnOk result (txn' ≡ with_begin txn)
  pub active : (result ≡ Err Active) ↔ (txn.is_open ≡ true)
  pub worn : (result ≡ Err Worn) ↔ ((txn.is_open ≡ false) × (txn.stamp ≡ 2 ^ 62))
  pub err : OnErr result (txn' ≡ txn)

kept-begun : {T : Type 0} (show : T → Shown) (shelf : List (Option T)) (txn : Transaction T) → IsSoundSession shelf txn
    → KeepsSession show shelf txn shelf (with_begin txn)
kept-begun show shelf txn sound = record {
  session = refl;
  size = refl;
  sides = λ o. refl;
  sound = record {
    objects = sound.objects;
    few = sound.few;
    distinct = sound.distinct;
    idle = λ idle. absurd (false≢true (sym idle));
    out = sound.out;
  };
}

-- a begin leaves a world
pub world-begun : {U T : Type 0} (result : Result U BeginFail) (tells : Bool) (good : Numbers → Tree → Type 0) (show : T →
    Shown) (n : Numbers)
    (shelf : List (Option T)) (txns : List (Transaction T)) (rest : Rest) (page i : ℕ) (txn' : Transaction T) → i < SESSIONS
    → IsWorld tells good show n shelf txns rest page → Begins result (txn_at txns i) txn'
    → IsWorld tells good show n shelf (set txns i txn') rest page
world-begun (Ok done) tells good show n shelf txns rest page i txn' within world begins =
    subst (λ t. IsWorld tells good show n shelf (set txns i t) rest page) (sym begins.ok)
    (world-stays tells good show n shelf txns rest page i (with_begin (txn_at txns i)) within world
    (kept-begun show shelf (txn_at txns i) (world.work.shares.sound i within)) (λ o. refl))
world-begun (Err fail) tells good show n shelf txns rest page i txn' within world begins =
    subst (λ ts. IsWorld tells good show n shelf ts rest page) (sym (set-as_was txns i txn' begins.err)) world

-- where it isn't refused, nothing is open and the stamp isn't the last one
not-refused : {U T : Type 0} (done : U) (txn txn' : Transaction T) → Begins (Ok done) txn txn'
    → (txn.is_open ≡ false) × (txn.stamp ≢ 2 ^ 62)
not-refused done txn txn' begins =
    let idle : txn.is_open ≡ false = elim (cases_Bool txn.is_open) [
      | inl active ↦ let fails = begins.active.1 active in absurd cc
      | inr idle ↦ idle
    ] in
    (idle, λ last. let fails = begins.worn.1 (idle, last) in absurd cc)

-- the moment is as before
pub moment-begun : {U T : Type 0} (result : Result U BeginFail) (show : T → Shown) (shelf : List (Option T)) (txns : List (Transaction T))
    (i : ℕ) (txn' : Transaction T) → i < SESSIONS → ShareObjects shelf txns → Begins result (txn_at txns i) txn'
    → moment_seen show shelf (set txns i txn') ≡ moment_seen show shelf txns
moment-begun (Ok done) show shelf txns i txn' within tied begins =
    ap (λ t. moment_seen show shelf (set txns i t)) begins.ok
    ∙ each-stays (λ seen. option_map_or pages_of seen absent_slot) show shelf txns i shelf (with_begin (txn_at txns i)) within tied
    (kept-begun show shelf (txn_at txns i) (tied.sound i within)) (λ o. refl)
moment-begun (Err fail) show shelf txns i txn' within tied begins = ap (moment_seen show shelf) (set-as_was txns i txn' begins.err)

-- and the machine takes a step
pub step-begun : {U T : Type 0} (result : Result U BeginFail) (show : T → Shown) (shelf : List (Option T)) (txns : List (Transaction T))
    (m : Machine) (s : ℕ) (txn' : Transaction T) → machine_seen show shelf txns ≡ m → 0 < s → s ≤ SESSIONS → ShareObjects shelf txns
    → Begins result (txn_at txns (s - 1)) txn' → IsStep m s Begin (begin_reply result) (machine_seen show shelf (set txns (s - 1) txn'))
step-begun (Ok done) show shelf txns m s txn' view from_one upto tied begins =
    let within : s - 1 < SESSIONS = below s from_one upto in
    let free = not-refused done (txn_at txns (s - 1)) txn' begins in
    let active : is_active m s ≡ false = is_active-read show shelf txns m s view from_one ∙ free.0 in
    let last : ((seat_at m s).stamp == LAST_STAMP) ≡ false =
    ne_eqb (seat_at m s).stamp LAST_STAMP (λ e. free.1 (sym (stamp-read show shelf txns m s view from_one) ∙ e)) in
    let state : machine_seen show shelf (set txns (s - 1) txn') ≡ next m s Opens =
    ap (λ t. machine_seen show shelf (set txns (s - 1) t)) begins.ok
    ∙ machine-begun show shelf txns (s - 1) within tied (kept-begun show shelf (txn_at txns (s - 1)) (tied.sound (s - 1) within))
    ∙ ap (λ n. next n (suc (s - 1)) Opens) view ∙ ap (λ t. next m t Opens) (number s from_one) in
    subst (λ n. IsStep m s Begin reply.Ok n) (sym state) (step-begins m s active last)
step-begun (Err Active) show shelf txns m s txn' view from_one upto tied begins =
    let state : machine_seen show shelf (set txns (s - 1) txn') ≡ m =
    ap (machine_seen show shelf) (set-as_was txns (s - 1) txn' begins.err) ∙ view in
    subst (λ n. IsStep m s Begin reply.Active n) (sym state)
    (step-active m s (is_active-read show shelf txns m s view from_one ∙ begins.active.0 refl))
step-begun (Err Worn) show shelf txns m s txn' view from_one upto tied begins =
    let state : machine_seen show shelf (set txns (s - 1) txn') ≡ m =
    ap (machine_seen show shelf) (set-as_was txns (s - 1) txn' begins.err) ∙ view in
    let why = begins.worn.0 refl in
    subst (λ n. IsStep m s Begin reply.Worn n) (sym state)
    (step-worn m s (is_active-read show shelf txns m s view from_one ∙ why.0)
    (eq-eqb (seat_at m s).stamp LAST_STAMP (stamp-read show shelf txns m s view from_one ∙ why.1)))

-- the session is one of the machine's
pub session-read : {T : Type 0} (show : T → Shown) (shelf : List (Option T)) (txns : List (Transaction T)) (m : Machine) (s : ℕ)
    → machine_seen show shelf txns ≡ m → 0 < s → s ≤ SESSIONS → ShareObjects shelf txns → IsSession m s
session-read show shelf txns m s view from_one upto tied =
    subst (λ n. IsSession n s) view (session-in (machine_seen show shelf txns) s SESSIONS
    (length-map txns seat_of ∙ tied.sessions) from_one upto)

-- a begin is a step of the store
pub owed-begun : {U T : Type 0} (result : Result U BeginFail) (show : T → Shown) (shelf : List (Option T)) (txns : List (Transaction T))
    (m : Machine) (s : ℕ) (txn' : Transaction T) → machine_seen show shelf txns ≡ m → 0 < s → s ≤ SESSIONS → ShareObjects shelf txns
    → Begins result (txn_at txns (s - 1)) txn'
    → IsOwedStep m s Begin (begin_reply result) (machine_seen show shelf (set txns (s - 1) txn'))
owed-begun result show shelf txns m s txn' view from_one upto tied begins =
    owed-step m (machine_seen show shelf (set txns (s - 1) txn')) s Begin (begin_reply result)
    (session-read show shelf txns m s view from_one upto tied)
    (step-begun result show shelf txns m s txn' view from_one upto tied begins)

pub told-begun : {U T : Type 0} (result : Result U BeginFail) (laid : Lays) (show : T → Shown) (n : Numbers) (shelf : List (Option T))
    (txns : List (Transaction T)) (w : Store) (s : ℕ) (txn' : Transaction T) → viewed show n shelf txns ≡ w → 0 < s → s ≤ SESSIONS
    → ShareObjects shelf txns → Begins result (txn_at txns (s - 1)) txn'
    → IsToldStep laid w s Begin (begin_reply result) (viewed show n shelf (set txns (s - 1) txn'))
told-begun result laid show n shelf txns w s txn' view from_one upto tied begins =
    let m : Machine = machine_seen show shelf txns in
    let m' : Machine = machine_seen show shelf (set txns (s - 1) txn') in
    let moment : Moment = moment_seen show shelf txns in
    subst (λ v. IsToldStep laid v s Begin (begin_reply result) (viewed show n shelf (set txns (s - 1) txn'))) view
    (subst (λ now. IsToldStep laid (viewed show n shelf txns) s Begin (begin_reply result)
    (record { numbers = n; machine = m'; moment = now }))
    (sym (moment-begun result show shelf txns (s - 1) txn' (below s from_one upto) tied begins))
    (told-still laid n moment m m' s Begin (begin_reply result)
    (session-read show shelf txns m s refl from_one upto tied)
    (step-begun result show shelf txns m s txn' refl from_one upto tied begins)
    (λ past. begun-moves laid n s past moment (begin_reply result)) (agrees-begun result laid n moment s)))
