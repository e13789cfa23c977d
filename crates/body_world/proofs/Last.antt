-- The parts of a world that is over.
use Rattle.std.proofs.Common.{◌≡◌, ℕ, ◌<◌, ◌≤◌, Bool, false, List, [], ◌∷◌, length, map, get_or, Option, Some, None, is_some}
use Rattle.std.proofs.Common.{slice_get, refl, ap}
use Rattle.std.proofs.Common.{◌∙◌, sym, subst, arith}
use Rattle.std.specs.Prelude.{option_map}
use Rattle.std.specs.Option.{option_map_or}
use Rattle.std.proofs.lemmas.Bool.{false≢true}
use Rattle.base_laws.proofs.OptionLaws.{some-inner}
use Rattle.std.proofs.lemmas.List.{length-map}
use Rattle.std.proofs.lemmas.Option.{slice_get-get_or, slice_get_within}
use Rattle.change_laws.specs.Tail.{HaveTails}
use Rattle.eos_ops.specs.declared.limits.TheConstants.{SESSIONS}
use Rattle.geometry_model.specs.Numbers.{Numbers}
use Rattle.history.specs.Event.{Event}
use Rattle.layout_model.specs.Layout.{Tree}
use Rattle.machine.specs.Machine.{Slot, Machine}
use Rattle.moment_model.specs.Moment.{IsSound, absent_slot, free_of, locked_of}
use Rattle.moment_model.specs.Run.{all_aborted}
use Rattle.moment_laws.proofs.EndLemmas.{sound-held_more}
use Rattle.object_body.specs.Places.{IsStore, AreHome}
use Rattle.shadow_txn.specs.Transaction.{Transaction}
use Rattle.space_directory.specs.SpaceView.{SpaceView}
use Rattle.store_model.specs.Store.{Store, HoldsBy}
use Rattle.superdirectory.specs.Grants.{AreTold, free_sets}
use Rattle.superdirectory.specs.Rest.{Rest}
use Rattle.world.specs.Ending.{machine_aborted}
use Rattle.body_world.specs.Ending.{AreToldParts, AreLastParts, HaveStopped}
use Rattle.body_world.specs.Keeping.{IsAtWork, HaveRoles, IsWorld, is_taken, locked_sets}
use Rattle.body_world.specs.Session.{Shown, at_home}
use Rattle.body_world.specs.Start.{AreStoreSpaces, AreStoreObjects, moment_of_parts}
use Rattle.body_world.specs.Ties.{seen_at, pages_of, machine_seen, moment_seen, viewed}
use Rattle.body_world.proofs.First.{first_shelf, seen-shelf, reads-shelf}
use Rattle.body_world.proofs.Viewed.{as_slot, slot_at-seen}

-- an object of the list is seen on the shelf
seen-place : {T : Type 0} (show : T → Shown) (xs : List T) (txns : List (Transaction T)) (o : ℕ) (d : T) → o < length xs
    → seen_at show (first_shelf xs) txns o ≡ Some (at_home (show (get_or xs o d)))
seen-place show xs txns o d within =
    seen-shelf show xs txns o ∙ ap (option_map (λ x. at_home (show x))) (slice_get-get_or xs o d within)

-- nobody holds an object of the shelf
taken-none : {T : Type 0} (show : T → Shown) (xs : List T) (txns : List (Transaction T)) (o : ℕ)
    → is_taken (machine_seen show (first_shelf xs) txns) o ≡ false
taken-none {T} show xs txns o =
    ap (λ (x : Slot). is_some x.holder) (slot_at-seen show (first_shelf xs) txns o)
    ∙ ap (λ seen. is_some (as_slot seen).holder) (seen-shelf show xs txns o) ∙ by (slice_get xs o)
  where
    by : (place : Option T) → is_some (as_slot (option_map (λ x. at_home (show x)) place)).holder ≡ false
    by None = refl
    by (Some x) = refl

-- the objects, over every device
objects-last : {T : Type 0} (show : T → Shown) (n : Numbers) (xs : List T) (txns : List (Transaction T)) (rest : Rest) (page : ℕ)
    → IsAtWork show n (first_shelf xs) txns rest page → AreStoreObjects show n xs
objects-last show n xs txns rest page work = record {
  count = sym (length-map xs Some) ∙ work.count;
  of_store = λ o d within. work.of_store o (at_home (show (get_or xs o d))) (seen-place show xs txns o d within);
  at_rest = λ o d within. work.resting o (at_home (show (get_or xs o d))) (seen-place show xs txns o d within) refl;
}

-- told spaces at home are those of the store
spaces-last : (n : Numbers) (rest : Rest) (views : List SpaceView) → IsStore n rest.frame → AreHome rest.frame views
    → AreStoreSpaces n views
spaces-last n rest views store home = record {
  number = home.number ∙ store.number;
  sound = home.space;
  alike = record {
    numbered = λ s v here. (home.home s v here).number;
    sized = λ s v here. (home.home s v here).page ∙ store.page;
    count = λ s v here. (home.home s v here).pages ∙ store.pages;
  };
  firsts = λ s v here.
      let within : s < length views = slice_get_within views s v here in
      (home.home s v here).first ∙ store.firsts s (omega (arith, within, home.number, store.number));
}

-- the same options are of the same list
pub same-somes : {A : Type 0} (xs ys : List A) → map Some xs ≡ map Some ys → xs ≡ ys
same-somes [] [] same = refl
same-somes [] (y ∷ ys) same = absurd cc
same-somes (x ∷ xs) [] same = absurd cc
same-somes (x ∷ xs) (y ∷ ys) same =
    let first : Some x ≡ Some y = cc in
    let rest : map Some xs ≡ map Some ys = cc in
    let head : x ≡ y = cc in
    let tail : xs ≡ ys = same-somes xs ys rest in
    ap (λ z. z ∷ xs) head ∙ ap (λ zs. y ∷ zs) tail

-- where bytes are told
told-last : {T : Type 0} (good : Numbers → Tree → Type 0) (show : T → Shown) (n : Numbers) (w : Store) (xs : List T)
    (txns : List (Transaction T)) (rest : Rest) (spaces : List SpaceView) → n ≡ w.numbers → IsStore n rest.frame → AreTold rest spaces
    → (viewed show n (first_shelf xs) txns).machine ≡ machine_aborted SESSIONS w.machine
    → ((past : List Event) → ((s : ℕ) → 1 ≤ s → s ≤ SESSIONS → HoldsBy s past w.machine)
    → (viewed show n (first_shelf xs) txns).moment ≡ all_aborted SESSIONS past w.moment)
    → HaveRoles good (viewed show n (first_shelf xs) txns) rest → AreToldParts good show w spaces xs
told-last good show n w xs txns rest spaces numbers store are machine moment roles =
    subst (λ v. AreToldParts good show v spaces xs) numbered (record {
      slots = sym (reads-shelf as_slot show xs txns) ∙ ap (λ (m : Machine). m.slots) machine;
      moment = λ past by. sym is ∙ moment past by;
      of_spaces = subst (AreStoreSpaces n) views (spaces-last n rest roles.views store roles.home);
      roles = record {
        sound = subst (IsSound good n (λ o. false)) is
            (sound-held_more good n (is_taken (machine_seen show (first_shelf xs) txns)) (λ o. false) (moment_seen show
            (first_shelf xs) txns)
            (λ o held. absurd (false≢true (sym (taken-none show xs txns o) ∙ held))) roles.sound);
        tails = subst (HaveTails n) is roles.tails;
        free = ap free_sets (sym views) ∙ roles.free ∙ ap (free_of n) is;
        locked = ap locked_sets (sym views) ∙ roles.locked ∙ ap (locked_of n) is;
      };
    })
  where
    numbered : record { numbers = n; machine = w.machine; moment = w.moment } ≡ w
    numbered = ap (λ k. record { numbers = k; machine = w.machine; moment = w.moment }) numbers

    is : moment_seen show (first_shelf xs) txns ≡ moment_of_parts show xs
    is = reads-shelf (λ seen. option_map_or pages_of seen absent_slot) show xs txns

    views : roles.views ≡ spaces
    views =
        let both : Some (map Some roles.views) ≡ Some (map Some spaces) = sym roles.told ∙ are in
        same-somes roles.views spaces (some-inner (map Some roles.views) (map Some spaces) both)

-- all of them
pub parts-last : {T : Type 0} (tells : Bool) (good : Numbers → Tree → Type 0) (show : T → Shown) (n : Numbers) (w : Store)
    (shelf : List (Option T)) (xs : List T) (txns : List (Transaction T)) (rest : Rest) (spaces : List SpaceView) (page : ℕ)
    → first_shelf xs ≡ shelf → AreTold rest spaces → IsWorld tells good show n shelf txns rest page
    → HaveStopped tells SESSIONS w (viewed show n shelf txns) → AreLastParts tells good show w spaces xs page
parts-last {T} tells good show n w shelf xs txns rest spaces page home are world stopped =
    by shelf home world stopped
  where
    by : (slots : List (Option T)) → first_shelf xs ≡ slots → IsWorld tells good show n slots txns rest page
        → HaveStopped tells SESSIONS w (viewed show n slots txns) → AreLastParts tells good show w spaces xs page
    by slots same has have =
        let own : IsWorld tells good show n (first_shelf xs) txns rest page =
        subst (λ ys. IsWorld tells good show n ys txns rest page) (sym same) has in
        let over : HaveStopped tells SESSIONS w (viewed show n (first_shelf xs) txns) =
        subst (λ ys. HaveStopped tells SESSIONS w (viewed show n ys txns)) (sym same) have in
        record {
          of_objects = subst (λ k. AreStoreObjects show k xs) over.numbers (objects-last show n xs txns rest page own.work);
          sized = own.work.sized ∙ ap (λ (k : Numbers). k.page) over.numbers;
          told = λ tell. told-last good show n w xs txns rest spaces over.numbers own.work.ready.store are
              (over.machine tell) (over.moment tell) (own.roles tell);
        }
