-- One space more, and its hint.
use Rattle.std.proofs.Common.{inl, inr, ◌≡◌, ◌<◌, ℕ, List, [], ◌∷◌, ◌++◌, length, map, take, get_or, sym, ap, ◌∙◌, subst, arith}
use Rattle.std.proofs.lemmas.List.{map_push, map_more}
use Rattle.std.proofs.lemmas.Option.{slice_get_within, get_or_from_slice_get}
use Rattle.std.proofs.lemmas.Bool.{cases_lt}
use Rattle.block_model.specs.Place.{hint_of}
use Rattle.space_directory.specs.SpaceView.{SpaceView, IsSpace}
use Rattle.superdirectory.specs.declared.hint.Hint.{Hint}
use Rattle.superdirectory.proofs.Exact.{space_short}
use Rattle.superdirectory.proofs.solo.hints_of.Goals as goal

pub of-requires : goal.of-requires
of-requires g c = omega (arith, ap (length {A = _}) c.as_ref.ensures.free, space_short c.space-item.result c.as_ref.ensures.space)

pub loop-space-preserved : goal.loop-space-preserved
loop-space-preserved g c =
    let i = c.loop-space.space-index in
    let spaces = c.args.spaces.now in
    let v = c.space-item.result in
    let kept = c.loop-space.invariant in
    let less : i < length spaces = omega arith in
    let hint : c.of.result.0 ≡ hint_of (get_or spaces i v).free = c.of.ensures ∙ ap hint_of c.as_ref.ensures.free
    ∙ ap (λ (w : SpaceView). hint_of w.free) c.space-item.is in
    record {
      room = omega (arith, kept.room, c.push_reserved.ensures.capacity);
      hints = ap (map (λ (h : Hint). h.0)) c.push_reserved.ensures.items
          ∙ map_push (λ (h : Hint). h.0) c.loop-space.hints.items c.of.result
          ∙ ap (λ (l : List ℕ). l ++ (c.of.result.0 ∷ [])) kept.hints
          ∙ ap (λ (n : ℕ). map (λ (w : SpaceView). hint_of w.free) (take i spaces) ++ (n ∷ [])) hint
          ∙ sym (map_more (λ (w : SpaceView). hint_of w.free) spaces i v less);
      sound = λ s w below here. elim (cases_lt s i) [
        | inl before ↦ kept.sound s w before here
        | inr other ↦
            let at : s ≡ i = omega arith in
            let same : v ≡ w = c.space-item.is ∙ ap (λ (k : ℕ). get_or spaces k v) (sym at) ∙ get_or_from_slice_get spaces s w v here in
            subst IsSpace same c.as_ref.ensures.space
      ];
    }

pub returns-clause-spaces : goal.returns-clause-spaces
returns-clause-spaces g c = λ s v here.
    c.loop-space.invariant.sound s v (omega (arith, slice_get_within c.args.spaces.now s v here)) here
