use Rattle.std.proofs.Common.{◌≡◌, ◌<◌, ◌≤◌, ℕ, length, map, take, Some}
use Rattle.std.specs.Prelude.{slice_get, vec_capacity}
use Rattle.block_model.specs.Place.{hint_of}
use Rattle.space_directory.specs.SpaceView.{SpaceView, IsSpace}
use Rattle.superdirectory.specs.declared.hint.Hint.{Hint}
use Rattle.superdirectory.proofs.solo.hints_of.Given as goal

-- the hints of the spaces so far, each of which is a space
abbrev pub invariant-loop-space : goal.invariant-loop-space
invariant-loop-space g l = record {
  room : length l.spaces ≤ vec_capacity l.hints;
  hints : map (λ (h : Hint). h.0) l.hints.items ≡ map (λ (v : SpaceView). hint_of v.free) (take l.space-index l.spaces);
  sound : (s : ℕ) (v : SpaceView) → s < l.space-index → slice_get l.spaces s ≡ Some v → IsSpace v;
}
