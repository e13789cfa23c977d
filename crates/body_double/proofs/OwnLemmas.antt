-- An owned page: where it lies, and what these objects allow of pages.
use Rattle.std.proofs.Common.{if◌then◌else◌, ◌≡◌, ℕ, Bool, true, false, List, [], length, Option, Some, None, refl, arith}
use Rattle.eos_ops.specs.declared.edit.Edit.{Edit}
use Rattle.eos_ops.specs.declared.edit.Edit.TheVariants.{Create, Destroy, Append, Insert, Delete, Replace}
use Rattle.geometry_model.specs.Numbers.{Numbers}
use Rattle.space_directory.specs.SpaceView.{SpaceView}
use Rattle.space_directory.proofs.PageLaws.{in_run}
use Rattle.superdirectory.specs.Grants.{IsRunIn, UsesSpace}
use Rattle.superdirectory.specs.Rest.{Frame, Rest}
use Rattle.superdirectory.specs.Trace.{SpaceEvent, Part, AreEnters, IsEntered}
use Rattle.superdirectory.proofs.Traces.{part_as, enters_none, enters_more}
use Rattle.moment_model.specs.Moment.{ObjectSlot, count_true}
use Rattle.object_body.specs.Memory.{EditMayTakeMemory}
use Rattle.object_body.specs.Places.{IsStore}
use Rattle.body_double.specs.Page.{OwnPage, IsOwn, is_create}

-- is it this page?
abbrev pub own_bit : Option OwnPage → ℕ → Bool
own_bit None q = false
own_bit (Some own) q = in_run own.first 1 q

pub covers-bit : (b : Bool) → (if b then 1 else 0) ≡ count_true b
covers-bit true = refl
covers-bit false = refl

pub own-run : (tells : Bool) (n : Numbers) (frame : Frame) (own : OwnPage) → IsStore n frame → IsOwn tells n own →
    IsRunIn frame own.space own.first (length own.pages)
own-run tells n frame own store owned =
    let place = owned.place in
    let here = store.firsts own.space place.in_store in
    record {
      named = omega (arith, place.in_store, store.number);
      some = omega (arith, owned.one);
      from = omega (arith, place.from, here);
      to = omega (arith, place.to, here, store.pages, owned.one);
    }

entered-enters : (space : ℕ) (part : List SpaceEvent) → IsEntered space part → AreEnters part
entered-enters space part entered = enters_more space [] part enters_none entered

pub release-enters : (space : ℕ) (change : SpaceView → SpaceView) (old new : Rest)
    (before after : Option (List SpaceEvent)) → UsesSpace space change old new before after →
    Part AreEnters before after
release-enters space change old new before after used = part_as (IsEntered space) AreEnters before after (entered-enters space) used.trace

-- what the double allows
abbrev pub RefusesOne : Numbers → ObjectSlot → ℕ → Type 0
RefusesOne n slot pages = pages ≡ 1

abbrev pub WritesNone : Numbers → ObjectSlot → Edit → ObjectSlot → ℕ → Type 0
WritesNone n old edit new pages = pages ≡ 0

-- any other edit than a `create` may take memory
pub other-may : (edit : Edit) → is_create edit ≡ false → EditMayTakeMemory edit
other-may (Create t) other = absurd cc
other-may Destroy other = tt
other-may (Append p) other = tt
other-may (Insert at p) other = tt
other-may (Delete at n) other = tt
other-may (Replace at p) other = tt
