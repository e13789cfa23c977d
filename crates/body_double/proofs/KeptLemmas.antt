-- What an object shows whose pages are those of a tree.
use Rattle.std.proofs.Common.{IfSome, ◌≡◌, ℕ, zero, suc, ◌<◌, Bool, true, false, IsTrue, List, [], Option, Some, None, Result, Ok}
use Rattle.std.proofs.Common.{Err, refl, sym, ap, subst, arith, ◌∙◌, nat_eq, nat_lt, is_some, ◌&&◌, ◌||◌}
use Rattle.std.specs.Prelude.{IfOk}
use Rattle.std.proofs.lemmas.Bool.{lt-ltb}
use Rattle.eos_ops.specs.declared.edit.Edit.{Edit}
use Rattle.eos_ops.specs.declared.edit.Edit.TheVariants.{Create, Destroy, Append, Insert, Delete, Replace}
use Rattle.eos_ops.specs.declared.outcome.Outcome.{Outcome}
use Rattle.eos_ops.specs.declared.outcome.Outcome.TheVariants.{Done, Exists}
use Rattle.eos_ops.specs.Edits.{edited}
use Rattle.fault_count.specs.Counts.{Meter}
use Rattle.geometry_model.specs.Numbers.{Numbers, IsInRange}
use Rattle.geometry_model.proofs.NumberLaws.{page-some}
use Rattle.layout_model.specs.Grants.{Spaces}
use Rattle.tree_model.specs.declared.entry.Pair.{Pair}
use Rattle.tree_model.specs.declared.tree.Root.{Root}
use Rattle.moment_model.specs.Version.{version_uses}
use Rattle.moment_model.specs.Edit.{edited_length, settled, undone}
use Rattle.moment_model.specs.Moment.{ObjectSlot, committed_uses, working_uses, either_uses}
use Rattle.moment_laws.specs.Change.{free_after, locked_after}
use Rattle.span_store.specs.Held.{Held, AllSized, bytes_on, has}
use Rattle.tree_pages.specs.Entry.{Entry}
use Rattle.tree_pages.specs.Levels.{version_at, plain_at}
use Rattle.superdirectory.specs.Rest.{Rest, count}
use Rattle.superdirectory.specs.Trace.{SpaceEvent, AreEnters}
use Rattle.superdirectory.proofs.Traces.{part_none, enters_none}
use Rattle.space_directory.specs.SpaceView.{SpaceView}
use Rattle.superdirectory.specs.Grants.{free_sets}
use Rattle.object_body.specs.declared.fails.EditFail.{EditFail}
use Rattle.object_body.specs.declared.fails.EditFail.TheVariants.{Fault, Memory}
use Rattle.object_body.specs.declared.fails.LookFail.{LookFail}
use Rattle.object_body.specs.declared.fails.LookFail.TheVariants as look
use Rattle.object_body.specs.Calls.{Stage, IsEdit, IsBodyEnd, IsBodyRead, IsExplained, IsWithin, slot_in}
use Rattle.object_body.specs.Form.{Form, Contents, AreTied, HaveLengths, settled_form, settled_contents, undone_form, undone_contents}
use Rattle.object_body.specs.Lengths.{outcome_of}
use Rattle.object_body.specs.Memory.{EditMayTakeMemory}
use Rattle.object_body.specs.Moves.{MovesTold}
use Rattle.object_body.specs.Places.{IsReady, AreHome}
use Rattle.object_body.specs.Stored.{IsHeldTree, IsLoad, IsLoaded, IsKeeping, HasStoredTree, StandsOn, entry_length, entry_of, root_in}
use Rattle.object_body.proofs.HeldTreeLemmas.{sized-page, AreFull, has-length, twice-some}
use Rattle.object_body.proofs.MoveLemmas.{same-moves}
use Rattle.object_body.proofs.CallLemmas.{keeps-frame, used-not, cause-none, no-memory, empty-read}
use Rattle.object_body.proofs.TurnLemmas.{turned-moves, turned-not}
use Rattle.superdirectory.specs.Grants.{AreTold}
use Rattle.superdirectory.specs.Rest.{Frame}
use Rattle.body_double.specs.Kept.{KeptView, new_entry, working_entry, kept_form, kept_contents, kept_created, lays_kept, IsShown}
use Rattle.body_double.specs.Kept.{KeepsTree}
use Rattle.body_double.specs.Page.{is_create}
use Rattle.body_double.proofs.OwnLemmas.{WritesNone}

-- the pages that a version uses are held, and so have the store's bytes
stands-of : (n : Numbers) (fits : ℕ → ℕ → Option Pair → Pair → Bool) (held : Held) (entry : Entry) →
    HasStoredTree fits n (bytes_on held) entry → StandsOn n (bytes_on held) entry
stands-of n fits held None tree = tt
stands-of n fits held (Some present) tree = tree.0

shown : (tells : Bool) (n : Numbers) (fits : ℕ → ℕ → Option Pair → Pair → Bool) (entry : Entry) (held : Held) → 0 < n.page →
    AllSized tells n.page held → IsTrue tells → IsHeldTree fits n held entry → IsShown n entry held
shown tells n fits entry held some sized tell tree =
    let full : AreFull n (bytes_on held) entry =
    λ q used. sized-page tells n.page held q sized tell
    (tree.just q ∙ lt-ltb 0 (version_uses n q (version_at (bytes_on held) entry)) used) in
    let stands = stands-of n fits held entry tree.tree in
    let long = has-length n (bytes_on held) entry some stands full in
    record { tree = stands; bytes = long.root; version = long.version; just = tree.just }

-- a new object has no byte, and uses no page
new-stands : (n : Numbers) (held : Held) → StandsOn n (bytes_on held) new_entry
new-stands n held = record { shape = (refl, refl); listed = refl; nodes = tt; segments = tt }

new-shown : (n : Numbers) (held : Held) → IsShown n None held → IsShown n new_entry held
new-shown n held is = record { tree = new-stands n held; bytes = refl; version = refl; just = is.just }

-- ---- what the object shows

working-shown : (n : Numbers) (entry : Entry) (created : Bool) (held : Held) → IsShown n entry held →
    HaveLengths (kept_contents (record { numbers = n; entry = entry; created = created; held = held }))
working-shown n entry true held is = record { committed = is.version; working = refl }
working-shown n entry false held is = record { committed = is.version; working = is.version }

working-length : (n : Numbers) (entry : Entry) (created : Bool) (held : Held) → IsShown n entry held →
    AreTied HaveLengths (kept_form (record { numbers = n; entry = entry; created = created; held = held }))
    (kept_contents (record { numbers = n; entry = entry; created = created; held = held }))
working-length n entry true held is = record {
  committed = is.bytes;
  working = refl;
  rests = λ rests. absurd cc;
  kind = working-shown n entry true held is;
}
working-length n entry false held is = record {
  committed = is.bytes;
  working = is.bytes;
  rests = λ rests. (record { same = refl; no_spare = refl }, refl);
  kind = working-shown n entry false held is;
}

pub kept-tied : (tells : Bool) (v : KeptView) → KeepsTree tells v → IsTrue tells → AreTied HaveLengths (kept_form v) (kept_contents v)
kept-tied tells v kept tell = working-length v.numbers v.entry v.created v.held (kept.shown tell)

abbrev pub kept_stage : KeptView → Rest → Option (List SpaceEvent) → Stage
kept_stage v rest trace = record { form = kept_form v; told = kept_contents v; rest = rest; trace = trace }

-- ---- edits

abbrev pub KeptEdits : Bool → ℕ → Edit → Result Outcome EditFail → KeptView → KeptView → Rest → Option (List SpaceEvent) → Meter → Type 0
KeptEdits tells start edit result v w rest trace meter =
    IsEdit tells HaveLengths lays_kept (λ n slot pages. ⊥) WritesNone start edit result
    (kept_stage v rest trace) (kept_stage w rest trace) meter meter

-- no other edit but a `create` is made
pub kept-wants : (tells : Bool) (start : ℕ) (edit : Edit) (v : KeptView) (rest : Rest)
    (trace : Option (List SpaceEvent)) (meter : Meter) → KeepsTree tells v → IsReady v.numbers rest → EditMayTakeMemory edit →
    KeptEdits tells start edit (Err Memory) v v rest trace meter
kept-wants tells start edit v rest trace meter kept ready may =
    no-memory tells HaveLengths lays_kept (λ n slot pages. ⊥) WritesNone start edit (kept_stage v rest trace) meter
    ready.none refl (kept-tied tells v kept) may

-- where the object is there already
exists-outcome : (t : Option ℕ) (entry : Entry) → is_some entry ≡ true → Exists ≡ outcome_of (Create t) (entry_length entry)
exists-outcome t None some = absurd cc
exists-outcome t (Some present) some = refl

exists-length : (t : Option ℕ) (entry : Entry) → is_some entry ≡ true → entry_length entry ≡ edited_length (Create t) (entry_length entry)
exists-length t None some = absurd cc
exists-length t (Some present) some = refl

exists-edited : (t : Option ℕ) (at : ℕ → List ℕ) (size : ℕ) (entry : Entry) → is_some entry ≡ true →
    plain_at at size entry ≡ edited (Create t) (plain_at at size entry)
exists-edited t at size None some = absurd cc
exists-edited t at size (Some present) some = refl

exists-laid : (at : ℕ → List ℕ) (free : Spaces) (slot : ObjectSlot) (entry : Entry) → is_some entry ≡ true →
    slot_in (kept_created free slot (version_at at entry)) ≡ Some slot
exists-laid at free slot None some = absurd cc
exists-laid at free slot (Some present) some = refl

pub kept-exists : (tells : Bool) (start : ℕ) (t : Option ℕ) (v : KeptView) (rest : Rest)
    (trace : Option (List SpaceEvent)) (meter : Meter) → KeepsTree tells v → IsReady v.numbers rest →
    is_some (working_entry v.entry v.created) ≡ true → KeptEdits tells start (Create t) (Ok Exists) v v rest trace meter
kept-exists tells start t v rest trace meter kept ready some =
    let entry = working_entry v.entry v.created in
    record {
      outcome = exists-outcome t entry some;
      form = record { numbers = refl; committed = refl; working = exists-length t entry some };
      unmade = λ other. refl;
      rest = keeps-frame rest ready.none;
      low = part_none (IsExplained (count rest) (Ok Exists)) trace tt;
      port = used-not meter;
      cause = cause-none meter.faults (Ok Exists ≡ Err Fault) (λ same. absurd cc);
      memory = λ wanted. absurd cc;
      told = λ tell. record {
        working = exists-edited t (bytes_on v.held) v.numbers.page entry some;
        committed = refl;
        kept = refl;
        unmade = λ other. refl;
        granted = λ views told long. exists-laid (bytes_on v.held) (free_sets views) (kept_contents v).slot entry some;
        spaces = λ views told home. same-moves v.numbers rest.frame views (kept_contents v).slot rest told home;
        small = tt;
        writes = record { pages = 0; allowed = refl; most = omega arith };
      };
      tied = kept-tied tells v kept;
    }

-- where it is absent: no page is used before or after
abbrev pub absent_view : Numbers → Held → KeptView
absent_view n held = record { numbers = n; entry = None; created = false; held = held }

abbrev pub created_view : Numbers → Held → KeptView
created_view n held = record { numbers = n; entry = None; created = true; held = held }

-- where no page is used before and after, the spaces stay
or-none : (f : Bool) → (true && (f || false)) ≡ f
or-none true = refl
or-none false = refl

and-all : (l : Bool) → (false || (l && (true && true))) ≡ l
and-all true = refl
and-all false = refl

bare-free : (n : Numbers) (page : ℕ) (f : Bool) (old new : ObjectSlot) → either_uses n page old ≡ 0 → either_uses n page new ≡ 0 →
    f ≡ free_after n page f old new
bare-free n page f old new was is = sym (ap (λ (k : ℕ). nat_eq k 0 && (f || nat_lt 0 (either_uses n page old))) is
    ∙ (ap (λ (k : ℕ). true && (f || nat_lt 0 k)) was ∙ or-none f))

bare-locked : (n : Numbers) (page : ℕ) (l : Bool) (old new : ObjectSlot) → either_uses n page old ≡ 0 → either_uses n page new ≡ 0 →
    l ≡ locked_after n page l old new
bare-locked n page l old new was is =
    let none : committed_uses n page new ≡ 0 = omega (arith, is) in
    sym (ap (λ (k : ℕ). (nat_lt 0 k && nat_eq (working_uses n page new) 0)
    || (l && (nat_eq (either_uses n page old) 0 && nat_eq (either_uses n page new) 0))) none
    ∙ (ap (λ (k : ℕ). false || (l && (nat_eq k 0 && nat_eq (either_uses n page new) 0))) was
    ∙ (ap (λ (k : ℕ). false || (l && (true && nat_eq k 0))) is ∙ and-all l)))

bare-moves : (n : Numbers) (frame : Frame) (views : List SpaceView) (old new : ObjectSlot) (rest : Rest) →
    ((page : ℕ) → either_uses n page old ≡ 0) → ((page : ℕ) → either_uses n page new ≡ 0) → AreTold rest views → AreHome frame views →
    MovesTold n frame views old new rest
bare-moves n frame views old new rest was is told home =
    turned-moves n frame views (λ page f l. Unit {0}) (λ page f l. f) (λ page f l. l) old new rest
    (turned-not n frame views rest told home)
    (λ page s at place. tt)
    (λ page f l known used locked. (bare-free n page f old new (was page) (is page), bare-locked n page l old new (was page) (is page)))

pub kept-creates : (tells : Bool) (start : ℕ) (t : Option ℕ) (n : Numbers) (held : Held) (rest : Rest)
    (trace : Option (List SpaceEvent)) (meter : Meter) → KeepsTree tells (absent_view n held) → IsReady n rest →
    KeptEdits tells start (Create t) (Ok Done) (absent_view n held) (created_view n held) rest trace meter
kept-creates tells start t n held rest trace meter kept ready = record {
  outcome = refl;
  form = record { numbers = refl; committed = refl; working = refl };
  unmade = λ other. absurd (other refl);
  rest = keeps-frame rest ready.none;
  low = part_none (IsExplained (count rest) (Ok Done)) trace tt;
  port = used-not meter;
  cause = cause-none meter.faults (Ok Done ≡ Err Fault) (λ same. absurd cc);
  memory = λ wanted. absurd cc;
  told = λ tell. record {
    working = refl;
    committed = refl;
    kept = refl;
    unmade = λ other. absurd (other refl);
    granted = λ views told long. refl;
    spaces = λ views told home. bare-moves n rest.frame views (kept_contents (absent_view n held)).slot
        (kept_contents (created_view n held)).slot rest (λ page. refl) (λ page. refl) told home;
    small = tt;
    writes = record { pages = 0; allowed = refl; most = omega arith };
  };
  tied = λ tell. working-length n None true held (kept.shown tell);
}

-- of the entry that is there or not
none-there : (entry : Entry) (created : Bool) → is_some (working_entry entry created) ≡ false → (entry ≡ None) × (created ≡ false)
none-there entry true gone = absurd cc
none-there None false gone = (refl, refl)
none-there (Some present) false gone = absurd cc

pub kept-created : (tells : Bool) (start : ℕ) (t : Option ℕ) (n : Numbers) (entry : Entry) (created : Bool) (held : Held) (rest : Rest)
    (trace : Option (List SpaceEvent)) (meter : Meter) →
    KeepsTree tells (record { numbers = n; entry = entry; created = created; held = held }) → IsReady n rest →
    is_some (working_entry entry created) ≡ false →
    KeptEdits tells start (Create t) (Ok Done) (record { numbers = n; entry = entry; created = created; held = held })
    (record { numbers = n; entry = entry; created = true; held = held }) rest trace meter
kept-created tells start t n entry true held rest trace meter kept ready gone = absurd cc
kept-created tells start t n None false held rest trace meter kept ready gone =
    kept-creates tells start t n held rest trace meter kept ready
kept-created tells start t n (Some present) false held rest trace meter kept ready gone = absurd cc

-- and then it keeps its pages still
pub created-keeps : (tells : Bool) (n : Numbers) (entry : Entry) (created : Bool) (held : Held) →
    KeepsTree tells (record { numbers = n; entry = entry; created = created; held = held }) →
    is_some (working_entry entry created) ≡ false →
    KeepsTree tells (record { numbers = n; entry = entry; created = true; held = held })
created-keeps tells n entry created held kept gone = record {
  on_data = kept.on_data;
  sized = kept.sized;
  shown = kept.shown;
  absent = λ is. (none-there entry created gone).0;
}

-- ---- ends

abbrev pub KeptEnds : Bool → (Form → Form) → (Contents → Contents) → KeptView → KeptView → Rest → Option (List SpaceEvent) → Type 0
KeptEnds tells form_by told_by v w rest trace =
    IsBodyEnd tells HaveLengths (form_by (kept_form v)) (told_by (kept_contents v)) (kept_stage v rest trace) (kept_stage w rest trace)

-- the new object, whose entry is known by an equation
pub kept-settles : (tells : Bool) (n : Numbers) (entry : Entry) (created : Bool) (held : Held) (rest : Rest)
    (trace : Option (List SpaceEvent)) → KeepsTree tells (record { numbers = n; entry = entry; created = created; held = held }) →
    IsReady n rest → created ≡ true →
    KeptEnds tells settled_form settled_contents (record { numbers = n; entry = entry; created = created; held = held })
    (record { numbers = n; entry = new_entry; created = false; held = held }) rest trace
kept-settles tells n entry false held rest trace kept ready is = absurd cc
kept-settles tells n (Some present) true held rest trace kept ready is =
    let never : Some present ≡ None = kept.absent refl in absurd cc
kept-settles tells n None true held rest trace kept ready is = record {
  form = refl;
  told = λ tell. refl;
  rest = keeps-frame rest ready.none;
  enters = part_none AreEnters trace enters_none;
  spaces = λ tell views told home. bare-moves n rest.frame views (kept_contents (created_view n held)).slot
      (settled (kept_contents (created_view n held)).slot) rest (λ page. refl) (λ page. refl) told home;
  tied = λ tell. working-length n new_entry false held (new-shown n held (kept.shown tell));
}

pub kept-stays : (tells : Bool) (n : Numbers) (entry : Entry) (created : Bool) (held : Held) (rest : Rest)
    (trace : Option (List SpaceEvent)) → KeepsTree tells (record { numbers = n; entry = entry; created = created; held = held }) →
    IsReady n rest → created ≡ false →
    KeptEnds tells settled_form settled_contents (record { numbers = n; entry = entry; created = created; held = held })
    (record { numbers = n; entry = entry; created = created; held = held }) rest trace
kept-stays tells n entry true held rest trace kept ready is = absurd cc
kept-stays tells n entry false held rest trace kept ready is = record {
  form = refl;
  told = λ tell. refl;
  rest = keeps-frame rest ready.none;
  enters = part_none AreEnters trace enters_none;
  spaces = λ tell views told home. same-moves n rest.frame views
      (kept_contents (record { numbers = n; entry = entry; created = false; held = held })).slot rest told home;
  tied = λ tell. working-length n entry false held (kept.shown tell);
}

pub kept-undoes : (tells : Bool) (n : Numbers) (entry : Entry) (created : Bool) (held : Held) (rest : Rest)
    (trace : Option (List SpaceEvent)) → KeepsTree tells (record { numbers = n; entry = entry; created = created; held = held }) →
    IsReady n rest →
    KeptEnds tells undone_form undone_contents (record { numbers = n; entry = entry; created = created; held = held })
    (record { numbers = n; entry = entry; created = false; held = held }) rest trace
kept-undoes tells n entry false held rest trace kept ready = record {
  form = refl;
  told = λ tell. refl;
  rest = keeps-frame rest ready.none;
  enters = part_none AreEnters trace enters_none;
  spaces = λ tell views told home. same-moves n rest.frame views
      (kept_contents (record { numbers = n; entry = entry; created = false; held = held })).slot rest told home;
  tied = λ tell. working-length n entry false held (kept.shown tell);
}
kept-undoes tells n (Some present) true held rest trace kept ready =
    let never : Some present ≡ None = kept.absent refl in absurd cc
kept-undoes tells n None true held rest trace kept ready = record {
  form = refl;
  told = λ tell. refl;
  rest = keeps-frame rest ready.none;
  enters = part_none AreEnters trace enters_none;
  spaces = λ tell views told home. bare-moves n rest.frame views (kept_contents (created_view n held)).slot
      (undone (kept_contents (created_view n held)).slot) rest (λ page. refl) (λ page. refl) told home;
  tied = λ tell. working-length n None false held (kept.shown tell);
}

-- what it keeps after an end
pub settled-keeps : (tells : Bool) (n : Numbers) (entry : Entry) (created : Bool) (held : Held) →
    KeepsTree tells (record { numbers = n; entry = entry; created = created; held = held }) → created ≡ true →
    KeepsTree tells (record { numbers = n; entry = new_entry; created = false; held = held })
settled-keeps tells n entry created held kept is = record {
  on_data = kept.on_data;
  sized = kept.sized;
  shown = λ tell. new-shown n held (subst (λ (entry : Entry). IsShown n entry held) (kept.absent is) (kept.shown tell));
  absent = λ again. absurd cc;
}

pub undone-keeps : (tells : Bool) (n : Numbers) (entry : Entry) (created : Bool) (held : Held) →
    KeepsTree tells (record { numbers = n; entry = entry; created = created; held = held }) →
    KeepsTree tells (record { numbers = n; entry = entry; created = false; held = held })
undone-keeps tells n entry created held kept = record {
  on_data = kept.on_data;
  sized = kept.sized;
  shown = kept.shown;
  absent = λ again. absurd cc;
}

-- ---- reads

pub kept-read : (tells : Bool) (at len : ℕ) (result : Result (List ℕ) LookFail) (v : KeptView) (meter : Meter) → KeepsTree tells v →
    IsWithin (kept_form v).working at len → IfOk result (λ bytes. (bytes ≡ []) × (len ≡ 0)) → (result ≡ Err look.Fault → ⊥) →
    (result ≡ Err look.Memory → 0 < len) →
    IsBodyRead tells HaveLengths (λ n slot bytes pages. pages ≡ 0) at len result (kept_form v) (kept_form v)
    (kept_contents v) (kept_contents v) meter meter
kept-read tells at len result v meter kept within =
    empty-read tells HaveLengths (λ n slot bytes pages. pages ≡ 0) at len result (kept_form v) (kept_contents v) meter within refl
    (kept-tied tells v kept)

pub asks-some : (n : ℕ) → (n ≡ 0 → ⊥) → 0 < n
asks-some zero some = absurd (some refl)
asks-some (suc n) some = omega arith

-- ---- made of pages, and taken apart

pub kept-of : (tells : Bool) (fits : ℕ → ℕ → Option Pair → Pair → Bool) (n : Numbers) (entry : Entry) (given : Option Held) (held : Held) →
    given ≡ Some held → IsInRange n → IfSome given (IsLoad tells fits n entry) →
    KeepsTree tells (record { numbers = n; entry = entry; created = false; held = held })
kept-of tells fits n entry given held is range loads =
    let load = subst (λ (o : Option Held). IfSome o (IsLoad tells fits n entry)) is loads in
    record {
      on_data = load.on_data;
      sized = load.sized;
      shown = λ tell. shown tells n fits entry held (page-some n range) load.sized tell (load.told tell);
      absent = λ again. absurd cc;
    }

abbrev pub IsKeptLoad : Bool → Numbers → Entry → Held → Held → Type 0
IsKeptLoad tells n entry held was = IsLoaded tells n entry was
    (kept_form (record { numbers = n; entry = entry; created = false; held = held }))
    (kept_contents (record { numbers = n; entry = entry; created = false; held = held })) entry held

pub kept-loaded : (tells : Bool) (n : Numbers) (entry : Entry) (held : Held) (given : Option Held) → given ≡ Some held →
    IfSome given (IsKeptLoad tells n entry held)
kept-loaded tells n entry held given is = subst (λ (o : Option Held). IfSome o (IsKeptLoad tells n entry held)) (sym is) (record {
  numbers = refl;
  working = refl;
  committed = refl;
  rests = refl;
  named = refl;
  pages_kept = λ q. refl;
  slot = λ tell. refl;
  bytes = λ tell. refl;
})

-- the pages that it holds are those of its versions
kept-just : (n : Numbers) (entry : Entry) (created : Bool) (held : Held) → IsShown n entry held → (created ≡ true → entry ≡ None) →
    (page : ℕ) → has held page
    ≡ nat_lt 0 (either_uses n page (kept_contents (record { numbers = n; entry = entry; created = created; held = held })).slot)
kept-just n entry false held is absent page = is.just page ∙ twice-some (version_uses n page (version_at (bytes_on held) entry))
kept-just n None true held is absent page = is.just page
kept-just n (Some present) true held is absent page = let never : Some present ≡ None = absent refl in absurd cc

-- the tree of its working version stands on them
kept-stands : (n : Numbers) (entry : Entry) (created : Bool) (held : Held) → IsShown n entry held →
    StandsOn n (bytes_on held) (working_entry entry created)
kept-stands n entry true held is = new-stands n held
kept-stands n entry false held is = is.tree

pub kept-keeping : (tells : Bool) (v : KeptView) → KeepsTree tells v →
    IsKeeping tells (kept_form v) (kept_contents v) (working_entry v.entry v.created) v.held
kept-keeping tells v kept = record {
  on_data = kept.on_data;
  sized = kept.sized;
  just = λ tell. kept-just v.numbers v.entry v.created v.held (kept.shown tell) kept.absent;
  tree = λ tell. kept-stands v.numbers v.entry v.created v.held (kept.shown tell);
  version = λ tell. refl;
  bytes = λ tell. refl;
}

pub root-kept : (root : Option Root) (threshold : ℕ) → root ≡ root_in (entry_of root threshold)
root-kept None threshold = refl
root-kept (Some root) threshold = refl

-- ---- the same of a view, which is known by an equation

pub there-is : (root : Option Root) (threshold : ℕ) (created : Bool) →
    is_some (working_entry (entry_of root threshold) created) ≡ (created || is_some root)
there-is root threshold true = refl
there-is None threshold false = refl
there-is (Some root) threshold false = refl

pub new-shows : {A : Type 0} (shows : Entry → A) (entry : Entry) (created : Bool) → created ≡ true →
    shows new_entry ≡ shows (working_entry entry created)
new-shows shows entry true is = refl
new-shows shows entry false is = absurd cc

pub old-shows : {A : Type 0} (shows : Entry → A) (entry : Entry) (created : Bool) → created ≡ false →
    shows entry ≡ shows (working_entry entry created)
old-shows shows entry true is = absurd cc
old-shows shows entry false is = refl

pub exists-by : (tells : Bool) (start : ℕ) (edit : Edit) (v inside : KeptView) (rest : Rest)
    (trace : Option (List SpaceEvent)) (meter : Meter) → inside ≡ v → is_create edit ≡ true → KeepsTree tells inside →
    is_some (working_entry inside.entry inside.created) ≡ true → IsReady v.numbers rest →
    KeptEdits tells start edit (Ok Exists) v v rest trace meter
exists-by tells start edit v inside rest trace meter same create kept some =
    subst (λ (w : KeptView). IsReady w.numbers rest → KeptEdits tells start edit (Ok Exists) w w rest trace meter) same (go edit create)
  where
    go : (edit : Edit) → is_create edit ≡ true → IsReady inside.numbers rest →
        KeptEdits tells start edit (Ok Exists) inside inside rest trace meter
    go (Create t) create ready = kept-exists tells start t inside rest trace meter kept ready some
    go Destroy create ready = absurd cc
    go (Append p) create ready = absurd cc
    go (Insert at p) create ready = absurd cc
    go (Delete at k) create ready = absurd cc
    go (Replace at p) create ready = absurd cc

pub created-by : (tells : Bool) (start : ℕ) (edit : Edit) (v inside : KeptView) (rest : Rest)
    (trace : Option (List SpaceEvent)) (meter : Meter) → inside ≡ v → is_create edit ≡ true → KeepsTree tells inside →
    is_some (working_entry inside.entry inside.created) ≡ false → IsReady v.numbers rest →
    KeptEdits tells start edit (Ok Done) v
    (record { numbers = inside.numbers; entry = inside.entry; created = true; held = inside.held }) rest trace meter
created-by tells start edit v inside rest trace meter same create kept gone =
    subst (λ (w : KeptView). IsReady w.numbers rest → KeptEdits tells start edit (Ok Done) w now rest trace meter) same (go edit create)
  where
    now : KeptView
    now = record { numbers = inside.numbers; entry = inside.entry; created = true; held = inside.held }

    go : (edit : Edit) → is_create edit ≡ true → IsReady inside.numbers rest →
        KeptEdits tells start edit (Ok Done) inside now rest trace meter
    go (Create t) create ready =
        kept-created tells start t inside.numbers inside.entry inside.created inside.held rest trace meter kept ready gone
    go Destroy create ready = absurd cc
    go (Append p) create ready = absurd cc
    go (Insert at p) create ready = absurd cc
    go (Delete at k) create ready = absurd cc
    go (Replace at p) create ready = absurd cc

pub settles-by : (tells : Bool) (v inside : KeptView) (root : Root) (rest : Rest) (trace : Option (List SpaceEvent)) →
    inside ≡ v → root ≡ record { height = 0; page = 0; length = 0 } → KeepsTree tells inside → inside.created ≡ true →
    IsReady v.numbers rest →
    KeptEnds tells settled_form settled_contents v (record {
      numbers = inside.numbers;
      entry = Some (record { root = root; threshold = 1 });
      created = false;
      held = inside.held;
    }) rest trace
settles-by tells v inside root rest trace same empty kept is =
    subst (λ (w : KeptView). IsReady w.numbers rest → KeptEnds tells settled_form settled_contents w (record {
      numbers = inside.numbers;
      entry = Some (record { root = root; threshold = 1 });
      created = false;
      held = inside.held;
    }) rest trace) same
    (subst (λ (r : Root). IsReady inside.numbers rest → KeptEnds tells settled_form settled_contents inside (record {
      numbers = inside.numbers;
      entry = Some (record { root = r; threshold = 1 });
      created = false;
      held = inside.held;
    }) rest trace) (sym empty)
    (λ ready. kept-settles tells inside.numbers inside.entry inside.created inside.held rest trace kept ready is))

pub stays-by : (tells : Bool) (v inside : KeptView) (rest : Rest) (trace : Option (List SpaceEvent)) →
    inside ≡ v → KeepsTree tells inside → inside.created ≡ false → IsReady v.numbers rest →
    KeptEnds tells settled_form settled_contents v v rest trace
stays-by tells v inside rest trace same kept is =
    subst (λ (w : KeptView). IsReady w.numbers rest → KeptEnds tells settled_form settled_contents w w rest trace) same
    (λ ready. kept-stays tells inside.numbers inside.entry inside.created inside.held rest trace kept ready is)

pub undoes-by : (tells : Bool) (v inside : KeptView) (rest : Rest) (trace : Option (List SpaceEvent)) →
    inside ≡ v → KeepsTree tells inside → IsReady v.numbers rest →
    KeptEnds tells undone_form undone_contents v
    (record { numbers = inside.numbers; entry = inside.entry; created = false; held = inside.held }) rest trace
undoes-by tells v inside rest trace same kept =
    subst (λ (w : KeptView). IsReady w.numbers rest → KeptEnds tells undone_form undone_contents w
    (record { numbers = inside.numbers; entry = inside.entry; created = false; held = inside.held }) rest trace) same
    (λ ready. kept-undoes tells inside.numbers inside.entry inside.created inside.held rest trace kept ready)

pub settled-by : (tells : Bool) (inside : KeptView) (root : Root) → root ≡ record { height = 0; page = 0; length = 0 } →
    KeepsTree tells inside → inside.created ≡ true → KeepsTree tells (record {
      numbers = inside.numbers;
      entry = Some (record { root = root; threshold = 1 });
      created = false;
      held = inside.held;
    })
settled-by tells inside root empty kept is =
    subst (λ (r : Root). KeepsTree tells (record {
      numbers = inside.numbers;
      entry = Some (record { root = r; threshold = 1 });
      created = false;
      held = inside.held;
    })) (sym empty) (settled-keeps tells inside.numbers inside.entry inside.created inside.held kept is)
