-- What becomes of the spaces, and of what the object shows, where a version takes a page, drops one, or an end comes.
use Rattle.std.proofs.Common.{IfOk, IfSome, Result, if◌then◌else◌, ◌≡◌, ℕ, ◌+◌, ◌<◌, Bool, true}
use Rattle.std.proofs.Common.{false, not, ◌&&◌, ◌||◌, IsTrue, List, [], length, Option, Some, None, Ok, Err}
use Rattle.std.proofs.Common.{refl, sym, ap, subst, arith, ◌∙◌, inl, inr, nat_eq, nat_lt, nat_le, is_some, is_none}
use Rattle.std.proofs.lemmas.Bool.{and_parts, ltb-true, leb-true, cases_Bool}
use Rattle.base_laws.proofs.OptionLaws.{none-unless}
use Rattle.std.specs.Prelude.{option_map}
use Rattle.eos_ops.specs.declared.edit.Edit.{Edit}
use Rattle.eos_ops.specs.declared.edit.Edit.TheVariants.{Create, Destroy, Append, Insert, Delete, Replace}
use Rattle.eos_ops.specs.declared.outcome.Outcome.{Outcome}
use Rattle.eos_ops.specs.declared.outcome.Outcome.TheVariants.{Done}
use Rattle.eos_ops.specs.Edits.{outcome_in, edited}
use Rattle.eos_ops.proofs.EditLemmas.{edited-refused}
use Rattle.fault_count.specs.Counts.{Meter}
use Rattle.geometry_model.specs.Numbers.{Numbers}
use Rattle.geometry_model.specs.Pages.{IsPlace}
use Rattle.block_model.specs.Place.{least_order}
use Rattle.layout_model.specs.declared.extent.Extent.{Extent}
use Rattle.layout_model.specs.Grants.{Spaces, Got, Refused, and_then, run_of}
use Rattle.moment_model.specs.Version.{version_uses, covers}
use Rattle.std.proofs.lemmas.List.Sums.{sum_by-cons}
use Rattle.moment_model.specs.Moment.{ObjectSlot, either_uses, count_true}
use Rattle.moment_model.specs.Edit.{with_working}
use Rattle.moment_laws.specs.Change.{free_after, locked_after}
use Rattle.space_directory.specs.SpaceView.{SpaceView}
use Rattle.space_directory.proofs.PageLaws.{in_run}
use Rattle.superdirectory.specs.Grants.{AreTold, IsRunIn, UsesSpace, KeepsFrame, free_sets}
use Rattle.superdirectory.specs.Rest.{Frame, Rest, count}
use Rattle.superdirectory.specs.Trace.{SpaceEvent, Part, AreEnters, IsEntered, IsSearched, IsLow}
use Rattle.superdirectory.proofs.Traces.{part_none, part_then, part_as, enters_none, enters_more}
use Rattle.object_body.specs.declared.fails.EditFail.{EditFail}
use Rattle.object_body.specs.declared.fails.EditFail.TheVariants.{NoSpace, Fault, Memory}
use Rattle.object_body.specs.declared.fails.LookFail.{LookFail}
use Rattle.object_body.specs.declared.fails.LookFail.TheVariants as look
use Rattle.object_body.specs.Memory.{EditMayTakeMemory}
use Rattle.object_body.specs.Form.{Form, Contents, AreTied, HaveLengths, settled_form, settled_contents, undone_form, undone_contents}
use Rattle.object_body.specs.Lengths.{length_of}
use Rattle.object_body.specs.Places.{IsStore, IsReady, AreHome, is_free_place, is_locked_place}
use Rattle.object_body.specs.Moves.{MovesTold, locks}
use Rattle.object_body.specs.Calls.{Stage, IsEdit, IsBodyEnd, IsBodyRead, IsWithin, IsExplained, AreLow, slot_in, pages_in}
use Rattle.object_body.proofs.LengthLemmas.{outcome-by_length, length-edited}
use Rattle.object_body.proofs.MoveLemmas.{same-moves, same-untouched}
use Rattle.object_body.proofs.CallLemmas.{keeps-frame, used-not, cause-none, no-memory, empty-read}
use Rattle.object_body.proofs.TurnLemmas.{Turn, IsTurned, over_run, given_free, given_locked, granted_free}
use Rattle.object_body.proofs.TurnLemmas.{locked_more, same_free, same_locked, IsGrantTurn, turned-given}
use Rattle.object_body.proofs.TurnLemmas.{turned-locked, turned-unlocked, turned-not, turned-then, turned-moves}
use Rattle.object_body.proofs.TurnLemmas.{turned-back, grant-turned, grant-answer, grant-refused}
use Rattle.body_double.specs.Page.{OwnPage, plain_if, IsOwn, is_create, PageView, working_page, page_tree, page_version}
use Rattle.body_double.specs.Page.{pages_form, pages_contents}
use Rattle.body_double.specs.Page.{page_form, page_contents, page_placed, lays_page}
use Rattle.body_double.specs.Page.{Places, BeginApart, IsHolding, UsesPage, UsesDropped, giving, locking, unlocking}
use Rattle.body_double.specs.Page.{IsGrantedPage, IsBackAgain, IsNotAsked}
use Rattle.body_double.proofs.OwnLemmas.{covers-bit, own_bit, own-run, RefusesOne, WritesNone, release-enters}
use Rattle.body_double.proofs.PageTables.{free_bits, locked_bits, placed-none, placed-committed, placed-fresh}
use Rattle.body_double.proofs.PageTables.{dropped-fresh, dropped-committed, dropped-none, settled-bits, undone-bits, back-bits}

-- ---- counts

uses-page : (n : Numbers) (q : ℕ) (own : Option OwnPage) → version_uses n q (page_version own) ≡ count_true (own_bit own q)
uses-page n q None = refl
uses-page n q (Some own) =
    let run : Extent = record { page = own.first; pages = 1 } in
    omega (arith, sum_by-cons (covers q) run [], covers-bit (in_run own.first 1 q))

abbrev pub slot_pages : Option OwnPage → Option OwnPage → ObjectSlot
slot_pages committed working = record { committed = page_version committed; working = page_version working; spare = None }

free-count : (a b a2 b2 f : Bool) → (nat_eq (count_true a2 + (count_true b2 + 0)) 0 &&
    (f || nat_lt 0 (count_true a + (count_true b + 0)))) ≡ free_bits a b a2 b2 f
free-count true true true true f = refl
free-count true true true false f = refl
free-count true true false true f = refl
free-count true true false false f = refl
free-count true false true true f = refl
free-count true false true false f = refl
free-count true false false true f = refl
free-count true false false false f = refl
free-count false true true true f = refl
free-count false true true false f = refl
free-count false true false true f = refl
free-count false true false false f = refl
free-count false false true true f = refl
free-count false false true false f = refl
free-count false false false true f = refl
free-count false false false false f = refl

locked-count : (a b a2 b2 l : Bool) → ((nat_lt 0 (count_true a2) && nat_eq (count_true b2 + 0) 0) ||
    (l && (nat_eq (count_true a + (count_true b + 0)) 0 && nat_eq (count_true a2 + (count_true b2 + 0)) 0)))
    ≡ locked_bits a b a2 b2 l
locked-count true true true true l = refl
locked-count true true true false l = refl
locked-count true true false true l = refl
locked-count true true false false l = refl
locked-count true false true true l = refl
locked-count true false true false l = refl
locked-count true false false true l = refl
locked-count true false false false l = refl
locked-count false true true true l = refl
locked-count false true true false l = refl
locked-count false true false true l = refl
locked-count false true false false l = refl
locked-count false false true true l = refl
locked-count false false true false l = refl
locked-count false false false true l = refl
locked-count false false false false l = refl

free-pages : (n : Numbers) (q : ℕ) (f : Bool) (c w c2 w2 : Option OwnPage) →
    free_after n q f (slot_pages c w) (slot_pages c2 w2) ≡ free_bits (own_bit c q) (own_bit w q) (own_bit c2 q) (own_bit w2 q) f
free-pages n q f c w c2 w2 =
    ap (λ (k : ℕ). nat_eq (k + (version_uses n q (page_version w2) + 0)) 0 &&
    (f || nat_lt 0 (either_uses n q (slot_pages c w)))) (uses-page n q c2)
    ∙ (ap (λ (k : ℕ). nat_eq (count_true (own_bit c2 q) + (k + 0)) 0 &&
    (f || nat_lt 0 (either_uses n q (slot_pages c w)))) (uses-page n q w2)
    ∙ (ap (λ (k : ℕ). nat_eq (count_true (own_bit c2 q) + (count_true (own_bit w2 q) + 0)) 0 &&
    (f || nat_lt 0 (k + (version_uses n q (page_version w) + 0)))) (uses-page n q c)
    ∙ (ap (λ (k : ℕ). nat_eq (count_true (own_bit c2 q) + (count_true (own_bit w2 q) + 0)) 0 &&
    (f || nat_lt 0 (count_true (own_bit c q) + (k + 0)))) (uses-page n q w)
    ∙ free-count (own_bit c q) (own_bit w q) (own_bit c2 q) (own_bit w2 q) f)))

either-pages : (n : Numbers) (q : ℕ) (c w : Option OwnPage) →
    either_uses n q (slot_pages c w) ≡ count_true (own_bit c q) + (count_true (own_bit w q) + 0)
either-pages n q c w =
    ap (λ (k : ℕ). k + (version_uses n q (page_version w) + 0)) (uses-page n q c)
    ∙ ap (λ (k : ℕ). count_true (own_bit c q) + (k + 0)) (uses-page n q w)

locks-pages : (n : Numbers) (q : ℕ) (c w : Option OwnPage) →
    locks n q (slot_pages c w) ≡ (nat_lt 0 (count_true (own_bit c q)) && nat_eq (count_true (own_bit w q) + 0)
    0)
locks-pages n q c w =
    ap (λ (k : ℕ). nat_lt 0 k && nat_eq (version_uses n q (page_version w) + 0) 0) (uses-page n q c)
    ∙ ap (λ (k : ℕ). nat_lt 0 (count_true (own_bit c q)) && nat_eq (k + 0) 0) (uses-page n q w)

locked-pages : (n : Numbers) (q : ℕ) (l : Bool) (c w c2 w2 : Option OwnPage) →
    locked_after n q l (slot_pages c w) (slot_pages c2 w2) ≡ locked_bits (own_bit c q) (own_bit w q) (own_bit c2 q) (own_bit w2 q) l
locked-pages n q l c w c2 w2 =
    ap (λ (b : Bool). b || (l && (nat_eq (either_uses n q (slot_pages c w)) 0 && nat_eq
    (either_uses n q (slot_pages c2 w2)) 0))) (locks-pages n q c2 w2)
    ∙ (ap (λ (k : ℕ). (nat_lt 0 (count_true (own_bit c2 q)) && nat_eq (count_true (own_bit w2 q) + 0) 0) ||
    (l && (nat_eq k 0 && nat_eq (either_uses n q (slot_pages c2 w2)) 0))) (either-pages n q c w)
    ∙ (ap (λ (k : ℕ). (nat_lt 0 (count_true (own_bit c2 q)) && nat_eq (count_true (own_bit w2 q) + 0) 0) ||
    (l && (nat_eq (count_true (own_bit c q) + (count_true (own_bit w q) + 0)) 0 && nat_eq k 0)))
    (either-pages n q c2 w2)
    ∙ locked-count (own_bit c q) (own_bit w q) (own_bit c2 q) (own_bit w2 q) l))

-- what it is that the spaces fit the object, for one page
some-count : (a b : Bool) → (a || b) ≡ true → 0 < count_true a + (count_true b + 0)
some-count true true some = (let two : 0 < 1 + (1 + 0) = omega arith in two)
some-count true false some = (let one : 0 < 1 + (0 + 0) = omega arith in one)
some-count false true some = (let one : 0 < 0 + (1 + 0) = omega arith in one)
some-count false false some = absurd cc

locks-bits : (a b : Bool) → (nat_lt 0 (count_true a) && nat_eq (count_true b + 0) 0) ≡ (a && not b)
locks-bits true true = refl
locks-bits true false = refl
locks-bits false true = refl
locks-bits false false = refl

abbrev pub UsedFree : Bool → Bool → Bool → Type 0
UsedFree c w f = (c || w) ≡ true → f ≡ false

abbrev pub UsedLocked : Bool → Bool → Bool → Type 0
UsedLocked c w l = (c || w) ≡ true → l ≡ (c && not w)

-- Where the turns of each page are those of the change, by its bits and what is known of it, the spaces moved.
pages-moved : (n : Numbers) (frame : Frame) (views : List SpaceView) (known : ℕ → Bool → Bool → Type 0)
    (free_by locked_by : Turn) (c w c2 w2 : Option OwnPage) (rest : Rest) →
    IsTurned n frame views free_by locked_by rest →
    ((page s at : ℕ) → IsPlace n page s at → known page (is_free_place views s at) (is_locked_place views s at)) →
    ((page : ℕ) (f l : Bool) → known page f l → UsedFree (own_bit c page) (own_bit w page) f →
    UsedLocked (own_bit c page) (own_bit w page) l →
    (free_by page f l ≡ free_bits (own_bit c page) (own_bit w page) (own_bit c2 page) (own_bit w2 page) f)
    × (locked_by page f l ≡ locked_bits (own_bit c page) (own_bit w page) (own_bit c2 page) (own_bit w2 page) l)) →
    MovesTold n frame views (slot_pages c w) (slot_pages c2 w2) rest
pages-moved n frame views known free_by locked_by c w c2 w2 rest turned facts table =
    turned-moves n frame views known free_by locked_by (slot_pages c w) (slot_pages c2 w2) rest turned facts
    (λ page f l is_known used locked.
    let uses : (own_bit c page || own_bit w page) ≡ true → 0 < either_uses n page (slot_pages c w) =
    λ some. subst (λ (k : ℕ). 0 < k) (sym (either-pages n page c w)) (some-count (own_bit c page) (own_bit w page) some) in
    let bits = table page f l is_known (λ some. used (uses some))
    (λ some. locked (uses some) ∙ (locks-pages n page c w ∙ locks-bits (own_bit c page) (own_bit w page))) in
    (bits.0 ∙ sym (free-pages n page f c w c2 w2), bits.1 ∙ sym (locked-pages n page l c w c2 w2)))

-- two owned pages share no page
run-one : (first page : ℕ) → in_run first 1 page ≡ true → first ≡ page
run-one first page is_in =
    let parts = and_parts (nat_le first page) (nat_lt page (first + 1)) is_in in
    let low = leb-true first page parts.0 in
    let high = ltb-true page (first + 1) parts.1 in
    omega (arith, low, high)

apart-bits : (c x : Option OwnPage) → BeginApart c x → (page : ℕ) → own_bit c page ≡ true → own_bit x page ≡ false
apart-bits None x apart page is = absurd cc
apart-bits (Some own) None apart page is = refl
apart-bits (Some own) (Some other) apart page is = elim (cases_Bool (in_run other.first 1 page)) [
  | inl also ↦
      let one = run-one own.first page is in
      let two = run-one other.first page also in
      absurd (apart (one ∙ sym two))
  | inr not_also ↦ not_also
]

-- ---- the turns of the calls

turned-give : (tells : Bool) (n : Numbers) (frame : Frame) (views : List SpaceView) (own : Option OwnPage)
    (old new : Rest) (before after : Option (List SpaceEvent)) →
    old.frame ≡ frame → IsStore n frame → IfSome own (IsOwn tells n) → UsesPage giving own old new before after →
    AreTold old views → AreHome frame views →
    IsTurned n frame views (λ page f l. own_bit own page || f) (λ page f l. not (own_bit own page) && l) new
turned-give tells n frame views None old new before after same store owned used told home =
    subst (λ (r : Rest). IsTurned n frame views (λ page f l. f) (λ page f l. l) r) (sym used.0) (turned-not n frame views old told home)
turned-give tells n frame views (Some own) old new before after same store owned used told home =
    subst (λ k. IsTurned n frame views (over_run own.first k given_free) (over_run own.first k given_locked) new) owned.one
    (turned-given n frame views own.space own.first own.pages new store home (own-run tells n frame own store owned)
    (used.told views told (home.number ∙ ap (λ (r : Frame). length r.firsts) (sym same))))

turned-lock : (tells : Bool) (n : Numbers) (frame : Frame) (views : List SpaceView) (own : Option OwnPage)
    (old new : Rest) (before after : Option (List SpaceEvent)) →
    old.frame ≡ frame → IsStore n frame → IfSome own (IsOwn tells n) → UsesPage locking own old new before after →
    AreTold old views → AreHome frame views →
    IsTurned n frame views (λ page f l. f) (λ page f l. (own_bit own page && not f) || l) new
turned-lock tells n frame views None old new before after same store owned used told home =
    subst (λ (r : Rest). IsTurned n frame views (λ page f l. f) (λ page f l. l) r) (sym used.0) (turned-not n frame views old told home)
turned-lock tells n frame views (Some own) old new before after same store owned used told home =
    subst (λ k. IsTurned n frame views (over_run own.first k same_free) (over_run own.first k locked_more) new) owned.one
    (turned-locked n frame views own.space own.first (length own.pages) new store home (own-run tells n frame own store owned)
    (used.told views told (home.number ∙ ap (λ (r : Frame). length r.firsts) (sym same))))

turned-unlock : (tells : Bool) (n : Numbers) (frame : Frame) (views : List SpaceView) (own : Option OwnPage)
    (old new : Rest) (before after : Option (List SpaceEvent)) →
    old.frame ≡ frame → IsStore n frame → IfSome own (IsOwn tells n) → UsesPage unlocking own old new before after →
    AreTold old views → AreHome frame views →
    IsTurned n frame views (λ page f l. f) (λ page f l. not (own_bit own page) && l) new
turned-unlock tells n frame views None old new before after same store owned used told home =
    subst (λ (r : Rest). IsTurned n frame views (λ page f l. f) (λ page f l. l) r) (sym used.0) (turned-not n frame views old told home)
turned-unlock tells n frame views (Some own) old new before after same store owned used told home =
    subst (λ k. IsTurned n frame views (over_run own.first k same_free) (over_run own.first k given_locked) new) owned.one
    (turned-unlocked n frame views own.space own.first (length own.pages) new store home (own-run tells n frame own store owned)
    (used.told views told (home.number ∙ ap (λ (r : Frame). length r.firsts) (sym same))))

-- and what they leave beside the spaces
uses-keeps : (change : OwnPage → SpaceView → SpaceView) (own : Option OwnPage) (old new : Rest) (before after : Option (List SpaceEvent)) →
    old.entered ≡ None → UsesPage change own old new before after → KeepsFrame old new
uses-keeps change None old new before after none used = subst (λ (r : Rest). KeepsFrame old r) (sym used.0) (keeps-frame old none)
uses-keeps change (Some own) old new before after none used = used.rest

uses-enters : (change : OwnPage → SpaceView → SpaceView) (own : Option OwnPage) (old new : Rest) (before after : Option (List SpaceEvent)) →
    UsesPage change own old new before after → Part AreEnters before after
uses-enters change None old new before after used =
    subst (λ (t : Option (List SpaceEvent)). Part AreEnters before t) (sym used.1)
    (part_none AreEnters before enters_none)
uses-enters change (Some own) old new before after used = release-enters own.space (change own) old new before after used

then-enters : (change : OwnPage → SpaceView → SpaceView) (own : Option OwnPage) (old new : Rest)
    (before between after : Option (List SpaceEvent)) →
    Part AreEnters before between → UsesPage change own old new between after → Part AreEnters before after
then-enters change None old new before between after first used =
    subst (λ (t : Option (List SpaceEvent)). Part AreEnters before t) (sym used.1) first
then-enters change (Some own) old new before between after first used =
    part_then AreEnters (IsEntered own.space) AreEnters before between after (enters_more own.space) first used.trace

-- ---- the working page goes

abbrev pub drop_free : Option OwnPage → Turn
drop_free (Some own) page f l = in_run own.first 1 page || f
drop_free None page f l = f

abbrev pub drop_locked : Option OwnPage → Option OwnPage → Bool → Turn
drop_locked (Some own) committed dropped page f l = not (in_run own.first 1 page) && l
drop_locked None committed dropped page f l = (own_bit (if dropped then None else committed) page && not f) || l

if-owned : (tells : Bool) (n : Numbers) (committed : Option OwnPage) (dropped : Bool) →
    IfSome committed (IsOwn tells n) → IfSome (if dropped then None else committed) (IsOwn tells n)
if-owned tells n committed true owned = tt
if-owned tells n committed false owned = owned

turned-drop : (tells : Bool) (n : Numbers) (frame : Frame) (views : List SpaceView)
    (fresh committed : Option OwnPage) (dropped : Bool) (old new : Rest) (before after : Option (List SpaceEvent)) →
    old.frame ≡ frame → IsStore n frame → IfSome fresh (IsOwn tells n) → IfSome committed (IsOwn tells n) →
    UsesDropped fresh committed dropped old new before after →
    AreTold old views → AreHome frame views → IsTurned n frame views (drop_free fresh) (drop_locked fresh committed dropped) new
turned-drop tells n frame views (Some own) committed dropped old new before after same store owned kept used told home =
    turned-give tells n frame views (Some own) old new before after same store owned used told home
turned-drop tells n frame views None committed dropped old new before after same store owned kept used told home =
    turned-lock tells n frame views (if dropped then None else committed) old new before after same store
    (if-owned tells n committed dropped kept) used told home

drop-keeps : (fresh committed : Option OwnPage) (dropped : Bool) (old new : Rest) (before after : Option (List SpaceEvent)) →
    old.entered ≡ None → UsesDropped fresh committed dropped old new before after → KeepsFrame old new
drop-keeps (Some own) committed dropped old new before after none used = uses-keeps giving (Some own) old new before after none used
drop-keeps None committed dropped old new before after none used =
    uses-keeps locking (if dropped then None else committed) old new before after none used

drop-part : (fresh committed : Option OwnPage) (dropped : Bool) (old new : Rest) (before after : Option (List SpaceEvent)) →
    UsesDropped fresh committed dropped old new before after → Part (λ part. Unit {0}) before after
drop-part (Some own) committed dropped old new before after used =
    part_as AreEnters (λ part. Unit {0}) before after (λ part enters. tt)
    (uses-enters giving (Some own) old new before after used)
drop-part None committed dropped old new before after used =
    part_as AreEnters (λ part. Unit {0}) before after (λ part enters. tt)
    (uses-enters locking (if dropped then None else committed) old new before after used)

-- the working version is gone
drop-moves : (n : Numbers) (frame : Frame) (views : List SpaceView) (fresh committed : Option OwnPage)
    (dropped : Bool) (rest : Rest) → BeginApart committed fresh →
    IsTurned n frame views (drop_free fresh) (drop_locked fresh committed dropped) rest →
    MovesTold n frame views (slot_pages committed (working_page committed fresh dropped)) (slot_pages committed None) rest
drop-moves n frame views (Some own) committed dropped rest apart turned =
    pages-moved n frame views (λ page f l. Unit {0}) (drop_free (Some own))
    (drop_locked (Some own) committed dropped) committed (Some own) committed None rest turned
    (λ page s at place. tt)
    (λ page f l known used locked. dropped-fresh (own_bit committed page)
    (in_run own.first 1 page) f l used locked (apart-bits committed (Some own) apart page))
drop-moves n frame views None committed true rest apart turned =
    pages-moved n frame views (λ page f l. Unit {0}) (drop_free None)
    (drop_locked None committed true) committed None committed None rest turned
    (λ page s at place. tt)
    (λ page f l known used locked. dropped-none (own_bit committed page) f l used locked)
drop-moves n frame views None committed false rest apart turned =
    pages-moved n frame views (λ page f l. Unit {0}) (drop_free None)
    (drop_locked None committed false) committed committed committed None rest turned
    (λ page s at place. tt)
    (λ page f l known used locked. dropped-committed (own_bit committed page) f l used locked)

-- a page was granted, and then the working one went
abbrev pub Granted : OwnPage → ℕ → Bool → Bool → Type 0
Granted own page f l = (in_run own.first 1 page ≡ true → f ≡ true) × (in_run own.first 1 page ≡ true → l ≡ false)

place-moves : (tells : Bool) (n : Numbers) (frame : Frame) (views : List SpaceView) (start : ℕ) (own : OwnPage)
    (fresh committed : Option OwnPage) (dropped : Bool) (middle new : Rest)
    (between after : Option (List SpaceEvent)) →
    middle.frame ≡ frame → IsStore n frame → IfSome fresh (IsOwn tells n) → IfSome committed (IsOwn tells n) → BeginApart committed fresh →
    IsGrantTurn n frame views start own.first 1 middle → UsesDropped fresh committed dropped middle new between after →
    MovesTold n frame views (slot_pages committed (working_page committed fresh dropped)) (slot_pages committed (Some own)) new
place-moves tells n frame views start own (Some x) committed dropped middle new between after same store owned kept apart granted used =
    let next = turned-drop tells n frame granted.turned.after (Some x) committed dropped middle new between after
    same store owned kept used granted.turned.told granted.turned.home in
    pages-moved n frame views (Granted own) (λ page f l. in_run x.first 1 page ||
    (not (in_run own.first 1 page) && f)) (λ page f l. not (in_run x.first 1 page) && l)
    committed (Some x) committed (Some own) new
    (turned-then n frame views (over_run own.first 1 granted_free) (over_run own.first 1 same_locked)
    (drop_free (Some x)) (drop_locked (Some x) committed dropped) middle new granted.turned next)
    (λ page s at place. (granted.was_free page s at place, granted.was_unlocked page s at place))
    (λ page f l known used locked.
    placed-fresh (own_bit committed page) (in_run x.first 1 page)
    (in_run own.first 1 page) f l known.0 known.1 used locked (apart-bits committed (Some x) apart page))
place-moves tells n frame views start own None committed true middle new between after same store owned kept apart granted used =
    let next = turned-drop tells n frame granted.turned.after None committed true middle new between after same
    store owned kept used granted.turned.told granted.turned.home in
    pages-moved n frame views (Granted own) (λ page f l. not (in_run own.first 1 page) && f) (λ page f l. l)
    committed None committed (Some own) new
    (turned-then n frame views (over_run own.first 1 granted_free) (over_run own.first 1 same_locked)
    (drop_free None) (drop_locked None committed true) middle new granted.turned next)
    (λ page s at place. (granted.was_free page s at place, granted.was_unlocked page s at place))
    (λ page f l known used locked. placed-none (own_bit committed page) (in_run own.first 1 page) f l known.0 known.1 used locked)
place-moves tells n frame views start own None committed false middle new between after same store owned kept apart granted used =
    let next = turned-drop tells n frame granted.turned.after None committed false middle new between after same
    store owned kept used granted.turned.told granted.turned.home in
    pages-moved n frame views (Granted own) (λ page f l. not (in_run own.first 1 page) && f)
    (λ page f l. (own_bit committed page && not (not (in_run own.first 1 page) && f)) || l)
    committed committed committed (Some own) new
    (turned-then n frame views (over_run own.first 1 granted_free) (over_run own.first 1 same_locked)
    (drop_free None) (drop_locked None committed false) middle new granted.turned next)
    (λ page s at place. (granted.was_free page s at place, granted.was_unlocked page s at place))
    (λ page f l known used locked. placed-committed (own_bit committed page) (in_run own.first 1 page) f l known.0 known.1 used locked)

-- ---- a page that was granted went back

part-two : (P Q : List SpaceEvent → Type 0) (a b c : Option (List SpaceEvent)) → Part P a b → Part Q b c → Part (λ part. Unit {0}) a c
part-two P Q a b c = part_then P Q (λ part. Unit {0}) a b c (λ p q first second. tt)

back-free : (g f : Bool) → (g ≡ true → f ≡ true) → (g || (not g && f)) ≡ f
back-free true f known = sym (known refl)
back-free false f known = refl

back-locked : (g l : Bool) → (g ≡ true → l ≡ false) → (not g && l) ≡ l
back-locked true l known = sym (known refl)
back-locked false l known = refl

pub back-untouched : (tells : Bool) (start : ℕ) (own : OwnPage) (old middle new : Rest) (before between after : Option (List SpaceEvent)) →
    IsGrantedPage tells start own old middle before between →
    UsesSpace own.space (giving own) middle new between after → IsBackAgain old new before after
back-untouched tells start own old middle new before between after granted used = record {
  rest = record { frame = used.rest.frame ∙ granted.rest.frame; entered = used.rest.entered };
  trace = part-two (IsSearched (least_order 1) 0 (count old) false) (IsEntered own.space) before between after granted.searched used.trace;
  untouched = λ n views store told home.
      let grant = grant-turned n old.frame views start 1 own.space own.first own.pages tells middle store home
      (omega arith) granted.segment (granted.exact views told home.number) in
      let run : IsRunIn old.frame own.space own.first (length own.pages) =
      record {
        named = granted.segment.named;
        some = omega (arith, granted.segment.count);
        from =
            granted.segment.from;
        to = omega (arith, granted.segment.to, granted.segment.count);
      } in
      let given = turned-given n old.frame grant.turned.after own.space own.first own.pages new store grant.turned.home run
      (used.told grant.turned.after grant.turned.told (grant.turned.home.number
      ∙ ap (λ (r : Frame). length r.firsts) (sym granted.rest.frame))) in
      let one : IsTurned n old.frame grant.turned.after (over_run own.first 1 given_free) (over_run own.first 1 given_locked) new =
      subst (λ k. IsTurned n old.frame grant.turned.after (over_run own.first k given_free)
      (over_run own.first k given_locked) new) granted.segment.count given in
      turned-back n old.frame views (Granted own)
      (λ page f l. in_run own.first 1 page || (not (in_run own.first 1 page) && f))
      (λ page f l. not (in_run own.first 1 page) && l) new
      (turned-then n old.frame views (over_run own.first 1 granted_free) (over_run own.first 1 same_locked)
      (over_run own.first 1 given_free) (over_run own.first 1 given_locked) middle new grant.turned one)
      (λ page s at place. (grant.was_free page s at place, grant.was_unlocked page s at place))
      (λ page f l known. (back-free (in_run own.first 1 page) f known.0, back-locked (in_run own.first 1 page) l known.1));
}

-- ---- what the object shows

lengths-of : (c w : Option OwnPage) → HaveLengths (pages_contents c w)
lengths-of None None = record { committed = refl; working = refl }
lengths-of None (Some own) = record { committed = refl; working = refl }
lengths-of (Some own) None = record { committed = refl; working = refl }
lengths-of (Some own) (Some other) = record { committed = refl; working = refl }

pages-tied : (n : Numbers) (c w : Option OwnPage) (rests : Bool) → (rests ≡ true → w ≡ c) →
    AreTied HaveLengths (pages_form n c w rests) (pages_contents c w)
pages-tied n c w rests same = record {
  committed = refl;
  working = refl;
  rests = λ is. (
    record { same = ap page_version (same is); no_spare = refl },
    ap (λ (own : Option OwnPage). plain_if (is_some own)) (same is),
  );
  kind = lengths-of c w;
}

rests-same : (c fresh : Option OwnPage) (dropped : Bool) → (is_none fresh && not dropped) ≡ true → working_page c fresh dropped ≡ c
rests-same c (Some own) dropped is = absurd cc
rests-same c None true is = absurd cc
rests-same c None false is = refl

pub page-tied : (v : PageView) → AreTied HaveLengths (page_form v) (page_contents v)
page-tied v = pages-tied v.numbers v.committed (working_page v.committed v.fresh v.dropped)
    (is_none v.fresh && not v.dropped) (rests-same v.committed v.fresh v.dropped)

abbrev pub page_stage : PageView → Rest → Option (List SpaceEvent) → Stage
page_stage v rest trace = record { form = page_form v; told = page_contents v; rest = rest; trace = trace }

abbrev pub PageEdits : Bool → ℕ → Edit → Result Outcome EditFail → PageView → PageView → Rest → Rest →
    Option (List SpaceEvent) → Option (List SpaceEvent) → Meter → Type 0
PageEdits tells start edit result v w old new before after meter =
    IsEdit tells HaveLengths lays_page RefusesOne WritesNone start edit result (page_stage v old before)
    (page_stage w new after) meter meter

abbrev pub there : PageView → Bool
there v = is_some (working_page v.committed v.fresh v.dropped)

-- ---- edits

-- one that isn't made
laid-unmade : (n : Numbers) (start : ℕ) (free : Spaces) (edit : Edit) (c w : Option OwnPage) →
    (outcome_in edit (plain_if (is_some w)) ≡ Done → ⊥) →
    slot_in (lays_page n start free (slot_pages c w) edit) ≡ Some (slot_pages c w)
laid-unmade n start free (Create t) c (Some own) other = refl
laid-unmade n start free (Create t) c None other = absurd (other refl)
laid-unmade n start free Destroy c (Some own) other = absurd (other refl)
laid-unmade n start free Destroy c None other = refl
laid-unmade n start free (Append p) c (Some own) other = absurd (other refl)
laid-unmade n start free (Append p) c None other = refl
laid-unmade n start free (Insert at p) c w other = refl
laid-unmade n start free (Delete at k) c w other = refl
laid-unmade n start free (Replace at p) c w other = refl

unmade-edit : (tells : Bool) (start : ℕ) (edit : Edit) (outcome : Outcome) (v : PageView) (rest : Rest)
    (trace : Option (List SpaceEvent)) (meter : Meter) →
    outcome ≡ outcome_in edit (plain_if (there v)) → (outcome ≡ Done → ⊥) → IsReady v.numbers rest →
    PageEdits tells start edit (Ok outcome) v v rest rest trace trace meter
unmade-edit tells start edit outcome v rest trace meter is other ready =
    let stays = edited-refused edit (plain_if (there v)) (λ done. other (is ∙ done)) in
    record {
      outcome = is ∙ outcome-by_length edit (plain_if (there v));
      form = record { numbers = refl; committed = refl; working = sym (ap length_of stays) ∙ length-edited edit (plain_if (there v)) };
      unmade = λ known. refl;
      rest = keeps-frame rest ready.none;
      low = part_none (IsExplained (count rest) (Ok outcome)) trace tt;
      port = used-not meter;
      cause = cause-none meter.faults (Ok outcome ≡ Err Fault) (λ same. absurd cc);
      memory = λ wanted. absurd cc;
      told = λ tell. record {
        working = sym stays;
        committed = refl;
        kept = refl;
        unmade = λ known. refl;
        granted = λ views told long. laid-unmade v.numbers start (free_sets views) edit v.committed
            (working_page v.committed v.fresh v.dropped) (λ done. other (is ∙ done));
        spaces = λ views told home. same-moves v.numbers rest.frame views (page_contents v).slot rest told home;
        small = tt;
        writes = record { pages = 0; allowed = refl; most = omega arith };
      };
      tied = λ tell. page-tied v;
    }

wants-memory : (tells : Bool) (start : ℕ) (edit : Edit) (v : PageView) (rest : Rest)
    (trace : Option (List SpaceEvent)) (meter : Meter) → IsReady v.numbers rest → EditMayTakeMemory edit →
    PageEdits tells start edit (Err Memory) v v rest rest trace trace meter
wants-memory tells start edit v rest trace meter ready may =
    no-memory tells HaveLengths lays_page RefusesOne WritesNone start edit (page_stage v rest trace) meter
    ready.none refl (λ tell. page-tied v) may

-- one that is made, by what it makes of the working page and of the spaces
made : (tells : Bool) (start : ℕ) (edit : Edit) (v w : PageView) (old new : Rest)
    (before after : Option (List SpaceEvent)) (meter : Meter) →
    Done ≡ outcome_in edit (plain_if (there v)) → w.numbers ≡ v.numbers → w.committed ≡ v.committed →
    plain_if (there w) ≡ edited edit (plain_if (there v)) →
    KeepsFrame old new → Part (λ part. Unit {0}) before after →
    (IsTrue tells → (views : List SpaceView) → AreTold old views → length views ≡ count old →
    slot_in (lays_page v.numbers start (free_sets views) (page_contents v).slot edit)
    ≡ Some (page_contents w).slot) →
    (IsTrue tells → (views : List SpaceView) → AreTold old views → AreHome old.frame views →
    MovesTold v.numbers old.frame views (page_contents v).slot (page_contents w).slot new) →
    PageEdits tells start edit (Ok Done) v w old new before after meter
made tells start edit v w old new before after meter done numbers committed working keeps part granted moves = record {
  outcome = done ∙ outcome-by_length edit (plain_if (there v));
  form = record {
    numbers = numbers;
    committed = ap (λ (own : Option OwnPage). length_of (plain_if (is_some own))) committed;
    working = ap length_of working ∙ length-edited edit (plain_if (there v));
  };
  unmade = λ other. absurd (other refl);
  rest = keeps;
  low = part_as (λ part. Unit {0}) (IsExplained (count old) (Ok Done)) before after (λ part any. tt) part;
  port = used-not meter;
  cause = cause-none meter.faults (Ok Done ≡ Err Fault) (λ same. absurd cc);
  memory = λ wanted. absurd cc;
  told = λ tell. record {
    working = working;
    committed = ap (λ (own : Option OwnPage). plain_if (is_some own)) committed;
    kept = ap page_version committed;
    unmade = λ other. absurd (other refl);
    granted = granted tell;
    spaces = moves tell;
    small = tt;
    writes = record { pages = 0; allowed = refl; most = omega arith };
  };
  tied = λ tell. page-tied w;
}

abbrev pub dropped_view : PageView → PageView
dropped_view v = record { numbers = v.numbers; committed = v.committed; fresh = None; dropped = true }

abbrev pub placed_view : PageView → OwnPage → PageView
placed_view v own = record { numbers = v.numbers; committed = v.committed; fresh = Some own; dropped = true }

destroy-edited : (b : Bool) → Done ≡ outcome_in Destroy (plain_if b) → plain_if false ≡ edited Destroy (plain_if b)
destroy-edited true done = refl
destroy-edited false done = absurd cc

destroy-laid : (n : Numbers) (start : ℕ) (free : Spaces) (c w : Option OwnPage) → Done ≡ outcome_in Destroy (plain_if (is_some w)) →
    slot_in (lays_page n start free (slot_pages c w) Destroy) ≡ Some (slot_pages c None)
destroy-laid n start free c (Some own) done = refl
destroy-laid n start free c None done = absurd cc

destroyed : (tells : Bool) (start : ℕ) (edit : Edit) (v : PageView) (old new : Rest)
    (before after : Option (List SpaceEvent)) (meter : Meter) → edit ≡ Destroy →
    Done ≡ outcome_in edit (plain_if (there v)) → IsHolding tells v →
    UsesDropped v.fresh v.committed v.dropped old new before after → IsReady v.numbers old →
    PageEdits tells start edit (Ok Done) v (dropped_view v) old new before after meter
destroyed tells start edit v old new before after meter is done holds used ready =
    let done_is : Done ≡ outcome_in Destroy (plain_if (there v)) = subst (λ e. Done ≡ outcome_in e (plain_if (there v))) is done in
    subst (λ e. PageEdits tells start e (Ok Done) v (dropped_view v) old new before after meter) (sym is)
    (made tells start Destroy v (dropped_view v) old new before after meter done_is refl refl (destroy-edited (there v) done_is)
    (drop-keeps v.fresh v.committed v.dropped old new before after ready.none used)
    (drop-part v.fresh v.committed v.dropped old new before after used)
    (λ tell views told long. destroy-laid v.numbers start (free_sets views) v.committed
    (working_page v.committed v.fresh v.dropped) done_is)
    (λ tell views told home.
    drop-moves v.numbers old.frame views v.fresh v.committed v.dropped new holds.apart
    (turned-drop tells v.numbers old.frame views v.fresh v.committed v.dropped old new before after refl ready.store
    holds.fresh holds.committed used told home)))

-- the committed version is the working one again
came_back : (tells : Bool) (start : ℕ) (t : Option ℕ) (n : Numbers) (c fresh : Option OwnPage) (dropped : Bool) (old new : Rest)
    (before after : Option (List SpaceEvent)) (meter : Meter) →
    is_some (working_page c fresh dropped) ≡ false → is_some c ≡ true → IfSome c (IsOwn tells n) →
    UsesPage unlocking c old new before after → IsReady n old →
    PageEdits tells start (Create t) (Ok Done) (record { numbers = n; committed = c; fresh = fresh; dropped = dropped })
    (record { numbers = n; committed = c; fresh = fresh; dropped = false }) old new before after meter
came_back tells start t n None fresh dropped old new before after meter gone some owned used ready = absurd cc
came_back tells start t n (Some own) (Some other) dropped old new before after meter gone some owned used ready = absurd cc
came_back tells start t n (Some own) None false old new before after meter gone some owned used ready = absurd cc
came_back tells start t n (Some own) None true old new before after meter gone some owned used ready =
    made tells start (Create t) (record { numbers = n; committed = Some own; fresh = None; dropped = true })
    (record { numbers = n; committed = Some own; fresh = None; dropped = false }) old new before after meter refl refl refl refl
    (uses-keeps unlocking (Some own) old new before after ready.none used)
    (part_as AreEnters (λ part. Unit {0}) before after (λ part enters. tt) (uses-enters unlocking (Some own) old new before after used))
    (λ tell views told long. refl)
    (λ tell views told home.
    pages-moved n old.frame views (λ page f l. Unit {0}) (λ page f l. f) (λ page f l. not (own_bit (Some own) page) && l)
    (Some own) None (Some own) (Some own) new
    (turned-unlock tells n old.frame views (Some own) old new before after refl ready.store owned used told home)
    (λ page s at place. tt)
    (λ page f l known used locked. back-bits (own_bit (Some own) page) f l used locked))

-- a page for a `create`, or for an `append` of no byte
place-edited : (edit : Edit) (b : Bool) → Places edit → Done ≡ outcome_in edit (plain_if b) → plain_if true ≡ edited edit (plain_if b)
place-edited (Create t) true places done = absurd cc
place-edited (Create t) false places done = refl
place-edited (Append p) true places done = ap (λ (bytes : List ℕ). edited (Append bytes) (plain_if true)) (sym places)
place-edited (Append p) false places done = absurd cc
place-edited Destroy b places done = absurd places
place-edited (Insert at p) b places done = absurd places
place-edited (Delete at k) b places done = absurd places
place-edited (Replace at p) b places done = absurd places

place-laid : (n : Numbers) (start : ℕ) (free : Spaces) (edit : Edit) (c w : Option OwnPage) → Places edit →
    (is_create edit && is_some c) ≡ false → Done ≡ outcome_in edit (plain_if (is_some w)) →
    lays_page n start free (slot_pages c w) edit ≡ page_placed n start free (slot_pages c w)
place-laid n start free (Create t) c (Some own) places fresh done = absurd cc
place-laid n start free (Create t) None None places fresh done = refl
place-laid n start free (Create t) (Some own) None places fresh done = absurd cc
place-laid n start free (Append p) c (Some own) places fresh done = refl
place-laid n start free (Append p) c None places fresh done = absurd cc
place-laid n start free Destroy c w places fresh done = absurd places
place-laid n start free (Insert at p) c w places fresh done = absurd places
place-laid n start free (Delete at k) c w places fresh done = absurd places
place-laid n start free (Replace at p) c w places fresh done = absurd places

placed-got : (n : Numbers) (start : ℕ) (free left : Spaces) (c w : Option OwnPage) (own : OwnPage) →
    run_of n start 1 free ≡ Got (record { page = own.first; pages = 1 }) left →
    slot_in (page_placed n start free (slot_pages c w)) ≡ Some (slot_pages c (Some own))
placed-got n start free left c w own got =
    ap slot_in (ap (λ answer. and_then answer (λ run left. Got (with_working (slot_pages c w) (Some (page_tree run.page)) None) left)) got)

placed-refused : (n : Numbers) (start : ℕ) (free : Spaces) (c w : Option OwnPage) → run_of n start 1 free ≡ Refused 1 →
    pages_in (page_placed n start free (slot_pages c w)) ≡ Some 1
placed-refused n start free c w refused =
    ap pages_in (ap (λ answer. and_then answer
    (λ run left. Got (with_working (slot_pages c w) (Some (page_tree run.page)) None) left)) refused)

placed : (tells : Bool) (start : ℕ) (edit : Edit) (v : PageView) (own : OwnPage) (old middle new : Rest)
    (before between after : Option (List SpaceEvent)) (meter : Meter) →
    Places edit → (is_create edit && is_some v.committed) ≡ false → Done ≡ outcome_in edit (plain_if (there v)) → IsHolding tells v →
    IsGrantedPage tells start own old middle before between →
    UsesDropped v.fresh v.committed v.dropped middle new between after → IsReady v.numbers old →
    PageEdits tells start edit (Ok Done) v (placed_view v own) old new before after meter
placed tells start edit v own old middle new before between after meter places anew done holds granted used ready =
    let keeps = drop-keeps v.fresh v.committed v.dropped middle new between after granted.rest.entered used in
    made tells start edit v (placed_view v own) old new before after meter done refl refl (place-edited edit (there v) places done)
    (record { frame = keeps.frame ∙ granted.rest.frame; entered = keeps.entered })
    (part_then (IsSearched (least_order 1) 0 (count old) false) (λ part. Unit {0})
    (λ part. Unit {0}) before between after (λ p q first second. tt)
    granted.searched (drop-part v.fresh v.committed v.dropped middle new between after used))
    (λ tell views told long.
    let answer = grant-answer v.numbers old.frame views start 1 own.space own.first own.pages tells middle
    ready.store long granted.segment (granted.exact views told long) in
    ap slot_in (place-laid v.numbers start (free_sets views) edit v.committed (working_page v.committed v.fresh v.dropped) places anew done)
    ∙ placed-got v.numbers start (free_sets views) answer.0 v.committed (working_page v.committed v.fresh v.dropped) own answer.1)
    (λ tell views told home.
    place-moves tells v.numbers old.frame views start own v.fresh v.committed v.dropped middle new between after
    granted.rest.frame ready.store holds.fresh holds.committed holds.apart
    (grant-turned v.numbers old.frame views start 1 own.space own.first own.pages tells middle ready.store home
    (omega arith) granted.segment (granted.exact views told home.number)) used)

-- no page was had
searched-low : (order spaces : ℕ) (part : List SpaceEvent) → IsSearched order 0 spaces true part → (space : ℕ) →
    space < spaces → IsLow space order part
searched-low order spaces part searched space less = searched.low refl space (omega arith) less

-- a `create` that asks for a page owns none
absent : (b : Bool) (t : Option ℕ) → Done ≡ outcome_in (Create t) (plain_if b) → b ≡ false
absent true t done = absurd cc
absent false t done = refl

no-fresh : (c fresh : Option OwnPage) (dropped : Bool) → is_some (working_page c fresh dropped) ≡ false → fresh ≡ None
no-fresh c (Some own) dropped gone = absurd cc
no-fresh c None dropped gone = refl

asked-may : (edit : Edit) (v : PageView) → (is_create edit && is_some v.committed) ≡ false → Done ≡ outcome_in edit (plain_if (there v)) →
    (v.committed ≡ None → v.fresh ≡ None → ⊥) → EditMayTakeMemory edit
asked-may (Create t) v anew done owned =
    owned (none-unless v.committed anew) (no-fresh v.committed v.fresh v.dropped (absent (there v) t done))
asked-may Destroy v anew done owned = tt
asked-may (Append p) v anew done owned = tt
asked-may (Insert at p) v anew done owned = tt
asked-may (Delete at k) v anew done owned = tt
asked-may (Replace at p) v anew done owned = tt

refused : (tells : Bool) (start : ℕ) (edit : Edit) (fail : EditFail) (v : PageView) (old new : Rest)
    (before after : Option (List SpaceEvent)) (meter : Meter) →
    Places edit → (is_create edit && is_some v.committed) ≡ false →
    (v.committed ≡ None → v.fresh ≡ None → fail ≡ Memory → ⊥) → Done ≡ outcome_in edit (plain_if (there v)) →
    IsNotAsked start fail old new before after → IsReady v.numbers old →
    PageEdits tells start edit (Err fail) v v old new before after meter
refused tells start edit Fault v old new before after meter places anew owned done why ready = absurd why
refused tells start edit Memory v old new before after meter places anew owned done why ready = record {
  outcome = tt;
  form = tt;
  unmade = refl;
  rest = why.rest;
  low = why.trace;
  port = used-not meter;
  cause = cause-none meter.faults (Err Memory ≡ Err Fault) (λ same. absurd cc);
  memory = λ wanted. asked-may edit v anew done (λ none gone. owned none gone refl);
  told = λ tell. record {
    working = tt;
    committed = refl;
    kept = refl;
    unmade = refl;
    granted = λ views told long. tt;
    spaces = λ views told home. why.untouched v.numbers views ready.store told home;
    small = tt;
    writes = record { pages = 0; allowed = refl; most = omega arith };
  };
  tied = λ tell. page-tied v;
}
refused tells start edit (NoSpace pages) v old new before after meter places anew owned done why ready = record {
  outcome = tt;
  form = tt;
  unmade = refl;
  rest = why.rest;
  low = part_as (IsSearched (least_order 1) 0 (count old) true) (IsExplained (count old) (Err (NoSpace pages))) before after
      (λ part looked. subst (λ k. AreLow (count old) k part) (sym why.one)
      (searched-low (least_order 1) (count old) part looked)) why.searched;
  port = used-not meter;
  cause = cause-none meter.faults (Err (NoSpace pages) ≡ Err Fault) (λ same. absurd cc);
  memory = λ wanted. absurd cc;
  told = λ tell. record {
    working = tt;
    committed = refl;
    kept = refl;
    unmade = refl;
    granted = λ views told long.
        ap pages_in (place-laid v.numbers start (free_sets views) edit v.committed
        (working_page v.committed v.fresh v.dropped) places anew done)
        ∙ (placed-refused v.numbers start (free_sets views) v.committed (working_page v.committed v.fresh v.dropped)
        (grant-refused v.numbers old.frame views start 1 new long (why.exact views told long)).0
        ∙ ap Some (sym why.one));
    spaces = λ views told home. same-untouched v.numbers old.frame views new
        (grant-refused v.numbers old.frame views start 1 new home.number (why.exact views told home.number)).1 home;
    small = why.one;
    writes = record { pages = 0; allowed = refl; most = omega arith };
  };
  tied = λ tell. page-tied v;
}

-- ---- ends

abbrev pub PageEnds : Bool → (Form → Form) → (Contents → Contents) → PageView → PageView → Rest → Rest →
    Option (List SpaceEvent) → Option (List SpaceEvent) → Type 0
PageEnds tells form_by told_by v w old new before after =
    IsBodyEnd tells HaveLengths (form_by (page_form v)) (told_by (page_contents v)) (page_stage v old before) (page_stage w new after)

abbrev pub resting_view : PageView → Option OwnPage → PageView
resting_view v own = record { numbers = v.numbers; committed = own; fresh = None; dropped = false }

-- where an edit had dropped the committed page, it goes back, and the fresh one takes its place
working-dropped : (c fresh : Option OwnPage) (dropped : Bool) → dropped ≡ true → working_page c fresh dropped ≡ fresh
working-dropped c (Some own) dropped is = refl
working-dropped c None true is = refl
working-dropped c None false is = absurd cc

settled : (tells : Bool) (n : Numbers) (c x w : Option OwnPage) (rests : Bool) (old new : Rest)
    (before after : Option (List SpaceEvent)) → w ≡ x → IfSome c (IsOwn tells n) → BeginApart c x →
    IsReady n old → UsesPage giving c old new before after →
    IsBodyEnd tells HaveLengths (settled_form (pages_form n c w rests)) (settled_contents (pages_contents c w))
    (record { form = pages_form n c w rests; told = pages_contents c w; rest = old; trace = before })
    (record { form = pages_form n x x true; told = pages_contents x x; rest = new; trace = after })
settled tells n c x w rests old new before after is owned apart ready used =
    subst (λ (own : Option OwnPage). IsBodyEnd tells HaveLengths (settled_form (pages_form n c own rests))
    (settled_contents (pages_contents c own))
    (record { form = pages_form n c own rests; told = pages_contents c own; rest = old; trace = before })
    (record { form = pages_form n x x true; told = pages_contents x x; rest = new; trace = after }))
    (sym is) (record {
      form = refl;
      told = λ tell. refl;
      rest = uses-keeps giving c old new before after ready.none used;
      enters = uses-enters giving c old new before after used;
      spaces = λ tell views told home.
          pages-moved n old.frame views (λ page f l. Unit {0}) (λ page f l. own_bit c page || f)
          (λ page f l. not (own_bit c page) && l) c x x x new
          (turned-give tells n old.frame views c old new before after refl ready.store owned used told home)
          (λ page s at place. tt)
          (λ page f l known used locked. settled-bits (own_bit c page) (own_bit x page) f l used locked (apart-bits c x apart page));
      tied = λ tell. pages-tied n x x true (λ same. refl);
    })

undone : (tells : Bool) (n : Numbers) (c x w : Option OwnPage) (rests : Bool) (old middle new : Rest)
    (before between after : Option (List SpaceEvent)) → w ≡ x → IfSome c (IsOwn tells n) →
    IfSome x (IsOwn tells n) →
    BeginApart c x → IsReady n old → UsesPage giving x old middle before between → UsesPage unlocking c middle new between after →
    IsBodyEnd tells HaveLengths (undone_form (pages_form n c w rests)) (undone_contents (pages_contents c w))
    (record { form = pages_form n c w rests; told = pages_contents c w; rest = old; trace = before })
    (record { form = pages_form n c c true; told = pages_contents c c; rest = new; trace = after })
undone tells n c x w rests old middle new before between after is kept owned apart ready gave unlocked =
    let first = uses-keeps giving x old middle before between ready.none gave in
    let next = uses-keeps unlocking c middle new between after first.entered unlocked in
    subst (λ (own : Option OwnPage). IsBodyEnd tells HaveLengths (undone_form (pages_form n c own rests))
    (undone_contents (pages_contents c own))
    (record { form = pages_form n c own rests; told = pages_contents c own; rest = old; trace = before })
    (record { form = pages_form n c c true; told = pages_contents c c; rest = new; trace = after }))
    (sym is) (record {
      form = refl;
      told = λ tell. refl;
      rest = record { frame = next.frame ∙ first.frame; entered = next.entered };
      enters = then-enters unlocking c middle new before between after (uses-enters giving x old middle before between gave) unlocked;
      spaces = λ tell views told home.
          let one = turned-give tells n old.frame views x old middle before between refl ready.store owned gave told home in
          let two = turned-unlock tells n old.frame one.after c middle new between after first.frame ready.store
          kept unlocked one.told one.home in
          pages-moved n old.frame views (λ page f l. Unit {0}) (λ page f l. own_bit x page || f)
          (λ page f l. not (own_bit c page) && (not (own_bit x page) && l)) c x c c new
          (turned-then n old.frame views (λ page f l. own_bit x page || f)
          (λ page f l. not (own_bit x page) && l) (λ page f l. f)
          (λ page f l. not (own_bit c page) && l) middle new one two)
          (λ page s at place. tt)
          (λ page f l known used locked. undone-bits (own_bit c page) (own_bit x page) f l used locked (apart-bits c x apart page));
      tied = λ tell. pages-tied n c c true (λ same. refl);
    })

-- where none had, the object is at rest
rested : (tells : Bool) (n : Numbers) (c : Option OwnPage) (rest : Rest) (trace : Option (List SpaceEvent)) → IsReady n rest →
    IsBodyEnd tells HaveLengths (pages_form n c c true) (pages_contents c c)
    (record { form = pages_form n c c true; told = pages_contents c c; rest = rest; trace = trace })
    (record { form = pages_form n c c true; told = pages_contents c c; rest = rest; trace = trace })
rested tells n c rest trace ready = record {
  form = refl;
  told = λ tell. refl;
  rest = keeps-frame rest ready.none;
  enters = part_none AreEnters trace enters_none;
  spaces = λ tell views told home. same-moves n rest.frame views (slot_pages c c) rest told home;
  tied = λ tell. pages-tied n c c true (λ same. refl);
}

-- ---- reads

pub page-read : (tells : Bool) (at len : ℕ) (result : Result (List ℕ) LookFail) (v : PageView) (meter : Meter) →
    IsWithin (page_form v).working at len → IfOk result (λ bytes. (bytes ≡ []) × (len ≡ 0)) → (result ≡ Err look.Fault → ⊥) →
    (result ≡ Err look.Memory → 0 < len) →
    IsBodyRead tells HaveLengths (λ n slot bytes pages. pages ≡ 0) at len result (page_form v) (page_form v)
    (page_contents v) (page_contents v) meter meter
page-read tells at len result v meter within =
    empty-read tells HaveLengths (λ n slot bytes pages. pages ≡ 0) at len result (page_form v) (page_contents v) meter within refl
    (λ tell. page-tied v)

-- ---- the same of a view, which is known by an equation

pub unmade-by : (tells : Bool) (start : ℕ) (edit : Edit) (outcome : Outcome) (v inside : PageView) (rest : Rest)
    (trace : Option (List SpaceEvent)) (meter : Meter) → v ≡ inside →
    outcome ≡ outcome_in edit (plain_if (there inside)) → (outcome ≡ Done → ⊥) → IsReady v.numbers rest →
    PageEdits tells start edit (Ok outcome) v v rest rest trace trace meter
unmade-by tells start edit outcome v inside rest trace meter same is other =
    subst (λ (x : PageView). IsReady x.numbers rest → PageEdits tells start edit (Ok outcome) x x rest rest trace trace meter) (sym same)
    (unmade-edit tells start edit outcome inside rest trace meter is other)

pub memory-by : (tells : Bool) (start : ℕ) (edit : Edit) (v inside : PageView) (rest : Rest)
    (trace : Option (List SpaceEvent)) (meter : Meter) → v ≡ inside → IsReady v.numbers rest → EditMayTakeMemory edit →
    PageEdits tells start edit (Err Memory) v v rest rest trace trace meter
memory-by tells start edit v inside rest trace meter same =
    subst (λ (x : PageView). IsReady x.numbers rest → EditMayTakeMemory edit →
    PageEdits tells start edit (Err Memory) x x rest rest trace trace meter) (sym same)
    (wants-memory tells start edit inside rest trace meter)

pub destroyed-by : (tells : Bool) (start : ℕ) (edit : Edit) (v inside : PageView) (now : Option OwnPage)
    (old new : Rest) (before after : Option (List SpaceEvent)) (meter : Meter) → v ≡ inside → edit ≡ Destroy →
    Done ≡ outcome_in edit (plain_if (there inside)) → IsHolding tells inside → now ≡ None →
    UsesDropped inside.fresh inside.committed inside.dropped old new before after → IsReady v.numbers old →
    PageEdits tells start edit (Ok Done) v (record {
      numbers = inside.numbers;
      committed = inside.committed;
      fresh =
          now;
      dropped = true;
    }) old new before after meter
destroyed-by tells start edit v inside now old new before after meter same is done holds gone used =
    subst (λ (x : PageView). IsReady x.numbers old →
    PageEdits tells start edit (Ok Done) x (record {
      numbers = inside.numbers;
      committed = inside.committed;
      fresh = now;
      dropped = true;
    }) old new before after meter) (sym same)
    (subst (λ (own : Option OwnPage). IsReady inside.numbers old →
    PageEdits tells start edit (Ok Done) inside (record {
      numbers = inside.numbers;
      committed =
          inside.committed;
      fresh = own;
      dropped = true;
    }) old new before after meter) (sym gone)
    (destroyed tells start edit inside old new before after meter is done holds used))

pub came-back-by : (tells : Bool) (start : ℕ) (edit : Edit) (v inside : PageView) (old new : Rest)
    (before after : Option (List SpaceEvent)) (meter : Meter) → v ≡ inside → (is_create edit && is_some inside.committed) ≡ true →
    Done ≡ outcome_in edit (plain_if (there inside)) → IsHolding tells inside →
    UsesPage unlocking inside.committed old new before after → IsReady v.numbers old →
    PageEdits tells start edit (Ok Done) v (record {
      numbers = inside.numbers;
      committed = inside.committed;
      fresh = inside.fresh;
      dropped = false;
    }) old new before after meter
came-back-by tells start edit v inside old new before after meter same create done holds used =
    subst (λ (x : PageView). IsReady x.numbers old → PageEdits tells start edit (Ok Done) x back old new before after meter) (sym same)
    (λ ready. go edit create done ready)
  where
    back : PageView
    back = record { numbers = inside.numbers; committed = inside.committed; fresh = inside.fresh; dropped = false }

    go : (edit : Edit) → (is_create edit && is_some inside.committed) ≡ true →
        Done ≡ outcome_in edit (plain_if (there inside)) → IsReady inside.numbers old →
        PageEdits tells start edit (Ok Done) inside back old new before after meter
    go (Create t) create done ready =
        came_back tells start t inside.numbers inside.committed inside.fresh inside.dropped old new before after meter
        (absent (there inside) t done) create holds.committed used ready
    go Destroy create done ready = absurd cc
    go (Append p) create done ready = absurd cc
    go (Insert at p) create done ready = absurd cc
    go (Delete at k) create done ready = absurd cc
    go (Replace at p) create done ready = absurd cc

create-absent : (edit : Edit) (b : Bool) → is_create edit ≡ true → Done ≡ outcome_in edit (plain_if b) → b ≡ false
create-absent (Create t) b create done = absent b t done
create-absent Destroy b create done = absurd cc
create-absent (Append p) b create done = absurd cc
create-absent (Insert at p) b create done = absurd cc
create-absent (Delete at k) b create done = absurd cc
create-absent (Replace at p) b create done = absurd cc

-- and nothing is fresh then
pub back-holds : (tells : Bool) (edit : Edit) (v : PageView) → IsHolding tells v →
    (is_create edit && is_some v.committed) ≡ true → Done ≡ outcome_in edit (plain_if (there v)) →
    IsHolding tells (record { numbers = v.numbers; committed = v.committed; fresh = v.fresh; dropped = false })
back-holds tells edit v holds back done = record {
  committed = holds.committed;
  fresh = holds.fresh;
  apart = holds.apart;
  dropped = λ is. no-fresh v.committed v.fresh v.dropped
      (create-absent edit (there v) (and_parts (is_create edit) (is_some v.committed) back).0 done);
}

-- of what is owned, through the code's own type
pub mapped-some : {A B : Type 0} (o : Option A) (f : A → B) → is_some (option_map f o) ≡ is_some o
mapped-some None f = refl
mapped-some (Some x) f = refl

pub mapped-none : {A B : Type 0} (o : Option A) (f : A → B) → option_map f o ≡ None → o ≡ None
mapped-none None f none = refl
mapped-none (Some x) f none = absurd cc

pub placed-by : (tells : Bool) (start : ℕ) (edit : Edit) (v inside : PageView) (own : OwnPage)
    (old middle new : Rest) (before between after : Option (List SpaceEvent)) (meter : Meter) → v ≡ inside →
    Places edit → (is_create edit && is_some inside.committed) ≡ false →
    Done ≡ outcome_in edit (plain_if (there inside)) → IsHolding tells inside → IsGrantedPage tells start own old middle before between →
    UsesDropped inside.fresh inside.committed inside.dropped middle new between after → IsReady v.numbers old →
    PageEdits tells start edit (Ok Done) v (record {
      numbers = inside.numbers;
      committed = inside.committed;
      fresh =
          Some own;
      dropped = true;
    }) old new before after meter
placed-by tells start edit v inside own old middle new before between after meter same places anew done holds granted used =
    subst (λ (x : PageView). IsReady x.numbers old →
    PageEdits tells start edit (Ok Done) x (record {
      numbers = inside.numbers;
      committed = inside.committed;
      fresh = Some own;
      dropped = true;
    }) old new before after meter) (sym same)
    (placed tells start edit inside own old middle new before between after meter places anew done holds granted used)

pub refused-by : (tells : Bool) (start : ℕ) (edit : Edit) (fail : EditFail) (v inside : PageView) (old new : Rest)
    (before after : Option (List SpaceEvent)) (meter : Meter) → v ≡ inside →
    Places edit → (is_create edit && is_some inside.committed) ≡ false →
    (inside.committed ≡ None → inside.fresh ≡ None → fail ≡ Memory → ⊥) →
    Done ≡ outcome_in edit (plain_if (there inside)) → IsNotAsked start fail old new before after →
    IsReady v.numbers old → PageEdits tells start edit (Err fail) v v old new before after meter
refused-by tells start edit fail v inside old new before after meter same places anew owned done why =
    subst (λ (x : PageView). IsReady x.numbers old → PageEdits tells start edit (Err fail) x x old new before after meter) (sym same)
    (refused tells start edit fail inside old new before after meter places anew owned done why)

pub settled-by : (tells : Bool) (v inside : PageView) (c x now : Option OwnPage) (old new : Rest)
    (before after : Option (List SpaceEvent)) → v ≡ inside → inside.dropped ≡ true →
    c ≡ inside.committed → x ≡ inside.fresh → now ≡ None → IsHolding tells inside →
    UsesPage giving c old new before after → IsReady v.numbers old →
    PageEnds tells settled_form settled_contents v (record {
      numbers = inside.numbers;
      committed = x;
      fresh = now;
      dropped = false;
    }) old new before after
settled-by tells v inside c x now old new before after same dropped was came gone holds used =
    subst (λ (y : PageView). IsReady y.numbers old →
    PageEnds tells settled_form settled_contents y (record {
      numbers = inside.numbers;
      committed = x;
      fresh =
          now;
      dropped = false;
    }) old new before after) (sym same)
    (subst (λ (own : Option OwnPage). IsReady inside.numbers old →
    PageEnds tells settled_form settled_contents inside (record {
      numbers = inside.numbers;
      committed = x;
      fresh = own;
      dropped = false;
    }) old new before after) (sym gone)
    (subst (λ (own : Option OwnPage). IsReady inside.numbers old →
    PageEnds tells settled_form settled_contents inside (record {
      numbers = inside.numbers;
      committed = own;
      fresh = None;
      dropped = false;
    }) old new before after) (sym came)
    (λ ready. settled tells inside.numbers inside.committed inside.fresh
    (working_page inside.committed inside.fresh inside.dropped)
    (is_none inside.fresh && not inside.dropped) old new before after
    (working-dropped inside.committed inside.fresh inside.dropped dropped) holds.committed holds.apart ready
    (subst (λ (own : Option OwnPage). UsesPage giving own old new before after) was used))))

pub undone-by : (tells : Bool) (v inside : PageView) (x now : Option OwnPage) (old middle new : Rest)
    (before between after : Option (List SpaceEvent)) → v ≡ inside → inside.dropped ≡ true →
    x ≡ inside.fresh → now ≡ None → IsHolding tells inside → UsesPage giving x old middle before between →
    UsesPage unlocking inside.committed middle new between after → IsReady v.numbers old →
    PageEnds tells undone_form undone_contents v (record {
      numbers = inside.numbers;
      committed = inside.committed;
      fresh = now;
      dropped = false;
    }) old new before after
undone-by tells v inside x now old middle new before between after same dropped came gone holds gave unlocked =
    subst (λ (y : PageView). IsReady y.numbers old →
    PageEnds tells undone_form undone_contents y (record {
      numbers = inside.numbers;
      committed =
          inside.committed;
      fresh = now;
      dropped = false;
    }) old new before after) (sym same)
    (subst (λ (own : Option OwnPage). IsReady inside.numbers old →
    PageEnds tells undone_form undone_contents inside (record {
      numbers = inside.numbers;
      committed =
          inside.committed;
      fresh = own;
      dropped = false;
    }) old new before after) (sym gone)
    (λ ready. undone tells inside.numbers inside.committed inside.fresh
    (working_page inside.committed inside.fresh inside.dropped)
    (is_none inside.fresh && not inside.dropped) old middle new before between after
    (working-dropped inside.committed inside.fresh inside.dropped dropped) holds.committed holds.fresh holds.apart ready
    (subst (λ (own : Option OwnPage). UsesPage giving own old middle before between) came gave) unlocked))

-- nothing was dropped: the object is at rest
stays-settled : (tells : Bool) (n : Numbers) (c fresh : Option OwnPage) (dropped : Bool) (rest : Rest)
    (trace : Option (List SpaceEvent)) → dropped ≡ false → fresh ≡ None → IsReady n rest →
    PageEnds tells settled_form settled_contents (record {
      numbers = n;
      committed = c;
      fresh = fresh;
      dropped =
          dropped;
    }) (record { numbers = n; committed = c; fresh = fresh; dropped = dropped }) rest rest trace trace
stays-settled tells n c (Some own) dropped rest trace is none ready = absurd cc
stays-settled tells n c None true rest trace is none ready = absurd cc
stays-settled tells n c None false rest trace is none ready = rested tells n c rest trace ready

stays-undone : (tells : Bool) (n : Numbers) (c fresh : Option OwnPage) (dropped : Bool) (rest : Rest)
    (trace : Option (List SpaceEvent)) → dropped ≡ false → fresh ≡ None → IsReady n rest →
    PageEnds tells undone_form undone_contents (record {
      numbers = n;
      committed = c;
      fresh = fresh;
      dropped =
          dropped;
    }) (record { numbers = n; committed = c; fresh = fresh; dropped = dropped }) rest rest trace trace
stays-undone tells n c (Some own) dropped rest trace is none ready = absurd cc
stays-undone tells n c None true rest trace is none ready = absurd cc
stays-undone tells n c None false rest trace is none ready = rested tells n c rest trace ready

pub still-settled : (tells : Bool) (v inside : PageView) (rest : Rest) (trace : Option (List SpaceEvent)) →
    v ≡ inside → inside.dropped ≡ false → IsHolding tells inside → IsReady v.numbers rest →
    PageEnds tells settled_form settled_contents v v rest rest trace trace
still-settled tells v inside rest trace same is holds =
    subst (λ (x : PageView). IsReady x.numbers rest → PageEnds tells settled_form settled_contents x x rest rest trace trace) (sym same)
    (stays-settled tells inside.numbers inside.committed inside.fresh inside.dropped rest trace is (holds.dropped is))

pub still-undone : (tells : Bool) (v inside : PageView) (rest : Rest) (trace : Option (List SpaceEvent)) →
    v ≡ inside → inside.dropped ≡ false → IsHolding tells inside → IsReady v.numbers rest →
    PageEnds tells undone_form undone_contents v v rest rest trace trace
still-undone tells v inside rest trace same is holds =
    subst (λ (x : PageView). IsReady x.numbers rest → PageEnds tells undone_form undone_contents x x rest rest trace trace) (sym same)
    (stays-undone tells inside.numbers inside.committed inside.fresh inside.dropped rest trace is (holds.dropped is))
