-- One page after another is asked for.
use Rattle.std.proofs.Common.{
  ◌≡◌,
  ℕ,
  suc,
  ◌+◌,
  ◌<◌,
  ◌==◌,
  ◌||◌,
  Bool,
  true,
  IsTrue,
  List,
  [],
  ◌∷◌,
  length,
  drop,
  Option,
  None,
  inl,
  inr,
  sym,
  ap,
  subst,
  arith,
  ◌∙◌,
}
use Rattle.std.specs.Prelude.{Result, Ok, Err}
use Rattle.std.proofs.Math.Seq.{drop-append_seam}
use Rattle.std.proofs.lemmas.Bool.{cases_Bool, eqb-true}
use Rattle.std.proofs.lemmas.List.{drop_all, length-append}
use Rattle.space_directory.specs.SpaceView.{SpaceView}
use Rattle.superdirectory.specs.Grants.{AreTold}
use Rattle.superdirectory.specs.Rest.{Frame, Rest, count}
use Rattle.superdirectory.specs.Trace.{SpaceEvent, Part, IsLow}
use Rattle.block_model.specs.Place.{least_order}
use Rattle.superdirectory.proofs.Halves.{taken_length}
use Rattle.superdirectory.proofs.Traces.{low_left, low_right, part_as, part_then}
use Rattle.tree_splice.specs.Fresh.{FreshPage, ArePagesAsked, IsOneMore, is_on_pages, page_numbers}
use Rattle.tree_splice.specs.declared.failure.SpliceFail.{SpliceFail}
use Rattle.tree_splice.specs.declared.failure.SpliceFail.TheVariants.{NoSpace}
use Rattle.tree_splice.proofs.FreshLemmas.{in-more}
use Rattle.tree_splice.proofs.TakenLemmas.{asked-failed, asked-more}

-- what asking for one more page says, whatever the spaces are told as
abbrev pub AsksOne : ℕ → List FreshPage → List FreshPage → Rest → Rest → Result Unit SpliceFail → Type 0
AsksOne start old all mid new r = (views : List SpaceView) → AreTold mid views → length views ≡ count mid →
    ArePagesAsked views start 1 mid.frame (drop (length old) all) r new

-- the spaces that it is told of are those that were left
step-told : (views : List SpaceView) (start i : ℕ) (frame : Frame) (old all : List FreshPage) (mid new : Rest) (r : Result Unit SpliceFail)
    →
    mid.frame ≡ frame → length views ≡ length frame.firsts → (first : ArePagesAsked views start i frame old (Ok tt) mid) →
    AsksOne start old all
    mid new r →
    ArePagesAsked first.after start 1 frame (drop (length old) all) r new
step-told views start i frame old all mid new r framed same first ask =
    let long = taken_length (λ (q : FreshPage). q.space) (λ (q : FreshPage). q.page) (λ (q : FreshPage). q.bytes ∷ []) views old first.after
    first.taken in
    let firsts : count mid ≡ length frame.firsts = ap (λ (f : Frame). length f.firsts) framed in
    subst (λ (f : Frame). ArePagesAsked first.after start 1 f (drop (length old) all) r new) framed
    (ask first.after first.told (long ∙ (same ∙ sym firsts)))

pub asked-next : (views : List SpaceView) (start i : ℕ) (frame : Frame) (old all : List FreshPage) (held : ℕ → Option (List ℕ))
    (mid new : Rest) →
    IsOneMore held old all → mid.frame ≡ frame → length views ≡ length frame.firsts → ArePagesAsked views start i frame old (Ok tt) mid →
    AsksOne start old all mid new (Ok tt) → ArePagesAsked views start (i + 1) frame all (Ok tt) new
asked-next views start i frame old all held mid new more framed same first ask =
    let step = step-told views start i frame old all mid new (Ok tt) framed same first ask in
    let one : drop (length old) all ≡ more.page ∷ [] = ap (drop (length old)) more.now ∙ drop-append_seam old (more.page ∷ []) in
    let asked = asked-more views start i frame old more.page mid new first
    (subst (λ (ps : List FreshPage). ArePagesAsked first.after start 1 frame ps (Ok tt) new) one step) in
    let next : suc i ≡ i + 1 = omega arith in
    subst (λ (n : ℕ). ArePagesAsked views start n frame all (Ok tt) new) next
    (subst (λ (ps : List FreshPage). ArePagesAsked views start (suc i) frame ps (Ok tt) new) (sym more.now) asked)

pub asked-stop : (views : List SpaceView) (start i want : ℕ) (frame : Frame) (old all : List FreshPage) (fail : SpliceFail) (mid new : Rest)
    → i < want →
    all ≡ old → mid.frame ≡ frame → length views ≡ length frame.firsts → ArePagesAsked views start i frame old (Ok tt) mid →
    AsksOne start old all mid new (Err fail) → ArePagesAsked views start want frame all (Err fail) new
asked-stop views start i want frame old all fail mid new less kept framed same first ask =
    let step = step-told views start i frame old all mid new (Err fail) framed same first ask in
    let none : drop (length old) all ≡ [] = ap (drop (length old)) kept ∙ drop_all (length old) old (omega arith) in
    subst (λ (ps : List FreshPage). ArePagesAsked views start want frame ps (Err fail) new) (sym kept)
    (asked-failed views start i want frame old fail mid new less first (subst
    (λ (ps : List FreshPage). ArePagesAsked first.after start 1 frame ps (Err fail) new) none step))

pub number-next : (i : ℕ) (old all : List FreshPage) (held : ℕ → Option (List ℕ)) → IsOneMore held old all → length old ≡ i → length all ≡ i
    + 1
number-next i old all held more count =
    let long = ap length more.now in
    let both = length-append old (more.page ∷ []) in
    omega (arith, long, both, count)

pub lacked-next : (old all : List FreshPage) (held : ℕ → Option (List ℕ)) → IsOneMore held old all →
    ((q : ℕ) → IsTrue (is_on_pages q (page_numbers old)) → held q ≡ None) → (q : ℕ) → IsTrue (is_on_pages q (page_numbers all)) →
    held q ≡ None
lacked-next old all held more lacked q is =
    let both : (is_on_pages q (page_numbers old) || (more.page.page == q)) ≡ true =
    sym (in-more old more.page q) ∙ (ap (λ (ps : List FreshPage). is_on_pages q (page_numbers ps)) (sym more.now) ∙ is) in
    elim (cases_Bool (is_on_pages q (page_numbers old))) [
      | inl before ↦ lacked q before
      | inr not_so ↦
          (let one : (more.page.page == q) ≡ true = sym (ap (λ (b : Bool). b || (more.page.page == q)) not_so) ∙ both in
          ap held (sym (eqb-true more.page.page q one)) ∙ more.lacked)
    ]

-- any part of the trace, after any other
pub part-any : (P : List SpaceEvent → Type 0) (a b c : Option (List SpaceEvent)) → Part (λ part. Unit {0}) a b → Part P b c → Part
    (λ part. Unit {0}) a c
part-any P a b c first second = part_then (λ part. Unit {0}) P (λ part. Unit {0}) a b c (λ p q here there. tt) first second

-- ---- where there was no space

-- an answer of no space finds each of so many spaces low
abbrev pub LowFor : {A : Type 0} → ℕ → Result A SpliceFail → List SpaceEvent → Type 0
LowFor spaces r part = (r ≡ Err NoSpace) → (space : ℕ) → space < spaces → IsLow space (least_order 1) part

pub low-behind : {A : Type 0} (n m : ℕ) (r : Result A SpliceFail) (a b c : Option (List SpaceEvent)) → n ≡ m → Part (λ part. Unit {0}) a b →
    Part (LowFor m r) b c → Part (LowFor n r) a c
low-behind n m r a b c same first second =
    part_then (λ part. Unit {0}) (LowFor m r) (LowFor n r) a b c
    (λ p q here there bad space less. low_right space (least_order 1) p q (there bad space (omega (arith, less, same)))) first second

pub low-then : {A B : Type 0} (n : ℕ) (r : Result A SpliceFail) (r' : Result B SpliceFail) (Q : List SpaceEvent → Type 0)
    (a b c : Option (List SpaceEvent)) →
    ((r' ≡ Err NoSpace) → r ≡ Err NoSpace) → Part (LowFor n r) a b → Part Q b c → Part (LowFor n r') a c
low-then n r r' Q a b c back first second =
    part_then (LowFor n r) Q (LowFor n r') a b c
    (λ p q here there bad space less. low_left space (least_order 1) p q (here (back bad) space less)) first second

pub low-as : {A B : Type 0} (n : ℕ) (r : Result A SpliceFail) (r' : Result B SpliceFail) (a b : Option (List SpaceEvent)) →
    ((r' ≡ Err NoSpace) → r ≡ Err NoSpace) → Part (LowFor n r) a b → Part (LowFor n r') a b
low-as n r r' a b back first = part_as (LowFor n r) (LowFor n r') a b (λ p here bad space less. here (back bad) space less) first
