-- What came of the told spaces, step by step up to the whole call.
use Rattle.std.proofs.Common.{◌≡◌, ℕ, Bool, List, length, refl, sym, subst}
use Rattle.std.specs.Prelude.{Err}
use Rattle.space_directory.specs.SpaceView.{SpaceView}
use Rattle.superdirectory.specs.Rest.{Frame, Rest}
use Rattle.tree_splice.specs.Fresh.{FreshPage, AreHomely, AreSamePages, AreTaken, GivesBack, ArePagesAsked}
use Rattle.tree_splice.specs.Splice.{AsksFor, HaveAnswered, HaveGiven, firsts_of}
use Rattle.tree_splice.specs.declared.failure.SpliceFail.{SpliceFail}
use Rattle.tree_splice.specs.declared.new_tree.Spliced.{Spliced}
use Rattle.tree_splice.specs.declared.failure.SpliceFail.TheVariants.{NoSpace, Fault, Memory}
use Rattle.tree_splice.proofs.TakenLemmas.{back-same, back-whole}

-- the pages that were granted were given back
pub answered-err : {A : Type 0} (made : A → List ℕ) (tells : Bool) (frame : Frame) (views : List SpaceView) (start want : ℕ)
    (granted pages : List FreshPage)
    (fail : SpliceFail) (mid new : Rest) → mid.frame ≡ frame → length views ≡ length frame.firsts → AreHomely tells frame pages →
    AreSamePages
    granted pages →
    ((fail ≡ NoSpace) → pages ≡ granted) → ArePagesAsked views start want frame granted (Err fail) mid → GivesBack pages mid new →
    HaveAnswered {A = A} made views start want frame (Err fail) new
answered-err made tells frame views start want granted pages NoSpace mid new framed long home alike same asked back = (
  back-whole tells frame views asked.after pages mid new framed long home
      (subst (λ (ps : List FreshPage). AreTaken views ps asked.after) (sym (same refl)) asked.taken) asked.told back,
  asked.answer,
)
answered-err made tells frame views start want granted pages Fault mid new framed long home alike same asked back =
    back-same tells frame views asked.after granted pages mid new framed long alike home asked.taken asked.told back
answered-err made tells frame views start want granted pages Memory mid new framed long home alike same asked back =
    back-same tells frame views asked.after granted pages mid new framed long alike home asked.taken asked.told back

-- a refusal says the same whatever the answer would have brought
answered-as : {A B : Type 0} (made : A → List ℕ) (made' : B → List ℕ) (views : List SpaceView) (start want : ℕ) (frame : Frame)
    (fail : SpliceFail) (rest : Rest) →
    HaveAnswered {A = A} made views start want frame (Err fail) rest → HaveAnswered {A = B} made' views start want frame (Err fail) rest
answered-as made made' views start want frame NoSpace rest answered = answered
answered-as made made' views start want frame Fault rest answered = answered
answered-as made made' views start want frame Memory rest answered = answered

asks-err : (wants : ℕ → Type 0) (want : ℕ) (fail : SpliceFail) → wants want → AsksFor wants want (Err fail)
asks-err wants want NoSpace wanted = wanted
asks-err wants want Fault wanted = tt
asks-err wants want Memory wanted = tt

pub given-err : {A : Type 0} (made : A → List ℕ) (wants : ℕ → Type 0) (views : List SpaceView) (start want : ℕ) (frame : Frame)
    (fail : SpliceFail) (rest : Rest) →
    wants want → HaveAnswered {A = A} made views start want frame (Err fail) rest → HaveGiven wants views start frame (Err fail) rest
given-err made wants views start want frame fail rest wanted answered =
    (want, asks-err wants want fail wanted, answered-as made (λ (s : Spliced). firsts_of s.made) views start want frame fail rest answered)
