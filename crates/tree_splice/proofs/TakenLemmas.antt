-- Single pages granted one after another, the rule that they follow, and what giving them back leaves.
use Rattle.std.proofs.Common.{◌≡◌, ℕ, zero, suc, ◌-◌, ◌<◌, Bool, true, false, List, [], ◌∷◌, ◌++◌, length, map, set}
use Rattle.std.proofs.Common.{Some, None, refl, sym, ap, subst, arith, ◌∙◌}
use Rattle.std.specs.Prelude.{Ok, Err, slice_get}
use Rattle.std.proofs.Math.Seq.{map-set}
use Rattle.std.proofs.lemmas.List.{map-append, set-set}
use Rattle.std.proofs.lemmas.Option.{slice_get_within}
use Rattle.base_laws.proofs.ListLaws.{slice_get-set_same}
use Rattle.geometry_model.specs.Numbers.{Numbers}
use Rattle.block_model.specs.Block.{with_run}
use Rattle.block_model.proofs.Runs.{HasRun-within}
use Rattle.layout_model.specs.declared.extent.Extent.{Extent}
use Rattle.layout_model.specs.Grants.{Spaces, Answer, Got, Refused, and_then, run_of, halved, node_pages, spot_in, around}
use Rattle.space_directory.specs.SpaceView.{SpaceView, IsSpace, after_grant, after_give}
use Rattle.superdirectory.specs.Grants.{AreTold, free_sets, IsSegmentIn, IsRunIn}
use Rattle.superdirectory.specs.Parts.{IsLaid, AnswersHalved}
use Rattle.superdirectory.specs.Rest.{Frame, Rest, IsOf, count}
use Rattle.superdirectory.proofs.GrantLaws.{given_back, run_none, around_all}
use Rattle.superdirectory.proofs.Halves.{Grants, adds_placed, taken_append, taken_length, restored}
use Rattle.superdirectory.proofs.HomeLaws.{each_changed, granted_stays, given_stays, told-same}
use Rattle.superdirectory.proofs.Spots.{exact_none, set_same}
use Rattle.tree_splice.specs.Fresh.{FreshPage, AreTaken, AreGiven, AreHomely, GivesBack, IsPagesAnswer, ArePagesAsked}
use Rattle.tree_splice.specs.Fresh.{AreSamePages, emptied, page_numbers}
use Rattle.tree_splice.specs.Splice.{AreToldSpaces, KeepsSpaces, told_without_bytes}
use Rattle.tree_splice.specs.declared.failure.SpliceFail.{SpliceFail}
use Rattle.tree_splice.specs.declared.failure.SpliceFail.TheVariants.{NoSpace, Fault, Memory}

-- ---- the rule of single pages

pages-step : (numbers : Numbers) (start i : ℕ) (spaces left : Spaces) (run : Extent) → run_of numbers start 1 spaces ≡ Got run left →
    node_pages numbers start (suc i) spaces ≡ and_then (node_pages numbers start i left) (λ pages rest. Got (run.page ∷ pages) rest)
pages-step numbers start i spaces left run e = rw (e, node_pages) refl

pages-none : (numbers : Numbers) (start i p : ℕ) (spaces : Spaces) → run_of numbers start 1 spaces ≡ Refused p →
    node_pages numbers start (suc i) spaces ≡ Refused p
pages-none numbers start i p spaces e = rw (e, node_pages) refl

-- the answer of one more
then_got : (run : Extent) (a : Answer (List ℕ)) (pages : List ℕ) (left : Spaces) →
    and_then a (λ ps rest. Got (run.page ∷ ps) rest) ≡ Got pages left → (ps : List ℕ) × (a ≡ Got ps left) × (pages ≡ run.page ∷ ps)
then_got run (Got ps rest) pages left e = (let one : run.page ∷ ps ≡ pages = cc in let two : rest ≡ left = cc in
    (ps, ap (λ (l : Spaces). Got ps l) two, sym one))
then_got run (Refused p) pages left e = cc

-- the first of some pages that were granted
pub got-first : (numbers : Numbers) (start i : ℕ) (spaces left : Spaces) (pages : List ℕ) → node_pages numbers start (suc i) spaces ≡ Got
    pages left →
    (run : Extent) × (mid : Spaces) × (run_of numbers start 1 spaces ≡ Got run mid)
    × ((ps : List ℕ) × (node_pages numbers start i mid ≡ Got ps left) × (pages ≡ run.page ∷ ps))
got-first numbers start i spaces left pages e = by_run (run_of numbers start 1 spaces) refl
  where
    by_run : (a : Answer Extent) → run_of numbers start 1 spaces ≡ a →
        (run : Extent) × (mid : Spaces) × (run_of numbers start 1 spaces ≡ Got run mid)
        × ((ps : List ℕ) × (node_pages numbers start i mid ≡ Got ps left) × (pages ≡ run.page ∷ ps))
    by_run (Got run mid) f =
        (run, mid, f, then_got run (node_pages numbers start i mid) pages left (sym (pages-step numbers start i spaces mid run f) ∙ e))
    by_run (Refused p) f = (let never : Refused p ≡ Got pages left = sym (pages-none numbers start i p spaces f) ∙ e in cc)

pub got-more : (numbers : Numbers) (start i : ℕ) (spaces left last : Spaces) (pages : List ℕ) (page : ℕ) →
    node_pages numbers start i spaces ≡ Got pages left → node_pages numbers start 1 left ≡ Got (page ∷ []) last →
    node_pages numbers start (suc i) spaces ≡ Got (pages ++ page ∷ []) last
got-more numbers start zero spaces left last pages page e f =
    let none : pages ≡ [] = cc in
    let same : spaces ≡ left = cc in
    subst (λ (s : Spaces). node_pages numbers start 1 s ≡ Got (pages ++ page ∷ []) last) (sym same)
    (f ∙ ap (λ (ps : List ℕ). Got (ps ++ page ∷ []) last) (sym none))
got-more numbers start (suc i) spaces left last pages page e f =
    let first = got-first numbers start i spaces left pages e in
    let run = first.0 in
    let ps = first.3.0 in
    let more = got-more numbers start i first.1 left last ps page first.3.1 f in
    pages-step numbers start (suc i) spaces first.1 run first.2
    ∙ (ap (λ (a : Answer (List ℕ)). and_then a (λ qs rest. Got (run.page ∷ qs) rest)) more
    ∙ ap (λ (qs : List ℕ). Got (qs ++ page ∷ []) last) (sym first.3.2))

none-one : (numbers : Numbers) (start : ℕ) (spaces : Spaces) → node_pages numbers start 1 spaces ≡ Refused 1 → run_of numbers start 1 spaces
    ≡ Refused 1
none-one numbers start spaces e = by_run (run_of numbers start 1 spaces) refl
  where
    by_run : (a : Answer Extent) → run_of numbers start 1 spaces ≡ a → run_of numbers start 1 spaces ≡ Refused 1
    by_run (Got run mid) f = (let got : node_pages numbers start 1 spaces ≡ Got (run.page ∷ []) mid = pages-step numbers start 0 spaces mid
        run f in
        let never : Got (run.page ∷ []) mid ≡ Refused 1 = sym got ∙ e in cc)
    by_run (Refused p) f =
        (let same : Refused p ≡ Refused 1 = sym (pages-none numbers start 0 p spaces f) ∙ e in
        let one : p ≡ 1 = cc in f ∙ ap (λ (n : ℕ). Refused n) one)

pub refused-more : (numbers : Numbers) (start i want : ℕ) (spaces left : Spaces) (pages : List ℕ) → i < want →
    node_pages numbers start i spaces ≡ Got pages left → node_pages numbers start 1 left ≡ Refused 1 →
    node_pages numbers start want spaces ≡ Refused 1
refused-more numbers start zero zero spaces left pages less e f = absurd (omega (arith, less))
refused-more numbers start zero (suc want) spaces left pages less e f =
    let same : spaces ≡ left = cc in
    pages-none numbers start want 1 spaces (none-one numbers start spaces
    (subst (λ (s : Spaces). node_pages numbers start 1 s ≡ Refused 1) (sym same) f))
refused-more numbers start (suc i) zero spaces left pages less e f = absurd (omega (arith, less))
refused-more numbers start (suc i) (suc want) spaces left pages less e f =
    let first = got-first numbers start i spaces left pages e in
    let fewer : suc i < suc want = less in
    let more = refused-more numbers start i want first.1 left first.3.0 (omega (arith, fewer)) first.3.1 f in
    pages-step numbers start want spaces first.1 first.0 first.2
    ∙ ap (λ (a : Answer (List ℕ)). and_then a (λ qs rest. Got (first.0.page ∷ qs) rest)) more

-- a part of one page is granted as a page is
halved-one : (numbers : Numbers) (start : ℕ) (spaces left : Spaces) (listed : List Extent) → halved 1 numbers start 1 1 spaces ≡ Got listed
    left →
    node_pages numbers start 1 spaces ≡ Got (map (λ (run : Extent). run.page) listed) left
halved-one numbers start spaces left listed e = by_run (run_of numbers start 1 spaces) refl
  where
    by_run : (a : Answer Extent) → run_of numbers start 1 spaces ≡ a →
        node_pages numbers start 1 spaces ≡ Got (map (λ (run : Extent). run.page) listed) left
    by_run (Got run mid) f =
        (let whole : halved 1 numbers start 1 1 spaces ≡ Got (run ∷ []) mid = rw (f, halved) refl in
        let same : Got (run ∷ []) mid ≡ Got listed left = sym whole ∙ e in
        let one : run ∷ [] ≡ listed = cc in
        let two : mid ≡ left = cc in
        pages-step numbers start 0 spaces mid run f
        ∙ (ap (λ (l : Spaces). Got (run.page ∷ []) l) two
        ∙ ap (λ (runs : List Extent). Got (map (λ (r : Extent). r.page) runs) left) one))
    by_run (Refused p) f =
        (let none : halved 1 numbers start 1 1 spaces ≡ Refused 1 = rw (f, halved) refl in
        let never : Refused 1 ≡ Got listed left = sym none ∙ e in cc)

-- ---- pages that were asked for

pub asked-none : (views : List SpaceView) (start : ℕ) (frame : Frame) (rest : Rest) → AreTold rest views →
    ArePagesAsked views start 0 frame []
    (Ok tt) rest
asked-none views start frame rest told = record { after = views; taken = refl; told = told; answer = λ numbers laid. refl }

pub asked-one : (tells : Bool) (views : List SpaceView) (start : ℕ) (frame : Frame) (old new : Rest) (p : FreshPage) →
    AreTold old views → length views ≡ length frame.firsts → IsSegmentIn frame 1 p.space p.page (p.bytes ∷ []) tells →
    Grants old frame start 1 (Some (p.space, (p.page, p.bytes ∷ []))) new → ArePagesAsked views start 1 frame (p ∷ []) (Ok tt) new
asked-one tells views start frame old new p told same segment exact =
    let all = answered (record { page = 0; order = 0; spaces = 0; catalog = 0; threshold = 0 }) in
    record {
      after = all.after;
      taken = all.taken;
      told = all.told;
      answer = λ numbers laid.
          let own = answered numbers in
          halved-one numbers start (free_sets views) (free_sets own.after) own.listed own.same
          ∙ (ap (λ (runs : List Extent). Got (map (λ (r : Extent). r.page) runs) (free_sets own.after)) (own.matched laid)
          ∙ ap (λ (vs : List SpaceView). Got (page_numbers (p ∷ [])) (free_sets vs)) (told-same new own.after all.after own.told all.told));
    }
  where
    answered : (numbers : Numbers) → AnswersHalved (λ (q : FreshPage). q.space) (λ (q : FreshPage). q.page)
        (λ (q : FreshPage). q.bytes ∷ []) views
        (IsLaid numbers frame.firsts) (halved 1 numbers start 1 1 (free_sets views)) None (p ∷ []) new
    answered numbers =
        (let adds = adds_placed (λ (q : FreshPage). q.space) (λ (q : FreshPage). q.page) (λ (q : FreshPage). q.bytes ∷ []) tells frame start
        1 1 old new
        [] (p ∷ []) p (omega arith) segment exact refl in
        subst (λ (ps : List FreshPage). AnswersHalved (λ (q : FreshPage). q.space) (λ (q : FreshPage). q.page)
        (λ (q : FreshPage). q.bytes ∷ []) views
        (IsLaid numbers frame.firsts) (halved 1 numbers start 1 1 (free_sets views)) None ps new) (sym adds.added)
        (adds.told numbers 1 views (omega arith) told same))

pub asked-refused : (views : List SpaceView) (start : ℕ) (frame : Frame) (old new : Rest) →
    AreTold old views → length views ≡ length frame.firsts → Grants old frame start 1 None new → ArePagesAsked views start 1 frame []
    (Err NoSpace) new
asked-refused views start frame old new told same exact =
    let found = exact_none views 1 (spot_in (free_sets views) 1 (around start (length frame.firsts))) frame new (exact views told same) in
    record {
      after = views;
      taken = refl;
      told = found.1;
      answer = λ numbers laid. pages-none numbers start 0 1 (free_sets views)
          (run_none numbers start 1 (free_sets views) (around_all views frame start 1 None same found.0));
    }

pub asked-more : (views : List SpaceView) (start i : ℕ) (frame : Frame) (pages : List FreshPage) (p : FreshPage) (mid new : Rest) →
    (first : ArePagesAsked views start i frame pages (Ok tt) mid) → ArePagesAsked first.after start 1 frame (p ∷ []) (Ok tt) new →
    ArePagesAsked views start (suc i) frame (pages ++ p ∷ []) (Ok tt) new
asked-more views start i frame pages p mid new first next = record {
  after = next.after;
  taken = taken_append (λ (q : FreshPage). q.space) (λ (q : FreshPage). q.page) (λ (q : FreshPage). q.bytes ∷ []) views pages (p ∷ [])
      first.after next.after first.taken next.taken;
  told = next.told;
  answer = λ numbers laid.
      got-more numbers start i (free_sets views) (free_sets first.after) (free_sets next.after) (page_numbers pages) p.page
      (first.answer numbers laid) (next.answer numbers laid)
      ∙ ap (λ (ps : List ℕ). Got ps (free_sets next.after)) (sym (map-append (λ (q : FreshPage). q.page) pages (p ∷ [])));
}

-- the answer after a refusal
refused-answer : (numbers : Numbers) (start i want : ℕ) (spaces mid left : Spaces) (pages none : List FreshPage) (fail : SpliceFail) → i <
    want →
    node_pages numbers start i spaces ≡ Got (page_numbers pages) mid → IsPagesAnswer numbers start 1 mid none left (Err fail) →
    IsPagesAnswer numbers start want spaces pages left (Err fail)
refused-answer numbers start i want spaces mid left pages none NoSpace less first next =
    refused-more numbers start i want spaces mid (page_numbers pages) less first next
refused-answer numbers start i want spaces mid left pages none Fault less first next = tt
refused-answer numbers start i want spaces mid left pages none Memory less first next = tt

pub asked-failed : (views : List SpaceView) (start i want : ℕ) (frame : Frame) (pages : List FreshPage) (fail : SpliceFail) (mid new : Rest)
    → i < want →
    (first : ArePagesAsked views start i frame pages (Ok tt) mid) → ArePagesAsked first.after start 1 frame [] (Err fail) new →
    ArePagesAsked views start want frame pages (Err fail) new
asked-failed views start i want frame pages fail mid new less first next = record {
  after = first.after;
  taken = first.taken;
  told = subst (λ (vs : List SpaceView). AreTold new vs) next.taken next.told;
  answer = λ numbers laid. refused-answer numbers start i want (free_sets views) (free_sets first.after) (free_sets first.after) pages []
      fail less
      (first.answer numbers laid)
      (subst (λ (vs : List SpaceView). IsPagesAnswer numbers start 1 (free_sets first.after) [] (free_sets vs) (Err fail)) next.taken
      (next.answer numbers laid));
}

-- the same with another refusal, of which the rule says nothing
pub asked-still : (views : List SpaceView) (start want : ℕ) (frame : Frame) (pages : List FreshPage) (rest : Rest) →
    ArePagesAsked views start want frame pages (Ok tt) rest → (fail : SpliceFail) → (fail ≡ NoSpace → ⊥) →
    ArePagesAsked views start want frame pages
    (Err fail) rest
asked-still views start want frame pages rest asked NoSpace other = absurd (other refl)
asked-still views start want frame pages rest asked Fault other = record
    { after = asked.after; taken = asked.taken; told = asked.told; answer = λ numbers laid. tt }
asked-still views start want frame pages rest asked Memory other = record
    { after = asked.after; taken = asked.taken; told = asked.told; answer = λ numbers laid. tt }

-- ---- pages given back, whatever they hold

mapped-at : {X Y : Type 0} (f : X → Y) (xs ys : List X) (i : ℕ) (x y : X) → map f xs ≡ map f ys → slice_get xs i ≡ Some x →
    slice_get ys i ≡ Some y → f x ≡ f y
mapped-at f [] ys i x y same here there = cc
mapped-at f (a ∷ xs) [] i x y same here there = cc
mapped-at f (a ∷ xs) (b ∷ ys) zero x y same here there =
    (let one : a ≡ x = cc in let two : b ≡ y = cc in let three : f a ≡ f b = cc in sym (ap f one) ∙ (three ∙ ap f two))
mapped-at f (a ∷ xs) (b ∷ ys) (suc i) x y same here there =
    (let rest : map f xs ≡ map f ys = cc in mapped-at f xs ys i x y rest here there)

-- a space without what its pages hold, once a page was given back to it
abbrev given_bare : ℕ → SpaceView → SpaceView
given_bare page v = record {
  number = v.number;
  first = v.first;
  page = v.page;
  free = with_run v.free (page - v.first) 1 true;
  locked = with_run v.locked (page - v.first) 1 false;
  held = [];
}

-- the told spaces have the pages that they had, each a space on its run
pub record Restored (frame : Frame) (views last : List SpaceView) : Type 0 where
  pub same : map told_without_bytes last ≡ map told_without_bytes views
  pub spaces : AreToldSpaces frame views → AreToldSpaces frame last

pub given-same : (tells : Bool) (frame : Frame) (views after last : List SpaceView) (granted now : List FreshPage) →
    AreSamePages granted now →
    AreHomely tells frame now → AreTaken views granted after → AreGiven after now last → Restored frame views last
given-same tells frame views after last [] [] alike home taken given =
    let all : last ≡ views = given ∙ taken in
    record { same = ap (map told_without_bytes) all; spaces = λ are. subst (AreToldSpaces frame) (sym all) are }
given-same tells frame views after last [] (n ∷ now) alike home taken given = cc
given-same tells frame views after last (g ∷ granted) [] alike home taken given = cc
given-same tells frame views after last (g ∷ granted) (n ∷ now) alike home (v, here, sound, free, held, rest) (between, b, (w, there, is)) =
    let first : emptied n ≡ emptied g = cc in
    let others : map emptied now ≡ map emptied granted = cc in
    let space : n.space ≡ g.space = ap (λ (p : FreshPage). p.space) first in
    let page : n.page ≡ g.page = ap (λ (p : FreshPage). p.page) first in
    let s = g.space in
    let next = after_grant v (g.page - v.first) 1 in
    let less : s < length views = slice_get_within views s v here in
    let inner = given-same tells frame (set views s next) after between granted now others home.2 rest b in
    let found : slice_get between s ≡ Some w = ap (slice_get between) (sym space) ∙ there in
    let alike_w : told_without_bytes w ≡ told_without_bytes next = mapped-at told_without_bytes between
    (set views s next) s w next inner.same found
    (slice_get-set_same views s next less) in
    let back : told_without_bytes (after_give next (g.page - v.first) (g.bytes ∷ [])) ≡ told_without_bytes v =
    ap told_without_bytes (given_back v (g.page - v.first) (g.bytes ∷ []) sound free (omega arith) held) in
    let put : told_without_bytes (after_give w (n.page - w.first) (n.bytes ∷ [])) ≡ told_without_bytes v =
    ap (λ (q : ℕ). given_bare q w) page ∙ (ap (given_bare g.page) alike_w ∙ back) in
    let last_is : last ≡ set between s (after_give w (n.page - w.first) (n.bytes ∷ [])) =
    is ∙ ap (λ (k : ℕ). set between k (after_give w (n.page - w.first) (n.bytes ∷ []))) space in
    record {
      same = ap (map told_without_bytes) last_is
          ∙ (map-set told_without_bytes between s (after_give w (n.page - w.first) (n.bytes ∷ []))
          ∙ (ap (λ (l : List SpaceView). set l s (told_without_bytes (after_give w (n.page - w.first) (n.bytes ∷ []))))
          (inner.same ∙ map-set told_without_bytes views s next)
          ∙ (set-set (map told_without_bytes views) s (told_without_bytes next) (told_without_bytes (after_give w (n.page - w.first)
          (n.bytes ∷ [])))
          ∙ (ap (λ (x : SpaceView). set (map told_without_bytes views) s x) put
          ∙ (sym (map-set told_without_bytes views s v) ∙ ap (map told_without_bytes) (set_same views s v here))))));
      spaces = λ are.
          let own = are s v here in
          let granted_one = granted_stays frame s (g.page - v.first) 1 v
          (HasRun-within v.free (g.page - v.first) 1 (omega arith) free) own.0 own.1 in
          let mid = inner.spaces (each_changed (λ k x. IsSpace x × IsOf frame k x) views s next are granted_one) in
          let there_is = mid s w found in
          let run : IsRunIn frame s n.page 1 = subst (λ (k : ℕ). IsRunIn frame k n.page 1) space home.0 in
          subst (AreToldSpaces frame) (sym last_is)
          (each_changed (λ k x. IsSpace x × IsOf frame k x) between s (after_give w (n.page - w.first) (n.bytes ∷ [])) mid
          (given_stays frame s n.page (n.bytes ∷ []) w run there_is.0 there_is.1));
    }

-- pages that hold what they held leave the very same spaces
pub given-whole : (tells : Bool) (frame : Frame) (views after last : List SpaceView) (pages : List FreshPage) →
    AreHomely tells frame pages → AreTaken views pages after → AreGiven after pages last → last ≡ views
given-whole tells frame views after last pages home taken given =
    restored (λ (q : FreshPage). q.space) (λ (q : FreshPage). q.page) (λ (q : FreshPage). q.bytes ∷ []) tells frame views pages after last
    home taken given

-- ---- after a refusal

given-all : (frame : Frame) (views after : List SpaceView) (granted pages : List FreshPage) (mid new : Rest) → mid.frame ≡ frame →
    length views ≡ length frame.firsts → AreTaken views granted after → AreTold mid after → GivesBack pages mid new →
    (last : List SpaceView) × AreTold new last × AreGiven after pages last
given-all frame views after granted pages mid new same long taken told back =
    let kept = taken_length (λ (q : FreshPage). q.space) (λ (q : FreshPage). q.page) (λ (q : FreshPage). q.bytes ∷ []) views granted after
    taken in
    let firsts : count mid ≡ length frame.firsts = ap (λ (f : Frame). length f.firsts) same in
    back after told (kept ∙ (long ∙ sym firsts))

pub back-whole : (tells : Bool) (frame : Frame) (views after : List SpaceView) (pages : List FreshPage) (mid new : Rest) → mid.frame ≡ frame
    →
    length views ≡ length frame.firsts → AreHomely tells frame pages → AreTaken views pages after → AreTold mid after → GivesBack pages mid
    new → AreTold new views
back-whole tells frame views after pages mid new same long home taken told back =
    let last = given-all frame views after pages pages mid new same long taken told back in
    subst (AreTold new) (given-whole tells frame views after last.0 pages home taken last.2) last.1

pub back-same : (tells : Bool) (frame : Frame) (views after : List SpaceView) (granted pages : List FreshPage) (mid new : Rest) → mid.frame
    ≡ frame →
    length views ≡ length frame.firsts → AreSamePages granted pages → AreHomely tells frame pages → AreTaken views granted after →
    AreTold mid
    after →
    GivesBack pages mid new → KeepsSpaces frame views new
back-same tells frame views after granted pages mid new same long alike home taken told back =
    let last = given-all frame views after granted pages mid new same long taken told back in
    let restored_all = given-same tells frame views after last.0 granted pages alike home taken last.2 in
    record { after = last.0; told = last.1; same = restored_all.same; spaces = restored_all.spaces }

-- nothing was asked for
pub spaces-kept : (frame : Frame) (views : List SpaceView) (rest : Rest) → AreTold rest views → KeepsSpaces frame views rest
spaces-kept frame views rest told = record { after = views; told = told; same = refl; spaces = λ are. are }
