-- The first spaces of a store: one more of them, and all of them as spaces that can be entered.
use Rattle.std.proofs.Common.{◌≡◌, ℕ, zero, suc, ◌+◌, ◌-◌, ◌*◌, ◌<◌, ◌≤◌, List, [], ◌∷◌, ◌++◌, length, map, take, drop}
use Rattle.std.proofs.Common.{replicate, Some, refl, sym, ap, subst, arith, ◌∙◌}
use Rattle.std.specs.Prelude.{slice_get, slice_index}
use Rattle.std.proofs.Math.Nat.{add-mul}
use Rattle.std.proofs.lemmas.List.{length-append, length-drop, length-map, length-replicate, length-take}
use Rattle.geometry_model.specs.Numbers.{Numbers, space_pages}
use Rattle.geometry_model.specs.Pages.{first_page}
use Rattle.space_directory.specs.SpaceView.{SpaceView}
use Rattle.superdirectory.specs.Solo.{AreAlike, rest_of, solo_of}
use Rattle.bench_object.specs.Store.{AreFirst, AreFrom, CanEdit, IsSpaceAt}

-- the pages of the spaces to come are those of one, and of the others
pub pages-next : (k s width : ℕ) → s < k → (k - s) * width ≡ width + (k - (s + 1)) * width
pages-next k s width less =
    let one : k - s ≡ 1 + (k - (s + 1)) = omega (arith, less) in
    let both = add-mul 1 (k - (s + 1)) width in
    ap (λ (i : ℕ). i * width) one ∙ omega (arith, both)

from-next : (n : Numbers) (s : ℕ) (spaces : List SpaceView) (v : SpaceView) → AreFrom n s spaces →
    IsSpaceAt n (s + length spaces) v → AreFrom n s (spaces ++ v ∷ [])
from-next n s [] v row here = (let same : s + 0 ≡ s = omega arith in subst (λ (k : ℕ). IsSpaceAt n k v) same here, tt)
from-next n s (x ∷ spaces) v row here = (
  row.0,
  from-next n (suc s) spaces v row.1
      (let same : s + suc (length spaces) ≡ suc s + length spaces = omega arith in subst (λ (k : ℕ). IsSpaceAt n k v) same here),
)

pub next-first : (n : Numbers) (k : ℕ) (spaces : List SpaceView) (v : SpaceView) → AreFirst n k spaces → IsSpaceAt n k v →
    AreFirst n (k + 1) (spaces ++ v ∷ [])
next-first n k spaces v first here = record {
  long = let both = length-append spaces (v ∷ []) in let was = first.long in omega (arith, both, was);
  row = from-next n 0 spaces v first.row (let long : k ≡ 0 + length spaces = let was = first.long in omega (arith, was) in
      subst (λ (i : ℕ). IsSpaceAt n i v) long here);
}

from-each : (n : Numbers) (s : ℕ) (spaces : List SpaceView) (k : ℕ) (v : SpaceView) → AreFrom n s spaces →
    slice_get spaces k ≡ Some v → IsSpaceAt n (s + k) v
from-each n s [] zero v row here = absurd cc
from-each n s [] (suc k) v row here = absurd cc
from-each n s (x ∷ spaces) zero v row here =
    let same : x ≡ v = cc in let none : s ≡ s + 0 = omega arith in
    subst (λ (i : ℕ). IsSpaceAt n i v) none (subst (IsSpaceAt n s) same row.0)
from-each n s (x ∷ spaces) (suc k) v row here =
    let one : suc s + k ≡ s + suc k = omega arith in
    subst (λ (i : ℕ). IsSpaceAt n i v) one (from-each n (suc s) spaces k v row.1 here)

pub alike-first : (n : Numbers) (k : ℕ) (spaces : List SpaceView) → AreFirst n k spaces → AreAlike n.page (space_pages n) spaces
alike-first n k spaces first = record {
  numbered = λ s v here. (let number = (from-each n 0 spaces s v first.row here).number in omega (arith, number));
  sized = λ s v here. (from-each n 0 spaces s v first.row here).page;
  count = λ s v here. (from-each n 0 spaces s v first.row here).pages;
}

from-firsts : (n : Numbers) (s : ℕ) (spaces : List SpaceView) (k : ℕ) → AreFrom n s spaces → k < length spaces →
    slice_index (map (λ (v : SpaceView). v.first) spaces) k ≡ first_page n (s + k)
from-firsts n s [] k row less = absurd (omega (arith, less))
from-firsts n s (x ∷ spaces) zero row less = row.0.first ∙ ap (first_page n) (let none : s ≡ s + 0 = omega arith in none)
from-firsts n s (x ∷ spaces) (suc k) row less =
    from-firsts n (suc s) spaces k row.1 (omega (arith, less)) ∙ ap (first_page n) (let one : suc s + k ≡ s + suc k = omega arith in one)

-- all of a store's spaces can be asked for pages
pub can-edit : (n : Numbers) (spaces : List SpaceView) → 1 ≤ n.spaces → AreFirst n n.spaces spaces →
    CanEdit n n.page (rest_of (solo_of n.page (space_pages n) spaces))
can-edit n spaces some first =
    let long : length (map (λ (v : SpaceView). v.first) spaces) ≡ n.spaces = length-map spaces (λ (v : SpaceView). v.first) ∙ first.long in
    record {
      page_is = refl;
      ready = record {
        store = record {
          page = refl;
          pages = refl;
          number = long;
          firsts = λ s less. from-firsts n 0 spaces s first.row (let all = first.long in omega (arith, all, less))
              ∙ ap (first_page n) (let same : 0 + s ≡ s = omega arith in same);
        };
        none = refl;
      };
      some = omega (arith, long, some);
    }

-- ---- how many pages are left and taken

pub left-count : (n old new : ℕ) → ◌≡◌ {A = List (List ℕ)} (replicate new []) (drop n (replicate old [])) → new ≡ old - n
left-count n old new same =
    sym (length-replicate new []) ∙ ap length same ∙ length-drop n (replicate old []) ∙ ap (λ (k : ℕ). k - n) (length-replicate old [])

pub front-count : (n old new : ℕ) → n ≤ old → ◌≡◌ {A = List (List ℕ)} (replicate new []) (take n (replicate old [])) → new ≡ n
front-count n old new enough same =
    let all = length-replicate {A = List ℕ} old [] in
    let is = length-take {A = List ℕ} n (replicate old []) in
    let has = sym (length-replicate new []) ∙ ap length same in
    omega (arith, all, is, has, enough)
