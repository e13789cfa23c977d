-- The pages of a mount inside the bytes of the device.
use Rattle.std.proofs.Common.{◌≡◌, ℕ, ◌+◌, ◌*◌, ◌<◌, ◌≤◌, Bool, true, false, IsTrue, List, [], ◌∷◌, ◌++◌, length}
use Rattle.std.proofs.Common.{take, drop, set, map, refl, ap, sym, ◌∙◌, arith, Option, Some, None, is_some}
use Rattle.std.proofs.Common.{if◌then◌else◌, append_assoc, zero, suc, replicate, mul-le-mul_right, add-zero}
use Rattle.std.proofs.Common.{mul-zero}
use Rattle.std.specs.List.{list_all}
use Rattle.std.proofs.lemmas.List.{drop-drop, take-take, take-append-le, drop-append-le, drop-take, length-take-le}
use Rattle.std.proofs.lemmas.List.{length-drop, take_at, drop_at, take-append-drop, length-replicate, take_more_set}
use Rattle.std.proofs.lemmas.List.{drop-set-lt}
use Rattle.std.proofs.lemmas.Slice.{drop-put_mid}
use borrow.Rule.Slice.PartMut.{put_mid}
use Rattle.std.proofs.Math.Seq.{take-add}
use Rattle.page_port.specs.Device.{Device, is_home, after_prepare, after_mount, resized, after_return, returned_bytes}
use Rattle.page_port.specs.MemoryBay.{slots, all_back, told_bytes}

-- a device of these parts
abbrev pub device_of : List ℕ → List (Option (List ℕ)) → Option ℕ → ℕ → Device
device_of bytes pages mounted faults = record { bytes = bytes; pages = pages; mounted = mounted; faults = faults }

-- no page is out exactly where all are marked
pub home-slots : (size : ℕ) (back : List Bool) (whole : List ℕ) →
    list_all is_some (slots size back whole) ≡ all_back back
home-slots size [] whole = refl
home-slots size (true ∷ back) whole = home-slots size back (drop size whole)
home-slots size (false ∷ back) whole = refl

-- the bytes told while no page is out
pub told_bytes-home : (size : ℕ) (back : List Bool) (whole : List ℕ) →
    IsTrue (list_all is_some (slots size back whole)) → told_bytes size back whole ≡ whole
told_bytes-home size back whole home =
    let marked : all_back back ≡ true = sym (home-slots size back whole) ∙ home in
    ap (λ b. if b then whole else drop (size * length back) whole) marked

-- a device that a bay over memory shows, with no page out, has all bytes of the bay
pub home_bytes : (size : ℕ) (back : List Bool) (whole : List ℕ) (d : Device) → slots size back whole ≡ d.pages →
    told_bytes size back whole ≡ d.bytes → IsTrue (is_home d) → d.bytes ≡ whole
home_bytes size back whole d pages bytes home =
    let here : IsTrue (list_all is_some (slots size back whole)) = ap (list_all is_some) pages ∙ home in
    sym bytes ∙ told_bytes-home size back whole here

-- what the bay shows after its bytes were cut or filled up, with no mark left
pub shown-prepared : (size n faults : ℕ) (back : List Bool) (whole now : List ℕ) (mounted : Option ℕ) (d : Device) →
    back ≡ [] → now ≡ resized n whole → d.bytes ≡ whole → mounted ≡ d.mounted →
    device_of (told_bytes size back now) (slots size back now) mounted faults ≡ after_prepare d n faults
shown-prepared size n faults back whole now mounted d empty cut same stays =
    ap (λ b. device_of (told_bytes size b now) (slots size b now) mounted faults) empty
    ∙ ap (λ w. device_of w [] mounted faults) (cut ∙ ap (resized n) (sym same))
    ∙ ap (λ m. device_of (resized n d.bytes) [] m faults) stays

-- every page is out
slots-out : (size n : ℕ) (whole : List ℕ) → slots size (replicate n false) whole ≡ replicate n None
slots-out size zero whole = refl
slots-out size (suc n) whole = ap (λ (ps : List (Option (List ℕ))). None ∷ ps) (slots-out size n (drop size whole))

all_back-out : (n : ℕ) → 1 ≤ n → all_back (replicate n false) ≡ false
all_back-out zero some = absurd (omega arith)
all_back-out (suc n) some = refl

-- what the bay shows after a mount of n pages
pub shown-mounted : (size n faults : ℕ) (back : List Bool) (whole : List ℕ) (d : Device) → 1 ≤ n →
    back ≡ replicate n false → d.bytes ≡ whole →
    device_of (told_bytes size back whole) (slots size back whole) (Some size) faults ≡ after_mount d size n faults
shown-mounted size n faults back whole d some marks same =
    ap (λ b. device_of (told_bytes size b whole) (slots size b whole) (Some size) faults) marks
    ∙ ap (λ bytes. device_of bytes (slots size (replicate n false) whole) (Some size) faults)
    (ap (λ b. if b then whole else drop (size * length (replicate n false)) whole) (all_back-out n some)
    ∙ ap (λ k. drop (size * k) whole) (length-replicate n false) ∙ ap (drop (size * n)) (sym same))
    ∙ ap (λ pages. device_of (drop (size * n) d.bytes) pages (Some size) faults) (slots-out size n whole)

-- a page written behind the first `size` bytes leaves these
take-put : (size m : ℕ) (whole page : List ℕ) → size + m ≤ length whole →
    take size (put_mid (size + m) size whole page) ≡ take size whole
take-put size m whole page fits =
    take-append-le size (take (size + m) whole) _ (omega (arith, length-take-le (size + m) whole fits))
    ∙ take-take size (size + m) whole (omega arith)

drop-put : (size m : ℕ) (whole page : List ℕ) → size + m ≤ length whole →
    drop size (put_mid (size + m) size whole page) ≡ put_mid m size (drop size whole) page
drop-put size m whole page fits =
    drop-append-le size (take (size + m) whole) _ (omega (arith, length-take-le (size + m) whole fits))
    ∙ ap (λ front. front ++ (page ++ drop size (drop (size + m) whole))) (drop-take size m whole)
    ∙ ap (λ rest. take m (drop size whole) ++ (page ++ drop size rest)) (sym (drop-drop m size whole))

-- a page that comes back stands in its place
pub slots-put : (size n at : ℕ) (back : List Bool) (whole page : List ℕ) → at ≡ n * size → length page ≡ size →
    n < length back → size * length back ≤ length whole →
    slots size (set back n true) (put_mid at size whole page) ≡ set (slots size back whole) n (Some page)
slots-put size n at [] whole page is_at sized below fits = absurd (omega arith)
slots-put size zero at (b ∷ back) whole page is_at sized below fits =
    let start : at ≡ 0 = omega arith in
    ap (λ k. slots size (true ∷ back) (put_mid k size whole page)) start
    ∙ ap (λ p. Some p ∷ slots size back (drop size (page ++ drop size whole))) (take_at page (drop size whole) size sized)
    ∙ ap (λ w. Some page ∷ slots size back w) (drop_at page (drop size whole) size sized)
slots-put size (suc n) at (b ∷ back) whole page is_at sized below fits =
    let rows : (suc n + 1) * size ≤ length (b ∷ back) * size = mul-le-mul_right size (omega arith) in
    let room : size + n * size ≤ length whole = omega (arith, rows) in
    let start : at ≡ size + n * size = omega arith in
    ap (λ k. slots size (b ∷ set back n true) (put_mid k size whole page)) start
    ∙ ap (λ p. (if b then Some p else None) ∷ slots size (set back n true)
    (drop size (put_mid (size + n * size) size whole page))) (take-put size (n * size) whole page room)
    ∙ ap (λ w. (if b then Some (take size whole) else None) ∷ slots size (set back n true) w) (drop-put size (n * size) whole page room)
    ∙ ap (λ ps. (if b then Some (take size whole) else None) ∷ ps)
    (slots-put size n (n * size) back (drop size whole) page refl sized (omega arith) (omega (arith, length-drop size whole)))

-- a mark more leaves all marked
pub all_back-set : (back : List Bool) (n : ℕ) → IsTrue (all_back back) → IsTrue (all_back (set back n true))
all_back-set [] n h = h
all_back-set (true ∷ back) zero h = h
all_back-set (true ∷ back) (suc n) h = all_back-set back n h
all_back-set (false ∷ back) n h = absurd (cc)

-- the first of the pages that are still to come back
pub after_return-step : (first : ℕ) (page : List ℕ) (rest : List (List ℕ)) (pages : List (Option (List ℕ))) → first < length pages →
    after_return (first + 1) rest (set pages first (Some page)) ≡ after_return first (page ∷ rest) pages
after_return-step first page rest pages inside =
    ap (λ front. front ++ (map Some rest ++ drop (first + 1 + length rest) (set pages first (Some page))))
    (take_more_set pages first (Some page) inside)
    ∙ ap (λ behind. (take first pages ++ Some page ∷ []) ++ (map Some rest ++ behind))
    (drop-set-lt (first + 1 + length rest) pages first (Some page) (omega arith))
    ∙ ap (λ k. (take first pages ++ Some page ∷ []) ++ (map Some rest ++ drop k pages)) (omega arith)
    ∙ append_assoc (take first pages) (Some page ∷ []) (map Some rest ++ drop (first + suc (length rest)) pages)

pub after_return-nil : (first : ℕ) (pages : List (Option (List ℕ))) → after_return first [] pages ≡ pages
after_return-nil first pages =
    ap (λ k. take first pages ++ drop k pages) (add-zero first) ∙ take-append-drop first pages

-- the bytes of the pages, where all are back
pub returned_bytes-slots : (size : ℕ) (back : List Bool) (whole : List ℕ) → IsTrue (all_back back) →
    returned_bytes (slots size back whole) ≡ take (size * length back) whole
returned_bytes-slots size [] whole all = ap (λ k. take k whole) (sym (mul-zero size))
returned_bytes-slots size (false ∷ back) whole all = absurd (cc)
returned_bytes-slots size (true ∷ back) whole all =
    ap (λ bytes. take size whole ++ bytes) (returned_bytes-slots size back (drop size whole) all)
    ∙ sym (take-add size (size * length back) whole)
    ∙ ap (λ k. take k whole) (omega arith)

pub length-slots : (size : ℕ) (back : List Bool) (whole : List ℕ) → length (slots size back whole) ≡ length back
length-slots size [] whole = refl
length-slots size (b ∷ back) whole = ap suc (length-slots size back (drop size whole))

-- one page more is put back: what is left gives what it gave before, and the bytes behind stay
pub record PutsBack (size number : ℕ) (page : List ℕ) (rest : List (List ℕ)) (back : List Bool) (whole now : List ℕ) : Type 0 where
  pub left : after_return (number + 1) rest (slots size (set back number true) now)
      ≡ after_return number (page ∷ rest) (slots size back whole)
  pub behind : drop (size * length back) now ≡ drop (size * length back) whole

pub PutsBack-page : (size number : ℕ) (page : List ℕ) (rest : List (List ℕ)) (back : List Bool) (whole now : List ℕ) →
    length page ≡ size → number < length back → size * length back ≤ length whole →
    now ≡ take (number * size) whole ++ (page ++ drop (length page) (drop (number * size) whole)) →
    PutsBack size number page rest back whole now
PutsBack-page size number page rest back whole now sized below fits written =
    let rows : (number + 1) * size ≤ length back * size = mul-le-mul_right size (omega arith) in
    let room : number * size + size ≤ size * length back = omega (arith, rows) in
    let put : now ≡ put_mid (number * size) size whole page =
    written ∙ ap (λ k. take (number * size) whole ++ (page ++ drop k (drop (number * size) whole))) sized in
    let inside : number < length (slots size back whole) = omega (arith, length-slots size back whole) in
    record {
      left =
          ap (λ w. after_return (number + 1) rest (slots size (set back number true) w)) put
          ∙ ap (after_return (number + 1) rest) (slots-put size number (number * size) back whole page refl sized below fits)
          ∙ after_return-step number page rest (slots size back whole) inside;
      behind =
          ap (drop (size * length back)) put
          ∙ drop-put_mid (number * size) size whole page (size * length back) room (omega (arith, room)) sized;
    }

-- pages that came back, in a bay that showed the device d before
pub record CameBack (size : ℕ) (back now_back : List Bool) (whole now : List ℕ) (d : Device) : Type 0 where
  pub pages : slots size back whole ≡ d.pages
  pub bytes : told_bytes size back whole ≡ d.bytes
  pub behind : drop (size * length back) now ≡ drop (size * length back) whole
  pub count : length now_back ≡ length back
  pub marks : IsTrue (all_back back) → IsTrue (all_back now_back)

-- what the device told while a page was out
told-out : (size : ℕ) (back : List Bool) (whole : List ℕ) → all_back back ≡ false →
    told_bytes size back whole ≡ drop (size * length back) whole
told-out size back whole out = ap (λ b. if b then whole else drop (size * length back) whole) out

-- with the last page, the device's bytes are those of the pages and then those behind them
pub CameBack-home : (size : ℕ) (back now_back : List Bool) (whole now : List ℕ) (d : Device) →
    CameBack size back now_back whole now d → is_home d ≡ false → IsTrue (list_all is_some (slots size now_back now)) →
    told_bytes size now_back now ≡ returned_bytes (slots size now_back now) ++ d.bytes
CameBack-home size back now_back whole now d h away home =
    let was : all_back back ≡ false = sym (home-slots size back whole) ∙ ap (list_all is_some) h.pages ∙ away in
    let all : all_back now_back ≡ true = sym (home-slots size now_back now) ∙ home in
    told_bytes-home size now_back now home
    ∙ sym (take-append-drop (size * length now_back) now)
    ∙ ap (λ front. front ++ drop (size * length now_back) now) (sym (returned_bytes-slots size now_back now all))
    ∙ ap (λ rest. returned_bytes (slots size now_back now) ++ rest)
    (ap (λ k. drop (size * k) now) h.count ∙ h.behind ∙ sym (told-out size back whole was) ∙ h.bytes)

-- until then, its bytes are those behind the pages
pub CameBack-away : (size : ℕ) (back now_back : List Bool) (whole now : List ℕ) (d : Device) →
    CameBack size back now_back whole now d → list_all is_some (slots size now_back now) ≡ false →
    told_bytes size now_back now ≡ d.bytes
CameBack-away size back now_back whole now d h away =
    let out : all_back now_back ≡ false = sym (home-slots size now_back now) ∙ away in
    let was : all_back back ≡ false = unmarked (all_back back) (all_back now_back) h.marks out in
    told-out size now_back now out ∙ ap (λ k. drop (size * k) now) h.count ∙ h.behind ∙ sym (told-out size back whole was) ∙ h.bytes
  where
    unmarked : (a b : Bool) → (IsTrue a → IsTrue b) → b ≡ false → a ≡ false
    unmarked true b f out = absurd (let t = f refl in cc)
    unmarked false b f out = refl
