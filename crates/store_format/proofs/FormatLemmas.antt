-- A whole mount that is written, and comes back.
use Rattle.std.proofs.Common.{◌≡◌, ℕ, ◌+◌, ◌-◌, ◌*◌, ◌<◌, ◌≤◌, Bool, true}
use Rattle.std.proofs.Common.{false, IsTrue, List, [], ◌++◌, length, take, drop, map, replicate}
use Rattle.std.proofs.Common.{refl, sym, ap, subst, ◌∙◌, arith, Option, Some}
use Rattle.std.proofs.Common.{None, append-nil, unwrap_or, is_some, length-append, inl, inr, ◌⊎◌}
use Rattle.std.specs.List.{concat, list_all}
use Rattle.std.proofs.lemmas.List.{take_all, drop_all, length-replicate, length-take}
use Rattle.geometry_model.specs.Numbers.{Numbers, IsInRange, pages}
use Rattle.tree_model.specs.Tree.{Pages}
use Rattle.fault_count.specs.Counts.{Meter, HasCause, counted, Rose}
use Rattle.page_port.specs.Pages.{AreOf, IsSized}
use Rattle.page_port.specs.Device.{Device, IsOfMount, IsFront, after_mount, after_return, is_home, resized, returned_bytes, with_faults}
use Rattle.image_model.specs.Super.{image_page}
use Rattle.image_model.specs.Image.{image_pages}
use Rattle.store_format.specs.Rows.{row_page}
use Rattle.store_format.specs.Writing.{IsStoreWritten, IsCutShort}
use Rattle.store_format.specs.Formatting.{store_bytes, IsHalfFormatted, IsFormatted}
use Rattle.store_format.specs.Blank.{blank_directory, blank_front}
use Rattle.store_format.proofs.RowLemmas.{row-image, length-concat, all-back, home-back, bytes-back, out-away}
use Rattle.store_format.proofs.WritingLemmas.{written-alike, cut-alike, cut-before}
use Rattle.store_format.proofs.BlankLemmas.{blank-formatted}

-- all pages of the store came back with these contents, and the device has no byte besides
pub record CameBack (n : Numbers) (contents : List (List ℕ)) (d : Device) : Type 0 where
  pub home : IsTrue (is_home d)
  pub size : length d.bytes ≡ store_bytes n
  pub shown : (q : ℕ) → q < pages n → image_pages n d.bytes q ≡ row_page contents q

-- the mount is out, whole
pub record IsAllOut (n : Numbers) (d : Device) : Type 0 where
  pub mounted : d.mounted ≡ Some n.page
  pub out : d.pages ≡ replicate (pages n) None
  pub none : d.bytes ≡ []

pub mount-fits : (n : Numbers) (start : ℕ) (contents : List (List ℕ)) (d : Device) → IsAllOut n d → start ≡ 0 → length contents ≡ pages n →
    AreOf n.page contents → IsOfMount d start contents
mount-fits n start contents d all first long sized = record {
  range = omega (arith, first, long, ap length all.out, length-replicate {A = Option (List ℕ)} (pages n) None);
  sized = subst (λ (k : ℕ). AreOf k contents) (sym (ap (λ (m : Option ℕ). unwrap_or m 0) all.mounted)) sized;
}

pub whole-back : (n : Numbers) (start faults : ℕ) (contents : List (List ℕ)) (old new after : Device) → IsAllOut n old → start ≡ 0 →
    length contents ≡ pages n → AreOf n.page contents → new.pages ≡ after_return start contents old.pages →
    (is_home old ≡ false → IsTrue (is_home new) → new.bytes ≡ returned_bytes new.pages ++ old.bytes) → after ≡ with_faults new faults →
    CameBack n contents after
whole-back n start faults contents old new after all first long sized moved home counted =
    let back : new.pages ≡ map Some contents =
    moved ∙ (ap (λ (k : ℕ). after_return k contents old.pages) first
    ∙ (ap (after_return 0 contents) all.out ∙ all-back contents (pages n) long)) in
    let is_back : IsTrue (is_home new) =
    subst (λ (ps : List (Option (List ℕ))). IsTrue (list_all is_some ps)) (sym back) (home-back contents) in
    let away : is_home old ≡ false = out-away (pages n) old.pages (omega arith) all.out in
    let bytes : after.bytes ≡ concat contents =
    ap (λ (d : Device). d.bytes) counted
    ∙ (home away is_back
    ∙ (ap (λ (rest : List ℕ). returned_bytes new.pages ++ rest) all.none
    ∙ (append-nil (returned_bytes new.pages) ∙ (ap returned_bytes back ∙ bytes-back contents)))) in
    record {
      home = ap is_home counted ∙ is_back;
      size = ap length bytes ∙ (length-concat n.page contents sized ∙ ap (λ (k : ℕ). k * n.page) long);
      shown = λ q inside.
          ap (λ (xs : List ℕ). image_page n.page xs q) (bytes ∙ sym (append-nil (concat contents)))
          ∙ row-image n.page contents [] sized q (omega (arith, long, inside));
    }

-- ---- the mount before

pub front-shown : (n : Numbers) (bytes : List ℕ) (contents : List (List ℕ)) → length bytes ≡ store_bytes n → length contents ≡ pages n →
    AreOf n.page contents → concat contents ≡ take (n.page * pages n) bytes → (q : ℕ) → q < pages n →
    row_page contents q ≡ image_pages n bytes q
front-shown n bytes contents size long sized is q inside =
    let whole : concat contents ≡ bytes = is ∙ take_all (n.page * pages n) bytes (omega (arith, size)) in
    sym (ap (λ (xs : List ℕ). image_page n.page xs q) (sym whole ∙ sym (append-nil (concat contents)))
    ∙ row-image n.page contents [] sized q (omega (arith, long, inside)))

pub resized-same : (size : ℕ) (bytes : List ℕ) → length bytes ≡ size → resized size bytes ≡ bytes
resized-same size bytes long =
    let none : size - length bytes ≡ 0 = omega (arith, long) in
    ap (λ (xs : List ℕ). xs ++ replicate (size - length bytes) 0) (take_all size bytes (omega (arith, long)))
    ∙ (ap (λ (k : ℕ). bytes ++ replicate k 0) none ∙ append-nil bytes)

pub length-resized : (size : ℕ) (bytes : List ℕ) → length (resized size bytes) ≡ size
length-resized size bytes =
    omega (
      arith,
      length-append (take size bytes) (replicate (size - length bytes) 0),
      length-take size bytes,
      length-replicate {A = ℕ} (size - length bytes) 0,
    )

-- ---- what was written on the mount, as bytes

pub mount-formatted : (n : Numbers) (was : List ℕ) (old : List (List ℕ)) (d : Device) → IsInRange n → length was ≡ store_bytes n →
    ((q : ℕ) → q < pages n → row_page old q ≡ image_pages n was q) →
    IsStoreWritten n (blank_directory n) (blank_front n) (row_page old) (image_pages n d.bytes) → length d.bytes ≡ store_bytes n →
    IsFormatted n was d.bytes
mount-formatted n was old d range long before written size =
    blank-formatted n was d.bytes range size
    (written-alike n (blank_directory n) (blank_front n) (row_page old) (image_pages n (resized (store_bytes n) was))
    (image_pages n d.bytes) (image_pages n d.bytes)
    (λ q inside. ap (λ (xs : List ℕ). image_page n.page xs q) (resized-same (store_bytes n) was long) ∙ sym (before q inside))
    (λ q inside. refl) written)

pub mount-cut : (n : Numbers) (was : List ℕ) (old : List (List ℕ)) (d : Device) → length was ≡ store_bytes n →
    ((q : ℕ) → q < pages n → row_page old q ≡ image_pages n was q) →
    IsCutShort n (blank_directory n) (row_page old) (image_pages n d.bytes) → length d.bytes ≡ store_bytes n → IsHalfFormatted n was d.bytes
mount-cut n was old d long before cut size = record {
  size = size;
  written = cut-alike n (blank_directory n) (row_page old) (image_pages n (resized (store_bytes n) was))
      (image_pages n d.bytes) (image_pages n d.bytes)
      (λ q inside. ap (λ (xs : List ℕ). image_page n.page xs q) (resized-same (store_bytes n) was long) ∙ sym (before q inside))
      (λ q inside. refl) cut;
}

-- nothing was written
pub same-cut : (n : Numbers) (was now : List ℕ) → length was ≡ store_bytes n → now ≡ was → IsHalfFormatted n was now
same-cut n was now long same = record {
  size = ap length same ∙ long;
  written = cut-before n (blank_directory n) (image_pages n (resized (store_bytes n) was)) (image_pages n now)
      (λ q inside. ap (λ (xs : List ℕ). image_page n.page xs q) (same ∙ sym (resized-same (store_bytes n) was long)));
}

-- the same after the device's size was made the store's
pub prepared-formatted : (n : Numbers) (first now : List ℕ) → IsFormatted n (resized (store_bytes n) first) now → IsFormatted n first now
prepared-formatted n first now formatted =
    let long = length-resized (store_bytes n) first in
    record {
      size = formatted.size;
      image = formatted.image;
      version = formatted.version;
      opens = formatted.opens;
      written = subst (λ (xs : List ℕ). IsStoreWritten n (blank_directory n) (blank_front n) (image_pages n xs) (image_pages n now))
          (resized-same (store_bytes n) (resized (store_bytes n) first) long) formatted.written;
    }

pub prepared-cut : (n : Numbers) (first now : List ℕ) → IsHalfFormatted n (resized (store_bytes n) first) now → IsHalfFormatted n first now
prepared-cut n first now cut =
    let long = length-resized (store_bytes n) first in
    record {
      size = cut.size;
      written = subst (λ (xs : List ℕ). IsCutShort n (blank_directory n) (image_pages n xs) (image_pages n now))
          (resized-same (store_bytes n) (resized (store_bytes n) first) long) cut.written;
    }

-- the mount came back as it was
pub came-back-cut : (n : Numbers) (was : List ℕ) (old : List (List ℕ)) (d : Device) → length was ≡ store_bytes n →
    ((q : ℕ) → q < pages n → row_page old q ≡ image_pages n was q) → CameBack n old d → IsHalfFormatted n was d.bytes
came-back-cut n was old d long before back =
    mount-cut n was old d long before (cut-before n (blank_directory n) (row_page old) (image_pages n d.bytes) back.shown) back.size

-- what a mount of the whole store leaves
pub mounted-out : (n : Numbers) (first mounted after : Device) (size count faults last : ℕ) → size ≡ n.page → count ≡ pages n →
    length first.bytes ≡ store_bytes n → mounted ≡ after_mount first size count faults → after ≡ with_faults mounted last → IsAllOut n after
mounted-out n first mounted after size count faults last unit many long is stays =
    let none : drop (size * count) first.bytes ≡ [] =
    ap (λ (k : ℕ). drop (k * count) first.bytes) unit
    ∙ (ap (λ (k : ℕ). drop (n.page * k) first.bytes) many ∙ drop_all (n.page * pages n) first.bytes (omega (arith, long))) in
    record {
      mounted = ap (λ (d : Device). d.mounted) stays ∙ (ap (λ (d : Device). d.mounted) is ∙ ap Some unit);
      out = ap (λ (d : Device). d.pages) stays ∙ (ap (λ (d : Device). d.pages) is
          ∙ ap (λ (k : ℕ). replicate {A = Option (List ℕ)} k None) many);
      none = ap (λ (d : Device). d.bytes) stays ∙ (ap (λ (d : Device). d.bytes) is ∙ none);
    }

-- a count of faults, where a port that had none came back with some
pub failed-count : (failure : Type 0) (before mid port now : ℕ) → mid ≡ before → mid ≤ now → counted mid port ≤ now → Rose 0 port →
    failure →
    HasCause before now failure
failed-count failure before mid port now same never counts rose failed = record {
  kept = omega (arith, same, never);
  raised = λ _. omega (arith, same, counts, rose);
  still = λ not. absurd (not failed);
}

-- the same, where it came back with none
pub clean-count : (failure : Type 0) (before mid now : ℕ) → mid ≡ before → now ≡ mid → (failure → ⊥) → HasCause before now failure
clean-count failure before mid now same still none = record {
  kept = omega (arith, same, still);
  raised = λ failed. absurd (none failed);
  still = λ _. still ∙ same;
}
