-- The entries of parts on their runs, and what the last of these runs has beyond its need.
use Rattle.std.proofs.Common.{◌≡◌, ℕ, zero, suc, ◌-◌, ◌*◌, ◌<◌, ◌≤◌, ◌^◌, min, List, [], ◌∷◌, ◌++◌, length, map, take, drop}
use Rattle.std.proofs.Common.{Option, None, refl, sym, ap, subst, arith, ◌∙◌, append_assoc}
use Rattle.std.proofs.lemmas.List.{append-nil}
use Rattle.tree_model.specs.declared.entry.Pair.{Pair}
use Rattle.tree_model.specs.Tree.{page_count}
use Rattle.layout_model.specs.declared.extent.Extent.{Extent}
use Rattle.layout_model.specs.Layout.{laid_parts, left_over, segments_on, spare_behind}
use Rattle.layout_model.specs.Plan.{made_part_bytes}
use Rattle.edit_parts.specs.declared.part.Part.{Part}
use Rattle.edit_parts.specs.declared.part.Part.TheVariants.{Keep, Make}
use Rattle.edit_parts.specs.declared.piece.Piece.{Piece}
use Rattle.edit_parts.specs.Parts.{layout_part}
use Rattle.edit_parts.specs.Pieces.{pieces_bytes}
use Rattle.part_store.specs.Asking.{rows}
use Rattle.held_parts.specs.Entries.{AreLowRuns, HaveRuns}

-- ---- segments on runs

pub segments-more : (size left room : ℕ) (left_runs rest : List Extent) (run : Extent) (had now all : List Pair) (p : Pair) →
    left_runs ≡ run ∷ rest → room ≡ run.pages * size → p ≡ record { bytes = min left room; page = run.page } → now ≡ had ++ p ∷ [] →
    had ++ segments_on size left left_runs ≡ all → now ++ segments_on size (left - room) rest ≡ all
segments-more size left room left_runs rest run had now all p e room_is p_is now_is so_far =
    let step : segments_on size left left_runs ≡ p ∷ segments_on size (left - room) rest =
    ap (segments_on size left) e
    ∙ (ap (λ (k : ℕ). record { bytes = min left k; page = run.page } ∷ segments_on size (left - k) rest) (sym room_is)
    ∙ ap (λ (q : Pair). q ∷ segments_on size (left - room) rest) (sym p_is)) in
    ap (λ (xs : List Pair). xs ++ segments_on size (left - room) rest) now_is
    ∙ (append_assoc had (p ∷ []) (segments_on size (left - room) rest)
    ∙ (ap (λ (xs : List Pair). had ++ xs) (sym step) ∙ so_far))

-- ---- parts

-- the entries of the parts before those that are left are there, and these have their runs
pub record IsLaying (size : ℕ) (parts left : List Part) (counts left_counts : List ℕ) (runs left_runs : List Extent) (entries : List Pair)
    : Type 0 where
  pub all : entries ++ laid_parts size (map layout_part left) (rows left_counts left_runs)
      ≡ laid_parts size (map layout_part parts) (rows counts runs)
  pub have : HaveRuns left left_counts left_runs

pub laying-none : (size : ℕ) (parts : List Part) (counts : List ℕ) (runs : List Extent) → HaveRuns parts counts runs →
    IsLaying size parts parts counts counts runs runs []
laying-none size parts counts runs have = record { all = refl; have = have }

pub laying-kept : (size : ℕ) (parts left rest : List Part) (pair : Pair) (counts left_counts : List ℕ) (runs left_runs : List Extent)
    (entries now : List Pair) → left ≡ Keep pair ∷ rest → now ≡ entries ++ pair ∷ [] →
    IsLaying size parts left counts left_counts runs left_runs entries → IsLaying size parts rest counts left_counts runs left_runs now
laying-kept size parts left rest pair counts left_counts runs left_runs entries now e is laying = record {
  all =
      let more = laid_parts size (map layout_part rest) (rows left_counts left_runs) in
      ap (λ (xs : List Pair). xs ++ more) is
      ∙ (append_assoc entries (pair ∷ []) more
      ∙ (ap (λ (ps : List Part). entries ++ laid_parts size (map layout_part ps) (rows left_counts left_runs)) (sym e) ∙ laying.all));
  have = subst (λ (ps : List Part). HaveRuns ps left_counts left_runs) e laying.have;
}

-- what is asked of the next made part
pub record HasNext (pieces : List Piece) (rest : List Part) (k : ℕ) (rest_counts : List ℕ) (left_runs : List Extent) : Type 0 where
  pub within : k ≤ length left_runs
  pub few : pieces_bytes pieces < 2 ^ 63
  pub behind : HaveRuns rest rest_counts (drop k left_runs)

pub some-counts : (left rest : List Part) (pieces : List Piece) (left_counts : List ℕ) (left_runs : List Extent) →
    left ≡ Make pieces ∷ rest → HaveRuns left left_counts left_runs → 0 < length left_counts
some-counts left rest pieces left_counts left_runs e have =
    by_counts left_counts (subst (λ (ps : List Part). HaveRuns ps left_counts left_runs) e have)
  where
    by_counts : (cs : List ℕ) → HaveRuns (Make pieces ∷ rest) cs left_runs → 0 < length cs
    by_counts [] can = absurd can
    by_counts (c ∷ cs) can = omega arith

pub next-made : (left rest : List Part) (pieces : List Piece) (k : ℕ) (left_counts rest_counts : List ℕ) (left_runs : List Extent) →
    left ≡ Make pieces ∷ rest → left_counts ≡ k ∷ rest_counts → HaveRuns left left_counts left_runs →
    HasNext pieces rest k rest_counts left_runs
next-made left rest pieces k left_counts rest_counts left_runs e f have =
    let can = subst (λ (cs : List ℕ). HaveRuns (Make pieces ∷ rest) cs left_runs) f
    (subst (λ (ps : List Part). HaveRuns ps left_counts left_runs) e have) in
    record { within = can.0; few = can.1; behind = can.2 }

pub laying-made : (size bytes : ℕ) (parts left rest : List Part) (pieces : List Piece) (k : ℕ) (counts left_counts rest_counts : List ℕ)
    (runs left_runs : List Extent) (entries now : List Pair) → left ≡ Make pieces ∷ rest → left_counts ≡ k ∷ rest_counts →
    bytes ≡ pieces_bytes pieces → now ≡ entries ++ segments_on size bytes (take k left_runs) →
    IsLaying size parts left counts left_counts runs left_runs entries →
    IsLaying size parts rest counts rest_counts runs (drop k left_runs) now
laying-made size bytes parts left rest pieces k counts left_counts rest_counts runs left_runs entries now e f bytes_are is laying = record {
  all =
      let more = laid_parts size (map layout_part rest) (rows rest_counts (drop k left_runs)) in
      let own = segments_on size bytes (take k left_runs) in
      let step : laid_parts size (map layout_part left) (rows left_counts left_runs) ≡ own ++ more =
      ap (λ (ps : List Part). laid_parts size (map layout_part ps) (rows left_counts left_runs)) e
      ∙ (ap (λ (cs : List ℕ). laid_parts size (map layout_part (Make pieces ∷ rest)) (rows cs left_runs)) f
      ∙ ap (λ (b : ℕ). segments_on size b (take k left_runs) ++ more) (sym bytes_are)) in
      ap (λ (xs : List Pair). xs ++ more) is
      ∙ (append_assoc entries own more ∙ (ap (λ (xs : List Pair). entries ++ xs) (sym step) ∙ laying.all));
  have = (next-made left rest pieces k left_counts rest_counts left_runs e f laying.have).behind;
}

pub laying-at : (size : ℕ) (parts left : List Part) (counts left_counts counts' : List ℕ) (runs left_runs runs' : List Extent)
    (entries entries' : List Pair) → counts' ≡ left_counts → runs' ≡ left_runs → entries' ≡ entries →
    IsLaying size parts left counts left_counts runs left_runs entries → IsLaying size parts left counts counts' runs runs' entries'
laying-at size parts left counts left_counts counts' runs left_runs runs' entries entries' a b d laying =
    subst (λ (es : List Pair). IsLaying size parts left counts counts' runs runs' es) (sym d)
    (subst (λ (rs : List Extent). IsLaying size parts left counts counts' runs rs entries) (sym b)
    (subst (λ (cs : List ℕ). IsLaying size parts left counts cs runs left_runs entries) (sym a) laying))

pub laying-all : (size : ℕ) (parts : List Part) (counts left_counts : List ℕ) (runs left_runs : List Extent) (entries : List Pair) →
    IsLaying size parts [] counts left_counts runs left_runs entries → entries ≡ laid_parts size (map layout_part parts) (rows counts runs)
laying-all size parts counts left_counts runs left_runs entries laying = sym (append-nil entries) ∙ laying.all

-- ---- the spare behind the last part

-- what is spare behind these parts, where `spare` is so behind those before them
abbrev pub spare_from : ℕ → Option Extent → List ℕ → List (List Extent) → Option Extent
spare_from size spare [] runs = spare
spare_from size spare (bytes ∷ rest) runs = spare_behind size (bytes ∷ rest) runs

pub record IsSparing (size : ℕ) (parts left : List Part) (counts left_counts : List ℕ) (runs left_runs : List Extent)
    (spare : Option Extent) : Type 0 where
  pub all : spare_from size spare (made_part_bytes (map layout_part left)) (rows left_counts left_runs)
      ≡ spare_behind size (made_part_bytes (map layout_part parts)) (rows counts runs)
  pub have : HaveRuns left left_counts left_runs
  pub whole : length left_counts ≡ length (made_part_bytes (map layout_part left))
  pub low : AreLowRuns left_runs

pub sparing-none : (size : ℕ) (parts : List Part) (counts : List ℕ) (runs : List Extent) → HaveRuns parts counts runs →
    length counts ≡ length (made_part_bytes (map layout_part parts)) → AreLowRuns runs →
    IsSparing size parts parts counts counts runs runs None
sparing-none size parts counts runs have whole low =
    record { all = start (made_part_bytes (map layout_part parts)); have = have; whole = whole; low = low }
  where
    start : (bytes : List ℕ) → spare_from size None bytes (rows counts runs) ≡ spare_behind size bytes (rows counts runs)
    start [] = refl
    start (b ∷ bs) = refl

pub sparing-kept : (size : ℕ) (parts left rest : List Part) (pair : Pair) (counts left_counts : List ℕ) (runs left_runs : List Extent)
    (spare : Option Extent) → left ≡ Keep pair ∷ rest → IsSparing size parts left counts left_counts runs left_runs spare →
    IsSparing size parts rest counts left_counts runs left_runs spare
sparing-kept size parts left rest pair counts left_counts runs left_runs spare e sparing =
    subst (λ (ps : List Part). IsSparing size parts ps counts left_counts runs left_runs spare →
    IsSparing size parts rest counts left_counts
    runs left_runs spare) (sym e) (λ s. record { all = s.all; have = s.have; whole = s.whole; low = s.low }) sparing

-- the counts of parts that are left are as many as the rows
rows-long : (counts : List ℕ) (runs : List Extent) → length (rows counts runs) ≡ length counts
rows-long [] runs = refl
rows-long (k ∷ counts) runs = ap suc (rows-long counts (drop k runs))

next-spare : (size bytes : ℕ) (spare : Option Extent) (row : List Extent) (bs : List ℕ) (rs : List (List Extent)) →
    length rs ≡ length bs → spare_behind size (bytes ∷ bs) (row ∷ rs) ≡ spare_from size (left_over (page_count size bytes) row) bs rs
next-spare size bytes spare row [] [] long = refl
next-spare size bytes spare row [] (r ∷ rs) long = cc
next-spare size bytes spare row (b ∷ bs) [] long = cc
next-spare size bytes spare row (b ∷ bs) (r ∷ rs) long = refl

low-drop : (k : ℕ) (runs : List Extent) → AreLowRuns runs → AreLowRuns (drop k runs)
low-drop zero runs low = low
low-drop (suc k) [] low = tt
low-drop (suc k) (run ∷ runs) low = low-drop k runs low.1

low-take : (k : ℕ) (runs : List Extent) → AreLowRuns runs → AreLowRuns (take k runs)
low-take zero runs low = tt
low-take (suc k) [] low = tt
low-take (suc k) (run ∷ runs) low = (low.0, low-take k runs low.1)

pub own-low : (k : ℕ) (left_runs own : List Extent) → own ≡ take k left_runs → AreLowRuns left_runs → AreLowRuns own
own-low k left_runs own is low = subst AreLowRuns (sym is) (low-take k left_runs low)

pub sparing-made : (size : ℕ) (parts left rest : List Part) (pieces : List Piece) (k : ℕ) (counts left_counts rest_counts : List ℕ)
    (runs left_runs : List Extent) (spare now : Option Extent) → left ≡ Make pieces ∷ rest → left_counts ≡ k ∷ rest_counts →
    now ≡ left_over (page_count size (pieces_bytes pieces)) (take k left_runs) →
    IsSparing size parts left counts left_counts runs left_runs spare →
    IsSparing size parts rest counts rest_counts runs (drop k left_runs) now
sparing-made size parts left rest pieces k counts left_counts rest_counts runs left_runs spare now e f is sparing =
    let bs = made_part_bytes (map layout_part rest) in
    let rs = rows rest_counts (drop k left_runs) in
    let here = ap (λ (ps : List Part). made_part_bytes (map layout_part ps)) e in
    let long : suc (length rest_counts) ≡ suc (length bs) = sym (ap length f) ∙ (sparing.whole ∙ ap length here) in
    let few : length rest_counts ≡ length bs = omega (arith, long) in
    record {
      all = ap (λ (o : Option Extent). spare_from size o bs rs) is
          ∙ (sym (next-spare size (pieces_bytes pieces) spare (take k left_runs) bs rs (rows-long rest_counts (drop k left_runs) ∙ few))
          ∙ (ap (λ (cs : List ℕ). spare_behind size (pieces_bytes pieces ∷ bs) (rows cs left_runs)) (sym f)
          ∙ (ap (λ (ns : List ℕ). spare_from size spare ns (rows left_counts left_runs)) (sym here) ∙ sparing.all)));
      have = (next-made left rest pieces k left_counts rest_counts left_runs e f sparing.have).behind;
      whole = few;
      low = low-drop k left_runs sparing.low;
    }

pub sparing-at : (size : ℕ) (parts left : List Part) (counts left_counts counts' : List ℕ) (runs left_runs runs' : List Extent)
    (spare spare' : Option Extent) → counts' ≡ left_counts → runs' ≡ left_runs → spare' ≡ spare →
    IsSparing size parts left counts left_counts runs left_runs spare → IsSparing size parts left counts counts' runs runs' spare'
sparing-at size parts left counts left_counts counts' runs left_runs runs' spare spare' a b d sparing =
    subst (λ (o : Option Extent). IsSparing size parts left counts counts' runs runs' o) (sym d)
    (subst (λ (rs : List Extent). IsSparing size parts left counts counts' runs rs spare) (sym b)
    (subst (λ (cs : List ℕ). IsSparing size parts left counts cs runs left_runs spare) (sym a) sparing))

pub sparing-all : (size : ℕ) (parts : List Part) (counts left_counts : List ℕ) (runs left_runs : List Extent) (spare : Option Extent) →
    IsSparing size parts [] counts left_counts runs left_runs spare →
    spare ≡ spare_behind size (made_part_bytes (map layout_part parts)) (rows counts runs)
sparing-all size parts counts left_counts runs left_runs spare sparing = sparing.all
