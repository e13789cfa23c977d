-- What the holdings keep over each call: their pieces, their room, and what the pages hold.
use Rattle.std.proofs.Common.{◌≡◌, ℕ, zero, suc, ◌+◌, ◌-◌, ◌*◌, ◌/◌, ◌<◌, ◌≤◌, List, [], ◌∷◌}
use Rattle.std.proofs.Common.{◌++◌, length, take, drop, get_or, set, refl, sym, ap, subst, ◌∙◌, inl, inr, arith}
use Rattle.std.proofs.Common.{length-append}
use Rattle.std.specs.Prelude.{◌==◌, ◌||◌, if◌then◌else◌, is_some, min}
use Rattle.std.proofs.lemmas.List.{get_or_default, length-set}
use Rattle.std.proofs.lemmas.Bool.{cases_lt, false≢true}
use Rattle.span_store.specs.Held.{HeldSpan, Held, IsEmpty, LacksRun, begins_in, page_at, page_in}
use Rattle.span_store.specs.Order.{InOrder, IsBorder, IsOver, as_one, back_part, first_at, front_part, no_span, with_cut, with_join}
use Rattle.span_store.specs.Calls.{IsAdded, IsCutAt, IsJoined, IsRemoved}
use Rattle.span_store.specs.Pieces.{AreWithinLimit, IsFiled, AreEnough, IsCutIn, IsInserted, IsStocked, IsSameRow, IsSameUpTo}
use Rattle.span_store.specs.Pieces.{above_half, load, piece_at, rank_of, spans_in}
use Rattle.span_store.proofs.SpanLists.{IsIn, page_of-inside}
use Rattle.span_store.proofs.Holds.{add_made, cut_made, remove_made}
use Rattle.span_store.proofs.Joins.{join_made}
use Rattle.span_store.proofs.Overwrites.{InOrder-shape}
use Rattle.span_store.proofs.Filed.{IsTaken}
use Rattle.span_store.proofs.InPieces.{above_most, above_set, filled_set, load_some, room_more}

-- the value that was read from a list
pub piece_read : (ps : List (List HeldSpan)) (i : ℕ) (p : List HeldSpan) → i < length ps → p ≡ get_or ps i p → p ≡ piece_at ps i
piece_read ps i p within read = read ∙ get_or_default ps i p [] within

-- a row of pieces after a change
pub row_made : (ps spare qs left : List (List HeldSpan)) (a b c d : ℕ) → IsStocked ps spare a b → AreWithinLimit qs → spans_in left ≡ [] →
    length qs + length left ≤ length ps + length spare → a ≤ c → b ≤ d → IsStocked qs left c d
row_made ps spare qs left a b c d row filled empty count more more_back =
    let fits = row.fits in
    let fits_back = row.fits_back in
    record {
      filled = filled;
      empty = empty;
      fits = omega (arith, fits, count, more);
      fits_back = omega (arith, fits_back, count, more_back);
    }

-- one of its pieces has one span more
pub grown_filled : (ps : List (List HeldSpan)) (i : ℕ) (q : List HeldSpan) → AreWithinLimit ps → i < length ps →
    length (piece_at ps i) < 128 → length q ≡ length (piece_at ps i) + 1 → AreWithinLimit (set ps i q)
grown_filled ps i q filled within free count = filled_set ps i q filled within (omega (arith, count)) (omega (arith, count, free))

pub grown_room : (ps : List (List HeldSpan)) (i spare n : ℕ) (q : List HeldSpan) → i < length ps →
    length q ≡ length (piece_at ps i) + 1 → AreEnough spare (load ps + 1) n → AreEnough spare (load (set ps i q)) n
grown_room ps i spare n q within count room =
    let above = above_set ps i q within in
    let long = length-set ps i q in
    let old = load_some ps i within in
    let new = load_some (set ps i q) i (omega (arith, within, long)) in
    room_more spare spare (load ps + 1) (load (set ps i q)) n room (omega arith) (omega (arith, above, count, old, new))

-- room for n spans, where so many spare pieces are wanted
load_most : (ps : List (List HeldSpan)) → AreWithinLimit ps → load ps ≤ 64 * length ps + 64
load_most [] filled = omega arith
load_most (p ∷ ps) filled = let most = above_most (p ∷ ps) filled in omega (arith, most)

pub wanted_room : (ps : List (List HeldSpan)) (spare n wanted : ℕ) → AreWithinLimit ps → wanted ≡ min n (n / 64 + 2 + length ps) →
    wanted ≤ spare → AreEnough spare (load ps) n
wanted_room ps spare n wanted filled e more =
    let loaded = load_most ps filled in
    elim (cases_lt n (n / 64 + 2 + length ps)) [
      | inl few ↦ inl (omega (arith, e, few, more))
      | inr many ↦ inr (omega (arith, e, many, more, loaded))
    ]

-- room once a span was taken out, where its piece stays, and where it is spare
pub taken_room : (ps now : List (List HeldSpan)) (spare left n i : ℕ) → i < length ps → above_half now ≤ above_half ps →
    length now + left ≡ length ps + spare → length now ≤ length ps → AreEnough spare (load ps) n → AreEnough left (load now) n
taken_room ps [] spare left n i within less count fewer room =
    let old = load_some ps i within in
    elim room [ inl few ↦ inl (omega (arith, few, count, within)) | inr many ↦ inr (omega (arith, many, count, within, old)) ]
taken_room ps (q ∷ now) spare left n i within less count fewer room =
    let old = load_some ps i within in
    room_more spare left (load ps) (load (q ∷ now)) n room (omega (arith, count, fewer)) (omega (arith, less, old))

-- a row with one span less
pub record IsOut (ps spare now left : List (List HeldSpan)) (i j c d : ℕ) : Type 0 where
  pub row : IsStocked now left c d
  pub spans : spans_in now ≡ take (rank_of ps i j) (spans_in ps) ++ drop (rank_of ps i j + 1) (spans_in ps)
  pub before : IsSameUpTo i j ps now
  pub room : (n : ℕ) → AreEnough (length spare) (load ps) n → AreEnough (length left) (load now) n

pub out_made : (ps spare now left : List (List HeldSpan)) (i j a b c d : ℕ) → IsStocked ps spare a b → i < length ps → IsTaken ps now i j →
    spans_in left ≡ [] → length now + length left ≡ length ps + length spare → length now ≤ length ps → a ≤ c → b ≤ d →
    IsOut ps spare now left i j c d
out_made ps spare now left i j a b c d row within taken empty count fewer more more_back = record {
  row = row_made ps spare now left a b c d row taken.filled empty (omega (arith, count)) more more_back;
  spans = taken.spans;
  before = taken.before;
  room = λ n room. taken_room ps now (length spare) (length left) n i within taken.above count fewer room;
}

-- a row whose pieces are as full as before
pub row_same : (ps spare qs : List (List HeldSpan)) (a b c : ℕ) → IsStocked ps spare a b → IsSameRow ps qs → a ≤ c → IsStocked qs spare c b
row_same ps spare qs a b c row same more =
    let count = same.count in
    row_made ps spare qs spare a b c b row (same.filled row.filled) row.empty (omega (arith, count)) more (omega arith)

-- a span more
pub added_in : (rows now : List HeldSpan) (w : Held) (r : HeldSpan) (n m : ℕ) → record { spans = rows; room = length rows + n } ≡ w →
    InOrder 0 rows → IsInserted r rows now → 1 ≤ length r.pages → LacksRun w r.first (length r.pages) → n ≡ m + 1 →
    InOrder 0 now × IsAdded r w (record { spans = now; room = length now + m })
added_in rows now w r n m view order put some lacks e =
    let all = add_made rows now w r put.place (length rows + n) view order put.rank some lacks put.spans in
    let count = all.1.count in
    let old : length w.spans ≡ length rows = sym (ap (λ (h : Held). length h.spans) view) in
    let same : length rows + n ≡ length now + m = omega (arith, count, old, e) in
    (all.0, subst (λ (k : ℕ). IsAdded r w (record { spans = now; room = k })) same all.1)

-- a span less
pub removed_in : (rows now : List HeldSpan) (w : Held) (r : HeldSpan) (k n : ℕ) → record { spans = rows; room = length rows + n } ≡ w →
    InOrder 0 rows → k < length rows → get_or rows k no_span ≡ r → now ≡ take k rows ++ drop (k + 1) rows →
    InOrder 0 now × IsRemoved r w (record { spans = now; room = length now + n })
removed_in rows now w r k n view order within here e =
    let next : k + 1 ≡ suc k = omega arith in
    let is : now ≡ take k rows ++ drop (suc k) rows = e ∙ ap (λ (j : ℕ). take k rows ++ drop j rows) next in
    let any = remove_made rows now w r k (length rows + n) (length rows + n) view order within here is (omega arith) in
    let count = any.1.count in
    let old : length w.spans ≡ length rows = sym (ap (λ (h : Held). length h.spans) view) in
    remove_made rows now w r k (length rows + n) (length now + n) view order within here is (omega (arith, count, old))

-- two spans that are one
pub joined_in : (rows now : List HeldSpan) (w : Held) (i n page : ℕ) → record { spans = rows; room = length rows + n } ≡ w →
    InOrder 0 rows → IsBorder rows page i → now ≡ with_join rows i →
    InOrder 0 now × IsJoined page w (record { spans = now; room = length now + n })
joined_in rows now w i n page view order met is =
    let count = joined_count rows i met.within in
    let less : length rows + n ≤ length now + n + 1 = omega (arith, count, ap length is) in
    join_made rows now w i (length rows + n) (length now + n) page view order met is less
  where
    joined_count : (xs : List HeldSpan) (i : ℕ) → i + 1 < length xs → length (with_join xs i) + 1 ≡ length xs
    joined_count xs i within = count_join xs i (as_one (get_or xs i no_span) (get_or xs (suc i) no_span)) within
      where
        count_join : (xs : List HeldSpan) (i : ℕ) (s : HeldSpan) → i + 1 < length xs →
            length (take i xs ++ (s ∷ drop (suc (suc i)) xs)) + 1 ≡ length xs
        count_join [] i s within = absurd (omega arith)
        count_join (x ∷ []) i s within = absurd (omega arith)
        count_join (x ∷ y ∷ xs) zero s within = omega arith
        count_join (x ∷ y ∷ xs) (suc i) s within = let e = count_join (y ∷ xs) i s (omega arith) in omega (arith, e)

-- a list with a span cut is longer by one
pub cut_length : (p : List HeldSpan) (k n : ℕ) → k < length p → length (with_cut p k n) ≡ length p + 1
cut_length p k n within =
    count p k (front_part (get_or p k no_span) n) (back_part (get_or p k no_span) n) within
  where
    count : (p : List HeldSpan) (k : ℕ) (s t : HeldSpan) → k < length p → length (take k p ++ (s ∷ t ∷ drop (suc k) p)) ≡ length p + 1
    count [] k s t within = absurd (omega arith)
    count (x ∷ p) zero s t within = omega arith
    count (x ∷ p) (suc k) s t within = let e = count p k s t (omega (arith, within)) in omega (arith, e)

-- a span that is two
pub cut_at_in : (rows now : List HeldSpan) (w : Held) (page k n : ℕ) → record { spans = rows; room = n } ≡ w → InOrder 0 rows →
    IsCutIn page rows now → InOrder 0 now × IsCutAt page w (record { spans = now; room = k })
cut_at_in rows now w page k n view order cut =
    let from = cut.from in
    let here : IsIn rows cut.place page = record { within = cut.within; from = omega (arith, from); to = cut.to } in
    cut_made rows now w cut.place (page - first_at rows cut.place) n k page view order here refl (omega (arith, from)) cut.spans

-- and where v, which has the spans of w, has room for one more, which is used
pub record IsCutMore (now : List HeldSpan) (w : Held) (page n : ℕ) : Type 0 where
  pub order : InOrder 0 now
  pub some : 1 ≤ n
  pub cut : IsCutAt page w (record { spans = now; room = length now + (n - 1) })
  pub room : w.room ≤ length now + (n - 1)

pub cut_more : (rows now : List HeldSpan) (w v : Held) (page n : ℕ) → record { spans = rows; room = length rows + n } ≡ v →
    v.spans ≡ w.spans → w.room ≤ v.room → length v.spans + 1 ≤ v.room → InOrder 0 rows → IsCutIn page rows now → IsCutMore now w page n
cut_more rows now w v page n view same more some order cut =
    let e : rows ≡ w.spans = ap (λ (h : Held). h.spans) view ∙ same in
    let room : length rows + n ≡ v.room = ap (λ (h : Held). h.room) view in
    let count : length rows ≡ length v.spans = ap (λ (h : Held). length h.spans) view in
    let made = cut_at_in rows now (record { spans = rows; room = 0 }) page (length now + (n - 1)) 0 refl order cut in
    let its = made.1 in
    let longer : length now ≡ length rows + 1 = ap length cut.spans ∙ cut_length rows cut.place (page - first_at rows cut.place)
    cut.within in
    let least : 1 ≤ n = omega (arith, room, count, some) in
    record {
      order = made.0;
      some = least;
      cut = record {
        pages = λ q. its.pages q ∙ ap (λ (xs : List HeldSpan). page_in xs q) e;
        begun = λ q. its.begun q ∙ ap (λ (xs : List HeldSpan). (page == q) || begins_in xs q) e;
        count = its.count ∙ ap (λ (xs : List HeldSpan). if begins_in xs page then length xs else length xs + 1) e;
      };
      room = omega (arith, more, room, longer, least);
    }

-- the room that is left
pub free_is : (rows : List HeldSpan) (w : Held) (n : ℕ) → record { spans = rows; room = length rows + n } ≡ w → w.room ≡ length w.spans + n
free_is rows w n view =
    let spans = ap (λ (h : Held). length h.spans) view in
    let room = ap (λ (h : Held). h.room) view in
    omega (arith, spans, room)

-- what the holdings keep where the pieces stay
pub pieces_kept : (ps spare qs left : List (List HeldSpan)) (a b c d n m : ℕ) → IsFiled ps spare a b n → qs ≡ ps → IsStocked qs left c d →
    AreEnough (length left) (load ps) m → IsFiled qs left c d m
pieces_kept ps spare qs left a b c d n m kept same row room = record {
  order = subst (λ (xs : List (List HeldSpan)). InOrder 0 (spans_in xs)) (sym same) kept.order;
  row = row;
  room = subst (λ (xs : List (List HeldSpan)). AreEnough (length left) (load xs) m) (sym same) room;
}

-- some spans are held where there is a piece
pub some_held : (ps : List (List HeldSpan)) → AreWithinLimit ps → 1 ≤ length ps → 0 < length (spans_in ps)
some_held [] filled some = absurd (omega (arith, some))
some_held (p ∷ ps) filled some =
    let least = filled.0 in
    let all = length-append p (spans_in ps) in
    omega (arith, least, all)

-- what the holdings keep where pages were written
pub written_kept : (ps spare qs : List (List HeldSpan)) (a b c n first count : ℕ) → IsFiled ps spare a b n →
    IsOver first count (spans_in ps) (spans_in qs) → IsSameRow ps qs → a ≤ c → IsFiled qs spare c b n
written_kept ps spare qs a b c n first count kept over row more =
    record {
      order = InOrder-shape 0 (spans_in ps) (spans_in qs) over.shape kept.order;
      row = row_same ps spare qs a b c kept.row row more;
      room = subst (λ (k : ℕ). AreEnough (length spare) k n) (sym row.loaded) kept.room;
    }

-- where a span is taken out, some page was held
pub not_empty : (w new : Held) (r : HeldSpan) → IsRemoved r w new → IsEmpty w → ⊥
not_empty w new r out nothing =
    let some = out.some in
    let here = page_of-inside r r.first (omega arith) (omega (arith, some)) in
    let held = out.held r.first (ap is_some here) ∙ here in
    false≢true (ap is_some (sym (nothing r.first) ∙ held))

-- where there is no piece, nothing is held
pub nothing_held : (ps : List (List HeldSpan)) (w : Held) (n : ℕ) → record { spans = spans_in ps; room = n } ≡ w → length ps ≡ 0 →
    (w.spans ≡ []) × IsEmpty w
nothing_held [] w n view none = (sym (ap (λ (h : Held). h.spans) view), λ q. sym (ap (λ (h : Held). page_at h q) view))
nothing_held (p ∷ ps) w n view none = absurd (omega (arith, none))

-- one of the pieces, now q, got one span more
pub record IsGrown (ps spare : List (List HeldSpan)) (i a b : ℕ) (q : List HeldSpan) : Type 0 where
  pub row : IsStocked (set ps i q) spare a b
  pub room : (n : ℕ) → AreEnough (length spare) (load ps + 1) n → AreEnough (length spare) (load (set ps i q)) n

pub grown : (ps spare : List (List HeldSpan)) (i a b : ℕ) (q : List HeldSpan) → IsStocked ps spare a b → i < length ps →
    length (piece_at ps i) < 128 → length q ≡ length (piece_at ps i) + 1 → IsGrown ps spare i a b q
grown ps spare i a b q row within free count =
    let long = length-set ps i q in
    record {
      row = row_made ps spare (set ps i q) spare a b a b row (grown_filled ps i q row.filled within free count) row.empty
          (omega (arith, long)) (omega arith) (omega arith);
      room = λ n room. grown_room ps i (length spare) n q within count room;
    }

pub put_length : (p : List HeldSpan) (k : ℕ) (s : HeldSpan) → k ≤ length p → length (take k p ++ (s ∷ drop k p)) ≡ length p + 1
put_length p zero s fits = omega arith
put_length [] (suc k) s fits = absurd (omega arith)
put_length (x ∷ p) (suc k) s fits = let e = put_length p k s (omega (arith, fits)) in omega (arith, e)
