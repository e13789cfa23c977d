-- A payload is read as it is spelled.
use Rattle.std.proofs.Common.{◌≡◌, ℕ, zero, suc, ◌+◌, ◌*◌, ◌/◌, ◌%◌, ◌^◌, ◌<◌, ◌==◌, ◌&&◌, nat_lt, Bool, true}
use Rattle.std.proofs.Common.{false, not, List, [], ◌∷◌, ◌++◌, length, take, drop, slice_index, Option, Some, None}
use Rattle.std.proofs.Common.{Result, Ok, Err, decimal, if◌then◌else◌, refl, sym, ◌∙◌, ap, arith, inl, inr}
use Rattle.std.proofs.Common.{length-append}
use Rattle.std.specs.Prelude.{IsSomeAnd, position}
use Rattle.std.specs.Int.{IsInRange}
use Rattle.std.specs.List.{AllPass, join_with_byte, list_all, position_or_len, slice_split}
use Rattle.std.specs.Option.{option_and_then, option_map, option_map_or}
use Rattle.std.specs.Result.{result_ok}
use Rattle.std.specs.Str.Parse.{AllDigits}
use Rattle.std.proofs.lemmas.Bool.{and_parts, cases_lt, eqb-true, ne_eqb}
use Rattle.std.proofs.lemmas.Bool.Decides.{Decides-eqb, Decides-ltb}
use Rattle.std.proofs.lemmas.Fmt.{decimal_is_IsNumeral}
use Rattle.std.proofs.lemmas.List.{drop-drop}
use Rattle.std.proofs.lemmas.List.Elements.{All-cons, All-nil}
use Rattle.std.proofs.lemmas.List.Splits.{join_with_byte-slice_split, slice_split_first}
use Rattle.std.proofs.lemmas.Str.Parse.{digit_from_value}
use Rattle.std.proofs.Math.Seq.{drop-append_seam, take-append_seam}
use Rattle.hex.specs.Hex.{IsBytes, decode_of, decode_pairs, digit_or_error, encode_lower, encode_with}
use Rattle.hex.specs.Hex.{hex_digit_value, is_hex_digit, lower_digits, pair_value, value_at}
use Rattle.hex.specs.declared.error.FromHexError.{FromHexError}
use Rattle.hex.proofs.HexLemmas.{decode_of-digits, decode_of-encode_lower, decode_of-even, decode_of-ok, length-encode_with}
use Rattle.hex.proofs.Pairs.{cons_byte, decode_pairs-ok_pair}
use Rattle.eos_ops.specs.declared.payload.Payload.{Payload}
use Rattle.eos_ops.specs.declared.payload.Payload.TheVariants.{Given, Made}
use Rattle.script_model.specs.Grammar.{PayloadFits, payload_word}
use Rattle.script_text.specs.Failing.{IsGiven}
use Rattle.script_text.specs.Reading.{given_of, is_dot, is_lower_digit, made_of, one_payload, payload_of}
use Rattle.script_text.specs.Words.{is_space, number_of}
use Rattle.base_laws.proofs.OptionLaws.{some-inner}
use Rattle.script_text.proofs.Choices.{and_then-some, if-some, map-some}
use Rattle.script_text.proofs.NumberLemmas.{number_of-decimal, number_of-some}
use Rattle.script_text.proofs.WordLemmas.{is_clean, parts-some, position-some}

-- ---- tests of the digits of a table

-- the test of the first n numbers
abbrev all_below : (ℕ → Bool) → ℕ → Bool
all_below p zero = true
all_below p (suc n) = p n && all_below p n

all_below-at : (p : ℕ → Bool) (n k : ℕ) → all_below p n ≡ true → k < n → p k ≡ true
all_below-at p zero k h lt = absurd (omega arith)
all_below-at p (suc n) k h lt =
    let parts = and_parts (p n) (all_below p n) h in
    elim (cases_lt k n) [
      | inl below ↦ all_below-at p n k parts.1 below
      | inr top ↦
          let e : k ≡ n = omega arith in
          rw e parts.0
    ]

-- each digit of lower-case text is one, and no space
lower-digit : (d : ℕ) → d < 16 → is_lower_digit (slice_index lower_digits d) ≡ true
lower-digit d h = all_below-at (λ n. is_lower_digit (slice_index lower_digits n)) 16 d refl h

clean-digit : (d : ℕ) → d < 16 → not (is_space (slice_index lower_digits d)) ≡ true
clean-digit d h = all_below-at (λ n. not (is_space (slice_index lower_digits n))) 16 d refl h

both : (a b : Bool) → a ≡ true → b ≡ true → (a && b) ≡ true
both true true p q = refl
both true false p q = cc
both false b p q = cc

-- a test that all digits of a table pass is passed by all encoded text
encoded-pass : (p : ℕ → Bool) → ((d : ℕ) → d < 16 → p (slice_index lower_digits d) ≡ true) → (bytes : List ℕ) → IsBytes bytes
    → list_all p (encode_with lower_digits bytes) ≡ true
unfolding encode_with
encoded-pass p each [] h = refl
encoded-pass p each (b ∷ rest) h =
    let fits : b < 256 = h 0 in
    let more = encoded-pass p each rest (λ k. h (suc k)) in
    both (p (slice_index lower_digits (b / 16))) _ (each (b / 16) (omega arith))
    (both (p (slice_index lower_digits (b % 16))) _ (each (b % 16) (omega arith)) more)

-- ---- given payloads

-- a lower-case digit is the one that stands for its value
value-found : (c : ℕ) (o : Option ℕ) → option_map_or (λ value. slice_index lower_digits value == c) o false ≡ true
    → (v : ℕ) × (o ≡ Some v) × (slice_index lower_digits v ≡ c)
value-found c None h = cc
value-found c (Some v) h = (v, refl, eqb-true (slice_index lower_digits v) c h)

value-small : (c v : ℕ) → hex_digit_value c ≡ Some v → v < 16
value-small c v h = grind (arith)

ok-inner : (x y : List ℕ) → ◌≡◌ {A = Result (List ℕ) FromHexError} (Ok x) (Ok y) → x ≡ y
ok-inner x y h = cc

cons_byte-ok : (v : ℕ) (r : Result (List ℕ) FromHexError) (bytes : List ℕ) → cons_byte v r ≡ Ok bytes
    → (rest : List ℕ) × (r ≡ Ok rest) × (v ∷ rest ≡ bytes)
cons_byte-ok v (Ok rest) bytes h = (rest, refl, ok-inner (v ∷ rest) bytes h)
cons_byte-ok v (Err e) bytes h = cc

-- lower-case digits that decode are the text of the bytes
encode-decoded : (i : ℕ) (s bytes : List ℕ) → list_all is_lower_digit s ≡ true → decode_pairs i s ≡ Ok bytes
    → encode_with lower_digits bytes ≡ s
unfolding decode_pairs encode_with
encode-decoded i [] bytes low h = ap (encode_with lower_digits) (sym (ok-inner [] bytes h))
encode-decoded i (a ∷ []) bytes low h = cc h
encode-decoded i (a ∷ b ∷ rest) bytes low h =
    let first = and_parts (is_lower_digit a) (list_all is_lower_digit (b ∷ rest)) low in
    let second = and_parts (is_lower_digit b) (list_all is_lower_digit rest) first.1 in
    let va = value-found a (hex_digit_value a) first.0 in
    let vb = value-found b (hex_digit_value b) second.0 in
    let sa = value-small a va.0 va.1 in
    let sb = value-small b vb.0 vb.1 in
    let ha : value_at a i ≡ Ok va.0 = ap (digit_or_error a i) va.1 in
    let hb : value_at b (i + 1) ≡ Ok vb.0 = ap (digit_or_error b (i + 1)) vb.1 in
    let pair : pair_value a b i ≡ Ok (va.0 * 16 + vb.0) = rw (ha, hb) refl in
    let all = cons_byte-ok (va.0 * 16 + vb.0)
    (decode_pairs (i + 2) rest) bytes (sym (decode_pairs-ok_pair i a b (va.0 * 16 + vb.0) rest pair) ∙ h) in
    let more = encode-decoded (i + 2) rest all.0 second.1 all.1 in
    let high : (va.0 * 16 + vb.0) / 16 ≡ va.0 = omega arith in
    let under : (va.0 * 16 + vb.0) % 16 ≡ vb.0 = omega arith in
    rw (← all.2, high, under, va.2, vb.2, more) refl

ok-some : (r : Result (List ℕ) FromHexError) (bytes : List ℕ) → result_ok r ≡ Some bytes → r ≡ Ok bytes
ok-some (Ok x) bytes h = ap Ok (some-inner x bytes h)
ok-some (Err e) bytes h = cc

pub given_of-some : (digits bytes : List ℕ) → given_of digits ≡ Some bytes → IsBytes bytes × (digits ≡ encode_lower bytes)
given_of-some digits bytes h =
    let found = if-some ((length digits % 2 == 0) && list_all is_lower_digit digits) (result_ok (decode_of digits)) bytes h in
    let parts = and_parts (length digits % 2 == 0) (list_all is_lower_digit digits) found.0 in
    let even : length digits % 2 ≡ 0 = eqb-true (length digits % 2) 0 parts.0 in
    let ok = ok-some (decode_of digits) bytes found.1 in
    ((decode_of-ok digits bytes ok).3, sym (encode-decoded 0 digits bytes parts.1 (sym (decode_of-even digits even) ∙ ok)))

given_of-tested : (digits : List ℕ) → length digits % 2 ≡ 0 → list_all is_lower_digit digits ≡ true →
    given_of digits ≡ result_ok (decode_of digits)
given_of-tested digits even low =
    let e : (length digits % 2 == 0) ≡ true = (Decides-eqb (length digits % 2) 0).1 even in
    rw (e, low) refl

pub given_of-encode_lower : (bytes : List ℕ) → IsBytes bytes → given_of (encode_lower bytes) ≡ Some bytes
given_of-encode_lower bytes h =
    let twice = length-encode_with lower_digits bytes in
    let even : length (encode_lower bytes) % 2 ≡ 0 = omega (arith, twice) in
    given_of-tested (encode_lower bytes) even (encoded-pass is_lower_digit lower-digit bytes h)
    ∙ ap result_ok (decode_of-encode_lower bytes h)

lower-is-hex : (c : ℕ) → is_lower_digit c ≡ true → is_hex_digit c ≡ true
lower-is-hex c h = let v = value-found c (hex_digit_value c) h in rw v.1 refl

all-hex : (s : List ℕ) → list_all is_lower_digit s ≡ true → AllPass is_hex_digit s
all-hex [] h = All-nil (λ (c : ℕ). is_hex_digit c ≡ true)
all-hex (c ∷ s) h =
    let parts = and_parts (is_lower_digit c) (list_all is_lower_digit s) h in
    All-cons (λ (d : ℕ). is_hex_digit d ≡ true) c s (lower-is-hex c parts.0) (all-hex s parts.1)

-- where the tests pass there are bytes
pub given_of-passed : (digits : List ℕ) → length digits % 2 ≡ 0 → list_all is_lower_digit digits ≡ true
    → IsSomeAnd (option_map Given (given_of digits)) IsGiven
given_of-passed digits even low =
    let found = decode_of-digits digits even (all-hex digits low) in
    rw (given_of-tested digits even low, found.1) tt

-- ---- made payloads

digits-pass : (p : ℕ → Bool) → ((c : ℕ) → IsInRange 48 57 c → p c ≡ true) → (ds : List ℕ) → AllDigits 10 ds → list_all p ds ≡ true
digits-pass p each [] h = refl
digits-pass p each (c ∷ cs) h = both (p c) (list_all p cs) (each c (digit_from_value c h.0)) (digits-pass p each cs h.1)

no-space : (c : ℕ) → IsInRange 48 57 c → not (is_space c) ≡ true
no-space c h = ap not (ne_eqb c 32 (λ e. omega arith))

no-dot : (c : ℕ) → IsInRange 48 57 c → not (is_dot c) ≡ true
no-dot c h = ap not (ne_eqb c 46 (λ e. omega arith))

pub clean-decimal : (n : ℕ) → n < 2 ^ 64 → is_clean (decimal n) ≡ true
clean-decimal n h = digits-pass (λ c. not (is_space c)) no-space (decimal n) (decimal_is_IsNumeral n h).0.1

dotless-decimal : (n : ℕ) → n < 2 ^ 64 → list_all (λ c. not (is_dot c)) (decimal n) ≡ true
dotless-decimal n h = digits-pass (λ c. not (is_dot c)) no-dot (decimal n) (decimal_is_IsNumeral n h).0.1

-- the first place of a test, where nothing before it passes
first-place : (p : ℕ → Bool) (w : List ℕ) (x : ℕ) (rest : List ℕ) → list_all (λ c. not (p c)) w ≡ true → p x ≡ true
    → position_or_len p (w ++ x ∷ rest) ≡ length w
first-place p [] x rest h e = rw e refl
first-place p (y ∷ w) x rest h e =
    let parts = and_parts (not (p y)) (list_all (λ c. not (p c)) w) h in
    let more = first-place p w x rest parts.1 e in
    rw (parts.0, more) (omega arith)

first-position : (p : ℕ → Bool) (w : List ℕ) (x : ℕ) (rest : List ℕ) → list_all (λ c. not (p c)) w ≡ true → p x ≡ true
    → position p (w ++ x ∷ rest) ≡ Some (length w)
first-position p w x rest h e =
    let at = first-place p w x rest h e in
    let within : nat_lt (length w) (length (w ++ x ∷ rest)) ≡ true =
    (Decides-ltb (length w) (length (w ++ x ∷ rest))).1 (omega (arith, length-append w (x ∷ rest))) in
    rw (at, within) refl

-- parts joined: the first, the separator, and the others joined
join-more : (c : ℕ) (x : List ℕ) (parts : List (List ℕ)) → (length parts ≡ 0 → ⊥) →
    join_with_byte c (x ∷ parts) ≡ x ++ c ∷ join_with_byte c parts
join-more c x [] h = absurd (h refl)
join-more c x (y ∷ parts) h = refl

-- a text that is cut at its first dot
cut-dot : (text : List ℕ) (at : ℕ) → position is_dot text ≡ Some at → text ≡ take at text ++ 46 ∷ drop 1 (drop at text)
cut-dot text at h =
    let found = position-some is_dot text at h in
    let split = slice_split_first is_dot text 0 found.1 in
    let tail = drop (position_or_len is_dot text + 1) text in
    let moved : drop 1 (drop at text) ≡ drop (at + 1) text = drop-drop 1 at text in
    let whole : text ≡ take (position_or_len is_dot text) text ++ 46 ∷ drop (position_or_len is_dot text + 1) text =
    sym (join_with_byte-slice_split 46 text) ∙ ap (join_with_byte 46) split
    ∙ join-more 46 (take (position_or_len is_dot text) text)
    (slice_split is_dot (drop (position_or_len is_dot text + 1) text))
    (parts-some is_dot (drop (position_or_len is_dot text + 1) text))
    ∙ ap (λ (rest : List ℕ). take (position_or_len is_dot text) text ++ 46 ∷ rest)
    (join_with_byte-slice_split 46 (drop (position_or_len is_dot text + 1) text)) in
    rw moved (rw found.0 at whole)

pub made_of-some : (text : List ℕ) (p : Payload) → made_of text ≡ Some p → PayloadFits p × (114 ∷ text ≡ payload_word p)
made_of-some text p h =
    let cut = and_then-some (λ at. option_and_then
    (λ n. option_and_then (λ start. if nat_lt start (2 ^ 32) then Some (Made n start) else None)
    (number_of (drop 1 (drop at text)))) (number_of (take at text))) (position is_dot text) p h in
    let len = and_then-some (λ n. option_and_then
    (λ start. if nat_lt start (2 ^ 32) then Some (Made n start) else None)
    (number_of (drop 1 (drop cut.0 text)))) (number_of (take cut.0 text)) p cut.2 in
    let start = and_then-some (λ start. if nat_lt start (2 ^ 32) then Some (Made len.0 start) else None)
    (number_of (drop 1 (drop cut.0 text))) p len.2 in
    let small = if-some (nat_lt start.0 (2 ^ 32)) (Some (Made len.0 start.0)) p start.2 in
    let made = some-inner (Made len.0 start.0) p small.1 in
    let n = number_of-some (take cut.0 text) len.0 len.1 in
    let s = number_of-some (drop 1 (drop cut.0 text)) start.0 start.1 in
    let low : start.0 < 2 ^ 32 = (Decides-ltb start.0 (2 ^ 32)).0 small.0 in
    let whole : text ≡ decimal len.0 ++ 46 ∷ decimal start.0 =
    cut-dot text cut.0 cut.1 ∙ ap (λ (w : List ℕ). w ++ 46 ∷ drop 1 (drop cut.0 text)) n.1
    ∙ ap (λ (w : List ℕ). decimal len.0 ++ 46 ∷ w) s.1 in
    rw (← made) ((n.0, low), ap (λ (w : List ℕ). 114 ∷ w) whole)

pub made_of-spelled : (n start : ℕ) → n < 2 ^ 64 → start < 2 ^ 32 → made_of (decimal n ++ 46 ∷ decimal start) ≡ Some (Made n start)
made_of-spelled n start hn hs =
    let at = first-position is_dot (decimal n) 46 (decimal start) (dotless-decimal n hn) refl in
    let front = take-append_seam (decimal n) (46 ∷ decimal start) in
    let back = drop-append_seam (decimal n) (46 ∷ decimal start) in
    let low : nat_lt start (2 ^ 32) ≡ true = (Decides-ltb start (2 ^ 32)).1 hs in
    rw (at, front, back, number_of-decimal n hn, number_of-decimal start (omega arith), low) refl

-- ---- payloads

by-mark : (mark : ℕ) (rest : List ℕ) (p : Payload) (given made : Bool) → (given ≡ true → mark ≡ 120) → (made ≡ true → mark ≡ 114)
    → (if given then option_map Given (given_of rest) else if made then made_of rest else None) ≡ Some p
    → PayloadFits p × (mark ∷ rest ≡ payload_word p)
by-mark mark rest p true made x r h =
    let bytes = map-some Given (given_of rest) p h in
    let found = given_of-some rest bytes.0 bytes.1 in
    rw (x refl, ← bytes.2) (found.0, ap (λ (w : List ℕ). 120 ∷ w) found.1)
by-mark mark rest p false true x r h = rw (r refl) (made_of-some rest p h)
by-mark mark rest p false false x r h = cc

clean-append : (v w : List ℕ) → is_clean v ≡ true → is_clean w ≡ true → is_clean (v ++ w) ≡ true
clean-append [] w p q = q
clean-append (c ∷ v) w p q =
    let parts = and_parts (not (is_space c)) (is_clean v) p in
    both (not (is_space c)) (is_clean (v ++ w)) parts.0 (clean-append v w parts.1 q)

pub payload_of-some : (word : List ℕ) (p : Payload) → payload_of word ≡ Some p → PayloadFits p × (word ≡ payload_word p)
payload_of-some [] p h = cc
payload_of-some (mark ∷ rest) p h = by-mark mark rest p (mark == 120) (mark == 114) (eqb-true mark 120) (eqb-true mark 114) h

pub payload_of-word : (p : Payload) → PayloadFits p → payload_of (payload_word p) ≡ Some p
payload_of-word (Given bytes) h = ap (option_map Given) (given_of-encode_lower bytes h)
payload_of-word (Made n start) h = made_of-spelled n start h.0 h.1

pub clean-payload : (p : Payload) → PayloadFits p → is_clean (payload_word p) ≡ true
clean-payload (Given bytes) h = encoded-pass (λ c. not (is_space c)) clean-digit bytes h
clean-payload (Made n start) h = clean-append (decimal n) (46 ∷ decimal start) (clean-decimal n h.0) (clean-decimal start (omega arith))

pub one_payload-some : (ws : List (List ℕ)) (p : Payload) → one_payload ws ≡ Some p → PayloadFits p × (ws ≡ payload_word p ∷ [])
one_payload-some [] p h = cc
one_payload-some (word ∷ []) p h =
    let found = payload_of-some word p h in
    (found.0, ap (λ (w : List ℕ). w ∷ []) found.1)
one_payload-some (word ∷ other ∷ ws) p h = cc
