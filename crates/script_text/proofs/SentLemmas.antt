-- A text that goes out in several calls of a sink.
use Rattle.std.proofs.Common.{◌≡◌, ℕ, ◌+◌, ◌≤◌, ◌==◌, Bool, true, List, [], ◌∷◌, ◌++◌, length, take, drop, codes}
use Rattle.std.proofs.Common.{decimal, Option, Some, None, refl, sym, ◌∙◌, ap, arith, append_assoc, length-append}
use Rattle.std.proofs.lemmas.Bool.{eqb-true}
use Rattle.std.proofs.lemmas.List.{append-nil, take-append-drop, take-append-le}
use Rattle.std.proofs.Math.Seq.{take-append-add}
use Rattle.edge_io.specs.Moved.{Appends, AppendsPart}
use Rattle.edge_io.proofs.MovedLaws.{Appends-append, appends-none}
use Rattle.hex.specs.Hex.{encode_lower, encode_with, lower_digits}
use Rattle.eos_ops.specs.declared.reply.Reply.{Reply}
use Rattle.eos_ops.specs.declared.reply.Reply.TheVariants as reply
use Rattle.script_model.specs.Replies.{reply_line, reply_words}
use Rattle.script_text.specs.Parts.{reply_bytes, fixed_text, number_text}
use Rattle.script_text.specs.Sent.{Sent}

-- a list that is found empty
pub is_empty-nil : (xs : List ℕ) (b : Bool) → b ≡ (length xs == 0) → b ≡ true → xs ≡ []
is_empty-nil [] b p q = refl
is_empty-nil (x ∷ xs) b p q = absurd (omega (arith, eqb-true (length (x ∷ xs)) 0 (sym p ∙ q)))

pub Sent-nothing : (whole : List ℕ) (before : Option (List ℕ)) → Sent whole whole before before
Sent-nothing whole before = ([], refl, appends-none before)

-- the front of what is left goes out in part
pub Sent-more : (whole d d2 rest : List ℕ) (before mid now : Option (List ℕ)) → Sent whole (d ++ rest) before mid → Sent d d2 mid now
    → Sent whole (d2 ++ rest) before now
Sent-more whole d d2 rest before mid now p q = (
  p.0 ++ q.0,
  p.1 ∙ ap (λ (x : List ℕ). p.0 ++ (x ++ rest)) q.1 ∙ ap (λ (x : List ℕ). p.0 ++ x) (append_assoc q.0 d2 rest)
      ∙ sym (append_assoc p.0 q.0 (d2 ++ rest)),
  Appends-append p.0 q.0 before mid now p.2 q.2,
)

-- all that is left goes out
pub Sent-all : (whole d : List ℕ) (before mid now : Option (List ℕ)) → Sent whole d before mid → Appends d mid now →
    Appends whole before now
Sent-all whole d before mid now p q = rw p.1 (Appends-append p.0 d before mid now p.2 q)

-- a part of what is left goes out, and then no more
pub Sent-part : (whole d rest : List ℕ) (before mid now : Option (List ℕ)) → Sent whole (d ++ rest) before mid → AppendsPart d mid now
    → AppendsPart whole before now
Sent-part whole d rest before mid now p q =
    let short : q.0 ≤ length d = omega arith in
    let front : take (length p.0 + q.0) whole ≡ p.0 ++ take q.0 d =
    ap (λ (x : List ℕ). take (length p.0 + q.0) x) p.1 ∙ take-append-add p.0 (d ++ rest) q.0
    ∙ ap (λ (x : List ℕ). p.0 ++ x) (take-append-le q.0 d rest short) in (
      length p.0 + q.0,
      rw p.1 (omega (arith, length-append p.0 (d ++ rest), length-append d rest)),
      rw front (Appends-append p.0 (take q.0 d) before mid now p.2 q.2),
    )

-- hexadecimal text of two parts
encode-append : (x y : List ℕ) → encode_with lower_digits (x ++ y) ≡ encode_with lower_digits x ++ encode_with lower_digits y
unfolding encode_with
encode-append [] y = refl
encode-append (b ∷ x) y = rw (encode-append x y) refl

-- the front of the bytes is put into the draft
pub Sent-encoded : (whole d bytes : List ℕ) (n : ℕ) (before now : Option (List ℕ)) →
    Sent whole (d ++ (encode_lower bytes ++ 10 ∷ [])) before now
    → Sent whole ((d ++ encode_lower (take n bytes)) ++ (encode_lower (drop n bytes) ++ 10 ∷ [])) before now
Sent-encoded whole d bytes n before now p =
    let split : encode_lower bytes ≡ encode_lower (take n bytes) ++ encode_lower (drop n bytes) =
    ap encode_lower (sym (take-append-drop n bytes)) ∙ encode-append (take n bytes) (drop n bytes) in
    let moved : d ++ (encode_lower bytes ++ 10 ∷ []) ≡ (d ++ encode_lower (take n bytes)) ++ (encode_lower (drop n bytes) ++ 10 ∷ []) =
    ap (λ (x : List ℕ). d ++ (x ++ 10 ∷ [])) split
    ∙ ap (λ (x : List ℕ). d ++ x) (append_assoc (encode_lower (take n bytes)) (encode_lower (drop n bytes)) (10 ∷ []))
    ∙ sym (append_assoc d (encode_lower (take n bytes)) (encode_lower (drop n bytes) ++ 10 ∷ [])) in
    (p.0, p.1 ∙ ap (λ (x : List ℕ). p.0 ++ x) moved, p.2)

-- no bytes are left
pub Sent-encoded_nil : (whole d bytes : List ℕ) (before now : Option (List ℕ)) → bytes ≡ [] →
    Sent whole (d ++ (encode_lower bytes ++ 10 ∷ [])) before now
    → Sent whole (d ++ 10 ∷ []) before now
unfolding encode_with
Sent-encoded_nil whole d bytes before now e p = rw e at p

-- the words of a reply are its three parts
words-parts : (r : Reply) → fixed_text r ++ (number_text r ++ encode_lower (reply_bytes r)) ≡ reply_words r
unfolding encode_with
words-parts reply.Ok = refl
words-parts (reply.Length n) = ap (λ (x : List ℕ). codes "length " ++ x) (append-nil (decimal n))
words-parts (reply.Bytes bytes) = refl
words-parts (reply.Range n) = ap (λ (x : List ℕ). codes "range " ++ x) (append-nil (decimal n))
words-parts reply.Exists = refl
words-parts reply.Missing = refl
words-parts reply.Busy = refl
words-parts reply.Full = refl
words-parts reply.NoObject = refl
words-parts (reply.NoSpace n) = ap (λ (x : List ℕ). codes "nospace " ++ x) (append-nil (decimal n))
words-parts reply.Fault = refl
words-parts reply.Memory = refl
words-parts reply.Idle = refl
words-parts reply.Active = refl
words-parts reply.TooLong = refl
words-parts reply.Worn = refl
words-parts (reply.Status f l h) = ap (λ (x : List ℕ). codes "status " ++ x)
    (append-nil (decimal f ++ (codes " " ++ (decimal l ++ (codes " " ++ decimal h)))))
words-parts reply.Again = refl

-- the line of a reply, as it is put together
pub line-parts : (s : ℕ) (r : Reply) → (((decimal s ++ codes " ") ++ fixed_text r) ++ number_text r)
    ++ (encode_lower (reply_bytes r) ++ 10 ∷ []) ≡ reply_line s r
line-parts s r =
    append_assoc ((decimal s ++ codes " ") ++ fixed_text r) (number_text r) (encode_lower (reply_bytes r) ++ 10 ∷ [])
    ∙ append_assoc (decimal s ++ codes " ") (fixed_text r) (number_text r ++ (encode_lower (reply_bytes r) ++ 10 ∷ []))
    ∙ append_assoc (decimal s) (codes " ") (fixed_text r ++ (number_text r ++ (encode_lower (reply_bytes r) ++ 10 ∷ [])))
    ∙ ap (λ (x : List ℕ). decimal s ++ (codes " " ++ x))
    (ap (λ (x : List ℕ). fixed_text r ++ x) (sym (append_assoc (number_text r) (encode_lower (reply_bytes r)) (10 ∷ [])))
    ∙ sym (append_assoc (fixed_text r) (number_text r ++ encode_lower (reply_bytes r)) (10 ∷ []))
    ∙ ap (λ (x : List ℕ). x ++ 10 ∷ []) (words-parts r))
