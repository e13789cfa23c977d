-- The words of a command are read as that command, and no others are.
use Rattle.std.proofs.Common.{◌≡◌, ℕ, ◌^◌, ◌<◌, ◌≤◌, ◌&&◌, nat_le, Bool, true, false, List, [], ◌∷◌, drop, codes}
use Rattle.std.proofs.Common.{Option, Some, None, decimal, if◌then◌else◌, refl, ◌∙◌, ap, arith}
use Rattle.std.specs.Prelude.{IfSome}
use Rattle.std.specs.Option.{option_and_then, option_map}
use Rattle.std.specs.Str.{bytes_eq}
use Rattle.std.proofs.lemmas.Bool.{and_parts, le-leb, leb-true}
use Rattle.std.proofs.lemmas.Slice.Eq.{bytes_eq-Decides}
use Rattle.eos_ops.specs.declared.command.Command.{Command}
use Rattle.eos_ops.specs.declared.command.Command.TheVariants as command
use Rattle.eos_ops.specs.declared.payload.Payload.{Payload}
use Rattle.script_model.specs.declared.limits.TheConstants.{MAX_THRESHOLD}
use Rattle.script_model.specs.Grammar.{CommandFits, PayloadFits, payload_word, words_of}
use Rattle.script_text.specs.declared.verb.Verb.{Verb}
use Rattle.script_text.specs.declared.verb.Verb.TheVariants.{Begin, Create, Destroy, Length, Read, Append, Insert}
use Rattle.script_text.specs.declared.verb.Verb.TheVariants.{Delete, Replace, Commit, Abort, Status}
use Rattle.script_text.specs.Reading.{command_in, command_of, created, one_number, one_payload, placed_payload, three_numbers, verb_of}
use Rattle.script_text.specs.Words.{first_number, if_last, number_of}
use Rattle.base_laws.proofs.OptionLaws.{some-inner}
use Rattle.script_text.proofs.Choices.{and_then-some, if-some, map-some}
use Rattle.script_text.proofs.NumberLemmas.{number_of-decimal, number_of-some}
use Rattle.script_text.proofs.PayloadLemmas.{clean-decimal, clean-payload, one_payload-some, payload_of-word}
use Rattle.script_text.proofs.WordLemmas.{AllClean}

-- ---- verbs

abbrev pub verb_word : Verb → List ℕ
verb_word Begin = codes "begin"
verb_word Create = codes "create"
verb_word Destroy = codes "destroy"
verb_word Length = codes "length"
verb_word Read = codes "read"
verb_word Append = codes "append"
verb_word Insert = codes "insert"
verb_word Delete = codes "delete"
verb_word Replace = codes "replace"
verb_word Commit = codes "commit"
verb_word Abort = codes "abort"
verb_word Status = codes "status"

-- one test more of a word
test-more : (word text : List ℕ) (v : Verb) (o : Option Verb) (b : Bool) → (b ≡ true → word ≡ text) → text ≡ verb_word v
    → IfSome o (λ w. word ≡ verb_word w) → IfSome (if b then Some v else o) (λ w. word ≡ verb_word w)
test-more word text v o true same e more = same refl ∙ e
test-more word text v o false same e more = more

equal : (word text : List ℕ) → bytes_eq word text ≡ true → word ≡ text
equal word text h = (bytes_eq-Decides word text).0 h

verb_of-word : (word : List ℕ) → IfSome (verb_of word) (λ v. word ≡ verb_word v)
unfolding verb_of
verb_of-word word =
    test-more word (codes "begin") Begin _ _ (equal word (codes "begin")) refl
    (test-more word (codes "create") Create _ _ (equal word (codes "create")) refl
    (test-more word (codes "destroy") Destroy _ _ (equal word (codes "destroy")) refl
    (test-more word (codes "length") Length _ _ (equal word (codes "length")) refl
    (test-more word (codes "read") Read _ _ (equal word (codes "read")) refl
    (test-more word (codes "append") Append _ _ (equal word (codes "append")) refl
    (test-more word (codes "insert") Insert _ _ (equal word (codes "insert")) refl
    (test-more word (codes "delete") Delete _ _ (equal word (codes "delete")) refl
    (test-more word (codes "replace") Replace _ _ (equal word (codes "replace")) refl
    (test-more word (codes "commit") Commit _ _ (equal word (codes "commit")) refl
    (test-more word (codes "abort") Abort _ _ (equal word (codes "abort")) refl
    (test-more word (codes "status") Status None _ (equal word (codes "status")) refl tt)))))))))))

verb_of-some : (word : List ℕ) (v : Verb) → verb_of word ≡ Some v → word ≡ verb_word v
verb_of-some word v h = let spelled = verb_of-word word in rw h at spelled

-- ---- arguments

pub first_number-some : (ws : List (List ℕ)) (n : ℕ) → first_number ws ≡ Some n → (n < 2 ^ 64) × (ws ≡ decimal n ∷ drop 1 ws)
first_number-some [] n h = cc
first_number-some (w ∷ ws) n h =
    let found = number_of-some w n h in
    (found.0, ap (λ (v : List ℕ). v ∷ ws) found.1)

if_last-some : {T : Type 0} (ws : List (List ℕ)) (x y : T) → if_last ws x ≡ Some y → (ws ≡ []) × (x ≡ y)
if_last-some [] x y h = (refl, some-inner x y h)
if_last-some (w ∷ ws) x y h = cc

one_number-some : (ws : List (List ℕ)) (n : ℕ) → one_number ws ≡ Some n → (n < 2 ^ 64) × (ws ≡ decimal n ∷ [])
one_number-some ws n h =
    let number = and_then-some (if_last (drop 1 ws)) (first_number ws) n h in
    let last = if_last-some (drop 1 ws) number.0 n number.2 in
    let first = first_number-some ws number.0 number.1 in
    let text : ws ≡ decimal number.0 ∷ [] = first.1 ∙ ap (λ (rest : List (List ℕ)). decimal number.0 ∷ rest) last.0 in
    (rw (← last.1) first.0, text ∙ ap (λ (m : ℕ). decimal m ∷ []) last.1)

three_numbers-some : (ws : List (List ℕ)) (p : ℕ × ℕ × ℕ) → three_numbers ws ≡ Some p
    → (p.0 < 2 ^ 64) × (p.1 < 2 ^ 64) × (p.2 < 2 ^ 64) × (ws ≡ decimal p.0 ∷ decimal p.1 ∷ decimal p.2 ∷ [])
three_numbers-some ws p h =
    let a = and_then-some (λ o. option_and_then (λ at. option_map (λ n. (o, at, n))
    (one_number (drop 1 (drop 1 ws)))) (first_number (drop 1 ws))) (first_number ws) p h in
    let b = and_then-some (λ at. option_map (λ n. (a.0, at, n)) (one_number (drop 1 (drop 1 ws)))) (first_number (drop 1 ws)) p a.2 in
    let c = map-some (λ n. (a.0, b.0, n)) (one_number (drop 1 (drop 1 ws))) p b.2 in
    let x = first_number-some ws a.0 a.1 in
    let y = first_number-some (drop 1 ws) b.0 b.1 in
    let z = one_number-some (drop 1 (drop 1 ws)) c.0 c.1 in
    let text : ws ≡ decimal a.0 ∷ decimal b.0 ∷ decimal c.0 ∷ [] =
    x.1 ∙ ap (λ (rest : List (List ℕ)). decimal a.0 ∷ rest) (y.1 ∙ ap (λ (rest : List (List ℕ)). decimal b.0 ∷ rest) z.1) in
    rw (← c.2) (x.0, y.0, z.0, text)

placed_payload-some : (ws : List (List ℕ)) (p : ℕ × ℕ × Payload) → placed_payload ws ≡ Some p
    → (p.0 < 2 ^ 64) × (p.1 < 2 ^ 64) × PayloadFits p.2 × (ws ≡ decimal p.0 ∷ decimal p.1 ∷ payload_word p.2 ∷ [])
placed_payload-some ws p h =
    let a = and_then-some (λ o. option_and_then (λ at. option_map (λ q. (o, at, q))
    (one_payload (drop 1 (drop 1 ws)))) (first_number (drop 1 ws))) (first_number ws) p h in
    let b = and_then-some (λ at. option_map (λ q. (a.0, at, q)) (one_payload (drop 1 (drop 1 ws)))) (first_number (drop 1 ws)) p a.2 in
    let c = map-some (λ q. (a.0, b.0, q)) (one_payload (drop 1 (drop 1 ws))) p b.2 in
    let x = first_number-some ws a.0 a.1 in
    let y = first_number-some (drop 1 ws) b.0 b.1 in
    let z = one_payload-some (drop 1 (drop 1 ws)) c.0 c.1 in
    let text : ws ≡ decimal a.0 ∷ decimal b.0 ∷ payload_word c.0 ∷ [] =
    x.1 ∙ ap (λ (rest : List (List ℕ)). decimal a.0 ∷ rest) (y.1 ∙ ap (λ (rest : List (List ℕ)). decimal b.0 ∷ rest) z.1) in
    rw (← c.2) (x.0, y.0, z.0, text)

created-some : (o : ℕ) (ws : List (List ℕ)) (c : Command) → o < 2 ^ 64 → created o ws ≡ Some c
    → CommandFits c × (codes "create" ∷ decimal o ∷ ws ≡ words_of c)
created-some o [] c small h = rw (← some-inner (command.Create o None) c h) ((small, tt), refl)
created-some o (w ∷ ws) c small h =
    let t = and_then-some (λ t. if nat_le 1 t && nat_le t MAX_THRESHOLD then Some (command.Create o (Some t)) else
    None) (one_number (w ∷ ws)) c h in
    let within = if-some (nat_le 1 t.0 && nat_le t.0 MAX_THRESHOLD) (Some (command.Create o (Some t.0))) c t.2 in
    let parts = and_parts (nat_le 1 t.0) (nat_le t.0 MAX_THRESHOLD) within.0 in
    let text = one_number-some (w ∷ ws) t.0 t.1 in
    let low : 1 ≤ t.0 = leb-true 1 t.0 parts.0 in
    let high : t.0 ≤ MAX_THRESHOLD = leb-true t.0 MAX_THRESHOLD parts.1 in
    rw (← some-inner (command.Create o (Some t.0)) c within.1)
    ((small, (low, high)), ap (λ (rest : List (List ℕ)). codes "create" ∷ decimal o ∷ rest) text.1)

-- ---- commands

bare : (v : Verb) (ws : List (List ℕ)) (x c : Command) → CommandFits x → verb_word v ∷ [] ≡ words_of x → if_last ws x ≡ Some c
    → CommandFits c × (verb_word v ∷ ws ≡ words_of c)
bare v ws x c fits text h =
    let last = if_last-some ws x c h in
    rw (← last.1, last.0) (fits, text)

command_in-some : (v : Verb) (ws : List (List ℕ)) (c : Command) → command_in v ws ≡ Some c → CommandFits c × (verb_word v ∷ ws ≡ words_of c)
unfolding command_in
command_in-some Begin ws c h = bare Begin ws command.Begin c tt refl h
command_in-some Commit ws c h = bare Commit ws command.Commit c tt refl h
command_in-some Abort ws c h = bare Abort ws command.Abort c tt refl h
command_in-some Status ws c h = bare Status ws command.Status c tt refl h
command_in-some Create ws c h =
    let o = and_then-some (λ o. created o (drop 1 ws)) (first_number ws) c h in
    let first = first_number-some ws o.0 o.1 in
    let made = created-some o.0 (drop 1 ws) c first.0 o.2 in
    (made.0, ap (λ (rest : List (List ℕ)). codes "create" ∷ rest) first.1 ∙ made.1)
command_in-some Destroy ws c h =
    let o = map-some command.Destroy (one_number ws) c h in
    let text = one_number-some ws o.0 o.1 in
    rw (← o.2) (text.0, ap (λ (rest : List (List ℕ)). codes "destroy" ∷ rest) text.1)
command_in-some Length ws c h =
    let o = map-some command.Length (one_number ws) c h in
    let text = one_number-some ws o.0 o.1 in
    rw (← o.2) (text.0, ap (λ (rest : List (List ℕ)). codes "length" ∷ rest) text.1)
command_in-some Read ws c h =
    let p = map-some (λ p. command.Read p.0 p.1 p.2) (three_numbers ws) c h in
    let text = three_numbers-some ws p.0 p.1 in
    rw (← p.2) ((text.0, text.1, text.2), ap (λ (rest : List (List ℕ)). codes "read" ∷ rest) text.3)
command_in-some Delete ws c h =
    let p = map-some (λ p. command.Delete p.0 p.1 p.2) (three_numbers ws) c h in
    let text = three_numbers-some ws p.0 p.1 in
    rw (← p.2) ((text.0, text.1, text.2), ap (λ (rest : List (List ℕ)). codes "delete" ∷ rest) text.3)
command_in-some Append ws c h =
    let o = and_then-some (λ o. option_map (command.Append o) (one_payload (drop 1 ws))) (first_number ws) c h in
    let p = map-some (command.Append o.0) (one_payload (drop 1 ws)) c o.2 in
    let first = first_number-some ws o.0 o.1 in
    let last = one_payload-some (drop 1 ws) p.0 p.1 in
    let text : ws ≡ decimal o.0 ∷ payload_word p.0 ∷ [] = first.1 ∙ ap (λ (rest : List (List ℕ)). decimal o.0 ∷ rest) last.1 in
    rw (← p.2) ((first.0, last.0), ap (λ (rest : List (List ℕ)). codes "append" ∷ rest) text)
command_in-some Insert ws c h =
    let p = map-some (λ p. command.Insert p.0 p.1 p.2) (placed_payload ws) c h in
    let text = placed_payload-some ws p.0 p.1 in
    rw (← p.2) ((text.0, text.1, text.2), ap (λ (rest : List (List ℕ)). codes "insert" ∷ rest) text.3)
command_in-some Replace ws c h =
    let p = map-some (λ p. command.Replace p.0 p.1 p.2) (placed_payload ws) c h in
    let text = placed_payload-some ws p.0 p.1 in
    rw (← p.2) ((text.0, text.1, text.2), ap (λ (rest : List (List ℕ)). codes "replace" ∷ rest) text.3)

pub command_of-some : (ws : List (List ℕ)) (c : Command) → command_of ws ≡ Some c → CommandFits c × (ws ≡ words_of c)
unfolding command_of
command_of-some [] c h = cc
command_of-some (verb ∷ ws) c h =
    let v = and_then-some (λ v. command_in v ws) (verb_of verb) c h in
    let found = command_in-some v.0 ws c v.2 in
    (found.0, ap (λ (w : List ℕ). w ∷ ws) (verb_of-some verb v.0 v.1) ∙ found.1)

-- ---- the other way

one : (n : ℕ) → n < 2 ^ 64 → one_number (decimal n ∷ []) ≡ Some n
one n h = ap (option_and_then (if_last [])) (number_of-decimal n h)

three : (o at n : ℕ) → o < 2 ^ 64 → at < 2 ^ 64 → n < 2 ^ 64 → three_numbers (decimal o ∷ decimal at ∷ decimal n ∷ []) ≡ Some (o, at, n)
three o at n ho ha hn =
    ap (option_and_then (λ x. option_and_then (λ y. option_map (λ z. (x, y, z)) (one_number (decimal n ∷ [])))
    (number_of (decimal at)))) (number_of-decimal o ho)
    ∙ ap (option_and_then (λ y. option_map (λ z. (o, y, z)) (one_number (decimal n ∷ [])))) (number_of-decimal at ha)
    ∙ ap (option_map (λ z. (o, at, z))) (one n hn)

place : (o at : ℕ) (p : Payload) → o < 2 ^ 64 → at < 2 ^ 64 → PayloadFits p →
    placed_payload (decimal o ∷ decimal at ∷ payload_word p ∷ []) ≡ Some (o, at, p)
place o at p ho ha hp =
    ap (option_and_then (λ x. option_and_then (λ y. option_map (λ z. (x, y, z)) (one_payload (payload_word p ∷ [])))
    (number_of (decimal at)))) (number_of-decimal o ho)
    ∙ ap (option_and_then (λ y. option_map (λ z. (o, y, z)) (one_payload (payload_word p ∷ [])))) (number_of-decimal at ha)
    ∙ ap (option_map (λ z. (o, at, z))) (payload_of-word p hp)

create-threshold : (o t : ℕ) → o < 2 ^ 64 → 1 ≤ t → t ≤ MAX_THRESHOLD →
    command_in Create (decimal o ∷ decimal t ∷ []) ≡ Some (command.Create o (Some t))
unfolding command_in
create-threshold o t ho low high =
    let a : nat_le 1 t ≡ true = le-leb 1 t low in
    let b : nat_le t MAX_THRESHOLD ≡ true = le-leb t MAX_THRESHOLD high in
    ap (option_and_then (λ x. created x (decimal t ∷ []))) (number_of-decimal o ho)
    ∙ ap (option_and_then (λ x. if nat_le 1 x && nat_le x MAX_THRESHOLD then Some (command.Create o (Some x)) else
    None)) (one t (omega arith))
    ∙ rw (a, b) refl

pub command_of-words_of : (c : Command) → CommandFits c → command_of (words_of c) ≡ Some c
unfolding command_of command_in verb_of
command_of-words_of command.Begin h = refl
command_of-words_of (command.Create o None) h = ap (option_and_then (λ x. created x [])) (number_of-decimal o h.0)
command_of-words_of (command.Create o (Some t)) h = create-threshold o t h.0 h.1.0 h.1.1
command_of-words_of (command.Destroy o) h = ap (option_map command.Destroy) (one o h)
command_of-words_of (command.Length o) h = ap (option_map command.Length) (one o h)
command_of-words_of (command.Read o at n) h = ap (option_map (λ p. command.Read p.0 p.1 p.2)) (three o at n h.0 h.1 h.2)
command_of-words_of (command.Append o p) h =
    ap (option_and_then (λ x. option_map (command.Append x) (one_payload (payload_word p ∷ [])))) (number_of-decimal o h.0)
    ∙ ap (option_map (command.Append o)) (payload_of-word p h.1)
command_of-words_of (command.Insert o at p) h = ap (option_map (λ q. command.Insert q.0 q.1 q.2)) (place o at p h.0 h.1 h.2)
command_of-words_of (command.Delete o at n) h = ap (option_map (λ p. command.Delete p.0 p.1 p.2)) (three o at n h.0 h.1 h.2)
command_of-words_of (command.Replace o at p) h = ap (option_map (λ q. command.Replace q.0 q.1 q.2)) (place o at p h.0 h.1 h.2)
command_of-words_of command.Commit h = refl
command_of-words_of command.Abort h = refl
command_of-words_of command.Status h = refl

-- ---- no word of a command has a space

pub clean-words_of : (c : Command) → CommandFits c → AllClean (words_of c)
clean-words_of command.Begin h = (refl, tt)
clean-words_of (command.Create o None) h = (refl, (clean-decimal o h.0, tt))
clean-words_of (command.Create o (Some t)) h = (refl, (clean-decimal o h.0, (clean-decimal t (omega arith), tt)))
clean-words_of (command.Destroy o) h = (refl, (clean-decimal o h, tt))
clean-words_of (command.Length o) h = (refl, (clean-decimal o h, tt))
clean-words_of (command.Read o at n) h = (refl, (clean-decimal o h.0, (clean-decimal at h.1, (clean-decimal n h.2, tt))))
clean-words_of (command.Append o p) h = (refl, (clean-decimal o h.0, (clean-payload p h.1, tt)))
clean-words_of (command.Insert o at p) h = (refl, (clean-decimal o h.0, (clean-decimal at h.1, (clean-payload p h.2, tt))))
clean-words_of (command.Delete o at n) h = (refl, (clean-decimal o h.0, (clean-decimal at h.1, (clean-decimal n h.2, tt))))
clean-words_of (command.Replace o at p) h = (refl, (clean-decimal o h.0, (clean-decimal at h.1, (clean-payload p h.2, tt))))
clean-words_of command.Commit h = (refl, tt)
clean-words_of command.Abort h = (refl, tt)
clean-words_of command.Status h = (refl, tt)
