-- Two pages came to none.
use Rattle.std.proofs.Common.{◌≡◌, ℕ, ◌≤◌, List, [], length, None, IsTrue, sym, ap, ◌∙◌, arith}
use Rattle.std.specs.Prelude.{is_some}
use Rattle.std.specs.Option.{option_or}
use Rattle.std.proofs.lemmas.List.{length-take-le}
use Rattle.file_port.specs.Files.{untold}
use Rattle.span_store.specs.Held.{HeldSpan, Held, page_of, page_in, page_at, has}
use Rattle.span_store.specs.Calls.{IsAdded}
use Rattle.span_store.proofs.SpanLists.{option_or-none, has_page}
use Rattle.object_state.proofs.tests.written.Goals as goal

two_pages : (s : HeldSpan) (old new : Held) → old.spans ≡ [] → IsAdded s old new → s.first ≡ 3 → length s.pages ≡ 2 →
    (q : ℕ) → IsTrue (has new q) → (3 ≤ q) × (q ≤ 4)
two_pages s old new none added first two q there =
    let empty : page_at old q ≡ None = ap (λ (spans : List HeldSpan). page_in spans q) none in
    let same : page_at new q ≡ page_of s q = added.pages q ∙ ap (option_or (page_of s q)) empty ∙ option_or-none (page_of s q) in
    let at = has_page s q (ap is_some (sym same) ∙ there) in
    (omega (arith, at.0, first), omega (arith, at.1, first, two))

pub returns-clause-held : goal.returns-clause-held
returns-clause-held c =
    let none = c.in_ok-reserve.ensures.spans ∙ c.new-held.ensures.nothing in
    let first : c.write.new.s.first ≡ 3 =
    omega (arith, c.write.ensures.place, c.cut-both.ensures.front, c.in_ok-port.ensures.first) in
    let long : length (untold c.in_ok-port.pages.count) ≡ 16 = ap (λ (k : ℕ). length (untold k)) c.in_ok-port.ensures.count in
    let two : length (untold c.write.new.s.count) ≡ 2 =
    c.write.ensures.others.count ∙ (ap (length {A = List ℕ}) c.cut-both.ensures.front_pages
    ∙ length-take-le 2 (untold c.in_ok-port.pages.count) (omega (arith, long))) in
    two_pages _ _ _ none c.add.ensures.added first two
