-- One page came to none.
use Rattle.std.proofs.Common.{◌≡◌, ℕ, List, [], length, None, IsTrue, sym, ap, ◌∙◌, arith}
use Rattle.std.specs.Prelude.{is_some}
use Rattle.std.specs.Option.{option_or}
use Rattle.std.proofs.lemmas.List.{length-drop}
use Rattle.file_port.specs.Files.{untold}
use Rattle.span_store.specs.Held.{HeldSpan, Held, page_of, page_in, page_at, has}
use Rattle.span_store.specs.Calls.{IsAdded}
use Rattle.span_store.proofs.SpanLists.{option_or-none, has_page}
use Rattle.body_double.proofs.tests.page_three.Goals as goal

only_page : (s : HeldSpan) (old new : Held) → old.spans ≡ [] → IsAdded s old new → s.first ≡ 3 → length s.pages ≡ 1 →
    (q : ℕ) → IsTrue (has new q) → q ≡ 3
only_page s old new none added first one q there =
    let empty : page_at old q ≡ None = ap (λ (spans : List HeldSpan). page_in spans q) none in
    let same : page_at new q ≡ page_of s q = added.pages q ∙ ap (option_or (page_of s q)) empty ∙ option_or-none (page_of s q) in
    let at = has_page s q (ap is_some (sym same) ∙ there) in
    omega (arith, at.0, at.1, first, one)

pub returns : goal.returns
returns c =
    let none = c.in_ok-reserve.ensures.spans ∙ c.new-held.ensures.nothing in
    let first : c.cut-head.new.self.first ≡ 3 = omega (arith, c.cut-head.ensures.rest, c.in-Ok-mount.ensures.front.first) in
    let one : length (untold c.cut-head.new.self.count) ≡ 1 = omega (
      arith,
      ap (length {A = List ℕ}) c.cut-head.ensures.rest_pages,
      length-drop 3 (untold c.in-Ok-mount.page.count),
      c.in-Ok-mount.ensures.front.count,
    ) in
    only_page _ _ _ none c.add.ensures.added first one
