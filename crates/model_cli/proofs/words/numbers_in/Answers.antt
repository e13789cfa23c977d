-- Each word is a number, or the words are those of no store.
use Rattle.std.proofs.Common.{map, string_bytes, sym, ap, ◌∙◌, arith}
use Rattle.plain_plan.specs.Store.{numbers_of}
use Rattle.script_text.specs.Words.{number_of}
use Rattle.model_cli.proofs.WordLemmas.{text-at, five-texts, five-words, great-order, no-page, no-order, no-spaces}
use Rattle.model_cli.proofs.WordLemmas.{no-catalog, no-threshold}
use Rattle.model_cli.proofs.words.numbers_in.Goals as goal

pub returns-in_err-order-clause-numbers : goal.returns-in_err-order-clause-numbers
returns-in_err-order-clause-numbers c =
    let low = c.in-len5.len_at_least in
    let text = text-at string_bytes c.args.words.now 1 _ _ c.as_str.ensures.value c.order-item.is (omega (arith, low)) in
    rw c.from_residual.ensures
    (λ n h same. no-order (map string_bytes c.args.words.now) (ap number_of text ∙ sym c.in_err-order.ensures) n h same)

pub returns-then-order-gt-MAX_ORDER-clause-numbers : goal.returns-then-order-gt-MAX_ORDER-clause-numbers
returns-then-order-gt-MAX_ORDER-clause-numbers c n h same =
    let low = c.in-len5.len_at_least in
    let text = text-at string_bytes c.args.words.now 1 _ _ c.as_str.ensures.value c.order-item.is (omega (arith, low)) in
    great-order (map string_bytes c.args.words.now) c.in_ok-order.order (ap number_of text
    ∙ sym c.in_ok-order.ensures) c.if-order-gt-MAX_ORDER.true n h same

pub returns-in_err-number_of-clause-numbers : goal.returns-in_err-number_of-clause-numbers
returns-in_err-number_of-clause-numbers c =
    let low = c.in-len5.len_at_least in
    let text = text-at string_bytes c.args.words.now 0 _ _ c.as_str-2.ensures.value c.page-item.is (omega (arith, low)) in
    rw c.from_residual-in_err-number_of.ensures
    (λ n h same. no-page (map string_bytes c.args.words.now) (ap number_of text ∙ sym c.in_err-number_of.ensures) n h same)

pub returns-in_err-number_of-2-clause-numbers : goal.returns-in_err-number_of-2-clause-numbers
returns-in_err-number_of-2-clause-numbers c =
    let low = c.in-len5.len_at_least in
    let text = text-at string_bytes c.args.words.now 2 _ _ c.as_str-3.ensures.value c.spaces-item.is (omega (arith, low)) in
    rw c.from_residual-in_err-number_of-2.ensures
    (λ n h same. no-spaces (map string_bytes c.args.words.now) (ap number_of text ∙ sym c.in_err-number_of-2.ensures) n h same)

pub returns-in_err-number_of-3-clause-numbers : goal.returns-in_err-number_of-3-clause-numbers
returns-in_err-number_of-3-clause-numbers c =
    let low = c.in-len5.len_at_least in
    let text = text-at string_bytes c.args.words.now 3 _ _ c.as_str-4.ensures.value c.catalog-item.is (omega (arith, low)) in
    rw c.from_residual-in_err-number_of-3.ensures
    (λ n h same. no-catalog (map string_bytes c.args.words.now) (ap number_of text ∙ sym c.in_err-number_of-3.ensures) n h same)

pub returns-in_err-number_of-4-clause-numbers : goal.returns-in_err-number_of-4-clause-numbers
returns-in_err-number_of-4-clause-numbers c =
    let low = c.in-len5.len_at_least in
    let text = text-at string_bytes c.args.words.now 4 _ _ c.as_str-5.ensures.value c.threshold-item.is (omega (arith, low)) in
    rw c.from_residual-in_err-number_of-4.ensures
    (λ n h same. no-threshold (map string_bytes c.args.words.now) (ap number_of text ∙ sym c.in_err-number_of-4.ensures) n h same)

pub returns-clause-numbers : goal.returns-clause-numbers
returns-clause-numbers c =
    let low = c.in-len5.len_at_least in
    let words = c.args.words.now in
    let page = text-at string_bytes words 0 _ _ c.as_str-2.ensures.value c.page-item.is (omega (arith, low)) in
    let order = text-at string_bytes words 1 _ _ c.as_str.ensures.value c.order-item.is (omega (arith, low)) in
    let spaces = text-at string_bytes words 2 _ _ c.as_str-3.ensures.value c.spaces-item.is (omega (arith, low)) in
    let catalog = text-at string_bytes words 3 _ _ c.as_str-4.ensures.value c.catalog-item.is (omega (arith, low)) in
    let threshold = text-at string_bytes words 4 _ _ c.as_str-5.ensures.value c.threshold-item.is (omega (arith, low)) in
    five-texts string_bytes words low c.in-len5.len_below
    ∙ five-words _ _ _ _ _
    (numbers_of (record {
      page = c.in_ok-number_of.field-0;
      order = c.in_ok-order.order;
      spaces =
          c.in_ok-number_of-2.field-0;
      catalog = c.in_ok-number_of-3.field-0;
      threshold =
          c.in_ok-number_of-4.field-0;
    }))
    (ap number_of page ∙ sym c.in_ok-number_of.ensures)
    (ap number_of order ∙ sym c.in_ok-order.ensures)
    (ap number_of spaces ∙ sym c.in_ok-number_of-2.ensures)
    (ap number_of catalog ∙ sym c.in_ok-number_of-3.ensures)
    (ap number_of threshold ∙ sym c.in_ok-number_of-4.ensures)
