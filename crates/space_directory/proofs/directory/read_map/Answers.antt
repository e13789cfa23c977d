-- What a page tells is read off its bitmap, and compared with the whole page.
use Rattle.std.proofs.Common.{◌≡◌, ◌*◌, ◌/◌, ◌%◌, ◌^◌, ℕ, ap, sym, ◌∙◌, arith}
use Rattle.std.proofs.lemmas.Bool.{false≢true}
use Rattle.block_model.specs.Directory.{directory_page}
use Rattle.space_directory.proofs.DirectoryPages.{shifted, bits_length, wrong_size, read_size, not_directory}
use Rattle.space_directory.proofs.directory.read_map.Goals as goal
use Rattle.base_laws.proofs.NumberLaws.{eights}

pub returns-then-page-size-clause-bad : goal.returns-then-page-size-clause-bad
returns-then-page-size-clause-bad c = λ _. wrong_size c.args.page.now c.args.size c.args.space c.args.order
    c.requires.fits c.if-page-size.true

pub from_bits-requires-clause-whole : goal.from_bits-requires-clause-whole
from_bits-requires-clause-whole c =
    let m : 1 * 2 ^ c.args.order % 18446744073709551616 ≡ 2 ^ c.args.order = shifted c.args.order c.requires.high in
    let eighth : 1 * 2 ^ c.args.order % 18446744073709551616 / 8 ≡ 2 ^ c.args.order / 8 = ap (λ (k : ℕ). k / 8) m in
    omega (
      arith,
      bits_length c.args.page.now c.args.size (1 * 2 ^ c.args.order % 18446744073709551616)
          c.if-page-size.false (omega (arith, c.requires.fits)),
      eights c.args.order c.requires.low,
    )

pub is_directory-requires-clause-size : goal.is_directory-requires-clause-size
is_directory-requires-clause-size c =
    let m : 1 * 2 ^ c.args.order % 18446744073709551616 ≡ 2 ^ c.args.order = shifted c.args.order c.requires.high in
    let eighth : 1 * 2 ^ c.args.order % 18446744073709551616 / 8 ≡ 2 ^ c.args.order / 8 = ap (λ (k : ℕ). k / 8) m in
    read_size c.args.page.now c.in-Ok.map c.args.size c.args.order (1 * 2 ^ c.args.order % 18446744073709551616) m
    c.requires.low c.if-page-size.false (omega (arith, c.requires.fits)) c.in-Ok.ensures ∙ sym m

pub is_directory-requires-clause-whole : goal.is_directory-requires-clause-whole
is_directory-requires-clause-whole c =
    let m : 1 * 2 ^ c.args.order % 18446744073709551616 ≡ 2 ^ c.args.order = shifted c.args.order c.requires.high in
    ap (λ (k : ℕ). 8 * (k / 8)) m ∙ eights c.args.order c.requires.low ∙ sym m

pub returns-then-is_directory-clause-size : goal.returns-then-is_directory-clause-size
returns-then-is_directory-clause-size c =
    let m : 1 * 2 ^ c.args.order % 18446744073709551616 ≡ 2 ^ c.args.order = shifted c.args.order c.requires.high in
    let eighth : 1 * 2 ^ c.args.order % 18446744073709551616 / 8 ≡ 2 ^ c.args.order / 8 = ap (λ (k : ℕ). k / 8) m in
    read_size c.args.page.now c.in-Ok.map c.args.size c.args.order (1 * 2 ^ c.args.order % 18446744073709551616) m
    c.requires.low c.if-page-size.false (omega (arith, c.requires.fits)) c.in-Ok.ensures

pub returns-else-is_directory-clause-bad : goal.returns-else-is_directory-clause-bad
returns-else-is_directory-clause-bad c = λ _.
    not_directory c.args.page.now c.in-Ok.map c.args.size c.args.space c.args.order
    (1 * 2 ^ c.args.order % 18446744073709551616)
    (shifted c.args.order c.requires.high) c.requires.low c.in-Ok.ensures
    (λ same. false≢true (sym c.if-is_directory.false
    ∙ c.is_directory.ensures.1 (same ∙ ap (λ (n : ℕ). directory_page n c.args.space c.in-Ok.map)
    (sym c.if-page-size.false))))
