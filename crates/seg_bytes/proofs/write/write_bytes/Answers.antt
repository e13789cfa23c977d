-- Whole pages, and then the last one.
use Rattle.std.proofs.Common.{◌≡◌, ℕ, ◌+◌, ◌-◌, ◌*◌, ◌/◌, ◌%◌, ◌<◌, ◌≤◌, ◌++◌, length, take, replicate, min, sym, ap, subst, ◌∙◌, arith}
use Rattle.std.specs.Prelude.{IsTrue}
use Rattle.std.proofs.Math.Nat.{mod-add-div}
use Rattle.std.proofs.Math.Seq.{take-append_seam}
use Rattle.base_laws.proofs.ResultLaws.{on_ok}
use Rattle.tree_model.specs.Tree.{page_count}
use Rattle.tree_model.specs.Content.{run_bytes}
use Rattle.span_store.specs.Calls.{IsOverwritten}
use Rattle.span_store.specs.Held.{AllSized, bytes_on}
use Rattle.seg_bytes.proofs.PageCounts.{whole_part, page_count-parts}
use Rattle.seg_bytes.proofs.Runs.{HasBytes-end}
use Rattle.seg_bytes.proofs.Overwrites.{IsOverwritten-more, IsOverwritten-then}
use Rattle.seg_bytes.proofs.Writing.{written}
use Rattle.seg_bytes.proofs.write.write_bytes.Goals as goal

pub write_whole-requires-clause-even : goal.write_whole-requires-clause-even
write_whole-requires-clause-even g c =
    (whole_part (length c.args.bytes.now / (g.P.Port.meter c.args.port.now).page) (g.P.Port.meter c.args.port.now).page
    (length c.split_at.result.0.now) c.requires.some
    (c.split_at.ensures.front_len ∙ ap (λ (k : ℕ). length c.args.bytes.now / k * k) c.page-size.ensures)).0

pub returns-clause-bytes : goal.returns-clause-bytes
returns-clause-bytes g c =
    let size : ℕ = (g.P.Port.meter c.args.port.now).page in
    let same : (g.P.Port.meter c.write_whole.new.port).page ≡ (g.P.Port.meter c.args.port.now).page =
    c.in_ok-write_whole.ensures.writes.used.page in
    let pages : length c.args.bytes.now / c.page-size.result
    ≡ length c.args.bytes.now / (g.P.Port.meter c.args.port.now).page =
    ap (λ (k : ℕ). length c.args.bytes.now / k) c.page-size.ensures in
    let front = whole_part (length c.args.bytes.now / (g.P.Port.meter c.args.port.now).page) (g.P.Port.meter c.args.port.now).page
    (length c.split_at.result.0.now) c.requires.some
    (c.split_at.ensures.front_len ∙ ap (λ (k : ℕ). length c.args.bytes.now / k * k) c.page-size.ensures) in
    on_ok c.write_last.result
    (λ (wrote : IsTrue g.P.S.Span.tells → 0 < length c.split_at.result.1.now →
    bytes_on c.write_last.new.held (c.args.first + length c.args.bytes.now / c.page-size.result)
    ≡ c.split_at.result.1.now ++ replicate ((g.P.Port.meter c.write_whole.new.port).page - length c.split_at.result.1.now) 0) told.
    let filled = (
    written c.write_whole.new.held c.write_last.new.held (g.P.Port.meter c.args.port.now).page c.args.first
    (length c.args.bytes.now / c.page-size.result) c.split_at.result.0.now c.split_at.result.1.now
    c.args.bytes.now
    c.requires.some pages c.split_at.ensures.by_index.0
    (c.split_at.ensures.front_len ∙ ap (λ (k : ℕ). length c.args.bytes.now / c.page-size.result * k) c.page-size.ensures)
    (ap (run_bytes (bytes_on c.write_whole.new.held) c.args.first) (pages ∙ sym front.1) ∙ c.in_ok-write_whole.ensures.bytes told)
    c.write_last.ensures.others.others.before
    (λ more. wrote told more ∙ ap (λ (k : ℕ). c.split_at.result.1.now ++ replicate (k - length c.split_at.result.1.now) 0) same)) in
    record {
      filled = filled;
      content = ap (take (length c.args.bytes.now)) filled
          ∙ take-append_seam c.args.bytes.now (replicate
          (page_count (g.P.Port.meter c.args.port.now).page
          (length c.args.bytes.now) * (g.P.Port.meter c.args.port.now).page - length c.args.bytes.now) 0);
    })
    c.write_last.ensures.bytes

-- the whole pages, and one more where bytes are left
all_pages : (n size unit whole rest : ℕ) → 0 < size → unit ≡ size → rest + n / unit * unit ≡ n → n / unit + min 1 rest ≤ page_count size n
all_pages n size unit whole rest some e parts =
    let count = page_count-parts size n some in
    let pages : n / unit ≡ n / size = ap (λ (k : ℕ). n / k) e in
    let rows : n / unit * unit ≡ n / size * size = ap (λ (k : ℕ). n / k * k) e in
    let left : rest ≡ n % size = omega (arith, mod-add-div n size) in
    let last : min 1 rest ≡ min 1 (n % size) = ap (min 1) left in
    omega (arith, count)

pub returns-clause-others : goal.returns-clause-others
returns-clause-others g c =
    let pages : length c.args.bytes.now / c.page-size.result
    ≡ length c.args.bytes.now / (g.P.Port.meter c.args.port.now).page =
    ap (λ (k : ℕ). length c.args.bytes.now / k) c.page-size.ensures in
    let front = whole_part (length c.args.bytes.now / (g.P.Port.meter c.args.port.now).page) (g.P.Port.meter c.args.port.now).page
    (length c.split_at.result.0.now) c.requires.some
    (c.split_at.ensures.front_len ∙ ap (λ (k : ℕ). length c.args.bytes.now / k * k) c.page-size.ensures) in
    record {
      others = IsOverwritten-then c.args.first (length c.args.bytes.now / c.page-size.result)
          (min 1 (length c.split_at.result.1.now))
          (page_count (g.P.Port.meter c.args.port.now).page (length c.args.bytes.now))
          c.args.held.now c.write_whole.new.held c.write_last.new.held
          (subst (λ (k : ℕ). IsOverwritten c.args.first k c.args.held.now c.write_whole.new.held)
          (front.1 ∙ sym pages) c.in_ok-write_whole.ensures.others.others)
          c.write_last.ensures.others.others
          (all_pages (length c.args.bytes.now) (g.P.Port.meter c.args.port.now).page c.page-size.result
          (length c.split_at.result.0.now) (length c.split_at.result.1.now) c.requires.some c.page-size.ensures
          c.split_at.ensures.back_len);
      sized = subst (λ (size : ℕ). AllSized g.P.S.Span.tells size c.write_last.new.held) c.in_ok-write_whole.ensures.writes.used.page
          c.write_last.ensures.others.sized;
    }

pub returns-in_err-write_whole-clause-others : goal.returns-in_err-write_whole-clause-others
returns-in_err-write_whole-clause-others g c =
    let front = whole_part (length c.args.bytes.now / (g.P.Port.meter c.args.port.now).page) (g.P.Port.meter c.args.port.now).page
    (length c.split_at.result.0.now) c.requires.some
    (c.split_at.ensures.front_len ∙ ap (λ (k : ℕ). length c.args.bytes.now / k * k) c.page-size.ensures) in
    let parts = page_count-parts (g.P.Port.meter c.args.port.now).page (length c.args.bytes.now) c.requires.some in
    record {
      others = IsOverwritten-more _ _ _ _ _ c.write_whole.ensures.others.others (omega (arith, front.1, parts));
      sized = c.write_whole.ensures.others.sized;
    }

-- the pages of the bytes have numbers of 4 bytes, and so has their count
pub overflow_add-first : goal.overflow_add-first
overflow_add-first g c =
    let has = HasBytes-end c.args.held.now (g.P.Port.meter c.args.port.now).page c.args.first
    (length c.args.bytes.now) c.end-end.result (omega arith) c.requires.held c.end-end.ensures.behind
    (omega arith) in
    let fits = has.fits in
    let parts = page_count-parts (g.P.Port.meter c.args.port.now).page (length c.args.bytes.now) c.requires.some in
    let pages : length c.args.bytes.now / c.page-size.result
    ≡ length c.args.bytes.now / (g.P.Port.meter c.args.port.now).page =
    ap (λ (k : ℕ). length c.args.bytes.now / k) c.page-size.ensures in
    omega (arith, fits, parts, pages)

pub overflow_cast-pages : goal.overflow_cast-pages
overflow_cast-pages g c =
    let sum = overflow_add-first g c in
    omega (arith, sum)

-- where bytes are left, the page behind the whole ones is held
pub write_last-requires-clause-held : goal.write_last-requires-clause-held
write_last-requires-clause-held g c some =
    let least = all_pages (length c.args.bytes.now)
    (g.P.Port.meter c.args.port.now).page c.page-size.result (length c.split_at.result.0.now)
    (length c.split_at.result.1.now) c.requires.some c.page-size.ensures c.split_at.ensures.back_len in
    c.in_ok-write_whole.ensures.others.others.held (c.args.first + length c.args.bytes.now / c.page-size.result)
    ∙ c.requires.held (c.args.first + length c.args.bytes.now / c.page-size.result) (omega arith) (omega (arith, least, some))

pub write_last-requires-clause-sized : goal.write_last-requires-clause-sized
write_last-requires-clause-sized g c =
    subst (λ (size : ℕ). AllSized g.P.S.Span.tells size c.write_whole.new.held) (sym c.in_ok-write_whole.ensures.writes.used.page)
    c.in_ok-write_whole.ensures.others.sized
