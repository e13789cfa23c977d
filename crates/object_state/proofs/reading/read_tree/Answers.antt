-- A search, and then the bytes of the segments that it found.
use Rattle.std.proofs.Common.{◌≡◌, ℕ, IsTrue, List, length, Ok, Err, refl, sym, ap, subst, arith, ◌∙◌}
use Rattle.fault_count.specs.Counts.{HasCause}
use Rattle.tree_read.specs.declared.failure.TreeFail.{TreeFail}
use Rattle.std.specs.List.{AllByRecursion}
use Rattle.std.proofs.lemmas.Bool.{false≢true}
use Rattle.tree_model.specs.declared.entry.Placed.{Placed}
use Rattle.object_body.specs.declared.fails.LookFail.TheVariants as look
use Rattle.object_state.specs.Reads.{IsHeldSegment, ReadsTree}
use Rattle.object_state.proofs.TreeReadLemmas.{IsFetched, IsReadable, bytes-as, fetch-done, fetch-failed, found-held, holds-all}
use Rattle.object_state.proofs.TreeReadLemmas.{memory-cause, read-blamed}
use Rattle.object_state.proofs.TreeReadLemmas.{out-only, read-nothing, reads-as, search-ends, searched-of}
use Rattle.object_state.proofs.reading.read_tree.Goals as goal
use Rattle.geometry_model.proofs.NumberLaws.{page-some}

pub overflow_add-at : goal.overflow_add-at
overflow_add-at g c = omega (arith, c.requires.inside)

pub returns-then-len-eq0 : goal.returns-then-len-eq0
returns-then-len-eq0 g c = record {
  read = subst (λ (bytes : List ℕ). ReadsTree g.P.S.Span.tells c.args.geometry.now c.args.held.now c.args.root.now c.args.at c.args.len
      c.args.cache.now (g.P.Port.meter c.args.port.now) (g.P.Port.meter c.args.port.now) (Ok bytes)) (sym c.new.ensures)
      (read-nothing g.P.S.Span.tells c.args.geometry.now c.args.held.now c.args.root.now c.args.at c.args.len c.args.cache.now
      (g.P.Port.meter c.args.port.now) c.if-len-eq0.true c.requires.nodes);
}

pub returns-in-Err-Fault : goal.returns-in-Err-Fault
returns-in-Err-Fault g c =
    let readable : IsReadable g.P.S.Span.tells c.args.geometry.now c.args.held.now c.args.root.now c.args.at c.args.len = record {
      some = page-some c.args.geometry.now c.page-page.ensures.range;
      inside = c.requires.inside;
      sized = c.requires.sized;
      told = c.requires.told;
    } in
    let searched = searched-of g.P.S.Span.tells c.args.geometry.now c.args.held.now c.args.root.now c.args.at c.args.len c.args.cache.now
    c.entries.new.cache (g.P.Port.meter c.args.port.now) (g.P.Port.meter c.entries.new.port) readable c.requires.page
    c.entries.ensures.searches in
    let cause : HasCause (g.P.Port.meter c.args.port.now).faults (g.P.Port.meter c.entries.new.port).faults
    (look.Fault ≡ look.Fault) = record {
      kept = c.in-Err-Fault.ensures.cause.kept;
      raised = λ same. c.in-Err-Fault.ensures.cause.raised (ap (λ (f : TreeFail). Err f) c.in-Err-Fault.field-0-is);
      still = λ well. absurd (well refl);
    } in
    record {
      read = search-ends g.P.S.Span.tells c.args.geometry.now c.args.held.now c.args.root.now c.args.at c.args.len c.entries.new.cache
          (g.P.Port.meter c.args.port.now) (g.P.Port.meter c.entries.new.port) look.Fault searched cause
          (omega (arith, c.if-len-eq0.false));
    }

pub returns-in-Err-Memory : goal.returns-in-Err-Memory
returns-in-Err-Memory g c =
    let readable : IsReadable g.P.S.Span.tells c.args.geometry.now c.args.held.now c.args.root.now c.args.at c.args.len = record {
      some = page-some c.args.geometry.now c.page-page.ensures.range;
      inside = c.requires.inside;
      sized = c.requires.sized;
      told = c.requires.told;
    } in
    let searched = searched-of g.P.S.Span.tells c.args.geometry.now c.args.held.now c.args.root.now c.args.at c.args.len c.args.cache.now
    c.entries.new.cache (g.P.Port.meter c.args.port.now) (g.P.Port.meter c.entries.new.port) readable c.requires.page
    c.entries.ensures.searches in
    record {
      read = search-ends g.P.S.Span.tells c.args.geometry.now c.args.held.now c.args.root.now c.args.at c.args.len c.entries.new.cache
          (g.P.Port.meter c.args.port.now) (g.P.Port.meter c.entries.new.port) look.Memory searched
          (memory-cause (g.P.Port.meter c.args.port.now).faults (g.P.Port.meter c.entries.new.port).faults
          (c.in-Err-Memory.ensures.cause.still (λ bad. absurd cc))) (omega (arith, c.if-len-eq0.false));
    }

pub returns-then-not-are_held : goal.returns-then-not-are_held
returns-then-not-are_held g c =
    let n = c.args.geometry.now in
    let held = c.args.held.now in
    let readable : IsReadable g.P.S.Span.tells n held c.args.root.now c.args.at c.args.len = record {
      some = page-some n c.page-page.ensures.range;
      inside = c.requires.inside;
      sized = c.requires.sized;
      told = c.requires.told;
    } in
    let searched = searched-of g.P.S.Span.tells n held c.args.root.now c.args.at c.args.len c.args.cache.now c.entries.new.cache
    (g.P.Port.meter c.args.port.now) (g.P.Port.meter c.entries.new.port) readable c.requires.page c.entries.ensures.searches in
    let silent = λ (tell : IsTrue g.P.S.Span.tells).
    false≢true (sym c.if-not-are_held.true ∙ c.are_held.ensures.1
    (subst (AllByRecursion (λ (s : Placed). IsHeldSegment n held s.pair)) (sym c.as_slice.ensures.value)
    (found-held n held c.args.root.now c.args.at c.args.len c.in-Ok.segments.items (c.requires.told tell) (c.in-Ok.ensures.told tell)))) in
    record {
      read = read-blamed g.P.S.Span.tells n held c.args.root.now c.args.at c.args.len c.entries.new.cache
          (g.P.Port.meter c.args.port.now) (g.P.Port.meter c.entries.new.port) (g.P.Port.meter c.blame.new.self) searched silent
          (c.in-Ok.ensures.cause.still (λ bad. absurd cc)) c.blame.ensures.counts c.blame.ensures.kept (c.blame.ensures.faults silent);
    }

pub returns-in_default : goal.returns-in_default
returns-in_default g c =
    let readable : IsReadable g.P.S.Span.tells c.args.geometry.now c.args.held.now c.args.root.now c.args.at c.args.len = record {
      some = page-some c.args.geometry.now c.page-page.ensures.range;
      inside = c.requires.inside;
      sized = c.requires.sized;
      told = c.requires.told;
    } in
    let searched = searched-of g.P.S.Span.tells c.args.geometry.now c.args.held.now c.args.root.now c.args.at c.args.len c.args.cache.now
    c.entries.new.cache (g.P.Port.meter c.args.port.now) (g.P.Port.meter c.entries.new.port) readable c.requires.page
    c.entries.ensures.searches in
    record {
      read = search-ends g.P.S.Span.tells c.args.geometry.now c.args.held.now c.args.root.now c.args.at c.args.len c.entries.new.cache
          (g.P.Port.meter c.args.port.now) (g.P.Port.meter c.entries.new.port) look.Memory searched
          (memory-cause (g.P.Port.meter c.args.port.now).faults (g.P.Port.meter c.entries.new.port).faults
          (c.in-Ok.ensures.cause.still (λ bad. absurd cc))) (omega (arith, c.if-len-eq0.false));
    }

pub returns-in_default-vec : goal.returns-in_default-vec
returns-in_default-vec g c =
    let readable : IsReadable g.P.S.Span.tells c.args.geometry.now c.args.held.now c.args.root.now c.args.at c.args.len = record {
      some = page-some c.args.geometry.now c.page-page.ensures.range;
      inside = c.requires.inside;
      sized = c.requires.sized;
      told = c.requires.told;
    } in
    let searched = searched-of g.P.S.Span.tells c.args.geometry.now c.args.held.now c.args.root.now c.args.at c.args.len c.args.cache.now
    c.entries.new.cache (g.P.Port.meter c.args.port.now) (g.P.Port.meter c.entries.new.port) readable c.requires.page
    c.entries.ensures.searches in
    record {
      read = search-ends g.P.S.Span.tells c.args.geometry.now c.args.held.now c.args.root.now c.args.at c.args.len c.entries.new.cache
          (g.P.Port.meter c.args.port.now) (g.P.Port.meter c.entries.new.port) look.Memory searched
          (memory-cause (g.P.Port.meter c.args.port.now).faults (g.P.Port.meter c.entries.new.port).faults
          (c.in-Ok.ensures.cause.still (λ bad. absurd cc))) (omega (arith, c.if-len-eq0.false));
    }

pub read_bytes-requires-clause-held : goal.read_bytes-requires-clause-held
read_bytes-requires-clause-held g c =
    let n = c.args.geometry.now in
    let page = c.entries.ensures.searches.uses.used.page ∙ c.requires.page in
    holds-all n c.args.held.now (g.P.Port.meter c.entries.new.port).page c.as_slice-2.result.now page
    (subst (AllByRecursion (λ (s : Placed). IsHeldSegment n c.args.held.now s.pair))
    (c.as_slice.ensures.value ∙ sym c.as_slice-2.ensures.value)
    (c.are_held.ensures.0 c.if-not-are_held.false))

pub returns-in-Ok-read_bytes : goal.returns-in-Ok-read_bytes
returns-in-Ok-read_bytes g c =
    let readable : IsReadable g.P.S.Span.tells c.args.geometry.now c.args.held.now c.args.root.now c.args.at c.args.len = record {
      some = page-some c.args.geometry.now c.page-page.ensures.range;
      inside = c.requires.inside;
      sized = c.requires.sized;
      told = c.requires.told;
    } in
    let searched = searched-of g.P.S.Span.tells c.args.geometry.now c.args.held.now c.args.root.now c.args.at c.args.len c.args.cache.now
    c.entries.new.cache (g.P.Port.meter c.args.port.now) (g.P.Port.meter c.entries.new.port) readable c.requires.page
    c.entries.ensures.searches in
    let page = searched.used.page ∙ c.requires.page in
    let same = c.as_slice-2.ensures.value in
    let long : length c.deref_mut.result.now ≡ c.args.len = omega (arith, c.deref_mut.ensures.len, c.in-Ok-vec.ensures.len) in
    let fetched : IsFetched g.P.S.Span.tells c.args.geometry.now c.args.held.now c.args.root.now c.args.at c.args.len c.in-Ok.segments.items
    (g.P.Port.meter c.args.port.now) (g.P.Port.meter c.entries.new.port) (g.P.Port.meter c.read_bytes.new.port) = record {
      found = c.in-Ok.ensures.told;
      level = c.in-Ok.ensures.level;
      still = c.in-Ok.ensures.cause.still (λ bad. absurd cc);
      reads = reads-as c.args.geometry.now c.args.at c.args.len (g.P.Port.meter c.entries.new.port).page (length c.deref_mut.result.now)
          c.as_slice-2.result.now c.in-Ok.segments.items (g.P.Port.meter c.entries.new.port) (g.P.Port.meter c.read_bytes.new.port)
          page same long c.read_bytes.ensures.reads;
    } in
    let size : c.in-Ok-vec.bytes.len ≡ length c.read_bytes.new.out = omega (arith, c.read_bytes.auto.out, c.deref_mut.ensures.len) in
    let whole = out-only c.read_bytes.new.out c.in-Ok-vec.bytes.items c.from_vec.result c.in-Ok-vec.bytes.len size c.from_vec.ensures in
    record {
      read = fetch-done g.P.S.Span.tells c.args.geometry.now c.args.held.now c.args.root.now c.args.at c.args.len c.in-Ok.segments.items
          c.entries.new.cache (g.P.Port.meter c.args.port.now) (g.P.Port.meter c.entries.new.port)
          (g.P.Port.meter c.read_bytes.new.port) c.from_vec.result readable searched fetched
          (c.in-Ok-read_bytes.ensures.cause.still false≢true) (ap length whole ∙ (c.read_bytes.auto.out ∙ long))
          (λ tell. whole ∙ bytes-as c.args.geometry.now c.args.held.now c.args.at c.args.len (g.P.Port.meter c.entries.new.port).page
          (length c.deref_mut.result.now) c.as_slice-2.result.now c.in-Ok.segments.items c.read_bytes.new.out page same long
          (c.in-Ok-read_bytes.ensures.bytes tell));
    }

pub returns : goal.returns
returns g c =
    let readable : IsReadable g.P.S.Span.tells c.args.geometry.now c.args.held.now c.args.root.now c.args.at c.args.len = record {
      some = page-some c.args.geometry.now c.page-page.ensures.range;
      inside = c.requires.inside;
      sized = c.requires.sized;
      told = c.requires.told;
    } in
    let searched = searched-of g.P.S.Span.tells c.args.geometry.now c.args.held.now c.args.root.now c.args.at c.args.len c.args.cache.now
    c.entries.new.cache (g.P.Port.meter c.args.port.now) (g.P.Port.meter c.entries.new.port) readable c.requires.page
    c.entries.ensures.searches in
    let page = searched.used.page ∙ c.requires.page in
    let same = c.as_slice-2.ensures.value in
    let long : length c.deref_mut.result.now ≡ c.args.len = omega (arith, c.deref_mut.ensures.len, c.in-Ok-vec.ensures.len) in
    let fetched : IsFetched g.P.S.Span.tells c.args.geometry.now c.args.held.now c.args.root.now c.args.at c.args.len c.in-Ok.segments.items
    (g.P.Port.meter c.args.port.now) (g.P.Port.meter c.entries.new.port) (g.P.Port.meter c.read_bytes.new.port) = record {
      found = c.in-Ok.ensures.told;
      level = c.in-Ok.ensures.level;
      still = c.in-Ok.ensures.cause.still (λ bad. absurd cc);
      reads = reads-as c.args.geometry.now c.args.at c.args.len (g.P.Port.meter c.entries.new.port).page (length c.deref_mut.result.now)
          c.as_slice-2.result.now c.in-Ok.segments.items (g.P.Port.meter c.entries.new.port) (g.P.Port.meter c.read_bytes.new.port)
          page same long c.read_bytes.ensures.reads;
    } in
    record {
      read = fetch-failed g.P.S.Span.tells c.args.geometry.now c.args.held.now c.args.root.now c.args.at c.args.len c.in-Ok.segments.items
          c.entries.new.cache (g.P.Port.meter c.args.port.now) (g.P.Port.meter c.entries.new.port)
          (g.P.Port.meter c.read_bytes.new.port) readable searched fetched (c.in-Err.ensures.cause.raised refl)
          c.in-Err.ensures.cause.kept;
    }
