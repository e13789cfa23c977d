-- The same pages in their vectors.
use Rattle.std.proofs.Common.{ℕ, map, sym, ◌∙◌, IsTrue}
use Rattle.std.specs.Prelude.{OnOk, OnErr}
use Rattle.std.proofs.lemmas.List.{with_items_is}
use Rattle.store_parts.specs.Fixed.{FixedView, IsFixed, fixed_view}
use Rattle.image_store.specs.Closing.{AreFixedCut, AreFixedWritten, closed_directory, closed_front, fixed_of}
use Rattle.image_store.proofs.FixedLemmas.{other-parts}
use Rattle.image_store.proofs.fixed.write_fixed.Goals as goal

pub write_pages-requires-clause-fixed : goal.write_pages-requires-clause-fixed
write_pages-requires-clause-fixed g c =
    other-parts g.P.S.Span.start g.P.S.Span.contents (λ v. IsFixed g.P.S.Span.tells c.args.geometry.now v) c.args.fixed.now.front
    c.args.fixed.now.directories.items c.deref_mut.result.now c.args.fixed.now.room.items c.deref_mut-2.result.now
    c.deref_mut.ensures.value c.deref_mut-2.ensures.value c.requires.fixed

pub returns-clause-fixed : goal.returns-clause-fixed
returns-clause-fixed g c =
    other-parts g.P.S.Span.start g.P.S.Span.contents (λ v. IsFixed g.P.S.Span.tells c.args.geometry.now v) c.write_pages.new.front
    c.write_pages.new.directories _ c.write_pages.new.room _
    (with_items_is c.args.fixed.now.directories c.write_pages.new.directories
    (c.write_pages.auto.directories ∙ c.deref_mut.ensures.len))
    (with_items_is c.args.fixed.now.room c.write_pages.new.room (c.write_pages.auto.room ∙ c.deref_mut-2.ensures.len))
    c.write_pages.ensures.fixed

pub returns-clause-written : goal.returns-clause-written
returns-clause-written g c =
    let n = c.args.geometry.now in
    other-parts g.P.S.Span.start g.P.S.Span.contents
    (λ v. OnOk c.write_pages.result (IsTrue g.P.S.Span.tells → AreFixedWritten n (closed_directory n c.args.spaces.now)
    (closed_front n (map (λ x. g.B.Stored.entry x.body) c.args.objects.now)) v)) c.write_pages.new.front
    c.write_pages.new.directories _ c.write_pages.new.room _
    (with_items_is c.args.fixed.now.directories c.write_pages.new.directories
    (c.write_pages.auto.directories ∙ c.deref_mut.ensures.len))
    (with_items_is c.args.fixed.now.room c.write_pages.new.room (c.write_pages.auto.room ∙ c.deref_mut-2.ensures.len))
    c.write_pages.ensures.written

pub returns-clause-failed : goal.returns-clause-failed
returns-clause-failed g c =
    let n = c.args.geometry.now in
    let old : FixedView = fixed_view g.P.S.Span.start g.P.S.Span.contents c.args.fixed.now in
    other-parts g.P.S.Span.start g.P.S.Span.contents
    (λ v. OnErr c.write_pages.result (IsTrue g.P.S.Span.tells → (done : ℕ) × AreFixedCut n (closed_directory n c.args.spaces.now)
    done old v)) c.write_pages.new.front
    c.write_pages.new.directories _ c.write_pages.new.room _
    (with_items_is c.args.fixed.now.directories c.write_pages.new.directories
    (c.write_pages.auto.directories ∙ c.deref_mut.ensures.len))
    (with_items_is c.args.fixed.now.room c.write_pages.new.room (c.write_pages.auto.room ∙ c.deref_mut-2.ensures.len))
    (other-parts g.P.S.Span.start g.P.S.Span.contents
    (λ v. OnErr c.write_pages.result (IsTrue g.P.S.Span.tells → (done : ℕ) × AreFixedCut n (closed_directory n c.args.spaces.now)
    done v (fixed_of g.P.S.Span.start g.P.S.Span.contents c.write_pages.new.front c.write_pages.new.directories c.write_pages.new.room)))
    c.args.fixed.now.front c.deref_mut.result.now c.args.fixed.now.directories.items c.deref_mut-2.result.now c.args.fixed.now.room.items
    (sym c.deref_mut.ensures.value) (sym c.deref_mut-2.ensures.value) c.write_pages.ensures.failed)
