-- One entry more at each step.
use Rattle.std.proofs.Common.{sym, ap, ◌∙◌, arith}
use Rattle.image_store.proofs.CatalogLemmas.{entry-put, entries-put}
use Rattle.image_store.proofs.catalog.put_entries.Goals as goal

pub loop-o-preserved : goal.loop-o-preserved
loop-o-preserved g c = record {
  stand = entry-put (λ x. g.B.Stored.entry x.body) c.args.objects.now c.loop-o.o c.index-objects-o.result _ c.loop-o.out
      c.put_entry.new.out c.loop-o-test.true c.index-objects-o.is
      (c.entry_of.ensures ∙ ap (λ x. g.B.Stored.entry x.body) (sym c.index-objects-o.is)) c.loop-o.invariant.stand c.put_entry.ensures;
}

pub returns : goal.returns
returns g c = entries-put (λ x. g.B.Stored.entry x.body) c.args.objects.now c.loop-o.o c.loop-o.out (omega (arith, c.loop-o-test.false))
    (c.loop-o.auto.out ∙ c.requires) c.loop-o.invariant.stand
