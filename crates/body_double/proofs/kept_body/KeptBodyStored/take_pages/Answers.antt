use Rattle.std.proofs.Common.{sym, ◌∙◌}
use Rattle.object_body.specs.Stored.{entry_of}
use Rattle.body_double.specs.Kept.{fits_all}
use Rattle.body_double.proofs.KeptLemmas.{kept-of, kept-loaded}
use Rattle.body_double.proofs.kept_body.KeptBodyStored.take_pages.Goals as goal

pub invariant_of-result : goal.invariant_of-result
invariant_of-result g c = kept-of g.P.S.Span.tells (fits_all c.args.geometry.now) c.args.geometry.now
    (entry_of c.args.root c.args.threshold) c.args.held.now c.in_ok-held.held
    (sym c.take.ensures.value ∙ c.in_ok-held.was) c.page-page.ensures.range c.requires.load

pub returns : goal.returns
returns g c = record {
  loaded = kept-loaded g.P.S.Span.tells c.args.geometry.now (entry_of c.args.root c.args.threshold) c.in_ok-held.held
      c.args.held.now (sym c.take.ensures.value ∙ c.in_ok-held.was);
  stays = λ none. absurd cc;
}
