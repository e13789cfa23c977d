use Rattle.std.proofs.Common.{true, ◌≤◌, length}
use Rattle.page_port.specs.Pages.{AreOf}
use Rattle.span_store.specs.Held.{AllSized}
use Rattle.image_check.specs.Owners.{IsMarked}
use Rattle.image_check.specs.Shares.{AreOwnersBelow, HoldsData}
use Rattle.image_check.proofs.tests.opened.Given as goal

abbrev pub invariant-loop-page : goal.invariant-loop-page
invariant-loop-page g l = record {
  rest : AreOf 256 l.rest.pages;
  sized : AllSized true 256 l.held;
  marked : IsMarked l.geometry l.held l.walk;
  below : AreOwnersBelow 0 l.walk;
  data_pages : HoldsData l.geometry l.held;
  count : length l.held.spans ≤ l.page;
}
