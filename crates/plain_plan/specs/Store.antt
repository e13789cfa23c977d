-- The numbers of a store as the definitions know them.
use Rattle.geometry_model.specs.Numbers.{Numbers}
use Rattle.plain_plan.specs.declared.numbers.Store.{Store}

abbrev pub numbers_of : Store → Numbers
numbers_of store = record {
  page = store.page;
  order = store.order;
  spaces = store.spaces;
  catalog = store.catalog;
  threshold = store.threshold;
}
