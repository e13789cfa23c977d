use Rattle.std.proofs.Common.{◌≡◌, ◌*◌, map, take}
use Rattle.std.specs.List.{flat_map}
use Rattle.image_model.specs.Catalog.{entry_bytes}
use Rattle.image_store.proofs.catalog.put_entries.Given as goal

-- the entries of the objects before this one stand there
abbrev pub invariant-loop-o : goal.invariant-loop-o
invariant-loop-o g l = record {
  stand : take (16 * l.o) l.out ≡ flat_map (entry_bytes 2) (map (λ x. g.B.Stored.entry x.body) (take l.o l.objects));
}
