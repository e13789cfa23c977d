-- The superblock on its page, and the entries behind it.
use Rattle.std.proofs.Common.{◌≡◌, ℕ, ◌+◌, ◌-◌, ◌*◌, ◌≤◌, List, length, drop, map, ◌∙◌, arith}
use Rattle.std.proofs.lemmas.List.{length-drop, length-take-le, drop_all}
use Rattle.geometry_model.proofs.NumberLaws.{objects-bytes}
use Rattle.store_format.specs.Writing.{front_count}
use Rattle.image_store.proofs.CatalogLemmas.{front-put}
use Rattle.image_store.proofs.catalog.put_front.Goals as goal

pub put_super-requires : goal.put_super-requires
put_super-requires g c =
    let rows : 1 * c.args.geometry.now.page ≤ front_count c.args.geometry.now * c.args.geometry.now.page = omega arith in
    omega (arith, rows, c.requires.room)

pub put_entries-requires : goal.put_entries-requires
put_entries-requires g c =
    let n = c.args.geometry.now in
    let size : ℕ = c.page-size.result in
    let room : List ℕ = c.put_super.new.room in
    let rows : front_count n * n.page ≡ n.page + n.catalog * n.page = omega arith in
    let cut = length-drop size room in
    length-take-le (length room - size) (drop size room) (omega (arith, cut))
    ∙ omega (
      arith,
      c.put_super.auto.room,
      c.requires.room,
      c.requires.objects,
      objects-bytes n c.page-size.ensures.range,
      rows,
      c.page-size.ensures.exact,
    )

pub returns : goal.returns
returns g c =
    let n = c.args.geometry.now in
    let size : ℕ = c.page-size.result in
    let room : List ℕ = c.put_super.new.room in
    front-put n (map (λ x. g.B.Stored.entry x.body) c.args.objects.now) size room c.put_entries.new.out _ c.page-size.ensures.exact
    c.put_super.ensures c.put_entries.ensures (drop_all (length room - size) (drop size room) (omega (arith, length-drop size room)))
