-- The exchange: what its steps say of the tree, of what is held and kept, and of the pages that were asked for and written.
use Rattle.std.proofs.Common.{◌≡◌, ℕ, ◌+◌, ◌-◌, IsTrue, List, [], ap, subst, sym, ◌∙◌}
use Rattle.geometry_model.proofs.NumberLaws.{page_size-low}
use Rattle.layout_model.specs.Levels.{count_made, spliced}
use Rattle.local_laws.specs.Path.{PathLevel, splice_path}
use Rattle.span_store.specs.Held.{bytes_on}
use Rattle.tree_model.specs.declared.entry.Pair.{Pair}
use Rattle.tree_model.specs.Node.{room_of}
use Rattle.tree_model.specs.Tree.{bytes_of, entries_of}
use Rattle.tree_pages.specs.Levels.{levels_at}
use Rattle.tree_splice.specs.Fresh.{page_numbers}
use Rattle.tree_splice.specs.Splice.{IsBetween}
use Rattle.tree_splice.specs.Way.{AreAllMade, MadeStand, root_with}
use Rattle.tree_splice.specs.Down.{ShowsWay}
use Rattle.tree_splice.specs.declared.remade.Remade.{Remade}
use Rattle.tree_splice.proofs.AnswerLemmas.{given-err}
use Rattle.tree_splice.proofs.EndLemmas.{
  Holds,
  Makes,
  can-as,
  end-held,
  end-home,
  end-kept,
  end-single,
  end-stand,
  end-told,
  firsts-made,
  made-long,
  makes-as,
}
use Rattle.tree_splice.proofs.EndLemmas.{want-as, writes-within}
use Rattle.tree_splice.proofs.ToldLemmas.{Found, found-can, found-want, made-room}
use Rattle.tree_splice.proofs.shadow.splice.Goals as goal

pub make-requires-clause-can : goal.make-requires-clause-can
make-requires-clause-can g c = λ t.
    let found : Found (g.P.Port.meter c.args.port.now).page c.args.held.now c.args.root.now c.args.from c.args.to
    c.in_ok-draft.draft.place.from c.in_ok-draft.draft.place.count c.args.fresh.now.items c.in_ok-draft.draft.path.items = record {
      large = page_size-low (g.P.Port.meter c.args.port.now).page c.requires.asks.pages.size_is;
      sized = λ t' q. c.requires.asks.pages.sized t q;
      tree = c.requires.asks.stands t;
      way = λ i n here.
          subst (λ (f : List Pair). ShowsWay (room_of (g.P.Port.meter c.args.port.now).page)
          (levels_at (bytes_on c.args.held.now) c.args.root.now) i n f c.in_ok-draft.draft.path.items c.in_ok-draft.draft.place.from
          c.in_ok-draft.draft.place.count) c.as_slice.ensures (c.in_ok-draft.ensures.told t i n here);
      some = c.requires.some;
      small = c.requires.sum;
    } in
    let borders = c.requires.borders t in
    let can = found-can (g.P.Port.meter c.args.port.now).page c.args.held.now c.args.root.now c.args.from c.args.to
    c.in_ok-draft.draft.place.from c.in_ok-draft.draft.place.count borders.0 borders.1 c.args.fresh.now.items
    c.in_ok-draft.draft.path.items found borders.2 in
    can-as (g.P.Port.meter c.args.port.now).page (g.P.Port.meter c.prepare.new.port).page c.in_ok-draft.draft.path.items c.deref.result.now
    c.in_ok-draft.draft.place.from c.in_ok-draft.draft.place.count c.args.fresh.now.items c.as_slice-2.result.now
    c.in_ok-draft.ensures.reads.uses.used.page c.deref.ensures.value c.as_slice-2.ensures can

pub returns-in-Err-clause-granted : goal.returns-in-Err-clause-granted
returns-in-Err-clause-granted g c = λ views told same.
    let wanted : c.in_ok-draft.draft.want ≡ count_made (splice_path (room_of (g.P.Port.meter c.args.port.now).page)
    c.in_ok-draft.draft.path.items c.in_ok-draft.draft.place.from c.in_ok-draft.draft.place.count c.args.fresh.now.items [])
    =
    c.in_ok-draft.ensures.want
    ∙ ap (λ (f : List Pair). count_made (splice_path (room_of (g.P.Port.meter c.args.port.now).page) c.in_ok-draft.draft.path.items
    c.in_ok-draft.draft.place.from c.in_ok-draft.draft.place.count f [])) c.as_slice.ensures in
    given-err {A = List ℕ} (λ (pages : List ℕ). pages) (λ (want : ℕ). IsTrue g.P.S.Span.tells → (k count : ℕ) →
    IsBetween (entries_of (bytes_on c.args.held.now) c.args.root.now.height c.args.root.now.page) c.args.from c.args.to k count →
    want ≡ count_made (spliced (room_of (g.P.Port.meter c.args.port.now).page) (levels_at (bytes_on c.args.held.now) c.args.root.now) k
    count c.args.fresh.now.items []))
    views c.args.start c.in_ok-draft.draft.want (g.L.Hints.rest c.args.latches.now).frame c.in-Err.fail (g.L.Hints.rest c.make.new.latches)
    (λ t k count between.
    let found : Found (g.P.Port.meter c.args.port.now).page c.args.held.now c.args.root.now c.args.from c.args.to
    c.in_ok-draft.draft.place.from c.in_ok-draft.draft.place.count c.args.fresh.now.items c.in_ok-draft.draft.path.items = record {
      large = page_size-low (g.P.Port.meter c.args.port.now).page c.requires.asks.pages.size_is;
      sized = λ t' q. c.requires.asks.pages.sized t q;
      tree = c.requires.asks.stands t;
      way = λ i n here.
          subst (λ (f : List Pair). ShowsWay (room_of (g.P.Port.meter c.args.port.now).page)
          (levels_at (bytes_on c.args.held.now) c.args.root.now) i n f c.in_ok-draft.draft.path.items c.in_ok-draft.draft.place.from
          c.in_ok-draft.draft.place.count) c.as_slice.ensures (c.in_ok-draft.ensures.told t i n here);
      some = c.requires.some;
      small = c.requires.sum;
    } in
    found-want (g.P.Port.meter c.args.port.now).page c.args.held.now c.args.root.now c.args.from c.args.to c.in_ok-draft.draft.place.from
    c.in_ok-draft.draft.place.count k count c.in_ok-draft.draft.want c.args.fresh.now.items c.in_ok-draft.draft.path.items found between
    wanted)
    (c.in-Err.ensures.told views told same)

pub returns-in-Err-clause-writes : goal.returns-in-Err-clause-writes
returns-in-Err-clause-writes g c = λ t k count between.
    let wanted : c.in_ok-draft.draft.want ≡ count_made (splice_path (room_of (g.P.Port.meter c.args.port.now).page)
    c.in_ok-draft.draft.path.items c.in_ok-draft.draft.place.from c.in_ok-draft.draft.place.count c.args.fresh.now.items [])
    =
    c.in_ok-draft.ensures.want
    ∙ ap (λ (f : List Pair). count_made (splice_path (room_of (g.P.Port.meter c.args.port.now).page) c.in_ok-draft.draft.path.items
    c.in_ok-draft.draft.place.from c.in_ok-draft.draft.place.count f [])) c.as_slice.ensures in
    let found : Found (g.P.Port.meter c.args.port.now).page c.args.held.now c.args.root.now c.args.from c.args.to
    c.in_ok-draft.draft.place.from c.in_ok-draft.draft.place.count c.args.fresh.now.items c.in_ok-draft.draft.path.items = record {
      large = page_size-low (g.P.Port.meter c.args.port.now).page c.requires.asks.pages.size_is;
      sized = λ t' q. c.requires.asks.pages.sized t q;
      tree = c.requires.asks.stands t;
      way = λ i n here.
          subst (λ (f : List Pair). ShowsWay (room_of (g.P.Port.meter c.args.port.now).page)
          (levels_at (bytes_on c.args.held.now) c.args.root.now) i n f c.in_ok-draft.draft.path.items c.in_ok-draft.draft.place.from
          c.in_ok-draft.draft.place.count) c.as_slice.ensures (c.in_ok-draft.ensures.told t i n here);
      some = c.requires.some;
      small = c.requires.sum;
    } in
    writes-within c.in_ok-draft.draft.want _ (g.P.Port.meter c.args.port.now) (g.P.Port.meter c.prepare.new.port)
    (g.P.Port.meter c.make.new.port)
    (found-want (g.P.Port.meter c.args.port.now).page c.args.held.now c.args.root.now c.args.from c.args.to c.in_ok-draft.draft.place.from
    c.in_ok-draft.draft.place.count k count c.in_ok-draft.draft.want c.args.fresh.now.items c.in_ok-draft.draft.path.items found between
    wanted)
    c.in_ok-draft.ensures.reads.uses.written c.make.ensures.writes

pub keep_levels-requires-clause-made : goal.keep_levels-requires-clause-made
keep_levels-requires-clause-made g c =
    subst (λ (levels : List Remade). AreAllMade c.make.new.scratch.node.pairs.room levels) (sym c.deref-4.ensures.value)
    (made-room (room_of (g.P.Port.meter c.prepare.new.port).page) c.make.new.scratch.node.pairs.room c.in-Ok.made.0.levels.items
    c.make.ensures.prepared.node c.in-Ok.ensures.sound)

pub returns-clause-told : goal.returns-clause-told
returns-clause-told g c = λ t k count between.
    let wanted : c.in_ok-draft.draft.want ≡ count_made (splice_path (room_of (g.P.Port.meter c.args.port.now).page)
    c.in_ok-draft.draft.path.items c.in_ok-draft.draft.place.from c.in_ok-draft.draft.place.count c.args.fresh.now.items [])
    =
    c.in_ok-draft.ensures.want
    ∙ ap (λ (f : List Pair). count_made (splice_path (room_of (g.P.Port.meter c.args.port.now).page) c.in_ok-draft.draft.path.items
    c.in_ok-draft.draft.place.from c.in_ok-draft.draft.place.count f [])) c.as_slice.ensures in
    let found : Found (g.P.Port.meter c.args.port.now).page c.args.held.now c.args.root.now c.args.from c.args.to
    c.in_ok-draft.draft.place.from c.in_ok-draft.draft.place.count c.args.fresh.now.items c.in_ok-draft.draft.path.items = record {
      large = page_size-low (g.P.Port.meter c.args.port.now).page c.requires.asks.pages.size_is;
      sized = λ t' q. c.requires.asks.pages.sized t q;
      tree = c.requires.asks.stands t;
      way = λ i n here.
          subst (λ (f : List Pair). ShowsWay (room_of (g.P.Port.meter c.args.port.now).page)
          (levels_at (bytes_on c.args.held.now) c.args.root.now) i n f c.in_ok-draft.draft.path.items c.in_ok-draft.draft.place.from
          c.in_ok-draft.draft.place.count) c.as_slice.ensures (c.in_ok-draft.ensures.told t i n here);
      some = c.requires.some;
      small = c.requires.sum;
    } in
    let new : Makes g.P.S.Span.tells (g.P.Port.meter c.prepare.new.port).page c.prepare.new.held c.deref.result.now
    c.in_ok-draft.draft.place.from c.in_ok-draft.draft.place.count c.in_ok-draft.draft.want c.as_slice-2.result.now c.in-Ok.made.1.pages
    c.in-Ok.made.0.levels.items c.in-Ok.made.0.made c.in-Ok.made.0.left = record {
      wanted = want-as (g.P.Port.meter c.args.port.now).page (g.P.Port.meter c.prepare.new.port).page c.in_ok-draft.draft.path.items
          c.deref.result.now c.in_ok-draft.draft.place.from c.in_ok-draft.draft.place.count c.in_ok-draft.draft.want c.args.fresh.now.items
          c.as_slice-2.result.now c.in_ok-draft.ensures.reads.uses.used.page
          c.deref.ensures.value c.as_slice-2.ensures wanted;
      shape = c.in-Ok.ensures.levels;
      sound = c.in-Ok.ensures.sound;
      made_is = c.in-Ok.ensures.made;
      left_is = c.in-Ok.ensures.left;
      all = c.in-Ok.ensures.all;
      written = c.in-Ok.ensures.written;
      lacked = c.in-Ok.ensures.lacked;
      apart = c.in-Ok.ensures.apart;
      sized = c.in-Ok.ensures.sized;
    } in
    let makes = makes-as g.P.S.Span.tells (g.P.Port.meter c.args.port.now).page (g.P.Port.meter c.prepare.new.port).page c.prepare.new.held
    c.in_ok-draft.draft.path.items c.deref.result.now c.in_ok-draft.draft.place.from c.in_ok-draft.draft.place.count
    c.in_ok-draft.draft.want c.args.fresh.now.items c.as_slice-2.result.now c.in-Ok.made.1.pages c.in-Ok.made.0.levels.items
    c.in-Ok.made.0.made c.in-Ok.made.0.left
    c.in_ok-draft.ensures.reads.uses.used.page c.deref.ensures.value c.as_slice-2.ensures new in
    let holds : Holds c.in-Ok.made.1.pages c.args.held.now c.prepare.new.held c.hold.new.held = record {
      same = c.in_ok-draft.ensures.spans;
      pages_are = c.hold.ensures.pages;
      begun = c.hold.ensures.begun;
    } in
    let bytes = c.args.root.now.length - (c.args.to - c.args.from) + c.bytes_of.result in
    let rooted = c.new_root-root.ensures
    ∙ (ap (λ (p : List PathLevel). root_with p c.deref-3.result.now bytes) c.deref-2.ensures.value
    ∙ ap (λ (ls : List Remade). root_with c.in_ok-draft.draft.path.items ls bytes) c.deref-3.ensures.value) in
    end-told g.P.S.Span.tells (g.P.Port.meter c.args.port.now).page c.args.held.now c.prepare.new.held c.hold.new.held c.args.root.now
    c.new_root-root.result c.args.from c.args.to k count c.in_ok-draft.draft.want c.in_ok-draft.draft.place.from
    c.in_ok-draft.draft.place.count c.args.fresh.now.items c.in_ok-draft.draft.path.items c.in-Ok.made.1.pages
    c.in-Ok.made.0.levels.items c.in-Ok.made.0.made c.in-Ok.made.0.left bytes t found between c.requires.order makes holds
    (ap (λ (n : ℕ). c.args.root.now.length - (c.args.to - c.args.from) + n)
    (c.bytes_of.ensures ∙ ap (λ (f : List Pair). bytes_of f) c.as_slice-3.ensures)) rooted

pub returns-clause-held : goal.returns-clause-held
returns-clause-held g c =
    let wanted : c.in_ok-draft.draft.want ≡ count_made (splice_path (room_of (g.P.Port.meter c.args.port.now).page)
    c.in_ok-draft.draft.path.items c.in_ok-draft.draft.place.from c.in_ok-draft.draft.place.count c.args.fresh.now.items [])
    =
    c.in_ok-draft.ensures.want
    ∙ ap (λ (f : List Pair). count_made (splice_path (room_of (g.P.Port.meter c.args.port.now).page) c.in_ok-draft.draft.path.items
    c.in_ok-draft.draft.place.from c.in_ok-draft.draft.place.count f [])) c.as_slice.ensures in
    let new : Makes g.P.S.Span.tells (g.P.Port.meter c.prepare.new.port).page c.prepare.new.held c.deref.result.now
    c.in_ok-draft.draft.place.from c.in_ok-draft.draft.place.count c.in_ok-draft.draft.want c.as_slice-2.result.now c.in-Ok.made.1.pages
    c.in-Ok.made.0.levels.items c.in-Ok.made.0.made c.in-Ok.made.0.left = record {
      wanted = want-as (g.P.Port.meter c.args.port.now).page (g.P.Port.meter c.prepare.new.port).page c.in_ok-draft.draft.path.items
          c.deref.result.now c.in_ok-draft.draft.place.from c.in_ok-draft.draft.place.count c.in_ok-draft.draft.want c.args.fresh.now.items
          c.as_slice-2.result.now c.in_ok-draft.ensures.reads.uses.used.page
          c.deref.ensures.value c.as_slice-2.ensures wanted;
      shape = c.in-Ok.ensures.levels;
      sound = c.in-Ok.ensures.sound;
      made_is = c.in-Ok.ensures.made;
      left_is = c.in-Ok.ensures.left;
      all = c.in-Ok.ensures.all;
      written = c.in-Ok.ensures.written;
      lacked = c.in-Ok.ensures.lacked;
      apart = c.in-Ok.ensures.apart;
      sized = c.in-Ok.ensures.sized;
    } in
    let makes = makes-as g.P.S.Span.tells (g.P.Port.meter c.args.port.now).page (g.P.Port.meter c.prepare.new.port).page c.prepare.new.held
    c.in_ok-draft.draft.path.items c.deref.result.now c.in_ok-draft.draft.place.from c.in_ok-draft.draft.place.count
    c.in_ok-draft.draft.want c.args.fresh.now.items c.as_slice-2.result.now c.in-Ok.made.1.pages c.in-Ok.made.0.levels.items
    c.in-Ok.made.0.made c.in-Ok.made.0.left
    c.in_ok-draft.ensures.reads.uses.used.page c.deref.ensures.value c.as_slice-2.ensures new in
    let holds : Holds c.in-Ok.made.1.pages c.args.held.now c.prepare.new.held c.hold.new.held = record {
      same = c.in_ok-draft.ensures.spans;
      pages_are = c.hold.ensures.pages;
      begun = c.hold.ensures.begun;
    } in
    end-held g.P.S.Span.tells (g.P.Port.meter c.args.port.now).page c.args.held.now c.prepare.new.held c.hold.new.held
    c.in_ok-draft.draft.want c.in_ok-draft.draft.place.from c.in_ok-draft.draft.place.count c.args.fresh.now.items
    c.in_ok-draft.draft.path.items c.in-Ok.made.1.pages c.in-Ok.made.0.levels.items c.in-Ok.made.0.made c.in-Ok.made.0.left makes holds

pub returns-clause-single : goal.returns-clause-single
returns-clause-single g c = end-single c.in-Ok.made.0.made (page_numbers c.in-Ok.made.1.pages) c.in-Ok.ensures.made

pub returns-clause-home : goal.returns-clause-home
returns-clause-home g c =
    end-home g.P.S.Span.tells (g.L.Hints.rest c.args.latches.now).frame c.in-Ok.made.0.made c.in-Ok.made.1.pages c.in-Ok.ensures.made
    c.in-Ok.ensures.home

pub returns-clause-kept : goal.returns-clause-kept
returns-clause-kept g c =
    let wanted : c.in_ok-draft.draft.want ≡ count_made (splice_path (room_of (g.P.Port.meter c.args.port.now).page)
    c.in_ok-draft.draft.path.items c.in_ok-draft.draft.place.from c.in_ok-draft.draft.place.count c.args.fresh.now.items [])
    =
    c.in_ok-draft.ensures.want
    ∙ ap (λ (f : List Pair). count_made (splice_path (room_of (g.P.Port.meter c.args.port.now).page) c.in_ok-draft.draft.path.items
    c.in_ok-draft.draft.place.from c.in_ok-draft.draft.place.count f [])) c.as_slice.ensures in
    let new : Makes g.P.S.Span.tells (g.P.Port.meter c.prepare.new.port).page c.prepare.new.held c.deref.result.now
    c.in_ok-draft.draft.place.from c.in_ok-draft.draft.place.count c.in_ok-draft.draft.want c.as_slice-2.result.now c.in-Ok.made.1.pages
    c.in-Ok.made.0.levels.items c.in-Ok.made.0.made c.in-Ok.made.0.left = record {
      wanted = want-as (g.P.Port.meter c.args.port.now).page (g.P.Port.meter c.prepare.new.port).page c.in_ok-draft.draft.path.items
          c.deref.result.now c.in_ok-draft.draft.place.from c.in_ok-draft.draft.place.count c.in_ok-draft.draft.want c.args.fresh.now.items
          c.as_slice-2.result.now c.in_ok-draft.ensures.reads.uses.used.page
          c.deref.ensures.value c.as_slice-2.ensures wanted;
      shape = c.in-Ok.ensures.levels;
      sound = c.in-Ok.ensures.sound;
      made_is = c.in-Ok.ensures.made;
      left_is = c.in-Ok.ensures.left;
      all = c.in-Ok.ensures.all;
      written = c.in-Ok.ensures.written;
      lacked = c.in-Ok.ensures.lacked;
      apart = c.in-Ok.ensures.apart;
      sized = c.in-Ok.ensures.sized;
    } in
    let makes = makes-as g.P.S.Span.tells (g.P.Port.meter c.args.port.now).page (g.P.Port.meter c.prepare.new.port).page c.prepare.new.held
    c.in_ok-draft.draft.path.items c.deref.result.now c.in_ok-draft.draft.place.from c.in_ok-draft.draft.place.count
    c.in_ok-draft.draft.want c.args.fresh.now.items c.as_slice-2.result.now c.in-Ok.made.1.pages c.in-Ok.made.0.levels.items
    c.in-Ok.made.0.made c.in-Ok.made.0.left
    c.in_ok-draft.ensures.reads.uses.used.page c.deref.ensures.value c.as_slice-2.ensures new in
    let holds : Holds c.in-Ok.made.1.pages c.args.held.now c.prepare.new.held c.hold.new.held = record {
      same = c.in_ok-draft.ensures.spans;
      pages_are = c.hold.ensures.pages;
      begun = c.hold.ensures.begun;
    } in
    let at = bytes_on c.hold.new.held in
    c.forget_runs.ensures g.P.S.Span.tells (g.P.Port.meter c.args.port.now).page at
    (c.keep_levels.ensures.kept g.P.S.Span.tells (g.P.Port.meter c.args.port.now).page at
    (end-kept g.P.S.Span.tells (g.P.Port.meter c.args.port.now).page c.args.held.now c.prepare.new.held c.hold.new.held
    c.in_ok-draft.draft.want c.in_ok-draft.draft.place.from c.in_ok-draft.draft.place.count c.args.fresh.now.items
    c.in_ok-draft.draft.path.items c.in-Ok.made.1.pages c.in-Ok.made.0.levels.items c.in-Ok.made.0.made c.in-Ok.made.0.left
    c.prepare.new.cache makes holds c.in_ok-draft.ensures.reads.nodes)
    (subst (λ (levels : List Remade). AreAllMade (room_of (g.P.Port.meter c.args.port.now).page) levels) (sym c.deref-4.ensures.value)
    makes.sound)
    (λ t. subst (λ (levels : List Remade). MadeStand at 1 levels) (sym c.deref-4.ensures.value)
    (end-stand g.P.S.Span.tells (g.P.Port.meter c.args.port.now).page c.args.held.now c.prepare.new.held c.hold.new.held
    c.in_ok-draft.draft.want c.in_ok-draft.draft.place.from c.in_ok-draft.draft.place.count c.args.fresh.now.items
    c.in_ok-draft.draft.path.items c.in-Ok.made.1.pages c.in-Ok.made.0.levels.items c.in-Ok.made.0.made c.in-Ok.made.0.left makes holds
    t)))

pub returns-clause-granted : goal.returns-clause-granted
returns-clause-granted g c = λ views told same.
    let asked = c.in-Ok.ensures.told views told same in (
      c.in_ok-draft.draft.want,
      made-long c.in-Ok.made.0.made c.in-Ok.made.1.pages c.in-Ok.ensures.made ∙ c.in-Ok.ensures.all,
      (asked.0, asked.1 ∙ sym (firsts-made c.in-Ok.made.0.made (page_numbers c.in-Ok.made.1.pages) c.in-Ok.ensures.made), asked.2),
    )

pub returns-clause-writes : goal.returns-clause-writes
returns-clause-writes g c = λ t k count between.
    let wanted : c.in_ok-draft.draft.want ≡ count_made (splice_path (room_of (g.P.Port.meter c.args.port.now).page)
    c.in_ok-draft.draft.path.items c.in_ok-draft.draft.place.from c.in_ok-draft.draft.place.count c.args.fresh.now.items [])
    =
    c.in_ok-draft.ensures.want
    ∙ ap (λ (f : List Pair). count_made (splice_path (room_of (g.P.Port.meter c.args.port.now).page) c.in_ok-draft.draft.path.items
    c.in_ok-draft.draft.place.from c.in_ok-draft.draft.place.count f [])) c.as_slice.ensures in
    let found : Found (g.P.Port.meter c.args.port.now).page c.args.held.now c.args.root.now c.args.from c.args.to
    c.in_ok-draft.draft.place.from c.in_ok-draft.draft.place.count c.args.fresh.now.items c.in_ok-draft.draft.path.items = record {
      large = page_size-low (g.P.Port.meter c.args.port.now).page c.requires.asks.pages.size_is;
      sized = λ t' q. c.requires.asks.pages.sized t q;
      tree = c.requires.asks.stands t;
      way = λ i n here.
          subst (λ (f : List Pair). ShowsWay (room_of (g.P.Port.meter c.args.port.now).page)
          (levels_at (bytes_on c.args.held.now) c.args.root.now) i n f c.in_ok-draft.draft.path.items c.in_ok-draft.draft.place.from
          c.in_ok-draft.draft.place.count) c.as_slice.ensures (c.in_ok-draft.ensures.told t i n here);
      some = c.requires.some;
      small = c.requires.sum;
    } in
    writes-within c.in_ok-draft.draft.want _ (g.P.Port.meter c.args.port.now) (g.P.Port.meter c.prepare.new.port)
    (g.P.Port.meter c.make.new.port)
    (found-want (g.P.Port.meter c.args.port.now).page c.args.held.now c.args.root.now c.args.from c.args.to c.in_ok-draft.draft.place.from
    c.in_ok-draft.draft.place.count k count c.in_ok-draft.draft.want c.args.fresh.now.items c.in_ok-draft.draft.path.items found between
    wanted)
    c.in_ok-draft.ensures.reads.uses.written c.make.ensures.writes
