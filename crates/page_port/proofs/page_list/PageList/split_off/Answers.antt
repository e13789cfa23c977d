-- A part of the list of pages holds a part of their bytes.
use Rattle.std.proofs.Common.{take, drop, ap, sym, ◌∙◌, map}
use Rattle.std.proofs.lemmas.List.{take-map, drop-map}
use Rattle.page_port.specs.Memory.{page_items}
use Rattle.page_port.proofs.page_list.PageList.split_off.Goals as goal

pub returns-clause-front : goal.returns-clause-front
returns-clause-front c =
    ap (map page_items) c.in-Ok.ensures.items
    ∙ sym (take-map page_items c.args.at c.self.inside.pages)
    ∙ ap (take c.args.at) c.self.view_is

pub returns-clause-rest : goal.returns-clause-rest
returns-clause-rest c =
    ap (map page_items) c.in-Ok.ensures.tail
    ∙ sym (drop-map page_items c.args.at c.self.inside.pages)
    ∙ ap (drop c.args.at) c.self.view_is
