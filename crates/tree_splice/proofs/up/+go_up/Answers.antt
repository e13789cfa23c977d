-- The new level is the highest, or the made nodes are named in the level above.
use Rattle.std.proofs.Common.{◌≡◌, ℕ, ◌+◌, ◌<◌, List, [], ◌∷◌, ◌++◌, false, length, map, drop, get_or, rules, sym, ap, subst, ◌∙◌, arith}
use Rattle.std.specs.Prelude.{OnOk}
use Rattle.std.proofs.lemmas.List.{take_rest}
use Rattle.base_laws.proofs.ResultLaws.{on_ok}
use Rattle.tree_model.specs.declared.entry.Pair.{Pair}
use Rattle.layout_model.specs.Levels.{PageNode, pair_of, level_after}
use Rattle.local_laws.specs.Path.{PathLevel, is_top_of_path, new_path_from}
use Rattle.tree_splice.specs.Remade.{AreAllCounted, rebuilt, remade}
use Rattle.tree_splice.specs.declared.remade.Remade.{Remade}
use Rattle.tree_splice.proofs.UpLemmas.{counted-made, path-head, path-step, levels-step}
use Rattle.tree_splice.proofs.up.+go_up.Goals as goal

above-more : (above : List PathLevel) (up : PathLevel) → 0 < length above → up ≡ get_or above 0 up → above ≡ up ∷ drop 1 above
above-more [] up some is = absurd (omega (arith, some))
above-more (x ∷ above) up some is = ap (λ (l : PathLevel). l ∷ above) (sym is)

step : (f : ℕ) (below next : Remade) (level up : PathLevel) (above : List PathLevel) (pages left : List ℕ) (names deref : List Pair)
    (nodes : List PageNode) (first count : ℕ) →
    0 < length above → up ≡ get_or above 0 up → is_top_of_path level (rebuilt level.nodes below) ≡ false →
    names ≡ map pair_of below.made → count ≡ length below.made → left ≡ drop count pages → first ≡ level.first → nodes ≡ up.nodes → deref ≡
    names →
    rebuilt nodes next ≡ level_after f nodes (first + below.from) below.count deref left →
    new_path_from f (rebuilt level.nodes below) level above pages
    ≡ rebuilt level.nodes below ∷ new_path_from f (rebuilt up.nodes next) up (drop 1 above) left
step f below next level up above pages left names deref nodes first count some is more named counted rest first_is own same made =
    let whole = above-more above up some is in
    let place : first + below.from ≡ level.first + below.from = ap (λ (n : ℕ). n + below.from) first_is in
    let made1 : rebuilt up.nodes next ≡ level_after f up.nodes (first + below.from) below.count deref left =
    subst (λ (ns : List PageNode). rebuilt ns next ≡ level_after f ns (first + below.from) below.count deref left) own made in
    let made2 : rebuilt up.nodes next ≡ level_after f up.nodes (first + below.from) below.count names left =
    made1 ∙ ap (λ (ps : List Pair). level_after f up.nodes (first + below.from) below.count ps left) same in
    ap (λ (ls : List PathLevel). new_path_from f (rebuilt level.nodes below) level ls pages) whole
    ∙ path-step f below level up (drop 1 above) pages names left (first + below.from) (rebuilt up.nodes next) more named
    (rest ∙ ap (λ (n : ℕ). drop n pages) counted) place made2

pub returns-in_err-names-clause-wide : goal.returns-in_err-names-clause-wide
returns-in_err-names-clause-wide t c = λ bad counted.
    let level = rebuilt c.args.level.now.nodes c.args.below in
    let head = path-head c.args.f level c.args.level.now c.args.above.now c.args.pages.now in
    c.in_err-names.ensures.wide (search rules)
    (counted-made c.args.level.now.nodes c.args.below (subst AreAllCounted head.1 counted).0)

pub returns-clause-levels : goal.returns-clause-levels
returns-clause-levels t c =
    let b = c.args.below in
    let up = c.up-item.result in
    let next = c.in_ok-next.next in
    let level = rebuilt c.args.level.now.nodes b in
    let left = c.rest-left.result.now in
    let rest = new_path_from c.args.f (rebuilt up.nodes next) up (drop 1 c.args.above.now) left in
    let all = new_path_from c.args.f level c.args.level.now c.args.above.now c.args.pages.now in
    let one = step c.args.f b next c.args.level.now up c.args.above.now c.args.pages.now left c.in_ok-names.names.items c.deref.result.now
    c.nodes-2.result.now c.first.result c.len.result (omega (arith, c.in-len1-up.len_at_least)) c.up-item.is
    (sym c.is_top.ensures ∙ c.if-is_top.false) c.in_ok-names.ensures.named c.len.ensures.count c.rest-left.ensures
    c.first.ensures.first c.nodes-2.ensures c.deref.ensures.value c.in_ok-next.ensures.rebuilt in
    let same = take_rest c.args.above.now 1 in
    on_ok c.go_up.result
    (λ (added : c.go_up.new.into.items ≡ c.push_level.new.into.items ++ map remade rest).
    levels-step c.args.into.now.items c.push_level.new.into.items c.go_up.new.into.items b level all rest one c.requires.below
    c.in_ok-push_level.ensures added)
    (subst (λ (hs : List PathLevel). OnOk c.go_up.result (c.go_up.new.into.items ≡ c.push_level.new.into.items
    ++ map remade (new_path_from c.args.f (rebuilt up.nodes next) up hs left))) same c.go_up.ensures.levels)

pub returns-clause-wide : goal.returns-clause-wide
returns-clause-wide t c = λ bad counted.
    let one = step c.args.f c.args.below c.in_ok-next.next c.args.level.now c.up-item.result c.args.above.now c.args.pages.now
    c.rest-left.result.now c.in_ok-names.names.items c.deref.result.now
    c.nodes-2.result.now c.first.result c.len.result (omega (arith, c.in-len1-up.len_at_least)) c.up-item.is
    (sym c.is_top.ensures ∙ c.if-is_top.false) c.in_ok-names.ensures.named c.len.ensures.count c.rest-left.ensures
    c.first.ensures.first c.nodes-2.ensures c.deref.ensures.value c.in_ok-next.ensures.rebuilt in
    let b = c.in_ok-next.next in
    let up = c.up-item.result in
    c.go_up.ensures.wide bad (subst (λ (hs : List PathLevel). AreAllCounted
    (new_path_from c.args.f (rebuilt up.nodes b) up hs c.rest-left.result.now))
    (sym (take_rest c.args.above.now 1)) (subst AreAllCounted one counted).1)
