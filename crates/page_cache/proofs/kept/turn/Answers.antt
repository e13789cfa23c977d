-- The last entry's page is the one that is looked at, and no other entry has it.
use Rattle.std.proofs.Common.{◌≡◌, ℕ, ◌-◌, true, false, List, [], ◌∷◌, ◌++◌, length, take, nat_eq, Some, sym, ap, subst, ◌∙◌}
use Rattle.std.specs.List.{IsDistinct}
use Rattle.std.specs.Map.{keys_of}
use Rattle.base_laws.proofs.OptionLaws.{some-inner}
use Rattle.lru.proofs.Pairs.{last_of_push}
use Rattle.lru.specs.LruCache.{last_entry, promoted}
use Rattle.node_codec.specs.declared.parsed.Node.{Node}
use Rattle.page_cache.specs.Kept.{is_on_run}
use Rattle.page_cache.proofs.RunLemmas.{promoted-last}
use Rattle.page_cache.proofs.kept.turn.Goals as goal

-- the page of the last entry
page_is : (es before : List (ℕ × Node)) (shown last : ℕ × Node) → Some shown ≡ last_entry es → es ≡ before ++ last ∷ [] → shown.0 ≡ last.0
page_is es before shown last peek shape =
    let there = (last_of_push before last).0 in
    let same = some-inner shown last (peek ∙ ap last_entry shape ∙ there) in
    ap (λ (e : ℕ × Node). e.0) same

pub returns-then-lies_on-clause-turned : goal.returns-then-lies_on-clause-turned
returns-then-lies_on-clause-turned c = λ before last shape.
    let es = c.args.nodes.now.entries in
    let peek : Some (c.in-Some.page.now, c.in-Some.field-0-1.now) ≡ last_entry es = c.in-Some.ensures in
    let page = page_is es before (c.in-Some.page.now, c.in-Some.field-0-1.now) last peek shape in
    let on : is_on_run c.args.first c.args.pages last.0 ≡ true = ap (is_on_run c.args.first c.args.pages) (sym page)
    ∙ sym c.lies_on.ensures ∙ c.if-lies_on.true in
    let out : take (length es - 1) es ≡ before = ap (λ (xs : List (ℕ × Node)). take (length xs - 1) xs) shape
    ∙ (last_of_push before last).1 in
    rw (on, c.pop_lru.ensures.entries) out

pub returns-else-lies_on-clause-turned : goal.returns-else-lies_on-clause-turned
returns-else-lies_on-clause-turned c = λ before last shape.
    let es = c.args.nodes.now.entries in
    let peek : Some (c.in-Some.page.now, c.in-Some.field-0-1.now) ≡ last_entry es = c.in-Some.ensures in
    let page = page_is es before (c.in-Some.page.now, c.in-Some.field-0-1.now) last peek shape in
    let off : is_on_run c.args.first c.args.pages last.0 ≡ false =
    ap (is_on_run c.args.first c.args.pages) (sym page) ∙ sym c.lies_on.ensures ∙ c.if-lies_on.false in
    let distinct = subst (λ (xs : List (ℕ × Node)). IsDistinct nat_eq (keys_of xs)) shape c.len-count.ensures.valid.0 in
    let first : promoted (nat_eq c.in-Some.page.now) es ≡ last ∷ before =
    ap (λ (n : ℕ). promoted (nat_eq n) es) page ∙ ap (promoted (nat_eq last.0)) shape ∙ promoted-last before last distinct in
    rw (off, c.promote.ensures.entries) first
