-- The window that the searches find is tight.
use Rattle.std.proofs.Common.{◌≡◌, ℕ, ◌+◌, ◌-◌, ◌≤◌, List, length, take, drop, ap}
use Rattle.std.proofs.Common.{arith, length-take, length-drop}
use Rattle.std.proofs.lemmas.List.{take_all}
use Rattle.tree_model.specs.declared.entry.Pair.{Pair}
use Rattle.tree_model.specs.declared.entry.Placed.{Placed}
use Rattle.tree_model.specs.Range.{pairs_of, placed, start_of}
use Rattle.tree_model.specs.Tree.{bytes_of}
use Rattle.layout_model.specs.Parts.{count_begun, count_ended}
use Rattle.content_laws.specs.Spelling.{HaveBytes}
use Rattle.content_laws.proofs.SideLemmas.{count_begun-within_list}
use Rattle.window_laws.specs.Searches.{end_of}
use Rattle.window_laws.specs.Window.{window_at, window_from, window_start}
use Rattle.window_laws.proofs.CountLemmas.{ended-bytes}
use Rattle.window_laws.proofs.SearchLemmas.{begun-reach, segments-found}
use Rattle.window_laws.proofs.StretchLemmas.{bytes_of-next, window-border}
use Rattle.window_laws.proofs.WindowLemmas.{window-agrees}
use Rattle.edit_plan.specs.Planned.{IsTight}

-- more entries have no fewer bytes
bytes-rise : (i j : ℕ) (ps : List Pair) → i ≤ j → bytes_of (take i ps) ≤ bytes_of (take j ps)
bytes-rise i j ps le =
    let next = bytes_of-next i (j - i) ps in
    let split : i + (j - i) ≡ j = omega (arith, le) in
    let same = ap (λ (k : ℕ). bytes_of (take k ps)) split in
    omega (arith, next, same)

pub window-tight : (entries : List Pair) (at cut : ℕ) (window : List Placed) → HaveBytes entries → at + cut ≤ bytes_of entries →
    window ≡ placed (window_start at entries) (window_at entries at cut) →
    IsTight window at cut × (start_of window ≤ at) × (at + cut ≤ end_of window)
window-tight entries at cut window have within is =
    let k = window_from at entries in
    let b = window_start at entries in
    let w = window_at entries at cut in
    let found = segments-found entries at cut window have is in
    let pairs = found.0 in
    let start = found.1 in
    let same = window-agrees 1 entries at cut have in
    let ended = same.ended in
    let begun = same.begun in
    let few = count_begun-within_list (at + cut) entries in
    let m = count_begun (at + cut) entries + 1 - k in
    let long = length-take m (drop k entries) in
    let rest = length-drop k entries in
    let ended1 = ap (λ (s : ℕ). count_ended (at - s) (pairs_of window)) start in
    let ended2 = ap (λ (ps : List Pair). count_ended (at - b) ps) pairs in
    let begun1 = ap (λ (s : ℕ). count_begun (at - s + cut) (pairs_of window)) start in
    let begun2 = ap (λ (ps : List Pair). count_begun (at - b + cut) ps) pairs in
    let count = ap length pairs in
    let low : b ≤ at = ended-bytes at k entries (omega arith) in
    let reach : length w ≤ length w = omega arith in
    let border = window-border (length w) entries at cut reach in
    let whole = ap bytes_of (take_all (length w) w reach) in
    let enough = begun-reach (at + cut) entries within in
    let more = bytes-rise (count_begun (at + cut) entries) (k + length w) entries (omega (arith, long, rest, few)) in
    let bytes = ap bytes_of pairs in (
      record { front = omega (arith, ended1, ended2, ended); back = omega (arith, count, long, begun1, begun2, begun) },
      omega (arith, start, low),
      omega (arith, start, bytes, border, whole, enough, more),
    )
