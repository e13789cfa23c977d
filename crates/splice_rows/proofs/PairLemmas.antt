-- One pair more at the end.
use Rattle.std.proofs.Common.{◌≡◌, ◌+◌, ◌≤◌, List, [], ◌∷◌, ◌++◌, ap, subst, sym, ◌∙◌}
use Rattle.base_laws.proofs.ListLaws.{all-append}
use Rattle.content_laws.specs.Spelling.{HaveBytes}
use Rattle.tree_model.specs.declared.entry.Pair.{Pair}
use Rattle.tree_model.specs.Tree.{bytes_of}
use Rattle.tree_read.proofs.TreeLemmas.{bytes_of-append}

pub more-bytes : (old new : List Pair) (p : Pair) → new ≡ old ++ p ∷ [] → bytes_of new ≡ bytes_of old + bytes_of (p ∷ [])
more-bytes old new p one = ap bytes_of one ∙ bytes_of-append old (p ∷ [])

pub more-some : (old new : List Pair) (p : Pair) → new ≡ old ++ p ∷ [] → 1 ≤ p.bytes → HaveBytes old → HaveBytes new
more-some old new p one some all =
    subst HaveBytes (sym one) (all-append (λ (p : Pair). 1 ≤ p.bytes) old (p ∷ []) all (some, tt))
