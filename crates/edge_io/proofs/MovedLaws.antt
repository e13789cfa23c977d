-- Appended bytes, for every crate that writes to a sink.
use Rattle.std.proofs.Common.{ℕ, ◌≡◌, Option, Some, None, List, [], ◌++◌, sym, refl, ◌∙◌, ap, append_assoc, append-nil}
use Rattle.edge_io.specs.Moved.{Appends}

-- nothing appended leaves all as it is
pub appends-none : (x : Option (List ℕ)) → Appends [] x x
appends-none None = refl
appends-none (Some taken) = ap Some (sym (append-nil taken))

-- two pieces appended are their join appended
pub Appends-append : (x y : List ℕ) (before mid after : Option (List ℕ)) → Appends x before mid → Appends y mid after →
    Appends (x ++ y) before after
Appends-append x y None mid after p q = rw p at q
Appends-append x y (Some taken) mid after p q = (rw p at q) ∙ ap Some (append_assoc taken x y)
