-- The looks and enters of a part that is asked for by halves.
use Rattle.std.proofs.Common.{◌≡◌, ℕ, ◌+◌, ◌*◌, ◌/◌, ◌<◌, ◌≤◌, true, false, List, ◌++◌, Option, Some, None, refl}
use Rattle.std.proofs.Common.{sym, ap, ◌∙◌, subst, arith}
use Rattle.std.proofs.lemmas.List.{append_assoc}
use Rattle.block_model.specs.Place.{least_order}
use Rattle.superdirectory.specs.Trace.{SpaceEvent, IsLow, IsSearched}
use Rattle.superdirectory.specs.Parts.{AreSearches, placed, uncut, half_refused, halves, IsAsked}
use Rattle.superdirectory.proofs.Traces.{low_right}

pub asked_placed : (n t count : ℕ) (part : List SpaceEvent) → IsSearched (least_order n) 0 count false part → IsAsked n t count None part
asked_placed n t count part s = record { searches = placed n part s; low = λ p none. cc }

pub asked_refused : (n t count : ℕ) (part : List SpaceEvent) → n < 2 * t →
    IsSearched (least_order n) 0 count true part → IsAsked n t count (Some n) part
asked_refused n t count part small s = record {
  searches = uncut n part small s;
  low = λ p e space less. let same : n ≡ p = cc in
      subst (λ (m : ℕ). IsLow space (least_order m) part) same (s.low refl space (omega arith) less);
}

-- n pages were refused, and so was something of their larger half, of c pages
pub asked_first : (n c t count p : ℕ) (whole first : List SpaceEvent) → 2 * t ≤ n → c ≡ (n + 1) / 2 →
    IsSearched (least_order n) 0 count true whole → IsAsked c t count (Some p) first →
    IsAsked n t count (Some p) (whole ++ first)
asked_first n c t count p whole first large half s a = record {
  searches = half_refused n p whole first large s (subst (λ (m : ℕ). AreSearches t count m (Some p) first) half a.searches);
  low = λ r e space less. low_right space (least_order r) whole first (a.low r e space less);
}

-- n pages were refused, and their larger half was granted
pub record IsHalfway (n t count : ℕ) (part : List SpaceEvent) : Type 0 where
  pub whole : List SpaceEvent
  pub first : List SpaceEvent
  pub both : part ≡ whole ++ first
  pub refused : IsSearched (least_order n) 0 count true whole
  pub granted : AreSearches t count ((n + 1) / 2) None first

pub halfway : (n c t count : ℕ) (whole first : List SpaceEvent) → c ≡ (n + 1) / 2 →
    IsSearched (least_order n) 0 count true whole → IsAsked c t count None first →
    IsHalfway n t count (whole ++ first)
halfway n c t count whole first half s a = record {
  whole = whole;
  first = first;
  both = refl;
  refused = s;
  granted = subst (λ (m : ℕ). AreSearches t count m None first) half a.searches;
}

pub asked_both : (n t count : ℕ) (refusal : Option ℕ) (before second : List SpaceEvent) → 2 * t ≤ n →
    IsHalfway n t count before → IsAsked (n / 2) t count refusal second →
    IsAsked n t count refusal (before ++ second)
asked_both n t count refusal before second large h a =
    let parts : h.whole ++ (h.first ++ second) ≡ before ++ second =
    sym (ap (λ (l : List SpaceEvent). l ++ second) h.both ∙ append_assoc h.whole h.first second) in
    record {
      searches = subst (AreSearches t count n refusal) parts (halves n refusal h.whole h.first second large h.refused h.granted a.searches);
      low = λ r e space less. low_right space (least_order r) before second (a.low r e space less);
    }
