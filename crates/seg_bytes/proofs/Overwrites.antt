-- Pages that are overwritten by several calls, one after the other.
use Rattle.std.proofs.Common.{ℕ, ◌+◌, ◌≤◌, refl, ◌∙◌, arith}
use Rattle.span_store.specs.Held.{Held}
use Rattle.span_store.specs.Calls.{IsOverwritten}

pub IsOverwritten-none : (first n : ℕ) (held : Held) → IsOverwritten first n held held
IsOverwritten-none first n held = record {
  before = λ q less. refl;
  behind = λ q more. refl;
  held = λ q. refl;
  begun = λ q. refl;
  count = refl;
  room = refl;
}

pub IsOverwritten-more : (first a n : ℕ) (old new : Held) → IsOverwritten first a old new → a ≤ n → IsOverwritten first n old new
IsOverwritten-more first a n old new h within = record {
  before = h.before;
  behind = λ q more. h.behind q (omega arith);
  held = h.held;
  begun = h.begun;
  count = h.count;
  room = h.room;
}

pub IsOverwritten-then : (first a b n : ℕ) (old mid new : Held) → IsOverwritten first a old mid →
    IsOverwritten (first + a) b mid new → a + b ≤ n → IsOverwritten first n old new
IsOverwritten-then first a b n old mid new front back within = record {
  before = λ q less. back.before q (omega arith) ∙ front.before q less;
  behind = λ q more. back.behind q (omega arith) ∙ front.behind q (omega arith);
  held = λ q. back.held q ∙ front.held q;
  begun = λ q. back.begun q ∙ front.begun q;
  count = back.count ∙ front.count;
  room = back.room ∙ front.room;
}
