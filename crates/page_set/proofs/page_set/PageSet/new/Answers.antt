-- No word is there.
use Rattle.std.proofs.Common.{◌≡◌, ◌/◌, ◌%◌, List, ℕ, false, [], refl, sym, ap, ◌∙◌}
use Rattle.std.proofs.lemmas.Bool.{false≢true}
use Rattle.std.specs.Prelude.{unwrap_or}
use Rattle.std.specs.Map.{lookup}
use Rattle.std.specs.Ordering.{nat_cmp}
use Rattle.std.specs.BTreeMap.{BTreeMap, is_at}
use Rattle.page_set.specs.Members.{count_all}
use Rattle.page_set.specs.Words.{in_words, is_bit}
use Rattle.page_set.proofs.Counts.{count_all-none}
use Rattle.page_set.proofs.BitLaws.{no_bit}
use Rattle.page_set.proofs.SetLaws.{IsBounded}
use Rattle.page_set.proofs.page_set.PageSet.new.Goals as goal

nothing : (words : BTreeMap ℕ ℕ) → words.entries ≡ [] → (page : ℕ) → in_words words page ≡ false
nothing words e page =
    ap (λ (es : List (ℕ × ℕ)). is_bit (unwrap_or (lookup (is_at (nat_cmp (page / 64))) es) 0) (page % 64)) e ∙ no_bit (page % 64)

record IsNew (words : BTreeMap ℕ ℕ) : Type 0 where
  counted : 0 ≡ count_all (in_words words)
  bound : IsBounded (in_words words)

no_pages : (words : BTreeMap ℕ ℕ) → words.entries ≡ [] → IsNew words
no_pages words e = record {
  counted = sym (count_all-none (in_words words) (nothing words e));
  bound = λ page t. absurd (false≢true (sym (nothing words e page) ∙ t));
}

pub invariant_of-result : goal.invariant_of-result
invariant_of-result c = let kept = no_pages c.new.result c.new.ensures.empty in (kept.counted, kept.bound)

pub returns : goal.returns
returns c = record { empty = nothing c.new.result c.new.ensures.empty; size = refl }
