-- One span of a list written.
use Rattle.std.proofs.Common.{◌≡◌, ◌≢◌, ℕ, ◌+◌, ◌<◌, Bool, List, [], length, get_or, set, refl, sym, ap, subst, ◌∙◌, arith, inl, inr}
use Rattle.std.specs.Prelude.{IsTrue}
use Rattle.std.proofs.lemmas.Bool.{cases_eq}
use Rattle.std.proofs.lemmas.List.{length-set, get_or-set_same, get_or-set_other}
use Rattle.page_port.specs.Pages.{IsSized}
use Rattle.span_store.specs.Held.{HeldSpan}
use Rattle.span_store.specs.Order.{no_span}
use Rattle.store_parts.specs.Fixed.{IsRunAt}
use Rattle.image_store.specs.Closing.{AreSpansWritten}

abbrev pub span_at : List HeldSpan → ℕ → HeldSpan
span_at spans s = get_or spans s no_span

-- each span is one of its place
abbrev pub AreRuns : Bool → ℕ → List HeldSpan → Type 0
AreRuns tells size spans = (s : ℕ) → s < length spans →
    IsRunAt tells size (span_at spans s).first (length (span_at spans s).pages) (span_at spans s)

pub none-span-written : (tells : Bool) (size : ℕ) (directories : ℕ → List ℕ) (old : List HeldSpan) →
    ((s : ℕ) → s < length old → IsSized tells size (span_at old s).pages) → AreSpansWritten tells size directories 0 old old
none-span-written tells size directories old sized = record {
  count = refl;
  shape = λ s inside. record { first = refl; count = refl; sized = sized s inside };
  stand = λ tell s below. absurd (omega (arith, below));
  behind = λ s above. refl;
}

shape-set : (tells : Bool) (size : ℕ) (s : ℕ) (old between now : List HeldSpan) (span : HeldSpan) → length between ≡ length old →
    ((t : ℕ) → t < length old → IsRunAt tells size (span_at old t).first (length (span_at old t).pages) (span_at between t)) →
    s < length old → now ≡ set between s span →
    IsRunAt tells size (span_at between s).first (length (span_at between s).pages) span →
    (t : ℕ) → t < length old → IsRunAt tells size (span_at old t).first (length (span_at old t).pages) (span_at now t)
shape-set tells size s old between now span long shape inside is run t within =
    elim (cases_eq t s) [
      | inl same ↦
          let here : span_at now t ≡ span =
          ap (λ (k : ℕ). span_at now k) same
          ∙ (ap (λ (xs : List HeldSpan). span_at xs s) is ∙ get_or-set_same between s span no_span (omega (arith, long, inside))) in
          let was = shape s inside in
          let place : (span_at old t) ≡ (span_at old s) = ap (span_at old) same in
          subst (λ (x : HeldSpan). IsRunAt tells size (span_at old t).first (length (span_at old t).pages) x) (sym here)
          (subst (λ (x : HeldSpan). IsRunAt tells size x.first (length x.pages) span) (sym place)
          (record { first = run.first ∙ was.first; count = run.count ∙ was.count; sized = run.sized }))
      | inr other ↦
          subst (λ (x : HeldSpan). IsRunAt tells size (span_at old t).first (length (span_at old t).pages) x)
          (sym (ap (λ (xs : List HeldSpan). span_at xs t) is ∙ get_or-set_other between s t span no_span other)) (shape t within)
    ]

away : (s t : ℕ) (between now : List HeldSpan) (span : HeldSpan) → now ≡ set between s span → t ≢ s → span_at now t ≡ span_at between t
away s t between now span is other = ap (λ (xs : List HeldSpan). span_at xs t) is ∙ get_or-set_other between s t span no_span other

pub one-span-failed : (tells : Bool) (size : ℕ) (directories : ℕ → List ℕ) (s : ℕ) (old between now : List HeldSpan) (span : HeldSpan) →
    AreSpansWritten tells size directories s old between → s < length old → now ≡ set between s span →
    IsRunAt tells size (span_at between s).first (length (span_at between s).pages) span →
    AreSpansWritten tells size directories s old now
one-span-failed tells size directories s old between now span given inside is run = record {
  count = ap length is ∙ (length-set between s span ∙ given.count);
  shape = shape-set tells size s old between now span given.count given.shape inside is run;
  stand = λ tell t below. ap (λ (x : HeldSpan). get_or x.pages 0 []) (away s t between now span is (λ same. omega (arith, same, below)))
      ∙ given.stand tell t below;
  behind = λ t above. away s t between now span is (λ same. omega (arith, same, above)) ∙ given.behind t above;
}

pub one-span-more : (tells : Bool) (size : ℕ) (directories : ℕ → List ℕ) (s : ℕ) (old between now : List HeldSpan) (span : HeldSpan) →
    AreSpansWritten tells size directories s old between → s < length old → now ≡ set between s span →
    IsRunAt tells size (span_at between s).first (length (span_at between s).pages) span →
    (IsTrue tells → get_or span.pages 0 [] ≡ directories s) → AreSpansWritten tells size directories (s + 1) old now
one-span-more tells size directories s old between now span given inside is run bytes = record {
  count = ap length is ∙ (length-set between s span ∙ given.count);
  shape = shape-set tells size s old between now span given.count given.shape inside is run;
  stand = λ tell t below. elim (cases_eq t s) [
    | inl same ↦
        let here : span_at now s ≡ span =
        ap (λ (xs : List HeldSpan). span_at xs s) is ∙ get_or-set_same between s span no_span (omega (arith, given.count, inside)) in
        ap (λ (k : ℕ). get_or (span_at now k).pages 0 []) same
        ∙ (ap (λ (x : HeldSpan). get_or x.pages 0 []) here ∙ (bytes tell ∙ ap directories (sym same)))
    | inr other ↦ ap (λ (x : HeldSpan). get_or x.pages 0 []) (away s t between now span is other)
        ∙ given.stand tell t (omega (arith, below, other))
  ];
  behind = λ t above. away s t between now span is (λ same. omega (arith, same, above)) ∙ given.behind t (omega (arith, above));
}
