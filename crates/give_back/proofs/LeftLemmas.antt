-- What is held once pages of it are given back.
use Rattle.std.proofs.Common.{◌≡◌, ℕ, ◌+◌, ◌-◌, ◌<◌, ◌≤◌, Bool, true, false, not, ◌&&◌, ◌||◌, IsTrue, List, [], length, None}
use Rattle.std.proofs.Common.{Option, IfSome, refl, sym, ap, subst, arith, ◌∙◌, inl, inr, ◌⊎◌, is_some}
use Rattle.std.specs.Prelude.{unwrap_or, if◌then◌else◌}
use Rattle.std.proofs.lemmas.Bool.{cases_lt, cases_eq, false≢true, ne_eqb}
use Rattle.std.proofs.lemmas.Bool.Decides.{nat_tests}
use Rattle.tree_model.specs.Node.{NodeBytes, room_of}
use Rattle.node_codec.specs.declared.parsed.Node.{Node}
use Rattle.space_directory.proofs.PageLaws.{in_run-inside, in_run-below, in_run-above}
use Rattle.span_store.specs.Held.{HeldSpan, Held, page_of, page_at, has, begins, bytes_on}
use Rattle.span_store.specs.Calls.{IsRemoved}
use Rattle.span_store.proofs.SpanLists.{page_of-inside, page_of-before, page_of-behind, where_is}
use Rattle.span_store.proofs.SpanLists.WhereIs.{Before, Behind, Inside}
use Rattle.page_cache.specs.Kept.{KeptNodes, kept, is_on_run}
use Rattle.tree_read.specs.Search.{KeepsNodes}
use Rattle.give_back.specs.Giving.{IsLeft, LeavesNodes, or_page}

-- the pages of a span
pub span-has : (s : HeldSpan) (q : ℕ) → is_some (page_of s q) ≡ is_on_run s.first (length s.pages) q
span-has s q = elim (where_is s q) [
  | Before before ↦ ap is_some (page_of-before s q before) ∙ sym (in_run-below s.first (length s.pages) q before)
  | Behind from behind ↦ ap is_some (page_of-behind s q behind) ∙ sym (in_run-above s.first (length s.pages) q behind)
  | Inside from to ↦ ap is_some (page_of-inside s q from to) ∙ sym (in_run-inside s.first (length s.pages) q from to)
]

-- a run and the one behind it are one
pub run-more : (first at k q : ℕ) → first ≤ at →
    is_on_run first (at + k - first) q ≡ (is_on_run first (at - first) q || is_on_run at k q)
run-more first at k q from = grind (arith, nat_tests)

pub run-none : (first q : ℕ) → is_on_run first (first - first) q ≡ false
run-none first q = grind (arith, nat_tests)

pub run-past : (first at k : ℕ) → is_on_run first (at - first) (at + k) ≡ false
run-past first at k = grind (arith, nat_tests)

none-both : (a b : Bool) (x : Option (List ℕ)) →
    (if b then None else (if a then None else x)) ≡ (if (a || b) then None else x)
none-both true true x = refl
none-both true false x = refl
none-both false true x = refl
none-both false false x = refl

or-left : (a b : Bool) → (a || b) ≡ false → a ≡ false
or-left true b none = absurd cc
or-left false b none = refl

or-right : (a b : Bool) → (a || b) ≡ false → b ≡ false
or-right true b none = absurd cc
or-right false b none = none

pub left-not : (gone : ℕ → Bool) (held : Held) → ((q : ℕ) → gone q ≡ false) → IsLeft gone held held
left-not gone held none = record {
  pages = λ q. ap (λ b. if b then None else page_at held q) (sym (none q));
  begun = λ q out. refl;
}

pub left-as : (gone gone2 : ℕ → Bool) (old new : Held) → ((q : ℕ) → gone2 q ≡ gone q) → IsLeft gone old new → IsLeft gone2 old new
left-as gone gone2 old new same left = record {
  pages = λ q. left.pages q ∙ ap (λ b. if b then None else page_at old q) (sym (same q));
  begun = λ q out. left.begun q (sym (same q) ∙ out);
}

pub left-then : (gone gone2 : ℕ → Bool) (old middle new : Held) → IsLeft gone old middle → IsLeft gone2 middle new →
    IsLeft (or_page gone gone2) old new
left-then gone gone2 old middle new one two = record {
  pages = λ q. two.pages q ∙ (ap (λ x. if gone2 q then None else x) (one.pages q) ∙ none-both (gone q) (gone2 q) (page_at old q));
  begun = λ q out. two.begun q (or-right (gone q) (gone2 q) out) ∙ one.begun q (or-left (gone q) (gone2 q) out);
}

-- a span came out
pub left-removed : (s : HeldSpan) (old new : Held) → IsRemoved s old new → IsLeft (is_on_run s.first (length s.pages)) old new
left-removed s old new removed = record {
  pages = λ q. removed.pages q ∙ ap (λ b. if b then None else page_at old q) (span-has s q);
  begun = λ q out. elim (cases_eq s.first q) [
    | inl same ↦ absurd (false≢true (sym out ∙ in_run-inside s.first (length s.pages) q
        (omega (arith, same)) (omega (arith, same, removed.some))))
    | inr apart ↦ removed.begins_left q ∙ ap (λ b. not b && begins old q) (ne_eqb s.first q apart)
  ];
}

-- a page that is left holds what it held
pub left-page : (gone : ℕ → Bool) (old new : Held) (q : ℕ) → IsLeft gone old new → gone q ≡ false → page_at new q ≡ page_at old q
left-page gone old new q left out = left.pages q ∙ ap (λ b. if b then None else page_at old q) out

pub left-bytes : (gone : ℕ → Bool) (old new : Held) (q : ℕ) → IsLeft gone old new → gone q ≡ false → bytes_on new q ≡ bytes_on old q
left-bytes gone old new q left out = ap (λ o. unwrap_or o []) (left-page gone old new q left out)

pub left-has : (gone : ℕ → Bool) (old new : Held) (q : ℕ) → IsLeft gone old new → has new q ≡ (if gone q then false else has old q)
left-has gone old new q left = ap is_some (left.pages q) ∙ go (gone q)
  where
    go : (b : Bool) → is_some (if b then None else page_at old q) ≡ (if b then false else has old q)
    go true = refl
    go false = refl

-- what is still held was held, and isn't gone
pub left-held : (gone : ℕ → Bool) (old new : Held) (q : ℕ) → IsLeft gone old new → IsTrue (has new q) →
    IsTrue (has old q) × (gone q ≡ false)
left-held gone old new q left there = go (gone q) refl
  where
    go : (b : Bool) → gone q ≡ b → IsTrue (has old q) × (gone q ≡ false)
    go true is = absurd (false≢true (sym (left-has gone old new q left ∙ ap (λ b. if b then false else has old q) is) ∙ there))
    go false is = (sym (left-has gone old new q left ∙ ap (λ b. if b then false else has old q) is) ∙ there, is)

pub left-stays : (gone : ℕ → Bool) (old new : Held) (q : ℕ) → IsLeft gone old new → gone q ≡ false → IsTrue (has old q) → IsTrue (has new q)
left-stays gone old new q left out there = ap is_some (left-page gone old new q left out) ∙ there

-- a span that begins in a run of spans of their own ends there
pub span-inside : (s : HeldSpan) (old new : Held) (first pages : ℕ) → IsRemoved s old new → s.first < first + pages →
    (IsTrue (has old (first + pages)) → IsTrue (begins old (first + pages))) → s.first + length s.pages ≤ first + pages
span-inside s old new first pages removed from border = elim (cases_lt (first + pages) (s.first + length s.pages)) [
  | inr within ↦ within
  | inl past ↦
      let there = span-has s (first + pages) ∙ in_run-inside s.first (length s.pages) (first + pages) (omega (arith, from)) past in
      let held = ap is_some (removed.held (first + pages) there) ∙ there in
      absurd (false≢true (sym (removed.inner (first + pages) from past) ∙ border held))
]

-- and where the run goes on, a span begins behind it
pub next-begins : (s : HeldSpan) (old new : Held) → IsRemoved s old new → IsTrue (has old (s.first + length s.pages)) →
    IsTrue (begins new (s.first + length s.pages))
next-begins s old new removed there =
    removed.begins_left (s.first + length s.pages)
    ∙ (ap (λ b. not b && begins old (s.first + length s.pages)) (ne_eqb s.first (s.first + length s.pages) (λ same. omega (
      arith,
      same,
      removed.some,
    )))
    ∙ removed.end there)

-- the nodes of the pages that went are forgotten, so the others are still those of held pages
pub left-nodes : (tells : Bool) (size first pages : ℕ) (old new : Held) (before after : KeptNodes) →
    IsLeft (is_on_run first pages) old new →
    ((q : ℕ) → first ≤ q → q < first + pages → kept after q ≡ None) →
    ((q : ℕ) → (q < first) ⊎ (first + pages ≤ q) → kept after q ≡ kept before q) →
    KeepsNodes tells size (bytes_on old) before → KeepsNodes tells size (bytes_on new) after
left-nodes tells size first pages old new before after left gone others nodes = record {
  small = λ q. each (λ (o : Option Node). IfSome o (λ node. length node.pairs.items ≤ room_of size)) q tt (nodes.small q);
  right = λ tell q. each-right tell q;
} where
  each : (P : Option Node → Type 0) (q : ℕ) → P None → P (kept before q) → P (kept after q)
  each P q none was = elim (cases_lt q first) [
    | inl below ↦ subst P (sym (others q (inl below))) was
    | inr from ↦ elim (cases_lt q (first + pages)) [
      | inl to ↦ subst P (sym (gone q from to)) none
      | inr past ↦ subst P (sym (others q (inr past))) was
    ]
  ]

  stays : IsTrue tells → (q : ℕ) → kept after q ≡ kept before q → is_on_run first pages q ≡ false →
      IfSome (kept after q) (λ n. NodeBytes (bytes_on new q) n.level n.pairs.items)
  stays tell q same out =
      subst (λ (o : Option Node). IfSome o (λ n. NodeBytes (bytes_on new q) n.level n.pairs.items)) (sym same)
      (subst (λ (bytes : List ℕ). IfSome (kept before q) (λ n. NodeBytes bytes n.level n.pairs.items))
      (sym (left-bytes (is_on_run first pages) old new q left out)) (nodes.right tell q))

  each-right : IsTrue tells → (q : ℕ) → IfSome (kept after q) (λ n. NodeBytes (bytes_on new q) n.level n.pairs.items)
  each-right tell q = elim (cases_lt q first) [
    | inl below ↦ stays tell q (others q (inl below)) (in_run-below first pages q below)
    | inr from ↦ elim (cases_lt q (first + pages)) [
      | inl to ↦ subst (λ (o : Option Node). IfSome o (λ n. NodeBytes (bytes_on new q) n.level n.pairs.items)) (sym (gone q from to)) tt
      | inr past ↦ stays tell q (others q (inr past)) (in_run-above first pages q past)
    ]
  ]

-- ---- with the nodes that are kept

pub leaves-not : (tells : Bool) (size : ℕ) (gone : ℕ → Bool) (held : Held) (cache : KeptNodes) → ((q : ℕ) → gone q ≡ false) →
    LeavesNodes tells size gone held held cache cache
leaves-not tells size gone held cache none = record {
  spans = record { left = left-not gone held none; sized = λ sized. sized };
  nodes = λ nodes. nodes;
}

pub leaves-as : (tells : Bool) (size : ℕ) (gone gone2 : ℕ → Bool) (old new : Held) (before after : KeptNodes) →
    ((q : ℕ) → gone2 q ≡ gone q) → LeavesNodes tells size gone old new before after → LeavesNodes tells size gone2 old new before after
leaves-as tells size gone gone2 old new before after same leaves = record {
  spans = record { left = left-as gone gone2 old new same leaves.spans.left; sized = leaves.spans.sized };
  nodes = leaves.nodes;
}

pub leaves-then : (tells : Bool) (size : ℕ) (gone gone2 : ℕ → Bool) (old middle new : Held) (before between after : KeptNodes) →
    LeavesNodes tells size gone old middle before between → LeavesNodes tells size gone2 middle new between after →
    LeavesNodes tells size (or_page gone gone2) old new before after
leaves-then tells size gone gone2 old middle new before between after one two = record {
  spans = record {
    left = left-then gone gone2 old middle new one.spans.left two.spans.left;
    sized = λ sized. two.spans.sized (one.spans.sized sized);
  };
  nodes = λ nodes. two.nodes (one.nodes nodes);
}
