-- The nodes of a walk's room: one is taken out and put back.
use Rattle.std.proofs.Common.{◌≡◌, ℕ, ◌+◌, ◌≤◌, List, [], ◌∷◌, ◌++◌, length, take, drop, get_or, sym, subst, ◌∙◌, arith, length-append}
use Rattle.std.proofs.Common.{length-drop, length-take}
use Rattle.std.specs.Prelude.{vec_len, vec_capacity}
use Rattle.std.specs.List.{All}
use Rattle.std.proofs.Math.Seq.{get_or-append_seam}
use Rattle.std.proofs.lemmas.List.{get_or_append_left}
use Rattle.std.proofs.lemmas.List.Elements.{All-append}
use Rattle.node_codec.specs.declared.parsed.Node.{Node}
use Rattle.tree_model.specs.Node.{room_of}
use Rattle.image_check.specs.declared.path.Path.{Path}
use Rattle.image_check.specs.Rooms.{KeepsRoom}

pub all-front : (X : Type 0) (P : X → Type 0) (xs : List X) (x : X) → All P (xs ++ (x ∷ [])) → All P xs
all-front X P xs x all k d inside =
    let count = length-append xs (x ∷ []) in
    subst P (get_or_append_left xs (x ∷ []) d k inside) (all k d (omega (arith, inside, count)))

pub all-last : (X : Type 0) (P : X → Type 0) (xs : List X) (x : X) → All P (xs ++ (x ∷ [])) → P x
all-last X P xs x all =
    let count = length-append xs (x ∷ []) in
    subst P (get_or-append_seam xs x [] x) (all (length xs) x (omega (arith, count)))

one-of : (X : Type 0) (P : X → Type 0) (x : X) → P x → All P (x ∷ [])
one-of X P x holds k d inside =
    let first : k ≡ 0 = omega (arith, inside) in
    subst (λ (i : ℕ). P (get_or (x ∷ []) i d)) (sym first) holds

pub all-more : (X : Type 0) (P : X → Type 0) (xs : List X) (x : X) → All P xs → P x → All P (xs ++ (x ∷ []))
all-more X P xs x all holds = All-append P xs (x ∷ []) all (one-of X P x holds)

-- ---- room that stays

-- a page that was written as a slice has as many bytes
pub slice-back : (len : ℕ) (room items : List ℕ) → length room ≡ length items → length items ≡ len →
    length (take len (room ++ drop (length room) items)) ≡ length items
slice-back len room items same long =
    omega (
      arith,
      length-take len (room ++ drop (length room) items),
      length-append room (drop (length room) items),
      length-drop (length room) items,
      same,
      long,
    )

pub KeepsRoom-then : (size : ℕ) (old mid new : Path) → KeepsRoom size old mid → KeepsRoom size mid new → KeepsRoom size old new
KeepsRoom-then size old mid new first second = record {
  page = second.page ∙ first.page;
  count = second.count ∙ first.count;
  capacity = second.capacity ∙ first.capacity;
  each = second.each;
}

-- a node was taken out, the walk went on without it, and it comes back
pub room-back : {size : ℕ} {mid last : Path} (old new : Path) (back : Node) → KeepsRoom size mid last →
    length mid.page.items ≡ length old.page.items → vec_len mid.nodes + 1 ≡ vec_len old.nodes →
    vec_capacity mid.nodes ≡ vec_capacity old.nodes →
    length new.page.items ≡ length last.page.items → new.nodes.items ≡ last.nodes.items ++ back ∷ [] →
    vec_len new.nodes ≡ vec_len last.nodes + 1 → vec_capacity new.nodes ≡ vec_capacity last.nodes → room_of size ≤ back.pairs.room →
    KeepsRoom size old new
room-back {size} {mid} {last} old new back kept page fewer same page_same items more capacity room = record {
  page = page_same ∙ kept.page ∙ page;
  count = omega (arith, fewer, kept.count, more);
  capacity = capacity ∙ kept.capacity ∙ same;
  each = subst (All (λ (x : Node). room_of size ≤ x.pairs.room)) (sym items)
      (all-more Node (λ (x : Node). room_of size ≤ x.pairs.room) last.nodes.items back kept.each room);
}
