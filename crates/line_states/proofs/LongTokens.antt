-- No word that is asked for has more than 28 bytes, so that a token is judged by its first n bytes where n is more than that.
use mathlib.Core.Path.{◌≡◌, refl, ap, ◌∙◌}
use mathlib.Core.List.{List, [], ◌∷◌}
use mathlib.Core.Bool.{Bool, true, ◌&&◌, cond}
use Prim.Native.Nat.{ℕ, zero, suc, ◌≤◌, ◌<◌}
use native.Mathlib.Nat.{le_of_suc-le-suc}
use native.Mathlib.Omega.{arith}
use lib.Dec.{eqb, leb}
use lib.ListN.{length, take}
use lib.Seq.{sets}
use borrow.Author.Tests.{leb-true}
use Rattle.std.specs.Prelude.{Some, option_map}
use Rattle.ascii.specs.Bytes.{bytes}
use Rattle.ascii.specs.Words.{starts_with, same_bytes}
use Rattle.ascii.proofs.TestLaws.{left_of, right_of}
use Rattle.tokens.specs.Items.{item_names, place_in, item_of}
use Rattle.token_values.specs.Words.{is_atom_site_item}
use Rattle.line_states.specs.declared.heads.Heads.{Heads}
use Rattle.line_states.specs.declared.heads.State.{State}
use Rattle.line_states.specs.declared.heads.State.TheVariants.{Base, Header, AtomLoop, OtherLoop}
use Rattle.line_states.specs.States.{item_in, moved_by_token}
use Rattle.line_states.proofs.TokenInCell.{filled}

same_front : (n : ℕ) (s word : List ℕ) → length word < n → same_bytes (take n s) word ≡ same_bytes s word
unfolding same_bytes
same_front zero s word h = absurd (omega arith)
same_front (suc n) [] word h = refl
same_front (suc n) (b ∷ s) [] h = refl
same_front (suc n) (b ∷ s) (c ∷ word) h = ap (λ (t : Bool). eqb b c && t) (same_front n s word (le_of_suc-le-suc h))

starts_front : (n : ℕ) (s word : List ℕ) → length word < n → starts_with (take n s) word ≡ starts_with s word
unfolding starts_with
starts_front zero s word h = absurd (omega arith)
starts_front (suc n) s [] h = refl
starts_front (suc n) [] (c ∷ word) h = refl
starts_front (suc n) (b ∷ s) (c ∷ word) h = ap (λ (t : Bool). eqb b c && t) (starts_front n s word (le_of_suc-le-suc h))

-- each name has at most n bytes
abbrev all_within : ℕ → List (List ℕ) → Bool
all_within n [] = true
all_within n (name ∷ names) = leb (length name) n && all_within n names

items_within : all_within 28 item_names ≡ true
unfolding item_names
items_within = refl

module _ (n : ℕ) (long : 28 < n) (token : List ℕ) where
  place_front : (names : List (List ℕ)) → all_within 28 names ≡ true → place_in names (take n token) ≡ place_in names token
  unfolding place_in
  place_front [] h = refl
  place_front (name ∷ names) h =
      let within : length name ≤ 28 = leb-true (length name) 28 (left_of (leb (length name) 28) (all_within 28 names) h) in
      λ i. cond (same_front n token name (omega arith) i) (Some 0) (option_map suc (place_front names (right_of (leb (length name) 28) (all_within 28 names) h) i))

  item : item_of (take n token) ≡ item_of token
  item = place_front item_names items_within

  atom_site : is_atom_site_item (take n token) ≡ is_atom_site_item token
  atom_site = starts_front n token (bytes "_atom_site.") (omega arith)

  module _ (heads : Heads) where
    item_in_lem : (state : State) → item_in state heads (take n token) ≡ item_in state heads token
    item_in_lem Base = refl
    item_in_lem Header = rw (item, atom_site)
    item_in_lem AtomLoop = refl
    item_in_lem OtherLoop = refl

    front_decides : moved_by_token heads (take n token) ≡ moved_by_token heads token
    unfolding moved_by_token
    front_decides =
        rw (same_front n token (bytes "loop_") (omega arith), starts_front n token (bytes "_cell.") (omega arith), starts_front n token (bytes "_") (omega arith), item_in_lem heads.state)

-- a cell that a long token fills
pub full_cell_decides :
    (heads : Heads) (token cell : List ℕ) {after : List ℕ} → after ≡ sets cell 0 token → 28 < length cell → length cell ≤ length token
    → moved_by_token heads after ≡ moved_by_token heads token
full_cell_decides heads token cell stored long h = ap (moved_by_token heads) (filled token cell stored h) ∙ front_decides (length cell) long token heads
