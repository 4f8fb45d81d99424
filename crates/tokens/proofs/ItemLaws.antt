-- The code's table is the fifteen names with blanks after them; trimmed, each is the name again, as one computation shows.
use mathlib.Core.Path.{◌≡◌, refl, ap, ◌∙◌}
use mathlib.Core.List.{List, [], ◌∷◌, ◌++◌, map}
use mathlib.Core.Bool.{Bool, true, false, cond, not}
use Prim.Native.Nat.{ℕ, suc, ◌+◌}
use native.Mathlib.Omega.{arith}
use lib.Dec.{ltb, leb-zero, leb-suc-suc}
use lib.ListN.{length, take, replicate}
use Rattle.std.specs.Prelude.{Option, Some, None, option_map}
use Rattle.std.specs.List.{position, position_or_len}
use Rattle.ascii.specs.Bytes.{byte}
use Rattle.ascii.specs.Words.{same_bytes}
use Rattle.tokens.specs.Trim.{trim_end}
use Rattle.tokens.specs.Items.{item_names, place_in}

-- ---- the table
-- a name with blanks after it, 28 bytes in all
abbrev pub row : List ℕ → List ℕ
row name = take 28 (name ++ replicate 28 (byte " "))

abbrev pub table : List (List ℕ)
table = map row item_names

pub table_names : map trim_end table ≡ item_names
unfolding item_names trim_end
table_names = refl

-- ---- the search
-- the place of the first row that passes is that of its name
pub place_among : (token : List ℕ) (name_of : List ℕ → List ℕ) (rows : List (List ℕ)) → position (λ r. same_bytes token (name_of r)) rows ≡ place_in (map name_of rows) token
unfolding place_in
place_among token name_of [] = refl
place_among token name_of (r ∷ rows) = go (same_bytes token (name_of r)) ∙ ap (λ (o : Option ℕ). cond (same_bytes token (name_of r)) (Some 0) (option_map suc o)) (place_among token name_of rows)
  where
    later : ℕ
    later = position_or_len (λ r. same_bytes token (name_of r)) rows

    moved : (t : Bool) → cond t (Some (suc later)) None ≡ option_map suc (cond t (Some later) None)
    moved true = refl
    moved false = refl

    go :
        (t : Bool) → cond (ltb (cond (not t) (1 + later) 0) (suc (length rows))) (Some (cond (not t) (1 + later) 0)) None
        ≡ cond t (Some 0) (option_map suc (cond (ltb later (length rows)) (Some later) None))
    go true = ap (λ (u : Bool). cond u (Some 0) None) (leb-suc-suc 0 (length rows) ∙ leb-zero (length rows))
    go false =
        let one : 1 + later ≡ suc later = omega arith in
        rw one (ap (λ (u : Bool). cond u (Some (suc later)) None) (leb-suc-suc (suc later) (length rows)) ∙ moved (ltb later (length rows)))
