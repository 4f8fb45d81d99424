-- The occupancy of a row that is kept is finite: it is the double nearest to a decimal, or 1.
use mathlib.Core.Path.{◌≡◌, sym, subst}
use mathlib.Core.Logic.{inl, inr}
use mathlib.Core.Bool.{Bool, true, false, cond}
use mathlib.Core.List.{List}
use Prim.Native.Nat.{ℕ}
use native.Mathlib.Omega.{arith}
use lib.Ieee.{Float, nan, inf, fin, Format, of_bits}
use Rattle.std.specs.Prelude.{Ok, None, Some}
use Rattle.numbers.specs.Nearest.{NearestTo}
use Rattle.numbers.specs.Reading.{number_of}
use Rattle.numbers.proofs.ValueIsNearest.{value_is_nearest}
use Rattle.tokens.specs.Tokens.{token_at}
use Rattle.token_values.specs.Words.{is_missing}
use Rattle.rows.specs.declared.columns.Columns.{Columns}
use Rattle.rows.specs.declared.rules.Site.{Site}
use Rattle.rows.specs.Columns.{is_absent}
use Rattle.rows.specs.Columns as columns
use Rattle.rows.specs.Fields.{Number, measure_of, occupancy_at, fields_of}
use Rattle.rows.specs.declared.settings.Settings.{Settings}
use Rattle.rows.specs.Rules.{one, row_of}
use Rattle.rows.proofs.RowCases.{IsOccupancy}
use Rattle.rows.proofs.RowsKept.{kept_only}
use Rattle.model.specs.Proper.{Finite}

-- ---- what is read is finite
nearest_finite : (f : Format) (s : Bool) (num den : ℕ) (x : Float) → NearestTo f s num den x → Finite x
nearest_finite f s num den nan n = n
nearest_finite f s num den (inf t) n = n
nearest_finite f s num den (fin t m e) n = tt

value_finite : (token : List ℕ) (x : Float) → number_of token ≡ Ok x → Finite x
value_finite token x e = nearest_finite _ _ _ _ x (value_is_nearest token x e).nearest

-- ---- a given occupancy is what a token says
not_given : {n : Number} {A : Type 0} → None ≡ Some n → A
not_given e = let z : ◌≡◌ {A = ℕ} 0 1 = cc in absurd (omega arith)

pub given_number : (token : List ℕ) (n : Number) → measure_of token ≡ Some n → number_of token ≡ n
given_number token n = go (is_missing token)
  where
    go : (t : Bool) → cond t None (Some (number_of token)) ≡ Some n → number_of token ≡ n
    go true e = not_given e
    go false e = cc

occupancy_number : (line : List ℕ) (column : ℕ) (n : Number) → occupancy_at line column ≡ Some n → number_of (token_at line column) ≡ n
unfolding occupancy_at
occupancy_number line column n = go (is_absent column)
  where
    go : (t : Bool) → cond t None (measure_of (token_at line column)) ≡ Some n → number_of (token_at line column) ≡ n
    go true e = not_given e
    go false e = given_number (token_at line column) n e

one_finite : Finite one
unfolding of_bits
one_finite = tt

-- ---- the theorem
pub occupancy_is_finite : (settings : Settings) (c : Columns) (line : List ℕ) (s : Site) → row_of settings (fields_of c line) ≡ Ok (Some s) → Finite s.occupancy
unfolding fields_of
occupancy_is_finite settings c line s e = finite s.occupancy (kept_only settings (fields_of c line) s e).read.occupancy
  where
    finite : (o : Float) → IsOccupancy (fields_of c line).occupancy o → Finite o
    finite o (inl h) = subst Finite (sym h) one_finite
    finite o (inr h) = value_finite (token_at line (columns.occupancy c)) o (occupancy_number line (columns.occupancy c) (Ok o) h)
