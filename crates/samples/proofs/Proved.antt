-- Document 01's samples to prove, as one table. Each holds by computing what the definitions say of it.
use mathlib.Core.Path.{◌≡◌, refl}
use mathlib.Core.List.{List, [], ◌∷◌, map}
use Prim.Native.Nat.{ℕ, ◌+◌, ◌^◌}
use Prim.Native.String.{String}
use Rattle.ascii.specs.Bytes.{bytes}
use Rattle.ascii.specs.Digits.{digit_run, all_digits, number_from}
use Rattle.ascii.specs.Signs.{is_sign, after_sign}
use Rattle.names.specs.declared.residues.StandardResidue.{StandardResidue}
use Rattle.names.specs.declared.residues.StandardResidue.TheVariants.{HIS, HOH}
use Rattle.std.specs.Prelude.{Some, None}
use Rattle.names.specs.Packing.{packed_in, packed}
use Rattle.names.specs.Table.{canonical, aliases, resolve_in, resolve_of}
use Rattle.tokens.specs.Quote.{has, all_plain, quote_of}
use Rattle.token_values.specs.Sequence.{sequence_of}
use Rattle.tokens.specs.Tokens.{scan, tokens_of}
use Rattle.tokens.specs.Trim.{trim_start, trim_end}

data Sample : Type 0 where
  -- a line gives these tokens
  line : String → List String → Sample
  -- a sequence text is this number, moved up by 2 ^ 31
  sequence : String → ℕ → Sample
  -- a residue name leads to this canonical name, of this standard residue
  residue : String → String → StandardResidue → Sample
  unresolved : String → Sample
  quoted : String → String → Sample

-- the number n, moved up
moved : ℕ → ℕ
moved n = 2 ^ 31 + n

table : List Sample
table =
    line "'' A" ("A" ∷ [])
    ∷ line "a'b c" ("a'b" ∷ "c" ∷ [])
    ∷ line "'a b'c" ("a bc" ∷ [])
    ∷ line "\"O5'\"" ("O5'" ∷ [])
    ∷ sequence "2147483647" (moved 2147483647)
    ∷ sequence "2147483648" (moved 1)
    ∷ sequence "-2147483648" 0
    ∷ sequence "-" (moved 1)
    ∷ residue "HIS" "HID" HIS
    ∷ residue "TIP3" "HOH" HOH
    ∷ unresolved "his"
    ∷ quoted "a\"b" "'a\"b'"
    ∷ []

holds : Sample → Type 0
holds (line l ts) = tokens_of (bytes l) ≡ map bytes ts
holds (sequence s n) = sequence_of (bytes s) ≡ n
holds (residue s t r) = resolve_of (packed (bytes s)) ≡ Some (record { name = packed (bytes t); residue = r })
holds (unresolved s) = resolve_of (packed (bytes s)) ≡ None
holds (quoted s t) = quote_of (bytes s) ≡ bytes t

All : List Sample → Type 0
All [] = Unit
All (s ∷ l) = holds s × All l

samples_hold : All table
unfolding table moved holds All tokens_of scan trim_start trim_end sequence_of all_digits after_sign is_sign digit_run number_from resolve_of resolve_in canonical aliases packed_in quote_of has all_plain
samples_hold = (refl, (refl, (refl, (refl, (refl, (refl, (refl, (refl, (refl, (refl, (refl, (refl, tt))))))))))))
