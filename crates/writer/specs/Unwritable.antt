-- What no text can hold: a name with both quotes, or an insertion code that is blank, tab, quote, `.` or `?`.
use Rattle.std.specs.Prelude.{ℕ, suc, Bool, ◌&&◌, ◌||◌, cond, List, [], ◌∷◌, eqb, get_or, Option, None, Some}
use Rattle.ascii.specs.Bytes.{byte}
use Rattle.tokens.specs.Quote.{has}
use Rattle.names.specs.Packing.{unpacked}
use Rattle.model.specs.Keys.{chain_part, code_part}
use Rattle.model.specs.Records.{AtomRecord, Model}
use Rattle.writer.specs.Text.{residue_for}

unfoldable pub holds_both_quotes : ℕ → Bool
holds_both_quotes name = has (byte "'") (unpacked name) && has (byte "\"") (unpacked name)

unfoldable pub is_unwritable_code : ℕ → Bool
is_unwritable_code b =
    eqb b (byte " ") || eqb b (byte "\t") || eqb b (byte "'") || eqb b (byte "\"") || eqb b (byte ".") || eqb b (byte "?")

-- an atom, by its own name, its residue's and its chain's, and its insertion code
unfoldable pub is_unwritable : Model → AtomRecord → Bool
is_unwritable m a =
    holds_both_quotes a.name
    || holds_both_quotes (residue_for m.residues a.key).name
    || holds_both_quotes (get_or m.chains (chain_part a.key) 0)
    || is_unwritable_code (code_part a.key)

-- the id of the first such atom, where the first of them has this one
unfoldable pub first_unwritable : Model → ℕ → List AtomRecord → Option ℕ
first_unwritable m id [] = None
first_unwritable m id (a ∷ atoms) = cond (is_unwritable m a) (Some id) (first_unwritable m (suc id) atoms)

-- of a whole model
abbrev pub unwritable_in : Model → Option ℕ
unwritable_in m = first_unwritable m 1 m.atoms
