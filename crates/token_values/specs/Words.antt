-- What is asked of a token: whether it is a certain word, or begins with one.
use Rattle.std.specs.Prelude.{ℕ, Bool, ◌||◌, List}
use Rattle.ascii.specs.Bytes.{bytes}
use Rattle.ascii.specs.Letters.{eq_ignore_case}
use Rattle.ascii.specs.Words.{starts_with, same_bytes}

-- a value that is not given
abbrev pub is_missing : List ℕ → Bool
is_missing token = same_bytes token (bytes ".") || same_bytes token (bytes "?")

abbrev pub is_loop : List ℕ → Bool
is_loop token = same_bytes token (bytes "loop_")

-- the name of an item, of an item of the cell, of an item of the atom sites
abbrev pub is_item : List ℕ → Bool
is_item token = starts_with token (bytes "_")

abbrev pub is_cell_item : List ℕ → Bool
is_cell_item token = starts_with token (bytes "_cell.")

abbrev pub is_atom_site_item : List ℕ → Bool
is_atom_site_item token = starts_with token (bytes "_atom_site.")

-- HETATM in any case
abbrev pub is_hetatm : List ℕ → Bool
is_hetatm token = eq_ignore_case token (bytes "HETATM")
